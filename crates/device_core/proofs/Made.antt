-- Things that are made with the next number or keys of a device.
use Rattle.std.proofs.Common.{arith, ◌≡◌, ◌≤◌, ◌+◌, ◌*◌, ◌/◌, ◌%◌, ℕ, List, [], ◌∷◌, true, false, Bool, refl, sym, ap, ◌∙◌, inl, inr, subst}
use Rattle.std.specs.Map.{lookup}
use Rattle.page_pool.specs.Pool.{Pool}
use Rattle.rdma_types.specs.declared.requests.Address.{Address}
use Rattle.std.specs.Prelude.{All, bytes_eq, ◌||◌, if◌then◌else◌, nat_le, nat_lt, Option, Some, None, is_none, IfSome, Result, Ok, Err, IfOk, OnOk, OnErr, is_ok}
use Rattle.std.proofs.lemmas.Bool.{or_right}
use Rattle.std.proofs.lemmas.Bool.Decides.{eqb_tells, nat_tests}
use Rattle.std.proofs.lemmas.List.Elements.{All-head, All-tail}
use Rattle.rdma_types.specs.declared.names.Name.{Name}
use Rattle.rdma_types.specs.declared.requests.Keys.{Keys}
use Rattle.rdma_types.specs.declared.rights.Rights.{Rights}
use Rattle.rdma_types.specs.declared.answers.Answer.TheVariants as answer
use Rattle.rdma_types.specs.declared.answers.Refusal.{Refusal}
use Rattle.rdma_types.specs.declared.answers.Refusal.TheVariants.{NoSuch, NumberTaken, TooMany, NoPage}
use Rattle.rdma_types.specs.Causes.{first_cause}
use Rattle.rdma_types.specs.Limits.{most_keys, most_regions}
use Rattle.rdma_types.specs.Lists.{has, has_word}
use Rattle.rdma_types.specs.Memory.{local_key}
use Rattle.rdma_types.specs.Objects.{Region}
use Rattle.protocol.specs.DeviceStep.{answers, counting_key, keys_of, makes_region, with_context}
use Rattle.protocol.specs.Memory.{free_pages, pages_of_length}
use Rattle.protocol.specs.Refusals.{has_region, lacks, region_causes}
use Rattle.protocol.specs.State.{Context, Device, no_context}
use Rattle.context_core.specs.Faults.{refusal_of}
use Rattle.context_core.specs.declared.ContextFault.{ContextFault}
use Rattle.context_core.specs.Context.{Holding, context_in}
use Rattle.law_devices.specs.Sound.{AreCounted, IsCounted}
use Rattle.law_devices.proofs.Tables.{All-named}
use Rattle.device_core.specs.declared.husks.HuskEntry.{HuskEntry}
use Rattle.device_core.specs.declared.index.EndLocation.{EndLocation}
use Rattle.device_core.specs.Held.{IsHeld}
use Rattle.device_core.specs.Parts.{contexts_in, device_of}
use Rattle.device_core.proofs.Contexts.{lookup-found, lookup-there}
use Rattle.device_core.proofs.Laws as laws
use Rattle.device_core.specs.Done.{plain, region_answer}

-- a refused call is not Ok
pub refused-not_ok : {T : Type 0} (r : Result T ContextFault) (w : Refusal) (P : T → Type 0) → refusal_of r ≡ Some w → IfOk r P
refused-not_ok (Ok x) w P h = absurd (cc)
refused-not_ok (Err f) w P h = tt

-- with no keys left a cause holds
no-keys : (d : Device) (c : Context) (n : Name) (domain : Option Name) (length' : ℕ) → nat_le most_keys d.key_count ≡ true → (w : Refusal) × (first_cause (region_causes d c n domain length') ≡ Some w)
unfolding first_cause
no-keys d c n domain length' all = by_domain (lacks (λ x. has_word x c.domains) domain) (has_region c n) (nat_le most_regions _ || nat_le most_keys d.key_count) (or_right _ _ all)
  where
    by_domain : (a b t : Bool) → t ≡ true → (w : Refusal) × ((if a then Some NoSuch else if b then Some NumberTaken else if t then Some TooMany else if nat_lt (free_pages d) (pages_of_length length') then Some NoPage else None) ≡ Some w)
    by_domain true b t e = (NoSuch, refl)
    by_domain false true t e = (NumberTaken, refl)
    by_domain false false true e = (TooMany, refl)
    by_domain false false false e = absurd (cc)

-- a region is made with the next keys
pub region-made : (d : Device) (c new : Context) (n : Name) (domain : Option Name) (base length' : ℕ) (rights : Rights) (keys : Option Keys) (r : Result (Unit {0}) ContextFault) (count : ℕ)
    → refusal_of r ≡ first_cause (region_causes d c n domain length') → is_none keys ≡ nat_le most_keys d.key_count → IfSome keys (λ k. k ≡ keys_of d) → count ≡ (if is_ok r then d.key_count + 1 else d.key_count)
    → (keys ≡ Some (keys_of d) → OnOk r (makes_region d c n domain base length' rights ≡ answers (with_context (counting_key d) new) (answer.Region (keys_of d))))
    → IfOk r (λ x. makes_region d c n domain base length' rights ≡ record { device = with_context (record d { key_count = count }) new; outcome = plain (region_answer keys) })
region-made d c new n domain base length' rights None r count refused all next counts made =
    let cause = no-keys d c n domain length' (sym all) in
    refused-not_ok r cause.0 _ (refused ∙ cause.1)
region-made d c new n domain base length' rights (Some k) r count refused all next counts made = by_result r counts (made (ap Some next))
  where
    by_result : (x : Result (Unit {0}) ContextFault) → count ≡ (if is_ok x then d.key_count + 1 else d.key_count) → OnOk x (makes_region d c n domain base length' rights ≡ answers (with_context (counting_key d) new) (answer.Region (keys_of d))) → IfOk x (λ y. makes_region d c n domain base length' rights ≡ record { device = with_context (record d { key_count = count }) new; outcome = plain (region_answer (Some k)) })
    by_result (Ok y) e h = h ∙ (λ i. record { device = with_context (record d { key_count = sym e i }) new; outcome = plain (answer.Region (sym next i)) })
    by_result (Err f) e h = tt

-- keys past the count are of no region
pub fresh-keys : (id count : ℕ) (rs : List Region) → count + 1 ≤ 8388607 → All (λ r. IsCounted id 8388608 count (r.keys.local / 2)) rs → has local_key (id * 16777216 + 2 * (count + 1)) rs ≡ false
unfolding has
fresh-keys id count [] few all = refl
fresh-keys id count (r ∷ rs) few all = elim (eqb_tells r.keys.local (id * 16777216 + 2 * (count + 1))) [
  | inr t ↦ ap (λ b. b || has local_key (id * 16777216 + 2 * (count + 1)) rs) t.0 ∙ fresh-keys id count rs few (All-tail (λ z. IsCounted id 8388608 count (z.keys.local / 2)) r rs all)
  | inl t ↦ absurd (past (r.keys.local / 2) (omega (arith, t.1)) (All-head (λ z. IsCounted id 8388608 count (z.keys.local / 2)) r rs all))
]
  where
    past : (k : ℕ) → k ≡ id * 8388608 + (count + 1) → (k / 8388608 ≡ id → k % 8388608 ≤ count) → ⊥
    past k e h =
        let quotient : k / 8388608 ≡ id = omega (arith, e, few) in
        omega (arith, e, few, h quotient, quotient)

pub counted-err : (r : Result (Unit {0}) ContextFault) (n count : ℕ) → count ≡ (if is_ok r then n + 1 else n) → OnErr r (count ≡ n)
counted-err (Ok x) n count h = tt
counted-err (Err f) n count h = h

-- the next keys are of no region of the device
pub own-keys : (id : ℕ) (address : Address) (qp key : ℕ) (pool : Pool) (es : List (Name × Holding)) (husks : List (Name × List HuskEntry)) (index : ℕ → Option EndLocation) (held : IsHeld pool es index (device_of id address qp key pool es husks))
    (n : Name) (s : Holding) (found : lookup (bytes_eq n) es ≡ Some s) (m : Name) (keys : Option Keys)
    → is_none keys ≡ nat_le most_keys key → IfSome keys (λ k. k ≡ keys_of (device_of id address qp key pool es husks))
    → IfSome keys (λ k. has local_key k.local (context_in pool m s).regions ≡ false)
own-keys id address qp key pool es husks index held n s found m None all next = tt
own-keys id address qp key pool es husks index held n s found m (Some k) all next =
    let there = lookup-there pool n es s found in
    let counted = All-named (AreCounted (device_of id address qp key pool es husks)) (λ c. c.name) no_context n (contexts_in pool es) held.sound.counted there in
    let here : AreCounted (device_of id address qp key pool es husks) (context_in pool n s) = subst (AreCounted (device_of id address qp key pool es husks)) (lookup-found pool n es s found) counted in
    let same : (context_in pool m s).regions ≡ (context_in pool n s).regions = laws.regions pool s m n in
    ap (λ l. has local_key l (context_in pool m s).regions) (ap (λ (z : Keys). z.local) next)
    ∙ (ap (has local_key (id * 16777216 + 2 * (key + 1))) same ∙ fresh-keys id key (context_in pool n s).regions (below all) here.regions)
  where
    below : false ≡ nat_le most_keys key → key + 1 ≤ 8388607
    below h = grind (arith, nat_tests, h)
