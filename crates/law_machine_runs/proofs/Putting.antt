-- Each byte of a message is put in place once.
use Rattle.std.proofs.Common.{arith, ◌≡◌, ◌≢◌, ◌+◌, ◌<◌, ◌≤◌, ℕ, suc, List, [], ◌∷◌, ◌++◌, length, true, false, Bool, refl, sym, ap, ◌∙◌, subst, inl, inr}
use Rattle.std.specs.Prelude.{if◌then◌else◌, ◌==◌, ◌&&◌, not, nat_le, nat_lt}
use Rattle.std.proofs.lemmas.Bool.Decides.{nat_tests, eqb_tells}
use Rattle.std.proofs.lemmas.List.{length-append, get_or_append_left}
use Rattle.rdma_types.specs.declared.names.Name.{Name}
use Rattle.rdma_types.specs.declared.names.ObjName.{ObjName}
use Rattle.rdma_types.specs.Kinds.{is_atomic, is_read, kind_of, lands, size_of}
use Rattle.rdma_types.specs.Lists.{has_name, named, same_object}
use Rattle.rdma_types.specs.Objects.{Posted, no_posted}
use Rattle.rdma_types.specs.declared.requests.Kind.{Kind}
use Rattle.rdma_types.specs.declared.requests.Kind.TheVariants as kinds
use Rattle.packetless_machine.specs.declared.reply.Reply.{Reply}
use Rattle.packetless_machine.specs.declared.reply.Reply.TheVariants.{Finished, OldValue}
use Rattle.packetless_machine.specs.declared.steps.MachineStep.{MachineStep}
use Rattle.packetless_machine.specs.declared.steps.MachineStep.TheVariants as steps
use Rattle.packetless_machine.specs.Machine.{Machine, Context, End, empty, no_context, nobody, context_of, end_of, has_context, has_end, in_end, posted_at, with_end}
use Rattle.packetless_machine.specs.Steps as ideal
use Rattle.packetless_machine.specs.Steps.{acted_with, advanced, current, fills, has_current, has_peer, has_turn, in_place, may_atom, may_read, may_run, run, atom, read_turn}
use Rattle.packetless_machine.specs.Verbs.{refusal_of}
use Rattle.packetless_machine.specs.Legal.{IsRun, after, effect, is_enabled}
use Rattle.law_simulation.proofs.relation.Linked.{machine_here}
use Rattle.law_simulation.proofs.relation.Tables.{name_tells, name-named_there, named-absent, same_name}
use Rattle.law_simulation.proofs.runs.Acting.{end_other, object_or_not}
use Rattle.law_simulation.proofs.runs.Adding.{eq}
use Rattle.law_machine_runs.specs.Put.{IsMessage, PutOnce, has_byte, puts, times_put}
use Rattle.law_machine_runs.proofs.Growing.{Grows, same, on, run_grown, atom_grown, refuse_grown, dry_grown, offer_grown, land_grown, know_grown, tell_grown, expire_grown, wait_grown, bounce_grown, verb_grown}

-- ---- numbers

abbrev one_if : Bool → ℕ
one_if b = if b then 1 else 0

zero_plus : (n : ℕ) → 0 + n ≡ n
zero_plus n = omega arith

chain : (p t a b c : ℕ) → p + a ≡ b → t + b ≡ c → (p + t) + a ≡ c
chain p t a b c h k = omega (arith, h, k)

drop_zero : (t a c : ℕ) → t + a ≡ c → a ≡ 0 → t ≡ c
drop_zero t a c h k = omega (arith, h, k)

-- the bytes of request i after a Run that makes the message whole
whole_numbers : (acted into n i b s : ℕ) → (i ≡ acted → s ≡ into + n) →
    (if acted == i && (nat_le into b && nat_lt b (into + n)) then 1 else 0) + (if nat_lt b (if nat_lt i acted then s else if i == acted then into else 0) then 1 else 0)
    ≡ (if nat_lt b (if nat_lt i (suc acted) then s else if i == suc acted then 0 else 0) then 1 else 0)
whole_numbers acted into n i b s h = grind (arith, nat_tests, eqb_tells acted i, eqb_tells i acted, eqb_tells i (suc acted), h)

-- .. and after one that does not
part_numbers : (acted into n i b s : ℕ) →
    (if acted == i && (nat_le into b && nat_lt b (into + n)) then 1 else 0) + (if nat_lt b (if nat_lt i acted then s else if i == acted then into else 0) then 1 else 0)
    ≡ (if nat_lt b (if nat_lt i acted then s else if i == acted then into + n else 0) then 1 else 0)
part_numbers acted into n i b s = grind (arith, nat_tests, eqb_tells acted i, eqb_tells i acted)

-- .. and after the turn of another request
turn_numbers : (acted into i b s : ℕ) → i ≢ acted →
    one_if (nat_lt b (if nat_lt i acted then s else if i == acted then into else 0)) ≡ one_if (nat_lt b (if nat_lt i (suc acted) then s else if i == suc acted then 0 else 0))
turn_numbers acted into i b s far = grind (arith, nat_tests, eqb_tells i acted, eqb_tells i (suc acted), far)

-- ---- one end

-- no more acted than were posted
abbrev IsFew : End → Type 0
IsFew e = e.acted ≤ length e.posted

-- the byte is in place
abbrev there : End → ℕ → ℕ → ℕ
there e i b = one_if (nat_lt b (in_place e i))

posted_same : (ps more : List Posted) (i : ℕ) → i < length ps → posted_at (ps ++ more) i ≡ posted_at ps i
posted_same ps more i h = get_or_append_left ps more no_posted i h

place_same : (a b : End) (i : ℕ) → Grows a b → IsFew a → in_place b i ≡ in_place a i
unfolding in_place
place_same a b i g few = by (nat_lt i a.acted) refl
  where
    by : (t : Bool) → nat_lt i a.acted ≡ t → (if nat_lt i b.acted then size_of (posted_at b.posted i) else if i == b.acted then b.into else 0) ≡ (if nat_lt i a.acted then size_of (posted_at a.posted i) else if i == a.acted then a.into else 0)
    by true t = let less : i < length a.posted = grind (arith, nat_tests, t, few) in rw (g.acted, g.posted, t) (ap size_of (posted_same a.posted g.more i less))
    by false t = rw (g.acted, g.into, t) refl

-- a request is no message, where it is posted
abbrev MayBeMessage : End → ℕ → Type 0
MayBeMessage e i = i < length e.posted → lands (kind_of (posted_at e.posted i)) ≡ false

-- what a step that puts or does not put the byte does to an end
record Goes (put : Bool) (i b : ℕ) (e e' : End) : Type 0 where
  few : IsFew e'
  longer : length e.posted ≤ length e'.posted
  stays : i < length e.posted → posted_at e'.posted i ≡ posted_at e.posted i
  counted : MayBeMessage e i → (if put then 1 else 0) + there e i b ≡ there e' i b

grows_goes : (i b : ℕ) (e e' : End) → IsFew e → Grows e e' → Goes false i b e e'
grows_goes i b e e' few g = record {
  few = rw (g.acted, g.posted, length-append e.posted g.more) (omega (arith, few));
  longer = rw (g.posted, length-append e.posted g.more) (omega arith);
  stays = λ less. ap (λ ps. posted_at ps i) g.posted ∙ posted_same e.posted g.more i less;
  counted = λ may. zero_plus (there e i b) ∙ ap (λ (n : ℕ). one_if (nat_lt b n)) (sym (place_same e e' i g few));
}

-- one step of an end, and then more is posted
goes_on : (put : Bool) (i b : ℕ) (a x c : End) → Goes put i b a x → Grows x c → Goes put i b a c
goes_on put i b a x c h g =
    let k : Goes false i b x c = grows_goes i b x c h.few g in
    record {
      few = k.few;
      longer = omega (arith, h.longer, k.longer);
      stays = λ less. k.stays (omega (arith, less, h.longer)) ∙ h.stays less;
      counted = λ may. h.counted may ∙ ap (λ (n : ℕ). one_if (nat_lt b n)) (sym (place_same x c i g h.few));
    }

advanced_goes : (i b n : ℕ) (e : End) → e.acted < length e.posted → Goes (has_byte e n i b) i b e (advanced e n)
unfolding advanced acted_with in_place
advanced_goes i b n e less = by (fills e n) refl
  where
    whole : (t : Bool) → fills e n ≡ t → i ≡ e.acted → t ≡ true → size_of (posted_at e.posted i) ≡ e.into + n
    whole true t is h = ap (λ k. size_of (posted_at e.posted k)) is ∙ sym (eq (e.into + n) (size_of (current e)) t)
    whole false t is h = absurd (cc)

    by : (t : Bool) → fills e n ≡ t → Goes (has_byte e n i b) i b e (if t then acted_with e Finished else record e { into = e.into + n })
    by true t = record { few = omega (arith, less); longer = omega arith; stays = λ h. refl; counted = λ may. whole_numbers e.acted e.into n i b (size_of (posted_at e.posted i)) (λ is. whole true t is refl) }
    by false t = record { few = omega (arith, less); longer = omega arith; stays = λ h. refl; counted = λ may. part_numbers e.acted e.into n i b (size_of (posted_at e.posted i)) }

turn_goes : (i b : ℕ) (e : End) (reply : Reply) → e.acted < length e.posted → lands (kind_of (current e)) ≡ true → Goes false i b e (acted_with e reply)
unfolding acted_with in_place
turn_goes i b e reply less landing = record {
  few = omega (arith, less);
  longer = omega arith;
  stays = λ h. refl;
  counted = λ may. zero_plus _ ∙ turn_numbers e.acted e.into i b (size_of (posted_at e.posted i)) (other may);
}
  where
    other : MayBeMessage e i → i ≢ e.acted
    other may is =
        let less' : i < length e.posted = omega (arith, less, is) in
        let none : lands (kind_of (posted_at e.posted e.acted)) ≡ false = subst (λ k. lands (kind_of (posted_at e.posted k)) ≡ false) is (may less') in
        absurd (cc (none, landing))

-- ---- the machine

both_true : (a b : Bool) → (a && b) ≡ true → (a ≡ true) × (b ≡ true)
both_true true b h = (refl, h)
both_true false b h = absurd (cc)

-- an end that is connected is there
end_there : (m : Machine) (o : ObjName) → (end_of m o).connected ≡ true → has_name (λ z. z.name) o.name (context_of m o.context).ends ≡ true
unfolding end_of
end_there m o h = by (has_name (λ z. z.name) o.name (context_of m o.context).ends) refl
  where
    by : (b : Bool) → has_name (λ z. z.name) o.name (context_of m o.context).ends ≡ b → b ≡ true
    by true e = refl
    by false e = absurd (cc (h, ap (λ (x : End). x.connected) (named-absent (λ z. z.name) (nobody o) o.name (context_of m o.context).ends e)))

none_there : (n : Name) → has_name (λ (z : End). z.name) n [] ≡ true → ⊥
unfolding has_name
none_there n g = absurd (cc)

-- .. and so is its context
context_there : (m : Machine) (c n : Name) → has_name (λ z. z.name) n (context_of m c).ends ≡ true → has_context m c ≡ true
unfolding has_context context_of
context_there m c n h = by (has_name (λ x. x.name) c m.contexts) refl
  where
    by : (b : Bool) → has_name (λ x. x.name) c m.contexts ≡ b → b ≡ true
    by true e = refl
    by false e = absurd (none_there n (subst (λ (x : Context). has_name (λ z. z.name) n x.ends ≡ true) (named-absent (λ x. x.name) (no_context c) c m.contexts e) h))

name_there : (m : Machine) (o : ObjName) → (end_of m o).connected ≡ true → (end_of m o).name ≡ o.name
unfolding end_of
name_there m o h = name-named_there (λ z. z.name) (nobody o) o.name (context_of m o.context).ends (end_there m o h)

-- an end that is connected changes
end_here : (m : Machine) (o : ObjName) (e : End) → (end_of m o).connected ≡ true → e.name ≡ (end_of m o).name → end_of (with_end m o e) o ≡ e
end_here m o e connected named =
    let there' = end_there m o connected in
    machine_here m o e (context_there m o.context o.name there') there' (named ∙ name_there m o connected)

advanced_name : (e : End) (k : ℕ) → (advanced e k).name ≡ e.name
unfolding advanced acted_with
advanced_name e k = by (fills e k)
  where
    by : (t : Bool) → (if t then acted_with e Finished else record e { into = e.into + k }).name ≡ e.name
    by true = refl
    by false = refl

acted_name : (e : End) (reply : Reply) → (acted_with e reply).name ≡ e.name
unfolding acted_with
acted_name e reply = refl

-- what is true of an end with a current request
record HasCurrent (m : Machine) (o : ObjName) : Type 0 where
  connected : (end_of m o).connected ≡ true
  less : (end_of m o).acted < length (end_of m o).posted

has_it : (m : Machine) (o : ObjName) → has_current m o ≡ true → HasCurrent m o
unfolding has_current has_peer has_turn
has_it m o h =
    let e : End = end_of m o in
    let x : End = end_of m e.peer in
    let open_turn : Bool = not ((current e).request.fence && ideal.lands_before e) in
    let first = both_true (e.connected && has_end m e.peer) (not x.ended && (nat_lt e.acted (length e.posted) && open_turn)) h in
    let turn = both_true (not x.ended) (nat_lt e.acted (length e.posted) && open_turn) first.1 in
    let less = (both_true (nat_lt e.acted (length e.posted)) open_turn turn.1).0 in
    record { connected = (both_true e.connected (has_end m e.peer) first.0).0; less = grind (arith, nat_tests, less) }

other_object : (a b : ObjName) → b ≢ a → same_object a b ≡ false
other_object a b far = elim (name_tells a.context b.context) [
  | inl c ↦ elim (name_tells a.name b.name) [
    | inl n ↦ absurd (far (λ i. record { context = sym c.1 i; name = sym n.1 i }))
    | inr n ↦ rw (c.0, n.0) refl
  ]
  | inr c ↦ rw c.0 refl
]

this_object : (a : ObjName) → same_object a a ≡ true
this_object a = rw (same_name a.context, same_name a.name) refl

module _ (q : ObjName) (i b : ℕ) where
  abbrev GoesAt : Machine → MachineStep → Type 0
  GoesAt m s = Goes (puts q i b m s) i b (end_of m q) (end_of (effect m s) q)

  run_goes : (m : Machine) (o : ObjName) (n : ℕ) → IsFew (end_of m q) → may_run m o n ≡ true → GoesAt m (steps.Run o n)
  unfolding may_run
  run_goes m o n few enabled = elim (object_or_not q o) [
    | inl is ↦ subst (λ x. Goes (same_object o x && has_byte (end_of m x) n i b) i b (end_of m x) (end_of (run m o n) x)) (sym is) here
    | inr far ↦
        let name : (advanced (end_of m o) n).name ≡ (end_of m o).name = advanced_name (end_of m o) n in
        let first : Grows (end_of m q) (end_of (in_end m o (λ y. advanced y n)) q) = subst (Grows (end_of m q)) (sym (end_other m o (advanced (end_of m o) n) q name far)) (same (end_of m q)) in
        let whole : Grows (end_of m q) (end_of (run m o n) q) = on (end_of m q) (end_of (in_end m o (λ y. advanced y n)) q) (end_of (run m o n) q) (run_grown m o n q) first in
        subst (λ t. Goes (t && has_byte (end_of m q) n i b) i b (end_of m q) (end_of (run m o n) q)) (sym (other_object o q far)) (grows_goes i b (end_of m q) (end_of (run m o n) q) few whole)
  ]
    where
      here : Goes (same_object o o && has_byte (end_of m o) n i b) i b (end_of m o) (end_of (run m o n) o)
      here =
          let c : HasCurrent m o = has_it m o (both_true (has_current m o) _ enabled).0 in
          let is : end_of (in_end m o (λ y. advanced y n)) o ≡ advanced (end_of m o) n = end_here m o (advanced (end_of m o) n) c.connected (advanced_name (end_of m o) n) in
          subst (λ t. Goes (t && has_byte (end_of m o) n i b) i b (end_of m o) (end_of (run m o n) o)) (sym (this_object o))
          (goes_on (has_byte (end_of m o) n i b) i b (end_of m o) (advanced (end_of m o) n) (end_of (run m o n) o) (advanced_goes i b n (end_of m o) c.less)
          (subst (λ x. Grows x (end_of (run m o n) o)) is (run_grown m o n o)))

  -- a turn of a Read or an atomic
  turn_at : (m m' : Machine) (o : ObjName) (reply : Reply) → IsFew (end_of m q) → has_current m o ≡ true → lands (kind_of (current (end_of m o))) ≡ true →
      ((x : ObjName) → Grows (end_of (in_end m o (λ e. acted_with e reply)) x) (end_of m' x)) → Goes false i b (end_of m q) (end_of m' q)
  turn_at m m' o reply few enabled landing rest = elim (object_or_not q o) [
    | inl is ↦ subst (λ x. Goes false i b (end_of m x) (end_of m' x)) (sym is) here
    | inr far ↦
        let first : Grows (end_of m q) (end_of (in_end m o (λ e. acted_with e reply)) q) = subst (Grows (end_of m q)) (sym (end_other m o (acted_with (end_of m o) reply) q (acted_name (end_of m o) reply) far)) (same (end_of m q)) in
        grows_goes i b (end_of m q) (end_of m' q) few (on (end_of m q) (end_of (in_end m o (λ e. acted_with e reply)) q) (end_of m' q) (rest q) first)
  ]
    where
      here : Goes false i b (end_of m o) (end_of m' o)
      here =
          let c : HasCurrent m o = has_it m o enabled in
          let is : end_of (in_end m o (λ e. acted_with e reply)) o ≡ acted_with (end_of m o) reply = end_here m o (acted_with (end_of m o) reply) c.connected (acted_name (end_of m o) reply) in
          goes_on false i b (end_of m o) (acted_with (end_of m o) reply) (end_of m' o) (turn_goes i b (end_of m o) reply c.less landing)
          (subst (λ x. Grows x (end_of m' o)) is (rest o))

  atomics_land : (k : Kind) → is_atomic k ≡ true → lands k ≡ true
  atomics_land kinds.Write h = absurd (cc)
  atomics_land kinds.Send h = absurd (cc)
  atomics_land kinds.Read h = refl
  atomics_land kinds.CompareSwap h = refl
  atomics_land kinds.FetchAdd h = refl

  reads_land : (k : Kind) → is_read k ≡ true → lands k ≡ true
  reads_land kinds.Write h = absurd (cc)
  reads_land kinds.Send h = absurd (cc)
  reads_land kinds.Read h = refl
  reads_land kinds.CompareSwap h = refl
  reads_land kinds.FetchAdd h = refl

  atom_goes : (m : Machine) (o : ObjName) → IsFew (end_of m q) → may_atom m o ≡ true → GoesAt m (steps.Atom o)
  unfolding may_atom
  atom_goes m o few enabled =
      let first = both_true (has_current m o) _ enabled in
      turn_at m (atom m o) o (OldValue (ideal.word_there (current (end_of m o)) (ideal.peer_regions m o))) few first.0
      (atomics_land (kind_of (current (end_of m o))) (both_true (is_atomic (kind_of (current (end_of m o)))) _ first.1).0) (atom_grown m o)

  read_goes : (m : Machine) (o : ObjName) → IsFew (end_of m q) → may_read m o ≡ true → GoesAt m (steps.ReadTurn o)
  unfolding may_read read_turn
  read_goes m o few enabled =
      let first = both_true (has_current m o) _ enabled in
      turn_at m (read_turn m o) o Finished few first.0
      (reads_land (kind_of (current (end_of m o))) (both_true (is_read (kind_of (current (end_of m o)))) _ first.1).0) (λ x. same (end_of (in_end m o (λ e. acted_with e Finished)) x))

  step_goes : (m : Machine) (s : MachineStep) → IsFew (end_of m q) → is_enabled m s ≡ true → GoesAt m s
  step_goes m (steps.Verb v given) few h = grows_goes i b _ _ few (verb_grown m v given (refusal_of m v) q)
  step_goes m (steps.Run o n) few h = run_goes m o n few h
  step_goes m (steps.Atom o) few h = atom_goes m o few h
  step_goes m (steps.ReadTurn o) few h = read_goes m o few h
  step_goes m (steps.Refuse o why) few h = grows_goes i b _ _ few (refuse_grown m o why q)
  step_goes m (steps.Dry o) few h = grows_goes i b _ _ few (dry_grown m o q)
  step_goes m (steps.Offer o j off n) few h = grows_goes i b _ _ few (offer_grown m o j off n q)
  step_goes m (steps.Land o j) few h = grows_goes i b _ _ few (land_grown m o j q)
  step_goes m (steps.Known o bytes) few h = grows_goes i b _ _ few (know_grown m o bytes q)
  step_goes m (steps.Tell o) few h = grows_goes i b _ _ few (tell_grown m o q)
  step_goes m (steps.Expire o) few h = grows_goes i b _ _ few (expire_grown m o q)
  step_goes m (steps.Wait o) few h = grows_goes i b _ _ few (wait_grown m o q)
  step_goes m (steps.Bounce o) few h = grows_goes i b _ _ few (bounce_grown m o q)

  -- ---- a run

  -- what was posted stays
  record Stays (e e' : End) : Type 0 where
    longer : length e.posted ≤ length e'.posted
    stays : i < length e.posted → posted_at e'.posted i ≡ posted_at e.posted i

  run_stays : (m : Machine) (ss : List MachineStep) → IsRun m ss → IsFew (end_of m q) → Stays (end_of m q) (end_of (after m ss) q)
  run_stays m [] run few = record { longer = omega arith; stays = λ h. refl }
  run_stays m (s ∷ ss) run few =
      let g : GoesAt m s = step_goes m s few run.0 in
      let k : Stays (end_of (effect m s) q) (end_of (after (effect m s) ss) q) = run_stays (effect m s) ss run.1 g.few in
      record { longer = omega (arith, g.longer, k.longer); stays = λ h. k.stays (omega (arith, h, g.longer)) ∙ g.stays h }

  was_message : (m : Machine) (ss : List MachineStep) → IsRun m ss → IsFew (end_of m q) → IsMessage (end_of (after m ss) q) i → MayBeMessage (end_of m q) i
  was_message m ss run few is less = subst (λ p. lands (kind_of p) ≡ false) ((run_stays m ss run few).stays less) is.kind

  run_counted : (m : Machine) (ss : List MachineStep) → IsRun m ss → IsFew (end_of m q) → IsMessage (end_of (after m ss) q) i →
      times_put q i b m ss + there (end_of m q) i b ≡ there (end_of (after m ss) q) i b
  run_counted m [] run few is = zero_plus _
  run_counted m (s ∷ ss) run few is =
      let g : GoesAt m s = step_goes m s few run.0 in
      let one = g.counted (was_message m (s ∷ ss) run few is) in
      let rest = run_counted (effect m s) ss run.1 g.few is in
      chain _ _ _ _ _ one rest

nothing_there : (q : ObjName) (i b : ℕ) → there (end_of empty q) i b ≡ 0
unfolding end_of context_of named in_place
nothing_there q i b = by (nat_lt i 0) (i == 0)
  where
    none : nat_lt b 0 ≡ false
    none = grind (arith, nat_tests)

    by : (s t : Bool) → one_if (nat_lt b (if s then 0 else if t then 0 else 0)) ≡ 0
    by true t = rw none refl
    by false true = rw none refl
    by false false = rw none refl

none_acted : (q : ObjName) → IsFew (end_of empty q)
unfolding end_of context_of named
none_acted q = omega arith

pub put_once : PutOnce
put_once ss q i b run is =
    let all = run_counted q i b empty ss run (none_acted q) is in
    let none = nothing_there q i b in
    drop_zero _ _ _ all none
