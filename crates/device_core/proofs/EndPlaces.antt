-- An end that was found by its number, and its context by the place of it.
use Rattle.std.proofs.Common.{arith, ◌≡◌, ◌∙◌, ◌<◌, ℕ, zero, suc, List, [], ◌∷◌, length, map, true, refl, sym, ap, subst, inl, inr}
use Rattle.std.specs.Prelude.{AllPairs, ◌≢◌, Option, Some, None, bytes_eq, option_map, position, slice_get, if◌then◌else◌}
use Rattle.std.specs.Borrow.{Bor}
use Rattle.std.specs.Map.{keys_of, lookup, set_value}
use Rattle.std.specs.Option.{option_copied}
use Rattle.std.proofs.lemmas.List.{length-map}
use Rattle.std.proofs.lemmas.Option.{slice_get_within}
use Rattle.indexmap.specs.IndexMap.{set_value_at}
use Rattle.rdma_types.specs.declared.names.Name.{Name}
use Rattle.rdma_types.specs.declared.names.ObjName.{ObjName}
use Rattle.rdma_types.proofs.Tables.{same_name}
use Rattle.page_pool.specs.Pool.{Pool}
use Rattle.protocol.specs.DeviceStep.{Found, found_in}
use Rattle.protocol.specs.Readers.{marks_by, marks_of}
use Rattle.protocol.specs.State.{Context, Device, context_at}
use Rattle.context_core.specs.Context.{Holding, context_in}
use Rattle.context_core.specs.Links.{IsConnectedAt}
use Rattle.context_core.proofs.NamedLookups.{name-found}
use Rattle.law_devices.proofs.Tables.{name_tells}
use Rattle.device_core.specs.declared.finding.EndPlace.{EndPlace}
use Rattle.device_core.specs.declared.finding.FoundEnd.{FoundEnd}
use Rattle.device_core.specs.declared.index.EndLocation.{EndLocation}
use Rattle.device_core.specs.Finding.{IsAt, IsEndOf, IsFound}
use Rattle.device_core.specs.Held.{IsHeld}
use Rattle.device_core.specs.Index.{IsEndAt}
use Rattle.device_core.specs.Parts.{contexts_in, held_in}
use Rattle.device_core.specs.Readings.{mark_pair}
use Rattle.device_core.proofs.Brought.{map-at}
use Rattle.device_core.proofs.FoundEnds.{end-of, same_place}
use Rattle.device_core.proofs.Laws as laws
use Rattle.device_core.proofs.Pairs.{pairs-tail}
use Rattle.device_core.proofs.Seen.{marks-nowhere}

-- ---- what was found

-- nothing, where no connected end has the number
pub not-found : {d d' : Device} {k : ℕ} {r : Option FoundEnd} → d ≡ d' → r ≡ None → found_in k d.contexts ≡ [] → IsFound d' k r
not-found {d} {d'} {k} {r} same none gone =
    subst (λ (x : Device). IsFound x k r) same
    (subst (λ (o : Option FoundEnd). IsFound d k o) (sym none) (record { marks = sym (marks-nowhere d k gone); place = tt }))

-- .. and then none has it
pub none-found : {d : Device} {k n : ℕ} {found : Option FoundEnd} → n ≡ k → IsFound d k found → found ≡ None → found_in n d.contexts ≡ []
unfolding marks_of
none-found {d} {k} {n} {found} same is none =
    subst (λ m. found_in m d.contexts ≡ []) (sym same)
    (by (found_in k d.contexts) (subst (λ (o : Option FoundEnd). IsFound d k o) none is).marks)
  where
    by : (fs : List Found) → None ≡ option_map mark_pair (marks_by fs) → fs ≡ []
    by [] h = refl
    by (f ∷ fs) h = absurd (cc)

-- the end that was found
pub one-found : {d d' : Device} {k n : ℕ} {found : Option FoundEnd} {f : FoundEnd} → d ≡ d' → n ≡ k → IsFound d' k found → found ≡ Some f → IsEndOf d f.context f.place n
one-found {d} {d'} {k} {n} {found} {f} same number is some =
    subst (λ (x : Device). IsEndOf x f.context f.place n) (sym same)
    (subst (λ m. IsEndOf d' f.context f.place m) (sym number) (subst (λ (o : Option FoundEnd). IsFound d' k o) some is).place)

-- ---- a context by its place

-- what is looked up with its place and its key, alone
pub alone : (r : Option (ℕ × Bor Name × Bor Holding)) → option_copied (option_map (λ p. p.2) r) ≡ option_map (λ p. p.2.now) r
alone None = refl
alone (Some p) = refl

key-there : (es : List (Name × Holding)) (i : ℕ) (s : Holding) → slice_get (map (λ e. e.1) es) i ≡ Some s → (n : Name) × (slice_get es i ≡ Some (n, s))
key-there [] i s h = absurd (cc)
key-there (e ∷ es) zero s h = let same : e.1 ≡ s = cc in (e.0, ap (λ (x : Holding). Some (e.0, x)) same)
key-there (e ∷ es) (suc i) s h = key-there es i s h

-- a context that stands at a place is found by its name, and stored under it there
by-name : (pool : Pool) (es : List (Name × Holding)) (i : ℕ) (n : Name) (s : Holding) → AllPairs (λ a b. a ≢ b) (map (λ c. c.name) (contexts_in pool es)) → slice_get es i ≡ Some (n, s)
    → (lookup (bytes_eq n) es ≡ Some s) × ((w : Holding) → set_value_at es i w ≡ set_value (bytes_eq n) es w)
by-name pool [] i n s apart h = absurd (cc)
by-name pool (e ∷ es) zero n s apart h =
    let same : e ≡ (n, s) = cc in
    let here : bytes_eq n e.0 ≡ true = ap (λ (x : Name × Holding). bytes_eq n x.0) same ∙ same_name n in (
      ap (λ b. if b then Some e.1 else lookup (bytes_eq n) es) here ∙ ap (λ (x : Name × Holding). Some x.1) same,
      λ w. sym (ap (λ b. if b then (e.0, w) ∷ es else e ∷ set_value (bytes_eq n) es w) here),
    )
by-name pool (e ∷ es) (suc i) n s apart h = elim (name_tells n e.0) [
  | inl t ↦
      let names : (held_in pool e).name ≡ (context_in pool n s).name = laws.name pool e.1 e.0 ∙ (sym t.1 ∙ sym (laws.name pool s n)) in
      let one : 0 ≡ suc i = same_place (λ (c : Context). c.name) (contexts_in pool (e ∷ es)) 0 (suc i) (held_in pool e) (context_in pool n s) apart refl (map-at (held_in pool) es i (n, s) h) names in
      absurd (omega (arith, one))
  | inr t ↦
      let later = by-name pool es i n s (pairs-tail (λ a b. a ≢ b) (held_in pool e).name (map (λ c. c.name) (contexts_in pool es)) apart) h in (
        ap (λ b. if b then Some e.1 else lookup (bytes_eq n) es) t.0 ∙ later.0,
        λ w. ap (λ ys. e ∷ ys) (later.1 w) ∙ sym (ap (λ b. if b then (e.0, w) ∷ es else e ∷ set_value (bytes_eq n) es w) t.0),
      )
]

-- the context at a place, by its name; and its end that has the number
pub record IsHere (es : List (Name × Holding)) (d : Device) (i place k : ℕ) (s : Holding) : Type 0 where
  pub name : Name
  pub found : lookup (bytes_eq name) es ≡ Some s
  pub stored : (w : Holding) → set_value_at es i w ≡ set_value (bytes_eq name) es w
  pub end : IsEndAt d name place k

module _ {pool : Pool} {es : List (Name × Holding)} {index : ℕ → Option EndLocation} {d : Device} (held : IsHeld pool es index d) (here : d.contexts ≡ contexts_in pool es) where
  pub within : {i place k : ℕ} → IsEndOf d i place k → i < length es
  within {i} e =
      let inside : i < length d.contexts = slice_get_within d.contexts i e.owner e.here in
      omega (arith, inside, ap (λ (cs : List Context). length cs) here, length-map es (held_in pool))

  pub is-here : {i place k : ℕ} → IsEndOf d i place k → {s : Holding} → slice_get (map (λ e. e.1) es) i ≡ Some s → IsHere es d i place k s
  is-here {i} {place} {k} e {s} value =
      let key = key-there es i s value in
      let by = by-name pool es i key.0 s (subst (λ (cs : List Context). AllPairs (λ a b. a ≢ b) (map (λ c. c.name) cs)) here held.names) key.1 in
      let at : slice_get d.contexts i ≡ Some (context_in pool key.0 s) = ap (λ (cs : List Context). slice_get cs i) here ∙ map-at (held_in pool) es i (key.0, s) key.1 in
      let owner : e.owner.name ≡ key.0 = the_name e.owner (context_in pool key.0 s) (sym e.here ∙ at) ∙ laws.name pool s key.0 in
      record {
        name = key.0;
        found = by.0;
        stored = by.1;
        end = subst (λ n. IsEndAt d n place k) owner (end-of d k i place e.owner e.end held.names e.here e.there e.same);
      }
    where
      the_name : (a b : Context) → Some a ≡ Some b → a.name ≡ b.name
      the_name a b h = let same : a ≡ b = cc in ap (λ (c : Context). c.name) same

  -- .. and the other way: the end at a place of a context that is found by its name
  pub by-place : {i place k : ℕ} {m n : Name} {s : Holding} → slice_get es i ≡ Some (m, s) → context_at d n ≡ context_in pool n s → IsEndAt d n place k → IsEndOf d i place k
  by-place {i} {place} {k} {m} {n} {s} at context e = record {
    owner = context_in pool m s;
    here = ap (λ (cs : List Context). slice_get cs i) here ∙ map-at (held_in pool) es i (m, s) at;
    end = e.end;
    there = ap (λ xs. slice_get xs place) (laws.ends pool s m n ∙ ap (λ (c : Context). c.ends) (sym context)) ∙ e.there;
    same = e.same;
  }

-- ---- a connected end by its name

-- the context at a place is the one that is named, and has the end
pub record IsNamedAt (pool : Pool) (es : List (Name × Holding)) (i place : ℕ) (n name : Name) (s : Holding) : Type 0 where
  pub found : lookup (bytes_eq n) es ≡ Some s
  pub stored : (w : Holding) → set_value_at es i w ≡ set_value (bytes_eq n) es w
  pub there : IsConnectedAt (context_in pool n s) name place

-- a connected end of a context is one of the context under any name
connected-same : (pool : Pool) (m n : Name) (s : Holding) (name : Name) (place : ℕ) → IsConnectedAt (context_in pool m s) name place → IsConnectedAt (context_in pool n s) name place
connected-same pool m n s name place is = record { end = is.end; there = ap (λ xs. slice_get xs place) (laws.ends pool s n m) ∙ is.there; named = is.named; linked = is.linked }

module _ {pool : Pool} {es : List (Name × Holding)} {index : ℕ → Option EndLocation} {d : Device} (held : IsHeld pool es index d) (here : d.contexts ≡ contexts_in pool es) where
  pub inside : {o : ObjName} {at : EndPlace} → IsAt d o at → at.context < length es
  inside {o} {at} e =
      let inner : at.context < length d.contexts = slice_get_within d.contexts at.context e.owner e.here in
      omega (arith, inner, ap (λ (cs : List Context). length cs) here, length-map es (held_in pool))

  pub named-at : {o : ObjName} {at : EndPlace} → IsAt d o at → {s : Holding} → slice_get (map (λ e. e.1) es) at.context ≡ Some s → IsNamedAt pool es at.context at.place o.context o.name s
  named-at {o} {at} e {s} value =
      let key = key-there es at.context s value in
      let by = by-name pool es at.context key.0 s (subst (λ (cs : List Context). AllPairs (λ a b. a ≢ b) (map (λ c. c.name) cs)) here held.names) key.1 in
      let there : slice_get d.contexts at.context ≡ Some (context_in pool key.0 s) = ap (λ (cs : List Context). slice_get cs at.context) here ∙ map-at (held_in pool) es at.context (key.0, s) key.1 in
      let both : Some e.owner ≡ Some (context_in pool key.0 s) = sym e.here ∙ there in
      let owner : e.owner ≡ context_in pool key.0 s = cc in
      let name : key.0 ≡ o.context = sym (laws.name pool s key.0) ∙ (ap (λ (c : Context). c.name) (sym owner) ∙ e.owned) in
      subst (λ n. IsNamedAt pool es at.context at.place n o.name s) name
      (record { found = by.0; stored = by.1; there = subst (λ (c : Context). IsConnectedAt c o.name at.place) owner e.there })

  -- .. and the other way: an end of a context that is found by its name
  pub at-name : (o : ObjName) {i : ℕ} {m : Name} {s : Holding} (place : ℕ) → position (bytes_eq o.context) (keys_of es) ≡ Some i → slice_get es i ≡ Some (m, s) → IsConnectedAt (context_in pool o.context s) o.name place → IsAt d o (record { context = i; place = place })
  at-name o {i} {m} {s} place found at there = record {
    owner = context_in pool m s;
    here = ap (λ (cs : List Context). slice_get cs i) here ∙ map-at (held_in pool) es i (m, s) at;
    owned = laws.name pool s m ∙ name-found o.context es i (m, s) found at;
    there = connected-same pool o.context m s o.name place there;
  }
