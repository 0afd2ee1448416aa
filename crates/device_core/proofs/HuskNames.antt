-- Husks by their names.
use Rattle.std.proofs.Common.{arith, ◌≡◌, ◌<◌, ℕ, zero, suc, List, [], ◌∷◌, map, length, subst, true, false, Bool, refl, sym, ap, ◌∙◌}
use Rattle.std.specs.Prelude.{bytes_eq, ◌||◌, if◌then◌else◌, Option, Some, None, is_some, All, slice_get}
use Rattle.std.proofs.lemmas.Bool.{true≢false}
use Rattle.std.proofs.lemmas.List.Elements.{All-head, All-tail}
use Rattle.std.specs.Map.{lookup}
use Rattle.rdma_types.specs.declared.names.Name.{Name}
use Rattle.rdma_types.specs.Lists.{has_name, named}
use Rattle.protocol.specs.State as state
use Rattle.protocol.specs.State.{no_husk}
use Rattle.std.proofs.Common.{get_or, ◌^◌}
use Rattle.std.proofs.lemmas.Option.{get_or_from_slice_get}
use Rattle.law_devices.proofs.Regions.{All-at}
use Rattle.law_devices.proofs.Tables.{name_tells}
use Rattle.device_core.specs.Held.{IsLeft}
use Rattle.device_core.specs.declared.husks.HuskEntry.{HuskEntry}
use Rattle.device_core.specs.Parts.{entry_of, husk_in}

pub bytes_eq_sym : (a b : List ℕ) → bytes_eq a b ≡ bytes_eq b a
bytes_eq_sym a b = grind (arith, name_tells a b, name_tells b a)

-- a husk is found by its name in both
pub husk-there : (n : Name) (hs : List (Name × List HuskEntry)) → is_some (lookup (bytes_eq n) hs) ≡ has_name (λ h. h.name) n (map husk_in hs)
unfolding has_name
husk-there n [] = refl
husk-there n (h ∷ hs) = by_test (bytes_eq n h.0) (bytes_eq_sym h.0 n) (husk-there n hs)
  where
    by_test : (b : Bool) → bytes_eq h.0 n ≡ b → is_some (lookup (bytes_eq n) hs) ≡ has_name (λ x. x.name) n (map husk_in hs) → is_some (if b then Some h.1 else lookup (bytes_eq n) hs) ≡ (bytes_eq h.0 n || has_name (λ x. x.name) n (map husk_in hs))
    by_test true e later = ap (λ b. b || has_name (λ x. x.name) n (map husk_in hs)) (sym e)
    by_test false e later = later ∙ ap (λ b. b || has_name (λ x. x.name) n (map husk_in hs)) (sym e)

-- the husk that is found
pub husk-found : (n : Name) (hs : List (Name × List HuskEntry)) (es : List HuskEntry) → lookup (bytes_eq n) hs ≡ Some es → (named (λ h. h.name) no_husk n (map husk_in hs)).entries ≡ map entry_of es
unfolding named
husk-found n [] es h = absurd (cc)
husk-found n (x ∷ hs) es h = by_test (bytes_eq n x.0) (bytes_eq_sym x.0 n) h (husk-found n hs es)
  where
    by_test : (b : Bool) → bytes_eq x.0 n ≡ b → (if b then Some x.1 else lookup (bytes_eq n) hs) ≡ Some es → (lookup (bytes_eq n) hs ≡ Some es → (named (λ h. h.name) no_husk n (map husk_in hs)).entries ≡ map entry_of es) → (named (λ h. h.name) no_husk n (husk_in x ∷ map husk_in hs)).entries ≡ map entry_of es
    by_test true e g later = let same : x.1 ≡ es = cc in ap (λ b. (if b then husk_in x else named (λ h. h.name) no_husk n (map husk_in hs)).entries) e ∙ ap (map entry_of) same
    by_test false e g later = ap (λ b. (if b then husk_in x else named (λ h. h.name) no_husk n (map husk_in hs)).entries) e ∙ later g

-- the entry at a place
pub entry_there : (es : List HuskEntry) (i : ℕ) (e : state.HuskEntry) → slice_get (map entry_of es) i ≡ Some e → (h : HuskEntry) × (slice_get es i ≡ Some h) × (entry_of h ≡ e) × (i < length es)
entry_there [] i e h = absurd (cc)
entry_there (x ∷ es) zero e h = (x, refl, cc, omega arith)
entry_there (x ∷ es) (suc i) e h = let later = entry_there es i e h in (later.0, later.1, later.2, omega (arith, later.3))

pub entry_is : (es : List HuskEntry) (i : ℕ) (h : HuskEntry) → slice_get es i ≡ Some h → slice_get (map entry_of es) i ≡ Some (entry_of h)
entry_is [] i h g = absurd (cc)
entry_is (x ∷ es) zero h g = let same : x ≡ h = cc in ap (λ z. Some (entry_of z)) same
entry_is (x ∷ es) (suc i) h g = entry_is es i h g

-- where a husk has the name it is found
pub husk-some : (n : Name) (hs : List (Name × List HuskEntry)) → has_name (λ h. h.name) n (map husk_in hs) ≡ true → (es : List HuskEntry) × (lookup (bytes_eq n) hs ≡ Some es)
husk-some n hs h = by_found (lookup (bytes_eq n) hs) refl (husk-there n hs ∙ h)
  where
    by_found : (o : Option (List HuskEntry)) → lookup (bytes_eq n) hs ≡ o → is_some (lookup (bytes_eq n) hs) ≡ true → (es : List HuskEntry) × (lookup (bytes_eq n) hs ≡ Some es)
    by_found (Some es) e g = (es, e)
    by_found None e g = absurd (true≢false (sym g ∙ ap is_some e))

-- what holds of each entry holds of the one at a place
pub entry_holds : (P : state.HuskEntry → Type 0) (n : Name) (hs : List (Name × List HuskEntry)) (es : List HuskEntry) → All (λ h. All P h.entries) (map husk_in hs) → lookup (bytes_eq n) hs ≡ Some es → All P (map entry_of es)
entry_holds P n [] es all h = absurd (cc)
entry_holds P n (x ∷ hs) es all h = by_test (bytes_eq n x.0) h (entry_holds P n hs es (All-tail (λ h. All P h.entries) (husk_in x) (map husk_in hs) all))
  where
    by_test : (b : Bool) → (if b then Some x.1 else lookup (bytes_eq n) hs) ≡ Some es → (lookup (bytes_eq n) hs ≡ Some es → All P (map entry_of es)) → All P (map entry_of es)
    by_test true g later = let same : x.1 ≡ es = cc in subst (λ z. All P (map entry_of z)) same (All-head (λ h. All P h.entries) (husk_in x) (map husk_in hs) all)
    by_test false g later = later g

-- the entry at a place of a husk that is found, as it is read
pub record EntryHere (es : List HuskEntry) (i : ℕ) (e : state.HuskEntry) : Type 0 where
  pub entry : HuskEntry
  pub there : slice_get es i ≡ Some entry
  pub same : entry_of entry ≡ e
  pub within : i < length es
  pub is_read : (xs : List HuskEntry) → xs ≡ es → (d : HuskEntry) → entry ≡ get_or xs i d

pub entry_here : (n : Name) (hs : List (Name × List HuskEntry)) (es : List HuskEntry) → lookup (bytes_eq n) hs ≡ Some es → (i : ℕ) (e : state.HuskEntry) → slice_get (named (λ h. h.name) no_husk n (map husk_in hs)).entries i ≡ Some e → EntryHere es i e
entry_here n hs es found i e there =
    let at = entry_there es i e (ap (λ xs. slice_get xs i) (sym (husk-found n hs es found)) ∙ there) in
    record {
      entry = at.0;
      there = at.1;
      same = at.2;
      within = at.3;
      is_read = λ xs eq d. sym (get_or_from_slice_get es i at.0 d at.1) ∙ ap (λ l. get_or l i d) (sym eq);
    }

-- its partner's number is in range
pub left-here : (id qp : ℕ) (n : Name) (hs : List (Name × List HuskEntry)) (es : List HuskEntry) → lookup (bytes_eq n) hs ≡ Some es → All (λ h. All (IsLeft id qp) h.entries) (map husk_in hs) → (i : ℕ) (h : HuskEntry) → slice_get es i ≡ Some h → h.peer < 2 ^ 24
left-here id qp n hs es found all i h at = (All-at (IsLeft id qp) (map entry_of es) i (entry_of h) (entry_holds (IsLeft id qp) n hs es all found) (entry_is es i h at)).peer
