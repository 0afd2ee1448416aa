-- Images that were handed out and not taken are carried, and no two have one name.
use Rattle.std.proofs.Common.{arith, ◌≡◌, ◌≢◌, inl, inr, List, [], ◌∷◌, ◌++◌, Bool, true, false, Option, Some, refl, sym, ap, ◌∙◌, bytes_eq, if◌then◌else◌}
use Rattle.std.specs.Prelude.{◌||◌}
use Rattle.rdma_types.specs.declared.names.Name.{Name}
use Rattle.rdma_types.specs.Lists.{first_that, has_name, without}
use Rattle.protocol.specs.declared.images.ContextImage.{ContextImage}
use Rattle.law_simulation.proofs.relation.Tables.{name_tells, same_name, has_name-push}

-- the image of a name, if it is carried
abbrev pub image_in : Name → List ContextImage → Option ContextImage
image_in n carried = first_that (λ c. bytes_eq c.name n) carried

-- these are carried, and their names differ
abbrev pub AreUntaken : List ContextImage → List ContextImage → Type 0
AreUntaken carried [] = Unit {0}
AreUntaken carried (i ∷ is) = (image_in i.name carried ≡ Some i) × (has_name (λ c. c.name) i.name is ≡ false) × AreUntaken carried is

-- ---- names

pub found_named : (n : Name) (i : ContextImage) (carried : List ContextImage) → image_in n carried ≡ Some i → has_name (λ c. c.name) n carried ≡ true
unfolding first_that has_name
found_named n i [] h = absurd (cc)
found_named n i (x ∷ carried) h = grind (arith, found_named n i carried)

has_push : (n : Name) (xs : List ContextImage) (i : ContextImage) → has_name (λ c. c.name) n xs ≡ false → bytes_eq i.name n ≡ false → has_name (λ c. c.name) n (xs ++ i ∷ []) ≡ false
has_push n xs i h k = has_name-push (λ c. c.name) n xs i ∙ rw (h, k) refl

found_first : (n : Name) (i j : ContextImage) (carried : List ContextImage) → image_in n carried ≡ Some i → image_in n (carried ++ j ∷ []) ≡ Some i
unfolding first_that
found_first n i j [] h = absurd (cc)
found_first n i j (x ∷ carried) h = grind (arith, found_first n i j carried)

found_last : (i : ContextImage) (carried : List ContextImage) → has_name (λ c. c.name) i.name carried ≡ false → image_in i.name (carried ++ i ∷ []) ≡ Some i
unfolding first_that has_name
found_last i [] h = rw (same_name i.name) refl
found_last i (x ∷ carried) h = grind (arith, found_last i carried)

other_name : (a b : Name) → a ≢ b → bytes_eq a b ≡ false
other_name a b ne = elim (name_tells a b) [ inl h ↦ absurd (ne h.1) | inr h ↦ h.0 ]

-- ---- one more

more_carried : (carried is : List ContextImage) (j : ContextImage) → AreUntaken carried is → AreUntaken (carried ++ j ∷ []) is
more_carried carried [] j all = tt
more_carried carried (i ∷ is) j all = (found_first i.name i j carried all.0, all.1, more_carried carried is j all.2)

pushed : (carried is : List ContextImage) (j : ContextImage) → has_name (λ c. c.name) j.name carried ≡ false → AreUntaken carried is → AreUntaken (carried ++ j ∷ []) (is ++ j ∷ [])
unfolding has_name
pushed carried [] j fresh all = (found_last j carried fresh, refl, tt)
pushed carried (i ∷ is) j fresh all = (
  found_first i.name i j carried all.0,
  has_push i.name is j all.1 (other_name j.name i.name (λ e. cc (fresh, found_named i.name i carried all.0, ap (λ n. has_name (λ c. c.name) n carried) e))),
  pushed carried is j fresh all.2,
)

-- a stop hands one more out
pub untaken_more : (carried is : List ContextImage) (j : ContextImage) → has_name (λ c. c.name) j.name carried ≡ false → AreUntaken carried is → AreUntaken (carried ++ j ∷ []) (is ++ j ∷ [])
untaken_more carried is j fresh all = pushed carried is j fresh all

-- ---- one less

-- an image among others
pub record IsAmong (carried : List ContextImage) (i : ContextImage) (rest : List ContextImage) : Type 0 where
  pub found : image_in i.name carried ≡ Some i
  pub apart : has_name (λ c. c.name) i.name rest ≡ false
  pub others : AreUntaken carried rest

has_less : (n : Name) (before after : List ContextImage) (i : ContextImage) → has_name (λ c. c.name) n (before ++ i ∷ after) ≡ false → (has_name (λ c. c.name) n (before ++ after) ≡ false) × (bytes_eq i.name n ≡ false)
unfolding has_name
has_less n [] after i h = by (bytes_eq i.name n) (has_name (λ c. c.name) n after) h
  where
    by : (a b : Bool) → (a || b) ≡ false → (b ≡ false) × (a ≡ false)
    by true b h = absurd (cc)
    by false b h = (h, refl)
has_less n (x ∷ before) after i h = by (bytes_eq x.name n) (has_name (λ c. c.name) n (before ++ i ∷ after)) (has_less n before after i) h
  where
    by : (a b : Bool) → (b ≡ false → (has_name (λ c. c.name) n (before ++ after) ≡ false) × (bytes_eq i.name n ≡ false)) → (a || b) ≡ false → ((a || has_name (λ c. c.name) n (before ++ after)) ≡ false) × (bytes_eq i.name n ≡ false)
    by true b later h = absurd (cc)
    by false b later h = later h

pub untaken_less : (carried before after : List ContextImage) (i : ContextImage) → AreUntaken carried (before ++ i ∷ after) → IsAmong carried i (before ++ after)
unfolding has_name
untaken_less carried [] after i all = record { found = all.0; apart = all.1; others = all.2 }
untaken_less carried (x ∷ before) after i all =
    let later = untaken_less carried before after i all.2 in
    let less = has_less x.name before after i all.1 in
    let ne : i.name ≢ x.name = λ e. cc (less.1, same_name x.name, ap (λ n. bytes_eq n x.name) e) in
    record {
      found = later.found;
      apart = ap (λ b. b || has_name (λ c. c.name) i.name (before ++ after)) (other_name x.name i.name (λ e. ne (sym e))) ∙ later.apart;
      others = (all.0, less.0, later.others);
    }

found_without : (n m : Name) (carried : List ContextImage) → bytes_eq n m ≡ false → image_in m (without (λ c. c.name) n carried) ≡ image_in m carried
unfolding first_that without
found_without n m [] ne = refl
found_without n m (x ∷ carried) ne = elim (name_tells x.name n) [
  | inl h ↦ ap (λ b. first_that (λ c. bytes_eq c.name m) (if b then carried else x ∷ without (λ c. c.name) n carried)) h.0 ∙ sym (ap (λ b. if b then Some x else first_that (λ c. bytes_eq c.name m) carried) (ap (λ k. bytes_eq k m) h.1 ∙ ne))
  | inr h ↦ ap (λ b. first_that (λ c. bytes_eq c.name m) (if b then carried else x ∷ without (λ c. c.name) n carried)) h.0 ∙ ap (λ o. if bytes_eq x.name m then Some x else o) (found_without n m carried ne)
]

-- the image goes
pub untaken_gone : (carried is : List ContextImage) (n : Name) → has_name (λ c. c.name) n is ≡ false → AreUntaken carried is → AreUntaken (without (λ c. c.name) n carried) is
unfolding has_name
untaken_gone carried [] n apart all = tt
untaken_gone carried (i ∷ is) n apart all =
    let parts : (bytes_eq i.name n ≡ false) × (has_name (λ c. c.name) n is ≡ false) = by (bytes_eq i.name n) (has_name (λ c. c.name) n is) apart in
    let ne : n ≢ i.name = λ e. cc (parts.0, same_name n, ap (λ k. bytes_eq k n) e) in
    (found_without n i.name carried (other_name n i.name ne) ∙ all.0, all.1, untaken_gone carried is n parts.1 all.2)
  where
    by : (a b : Bool) → (a || b) ≡ false → (a ≡ false) × (b ≡ false)
    by true b h = absurd (cc)
    by false b h = (refl, h)

pub has_without_less : (n m : Name) (carried : List ContextImage) → has_name (λ c. c.name) m (without (λ c. c.name) n carried) ≡ true → has_name (λ c. c.name) m carried ≡ true
unfolding has_name without
has_without_less n m [] h = h
has_without_less n m (x ∷ carried) h = grind (arith, has_without_less n m carried)
