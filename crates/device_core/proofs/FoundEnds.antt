-- What an arriving datagram finds by its number.
use Rattle.std.proofs.Common.{arith, ◌≡◌, ◌≢◌, ℕ, zero, suc, List, [], ◌∷◌, ◌++◌, map, true, false, refl, sym, ap, ◌∙◌, inl, inr}
use Rattle.std.specs.Prelude.{All, AllPairs, ◌||◌, ◌==◌, if◌then◌else◌, filter, flat_map, Option, Some, None, slice_get}
use Rattle.std.proofs.lemmas.Bool.Decides.{eqb_tells}
use Rattle.std.proofs.lemmas.List.{append-nil}
use Rattle.std.proofs.lemmas.List.Elements.{filter-append}
use Rattle.rdma_types.specs.declared.names.Name.{Name}
use Rattle.rdma_types.specs.Lists.{has_name, named}
use Rattle.protocol.specs.DeviceStep.{ends_with, found_in, found_link, husk_entries}
use Rattle.protocol.specs.Refusals.{has_context, has_husk}
use Rattle.protocol.specs.State.{Context, Device, End, Husk, HuskEntry, context_at, no_context, no_husk}
use Rattle.law_devices.proofs.Tables.{name_tells}
use Rattle.device_core.specs.declared.index.EndLocation.{EndLocation}
use Rattle.device_core.specs.Index.{IsEndAt, IsEntryAt, IsIndex, husk_at}
use Rattle.device_core.proofs.IndexAdds.{same_spot}
use Rattle.device_core.proofs.Pairs.{pairs-head, pairs-tail}

-- ---- things of one name

pub place_of_name : {A : Type 0} (name : A → Name) (none : A) (n : Name) (xs : List A) → has_name name n xs ≡ true → (j : ℕ) × (slice_get xs j ≡ Some (named name none n xs)) × (name (named name none n xs) ≡ n)
unfolding has_name named
place_of_name name none n [] h = absurd (cc)
place_of_name name none n (x ∷ xs) h = elim (name_tells (name x) n) [
  | inl t ↦ (0, ap (λ b. Some (if b then x else named name none n xs)) (sym t.0), ap (λ b. name (if b then x else named name none n xs)) t.0 ∙ t.1)
  | inr t ↦
      let later = place_of_name name none n xs (sym (ap (λ b. b || has_name name n xs) t.0) ∙ h) in
      (suc later.0, later.1 ∙ ap (λ b. Some (if b then x else named name none n xs)) (sym t.0), ap (λ b. name (if b then x else named name none n xs)) t.0 ∙ later.2)
]

-- where names stand once, the thing at a place is found by its name
pub named_here : {A : Type 0} (name : A → Name) (none : A) (xs : List A) (j : ℕ) (x : A) → AllPairs (λ a b. a ≢ b) (map name xs) → slice_get xs j ≡ Some x → (has_name name (name x) xs ≡ true) × (named name none (name x) xs ≡ x)
unfolding has_name named
named_here name none [] j x apart h = absurd (cc)
named_here {A} name none (y ∷ xs) zero x apart h =
    let same : y ≡ x = cc in
    elim (name_tells (name y) (name x)) [
      | inl t ↦ (ap (λ b. b || has_name name (name x) xs) t.0, ap (λ b. if b then y else named name none (name x) xs) t.0 ∙ same)
      | inr t ↦ absurd (t.1 (ap name same))
    ]
named_here {A} name none (y ∷ xs) (suc j) x apart h =
    let later = named_here name none xs j x (pairs-tail (λ a b. a ≢ b) (name y) (map name xs) apart) h in
    elim (name_tells (name y) (name x)) [
      | inl t ↦ absurd (differ xs j (pairs-head (λ a b. a ≢ b) (name y) (map name xs) apart) h t.1)
      | inr t ↦ (ap (λ b. b || has_name name (name x) xs) t.0 ∙ later.0, ap (λ b. if b then y else named name none (name x) xs) t.0 ∙ later.1)
    ]
  where
    differ : (zs : List A) (i : ℕ) → All (λ b. name y ≢ b) (map name zs) → slice_get zs i ≡ Some x → name y ≡ name x → ⊥
    differ [] i all g e = absurd (cc)
    differ (z ∷ zs) zero all g e = let is : z ≡ x = cc in all 0 (name x) (omega arith) (e ∙ ap name (sym is))
    differ (z ∷ zs) (suc i) all g e = differ zs i (λ k d l. all (suc k) d (omega (arith, l))) g e

-- two places of one name are one
pub same_place : {A : Type 0} (name : A → Name) (xs : List A) (i j : ℕ) (x y : A) → AllPairs (λ a b. a ≢ b) (map name xs) → slice_get xs i ≡ Some x → slice_get xs j ≡ Some y → name x ≡ name y → i ≡ j
same_place name [] i j x y apart a b e = absurd (cc)
same_place name (z ∷ xs) zero zero x y apart a b e = refl
same_place {A} name (z ∷ xs) zero (suc j) x y apart a b e = let is : z ≡ x = cc in absurd (away xs j y (pairs-head (λ a b. a ≢ b) (name z) (map name xs) apart) b (ap name is ∙ e))
  where
    away : (zs : List A) (i : ℕ) (w : A) → All (λ b. name z ≢ b) (map name zs) → slice_get zs i ≡ Some w → name z ≡ name w → ⊥
    away [] i w all g h = absurd (cc)
    away (v ∷ zs) zero w all g h = let is : v ≡ w = cc in all 0 (name w) (omega arith) (h ∙ ap name (sym is))
    away (v ∷ zs) (suc i) w all g h = away zs i w (λ k d l. all (suc k) d (omega (arith, l))) g h
same_place {A} name (z ∷ xs) (suc i) zero x y apart a b e = let is : z ≡ y = cc in absurd (away xs i x (pairs-head (λ a b. a ≢ b) (name z) (map name xs) apart) a (ap name is ∙ sym e))
  where
    away : (zs : List A) (i : ℕ) (w : A) → All (λ b. name z ≢ b) (map name zs) → slice_get zs i ≡ Some w → name z ≡ name w → ⊥
    away [] i w all g h = absurd (cc)
    away (v ∷ zs) zero w all g h = let is : v ≡ w = cc in all 0 (name w) (omega arith) (h ∙ ap name (sym is))
    away (v ∷ zs) (suc i) w all g h = away zs i w (λ k d l. all (suc k) d (omega (arith, l))) g h
same_place name (z ∷ xs) (suc i) (suc j) x y apart a b e = ap suc (same_place name xs i j x y (pairs-tail (λ a b. a ≢ b) (name z) (map name xs) apart) a b e)

-- ---- ends

ends_with-none : (k : ℕ) (c : Context) (es : List End) → ((i : ℕ) (e : End) → slice_get es i ≡ Some e → e.number ≡ k → ⊥) → ends_with k c es ≡ []
unfolding ends_with
ends_with-none k c [] lacks = refl
ends_with-none k c (e ∷ es) lacks = elim (eqb_tells e.number k) [
  | inl t ↦ absurd (lacks 0 e refl t.1)
  | inr t ↦ ap (λ b. if b then found_link c e e.link (ends_with k c es) else ends_with k c es) t.0 ∙ ends_with-none k c es (λ i f h. lacks (suc i) f h)
]

ends_with-one : (k : ℕ) (c : Context) (es : List End) (place : ℕ) (e : End) → slice_get es place ≡ Some e → e.number ≡ k → ((i : ℕ) (f : End) → slice_get es i ≡ Some f → f.number ≡ k → i ≡ place) → ends_with k c es ≡ found_link c e e.link []
unfolding ends_with
ends_with-one k c [] place e there number one = absurd (cc)
ends_with-one k c (x ∷ es) zero e there number one =
    let same : x ≡ e = cc in
    elim (eqb_tells x.number k) [
      | inl t ↦ ap (λ b. if b then found_link c x x.link (ends_with k c es) else ends_with k c es) t.0
          ∙ (ap (found_link c x x.link) (ends_with-none k c es (λ i f h g. absurd (omega (arith, one (suc i) f h g)))) ∙ ap (λ (z : End). found_link c z z.link []) same)
      | inr t ↦ absurd (t.1 (ap (λ (z : End). z.number) same ∙ number))
    ]
ends_with-one k c (x ∷ es) (suc place) e there number one = elim (eqb_tells x.number k) [
  | inl t ↦ absurd (omega (arith, one 0 x refl t.1))
  | inr t ↦ ap (λ b. if b then found_link c x x.link (ends_with k c es) else ends_with k c es) t.0 ∙ ends_with-one k c es place e there number (λ i f h g. let e' = one (suc i) f h g in omega (arith, e'))
]

found_in-none : (k : ℕ) (cs : List Context) → ((j i : ℕ) (c : Context) (e : End) → slice_get cs j ≡ Some c → slice_get c.ends i ≡ Some e → e.number ≡ k → ⊥) → found_in k cs ≡ []
unfolding found_in
found_in-none k [] lacks = refl
found_in-none k (c ∷ cs) lacks =
    ap (λ xs. xs ++ found_in k cs) (ends_with-none k c c.ends (λ i e h g. lacks 0 i c e refl h g))
    ∙ found_in-none k cs (λ j i d e h g m. lacks (suc j) i d e h g m)

found_in-one : (k : ℕ) (cs : List Context) (j place : ℕ) (c : Context) (e : End) → slice_get cs j ≡ Some c → slice_get c.ends place ≡ Some e → e.number ≡ k
    → ((i p : ℕ) (d : Context) (f : End) → slice_get cs i ≡ Some d → slice_get d.ends p ≡ Some f → f.number ≡ k → (i ≡ j) × (p ≡ place))
    → found_in k cs ≡ found_link c e e.link []
unfolding found_in
found_in-one k [] j place c e here there number one = absurd (cc)
found_in-one k (x ∷ cs) zero place c e here there number one =
    let same : x ≡ c = cc in
    ap (λ xs. ends_with k x x.ends ++ xs) (found_in-none k cs (λ i p d f h g m. absurd (omega (arith, (one (suc i) p d f h g m).0))))
    ∙ (append-nil (ends_with k x x.ends) ∙ (ap (λ (z : Context). ends_with k z z.ends) same ∙ ends_with-one k c c.ends place e there number (λ i f h m. (one 0 i x f refl (ap (λ (z : Context). slice_get z.ends i) same ∙ h) m).1)))
found_in-one k (x ∷ cs) (suc j) place c e here there number one =
    ap (λ xs. xs ++ found_in k cs) (ends_with-none k x x.ends (λ i f h m. absurd (omega (arith, (one 0 i x f refl h m).0))))
    ∙ found_in-one k cs j place c e here there number (λ i p d f h g m. let is = one (suc i) p d f h g m in (omega (arith, is.0), is.1))

-- ---- husks' entries

entries-none : (k : ℕ) (xs : List HuskEntry) → ((i : ℕ) (x : HuskEntry) → slice_get xs i ≡ Some x → x.number ≡ k → ⊥) → filter (λ x. x.number == k) xs ≡ []
entries-none k [] lacks = refl
entries-none k (x ∷ xs) lacks = elim (eqb_tells x.number k) [
  | inl t ↦ absurd (lacks 0 x refl t.1)
  | inr t ↦ ap (λ b. if b then x ∷ filter (λ y. y.number == k) xs else filter (λ y. y.number == k) xs) t.0 ∙ entries-none k xs (λ i y h. lacks (suc i) y h)
]

entries-one : (k : ℕ) (xs : List HuskEntry) (place : ℕ) (e : HuskEntry) → slice_get xs place ≡ Some e → e.number ≡ k → ((i : ℕ) (f : HuskEntry) → slice_get xs i ≡ Some f → f.number ≡ k → i ≡ place) → filter (λ x. x.number == k) xs ≡ e ∷ []
entries-one k [] place e there number one = absurd (cc)
entries-one k (x ∷ xs) zero e there number one =
    let same : x ≡ e = cc in
    elim (eqb_tells x.number k) [
      | inl t ↦ ap (λ b. if b then x ∷ filter (λ y. y.number == k) xs else filter (λ y. y.number == k) xs) t.0 ∙ (ap (λ ys. x ∷ ys) (entries-none k xs (λ i f h g. absurd (omega (arith, one (suc i) f h g)))) ∙ ap (λ z. z ∷ []) same)
      | inr t ↦ absurd (t.1 (ap (λ (z : HuskEntry). z.number) same ∙ number))
    ]
entries-one k (x ∷ xs) (suc place) e there number one = elim (eqb_tells x.number k) [
  | inl t ↦ absurd (omega (arith, one 0 x refl t.1))
  | inr t ↦ ap (λ b. if b then x ∷ filter (λ y. y.number == k) xs else filter (λ y. y.number == k) xs) t.0 ∙ entries-one k xs place e there number (λ i f h g. let e' = one (suc i) f h g in omega (arith, e'))
]

husk_entries-none : (k : ℕ) (hs : List Husk) → ((j i : ℕ) (h : Husk) (e : HuskEntry) → slice_get hs j ≡ Some h → slice_get h.entries i ≡ Some e → e.number ≡ k → ⊥) → husk_entries k hs ≡ []
unfolding husk_entries
husk_entries-none k [] lacks = refl
husk_entries-none k (h ∷ hs) lacks =
    filter-append (λ x. x.number == k) h.entries (flat_map (λ z. z.entries) hs)
    ∙ (ap (λ xs. xs ++ filter (λ x. x.number == k) (flat_map (λ z. z.entries) hs)) (entries-none k h.entries (λ i e g m. lacks 0 i h e refl g m))
    ∙ husk_entries-none k hs (λ j i d e g m o. lacks (suc j) i d e g m o))

husk_entries-one : (k : ℕ) (hs : List Husk) (j place : ℕ) (h : Husk) (e : HuskEntry) → slice_get hs j ≡ Some h → slice_get h.entries place ≡ Some e → e.number ≡ k
    → ((i p : ℕ) (d : Husk) (f : HuskEntry) → slice_get hs i ≡ Some d → slice_get d.entries p ≡ Some f → f.number ≡ k → (i ≡ j) × (p ≡ place))
    → husk_entries k hs ≡ e ∷ []
unfolding husk_entries
husk_entries-one k [] j place h e here there number one = absurd (cc)
husk_entries-one k (x ∷ hs) zero place h e here there number one =
    let same : x ≡ h = cc in
    filter-append (λ y. y.number == k) x.entries (flat_map (λ z. z.entries) hs)
    ∙ (ap (λ xs. filter (λ y. y.number == k) x.entries ++ xs) (husk_entries-none k hs (λ i p d f g m o. absurd (omega (arith, (one (suc i) p d f g m o).0))))
    ∙ (append-nil (filter (λ y. y.number == k) x.entries) ∙ (ap (λ (z : Husk). filter (λ y. y.number == k) z.entries) same ∙ entries-one k h.entries place e there number (λ i f g m. (one 0 i x f refl (ap (λ (z : Husk). slice_get z.entries i) same ∙ g) m).1))))
husk_entries-one k (x ∷ hs) (suc j) place h e here there number one =
    filter-append (λ y. y.number == k) x.entries (flat_map (λ z. z.entries) hs)
    ∙ (ap (λ xs. xs ++ filter (λ y. y.number == k) (flat_map (λ z. z.entries) hs)) (entries-none k x.entries (λ i f g m. absurd (omega (arith, (one 0 i x f refl g m).0))))
    ∙ husk_entries-one k hs j place h e here there number (λ i p d f g m o. let is = one (suc i) p d f g m o in (omega (arith, is.0), is.1)))

-- ---- by the index

-- an end at a place of a context of the device
pub end-of : (d : Device) (k j i : ℕ) (c : Context) (e : End) → AllPairs (λ a b. a ≢ b) (map (λ c. c.name) d.contexts) → slice_get d.contexts j ≡ Some c → slice_get c.ends i ≡ Some e → e.number ≡ k → IsEndAt d c.name i k
end-of d k j i c e names here there number =
    let at = named_here (λ x. x.name) no_context d.contexts j c names here in
    record { lives = at.0; end = e; there = ap (λ (z : Context). slice_get z.ends i) at.1 ∙ there; same = number }

entry-of : (d : Device) (k j i : ℕ) (h : Husk) (e : HuskEntry) → AllPairs (λ a b. a ≢ b) (map (λ h. h.name) d.husks) → slice_get d.husks j ≡ Some h → slice_get h.entries i ≡ Some e → e.number ≡ k → IsEntryAt d h.name i k
entry-of d k j i h e names here there number =
    let at = named_here (λ x. x.name) no_husk d.husks j h names here in
    record { stays = at.0; entry = e; there = ap (λ (z : Husk). slice_get z.entries i) at.1 ∙ there; same = number }

module _ (index : ℕ → Option EndLocation) (d : Device) (i : IsIndex index d) (names : AllPairs (λ a b. a ≢ b) (map (λ c. c.name) d.contexts)) (husk_names : AllPairs (λ a b. a ≢ b) (map (λ h. h.name) d.husks)) (k : ℕ) where
  -- the end at a place is the only one with its number
  pub found-live : (n : Name) (place : ℕ) (e : IsEndAt d n place k) → found_in k d.contexts ≡ found_link (context_at d n) e.end e.end.link []
  found-live n place e =
      let at = place_of_name (λ x. x.name) no_context n d.contexts e.lives in
      found_in-one k d.contexts at.0 place (context_at d n) e.end at.1 e.there e.same
      (λ j p c f here there number.
      let is = same_spot c.name n p place (sym (i.ends c.name p k (end-of d k j p c f names here there number)) ∙ i.ends n place k e) in
      (same_place (λ x. x.name) d.contexts j at.0 c (context_at d n) names here at.1 (is.0 ∙ sym at.2), is.1))

  -- where the number is in a husk, no end has it
  pub found-none : (n : Name) (place : ℕ) → IsEntryAt d n place k → has_context d n ≡ false → found_in k d.contexts ≡ []
  found-none n place e gone = found_in-none k d.contexts (λ j p c f here there number.
      let end = end-of d k j p c f names here there number in
      let is = same_spot c.name n p place (sym (i.ends c.name p k end) ∙ i.entries n place k e) in
      absurd (cc (ap (has_context d) is.0, end.lives, gone)))

  -- .. and it is the only entry with it
  pub left-one : (n : Name) (place : ℕ) (e : IsEntryAt d n place k) → husk_entries k d.husks ≡ e.entry ∷ []
  left-one n place e =
      let at = place_of_name (λ x. x.name) no_husk n d.husks e.stays in
      husk_entries-one k d.husks at.0 place (husk_at d n) e.entry at.1 e.there e.same
      (λ j p h f here there number.
      let is = same_spot h.name n p place (sym (i.entries h.name p k (entry-of d k j p h f husk_names here there number)) ∙ i.entries n place k e) in
      (same_place (λ x. x.name) d.husks j at.0 h (husk_at d n) husk_names here at.1 (is.0 ∙ sym at.2), is.1))

  -- where an end has the number, no entry has it
  pub left-none : (n : Name) (place : ℕ) → IsEndAt d n place k → has_husk d n ≡ false → husk_entries k d.husks ≡ []
  left-none n place e gone = husk_entries-none k d.husks (λ j p h f here there number.
      let entry = entry-of d k j p h f husk_names here there number in
      let is = same_spot h.name n p place (sym (i.entries h.name p k entry) ∙ i.ends n place k e) in
      absurd (cc (ap (has_husk d) is.0, entry.stays, gone)))

  -- a number that is not noted is nowhere
  pub nowhere : index k ≡ None → (found_in k d.contexts ≡ []) × (husk_entries k d.husks ≡ [])
  nowhere none = (
    found_in-none k d.contexts (λ j p c f here there number. absurd (cc (i.ends c.name p k (end-of d k j p c f names here there number), none))),
    husk_entries-none k d.husks (λ j p h f here there number. absurd (cc (i.entries h.name p k (entry-of d k j p h f husk_names here there number), none))),
  )
