-- What settling looks at of live ends.
use Rattle.std.proofs.Common.{◌≡◌, ◌∙◌, ℕ, ◌+◌, ◌||◌, ◌==◌, Bool, true, false, List, [], ◌∷◌, ◌++◌, take, refl, sym, ap, Some, slice_get}
use Rattle.std.specs.Prelude.{◌&&◌, flat_map}
use Rattle.std.proofs.lemmas.List.{flat_map_more, take_more}
use Rattle.std.proofs.lemmas.Option.{get_or_from_slice_get, slice_get_within}
use Rattle.rdma_types.specs.Lists.{some}
use Rattle.protocol.specs.EndWords.{is_in_error}
use Rattle.protocol.specs.Settle as settle
use Rattle.protocol.specs.State.{Context, Device, End, World}
use Rattle.device_core.specs.Readings.{has_ended_end}

-- ---- some end of them all

some-append : {A : Type 0} (test : A → Bool) (xs ys : List A) → some test (xs ++ ys) ≡ (some test xs || some test ys)
unfolding some
some-append test [] ys = refl
some-append test (x ∷ xs) ys = ap (λ b. test x || b) (some-append test xs ys) ∙ sym (or-more (test x) (some test xs) (some test ys))
  where
    or-more : (a b c : Bool) → ((a || b) || c) ≡ (a || (b || c))
    or-more true b c = refl
    or-more false b c = refl

some-flat : {A B : Type 0} (test : B → Bool) (f : A → List B) (xs : List A) → some test (flat_map f xs) ≡ some (λ x. some test (f x)) xs
unfolding some
some-flat test f [] = refl
some-flat test f (x ∷ xs) = some-append test (f x) (flat_map f xs) ∙ ap (λ b. some test (f x) || b) (some-flat test f xs)

some-same : {A : Type 0} (a b : A → Bool) → ((x : A) → a x ≡ b x) → (xs : List A) → some a xs ≡ some b xs
unfolding some
some-same a b same [] = refl
some-same a b same (x ∷ xs) = (λ i. same x i || some-same a b same xs i)

-- a live end in Error is one of some device
pub ended-live : (w : World) (n : ℕ) → settle.is_ended_live w n ≡ some (λ d. has_ended_end d n) w.devices
unfolding settle.live_ends
ended-live w n =
    some-flat (λ (e : End). e.number == n && is_in_error e.link) (λ (d : Device). flat_map (λ (c : Context). c.ends) d.contexts) w.devices
    ∙ some-same (λ (d : Device). some (λ (e : End). e.number == n && is_in_error e.link) (flat_map (λ (c : Context). c.ends) d.contexts)) (λ d. has_ended_end d n)
    (λ d. some-flat (λ (e : End). e.number == n && is_in_error e.link) (λ (c : Context). c.ends) d.contexts) w.devices

-- ---- all live ends

-- those of one thing more
pub flat-more : {A B : Type 0} (f : A → List B) (xs : List A) (i : ℕ) (x : A) → slice_get xs i ≡ Some x → flat_map f (take i xs) ++ f x ≡ flat_map f (take (i + 1) xs)
flat-more f xs i x at =
    flat_map_more f [] (take i xs) x
    ∙ ap (flat_map f) (ap (λ y. take i xs ++ y ∷ []) (sym (get_or_from_slice_get xs i x x at)) ∙ sym (take_more xs i x (slice_get_within xs i x at)))
