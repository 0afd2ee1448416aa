-- Bytes that are written into a region, and those elsewhere.
use Rattle.std.proofs.Common.{arith, ◌≡◌, ◌⊎◌, ◌≤◌, ◌<◌, ◌+◌, ℕ, List, [], ◌∷◌, ◌++◌, length, take, drop, true, false, Bool, refl, sym, ap, ◌∙◌}
use Rattle.std.specs.Prelude.{◌==◌, if◌then◌else◌, nat_lt, get_or, Some, slice_get}
use Rattle.std.proofs.lemmas.Bool.Decides.{nat_tests}
use Rattle.std.proofs.lemmas.List.{places}
use Rattle.std.proofs.lemmas.Option.{slice_get-get_or, slice_get_past}
use Rattle.rdma_types.specs.Lists.{at, store}
use Rattle.rdma_types.specs.Memory.{put}
use Rattle.law_devices.proofs.Regions.{length-put}

-- what stands under a number after a storing: the stored thing under its own, and what was there under another
pub at-store : {A : Type 0} (number : A → ℕ) (none : A) (j k : ℕ) (e : A) (xs : List A) → number e ≡ j → at number none k (store number j e xs) ≡ (if j == k then e else at number none k xs)
unfolding at store
at-store number none j k e [] is = grind (arith, nat_tests)
at-store number none j k e (x ∷ xs) is = grind (arith, nat_tests, at-store number none j k e xs is)

-- bytes that are put into others change none elsewhere
pub put-apart : (bytes new : List ℕ) (off k : ℕ) → off + length new ≤ length bytes → (k < off) ⊎ (off + length new ≤ k) → slice_get (put bytes off new) k ≡ slice_get bytes k
unfolding put
put-apart bytes new off k inside apart = by_test (nat_lt k (length bytes)) refl
  where
    size : length (take off bytes ++ (new ++ drop (off + length new) bytes)) ≡ length bytes
    size = length-put bytes new off inside

    by_test : (b : Bool) → nat_lt k (length bytes) ≡ b → slice_get (take off bytes ++ (new ++ drop (off + length new) bytes)) k ≡ slice_get bytes k
    by_test true t =
        let here : k < length bytes = grind (arith, nat_tests, t) in
        let there : k < length (take off bytes ++ (new ++ drop (off + length new) bytes)) = omega (arith, size, here) in
        let same : get_or (take off bytes ++ (new ++ drop (off + length new) bytes)) k 0 ≡ get_or bytes k 0 = grind (arith, places) in
        slice_get-get_or (take off bytes ++ (new ++ drop (off + length new) bytes)) k 0 there ∙ (ap Some same ∙ sym (slice_get-get_or bytes k 0 here))
    by_test false t =
        let past : length bytes ≤ k = grind (arith, nat_tests, t) in
        slice_get_past (take off bytes ++ (new ++ drop (off + length new) bytes)) k (omega (arith, size, past)) ∙ sym (slice_get_past bytes k past)
