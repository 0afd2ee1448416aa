-- Handing out in turn.
use Rattle.std.proofs.Common.{◌≡◌, ℕ, ◌+◌, ◌-◌, ◌≤◌, ◌==◌, Bool, true, List, ◌++◌, [], length, take, drop, refl, ap, sym, ◌∙◌, arith, drop-drop, length-drop, append_assoc}
use Rattle.std.proofs.lemmas.Bool.{eqb-true}
use Rattle.std.proofs.Math.Seq.{take-add, take-append_seam, drop-append_seam}
use Rattle.std.proofs.lemmas.List.{append-nil, length-take, nil_from_length, take_all, drop_all}
use borrow.Rule.Slice.PartMut.{put_mid}
use Rattle.dump_writer.specs.Writing.{Writing}
use Rattle.dump_writer.specs.Gives.{Gives}

-- a writer of the same image, which handed out so many bytes
pub record IsGiven (old new : Writing) (before after : List ℕ) (count : ℕ) : Type 0 where
  pub image : new.image ≡ old.image
  pub given : Gives old.left new.left before after count

-- what stands in the room after some bytes were given
module _ (old before now : List ℕ) (n : ℕ) (had : n ≤ length old) (bytes : now ≡ take n old ++ drop n before) where
  given_len : length (take n old) ≡ n
  given_len = omega (arith, length-take n old)

  given_front : take n now ≡ take n old
  given_front = ap (take n) bytes ∙ (ap (λ (j : ℕ). take j (take n old ++ drop n before)) (sym given_len) ∙ take-append_seam (take n old) (drop n before))

  given_back : drop n now ≡ drop n before
  given_back = ap (drop n) bytes ∙ (ap (λ (j : ℕ). drop j (take n old ++ drop n before)) (sym given_len) ∙ drop-append_seam (take n old) (drop n before))

module _ (old mid new before now after : List ℕ) (n k m : ℕ) where
  -- bytes that are handed out after others
  pub gives_more : Gives old mid before now n → Gives mid new (take k (drop n now)) after m → k ≡ length now - n → length now ≡ length before → Gives old new before (put_mid n k now after) (n + m)
  gives_more a b k_is len =
      let left_room : length (drop n now) ≡ k = omega (arith, length-drop n now) in
      let part : take k (drop n now) ≡ drop n now = take_all k (drop n now) (omega arith) in
      let none : drop k (drop n now) ≡ [] = drop_all k (drop n now) (omega arith) in
      let front = given_front old before now n a.had a.bytes in
      let back = given_back old before now n a.had a.bytes in
      let part_len : length (take k (drop n now)) ≡ k = ap length part ∙ left_room in
      let mid_len : length mid ≡ length old - n = ap length a.left ∙ length-drop n old in
      let after_is : after ≡ take m (drop n old) ++ drop (n + m) before = b.bytes ∙ rw (a.left, part, back, drop-drop m n before) refl in
      record {
        room = omega (arith, b.room, a.room);
        had = omega (arith, b.had, a.had);
        bytes = rw (front, none, after_is, append-nil, take-add n m old, append_assoc) refl;
        left = b.left ∙ rw (a.left, drop-drop m n old) refl;
      }

-- no bytes of a chunk wait
pub none_wait : (chunk slice : List ℕ) (done : ℕ) (r : Bool) → slice ≡ chunk → r ≡ (length (take (length slice - done) (drop done slice)) == 0) → r ≡ true → length (drop done chunk) ≡ 0
none_wait chunk slice done r same is empty =
    let all : take (length slice - done) (drop done slice) ≡ drop done slice = take_all (length slice - done) (drop done slice) (omega (arith, length-drop done slice)) in
    let count : length (take (length slice - done) (drop done slice)) ≡ 0 = eqb-true _ 0 (sym is ∙ empty) in
    ap (λ (xs : List ℕ). length (drop done xs)) (sym same) ∙ (ap length (sym all) ∙ count)

-- bytes that are given where none wait in the chunk
pub gives_run : (w : Writing) (waiting old new before after : List ℕ) (count : ℕ) → w.left ≡ waiting ++ old → length waiting ≡ 0 → Gives old new before after count → Gives w.left (waiting ++ new) before after count
gives_run w waiting old new before after count is none given =
    let no_bytes : waiting ≡ [] = nil_from_length waiting none in
    rw (is, no_bytes) given
