-- Messages in their places stay where other bytes are put.
use Rattle.std.proofs.Common.{arith, ◌≡◌, ℕ, zero, suc, ◌+◌, ◌*◌, ◌≤◌, List, [], ◌∷◌, ◌++◌, length, map, true, false, Bool, refl, sym, subst, ◌∙◌, Some, None, Option, length-append, ltb-false}
use Rattle.std.specs.Prelude.{All, cond, if◌then◌else◌, slice_get}
use Rattle.std.proofs.lemmas.List.Elements.{All-cons, All-head, All-nil, All-tail}
use Rattle.std.proofs.lemmas.Option.{none-some, same_Some}
use Rattle.rdma_types.specs.declared.requests.Receive.{Receive}
use Rattle.rdma_types.specs.Memory.{cut}
use Rattle.protocol.specs.Bytes.{big_bytes}
use Rattle.mailbox_rules.specs.declared.letters.Letter.{Letter}
use Rattle.mailbox_rules.specs.Calls.{header_for, message_of}
use Rattle.mailbox_rules.specs.Histories.{fetched_before}
use Rattle.mailbox_rules.specs.Letters.{header_bytes, is_rendezvous}
use Rattle.mailbox_rules.specs.Opening.{place_bytes}
use Rattle.law_mailbox.proofs.queue_room.Counts.{fetched_cons, one_if}
use Rattle.law_mailbox.specs.Kept.{HoldMessages, HoldsPart, long_letters}

-- ---- parts of lists

pub all_back : {X : Type 0} (P : X → Type 0) (xs ys : List X) → All P (xs ++ ys) → All P ys
all_back P [] ys a = a
all_back P (x ∷ xs) ys a = all_back P xs ys (All-tail P x (xs ++ ys) a)

pub all_front : {X : Type 0} (P : X → Type 0) (xs ys : List X) → All P (xs ++ ys) → All P xs
all_front P [] ys a = All-nil P
all_front P (x ∷ xs) ys a = All-cons P x xs (All-head P x (xs ++ ys) a) (all_front P xs ys (All-tail P x (xs ++ ys) a))

pub all_of_map : {X Y : Type 0} (P : Y → Type 0) (f : X → Y) (xs : List X) → All P (map f xs) → All (λ x. P (f x)) xs
all_of_map P f [] a = All-nil (λ x. P (f x))
all_of_map P f (x ∷ xs) a = All-cons (λ y. P (f y)) x xs (All-head P (f x) (map f xs) a) (all_of_map P f xs (All-tail P (f x) (map f xs) a))

pub all_at : {X : Type 0} (P : X → Type 0) (xs : List X) (k : ℕ) (x : X) → All P xs → slice_get xs k ≡ Some x → P x
all_at P [] k x a e = absurd (none-some x e)
all_at P (y ∷ ys) zero x a e = let p : P y = All-head P y ys a in subst P (same_Some y x e) p
all_at P (y ∷ ys) (suc k) x a e = all_at P ys k x (All-tail P y ys a) e

pub nil_of : {X : Type 0} (xs : List X) → length xs ≡ 0 → xs ≡ []
nil_of [] e = refl
nil_of (x ∷ xs) e = absurd (omega arith)

-- no more long letters are among the first ones than in all
pub copied_long : (n : ℕ) (ls : List Letter) → fetched_before n ls ≤ length (long_letters ls)
copied_long zero ls = omega arith
copied_long (suc n) [] = omega arith
copied_long (suc n) (l ∷ ls) = subst (λ (k : ℕ). k ≤ length (long_letters (l ∷ ls))) (sym (fetched_cons n l ls)) (by (copied_long n ls) (is_rendezvous l.body))
  where
    by : fetched_before n ls ≤ length (long_letters ls) → (b : Bool) → one_if b + fetched_before n ls ≤ length (cond b (l ∷ long_letters ls) (long_letters ls))
    by h true = omega arith
    by h false = omega arith

-- ---- messages

-- a message fits its place
pub message_fits : (i : ℕ) (l : Letter) → length (message_of i l) ≤ place_bytes
unfolding header_bytes big_bytes
message_fits i l = by (is_rendezvous l.body) refl
  where
    by : (b : Bool) → is_rendezvous l.body ≡ b → length (header_bytes (header_for i l) ++ (if b then [] else l.body)) ≤ 4096
    by true e = simp length-append (omega arith)
    by false e = let short : length l.body ≤ 4080 = ltb-false 4080 (length l.body) e in simp length-append (omega arith)

pub holds_as : (i : ℕ) (old new : List ℕ) (P : ℕ → Type 0) → ((k n : ℕ) → P k → n ≤ place_bytes → cut (place_bytes * k) n new ≡ cut (place_bytes * k) n old) →
    (xs : List (ℕ × ℕ)) (ls : List Letter) → All (λ x. P x.0) xs → HoldMessages i old xs ls → HoldMessages i new xs ls
holds_as i old new P same [] ls a h = tt
holds_as i old new P same (x ∷ xs) [] a h = h
holds_as i old new P same (x ∷ xs) (l ∷ ls) a h =
    let fits : x.1 ≤ place_bytes = let m = message_fits i l in omega (arith, h.0, m) in
    (h.0, same x.0 x.1 (All-head (λ y. P y.0) x xs a) fits ∙ h.1, holds_as i old new P same xs ls (All-tail (λ y. P y.0) x xs a) h.2)

pub part_as : (i : ℕ) (old new : List ℕ) (into : ℕ) (o : Option Receive) (l : Option Letter) → ((v : Receive) → o ≡ Some v → cut (place_bytes * v.id) into new ≡ cut (place_bytes * v.id) into old) →
    HoldsPart i old into o l → HoldsPart i new into o l
part_as i old new into None l same h = h
part_as i old new into (Some v) None same h = h
part_as i old new into (Some v) (Some l) same h = (h.0, same v refl ∙ h.1)
