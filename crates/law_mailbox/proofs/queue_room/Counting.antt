-- Places that are moved from one list to another are there as often as before.
use Rattle.std.proofs.Common.{arith, ◌≡◌, ◌≢◌, ℕ, ◌+◌, List, [], ◌∷◌, ◌++◌, true, false, Bool, refl, sym, ap, ◌∙◌, Some, None, Option, ◌⊎◌, inl, inr, eq-eqb}
use Rattle.std.specs.Prelude.{All, count_by, ◌==◌, slice_get, drop, map, option_to_list}
use Rattle.std.proofs.lemmas.List.Elements.{All-append, All-cons, All-head, All-nil, All-push, All-tail}
use Rattle.std.proofs.lemmas.Option.{none-some, same_Some}
use Rattle.rdma_types.specs.declared.requests.Receive.{Receive}
use Rattle.packetless_machine.specs.Machine.{End}
use Rattle.packetless_machine.specs.Steps.{first_receive, unused_after}
use Rattle.law_mailbox.specs.Kept.{places}
use Rattle.law_mailbox.proofs.queue_room.Counts.{count_both, count_cons, one_if}
use Rattle.law_mailbox.proofs.connection.Places.{all_back, all_front}

-- ---- counts

-- how often a place is there
abbrev pub often : ℕ → List ℕ → ℕ
often k xs = count_by (λ x. x == k) xs

module _ (k y : ℕ) (front copied behind : List ℕ) where
  -- in front, then one, then those to be copied, and others behind
  pub often_first : often k ((y ∷ front) ++ (copied ++ behind)) ≡ often k front + (one_if (y == k) + (often k copied + often k behind))
  often_first =
      let first = count_cons (λ x. x == k) y (front ++ (copied ++ behind)) in
      let a = count_both (λ x. x == k) front (copied ++ behind) in
      let b = count_both (λ x. x == k) copied behind in
      omega (arith, first, a, b)

  pub often_between : often k (front ++ (y ∷ (copied ++ behind))) ≡ often k front + (one_if (y == k) + (often k copied + often k behind))
  often_between =
      let first = count_cons (λ x. x == k) y (copied ++ behind) in
      let a = count_both (λ x. x == k) front (y ∷ (copied ++ behind)) in
      let b = count_both (λ x. x == k) copied behind in
      omega (arith, first, a, b)

  pub often_last : often k (front ++ ((copied ++ y ∷ []) ++ behind)) ≡ often k front + (one_if (y == k) + (often k copied + often k behind))
  often_last =
      let a = count_both (λ x. x == k) front ((copied ++ y ∷ []) ++ behind) in
      let b = count_both (λ x. x == k) (copied ++ y ∷ []) behind in
      let d = count_both (λ x. x == k) copied (y ∷ []) in
      let first = count_cons (λ x. x == k) y [] in
      omega (arith, first, a, b, d)

-- a place that is never there is no one of them
pub never : (k : ℕ) (xs : List ℕ) → often k xs ≡ 0 → All (λ x. x ≢ k) xs
never k [] h = All-nil (λ x. x ≢ k)
never k (x ∷ xs) h = by (x == k) refl (never k xs) (sym (count_cons (λ y. y == k) x xs) ∙ h)
  where
    by : (b : Bool) → (x == k) ≡ b → (often k xs ≡ 0 → All (λ z. z ≢ k) xs) → one_if b + often k xs ≡ 0 → All (λ z. z ≢ k) (x ∷ xs)
    by true e rest f = absurd (omega arith)
    by false e rest f = All-cons (λ z. z ≢ k) x xs (λ same. let t : (x == k) ≡ true = eq-eqb x k same in let c : true ≡ false = sym t ∙ e in cc) (rest (omega arith))

-- ---- all of them

module _ (P : ℕ → Type 0) (y : ℕ) (front copied behind : List ℕ) where
  pub all_between : All P ((y ∷ front) ++ (copied ++ behind)) → All P (front ++ (y ∷ (copied ++ behind)))
  all_between a =
      let rest : All P (front ++ (copied ++ behind)) = All-tail P y (front ++ (copied ++ behind)) a in
      All-append P front (y ∷ (copied ++ behind)) (all_front P front (copied ++ behind) rest)
      (All-cons P y (copied ++ behind) (All-head P y (front ++ (copied ++ behind)) a) (all_back P front (copied ++ behind) rest))

  pub all_last : All P (front ++ (y ∷ (copied ++ behind))) → All P (front ++ ((copied ++ y ∷ []) ++ behind))
  all_last a =
      let rest : All P (y ∷ (copied ++ behind)) = all_back P front (y ∷ (copied ++ behind)) a in
      let more : All P (copied ++ behind) = All-tail P y (copied ++ behind) rest in
      All-append P front ((copied ++ y ∷ []) ++ behind) (all_front P front (y ∷ (copied ++ behind)) a)
      (All-append P (copied ++ y ∷ []) behind (All-push P copied y (all_front P copied behind more) (All-head P y (copied ++ behind) rest)) (all_back P copied behind more))

-- both of two things
pub all_both : {X : Type 0} (P Q : X → Type 0) (xs : List X) → All P xs → All Q xs → All (λ x. P x × Q x) xs
all_both P Q [] a b = All-nil (λ x. P x × Q x)
all_both P Q (x ∷ xs) a b = All-cons (λ y. P y × Q y) x xs (All-head P x xs a, All-head Q x xs b) (all_both P Q xs (All-tail P x xs a) (All-tail Q x xs b))

-- ---- the receive of a message

head_is : (vs : List Receive) (v : Receive) → slice_get vs 0 ≡ Some v → vs ≡ v ∷ drop 1 vs
head_is [] v h = absurd (none-some v h)
head_is (u ∷ vs) v h = ap (λ (w : Receive). w ∷ vs) (same_Some u v h)

-- it is in use, or the first unused one
pub receive_is : (x : End) (v : Receive) → first_receive x.in_use x.unused ≡ Some v → ((x.in_use ≡ Some v) × (unused_after x ≡ x.unused)) ⊎ ((x.in_use ≡ None) × (x.unused ≡ v ∷ unused_after x))
unfolding first_receive unused_after
receive_is x v h = by x.in_use refl h
  where
    by : (o : Option Receive) → x.in_use ≡ o → first_receive o x.unused ≡ Some v → ((x.in_use ≡ Some v) × (unused_after x ≡ x.unused)) ⊎ ((x.in_use ≡ None) × (x.unused ≡ v ∷ unused_after x))
    by (Some u) e f = inl (e ∙ f, rw e refl)
    by None e f = inr (e, rw e (head_is x.unused v f))

-- ---- the four lists of places

pub often_places : (k : ℕ) (unused : List Receive) (in_use : Option Receive) (copied : List (ℕ × ℕ)) (reposted : List ℕ) →
    often k (places unused in_use copied reposted) ≡ often k (map (λ v. v.id) unused) + (often k (map (λ v. v.id) (option_to_list in_use)) + (often k (map (λ x. x.0) copied) + often k reposted))
often_places k unused in_use copied reposted =
    let a = count_both (λ x. x == k) (map (λ v. v.id) unused) (map (λ v. v.id) (option_to_list in_use) ++ (map (λ x. x.0) copied ++ reposted)) in
    let b = count_both (λ x. x == k) (map (λ v. v.id) (option_to_list in_use)) (map (λ x. x.0) copied ++ reposted) in
    let d = count_both (λ x. x == k) (map (λ x. x.0) copied) reposted in
    omega (arith, a, b, d)

pub often_insert : (k y : ℕ) (front behind : List ℕ) → often k (front ++ (y ∷ behind)) ≡ often k (front ++ behind) + one_if (y == k)
often_insert k y front behind =
    let first = count_cons (λ x. x == k) y behind in
    let a = count_both (λ x. x == k) front (y ∷ behind) in
    let b = count_both (λ x. x == k) front behind in
    omega (arith, first, a, b)

module _ (P : ℕ → Type 0) where
  pub all_insert : (y : ℕ) (front behind : List ℕ) → All P (front ++ (y ∷ behind)) → P y × All P (front ++ behind)
  all_insert y front behind a =
      let rest : All P (y ∷ behind) = all_back P front (y ∷ behind) a in
      (All-head P y behind rest, All-append P front behind (all_front P front (y ∷ behind) a) (All-tail P y behind rest))

  pub all_inserted : (y : ℕ) (front behind : List ℕ) → P y → All P (front ++ behind) → All P (front ++ (y ∷ behind))
  all_inserted y front behind p a = All-append P front (y ∷ behind) (all_front P front behind a) (All-cons P y behind p (all_back P front behind a))

  pub all_four : (unused : List Receive) (in_use : Option Receive) (copied : List (ℕ × ℕ)) (reposted : List ℕ) → All P (places unused in_use copied reposted) →
      All P (map (λ v. v.id) unused) × All P (map (λ v. v.id) (option_to_list in_use)) × All P (map (λ x. x.0) copied) × All P reposted
  all_four unused in_use copied reposted a =
      let b : All P (map (λ v. v.id) (option_to_list in_use) ++ (map (λ x. x.0) copied ++ reposted)) = all_back P (map (λ v. v.id) unused) (map (λ v. v.id) (option_to_list in_use) ++ (map (λ x. x.0) copied ++ reposted)) a in
      let d : All P (map (λ x. x.0) copied ++ reposted) = all_back P (map (λ v. v.id) (option_to_list in_use)) (map (λ x. x.0) copied ++ reposted) b in (
        all_front P (map (λ v. v.id) unused) (map (λ v. v.id) (option_to_list in_use) ++ (map (λ x. x.0) copied ++ reposted)) a,
        all_front P (map (λ v. v.id) (option_to_list in_use)) (map (λ x. x.0) copied ++ reposted) b,
        all_front P (map (λ x. x.0) copied) reposted d,
        all_back P (map (λ x. x.0) copied) reposted d,
      )

  pub all_whole : (unused : List Receive) (in_use : Option Receive) (copied : List (ℕ × ℕ)) (reposted : List ℕ) → All P (map (λ v. v.id) unused) → All P (map (λ v. v.id) (option_to_list in_use)) → All P (map (λ x. x.0) copied) → All P reposted →
      All P (places unused in_use copied reposted)
  all_whole unused in_use copied reposted a b d e =
      All-append P (map (λ v. v.id) unused) (map (λ v. v.id) (option_to_list in_use) ++ (map (λ x. x.0) copied ++ reposted)) a
      (All-append P (map (λ v. v.id) (option_to_list in_use)) (map (λ x. x.0) copied ++ reposted) b (All-append P (map (λ x. x.0) copied) reposted d e))
