-- What two lists of datagrams have in common that are the same where they are kept.
use Rattle.std.proofs.Common.{arith, ◌≡◌, ℕ, ◌+◌, ◌-◌, ◌<◌, List, ◌++◌, length, drop, take, replicate, refl, sym, ap, ◌∙◌, Bool, true, false}
use Rattle.std.proofs.lemmas.List.{length-replicate, length-take-le, take-append-drop}
use Rattle.rdma_types.specs.declared.answers.Sent.{Sent}
use Rattle.rdma_types.specs.declared.requests.Address.{Address}
use Rattle.protocol.specs.Fabric.{blank, forgetting, is_kept, kept_flight, look, losing, pending_from, pending_numbers, sending, took}
use Rattle.protocol.specs.State.{Flight}
use Rattle.protocol.proofs.Histories.{kept_flight-forgetting, kept_means, length-forgetting, look-forgetting, losing-forgetting, pending_from-skips, sending-forgetting, took-forgetting}

-- the same where they are kept
abbrev pub AreSame : List Flight → List Flight → Type 0
AreSame s t = forgetting s ≡ forgetting t

-- what is told of a list whose forgotten datagrams are blank as of the whole list is told alike
alike_told : {A : Type 0} (f : List Flight → A) → ((s : List Flight) → f (forgetting s) ≡ f s) → (s t : List Flight) → AreSame s t → f s ≡ f t
alike_told f told s t h = sym (told s) ∙ (ap f h ∙ told t)

pub count_alike : (s t : List Flight) → AreSame s t → length s ≡ length t
count_alike s t h = alike_told length length-forgetting s t h

pub kept_alike : (s t : List Flight) (k : ℕ) → AreSame s t → kept_flight s k ≡ kept_flight t k
kept_alike s t k h = alike_told (λ fs. kept_flight fs k) (λ fs. kept_flight-forgetting fs k) s t h

pub look_alike : (s t : List Flight) (k now : ℕ) → AreSame s t → look s k now ≡ look t k now
look_alike s t k now h = alike_told (λ fs. look fs k now) (λ fs. look-forgetting fs k now) s t h

pub sending_alike : (s t : List Flight) (from : Address) (more : List Sent) → AreSame s t → AreSame (sending s from more) (sending t from more)
sending_alike s t from more h = alike_told (λ fs. forgetting (sending fs from more)) (λ fs. sending-forgetting fs from more) s t h

pub took_alike : (s t : List Flight) (k : ℕ) → AreSame s t → AreSame (took s k) (took t k)
took_alike s t k h = sym (took-forgetting s k) ∙ (ap (λ fs. took fs k) h ∙ took-forgetting t k)

pub losing_alike : (s t : List Flight) (k : ℕ) → AreSame s t → AreSame (losing s k) (losing t k)
losing_alike s t k h = sym (losing-forgetting s k) ∙ (ap (λ fs. losing fs k) h ∙ losing-forgetting t k)

-- ---- the pending numbers

not_true : (b : Bool) → (b ≡ true → ⊥) → b ≡ false
not_true true h = absurd (h refl)
not_true false h = refl

forgotten : (count n j : ℕ) → n ≡ count - 16384 → j < 1 + n → is_kept count j ≡ false
forgotten count n j is below = not_true (is_kept count j) (λ h. let means = kept_means count j h in omega (arith, means.0, means.2))

pending_told : (s : List Flight) → pending_numbers (forgetting s) ≡ pending_numbers s
unfolding forgetting
pending_told s =
    let n = length s - 16384 in
    let blanks = length-replicate n blank in
    let front = length-take-le n s (omega arith) in
    let after_blank = pending_from-skips (length s) 1 (replicate n blank) (drop n s) (λ j above below. forgotten (length s) n j refl (omega arith)) in
    let after_front = pending_from-skips (length s) 1 (take n s) (drop n s) (λ j above below. forgotten (length s) n j refl (omega arith)) in
    let whole = take-append-drop n s in
    let rest : List ℕ = pending_from (length s) (1 + n) (drop n s) in
    let known : pending_from (length (forgetting s)) 1 (forgetting s) ≡ rest = rw (length-forgetting s, after_blank, blanks) refl in
    let all : pending_from (length s) 1 (take n s ++ drop n s) ≡ rest = rw (after_front, front) refl in
    known ∙ (sym all ∙ ap (λ (fs : List Flight). pending_from (length s) 1 fs) whole)

pub pending_alike : (s t : List Flight) → AreSame s t → pending_numbers s ≡ pending_numbers t
pending_alike s t h = alike_told pending_numbers pending_told s t h
