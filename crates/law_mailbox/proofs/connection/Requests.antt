-- The requests of the receiver's end: a Read for each long letter, and a Send of no bytes behind it.
use Rattle.std.proofs.Common.{arith, ◌≡◌, ℕ, zero, suc, ◌+◌, ◌*◌, ◌/◌, ◌%◌, ◌<◌, List, [], ◌∷◌, ◌++◌, length, get_or, true, false, Bool, cond, refl, subst, ap, ◌∙◌, Some}
use Rattle.std.specs.Prelude.{slice_get}
use Rattle.std.proofs.lemmas.List.{get_or-take}
use Rattle.std.proofs.lemmas.Option.{none-some, same_Some}
use Rattle.rdma_types.specs.Kinds.{size_of}
use Rattle.rdma_types.specs.Objects.{Posted, no_posted}
use Rattle.packetless_machine.specs.Machine.{posted_at}
use Rattle.mailbox_rules.specs.declared.letters.Letter.{Letter}
use Rattle.mailbox_rules.specs.Histories.{fetched_before}
use Rattle.mailbox_rules.specs.Letters.{is_rendezvous}
use Rattle.law_mailbox.proofs.queue_room.Counts.{fetched_cons, one_if}
use Rattle.law_mailbox.specs.Kept.{IsQueueOfReceiver, freed_as, long_letters, read_as, requests_for}

pub even_is : (i : ℕ) (ls : List Letter) (q k : ℕ) (l : Letter) → k ≡ 2 * q → slice_get ls q ≡ Some l → get_or (requests_for i ls) k no_posted ≡ read_as i l
even_is i [] q k l e h = absurd (none-some l h)
even_is i (x ∷ ls) zero zero l e h = ap (read_as i) (same_Some x l h)
even_is i (x ∷ ls) zero (suc k) l e h = absurd (omega arith)
even_is i (x ∷ ls) (suc q) zero l e h = absurd (omega arith)
even_is i (x ∷ ls) (suc q) (suc zero) l e h = absurd (omega arith)
even_is i (x ∷ ls) (suc q) (suc (suc k)) l e h = even_is i ls q k l (omega arith) h

-- at an even place stands the Read of a long letter
pub read_at : (i : ℕ) (posted : List Posted) (sent : List Letter) (k : ℕ) (l : Letter) → IsQueueOfReceiver i posted sent → k < length posted → k % 2 ≡ 0 →
    slice_get (long_letters sent) (k / 2) ≡ Some l → posted_at posted k ≡ read_as i l
read_at i posted sent k l queue within even at =
    let twice : k ≡ 2 * (k / 2) = omega arith in
    ap (λ (ps : List Posted). get_or ps k no_posted) queue
    ∙ (get_or-take (length posted) (requests_for i (long_letters sent)) k no_posted within
    ∙ even_is i (long_letters sent) (k / 2) k l twice at)

-- its size is that of the body
pub read_size : (i : ℕ) (posted : List Posted) (sent : List Letter) (k : ℕ) (l : Letter) → IsQueueOfReceiver i posted sent → k < length posted → k % 2 ≡ 0 →
    slice_get (long_letters sent) (k / 2) ≡ Some l → size_of (posted_at posted k) ≡ length l.body
read_size i posted sent k l queue within even at = ap size_of (read_at i posted sent k l queue within even at)

-- at an odd place stands a Send of no bytes
pub odd_is : (i : ℕ) (ls : List Letter) (q k : ℕ) → k ≡ 2 * q + 1 → q < length ls → get_or (requests_for i ls) k no_posted ≡ freed_as
odd_is i [] q k e h = absurd (omega arith)
odd_is i (x ∷ ls) q zero e h = absurd (omega arith)
odd_is i (x ∷ ls) zero (suc zero) e h = refl
odd_is i (x ∷ ls) zero (suc (suc k)) e h = absurd (omega arith)
odd_is i (x ∷ ls) (suc q) (suc zero) e h = absurd (omega arith)
odd_is i (x ∷ ls) (suc q) (suc (suc k)) e h = odd_is i ls q k (omega arith) (omega arith)

pub requests_long : (i : ℕ) (ls : List Letter) → length (requests_for i ls) ≡ 2 * length ls
requests_long i [] = refl
requests_long i (x ∷ ls) = let more : length (requests_for i ls) ≡ 2 * length ls = requests_long i ls in omega (arith, more)

pub requests_append : (i : ℕ) (ls more : List Letter) → requests_for i (ls ++ more) ≡ requests_for i ls ++ requests_for i more
requests_append i [] more = refl
requests_append i (x ∷ ls) more = ap (λ (ps : List Posted). read_as i x ∷ freed_as ∷ ps) (requests_append i ls more)

-- a long letter is one that was sent, behind as many long ones
pub record IsLong (ls : List Letter) (q : ℕ) (l : Letter) : Type 0 where
  pub place : ℕ
  pub at : slice_get ls place ≡ Some l
  pub long : is_rendezvous l.body ≡ true
  pub counted : fetched_before place ls ≡ q

pub long_from : (ls : List Letter) (q : ℕ) (l : Letter) → slice_get (long_letters ls) q ≡ Some l → IsLong ls q l
long_from [] q l h = absurd (none-some l h)
long_from (x ∷ ls) q l h = by (long_from ls) (is_rendezvous x.body) refl q h
  where
    behind : (q : ℕ) → IsLong ls q l → (n : ℕ) → one_if (is_rendezvous x.body) + q ≡ n → IsLong (x ∷ ls) n l
    behind q is n e = record { place = suc is.place; at = is.at; long = is.long; counted = let c = is.counted in omega (arith, c, e, fetched_cons is.place x ls) }

    by : ((q : ℕ) (l : Letter) → slice_get (long_letters ls) q ≡ Some l → IsLong ls q l) → (b : Bool) → is_rendezvous x.body ≡ b → (q : ℕ) → slice_get (cond b (x ∷ long_letters ls) (long_letters ls)) q ≡ Some l → IsLong (x ∷ ls) q l
    by rest true e zero f = record { place = 0; at = f; long = subst (λ (z : Letter). is_rendezvous z.body ≡ true) (same_Some x l f) e; counted = refl }
    by rest true e (suc q) f = behind q (rest q l f) (suc q) (let one : one_if (is_rendezvous x.body) ≡ 1 = ap one_if e in omega (arith, one))
    by rest false e q f = behind q (rest q l f) q (let none : one_if (is_rendezvous x.body) ≡ 0 = ap one_if e in omega (arith, none))
