-- What is held of flags: no error stands but where its end has ended, and each flag is set for a reason. What keeps it, of any change.
use Rattle.std.proofs.Common.{◌≡◌, ℕ, ◌≤◌, List, length, true, sym, ◌∙◌, ◌⊎◌, inl, inr, arith}
use Rattle.rdma_types.specs.declared.names.ObjName.{ObjName}
use Rattle.protocol.specs.State.{World}
use Rattle.packetless_machine.specs.Machine.{Machine, end_of, has_end}
use Rattle.law_simulation.specs.Stands.{Stands}
use Rattle.mailbox_rules.specs.declared.letters.Letter.{Letter}
use Rattle.mailbox_rules.specs.Histories.{Turn, sent_letters}
use Rattle.mailbox_rules.specs.Opening.{receiver_end, sender_end}
use Rattle.mailbox_rules.specs.State.{Mail, channel}
use Rattle.law_mailbox.specs.Few.{IsHeldFew}
use Rattle.law_mailbox.specs.Flagged.{AreFlagsTrue, IsOverSince, has_failed}
use Rattle.law_mailbox.proofs.flags.Errors.{AreErrorsTrue, AreThere, GoesTrue, errors_alike}
use Rattle.law_mailbox.proofs.flags.Setting.{FlagsFrom}
use Rattle.law_mailbox.proofs.queue_room.FewMachines.{failed_as, there_too}

-- in each machine that the world stands for errors are true, and so are the flags
pub record IsHeldTrue (peers : ℕ) (ts : List Turn) (m : Mail) : Type 0 where
  pub few : IsHeldFew peers ts m
  pub errors : (machine : Machine) → Stands m.world machine → AreErrorsTrue peers machine
  pub flags : AreFlagsTrue peers ts m

-- why ends of a world may count as ended, after these turns
abbrev pub ReceiverReason : World → List Turn → ℕ → Type 0
ReceiverReason w ts q = IsOverSince w (receiver_end q) (sent_letters q ts)

abbrev pub SenderReason : World → List Turn → ℕ → Type 0
SenderReason w ts q = IsOverSince w (sender_end q) (sent_letters q ts)

-- what a change leaves
pub record ChangesTrue (peers : ℕ) (ts : List Turn) (m m' : Mail) (machine : Machine) : Type 0 where
  pub machine' : Machine
  pub stands : Stands m'.world machine'
  pub goes : GoesTrue peers machine machine'
  pub flags : FlagsFrom peers (ReceiverReason m'.world ts) (SenderReason m'.world ts) m m'

-- an end that has ended is in Error, in each world that stands for it
pub failed_is : (w : World) (m : Machine) (o : ObjName) → Stands w m → has_end m o ≡ true → (end_of m o).ended ≡ has_failed w o
failed_is w m o s there = failed_as w m m s s o there

still_over : (peers : ℕ) (w w' : World) (m m' : Machine) (o : ObjName) (sent sent' : List Letter) → Stands w m → Stands w' m' → has_end m o ≡ true → has_end m' o ≡ true → length sent ≤ length sent' →
    ((end_of m o).ended ≡ true → (end_of m' o).ended ≡ true) → IsOverSince w o sent → IsOverSince w' o sent'
still_over peers w w' m m' o sent sent' s s' there there' more stays (inl failed) = inl (sym (failed_is w' m' o s' there') ∙ stays (failed_is w m o s there ∙ failed))
still_over peers w w' m m' o sent sent' s s' there there' more stays (inr many) = inr (omega (arith, many, more))

module _ (peers : ℕ) (ts ts' : List Turn) (m m' : Mail) (h : IsHeldTrue peers ts m) (few : IsHeldFew peers ts' m') (more : (i : ℕ) → length (sent_letters i ts) ≤ length (sent_letters i ts')) (c : ChangesTrue peers ts' m m' h.few.machine) where
  there : AreThere peers few.machine
  there i low high = let o = few.all.opened i low high in (o.receiver_there, o.sender_there)

  there_now : AreThere peers c.machine'
  there_now i low high = let t = there i low high in (there_too m'.world few.machine c.machine' few.stands c.stands (receiver_end i) t.0, there_too m'.world few.machine c.machine' few.stands c.stands (sender_end i) t.1)

  errors_then : AreErrorsTrue peers c.machine'
  errors_then = c.goes.errors (h.errors h.few.machine h.few.stands)

  receiver_flags : (i : ℕ) → 1 ≤ i → i ≤ peers → (channel m' i).receiver_ended ≡ true → ReceiverReason m'.world ts' i
  receiver_flags i low high set = by (c.flags.at_receiver i low high set)
    where
      by : ((channel m i).receiver_ended ≡ true) ⊎ ReceiverReason m'.world ts' i → ReceiverReason m'.world ts' i
      by (inl old) =
          still_over peers m.world m'.world h.few.machine c.machine' (receiver_end i) (sent_letters i ts) (sent_letters i ts') h.few.stands c.stands (h.few.all.opened i low high).receiver_there
          (there_now i low high).0 (more i) (c.goes.receiver_stays i low high) (h.flags.at_receiver i low high old)
      by (inr reason) = reason

  sender_flags : (i : ℕ) → 1 ≤ i → i ≤ peers → (channel m' i).sender_ended ≡ true → SenderReason m'.world ts' i
  sender_flags i low high set = by (c.flags.at_sender i low high set)
    where
      by : ((channel m i).sender_ended ≡ true) ⊎ SenderReason m'.world ts' i → SenderReason m'.world ts' i
      by (inl old) =
          still_over peers m.world m'.world h.few.machine c.machine' (sender_end i) (sent_letters i ts) (sent_letters i ts') h.few.stands c.stands (h.few.all.opened i low high).sender_there
          (there_now i low high).1 (more i) (c.goes.sender_stays i low high) (h.flags.at_sender i low high old)
      by (inr reason) = reason

  pub then_true : IsHeldTrue peers ts' m'
  then_true = record {
    few = few;
    errors = λ x s. errors_alike peers m'.world c.machine' x c.stands s there_now errors_then;
    flags = record { at_receiver = receiver_flags; at_sender = sender_flags };
  }
