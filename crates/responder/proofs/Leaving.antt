-- What an answer leaves as it was.
use Rattle.std.proofs.Common.{◌≡◌, ℕ, Bool, true, false, refl}
use Rattle.std.specs.Prelude.{◌||◌}
use Rattle.rdma_types.specs.declared.requests.Receive.{Receive}
use Rattle.rdma_types.specs.Objects.{Region}
use Rattle.protocol.specs.declared.wire.AtomicEth.{AtomicEth}
use Rattle.protocol.specs.Responder as words
use Rattle.protocol.specs.Responder.{finishes, part_of}
use Rattle.protocol.specs.Wire.{Packet}
use Rattle.responder.specs.declared.answers.Reply.{Reply}
use Rattle.responder.specs.declared.answers.Reply.TheVariants.{Ack, Acted, AtomicOld, DupAck, NotReady, ReadBytes, Refused, SequenceNak, Silent}
use Rattle.responder.specs.Taken.{IsAsBefore, Leaves}
use Rattle.responder.specs.Taking.{Around, Taking, answers, send_taking, taking, too_long_taking, word_taking, write_taking}
use Rattle.responder.proofs.Cases.{Names, by-rows}

-- what a row leaves
abbrev pub LeavesBe : Around → Taking → Type 0
LeavesBe a t = Leaves a.receiver a.regions a.unused t t.reply

as-before : (a : Around) (reply : Reply) → IsAsBefore a.receiver a.regions a.unused (answers a reply)
as-before a reply = record { receiver = refl; regions = refl; unused = refl; done = refl }

quiet-leaves : (a : Around) (reply : Reply) → LeavesBe a (answers a reply)
quiet-leaves a Acted = tt
quiet-leaves a Ack = tt
quiet-leaves a (ReadBytes spot first count) = λ other. as-before a (ReadBytes spot first count)
quiet-leaves a (AtomicOld number old) = λ other. as-before a (AtomicOld number old)
quiet-leaves a SequenceNak = record { expected = refl; msn = refl }
quiet-leaves a NotReady = as-before a NotReady
quiet-leaves a (Refused w) = record { expected = refl; msn = refl }
quiet-leaves a DupAck = as-before a DupAck
quiet-leaves a (Silent w) = as-before a (Silent w)

short-leaves : (a : Around) → LeavesBe a (too_long_taking a)
unfolding too_long_taking
short-leaves a = record { expected = refl; msn = refl }

send-leaves : (a : Around) (d : Packet) (r : Receive) (before : ℕ) → LeavesBe a (send_taking a d r before)
unfolding send_taking
send-leaves a d r before = by_test (finishes (part_of d.opcode) || d.ack_request) refl
  where
    by_test : (b : Bool) → (finishes (part_of d.opcode) || d.ack_request) ≡ b → LeavesBe a (send_taking a d r before)
    by_test true t = rw t tt
    by_test false t = rw t tt

write-leaves : (a : Around) (d : Packet) (p : words.Place) → LeavesBe a (write_taking a d p)
unfolding write_taking
write-leaves a d p = by_test (finishes (part_of d.opcode) || d.ack_request) refl
  where
    by_test : (b : Bool) → (finishes (part_of d.opcode) || d.ack_request) ≡ b → LeavesBe a (write_taking a d p)
    by_test true t = rw t tt
    by_test false t = rw t tt

word-leaves : (a : Around) (d : Packet) (r : Region) (n : ℕ) (h : AtomicEth) (old : ℕ) → n ≡ a.receiver.expected → LeavesBe a (word_taking a d r n h old)
unfolding word_taking
word-leaves a d r n h old now = λ other. absurd (other now)

pub leaving : (a : Around) (d : Packet) → Names d → LeavesBe a (taking a d)
leaving a d = by-rows a d (LeavesBe a) (record {
  quiet = λ reply e. quiet-leaves a reply;
  nak = record { expected = refl; msn = refl };
  reread = λ r h n before t other. as-before a _;
  read = λ r h n now t other. absurd (other now);
  too_long = λ s valid ready. short-leaves a;
  send = λ s valid ready fits. send-leaves a d _ _;
  write = λ r w valid ready t. write-leaves a d _;
  word = λ r h n old now e t. word-leaves a d r n h old now;
})
