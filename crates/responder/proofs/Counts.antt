-- Each completion of a request is that of a receive that waited.
use Rattle.std.proofs.Common.{◌≡◌, ℕ, ◌+◌, ◌<◌, Bool, true, false, [], ◌++◌, length, refl, ap, arith, length-append, length-drop}
use Rattle.std.specs.Prelude.{◌||◌, ◌&&◌, not, Option, Some, None, is_some}
use Rattle.rdma_types.specs.declared.requests.Receive.{Receive}
use Rattle.rdma_types.specs.Objects.{Region}
use Rattle.protocol.specs.declared.wire.AtomicEth.{AtomicEth}
use Rattle.protocol.specs.EndWords.{in_use_by, with_receiver}
use Rattle.protocol.specs.Responder as words
use Rattle.protocol.specs.Responder.{Part, First, Middle, Last, Only, NoPart, begins, finishes, front, is_empty, is_not_ready, is_out_of_place, is_part, is_send, is_write, part_of, place_of, receive_of, same_kind}
use Rattle.protocol.specs.State.{Progress, NoMessage, InSend, InWrite, Receiver}
use Rattle.protocol.specs.Wire.{Packet}
use Rattle.responder.specs.declared.answers.Reply.{Reply}
use Rattle.responder.specs.declared.answers.Reply.TheVariants.{SequenceNak}
use Rattle.responder.specs.Receiving.{waiting}
use Rattle.responder.specs.Taking.{Around, Taking, bytes_of, end_of, executed_by, link_of, receives, send_taking, taking, too_long_taking, word_taking, write_taking}
use Rattle.responder.proofs.Acts.{send-finds, some-unused}
use Rattle.responder.proofs.Cases.{Names, by-rows}
use Rattle.protocol.proofs.WriteSizes.{write-part}
use Rattle.responder.proofs.Kindly.{IsValid, send-part, write-not-send}

-- no receive is in use where a WRITE is valid
no-use : (n : ℕ) (p : Progress) → is_write n ≡ true → not (same_kind n p) ≡ false → in_use_by p ≡ []
no-use n NoMessage w k = refl
no-use n (InSend done r) w k = absurd (let no = write-not-send n w in let yes : is_send n ≡ true = not-false (is_send n) k in cc (no, yes))
  where
    not-false : (b : Bool) → not b ≡ false → b ≡ true
    not-false true e = refl
    not-false false e = absurd (cc)
no-use n (InWrite region off count done) w k = refl

outside : (p : Progress) → words.in_message p ≡ false → in_use_by p ≡ []
outside NoMessage e = refl
outside (InSend done r) e = absurd (cc)
outside (InWrite region off count done) e = absurd (cc)

pub write-uses-none : (n : ℕ) (q : Part) (p : Progress) → is_write n ≡ true → is_part q ≡ true → is_out_of_place q n p ≡ false → in_use_by p ≡ []
write-uses-none n First p w part out = outside p out
write-uses-none n Only p w part out = outside p out
write-uses-none n Middle p w part out = no-use n p w out
write-uses-none n Last p w part out = no-use n p w out
write-uses-none n NoPart p w part out = absurd (cc)

-- the receive of a SEND is there
pub send-there : (a : Around) (d : Packet) → is_send d.opcode ≡ true → IsValid (link_of a) d → is_not_ready (end_of a) d ≡ false → 0 < length (in_use_by a.receiver.progress ++ a.unused)
send-there a d s valid ready = send-finds d.opcode (part_of d.opcode) a.receiver.progress (is_write d.opcode && is_some d.imm) a.unused s (send-part d.opcode s) valid.placed ready

-- as many receives wait, with those that are completed
abbrev pub AreCounted : Around → Taking → Type 0
AreCounted a t = waiting t.receiver t.unused + length t.done ≡ waiting a.receiver a.unused

counted-same : (a : Around) (reply : Reply) (r : Receiver) → r.progress ≡ a.receiver.progress → AreCounted a (receives a reply r)
counted-same a reply r e = let l = ap (λ p. length (in_use_by p)) e in omega (arith, l)

counted-short : (a : Around) (d : Packet) → is_send d.opcode ≡ true → IsValid (link_of a) d → is_not_ready (end_of a) d ≡ false → AreCounted a (too_long_taking a)
unfolding too_long_taking
counted-short a d s valid ready = omega (arith, send-there a d s valid ready, length-append (in_use_by a.receiver.progress) a.unused, length-drop 1 (in_use_by a.receiver.progress ++ a.unused))

counted-send : (a : Around) (d : Packet) (r : Receive) (before : ℕ) → is_send d.opcode ≡ true → IsValid (link_of a) d → is_not_ready (end_of a) d ≡ false → AreCounted a (send_taking a d r before)
unfolding send_taking
counted-send a d r before s valid ready = by_test (finishes (part_of d.opcode)) refl
  where
    by_test : (b : Bool) → finishes (part_of d.opcode) ≡ b → AreCounted a (send_taking a d r before)
    by_test true t = rw t (omega (arith, send-there a d s valid ready, length-append (in_use_by a.receiver.progress) a.unused, length-drop 1 (in_use_by a.receiver.progress ++ a.unused)))
    by_test false t = rw t (omega (arith, send-there a d s valid ready, length-append (in_use_by a.receiver.progress) a.unused, length-drop 1 (in_use_by a.receiver.progress ++ a.unused)))

-- an unused receive is there for an immediate
imm-there : (a : Around) (d : Packet) → is_write d.opcode ≡ true → is_some d.imm ≡ true → is_not_ready (end_of a) d ≡ false → 0 < length a.unused
imm-there a d w i ready = some-unused a.unused (both (is_send d.opcode && begins (part_of d.opcode)) (is_write d.opcode) (is_some d.imm) (is_empty a.unused) w i ready)
  where
    both : (x y z e : Bool) → y ≡ true → z ≡ true → ((x || (y && z)) && e) ≡ false → e ≡ false
    both true true true e y z h = h
    both false true true e y z h = h
    both x false z e y z' h = absurd (cc)
    both x true false e y z' h = absurd (cc)

counted-write : (a : Around) (d : Packet) (p : words.Place) → is_write d.opcode ≡ true → IsValid (link_of a) d → is_not_ready (end_of a) d ≡ false → AreCounted a (write_taking a d p)
unfolding write_taking
counted-write a d p w valid ready = by_tests (finishes (part_of d.opcode)) refl d.imm refl
  where
    none : length (in_use_by a.receiver.progress) ≡ 0
    none = ap length (write-uses-none d.opcode (part_of d.opcode) a.receiver.progress w (write-part d.opcode w) valid.placed)

    by_tests : (b : Bool) → finishes (part_of d.opcode) ≡ b → (o : Option ℕ) → d.imm ≡ o → AreCounted a (write_taking a d p)
    by_tests true t None i = rw t (rw i (omega (arith, none)))
    by_tests true t (Some imm) i = let there = imm-there a d w (ap is_some i) ready in rw t (rw i (omega (arith, none, there, length-drop 1 a.unused)))
    by_tests false t o i = rw t (omega (arith, none))

counted-word : (a : Around) (d : Packet) (r : Region) (n : ℕ) (h : AtomicEth) (old : ℕ) → AreCounted a (word_taking a d r n h old)
unfolding word_taking words.executed with_receiver
counted-word a d r n h old = omega arith

executed-keeps : (a : Around) (d : Packet) → (executed_by a d).progress ≡ a.receiver.progress
unfolding words.executed with_receiver
executed-keeps a d = refl

pub counted : (a : Around) (d : Packet) → Names d → AreCounted a (taking a d)
counted a d = by-rows a d (AreCounted a) (record {
  quiet = λ reply no. counted-same a reply a.receiver refl;
  nak = counted-same a SequenceNak (record a.receiver { nak_sent = true }) refl;
  reread = λ r h n before t. counted-same a (bytes_of a r h n) a.receiver refl;
  read = λ r h n now t. counted-same a (bytes_of a r h n) (executed_by a d) (executed-keeps a d);
  too_long = λ s valid ready. counted-short a d s valid ready;
  send = λ s valid ready fits. counted-send a d _ _ s valid ready;
  write = λ r w valid ready t. counted-write a d _ w valid ready;
  word = λ r h n old now e t. counted-word a d r n h old;
})
