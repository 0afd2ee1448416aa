-- What an end does with a request is the responder's answer to it.
use Rattle.std.proofs.Common.{◌≡◌, ℕ, zero, suc, ◌+◌, ◌-◌, ◌*◌, ◌<◌, Bool, true, false, List, [], ◌∷◌, refl, ap, sym, ◌∙◌, arith, subst}
use Rattle.std.specs.Prelude.{◌==◌, ◌&&◌, if◌then◌else◌, Option, Some, None, is_some, nat_eq, nat_lt, nat_le, map, length}
use Rattle.std.specs.List.{IsDistinct, AllByRecursion}
use Rattle.std.proofs.lemmas.Bool.Decides.{nat_tests}
use Rattle.rdma_types.specs.Lists.{at, first_that}
use Rattle.rdma_types.specs.Limits.{number_limit}
use Rattle.rdma_types.specs.Memory.{cut, granted, grants, local_key, remote_key, RemoteAtomic, RemoteRead, RemoteWrite, Right, word_bytes}
use Rattle.rdma_types.specs.Objects.{Region, no_region}
use Rattle.rdma_types.specs.Spans.{pieces, piece_length}
use Rattle.rdma_types.specs.declared.names.Name.{Name}
use Rattle.protocol.specs.declared.images.KeptReply.{KeptReply}
use Rattle.protocol.specs.declared.wire.AtomicEth.{AtomicEth}
use Rattle.protocol.specs.declared.wire.Reth.{Reth}
use Rattle.rdma_types.specs.declared.answers.Sent.{Sent}
use Rattle.rdma_types.specs.declared.answers.RefusalReason.{RefusalReason}
use Rattle.rdma_types.specs.declared.answers.RefusalReason.TheVariants as refused
use Rattle.rdma_types.specs.declared.requests.Receive.{Receive}
use Rattle.rdma_types.specs.declared.answers.ArrivalEffect.TheVariants as took
use Rattle.protocol.specs.declared.wire.Syndrome.TheVariants.{Ack}
use Rattle.responder.specs.declared.answers.Reply.TheVariants.{DupAck, NotReady, Refused}
use Rattle.protocol.specs.EndWords.{EndStep, linked, to_partner, with_receiver, with_unused}
use Rattle.protocol.specs.Memory.{landed, region_of_key, with_region, word_at, written}
use Rattle.protocol.specs.Numbers.{unwrap_near}
use Rattle.protocol.specs.Responder as words
use Rattle.protocol.specs.State.{Context, End, Link}
use Rattle.protocol.specs.Wire.{Packet}
use Rattle.responder.specs.Steps.{around, step_of, with_regions}
use Rattle.responder.specs.Taking as rows

-- bytes written change the regions alone
pub written-regions : (c : Context) (key off : ℕ) (bytes : List ℕ) → written c key off bytes ≡ with_regions c (written (rows.context_of c.regions) key off bytes).regions
unfolding written with_region region_of_key
written-regions c key off [] = refl
written-regions c key off (b ∷ bs) = refl

landed-regions : (c : Context) (key at : ℕ) (bytes : List ℕ) → landed c key at bytes ≡ with_regions c (landed (rows.context_of c.regions) key at bytes).regions
unfolding landed region_of_key
landed-regions c key at bytes = written-regions c key (at - (region_of_key c key).base) bytes

-- ---- the parts alone tell what the end tells

invalid-same : (c : Context) (e : End) (l : Link) (d : Packet) → words.is_invalid (rows.link_of (around c e l)) d ≡ words.is_invalid l d
unfolding words.is_invalid
invalid-same c e l d = refl

target-same : (c : Context) (e : End) (l : Link) (d : Packet) → rows.target_of (around c e l) d ≡ words.target c e d
unfolding words.target
target-same c e l d = refl

receive-same : (c : Context) (e : End) (l : Link) → rows.receive_in (around c e l) ≡ words.receive_of e l.receiver.progress
unfolding words.receive_of
receive-same c e l = refl

-- ---- regions under their keys

other-key : (k key : ℕ) (rs : List Region) (test : Region → Bool) (r : Region) → AllByRecursion (λ y. nat_eq k y ≡ false) (map local_key rs) → first_that test rs ≡ Some r → (k == r.keys.local) ≡ false
unfolding first_that
other-key k key [] test r a e = absurd (cc)
other-key k key (x ∷ xs) test r a e = by_test (test x) refl (other-key k key xs test r a.1)
  where
    by_test : (b : Bool) → test x ≡ b → (first_that test xs ≡ Some r → (k == r.keys.local) ≡ false) → (k == r.keys.local) ≡ false
    by_test true t rest = let same : x ≡ r = grind (arith, t, e) in subst (λ y. (k == y.keys.local) ≡ false) same a.0
    by_test false t rest = rest (grind (arith, t, e))

self : (n : ℕ) → (n == n) ≡ true
self n = grind (arith, nat_tests)

under-key : (rs : List Region) (test : Region → Bool) (r : Region) → IsDistinct nat_eq (map local_key rs) → first_that test rs ≡ Some r → at local_key no_region r.keys.local rs ≡ r
unfolding first_that at IsDistinct
under-key [] test r d e = absurd (cc)
under-key (x ∷ xs) test r d e = by_test (test x) refl (under-key xs test r d.1)
  where
    by_test : (b : Bool) → test x ≡ b → (first_that test xs ≡ Some r → at local_key no_region r.keys.local xs ≡ r) → at local_key no_region r.keys.local (x ∷ xs) ≡ r
    by_test true t rest =
        let same : x ≡ r = grind (arith, t, e) in
        let here : (x.keys.local == r.keys.local) ≡ true = subst (λ y. (x.keys.local == y.keys.local) ≡ true) same (self x.keys.local) in
        rw here same
    by_test false t rest =
        let found : first_that test xs ≡ Some r = grind (arith, t, e) in
        let no : (x.keys.local == r.keys.local) ≡ false = other-key x.keys.local 0 xs test r d.0 found in
        rw no (rest found)

granted-under : (c : Context) (domain : Name) (key from count : ℕ) (right : Right) (r : Region) → IsDistinct nat_eq (map local_key c.regions) → granted remote_key c.regions domain key from count right ≡ Some r → region_of_key c r.keys.local ≡ r
unfolding granted region_of_key
granted-under c domain key from count right r k e = under-key c.regions (grants remote_key domain key from count right) r k e

-- ---- READ responses

cut-nothing : (off : ℕ) (bytes : List ℕ) → cut off 0 bytes ≡ []
unfolding cut
cut-nothing off bytes = refl

no-length : (k mtu : ℕ) → piece_length 0 k mtu ≡ 0
no-length k mtu = omega arith

read-nothing : (l : Link) (r q : Region) (off off' n left : ℕ) → words.read_pieces l r off 0 n left ≡ words.read_pieces l q off' 0 n left
unfolding words.read_pieces
read-nothing l r q off off' n zero = refl
read-nothing l r q off off' n (suc left) =
    let k = pieces 0 l.terms.mtu - suc left in
    let none : (x : ℕ) (bytes : List ℕ) → cut (x + k * l.terms.mtu) (piece_length 0 k l.terms.mtu) bytes ≡ [] = λ x bytes. ap (λ m. cut (x + k * l.terms.mtu) m bytes) (no-length k l.terms.mtu) ∙ cut-nothing (x + k * l.terms.mtu) bytes in
    let answer = λ (bytes : List ℕ). to_partner l (Some (n + k)) (words.read_response l (n + k) k (pieces 0 l.terms.mtu) bytes) in
    let one = ap answer (none off r.bytes ∙ sym (none off' q.bytes)) in
    let rest = read-nothing l r q off off' n left in
    cc

read-sent : (c : Context) (l : Link) (r : Region) (h : Reth) (n count : ℕ) → ((h.length == 0) ≡ false → region_of_key c r.keys.local ≡ r)
    → words.read_pieces l (region_of_key c (rows.spot_of r h).region) (rows.spot_of r h).off (rows.spot_of r h).length n count ≡ words.read_pieces l r (h.address - r.base) h.length n count
read-sent c l r h n count under = by_test (h.length == 0) refl
  where
    by_test : (b : Bool) → (h.length == 0) ≡ b → words.read_pieces l (region_of_key c (rows.spot_of r h).region) (rows.spot_of r h).off (rows.spot_of r h).length n count ≡ words.read_pieces l r (h.address - r.base) h.length n count
    by_test true z =
        let zero_length : h.length ≡ 0 = grind (arith, nat_tests, z) in
        rw z (rw zero_length (read-nothing l (region_of_key c 0) r 0 (h.address - r.base) n count))
    by_test false z = rw z (ap (λ x. words.read_pieces l x (h.address - r.base) h.length n count) (under z))

-- a region that a READ reaches stands under its key
reached-under : (c : Context) (e : End) (h : Reth) (r : Region) (right : Right) → IsDistinct nat_eq (map local_key c.regions) → (if h.length == 0 then Some no_region else words.read_grant c e h right) ≡ Some r → (h.length == 0) ≡ false → region_of_key c r.keys.local ≡ r
reached-under c e h r right k t z = granted-under c e.domain h.rkey h.address h.length right r k (rw z at t)

-- ---- ahead

ahead-row : (c : Context) (e : End) (l : Link) → words.ahead c e l ≡ step_of c e l (rows.ahead_taking (around c e l))
unfolding words.ahead rows.ahead_taking step_of words.acknowledge with_receiver with_unused
ahead-row c e l = by_test l.receiver.nak_sent refl
  where
    by_test : (b : Bool) → l.receiver.nak_sent ≡ b → words.ahead c e l ≡ step_of c e l (rows.ahead_taking (around c e l))
    by_test true t = rw t refl
    by_test false t = rw t refl

-- ---- repeats

-- an old value is sent
abbrev old_step : Context → End → Link → ℕ → ℕ → EndStep
old_step c e l n old = record { context = linked c e (words.keeps l n old); took = took.Old; sent = words.old_answer l n old ∷ [] }

-- bytes are sent, and nothing changes
abbrev bytes_step : Context → List Sent → EndStep
bytes_step c ds = record { context = c; took = took.Bytes; sent = ds }

not-now : (n m : ℕ) → n < m → (n == m) ≡ false
not-now n m h = grind (arith, nat_tests)

reread-row : (c : Context) (e : End) (l : Link) → IsDistinct nat_eq (map local_key c.regions) → (o : Option Region) (h : Reth) (n : ℕ) → n < l.receiver.expected → (if h.length == 0 then Some no_region else words.read_grant c e h RemoteRead) ≡ o
    → words.answers_read c l o h n ≡ step_of c e l (rows.reread_taking (around c e l) o h n)
unfolding step_of with_receiver
reread-row c e l k None h n before t = refl
reread-row c e l k (Some r) h n before t = rw (not-now n l.receiver.expected before) (ap (bytes_step c) (sym (read-sent c l r h n (pieces h.length l.terms.mtu) (reached-under c e h r RemoteRead k t))))

repeated-read-row : (c : Context) (e : End) (l : Link) → IsDistinct nat_eq (map local_key c.regions) → (o : Option Reth) (n : ℕ) → n < l.receiver.expected → words.repeats_read c e l o n ≡ step_of c e l (rows.repeated_read_taking (around c e l) o n)
unfolding step_of
repeated-read-row c e l k None n before = refl
repeated-read-row c e l k (Some h) n before = by_test (nat_le (n + pieces h.length l.terms.mtu) l.receiver.expected) refl
  where
    by_test : (b : Bool) → nat_le (n + pieces h.length l.terms.mtu) l.receiver.expected ≡ b → words.repeats_read c e l (Some h) n ≡ step_of c e l (rows.repeated_read_taking (around c e l) (Some h) n)
    by_test true t = rw t (reread-row c e l k (if h.length == 0 then Some no_region else words.read_grant c e h RemoteRead) h n before refl)
    by_test false t = rw t refl

kept-row : (c : Context) (e : End) (l : Link) (n : ℕ) (o : Option KeptReply) → n < l.receiver.expected → words.answers_old c l n o ≡ step_of c e l (rows.repeated_atomic_taking (around c e l) n o)
unfolding step_of with_receiver
kept-row c e l n None before = refl
kept-row c e l n (Some x) before = rw (not-now n l.receiver.expected before) refl

again : Context → Link → EndStep
again c l = record { context = c; took = took.DupAck; sent = words.acknowledge l (l.receiver.expected - 1) Ack ∷ [] }

dup-row : (c : Context) (e : End) (l : Link) → again c l ≡ step_of c e l (rows.answers (around c e l) DupAck)
unfolding step_of again
dup-row c e l = refl

repeated-row : (c : Context) (e : End) (l : Link) (d : Packet) → IsDistinct nat_eq (map local_key c.regions) → (n : ℕ) → n < l.receiver.expected → words.repeated c e l d n ≡ step_of c e l (rows.repeated_taking (around c e l) d n)
unfolding words.repeated rows.repeated_taking again
repeated-row c e l d k n before = by_tests (words.is_read_request d.opcode) refl (is_some d.atomic) refl
  where
    by_tests : (b : Bool) → words.is_read_request d.opcode ≡ b → (b' : Bool) → is_some d.atomic ≡ b' → words.repeated c e l d n ≡ step_of c e l (rows.repeated_taking (around c e l) d n)
    by_tests true t b' t' = rw t (repeated-read-row c e l k d.reth n before)
    by_tests false t true t' = rw t (rw t' (kept-row c e l n (first_that (λ x. x.number == n) l.receiver.kept) before))
    by_tests false t false t' = rw t (rw t' (dup-row c e l))

-- ---- the packet acts

-- a request that is no READ takes one number
one-number : (d : Packet) (mtu : ℕ) (o : Option Reth) → words.is_read_request d.opcode ≡ false → words.span_of_packet d mtu o ≡ 1
one-number d mtu None e = refl
one-number d mtu (Some h) e = rw e refl

back-one : (n m s : ℕ) → n ≡ m → s ≡ 1 → (m + s) - 1 ≡ n
back-one n m s e f = omega (arith, e, f)

send-step : (c : Context) (e : End) (l : Link) (d : Packet) (n : ℕ) (r : Receive) (before : ℕ) → words.is_read_request d.opcode ≡ false → n ≡ l.receiver.expected
    → words.send_acts c e (words.executed l d) d n r before ≡ step_of c e l (rows.send_taking (around c e l) d r before)
unfolding words.send_done words.executed rows.send_taking step_of words.acknowledge with_receiver with_unused
send-step c e l d n r before other now =
    ap (λ x. words.acts (words.send_done x e (words.executed l d) d r (before + length d.payload)) (words.executed l d) d n) (landed-regions c r.lkey (r.local + before) d.payload)
    ∙ by_tests (words.finishes (words.part_of d.opcode)) refl d.ack_request refl
  where
    bytes : List Region
    bytes = (landed (rows.context_of c.regions) r.lkey (r.local + before) d.payload).regions

    num : (l.receiver.expected + words.span_of_packet d l.terms.mtu d.reth) - 1 ≡ n
    num = back-one n l.receiver.expected (words.span_of_packet d l.terms.mtu d.reth) now (one-number d l.terms.mtu d.reth other)

    by_tests : (b : Bool) → words.finishes (words.part_of d.opcode) ≡ b → (b' : Bool) → d.ack_request ≡ b'
        → words.acts (words.send_done (with_regions c bytes) e (words.executed l d) d r (before + length d.payload)) (words.executed l d) d n ≡ step_of c e l (rows.send_taking (around c e l) d r before)
    by_tests true f b' k = rw f (rw num refl)
    by_tests false f true k = rw f (rw k (rw num refl))
    by_tests false f false k = rw f (rw k refl)

write-step : (c : Context) (e : End) (l : Link) (d : Packet) (n : ℕ) (p : words.Place) → words.is_read_request d.opcode ≡ false → n ≡ l.receiver.expected
    → words.write_acts c e (words.executed l d) d n p ≡ step_of c e l (rows.write_taking (around c e l) d p)
unfolding words.write_done words.executed rows.write_taking step_of words.acknowledge with_receiver with_unused
write-step c e l d n p other now =
    ap (λ x. words.acts (words.write_done x e (words.executed l d) d p (p.done + length d.payload)) (words.executed l d) d n) (written-regions c p.region (p.off + p.done) d.payload)
    ∙ by_tests (words.finishes (words.part_of d.opcode)) refl d.ack_request refl d.imm refl
  where
    bytes : List Region
    bytes = (written (rows.context_of c.regions) p.region (p.off + p.done) d.payload).regions

    num : (l.receiver.expected + words.span_of_packet d l.terms.mtu d.reth) - 1 ≡ n
    num = back-one n l.receiver.expected (words.span_of_packet d l.terms.mtu d.reth) now (one-number d l.terms.mtu d.reth other)

    by_tests : (b : Bool) → words.finishes (words.part_of d.opcode) ≡ b → (b' : Bool) → d.ack_request ≡ b' → (o : Option ℕ) → d.imm ≡ o
        → words.acts (words.write_done (with_regions c bytes) e (words.executed l d) d p (p.done + length d.payload)) (words.executed l d) d n ≡ step_of c e l (rows.write_taking (around c e l) d p)
    by_tests true f b' k None i = rw f (rw i (rw num refl))
    by_tests true f b' k (Some imm) i = rw f (rw i (rw num refl))
    by_tests false f true k o i = rw f (rw k (rw num refl))
    by_tests false f false k o i = rw f (rw k refl)

now-is : (n m : ℕ) → n ≡ m → (n == m) ≡ true
now-is n m h = grind (arith, nat_tests)

read-step : (c : Context) (e : End) (l : Link) (d : Packet) (n : ℕ) (r : Region) → n ≡ l.receiver.expected → (o : Option Reth) → ((h : Reth) → o ≡ Some h → (h.length == 0) ≡ false → region_of_key c r.keys.local ≡ r)
    → words.read_acts c e (words.executed l d) r n o ≡ step_of c e l (rows.read_taking (around c e l) d r n o)
unfolding words.executed step_of with_receiver with_unused
read-step c e l d n r now None t = refl
read-step c e l d n r now (Some h) t = rw (now-is n l.receiver.expected now) (ap (bytes_step (linked c e (words.executed l d))) (sym (read-sent c (words.executed l d) r h n (pieces h.length l.terms.mtu) (t h refl))))

atomic-step : (c : Context) (e : End) (l : Link) (d : Packet) (n : ℕ) (r : Region) → n ≡ l.receiver.expected → (o : Option AtomicEth)
    → words.atomic_acts c e (words.executed l d) d r n o ≡ step_of c e l (rows.atomic_taking (around c e l) d r n o)
unfolding words.atomic_done words.executed rows.word_taking step_of words.old_answer with_receiver with_unused
atomic-step c e l d n r now None = refl
atomic-step c e l d n r now (Some h) =
    let old = word_at r (h.address - r.base) in
    let bytes = word_bytes (words.atomic_value d.opcode h old) in
    rw (now-is n l.receiver.expected now) (ap (λ x. old_step x e (words.executed l d) n old) (written-regions c r.keys.local (h.address - r.base) bytes))

-- ---- refusals

refuse-step : (c : Context) (e : End) (l : Link) (n : ℕ) (w : RefusalReason) → n ≡ l.receiver.expected → words.refuses c e l n w ≡ step_of c e l (rows.answers (around c e l) (Refused w))
unfolding step_of with_receiver with_unused
refuse-step c e l n w now = rw now refl

short-step : (c : Context) (e : End) (l : Link) (n : ℕ) → n ≡ l.receiver.expected → words.refuses_length c e l n ≡ step_of c e l (rows.too_long_taking (around c e l))
unfolding words.refuses_length rows.too_long_taking step_of words.acknowledge words.receive_of with_receiver with_unused
short-step c e l n now = rw now refl

wait-step : (c : Context) (e : End) (l : Link) (n : ℕ) → n ≡ l.receiver.expected → words.not_ready c l n ≡ step_of c e l (rows.answers (around c e l) NotReady)
unfolding words.not_ready step_of
wait-step c e l n now = rw now refl

-- ---- the expected request

target-under : (c : Context) (e : End) (d : Packet) (r : Region) → IsDistinct nat_eq (map local_key c.regions) → words.target c e d ≡ Some r → (h : Reth) → d.reth ≡ Some h → (h.length == 0) ≡ false → region_of_key c r.keys.local ≡ r
unfolding words.target
target-under c e d r k g h s z = by_case d.atomic refl
  where
    by_case : (o : Option AtomicEth) → d.atomic ≡ o → region_of_key c r.keys.local ≡ r
    by_case (Some x) i = granted-under c e.domain x.rkey x.address 8 RemoteAtomic r k (rw i at g)
    by_case None i = granted-under c e.domain h.rkey h.address h.length (if words.is_read_request d.opcode then RemoteRead else RemoteWrite) r k (rw (i, s, z) at g)

executed-progress : (l : Link) (d : Packet) → (words.executed l d).receiver.progress ≡ l.receiver.progress
unfolding words.executed with_receiver
executed-progress l d = refl

send-no-read : (n : ℕ) → words.is_send n ≡ true → words.is_read_request n ≡ false
send-no-read n s = grind (arith, nat_tests, s)

write-no-read : (n : ℕ) → words.is_write n ≡ true → words.is_read_request n ≡ false
write-no-read n w = grind (arith, nat_tests, w)

acts-row : (c : Context) (e : End) (l : Link) (d : Packet) (n : ℕ) (r : Region) → IsDistinct nat_eq (map local_key c.regions) → n ≡ l.receiver.expected → words.target c e d ≡ Some r → words.packet_acts c e (words.executed l d) d r n ≡ step_of c e l (rows.acting (around c e l) d r n)
unfolding words.packet_acts rows.acting
acts-row c e l d n r k now g = by_tests (words.is_send d.opcode) refl (words.is_write d.opcode) refl (words.is_read_request d.opcode) refl
  where
    by_tests : (b : Bool) → words.is_send d.opcode ≡ b → (b' : Bool) → words.is_write d.opcode ≡ b' → (b'' : Bool) → words.is_read_request d.opcode ≡ b'' → words.packet_acts c e (words.executed l d) d r n ≡ step_of c e l (rows.acting (around c e l) d r n)
    by_tests true s b' w b'' t = rw s (
        ap (λ p. words.send_acts c e (words.executed l d) d n (words.receive_of e p) (words.bytes_before None p)) (executed-progress l d)
        ∙ (send-step c e l d n (words.receive_of e l.receiver.progress) (words.bytes_before None l.receiver.progress) (send-no-read d.opcode s) now
        ∙ ap (λ x. step_of c e l (rows.send_taking (around c e l) d x (words.bytes_before None l.receiver.progress))) (sym (receive-same c e l))))
    by_tests false s true w b'' t = rw s (rw w (
        ap (λ p. words.write_acts c e (words.executed l d) d n (words.place_of r d.reth p)) (executed-progress l d)
        ∙ write-step c e l d n (words.place_of r d.reth l.receiver.progress) (write-no-read d.opcode w) now))
    by_tests false s false w true t = rw s (rw w (rw t (read-step c e l d n r now d.reth (target-under c e d r k g))))
    by_tests false s false w false t = rw s (rw w (rw t (atomic-step c e l d n r now d.atomic)))

granted-row : (c : Context) (e : End) (l : Link) (d : Packet) (n : ℕ) → IsDistinct nat_eq (map local_key c.regions) → n ≡ l.receiver.expected → (o : Option Region) → words.target c e d ≡ o → words.granted_packet c e l d n o ≡ step_of c e l (rows.granted_taking (around c e l) d n o)
granted-row c e l d n k now None g = refuse-step c e l n refused.Access now
granted-row c e l d n k now (Some r) g = by_tests (words.is_not_ready e d) refl (words.is_too_long e l d) refl
  where
    long-same : words.is_too_long (rows.end_of (around c e l)) (rows.link_of (around c e l)) d ≡ words.is_too_long e l d
    long-same = ap (λ x. words.is_send d.opcode && nat_lt x.length (words.bytes_before None l.receiver.progress + length d.payload)) (receive-same c e l)

    by_tests : (b : Bool) → words.is_not_ready e d ≡ b → (b' : Bool) → words.is_too_long e l d ≡ b' → words.granted_packet c e l d n (Some r) ≡ step_of c e l (rows.granted_taking (around c e l) d n (Some r))
    by_tests true t b' t' = rw t (wait-step c e l n now)
    by_tests false t true t' = rw t (rw (long-same, t') (short-step c e l n now))
    by_tests false t false t' = rw t (rw (long-same, t') (acts-row c e l d n r k now g))

silent-row : (c : Context) (e : End) (l : Link) → words.no_repeat c ≡ step_of c e l (rows.no_repeat (around c e l))
unfolding step_of
silent-row c e l = refl

expected-row : (c : Context) (e : End) (l : Link) (d : Packet) (n : ℕ) → IsDistinct nat_eq (map local_key c.regions) → n ≡ l.receiver.expected → words.expected_packet c e l d n ≡ step_of c e l (rows.expected_taking (around c e l) d n)
unfolding words.expected_packet rows.expected_taking
expected-row c e l d n k now = by_tests (nat_le number_limit (n + words.span_of_packet d l.terms.mtu d.reth)) refl (words.is_invalid l d) refl
  where
    by_tests : (b : Bool) → nat_le number_limit (n + words.span_of_packet d l.terms.mtu d.reth) ≡ b → (b' : Bool) → words.is_invalid l d ≡ b' → words.expected_packet c e l d n ≡ step_of c e l (rows.expected_taking (around c e l) d n)
    by_tests true t b' t' = rw t (silent-row c e l)
    by_tests false t true t' = rw t (rw (invalid-same c e l d, t') (refuse-step c e l n refused.Invalid now))
    by_tests false t false t' = rw t (rw (invalid-same c e l d, t') (
        granted-row c e l d n k now (words.target c e d) refl
        ∙ ap (λ o. step_of c e l (rows.granted_taking (around c e l) d n o)) (sym (target-same c e l d))))

number-row : (c : Context) (e : End) (l : Link) (d : Packet) → IsDistinct nat_eq (map local_key c.regions) → (o : Option ℕ) → words.request_at c e l d o ≡ step_of c e l (rows.number_taking (around c e l) d o)
number-row c e l d k None = silent-row c e l
number-row c e l d k (Some n) = by_tests (nat_lt l.receiver.expected n) refl (nat_lt n l.receiver.expected) refl
  where
    by_tests : (b : Bool) → nat_lt l.receiver.expected n ≡ b → (b' : Bool) → nat_lt n l.receiver.expected ≡ b' → words.request_at c e l d (Some n) ≡ step_of c e l (rows.number_taking (around c e l) d (Some n))
    by_tests true t b' t' = rw t (ahead-row c e l)
    by_tests false t true t' = rw t (rw t' (repeated-row c e l d k n (grind (arith, nat_tests, t'))))
    by_tests false t false t' = rw t (rw t' (expected-row c e l d n k (grind (arith, nat_tests, t, t'))))

pub request-row : (c : Context) (e : End) (l : Link) (d : Packet) → IsDistinct nat_eq (map local_key c.regions) → words.takes_request c e l d ≡ step_of c e l (rows.taken_request l.terms e.domain e.number l.receiver c.regions e.unused d)
unfolding words.takes_request rows.taking
request-row c e l d k = number-row c e l d k (unwrap_near l.terms.peer_start d.psn l.receiver.expected)
