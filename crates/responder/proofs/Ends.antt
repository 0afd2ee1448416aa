-- What was taken, once a row is known.
use Rattle.std.proofs.Common.{◌≡◌, ℕ, ◌+◌, ◌-◌, ◌<◌, ◌≤◌, Bool, true, false, List, [], refl, ap, sym, ◌∙◌, arith, subst}
use Rattle.std.specs.Prelude.{Option, Some, None, is_some, nat_le, nat_lt, option_map}
use Rattle.std.proofs.lemmas.Bool.Decides.{nat_tests}
use Rattle.rdma_types.specs.Limits.{number_limit}
use Rattle.rdma_types.specs.declared.answers.DropReason.TheVariants as why
use Rattle.rdma_types.specs.declared.answers.RefusalReason.TheVariants as refused
use Rattle.protocol.specs.Numbers.{unwrap_near}
use Rattle.rdma_types.specs.declared.names.Name.{Name}
use Rattle.rdma_types.specs.declared.requests.Receive.{Receive}
use Rattle.rdma_types.specs.Memory.{word_bytes}
use Rattle.rdma_types.specs.Objects.{Region}
use Rattle.rdma_types.specs.Spans.{pieces}
use Rattle.memory_keys.specs.declared.RegionRange.{RegionRange}
use Rattle.memory_keys.specs.Regions.{place_in}
use Rattle.end_queues.specs.Completions as completions
use Rattle.end_queues.specs.Postings as work
use Rattle.protocol.specs.declared.wire.AtomicEth.{AtomicEth}
use Rattle.protocol.specs.declared.wire.Reth.{Reth}
use Rattle.protocol.specs.Memory.{word_at, written}
use Rattle.protocol.specs.Responder.{atomic_value, executed, is_invalid, is_not_ready, is_read_request, is_send, is_write, keeping, span_of_packet, target}
use Rattle.protocol.specs.Wire.{Packet}
use Rattle.responder.specs.declared.answers.Reply.{Reply}
use Rattle.responder.specs.declared.answers.Reply.TheVariants.{AtomicOld, NotReady, ReadBytes, Refused, Silent}
use Rattle.responder.specs.Receiving.{Receiving}
use Rattle.responder.specs.Taken.{IsTaken, place_granted, spot_named, target_in}
use Rattle.responder.specs.Taking.{Around, Taking, ahead_taking, around_with, answers, context_of, end_of, expected_taking, granted_taking, link_of, link_with, repeated_taking, spot_of, taking, with_done, word_taking}
use Rattle.responder.proofs.Acts.{atomic-row, in-region, read-row, spot-length}
use Rattle.responder.proofs.Views.{nothing-done}

-- nothing but the answer
pub answered : (now : Receiving) (domain : Name) (qp : ℕ) (rs : List Region) (recvs : work.Queue Receive) (cq : completions.Queue) (reply : Reply) → IsTaken (answers (around_with now domain qp rs recvs.items) reply) reply now now rs recvs recvs cq cq
answered now domain qp rs recvs cq reply = record { reply = refl; receiver = refl; regions = refl; unused = refl; done = nothing-done cq }

pub read-taken : (now new : Receiving) (domain : Name) (qp : ℕ) (rs : List Region) (recvs : work.Queue Receive) (cq : completions.Queue) (d : Packet) (r : Region) (spot : RegionRange) (reply : Reply) (o : Option Reth)
    → d.reth ≡ o → is_some o ≡ true → spot ≡ spot_named None o r
    → is_not_ready (end_of (around_with now domain qp rs recvs.items)) d ≡ false → is_send d.opcode ≡ false → is_write d.opcode ≡ false → is_read_request d.opcode ≡ true
    → reply ≡ ReadBytes spot now.receiver.expected (pieces spot.length now.terms.mtu)
    → new ≡ record now { receiver = (executed (link_with now) d).receiver }
    → IsTaken (granted_taking (around_with now domain qp rs recvs.items) d now.receiver.expected (Some r)) reply now new rs recvs recvs cq cq
read-taken now new domain qp rs recvs cq d r spot reply None e some is ready s w t reply_is new_is = absurd (cc)
read-taken now new domain qp rs recvs cq d r spot reply (Some h) e some is ready s w t reply_is new_is =
    let a = around_with now domain qp rs recvs.items in
    let n = now.receiver.expected in
    let count : pieces spot.length now.terms.mtu ≡ pieces h.length now.terms.mtu = ap (λ l. pieces l now.terms.mtu) (ap (λ x. x.length) is ∙ spot-length r h) in
    let reply_is' : reply ≡ ReadBytes (spot_of r h) n (pieces h.length now.terms.mtu) = reply_is ∙ (ap (λ k. ReadBytes spot n k) count ∙ ap (λ x. ReadBytes x n (pieces h.length now.terms.mtu)) is) in
    subst (λ (x : Taking). IsTaken x reply now new rs recvs recvs cq cq) (sym (read-row a d n r h ready s w t e))
    (record { reply = reply_is'; receiver = new_is; regions = refl; unused = refl; done = nothing-done cq })

pub word-taken : (now new : Receiving) (domain : Name) (qp : ℕ) (rs after : List Region) (recvs : work.Queue Receive) (cq : completions.Queue) (d : Packet) (r : Region) (spot : RegionRange) (reply : Reply) (h : AtomicEth) (old : ℕ)
    → d.atomic ≡ Some h → spot ≡ place_in h.address 8 r
    → is_not_ready (end_of (around_with now domain qp rs recvs.items)) d ≡ false → is_send d.opcode ≡ false → is_write d.opcode ≡ false → is_read_request d.opcode ≡ false
    → old ≡ word_at r (h.address - r.base)
    → reply ≡ AtomicOld now.receiver.expected old
    → new ≡ record now { receiver = record (executed (link_with now) d).receiver { kept = keeping now.receiver.kept (record { number = now.receiver.expected; old = old }) } }
    → after ≡ (written (context_of rs) spot.region spot.off (word_bytes (atomic_value d.opcode h old))).regions
    → IsTaken (granted_taking (around_with now domain qp rs recvs.items) d now.receiver.expected (Some r)) reply now new after recvs recvs cq cq
unfolding word_taking
word-taken now new domain qp rs after recvs cq d r spot reply h old e is ready s w t old_is reply_is new_is after_is =
    let a = around_with now domain qp rs recvs.items in
    let n = now.receiver.expected in
    let reply_is' : reply ≡ AtomicOld n (word_at r (h.address - r.base)) = reply_is ∙ ap (λ x. AtomicOld n x) old_is in
    let after' : after ≡ (written (context_of rs) r.keys.local (h.address - r.base) (word_bytes (atomic_value d.opcode h (word_at r (h.address - r.base))))).regions =
    after_is ∙ (ap (λ x. (written (context_of rs) x.region x.off (word_bytes (atomic_value d.opcode h old))).regions) is ∙ ap (λ x. (written (context_of rs) r.keys.local (h.address - r.base) (word_bytes (atomic_value d.opcode h x))).regions) old_is) in
    let new' : new ≡ record now { receiver = record (executed (link_with now) d).receiver { kept = keeping now.receiver.kept (record { number = n; old = word_at r (h.address - r.base) }) } } =
    new_is ∙ ap (λ x. record now { receiver = record (executed (link_with now) d).receiver { kept = keeping now.receiver.kept (record { number = n; old = x }) } }) old_is in
    subst (λ (x : Taking). IsTaken x reply now new after recvs recvs cq cq) (sym (atomic-row a d n r h ready s w t e))
    (record { reply = reply_is'; receiver = new'; regions = after'; unused = refl; done = nothing-done cq })

-- ---- the expected packet

-- a row, and what was taken by it
pub by-row : (t x : Taking) (reply : Reply) (old new : Receiving) (rs : List Region) (recvs after : work.Queue Receive) (cq more : completions.Queue) → t ≡ x → IsTaken x reply old new rs recvs after cq more → IsTaken t reply old new rs recvs after cq more
by-row t x reply old new rs recvs after cq more e i = subst (λ (y : Taking). IsTaken y reply old new rs recvs after cq more) (sym e) i

limited : (n : ℕ) → number_limit ≤ n → nat_le number_limit n ≡ true
limited n h = grind (arith, nat_tests)

unlimited : (n : ℕ) → n < number_limit → nat_le number_limit n ≡ false
unlimited n h = grind (arith, nat_tests)

limit-row : (a : Around) (d : Packet) (n : ℕ) → number_limit ≤ n + span_of_packet d a.terms.mtu d.reth → expected_taking a d n ≡ answers a (Silent why.NoRepeat)
unfolding expected_taking
limit-row a d n h = rw (limited (n + span_of_packet d a.terms.mtu d.reth) h) refl

invalid-row : (a : Around) (d : Packet) (n : ℕ) → n + span_of_packet d a.terms.mtu d.reth < number_limit → is_invalid (link_of a) d ≡ true → expected_taking a d n ≡ answers a (Refused refused.Invalid)
unfolding expected_taking
invalid-row a d n h e = rw (unlimited (n + span_of_packet d a.terms.mtu d.reth) h) (rw e refl)

pub valid-row : (a : Around) (d : Packet) (n : ℕ) (o : Option Region) → n + span_of_packet d a.terms.mtu d.reth < number_limit → is_invalid (link_of a) d ≡ false → target_in a.regions a.domain d ≡ o → expected_taking a d n ≡ granted_taking a d n o
unfolding expected_taking target
valid-row a d n o h e t = rw (unlimited (n + span_of_packet d a.terms.mtu d.reth) h) (rw e (ap (granted_taking a d n) t))

no-region-in : (f : Region → RegionRange) (o : Option Region) → None ≡ option_map f o → o ≡ None
no-region-in f None e = refl
no-region-in f (Some r) e = absurd (cc)

pub limit-taken : (now : Receiving) (domain : Name) (qp : ℕ) (rs : List Region) (recvs : work.Queue Receive) (cq : completions.Queue) (d : Packet) → number_limit ≤ now.receiver.expected + span_of_packet d now.terms.mtu d.reth → IsTaken (expected_taking (around_with now domain qp rs recvs.items) d now.receiver.expected) (Silent why.NoRepeat) now now rs recvs recvs cq cq
limit-taken now domain qp rs recvs cq d h = by-row _ _ _ now now rs recvs recvs cq cq (limit-row (around_with now domain qp rs recvs.items) d now.receiver.expected h) (answered now domain qp rs recvs cq (Silent why.NoRepeat))

pub invalid-taken : (now : Receiving) (domain : Name) (qp : ℕ) (rs : List Region) (recvs : work.Queue Receive) (cq : completions.Queue) (d : Packet) → now.receiver.expected + span_of_packet d now.terms.mtu d.reth < number_limit → is_invalid (link_with now) d ≡ true → IsTaken (expected_taking (around_with now domain qp rs recvs.items) d now.receiver.expected) (Refused refused.Invalid) now now rs recvs recvs cq cq
invalid-taken now domain qp rs recvs cq d h e = by-row _ _ _ now now rs recvs recvs cq cq (invalid-row (around_with now domain qp rs recvs.items) d now.receiver.expected h e) (answered now domain qp rs recvs cq (Refused refused.Invalid))

pub no-access-taken : (now : Receiving) (domain : Name) (qp : ℕ) (rs : List Region) (recvs : work.Queue Receive) (cq : completions.Queue) (d : Packet) → now.receiver.expected + span_of_packet d now.terms.mtu d.reth < number_limit → is_invalid (link_with now) d ≡ false → None ≡ place_granted rs domain d → IsTaken (expected_taking (around_with now domain qp rs recvs.items) d now.receiver.expected) (Refused refused.Access) now now rs recvs recvs cq cq
no-access-taken now domain qp rs recvs cq d h e t = by-row _ _ _ now now rs recvs recvs cq cq (valid-row (around_with now domain qp rs recvs.items) d now.receiver.expected None h e (no-region-in (spot_named d.atomic d.reth) (target_in rs domain d) t)) (answered now domain qp rs recvs cq (Refused refused.Access))

pub not-ready-taken : (now : Receiving) (domain : Name) (qp : ℕ) (rs : List Region) (recvs : work.Queue Receive) (cq : completions.Queue) (d : Packet) (spot : RegionRange) → now.receiver.expected + span_of_packet d now.terms.mtu d.reth < number_limit → is_invalid (link_with now) d ≡ false → Some spot ≡ place_granted rs domain d → is_not_ready (end_of (around_with now domain qp rs recvs.items)) d ≡ true → IsTaken (expected_taking (around_with now domain qp rs recvs.items) d now.receiver.expected) NotReady now now rs recvs recvs cq cq
not-ready-taken now domain qp rs recvs cq d spot h e t ready =
    let a = around_with now domain qp rs recvs.items in
    let r = in-region (spot_named d.atomic d.reth) (target_in rs domain d) spot t in
    let row : granted_taking a d now.receiver.expected (Some r.0) ≡ answers a NotReady = rw ready refl in
    by-row _ _ _ now now rs recvs recvs cq cq (valid-row a d now.receiver.expected (Some r.0) h e r.1.0 ∙ row) (answered now domain qp rs recvs cq NotReady)

pub acted-taken : (now new : Receiving) (domain : Name) (qp : ℕ) (rs after : List Region) (recvs more : work.Queue Receive) (cq done : completions.Queue) (d : Packet) (reply : Reply) (spot : RegionRange) → now.receiver.expected + span_of_packet d now.terms.mtu d.reth < number_limit → is_invalid (link_with now) d ≡ false → Some spot ≡ place_granted rs domain d
    → ((r : Region) → target_in rs domain d ≡ Some r → IsTaken (granted_taking (around_with now domain qp rs recvs.items) d now.receiver.expected (Some r)) reply now new after recvs more cq done)
    → IsTaken (expected_taking (around_with now domain qp rs recvs.items) d now.receiver.expected) reply now new after recvs more cq done
acted-taken now new domain qp rs after recvs more cq done d reply spot h e t taken =
    let a = around_with now domain qp rs recvs.items in
    let r = in-region (spot_named d.atomic d.reth) (target_in rs domain d) spot t in
    by-row _ _ reply now new after recvs more cq done (valid-row a d now.receiver.expected (Some r.0) h e r.1.0) (taken r.0 r.1.0)

-- ---- every request

pub none-taken : (now : Receiving) (domain : Name) (qp : ℕ) (rs : List Region) (recvs : work.Queue Receive) (cq : completions.Queue) (d : Packet) → unwrap_near now.terms.peer_start d.psn now.receiver.expected ≡ None → IsTaken (taking (around_with now domain qp rs recvs.items) d) (Silent why.NoRepeat) now now rs recvs recvs cq cq
unfolding taking
none-taken now domain qp rs recvs cq d e = by-row _ _ _ now now rs recvs recvs cq cq (rw e refl) (answered now domain qp rs recvs cq (Silent why.NoRepeat))

ahead-row : (a : Around) (d : Packet) (n : ℕ) → unwrap_near a.terms.peer_start d.psn a.receiver.expected ≡ Some n → a.receiver.expected < n → taking a d ≡ ahead_taking a
unfolding taking
ahead-row a d n e h = let t : nat_lt a.receiver.expected n ≡ true = grind (arith, nat_tests) in rw e (rw t refl)

before-row : (a : Around) (d : Packet) (n : ℕ) → unwrap_near a.terms.peer_start d.psn a.receiver.expected ≡ Some n → n < a.receiver.expected → taking a d ≡ repeated_taking a d n
unfolding taking
before-row a d n e h =
    let f : nat_lt a.receiver.expected n ≡ false = grind (arith, nat_tests) in
    let t : nat_lt n a.receiver.expected ≡ true = grind (arith, nat_tests) in
    rw e (rw f (rw t refl))

pub expected-row : (a : Around) (d : Packet) (n : ℕ) → unwrap_near a.terms.peer_start d.psn a.receiver.expected ≡ Some n → n ≡ a.receiver.expected → taking a d ≡ expected_taking a d n
unfolding taking
expected-row a d n e h =
    let f : nat_lt a.receiver.expected n ≡ false = grind (arith, nat_tests) in
    let t : nat_lt n a.receiver.expected ≡ false = grind (arith, nat_tests) in
    rw e (rw f (rw t refl))

ahead-keeps : (a : Around) → ((ahead_taking a).regions ≡ a.regions) × (((ahead_taking a).unused ≡ a.unused) × ((ahead_taking a).done ≡ []))
unfolding ahead_taking
ahead-keeps a = by_test a.receiver.nak_sent refl
  where
    by_test : (b : Bool) → a.receiver.nak_sent ≡ b → ((ahead_taking a).regions ≡ a.regions) × (((ahead_taking a).unused ≡ a.unused) × ((ahead_taking a).done ≡ []))
    by_test true t = rw t (refl, (refl, refl))
    by_test false t = rw t (refl, (refl, refl))

pub ahead-taken : (now new : Receiving) (domain : Name) (qp : ℕ) (rs : List Region) (recvs : work.Queue Receive) (cq : completions.Queue) (d : Packet) (n : ℕ) (reply : Reply) → unwrap_near now.terms.peer_start d.psn now.receiver.expected ≡ Some n → now.receiver.expected < n
    → reply ≡ (ahead_taking (around_with now domain qp rs recvs.items)).reply → new ≡ record now { receiver = (ahead_taking (around_with now domain qp rs recvs.items)).receiver }
    → IsTaken (taking (around_with now domain qp rs recvs.items) d) reply now new rs recvs recvs cq cq
ahead-taken now new domain qp rs recvs cq d n reply e h reply_is new_is =
    let a = around_with now domain qp rs recvs.items in
    let k = ahead-keeps a in
    by-row _ _ reply now new rs recvs recvs cq cq (ahead-row a d n e h)
    (record {
      reply = reply_is;
      receiver = new_is;
      regions = sym k.0;
      unused = ap (λ us. record recvs { items = us }) (sym k.1.0);
      done = nothing-done cq ∙ ap (with_done cq) (sym k.1.1);
    })

pub before-taken : (now : Receiving) (domain : Name) (qp : ℕ) (rs : List Region) (recvs : work.Queue Receive) (cq : completions.Queue) (d : Packet) (n : ℕ) (reply : Reply) → unwrap_near now.terms.peer_start d.psn now.receiver.expected ≡ Some n → n < now.receiver.expected
    → repeated_taking (around_with now domain qp rs recvs.items) d n ≡ answers (around_with now domain qp rs recvs.items) reply
    → IsTaken (taking (around_with now domain qp rs recvs.items) d) reply now now rs recvs recvs cq cq
before-taken now domain qp rs recvs cq d n reply e h row = by-row _ _ reply now now rs recvs recvs cq cq (before-row (around_with now domain qp rs recvs.items) d n e h ∙ row) (answered now domain qp rs recvs cq reply)

pub expected-taken : (now new : Receiving) (domain : Name) (qp : ℕ) (rs after : List Region) (recvs more : work.Queue Receive) (cq done : completions.Queue) (d : Packet) (n : ℕ) (reply : Reply) → unwrap_near now.terms.peer_start d.psn now.receiver.expected ≡ Some n → n ≡ now.receiver.expected
    → IsTaken (expected_taking (around_with now domain qp rs recvs.items) d now.receiver.expected) reply now new after recvs more cq done
    → IsTaken (taking (around_with now domain qp rs recvs.items) d) reply now new after recvs more cq done
expected-taken now new domain qp rs after recvs more cq done d n reply e h taken = by-row _ _ reply now new after recvs more cq done (expected-row (around_with now domain qp rs recvs.items) d n e h ∙ ap (expected_taking (around_with now domain qp rs recvs.items) d) h) taken

-- the same number near the same other
pub near-same : (s t psn e f : ℕ) (o : Option ℕ) → o ≡ unwrap_near s psn e → s ≡ t → e ≡ f → unwrap_near t psn f ≡ o
near-same s t psn e f o is a b = sym (is ∙ (ap (λ x. unwrap_near x psn e) a ∙ ap (unwrap_near t psn) b))
