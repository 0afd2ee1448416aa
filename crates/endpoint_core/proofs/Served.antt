-- The step of an end on a request.
use Rattle.std.proofs.Common.{◌≡◌, ◌≢◌, ℕ, zero, suc, ◌+◌, ◌-◌, ◌≤◌, Bool, true, false, List, [], ◌∷◌, ◌++◌, length, refl, ap, sym, ◌∙◌, arith, subst}
use Rattle.std.specs.Prelude.{◌==◌, ◌||◌, IfSome, IsTrue, All, nat_eq, Option, Some, None, map, option_map, if◌then◌else◌}
use Rattle.std.specs.List.{IsDistinct}
use Rattle.std.specs.Option.{option_map_or}
use Rattle.std.proofs.Math.ListN.{get_or}
use Rattle.std.proofs.lemmas.Bool.Decides.{nat_tests}
use Rattle.rdma_types.specs.declared.answers.Sent.{Sent}
use Rattle.rdma_types.specs.declared.answers.ArrivalEffect.TheVariants as took
use Rattle.rdma_types.specs.declared.answers.RefusalReason.{RefusalReason}
use Rattle.rdma_types.specs.declared.answers.RefusalReason.TheVariants as refused
use Rattle.rdma_types.specs.declared.names.Name.{Name}
use Rattle.rdma_types.specs.declared.requests.Address.{Address}
use Rattle.rdma_types.specs.declared.requests.Completion.{Completion}
use Rattle.rdma_types.specs.declared.requests.Receive.{Receive}
use Rattle.rdma_types.specs.declared.requests.WcStatus.TheVariants as status
use Rattle.rdma_types.specs.Limits.{AreTerms}
use Rattle.rdma_types.specs.Lists.{at}
use Rattle.rdma_types.specs.Memory.{local_key}
use Rattle.rdma_types.specs.Objects.{no_region}
use Rattle.page_pool.specs.Pool.{Pool}
use Rattle.end_queues.specs.Completions.{Queue}
use Rattle.memory_keys.specs.Regions.{regions_of}
use Rattle.memory_keys.proofs.Protocol.{distinct-keys}
use Rattle.end_queues.specs.Postings.{Queue as WorkQueue}
use Rattle.protocol.specs.declared.wire.Syndrome.{Syndrome}
use Rattle.protocol.specs.declared.wire.Syndrome.TheVariants.{Ack, Rnr, Nak}
use Rattle.protocol.specs.EndWords.{completing, is_paused, failed_receive, in_use_by, linked, with_end, with_link, with_receiver, with_unused}
use Rattle.protocol.specs.Memory.{region_of_key}
use Rattle.protocol.specs.Numbers.{wire_number}
use Rattle.protocol.specs.Requester.{ended_link, ended_with, failing}
use Rattle.protocol.specs.Responder.{acknowledge, finishes, nak_code, old_answer, part_of, read_pieces, takes_request}
use Rattle.protocol.specs.State.{Context, End, Link}
use Rattle.protocol.specs.Wire.{Fits, Packet, fits_syndrome, plain, wire_of}
use Rattle.responder.specs.declared.answers.Reply.{Reply}
use Rattle.responder.specs.declared.answers.Reply.TheVariants as served
use Rattle.responder.specs.Receiving.{waiting}
use Rattle.responder.specs.Steps.{completing_all, context_after, end_after, link_after, step_by, step_of, with_regions}
use Rattle.responder.specs.Taken.{IsAsBefore, IsRead, Leaves}
use Rattle.responder.specs.Taking.{Around, Taking, send_taking, taken_request, taking, too_long_taking, word_taking, write_taking}
use Rattle.responder.proofs.Cases.{by-rows, fits-names}
use Rattle.responder.proofs.Counts.{counted}
use Rattle.responder.proofs.Leaving.{leaving}
use Rattle.responder.proofs.Rows.{request-row}
use Rattle.requester.specs.Sending.{sender_in}
use Rattle.end_completions.specs.Payloads.{payload_lists, payload_pages}
use Rattle.end_completions.proofs.Given.{AreKept, pages-kept}
use Rattle.end_completions.proofs.Told.{settled-none}
use Rattle.endpoint_core.specs.declared.answers.EndReply.TheVariants as reply
use Rattle.endpoint_core.specs.declared.end.EndLink.{EndLink}
use Rattle.endpoint_core.specs.Answers.{IsReply, sent_by, sent_of}
use Rattle.endpoint_core.specs.declared.answers.EndReply.{EndReply}
use Rattle.rdma_types.specs.Spans.{pieces}
use Rattle.memory_keys.specs.declared.RegisteredRegion.{RegisteredRegion}
use Rattle.memory_keys.specs.declared.RegionRange.{RegionRange}
use Rattle.transport.specs.Table.{phase_of}
use Rattle.endpoint_core.specs.Due.{IsDue, WasDue, due_read, telling}
use Rattle.endpoint_core.proofs.DueReads.{responses-same, taken-due}
use Rattle.endpoint_core.specs.Ends.{KeepsPartner, Names, link_in, untold_by}
use Rattle.endpoint_core.specs.Flushed.{all_receives}
use Rattle.endpoint_core.specs.Queues.{StandsAt, count_at, nothing, promised, queues_of, settle_at}
use Rattle.endpoint_core.specs.Served.{HasServed, request_answer}
use Rattle.endpoint_core.specs.Sites.{IsHome, IsSound, Keeps, EndWithMemory, end_at, home}
use Rattle.endpoint_core.specs.Sound.{IsLinked, IsPosted}
use Rattle.endpoint_core.proofs.Answered.{count-sum, end-twice}
use Rattle.endpoint_core.proofs.Ended.{count-here, length-both, promised-is}
use Rattle.endpoint_core.proofs.Frames.{all-posted-kept, home-same, link-of, none-of, untold-kept}
use Rattle.endpoint_core.proofs.Given.{append-none}
use Rattle.endpoint_core.proofs.Settled.{Settles, completing-settles, keeps-settled, reserved-after, settles-at}

-- ---- rows that write nothing

-- bytes are handed out, or the packet is refused
abbrev writes_none : Reply → Bool
writes_none (served.ReadBytes spot first count) = true
writes_none (served.Refused w) = true
writes_none served.Acted = false
writes_none served.Ack = false
writes_none (served.AtomicOld number old) = false
writes_none served.SequenceNak = false
writes_none served.NotReady = false
writes_none served.DupAck = false
writes_none (served.Silent w) = false

still : (a : Around) (d : Packet) → Fits d → writes_none (taking a d).reply ≡ true → (taking a d).regions ≡ a.regions
unfolding too_long_taking send_taking write_taking word_taking
still a d fits = by-rows a d (λ t. writes_none t.reply ≡ true → t.regions ≡ a.regions) (record {
  quiet = λ r e w. refl;
  nak = λ w. refl;
  reread = λ r h n before t w. refl;
  read = λ r h n now t w. refl;
  too_long = λ s valid ready w. refl;
  send = λ s valid ready fits' w. absurd (answered (finishes (part_of d.opcode) || d.ack_request) w);
  write = λ r w valid ready t w'. absurd (answered (finishes (part_of d.opcode) || d.ack_request) w');
  word = λ r h n old now e t w. absurd (cc);
}) (fits-names d fits)
  where
    answered : (b : Bool) → writes_none (if b then served.Ack else served.Acted) ≡ true → ⊥
    answered true e = cc
    answered false e = cc

-- ---- acknowledges

-- an acknowledge, from what it is made of
made_of : Address → (peer start msn : ℕ) → ℕ → Syndrome → Sent
made_of to peer start msn n y = record { to = to; number = Some n; bytes = wire_of (record (plain 0x11 peer (wire_number start n)) { aeth = Some (record { syndrome = y; msn = msn }) }) }

acknowledge-is : (l : Link) (n : ℕ) (y : Syndrome) → acknowledge l n y ≡ made_of l.moving.partner l.peer l.terms.peer_start l.receiver.msn n y
unfolding acknowledge made_of
acknowledge-is l n y = refl

acknowledge-same : (a b : Link) (n : ℕ) (y : Syndrome) → a.moving.partner ≡ b.moving.partner → a.peer ≡ b.peer → a.terms.peer_start ≡ b.terms.peer_start → a.receiver.msn ≡ b.receiver.msn → acknowledge a n y ≡ acknowledge b n y
acknowledge-same a b n y to peer start msn =
    acknowledge-is a n y
    ∙ (ap (λ x. made_of x a.peer a.terms.peer_start a.receiver.msn n y) to
    ∙ (ap (λ x. made_of b.moving.partner x a.terms.peer_start a.receiver.msn n y) peer
    ∙ (ap (λ x. made_of b.moving.partner b.peer x a.receiver.msn n y) start
    ∙ (ap (λ x. made_of b.moving.partner b.peer b.terms.peer_start x n y) msn ∙ sym (acknowledge-is b n y)))))

-- ---- completions

settle-none : (qs : List (Name × Queue)) (place : ℕ) → settle_at qs place 0 [] ≡ qs
settle-none [] place = refl
settle-none (q ∷ qs) zero = ap (λ x. (q.0, x) ∷ qs) (settled-none q.1)
settle-none (q ∷ qs) (suc place) = ap (λ l. q ∷ l) (settle-none qs place)

all-settles : (c : Context) (qs : List (Name × Queue)) (name : Name) (place : ℕ) (done : List Completion) → c.queues ≡ queues_of qs → StandsAt qs name place
    → completing_all c name done ≡ record c { queues = queues_of (settle_at qs place (length done) done) }
all-settles c qs name place [] is at = ap (λ q. record c { queues = q }) (is ∙ ap queues_of (sym (settle-none qs place)))
all-settles c qs name place (w ∷ ws) is at = completing-settles c qs name place (length (w ∷ ws)) (w ∷ ws) is at

-- ---- a site where a request was served

module _ (s : EndWithMemory) (l l' : EndLink) (d : Packet) (pool' : Pool) (rs' : WorkQueue Receive) (qs' : List (Name × Queue)) (T : Taking)
    (sound : IsSound s nothing) (is : s.end.link ≡ Some l) (running : l.ended ≡ false) (fits : Fits d)
    (row : T ≡ taken_request l.responder.terms s.end.domain s.end.number l.responder.receiver (regions_of s.pool s.held) s.end.recvs.items d)
    (did : HasServed s.recv s.end.domain T l l' s.end.recvs rs' s.pool pool' s.held s.queues qs') where
  -- the site after it
  abbrev pub after : EndWithMemory
  after = record s { pool = pool'; queues = qs'; end = record s.end { recvs = rs'; link = Some l' } }

  before : IsLinked s.pool s.held s.end l
  before = link-of s.pool s.held s.end l sound.end is

  kept : AreKept s.pool pool' l.requester.items
  kept = λ i p within. did.others.others (get_or l.requester.items i p).payload.list (before.posted i p within).payload.holds.lives (before.posted i p within).payload.apart

  link : with_receiver (link_in s.pool l) T.receiver ≡ link_in pool' l'
  unfolding with_receiver
  link =
      sym (ap (λ (x : EndLink). link_in pool' x) did.same
      ∙ ap (λ us. record (link_in s.pool l) { sender = record (sender_in s.pool l.requester) { untold = us }; receiver = T.receiver }) (untold-kept s.pool pool' l.requester.items kept))

  unused : rs'.items ≡ T.unused
  unused = ap (λ r. r.items) did.receives

  end-is : (names : Names) → with_link (with_unused (end_at names s) T.unused) (with_receiver (link_in s.pool l) T.receiver) ≡ end_at names after
  unfolding with_link with_unused
  end-is names =
      ap (λ x. record (end_at names s) { unused = T.unused; link = Some x }) link
      ∙ ap (λ us. record (end_at names s) { unused = us; link = Some (link_in pool' l') }) (sym unused)

  context-is : (c : Context) (names : Names) → IsHome c names s → context_after c (end_at names s) (link_in s.pool l) T ≡ home c names after
  unfolding with_end
  context-is c names at =
      let c1 : Context = linked (with_regions c T.regions) (end_after (end_at names s) T) (link_after (link_in s.pool l) T) in
      all-settles c1 s.queues names.recv_cq s.recv T.done at.queues at.recv
      ∙ (ap (λ qs. with_end (record c { regions = T.regions; queues = queues_of qs }) (with_link (with_unused (end_at names s) T.unused) (with_receiver (link_in s.pool l) T.receiver))) (sym did.queues)
      ∙ (ap (λ rs. with_end (record c { regions = rs; queues = queues_of qs' }) (with_link (with_unused (end_at names s) T.unused) (with_receiver (link_in s.pool l) T.receiver))) (sym did.bytes)
      ∙ ap (λ e. with_end (record c { regions = regions_of pool' s.held; queues = queues_of qs' }) e) (end-is names)))

  -- where nothing is different, the context is as it was
  as-was : (c : Context) (names : Names) → IsHome c names s → IsAsBefore l.responder.receiver (regions_of s.pool s.held) s.end.recvs.items T → home c names after ≡ c
  unfolding with_link with_unused with_receiver
  as-was c names at same =
      let queues : qs' ≡ s.queues = did.queues ∙ (ap (λ w. settle_at s.queues s.recv (length w) w) same.done ∙ settle-none s.queues s.recv) in
      let end : end_at names after ≡ end_at names s =
      sym (end-is names)
      ∙ (ap (λ us. record (end_at names s) { unused = us; link = Some (record (link_in s.pool l) { receiver = T.receiver }) }) same.unused
      ∙ (ap (λ r. record (end_at names s) { link = Some (record (link_in s.pool l) { receiver = r }) }) same.receiver
      ∙ ap (λ o. record (end_at names s) { link = option_map (link_in s.pool) o }) (sym is))) in
      ap (λ rs. with_end (record c { regions = rs; queues = queues_of qs' }) (end_at names after)) (did.bytes ∙ same.regions)
      ∙ (ap (λ qs. with_end (record c { regions = regions_of s.pool s.held; queues = queues_of qs }) (end_at names after)) queues
      ∙ (ap (λ e. with_end (record c { regions = regions_of s.pool s.held; queues = queues_of s.queues }) e) end
      ∙ home-same c names s at))

  around : Around
  around = record { terms = l.responder.terms; domain = s.end.domain; qp = s.end.number; receiver = l.responder.receiver; regions = regions_of s.pool s.held; unused = s.end.recvs.items }

  leaves : Leaves l.responder.receiver (regions_of s.pool s.held) s.end.recvs.items T T.reply
  unfolding around
  leaves = subst (λ t. Leaves l.responder.receiver (regions_of s.pool s.held) s.end.recvs.items t t.reply) (sym row) (leaving around d (fits-names d fits))

  writes-none : writes_none T.reply ≡ true → T.regions ≡ regions_of s.pool s.held
  unfolding around
  writes-none w = ap (λ (t : Taking). t.regions) row ∙ still around d fits (sym (ap (λ (t : Taking). writes_none t.reply) row) ∙ w)

  -- the region of a key, before and after
  region-same : (c : Context) (names : Names) (key : ℕ) → IsHome c names s → T.regions ≡ regions_of s.pool s.held → region_of_key c key ≡ at local_key no_region key (regions_of pool' s.held)
  unfolding region_of_key
  region-same c names key home' same = ap (λ rs. at local_key no_region key rs) (home'.regions ∙ sym (did.bytes ∙ same))

  protocol-step : (c : Context) (names : Names) → IsHome c names s → takes_request c (end_at names s) (link_in s.pool l) d ≡ step_by c (end_at names s) (link_in s.pool l) T T.reply
  unfolding step_of
  protocol-step c names at =
      let distinct = subst (λ rs. IsDistinct nat_eq (map local_key rs)) (sym at.regions) (distinct-keys s.pool s.held did.keyed) in
      let same : taken_request l.terms s.end.domain s.end.number l.responder.receiver c.regions s.end.recvs.items d ≡ T =
      ap (λ t. taken_request t s.end.domain s.end.number l.responder.receiver c.regions s.end.recvs.items d) (sym before.serving_terms)
      ∙ (ap (λ rs. taken_request l.responder.terms s.end.domain s.end.number l.responder.receiver rs s.end.recvs.items d) at.regions ∙ sym row) in
      request-row c (end_at names s) (link_in s.pool l) d distinct
      ∙ ap (λ (t : Taking). step_by c (end_at names s) (link_in s.pool l) t t.reply) same

  -- a repeat changes nothing
  context-at : (c : Context) (names : Names) (n : ℕ) → IsHome c names s → (n ≢ l.responder.receiver.expected → IsAsBefore l.responder.receiver (regions_of s.pool s.held) s.end.recvs.items T)
      → (if n == l.responder.receiver.expected then context_after c (end_at names s) (link_in s.pool l) T else c) ≡ home c names after
  context-at c names n home' same = by_test (n == l.responder.receiver.expected) refl
    where
      by_test : (b : Bool) → (n == l.responder.receiver.expected) ≡ b → (if b then context_after c (end_at names s) (link_in s.pool l) T else c) ≡ home c names after
      by_test true e = context-is c names home'
      by_test false e = sym (as-was c names home' (same (λ e'. grind (arith, nat_tests, e, e'))))

  items-same : l'.requester.items ≡ l.requester.items
  items-same = ap (λ (x : EndLink). x.requester.items) did.same

  ended-not : l'.ended ≡ true → false ≡ true
  ended-not e = sym (ap (λ (x : EndLink). x.ended) did.same ∙ running) ∙ e

  -- an acknowledge looks at the partner and the count of messages alone
  acknowledge-after : (n : ℕ) (y : Syndrome) → T.receiver.msn ≡ l.responder.receiver.msn → acknowledge (link_in s.pool l) n y ≡ acknowledge (link_in pool' l') n y
  acknowledge-after n y msn = acknowledge-same (link_in s.pool l) (link_in pool' l') n y
      (sym (ap (λ (x : EndLink). x.moves.partner) did.same)) (sym (ap (λ (x : EndLink). x.peer) did.same)) (sym (ap (λ (x : EndLink). x.terms.peer_start) did.same))
      (sym (ap (λ (x : EndLink). x.responder.receiver.msn) did.same ∙ msn))

  sent-after : (s2 : EndWithMemory) (w : RefusalReason) → T.receiver.msn ≡ l.responder.receiver.msn → KeepsPartner l' s2.end.link
      → acknowledge (link_in s.pool l) l.responder.receiver.expected (Nak (nak_code w)) ∷ [] ≡ sent_of s2 (reply.Acknowledge l.responder.receiver.expected (Nak (nak_code w)))
  sent-after s2 w msn keeps =
      ap (λ a. a ∷ []) (acknowledge-after l.responder.receiver.expected (Nak (nak_code w)) msn
      ∙ acknowledge-same (link_in pool' l') (link_in s2.pool keeps.link) l.responder.receiver.expected (Nak (nak_code w)) (sym keeps.partner) (sym keeps.peer) (sym (ap (λ t. t.peer_start) keeps.terms)) (sym keeps.msn))
      ∙ sym (ap (λ o. option_map_or (λ x. sent_by (regions_of s2.pool s2.held) (link_in s2.pool x) (reply.Acknowledge l.responder.receiver.expected (Nak (nak_code w)))) o []) keeps.there)

  -- an answer that is no refusal, row by row
  row-step : (c : Context) (names : Names) (r : Reply) → IsHome c names s → T.reply ≡ r → Leaves l.responder.receiver (regions_of s.pool s.held) s.end.recvs.items T r → ((w : RefusalReason) → r ≡ served.Refused w → ⊥)
      → step_by c (end_at names s) (link_in s.pool l) T r
      ≡ record {
        context = home c names after;
        took = (request_answer r l.responder.receiver.expected T.receiver.expected).took;
        sent = sent_by (regions_of pool' s.held) (link_in pool' l') (request_answer r l.responder.receiver.expected T.receiver.expected).reply;
      }
  row-step c names served.Acted at is' leaves' alive = ap (λ x. record { context = x; took = took.Acted; sent = [] }) (context-is c names at)
  row-step c names served.Ack at is' leaves' alive =
      ap (λ x. record { context = x; took = took.Ack; sent = acknowledge (with_receiver (link_in s.pool l) T.receiver) (T.receiver.expected - 1) Ack ∷ [] }) (context-is c names at)
      ∙ ap (λ k. record { context = home c names after; took = took.Ack; sent = acknowledge k (T.receiver.expected - 1) Ack ∷ [] }) link
  row-step c names (served.ReadBytes spot first count) at is' leaves' alive =
      ap (λ x. record { context = x; took = took.Bytes; sent = read_pieces (with_receiver (link_in s.pool l) T.receiver) (region_of_key c spot.region) spot.off spot.length first count }) (context-at c names first at leaves')
      ∙ (ap (λ k. record { context = home c names after; took = took.Bytes; sent = read_pieces k (region_of_key c spot.region) spot.off spot.length first count }) link
      ∙ ap (λ g. record { context = home c names after; took = took.Bytes; sent = read_pieces (link_in pool' l') g spot.off spot.length first count }) (region-same c names spot.region at (writes-none (ap writes_none is'))))
  row-step c names (served.AtomicOld number old) at is' leaves' alive =
      ap (λ x. record { context = x; took = took.Old; sent = old_answer (with_receiver (link_in s.pool l) T.receiver) number old ∷ [] }) (context-at c names number at leaves')
      ∙ ap (λ k. record { context = home c names after; took = took.Old; sent = old_answer k number old ∷ [] }) link
  row-step c names served.SequenceNak at is' leaves' alive =
      ap (λ x. record { context = x; took = took.SeqNak; sent = acknowledge (link_in s.pool l) l.responder.receiver.expected (Nak 0) ∷ [] }) (context-is c names at)
      ∙ ap (λ a. record { context = home c names after; took = took.SeqNak; sent = a ∷ [] }) (acknowledge-after l.responder.receiver.expected (Nak 0) leaves'.msn)
  row-step c names served.NotReady at is' leaves' alive =
      ap (λ x. record { context = x; took = took.NotReady; sent = acknowledge (link_in s.pool l) l.responder.receiver.expected Rnr ∷ [] }) (sym (as-was c names at leaves'))
      ∙ ap (λ a. record { context = home c names after; took = took.NotReady; sent = a ∷ [] }) (acknowledge-after l.responder.receiver.expected Rnr (ap (λ r. r.msn) leaves'.receiver))
  row-step c names (served.Refused w) at is' leaves' alive = absurd (alive w refl)
  row-step c names served.DupAck at is' leaves' alive =
      ap (λ x. record { context = x; took = took.DupAck; sent = acknowledge (link_in s.pool l) (l.responder.receiver.expected - 1) Ack ∷ [] }) (sym (as-was c names at leaves'))
      ∙ ap (λ a. record { context = home c names after; took = took.DupAck; sent = a ∷ [] }) (acknowledge-after (l.responder.receiver.expected - 1) Ack (ap (λ r. r.msn) leaves'.receiver))
  row-step c names (served.Silent w) at is' leaves' alive = ap (λ x. record { context = x; took = took.Silent w; sent = [] }) (sym (as-was c names at leaves'))

  pub served-step : (c : Context) (names : Names) → IsHome c names s → ((w : RefusalReason) → T.reply ≡ served.Refused w → ⊥)
      → takes_request c (end_at names s) (link_in s.pool l) d
      ≡ record {
        context = home c names after;
        took = (request_answer T.reply l.responder.receiver.expected T.receiver.expected).took;
        sent = sent_by (regions_of pool' s.held) (link_in pool' l') (request_answer T.reply l.responder.receiver.expected T.receiver.expected).reply;
      }
  served-step c names at alive = protocol-step c names at ∙ row-step c names T.reply at refl leaves alive

  -- a refusal: what it completes, and then all work is flushed
  pub refused-step : (c : Context) (names : Names) (w : RefusalReason) (s2 : EndWithMemory) → IsHome c names s → T.reply ≡ served.Refused w → KeepsPartner l' s2.end.link
      → takes_request c (end_at names s) (link_in s.pool l) d
      ≡ record {
        context = ended_with (home c names after) (end_at names after) (link_in pool' l') status.Flush;
        took = took.Refused w;
        sent = sent_of s2 (reply.Acknowledge l.responder.receiver.expected (Nak (nak_code w)));
      }
  unfolding ended_with with_end with_link with_unused with_receiver
  refused-step c names w s2 at refused keeps =
      let e : End = end_at names s in
      let x : Context = record c { regions = regions_of pool' s.held; queues = queues_of qs' } in
      let numbers = subst (λ r. Leaves l.responder.receiver (regions_of s.pool s.held) s.end.recvs.items T r) refused leaves in
      let regions : regions_of s.pool s.held ≡ regions_of pool' s.held = sym (did.bytes ∙ writes-none (ap writes_none refused)) in
      let told : completing_all c names.recv_cq T.done ≡ x =
      all-settles c s.queues names.recv_cq s.recv T.done at.queues at.recv
      ∙ (ap (λ qs. record c { queues = queues_of qs }) (sym did.queues)
      ∙ ap (λ rs. record c { regions = rs; queues = queues_of qs' }) (at.regions ∙ regions)) in
      let e1 : End = end_at names after in
      let a : List Sent = acknowledge (link_in s.pool l) l.responder.receiver.expected (Nak (nak_code w)) ∷ [] in
      protocol-step c names at
      ∙ (ap (λ r. step_by c e (link_in s.pool l) T r) refused
      ∙ (ap (λ y. record { context = ended_with y (with_unused e T.unused) (with_receiver (link_in s.pool l) T.receiver) status.Flush; took = took.Refused w; sent = a }) told
      ∙ (ap (λ y. record { context = ended_with x (with_unused e T.unused) y status.Flush; took = took.Refused w; sent = a }) link
      ∙ (ap (λ us. record { context = ended_with x (record e1 { unused = us }) (link_in pool' l') status.Flush; took = took.Refused w; sent = a }) (sym unused)
      ∙ (ap (λ y. record {
        context = completing (completing y names.send_cq (failing s.end.number status.Flush (sender_in pool' l'.requester).untold)) names.recv_cq (map (failed_receive s.end.number status.Flush) (in_use_by l'.responder.receiver.progress ++ rs'.items));
        took = took.Refused w;
        sent = a;
      }) (sym (end-twice x e1 (with_link (with_unused e1 []) (ended_link (link_in pool' l'))) refl))
      ∙ ap (λ z. record { context = ended_with (home c names after) (end_at names after) (link_in pool' l') status.Flush; took = took.Refused w; sent = z }) (sent-after s2 w numbers.msn keeps))))))

  -- ---- what was due

  pub due-after : is_paused (phase_of l.moves.phase) ≡ false → (spot : RegionRange) (first count : ℕ) → T.reply ≡ served.ReadBytes spot first count → count ≡ pieces spot.length l.responder.terms.mtu → IsDue s after l d spot first count
  unfolding around
  due-after paused spot first count is' all =
      let bytes : regions_of pool' s.held ≡ regions_of s.pool s.held = did.bytes ∙ writes-none (ap writes_none is') in
      record {
        msn = T.receiver.msn;
        all = all ∙ ap (λ t. pieces spot.length t.mtu) before.serving_terms;
        due =
            ap (λ b. if b || is_paused (phase_of l.moves.phase) then None else due_read l.terms l.responder.receiver (regions_of s.pool s.held) s.end.domain d) running
            ∙ (ap (λ b. if b then None else due_read l.terms l.responder.receiver (regions_of s.pool s.held) s.end.domain d) paused
            ∙ (ap (λ t. due_read t l.responder.receiver (regions_of s.pool s.held) s.end.domain d) (sym before.serving_terms)
            ∙ (taken-due around d (fits-names d fits) spot first count (sym (ap (λ (t : Taking). t.reply) row) ∙ is')
            ∙ ap (λ (t : Taking). Some (record { spot = spot; first = first; msn = t.receiver.msn })) (sym row))));
        sent =
            ap (λ rs. read_pieces (link_in pool' l') (at local_key no_region spot.region rs) spot.off spot.length first count) bytes
            ∙ responses-same (link_in pool' l') (telling (link_in s.pool l) T.receiver.msn) (at local_key no_region spot.region (regions_of s.pool s.held)) spot.off spot.length first count
            (ap (λ (x : EndLink). x.moves.partner) did.same) (ap (λ (x : EndLink). x.peer) did.same) (ap (λ (x : EndLink). x.terms) did.same) (ap (λ (x : EndLink). x.responder.receiver.msn) did.same);
      }

  pub served-due : is_paused (phase_of l.moves.phase) ≡ false → (old new : ℕ) (held : List RegisteredRegion) (r : Reply) → IsRead held l.responder.terms.mtu r → T.reply ≡ r → WasDue s after l d (request_answer r old new).reply
  served-due paused old new held served.Acted read is' = tt
  served-due paused old new held served.Ack read is' = tt
  served-due paused old new held (served.ReadBytes spot first count) read is' = due-after paused spot first count is' read.1
  served-due paused old new held (served.AtomicOld number value) read is' = tt
  served-due paused old new held served.SequenceNak read is' = tt
  served-due paused old new held served.NotReady read is' = tt
  served-due paused old new held (served.Refused w) read is' = tt
  served-due paused old new held served.DupAck read is' = tt
  served-due paused old new held (served.Silent w) read is' = tt

  -- ---- what is kept

  counts : waiting T.receiver T.unused + length T.done ≡ waiting l.responder.receiver s.end.recvs.items
  unfolding around
  counts = subst (λ (t : Taking). waiting t.receiver t.unused + length t.done ≡ waiting l.responder.receiver s.end.recvs.items) (sym row) (counted around d (fits-names d fits))

  receives-count : length (all_receives l' rs') + length T.done ≡ length (all_receives l s.end.recvs)
  receives-count =
      let new = length-both (in_use_by l'.responder.receiver.progress) rs'.items in
      let old = length-both (in_use_by l.responder.receiver.progress) s.end.recvs.items in
      let used = ap (λ (x : EndLink). length (in_use_by x.responder.receiver.progress)) did.same in
      let left = ap length unused in
      let all = counts in
      omega (arith, new, old, used, left, all)

  work : (place : ℕ) → promised s.send s.recv s.end place + nothing place ≡ promised s.send s.recv after.end place + count_at s.recv (length T.done) place
  work place =
      let old = promised-is s.end l s.send s.recv place is in
      let new = promised-is after.end l' s.send s.recv place refl in
      let items = ap (λ (x : EndLink). count_at s.send (length x.requester.items) place) did.same in
      let sum = count-sum s.recv (length (all_receives l' rs')) (length T.done) (length (all_receives l s.end.recvs)) place receives-count in
      omega (arith, old, new, items, sum)

  settles : Settles s.queues qs' (count_at s.recv (length T.done))
  settles =
      let old = promised-is s.end l s.send s.recv s.recv is in
      let enough = sound.reserved.enough s.recv in
      let here = count-here s.recv (length (all_receives l s.end.recvs)) in
      let bound = receives-count in
      subst (λ qs. Settles s.queues qs (count_at s.recv (length T.done))) (sym did.queues)
      (settles-at s.queues s.recv (length T.done) T.done sound.reserved.recv_there (omega (arith, old, enough, here, bound)))

  pub served-sound : IsSound after nothing
  served-sound =
      let h = before in
      record {
        end = record {
          queue = none-of s.pool s.held s.end l sound.end is;
          depth = ap (λ r. r.depth) did.receives ∙ sound.end.depth;
          state = record {
            terms = subst AreTerms (sym (ap (λ (x : EndLink). x.terms) did.same)) h.terms;
            sending_terms = ap (λ (x : EndLink). x.requester.terms) did.same ∙ (h.sending_terms ∙ sym (ap (λ (x : EndLink). x.terms) did.same));
            serving_terms = ap (λ (x : EndLink). x.responder.terms) did.same ∙ (h.serving_terms ∙ sym (ap (λ (x : EndLink). x.terms) did.same));
            depth = ap (λ (x : EndLink). x.requester.depth) did.same ∙ h.depth;
            fit = subst (λ ps. length ps ≤ s.end.send_depth) (sym items-same) h.fit;
            posted = subst (λ ps. All (IsPosted pool' s.held s.end.domain) ps) (sym items-same) (all-posted-kept s.pool pool' s.held s.end.domain l.requester.items kept h.posted);
            apart = subst (λ ps. IsDistinct nat_eq (payload_lists ps)) (sym items-same) h.apart;
            serving = did.serving;
            none_untold = λ e. absurd (let no' = ended-not e in cc);
            none_unused = λ e. absurd (let no' = ended-not e in cc);
            no_message = λ e. absurd (let no' = ended-not e in cc);
            running = λ e. absurd (let no' = ended-not e in cc);
          };
        };
        regions = did.regions;
        reserved = reserved-after s.queues qs' s.send s.recv s.end after.end nothing (count_at s.recv (length T.done)) settles work sound.reserved;
      }

  pub served-keeps : Keeps s after [] nothing
  served-keeps =
      let items : untold_by s.end.link ++ [] ≡ l.requester.items = append-none (untold_by s.end.link) ∙ ap untold_by is in
      let same = pages-kept s.pool pool' l.requester.items kept in
      let old = ap (payload_pages s.pool) items in
      let new = ap (payload_pages pool') items-same in
      let free = did.free in
      record {
        end = record { number = refl; domain = refl; send_depth = refl; recv_depth = refl };
        untold = record { gone = 0; left = items-same ∙ sym items };
        regions = refl;
        lists = record { pages = did.others.pages; others = λ list lives regions own. did.others.others list lives regions };
        kept = subst (λ ps. AreKept s.pool pool' ps) (sym items-same) kept;
        free = omega (arith, same, old, new, free);
        queues = keeps-settled s.queues qs' s.send s.recv s.end after.end nothing (count_at s.recv (length T.done)) settles work;
      }

-- ---- what a reply hands out

pub nak-fits : (w : RefusalReason) → IsTrue (fits_syndrome 0x11 (Nak (nak_code w)))
nak-fits refused.Invalid = refl
nak-fits refused.Access = refl
nak-fits refused.Length = refl

pub read-reply : (held : List RegisteredRegion) (l : EndLink) (r : Reply) (mtu old new : ℕ) → l.terms.mtu ≡ mtu → IsRead held mtu r → IsReply held l (request_answer r old new).reply
read-reply held l served.Acted mtu old new same read = tt
read-reply held l served.Ack mtu old new same read = refl
read-reply held l (served.ReadBytes spot first count) mtu old new same read = (read.0, read.1 ∙ ap (λ n. pieces spot.length n) (sym same))
read-reply held l (served.AtomicOld number value) mtu old new same read = tt
read-reply held l served.SequenceNak mtu old new same read = refl
read-reply held l served.NotReady mtu old new same read = refl
read-reply held l (served.Refused w) mtu old new same read = nak-fits w
read-reply held l served.DupAck mtu old new same read = refl
read-reply held l (served.Silent w) mtu old new same read = tt

pub refused-reply : (held : List RegisteredRegion) (o : Option EndLink) (a : EndReply) (number : ℕ) (w : RefusalReason) → a ≡ reply.Acknowledge number (Nak (nak_code w)) → IfSome o (λ l. IsReply held l a)
refused-reply held None a number w is = tt
refused-reply held (Some l) a number w is = subst (λ x. IsReply held l x) (sym is) (nak-fits w)
