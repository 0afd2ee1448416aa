-- What a transmission sends.
use Rattle.std.proofs.Common.{◌≡◌, ℕ, zero, suc, ◌+◌, ◌<◌, ◌≤◌, ◌^◌, true, List, [], ◌∷◌, length, refl, ap, sym, ◌∙◌, subst, arith}
use Rattle.std.specs.Prelude.{◌%◌, Option, Some, None, map, slice_get, unwrap_or}
use Rattle.std.proofs.lemmas.Bool.Decides.{nat_tests}
use Rattle.std.proofs.lemmas.List.Elements.{recursion_from_All}
use Rattle.rdma_types.specs.declared.answers.Answer.TheVariants as answer
use Rattle.rdma_types.specs.declared.requests.Address.{Address}
use Rattle.rdma_types.specs.Limits.{is_mtu}
use Rattle.rdma_types.specs.Objects as objects
use Rattle.page_pool.specs.Held.{payload_bytes}
use Rattle.page_pool.specs.Pool.{Pool}
use Rattle.end_queues.specs.declared.work_queues.posted.QueuedRequest.{QueuedRequest}
use Rattle.end_queues.specs.Untold.{posted_in}
use Rattle.protocol.specs.Bytes.{bytes_at}
use Rattle.protocol.specs.DeviceStep.{at_link, gives, sends_by, sends_piece, transmits, with_context}
use Rattle.protocol.specs.EndWords.{linked, with_end, with_link}
use Rattle.protocol.specs.Moves.{resume_packet}
use Rattle.protocol.specs.Numbers.{wire_number}
use Rattle.protocol.specs.Requester as rows
use Rattle.protocol.specs.Requester.{Transmission, Sends, SendsResume, IsIdle, WindowIsFull, ReadsAreFull, IsFenced, transmission}
use Rattle.protocol.specs.Segments.{packet_of_piece}
use Rattle.protocol.specs.State.{Context, Device, End, Link}
use Rattle.protocol.specs.Wire.{Fits, Packet, plain, wire_of}
use Rattle.transport.specs.declared.segmenter.head.PacketHead.{PacketHead}
use Rattle.transport.specs.Heads.{packet_with}
use Rattle.requester.specs.declared.answers.Transmit.TheVariants.{Sent as IsSent}
use Rattle.requester.specs.Sending.{sender_in}
use Rattle.requester.specs.Taking.{request_at}
use Rattle.requester.specs.Transmitting.{piece_said}
use Rattle.endpoint_core.specs.declared.answers.EndSend.TheVariants as send
use Rattle.endpoint_core.specs.declared.end.Endpoint.{Endpoint}
use Rattle.endpoint_core.specs.declared.end.EndLink.{EndLink}
use Rattle.endpoint_core.specs.Answers.{link_after_row, row_in, sent_at}
use Rattle.endpoint_core.specs.Ends.{link_in, untold_by}
use Rattle.endpoint_core.specs.Sound.{IsPosted}
use Rattle.context_core.specs.declared.sending.Route.{Route}
use Rattle.context_core.specs.Sending.{IsInRange, row_answer, row_sent}
use Rattle.context_core.specs.Transmitting.{IsSending}
use Rattle.context_core.proofs.PacketSizes.{dest-small, fits_piece, piece-addressed, piece-payload, wire-addressed, wire-length}
use Rattle.context_core.proofs.EndStepCalls.{each-at}

-- ---- terms

pub mtu-small : (n : ℕ) → is_mtu n ≡ true → n ≤ 4096
mtu-small n t = grind (arith, nat_tests)

pub wire-small : (start n : ℕ) → wire_number start n < 2 ^ 24
unfolding wire_number
wire-small start n = omega arith

-- ---- a request that is not told

get-map : {A B : Type 0} (f : A → B) (xs : List A) (i : ℕ) (x : A) → slice_get xs i ≡ Some x → slice_get (map f xs) i ≡ Some (f x)
get-map f [] i x e = absurd (cc)
get-map f (y ∷ ys) zero x e = let same : y ≡ x = cc in ap (λ z. Some (f z)) same
get-map f (y ∷ ys) (suc i) x e = get-map f ys i x e

module _ (pool : Pool) (e : Endpoint) (way : Route) (number index : ℕ) (head : PacketHead) (l : EndLink) (s : IsSending pool e way (send.Transmit (IsSent number index head)) l) (p : QueuedRequest) (there : slice_get (untold_by e.link) index ≡ Some p) where
  item : slice_get l.requester.items index ≡ Some p
  item = subst (λ ps. slice_get ps index ≡ Some p) s.items there

  pub posted-is : IsPosted pool s.held s.domain p
  posted-is = each-at (IsPosted pool s.held s.domain) l.requester.items index p (recursion_from_All (IsPosted pool s.held s.domain) l.requester.items s.posted) item

  request-is : request_at (sender_in pool l.requester) index ≡ posted_in pool p
  request-is = ap (λ o. unwrap_or o objects.no_posted) (get-map (posted_in pool) l.requester.items index p item)

  -- which of its pieces is sent
  abbrev piece : ℕ
  piece = (piece_said l.terms (sender_in pool l.requester) number index).k

  packet-is : (dest psn : ℕ) → packet_with head (posted_in pool p) dest psn ≡ packet_of_piece (posted_in pool p) l.terms.mtu piece dest psn
  packet-is dest psn = subst (λ q. packet_with head q dest psn ≡ packet_of_piece q l.terms.mtu piece dest psn) request-is (s.packet.packet dest psn)

  pub few : length (bytes_at head.off head.length (payload_bytes pool p.payload)) ≤ way.mtu
  few =
      let same : length (bytes_at head.off head.length (payload_bytes pool p.payload)) ≡ length (packet_of_piece (posted_in pool p) l.terms.mtu piece 0 0).payload = ap (λ (w : Packet). length w.payload) (packet-is 0 0) in
      let mtu : way.mtu ≡ l.terms.mtu = ap (λ (w : Route). w.mtu) s.way_is.is in
      omega (arith, same, mtu, piece-payload (posted_in pool p) l.terms.mtu piece 0 0)

  pub fits : (w : Packet) (psn : ℕ) → IsInRange p.request.shape → psn < 2 ^ 24 → w ≡ packet_with head (posted_in pool p) (way.peer % 16777216) psn → Fits w
  fits w psn range small is =
      subst Fits (sym (is ∙ packet-is (way.peer % 16777216) psn))
      (fits_piece (posted_in pool p) l.terms.mtu piece (way.peer % 16777216) psn range posted-is.shape (mtu-small l.terms.mtu s.terms.mtu) (dest-small way.peer) small)

  pub short : (w : Packet) (psn : ℕ) → w ≡ packet_with head (posted_in pool p) (way.peer % 16777216) psn → length (wire_of w) ≤ way.mtu + 92
  short w psn is =
      let size : length w.payload ≡ length (bytes_at head.off head.length (payload_bytes pool p.payload)) = ap (λ (x : Packet). length x.payload) is in
      omega (arith, wire-length w, size, few)

  pub sent-is : (w : Packet) (psn : ℕ) (own : Address) → psn ≡ wire_number way.start number → w ≡ packet_with head (posted_in pool p) (way.peer % 16777216) psn
      → record { to = way.to; number = Some number; bytes = wire_of w } ∷ [] ≡ row_sent (link_in pool l) own (row_in pool (Some l) (send.Transmit (IsSent number index head)))
  sent-is w psn own spelled is =
      let bytes : wire_of w ≡ wire_of (packet_of_piece (posted_in pool p) l.terms.mtu piece way.peer psn) =
      ap wire_of (is ∙ packet-is (way.peer % 16777216) psn)
      ∙ (ap wire_of (piece-addressed (posted_in pool p) l.terms.mtu piece way.peer psn) ∙ wire-addressed (packet_of_piece (posted_in pool p) l.terms.mtu piece way.peer psn)) in
      ap {A = List ℕ} (λ bs. record { to = way.to; number = Some number; bytes = bs } ∷ []) bytes
      ∙ (ap (λ n. record { to = way.to; number = Some number; bytes = wire_of (packet_of_piece (posted_in pool p) l.terms.mtu piece way.peer n) } ∷ []) spelled
      ∙ (ap (λ (w : Route). record { to = w.to; number = Some number; bytes = wire_of (packet_of_piece (posted_in pool p) l.terms.mtu piece w.peer (wire_number w.start number)) } ∷ []) s.way_is.is
      ∙ (ap (λ q. record { to = l.moves.partner; number = Some number; bytes = wire_of (packet_of_piece q l.terms.mtu piece l.peer (wire_number l.terms.own_start number)) } ∷ []) (sym request-is)
      ∙ ap (λ n. record { to = l.moves.partner; number = Some n; bytes = wire_of (packet_of_piece (request_at (sender_in pool l.requester) index) l.terms.mtu piece l.peer (wire_number l.terms.own_start n)) } ∷ []) s.packet.number_is_next)))

-- a RESUME
pub resume-is : (pool : Pool) (e : Endpoint) (way : Route) (count : ℕ) (own : Address) (l : EndLink) (s : IsSending pool e way (send.Resume count) l) (w : Packet)
    → w ≡ record (plain 0x1E (way.peer % 16777216) 0) { resume = Some (record { count = count; address = own }) } → record { to = way.to; number = None; bytes = wire_of w } ∷ [] ≡ row_sent (link_in pool l) own SendsResume
resume-is pool e way count own l s w is =
    let bytes : wire_of w ≡ wire_of (resume_packet 0x1E way.peer (record { count = count; address = own })) = ap wire_of is ∙ wire-addressed (resume_packet 0x1E way.peer (record { count = count; address = own })) in
    ap {A = List ℕ} (λ bs. record { to = way.to; number = None; bytes = bs } ∷ []) bytes
    ∙ (ap (λ (w : Route). record { to = w.to; number = None; bytes = wire_of (resume_packet 0x1E w.peer (record { count = count; address = own })) } ∷ []) s.way_is.is
    ∙ ap (λ n. record { to = l.moves.partner; number = None; bytes = wire_of (resume_packet 0x1E l.peer (record { count = n; address = own })) } ∷ []) s.packet)

-- ---- the rule

by-row : (d : Device) (c : Context) (e : End) (l : Link) (own : Address) (t : Transmission) → d.address ≡ own → with_context d c ≡ d → linked c e l ≡ c
    → sends_by d c e l t ≡ gives (with_context d (linked c e (link_after_row l t))) (row_answer t) (row_sent l own t)
unfolding sends_piece
by-row d c e l own SendsResume at same there =
    ap (λ x. gives x (answer.Sent 0) (row_sent l d.address SendsResume)) (sym (ap (with_context d) there ∙ same)) ∙ ap (λ a. gives (with_context d (linked c e l)) (answer.Sent 0) (row_sent l a SendsResume)) at
by-row d c e l own rows.Waits at same there = ap (λ x. gives x answer.Waiting []) (sym (ap (with_context d) there ∙ same))
by-row d c e l own IsIdle at same there = ap (λ x. gives x answer.Idle []) (sym (ap (with_context d) there ∙ same))
by-row d c e l own WindowIsFull at same there = ap (λ x. gives x answer.WindowFull []) (sym (ap (with_context d) there ∙ same))
by-row d c e l own ReadsAreFull at same there = ap (λ x. gives x answer.ReadsFull []) (sym (ap (with_context d) there ∙ same))
by-row d c e l own IsFenced at same there = ap (λ x. gives x answer.Fenced []) (sym (ap (with_context d) there ∙ same))
by-row d c e l own (Sends x) at same there = refl

-- one transmission of a connected end
pub transmits-is : (d : Device) (c : Context) (e : End) (l : Link) (own : Address) → e.link ≡ Some l → d.address ≡ own → with_context d c ≡ d → with_end c e ≡ c
    → transmits d c e ≡ gives (with_context d (sent_at c e (Some l))) (row_answer (transmission l)) (row_sent l own (transmission l))
unfolding transmits with_link
transmits-is d c e l own is at same there =
    ap (λ o. at_link d o (λ k. sends_by d c e k (transmission k))) is
    ∙ by-row d c e l own (transmission l) at same (ap {A = Option Link} (λ o. with_end c (record e { link = o })) (sym is) ∙ there)
