-- The requests of the peer once the expected piece of a Write or Send was run.
use Rattle.std.proofs.Common.{arith, ◌≡◌, ◌<◌, ◌≤◌, ◌+◌, ◌/◌, ◌%◌, ℕ, suc, List, [], ◌∷◌, ◌++◌, length, true, false, Bool, refl, sym, ap, ◌∙◌, subst}
use Rattle.std.specs.Prelude.{Option, Some, None, if◌then◌else◌, nat_le, ◌==◌}
use Rattle.std.proofs.lemmas.Bool.Decides.{nat_tests, leb_tells, eqb_tells}
use Rattle.rdma_types.specs.declared.names.ObjName.{ObjName}
use Rattle.rdma_types.specs.declared.requests.Kind.{Kind}
use Rattle.rdma_types.specs.declared.requests.Kind.TheVariants as kinds'
use Rattle.rdma_types.specs.Kinds as kinds
use Rattle.rdma_types.specs.Kinds.{kind_of, lands, size_of}
use Rattle.rdma_types.specs.Limits.{is_mtu, number_limit, most_kept}
use Rattle.rdma_types.specs.Objects.{Posted}
use Rattle.rdma_types.specs.Spans.{first_number, end_number, request_of, span_of}
use Rattle.protocol.specs.declared.wire.Reth.{Reth}
use Rattle.protocol.specs.State.{World, Link, Receiver}
use Rattle.protocol.specs.Wire.{Packet}
use Rattle.protocol.specs.EndWords.{is_paused}
use Rattle.protocol.specs.Responder.{span_of_packet, is_read_request}
use Rattle.packetless_machine.specs.declared.reply.Reply.{Reply}
use Rattle.packetless_machine.specs.declared.reply.Reply.TheVariants.{Finished}
use Rattle.packetless_machine.specs.Machine as machine
use Rattle.packetless_machine.specs.Machine.{Machine, End}
use Rattle.packetless_machine.specs.Numbers.{due}
use Rattle.packetless_machine.specs.Sound.{IsSound}
use Rattle.packetless_machine.specs.Steps.{current, fills, advanced}
use Rattle.law_simulation.specs.Packets.{class_of, IsRequest}
use Rattle.law_simulation.specs.Views.{link_of, requests_of}
use Rattle.law_simulation.specs.Joined.{last_of}
use Rattle.law_simulation.specs.Facts.{request_for}
use Rattle.law_simulation.proofs.relation.Numbers.{request-inside}
use Rattle.law_simulation.specs.Delivered.{Arrives}
use Rattle.law_simulation.proofs.requests.Requests.{IsRequestAt, asker, asking, request_at_end}
use Rattle.law_simulation.proofs.requests.Pieces.{first_suc}
use Rattle.law_simulation.proofs.requests.Due.{next_piece, not_last, piece_bytes}
use Rattle.law_simulation.proofs.requests.Expected.{at, due_now, mtu_now, g_sound, inside, request_now, below_top}
use Rattle.law_simulation.proofs.requests.Early.{same_due}
use Rattle.law_simulation.proofs.requests.Messages as messages
use Rattle.law_simulation.proofs.requests.Advancing.{IsAdvance, moved_on}
use Rattle.law_simulation.proofs.requests.Acted.{acts_advance, piece_advance, acted_sound, piece_sound, offers_acted, old-finished, due_acted}
use Rattle.law_simulation.proofs.requests.Running.{advanced_filled, advanced_more}

-- a packet that is no READ request has one number
pub one_number : (d : Packet) (mtu : ℕ) → is_read_request d.opcode ≡ false → span_of_packet d mtu d.reth ≡ 1
one_number d mtu h = by_reth d.reth
  where
    by_reth : (r : Option Reth) → span_of_packet d mtu r ≡ 1
    by_reth None = refl
    by_reth (Some x) = rw h refl

module _ (w : World) (m : Machine) (o : ObjName) (l : Link) (number : Option ℕ) (bytes : List ℕ) (d : Packet) (a : Arrives w m o l number bytes d) (is : class_of d ≡ IsRequest) (paused : is_paused l.moving.phase ≡ false) (now : (request_at_end w m o l number bytes d a is).0 ≡ l.receiver.expected) where
  abbrev q : ObjName
  q = asker m o

  abbrev g : End
  g = machine.end_of m q

  abbrev r : Posted
  r = current g

  abbrev n : ℕ
  n = (request_at_end w m o l number bytes d a is).0

  abbrev req : IsRequestAt w m o l n d
  req = at w m o l number bytes d a is paused now

  -- no number is past the limit
  pub within_limit : nat_le number_limit (n + 1) ≡ false
  within_limit =
      let below : n < end_number g.posted g.mtu = request-inside g.posted g.mtu n (subst (λ k. k < length g.posted) (sym (request_now w m o l number bytes d a is paused now)) (inside w m o l number bytes d a is paused now)) in
      grind (arith, nat_tests, leb_tells 4611686018427387904 (n + 1), below, req.back.ordered.limit)

  pub request_is_current : request_for (asking m o) n ≡ r
  request_is_current = ap (machine.posted_at g.posted) (request_now w m o l number bytes d a is paused now)

  -- a piece that is no Read is below `top`
  pub piece_top : kinds.is_read (kind_of r) ≡ false → n + 1 ≤ (link_of w q).sender.top
  piece_top not_read = omega (arith, by_kind (kinds.is_read (kind_of (request_for (asking m o) n))) (ap (λ z. kinds.is_read (kind_of z)) request_is_current ∙ not_read), below_top w m o l number bytes d a is paused now)
    where
      by_kind : (b : Bool) → b ≡ false → (if b then first_number g.posted g.mtu (suc (request_of g.posted g.mtu n)) else suc n) ≡ n + 1
      by_kind false t = omega arith
      by_kind true t = absurd (cc)

  -- where the current request ends with this number, the next one begins after it
  pub next_first : (k : ℕ) → g.into / g.mtu ≡ k → k + 1 ≡ span_of r g.mtu → first_number g.posted g.mtu (suc g.acted) ≡ n + 1
  unfolding due
  next_first k h last = omega (arith, first_suc g.posted g.mtu g.acted (inside w m o l number bytes d a is paused now), due_now w m o l number bytes d a is paused now, h, last)

  -- the requests once the piece was run
  pub record IsRunPeer (acted into : ℕ) (answers : List Reply) : Type 0 where
    pub moved : advanced g (length d.payload) ≡ moved_on g acted into answers g.offers g.dry
    pub sound : IsSound (moved_on g acted into answers g.offers g.dry)
    pub advance : (r' : Receiver) → r'.expected ≡ l.receiver.expected + 1 → r'.kept ≡ l.receiver.kept → IsAdvance (asking m o) acted into answers g.offers g.dry (link_of w q).sender.top r'
    pub acted_now : n < due (requests_of (moved_on g acted into answers g.offers g.dry))

  module _ (not_read : kinds.is_read (kind_of r) ≡ false) (not_atomic : kinds.is_atomic (kind_of r) ≡ false) where
    answered : length g.answers ≡ g.acted
    answered = req.receives.answered

    not_lands : lands (kind_of r) ≡ false
    not_lands = by_kind (kind_of r) not_read not_atomic
      where
        by_kind : (k : Kind) → kinds.is_read k ≡ false → kinds.is_atomic k ≡ false → lands k ≡ false
        by_kind kinds'.Write r t = refl
        by_kind kinds'.Send r t = refl
        by_kind kinds'.Read r t = absurd (cc)
        by_kind kinds'.CompareSwap r t = absurd (cc)
        by_kind kinds'.FetchAdd r t = absurd (cc)

    last_span : fills g (length d.payload) ≡ true → g.into / g.mtu + 1 ≡ span_of r g.mtu
    last_span h = eq (g.into / g.mtu + 1) (span_of r g.mtu) (messages.last_now w m o l number bytes d a is paused now not_read not_atomic ∙ h)
      where
        eq : (a b : ℕ) → (a == b) ≡ true → a ≡ b
        eq a b t = grind (arith, nat_tests, eqb_tells a b, t)

    pub filled_peer : fills g (length d.payload) ≡ true → IsRunPeer (suc g.acted) 0 (g.answers ++ Finished ∷ [])
    filled_peer h =
        let s : IsSound g = g_sound w m o l number bytes d a is paused now in
        let within : g.acted < length g.posted = inside w m o l number bytes d a is paused now in
        let mtu : is_mtu g.mtu ≡ true = mtu_now w m o l number bytes d a is paused now in
        let first : first_number g.posted g.mtu (suc g.acted) ≡ n + 1 = next_first (g.into / g.mtu) refl (last_span h) in
        let due_is : n ≡ due g = due_now w m o l number bytes d a is paused now in
        record {
          moved = advanced_filled g (length d.payload) h;
          sound = acted_sound g Finished g.offers within answered not_atomic (offers_acted g (g.answers ++ Finished ∷ []) g.offers s.offers) s;
          advance = λ r' expected kept.
              acts_advance (asking m o) Finished g.offers (link_of w q).sender.top r' mtu within answered (omega (arith, same_due g, due_is, first)) (omega (arith, first, piece_top not_read)) (λ f c. c) req.back.in_pieces.offers req.back.in_pieces (λ h. absurd (cc (not_read, h))) tt (omega (arith, expected, first, now))
              (kept ∙ (req.receives.kept ∙ ap (last_of most_kept) (sym (old-finished g.mtu g.posted g.answers (omega (arith, answered, within))))));
          acted_now = omega (arith, due_acted (requests_of g) (g.answers ++ Finished ∷ []) g.offers g.dry mtu, first);
        }

    pub more_peer : fills g (length d.payload) ≡ false → IsRunPeer g.acted (g.into + length d.payload) g.answers
    unfolding due
    more_peer h =
        let s : IsSound g = g_sound w m o l number bytes d a is paused now in
        let mtu : is_mtu g.mtu ≡ true = mtu_now w m o l number bytes d a is paused now in
        let count : length d.payload ≡ piece_bytes (size_of r) g.into g.mtu = messages.bytes_now w m o l number bytes d a is paused now not_read not_atomic in
        let more = not_last (size_of r) g.into g.mtu (messages.begun_now w m o l number bytes d a is paused now not_read not_atomic) (ap (λ k. g.into + k == size_of r) (sym count) ∙ h) in
        let size : length d.payload ≡ g.mtu = count ∙ more.0 in
        let next = next_piece g.into g.mtu mtu (messages.whole_now w m o l number bytes d a is paused now not_read not_atomic) in
        let div : (g.into + length d.payload) / g.mtu ≡ g.into / g.mtu + 1 = ap (λ k. (g.into + k) / g.mtu) size ∙ next.0 in
        let rem : (g.into + length d.payload) % g.mtu ≡ 0 = ap (λ k. (g.into + k) % g.mtu) size ∙ next.1 in
        let short : g.into + length d.payload < size_of r = omega (arith, size, more.1) in
        let due_is : n ≡ due g = due_now w m o l number bytes d a is paused now in
        record {
          moved = advanced_more g (length d.payload) h;
          sound = piece_sound g (g.into + length d.payload) (omega arith) short not_lands s;
          advance = λ r' expected kept. piece_advance (asking m o) (link_of w q).sender.top r' (g.into + length d.payload) div rem short (omega (arith, due_is, piece_top not_read)) (omega (arith, expected, now, due_is)) (kept ∙ req.receives.kept) answered req.back.in_pieces;
          acted_now = omega (arith, due_is, div);
        }
