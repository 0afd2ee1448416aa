-- What is true of an end, of its peer, and of all that was sent, stays true where the end posts one more request.
use Rattle.std.proofs.Common.{arith, ◌≡◌, ◌≤◌, ◌<◌, ◌+◌, ◌-◌, ◌/◌, ◌⊎◌, ℕ, zero, suc, List, [], ◌∷◌, ◌++◌, length, get_or, true, false, Bool, refl, sym, ap, ◌∙◌, subst, inl, inr}
use Rattle.std.specs.Prelude.{Option, Some, None, nat_lt, drop, take, slice_get, Contains, if◌then◌else◌, ◌*◌, ◌==◌}
use Rattle.std.specs.List.{list_any}
use Rattle.std.proofs.lemmas.Bool.Decides.{nat_tests, leb_tells, eqb_tells}
use Rattle.std.proofs.lemmas.List.{get_or_past, get_or_at, length_push, length-drop, drop-append-le, take-append-le}
use Rattle.std.proofs.lemmas.List.Elements.{All-push, All-weaker}
use Rattle.rdma_types.specs.declared.names.ObjName.{ObjName}
use Rattle.rdma_types.specs.Kinds.{is_atomic, is_read, is_send, is_write, kind_of, lands, size_of}
use Rattle.rdma_types.specs.Limits.{most_bytes, number_limit}
use Rattle.rdma_types.specs.Objects.{Posted, no_posted}
use Rattle.rdma_types.specs.Spans.{Piece, piece_at, first_number, end_number, request_of, piece_of, span_of}
use Rattle.rdma_types.specs.declared.names.Name.{Name}
use Rattle.protocol.specs.State.{Sender, Link, HuskEntry, Progress, NoMessage, InSend, InWrite}
use Rattle.protocol.specs.Numbers.{wire_number}
use Rattle.protocol.specs.Segments.{packet_at, packet_of_found}
use Rattle.protocol.specs.Wire.{Packet}
use Rattle.rdma_types.specs.Objects.{Region}
use Rattle.packetless_machine.specs.declared.reply.Reply.{Reply}
use Rattle.packetless_machine.specs.declared.reply.Reply.TheVariants.{OldValue}
use Rattle.packetless_machine.specs.Machine.{End, untold_count}
use Rattle.packetless_machine.specs.Numbers.{due, oldest}
use Rattle.packetless_machine.specs.Sound.{IsSound, IsOfferOf, IsReplyTo, IsDenial}
use Rattle.packetless_machine.specs.Steps.{current, in_place}
use Rattle.law_simulation.specs.Packets.{Class, class_of, IsRequest, IsReadResponse, IsAtomicResponse, IsAck, IsSequenceNak, IsRefusal, IsReceiverNotReady, IsStopped, IsResume, IsResumeAck, IsNothing}
use Rattle.law_simulation.specs.Facts.{IsLeft, IsRequestOf, IsOffered, IsOld, NumberedFact, MoveFact, ClassFact, PacketFact, request_for, past_packet}
use Rattle.law_simulation.specs.Views.{Side}
use Rattle.law_simulation.specs.Joined.{IsJoined, IsSayable, IsUnwrapped, AreWholePieces, IsFencedIn, IsProgress, IsWriting, is_granted_in, lands_untold_before, last_of}
use Rattle.law_simulation.proofs.relation.Numbers.{first-append, end-push, first-end, request-push, piece-push, request-inside, inside-request, piece_at-push, piece-found, old-push, posted-push}

-- the end with one more request
abbrev pub posted_end : End → Posted → End
posted_end q r = record q { posted = q.posted ++ r ∷ [] }

-- the requester with one more
abbrev pub posted_sender : Sender → Posted → Sender
posted_sender s r = record s { untold = s.untold ++ r ∷ [] }

abbrev pub posted_side : Side → Posted → Side
posted_side x r = record x { link = record x.link { sender = posted_sender x.link.sender r } }

-- ---- the request at a place

-- where the place is past the posted ones, there was nothing, and the new one is no earlier
at_place : (P : Posted → Type 0) (posted : List Posted) (r : Posted) (i : ℕ) → (i < length posted → P (get_or posted i no_posted)) → (length posted ≤ i → P (get_or (posted ++ r ∷ []) i no_posted)) → P (get_or (posted ++ r ∷ []) i no_posted)
at_place P posted r i old new = by_order (nat_lt i (length posted)) refl
  where
    by_order : (b : Bool) → nat_lt i (length posted) ≡ b → P (get_or (posted ++ r ∷ []) i no_posted)
    by_order true t = let l : i < length posted = grind (arith, nat_tests, leb_tells (suc i) (length posted), t) in subst P (sym (posted-push posted r i l)) (old l)
    by_order false t = new (grind (arith, nat_tests, leb_tells (suc i) (length posted), t))

nothing_there : (posted : List Posted) (i : ℕ) → length posted ≤ i → get_or posted i no_posted ≡ no_posted
nothing_there posted i past = get_or_past posted i no_posted past

-- bytes of a request that is not posted are none
begun_none : (posted : List Posted) (i bytes : ℕ) → length posted ≤ i → (bytes ≡ 0) ⊎ (bytes < size_of (get_or posted i no_posted)) → bytes ≡ 0
begun_none posted i bytes past (inl z) = z
begun_none posted i bytes past (inr l) = absurd (omega (arith, l, ap size_of (nothing_there posted i past)))

known_none : (posted : List Posted) (i bytes : ℕ) → length posted ≤ i → bytes ≤ size_of (get_or posted i no_posted) → bytes ≡ 0
known_none posted i bytes past h = omega (arith, h, ap size_of (nothing_there posted i past))

pieces_push : (mtu bytes i : ℕ) (posted : List Posted) (r : Posted) → AreWholePieces mtu (get_or posted i no_posted) bytes → AreWholePieces mtu (get_or (posted ++ r ∷ []) i no_posted) bytes
pieces_push mtu bytes i posted r h = (h.0, at_place (λ x. (bytes ≡ 0) ⊎ (bytes < size_of x)) posted r i (λ l. h.1) (λ past. inl (begun_none posted i bytes past h.1)))

-- ---- an end of the machine

-- it is sound with one more request, where there is room
pub posted_sound : (q : End) (r : Posted) → q.ended ≡ false → length q.posted < q.send_depth + q.told → size_of r ≤ most_bytes → IsSound q → IsSound (posted_end q r)
unfolding in_place untold_count
posted_sound q r alive room short s =
    let more : length (q.posted ++ r ∷ []) ≡ length q.posted + 1 = length_push q.posted r in
    let told : q.told ≤ length q.posted = s.told_posted in
    let acted : q.acted ≤ length q.posted = s.acted_posted in
    record {
      acted_posted = omega (arith, more, acted);
      told_posted = omega (arith, more, told);
      told_acted = s.told_acted;
      over = λ h. absurd (cc (alive, h));
      unfinished = at_place (λ x. (q.into ≡ 0) ⊎ (q.into < size_of x)) q.posted r q.acted (λ l. s.unfinished) (λ past. inl (begun_none q.posted q.acted q.into past s.unfinished));
      whole_turns = at_place (λ x. lands (kind_of x) ≡ true → q.into ≡ 0) q.posted r q.acted (λ l. s.whole_turns) (λ past h. begun_none q.posted q.acted q.into past s.unfinished);
      known_there = λ h. at_place (λ x. lands (kind_of x) ≡ false → q.known ≤ in_place (posted_end q r) q.told) q.posted r q.told
          (λ l k. subst (λ n. q.known ≤ n) (sym (in_place_push q r q.told l)) (s.known_there h k))
          (λ past k. omega (arith, known_none q.posted q.told q.known past s.known_within));
      known_within = at_place (λ x. q.known ≤ size_of x) q.posted r q.told (λ l. s.known_within) (λ past. omega (arith, known_none q.posted q.told q.known past s.known_within));
      unlanded = at_place (λ x. lands (kind_of x) ≡ true → q.told ≡ q.acted → q.known ≡ 0) q.posted r q.told (λ l. s.unlanded) (λ past h k. known_none q.posted q.told q.known past s.known_within);
      whole_atomics = at_place (λ x. is_atomic (kind_of x) ≡ true → q.known ≡ 0) q.posted r q.told (λ l. s.whole_atomics) (λ past h. known_none q.posted q.told q.known past s.known_within);
      replies = λ i h. subst (λ x. IsReplyTo x (slice_get q.answers i)) (sym (posted-push q.posted r i (omega (arith, h, acted)))) (s.replies i h);
      answered = s.answered;
      offers = All-weaker (IsOfferOf q) (IsOfferOf (posted_end q r)) (λ o h.
          let same = sym (posted-push q.posted r o.request (omega (arith, h.acted, acted))) in
          record { acted = h.acted; reads = subst (λ x. is_read (kind_of x) ≡ true) same h.reads; inside = subst (λ x. o.offset + length o.bytes ≤ size_of x) same h.inside }) q.offers s.offers;
      sizes = λ i h. at_place (λ x. size_of x ≤ most_bytes) q.posted r i (λ l. s.sizes i l) (λ past. subst (λ x. size_of x ≤ most_bytes) (sym (get_or_at q.posted r [] no_posted i (omega (arith, past, h, more)))) short);
      depth = omega (arith, more, room);
      receive_depth = s.receive_depth;
    }
  where
    in_place_push : (e : End) (p : Posted) (i : ℕ) → i < length e.posted → in_place (posted_end e p) i ≡ in_place e i
    in_place_push e p i l = ap (λ x. if nat_lt i e.acted then size_of x else if i == e.acted then e.into else 0) (posted-push e.posted p i l)

-- ---- numbers

due_push : (q : End) (r : Posted) → q.acted ≤ length q.posted → due (posted_end q r) ≡ due q
unfolding due
due_push q r h = ap (λ k. k + q.into / q.mtu) (first-append q.posted (r ∷ []) q.mtu q.acted h)

oldest_push : (q : End) (r : Posted) → q.told ≤ length q.posted → oldest (posted_end q r) ≡ oldest q
unfolding oldest
oldest_push q r h = ap (λ k. k + q.known / q.mtu) (first-append q.posted (r ∷ []) q.mtu q.told h)

lands_push : (q : End) (r : Posted) (i : ℕ) → q.told ≤ length q.posted → i ≤ length q.posted → lands_untold_before (posted_end q r) i ≡ lands_untold_before q i
lands_push q r i told h =
    ap (λ xs. list_any (λ x. lands (kind_of x)) (take (i - q.told) xs)) (drop-append-le q.told q.posted (r ∷ []) told)
    ∙ ap (list_any (λ x. lands (kind_of x))) (take-append-le (i - q.told) (drop q.told q.posted) (r ∷ []) (omega (arith, length-drop q.told q.posted, h, told)))

-- ---- a connected end that posts, and its peer

pub posted_joined : (o : ObjName) (x y : Side) (q p : End) (r : Posted) → x.link.ended ≡ false → IsSound q → IsSayable r → end_number q.posted q.mtu + span_of r q.mtu < number_limit → IsJoined o x y q p → IsJoined o (posted_side x r) y (posted_end q r) p
posted_joined o x y q p r alive s said limit j =
    let told : q.told ≤ length q.posted = s.told_posted in
    let acted : q.acted ≤ length q.posted = s.acted_posted in
    let same_due : due (posted_end q r) ≡ due q = due_push q r acted in
    let more : end_number (q.posted ++ r ∷ []) q.mtu ≡ end_number q.posted q.mtu + span_of r q.mtu = end-push q.posted r q.mtu in
    record {
      connected = j.connected;
      back = j.back;
      apart = j.apart;
      number = j.number;
      mtu = j.mtu;
      retry = j.retry;
      rnr = j.rnr;
      terms = j.terms;
      exchanged = j.exchanged;
      in_pieces = record {
        acting = pieces_push q.mtu q.into q.acted q.posted r j.in_pieces.acting;
        telling = pieces_push q.mtu q.known q.told q.posted r j.in_pieces.telling;
        sayable = All-push IsSayable q.posted r j.in_pieces.sayable said;
        offers = j.in_pieces.offers;
        reads = λ i h read. subst IsUnwrapped (sym (posted-push q.posted r i (omega (arith, h, acted)))) (j.in_pieces.reads i h (ap (λ z. is_read (kind_of z)) (sym (posted-push q.posted r i (omega (arith, h, acted)))) ∙ read));
        old_words = j.in_pieces.old_words;
      };
      sends = λ h. let t = j.sends h in record {
        first = t.first ∙ sym (first-append q.posted (r ∷ []) q.mtu q.told told);
        una = t.una ∙ sym (oldest_push q r told);
        spent = t.spent;
        few = t.few;
        waits = t.waits;
      };
      over = λ h. absurd (cc (alive, h));
      ordered = record {
        una_next = j.ordered.una_next;
        next_top = j.ordered.next_top;
        top_end = omega (arith, j.ordered.top_end, more);
        due_top = omega (arith, j.ordered.due_top, same_due);
        reach = omega (arith, j.ordered.reach, same_due);
        limit = omega (arith, limit, more);
      };
      fenced = λ h i l fence lands'. fenced_push x y q r i told (j.fenced h) j.ordered.top_end l fence lands';
      receives = λ h. let t = j.receives h in record {
        expected = t.expected ∙ sym same_due;
        kept = t.kept ∙ sym (ap (last_of 16) (old-push q.mtu 0 q.posted r q.answers (omega (arith, t.answered, acted))));
        answered = t.answered;
      };
      idle = j.idle;
      heard_of = record { known = j.heard_of.known; address = j.heard_of.address; settled = j.heard_of.settled; paused = j.heard_of.paused; one = j.heard_of.one; limit = j.heard_of.limit };
    }
  where
    fenced_push : (x y : Side) (q : End) (r : Posted) (i : ℕ) → q.told ≤ length q.posted → IsFencedIn x.link.sender q → x.link.sender.top ≤ end_number q.posted q.mtu → i < length (q.posted ++ r ∷ []) → (get_or (q.posted ++ r ∷ []) i no_posted).request.fence ≡ true → lands_untold_before (posted_end q r) i ≡ true → x.link.sender.top ≤ first_number (q.posted ++ r ∷ []) q.mtu i
    fenced_push x y q r i told fenced top l fence lands' = by_order (nat_lt i (length q.posted)) refl
      where
        by_order : (b : Bool) → nat_lt i (length q.posted) ≡ b → x.link.sender.top ≤ first_number (q.posted ++ r ∷ []) q.mtu i
        by_order true t =
            let inside : i < length q.posted = grind (arith, nat_tests, leb_tells (suc i) (length q.posted), t) in
            omega (
              arith,
              first-append q.posted (r ∷ []) q.mtu i (omega (arith, inside)),
              fenced i inside (ap (λ z. z.request.fence) (sym (posted-push q.posted r i inside)) ∙ fence) (sym (lands_push q r i told (omega (arith, inside))) ∙ lands'),
            )
        by_order false t =
            let past : i ≡ length q.posted = grind (arith, nat_tests, leb_tells (suc i) (length q.posted), t, l, length_push q.posted r) in
            omega (arith, top, first-append q.posted (r ∷ []) q.mtu i (omega (arith, past)), ap (first_number q.posted q.mtu) past, first-end q.posted q.mtu)

pub peer_joined : (k : ObjName) (z x : Side) (e q : End) (r : Posted) → IsJoined k z x e q → IsJoined k z (posted_side x r) e (posted_end q r)
peer_joined k z x e q r j = record {
  connected = j.connected;
  back = j.back;
  apart = j.apart;
  number = j.number;
  mtu = j.mtu;
  retry = j.retry;
  rnr = j.rnr;
  terms = j.terms;
  exchanged = j.exchanged;
  in_pieces = j.in_pieces;
  sends = j.sends;
  over = j.over;
  ordered = j.ordered;
  fenced = j.fenced;
  receives = j.receives;
  idle = j.idle;
  heard_of = record { known = j.heard_of.known; address = j.heard_of.address; settled = j.heard_of.settled; paused = j.heard_of.paused; one = j.heard_of.one; limit = j.heard_of.limit };
}

-- ---- messages in progress

-- what is begun is posted
begun_posted : (q : End) → IsSound q → 0 < q.into → q.acted < length q.posted
begun_posted q s begun = by_order (nat_lt q.acted (length q.posted)) refl
  where
    by_order : (b : Bool) → nat_lt q.acted (length q.posted) ≡ b → q.acted < length q.posted
    by_order true t = grind (arith, nat_tests, leb_tells (suc q.acted) (length q.posted), t)
    by_order false t = absurd (omega (arith, begun, begun_none q.posted q.acted q.into (grind (arith, nat_tests, leb_tells (suc q.acted) (length q.posted), t)) s.unfinished))

current_push : (q : End) (r : Posted) → IsSound q → 0 < q.into → current (posted_end q r) ≡ current q
current_push q r s begun = posted-push q.posted r q.acted (begun_posted q s begun)

got_inside : {A : Type 0} (xs : List A) (i : ℕ) (x : A) → slice_get xs i ≡ Some x → i < length xs
got_inside [] i x h = absurd (cc)
got_inside (y ∷ xs) zero x h = omega arith
got_inside (y ∷ xs) (suc i) x h = omega (arith, got_inside xs i x h)

pub progress_posted : (q : End) (r : Posted) (domain : Name) (regions : List Region) (p : Progress) → IsSound q → IsProgress q domain regions p → IsProgress (posted_end q r) domain regions p
progress_posted q r domain regions NoMessage s h = h
progress_posted q r domain regions (InSend bytes receive) s h = (h.0, h.1, subst (λ x. is_send (kind_of x) ≡ true) (sym (current_push q r s (omega (arith, h.0, h.1)))) h.2, h.3)
progress_posted q r domain regions (InWrite region off count bytes) s h =
    let same = sym (current_push q r s (omega (arith, h.0, h.1))) in
    (h.0, h.1, subst (λ x. is_write (kind_of x) ≡ true) same h.2, subst (λ x. count ≡ size_of x) same h.3, subst (λ x. is_granted_in domain regions x ≡ true) same h.4, subst (IsWriting regions region off) same h.5)

-- ---- husks

pub left_own : (x : Side) (e p : End) (h : HuskEntry) (r : Posted) → IsLeft x e p h → IsLeft (posted_side x r) (posted_end e r) p h
left_own x e p h r l = record { connected = l.connected; number = l.number; peer = l.peer; count = l.count }

pub left_peer : (x : Side) (e p : End) (h : HuskEntry) (r : Posted) → IsLeft x e p h → IsLeft x e (posted_end p r) h
left_peer x e p h r l = record { connected = l.connected; number = l.number; peer = l.peer; count = l.count }

-- ---- datagrams to the end

request_kept : (q : End) (r : Posted) (n : ℕ) → request_of q.posted q.mtu n < length q.posted → request_of (q.posted ++ r ∷ []) q.mtu n ≡ request_of q.posted q.mtu n
request_kept q r n l = request-push q.posted r q.mtu n (omega (arith, request-inside q.posted q.mtu n l))

for_kept : (q : End) (r : Posted) (n : ℕ) → request_of q.posted q.mtu n < length q.posted → request_for (posted_end q r) n ≡ request_for q n
for_kept q r n l = ap (λ i. get_or (q.posted ++ r ∷ []) i no_posted) (request_kept q r n l) ∙ posted-push q.posted r (request_of q.posted q.mtu n) l

offered_kept : (q : End) (r : Posted) (n : ℕ) (bytes : List ℕ) → IsSound q → IsOffered q n bytes → IsOffered (posted_end q r) n bytes
offered_kept q r n bytes s h =
    let inside : request_of q.posted q.mtu n < length q.posted = omega (arith, h.acted, s.acted_posted) in
    let same = sym (request_kept q r n inside) in
    let piece = sym (piece-push q.posted r q.mtu n (request-inside q.posted q.mtu n inside)) in
    record {
      acted = subst (λ i. i < q.acted) same h.acted;
      is_read = subst (λ x. is_read (kind_of x) ≡ true) (sym (for_kept q r n inside)) h.is_read;
      offer = subst (λ i. Contains q.offers (record { request = i; offset = piece_of (q.posted ++ r ∷ []) q.mtu n * q.mtu; bytes = bytes })) same
          (subst (λ k. Contains q.offers (record { request = request_of q.posted q.mtu n; offset = k * q.mtu; bytes = bytes })) piece h.offer);
    }

old_inside : (answers : List Reply) (acted i value : ℕ) → (length answers ≡ acted) ⊎ ((length answers ≡ suc acted) × IsDenial (slice_get answers acted)) → slice_get answers i ≡ Some (OldValue value) → i < acted
old_inside answers acted i value h is =
    let inside : i < length answers = got_inside answers i (OldValue value) is in
    elim h [
      | inl e ↦ omega (arith, e, inside)
      | inr d ↦ elim (eqb_tells i acted) [
        | inl t ↦ absurd (subst IsDenial (ap (slice_get answers) (sym t.1) ∙ is) d.1)
        | inr t ↦ omega (arith, d.0, inside, t.1)
      ]
    ]

old_kept : (q : End) (r : Posted) (n : ℕ) (old : Option ℕ) → IsSound q → IsOld q n old → IsOld (posted_end q r) n old
old_kept q r n old s h =
    let inside : request_of q.posted q.mtu n < length q.posted = omega (arith, old_inside q.answers q.acted _ h.value s.answered h.answer, s.acted_posted) in
    let same = sym (request_kept q r n inside) in
    record {
      value = h.value;
      says = h.says;
      first = subst (λ i. n ≡ first_number (q.posted ++ r ∷ []) q.mtu i) same (h.first ∙ sym (first-append q.posted (r ∷ []) q.mtu (request_of q.posted q.mtu n) (omega (arith, inside))));
      answer = subst (λ i. slice_get q.answers i ≡ Some (OldValue h.value)) same h.answer;
    }

-- what is said to the end p, which posts
pub numbered_to : (p x : Side) (e g : End) (n : ℕ) (d : Packet) (r : Posted) → IsSound e → due e ≤ end_number e.posted e.mtu → (c : Class) → NumberedFact p x e g n d c → NumberedFact (posted_side p r) x (posted_end e r) g n d c
numbered_to p x e g n d r s within IsRequest h = h
numbered_to p x e g n d r s within IsReadResponse h = (h.0, offered_kept e r n d.payload s h.1)
numbered_to p x e g n d r s within IsAtomicResponse h = (h.0, old_kept e r n d.old s h.1)
numbered_to p x e g n d r s within IsAck h = (h.0, omega (arith, h.1, due_push e r s.acted_posted))
numbered_to p x e g n d r s within IsSequenceNak h = (h.0, omega (arith, h.1, due_push e r s.acted_posted))
numbered_to p x e g n d r s within (IsRefusal is_access) h = (h.0, record { due = h.1.due ∙ sym (due_push e r s.acted_posted); why = h.1.why; answer = h.1.answer; matches = h.1.matches })
numbered_to p x e g n d r s within IsReceiverNotReady h = (
  h.0,
  record {
    due = omega (arith, h.1.due, due_push e r s.acted_posted);
    dry = subst (Contains e.dry) (sym (request-push e.posted r e.mtu n (omega (arith, h.1.due, within)))) h.1.dry;
  },
)
numbered_to p x e g n d r s within (IsStopped count) h = h
numbered_to p x e g n d r s within (IsResume body) h = h
numbered_to p x e g n d r s within (IsResumeAck body) h = h
numbered_to p x e g n d r s within IsNothing h = h

-- ---- datagrams of the end

past_push : (q : End) (r : Posted) (n : ℕ) → request_of q.posted q.mtu n < length q.posted → past_packet (posted_end q r) n ≡ past_packet q n
past_push q r n l =
    ap (λ x. if is_read (kind_of x) then first_number (q.posted ++ r ∷ []) q.mtu (suc (request_of (q.posted ++ r ∷ []) q.mtu n)) else suc n) (for_kept q r n l)
    ∙ ap (λ k. if is_read (kind_of (request_for q n)) then k else suc n) (ap (λ i. first_number (q.posted ++ r ∷ []) q.mtu (suc i)) (request_kept q r n l) ∙ first-append q.posted (r ∷ []) q.mtu (suc (request_of q.posted q.mtu n)) l)

request_packet : (l : Link) (g : End) (n : ℕ) (d : Packet) (r : Posted) → g.told ≤ length g.posted → l.terms.mtu ≡ g.mtu → IsRequestOf l g n d → IsRequestOf (record l { sender = posted_sender l.sender r }) (posted_end g r) n d
unfolding packet_at
request_packet l g n d r told mtu h = by_piece (piece_at g.posted l.terms.mtu (n - 0)) refl
  where
    by_piece : (x : Option Piece) → piece_at g.posted l.terms.mtu (n - 0) ≡ x → IsRequestOf (record l { sender = posted_sender l.sender r }) (posted_end g r) n d
    by_piece None t = absurd (cc (ap (λ z. packet_of_found z l.terms.mtu l.peer (wire_number l.terms.own_start n)) t, h.packet))
    by_piece (Some x) t =
        let inside : n < end_number g.posted g.mtu = subst (λ k. n < end_number g.posted k) mtu (omega (arith, piece-found g.posted l.terms.mtu (n - 0) x t)) in
        let posted : request_of g.posted g.mtu n < length g.posted = inside-request g.posted g.mtu n inside in
        record {
          packet = ap (λ z. packet_of_found z l.terms.mtu l.peer (wire_number l.terms.own_start n)) (piece_at-push g.posted r l.terms.mtu (n - 0) x t ∙ sym t) ∙ h.packet;
          below_top = subst (λ k. k ≤ l.sender.top) (sym (past_push g r n posted)) h.below_top;
          fenced = λ f.
              ap (lands_untold_before (posted_end g r)) (request_kept g r n posted)
              ∙ (lands_push g r (request_of g.posted g.mtu n) told (omega (arith, posted))
              ∙ h.fenced (ap (λ z. z.request.fence) (sym (for_kept g r n posted)) ∙ f));
        }

-- what the end x says, which posts
pub numbered_from : (p x : Side) (e g : End) (n : ℕ) (d : Packet) (r : Posted) → g.told ≤ length g.posted → x.link.terms.mtu ≡ g.mtu → (c : Class) → NumberedFact p x e g n d c → NumberedFact p (posted_side x r) e (posted_end g r) n d c
numbered_from p x e g n d r told mtu IsRequest h = request_packet x.link g n d r told mtu h
numbered_from p x e g n d r told mtu IsReadResponse h = h
numbered_from p x e g n d r told mtu IsAtomicResponse h = h
numbered_from p x e g n d r told mtu IsAck h = h
numbered_from p x e g n d r told mtu IsSequenceNak h = h
numbered_from p x e g n d r told mtu (IsRefusal is_access) h = h
numbered_from p x e g n d r told mtu IsReceiverNotReady h = h
numbered_from p x e g n d r told mtu (IsStopped count) h = h
numbered_from p x e g n d r told mtu (IsResume body) h = h
numbered_from p x e g n d r told mtu (IsResumeAck body) h = h
numbered_from p x e g n d r told mtu IsNothing h = h

move_from : (x : Side) (r : Posted) (c : Class) → MoveFact x c → MoveFact (posted_side x r) c
move_from x r IsRequest h = h
move_from x r IsReadResponse h = h
move_from x r IsAtomicResponse h = h
move_from x r IsAck h = h
move_from x r IsSequenceNak h = h
move_from x r (IsRefusal is_access) h = h
move_from x r IsReceiverNotReady h = h
move_from x r (IsStopped count) h = h
move_from x r (IsResume body) h = h
move_from x r (IsResumeAck body) h = h
move_from x r IsNothing h = h

class_to : (p x : Side) (e g : End) (n : Option ℕ) (d : Packet) (r : Posted) → IsSound e → due e ≤ end_number e.posted e.mtu → ClassFact p x e g n d → ClassFact (posted_side p r) x (posted_end e r) g n d
class_to p x e g None d r s within h = h
class_to p x e g (Some n) d r s within h = numbered_to p x e g n d r s within (class_of d) h

class_from : (p x : Side) (e g : End) (n : Option ℕ) (d : Packet) (r : Posted) → g.told ≤ length g.posted → x.link.terms.mtu ≡ g.mtu → ClassFact p x e g n d → ClassFact p (posted_side x r) e (posted_end g r) n d
class_from p x e g None d r told mtu h = move_from x r (class_of d) h
class_from p x e g (Some n) d r told mtu h = numbered_from p x e g n d r told mtu (class_of d) h

pub fact_to : (p x : Side) (e g : End) (n : Option ℕ) (bytes : List ℕ) (d : Packet) (r : Posted) → IsSound e → due e ≤ end_number e.posted e.mtu → PacketFact p x e g n bytes d → PacketFact (posted_side p r) x (posted_end e r) g n bytes d
fact_to p x e g n bytes d r s within f = record { spelled = f.spelled; connected = f.connected; dest = f.dest; fact = class_to p x e g n d r s within f.fact }

pub fact_from : (p x : Side) (e g : End) (n : Option ℕ) (bytes : List ℕ) (d : Packet) (r : Posted) → g.told ≤ length g.posted → x.link.terms.mtu ≡ g.mtu → PacketFact p x e g n bytes d → PacketFact p (posted_side x r) e (posted_end g r) n bytes d
fact_from p x e g n bytes d r told mtu f = record { spelled = f.spelled; connected = f.connected; dest = f.dest; fact = class_from p x e g n d r told mtu f.fact }
