-- A requester sends a piece: its numbers stay in order, the fence holds, and the packet is the machine's.
use Rattle.std.proofs.Common.{arith, ◌≡◌, ◌≤◌, ◌<◌, ◌+◌, ◌-◌, ◌/◌, ◌^◌, ◌||◌, ℕ, suc, List, ◌∷◌, length, get_or, true, false, Bool, refl, sym, ap, ◌∙◌, subst, inl, inr}
use Rattle.std.specs.Prelude.{Option, Some, None, not, max, drop, nat_lt, nat_le, ◌==◌, ◌&&◌, if◌then◌else◌}
use Rattle.std.proofs.lemmas.Bool.Decides.{nat_tests, leb_tells, eqb_tells}
use Rattle.rdma_types.specs.Kinds.{is_read, kind_of}
use Rattle.rdma_types.specs.Limits.{is_mtu}
use Rattle.rdma_types.specs.Objects.{Posted, no_posted}
use Rattle.rdma_types.specs.Spans.{Piece, piece_at, span_of, first_number, end_number, next_landing, request_of}
use Rattle.protocol.specs.EndWords.{is_paused, is_resuming}
use Rattle.protocol.specs.Numbers.{wire_number}
use Rattle.protocol.specs.State.{Link, Sender}
use Rattle.protocol.specs.Segments.{packet_at, packet_of_found, packet_of_piece}
use Rattle.protocol.specs.Requester.{SendsResume, Waits, IsIdle, WindowIsFull, ReadsAreFull, IsFenced, Sends, transmission, next_transmission, barrier, going_to, past}
use Rattle.packetless_machine.specs.Machine.{End}
use Rattle.packetless_machine.specs.Numbers.{due, oldest}
use Rattle.packetless_machine.specs.Sound.{IsSound}
use Rattle.law_simulation.specs.Facts.{IsRequestOf, past_packet, request_for}
use Rattle.law_simulation.specs.Joined as joined
use Rattle.law_simulation.specs.Joined.{IsOrdered, IsFencedIn, AreWholePieces, lands_untold_before}
use Rattle.law_simulation.proofs.relation.Numbers.{first-end}
use Rattle.law_simulation.proofs.sending.GoNumbers.{first_mono}
use Rattle.law_simulation.proofs.sending.GoPieces.{IsPieceAt, piece_is, piece_at-drop, first_less, first-drop, lands_before_next, known_within, head_dropped}

-- ---- what a row of the table says

-- the end is in Rts, the piece is that of `next`, and no fence holds it
pub record IsSending (l : Link) (x : Piece) : Type 0 where
  pub alive : l.ended ≡ false
  pub found : piece_at l.sender.untold l.terms.mtu (l.sender.next - l.sender.first) ≡ Some x
  pub clear : (x.posted.request.fence && (x.k == 0 && nat_lt (barrier l.terms l.sender) l.sender.next)) ≡ false

left_false : (a b : Bool) → (a || b) ≡ false → (a ≡ false) × (b ≡ false)
left_false true b h = absurd (cc)
left_false false b h = (refl, h)

by_piece : (l : Link) (x : Piece) (o : Option Piece) → next_transmission l.terms l.sender o ≡ Sends x → (o ≡ Some x) × ((x.posted.request.fence && (x.k == 0 && nat_lt (barrier l.terms l.sender) l.sender.next)) ≡ false)
unfolding next_transmission
by_piece l x None h = absurd (cc)
by_piece l x (Some z) h = by_tests _ (z.posted.request.fence && (z.k == 0 && nat_lt (barrier l.terms l.sender) l.sender.next)) refl h
  where
    by_tests : (a b : Bool) → (z.posted.request.fence && (z.k == 0 && nat_lt (barrier l.terms l.sender) l.sender.next)) ≡ b → (if a then ReadsAreFull else if b then IsFenced else Sends z) ≡ Sends x → (Some z ≡ Some x) × ((x.posted.request.fence && (x.k == 0 && nat_lt (barrier l.terms l.sender) l.sender.next)) ≡ false)
    by_tests true b t h = absurd (cc)
    by_tests false true t h = absurd (cc)
    by_tests false false t h =
        let same : z ≡ x = cc in
        (ap Some same, ap (λ y. y.posted.request.fence && (y.k == 0 && nat_lt (barrier l.terms l.sender) l.sender.next)) (sym same) ∙ t)

pub sends_is : (l : Link) (x : Piece) → transmission l ≡ Sends x → IsSending l x
unfolding transmission
sends_is l x h = by_tests (not l.ended && is_resuming l.moving.phase) (is_paused l.moving.phase || (l.ended || l.sender.rnr_wait)) _ _ refl h
  where
    by_tests : (a b c d : Bool) → (is_paused l.moving.phase || (l.ended || l.sender.rnr_wait)) ≡ b → (if a then SendsResume else if b then Waits else if c then IsIdle else if d then WindowIsFull else next_transmission l.terms l.sender (piece_at l.sender.untold l.terms.mtu (l.sender.next - l.sender.first))) ≡ Sends x → IsSending l x
    by_tests true b c d t h = absurd (cc)
    by_tests false true c d t h = absurd (cc)
    by_tests false false true d t h = absurd (cc)
    by_tests false false false true t h = absurd (cc)
    by_tests false false false false t h =
        let by = by_piece l x _ h in
        record { alive = (left_false _ _ (left_false _ _ t).1).0; found = by.0; clear = by.1 }

next_never : (l : Link) (o : Option Piece) → next_transmission l.terms l.sender o ≡ SendsResume → ⊥
unfolding next_transmission
next_never l None h = cc
next_never l (Some z) h = by_tests _ _ h
  where
    by_tests : (a b : Bool) → (if a then ReadsAreFull else if b then IsFenced else Sends z) ≡ SendsResume → ⊥
    by_tests true b h = cc
    by_tests false true h = cc
    by_tests false false h = cc

pub resumes_is : (l : Link) → transmission l ≡ SendsResume → l.ended ≡ false
unfolding transmission
resumes_is l h = by_tests l.ended (is_resuming l.moving.phase) _ _ _ refl h
  where
    by_tests : (e a b c d : Bool) → l.ended ≡ e → (if not e && a then SendsResume else if b then Waits else if c then IsIdle else if d then WindowIsFull else next_transmission l.terms l.sender (piece_at l.sender.untold l.terms.mtu (l.sender.next - l.sender.first))) ≡ SendsResume → l.ended ≡ false
    by_tests false a b c d t h = t
    by_tests true a true c d t h = absurd (cc)
    by_tests true a false true d t h = absurd (cc)
    by_tests true a false false true t h = absurd (cc)
    by_tests true a false false false t h = absurd (next_never l _ h)

-- ---- the piece that is sent

less_than : (a b : ℕ) → nat_lt a b ≡ true → a < b
less_than a b h = grind (arith, nat_tests, leb_tells (suc a) b)

less_tells : (a b : ℕ) → a < b → nat_lt a b ≡ true
less_tells a b h = grind (arith, nat_tests, leb_tells (suc a) b)

-- a requester of the machine's end q, where the next piece is x
module _ (l : Link) (q : End) (x : Piece) (sound : IsSound q) (mtu : is_mtu q.mtu ≡ true) (same_mtu : l.terms.mtu ≡ q.mtu) (rest : l.sender.untold ≡ drop q.told q.posted) (telling : AreWholePieces q.mtu (get_or q.posted q.told no_posted) q.known)
    (sends : joined.Sends l.sender q) (ordered : IsOrdered l.sender q) (fenced : IsFencedIn l.sender q) (reach : end_number q.posted q.mtu ≤ due q + 2 ^ 20) (s : IsSending l x) where
  first_una : l.sender.first ≤ l.sender.una
  unfolding oldest
  first_una = omega (arith, sends.first, sends.una)

  pub found_all : piece_at q.posted q.mtu l.sender.next ≡ Some x
  found_all =
      let here : l.sender.next ≡ first_number q.posted q.mtu q.told + (l.sender.next - l.sender.first) = omega (arith, sends.first, first_una, ordered.una_next) in
      ap (piece_at q.posted q.mtu) here
      ∙ (piece_at-drop q.posted q.mtu q.told (l.sender.next - l.sender.first)
      ∙ (ap (λ us. piece_at us q.mtu (l.sender.next - l.sender.first)) (sym rest)
      ∙ (ap (λ k. piece_at l.sender.untold k (l.sender.next - l.sender.first)) (sym same_mtu) ∙ s.found)))

  place : (i : ℕ) × IsPieceAt q.posted q.mtu l.sender.next i x
  place = piece_is q.posted q.mtu l.sender.next x found_all

  told_before : q.told ≤ place.0
  told_before = by_order (nat_le q.told place.0) refl
    where
      by_order : (b : Bool) → nat_le q.told place.0 ≡ b → q.told ≤ place.0
      by_order true t = grind (arith, nat_tests, leb_tells q.told place.0, t)
      by_order false t =
          let less : suc place.0 ≤ q.told = grind (arith, nat_tests, leb_tells q.told place.0, t) in
          absurd (omega (arith, first_mono q.posted q.mtu (suc place.0) q.told less, place.1.first, place.1.within, place.1.next, sends.first, first_una, ordered.una_next))

  -- where an earlier request that is not told lands, the barrier comes first
  barrier_before : lands_untold_before q place.0 ≡ true → barrier l.terms l.sender < first_number q.posted q.mtu place.0
  unfolding barrier oldest
  barrier_before h =
      let at : l.sender.una - l.sender.first ≡ q.known / q.mtu = omega (arith, sends.first, sends.una) in
      let inside : (p : Posted) (ps : List Posted) → drop q.told q.posted ≡ p ∷ ps → q.known / q.mtu < span_of p q.mtu =
      λ p ps e. subst (λ r. q.known / q.mtu < span_of r q.mtu) (head_dropped q.posted q.told p ps e) (known_within (get_or q.posted q.told no_posted) q.mtu q.known mtu sound.whole_atomics telling.1) in
      let before : next_landing (drop q.told q.posted) q.mtu (q.known / q.mtu) < first_number (drop q.told q.posted) q.mtu (place.0 - q.told) = lands_before_next (drop q.told q.posted) q.mtu (q.known / q.mtu) (place.0 - q.told) inside h in
      let is : next_landing l.sender.untold l.terms.mtu (l.sender.una - l.sender.first) ≡ next_landing (drop q.told q.posted) q.mtu (q.known / q.mtu) =
      ap (λ us. next_landing us l.terms.mtu (l.sender.una - l.sender.first)) rest
      ∙ (ap (λ k. next_landing (drop q.told q.posted) k (l.sender.una - l.sender.first)) same_mtu
      ∙ ap (next_landing (drop q.told q.posted) q.mtu) at) in
      omega (arith, before, is, sends.first, first-drop q.posted q.mtu q.told place.0 told_before)

  -- a fenced piece has no earlier request that is not told and lands
  open_fence : x.posted.request.fence ≡ true → lands_untold_before q place.0 ≡ false
  open_fence fence = by_test (lands_untold_before q place.0) refl
    where
      by_test : (b : Bool) → lands_untold_before q place.0 ≡ b → lands_untold_before q place.0 ≡ false
      by_test false t = t
      by_test true t = elim (eqb_tells x.k 0) [
        | inl z ↦ absurd (cc (
          s.clear,
          ap (λ a. a && (x.k == 0 && nat_lt (barrier l.terms l.sender) l.sender.next)) fence,
          ap (λ a. a && nat_lt (barrier l.terms l.sender) l.sender.next) z.0,
          less_tells (barrier l.terms l.sender) l.sender.next (omega (arith, barrier_before t, place.1.first, z.1)),
        ))
        | inr z ↦ absurd (omega (arith, fenced place.0 place.1.inside (ap (λ r. r.request.fence) place.1.posted_is ∙ fence) t, place.1.first, z.1, ordered.next_top))
      ]

  -- one past the packet
  past_is : past l.terms l.sender.next x ≡ (if is_read (kind_of x.posted) then first_number q.posted q.mtu (suc place.0) else suc l.sender.next)
  past_is = by_kind (is_read (kind_of x.posted))
    where
      by_kind : (b : Bool) → (if b then (l.sender.next - x.k) + span_of x.posted l.terms.mtu else l.sender.next + 1) ≡ (if b then first_number q.posted q.mtu (suc place.0) else suc l.sender.next)
      by_kind true = omega (arith, place.1.first, place.1.next, ap (span_of x.posted) same_mtu)
      by_kind false = omega arith

  past_next : l.sender.next < (if is_read (kind_of x.posted) then first_number q.posted q.mtu (suc place.0) else suc l.sender.next)
  past_next = by_kind (is_read (kind_of x.posted))
    where
      by_kind : (b : Bool) → l.sender.next < (if b then first_number q.posted q.mtu (suc place.0) else suc l.sender.next)
      by_kind true = omega (arith, place.1.first, place.1.next, place.1.within)
      by_kind false = omega arith

  past_request : (if is_read (kind_of x.posted) then first_number q.posted q.mtu (suc place.0) else suc l.sender.next) ≤ first_number q.posted q.mtu (suc place.0)
  past_request = by_kind (is_read (kind_of x.posted))
    where
      by_kind : (b : Bool) → (if b then first_number q.posted q.mtu (suc place.0) else suc l.sender.next) ≤ first_number q.posted q.mtu (suc place.0)
      by_kind true = omega arith
      by_kind false = omega (arith, place.1.first, place.1.next, place.1.within)

  within_all : first_number q.posted q.mtu (suc place.0) ≤ end_number q.posted q.mtu
  within_all = omega (arith, first_mono q.posted q.mtu (suc place.0) (length q.posted) place.1.inside, first-end q.posted q.mtu)

  abbrev after : Sender
  after = going_to l.sender (past l.terms l.sender.next x)

  pub ordered_after : IsOrdered after q
  ordered_after = record {
    una_next = omega (arith, ordered.una_next, past_next, past_is);
    next_top = omega arith;
    top_end = omega (arith, ordered.top_end, past_is, past_request, within_all);
    due_top = omega (arith, ordered.due_top);
    reach = omega (arith, ordered.top_end, past_is, past_request, within_all, reach);
    limit = ordered.limit;
  }

  pub fenced_after : IsFencedIn after q
  fenced_after i inside fence lands' = by_order (nat_le (past l.terms l.sender.next x) (first_number q.posted q.mtu i)) refl
    where
      top : l.sender.top ≤ first_number q.posted q.mtu i
      top = fenced i inside fence lands'

      no_later : first_number q.posted q.mtu i < first_number q.posted q.mtu (suc place.0) → i ≤ place.0
      no_later below = by_less (nat_le i place.0) refl
        where
          by_less : (b : Bool) → nat_le i place.0 ≡ b → i ≤ place.0
          by_less true t = grind (arith, nat_tests, leb_tells i place.0, t)
          by_less false t =
              let over : suc place.0 ≤ i = grind (arith, nat_tests, leb_tells i place.0, t) in
              absurd (omega (arith, below, first_mono q.posted q.mtu (suc place.0) i over))

      by_order : (b : Bool) → nat_le (past l.terms l.sender.next x) (first_number q.posted q.mtu i) ≡ b → max l.sender.top (past l.terms l.sender.next x) ≤ first_number q.posted q.mtu i
      by_order true t = let under : past l.terms l.sender.next x ≤ first_number q.posted q.mtu i = grind (arith, nat_tests, leb_tells (past l.terms l.sender.next x) (first_number q.posted q.mtu i), t) in omega (arith, top, under)
      by_order false t =
          let over : first_number q.posted q.mtu i < past l.terms l.sender.next x = grind (arith, nat_tests, leb_tells (past l.terms l.sender.next x) (first_number q.posted q.mtu i), t) in
          let no_more : i ≤ place.0 = no_later (omega (arith, over, past_is, past_request)) in
          elim (eqb_tells i place.0) [
            | inl e ↦ absurd (cc (open_fence (ap (λ r. r.request.fence) (sym place.1.posted_is) ∙ (ap (λ k. (get_or q.posted k no_posted).request.fence) (sym e.1) ∙ fence)), ap (lands_untold_before q) (sym e.1) ∙ lands'))
            | inr e ↦
                let less : suc i ≤ place.0 = omega (arith, no_more, e.1) in
                absurd (omega (arith, first_mono q.posted q.mtu (suc i) place.0 less, first_less q.posted q.mtu i inside, place.1.first, ordered.next_top, top))
          ]

  request_is : request_for q l.sender.next ≡ x.posted
  request_is = ap (λ i. get_or q.posted i no_posted) place.1.at ∙ place.1.posted_is

  past_same : past_packet q l.sender.next ≡ past l.terms l.sender.next x
  past_same =
      ap (λ r. if is_read (kind_of r) then first_number q.posted q.mtu (suc (request_of q.posted q.mtu l.sender.next)) else suc l.sender.next) request_is
      ∙ (ap (λ i. if is_read (kind_of x.posted) then first_number q.posted q.mtu (suc i) else suc l.sender.next) place.1.at ∙ sym past_is)

  -- the piece is of a request that was posted
  pub piece_posted : (i : ℕ) × (i < length q.posted) × (get_or q.posted i no_posted ≡ x.posted)
  piece_posted = (place.0, place.1.inside, place.1.posted_is)

  pub request_after : IsRequestOf (record l { sender = after }) q l.sender.next (packet_of_piece x.posted l.terms.mtu x.k l.peer (wire_number l.terms.own_start l.sender.next))
  unfolding packet_at
  request_after =
      let whole : l.sender.next - 0 ≡ l.sender.next = omega arith in
      record {
        packet = ap (λ k. packet_of_found (piece_at q.posted l.terms.mtu k) l.terms.mtu l.peer (wire_number l.terms.own_start l.sender.next)) whole
            ∙ ap (λ z. packet_of_found z l.terms.mtu l.peer (wire_number l.terms.own_start l.sender.next)) (ap (λ k. piece_at q.posted k l.sender.next) same_mtu ∙ found_all);
        below_top = omega (arith, past_same);
        fenced = λ f. ap (lands_untold_before q) place.1.at ∙ open_fence (ap (λ r. r.request.fence) (sym request_is) ∙ f);
      }
