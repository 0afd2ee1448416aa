-- What a connected end transmits.
use Rattle.std.proofs.Common.{◌≡◌, true, false, List, refl, ap, sym, ◌∙◌, subst}
use Rattle.std.specs.Prelude.{All}
use Rattle.rdma_types.specs.declared.names.Name.{Name}
use Rattle.page_pool.specs.Pool.{Pool}
use Rattle.memory_keys.specs.declared.RegisteredRegion.{RegisteredRegion}
use Rattle.transport.specs.declared.move_core.Phase.TheVariants as phase
use Rattle.transport.specs.Table.{phase_of}
use Rattle.protocol.specs.EndWords.{with_sender}
use Rattle.protocol.specs.Requester as rows
use Rattle.protocol.specs.Requester.{Transmission, Sends, SendsResume, transmission, transmitted}
use Rattle.protocol.specs.State as moves
use Rattle.protocol.specs.State.{Link, Running, Paused, Resuming}
use Rattle.requester.specs.declared.answers.Transmit.{Transmit}
use Rattle.requester.specs.declared.answers.Transmit.TheVariants.{Sent, Idle, WindowFull, ReadsFull, Fenced, Waiting}
use Rattle.requester.specs.Sending.{Sending, sender_in, sender_of}
use Rattle.requester.specs.Transmitting.{IsHeadOf, after_row, next_row, row_said}
use Rattle.requester.proofs.Rows.{transmission_is}
use Rattle.endpoint_core.specs.declared.answers.EndSend.TheVariants as send
use Rattle.endpoint_core.specs.declared.end.EndLink.{EndLink}
use Rattle.endpoint_core.specs.Answers.{IsPacketOf, link_after_row}
use Rattle.endpoint_core.specs.Ends.{link_in}
use Rattle.endpoint_core.specs.Sound.{IsPosted}
use Rattle.endpoint_core.proofs.Rows.{after-row, index-within, is-packet, row-said}

pub ended-waits : (l : Link) → l.ended ≡ true → transmission l ≡ rows.Waits
unfolding transmission
ended-waits l is = by_phase l.moving.phase refl
  where
    by_phase : (p : moves.Phase) → l.moving.phase ≡ p → transmission l ≡ rows.Waits
    by_phase Running e = rw (is, e) refl
    by_phase Paused e = rw (is, e) refl
    by_phase Resuming e = rw (is, e) refl

pub paused-waits : (pool : Pool) (l : EndLink) → l.ended ≡ false → l.moves.phase ≡ phase.Paused → transmission (link_in pool l) ≡ rows.Waits
unfolding transmission
paused-waits pool l ended is = rw (ended, is) refl

pub resumes : (pool : Pool) (l : EndLink) → l.ended ≡ false → l.moves.phase ≡ phase.Resuming → transmission (link_in pool l) ≡ SendsResume
unfolding transmission
resumes pool l ended is = rw (ended, is) refl

runs : (pool : Pool) (l : EndLink) → l.ended ≡ false → l.moves.phase ≡ phase.Running → transmission (link_in pool l) ≡ next_row l.terms (sender_in pool l.requester)
runs pool l ended is = transmission_is (link_in pool l) ended (ap phase_of is)

pub row-running : (pool : Pool) (l : EndLink) (r : Transmit) → l.ended ≡ false → l.moves.phase ≡ phase.Running → l.requester.terms ≡ l.terms
    → row_said l.requester.terms (sender_of l.requester) r ≡ next_row l.requester.terms (sender_of l.requester) → IsHeadOf l.requester.terms (sender_of l.requester) r
    → transmission (link_in pool l) ≡ row_said l.terms (sender_in pool l.requester) r
row-running pool l r ended is same row head =
    runs pool l ended is
    ∙ row-said l.terms pool l.requester r
    (subst (λ t. row_said t (sender_of l.requester) r ≡ next_row t (sender_of l.requester)) same row)
    (subst (λ t. IsHeadOf t (sender_of l.requester) r) same head)

pub packet-is : (pool : Pool) (held : List RegisteredRegion) (domain : Name) (l : EndLink) (r : Transmit) → l.requester.terms ≡ l.terms → All (IsPosted pool held domain) l.requester.items
    → row_said l.requester.terms (sender_of l.requester) r ≡ next_row l.requester.terms (sender_of l.requester) → IsHeadOf l.requester.terms (sender_of l.requester) r
    → IsPacketOf pool l (send.Transmit r)
packet-is pool held domain l (Sent number index head) same all row is =
    let row' = subst (λ t. row_said t (sender_of l.requester) (Sent number index head) ≡ next_row t (sender_of l.requester)) same row in
    let is' = subst (λ t. IsHeadOf t (sender_of l.requester) (Sent number index head)) same is in
    record {
      number_is_next = is'.0;
      there = index-within l.terms l.requester number index row' is'.1;
      packet = is-packet pool held domain l.terms l.requester number index head row' is' all;
    }
packet-is pool held domain l Idle same all row is = tt
packet-is pool held domain l WindowFull same all row is = tt
packet-is pool held domain l ReadsFull same all row is = tt
packet-is pool held domain l Fenced same all row is = tt
packet-is pool held domain l Waiting same all row is = tt

after-link : (l : Link) (row : Transmission) → link_after_row l row ≡ with_sender l (after_row l.terms l.sender row)
unfolding transmitted with_sender
after-link l (Sends x) = refl
after-link l SendsResume = refl
after-link l rows.Waits = refl
after-link l rows.IsIdle = refl
after-link l rows.WindowIsFull = refl
after-link l rows.ReadsAreFull = refl
after-link l rows.IsFenced = refl

pub sent-running : (pool : Pool) (l : EndLink) (new : Sending) → l.ended ≡ false → l.moves.phase ≡ phase.Running → l.requester.terms ≡ l.terms
    → sender_of new ≡ after_row l.requester.terms (sender_of l.requester) (next_row l.requester.terms (sender_of l.requester)) → new.items ≡ l.requester.items
    → link_after_row (link_in pool l) (transmission (link_in pool l)) ≡ link_in pool (record l { requester = new })
unfolding with_sender
sent-running pool l new ended is same numbers items =
    let numbers' : sender_of new ≡ after_row l.terms (sender_of l.requester) (next_row l.terms (sender_of l.requester)) =
    numbers ∙ ap (λ t. after_row t (sender_of l.requester) (next_row t (sender_of l.requester))) same in
    after-link (link_in pool l) (transmission (link_in pool l))
    ∙ (ap (λ r. with_sender (link_in pool l) (after_row l.terms (sender_in pool l.requester) r)) (runs pool l ended is)
    ∙ ap (λ s. record (link_in pool l) { sender = s }) (sym (after-row l.terms pool l.requester new numbers' items)))
