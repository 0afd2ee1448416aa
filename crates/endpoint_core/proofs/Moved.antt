-- Messages of moving at a connected end.
use Rattle.std.proofs.Common.{◌≡◌, ℕ, List, [], refl, ap, sym, ◌∙◌}
use Rattle.rdma_types.specs.declared.requests.Address.{Address}
use Rattle.rdma_types.specs.Objects.{Region}
use Rattle.page_pool.specs.Pool.{Pool}
use Rattle.transport.specs.declared.move_core.Control.{Control}
use Rattle.transport.specs.declared.move_core.Control.TheVariants.{Stopped, Resume, ResumeAck}
use Rattle.transport.specs.declared.move_core.MoveEffect.{MoveEffect}
use Rattle.transport.specs.declared.move_core.MoveEffect.TheVariants as row
use Rattle.transport.specs.Table as table
use Rattle.protocol.specs.EndWords.{EndStep, linked, with_moving}
use Rattle.protocol.specs.Moves as moves
use Rattle.protocol.specs.State.{Context, End, Link}
use Rattle.requester.specs.Sending.{sender_in}
use Rattle.endpoint_core.specs.declared.end.EndLink.{EndLink}
use Rattle.endpoint_core.specs.Answers.{move_reply, move_took, sender_after, sent_by}
use Rattle.endpoint_core.specs.Ends.{link_in}

-- the step that a row and a reply say
abbrev pub moved_step : Context → End → List Region → Link → MoveEffect → Control → EndStep
moved_step c e regions new r control = record { context = linked c e new; took = move_took r; sent = sent_by regions new (move_reply r control) }

-- the link after a row
abbrev pub moved_link : Link → MoveEffect → Control → Link
moved_link l r control = record l { moving = table.moving_by l.moving (table.control_of control) (table.row_of r); sender = sender_after r l.sender }

-- which messages a row takes
pub record Takes (recorded own : ℕ) (r : MoveEffect) (control : Control) : Type 0 where
  pub paused : r ≡ row.Paused → control ≡ Stopped recorded
  pub resumed : r ≡ row.Resumed → (n : ℕ) × (at : Address) × (control ≡ Resume n at)
  pub again : r ≡ row.Again → (at : Address) × (control ≡ Resume recorded at)
  pub running : r ≡ row.Running → control ≡ ResumeAck own

by_row : (c : Context) (e : End) (regions : List Region) (l : Link) (recorded own : ℕ) (r : MoveEffect) (control : Control) → Takes recorded own r control → linked c e l ≡ c
    → moves.moves_by c e l (table.control_of control) (table.row_of r) ≡ moved_step c e regions (moved_link l r control) r control
unfolding moves.moves_by with_moving
by_row c e regions l recorded own row.Paused (Stopped n) takes same = refl
by_row c e regions l recorded own row.Paused (Resume n at) takes same = absurd (cc (takes.paused refl))
by_row c e regions l recorded own row.Paused (ResumeAck n) takes same = absurd (cc (takes.paused refl))
by_row c e regions l recorded own row.Resumed (Stopped n) takes same = let is = takes.resumed refl in absurd (cc is.2)
by_row c e regions l recorded own row.Resumed (Resume n at) takes same = refl
by_row c e regions l recorded own row.Resumed (ResumeAck n) takes same = let is = takes.resumed refl in absurd (cc is.2)
by_row c e regions l recorded own row.Again (Stopped n) takes same = let is = takes.again refl in absurd (cc is.1)
by_row c e regions l recorded own row.Again (Resume n at) takes same = ap (λ x. record { context = x; took = move_took row.Again; sent = sent_by regions l (move_reply row.Again (Resume n at)) }) (sym same)
by_row c e regions l recorded own row.Again (ResumeAck n) takes same = let is = takes.again refl in absurd (cc is.1)
by_row c e regions l recorded own row.Running (Stopped n) takes same = absurd (cc (takes.running refl))
by_row c e regions l recorded own row.Running (Resume n at) takes same = absurd (cc (takes.running refl))
by_row c e regions l recorded own row.Running (ResumeAck n) takes same = refl
by_row c e regions l recorded own row.Stale (Stopped n) takes same = ap (λ x. record { context = x; took = move_took row.Stale; sent = [] }) (sym same)
by_row c e regions l recorded own row.Stale (Resume n at) takes same = ap (λ x. record { context = x; took = move_took row.Stale; sent = [] }) (sym same)
by_row c e regions l recorded own row.Stale (ResumeAck n) takes same = ap (λ x. record { context = x; took = move_took row.Stale; sent = [] }) (sym same)

pub control-step : (c : Context) (e : End) (pool : Pool) (regions : List Region) (l l' : EndLink) (r : MoveEffect) (control : Control) → Takes l.moves.recorded l.moves.own r control
    → table.row_of r ≡ moves.move_row (table.moving_of l.moves) (table.control_of control)
    → table.moving_of l'.moves ≡ table.moving_by (table.moving_of l.moves) (table.control_of control) (table.row_of r)
    → sender_in pool l'.requester ≡ sender_after r (sender_in pool l.requester)
    → l' ≡ record l { requester = l'.requester; moves = l'.moves }
    → linked c e (link_in pool l) ≡ c → moves.takes_control c e (link_in pool l) (table.control_of control) ≡ moved_step c e regions (link_in pool l') r control
unfolding moves.takes_control
control-step c e pool regions l l' r control takes row rule next same stays' =
    let link : moved_link (link_in pool l) r control ≡ link_in pool l' =
    sym (ap (λ (x : EndLink). link_in pool x) same
    ∙ (ap (λ m. record (link_in pool l) { moving = m; sender = sender_in pool l'.requester }) rule
    ∙ ap (λ s. record (link_in pool l) { moving = table.moving_by (table.moving_of l.moves) (table.control_of control) (table.row_of r); sender = s }) next)) in
    ap (λ x. moves.moves_by c e (link_in pool l) (table.control_of control) x) (sym row)
    ∙ (by_row c e regions (link_in pool l) l.moves.recorded l.moves.own r control takes stays'
    ∙ ap (λ x. moved_step c e regions x r control) link)
