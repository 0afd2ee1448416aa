-- What is told of queue pairs (this project's choice).
use Rattle.std.specs.Prelude.{ℕ, ◌≡◌, ◌&&◌, Bool, false, not, nat_le, length, slice_get, All, IsSome, Option, Some, None, option_map, ⊤}
use Rattle.rdma_types.specs.declared.names.Name.{Name}
use Rattle.rdma_types.specs.Limits.{most_moves}
use Rattle.protocol.specs.EndWords.{is_paused, is_resuming}
use Rattle.protocol.specs.Requester.{end_of_queue}
use Rattle.protocol.specs.State.{Context, End, Link}
use Rattle.transport.specs.Table.{phase_of}
use Rattle.endpoint_core.specs.declared.end.EndLink.{EndLink}
use Rattle.context_core.specs.declared.lives.LinkView.{LinkView}
use Rattle.context_core.specs.declared.lives.LiveEnd.{LiveEnd}
use Rattle.context_core.specs.Context.{Holding}

-- what is told of a connected end
abbrev pub link_view : Link → LinkView
link_view l = record {
  ended = l.ended;
  peer = l.peer;
  paused = is_paused l.moving.phase;
  resuming = is_resuming l.moving.phase;
  moves = l.moving.own;
  una = l.sender.una;
  next = l.sender.next;
  last = end_of_queue l.terms l.sender;
  untold = length l.sender.untold;
  rnr = l.terms.rnr;
  rnr_wait = l.sender.rnr_wait;
}

-- .. and of an end of a context
abbrev pub live_end : Context → End → LiveEnd
live_end c e = record { name = record { context = c.name; name = e.name }; number = e.number; link = option_map link_view e.link }

-- .. and of the one at a place
abbrev pub live_end_at : Context → ℕ → Option LiveEnd
live_end_at c place = option_map (live_end c) (slice_get c.ends place)

-- the number of the next packet to execute of a connected end, and one past the highest number sent
abbrev pub link_marks : Link → ℕ × ℕ
link_marks l = (l.receiver.expected, l.sender.top)

-- the connection of an end, where it is there
abbrev pub link_by : Option End → Option Link
link_by None = None
link_by (Some e) = e.link

-- the connection of the end at a place
abbrev pub link_at : Context → ℕ → Option Link
link_at c place = link_by (slice_get c.ends place)

-- the end of a name is at the place, and connected
pub record IsConnectedAt (c : Context) (name : Name) (place : ℕ) : Type 0 where
  pub end : End
  pub there : slice_get c.ends place ≡ Some end
  pub named : end.name ≡ name
  pub linked : IsSome end.link

-- a connected end sends by its terms
abbrev pub SendsByTerms : Option EndLink → Type 0
SendsByTerms None = ⊤
SendsByTerms (Some l) = l.requester.terms ≡ l.terms

-- .. as each end of a context does
abbrev pub SendByTerms : Holding → Type 0
SendByTerms h = All (λ e. SendsByTerms e.1.endpoint.link) h.ends

-- connected, not in Error, and Paused
abbrev pub is_paused_by : Option EndLink → Bool
is_paused_by None = false
is_paused_by (Some l) = not l.ended && is_paused (phase_of l.moves.phase)

-- connected, not in Error, and moved as often as may be
abbrev pub is_moved_out_by : Option EndLink → Bool
is_moved_out_by None = false
is_moved_out_by (Some l) = not l.ended && nat_le most_moves l.moves.own
