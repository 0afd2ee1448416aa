-- A transmission of an end, as it is made.
use Rattle.std.specs.Prelude.{◌≡◌, ◌<◌, ◌^◌, All, List}
use Rattle.rdma_types.specs.declared.names.Name.{Name}
use Rattle.rdma_types.specs.Limits.{AreTerms}
use Rattle.page_pool.specs.Pool.{Pool}
use Rattle.memory_keys.specs.declared.RegisteredRegion.{RegisteredRegion}
use Rattle.endpoint_core.specs.declared.answers.EndSend.{EndSend}
use Rattle.endpoint_core.specs.declared.end.Endpoint.{Endpoint}
use Rattle.endpoint_core.specs.declared.end.EndLink.{EndLink}
use Rattle.endpoint_core.specs.Answers.{IsPacketOf}
use Rattle.endpoint_core.specs.Ends.{untold_by}
use Rattle.endpoint_core.specs.Sound.{IsPosted}
use Rattle.context_core.specs.declared.sending.Route.{Route}

-- the way to the partner of an end
abbrev pub way_of : EndLink → Route
way_of l = record { peer = l.peer; to = l.moves.partner; mtu = l.terms.mtu; start = l.terms.own_start }

-- it is the way to the partner, and the next number is below the limit of numbers
pub record IsRoute (way : Route) (l : EndLink) : Type 0 where
  pub is : way ≡ way_of l
  pub next : l.requester.numbers.next < 2 ^ 62

-- an end with link l sent this, and has the requests that it had
pub record IsSending (pool : Pool) (e : Endpoint) (way : Route) (send : EndSend) (l : EndLink) : Type 0 where
  pub held : List RegisteredRegion
  pub domain : Name
  pub way_is : IsRoute way l
  pub items : untold_by e.link ≡ l.requester.items
  pub posted : All (IsPosted pool held domain) l.requester.items
  pub terms : AreTerms l.terms
  pub packet : IsPacketOf pool l send
