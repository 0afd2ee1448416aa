-- Parts of a settling as the code takes them.
use Rattle.std.specs.Prelude.{◌≡◌, ℕ, zero, suc, ◌+◌, ◌==◌, ◌&&◌, not, List, [], ◌∷◌, ◌++◌, Bool, Some, option_map, if◌then◌else◌}
use Rattle.protocol.specs.declared.events.WorldEvent.{WorldEvent}
use Rattle.protocol.specs.declared.events.WorldEvent.TheVariants as world_event
use Rattle.rdma_types.specs.declared.names.ObjName.{ObjName}
use Rattle.protocol.specs.State.{World}
use Rattle.protocol.specs.WorldStep.{world_step}
use Rattle.protocol.specs.Settle.{Settling, drained, is_sent, link_at, settle_step, transmit}
use Rattle.law_settling.specs.Events.{running_events, send_events}
use Rattle.world_core.specs.Lives.{is_pending, link_view}
use Rattle.context_core.specs.declared.lives.LinkView.{LinkView}

-- datagram k is delivered where it is pending
unfoldable pub delivered_at : Settling → ℕ → Settling
delivered_at s k = if is_pending s.world.sent k then settle_step s (world_event.Deliver k) else s

-- .. and each of n datagrams from number k on
unfoldable pub sweeping : Settling → ℕ → ℕ → Settling
sweeping s k zero = s
sweeping s k (suc n) = sweeping (delivered_at s k) (k + 1) n

-- the event of such a delivery
unfoldable pub deliver_events : Settling → ℕ → List WorldEvent
deliver_events s k = if is_pending s.world.sent k then world_event.Deliver k ∷ [] else []

-- .. and the events of n of them
unfoldable pub sweep_events : Settling → ℕ → ℕ → List WorldEvent
sweep_events s k zero = []
sweep_events s k (suc n) = deliver_events s k ++ sweep_events (delivered_at s k) (k + 1) n

-- the end transmitted once, and what it sent is drained
abbrev pub sent_once : Bool → Settling → ObjName → Settling
sent_once sent s o = if sent then drained (settle_step s (transmit o)) else s

-- the events of this
unfoldable pub once_events : Settling → ObjName → List WorldEvent
once_events s o = if is_sent (world_step s.world (transmit o)).answer then send_events s o else []

-- an end announces itself: it transmits, what it sent is drained, and it goes on where it is Running
abbrev pub announce_events : Settling → ObjName → List WorldEvent
announce_events s o = send_events s o ++ running_events (drained (settle_step s (transmit o))) o

-- the view of an end's link, where it is connected
abbrev pub IsLinkAt : World → ObjName → LinkView → Type 0
IsLinkAt w o v = Some v ≡ option_map link_view (link_at w o)

-- a link in Rts and Running, as its view tells it
abbrev pub view_runs : LinkView → Bool
view_runs v = not v.ended && (not v.paused && not v.resuming)

-- .. and one in Rts and Resuming
abbrev pub view_resumes : LinkView → Bool
view_resumes v = not v.ended && v.resuming

-- one that may have a packet to send
abbrev pub view_may_send : LinkView → Bool
view_may_send v = not v.rnr_wait && not (v.next == v.last)
