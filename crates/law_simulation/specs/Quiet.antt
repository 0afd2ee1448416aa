-- A quiet world, what is left in it, and its load.
use Rattle.std.specs.Prelude.{◌≡◌, ℕ, ◌+◌, ◌-◌, List, [], ◌∷◌, ◌++◌, length, map, flat_map, sum, filter, Bool, false, not, nat_lt, ◌==◌, ◌&&◌, if◌then◌else◌, Option, Some, None}
use Rattle.rdma_types.specs.declared.names.ObjName.{ObjName}
use Rattle.rdma_types.specs.declared.requests.Kind.{Kind}
use Rattle.rdma_types.specs.declared.requests.Kind.TheVariants as kinds
use Rattle.rdma_types.specs.declared.answers.UnfinishedReason.{UnfinishedReason}
use Rattle.rdma_types.specs.declared.answers.UnfinishedReason.TheVariants as left_whys
use Rattle.rdma_types.specs.Objects.{Posted}
use Rattle.rdma_types.specs.Kinds.{kind_of}
use Rattle.protocol.specs.Images as images
use Rattle.protocol.specs.State as state
use Rattle.protocol.specs.State.{World, Link}
use Rattle.protocol.specs.Fabric.{pending}
use Rattle.protocol.specs.EndWords.{is_paused, is_resuming}
use Rattle.protocol.specs.Requester.{end_of_queue}
use Rattle.packetless_machine.specs.Machine as machine
use Rattle.packetless_machine.specs.Machine.{Machine}
use Rattle.packetless_machine.specs.Steps.{has_current, front, has_unused, has_imm, peer_of}
use Rattle.law_simulation.specs.Views.{link_of, link_or_none, is_carried}

-- the ends with untold requests of some contexts, in order
abbrev pub left_in : state.Context → List ObjName
left_in c = map (λ e. record { context = c.name; name = e.name }) (filter (λ e. nat_lt 0 (length (link_or_none e.link).sender.untold)) c.ends)

-- the ends with untold requests: the live ones by device and context, then the carried ones
unfoldable pub unfinished : World → List ObjName
unfinished w = flat_map left_in (flat_map (λ d. d.contexts) w.devices) ++ flat_map (λ i. left_in (images.context_of i)) w.carried

-- a request that needs a receive at its turn: a Send that has not begun, or a Write with immediate
unfoldable pub needs_receive : Kind → Posted → ℕ → Bool
needs_receive kinds.Send r into = into == 0
needs_receive kinds.Write r into = has_imm r
needs_receive other r into = false

-- rnr is 7, and the first untold request is current, needs a receive and finds none unused
unfoldable pub lacks_receive : Machine → ObjName → Bool
lacks_receive m o =
    ((machine.end_of m o).rnr == 7)
    && (((machine.end_of m o).told == (machine.end_of m o).acted)
    && (has_current m o
    && (needs_receive (kind_of (front (machine.end_of m o))) (front (machine.end_of m o)) (machine.end_of m o).into
    && not (has_unused (peer_of m o)))))

-- why the requests of an end are left: the first reason that holds
unfoldable pub reason_of : World → Machine → ObjName → Option UnfinishedReason
reason_of w m o =
    if is_carried w o.context
    then Some left_whys.Carried
    else if is_paused (link_of w o).moving.phase
    then Some left_whys.Paused
    else if is_resuming (link_of w o).moving.phase
    then Some left_whys.Resuming
    else if lacks_receive m o then Some left_whys.NoReceive else None

-- each end is named once, in order, with its reason
abbrev pub AreReasons : World → Machine → List ObjName → List (ObjName × UnfinishedReason) → Type 0
AreReasons w m [] [] = Unit {0}
AreReasons w m [] (x ∷ xs) = ⊥
AreReasons w m (o ∷ os) [] = ⊥
AreReasons w m (o ∷ os) (x ∷ xs) = (x.0 ≡ o) × (reason_of w m o ≡ Some x.1) × AreReasons w m os xs

-- nothing is pending, and each end with untold requests is named once, with its reason
pub record IsQuiet (w : World) (m : Machine) (left : List (ObjName × UnfinishedReason)) : Type 0 where
  pub nothing_pending : pending w.sent ≡ None
  pub reasons : AreReasons w m (unfinished w) left

-- the posted numbers of an end in Rts from `una` on
unfoldable pub unacknowledged : Option Link → ℕ
unacknowledged None = 0
unacknowledged (Some l) = if l.ended then 0 else end_of_queue l.terms l.sender - l.sender.una

-- the ends that live on some device
abbrev pub live_ends : World → List state.End
live_ends w = flat_map (λ c. c.ends) (flat_map (λ d. d.contexts) w.devices)

-- the load of a world: what settling has to do
unfoldable pub load_of : World → ℕ
load_of w = sum (map (λ e. unacknowledged e.link) (live_ends w)) + length (live_ends w) + 1
