-- Stops and restores that were made on a copy of the device (this project's choice).
use Rattle.std.specs.Prelude.{ℕ, ◌≡◌, ◌++◌, ◌⊎◌, true, List, map, None, Some}
use Rattle.protocol.specs.declared.events.Event.TheVariants as event
use Rattle.protocol.specs.declared.images.ContextImage.{ContextImage}
use Rattle.protocol.specs.Dumps.{dump_bytes, read_dump}
use Rattle.protocol.specs.State.{Device}
use Rattle.rdma_types.specs.declared.answers.Answer.TheVariants as answer
use Rattle.rdma_types.specs.declared.answers.Refusal.TheVariants as refusal
use Rattle.rdma_types.specs.declared.names.Name.{Name}
use Rattle.node_rules.specs.Lines.{version}
use Rattle.host_ports.specs.Depots.{Has, IsThere, Sets}
use Rattle.serve_rules.specs.declared.replies.Reply.{Reply}
use Rattle.serve_rules.specs.declared.replies.Reply.TheVariants as reply
use Rattle.serve_rules.specs.Moving.{IsDumpOf, Kept, any_moves, leaving, refused_stop, stop_of}
use Rattle.serve_rules.specs.Server.{Server, after, outcome_of}
use Rattle.host_ports.specs.declared.store.StoreFault.{StoreFault}
use Rattle.host_ports.specs.declared.store.StoreFault.TheVariants as store_fault
use Rattle.host_ports.specs.Stores.{DropsClaim, GivesLastBack}
use Rattle.serve_engine.specs.declared.restoring.Coming.{Coming}
use Rattle.serve_engine.specs.declared.restoring.Restore.{Restore}
use Rattle.serve_engine.specs.declared.restoring.Restore.TheVariants as restore
use Rattle.serve_engine.specs.declared.stopping.Leaving.{Leaving}
use Rattle.serve_engine.specs.declared.stopping.Stop.{Stop}
use Rattle.serve_engine.specs.declared.stopping.Stop.TheVariants as stop

-- the answer where a store did not do what it was asked
abbrev pub reply_to : StoreFault → Reply
reply_to store_fault.Missing = reply.Missing
reply_to store_fault.Taken = reply.Taken
reply_to store_fault.Failed = reply.Depot
reply_to store_fault.OutOfMemory = reply.Memory

-- what is there after a context left with that image, and its dump
pub record HasLeaving (s : Server) (name : Name) (image : ContextImage) (l : Leaving) : Type 0 where
  pub device : l.device ≡ (after s (stop_of name)).device
  pub gone : l.gone.items ≡ s.gone ++ leaving image.name image.ends
  pub dump : l.dump.items ≡ dump_bytes version image

-- what was prepared is the stop of that context, or why it is refused
abbrev pub IsStopOf : Server → Name → Stop → Type 0
IsStopOf s name (stop.Refused a) = refused_stop s name ≡ Some a
IsStopOf s name (stop.Made l) = (image : ContextImage) × ((outcome_of s (stop_of name)).image ≡ Some image) × HasLeaving s name image l

-- what was prepared on that device is the stop of a context with that image, or its partner moves
abbrev pub IsStopOfImage : Server → Device → ContextImage → Stop → Type 0
IsStopOfImage s d image (stop.Refused a) = (any_moves s image.ends ≡ true) × (a ≡ answer.Refused refusal.PeerMoving)
IsStopOfImage s d image (stop.Made l) =
    (l.device ≡ d) × (l.gone.items ≡ s.gone ++ leaving image.name image.ends) × (l.dump.items ≡ dump_bytes version image)

-- what is there after a context came of which that is the image
pub record HasComing (s : Server) (image : ContextImage) (c : Coming) : Type 0 where
  pub device : c.device ≡ (after s (event.Restore image)).device
  pub ready : c.ready.items ≡ s.ready ++ map (λ e. e.number) image.ends

-- what is left once a dump was to be published: the context is gone from here, or all is as before
abbrev pub PublishLeaves : Server → Leaving → Name → Reply → Server → Kept → Kept → Type 0
PublishLeaves s l file reply.Stopped s' k k' =
    (s' ≡ record s { device = l.device; gone = l.gone.items }) × Has k.dumps file None × Sets k.dumps k'.dumps file (Some l.dump.items) × (k'.claims ≡ k.claims)
PublishLeaves s l file (reply.Device a) s' k k' = ⊥
PublishLeaves s l file reply.Taken s' k k' = (s' ≡ s) × (k' ≡ k) × IsThere k.dumps file
PublishLeaves s l file r s' k k' = (s' ≡ s) × (k' ≡ k)

-- what was prepared is the restore of the context of these bytes, or why it is not made
abbrev pub IsRestoreOf : Server → List ℕ → Restore → Type 0
IsRestoreOf s bytes (restore.Made c) = (image : ContextImage) × IsDumpOf image (read_dump bytes) × ((outcome_of s (event.Restore image)).answer ≡ answer.Done) × HasComing s image c
IsRestoreOf s bytes other = Unit {0}

-- .. of an image
abbrev pub IsRestoreOfImage : Server → ContextImage → Restore → Type 0
IsRestoreOfImage s image (restore.Made c) = ((outcome_of s (event.Restore image)).answer ≡ answer.Done) × HasComing s image c
IsRestoreOfImage s image other = Unit {0}

-- the last claim has its name again, or is still claimed
abbrev pub GaveBack : Kept → Kept → Type 0
GaveBack k k' = (k' ≡ k) ⊎ GivesLastBack k.claims k'.claims k.dumps k'.dumps

-- what is left once the last claim was to be forgotten: the context is here, or all is as before here
abbrev pub FinishLeaves : Server → Coming → Reply → Server → Kept → Kept → Type 0
FinishLeaves s c reply.Restored s' k k' =
    (s' ≡ record s { device = c.device; ready = c.ready.items }) × (k'.dumps ≡ k.dumps) × DropsClaim k.claims k'.claims
FinishLeaves s c reply.Missing s' k k' = ⊥
FinishLeaves s c r s' k k' = (s' ≡ s) × GaveBack k k'

-- what is left once a dump was claimed
abbrev pub ClaimLeaves : Server → List ℕ → Reply → Server → Kept → Kept → Type 0
ClaimLeaves s bytes reply.Restored s' k k' =
    (c : Coming) × IsRestoreOf s bytes (restore.Made c) × (s' ≡ record s { device = c.device; ready = c.ready.items }) × (k'.dumps ≡ k.dumps) × DropsClaim k.claims k'.claims
ClaimLeaves s bytes reply.Missing s' k k' = ⊥
ClaimLeaves s bytes r s' k k' = (s' ≡ s) × GaveBack k k'
