-- Contexts that leave and come, with their dumps in a store: nothing is lost where something fails (this project's choice).
use Rattle.std.specs.Prelude.{ℕ, ◌≡◌, ◌⊎◌, ◌&&◌, ◌||◌, not, Bool, true, false, List, [], ◌∷◌, ◌++◌, length, map, nat_eq, Option, Some, None, if◌then◌else◌}
use Rattle.std.specs.List.{list_any}
use Rattle.device_core.specs.Readings.{has_resuming_end}
use Rattle.host_ports.specs.Depots.{Has, Holding, IsThere, Sets}
use Rattle.protocol.specs.declared.events.Event.{Event}
use Rattle.protocol.specs.declared.events.Event.TheVariants as event
use Rattle.protocol.specs.declared.images.ContextImage.{ContextImage}
use Rattle.protocol.specs.declared.images.EndImage.{EndImage}
use Rattle.protocol.specs.declared.images.LinkImage.{LinkImage}
use Rattle.protocol.specs.declared.images.Outcome.{Outcome}
use Rattle.protocol.specs.Dumps.{Bad, Good, Reading, dump_bytes, read_dump}
use Rattle.rdma_types.specs.declared.answers.Answer.{Answer}
use Rattle.rdma_types.specs.declared.answers.Answer.TheVariants as answer
use Rattle.rdma_types.specs.declared.answers.Refusal.TheVariants as refusal
use Rattle.rdma_types.specs.declared.names.Name.{Name}
use Rattle.serve_rules.specs.declared.replies.Reply.{Reply}
use Rattle.serve_rules.specs.declared.replies.Reply.TheVariants as reply
use Rattle.host_ports.specs.Stores.{Claim}
use Rattle.node_rules.specs.Lines.{version}
use Rattle.serve_rules.specs.Server.{Server, after, outcome_of}

-- what a store tells that it holds
pub record Kept : Type 0 where
  pub dumps : Option Holding
  pub claims : Option (List Claim)

-- ---- stopping

-- a queue pair with that number left
abbrev pub has_left : List (Name × ℕ) → ℕ → Bool
has_left gone n = list_any (λ g. nat_eq g.1 n) gone

-- .. or lives here and is not heard in its new place yet
abbrev pub is_moving : Server → ℕ → Bool
is_moving s n = has_left s.gone n || has_resuming_end s.device n

-- the partner of an end moves, as far as it can be seen here
abbrev pub peer_moves : Server → Option LinkImage → Bool
peer_moves s None = false
peer_moves s (Some l) = not l.ended && is_moving s l.peer

-- the partner of one of these ends moves
abbrev pub any_moves : Server → List EndImage → Bool
any_moves s ends = list_any (λ e. peer_moves s e.linked) ends

-- the event of a stop
abbrev pub stop_of : Name → Event
stop_of name = event.Stop name true

-- the numbers of ends that left, with their context
abbrev pub leaving : Name → List EndImage → List (Name × ℕ)
leaving name ends = map (λ e. (name, e.number)) ends

-- a context left
unfoldable pub without : Server → Name → ContextImage → Server
without s name image = record (after s (stop_of name)) { gone = s.gone ++ leaving image.name image.ends }

-- the answer to a stop that is refused
abbrev pub refused_by : Server → Answer → Option ContextImage → Option Answer
refused_by s a None = Some a
refused_by s a (Some image) = if any_moves s image.ends then Some (answer.Refused refusal.PeerMoving) else None

unfoldable pub refused_stop : Server → Name → Option Answer
refused_stop s name = refused_by s (outcome_of s (stop_of name)).answer (outcome_of s (stop_of name)).image

-- the stop was made: its dump lies under the name, which was free, and the context is gone from here
pub record IsStopped (s : Server) (name file : Name) (s' : Server) (k k' : Kept) : Type 0 where
  pub image : ContextImage
  pub made : (outcome_of s (stop_of name)).image ≡ Some image
  pub server : s' ≡ without s name image
  pub free : Has k.dumps file None
  pub dumps : Sets k.dumps k'.dumps file (Some (dump_bytes version image))
  pub claims : k'.claims ≡ k.claims

-- what a stop leaves, by its answer: it was made, or all is as before, here and in the store
abbrev pub StopLeaves : Server → Name → Name → Reply → Server → Kept → Kept → Type 0
StopLeaves s name file reply.Stopped s' k k' = IsStopped s name file s' k k'
StopLeaves s name file (reply.Device a) s' k k' = (s' ≡ s) × (k' ≡ k) × (refused_stop s name ≡ Some a)
StopLeaves s name file reply.Taken s' k k' = (s' ≡ s) × (k' ≡ k) × IsThere k.dumps file
StopLeaves s name file r s' k k' = (s' ≡ s) × (k' ≡ k)

-- ---- restoring

-- a context came, and its ends may have something to send
unfoldable pub with_context : Server → ContextImage → Server
with_context s image = record (after s (event.Restore image)) { ready = s.ready ++ map (λ e. e.number) image.ends }

-- bytes are a dump of that image
abbrev pub IsDumpOf : ContextImage → Reading ContextImage → Type 0
IsDumpOf image (Good read place rest) = read ≡ image
IsDumpOf image (Bad place why) = ⊥

-- the restore was made: the dump was under the name and is gone for good, and its context lives here
pub record IsRestored (s : Server) (file : Name) (s' : Server) (k k' : Kept) : Type 0 where
  pub bytes : List ℕ
  pub image : ContextImage
  pub found : Has k.dumps file (Some bytes)
  pub read : IsDumpOf image (read_dump bytes)
  pub accepted : (outcome_of s (event.Restore image)).answer ≡ answer.Done
  pub server : s' ≡ with_context s image
  pub dumps : Sets k.dumps k'.dumps file None
  pub claims : k'.claims ≡ k.claims

-- the dump has its name again, or is still claimed, where that is told
abbrev pub HasNameOrClaim : Option (List Claim) → Option (List Claim) → Option Holding → Option Holding → Name → List ℕ → Type 0
HasNameOrClaim None claims' dumps dumps' file bytes = claims' ≡ None
HasNameOrClaim (Some claims) claims' dumps dumps' file bytes =
    (Sets dumps dumps' file (Some bytes) × (claims' ≡ Some claims)) ⊎ (Sets dumps dumps' file None × (claims' ≡ Some (claims ++ (file, bytes) ∷ [])))

abbrev pub IsThereOrClaimed : Kept → Name → Kept → Type 0
IsThereOrClaimed k file k' = (bytes : List ℕ) × Has k.dumps file (Some bytes) × HasNameOrClaim k.claims k'.claims k.dumps k'.dumps file bytes

-- what a restore leaves, by its answer: it was made; or all is as before here, and the dump is in the store
abbrev pub RestoreLeaves : Server → Name → Reply → Server → Kept → Kept → Type 0
RestoreLeaves s file reply.Restored s' k k' = IsRestored s file s' k k'
RestoreLeaves s file reply.Missing s' k k' = (s' ≡ s) × (k' ≡ k) × Has k.dumps file None
RestoreLeaves s file r s' k k' = (s' ≡ s) × ((k' ≡ k) ⊎ IsThereOrClaimed k file k')
