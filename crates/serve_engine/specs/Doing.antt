-- What a line leaves, by what it says and by its answer (this project's choice).
use Rattle.std.specs.Prelude.{◌≡◌, ◌⊎◌, Option, Some, None, Result, Ok, Err}
use Rattle.node_rules.specs.Lines.{verb_event}
use Rattle.protocol.specs.declared.events.Event.{Event}
use Rattle.protocol.specs.declared.events.Event.TheVariants as event
use Rattle.rdma_types.specs.declared.names.Name.{Name}
use Rattle.script_lang.specs.declared.lines.NodeLine.{NodeLine}
use Rattle.script_lang.specs.declared.lines.NodeLine.TheVariants as node
use Rattle.script_lang.specs.declared.lines.Offence.{Offence}
use Rattle.serve_rules.specs.declared.lines.ServeLine.{ServeLine}
use Rattle.serve_rules.specs.declared.lines.ServeLine.TheVariants as line
use Rattle.serve_rules.specs.declared.replies.Reply.{Reply}
use Rattle.serve_rules.specs.declared.replies.Reply.TheVariants as reply
use Rattle.serve_rules.specs.Lines.{IsLineOf, released, waiting, waiting_for}
use Rattle.serve_rules.specs.Moving.{Kept, RestoreLeaves, StopLeaves}
use Rattle.serve_rules.specs.Server.{Server, outcome_of}

-- nothing is done, and nothing is answered
abbrev pub NothingLeaves : Server → Reply → Server → Type 0
NothingLeaves s r s' = (r ≡ reply.Nothing) × (s' ≡ s)

-- the event of a verb, if it has one
abbrev pub VerbLeaves : Option Event → Server → Reply → Server → Type 0
VerbLeaves None s r s' = NothingLeaves s r s'
VerbLeaves (Some e) s r s' = IsLineOf e s r s'

-- a husk was released, or memory ran out and all is as before
abbrev pub IsReleaseOf : Name → Server → Reply → Server → Type 0
IsReleaseOf name s reply.Memory s' = s' ≡ s
IsReleaseOf name s r s' = (s' ≡ released s name) × (r ≡ reply.Device (outcome_of s (event.Release name)).answer)

-- a line of a node; only `stop` and `restore` touch the store
abbrev pub NodeLineLeaves : NodeLine → Server → Reply → Server → Kept → Kept → Type 0
NodeLineLeaves node.Blank s r s' k k' = NothingLeaves s r s' × (k' ≡ k)
NodeLineLeaves (node.Serve turns) s r s' k k' = NothingLeaves s r s' × (k' ≡ k)
NodeLineLeaves (node.Verb v) s r s' k k' = VerbLeaves (verb_event v) s r s' × (k' ≡ k)
NodeLineLeaves (node.Context name) s r s' k k' = IsLineOf (event.MakeContext name) s r s' × (k' ≡ k)
NodeLineLeaves (node.Link end peer partner terms) s r s' k k' = IsLineOf (event.Connect end peer partner terms) s r s' × (k' ≡ k)
NodeLineLeaves (node.Go end) s r s' k k' = IsLineOf (event.Transmit end) s r s' × (k' ≡ k)
NodeLineLeaves (node.Expire end) s r s' k k' = IsLineOf (event.Expire end) s r s' × (k' ≡ k)
NodeLineLeaves (node.Rnr end) s r s' k k' = IsLineOf (event.RnrOver end) s r s' × (k' ≡ k)
NodeLineLeaves (node.Stop name file) s r s' k k' = StopLeaves s name file r s' k k'
NodeLineLeaves (node.Restore file) s r s' k k' = RestoreLeaves s file r s' k k'
NodeLineLeaves (node.Release name) s r s' k k' = IsReleaseOf name s r s' × (k' ≡ k)

-- a line; one that shows something changes nothing
abbrev pub LineLeaves : ServeLine → Server → Reply → Server → Kept → Kept → Type 0
LineLeaves (line.Node l) s r s' k k' = NodeLineLeaves l s r s' k k'
LineLeaves (line.Wait time) s r s' k k' = (r ≡ reply.Nothing) × (s' ≡ waiting s time) × (k' ≡ k)
LineLeaves (line.Until end goal limit) s r s' k k' = (r ≡ reply.Nothing) × (s' ≡ waiting_for s end goal limit) × (k' ≡ k)
LineLeaves (line.ShowEnd end) s r s' k k' = (s' ≡ s) × (k' ≡ k)
LineLeaves (line.ShowContext name) s r s' k k' = (s' ≡ s) × (k' ≡ k)
LineLeaves line.Show s r s' k k' = (s' ≡ s) × (k' ≡ k)

-- bytes that were read: a line is done, and a bad one changes nothing; nor does one for which there is no memory
abbrev pub ReadingLeaves : Result ServeLine Offence → Server → Reply → Server → Kept → Kept → Type 0
ReadingLeaves (Ok l) s r s' k k' = LineLeaves l s r s' k k' ⊎ ((r ≡ reply.Memory) × (s' ≡ s) × (k' ≡ k))
ReadingLeaves (Err o) s r s' k k' = ((r ≡ reply.BadLine o.column o.why) ⊎ (r ≡ reply.Memory)) × (s' ≡ s) × (k' ≡ k)
