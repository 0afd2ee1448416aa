-- What each line of a script of a node does (this project's choice).
use Rattle.std.specs.Prelude.{ℕ, true, List, [], ◌∷◌, Option, Some, None, codes}
use Rattle.std.specs.Fmt.{decimal}
use Rattle.law_headline.specs.Does.{event_of}
use Rattle.protocol.specs.declared.events.Event.{Event}
use Rattle.protocol.specs.declared.events.Event.TheVariants as event
use Rattle.protocol.specs.declared.events.WorldEvent.{WorldEvent}
use Rattle.protocol.specs.declared.events.WorldEvent.TheVariants as world_event
use Rattle.protocol.specs.declared.images.ContextImage.{ContextImage}
use Rattle.protocol.specs.Dumps.{Bad, Good, Reading, dump_bytes, read_dump}
use Rattle.rdma_types.specs.declared.answers.Answer.{Answer}
use Rattle.rdma_types.specs.declared.answers.Answer.TheVariants as answer
use Rattle.rdma_types.specs.declared.names.Name.{Name}
use Rattle.rdma_types.specs.declared.verbs.Verb.{Verb}
use Rattle.script_lang.specs.declared.lines.NodeLine.{NodeLine}
use Rattle.script_lang.specs.declared.lines.NodeLine.TheVariants as line_is
use Rattle.script_lang.specs.Printed.{line, printed}
use Rattle.node_rules.specs.Node.{Node, stepping}
use Rattle.node_rules.specs.Plan as plan
use Rattle.node_rules.specs.Plan.{Plan}
use Rattle.node_rules.specs.Serve.{serving, turns}

-- ---- events

-- the event that a world would hand to the device of its context
abbrev pub handed_on : Option WorldEvent → Option Event
handed_on (Some (world_event.At e)) = Some e
handed_on other = None

-- the event of a verb: the one that it is in a world of devices; no line of a node says a context or a connection of two ends as a verb
abbrev pub verb_event : Verb → Option Event
verb_event v = handed_on (event_of v)

-- ---- answers

-- an answer with the datagrams that this run sent so far in the place of the number that a device does not know
abbrev pub counting : ℕ → Answer → Answer
counting sent (answer.Sent first) = answer.Sent sent
counting sent other = other

-- the answer is written, and the next line follows
abbrev pub answering : Answer → Node → (Node → Plan) → Plan
answering a n more = plan.Writes (printed (counting n.sent a)) (more n)

-- an event is stepped and answered
abbrev pub stepped : Node → Event → (Node → Plan) → Plan
stepped n e more = stepping n e λ m o. answering o.answer m more

-- .. where there is one
abbrev pub stepped_if : Node → Option Event → (Node → Plan) → Plan
stepped_if n None more = more n
stepped_if n (Some e) more = stepped n e more

-- ---- stopping

-- the version of dumps that is written
abbrev pub version : ℕ
version = 2

-- the dump of an image is put in the depot before the answer is written; a refused stop has no image
abbrev pub storing : Name → Option ContextImage → Answer → Node → (Node → Plan) → Plan
storing file None a n more = answering a n more
storing file (Some image) a n more = plan.Puts file (dump_bytes version image) (answering a n more)

-- a context is stopped, and its dump is stored
abbrev pub stopping : Node → Name → Name → (Node → Plan) → Plan
stopping n name file more = stepping n (event.Stop name true) λ m o. storing file o.image o.answer m more

-- ---- restoring

-- the dump is gone from the depot, and the answer is written; or it is not there any more
abbrev pub removed : Name → Answer → Node → Option (List ℕ) → (Node → Plan) → Plan
removed file a n None more = plan.Ends (plan.Missing file)
removed file a n (Some bytes) more = answering a n more

-- a dump that is restored is taken out of the depot; a refused restore leaves it there
abbrev pub clearing : Name → Answer → Node → (Node → Plan) → Plan
clearing file answer.Done n more = plan.Removes file λ found. removed file answer.Done n found more
clearing file other n more = answering other n more

-- the image is put on the device, where the bytes are a dump
abbrev pub restoring_image : Node → Name → Reading ContextImage → (Node → Plan) → Plan
restoring_image n file (Good image place rest) more = stepping n (event.Restore image) λ m o. clearing file o.answer m more
restoring_image n file (Bad place why) more = plan.Ends (plan.BadDump place why)

-- what was found under the name is read, or nothing is there
abbrev pub restoring_bytes : Node → Name → Option (List ℕ) → (Node → Plan) → Plan
restoring_bytes n file None more = plan.Ends (plan.Missing file)
restoring_bytes n file (Some bytes) more = restoring_image n file (read_dump bytes) more

-- the dump under the name is looked at, and restored
abbrev pub restoring : Node → Name → (Node → Plan) → Plan
restoring n file more = plan.Looks file λ found. restoring_bytes n file found more

-- ---- serving

-- `served` and the number of datagrams that were taken
abbrev pub served_text : ℕ → List ℕ
served_text taken = line (codes "served") (decimal taken ∷ [])

-- that many turns, and how many datagrams they took
abbrev pub serves : Node → ℕ → (Node → Plan) → Plan
serves n count more = turns count (serving n) λ v. plan.Writes (served_text v.taken) (more v)

-- ---- the table

-- what a line does; a blank line does nothing
abbrev pub line_does : Node → NodeLine → (Node → Plan) → Plan
line_does n line_is.Blank more = more n
line_does n (line_is.Verb v) more = stepped_if n (verb_event v) more
line_does n (line_is.Context name) more = stepped n (event.MakeContext name) more
line_does n (line_is.Link o peer partner terms) more = stepped n (event.Connect o peer partner terms) more
line_does n (line_is.Go o) more = stepped n (event.Transmit o) more
line_does n (line_is.Expire o) more = stepped n (event.Expire o) more
line_does n (line_is.Rnr o) more = stepped n (event.RnrOver o) more
line_does n (line_is.Stop name file) more = stopping n name file more
line_does n (line_is.Restore file) more = restoring n file more
line_does n (line_is.Release name) more = stepped n (event.Release name) more
line_does n (line_is.Serve count) more = serves n count more
