-- What applications make and hear in an order of steps, and whether the packetless machine may answer so.
use Rattle.std.specs.Prelude.{ℕ, true, List, [], ◌∷◌, ◌++◌, Option, Some}
use Rattle.rdma_types.specs.declared.answers.Answer.{Answer}
use Rattle.rdma_types.specs.declared.verbs.Verb.{Verb}
use Rattle.rdma_types.specs.declared.verbs.Verb.TheVariants as verbs
use Rattle.protocol.specs.declared.events.Event.{Event}
use Rattle.protocol.specs.declared.events.Event.TheVariants as event
use Rattle.packetless_machine.specs.Legal.{IsLegal}
use Rattle.law_simulation.specs.Kept.{verb_in, kept_verb}
use Rattle.order_rules.specs.Lines.{Line}
use Rattle.order_rules.specs.Openings.{opening_verbs}

-- the verb that a line's event is: a context is made on a device that is there
unfoldable pub verb_heard : Event → Option Verb
verb_heard (event.MakeContext name) = Some (verbs.Context name true)
verb_heard other = verb_in other

-- the verbs of the lines with their answers, without those that do not count as made
unfoldable pub heard : List Line → List (Verb × Answer)
heard [] = []
heard (l ∷ ls) = kept_verb (verb_heard l.receipt.event) l.receipt.outcome.answer ++ heard ls

-- the verbs that made the opening of that many workers and then those of the lines, with their answers, are those of a run
-- of the packetless machine
abbrev pub IsLegalOrder : ℕ → List Line → Type 0
IsLegalOrder workers ls = IsLegal (opening_verbs workers ++ heard ls)
