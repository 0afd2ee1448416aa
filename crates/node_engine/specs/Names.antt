-- What the code holds, in the words of the rules.
use Rattle.std.specs.Prelude.{ℕ, List, [], ◌∷◌, Bool, true, false, Option, Some, None}
use Rattle.context_core.specs.declared.lives.LinkView.{LinkView}
use Rattle.context_core.specs.declared.lives.LiveEnd.{LiveEnd}
use Rattle.node_rules.specs.Node.{Node, stepping}
use Rattle.node_rules.specs.Plan.{Plan}
use Rattle.protocol.specs.declared.events.Event.{Event}
use Rattle.protocol.specs.declared.images.Outcome.{Outcome}
use Rattle.rdma_types.specs.declared.answers.Answer.{Answer}
use Rattle.rdma_types.specs.declared.answers.Answer.TheVariants as answer
use Rattle.rdma_types.specs.declared.answers.ExpiryIgnored.TheVariants as not_why
use Rattle.rdma_types.specs.declared.names.ObjName.{ObjName}

-- one name before others, where the end is connected
abbrev pub name_if : ObjName → Option LinkView → List ObjName → List ObjName
name_if o None more = more
name_if o (Some l) more = o ∷ more

-- the names of the connected ones of these ends
abbrev pub names_of : List LiveEnd → List ObjName
names_of [] = []
names_of (e ∷ es) = name_if e.name e.link (names_of es)

-- a number or none, as a list
abbrev pub listed : Option ℕ → List ℕ
listed None = []
listed (Some n) = n ∷ []

-- an event as a part of a plan that gives the node and the outcome
abbrev pub stepping_pair : Node → Event → ((Node × Outcome) → Plan) → Plan
stepping_pair v e more = stepping v e λ n o. more (n, o)

-- the node and the outcome
abbrev pub with_outcome : Node → Outcome → (Node × Outcome)
with_outcome n o = (n, o)

-- an expiry was not counted since the end waits for its RNR timer
abbrev pub waits_for_timer : Answer → Bool
waits_for_timer (answer.NotCounted not_why.Rnr) = true
waits_for_timer other = false

-- a step was done
abbrev pub answer_is_done : Answer → Bool
answer_is_done answer.Done = true
answer_is_done other = false
