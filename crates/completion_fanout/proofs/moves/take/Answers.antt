use Rattle.std.proofs.Common.{◌≡◌, Option, None, Some, MatchOption}
use Rattle.completion_fanout.specs.declared.entry.QueueItem.{QueueItem}
use Rattle.completion_fanout.proofs.Steps.{balances, takes, told}
use Rattle.completion_fanout.proofs.moves.take.Goals as goal

at_none : (r : Option QueueItem) (P : Type 0) (Q : QueueItem → Type 0) → MatchOption r P Q → r ≡ None → P
at_none None P Q h e = h
at_none (Some x) P Q h e = let no : ⊥ = cc in absurd no

pub pop_as-requires-clause-rule : goal.pop_as-requires-clause-rule
pop_as-requires-clause-rule g c = (takes _ _ c.requires.parts, balances _ _)

pub returns-clause-empty : goal.returns-clause-empty
returns-clause-empty g c = λ none all may. told _ (at_none c.pop_as.result _ _ c.pop_as.ensures.rule none).1 all may
