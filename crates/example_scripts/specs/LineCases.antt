-- Texts beside what stands for them.
use Rattle.std.specs.Prelude.{ℕ, ◌≡◌, List, map, Result}
use Rattle.rdma_types.specs.declared.answers.Answer.{Answer}
use Rattle.script_lang.specs.declared.lines.Line.{Line}
use Rattle.script_lang.specs.declared.lines.NodeLine.{NodeLine}
use Rattle.script_lang.specs.declared.lines.Offence.{Offence}
use Rattle.script_lang.specs.Lines.{reading_of, node_reading_of}
use Rattle.script_lang.specs.Printed.{printed}

-- each line of a script of a world says what stands beside it
abbrev pub AreSaid : List (List ℕ × Result Line Offence) → Type 0
AreSaid cases = map (λ c. reading_of c.0) cases ≡ map (λ c. c.1) cases

-- each line of a script of a node says what stands beside it
abbrev pub AreSaidByNodes : List (List ℕ × Result NodeLine Offence) → Type 0
AreSaidByNodes cases = map (λ c. node_reading_of c.0) cases ≡ map (λ c. c.1) cases

-- each answer is printed as the text beside it
abbrev pub ArePrinted : List (Answer × List ℕ) → Type 0
ArePrinted cases = map (λ c. printed c.0) cases ≡ map (λ c. c.1) cases
