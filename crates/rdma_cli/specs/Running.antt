-- What a run of the program does for its words: it answers what they ask of the program itself, or does their command.
use Rattle.std.specs.Prelude.{◌≡◌, ℕ, List, Some, None}
use Rattle.program_rules.specs.Headline.{ImageText}
use Rattle.program_rules.specs.Runs.{Run}
use Rattle.tools.specs.Does.{Does}
use Rattle.tools.specs.Endings.{IsWritten, done}
use Rattle.rdma_cli.specs.About.{text_about}

-- what holds of a run that ends with this number. What is the same object as before is given, as for `Does`
pub record Responds (said : ImageText) (r : Run) (SameInput SameButOutput SameLink SameDepot : Type 0) (number : ℕ) : Type 0 where
  -- the text that answers the words was written, or a part of it
  pub tells : (text : List ℕ) → text_about r.words ≡ Some text → IsWritten r.before.written r.after.written r.before.faults.output r.after.faults.output text done number
  pub tells_keep : (text : List ℕ) → text_about r.words ≡ Some text → SameInput × SameButOutput
  -- all other words are done
  pub does : text_about r.words ≡ None → Does said r SameInput SameButOutput SameLink SameDepot number
