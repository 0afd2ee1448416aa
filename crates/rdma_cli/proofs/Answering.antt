-- What the program does, by whether its words ask for a text.
use Rattle.std.proofs.Common.{◌≡◌, ℕ, List, Option, Some, None, subst}
use Rattle.program_rules.specs.Headline.{ImageText}
use Rattle.program_rules.specs.Runs.{Run}
use Rattle.tools.specs.Does.{Does}
use Rattle.tools.specs.Endings.{IsWritten, done}
use Rattle.rdma_cli.specs.About.{text_about}
use Rattle.rdma_cli.specs.Running.{Responds}

none_or_some : {A P : Type 0} (x : Option A) (a : A) → x ≡ None → x ≡ Some a → P
none_or_some x a h k = absurd cc

one_text : (x : Option (List ℕ)) (a b : List ℕ) → x ≡ Some a → x ≡ Some b → a ≡ b
one_text x a b h k = cc

module _ (said : ImageText) (r : Run) (SameInput SameButOutput SameLink SameDepot : Type 0) (n : ℕ) where
  pub text_told : (text : List ℕ) → text_about r.words ≡ Some text → IsWritten r.before.written r.after.written r.before.faults.output r.after.faults.output text done n → SameInput → SameButOutput → Responds said r SameInput SameButOutput SameLink SameDepot n
  text_told text asked told input rest = record {
    tells = λ t k. subst (λ x. IsWritten r.before.written r.after.written r.before.faults.output r.after.faults.output x done n) (one_text (text_about r.words) text t asked k) told;
    tells_keep = λ t k. (input, rest);
    does = λ none. none_or_some (text_about r.words) text none asked;
  }

  pub words_done : text_about r.words ≡ None → Does said r SameInput SameButOutput SameLink SameDepot n → Responds said r SameInput SameButOutput SameLink SameDepot n
  words_done none does = record {
    tells = λ t k. none_or_some (text_about r.words) t none k;
    tells_keep = λ t k. none_or_some (text_about r.words) t none k;
    does = λ k. does;
  }
