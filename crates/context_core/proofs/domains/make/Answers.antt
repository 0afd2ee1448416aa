use Rattle.std.proofs.Common.{◌∙◌, sym, ap, refl, ◌≡◌, false}
use Rattle.std.specs.Prelude.{◌++◌, ◌∷◌, [], None, if◌then◌else◌, bytes_eq}
use Rattle.std.specs.List.{list_any}
use Rattle.std.proofs.lemmas.Result.{IfOk-at_ok}
use Rattle.rdma_types.specs.Causes.{first_cause}
use Rattle.rdma_types.specs.declared.answers.Refusal.TheVariants.{NumberTaken}
use Rattle.rdma_types.specs.Lists.{has_word}
use Rattle.protocol.specs.State.{no_context}
use Rattle.context_core.proofs.NamedLookups.{word-any}
use Rattle.context_core.proofs.FirstCause.{none-here}
use Rattle.context_core.specs.Causes.{domain_causes}
use Rattle.context_core.proofs.domains.make.Goals as goal

pub returns-clause-made : goal.returns-clause-made
returns-clause-made c =
    let none : first_cause (domain_causes (record no_context { domains = c.args.domains.now.keys }) c.args.name) ≡ None = sym (c.refusal.ensures (record no_context { domains = c.args.domains.now.keys }) refl) ∙ c.in_default.is in
    let lacks : list_any (bytes_eq c.args.name) c.args.domains.now.keys ≡ false = word-any c.args.name c.args.domains.now.keys ∙ none-here NumberTaken (has_word c.args.name c.args.domains.now.keys) _ none in
    let keys = IfOk-at_ok (λ r. c.insert.new.self.keys ≡ (if list_any (bytes_eq c.args.name) c.reserve.new.self.keys then c.reserve.new.self.keys else c.reserve.new.self.keys ++ c.args.name ∷ [])) c.unwrap.ensures c.insert.ensures.keys in
    keys ∙ (ap (λ ks. if list_any (bytes_eq c.args.name) ks then ks else ks ++ c.args.name ∷ []) c.reserve.ensures.keys ∙ ap (λ b. if b then c.args.domains.now.keys else c.args.domains.now.keys ++ c.args.name ∷ []) lacks)
