use Rattle.std.proofs.Common.{◌∙◌, sym, ap}
use Rattle.std.specs.Prelude.{nat_le, length, ◌∷◌, []}
use Rattle.rdma_types.specs.declared.answers.Refusal.TheVariants.{NumberTaken, TooMany}
use Rattle.rdma_types.specs.Causes.{first_cause, cause}
use Rattle.rdma_types.specs.Lists.{has_word}
use Rattle.context_core.proofs.FirstCause.{first-holds, first-passed, last-cause}
use Rattle.context_core.proofs.NamedLookups.{word-any}
use Rattle.context_core.proofs.domains.refusal.Goals as goal

pub returns-then-contains : goal.returns-then-contains
returns-then-contains c = λ d e. sym (first-holds NumberTaken (has_word c.args.name d.domains) _ (ap (has_word c.args.name) e ∙ (sym (word-any c.args.name c.args.domains.now.keys) ∙ (sym c.contains.ensures ∙ c.if-contains.true))))

pub returns : goal.returns
returns c = λ d e.
    c.then_some.ensures
    ∙ (last-cause TooMany (nat_le 64 c.len.result)
    ∙ (ap (λ n. first_cause (cause TooMany (nat_le 64 n) ∷ [])) (c.len.ensures.len ∙ sym (ap length e))
    ∙ sym (first-passed NumberTaken (has_word c.args.name d.domains) _ (ap (has_word c.args.name) e ∙ (sym (word-any c.args.name c.args.domains.now.keys) ∙ (sym c.contains.ensures ∙ c.if-contains.false))))))
