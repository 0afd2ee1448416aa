use Rattle.std.proofs.Common.{◌∙◌, sym, ap}
use Rattle.std.specs.Prelude.{is_none}
use Rattle.rdma_types.specs.declared.answers.Refusal.TheVariants.{NoSuch}
use Rattle.context_core.specs.NewEnds.{lacks_parts}
use Rattle.context_core.proofs.FirstCause.{first-holds, first-passed}
use Rattle.context_core.proofs.new_ends.refusal.Goals as goal

pub returns-in_default : goal.returns-in_default
returns-in_default c = λ few. sym (first-holds NoSuch (lacks_parts c.args.domains.now.keys c.args.queues.now.entries c.args.new.now) _ (sym (c.parts_of.ensures.found few) ∙ ap is_none c.in_default.is))

pub returns : goal.returns
returns c = λ few. c.err.ensures.value ∙ (c.number_for.ensures.refused ∙ sym (first-passed NoSuch (lacks_parts c.args.domains.now.keys c.args.queues.now.entries c.args.new.now) _ (sym (c.parts_of.ensures.found few) ∙ ap is_none c.in-Some.is)))
