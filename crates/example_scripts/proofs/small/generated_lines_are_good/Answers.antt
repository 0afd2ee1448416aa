use Rattle.std.specs.Fmt.{digits}
use Rattle.std.specs.Prelude.{refl}
use Rattle.law_headline.specs.Evaluate.{said_in}
use Rattle.workload_gen.specs.Plan as plan
use Rattle.example_scripts.proofs.small.generated_lines_are_good.Goals as goal

pub returns : goal.returns
unfolding said_in digits plan.opening_lines plan.devices_text plan.contexts_text plan.things_text plan.connections_lines plan.connection_lines plan.terms_text
    plan.message_lines plan.posting_lines plan.sending_lines plan.polling_lines plan.transfer_lines
returns c = refl
