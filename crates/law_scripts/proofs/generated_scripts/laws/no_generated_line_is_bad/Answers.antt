use Rattle.law_scripts.proofs.Bad.{command_not_stopped, none_stopped, plan_none_bad}
use Rattle.law_scripts.proofs.generated_scripts.laws.no_generated_line_is_bad.Goals as goal

pub returns-clause-good : goal.returns-clause-good
returns-clause-good c =
    plan_none_bad (record { number = c.what_is_printed_reads_back.ensures.number; object = c.what_is_printed_reads_back.ensures.object })

pub returns-clause-not_stopped : goal.returns-clause-not_stopped
returns-clause-not_stopped c =
    none_stopped (record { number = c.what_is_printed_reads_back.ensures.number; object = c.what_is_printed_reads_back.ensures.object })

pub returns-clause-not_asked : goal.returns-clause-not_asked
returns-clause-not_asked c =
    command_not_stopped (record { number = c.what_is_printed_reads_back.ensures.number; object = c.what_is_printed_reads_back.ensures.object })
