use Rattle.dump_writer.specs.Text.{text_of}
use Rattle.commands.proofs.Complete.{due}
use Rattle.commands.proofs.serial.run_serial.Goals as goal

pub returns-clause-due : goal.returns-clause-due
returns-clause-due g c =
    due text_of _ c.run.result c.run.ensures.ends (c.no_generated_line_is_bad.ensures.not_asked _) c.what_is_told_decides_a_run.ensures.whole
