use Rattle.std.proofs.Common.{◌∙◌, refl, sym}
use Rattle.dump_writer.specs.Text.{text_of}
use Rattle.tools.proofs.Doing.{fanout_does, mail_does, serial_does, threads_does}
use Rattle.tools.proofs.tool.tool.run_words.Goals as goal

pub returns-in-Some : goal.returns-in-Some
returns-in-Some g c =
    threads_does text_of _ _ _ _ _ c.run_plan.result c.in-Some.plan (sym c.threads_of.ensures.value ∙ c.in-Some.is) c.run_plan.ensures refl refl

pub returns-in-Some-fanout_of : goal.returns-in-Some-fanout_of
returns-in-Some-fanout_of g c =
    fanout_does text_of _ _ _ _ _ c.run_fan_plan.result (sym c.threads_of.ensures.value ∙ c.in_default.is) c.in-Some-fanout_of.plan (sym c.fanout_of.ensures.value ∙ c.in-Some-fanout_of.is) c.run_fan_plan.ensures refl refl

pub returns-in-Some-mail_of : goal.returns-in-Some-mail_of
returns-in-Some-mail_of g c =
    mail_does text_of _ _ _ _ _ c.run_mail_plan.result (sym c.threads_of.ensures.value ∙ c.in_default.is) (sym c.fanout_of.ensures.value ∙ c.in_default-fanout_of.is) c.in-Some-mail_of.plan (sym c.mail_of.ensures.value ∙ c.in-Some-mail_of.is) c.run_mail_plan.ensures refl refl

pub returns : goal.returns
returns g c =
    serial_does text_of _ _ _ _ _ c.run_serial.result (sym c.threads_of.ensures.value ∙ c.in_default.is) (sym c.fanout_of.ensures.value ∙ c.in_default-fanout_of.is) (sym c.mail_of.ensures.value ∙ c.in_default-mail_of.is)
    c.run_serial.ensures.ends c.run_serial.ensures.due c.run_serial.ensures.kept_input c.run_serial.ensures.kept_link c.run_serial.ensures.kept_depot
