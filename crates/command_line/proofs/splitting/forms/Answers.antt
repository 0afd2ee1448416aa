use Rattle.std.proofs.Common.{ap, ap₂, ◌∙◌, ◌≡◌, true}
use Rattle.std.proofs.lemmas.Result.{IfOk-weaker}
use Rattle.clap.specs.Words.{App, Shape, app_of, with_subcommand}
use Rattle.clap.specs.Simple.{app_of_fields}
use Rattle.clap.specs.declared.builder.command.Command.{Command}
use Rattle.clap.specs.declared.builder.command.Command.TheOpen.{Command-F}
use Rattle.command_line.specs.Splitting.{bare_app}
use Rattle.command_line.proofs.splitting.forms.Goals as goal

abbrev top_of : App → Shape
top_of a = a.top

pub returns : goal.returns
returns c =
    let bare : app_of c.subcommand_required.result ≡ bare_app =
    ap app_of_fields c.subcommand_required.ensures
    ∙ ap (λ (f : Command-F Command). app_of_fields (record f { subcommand_required = true })) c.disable_help_subcommand.ensures
    ∙ ap (λ (f : Command-F Command). app_of_fields (record f { disable_help_subcommand = true; subcommand_required = true })) c.disable_help_flag.ensures
    ∙ ap (λ (f : Command-F Command). app_of_fields (record f { disable_help_flag = true; disable_help_subcommand = true; subcommand_required = true })) c.no_binary_name.ensures
    ∙ ap (λ (a : App). record a { top = record a.top { no_binary_name = true; disable_help_flag = true; disable_help_subcommand = true; subcommand_required = true } }) c.new.ensures.app in
    IfOk-weaker c.subcommand-6.result _ _ (λ r h. h.shape c.in_ok-node_form.ensures.1
    ∙ ap₂ with_subcommand (c.in_ok-subcommand-5.ensures.shape c.record_form.ensures.1
    ∙ ap₂ with_subcommand (c.in_ok-subcommand-4.ensures.shape c.audit_form.ensures.1
    ∙ ap₂ with_subcommand (c.in_ok-subcommand-3.ensures.shape c.in_ok-show_dump_form.ensures.1
    ∙ ap₂ with_subcommand (c.in_ok-subcommand-2.ensures.shape c.in_ok-bulk_form.ensures.1
    ∙ ap₂ with_subcommand (c.in_ok-subcommand.ensures.shape c.play_form.ensures.1
    ∙ ap₂ with_subcommand bare (ap top_of c.play_form.ensures.0)) (ap top_of c.in_ok-bulk_form.ensures.0)) (ap top_of c.in_ok-show_dump_form.ensures.0)) (ap top_of c.audit_form.ensures.0)) (ap top_of c.record_form.ensures.0)) (ap top_of c.in_ok-node_form.ensures.0)) c.subcommand-6.ensures
