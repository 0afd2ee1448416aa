use Rattle.std.proofs.Common.{ap₂, ◌∙◌, ◌||◌, Bool}
use Rattle.std.proofs.lemmas.Result.{IfOk-weaker}
use Rattle.clap.specs.Words.{with_rule}
use Rattle.command_line.proofs.splitting.node_form.Goals as goal

pub returns : goal.returns
returns c =
    let either = λ (x y : Bool). x || y in
    IfOk-weaker c.arg-2.result _ _ (λ r h. (
      h.shape c.place-2.ensures.local
          ∙ ap₂ with_rule (c.in_ok-arg.ensures.shape c.place.ensures.local
          ∙ ap₂ with_rule c.new.ensures.app c.place.ensures.rule) c.place-2.ensures.rule,
      h.globals
          ∙ ap₂ either (c.in_ok-arg.ensures.globals
          ∙ ap₂ either c.new.ensures.local c.place.ensures.local) c.place-2.ensures.local,
    )) c.arg-2.ensures
