use Rattle.std.proofs.Common.{sym, ap, ◌∙◌}
use Rattle.script_lang.specs.Fields.{an_object}
use Rattle.script_lang.proofs.Nexts.{object_read}
use Rattle.script_lang.proofs.words.Words.short_object.Goals as goal

pub returns-clause-some : goal.returns-clause-some
returns-clause-some c =
    ap an_object (sym c.self.view_is)
    ∙ object_read c.self.inside.line.now c.self.inside.at c.in_ok-object.object c.in_ok-object.end c.in_ok-object.ensures.object
