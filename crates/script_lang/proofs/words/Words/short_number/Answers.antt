use Rattle.std.proofs.Common.{sym, ap, ◌∙◌}
use Rattle.script_lang.specs.Fields.{a_number}
use Rattle.script_lang.proofs.Nexts.{number_read}
use Rattle.script_lang.proofs.words.Words.short_number.Goals as goal

pub returns-clause-some : goal.returns-clause-some
returns-clause-some c =
    ap (a_number c.args.low c.args.high) (sym c.self.view_is)
    ∙ number_read c.self.inside.line.now c.self.inside.at c.in_ok-n.n c.in_ok-n.end c.args.low c.args.high c.in_ok-n.ensures.number c.if-n-low.false c.if-high-n.false
