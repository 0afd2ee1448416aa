use Rattle.std.proofs.Common.{◌∙◌}
use Rattle.script_lang.proofs.Splitting.{space_passed}
use Rattle.script_lang.proofs.words.past_spaces.Goals as goal

pub loop-i-preserved : goal.loop-i-preserved
loop-i-preserved c = space_passed c.args.line.now c.loop-i.i c.loop-i-test.true c.if-line-i-ne32.false ∙ c.loop-i.invariant
