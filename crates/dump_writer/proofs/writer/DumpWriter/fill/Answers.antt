use Rattle.std.proofs.Common.{refl, ◌∙◌}
use Rattle.dump_writer.proofs.Given.{gives_more}
use Rattle.dump_writer.proofs.writer.DumpWriter.fill.Goals as goal

pub loop-filled-preserved : goal.loop-filled-preserved
loop-filled-preserved c = record {
  image = c.give-count.ensures.image ∙ c.loop-filled.invariant.image;
  given = gives_more _ _ _ _ _ _ _ _ _ c.loop-filled.invariant.given c.give-count.ensures.given refl c.loop-filled.auto.out;
}
