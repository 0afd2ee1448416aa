use Rattle.std.proofs.Common.{ap, sym}
use Rattle.dump_writer.specs.Writing.{Writing}
use Rattle.dump_writer.proofs.Given.{gives_run, none_wait}
use Rattle.dump_writer.proofs.writer.DumpWriter.give.Goals as goal

pub invariant_of-self-in-Some : goal.invariant_of-self-in-Some
invariant_of-self-in-Some c = (c.self.invariant.0, λ fits. c.self.invariant.1 (c.in-Some.ensures.fits c.self.inside.image.now fits))

pub returns-in-Some-clause-given : goal.returns-in-Some-clause-given
returns-in-Some-clause-given c =
    let none = none_wait c.self.inside.chunk c.as_slice.result.now c.self.inside.done c.is_empty.result c.as_slice.ensures.bytes c.is_empty.ensures c.if-not-is_empty.false in
    gives_run c.args.self.now _ _ _ _ _ _ (ap (λ (w : Writing). w.left) (sym c.self.view_is)) none (c.in-Some.ensures.given c.self.inside.image.now)
