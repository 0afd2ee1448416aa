use Rattle.std.proofs.Common.{inl, refl}
use Rattle.serve_engine.proofs.ReadLines.{line_done, no_memory}
use Rattle.serve_engine.proofs.state.Server.read_line.Goals as goal

pub returns-in-Ok : goal.returns-in-Ok
returns-in-Ok g c = line_done _ c.in-Ok.line c.args.self.now c.do_line.new.self c.do_line.result _ _ c.in-Ok.ensures.value c.do_line.ensures

pub returns-in-Err-Bad : goal.returns-in-Err-Bad
returns-in-Err-Bad g c =
    let e = rw c.in-Err-Bad.field-0-is at c.in-Err-Bad.ensures.value in
    rw (e, c.in-Err-Bad.field-0-is) (inl refl, refl, refl)

pub returns-in-Err-OutOfMemory : goal.returns-in-Err-OutOfMemory
returns-in-Err-OutOfMemory g c = no_memory _ c.args.self.now _
