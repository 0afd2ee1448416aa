use Rattle.std.proofs.Common.{refl}
use Rattle.serve_rules.specs.Moving.{Kept}
use Rattle.serve_engine.proofs.Restores.{gave_back_on}
use Rattle.serve_engine.proofs.state.Server.finish.Goals as goal

pub returns-in-Ok : goal.returns-in-Ok
returns-in-Ok g c = (c.take_in.ensures, c.in-Ok.ensures.dumps, c.in-Ok.ensures.done)

pub returns-in-Err : goal.returns-in-Err
returns-in-Err g c =
    let k : Kept = record { dumps = g.S.Store.dumps c.args.store.now; claims = g.S.Store.claims c.args.store.now } in
    let k1 : Kept = record { dumps = g.S.Store.dumps c.finish.new.self; claims = g.S.Store.claims c.finish.new.self } in
    let k2 : Kept = record { dumps = g.S.Store.dumps c.give_back.new.store; claims = g.S.Store.claims c.give_back.new.store } in
    let claims = c.in-Err.ensures.same in
    let dumps = c.in-Err.ensures.dumps in
    (refl, gave_back_on k k1 k2 (cc) c.give_back.ensures)
