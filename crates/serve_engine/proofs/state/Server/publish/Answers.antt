use Rattle.std.proofs.Common.{Err, ap}
use Rattle.serve_rules.specs.Moving.{Kept}
use Rattle.serve_engine.proofs.Moves.{not_published}
use Rattle.serve_engine.proofs.state.Server.publish.Goals as goal

pub returns-in-Err : goal.returns-in-Err
returns-in-Err g c =
    let k : Kept = record { dumps = g.S.Store.dumps c.args.store.now; claims = g.S.Store.claims c.args.store.now } in
    let k' : Kept = record { dumps = g.S.Store.dumps c.publish.new.self; claims = g.S.Store.claims c.publish.new.self } in
    let dumps = c.in-Err.ensures.same in
    let claims = c.in-Err.ensures.claims in
    rw c.fault_reply.ensures (not_published c.args.self.now c.args.leaving c.args.file c.in-Err.fault k k' (cc) (λ e. c.in-Err.ensures.taken (ap Err e)))
