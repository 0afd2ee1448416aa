use Rattle.std.proofs.Common.{Err, ap}
use Rattle.serve_rules.specs.Moving.{Kept}
use Rattle.serve_engine.proofs.Restores.{not_claimed, restore_made}
use Rattle.serve_engine.proofs.state.Server.restore.Goals as goal

pub returns-in-Ok : goal.returns-in-Ok
returns-in-Ok g c =
    let k : Kept = record { dumps = g.S.Store.dumps c.args.store.now; claims = g.S.Store.claims c.args.store.now } in
    let k1 : Kept = record { dumps = g.S.Store.dumps c.claim.new.self; claims = g.S.Store.claims c.claim.new.self } in
    let k2 : Kept = record { dumps = g.S.Store.dumps c.restore_claimed.new.store; claims = g.S.Store.claims c.restore_claimed.new.store } in
    restore_made c.args.self.now c.restore_claimed.new.self c.args.file c.in-Ok.bytes.items c.restore_claimed.result k k1 k2
    c.in-Ok.ensures.found c.in-Ok.ensures.out c.in-Ok.ensures.claimed (rw c.as_slice.ensures.value at c.restore_claimed.ensures)

pub returns-in-Err : goal.returns-in-Err
returns-in-Err g c =
    let k : Kept = record { dumps = g.S.Store.dumps c.args.store.now; claims = g.S.Store.claims c.args.store.now } in
    let k' : Kept = record { dumps = g.S.Store.dumps c.claim.new.self; claims = g.S.Store.claims c.claim.new.self } in
    let dumps = c.in-Err.ensures.same in
    let claims = c.in-Err.ensures.same_claims in
    rw c.fault_reply.ensures (not_claimed c.args.self.now c.args.file c.in-Err.fault k k' (cc) (λ e. c.in-Err.ensures.missing (ap Err e)))
