use Rattle.std.proofs.Common.{rules}
use Rattle.host_ports.specs.Links.{Addressed}
use Rattle.serve_engine.proofs.FromLink.{taken_one}
use Rattle.serve_engine.proofs.state.Server.take.Goals as goal

pub returns-in_ok-push_back-in-Ok-Datagram : goal.returns-in_ok-push_back-in-Ok-Datagram
returns-in_ok-push_back-in-Ok-Datagram g c =
    let d : Addressed = (c.in-Ok-Datagram.from, c.in_ok-bytes-in-Ok-Datagram.bytes.items) in
    let t = rw c.in-Ok-Datagram.field-0-is at c.in-Ok-Datagram.ensures.taken in
    let e = c.in_ok-bytes-in-Ok-Datagram.ensures in
    let p = c.in_ok-push_back-in-Ok-Datagram.ensures.items in
    taken_one c.args.self.now _ _ _ d (rw e.items t) (search rules)
