use Rattle.roce_headers.specs.Packets.{packet}
use Rattle.responder.proofs.Middles.{middle-few, middle-place}
use Rattle.responder.proofs.Requests.{taken-read, taken-reserved, taken-sound}
use Rattle.responder.proofs.Responder.take_request.Goals as goal

pub take_middle-requires-clause-place : goal.take_middle-requires-clause-place
take_middle-requires-clause-place c = middle-place c.args.regions.now c.args.domain c.args.self.now c.args.recvs.now.items (packet c.args.d.now) _ _ c.requires.sound c.in-Some.ensures

pub take_middle-requires-clause-few : goal.take_middle-requires-clause-few
take_middle-requires-clause-few c = middle-few c.args.regions.now c.args.domain c.args.self.now c.args.recvs.now.items (packet c.args.d.now) _ _ c.requires.sound c.in-Some.ensures

pub returns-in-Some-clause-reply : goal.returns-in-Some-clause-reply
returns-in-Some-clause-reply c = (c.take_middle.ensures.taken c.args.domain c.args.qp c.args.recvs.now c.args.cq.now).reply

pub returns-in-Some-clause-receiver : goal.returns-in-Some-clause-receiver
returns-in-Some-clause-receiver c = (c.take_middle.ensures.taken c.args.domain c.args.qp c.args.recvs.now c.args.cq.now).receiver

pub returns-in-Some-clause-regions : goal.returns-in-Some-clause-regions
returns-in-Some-clause-regions c = (c.take_middle.ensures.taken c.args.domain c.args.qp c.args.recvs.now c.args.cq.now).regions

pub returns-in-Some-clause-unused : goal.returns-in-Some-clause-unused
returns-in-Some-clause-unused c = (c.take_middle.ensures.taken c.args.domain c.args.qp c.args.recvs.now c.args.cq.now).unused

pub returns-in-Some-clause-read : goal.returns-in-Some-clause-read
returns-in-Some-clause-read c = taken-read c.args.pool.now c.args.regions.now _ c.args.domain c.args.qp (packet c.args.d.now) _ c.args.self.now _ _ c.args.recvs.now _ c.args.cq.now _ c.are_keyed.ensures c.requires.fits c.take_middle.ensures.kept.same (c.take_middle.ensures.taken c.args.domain c.args.qp c.args.recvs.now c.args.cq.now)

pub returns-in-Some-clause-sound : goal.returns-in-Some-clause-sound
returns-in-Some-clause-sound c = taken-sound c.args.pool.now c.args.regions.now _ c.args.domain c.args.qp (packet c.args.d.now) _ c.args.self.now _ _ c.args.recvs.now _ c.args.cq.now _ c.are_keyed.ensures c.requires.fits c.take_middle.ensures.held c.requires.sound c.take_middle.ensures.kept.same (c.take_middle.ensures.taken c.args.domain c.args.qp c.args.recvs.now c.args.cq.now)

pub returns-in-Some-clause-reserved : goal.returns-in-Some-clause-reserved
returns-in-Some-clause-reserved c = taken-reserved c.args.pool.now c.args.regions.now c.args.domain c.args.qp (packet c.args.d.now) _ c.args.self.now _ _ c.args.recvs.now _ c.args.cq.now _ c.requires.fits c.requires.reserved (c.take_middle.ensures.taken c.args.domain c.args.qp c.args.recvs.now c.args.cq.now)

pub returns-in-None-clause-read : goal.returns-in-None-clause-read
returns-in-None-clause-read c = taken-read c.args.pool.now c.args.regions.now _ c.args.domain c.args.qp (packet c.args.d.now) _ c.args.self.now _ _ c.args.recvs.now _ c.args.cq.now _ c.are_keyed.ensures c.requires.fits c.take.ensures.kept.same c.take.ensures.taken

pub returns-in-None-clause-sound : goal.returns-in-None-clause-sound
returns-in-None-clause-sound c = taken-sound c.args.pool.now c.args.regions.now _ c.args.domain c.args.qp (packet c.args.d.now) _ c.args.self.now _ _ c.args.recvs.now _ c.args.cq.now _ c.are_keyed.ensures c.requires.fits c.take.ensures.held c.requires.sound c.take.ensures.kept.same c.take.ensures.taken

pub returns-in-None-clause-reserved : goal.returns-in-None-clause-reserved
returns-in-None-clause-reserved c = taken-reserved c.args.pool.now c.args.regions.now c.args.domain c.args.qp (packet c.args.d.now) _ c.args.self.now _ _ c.args.recvs.now _ c.args.cq.now _ c.requires.fits c.requires.reserved c.take.ensures.taken
