use Rattle.std.proofs.Common.{ap}
use Rattle.endpoint_core.specs.Answers.{link_after_row}
use Rattle.endpoint_core.specs.Ends.{link_in}
use Rattle.endpoint_core.proofs.Sendings.{ended-waits, packet-is, paused-waits, resumes, row-running, sent-running}
use Rattle.endpoint_core.proofs.end.EndLink.send.Goals as goal

pub returns-then-self-clause-row : goal.returns-then-self-clause-row
returns-then-self-clause-row c = λ pool same. ended-waits (link_in pool c.args.self.now) c.if-self.true

pub returns-then-self-clause-next : goal.returns-then-self-clause-next
returns-then-self-clause-next c = λ pool same. ap (λ r. link_after_row (link_in pool c.args.self.now) r) (ended-waits (link_in pool c.args.self.now) c.if-self.true)

pub returns-in-Running-clause-row : goal.returns-in-Running-clause-row
returns-in-Running-clause-row c = λ pool same. row-running pool c.args.self.now c.transmit.result c.if-self.false c.in-Running.is same c.transmit.ensures.row c.transmit.ensures.head

pub returns-in-Running-clause-packet : goal.returns-in-Running-clause-packet
returns-in-Running-clause-packet c = λ pool held domain same all. packet-is pool held domain c.args.self.now c.transmit.result same all c.transmit.ensures.row c.transmit.ensures.head

pub returns-in-Running-clause-next : goal.returns-in-Running-clause-next
returns-in-Running-clause-next c = λ pool same. sent-running pool c.args.self.now c.transmit.new.self c.if-self.false c.in-Running.is same c.transmit.ensures.numbers c.transmit.ensures.kept.items

pub returns-in-Paused-clause-row : goal.returns-in-Paused-clause-row
returns-in-Paused-clause-row c = λ pool same. paused-waits pool c.args.self.now c.if-self.false c.in-Paused.is

pub returns-in-Paused-clause-next : goal.returns-in-Paused-clause-next
returns-in-Paused-clause-next c = λ pool same. ap (λ r. link_after_row (link_in pool c.args.self.now) r) (paused-waits pool c.args.self.now c.if-self.false c.in-Paused.is)

pub returns-in-Resuming-clause-row : goal.returns-in-Resuming-clause-row
returns-in-Resuming-clause-row c = λ pool same. resumes pool c.args.self.now c.if-self.false c.in-Resuming.is

pub returns-in-Resuming-clause-next : goal.returns-in-Resuming-clause-next
returns-in-Resuming-clause-next c = λ pool same. ap (λ r. link_after_row (link_in pool c.args.self.now) r) (resumes pool c.args.self.now c.if-self.false c.in-Resuming.is)
