use Rattle.std.proofs.Common.{arith, ◌≡◌, ◌<◌, subst}
use Rattle.packetless_machine.specs.Legal.{IsRun}
use Rattle.packetless_machine.specs.Machine.{end_of}
use Rattle.packetless_machine.specs.Numbers.{due}
use Rattle.law_simulation.specs.Carries.{due_steps, piece_at, repeat_steps, request_at, request_steps}
use Rattle.trace_record.proofs.Learns.{added_none}
use Rattle.trace_record.proofs.Numbered.{added_as, request_again, request_ahead, request_due, told_due, told_none}
use Rattle.trace_record.proofs.trace_steps.requests.request.Goals as goal

pub returns-in_default : goal.returns-in_default
returns-in_default c run = absurd (told_none (end_of c.args.machine.now c.args.q.now).connected (due (end_of c.args.machine.now c.args.q.now)) c.requires.connected c.in_default.ensures)

pub returns-then-n-due : goal.returns-then-n-due
returns-then-n-due c run =
    let m = c.args.machine.now in
    let q = c.args.q.now in
    let d : c.in-Some.due ≡ due (end_of m q) = told_due (end_of m q).connected (due (end_of m q)) c.in-Some.due c.requires.connected c.in-Some.ensures in
    added_as c.act.result c.args.steps.now.items (request_steps m q c.args.n c.args.bytes) (due_steps m q c.args.bytes) c.act.new.steps.items (request_due m q c.args.n c.args.bytes (omega (arith, d, c.if-n-due.true))) c.act.ensures

pub returns-then-n-due-2 : goal.returns-then-n-due-2
returns-then-n-due-2 c run =
    let m = c.args.machine.now in
    let q = c.args.q.now in
    let d : c.in-Some.due ≡ due (end_of m q) = told_due (end_of m q).connected (due (end_of m q)) c.in-Some.due c.requires.connected c.in-Some.ensures in
    let again = request_again m q c.args.n c.args.bytes (omega (arith, d, c.if-n-due-2.true)) in
    added_as c.repeat.result c.args.steps.now.items (request_steps m q c.args.n c.args.bytes) (repeat_steps m q (request_at (end_of m q) c.args.n) (piece_at (end_of m q) c.args.n)) c.repeat.new.steps.items again (c.repeat.ensures (subst (IsRun m) again run))

pub returns : goal.returns
returns c run =
    let m = c.args.machine.now in
    let q = c.args.q.now in
    let d : c.in-Some.due ≡ due (end_of m q) = told_due (end_of m q).connected (due (end_of m q)) c.in-Some.due c.requires.connected c.in-Some.ensures in
    added_none c.args.steps.now.items (request_steps m q c.args.n c.args.bytes) (request_ahead m q c.args.n c.args.bytes (omega (arith, d, c.if-n-due.false, c.if-n-due-2.false)))
