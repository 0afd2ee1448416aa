use Rattle.std.proofs.Common.{arith, ◌≡◌, ◌∙◌, sym, true, false}
use Rattle.rdma_types.specs.Kinds.{is_read, kind_of}
use Rattle.packetless_machine.specs.Machine.{end_of, posted_at}
use Rattle.law_simulation.specs.Carries.{offers_of, repeat_steps}
use Rattle.trace_record.specs.Steps.{may_offer_rest}
use Rattle.trace_record.proofs.Learns.{added_none}
use Rattle.trace_record.proofs.Repeats.{repeats_by, repeats_no_read, repeats_none}
use Rattle.trace_record.proofs.Numbered.{added_as}
use Rattle.trace_record.proofs.trace_steps.requests.offer_again.Goals as goal

pub returns-then-not-is_read : goal.returns-then-not-is_read
returns-then-not-is_read c run =
    let m = c.args.machine.now in
    let read : is_read (kind_of (posted_at (end_of m c.args.q.now).posted c.args.i)) ≡ false = sym c.is_read_at-is_read.ensures ∙ c.if-not-is_read.true in
    added_none c.args.steps.now.items (repeat_steps m c.args.q.now c.args.i c.args.piece) (repeats_no_read m c.args.q.now c.args.i c.args.piece read)

pub returns-then-not-granted : goal.returns-then-not-granted
returns-then-not-granted c run =
    let m = c.args.machine.now in
    let denied : may_offer_rest m c.args.q.now c.args.i c.args.piece ≡ false = sym c.in_ok-granted.ensures ∙ c.if-not-granted.true in
    added_none c.args.steps.now.items (repeat_steps m c.args.q.now c.args.i c.args.piece) (repeats_none m c.args.q.now c.args.i c.args.piece denied run)

pub returns : goal.returns
returns c run =
    let m = c.args.machine.now in
    let read : is_read (kind_of (posted_at (end_of m c.args.q.now).posted c.args.i)) ≡ true = sym c.is_read_at-is_read.ensures ∙ c.if-not-is_read.false in
    let may : may_offer_rest m c.args.q.now c.args.i c.args.piece ≡ true = sym c.in_ok-granted.ensures ∙ c.if-not-granted.false in
    added_as c.offer.result c.args.steps.now.items (repeat_steps m c.args.q.now c.args.i c.args.piece) (offers_of c.args.q.now (end_of m c.args.q.now) c.args.i c.args.piece) c.offer.new.steps.items (repeats_by m c.args.q.now c.args.i c.args.piece read may) c.offer.ensures
