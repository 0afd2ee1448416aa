use Rattle.std.proofs.Common.{◌∙◌, ap, length, length-drop}
use Rattle.dump_reader.proofs.ReadSteps.{goes_on, slice_from, fewer, fault_of_step, stands_same}
use Rattle.dump_reader.proofs.Onward.{same_of_step, fault_of_went}
use Rattle.dump_reader.specs.Ahead.{weight}
use Rattle.dump_reader.proofs.read_progress.ReadProgress.go_one_step.Goals as goal

pub returns-in-Ok-clause-stands : goal.returns-in-Ok-clause-stands
returns-in-Ok-clause-stands c =
    let way = c.args.self.now in
    goes_on way c.args.bytes.now _ c.step.new.lists c.in-Ok.next c.step.new.c.place c.step.new.c.bytes.now c.requires.stands (slice_from c.args.bytes.now way.at) c.in-Ok.ensures.alike c.in-Ok.ensures.left.left c.in-Ok.ensures.left.fits

pub returns-in-Ok-clause-less : goal.returns-in-Ok-clause-less
returns-in-Ok-clause-less c =
    let way = c.args.self.now in
    fewer (length c.args.bytes.now) way.at c.step.new.c.place _ (length c.step.new.c.bytes.now) (weight way.place) (weight c.in-Ok.next) c.requires.stands.within (ap length (slice_from c.args.bytes.now way.at) ∙ length-drop way.at c.args.bytes.now) c.in-Ok.ensures.left.fits c.in-Ok.ensures.less

pub returns-in-Err-clause-same : goal.returns-in-Err-clause-same
returns-in-Err-clause-same c = λ wanting. stands_same c.args.self.now c.args.bytes.now c.step.new.lists c.requires.stands (same_of_step _ _ _ c.in-Err.fault c.in-Err.ensures wanting)

pub returns-in-Err-clause-fault : goal.returns-in-Err-clause-fault
returns-in-Err-clause-fault c =
    let way = c.args.self.now in
    fault_of_step way c.args.bytes.now _ c.in-Err.fault c.requires.stands (slice_from c.args.bytes.now way.at) (fault_of_went _ way.lists c.step.new.lists c.in-Err.fault c.in-Err.ensures)
