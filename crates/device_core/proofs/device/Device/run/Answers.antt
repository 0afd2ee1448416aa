-- An event that is no arrival sends few datagrams, and one that is no stop hands out no image.
use Rattle.std.proofs.Common.{◌∙◌, ap, subst, sym}
use Rattle.protocol.specs.declared.events.Event.TheVariants as event
use Rattle.device_core.specs.Done.{IsDone}
use Rattle.device_core.proofs.Steps.{done-arrived, done-transmitted, few-sent, no-image}
use Rattle.device_core.proofs.device.Device.run.Goals as goal

pub returns-in-MakeContext-clause-bounded : goal.returns-in-MakeContext-clause-bounded
returns-in-MakeContext-clause-bounded c = few-sent _ _ (event.MakeContext _) _ tt c.make_context.ensures

pub returns-in-MakeRegion-clause-bounded : goal.returns-in-MakeRegion-clause-bounded
returns-in-MakeRegion-clause-bounded c = few-sent _ _ (event.MakeRegion _ _ _ _ _) _ tt c.make_region.ensures

pub returns-in-MakeQp-clause-bounded : goal.returns-in-MakeQp-clause-bounded
returns-in-MakeQp-clause-bounded c = few-sent _ _ (event.MakeQp _ _ _ _ _ _) _ tt c.make_qp.ensures

pub returns-in-Stop-clause-bounded : goal.returns-in-Stop-clause-bounded
returns-in-Stop-clause-bounded c = few-sent _ _ (event.Stop _ _) _ tt c.stop.ensures.done

pub returns-in-Restore-clause-bounded : goal.returns-in-Restore-clause-bounded
returns-in-Restore-clause-bounded c = few-sent _ _ (event.Restore _) _ tt c.put_image.ensures

pub returns-in-Release-clause-bounded : goal.returns-in-Release-clause-bounded
returns-in-Release-clause-bounded c = few-sent _ _ (event.Release _) _ tt c.release.ensures.done

pub returns-in-MakeContext-clause-image : goal.returns-in-MakeContext-clause-image
returns-in-MakeContext-clause-image c = no-image _ _ (event.MakeContext _) _ tt c.make_context.ensures

pub returns-in-MakeRegion-clause-image : goal.returns-in-MakeRegion-clause-image
returns-in-MakeRegion-clause-image c = no-image _ _ (event.MakeRegion _ _ _ _ _) _ tt c.make_region.ensures

pub returns-in-MakeQp-clause-image : goal.returns-in-MakeQp-clause-image
returns-in-MakeQp-clause-image c = no-image _ _ (event.MakeQp _ _ _ _ _ _) _ tt c.make_qp.ensures

pub returns-in-Arrive-clause-done : goal.returns-in-Arrive-clause-done
returns-in-Arrive-clause-done c =
    subst (λ y. IsDone c.args.self.now y c.arrive.new.self c.told_memory.result) (sym (c.in-Arrive.is ∙ ap (event.Arrive c.in-Arrive.from) (sym c.as_slice.ensures)))
    (done-arrived c.args.self.now c.arrive.new.self c.in-Arrive.from c.as_slice.result.now c.arrive.result c.told_memory.result c.told_memory.ensures.told c.arrive.ensures.ok c.arrive.ensures.err)

pub returns-in-Arrive-clause-image : goal.returns-in-Arrive-clause-image
returns-in-Arrive-clause-image c = no-image c.args.self.now c.arrive.new.self (event.Arrive c.in-Arrive.from c.as_slice.result.now) c.told_memory.result tt (done-arrived c.args.self.now c.arrive.new.self c.in-Arrive.from c.as_slice.result.now c.arrive.result c.told_memory.result c.told_memory.ensures.told c.arrive.ensures.ok c.arrive.ensures.err)

pub returns-in-Transmit-clause-done : goal.returns-in-Transmit-clause-done
returns-in-Transmit-clause-done c =
    subst (λ y. IsDone c.args.self.now y c.transmit.new.self c.told_sent.result) (sym c.in-Transmit.is)
    (done-transmitted c.args.self.now c.transmit.new.self c.in-Transmit.end c.transmit.result c.told_sent.result c.told_sent.ensures c.transmit.ensures.ok c.transmit.ensures.refused_first c.transmit.ensures.err)

pub returns-in-Transmit-clause-bounded : goal.returns-in-Transmit-clause-bounded
returns-in-Transmit-clause-bounded c = few-sent c.args.self.now c.transmit.new.self (event.Transmit c.in-Transmit.end) c.told_sent.result tt (done-transmitted c.args.self.now c.transmit.new.self c.in-Transmit.end c.transmit.result c.told_sent.result c.told_sent.ensures c.transmit.ensures.ok c.transmit.ensures.refused_first c.transmit.ensures.err)

pub returns-in-Transmit-clause-image : goal.returns-in-Transmit-clause-image
returns-in-Transmit-clause-image c = no-image c.args.self.now c.transmit.new.self (event.Transmit c.in-Transmit.end) c.told_sent.result tt (done-transmitted c.args.self.now c.transmit.new.self c.in-Transmit.end c.transmit.result c.told_sent.result c.told_sent.ensures c.transmit.ensures.ok c.transmit.ensures.refused_first c.transmit.ensures.err)

pub returns-in-Restore-clause-image : goal.returns-in-Restore-clause-image
returns-in-Restore-clause-image c = no-image _ _ (event.Restore _) _ tt c.put_image.ensures

pub returns-in-Release-clause-image : goal.returns-in-Release-clause-image
returns-in-Release-clause-image c = no-image _ _ (event.Release _) _ tt c.release.ensures.done
