-- What the device keeps, by what is told of the event.
use Rattle.protocol.specs.declared.events.Event.TheVariants as event
use Rattle.device_core.proofs.Told.{told-kept}
use Rattle.device_core.proofs.device.Device.arrive_into.Goals as goal

pub returns : goal.returns
returns c =
    let e = c.take_bytes_into.ensures in
    let kept = told-kept c.args.self.now c.take_bytes_into.new.self (event.Arrive c.args.from c.args.bytes.now) c.take_bytes_into.new.draft c.take_bytes_into.result e.done e.err in
    record {
      ok = e.done;
      bounded = e.bounded;
      id = kept.id;
      address = kept.address;
      never_out_of_memory = e.never_out_of_memory;
      touched = kept.touched c.bounds_turns.ensures tt;
      err = e.err;
    }
