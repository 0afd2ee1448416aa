-- What is told of the event.
use Rattle.protocol.specs.declared.events.Event.TheVariants as event
use Rattle.device_core.specs.Done.{told_arrival, told_memory, told_sent}
use Rattle.device_core.proofs.Steps.{arrived-is_ok, told-answered, told-arrived}
use Rattle.device_core.proofs.Within.{stepped-within}
use Rattle.device_core.proofs.device.Device.arrive_at.Goals as goal

pub returns : goal.returns
returns c =
    let e = c.take_bytes-arrived.ensures in
    let new = c.take_bytes-arrived.new.self in
    let done = event.Arrive c.args.from c.args.bytes.now in
    let told = told-answered c.args.self.now new done c.told_arrival.result (told-arrived c.args.self.now new done c.take_bytes-arrived.result (told_sent c.told_arrival.result) c.told_arrival.ensures e.done e.bounded) in
    record {
      ok = told.ok;
      bounded = told.few;
      id = told.id;
      address = told.address;
      never_out_of_memory = λ nothing. arrived-is_ok c.take_bytes-arrived.result c.told_arrival.result c.told_arrival.ensures (e.never_out_of_memory nothing);
      touched = stepped-within c.args.self.now new done (told_memory (told_arrival c.take_bytes-arrived.result)) c.bounds_turns.ensures e.done tt;
      err = told.err;
    }
