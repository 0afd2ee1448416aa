use Rattle.protocol.proofs.Histories.{forgetting-nil, length-forgetting, kept_flight-forgetting, look-forgetting, pending-forgetting, sending-forgetting, sending-one_by_one, took-forgetting, losing-forgetting, forgetting-forgetting}
use Rattle.fabric.proofs.laws.nothing_asked_for_is_forgotten.Goals as goal

pub returns : goal.returns
returns c = record {
  nothing = forgetting-nil;
  count = length-forgetting;
  kept = kept_flight-forgetting;
  look = look-forgetting;
  pending = pending-forgetting;
  sending = sending-forgetting;
  one_by_one = sending-one_by_one;
  took = took-forgetting;
  losing = losing-forgetting;
  again = forgetting-forgetting;
}
