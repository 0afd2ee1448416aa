use Rattle.device_differences.proofs.Told.{device-tells}
use Rattle.device_differences.proofs.laws.differences_tell_devices_apart.Goals as goal

pub returns : goal.returns
returns c = record { none = λ x y. ((device-tells x y).none, (device-tells x y).same); some = λ x y. (device-tells x y).differ }
