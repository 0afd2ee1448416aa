-- Each event keeps a device sound.
use Rattle.law_devices.proofs.Law.{new-device, stays-sound}
use Rattle.law_devices.proofs.device_sound.laws.devices_stay_sound.Goals as goal

pub returns-clause-new : goal.returns-clause-new
returns-clause-new c = new-device

pub returns-clause-step : goal.returns-clause-step
returns-clause-step c = stays-sound
