-- Images and contexts keep the same rules.
use Rattle.law_devices.proofs.Restoring.{moved-sound, restored-sound}
use Rattle.law_devices.proofs.Stopping.{contexts-lawful, image-lawful}
use Rattle.law_devices.proofs.device_sound.laws.images_keep_the_rules.Goals as goal

pub returns-clause-image : goal.returns-clause-image
returns-clause-image c = image-lawful

pub returns-clause-context : goal.returns-clause-context
returns-clause-context c = restored-sound

pub returns-clause-moved : goal.returns-clause-moved
returns-clause-moved c = moved-sound

pub returns-clause-device : goal.returns-clause-device
returns-clause-device c = contexts-lawful
