use Rattle.example_rules.specs.OwnDevices.{opening}
use Rattle.example_rules.proofs.OwnDevices.{devices_are, each_is, prepared}
use Rattle.example_rules.proofs.orders.own_devices_are_prepared.Goals as goal

pub returns-clause-prepared : goal.returns-clause-prepared
returns-clause-prepared c = prepared

pub returns-clause-opened : goal.returns-clause-opened
returns-clause-opened c = c.prepared_worlds_are_openings.ensures opening prepared

pub returns-clause-devices : goal.returns-clause-devices
returns-clause-devices c = devices_are

pub returns-clause-one_by_one : goal.returns-clause-one_by_one
returns-clause-one_by_one c = each_is
