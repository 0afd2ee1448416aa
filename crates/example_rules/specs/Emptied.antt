-- Devices that are emptied, and some that are not.
use Rattle.std.specs.Prelude.{List, [], ◌∷◌, ◌++◌, Some, None}
use Rattle.evac_rules.specs.declared.moves.StayReason.TheVariants.{PeerMoving, TooMany, NoTarget}
use Rattle.evac_rules.specs.Evacuation.{NoSuch, Stays, stop, restore, release}
use Rattle.evac_rules.specs.Evaluate.{Told}
use Rattle.protocol.specs.Script.{Settles}
use Rattle.protocol.specs.declared.events.WorldEvent.{WorldEvent}
use Rattle.protocol.specs.declared.events.WorldEvent.TheVariants.{Stop, Restore}
use Rattle.example_rules.specs.EvacuationOpening.{n_a, n_b, opening, write, go}

-- a write is under way
abbrev pub under_way : List WorldEvent
under_way = opening ++ write ∷ go ∷ []

-- b moves from 2 to 3, and 2 is empty
abbrev pub emptied : Told
emptied = record { steps = Settles ∷ stop n_b ∷ restore n_b 3 ∷ Settles ∷ []; moved = record { context = n_b; target = 3 } ∷ []; fault = None }

-- a is carried
abbrev pub partner_carried : List WorldEvent
partner_carried = opening ++ Stop n_a ∷ []

-- so b cannot leave
abbrev pub stays_as_partner_moves : Told
stays_as_partner_moves = record { steps = Settles ∷ stop n_b ∷ []; moved = []; fault = Some (Stays n_b PeerMoving) }

-- b came from 2, where its husk stands
abbrev pub came_from_there : List WorldEvent
came_from_there = opening ++ Stop n_b ∷ Restore n_b 3 ∷ []

-- so it cannot go back there, and stays on 3
abbrev pub stays_without_target : Told
stays_without_target = record {
  steps = Settles ∷ stop n_b ∷ restore n_b 2 ∷ release n_b 3 ∷ restore n_b 3 ∷ Settles ∷ [];
  moved = [];
  fault = Some (Stays n_b NoTarget);
}

-- no device has the id
abbrev pub no_device : Told
no_device = record { steps = []; moved = []; fault = Some NoSuch }

-- no husk may be left
abbrev pub stays_as_husks_are_many : Told
stays_as_husks_are_many = record { steps = Settles ∷ stop n_b ∷ []; moved = []; fault = Some (Stays n_b TooMany) }

-- the second target takes it
abbrev pub emptied_by_second_target : Told
emptied_by_second_target = record {
  steps = Settles ∷ stop n_b ∷ restore n_b 2 ∷ restore n_b 1 ∷ Settles ∷ [];
  moved = record { context = n_b; target = 1 } ∷ [];
  fault = None;
}
