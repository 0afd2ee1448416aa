-- Work stops in time: within the steps that one call may make.
use Rattle.std.specs.Prelude.{ℕ, ◌≡◌, ◌≤◌, List, None}
use Rattle.mailbox_rules.specs.Histories.{Turn}
use Rattle.mailbox_rules.specs.State.{Mail}
use Rattle.mailbox_rules.specs.Working.{begun, most_steps, work_step, worked}
use Rattle.law_mailbox.specs.Held.{IsHeld}
use Rattle.law_mailbox.specs.Short.{AreQueuesShort, IsLittleOwed}

-- any steps of work leave it so that little is owed: a context is polled where nothing that is owed in it can be done
abbrev pub DueWorkIsBounded : Type 0
DueWorkIsBounded = (peers : ℕ) → 1 ≤ peers → peers ≤ 8 → (ts : List Turn) (m : Mail) (n : ℕ) → IsHeld peers ts m → IsLittleOwed peers m → IsLittleOwed peers (worked n (begun m)).mail

-- then work is over before its steps are used up
abbrev pub WorkStopsInTime : Type 0
WorkStopsInTime = (peers : ℕ) → 1 ≤ peers → peers ≤ 8 → (ts : List Turn) (m : Mail) → IsHeld peers ts m → IsLittleOwed peers m → AreQueuesShort peers m → work_step (worked most_steps (begun m)) ≡ None
