-- Little is owed, and queues are short: what makes work stop in time.
use Rattle.std.specs.Prelude.{ℕ, ◌≤◌, ◌==◌, List, count_by, length}
use Rattle.packetless_machine.specs.Machine.{Machine}
use Rattle.law_simulation.specs.Stands.{Stands}
use Rattle.mailbox_rules.specs.declared.due.Due.{Due}
use Rattle.mailbox_rules.specs.Opening.{receiver_capacity}
use Rattle.mailbox_rules.specs.State.{Mail, context_at}
use Rattle.mailbox_rules.specs.Working.{context_of, most_polled}
use Rattle.law_mailbox.specs.Kept.{standing}

-- in each context no more of this is due than one poll makes due
abbrev pub IsLittle : ℕ → List Due → Type 0
IsLittle peers ds = (n : ℕ) → n ≤ peers → count_by (λ d. context_of d == n) ds ≤ most_polled

-- .. of what is owed
abbrev pub IsLittleOwed : ℕ → Mail → Type 0
IsLittleOwed peers m = IsLittle peers m.owed

-- no queue has more completions than the receiver's may have
abbrev pub AreQueuesShort : ℕ → Mail → Type 0
AreQueuesShort peers m = (machine : Machine) → Stands m.world machine → (n : ℕ) → n ≤ peers → length (standing machine (context_at n)) ≤ receiver_capacity
