-- What is held before the first call.
use Rattle.std.specs.Prelude.{ℕ, ◌≤◌, []}
use Rattle.mailbox_rules.specs.State.{made}
use Rattle.law_mailbox.specs.Held.{IsHeld}

-- with 1 to 8 senders it is held, and nothing is due
abbrev pub BeginningIsHeld : Type 0
BeginningIsHeld = (peers : ℕ) → 1 ≤ peers → peers ≤ 8 → IsHeld peers [] (made peers)
