-- Work that stops has done all that it can.
use Rattle.std.specs.Prelude.{ℕ, ◌≡◌, ◌≤◌, List, [], All, false, None}
use Rattle.packetless_machine.specs.Machine.{Machine}
use Rattle.law_simulation.specs.Stands.{Stands}
use Rattle.mailbox_rules.specs.declared.letters.Letter.{Letter}
use Rattle.mailbox_rules.specs.Calls.{send_fault}
use Rattle.mailbox_rules.specs.Histories.{Turn}
use Rattle.mailbox_rules.specs.State.{Mail, context_at, is_away}
use Rattle.mailbox_rules.specs.Working.{begun, may_be_done, most_steps, work_step, worked, working}
use Rattle.law_mailbox.specs.Answered.{IsFurnishedFor}
use Rattle.law_mailbox.specs.Calls.{IsSendAnswered}
use Rattle.law_mailbox.specs.Held.{IsHeld, MayBeSent}
use Rattle.law_mailbox.specs.Kept.{standing}

-- nothing is owed that can be done, and in a context that is not carried no completion stands
pub record IsWorkOver (peers : ℕ) (m : Mail) : Type 0 where
  pub none_owed : All (λ d. may_be_done m.world d ≡ false) m.owed
  pub none_standing : (machine : Machine) → Stands m.world machine → (n : ℕ) → n ≤ peers → is_away m.world n ≡ false → standing machine (context_at n) ≡ []

-- .. once there is no further step
abbrev pub StoppedWorkIsOver : Type 0
StoppedWorkIsOver = (peers : ℕ) → 1 ≤ peers → peers ≤ 8 → (ts : List Turn) (m : Mail) (n : ℕ) → IsHeld peers ts m → work_step (worked n (begun m)) ≡ None → IsWorkOver peers (worked n (begun m)).mail

-- a letter that may be sent is posted, unless the packet numbers of its end are used up, where the work before it stopped in time and
-- nothing was made since the opening
abbrev pub SendsAreAnsweredAfterWork : Type 0
SendsAreAnsweredAfterWork = (peers : ℕ) → 1 ≤ peers → peers ≤ 8 → (ts : List Turn) (m : Mail) (i : ℕ) (l : Letter) → MayBeSent l → IsHeld peers ts m → IsFurnishedFor peers (working m).world →
    work_step (worked most_steps (begun m)) ≡ None → send_fault (working m) i l.body ≡ None → IsSendAnswered (working m) i l
