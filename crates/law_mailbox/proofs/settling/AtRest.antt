-- After any calls work does all that it can, and what is held stays held.
use Rattle.std.proofs.Common.{ℕ, ◌≤◌, List, sym, subst}
use Rattle.mailbox_rules.specs.Histories.{Turn}
use Rattle.mailbox_rules.specs.State.{Mail, made}
use Rattle.mailbox_rules.specs.Theorem.{IsReached}
use Rattle.mailbox_rules.specs.Working.{most_steps, working}
use Rattle.law_mailbox.specs.AlwaysFew.{WorkAlwaysFindsRoom}
use Rattle.law_mailbox.specs.Calls.{WorksAreKept}
use Rattle.law_mailbox.specs.Held.{IsHeld}
use Rattle.law_mailbox.specs.Over.{IsWorkOver, StoppedWorkIsOver}
use Rattle.law_mailbox.specs.Reached.{AllIsPosted}
use Rattle.law_mailbox.specs.Ready.{IsReadyMail}
use Rattle.law_mailbox.specs.Stops.{WorkStopsInTime}
use Rattle.law_mailbox.proofs.opening.Furnishing.{queues_short}
use Rattle.law_mailbox.proofs.work.Chains.{to_work}
use Rattle.law_mailbox.proofs.work.Staged.{is_worked}

pub record IsAtRest (peers : ℕ) (ts : List Turn) (m : Mail) : Type 0 where
  pub before : IsHeld peers ts m
  pub ready : IsReadyMail peers m
  pub held : IsHeld peers ts (working m)
  pub over : IsWorkOver peers (working m)

pub at_rest : AllIsPosted → WorkAlwaysFindsRoom → WorkStopsInTime → StoppedWorkIsOver → WorksAreKept → (peers : ℕ) → 1 ≤ peers → peers ≤ 8 → (ts : List Turn) (m : Mail) → IsReached (made peers) ts m → IsAtRest peers ts m
at_rest posted finds stops over works peers low small ts m reached =
    let b = posted peers low small (finds peers low small) ts m reached in
    let h : IsHeld peers ts m = to_work peers ts m b.held.machine b.held.held in
    record {
      before = h;
      ready = b.ready;
      held = subst (IsHeld peers ts) (sym (is_worked m)) (works peers small ts m most_steps h);
      over = subst (IsWorkOver peers) (sym (is_worked m)) (over peers low small ts m most_steps h (stops peers low small ts m h b.ready.little (queues_short peers m b.ready.furnished)));
    }
