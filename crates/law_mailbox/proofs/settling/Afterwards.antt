-- A letter that may be sent is posted, where the work before it stopped in time.
use Rattle.std.proofs.Common.{◌≡◌, ◌≤◌, [], sym, subst}
use Rattle.law_simulation.specs.Named.{EventsFollowByName}
use Rattle.mailbox_rules.specs.Working.{most_steps, working}
use Rattle.rdma_types.specs.declared.names.Name.{Name}
use Rattle.law_mailbox.specs.Answered.{SendsAreAnswered}
use Rattle.law_mailbox.specs.Held.{IsHeld}
use Rattle.law_mailbox.specs.Kept.{standing}
use Rattle.law_mailbox.specs.Over.{IsWorkOver, SendsAreAnsweredAfterWork, StoppedWorkIsOver}
use Rattle.law_mailbox.proofs.work.Staged.{MaySend, is_worked, may_send, sender_among, worked_before}
use Rattle.law_mailbox.proofs.work.Worked.{context_is}

pub answered_after_work : EventsFollowByName → SendsAreAnswered → StoppedWorkIsOver → SendsAreAnsweredAfterWork
answered_after_work follow answered stops peers low small ts m i l may h furnished stopped fault =
    let held : IsHeld peers ts (working m) = worked_before follow peers small ts m h in
    let over : IsWorkOver peers (working m) = subst (IsWorkOver peers) (sym (is_worked m)) (stops peers low small ts m most_steps h stopped) in
    let free : MaySend (working m) i l.body = may_send (working m) i l.body fault in
    let among : (1 ≤ i) × (i ≤ peers) = sender_among peers ts (working m) i held free.there in
    answered peers small ts (working m) i l may held furnished
    (subst (λ (c : Name). standing held.machine c ≡ []) (context_is i among.0) (over.none_standing held.machine held.stands i among.1 free.home)) fault
