-- How many steps of work are still to come: each thing that is owed and each completion that stands in a queue has a weight.
use Rattle.std.proofs.Common.{◌≡◌, ℕ, ◌+◌, ◌-◌, List, ◌++◌, length, length-append, arith, ap, ◌∙◌}
use Rattle.std.specs.Prelude.{sum_by}
use Rattle.std.proofs.lemmas.List.Sums.{sum_by-append}
use Rattle.rdma_types.specs.declared.requests.Completion.{Completion}
use Rattle.protocol.specs.State.{World}
use Rattle.mailbox_rules.specs.declared.due.Due.{Due}
use Rattle.mailbox_rules.specs.declared.due.Due.TheVariants as due
use Rattle.mailbox_rules.specs.State.{context_at}
use Rattle.mailbox_rules.specs.Working.{Working}
use Rattle.law_mailbox.specs.Kept.{dues_of}
use Rattle.law_mailbox.proofs.work.Leaving.{waiting}
use Rattle.law_mailbox.proofs.connection.Longer.{dues_both}
use Rattle.law_mailbox.proofs.queue_room.Totals.{total}

-- one where it posts something: an end that has ended completes that at once
abbrev pub flushes : Due → ℕ
flushes (due.CopyMessage i place length') = 0
flushes (due.Repost i place fetch) = 1
flushes (due.PostRead i fetch) = 1
flushes (due.CopyBody i length') = 0
flushes (due.PostFree i) = 1
flushes (due.FreeSlot i place) = 0
flushes (due.RepostAtSender i place) = 1

-- it is done, what is due then is done, and completions of what was posted are polled
abbrev pub due_steps : Due → ℕ
due_steps (due.CopyMessage i place length') = 5
due_steps (due.Repost i place fetch) = 4
due_steps (due.PostRead i fetch) = 2
due_steps (due.CopyBody i length') = 3
due_steps (due.PostFree i) = 2
due_steps (due.FreeSlot i place) = 3
due_steps (due.RepostAtSender i place) = 2

abbrev pub owed_steps : List Due → ℕ
owed_steps ds = sum_by due_steps ds

-- completions of context n are polled, and what they make due is done
abbrev pub queue_steps : ℕ → List Completion → ℕ
queue_steps n xs = length xs + owed_steps (dues_of n xs)

abbrev pub waiting_steps : World → ℕ → ℕ
waiting_steps w n = queue_steps n (waiting w (context_at n))

-- all of them, and a poll of each context that is still to be polled
abbrev pub steps_left : ℕ → Working → ℕ
steps_left peers w = owed_steps w.mail.owed + (total (waiting_steps w.mail.world) peers + (peers + 1 - w.next))

pub queue_both : (n : ℕ) (xs ys : List Completion) → queue_steps n (xs ++ ys) ≡ queue_steps n xs + queue_steps n ys
queue_both n xs ys =
    let dues : owed_steps (dues_of n (xs ++ ys)) ≡ owed_steps (dues_of n xs) + owed_steps (dues_of n ys) = ap owed_steps (dues_both n xs ys) ∙ sum_by-append due_steps (dues_of n xs) (dues_of n ys) in
    omega (arith, dues, length-append xs ys)
