use Rattle.std.proofs.Common.{◌≡◌, ◌+◌, ◌-◌, ◌≤◌, length, vec_len, vec_capacity}
use Rattle.mailbox.proofs.Noting.{IsNoting}
use Rattle.mailbox.proofs.polling.note_all.Given as goal

abbrev pub invariant-loop-entry : goal.invariant-loop-entry
invariant-loop-entry l = IsNoting l.n l.entries l.entry-index l.fn.channels.items l.fn.owed.items l.channels.items l.owed.items × (vec_len l.owed + (length l.entries - l.entry-index) ≤ vec_capacity l.owed)
