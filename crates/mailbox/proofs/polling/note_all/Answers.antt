use Rattle.std.proofs.Common.{◌+◌, arith, add-one}
use Rattle.mailbox.proofs.Noting.{all_noted, notes_next}
use Rattle.mailbox.proofs.polling.note_all.Goals as goal

pub loop-entry-preserved : goal.loop-entry-preserved
loop-entry-preserved c = (
  notes_next c.args.n c.args.entries.now c.loop-entry.entry-index (c.loop-entry.entry-index + 1) _ c.args.channels.now.items c.args.owed.now.items c.loop-entry.channels.items c.note.new.channels.items c.loop-entry.owed.items c.note.new.owed.items
      (add-one c.loop-entry.entry-index) c.loop-entry-test.true c.loop-entry.invariant.0 (λ w. c.note.ensures.noted w) c.note.ensures.channels,
  omega (arith, c.note.ensures.room, c.note.ensures.capacity, c.loop-entry.invariant.1, c.loop-entry-test.true),
)

pub returns-clause-noted : goal.returns-clause-noted
returns-clause-noted c = λ w. all_noted c.args.n c.args.entries.now c.loop-entry.entry-index c.args.channels.now.items c.args.owed.now.items c.loop-entry.channels.items c.loop-entry.owed.items c.loop-entry-test.false c.loop-entry.invariant.0 w
