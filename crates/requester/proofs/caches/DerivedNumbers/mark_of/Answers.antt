-- The cursor's request has the number, or it is sought.
use Rattle.std.proofs.Common.{sym}
use Rattle.requester.specs.Sending.{bares}
use Rattle.requester.proofs.Keeping.{past_here}
use Rattle.requester.proofs.caches.DerivedNumbers.mark_of.Goals as goal

pub returns-then-n-self-clause-index : goal.returns-then-n-self-clause-index
returns-then-n-self-clause-index c = sym (past_here (bares c.args.queue.now.items) c.args.mtu c.args.self.now.cursor c.args.self.now.cursor_past c.args.n c.requires.cursor c.requires.past c.requires.before c.if-n-self.true)
