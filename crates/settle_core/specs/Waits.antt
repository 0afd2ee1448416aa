-- Whether an RNR timer may be stepped, as the code knows it.
use Rattle.std.specs.Prelude.{◌==◌, nat_lt, ◌&&◌, ◌||◌, not, Bool, true, Option, Some, None}
use Rattle.context_core.specs.declared.lives.LinkView.{LinkView}
use Rattle.settle_core.specs.declared.notes.Wait.{Wait}

-- with rnr 7 only where it was not stepped yet, its `una` changed since, or its partner went to Error since
abbrev pub may_wait : LinkView → Bool → Option Wait → Bool
may_wait v ended None = true
may_wait v ended (Some x) = not (v.rnr == 7) || (not (x.una == v.una) || (ended && not x.partner_ended))

-- a Running end that does not wait and has numbers in flight, as its view tells it
abbrev pub view_expires : LinkView → Bool
view_expires v = (not v.ended && (not v.paused && not v.resuming)) && (not v.rnr_wait && nat_lt v.una v.next)
