use Rattle.std.proofs.Common.{subst, ◌≡◌, List}
use Rattle.protocol.specs.State.{Flight}
use Rattle.protocol.specs.Fabric.{forgetting}
use Rattle.fabric.proofs.Stores.{forgetting-store}
use Rattle.fabric.proofs.Fabric.next.Goals as goal

pub returns-clause-kept : goal.returns-clause-kept
returns-clause-kept c =
    let f = c.self.inside in
    subst (λ (sent : List Flight). forgetting sent ≡ sent) c.self.view_is (forgetting-store f.gone f.ring.items c.self.invariant.0.room c.self.invariant.0.full)
