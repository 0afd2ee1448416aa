use Rattle.std.proofs.Common.{◌≡◌, ◌+◌, arith, ap, sym, ◌∙◌}
use Rattle.std.proofs.lemmas.Grind.{common_steps}
use Rattle.rdma_types.specs.Memory.{local_key, remote_key, granted}
use Rattle.memory_keys.specs.Regions.{regions_of, granted_spot}
use Rattle.memory_keys.proofs.Found.{keyed, remote-local, remote-zero, spot-none, spot-same}
use Rattle.memory_keys.proofs.regions.Regions.check_remote.Goals as goal

pub returns-then-length-eq0-clause-keyed : goal.returns-then-length-eq0-clause-keyed
returns-then-length-eq0-clause-keyed c = keyed c.self.inside.held.entries c.args.self.now c.self.invariant c.self.view_is

pub returns-in_err-key-clause-keyed : goal.returns-in_err-key-clause-keyed
returns-in_err-key-clause-keyed c = keyed c.self.inside.held.entries c.args.self.now c.self.invariant c.self.view_is

pub returns-in_err-key-clause-granted : goal.returns-in_err-key-clause-granted
returns-in_err-key-clause-granted c = λ pool needed e.
    let pairs = (keyed c.self.inside.held.entries c.args.self.now c.self.invariant c.self.view_is).pairs in
    let zero_key : c.args.rkey ≡ 0 = grind (arith, common_steps, c.in_err-key.ensures, c.checked_sub.ensures) in
    c.from_residual.ensures ∙ sym (spot-none remote_key (regions_of pool c.args.self.now) c.args.domain c.args.rkey c.args.at c.args.length needed c.if-length-eq0.false
    (ap (λ k. granted remote_key (regions_of pool c.args.self.now) c.args.domain k c.args.at c.args.length needed) zero_key ∙ remote-zero pool c.args.domain c.args.at c.args.length needed c.args.self.now pairs))

pub returns-clause-granted : goal.returns-clause-granted
returns-clause-granted c = λ pool needed e.
    let pairs = (keyed c.self.inside.held.entries c.args.self.now c.self.invariant c.self.view_is).pairs in
    let next : c.in_ok-key.key + 1 ≡ c.args.rkey = grind (arith, common_steps, c.in_ok-key.ensures) in
    let same = remote-local pool c.args.domain c.in_ok-key.key c.args.at c.args.length needed c.args.self.now pairs in
    c.check.ensures.granted pool needed e
    ∙ (sym (spot-same remote_key local_key (regions_of pool c.args.self.now) c.args.domain (c.in_ok-key.key + 1) c.in_ok-key.key c.args.at c.args.length needed same)
    ∙ ap (λ k. granted_spot remote_key (regions_of pool c.args.self.now) c.args.domain k c.args.at c.args.length needed) next)
