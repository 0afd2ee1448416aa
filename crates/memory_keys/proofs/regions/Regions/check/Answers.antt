use Rattle.std.proofs.Common.{rules, ◌≡◌, ◌-◌, ap, sym, ◌∙◌, true, false}
use Rattle.std.specs.Prelude.{None, Some, if◌then◌else◌}
use Rattle.std.specs.Option.{option_copied}
use Rattle.rdma_types.specs.Memory.{local_key}
use Rattle.memory_keys.specs.Regions.{regions_of, region_of, gives}
use Rattle.memory_keys.proofs.Found.{keyed, none_with, one_with, spot-none, spot-some, key-found}
use Rattle.memory_keys.proofs.Spots.{spot-inside}
use Rattle.memory_keys.proofs.regions.Regions.check.Goals as goal

pub returns-then-length-eq0-clause-keyed : goal.returns-then-length-eq0-clause-keyed
returns-then-length-eq0-clause-keyed c = keyed c.self.inside.held.entries c.args.self.now c.self.invariant c.self.view_is

pub returns-in_err-head-clause-granted : goal.returns-in_err-head-clause-granted
returns-in_err-head-clause-granted c = λ pool needed e.
    let none = sym c.find.ensures.found ∙ ap option_copied c.in_err-head.was in
    c.from_residual.ensures ∙ sym (spot-none local_key (regions_of pool c.args.self.now) c.args.domain c.args.key c.args.at c.args.length needed c.if-length-eq0.false (none_with pool c.args.domain c.args.key c.args.at c.args.length needed c.args.self.now none))

pub returns-then-not-gives-clause-granted : goal.returns-then-not-gives-clause-granted
returns-then-not-gives-clause-granted c = λ pool needed e.
    let h = c.in_ok-head.field-0.now in
    let held = sym c.find.ensures.found ∙ ap option_copied c.in_ok-head.was in
    let no : gives h.head c.args.domain c.args.at c.args.length needed ≡ false = sym (c.gives.ensures.value needed e) ∙ c.if-not-gives.true in
    sym (spot-none local_key (regions_of pool c.args.self.now) c.args.domain c.args.key c.args.at c.args.length needed c.if-length-eq0.false
    (one_with pool c.args.domain c.args.key c.args.at c.args.length needed c.args.self.now h c.find.ensures.keyed.distinct held ∙ ap (λ b. if b then Some (region_of pool h) else None) no))

pub returns-clause-granted : goal.returns-clause-granted
returns-clause-granted c = λ pool needed e.
    let h = c.in_ok-head.field-0.now in
    let held = sym c.find.ensures.found ∙ ap option_copied c.in_ok-head.was in
    let yes : gives h.head c.args.domain c.args.at c.args.length needed ≡ true = sym (c.gives.ensures.value needed e) ∙ c.if-not-gives.false in
    let given = one_with pool c.args.domain c.args.key c.args.at c.args.length needed c.args.self.now h c.find.ensures.keyed.distinct held ∙ ap (λ b. if b then Some (region_of pool h) else None) yes in
    let key = key-found c.args.key c.args.self.now h held in
    ap (λ k. Some (record { region = k; off = c.args.at - h.head.base; length = c.args.length })) (sym key)
    ∙ sym (spot-some local_key (regions_of pool c.args.self.now) c.args.domain c.args.key c.args.at c.args.length needed (region_of pool h) c.if-length-eq0.false given)

pub returns-clause-inside : goal.returns-clause-inside
returns-clause-inside c =
    let h = c.in_ok-head.field-0.now in
    let held = sym c.find.ensures.found ∙ ap option_copied c.in_ok-head.was in
    spot-inside c.args.self.now c.args.key c.args.at c.args.length h held (search rules) (search rules)
