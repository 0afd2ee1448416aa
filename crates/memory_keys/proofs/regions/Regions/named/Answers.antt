use Rattle.std.proofs.Common.{◌≡◌, sym, ap, ◌∙◌, refl, subst}
use Rattle.std.specs.Option.{option_map}
use Rattle.std.specs.Map.Iter.{deref_pair}
use Rattle.std.specs.Map.{lookup}
use Rattle.std.specs.Prelude.{Some, IfSome, slice_get, nat_eq, is_some}
use Rattle.memory_keys.specs.Regions.{held_at}
use Rattle.memory_keys.proofs.Dropped.{all-at, is-first, seen-at}
use Rattle.memory_keys.proofs.Found.{found, keyed}
use Rattle.memory_keys.proofs.Made.{is-named}
use Rattle.memory_keys.proofs.regions.Regions.named.Goals as goal

pub returns-in_default-clause-there : goal.returns-in_default-clause-there
returns-in_default-clause-there c = λ pool. sym (ap is_some c.in_default.is) ∙ is-named pool c.args.name c.args.self.now c.place_of.result c.place_of.ensures

pub returns-in_default-clause-keyed : goal.returns-in_default-clause-keyed
returns-in_default-clause-keyed c = keyed c.self.inside.held.entries c.args.self.now c.self.invariant c.self.view_is

pub returns-clause-there : goal.returns-clause-there
returns-clause-there c = λ pool. sym (ap is_some c.in-Some.is) ∙ is-named pool c.args.name c.args.self.now c.place_of.result c.place_of.ensures

pub returns-clause-keyed : goal.returns-clause-keyed
returns-clause-keyed c = keyed c.self.inside.held.entries c.args.self.now c.self.invariant c.self.view_is

pub returns-clause-named : goal.returns-clause-named
returns-clause-named c =
    let there : slice_get c.self.inside.held.entries c.in-Some.place ≡ Some (c.unwrap.result.0.now, c.unwrap.result.1.now) = sym c.get_index.ensures.entry ∙ ap (option_map deref_pair) c.unwrap.ensures in
    let seen : slice_get c.args.self.now c.in-Some.place ≡ Some c.unwrap.result.1.now = ap (λ hs. slice_get hs c.in-Some.place) (sym c.self.view_is) ∙ seen-at c.self.inside.held.entries c.in-Some.place (c.unwrap.result.0.now, c.unwrap.result.1.now) there in
    let key : c.unwrap.result.0.now ≡ c.unwrap.result.1.now.head.keys.local = all-at (λ e. e.0 ≡ e.1.head.keys.local) c.self.inside.held.entries c.in-Some.place (c.unwrap.result.0.now, c.unwrap.result.1.now) c.self.invariant.local there in
    record {
      held = c.unwrap.result.1.now;
      head_is = refl;
      found = ap (λ hs. held_at c.unwrap.result.1.now.head.keys.local hs) (sym c.self.view_is) ∙ (sym (found c.unwrap.result.1.now.head.keys.local c.self.inside.held.entries c.self.invariant.local) ∙ (ap (λ k. lookup (nat_eq k) c.self.inside.held.entries) (sym key) ∙ subst (λ o. IfSome o (λ p. lookup (nat_eq p.0.now) c.self.inside.held.entries ≡ Some p.1.now)) c.unwrap.ensures c.get_index.ensures.value));
      region = λ pool. (is-first pool c.args.name c.args.self.now c.in-Some.place c.unwrap.result.1.now (sym c.in-Some.is ∙ c.place_of.ensures) seen).first;
    }
