-- A husk is forgotten, and the numbers of its entries.
use Rattle.std.proofs.Common.{◌∙◌, sym, ap, refl}
use Rattle.std.specs.Map.{lookup}
use Rattle.std.specs.Prelude.{nat_eq}
use Rattle.device_core.specs.Index.{numbers_in, without_numbers}
use Rattle.device_core.proofs.Releases.{release-nothing, released}
use Rattle.device_core.proofs.Stepping.{done-at}
use Rattle.device_core.proofs.device.Device.release.Goals as goal

pub invariant_of-self : goal.invariant_of-self
invariant_of-self c =
    let x = c.self.inside in
    (release-nothing x.id x.address x.qp_count x.key_count x.pool x.contexts.entries x.husks.entries _ c.self.invariant c.args.name c.shift_remove.new.self.entries (sym c.shift_remove.ensures.value ∙ c.in_default.is) c.in_default.ensures.unchanged _ refl).held tt tt

pub returns-in_default-clause-done : goal.returns-in_default-clause-done
returns-in_default-clause-done c =
    let x = c.self.inside in
    done-at c.self.view_is (release-nothing x.id x.address x.qp_count x.key_count x.pool x.contexts.entries x.husks.entries _ c.self.invariant c.args.name c.shift_remove.new.self.entries (sym c.shift_remove.ensures.value ∙ c.in_default.is) c.in_default.ensures.unchanged _ refl)

pub invariant_of-self-2 : goal.invariant_of-self-2
invariant_of-self-2 c =
    let x = c.self.inside in
    (released x.id x.address x.qp_count x.key_count x.pool x.contexts.entries x.husks.entries (λ k. lookup (nat_eq k) x.index.entries) c.self.invariant c.args.name (λ k. lookup (nat_eq k) c.drop_entries.new.index.entries) c.shift_remove.new.self.entries c.in-Some.entries (sym c.shift_remove.ensures.value ∙ c.in-Some.is) c.shift_remove.ensures.entries
    (λ k. c.drop_entries.ensures k ∙ ap (λ es. without_numbers (numbers_in es) k (lookup (nat_eq k) x.index.entries)) c.as_slice.ensures) _ c.outcome_of_done.ensures.told).held tt tt

pub returns-clause-done : goal.returns-clause-done
returns-clause-done c =
    let x = c.self.inside in
    done-at c.self.view_is (released x.id x.address x.qp_count x.key_count x.pool x.contexts.entries x.husks.entries (λ k. lookup (nat_eq k) x.index.entries) c.self.invariant c.args.name (λ k. lookup (nat_eq k) c.drop_entries.new.index.entries) c.shift_remove.new.self.entries c.in-Some.entries (sym c.shift_remove.ensures.value ∙ c.in-Some.is) c.shift_remove.ensures.entries
    (λ k. c.drop_entries.ensures k ∙ ap (λ es. without_numbers (numbers_in es) k (lookup (nat_eq k) x.index.entries)) c.as_slice.ensures) _ c.outcome_of_done.ensures.told)
