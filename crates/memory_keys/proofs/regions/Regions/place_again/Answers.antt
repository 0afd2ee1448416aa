use Rattle.std.proofs.Common.{◌≡◌, arith, ap, sym, ◌∙◌}
use Rattle.std.specs.Prelude.{◌==◌, Some, nat_eq, position, slice_get}
use Rattle.std.specs.Map.{keys_of}
use Rattle.std.specs.Map.Iter.{deref_pair}
use Rattle.std.specs.Option.{option_map}
use Rattle.std.proofs.lemmas.Bool.Decides.{nat_tests}
use Rattle.memory_keys.proofs.Places.{place_is, place_there}
use Rattle.memory_keys.proofs.regions.Regions.place_again.Goals as goal
use Rattle.memory_keys.proofs.regions.Regions.place_again.Goals.{in_default-via-in-Some+else-found-key, in_default-via-in_default}

pub returns-in-Some-clause-place : goal.returns-in-Some-clause-place
returns-in-Some-clause-place c =
    let es = c.self.inside.held.entries in
    let h = c.in-Some.field-0-1.now in
    let key : c.in-Some.found.now ≡ c.args.key = grind (arith, nat_tests, c.if-found-key.true) in
    let at : slice_get es c.self.inside.recent ≡ Some (c.in-Some.found.now, h) = sym c.get_index.ensures.entry ∙ ap (option_map deref_pair) c.in-Some.is in
    sym (place_there c.args.key c.self.inside.recent es h c.self.invariant.distinct (at ∙ ap (λ k. Some (k, h)) key))
    ∙ (place_is c.args.key es c.self.invariant.local ∙ ap (position (λ x. x.head.keys.local == c.args.key)) c.self.view_is)

pub returns-in_err-place-in_default-clause-place : goal.returns-in_err-place-in_default-clause-place
returns-in_err-place-in_default-clause-place c =
    let es = c.self.inside.held.entries in
    let same : c.in_default.self-inside.held.entries ≡ es = elim c.in_default.branch [ in_default-via-in-Some+else-found-key w ↦ ap (λ r. r.held.entries) w.self-inside-is | in_default-via-in_default w ↦ ap (λ r. r.held.entries) w.self-inside-is ] in
    let place = c.get_index_of.ensures.index
    ∙ (ap (λ xs. position (nat_eq c.args.key) (keys_of xs)) same
    ∙ (place_is c.args.key es c.self.invariant.local ∙ ap (position (λ x. x.head.keys.local == c.args.key)) c.self.view_is)) in
    c.from_residual.ensures ∙ (sym c.in_err-place-in_default.was ∙ place)

pub returns-in_ok-place-in_default-clause-place : goal.returns-in_ok-place-in_default-clause-place
returns-in_ok-place-in_default-clause-place c =
    let es = c.self.inside.held.entries in
    let same : c.in_default.self-inside.held.entries ≡ es = elim c.in_default.branch [ in_default-via-in-Some+else-found-key w ↦ ap (λ r. r.held.entries) w.self-inside-is | in_default-via-in_default w ↦ ap (λ r. r.held.entries) w.self-inside-is ] in
    let place = c.get_index_of.ensures.index
    ∙ (ap (λ xs. position (nat_eq c.args.key) (keys_of xs)) same
    ∙ (place_is c.args.key es c.self.invariant.local ∙ ap (position (λ x. x.head.keys.local == c.args.key)) c.self.view_is)) in
    sym c.in_ok-place-in_default.was ∙ place
