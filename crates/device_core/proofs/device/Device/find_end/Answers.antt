-- Where the index says that the number is.
use Rattle.std.proofs.Common.{◌∙◌, refl, sym, ap, subst, Some}
use Rattle.std.specs.Prelude.{Option, option_map}
use Rattle.std.specs.Option.{option_copied}
use Rattle.protocol.specs.State.{Context, Device}
use Rattle.context_core.specs.Links.{link_at, link_by, link_marks}
use Rattle.device_core.specs.declared.finding.FoundEnd.{FoundEnd}
use Rattle.device_core.specs.Finding.{IsFound}
use Rattle.device_core.specs.Parts.{device_of}
use Rattle.device_core.proofs.EndPlaces.{alone, by-place, not-found}
use Rattle.device_core.proofs.NumberedEnds.{left, stands, unnoted}
use Rattle.device_core.proofs.Seen.{marks-found}
use Rattle.device_core.proofs.device.Device.find_end.Goals as goal

pub returns-in_err-spot : goal.returns-in_err-spot
returns-in_err-spot c =
    let gone = unnoted c.self.invariant refl c.args.number (sym c.get.ensures.value ∙ ap option_copied c.in_err-spot.was) in
    not-found c.self.view_is c.from_residual.ensures gone.none

pub returns-in_err-context : goal.returns-in_err-context
returns-in_err-context c =
    let gone = left c.self.invariant refl c.args.number c.in_ok-spot.was c.get.ensures.value (alone c.get_full.result ∙ c.get_full.ensures.value) (ap (option_map (λ p. p.2)) c.in_err-context.was) in
    not-found c.self.view_is c.from_residual-in_err-context.ensures gone.none

pub returns-in_err-expected : goal.returns-in_err-expected
returns-in_err-expected c =
    let x = c.self.inside in
    let spot = c.in_ok-spot.spot.now in
    let d = device_of x.id x.address x.qp_count x.key_count x.pool x.contexts.entries x.husks.entries in
    let there = stands c.self.invariant refl c.args.number c.in_ok-spot.was c.get.ensures.value (alone c.get_full.result ∙ c.get_full.ensures.value) (ap (option_map (λ p. p.2)) c.in_ok-context.was) in
    let told = c.marks_at.ensures x.pool spot.context
    ∙ (ap (λ (k : Context). option_map link_marks (link_at k spot.place)) (sym there.context) ∙ ap (λ o. option_map link_marks (link_by o)) there.end.there) in
    subst (λ (v : Device). IsFound v c.args.number c.from_residual-in_err-expected.result) c.self.view_is
    (subst (λ (o : Option FoundEnd). IsFound d c.args.number o) (sym c.from_residual-in_err-expected.ensures)
    (record { marks = sym c.in_err-expected.was ∙ (told ∙ sym (marks-found d c.args.number _ there.end.end there.found)); place = tt }))

pub returns : goal.returns
returns c =
    let x = c.self.inside in
    let spot = c.in_ok-spot.spot.now in
    let d = device_of x.id x.address x.qp_count x.key_count x.pool x.contexts.entries x.husks.entries in
    let there = stands c.self.invariant refl c.args.number c.in_ok-spot.was c.get.ensures.value (alone c.get_full.result ∙ c.get_full.ensures.value) (ap (option_map (λ p. p.2)) c.in_ok-context.was) in
    let told = c.marks_at.ensures x.pool spot.context
    ∙ (ap (λ (k : Context). option_map link_marks (link_at k spot.place)) (sym there.context) ∙ ap (λ o. option_map link_marks (link_by o)) there.end.there) in
    let found : FoundEnd = record { context = c.in_ok-context.context; place = spot.place; expected = c.in_ok-expected.expected; top = c.in_ok-expected.top } in
    subst (λ (v : Device). IsFound v c.args.number (Some found)) c.self.view_is
    (record {
      marks = sym c.in_ok-expected.was ∙ (told ∙ sym (marks-found d c.args.number _ there.end.end there.found));
      place = by-place c.self.invariant refl c.in_ok-context.ensures.entry there.context there.end;
    })
