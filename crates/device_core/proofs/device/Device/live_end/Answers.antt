use Rattle.std.proofs.Common.{◌∙◌, sym, ap, refl}
use Rattle.std.specs.Option.{option_copied}
use Rattle.device_core.specs.Numbered.{numbered_view}
use Rattle.device_core.specs.Parts.{device_of}
use Rattle.device_core.specs.Readings.{connected_view, has_ended_end, has_resuming_end, live_ended, live_resumes}
use Rattle.device_core.proofs.LiveEnds.{sends-held}
use Rattle.device_core.proofs.Numbered.{numbered-nowhere, numbered-one}
use Rattle.device_core.proofs.NumberedEnds.{left, stands, told, unnoted}
use Rattle.device_core.proofs.Seen.{ended-nowhere, ended-one, resumes-nowhere, resumes-one}
use Rattle.device_core.proofs.device.Device.live_end.Goals as goal

pub returns-in_default-clause-view : goal.returns-in_default-clause-view
returns-in_default-clause-view c =
    let x = c.self.inside in
    let d = device_of x.id x.address x.qp_count x.key_count x.pool x.contexts.entries x.husks.entries in
    let gone = unnoted c.self.invariant refl c.args.number (sym c.get.ensures.value ∙ ap option_copied c.in_default.is) in
    ap (λ v. numbered_view v c.args.number) (sym c.self.view_is) ∙ numbered-nowhere d c.args.number gone.none

pub returns-in_default-clause-resumes : goal.returns-in_default-clause-resumes
returns-in_default-clause-resumes c =
    let h = c.self.invariant in
    let gone = unnoted h refl c.args.number (sym c.get.ensures.value ∙ ap option_copied c.in_default.is) in
    ap (λ v. has_resuming_end v c.args.number) (sym c.self.view_is) ∙ resumes-nowhere _ c.args.number h.names gone.lacks

pub returns-in_default-clause-ended : goal.returns-in_default-clause-ended
returns-in_default-clause-ended c =
    let h = c.self.invariant in
    let gone = unnoted h refl c.args.number (sym c.get.ensures.value ∙ ap option_copied c.in_default.is) in
    ap (λ v. has_ended_end v c.args.number) (sym c.self.view_is) ∙ ended-nowhere _ c.args.number h.names gone.lacks

pub returns-in_default-get-clause-view : goal.returns-in_default-get-clause-view
returns-in_default-get-clause-view c =
    let x = c.self.inside in
    let d = device_of x.id x.address x.qp_count x.key_count x.pool x.contexts.entries x.husks.entries in
    let gone = left c.self.invariant refl c.args.number c.in-Some.is c.get.ensures.value c.get-2.ensures.value c.in_default-get.is in
    ap (λ v. numbered_view v c.args.number) (sym c.self.view_is) ∙ numbered-nowhere d c.args.number gone.none

pub returns-in_default-get-clause-resumes : goal.returns-in_default-get-clause-resumes
returns-in_default-get-clause-resumes c =
    let h = c.self.invariant in
    let gone = left h refl c.args.number c.in-Some.is c.get.ensures.value c.get-2.ensures.value c.in_default-get.is in
    ap (λ v. has_resuming_end v c.args.number) (sym c.self.view_is) ∙ resumes-nowhere _ c.args.number h.names gone.lacks

pub returns-in_default-get-clause-ended : goal.returns-in_default-get-clause-ended
returns-in_default-get-clause-ended c =
    let h = c.self.invariant in
    let gone = left h refl c.args.number c.in-Some.is c.get.ensures.value c.get-2.ensures.value c.in_default-get.is in
    ap (λ v. has_ended_end v c.args.number) (sym c.self.view_is) ∙ ended-nowhere _ c.args.number h.names gone.lacks

pub end_at-requires : goal.end_at-requires
end_at-requires c = let x = c.self.inside in sends-held x.pool c.in-Some.spot.now.context x.contexts.entries c.get-2.result c.in-Some-get.held c.self.invariant.each c.in-Some-get.is c.get-2.ensures.value

pub returns-clause-view : goal.returns-clause-view
returns-clause-view c =
    let h = c.self.invariant in
    let x = c.self.inside in
    let d = device_of x.id x.address x.qp_count x.key_count x.pool x.contexts.entries x.husks.entries in
    let there = stands h refl c.args.number c.in-Some.is c.get.ensures.value c.get-2.ensures.value c.in-Some-get.is in
    ap (λ v. numbered_view v c.args.number) (sym c.self.view_is)
    ∙ (numbered-one d c.args.number _ there.end.end there.found
    ∙ ap connected_view (sym (told h refl c.args.number c.in-Some.is c.get.ensures.value c.get-2.ensures.value c.in-Some-get.is c.end_at.ensures)))

pub returns-clause-resumes : goal.returns-clause-resumes
returns-clause-resumes c =
    let h = c.self.invariant in
    let there = stands h refl c.args.number c.in-Some.is c.get.ensures.value c.get-2.ensures.value c.in-Some-get.is in
    ap (λ v. has_resuming_end v c.args.number) (sym c.self.view_is)
    ∙ (resumes-one _ _ h.indexed h.names c.args.number _ _ there.end
    ∙ ap live_resumes (sym (told h refl c.args.number c.in-Some.is c.get.ensures.value c.get-2.ensures.value c.in-Some-get.is c.end_at.ensures)))

pub returns-clause-ended : goal.returns-clause-ended
returns-clause-ended c =
    let h = c.self.invariant in
    let there = stands h refl c.args.number c.in-Some.is c.get.ensures.value c.get-2.ensures.value c.in-Some-get.is in
    ap (λ v. has_ended_end v c.args.number) (sym c.self.view_is)
    ∙ (ended-one _ _ h.indexed h.names c.args.number _ _ there.end
    ∙ ap live_ended (sym (told h refl c.args.number c.in-Some.is c.get.ensures.value c.get-2.ensures.value c.in-Some-get.is c.end_at.ensures)))
