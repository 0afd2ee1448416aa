-- The end is where it was looked up, or the transmission is refused.
use Rattle.std.proofs.Common.{◌≡◌, ◌+◌, ◌∙◌, ap, length, subst, sym, Some, None}
use Rattle.protocol.specs.Refusals.{refusal_of}
use Rattle.protocol.specs.State.{World}
use Rattle.protocol.specs.WorldStep.{numbered, runs}
use Rattle.protocol.specs.declared.events.Event.TheVariants as event
use Rattle.context_core.specs.Sending.{send_answer}
use Rattle.device_core.specs.Finding.{IsAt}
use Rattle.world_core.specs.Kept.{Makes}
use Rattle.world_core.specs.Places.{HaveOwnIds}
use Rattle.world_core.proofs.Lacking.{holds_at_err}
use Rattle.world_core.proofs.Stepping.{refused_runs}
use Rattle.world_core.proofs.Worlds.{read_device}
use Rattle.world_core.proofs.world.World.transmit_from.Goals as goal

pub returns-in_default-clause-ok : goal.returns-in_default-clause-ok
returns-in_default-clause-ok c = λ d h.
    let w = c.args.self.now in
    let e = event.Transmit c.args.end.now in
    let r = c.transmit_refusal.result in
    let same = read_device _ w c.args.place c.index-device.result.now d c.self.view_is h c.index-device.ensures in
    refused_runs w c.args.place d e r (subst (λ (v : World). HaveOwnIds v.devices) c.self.view_is c.self.invariant.ids) c.requires.ready.kept h
    (subst (λ x. refusal_of x e ≡ Some r) same c.transmit_refusal.ensures)

pub transmit_end-requires-clause-at : goal.transmit_end-requires-clause-at
transmit_end-requires-clause-at c = λ d h.
    let same = read_device _ c.args.self.now c.args.place c.index-device.result.now d c.self.view_is h c.index-device.ensures in
    (c.args.end.now, subst (λ x. IsAt x c.args.end.now c.in-Some.at) same c.in-Some.ensures.there)

pub returns-in_err-row-clause-refused_first : goal.returns-in_err-row-clause-refused_first
returns-in_err-row-clause-refused_first c =
    holds_at_err c.from_residual.result (λ d h.
    let same = read_device _ c.args.self.now c.args.place c.index-device.result.now d c.self.view_is h c.index-device.ensures in
    subst (λ x. refusal_of x (event.Transmit c.args.end.now) ≡ None) same c.in-Some.ensures.free)

pub returns-clause-ok : goal.returns-clause-ok
returns-clause-ok c = λ d h.
    let w = c.args.self.now in
    let o = c.args.end.now in
    let row = c.in_ok-row.row in
    let same = read_device _ w c.args.place c.index-device.result.now d c.self.view_is h c.index-device.ensures in
    let at = subst (λ x. IsAt x o c.in-Some.at) same c.in-Some.ensures.there in
    let next : c.next-next.result ≡ length w.sent + 1 = c.next-next.ensures.number ∙ ap (λ (v : World). length v.sent + 1) c.self.view_is in
    let answer : c.number.result ≡ numbered (length w.sent + 1) (send_answer row) = c.number.ensures ∙ (ap (λ n. numbered n c.answer.result) next ∙ ap (numbered (length w.sent + 1)) c.answer.ensures) in
    subst (λ a. Makes (runs w d (event.Transmit o)) a c.transmit_end.new.self) (sym answer) (c.in_ok-row.ensures.ok d o h at)
