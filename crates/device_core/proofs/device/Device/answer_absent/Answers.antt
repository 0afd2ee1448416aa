-- The number is nowhere, at an end that is not connected, or left in a husk.
use Rattle.std.proofs.Common.{◌≡◌, ◌∙◌, sym, ap, subst, [], true, false}
use Rattle.std.specs.Prelude.{◌⊎◌}
use Rattle.protocol.specs.DeviceStep.{husk_entries}
use Rattle.protocol.specs.Refusals.{has_context}
use Rattle.protocol.specs.State.{Device}
use Rattle.roce_headers.specs.Packets.{packet}
use Rattle.device_core.specs.Done.{taking}
use Rattle.device_core.specs.Index.{IsEndAt, IsEntryAt}
use Rattle.device_core.specs.Parts.{device_of}
use Rattle.device_core.specs.Readings.{IsForNobody}
use Rattle.device_core.proofs.Arrivals.{arrives-packet, found-nowhere, husk-arrived-at, left-control, lives-there, stays-there}
use Rattle.device_core.proofs.Contexts.{found-there}
use Rattle.device_core.proofs.FoundEnds.{left-none}
use Rattle.device_core.proofs.device.Device.answer_absent.Goals as goal

pub returns-in_default-clause-done : goal.returns-in_default-clause-done
returns-in_default-clause-done c = λ bytes is.
    let away = c.in_default.ensures.nowhere in
    arrives-packet c.args.self.now c.args.from bytes (packet c.args.d.now) is _ (found-nowhere c.args.self.now c.args.from (packet c.args.d.now) away.0 away.1)
    ∙ ap (λ t. record { device = c.args.self.now; outcome = taking t }) (sym c.silent.ensures)

pub returns-then-contains_key-clause-done : goal.returns-then-contains_key-clause-done
returns-then-contains_key-clause-done c = λ bytes is.
    let x = c.self.inside in
    let n = c.in-Some.spot.context in
    let place = c.in-Some.spot.place in
    let k = c.args.d.now.dest in
    let d = device_of x.id x.address x.qp_count x.key_count x.pool x.contexts.entries x.husks.entries in
    let lives : has_context d n ≡ true = sym (found-there x.pool n x.contexts.entries) ∙ (sym c.contains_key.ensures ∙ c.if-contains_key.true) in
    let h = c.self.invariant in
    let end : IsEndAt d n place k = lives-there d n place k lives (h.either n) (subst (λ (v : Device). IsEndAt v n place k ⊎ IsEntryAt v n place k) (sym c.self.view_is) c.in-Some.ensures.there) in
    let left = left-none _ d h.indexed h.names h.husk_names k n place end (h.either n lives) in
    arrives-packet c.args.self.now c.args.from bytes (packet c.args.d.now) is _
    (found-nowhere c.args.self.now c.args.from (packet c.args.d.now) c.requires.absent (subst (λ (v : Device). husk_entries k v.husks ≡ []) c.self.view_is left))
    ∙ ap (λ t. record { device = c.args.self.now; outcome = taking t }) (sym c.silent-then-contains_key.ensures)

pub answer_stopped-requires-clause-entry : goal.answer_stopped-requires-clause-entry
answer_stopped-requires-clause-entry c =
    let n = c.in-Some.spot.context in
    let gone : has_context c.args.self.now n ≡ false = ap (λ (v : Device). has_context v n) (sym c.self.view_is) ∙ (sym (found-there c.self.inside.pool n c.self.inside.contexts.entries) ∙ (sym c.contains_key.ensures ∙ c.if-contains_key.false)) in
    stays-there c.args.self.now n c.in-Some.spot.place c.args.d.now.dest gone c.in-Some.ensures.there

pub returns-clause-done : goal.returns-clause-done
returns-clause-done c = λ bytes is.
    let n = c.in-Some.spot.context in
    let gone : has_context c.args.self.now n ≡ false = ap (λ (v : Device). has_context v n) (sym c.self.view_is) ∙ (sym (found-there c.self.inside.pool n c.self.inside.contexts.entries) ∙ (sym c.contains_key.ensures ∙ c.if-contains_key.false)) in
    let entry = stays-there c.args.self.now n c.in-Some.spot.place c.args.d.now.dest gone c.in-Some.ensures.there in
    let h = c.self.invariant in
    husk-arrived-at _ _ c.args.self.now c.self.view_is h.indexed h.names h.husk_names n c.in-Some.spot.place c.args.from bytes (packet c.args.d.now) is entry gone c.answer_stopped.result c.answer_stopped.ensures.done

pub returns-clause-never_out_of_memory : goal.returns-clause-never_out_of_memory
returns-clause-never_out_of_memory c nobody =
    let x = c.self.inside in
    let n = c.in-Some.spot.context in
    let place = c.in-Some.spot.place in
    let k = c.args.d.now.dest in
    let d = device_of x.id x.address x.qp_count x.key_count x.pool x.contexts.entries x.husks.entries in
    let gone : has_context d n ≡ false = sym (found-there x.pool n x.contexts.entries) ∙ (sym c.contains_key.ensures ∙ c.if-contains_key.false) in
    let h = c.self.invariant in
    let entry : IsEntryAt d n place k = stays-there d n place k gone (subst (λ (v : Device). IsEndAt v n place k ⊎ IsEntryAt v n place k) (sym c.self.view_is) c.in-Some.ensures.there) in
    let there : IsForNobody d (packet c.args.d.now) = subst (λ (v : Device). IsForNobody v (packet c.args.d.now)) (sym c.self.view_is) nobody in
    c.answer_stopped.ensures.never_out_of_memory (left-control _ d h.indexed h.names h.husk_names n place (packet c.args.d.now) entry there.1)
