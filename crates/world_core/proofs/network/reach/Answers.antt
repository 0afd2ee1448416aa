-- An arrival is of the datagram that is kept.
use Rattle.std.proofs.Common.{◌≡◌, ◌∙◌, Some, ap, rules, subst, sym}
use Rattle.std.proofs.lemmas.Result.{IfOk-weaker}
use Rattle.std.specs.Option.{option_copied}
use Rattle.protocol.specs.Bytes.{number_at}
use Rattle.protocol.specs.Fabric.{kept_flight}
use Rattle.protocol.specs.State.{Flight}
use Rattle.protocol.specs.Wire.{packet_of}
use Rattle.device_core.specs.Finding.{IsFound}
use Rattle.device_core.specs.Readings.{DoNothing}
use Rattle.world_core.proofs.network.reach.Goals as goal

pub returns-clause-ok : goal.returns-clause-ok
returns-clause-ok c = IfOk-weaker c.arrive_into.result _ _ (λ a step f kept. search rules) c.arrive_into.ensures.ok

pub arrive_into-requires : goal.arrive_into-requires
arrive_into-requires c =
    let f = c.unwrap-flight.result.now in
    let kept : kept_flight c.args.fabric.now c.args.k ≡ Some f = sym c.kept.ensures ∙ ap option_copied c.unwrap-flight.ensures in
    let bytes : c.as_slice.result.now ≡ f.bytes = c.as_slice.ensures ∙ ap (λ (x : Flight). x.bytes) c.flight.view_is in
    subst (λ bs. IsFound c.args.device.now (number_at 5 3 bs) c.args.found) (sym bytes) (c.requires.found f kept)

pub returns-clause-never_out_of_memory : goal.returns-clause-never_out_of_memory
returns-clause-never_out_of_memory c = λ nothing.
    let f = c.unwrap-flight.result.now in
    let kept : kept_flight c.args.fabric.now c.args.k ≡ Some f = sym c.kept.ensures ∙ ap option_copied c.unwrap-flight.ensures in
    let bytes : c.as_slice.result.now ≡ f.bytes = c.as_slice.ensures ∙ ap (λ (x : Flight). x.bytes) c.flight.view_is in
    c.arrive_into.ensures.never_out_of_memory (subst (λ bs. DoNothing c.args.device.now (packet_of bs)) (sym bytes) (nothing f kept))
