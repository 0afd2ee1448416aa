use Rattle.std.proofs.Common.{ℕ, List, [], ◌∷◌, ◌++◌, refl, ap, sym}
use Rattle.dump_reader.specs.declared.lists.ReadState.TheVariants as place
use Rattle.dump_reader.specs.Groups.{link_of_head}
use Rattle.dump_reader.specs.Ahead.{more_untold, queues_of}
use Rattle.law_dump_round_trip.proofs.Steady.{raw_steady}
use Rattle.dump_reader.proofs.Onward.{into_light, refused}
use Rattle.dump_reader.proofs.Opens.{opens_payload}
use Rattle.dump_reader.proofs.end_steps.payload_step.Goals as goal

pub returns : goal.returns
returns c = into_light c.args.opened.now (place.Payload c.args.head.now c.args.link.now c.args.before.now c.args.count c.args.after c.args.request c.args.missing) c.args.lists.now c.args.c.now _ _ (opens_payload c.args.opened.now c.args.lists.now c.args.head.now c.args.after c.args.link.now c.args.before.now c.args.count c.args.request c.args.missing) c.raw.new.self _ (raw_steady _) c.in_ok-bytes.ensures.ok c.take_request.result refl c.take_request.ensures.weightless _ (ap (λ (run : List ℕ). more_untold c.args.opened.now c.args.lists.now.domains.items c.args.lists.now.regions.items (queues_of c.args.lists.now) c.args.lists.now.ends.items c.args.after c.args.head.now (link_of_head c.args.link.now c.args.lists.now.kept.items) c.args.before.now c.args.count (c.args.lists.now.untold.items ++ record { request = c.args.request; payload = run } ∷ [])) (sym c.in_ok-append.ensures.ok)) c.take_request.ensures.enters

pub returns-in_err-bytes : goal.returns-in_err-bytes
returns-in_err-bytes c =
    refused c.args.opened.now (place.Payload c.args.head.now c.args.link.now c.args.before.now c.args.count c.args.after c.args.request c.args.missing) c.args.lists.now c.args.c.now _ _ (opens_payload c.args.opened.now c.args.lists.now c.args.head.now c.args.after c.args.link.now c.args.before.now c.args.count c.args.request c.args.missing) c.raw.new.self c.in_err-bytes.field-0.0 c.from_residual.result c.from_residual.ensures.1 c.in_err-bytes.ensures.short
