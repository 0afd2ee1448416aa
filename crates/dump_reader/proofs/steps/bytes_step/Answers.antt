use Rattle.std.proofs.Common.{ℕ, List, [], ◌∷◌, ◌++◌, refl, ap, sym, ◌∙◌}
use Rattle.protocol.specs.declared.images.RegionImage.{RegionImage}
use Rattle.dump_reader.specs.declared.lists.ReadState.TheVariants as place
use Rattle.dump_reader.specs.Groups.{region_of_head}
use Rattle.dump_reader.specs.Ahead.{more_regions}
use Rattle.law_dump_round_trip.proofs.Steady.{raw_steady}
use Rattle.dump_reader.proofs.Onward.{goes_light, refused}
use Rattle.dump_reader.proofs.Opens.{opens_bytes}
use Rattle.dump_reader.proofs.steps.bytes_step.Goals as goal

pub returns : goal.returns
returns c = goes_light c.args.opened.now (place.Bytes c.args.head.now c.args.missing c.args.after) c.args.lists.now c.args.c.now _ _ (opens_bytes c.args.opened.now c.args.lists.now c.args.head.now c.args.missing c.args.after) c.raw.new.self _ (raw_steady _) c.in_ok-bytes.ensures.ok c.enter_regions.result refl c.enter_regions.ensures.weightless _ (ap (λ (run : List ℕ). more_regions c.args.opened.now c.args.lists.now.domains.items c.args.after (c.args.lists.now.regions.items ++ region_of_head c.args.head.now run ∷ [])) (sym c.in_ok-append.ensures.ok ∙ sym c.replace-run.ensures.value) ∙ ap (λ (rs : List RegionImage). more_regions c.args.opened.now c.args.lists.now.domains.items c.args.after rs) (ap (λ (g : RegionImage). c.args.lists.now.regions.items ++ g ∷ []) (sym c.region_image.ensures) ∙ (sym c.in_ok-push.ensures.ok))) c.enter_regions.ensures.ahead

pub returns-in_err-bytes : goal.returns-in_err-bytes
returns-in_err-bytes c =
    refused c.args.opened.now (place.Bytes c.args.head.now c.args.missing c.args.after) c.args.lists.now c.args.c.now _ _ (opens_bytes c.args.opened.now c.args.lists.now c.args.head.now c.args.missing c.args.after) c.raw.new.self c.in_err-bytes.field-0.0 c.from_residual.result c.from_residual.ensures.1 c.in_err-bytes.ensures.short
