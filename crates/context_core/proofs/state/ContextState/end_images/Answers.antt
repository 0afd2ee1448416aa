use Rattle.std.proofs.Common.{◌≡◌, ◌<◌, ◌≤◌, ◌++◌, ◌∷◌, [], length, take, ap, subst, ◌∙◌, arith}
use Rattle.std.specs.Prelude.{map}
use Rattle.std.proofs.lemmas.List.{take_all}
use Rattle.protocol.specs.Images.{end_image}
use Rattle.context_core.specs.Context.{Holding, context_in, end_of}
use Rattle.context_core.proofs.ListPrefixes.{each_on}
use Rattle.context_core.proofs.ImageParts.{ends-shown}
use Rattle.context_core.proofs.state.ContextState.end_images.Goals as goal

pub loop-place-preserved : goal.loop-place-preserved
loop-place-preserved c =
    let inside : c.loop-place.place < length c.self.inside.ends.entries = omega (arith, c.loop-place-test.true, c.len-place-end.ensures.len) in
    let within : c.loop-place.place < length c.args.self.now.ends = subst (λ (h : Holding). c.loop-place.place < length h.ends) c.self.view_is inside in
    λ n. c.in_ok-push.ensures.items ∙ (ap (λ xs. xs ++ c.in_ok-image.image ∷ []) (c.loop-place.invariant n) ∙ each_on (λ m. end_image (context_in c.args.pool.now m c.args.self.now)) (end_of c.args.pool.now c.args.self.now.queues) c.args.self.now.ends c.loop-place.place c.in_ok-image.image n within c.in_ok-image.ensures)

pub returns : goal.returns
returns c =
    let past : length c.self.inside.ends.entries ≤ c.loop-place.place = omega (arith, c.loop-place-test.false, c.len-place-end.ensures.len) in
    let whole : take c.loop-place.place c.args.self.now.ends ≡ c.args.self.now.ends = take_all c.loop-place.place c.args.self.now.ends (subst (λ (h : Holding). length h.ends ≤ c.loop-place.place) c.self.view_is past) in
    λ n. c.new.ensures ∙ (c.loop-place.invariant n ∙ (ap (λ es. map (end_image (context_in c.args.pool.now n c.args.self.now)) (map (end_of c.args.pool.now c.args.self.now.queues) es)) whole ∙ ends-shown c.args.pool.now n c.args.self.now))
