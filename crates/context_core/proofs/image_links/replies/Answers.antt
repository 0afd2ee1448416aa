use Rattle.std.proofs.Common.{◌≡◌, ℕ, ◌++◌, ◌∷◌, [], ap, sym, ◌∙◌}
use Rattle.std.specs.Prelude.{Option, Some, None}
use Rattle.std.specs.Option.{option_map}
use Rattle.protocol.specs.declared.images.KeptReply.{KeptReply}
use Rattle.context_core.proofs.ListPrefixes.{is_there_of, taken_all, taken_on}
use Rattle.context_core.proofs.image_links.replies.Goals as goal

abbrev reply : ℕ × ℕ → KeptReply
reply p = record { number = p.0; old = p.1 }

whole : (o : Option KeptReply) (p : ℕ × ℕ) → option_map {U = ℕ × ℕ} (λ k. (k.number, k.old)) o ≡ Some p → o ≡ Some (reply p)
whole None p e = absurd cc
whole (Some k) p e =
    let pair : ℕ × ℕ = (k.number, k.old) in
    let same : pair ≡ p = cc in
    ap (λ q. Some (reply q)) same

pub loop-i-preserved : goal.loop-i-preserved
loop-i-preserved c =
    let there = whole _ c.unwrap-number.result (sym c.at.ensures ∙ c.unwrap-number.ensures) in
    c.in_ok-push.ensures.items ∙ (ap (λ xs. xs ++ reply c.unwrap-number.result ∷ []) c.loop-i.invariant ∙ taken_on c.kept-kept.result.now c.loop-i.i (reply c.unwrap-number.result) there)

pub unwrap-number-requires : goal.unwrap-number-requires
unwrap-number-requires c = is_there_of _ c.at.result c.kept-kept.result.now c.loop-i.i c.len-i-end.result c.at.ensures c.len-i-end.ensures.len c.loop-i-test.true

pub returns : goal.returns
returns c = c.new.ensures ∙ (c.loop-i.invariant ∙ (taken_all c.kept-kept.result.now c.loop-i.i c.len-i-end.result c.len-i-end.ensures.len c.loop-i-test.false ∙ c.kept-kept.ensures.kept))
