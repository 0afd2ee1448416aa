-- The words that atomics act on: eight bytes each, and numbers below 2^64; and the last old values.
use Rattle.std.proofs.Common.{arith, ◌≡◌, ◌<◌, ◌^◌, ◌+◌, ◌-◌, ℕ, List, [], ◌∷◌, ◌++◌, length, sym, ap, ◌∙◌}
use Rattle.std.specs.Prelude.{All, get_or, drop}
use Rattle.std.proofs.lemmas.List.{drop-append-le, drop-drop, length-drop, length_push}
use Rattle.std.proofs.lemmas.List.Elements.{All-get_or}
use Rattle.rdma_types.specs.Limits.{most_kept}
use Rattle.rdma_types.specs.Memory.{word_of}
use Rattle.protocol.specs.declared.images.KeptReply.{KeptReply}
use Rattle.protocol.specs.Responder.{keeping}
use Rattle.law_simulation.specs.Joined.{last_of}

-- eight bytes spell a number below 2^64
pub word_small : (bs : List ℕ) → length bs ≡ 8 → All (λ b. b < 256) bs → word_of bs < 2 ^ 64
unfolding word_of
word_small (a ∷ b ∷ c ∷ d ∷ e ∷ f ∷ g ∷ h ∷ []) len all =
    let at : (i : ℕ) → i < 8 → get_or (a ∷ b ∷ c ∷ d ∷ e ∷ f ∷ g ∷ h ∷ []) i 0 < 256 = λ i l. All-get_or (λ z. z < 256) (a ∷ b ∷ c ∷ d ∷ e ∷ f ∷ g ∷ h ∷ []) i 0 (omega (arith, l)) all in
    let a' : a < 256 = at 0 (omega arith) in
    let b' : b < 256 = at 1 (omega arith) in
    let c' : c < 256 = at 2 (omega arith) in
    let d' : d < 256 = at 3 (omega arith) in
    let e' : e < 256 = at 4 (omega arith) in
    let f' : f < 256 = at 5 (omega arith) in
    let g' : g < 256 = at 6 (omega arith) in
    let h' : h < 256 = at 7 (omega arith) in
    omega (arith, a', b', c', d', e', f', g', h')
word_small [] len all = absurd (omega (arith, len))
word_small (a ∷ []) len all = absurd (omega (arith, len))
word_small (a ∷ b ∷ []) len all = absurd (omega (arith, len))
word_small (a ∷ b ∷ c ∷ []) len all = absurd (omega (arith, len))
word_small (a ∷ b ∷ c ∷ d ∷ []) len all = absurd (omega (arith, len))
word_small (a ∷ b ∷ c ∷ d ∷ e ∷ []) len all = absurd (omega (arith, len))
word_small (a ∷ b ∷ c ∷ d ∷ e ∷ f ∷ []) len all = absurd (omega (arith, len))
word_small (a ∷ b ∷ c ∷ d ∷ e ∷ f ∷ g ∷ []) len all = absurd (omega (arith, len))
word_small (a ∷ b ∷ c ∷ d ∷ e ∷ f ∷ g ∷ h ∷ k ∷ ks) len all = absurd (omega (arith, len))

-- the last replies with one more are the last ones
pub keeping_last : (vs : List KeptReply) (k : KeptReply) → keeping (last_of most_kept vs) k ≡ last_of most_kept (vs ++ k ∷ [])
unfolding keeping last_of
keeping_last vs k =
    let n : ℕ = length vs - 16 in
    ap (drop (length (drop n vs) + 1 - 16)) (sym (drop-append-le n vs (k ∷ []) (omega arith)))
    ∙ (drop-drop (length (drop n vs) + 1 - 16) n (vs ++ k ∷ [])
    ∙ ap (λ j. drop j (vs ++ k ∷ [])) (omega (arith, length-drop n vs, length_push vs k)))
