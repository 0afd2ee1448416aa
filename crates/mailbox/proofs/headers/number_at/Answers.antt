use Rattle.std.proofs.Common.{◌≡◌, ◌+◌, ◌*◌, ◌∙◌, ℕ, List, drop, ap, sym, add-zero, arith, slice_index}
use Rattle.std.proofs.lemmas.List.{get_or-drop}
use Rattle.protocol.specs.Bytes.{number_at}
use Rattle.mailbox.proofs.headers.number_at.Goals as goal

four : (bs : List ℕ) (p a b c d : ℕ) → a ≡ slice_index bs p → b ≡ slice_index bs (p + 1) → c ≡ slice_index bs (p + 2) → d ≡ slice_index bs (p + 3) → a * 16777216 + b * 65536 + c * 256 + d ≡ number_at p 4 bs
unfolding number_at
four bs p a b c d is_a is_b is_c is_d =
    let at_0 : slice_index (drop p bs) 0 ≡ a = get_or-drop p bs 0 0 ∙ (ap (λ k. slice_index bs k) (add-zero p) ∙ sym is_a) in
    let at_1 : slice_index (drop p bs) 1 ≡ b = get_or-drop p bs 1 0 ∙ sym is_b in
    let at_2 : slice_index (drop p bs) 2 ≡ c = get_or-drop p bs 2 0 ∙ sym is_c in
    let at_3 : slice_index (drop p bs) 3 ≡ d = get_or-drop p bs 3 0 ∙ sym is_d in
    omega arith

pub returns : goal.returns
returns c =
    let all = four c.args.bytes.now c.args.place c.byte_at.result c.byte_at-2.result c.byte_at-3.result c.byte_at-4.result c.byte_at.ensures c.byte_at-2.ensures c.byte_at-3.ensures c.byte_at-4.ensures in
    omega (arith, all, c.from.ensures, c.from-2.ensures, c.from-3.ensures, c.from-4.ensures)
