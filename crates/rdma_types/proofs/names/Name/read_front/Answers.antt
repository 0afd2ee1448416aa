use Rattle.std.proofs.Common.{◌<◌, ◌≤◌, ◌≡◌, ℕ, suc, List, length, get_or, take, true, false, refl, arith, rules, ◌∙◌, sym, subst, ap}
use Rattle.std.specs.Prelude.{◌+◌, ◌-◌, ◌++◌, slice_set}
use Rattle.std.proofs.lemmas.List.{length-take}
use Rattle.std.proofs.lemmas.List.Sums.{prefix_len-le-length}
use Rattle.rdma_types.specs.Spelled.{is_name, is_name_byte, zeros}
use Rattle.rdma_types.proofs.Held.{one_more, one_longer, read_name, read_front, read_held, read_len, capped, shorter}
use Rattle.rdma_types.proofs.names.Name.read_front.Goals as goal
use Rattle.rdma_types.proofs.names.Name.read_front.Goals.{then-loop-len-test+else-name_byte, else-loop-len-test}

-- a byte more, with one zero fewer behind it
step : (text : List ℕ) (len : ℕ) → len < length text → length text ≤ 16 → slice_set (take len text ++ zeros (16 - len)) len (get_or text len 0) ≡ take (len + 1) text ++ zeros (16 - (len + 1))
step text len h s =
    let m = 16 - (len + 1) in
    let e : 16 - len ≡ suc m = omega (arith, h, s) in
    let n : suc len ≡ len + 1 = omega arith in
    subst (λ k. slice_set (take len text ++ zeros (16 - len)) len (get_or text len 0) ≡ take k text ++ zeros m) n (subst (λ k. slice_set (take len text ++ zeros k) len (get_or text len 0) ≡ take (suc len) text ++ zeros m) (sym e) (one_more text len m h))

short : (c : goal.Left-loop-len) → length (take c.min.result c.args.text.now) ≤ 16
short c = omega (arith, c.min.ensures, length-take c.min.result c.args.text.now)

some : (c : goal.Left-loop-len) → 1 ≤ length (take c.min.result c.args.text.now)
some c = search rules

stops : (c : goal.Left-loop-len) → c.loop-len.len < length (take c.min.result c.args.text.now) → is_name_byte (get_or (take c.min.result c.args.text.now) c.loop-len.len 0) ≡ false
stops c h = elim c.loop-len-test.branch [ then-loop-len-test+else-name_byte w ↦ sym w.name_byte.ensures ∙ w.if-name_byte.false | else-loop-len-test w ↦ absurd (omega (arith, h, w.loop-len-test.false)) ]

pub loop-len-init : goal.loop-len-init
loop-len-init c = (refl, (omega arith, omega arith))

pub loop-len-preserved : goal.loop-len-preserved
loop-len-preserved c =
    let text = take c.min.result c.args.text.now in
    let i = c.loop-len.invariant in
    let small : length text ≤ 16 = omega (arith, c.min.ensures, length-take c.min.result c.args.text.now) in
    let longer = one_longer text c.loop-len.len c.loop-len-test.true i.1.0 (sym c.name_byte.ensures ∙ c.if-name_byte.true) in
    (ap (λ z. slice_set z c.loop-len.len (get_or text c.loop-len.len 0)) i.0 ∙ step text c.loop-len.len c.loop-len-test.true small, (omega (arith, longer), omega (arith, c.loop-len-test.true)))

pub invariant_of-result : goal.invariant_of-result
invariant_of-result c =
    let i = c.loop-len.invariant in
    (read_held (take c.min.result c.args.text.now) c.loop-len.len (short c) (some c) (sym c.letter.ensures ∙ c.if-not-letter.false) i.1.1 i.1.0 (stops c) c.loop-len.bytes i.0, refl)

same_front : (c : goal.Left-loop-len) → take c.loop-len.len (take c.min.result c.args.text.now) ≡ take c.loop-len.len c.args.text.now
same_front c = shorter c.args.text.now c.min.result c.loop-len.len (omega (arith, c.loop-len.invariant.1.1, length-take c.min.result c.args.text.now))

pub returns-clause-name : goal.returns-clause-name
returns-clause-name c =
    let i = c.loop-len.invariant in
    read_front (take c.min.result c.args.text.now) c.loop-len.len (short c) (some c) (sym c.letter.ensures ∙ c.if-not-letter.false) i.1.1 i.1.0 (stops c) c.loop-len.bytes i.0 ∙ same_front c

pub returns-clause-spelled : goal.returns-clause-spelled
returns-clause-spelled c =
    let i = c.loop-len.invariant in
    subst (λ z. is_name z ≡ true) (same_front c) (read_name (take c.min.result c.args.text.now) c.loop-len.len (short c) (some c) (sym c.letter.ensures ∙ c.if-not-letter.false) i.1.1 i.1.0 (stops c))

pub returns-clause-count : goal.returns-clause-count
returns-clause-count c =
    let i = c.loop-len.invariant in
    let all = read_len (take c.min.result c.args.text.now) c.loop-len.len (short c) (some c) (sym c.letter.ensures ∙ c.if-not-letter.false) i.1.1 i.1.0 (stops c) in
    omega (arith, all, capped c.args.text.now c.min.result, c.min.ensures, prefix_len-le-length is_name_byte c.args.text.now)
