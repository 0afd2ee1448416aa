use Rattle.std.proofs.Common.{arith, ◌≡◌, ◌+◌, map, drop, true, false, sym, ap, ◌∙◌, rules}
use Rattle.std.specs.Prelude.{◌&&◌}
use Rattle.protocol.specs.Settle.{same_marks}
use Rattle.settle_core.specs.Marks.{same_mark, view_mark}
use Rattle.settle_core.proofs.Compared.{all_dropped, lengths_apart, next_marks}
use Rattle.settle_core.proofs.notes.are_same.Goals as goal

pub returns-then-before-after : goal.returns-then-before-after
returns-then-before-after c = lengths_apart c.args.before.now c.args.after.now c.if-before-after.true

pub returns-then-not-is_same : goal.returns-then-not-is_same
returns-then-not-is_same c =
    let next = next_marks c.args.before.now c.args.after.now c.loop-i.i c.index-before-i.result c.index-after-i.result (omega arith) c.loop-i.invariant.0 c.index-before-i.is c.index-after-i.is in
    let differ : same_mark (view_mark c.index-before-i.result) (view_mark c.index-after-i.result) ≡ false = sym c.is_same.ensures ∙ search (rules, c.if-not-is_same.true) in
    sym (sym c.loop-i.invariant.1 ∙ (next ∙ ap (λ b. b && same_marks (map view_mark (drop (c.loop-i.i + 1) c.args.before.now)) (map view_mark (drop (c.loop-i.i + 1) c.args.after.now))) differ))

pub loop-i-preserved : goal.loop-i-preserved
loop-i-preserved c =
    let next = next_marks c.args.before.now c.args.after.now c.loop-i.i c.index-before-i.result c.index-after-i.result (omega arith) c.loop-i.invariant.0 c.index-before-i.is c.index-after-i.is in
    let same : same_mark (view_mark c.index-before-i.result) (view_mark c.index-after-i.result) ≡ true = sym c.is_same.ensures ∙ search (rules, c.if-not-is_same.false) in
    (c.loop-i.invariant.0, sym (next ∙ ap (λ b. b && same_marks (map view_mark (drop (c.loop-i.i + 1) c.args.before.now)) (map view_mark (drop (c.loop-i.i + 1) c.args.after.now))) same) ∙ c.loop-i.invariant.1)

pub returns : goal.returns
returns c = sym (all_dropped c.args.before.now c.args.after.now c.loop-i.i c.loop-i.invariant.0 (omega arith)) ∙ c.loop-i.invariant.1
