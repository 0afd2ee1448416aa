use Rattle.std.proofs.Common.{◌≡◌, ◌++◌, [], ◌∷◌, List, ℕ, take, get_or, ap, append_assoc, ◌∙◌}
use Rattle.std.proofs.lemmas.List.{take_all}
use Rattle.hex.specs.Hex.{encode_lower}
use Rattle.script_lang.specs.Printed.{Keeps}
use Rattle.script_lang.proofs.Writing.{keeps_after, hex_start, hex_step, on_err}
use Rattle.script_lang.proofs.print.put_hex.Goals as goal

pub loop-b-init : goal.loop-b-init
loop-b-init c = hex_start c.put.new.out.items

pub loop-b-preserved : goal.loop-b-preserved
loop-b-preserved c =
    let more : c.put-in-loop-b.new.out.items ≡ c.loop-b.out.items ++ encode_lower (get_or c.args.bytes.now c.loop-b.b-index 0 ∷ []) =
    c.in_ok-put-2.ensures.ok ∙ ap (λ (z : List ℕ). c.loop-b.out.items ++ z) c.hex_pair.ensures in
    hex_step c.args.bytes.now c.loop-b.b-index c.put.new.out.items c.loop-b.out.items c.put-in-loop-b.new.out.items
    c.loop-b-test.true c.loop-b.invariant more

pub returns-in_err-put-2-clause-err : goal.returns-in_err-put-2-clause-err
returns-in_err-put-2-clause-err c =
    let from_word : Keeps c.put.new.out.items c.put-in-loop-b.new.out.items =
    keeps_after c.put.new.out.items (encode_lower (take c.loop-b.b-index c.args.bytes.now)) c.loop-b.out.items c.put-in-loop-b.new.out.items
    c.loop-b.invariant c.in_err-put-2.ensures.err in
    let kept : Keeps c.args.out.now.items c.put-in-loop-b.new.out.items =
    keeps_after c.args.out.now.items c.args.word.now c.put.new.out.items c.put-in-loop-b.new.out.items c.in_ok-put.ensures.ok from_word in
    on_err c.from_residual-in_err-put-2.result (Keeps c.args.out.now.items c.put-in-loop-b.new.out.items) kept

pub returns-clause-ok : goal.returns-clause-ok
returns-clause-ok c =
    let told : List ℕ = encode_lower (take c.loop-b.b-index c.args.bytes.now) in
    c.loop-b.invariant ∙ ap (λ (z : List ℕ). z ++ told) c.in_ok-put.ensures.ok ∙ append_assoc c.args.out.now.items c.args.word.now told
    ∙ ap (λ (bs : List ℕ). c.args.out.now.items ++ (c.args.word.now ++ encode_lower bs)) (take_all c.loop-b.b-index c.args.bytes.now c.loop-b-test.false)
