use Rattle.std.proofs.Common.{◌≡◌, ◌+◌, ◌-◌, ◌≤◌, length, drop, take, subst, arith, ap, ◌∙◌, length-drop}
use Rattle.std.proofs.lemmas.List.{length-take}
use Rattle.std.proofs.lemmas.List.Sums.{prefix_len-le-length}
use Rattle.rdma_types.specs.Spelled.{is_name, is_name_byte}
use Rattle.script_lang.proofs.Nexts.{object_next, whole_tail}
use Rattle.script_lang.proofs.words.object_after.Goals as goal

name_within : (c : goal.Else-not-ends_at) → c.in_ok-name.count ≤ length (drop (c.past_spaces-start.result + c.in_ok-context.count + 1) c.args.line.now)
name_within c =
    let start = c.past_spaces-start.result + c.in_ok-context.count + 1 in
    let rest = take (length c.args.line.now - start) (drop start c.args.line.now) in
    omega (arith, c.in_ok-name.ensures.count, prefix_len-le-length is_name_byte rest, length-take (length c.args.line.now - start) (drop start c.args.line.now))

pub returns-clause-object : goal.returns-clause-object
returns-clause-object c =
    object_next c.args.line.now c.args.at c.past_spaces-start.result c.in_ok-context.count c.in_ok-name.count c.in_ok-context.context c.in_ok-name.name
    c.past_spaces-start.ensures.words c.past_spaces-start.ensures.front
    (subst (λ rest. c.in_ok-context.context ≡ take c.in_ok-context.count rest) (whole_tail c.args.line.now c.past_spaces-start.result) c.in_ok-context.ensures.name) (ap is_name c.in_ok-context.ensures.name ∙ c.in_ok-context.ensures.spelled)
    c.if-dot-line.false c.if-line-dot-ne46.false
    (subst (λ rest. c.in_ok-name.name ≡ take c.in_ok-name.count rest) (whole_tail c.args.line.now (c.past_spaces-start.result + c.in_ok-context.count + 1)) c.in_ok-name.ensures.name) (ap is_name c.in_ok-name.ensures.name ∙ c.in_ok-name.ensures.spelled)
    (name_within c) (λ h. c.ends_at.ensures c.if-not-ends_at.false h)

pub returns-clause-within : goal.returns-clause-within
returns-clause-within c = omega (arith, name_within c, c.if-dot-line.false, length-drop (c.past_spaces-start.result + c.in_ok-context.count + 1) c.args.line.now)
