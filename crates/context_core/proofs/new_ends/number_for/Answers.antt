use Rattle.std.proofs.Common.{◌≡◌, ◌∙◌, sym, ap, true, false, arith, length}
use Rattle.std.specs.Prelude.{◌||◌, is_none, nat_le, []}
use Rattle.std.specs.Map.{keys_of}
use Rattle.std.proofs.lemmas.Bool.Decides.{nat_tests}
use Rattle.rdma_types.specs.Limits.{most_ends}
use Rattle.rdma_types.specs.Lists.{has_word}
use Rattle.rdma_types.specs.declared.answers.Refusal.TheVariants.{NumberTaken, TooMany}
use Rattle.context_core.proofs.CreatedEnds.{or-true, word-lookup}
use Rattle.context_core.proofs.FirstCause.{first-holds, first-passed, none-holds}
use Rattle.context_core.proofs.new_ends.number_for.Goals as goal

pub returns-then-contains_key-clause-refused : goal.returns-then-contains_key-clause-refused
returns-then-contains_key-clause-refused c = sym (first-holds NumberTaken (has_word c.args.name (keys_of c.args.ends.now.entries)) _ (sym (word-lookup c.args.name c.args.ends.now.entries) ∙ (sym c.contains_key.ensures ∙ c.if-contains_key.true)))

pub returns-in-Some-clause-absent : goal.returns-in-Some-clause-absent
returns-in-Some-clause-absent c = sym (word-lookup c.args.name c.args.ends.now.entries) ∙ (sym c.contains_key.ensures ∙ c.if-contains_key.false)

pub returns-in-Some-clause-refused : goal.returns-in-Some-clause-refused
returns-in-Some-clause-refused c =
    let absent : has_word c.args.name (keys_of c.args.ends.now.entries) ≡ false = sym (word-lookup c.args.name c.args.ends.now.entries) ∙ (sym c.contains_key.ensures ∙ c.if-contains_key.false) in
    let few : nat_le most_ends (length c.args.ends.now.entries) ≡ false = grind (arith, nat_tests, c.len.ensures.len, c.if-len-lt-MOST_ENDS.true) in
    let some : is_none c.args.number ≡ false = ap is_none c.in-Some.is in
    let neither : (nat_le most_ends (length c.args.ends.now.entries) || is_none c.args.number) ≡ false = ap (λ b. b || is_none c.args.number) few ∙ some in
    sym (first-passed NumberTaken (has_word c.args.name (keys_of c.args.ends.now.entries)) _ absent ∙ (first-passed TooMany (nat_le most_ends (length c.args.ends.now.entries) || is_none c.args.number) [] neither ∙ none-holds))

pub returns-in_default-clause-refused : goal.returns-in_default-clause-refused
returns-in_default-clause-refused c =
    let absent : has_word c.args.name (keys_of c.args.ends.now.entries) ≡ false = sym (word-lookup c.args.name c.args.ends.now.entries) ∙ (sym c.contains_key.ensures ∙ c.if-contains_key.false) in
    let many : nat_le most_ends (length c.args.ends.now.entries) ≡ true = grind (arith, nat_tests, c.len.ensures.len, c.if-len-lt-MOST_ENDS.false) in
    sym (first-passed NumberTaken (has_word c.args.name (keys_of c.args.ends.now.entries)) _ absent ∙ first-holds TooMany (nat_le most_ends (length c.args.ends.now.entries) || is_none c.args.number) [] (ap (λ b. b || is_none c.args.number) many))

pub returns-in_default-2-clause-refused : goal.returns-in_default-2-clause-refused
returns-in_default-2-clause-refused c =
    let absent : has_word c.args.name (keys_of c.args.ends.now.entries) ≡ false = sym (word-lookup c.args.name c.args.ends.now.entries) ∙ (sym c.contains_key.ensures ∙ c.if-contains_key.false) in
    sym (first-passed NumberTaken (has_word c.args.name (keys_of c.args.ends.now.entries)) _ absent
    ∙ first-holds TooMany (nat_le most_ends (length c.args.ends.now.entries) || is_none c.args.number) [] (ap (λ b. nat_le most_ends (length c.args.ends.now.entries) || b) (ap is_none c.in_default.is) ∙ or-true (nat_le most_ends (length c.args.ends.now.entries))))
