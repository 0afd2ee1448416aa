use Rattle.std.proofs.Common.{◌<◌, ◌-◌, ◌^◌, sym, ap, subst, ◌∙◌, arith, refl}
use Rattle.std.specs.Prelude.{IfSome, is_some}
use Rattle.memory_keys.specs.Regions.{IsNamed}
use Rattle.context_core.proofs.RegionRanges.{on-true, range-absent, range-inside, range-outside}
use Rattle.context_core.proofs.memory.range.Goals as goal

pub returns-in_default-clause-refused : goal.returns-in_default-clause-refused
returns-in_default-clause-refused c = λ pool k e. range-absent pool c.args.regions.now k c.args.name c.args.at c.args.length e (sym (ap is_some c.in_default.is) ∙ c.named.ensures.there pool)

pub returns-then-not-within-clause-refused : goal.returns-then-not-within-clause-refused
returns-then-not-within-clause-refused c = λ pool k e. range-outside pool c.args.regions.now k c.args.name c.args.at c.args.length c.in-Some.head e (sym (ap is_some c.in-Some.is) ∙ c.named.ensures.there pool) (subst (λ o. IfSome o (IsNamed c.args.regions.now c.args.name)) c.in-Some.is c.named.ensures.named) (sym c.within.ensures.holds ∙ c.if-not-within.true)

pub overflow_sub-result : goal.overflow_sub-result
overflow_sub-result c = on-true c.within.result c.within.ensures.low c.if-not-within.false

pub overflow_cast-result : goal.overflow_cast-result
overflow_cast-result c = let l : c.args.at - c.in-Some.head.base < 2 ^ 32 = on-true c.within.result c.within.ensures.offset c.if-not-within.false in omega (arith, l)

pub overflow_cast-result-2 : goal.overflow_cast-result-2
overflow_cast-result-2 c = let l : c.args.length < 2 ^ 32 = on-true c.within.result c.within.ensures.short c.if-not-within.false in omega (arith, l)

pub returns-clause-refused : goal.returns-clause-refused
returns-clause-refused c = λ pool k e. range-inside pool c.args.regions.now k c.args.name c.args.at c.args.length c.in-Some.head e (sym (ap is_some c.in-Some.is) ∙ c.named.ensures.there pool) (subst (λ o. IfSome o (IsNamed c.args.regions.now c.args.name)) c.in-Some.is c.named.ensures.named) (sym c.within.ensures.holds ∙ c.if-not-within.false)

pub returns-clause-range : goal.returns-clause-range
returns-clause-range c = record {
  head = c.in-Some.head;
  named = (subst (λ o. IfSome o (IsNamed c.args.regions.now c.args.name)) c.in-Some.is c.named.ensures.named);
  keyed = c.named.ensures.keyed;
  low = on-true c.within.result c.within.ensures.low c.if-not-within.false;
  high = on-true c.within.result c.within.ensures.high c.if-not-within.false;
  region = refl;
  off = refl;
  length = refl;
}
