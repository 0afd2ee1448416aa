use Rattle.std.proofs.Common.{◌≡◌, ◌∙◌, None, sym, rules}
use Rattle.endpoint_core.proofs.Expired.{counted-is, not-counted-never}
use Rattle.endpoint_core.proofs.end.EndLink.expire.Goals as goal

pub returns-in-Counted-clause-answer : goal.returns-in-Counted-clause-answer
returns-in-Counted-clause-answer c = λ pool same.
    let none : c.why_not.result ≡ None = search rules in
    counted-is pool c.args.self.now c.expire.result c.expire.new.self (sym (c.why_not.ensures pool) ∙ none) same c.expire.ensures.answer c.in-Counted.count c.in-Counted.is c.expire.ensures.numbers c.expire.ensures.kept.items

pub returns-in-NotCounted-clause-answer : goal.returns-in-NotCounted-clause-answer
returns-in-NotCounted-clause-answer c = λ pool same.
    let none : c.why_not.result ≡ None = search rules in
    absurd (not-counted-never pool c.args.self.now c.expire.result c.expire.new.self (sym (c.why_not.ensures pool) ∙ none) same c.expire.ensures.answer c.in-NotCounted.is)
