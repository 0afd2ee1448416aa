use Rattle.std.proofs.Common.{◌≢◌, ◌∙◌, ◌%◌, ◌+◌, ap, sym}
use Rattle.std.specs.Int.{div_ceil}
use Rattle.protocol.specs.Memory.{pages_of_range}
use Rattle.context_core.proofs.PageCounts.{range-is, takes-empty, takes-none, takes-range}
use Rattle.context_core.proofs.counting.pages_of.Goals as goal
use Rattle.context_core.proofs.counting.pages_of.Goals.{then-length-eq0-via-then-length-eq0, then-length-eq0-via-else-length-eq0+then-not-takes_bytes}

pub returns-then-length-eq0 : goal.returns-then-length-eq0
returns-then-length-eq0 c = λ k domains e. elim c.then-length-eq0.branch [
  | then-length-eq0-via-then-length-eq0 w ↦ sym (takes-empty k c.args.request.now w.if-length-eq0.true)
  | then-length-eq0-via-else-length-eq0+then-not-takes_bytes w ↦ sym (takes-none k c.args.request.now (sym w.if-not-takes_bytes.ensures))
]

pub returns : goal.returns
returns c = λ k domains e.
    let some : c.args.request.now.shape.length ≢ 0 = c.if-length-eq0.false in
    c.div_ceil.ensures
    ∙ (ap (λ n. div_ceil (c.saturating_sub-off.result % 4096 + n) 4096) c.from.ensures
    ∙ (range-is c.saturating_sub-off.result c.args.request.now.shape.length some
    ∙ (ap (λ n. pages_of_range n c.args.request.now.shape.length) c.saturating_sub-off.ensures
    ∙ sym (takes-range k _ c.args.request.now c.base_of.result e (c.base_of.ensures domains) (sym c.if-not-takes_bytes.ensures)))))
