-- The request of a number lands, or its numbers are passed.
use Rattle.std.proofs.Common.{◌≡◌, ◌+◌, ◌≤◌, ℕ, suc, List, false, arith, sym, ◌∙◌}
use Rattle.std.specs.Prelude.{Some, slice_get}
use Rattle.rdma_types.specs.Kinds.{kind_of, lands}
use Rattle.rdma_types.specs.Objects.{Posted}
use Rattle.rdma_types.specs.Spans.{first_number, next_landing, piece_of, request_of}
use Rattle.requester.specs.declared.marks.Mark.{Mark}
use Rattle.requester.specs.Marks.{IsMark}
use Rattle.rdma_types.proofs.Numbers.{ends, found, landing_after, landing_before_end, piece_below, split}
use Rattle.requester.specs.Sending.{bare, bares}
use Rattle.requester.proofs.Bares.{bare_at, bare_none}
use Rattle.rdma_types.proofs.Places.{at_end, first-suc, landing_between, landing_here, landing_skips}
use Rattle.requester.proofs.marks.seek_barrier.Goals as goal

-- the barrier of a number of a request for which nothing lands is that of its first number
skipped : (us : List Posted) (mtu n : ℕ) (m : Mark) (p : Posted) → IsMark us mtu m → m.index ≡ request_of us mtu n → m.offset ≤ n → slice_get us m.index ≡ Some p → lands (kind_of p) ≡ false → next_landing us mtu n ≡ next_landing us mtu m.offset
skipped us mtu n m p mark index before there passes =
    let below = piece_below us mtu n p (rw index at there) in
    let sum : first_number us mtu m.index + piece_of us mtu n ≡ n = rw index (split us mtu n) in
    let next = first-suc us mtu m.index p there in
    let skip : next_landing us mtu m.offset ≡ next_landing us mtu (first_number us mtu (suc m.index)) = rw mark.offset (landing_skips us mtu m.index p there passes) in
    let after = landing_after us mtu (first_number us mtu (suc m.index)) in
    landing_between us mtu m.offset n before (omega (arith, below, sum, next, skip, after))

pub returns-in_default-clause-number : goal.returns-in_default-clause-number
returns-in_default-clause-number c =
    let none = bare_none c.args.queue.now.items c.seek-at.result.index (sym c.in_default.ensures) in
    let last = at_end (bares c.args.queue.now.items) c.seek-at.result.index none c.seek-at.ensures.mark.within in
    let off = rw last at c.seek-at.ensures.mark.offset in
    let whole = ends (bares c.args.queue.now.items) c.args.mtu in
    let after = landing_after (bares c.args.queue.now.items) c.args.mtu c.args.n in
    let before = landing_before_end (bares c.args.queue.now.items) c.args.mtu c.args.n c.requires.within in
    omega (arith, off, whole, after, before, c.seek-at.ensures.before)

pub returns-then-lands-clause-number : goal.returns-then-lands-clause-number
returns-then-lands-clause-number c =
    let there = bare_at c.args.queue.now.items c.seek-at.result.index c.in-Some.p.now (sym c.in-Some.ensures) in
    let piece = found (bares c.args.queue.now.items) c.args.mtu c.args.n (bare c.in-Some.p.now) (rw c.seek-at.ensures.index at there) in
    sym (landing_here (bares c.args.queue.now.items) c.args.mtu c.args.n _ piece (sym c.lands.ensures ∙ c.if-lands.true))

pub returns-clause-number : goal.returns-clause-number
returns-clause-number c =
    let there = bare_at c.args.queue.now.items c.seek-at.result.index c.in-Some.p.now (sym c.in-Some.ensures) in
    c.seek_landing-at.ensures.landing ∙ sym (skipped (bares c.args.queue.now.items) c.args.mtu c.args.n c.seek-at.result (bare c.in-Some.p.now) c.seek-at.ensures.mark c.seek-at.ensures.index c.seek-at.ensures.before there (sym c.lands.ensures ∙ c.if-lands.false))
