use Rattle.std.proofs.Common.{◌≡◌, ◌<◌, ◌≤◌, ◌+◌, ◌++◌, inl, inr, length, take, ap, refl, arith}
use Rattle.std.proofs.lemmas.Grind.{common_steps}
use Rattle.host_ports.proofs.Chains.{Takes-then, TakesAll-from, TakesCount-apart, TakesCount-from}
use Rattle.host_ports.proofs.reading.read_all.Goals as goal

pub returns-then-n-room-clause-long : goal.returns-then-n-room-clause-long
returns-then-n-room-clause-long g c =
    let long : length (c.loop-bytes.bytes.items ++ take c.in_ok-n.n c.read.new.out) ≡ c.args.limit + 1 = grind (arith, common_steps) in
    λ _. TakesCount-from _ _ _ _ (Takes-then _ _ _ _ _ c.loop-bytes.invariant.taken c.in_ok-n.ensures.taken) long

pub returns-in_err-extend_from_slice-clause-memory : goal.returns-in_err-extend_from_slice-clause-memory
returns-in_err-extend_from_slice-clause-memory g c =
    let taken : length (c.loop-bytes.bytes.items ++ take c.in_ok-n.n c.read.new.out) ≤ c.args.limit = grind (arith, common_steps) in
    λ _. (length (c.loop-bytes.bytes.items ++ take c.in_ok-n.n c.read.new.out), taken, TakesCount-from _ _ _ _ (Takes-then _ _ _ _ _ c.loop-bytes.invariant.taken c.in_ok-n.ensures.taken) refl)

pub returns-in_err-n-clause-fault : goal.returns-in_err-n-clause-fault
returns-in_err-n-clause-fault g c = λ _. (length c.loop-bytes.bytes.items, c.loop-bytes.invariant.short, rw c.in_err-n.ensures.err (TakesCount-from _ _ _ _ c.loop-bytes.invariant.taken refl))

pub returns-in_err-n-clause-long_only : goal.returns-in_err-n-clause-long_only
returns-in_err-n-clause-long_only g c = λ some count.
    let here = rw c.in_err-n.ensures.err at count in
    absurd (TakesCount-apart _ _ c.loop-bytes.bytes.items (c.args.limit + 1) some c.loop-bytes.invariant.taken (omega arith) here)

pub returns-in_err-extend_from_slice-clause-long_only : goal.returns-in_err-extend_from_slice-clause-long_only
returns-in_err-extend_from_slice-clause-long_only g c = λ some count.
    let taken : length (c.loop-bytes.bytes.items ++ take c.in_ok-n.n c.read.new.out) ≤ c.args.limit = grind (arith, common_steps) in
    absurd (TakesCount-apart _ _ _ (c.args.limit + 1) some (Takes-then _ _ _ _ _ c.loop-bytes.invariant.taken c.in_ok-n.ensures.taken) (omega arith) count)

pub returns-then-n-eq0-clause-long_only : goal.returns-then-n-eq0-clause-long_only
returns-then-n-eq0-clause-long_only g c = λ some count.
    let taken : length (c.loop-bytes.bytes.items ++ take c.in_ok-n.n c.read.new.out) ≤ c.args.limit = grind (arith, common_steps) in
    absurd (TakesCount-apart _ _ _ (c.args.limit + 1) some (Takes-then _ _ _ _ _ c.loop-bytes.invariant.taken c.in_ok-n.ensures.taken) (omega arith) count)

pub returns-then-n-eq0-clause-all : goal.returns-then-n-eq0-clause-all
returns-then-n-eq0-clause-all g c =
    let some : 0 < length (take c.min-wanted.result c.loop-bytes.piece) = grind (arith, common_steps) in
    TakesAll-from _ _ _ _ _ c.loop-bytes.invariant.taken c.in_ok-n.ensures.taken (elim (c.in_ok-n.ensures.end (omega arith)) [ inl e ↦ e | inr e ↦ absurd (omega (arith, ap length e)) ])
