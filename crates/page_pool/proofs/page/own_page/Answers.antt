use Rattle.std.proofs.Common.{◌≡◌, ◌<◌, ◌*◌, ◌∙◌, ap, sym, subst, length, get_or, arith}
use Rattle.std.proofs.lemmas.Bool.Decides.{nat_tests}
use Rattle.page_pool.specs.Store.{Store}
use Rattle.page_pool.specs.Ledger.{IsWholePage, own_number, page_at, page_bytes}
use Rattle.rdma_types.specs.Memory.{cut}
use Rattle.rdma_types.proofs.Cuts.{length-cut}
use Rattle.page_pool.proofs.Steps.{inside}
use Rattle.page_pool.proofs.Owned.{fresh-counted, fork-counted, fork-sum, written-kept, written-here}
use Rattle.page_pool.proofs.page.own_page.Goals as goal

pub returns-in-Shared-clause-counted : goal.returns-in-Shared-clause-counted
returns-in-Shared-clause-counted c = λ p. fresh-counted c.args.frames.now.holders c.fresh.new.self.holders (own_number c.args.page.now) c.fresh.result p (ap own_number c.in-Shared.is) c.fresh.ensures.page c.fresh.ensures.idle (ap (λ (s : Store). s.holders) c.fresh.ensures.new)

pub returns-in-Shared-clause-kept : goal.returns-in-Shared-clause-kept
returns-in-Shared-clause-kept c =
    let whole : length c.deref.result.now ≡ 4096 = ap length c.deref.ensures ∙ subst IsWholePage c.in-Shared.is c.requires.whole in
    λ p h. written-kept c.args.frames.now.holders c.args.frames.now.bytes c.fresh.new.self.bytes c.deref.result.now c.fresh.result p c.requires.sound.whole c.fresh.ensures.page c.fresh.ensures.idle whole (ap (λ (s : Store). s.bytes) c.fresh.ensures.new) (omega (arith, h))

pub returns-in-Shared-clause-bytes : goal.returns-in-Shared-clause-bytes
returns-in-Shared-clause-bytes c =
    let whole : length c.deref.result.now ≡ 4096 = ap length c.deref.ensures ∙ subst IsWholePage c.in-Shared.is c.requires.whole in
    written-here c.args.frames.now.holders c.args.frames.now.bytes c.fresh.new.self.bytes c.deref.result.now c.fresh.result c.requires.sound.whole c.fresh.ensures.page whole (ap (λ (s : Store). s.bytes) c.fresh.ensures.new)
    ∙ (c.deref.ensures ∙ ap (page_bytes c.args.frames.now.bytes) (sym c.in-Shared.is))

pub returns-in-Own-clause-counted : goal.returns-in-Own-clause-counted
returns-in-Own-clause-counted c =
    let shared : 1 < get_or c.args.frames.now.holders c.in-Own.number 0 = grind (arith, nat_tests) in
    λ p. fork-counted c.args.frames.now.holders c.fork.new.self.holders (own_number c.args.page.now) c.in-Own.number c.fork.result p (ap own_number c.in-Own.is) shared c.fork.ensures.page c.fork.ensures.idle (ap (λ (s : Store). s.holders) c.fork.ensures.new)

pub returns-in-Own-clause-total : goal.returns-in-Own-clause-total
returns-in-Own-clause-total c =
    let shared : 1 < get_or c.args.frames.now.holders c.in-Own.number 0 = grind (arith, nat_tests) in
    fork-sum c.args.frames.now.holders c.fork.new.self.holders (own_number c.args.page.now) c.in-Own.number c.fork.result (ap own_number c.in-Own.is) shared c.fork.ensures.page c.fork.ensures.idle (ap (λ (s : Store). s.holders) c.fork.ensures.new)

pub returns-in-Own-clause-kept : goal.returns-in-Own-clause-kept
returns-in-Own-clause-kept c =
    let shared : 1 < get_or c.args.frames.now.holders c.in-Own.number 0 = grind (arith, nat_tests) in
    let there : c.in-Own.number < length c.args.frames.now.holders = inside c.args.frames.now.holders c.in-Own.number (omega arith) in
    let whole : length (cut (4096 * c.in-Own.number) 4096 c.args.frames.now.bytes) ≡ 4096 = length-cut (4096 * c.in-Own.number) 4096 c.args.frames.now.bytes (omega (arith, c.requires.sound.whole)) in
    λ p h. written-kept c.args.frames.now.holders c.args.frames.now.bytes c.fork.new.self.bytes _ c.fork.result p c.requires.sound.whole c.fork.ensures.page c.fork.ensures.idle whole (ap (λ (s : Store). s.bytes) c.fork.ensures.new) (omega (arith, h))

pub returns-in-Own-clause-bytes : goal.returns-in-Own-clause-bytes
unfolding page_at
returns-in-Own-clause-bytes c =
    let shared : 1 < get_or c.args.frames.now.holders c.in-Own.number 0 = grind (arith, nat_tests) in
    let there : c.in-Own.number < length c.args.frames.now.holders = inside c.args.frames.now.holders c.in-Own.number (omega arith) in
    let whole : length (cut (4096 * c.in-Own.number) 4096 c.args.frames.now.bytes) ≡ 4096 = length-cut (4096 * c.in-Own.number) 4096 c.args.frames.now.bytes (omega (arith, c.requires.sound.whole)) in
    written-here c.args.frames.now.holders c.args.frames.now.bytes c.fork.new.self.bytes _ c.fork.result c.requires.sound.whole c.fork.ensures.page whole (ap (λ (s : Store). s.bytes) c.fork.ensures.new)
    ∙ ap (page_bytes c.args.frames.now.bytes) (sym c.in-Own.is)
