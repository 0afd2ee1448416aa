use Rattle.std.proofs.Common.{◌+◌, ◌∙◌, ap, refl, length, take, arith}
use Rattle.std.proofs.lemmas.List.{length_push}
use Rattle.page_pool.specs.Store.{times}
use Rattle.page_pool.specs.Ledger.{own_number, own_numbers}
use Rattle.page_pool.proofs.Counts.{times-none}
use Rattle.page_pool.proofs.Steps.{held-before, held-next, give-more, sum-less, length-changed}
use Rattle.page_pool.proofs.Owned.{own-none, own-more_own, own-more_shared, times-own-take}
use Rattle.page_pool.proofs.claims.give_pages.Goals.{in-Own, in_default}
use Rattle.page_pool.proofs.claims.give_pages.Goals as goal

pub loop-page-init : goal.loop-page-init
loop-page-init c = (c.requires.sound, refl, λ p. omega (arith, times-none p, ap (times p) own-none), omega (arith, ap length own-none), λ p h. refl)

pub release-requires : goal.release-requires
release-requires c =
    let q = c.in-Own.number in
    let ps = c.args.pages.now in
    let i = c.loop-page.page-index in
    record { held = held-next c.args.frames.now.holders c.loop-page.frames.holders (own_numbers (take i ps)) (own_numbers (take (i + 1) ps)) (own_numbers ps) q (own-more_own ps i c.page-item.result q c.loop-page-test.true c.page-item.is c.in-Own.is) (times-own-take ps (i + 1) q) (c.loop-page.invariant.2 q) (c.requires.held q) }

pub loop-page-preserved : goal.loop-page-preserved
loop-page-preserved c =
    let hs0 = c.args.frames.now.holders in
    let hs = c.loop-page.frames.holders in
    let ps = c.args.pages.now in
    let i = c.loop-page.page-index in
    let x = c.page-item.result in
    elim c.match-page.branch [
      | in-Own w ↦
          let q = w.in-Own.number in
          let more = own-more_own ps i x q c.loop-page-test.true c.page-item.is w.in-Own.is in
          let held = held-next hs0 hs (own_numbers (take i ps)) (own_numbers (take (i + 1) ps)) (own_numbers ps) q more (times-own-take ps (i + 1) q) (c.loop-page.invariant.2 q) (c.requires.held q) in
          let is = w.release.ensures.holders in
          rw w.frames-is (
            w.release.ensures.sound,
            length-changed hs w.release.new.self.holders q _ is ∙ c.loop-page.invariant.1,
            λ p. give-more hs0 hs w.release.new.self.holders (own_numbers (take i ps)) (own_numbers (take (i + 1) ps)) q p held is more (c.loop-page.invariant.2 p),
            omega (arith, sum-less hs w.release.new.self.holders q held is, ap length more, length_push (own_numbers (take i ps)) q),
            λ p h. w.release.ensures.kept p h ∙ c.loop-page.invariant.4 p (held-before hs w.release.new.self.holders q p held is h),
          )
      | in_default w ↦
          let same = own-more_shared ps i x c.loop-page-test.true c.page-item.is (ap own_number w.in_default.is) in
          rw w.frames-is (
            c.loop-page.invariant.0,
            c.loop-page.invariant.1,
            λ p. omega (arith, c.loop-page.invariant.2 p, ap (times p) same),
            omega (arith, c.loop-page.invariant.3, ap length same),
            c.loop-page.invariant.4,
          )
    ]
