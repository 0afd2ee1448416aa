use Rattle.std.proofs.Common.{◌+◌, ◌<◌, ◌∙◌, ap, refl, length, take, arith, get_or}
use Rattle.std.proofs.lemmas.List.{length_push}
use Rattle.page_pool.specs.Store.{Store, times}
use Rattle.page_pool.specs.Ledger.{own_number, own_numbers}
use Rattle.page_pool.proofs.Counts.{times-none}
use Rattle.page_pool.proofs.Steps.{inside, hold-more, sum-more, length-changed}
use Rattle.page_pool.proofs.Owned.{own-none, own-there, own-there_held, own-more_own, own-more_shared}
use Rattle.page_pool.proofs.claims.hold_pages.Goals.{in-Own, in_default}
use Rattle.page_pool.proofs.claims.hold_pages.Goals as goal

pub loop-page-init : goal.loop-page-init
loop-page-init c = (c.requires.sound, refl, λ p. omega (arith, times-none p, ap (times p) own-none), omega (arith, ap length own-none), refl)

pub hold-requires-clause-held : goal.hold-requires-clause-held
hold-requires-clause-held c = omega (arith, c.loop-page.invariant.2 c.in-Own.number, own-there_held c.args.frames.now.holders c.args.pages.now c.loop-page.page-index c.page-item.result c.in-Own.number c.loop-page-test.true c.page-item.is c.in-Own.is c.requires.held)

pub hold-requires-clause-room : goal.hold-requires-clause-room
hold-requires-clause-room c = omega (arith, c.loop-page.invariant.1, c.loop-page.invariant.3, c.requires.free, own-there c.args.pages.now c.loop-page.page-index c.page-item.result c.in-Own.number c.loop-page-test.true c.page-item.is c.in-Own.is)

pub loop-page-preserved : goal.loop-page-preserved
loop-page-preserved c =
    let hs0 = c.args.frames.now.holders in
    let hs = c.loop-page.frames.holders in
    let ps = c.args.pages.now in
    let i = c.loop-page.page-index in
    let x = c.page-item.result in
    elim c.match-page.branch [
      | in-Own w ↦
          let q = w.in-Own.number in
          let more = own-more_own ps i x q c.loop-page-test.true c.page-item.is w.in-Own.is in
          let held : 0 < get_or c.loop-page.frames.holders w.in-Own.number 0 = omega (arith, c.loop-page.invariant.2 w.in-Own.number, own-there_held hs0 ps i x q c.loop-page-test.true c.page-item.is w.in-Own.is c.requires.held) in
          let there = inside hs q held in
          let is = ap (λ (s : Store). s.holders) w.hold.ensures.new in
          rw w.frames-is (
            w.hold.ensures.sound,
            length-changed hs w.hold.new.self.holders q _ is ∙ c.loop-page.invariant.1,
            λ p. hold-more hs0 hs w.hold.new.self.holders (own_numbers (take i ps)) (own_numbers (take (i + 1) ps)) q p there is more (c.loop-page.invariant.2 p),
            omega (arith, sum-more hs w.hold.new.self.holders q _ there refl is, ap length more, length_push (own_numbers (take i ps)) q),
            ap (λ (s : Store). s.bytes) w.hold.ensures.new ∙ c.loop-page.invariant.4,
          )
      | in_default w ↦
          let same = own-more_shared ps i x c.loop-page-test.true c.page-item.is (ap own_number w.in_default.is) in
          rw w.frames-is (
            c.loop-page.invariant.0,
            c.loop-page.invariant.1,
            λ p. omega (arith, c.loop-page.invariant.2 p, ap (times p) same),
            omega (arith, c.loop-page.invariant.3, ap length same),
            c.loop-page.invariant.4,
          )
    ]
