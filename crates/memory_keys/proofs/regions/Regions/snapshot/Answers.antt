use Rattle.std.proofs.Common.{arith, ap, sym, ◌∙◌}
use Rattle.std.specs.Option.{option_copied}
use Rattle.rdma_types.specs.Memory.{cut}
use Rattle.page_pool.specs.Held.{payload_bytes}
use Rattle.page_pool.proofs.Writes.{in-after}
use Rattle.memory_keys.proofs.Spots.{spot-in, spot-is, spot-empty, lies-pages, pages-within, touched-is, none-pages, snap, snap-pages, told}
use Rattle.memory_keys.proofs.Stores.{others-new, regions-new}
use Rattle.memory_keys.proofs.regions.Regions.snapshot.Goals as goal

pub returns-then-spot-eq0-clause-bytes : goal.returns-then-spot-eq0-clause-bytes
unfolding payload_bytes cut
returns-then-spot-eq0-clause-bytes c = sym (spot-empty c.args.pool.now c.args.self.now c.args.spot (omega arith))

pub share-requires-clause-inside : goal.share-requires-clause-inside
share-requires-clause-inside c =
    let e = sym c.find.ensures.found ∙ ap option_copied c.unwrap-held.ensures in
    let s = spot-in c.args.pool.now c.args.self.now c.args.spot c.unwrap-held.result.now c.requires.held c.requires.spot (omega arith) e in
    let pages = pages-within c.args.spot.off c.args.spot.length c.unwrap-held.result.now.head.length _ s.1 (lies-pages c.args.pool.now c.unwrap-held.result.now s.0) in
    omega (arith, pages, c.div_ceil-count.ensures, c.from.ensures, c.from-2.ensures)

pub returns-in_err-list-2-clause-no_page : goal.returns-in_err-list-2-clause-no_page
returns-in_err-list-2-clause-no_page c =
    let touched = touched-is c.args.spot c.div_ceil-count.result c.from.result c.from-2.result c.if-spot-eq0.false c.div_ceil-count.ensures c.from.ensures c.from-2.ensures in
    rw touched (told c.from_residual-in_err-list-2.result c.in_err-list-2.field-0.0 _ c.div_ceil-count.result c.from_residual-in_err-list-2.ensures.1 c.in_err-list-2.ensures.no_page)

pub returns-clause-holds : goal.returns-clause-holds
returns-clause-holds c =
    let e = sym c.find.ensures.found ∙ ap option_copied c.unwrap-held.ensures in
    let s = spot-in c.args.pool.now c.args.self.now c.args.spot c.unwrap-held.result.now c.requires.held c.requires.spot (omega arith) e in
    record {
      lives = in-after c.args.pool.now c.share.new.self c.in_ok-list-2.list _ c.in_ok-list-2.ensures.puts;
      inside = (snap c.args.pool.now c.share.new.self c.unwrap-held.result.now c.in_ok-list-2.list c.args.spot.off c.args.spot.length c.div_ceil-count.result s.0 s.1 (omega (arith, c.div_ceil-count.ensures, c.from.ensures, c.from-2.ensures)) c.in_ok-list-2.ensures.puts).0;
    }

pub returns-clause-bytes : goal.returns-clause-bytes
unfolding payload_bytes
returns-clause-bytes c =
    let e = sym c.find.ensures.found ∙ ap option_copied c.unwrap-held.ensures in
    let s = spot-in c.args.pool.now c.args.self.now c.args.spot c.unwrap-held.result.now c.requires.held c.requires.spot (omega arith) e in
    (snap c.args.pool.now c.share.new.self c.unwrap-held.result.now c.in_ok-list-2.list c.args.spot.off c.args.spot.length c.div_ceil-count.result s.0 s.1 (omega (arith, c.div_ceil-count.ensures, c.from.ensures, c.from-2.ensures)) c.in_ok-list-2.ensures.puts).1
    ∙ sym (spot-is c.args.pool.now c.args.self.now c.args.spot c.unwrap-held.result.now e)

pub returns-clause-free : goal.returns-clause-free
returns-clause-free c =
    let touched = touched-is c.args.spot c.div_ceil-count.result c.from.result c.from-2.result c.if-spot-eq0.false c.div_ceil-count.ensures c.from.ensures c.from-2.ensures in
    rw touched c.in_ok-list-2.ensures.free

pub returns-clause-no_page : goal.returns-clause-no_page
returns-clause-no_page c =
    let touched = touched-is c.args.spot c.div_ceil-count.result c.from.result c.from-2.result c.if-spot-eq0.false c.div_ceil-count.ensures c.from.ensures c.from-2.ensures in
    (λ q. absurd (cc), λ few. absurd (omega (arith, few, touched, c.in_ok-list-2.ensures.free)))

pub share-requires-clause-held : goal.share-requires-clause-held
share-requires-clause-held c =
    let e = sym c.find.ensures.found ∙ ap option_copied c.unwrap-held.ensures in
    (spot-in c.args.pool.now c.args.self.now c.args.spot c.unwrap-held.result.now c.requires.held c.requires.spot (omega arith) e).0.lives

pub returns-then-spot-eq0-clause-regions : goal.returns-then-spot-eq0-clause-regions
returns-then-spot-eq0-clause-regions c = regions-new c.args.pool.now c.take.new.self c.in_ok-list.list _ c.args.self.now c.requires.held c.in_ok-list.ensures.new c.in_ok-list.ensures.puts

pub returns-clause-regions : goal.returns-clause-regions
returns-clause-regions c = regions-new c.args.pool.now c.share.new.self c.in_ok-list-2.list _ c.args.self.now c.requires.held c.in_ok-list-2.ensures.new c.in_ok-list-2.ensures.puts

pub returns-then-spot-eq0-clause-apart : goal.returns-then-spot-eq0-clause-apart
returns-then-spot-eq0-clause-apart c = others-new c.args.pool.now c.in_ok-list.list c.args.self.now c.requires.held.lie c.in_ok-list.ensures.new

pub returns-clause-apart : goal.returns-clause-apart
returns-clause-apart c = others-new c.args.pool.now c.in_ok-list-2.list c.args.self.now c.requires.held.lie c.in_ok-list-2.ensures.new

pub returns-then-spot-eq0-clause-pages : goal.returns-then-spot-eq0-clause-pages
returns-then-spot-eq0-clause-pages c = none-pages c.take.new.self c.in_ok-list.list c.args.spot c.if-spot-eq0.true c.in_ok-list.ensures.puts.here

pub returns-clause-pages : goal.returns-clause-pages
returns-clause-pages c =
    let e = sym c.find.ensures.found ∙ ap option_copied c.unwrap-held.ensures in
    let s = spot-in c.args.pool.now c.args.self.now c.args.spot c.unwrap-held.result.now c.requires.held c.requires.spot (omega arith) e in
    let touched = touched-is c.args.spot c.div_ceil-count.result c.from.result c.from-2.result c.if-spot-eq0.false c.div_ceil-count.ensures c.from.ensures c.from-2.ensures in
    snap-pages c.args.pool.now c.share.new.self c.unwrap-held.result.now c.in_ok-list-2.list c.args.spot.off c.args.spot.length c.div_ceil-count.result s.0 s.1 (omega (arith, c.div_ceil-count.ensures, c.from.ensures, c.from-2.ensures)) c.in_ok-list-2.ensures.puts
    ∙ sym touched
