use Rattle.std.proofs.Common.{◌≡◌, length, arith}
use Rattle.page_pool.proofs.Stock.{done_unless, pushed_items}
use Rattle.page_pool.proofs.Drawn.{stock_made, stock_drawn, left_to_make, next_drawn, drawn_kept, drawn_sound, drawn_here, drawn_free, drawn_seen}
use Rattle.page_pool.proofs.frames.Frames.fresh.Goals as goal

-- ---- a page of the stock

pub write_page-requires-clause-page : goal.write_page-requires-clause-page
write_page-requires-clause-page c = omega (arith, c.self.invariant.0.whole, stock_made _ _ _ _ _ _ _ _ c.self.view_is c.self.invariant.0 c.self.invariant.1 _ _ c.in-Some.ensures.items)

pub index_mut-requires : goal.index_mut-requires
index_mut-requires c = omega (arith, c.self.inside.holders.ok.0, stock_made _ _ _ _ _ _ _ _ c.self.view_is c.self.invariant.0 c.self.invariant.1 _ _ c.in-Some.ensures.items)

pub invariant_of-self : goal.invariant_of-self
invariant_of-self c =
    let d = stock_drawn _ _ _ _ _ _ _ _ c.self.view_is c.self.invariant.0 c.self.invariant.1 _ _ _ _ c.in-Some.ensures.items c.write_page.ensures.items c.requires.whole in
    drawn_kept _ _ _ _ _ _ _ _ c.self.view_is c.self.invariant.0 c.self.invariant.1 c.requires.room _ _ _ _ _ _ _ _ d (omega (arith, c.write_page.ensures.room)) (omega arith) (omega (arith, c.pop.ensures.capacity))

pub returns-in-Some : goal.returns-in-Some
returns-in-Some c =
    let d = stock_drawn _ _ _ _ _ _ _ _ c.self.view_is c.self.invariant.0 c.self.invariant.1 _ _ _ _ c.in-Some.ensures.items c.write_page.ensures.items c.requires.whole in
    record {
      page = drawn_here _ _ _ _ _ _ _ _ c.self.view_is c.self.invariant.0 c.self.invariant.1 _ _ _ _ _ d;
      idle = drawn_free _ _ _ _ _ _ _ _ c.self.view_is c.self.invariant.0 c.self.invariant.1 _ _ _ _ _ d;
      new = drawn_seen _ _ _ _ _ _ _ _ c.self.view_is c.self.invariant.0 c.self.invariant.1 _ _ _ _ _ d;
      sound = drawn_sound _ _ _ _ _ _ _ _ c.self.view_is c.self.invariant.0 c.self.invariant.1 c.requires.room _ _ _ _ _ d;
    }

-- ---- the next page, which is made

pub push-requires-clause-room : goal.push-requires-clause-room
push-requires-clause-room c = omega (arith, c.self.invariant.0.whole, c.self.invariant.0.bytes_fit, left_to_make _ _ _ _ _ _ _ _ c.self.view_is c.self.invariant.0 c.self.invariant.1 c.requires.room (omega (arith, c.in-None.ensures.cases, c.self.inside.stock.ok.0)))

pub unwrap-requires : goal.unwrap-requires
unwrap-requires c =
    let left = left_to_make _ _ _ _ _ _ _ _ c.self.view_is c.self.invariant.0 c.self.invariant.1 c.requires.room (omega (arith, c.in-None.ensures.cases, c.self.inside.stock.ok.0)) in
    done_unless c.push-in-None.result c.push-in-None.ensures.full (λ full. absurd (omega (arith, full, c.self.inside.holders.ok.0, c.self.invariant.0.holders_fit)))

pub invariant_of-self-in-None : goal.invariant_of-self-in-None
invariant_of-self-in-None c =
    let empty : length c.self.inside.stock.items ≡ 0 = omega (arith, c.in-None.ensures.cases, c.self.inside.stock.ok.0) in
    let empty' : length c.pop.new.self.items ≡ 0 = omega (arith, c.in-None.ensures.cases, c.pop.new.self.ok.0) in
    let number : c.len-page.result ≡ length c.self.inside.holders.items = omega (arith, c.len-page.ensures, c.self.inside.holders.ok.0) in
    let held = pushed_items c.push-in-None.result c.unwrap.result c.push-in-None.new.self.items c.self.inside.holders.items 1 c.unwrap.ensures c.push-in-None.ensures.items in
    let d = next_drawn _ _ _ _ _ _ _ _ c.self.view_is c.self.invariant.0 c.self.invariant.1 c.requires.room _ _ _ _ _ number empty empty' c.push.ensures.items held c.requires.whole in
    drawn_kept _ _ _ _ _ _ _ _ c.self.view_is c.self.invariant.0 c.self.invariant.1 c.requires.room _ _ _ _ _ _ _ _ d (omega (arith, c.push.ensures.room)) c.push-in-None.ensures.capacity (omega (arith, c.pop.ensures.capacity))

pub returns-in-None : goal.returns-in-None
returns-in-None c =
    let empty : length c.self.inside.stock.items ≡ 0 = omega (arith, c.in-None.ensures.cases, c.self.inside.stock.ok.0) in
    let empty' : length c.pop.new.self.items ≡ 0 = omega (arith, c.in-None.ensures.cases, c.pop.new.self.ok.0) in
    let number : c.len-page.result ≡ length c.self.inside.holders.items = omega (arith, c.len-page.ensures, c.self.inside.holders.ok.0) in
    let held = pushed_items c.push-in-None.result c.unwrap.result c.push-in-None.new.self.items c.self.inside.holders.items 1 c.unwrap.ensures c.push-in-None.ensures.items in
    let d = next_drawn _ _ _ _ _ _ _ _ c.self.view_is c.self.invariant.0 c.self.invariant.1 c.requires.room _ _ _ _ _ number empty empty' c.push.ensures.items held c.requires.whole in
    record {
      page = drawn_here _ _ _ _ _ _ _ _ c.self.view_is c.self.invariant.0 c.self.invariant.1 _ _ _ _ _ d;
      idle = drawn_free _ _ _ _ _ _ _ _ c.self.view_is c.self.invariant.0 c.self.invariant.1 _ _ _ _ _ d;
      new = drawn_seen _ _ _ _ _ _ _ _ c.self.view_is c.self.invariant.0 c.self.invariant.1 _ _ _ _ _ d;
      sound = drawn_sound _ _ _ _ _ _ _ _ c.self.view_is c.self.invariant.0 c.self.invariant.1 c.requires.room _ _ _ _ _ d;
    }
