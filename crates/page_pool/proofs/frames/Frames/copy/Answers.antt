use Rattle.std.proofs.Common.{◌≡◌, ◌++◌, ◌*◌, ◌≤◌, ◌∙◌, ap, arith}
use Rattle.std.specs.Prelude.{vec_capacity}
use Rattle.page_pool.specs.Bytes.{Bytes}
use Rattle.page_pool.proofs.Kept.{copied_made, copied_stock}
use Rattle.page_pool.proofs.frames.Frames.copy.Goals as goal

pub invariant_of-result : goal.invariant_of-result
invariant_of-result c =
    let bytes : c.in_ok-bytes.bytes.items ≡ c.self.inside.bytes.items = ap (λ (b : Bytes). b.items) c.in_ok-bytes.ensures in
    let room = ap (λ (b : Bytes). b.room) c.in_ok-bytes.ensures in
    let holders : c.extend_from_slice.new.self.items ≡ c.self.inside.holders.items = c.in_ok-extend_from_slice.ensures.items ∙ (ap (λ xs. xs ++ c.deref.result.now) c.in_ok-holders.ensures.items ∙ c.deref.ensures.value) in
    let stock : c.extend_from_slice-2.new.self.items ≡ c.self.inside.stock.items = c.in_ok-extend_from_slice-2.ensures.items ∙ (ap (λ xs. xs ++ c.deref-2.result.now) c.in_ok-stock.ensures.items ∙ c.deref-2.ensures.value) in
    let bytes_fit : 4096 * c.self.inside.pages ≤ c.in_ok-bytes.bytes.room = omega (arith, room, c.self.invariant.0.bytes_fit) in
    let holders_fit : c.self.inside.pages ≤ vec_capacity c.extend_from_slice.new.self = omega (arith, c.in_ok-holders.ensures.capacity, c.in_ok-extend_from_slice.ensures.capacity) in
    let stock_fit : c.self.inside.pages ≤ vec_capacity c.extend_from_slice-2.new.self = omega (arith, c.in_ok-stock.ensures.capacity, c.in_ok-extend_from_slice-2.ensures.capacity) in (
      copied_made _ _ _ _ _ _ _ bytes holders stock _ _ _ _ c.self.invariant.0 bytes_fit holders_fit,
      copied_stock _ _ _ _ _ _ _ bytes holders stock _ _ c.self.invariant.0.within c.self.invariant.1 stock_fit,
    )
