use Rattle.std.proofs.Common.{◌≡◌, ◌-◌, min, length, arith}
use Rattle.page_pool.proofs.Pages.{laid-parts}
use Rattle.page_pool.proofs.claims.lay_page.Goals as goal

pub returns : goal.returns
returns c =
    let before : c.min-before.result ≡ min (c.args.first - c.args.at) 4096 = omega (arith, c.min-before.ensures, c.saturating_sub.ensures) in
    let from : c.min-from.result ≡ min (c.args.at - c.args.first) (length c.args.bytes.now) = omega (arith, c.min-from.ensures, c.saturating_sub-2.ensures, c.len.ensures) in
    let count : c.min-count.result ≡ min (4096 - c.min-before.result) (length c.args.bytes.now - c.min-from.result) = omega (arith, c.min-count.ensures, c.len-2.ensures) in
    laid-parts _ _ _ c.args.bytes.now _ c.min-from.result _ _ _ _ _ (c.fill.ensures.after (λ y e. e)) c.read.ensures (c.fill-2.ensures.after (λ y e. e))
    (omega (arith, c.split_at_mut-zeros.ensures.front_len)) from (omega (arith, c.split_at_mut-held.ensures.front_len)) (omega (arith, c.requires, c.split_at_mut-zeros.ensures.back_len, c.split_at_mut-held.ensures.back_len))
