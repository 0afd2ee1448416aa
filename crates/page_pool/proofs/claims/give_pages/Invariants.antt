use Rattle.std.proofs.Common.{◌≡◌, ◌<◌, ◌+◌, ℕ, length, get_or, sum, take}
use Rattle.page_pool.specs.Store.{IsSound, times}
use Rattle.page_pool.specs.Ledger.{own_numbers, page_at}
use Rattle.page_pool.proofs.claims.give_pages.Given as goal

abbrev pub invariant-loop-page : goal.invariant-loop-page
invariant-loop-page l =
    IsSound l.frames
    × (length l.frames.holders ≡ length l.initial.frames.holders)
    × ((page : ℕ) → get_or l.frames.holders page 0 + times page (own_numbers (take l.page-index l.pages)) ≡ get_or l.initial.frames.holders page 0)
    × (sum l.frames.holders + length (own_numbers (take l.page-index l.pages)) ≡ sum l.initial.frames.holders)
    × ((page : ℕ) → 0 < get_or l.frames.holders page 0 → page_at l.frames.bytes page ≡ page_at l.initial.frames.bytes page)
