use Rattle.std.proofs.Common.{◌≡◌, ◌+◌, ℕ, length, get_or, sum, take}
use Rattle.page_pool.specs.Store.{IsSound, times}
use Rattle.page_pool.specs.Ledger.{own_numbers}
use Rattle.page_pool.proofs.claims.hold_pages.Given as goal

abbrev pub invariant-loop-page : goal.invariant-loop-page
invariant-loop-page l =
    IsSound l.frames
    × (length l.frames.holders ≡ length l.initial.frames.holders)
    × ((page : ℕ) → get_or l.frames.holders page 0 ≡ get_or l.initial.frames.holders page 0 + times page (own_numbers (take l.page-index l.pages)))
    × (sum l.frames.holders ≡ sum l.initial.frames.holders + length (own_numbers (take l.page-index l.pages)))
    × (l.frames.bytes ≡ l.initial.frames.bytes)
