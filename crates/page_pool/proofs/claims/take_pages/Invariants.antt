use Rattle.std.proofs.Common.{◌≡◌, ◌≤◌, ◌<◌, ◌+◌, ◌*◌, ℕ, length, take, get_or, sum}
use Rattle.std.specs.Prelude.{All, vec_capacity}
use Rattle.std.specs.List.{flat_map}
use Rattle.rdma_types.specs.Memory.{put}
use Rattle.page_pool.specs.Store.{IsSound, times, blank}
use Rattle.page_pool.specs.Ledger.{IsWholePage, own_numbers, page_at, page_bytes}
use Rattle.page_pool.proofs.claims.take_pages.Given as goal

abbrev pub invariant-loop-place : goal.invariant-loop-place
invariant-loop-place l =
    IsSound l.frames
    × (length l.frames.holders ≡ length l.initial.frames.holders)
    × ((page : ℕ) → get_or l.frames.holders page 0 ≡ get_or l.initial.frames.holders page 0 + times page (own_numbers l.pages.items))
    × (sum l.frames.holders ≡ sum l.initial.frames.holders + length (own_numbers l.pages.items))
    × (length (own_numbers l.pages.items) ≤ l.place)
    × ((page : ℕ) → 0 < get_or l.initial.frames.holders page 0 → page_at l.frames.bytes page ≡ page_at l.initial.frames.bytes page)
    × All IsWholePage l.pages.items
    × (flat_map (page_bytes l.frames.bytes) l.pages.items ≡ take (4096 * l.place) (put (blank (4096 * l.count)) l.first l.bytes))
    × (length l.pages.items ≡ l.place)
    × (l.count ≤ vec_capacity l.pages)
