use Rattle.std.proofs.Common.{◌≡◌, ◌≤◌, length, take}
use Rattle.std.specs.Prelude.{vec_capacity}
use Rattle.std.specs.List.{flat_map}
use Rattle.byte_run.specs.Pages.{ArePages, joined}
use Rattle.page_pool.specs.Ledger.{page_bytes}
use Rattle.page_pool.proofs.pool.run_of.Given as goal

abbrev pub invariant-loop-page : goal.invariant-loop-page
invariant-loop-page l =
    (joined l.shared.items ≡ flat_map (page_bytes l.frames.bytes) (take l.page-index l.pages))
    × ArePages l.shared.items
    × (length l.shared.items ≡ l.page-index)
    × (length l.pages ≤ vec_capacity l.shared)
