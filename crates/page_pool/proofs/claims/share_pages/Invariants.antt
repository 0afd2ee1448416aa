use Rattle.std.proofs.Common.{◌≡◌, length}
use Rattle.std.specs.Prelude.{vec_capacity}
use Rattle.byte_run.specs.Pages.{joined}
use Rattle.page_pool.specs.Ledger.{AreShared}
use Rattle.page_pool.proofs.claims.share_pages.Given as goal

abbrev pub invariant-loop-page : goal.invariant-loop-page
invariant-loop-page l =
    AreShared (joined l.whole) l.pages.items
    × (length l.pages.items ≡ l.page-index)
    × (vec_capacity l.pages ≡ vec_capacity l.initial.pages)
