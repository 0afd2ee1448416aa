use Rattle.std.proofs.Common.{◌≡◌, ◌+◌, ◌*◌, ◌++◌, ℕ, List, length}
use Rattle.std.specs.Prelude.{vec_capacity}
use Rattle.page_pool.specs.Store.{blank}
use Rattle.page_pool.specs.Ledger.{AreShared}
use Rattle.page_pool.proofs.claims.share_zeros.Given as goal

abbrev pub invariant-loop-made : goal.invariant-loop-made
invariant-loop-made l =
    ((bytes : List ℕ) → AreShared bytes l.initial.pages.items → length bytes ≡ 4096 * length l.initial.pages.items → AreShared (bytes ++ blank (4096 * l.count)) l.pages.items)
    × (length l.pages.items ≡ length l.initial.pages.items + l._made)
    × (vec_capacity l.pages ≡ vec_capacity l.initial.pages)
