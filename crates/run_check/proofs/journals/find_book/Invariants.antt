-- No earlier book is of that device.
use Rattle.std.proofs.Common.{◌≡◌, ◌≢◌, ◌<◌, ℕ, slice_get, Some}
use Rattle.shared_device.specs.Books.{BookView}
use Rattle.run_check.proofs.journals.find_book.Given as goal

abbrev pub invariant-loop-i : goal.invariant-loop-i
invariant-loop-i l = (k : ℕ) (b : BookView) → k < l.i → slice_get l.books k ≡ Some b → b.opening.id ≢ l.id
