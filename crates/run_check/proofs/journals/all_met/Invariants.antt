use Rattle.std.proofs.Common.{◌≡◌, ◌<◌, ℕ, length, slice_get, Some}
use Rattle.shared_device.specs.Books.{BookView}
use Rattle.run_check.proofs.journals.all_met.Given as goal

abbrev pub invariant-loop-i : goal.invariant-loop-i
invariant-loop-i l = (i : ℕ) (b : BookView) (n : ℕ) → i < l.i → slice_get l.books i ≡ Some b → slice_get l.places i ≡ Some n → n ≡ length b.journal
