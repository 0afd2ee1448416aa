use Rattle.std.proofs.Common.{◌≡◌, length}
use Rattle.std.specs.Prelude.{map}
use Rattle.shared_device.specs.Books.{device_of}
use Rattle.run_check.specs.Gathered.{word_in, word_or}
use Rattle.run_check.proofs.counts.word.Given as goal

abbrev pub invariant-loop-book : goal.invariant-loop-book
invariant-loop-book l = word_or (map device_of l.books.items) l.word ≡ word_in (map device_of l.fn.books.items)

abbrev pub decreases-loop-book : goal.decreases-loop-book
decreases-loop-book l = length l.books.items
