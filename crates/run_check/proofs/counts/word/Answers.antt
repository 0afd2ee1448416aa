use Rattle.std.proofs.Common.{arith, ◌≡◌, ◌<◌, ◌++◌, ◌∷◌, [], List, length, refl, rules}
use Rattle.std.specs.Prelude.{Option, Some}
use Rattle.shared_device.specs.Books.{BookView}
use Rattle.run_check.proofs.Telling.{word_end, word_last}
use Rattle.run_check.proofs.counts.word.Goals as goal

pub loop-book-preserved : goal.loop-book-preserved
loop-book-preserved c =
    let last : c.loop-book.books.items ≡ c.pop.new.self.items ++ c.in-Some.book ∷ [] = search rules in
    word_last _ _ c.in-Some.book _ _ _ last c.in_ok-word.ensures c.loop-book.invariant

-- a list whose last item is not there is empty
empty_where : (items : List BookView) (o : Option BookView) → ((d : BookView) → 0 < length items → (x : BookView) × (o ≡ Some x)) → ((x : BookView) → o ≡ Some x → ⊥) → items ≡ []
empty_where [] o there none = refl
empty_where (x ∷ items) o there none = let last = there x (omega arith) in absurd (none last.0 last.1)

pub returns : goal.returns
returns c =
    let none : c.loop-book.books.items ≡ [] = empty_where c.loop-book.books.items c.pop.result (λ d less. (_, c.pop.ensures.value d (omega (arith, less, c.loop-book.books.ok.0)))) c.in_default.not-Some in
    word_end c.loop-book.books.items _ _ none c.loop-book.invariant
