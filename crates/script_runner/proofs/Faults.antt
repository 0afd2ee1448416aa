-- Which error a result is.
use Rattle.std.proofs.Common.{◌≡◌, ◌∙◌, Result, Ok, Err, ap, sym}
use Rattle.std.specs.Result.{IsErrAnd}

-- what is that error is the one that it was
pub still_err : {T U E : Type 0} (r : Result T E) (l : Result U E) (f x : E) → IsErrAnd r (λ y. y ≡ f) → l ≡ Err f → l ≡ Err x → r ≡ Err x
still_err (Ok a) l f x h is e = absurd h
still_err (Err y) l f x h is e = cc (h, is, e)

-- an error that is another one
pub was_err : {T E : Type 0} (r : Result T E) (f x : E) → IsErrAnd r (λ y. y ≡ f) → r ≡ Err x → f ≡ x
was_err (Ok a) f x h e = absurd h
was_err (Err y) f x h e = cc (h, e)
