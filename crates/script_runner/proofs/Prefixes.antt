-- Prefixes of texts.
use Rattle.std.proofs.Common.{◌≡◌, ◌<◌, ℕ, List, [], ◌++◌, length, take, drop, Option, refl, ap, subst, sym, ◌∙◌, append_assoc, Result, Ok, Err}
use Rattle.std.proofs.lemmas.List.{take-append-drop}
use Rattle.std.specs.Result.{IfErr, IsErrAnd, OnErr, OnOk}
use Rattle.host_ports.specs.Streams.{Puts}
use Rattle.host_ports.proofs.Chains.{Puts-none, Puts-then}
use Rattle.script_runner.specs.Playing.{PutsPrefix}

-- nothing put is a prefix
pub no_prefix : (held : Option (List ℕ)) (text : List ℕ) → PutsPrefix held held text
no_prefix held text = record { prefix = []; rest = text; splits = refl; put = Puts-none held }

-- what a write that fails puts is a prefix
pub prefix_of_part : (held held' : Option (List ℕ)) (text : List ℕ) → (n : ℕ) × (n < length text) × Puts held held' (take n text) → PutsPrefix held held' text
prefix_of_part held held' text h = record { prefix = take h.0 text; rest = drop h.0 text; splits = sym (take-append-drop h.0 text); put = h.2 }

-- a prefix of the next piece behind a whole one
pub prefix_behind : (a b c : Option (List ℕ)) (xs ys : List ℕ) → Puts a b xs → PutsPrefix b c ys → PutsPrefix a c (xs ++ ys)
prefix_behind a b c xs ys p h = record {
  prefix = xs ++ h.prefix;
  rest = h.rest;
  splits = ap (λ zs. xs ++ zs) h.splits ∙ sym (append_assoc xs h.prefix h.rest);
  put = Puts-then a b c xs h.prefix p h.put;
}

-- a prefix of a prefix is a prefix
pub prefix_longer : (a b : Option (List ℕ)) (xs ys : List ℕ) → PutsPrefix a b xs → PutsPrefix a b (xs ++ ys)
prefix_longer a b xs ys h = record {
  prefix = h.prefix;
  rest = h.rest ++ ys;
  splits = ap (λ zs. zs ++ ys) h.splits ∙ append_assoc h.prefix h.rest ys;
  put = h.put;
}

-- a fact that holds anyway holds at an error
pub on_err : {T E P : Type 0} (r : Result T E) → P → OnErr r P
on_err (Ok x) p = tt
on_err (Err e) p = p

-- what follows from two facts of a success
pub on_ok_with : {T E A B C : Type 0} (r : Result T E) → (A → B → C) → OnOk r A → OnOk r B → OnOk r C
on_ok_with (Ok x) f a b = f a b
on_ok_with (Err e) f a b = tt

-- what holds of a fault holds of the error that is it
pub if_err_is : {T E : Type 0} (r : Result T E) (P : E → Type 0) (e : E) → IsErrAnd r (λ x. x ≡ e) → P e → IfErr r P
if_err_is (Ok x) P e h p = tt
if_err_is (Err y) P e h p = subst P (sym h) p
