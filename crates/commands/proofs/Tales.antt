-- The lines of the contexts that moved are put one after the other.
use Rattle.std.proofs.Common.{◌≡◌, ◌≤◌, ◌+◌, ℕ, suc, List, [], ◌++◌, length, drop, Option, Some, ap, sym, ◌∙◌, slice_get, add-one, append_assoc, append-nil}
use Rattle.std.specs.Prelude.{flat_map}
use Rattle.evac_rules.specs.declared.moves.Shifted.{Shifted}
use Rattle.protocol.specs.State.{World}
use Rattle.evac_rules.specs.Evacuation.{Evacuation, Fault}
use Rattle.evac_plan.specs.Steps.{Ends}
use Rattle.program_rules.specs.Texts.{emptied_line, evacuation_text, moved_line}
use Rattle.evac_plan.proofs.Tries.{drop_all, drop_at}

-- these bytes, and the lines of the contexts from the i-th on, are all lines
abbrev pub IsTale : List Shifted → ℕ → List ℕ → Type 0
IsTale xs i done = flat_map moved_line xs ≡ done ++ flat_map moved_line (drop i xs)

-- nothing is put yet
pub tale_begins : (xs : List Shifted) (done : List ℕ) → done ≡ [] → IsTale xs 0 done
tale_begins xs done is = sym (ap (λ ys. ys ++ flat_map moved_line xs) is)

-- the next line is put
pub tale_goes_on : (xs : List Shifted) (i : ℕ) (done more : List ℕ) (x : Shifted) → IsTale xs i done → slice_get xs i ≡ Some x → more ≡ done ++ moved_line x → IsTale xs (i + 1) more
tale_goes_on xs i done more x t at is =
    t
    ∙ (ap (λ ys. done ++ flat_map moved_line ys) (drop_at xs i x at)
    ∙ (sym (append_assoc done (moved_line x) (flat_map moved_line (drop (suc i) xs)))
    ∙ (ap (λ ys. ys ++ flat_map moved_line (drop (suc i) xs)) (sym is)
    ∙ ap (λ k. more ++ flat_map moved_line (drop k xs)) (sym (add-one i)))))

-- all are
pub tale_ends : (xs : List Shifted) (i : ℕ) (done : List ℕ) → IsTale xs i done → length xs ≤ i → done ≡ flat_map moved_line xs
tale_ends xs i done t past = sym (t ∙ (ap (λ ys. done ++ flat_map moved_line ys) (drop_all xs i past) ∙ append-nil done))

-- what is written is the text of the evacuation
pub tale_is : (s : Evacuation) (moved : List Shifted) (fault : Option Fault) (new : World) (text : List ℕ) → Ends s moved fault new → text ≡ flat_map moved_line moved ++ emptied_line fault → text ≡ evacuation_text s
tale_is s moved fault new text e is = is ∙ (ap (λ ms. flat_map moved_line ms ++ emptied_line fault) e.moved ∙ ap (λ f. flat_map moved_line s.moved ++ emptied_line f) (sym e.fault))
