-- Whether all bytes may stand in a line, and where the first stands that may not.
use Rattle.std.proofs.Common.{◌≡◌, ◌<◌, not, ℕ, true, false, List, length, arith, ⊎_elim}
use Rattle.std.specs.List.{list_all}
use Rattle.std.proofs.lemmas.Bool.{both_ways, cases_lt, not-false, not_from_true}
use Rattle.std.proofs.lemmas.List.Sums.{position_or_len_is, fails_before_first, AllPass-from_list_all, list_all-from_AllPass}
use Rattle.script_lang.specs.Lines.{is_printable, printable_before}

-- where all bytes may stand in a line, the first that may not stands behind the end
pub all_may_stand : (bs : List ℕ) → list_all is_printable bs ≡ true → printable_before bs ≡ length bs
all_may_stand bs h =
    position_or_len_is (λ (b : ℕ). not (is_printable b)) bs (length bs) 0 (omega arith)
    (λ k l. not_from_true _ (AllPass-from_list_all is_printable bs h k 0 l)) (λ l. absurd (omega arith))

-- where not all may, the first that may not is one of them
pub one_may_not : (bs : List ℕ) → list_all is_printable bs ≡ false → printable_before bs < length bs
one_may_not bs h = ⊎_elim (λ below. below)
    (λ none. absurd (both_ways _ h (list_all-from_AllPass is_printable bs
    (λ k d l. not-false _ (fails_before_first (λ (b : ℕ). not (is_printable b)) bs k d (omega arith))))))
    (cases_lt (printable_before bs) (length bs))
