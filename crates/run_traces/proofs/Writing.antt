-- Lines that are written word by word, and line by line.
use Rattle.std.proofs.Common.{◌≡◌, ℕ, List, [], ◌∷◌, ◌++◌, sym, ap, ◌∙◌, append_assoc, append-nil}
use Rattle.std.specs.Prelude.{map, codes, OnOk, Result, Ok, Err}
use Rattle.std.specs.List.{slice_split}
use Rattle.script_lang.specs.Printed.{ended}
use Rattle.script_lang.specs.Scripts.{but_last, ended_lines, is_newline}
use Rattle.script_lang.specs.Words.{Word}
use Rattle.run_traces.specs.Written.{answer_text, lower, lowered}

-- the next word is put behind a space
pub word_put : (out mid new : List ℕ) (w : Word) (ws : List Word) → mid ≡ out ++ 32 ∷ [] → new ≡ mid ++ map lower w.text → new ++ ended (lowered ws) ≡ out ++ ended (lowered (w ∷ ws))
word_put out mid new w ws e n =
    ap (λ z. z ++ ended (lowered ws)) (n ∙ ap (λ z. z ++ map lower w.text) e)
    ∙ (append_assoc (out ++ 32 ∷ []) (map lower w.text) (ended (lowered ws)) ∙ append_assoc out (32 ∷ []) (map lower w.text ++ ended (lowered ws)))

-- the next line is put
pub line_put : (out one two new line : List ℕ) (ls : List (List ℕ)) → one ≡ out ++ codes "= " → two ≡ one ++ line → new ≡ two ++ 10 ∷ [] → new ++ answer_text ls ≡ out ++ answer_text (line ∷ ls)
unfolding answer_text
line_put out one two new line ls a b c =
    ap (λ z. z ++ answer_text ls) (c ∙ ap (λ z. z ++ 10 ∷ []) (b ∙ ap (λ z. z ++ line) a))
    ∙ (append_assoc ((out ++ codes "= ") ++ line) (10 ∷ []) (answer_text ls)
    ∙ (append_assoc (out ++ codes "= ") line (10 ∷ answer_text ls) ∙ append_assoc out (codes "= ") (line ++ (10 ∷ answer_text ls))))

-- a text that is not cut has no line
pub lines_end : (out text all : List ℕ) → slice_split is_newline text ≡ text ∷ [] → out ++ answer_text (ended_lines text) ≡ all → out ≡ all
unfolding answer_text but_last
lines_end out text all uncut h = sym (append-nil out) ∙ (ap (λ z. out ++ answer_text (but_last z)) (sym uncut) ∙ h)

-- texts that are put one after another
pub put_four : {T E : Type 0} (r : Result T E) (out a b c d one two three new : List ℕ) → one ≡ out ++ a → two ≡ one ++ b → three ≡ two ++ c → OnOk r (new ≡ three ++ d) → OnOk r (new ≡ out ++ (a ++ (b ++ (c ++ d))))
put_four (Ok x) out a b c d one two three new e f g h =
    h ∙ (ap (λ z. z ++ d) (g ∙ ap (λ z. z ++ c) (f ∙ ap (λ z. z ++ b) e))
    ∙ (append_assoc ((out ++ a) ++ b) c d ∙ (append_assoc (out ++ a) b (c ++ d) ∙ append_assoc out a (b ++ (c ++ d)))))
put_four (Err x) out a b c d one two three new e f g h = tt

pub put_five : {T E : Type 0} (r : Result T E) (out a b c d e one two three four new : List ℕ) → one ≡ out ++ a → two ≡ one ++ b → three ≡ two ++ c → four ≡ three ++ d → OnOk r (new ≡ four ++ e) → OnOk r (new ≡ out ++ (a ++ (b ++ (c ++ (d ++ e)))))
put_five (Ok x) out a b c d e one two three four new p q s t h =
    h ∙ (ap (λ z. z ++ e) (t ∙ ap (λ z. z ++ d) (s ∙ ap (λ z. z ++ c) (q ∙ ap (λ z. z ++ b) p)))
    ∙ (append_assoc (((out ++ a) ++ b) ++ c) d e ∙ (append_assoc ((out ++ a) ++ b) c (d ++ e) ∙ (append_assoc (out ++ a) b (c ++ (d ++ e)) ∙ append_assoc out a (b ++ (c ++ (d ++ e)))))))
put_five (Err x) out a b c d e one two three four new p q s t h = tt
