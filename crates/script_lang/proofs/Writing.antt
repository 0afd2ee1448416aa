-- Bytes that begin with those that were there, and lists that are written an item at a time.
use Rattle.std.proofs.Common.{◌≡◌, ℕ, ◌+◌, ◌<◌, List, [], ◌∷◌, ◌++◌, length, take, drop, get_or, refl, sym, ◌∙◌, ap, append_assoc, Result, Ok, Err}
use Rattle.std.specs.Prelude.{OnOk, OnErr}
use Rattle.std.proofs.lemmas.List.{take_more, take-append-drop, append-nil}
use Rattle.std.proofs.Math.Seq.{take-append_seam}
use Rattle.rdma_types.specs.declared.answers.UnfinishedReason.{UnfinishedReason}
use Rattle.rdma_types.specs.declared.names.ObjName.{ObjName}
use Rattle.rdma_types.specs.declared.requests.Completion.{Completion}
use Rattle.hex.specs.Hex.{encode_with, encode_lower, lower_digits}
use Rattle.script_lang.specs.Printed.{Keeps, completion_lines, completion_line, left_lines, left_line}

-- what begins with the old bytes and more, begins with the old bytes
pub keeps_after : (old text mid new : List ℕ) → mid ≡ old ++ text → Keeps mid new → Keeps old new
keeps_after old text mid new e k =
    let whole : new ≡ old ++ (text ++ drop (length mid) new) =
    sym (take-append-drop (length mid) new) ∙ ap (λ (z : List ℕ). z ++ drop (length mid) new) (k ∙ e) ∙ append_assoc old text (drop (length mid) new) in
    ap (take (length old)) whole ∙ take-append_seam old (text ++ drop (length mid) new)

encode_with-append : (t xs ys : List ℕ) → encode_with t (xs ++ ys) ≡ encode_with t xs ++ encode_with t ys
unfolding encode_with
encode_with-append t [] ys = refl
encode_with-append t (x ∷ xs) ys = rw (encode_with-append t xs ys) refl

completion_lines-append : (xs ys : List Completion) → completion_lines (xs ++ ys) ≡ completion_lines xs ++ completion_lines ys
unfolding completion_lines
completion_lines-append [] ys = refl
completion_lines-append (x ∷ xs) ys =
    rw (completion_lines-append xs ys) (sym (append_assoc (completion_line x) (completion_lines xs) (completion_lines ys)))

left_lines-append : (xs ys : List (ObjName × UnfinishedReason)) → left_lines (xs ++ ys) ≡ left_lines xs ++ left_lines ys
unfolding left_lines
left_lines-append [] ys = refl
left_lines-append (x ∷ xs) ys =
    rw (left_lines-append xs ys) (sym (append_assoc (left_line x) (left_lines xs) (left_lines ys)))

one_completion : (x : Completion) → completion_lines (x ∷ []) ≡ completion_line x
unfolding completion_lines
one_completion x = append-nil (completion_line x)

one_left : (x : ObjName × UnfinishedReason) → left_lines (x ∷ []) ≡ left_line x
unfolding left_lines
one_left x = append-nil (left_line x)

-- one more byte in hexadecimal digits
pub hex_step : (bytes : List ℕ) (i : ℕ) (start mid new : List ℕ) → i < length bytes → mid ≡ start ++ encode_lower (take i bytes) → new ≡ mid ++ encode_lower (get_or bytes i 0 ∷ []) → new ≡ start ++ encode_lower (take (i + 1) bytes)
hex_step bytes i start mid new h e n =
    n ∙ ap (λ (z : List ℕ). z ++ encode_lower (get_or bytes i 0 ∷ [])) e
    ∙ append_assoc start (encode_lower (take i bytes)) (encode_lower (get_or bytes i 0 ∷ []))
    ∙ ap (λ (z : List ℕ). start ++ z) (sym (encode_with-append lower_digits (take i bytes) (get_or bytes i 0 ∷ [])) ∙ ap encode_lower (sym (take_more bytes i 0 h)))

-- one more completion
pub completions_step : (xs : List Completion) (i : ℕ) (d : Completion) (start mid new : List ℕ) → i < length xs → mid ≡ start ++ completion_lines (take i xs) → new ≡ mid ++ (completion_line (get_or xs i d)) → new ≡ start ++ completion_lines (take (i + 1) xs)
completions_step xs i d start mid new h e n =
    let x : Completion = get_or xs i d in
    n ∙ ap (λ (z : List ℕ). z ++ (completion_line x)) e
    ∙ append_assoc start (completion_lines (take i xs)) (completion_line x)
    ∙ ap (λ (z : List ℕ). start ++ z)
    (ap (λ (z : List ℕ). completion_lines (take i xs) ++ z) (sym (one_completion x))
    ∙ sym (completion_lines-append (take i xs) (x ∷ []))
    ∙ ap completion_lines (sym (take_more xs i d h)))

-- one more end that settling left
pub left_step : (xs : List (ObjName × UnfinishedReason)) (i : ℕ) (x : ObjName × UnfinishedReason) (start mid new : List ℕ) → i < length xs → x ≡ get_or xs i x → mid ≡ start ++ left_lines (take i xs) → new ≡ mid ++ (left_line x) → new ≡ start ++ left_lines (take (i + 1) xs)
left_step xs i x start mid new h is e n =
    n ∙ ap (λ (z : List ℕ). z ++ (left_line x)) e
    ∙ append_assoc start (left_lines (take i xs)) (left_line x)
    ∙ ap (λ (z : List ℕ). start ++ z)
    (ap (λ (z : List ℕ). left_lines (take i xs) ++ z) (sym (one_left x))
    ∙ sym (left_lines-append (take i xs) (x ∷ []))
    ∙ ap left_lines (ap (λ (y : ObjName × UnfinishedReason). take i xs ++ y ∷ []) is ∙ sym (take_more xs i x h)))

-- before the first byte
pub hex_start : (start : List ℕ) → start ≡ start ++ encode_lower []
unfolding encode_with
hex_start start = sym (append-nil start)

-- before the first completion
pub completions_start : (start : List ℕ) → start ≡ start ++ completion_lines []
unfolding completion_lines
completions_start start = sym (append-nil start)

-- before the first end
pub left_start : (start : List ℕ) → start ≡ start ++ left_lines []
unfolding left_lines
left_start start = sym (append-nil start)

-- a fact holds after an error
pub on_err : {T E : Type 0} (r : Result T E) (P : Type 0) → P → OnErr r P
on_err (Ok x) P p = tt
on_err (Err e) P p = p

-- a text behind one that was written
pub ok_after : {T E : Type 0} (r : Result T E) (old first mid more new : List ℕ) → mid ≡ old ++ first → OnOk r (new ≡ mid ++ more) → OnOk r (new ≡ old ++ (first ++ more))
ok_after (Ok x) old first mid more new e n = n ∙ ap (λ (z : List ℕ). z ++ more) e ∙ append_assoc old first more
ok_after (Err x) old first mid more new e n = tt

-- a text behind two that were written
pub ok_after_pair : {T E : Type 0} (r : Result T E) (old first second mid more new : List ℕ) → mid ≡ old ++ (first ++ second) → OnOk r (new ≡ mid ++ more) → OnOk r (new ≡ old ++ (first ++ (second ++ more)))
ok_after_pair (Ok x) old first second mid more new e n =
    n ∙ ap (λ (z : List ℕ). z ++ more) e ∙ append_assoc old (first ++ second) more ∙ ap (λ (z : List ℕ). old ++ z) (append_assoc first second more)
ok_after_pair (Err x) old first second mid more new e n = tt

-- a failure behind a text that was written
pub err_after : {T E : Type 0} (r : Result T E) (old text mid new : List ℕ) → mid ≡ old ++ text → OnErr r (Keeps mid new) → OnErr r (Keeps old new)
err_after (Ok x) old text mid new e k = tt
err_after (Err x) old text mid new e k = keeps_after old text mid new e k
