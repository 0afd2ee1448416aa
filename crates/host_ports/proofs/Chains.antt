use Rattle.std.proofs.Common.{◌≡◌, ℕ, ◌+◌, ◌-◌, ◌<◌, ◌≤◌, IsSome, inl, inr, List, [], ◌∷◌, ◌++◌, length, take, drop, Option, None, Some, refl, ap, subst, sym, ◌∙◌, append_assoc, append-nil, length-append, length-drop, length-take-le, take-add, arith}
use Rattle.std.proofs.Math.Seq.{take-append_seam, drop-append_seam}
use Rattle.std.proofs.lemmas.List.{take-append-drop, drop_at, take-append-le}
use Rattle.host_ports.specs.Streams.{FaultsCounted, IsAtEnd, Takes, TakesAll, TakesCount, Puts}

-- a count that rose later rose
pub FaultsCounted-before : (a b c : ℕ) → a ≤ b → FaultsCounted b c → FaultsCounted a c
FaultsCounted-before a b c h r = elim r [ inl s ↦ inl (omega arith) | inr s ↦ inr s ]

-- a count that rose stays risen
pub FaultsCounted-after : (a b c : ℕ) → FaultsCounted a b → b ≤ c → FaultsCounted a c
FaultsCounted-after a b c r h = elim r [ inl s ↦ inl (omega arith) | inr s ↦ inr (omega arith) ]

empty : (xs : List ℕ) → length xs ≡ 0 → xs ≡ []
empty [] e = refl
empty (x ∷ xs) e = absurd (omega (arith, e))

-- nothing taken
pub Takes-none : (a : Option (List ℕ)) → Takes a a []
Takes-none None = refl
Takes-none (Some left) = (left, refl, refl)

-- one taking after another
pub Takes-then : (a b c : Option (List ℕ)) (xs ys : List ℕ) → Takes a b xs → Takes b c ys → Takes a c (xs ++ ys)
Takes-then None b c xs ys h k = subst (λ o. Takes o c ys) h k
Takes-then (Some left) b c xs ys h k =
    let then : Takes (Some h.0) c ys = subst (λ o. Takes o c ys) h.2 k in
    (then.0, h.1 ∙ ap (λ l. xs ++ l) then.1 ∙ sym (append_assoc xs ys then.0), then.2)

-- how many bytes a taking took
pub TakesCount-from : (a b : Option (List ℕ)) (xs : List ℕ) (n : ℕ) → Takes a b xs → length xs ≡ n → TakesCount a b n
TakesCount-from None b xs n h e = h
TakesCount-from (Some left) b xs n h e =
    let whole : length left ≡ length xs + length h.0 = ap length h.1 ∙ length-append xs h.0 in
    let rest : drop n left ≡ h.0 = ap (λ l. drop n l) h.1 ∙ drop_at xs h.0 n e in
    (omega arith, h.2 ∙ ap Some (sym rest))

-- what was taken is all, where nothing is left
pub TakesAll-from : (a b c : Option (List ℕ)) (xs ys : List ℕ) → Takes a b xs → Takes b c ys → IsAtEnd b → TakesAll a c xs
TakesAll-from None b c xs ys h k end = subst (λ o. Takes o c ys) h k
TakesAll-from (Some left) b c xs ys h k end =
    let rest : h.0 ≡ [] = subst IsAtEnd h.2 end in
    let then : Takes (Some h.0) c ys = subst (λ o. Takes o c ys) h.2 k in
    let none : length then.0 ≡ 0 = omega (arith, ap length then.1, ap length rest, length-append ys then.0) in
    (sym (h.1 ∙ ap (λ l. xs ++ l) rest ∙ append-nil xs), then.2 ∙ ap Some (empty then.0 none))

-- more than was taken is not the count
pub TakesCount-apart : (a b : Option (List ℕ)) (xs : List ℕ) (n : ℕ) → IsSome a → Takes a b xs → length xs < n → TakesCount a b n → ⊥
TakesCount-apart None b xs n some h less k = cc some
TakesCount-apart (Some left) b xs n some h less k =
    let whole : length left ≡ length xs + length h.0 = ap length h.1 ∙ length-append xs h.0 in
    let same : Some h.0 ≡ Some (drop n left) = sym h.2 ∙ k.1 in
    let rest : h.0 ≡ drop n left = cc in
    let rests : length h.0 ≡ length left - n = ap length rest ∙ length-drop n left in
    omega arith

-- nothing put
pub Puts-none : (a : Option (List ℕ)) → Puts a a []
Puts-none None = refl
Puts-none (Some held) = ap Some (sym (append-nil held))

-- one piece after another
pub Puts-then : (a b c : Option (List ℕ)) (xs ys : List ℕ) → Puts a b xs → Puts b c ys → Puts a c (xs ++ ys)
Puts-then None b c xs ys h k = subst (λ o. Puts o c ys) h k
Puts-then (Some held) b c xs ys h k =
    let then : Puts (Some (held ++ xs)) c ys = subst (λ o. Puts o c ys) h k in
    then ∙ ap Some (append_assoc held xs ys)

-- a prefix of a piece after the pieces before it is a prefix of the text that they begin
pub Puts-part : (a b c : Option (List ℕ)) (xs ys zs : List ℕ) (n : ℕ) → n ≤ length ys → Puts a b xs → Puts b c (take n ys) → Puts a c (take (length xs + n) (xs ++ ys ++ zs))
Puts-part a b c xs ys zs n h p k =
    let seam : take (length xs + n) (xs ++ ys ++ zs) ≡ xs ++ take n ys =
    rw (append_assoc, take-add, take-append_seam, drop-append_seam) (ap (λ l. xs ++ l) (take-append-le n ys zs h)) in
    rw seam (Puts-then a b c xs (take n ys) p k)

-- what was read is a prefix of what was left
pub read_piece : (left xs out : List ℕ) (n : ℕ) → n ≤ length left → xs ≡ take n left → left ≡ take n (xs ++ out) ++ drop n left
read_piece left xs out n h e =
    let long : length xs ≡ n = ap length e ∙ length-take-le n left h in
    let front : take n (xs ++ out) ≡ xs = ap (λ k. take k (xs ++ out)) (sym long) ∙ take-append_seam xs out in
    rw (front, e) (sym (take-append-drop n left))
