-- The next word of a line, read with what it says.
use Rattle.std.proofs.Common.{◌≡◌, ◌==◌, ◌&&◌, ℕ, zero, suc, ◌+◌, ◌-◌, ◌<◌, ◌≤◌, ◌^◌, Bool, true, false, List, [], ◌∷◌, ◌++◌, length, take, drop, get_or, nat_le, Option, Some, None, Ok, if◌then◌else◌, refl, sym, ap, ap₂, subst, ◌∙◌, arith, drop-drop, length-drop, drop-cons, inl, inr}
use Rattle.std.specs.List.{list_all}
use Rattle.std.proofs.Math.Seq.{take-add}
use Rattle.std.proofs.lemmas.Bool.Decides.{nat_tests, eqb_tells}
use Rattle.std.proofs.lemmas.List.{get_or-drop, take_all}
use Rattle.rdma_types.specs.Spelled.{is_name}
use Rattle.rdma_types.specs.declared.names.ObjName.{ObjName}
use Rattle.script_lang.specs.Fields.{a_number, an_object}
use Rattle.script_lang.specs.Texts.{is_digit, digits_after, is_decimal, number_in, object_of}
use Rattle.script_lang.specs.Words.{Word, Input, IsNumberNext, IsObjectNext, a_word, a_field, is_space, words_from}
use Rattle.script_lang.specs.declared.lines.LineWhy.{LineWhy}
use Rattle.script_lang.specs.declared.lines.LineWhy.TheVariants as why
use Rattle.script_lang.proofs.Objects.{object_again, object_solid}
use Rattle.script_lang.proofs.Splitting.{at_column, is_solid, solid_word}

-- ---- numbers

-- a digit is no space
digit_solid : (b : ℕ) → is_digit b ≡ true → is_solid b ≡ true
digit_solid b h = elim (eqb_tells b 32) [
  | inl at ↦
      let bad : is_digit 32 ≡ true = rw at.1 at h in
      absurd (cc bad)
  | inr other ↦ rw other.0 refl
]

left : (a b : Bool) → (a && b) ≡ true → a ≡ true
left true b h = refl
left false b h = cc h

right : (a b : Bool) → (a && b) ≡ true → b ≡ true
right true b h = h
right false b h = cc h

digits_solid : (bs : List ℕ) → list_all is_digit bs ≡ true → list_all is_solid bs ≡ true
digits_solid [] h = refl
digits_solid (b ∷ bs) h =
    let first : is_solid b ≡ true = digit_solid b (left _ _ h) in
    rw first (digits_solid bs (right _ _ h))

-- digits with no zero before others
decimal : (bs : List ℕ) (n : ℕ) → 0 < n → n ≤ length bs → list_all is_digit (take n bs) ≡ true → (1 < n → (get_or bs 0 0 == 48) ≡ false) → is_decimal (take n bs) ≡ true
decimal [] n some within all lone = absurd (omega arith)
decimal (b ∷ bs) zero some within all lone = absurd (omega arith)
decimal (b ∷ bs) (suc zero) some within all lone = elim (eqb_tells b 48) [
  | inl at ↦ rw (all, at.0) refl
  | inr other ↦ rw (all, other.0) refl
]
decimal (b ∷ bs) (suc (suc n)) some within all lone =
    let other : (b == 48) ≡ false = lone (omega arith) in
    rw (all, other) refl

lone_zero : (b count : ℕ) → (b ≡ 48 → count ≤ 1) → 1 < count → (b == 48) ≡ false
lone_zero b count lone h = elim (eqb_tells b 48) [
  | inl at ↦
      let few : count ≤ 1 = lone at.1 in
      absurd (omega arith)
  | inr other ↦ other.0
]

-- the number of a word
told : (low high n : ℕ) (text : List ℕ) → is_decimal text ≡ true → digits_after 0 text ≡ n → low ≤ n → n ≤ high → number_in low high text ≡ Some n
unfolding number_in
told low high n text h e l m =
    let within : (nat_le low n && nat_le n high) ≡ true = grind (arith, nat_tests) in
    rw (h, e, within) refl

-- what is lent of a line from a place on is all that is left of it
pub whole_tail : (line : List ℕ) (start : ℕ) → take (length line - start) (drop start line) ≡ drop start line
whole_tail line start = take_all (length line - start) (drop start line) (omega (arith, length-drop start line))

-- the next word is the number that its digits spell
pub number_next : (line : List ℕ) (at start count n : ℕ)
    → words_from (start + 1) (drop start line) ≡ words_from (at + 1) (drop at line)
    → (start < length line → is_space (get_or line start 0) ≡ false)
    → 0 < count → count ≤ length (drop start line)
    → list_all is_digit (take count (drop start line)) ≡ true → n ≡ digits_after 0 (take count (drop start line)) → n < 2 ^ 64
    → (get_or line start 0 ≡ 48 → count ≤ 1)
    → (start + count < length line → get_or line (start + count) 0 ≡ 32)
    → IsNumberNext line at n (start + count)
number_next line at start count n passed front some within all value small lone stops =
    let rest : List ℕ = drop start line in
    let inside : start < length line = omega (arith, length-drop start line) in
    let same : start + 0 ≡ start = omega arith in
    let first : get_or rest 0 0 ≡ get_or line start 0 = get_or-drop start line 0 0 ∙ ap (λ (k : ℕ). get_or line k 0) same in
    let spelled : is_decimal (take count rest) ≡ true = decimal rest count some within all (λ h. lone_zero (get_or rest 0 0) count (λ e. lone (sym first ∙ e)) h) in
    record {
      word = at_column (start + 1) (take count rest);
      next = sym passed ∙ solid_word line start count inside (front inside) within (digits_solid (take count rest) all) stops;
      number = told 0 (2 ^ 64 - 1) n (take count rest) spelled (sym value) (omega arith) (omega arith);
    }

-- ---- objects

-- two names with a point between them
pair_text : (line : List ℕ) (start k m : ℕ) (context name : List ℕ) → context ≡ take k (drop start line) → start + k < length line → get_or line (start + k) 0 ≡ 46 → name ≡ take m (drop (start + k + 1) line) → take (k + 1 + m) (drop start line) ≡ context ++ 46 ∷ name
pair_text line start k m context name c_is inside dot n_is =
    let rest : List ℕ = drop start line in
    let size : k + 1 + m ≡ k + suc m = omega arith in
    let behind : suc (start + k) ≡ start + k + 1 = omega arith in
    ap (λ (j : ℕ). take j rest) size ∙ take-add k (suc m) rest
    ∙ ap (λ (z : List ℕ). take k rest ++ take (suc m) z) (drop-drop k start line ∙ drop-cons line (start + k) 0 inside ∙ ap (λ (b : ℕ). b ∷ drop (suc (start + k)) line) dot)
    ∙ ap (λ (j : ℕ). take k rest ++ 46 ∷ take m (drop j line)) behind
    ∙ ap₂ (λ (x y : List ℕ). x ++ 46 ∷ y) (sym c_is) (sym n_is)

-- the next word is the object that its names spell
pub object_next : (line : List ℕ) (at start k m : ℕ) (context name : List ℕ)
    → words_from (start + 1) (drop start line) ≡ words_from (at + 1) (drop at line)
    → (start < length line → is_space (get_or line start 0) ≡ false)
    → context ≡ take k (drop start line) → is_name context ≡ true
    → start + k < length line → get_or line (start + k) 0 ≡ 46
    → name ≡ take m (drop (start + k + 1) line) → is_name name ≡ true → m ≤ length (drop (start + k + 1) line)
    → (start + k + 1 + m < length line → get_or line (start + k + 1 + m) 0 ≡ 32)
    → IsObjectNext line at (record { context = context; name = name }) (start + k + 1 + m)
object_next line at start k m context name passed front c_is c dot_within dot n_is n m_within stops =
    let rest : List ℕ = drop start line in
    let inside : start < length line = omega arith in
    let count : ℕ = k + 1 + m in
    let end : start + count ≡ start + k + 1 + m = omega arith in
    let text : take count rest ≡ context ++ 46 ∷ name = pair_text line start k m context name c_is dot_within dot n_is in
    let solid : list_all is_solid (take count rest) ≡ true = ap (list_all is_solid) text ∙ object_solid context name c n in
    let within : count ≤ length rest = omega (arith, length-drop start line, length-drop (start + k + 1) line) in
    let word : words_from (start + 1) rest ≡ at_column (start + 1) (take count rest) ∷ words_from (start + count + 1) (drop (start + count) line) = solid_word line start count inside (front inside) within solid (λ h. ap (λ (e : ℕ). get_or line e 0) end ∙ stops (omega arith)) in
    subst (λ (e : ℕ). IsObjectNext line at (record { context = context; name = name }) e) end (record {
      word = at_column (start + 1) (take count rest);
      next = sym passed ∙ word;
      object = ap object_of text ∙ object_again context name c n;
    })

-- ---- readers

field_read : {A : Type 0} (spelled : List ℕ → Option A) (why : LineWhy) (i j : Input) (w : Word) (x : A) → i.words ≡ w ∷ j.words → i.past ≡ j.past → spelled w.text ≡ Some x → a_field spelled why i ≡ Ok (x, j)
unfolding a_word
field_read spelled why i j w x words past is = rw (words, is, past) refl

spelled_within : (d : Bool) (w : Bool) (m n : ℕ) → (if d && w then Some m else None) ≡ Some n → (d ≡ true) × (m ≡ n)
spelled_within true true m n h = (refl, cc h)
spelled_within true false m n h = absurd (cc h)
spelled_within false w m n h = absurd (cc h)

narrowed : (low high n : ℕ) (text : List ℕ) → number_in 0 (2 ^ 64 - 1) text ≡ Some n → low ≤ n → n ≤ high → number_in low high text ≡ Some n
unfolding number_in
narrowed low high n text h l m =
    let parts : (is_decimal text ≡ true) × (digits_after 0 text ≡ n) = spelled_within (is_decimal text) (nat_le 0 (digits_after 0 text) && nat_le (digits_after 0 text) (2 ^ 64 - 1)) (digits_after 0 text) n h in
    told low high n text parts.0 parts.1 l m

-- what is next is read as a number
pub number_read : (line : List ℕ) (at n end low high : ℕ) → IsNumberNext line at n end → low ≤ n → n ≤ high
    → a_number low high (record { words = words_from (at + 1) (drop at line); past = length line + 1 }) ≡ Ok (n, record { words = words_from (end + 1) (drop end line); past = length line + 1 })
unfolding a_number
number_read line at n end low high next l m =
    field_read (number_in low high) why.Number (record { words = words_from (at + 1) (drop at line); past = length line + 1 }) (record { words = words_from (end + 1) (drop end line); past = length line + 1 }) next.word n next.next refl (narrowed low high n next.word.text next.number l m)

-- .. and as an object
pub object_read : (line : List ℕ) (at : ℕ) (o : ObjName) (end : ℕ) → IsObjectNext line at o end
    → an_object (record { words = words_from (at + 1) (drop at line); past = length line + 1 }) ≡ Ok (o, record { words = words_from (end + 1) (drop end line); past = length line + 1 })
unfolding an_object
object_read line at o end next =
    field_read object_of why.Name (record { words = words_from (at + 1) (drop at line); past = length line + 1 }) (record { words = words_from (end + 1) (drop end line); past = length line + 1 }) next.word o next.next refl next.object
