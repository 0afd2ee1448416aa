-- What a word of a line spells, it spells with the digits A to F in lower case, and no such word but bytes is long.
use Rattle.std.proofs.Common.{arith, ◌≡◌, ℕ, suc, ◌+◌, ◌-◌, ◌*◌, ◌≤◌, ◌<◌, ◌^◌, ◌==◌, ◌&&◌, ◌||◌, ◌⊎◌, inl, inr, Bool, true, false, List, [], ◌∷◌, ◌++◌, length, take, drop, map, Option, Some, None, Ok, nat_le, nat_lt, if◌then◌else◌, refl, sym, ap, ◌∙◌, subst, length-append, one-add, codes}
use Rattle.std.specs.Prelude.{option_and_then}
use Rattle.std.specs.Fmt.{decimal}
use Rattle.std.specs.List.{list_all, position_or_len}
use Rattle.std.specs.Map.{lookup}
use Rattle.std.specs.Str.{bytes_eq}
use Rattle.std.proofs.lemmas.Bool.Decides.{nat_tests, eqb_tells}
use Rattle.std.proofs.lemmas.List.{length-map}
use Rattle.std.proofs.lemmas.List.Folds.{list_all-append}
use Rattle.std.proofs.lemmas.Slice.Eq.{bytes_eq-Decides}
use Rattle.byteorder.specs.Endian.{big_number}
use Rattle.hex.specs.Hex.{decode_of, decode_pairs, digit_or_error, hex_digit_value, value_at}
use Rattle.rdma_types.specs.declared.names.Name.{Name}
use Rattle.rdma_types.specs.declared.names.ObjName.{ObjName}
use Rattle.rdma_types.specs.declared.rights.Rights.{Rights}
use Rattle.rdma_types.specs.Spelled.{is_name, is_name_byte}
use Rattle.script_lang.specs.Fields.{same_text}
use Rattle.script_lang.specs.Printed.{object_text}
use Rattle.script_lang.specs.Texts.{Letters, bytes_of, cut_at, digits_after, hex_number, hex_of, if_decoded, is_digit, is_decimal, letters_of, mtu_if, mtu_of, name_of, number_in, object_of, rights_of, with_letter}
use Rattle.run_traces.specs.Written.{lower}
use Rattle.law_script_words.proofs.Spoken.{left, right}
use Rattle.law_script_words.proofs.Numbers.{decimal_short, number_digits}
use Rattle.law_traces.proofs.SaidSteps.{AreReadBack, IsSpelled, name_text}

-- a short text without the digits A to F
pub record IsFixed (most : ℕ) (text : List ℕ) : Type 0 where
  pub same : map lower text ≡ text
  pub short : length text ≤ most

-- a short text that spells x with those digits in lower case
pub record IsLow {A : Type 0} (most : ℕ) (spelled : List ℕ → Option A) (text : List ℕ) (x : A) : Type 0 where
  pub same : spelled (map lower text) ≡ Some x
  pub short : length text ≤ most

pub fixed_low : {A : Type 0} (most : ℕ) (spelled : List ℕ → Option A) (text : List ℕ) (x : A) → IsFixed most text → spelled text ≡ Some x → IsLow most spelled text x
fixed_low most spelled text x f h = record { same = ap spelled f.same ∙ h; short = f.short }

-- ---- bytes

digit_kept : (b : ℕ) → is_digit b ≡ true → lower b ≡ b
digit_kept b h = grind (arith, nat_tests)

name_kept : (b : ℕ) → is_name_byte b ≡ true → lower b ≡ b
name_kept b h = grind (arith, nat_tests)

-- texts of bytes that stay
kept_text : (p : ℕ → Bool) → ((b : ℕ) → p b ≡ true → lower b ≡ b) → (text : List ℕ) → list_all p text ≡ true → map lower text ≡ text
kept_text p each [] h = refl
kept_text p each (b ∷ bs) h = rw (each b (left (p b) (list_all p bs) h), kept_text p each bs (right (p b) (list_all p bs) h)) refl

-- ---- numbers

guarded : (a b c : Bool) (m n : ℕ) → (if a && (b && c) then Some m else None) ≡ Some n → (m ≡ n) × (c ≡ true)
guarded true true true m n h = (cc h, refl)
guarded true true false m n h = cc h
guarded true false c m n h = cc h
guarded false b c m n h = cc h

at_most : (m n high : ℕ) → m ≡ n → nat_le m high ≡ true → n ≤ high
at_most m n high e h = grind (arith, nat_tests)

number_within : (low high n : ℕ) (text : List ℕ) → number_in low high text ≡ Some n → n ≤ high
unfolding number_in
number_within low high n text h =
    let g = guarded (is_decimal text) (nat_le low (digits_after 0 text)) (nat_le (digits_after 0 text) high) (digits_after 0 text) n h in
    at_most (digits_after 0 text) n high g.0 g.1

pub number_fixed : AreReadBack → (low high n : ℕ) (text : List ℕ) → high < 2 ^ 64 → number_in low high text ≡ Some n → IsFixed 20 text
number_fixed law low high n text small h =
    let within : n ≤ high = number_within low high n text h in
    let below : n < 2 ^ 64 = omega arith in
    let is : text ≡ decimal n = law.one_way low high n text small h in
    subst (λ t. IsFixed 20 t) (sym is) (record { same = kept_text is_digit digit_kept (decimal n) (number_digits n below); short = decimal_short n below })

-- a value, and what follows it
record IsThen {A B : Type 0} (o : Option A) (f : A → Option B) (y : B) : Type 0 where
  value : A
  is : o ≡ Some value
  follows : f value ≡ Some y

then_some : {A B : Type 0} (o : Option A) (f : A → Option B) (y : B) → option_and_then f o ≡ Some y → IsThen o f y
then_some None f y h = cc h
then_some (Some x) f y h = record { value = x; is = refl; follows = h }

pub mtu_fixed : AreReadBack → (n : ℕ) (text : List ℕ) → mtu_of text ≡ Some n → IsFixed 20 text
unfolding mtu_of
mtu_fixed law n text h = let t = then_some (number_in 256 4096 text) mtu_if n h in number_fixed law 256 4096 t.value text (omega arith) t.is

-- ---- names

name_is : (text : List ℕ) (x : Name) → name_of text ≡ Some x → (text ≡ x) × (is_name x ≡ true)
unfolding name_of
name_is text x h = by (is_name text) refl h
  where
    by : (b : Bool) → is_name text ≡ b → (if b then Some text else None) ≡ Some x → (text ≡ x) × (is_name x ≡ true)
    by true e g = let same : text ≡ x = cc g in (same, subst (λ n. is_name n ≡ true) same e)
    by false e g = cc g

pub name_spelled : (text : List ℕ) (x : Name) → name_of text ≡ Some x → is_name x ≡ true
name_spelled text x h = (name_is text x h).1

spelled_fixed : (text : List ℕ) → is_name text ≡ true → IsFixed 16 text
spelled_fixed text h = let t = name_text text h in record { same = kept_text is_name_byte name_kept text t.bytes; short = t.short }

pub name_fixed : (text : List ℕ) (x : Name) → name_of text ≡ Some x → IsFixed 16 text
name_fixed text x h = let n = name_is text x h in subst (λ t. IsFixed 16 t) (sym n.0) (spelled_fixed x n.1)

-- a text is what stands before its first point, the point, and the rest
point_back : (text : List ℕ) → position_or_len (λ b. b == 46) text < length text → text ≡ take (position_or_len (λ b. b == 46) text) text ++ 46 ∷ drop (suc (position_or_len (λ b. b == 46) text)) text
point_back [] h = absurd (omega arith)
point_back (b ∷ bs) h = elim (eqb_tells b 46) [
  | inl at ↦ rw at.0 (rw at.1 refl)
  | inr other ↦
      let low : 1 + position_or_len (λ b. b == 46) bs < length (b ∷ bs) = rw other.0 at h in
      let rest = point_back bs (omega arith) in
      rw other.0 (rw one-add (ap (λ (z : List ℕ). b ∷ z) rest))
]

cut_back : (text rest : List ℕ) → (cut_at 46 text).behind ≡ Some rest → text ≡ (cut_at 46 text).front ++ 46 ∷ rest
unfolding cut_at
cut_back text rest h = by (nat_lt (position_or_len (λ b. b == 46) text) (length text)) refl
  where
    by : (b : Bool) → nat_lt (position_or_len (λ b. b == 46) text) (length text) ≡ b → text ≡ (cut_at 46 text).front ++ 46 ∷ rest
    by true e =
        let q : Some (drop (position_or_len (λ b. b == 46) text + 1) text) ≡ Some rest = rw e at h in
        let same : drop (position_or_len (λ b. b == 46) text + 1) text ≡ rest = cc q in
        let low : position_or_len (λ b. b == 46) text < length text = grind (arith, nat_tests) in
        let next : suc (position_or_len (λ b. b == 46) text) ≡ position_or_len (λ b. b == 46) text + 1 = omega arith in
        rw e (point_back text low ∙ ap (λ (z : List ℕ). take (position_or_len (λ b. b == 46) text) text ++ 46 ∷ z) (ap (λ k. drop k text) next ∙ same))
    by false e = let q : None ≡ Some rest = rw e at h in cc q

-- an object is spelled by its name
pub object_is : (text : List ℕ) (o : ObjName) → object_of text ≡ Some o → (text ≡ object_text o) × IsSpelled o
unfolding object_of
object_is text o h =
    let one = then_some (name_of (cut_at 46 text).front) _ o h in
    let two = then_some (cut_at 46 text).behind _ o one.follows in
    let three = then_some (name_of two.value) _ o two.follows in
    let same : record { context = one.value; name = three.value } ≡ o = cc three.follows in
    let front = name_is (cut_at 46 text).front one.value one.is in
    let back = name_is two.value three.value three.is in
    subst (λ (x : ObjName). (text ≡ object_text x) × IsSpelled x) same
    (cut_back text two.value two.is ∙ ap (λ (z : List ℕ). z ++ 46 ∷ two.value) front.0 ∙ ap (λ (z : List ℕ). one.value ++ 46 ∷ z) back.0, record { context = front.1; name = back.1 })

pub object_fixed : (text : List ℕ) (o : ObjName) → object_of text ≡ Some o → IsFixed 33 text
object_fixed text o h =
    let is = object_is text o h in
    let one = name_text o.context is.1.context in
    let two = name_text o.name is.1.name in
    subst (λ t. IsFixed 33 t) (sym is.0) (record {
      same = kept_text (λ b. is_name_byte b || (b == 46)) point_kept (object_text o)
          (list_all-append (λ b. is_name_byte b || (b == 46)) o.context (46 ∷ o.name) ∙ rw (names o.context one.bytes, names o.name two.bytes) refl);
      short = omega (arith, length-append o.context (46 ∷ o.name));
    })
  where
    point_kept : (b : ℕ) → (is_name_byte b || (b == 46)) ≡ true → lower b ≡ b
    point_kept b h = grind (arith, nat_tests)

    names : (bs : List ℕ) → list_all is_name_byte bs ≡ true → list_all (λ b. is_name_byte b || (b == 46)) bs ≡ true
    names [] h = refl
    names (b ∷ bs) h = rw (left (is_name_byte b) (list_all is_name_byte bs) h, names bs (right (is_name_byte b) (list_all is_name_byte bs) h)) refl

-- ---- hexadecimal digits

lower_or : (b : ℕ) → (lower b ≡ b) ⊎ ((65 ≤ b) × (b ≤ 70) × (lower b ≡ b + 32))
lower_or b = by (nat_le 65 b) (nat_le b 70) refl refl
  where
    by : (x y : Bool) → nat_le 65 b ≡ x → nat_le b 70 ≡ y → (lower b ≡ b) ⊎ ((65 ≤ b) × (b ≤ 70) × (lower b ≡ b + 32))
    by true true e f = inr (grind (arith, nat_tests), grind (arith, nat_tests), rw (e, f) refl)
    by true false e f = inl (rw (e, f) refl)
    by false y e f = inl (rw e refl)

upper_value : (b : ℕ) → 65 ≤ b → b ≤ 70 → hex_digit_value b ≡ Some (b - 55)
upper_value b l h =
    let one : nat_le 65 b ≡ true = grind (arith, nat_tests) in
    let two : nat_le b 70 ≡ true = grind (arith, nat_tests) in
    rw (one, two) refl

lower_value : (b : ℕ) → 97 ≤ b → b ≤ 102 → hex_digit_value b ≡ Some (b - 87)
lower_value b l h =
    let no : nat_le b 70 ≡ false = grind (arith, nat_tests) in
    let zero' : nat_le 65 b ≡ true = grind (arith, nat_tests) in
    let one : nat_le 97 b ≡ true = grind (arith, nat_tests) in
    let two : nat_le b 102 ≡ true = grind (arith, nat_tests) in
    rw (zero', no, one, two) refl

value_low : (b i : ℕ) → value_at (lower b) i ≡ value_at b i
value_low b i = elim (lower_or b) [
  | inl same ↦ ap (λ c. value_at c i) same
  | inr up ↦
      let less : (b + 32) - 87 ≡ b - 55 = omega arith in
      ap (λ c. value_at c i) up.2
      ∙ ap (digit_or_error (b + 32) i) (lower_value (b + 32) (omega arith) (omega arith))
      ∙ ap Ok less
      ∙ sym (ap (digit_or_error b i) (upper_value b up.0 up.1))
]

pairs_low : (i : ℕ) (text : List ℕ) → decode_pairs i (map lower text) ≡ decode_pairs i text
unfolding decode_pairs
pairs_low i [] = refl
pairs_low i (digit ∷ []) = refl
pairs_low i (high ∷ low ∷ rest) = rw (value_low high i, value_low low (i + 1), pairs_low (i + 2) rest) refl

decode_low : (text : List ℕ) → decode_of (map lower text) ≡ decode_of text
decode_low text = rw (length-map text lower, pairs_low 0 text) refl

-- a guard that lets something through
let_through : {A : Type 0} (b : Bool) (o : Option A) (x : A) → (if b then o else None) ≡ Some x → (b ≡ true) × (o ≡ Some x)
let_through true o x h = (refl, h)
let_through false o x h = cc h

equal : (a b : ℕ) → (a == b) ≡ true → a ≡ b
equal a b h = grind (arith, nat_tests)

pub hex_low : (width n : ℕ) (text : List ℕ) → hex_number width text ≡ Some n → IsLow (2 * width) (hex_number width) text n
unfolding hex_number
hex_low width n text h =
    let g = let_through (length text == 2 * width) (option_and_then (λ bs. Some (big_number width bs)) (hex_of text)) n h in
    let len : length text ≡ 2 * width = equal (length text) (2 * width) g.0 in
    record {
      same =
          ap (λ k. if k == 2 * width then option_and_then (λ bs. Some (big_number width bs)) (hex_of (map lower text)) else None) (length-map text lower)
          ∙ ap (λ r. if length text == 2 * width then option_and_then (λ bs. Some (big_number width bs)) (if_decoded r) else None) (decode_low text)
          ∙ h;
      short = omega (arith, len);
    }

within : (n : ℕ) → (nat_le 2 n && nat_le n 8192) ≡ true → n ≤ 8192
within n h = grind (arith, nat_tests)

pub bytes_low : (text bytes : List ℕ) → bytes_of text ≡ Some bytes → IsLow 8192 bytes_of text bytes
unfolding bytes_of
bytes_low text bytes h =
    let g = let_through (nat_le 2 (length text) && nat_le (length text) 8192) (hex_of text) bytes h in
    record {
      same =
          ap (λ k. if nat_le 2 k && nat_le k 8192 then hex_of (map lower text) else None) (length-map text lower)
          ∙ ap (λ r. if nat_le 2 (length text) && nat_le (length text) 8192 then if_decoded r else None) (decode_low text)
          ∙ h;
      short = within (length text) g.0;
    }

-- ---- rights

no_bytes : (text : List ℕ) → (length text == 0) ≡ true → IsFixed 0 text
no_bytes [] h = record { same = refl; short = omega arith }
no_bytes (b ∷ bs) h = let zero' : length (b ∷ bs) ≡ 0 = equal (length (b ∷ bs)) 0 h in absurd (omega arith)

letter_before : (letter most : ℕ) (text : List ℕ) → lower letter ≡ letter → take 1 text ≡ letter ∷ [] → IsFixed most (drop 1 text) → IsFixed (most + 1) text
letter_before letter most [] low h f = cc h
letter_before letter most (b ∷ bs) low h f =
    let same : b ≡ letter = cc h in
    let kept : lower b ≡ b = ap lower same ∙ low ∙ sym same in
    record { same = rw (kept, f.same) refl; short = omega (arith, f.short) }

letter_fixed : (letter added most : ℕ) (l : Letters) → lower letter ≡ letter → IsFixed most (with_letter letter added l).rest → IsFixed (most + 1) l.rest
unfolding with_letter
letter_fixed letter added most l low f = by (bytes_eq (take 1 l.rest) (letter ∷ [])) refl f
  where
    by : (b : Bool) → bytes_eq (take 1 l.rest) (letter ∷ []) ≡ b → IsFixed most (if b then record { sum = l.sum + added; rest = drop 1 l.rest } else l).rest → IsFixed (most + 1) l.rest
    by true e g = letter_before letter most l.rest low ((bytes_eq-Decides (take 1 l.rest) (letter ∷ [])).0 e) g
    by false e g = record { same = g.same; short = omega (arith, g.short) }

letters_fixed : (text : List ℕ) → IsFixed 0 (letters_of text).rest → IsFixed 4 text
unfolding letters_of
letters_fixed text f =
    let l : Letters = with_letter 108 1 (record { sum = 0; rest = text }) in
    let w : Letters = with_letter 119 2 l in
    let r : Letters = with_letter 114 4 w in
    letter_fixed 108 1 3 (record { sum = 0; rest = text }) refl (letter_fixed 119 2 2 l refl (letter_fixed 114 4 1 w refl (letter_fixed 97 8 0 r refl f)))

pub rights_fixed : (text : List ℕ) (x : Rights) → rights_of text ≡ Some x → IsFixed 4 text
unfolding rights_of
rights_fixed text x h = by (bytes_eq text (codes "-")) refl h
  where
    by : (b : Bool) → bytes_eq text (codes "-") ≡ b → (if b then Some (record { 0 = 0 }) else if length (letters_of text).rest == 0 then Some (record { 0 = (letters_of text).sum }) else None) ≡ Some x → IsFixed 4 text
    by true e g = let is : text ≡ codes "-" = (bytes_eq-Decides text (codes "-")).0 e in subst (λ t. IsFixed 4 t) (sym is) (record { same = refl; short = omega arith })
    by false e g =
        let t = let_through (length (letters_of text).rest == 0) (Some (record { 0 = (letters_of text).sum })) x g in
        letters_fixed text (no_bytes (letters_of text).rest t.0)

-- ---- fixed words

-- a word that is spelled out
pub label_fixed : (label text : List ℕ) (x : Unit {0}) (most : ℕ) → IsFixed most label → same_text label text ≡ Some x → IsFixed most text
label_fixed label text x most f h =
    let t = let_through (bytes_eq text label) (Some tt) x h in
    subst (λ (z : List ℕ). IsFixed most z) (sym ((bytes_eq-Decides text label).0 t.0)) f

-- keys of a table without the digits A to F, and short
abbrev pub are_fixed : {X : Type 0} → List (List ℕ × X) → Bool
are_fixed [] = true
are_fixed (e ∷ es) = (bytes_eq (map lower e.0) e.0 && nat_le (length e.0) 8) && are_fixed es

short_key : (n : ℕ) → nat_le n 8 ≡ true → n ≤ 8
short_key n h = grind (arith, nat_tests)

-- a word that is found in such a table
pub found_fixed : {X : Type 0} (w : List ℕ) (entries : List (List ℕ × X)) (x : X) → are_fixed entries ≡ true → lookup (λ text. bytes_eq w text) entries ≡ Some x → IsFixed 8 w
found_fixed w [] x are h = cc h
found_fixed {X = X} w (e ∷ es) x are h = by (bytes_eq w e.0) refl h (found_fixed w es x (right (bytes_eq (map lower e.0) e.0 && nat_le (length e.0) 8) (are_fixed es) are))
  where
    one : (bytes_eq (map lower e.0) e.0 && nat_le (length e.0) 8) ≡ true
    one = left (bytes_eq (map lower e.0) e.0 && nat_le (length e.0) 8) (are_fixed es) are

    by : (b : Bool) → bytes_eq w e.0 ≡ b → (if b then Some e.1 else lookup (λ text. bytes_eq w text) es) ≡ Some x → (lookup (λ text. bytes_eq w text) es ≡ Some x → IsFixed 8 w) → IsFixed 8 w
    by true t g later =
        let is : w ≡ e.0 = (bytes_eq-Decides w e.0).0 t in
        subst (λ (z : List ℕ). IsFixed 8 z) (sym is) (record {
          same = (bytes_eq-Decides (map lower e.0) e.0).0 (left (bytes_eq (map lower e.0) e.0) (nat_le (length e.0) 8) one);
          short = short_key (length e.0) (right (bytes_eq (map lower e.0) e.0) (nat_le (length e.0) 8) one);
        })
    by false t g later = later g
