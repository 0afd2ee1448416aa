-- Readers that read exactly what is spelled.
use Rattle.std.proofs.Common.{◌≡◌, ℕ, zero, suc, ◌+◌, ◌-◌, ◌*◌, ◌/◌, ◌%◌, ◌^◌, ◌<◌, ◌≤◌, Bool, true, false, nat_lt, nat_le, List, [], ◌∷◌, ◌++◌, length, take, drop, refl, ap, sym, subst, ◌∙◌, arith, append_assoc, length-append, add_assoc, add-zero}
use Rattle.std.specs.Prelude.{⊤, slice_index, flat_map, if◌then◌else◌}
use Rattle.std.proofs.lemmas.Bool.Decides.{nat_tests}
use Rattle.std.proofs.lemmas.List.{append-nil, length-take, take_all, take-append-drop}
use Rattle.std.proofs.lemmas.Nat.{div-mul-add}
use Rattle.protocol.specs.declared.dumps.DumpWhy.TheVariants as dump_why
use Rattle.std.proofs.Math.Seq.{take-append_seam, drop-append_seam, take-length}
use Rattle.std.proofs.Math.Nat.{pow-succ', one-le-pow, mul-add-div_right, mul-add-mod_self_right, mod-eq_of_lt, div-one, mul_assoc}
use Rattle.std.specs.Int.{byte_at, bytes_high_first}
use Rattle.byteorder.specs.Endian as endian
use Rattle.byteorder.specs.Numbers.{big_from-cons, big_number-reads_back, length-bytes_high_first, big_from-lt}
use Rattle.protocol.specs.declared.dumps.DumpWhy.{DumpWhy}
use Rattle.protocol.specs.Bytes.{big_number, big_bytes}
use Rattle.protocol.specs.Dumps.{Reading, Reader, Good, Bad, after, then_read, gives, raw, judged, number_by, items, list_field, count_field, counted}

-- ---- bytes

-- each is a byte
abbrev pub AreBytes : List ℕ → Type 0
AreBytes [] = Unit {0}
AreBytes (b ∷ bs) = (b < 256) × AreBytes bs

pub bytes_after : (n : ℕ) (bs : List ℕ) → AreBytes bs → AreBytes (drop n bs)
bytes_after zero bs h = h
bytes_after (suc n) [] h = tt
bytes_after (suc n) (b ∷ bs) h = bytes_after n bs h.1

bytes_at : (bs : List ℕ) → AreBytes bs → (k : ℕ) → slice_index bs k < 256
bytes_at [] h k = omega arith
bytes_at (b ∷ bs) h zero = h.0
bytes_at (b ∷ bs) h (suc k) = bytes_at bs h.1 k

-- ---- exactness

-- what was found at a place: a value that keeps the rule, spelled there
pub record Found (A : Type 0) (rule : A → Type 0) (spell : A → List ℕ) (bs : List ℕ) (x : A) (rest : List ℕ) : Type 0 where
  pub keeps : rule x
  pub spelled : bs ≡ spell x ++ rest
  pub bytes : AreBytes rest

-- a reader gives back each value that keeps a rule from its spelling, and gives nothing else
pub record Exact (A : Type 0) (X : Reader A) (rule : A → Type 0) (spell : A → List ℕ) : Type 0 where
  pub back : (x : A) → rule x → (place : ℕ) (rest : List ℕ) → X place (spell x ++ rest) ≡ Good x (place + length (spell x)) rest
  pub only : (place : ℕ) (bs : List ℕ) → AreBytes bs → (x : A) (p : ℕ) (rest : List ℕ) → X place bs ≡ Good x p rest → Found A rule spell bs x rest

gives_bytes : (A : Type 0) (x : A) (place : ℕ) (bs : List ℕ) → AreBytes bs → (y : A) (p : ℕ) (rest : List ℕ) → Good x place bs ≡ Good y p rest → AreBytes rest
gives_bytes A x place bs all y p rest h = let same : bs ≡ rest = cc in subst (λ (z : List ℕ). AreBytes z) same all

-- ---- raw bytes

none_short : (bs rest : List ℕ) → nat_lt (length (bs ++ rest)) (length bs) ≡ false
none_short bs rest = let e = length-append bs rest in grind (arith, nat_tests, e)

pub raw_back : (n : ℕ) (bs : List ℕ) → length bs ≡ n → (place : ℕ) (rest : List ℕ) → raw n place (bs ++ rest) ≡ Good bs (place + n) rest
unfolding raw
raw_back n bs e place rest = rw (← e, none_short bs rest, take-append_seam bs rest, drop-append_seam bs rest) refl

-- enough bytes
enough : (n : ℕ) (bs : List ℕ) → nat_lt (length bs) n ≡ false → n ≤ length bs
enough n bs e = grind (arith, nat_tests)

-- what raw bytes are
pub record Taken (n : ℕ) (bs x rest : List ℕ) : Type 0 where
  pub len : length x ≡ n
  pub whole : bs ≡ x ++ rest
  pub after : rest ≡ drop n bs

taken_is : (n : ℕ) (bs x rest : List ℕ) → n ≤ length bs → x ≡ take n bs → rest ≡ drop n bs → Taken n bs x rest
taken_is n bs x rest h a b = record {
  len = ap length a ∙ (length-take n bs ∙ omega arith);
  whole = sym (ap (λ (y : List ℕ). y ++ rest) a ∙ (ap (λ (y : List ℕ). take n bs ++ y) b ∙ take-append-drop n bs));
  after = b;
}

raw_by : (t : Bool) (n place : ℕ) (bs : List ℕ) (x : List ℕ) (p : ℕ) (rest : List ℕ) → nat_lt (length bs) n ≡ t → (if t then Bad (place + length bs) dump_why.Short else Good (take n bs) (place + n) (drop n bs)) ≡ Good x p rest → Taken n bs x rest
raw_by true n place bs x p rest e h = cc
raw_by false n place bs x p rest e h =
    let a : x ≡ take n bs = cc in
    let b : rest ≡ drop n bs = cc in
    taken_is n bs x rest (enough n bs e) a b

pub raw_only : (n place : ℕ) (bs : List ℕ) (x : List ℕ) (p : ℕ) (rest : List ℕ) → raw n place bs ≡ Good x p rest → Taken n bs x rest
unfolding raw
raw_only n place bs x p rest h = raw_by (nat_lt (length bs) n) n place bs x p rest refl h

-- ---- numbers

byte_is : (k x : ℕ) → byte_at k x ≡ x / 256 ^ k % 256
byte_is zero x = ap (λ (y : ℕ). y % 256) (sym (div-one x))
byte_is (suc k) x = refl

power_some : (n : ℕ) → zero < 256 ^ n
power_some n = let h = one-le-pow n 256 (omega arith) in omega arith

-- the lowest bytes do not look at what is above them
low_bytes : (n k m : ℕ) → bytes_high_first n (k * 256 ^ n + m) ≡ bytes_high_first n m
low_bytes zero k m = refl
low_bytes (suc n) k m =
    let split : k * 256 ^ suc n + m ≡ k * 256 * 256 ^ n + m = ap (λ (y : ℕ). y + m) (ap (λ (y : ℕ). k * y) (pow-succ' 256 n) ∙ sym (mul_assoc k 256 (256 ^ n))) in
    let digit : (k * 256 * 256 ^ n + m) / 256 ^ n ≡ k * 256 + m / 256 ^ n = mul-add-div_right (power_some n) (k * 256) m in
    let head : byte_at n (k * 256 ^ suc n + m) ≡ byte_at n m = byte_is n (k * 256 ^ suc n + m) ∙ (ap (λ (y : ℕ). y / 256 ^ n % 256) split ∙ (ap (λ (y : ℕ). y % 256) digit ∙ (mul-add-mod_self_right k 256 (m / 256 ^ n) ∙ sym (byte_is n m)))) in
    let tail : bytes_high_first n (k * 256 ^ suc n + m) ≡ bytes_high_first n m = ap (λ (y : ℕ). bytes_high_first n y) split ∙ low_bytes n (k * 256) m in
    rw (head, tail) refl

-- the bytes of the number that bytes spell
bytes_again : (n : ℕ) (xs : List ℕ) → AreBytes xs → length xs ≡ n → bytes_high_first n (endian.big_number n xs) ≡ xs
bytes_again zero [] h e = refl
bytes_again zero (x ∷ xs) h e = absurd (omega arith)
bytes_again (suc n) [] h e = absurd (omega arith)
bytes_again (suc n) (a ∷ xs) h e =
    let moved : endian.big_from 1 n (a ∷ xs) ≡ endian.big_number n xs = big_from-cons 0 n a xs in
    let small : endian.big_number n xs < 256 ^ n = big_from-lt 0 n xs (bytes_at xs h.1) in
    let number : endian.big_number (suc n) (a ∷ xs) ≡ a * 256 ^ n + endian.big_number n xs = ap (λ (y : ℕ). a * 256 ^ n + y) moved in
    let digit : (a * 256 ^ n + endian.big_number n xs) / 256 ^ n ≡ a = div-mul-add a (256 ^ n) (endian.big_number n xs) small in
    let head : byte_at n (a * 256 ^ n + endian.big_number n xs) ≡ a = byte_is n (a * 256 ^ n + endian.big_number n xs) ∙ (ap (λ (y : ℕ). y % 256) digit ∙ mod-eq_of_lt h.0) in
    let tail : bytes_high_first n (a * 256 ^ n + endian.big_number n xs) ≡ xs = low_bytes n a (endian.big_number n xs) ∙ bytes_again n xs h.1 (omega arith) in
    rw (number, head, tail) refl

front_bytes : (x rest : List ℕ) → AreBytes (x ++ rest) → AreBytes x
front_bytes [] rest h = tt
front_bytes (b ∷ x) rest h = (h.0, front_bytes x rest h.1)

pub back_bytes : (x rest : List ℕ) → AreBytes (x ++ rest) → AreBytes rest
back_bytes [] rest h = h
back_bytes (b ∷ x) rest h = back_bytes x rest h.1

-- a number that passes a test, and fits its width
pub record Passes (width : ℕ) (ok : ℕ → Bool) (n : ℕ) : Type 0 where
  pub test : ok n ≡ true
  pub fits : n < 256 ^ width

judged_by : (t : Bool) (start : ℕ) (why : DumpWhy) (n place : ℕ) (bs : List ℕ) (x p : ℕ) (rest : List ℕ) → (if t then Good n place bs else Bad start why) ≡ Good x p rest → (t ≡ true) × (x ≡ n) × (rest ≡ bs)
judged_by true start why n place bs x p rest h = (refl, (cc), (cc))
judged_by false start why n place bs x p rest h = cc

pub judged_only : (start : ℕ) (why : DumpWhy) (ok : ℕ → Bool) (n place : ℕ) (bs : List ℕ) (x p : ℕ) (rest : List ℕ) → judged start why ok n place bs ≡ Good x p rest → (ok n ≡ true) × (x ≡ n) × (rest ≡ bs)
unfolding judged
judged_only start why ok n place bs x p rest h = judged_by (ok n) start why n place bs x p rest h

number_found : (why : DumpWhy) (width : ℕ) (ok : ℕ → Bool) (place : ℕ) (bs : List ℕ) → AreBytes bs → (r : Reading (List ℕ)) → raw width place bs ≡ r → (x p : ℕ) (rest : List ℕ) → after r (λ field. judged place why ok (big_number field)) ≡ Good x p rest → Found ℕ (Passes width ok) (big_bytes width) bs x rest
unfolding after big_number big_bytes
number_found why width ok place bs b (Bad q w) e x p rest h = cc
number_found why width ok place bs b (Good field q more) e x p rest h =
    let t = raw_only width place bs field q more e in
    let j = judged_only place why ok (endian.big_number (length field) field) q more x p rest h in
    let all : AreBytes (field ++ more) = subst (λ (y : List ℕ). AreBytes y) t.whole b in
    let fb : AreBytes field = front_bytes field more all in
    let value : x ≡ endian.big_number width field = j.1 ∙ ap (λ (k : ℕ). endian.big_number k field) t.len in
    let small : endian.big_number width field < 256 ^ width = big_from-lt 0 width field (bytes_at field fb) in
    let spelled : bytes_high_first width x ≡ field = ap (λ (y : ℕ). bytes_high_first width y) value ∙ bytes_again width field fb t.len in
    let passes : ok x ≡ true = ap ok j.1 ∙ j.0 in
    record {
      keeps = record { test = passes; fits = subst (λ (y : ℕ). y < 256 ^ width) (sym value) small };
      spelled = t.whole ∙ (ap (λ (y : List ℕ). y ++ more) (sym spelled) ∙ ap (λ (y : List ℕ). bytes_high_first width x ++ y) (sym j.2));
      bytes = subst (λ (y : List ℕ). AreBytes y) (sym j.2) (back_bytes field more all);
    }

number_back : (why : DumpWhy) (width : ℕ) (ok : ℕ → Bool) (n : ℕ) → Passes width ok n → (place : ℕ) (rest : List ℕ) → number_by why width ok place (big_bytes width n ++ rest) ≡ Good n (place + length (big_bytes width n)) rest
unfolding after judged big_number big_bytes
number_back why width ok n h place rest =
    let bs : List ℕ = bytes_high_first width n in
    let len : length bs ≡ width = length-bytes_high_first width n in
    let read : raw width place (bs ++ rest) ≡ Good bs (place + width) rest = raw_back width bs len place rest in
    let number : endian.big_number (length bs) bs ≡ n = ap (λ (k : ℕ). endian.big_number k bs) len ∙ (ap (λ (y : List ℕ). endian.big_number width y) (sym (append-nil bs)) ∙ big_number-reads_back width n [] h.fits) in
    rw read (rw (number, h.test) (ap (λ (q : ℕ). Good n (place + q) rest) (sym len)))

-- numbers
pub number_exact : (why : DumpWhy) (width : ℕ) (ok : ℕ → Bool) → Exact ℕ (number_by why width ok) (Passes width ok) (big_bytes width)
number_exact why width ok = record {
  back = number_back why width ok;
  only = λ place bs b x p rest h. number_found why width ok place bs b (raw width place bs) refl x p rest h;
}

-- ---- one after another

-- a value of which a part was read first
pub record Both (A B : Type 0) (P : A → Type 0) (g : B → A) (Q : A → B → Type 0) (b : B) : Type 0 where
  pub first : P (g b)
  pub others : Q (g b) b

module _ (A B : Type 0) (X : Reader A) (Y : A → Reader B) (P : A → Type 0) (Q : A → B → Type 0) (g : B → A) (s : A → List ℕ) (t : B → List ℕ) where
  then_found : (place : ℕ) (bs : List ℕ) → AreBytes bs → Exact A X P s → ((x : A) → P x → Exact B (Y x) (Q x) t) → ((x : A) (b : B) → P x → Q x b → g b ≡ x) → (r : Reading A) → X place bs ≡ r → (b : B) (p : ℕ) (rest : List ℕ) → after r Y ≡ Good b p rest → Found B (Both A B P g Q) (λ b. s (g b) ++ t b) bs b rest
  unfolding after
  then_found place bs all x y dig (Bad q w) e b p rest h = cc
  then_found place bs all x y dig (Good v q more) e b p rest h =
      let f = x.only place bs all v q more e in
      let k = (y v f.keeps).only q more f.bytes b p rest h in
      let same : g b ≡ v = dig v b f.keeps k.keeps in
      record {
        keeps = record { first = subst P (sym same) f.keeps; others = subst (λ (z : A). Q z b) (sym same) k.keeps };
        spelled = f.spelled ∙ (ap (λ (z : List ℕ). s v ++ z) k.spelled ∙ (sym (append_assoc (s v) (t b) rest) ∙ ap (λ (z : A). (s z ++ t b) ++ rest) (sym same)));
        bytes = k.bytes;
      }

  then_back : Exact A X P s → ((x : A) → P x → Exact B (Y x) (Q x) t) → (b : B) → Both A B P g Q b → (place : ℕ) (rest : List ℕ) → then_read X Y place ((s (g b) ++ t b) ++ rest) ≡ Good b (place + length (s (g b) ++ t b)) rest
  unfolding after
  then_back x y b h place rest =
      let one : X place (s (g b) ++ (t b ++ rest)) ≡ Good (g b) (place + length (s (g b))) (t b ++ rest) = x.back (g b) h.first place (t b ++ rest) in
      let two : Y (g b) (place + length (s (g b))) (t b ++ rest) ≡ Good b (place + length (s (g b)) + length (t b)) rest = (y (g b) h.first).back b h.others (place + length (s (g b))) rest in
      let len : place + length (s (g b)) + length (t b) ≡ place + length (s (g b) ++ t b) = omega (arith, length-append (s (g b)) (t b)) in
      rw append_assoc (rw one (two ∙ ap (λ (q : ℕ). Good b q rest) len))

  -- one reader after another, for a value of which the first gives a part
  pub then_exact_if : Exact A X P s → ((x : A) → P x → Exact B (Y x) (Q x) t) → ((x : A) (b : B) → P x → Q x b → g b ≡ x) → Exact B (then_read X Y) (Both A B P g Q) (λ b. s (g b) ++ t b)
  then_exact_if x y dig = record {
    back = then_back x y;
    only = λ place bs all b p rest h. then_found place bs all x y dig (X place bs) refl b p rest h;
  }

  -- the same where what is read next is exact whatever came first
  pub then_exact : Exact A X P s → ((x : A) → Exact B (Y x) (Q x) t) → ((x : A) (b : B) → P x → Q x b → g b ≡ x) → Exact B (then_read X Y) (Both A B P g Q) (λ b. s (g b) ++ t b)
  then_exact x y dig = then_exact_if x (λ v pass. y v) dig

-- nothing is read
pub gives_exact : (A : Type 0) (x : A) → Exact A (gives x) (λ y. y ≡ x) (λ y. [])
gives_exact A x = record {
  back = λ y e place rest. ap (λ (z : A). Good z place rest) (sym e) ∙ ap (λ (q : ℕ). Good y q rest) (sym (add-zero place));
  only = λ place bs all y p rest h. record { keeps = (cc); spelled = (cc); bytes = gives_bytes A x place bs all y p rest h };
}

raw_found : (n place : ℕ) (bs : List ℕ) → AreBytes bs → (x : List ℕ) (p : ℕ) (rest : List ℕ) → Taken n bs x rest → Found (List ℕ) (λ ys. length ys ≡ n) (λ ys. ys) bs x rest
raw_found n place bs all x p rest t = record { keeps = t.len; spelled = t.whole; bytes = back_bytes x rest (subst (λ (y : List ℕ). AreBytes y) t.whole all) }

-- so many raw bytes
pub raw_exact : (n : ℕ) → Exact (List ℕ) (raw n) (λ bs. length bs ≡ n) (λ bs. bs)
raw_exact n = record {
  back = λ bs e place rest. raw_back n bs e place rest ∙ ap (λ (k : ℕ). Good bs (place + k) rest) (sym e);
  only = λ place bs all x p rest h. raw_found n place bs all x p rest (raw_only n place bs x p rest h);
}

-- the same reader, rule and spelling in other words
pub exact_as : (A : Type 0) (X Y : Reader A) (P Q : A → Type 0) (s t : A → List ℕ) → ((place : ℕ) (bs : List ℕ) → Y place bs ≡ X place bs) → ((x : A) → Q x → P x) → ((x : A) → P x → Q x) → ((x : A) → Q x → t x ≡ s x) → Exact A X P s → Exact A Y Q t
exact_as A X Y P Q s t read to from spelled x = record {
  back = λ v q place rest. read place (t v ++ rest) ∙ (ap (λ (y : List ℕ). X place (y ++ rest)) (spelled v q) ∙ (x.back v (to v q) place rest ∙ ap (λ (y : List ℕ). Good v (place + length y) rest) (sym (spelled v q))));
  only = λ place bs all v p rest h. let f = x.only place bs all v p rest (sym (read place bs) ∙ h) in record { keeps = from v f.keeps; spelled = f.spelled ∙ ap (λ (y : List ℕ). y ++ rest) (sym (spelled v (from v f.keeps))); bytes = f.bytes };
}

-- ---- lists

-- each item keeps a rule beside those before it
abbrev pub Rises : (A : Type 0) → (List A → A → Type 0) → List A → List A → Type 0
Rises A P seen [] = Unit {0}
Rises A P seen (x ∷ xs) = P seen x × Rises A P (seen ++ x ∷ []) xs

module _ (A : Type 0) (item : List A → Reader A) (P : List A → A → Type 0) (s : A → List ℕ) (each : (seen : List A) → Exact A (item seen) (P seen) s) where
  pub items_back : (xs seen : List A) → Rises A P seen xs → (place : ℕ) (rest : List ℕ) → items (length xs) item seen place (flat_map s xs ++ rest) ≡ Good (seen ++ xs) (place + length (flat_map s xs)) rest
  unfolding items after
  items_back [] seen h place rest = ap (λ (ys : List A). Good ys place rest) (sym (append-nil seen)) ∙ ap (λ (q : ℕ). Good (seen ++ []) q rest) (sym (add-zero place))
  items_back (x ∷ xs) seen h place rest =
      let one : item seen place (s x ++ (flat_map s xs ++ rest)) ≡ Good x (place + length (s x)) (flat_map s xs ++ rest) = (each seen).back x h.0 place (flat_map s xs ++ rest) in
      let more = items_back xs (seen ++ x ∷ []) h.1 (place + length (s x)) rest in
      let len : place + length (s x) + length (flat_map s xs) ≡ place + length (s x ++ flat_map s xs) = omega (arith, length-append (s x) (flat_map s xs)) in
      let all : (seen ++ x ∷ []) ++ xs ≡ seen ++ (x ∷ xs) = append_assoc seen (x ∷ []) xs in
      rw append_assoc (rw one (more ∙ (ap (λ (q : ℕ). Good ((seen ++ x ∷ []) ++ xs) q rest) len ∙ ap (λ (ys : List A). Good ys (place + length (s x ++ flat_map s xs)) rest) all)))

  -- what so many items are
  pub record Listed (n : ℕ) (seen : List A) (bs : List ℕ) (ys : List A) (rest : List ℕ) : Type 0 where
    pub new : List A
    pub all : ys ≡ seen ++ new
    pub count : length new ≡ n
    pub keeps : Rises A P seen new
    pub spelled : bs ≡ flat_map s new ++ rest
    pub bytes : AreBytes rest

  items_by : (n : ℕ) (seen : List A) (place : ℕ) (bs : List ℕ) → AreBytes bs → (r : Reading A) → item seen place bs ≡ r → (ys : List A) (p : ℕ) (rest : List ℕ) → ((x : A) (q : ℕ) (more : List ℕ) → AreBytes more → items n item (seen ++ x ∷ []) q more ≡ Good ys p rest → Listed n (seen ++ x ∷ []) more ys rest) → after r (λ x. items n item (seen ++ x ∷ [])) ≡ Good ys p rest → Listed (suc n) seen bs ys rest
  unfolding after
  items_by n seen place bs b (Bad q w) e ys p rest ih h = cc
  items_by n seen place bs b (Good x q more) e ys p rest ih h =
      let f = (each seen).only place bs b x q more e in
      let l = ih x q more f.bytes h in
      record {
        new = x ∷ l.new;
        all = l.all ∙ append_assoc seen (x ∷ []) l.new;
        count = ap (λ (k : ℕ). suc k) l.count;
        keeps = (f.keeps, l.keeps);
        spelled = f.spelled ∙ (ap (λ (y : List ℕ). s x ++ y) l.spelled ∙ sym (append_assoc (s x) (flat_map s l.new) rest));
        bytes = l.bytes;
      }

  pub items_only : (n : ℕ) (seen : List A) (place : ℕ) (bs : List ℕ) → AreBytes bs → (ys : List A) (p : ℕ) (rest : List ℕ) → items n item seen place bs ≡ Good ys p rest → Listed n seen bs ys rest
  unfolding items
  items_only zero seen place bs b ys p rest h =
      let same : bs ≡ rest = cc in
      let all : ys ≡ seen = cc in
      record { new = []; all = all ∙ sym (append-nil seen); count = refl; keeps = tt; spelled = same; bytes = subst (λ (z : List ℕ). AreBytes z) same b }
  items_only (suc n) seen place bs b ys p rest h =
      items_by n seen place bs b (item seen place bs) refl ys p rest (λ x q more mb k. items_only n (seen ++ x ∷ []) q more mb ys p rest k) h

  -- so many items from the first on
  pub items_exact : (n : ℕ) → Exact (List A) (items n item []) (λ xs. (length xs ≡ n) × Rises A P [] xs) (flat_map s)
  items_exact n = record {
    back = λ xs h place rest. ap (λ (k : ℕ). items k item [] place (flat_map s xs ++ rest)) (sym h.0) ∙ items_back xs [] h.1 place rest;
    only = λ place bs b xs p rest h. let l = items_only n [] place bs b xs p rest h in
        record {
          keeps = (ap length l.all ∙ l.count, subst (λ (ys : List A). Rises A P [] ys) (sym l.all) l.keeps);
          spelled = l.spelled ∙ ap (λ (ys : List A). flat_map s ys ++ rest) (sym l.all);
          bytes = l.bytes;
        };
  }

  -- a list: a count under its limit, and the items
  pub list_exact : (width limit : ℕ) → Exact (List A) (list_field width limit item) (Both ℕ (List A) (Passes width (λ n. nat_le n limit)) length (λ n xs. (length xs ≡ n) × Rises A P [] xs)) (counted width s)
  list_exact width limit = then_exact ℕ (List A) (count_field width limit) (λ n. items n item []) (Passes width (λ n. nat_le n limit)) (λ n xs. (length xs ≡ n) × Rises A P [] xs) length (big_bytes width) (flat_map s) (number_exact dump_why.Count width (λ n. nat_le n limit)) (λ n. items_exact n) (λ n xs f h. h.0)

-- a list of bytes, by its places
pub bytes_of : (bs : List ℕ) → ((k : ℕ) → slice_index bs k < 256) → AreBytes bs
bytes_of [] h = tt
bytes_of (b ∷ bs) h = (h 0, bytes_of bs (λ k. h (suc k)))
