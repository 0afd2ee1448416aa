-- Readers of words that give the same where the words are written with the digits A to F in lower case.
use Rattle.std.proofs.Common.{arith, ◌≡◌, ℕ, ◌+◌, ◌≤◌, ◌<◌, ◌^◌, Bool, true, false, List, [], ◌∷◌, length, map, Option, Some, None, Ok, Err, refl, sym, ap, ◌∙◌, subst, codes}
use Rattle.std.specs.Prelude.{not}
use Rattle.std.specs.Str.{bytes_eq}
use Rattle.std.proofs.lemmas.Bool.Decides.{nat_tests}
use Rattle.std.proofs.lemmas.Slice.Eq.{bytes_eq-Decides}
use Rattle.rdma_types.specs.declared.names.ObjName.{ObjName}
use Rattle.rdma_types.specs.declared.requests.Shape.{Shape}
use Rattle.rdma_types.specs.declared.verbs.Verb.{Verb}
use Rattle.rdma_types.specs.declared.verbs.Verb.TheVariants as verb
use Rattle.script_lang.specs.declared.lines.LineWhy.{LineWhy}
use Rattle.script_lang.specs.declared.lines.LineWhy.TheVariants as why
use Rattle.script_lang.specs.Fields.{a_key, a_number, an_immediate, an_mtu, an_object, an_own, immediate_if, same_text, some_bytes, some_rights, some_terms, the_word}
use Rattle.script_lang.specs.Texts.{bytes_of, hex_number, mtu_of, number_in, object_of, own_name, rights_of}
use Rattle.script_lang.specs.Verbs.{posted}
use Rattle.script_lang.specs.Words.{Input, Read, Reads, Word, ◌>>=◌, a_field, a_word, an_option, done, then_read, value_or, without_first}
use Rattle.run_traces.specs.Written.{lower, lowered}
use Rattle.law_traces.proofs.SaidSteps.{AreReadBack, room}
use Rattle.law_traces.proofs.SaidWords.{IsFixed, IsLow, bytes_low, fixed_low, hex_low, label_fixed, mtu_fixed, number_fixed, object_fixed, rights_fixed}

-- ---- the same words

-- the texts of words
abbrev pub texts : List Word → List (List ℕ)
texts [] = []
texts (w ∷ ws) = w.text ∷ texts ws

-- the second words are the first ones in lower case
pub record AreLow (ws vs : List Word) : Type 0 where
  pub are : texts vs ≡ lowered ws

-- the next word of both
record NextLow (w : Word) (ws : List Word) (vs : List Word) : Type 0 where
  word : Word
  rest : List Word
  are : vs ≡ word ∷ rest
  text : word.text ≡ map lower w.text
  more : AreLow ws rest

next_low : (w : Word) (ws vs : List Word) → AreLow (w ∷ ws) vs → NextLow w ws vs
next_low w ws [] l = let h = l.are in cc h
next_low w ws (v ∷ vs) l = let h = l.are in record { word = v; rest = vs; are = refl; text = cc h; more = record { are = cc h } }

pub none_low : (vs : List Word) → AreLow [] vs → vs ≡ []
none_low [] l = refl
none_low (v ∷ vs) l = let h = l.are in cc h

-- ---- readers

-- from these words a reader gives the same, and leaves the same words in lower case
pub record IsAlso {A : Type 0} (r : Reads A) (j : Input) (x : A) (ws : List Word) : Type 0 where
  pub rest : Input
  pub reads : r j ≡ Ok (x, rest)
  pub low : AreLow ws rest.words

-- what a reader gives, it gives from the words in lower case, and the words that it takes are not long
pub record Lowers {A : Type 0} (most : ℕ) (r : Reads A) : Type 0 where
  pub also : (i j : Input) (p : A × Input) → AreLow i.words j.words → r i ≡ Ok p → IsAlso r j p.0 p.1.words
  pub short : (i : Input) (p : A × Input) → r i ≡ Ok p → room (texts i.words) ≤ most + room (texts p.1.words)

-- the same of a reader that takes all words
pub record LowersAll {A : Type 0} (most : ℕ) (r : Reads A) : Type 0 where
  pub also : (i j : Input) (p : A × Input) → AreLow i.words j.words → r i ≡ Ok p → p.1.words ≡ [] → IsAlso r j p.0 p.1.words
  pub short : (i : Input) (p : A × Input) → r i ≡ Ok p → p.1.words ≡ [] → room (texts i.words) ≤ most

-- one reader after another
pub bind : {A B : Type 0} {n k : ℕ} {r : Reads A} {f : A → Reads B} → Lowers n r → ((a : A) → Lowers k (f a)) → Lowers (n + k) (r >>= f)
bind {A = A} {B = B} {n = n} {k = k} {r = r} {f = f} one more = record { also = λ i j p l h. by i j p l (r i) refl h; short = λ i p h. few i p (r i) refl h }
  where
    after : (j : Input) (p : B × Input) (q : A × Input) → (first : IsAlso r j q.0 q.1.words) → IsAlso (f q.0) first.rest p.0 p.1.words → IsAlso (r >>= f) j p.0 p.1.words
    after j p q first second = record { rest = second.rest; reads = rw first.reads second.reads; low = second.low }

    by : (i j : Input) (p : B × Input) → AreLow i.words j.words → (x : Read A) → r i ≡ x → then_read x f ≡ Ok p → IsAlso (r >>= f) j p.0 p.1.words
    by i j p l (Ok q) e h = let first = one.also i j q l e in after j p q first ((more q.0).also q.1 first.rest p first.low h)
    by i j p l (Err e') e h = cc h

    few : (i : Input) (p : B × Input) (x : Read A) → r i ≡ x → then_read x f ≡ Ok p → room (texts i.words) ≤ (n + k) + room (texts p.1.words)
    few i p (Ok q) e h = omega (arith, one.short i q e, (more q.0).short q.1 p h)
    few i p (Err e') e h = cc h

-- .. of which the second takes all words
pub ends : {A B : Type 0} {n k : ℕ} {r : Reads A} {f : A → Reads B} → Lowers n r → ((a : A) → LowersAll k (f a)) → LowersAll (n + k) (r >>= f)
ends {A = A} {B = B} {n = n} {k = k} {r = r} {f = f} one more = record { also = λ i j p l h none. by i j p l (r i) refl h none; short = λ i p h none. few i p (r i) refl h none }
  where
    after : (j : Input) (p : B × Input) (q : A × Input) → (first : IsAlso r j q.0 q.1.words) → IsAlso (f q.0) first.rest p.0 p.1.words → IsAlso (r >>= f) j p.0 p.1.words
    after j p q first second = record { rest = second.rest; reads = rw first.reads second.reads; low = second.low }

    by : (i j : Input) (p : B × Input) → AreLow i.words j.words → (x : Read A) → r i ≡ x → then_read x f ≡ Ok p → p.1.words ≡ [] → IsAlso (r >>= f) j p.0 p.1.words
    by i j p l (Ok q) e h none = let first = one.also i j q l e in after j p q first ((more q.0).also q.1 first.rest p first.low h none)
    by i j p l (Err e') e h none = cc h

    few : (i : Input) (p : B × Input) (x : Read A) → r i ≡ x → then_read x f ≡ Ok p → p.1.words ≡ [] → room (texts i.words) ≤ n + k
    few i p (Ok q) e h none = omega (arith, one.short i q e, (more q.0).short q.1 p h none)
    few i p (Err e') e h none = cc h

-- a reader that may take all words
pub takes_all : {A : Type 0} {n : ℕ} {r : Reads A} → Lowers n r → LowersAll n r
takes_all {n = n} one = record {
  also = λ i j p l h none. one.also i j p l h;
  short = λ i p h none. let s = one.short i p h in let z : room (texts p.1.words) ≡ 0 = ap (λ ws. room (texts ws)) none in omega arith;
}

-- with another bound
pub at_most : {A : Type 0} {n : ℕ} {r : Reads A} (most : ℕ) → LowersAll n r → n ≤ most → LowersAll most r
at_most most one h = record { also = one.also; short = λ i p e none. let s = one.short i p e none in omega arith }

-- a value with no word
pub gives : {A : Type 0} (x : A) → Lowers 0 (done x)
gives {A = A} x = record { also = λ i j p l h. by i j p l h; short = λ i p h. few i p h }
  where
    by : (i j : Input) (p : A × Input) → AreLow i.words j.words → done x i ≡ Ok p → IsAlso (done x) j p.0 p.1.words
    by i j p l h =
        let pair : A × Input = (x, i) in
        let same : pair ≡ p = cc h in
        subst (λ (q : A × Input). IsAlso (done x) j q.0 q.1.words) same (record { rest = j; reads = refl; low = l })

    few : (i : Input) (p : A × Input) → done x i ≡ Ok p → room (texts i.words) ≤ 0 + room (texts p.1.words)
    few i p h =
        let pair : A × Input = (x, i) in
        let same : pair ≡ p = cc h in
        subst (λ (q : A × Input). room (texts i.words) ≤ 0 + room (texts q.1.words)) same (omega arith)

-- ---- one word

module _ {A : Type 0} (most : ℕ) (spelled : List ℕ → Option A) (because : LineWhy) (each : (text : List ℕ) (x : A) → spelled text ≡ Some x → IsLow most spelled text x) where
  -- what is read of the first word
  read_first : (w : Word) (ws : List Word) (past : ℕ) (p : A × Input) → value_or (spelled w.text) w because (record { words = ws; past = past }) ≡ Ok p → (spelled w.text ≡ Some p.0) × (p.1.words ≡ ws)
  read_first w ws past p h = by (spelled w.text) refl h
    where
      by : (o : Option A) → spelled w.text ≡ o → value_or o w because (record { words = ws; past = past }) ≡ Ok p → (spelled w.text ≡ Some p.0) × (p.1.words ≡ ws)
      by (Some x) e g =
          let pair : A × Input = (x, record { words = ws; past = past }) in
          let same : pair ≡ p = cc g in
          (e ∙ ap (λ (q : A × Input). Some q.0) same, sym (ap (λ (q : A × Input). q.1.words) same))
      by None e g = cc g

  also_first : (w : Word) (ws : List Word) (past : ℕ) (p : A × Input) (j : Input) → AreLow (w ∷ ws) j.words → value_or (spelled w.text) w because (record { words = ws; past = past }) ≡ Ok p → IsAlso (a_field spelled because) j p.0 p.1.words
  unfolding a_word
  also_first w ws past p j l h =
      let r = read_first w ws past p h in
      let next = next_low w ws j.words l in
      let low = each w.text p.0 r.0 in
      let says : spelled next.word.text ≡ Some p.0 = ap spelled next.text ∙ low.same in
      record {
        rest = record { words = next.rest; past = j.past };
        reads =
            ap (λ z. a_field spelled because (record { words = z; past = j.past })) next.are
            ∙ ap (λ o. value_or o next.word because (record { words = next.rest; past = j.past })) says;
        low = subst (λ z. AreLow z next.rest) (sym r.1) next.more;
      }

  field_also : (ws : List Word) (past : ℕ) (j : Input) (p : A × Input) → AreLow ws j.words → a_field spelled because (record { words = ws; past = past }) ≡ Ok p → IsAlso (a_field spelled because) j p.0 p.1.words
  unfolding a_word
  field_also [] past j p l h = cc h
  field_also (w ∷ ws) past j p l h = also_first w ws past p j l h

  field_short : (ws : List Word) (past : ℕ) (p : A × Input) → a_field spelled because (record { words = ws; past = past }) ≡ Ok p → room (texts ws) ≤ (most + 1) + room (texts p.1.words)
  unfolding a_word
  field_short [] past p h = cc h
  field_short (w ∷ ws) past p h =
      let r = read_first w ws past p h in
      let low = each w.text p.0 r.0 in
      let same : room (texts p.1.words) ≡ room (texts ws) = ap (λ z. room (texts z)) r.1 in
      omega (arith, low.short)

  -- a word by what it spells
  pub field : Lowers (most + 1) (a_field spelled because)
  field = record { also = λ i j p l h. field_also i.words i.past j p l h; short = λ i p h. field_short i.words i.past p h }

pub object : Lowers 34 an_object
unfolding an_object
object = field 33 object_of why.Name (λ text o h. fixed_low 33 object_of text o (object_fixed text o h) h)

pub own : (o : ObjName) → Lowers 34 (an_own o)
unfolding an_own
own o = bind object (λ other. gives (own_name o other))

pub number : AreReadBack → (low high : ℕ) → high < 2 ^ 64 → Lowers 21 (a_number low high)
unfolding a_number
number law low high small = field 20 (number_in low high) why.Number (λ text n h. fixed_low 20 (number_in low high) text n (number_fixed law low high n text small h) h)

pub key : Lowers 9 a_key
unfolding a_key
key = field 8 (hex_number 4) why.Hex (λ text n h. hex_low 4 n text h)

pub bytes : Lowers 8193 some_bytes
unfolding some_bytes
bytes = field 8192 bytes_of why.Hex (λ text bs h. bytes_low text bs h)

pub rights : Lowers 5 some_rights
unfolding some_rights
rights = field 4 rights_of why.Rights (λ text x h. fixed_low 4 rights_of text x (rights_fixed text x h) h)

mtu : AreReadBack → Lowers 21 an_mtu
unfolding an_mtu
mtu law = field 20 mtu_of why.Number (λ text n h. fixed_low 20 mtu_of text n (mtu_fixed law n text h) h)

label : (text : List ℕ) → IsFixed 5 text → Lowers 6 (the_word text)
unfolding the_word
label text f = field 5 (same_text text) why.BadOption (λ other x h. fixed_low 5 (same_text text) other x (label_fixed text other x 5 f h) h)

pub terms : AreReadBack → Lowers 300 some_terms
unfolding some_terms
terms law =
    bind (label (codes "mtu") (record { same = refl; short = omega arith })) (λ a.
    bind (mtu law) (λ m.
    bind (label (codes "psn") (record { same = refl; short = omega arith })) (λ b.
    bind (number law 0 16777215 (omega arith)) (λ own_start.
    bind (number law 0 16777215 (omega arith)) (λ peer_start.
    bind (label (codes "retry") (record { same = refl; short = omega arith })) (λ c.
    bind (number law 0 7 (omega arith)) (λ retry.
    bind (label (codes "rnr") (record { same = refl; short = omega arith })) (λ d.
    bind (number law 0 7 (omega arith)) (λ rnr.
    bind (label (codes "reads") (record { same = refl; short = omega arith })) (λ e.
    bind (number law 1 16 (omega arith)) (λ reads.
    up 144 (gives (record { mtu = m; own_start = own_start; peer_start = peer_start; retry = retry; rnr = rnr; reads = reads })))))))))))))
  where
    up : {A : Type 0} {r : Reads A} (most : ℕ) → Lowers 0 r → Lowers most r
    up most one = record { also = one.also; short = λ i p e. let s = one.short i p e in omega arith }

-- ---- options

-- only `imm` is `imm` in lower case
imm_bytes : (a b c : ℕ) → lower a ≡ 105 → lower b ≡ 109 → lower c ≡ 109 → (a ≡ 105) × (b ≡ 109) × (c ≡ 109)
imm_bytes a b c h k l = (high a 105 (omega arith) h, high b 109 (omega arith) k, high c 109 (omega arith) l)
  where
    high : (x y : ℕ) → 103 ≤ y → lower x ≡ y → x ≡ y
    high x y big h = grind (arith, nat_tests)

imm_only : (text : List ℕ) → map lower text ≡ codes "imm" → text ≡ codes "imm"
imm_only [] h = cc h
imm_only (a ∷ []) h = cc h
imm_only (a ∷ b ∷ []) h = cc h
imm_only (a ∷ b ∷ c ∷ []) h =
    let e = imm_bytes a b c (cc h) (cc h) (cc h) in
    rw (e.0, e.1, e.2) refl
imm_only (a ∷ b ∷ c ∷ d ∷ more) h = cc h

-- a word that is not a label, and is not one in lower case
not_label : (label text : List ℕ) → (map lower text ≡ label → text ≡ label) → bytes_eq text label ≡ false → bytes_eq (map lower text) label ≡ false
not_label label text only h = by (bytes_eq (map lower text) label) refl
  where
    by : (b : Bool) → bytes_eq (map lower text) label ≡ b → bytes_eq (map lower text) label ≡ false
    by true e =
        let is : text ≡ label = only ((bytes_eq-Decides (map lower text) label).0 e) in
        let yes : bytes_eq text label ≡ true = (bytes_eq-Decides text label).1 is in
        cc
    by false e = e

-- what is left behind an option
stands : (text : List ℕ) (w : Word) (ws : List Word) (past : ℕ) → bytes_eq w.text text ≡ true → without_first text (w ∷ ws) past ≡ Ok (true, record { words = ws; past = past })
stands text w ws past h = rw h refl

lacks : (text : List ℕ) (w : Word) (ws : List Word) (past : ℕ) → bytes_eq w.text text ≡ false → without_first text (w ∷ ws) past ≡ Ok (false, record { words = w ∷ ws; past = past })
lacks text w ws past h = rw h refl

option_also : (ws : List Word) (past : ℕ) (j : Input) (p : Bool × Input) → AreLow ws j.words → without_first (codes "imm") ws past ≡ Ok p → IsAlso (an_option (codes "imm")) j p.0 p.1.words
unfolding an_option
option_also [] past j p l h =
    let pair : Bool × Input = (false, record { words = []; past = past }) in
    let same : pair ≡ p = cc h in
    let none = none_low j.words l in
    subst (λ (q : Bool × Input). IsAlso (λ i. without_first (codes "imm") i.words i.past) j q.0 q.1.words) same
    (record { rest = record { words = []; past = j.past }; reads = ap (λ z. without_first (codes "imm") z j.past) none; low = record { are = refl } })
option_also (w ∷ ws) past j p l h = by (bytes_eq w.text (codes "imm")) refl
  where
    next : NextLow w ws j.words
    next = next_low w ws j.words l

    by : (b : Bool) → bytes_eq w.text (codes "imm") ≡ b → IsAlso (λ i. without_first (codes "imm") i.words i.past) j p.0 p.1.words
    by true e =
        let pair : Bool × Input = (true, record { words = ws; past = past }) in
        let same : pair ≡ p = cc (h, stands (codes "imm") w ws past e) in
        let is : w.text ≡ codes "imm" = (bytes_eq-Decides w.text (codes "imm")).0 e in
        let low : next.word.text ≡ codes "imm" = next.text ∙ ap (map lower) is in
        subst (λ (q : Bool × Input). IsAlso (λ i. without_first (codes "imm") i.words i.past) j q.0 q.1.words) same
        (record { rest = record { words = next.rest; past = j.past }; reads = ap (λ z. without_first (codes "imm") z j.past) next.are ∙ stands (codes "imm") next.word next.rest j.past (ap (λ t. bytes_eq t (codes "imm")) low); low = next.more })
    by false e =
        let pair : Bool × Input = (false, record { words = w ∷ ws; past = past }) in
        let same : pair ≡ p = cc (h, lacks (codes "imm") w ws past e) in
        let other : bytes_eq next.word.text (codes "imm") ≡ false = ap (λ t. bytes_eq t (codes "imm")) next.text ∙ not_label (codes "imm") w.text (imm_only w.text) e in
        subst (λ (q : Bool × Input). IsAlso (λ i. without_first (codes "imm") i.words i.past) j q.0 q.1.words) same
        (record { rest = record { words = next.word ∷ next.rest; past = j.past }; reads = ap (λ z. without_first (codes "imm") z j.past) next.are ∙ lacks (codes "imm") next.word next.rest j.past other; low = subst (λ z. AreLow (w ∷ ws) z) next.are l })

option_short : (text : List ℕ) (ws : List Word) (past : ℕ) (p : Bool × Input) → length text ≤ 5 → without_first text ws past ≡ Ok p → room (texts ws) ≤ 6 + room (texts p.1.words)
option_short text [] past p few h = omega arith
option_short text (w ∷ ws) past p few h = by (bytes_eq w.text text) refl
  where
    by : (b : Bool) → bytes_eq w.text text ≡ b → room (texts (w ∷ ws)) ≤ 6 + room (texts p.1.words)
    by true e =
        let pair : Bool × Input = (true, record { words = ws; past = past }) in
        let same : pair ≡ p = cc (h, stands text w ws past e) in
        let is : w.text ≡ text = (bytes_eq-Decides w.text text).0 e in
        let size : length w.text ≤ 5 = subst (λ (z : List ℕ). length z ≤ 5) (sym is) few in
        subst (λ (q : Bool × Input). room (texts (w ∷ ws)) ≤ 6 + room (texts q.1.words)) same (omega arith)
    by false e =
        let pair : Bool × Input = (false, record { words = w ∷ ws; past = past }) in
        let same : pair ≡ p = cc (h, lacks text w ws past e) in
        subst (λ (q : Bool × Input). room (texts (w ∷ ws)) ≤ 6 + room (texts q.1.words)) same (omega arith)

imm_option : Lowers 6 (an_option (codes "imm"))
unfolding an_option
imm_option = record { also = λ i j p l h. option_also i.words i.past j p l h; short = λ i p h. option_short (codes "imm") i.words i.past p (omega arith) h }

pub immediate : Lowers 15 an_immediate
unfolding an_immediate
immediate = bind imm_option (λ b. by b)
  where
    by : (b : Bool) → Lowers 9 (immediate_if b)
    by true = bind key (λ n. gives (Some n))
    by false = record { also = λ i j p l h. (gives {A = Option ℕ} None).also i j p l h; short = λ i p h. let s = (gives {A = Option ℕ} None).short i p h in omega arith }

-- ---- the options of a request

module _ (o : ObjName) (id lkey local : ℕ) (s : Shape) where
  -- the request, by its two options
  abbrev request_of : Bool → Bool → Verb
  request_of fence quiet = verb.PostSend o (record { id = id; shape = s; lkey = lkey; local = local; signaled = not quiet; fence = fence })

  -- what the words of the options say
  record AreOptions (ws : List Word) (v : Verb) : Type 0 where
    says : (vs : List Word) (past : ℕ) → AreLow ws vs → posted o id lkey local s (record { words = vs; past = past }) ≡ Ok (v, record { words = []; past = past })
    short : room (texts ws) ≤ 12

  is_label : (w : Word) (label : List ℕ) → bytes_eq w.text label ≡ true → w.text ≡ label
  is_label w label e = (bytes_eq-Decides w.text label).0 e

  -- the options that there may be, and no more words
  no_option : (vs : List Word) (past : ℕ) → vs ≡ [] → posted o id lkey local s (record { words = vs; past = past }) ≡ Ok (request_of false false, record { words = []; past = past })
  unfolding posted an_option
  no_option vs past e = rw e refl

  fence_option : (vs : List Word) (past : ℕ) (v : Word) (rest : List Word) → vs ≡ v ∷ rest → v.text ≡ codes "fence" → rest ≡ [] → posted o id lkey local s (record { words = vs; past = past }) ≡ Ok (request_of true false, record { words = []; past = past })
  unfolding posted an_option
  fence_option vs past v rest e t none = rw (e, none, t) refl

  quiet_option : (vs : List Word) (past : ℕ) (v : Word) (rest : List Word) → vs ≡ v ∷ rest → v.text ≡ codes "quiet" → rest ≡ [] → posted o id lkey local s (record { words = vs; past = past }) ≡ Ok (request_of false true, record { words = []; past = past })
  unfolding posted an_option
  quiet_option vs past v rest e t none = rw (e, none, t) refl

  both_options : (vs : List Word) (past : ℕ) (v u : Word) (rest last : List Word) → vs ≡ v ∷ rest → rest ≡ u ∷ last → v.text ≡ codes "fence" → u.text ≡ codes "quiet" → last ≡ [] → posted o id lkey local s (record { words = vs; past = past }) ≡ Ok (request_of true true, record { words = []; past = past })
  unfolding posted an_option
  both_options vs past v u rest last e d t k none = rw (e, d, none, t, k) refl

  -- `fence` and what follows it
  behind_fence : (w : Word) (ws : List Word) (past : ℕ) (p : Verb × Input) → w.text ≡ codes "fence" → posted o id lkey local s (record { words = w ∷ ws; past = past }) ≡ Ok p → p.1.words ≡ [] → AreOptions (w ∷ ws) p.0
  unfolding posted an_option
  behind_fence w [] past p is h none =
      let step : posted o id lkey local s (record { words = w ∷ []; past = past }) ≡ Ok (request_of true false, record { words = []; past = past }) = rw is refl in
      let pair : Verb × Input = (request_of true false, record { words = []; past = past }) in
      let same : pair ≡ p = cc (h, step) in
      subst (λ (q : Verb × Input). AreOptions (w ∷ []) q.0) same (record {
        says = λ vs past' l.
            let n = next_low w [] vs l in
            fence_option vs past' n.word n.rest n.are (n.text ∙ ap (map lower) is) (none_low n.rest n.more);
        short = let size : length w.text ≡ 5 = ap length is in omega arith;
      })
  behind_fence w (x ∷ xs) past p is h none = by (bytes_eq x.text (codes "quiet")) refl
    where
      by : (b : Bool) → bytes_eq x.text (codes "quiet") ≡ b → AreOptions (w ∷ x ∷ xs) p.0
      by true e =
          let step : posted o id lkey local s (record { words = w ∷ x ∷ xs; past = past }) ≡ Ok (request_of true true, record { words = xs; past = past }) = rw (is, e) refl in
          let pair : Verb × Input = (request_of true true, record { words = xs; past = past }) in
          let same : pair ≡ p = cc (h, step) in
          let end : xs ≡ [] = ap (λ (q : Verb × Input). q.1.words) same ∙ none in
          let quiet : x.text ≡ codes "quiet" = is_label x (codes "quiet") e in
          subst (λ (q : Verb × Input). AreOptions (w ∷ x ∷ xs) q.0) same (record {
            says = λ vs past' l.
                let n = next_low w (x ∷ xs) vs l in
                let k = next_low x xs n.rest n.more in
                both_options vs past' n.word k.word n.rest k.rest n.are k.are (n.text ∙ ap (map lower) is) (k.text ∙ ap (map lower) quiet) (none_low k.rest (subst (λ z. AreLow z k.rest) end k.more));
            short =
                let size : length w.text ≡ 5 = ap length is in
                let size' : length x.text ≡ 5 = ap length quiet in
                let zero' : room (texts xs) ≡ 0 = ap (λ z. room (texts z)) end in
                omega arith;
          })
      by false e =
          let step : posted o id lkey local s (record { words = w ∷ x ∷ xs; past = past }) ≡ Ok (request_of true false, record { words = x ∷ xs; past = past }) = rw (is, e) refl in
          let pair : Verb × Input = (request_of true false, record { words = x ∷ xs; past = past }) in
          let same : pair ≡ p = cc (h, step) in
          let end : x ∷ xs ≡ [] = ap (λ (q : Verb × Input). q.1.words) same ∙ none in
          cc end

  -- no `fence`
  no_fence : (w : Word) (ws : List Word) (past : ℕ) (p : Verb × Input) → bytes_eq w.text (codes "fence") ≡ false → posted o id lkey local s (record { words = w ∷ ws; past = past }) ≡ Ok p → p.1.words ≡ [] → AreOptions (w ∷ ws) p.0
  unfolding posted an_option
  no_fence w ws past p other h none = by (bytes_eq w.text (codes "quiet")) refl
    where
      by : (b : Bool) → bytes_eq w.text (codes "quiet") ≡ b → AreOptions (w ∷ ws) p.0
      by true e =
          let step : posted o id lkey local s (record { words = w ∷ ws; past = past }) ≡ Ok (request_of false true, record { words = ws; past = past }) = rw (other, e) refl in
          let pair : Verb × Input = (request_of false true, record { words = ws; past = past }) in
          let same : pair ≡ p = cc (h, step) in
          let end : ws ≡ [] = ap (λ (q : Verb × Input). q.1.words) same ∙ none in
          let quiet : w.text ≡ codes "quiet" = is_label w (codes "quiet") e in
          subst (λ (q : Verb × Input). AreOptions (w ∷ ws) q.0) same (record {
            says = λ vs past' l.
                let n = next_low w ws vs l in
                quiet_option vs past' n.word n.rest n.are (n.text ∙ ap (map lower) quiet) (none_low n.rest (subst (λ z. AreLow z n.rest) end n.more));
            short =
                let size : length w.text ≡ 5 = ap length quiet in
                let zero' : room (texts ws) ≡ 0 = ap (λ z. room (texts z)) end in
                omega arith;
          })
      by false e =
          let step : posted o id lkey local s (record { words = w ∷ ws; past = past }) ≡ Ok (request_of false false, record { words = w ∷ ws; past = past }) = rw (other, e) refl in
          let pair : Verb × Input = (request_of false false, record { words = w ∷ ws; past = past }) in
          let same : pair ≡ p = cc (h, step) in
          let end : w ∷ ws ≡ [] = ap (λ (q : Verb × Input). q.1.words) same ∙ none in
          cc end

  options_are : (ws : List Word) (past : ℕ) (p : Verb × Input) → posted o id lkey local s (record { words = ws; past = past }) ≡ Ok p → p.1.words ≡ [] → AreOptions ws p.0
  unfolding posted an_option
  options_are [] past p h none =
      let pair : Verb × Input = (request_of false false, record { words = []; past = past }) in
      let same : pair ≡ p = cc h in
      subst (λ (q : Verb × Input). AreOptions [] q.0) same (record { says = λ vs past' l. no_option vs past' (none_low vs l); short = omega arith })
  options_are (w ∷ ws) past p h none = by (bytes_eq w.text (codes "fence")) refl
    where
      by : (b : Bool) → bytes_eq w.text (codes "fence") ≡ b → AreOptions (w ∷ ws) p.0
      by true e = behind_fence w ws past p (is_label w (codes "fence") e) h none
      by false e = no_fence w ws past p e h none

  -- the options are the last words, so no other word can be one in lower case
  pub options : LowersAll 12 (posted o id lkey local s)
  options = record {
    also = λ i j p l h none. record {
      rest = record { words = []; past = j.past };
      reads = (options_are i.words i.past p h none).says j.words j.past l;
      low = subst (λ z. AreLow z []) (sym none) (record { are = refl });
    };
    short = λ i p h none. (options_are i.words i.past p h none).short;
  }
