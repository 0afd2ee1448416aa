-- What the values that readers of lines give have in common.
use Rattle.std.proofs.Common.{arith, ◌≡◌, ℕ, ◌+◌, ◌*◌, ◌<◌, ◌≤◌, ◌^◌, List, [], ◌∷◌, Bool, true, false, refl, subst, Result, Ok, Err, Option, Some, None}
use Rattle.std.specs.Prelude.{◌&&◌, ◌==◌, All, if◌then◌else◌, nat_le, option_and_then, IfSome, bytes_eq, take, drop, length, codes}
use Rattle.std.proofs.lemmas.Bool.Decides.{nat_tests}
use Rattle.std.proofs.lemmas.List.Elements.{All-from_get_or}
use Rattle.byteorder.specs.Endian.{big_number}
use Rattle.byteorder.specs.Numbers.{big_from-lt}
use Rattle.hex.specs.Hex.{IsBytes, decode_of}
use Rattle.hex.proofs.HexLemmas.{decode_of-ok}
use Rattle.hex.specs.declared.error.FromHexError.{FromHexError}
use Rattle.rdma_types.specs.declared.requests.Address.{Address}
use Rattle.rdma_types.specs.declared.rights.Rights.{Rights}
use Rattle.rdma_types.specs.Limits.{AreTerms, is_mtu}
use Rattle.script_lang.specs.declared.lines.LineWhy.{LineWhy}
use Rattle.script_lang.specs.Fields.{a_key, a_long, a_number, an_address, an_immediate, an_mtu, immediate_if, some_bytes, some_rights, some_terms, the_word}
use Rattle.script_lang.specs.Texts as texts
use Rattle.script_lang.specs.Texts.{Cut, Letters, Part, address_of, bytes_of, cut_at, digits_after, hex_number, hex_of, host_of, if_decoded, is_decimal, letters_of, mtu_if, mtu_of, number_in, part_of, port_of, rights_of, with_letter}
use Rattle.script_lang.specs.Words.{Input, Read, Reads, Word, ◌>>=◌, a_field, an_option, a_word, done, then_read, value_or}

-- ---- readers of words

-- each value that a reader gives is such
pub record Tells {A : Type 0} (P : A → Type 0) (r : Reads A) : Type 0 where
  pub each : (i : Input) (p : A × Input) → r i ≡ Ok p → P p.0

-- one reader after another
pub bind : {A B : Type 0} {P : A → Type 0} {Q : B → Type 0} {r : Reads A} {f : A → Reads B} → Tells P r → ((a : A) → P a → Tells Q (f a)) → Tells Q (r >>= f)
bind {A = A} {B = B} {P = P} {Q = Q} {r = r} {f = f} one more = record { each = λ i p h. by i p (r i) refl h }
  where
    by : (i : Input) (p : B × Input) (x : Read A) → r i ≡ x → then_read x f ≡ Ok p → Q p.0
    by i p (Ok q) e h = (more q.0 (one.each i q e)).each q.1 p h
    by i p (Err e') e h = cc h

pub gives : {A : Type 0} {P : A → Type 0} (x : A) → P x → Tells P (done x)
gives {A = A} {P = P} x is = record { each = λ i p h. by i p h }
  where
    by : (i : Input) (p : A × Input) → done x i ≡ Ok p → P p.0
    by i p h =
        let pair : A × Input = (x, i) in
        let same : pair ≡ p = cc h in
        subst (λ (q : A × Input). P q.0) same is

pub any : {A : Type 0} (r : Reads A) → Tells (λ a. Unit {0}) r
any r = record { each = λ i p h. tt }

-- a word by what it spells
pub field : {A : Type 0} {P : A → Type 0} (spelled : List ℕ → Option A) (why : LineWhy) → ((text : List ℕ) (x : A) → spelled text ≡ Some x → P x) → Tells P (a_field spelled why)
field {A = A} {P = P} spelled why each = bind (any a_word) (λ w _. by w (spelled w.text) (each w.text))
  where
    by : (w : Word) (o : Option A) → ((x : A) → o ≡ Some x → P x) → Tells P (value_or o w why)
    by w (Some x) each = gives x (each x refl)
    by w None each = record { each = λ i p h. cc h }

-- ---- what a word spells

-- each value is such, if there is one
pub record Spells {A : Type 0} (P : A → Type 0) (o : Option A) : Type 0 where
  pub each : (x : A) → o ≡ Some x → P x

some : {A : Type 0} {P : A → Type 0} (x : A) → P x → Spells P (Some x)
some {A = A} {P = P} x is = record { each = λ y h. by y h }
  where
    by : (y : A) → Some x ≡ Some y → P y
    by y h = let same : x ≡ y = cc h in subst P same is

whatever : {A : Type 0} (o : Option A) → Spells (λ a. Unit {0}) o
whatever o = record { each = λ x h. tt }

after : {A B : Type 0} {P : A → Type 0} {Q : B → Type 0} (o : Option A) (f : A → Option B) → Spells P o → ((a : A) → P a → Spells Q (f a)) → Spells Q (option_and_then f o)
after {A = A} {B = B} {P = P} {Q = Q} o f one more = by o one
  where
    by : (x : Option A) → Spells P x → Spells Q (option_and_then f x)
    by (Some a) one = more a (one.each a refl)
    by None one = record { each = λ b h. cc h }

where_so : {A : Type 0} {P : A → Type 0} (b : Bool) (o : Option A) → (b ≡ true → Spells P o) → Spells P (if b then o else None)
where_so true o h = h refl
where_so false o h = record { each = λ x h. cc h }

both : (a b : Bool) → (a && b) ≡ true → (a ≡ true) × (b ≡ true)
both true b h = (refl, h)
both false b h = cc h

at_most : (a b : ℕ) → nat_le a b ≡ true → a ≤ b
at_most a b h = grind (arith, nat_tests)

-- a number is in its range
number_spelled : (low high : ℕ) (text : List ℕ) → Spells (λ n. (low ≤ n) × (n ≤ high)) (number_in low high text)
unfolding number_in
number_spelled low high text =
    where_so (is_decimal text && (nat_le low (digits_after 0 text) && nat_le (digits_after 0 text) high)) (Some (digits_after 0 text))
    (λ h. let p = both (is_decimal text) _ h in let q = both (nat_le low (digits_after 0 text)) _ p.1 in
    some (digits_after 0 text) (at_most low (digits_after 0 text) q.0, at_most (digits_after 0 text) high q.1))

pub number : (low high : ℕ) → Tells (λ n. (low ≤ n) × (n ≤ high)) (a_number low high)
unfolding a_number
number low high = field (number_in low high) _ (λ text. (number_spelled low high text).each)

-- a number of 64 bits
pub long : Tells (λ n. n < 2 ^ 64) a_long
unfolding a_number
long = field (number_in 0 texts.greatest_u64) _ (λ text x h. let s = (number_spelled 0 texts.greatest_u64 text).each x h in omega arith)

-- ---- hexadecimal digits

decoded : (r : Result (List ℕ) FromHexError) → Spells (λ bs. r ≡ Ok bs) (if_decoded r)
decoded (Ok bs) = some bs refl
decoded (Err e) = record { each = λ x h. cc h }

hex_spelled : (text : List ℕ) → Spells IsBytes (hex_of text)
hex_spelled text = record { each = λ bs h. (decode_of-ok text bs ((decoded (decode_of text)).each bs h)).3 }

-- eight hexadecimal digits make a number of 32 bits
key_spelled : (text : List ℕ) → Spells (λ n. n < 2 ^ 32) (hex_number 4 text)
unfolding hex_number
key_spelled text =
    where_so (length text == 2 * 4) (option_and_then (λ bs. Some (big_number 4 bs)) (hex_of text))
    (λ so. after (hex_of text) (λ bs. Some (big_number 4 bs)) (hex_spelled text) (λ bs is. some (big_number 4 bs) (big_from-lt 0 4 bs is)))

pub key : Tells (λ n. n < 2 ^ 32) a_key
unfolding a_key
key = field (hex_number 4) _ (λ text. (key_spelled text).each)

bytes_spelled : (text : List ℕ) → Spells (All (λ b. b < 256)) (bytes_of text)
unfolding bytes_of
bytes_spelled text = where_so (nat_le 2 (length text) && nat_le (length text) 8192) (hex_of text) (λ so. record { each = λ bs h. by bs ((hex_spelled text).each bs h) })
  where
    by : (bs : List ℕ) → IsBytes bs → All (λ b. b < 256) bs
    by bs is = All-from_get_or (λ b. b < 256) bs 0 (λ i below. is i)

pub bytes : Tells (All (λ b. b < 256)) some_bytes
unfolding some_bytes
bytes = field bytes_of _ (λ text. (bytes_spelled text).each)

-- ---- rights and addresses

letter_added : (letter right : ℕ) (l : Letters) → (with_letter letter right l).sum ≤ l.sum + right
unfolding with_letter
letter_added letter right l = by (bytes_eq (take 1 l.rest) (letter ∷ []))
  where
    by : (b : Bool) → (if b then record { sum = l.sum + right; rest = drop 1 l.rest } else l).sum ≤ l.sum + right
    by true = omega arith
    by false = omega arith

letters_sum : (text : List ℕ) → (letters_of text).sum < 16
unfolding letters_of
letters_sum text =
    let l : Letters = with_letter 108 1 (record { sum = 0; rest = text }) in
    let w : Letters = with_letter 119 2 l in
    let r : Letters = with_letter 114 4 w in
    let a = letter_added 108 1 (record { sum = 0; rest = text }) in
    let b = letter_added 119 2 l in
    let c = letter_added 114 4 w in
    let d = letter_added 97 8 r in
    omega arith

rights_spelled : (text : List ℕ) → Spells (λ rights. rights.0 < 16) (rights_of text)
unfolding rights_of
rights_spelled text = by (bytes_eq text (45 ∷ []))
  where
    by : (b : Bool) → Spells {A = Rights} (λ rights. rights.0 < 16) (if b then Some (record { 0 = 0 }) else if length (letters_of text).rest == 0 then Some (record { 0 = (letters_of text).sum }) else None)
    by true = some (record { 0 = 0 }) (omega arith)
    by false = where_so (length (letters_of text).rest == 0) (Some (record { 0 = (letters_of text).sum })) (λ so. some (record { 0 = (letters_of text).sum }) (letters_sum text))

pub rights : Tells (λ rights. rights.0 < 16) some_rights
unfolding some_rights
rights = field rights_of _ (λ text. (rights_spelled text).each)

part_spelled : (text : List ℕ) → Spells (λ p. p.number ≤ 255) (part_of text)
unfolding part_of
part_spelled text =
    after (number_in 0 255 (cut_at 46 text).front) _ (number_spelled 0 255 (cut_at 46 text).front) (λ n is.
    after (cut_at 46 text).behind _ (whatever (cut_at 46 text).behind) (λ rest _. some (record { number = n; rest = rest }) is.1))

host_spelled : (text : List ℕ) → Spells (λ ip. ip < 2 ^ 32) (host_of text)
unfolding host_of
host_spelled text =
    after (part_of text) _ (part_spelled text) (λ a in_a.
    after (part_of a.rest) _ (part_spelled a.rest) (λ b in_b.
    after (part_of b.rest) _ (part_spelled b.rest) (λ c in_c.
    after (number_in 0 255 c.rest) _ (number_spelled 0 255 c.rest) (λ d in_d.
    some (a.number * 16777216 + b.number * 65536 + c.number * 256 + d) (omega arith)))))

port_spelled : (o : Option (List ℕ)) → Spells (λ port. port < 2 ^ 16) (port_of o)
port_spelled None = some 4791 (omega arith)
port_spelled (Some text) = record { each = λ port h. let s = (number_spelled 1 65535 text).each port h in omega arith }

-- an address has the widths of its fields
abbrev pub IsAddress : Address → Type 0
IsAddress a = (a.ip < 2 ^ 32) × (a.port < 2 ^ 16)

address_spelled : (text : List ℕ) → Spells IsAddress (address_of text)
unfolding address_of
address_spelled text =
    after (host_of (cut_at 58 text).front) _ (host_spelled (cut_at 58 text).front) (λ ip in_ip.
    after (port_of (cut_at 58 text).behind) _ (port_spelled (cut_at 58 text).behind) (λ port in_port.
    some (record { ip = ip; port = port }) (in_ip, in_port)))

pub address : Tells IsAddress an_address
unfolding an_address
address = field address_of _ (λ text. (address_spelled text).each)

-- ---- terms and immediates

mtu_spelled : (text : List ℕ) → Spells (λ n. is_mtu n ≡ true) (mtu_of text)
unfolding mtu_of
mtu_spelled text =
    after (number_in 256 4096 text) _ (whatever (number_in 256 4096 text)) (λ n _. where_so (is_mtu n) (Some n) (λ is. some n is))

mtu : Tells (λ n. is_mtu n ≡ true) an_mtu
unfolding an_mtu
mtu = field mtu_of _ (λ text. (mtu_spelled text).each)

pub terms : Tells AreTerms some_terms
unfolding some_terms
terms =
    bind (any (the_word (codes "mtu"))) (λ a _.
    bind mtu (λ m in_mtu.
    bind (any (the_word (codes "psn"))) (λ b _.
    bind (number 0 16777215) (λ own in_own.
    bind (number 0 16777215) (λ peer in_peer.
    bind (any (the_word (codes "retry"))) (λ c _.
    bind (number 0 7) (λ retry in_retry.
    bind (any (the_word (codes "rnr"))) (λ d _.
    bind (number 0 7) (λ rnr in_rnr.
    bind (any (the_word (codes "reads"))) (λ e _.
    bind (number 1 16) (λ reads in_reads.
    gives (record { mtu = m; own_start = own; peer_start = peer; retry = retry; rnr = rnr; reads = reads })
    (record { mtu = in_mtu; own_start = omega arith; peer_start = omega arith; retry = in_retry.1; rnr = in_rnr.1; some_reads = in_reads.0; few_reads = in_reads.1 }))))))))))))

pub immediate : Tells (λ imm. IfSome imm (λ n. n < 2 ^ 32)) an_immediate
unfolding an_immediate
immediate = bind (any (an_option (codes "imm"))) (λ stands _. by stands)
  where
    by : (b : Bool) → Tells (λ imm. IfSome imm (λ n. n < 2 ^ 32)) (immediate_if b)
    by true = bind key (λ n is. gives (Some n) is)
    by false = gives None tt
