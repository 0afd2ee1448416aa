-- What one word spells: numbers, keys, bytes, names, rights and addresses (this project's choice).
use Rattle.std.specs.Prelude.{ℕ, ◌+◌, ◌-◌, ◌*◌, ◌^◌, ◌==◌, ◌&&◌, ◌||◌, not, Bool, false, List, [], ◌∷◌, length, take, drop, Option, Some, None, Result, Ok, Err, option_and_then, nat_lt, nat_le, if◌then◌else◌, bytes_eq, codes}
use Rattle.std.specs.List.{list_all, position_or_len}
use Rattle.byteorder.specs.Endian.{big_number}
use Rattle.hex.specs.Hex.{decode_of}
use Rattle.hex.specs.declared.error.FromHexError.{FromHexError}
use Rattle.rdma_types.specs.Limits.{is_mtu}
use Rattle.rdma_types.specs.Spelled.{is_name}
use Rattle.rdma_types.specs.declared.names.Name.{Name}
use Rattle.rdma_types.specs.declared.names.ObjName.{ObjName}
use Rattle.rdma_types.specs.declared.requests.Address.{Address}
use Rattle.rdma_types.specs.declared.rights.Rights.{Rights}

infixl 10 ◌>>=◌
abbrev pub ◌>>=◌ : {A B : Type 0} → Option A → (A → Option B) → Option B
o >>= f = option_and_then f o

-- ---- numbers

-- a decimal digit
abbrev pub is_digit : ℕ → Bool
is_digit b = nat_le 48 b && nat_le b 57

-- the number that digits spell after n
abbrev pub digits_after : ℕ → List ℕ → ℕ
digits_after n [] = n
digits_after n (b ∷ bs) = digits_after (n * 10 + (b - 48)) bs

-- decimal digits without sign or leading zero
abbrev pub is_decimal : List ℕ → Bool
is_decimal [] = false
is_decimal (b ∷ bs) = list_all is_digit (b ∷ bs) && (not (b == 48) || length bs == 0)

-- the number of a word, from `low` to `high`
unfoldable pub number_in : ℕ → ℕ → List ℕ → Option ℕ
number_in low high text = if is_decimal text && (nat_le low (digits_after 0 text) && nat_le (digits_after 0 text) high) then Some (digits_after 0 text) else None

-- the greatest number of 64 bits, and of 32
abbrev pub greatest_u64 : ℕ
greatest_u64 = 2 ^ 64 - 1

abbrev pub greatest_u32 : ℕ
greatest_u32 = 2 ^ 32 - 1

-- a number that is an MTU
abbrev pub mtu_if : ℕ → Option ℕ
mtu_if n = if is_mtu n then Some n else None

-- the MTU of a word: 256, 512, 1024, 2048 or 4096
unfoldable pub mtu_of : List ℕ → Option ℕ
mtu_of text = do
  n ← number_in 256 4096 text
  mtu_if n

-- ---- hexadecimal digits

-- what was decoded
abbrev pub if_decoded : Result (List ℕ) FromHexError → Option (List ℕ)
if_decoded (Ok bs) = Some bs
if_decoded (Err e) = None

-- the bytes of hexadecimal digits of either case
abbrev pub hex_of : List ℕ → Option (List ℕ)
hex_of text = if_decoded (decode_of text)

-- the number of a word of two hexadecimal digits for each of its bytes
unfoldable pub hex_number : ℕ → List ℕ → Option ℕ
hex_number width text = if length text == 2 * width then (do
  bs ← hex_of text
  Some (big_number width bs)) else None

-- the bytes of a word of 2 to 8,192 hexadecimal digits
unfoldable pub bytes_of : List ℕ → Option (List ℕ)
bytes_of text = if nat_le 2 (length text) && nat_le (length text) 8192 then hex_of text else None

-- ---- names

-- a text before the first byte of a kind, and behind it where there is one
pub record Cut : Type 0 where
  pub front : List ℕ
  pub behind : Option (List ℕ)

-- a text cut at the first such byte
unfoldable pub cut_at : ℕ → List ℕ → Cut
cut_at end text =
    let place : ℕ = position_or_len (λ b. b == end) text in
    if nat_lt place (length text)
    then record { front = take place text; behind = Some (drop (place + 1) text) }
    else record { front = text; behind = None }

-- the name of a word
unfoldable pub name_of : List ℕ → Option Name
name_of text = if is_name text then Some text else None

-- the object of a word: the name of its context, a point, and its own name
unfoldable pub object_of : List ℕ → Option ObjName
object_of text = do
  context ← name_of (cut_at 46 text).front
  behind ← (cut_at 46 text).behind
  name ← name_of behind
  Some (record { context = context; name = name })

-- the name of an object, where its context is that of o
abbrev pub own_name : ObjName → ObjName → Option Name
own_name o other = if bytes_eq o.context other.context then Some other.name else None

-- ---- rights

-- a sum of rights, and the text behind their letters
pub record Letters : Type 0 where
  pub sum : ℕ
  pub rest : List ℕ

-- one more right, where its letter stands next
unfoldable pub with_letter : ℕ → ℕ → Letters → Letters
with_letter letter right l = if bytes_eq (take 1 l.rest) (letter ∷ []) then record { sum = l.sum + right; rest = drop 1 l.rest } else l

-- the letters `l`, `w`, `r` and `a`, each at most once and in this order
unfoldable pub letters_of : List ℕ → Letters
letters_of text = with_letter 97 8 (with_letter 114 4 (with_letter 119 2 (with_letter 108 1 (record { sum = 0; rest = text }))))

-- the rights of a word: `-` for none, or their letters
unfoldable pub rights_of : List ℕ → Option Rights
rights_of text =
    if bytes_eq text (codes "-") then Some (record { 0 = 0 })
    else if length (letters_of text).rest == 0 then Some (record { 0 = (letters_of text).sum }) else None

-- ---- addresses

-- a number from 0 to 255, and the text behind the point after it
pub record Part : Type 0 where
  pub number : ℕ
  pub rest : List ℕ

-- such a number at the start of a text
unfoldable pub part_of : List ℕ → Option Part
part_of text = do
  n ← number_in 0 255 (cut_at 46 text).front
  rest ← (cut_at 46 text).behind
  Some (record { number = n; rest = rest })

-- the IPv4 address of four numbers with points between them
unfoldable pub host_of : List ℕ → Option ℕ
host_of text = do
  a ← part_of text
  b ← part_of a.rest
  c ← part_of b.rest
  d ← number_in 0 255 c.rest
  Some (a.number * 16777216 + b.number * 65536 + c.number * 256 + d)

-- the port behind a colon, or else 4791 (RoCEv2)
abbrev pub port_of : Option (List ℕ) → Option ℕ
port_of None = Some 4791
port_of (Some text) = number_in 1 65535 text

-- the address of a word: an IPv4 address, and perhaps a colon and a port
unfoldable pub address_of : List ℕ → Option Address
address_of text = do
  ip ← host_of (cut_at 58 text).front
  port ← port_of (cut_at 58 text).behind
  Some (record { ip = ip; port = port })
