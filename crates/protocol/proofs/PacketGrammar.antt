-- What bytes without an offence say is what they spell.
use Rattle.std.proofs.Common.{◌≡◌, ℕ, ◌+◌, ◌%◌, ◌≤◌, Bool, true, false, not, List, length, Option, None, Some, refl, ap, sym, subst, ◌∙◌, arith, nat_lt, IsTrue, is_some}
use Rattle.std.specs.Prelude.{◌&&◌, ◌||◌, ◌==◌, if◌then◌else◌}
use borrow.Author.Tests.{eqb-true, ltb-false, le-ltb, not-false}
use Rattle.protocol.specs.declared.wire.Layout.{Layout}
use Rattle.protocol.specs.declared.wire.Malformed.{Malformed}
use Rattle.protocol.specs.Bytes.{byte_at}
use Rattle.protocol.specs.Wire.{Packet, Spells, packet_of, offence_of, known_offence, layout_offence, layout_of, headers_len, body_of, pad_of, has_aeth, has_atomic, is_syndrome, fields_of, when, read_atomic}

-- the bytes keep to a row
record Keeps (l : Layout) (bs : List ℕ) : Type 0 where
  version : byte_at 1 bs % 16 ≡ 0
  whole : 16 + headers_len l.headers ≤ length bs
  syndrome : IsTrue (not (has_aeth l.headers) || is_syndrome (byte_at 0 bs) (byte_at 12 bs))
  allowed : IsTrue (l.payload || body_of l.headers bs == 0)
  words : body_of l.headers bs % 4 ≡ 0
  fits : body_of l.headers bs ≤ 4096
  padded : pad_of bs ≤ body_of l.headers bs

-- a choice that gives nothing
not_chosen : {A : Type 0} (b : Bool) (x : A) (o : Option A) → (if b then Some x else o) ≡ None → (b ≡ false) × (o ≡ None)
not_chosen true x o h = cc
not_chosen false x o h = (refl, h)

-- what both tests of an or being false says
neither : (a b : Bool) → (a || b) ≡ false → (a ≡ false) × (b ≡ false)
neither true b h = cc
neither false b h = (refl, h)

-- a test of two that is true
pub both : (a b : Bool) → IsTrue (a && b) → IsTrue a × IsTrue b
both true b h = (refl, h)
both false b h = cc

-- a test that is not false
either : (a b : Bool) → (a && not b) ≡ false → IsTrue (not a || b)
either true true h = refl
either true false h = cc
either false b h = refl

-- the same for a test that is not
either_not : (a b : Bool) → (not a && not b) ≡ false → IsTrue (a || b)
either_not true b h = refl
either_not false true h = refl
either_not false false h = cc

-- the same again, from the one to the other
not_either : (a b : Bool) → IsTrue (not a || b) → (a && not b) ≡ false
not_either true true h = refl
not_either true false h = cc
not_either false b h = refl

not_neither : (a b : Bool) → IsTrue (a || b) → (not a && not b) ≡ false
not_neither true b h = refl
not_neither false true h = refl
not_neither false false h = cc

-- without an offence each test of the row is passed
kept : (l : Layout) (bs : List ℕ) → layout_offence l bs ≡ None → Keeps l bs
unfolding layout_offence
kept l bs h =
    let version = not_chosen (not (byte_at 1 bs % 16 == 0)) _ _ h in
    let whole = not_chosen (nat_lt (length bs) (16 + headers_len l.headers)) _ _ version.1 in
    let syndrome = not_chosen (has_aeth l.headers && not (is_syndrome (byte_at 0 bs) (byte_at 12 bs))) _ _ whole.1 in
    let body = not_chosen ((not l.payload && not (body_of l.headers bs == 0)) || (not (body_of l.headers bs % 4 == 0) || nat_lt 4096 (body_of l.headers bs))) _ _ syndrome.1 in
    let padded = not_chosen (nat_lt (body_of l.headers bs) (pad_of bs)) _ _ body.1 in
    let lengths = neither (not l.payload && not (body_of l.headers bs == 0)) _ body.0 in
    let words = neither (not (body_of l.headers bs % 4 == 0)) _ lengths.1 in
    record {
      version = eqb-true _ _ (not-false _ version.0);
      whole = ltb-false _ _ whole.0;
      syndrome = either (has_aeth l.headers) _ syndrome.0;
      allowed = either_not l.payload _ lengths.0;
      words = eqb-true _ _ (not-false _ words.0);
      fits = ltb-false _ _ words.1;
      padded = ltb-false _ _ padded.0;
    }

-- the other way: what passes each test has no offence
keeps : (l : Layout) (bs : List ℕ) → Keeps l bs → layout_offence l bs ≡ None
unfolding layout_offence
keeps l bs k =
    let whole : nat_lt (length bs) (16 + headers_len l.headers) ≡ false = le-ltb _ _ k.whole in
    let syndrome : (has_aeth l.headers && not (is_syndrome (byte_at 0 bs) (byte_at 12 bs))) ≡ false = not_either (has_aeth l.headers) _ k.syndrome in
    let allowed : (not l.payload && not (body_of l.headers bs == 0)) ≡ false = not_neither l.payload _ k.allowed in
    let fits : nat_lt 4096 (body_of l.headers bs) ≡ false = le-ltb _ _ k.fits in
    let padded : nat_lt (body_of l.headers bs) (pad_of bs) ≡ false = le-ltb _ _ k.padded in
    rw (k.version, whole, syndrome, allowed, k.words, fits, padded) refl

-- what some row says
row_kept : (o : Option Layout) (bs : List ℕ) → known_offence o bs ≡ None → (l : Layout) × (o ≡ Some l) × Keeps l bs
row_kept None bs h = cc
row_kept (Some l) bs h = (l, refl, kept l bs h)

-- bytes without an offence keep to the row of their opcode
no_offence : (bs : List ℕ) → offence_of bs ≡ None → (l : Layout) × (layout_of (byte_at 0 bs) ≡ Some l) × Keeps l bs
unfolding offence_of
no_offence bs h = row_kept (layout_of (byte_at 0 bs)) bs (not_chosen (nat_lt (length bs) 16) _ _ h).1

-- and the other way
no_offence_again : (l : Layout) (bs : List ℕ) → layout_of (byte_at 0 bs) ≡ Some l → Keeps l bs → offence_of bs ≡ None
unfolding offence_of
no_offence_again l bs known k =
    let long : nat_lt (length bs) 16 ≡ false = le-ltb _ _ (omega (arith, k.whole)) in
    rw (long, known) (keeps l bs k)

-- each part of what is read stands at its place
fields_spelled : (l : Layout) (bs : List ℕ) → layout_of (byte_at 0 bs) ≡ Some l → Keeps l bs → Spells (fields_of l.headers bs) bs
unfolding fields_of
fields_spelled l bs known k = record {
  layout = l;
  known = known;
  whole = k.whole;
  opcode = refl;
  version = k.version;
  dest = refl;
  ack_request = refl;
  psn = refl;
  reth = refl;
  imm = refl;
  aeth = refl;
  syndrome = k.syndrome;
  atomic = refl;
  old = refl;
  resume = refl;
  allowed = k.allowed;
  words = k.words;
  fits = k.fits;
  padded = k.padded;
  payload = refl;
}

-- what is spelled is read from its places
spelled_fields : (d : Packet) (bs : List ℕ) (s : Spells d bs) → d ≡ fields_of s.layout.headers bs
unfolding fields_of
spelled_fields d bs s = λ i. record {
  opcode = s.opcode i;
  dest = s.dest i;
  ack_request = s.ack_request i;
  psn = s.psn i;
  reth = s.reth i;
  imm = s.imm i;
  aeth = s.aeth i;
  atomic = (s.atomic ∙ ap (λ n. when (has_atomic s.layout.headers) (read_atomic n bs)) s.opcode) i;
  old = s.old i;
  resume = s.resume i;
  payload = s.payload i;
}

-- what is spelled keeps to the row of its opcode
spelled_kept : (d : Packet) (bs : List ℕ) (s : Spells d bs) → (layout_of (byte_at 0 bs) ≡ Some s.layout) × Keeps s.layout bs
spelled_kept d bs s = (
  rw (← s.opcode) s.known,
  record {
    version = s.version;
    whole = s.whole;
    syndrome = rw (← s.opcode) s.syndrome;
    allowed = s.allowed;
    words = s.words;
    fits = s.fits;
    padded = s.padded;
  },
)

-- what is spelled has no offence
pub spelled_unoffending : (d : Packet) (bs : List ℕ) → Spells d bs → offence_of bs ≡ None
spelled_unoffending d bs s = let k = spelled_kept d bs s in no_offence_again s.layout bs k.0 k.1

-- what has no offence spells something
pub unoffending_spelled : (bs : List ℕ) → offence_of bs ≡ None → (d : Packet) × Spells d bs
unoffending_spelled bs h = let k = no_offence bs h in (fields_of k.0.headers bs, fields_spelled k.0 bs k.1 k.2)

-- what is spelled is read
pub spelled_read : (d : Packet) (bs : List ℕ) → Spells d bs → packet_of bs ≡ Some d
unfolding packet_of
spelled_read d bs s = rw (spelled_unoffending d bs s, (spelled_kept d bs s).0) (ap Some (sym (spelled_fields d bs s)))

-- where something is read, nothing offends
read_unoffending : {A B : Type 0} (o : Option A) (p : Option B) (d : B) → (if is_some o then None else p) ≡ Some d → o ≡ None
read_unoffending None p d h = refl
read_unoffending (Some x) p d h = cc

-- what is read is spelled
pub read_spelled : (d : Packet) (bs : List ℕ) → packet_of bs ≡ Some d → Spells d bs
unfolding packet_of
read_spelled d bs h =
    let found = unoffending_spelled bs (read_unoffending (offence_of bs) _ d h) in
    let read : packet_of bs ≡ Some found.0 = spelled_read found.0 bs found.1 in
    let same : found.0 ≡ d = cc in
    subst (λ (e : Packet). Spells e bs) same found.1

-- where something offends, nothing is read
pub offending_unread : (m : Malformed) (bs : List ℕ) → offence_of bs ≡ Some m → packet_of bs ≡ None
unfolding packet_of
offending_unread m bs h = rw h refl

pub ruleset reading = (read_spelled, spelled_read, spelled_unoffending, unoffending_spelled, offending_unread)
