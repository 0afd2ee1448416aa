-- What the opcode of a request tells of its packet.
use Rattle.std.proofs.Common.{arith, ◌≡◌, ◌⊎◌, ◌≤◌, ◌<◌, ◌+◌, ◌-◌, ◌%◌, ℕ, zero, suc, List, [], ◌∷◌, ◌++◌, length, true, false, Bool, refl, sym, ap, ◌∙◌, inl, inr, subst}
use Rattle.std.specs.Prelude.{Option, Some, None, is_some, ◌==◌, ◌||◌, ◌&&◌, not, if◌then◌else◌, nat_le, nat_lt}
use Rattle.std.proofs.Math.Nat.{add-mod_right, zero-mod}
use Rattle.std.proofs.lemmas.Bool.Decides.{nat_tests}
use Rattle.rdma_types.specs.Limits.{is_mtu}
use Rattle.protocol.specs.declared.wire.AtomicEth.{AtomicEth}
use Rattle.protocol.specs.declared.wire.Layout.{Layout}
use Rattle.protocol.specs.declared.wire.Headers.{Headers}
use Rattle.protocol.specs.declared.wire.Headers.TheVariants as headers
use Rattle.protocol.specs.Lawful.{is_whole_pieces}
use Rattle.protocol.specs.Responder.{is_part, is_send, is_write, is_invalid, is_bad_write, is_missized, is_out_of_place, part_of}
use Rattle.protocol.specs.State.{Link}
use Rattle.protocol.specs.Wire.{Packet, fields_of, has_atomic, layout_of, loaded, offence_of, packet_of, read_atomic, read_by, unloaded, when}
use Rattle.protocol.specs.Bytes.{byte_at}

pub or-false : (a b : Bool) → (a || b) ≡ false → (a ≡ false) × (b ≡ false)
or-false true b e = absurd (cc)
or-false false b e = (refl, e)

pub and-false : (a b : Bool) → a ≡ true → (a && b) ≡ false → b ≡ false
and-false true b t e = e
and-false false b t e = absurd (cc)

-- what a valid packet is
pub record IsValid (l : Link) (d : Packet) : Type 0 where
  pub placed : is_out_of_place (part_of d.opcode) d.opcode l.receiver.progress ≡ false
  pub sized : is_missized (part_of d.opcode) (length d.payload) l.terms.mtu ≡ false
  pub written : (is_write d.opcode && is_bad_write d l.receiver.progress) ≡ false

pub valid-parts : (l : Link) (d : Packet) → is_invalid l d ≡ false → IsValid l d
unfolding is_invalid
valid-parts l d e =
    let a = or-false _ _ e in
    let b = or-false _ _ a.1 in
    let c = or-false _ _ b.1 in
    record { placed = a.0; sized = b.0; written = c.0 }

pub send-part : (n : ℕ) → is_send n ≡ true → is_part (part_of n) ≡ true
unfolding part_of
send-part zero e = refl
send-part (suc zero) e = refl
send-part (suc (suc zero)) e = refl
send-part (suc (suc (suc zero))) e = refl
send-part (suc (suc (suc (suc zero)))) e = refl
send-part (suc (suc (suc (suc (suc zero))))) e = refl
send-part (suc (suc (suc (suc (suc (suc n)))))) e = absurd (grind (arith, nat_tests, e))

-- a WRITE's opcode is one of six
six : (n : ℕ) → is_write n ≡ true → (k : ℕ) × (k ≤ 5) × (n ≡ 6 + k)
six n e = let low : 6 ≤ n = grind (arith, nat_tests, e) in let high : n ≤ 11 = grind (arith, nat_tests, e) in (n - 6, omega (arith, low, high), omega (arith, low, high))

by_six : (P : ℕ → Type 0) → P 6 → P 7 → P 8 → P 9 → P 10 → P 11 → (k : ℕ) → k ≤ 5 → P (6 + k)
by_six P p q r s t u zero l = p
by_six P p q r s t u (suc zero) l = q
by_six P p q r s t u (suc (suc zero)) l = r
by_six P p q r s t u (suc (suc (suc zero))) l = s
by_six P p q r s t u (suc (suc (suc (suc zero)))) l = t
by_six P p q r s t u (suc (suc (suc (suc (suc zero))))) l = u
by_six P p q r s t u (suc (suc (suc (suc (suc (suc n)))))) l = absurd (omega (arith, l))

pub write-part : (n : ℕ) → is_write n ≡ true → is_part (part_of n) ≡ true
unfolding part_of
write-part n e = let k = six n e in subst (λ m. is_part (part_of m) ≡ true) (sym k.2) (by_six (λ m. is_part (part_of m) ≡ true) refl refl refl refl refl refl k.0 k.1)

pub write-not-send : (n : ℕ) → is_write n ≡ true → is_send n ≡ false
write-not-send n e = grind (arith, nat_tests, e)

pub send-not-write : (n : ℕ) → is_send n ≡ true → is_write n ≡ false
send-not-write n e = grind (arith, nat_tests, e)

no_atomic_row : Option Layout → Bool
no_atomic_row None = true
no_atomic_row (Some l) = not (has_atomic l.headers)

write-row : (n : ℕ) → is_write n ≡ true → no_atomic_row (layout_of n) ≡ true
unfolding layout_of no_atomic_row
write-row n e = let k = six n e in subst (λ m. no_atomic_row (layout_of m) ≡ true) (sym k.2) (by_six (λ m. no_atomic_row (layout_of m) ≡ true) refl refl refl refl refl refl k.0 k.1)

-- a WRITE has no AtomicETH
abbrev pub HasNoWord : Packet → Type 0
HasNoWord d = is_write d.opcode ≡ true → d.atomic ≡ None

when-not : (b : Bool) (x : AtomicEth) → not b ≡ true → when b x ≡ None
when-not true x h = absurd (cc)
when-not false x h = refl

pub reads-no-word : (bytes : List ℕ) (d : Packet) → packet_of bytes ≡ Some d → HasNoWord d
unfolding packet_of fields_of no_atomic_row
reads-no-word bytes d h w = by_offence (is_some (offence_of bytes)) h
  where
    by_row : (o : Option Layout) → layout_of (byte_at 0 bytes) ≡ o → read_by o bytes ≡ Some d → d.atomic ≡ None
    by_row None t g = absurd (cc)
    by_row (Some l) t g =
        let same : fields_of l.headers bytes ≡ d = cc in
        let opcode : byte_at 0 bytes ≡ d.opcode = ap (λ (z : Packet). z.opcode) same in
        let row : no_atomic_row (layout_of (byte_at 0 bytes)) ≡ true = write-row (byte_at 0 bytes) (ap is_write opcode ∙ w) in
        let none : not (has_atomic l.headers) ≡ true = ap no_atomic_row (sym t) ∙ row in
        ap (λ (z : Packet). z.atomic) (sym same) ∙ when-not (has_atomic l.headers) (read_atomic (byte_at 0 bytes) bytes) none

    by_offence : (b : Bool) → (if b then None else read_by (layout_of (byte_at 0 bytes)) bytes) ≡ Some d → d.atomic ≡ None
    by_offence true g = absurd (cc)
    by_offence false g = by_row (layout_of (byte_at 0 bytes)) refl g

-- ---- whole pieces

pub some_mtu : (mtu : ℕ) → is_mtu mtu ≡ true → 0 < mtu
some_mtu mtu h = grind (arith, nat_tests, h)

-- one piece more
pub whole-more : (mtu n : ℕ) → 0 < mtu → (n ≡ 0) ⊎ (is_whole_pieces mtu n ≡ true) → is_whole_pieces mtu (mtu + n) ≡ true
whole-more mtu n some h = both (some_bytes (mtu + n) (omega (arith, some))) (is_zero ((mtu + n) % mtu) (left h))
  where
    both : {a b : Bool} → a ≡ true → b ≡ true → (a && b) ≡ true
    both {a} {b} p q = ap (λ x. x && b) p ∙ q

    some_bytes : (k : ℕ) → 0 < k → not (k == 0) ≡ true
    some_bytes k l = grind (arith, nat_tests, l)

    is_zero : (k : ℕ) → k ≡ 0 → (k == 0) ≡ true
    is_zero k e = grind (arith, nat_tests, e)

    zero_is : (k : ℕ) → (not (n == 0) && k == 0) ≡ true → k ≡ 0
    zero_is k e = grind (arith, nat_tests, e)

    once_more : (mtu + n) % mtu ≡ n % mtu
    once_more = let e : mtu + n ≡ n + mtu = omega arith in ap (λ k. k % mtu) e ∙ add-mod_right n mtu

    left : (n ≡ 0) ⊎ (is_whole_pieces mtu n ≡ true) → (mtu + n) % mtu ≡ 0
    left (inl z) = once_more ∙ (ap (λ k. k % mtu) z ∙ zero-mod mtu)
    left (inr w) = once_more ∙ zero_is (n % mtu) w
