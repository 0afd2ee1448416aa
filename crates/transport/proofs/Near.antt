-- Numbers near another, over plain numbers.
use Rattle.std.proofs.Common.{◌≡◌, ℕ, ◌+◌, ◌-◌, ◌%◌, ◌<◌, ◌≤◌, ◌↔◌, Option, Some, None, IsNone, nat_lt, if◌then◌else◌, refl, ap, arith}
use Rattle.std.proofs.lemmas.Bool.{lt-ltb, le-ltb}
use Rattle.std.specs.Option.{SomeIff}
use Rattle.protocol.specs.Numbers.{wire_number, above_low, unwrap_near}
use Rattle.transport.specs.Near.{IsBelowZero}

-- a difference that is there or is not
found : (r : Option ℕ) (n : ℕ) → SomeIff r (8388608 ≤ n) (n - 8388608) → r ≡ (if nat_lt n 8388608 then None else Some (n - 8388608))
found None n h = let low : n < 8388608 = omega (arith, h) in rw (lt-ltb n 8388608 low) refl
found (Some x) n h = rw (le-ltb n 8388608 h.0) (ap Some h.1)

-- how far psn lies above the wire number of the lowest number
abbrev IsAbove : (start psn near lowest above : ℕ) → Type 0
IsAbove start psn near lowest above =
    (psn < 16777216) × (lowest ≡ wire_number start (near + 8388608)) × (above ≡ (psn + 16777216 - lowest) % 16777216)

-- one round of the wire numbers in place of two
above_low-once : (start psn near lowest above : ℕ) → IsAbove start psn near lowest above → above_low start psn near ≡ above
unfolding wire_number
above_low-once start psn near lowest above h = omega arith

-- the number of the protocol's rules
pub unwrap_near-found : (start psn near lowest above : ℕ) (r : Option ℕ) → psn < 16777216 → lowest ≡ wire_number start (near + 8388608) → above ≡ (psn + 16777216 - lowest) % 16777216 → SomeIff r (8388608 ≤ near + above) (near + above - 8388608) → r ≡ unwrap_near start psn near
unfolding unwrap_near
unwrap_near-found start psn near lowest above r fits lowest_is above_is h =
    rw (above_low-once start psn near lowest above (fits, lowest_is, above_is)) (found r (near + above) h)

-- below the half of the wire numbers the number lies below 0
below_zero : (start psn near lowest above : ℕ) → IsAbove start psn near lowest above → near + above < 8388608 → IsBelowZero start psn near
unfolding wire_number
below_zero start psn near lowest above h low = record {
  below = 8388608 - (near + above);
  positive = omega arith;
  spelled = omega arith;
  low = omega arith;
}

-- and only there
low_where_below : (start psn near lowest above : ℕ) → IsAbove start psn near lowest above → IsBelowZero start psn near → near + above < 8388608
unfolding wire_number
low_where_below start psn near lowest above h b = omega arith

-- none is found exactly where the number lies below 0
pub none_where_below : (start psn near lowest above : ℕ) (r : Option ℕ) → psn < 16777216 → lowest ≡ wire_number start (near + 8388608) → above ≡ (psn + 16777216 - lowest) % 16777216 → SomeIff r (8388608 ≤ near + above) (near + above - 8388608) → IsNone r ↔ IsBelowZero start psn near
none_where_below start psn near lowest above None fits lowest_is above_is h =
    (λ _. below_zero start psn near lowest above (fits, lowest_is, above_is) (omega (arith, h)), λ _. refl)
none_where_below start psn near lowest above (Some x) fits lowest_is above_is h =
    (λ n. cc, λ b. let low = low_where_below start psn near lowest above (fits, lowest_is, above_is) b in absurd (omega (arith, h.0)))
