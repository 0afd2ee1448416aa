-- The connections of what is held, and a change of one of them.
use Rattle.std.proofs.Common.{arith, ◌≡◌, ◌≢◌, ℕ, ◌-◌, ◌≤◌, List, length, true, false, Bool, refl, sym, ap, ◌∙◌, Some, Option, leb-true}
use Rattle.std.specs.Prelude.{nat_le, ◌&&◌, slice_get, slice_set, get_or}
use Rattle.std.proofs.lemmas.Option.{slice_get-get_or}
use Rattle.mailbox_rules.specs.State.{Channel, Mail, channel, fresh_channel, is_sender, or_fresh, with_channel, with_there}
use Rattle.law_mailbox.proofs.connection.Lists.{set_elsewhere, set_long, set_there}

-- ---- the senders

-- a sender's number is from 1 to the number of connections
pub record IsSender (m : Mail) (i : ℕ) : Type 0 where
  pub from_one : 1 ≤ i
  pub within : i ≤ length m.channels

pub both : (a b : Bool) → (a && b) ≡ true → (a ≡ true) × (b ≡ true)
both true true h = (refl, refl)
both true false h = cc
both false b h = cc

pub sender_is : (m : Mail) (i : ℕ) → is_sender m i ≡ true → IsSender m i
sender_is m i h =
    let b : (nat_le 1 i ≡ true) × (nat_le i (length m.channels) ≡ true) = both (nat_le 1 i) (nat_le i (length m.channels)) h in
    record { from_one = leb-true 1 i b.0; within = leb-true i (length m.channels) b.1 }

-- ---- a change of one connection

module _ (m : Mail) (i : ℕ) (there : is_sender m i ≡ true) (change : Channel → Channel) where
  at_place : slice_get m.channels (i - 1) ≡ Some (channel m i)
  at_place =
      let s : IsSender m i = sender_is m i there in
      let found : slice_get m.channels (i - 1) ≡ Some (get_or m.channels (i - 1) fresh_channel) = slice_get-get_or m.channels (i - 1) fresh_channel (omega (arith, s.from_one, s.within)) in
      found ∙ ap Some (sym (ap or_fresh found))

  is_set : (with_channel m i change).channels ≡ slice_set m.channels (i - 1) (change (channel m i))
  is_set = ap (λ (o : Option Channel). with_there o m.channels i change) at_place

  pub changed_there : channel (with_channel m i change) i ≡ change (channel m i)
  changed_there =
      let s : IsSender m i = sender_is m i there in
      ap (λ (cs : List Channel). or_fresh (slice_get cs (i - 1))) is_set
      ∙ ap or_fresh (set_there m.channels (i - 1) (change (channel m i)) (omega (arith, s.from_one, s.within)))

  pub changed_elsewhere : (j : ℕ) → 1 ≤ j → i ≢ j → channel (with_channel m i change) j ≡ channel m j
  changed_elsewhere j positive other =
      let s : IsSender m i = sender_is m i there in
      let apart : i - 1 ≢ j - 1 = λ e. other (omega (arith, e, s.from_one)) in
      ap (λ (cs : List Channel). or_fresh (slice_get cs (j - 1))) is_set
      ∙ ap or_fresh (set_elsewhere m.channels (i - 1) (j - 1) (change (channel m i)) apart)

  pub changed_long : length (with_channel m i change).channels ≡ length m.channels
  changed_long = ap length is_set ∙ set_long m.channels (i - 1) (change (channel m i))
