-- A connection of which an end has ended: only a flag of it is another.
use Rattle.std.proofs.Common.{◌≡◌, ℕ, zero, suc, ◌-◌, List, [], ◌∷◌, length, refl, subst, Some, None, Option}
use Rattle.std.specs.Prelude.{slice_get, slice_set}
use Rattle.std.proofs.lemmas.Option.{none-some, same_Some}
use Rattle.mailbox_rules.specs.declared.due.Side.{Side}
use Rattle.mailbox_rules.specs.declared.due.Side.TheVariants.{AtReceiver, AtSender}
use Rattle.mailbox_rules.specs.State.{Channel, Mail, channel, ending, or_fresh, with_channel, with_there}
use Rattle.law_mailbox.proofs.work.Changing.{IsSameFor, same_itself}
use Rattle.law_mailbox.proofs.connection.Lists.{set_long}

ending_same : (side : Side) (c : Channel) → IsSameFor c (ending side c)
ending_same AtReceiver c = record { arrived = refl; receives = refl; reads = refl; slot_in_use = refl }
ending_same AtSender c = record { arrived = refl; receives = refl; reads = refl; slot_in_use = refl }

set_same : (side : Side) (cs : List Channel) (k q : ℕ) (c : Channel) → slice_get cs k ≡ Some c → IsSameFor (or_fresh (slice_get cs q)) (or_fresh (slice_get (slice_set cs k (ending side c)) q))
set_same side [] k q c h = absurd (none-some c h)
set_same side (x ∷ xs) zero zero c h = subst (λ (y : Channel). IsSameFor x (ending side y)) (same_Some x c h) (ending_same side x)
set_same side (x ∷ xs) zero (suc q) c h = same_itself (or_fresh (slice_get xs q))
set_same side (x ∷ xs) (suc k) zero c h = same_itself x
set_same side (x ∷ xs) (suc k) (suc q) c h = set_same side xs k q c h

module _ (m : Mail) (side : Side) (i : ℕ) where
  pub ending_seen : (q : ℕ) → IsSameFor (channel m q) (channel (with_channel m i (ending side)) q)
  ending_seen q = by (slice_get m.channels (i - 1)) refl
    where
      by : (o : Option Channel) → slice_get m.channels (i - 1) ≡ o → IsSameFor (or_fresh (slice_get m.channels (q - 1))) (or_fresh (slice_get (with_there o m.channels i (ending side)) (q - 1)))
      by None e = same_itself (or_fresh (slice_get m.channels (q - 1)))
      by (Some c) e = set_same side m.channels (i - 1) (q - 1) c e

  pub ending_long : length (with_channel m i (ending side)).channels ≡ length m.channels
  ending_long = by (slice_get m.channels (i - 1))
    where
      by : (o : Option Channel) → length (with_there o m.channels i (ending side)) ≡ length m.channels
      by None = refl
      by (Some c) = set_long m.channels (i - 1) (ending side c)
