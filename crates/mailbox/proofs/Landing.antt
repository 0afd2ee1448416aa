-- What landed is copied.
use Rattle.std.proofs.Common.{◌≡◌, ◌<◌, ◌≤◌, ◌-◌, ℕ, List, length, get_or, refl, sym, ap, ◌∙◌, Option, Some}
use Rattle.std.specs.Prelude.{slice_set}
use Rattle.protocol.specs.declared.events.Event.{Event}
use Rattle.protocol.specs.declared.events.Event.TheVariants as event
use Rattle.protocol.specs.State.{World}
use Rattle.mailbox_rules.specs.declared.due.Due.TheVariants as due
use Rattle.mailbox_rules.specs.declared.due.Fetch.{Fetch}
use Rattle.mailbox_rules.specs.Letters.{header_of}
use Rattle.mailbox_rules.specs.Opening.{landing_address, place_address, receiver_region}
use Rattle.mailbox_rules.specs.State.{Channel, Mail}
use Rattle.mailbox_rules.specs.Working.{arriving, asking, fetch_of, filling}
use Rattle.mailbox.specs.Steps.{Advances, Copies, Fills, IsCopied, IsFilled, IsLoaded, Loads, Shows, advanced, changed, loaded}
use Rattle.mailbox.proofs.Places.{nowhere, there}

module _ (v m : Mail) (i k : ℕ) (new : World) (shows : Shows v m) (is : k ≡ i - 1) where
  abbrev at_new : List Channel → Mail
  at_new cs = record { world = new; channels = cs; owed = v.owed }

  changed_there : (f : Channel → Channel) (d : Channel) → d ≡ get_or v.channels k d → k < length v.channels → slice_set v.channels k (f d) ≡ changed m.channels i f
  changed_there f d here less = ap (λ x. slice_set v.channels k (f x)) here ∙ (sym (there v.channels i k f d is less) ∙ ap (λ cs. changed cs i f) shows.channels)

  changed_nowhere : (f : Channel → Channel) → length v.channels ≤ k → v.channels ≡ changed m.channels i f
  changed_nowhere f past = sym (nowhere v.channels i k f is past) ∙ ap (λ cs. changed cs i f) shows.channels

  abbrev message : ℕ → ℕ → Event
  message place n = event.Load (receiver_region i) (place_address i place) n

  pub copied_there : (place n : ℕ) (d c : Channel) (fetch : Option Fetch) → d ≡ get_or v.channels k d → k < length v.channels → IsCopied v.world new (message place n) d c fetch →
      Advances (at_new (slice_set v.channels k c)) (Some (due.Repost i place fetch)) (advanced m (due.CopyMessage i place n))
  unfolding advanced asking
  copied_there place n d c fetch here less copies =
      let h : Copies v.world new (message place n) d c fetch m.world = copies m.world shows.world in record {
        next_is = ap (λ o. Some (due.Repost i place o)) h.fetched;
        shown = record {
          world = h.left;
          channels = ap (λ x. slice_set v.channels k x) h.arrived ∙ changed_there (arriving (loaded m.world (message place n))) d here less;
          owed = shows.owed;
        };
      }

  pub copied_nowhere : (place n : ℕ) (bytes : List ℕ) (fetch : Option Fetch) → length v.channels ≤ k → IsLoaded v.world new (message place n) bytes → fetch ≡ fetch_of (header_of bytes) →
      Advances (at_new v.channels) (Some (due.Repost i place fetch)) (advanced m (due.CopyMessage i place n))
  unfolding advanced asking
  copied_nowhere place n bytes fetch past loads told =
      let h : Loads v.world new (message place n) bytes m.world = loads m.world shows.world in record {
        next_is = ap (λ o. Some (due.Repost i place o)) (told ∙ ap (λ xs. fetch_of (header_of xs)) h.bytes_are);
        shown = record { world = h.left; channels = changed_nowhere (arriving (loaded m.world (message place n))) past; owed = shows.owed };
      }

  abbrev body : ℕ → Event
  body n = event.Load (receiver_region i) (landing_address i) n

  pub filled_there : (n : ℕ) (d c : Channel) → d ≡ get_or v.channels k d → k < length v.channels → IsFilled v.world new (body n) d c →
      Advances (at_new (slice_set v.channels k c)) (Some (due.PostFree i)) (advanced m (due.CopyBody i n))
  unfolding advanced asking
  filled_there n d c here less fills =
      let h : Fills v.world new (body n) d c m.world = fills m.world shows.world in record {
        next_is = refl;
        shown = record { world = h.left; channels = ap (λ x. slice_set v.channels k x) h.filled ∙ changed_there (filling (loaded m.world (body n))) d here less; owed = shows.owed };
      }

  pub filled_nowhere : (n : ℕ) (bytes : List ℕ) → length v.channels ≤ k → IsLoaded v.world new (body n) bytes →
      Advances (at_new v.channels) (Some (due.PostFree i)) (advanced m (due.CopyBody i n))
  unfolding advanced asking
  filled_nowhere n bytes past loads =
      let h : Loads v.world new (body n) bytes m.world = loads m.world shows.world in record {
        next_is = refl;
        shown = record { world = h.left; channels = changed_nowhere (filling (loaded m.world (body n))) past; owed = shows.owed };
      }
