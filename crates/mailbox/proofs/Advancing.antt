-- What is due is done.
use Rattle.std.proofs.Common.{◌≡◌, ℕ, List, [], ◌∷◌, true, false, refl, sym, ap, ◌∙◌, subst, ◌+◌, ◌<◌, ◌≤◌, length, rules, tests, arith, Option, Some, None, slice_get, nat_lt}
use Rattle.std.specs.List.{position}
use Rattle.rdma_types.specs.declared.answers.Answer.{Answer}
use Rattle.rdma_types.specs.declared.requests.Completion.{Completion}
use Rattle.protocol.specs.declared.events.Event.{Event}
use Rattle.protocol.specs.declared.events.WorldEvent.TheVariants as world_event
use Rattle.protocol.specs.State.{World}
use Rattle.protocol.specs.WorldStep.{carried_image, world_step}
use Rattle.mailbox_rules.specs.declared.due.Due.{Due}
use Rattle.mailbox_rules.specs.declared.due.Due.TheVariants as due
use Rattle.mailbox_rules.specs.declared.due.Fetch.{Fetch}
use Rattle.mailbox_rules.specs.declared.due.Side.{Side}
use Rattle.mailbox_rules.specs.declared.due.Side.TheVariants.{AtReceiver, AtSender}
use Rattle.mailbox_rules.specs.Opening.{receiver_receives, sender_receives}
use Rattle.mailbox_rules.specs.State.{Channel, Mail, with_channel}
use Rattle.mailbox_rules.specs.Working.{Asked, asking, doing, due_next, entries_in, free_event, freeing, going_on, heard_of, may_be_done, noting_all, poll_event, polled, posting, read_due, read_event, work_step}
use Rattle.mailbox.specs.Steps.{Advanced, Advances, IsAdvanced, IsAsked, IsStep, Polls, Shows, advanced, changed}
use Rattle.mailbox.proofs.Worked.{at_next}

-- ---- one thing

doing_is : (m : Mail) (k : ℕ) (d : Due) → doing m k d ≡ going_on (advanced m d).mail k (advanced m d).next
unfolding doing advanced
doing_is m k (due.CopyMessage i place length) = refl
doing_is m k (due.Repost i place fetch) = refl
doing_is m k (due.PostRead i fetch) = refl
doing_is m k (due.CopyBody i length) = refl
doing_is m k (due.PostFree i) = refl
doing_is m k (due.FreeSlot i place) = refl
doing_is m k (due.RepostAtSender i place) = refl

pub done_shown : (v m : Mail) (d : Due) (k : ℕ) (next : Option Due) (ds : List Due) → Advances v next (advanced m d) → ds ≡ due_next v.owed k next →
    Shows (record { world = v.world; channels = v.channels; owed = ds }) (doing m k d)
done_shown v m d k next ds a is = subst (λ (x : Mail). Shows (record { world = v.world; channels = v.channels; owed = ds }) x) (sym (doing_is m k d)) (record {
  world = a.shown.world;
  channels = a.shown.channels;
  owed = is ∙ (ap (λ o. due_next v.owed k o) a.next_is ∙ ap (λ xs. due_next xs k (advanced m d).next) a.shown.owed);
})

-- ---- postings

repost_is : (i place : ℕ) (fetch : Option Fetch) (m : Mail) → advanced m (due.Repost i place fetch) ≡ record { mail = posting m AtReceiver i (receiver_receives i place); next = read_due i fetch }
unfolding advanced
repost_is i place fetch m = refl

read_is : (i : ℕ) (fetch : Fetch) (m : Mail) → advanced m (due.PostRead i fetch) ≡ record { mail = posting m AtReceiver i (read_event i fetch); next = None }
unfolding advanced
read_is i fetch m = refl

free_is : (i : ℕ) (m : Mail) → advanced m (due.PostFree i) ≡ record { mail = posting m AtReceiver i (free_event i); next = None }
unfolding advanced
free_is i m = refl

sender_is : (i place : ℕ) (m : Mail) → advanced m (due.RepostAtSender i place) ≡ record { mail = posting m AtSender i (sender_receives i place); next = None }
unfolding advanced
sender_is i place m = refl

freed_is : (i place : ℕ) (m : Mail) → advanced m (due.FreeSlot i place) ≡ record { mail = with_channel m i freeing; next = Some (due.RepostAtSender i place) }
unfolding advanced
freed_is i place m = refl

-- a posting was made, and what is due next is known
abbrev IsPosted : Mail → Mail → Side → ℕ → Event → Option Due → Option Due → Type 0
IsPosted old new side i e n next = (m : Mail) → Shows old m → Advances new next (record { mail = posting m side i e; next = n })

module _ (old new : Mail) (next : Option Due) (d : Due) where
  posts_as : (d' : Due) (side : Side) (i : ℕ) (e e' : Event) (n n' : Option Due) → d ≡ d' → e ≡ e' → n ≡ n' → ((m : Mail) → advanced m d' ≡ record { mail = posting m side i e'; next = n' }) → IsPosted old new side i e n next → IsAdvanced old new d next
  posts_as d' side i e e' n n' is_d is_e is_n by h m shows =
      let whole : record { mail = posting m side i e; next = n } ≡ advanced m d =
      ap (λ x. record { mail = posting m side i x; next = n }) is_e ∙ (ap (λ x. record { mail = posting m side i e'; next = x }) is_n ∙ (sym (by m) ∙ ap (λ x. advanced m x) (sym is_d))) in
      subst (λ (x : Advanced). Advances new next x) whole (h m shows)

  pub reposts : (i place : ℕ) (fetch : Option Fetch) (e : Event) (n : Option Due) → d ≡ due.Repost i place fetch → e ≡ receiver_receives i place → n ≡ read_due i fetch → IsPosted old new AtReceiver i e n next → IsAdvanced old new d next
  reposts i place fetch e n is_d is_e is_n h = posts_as (due.Repost i place fetch) AtReceiver i e (receiver_receives i place) n (read_due i fetch) is_d is_e is_n (repost_is i place fetch) h

  pub posts_read : (i : ℕ) (fetch : Fetch) (e : Event) → d ≡ due.PostRead i fetch → e ≡ read_event i fetch → IsPosted old new AtReceiver i e None next → IsAdvanced old new d next
  posts_read i fetch e is_d is_e h = posts_as (due.PostRead i fetch) AtReceiver i e (read_event i fetch) None None is_d is_e refl (read_is i fetch) h

  pub posts_free : (i : ℕ) (e : Event) → d ≡ due.PostFree i → e ≡ free_event i → IsPosted old new AtReceiver i e None next → IsAdvanced old new d next
  posts_free i e is_d is_e h = posts_as (due.PostFree i) AtReceiver i e (free_event i) None None is_d is_e refl (free_is i) h

  pub posts_at_sender : (i place : ℕ) (e : Event) → d ≡ due.RepostAtSender i place → e ≡ sender_receives i place → IsPosted old new AtSender i e None next → IsAdvanced old new d next
  posts_at_sender i place e is_d is_e h = posts_as (due.RepostAtSender i place) AtSender i e (sender_receives i place) None None is_d is_e refl (sender_is i place) h

-- a slot is free
pub frees_slot : (v m : Mail) (i place : ℕ) (d : Due) (cs : List Channel) → d ≡ due.FreeSlot i place → Shows v m → cs ≡ changed v.channels i freeing → Advances (record { world = v.world; channels = cs; owed = v.owed }) (Some (due.RepostAtSender i place)) (advanced m d)
frees_slot v m i place d cs is_d shows is =
    subst (λ (x : Advanced). Advances (record { world = v.world; channels = cs; owed = v.owed }) (Some (due.RepostAtSender i place)) x) (sym (freed_is i place m) ∙ ap (λ x. advanced m x) (sym is_d))
    (record { next_is = refl; shown = record { world = shows.world; channels = is ∙ ap (λ xs. changed xs i freeing) shows.channels; owed = shows.owed } })

-- ---- a poll

module _ (v m : Mail) (n : ℕ) (new : World) (answer : Answer) (shows : Shows v m) (asks : IsAsked v.world new (poll_event n) answer) where
  abbrev a : Asked
  a = asking m (poll_event n)

  abbrev w : World
  w = (world_step m.world (world_event.At (poll_event n))).world

  entries_are : entries_in a.answer ≡ entries_in answer
  unfolding asking
  entries_are = ap (λ x. entries_in x) (sym (asks m.world shows.world).answered)

  mail_is : a.mail ≡ record { world = w; channels = v.channels; owed = v.owed }
  unfolding asking
  mail_is = ap (λ cs. record m { world = w; channels = cs }) (sym shows.channels) ∙ ap (λ ds. record { world = w; channels = v.channels; owed = ds }) (sym shows.owed)

  left_as_it_was : Shows (record { world = new; channels = v.channels; owed = v.owed }) a.mail
  unfolding asking
  left_as_it_was = record { world = (asks m.world shows.world).left; channels = shows.channels; owed = shows.owed }

  pub polled_none : entries_in answer ≡ [] → Polls (record { world = new; channels = v.channels; owed = v.owed }) (n + 1) (polled n a)
  polled_none is = subst (λ (xs : List Completion). Polls (record { world = new; channels = v.channels; owed = v.owed }) (n + 1) (heard_of n a.mail xs)) (sym (entries_are ∙ is)) (record { next = refl; shown = left_as_it_was })

  pub polled_some : (entries : List Completion) (cs : List Channel) (ds : List Due) → entries_in answer ≡ entries → 0 < length entries →
      ((x : World) → record { world = x; channels = cs; owed = ds } ≡ noting_all n (record { world = x; channels = v.channels; owed = v.owed }) entries) →
      Polls (record { world = new; channels = cs; owed = ds }) n (polled n a)
  polled_some entries cs ds is some noted =
      subst (λ (xs : List Completion). Polls (record { world = new; channels = cs; owed = ds }) n (heard_of n a.mail xs)) (sym (entries_are ∙ is)) (by entries some (ap (λ x. noting_all n x entries) mail_is ∙ sym (noted w)))
    where
      by : (xs : List Completion) → 0 < length xs → noting_all n a.mail xs ≡ record { world = w; channels = cs; owed = ds } → Polls (record { world = new; channels = cs; owed = ds }) n (heard_of n a.mail xs)
      by [] none is = absurd (omega arith)
      by (x ∷ xs) some is = record { next = refl; shown = subst (λ (y : Mail). Shows (record { world = new; channels = cs; owed = ds }) y) (sym is) (record { world = (asks m.world shows.world).left; channels = refl; owed = refl }) }

-- ---- one step

module _ (v m : Mail) (next : ℕ) (shows : Shows v m) where
  first_is : position (may_be_done m.world) m.owed ≡ position (may_be_done v.world) v.owed
  unfolding carried_image
  first_is = ap (λ ds. position (may_be_done m.world) ds) (sym shows.owed) ∙ sym (ap (λ w. position (may_be_done w) v.owed) shows.world)

  pub does_due : (k : ℕ) (d : Due) (new : Mail) → Some k ≡ position (may_be_done v.world) v.owed → slice_get v.owed k ≡ Some d → Shows new (doing m k d) → IsStep (work_step (at_next m next)) (Some next) new m
  unfolding work_step
  does_due k d new is there shown =
      let at : slice_get m.owed k ≡ Some d = ap (λ ds. slice_get ds k) (sym shows.owed) ∙ there in
      rw (first_is ∙ sym is) (rw at (record { next = refl; shown = shown }))

  pub ends_here : None ≡ position (may_be_done v.world) v.owed → length v.channels < next → IsStep (work_step (at_next m next)) None v m
  unfolding work_step
  ends_here is past =
      let over : nat_lt (length m.channels) next ≡ true = ap (λ cs. nat_lt (length cs) next) (sym shows.channels) ∙ search (rules, tests, past) in
      rw (first_is ∙ sym is) (rw over shows)

  pub polls_next : (n : ℕ) (new : Mail) → None ≡ position (may_be_done v.world) v.owed → next ≤ length v.channels → Polls new n (polled next (asking m (poll_event next))) → IsStep (work_step (at_next m next)) (Some n) new m
  unfolding work_step
  polls_next n new is within polls =
      let over : nat_lt (length m.channels) next ≡ false = ap (λ cs. nat_lt (length cs) next) (sym shows.channels) ∙ search (rules, tests, within) in
      rw (first_is ∙ sym is) (rw over polls)
