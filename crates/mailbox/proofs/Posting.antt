-- Postings, and what they leave.
use Rattle.std.proofs.Common.{◌≡◌, ◌-◌, ℕ, Bool, true, false, refl, sym, ap, ◌∙◌, subst, slice_get, List, if◌then◌else◌}
use Rattle.rdma_types.specs.declared.answers.Answer.{Answer}
use Rattle.protocol.specs.declared.events.Event.{Event}
use Rattle.protocol.specs.State.{World}
use Rattle.protocol.specs.WorldStep.{carried_image, live_context, home}
use Rattle.protocol.specs.Readers.{world_end_view}
use Rattle.law_kept_datagrams.specs.Alike.{with_kept_datagrams}
use Rattle.rdma_types.specs.declared.names.Name.{Name}
use Rattle.mailbox_rules.specs.declared.due.Side.{Side}
use Rattle.mailbox_rules.specs.State.{Channel, Mail, channel, ending, has_ended, is_away, or_fresh}
use Rattle.mailbox_rules.specs.Working.{Asked, asking, is_too_many, posted, posting}
use Rattle.mailbox.specs.Steps.{Asks, IsAsked, Shows, changed}

-- ---- what is shown

pub shows_same : (v new m : Mail) → new ≡ v → Shows v m → Shows new m
shows_same v new m same shows = record { world = ap (λ x. x.world) same ∙ shows.world; channels = ap (λ x. x.channels) same ∙ shows.channels; owed = ap (λ x. x.owed) same ∙ shows.owed }

pub away_same : (v m : Mail) (n : ℕ) → Shows v m → is_away v.world n ≡ is_away m.world n
unfolding carried_image
away_same v m n shows = ap (λ w. is_away w n) shows.world

pub view_same : (v m : Mail) (n : Name) (i : ℕ) → Shows v m → world_end_view v.world n i ≡ world_end_view m.world n i
unfolding live_context home
view_same v m n i shows = ap (λ w. world_end_view w n i) shows.world

pub channel_same : (v m : Mail) (i : ℕ) → Shows v m → channel v i ≡ channel m i
channel_same v m i shows = ap (λ cs. channel (record m { channels = cs }) i) shows.channels

-- ---- postings

pub not_posted : (m : Mail) (side : Side) (i : ℕ) (e : Event) → has_ended side (channel m i) ≡ true → posting m side i e ≡ m
unfolding posting
not_posted m side i e is = rw is refl

pub is_posted : (m : Mail) (side : Side) (i : ℕ) (e : Event) → has_ended side (channel m i) ≡ false → posting m side i e ≡ posted (asking m e) side i
unfolding posting
is_posted m side i e is = rw is refl

module _ (m : Mail) (e : Event) (answer : Answer) (old new : World) (asks : Asks old new e answer m.world) where
  abbrev a : Asked
  a = asking m e

  pub asked_answer : answer ≡ a.answer
  unfolding asking
  asked_answer = asks.answered

  asked_world : new ≡ with_kept_datagrams a.mail.world
  unfolding asking
  asked_world = asks.left

  pub asked_shown : (v : Mail) → Shows v m → Shows (record { world = new; channels = v.channels; owed = v.owed }) a.mail
  unfolding asking
  asked_shown v shows = record { world = asked_world; channels = shows.channels; owed = shows.owed }

  pub well_posted : (v : Mail) (side : Side) (i : ℕ) → is_too_many answer ≡ false → Shows v m → Shows (record { world = new; channels = v.channels; owed = v.owed }) (posted a side i)
  well_posted v side i is shows = rw (sym (ap (λ x. is_too_many x) asked_answer) ∙ is) (asked_shown v shows)

  pub badly_posted : (v : Mail) (side : Side) (i : ℕ) → is_too_many answer ≡ true → Shows v m → Shows (record { world = new; channels = changed v.channels i (ending side); owed = v.owed }) (posted a side i)
  unfolding asking
  badly_posted v side i is shows = rw (sym (ap (λ x. is_too_many x) asked_answer) ∙ is) (record { world = asked_world; channels = ap (λ cs. changed cs i (ending side)) shows.channels; owed = shows.owed })

-- ---- at an end

not_ended : (v m : Mail) (side : Side) (i : ℕ) (b : Bool) → Shows v m → b ≡ has_ended side (or_fresh (slice_get v.channels (i - 1))) → has_ended side (channel m i) ≡ b
not_ended v m side i b shows is = ap (λ cs. has_ended side (or_fresh (slice_get cs (i - 1)))) (sym shows.channels) ∙ sym is

module _ (v m : Mail) (side : Side) (i : ℕ) (e : Event) (shows : Shows v m) where
  pub post_not : true ≡ has_ended side (or_fresh (slice_get v.channels (i - 1))) → Shows v (posting m side i e)
  post_not is = subst (λ (x : Mail). Shows v x) (sym (not_posted m side i e (not_ended v m side i true shows is))) shows

  pub post_well : (new : World) (answer : Answer) → IsAsked v.world new e answer → false ≡ has_ended side (or_fresh (slice_get v.channels (i - 1))) → is_too_many answer ≡ false →
      Shows (record { world = new; channels = v.channels; owed = v.owed }) (posting m side i e)
  post_well new answer asks is few =
      subst (λ (x : Mail). Shows (record { world = new; channels = v.channels; owed = v.owed }) x) (sym (is_posted m side i e (not_ended v m side i false shows is)))
      (well_posted m e answer v.world new (asks m.world shows.world) v side i few shows)

  pub post_badly : (new : World) (answer : Answer) → IsAsked v.world new e answer → false ≡ has_ended side (or_fresh (slice_get v.channels (i - 1))) → is_too_many answer ≡ true →
      Shows (record { world = new; channels = changed v.channels i (ending side); owed = v.owed }) (posting m side i e)
  post_badly new answer asks is many =
      subst (λ (x : Mail). Shows (record { world = new; channels = changed v.channels i (ending side); owed = v.owed }) x) (sym (is_posted m side i e (not_ended v m side i false shows is)))
      (badly_posted m e answer v.world new (asks m.world shows.world) v side i many shows)

  pub post_noted : (new : World) (answer : Answer) → IsAsked v.world new e answer → false ≡ has_ended side (or_fresh (slice_get v.channels (i - 1))) → (cs : List Channel) →
      cs ≡ (if is_too_many answer then changed v.channels i (ending side) else v.channels) → Shows (record { world = new; channels = cs; owed = v.owed }) (posting m side i e)
  post_noted new answer asks is cs noted = subst (λ (xs : List Channel). Shows (record { world = new; channels = xs; owed = v.owed }) (posting m side i e)) (sym noted) (by (is_too_many answer) refl)
    where
      by : (b : Bool) → is_too_many answer ≡ b → Shows (record { world = new; channels = (if b then changed v.channels i (ending side) else v.channels); owed = v.owed }) (posting m side i e)
      by true many = post_badly new answer asks is many
      by false few = post_well new answer asks is few
