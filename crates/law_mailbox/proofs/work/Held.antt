-- What is held stays held through calls, where each kind of thing that happens keeps it.
use Rattle.std.proofs.Common.{arith, ◌≡◌, ◌≢◌, ℕ, ◌<◌, ◌≤◌, List, [], ◌∷◌, ◌++◌, length, true, false, Bool, refl, sym, subst, ap, ◌∙◌, Some, None, Option, ◌⊎◌, inl, inr, append-nil, eqb-true, eq-eqb}
use Rattle.std.specs.Prelude.{if◌then◌else◌, ◌==◌, nat_le, ◌&&◌}
use Rattle.std.proofs.lemmas.Option.{same_Some}
use Rattle.rdma_types.specs.declared.answers.Answer.{Answer}
use Rattle.protocol.specs.declared.events.Event.{Event}
use Rattle.protocol.specs.declared.events.Event.TheVariants as event
use Rattle.protocol.specs.declared.events.WorldEvent.{WorldEvent}
use Rattle.protocol.specs.declared.events.WorldEvent.TheVariants as world_event
use Rattle.protocol.specs.State.{World}
use Rattle.protocol.specs.WorldStep.{world_step}
use Rattle.packetless_machine.specs.declared.steps.MachineStep.{MachineStep}
use Rattle.packetless_machine.specs.declared.steps.MachineStep.TheVariants as steps
use Rattle.packetless_machine.specs.Legal.{IsRun, after, effect, seen, seen_of}
use Rattle.packetless_machine.specs.Machine.{Machine}
use Rattle.law_simulation.specs.Kept.{kept_of, kept_verb, verb_in, verb_of}
use Rattle.law_simulation.specs.Law.{AlwaysFollows, Follows, IsEventInRange, IsInRange}
use Rattle.law_settling.specs.Settling.{SettlingHasEvents}
use Rattle.mailbox_rules.specs.declared.faults.MailFault.TheVariants as fault
use Rattle.mailbox_rules.specs.declared.letters.Letter.{Letter}
use Rattle.mailbox_rules.specs.Calls.{After, Call, Gives, Refused, Reply, Take, calls, is_of_network, is_turn, replies, takes, taking}
use Rattle.mailbox_rules.specs.Histories.{Placed, Turn, fetched_before, first_wanted, is_wanted, placed_letters, sent_letters, without_first}
use Rattle.mailbox_rules.specs.Letters.{is_rendezvous}
use Rattle.mailbox_rules.specs.State.{Channel, Mail, channel, is_sender, made, with_channel, with_world}
use Rattle.mailbox_rules.specs.Theorem.{IsFirstOpen, IsLanded, IsReached, Begins, Replied, WasCut, NoneExactlyWhere, TakesFirstWhole}
use Rattle.mailbox_rules.specs.Working.{most_steps, working}
use Rattle.law_mailbox.specs.Arrived.{HasArrived, IsTaken}
use Rattle.law_mailbox.specs.Held.{AreAllKept, IsAllKept, IsHeld, IsInner, KeepingIsEnough}
use Rattle.law_mailbox.specs.Kept.{Has, IsKept, Sight, sight_of}
use Rattle.law_mailbox.proofs.work.EachCall.{IsIdle, after_call, after_cut, none_idle, refused_idle}
use Rattle.law_mailbox.proofs.work.Fetching.{due_changes}
use Rattle.law_mailbox.proofs.work.Channels.{IsSender, changed_elsewhere, changed_long, changed_there, sender_is}
use Rattle.law_mailbox.proofs.work.PostedAs.{IsHeldAs, as_itself, copied_stays}
use Rattle.law_mailbox.proofs.settling.Opened.{placed_more, sent_more, were_sent}
use Rattle.law_mailbox.proofs.work.Staged.{is_worked}
use Rattle.law_mailbox.proofs.settling.Taking.{IsGivenAt, IsNotGiven, is_taken, outcome}

-- ---- steps of the machine

pub no_parts : {X : Type 0} (xs ys : List X) → xs ++ ys ≡ [] → (xs ≡ []) × (ys ≡ [])
no_parts [] ys h = (refl, h)
no_parts (x ∷ xs) ys h = cc

pub is_inner : (machine : Machine) (s : MachineStep) → seen_of machine s ≡ [] → IsInner s
is_inner machine (steps.Verb verb given) h = cc
is_inner machine s h = tt

module _ (peers : ℕ) {Also : Mail → Type 0} (keep : IsAllKept peers Also) where
  run_keeps : (ts : List Turn) (m : Mail) (machine : Machine) (ss : List MachineStep) → IsRun machine ss → seen machine ss ≡ [] → AreAllKept peers ts m machine → AreAllKept peers ts m (after machine ss)
  run_keeps ts m machine [] run unheard all = all
  run_keeps ts m machine (s ∷ ss) run unheard all =
      let quiet : (seen_of machine s ≡ []) × (seen (effect machine s) ss ≡ []) = no_parts (seen_of machine s) (seen (effect machine s) ss) unheard in
      run_keeps ts m (effect machine s) ss run.1 quiet.1 (keep.steps ts m machine s (is_inner machine s quiet.0) run.0 all)

-- ---- events of the network

unheard_turn : (w : World) (e : Event) (a : Answer) → is_turn e ≡ true → kept_of w (world_event.At e) a ≡ []
unfolding kept_verb verb_in verb_of
unheard_turn w (event.Transmit o) a h = refl
unheard_turn w (event.Expire o) a h = refl
unheard_turn w (event.RnrOver o) a h = refl
unheard_turn w e a h = cc

pub unheard : (w : World) (e : WorldEvent) (a : Answer) → is_of_network e ≡ true → kept_of w e a ≡ []
unfolding kept_verb verb_of
unheard w (world_event.Deliver k) a h = refl
unheard w (world_event.Lose k) a h = refl
unheard w (world_event.Wire k) a h = refl
unheard w (world_event.Stop n) a h = refl
unheard w (world_event.Restore n k) a h = refl
unheard w (world_event.Release n k) a h = refl
unheard w (world_event.At e) a h = unheard_turn w e a h
unheard w e a h = cc

turn_in_range : (e : Event) → is_turn e ≡ true → IsEventInRange e
turn_in_range (event.Transmit o) h = tt
turn_in_range (event.Expire o) h = tt
turn_in_range (event.RnrOver o) h = tt
turn_in_range e h = cc

pub in_range : (e : WorldEvent) → is_of_network e ≡ true → IsInRange e
in_range (world_event.Deliver k) h = tt
in_range (world_event.Lose k) h = tt
in_range (world_event.Wire k) h = tt
in_range (world_event.Stop n) h = tt
in_range (world_event.Restore n k) h = tt
in_range (world_event.Release n k) h = tt
in_range (world_event.At e) h = turn_in_range e h
in_range e h = cc

module _ (peers : ℕ) {Also : Mail → Type 0} (keep : IsAllKept peers Also) (follow : (e : WorldEvent) → AlwaysFollows e) where
  event_held : (ts : List Turn) (m : Mail) (e : WorldEvent) → is_of_network e ≡ true → IsHeld peers ts m → IsHeld peers ts (with_world m (world_step m.world e).world)
  event_held ts m e net h =
      let f : Follows m.world h.machine e = follow e m.world h.machine (in_range e net) h.stands in
      let quiet : seen h.machine f.steps ≡ [] = f.heard ∙ unheard m.world e (world_step m.world e).answer net in
      let all : AreAllKept peers ts m (after h.machine f.steps) = run_keeps peers keep ts m h.machine f.steps f.is_run quiet h.all in
      record { machine = after h.machine f.steps; stands = f.stands; senders = h.senders; all = record { opened = all.opened; joined = all.joined; kept = all.kept; dues = all.dues } }

-- ---- turns that send and give no letter

-- what is kept, of other letters that are the same
kept_as : (i : ℕ) (s : Sight) (c : Channel) (sent sent' : List Letter) (open' opened' : List Placed) → sent' ≡ sent → opened' ≡ open' → IsKept i s c sent open' → IsKept i s c sent' opened'
kept_as i s c sent sent' open' opened' e f h =
    subst (λ (x : List Letter). IsKept i s c x opened') (sym e) (subst (λ (y : List Placed). IsKept i s c sent y) (sym f) h)

pub idle_as : (peers : ℕ) (ts : List Turn) (m : Mail) (c : Call) (r : Reply) → IsIdle c r → (h : IsHeld peers ts m) → IsHeldAs peers (ts ++ record { call = c; reply = r } ∷ []) m m h.machine
idle_as peers ts m c r idle h = record {
  held = record {
    machine = h.machine;
    stands = h.stands;
    senders = h.senders;
    all = record {
      opened = h.all.opened;
      joined = h.all.joined;
      kept = λ i a b.
          let t : Turn = record { call = c; reply = r } in
          kept_as i (sight_of h.machine m.owed i) (channel m i) (sent_letters i ts) (sent_letters i (ts ++ t ∷ [])) (placed_letters i ts) (placed_letters i (ts ++ t ∷ []))
          (sent_more i ts t ∙ ap (λ (s : List Letter). sent_letters i ts ++ s) (idle.none i) ∙ append-nil (sent_letters i ts))
          (placed_more i ts t ∙ idle.same i (length (sent_letters i ts)) (placed_letters i ts))
          (h.all.kept i a b);
      dues = h.all.dues;
    };
  };
  as_posted = λ q low high. as_itself q m h.machine;
  standing_same = refl;
}

idle_held : (peers : ℕ) (ts : List Turn) (m : Mail) (c : Call) (r : Reply) → IsIdle c r → IsHeld peers ts m → IsHeld peers (ts ++ record { call = c; reply = r } ∷ []) m
idle_held peers ts m c r idle h = (idle_as peers ts m c r idle h).held

-- ---- a letter is taken

has_without : (tag : Option ℕ) (xs : List Placed) (x y : Placed) → Has xs y → first_wanted tag xs ≡ Some x → (x ≡ y → ⊥) → Has (without_first tag xs) y
unfolding without_first
has_without tag [] x y h first other = absurd h
has_without tag (z ∷ zs) x y (inl e) first other = by (is_wanted tag z) first
  where
    by : (w : Bool) → (if w then Some z else first_wanted tag zs) ≡ Some x → Has (if w then zs else z ∷ without_first tag zs) y
    by true f = absurd (other (sym (same_Some z x f) ∙ e))
    by false f = inl e
has_without tag (z ∷ zs) x y (inr r) first other = by (λ f. has_without tag zs x y r f other) (is_wanted tag z) first
  where
    by : (first_wanted tag zs ≡ Some x → Has (without_first tag zs) y) → (w : Bool) → (if w then Some z else first_wanted tag zs) ≡ Some x → Has (if w then zs else z ∷ without_first tag zs) y
    by rest true f = r
    by rest false f = inr (rest f)

take_kept : (i : ℕ) (s : Sight) (c : Channel) (sent : List Letter) (open' : List Placed) (tag : Option ℕ) (k : ℕ) (x : Placed) → IsKept i s c sent open' → first_wanted tag open' ≡ Some x →
    IsLanded c sent x → HasArrived (taking k c) sent (without_first tag open') → IsKept i s (taking k c) sent (without_first tag open')
take_kept i s c sent open' tag k x h first landed left =
    due_changes h refl refl refl h.counts h.slot h.landing left
    (λ j l at waiting. has_without tag open' x (record { place = j; letter = l }) (h.waits_open j l at waiting) first (other j l waiting))
  where
    other : (j : ℕ) (l : Letter) → (c.receives ≤ j) ⊎ ((is_rendezvous l.body ≡ true) × (c.reads ≤ fetched_before j sent)) → x ≡ record { place = j; letter = l } → ⊥
    other j l (inl past) same = let below : j < c.receives = subst (λ (z : Placed). z.place < c.receives) same landed.received in omega arith
    other j l (inr waits) same =
        let below : fetched_before j sent < c.reads =
        subst (λ (z : Placed). is_rendezvous z.letter.body ≡ true → fetched_before z.place sent < c.reads) same landed.fetched waits.0 in
        let unread : c.reads ≤ fetched_before j sent = waits.1 in
        omega arith

eq_is : (a b : ℕ) → (b' : Bool) → (a == b) ≡ b' → (a ≡ b) ⊎ (((a == b) ≡ false) × (a ≢ b))
eq_is a b true e = inl (eqb-true a b e)
eq_is a b false e = inr (e, λ same. let t : (a == b) ≡ true = eq-eqb a b same in let f : true ≡ false = sym t ∙ e in cc)

module _ (peers : ℕ) (ts : List Turn) (m : Mail) (from : ℕ) (tag : Option ℕ) (h : IsHeld peers ts m) where
  is_among : is_sender m from ≡ true → (1 ≤ from) × (from ≤ peers)
  is_among there = let s : IsSender m from = sender_is m from there in (s.from_one, subst (λ (n : ℕ). from ≤ n) h.senders s.within)

  module _ (there : is_sender m from ≡ true) (g : IsGivenAt m from (sent_letters from ts) (placed_letters from ts) tag) where
    kept_there : IsKept from (sight_of h.machine m.owed from) (channel (with_channel m from (taking g.k)) from)
        (sent_letters from (ts ++ record { call = Take from tag; reply = Gives (Some g.x.letter) } ∷ [])) (placed_letters from (ts ++ record { call = Take from tag; reply = Gives (Some g.x.letter) } ∷ []))
    kept_there =
        let t : Turn = record { call = Take from tag; reply = Gives (Some g.x.letter) } in
        let s : Sight = sight_of h.machine m.owed from in
        let among : (1 ≤ from) × (from ≤ peers) = is_among there in
        let kept : IsKept from s (taking g.k (channel m from)) (sent_letters from ts) (without_first tag (placed_letters from ts)) =
        take_kept from s (channel m from) (sent_letters from ts) (placed_letters from ts) tag g.k g.x (h.all.kept from among.0 among.1) g.first g.landed g.left in
        subst (λ (c : Channel). IsKept from s c (sent_letters from (ts ++ t ∷ [])) (placed_letters from (ts ++ t ∷ []))) (sym (changed_there m from there (taking g.k)))
        (kept_as from s (taking g.k (channel m from)) (sent_letters from ts) (sent_letters from (ts ++ t ∷ [])) (without_first tag (placed_letters from ts)) (placed_letters from (ts ++ t ∷ []))
        (sent_more from ts t ∙ append-nil (sent_letters from ts))
        (placed_more from ts t ∙ ap (λ (b : Bool). if b then without_first tag (placed_letters from ts) else placed_letters from ts) (eq-eqb from from refl))
        kept)

    kept_elsewhere : (i : ℕ) → 1 ≤ i → i ≤ peers → (from == i) ≡ false → (from ≢ i) → IsKept i (sight_of h.machine m.owed i) (channel (with_channel m from (taking g.k)) i)
        (sent_letters i (ts ++ record { call = Take from tag; reply = Gives (Some g.x.letter) } ∷ [])) (placed_letters i (ts ++ record { call = Take from tag; reply = Gives (Some g.x.letter) } ∷ []))
    kept_elsewhere i a b apart other =
        let t : Turn = record { call = Take from tag; reply = Gives (Some g.x.letter) } in
        let s : Sight = sight_of h.machine m.owed i in
        subst (λ (c : Channel). IsKept i s c (sent_letters i (ts ++ t ∷ [])) (placed_letters i (ts ++ t ∷ []))) (sym (changed_elsewhere m from there (taking g.k) i a other))
        (kept_as i s (channel m i) (sent_letters i ts) (sent_letters i (ts ++ t ∷ [])) (placed_letters i ts) (placed_letters i (ts ++ t ∷ []))
        (sent_more i ts t ∙ append-nil (sent_letters i ts))
        (placed_more i ts t ∙ ap (λ (b : Bool). if b then without_first tag (placed_letters i ts) else placed_letters i ts) apart)
        (h.all.kept i a b))

    kept_each : (i : ℕ) → 1 ≤ i → i ≤ peers → (from ≡ i) ⊎ (((from == i) ≡ false) × (from ≢ i)) → IsKept i (sight_of h.machine m.owed i) (channel (with_channel m from (taking g.k)) i)
        (sent_letters i (ts ++ record { call = Take from tag; reply = Gives (Some g.x.letter) } ∷ [])) (placed_letters i (ts ++ record { call = Take from tag; reply = Gives (Some g.x.letter) } ∷ []))
    kept_each i a b (inl e) =
        let t : Turn = record { call = Take from tag; reply = Gives (Some g.x.letter) } in
        subst (λ (j : ℕ). IsKept j (sight_of h.machine m.owed j) (channel (with_channel m from (taking g.k)) j) (sent_letters j (ts ++ t ∷ [])) (placed_letters j (ts ++ t ∷ []))) e kept_there
    kept_each i a b (inr o) = kept_elsewhere i a b o.0 o.1

    given_as : IsHeldAs peers (ts ++ record { call = Take from tag; reply = Gives (Some g.x.letter) } ∷ []) m (with_channel m from (taking g.k)) h.machine
    given_as = record {
      held = record {
        machine = h.machine;
        stands = h.stands;
        senders = changed_long m from there (taking g.k) ∙ h.senders;
        all = record { opened = h.all.opened; joined = h.all.joined; kept = λ i a b. kept_each i a b (eq_is from i (from == i) refl); dues = h.all.dues };
      };
      as_posted = λ q low high. record { receiver_same = refl; dues_same = refl; owed_same = refl; copied_same = copied_stays m from there (taking g.k) (λ c. refl) q low };
      standing_same = refl;
    }

  -- ---- what `take` answers, and what it leaves

  not_there : is_sender m from ≡ false → takes m from tag ≡ replies m (Refused fault.NoSender)
  unfolding takes
  not_there e = rw e refl

  pub take_as : IsHeldAs peers (ts ++ record { call = Take from tag; reply = (takes m from tag).reply } ∷ []) m (takes m from tag).mail h.machine
  take_as = by (is_sender m from) refl
    where
      told : (there : is_sender m from ≡ true) → IsGivenAt m from (sent_letters from ts) (placed_letters from ts) tag ⊎ IsNotGiven m from (sent_letters from ts) (placed_letters from ts) tag →
          IsHeldAs peers (ts ++ record { call = Take from tag; reply = (takes m from tag).reply } ∷ []) m (takes m from tag).mail h.machine
      told there (inl g) = subst (λ (a : After). IsHeldAs peers (ts ++ record { call = Take from tag; reply = a.reply } ∷ []) m a.mail h.machine) (sym g.answer) (given_as there g)
      told there (inr g) = subst (λ (a : After). IsHeldAs peers (ts ++ record { call = Take from tag; reply = a.reply } ∷ []) m a.mail h.machine) (sym g.answer) (idle_as peers ts m (Take from tag) (Gives None) (none_idle from tag) h)

      by : (b : Bool) → is_sender m from ≡ b → IsHeldAs peers (ts ++ record { call = Take from tag; reply = (takes m from tag).reply } ∷ []) m (takes m from tag).mail h.machine
      by true there =
          let among : (1 ≤ from) × (from ≤ peers) = is_among there in
          told there (outcome m from (sent_letters from ts) (placed_letters from ts) tag there (were_sent from ts) (h.all.kept from among.0 among.1).arrived)
      by false e = subst (λ (a : After). IsHeldAs peers (ts ++ record { call = Take from tag; reply = a.reply } ∷ []) m a.mail h.machine) (sym (not_there e)) (idle_as peers ts m (Take from tag) (Refused fault.NoSender) (refused_idle (Take from tag) fault.NoSender) h)

-- ---- after calls

module _ (peers : ℕ) {Also : Mail → Type 0} (keep : IsAllKept peers Also) (follow : (e : WorldEvent) → AlwaysFollows e) (named : SettlingHasEvents) where
  worked_held : (ts : List Turn) (m : Mail) → IsHeld peers ts m → IsHeld peers ts (working m)
  worked_held ts m h = subst (λ (n : Mail). IsHeld peers ts n) (sym (is_worked m)) (keep.works ts m most_steps h)

  -- ---- any calls

  reached_held : {ts : List Turn} {m : Mail} → IsReached (made peers) ts m → IsHeld peers ts m × Also m
  reached_held Begins = (keep.begins, keep.also_begins)
  reached_held (Replied {ts = ts} {m = m} c may r) =
      let b = reached_held r in (
        after_call (IsHeld peers) (λ us. Also) (event_held peers keep follow) (λ us x n also. keep.works us x n) (idle_held peers) (λ us x i tag h. (take_as peers us x i tag h).held) (λ us x i l x' fits e part also h w. keep.stores us x i l x' fits h e part)
            (λ us x i l fits e also h w. keep.sends us x i l fits h also e) named ts m c may b.1 b.0,
        keep.also_called ts m c may b.0 b.1,
      )
  reached_held (WasCut {ts = ts} {m = m} {m' = m'} c may r cut) =
      let b = reached_held r in (
        after_cut (IsHeld peers) (λ us. Also) (event_held peers keep follow) (λ us x n also. keep.works us x n) (idle_held peers) (λ us x i tag h. (take_as peers us x i tag h).held) (λ us x i l x' fits e part also h w. keep.stores us x i l x' fits h e part)
            (λ us x i l fits e also h w. keep.sends us x i l fits h also e) named ts m cut may b.1 b.0,
        keep.also_cut ts m c m' cut may b.0 b.1,
      )

  -- ---- what is taken

  took : (m : Mail) (i : ℕ) (tag : Option ℕ) → calls m (Take i tag) ≡ takes (working m) i tag
  unfolding calls
  took m i tag = refl

  taken_where : (ts : List Turn) (m : Mail) (i : ℕ) (tag : Option ℕ) → IsHeld peers ts (working m) → is_sender (working m) i ≡ true → IsTaken (working m) i (sent_letters i ts) (placed_letters i ts) tag
  taken_where ts m i tag h there =
      let among : (1 ≤ i) × (i ≤ peers) = is_among peers ts (working m) i tag h there in
      is_taken (working m) i (sent_letters i ts) (placed_letters i ts) tag there (were_sent i ts) (h.all.kept i among.0 among.1).arrived

  whole : (ts : List Turn) (m : Mail) → IsHeld peers ts m → TakesFirstWhole m ts
  whole ts m h i tag l given = by (is_sender (working m) i) refl
    where
      by : (b : Bool) → is_sender (working m) i ≡ b → IsFirstOpen l (first_wanted tag (placed_letters i ts))
      by true there = (taken_where ts m i tag (worked_held ts m h) there).whole l (ap (λ (a : After). a.reply) (sym (took m i tag)) ∙ given)
      by false e =
          let refused : Refused fault.NoSender ≡ Gives (Some l) = ap (λ (a : After). a.reply) (sym (not_there peers ts (working m) i tag (worked_held ts m h) e)) ∙ (ap (λ (a : After). a.reply) (sym (took m i tag)) ∙ given) in
          cc

  none : (ts : List Turn) (m : Mail) → IsHeld peers ts m → NoneExactlyWhere m ts
  none ts m h i tag there =
      let w : IsHeld peers ts (working m) = worked_held ts m h in
      let long : length m.channels ≡ length (working m).channels = h.senders ∙ sym w.senders in
      let there' : is_sender (working m) i ≡ true = ap (λ (n : ℕ). nat_le 1 i && nat_le i n) (sym long) ∙ there in
      let taken : IsTaken (working m) i (sent_letters i ts) (placed_letters i ts) tag = taken_where ts m i tag w there' in
      let same : (calls m (Take i tag)).reply ≡ (takes (working m) i tag).reply = ap (λ (a : After). a.reply) (took m i tag) in
      (λ e. taken.none.0 (sym same ∙ e), λ awaited. same ∙ taken.none.1 awaited)

pub enough : (Also : ℕ → Mail → Type 0) → SettlingHasEvents → ((e : WorldEvent) → AlwaysFollows e) → KeepingIsEnough Also
enough Also named follow peers keep ts m reached =
    let h : IsHeld peers ts m = (reached_held peers keep follow named reached).0 in
    record { held = h; whole = whole peers keep follow named ts m h; none = none peers keep follow named ts m h }
