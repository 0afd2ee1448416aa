-- After settling and working three times everything is here, where work does all that is due.
use Rattle.std.proofs.Common.{arith, ◌≡◌, ◌≢◌, ℕ, zero, suc, ◌-◌, ◌≤◌, List, [], ◌∷◌, ◌++◌, length, ne_eqb, drop, true, false, Bool, refl, sym, subst, ap, ◌∙◌, Option, length-drop}
use Rattle.std.specs.Prelude.{All, flat_map, nat_le, not, slice_get, ◌&&◌, if◌then◌else◌}
use Rattle.std.proofs.lemmas.List.Elements.{All-head, All-tail}
use Rattle.rdma_types.specs.declared.names.Name.{Name}
use Rattle.rdma_types.specs.declared.names.ObjName.{ObjName}
use Rattle.protocol.specs.declared.events.WorldEvent.{WorldEvent}
use Rattle.protocol.specs.Settle.{settled, unfinished}
use Rattle.protocol.specs.State.{World}
use Rattle.protocol.specs.WorldStep.{is_live}
use Rattle.packetless_machine.specs.Machine.{Machine, end_of, has_context, has_end}
use Rattle.packetless_machine.specs.Steps.{untold}
use Rattle.law_simulation.specs.Law.{AlwaysFollows}
use Rattle.law_simulation.specs.Stands.{Stands}
use Rattle.law_simulation.specs.Views.{owned}
use Rattle.law_simulation.proofs.relation.InUse.{sound_of}
use Rattle.law_settling.specs.Settling.{SettlingHasEvents}
use Rattle.mailbox_rules.specs.declared.due.Due.{Due}
use Rattle.mailbox_rules.specs.declared.due.Due.TheVariants as due
use Rattle.rdma_types.specs.declared.requests.Completion.{Completion}
use Rattle.law_simulation.specs.Named.{EventsFollowByName}
use Rattle.std.proofs.lemmas.List.Concat.{flat_map-append}
use Rattle.mailbox_rules.specs.declared.faults.MailFault.TheVariants as fault
use Rattle.mailbox_rules.specs.declared.letters.Letter.{Letter}
use Rattle.mailbox_rules.specs.Calls.{After, Call, Refused, Send, Settle, Take, Work, after, calls, sends, settled_thrice, settles, takes, untold_at}
use Rattle.mailbox_rules.specs.Histories.{Turn, first_wanted, placed_letters, sent_letters}
use Rattle.mailbox_rules.specs.Opening.{receiver, receiver_end, sender, sender_end}
use Rattle.mailbox_rules.specs.State.{Channel, Mail, channel, context_at, fresh_channel, is_away, is_sender, or_fresh, with_world}
use Rattle.mailbox_rules.specs.Theorem.{AllIsHere, AllTakenAfterSettling, IsGiven, LeavesNothing, has_no_ended, is_some_end_in_error}
use Rattle.mailbox_rules.specs.Working.{context_of, may_be_done, most_steps, working}
use Rattle.law_mailbox.specs.Delivered.{IsDelivered}
use Rattle.law_mailbox.specs.Flagged.{has_failed}
use Rattle.law_mailbox.specs.Finished.{AllWorkFinishes, FinishedWorkDeliversAll, IsHeldIn, IsWorkSeen, WorkFinishes, line_of}
use Rattle.law_mailbox.specs.Kept.{bodies, body_in, copies, copy_in, dues_of, fetch_in, fetches, free_in, frees, long_letters, sight_of, slot_in, slots, standing}
use Rattle.law_mailbox.specs.Over.{IsWorkOver, StoppedWorkIsOver}
use Rattle.law_mailbox.specs.Settled.{IsAllCopied, IsLive, IsRound, IsWorkedOn}
use Rattle.law_mailbox.specs.Works.{IsKeptLine, Line}
use Rattle.law_mailbox.proofs.settling.Ahead.{works_go_ahead}
use Rattle.law_mailbox.proofs.work.Chains.{to_work}
use Rattle.law_mailbox.proofs.work.Channels.{IsSender, sender_is}
use Rattle.law_mailbox.proofs.queue_room.FewMachines.{failed_as}
use Rattle.law_mailbox.proofs.queue_room.Gaining.{nothing_of_sender}
use Rattle.law_mailbox.proofs.settling.Given.{copied_given, none_full}
use Rattle.law_mailbox.proofs.work.Noting.{no_slots_at_receiver}
use Rattle.law_mailbox.proofs.settling.Opened.{were_sent}
use Rattle.law_mailbox.proofs.connection.Places.{copied_long}
use Rattle.law_mailbox.proofs.work.PollChains.{works_seen}
use Rattle.law_mailbox.proofs.work.Asking.{lives}
use Rattle.law_mailbox.proofs.connection.Sights.{context_there}
use Rattle.law_mailbox.proofs.work.Staged.{is_worked}
use Rattle.law_mailbox.proofs.work.Staying.{settling_moves_none, work_moves_none, works_post_none}
use Rattle.law_mailbox.proofs.settling.Untold.{nothing_untold_at}
use Rattle.law_mailbox.proofs.work.Worked.{context_is}
use Rattle.law_mailbox.proofs.settling.Rounds.{lived, three_rounds, unused}
use Rattle.law_mailbox.proofs.settling.Settling.{LeadsTo, settle_leads}
use Rattle.law_mailbox.proofs.settling.WorldEnds.{none_ended, nothing_untold}

-- ---- what a settling that leaves nothing tells

drop_nothing : {X : Type 0} (n : ℕ) (xs : List X) → drop n xs ≡ [] → length xs ≤ n
drop_nothing n xs e = let none : length (drop n xs) ≡ 0 = ap length e in let long = length-drop n xs in omega (arith, none, long)

module _ (w : World) (m : Machine) (s : Stands w m) (none : unfinished w ≡ []) (o : ObjName) (there : has_end m o ≡ true) where
  all_posted : length (end_of m o).posted ≤ (end_of m o).told
  unfolding owned untold
  all_posted = drop_nothing (end_of m o).told (end_of m o).posted (nothing_untold w m s none o there)

  told_all : (end_of m o).told ≡ length (end_of m o).posted
  told_all = let a = all_posted in let b = (sound_of w m s o there).told_posted in omega (arith, a, b)

  acted_all : (end_of m o).ended ≡ false → (end_of m o).acted ≡ length (end_of m o).posted
  acted_all live =
      let a = all_posted in
      let b = (sound_of w m s o there).told_acted live in
      let d = (sound_of w m s o there).acted_posted in
      omega (arith, a, b, d)

-- ---- flags

channel_is : (P : Channel → Type 0) (cs : List Channel) (k : ℕ) → P fresh_channel → All P cs → P (or_fresh (slice_get cs k))
channel_is P [] k p all = p
channel_is P (c ∷ cs) zero p all = All-head P c cs all
channel_is P (c ∷ cs) (suc k) p all = channel_is P cs k p (All-tail P c cs all)

not_flagged : (a b : Bool) → (not a && not b) ≡ true → a ≡ false
not_flagged true b e = cc
not_flagged false b e = refl

-- ---- rounds

abbrev settled_mail : Mail → Mail
settled_mail m = with_world m (settled m.world).world

-- what holds after a settling and work
abbrev round_mail : Mail → Mail
round_mail m = working (settled_mail m)

calls_are : (m : Mail) (cs : List Call) → after m (Settle ∷ (Work ∷ cs)) ≡ after (round_mail m) cs
unfolding after calls settles
calls_are m cs = refl

no_calls : (m : Mail) → after m [] ≡ m
unfolding after
no_calls m = refl

just_settled : (m : Mail) → after m (Settle ∷ []) ≡ settled_mail m
unfolding after calls settles
just_settled m = refl

one_round : (m : Mail) → after m (Settle ∷ (Work ∷ [])) ≡ round_mail m
one_round m = calls_are m [] ∙ no_calls (round_mail m)

two_rounds : (m : Mail) → after m (Settle ∷ (Work ∷ (Settle ∷ (Work ∷ [])))) ≡ round_mail (round_mail m)
two_rounds m = calls_are m (Settle ∷ (Work ∷ [])) ∙ one_round (round_mail m)

all_rounds : (m : Mail) → after m settled_thrice ≡ round_mail (round_mail (round_mail m))
all_rounds m = calls_are m (Settle ∷ (Work ∷ (Settle ∷ (Work ∷ [])))) ∙ two_rounds (round_mail m)

pub taken_after : (m : Mail) (i : ℕ) (tag : Option ℕ) → calls m (Take i tag) ≡ takes (working m) i tag
unfolding calls
taken_after m i tag = refl

pub sent_after : (m : Mail) (i tag : ℕ) (body : List ℕ) → calls m (Send i tag body) ≡ sends (working m) i (record { tag = tag; body = body })
unfolding calls
sent_after m i tag body = refl

-- what is copied stays so through more work
module _ (i : ℕ) (x y : Line) (h : IsKeptLine i x) (w : IsWorkedOn i x y) (copied : IsAllCopied i x) where
  same_long : length (long_letters y.sent) ≡ length (long_letters x.sent)
  same_long = ap (λ (ls : List Letter). length (long_letters ls)) w.ahead.same_sent

  still_received : y.channel.receives ≡ length y.sent
  still_received =
      let all = copied.receives_all in
      let more = w.ahead.more_receives in
      let same : length y.sent ≡ length x.sent = ap length w.ahead.same_sent in
      let a = w.kept.messages.receives_completed in
      let b = w.kept.sends.acted_within in
      let d = w.kept.sends.posted_within in
      omega (arith, all, more, same, a, b, d)

  still_read : y.channel.reads ≡ length (long_letters y.sent)
  still_read =
      let all = copied.reads_all in
      let more = w.ahead.more_reads in
      let same = same_long in
      let a = w.kept.counts.bodies_posted in
      let b = w.kept.counts.reads_posted in
      let most = copied_long y.channel.receives y.sent in
      omega (arith, all, more, same, a, b, most)

  still_free : slots i x.sight.dues ≡ [] → slots i y.sight.dues ≡ [] → y.channel.slot_in_use ≡ false
  still_free before none =
      let free : ◌≡◌ {A = ℕ} (if x.channel.slot_in_use then 1 else 0) 0 = ap (λ (b : Bool). if b then 1 else 0) (copied.slot_free before) in
      let first : length (slots i x.sight.dues) ≡ 0 = ap length before in
      let last : length (slots i y.sight.dues) ≡ 0 = ap length none in
      let a = h.counts.slot_freed in
      let b = w.kept.counts.slot_freed in
      let same = same_long in
      let more = w.ahead.more_acted in
      let acted = w.kept.counts.acted_within in
      let freed = w.kept.counts.frees_posted in
      let read = still_read in
      unused y.channel.slot_in_use (omega (arith, free, first, last, a, b, same, more, acted, freed, read))

-- ---- work that finishes

-- nothing is due at the receiver
pub record IsReceiverDone (i : ℕ) (ds : List Due) : Type 0 where
  pub copied : copies i ds ≡ []
  pub fetched : fetches i ds ≡ []
  pub filled : bodies i ds ≡ []
  pub freed : frees i ds ≡ []

-- work is seen, and nothing is due any more where a context lives
record IsWorkDone (peers : ℕ) (ts : List Turn) (m : Mail) (machine : Machine) : Type 0 where
  seen : IsWorkSeen peers ts m (working m) machine
  receiver_done : is_away (working m).world 0 ≡ false → (i : ℕ) → 1 ≤ i → i ≤ peers → IsReceiverDone i (sight_of seen.machine' (working m).owed i).dues
  sender_done : (i : ℕ) → 1 ≤ i → i ≤ peers → is_away (working m).world i ≡ false → slots i (sight_of seen.machine' (working m).owed i).dues ≡ []

-- none of these is due in a context that lives
none_due : {Y : Type 0} (f : Due → List Y) (w : World) (n : ℕ) → is_away w n ≡ false → ((d : Due) → context_of d ≢ n → f d ≡ []) → (ds : List Due) → All (λ d. may_be_done w d ≡ false) ds → flat_map f ds ≡ []
none_due f w n home' none [] all = refl
none_due f w n home' none (d ∷ ds) all =
    let waits : may_be_done w d ≡ false = All-head (λ x. may_be_done w x ≡ false) d ds all in
    let apart : context_of d ≢ n = λ same. let no : true ≡ false = sym (ap not (ap (is_away w) same ∙ home')) ∙ waits in cc in
    ap (λ zs. zs ++ flat_map f ds) (none d apart) ∙ none_due f w n home' none ds (All-tail (λ x. may_be_done w x ≡ false) d ds all)

-- .. nor in three lists
three_nil : {Y : Type 0} (f : Due → List Y) (xs ys zs : List Due) → flat_map f xs ≡ [] → flat_map f ys ≡ [] → flat_map f zs ≡ [] → flat_map f (xs ++ (ys ++ zs)) ≡ []
three_nil f xs ys zs a b c =
    flat_map-append f xs (ys ++ zs) ∙ (ap (λ us. us ++ flat_map f (ys ++ zs)) a ∙ (flat_map-append f ys zs ∙ (ap (λ us. us ++ flat_map f zs) b ∙ c)))

no_copy : (i : ℕ) (d : Due) → context_of d ≢ 0 → copy_in i d ≡ []
no_copy i (due.CopyMessage j place length) other = absurd (other refl)
no_copy i (due.Repost j place fetch) other = refl
no_copy i (due.PostRead j f) other = refl
no_copy i (due.CopyBody j length) other = refl
no_copy i (due.PostFree j) other = refl
no_copy i (due.FreeSlot j place) other = refl
no_copy i (due.RepostAtSender j place) other = refl

no_fetch : (i : ℕ) (d : Due) → context_of d ≢ 0 → fetch_in i d ≡ []
no_fetch i (due.CopyMessage j place length) other = refl
no_fetch i (due.Repost j place fetch) other = absurd (other refl)
no_fetch i (due.PostRead j f) other = absurd (other refl)
no_fetch i (due.CopyBody j length) other = refl
no_fetch i (due.PostFree j) other = refl
no_fetch i (due.FreeSlot j place) other = refl
no_fetch i (due.RepostAtSender j place) other = refl

no_body : (i : ℕ) (d : Due) → context_of d ≢ 0 → body_in i d ≡ []
no_body i (due.CopyMessage j place length) other = refl
no_body i (due.Repost j place fetch) other = refl
no_body i (due.PostRead j f) other = refl
no_body i (due.CopyBody j length) other = absurd (other refl)
no_body i (due.PostFree j) other = refl
no_body i (due.FreeSlot j place) other = refl
no_body i (due.RepostAtSender j place) other = refl

no_free : (i : ℕ) (d : Due) → context_of d ≢ 0 → free_in i d ≡ []
no_free i (due.CopyMessage j place length) other = refl
no_free i (due.Repost j place fetch) other = refl
no_free i (due.PostRead j f) other = refl
no_free i (due.CopyBody j length) other = refl
no_free i (due.PostFree j) other = absurd (other refl)
no_free i (due.FreeSlot j place) other = refl
no_free i (due.RepostAtSender j place) other = refl

no_slot : (i : ℕ) (d : Due) → context_of d ≢ i → slot_in i d ≡ []
no_slot i (due.CopyMessage j place length) other = refl
no_slot i (due.Repost j place fetch) other = refl
no_slot i (due.PostRead j f) other = refl
no_slot i (due.CopyBody j length) other = refl
no_slot i (due.PostFree j) other = refl
no_slot i (due.FreeSlot j place) other = rw (ne_eqb j i other) refl
no_slot i (due.RepostAtSender j place) other = refl

-- where work is over nothing is due in a context that lives
module _ (peers : ℕ) (m : Mail) (machine : Machine) (stands : Stands m.world machine) (f : IsWorkOver peers m) where
  receiver_nil : {Y : Type 0} (part : Due → List Y) → ((d : Due) → context_of d ≢ 0 → part d ≡ []) → ((n place : ℕ) → part (due.FreeSlot n place) ≡ []) → is_away m.world 0 ≡ false → (i : ℕ) → 1 ≤ i →
      flat_map part (sight_of machine m.owed i).dues ≡ []
  receiver_nil part none no_slots home' i low =
      let empty : standing machine receiver ≡ [] = f.none_standing machine stands 0 (omega arith) home' in
      three_nil part m.owed (dues_of 0 (standing machine receiver)) (dues_of i (standing machine (sender i))) (none_due part m.world 0 home' none m.owed f.none_owed)
      (ap (λ (xs : List Completion). flat_map part (dues_of 0 xs)) empty) (nothing_of_sender part no_slots i (standing machine (sender i)) low)

  pub receiver_over : is_away m.world 0 ≡ false → (i : ℕ) → 1 ≤ i → IsReceiverDone i (sight_of machine m.owed i).dues
  receiver_over home' i low = record {
    copied = receiver_nil (copy_in i) (no_copy i) (λ n place. refl) home' i low;
    fetched = receiver_nil (fetch_in i) (no_fetch i) (λ n place. refl) home' i low;
    filled = receiver_nil (body_in i) (no_body i) (λ n place. refl) home' i low;
    freed = receiver_nil (free_in i) (no_free i) (λ n place. refl) home' i low;
  }

  pub sender_over : (i : ℕ) → 1 ≤ i → i ≤ peers → is_away m.world i ≡ false → slots i (sight_of machine m.owed i).dues ≡ []
  sender_over i low high home' =
      let empty : standing machine (sender i) ≡ [] = subst (λ (c : Name). standing machine c ≡ []) (context_is i low) (f.none_standing machine stands i high home') in
      three_nil (slot_in i) m.owed (dues_of 0 (standing machine receiver)) (dues_of i (standing machine (sender i))) (none_due (slot_in i) m.world i home' (no_slot i) m.owed f.none_owed)
      (no_slots_at_receiver i (standing machine receiver)) (ap (λ (xs : List Completion). slots i (dues_of i xs)) empty)

finished : (peers : ℕ) (ts : List Turn) (m : Mail) (machine : Machine) → IsWorkSeen peers ts m (working m) machine → IsWorkOver peers (working m) → IsWorkDone peers ts m machine
finished peers ts m machine seen f = record {
  seen = seen;
  receiver_done = λ home' i low high. receiver_over peers (working m) seen.machine' seen.stands f home' i low;
  sender_done = λ i low high home'. sender_over peers (working m) seen.machine' seen.stands f i low high home';
}

working_moves_none : (m : Mail) (n : ℕ) → is_away (working m).world n ≡ is_away m.world n
working_moves_none m n = ap (λ (x : Mail). is_away x.world n) (is_worked m) ∙ work_moves_none most_steps m n

module _ (named : SettlingHasEvents) (follow : (e : WorldEvent) → AlwaysFollows e) (by_name : EventsFollowByName) (over : StoppedWorkIsOver) (peers : ℕ) (positive : 1 ≤ peers) (small : peers ≤ 8) (ts : List Turn) where
  -- ---- work

  work_done : (m : Mail) (machine : Machine) → IsHeldIn peers ts m machine → WorkFinishes m → IsWorkDone peers ts m machine
  work_done m machine h f =
      finished peers ts m machine (subst (λ (x : Mail). IsWorkSeen peers ts m x machine) (sym (is_worked m)) (works_seen by_name peers small ts m machine most_steps h f.room))
      (subst (λ (x : Mail). IsWorkOver peers x) (sym (is_worked m)) (over peers positive small ts m most_steps (to_work peers ts m machine h) f.stops))

  worked_on : (m : Mail) (machine : Machine) (h : IsHeldIn peers ts m machine) (d : IsWorkDone peers ts m machine) (i : ℕ) → 1 ≤ i → i ≤ peers → IsWorkedOn i (line_of machine m ts i) (line_of d.seen.machine' (working m) ts i)
  worked_on m machine h d i low high = works_go_ahead i (line_of machine m ts i) (line_of d.seen.machine' (working m) ts i) (omega (arith, high, small)) (were_sent i ts) (d.seen.works i low high) (h.all.kept i low high) (h.posted i low high)

  work_held : (m : Mail) (machine : Machine) (h : IsHeldIn peers ts m machine) (d : IsWorkDone peers ts m machine) → IsHeldIn peers ts (working m) d.seen.machine'
  work_held m machine h d = record {
    stands = d.seen.stands;
    senders = d.seen.senders ∙ h.senders;
    all = record { opened = d.seen.opened; joined = d.seen.joined; kept = λ i low high. (worked_on m machine h d i low high).kept; dues = d.seen.dues };
    posted = λ i low high. (worked_on m machine h d i low high).posted;
  }

  -- ---- one round

  record IsRounded (m : Mail) (machine : Machine) : Type 0 where
    first : LeadsTo peers ts m (settled_mail m) machine
    done : IsWorkDone peers ts (settled_mail m) first.machine'

  module _ (m : Mail) (machine : Machine) (r : IsRounded m machine) where
    abbrev before : ℕ → Line
    before i = line_of machine m ts i

    abbrev between : ℕ → Line
    between i = line_of r.first.machine' (settled_mail m) ts i

    abbrev behind : ℕ → Line
    behind i = line_of r.done.seen.machine' (round_mail m) ts i

    round_held : IsHeldIn peers ts (round_mail m) r.done.seen.machine'
    round_held = work_held (settled_mail m) r.first.machine' r.first.held r.done

    round_moves_none : (n : ℕ) → is_away (round_mail m).world n ≡ is_away m.world n
    round_moves_none n = working_moves_none (settled_mail m) n ∙ settling_moves_none m.world n

    is_round : unfinished (settled m.world).world ≡ [] → is_away (round_mail m).world 0 ≡ false → (i : ℕ) → 1 ≤ i → i ≤ peers → IsLive (behind i) → IsRound i (before i) (between i) (behind i)
    is_round none home' i low high live =
        let worked = worked_on (settled_mail m) r.first.machine' r.first.held r.done i low high in
        let done : IsReceiverDone i (behind i).sight.dues = r.done.receiver_done home' i low high in
        let opened = r.first.held.all.opened i low high in
        record {
          settled = r.first.ahead i low high;
          kept = r.first.held.all.kept i low high;
          sends_told = acted_all (settled m.world).world r.first.machine' r.first.held.stands none (sender_end i) opened.sender_there (worked.ahead.sender_lived live.sender_lives);
          all_told = told_all (settled m.world).world r.first.machine' r.first.held.stands none (receiver_end i) opened.receiver_there;
          worked = worked;
          copied = done.copied;
          fetched = done.fetched;
          filled = done.filled;
          freed = done.freed;
        }

  round_of : (m : Mail) (machine : Machine) → IsHeldIn peers ts m machine → WorkFinishes (settled_mail m) → IsRounded m machine
  round_of m machine h finishes =
      let first : LeadsTo peers ts m (settled_mail m) machine = settle_leads peers follow ts named m machine h in
      record { first = first; done = work_done (settled_mail m) first.machine' first.held finishes }

  -- ---- three rounds, and more work

  module _ (m : Mail) (machine : Machine) (h : IsHeldIn peers ts m machine) (first_left : unfinished (settled m.world).world ≡ []) (second_left : unfinished (settled (round_mail m).world).world ≡ [])
      (third_left : unfinished (settled (round_mail (round_mail m)).world).world ≡ []) (home' : is_away (round_mail (round_mail (round_mail m))).world 0 ≡ false)
      (finishes1 : WorkFinishes (settled_mail m)) (finishes2 : WorkFinishes (settled_mail (round_mail m))) (finishes3 : WorkFinishes (settled_mail (round_mail (round_mail m)))) (finishes4 : WorkFinishes (round_mail (round_mail (round_mail m)))) where
    abbrev m1 : Mail
    m1 = round_mail m

    abbrev m2 : Mail
    m2 = round_mail (round_mail m)

    abbrev m3 : Mail
    m3 = round_mail (round_mail (round_mail m))

    r1 : IsRounded m machine
    r1 = round_of m machine h finishes1

    held1 : IsHeldIn peers ts m1 r1.done.seen.machine'
    held1 = round_held m machine r1

    r2 : IsRounded m1 r1.done.seen.machine'
    r2 = round_of m1 r1.done.seen.machine' held1 finishes2

    held2 : IsHeldIn peers ts m2 r2.done.seen.machine'
    held2 = round_held m1 r1.done.seen.machine' r2

    r3 : IsRounded m2 r2.done.seen.machine'
    r3 = round_of m2 r2.done.seen.machine' held2 finishes3

    held3 : IsHeldIn peers ts m3 r3.done.seen.machine'
    held3 = round_held m2 r2.done.seen.machine' r3

    home2 : is_away m2.world 0 ≡ false
    home2 = sym (round_moves_none m2 r2.done.seen.machine' r3 0) ∙ home'

    home1 : is_away m1.world 0 ≡ false
    home1 = sym (round_moves_none m1 r1.done.seen.machine' r2 0) ∙ home2

    d4 : IsWorkDone peers ts m3 r3.done.seen.machine'
    d4 = work_done m3 r3.done.seen.machine' held3 finishes4

    held4 : IsHeldIn peers ts (working m3) d4.seen.machine'
    held4 = work_held m3 r3.done.seen.machine' held3 d4

    -- connection i lives, where its ends are not in Error and do not count as ended
    live_at : (i : ℕ) → 1 ≤ i → i ≤ peers → has_failed m3.world (sender_end i) ≡ false → has_failed m3.world (receiver_end i) ≡ false → (channel m3 i).receiver_ended ≡ false → IsLive (line_of r3.done.seen.machine' m3 ts i)
    live_at i low high sender_fine receiver_fine unset =
        let opened = held3.all.opened i low high in
        record {
          sender_lives = failed_as m3.world r3.done.seen.machine' r3.done.seen.machine' held3.stands held3.stands (sender_end i) opened.sender_there ∙ sender_fine;
          receiver_lives = failed_as m3.world r3.done.seen.machine' r3.done.seen.machine' held3.stands held3.stands (receiver_end i) opened.receiver_there ∙ receiver_fine;
          unflagged = unset;
        }

    copied3 : (i : ℕ) → 1 ≤ i → i ≤ peers → IsLive (line_of r3.done.seen.machine' m3 ts i) → IsAllCopied i (line_of r3.done.seen.machine' m3 ts i)
    copied3 i low high live =
        let x0 : Line = line_of machine m ts i in
        let x1 : Line = line_of r1.done.seen.machine' m1 ts i in
        let x2 : Line = line_of r2.done.seen.machine' m2 ts i in
        let x3 : Line = line_of r3.done.seen.machine' m3 ts i in
        let a1 : Line = line_of r1.first.machine' (settled_mail m) ts i in
        let a2 : Line = line_of r2.first.machine' (settled_mail m1) ts i in
        let a3 : Line = line_of r3.first.machine' (settled_mail m2) ts i in
        let third = is_round m2 r2.done.seen.machine' r3 third_left home' i low high live in
        let live2 = lived i x2 a3 x3 third live in
        let second = is_round m1 r1.done.seen.machine' r2 second_left home2 i low high live2 in
        let live1 = lived i x1 a2 x2 second live2 in
        let first = is_round m machine r1 first_left home1 i low high live1 in
        three_rounds i x0 a1 x1 a2 x2 a3 x3 first second third live

    worked4 : (i : ℕ) → 1 ≤ i → i ≤ peers → IsWorkedOn i (line_of r3.done.seen.machine' m3 ts i) (line_of d4.seen.machine' (working m3) ts i)
    worked4 i low high = worked_on m3 r3.done.seen.machine' held3 d4 i low high

    -- all requests of a sender are told, since work posts none
    told4 : (i : ℕ) → 1 ≤ i → i ≤ peers → (end_of d4.seen.machine' (sender_end i)).told ≡ length (end_of d4.seen.machine' (sender_end i)).posted
    told4 i low high =
        let opened = r3.first.held.all.opened i low high in
        let told = told_all (settled m2.world).world r3.first.machine' r3.first.held.stands third_left (sender_end i) opened.sender_there in
        let third = works_post_none i (line_of r3.first.machine' (settled_mail m2) ts i) (r3.done.seen.works i low high) in
        let last = works_post_none i (line_of r3.done.seen.machine' m3 ts i) (d4.seen.works i low high) in
        last.told ∙ (third.told ∙ (told ∙ sym (ap length (last.posted ∙ third.posted))))

    has_context_at : (i : ℕ) → 1 ≤ i → i ≤ peers → has_context d4.seen.machine' (context_at i) ≡ true
    has_context_at i low high = subst (λ (c : Name). has_context d4.seen.machine' c ≡ true) (sym (context_is i low)) (context_there d4.seen.machine' (sender_end i) (held4.all.opened i low high).sender_there)

    -- numbers of senders
    among : (i : ℕ) → is_sender (working m3) i ≡ true → (1 ≤ i) × (i ≤ peers)
    among i there = let s : IsSender (working m3) i = sender_is (working m3) i there in (s.from_one, subst (λ (n : ℕ). i ≤ n) held4.senders s.within)

    still_there : (i : ℕ) → is_sender m3 i ≡ true → is_sender (working m3) i ≡ true
    still_there i there = ap (λ (n : ℕ). nat_le 1 i && nat_le i n) (held4.senders ∙ sym held3.senders) ∙ there

    -- ---- of a connection that lives

    module _ (i : ℕ) (low : 1 ≤ i) (high : i ≤ peers) (live : IsLive (line_of r3.done.seen.machine' m3 ts i)) where
      abbrev x : Line
      x = line_of r3.done.seen.machine' m3 ts i

      abbrev y : Line
      y = line_of d4.seen.machine' (working m3) ts i

      given_of : (tag : Option ℕ) → is_sender m3 i ≡ true → IsGiven (first_wanted tag (placed_letters i ts)) (calls m3 (Take i tag)).reply
      given_of tag there =
          let kept3 = held3.all.kept i low high in
          subst (λ (a : After). IsGiven (first_wanted tag (placed_letters i ts)) a.reply) (sym (taken_after m3 i tag))
          (copied_given (working m3) i (sent_letters i ts) (placed_letters i ts) tag (still_there i there) (were_sent i ts) (held4.all.kept i low high).arrived
          (still_received i x y kept3 (worked4 i low high) (copied3 i low high live)) (still_read i x y kept3 (worked4 i low high) (copied3 i low high live)))

      -- a sender that lives has room
      room_of : is_away (working m3).world i ≡ false → (untold_at (working m3).world i ≡ 0) × ((channel (working m3) i).slot_in_use ≡ false)
      room_of live4 =
          let live3 : is_away m3.world i ≡ false = sym (working_moves_none m3 i) ∙ live4 in (
            nothing_untold_at peers (working m3).world d4.seen.machine' held4.stands held4.all.joined i (told4 i low high)
                (subst (λ (c : Name). is_live (working m3).world c ≡ true) (context_is i low) (lives (working m3).world d4.seen.machine' i held4.stands (has_context_at i low high) live4)),
            still_free i x y (held3.all.kept i low high) (worked4 i low high) (copied3 i low high live) (r3.done.sender_done i low high live3) (d4.sender_done i low high live4),
          )

    -- where those of a sender that is known live, none is refused as Full
    room_at : (i tag : ℕ) (body : List ℕ) → ((low : 1 ≤ i) (high : i ≤ peers) → IsLive (line_of r3.done.seen.machine' m3 ts i)) → (calls m3 (Send i tag body)).reply ≡ Refused fault.Full → ⊥
    room_at i tag body live refused =
        none_full (working m3) i (record { tag = tag; body = body }) (λ there4 live4. let range = among i there4 in room_of i range.0 range.1 (live range.0 range.1) live4)
        (ap (λ (a : After). a.reply) (sym (sent_after m3 i tag body)) ∙ refused)

    here_of : (i : ℕ) → 1 ≤ i → i ≤ peers → IsLive (line_of r3.done.seen.machine' m3 ts i) → IsDelivered m3 ts i
    here_of i low high live = record { given = λ tag there. given_of i low high live tag there; room = λ tag body refused. room_at i tag body (λ a b. live) refused }

    -- ---- of all

    module _ (none_in_error : is_some_end_in_error m3.world ≡ false) (unflagged : All (λ c. has_no_ended c ≡ true) m3.channels) where
      live3 : (i : ℕ) → 1 ≤ i → i ≤ peers → IsLive (line_of r3.done.seen.machine' m3 ts i)
      live3 i low high =
          let opened = held3.all.opened i low high in
          let flags : has_no_ended (channel m3 i) ≡ true = channel_is (λ c. has_no_ended c ≡ true) m3.channels (i - 1) refl unflagged in
          record {
            sender_lives = none_ended m3.world r3.done.seen.machine' held3.stands none_in_error (sender_end i) opened.sender_there;
            receiver_lives = none_ended m3.world r3.done.seen.machine' held3.stands none_in_error (receiver_end i) opened.receiver_there;
            unflagged = not_flagged (channel m3 i).receiver_ended (channel m3 i).sender_ended flags;
          }

      all_here : AllIsHere m3 ts
      all_here = record {
        given = λ i tag there. let range = among i (still_there i there) in given_of i range.0 range.1 (live3 i range.0 range.1) tag there;
        room = λ i tag body refused. room_at i tag body (live3 i) refused;
      }

  all_taken : (m : Mail) (machine : Machine) → IsHeldIn peers ts m machine → AllWorkFinishes m → AllTakenAfterSettling m ts
  all_taken m machine h finishes calm =
      let second : LeavesNothing (round_mail m) = subst LeavesNothing (one_round m) calm.second in
      let third : LeavesNothing (round_mail (round_mail m)) = subst LeavesNothing (two_rounds m) calm.third in
      subst (λ (n : Mail). AllIsHere n ts) (sym (all_rounds m))
      (all_here m machine h calm.first second third
      (subst (λ (n : Mail). is_away n.world 0 ≡ false) (all_rounds m) calm.receiver_lives)
      (subst WorkFinishes (just_settled m) finishes.first)
      (subst WorkFinishes (calls_are m (Settle ∷ []) ∙ just_settled (round_mail m)) finishes.second)
      (subst WorkFinishes (calls_are m (Settle ∷ (Work ∷ (Settle ∷ []))) ∙ (calls_are (round_mail m) (Settle ∷ []) ∙ just_settled (round_mail (round_mail m)))) finishes.third)
      (subst WorkFinishes (all_rounds m) finishes.last)
      (subst (λ (n : Mail). is_some_end_in_error n.world ≡ false) (all_rounds m) calm.none_in_error)
      (subst (λ (n : Mail). All (λ c. has_no_ended c ≡ true) n.channels) (all_rounds m) calm.none_ended))

  -- the letters of sender i alone
  pub delivered_of : (m : Mail) (machine : Machine) → IsHeldIn peers ts m machine → AllWorkFinishes m → LeavesNothing m → LeavesNothing (after m (Settle ∷ Work ∷ [])) → LeavesNothing (after m (Settle ∷ Work ∷ Settle ∷ Work ∷ [])) → is_away (after m settled_thrice).world 0 ≡ false →
      (i : ℕ) → 1 ≤ i → i ≤ peers → has_failed (after m settled_thrice).world (sender_end i) ≡ false → has_failed (after m settled_thrice).world (receiver_end i) ≡ false → (channel (after m settled_thrice) i).receiver_ended ≡ false → IsDelivered (after m settled_thrice) ts i
  delivered_of m machine h finishes first second third home i low high sender_fine receiver_fine unset =
      let second' : LeavesNothing (round_mail m) = subst LeavesNothing (one_round m) second in
      let third' : LeavesNothing (round_mail (round_mail m)) = subst LeavesNothing (two_rounds m) third in
      let home' : is_away (round_mail (round_mail (round_mail m))).world 0 ≡ false = subst (λ (n : Mail). is_away n.world 0 ≡ false) (all_rounds m) home in
      let f1 : WorkFinishes (settled_mail m) = subst WorkFinishes (just_settled m) finishes.first in
      let f2 : WorkFinishes (settled_mail (round_mail m)) = subst WorkFinishes (calls_are m (Settle ∷ []) ∙ just_settled (round_mail m)) finishes.second in
      let f3 : WorkFinishes (settled_mail (round_mail (round_mail m))) = subst WorkFinishes (calls_are m (Settle ∷ (Work ∷ (Settle ∷ []))) ∙ (calls_are (round_mail m) (Settle ∷ []) ∙ just_settled (round_mail (round_mail m)))) finishes.third in
      let f4 : WorkFinishes (round_mail (round_mail (round_mail m))) = subst WorkFinishes (all_rounds m) finishes.last in
      subst (λ (n : Mail). IsDelivered n ts i) (sym (all_rounds m))
      (here_of m machine h first second' third' home' f1 f2 f3 f4 i low high
      (live_at m machine h first second' third' home' f1 f2 f3 f4 i low high (subst (λ (n : Mail). has_failed n.world (sender_end i) ≡ false) (all_rounds m) sender_fine)
      (subst (λ (n : Mail). has_failed n.world (receiver_end i) ≡ false) (all_rounds m) receiver_fine) (subst (λ (n : Mail). (channel n i).receiver_ended ≡ false) (all_rounds m) unset)))

pub finished_work_delivers : SettlingHasEvents → ((e : WorldEvent) → AlwaysFollows e) → EventsFollowByName → StoppedWorkIsOver → FinishedWorkDeliversAll
finished_work_delivers named follow by_name over peers positive small ts m machine h finishes = all_taken named follow by_name over peers positive small ts m machine h finishes
