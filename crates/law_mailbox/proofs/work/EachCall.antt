-- What events of the network, steps of work, and letters that are taken, stored and sent keep is kept by each call, also by one that is
-- cut off.
use Rattle.std.proofs.Common.{◌≡◌, ℕ, List, [], ◌∷◌, ◌++◌, true, false, Bool, refl, sym, subst, Some, None, Option, append-nil}
use Rattle.std.specs.Prelude.{All, if◌then◌else◌}
use Rattle.std.proofs.lemmas.List.Elements.{All-head, All-tail, All-weaker}
use Rattle.protocol.specs.declared.events.Event.{Event}
use Rattle.protocol.specs.declared.events.Event.TheVariants as event
use Rattle.protocol.specs.declared.events.WorldEvent.{WorldEvent}
use Rattle.protocol.specs.declared.events.WorldEvent.TheVariants as world_event
use Rattle.protocol.specs.Settle.{settled}
use Rattle.protocol.specs.State.{World}
use Rattle.protocol.specs.WorldStep.{world_after, world_step}
use Rattle.law_settling.specs.Events.{settling_events}
use Rattle.law_settling.specs.Settling.{IsSettling, IsTurn, SettlingHasEvents}
use Rattle.mailbox_rules.specs.declared.faults.MailFault.{MailFault}
use Rattle.mailbox_rules.specs.declared.faults.MailFault.TheVariants as fault
use Rattle.mailbox_rules.specs.declared.letters.Letter.{Letter}
use Rattle.mailbox_rules.specs.Calls.{Answers, Call, Gives, IsWorked, Network, Refused, Reply, Send, Settle, Take, Work, answers_by, by_fault, calls, is_of_network, is_turn, networks, posts_letter, quiet_by, send_fault, sends, settles, takes}
use Rattle.mailbox_rules.specs.Histories.{Placed, Turn, opened_by, sent_by}
use Rattle.mailbox_rules.specs.State.{Mail, with_world}
use Rattle.mailbox_rules.specs.Theorem.{MayBeCalled}
use Rattle.mailbox_rules.specs.Wanting.{IsCut, IsPartlyStored, IsWorkCut, NetworkCut, SendCut, SendWorkCut, SettleCut, TakeCut, WorkCut}
use Rattle.mailbox_rules.specs.Working.{begun, most_steps, worked, working}
use Rattle.law_mailbox.specs.Held.{MayBeSent}
use Rattle.law_mailbox.proofs.connection.Places.{all_front}
use Rattle.law_mailbox.proofs.work.Staged.{is_worked}

-- ---- events of a settling are of the network

turn_of_network : (e : Event) → IsTurn e → is_turn e ≡ true
turn_of_network (event.Transmit o) h = refl
turn_of_network (event.Expire o) h = refl
turn_of_network (event.RnrOver o) h = refl
turn_of_network e h = absurd h

pub settling_of_network : (e : WorldEvent) → IsSettling e → is_of_network e ≡ true
settling_of_network (world_event.Deliver k) h = refl
settling_of_network (world_event.At e) h = turn_of_network e h
settling_of_network e h = absurd h

-- ---- turns that send and give no letter

pub record IsIdle (c : Call) (r : Reply) : Type 0 where
  pub none : (i : ℕ) → sent_by i c r ≡ []
  pub same : (i count : ℕ) (open' : List Placed) → opened_by i c r count open' ≡ open'

pub refused_idle : (c : Call) (f : MailFault) → IsIdle c (Refused f)
refused_idle (Send from tag body) f = record { none = λ i. refl; same = λ i count open'. refl }
refused_idle (Take from tag) f = record { none = λ i. refl; same = λ i count open'. refl }
refused_idle Work f = record { none = λ i. refl; same = λ i count open'. refl }
refused_idle (Network e) f = record { none = λ i. refl; same = λ i count open'. refl }
refused_idle Settle f = record { none = λ i. refl; same = λ i count open'. refl }

pub none_idle : (from : ℕ) (tag : Option ℕ) → IsIdle (Take from tag) (Gives None)
none_idle from tag = record { none = λ i. refl; same = λ i count open'. refl }

pub work_idle : (r : Reply) → IsIdle Work r
work_idle r = record { none = λ i. refl; same = λ i count open'. refl }

pub network_idle : (e : WorldEvent) (r : Reply) → IsIdle (Network e) r
network_idle e r = record { none = λ i. refl; same = λ i count open'. refl }

pub settle_idle : (r : Reply) → IsIdle Settle r
settle_idle r = record { none = λ i. refl; same = λ i count open'. refl }

-- ---- what is kept

-- a call and its answer behind other turns
abbrev pub and_then : List Turn → Call → Reply → List Turn
and_then ts c r = ts ++ record { call = c; reply = r } ∷ []

-- Holds is what is kept, and Needs is what is true too before each call
module _ (Holds Needs : List Turn → Mail → Type 0) (events : (ts : List Turn) (m : Mail) (e : WorldEvent) → is_of_network e ≡ true → Holds ts m → Holds ts (with_world m (world_step m.world e).world))
    (works : (ts : List Turn) (m : Mail) (n : ℕ) → Needs ts m → Holds ts m → Holds ts (worked n (begun m)).mail) (idle : (ts : List Turn) (m : Mail) (c : Call) (r : Reply) → IsIdle c r → Holds ts m → Holds (and_then ts c r) m)
    (taken : (ts : List Turn) (m : Mail) (i : ℕ) (tag : Option ℕ) → Holds ts m → Holds (and_then ts (Take i tag) (takes m i tag).reply) (takes m i tag).mail)
    (stored : (ts : List Turn) (m : Mail) (i : ℕ) (l : Letter) (m' : Mail) → MayBeSent l → send_fault (working m) i l.body ≡ None → IsPartlyStored (working m) i l m' → Needs ts m → Holds ts m → Holds ts (working m) → Holds ts m')
    (sent : (ts : List Turn) (m : Mail) (i : ℕ) (l : Letter) → MayBeSent l → send_fault (working m) i l.body ≡ None → Needs ts m → Holds ts m → Holds ts (working m) → Holds (and_then ts (Send i l.tag l.body) (posts_letter (working m) i l).reply) (posts_letter (working m) i l).mail)
    (named : SettlingHasEvents) where
  -- ---- work and events

  after_work : (ts : List Turn) (m : Mail) → Needs ts m → Holds ts m → Holds ts (working m)
  after_work ts m n h = subst (λ (x : Mail). Holds ts x) (sym (is_worked m)) (works ts m most_steps n h)

  after_events : (ts : List Turn) (m : Mail) (es : List WorldEvent) → All (λ e. is_of_network e ≡ true) es → Holds ts m → Holds ts (with_world m (world_after m.world es))
  unfolding world_after
  after_events ts m [] net h = h
  after_events ts m (e ∷ es) net h =
      after_events ts (with_world m (world_step m.world e).world) es (All-tail (λ x. is_of_network x ≡ true) e es net) (events ts m e (All-head (λ x. is_of_network x ≡ true) e es net) h)

  settled_to : (ts : List Turn) (m : Mail) (es rest : List WorldEvent) → settling_events m.world ≡ es ++ rest → Holds ts m → Holds ts (with_world m (world_after m.world es))
  settled_to ts m es rest are h =
      let each : All IsSettling (es ++ rest) = subst (λ (xs : List WorldEvent). All IsSettling xs) are (named m.world).each in
      after_events ts m es (All-weaker IsSettling (λ e. is_of_network e ≡ true) settling_of_network es (all_front IsSettling es rest each)) h

  after_settling : (ts : List Turn) (m : Mail) → Holds ts m → Holds ts (with_world m (settled m.world).world)
  after_settling ts m h = subst (λ (w : World). Holds ts (with_world m w)) (named m.world).after (settled_to ts m (settling_events m.world) [] (sym (append-nil (settling_events m.world))) h)

  -- ---- each call

  after_send : (ts : List Turn) (m : Mail) (i : ℕ) (l : Letter) → MayBeSent l → Needs ts m → Holds ts m → (x : Option MailFault) → send_fault (working m) i l.body ≡ x →
      Holds (and_then ts (Send i l.tag l.body) (by_fault (working m) x (posts_letter (working m) i l)).reply) (by_fault (working m) x (posts_letter (working m) i l)).mail
  after_send ts m i l may n h (Some why) e = idle ts (working m) (Send i l.tag l.body) (Refused why) (refused_idle (Send i l.tag l.body) why) (after_work ts m n h)
  after_send ts m i l may n h None e = sent ts m i l may e n h (after_work ts m n h)

  after_network : (ts : List Turn) (m : Mail) (e : WorldEvent) → Holds ts m → (b : Bool) → is_of_network e ≡ b →
      Holds (and_then ts (Network e) (by_fault m (if b then None else Some fault.NotNetwork) (answers_by m (world_step m.world e))).reply) (by_fault m (if b then None else Some fault.NotNetwork) (answers_by m (world_step m.world e))).mail
  after_network ts m e h true net = idle ts (with_world m (world_step m.world e).world) (Network e) (Answers (world_step m.world e).answer) (network_idle e (Answers (world_step m.world e).answer)) (events ts m e net h)
  after_network ts m e h false net = idle ts m (Network e) (Refused fault.NotNetwork) (refused_idle (Network e) fault.NotNetwork) h

  pub after_call : (ts : List Turn) (m : Mail) (c : Call) → MayBeCalled c → Needs ts m → Holds ts m → Holds (and_then ts c (calls m c).reply) (calls m c).mail
  unfolding calls networks sends settles
  after_call ts m (Send from tag body) may n h = after_send ts m from (record { tag = tag; body = body }) (record { tag_fits = may.0; bytes = may.1 }) n h (send_fault (working m) from body) refl
  after_call ts m (Take from tag) may n h = taken ts (working m) from tag (after_work ts m n h)
  after_call ts m Work may n h = idle ts (working m) Work IsWorked (work_idle IsWorked) (after_work ts m n h)
  after_call ts m (Network e) may n h = after_network ts m e h (is_of_network e) refl
  after_call ts m Settle may n h = idle ts (with_world m (settled m.world).world) Settle (quiet_by m (settled m.world)).reply (settle_idle (quiet_by m (settled m.world)).reply) (after_settling ts m h)

  -- ---- calls that ran out of memory

  work_cut : (ts : List Turn) (m m' : Mail) → IsWorkCut m m' → Needs ts m → Holds ts m → Holds ts m'
  work_cut ts m m' cut n h = subst (λ (x : Mail). Holds ts x) (sym cut.after) (works ts m cut.steps n h)

  pub after_cut : (ts : List Turn) (m : Mail) {c : Call} {m' : Mail} → IsCut m c m' → MayBeCalled c → Needs ts m → Holds ts m → Holds ts m'
  after_cut ts m {m' = m'} (SendWorkCut cut) may n h = work_cut ts m m' cut n h
  after_cut ts m {m' = m'} (SendCut {from = from} {tag = tag} {body = body} cut) may n h =
      stored ts m from (record { tag = tag; body = body }) m' (record { tag_fits = may.0; bytes = may.1 }) cut.may cut.stored n h (after_work ts m n h)
  after_cut ts m {m' = m'} (TakeCut cut) may n h = work_cut ts m m' cut n h
  after_cut ts m {m' = m'} (WorkCut cut) may n h = work_cut ts m m' cut n h
  after_cut ts m NetworkCut may n h = h
  after_cut ts m {m' = m'} (SettleCut cut) may n h = subst (λ (x : Mail). Holds ts x) (sym cut.after) (settled_to ts m cut.made cut.rest cut.are h)
