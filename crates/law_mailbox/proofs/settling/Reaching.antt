-- All is held and posted after any calls, where work finds room.
use Rattle.std.proofs.Common.{◌≡◌, ℕ, ◌≤◌, List, [], ◌∷◌, ◌++◌, sym, None, Option, append-nil}
use Rattle.law_settling.specs.Settling.{SettlingHasEvents}
use Rattle.law_simulation.specs.Named.{EventsFollowByName}
use Rattle.mailbox_rules.specs.declared.letters.Letter.{Letter}
use Rattle.mailbox_rules.specs.Calls.{Call, Reply, Send, Settle, Take, Work, after, calls, posts_letter, send_fault, settled_thrice, takes}
use Rattle.mailbox_rules.specs.Histories.{Turn, sent_by, sent_letters}
use Rattle.mailbox_rules.specs.State.{Mail, made}
use Rattle.mailbox_rules.specs.Theorem.{Begins, IsReached, MayBeCalled, Replied, WasCut}
use Rattle.mailbox_rules.specs.Wanting.{IsPartlyStored}
use Rattle.mailbox_rules.specs.Working.{working}
use Rattle.law_mailbox.specs.Finished.{AllWorkFinishes, BeginsSo, EventsKeepSo, FinishedWorkDeliversAll, IsHeldOn, WorkFinishes, WorksKeepSo}
use Rattle.law_mailbox.specs.Held.{IsAllKept, IsHeld, MayBeSent}
use Rattle.law_mailbox.specs.Over.{SendsAreAnsweredAfterWork}
use Rattle.law_mailbox.specs.Ready.{IsReadyMail}
use Rattle.law_mailbox.specs.Reached.{AllIsPosted, IsPostedThrough, LettersAreHereAfterSettling, LettersAreKeptWhereWorkFindsRoom, WorkFindsRoom}
use Rattle.law_mailbox.specs.Stops.{WorkStopsInTime}
use Rattle.law_mailbox.specs.Whole.{AllIsKept, LettersAreTakenWhole}
use Rattle.law_mailbox.proofs.work.Chains.{to_work}
use Rattle.law_mailbox.proofs.work.EachCall.{IsIdle, after_call, after_cut, and_then}
use Rattle.law_mailbox.proofs.opening.Furnishing.{queues_short}
use Rattle.law_mailbox.proofs.work.Held.{idle_as, take_as}
use Rattle.law_mailbox.proofs.settling.Opened.{sent_more}
use Rattle.law_mailbox.proofs.work.PostedAs.{IsHeldAs, held_on}
use Rattle.law_mailbox.proofs.work.Sent.{sent_held_as}
use Rattle.law_mailbox.proofs.work.Staged.{may_send, stored_as}

abbrev held_of : (peers : ℕ) (ts : List Turn) (m : Mail) → IsHeldOn peers ts m → IsHeld peers ts m
held_of peers ts m o = to_work peers ts m o.machine o.held

-- ---- work finishes where it finds room

finishes : WorkStopsInTime → (peers : ℕ) → 1 ≤ peers → peers ≤ 8 → WorkFindsRoom peers → (ts : List Turn) (m : Mail) → IsReached (made peers) ts m → IsHeldOn peers ts m → IsReadyMail peers m → WorkFinishes m
finishes stops peers low small room ts m r o ready = record { room = room ts m r o ready; stops = stops peers low small ts m (held_of peers ts m o) ready.little (queues_short peers m ready.furnished) }

-- ---- one turn more

turn_on : (peers : ℕ) (ts : List Turn) (m m' : Mail) (c : Call) (r : Reply) (o : IsHeldOn peers ts m) → IsHeldAs peers (ts ++ record { call = c; reply = r } ∷ []) m m' o.machine → IsHeldOn peers (ts ++ record { call = c; reply = r } ∷ []) m'
turn_on peers ts m m' c r o a = let t : Turn = record { call = c; reply = r } in held_on peers ts (ts ++ t ∷ []) m m' o.machine (λ q. sent_by q c r) (λ q. sent_more q ts t) o.held a

idle_on : (peers : ℕ) (ts : List Turn) (m : Mail) (c : Call) (r : Reply) → IsIdle c r → IsHeldOn peers ts m → IsHeldOn peers (ts ++ record { call = c; reply = r } ∷ []) m
idle_on peers ts m c r idle o = turn_on peers ts m m c r o (idle_as peers ts m c r idle (held_of peers ts m o))

-- ---- any calls

module _ (begins : BeginsSo) (events : EventsKeepSo) (works : WorksKeepSo) (answered : SendsAreAnsweredAfterWork) (keeps : AllIsKept) (by_name : EventsFollowByName) (named : SettlingHasEvents) (stops : WorkStopsInTime) (peers : ℕ) (low : 1 ≤ peers) (small : peers ≤ 8) where
  keep : IsAllKept peers (IsReadyMail peers)
  keep = keeps peers low small

  -- what is true before each call
  abbrev Needs : List Turn → Mail → Type 0
  Needs ts m = IsReadyMail peers m × WorkFinishes m

  taken_on : (ts : List Turn) (m : Mail) (i : ℕ) (tag : Option ℕ) → IsHeldOn peers ts m → IsHeldOn peers (and_then ts (Take i tag) (takes m i tag).reply) (takes m i tag).mail
  taken_on ts m i tag o = turn_on peers ts m (takes m i tag).mail (Take i tag) (takes m i tag).reply o (take_as peers ts m i tag (held_of peers ts m o))

  stored_on : (ts : List Turn) (m : Mail) (i : ℕ) (l : Letter) (m' : Mail) → MayBeSent l → send_fault (working m) i l.body ≡ None → IsPartlyStored (working m) i l m' → Needs ts m → IsHeldOn peers ts m → IsHeldOn peers ts (working m) → IsHeldOn peers ts m'
  stored_on ts m i l m' may e part n o w =
      held_on peers ts ts (working m) m' w.machine (λ q. []) (λ q. sym (append-nil (sent_letters q ts))) w.held (stored_as by_name peers small ts (working m) i l may (held_of peers ts (working m) w) (may_send (working m) i l.body e) part)

  worked_ready : (ts : List Turn) (m : Mail) → IsHeld peers ts m → IsReadyMail peers m → IsReadyMail peers (working m)
  unfolding calls
  worked_ready ts m h f = keep.also_called ts m Work tt h f

  sent_on : (ts : List Turn) (m : Mail) (i : ℕ) (l : Letter) → MayBeSent l → send_fault (working m) i l.body ≡ None → Needs ts m → IsHeldOn peers ts m → IsHeldOn peers ts (working m) →
      IsHeldOn peers (and_then ts (Send i l.tag l.body) (posts_letter (working m) i l).reply) (posts_letter (working m) i l).mail
  sent_on ts m i l may e n o w =
      let h : IsHeld peers ts m = held_of peers ts m o in
      turn_on peers ts (working m) (posts_letter (working m) i l).mail (Send i l.tag l.body) (posts_letter (working m) i l).reply w
      (sent_held_as by_name peers small ts (working m) (held_of peers ts (working m) w) i l may (may_send (working m) i l.body e) (answered peers low small ts m i l may h (worked_ready ts m h n.0).furnished n.1.stops e))

  module _ (room : WorkFindsRoom peers) where
    reached_on : {ts : List Turn} {m : Mail} → IsReached (made peers) ts m → IsPostedThrough peers ts m
    reached_on Begins = record { held = begins peers low small; ready = keep.also_begins }
    reached_on (Replied {ts = ts} {m = m} c may r) =
        let b = reached_on r in
        record {
          held = after_call (IsHeldOn peers) Needs (events peers) (λ us x n f. works peers small us x n f.1.room) (idle_on peers) taken_on stored_on sent_on named ts m c may (b.ready, finishes stops peers low small room ts m r b.held b.ready) b.held;
          ready = keep.also_called ts m c may (held_of peers ts m b.held) b.ready;
        }
    reached_on (WasCut {ts = ts} {m = m} {m' = m'} c may r cut) =
        let b = reached_on r in
        record {
          held = after_cut (IsHeldOn peers) Needs (events peers) (λ us x n f. works peers small us x n f.1.room) (idle_on peers) taken_on stored_on sent_on named ts m cut may (b.ready, finishes stops peers low small room ts m r b.held b.ready) b.held;
          ready = keep.also_cut ts m c m' cut may (held_of peers ts m b.held) b.ready;
        }

pub all_posted : BeginsSo → EventsKeepSo → WorksKeepSo → SendsAreAnsweredAfterWork → AllIsKept → EventsFollowByName → SettlingHasEvents → WorkStopsInTime → AllIsPosted
all_posted begins events works answered keeps by_name named stops peers low small room ts m reached = reached_on begins events works answered keeps by_name named stops peers low small room reached

-- ---- further calls

abbrev AreCalled : List Call → Type 0
AreCalled [] = Unit {0}
AreCalled (c ∷ cs) = MayBeCalled c × AreCalled cs

module _ (posted : AllIsPosted) (stops : WorkStopsInTime) (peers : ℕ) (low : 1 ≤ peers) (small : peers ≤ 8) (room : WorkFindsRoom peers) where
  finishes_at : (ts : List Turn) (m : Mail) → IsReached (made peers) ts m → WorkFinishes m
  finishes_at ts m r = let b = posted peers low small room ts m r in finishes stops peers low small room ts m r b.held b.ready

  finishes_after : (cs : List Call) → AreCalled cs → (ts : List Turn) (m : Mail) → IsReached (made peers) ts m → WorkFinishes (after m cs)
  unfolding after
  finishes_after [] may ts m r = finishes_at ts m r
  finishes_after (c ∷ cs) may ts m r = finishes_after cs may.1 (ts ++ record { call = c; reply = (calls m c).reply } ∷ []) (calls m c).mail (Replied c may.0 r)

  pub all_finish : (ts : List Turn) (m : Mail) → IsReached (made peers) ts m → AllWorkFinishes m
  all_finish ts m r = record {
    first = finishes_after (Settle ∷ []) (tt, tt) ts m r;
    second = finishes_after (Settle ∷ Work ∷ Settle ∷ []) (tt, (tt, (tt, tt))) ts m r;
    third = finishes_after (Settle ∷ Work ∷ Settle ∷ Work ∷ Settle ∷ []) (tt, (tt, (tt, (tt, (tt, tt))))) ts m r;
    last = finishes_after settled_thrice (tt, (tt, (tt, (tt, (tt, (tt, tt)))))) ts m r;
  }

pub here_after_settling : AllIsPosted → WorkStopsInTime → FinishedWorkDeliversAll → LettersAreHereAfterSettling
here_after_settling posted stops enough peers low small room ts m r =
    let o = (posted peers low small room ts m r).held in
    enough peers low small ts m o.machine o.held (all_finish posted stops peers low small room ts m r)

pub letters_kept : LettersAreTakenWhole → LettersAreHereAfterSettling → LettersAreKeptWhereWorkFindsRoom
letters_kept whole here peers low small room ts m r = let k = whole peers low small ts m r in record { whole = k.whole; none = k.none; all = here peers low small room ts m r }
