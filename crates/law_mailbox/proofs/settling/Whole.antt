-- All that is held is kept, so letters are taken whole and in order.
use Rattle.std.proofs.Common.{arith, ◌≡◌, ℕ, ◌≤◌, List, sym, subst, true}
use Rattle.protocol.specs.declared.events.WorldEvent.{WorldEvent}
use Rattle.protocol.specs.State.{World}
use Rattle.protocol.specs.WorldStep.{world_step}
use Rattle.law_settling.specs.Settling.{SettlingHasEvents}
use Rattle.mailbox_rules.specs.declared.due.Due.{Due}
use Rattle.mailbox_rules.specs.declared.letters.Letter.{Letter}
use Rattle.mailbox_rules.specs.Calls.{is_of_network, posts_letter}
use Rattle.mailbox_rules.specs.Histories.{Turn}
use Rattle.mailbox_rules.specs.State.{Mail}
use Rattle.mailbox_rules.specs.Wanting.{IsPartlyStored}
use Rattle.mailbox_rules.specs.Working.{begun, most_polled, worked}
use Rattle.law_mailbox.specs.Answered.{EventsLeaveFurnished, FirstIsFurnished, SendsLeaveFurnished, StoresLeaveFurnished, WorksLeaveFurnished}
use Rattle.law_mailbox.specs.Beginning.{BeginningIsHeld}
use Rattle.law_mailbox.specs.Calls.{SendsAreKept, StoresAreKept, WorksAreKept}
use Rattle.law_mailbox.specs.Held.{IsHeld, KeepingIsEnough, MayBeSent}
use Rattle.law_mailbox.specs.Over.{SendsAreAnsweredAfterWork}
use Rattle.law_mailbox.specs.Seen.{InnerStepsKeep}
use Rattle.law_mailbox.specs.Ready.{IsReady, IsReadyMail}
use Rattle.law_mailbox.specs.Stops.{DueWorkIsBounded, WorkStopsInTime}
use Rattle.law_mailbox.specs.Whole.{AllIsKept, LettersAreTakenWhole}
use Rattle.law_mailbox.proofs.opening.Furnishing.{queues_short}
use Rattle.law_mailbox.proofs.work.KeptCalls.{called_kept, cut_kept, worked_kept}
use Rattle.law_mailbox.proofs.queue_room.LittleOwed.{owed_in}
use Rattle.law_mailbox.proofs.work.Untouched.{posted_owed, stored_owed}

module _ (begins : BeginningIsHeld) (steps : InnerStepsKeep) (works : WorksAreKept) (sends : SendsAreKept) (stores : StoresAreKept) (first : FirstIsFurnished) (events : EventsLeaveFurnished) (work : WorksLeaveFurnished) (store : StoresLeaveFurnished)
    (post : SendsLeaveFurnished) (answered : SendsAreAnsweredAfterWork) (named : SettlingHasEvents) (little : DueWorkIsBounded) (stops : WorkStopsInTime) where
  module _ (peers : ℕ) (low : 1 ≤ peers) (high : peers ≤ 8) where
    events_ready : (w : World) (owed : List Due) (e : WorldEvent) → is_of_network e ≡ true → IsReady peers w owed → IsReady peers (world_step w e).world owed
    events_ready w owed e net r = record { furnished = events peers w e net r.furnished; little = r.little }

    works_ready : (ts : List Turn) (m : Mail) (n : ℕ) → IsHeld peers ts m → IsReadyMail peers m → IsReadyMail peers (worked n (begun m)).mail
    works_ready ts m n h r = record { furnished = work peers high ts m n h r.furnished; little = little peers low high ts m n h r.little }

    stores_ready : (m : Mail) (i : ℕ) (l : Letter) (m' : Mail) → MayBeSent l → IsPartlyStored m i l m' → IsReadyMail peers m → IsReadyMail peers m'
    stores_ready m i l m' may part r = record { furnished = store peers m i l m' may part r.furnished; little = subst (λ (ds : List Due). (n : ℕ) → n ≤ peers → owed_in n ds ≤ most_polled) (sym (stored_owed m i l m' part)) r.little }

    posts_ready : (m : Mail) (i : ℕ) (l : Letter) → MayBeSent l → IsReadyMail peers m → IsReadyMail peers (posts_letter m i l).mail
    posts_ready m i l may r = record { furnished = post peers m i l may r.furnished; little = subst (λ (ds : List Due). (n : ℕ) → n ≤ peers → owed_in n ds ≤ most_polled) (sym (posted_owed m i l)) r.little }

  pub all_is_kept : AllIsKept
  all_is_kept peers low high = record {
    begins = begins peers low high;
    also_begins = record { furnished = first peers low high; little = λ n within. omega arith };
    also_called = λ ts m c may h r. called_kept peers (IsReady peers) (events_ready peers low high) (works_ready peers low high) (stores_ready peers low high) (posts_ready peers low high) named ts m c may h r;
    also_cut = λ ts m c m' cut may h r. cut_kept peers (IsReady peers) (events_ready peers low high) (works_ready peers low high) (stores_ready peers low high) (posts_ready peers low high) named ts m cut may h r;
    steps = steps peers;
    works = works peers high;
    sends = λ ts m i l may h r fault.
        sends peers high ts m i l may h fault
        (answered peers low high ts m i l may h (worked_kept peers (IsReady peers) (events_ready peers low high) (works_ready peers low high) (stores_ready peers low high) (posts_ready peers low high) named ts m h r).furnished
        (stops peers low high ts m h r.little (queues_short peers m r.furnished)) fault);
    stores = stores peers high;
  }

pub taken_whole : AllIsKept → KeepingIsEnough IsReadyMail → LettersAreTakenWhole
taken_whole kept enough peers low high ts m reached = enough peers (kept peers low high) ts m reached
