-- Work is over before its steps are used up: each lowers the number of those that are still to come, and at the beginning they are few.
use Rattle.std.proofs.Common.{arith, ◌≡◌, ℕ, zero, suc, ◌*◌, ◌≤◌, List, [], ◌∷◌, length, refl, sym, ap, ◌∙◌, Some, None, Option, eq-eqb, ne_eqb}
use Rattle.std.specs.Prelude.{All, ◌==◌}
use Rattle.std.proofs.lemmas.List.Elements.{All-head, All-tail, All-weaker}
use Rattle.std.proofs.lemmas.List.Sums.{sum_by-cons}
use Rattle.rdma_types.specs.declared.requests.Completion.{Completion}
use Rattle.law_simulation.specs.Named.{EventsFollowByName}
use Rattle.mailbox_rules.specs.declared.due.Due.{Due}
use Rattle.mailbox_rules.specs.declared.due.Due.TheVariants as due
use Rattle.mailbox_rules.specs.Histories.{Turn}
use Rattle.mailbox_rules.specs.Opening.{receiver}
use Rattle.mailbox_rules.specs.State.{Mail, context_at}
use Rattle.mailbox_rules.specs.Working.{Working, begun, context_of, most_polled, most_steps, work_step, worked}
use Rattle.law_mailbox.specs.Held.{IsHeld, connection_in}
use Rattle.law_mailbox.specs.Kept.{dues_of, standing}
use Rattle.law_mailbox.specs.Short.{AreQueuesShort, IsLittleOwed}
use Rattle.law_mailbox.specs.Stops.{WorkStopsInTime}
use Rattle.law_mailbox.proofs.queue_room.Counts.{count_cons, one_if}
use Rattle.law_mailbox.proofs.work.Leaving.{waits_as}
use Rattle.law_mailbox.proofs.queue_room.LittleOwed.{dues_long, owed_in}
use Rattle.law_mailbox.proofs.settling.Lowers.{step_lowers}
use Rattle.law_mailbox.proofs.connection.Places.{all_front}
use Rattle.law_mailbox.proofs.queue_room.Totals.{total, total_changes, total_within}
use Rattle.law_mailbox.proofs.settling.Weights.{due_steps, owed_steps, queue_steps, steps_left, waiting_steps}
use Rattle.law_mailbox.proofs.work.Worked.{goes_further, no_step, step_held, stops_there}

-- ---- few steps are to come

due_light : (d : Due) → due_steps d ≤ 5
due_light (due.CopyMessage i place size) = omega arith
due_light (due.Repost i place fetch) = omega arith
due_light (due.PostRead i fetch) = omega arith
due_light (due.CopyBody i size) = omega arith
due_light (due.PostFree i) = omega arith
due_light (due.FreeSlot i place) = omega arith
due_light (due.RepostAtSender i place) = omega arith

owed_light : (ds : List Due) → owed_steps ds ≤ 5 * length ds
owed_light [] = omega arith
owed_light (d ∷ ds) =
    let one = due_light d in
    let rest = owed_light ds in
    omega (arith, one, rest, sum_by-cons due_steps d ds)

queue_light : (n : ℕ) (xs : List Completion) → queue_steps n xs ≤ 6 * length xs
queue_light n xs =
    let owed = owed_light (dues_of n xs) in
    omega (arith, owed, dues_long n xs)

-- all that is owed is owed in some context
owed_total : (peers : ℕ) (ds : List Due) → All (λ d. context_of d ≤ peers) ds → length ds ≤ total (λ n. owed_in n ds) peers
owed_total peers [] all = omega arith
owed_total peers (d ∷ ds) all =
    let rest = owed_total peers ds (All-tail (λ x. context_of x ≤ peers) d ds all) in
    let here : one_if (context_of d == context_of d) ≡ 1 = ap one_if (eq-eqb (context_of d) (context_of d) refl) in
    let changes = total_changes (λ n. owed_in n ds) (λ n. owed_in n (d ∷ ds)) (context_of d) peers (All-head (λ x. context_of x ≤ peers) d ds all)
    (λ n below apart.
    let none : one_if (context_of d == n) ≡ 0 = ap one_if (ne_eqb (context_of d) n (λ e. apart (sym e))) in
    omega (arith, none, count_cons (λ x. context_of x == n) d ds)) in
    omega (arith, rest, here, changes, count_cons (λ x. context_of x == context_of d) d ds)

module _ (follow : EventsFollowByName) (peers : ℕ) (some : 1 ≤ peers) (small : peers ≤ 8) (ts : List Turn) where
  contexts_within : (m : Mail) → IsHeld peers ts m → All (λ d. context_of d ≤ peers) m.owed
  contexts_within m h =
      All-weaker (λ d. (1 ≤ connection_in d) × (connection_in d ≤ peers)) (λ d. context_of d ≤ peers) (λ d in_it. by d in_it.1) m.owed
      (all_front (λ d. (1 ≤ connection_in d) × (connection_in d ≤ peers)) m.owed (dues_of 0 (standing h.machine receiver)) h.all.dues)
    where
      by : (x : Due) → connection_in x ≤ peers → context_of x ≤ peers
      by (due.CopyMessage j place size) high = omega arith
      by (due.Repost j place fetch) high = omega arith
      by (due.PostRead j f) high = omega arith
      by (due.CopyBody j size) high = omega arith
      by (due.PostFree j) high = omega arith
      by (due.FreeSlot j place) high = high
      by (due.RepostAtSender j place) high = high

  few_left : (m : Mail) → IsHeld peers ts m → IsLittleOwed peers m → AreQueuesShort peers m → steps_left peers (begun m) ≤ most_steps
  few_left m h few short =
      let owed = owed_light m.owed in
      let all = owed_total peers m.owed (contexts_within m h) in
      let in_all = total_within (λ n. owed_in n m.owed) most_polled peers few in
      let queues = total_within (waiting_steps m.world) 3072 peers each in
      omega (arith, owed, all, in_all, queues, small)
    where
      each : (n : ℕ) → n ≤ peers → waiting_steps m.world n ≤ 3072
      each n high =
          let same : waiting_steps m.world n ≡ queue_steps n (standing h.machine (context_at n)) = ap (queue_steps n) (waits_as m.world h.machine (context_at n) h.stands) in
          let long = short h.machine h.stands n high in
          omega (arith, same, long, queue_light n (standing h.machine (context_at n)))

  -- ---- so it stops

  stops_within : (n : ℕ) (w : Working) → IsHeld peers ts w.mail → steps_left peers w ≤ n → work_step (worked n w) ≡ None
  stops_within zero w h few = by (work_step w) refl
    where
      by : (o : Option Working) → work_step w ≡ o → work_step (worked zero w) ≡ None
      by None e = ap work_step (no_step follow peers small ts w) ∙ e
      by (Some v) e = let less = step_lowers follow peers some small ts w h v e in absurd (omega (arith, less, few))
  stops_within (suc n) w h few = by (λ v. stops_within n v) (work_step w) refl
    where
      by : ((v : Working) → IsHeld peers ts v.mail → steps_left peers v ≤ n → work_step (worked n v) ≡ None) → (o : Option Working) → work_step w ≡ o → work_step (worked (suc n) w) ≡ None
      by rest None e = ap work_step (stops_there follow peers small ts n w e) ∙ e
      by rest (Some v) e =
          let less = step_lowers follow peers some small ts w h v e in
          ap work_step (goes_further follow peers small ts n w v e) ∙ rest v (step_held follow peers small ts w h v e) (omega (arith, less, few))

pub stops_in_time : EventsFollowByName → WorkStopsInTime
stops_in_time follow peers some small ts m h few short = stops_within follow peers some small ts most_steps (begun m) h (few_left follow peers some small ts m h few short)
