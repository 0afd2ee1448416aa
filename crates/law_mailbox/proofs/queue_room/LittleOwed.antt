-- In each context no more is owed than one poll makes due: a context is polled where nothing that is owed in it can be done.
use Rattle.std.proofs.Common.{arith, ◌≡◌, ◌≢◌, ℕ, zero, suc, ◌+◌, ◌≤◌, List, [], ◌∷◌, ◌++◌, drop, get_or, length, length-append, length-take, take, true, false, Bool, refl, sym, subst, ap, ◌∙◌, Some, None, Option, ◌⊎◌, inl, inr, eqb-true, ltb-false, ne_eqb}
use Rattle.std.specs.Prelude.{All, count_by, if◌then◌else◌, is_some, nat_lt, not, option_to_list, position, slice_get, ◌==◌, ◌||◌, bytes_eq}
use Rattle.std.proofs.lemmas.List.Elements.{All-head, All-tail, All-weaker}
use Rattle.std.proofs.lemmas.List.Quantifiers.{position-Some}
use Rattle.std.proofs.lemmas.List.Sums.{count_by-le-length}
use Rattle.std.proofs.lemmas.Option.{same_Some, slice_get-get_or}
use Rattle.rdma_types.specs.declared.answers.Answer.{Answer}
use Rattle.rdma_types.specs.declared.answers.Refusal.TheVariants as refusals
use Rattle.rdma_types.specs.declared.requests.Completion.{Completion}
use Rattle.rdma_types.specs.Lists.{first_that, has_name}
use Rattle.protocol.specs.declared.events.WorldEvent.TheVariants as world_events
use Rattle.protocol.specs.declared.images.ContextImage.{ContextImage}
use Rattle.protocol.specs.WorldStep.{Step, carried_image, is_carried, is_live, world_step}
use Rattle.law_simulation.specs.Named.{EventsFollowByName}
use Rattle.law_simulation.proofs.relation.Connecting.{live_not_carried}
use Rattle.law_simulation.proofs.relation.Verbs.{causes_are, stepped_at}
use Rattle.mailbox_rules.specs.declared.due.Due.{Due}
use Rattle.mailbox_rules.specs.declared.due.Due.TheVariants as due
use Rattle.mailbox_rules.specs.Histories.{Turn}
use Rattle.mailbox_rules.specs.Opening.{object, queue_name}
use Rattle.mailbox_rules.specs.State.{Mail, context_at, is_away}
use Rattle.mailbox_rules.specs.Working.{Working, asking, begun, context_of, doing, doing_at, due_of, entries_in, heard_of, is_success, may_be_done, most_polled, noting_all, poll_event, polled, stepping, work_step, worked}
use Rattle.law_mailbox.specs.Held.{IsHeld}
use Rattle.law_mailbox.specs.Kept.{dues_by, dues_of, standing}
use Rattle.law_mailbox.specs.Short.{IsLittleOwed}
use Rattle.law_mailbox.specs.Stops.{DueWorkIsBounded}
use Rattle.law_mailbox.proofs.work.Changing.{one_or_not}
use Rattle.law_mailbox.proofs.queue_room.Counts.{count_both, count_cons, one_if}
use Rattle.law_mailbox.proofs.work.Dues.{next_is, split_at}
use Rattle.law_mailbox.proofs.work.Leaving.{polls_entries}
use Rattle.law_mailbox.proofs.work.Noting.{noted_all}
use Rattle.law_mailbox.proofs.settling.Over.{IsNext, doing_next, dues_context, none_passes, there}
use Rattle.law_mailbox.proofs.work.Worked.{goes_further, no_step, step_held, stops_there}

-- how much of it is of context n
abbrev pub owed_in : ℕ → List Due → ℕ
owed_in n ds = count_by (λ d. context_of d == n) ds

none_in : (n : ℕ) (ds : List Due) → All (λ d. (context_of d == n) ≡ false) ds → owed_in n ds ≡ 0
none_in n [] all = refl
none_in n (d ∷ ds) all =
    let first : one_if (context_of d == n) ≡ 0 = ap one_if (All-head (λ x. (context_of x == n) ≡ false) d ds all) in
    let rest = none_in n ds (All-tail (λ x. (context_of x == n) ≡ false) d ds all) in
    omega (arith, first, rest, count_cons (λ x. context_of x == n) d ds)

-- ---- a thing that is due

next_in : (n c : ℕ) (next : Option Due) → All (λ x. context_of x ≡ c) (option_to_list next) → owed_in n (option_to_list next) ≤ one_if (c == n)
next_in n c None all = omega arith
next_in n c (Some x) all =
    let same : one_if (context_of x == n) ≡ one_if (c == n) = ap (λ (i : ℕ). one_if (i == n)) (All-head (λ y. context_of y ≡ c) x [] all) in
    omega (arith, same, count_cons (λ y. context_of y == n) x [])

due_in : (n : ℕ) (m m' : Mail) (k : ℕ) (d : Due) → slice_get m.owed k ≡ Some d → IsNext m m' k d → owed_in n m'.owed ≤ owed_in n m.owed
due_in n m m' k d at x =
    let before : owed_in n m.owed ≡ owed_in n (take k m.owed ++ (d ∷ drop (suc k) m.owed)) = ap (owed_in n) (split_at m.owed k d at) in
    let after : owed_in n m'.owed ≡ owed_in n (take k m.owed ++ (option_to_list x.next ++ drop (suc k) m.owed)) = ap (owed_in n) (x.owed ∙ next_is m.owed k d at x.next) in
    let one = next_in n (context_of d) x.next x.same in
    omega (
      arith,
      before,
      after,
      one,
      count_both (λ y. context_of y == n) (take k m.owed) (d ∷ drop (suc k) m.owed),
      count_cons (λ y. context_of y == n) d (drop (suc k) m.owed),
      count_both (λ y. context_of y == n) (take k m.owed) (option_to_list x.next ++ drop (suc k) m.owed),
      count_both (λ y. context_of y == n) (option_to_list x.next) (drop (suc k) m.owed),
    )

-- ---- what a poll makes due

pub dues_long : (n : ℕ) (xs : List Completion) → length (dues_of n xs) ≤ length xs
dues_long n [] = omega arith
dues_long n (x ∷ xs) =
    let one = by (is_success x.status) (due_of n x) in
    let rest = dues_long n xs in
    omega (arith, one, rest, length-append (dues_by n x) (dues_of n xs))
  where
    by : (b : Bool) (o : Option Due) → length (if b then option_to_list o else []) ≤ 1
    by true None = omega arith
    by true (Some d) = omega arith
    by false o = omega arith

-- a context that lives is not carried
not_carried : (c : List ℕ) (xs : List ContextImage) → has_name (λ x. x.name) c xs ≡ false → is_some (first_that (λ x. bytes_eq x.name c) xs) ≡ false
unfolding first_that has_name
not_carried c [] h = refl
not_carried c (x ∷ xs) h = by (bytes_eq x.name c) (not_carried c xs) h
  where
    by : (b : Bool) → (has_name (λ x. x.name) c xs ≡ false → is_some (first_that (λ x. bytes_eq x.name c) xs) ≡ false) → (b || has_name (λ x. x.name) c xs) ≡ false → is_some (if b then Some x else first_that (λ x. bytes_eq x.name c) xs) ≡ false
    by true rest f = cc
    by false rest f = rest f

-- completions are polled of contexts that live
pub heard_lives : (m : Mail) (n : ℕ) (x : Completion) (xs : List Completion) → entries_in (asking m (poll_event n)).answer ≡ x ∷ xs → is_live m.world (context_at n) ≡ true
unfolding asking
heard_lives m n x xs e = by (is_live m.world (context_at n)) refl
  where
    refused : is_live m.world (context_at n) ≡ false → (c : Bool) → is_carried m.world (context_at n) ≡ c → entries_in (world_step m.world (world_events.At (poll_event n))).answer ≡ []
    refused dead true away = ap (λ (s : Step). entries_in s.answer) (stepped_at m.world (poll_event n) (Some refusals.Stopped) (causes_are m.world (context_at n) ∙ rw (dead, away) refl))
    refused dead false away = ap (λ (s : Step). entries_in s.answer) (stepped_at m.world (poll_event n) (Some refusals.NoSuch) (causes_are m.world (context_at n) ∙ rw (dead, away) refl))

    by : (b : Bool) → is_live m.world (context_at n) ≡ b → is_live m.world (context_at n) ≡ true
    by true live = live
    by false dead = let none : x ∷ xs ≡ [] = sym e ∙ refused dead (is_carried m.world (context_at n)) refl in cc

module _ (follow : EventsFollowByName) (peers : ℕ) (some : 1 ≤ peers) (small : peers ≤ 8) (ts : List Turn) (m : Mail) (h : IsHeld peers ts m) (n : ℕ) (within : n ≤ peers) (idle : All (λ d. may_be_done m.world d ≡ false) m.owed) where
  -- nothing is owed in a context of which completions are polled
  none_before : is_live m.world (context_at n) ≡ true → owed_in n m.owed ≡ 0
  unfolding carried_image
  none_before live =
      let home' : is_away m.world n ≡ false = not_carried (context_at n) m.world.carried (live_not_carried m.world h.machine (context_at n) h.stands.placed live) in
      none_in n m.owed (All-weaker (λ d. may_be_done m.world d ≡ false) (λ d. (context_of d == n) ≡ false) (λ d f. elsewhere home' d f (context_of d == n) refl) m.owed idle)
    where
      elsewhere : is_away m.world n ≡ false → (d : Due) → may_be_done m.world d ≡ false → (b : Bool) → (context_of d == n) ≡ b → (context_of d == n) ≡ false
      elsewhere home' d f true e =
          let may : may_be_done m.world d ≡ true = ap (λ (c : ℕ). not (is_away m.world c)) (eqb-true (context_of d) n e) ∙ ap not home' in
          let never : true ≡ false = sym may ∙ f in
          cc
      elsewhere home' d f false e = e

  -- few are polled at a time
  few_heard : is_live m.world (context_at n) ≡ true → length (entries_in (asking m (poll_event n)).answer) ≤ most_polled
  unfolding asking
  few_heard live =
      let heard : length (entries_in (world_step m.world (world_events.At (poll_event n))).answer) ≡ length (take most_polled (standing h.machine (context_at n))) =
      ap (λ (a : Answer). length (entries_in a)) (polls_entries m.world h.machine (object (context_at n) queue_name) most_polled h.stands live (there follow peers some small ts m h n within n within).1) in
      omega (arith, heard, length-take most_polled (standing h.machine (context_at n)))

  asked_owed : (asking m (poll_event n)).mail.owed ≡ m.owed
  unfolding asking
  asked_owed = refl

  module _ (few : IsLittleOwed peers m) where
    heard_few : (x : Completion) (xs : List Completion) → entries_in (asking m (poll_event n)).answer ≡ x ∷ xs → IsLittleOwed peers (noting_all n (asking m (poll_event n)).mail (x ∷ xs))
    heard_few x xs e k high = by (one_or_not k n)
      where
        both : owed_in k (noting_all n (asking m (poll_event n)).mail (x ∷ xs)).owed ≡ owed_in k m.owed + owed_in k (dues_of n (x ∷ xs))
        both =
            ap (owed_in k) ((noted_all n (asking m (poll_event n)).mail (x ∷ xs)).owed ∙ ap (λ (ds : List Due). ds ++ dues_of n (x ∷ xs)) asked_owed)
            ∙ count_both (λ d. context_of d == k) m.owed (dues_of n (x ∷ xs))

        live : is_live m.world (context_at n) ≡ true
        live = heard_lives m n x xs e

        by : (k ≡ n) ⊎ (k ≢ n) → owed_in k (noting_all n (asking m (poll_event n)).mail (x ∷ xs)).owed ≤ most_polled
        by (inl same) =
            let before : owed_in k m.owed ≡ 0 = ap (λ (i : ℕ). owed_in i m.owed) same ∙ none_before live in
            let polls : length (x ∷ xs) ≤ most_polled = subst (λ (ys : List Completion). length ys ≤ most_polled) e (few_heard live) in
            let all = both in
            omega (arith, all, before, polls, dues_long n (x ∷ xs), count_by-le-length (λ d. context_of d == k) (dues_of n (x ∷ xs)))
        by (inr apart) =
            let none : owed_in k (dues_of n (x ∷ xs)) ≡ 0 =
            none_in k (dues_of n (x ∷ xs)) (All-weaker (λ d. context_of d ≡ n) (λ d. (context_of d == k) ≡ false) (λ d is. ne_eqb (context_of d) k (λ f. apart (sym f ∙ is))) (dues_of n (x ∷ xs)) (dues_context n (x ∷ xs))) in
            let before = few k high in
            let all = both in
            omega (arith, all, none, before)

    poll_few : IsLittleOwed peers (polled n (asking m (poll_event n))).mail
    poll_few = by (entries_in (asking m (poll_event n)).answer) refl
      where
        by : (xs : List Completion) → entries_in (asking m (poll_event n)).answer ≡ xs → IsLittleOwed peers (heard_of n (asking m (poll_event n)).mail xs).mail
        by [] e k high = subst (λ (ds : List Due). owed_in k ds ≤ most_polled) (sym asked_owed) (few k high)
        by (x ∷ xs) e k high = heard_few x xs e k high

-- ---- any steps

module _ (follow : EventsFollowByName) (peers : ℕ) (some : 1 ≤ peers) (small : peers ≤ 8) (ts : List Turn) where
  step_few : (w : Working) → IsHeld peers ts w.mail → IsLittleOwed peers w.mail → (v : Working) → work_step w ≡ Some v → IsLittleOwed peers v.mail
  unfolding work_step
  step_few w h few v e = by (position (may_be_done w.mail.world) w.mail.owed) refl e
    where
      poll : position (may_be_done w.mail.world) w.mail.owed ≡ None → (b : Bool) → nat_lt (length w.mail.channels) w.next ≡ b → (if b then None else Some (polled w.next (asking w.mail (poll_event w.next)))) ≡ Some v → IsLittleOwed peers v.mail
      poll none true past f = cc
      poll none false below f =
          let next = ltb-false (length w.mail.channels) w.next below in
          let long = h.senders in
          subst (λ (x : Working). IsLittleOwed peers x.mail) (same_Some (polled w.next (asking w.mail (poll_event w.next))) v f)
          (poll_few follow peers some small ts w.mail h w.next (omega (arith, next, long)) (none_passes (may_be_done w.mail.world) w.mail.owed none) few)

      by : (o : Option ℕ) → position (may_be_done w.mail.world) w.mail.owed ≡ o → stepping w o ≡ Some v → IsLittleOwed peers v.mail
      by None none f = poll none (nat_lt (length w.mail.channels) w.next) refl f
      by (Some k) first f =
          let found = position-Some (may_be_done w.mail.world) w.mail.owed k (due.PostFree 0) first in
          let d : Due = get_or w.mail.owed k (due.PostFree 0) in
          let at : slice_get w.mail.owed k ≡ Some (get_or w.mail.owed k (due.PostFree 0)) = slice_get-get_or w.mail.owed k (due.PostFree 0) found.0 in
          subst (λ (x : Working). IsLittleOwed peers x.mail) (same_Some (doing_at w k (slice_get w.mail.owed k)) v f)
          (subst (λ (o : Option Due). IsLittleOwed peers (doing_at w k o).mail) (sym at)
          (λ n high. let less = due_in n w.mail (doing w.mail k d) k d at (doing_next w.mail k d) in let before = few n high in omega (arith, less, before)))

  steps_few : (n : ℕ) (w : Working) → IsHeld peers ts w.mail → IsLittleOwed peers w.mail → IsLittleOwed peers (worked n w).mail
  steps_few zero w h few = subst (λ (x : Working). IsLittleOwed peers x.mail) (sym (no_step follow peers small ts w)) few
  steps_few (suc n) w h few = by (λ v. steps_few n v) (work_step w) refl
    where
      by : ((v : Working) → IsHeld peers ts v.mail → IsLittleOwed peers v.mail → IsLittleOwed peers (worked n v).mail) → (o : Option Working) → work_step w ≡ o → IsLittleOwed peers (worked (suc n) w).mail
      by rest None e = subst (λ (x : Working). IsLittleOwed peers x.mail) (sym (stops_there follow peers small ts n w e)) few
      by rest (Some v) e = subst (λ (x : Working). IsLittleOwed peers x.mail) (sym (goes_further follow peers small ts n w v e)) (rest v (step_held follow peers small ts w h v e) (step_few w h few v e))

pub due_work_bounded : EventsFollowByName → DueWorkIsBounded
due_work_bounded follow peers some small ts m n h few = steps_few follow peers some small ts n (begun m) h few
