-- The timer of a queue pair runs until it has moved on or expires.
use Rattle.std.proofs.Common.{◌≡◌, ◌∙◌, ℕ, zero, suc, ◌≤◌, ◌==◌, ◌&&◌, Bool, true, false, List, [], ◌∷◌, ◌++◌, Option, Some, None, ◌⊎◌, inl, inr, refl, sym, ap, subst, arith, if◌then◌else◌}
use Rattle.std.proofs.lemmas.Bool.Decides.{nat_tests, eqb_tells}
use Rattle.indexmap.specs.IndexMap.{insert_entry, shift_remove_entry}
use Rattle.std.specs.List.{list_any}
use Rattle.std.specs.Prelude.{cond, is_none, nat_eq, nat_lt, not}
use Rattle.device_core.specs.Numbered.{first_view, numbered_view}
use Rattle.host_ports.specs.Links.{Addressed}
use Rattle.protocol.specs.declared.events.Event.{Event}
use Rattle.protocol.specs.declared.events.Event.TheVariants as event
use Rattle.protocol.specs.Bytes.{number_at}
use Rattle.protocol.specs.DeviceStep.{Found, ends_with, found_in, found_link}
use Rattle.protocol.specs.Readers.{view_by, view_of}
use Rattle.protocol.specs.State.{Context, Device, End, Link}
use Rattle.rdma_types.specs.declared.answers.Answer.{Answer}
use Rattle.rdma_types.specs.declared.answers.EndState.{EndState}
use Rattle.rdma_types.specs.declared.answers.EndState.TheVariants as state
use Rattle.rdma_types.specs.declared.answers.EndView.{EndView}
use Rattle.rdma_types.specs.declared.answers.Sent.{Sent}
use Rattle.rdma_types.specs.declared.names.ObjName.{ObjName}
use Rattle.rdma_types.specs.declared.requests.Address.{Address}
use Rattle.serve_rules.specs.declared.timers.Due.{Due}
use Rattle.serve_rules.specs.declared.timers.Due.TheVariants as due_is
use Rattle.serve_rules.specs.declared.timers.Timer.{Timer}
use Rattle.serve_rules.specs.Timers as timers
use Rattle.serve_rules.specs.Timers.{code_of, due_from, has_come, is_in_flight, is_over, is_resuming, is_running, is_same, or_else}
use Rattle.serve_rules.specs.Laws.{ADueTimerExpires, ATimerIsSetOnce, ATimerRunsOn, AreEvents, HasMovedOn, MovesOn, StillRuns, Takes}
use Rattle.serve_rules.specs.Server.{Server, after, due_of, may_send, observed, outcome_of, queued, of_number, resumed, spent, stepped, timer_or, with_timer, without_timer, woken}
use Rattle.serve_rules.specs.Turns.{all_expired, arrived, arrived_first, arrived_many, arrived_next, counted, due_before, due_in, expired_at, expired_by, expired_due, expired_from, expired_once, is_crowded, is_heard, noted, sent_by, sent_first, sent_from, sent_if, sent_many, sent_next, sent_once, sent_view, transmitted, turned, woken_if}
use Rattle.serve_rules.proofs.Leading.{all_expired_by, arrived_many_by, by_both, by_none, expired_from_by, expired_once_by, observed_same, sent_many_by, sent_next_by, sent_view_by, spent_same, stepped_by, transmit_by, transmitted_by, woken_same}

-- ---- numbers

are_equal : (a b : ℕ) → (a == b) ≡ true → a ≡ b
are_equal a b h = grind (arith, nat_tests, eqb_tells a b, h)

same_or_not : (a b : ℕ) → ((a == b) ≡ false) ⊎ (a ≡ b)
same_or_not a b = by_test (a == b) refl
  where
    by_test : (t : Bool) → (a == b) ≡ t → ((a == b) ≡ false) ⊎ (a ≡ b)
    by_test true h = inr (are_equal a b h)
    by_test false h = inl h

is_itself : (n : ℕ) → (n == n) ≡ true
is_itself n = grind (arith, nat_tests, eqb_tells n n)

-- ---- timers by numbers

skips : (n : ℕ) (e : ℕ × Timer) (es : List (ℕ × Timer)) → (n == e.0) ≡ false → of_number (e ∷ es) n ≡ of_number es n
skips n e es h = ap (λ b. cond b (Some e.1) (of_number es n)) h

finds : (n : ℕ) (e : ℕ × Timer) (es : List (ℕ × Timer)) → (n == e.0) ≡ true → of_number (e ∷ es) n ≡ Some e.1
finds n e es h = ap (λ b. cond b (Some e.1) (of_number es n)) h

without_other : (ts : List (ℕ × Timer)) (n x : ℕ) → (n == x) ≡ false → of_number (shift_remove_entry (nat_eq x) ts) n ≡ of_number ts n
without_other [] n x h = refl
without_other (e ∷ es) n x h = by_test (x == e.0) refl (without_other es n x h)
  where
    by_test : (b : Bool) → (x == e.0) ≡ b → of_number (shift_remove_entry (nat_eq x) es) n ≡ of_number es n → of_number (cond b es (e ∷ shift_remove_entry (nat_eq x) es)) n ≡ of_number (e ∷ es) n
    by_test true g more = sym (skips n e es (subst (λ y. (n == y) ≡ false) (are_equal x e.0 g) h))
    by_test false g more = ap (λ r. cond (n == e.0) (Some e.1) r) more

insert_other : (ts : List (ℕ × Timer)) (n x : ℕ) (t : Timer) → (n == x) ≡ false → of_number (insert_entry nat_eq ts x t) n ≡ of_number ts n
insert_other [] n x t h = skips n (x, t) [] h
insert_other (e ∷ es) n x t h = by_test (x == e.0) refl (insert_other es n x t h)
  where
    by_test : (b : Bool) → (x == e.0) ≡ b → of_number (insert_entry nat_eq es x t) n ≡ of_number es n → of_number (if b then (e.0, t) ∷ es else e ∷ insert_entry nat_eq es x t) n ≡ of_number (e ∷ es) n
    by_test true g more =
        let apart : (n == e.0) ≡ false = subst (λ y. (n == y) ≡ false) (are_equal x e.0 g) h in
        skips n (e.0, t) es apart ∙ sym (skips n e es apart)
    by_test false g more = ap (λ r. cond (n == e.0) (Some e.1) r) more

insert_here : (ts : List (ℕ × Timer)) (n : ℕ) (t : Timer) → of_number (insert_entry nat_eq ts n t) n ≡ Some t
insert_here [] n t = finds n (n, t) [] (is_itself n)
insert_here (e ∷ es) n t = by_test (n == e.0) refl (insert_here es n t)
  where
    by_test : (b : Bool) → (n == e.0) ≡ b → of_number (insert_entry nat_eq es n t) n ≡ Some t → of_number (if b then (e.0, t) ∷ es else e ∷ insert_entry nat_eq es n t) n ≡ Some t
    by_test true g more = finds n (e.0, t) es g
    by_test false g more = skips n e (insert_entry nat_eq es n t) g ∙ more

-- ---- one timer that runs

is_set : (u : Timer) (m : ℕ) → u.due ≡ Some m → is_over u ≡ false
is_set u m h = ap (λ d. (is_none d && is_none u.rnr) && (u.doublings == 0)) h

same_view : (t u : Timer) (v : EndView) → StillRuns t (Some u) → is_same u v ≡ is_same t v
same_view t u v r = ap (λ k. v.una == k && code_of v.state == code_of u.state) r.1 ∙ ap (λ k. v.una == t.una && code_of v.state == code_of k) r.2

both_true : (a b : Bool) → (a && b) ≡ true → (a ≡ true) × (b ≡ true)
both_true true true h = (refl, refl)
both_true true false h = absurd (cc h)
both_true false b h = absurd (cc h)

observed_due : (u : Timer) (v : EndView) (base now m : ℕ) → is_same u v ≡ true → is_in_flight v ≡ true → u.due ≡ Some m → (timers.observed u v base now).due ≡ Some m
unfolding timers.observed
observed_due u v base now m h f e = rw (h, f, e) refl

observed_una : (u : Timer) (v : EndView) (base now : ℕ) → is_same u v ≡ true → ((timers.observed u v base now).una ≡ u.una) × ((timers.observed u v base now).state ≡ u.state)
unfolding timers.observed
observed_una u v base now h = rw h (refl, refl)

runs_observed : (t u : Timer) (v : EndView) (base now m : ℕ) → t.due ≡ Some m → StillRuns t (Some u) → (is_same t v && is_in_flight v) ≡ true → StillRuns t (Some (timers.observed u v base now))
runs_observed t u v base now m e r h =
    let both = both_true (is_same t v) (is_in_flight v) h in
    let same : is_same u v ≡ true = same_view t u v r ∙ both.0 in
    let as_it_was = observed_una u v base now same in
    (observed_due u v base now m same both.1 (r.0 ∙ e) ∙ sym e, as_it_was.0 ∙ r.1, as_it_was.1 ∙ r.2)

runs_resumed : (t u : Timer) (base now m : ℕ) → t.due ≡ Some m → StillRuns t (Some u) → StillRuns t (Some (timers.resumed u base now))
unfolding timers.resumed
runs_resumed t u base now m e r = (ap (λ d. or_else d (due_from u base now)) (r.0 ∙ e) ∙ sym e, r.1, r.2)

-- ---- which timer is due

not_neither : (u : Timer) (now m : ℕ) → u.due ≡ Some m → m ≤ now → timers.due_of u now ≡ due_is.Neither → ⊥
unfolding timers.due_of
not_neither u now m e h k =
    let come : has_come u.due now ≡ true = rw e (grind (arith, nat_tests, h)) in
    by_tests (has_come u.rnr now) (is_resuming u.state) (ap (λ b. if has_come u.rnr now then due_is.Rnr else if not b then due_is.Neither else if is_resuming u.state then due_is.Resume else due_is.Expiry) (sym come) ∙ k)
  where
    by_tests : (a c : Bool) → (if a then due_is.Rnr else if not true then due_is.Neither else if c then due_is.Resume else due_is.Expiry) ≡ due_is.Neither → ⊥
    by_tests true c k = cc k
    by_tests false true k = cc k
    by_tests false false k = cc k

resume_is : (u : Timer) (now : ℕ) → timers.due_of u now ≡ due_is.Resume → is_resuming u.state ≡ true
unfolding timers.due_of
resume_is u now k = by_tests (has_come u.rnr now) (has_come u.due now) (is_resuming u.state) k
  where
    by_tests : (a b c : Bool) → (if a then due_is.Rnr else if not b then due_is.Neither else if c then due_is.Resume else due_is.Expiry) ≡ due_is.Resume → c ≡ true
    by_tests true b c k = absurd (cc k)
    by_tests false false c k = absurd (cc k)
    by_tests false true true k = refl
    by_tests false true false k = absurd (cc k)

not_resuming : (a b : EndState) → is_running a ≡ true → (code_of a == code_of b) ≡ true → is_resuming b ≡ true → ⊥
not_resuming state.Running state.Resuming r c h = cc c
not_resuming state.Running state.Init r c h = cc h
not_resuming state.Running state.Running r c h = cc h
not_resuming state.Running state.Paused r c h = cc h
not_resuming state.Running state.Error r c h = cc h
not_resuming state.Init b r c h = cc r
not_resuming state.Paused b r c h = cc r
not_resuming state.Resuming b r c h = cc r
not_resuming state.Error b r c h = cc r

-- ---- the number of a queue pair that is told by its number

-- each has that number
abbrev AreNumbered : ℕ → List Found → Type 0
AreNumbered n [] = Unit {0}
AreNumbered n (f ∷ fs) = (f.end.number ≡ n) × AreNumbered n fs

append_numbered : (n : ℕ) (fs gs : List Found) → AreNumbered n fs → AreNumbered n gs → AreNumbered n (fs ++ gs)
append_numbered n [] gs a b = b
append_numbered n (f ∷ fs) gs a b = (a.0, append_numbered n fs gs a.1 b)

link_numbered : (n : ℕ) (c : Context) (e : End) (l : Option Link) (more : List Found) → e.number ≡ n → AreNumbered n more → AreNumbered n (found_link c e l more)
link_numbered n c e None more h a = a
link_numbered n c e (Some l) more h a = (h, a)

ends_by : (n : ℕ) (c : Context) (e : End) (more : List Found) (b : Bool) → (b ≡ true → e.number ≡ n) → AreNumbered n more → AreNumbered n (if b then found_link c e e.link more else more)
ends_by n c e more true h a = link_numbered n c e e.link more (h refl) a
ends_by n c e more false h a = a

ends_numbered : (n : ℕ) (c : Context) (es : List End) → AreNumbered n (ends_with n c es)
unfolding ends_with
ends_numbered n c [] = tt
ends_numbered n c (e ∷ es) = ends_by n c e (ends_with n c es) (e.number == n) (λ h. grind (arith, nat_tests, eqb_tells e.number n, h)) (ends_numbered n c es)

found_numbered : (n : ℕ) (cs : List Context) → AreNumbered n (found_in n cs)
unfolding found_in
found_numbered n [] = tt
found_numbered n (c ∷ cs) = append_numbered n (ends_with n c c.ends) (found_in n cs) (ends_numbered n c c.ends) (found_numbered n cs)

view_by_number : (o : ObjName) (e : End) (l : Option Link) → (view_by o e l).number ≡ e.number
view_by_number o e None = refl
view_by_number o e (Some l) = refl

view_number : (c : Context) (e : End) → (view_of c e).number ≡ e.number
unfolding view_of
view_number c e = view_by_number _ e e.link

first_number : (n : ℕ) (fs : List Found) (v : EndView) → AreNumbered n fs → first_view fs ≡ Some v → v.number ≡ n
first_number n [] v a h = absurd (cc h)
first_number n (f ∷ fs) v a h =
    let same : view_of f.context f.end ≡ v = cc h in
    sym (ap (λ (w : EndView). w.number) same) ∙ view_number f.context f.end ∙ a.0

number_told : (d : Device) (n : ℕ) (v : EndView) → numbered_view d n ≡ Some v → v.number ≡ n
number_told d n v h = first_number n (found_in n d.contexts) v (found_numbered n d.contexts) h

told_again : (d : Device) (n : ℕ) (v : EndView) → numbered_view d n ≡ Some v → numbered_view d v.number ≡ Some v
told_again d n v h = ap (λ k. numbered_view d k) (number_told d n v h) ∙ h

-- ---- on the way

-- the clock stands, and the timer still runs
abbrev Runs : ℕ → Timer → Server → Server → Type 0
Runs n t s s' = StillRuns t (of_number s'.timers n) × (s'.clock ≡ s.clock)

-- timers are kept for another number, or for this one
with_other : (s : Server) (n x : ℕ) (t u : Timer) → (n == x) ≡ false → StillRuns t (of_number s.timers n) → Runs n t s (with_timer s x u)
unfolding with_timer
with_other s n x t u h r = by_test (is_over u)
  where
    by_test : (b : Bool) → Runs n t s (if b then without_timer s x else record s { timers = insert_entry nat_eq s.timers x u })
    by_test true = (subst (λ o. StillRuns t o) (sym (without_other s.timers n x h)) r, refl)
    by_test false = (subst (λ o. StillRuns t o) (sym (insert_other s.timers n x u h)) r, refl)

with_here : (s : Server) (n m : ℕ) (t u : Timer) → t.due ≡ Some m → StillRuns t (Some u) → Runs n t s (with_timer s n u)
unfolding with_timer
with_here s n m t u e r =
    let kept : StillRuns t (of_number (insert_entry nat_eq s.timers n u) n) = subst (λ o. StillRuns t o) (sym (insert_here s.timers n u)) r in
    subst (λ b. Runs n t s (if b then without_timer s n else record s { timers = insert_entry nat_eq s.timers n u })) (sym (is_set u m (r.0 ∙ e))) (kept, refl)

-- the queue pair has moved on, or that
abbrev MovesOrRuns : ℕ → Timer → Server → Server → Type 0
MovesOrRuns n t s s' = MovesOn s n t s' ⊎ Runs n t s s'

-- .. or it expired
abbrev Ends : ℕ → Timer → Server → Server → Type 0
Ends n t s s' = MovesOn s n t s' ⊎ (Takes event.Expire s n s' ⊎ Runs n t s s')

-- the queue pair has moved on, expired, or its wait ended
abbrev Goes : ℕ → Timer → Server → Server → Type 0
Goes n t s s' = MovesOn s n t s' ⊎ (Takes event.Expire s n s' ⊎ Takes event.RnrOver s n s')

moves_behind : (s u w : Server) (n : ℕ) (t : Timer) → AreEvents s u → MovesOn u n t w → MovesOn s n t w
moves_behind s u w n t a m = record { there = m.there; before = by_both s u m.there a m.before; behind = m.behind; moved = m.moved }

moves_before : (s u w : Server) (n : ℕ) (t : Timer) → MovesOn s n t u → AreEvents u w → MovesOn s n t w
moves_before s u w n t m a = record { there = m.there; before = m.before; behind = by_both m.there u w m.behind a; moved = m.moved }

takes_behind : (k : ObjName → Event) (s u w : Server) (n : ℕ) → AreEvents s u → Takes k u n w → Takes k s n w
takes_behind k s u w n a h = record { there = h.there; view = h.view; told = h.told; before = by_both s u h.there a h.before; behind = h.behind }

takes_before : (k : ObjName → Event) (s u w : Server) (n : ℕ) → Takes k s n u → AreEvents u w → Takes k s n w
takes_before k s u w n h a = record { there = h.there; view = h.view; told = h.told; before = h.before; behind = by_both (after h.there (k h.view.name)) u w h.behind a }

runs_behind : (s u w : Server) (n : ℕ) (t : Timer) → AreEvents s u → u.clock ≡ s.clock → MovesOrRuns n t u w → MovesOrRuns n t s w
runs_behind s u w n t a c (inl m) = inl (moves_behind s u w n t a m)
runs_behind s u w n t a c (inr r) = inr (r.0, r.1 ∙ c)

ends_behind : (s u w : Server) (n : ℕ) (t : Timer) → AreEvents s u → u.clock ≡ s.clock → Ends n t u w → Ends n t s w
ends_behind s u w n t a c (inl m) = inl (moves_behind s u w n t a m)
ends_behind s u w n t a c (inr (inl h)) = inr (inl (takes_behind event.Expire s u w n a h))
ends_behind s u w n t a c (inr (inr r)) = inr (inr (r.0, r.1 ∙ c))

goes_behind : (s u w : Server) (n : ℕ) (t : Timer) → AreEvents s u → Goes n t u w → Goes n t s w
goes_behind s u w n t a (inl m) = inl (moves_behind s u w n t a m)
goes_behind s u w n t a (inr (inl h)) = inr (inl (takes_behind event.Expire s u w n a h))
goes_behind s u w n t a (inr (inr h)) = inr (inr (takes_behind event.RnrOver s u w n a h))

goes_before : (s u w : Server) (n : ℕ) (t : Timer) → Goes n t s u → AreEvents u w → Goes n t s w
goes_before s u w n t (inl m) a = inl (moves_before s u w n t m a)
goes_before s u w n t (inr (inl h)) a = inr (inl (takes_before event.Expire s u w n h a))
goes_before s u w n t (inr (inr h)) a = inr (inr (takes_before event.RnrOver s u w n h a))

-- ---- what leaves the timers alone

woken_timers : (s : Server) (n : ℕ) → ((woken s n).timers ≡ s.timers) × ((woken s n).clock ≡ s.clock)
unfolding woken
woken_timers s n = by_test (list_any (λ x. nat_eq x n) s.ready)
  where
    by_test : (b : Bool) → ((if b then s else record s { ready = s.ready ++ n ∷ [] }).timers ≡ s.timers) × ((if b then s else record s { ready = s.ready ++ n ∷ [] }).clock ≡ s.clock)
    by_test true = (refl, refl)
    by_test false = (refl, refl)

runs_woken : (s : Server) (x n : ℕ) (t : Timer) → StillRuns t (of_number s.timers n) → Runs n t s (woken s x)
runs_woken s x n t r = (subst (λ ts. StillRuns t (of_number ts n)) (sym (woken_timers s x).0) r, (woken_timers s x).1)

stepped_timers : (s : Server) (e : Event) → ((stepped s e).timers ≡ s.timers) × ((stepped s e).clock ≡ s.clock)
unfolding queued after
stepped_timers s e = (refl, refl)

noted_timers : (s : Server) (a : Answer) (n : ℕ) → (noted s a n).timers ≡ s.timers
unfolding noted
noted_timers s a n = by_heard (is_heard a)
  where
    by_heard : (b : Bool) → (woken_if b (counted s a) n).timers ≡ s.timers
    by_heard true = (woken_timers (counted s a) n).0
    by_heard false = refl

arrived_timers : (s : Server) (from : Address) (bytes : List ℕ) → (arrived s from bytes).timers ≡ s.timers
unfolding arrived queued after
arrived_timers s from bytes = noted_timers (after s (event.Arrive from bytes)) (outcome_of s (event.Arrive from bytes)).answer (number_at 5 3 bytes)

arrived_first_timers : (s : Server) (ds : List Addressed) → (arrived_first s ds).timers ≡ s.timers
arrived_first_timers s [] = refl
arrived_first_timers s (d ∷ ds) = arrived_timers (record s { inbox = ds }) d.0 d.1

arrived_next_timers : (s : Server) → (arrived_next s).timers ≡ s.timers
unfolding arrived_next
arrived_next_timers s = by_test (is_crowded s)
  where
    by_test : (b : Bool) → (if b then s else arrived_first s s.inbox).timers ≡ s.timers
    by_test true = refl
    by_test false = arrived_first_timers s s.inbox

arrived_many_timers : (k : ℕ) (s : Server) → (arrived_many k s).timers ≡ s.timers
unfolding arrived_many
arrived_many_timers zero s = refl
arrived_many_timers (suc k) s = arrived_next_timers (arrived_many k s) ∙ arrived_many_timers k s

-- ---- a queue pair is looked at

-- another one
observed_other : (s : Server) (v : EndView) (n : ℕ) (t : Timer) → (n == v.number) ≡ false → StillRuns t (of_number s.timers n) → Runs n t s (observed s v)
unfolding observed
observed_other s v n t h r = with_other s n v.number t (timers.observed (timer_or (of_number s.timers v.number) v) v s.base s.clock) h r

resumed_other : (s : Server) (v : EndView) (n : ℕ) (t : Timer) → (n == v.number) ≡ false → StillRuns t (of_number s.timers n) → Runs n t s (resumed s v)
unfolding resumed
resumed_other s v n t h r = with_other s n v.number t (timers.resumed (timer_or (of_number s.timers v.number) v) s.base s.clock) h r

spent_other : (s : Server) (v : EndView) (d : Due) (n : ℕ) (t : Timer) → (n == v.number) ≡ false → StillRuns t (of_number s.timers n) → Runs n t s (spent s v d)
unfolding spent
spent_other s v d n t h r = with_other s n v.number t (timers.spent (timer_or (of_number s.timers v.number) v) d) h r

-- this one, which has not moved on
observed_here : (s : Server) (v : EndView) (m : ℕ) (t : Timer) (o : Option Timer) → of_number s.timers v.number ≡ o → t.due ≡ Some m → StillRuns t o → (is_same t v && is_in_flight v) ≡ true → Runs v.number t s (observed s v)
unfolding observed
observed_here s v m t None f e r h = absurd r
observed_here s v m t (Some u) f e r h =
    with_here s v.number m t (timers.observed (timer_or (of_number s.timers v.number) v) v s.base s.clock) e
    (subst (λ o. StillRuns t (Some (timers.observed (timer_or o v) v s.base s.clock))) (sym f) (runs_observed t u v s.base s.clock m e r h))

resumed_here : (s : Server) (v : EndView) (m : ℕ) (t : Timer) (o : Option Timer) → of_number s.timers v.number ≡ o → t.due ≡ Some m → StillRuns t o → Runs v.number t s (resumed s v)
unfolding resumed
resumed_here s v m t None f e r = absurd r
resumed_here s v m t (Some u) f e r =
    with_here s v.number m t (timers.resumed (timer_or (of_number s.timers v.number) v) s.base s.clock) e
    (subst (λ o. StillRuns t (Some (timers.resumed (timer_or o v) s.base s.clock))) (sym f) (runs_resumed t u s.base s.clock m e r))

-- a timer for which nothing was due, or only the RNR wait
spent_runs : (t u : Timer) (d : Due) → (d ≡ due_is.Neither) ⊎ (d ≡ due_is.Rnr) → StillRuns t (Some u) → StillRuns t (Some (timers.spent u d))
unfolding timers.spent
spent_runs t u due_is.Neither w r = r
spent_runs t u due_is.Rnr w r = r
spent_runs t u due_is.Expiry (inl w) r = absurd (cc w)
spent_runs t u due_is.Expiry (inr w) r = absurd (cc w)
spent_runs t u due_is.Resume (inl w) r = absurd (cc w)
spent_runs t u due_is.Resume (inr w) r = absurd (cc w)

spent_here : (s : Server) (v : EndView) (d : Due) (m : ℕ) (t : Timer) (o : Option Timer) → (d ≡ due_is.Neither) ⊎ (d ≡ due_is.Rnr) → of_number s.timers v.number ≡ o → t.due ≡ Some m → StillRuns t o → Runs v.number t s (spent s v d)
unfolding spent
spent_here s v d m t None w f e r = absurd r
spent_here s v d m t (Some u) w f e r =
    with_here s v.number m t (timers.spent (timer_or (of_number s.timers v.number) v) d) e
    (subst (λ o. StillRuns t (Some (timers.spent (timer_or o v) d))) (sym f) (spent_runs t u d w r))

-- it has moved on where it is told otherwise
told_moves : (s s' : Server) (v : EndView) (n : ℕ) (t : Timer) → numbered_view s.device v.number ≡ Some v → n ≡ v.number → AreEvents s s' → (is_same t v && is_in_flight v) ≡ false → MovesOn s n t s'
told_moves s s' v n t told g a h = record { there = s; before = by_none s s (refl, refl); behind = a; moved = subst (λ o. HasMovedOn t o) (sym (ap (λ k. numbered_view s.device k) g ∙ told)) h }

observed_runs : (s : Server) (v : EndView) (n m : ℕ) (t : Timer) → numbered_view s.device v.number ≡ Some v → t.due ≡ Some m → StillRuns t (of_number s.timers n) → MovesOrRuns n t s (observed s v)
observed_runs s v n m t told e r = by_number (same_or_not n v.number)
  where
    by_view : (b : Bool) → (is_same t v && is_in_flight v) ≡ b → n ≡ v.number → MovesOrRuns n t s (observed s v)
    by_view false h g = inl (told_moves s (observed s v) v n t told g (by_none s (observed s v) (observed_same s v)) h)
    by_view true h g = inr (subst (λ k. Runs k t s (observed s v)) (sym g) (observed_here s v m t (of_number s.timers v.number) refl e (subst (λ k. StillRuns t (of_number s.timers k)) g r) h))

    by_number : ((n == v.number) ≡ false) ⊎ (n ≡ v.number) → MovesOrRuns n t s (observed s v)
    by_number (inl h) = inr (observed_other s v n t h r)
    by_number (inr g) = by_view (is_same t v && is_in_flight v) refl g

resumed_runs : (s : Server) (v : EndView) (n m : ℕ) (t : Timer) → t.due ≡ Some m → StillRuns t (of_number s.timers n) → Runs n t s (resumed s v)
resumed_runs s v n m t e r = by_number (same_or_not n v.number)
  where
    by_number : ((n == v.number) ≡ false) ⊎ (n ≡ v.number) → Runs n t s (resumed s v)
    by_number (inl h) = resumed_other s v n t h r
    by_number (inr g) = subst (λ k. Runs k t s (resumed s v)) (sym g) (resumed_here s v m t (of_number s.timers v.number) refl e (subst (λ k. StillRuns t (of_number s.timers k)) g r))

-- ---- sending

sent_view_runs : (s : Server) (v : EndView) (n m : ℕ) (t : Timer) → numbered_view s.device v.number ≡ Some v → t.due ≡ Some m → StillRuns t (of_number s.timers n) → MovesOrRuns n t s (sent_view s v)
unfolding sent_view
sent_view_runs s v n m t told e r = by_observed (observed_runs s v n m t told e r)
  where
    by_state : (b : Bool) → Runs n t s (observed s v) → Runs n t s (if b then resumed (observed s v) v else observed s v)
    by_state true k = let l = resumed_runs (observed s v) v n m t e k.0 in (l.0, l.1 ∙ k.1)
    by_state false k = k

    by_observed : MovesOrRuns n t s (observed s v) → MovesOrRuns n t s (sent_view s v)
    by_observed (inl h) = inl (moves_before s (observed s v) (sent_view s v) n t h (sent_view_by s v))
    by_observed (inr k) =
        let noted = by_state (is_resuming v.state) k in
        let l = runs_woken (if is_resuming v.state then resumed (observed s v) v else observed s v) v.number n t noted.0 in
        inr (l.0, l.1 ∙ noted.1)

sent_by_runs : (s : Server) (x n m : ℕ) (t : Timer) (v : Option EndView) → numbered_view s.device x ≡ v → t.due ≡ Some m → StillRuns t (of_number s.timers n) → MovesOrRuns n t s (sent_by s v)
sent_by_runs s x n m t None f e r = inr (r, refl)
sent_by_runs s x n m t (Some v) f e r = sent_view_runs s v n m t (told_again s.device x v f) e r

sent_if_runs : (sent : List Sent) (s : Server) (x n m : ℕ) (t : Timer) → t.due ≡ Some m → StillRuns t (of_number s.timers n) → MovesOrRuns n t s (sent_if sent s x)
sent_if_runs [] s x n m t e r = inr (r, refl)
sent_if_runs (y ∷ ys) s x n m t e r = sent_by_runs s x n m t (numbered_view s.device x) refl e r

transmitted_runs : (s : Server) (v : EndView) (n m : ℕ) (t : Timer) → t.due ≡ Some m → StillRuns t (of_number s.timers n) → MovesOrRuns n t s (transmitted s v)
unfolding transmitted
transmitted_runs s v n m t e r =
    let there : Server = stepped s (event.Transmit v.name) in
    let kept = stepped_timers s (event.Transmit v.name) in
    runs_behind s there (transmitted s v) n t (transmit_by s v) kept.1 (sent_if_runs (outcome_of s (event.Transmit v.name)).sent there v.number n m t e (subst (λ ts. StillRuns t (of_number ts n)) (sym kept.0) r))

sent_once_runs : (s : Server) (v : EndView) (n m : ℕ) (t : Timer) → numbered_view s.device v.number ≡ Some v → t.due ≡ Some m → StillRuns t (of_number s.timers n) → MovesOrRuns n t s (sent_once s v)
unfolding sent_once
sent_once_runs s v n m t told e r = by_observed (may_send (observed s v) v) (observed_runs s v n m t told e r)
  where
    by_observed : (b : Bool) → MovesOrRuns n t s (observed s v) → MovesOrRuns n t s (if b then transmitted (observed s v) v else observed s v)
    by_observed false h = h
    by_observed true (inl h) = inl (moves_before s (observed s v) (transmitted (observed s v) v) n t h (transmitted_by (observed s v) v))
    by_observed true (inr k) = runs_behind s (observed s v) (transmitted (observed s v) v) n t (by_none s (observed s v) (observed_same s v)) k.1 (transmitted_runs (observed s v) v n m t e k.0)

-- a queue pair that is not here has moved on; others are as before
gone_runs : (s : Server) (x n : ℕ) (t : Timer) → numbered_view s.device x ≡ None → StillRuns t (of_number s.timers n) → MovesOrRuns n t s (without_timer s x)
gone_runs s x n t f r = by_number (same_or_not n x)
  where
    by_number : ((n == x) ≡ false) ⊎ (n ≡ x) → MovesOrRuns n t s (without_timer s x)
    by_number (inl h) = inr (subst (λ o. StillRuns t o) (sym (without_other s.timers n x h)) r, refl)
    by_number (inr g) = inl (record { there = s; before = by_none s s (refl, refl); behind = by_none s (without_timer s x) (refl, refl); moved = subst (λ o. HasMovedOn t o) (sym (ap (λ k. numbered_view s.device k) g ∙ f)) tt })

sent_from_runs : (s : Server) (x n m : ℕ) (t : Timer) (v : Option EndView) → numbered_view s.device x ≡ v → t.due ≡ Some m → StillRuns t (of_number s.timers n) → MovesOrRuns n t s (sent_from s x v)
sent_from_runs s x n m t None f e r = gone_runs s x n t f r
sent_from_runs s x n m t (Some v) f e r = sent_once_runs s v n m t (told_again s.device x v f) e r

sent_first_runs : (s : Server) (ns : List ℕ) (n m : ℕ) (t : Timer) → t.due ≡ Some m → StillRuns t (of_number s.timers n) → MovesOrRuns n t s (sent_first s ns)
sent_first_runs s [] n m t e r = inr (r, refl)
sent_first_runs s (x ∷ xs) n m t e r =
    let left : Server = record s { ready = xs } in
    runs_behind s left (sent_first s (x ∷ xs)) n t (by_none s left (refl, refl)) refl (sent_from_runs left x n m t (numbered_view left.device x) refl e r)

sent_next_runs : (s : Server) (n m : ℕ) (t : Timer) → t.due ≡ Some m → StillRuns t (of_number s.timers n) → MovesOrRuns n t s (sent_next s)
unfolding sent_next
sent_next_runs s n m t e r = sent_first_runs s s.ready n m t e r

sent_many_runs : (k : ℕ) (s : Server) (n m : ℕ) (t : Timer) → t.due ≡ Some m → StillRuns t (of_number s.timers n) → MovesOrRuns n t s (sent_many k s)
unfolding sent_many
sent_many_runs zero s n m t e r = inr (r, refl)
sent_many_runs (suc k) s n m t e r = by_before (sent_many_runs k s n m t e r)
  where
    by_before : MovesOrRuns n t s (sent_many k s) → MovesOrRuns n t s (sent_next (sent_many k s))
    by_before (inl h) = inl (moves_before s (sent_many k s) (sent_next (sent_many k s)) n t h (sent_next_by (sent_many k s)))
    by_before (inr l) = runs_behind s (sent_many k s) (sent_next (sent_many k s)) n t (sent_many_by k s) l.1 (sent_next_runs (sent_many k s) n m t e l.0)

-- ---- expiring

expired_by_timers : (s : Server) (v : EndView) (d : Due) → ((expired_by s v d).timers ≡ s.timers) × ((expired_by s v d).clock ≡ s.clock)
expired_by_timers s v due_is.Neither = (refl, refl)
expired_by_timers s v due_is.Resume = (refl, refl)
expired_by_timers s v due_is.Rnr = stepped_timers s (event.RnrOver v.name)
expired_by_timers s v due_is.Expiry = stepped_timers s (event.Expire v.name)

-- the timer runs on behind what is due, if it does behind its clearing
due_runs : (s : Server) (v : EndView) (d : Due) (n : ℕ) (t : Timer) → Runs n t s (spent s v d) → Runs n t s (expired_due s v d)
due_runs s v d n t k =
    let there : Server = spent s v d in
    let done : Server = expired_by there v d in
    let kept = expired_by_timers there v d in
    let l = runs_woken done v.number n t (subst (λ ts. StillRuns t (of_number ts n)) (sym kept.0) k.0) in
    (l.0, l.1 ∙ kept.1 ∙ k.1)

expired_other : (s : Server) (v : EndView) (n : ℕ) (t : Timer) → (n == v.number) ≡ false → StillRuns t (of_number s.timers n) → Runs n t s (expired_once s v)
unfolding expired_once
expired_other s v n t h r =
    let told = observed_other s v n t h r in
    let l = due_runs (observed s v) v (due_of (observed s v) v) n t (spent_other (observed s v) v (due_of (observed s v) v) n t h told.0) in
    (l.0, l.1 ∙ told.1)

-- what is due of the queue pair that has not moved on
abbrev DueEnds : ℕ → Timer → Server → EndView → Due → Type 0
DueEnds n t s v d = Takes event.Expire s n (expired_due s v d) ⊎ Runs n t s (expired_due s v d)

expiry_takes : (s : Server) (v : EndView) → numbered_view s.device v.number ≡ Some v → Takes event.Expire s v.number (expired_due s v due_is.Expiry)
unfolding queued
expiry_takes s v told = record {
  there = spent s v due_is.Expiry;
  view = v;
  told = ap (λ (d : Device). numbered_view d v.number) (spent_same s v due_is.Expiry).0 ∙ told;
  before = by_none s (spent s v due_is.Expiry) (spent_same s v due_is.Expiry);
  behind = by_none (after (spent s v due_is.Expiry) (event.Expire v.name)) (expired_due s v due_is.Expiry) (woken_same (stepped (spent s v due_is.Expiry) (event.Expire v.name)) v.number);
}

rnr_takes : (s : Server) (v : EndView) → numbered_view s.device v.number ≡ Some v → Takes event.RnrOver s v.number (expired_due s v due_is.Rnr)
unfolding queued
rnr_takes s v told = record {
  there = spent s v due_is.Rnr;
  view = v;
  told = ap (λ (d : Device). numbered_view d v.number) (spent_same s v due_is.Rnr).0 ∙ told;
  before = by_none s (spent s v due_is.Rnr) (spent_same s v due_is.Rnr);
  behind = by_none (after (spent s v due_is.Rnr) (event.RnrOver v.name)) (expired_due s v due_is.Rnr) (woken_same (stepped (spent s v due_is.Rnr) (event.RnrOver v.name)) v.number);
}

-- its timer as it stands, and that its state is not Resuming
resumes_not : (s : Server) (v : EndView) (t : Timer) (o : Option Timer) → of_number s.timers v.number ≡ o → StillRuns t o → (is_same t v && is_in_flight v) ≡ true → due_of s v ≡ due_is.Resume → ⊥
resumes_not s v t None f r h d = r
resumes_not s v t (Some u) f r h d =
    let both = both_true (is_same t v) (is_in_flight v) h in
    let parts = both_true (v.una == t.una) (code_of v.state == code_of t.state) both.0 in
    let running = both_true (is_running v.state) (nat_lt v.una v.next) both.1 in
    let here : timers.due_of u s.clock ≡ due_is.Resume = ap (λ o. timers.due_of (timer_or o v) s.clock) (sym f) ∙ d in
    not_resuming v.state t.state running.0 parts.1 (sym (ap (λ x. is_resuming x) r.2) ∙ resume_is u s.clock here)

neither_not : (s : Server) (v : EndView) (m : ℕ) (t : Timer) (o : Option Timer) → of_number s.timers v.number ≡ o → t.due ≡ Some m → StillRuns t o → m ≤ s.clock → due_of s v ≡ due_is.Neither → ⊥
neither_not s v m t None f e r h d = r
neither_not s v m t (Some u) f e r h d = not_neither u s.clock m (r.0 ∙ e) h (ap (λ o. timers.due_of (timer_or o v) s.clock) (sym f) ∙ d)

told_observed : (s : Server) (v : EndView) → numbered_view s.device v.number ≡ Some v → numbered_view (observed s v).device v.number ≡ Some v
told_observed s v told = ap (λ (d : Device). numbered_view d v.number) (observed_same s v).0 ∙ told

expired_here : (s : Server) (v : EndView) (m : ℕ) (t : Timer) → numbered_view s.device v.number ≡ Some v → t.due ≡ Some m → StillRuns t (of_number s.timers v.number) → Ends v.number t s (expired_once s v)
unfolding expired_once
expired_here s v m t told e r = by_view (is_same t v && is_in_flight v) refl
  where
    by_due : (d : Due) → due_of (observed s v) v ≡ d → StillRuns t (of_number (observed s v).timers v.number) → (is_same t v && is_in_flight v) ≡ true → DueEnds v.number t (observed s v) v d
    by_due due_is.Expiry g k h = inl (expiry_takes (observed s v) v (told_observed s v told))
    by_due due_is.Resume g k h = absurd (resumes_not (observed s v) v t (of_number (observed s v).timers v.number) refl k h g)
    by_due due_is.Neither g k h = inr (due_runs (observed s v) v due_is.Neither v.number t (spent_here (observed s v) v due_is.Neither m t (of_number (observed s v).timers v.number) (inl refl) refl e k))
    by_due due_is.Rnr g k h = inr (due_runs (observed s v) v due_is.Rnr v.number t (spent_here (observed s v) v due_is.Rnr m t (of_number (observed s v).timers v.number) (inr refl) refl e k))

    by_seen : (is_same t v && is_in_flight v) ≡ true → Ends v.number t s (expired_once s v)
    by_seen h =
        let k = observed_here s v m t (of_number s.timers v.number) refl e r h in
        ends_behind s (observed s v) (expired_once s v) v.number t (by_none s (observed s v) (observed_same s v)) k.1 (inr (by_due (due_of (observed s v) v) refl k.0 h))

    by_view : (b : Bool) → (is_same t v && is_in_flight v) ≡ b → Ends v.number t s (expired_once s v)
    by_view false h = inl (told_moves s (expired_once s v) v v.number t told refl (expired_once_by s v) h)
    by_view true h = by_seen h

-- .. whose moment has come
due_here : (s : Server) (v : EndView) (m : ℕ) (t : Timer) → numbered_view s.device v.number ≡ Some v → t.due ≡ Some m → m ≤ s.clock → StillRuns t (of_number s.timers v.number) → Goes v.number t s (expired_once s v)
unfolding expired_once
due_here s v m t told e late r = by_view (is_same t v && is_in_flight v) refl
  where
    by_due : (d : Due) → due_of (observed s v) v ≡ d → Runs v.number t s (observed s v) → (is_same t v && is_in_flight v) ≡ true → Takes event.Expire (observed s v) v.number (expired_due (observed s v) v d) ⊎ Takes event.RnrOver (observed s v) v.number (expired_due (observed s v) v d)
    by_due due_is.Expiry g k h = inl (expiry_takes (observed s v) v (told_observed s v told))
    by_due due_is.Rnr g k h = inr (rnr_takes (observed s v) v (told_observed s v told))
    by_due due_is.Resume g k h = absurd (resumes_not (observed s v) v t (of_number (observed s v).timers v.number) refl k.0 h g)
    by_due due_is.Neither g k h = absurd (neither_not (observed s v) v m t (of_number (observed s v).timers v.number) refl e k.0 (subst (λ c. m ≤ c) (sym k.1) late) g)

    by_seen : (is_same t v && is_in_flight v) ≡ true → Goes v.number t s (expired_once s v)
    by_seen h =
        let k = observed_here s v m t (of_number s.timers v.number) refl e r h in
        goes_behind s (observed s v) (expired_once s v) v.number t (by_none s (observed s v) (observed_same s v)) (inr (by_due (due_of (observed s v) v) refl k h))

    by_view : (b : Bool) → (is_same t v && is_in_flight v) ≡ b → Goes v.number t s (expired_once s v)
    by_view false h = inl (told_moves s (expired_once s v) v v.number t told refl (expired_once_by s v) h)
    by_view true h = by_seen h

expired_from_ends : (s : Server) (x n m : ℕ) (t : Timer) (v : Option EndView) → numbered_view s.device x ≡ v → t.due ≡ Some m → StillRuns t (of_number s.timers n) → Ends n t s (expired_from s x v)
expired_from_ends s x n m t None f e r = by_gone (gone_runs s x n t f r)
  where
    by_gone : MovesOrRuns n t s (without_timer s x) → Ends n t s (without_timer s x)
    by_gone (inl h) = inl h
    by_gone (inr k) = inr (inr k)
expired_from_ends s x n m t (Some v) f e r = by_number (same_or_not n v.number)
  where
    by_number : ((n == v.number) ≡ false) ⊎ (n ≡ v.number) → Ends n t s (expired_once s v)
    by_number (inl h) = inr (inr (expired_other s v n t h r))
    by_number (inr g) = subst (λ k. Ends k t s (expired_once s v)) (sym g) (expired_here s v m t (told_again s.device x v f) e (subst (λ k. StillRuns t (of_number s.timers k)) g r))

all_expired_ends : (s : Server) (ns : List ℕ) (n m : ℕ) (t : Timer) → t.due ≡ Some m → StillRuns t (of_number s.timers n) → Ends n t s (all_expired s ns)
unfolding all_expired
all_expired_ends s [] n m t e r = inr (inr (r, refl))
all_expired_ends s (x ∷ xs) n m t e r = by_first (λ k. all_expired_ends (expired_from s x (numbered_view s.device x)) xs n m t e k) (expired_from_ends s x n m t (numbered_view s.device x) refl e r)
  where
    by_first : (StillRuns t (of_number (expired_from s x (numbered_view s.device x)).timers n) → Ends n t (expired_from s x (numbered_view s.device x)) (all_expired (expired_from s x (numbered_view s.device x)) xs)) → Ends n t s (expired_from s x (numbered_view s.device x)) → Ends n t s (all_expired (expired_from s x (numbered_view s.device x)) xs)
    by_first more (inl h) = inl (moves_before s (expired_from s x (numbered_view s.device x)) (all_expired (expired_from s x (numbered_view s.device x)) xs) n t h (all_expired_by (expired_from s x (numbered_view s.device x)) xs))
    by_first more (inr (inl h)) = inr (inl (takes_before event.Expire s (expired_from s x (numbered_view s.device x)) (all_expired (expired_from s x (numbered_view s.device x)) xs) n h (all_expired_by (expired_from s x (numbered_view s.device x)) xs)))
    by_first more (inr (inr k)) = ends_behind s (expired_from s x (numbered_view s.device x)) (all_expired (expired_from s x (numbered_view s.device x)) xs) n t (expired_from_by s x (numbered_view s.device x)) k.1 (more k.0)

-- ---- those that are due

-- the number is among these
abbrev IsAmong : ℕ → List ℕ → Type 0
IsAmong n [] = ⊥
IsAmong n (x ∷ xs) = (n ≡ x) ⊎ IsAmong n xs

among_due : (n x : ℕ) (d : Due) (more : List ℕ) → IsAmong n more → IsAmong n (due_before x d more)
among_due n x due_is.Neither more h = h
among_due n x due_is.Rnr more h = inr h
among_due n x due_is.Expiry more h = inr h
among_due n x due_is.Resume more h = inr h

first_due : (n x : ℕ) (d : Due) (more : List ℕ) → n ≡ x → (d ≡ due_is.Neither → ⊥) → IsAmong n (due_before x d more)
first_due n x due_is.Neither more g h = absurd (h refl)
first_due n x due_is.Rnr more g h = inl g
first_due n x due_is.Expiry more g h = inl g
first_due n x due_is.Resume more g h = inl g

is_due_in : (now : ℕ) (ts : List (ℕ × Timer)) (n : ℕ) (u : Timer) → of_number ts n ≡ Some u → (timers.due_of u now ≡ due_is.Neither → ⊥) → IsAmong n (due_in now ts)
unfolding due_in
is_due_in now [] n u f h = absurd (cc f)
is_due_in now (e ∷ es) n u f h = by_test (n == e.0) refl (λ g. is_due_in now es n u g h)
  where
    by_test : (b : Bool) → (n == e.0) ≡ b → (of_number es n ≡ Some u → IsAmong n (due_in now es)) → IsAmong n (due_before e.0 (timers.due_of e.1 now) (due_in now es))
    by_test true g more =
        let found : Some e.1 ≡ Some u = sym (finds n e es g) ∙ f in
        let same : e.1 ≡ u = cc found in
        first_due n e.0 (timers.due_of e.1 now) (due_in now es) (are_equal n e.0 g) (λ k. h (ap (λ (w : Timer). timers.due_of w now) (sym same) ∙ k))
    by_test false g more = among_due n e.0 (timers.due_of e.1 now) (due_in now es) (more (sym (skips n e es g) ∙ f))

due_from_goes : (s : Server) (x m : ℕ) (t : Timer) (v : Option EndView) → numbered_view s.device x ≡ v → t.due ≡ Some m → m ≤ s.clock → StillRuns t (of_number s.timers x) → Goes x t s (expired_from s x v)
due_from_goes s x m t None f e late r = inl (record { there = s; before = by_none s s (refl, refl); behind = by_none s (without_timer s x) (refl, refl); moved = subst (λ o. HasMovedOn t o) (sym f) tt })
due_from_goes s x m t (Some v) f e late r =
    let g : x ≡ v.number = sym (number_told s.device x v f) in
    subst (λ k. Goes k t s (expired_once s v)) (sym g) (due_here s v m t (told_again s.device x v f) e late (subst (λ k. StillRuns t (of_number s.timers k)) g r))

other_from_runs : (s : Server) (x n : ℕ) (t : Timer) (v : Option EndView) → (n == x) ≡ false → numbered_view s.device x ≡ v → StillRuns t (of_number s.timers n) → Runs n t s (expired_from s x v)
other_from_runs s x n t None h f r = (subst (λ o. StillRuns t o) (sym (without_other s.timers n x h)) r, refl)
other_from_runs s x n t (Some v) h f r = expired_other s v n t (subst (λ k. (n == k) ≡ false) (sym (number_told s.device x v f)) h) r

all_due_go : (s : Server) (ns : List ℕ) (n m : ℕ) (t : Timer) → IsAmong n ns → t.due ≡ Some m → m ≤ s.clock → StillRuns t (of_number s.timers n) → Goes n t s (all_expired s ns)
unfolding all_expired
all_due_go s [] n m t i e late r = absurd i
all_due_go s (x ∷ xs) n m t i e late r = by_number (λ j l k. all_due_go (expired_from s x (numbered_view s.device x)) xs n m t j e l k) i (same_or_not n x)
  where
    here : n ≡ x → Goes n t s (all_expired (expired_from s x (numbered_view s.device x)) xs)
    here g = goes_before s (expired_from s x (numbered_view s.device x)) (all_expired (expired_from s x (numbered_view s.device x)) xs) n t
        (subst (λ k. Goes k t s (expired_from s x (numbered_view s.device x))) (sym g) (due_from_goes s x m t (numbered_view s.device x) refl e late (subst (λ k. StillRuns t (of_number s.timers k)) g r)))
        (all_expired_by (expired_from s x (numbered_view s.device x)) xs)

    by_number : (IsAmong n xs → m ≤ (expired_from s x (numbered_view s.device x)).clock → StillRuns t (of_number (expired_from s x (numbered_view s.device x)).timers n) → Goes n t (expired_from s x (numbered_view s.device x)) (all_expired (expired_from s x (numbered_view s.device x)) xs)) → (n ≡ x) ⊎ IsAmong n xs → ((n == x) ≡ false) ⊎ (n ≡ x) → Goes n t s (all_expired (expired_from s x (numbered_view s.device x)) xs)
    by_number more (inl g) w = here g
    by_number more (inr j) (inr g) = here g
    by_number more (inr j) (inl h) =
        let k = other_from_runs s x n t (numbered_view s.device x) h refl r in
        goes_behind s (expired_from s x (numbered_view s.device x)) (all_expired (expired_from s x (numbered_view s.device x)) xs) n t (expired_from_by s x (numbered_view s.device x)) (more j (subst (λ c. m ≤ c) (sym k.1) late) k.0)

-- ---- a turn

found_runs : (s : Server) (n : ℕ) (t : Timer) → of_number s.timers n ≡ Some t → StillRuns t (of_number s.timers n)
found_runs s n t f = subst (λ o. StillRuns t o) (sym f) (refl, refl, refl)

-- behind the arrivals, at its moment
asked_by : (s : Server) (now : ℕ) → AreEvents s (record (arrived_many 64 s) { clock = now })
asked_by s now = by_both s (arrived_many 64 s) (record (arrived_many 64 s) { clock = now }) (arrived_many_by 64 s) (by_none (arrived_many 64 s) (record (arrived_many 64 s) { clock = now }) (refl, refl))

asked_runs : (s : Server) (n : ℕ) (t : Timer) → of_number s.timers n ≡ Some t → StillRuns t (of_number (arrived_many 64 s).timers n)
asked_runs s n t f = subst (λ ts. StillRuns t (of_number ts n)) (sym (arrived_many_timers 64 s)) (found_runs s n t f)

sends_end : (s begun sent : Server) (due : List ℕ) (n m : ℕ) (t : Timer) → AreEvents s begun → AreEvents begun sent → t.due ≡ Some m → MovesOrRuns n t begun sent → MovesOn s n t (all_expired sent due) ⊎ (Takes event.Expire s n (all_expired sent due) ⊎ StillRuns t (of_number (all_expired sent due).timers n))
sends_end s begun sent due n m t a b e (inl h) = inl (moves_behind s begun (all_expired sent due) n t a (moves_before begun sent (all_expired sent due) n t h (all_expired_by sent due)))
sends_end s begun sent due n m t a b e (inr k) = by_ends (all_expired_ends sent due n m t e k.0)
  where
    by_ends : Ends n t sent (all_expired sent due) → MovesOn s n t (all_expired sent due) ⊎ (Takes event.Expire s n (all_expired sent due) ⊎ StillRuns t (of_number (all_expired sent due).timers n))
    by_ends (inl h) = inl (moves_behind s sent (all_expired sent due) n t (by_both s begun sent a b) h)
    by_ends (inr (inl h)) = inr (inl (takes_behind event.Expire s sent (all_expired sent due) n (by_both s begun sent a b) h))
    by_ends (inr (inr l)) = inr (inr l.0)

pub a_timer_runs_on : ATimerRunsOn
unfolding turned expired_at
a_timer_runs_on s now n m t f e =
    let begun : Server = record (arrived_many 64 s) { clock = now } in
    let sent : Server = sent_many 64 begun in
    sends_end s begun sent (due_in sent.clock sent.timers) n m t (asked_by s now) (sent_many_by 64 begun) e (sent_many_runs 64 begun n m t e (asked_runs s n t f))

due_among : (s : Server) (n m : ℕ) (t : Timer) (o : Option Timer) → of_number s.timers n ≡ o → StillRuns t o → t.due ≡ Some m → m ≤ s.clock → IsAmong n (due_in s.clock s.timers)
due_among s n m t None f r e late = absurd r
due_among s n m t (Some u) f r e late = is_due_in s.clock s.timers n u f (not_neither u s.clock m (r.0 ∙ e) late)

sends_go : (s begun sent : Server) (n m : ℕ) (t : Timer) → AreEvents s begun → AreEvents begun sent → t.due ≡ Some m → m ≤ begun.clock → MovesOrRuns n t begun sent → Goes n t s (all_expired sent (due_in sent.clock sent.timers))
sends_go s begun sent n m t a b e late (inl h) =
    inl (moves_behind s begun (all_expired sent (due_in sent.clock sent.timers)) n t a (moves_before begun sent (all_expired sent (due_in sent.clock sent.timers)) n t h (all_expired_by sent (due_in sent.clock sent.timers))))
sends_go s begun sent n m t a b e late (inr k) =
    let l : m ≤ sent.clock = subst (λ c. m ≤ c) (sym k.1) late in
    goes_behind s sent (all_expired sent (due_in sent.clock sent.timers)) n t (by_both s begun sent a b)
    (all_due_go sent (due_in sent.clock sent.timers) n m t (due_among sent n m t (of_number sent.timers n) refl k.0 e l) e l k.0)

pub a_due_timer_expires : ADueTimerExpires
unfolding turned expired_at
a_due_timer_expires s now n m t f e late =
    let begun : Server = record (arrived_many 64 s) { clock = now } in
    sends_go s begun (sent_many 64 begun) n m t (asked_by s now) (sent_many_by 64 begun) e late (sent_many_runs 64 begun n m t e (asked_runs s n t f))

pub a_timer_is_set_once : ATimerIsSetOnce
unfolding timers.observed
a_timer_is_set_once t v base now f = ((λ h. rw (h, f) refl), (λ h e. rw (h, f, e) refl), (λ m h e. rw (h, f, e) refl))
