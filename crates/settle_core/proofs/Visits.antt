-- What the code reads of a state, and the parts of a round.
use Rattle.std.proofs.Common.{arith, ◌≡◌, ◌≤◌, ◌<◌, ◌+◌, ◌-◌, ◌*◌, ℕ, suc, List, [], ◌∷◌, ◌++◌, Bool, true, false, refl, sym, ap, ◌∙◌, subst, Result, Ok, Err, take, get_or, length}
use Rattle.std.specs.Prelude.{Option, Some, None, option_map, OnOk, if◌then◌else◌}
use Rattle.std.specs.declared.alloc.AllocError.{AllocError}
use Rattle.std.proofs.lemmas.List.{append_assoc, take_more}
use Rattle.rdma_types.specs.declared.answers.Answer.{Answer}
use Rattle.rdma_types.specs.declared.names.ObjName.{ObjName}
use Rattle.protocol.specs.declared.events.WorldEvent.{WorldEvent}
use Rattle.protocol.specs.declared.events.WorldEvent.TheVariants as world_event
use Rattle.protocol.specs.EndWords.{is_resuming_link, is_running}
use Rattle.protocol.specs.Fabric.{first_of, pending}
use Rattle.protocol.specs.State.{Link, World}
use Rattle.protocol.specs.WorldStep.{home, live_context, world_after, world_step}
use Rattle.protocol.specs.Settle.{Settling, drained, is_sent, link_at, pass, sending_all, sending_fuel, sends_all, sends_if_running, settle_step, transmit, visited, visiting}
use Rattle.protocol.proofs.Histories.{forgetting-forgetting, kept_flight-forgetting, length-forgetting}
use Rattle.law_kept_datagrams.specs.Alike.{with_kept_datagrams}
use Rattle.law_kept_datagrams.proofs.Stores.{pending_alike}
use Rattle.law_settling.specs.Events.{send_events, sending_events}
use Rattle.law_settling.proofs.steps.Events.{send_lead}
use Rattle.world_core.specs.Lives.{is_open, is_pending, link_view}
use Rattle.world_core.specs.Places.{HaveOwnIds}
use Rattle.context_core.specs.declared.lives.LinkView.{LinkView}
use Rattle.settle_core.specs.Shown.{Settles, Shows}
use Rattle.settle_core.specs.Steps.{IsLinkAt, delivered_at, sent_once, sweeping, view_resumes, view_runs}
use Rattle.settle_core.specs.declared.notes.Notes.{Notes}
use Rattle.settle_core.proofs.Sweeps.{pass_stays, pass_sweeps, sweeping-more}
use Rattle.settle_core.proofs.Turns.{unsent_stays}
use Rattle.settle_core.proofs.Worlds.{after_append}

pub on_ok : {T P Q : Type 0} (r : Result T AllocError) → (P → Q) → OnOk r P → OnOk r Q
on_ok (Ok x) f h = f h
on_ok (Err e) f h = tt

-- ---- what is read

pub link_shown : (w : World) (n : Notes) (s : Settling) (o : ObjName) → Shows w n s → link_at w o ≡ link_at s.world o
unfolding live_context home
link_shown w n s o h = ap (λ (x : World). link_at x o) h.world

pub pending_shown : (w : World) (n : Notes) (s : Settling) (k : ℕ) → Shows w n s → is_pending w.sent k ≡ is_pending s.world.sent k
pending_shown w n s k h = ap (λ (x : World). is_pending x.sent k) h.world ∙ ap is_open (kept_flight-forgetting s.world.sent k)

pub least_shown : (w : World) (n : Notes) (s : Settling) → Shows w n s → pending w.sent ≡ pending s.world.sent
unfolding pending
least_shown w n s h = ap (λ (x : World). pending x.sent) h.world ∙ ap first_of (pending_alike (with_kept_datagrams s.world).sent s.world.sent (forgetting-forgetting s.world.sent))

pub count_shown : (w : World) (n : Notes) (s : Settling) → Shows w n s → length w.sent ≡ length s.world.sent
count_shown w n s h = ap (λ (x : World). length x.sent) h.world ∙ length-forgetting s.world.sent

-- ---- draining

by_true : {A : Type 0} (b : Bool) (x y : A) → b ≡ true → (if b then x else y) ≡ x
by_true true x y h = refl
by_true false x y h = absurd (cc)

by_false : {A : Type 0} (b : Bool) (x y : A) → b ≡ false → (if b then x else y) ≡ y
by_false true x y h = absurd (cc)
by_false false x y h = refl

pub shows_as : (w : World) (n : Notes) (s t : Settling) → s ≡ t → Shows w n s → Shows w n t
shows_as w n s t e h = subst (λ (x : Settling). Shows w n x) e h

pub delivered_not : (w : World) (n : Notes) (k : ℕ) → is_pending w.sent k ≡ false → Settles (λ s. delivered_at s k) w n w n
unfolding delivered_at
delivered_not w n k h s shows = shows_as w n s (delivered_at s k) (sym (by_false (is_pending s.world.sent k) _ s (sym (pending_shown w n s k shows) ∙ h))) shows

pub delivered_one : (w w' : World) (n n' : Notes) (k : ℕ) → is_pending w.sent k ≡ true → Settles (λ s. settle_step s (world_event.Deliver k)) w n w' n' → Settles (λ s. delivered_at s k) w n w' n'
unfolding delivered_at
delivered_one w w' n n' k h goes s shows = shows_as w' n' (settle_step s (world_event.Deliver k)) (delivered_at s k) (sym (by_true (is_pending s.world.sent k) _ s (sym (pending_shown w n s k shows) ∙ h))) (goes s shows)

pub sweeps_on : (s : Settling) (first k : ℕ) → first ≤ k → delivered_at (sweeping s first (k - first)) k ≡ sweeping s first (k + 1 - first)
sweeps_on s first k h =
    let place : first + (k - first) ≡ k = omega arith in
    let more : suc (k - first) ≡ k + 1 - first = omega arith in
    sym (ap (λ i. delivered_at (sweeping s first (k - first)) i) place) ∙ (sym (sweeping-more (k - first) s first) ∙ ap (sweeping s first) more)

pub sweeps_none : (s : Settling) (first n : ℕ) → n ≡ 0 → sweeping s first n ≡ s
unfolding sweeping
sweeps_none s first n h = ap (sweeping s first) h

pub pass_swept : (w w' : World) (n n' : Notes) (first end : ℕ) → pending w.sent ≡ Some first → end ≡ length w.sent + 1 → Settles (λ s. sweeping s first (end - first)) w n w' n' → Settles pass w n w' n'
pass_swept w w' n n' first end least next goes s shows =
    let counted : end - first ≡ length s.world.sent + 1 - first = ap (λ i. i - first) (next ∙ ap (λ i. i + 1) (count_shown w n s shows)) in
    shows_as w' n' (sweeping s first (end - first)) (pass s) (ap (sweeping s first) counted ∙ sym (pass_sweeps s first (sym (least_shown w n s shows) ∙ least))) (goes s shows)

pub pass_none : (w : World) (n : Notes) → pending w.sent ≡ None → Settles pass w n w n
pass_none w n least s shows = shows_as w n s (pass s) (sym (pass_stays s (sym (least_shown w n s shows) ∙ least))) shows

-- ---- sending

pub not_sent : (w w' : World) (n n' : Notes) (s : Settling) (o : ObjName) (answer : Answer) → Shows w n s → HaveOwnIds w.devices → Shows w' n' (settle_step s (transmit o)) → answer ≡ (world_step s.world (transmit o)).answer → is_sent answer ≡ false →
    (false ≡ is_sent (world_step s.world (transmit o)).answer) × Shows w' n' s
not_sent w w' n n' s o answer shows own after told none =
    let unsent : is_sent (world_step s.world (transmit o)).answer ≡ false = sym (ap is_sent told) ∙ none in
    let same : HaveOwnIds s.world.devices = subst (λ (x : World). HaveOwnIds x.devices) shows.world own in
    (sym unsent, shows_as w' n' (settle_step s (transmit o)) s (unsent_stays s o same unsent) after)

choose : (b : Bool) (x y : Settling) → b ≡ true → (elim b as (λ z. Settling) [ true ↦ x | false ↦ y ]) ≡ x
choose true x y h = refl
choose false x y h = absurd (cc)

choose_not : (b : Bool) (x y : Settling) → b ≡ false → (elim b as (λ z. Settling) [ true ↦ x | false ↦ y ]) ≡ y
choose_not true x y h = absurd (cc)
choose_not false x y h = refl

sends_next : (f : ℕ) (t : Settling) (o : ObjName) → is_sent (world_step t.world (transmit o)).answer ≡ true → sending_all (suc f) t o ≡ sending_all f (drained (settle_step t (transmit o))) o
unfolding sending_all
sends_next f t o h = choose (is_sent (world_step t.world (transmit o)).answer) (sending_all f (drained (settle_step t (transmit o))) o) t h

pub sends_no_more : (f : ℕ) (t : Settling) (o : ObjName) → is_sent (world_step t.world (transmit o)).answer ≡ false → sending_all (suc f) t o ≡ t
unfolding sending_all
sends_no_more f t o h = choose_not (is_sent (world_step t.world (transmit o)).answer) (sending_all f (drained (settle_step t (transmit o))) o) t h

-- the state t is on the way of an end's transmissions, with so much fuel left
pub record OnWay (w : World) (n : Notes) (s : Settling) (o : ObjName) (most left : ℕ) : Type 0 where
  pub at : Settling
  pub shows : Shows w n at
  pub way : sending_all left at o ≡ sending_all most s o
  -- the events by which it came there, before those that are left
  pub made : List WorldEvent
  pub led : world_after s.world made ≡ at.world
  pub events : made ++ sending_events left at o ≡ sending_events most s o

pub way_begins : (w : World) (n : Notes) (s : Settling) (o : ObjName) (most : ℕ) → Shows w n s → OnWay w n s o most (most - 0)
unfolding world_after
way_begins w n s o most shows =
    let e : most - 0 ≡ most = omega arith in
    record { at = s; shows = shows; way = ap (λ f. sending_all f s o) e; made = []; led = refl; events = ap (λ f. sending_events f s o) e }

-- the events of one more transmission
events_next : (f : ℕ) (t : Settling) (o : ObjName) → is_sent (world_step t.world (transmit o)).answer ≡ true → sending_events (suc f) t o ≡ send_events t o ++ sending_events f (drained (settle_step t (transmit o))) o
unfolding sending_events
events_next f t o h = by (is_sent (world_step t.world (transmit o)).answer) h
  where
    by : (b : Bool) → b ≡ true → (elim b as (λ z. List WorldEvent) [ true ↦ send_events t o ++ sending_events f (drained (settle_step t (transmit o))) o | false ↦ [] ]) ≡ send_events t o ++ sending_events f (drained (settle_step t (transmit o))) o
    by true e = refl
    by false e = absurd (cc)

pub way_goes : (w w' : World) (n n' : Notes) (s : Settling) (o : ObjName) (most i : ℕ) (sent : Bool) → i < most → (h : OnWay w n s o most (most - i)) → sent ≡ true →
    ((s : Settling) → Shows w n s → (sent ≡ is_sent (world_step s.world (transmit o)).answer) × Shows w' n' (sent_once sent s o)) → OnWay w' n' s o most (most - (i + 1))
way_goes w w' n n' s o most i sent below h is goes =
    let g = goes h.at h.shows in
    let e : most - i ≡ suc (most - (i + 1)) = omega arith in
    record {
      at = drained (settle_step h.at (transmit o));
      shows = shows_as w' n' (sent_once sent h.at o) (drained (settle_step h.at (transmit o))) (by_true sent _ _ is) g.1;
      way = sym (sends_next (most - (i + 1)) h.at o (sym g.0 ∙ is)) ∙ (ap (λ f. sending_all f h.at o) (sym e) ∙ h.way);
      made = h.made ++ send_events h.at o;
      led = after_append h.made (send_events h.at o) s.world ∙ (ap (λ (x : World). world_after x (send_events h.at o)) h.led ∙ (send_lead h.at o).after);
      events =
          append_assoc h.made (send_events h.at o) (sending_events (most - (i + 1)) (drained (settle_step h.at (transmit o))) o)
          ∙ (ap (λ z. h.made ++ z) (sym (ap (λ f. sending_events f h.at o) e ∙ events_next (most - (i + 1)) h.at o (sym g.0 ∙ is))) ∙ h.events);
    }

pub way_stops : (w w' : World) (n n' : Notes) (s : Settling) (o : ObjName) (most i : ℕ) (sent : Bool) → i < most → (h : OnWay w n s o most (most - i)) → sent ≡ false →
    ((s : Settling) → Shows w n s → (sent ≡ is_sent (world_step s.world (transmit o)).answer) × Shows w' n' (sent_once sent s o)) → Shows w' n' (sending_all most s o)
way_stops w w' n n' s o most i sent below h is goes =
    let g = goes h.at h.shows in
    let e : most - i ≡ suc (most - (i + 1)) = omega arith in
    shows_as w' n' (sent_once sent h.at o) (sending_all most s o)
    (by_false sent _ _ is ∙ (sym (sends_no_more (most - (i + 1)) h.at o (sym g.0 ∙ is)) ∙ (ap (λ f. sending_all f h.at o) (sym e) ∙ h.way))) g.1

pub way_ends : (w : World) (n : Notes) (s : Settling) (o : ObjName) (most left : ℕ) → left ≡ 0 → (h : OnWay w n s o most left) → Shows w n (sending_all most s o)
unfolding sending_all
way_ends w n s o most left none h = shows_as w n h.at (sending_all most s o) (ap (λ f. sending_all f h.at o) (sym none) ∙ h.way) h.shows

pub fuel_some : (l : Option Link) (v : LinkView) → Some v ≡ option_map link_view l → sending_fuel l ≡ 2 * (v.last - v.una) + 2
fuel_some None v h = absurd (cc)
fuel_some (Some l) v h = let same : v ≡ link_view l = cc in sym (ap (λ (x : LinkView). 2 * (x.last - x.una) + 2) same)

pub sends_most : (w w' : World) (n n' : Notes) (o : ObjName) (v : LinkView) (most : ℕ) → IsLinkAt w o v → most ≡ 2 * (v.last - v.una) + 2 → ((s : Settling) → Shows w n s → Shows w' n' (sending_all most s o)) → Settles (λ s. sends_all s o) w n w' n'
unfolding sends_all
sends_most w w' n n' o v most h is goes s shows =
    shows_as w' n' (sending_all most s o) (sends_all s o) (ap (λ f. sending_all f s o) (is ∙ (sym (fuel_some (link_at w o) v h) ∙ ap sending_fuel (link_shown w n s o shows)))) (goes s shows)

runs_is : (l : Option Link) (v : LinkView) → Some v ≡ option_map link_view l → is_running l ≡ view_runs v
runs_is None v h = absurd (cc)
runs_is (Some l) v h = let same : v ≡ link_view l = cc in sym (ap view_runs same)

resumes_is : (l : Option Link) (v : LinkView) → Some v ≡ option_map link_view l → is_resuming_link l ≡ view_resumes v
resumes_is None v h = absurd (cc)
resumes_is (Some l) v h = let same : v ≡ link_view l = cc in sym (ap view_resumes same)

pub runs_shown : (w : World) (n : Notes) (s : Settling) (o : ObjName) (v : LinkView) (b : Bool) → Shows w n s → IsLinkAt w o v → view_runs v ≡ b → is_running (link_at s.world o) ≡ b
runs_shown w n s o v b shows at h = ap is_running (sym (link_shown w n s o shows)) ∙ (runs_is (link_at w o) v at ∙ h)

pub resumes_shown : (w : World) (n : Notes) (s : Settling) (o : ObjName) (v : LinkView) (b : Bool) → Shows w n s → IsLinkAt w o v → view_resumes v ≡ b → is_resuming_link (link_at s.world o) ≡ b
resumes_shown w n s o v b shows at h = ap is_resuming_link (sym (link_shown w n s o shows)) ∙ (resumes_is (link_at w o) v at ∙ h)

pub runs_on : (w w' : World) (n n' : Notes) (o : ObjName) (v : LinkView) → IsLinkAt w o v → view_runs v ≡ true → Settles (λ s. sends_all s o) w n w' n' → Settles (λ s. sends_if_running s o) w n w' n'
unfolding sends_if_running
runs_on w w' n n' o v at h goes s shows = shows_as w' n' (sends_all s o) (sends_if_running s o) (sym (by_true (is_running (link_at s.world o)) _ _ (runs_shown w n s o v true shows at h))) (goes s shows)

pub runs_not : (w : World) (n : Notes) (o : ObjName) (v : LinkView) → IsLinkAt w o v → view_runs v ≡ false → Settles (λ s. sends_if_running s o) w n w n
unfolding sends_if_running
runs_not w n o v at h s shows = shows_as w n s (sends_if_running s o) (sym (by_false (is_running (link_at s.world o)) _ _ (runs_shown w n s o v false shows at h))) shows

pub visits_resuming : (w w' : World) (n n' : Notes) (o : ObjName) (v : LinkView) → IsLinkAt w o v → view_resumes v ≡ true → Settles (λ s. sends_if_running (drained (settle_step s (transmit o))) o) w n w' n' → Settles (λ s. visited s o) w n w' n'
unfolding visited
visits_resuming w w' n n' o v at h goes s shows = shows_as w' n' (sends_if_running (drained (settle_step s (transmit o))) o) (visited s o) (sym (by_true (is_resuming_link (link_at s.world o)) _ _ (resumes_shown w n s o v true shows at h))) (goes s shows)

pub visits_other : (w w' : World) (n n' : Notes) (o : ObjName) (v : LinkView) → IsLinkAt w o v → view_resumes v ≡ false → Settles (λ s. sends_if_running s o) w n w' n' → Settles (λ s. visited s o) w n w' n'
unfolding visited
visits_other w w' n n' o v at h goes s shows = shows_as w' n' (sends_if_running s o) (visited s o) (sym (by_false (is_resuming_link (link_at s.world o)) _ _ (resumes_shown w n s o v false shows at h))) (goes s shows)

-- an end that is not connected sends nothing
running_none : (l : Option Link) → None ≡ option_map link_view l → is_running l ≡ false
running_none None h = refl
running_none (Some l) h = absurd (cc)

resuming_none : (l : Option Link) → None ≡ option_map link_view l → is_resuming_link l ≡ false
resuming_none None h = refl
resuming_none (Some l) h = absurd (cc)

pub runs_none : (w : World) (n : Notes) (o : ObjName) → None ≡ option_map link_view (link_at w o) → Settles (λ s. sends_if_running s o) w n w n
unfolding sends_if_running
runs_none w n o h s shows =
    shows_as w n s (sends_if_running s o) (sym (by_false (is_running (link_at s.world o)) _ _ (ap is_running (sym (link_shown w n s o shows)) ∙ running_none (link_at w o) h))) shows

pub visits_none : (w : World) (n : Notes) (o : ObjName) → None ≡ option_map link_view (link_at w o) → Settles (λ s. visited s o) w n w n
unfolding visited
visits_none w n o h s shows =
    shows_as w n (sends_if_running s o) (visited s o) (sym (by_false (is_resuming_link (link_at s.world o)) _ _ (ap is_resuming_link (sym (link_shown w n s o shows)) ∙ resuming_none (link_at w o) h))) (runs_none w n o h s shows)

-- ---- each end in order

visiting-push : (visit : Settling → ObjName → Settling) (s : Settling) (os : List ObjName) (o : ObjName) → visiting visit s (os ++ o ∷ []) ≡ visit (visiting visit s os) o
unfolding visiting
visiting-push visit s [] o = refl
visiting-push visit s (x ∷ os) o = visiting-push visit (visit s x) os o

pub visiting-more : (visit : Settling → ObjName → Settling) (s : Settling) (os : List ObjName) (i : ℕ) (o : ObjName) → i < length os → o ≡ get_or os i o →
    visit (visiting visit s (take i os)) o ≡ visiting visit s (take (i + 1) os)
visiting-more visit s os i o below is =
    let more : take (i + 1) os ≡ take i os ++ o ∷ [] = take_more os i o below ∙ ap (λ x. take i os ++ x ∷ []) (sym is) in
    sym (ap (visiting visit s) more ∙ visiting-push visit s (take i os) o)

pub visiting-none : (visit : Settling → ObjName → Settling) (s : Settling) → visiting visit s [] ≡ s
unfolding visiting
visiting-none visit s = refl
