-- Where the parts of a round run out of memory: the first of their events were made.
use Rattle.std.proofs.Common.{arith, ◌≡◌, ◌<◌, ◌+◌, ◌-◌, ◌*◌, ℕ, suc, List, [], ◌∷◌, ◌++◌, Bool, true, false, refl, sym, ap, ◌∙◌, subst}
use Rattle.std.specs.Prelude.{Option, Some, None, option_map, if◌then◌else◌, ◌&&◌, not, nat_lt}
use Rattle.indexmap.specs.IndexMap.{get}
use Rattle.rdma_types.specs.Lists.{same_object}
use Rattle.rdma_types.specs.declared.names.ObjName.{ObjName}
use Rattle.protocol.specs.declared.events.WorldEvent.{WorldEvent}
use Rattle.protocol.specs.EndWords.{is_resuming_link, is_running}
use Rattle.protocol.specs.State.{Link, World}
use Rattle.protocol.specs.Settle.{Settling, drained, expire_visit, last_wait, link_at, live_names, may_step, rnr_visit, sending_fuel, settle_step, transmit, visited, visiting}
use Rattle.law_kept_datagrams.specs.Alike.{with_kept_datagrams}
use Rattle.law_settling.specs.Events.{drain_events, expire_events, expire_events_by, expiry_events, rnr_events, rnr_events_by, round_events, running_events, send_all_events, send_events, sending_events, timer_events, timer_events_if_still, visit_events, visiting_events}
use Rattle.law_settling.proofs.steps.Events.{drained_lead, rnr_lead, send_lead, visit_lead, visiting_lead}
use Rattle.world_core.specs.Lives.{has_ended, link_view}
use Rattle.world_core.specs.Settled.{IsCut}
use Rattle.context_core.specs.declared.lives.LinkView.{LinkView}
use Rattle.settle_core.specs.Shown.{Cuts, Settles, Shows}
use Rattle.settle_core.specs.Steps.{IsLinkAt, announce_events, once_events, view_resumes, view_runs}
use Rattle.settle_core.specs.Waits.{may_wait, view_expires}
use Rattle.settle_core.specs.declared.notes.Notes.{Notes}
use Rattle.settle_core.proofs.Cuts.{cut_after, cut_all, cut_as, cut_first, next_cut, one_led}
use Rattle.settle_core.proofs.EndTimers.{expiry, may_shown, rnr_over, waits_is}
use Rattle.settle_core.proofs.Ends.{names_shown}
use Rattle.settle_core.proofs.Visits.{OnWay, fuel_some, link_shown, resumes_shown, runs_shown}

-- a step that was made, where what follows it runs out of memory
pub settled_cuts : (w w' : World) (n n' : Notes) (e : WorldEvent) → Settles (λ s. settle_step s e) w n w' n' → Cuts (λ s. e ∷ []) w n w'
settled_cuts w w' n n' e goes s shows = cut_all s.world w' (e ∷ []) ((goes s shows).world ∙ ap with_kept_datagrams (sym (one_led s e)))

pick : {A : Type 0} (b : Bool) (x y : A) → b ≡ true → (if b then x else y) ≡ x
pick true x y h = refl
pick false x y h = absurd (cc)

pick_not : {A : Type 0} (b : Bool) (x y : A) → b ≡ false → (if b then x else y) ≡ y
pick_not true x y h = absurd (cc)
pick_not false x y h = refl

-- ---- sending

pub way_cut : (w new : World) (n : Notes) (s : Settling) (o : ObjName) (most i : ℕ) → i < most → (h : OnWay w n s o most (most - i)) → Cuts (λ t. once_events t o) w n new → IsCut s.world (sending_events most s o) new
way_cut w new n s o most i below h c =
    let e : suc (most - (i + 1)) ≡ most - i = omega arith in
    cut_as s.world new (h.made ++ sending_events (most - i) h.at o) (sending_events most s o) h.events
    (cut_after s.world h.at.world new h.made (sending_events (most - i) h.at o) h.led
    (subst (λ f. IsCut h.at.world (sending_events f h.at o) new) e (next_cut (most - (i + 1)) h.at o new (c h.at h.shows))))

pub sends_cut : (w new : World) (n : Notes) (o : ObjName) (v : LinkView) (most : ℕ) → IsLinkAt w o v → most ≡ 2 * (v.last - v.una) + 2 → ((s : Settling) → Shows w n s → IsCut s.world (sending_events most s o) new) → Cuts (λ s. send_all_events s o) w n new
unfolding send_all_events
sends_cut w new n o v most h is c s shows =
    cut_as s.world new (sending_events most s o) (sending_events (sending_fuel (link_at s.world o)) s o)
    (ap (λ f. sending_events f s o) (is ∙ (sym (fuel_some (link_at w o) v h) ∙ ap sending_fuel (link_shown w n s o shows)))) (c s shows)

pub running_cut : (w new : World) (n : Notes) (o : ObjName) (v : LinkView) → IsLinkAt w o v → view_runs v ≡ true → Cuts (λ s. send_all_events s o) w n new → Cuts (λ s. running_events s o) w n new
unfolding running_events
running_cut w new n o v at h c s shows =
    cut_as s.world new (send_all_events s o) (running_events s o) (sym (pick (is_running (link_at s.world o)) (send_all_events s o) [] (runs_shown w n s o v true shows at h))) (c s shows)

-- an end that announces itself: as it transmits, and as it goes on
pub announce_first : (s : Settling) (o : ObjName) (new : World) → IsCut s.world (send_events s o) new → IsCut s.world (announce_events s o) new
announce_first s o new c = cut_first s.world new (send_events s o) (running_events (drained (settle_step s (transmit o))) o) c

pub announce_then : (s : Settling) (o : ObjName) (new : World) → IsCut (drained (settle_step s (transmit o))).world (running_events (drained (settle_step s (transmit o))) o) new → IsCut s.world (announce_events s o) new
announce_then s o new c = cut_after s.world (drained (settle_step s (transmit o))).world new (send_events s o) (running_events (drained (settle_step s (transmit o))) o) (send_lead s o).after c

pub visit_resuming_cut : (w new : World) (n : Notes) (o : ObjName) (v : LinkView) → IsLinkAt w o v → view_resumes v ≡ true → Cuts (λ s. announce_events s o) w n new → Cuts (λ s. visit_events s o) w n new
unfolding visit_events
visit_resuming_cut w new n o v at h c s shows =
    cut_as s.world new (announce_events s o) (visit_events s o) (sym (pick (is_resuming_link (link_at s.world o)) (announce_events s o) (running_events s o) (resumes_shown w n s o v true shows at h))) (c s shows)

pub visit_other_cut : (w new : World) (n : Notes) (o : ObjName) (v : LinkView) → IsLinkAt w o v → view_resumes v ≡ false → Cuts (λ s. running_events s o) w n new → Cuts (λ s. visit_events s o) w n new
unfolding visit_events
visit_other_cut w new n o v at h c s shows =
    cut_as s.world new (running_events s o) (visit_events s o) (sym (pick_not (is_resuming_link (link_at s.world o)) (announce_events s o) (running_events s o) (resumes_shown w n s o v false shows at h))) (c s shows)

-- ---- timers

rnr_events_are : (w : World) (n : Notes) (s : Settling) (o : ObjName) (l : Option Link) (v : LinkView) (ended : Bool) → Shows w n s → Some v ≡ option_map link_view l → ended ≡ has_ended w v.peer → v.rnr_wait ≡ true →
    may_wait v ended (get same_object n.waited o) ≡ true → rnr_over o ∷ [] ≡ rnr_events_by s o l
rnr_events_are w n s o None v ended shows h is waits may = absurd (cc)
rnr_events_are w n s o (Some l) v ended shows h is waits may =
    let same : v ≡ link_view l = cc in
    let yes : (l.sender.rnr_wait && may_step s.world l (last_wait s o)) ≡ true =
    ap (λ b. b && may_step s.world l (last_wait s o)) (waits_is l v true same waits) ∙ (sym (may_shown w n s o l v ended shows same is) ∙ may) in
    sym (pick (l.sender.rnr_wait && may_step s.world l (last_wait s o)) (rnr_over o ∷ []) [] yes)

pub rnr_cut : (w new : World) (n : Notes) (o : ObjName) (v : LinkView) (ended : Bool) → Some v ≡ option_map link_view (link_at w o) → ended ≡ has_ended w v.peer → v.rnr_wait ≡ true → may_wait v ended (get same_object n.waited o) ≡ true →
    Cuts (λ s. rnr_over o ∷ []) w n new → Cuts (λ s. rnr_events s o) w n new
unfolding rnr_events
rnr_cut w new n o v ended h is waits may c s shows =
    cut_as s.world new (rnr_over o ∷ []) (rnr_events s o) (rnr_events_are w n s o (link_at w o) v ended shows h is waits may ∙ ap (rnr_events_by s o) (link_shown w n s o shows)) (c s shows)

expire_events_are : (s : Settling) (o : ObjName) (l : Option Link) (v : LinkView) → Some v ≡ option_map link_view l → view_expires v ≡ true → expiry o ∷ [] ≡ expire_events_by s o l
expire_events_are s o None v h e = absurd (cc)
expire_events_are s o (Some l) v h e =
    let same : v ≡ link_view l = cc in
    sym (pick (is_running (Some l) && (not l.sender.rnr_wait && nat_lt l.sender.una l.sender.next)) (expiry o ∷ []) [] (ap view_expires (sym same) ∙ e))

pub expire_cut : (w new : World) (n : Notes) (o : ObjName) (v : LinkView) → Some v ≡ option_map link_view (link_at w o) → view_expires v ≡ true → Cuts (λ s. expiry o ∷ []) w n new → Cuts (λ s. expire_events s o) w n new
unfolding expire_events
expire_cut w new n o v h e c s shows =
    cut_as s.world new (expiry o ∷ []) (expire_events s o) (expire_events_are s o (link_at w o) v h e ∙ ap (expire_events_by s o) (link_shown w n s o shows)) (c s shows)

pub timers_first : (w new : World) (n : Notes) (os : List ObjName) → Cuts (λ s. visiting_events rnr_visit rnr_events s os) w n new → Cuts (λ s. timer_events s os) w n new
unfolding timer_events
timers_first w new n os c s shows = cut_first s.world new (visiting_events rnr_visit rnr_events s os) (expiry_events (visiting rnr_visit s os) os) (c s shows)

pub timers_then : (w w1 new : World) (n n1 : Notes) (os : List ObjName) → Settles (λ s. visiting rnr_visit s os) w n w1 n1 → n1.stepped ≡ false → Cuts (λ s. visiting_events expire_visit expire_events s os) w1 n1 new → Cuts (λ s. timer_events s os) w n new
unfolding timer_events
timers_then w w1 new n n1 os goes h c s shows =
    let t : Settling = visiting rnr_visit s os in
    let g = goes s shows in
    cut_after s.world t.world new (visiting_events rnr_visit rnr_events s os) (expiry_events t os) (visiting_lead rnr_visit rnr_events rnr_lead os s).after
    (cut_as t.world new (visiting_events expire_visit expire_events t os) (expiry_events t os) (sym (pick_not t.stepped [] (visiting_events expire_visit expire_events t os) (sym g.stepped ∙ h))) (c t g))

-- ---- a round

pub round_drains : (w new : World) (n : Notes) → Cuts (λ s. drain_events s) w n new → Cuts (λ s. round_events s) w n new
unfolding round_events
round_drains w new n c s shows = cut_first s.world new (drain_events s) _ (c s shows)

pub round_sends : (w w1 new : World) (n n1 : Notes) (ends : List ObjName) → ends ≡ live_names w → Settles drained w n w1 n1 → Cuts (λ s. visiting_events visited visit_events s ends) w1 n1 new → Cuts (λ s. round_events s) w n new
unfolding round_events
round_sends w w1 new n n1 ends lives goes c s shows =
    let os : List ObjName = live_names s.world in
    let names = names_shown w n s ends shows lives in
    cut_after s.world (drained s).world new (drain_events s) (visiting_events visited visit_events (drained s) os ++ timer_events_if_still (visiting visited (drained s) os) os) (drained_lead s).after
    (cut_first (drained s).world new (visiting_events visited visit_events (drained s) os) (timer_events_if_still (visiting visited (drained s) os) os)
    (subst (λ z. IsCut (drained s).world (visiting_events visited visit_events (drained s) z) new) names (c (drained s) (goes s shows))))

pub round_times : (w w1 new : World) (n n1 : Notes) (ends : List ObjName) → ends ≡ live_names w → Settles (λ s. visiting visited (drained s) ends) w n w1 n1 → n1.changed ≡ false → Cuts (λ s. timer_events s ends) w1 n1 new → Cuts (λ s. round_events s) w n new
unfolding round_events
round_times w w1 new n n1 ends lives goes h c s shows =
    let os : List ObjName = live_names s.world in
    let t : Settling = visiting visited (drained s) os in
    let names = names_shown w n s ends shows lives in
    let same : visiting visited (drained s) ends ≡ t = ap (visiting visited (drained s)) names in
    let g = goes s shows in
    let still : t.changed ≡ false = sym (ap (λ (x : Settling). x.changed) same) ∙ (sym g.changed ∙ h) in
    let d : IsCut t.world (timer_events t os) new = subst (λ z. IsCut t.world (timer_events t z) new) names (subst (λ (x : Settling). IsCut x.world (timer_events x ends) new) same (c (visiting visited (drained s) ends) g)) in
    cut_after s.world (drained s).world new (drain_events s) (visiting_events visited visit_events (drained s) os ++ timer_events_if_still t os) (drained_lead s).after
    (cut_after (drained s).world t.world new (visiting_events visited visit_events (drained s) os) (timer_events_if_still t os) (visiting_lead visited visit_events visit_lead os (drained s)).after
    (cut_as t.world new (timer_events t os) (timer_events_if_still t os) (sym (pick_not t.changed [] (timer_events t os) still)) d))
