-- A round leaves all as it is, where nothing is pending and all live ends are idle.
use Rattle.std.proofs.Common.{◌≡◌, List, [], ◌∷◌, map, Bool, true, false, refl, sym, ap, ◌∙◌, bytes_eq}
use Rattle.std.specs.Prelude.{Option, Some, None, flat_map, option_map, ◌&&◌, not, if◌then◌else◌}
use Rattle.std.specs.List.{list_all}
use Rattle.std.proofs.lemmas.List.Folds.{list_all-append, list_all-map}
use Rattle.rdma_types.specs.Lists.{first_that, named}
use Rattle.rdma_types.specs.declared.names.Name.{Name}
use Rattle.rdma_types.specs.declared.names.ObjName.{ObjName}
use Rattle.protocol.specs.Fabric.{pending}
use Rattle.protocol.specs.State.{Context, Device, End, Link, World, no_context, no_device, no_end}
use Rattle.protocol.specs.WorldStep.{home, live_context, or_none}
use Rattle.protocol.specs.EndWords.{is_resuming_link, is_running}
use Rattle.protocol.specs.Settle.{Settling, drained, expire_by, expire_visit, if_none_stepped, link_at, live_names, pass, rnr_by, rnr_visit, round, sends_all, sends_if_running, settle_step, timers, timers_if_still, transmit, visited, visiting}
use Rattle.settle_core.proofs.NothingToSend.{rest_sends}
use Rattle.settle_core.proofs.EndTimers.{expire_false, rnr_still}
use Rattle.settle_core.proofs.Sweeps.{pass_stays}
use Rattle.settle_core.proofs.Visits.{least_shown, shows_as}
use Rattle.context_core.specs.declared.lives.LiveEnd.{LiveEnd}
use Rattle.world_core.specs.Lives.{link_view, live_end, live_list}
use Rattle.settle_core.specs.Shown.{Settles, Shows}
use Rattle.settle_core.specs.declared.notes.Notes.{Notes}
use Rattle.settle_core.specs.Idle.{end_is_idle, link_is_idle, view_is_idle}
use Rattle.settle_core.specs.Steps.{view_may_send, view_resumes, view_runs}
use Rattle.settle_core.specs.Waits.{view_expires}

-- ---- what holds of all listed ends holds of the end that a name finds

and_left : (a b : Bool) → (a && b) ≡ true → a ≡ true
and_left true b h = refl
and_left false b h = absurd (cc)

and_right : (a b : Bool) → (a && b) ≡ true → b ≡ true
and_right true b h = h
and_right false b h = absurd (cc)

all_flat : {A B : Type 0} (test : B → Bool) (f : A → List B) (xs : List A) → list_all test (flat_map f xs) ≡ list_all (λ x. list_all test (f x)) xs
all_flat test f [] = refl
all_flat test f (x ∷ xs) = list_all-append test (f x) (flat_map f xs) ∙ ap (λ b. list_all test (f x) && b) (all_flat test f xs)

all_same : {A : Type 0} (test test' : A → Bool) (xs : List A) → ((x : A) → test x ≡ test' x) → list_all test xs ≡ list_all test' xs
all_same test test' [] each = refl
all_same test test' (x ∷ xs) each = ap (λ b. b && list_all test xs) (each x) ∙ ap (λ b. test' x && b) (all_same test test' xs each)

all_named : {A : Type 0} (test : A → Bool) (name : A → Name) (none : A) (n : Name) (xs : List A) → test none ≡ true → list_all test xs ≡ true → test (named name none n xs) ≡ true
unfolding named
all_named test name none n [] h all = h
all_named test name none n (x ∷ xs) h all = by (bytes_eq (name x) n) (all_named test name none n xs h (and_right (test x) (list_all test xs) all))
  where
    by : (b : Bool) → test (named name none n xs) ≡ true → test (if b then x else named name none n xs) ≡ true
    by true later = and_left (test x) (list_all test xs) all
    by false later = later

all_first : (test p : Device → Bool) (ds : List Device) → test no_device ≡ true → list_all test ds ≡ true → test (or_none (first_that p ds)) ≡ true
unfolding first_that
all_first test p [] h all = h
all_first test p (d ∷ ds) h all = by (p d) (all_first test p ds h (and_right (test d) (list_all test ds) all))
  where
    by : (b : Bool) → test (or_none (first_that p ds)) ≡ true → test (or_none (if b then Some d else first_that p ds)) ≡ true
    by true later = and_left (test d) (list_all test ds) all
    by false later = later

-- an end is idle
abbrev end_rests : End → Bool
end_rests e = link_is_idle (option_map link_view e.link)

-- .. each of a context
abbrev context_rests : Context → Bool
context_rests c = list_all end_rests c.ends

-- .. and of a device
abbrev device_rests : Device → Bool
device_rests d = list_all context_rests d.contexts

-- what is listed of a device
abbrev listed_ends : Device → List LiveEnd
listed_ends d = flat_map (λ c. map (live_end c) c.ends) d.contexts

device_listed : (d : Device) → list_all end_is_idle (listed_ends d) ≡ device_rests d
device_listed d =
    all_flat end_is_idle (λ (c : Context). map (live_end c) c.ends) d.contexts
    ∙ all_same (λ c. list_all end_is_idle (map (live_end c) c.ends)) context_rests d.contexts (λ c. list_all-map end_is_idle (live_end c) c.ends)

world_listed : (w : World) → list_all end_is_idle (live_list w) ≡ list_all device_rests w.devices
unfolding live_list
world_listed w = all_flat end_is_idle listed_ends w.devices ∙ all_same (λ d. list_all end_is_idle (listed_ends d)) device_rests w.devices device_listed

idle_at : (w : World) (o : ObjName) → list_all end_is_idle (live_list w) ≡ true → link_is_idle (option_map link_view (link_at w o)) ≡ true
unfolding live_context home
idle_at w o idle =
    let here : device_rests (home w o.context) ≡ true = all_first device_rests _ w.devices refl (sym (world_listed w) ∙ idle) in
    let found : context_rests (live_context w o.context) ≡ true = all_named context_rests (λ c. c.name) no_context o.context (home w o.context).contexts refl here in
    all_named end_rests (λ e. e.name) no_end o.name (live_context w o.context).ends refl found

-- ---- an idle end

-- what an idle link tells
record IsIdleLink (l : Link) : Type 0 where
  waits : (link_view l).rnr_wait ≡ false
  resumes : view_resumes (link_view l) ≡ false
  sends : (view_runs (link_view l) && view_may_send (link_view l)) ≡ false
  expires : view_expires (link_view l) ≡ false

idle_link : (l : Link) → view_is_idle (link_view l) ≡ true → IsIdleLink l
idle_link l = by (link_view l).rnr_wait (view_resumes (link_view l)) (view_runs (link_view l) && view_may_send (link_view l)) (view_expires (link_view l)) refl refl refl refl
  where
    by : (a b c d : Bool) → (link_view l).rnr_wait ≡ a → view_resumes (link_view l) ≡ b → (view_runs (link_view l) && view_may_send (link_view l)) ≡ c → view_expires (link_view l) ≡ d → (not a && (not b && (not c && not d))) ≡ true → IsIdleLink l
    by false false false false waits resumes sends expires h = record { waits = waits; resumes = resumes; sends = sends; expires = expires }
    by false false false true waits resumes sends expires h = absurd (cc)
    by false false true d waits resumes sends expires h = absurd (cc)
    by false true c d waits resumes sends expires h = absurd (cc)
    by true b c d waits resumes sends expires h = absurd (cc)

running_rests : (s : Settling) (o : ObjName) (k : Option Link) → link_at s.world o ≡ k → link_is_idle (option_map link_view k) ≡ true → sends_if_running s o ≡ s
unfolding sends_if_running
running_rests s o None there idle = ap (λ k. if is_running k then sends_all s o else s) there
running_rests s o (Some l) there idle = ap (λ k. if is_running k then sends_all s o else s) there ∙ by (view_runs (link_view l)) refl
  where
    by : (b : Bool) → view_runs (link_view l) ≡ b → (if b then sends_all s o else s) ≡ s
    by false runs = refl
    by true runs = rest_sends s o (Some l) (link_view l) there refl runs (sym (ap (λ b. b && view_may_send (link_view l)) runs) ∙ (idle_link l idle).sends)

visit_rests : (s : Settling) (o : ObjName) (k : Option Link) → link_at s.world o ≡ k → link_is_idle (option_map link_view k) ≡ true → visited s o ≡ s
unfolding visited
visit_rests s o None there idle = ap (λ k. if is_resuming_link k then sends_if_running (drained (settle_step s (transmit o))) o else sends_if_running s o) there ∙ running_rests s o None there idle
visit_rests s o (Some l) there idle =
    ap (λ k. if is_resuming_link k then sends_if_running (drained (settle_step s (transmit o))) o else sends_if_running s o) there
    ∙ (ap (λ b. if b then sends_if_running (drained (settle_step s (transmit o))) o else sends_if_running s o) (idle_link l idle).resumes
    ∙ running_rests s o (Some l) there idle)

rnr_rests : (s : Settling) (o : ObjName) (k : Option Link) → link_at s.world o ≡ k → link_is_idle (option_map link_view k) ≡ true → rnr_visit s o ≡ s
unfolding rnr_visit
rnr_rests s o None there idle = ap (rnr_by s o) there
rnr_rests s o (Some l) there idle = ap (rnr_by s o) there ∙ rnr_still s o (Some l) (link_view l) refl (idle_link l idle).waits

expire_rests : (s : Settling) (o : ObjName) (k : Option Link) → link_at s.world o ≡ k → link_is_idle (option_map link_view k) ≡ true → expire_visit s o ≡ s
unfolding expire_visit
expire_rests s o None there idle = ap (expire_by s o) there
expire_rests s o (Some l) there idle = ap (expire_by s o) there ∙ expire_false s o (Some l) (link_view l) refl (idle_link l idle).expires

-- ---- a round

visiting_rests : (visit : Settling → ObjName → Settling) (s : Settling) (os : List ObjName) → ((o : ObjName) → visit s o ≡ s) → visiting visit s os ≡ s
unfolding visiting
visiting_rests visit s [] each = refl
visiting_rests visit s (o ∷ os) each = ap (λ t. visiting visit t os) (each o) ∙ visiting_rests visit s os each

either_rests : (b : Bool) (s t : Settling) → t ≡ s → (if b then s else t) ≡ s
either_rests true s t h = refl
either_rests false s t h = h

timers_rest : (s : Settling) (os : List ObjName) → ((o : ObjName) → rnr_visit s o ≡ s) → ((o : ObjName) → expire_visit s o ≡ s) → timers s os ≡ s
unfolding timers
timers_rest s os waits expires =
    ap (λ t. if_none_stepped t os) (visiting_rests rnr_visit s os waits) ∙ either_rests s.stepped s (visiting expire_visit s os) (visiting_rests expire_visit s os expires)

drained_rests : (s : Settling) → pending s.world.sent ≡ None → drained s ≡ s
unfolding drained
drained_rests s none = let once : pass s ≡ s = pass_stays s none in ap (λ t. pass (pass t)) once ∙ (ap pass once ∙ once)

pub round_rests : (s : Settling) → pending s.world.sent ≡ None → list_all end_is_idle (live_list s.world) ≡ true → round s ≡ s
unfolding round
round_rests s none idle =
    let os : List ObjName = live_names s.world in
    let at : (o : ObjName) → link_is_idle (option_map link_view (link_at s.world o)) ≡ true = λ o. idle_at s.world o idle in
    let sent : visiting visited (drained s) os ≡ s =
    ap (λ t. visiting visited t os) (drained_rests s none) ∙ visiting_rests visited s os (λ o. visit_rests s o (link_at s.world o) refl (at o)) in
    ap (λ t. timers_if_still t os) sent
    ∙ either_rests s.changed s (timers s os) (timers_rest s os (λ o. rnr_rests s o (link_at s.world o) refl (at o)) (λ o. expire_rests s o (link_at s.world o) refl (at o)))

list_shown : (w : World) (n : Notes) (s : Settling) → Shows w n s → live_list w ≡ live_list s.world
unfolding live_list
list_shown w n s h = ap (λ (x : World). live_list x) h.world

-- .. where the ends were listed
pub rests : (w : World) (n : Notes) (es : List LiveEnd) → es ≡ live_list w → pending w.sent ≡ None → list_all end_is_idle es ≡ true → Settles round w n w n
rests w n es lives none idle s shows =
    let all : list_all end_is_idle (live_list s.world) ≡ true = sym (ap (list_all end_is_idle) (lives ∙ list_shown w n s shows)) ∙ idle in
    shows_as w n s (round s) (sym (round_rests s (sym (least_shown w n s shows) ∙ none) all)) shows
