-- Worlds that are alike settle alike.
use Rattle.std.proofs.Common.{◌≡◌, ℕ, zero, suc, ◌+◌, ◌*◌, List, [], ◌∷◌, refl, ap, ◌∙◌, subst, Bool, true, false}
use Rattle.std.specs.Prelude.{Option, Some, None, if◌then◌else◌, ◌&&◌, ◌||◌, not, nat_lt}
use Rattle.rdma_types.specs.declared.answers.Answer.{Answer}
use Rattle.rdma_types.specs.declared.answers.Answer.TheVariants as answer
use Rattle.rdma_types.specs.declared.names.ObjName.{ObjName}
use Rattle.protocol.specs.declared.events.Event.TheVariants as event
use Rattle.protocol.specs.declared.events.WorldEvent.{WorldEvent}
use Rattle.protocol.specs.declared.events.WorldEvent.TheVariants as world_event
use Rattle.protocol.specs.EndWords.{is_resuming_link, is_running}
use Rattle.protocol.specs.Fabric.{pending_numbers}
use Rattle.protocol.specs.Script as script
use Rattle.protocol.specs.Script.{Happening, answers_in, dumps, dumps_by, happens, settles}
use Rattle.protocol.specs.Settle.{Settling, Settled, begun, delivering, drained, expire_by, expire_visit, if_none_stepped, is_sent, last_wait, link_at, live_ends, live_names, load_of, marks, may_step, noting, pass, rnr_by, rnr_visit, round, rounds_of, same_marks, sending_all, sending_fuel, sends_all, sends_if_running, settle_step, settled, stepped_to, timers, timers_if_still, transmit, unfinished, visited, visiting}
use Rattle.protocol.specs.State.{Flight, Link, World}
use Rattle.protocol.specs.WorldStep.{carried_image, home, live_context, world_step}
use Rattle.law_kept_datagrams.specs.Alike.{AreAlike, StepAlike}
use Rattle.law_kept_datagrams.proofs.Stores.{AreSame, pending_alike}
use Rattle.law_kept_datagrams.proofs.Steps.{at, of_two_lists, step_alike, two_lists}

-- ---- states of a settling

-- two states are the same but for such datagrams
pub record SettleAlike (a b : Settling) : Type 0 where
  pub world : AreAlike a.world b.world
  pub changed : a.changed ≡ b.changed
  pub stepped : a.stepped ≡ b.stepped
  pub waited : a.waited ≡ b.waited

-- a state with these datagrams
abbrev with : Settling → List Flight → Settling
with x s = record x { world = at x.world s }

two_states : (x : Settling) (s t : List Flight) → AreSame s t → SettleAlike (with x s) (with x t)
two_states x s t h = record { world = two_lists x.world s t h; changed = refl; stepped = refl; waited = refl }

-- what holds of one state with two such lists holds of two states that are alike
of_states : (Q : Settling → Settling → Type 0) → ((x : Settling) (s t : List Flight) → AreSame s t → Q (with x s) (with x t)) → (a b : Settling) → SettleAlike a b → Q a b
of_states Q each a b h = subst (λ (x : Settling). Q a x) same (worlds b.world h.world)
  where
    worlds : (w : World) → AreAlike a.world w → Q a (record a { world = w })
    worlds w k =
        of_two_lists (λ x y. Q (record a { world = x }) (record a { world = y })) (λ x s t e. each (record a { world = x }) s t e) a.world w k

    same : record a { world = b.world } ≡ b
    same =
        ap (λ x. record { world = b.world; changed = x; stepped = a.stepped; waited = a.waited }) h.changed
        ∙ (ap (λ x. record { world = b.world; changed = b.changed; stepped = x; waited = a.waited }) h.stepped
        ∙ ap (λ x. record { world = b.world; changed = b.changed; stepped = b.stepped; waited = x }) h.waited)

-- a change of a state leaves states that are alike alike
abbrev Keeps : (Settling → Settling) → Type 0
Keeps f = (a b : Settling) → SettleAlike a b → SettleAlike (f a) (f b)

-- it is enough to look at one state with two lists
keeps : (f : Settling → Settling) → ((x : Settling) (s t : List Flight) → AreSame s t → SettleAlike (f (with x s)) (f (with x t))) → Keeps f
keeps f each = of_states (λ a b. SettleAlike (f a) (f b)) each

either : (c : Bool) (a b a' b' : Settling) → SettleAlike a b → SettleAlike a' b' → SettleAlike (if c then a else a') (if c then b else b')
either true a b a' b' first second = first
either false a b a' b' first second = second

-- ---- what is looked at

marks_alike : (a b : World) → AreAlike a b → marks a ≡ marks b
unfolding live_ends
marks_alike a b h = of_two_lists (λ x y. marks x ≡ marks y) (λ w s t e. refl) a b h

-- ---- one step

steps : (e : WorldEvent) → Keeps (λ s. settle_step s e)
unfolding settle_step stepped_to
steps e a b h =
    let k : StepAlike (world_step a.world e) (world_step b.world e) = step_alike a.world b.world e h.world in
    record {
      world = k.world;
      changed =
          ap (λ x. x || not (same_marks (marks a.world) (marks (world_step a.world e).world))) h.changed
          ∙ (ap (λ x. b.changed || not (same_marks x (marks (world_step a.world e).world))) (marks_alike a.world b.world h.world)
          ∙ ap (λ x. b.changed || not (same_marks (marks b.world) x)) (marks_alike (world_step a.world e).world (world_step b.world e).world k.world));
      stepped = h.stepped;
      waited = h.waited;
    }

-- ---- draining

delivers_all : (ks : List ℕ) → Keeps (λ s. delivering s ks)
unfolding delivering
delivers_all [] a b h = h
delivers_all (k ∷ ks) a b h = delivers_all ks (settle_step a (world_event.Deliver k)) (settle_step b (world_event.Deliver k)) (steps (world_event.Deliver k) a b h)

passes : Keeps pass
passes a b h =
    subst (λ (ks : List ℕ). SettleAlike (pass a) (delivering b ks)) (pending_alike a.world.sent b.world.sent h.world.sent)
    (delivers_all (pending_numbers a.world.sent) a b h)

drains : Keeps drained
unfolding drained
drains a b h = passes (pass (pass a)) (pass (pass b)) (passes (pass a) (pass b) (passes a b h))

-- ---- sending

transmits : (o : ObjName) → Keeps (λ s. drained (settle_step s (transmit o)))
transmits o a b h = drains (settle_step a (transmit o)) (settle_step b (transmit o)) (steps (transmit o) a b h)

sends : (fuel : ℕ) (o : ObjName) → Keeps (λ s. sending_all fuel s o)
unfolding sending_all
sends zero o a b h = h
sends (suc fuel) o a b h =
    let k : StepAlike (world_step a.world (transmit o)) (world_step b.world (transmit o)) = step_alike a.world b.world (transmit o) h.world in
    let rest = sends fuel o (drained (settle_step a (transmit o))) (drained (settle_step b (transmit o))) (transmits o a b h) in
    subst (λ (x : Answer). SettleAlike (choice (is_sent (world_step a.world (transmit o)).answer) a) (choice (is_sent x) b)) k.answer (by (is_sent (world_step a.world (transmit o)).answer) rest)
  where
    choice : Bool → Settling → Settling
    choice c s = (elim c [ true ↦ sending_all fuel (drained (settle_step s (transmit o))) o | false ↦ s ])

    by : (c : Bool) → SettleAlike (sending_all fuel (drained (settle_step a (transmit o))) o) (sending_all fuel (drained (settle_step b (transmit o))) o) → SettleAlike (choice c a) (choice c b)
    by true rest = rest
    by false rest = h

sends_whole : (o : ObjName) → Keeps (λ s. sends_all s o)
unfolding sends_all live_context home
sends_whole o = keeps (λ s. sends_all s o) (λ x s t h. sends (sending_fuel (link_at x.world o)) o (with x s) (with x t) (two_states x s t h))

sends_running : (o : ObjName) → Keeps (λ s. sends_if_running s o)
unfolding sends_if_running live_context home
sends_running o =
    keeps (λ s. sends_if_running s o) (λ x s t h.
    either (is_running (link_at x.world o)) (sends_all (with x s) o) (sends_all (with x t) o) (with x s) (with x t)
    (sends_whole o (with x s) (with x t) (two_states x s t h)) (two_states x s t h))

visits : (o : ObjName) → Keeps (λ s. visited s o)
unfolding visited live_context home
visits o =
    keeps (λ s. visited s o) (λ x s t h.
    either (is_resuming_link (link_at x.world o)) (sends_if_running (drained (settle_step (with x s) (transmit o))) o) (sends_if_running (drained (settle_step (with x t) (transmit o))) o) (sends_if_running (with x s) o) (sends_if_running (with x t) o)
    (sends_running o (drained (settle_step (with x s) (transmit o))) (drained (settle_step (with x t) (transmit o))) (transmits o (with x s) (with x t) (two_states x s t h)))
    (sends_running o (with x s) (with x t) (two_states x s t h)))

visits_all : (visit : Settling → ObjName → Settling) → ((o : ObjName) → Keeps (λ s. visit s o)) → (os : List ObjName) → Keeps (λ s. visiting visit s os)
unfolding visiting
visits_all visit each [] a b h = h
visits_all visit each (o ∷ os) a b h = visits_all visit each os (visit a o) (visit b o) (each o a b h)

-- ---- timers

waits : (o : ObjName) → Keeps (λ s. rnr_visit s o)
unfolding rnr_visit live_context home live_ends last_wait
waits o = keeps (λ s. rnr_visit s o) (λ x s t h. by x s t h (link_at x.world o))
  where
    stepped : (x : Settling) (s t : List Flight) → AreSame s t → (l : Link) → SettleAlike (noting (with x s) o l (settle_step (with x s) (world_event.At (event.RnrOver o)))) (noting (with x t) o l (settle_step (with x t) (world_event.At (event.RnrOver o))))
    stepped x s t h l =
        let k : SettleAlike (settle_step (with x s) (world_event.At (event.RnrOver o))) (settle_step (with x t) (world_event.At (event.RnrOver o))) = steps (world_event.At (event.RnrOver o)) (with x s) (with x t) (two_states x s t h) in
        record {
          world = k.world;
          changed = k.changed;
          stepped = refl;
          waited = refl;
        }

    by : (x : Settling) (s t : List Flight) → AreSame s t → (l : Option Link) → SettleAlike (rnr_by (with x s) o l) (rnr_by (with x t) o l)
    by x s t h None = two_states x s t h
    by x s t h (Some l) =
        either (l.sender.rnr_wait && may_step x.world l (last_wait x o))
        (noting (with x s) o l (settle_step (with x s) (world_event.At (event.RnrOver o)))) (noting (with x t) o l (settle_step (with x t) (world_event.At (event.RnrOver o)))) (with x s) (with x t)
        (stepped x s t h l) (two_states x s t h)

expires : (o : ObjName) → Keeps (λ s. expire_visit s o)
unfolding expire_visit live_context home
expires o = keeps (λ s. expire_visit s o) (λ x s t h. by x s t h (link_at x.world o))
  where
    by : (x : Settling) (s t : List Flight) → AreSame s t → (l : Option Link) → SettleAlike (expire_by (with x s) o l) (expire_by (with x t) o l)
    by x s t h None = two_states x s t h
    by x s t h (Some l) =
        let k : SettleAlike (settle_step (with x s) (world_event.At (event.Expire o))) (settle_step (with x t) (world_event.At (event.Expire o))) = steps (world_event.At (event.Expire o)) (with x s) (with x t) (two_states x s t h) in
        either (is_running (Some l) && (not l.sender.rnr_wait && nat_lt l.sender.una l.sender.next))
        (record (settle_step (with x s) (world_event.At (event.Expire o))) { stepped = true }) (record (settle_step (with x t) (world_event.At (event.Expire o))) { stepped = true }) (with x s) (with x t)
        (record { world = k.world; changed = k.changed; stepped = refl; waited = k.waited }) (two_states x s t h)

times : (os : List ObjName) → Keeps (λ s. timers s os)
unfolding timers
times os a b h =
    expiring (visiting rnr_visit a os) (visiting rnr_visit b os) (visits_all rnr_visit waits os a b h)
  where
    expiring : Keeps (λ s. if_none_stepped s os)
    expiring =
        keeps (λ s. if_none_stepped s os) (λ x s t h.
        either x.stepped (with x s) (with x t) (visiting expire_visit (with x s) os) (visiting expire_visit (with x t) os)
        (two_states x s t h) (visits_all expire_visit expires os (with x s) (with x t) (two_states x s t h)))

-- ---- rounds

goes_round : Keeps round
unfolding round live_names
goes_round =
    keeps round (λ x s t h.
    timing (live_names x.world) (visiting visited (drained (with x s)) (live_names x.world)) (visiting visited (drained (with x t)) (live_names x.world))
    (visits_all visited visits (live_names x.world) (drained (with x s)) (drained (with x t)) (drains (with x s) (with x t) (two_states x s t h))))
  where
    timing : (os : List ObjName) → Keeps (λ s. timers_if_still s os)
    timing os =
        keeps (λ s. timers_if_still s os) (λ x s t h.
        either x.changed (with x s) (with x t) (timers (with x s) os) (timers (with x t) os)
        (two_states x s t h) (times os (with x s) (with x t) (two_states x s t h)))

goes_rounds : (fuel n : ℕ) (a b : Settling) → SettleAlike a b → AreAlike (rounds_of fuel n a).world (rounds_of fuel n b).world
unfolding rounds_of
goes_rounds zero n a b h = h.world
goes_rounds (suc fuel) n a b h =
    let k : SettleAlike (round a) (round b) = goes_round a b h in
    let again : SettleAlike (begun (round a)) (begun (round b)) = record { world = k.world; changed = refl; stepped = refl; waited = k.waited } in
    let rest = goes_rounds fuel (n + 1) (begun (round a)) (begun (round b)) again in
    let same : ((round a).changed || (round a).stepped) ≡ ((round b).changed || (round b).stepped) = ap (λ x. x || (round a).stepped) k.changed ∙ ap (λ x. (round b).changed || x) k.stepped in
    subst (λ (c : Bool). AreAlike (choice ((round a).changed || (round a).stepped) a).world (choice c b).world) same (by ((round a).changed || (round a).stepped) k rest)
  where
    choice : Bool → Settling → Settled
    choice c s = (elim c as (λ c. Settled) [ true ↦ rounds_of fuel (n + 1) (begun (round s)) | false ↦ record { world = (round s).world; rounds = n + 1 } ])

    by : (c : Bool) → SettleAlike (round a) (round b) → AreAlike (rounds_of fuel (n + 1) (begun (round a))).world (rounds_of fuel (n + 1) (begun (round b))).world → AreAlike (choice c a).world (choice c b).world
    by true k rest = rest
    by false k rest = k.world

settled_alike : (w : World) (s t : List Flight) → AreSame s t → AreAlike (settled (at w s)).world (settled (at w t)).world
unfolding settled load_of live_ends
settled_alike w s t h =
    let x : Settling = record { world = w; changed = false; stepped = false; waited = [] } in
    goes_rounds (32 * load_of w) 0 (with x s) (with x t) (two_states x s t h)

-- ---- lines

each_line : (l : Happening) (w : World) (s t : List Flight) → AreSame s t → StepAlike (happens (at w s) l) (happens (at w t) l)
unfolding happens dumps settles carried_image unfinished
each_line (script.Event e) w s t h = step_alike (at w s) (at w t) e (two_lists w s t h)
each_line (script.Dump name) w s t h = record { answer = refl; world = two_lists w s t h }
each_line script.Settles w s t h =
    let k : AreAlike (settled (at w s)).world (settled (at w t)).world = settled_alike w s t h in
    record { answer = ap answer.Quiet (left_alike (settled (at w s)).world (settled (at w t)).world k); world = k }
  where
    left_alike : (a b : World) → AreAlike a b → unfinished a ≡ unfinished b
    left_alike a b h = of_two_lists (λ x y. unfinished x ≡ unfinished y) (λ w s t e. refl) a b h

pub line_alike : (a b : World) (l : Happening) → AreAlike a b → StepAlike (happens a l) (happens b l)
line_alike a b l h = of_two_lists (λ x y. StepAlike (happens x l) (happens y l)) (each_line l) a b h

pub answers_alike : (a b : World) (ls : List Happening) → AreAlike a b → answers_in a ls ≡ answers_in b ls
unfolding answers_in
answers_alike a b [] h = refl
answers_alike a b (l ∷ ls) h =
    let k : StepAlike (happens a l) (happens b l) = line_alike a b l h in
    ap (λ x. x ∷ answers_in (happens a l).world ls) k.answer ∙ ap (λ xs. (happens b l).answer ∷ xs) (answers_alike (happens a l).world (happens b l).world ls k.world)
