-- A `serve` steps arrivals, transmissions, expiries and ends of RNR timers, one after the other.
use Rattle.std.proofs.Common.{◌≡◌, ◌∙◌, ℕ, zero, suc, List, [], ◌∷◌, ◌++◌, Bool, true, false, Option, None, Some, All, refl, sym, ap, subst, append_assoc}
use Rattle.std.proofs.lemmas.List.Elements.{All-nil, All-cons, All-head, All-tail}
use Rattle.protocol.specs.declared.events.Event.{Event}
use Rattle.protocol.specs.declared.events.Event.TheVariants as event
use Rattle.protocol.specs.declared.images.Outcome.{Outcome}
use Rattle.protocol.specs.DeviceStep.{device_step}
use Rattle.protocol.specs.Replay.{replay}
use Rattle.protocol.specs.State.{Device}
use Rattle.rdma_types.specs.declared.answers.Answer.{Answer}
use Rattle.rdma_types.specs.declared.answers.Answer.TheVariants as answer
use Rattle.rdma_types.specs.declared.answers.ExpiryIgnored.TheVariants as not_why
use Rattle.rdma_types.specs.declared.answers.Sent.{Sent}
use Rattle.rdma_types.specs.declared.names.ObjName.{ObjName}
use Rattle.host_ports.specs.Links.{Addressed}
use Rattle.node_rules.specs.Node.{Node, connected, node_after, node_outcome, number_at, sending, stepping}
use Rattle.node_rules.specs.Plan as plan
use Rattle.node_rules.specs.Plan.{Call, Ending, Ends, IsNext, Leads, Plan}
use Rattle.node_rules.specs.Serve.{arrived, arriving, asked, expiring, expiring_if, is_active, is_due, marking, taking, timing, transmitting, turn, turns, waiting_out}
use Rattle.node_rules.specs.Laws.{IsOfTurn, TurnsAreEvents}

-- a plan that is made to its end comes by another on its way
abbrev pub Passes : List Call → Plan → Ending → Type 0
Passes calls left e = (prefix : List Call) × (back : List Call) × (calls ≡ prefix ++ back) × Leads left back (Ends e)

-- events of a turn lead from one device to another
abbrev pub ByEvents : Device → Device → Type 0
ByEvents d d' = (es : List Event) × All IsOfTurn es × (d' ≡ replay d es)

-- a part of a plan leads by such events
abbrev pub Steps : Node → ((Node → Plan) → Plan) → Type 0
Steps v part = (more : Node → Plan) (calls : List Call) (e : Ending) → Leads (part more) calls (Ends e) → (w : Node) × ByEvents v.device w.device × Passes calls (more w) e

-- an end of a plan
abbrev pub IsEnd : Plan → Type 0
IsEnd (Ends e) = Unit {0}
IsEnd p = ⊥

-- ---- passing

pub at_once : (calls : List Call) (p : Plan) (e : Ending) → Leads p calls (Ends e) → Passes calls p e
at_once calls p e h = ([], calls, refl, h)

pub one_more : (c : Call) (calls : List Call) (p : Plan) (e : Ending) → Passes calls p e → Passes (c ∷ calls) p e
one_more c calls p e h = (c ∷ h.0, h.1, ap (λ x. c ∷ x) h.2, h.3)

pub passing_on : (calls : List Call) (p q : Plan) (e : Ending) (h : Passes calls p e) → Passes h.1 q e → Passes calls q e
passing_on calls p q e h k = (h.0 ++ k.0, k.1, h.2 ∙ ap (λ x. h.0 ++ x) k.2 ∙ sym (append_assoc h.0 k.0 k.1), k.3)

pub sending_passes : (ss : List Sent) (more : Plan) (calls : List Call) (e : Ending) → Leads (sending ss more) calls (Ends e) → Passes calls more e
sending_passes [] more calls e h = at_once calls more e h
sending_passes (s ∷ ss) more [] e h = absurd (subst IsEnd (sym h) tt)
sending_passes (s ∷ ss) more (plan.Sent d ∷ calls) e h =
    one_more (plan.Sent d) calls more e (sending_passes ss more calls e (subst (λ p. Leads p calls (Ends e)) h.1.1 h.2))
sending_passes (s ∷ ss) more (c ∷ calls) e h = absurd h.1

pub stepping_passes : (n : Node) (ev : Event) (more : Node → Outcome → Plan) (calls : List Call) (e : Ending) → Leads (stepping n ev more) calls (Ends e) → Passes calls (more (node_after n ev) (node_outcome n ev)) e
stepping_passes n ev more calls e h = sending_passes (node_outcome n ev).sent (more (node_after n ev) (node_outcome n ev)) calls e h

-- ---- events

pub no_event : (d : Device) → ByEvents d d
unfolding replay
no_event d = ([], All-nil IsOfTurn, refl)

pub an_event : (n : Node) (ev : Event) (d : Device) → IsOfTurn ev → ByEvents (node_after n ev).device d → ByEvents n.device d
unfolding replay node_after
an_event n ev d of_turn h = (ev ∷ h.0, All-cons IsOfTurn ev h.0 of_turn h.1, h.2)

pub events_on : (es : List Event) (d d' d'' : Device) → All IsOfTurn es → d' ≡ replay d es → ByEvents d' d'' → ByEvents d d''
unfolding replay
events_on [] d d' d'' all same h = subst (λ x. ByEvents x d'') same h
events_on (ev ∷ es) d d' d'' all same h =
    let k : ByEvents (device_step d ev).device d'' = events_on es (device_step d ev).device d' d'' (All-tail IsOfTurn ev es all) same h in
    (ev ∷ k.0, All-cons IsOfTurn ev k.0 (All-head IsOfTurn ev es all) k.1, k.2)

pub then_events : (d d' d'' : Device) → ByEvents d d' → ByEvents d' d'' → ByEvents d d''
then_events d d' d'' h k = events_on h.0 d d' d'' h.1 h.2 k

-- ---- parts

pub marking_keeps : (b : Bool) (ns : List ℕ) (v : Node) → (marking b ns v).device ≡ v.device
marking_keeps true ns v = refl
marking_keeps false ns v = refl

-- nothing is done
pub stands : (v : Node) → Steps v (λ more. more v)
stands v more calls e h = (v, no_event v.device, at_once calls (more v) e h)

-- an event, and then what leads on
pub an_event_first : (v : Node) (ev : Event) (next : Node → Outcome → (Node → Plan) → Plan) (x : Node) → IsOfTurn ev → x.device ≡ (node_after v ev).device → Steps x (next (node_after v ev) (node_outcome v ev)) → Steps v (λ more. stepping v ev λ n o. next n o more)
an_event_first v ev next x of_turn same steps more calls e h =
    let prefix : Passes calls (next (node_after v ev) (node_outcome v ev) more) e = stepping_passes v ev (λ n o. next n o more) calls e h in
    let k : (w : Node) × ByEvents x.device w.device × Passes prefix.1 (more w) e = steps more prefix.1 e prefix.3 in (
      k.0,
      an_event v ev k.0.device of_turn (subst (λ d. ByEvents d k.0.device) same k.1),
      passing_on calls (next (node_after v ev) (node_outcome v ev) more) (more k.0) e prefix k.2,
    )

-- one part after another
pub part_after_part : (v : Node) (part : (Node → Plan) → Plan) (next : Node → (Node → Plan) → Plan) → Steps v part → ((w : Node) → Steps w (next w)) → Steps v (λ more. part λ w. next w more)
part_after_part v part next a b more calls e h =
    let k : (w : Node) × ByEvents v.device w.device × Passes calls (next w more) e = a (λ w. next w more) calls e h in
    let l : (w : Node) × ByEvents k.0.device w.device × Passes k.2.1 (more w) e = b k.0 more k.2.1 e k.2.3 in
    (l.0, then_events v.device k.0.device l.0.device k.1 l.1, passing_on calls (next k.0 more) (more l.0) e k.2 l.2)

pub arriving_steps : (v : Node) (got : Option Addressed) → Steps v (arriving v got)
arriving_steps v None = stands v
arriving_steps v (Some d) =
    an_event_first v (event.Arrive d.0 d.1) (λ n o more. more (arrived v d n o)) (arrived v d (node_after v (event.Arrive d.0 d.1)) (node_outcome v (event.Arrive d.0 d.1))) tt
    (marking_keeps _ _ _)
    (stands (arrived v d (node_after v (event.Arrive d.0 d.1)) (node_outcome v (event.Arrive d.0 d.1))))

pub taking_steps : (v : Node) → Steps v (taking v)
taking_steps v more [] e h = absurd (subst IsEnd (sym h) tt)
taking_steps v more (plan.Took got ∷ calls) e h =
    let k : (w : Node) × ByEvents v.device w.device × Passes calls (more w) e = arriving_steps (record v { active = [] }) got more calls e (subst (λ p. Leads p calls (Ends e)) h.1 h.2) in
    (k.0, k.1, one_more (plan.Took got) calls (more k.0) e k.2)
taking_steps v more (c ∷ calls) e h = absurd h.1

-- a transmission, after which the end may be marked active
abbrev pub sent_by : Node → ObjName → Node
sent_by v o = marking (is_active (node_outcome v (event.Transmit o))) (number_at v.device o ∷ []) (node_after v (event.Transmit o))

pub transmitting_steps : (os : List ObjName) (v : Node) → Steps v (transmitting os v)
transmitting_steps [] v = stands v
transmitting_steps (o ∷ os) v =
    an_event_first v (event.Transmit o)
    (λ n x more. transmitting os (marking (is_active x) (number_at v.device o ∷ []) n) more)
    (sent_by v o) tt (marking_keeps _ _ _) (transmitting_steps os (sent_by v o))

pub waiting_out_steps : (a : Answer) (o : ObjName) (v : Node) → Steps v (waiting_out a o v)
waiting_out_steps (answer.NotCounted not_why.Rnr) o v =
    an_event_first v (event.RnrOver o) (λ n x more. more n) (node_after v (event.RnrOver o)) tt refl (stands (node_after v (event.RnrOver o)))
waiting_out_steps other o v = stands v

pub expiring_if_steps : (due : Bool) (o : ObjName) (v : Node) → Steps v (expiring_if due o v)
expiring_if_steps true o v =
    an_event_first v (event.Expire o) (λ n x more. waiting_out x.answer o n more) (node_after v (event.Expire o)) tt refl
    (waiting_out_steps (node_outcome v (event.Expire o)).answer o (node_after v (event.Expire o)))
expiring_if_steps false o v = stands v

pub expiring_steps : (now : ℕ) (os : List ObjName) (v : Node) → Steps v (expiring now os v)
expiring_steps now [] v = stands v
expiring_steps now (o ∷ os) v = part_after_part v (expiring_if (is_due v now o) o v) (λ w more. expiring now os w more) (expiring_if_steps (is_due v now o) o v) (expiring_steps now os)

pub timing_steps : (v : Node) → Steps v (timing v)
timing_steps v more [] e h = absurd (subst IsEnd (sym h) tt)
timing_steps v more (plan.Asked now ∷ calls) e h =
    let k : (w : Node) × ByEvents v.device w.device × Passes calls (more w) e = expiring_steps now (connected v.device) (asked v now) more calls e (subst (λ p. Leads p calls (Ends e)) h.1 h.2) in
    (k.0, k.1, one_more (plan.Asked now) calls (more k.0) e k.2)
timing_steps v more (c ∷ calls) e h = absurd h.1

pub turn_steps : (v : Node) → Steps v (turn v)
turn_steps v = part_after_part v (taking v) (λ w more. transmitting (connected w.device) w λ x. timing x more) (taking_steps v)
    (λ w. part_after_part w (transmitting (connected w.device) w) (λ x more. timing x more) (transmitting_steps (connected w.device) w) timing_steps)

pub turns_step : (count : ℕ) (v : Node) → Steps v (turns count v)
unfolding turns
turns_step zero v = stands v
turns_step (suc count) v = part_after_part v (turn v) (λ w more. turns count w more) (turn_steps v) (turns_step count)

-- what turns do to the device is a list of events of turns
pub turns_are_events : TurnsAreEvents
turns_are_events count v more calls ending h =
    let k : (w : Node) × ByEvents v.device w.device × Passes calls (more w) ending = turns_step count v more calls ending h in
    (k.1.0, k.0, k.2.0, k.2.1, k.2.2, k.2.3, k.1.1, k.1.2)
