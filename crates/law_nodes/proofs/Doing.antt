-- What a script of a node does is acts.
use Rattle.std.proofs.Common.{◌≡◌, ◌∙◌, ◌+◌, ℕ, zero, suc, List, [], ◌∷◌, Bool, true, false, Option, None, Some, Result, Ok, Err, refl, sym, ap, subst}
use Rattle.protocol.specs.declared.events.Event.{Event}
use Rattle.protocol.specs.declared.events.Event.TheVariants as event
use Rattle.protocol.specs.declared.images.ContextImage.{ContextImage}
use Rattle.protocol.specs.DeviceStep.{by_refusal, device_step, restores, stops}
use Rattle.protocol.specs.Dumps.{Bad, Good, Reading, dump_bytes, read_dump}
use Rattle.protocol.specs.Refusals.{refusal_of}
use Rattle.protocol.specs.State.{Device}
use Rattle.protocol.specs.WorldStep.{is_done}
use Rattle.rdma_types.specs.declared.answers.Answer.{Answer}
use Rattle.rdma_types.specs.declared.answers.Answer.TheVariants as answer
use Rattle.rdma_types.specs.declared.answers.ExpiryIgnored.TheVariants as not_why
use Rattle.rdma_types.specs.declared.answers.Refusal.{Refusal}
use Rattle.rdma_types.specs.declared.names.Name.{Name}
use Rattle.rdma_types.specs.declared.names.ObjName.{ObjName}
use Rattle.rdma_types.specs.declared.requests.Address.{Address}
use Rattle.rdma_types.specs.declared.verbs.Verb.{Verb}
use Rattle.rdma_types.specs.declared.verbs.Verb.TheVariants as verb
use Rattle.host_ports.specs.Links.{Addressed}
use Rattle.script_lang.specs.declared.lines.NodeLine.{NodeLine}
use Rattle.script_lang.specs.declared.lines.NodeLine.TheVariants as line_is
use Rattle.script_lang.specs.declared.lines.Offence.{Offence}
use Rattle.script_lang.specs.Lines.{node_reading_of}
use Rattle.script_lang.specs.Printed.{printed}
use Rattle.script_lang.specs.Scripts.{lines_of}
use Rattle.node_rules.specs.Lines.{answering, clearing, counting, line_does, removed, restoring, restoring_bytes, restoring_image, served_text, serves, stepped, stepped_if, stopping, storing, verb_event, version}
use Rattle.node_rules.specs.Node.{Node, connected, new_node, node_after, node_outcome, number_at, sending, stepping}
use Rattle.node_rules.specs.Plan as plan
use Rattle.node_rules.specs.Plan.{Call, Ending, Ends, Leads, Plan}
use Rattle.node_rules.specs.Script.{lines_do, node_plan, reading_does}
use Rattle.node_rules.specs.Serve.{arrived, arriving, asked, expiring, expiring_if, is_active, is_due, marking, serving, taking, timing, transmitting, turns, waiting_out}
use Rattle.law_nodes.specs.Acts.{Asks, Counts, Declines, Does, HasDone, IsDump, IsOfEnd, IsOfLine, Looks, Misses, Restores, Standing, Starts, Stops, Takes, Turns, Waits, after_event, beginning, outcome_of, puts, sends_of, writes_of}
use Rattle.law_nodes.specs.Laws.{CallsAreActs}
use Rattle.law_nodes.proofs.Ranges.{IsNodeLineIn, IsVerbIn, line_in}
use Rattle.law_nodes.proofs.Parts.{IsGood, Makes, act_done, act_good, done_before, end_good, goes_on, makes_both, makes_none, makes_put, makes_sends, makes_text, nothing_done}

-- where a node stands
abbrev pub standing : Node → Standing
standing n = record { device = n.device; sent = n.sent }

-- what follows is good wherever a node stands
abbrev pub AreGood : (Node → Plan) → Type 0
AreGood more = (m : Node) → IsGood (standing m) (more m)

-- a part of a plan is good, where what follows it is
abbrev pub IsGoodPart : Node → ((Node → Plan) → Plan) → Type 0
IsGoodPart n part = (more : Node → Plan) → AreGood more → IsGood (standing n) (part more)

-- ---- one event

-- where an event leads a node
pub stands_after : (n : Node) (e : Event) → standing (node_after n e) ≡ after_event (standing n) e
unfolding node_after
stands_after n e = refl

-- .. and one like it
stands_like : (n m : Node) (e : Event) → standing m ≡ standing (node_after n e) → standing m ≡ after_event (standing n) e
stands_like n m e same = same ∙ stands_after n e

-- datagrams of an event
makes_event : (n : Node) (e : Event) (next : Plan) → Makes (sending (node_outcome n e).sent next) (sends_of (standing n) e) next
unfolding node_outcome
makes_event n e next = makes_sends (node_outcome n e).sent next

-- what follows an event
follows : (n m : Node) (e : Event) (p : Plan) → standing m ≡ after_event (standing n) e → IsGood (standing m) p → IsGood (after_event (standing n) e) p
follows n m e p same good = subst (λ s. IsGood s p) same good

-- an event of a connected end
pub turn_good : (n m : Node) (e : Event) (next : Plan) → IsOfEnd e → standing m ≡ after_event (standing n) e → IsGood (standing m) next → IsGood (standing n) (sending (node_outcome n e).sent next)
turn_good n m e next of_end same good =
    act_good (standing n) (Turns e) (sending (node_outcome n e).sent next) next of_end (makes_event n e next) (follows n m e next same good)

-- a written answer
makes_answer : (n : Node) (e : Event) (next : Plan) → Makes (plan.Writes (printed (counting (node_after n e).sent (node_outcome n e).answer)) next) (writes_of (standing n) e) next
unfolding node_after node_outcome
makes_answer n e next = makes_text (printed (counting (node_after n e).sent (node_outcome n e).answer)) next

-- a line that is one event
pub stepped_good : (n : Node) (e : Event) → IsOfLine e → IsGoodPart n (stepped n e)
stepped_good n e of_line more good =
    act_good (standing n) (Does e) (stepped n e more) (more (node_after n e)) of_line
    (makes_both (stepped n e more) (sends_of (standing n) e) (writes_of (standing n) e) (answering (node_outcome n e).answer (node_after n e) more) (more (node_after n e))
    (makes_event n e (answering (node_outcome n e).answer (node_after n e) more))
    (makes_answer n e (more (node_after n e))))
    (follows n (node_after n e) e (more (node_after n e)) (stands_after n e) (good (node_after n e)))

-- ---- turns

pub marking_stands : (b : Bool) (ns : List ℕ) (v : Node) → standing (marking b ns v) ≡ standing v
marking_stands true ns v = refl
marking_stands false ns v = refl

arriving_good : (v : Node) (d : Addressed) (more : Node → Plan) → AreGood more → (calls : List Call) (left : Plan) → Leads (arriving v (Some d) more) calls left → HasDone (standing v) (plan.Took (Some d) ∷ calls)
arriving_good v d more good calls left leads =
    let e : Event = event.Arrive d.0 d.1 in
    let m : Node = arrived v d (node_after v e) (node_outcome v e) in
    act_done (standing v) (Takes d) (more m) (plan.Took (Some d) ∷ calls) left tt
    (follows v m e (more m) (stands_like v m e (marking_stands _ _ _)) (good m))
    (goes_on (plan.Took (Some d)) (sends_of (standing v) e) (more m) calls left (makes_event v e (more m) calls left leads))

pub taking_good : (v : Node) → IsGoodPart v (taking v)
taking_good v more good [] left leads = nothing_done (standing v)
taking_good v more good (plan.Took None ∷ calls) left leads =
    done_before (standing v) Waits calls tt (good (record v { active = [] }) calls left (subst (λ p. Leads p calls left) leads.1 leads.2))
taking_good v more good (plan.Took (Some d) ∷ calls) left leads =
    arriving_good (record v { active = [] }) d more good calls left (subst (λ p. Leads p calls left) leads.1 leads.2)
taking_good v more good (c ∷ calls) left leads = absurd leads.1

-- a transmission, after which the end may be marked active
abbrev sent_by : Node → ObjName → Node
sent_by v o = marking (is_active (node_outcome v (event.Transmit o))) (number_at v.device o ∷ []) (node_after v (event.Transmit o))

pub transmitting_good : (os : List ObjName) (v : Node) → IsGoodPart v (transmitting os v)
transmitting_good [] v more good = good v
transmitting_good (o ∷ os) v more good =
    turn_good v (sent_by v o) (event.Transmit o) (transmitting os (sent_by v o) more) tt
    (stands_like v (sent_by v o) (event.Transmit o) (marking_stands (is_active (node_outcome v (event.Transmit o))) (number_at v.device o ∷ []) (node_after v (event.Transmit o))))
    (transmitting_good os (sent_by v o) more good)

waiting_out_good : (a : Answer) (o : ObjName) (v : Node) → IsGoodPart v (waiting_out a o v)
waiting_out_good (answer.NotCounted not_why.Rnr) o v more good =
    let e : Event = event.RnrOver o in
    turn_good v (node_after v e) e (more (node_after v e)) tt (stands_after v e) (good (node_after v e))
waiting_out_good other o v more good = good v

expiring_if_good : (due : Bool) (o : ObjName) (v : Node) → IsGoodPart v (expiring_if due o v)
expiring_if_good true o v more good =
    let e : Event = event.Expire o in
    turn_good v (node_after v e) e (waiting_out (node_outcome v e).answer o (node_after v e) more) tt (stands_after v e)
    (waiting_out_good (node_outcome v e).answer o (node_after v e) more good)
expiring_if_good false o v more good = good v

pub expiring_good : (now : ℕ) (os : List ObjName) (v : Node) → IsGoodPart v (expiring now os v)
expiring_good now [] v more good = good v
expiring_good now (o ∷ os) v more good = expiring_if_good (is_due v now o) o v (λ w. expiring now os w more) (λ w. expiring_good now os w more good)

pub timing_good : (v : Node) → IsGoodPart v (timing v)
timing_good v more good [] left leads = nothing_done (standing v)
timing_good v more good (plan.Asked now ∷ calls) left leads =
    done_before (standing v) (Asks now) calls tt
    (expiring_good now (connected v.device) (asked v now) more good calls left (subst (λ p. Leads p calls left) leads.1 leads.2))
timing_good v more good (c ∷ calls) left leads = absurd leads.1

pub turns_good : (count : ℕ) (v : Node) → IsGoodPart v (turns count v)
unfolding turns
turns_good zero v more good = good v
turns_good (suc count) v more good =
    taking_good v (λ w. transmitting (connected w.device) w λ x. timing x λ y. turns count y more)
    (λ w. transmitting_good (connected w.device) w (λ x. timing x λ y. turns count y more)
    (λ x. timing_good x (λ y. turns count y more) (λ y. turns_good count y more good)))

counts_good : (more : Node → Plan) → AreGood more → AreGood (λ v. plan.Writes (served_text v.taken) (more v))
counts_good more good v =
    act_good (standing v) (Counts v.taken) (plan.Writes (served_text v.taken) (more v)) (more v) tt (makes_text (served_text v.taken) (more v)) (good v)

pub serves_good : (n : Node) (count : ℕ) → IsGoodPart n (serves n count)
serves_good n count more good = turns_good count (serving n) (λ v. plan.Writes (served_text v.taken) (more v)) (counts_good more good)

-- ---- stops

no_datagrams : (d : Device) (name : Name) (r : Option Refusal) → (by_refusal d (event.Stop name true) r).outcome.sent ≡ []
unfolding stops
no_datagrams d name None = refl
no_datagrams d name (Some r) = refl

pub stop_sends_none : (d : Device) (name : Name) → (device_step d (event.Stop name true)).outcome.sent ≡ []
unfolding device_step
stop_sends_none d name = no_datagrams d name (refusal_of d (event.Stop name true))

stop_is_silent : (n : Node) (name : Name) → (node_outcome n (event.Stop name true)).sent ≡ []
unfolding node_outcome
stop_is_silent n name = stop_sends_none n.device name

makes_puts : (file : Name) (image : Option ContextImage) (a : Answer) (m : Node) (more : Node → Plan) → Makes (storing file image a m more) (puts file image) (answering a m more)
makes_puts file None a m more = makes_none (answering a m more)
makes_puts file (Some image) a m more = makes_put file (dump_bytes version image) (answering a m more)

stored_good : (n : Node) (name file : Name) (more : Node → Plan) → AreGood more → IsGood (standing n) (storing file (node_outcome n (event.Stop name true)).image (node_outcome n (event.Stop name true)).answer (node_after n (event.Stop name true)) more)
unfolding node_outcome
stored_good n name file more good =
    let e : Event = event.Stop name true in
    act_good (standing n) (Stops name file) (storing file (node_outcome n e).image (node_outcome n e).answer (node_after n e) more) (more (node_after n e)) tt
    (makes_both (storing file (node_outcome n e).image (node_outcome n e).answer (node_after n e) more) (puts file (node_outcome n e).image) (writes_of (standing n) e) (answering (node_outcome n e).answer (node_after n e) more) (more (node_after n e))
    (makes_puts file (node_outcome n e).image (node_outcome n e).answer (node_after n e) more)
    (makes_answer n e (more (node_after n e))))
    (follows n (node_after n e) e (more (node_after n e)) (stands_after n e) (good (node_after n e)))

pub stopping_good : (n : Node) (name file : Name) → IsGoodPart n (stopping n name file)
stopping_good n name file more good =
    let e : Event = event.Stop name true in
    subst (λ ss. IsGood (standing n) (sending ss (storing file (node_outcome n e).image (node_outcome n e).answer (node_after n e) more))) (sym (stop_is_silent n name)) (stored_good n name file more good)

-- ---- restores

no_datagrams_there : (d : Device) (image : ContextImage) (r : Option Refusal) → (by_refusal d (event.Restore image) r).outcome.sent ≡ []
unfolding restores
no_datagrams_there d image None = refl
no_datagrams_there d image (Some r) = refl

pub restore_sends_none : (d : Device) (image : ContextImage) → (device_step d (event.Restore image)).outcome.sent ≡ []
unfolding device_step
restore_sends_none d image = no_datagrams_there d image (refusal_of d (event.Restore image))

restore_is_silent : (n : Node) (image : ContextImage) → (node_outcome n (event.Restore image)).sent ≡ []
unfolding node_outcome
restore_is_silent n image = restore_sends_none n.device image

-- the answer to an event, which is like another
makes_like : (n : Node) (e : Event) (a : Answer) (next : Plan) → a ≡ (outcome_of (standing n) e).answer → Makes (plan.Writes (printed (counting (node_after n e).sent a)) next) (writes_of (standing n) e) next
unfolding node_after
makes_like n e a next same =
    subst (λ x. Makes (plan.Writes (printed (counting (node_after n e).sent a)) next) (plan.Wrote (printed (counting (node_after n e).sent x)) ∷ []) next) same
    (makes_text (printed (counting (node_after n e).sent a)) next)

-- the device took the image, and the dump is taken out or is not there any more
removed_good : (n : Node) (file : Name) (bytes : List ℕ) (image : ContextImage) (more : Node → Plan) → AreGood more → IsDump bytes image → answer.Done ≡ (outcome_of (standing n) (event.Restore image)).answer → (found : Option (List ℕ)) (calls : List Call) (left : Plan) → Leads (removed file answer.Done (node_after n (event.Restore image)) found more) calls left → HasDone (standing n) (plan.Removed file found ∷ calls)
removed_good n file bytes image more good dump done None calls left leads =
    done_before (standing n) (Misses file) calls tt (end_good (standing n) (plan.Missing file) calls left leads)
removed_good n file bytes image more good dump done (Some out) calls left leads =
    let e : Event = event.Restore image in
    act_done (standing n) (Restores file bytes image out) (more (node_after n e)) (plan.Removed file (Some out) ∷ calls) left (dump, ap is_done (sym done))
    (follows n (node_after n e) e (more (node_after n e)) (stands_after n e) (good (node_after n e)))
    (goes_on (plan.Removed file (Some out)) (writes_of (standing n) e) (more (node_after n e)) calls left
    (makes_like n e answer.Done (more (node_after n e)) done calls left leads))

-- the device was asked to take the image
cleared_good : (n : Node) (file : Name) (bytes : List ℕ) (image : ContextImage) (more : Node → Plan) → AreGood more → IsDump bytes image → (a : Answer) → a ≡ (outcome_of (standing n) (event.Restore image)).answer → IsGood (standing n) (clearing file a (node_after n (event.Restore image)) more)
cleared_good n file bytes image more good dump answer.Done done [] left leads = nothing_done (standing n)
cleared_good n file bytes image more good dump answer.Done done (plan.Removed f found ∷ calls) left leads =
    subst (λ x. HasDone (standing n) (plan.Removed x found ∷ calls)) (sym leads.1.0)
    (removed_good n file bytes image more good dump done found calls left (subst (λ p. Leads p calls left) leads.1.1 leads.2))
cleared_good n file bytes image more good dump answer.Done done (c ∷ calls) left leads = absurd leads.1
cleared_good n file bytes image more good dump other answered calls left leads =
    let e : Event = event.Restore image in
    act_done (standing n) (Declines bytes image) (more (node_after n e)) calls left (dump, ap is_done (sym answered))
    (follows n (node_after n e) e (more (node_after n e)) (stands_after n e) (good (node_after n e)))
    (makes_like n e other (more (node_after n e)) answered calls left leads)

-- the event of a restore sends nothing, so its answer comes next
restored_good : (n : Node) (file : Name) (bytes : List ℕ) (image : ContextImage) (more : Node → Plan) → AreGood more → IsDump bytes image → IsGood (standing n) (stepping n (event.Restore image) λ m o. clearing file o.answer m more)
unfolding node_outcome
restored_good n file bytes image more good dump =
    let e : Event = event.Restore image in
    subst (λ ss. IsGood (standing n) (sending ss (clearing file (node_outcome n e).answer (node_after n e) more))) (sym (restore_is_silent n image))
    (cleared_good n file bytes image more good dump (node_outcome n e).answer refl)

-- what was read of the bytes
read_good : (n : Node) (file : Name) (bytes : List ℕ) (more : Node → Plan) → AreGood more → (r : Reading ContextImage) → read_dump bytes ≡ r → IsGood (standing n) (restoring_image n file r more)
read_good n file bytes more good (Good image place rest) same = restored_good n file bytes image more good (place, rest, same)
read_good n file bytes more good (Bad place why) same = end_good (standing n) (plan.BadDump place why)

-- what was found
found_good : (n : Node) (file : Name) (more : Node → Plan) → AreGood more → (found : Option (List ℕ)) → IsGood (standing n) (restoring_bytes n file found more)
found_good n file more good None = end_good (standing n) (plan.Missing file)
found_good n file more good (Some bytes) = read_good n file bytes more good (read_dump bytes) refl

pub restoring_good : (n : Node) (file : Name) → IsGoodPart n (restoring n file)
restoring_good n file more good [] left leads = nothing_done (standing n)
restoring_good n file more good (plan.Looked f found ∷ calls) left leads =
    done_before (standing n) (Looks f found) calls tt
    (found_good n file more good found calls left (subst (λ p. Leads p calls left) leads.1.1 leads.2))
restoring_good n file more good (c ∷ calls) left leads = absurd leads.1

-- ---- lines

-- a verb
verb_good : (n : Node) (v : Verb) → IsVerbIn v → IsGoodPart n (stepped_if n (verb_event v))
verb_good n (verb.Context name made) is more good = good n
verb_good n (verb.Connect one two terms) is more good = good n
verb_good n (verb.MakeDomain o) is more good = stepped_good n (event.MakeDomain o) (record { asked = is.within; lawful = is.lawful.1; names = is.names }) more good
verb_good n (verb.MakeRegion o domain base size rights) is more good = stepped_good n (event.MakeRegion o domain base size rights) (record { asked = is.within; lawful = is.lawful.1; names = is.names }) more good
verb_good n (verb.MakeCq o capacity) is more good = stepped_good n (event.MakeCq o capacity) (record { asked = is.within; lawful = is.lawful.1; names = is.names }) more good
verb_good n (verb.MakeQp o domain send_cq recv_cq send_depth recv_depth) is more good = stepped_good n (event.MakeQp o domain send_cq recv_cq send_depth recv_depth) (record { asked = is.within; lawful = is.lawful.1; names = is.names }) more good
verb_good n (verb.DropRegion o) is more good = stepped_good n (event.DropRegion o) (record { asked = is.within; lawful = is.lawful.1; names = tt }) more good
verb_good n (verb.Store o at bytes) is more good = stepped_good n (event.Store o at bytes) (record { asked = is.within; lawful = is.lawful.1; names = tt }) more good
verb_good n (verb.Load o at size) is more good = stepped_good n (event.Load o at size) (record { asked = is.within; lawful = is.lawful.1; names = tt }) more good
verb_good n (verb.PostSend o request) is more good = stepped_good n (event.PostSend o request) (record { asked = is.within; lawful = is.lawful.1; names = tt }) more good
verb_good n (verb.PostRecv o receive) is more good = stepped_good n (event.PostRecv o receive) (record { asked = is.within; lawful = is.lawful.1; names = tt }) more good
verb_good n (verb.Poll o most) is more good = stepped_good n (event.Poll o most) (record { asked = is.within; lawful = is.lawful.1; names = tt }) more good

pub line_good : (n : Node) (l : NodeLine) → IsNodeLineIn l → IsGoodPart n (line_does n l)
line_good n line_is.Blank is more good = good n
line_good n (line_is.Verb v) is more good = verb_good n v is more good
line_good n (line_is.Context name) is more good = stepped_good n (event.MakeContext name) (record { asked = tt; lawful = tt; names = is }) more good
line_good n (line_is.Link o peer partner terms) is more good = stepped_good n (event.Connect o peer partner terms) (record { asked = tt; lawful = is; names = tt }) more good
line_good n (line_is.Go o) is more good = stepped_good n (event.Transmit o) (record { asked = tt; lawful = tt; names = tt }) more good
line_good n (line_is.Expire o) is more good = stepped_good n (event.Expire o) (record { asked = tt; lawful = tt; names = tt }) more good
line_good n (line_is.Rnr o) is more good = stepped_good n (event.RnrOver o) (record { asked = tt; lawful = tt; names = tt }) more good
line_good n (line_is.Stop name file) is more good = stopping_good n name file more good
line_good n (line_is.Restore file) is more good = restoring_good n file more good
line_good n (line_is.Release name) is more good = stepped_good n (event.Release name) (record { asked = tt; lawful = tt; names = tt }) more good
line_good n (line_is.Serve count) is more good = serves_good n count more good

reading_good : (number : ℕ) (n : Node) (r : Result NodeLine Offence) → ((l : NodeLine) → r ≡ Ok l → IsNodeLineIn l) → IsGoodPart n (reading_does number n r)
reading_good number n (Ok l) is more good = line_good n l (is l refl) more good
reading_good number n (Err offence) is more good = end_good (standing n) (plan.BadLine number offence)

pub lines_good : (number : ℕ) (lines : List (List ℕ)) (n : Node) → IsGood (standing n) (lines_do number lines n)
unfolding lines_do
lines_good number [] n = end_good (standing n) plan.AllAnswered
lines_good number (bs ∷ more) n = reading_good number n (node_reading_of bs) (λ l h. line_in bs l h) (λ m. lines_do (number + 1) more m) (λ m. lines_good (number + 1) more m)

-- ---- scripts

starts_good : (s : Standing) (own : Address) (next : Plan) → IsGood s next → IsGood s (plan.Starts own next)
starts_good s own next good [] left leads = nothing_done s
starts_good s own next good (plan.Started at ∷ calls) left leads =
    done_before s (Starts at) calls tt (good calls left (subst (λ p. Leads p calls left) leads.1.1 leads.2))
starts_good s own next good (c ∷ calls) left leads = absurd leads.1

pub calls_are_acts : CallsAreActs
unfolding node_plan
calls_are_acts id own text calls left leads =
    starts_good (beginning id own) own (lines_do 1 (lines_of text) (new_node id own)) (lines_good 1 (lines_of text) (new_node id own)) calls left leads
