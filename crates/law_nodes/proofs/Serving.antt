-- What a served device does is acts.
use Rattle.std.proofs.Common.{◌≡◌, ◌∙◌, ℕ, Bool, true, false, List, [], ◌∷◌, ◌++◌, map, Option, Some, None, All, refl, sym, ap, subst, if◌then◌else◌}
use Rattle.std.specs.Prelude.{nat_eq}
use Rattle.std.specs.List.{list_any}
use Rattle.std.proofs.lemmas.List.{append-nil}
use Rattle.std.proofs.lemmas.List.Elements.{All-head, All-tail}
use Rattle.device_core.specs.Readings.{end_named}
use Rattle.protocol.specs.declared.events.Event.{Event}
use Rattle.protocol.specs.declared.events.Event.TheVariants as event
use Rattle.protocol.specs.declared.images.ContextImage.{ContextImage}
use Rattle.protocol.specs.DeviceStep.{by_refusal, device_step, releases}
use Rattle.protocol.specs.Dumps.{Bad, Good, Reading, read_dump}
use Rattle.protocol.specs.Replay.{replay}
use Rattle.protocol.specs.WorldStep.{is_done}
use Rattle.rdma_types.specs.declared.answers.Answer.{Answer}
use Rattle.rdma_types.specs.declared.answers.Answer.TheVariants as answer
use Rattle.protocol.specs.Refusals.{refusal_of}
use Rattle.protocol.specs.State.{Device}
use Rattle.rdma_types.specs.declared.answers.EndView.{EndView}
use Rattle.rdma_types.specs.declared.answers.Refusal.{Refusal}
use Rattle.rdma_types.specs.declared.names.Name.{Name}
use Rattle.rdma_types.specs.declared.names.ObjName.{ObjName}
use Rattle.rdma_types.specs.declared.verbs.Verb.{Verb}
use Rattle.rdma_types.specs.declared.verbs.Verb.TheVariants as verb
use Rattle.script_lang.specs.declared.lines.NodeLine.{NodeLine}
use Rattle.script_lang.specs.declared.lines.NodeLine.TheVariants as line_is
use Rattle.serve_rules.specs.declared.replies.Reply.{Reply}
use Rattle.serve_rules.specs.declared.replies.Reply.TheVariants as reply
use Rattle.node_rules.specs.Lines.{verb_event}
use Rattle.law_arrivals.specs.Turns.{IsOfTurn}
use Rattle.serve_rules.specs.Lines.{IsLineOf, end_of, forgotten, line_stepped, released, woken_end}
use Rattle.serve_rules.specs.Moving.{IsDumpOf, IsRestored, Kept, RestoreLeaves, StopLeaves, with_context, without}
use Rattle.serve_rules.specs.Server.{Server, after, new_server, outcome_of, queued, stepped, woken, woken_view}
use Rattle.law_nodes.specs.Acts.{Act, Does, IsDump, IsOfLine, MayDo, MayDoAll, Standing, Stops, after_act, after_acts, beginning, event_in}
use Rattle.law_nodes.specs.Laws.{ServingIsActs}
use Rattle.law_nodes.specs.Served.{AreActsOf, AreDone, Says, Doing, Done, HasServed, LeadsTo, Line, Queues, Release, Rest, Restore, Stop, Turn, act_of, event_of_line, restores, sent_by, sent_if, sent_in}
use Rattle.law_nodes.proofs.Ranges.{IsNodeLineIn, IsVerbIn}
use Rattle.law_nodes.proofs.Doing.{restore_sends_none, stop_sends_none}
use Rattle.law_nodes.proofs.ServedLines.{node_line_in}
use Rattle.law_nodes.proofs.Turning.{Led, a_turn_leads}

-- acts of one thing that it did
record Acted (at : Standing) (s : Server) (x : Doing) (s' : Server) : Type 0 where
  own : List Act
  may : MayDoAll at own
  of : AreActsOf s x s' own
  leads : (after_acts at own).device ≡ s'.device
  sends : Queues s x s' (sent_by at own)

-- ---- turns

turn_may : (at : Standing) (es : List Event) → All IsOfTurn es → MayDoAll at (map act_of es)
turn_may at [] all = tt
turn_may at (e ∷ es) all = (first at e (All-head IsOfTurn e es all), turn_may (after_act at (act_of e)) es (All-tail IsOfTurn e es all))
  where
    first : (at' : Standing) (x : Event) → IsOfTurn x → MayDo at' (act_of x)
    first at' (event.Arrive from bytes) of = tt
    first at' (event.Transmit o) of = tt
    first at' (event.Expire o) of = tt
    first at' (event.RnrOver o) of = tt
    first at' other of = absurd of

act_leads : (at : Standing) (e : Event) → (after_act at (act_of e)).device ≡ (device_step at.device e).device
act_leads at (event.Arrive from bytes) = refl
act_leads at other = refl

turn_leads : (at : Standing) (es : List Event) → (after_acts at (map act_of es)).device ≡ replay at.device es
unfolding replay
turn_leads at [] = refl
turn_leads at (e ∷ es) = turn_leads (after_act at (act_of e)) es ∙ ap (λ d. replay d es) (act_leads at e)

act_sends : (at : Standing) (e : Event) → sent_if at (event_in (act_of e)) ≡ (device_step at.device e).outcome.sent
act_sends at (event.Arrive from bytes) = refl
act_sends at other = refl

turn_sends : (at : Standing) (es : List Event) → sent_by at (map act_of es) ≡ sent_in at.device es
turn_sends at [] = refl
turn_sends at (e ∷ es) =
    ap (λ ss. ss ++ sent_by (after_act at (act_of e)) (map act_of es)) (act_sends at e)
    ∙ (ap (λ ss. (device_step at.device e).outcome.sent ++ ss) (turn_sends (after_act at (act_of e)) es) ∙ ap (λ d. (device_step at.device e).outcome.sent ++ sent_in d es) (act_leads at e))

turn_acted : (at : Standing) (s s' : Server) (now : ℕ) → at.device ≡ s.device → Led s s' → Acted at s (Turn now) s'
turn_acted at s s' now here led = record {
  own = map act_of led.of.events;
  may = turn_may at led.of.events led.of.of_turn;
  of = (led.of, refl);
  leads = turn_leads at led.of.events ∙ (ap (λ d. replay d led.of.events) here ∙ sym led.of.leads);
  sends = led.sends ∙ ap (λ ss. s.outgoing ++ ss) (ap (λ d. sent_in d led.of.events) (sym here) ∙ sym (turn_sends at led.of.events));
}

-- ---- lines

-- the event of a line is as a line says it
verb_said : (v : Verb) (e : Event) → IsVerbIn v → verb_event v ≡ Some e → IsOfLine e
verb_said (verb.Context name made) e is h = absurd (cc h)
verb_said (verb.Connect one two terms) e is h = absurd (cc h)
verb_said (verb.MakeDomain o) e is h = let same : event.MakeDomain o ≡ e = cc h in subst IsOfLine same (record { asked = is.within; lawful = is.lawful.1; names = is.names })
verb_said (verb.MakeRegion o domain base size rights) e is h = let same : event.MakeRegion o domain base size rights ≡ e = cc h in subst IsOfLine same (record { asked = is.within; lawful = is.lawful.1; names = is.names })
verb_said (verb.MakeCq o capacity) e is h = let same : event.MakeCq o capacity ≡ e = cc h in subst IsOfLine same (record { asked = is.within; lawful = is.lawful.1; names = is.names })
verb_said (verb.MakeQp o domain send_cq recv_cq send_depth recv_depth) e is h =
    let same : event.MakeQp o domain send_cq recv_cq send_depth recv_depth ≡ e = cc h in subst IsOfLine same (record { asked = is.within; lawful = is.lawful.1; names = is.names })
verb_said (verb.DropRegion o) e is h = let same : event.DropRegion o ≡ e = cc h in subst IsOfLine same (record { asked = is.within; lawful = is.lawful.1; names = tt })
verb_said (verb.Store o at bytes) e is h = let same : event.Store o at bytes ≡ e = cc h in subst IsOfLine same (record { asked = is.within; lawful = is.lawful.1; names = tt })
verb_said (verb.Load o at size) e is h = let same : event.Load o at size ≡ e = cc h in subst IsOfLine same (record { asked = is.within; lawful = is.lawful.1; names = tt })
verb_said (verb.PostSend o request) e is h = let same : event.PostSend o request ≡ e = cc h in subst IsOfLine same (record { asked = is.within; lawful = is.lawful.1; names = tt })
verb_said (verb.PostRecv o receive) e is h = let same : event.PostRecv o receive ≡ e = cc h in subst IsOfLine same (record { asked = is.within; lawful = is.lawful.1; names = tt })
verb_said (verb.Poll o most) e is h = let same : event.Poll o most ≡ e = cc h in subst IsOfLine same (record { asked = is.within; lawful = is.lawful.1; names = tt })

line_said : (l : NodeLine) (e : Event) → IsNodeLineIn l → event_of_line l ≡ Some e → IsOfLine e
line_said (line_is.Verb v) e is h = verb_said v e is h
line_said (line_is.Context name) e is h = let same : event.MakeContext name ≡ e = cc h in subst IsOfLine same (record { asked = tt; lawful = tt; names = is })
line_said (line_is.Link o peer partner terms) e is h = let same : event.Connect o peer partner terms ≡ e = cc h in subst IsOfLine same (record { asked = tt; lawful = is; names = tt })
line_said (line_is.Go o) e is h = let same : event.Transmit o ≡ e = cc h in subst IsOfLine same (record { asked = tt; lawful = tt; names = tt })
line_said (line_is.Expire o) e is h = let same : event.Expire o ≡ e = cc h in subst IsOfLine same (record { asked = tt; lawful = tt; names = tt })
line_said (line_is.Rnr o) e is h = let same : event.RnrOver o ≡ e = cc h in subst IsOfLine same (record { asked = tt; lawful = tt; names = tt })
line_said other e is h = absurd (cc h)

text_said : (text : List ℕ) (e : Event) → Says text e → IsOfLine e
text_said text e a = line_said a.line e (node_line_in text a.line a.reads) a.event

-- .. and leads its device where the event leads; what the event sends waits
record Keeps (s s' : Server) : Type 0 where
  device : s'.device ≡ s.device
  outgoing : s'.outgoing ≡ s.outgoing

woken_keeps : (s : Server) (n : ℕ) → Keeps s (woken s n)
unfolding woken
woken_keeps s n = by (list_any (λ x. nat_eq x n) s.ready)
  where
    by : (b : Bool) → Keeps s (if b then s else record s { ready = s.ready ++ n ∷ [] })
    by true = record { device = refl; outgoing = refl }
    by false = record { device = refl; outgoing = refl }

view_keeps : (s : Server) (v : Option EndView) → Keeps s (woken_view s v)
view_keeps s None = record { device = refl; outgoing = refl }
view_keeps s (Some v) = woken_keeps s v.number

end_keeps : (s : Server) (o : Option ObjName) → Keeps s (woken_end s o)
end_keeps s None = record { device = refl; outgoing = refl }
end_keeps s (Some o) = view_keeps s (end_named s.device o)

stepped_device : (s : Server) (e : Event) → (stepped s e).device ≡ (device_step s.device e).device
unfolding queued after
stepped_device s e = refl

stepped_sends : (s : Server) (e : Event) → (stepped s e).outgoing ≡ s.outgoing ++ (device_step s.device e).outcome.sent
unfolding queued after outcome_of
stepped_sends s e = refl

pub line_device : (s : Server) (e : Event) → (line_stepped s e).device ≡ (device_step s.device e).device
unfolding line_stepped
line_device s e = (end_keeps (stepped s e) (end_of e)).device ∙ stepped_device s e

line_sends : (s : Server) (e : Event) → (line_stepped s e).outgoing ≡ s.outgoing ++ (device_step s.device e).outcome.sent
unfolding line_stepped
line_sends s e = (end_keeps (stepped s e) (end_of e)).outgoing ∙ stepped_sends s e

-- what one event sends, from where the device stands
event_sends : (at : Standing) (s s' : Server) (e : Event) → at.device ≡ s.device → s'.outgoing ≡ s.outgoing ++ (device_step s.device e).outcome.sent → s'.outgoing ≡ s.outgoing ++ ((device_step at.device e).outcome.sent ++ [])
event_sends at s s' e here sends = sends ∙ ap (λ ss. s.outgoing ++ ss) (ap (λ d. (device_step d e).outcome.sent) (sym here) ∙ sym (append-nil (device_step at.device e).outcome.sent))

-- .. where it sends nothing
none_sent : (at : Standing) (s s' : Server) (e : Event) → (device_step at.device e).outcome.sent ≡ [] → s'.outgoing ≡ s.outgoing → s'.outgoing ≡ s.outgoing ++ ((device_step at.device e).outcome.sent ++ [])
none_sent at s s' e none same = same ∙ (sym (append-nil s.outgoing) ∙ ap (λ ss. s.outgoing ++ ss) (sym (ap (λ ss. ss ++ []) none)))

-- nothing is done
stays : (at : Standing) (s s' : Server) (x : Doing) → at.device ≡ s.device → AreActsOf s x s' [] → s' ≡ s → Queues s x s' [] → Acted at s x s'
stays at s s' x here are same sends = record { own = []; may = tt; of = are; leads = here ∙ sym (ap (λ (t : Server). t.device) same); sends = sends }

all_waits : (s s' : Server) → s' ≡ s → s'.outgoing ≡ s.outgoing ++ []
all_waits s s' same = ap (λ (t : Server). t.outgoing) same ∙ sym (append-nil s.outgoing)

line_acted : (at : Standing) (s s' : Server) (text : List ℕ) (e : Event) (r : Reply) → at.device ≡ s.device → Says text e → IsLineOf e s r s' → Acted at s (Line text e r) s'
line_acted at s s' text e reply.Memory here asks is = stays at s s' (Line text e reply.Memory) here refl is (all_waits s s' is)
line_acted at s s' text e r here asks is = record {
  own = Does e ∷ [];
  may = (text_said text e asks, tt);
  of = refl;
  leads = ap (λ d. (device_step d e).device) here ∙ sym (ap (λ (t : Server). t.device) is.0 ∙ line_device s e);
  sends = event_sends at s s' e here (ap (λ (t : Server). t.outgoing) is.0 ∙ line_sends s e);
}

-- what the act of a line sends waits behind what waited before
pub line_waits : (at : Standing) (s : Server) (e : Event) → at.device ≡ s.device → (line_stepped s e).outgoing ≡ s.outgoing ++ sent_by at (Does e ∷ [])
line_waits at s e here = event_sends at s (line_stepped s e) e here (line_sends s e)

-- ---- contexts that leave and come

without_device : (s : Server) (name : Name) (image : ContextImage) → (without s name image).device ≡ (device_step s.device (event.Stop name true)).device
unfolding without after
without_device s name image = refl

without_waits : (s : Server) (name : Name) (image : ContextImage) → (without s name image).outgoing ≡ s.outgoing
unfolding without after
without_waits s name image = refl

stop_acted : (at : Standing) (s s' : Server) (name file : Name) (r : Reply) (k k' : Kept) → at.device ≡ s.device → StopLeaves s name file r s' k k' → Acted at s (Stop name file r) s'
stop_acted at s s' name file reply.Stopped k k' here is = record {
  own = Stops name file ∷ [];
  may = (tt, tt);
  of = refl;
  leads = ap (λ d. (device_step d (event.Stop name true)).device) here ∙ sym (ap (λ (x : Server). x.device) is.server ∙ without_device s name is.image);
  sends = none_sent at s s' (event.Stop name true) (stop_sends_none at.device name) (ap (λ (x : Server). x.outgoing) is.server ∙ without_waits s name is.image);
}
stop_acted at s s' name file r k k' here is = stays at s s' (Stop name file r) here refl is.0 (all_waits s s' is.0)

with_device : (s : Server) (image : ContextImage) → (with_context s image).device ≡ (device_step s.device (event.Restore image)).device
unfolding with_context after
with_device s image = refl

with_waits : (s : Server) (image : ContextImage) → (with_context s image).outgoing ≡ s.outgoing
unfolding with_context after
with_waits s image = refl

dump_is : (bytes : List ℕ) (image : ContextImage) → IsDumpOf image (read_dump bytes) → IsDump bytes image
dump_is bytes image of = by (read_dump bytes) refl of
  where
    by : (r : Reading ContextImage) → read_dump bytes ≡ r → IsDumpOf image r → IsDump bytes image
    by (Good read place rest) is same = (place, rest, is ∙ ap (λ i. Good i place rest) same)
    by (Bad place why) is none = absurd none

restored_acted : (at : Standing) (s s' : Server) (file : Name) (k k' : Kept) → at.device ≡ s.device → IsRestored s file s' k k' → Acted at s (Restore file reply.Restored) s'
unfolding outcome_of
restored_acted at s s' file k k' here is = record {
  own = restores file is.bytes is.image;
  may = (tt, ((dump_is is.bytes is.image is.read, ap (λ d. is_done (device_step d (event.Restore is.image)).outcome.answer) here ∙ ap is_done is.accepted), tt));
  of = (is.bytes, is.image, refl);
  leads = ap (λ d. (device_step d (event.Restore is.image)).device) here ∙ sym (ap (λ (x : Server). x.device) is.server ∙ with_device s is.image);
  sends = none_sent at s s' (event.Restore is.image) (restore_sends_none at.device is.image) (ap (λ (x : Server). x.outgoing) is.server ∙ with_waits s is.image);
}

restore_acted : (at : Standing) (s s' : Server) (file : Name) (r : Reply) (k k' : Kept) → at.device ≡ s.device → RestoreLeaves s file r s' k k' → Acted at s (Restore file r) s'
restore_acted at s s' file reply.Restored k k' here is = restored_acted at s s' file k k' here is
restore_acted at s s' file r k k' here is = stays at s s' (Restore file r) here refl is.0 (all_waits s s' is.0)

forgotten_keeps : (a : Answer) (name : Name) (s : Server) → Keeps s (forgotten a name s)
forgotten_keeps answer.Done name s = record { device = refl; outgoing = refl }
forgotten_keeps other name s = record { device = refl; outgoing = refl }

none_by : (d : Device) (name : Name) (r : Option Refusal) → (by_refusal d (event.Release name) r).outcome.sent ≡ []
unfolding releases
none_by d name None = refl
none_by d name (Some r) = refl

release_sends_none : (d : Device) (name : Name) → (device_step d (event.Release name)).outcome.sent ≡ []
unfolding device_step
release_sends_none d name = none_by d name (refusal_of d (event.Release name))

release_acted : (at : Standing) (s s' : Server) (name : Name) → at.device ≡ s.device → s' ≡ released s name → Acted at s (Release name) s'
unfolding released after
release_acted at s s' name here is =
    let keeps = forgotten_keeps (outcome_of s (event.Release name)).answer name (after s (event.Release name)) in
    record {
      own = Does (event.Release name) ∷ [];
      may = (record { asked = tt; lawful = tt; names = tt }, tt);
      of = refl;
      leads = ap (λ d. (device_step d (event.Release name)).device) here ∙ sym (ap (λ (x : Server). x.device) is ∙ keeps.device);
      sends = none_sent at s s' (event.Release name) (release_sends_none at.device name) (ap (λ (x : Server). x.outgoing) is ∙ keeps.outgoing);
    }

-- ---- all that it did

acted : (at : Standing) (s s' : Server) (x : Doing) → at.device ≡ s.device → LeadsTo s x s' → Acted at s x s'
acted at s s' (Turn now) here leads = turn_acted at s s' now here (subst (λ t. Led s t) (sym leads) (a_turn_leads s now))
acted at s s' (Line text e r) here leads = line_acted at s s' text e r here leads.0 leads.1
acted at s s' (Stop name file r) here leads = stop_acted at s s' name file r leads.0 leads.1 here leads.2
acted at s s' (Restore file r) here leads = restore_acted at s s' file r leads.0 leads.1 here leads.2
acted at s s' (Release name) here leads = release_acted at s s' name here leads
acted at s s' Rest here leads = record { own = []; may = tt; of = refl; leads = here ∙ sym leads; sends = tt }

both_may : (at : Standing) (own more : List Act) → MayDoAll at own → MayDoAll (after_acts at own) more → MayDoAll at (own ++ more)
both_may at [] more a b = b
both_may at (x ∷ own) more a b = (a.0, both_may (after_act at x) own more a.1 b)

served_from : (at : Standing) (s : Server) (did : List Done) → at.device ≡ s.device → AreDone s did → HasServed at s did
served_from at s [] here are = record { acts = []; may = tt; are = refl }
served_from at s (x ∷ xs) here are =
    let first : Acted at s x.doing x.next = acted at s x.next x.doing here are.0 in
    let rest : HasServed (after_acts at first.own) x.next xs = served_from (after_acts at first.own) x.next xs first.leads are.1 in
    record {
      acts = first.own ++ rest.acts;
      may = both_may at first.own rest.acts first.may rest.may;
      are = (rest.acts, record { own = first.own; of = first.of; leads = first.leads; sends = first.sends; both = refl }, rest.are);
    }

pub serving_is_acts : ServingIsActs
serving_is_acts id own base did are = served_from (beginning id own) (new_server id own base) did refl are
