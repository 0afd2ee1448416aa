-- The parts of a turn one after another, and what lines do.
use Rattle.std.proofs.Common.{◌≡◌, ◌∙◌, ℕ, List, [], ◌∷◌, true, false, Option, None, Some, Result, Ok, Err, take, refl, sym, ap, subst}
use Rattle.node_rules.specs.Lines.{answering, clearing, removed, restoring_bytes, restoring_image, served_text, serves, storing, version}
use Rattle.node_rules.specs.Node.{Node, connected, number_at, stepping}
use Rattle.node_rules.specs.Parts.{Comes, IsMadeWhole, joined}
use Rattle.node_rules.specs.Plan as plan
use Rattle.node_rules.specs.Plan.{Plan}
use Rattle.node_rules.specs.Serve.{arrived, arriving, asked, expiring, is_active, marking, receivers, serving, taking, timing, transmitting, turn, turns, waiting_out}
use Rattle.node_rules.specs.Stops.{HasEnded, StopsAt}
use Rattle.node_rules.specs.Told.{Contents}
use Rattle.node_rules.proofs.Joining.{comes_on, parts_join, stops_here, stops_on}
use Rattle.host_ports.specs.declared.link.Got.{Got}
use Rattle.host_ports.specs.declared.link.Got.TheVariants as got_is
use Rattle.host_ports.specs.Links.{Addressed, got_of}
use Rattle.host_ports.specs.Memory.{counted}
use Rattle.protocol.specs.declared.events.Event.TheVariants as event
use Rattle.protocol.specs.declared.images.Outcome.{Outcome}
use Rattle.protocol.specs.Dumps.{Reading, dump_bytes, read_dump}
use Rattle.protocol.specs.declared.images.ContextImage.{ContextImage}
use Rattle.rdma_types.specs.declared.answers.Answer.{Answer}
use Rattle.rdma_types.specs.declared.answers.Answer.TheVariants as answer
use Rattle.rdma_types.specs.declared.answers.ExpiryIgnored.TheVariants as not_why
use Rattle.rdma_types.specs.declared.names.Name.{Name}
use Rattle.rdma_types.specs.declared.names.ObjName.{ObjName}
use Rattle.rdma_types.specs.declared.requests.Address.{Address}
use Rattle.dump_reader.specs.declared.fault.DumpFault.{DumpFault}
use Rattle.dump_reader.specs.declared.fault.DumpFault.TheVariants as dump_fault
use Rattle.dump_reader.specs.Steps.{IsFault}
use Rattle.node_engine.specs.Answered.{Does, stop_of}
use Rattle.node_engine.specs.Faults.{fault_of_dump}
use Rattle.node_engine.specs.declared.faults.NodeFault.{NodeFault}
use Rattle.node_engine.specs.declared.faults.NodeFault.TheVariants as fault
use Rattle.node_engine.proofs.Parts.{Fails, does_on, fails_first, fails_on, ran_out_at_once, second, then}
use Rattle.context_core.specs.declared.lives.LinkView.{LinkView}
use Rattle.node_engine.specs.Names.{answer_is_done, name_if, waits_for_timer}
use Rattle.node_engine.proofs.Steps.{gives}

-- ---- arrivals

-- what follows an arrival
abbrev pub after_arrival : Node → Addressed → Node → Outcome → (Node → Plan) → Plan
after_arrival v d n o more = more (arrived v d n o)

-- the node after it
pub arrival_marked : (v m n w : Node) (d : Addressed) (o : Outcome) (numbers : List ℕ) → numbers ≡ receivers v.device d.1 → n ≡ record m { taken = counted m.taken } → w ≡ marking (is_active o) numbers n → w ≡ arrived v d m o
arrival_marked v m n w d o numbers en ec ew = ew ∙ ap (λ (x : Node). marking (is_active o) numbers x) ec ∙ ap (λ ns. marking (is_active o) ns (record m { taken = counted m.taken })) en

-- the link gave nothing
pub took_nothing : (v w : Node) (got : Got) (out : List ℕ) (t t' : Contents) → w ≡ record v { active = [] } → got ≡ got_is.Nothing → IsMadeWhole plan.Takes (got_of got out) t t' → IsMadeWhole (taking v) w t t'
took_nothing v w got out t t' ew eg a =
    parts_join plan.Takes (λ (g : Option Addressed) more. arriving (record v { active = [] }) g more) None w t t' t'
    (subst (λ g. IsMadeWhole plan.Takes (got_of g out) t t') eg a)
    (gives (record v { active = [] }) w t' ew)

-- it gave a datagram
pub took_one : (v w : Node) (got : Got) (from : Address) (size : ℕ) (out bytes : List ℕ) (t t' : Contents) → w ≡ record v { active = [] } → got ≡ got_is.Datagram from size → bytes ≡ take size out → IsMadeWhole plan.Takes (got_of got out) t t' → Comes (taking v) (arriving w (Some (from, bytes))) t t'
took_one v w got from size out bytes t t' ew eg eb a =
    let made : IsMadeWhole plan.Takes (Some (from, take size out)) t t' = subst (λ g. IsMadeWhole plan.Takes (got_of g out) t t') eg a in
    let here : Comes (taking v) (arriving (record v { active = [] }) (Some (from, take size out))) t t' =
    second plan.Takes (λ (g : Option Addressed) more. arriving (record v { active = [] }) g more) (Some (from, take size out)) t t' made in
    let with_bytes : Comes (taking v) (arriving (record v { active = [] }) (Some (from, bytes))) t t' =
    subst (λ bs. Comes (taking v) (arriving (record v { active = [] }) (Some (from, bs))) t t') (sym eb) here in
    subst (λ (n : Node). Comes (taking v) (arriving n (Some (from, bytes))) t t') (sym ew) with_bytes

-- ---- transmissions and expiries

-- what follows a transmission
abbrev pub after_sending : Node → ObjName → Node → Outcome → (Node → Plan) → Plan
after_sending v o n x more = more (marking (is_active x) (number_at v.device o ∷ []) n)

-- what follows an expiry
abbrev pub after_expiry : ObjName → Node → Outcome → (Node → Plan) → Plan
after_expiry o n x more = waiting_out x.answer o n more

-- the expiry was not counted for the timer
pub rnr_waits : (a : Answer) (o : ObjName) (v : Node) → waits_for_timer a ≡ true → waiting_out a o v ≡ (λ more. stepping v (event.RnrOver o) (λ n x. more n))
rnr_waits (answer.NotCounted not_why.Rnr) o v h = refl
rnr_waits other o v h = cc h

pub rnr_passes : (a : Answer) (o : ObjName) (v : Node) → waits_for_timer a ≡ false → waiting_out a o v ≡ (λ more. more v)
rnr_passes (answer.NotCounted not_why.Rnr) o v h = cc h
rnr_passes other o v h = refl

-- a part for the one name of a connected end
pub named_does : {U : Type 0} (part : List ObjName → (Node → Plan) → Plan) (o : ObjName) (l : Option LinkView) (x : LinkView) (value : U → Node) (t t' : Contents) (r : Result U NodeFault) → l ≡ Some x → Does (part (o ∷ [])) value t r t' → Does (part (name_if o l [])) value t r t'
named_does part o l x value t t' r e a = subst (λ k. Does (part (name_if o k [])) value t r t') (sym e) a

-- .. for none
pub unnamed_does : (part : List ObjName → (Node → Plan) → Plan) (o : ObjName) (l : Option LinkView) (w : Node) (t t' : Contents) → l ≡ None → IsMadeWhole (part []) w t t' → IsMadeWhole (part (name_if o l [])) w t t'
unnamed_does part o l w t t' e a = subst (λ k. IsMadeWhole (part (name_if o k [])) w t t') (sym e) a

-- ---- a turn

-- behind the arrival
abbrev pub past_arrival : Node → (Node → Plan) → Plan
past_arrival w more = transmitting (connected w.device) w λ x. timing x more

pub turn_took : (v w : Node) (t t' : Contents) → IsMadeWhole (taking v) w t t' → Comes (turn v) (past_arrival w) t t'
turn_took v w t t' a = second (taking v) (λ n more. past_arrival n more) w t t' a

pub turn_sent : (v w x : Node) (names : List ObjName) (t t' t'' : Contents) → Comes (turn v) (past_arrival w) t t' → names ≡ connected w.device → IsMadeWhole (transmitting names w) x t' t'' → Comes (turn v) (timing x) t t''
turn_sent v w x names t t' t'' a e b =
    comes_on (turn v) (past_arrival w) (timing x) t t' t'' a
    (second (transmitting (connected w.device) w) (λ n more. timing n more) x t' t'' (subst (λ ns. IsMadeWhole (transmitting ns w) x t' t'') e b))

pub turn_unsent : (v w : Node) (names : List ObjName) (f : NodeFault) (t t' t'' : Contents) → Comes (turn v) (past_arrival w) t t' → names ≡ connected w.device → Fails (transmitting names w) f t' t'' → Fails (turn v) f t t''
turn_unsent v w names f t t' t'' a e b =
    fails_on (turn v) (past_arrival w) f t t' t'' a
    (fails_first (transmitting (connected w.device) w) (λ n more. timing n more) f t' t'' (subst (λ ns. Fails (transmitting ns w) f t' t'') e b))

-- the third part with the names that were listed
abbrev pub timing_of : List ObjName → Node → (Node → Plan) → Plan
timing_of names v more = plan.Asks λ now. expiring now names (asked v now) more

pub turn_timed : {U : Type 0} (v x : Node) (names : List ObjName) (value : U → Node) (t t' t'' : Contents) (r : Result U NodeFault) → Comes (turn v) (timing x) t t' → names ≡ connected x.device → Does (timing_of names x) value t' r t'' → Does (turn v) value t r t''
turn_timed v x names value t t' t'' r a e b =
    does_on (turn v) (timing x) value t t' t'' r a (subst (λ ns. Does (timing_of ns x) value t' r t'') e b)

-- ---- answers

-- a text is written, and the next line follows
pub text_written : {U : Type 0} (v w : Node) (text wanted : List ℕ) (value : U → Node) (t t' : Contents) (r : Result U NodeFault) → text ≡ wanted → ((u : U) → value u ≡ w) → Does {A = Unit {0}} (λ more. plan.Writes text (more tt)) (λ u. tt) t r t' → Does (λ more. plan.Writes wanted (more w)) value t r t'
text_written v w text wanted value t t' (Ok u) e ev a =
    let made : IsMadeWhole {A = Unit {0}} (λ more. plan.Writes wanted (more tt)) tt t t' = subst (λ bs. IsMadeWhole {A = Unit {0}} (λ more. plan.Writes bs (more tt)) tt t t') e a in
    subst (λ (n : Node). IsMadeWhole (λ more. plan.Writes wanted (more w)) n t t') (sym (ev u)) (record { calls = made.calls; leads = λ more. made.leads (λ x. more w); tells = made.tells })
text_written v w text wanted value t t' (Err f) e ev a =
    λ more. subst (λ bs. StopsAt (stop_of f) (plan.Writes bs (more w)) t t') e (a (λ x. more w))

-- what follows the step of an answered event
abbrev pub after_step : Node → Outcome → (Node → Plan) → Plan
after_step m o more = answering o.answer m more

-- .. of a stop
abbrev pub after_stop : Name → Node → Outcome → (Node → Plan) → Plan
after_stop file m o more = storing file o.image o.answer m more

-- .. of a restore
abbrev pub after_restore : Name → Node → Outcome → (Node → Plan) → Plan
after_restore file m o more = clearing file o.answer m more

-- ---- dumps

-- a dump is put, and then the answer is written
pub dump_put : (file : Name) (image : ContextImage) (a : Answer) (v : Node) (bytes : List ℕ) (t t' : Contents) → bytes ≡ dump_bytes version image → IsMadeWhole {A = Unit {0}} (λ more. plan.Puts file bytes (more tt)) tt t t' → Comes (storing file (Some image) a v) (answering a v) t t'
dump_put file image a v bytes t t' e made =
    let put : IsMadeWhole {A = Unit {0}} (λ more. plan.Puts file (dump_bytes version image) (more tt)) tt t t' = subst (λ bs. IsMadeWhole {A = Unit {0}} (λ more. plan.Puts file bs (more tt)) tt t t') e made in
    record { calls = put.calls; leads = λ more. put.leads (λ u. answering a v more); tells = put.tells }

pub dump_not_put : (file : Name) (image : ContextImage) (a : Answer) (v : Node) (bytes : List ℕ) (f : NodeFault) (t t' : Contents) → bytes ≡ dump_bytes version image → Fails {A = Unit {0}} (λ more. plan.Puts file bytes (more tt)) f t t' → Fails (storing file (Some image) a v) f t t'
dump_not_put file image a v bytes f t t' e fails =
    λ more. subst (λ bs. StopsAt (stop_of f) (plan.Puts file bs (answering a v more)) t t') e (fails (λ u. answering a v more))

-- what was found in the depot, and what follows
abbrev pub after_look : Node → Name → Option (List ℕ) → (Node → Plan) → Plan
after_look v file found more = restoring_bytes v file found more

abbrev pub after_remove : Name → Node → Option (List ℕ) → (Node → Plan) → Plan
after_remove file v found more = removed file answer.Done v found more

-- nothing is held under the name
pub not_there : (part : (Option (List ℕ) → Plan) → Plan) (next : Option (List ℕ) → (Node → Plan) → Plan) (file : Name) (found : Option (List ℕ)) (t t' : Contents) → found ≡ None → ((more : Node → Plan) → next None more ≡ plan.Ends (plan.Missing file)) → IsMadeWhole part found t t' → Fails (joined part next) (fault.Missing file) t t'
not_there part next file found t t' e ends made =
    λ more. stops_on (HasEnded (plan.Missing file)) (joined part next) (next found) more t t' t' (second part next found t t' made)
    (stops_here (HasEnded (plan.Missing file)) (next found more) t' t' (ap (λ f. next f more) e ∙ ends more, refl))

-- a restore that was done takes the dump out, and any other answer is written alone
pub done_clears : (file : Name) (a : Answer) (v : Node) → answer_is_done a ≡ true → clearing file answer.Done v ≡ clearing file a v
done_clears file answer.Done v h = refl
done_clears file other v h = cc h

pub other_clears : (file : Name) (a : Answer) (v : Node) → answer_is_done a ≡ false → answering a v ≡ clearing file a v
other_clears file answer.Done v h = cc h
other_clears file other v h = refl

-- bytes that are no dump end the run
pub dump_fails : (v : Node) (file : Name) (bytes : List ℕ) (f : DumpFault) (t : Contents) → IsFault (read_dump bytes) f → Fails (restoring_bytes v file (Some bytes)) (fault_of_dump f) t t
dump_fails v file bytes (dump_fault.BadDump place why) t h =
    λ more. subst (λ (read : Reading ContextImage). StopsAt (HasEnded (plan.BadDump place why)) (restoring_image v file read more) t t) (sym h)
    (stops_here (HasEnded (plan.BadDump place why)) (plan.Ends (plan.BadDump place why)) t t (refl, refl))
dump_fails v file bytes dump_fault.OutOfMemory t h = ran_out_at_once (restoring_bytes v file (Some bytes)) t

-- ---- serving

-- turns are served, and what they took is told
pub served : {U : Type 0} (v w : Node) (count : ℕ) (text : List ℕ) (value : U → Node) (t t' t'' : Contents) (r : Result U NodeFault) → IsMadeWhole (turns count (serving v)) w t t' → text ≡ served_text w.taken → ((u : U) → value u ≡ w) → Does {A = Unit {0}} (λ more. plan.Writes text (more tt)) (λ u. tt) t' r t'' → Does (serves v count) value t r t''
served v w count text value t t' t'' r made e ev wrote =
    then (turns count (serving v)) (λ n more. plan.Writes (served_text n.taken) (more n)) w value t t' t'' r made
    (text_written w w text (served_text w.taken) value t' t'' r e ev wrote)
