-- A datagram that an end of a context takes.
use Rattle.std.proofs.Common.{◌≡◌, ℕ, Bool, true, false, List, [], refl, ap, sym, ◌∙◌, subst, arith}
use Rattle.std.specs.Prelude.{◌==◌, ◌||◌, if◌then◌else◌, Option, Some, None, IfSome, is_none, option_map, slice_get}
use Rattle.std.proofs.lemmas.Bool.{true≢false}
use Rattle.std.proofs.lemmas.Bool.Decides.{nat_tests}
use Rattle.std.proofs.lemmas.Option.{slice_get-map}
use Rattle.std.specs.Option.{option_map_or}
use Rattle.std.specs.Bool.{OnTrue}
use Rattle.std.specs.Map.{values_of}
use Rattle.rdma_types.specs.declared.answers.Sent.{Sent}
use Rattle.rdma_types.specs.declared.answers.ArrivalEffect.{ArrivalEffect}
use Rattle.rdma_types.specs.declared.names.Name.{Name}
use Rattle.rdma_types.specs.Objects.{Region}
use Rattle.rdma_types.specs.Spans.{pieces}
use Rattle.page_pool.specs.Pool.{Pool}
use Rattle.end_queues.specs.Completions.{Queue}
use Rattle.memory_keys.specs.declared.RegisteredRegion.{RegisteredRegion}
use Rattle.memory_keys.specs.Regions.{regions_of}
use Rattle.protocol.specs.EndStep.{takes}
use Rattle.transport.specs.Table.{phase_of}
use Rattle.protocol.specs.EndWords.{EndStep, is_paused}
use Rattle.protocol.specs.State.{Context, End, Link}
use Rattle.protocol.specs.Wire.{Packet, is_request}
use Rattle.endpoint_core.specs.declared.answers.DueRead.{DueRead}
use Rattle.endpoint_core.specs.declared.answers.EndReply.{EndReply}
use Rattle.endpoint_core.specs.declared.answers.EndReply.TheVariants.{Nothing, Acknowledge, ReadBytes, Old, ResumeAck}
use Rattle.endpoint_core.specs.declared.end.Endpoint.{Endpoint}
use Rattle.endpoint_core.specs.declared.end.EndLink.{EndLink}
use Rattle.endpoint_core.specs.Answers.{sent_by, sent_of, taken_at}
use Rattle.endpoint_core.specs.Due.{WasDue, due_by, due_in, responses}
use Rattle.endpoint_core.specs.Ends.{Names, link_in}
use Rattle.endpoint_core.specs.Sites.{IsHome, EndWithMemory, end_at, home}
use Rattle.context_core.specs.declared.rooms.DatagramRoom.{DatagramRoom}
use Rattle.context_core.specs.declared.state.EndSlot.{EndSlot}
use Rattle.context_core.specs.Arriving.{HasRoom, IsRoomFor, IsSentFor, may_answer}
use Rattle.context_core.specs.Context.{Holding, context_in, end_of, names_in, site_in}
use Rattle.context_core.specs.Links.{link_at, link_by}
use Rattle.context_core.specs.Rooms.{HasRoomFor}
use Rattle.context_core.proofs.EndSteps.{after, site_after}
use Rattle.context_core.proofs.EndReaders.{link-shown}
use Rattle.context_core.proofs.EndStepCalls.{Steps, entry, entry-there}

-- ---- the end at a place

pub none-there : (pool : Pool) (n : Name) (h : Holding) (i : ℕ) → slice_get h.ends i ≡ None → is_none (link_at (context_in pool n h) i) ≡ true
none-there pool n h i e = ap is_none (link-shown pool n h i ∙ ap (λ o. link_by (option_map (end_of pool h.queues) o)) e)

pub none-linked : (pool : Pool) (n : Name) (h : Holding) (i : ℕ) (e : Name × EndSlot) → slice_get h.ends i ≡ Some e → e.1.endpoint.link ≡ None → is_none (link_at (context_in pool n h) i) ≡ true
none-linked pool n h i e there none = ap is_none (link-shown pool n h i ∙ (ap (λ o. link_by (option_map (end_of pool h.queues) o)) there ∙ ap (option_map (link_in pool)) none))

pub some-linked : (pool : Pool) (n : Name) (h : Holding) (i : ℕ) (e : Name × EndSlot) (l : EndLink) → slice_get h.ends i ≡ Some e → e.1.endpoint.link ≡ Some l → is_none (link_at (context_in pool n h) i) ≡ false
some-linked pool n h i e l there some = ap is_none (link-shown pool n h i ∙ (ap (λ o. link_by (option_map (end_of pool h.queues) o)) there ∙ ap (option_map (link_in pool)) some))

-- ---- what is sent

pub sent-for : (old new : EndWithMemory) (l : EndLink) (d : Packet) (r : EndReply) (read sent : List Sent) → WasDue old new l d r
    → ((due : DueRead) → due_in l (regions_of old.pool old.held) old.end.domain d ≡ Some due → read ≡ responses old.pool (regions_of old.pool old.held) l due (pieces due.spot.length l.terms.mtu))
    → IsSentFor r read (sent_of new r) sent → sent_of new r ≡ sent
sent-for old new l d Nothing read sent was made is = sym is
sent-for old new l d (Acknowledge number syndrome) read sent was made is = sym is
sent-for old new l d (ReadBytes spot first count) read sent was made is =
    let due : DueRead = record { spot = spot; first = first; msn = was.msn } in
    was.sent ∙ (ap (λ n. responses old.pool (regions_of old.pool old.held) l due n) was.all ∙ (sym (made due was.due) ∙ is))
sent-for old new l d (Old number value) read sent was made is = sym is
sent-for old new l d (ResumeAck count address) read sent was made is = sym is

-- ---- memory for a reply

read-answered : (n : ℕ) → (n == 0x0C) ≡ true → may_answer n ≡ true
unfolding is_request
read-answered n t = let same : n ≡ 12 = grind (arith, nat_tests) in subst (λ k. may_answer k ≡ true) (sym same) refl

-- no READ responses are due for a datagram that is not answered
pub none-due : (l : EndLink) (regions : List Region) (domain : Name) (d : Packet) (due : DueRead) → may_answer d.opcode ≡ false → due_in l regions domain d ≡ Some due → ⊥
none-due l regions domain d due never is = by (d.opcode == 0x0C) refl (l.ended || is_paused (phase_of l.moves.phase)) is
  where
    by : (a : Bool) → (d.opcode == 0x0C) ≡ a → (b : Bool) → (if b then None else if a then due_by l.terms l.responder.receiver regions domain d.psn d.reth else None) ≡ Some due → ⊥
    by true e b h = true≢false (sym (read-answered d.opcode e) ∙ never)
    by false e true h = absurd (cc)
    by false e false h = absurd (cc)

gives-room : (r : EndReply) (room : DatagramRoom) → HasRoomFor room 92 → HasRoom r room
gives-room Nothing room h = tt
gives-room (Acknowledge number syndrome) room h = h
gives-room (ReadBytes spot first count) room h = tt
gives-room (Old number value) room h = h
gives-room (ResumeAck count address) room h = h

none-sent : (regions : List Region) (k : Link) (r : EndReply) (room : DatagramRoom) → sent_by regions k r ≡ [] → HasRoom r room
none-sent regions k Nothing room none = tt
none-sent regions k (Acknowledge number syndrome) room none = absurd (cc)
none-sent regions k (ReadBytes spot first count) room none = tt
none-sent regions k (Old number value) room none = absurd (cc)
none-sent regions k (ResumeAck count address) room none = absurd (cc)

-- memory for a reply is there, where an end that is connected has one to send
pub has-room : (opcode : ℕ) (new : EndWithMemory) (r : EndReply) (room : DatagramRoom) → IsRoomFor opcode room → (is_request opcode ≡ false → (opcode == 0x1E) ≡ false → sent_of new r ≡ []) → IfSome new.end.link (λ _. HasRoom r room)
has-room opcode new r room made none = by (is_request opcode) (opcode == 0x1E) refl refl made
  where
    linked : (o : Option EndLink) → option_map_or (λ l. sent_by (regions_of new.pool new.held) (link_in new.pool l) r) o [] ≡ [] → IfSome o (λ _. HasRoom r room)
    linked None h = tt
    linked (Some l) h = none-sent (regions_of new.pool new.held) (link_in new.pool l) r room h

    any : (o : Option EndLink) → HasRoom r room → IfSome o (λ _. HasRoom r room)
    any None h = tt
    any (Some l) h = h

    by : (a b : Bool) → is_request opcode ≡ a → (opcode == 0x1E) ≡ b → OnTrue (a || b) (HasRoomFor room 92) → IfSome new.end.link (λ _. HasRoom r room)
    by true b p q h = any new.end.link (gives-room r room h)
    by false true p q h = any new.end.link (gives-room r room h)
    by false false p q h = linked new.end.link (none p q)

-- ---- the rule

by-parts : (z : EndStep) (c : Context) (t : ArrivalEffect) (s : List Sent) → z.context ≡ c → z.took ≡ t → z.sent ≡ s → z ≡ record { context = c; took = t; sent = s }
by-parts z c t s one two three =
    ap {A = Context} (λ x. record { context = x; took = z.took; sent = z.sent }) one
    ∙ (ap {A = ArrivalEffect} (λ x. record { context = c; took = x; sent = z.sent }) two ∙ ap {A = List Sent} (λ x. record { context = c; took = t; sent = x }) three)

pub takes-is : (a b : Pool) (h : Holding) (i : ℕ) (v : EndSlot) (held : List RegisteredRegion) (queues : List (Name × Queue)) (x : Endpoint) (n : Name) (e : End) (l : Link) (d : Packet) (t : ArrivalEffect) (sent : List Sent)
    → slice_get (values_of h.ends) i ≡ Some v → Steps a b h i v held queues x → slice_get (context_in a n h).ends i ≡ Some e → e.link ≡ Some l
    → ((c : Context) (names : Names) → IsHome c names (site_in a h (entry h.ends i v)) → (taken_at c (end_at names (site_in a h (entry h.ends i v))) (end_at names (site_in a h (entry h.ends i v))).link d).context ≡ home c names (site_after b (entry h.ends i v) held queues x))
    → ((c : Context) (names : Names) → IsHome c names (site_in a h (entry h.ends i v)) → (taken_at c (end_at names (site_in a h (entry h.ends i v))) (end_at names (site_in a h (entry h.ends i v))).link d).took ≡ t)
    → ((c : Context) (names : Names) → IsHome c names (site_in a h (entry h.ends i v)) → (taken_at c (end_at names (site_in a h (entry h.ends i v))) (end_at names (site_in a h (entry h.ends i v))).link d).sent ≡ sent)
    → takes (context_in a n h) e l d ≡ record { context = context_in b n (after h i (entry h.ends i v) held queues x); took = t; sent = sent }
unfolding context_in
takes-is a b h i v held queues x n e l d t sent value st there linked step took' sent' =
    let c : Context = context_in a n h in
    let k = entry h.ends i v in
    let here : Some (end_of a h.queues k) ≡ Some e = sym (slice_get-map (end_of a h.queues) h.ends i ∙ ap (option_map (end_of a h.queues)) (entry-there h.ends i v value)) ∙ there in
    let same : end_of a h.queues k ≡ e = cc in
    let link : (end_of a h.queues k).link ≡ Some l = ap (λ (z : End). z.link) same ∙ linked in
    ap (λ z. takes c z l d) (sym same)
    ∙ (ap (λ o. taken_at c (end_of a h.queues k) o d) (sym link)
    ∙ by-parts (taken_at c (end_of a h.queues k) (end_of a h.queues k).link d) (context_in b n (after h i k held queues x)) t sent (step c (names_in h.queues k) (st.stands n) ∙ st.shown n) (took' c (names_in h.queues k) (st.stands n)) (sent' c (names_in h.queues k) (st.stands n)))
