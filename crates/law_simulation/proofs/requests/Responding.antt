-- A step of a responder in Rts lifted to the whole relation, and to what is owed of a request.
use Rattle.std.proofs.Common.{◌≡◌, ℕ, List, [], map, length, true, false, Bool, refl, sym, ap, ◌∙◌, subst}
use Rattle.std.specs.Prelude.{Option, Some, if◌then◌else◌, All}
use Rattle.rdma_types.specs.declared.names.Name.{Name}
use Rattle.rdma_types.specs.declared.names.ObjName.{ObjName}
use Rattle.rdma_types.specs.declared.answers.Sent.{Sent}
use Rattle.rdma_types.specs.declared.answers.ArrivalEffect.{ArrivalEffect}
use Rattle.rdma_types.specs.declared.answers.ArrivalEffect.TheVariants as took
use Rattle.rdma_types.specs.declared.answers.DropReason.TheVariants as why
use Rattle.rdma_types.specs.Lists.{has_name, store_named}
use Rattle.protocol.specs.State as state
use Rattle.protocol.specs.State.{World, Link, Receiver, Progress, no_end}
use Rattle.protocol.specs.Wire.{Packet}
use Rattle.protocol.specs.EndWords as words
use Rattle.protocol.specs.EndWords.{is_paused, silent}
use Rattle.protocol.specs.EndStep.{takes}
use Rattle.protocol.specs.Moves.{control_of}
use Rattle.protocol.specs.Responder.{request_at}
use Rattle.protocol.specs.DeviceStep as device
use Rattle.protocol.specs.DeviceStep.{ended_step}
use Rattle.protocol.specs.WorldStep.{is_live, home, ran}
use Rattle.packetless_machine.specs.declared.reply.Reply.{Reply}
use Rattle.packetless_machine.specs.declared.steps.MachineStep.{MachineStep}
use Rattle.packetless_machine.specs.Machine as machine
use Rattle.packetless_machine.specs.Machine.{Machine, End, Offered, has_end, has_context, regions_of, nobody}
use Rattle.packetless_machine.specs.Legal.{IsRun, after}
use Rattle.packetless_machine.specs.Steps.{untold}
use Rattle.law_simulation.specs.Packets.{class_of, IsRequest}
use Rattle.law_simulation.specs.Carries.{CarriesNumbered, request_steps}
use Rattle.law_simulation.specs.Views.{side_of, link_of, requests_of, owned}
use Rattle.law_simulation.specs.Joined.{IsProgress}
use Rattle.law_simulation.specs.Stands.{Stands, AreSame, IsContextSound, IsEndSound}
use Rattle.law_simulation.proofs.relation.Grown.{are_made}
use Rattle.law_simulation.proofs.relation.Machines.{MachineChanged, context_name}
use Rattle.law_simulation.proofs.relation.Linked.{context_with}
use Rattle.law_simulation.proofs.relation.Tables.{name-named_there, named-absent}
use Rattle.law_simulation.specs.Named.{numbered_steps}
use Rattle.law_simulation.specs.Delivered.{AreInner, Arrives, Takes, context_there, end_there, taken_for}
use Rattle.law_simulation.proofs.delivery.Arriving.{stored_again, unchanged_stands}
use Rattle.law_simulation.proofs.delivery.Pairs.{IsKept}
use Rattle.law_simulation.proofs.delivery.Lifted.{IsPairStep, IsAnswer, side_now, sent_stands}
use Rattle.law_simulation.proofs.requests.Pieces.{no_control}
use Rattle.law_simulation.proofs.requests.Requests.{IsRequestAt, asker, asking, request_at_end, takes_is}
use Rattle.law_simulation.proofs.requests.Advancing.{IsAdvance, got, moved_on, kept_here, kept_back}

-- ---- the machine as it is

pub machine_again : (m : Machine) (c : Name) → has_context m c ≡ true → MachineChanged m m c (machine.context_of m c)
unfolding has_context machine.context_of
machine_again m c there = record { named = context_name m c; there = there; contexts = sym (stored_again (λ x. x.name) (machine.no_context c) c m.contexts there) }

pub peer_again : (m : Machine) (q : ObjName) → has_context m q.context ≡ true → has_end m q ≡ true → MachineChanged m m q.context (context_with m q (machine.end_of m q))
unfolding has_end machine.end_of
peer_again m q there found =
    subst (MachineChanged m m q.context) (ap (λ es. record (machine.context_of m q.context) { ends = es }) (sym (stored_again (λ z. z.name) (nobody q) q.name (machine.context_of m q.context).ends found))) (machine_again m q.context there)

-- an end that was made is in a context that was made
pub made_there : (m : Machine) (o : ObjName) → has_end m o ≡ true → has_context m o.context ≡ true
unfolding has_end machine.context_of has_context has_name
made_there m o found = by_test (has_name (λ x. x.name) o.context m.contexts) refl
  where
    by_test : (b : Bool) → has_name (λ x. x.name) o.context m.contexts ≡ b → has_name (λ x. x.name) o.context m.contexts ≡ true
    by_test true t = t
    by_test false t = absurd (cc (ap (λ x. has_name (λ e. e.name) o.name x.ends) (named-absent (λ x. x.name) (machine.no_context o.context) o.context m.contexts t), found))

-- ---- the step of a responder

-- the end o comes to the responder's counts r', in the context x'; the machine comes to have it as f', in the context y;
-- and the requests of its peer come to these counts, answers, offers and dry turns
pub record IsRespond (w : World) (m m' : Machine) (o : ObjName) (l : Link) (r' : Receiver) (x' : state.Context) (y : machine.Context) (f' : End) (acted into : ℕ) (answers : List Reply) (offers : List Offered) (dry : List ℕ) : Type 0 where
  -- the world's context
  pub end : state.End
  pub named : x'.name ≡ o.context
  pub ends : x'.ends ≡ store_named (λ z. z.name) o.name end (context_there w o).ends
  pub end_name : end.name ≡ o.name
  pub link : end.link ≡ Some (got l r')
  -- the machine's contexts
  pub between : Machine
  pub first : MachineChanged m between (asker m o).context (context_with m (asker m o) (moved_on (machine.end_of m (asker m o)) acted into answers offers dry))
  pub second : MachineChanged between m' o.context y
  pub numbers : m'.numbers ≡ m.numbers
  pub keys : m'.keys ≡ m.keys
  pub machine_ends : y.ends ≡ store_named (λ z. z.name) o.name f' (machine.context_of m o.context).ends
  pub requests : requests_of f' ≡ requests_of (machine.end_of m o)
  -- both sides of both contexts
  pub same : AreSame x' y
  pub sound : IsContextSound m.keys y
  pub peer_sound : IsEndSound (regions_of m (asker m o).context) (map (λ q. q.name) (machine.context_of m (asker m o).context).queues) (moved_on (machine.end_of m (asker m o)) acted into answers offers dry)
  -- the requests come further
  pub advance : IsAdvance (asking m o) acted into answers offers dry (link_of w (asker m o)).sender.top r'
  pub progress : IsProgress (moved_on (asking m o) acted into answers offers dry) f'.domain y.regions r'.progress
  pub progress_others : (q : End) (domain : Name) (p : Progress) → IsProgress q domain (regions_of m o.context) p → IsProgress q domain y.regions p

module _ (w : World) (m m' : Machine) (o : ObjName) (l : Link) (n : ℕ) (d : Packet) (r' : Receiver) (x' : state.Context) (y : machine.Context) (f' : End) (acted into : ℕ) (answers : List Reply) (offers : List Offered) (dry : List ℕ)
    (s : Stands w m) (live : is_live w o.context ≡ true) (alive : l.ended ≡ false) (at : IsRequestAt w m o l n d) (p : IsRespond w m m' o l r' x' y f' acted into answers offers dry) where
  abbrev q : ObjName
  q = asker m o

  abbrev g' : End
  g' = moved_on (machine.end_of m q) acted into answers offers dry

  there : has_end m o ≡ true
  there = are_made w m s o at.live

  name_there : (machine.end_of m o).name ≡ o.name
  unfolding has_end machine.end_of
  name_there = name-named_there (λ z. z.name) (nobody o) o.name (machine.context_of m o.context).ends there

  link_alive : (side_of w o).link.ended ≡ false
  link_alive = ap (λ (z : Link). z.ended) at.link ∙ alive

  here : IsKept o (side_of w o) (side_now (side_of w o) (got l r')) (side_of w q) (side_of w q) (requests_of (machine.end_of m o)) (requests_of f') (asking m o) (requests_of g')
  here =
      subst (λ z. IsKept o (side_of w o) (side_now (side_of w o) (got z r')) (side_of w q) (side_of w q) (requests_of (machine.end_of m o)) (requests_of f') (asking m o) (requests_of g')) at.link
      (subst (λ z. IsKept o (side_of w o) (side_now (side_of w o) (got (link_of w o) r')) (side_of w q) (side_of w q) (requests_of (machine.end_of m o)) z (asking m o) (requests_of g')) (sym p.requests)
      (kept_here o q (side_of w o) (side_of w q) (requests_of (machine.end_of m o)) (asking m o) acted into answers offers dry r' link_alive at.rts at.joined at.back p.advance))

  back : IsKept q (side_of w q) (side_of w q) (side_of w o) (side_now (side_of w o) (got l r')) (asking m o) (requests_of g') (requests_of (machine.end_of m o)) (requests_of f')
  back =
      subst (λ z. IsKept q (side_of w q) (side_of w q) (side_of w o) (side_now (side_of w o) (got z r')) (asking m o) (requests_of g') (requests_of (machine.end_of m o)) (requests_of f')) at.link
      (subst (λ z. IsKept q (side_of w q) (side_of w q) (side_of w o) (side_now (side_of w o) (got (link_of w o) r')) (asking m o) (requests_of g') (requests_of (machine.end_of m o)) z) (sym p.requests)
      (kept_back o q (side_of w o) (side_of w q) (requests_of (machine.end_of m o)) (asking m o) acted into answers offers dry r' link_alive at.rts at.joined at.back p.advance))

  peer_owned : owned g' ≡ owned (machine.end_of m q)
  unfolding owned untold
  peer_owned = refl

  pair_step : IsPairStep w m m' o (got l r') x' y f' g'
  pair_step = record {
    end = p.end;
    named = p.named;
    ends = p.ends;
    end_name = p.end_name;
    link = p.link;
    between = p.between;
    first = p.first;
    second = p.second;
    numbers = p.numbers;
    keys = p.keys;
    machine_ends = p.machine_ends;
    machine_name = ap (λ z. z.name) p.requests ∙ name_there;
    machine_number = ap (λ z. z.number) p.requests;
    machine_peer = ap (λ z. z.peer) p.requests;
    peer_owned = peer_owned;
    peer_peer = refl;
    same = p.same;
    sound = p.sound;
    peer_sound = p.peer_sound;
    here = here;
    back = back;
    progress_there = λ rts. subst (λ z. IsProgress z (machine.end_of m q).domain (regions_of m q.context) (side_of w q).link.receiver.progress) (sym p.requests) (s.progress o at.live rts);
    progress_here = λ h. p.progress;
    progress_others = p.progress_others;
  }

  -- the next world stands for the next machine, once the answers are on their way
  pub responds : (t : ArrivalEffect) (sent : List Sent) → All (IsAnswer (side_of w q) (side_now (side_of w o) (got l r')) (requests_of g') (requests_of f')) sent → Stands (ran w (ended_step (home w o.context) (record { context = x'; took = t; sent = sent }))).world m'
  responds t sent facts = sent_stands w m m' o (got l r') x' y f' g' (device.took_answer t sent) s live at.live pair_step sent facts

-- ---- what is owed of a request

-- the steps that it may carry
pub carries : (w : World) (m : Machine) (o : ObjName) (l : Link) (n : ℕ) (d : Packet) (ss : List MachineStep) → link_of w o ≡ l → class_of d ≡ IsRequest → ss ≡ (if is_paused l.moving.phase then [] else request_steps m (asker m o) n (length d.payload)) → CarriesNumbered w m o (Some n) d.payload (class_of d) ss
carries w m o l n d ss link is same =
    subst (λ c. CarriesNumbered w m o (Some n) d.payload c ss) (sym is) (same ∙ ap (λ (z : Link). if is_paused z.moving.phase then [] else request_steps m (asker m o) n (length d.payload)) (sym link))

-- .. and that are named
named : (w : World) (m : Machine) (o : ObjName) (l : Link) (n : ℕ) (d : Packet) (ss : List MachineStep) (t : ArrivalEffect) → link_of w o ≡ l → class_of d ≡ IsRequest → ss ≡ (if is_paused l.moving.phase then [] else request_steps m (asker m o) n (length d.payload)) → ss ≡ numbered_steps w m o (Some n) d.payload (class_of d) t
named w m o l n d ss t link is same =
    subst (λ c. ss ≡ numbered_steps w m o (Some n) d.payload c t) (sym is) (same ∙ ap (λ (z : Link). if is_paused z.moving.phase then [] else request_steps m (asker m o) n (length d.payload)) (sym link))

-- it is taken so
pub takes_so : (w : World) (m : Machine) (o : ObjName) (l : Link) (number : Option ℕ) (d : Packet) (n : ℕ) (ss : List MachineStep) (z : words.EndStep) → number ≡ Some n → link_of w o ≡ l → class_of d ≡ IsRequest → AreInner ss → IsRun m ss →
    ss ≡ (if is_paused l.moving.phase then [] else request_steps m (asker m o) n (length d.payload)) → takes (context_there w o) (end_there w o) l d ≡ z → Stands (ran w (ended_step (home w o.context) z)).world (after m ss) → Takes w m o l number d
takes_so w m o l number d n ss z numbered link is inner run same step stands =
    subst (λ k. Takes w m o l k d) (sym numbered) (record {
      steps = ss;
      inner = inner;
      is_run = run;
      allowed = carries w m o l n d ss link is same;
      named = named w m o l n d ss (taken_for w o l d) link is same;
      stands = subst (λ k. Stands (ran w (ended_step (home w o.context) k)).world (after m ss)) (sym step) stands;
    })

-- what the end does with it
pub step_of : (w : World) (m : Machine) (o : ObjName) (l : Link) (n : ℕ) (d : Packet) → l.ended ≡ false → IsRequestAt w m o l n d → takes (context_there w o) (end_there w o) l d ≡ (if is_paused l.moving.phase then silent (context_there w o) why.Paused else request_at (context_there w o) (end_there w o) l d (Some n))
step_of w m o l n d alive at =
    takes_is (context_there w o) (end_there w o) l d n alive
    (ap control_of at.packet.packet ∙ no_control at.packet.piece.posted (link_of w (asker m o)).terms.mtu at.packet.piece.k (link_of w (asker m o)).peer _) at.is_request at.number

-- ---- a Paused end

no_steps : List MachineStep
no_steps = []

pub paused_taken : (w : World) (m : Machine) (o : ObjName) (l : Link) (number : Option ℕ) (bytes : List ℕ) (d : Packet) → Arrives w m o l number bytes d → class_of d ≡ IsRequest → is_paused l.moving.phase ≡ true → Takes w m o l number d
paused_taken w m o l number bytes d a is paused =
    let r = request_at_end w m o l number bytes d a is in
    takes_so w m o l number d r.0 [] (silent (context_there w o) why.Paused) r.1 r.2.link is tt tt (rw paused refl)
    (step_of w m o l r.0 d a.alive r.2 ∙ ap (λ b. if b then silent (context_there w o) why.Paused else request_at (context_there w o) (end_there w o) l d (Some r.0)) paused)
    (unchanged_stands w m o.context (took.Silent why.Paused) a.stands a.live)
