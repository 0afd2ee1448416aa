-- What an event of work leaves as it is: carried images, and what stands in the queues of other contexts.
use Rattle.std.proofs.Common.{◌≡◌, ◌≢◌, ℕ, List, [], ◌∷◌, take, true, false, Bool, refl, sym, ap, ◌∙◌, Some, None, Option}
use Rattle.std.specs.Prelude.{if◌then◌else◌}
use Rattle.rdma_types.specs.declared.answers.Answer.TheVariants as answers
use Rattle.rdma_types.specs.declared.answers.Refusal.{Refusal}
use Rattle.rdma_types.specs.declared.names.Name.{Name}
use Rattle.rdma_types.specs.declared.names.ObjName.{ObjName}
use Rattle.rdma_types.specs.declared.requests.Completion.{Completion}
use Rattle.rdma_types.specs.declared.requests.Receive.{Receive}
use Rattle.rdma_types.specs.declared.requests.Request.{Request}
use Rattle.rdma_types.specs.declared.verbs.Verb.{Verb}
use Rattle.rdma_types.specs.declared.verbs.Verb.TheVariants as verbs
use Rattle.rdma_types.specs.declared.answers.Refusal.TheVariants as refusals
use Rattle.rdma_types.specs.declared.requests.WcKind.TheVariants as wc
use Rattle.rdma_types.specs.declared.requests.WcStatus.TheVariants as status
use Rattle.rdma_types.specs.Causes.{first_cause}
use Rattle.rdma_types.specs.Kinds.{receive_done, request_done}
use Rattle.rdma_types.specs.Lists.{named}
use Rattle.rdma_types.specs.Objects.{CompletionQueue, no_queue}
use Rattle.protocol.specs.declared.events.Event.{Event}
use Rattle.protocol.specs.declared.events.Event.TheVariants as events
use Rattle.protocol.specs.declared.events.WorldEvent.TheVariants as world_events
use Rattle.protocol.specs.DeviceStep as device
use Rattle.protocol.specs.DeviceStep.{device_step}
use Rattle.protocol.specs.Refusals as refusing
use Rattle.protocol.specs.State.{Device, Link, World}
use Rattle.protocol.specs.State as state
use Rattle.protocol.specs.WorldStep as step
use Rattle.protocol.specs.WorldStep.{context_causes, context_of_event, home, is_live, ran, runs, world_step}
use Rattle.packetless_machine.specs.Machine as machine
use Rattle.packetless_machine.specs.Machine.{Context, Machine, completing, context_of, has_context, queue_of, with_context, with_end, with_end_in, with_queue, with_queue_in}
use Rattle.packetless_machine.specs.Verbs as verbing
use Rattle.packetless_machine.specs.Verbs.{after_answer, after_verb, has_queue, lacks_context, refusal_of}
use Rattle.law_simulation.specs.Stands.{AreSame, Stands}
use Rattle.law_simulation.specs.Views as views
use Rattle.law_simulation.proofs.relation.Live.{live_of, live_same}
use Rattle.law_simulation.proofs.relation.Machines.{context_name, context_other, with_context_changed}
use Rattle.law_simulation.proofs.relation.Refusing.{first_no, not_lacking}
use Rattle.law_simulation.proofs.relation.Verbs.{causes_are, stepped_at}
use Rattle.law_simulation.proofs.relation.Worlds.{home_holds}
use Rattle.mailbox_rules.specs.Opening.{queue_name}
use Rattle.law_mailbox.specs.Kept.{standing}
use Rattle.law_mailbox.proofs.work.Asking.{Asks, Made, Unmade}

-- ---- carried images stay

ran_carries : (w : World) (s : device.Step) → s.outcome.image ≡ None → (ran w s).world.carried ≡ w.carried
unfolding ran step.with_device
ran_carries w s none = ap (λ x. (step.with_image x (step.with_device (step.with_sent w s.device.address s) s.device)).carried) none

-- an event whose device step gives no image
carried_by : (w : World) (e : Event) → (device_step (home w (context_of_event e)) e).outcome.image ≡ None → (world_step w (world_events.At e)).world.carried ≡ w.carried
carried_by w e none = ap (λ (x : step.Step). x.world.carried) (stepped_at w e _ refl) ∙ by (first_cause (context_causes w (context_of_event e) []))
  where
    by : (r : Option Refusal) → (step.by_refusal w r (runs w (home w (context_of_event e)) e)).world.carried ≡ w.carried
    by (Some r) = refl
    by None = ran_carries w (device_step (home w (context_of_event e)) e) none

image_by : (d : Device) (e : Event) → (device.done_by d e).outcome.image ≡ None → (device_step d e).outcome.image ≡ None
unfolding device_step
image_by d e none = by (refusing.refusal_of d e)
  where
    by : (r : Option Refusal) → (device.by_refusal d e r).outcome.image ≡ None
    by None = none
    by (Some r) = refl

sends_image : (d : Device) (o : ObjName) (r : Request) → (device.done_by d (events.PostSend o r)).outcome.image ≡ None
unfolding device.posts
sends_image d o r = by (state.end_at (state.context_at d o.context) o.name).link
  where
    by : (l : Option Link) → (device.posts_at d (state.context_at d o.context) (state.end_at (state.context_at d o.context) o.name) l r).outcome.image ≡ None
    by None = refl
    by (Some l) = refl

pub send_carries : (w : World) (o : ObjName) (r : Request) → (world_step w (world_events.At (events.PostSend o r))).world.carried ≡ w.carried
send_carries w o r = carried_by w (events.PostSend o r) (image_by (home w o.context) (events.PostSend o r) (sends_image (home w o.context) o r))

pub receive_carries : (w : World) (o : ObjName) (v : Receive) → (world_step w (world_events.At (events.PostRecv o v))).world.carried ≡ w.carried
unfolding device.receives
receive_carries w o v = carried_by w (events.PostRecv o v) (image_by (home w o.context) (events.PostRecv o v) refl)

pub load_carries : (w : World) (o : ObjName) (at n : ℕ) → (world_step w (world_events.At (events.Load o at n))).world.carried ≡ w.carried
unfolding device.loads
load_carries w o at n = carried_by w (events.Load o at n) (image_by (home w o.context) (events.Load o at n) refl)

pub poll_carries : (w : World) (o : ObjName) (most : ℕ) → (world_step w (world_events.At (events.Poll o most))).world.carried ≡ w.carried
unfolding device.polls
poll_carries w o most = carried_by w (events.Poll o most) (image_by (home w o.context) (events.Poll o most) refl)

-- ---- what stands in a queue of a world

abbrev pub waiting : World → Name → List Completion
waiting w c = (named (λ q. q.name) no_queue queue_name (views.context_of w c).queues).entries

pub waits_as : (w : World) (m : Machine) (c : Name) → Stands w m → waiting w c ≡ standing m c
unfolding queue_of
waits_as w m c s = ap (λ (qs : List CompletionQueue). (named (λ q. q.name) no_queue queue_name qs).entries) (s.same c).queues

-- another context has the same
elsewhere : (m : Machine) (c : Name) (y : Context) → y.name ≡ c → has_context m c ≡ true → (d : Name) → d ≢ c → standing (with_context m c y) d ≡ standing m d
unfolding queue_of
elsewhere m c y is there d apart = ap (λ (x : Context). (named (λ q. q.name) no_queue queue_name x.queues).entries) (context_other m (with_context m c y) c y (with_context_changed m c y is there) d apart)

posted_elsewhere : (m : Machine) (o : ObjName) (r : Request) → has_context m o.context ≡ true → (d : Name) → d ≢ o.context → standing (verbing.posted m o r) d ≡ standing m d
unfolding verbing.posted completing with_queue with_queue_in with_end with_end_in
posted_elsewhere m o r there d apart = by (machine.end_of m o).ended (request_done (machine.end_of m o).number (verbing.taken m o r) status.Flush 0 ∷ [])
  where
    by : (b : Bool) (more : List Completion) → standing (if b then completing m o.context (machine.end_of m o).send_queue more else machine.in_end m o (verbing.with_request (verbing.taken m o r))) d ≡ standing m d
    by true more = elsewhere m o.context _ (context_name m o.context) there d apart
    by false more = elsewhere m o.context _ (context_name m o.context) there d apart

received_elsewhere : (m : Machine) (o : ObjName) (v : Receive) → has_context m o.context ≡ true → (d : Name) → d ≢ o.context → standing (verbing.received m o v) d ≡ standing m d
unfolding verbing.received completing with_queue with_queue_in with_end with_end_in
received_elsewhere m o v there d apart = by (machine.end_of m o).ended (receive_done (machine.end_of m o).number v wc.Recv status.Flush 0 None ∷ [])
  where
    by : (b : Bool) (more : List Completion) → standing (if b then completing m o.context (machine.end_of m o).receive_queue more else machine.in_end m o (verbing.with_receive v)) d ≡ standing m d
    by true more = elsewhere m o.context _ (context_name m o.context) there d apart
    by false more = elsewhere m o.context _ (context_name m o.context) there d apart

polled_elsewhere : (m : Machine) (o : ObjName) (most : ℕ) → has_context m o.context ≡ true → (d : Name) → d ≢ o.context → standing (verbing.polled m o most) d ≡ standing m d
unfolding verbing.polled with_queue with_queue_in
polled_elsewhere m o most there d apart = elsewhere m o.context _ (context_name m o.context) there d apart

-- by each verb of work
pub data IsAt (c : Name) : Verb → Type 0 where
  LoadAt : (o : ObjName) (at n : ℕ) → o.context ≡ c → IsAt c (verbs.Load o at n)
  SendAt : (o : ObjName) (r : Request) → o.context ≡ c → IsAt c (verbs.PostSend o r)
  ReceiveAt : (o : ObjName) (v : Receive) → o.context ≡ c → IsAt c (verbs.PostRecv o v)
  PollAt : (o : ObjName) (most : ℕ) → o.context ≡ c → IsAt c (verbs.Poll o most)

verb_elsewhere : (m : Machine) (c : Name) {v : Verb} (given : ℕ) → IsAt c v → (d : Name) → d ≢ c → standing (after_verb m v given) d ≡ standing m d
verb_elsewhere m c given (LoadAt o at n is) d apart = by (refusal_of m (verbs.Load o at n))
  where
    by : (r : Option Refusal) → standing (after_answer r m (verbs.Load o at n) given) d ≡ standing m d
    by None = refl
    by (Some r) = refl
verb_elsewhere m c given (SendAt o r is) d apart = by (refusal_of m (verbs.PostSend o r)) refl
  where
    by : (x : Option Refusal) → refusal_of m (verbs.PostSend o r) ≡ x → standing (after_answer x m (verbs.PostSend o r) given) d ≡ standing m d
    by None e = posted_elsewhere m o r (not_lacking (has_context m o.context) (first_no refusals.NoSuch (lacks_context m o.context) _ e)) d (λ f. apart (f ∙ is))
    by (Some x) e = refl
verb_elsewhere m c given (ReceiveAt o v is) d apart = by (refusal_of m (verbs.PostRecv o v)) refl
  where
    by : (x : Option Refusal) → refusal_of m (verbs.PostRecv o v) ≡ x → standing (after_answer x m (verbs.PostRecv o v) given) d ≡ standing m d
    by None e = received_elsewhere m o v (not_lacking (has_context m o.context) (first_no refusals.NoSuch (lacks_context m o.context) _ e)) d (λ f. apart (f ∙ is))
    by (Some x) e = refl
verb_elsewhere m c given (PollAt o most is) d apart = by (refusal_of m (verbs.Poll o most)) refl
  where
    by : (x : Option Refusal) → refusal_of m (verbs.Poll o most) ≡ x → standing (after_answer x m (verbs.Poll o most) given) d ≡ standing m d
    by None e = polled_elsewhere m o most (not_lacking (has_context m o.context) (first_no refusals.NoSuch (lacks_context m o.context) _ e)) d (λ f. apart (f ∙ is))
    by (Some x) e = refl

pub asks_elsewhere : (w : World) (m : Machine) (c : Name) (e : Event) {v : Verb} → Stands w m → IsAt c v → Asks w m e v → (d : Name) → d ≢ c → waiting (world_step w (world_events.At e)).world d ≡ waiting w d
asks_elsewhere w m c e s is (Unmade u x) d apart = waits_as (world_step w (world_events.At e)).world m d x ∙ sym (waits_as w m d s)
asks_elsewhere w m c e {v = v} s is (Made given a x) d apart = waits_as (world_step w (world_events.At e)).world (after_verb m v given) d x ∙ (verb_elsewhere m c given is d apart ∙ sym (waits_as w m d s))

-- ---- a poll of a context that lives

module _ (w : World) (m : Machine) (o : ObjName) (most : ℕ) (s : Stands w m) (live : is_live w o.context ≡ true) (there : has_queue m o.context o.name ≡ true) where
  same : AreSame (live_of w o.context) (machine.context_of m o.context)
  same = live_same w m o.context s live

  not_refused : refusing.refusal_of (home w o.context) (events.Poll o most) ≡ None
  unfolding refusing.refusal_of first_cause
  not_refused = rw (home_holds w o.context live, same.queues, there) refl

  is_done : world_step w (world_events.At (events.Poll o most)) ≡ ran w (device.polls (home w o.context) (live_of w o.context) (named (λ q. q.name) no_queue o.name (live_of w o.context).queues) most)
  unfolding device_step
  is_done =
      stepped_at w (events.Poll o most) None (causes_are w o.context ∙ rw live refl)
      ∙ ap (λ x. ran w (device.by_refusal (home w o.context) (events.Poll o most) x)) not_refused

  pub polls_entries : (world_step w (world_events.At (events.Poll o most))).answer ≡ answers.Polled (take most (queue_of m o.context o.name).entries)
  unfolding ran step.numbered device.polls queue_of
  polls_entries =
      ap (λ (x : step.Step). x.answer) is_done
      ∙ ap (λ (qs : List CompletionQueue). answers.Polled (take most (named (λ q. q.name) no_queue o.name qs).entries)) same.queues
