-- A posting at an end that has ended completes at once: one completion with an error more stands in the queue of its context.
use Rattle.std.proofs.Common.{arith, ◌≡◌, ℕ, ◌+◌, ◌≤◌, List, [], ◌∷◌, ◌++◌, true, false, Bool, refl, sym, subst, ap, ◌∙◌, Some, None, Option}
use Rattle.std.specs.Prelude.{if◌then◌else◌}
use Rattle.rdma_types.specs.declared.answers.Refusal.{Refusal}
use Rattle.rdma_types.specs.declared.names.Name.{Name}
use Rattle.rdma_types.specs.declared.names.ObjName.{ObjName}
use Rattle.rdma_types.specs.declared.requests.Completion.{Completion}
use Rattle.rdma_types.specs.declared.requests.Receive.{Receive}
use Rattle.rdma_types.specs.declared.requests.Request.{Request}
use Rattle.rdma_types.specs.declared.verbs.Verb.{Verb}
use Rattle.rdma_types.specs.declared.verbs.Verb.TheVariants as verbs
use Rattle.rdma_types.specs.Objects.{CompletionQueue}
use Rattle.protocol.specs.declared.events.Event.{Event}
use Rattle.protocol.specs.declared.events.WorldEvent.TheVariants as world_events
use Rattle.protocol.specs.State.{World}
use Rattle.protocol.specs.WorldStep.{world_step}
use Rattle.packetless_machine.specs.Machine.{End, Machine, completing, end_of, has_end, with_end}
use Rattle.packetless_machine.specs.Verbs.{after_answer, after_verb, has_queue, posted, received, refusal_of, taken}
use Rattle.law_simulation.specs.Stands.{Stands}
use Rattle.mailbox_rules.specs.declared.due.Side.{Side}
use Rattle.mailbox_rules.specs.Opening.{queue_name}
use Rattle.mailbox_rules.specs.State.{Mail, channel, ending, has_ended, with_channel}
use Rattle.mailbox_rules.specs.Working.{asking, is_too_many, posting}
use Rattle.law_mailbox.specs.Kept.{dues_of, standing}
use Rattle.law_mailbox.proofs.work.Asking.{Asks, Made, Unmade}
use Rattle.law_mailbox.proofs.work.Leaving.{waiting, waits_as}
use Rattle.law_mailbox.proofs.connection.Longer.{queue_here}
use Rattle.law_mailbox.proofs.connection.Posting.{flushed_receive, flushed_receive_no_due, flushed_request, flushed_request_no_due, posted_ended, posted_live, received_ended, received_live}
use Rattle.law_mailbox.proofs.connection.Quiet.{end_name}
use Rattle.law_mailbox.proofs.connection.Sights.{context_there, end_is_changed}
use Rattle.law_mailbox.proofs.connection.Tells.{queue_named}
use Rattle.law_mailbox.proofs.settling.Weights.{owed_steps, queue_both, queue_steps}

-- the same stands in the queue, or one completion more that makes nothing due
pub data IsFlushed (xs : List Completion) : List Completion → Type 0 where
  NoneMore : IsFlushed xs xs
  OneMore : (x : Completion) → ((n : ℕ) → dues_of n (x ∷ []) ≡ []) → IsFlushed xs (xs ++ x ∷ [])

pub flushed_steps : (n : ℕ) (xs ys : List Completion) → IsFlushed xs ys → queue_steps n ys ≤ queue_steps n xs + 1
flushed_steps n xs ys NoneMore = omega arith
flushed_steps n xs ys (OneMore x none) =
    let last : queue_steps n (x ∷ []) ≡ 1 = ap (λ ds. 1 + owed_steps ds) (none n) in
    omega (arith, last, queue_both n xs (x ∷ []))

-- ---- at an end of the machine

module _ (m : Machine) (o : ObjName) (there : has_end m o ≡ true) (queue : has_queue m o.context queue_name ≡ true) where
  flushed : (x : Completion) → ((n : ℕ) → dues_of n (x ∷ []) ≡ []) → (q : Name) → q ≡ queue_name → IsFlushed (standing m o.context) (standing (completing m o.context q (x ∷ [])) o.context)
  flushed x none q is =
      subst (λ (p : Name). IsFlushed (standing m o.context) (standing (completing m o.context p (x ∷ [])) o.context)) (sym is)
      (subst (IsFlushed (standing m o.context)) (sym (ap (λ (z : CompletionQueue). z.entries) (queue_here m o.context queue_name (x ∷ []) (context_there m o there) queue (queue_named m o.context queue)))) (OneMore x none))

  other_end : (e : End) → e.name ≡ (end_of m o).name → IsFlushed (standing m o.context) (standing (with_end m o e) o.context)
  other_end e name =
      subst (IsFlushed (standing m o.context)) (sym (ap (λ (z : CompletionQueue). z.entries) ((end_is_changed m o e there (name ∙ end_name m o) name).queues o.context queue_name))) NoneMore

  pub receive_flushed : (v : Receive) (given : ℕ) → (end_of m o).receive_queue ≡ queue_name → IsFlushed (standing m o.context) (standing (after_verb m (verbs.PostRecv o v) given) o.context)
  receive_flushed v given is = by (refusal_of m (verbs.PostRecv o v))
    where
      made : (b : Bool) → (end_of m o).ended ≡ b → IsFlushed (standing m o.context) (standing (received m o v) o.context)
      made true e = subst (λ (x : Machine). IsFlushed (standing m o.context) (standing x o.context)) (sym (received_ended m o v e)) (flushed (flushed_receive (end_of m o) v) (flushed_receive_no_due (end_of m o) v) (end_of m o).receive_queue is)
      made false e = subst (λ (x : Machine). IsFlushed (standing m o.context) (standing x o.context)) (sym (received_live m o v e)) (other_end _ refl)

      by : (r : Option Refusal) → IsFlushed (standing m o.context) (standing (after_answer r m (verbs.PostRecv o v) given) o.context)
      by None = made (end_of m o).ended refl
      by (Some r) = NoneMore

  pub request_flushed : (r : Request) (given : ℕ) → (end_of m o).send_queue ≡ queue_name → IsFlushed (standing m o.context) (standing (after_verb m (verbs.PostSend o r) given) o.context)
  request_flushed r given is = by (refusal_of m (verbs.PostSend o r))
    where
      made : (b : Bool) → (end_of m o).ended ≡ b → IsFlushed (standing m o.context) (standing (posted m o r) o.context)
      made true e = subst (λ (x : Machine). IsFlushed (standing m o.context) (standing x o.context)) (sym (posted_ended m o r (taken m o r) refl e)) (flushed (flushed_request (end_of m o) (taken m o r)) (flushed_request_no_due (end_of m o) (taken m o r)) (end_of m o).send_queue is)
      made false e = subst (λ (x : Machine). IsFlushed (standing m o.context) (standing x o.context)) (sym (posted_live m o r (taken m o r) refl e)) (other_end _ refl)

      by : (x : Option Refusal) → IsFlushed (standing m o.context) (standing (after_answer x m (verbs.PostSend o r) given) o.context)
      by None = made (end_of m o).ended refl
      by (Some x) = NoneMore

-- ---- in a world

module _ (w : World) (m : Machine) (c : Name) (e : Event) (v : Verb) (s : Stands w m) where
  pub asks_flushed : ((given : ℕ) → IsFlushed (standing m c) (standing (after_verb m v given) c)) → Asks w m e v → IsFlushed (waiting w c) (waiting (world_step w (world_events.At e)).world c)
  asks_flushed each (Unmade u x) = subst (IsFlushed (waiting w c)) (waits_as w m c s ∙ sym (waits_as (world_step w (world_events.At e)).world m c x)) NoneMore
  asks_flushed each (Made given a x) =
      subst (λ (xs : List Completion). IsFlushed xs (waiting (world_step w (world_events.At e)).world c)) (sym (waits_as w m c s))
      (subst (IsFlushed (standing m c)) (sym (waits_as (world_step w (world_events.At e)).world (after_verb m v given) c x)) (each given))

  -- a verb that changes no queue
  pub asks_same : ((given : ℕ) → standing (after_verb m v given) c ≡ standing m c) → Asks w m e v → waiting (world_step w (world_events.At e)).world c ≡ waiting w c
  asks_same each (Unmade u x) = waits_as (world_step w (world_events.At e)).world m c x ∙ sym (waits_as w m c s)
  asks_same each (Made given a x) = waits_as (world_step w (world_events.At e)).world (after_verb m v given) c x ∙ (each given ∙ sym (waits_as w m c s))

pub load_same : (m : Machine) (o : ObjName) (at n given : ℕ) (c : Name) → standing (after_verb m (verbs.Load o at n) given) c ≡ standing m c
load_same m o at n given c = by (refusal_of m (verbs.Load o at n))
  where
    by : (r : Option Refusal) → standing (after_answer r m (verbs.Load o at n) given) c ≡ standing m c
    by None = refl
    by (Some r) = refl

pub posting_flushed : (m : Mail) (side : Side) (j : ℕ) (e : Event) (c : Name) → IsFlushed (waiting m.world c) (waiting (world_step m.world (world_events.At e)).world c) → IsFlushed (waiting m.world c) (waiting (posting m side j e).world c)
unfolding posting asking
posting_flushed m side j e c f = by (has_ended side (channel m j)) (is_too_many (asking m e).answer)
  where
    by : (b t : Bool) → IsFlushed (waiting m.world c) (waiting (if b then m else (if t then with_channel (asking m e).mail j (ending side) else (asking m e).mail)).world c)
    by true t = NoneMore
    by false true = f
    by false false = f
