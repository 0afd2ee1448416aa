-- A poll gives at most as many completions as it asks for.
use Rattle.std.proofs.Common.{◌≡◌, ◌≤◌, ℕ, List, [], ◌∷◌, length, refl, ap, ◌∙◌, arith, Option, Some, None}
use Rattle.std.proofs.lemmas.List.{length-take}
use Rattle.rdma_types.specs.declared.answers.Answer.{Answer}
use Rattle.rdma_types.specs.declared.requests.Completion.{Completion}
use Rattle.rdma_types.specs.declared.answers.Refusal.{Refusal}
use Rattle.rdma_types.specs.declared.names.ObjName.{ObjName}
use Rattle.rdma_types.specs.Causes.{first_cause}
use Rattle.protocol.specs.declared.events.Event.{Event}
use Rattle.protocol.specs.declared.events.Event.TheVariants as event
use Rattle.protocol.specs.declared.events.WorldEvent.TheVariants as world_event
use Rattle.protocol.specs.DeviceStep as device
use Rattle.protocol.specs.Refusals.{refusal_of}
use Rattle.protocol.specs.State.{Device, World}
use Rattle.protocol.specs.WorldStep.{by_refusal, context_causes, home, numbered, ran, runs, steps_at, world_step}
use Rattle.mailbox_rules.specs.Opening.{object, queue_name}
use Rattle.mailbox_rules.specs.State.{context_at}
use Rattle.mailbox_rules.specs.Working.{entries_in, most_polled, poll_event}

pub few_polled : (w : World) (o : ObjName) (most : ℕ) → length (entries_in (world_step w (world_event.At (event.Poll o most))).answer) ≤ most
unfolding world_step steps_at ran numbered device.device_step device.polls
few_polled w o most = outer (first_cause (context_causes w o.context []))
  where
    d : Device
    d = home w o.context

    inner : (r : Option Refusal) → length (entries_in (ran w (device.by_refusal d (event.Poll o most) r)).answer) ≤ most
    inner None = omega (arith, length-take {A = Completion})
    inner (Some r) = omega arith

    outer : (r : Option Refusal) → length (entries_in (by_refusal w r (runs w d (event.Poll o most))).answer) ≤ most
    outer None = inner (refusal_of d (event.Poll o most))
    outer (Some r) = omega arith

-- .. in an answer, whose event is a poll of a context
pub few_answered : (w : World) (n : ℕ) (e : Event) (a : Answer) (xs : List Completion) → a ≡ (world_step w (world_event.At e)).answer → e ≡ poll_event n → xs ≡ entries_in a → length xs ≤ most_polled
few_answered w n e a xs is_a is_e is_xs =
    let same : length xs ≡ length (entries_in (world_step w (world_event.At (poll_event n))).answer) =
    ap (λ ys. length ys) (is_xs ∙ ap (λ x. entries_in x) (is_a ∙ ap (λ x. (world_step w (world_event.At x)).answer) is_e)) in
    omega (arith, few_polled w (object (context_at n) queue_name) most_polled)

pub none_left : {A : Type 0} (xs : List A) → length xs ≡ 0 → xs ≡ []
none_left [] is = refl
none_left (x ∷ xs) is = absurd (omega arith)
