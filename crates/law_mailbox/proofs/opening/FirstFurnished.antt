-- Before the first call the contexts consist of what the opening made: evaluated for each number of senders.
use Rattle.std.proofs.Common.{arith, ◌≡◌, ℕ, ◌*◌, ◌≤◌, List, ◌∷◌, map, true, refl, sym, ap, ◌∙◌}
use Rattle.rdma_types.specs.declared.names.Name.{Name}
use Rattle.rdma_types.specs.Lists.{has_word}
use Rattle.protocol.specs.State.{empty_world}
use Rattle.packetless_machine.specs.Machine.{Context, Machine, context_of, empty, has_context, reserved, reserved_by, untold_count, used_count}
use Rattle.law_simulation.specs.Named.{RunsFollowByName}
use Rattle.law_simulation.specs.Stands.{Stands}
use Rattle.law_simulation.proofs.relation.Tables.{has_name-map}
use Rattle.mailbox_rules.specs.Opening.{queue_name, receiver, sender}
use Rattle.law_mailbox.specs.Answered.{FirstIsFurnished, IsFurnished, Plan, for_each, plan_of, receiver_plan, sender_plan}
use Rattle.law_mailbox.specs.Room.{load}
use Rattle.law_mailbox.proofs.opening.Evaluated.{at_number, numbers, opened, stands}
use Rattle.law_mailbox.proofs.opening.InRange.{opening_in_range}

-- the names of a machine's contexts, and what the receiver's and those of the first n senders consist of
record Planned : Type 0 where
  names : List Name
  at_receiver : Plan
  at_senders : List Plan
  receiver_load : ℕ
  sender_loads : List ℕ

abbrev planned_in : ℕ → Machine → Planned
planned_in n m = record { names = map (λ x. x.name) m.contexts; at_receiver = plan_of (context_of m receiver); at_senders = map (λ i. plan_of (context_of m (sender i))) (numbers n); receiver_load = load m receiver queue_name; sender_loads = map (λ i. load m (sender i) queue_name) (numbers n) }

abbrev planned_for : ℕ → Planned
planned_for n = record { names = receiver ∷ for_each sender n; at_receiver = receiver_plan n; at_senders = map (λ i. sender_plan) (numbers n); receiver_load = 16 * n; sender_loads = map (λ i. 16) (numbers n) }

evaluated : map (λ n. planned_in n (opened n)) (numbers 8) ≡ map planned_for (numbers 8)
unfolding opened reserved reserved_by untold_count used_count
evaluated = refl

known_names : (m : Machine) (c : Name) → has_context m c ≡ true → has_word c (map (λ x. x.name) m.contexts) ≡ true
unfolding has_context
known_names m c there = has_name-map (λ (x : Context). x.name) (λ k. k) (λ (x : Context). x.name) c m.contexts (λ x. refl) ∙ there

furnished : (peers : ℕ) → 1 ≤ peers → peers ≤ 8 → IsFurnished peers (opened peers)
furnished peers low high =
    let all : planned_in peers (opened peers) ≡ planned_for peers = at_number (λ n. planned_in n (opened n)) planned_for 8 peers evaluated low high in
    record {
      contexts = λ c there. ap (λ (p : Planned). has_word c p.names) (sym all) ∙ known_names (opened peers) c there;
      at_receiver = ap (λ (p : Planned). p.at_receiver) all;
      at_sender = λ i first last. at_number (λ k. plan_of (context_of (opened peers) (sender k))) (λ k. sender_plan) peers i (ap (λ (p : Planned). p.at_senders) all) first last;
      receiver_room = let e = ap (λ (p : Planned). p.receiver_load) all in omega (arith, e, high);
      sender_room = λ i first last.
          let e : load (opened peers) (sender i) queue_name ≡ 16 = at_number (λ k. load (opened peers) (sender k) queue_name) (λ k. 16) peers i (ap (λ (p : Planned). p.sender_loads) all) first last in
          omega (arith, e);
    }

pub first_furnished : RunsFollowByName → Stands empty_world empty → FirstIsFurnished
first_furnished follow start peers low high = record { machine = opened peers; stands = stands follow start peers (opening_in_range peers high); furnished = furnished peers low high }
