-- Each end of the machine has few untold requests, and what they take is small.
use Rattle.std.proofs.Common.{arith, ◌≡◌, ℕ, ◌≤◌, List, [], ◌∷◌, length, map, take, true, false, Bool, refl, sym, subst, ap, length-drop}
use Rattle.std.specs.Prelude.{All}
use Rattle.std.proofs.lemmas.List.Elements.{All-cons, All-drop, All-nil, All-same, All-take}
use Rattle.rdma_types.specs.declared.names.Name.{Name}
use Rattle.rdma_types.specs.declared.names.ObjName.{ObjName}
use Rattle.rdma_types.specs.Objects.{Posted}
use Rattle.packetless_machine.specs.Machine.{End, Machine, context_of, end_of, has_end, nobody, untold_count}
use Rattle.packetless_machine.specs.Steps.{untold}
use Rattle.law_simulation.specs.Stands.{IsEndSound, Stands}
use Rattle.law_simulation.specs.Views.{owned}
use Rattle.law_simulation.proofs.relation.Tables.{All-named}
use Rattle.mailbox_rules.specs.declared.letters.Letter.{Letter}
use Rattle.mailbox_rules.specs.Histories.{Turn, sent_letters}
use Rattle.mailbox_rules.specs.Opening.{depth, receiver_end, sender_end}
use Rattle.mailbox_rules.specs.State.{Mail}
use Rattle.law_mailbox.specs.Held.{AreAllKept, AtReceiverOf, AtSenderOf, IsEndOf}
use Rattle.law_mailbox.specs.Kept.{freed_as, long_letters, read_as, requests_for, sent_as}
use Rattle.law_mailbox.proofs.connection.Listed.{all_by_name}
use Rattle.law_mailbox.proofs.opening.Pages.{IsLight, IsSmall}
use Rattle.law_mailbox.proofs.work.Staged.{message_fits}

-- ---- what is posted is small

sends_small : (i : ℕ) (ls : List Letter) → All IsSmall (map (sent_as i) ls)
sends_small i [] = All-nil IsSmall
sends_small i (l ∷ ls) = All-cons IsSmall (sent_as i l) (map (sent_as i) ls) (λ e. message_fits i l) (sends_small i ls)

requests_small : (i : ℕ) (ls : List Letter) → All IsSmall (requests_for i ls)
requests_small i [] = All-nil IsSmall
requests_small i (l ∷ ls) = All-cons IsSmall (read_as i l) (freed_as ∷ requests_for i ls) (λ e. absurd (cc)) (All-cons IsSmall freed_as (requests_for i ls) (λ e. omega arith) (requests_small i ls))

posted_light : (e : End) (ps : List Posted) → e.posted ≡ take (length e.posted) ps → All IsSmall ps → untold_count e ≤ e.send_depth → e.send_depth ≡ depth → IsLight (owned e)
unfolding owned untold untold_count
posted_light e ps are small few sixteen = record {
  few = omega (arith, few, sixteen, length-drop e.told e.posted);
  small = All-drop IsSmall e.told e.posted (All-same IsSmall e.posted (take (length e.posted) ps) are (All-take IsSmall (length e.posted) ps small));
}

none_light : (e : End) → e.posted ≡ [] → IsLight (owned e)
unfolding owned untold
none_light e none = record {
  few = omega (arith, length-drop e.told e.posted, ap length none);
  small = All-drop IsSmall e.told e.posted (subst (All IsSmall) (sym none) (All-nil IsSmall));
}

-- ---- each end

module _ (peers : ℕ) (ts : List Turn) (m : Mail) (machine : Machine) (all : AreAllKept peers ts m machine) (stands : Stands m.world machine) where
  sound_of : (o : ObjName) → has_end machine o ≡ true → IsEndSound (context_of machine o.context).regions (map (λ q. q.name) (context_of machine o.context).queues) (end_of machine o)
  unfolding has_end end_of
  sound_of o there = All-named (IsEndSound (context_of machine o.context).regions (map (λ q. q.name) (context_of machine o.context).queues)) (λ e. e.name) (nobody o) o.name (context_of machine o.context).ends (stands.sound o.context).ends there

  pub unused_few : (o : ObjName) → has_end machine o ≡ true → length (end_of machine o).unused ≤ (end_of machine o).receive_depth
  unused_few o there = (sound_of o there).sound.receive_depth

  connected_light : (o : ObjName) → has_end machine o ≡ true → IsEndOf peers o → IsLight (owned (end_of machine o))
  connected_light o there (AtSenderOf i low high e) =
      subst (λ (q : ObjName). IsLight (owned (end_of machine q))) (sym e)
      (posted_light (end_of machine (sender_end i)) (map (sent_as i) (sent_letters i ts)) (all.kept i low high).sends.queue_of_sender (sends_small i (sent_letters i ts))
      (subst (λ (q : ObjName). untold_count (end_of machine q) ≤ (end_of machine q).send_depth) e (sound_of o there).sound.depth) (all.opened i low high).sender_joined.send_depth)
  connected_light o there (AtReceiverOf i low high e) =
      subst (λ (q : ObjName). IsLight (owned (end_of machine q))) (sym e)
      (posted_light (end_of machine (receiver_end i)) (requests_for i (long_letters (sent_letters i ts))) (all.kept i low high).queue (requests_small i (long_letters (sent_letters i ts)))
      (subst (λ (q : ObjName). untold_count (end_of machine q) ≤ (end_of machine q).send_depth) e (sound_of o there).sound.depth) (all.opened i low high).receiver_joined.send_depth)

  end_light : (o : ObjName) → has_end machine o ≡ true → IsLight (owned (end_of machine o))
  end_light o there = by (end_of machine o).connected refl
    where
      by : (b : Bool) → (end_of machine o).connected ≡ b → IsLight (owned (end_of machine o))
      by true e = connected_light o there (all.joined o e)
      by false e = none_light (end_of machine o) (ap (λ (x : End). x.posted) ((sound_of o there).made e))

  -- all ends of a context
  pub all_light : (c : Name) → All (λ e. IsLight (owned e)) (context_of machine c).ends
  unfolding has_end end_of
  all_light c = all_by_name (λ e. IsLight (owned e)) (λ e. e.name) (λ n. nobody (record { context = c; name = n })) (context_of machine c).ends (stands.sound c).named_once (λ n there. end_light (record { context = c; name = n }) there)
