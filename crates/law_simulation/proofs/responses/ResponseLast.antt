-- One more step of the machine after its owner learned of all numbers before the oldest: what the first untold request is.
use Rattle.std.proofs.Common.{arith, ◌≡◌, ◌≤◌, ◌<◌, ◌+◌, ◌/◌, ℕ, suc, List, [], ◌∷◌, ◌++◌, length, true, false, Bool, refl, sym, ap, ◌∙◌, inl, inr}
use Rattle.std.specs.Prelude.{not, nat_lt, ◌&&◌}
use Rattle.std.proofs.lemmas.Bool.Decides.{nat_tests, leb_tells}
use Rattle.std.proofs.lemmas.List.{append-nil}
use Rattle.rdma_types.specs.declared.names.ObjName.{ObjName}
use Rattle.rdma_types.specs.Spans.{end_number, request_of, span_of}
use Rattle.protocol.specs.Requester as requester
use Rattle.protocol.specs.State.{World, Link}
use Rattle.packetless_machine.specs.declared.steps.MachineStep.{MachineStep}
use Rattle.packetless_machine.specs.declared.steps.MachineStep.TheVariants as steps
use Rattle.packetless_machine.specs.Legal.{IsRun, after, effect}
use Rattle.packetless_machine.specs.Machine as machine
use Rattle.packetless_machine.specs.Machine.{Machine, End, posted_at}
use Rattle.packetless_machine.specs.Numbers.{due}
use Rattle.packetless_machine.specs.Steps.{has_untold}
use Rattle.law_simulation.specs.Carries.{TellsUpTo, TellsThenMaybe}
use Rattle.law_simulation.specs.Stands.{Stands}
use Rattle.law_simulation.specs.Delivered.{AreInner}
use Rattle.law_simulation.proofs.sending.GoLive.{LiveEnd, connected_here, ended_here}
use Rattle.law_simulation.proofs.sending.GoNumbers.{first_mono, first_past}
use Rattle.law_simulation.proofs.sending.GoPieces.{known_within}
use Rattle.law_simulation.proofs.responses.ResponseAdvance.{end_heard, heard, learn, mtu_here}
use Rattle.law_simulation.proofs.responses.ResponseLearns.{first_next}
use Rattle.law_simulation.proofs.responses.ResponseNumbers.{request_inside}

-- ---- runs

pub run_then : (xs ys : List MachineStep) (m : Machine) → IsRun m xs → IsRun (after m xs) ys → IsRun m (xs ++ ys)
run_then [] ys m a b = b
run_then (x ∷ xs) ys m a b = (a.0, run_then xs ys (effect m x) a.1 b)

pub after_then : (xs ys : List MachineStep) (m : Machine) → after m (xs ++ ys) ≡ after (after m xs) ys
after_then [] ys m = refl
after_then (x ∷ xs) ys m = after_then xs ys (effect m x)

pub inner_then : (xs ys : List MachineStep) → AreInner xs → AreInner ys → AreInner (xs ++ ys)
inner_then [] ys a b = b
inner_then (steps.Verb verb given ∷ xs) ys a b = absurd a
inner_then (steps.Run q n ∷ xs) ys a b = inner_then xs ys a b
inner_then (steps.Atom q ∷ xs) ys a b = inner_then xs ys a b
inner_then (steps.ReadTurn q ∷ xs) ys a b = inner_then xs ys a b
inner_then (steps.Refuse q why ∷ xs) ys a b = inner_then xs ys a b
inner_then (steps.Dry q ∷ xs) ys a b = inner_then xs ys a b
inner_then (steps.Offer q i off n ∷ xs) ys a b = inner_then xs ys a b
inner_then (steps.Land q o ∷ xs) ys a b = inner_then xs ys a b
inner_then (steps.Known q bytes ∷ xs) ys a b = inner_then xs ys a b
inner_then (steps.Tell q ∷ xs) ys a b = inner_then xs ys a b
inner_then (steps.Expire q ∷ xs) ys a b = inner_then xs ys a b
inner_then (steps.Wait q ∷ xs) ys a b = inner_then xs ys a b
inner_then (steps.Bounce q ∷ xs) ys a b = inner_then xs ys a b

pub then_none : (m : Machine) (o : ObjName) (limit : ℕ) (step : MachineStep) (ss : List MachineStep) → TellsUpTo m o limit ss → TellsThenMaybe m o limit step ss
then_none m o limit step ss t = record { tells = ss; last = []; are = sym (append-nil ss); told = t; at_most = inl refl }

pub then_one : (m : Machine) (o : ObjName) (limit : ℕ) (step : MachineStep) (ss : List MachineStep) → TellsUpTo m o limit ss → TellsThenMaybe m o limit step (ss ++ step ∷ [])
then_one m o limit step ss t = record { tells = ss; last = step ∷ []; are = refl; told = t; at_most = inr refl }

less_tells : (a b : ℕ) → a < b → nat_lt a b ≡ true
less_tells a b h = grind (arith, nat_tests, leb_tells (suc a) b)

-- ---- the first untold request, where all numbers below n are known, and n is not past the end

module _ (w : World) (m : Machine) (o : ObjName) (l : Link) (s : Stands w m) (h : LiveEnd w m o l) (alive : l.ended ≡ false) (n : ℕ) (low : l.sender.una ≤ n) (within : n ≤ requester.barrier l.terms l.sender) (acts : n ≤ due (machine.end_of m o)) (inside : n < end_number (machine.end_of m o).posted (machine.end_of m o).mtu) where
  abbrev f : End
  f = machine.end_of m o

  abbrev told : ℕ
  told = f.told + (learn w m o l s h alive n low within acts).count

  abbrev bytes : ℕ
  bytes = (learn w m o l s h alive n low within acts).known

  in_span : bytes / f.mtu < span_of (posted_at f.posted told) f.mtu
  in_span =
      let x = learn w m o l s h alive n low within acts in
      known_within (posted_at f.posted told) f.mtu bytes (mtu_here w m o l s h alive) x.knows.whole x.telling.1

  -- it is there
  pub front_there : told < length f.posted
  front_there = by_order (nat_lt told (length f.posted)) refl
    where
      by_order : (b : Bool) → nat_lt told (length f.posted) ≡ b → told < length f.posted
      by_order true t = grind (arith, nat_tests, leb_tells (suc told) (length f.posted), t)
      by_order false t =
          let over : length f.posted ≤ told = grind (arith, nat_tests, leb_tells (suc told) (length f.posted), t) in
          absurd (omega (arith, inside, first_past f.posted f.mtu told over, (learn w m o l s h alive n low within acts).oldest_is))

  -- n is a number of it
  pub front_of : request_of f.posted f.mtu n ≡ told
  front_of = ap (request_of f.posted f.mtu) (sym (learn w m o l s h alive n low within acts).oldest_is) ∙ request_inside f.posted f.mtu told (bytes / f.mtu) front_there in_span

  -- where n acts next, it acts next
  pub front_acts : n ≡ due f → told ≡ f.acted
  unfolding due
  front_acts same = by_order (nat_lt told f.acted) refl
    where
      by_order : (b : Bool) → nat_lt told f.acted ≡ b → told ≡ f.acted
      by_order true t =
          let less : suc told ≤ f.acted = grind (arith, nat_tests, leb_tells (suc told) f.acted, t) in
          absurd (omega (arith, same, (learn w m o l s h alive n low within acts).oldest_is, in_span, first_next f.posted f.mtu told front_there, first_mono f.posted f.mtu (suc told) f.acted less))
      by_order false t =
          let over : f.acted ≤ told = grind (arith, nat_tests, leb_tells (suc told) f.acted, t) in
          omega (arith, over, (learn w m o l s h alive n low within acts).knows.acted)

  -- an untold request is there
  pub untold_then : has_untold (after m (heard w m o l s h alive n low within acts).steps) o ≡ true
  unfolding has_untold
  untold_then =
      let e = end_heard w m o l s h alive n low within acts in
      ap (λ z. z.connected && (not z.ended && nat_lt z.told (length z.posted))) e
      ∙ (ap (λ b. b && (not f.ended && nat_lt told (length f.posted))) (connected_here w m o l s h)
      ∙ (ap (λ b. not b && nat_lt told (length f.posted)) (ended_here w m o l s h ∙ alive)
      ∙ less_tells told (length f.posted) front_there))
