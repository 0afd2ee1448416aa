-- Settling ends within its bound.
use Rattle.std.proofs.Common.{arith, ◌≡◌, ◌≤◌, ◌<◌, ◌+◌, ◌*◌, ℕ, zero, suc, List, length, true, false, Bool, refl, sym, ap, ◌∙◌}
use Rattle.std.specs.Prelude.{Option, Some, None, sum_by, ◌||◌}
use Rattle.std.proofs.lemmas.Option.{slice_get_within}
use Rattle.rdma_types.specs.declared.names.ObjName.{ObjName}
use Rattle.protocol.specs.declared.events.WorldEvent.{WorldEvent}
use Rattle.protocol.specs.State.{World, Link}
use Rattle.protocol.specs.Settle.{Settling, Settled, begun, drained, last_wait, live_ends, live_names, load_of, round, rounds_of, visited, visiting, settled, unacknowledged}
use Rattle.packetless_machine.specs.Machine as machine
use Rattle.packetless_machine.specs.Machine.{Machine}
use Rattle.law_simulation.specs.Law.{AlwaysFollows}
use Rattle.law_simulation.specs.Stands.{Stands}
use Rattle.law_simulation.specs.Views.{link_of, name_of, net_of, peer}
use Rattle.law_simulation.proofs.relation.Grown.{are_made}
use Rattle.law_simulation.proofs.sending.GoLive as go_live
use Rattle.law_simulation.proofs.sending.GoLive.{LiveEnd, joined_here, sends_here}
use Rattle.law_settling.specs.Drained.{DrainingDrains}
use Rattle.law_settling.proofs.draining.Pending.{pending_none}
use Rattle.law_settling.specs.Weights.{TakingLightens}
use Rattle.law_settling.proofs.weights.Links.{weight_most}
use Rattle.law_settling.specs.Ends.{Ends, SettlingEnds, after_rounds, is_moving, started}
use Rattle.law_settling.proofs.bound.Lives.{at_end}
use Rattle.law_settling.proofs.bound.Turns.{live_end}
use Rattle.law_settling.proofs.bound.Sums.{length_listed, load_listed, sum_scaled}
use Rattle.law_settling.proofs.bound.Walk.{drained_going, visits_going, Base, Drains, Going, Kept, all_there, drained_base, end_weight, link_weight, rest_going, round_going, total}

-- ---- a list of rounds

-- from s on, rounds end within the fuel
record EndsFrom (fuel n : ℕ) (s : Settling) : Type 0 where
  j : ℕ
  moving : (k : ℕ) → suc k ≤ j → is_moving (round (after_rounds k s)) ≡ true
  still : is_moving (round (after_rounds j s)) ≡ false
  within : j + 1 ≤ fuel
  result : rounds_of fuel n s ≡ record { world = (round (after_rounds j s)).world; rounds = n + (j + 1) }

settled_like : (w : World) (a b : ℕ) → a ≡ b → ◌≡◌ {A = Settled} (record { world = w; rounds = a }) (record { world = w; rounds = b })
settled_like w a b h = λ i. record { world = w; rounds = h i }

rounds_by : (fuel n : ℕ) (s : Settling) (b : Bool) → is_moving (round s) ≡ b → rounds_of (suc fuel) n s ≡ (elim b as (λ x. Settled) [ true ↦ rounds_of fuel (n + 1) (begun (round s)) | false ↦ record { world = (round s).world; rounds = n + 1 } ])
unfolding rounds_of
rounds_by fuel n s b h = ap (λ t. elim t as (λ x. Settled) [ true ↦ rounds_of fuel (n + 1) (begun (round s)) | false ↦ record { world = (round s).world; rounds = n + 1 } ]) h

one_round : (fuel n : ℕ) (s : Settling) (b : Bool) → is_moving (round s) ≡ b → (b ≡ true → EndsFrom fuel (n + 1) (begun (round s))) → EndsFrom (suc fuel) n s
unfolding after_rounds
one_round fuel n s false h later = record {
  j = 0;
  moving = λ k l. absurd (omega (arith, l));
  still = h;
  within = omega arith;
  result = rounds_by fuel n s false h ∙ settled_like (round s).world (n + 1) (n + (0 + 1)) (omega arith);
}
one_round fuel n s true h later =
    let e : EndsFrom fuel (n + 1) (begun (round s)) = later refl in
    record {
      j = suc e.j;
      moving = moving_by e;
      still = e.still;
      within = omega (arith, e.within);
      result = rounds_by fuel n s true h ∙ (e.result ∙ settled_like _ (n + 1 + (e.j + 1)) (n + (suc e.j + 1)) (omega arith));
    }
  where
    moving_by : (e : EndsFrom fuel (n + 1) (begun (round s))) → (k : ℕ) → suc k ≤ suc e.j → is_moving (round (after_rounds k s)) ≡ true
    moving_by e zero l = h
    moving_by e (suc k) l = e.moving k (omega (arith, l))

module _ (drains : DrainingDrains) (lightens : TakingLightens) (follows : (e : WorldEvent) → AlwaysFollows e) where
  -- ---- later rounds

  module _ (K : ℕ → ℕ) (os : List ObjName) (N : ObjName → ℕ) (n0 : ℕ) where
    abbrev IsKept : Settling → Type 0
    IsKept s = Kept lightens follows K os N n0 s.world

    abbrev IsGoing : ℕ → Settling → Type 0
    IsGoing T s = Going lightens follows K os N n0 T s

    abbrev sum : Settling → ℕ
    sum s = total lightens follows K os N n0 s

    -- a round begins
    begun_going : (s : Settling) → IsKept s → s.changed ≡ false → s.stepped ≡ false → IsGoing (sum s) s
    begun_going s kept changed stepped = record { kept = kept; most = omega arith; changed = λ h. absurd (cc (h, changed)); stepped = λ h. absurd (cc (h, stepped)) }

    begun_sum : (s : Settling) → sum (begun s) ≡ sum s
    unfolding last_wait
    begun_sum s = refl

    moved_less : (T : ℕ) (r : Settling) → IsGoing T r → is_moving r ≡ true → sum r < T
    moved_less T r g h = by_tests r.changed r.stepped refl refl h
      where
        by_tests : (a b : Bool) → r.changed ≡ a → r.stepped ≡ b → (a || b) ≡ true → sum r < T
        by_tests true b c d t = g.changed c
        by_tests false true c d t = g.stepped d
        by_tests false false c d t = absurd (cc)

    ends_from : (fuel n : ℕ) (s : Settling) → IsKept s → s.changed ≡ false → s.stepped ≡ false → sum s < fuel → EndsFrom fuel n s
    ends_from zero n s kept changed stepped h = absurd (omega (arith, h))
    ends_from (suc fuel) n s kept changed stepped h =
        let g : IsGoing (sum s) (round s) = round_going lightens follows K os N n0 (sum s) s (begun_going s kept changed stepped) in
        one_round fuel n s (is_moving (round s)) refl
        (λ t. ends_from fuel (n + 1) (begun (round s)) g.kept refl refl (omega (arith, h, begun_sum (round s), moved_less (sum s) (round s) g t)))

    -- any settling, under a weight that is above its own
    going_above : (s : Settling) → IsKept s → IsGoing (sum s + 1) s
    going_above s kept = record { kept = kept; most = omega arith; changed = λ h. omega arith; stepped = λ h. omega arith }

    kept_rounds : (n : ℕ) (s : Settling) → IsKept s → IsKept (after_rounds n s)
    unfolding after_rounds
    kept_rounds zero s kept = kept
    kept_rounds (suc n) s kept = kept_rounds n (begun (round s)) (round_going lightens follows K os N n0 (sum s + 1) s (going_above s kept)).kept

    kept_visits : (s : Settling) → IsKept s → IsKept (visiting visited (drained s) (live_names s.world))
    kept_visits s kept =
        (visits_going lightens follows K os N n0 (sum s + 1) (drained s) (live_names s.world) (all_there lightens follows K os N n0 (sum s + 1) (live_names s.world) kept.base.names)
        (drained_going lightens follows K os N n0 (sum s + 1) s (going_above s kept))).kept

    visits_names : (s : Settling) → IsKept s → live_names (visiting visited (drained s) (live_names s.world)).world ≡ live_names s.world
    visits_names s kept = (kept_visits s kept).base.names ∙ sym kept.base.names

  -- ---- a settling

  module _ (w : World) (m : Machine) (s : Stands w m) where
    -- how often the partner of the end with a number moved
    K : ℕ → ℕ
    K n = (link_of w (peer (net_of w m) (name_of m n))).moving.own

    N : ObjName → ℕ
    N o = (at_end w o).number

    own_is : (o : ObjName) (l : Link) → (at_end w o).link ≡ Some l → l.moving.own ≡ K l.peer
    unfolding K
    own_is o l at =
        let h : LiveEnd w m o l = live_end w m o l s at in
        let j = joined_here w m o l s h in
        let q : ObjName = (machine.end_of m o).peer in
        let number : l.peer ≡ (machine.end_of m q).number = ap (λ z. z.peer) (sym (go_live.link_is w m o l s h)) ∙ j.number in
        let name : name_of m l.peer ≡ q = ap (name_of m) number ∙ s.numbered.named q (are_made w m s q j.connected) in
        let back : peer (net_of w m) (name_of m l.peer) ≡ o = ap (peer (net_of w m)) name ∙ j.back in
        sym (ap (λ k. (link_of w k).moving.own) back ∙ ap (λ z. z.moving.own) (go_live.link_is w m o l s h))

    few_is : (o : ObjName) (l : Link) → (at_end w o).link ≡ Some l → l.ended ≡ false → l.sender.spent ≤ l.terms.retry
    few_is o l at alive =
        let h : LiveEnd w m o l = live_end w m o l s at in
        let t = sends_here w m o l s h alive in
        omega (arith, t.spent, t.few, (joined_here w m o l s h).retry, ap (λ z. z.terms.retry) (go_live.link_is w m o l s h))

    base : Base lightens follows K (live_names w) N w
    unfolding N
    base = record {
      machine = m;
      stands = s;
      names = refl;
      number = λ o. refl;
      own = own_is;
      few = λ o l at alive. few_is o l at alive;
    }

    abbrev d : Settling
    d = drained (started w)

    first : Drains lightens follows K (live_names w) N w d.world
    first = drained_base lightens follows K (live_names w) N (started w) base

    n0 : ℕ
    n0 = length d.world.sent

    kept : Kept lightens follows K (live_names w) N n0 d.world
    unfolding n0
    kept = record {
      base = first.base;
      most = omega arith;
      fresh = λ j f past there. absurd (omega (arith, past, slice_get_within d.world.sent j f there));
      later = λ j f p. absurd (pending_none d.world.sent j f (drains (started w)) p);
    }

    abbrev weights : ℕ
    weights = total lightens follows K (live_names w) N n0 d

    link_most : (k : ℕ) (x : _) (l : Option Link) → link_weight k x l ≤ 18 * unacknowledged l + 22
    link_most k x None = omega arith
    link_most k x (Some l) = weight_most k x l

    weights_most : weights ≤ 18 * sum_by (λ e. unacknowledged e.link) (live_ends w) + 22 * length (live_ends w)
    weights_most =
        omega (
          arith,
          sum_scaled (end_weight lightens follows K (live_names w) N n0 d) (λ o. unacknowledged (at_end d.world o).link) (live_names w) (λ o. link_most (K (N o)) (last_wait d o) (at_end d.world o).link),
          first.fewer,
          load_listed w m s,
          length_listed w m s,
        )

    first_going : Going lightens follows K (live_names w) N n0 (weights + 1) d
    first_going = record { kept = kept; most = omega arith; changed = λ h. omega arith; stepped = λ h. omega arith }

    first_round : Going lightens follows K (live_names w) N n0 (weights + 1) (round (started w))
    unfolding round
    first_round = rest_going lightens follows K (live_names w) N n0 (weights + 1) d (live_names w) (all_there lightens follows K (live_names w) N n0 (weights + 1) (live_names w) refl) first_going

    all_rounds : (fuel : ℕ) → weights + 3 ≤ fuel → EndsFrom fuel 0 (started w)
    all_rounds zero h = absurd (omega (arith, h))
    all_rounds (suc fuel) h =
        one_round fuel 0 (started w) (is_moving (round (started w))) refl
        (λ t. ends_from K (live_names w) N n0 fuel (0 + 1) (begun (round (started w))) first_round.kept refl refl (omega (arith, h, first_round.most, begun_sum K (live_names w) N n0 (round (started w)))))

    -- the visits of each round leave the names of the live ends
    names_same : (n : ℕ) → live_names (visiting visited (drained (after_rounds n (started w))) (live_names (after_rounds n (started w)).world)).world ≡ live_names (after_rounds n (started w)).world
    unfolding after_rounds
    names_same zero = (visits_going lightens follows K (live_names w) N n0 (weights + 1) d (live_names w) (all_there lightens follows K (live_names w) N n0 (weights + 1) (live_names w) refl) first_going).kept.base.names
    names_same (suc n) = visits_names K (live_names w) N n0 (after_rounds n (begun (round (started w)))) (kept_rounds K (live_names w) N n0 n (begun (round (started w))) first_round.kept)

    enough : weights + 3 ≤ 32 * load_of w
    unfolding load_of
    enough = omega (arith, weights_most)

    ended : Ends w
    unfolding settled
    ended =
        let e : EndsFrom (32 * load_of w) 0 (started w) = all_rounds (32 * load_of w) enough in
        record {
          n = e.j;
          moving = e.moving;
          still = e.still;
          within = e.within;
          settled = e.result ∙ settled_like _ (0 + (e.j + 1)) (e.j + 1) (omega arith);
        }

  pub ends : SettlingEnds
  ends w m s = ended w m s

  pub names_stay : (w : World) (m : Machine) → Stands w m → (n : ℕ) →
      live_names (visiting visited (drained (after_rounds n (started w))) (live_names (after_rounds n (started w)).world)).world ≡ live_names (after_rounds n (started w)).world
  names_stay w m s n = names_same w m s n
