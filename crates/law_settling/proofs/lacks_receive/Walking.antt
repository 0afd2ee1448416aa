-- What is noted of all ends stays true through a settling.
use Rattle.std.proofs.Common.{arith, ◌≡◌, ◌⊎◌, ℕ, zero, suc, List, [], ◌∷◌, true, false, Bool, refl, sym, ap, ◌∙◌, subst, inl, inr}
use Rattle.std.specs.Prelude.{Option, Some, None, bytes_eq, if◌then◌else◌, ◌==◌, ◌&&◌, not, nat_lt}
use Rattle.std.proofs.lemmas.Bool.Decides.{nat_tests, eqb_tells}
use Rattle.rdma_types.specs.declared.answers.ExpiryIgnored.TheVariants as not_why
use Rattle.rdma_types.specs.declared.names.ObjName.{ObjName}
use Rattle.rdma_types.specs.Lists.{first_that, same_object}
use Rattle.rdma_types.specs.Spans.{Piece}
use Rattle.protocol.specs.declared.events.Event.TheVariants as events
use Rattle.protocol.specs.declared.events.WorldEvent.{WorldEvent}
use Rattle.protocol.specs.declared.events.WorldEvent.TheVariants as world_events
use Rattle.protocol.specs.EndWords.{is_paused, is_resuming, is_resuming_link, is_running}
use Rattle.protocol.specs.Fabric.{first_of, pending, pending_numbers}
use Rattle.protocol.specs.Requester.{Sends, SendsResume, not_counted, transmission}
use Rattle.protocol.specs.State.{World, Link}
use Rattle.protocol.specs.WorldStep.{world_step}
use Rattle.protocol.specs.Settle.{Settling, Waited, begun, delivering, drained, expire_by, expire_visit, has_stepped, is_sent, last_wait, link_at, live_names, may_step, noting, partner_ended, pass, rnr_by, rnr_visit, round, same_end, sending_all, sending_fuel, sends_all, sends_if_running, settle_step, stepped_to, timers, timers_if_still, transmit, visited, visiting}
use Rattle.packetless_machine.specs.Machine.{Machine}
use Rattle.packetless_machine.specs.Legal.{after}
use Rattle.law_simulation.specs.Law.{AlwaysFollows, Follows}
use Rattle.law_simulation.specs.Stands.{Stands}
use Rattle.law_simulation.proofs.relation.Tables.{name_tells}
use Rattle.law_settling.specs.Drained.{DrainingDrains}
use Rattle.law_settling.specs.Weights.{TakingLightens}
use Rattle.law_settling.specs.Ends.{after_rounds, started}
use Rattle.law_settling.proofs.bound.Lives.{at_end, link_is}
use Rattle.law_settling.proofs.bound.Turns.{live_end}
use Rattle.law_settling.proofs.sending_stops.Transmitting.{sent_row}
use Rattle.law_settling.proofs.lacks_receive.Kept.{IsLinkOn, linked_after, linked_before, some_link}
use Rattle.law_settling.proofs.lacks_receive.Answered.{IsFree}
use Rattle.law_settling.proofs.lacks_receive.Stepping.{IsTimed, expire_timed, rnr_timed}
use Rattle.law_settling.proofs.lacks_receive.Noted.{HasGone, IsNoted, noted_on, timed_gone}
use Rattle.law_settling.proofs.lacks_receive.Partners.{ended_lost}
use Rattle.law_settling.proofs.lacks_receive.Exchanged.{piece_gone}
use Rattle.law_settling.proofs.lacks_receive.Resumed.{resume_gone}
use Rattle.law_settling.proofs.lacks_receive.Tests.{both_parts}

-- ---- what draining leaves of the notes, and of a settling with nothing pending

delivering_waited : (ks : List ℕ) (s : Settling) → (delivering s ks).waited ≡ s.waited
unfolding delivering settle_step stepped_to
delivering_waited [] s = refl
delivering_waited (k ∷ ks) s = delivering_waited ks (settle_step s (world_events.Deliver k))

drained_waited : (s : Settling) → (drained s).waited ≡ s.waited
unfolding drained
drained_waited s =
    delivering_waited (pending_numbers (pass (pass s)).world.sent) (pass (pass s))
    ∙ (delivering_waited (pending_numbers (pass s).world.sent) (pass s) ∙ delivering_waited (pending_numbers s.world.sent) s)

none_of : (ks : List ℕ) → first_of ks ≡ None → ks ≡ []
none_of [] h = refl
none_of (k ∷ ks) h = absurd (cc)

pass_same : (s : Settling) → pending s.world.sent ≡ None → pass s ≡ s
unfolding delivering pending
pass_same s calm = ap (delivering s) (none_of (pending_numbers s.world.sent) calm)

drained_same : (s : Settling) → pending s.world.sent ≡ None → drained s ≡ s
unfolding drained
drained_same s calm = ap (λ z. pass (pass z)) (pass_same s calm) ∙ (ap pass (pass_same s calm) ∙ pass_same s calm)

-- ---- notes by their names

same_tells : (a b : ObjName) → same_object a b ≡ true → a ≡ b
same_tells a b h = by_tests (bytes_eq a.context b.context) (bytes_eq a.name b.name) refl refl h
  where
    equal : (x y : List ℕ) → bytes_eq x y ≡ true → x ≡ y
    equal x y t = elim (name_tells x y) [ inl e ↦ e.1 | inr ne ↦ absurd (cc (t, ne.0)) ]

    by_tests : (x y : Bool) → bytes_eq a.context b.context ≡ x → bytes_eq a.name b.name ≡ y → (x && y) ≡ true → a ≡ b
    by_tests true true s t g = λ i. record { context = equal a.context b.context s i; name = equal a.name b.name t i }
    by_tests true false s t g = absurd (cc)
    by_tests false y s t g = absurd (cc)

no_first : (test : Waited → Bool) (x : Waited) → first_that test [] ≡ Some x → ⊥
unfolding first_that
no_first test x h = cc

some_wait : (a b : Waited) → Some a ≡ Some b → a ≡ b
some_wait a b h = cc

free_not : (l : Link) → IsFree l → l.ended ≡ false → l.sender.rnr_wait ≡ true → ⊥
free_not l (inl a) u v = cc (a, u)
free_not l (inr a) u v = cc (a, v)

-- ---- all ends

-- what is noted of each end is true, and nothing is pending
pub record AreNoted (s : Settling) : Type 0 where
  pub machine : Machine
  pub stands : Stands s.world machine
  pub calm : pending s.world.sent ≡ None
  pub notes : (o : ObjName) (l : Link) (x : Waited) → (at_end s.world o).link ≡ Some l → last_wait s o ≡ Some x → IsNoted s.world l x

-- an end is there
abbrev HasLink : Settling → ObjName → Type 0
HasLink s o = (l : Link) × ((at_end s.world o).link ≡ Some l)

-- one end went on
gone_noted : (s t : Settling) → AreNoted s → (m' : Machine) → Stands t.world m' → pending t.world.sent ≡ None → t.waited ≡ s.waited → (z : ObjName) (lz : Link) → (at_end s.world z).link ≡ Some lz → HasGone s.world t.world z lz → AreNoted t
unfolding last_wait
gone_noted s t n m' stands calm waited z lz at g = record {
  machine = m';
  stands = stands;
  calm = calm;
  notes = λ o l' x there note.
      let b = linked_before IsLinkOn (at_end s.world o).link (at_end t.world o).link l' (g.on o).links there in
      noted_on s.world t.world n.machine n.stands z lz at g o b.0 l' b.1 there x (n.notes o b.0 x b.1 (ap (first_that (same_end o)) (sym waited) ∙ note));
}

module _ (drains : DrainingDrains) (lightens : TakingLightens) (follows : (e : WorldEvent) → AlwaysFollows e) where
  delivering_stands : (ks : List ℕ) (s : Settling) (m : Machine) → Stands s.world m → (m' : Machine) × Stands (delivering s ks).world m'
  unfolding delivering settle_step stepped_to
  delivering_stands [] s m stands = (m, stands)
  delivering_stands (k ∷ ks) s m stands =
      let f : Follows s.world m (world_events.Deliver k) = follows (world_events.Deliver k) s.world m tt stands in
      delivering_stands ks (settle_step s (world_events.Deliver k)) (after m f.steps) f.stands

  drained_stands : (s : Settling) (m : Machine) → Stands s.world m → (m' : Machine) × Stands (drained s).world m'
  unfolding drained
  drained_stands s m stands =
      let one = delivering_stands (pending_numbers s.world.sent) s m stands in
      let two = delivering_stands (pending_numbers (pass s).world.sent) (pass s) one.0 one.1 in
      delivering_stands (pending_numbers (pass (pass s)).world.sent) (pass (pass s)) two.0 two.1

  -- ---- sending

  step_stands : (s : Settling) (o : ObjName) → AreNoted s → (m' : Machine) × Stands (settle_step s (transmit o)).world m'
  unfolding settle_step stepped_to
  step_stands s o n =
      let f : Follows s.world n.machine (transmit o) = follows (transmit o) s.world n.machine tt n.stands in
      (after n.machine f.steps, f.stands)

  step_waited : (s : Settling) (e : WorldEvent) → (settle_step s e).waited ≡ s.waited
  unfolding settle_step stepped_to
  step_waited s e = refl

  exchanged : (s : Settling) (o : ObjName) (l : Link) → AreNoted s → (at_end s.world o).link ≡ Some l → HasGone s.world (drained (settle_step s (transmit o))).world o l → AreNoted (drained (settle_step s (transmit o))) × HasLink (drained (settle_step s (transmit o))) o
  exchanged s o l n at g =
      let t : Settling = settle_step s (transmit o) in
      let stepped = step_stands s o n in
      let stands = drained_stands t stepped.0 stepped.1 in
      let a = linked_after IsLinkOn (at_end s.world o).link (at_end (drained t).world o).link l (g.on o).links at in
      (gone_noted s (drained t) n stands.0 stands.1 (drains t) (drained_waited t ∙ step_waited s (transmit o)) o l at g, (a.0, a.1))

  abbrev IsSent : Link → Type 0
  IsSent l = (transmission l ≡ SendsResume) ⊎ ((x : Piece) × (transmission l ≡ Sends x))

  exchange_by : (s : Settling) (o : ObjName) (l : Link) → AreNoted s → (at_end s.world o).link ≡ Some l → IsSent l → AreNoted (drained (settle_step s (transmit o))) × HasLink (drained (settle_step s (transmit o))) o
  exchange_by s o l n at (inl resume) = exchanged s o l n at (resume_gone lightens follows s n.machine o l n.stands at resume n.calm)
  exchange_by s o l n at (inr piece) = exchanged s o l n at (piece_gone lightens follows s n.machine o l n.stands at piece.0 piece.1 n.calm)

  sending_by : (b : Bool) (s t : Settling) → (b ≡ true → AreNoted s) → AreNoted t → AreNoted (elim b as (λ x. Settling) [ true ↦ s | false ↦ t ])
  sending_by true s t h k = h refl
  sending_by false s t h k = k

  sending_noted : (fuel : ℕ) (s : Settling) (o : ObjName) → AreNoted s → HasLink s o → AreNoted (sending_all fuel s o)
  unfolding sending_all
  sending_noted zero s o n has = n
  sending_noted (suc fuel) s o n has =
      sending_by (is_sent (world_step s.world (transmit o)).answer) (sending_all fuel (drained (settle_step s (transmit o))) o) s
      (λ t. let e = exchange_by s o has.0 n has.1 (sent_row s.world n.machine o has.0 (live_end s.world n.machine o has.0 n.stands has.1) t) in sending_noted fuel (drained (settle_step s (transmit o))) o e.0 e.1) n

  test_noted : (b : Bool) (s t : Settling) → (b ≡ true → AreNoted s) → AreNoted t → AreNoted (if b then s else t)
  test_noted true s t h k = h refl
  test_noted false s t h k = k

  -- an end that runs, or resumes, is there
  runs_there : (s : Settling) (o : ObjName) (r : Option Link) → link_at s.world o ≡ r → is_running r ≡ true → HasLink s o
  runs_there s o None h t = absurd (cc)
  runs_there s o (Some l) h t = (l, sym (link_is s.world o) ∙ h)

  running_noted : (s : Settling) (o : ObjName) → AreNoted s → AreNoted (sends_if_running s o)
  unfolding sends_if_running sends_all
  running_noted s o n =
      test_noted (is_running (link_at s.world o)) (sending_all (sending_fuel (link_at s.world o)) s o) s
      (λ t. sending_noted (sending_fuel (link_at s.world o)) s o n (runs_there s o (link_at s.world o) refl t)) n

  resumes_row : (l : Link) → is_resuming_link (Some l) ≡ true → transmission l ≡ SendsResume
  unfolding transmission
  resumes_row l h = rw h refl

  resuming_by : (s : Settling) (o : ObjName) (r : Option Link) → link_at s.world o ≡ r → is_resuming_link r ≡ true → AreNoted s → AreNoted (drained (settle_step s (transmit o)))
  resuming_by s o None h t n = absurd (cc)
  resuming_by s o (Some l) h t n = (exchange_by s o l n (sym (link_is s.world o) ∙ h) (inl (resumes_row l t))).0

  visited_noted : (s : Settling) (o : ObjName) → AreNoted s → AreNoted (visited s o)
  unfolding visited
  visited_noted s o n =
      test_noted (is_resuming_link (link_at s.world o)) (sends_if_running (drained (settle_step s (transmit o))) o) (sends_if_running s o)
      (λ t. running_noted (drained (settle_step s (transmit o))) o (resuming_by s o (link_at s.world o) refl t n)) (running_noted s o n)

  visiting_noted : (visit : Settling → ObjName → Settling) → ((s : Settling) (o : ObjName) → AreNoted s → AreNoted (visit s o)) → (os : List ObjName) (s : Settling) → AreNoted s → AreNoted (visiting visit s os)
  unfolding visiting
  visiting_noted visit each [] s n = n
  visiting_noted visit each (o ∷ os) s n = visiting_noted visit each os (visit s o) (each s o n)

  -- ---- timers

  -- the step of a timer, with its note
  rnr_step : (s : Settling) (o : ObjName) (l : Link) → link_at s.world o ≡ Some l → l.sender.rnr_wait ≡ true → AreNoted s → AreNoted (noting s o l (settle_step s (world_events.At (events.RnrOver o))))
  unfolding settle_step stepped_to last_wait first_that
  rnr_step s o l h wait n =
      let at : (at_end s.world o).link ≡ Some l = sym (link_is s.world o) ∙ h in
      let e : WorldEvent = world_events.At (events.RnrOver o) in
      let w' : World = (world_step s.world e).world in
      let f : Follows s.world n.machine e = follows e s.world n.machine tt n.stands in
      let t : IsTimed s.world w' o = rnr_timed s.world n.machine o l n.stands at wait in
      let g : HasGone s.world w' o l = timed_gone s.world w' o l t in
      let new : Waited = record { end = o; una = l.sender.una; partner_ended = partner_ended s.world l } in
      record {
        machine = after n.machine f.steps;
        stands = f.stands;
        calm = ap pending t.sent ∙ n.calm;
        notes = λ k l' x there note. noted_by w' g t new refl k l' x there (same_object k o) refl note;
      }
    where
      noted_by : (w' : World) → HasGone s.world w' o l → IsTimed s.world w' o → (new : Waited) → new.partner_ended ≡ partner_ended s.world l → (k : ObjName) (l' : Link) (x : Waited) → (at_end w' k).link ≡ Some l' → (b : Bool) → same_object k o ≡ b → (if b then Some new else first_that (same_end k) s.waited) ≡ Some x → IsNoted w' l' x
      noted_by w' g t new is k l' x there false no_name note =
          let b = linked_before IsLinkOn (at_end s.world k).link (at_end w' k).link l' (g.on k).links there in
          noted_on s.world w' n.machine n.stands o l (sym (link_is s.world o) ∙ h) g k b.0 l' b.1 there x (n.notes k b.0 x b.1 note)
      noted_by w' g t new is k l' x there true name note =
          let same : k ≡ o = same_tells k o name in
          let b = linked_before IsLinkOn (at_end s.world k).link (at_end w' k).link l' (g.on k).links there in
          let is_l : b.0 ≡ l = some_link b.0 l (sym b.1 ∙ (ap (λ z. (at_end s.world z).link) same ∙ (sym (link_is s.world o) ∙ h))) in
          let is_x : new ≡ x = some_wait new x note in
          record {
            told = λ alive waits. absurd (free_not l' (t.free l' (ap (λ z. (at_end w' z).link) (sym same) ∙ there)) alive waits);
            over = λ ended p lp at_p number.
                let p_before = linked_before IsLinkOn (at_end s.world p).link (at_end w' p).link lp (g.on p).links at_p in
                p_before.2.ended (ended_lost s.world n.machine n.stands p p_before.0 l p_before.1 (sym (g.on p).number ∙ (number ∙ (b.2.peer ∙ ap (λ z. z.peer) is_l))) (sym is ∙ (ap (λ z. z.partner_ended) is_x ∙ ended)));
          }

  rnr_noted : (s : Settling) (o : ObjName) (r : Option Link) → link_at s.world o ≡ r → AreNoted s → AreNoted (rnr_by s o r)
  rnr_noted s o None h n = n
  rnr_noted s o (Some l) h n =
      test_noted (l.sender.rnr_wait && may_step s.world l (last_wait s o)) (noting s o l (settle_step s (world_events.At (events.RnrOver o)))) s (λ t. rnr_step s o l h (both_parts _ _ t).0 n) n

  rnr_visit_noted : (s : Settling) (o : ObjName) → AreNoted s → AreNoted (rnr_visit s o)
  unfolding rnr_visit
  rnr_visit_noted s o n = rnr_noted s o (link_at s.world o) refl n

  -- an expiry that counts
  counting : (l : Link) → (is_running (Some l) && (not l.sender.rnr_wait && nat_lt l.sender.una l.sender.next)) ≡ true → (l.sender.rnr_wait ≡ false) × (not_counted l ≡ None)
  unfolding not_counted
  counting l h = by_tests l.ended (is_paused l.moving.phase) (is_resuming l.moving.phase) l.sender.rnr_wait (nat_lt l.sender.una l.sender.next) (l.sender.next == l.sender.una) (λ k. apart l.sender.una l.sender.next k) h
    where
      apart : (a b : ℕ) → nat_lt a b ≡ true → (b == a) ≡ false
      apart a b k = grind (arith, nat_tests, k, eqb_tells b a)

      by_tests : (a b c d e f : Bool) → (e ≡ true → f ≡ false) → ((not a && (not b && not c)) && (not d && e)) ≡ true → (d ≡ false) × ((if a then Some not_why.Ended else if b then Some not_why.Paused else if c then Some not_why.Resuming else if d then Some not_why.Rnr else if f then Some not_why.Nothing else None) ≡ None)
      by_tests true b c d e f k t = absurd (cc)
      by_tests false true c d e f k t = absurd (cc)
      by_tests false false true d e f k t = absurd (cc)
      by_tests false false false true e f k t = absurd (cc)
      by_tests false false false false false f k t = absurd (cc)
      by_tests false false false false true true k t = absurd (cc (k refl))
      by_tests false false false false true false k t = (refl, refl)

  expire_step : (s : Settling) (o : ObjName) (l : Link) → link_at s.world o ≡ Some l → l.sender.rnr_wait ≡ false → not_counted l ≡ None → AreNoted s → AreNoted (has_stepped (settle_step s (world_events.At (events.Expire o))))
  unfolding settle_step stepped_to
  expire_step s o l h waits none n =
      let at : (at_end s.world o).link ≡ Some l = sym (link_is s.world o) ∙ h in
      let e : WorldEvent = world_events.At (events.Expire o) in
      let w' : World = (world_step s.world e).world in
      let f : Follows s.world n.machine e = follows e s.world n.machine tt n.stands in
      let t : IsTimed s.world w' o = expire_timed s.world n.machine o l n.stands at waits none in
      gone_noted s (has_stepped (settle_step s e)) n (after n.machine f.steps) f.stands (ap pending t.sent ∙ n.calm) refl o l at (timed_gone s.world w' o l t)

  expire_noted : (s : Settling) (o : ObjName) (r : Option Link) → link_at s.world o ≡ r → AreNoted s → AreNoted (expire_by s o r)
  expire_noted s o None h n = n
  expire_noted s o (Some l) h n =
      test_noted (is_running (Some l) && (not l.sender.rnr_wait && nat_lt l.sender.una l.sender.next)) (has_stepped (settle_step s (world_events.At (events.Expire o)))) s
      (λ t. let p = counting l t in expire_step s o l h p.0 p.1 n) n

  expire_visit_noted : (s : Settling) (o : ObjName) → AreNoted s → AreNoted (expire_visit s o)
  unfolding expire_visit
  expire_visit_noted s o n = expire_noted s o (link_at s.world o) refl n

  timers_noted : (s : Settling) (os : List ObjName) → AreNoted s → AreNoted (timers s os)
  unfolding timers
  timers_noted s os n =
      let t : Settling = visiting rnr_visit s os in
      let k : AreNoted t = visiting_noted rnr_visit rnr_visit_noted os s n in
      test_noted t.stepped t (visiting expire_visit t os) (λ h. k) (visiting_noted expire_visit expire_visit_noted os t k)

  -- ---- rounds

  rest_noted : (s : Settling) (os : List ObjName) → AreNoted s → AreNoted (timers_if_still (visiting visited s os) os)
  rest_noted s os n =
      let t : Settling = visiting visited s os in
      let k : AreNoted t = visiting_noted visited visited_noted os s n in
      test_noted t.changed t (timers t os) (λ h. k) (timers_noted t os k)

  round_noted : (s : Settling) → AreNoted (drained s) → AreNoted (round s)
  unfolding round
  round_noted s n = rest_noted (drained s) (live_names s.world) n

  begun_noted : (s : Settling) → AreNoted s → AreNoted (begun s)
  unfolding last_wait
  begun_noted s n = record { machine = n.machine; stands = n.stands; calm = n.calm; notes = n.notes }

  drained_noted : (s : Settling) → AreNoted s → AreNoted (drained s)
  drained_noted s n = subst AreNoted (sym (drained_same s n.calm)) n

  -- before the first round nothing is noted
  first_noted : (w : World) (m : Machine) → Stands w m → AreNoted (drained (started w))
  unfolding last_wait
  first_noted w m stands =
      let s = drained_stands (started w) m stands in
      record {
        machine = s.0;
        stands = s.1;
        calm = drains (started w);
        notes = λ o l x at note. absurd (no_first (same_end o) x (ap (first_that (same_end o)) (sym (drained_waited (started w))) ∙ note));
      }

  rounds_noted : (n : ℕ) (s : Settling) → AreNoted (drained s) → AreNoted (drained (after_rounds n s))
  unfolding after_rounds
  rounds_noted zero s h = h
  rounds_noted (suc n) s h = rounds_noted n (begun (round s)) (drained_noted (begun (round s)) (begun_noted (round s) (round_noted s h)))

  -- after the visits of each round
  pub visits_noted : (w : World) (m : Machine) → Stands w m → (n : ℕ) → AreNoted (visiting visited (drained (after_rounds n (started w))) (live_names (after_rounds n (started w)).world))
  visits_noted w m stands n = visiting_noted visited visited_noted (live_names (after_rounds n (started w)).world) (drained (after_rounds n (started w))) (rounds_noted n (started w) (first_noted w m stands))
