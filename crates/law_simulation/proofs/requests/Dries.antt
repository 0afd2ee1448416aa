-- The expected request finds no receive: it stays expected, and an RNR NAK is sent.
use Rattle.std.proofs.Common.{arith, ◌≡◌, ℕ, List, [], ◌∷◌, ◌++◌, length, true, false, refl, sym, ◌∙◌, subst, inl, inr}
use Rattle.std.specs.Prelude.{Option, Contains}
use Rattle.std.proofs.lemmas.List.Elements.{All-nil, All-cons}
use Rattle.rdma_types.specs.declared.names.ObjName.{ObjName}
use Rattle.rdma_types.specs.declared.answers.ArrivalEffect.TheVariants as took
use Rattle.protocol.specs.declared.wire.Syndrome.TheVariants.{Rnr}
use Rattle.protocol.specs.State as state
use Rattle.protocol.specs.State.{World, Link, Receiver}
use Rattle.protocol.specs.Wire.{Packet}
use Rattle.protocol.specs.EndWords as words
use Rattle.protocol.specs.EndWords.{is_paused}
use Rattle.protocol.specs.Responder.{not_ready, expected_packet, acknowledge}
use Rattle.protocol.specs.DeviceStep.{ended_step}
use Rattle.protocol.specs.WorldStep.{home, ran}
use Rattle.packetless_machine.specs.declared.steps.MachineStep.TheVariants as steps
use Rattle.packetless_machine.specs.Machine as machine
use Rattle.packetless_machine.specs.Machine.{Machine, End, regions_of}
use Rattle.packetless_machine.specs.Numbers.{due}
use Rattle.packetless_machine.specs.Sound.{IsSound}
use Rattle.packetless_machine.specs.Steps.{in_place, may_dry, dried, dried_at}
use Rattle.law_simulation.specs.Packets.{class_of, IsRequest}
use Rattle.law_simulation.specs.Carries.{due_steps}
use Rattle.law_simulation.specs.Views.{link_of, requests_of, side_of}
use Rattle.law_simulation.specs.Joined.{IsProgress}
use Rattle.law_simulation.specs.Stands.{Stands}
use Rattle.law_simulation.proofs.relation.SoundEnds.{sound_still}
use Rattle.law_simulation.proofs.relation.Grants.{contains_last, contains_cases, contains_here, contains_later}
use Rattle.law_simulation.proofs.relation.Linked.{end_changed}
use Rattle.law_simulation.specs.Delivered as delivered
use Rattle.law_simulation.specs.Delivered.{Arrives, Takes}
use Rattle.law_simulation.proofs.delivery.Lifted.{IsAnswer, side_now}
use Rattle.law_simulation.proofs.requests.Requests.{IsRequestAt, asker, asking, request_at_end}
use Rattle.law_simulation.proofs.requests.Replies.{dry_answer}
use Rattle.law_simulation.proofs.requests.Responding.{IsRespond, responds, takes_so, made_there}
use Rattle.law_simulation.proofs.requests.Advancing.{IsAdvance, no_advance, got, moved_on}
use Rattle.law_simulation.proofs.requests.Acted.{end_moved_sound}
use Rattle.law_simulation.proofs.requests.Counting.{counts, linked_again, progress_now, q_sound, q_in, q_there}
use Rattle.law_simulation.proofs.requests.Expected.{at, due_now, g_sound, request_now, connected_now, step_now, carries_now}

-- more dry turns
contains_push : {A : Type 0} (xs : List A) (y x : A) → Contains xs x → Contains (xs ++ y ∷ []) x
contains_push [] y x h = absurd (omega (arith, h.1))
contains_push (z ∷ xs) y x h = elim (contains_cases x z xs h) [
  | inl e ↦ subst (λ k. Contains (k ∷ (xs ++ y ∷ [])) x) (sym e) (contains_here x (xs ++ y ∷ []))
  | inr l ↦ contains_later x z (xs ++ y ∷ []) (contains_push xs y x l)
]

dry_sound : (q : End) (dry : List ℕ) → IsSound q → IsSound (moved_on q q.acted q.into q.answers q.offers dry)
unfolding in_place machine.untold_count
dry_sound q dry s = sound_still q (record q { dry = dry }) s.offers s.receive_depth s

dry_advance : (q : End) (i top : ℕ) (r : Receiver) → IsAdvance q q.acted q.into q.answers q.offers q.dry top r → IsAdvance q q.acted q.into q.answers q.offers (q.dry ++ i ∷ []) top r
unfolding due
dry_advance q i top r a = record {
  due_up = omega arith;
  due_top = a.due_top;
  acted_up = omega arith;
  answers_kept = λ j b h. h;
  offers_kept = λ f h. h;
  dry_kept = λ j h. contains_push q.dry i j h;
  acting = a.acting;
  offers_said = a.offers_said;
  reads = a.reads;
  old_words = a.old_words;
  receives = record { expected = a.receives.expected; kept = a.receives.kept; answered = a.receives.answered };
}

same_due_dry : (q : End) (dry : List ℕ) → due (requests_of (moved_on q q.acted q.into q.answers q.offers dry)) ≡ due q
unfolding due
same_due_dry q dry = refl

module _ (w : World) (m : Machine) (o : ObjName) (l : Link) (number : Option ℕ) (bytes : List ℕ) (d : Packet) (a : Arrives w m o l number bytes d) (is : class_of d ≡ IsRequest) (paused : is_paused l.moving.phase ≡ false) (now : (request_at_end w m o l number bytes d a is).0 ≡ l.receiver.expected) where
  abbrev q : ObjName
  q = asker m o

  abbrev g : End
  g = machine.end_of m q

  abbrev n : ℕ
  n = (request_at_end w m o l number bytes d a is).0

  abbrev c : state.Context
  c = delivered.context_there w o

  abbrev e : state.End
  e = delivered.end_there w o

  abbrev req : IsRequestAt w m o l n d
  req = at w m o l number bytes d a is paused now

  abbrev dry : List ℕ
  dry = g.dry ++ g.acted ∷ []

  abbrev g' : End
  g' = moved_on g g.acted g.into g.answers g.offers dry

  dried_is : dried m q ≡ machine.with_end m q g'
  unfolding dried dried_at
  dried_is = refl

  numbers_same : (machine.with_end m q g').numbers ≡ m.numbers
  unfolding machine.with_end machine.with_context
  numbers_same = refl

  keys_same : (machine.with_end m q g').keys ≡ m.keys
  unfolding machine.with_end machine.with_context
  keys_same = refl

  respond : IsRespond w m (machine.with_end m q g') o l l.receiver (words.linked c e (got l l.receiver)) (machine.context_of m o.context) (machine.end_of m o) g.acted g.into g.answers g.offers dry
  respond =
      counts w m o l n d a.stands a.live a.linked req (machine.with_end m q g') l.receiver g.acted g.into g.answers g.offers dry
      (end_changed m q g' (made_there m q (q_there w m o l n d a.stands a.live a.linked req)) (q_in w m o l n d a.stands a.live a.linked req)) numbers_same keys_same refl
      (end_moved_sound _ _ g g.acted g.into g.answers g.offers dry (connected_now w m o l number bytes d a is paused now) (dry_sound g dry (g_sound w m o l number bytes d a is paused now)) (q_sound w m o l n d a.stands a.live a.linked req))
      (dry_advance (asking m o) g.acted (link_of w q).sender.top l.receiver
      (no_advance (asking m o) (link_of w q).sender.top l.receiver req.back.ordered.due_top req.back.in_pieces req.receives))
      (progress_dry l.receiver.progress (progress_now w m o l n d a.stands a.live a.linked req))
    where
      progress_dry : (z : state.Progress) → IsProgress (asking m o) (machine.end_of m o).domain (regions_of m o.context) z → IsProgress (moved_on (asking m o) g.acted g.into g.answers g.offers dry) (machine.end_of m o).domain (regions_of m o.context) z
      progress_dry state.NoMessage h = h
      progress_dry (state.InSend done receive) h = h
      progress_dry (state.InWrite region off k done) h = h

  answer : IsAnswer (side_of w q) (side_now (side_of w o) (got l l.receiver)) (requests_of g') (requests_of (machine.end_of m o)) (acknowledge l n Rnr)
  answer =
      dry_answer l (side_of w q) (side_now (side_of w o) (got l l.receiver)) (requests_of g') (requests_of (machine.end_of m o)) n
      (record { connected = req.towards.connected; number = req.towards.number; said = req.towards.said; start = req.towards.start })
      (record { due = omega (arith, due_now w m o l number bytes d a is paused now, same_due_dry g dry); dry = subst (Contains dry) (sym (request_now w m o l number bytes d a is paused now)) (contains_last g.acted g.dry) })

  stands_dry : Stands (ran w (ended_step (home w o.context) (not_ready c l n))).world (dried m q)
  unfolding not_ready
  stands_dry =
      subst (Stands _) (sym dried_is)
      (subst (λ k. Stands (ran w (ended_step (home w o.context) (record { context = k; took = took.NotReady; sent = acknowledge l n Rnr ∷ [] }))).world (machine.with_end m q g')) (linked_again w m o l n d a.stands a.live a.linked req)
      (responds w m (machine.with_end m q g') o l n d l.receiver (words.linked c e (got l l.receiver)) (machine.context_of m o.context) (machine.end_of m o) g.acted g.into g.answers g.offers dry a.stands a.live a.alive req respond took.NotReady (acknowledge l n Rnr ∷ [])
      (All-cons (IsAnswer (side_of w q) (side_now (side_of w o) (got l l.receiver)) (requests_of g') (requests_of (machine.end_of m o))) (acknowledge l n Rnr) [] answer (All-nil _))))

  -- where the machine is dry, and the protocol not ready
  pub dry_taken : may_dry m q ≡ true → due_steps m q (length d.payload) ≡ steps.Dry q ∷ [] → expected_packet c e l d n ≡ not_ready c l n → Takes w m o l number d
  dry_taken may due_is step =
      takes_so w m o l number d n (steps.Dry q ∷ []) (not_ready c l n) (request_at_end w m o l number bytes d a is).1 req.link is tt (may, tt)
      (sym (carries_now w m o l number bytes d a is paused now ∙ due_is)) (step_now w m o l number bytes d a is paused now ∙ step) stands_dry
