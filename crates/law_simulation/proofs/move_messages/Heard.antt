-- What two ends of a connection recorded of each other's moves stays right, as one of them takes a message of moving.
use Rattle.std.proofs.Common.{arith, ◌≡◌, ◌<◌, ◌⊎◌, ℕ, true, false, refl, ap, inl, inr}
use Rattle.std.specs.Prelude.{Some, not}
use Rattle.rdma_types.specs.declared.requests.Address.{Address}
use Rattle.protocol.specs.declared.wire.ResumeBody.{ResumeBody}
use Rattle.protocol.specs.Moves.{unpaused}
use Rattle.protocol.specs.State.{Link, Phase, Running, Paused, Resuming}
use Rattle.law_simulation.specs.Packets.{IsStopped, IsResume, IsResumeAck}
use Rattle.law_simulation.specs.Views.{Side}
use Rattle.law_simulation.specs.Joined.{IsHeardOf, IsMoving}
use Rattle.law_simulation.specs.Facts.{MoveFact}
use Rattle.law_simulation.proofs.relation.Connecting.{side_with}
use Rattle.law_simulation.proofs.stop_restore.NetMoves.{SideMoves}
use Rattle.law_simulation.proofs.move_messages.EndMoves.{moved_parts}

uncarried : false ≡ true → ⊥
uncarried e = cc

-- ---- Paused, by a NAK_STOPPED with the recorded count

abbrev pub paused_link : Link → Link
paused_link l = moved_parts l (record l.moving { phase = Paused }) l.sender.next l.sender.rnr_wait

module _ (l : Link) (at : Address) (y : Side) (count : ℕ) (fact : MoveFact y (IsStopped count)) (same : count ≡ l.moving.recorded) (h : IsHeardOf (side_with l at) y) (b : IsHeardOf y (side_with l at)) where
  still : IsMoving (side_with (paused_link l) at) → ⊥
  still (inl e) = uncarried e
  still (inr e) = cc

  -- it was not Resuming, where both are in Rts
  stopped_count : (count < y.link.moving.own) ⊎ ((y.carried ≡ true) × (y.rts ≡ true) × (count ≡ y.link.moving.own)) → l.moving.recorded ≡ y.link.moving.own → (y.carried ≡ true → ⊥) → ⊥
  stopped_count (inl lt) e none = omega (arith, lt, e, same)
  stopped_count (inr c) e none = none c.0

  settled_by : (q : Phase) → l.moving.phase ≡ q → not l.ended ≡ true → y.rts ≡ true → y.link.moving.recorded ≡ l.moving.own
  settled_by Running e r r' = h.settled r r' (λ mv. elim mv [ inl t ↦ uncarried t | inr t ↦ cc (t, e) ])
  settled_by Paused e r r' = h.settled r r' (λ mv. elim mv [ inl t ↦ uncarried t | inr t ↦ cc (t, e) ])
  settled_by Resuming e r r' =
      let calm : IsMoving y → ⊥ = λ mv. h.one r r' (inr e) mv in
      absurd (stopped_count fact (b.settled r' r calm) (λ c. calm (inl c)))

  pub paused_heard : IsHeardOf (side_with (paused_link l) at) y
  paused_heard = record {
    known = h.known;
    address = h.address;
    settled = λ r r' moves. settled_by l.moving.phase refl r r';
    paused = h.paused;
    one = λ r r' moving moving'. still moving;
    limit = h.limit;
  }

  gone : (count < y.link.moving.own) ⊎ ((y.carried ≡ true) × (y.rts ≡ true) × (count ≡ y.link.moving.own)) → (y.carried ≡ true) ⊎ (l.moving.recorded < y.link.moving.own) ⊎ (y.link.ended ≡ true)
  gone (inl lt) = inr (inl (omega (arith, lt, same)))
  gone (inr c) = inl c.0

  pub paused_hears : IsHeardOf y (side_with (paused_link l) at)
  paused_hears = record {
    known = b.known;
    address = b.address;
    settled = b.settled;
    paused = λ r paused. gone fact;
    one = λ r r' moving moving'. still moving';
    limit = b.limit;
  }

pub paused_moves : (l : Link) (at : Address) → SideMoves (side_with l at) (side_with (paused_link l) at)
paused_moves l at = record {
  parts = record { moving = record l.moving { phase = Paused }; next = l.sender.next; rnr_wait = l.sender.rnr_wait; carried = false; place = Some at };
  is = refl;
  goes = inl refl;
  stopped = λ count h. h;
  resumed = λ body h. h;
  recorded = omega arith;
}

-- ---- a RESUME with a greater count

abbrev pub recording_link : Link → ResumeBody → Link
recording_link l body = moved_parts l (record { phase = unpaused l.moving.phase; own = l.moving.own; recorded = body.count; partner = body.address }) l.sender.una false

unpaused_back : (q : Phase) → unpaused q ≡ Resuming → q ≡ Resuming
unpaused_back Running e = absurd (cc)
unpaused_back Paused e = absurd (cc)
unpaused_back Resuming e = refl

unpaused_not : (q : Phase) → unpaused q ≡ Paused → ⊥
unpaused_not Running e = cc
unpaused_not Paused e = cc
unpaused_not Resuming e = cc

module _ (l : Link) (at : Address) (y : Side) (body : ResumeBody) (fact : MoveFact y (IsResume body)) (more : l.moving.recorded < body.count) (h : IsHeardOf (side_with l at) y) (b : IsHeardOf y (side_with l at)) where
  before : IsMoving (side_with (recording_link l body) at) → IsMoving (side_with l at)
  before (inl e) = inl e
  before (inr e) = inr (unpaused_back l.moving.phase e)

  after : IsMoving (side_with l at) → IsMoving (side_with (recording_link l body) at)
  after (inl e) = inl e
  after (inr e) = inr (ap unpaused e)

  pub recording_heard : IsHeardOf (side_with (recording_link l body) at) y
  recording_heard = record {
    known = h.known;
    address = h.address;
    settled = λ r r' moves. h.settled r r' (λ mv. moves (after mv));
    paused = h.paused;
    one = λ r r' moving moving'. h.one r r' (before moving) moving';
    limit = h.limit;
  }

  pub recording_hears : IsHeardOf y (side_with (recording_link l body) at)
  recording_hears = record {
    known = fact.0;
    address = λ a r place e. fact.1 a r place e;
    settled = λ r r' moves. let e = b.settled r r' moves in absurd (omega (arith, e, more, fact.0));
    paused = λ r paused. absurd (unpaused_not l.moving.phase paused);
    one = λ r r' moving moving'. b.one r r' moving (before moving');
    limit = b.limit;
  }

  pub recording_moves : SideMoves (side_with l at) (side_with (recording_link l body) at)
  recording_moves = record {
    parts = record { moving = record { phase = unpaused l.moving.phase; own = l.moving.own; recorded = body.count; partner = body.address }; next = l.sender.una; rnr_wait = false; carried = false; place = Some at };
    is = refl;
    goes = inr refl;
    stopped = λ count h. h;
    resumed = λ body h. h;
    recorded = omega (arith, more);
  }

-- ---- Running, by a RESUME_ACK with its own count

abbrev pub running_link : Link → Link
running_link l = moved_parts l (record l.moving { phase = Running }) l.sender.next l.sender.rnr_wait

module _ (l : Link) (at : Address) (y : Side) (body : ResumeBody) (fact : MoveFact y (IsResumeAck body)) (same : body.count ≡ l.moving.own) (h : IsHeardOf (side_with l at) y) (b : IsHeardOf y (side_with l at)) where
  stays : IsMoving (side_with (running_link l) at) → ⊥
  stays (inl e) = uncarried e
  stays (inr e) = cc

  running : Running ≡ Paused → ⊥
  running e = cc

  pub running_heard : IsHeardOf (side_with (running_link l) at) y
  running_heard = record {
    known = h.known;
    address = h.address;
    settled = λ r r' moves. omega (arith, fact, same, h.known);
    paused = h.paused;
    one = λ r r' moving moving'. stays moving;
    limit = h.limit;
  }

  pub running_hears : IsHeardOf y (side_with (running_link l) at)
  running_hears = record {
    known = b.known;
    address = b.address;
    settled = b.settled;
    paused = λ r paused. absurd (running paused);
    one = λ r r' moving moving'. stays moving';
    limit = b.limit;
  }

pub running_moves : (l : Link) (at : Address) → SideMoves (side_with l at) (side_with (running_link l) at)
running_moves l at = record {
  parts = record { moving = record l.moving { phase = Running }; next = l.sender.next; rnr_wait = l.sender.rnr_wait; carried = false; place = Some at };
  is = refl;
  goes = inl refl;
  stopped = λ count h. h;
  resumed = λ body h. h;
  recorded = omega arith;
}
