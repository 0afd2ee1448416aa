-- What a step of an end's own leaves of all ends: it sends, its timer is over, or an expiry counts.
use Rattle.std.proofs.Common.{◌≡◌, ◌≢◌, ◌+◌, List, [], ◌∷◌, ◌++◌, map, true, false, Bool, refl, sym, ap, ◌∙◌, subst, inl, inr}
use Rattle.std.specs.Prelude.{Some, None, ◌==◌, if◌then◌else◌}
use Rattle.std.proofs.lemmas.List.{append-nil}
use Rattle.rdma_types.specs.declared.answers.Answer.{Answer}
use Rattle.rdma_types.specs.declared.answers.Answer.TheVariants as answers
use Rattle.rdma_types.specs.declared.answers.Sent.{Sent}
use Rattle.rdma_types.specs.declared.names.ObjName.{ObjName}
use Rattle.rdma_types.specs.declared.requests.WcStatus.TheVariants as status
use Rattle.rdma_types.specs.Lists.{named, store_named}
use Rattle.rdma_types.specs.Spans.{Piece}
use Rattle.protocol.specs.declared.events.Event.TheVariants as events
use Rattle.protocol.specs.declared.events.WorldEvent.TheVariants as world_events
use Rattle.protocol.specs.Fabric.{flight_of}
use Rattle.protocol.specs.State.{World, Device, Context, End, Link, Flight, no_end, context_at, end_at}
use Rattle.protocol.specs.Moves.{resume_of}
use Rattle.protocol.specs.EndWords as words
use Rattle.protocol.specs.EndWords.{linked, to_partner, with_link, with_sender, with_unused}
use Rattle.protocol.specs.Refusals as refusing
use Rattle.protocol.specs.Requester.{Sends, SendsResume, transmission, transmitted, counted, ended_link, ended_with, not_counted, waited_out}
use Rattle.protocol.specs.DeviceStep as device
use Rattle.protocol.specs.DeviceStep.{gives}
use Rattle.protocol.specs.WorldStep.{world_step, home, live_context, ran}
use Rattle.protocol.specs.Settle.{transmit}
use Rattle.packetless_machine.specs.Machine.{Machine}
use Rattle.law_simulation.specs.Stands.{Stands}
use Rattle.law_simulation.proofs.relation.Grows.{object_or_not}
use Rattle.law_simulation.proofs.relation.Worlds.{holds_it, home_found}
use Rattle.law_simulation.proofs.sending.GoLive.{LiveEnd}
use Rattle.law_settling.proofs.draining.Arrivals.{ran_sent}
use Rattle.law_settling.proofs.bound.Lives.{lives, at_end, context_in, IsThere, context_name, name_is}
use Rattle.law_settling.proofs.bound.Delivering.{live_end_there, ran_still, ran_stored}
use Rattle.law_settling.proofs.bound.Turns.{connected_none, live_end, stepped_done}
use Rattle.law_settling.proofs.sending_stops.Places.{end_else, end_now}
use Rattle.law_settling.proofs.sending_stops.Transmitting.{transmit_is}
use Rattle.law_settling.proofs.lacks_receive.Kept.{IsEndKept, IsLinkKept, end_kept_same, linked_of, some_link}
use Rattle.law_settling.proofs.lacks_receive.Answered.{IsFree}

-- ---- the device where a live end is takes its events

-- an expiry, or the end of a timer: the others are the same, and the end is in Error or does not wait
pub record IsTimed (w w' : World) (o : ObjName) : Type 0 where
  pub kept : (k : ObjName) → IsEndKept (at_end w k) (at_end w' k)
  pub others : (k : ObjName) → k ≢ o → at_end w' k ≡ at_end w k
  pub free : (l' : Link) → (at_end w' o).link ≡ Some l' → IsFree l'
  pub sent : w'.sent ≡ w.sent

module _ (w : World) (m : Machine) (o : ObjName) (l : Link) (s : Stands w m) (at : (at_end w o).link ≡ Some l) where
  h : LiveEnd w m o l
  h = live_end w m o l s at

  abbrev pub d : Device
  d = home w o.context

  abbrev pub c : Context
  c = context_at d o.context

  abbrev pub e : End
  e = end_at c o.name

  there : IsThere w o c e l
  unfolding live_context h
  there = live_end_there w m o l (live_end w m o l s at)

  pub end_before : at_end w o ≡ e
  end_before = ap (λ z. named (λ y. y.name) no_end o.name z.ends) there.context ∙ there.end

  c_name : c.name ≡ o.context
  c_name = context_name w o c e l there

  e_name : e.name ≡ o.name
  e_name = name_is w o c e l there

  -- ---- the end becomes e'

  module _ (x : Context) (a : Answer) (sent : List Sent) (e' : End) (called : x.name ≡ c.name) (ends : x.ends ≡ store_named (λ z. z.name) e.name e' c.ends) (name : e'.name ≡ e.name) where
    abbrev w' : World
    w' = (ran w (gives (device.with_context d x) a sent)).world

    stored : lives w' ≡ store_named (λ y. y.name) o.context x (lives w)
    unfolding h
    stored = ran_stored w m o.context x a sent s h.live (called ∙ c_name)

    ends' : x.ends ≡ store_named (λ z. z.name) o.name e' c.ends
    ends' = ends ∙ ap (λ n. store_named (λ z. z.name) n e' c.ends) e_name

    became : at_end w' o ≡ e'
    became = end_now w w' o c there.context x stored (called ∙ c_name) e' ends' (name ∙ e_name)

    others_same : (k : ObjName) → k ≢ o → at_end w' k ≡ at_end w k
    others_same k ne = end_else w w' o c there.context x stored (called ∙ c_name) e' ends' (name ∙ e_name) k ne

    sent_is : w'.sent ≡ w.sent ++ map (flight_of d.address) sent
    unfolding device.with_context
    sent_is = ran_sent w (gives (device.with_context d x) a sent)

    kept_all : IsEndKept e e' → (k : ObjName) → IsEndKept (at_end w k) (at_end w' k)
    kept_all kept k = elim (object_or_not k o) [
      | inr ne ↦ subst (IsEndKept (at_end w k)) (sym (others_same k ne)) (end_kept_same (at_end w k))
      | inl same ↦
          subst (λ n. IsEndKept (at_end w n) (at_end w' n)) (sym same)
          (subst (λ z. IsEndKept z (at_end w' o)) (sym end_before) (subst (IsEndKept e) (sym became) kept))
    ]

  -- ---- sending a piece

  module _ (x : Piece) (row : transmission l ≡ Sends x) where
    abbrev e1 : End
    e1 = with_link e (transmitted l x)

    e1_kept : IsEndKept e e1
    unfolding with_link transmitted with_sender
    e1_kept = record { number = refl; unused = λ t. t; links = linked_of IsLinkKept e.link (Some (transmitted l x)) l (transmitted l x) there.linked refl (record { on = record { peer = refl; terms = refl; ended = λ t. t }; expected = refl }) }

    sent_piece : world_step w (transmit o) ≡ ran w (device.sends_piece d c e l x)
    unfolding h
    sent_piece = transmit_is w m o l (live_end w m o l s at) ∙ ap (λ t. ran w (device.sends_by d c e l t)) row

    pub piece_kept : (k : ObjName) → IsEndKept (at_end w k) (at_end (world_step w (transmit o)).world k)
    unfolding device.sends_piece words.with_end with_link
    piece_kept k = subst (λ z. IsEndKept (at_end w k) (at_end z.world k)) (sym sent_piece) (kept_all (linked c e (transmitted l x)) _ _ e1 refl refl refl e1_kept k)

  -- ---- sending a RESUME

  abbrev pub resume_flight : Flight
  resume_flight = flight_of d.address (to_partner l None (resume_of l d.address))

  module _ (row : transmission l ≡ SendsResume) where
    sent_resume : world_step w (transmit o) ≡ ran w (gives d (answers.Sent 0) (to_partner l None (resume_of l d.address) ∷ []))
    unfolding h
    sent_resume = transmit_is w m o l (live_end w m o l s at) ∙ ap (λ t. ran w (device.sends_by d c e l t)) row

    pub resume_same : (k : ObjName) → at_end (world_step w (transmit o)).world k ≡ at_end w k
    unfolding h
    resume_same k =
        ap (λ z. at_end z.world k) sent_resume
        ∙ ap (λ cs. named (λ z. z.name) no_end k.name (context_in cs k.context).ends) (ran_still w m (holds_it o.context) d (answers.Sent 0) (to_partner l None (resume_of l d.address) ∷ []) s (home_found w o.context h.live))

    pub resume_sent : (world_step w (transmit o)).world.sent ≡ w.sent ++ resume_flight ∷ []
    resume_sent = ap (λ z. z.world.sent) sent_resume ∙ ran_sent w (gives d (answers.Sent 0) (to_partner l None (resume_of l d.address) ∷ []))

  -- ---- timers

  timed : (x : Context) (a : Answer) (e' : End) (l' : Link) → x.name ≡ c.name → x.ends ≡ store_named (λ z. z.name) e.name e' c.ends → e'.name ≡ e.name → e'.link ≡ Some l' → IsEndKept e e' → IsFree l' → IsTimed w (ran w (device.answers (device.with_context d x) a)).world o
  timed x a e' l' called ends name is kept free = record {
    kept = kept_all x a [] e' called ends name kept;
    others = others_same x a [] e' called ends name;
    free = λ k t. subst IsFree (some_link l' k (sym is ∙ (ap (λ z. z.link) (sym (became x a [] e' called ends name)) ∙ t))) free;
    sent = sent_is x a [] e' called ends name ∙ append-nil w.sent;
  }

  module _ (wait : l.sender.rnr_wait ≡ true) where
    over_now : IsTimed w (ran w (device.answers (device.with_context d (linked c e (with_sender l (waited_out l.sender)))) answers.Over)).world o
    unfolding with_sender words.with_end with_link
    over_now =
        let l' : Link = with_sender l (waited_out l.sender) in
        timed (linked c e l') answers.Over (with_link e l') l' refl refl refl refl
        (record { number = refl; unused = λ t. t; links = linked_of IsLinkKept e.link (Some l') l l' there.linked refl (record { on = record { peer = refl; terms = refl; ended = λ t. t }; expected = refl }) })
        (inr refl)

    waits_by : (b : Bool) → b ≡ true → IsTimed w (ran w (if b then device.answers (device.with_context d (linked c e (with_sender l (waited_out l.sender)))) answers.Over else device.answers d answers.NotWaiting)).world o
    waits_by true t = over_now
    waits_by false t = absurd (cc)

    waits_over : IsTimed w (ran w (device.rnr_over d c e)).world o
    unfolding device.rnr_over
    waits_over = subst (λ z. IsTimed w (ran w (device.at_link d z (λ k. device.waits_out d c e k))).world o) (sym there.linked) (waits_by l.sender.rnr_wait wait)

    -- the RNR timer is over
    pub rnr_timed : IsTimed w (world_step w (world_events.At (events.RnrOver o))).world o
    unfolding refusing.refusal_of h
    rnr_timed = subst (λ z. IsTimed w z.world o) (sym (stepped_done w (events.RnrOver o) h.live (connected_none w m o l h))) waits_over

  module _ (waits : l.sender.rnr_wait ≡ false) where
    spent_timed : IsTimed w (ran w (device.answers (device.with_context d (ended_with c e l status.RetryExceeded)) answers.Spent)).world o
    unfolding ended_with ended_link with_unused words.completing words.with_queue words.with_end with_link
    spent_timed =
        timed (ended_with c e l status.RetryExceeded) answers.Spent (with_link (with_unused e []) (ended_link l)) (ended_link l) refl refl refl refl
        (record { number = refl; unused = λ t. refl; links = linked_of IsLinkKept e.link (Some (ended_link l)) l (ended_link l) there.linked refl (record { on = record { peer = refl; terms = refl; ended = λ t. refl }; expected = refl }) })
        (inl refl)

    counted_timed : IsTimed w (ran w (device.answers (device.with_context d (linked c e (with_sender l (counted l.sender)))) (answers.Expired (l.sender.spent + 1)))).world o
    unfolding with_sender words.with_end with_link
    counted_timed =
        let l' : Link = with_sender l (counted l.sender) in
        timed (linked c e l') (answers.Expired (l.sender.spent + 1)) (with_link e l') l' refl refl refl refl
        (record { number = refl; unused = λ t. t; links = linked_of IsLinkKept e.link (Some l') l l' there.linked refl (record { on = record { peer = refl; terms = refl; ended = λ t. t }; expected = refl }) })
        (inr waits)

    counts_timed : (b : Bool) → IsTimed w (ran w (if b then device.answers (device.with_context d (ended_with c e l status.RetryExceeded)) answers.Spent else device.answers (device.with_context d (linked c e (with_sender l (counted l.sender)))) (answers.Expired (l.sender.spent + 1)))).world o
    counts_timed true = spent_timed
    counts_timed false = counted_timed

    expires_timed : not_counted l ≡ None → IsTimed w (ran w (device.expires d c e)).world o
    unfolding device.expires device.counts
    expires_timed none =
        subst (λ z. IsTimed w (ran w (device.at_link d z (λ k. device.expires_by d c e k (not_counted k)))).world o) (sym there.linked)
        (subst (λ z. IsTimed w (ran w (device.expires_by d c e l z)).world o) (sym none) (counts_timed (l.sender.spent == l.terms.retry)))

    -- an expiry that counts
    pub expire_timed : not_counted l ≡ None → IsTimed w (world_step w (world_events.At (events.Expire o))).world o
    unfolding refusing.refusal_of h
    expire_timed none = subst (λ z. IsTimed w z.world o) (sym (stepped_done w (events.Expire o) h.live (connected_none w m o l h))) (expires_timed none)
