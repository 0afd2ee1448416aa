-- An end that takes a packet goes on.
use Rattle.std.proofs.Common.{arith, ◌≡◌, ◌≢◌, ◌≤◌, ◌<◌, ◌+◌, ◌-◌, ◌*◌, ◌⊎◌, ℕ, List, [], ◌∷◌, true, false, Bool, refl, sym, ap, ◌∙◌, subst, inl, inr}
use Rattle.std.specs.Prelude.{Option, Some, None, is_some, if◌then◌else◌, ◌==◌, ◌&&◌, ◌||◌, not, nat_le, nat_lt, min, max}
use Rattle.std.proofs.lemmas.Bool.Decides.{nat_tests}
use Rattle.rdma_types.specs.declared.requests.Completion.{Completion}
use Rattle.rdma_types.specs.declared.requests.Receive.{Receive}
use Rattle.rdma_types.specs.declared.requests.WcStatus.{WcStatus}
use Rattle.rdma_types.specs.declared.requests.WcStatus.TheVariants as status
use Rattle.rdma_types.specs.declared.answers.DropReason.TheVariants as why
use Rattle.rdma_types.specs.declared.answers.ArrivalEffect.TheVariants as took
use Rattle.rdma_types.specs.declared.answers.RefusalReason.{RefusalReason}
use Rattle.rdma_types.specs.declared.answers.RefusalReason.TheVariants as refused
use Rattle.rdma_types.specs.declared.names.Name.{Name}
use Rattle.rdma_types.specs.Limits.{number_limit, most_moves}
use Rattle.rdma_types.specs.Lists.{store_named}
use Rattle.rdma_types.specs.Objects.{Region}
use Rattle.rdma_types.specs.Kinds.{is_read}
use Rattle.rdma_types.specs.Spans.{Piece, end_number, piece_at, pieces}
use Rattle.protocol.specs.declared.images.KeptReply.{KeptReply}
use Rattle.protocol.specs.declared.wire.Aeth.{Aeth}
use Rattle.protocol.specs.declared.wire.AtomicEth.{AtomicEth}
use Rattle.protocol.specs.declared.wire.Reth.{Reth}
use Rattle.protocol.specs.declared.wire.ResumeBody.{ResumeBody}
use Rattle.protocol.specs.declared.wire.Syndrome.{Syndrome}
use Rattle.protocol.specs.declared.wire.Syndrome.TheVariants.{Ack, Rnr, Nak}
use Rattle.protocol.specs.Memory.{landed, written, with_region}
use Rattle.protocol.specs.Numbers.{unwrap_near}
use Rattle.protocol.specs.State.{Link, End, Context, Sender, Receiver, Moving, Phase, Running, Paused, Resuming, NoMessage, InSend, InWrite}
use Rattle.protocol.specs.Wire.{Packet, is_request, is_read_response}
use Rattle.protocol.specs.EndWords.{EndStep, stays, silent, linked, completing, with_end, with_link, with_queue, with_unused, with_receiver, with_sender, with_moving, is_paused, is_resuming}
use Rattle.protocol.specs.Requester as requester
use Rattle.protocol.specs.Requester.{end_of_queue, advanced, acknowledged, rewound, after_telling, telling, ended_with, ended_link, waited, waiting}
use Rattle.protocol.specs.Responder as responder
use Rattle.protocol.specs.Moves.{Control, Stopped, Resume, ResumeAck, MoveTook, GoesPaused, Resumed, Again, GoesRunning, Stale, control_of, move_row, moves_by, takes_control, recording, resumed_link, unpaused}
use Rattle.protocol.specs.EndStep.{takes, takes_kind, takes_other}
use Rattle.law_settling.specs.Weights.{phase_left, moves_left, GoesOn, EndGoesOn, IsTame, BringsNews, TakingLightens}
use Rattle.law_settling.proofs.weights.Links.{IsAlive, IsStill, over, advances, rests, moves, waits_once, same}
use Rattle.law_settling.proofs.weights.Numbers.{told_end, told_una, told_spent, told_waits, told_wait}

-- ---- parts of a context that stay

completed_ends : (c : Context) (q : Name) (more : List Completion) → (completing c q more).ends ≡ c.ends
unfolding completing with_queue
completed_ends c q more = refl

completed_name : (c : Context) (q : Name) (more : List Completion) → (completing c q more).name ≡ c.name
unfolding completing with_queue
completed_name c q more = refl

written_ends : (c : Context) (key off : ℕ) (bytes : List ℕ) → (written c key off bytes).ends ≡ c.ends
unfolding written with_region
written_ends c key off [] = refl
written_ends c key off (b ∷ bs) = refl

written_name : (c : Context) (key off : ℕ) (bytes : List ℕ) → (written c key off bytes).name ≡ c.name
unfolding written with_region
written_name c key off [] = refl
written_name c key off (b ∷ bs) = refl

landed_ends : (c : Context) (key at : ℕ) (bytes : List ℕ) → (landed c key at bytes).ends ≡ c.ends
unfolding landed
landed_ends c key at bytes = written_ends c key _ bytes

landed_name : (c : Context) (key at : ℕ) (bytes : List ℕ) → (landed c key at bytes).name ≡ c.name
unfolding landed
landed_name c key at bytes = written_name c key _ bytes

-- only the responder changes
record IsReceiving (l l' : Link) : Type 0 where
  ended : l'.ended ≡ l.ended
  peer : l'.peer ≡ l.peer
  terms : l'.terms ≡ l.terms
  moving : l'.moving ≡ l.moving
  sender : l'.sender ≡ l.sender

receiving : (l : Link) (r : Receiver) → IsReceiving l (with_receiver l r)
unfolding with_receiver
receiving l r = record { ended = refl; peer = refl; terms = refl; moving = refl; sender = refl }

receiving_on : (l l' : Link) (r : Receiver) → IsReceiving l l' → IsReceiving l (with_receiver l' r)
unfolding with_receiver
receiving_on l l' r h = record { ended = h.ended; peer = h.peer; terms = h.terms; moving = h.moving; sender = h.sender }

receives : (k : ℕ) (N : Type 0) (l l' : Link) → l.ended ≡ false → IsReceiving l l' → GoesOn k N l l'
receives k N l l' alive h =
    rests k N l l' (record {
      alive = alive;
      alive' = h.ended ∙ alive;
      peer = h.peer;
      terms = h.terms;
      own = ap (λ z. z.own) h.moving;
      ends = λ i. end_of_queue (h.terms i) (h.sender i);
    }) h.moving (record { una = ap (λ z. z.una) h.sender; spent = ap (λ z. z.spent) h.sender; waits = ap (λ z. z.waits) h.sender; wait = inl (ap (λ z. z.rnr_wait) h.sender) })

module _ (k : ℕ) (N : Type 0) (c : Context) (e : End) (l : Link) (self : c.ends ≡ store_named (λ z. z.name) e.name e c.ends) (there : e.link ≡ Some l) where
  -- the step leaves such a context
  record Good (s : EndStep) : Type 0 where
    goes : EndGoesOn k N c e l s.context

  if_good : (b : Bool) (s t : EndStep) → Good s → Good t → Good (if b then s else t)
  if_good true s t h g = h
  if_good false s t h g = g

  test_good : (b : Bool) (s t : EndStep) → (b ≡ true → Good s) → (b ≡ false → Good t) → Good (if b then s else t)
  test_good true s t h g = h refl
  test_good false s t h g = g refl

  still : (s : EndStep) → s.context ≡ c → Good s
  still s is = record { goes = subst (EndGoesOn k N c e l) (sym is) (record { named = refl; end = e; ends = self; name = refl; number = refl; link = l; linked = there; goes = same k N l }) }

  -- the end is stored with another link, over a context with the same ends
  pub shape : (x c0 : Context) (e0 : End) (l' : Link) → x.ends ≡ (linked c0 e0 l').ends → x.name ≡ c0.name → c0.ends ≡ c.ends → c0.name ≡ c.name → e0.name ≡ e.name → e0.number ≡ e.number → GoesOn k N l l' → EndGoesOn k N c e l x
  unfolding with_end with_link
  shape x c0 e0 l' ends name ends0 name0 name_e number_e goes = record {
    named = name ∙ name0;
    end = with_link e0 l';
    ends = ends ∙ λ i. store_named (λ z. z.name) (name_e i) (with_link e0 l') (ends0 i);
    name = name_e;
    number = number_e;
    link = l';
    linked = refl;
    goes = goes;
  }

  pub ended_shape : (c0 : Context) (e0 : End) (l0 : Link) (st : WcStatus) → l.ended ≡ false → c0.ends ≡ c.ends → c0.name ≡ c.name → e0.name ≡ e.name → e0.number ≡ e.number → l0.peer ≡ l.peer → l0.terms ≡ l.terms → l0.moving.own ≡ l.moving.own → EndGoesOn k N c e l (ended_with c0 e0 l0 st)
  unfolding ended_with ended_link with_unused completing with_queue with_end with_link
  ended_shape c0 e0 l0 st alive ends name name_e number_e peer terms own =
      shape (ended_with c0 e0 l0 st) c0 (with_unused e0 []) (ended_link l0) refl refl ends name name_e number_e (over k N l (ended_link l0) alive refl peer terms own refl)

  -- ---- requests

  module _ (alive : l.ended ≡ false) (d : Packet) where
    link_shape : (c0 : Context) (e0 : End) (l' : Link) → c0.ends ≡ c.ends → c0.name ≡ c.name → e0.name ≡ e.name → e0.number ≡ e.number → IsReceiving l l' → EndGoesOn k N c e l (linked c0 e0 l')
    unfolding with_end
    link_shape c0 e0 l' ends name name_e number_e r = shape (linked c0 e0 l') c0 e0 l' refl refl ends name name_e number_e (receives k N l l' alive r)

    done_shape : (c0 : Context) (e0 : End) (l' : Link) (q : Name) (more : List Completion) → c0.ends ≡ c.ends → c0.name ≡ c.name → e0.name ≡ e.name → e0.number ≡ e.number → IsReceiving l l' → EndGoesOn k N c e l (completing (linked c0 e0 l') q more)
    unfolding with_end
    done_shape c0 e0 l' q more ends name name_e number_e r = shape (completing (linked c0 e0 l') q more) c0 e0 l' (completed_ends (linked c0 e0 l') q more) (completed_name (linked c0 e0 l') q more) ends name name_e number_e (receives k N l l' alive r)

    ahead_good : Good (responder.ahead c e l)
    unfolding responder.ahead
    ahead_good = if_good l.receiver.nak_sent _ _ (still _ refl) (record { goes = link_shape c e (with_receiver l (record l.receiver { nak_sent = true })) refl refl refl refl (receiving l _) })

    granted_good : (o : Option Region) (h : Reth) (n : ℕ) → Good (responder.answers_read c l o h n)
    granted_good None h n = still _ refl
    granted_good (Some r) h n = still _ refl

    reread_good : (o : Option Reth) (n : ℕ) → Good (responder.repeats_read c e l o n)
    reread_good None n = still _ refl
    reread_good (Some h) n = if_good (nat_le (n + pieces h.length l.terms.mtu) l.receiver.expected) _ _ (granted_good _ h n) (still _ refl)

    old_good : (n : ℕ) (o : Option KeptReply) → Good (responder.answers_old c l n o)
    old_good n None = still _ refl
    old_good n (Some kept) = still _ refl

    repeated_good : (n : ℕ) → Good (responder.repeated c e l d n)
    unfolding responder.repeated
    repeated_good n = if_good (responder.is_read_request d.opcode) _ _ (reread_good d.reth n) (if_good (is_some d.atomic) _ _ (old_good n _) (still _ refl))

    refused_good : (n : ℕ) (w : RefusalReason) → Good (responder.refuses c e l n w)
    refused_good n w = record { goes = ended_shape c e l _ alive refl refl refl refl refl refl refl }

    length_good : (n : ℕ) → Good (responder.refuses_length c e l n)
    unfolding responder.refuses_length with_unused with_receiver
    length_good n = record { goes = ended_shape _ _ (responder.idled l) _ alive (completed_ends c _ _) (completed_name c _ _) refl refl refl refl refl }

    acts_good : (x : Context) (l' : Link) (n : ℕ) → EndGoesOn k N c e l x → Good (responder.acts x l' d n)
    acts_good x l' n h = if_good (responder.finishes (responder.part_of d.opcode) || d.ack_request) _ _ (record { goes = h }) (record { goes = h })

    if_goes : (b : Bool) (x y : Context) → EndGoesOn k N c e l x → EndGoesOn k N c e l y → EndGoesOn k N c e l (if b then x else y)
    if_goes true x y h g = h
    if_goes false x y h g = g

    module _ (l1 : Link) (r1 : IsReceiving l l1) where
      send_goes : (c1 : Context) (r : Receive) (done : ℕ) → c1.ends ≡ c.ends → c1.name ≡ c.name → EndGoesOn k N c e l (responder.send_done c1 e l1 d r done)
      unfolding responder.send_done with_unused
      send_goes c1 r done ends name =
          if_goes (responder.finishes (responder.part_of d.opcode)) _ _
          (done_shape c1 (with_unused e _) (responder.in_progress l1 NoMessage) _ _ ends name refl refl (receiving_on l l1 _ r1))
          (link_shape c1 (with_unused e _) (responder.in_progress l1 (InSend done r)) ends name refl refl (receiving_on l l1 _ r1))

      imm_goes : (c1 : Context) (l2 : Link) (length' : ℕ) (imm : Option ℕ) → c1.ends ≡ c.ends → c1.name ≡ c.name → IsReceiving l l2 → EndGoesOn k N c e l (responder.with_immediate c1 e l2 length' imm)
      unfolding with_unused
      imm_goes c1 l2 length' None ends name r = link_shape c1 e l2 ends name refl refl r
      imm_goes c1 l2 length' (Some n) ends name r = done_shape c1 (with_unused e _) l2 _ _ ends name refl refl r

      write_goes : (c1 : Context) (p : responder.Place) (done : ℕ) → c1.ends ≡ c.ends → c1.name ≡ c.name → EndGoesOn k N c e l (responder.write_done c1 e l1 d p done)
      unfolding responder.write_done
      write_goes c1 p done ends name =
          if_goes (responder.finishes (responder.part_of d.opcode)) _ _
          (imm_goes c1 (responder.in_progress l1 NoMessage) p.length d.imm ends name (receiving_on l l1 _ r1))
          (link_shape c1 e (responder.in_progress l1 (InWrite p.region p.off p.length done)) ends name refl refl (receiving_on l l1 _ r1))

      read_good : (r : Region) (n : ℕ) (o : Option Reth) → Good (responder.read_acts c e l1 r n o)
      read_good r n None = still _ refl
      read_good r n (Some h) = record { goes = link_shape c e l1 refl refl refl refl r1 }

      atomic_good : (r : Region) (n : ℕ) (o : Option AtomicEth) → Good (responder.atomic_acts c e l1 d r n o)
      unfolding responder.atomic_done
      atomic_good r n None = still _ refl
      atomic_good r n (Some h) = record { goes = link_shape _ e (responder.keeps l1 n _) (written_ends c _ _ _) (written_name c _ _ _) refl refl (receiving_on l l1 _ r1) }

      packet_good : (r : Region) (n : ℕ) → Good (responder.packet_acts c e l1 d r n)
      unfolding responder.packet_acts
      packet_good r n =
          if_good (responder.is_send d.opcode) _ _ (acts_good _ l1 n (send_goes _ _ _ (landed_ends c _ _ _) (landed_name c _ _ _)))
          (if_good (responder.is_write d.opcode) _ _ (acts_good _ l1 n (write_goes _ _ _ (written_ends c _ _ _) (written_name c _ _ _)))
          (if_good (responder.is_read_request d.opcode) _ _ (read_good r n d.reth) (atomic_good r n d.atomic)))

    executing : IsReceiving l (responder.executed l d)
    unfolding responder.executed
    executing = receiving l _

    target_good : (n : ℕ) (o : Option Region) → Good (responder.granted_packet c e l d n o)
    unfolding responder.not_ready
    target_good n None = refused_good n refused.Access
    target_good n (Some r) =
        if_good (responder.is_not_ready e d) _ _ (still _ refl)
        (if_good (responder.is_too_long e l d) _ _ (length_good n) (packet_good (responder.executed l d) executing r n))

    expected_good : (n : ℕ) → Good (responder.expected_packet c e l d n)
    unfolding responder.expected_packet
    expected_good n = if_good (nat_le number_limit (n + responder.span_of_packet d l.terms.mtu d.reth)) (responder.no_repeat c) _ (still _ refl) (if_good (responder.is_invalid l d) _ _ (refused_good n refused.Invalid) (target_good n (responder.target c e d)))

    request_good : (o : Option ℕ) → Good (responder.request_at c e l d o)
    request_good None = still _ refl
    request_good (Some n) = if_good (nat_lt l.receiver.expected n) _ _ ahead_good (if_good (nat_lt n l.receiver.expected) _ _ (repeated_good n) (expected_good n))

    -- ---- responses

    module _ (tame : IsTame l) where
      -- a sender with the same queue: `una` rose, or nothing that counts changed
      record IsFurther (s : Sender) : Type 0 where
        untold : s.untold ≡ l.sender.untold
        first : s.first ≡ l.sender.first
        case : IsStill l.sender s ⊎ ((l.sender.una < s.una) × (l.sender.una < end_of_queue l.terms l.sender) × (s.spent ≤ l.sender.spent))

      same_sender : IsFurther l.sender
      same_sender = record { untold = refl; first = refl; case = inl (record { una = refl; spent = refl; waits = refl; wait = inl refl }) }

      same_end : (s : Sender) → s.untold ≡ l.sender.untold → s.first ≡ l.sender.first → end_of_queue l.terms s ≡ end_of_queue l.terms l.sender
      unfolding end_of_queue
      same_end s untold first = λ i. first i + end_number (untold i) l.terms.mtu

      -- the link with that sender, once what it may tell is told
      told_link : Sender → Link
      told_link s = with_sender l (after_telling l.terms s)

      told_alive : (s : Sender) → s.untold ≡ l.sender.untold → s.first ≡ l.sender.first → IsAlive l (told_link s)
      unfolding with_sender told_link
      told_alive s untold first = record { alive = alive; alive' = alive; peer = refl; terms = refl; own = refl; ends = told_end l.terms s ∙ same_end s untold first }

      further : (s : Sender) → IsFurther s → GoesOn k N l (told_link s)
      unfolding with_sender told_link
      further s f = elim f.case [
        | inl t ↦ rests k N l (told_link s) (told_alive s f.untold f.first) refl (record {
          una = told_una l.terms s ∙ t.una;
          spent = told_spent l.terms s ∙ t.spent;
          waits = told_waits l.terms s ∙ t.waits;
          wait = elim t.wait [ inl a ↦ inl (told_wait l.terms s ∙ a) | inr b ↦ inr (told_wait l.terms s ∙ b) ];
        })
        | inr r ↦ advances k N l (told_link s) (told_alive s f.untold f.first) refl (omega (arith, told_una l.terms s, r.0)) r.1 (omega (arith, told_spent l.terms s, r.2))
      ]

      telling_by : (c1 : Context) (s : Sender) → c1.ends ≡ c.ends → c1.name ≡ c.name → GoesOn k N l (told_link s) → EndGoesOn k N c e l (telling c1 e l s)
      unfolding telling with_end told_link
      telling_by c1 s ends name goes = shape (telling c1 e l s) c1 e (told_link s) (completed_ends (linked c1 e (told_link s)) _ _) (completed_name (linked c1 e (told_link s)) _ _) ends name refl refl goes

      telling_goes : (c1 : Context) (s : Sender) → c1.ends ≡ c.ends → c1.name ≡ c.name → IsFurther s → EndGoesOn k N c e l (telling c1 e l s)
      telling_goes c1 s ends name f = telling_by c1 s ends name (further s f)

      ends_good : (s : Sender) (st : WcStatus) → Good (requester.ends_after c e l s st)
      unfolding with_sender
      ends_good s st = record { goes = ended_shape _ e (with_sender l (after_telling l.terms s)) st alive (completed_ends c _ _) (completed_name c _ _) refl refl refl refl refl }

      back_good : (s : Sender) → IsFurther s → Good (requester.goes_back c e l s)
      unfolding rewound
      back_good s f = record { goes = telling_goes c (rewound s) refl refl (record { untold = f.untold; first = f.first; case = elim f.case [ inl t ↦ inl (record { una = t.una; spent = t.spent; waits = t.waits; wait = t.wait }) | inr r ↦ inr r ] }) }

      moved_good : (s : Sender) → IsFurther s → Good (requester.moved_or_useless l s c (telling c e l s))
      moved_good s f = if_good (nat_lt l.sender.una s.una) (stays (telling c e l s) took.Acked) (requester.useless c) (record { goes = telling_goes c s refl refl f }) (still _ refl)

      -- what is acknowledged below n, where `una` is below the end if that is a rise
      advancing : (n : ℕ) → (l.sender.una < n → l.sender.una < end_of_queue l.terms l.sender) → IsFurther (advanced l.sender n)
      unfolding advanced
      advancing n below = by_test (nat_lt l.sender.una n) refl
        where
          by_test : (b : Bool) → nat_lt l.sender.una n ≡ b → IsFurther (if b then record l.sender { una = n; spent = 0; waits = 0; next = max l.sender.next n } else l.sender)
          by_test true t = let r : l.sender.una < n = grind (arith, nat_tests, t) in record { untold = refl; first = refl; case = inr (r, below r, omega arith) }
          by_test false t = same_sender

      module _ (n : ℕ) (sent : l.sender.una < l.sender.top) where
        within : l.sender.una < end_of_queue l.terms l.sender
        within = omega (arith, sent, tame.top)

        acked : (m : ℕ) → IsFurther (acknowledged l m)
        acked m = advancing _ (λ h. within)

        refusal_good : (st : WcStatus) → Good (requester.takes_refusal c e l (acknowledged l n) n st)
        unfolding requester.takes_refusal
        refusal_good st = if_good ((acknowledged l n).una == n) (requester.ends_after c e l (acknowledged l n) st) (requester.goes_back c e l (acknowledged l n)) (ends_good (acknowledged l n) st) (back_good (acknowledged l n) (acked n))

        nak_good : (code : ℕ) → Good (requester.takes_nak c e l n code)
        unfolding requester.takes_nak
        nak_good code =
            if_good (code == 0) (requester.goes_back c e l (acknowledged l n)) _ (back_good (acknowledged l n) (acked n))
            (if_good (code == 1) _ _ (refusal_good status.RemoteInvalid)
            (if_good (code == 2) _ (requester.useless c) (refusal_good status.RemoteAccess) (still _ refl)))

        wait_link : (s : Sender) → IsFurther s → (not (l.terms.rnr == 7) && (waited s).waits == l.terms.rnr + 1) ≡ false → GoesOn k N l (told_link (waiting (waited s)))
        unfolding with_sender told_link
        wait_link s f t = elim f.case [
          | inr r ↦ advances k N l (told_link (waiting (waited s))) (told_alive (waiting (waited s)) f.untold f.first) refl (omega (arith, told_una l.terms (waiting (waited s)), r.0)) r.1 (omega (arith, told_spent l.terms (waiting (waited s)), r.2))
          | inl u ↦ waits_once k N l (told_link (waiting (waited s))) (told_alive (waiting (waited s)) f.untold f.first) refl (told_una l.terms (waiting (waited s)) ∙ u.una) (told_spent l.terms (waiting (waited s)) ∙ u.spent)
              (λ ne. counts ne (told_waits l.terms (waiting (waited s))) u.waits)
        ]
          where
            not_last : (a b : Bool) → (not a && b) ≡ false → a ≡ false → b ≡ false
            not_last true b h g = absurd (cc)
            not_last false b h g = h

            counts : (l.terms.rnr ≢ 7) → (after_telling l.terms (waiting (waited s))).waits ≡ min 255 (s.waits + 1) → s.waits ≡ l.sender.waits → ((after_telling l.terms (waiting (waited s))).waits ≡ l.sender.waits + 1) × ((after_telling l.terms (waiting (waited s))).waits ≤ 7)
            counts ne is same = (omega (arith, is, same, tame.waits ne, tame.rnr), omega (arith, is, same, tame.waits ne, tame.rnr))

        waits_good : (s : Sender) → IsFurther s → Good (requester.waits_again c e l (waited s))
        unfolding requester.waits_again
        waits_good s f =
            test_good (not (l.terms.rnr == 7) && (waited s).waits == l.terms.rnr + 1) (requester.ends_after c e l (waited s) status.RnrExceeded) (stays (telling c e l (waiting (waited s))) took.Waits)
            (λ t. ends_good (waited s) status.RnrExceeded)
            (λ t. record { goes = telling_by c (waiting (waited s)) refl refl (wait_link s f t) })

        rnr_good : (s : Sender) → IsFurther s → Good (requester.takes_rnr c e l s n)
        unfolding requester.takes_rnr
        rnr_good s f = if_good (s.una == n) _ _ (waits_good s f) (moved_good s f)

        syndrome_good : (s : Syndrome) → Good (requester.takes_syndrome c e l n s)
        unfolding requester.takes_ack
        syndrome_good Ack = moved_good (acknowledged l (n + 1)) (acked (n + 1))
        syndrome_good Rnr = if_good l.sender.rnr_wait (requester.useless c) _ (still _ refl) (rnr_good (acknowledged l n) (acked n))
        syndrome_good (Nak code) = nak_good code

      both : (a b : Bool) → (a && b) ≡ true → (a ≡ true) × (b ≡ true)
      both true true h = (refl, refl)
      both true false h = absurd (cc)
      both false b h = absurd (cc)

      less_is : (a b : ℕ) → nat_lt a b ≡ true → a < b
      less_is a b h = grind (arith, nat_tests, h)

      most_is : (a b : ℕ) → nat_le a b ≡ true → a ≤ b
      most_is a b h = grind (arith, nat_tests, h)

      aeth_good : (n : ℕ) (h : Option Aeth) → Good (requester.takes_aeth c e l n h)
      aeth_good n None = still _ refl
      aeth_good n (Some h) =
          test_good (nat_le l.sender.una n && nat_lt n l.sender.top) _ (requester.useless c)
          (λ t. let p : (nat_le l.sender.una n ≡ true) × (nat_lt n l.sender.top ≡ true) = both _ _ t in syndrome_good n (omega (arith, most_is l.sender.una n p.0, less_is n l.sender.top p.1)) h.syndrome)
          (λ t. still _ refl)

      landing_ends : (x : Piece) → (requester.landing c l d x).ends ≡ c.ends
      landing_ends x = by_test (is_read x.posted.request.shape.kind)
        where
          by_test : (b : Bool) → (if b then landed c x.posted.request.lkey (x.posted.request.local + x.k * l.terms.mtu) d.payload else landed c x.posted.request.lkey x.posted.request.local (requester.old_bytes d.old)).ends ≡ c.ends
          by_test true = landed_ends c _ _ _
          by_test false = landed_ends c _ _ _

      landing_name : (x : Piece) → (requester.landing c l d x).name ≡ c.name
      landing_name x = by_test (is_read x.posted.request.shape.kind)
        where
          by_test : (b : Bool) → (if b then landed c x.posted.request.lkey (x.posted.request.local + x.k * l.terms.mtu) d.payload else landed c x.posted.request.lkey x.posted.request.local (requester.old_bytes d.old)).name ≡ c.name
          by_test true = landed_name c _ _ _
          by_test false = landed_name c _ _ _

      piece_good : (n : ℕ) → n < l.sender.top → (o : Option Piece) → Good (requester.takes_piece c e l d n o)
      unfolding requester.takes_piece
      piece_good n below None = still _ refl
      piece_good n below (Some x) =
          if_good (requester.is_this_piece l d x) (stays (telling (requester.landing c l d x) e l (advanced l.sender (n + 1))) took.Landed) (requester.useless c)
          (record { goes = telling_goes (requester.landing c l d x) (advanced l.sender (n + 1)) (landing_ends x) (landing_name x) (advancing (n + 1) (λ h. omega (arith, h, below, tame.top))) })
          (still _ refl)

      response_good : (o : Option ℕ) → Good (requester.response_at c e l d o)
      unfolding requester.takes_landing
      response_good None = still _ refl
      response_good (Some n) =
          if_good (is_read_response d.opcode || d.opcode == 0x12) _ _
          (test_good (n == requester.barrier l.terms l.sender && nat_lt n l.sender.top) (requester.takes_piece c e l d n (piece_at l.sender.untold l.terms.mtu (n - l.sender.first))) (requester.useless c) (λ t. piece_good n (less_is n l.sender.top (both _ _ t).1) _) (λ t. still _ refl))
          (aeth_good n d.aeth)

      other_good : Good (takes_other c e l d)
      unfolding responder.takes_request requester.takes_response
      other_good = if_good (is_request d.opcode) _ (requester.takes_response c e l d) (if_good (is_paused l.moving.phase) (silent c why.Paused) _ (still _ refl) (request_good (unwrap_near l.terms.peer_start d.psn l.receiver.expected))) (response_good (unwrap_near l.terms.own_start d.psn l.sender.una))

-- ---- messages of moving

phase_some : (p : Phase) → is_paused p ≡ false → 1 ≤ phase_left p
phase_some Running h = omega arith
phase_some Paused h = absurd (cc)
phase_some Resuming h = omega arith

phase_two : (p : Phase) → is_resuming p ≡ true → phase_left p ≡ 2
phase_two Running h = absurd (cc)
phase_two Paused h = absurd (cc)
phase_two Resuming h = refl

phase_one : (p : Phase) → phase_left (unpaused p) ≤ phase_left p + 1
phase_one Running = omega arith
phase_one Paused = omega arith
phase_one Resuming = omega arith

if_two : (a b : ℕ) → a < b → ◌≡◌ {A = ℕ} (if nat_lt a b then 2 else 0) 2
if_two a b h = grind (arith, nat_tests)

if_zero : (a b : ℕ) → a ≡ b → ◌≡◌ {A = ℕ} (if nat_lt a b then 2 else 0) 0
if_zero a b h = grind (arith, nat_tests)

paused_less : (k : ℕ) (m : Moving) → is_paused m.phase ≡ false → moves_left k (record m { phase = Paused }) < moves_left k m
unfolding moves_left
paused_less k m h = omega (arith, phase_some m.phase h)

running_less : (k : ℕ) (m : Moving) → is_resuming m.phase ≡ true → moves_left k (record m { phase = Running }) < moves_left k m
unfolding moves_left
running_less k m h = omega (arith, phase_two m.phase h)

resumed_less : (k : ℕ) (m : Moving) (body : ResumeBody) → m.recorded < body.count → body.count ≡ k → moves_left k (recording m body) < moves_left k m
unfolding moves_left
resumed_less k m body h news = omega (arith, phase_one m.phase, if_two m.recorded k (omega (arith, h, news)), if_zero body.count k news)

both_true : (a b : Bool) → (a && b) ≡ true → (a ≡ true) × (b ≡ true)
both_true true true h = (refl, refl)
both_true true false h = absurd (cc)
both_true false b h = absurd (cc)

not_true : (a : Bool) → not a ≡ true → a ≡ false
not_true true h = absurd (cc)
not_true false h = refl

lesser : (a b : ℕ) → nat_lt a b ≡ true → a < b
lesser a b h = grind (arith, nat_tests, h)

module _ (k : ℕ) (c : Context) (e : End) (l : Link) (self : c.ends ≡ store_named (λ z. z.name) e.name e c.ends) (there : e.link ≡ Some l) (alive : l.ended ≡ false) where
  abbrev Moved : Control → MoveTook → Type 0
  Moved m r = EndGoesOn k (BringsNews k (Some m)) c e l (moves_by c e l m r).context

  stays_put : (N : Type 0) → EndGoesOn k N c e l c
  stays_put N = record { named = refl; end = e; ends = self; name = refl; number = refl; link = l; linked = there; goes = same k N l }

  moving_alive : (m : Moving) → m.own ≡ l.moving.own → IsAlive l (with_moving l m)
  unfolding with_moving
  moving_alive m own = record { alive = alive; alive' = alive; peer = refl; terms = refl; own = own; ends = refl }

  moving_goes : (N : Type 0) (m : Moving) → m.own ≡ l.moving.own → (N → moves_left k m < moves_left k l.moving) → EndGoesOn k N c e l (linked c e (with_moving l m))
  unfolding with_moving with_end
  moving_goes N m own less =
      shape k N c e l self there (linked c e (with_moving l m)) c e (with_moving l m) refl refl refl refl refl refl
      (moves k N l (with_moving l m) (moving_alive m own) (record { una = refl; spent = refl; waits = refl; wait = inl refl }) less)

  stopped_goes : (count : ℕ) (b : Bool) → (count == l.moving.recorded && not (is_paused l.moving.phase)) ≡ b → Moved (Stopped count) (if b then GoesPaused else Stale)
  unfolding moves_by
  stopped_goes count true t = moving_goes _ (record l.moving { phase = Paused }) refl (λ n. paused_less k l.moving (not_true _ (both_true _ _ t).1))
  stopped_goes count false t = stays_put _

  resumed_link_alive : (body : ResumeBody) → IsAlive l (resumed_link l body)
  unfolding end_of_queue
  resumed_link_alive body = record { alive = alive; alive' = alive; peer = refl; terms = refl; own = refl; ends = refl }

  resumed_goes : (body : ResumeBody) → l.moving.recorded < body.count → EndGoesOn k (body.count ≡ k) c e l (linked c e (resumed_link l body))
  unfolding with_end
  resumed_goes body less =
      shape k _ c e l self there (linked c e (resumed_link l body)) c e (resumed_link l body) refl refl refl refl refl refl
      (moves k _ l (resumed_link l body) (resumed_link_alive body) (record { una = refl; spent = refl; waits = refl; wait = inr refl }) (λ n. resumed_less k l.moving body less n))

  resume_goes : (body : ResumeBody) (a b : Bool) → (nat_lt l.moving.recorded body.count && nat_le body.count most_moves) ≡ a → Moved (Resume body) (if a then Resumed else if b then Again else Stale)
  unfolding moves_by
  resume_goes body true b t = resumed_goes body (lesser _ _ (both_true _ _ t).0)
  resume_goes body false true t = stays_put _
  resume_goes body false false t = stays_put _

  ack_goes : (count : ℕ) (b : Bool) → (count == l.moving.own && is_resuming l.moving.phase) ≡ b → Moved (ResumeAck count) (if b then GoesRunning else Stale)
  unfolding moves_by
  ack_goes count true t = moving_goes _ (record l.moving { phase = Running }) refl (λ n. running_less k l.moving (both_true _ _ t).1)
  ack_goes count false t = stays_put _

  row_goes : (m : Control) → Moved m (move_row l.moving m)
  unfolding move_row
  row_goes (Stopped count) = stopped_goes count _ refl
  row_goes (Resume body) = resume_goes body _ (body.count == l.moving.recorded && not (is_paused l.moving.phase)) refl
  row_goes (ResumeAck count) = ack_goes count _ refl

-- ---- every packet

kind_goes : (k : ℕ) (c : Context) (e : End) (l : Link) (d : Packet) (m : Option Control) → c.ends ≡ store_named (λ z. z.name) e.name e c.ends → e.link ≡ Some l → IsTame l → l.ended ≡ false → EndGoesOn k (BringsNews k m) c e l (takes_kind c e l d m).context
unfolding takes_control
kind_goes k c e l d None self there tame alive = (other_good k _ c e l self there alive d tame).goes
kind_goes k c e l d (Some m) self there tame alive = row_goes k c e l self there alive m

pub taken : TakingLightens
unfolding takes
taken k c e l d self there tame = by_test l.ended refl
  where
    by_test : (b : Bool) → l.ended ≡ b → EndGoesOn k (BringsNews k (control_of d)) c e l (if b then silent c why.Ended else takes_kind c e l d (control_of d)).context
    by_test true t = record { named = refl; end = e; ends = self; name = refl; number = refl; link = l; linked = there; goes = same k _ l }
    by_test false t = kind_goes k c e l d (control_of d) self there (tame t) t
