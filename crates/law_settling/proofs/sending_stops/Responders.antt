-- What a request does at the end that takes it, and what it is answered by.
use Rattle.std.proofs.Common.{arith, ◌≡◌, ◌≤◌, ◌<◌, ◌+◌, ◌-◌, ◌⊎◌, ℕ, suc, List, [], ◌∷◌, drop, true, false, Bool, refl, sym, ap, ◌∙◌, subst, inl, inr}
use Rattle.std.specs.Prelude.{All, Option, Some, None, is_some, if◌then◌else◌, ◌||◌, nat_le, nat_lt}
use Rattle.std.proofs.lemmas.Bool.Decides.{nat_tests, leb_tells}
use Rattle.std.proofs.lemmas.List.Elements.{All-nil, All-cons}
use Rattle.rdma_types.specs.declared.requests.Receive.{Receive}
use Rattle.rdma_types.specs.declared.answers.DropReason.TheVariants as why
use Rattle.rdma_types.specs.declared.answers.Sent.{Sent}
use Rattle.rdma_types.specs.declared.answers.RefusalReason.{RefusalReason}
use Rattle.rdma_types.specs.declared.answers.RefusalReason.TheVariants as refused
use Rattle.rdma_types.specs.Limits.{number_limit}
use Rattle.rdma_types.specs.Lists.{named, store_named}
use Rattle.rdma_types.specs.Objects.{Region}
use Rattle.rdma_types.specs.Spans.{pieces}
use Rattle.protocol.specs.declared.images.KeptReply.{KeptReply}
use Rattle.protocol.specs.declared.wire.AtomicEth.{AtomicEth}
use Rattle.protocol.specs.declared.wire.Reth.{Reth}
use Rattle.protocol.specs.declared.wire.Syndrome.TheVariants.{Ack}
use Rattle.rdma_types.specs.Memory.{word_bytes}
use Rattle.protocol.specs.Memory.{written, word_at}
use Rattle.protocol.specs.Numbers.{unwrap_near}
use Rattle.protocol.specs.State.{Link, End, Context, NoMessage, InSend, InWrite, no_end}
use Rattle.protocol.specs.Wire.{Packet, is_request}
use Rattle.protocol.specs.EndWords.{EndStep, silent, linked, completing, with_end, with_link, with_queue, with_unused, with_receiver, is_paused}
use Rattle.protocol.specs.Moves.{control_of}
use Rattle.protocol.specs.Requester.{ended_with, ended_link}
use Rattle.protocol.specs.Responder as responder
use Rattle.protocol.specs.EndStep.{takes}
use Rattle.law_simulation.proofs.relation.Tables.{named-store_same}
use Rattle.law_simulation.proofs.requests.Requests.{takes_is}
use Rattle.law_settling.proofs.sending_stops.Turns.{IsAnswerTo, IsDryFor}
use Rattle.law_settling.proofs.sending_stops.Written.{ack_written, rnr_written, nak_written, old_written, reads_written}

-- a packet has the headers of its opcode
pub record HasParts (d : Packet) : Type 0 where
  pub read : responder.is_read_request d.opcode ≡ true → is_some d.reth ≡ true
  pub atomic : responder.is_send d.opcode ≡ false → responder.is_write d.opcode ≡ false → responder.is_read_request d.opcode ≡ false → is_some d.atomic ≡ true

module _ (c : Context) (e : End) (l : Link) (d : Packet) (n : ℕ) where
  -- the link of the end in a context
  abbrev pub link_in : Context → Option Link
  link_in x = (named (λ z. z.name) no_end e.name x.ends).link

  abbrev pub AnswersOf : Type 0 → EndStep → Type 0
  AnswersOf Back s = All (λ (z : Sent). IsAnswerTo l.peer Back z.bytes) s.sent

  -- nothing changes, by a repeat, ahead of a number that was asked for already, or where no receive is posted
  pub record IsIdle (s : EndStep) : Type 0 where
    pub context : s.context ≡ c
    pub answers : AnswersOf ⊥ s
    pub why : (n < l.receiver.expected) ⊎ ((l.receiver.expected < n) × (l.receiver.nak_sent ≡ true)) ⊎ ((n ≡ l.receiver.expected) × IsDryFor c e l d)

  -- the expected number is asked for
  pub record Asks (s : EndStep) : Type 0 where
    pub ahead : l.receiver.expected < n
    pub first : l.receiver.nak_sent ≡ false
    pub context : s.context ≡ linked c e (with_receiver l (record l.receiver { nak_sent = true }))
    pub answers : AnswersOf (Unit {0}) s

  -- the request is refused, and the end goes to Error
  pub record Refuses (s : EndStep) : Type 0 where
    pub at : n ≡ l.receiver.expected
    pub not_dry : IsDryFor c e l d → ⊥
    pub link : Link
    pub linked : link_in s.context ≡ Some link
    pub ended : link.ended ≡ true
    pub answers : AnswersOf (Unit {0}) s

  -- the request acts
  pub record Acts (s : EndStep) : Type 0 where
    pub at : n ≡ l.receiver.expected
    pub not_dry : IsDryFor c e l d → ⊥
    pub link : Link
    pub linked : link_in s.context ≡ Some link
    pub expected : link.receiver.expected ≡ l.receiver.expected + responder.span_of_packet d l.terms.mtu d.reth
    pub progress : link.receiver.nak_sent ≡ false
    pub sender : link.sender ≡ l.sender
    pub answers : AnswersOf ⊥ s

  abbrev pub Outcome : EndStep → Type 0
  Outcome s = IsIdle s ⊎ Asks s ⊎ Refuses s ⊎ Acts s

  less_is : (a b : ℕ) → nat_lt a b ≡ true → a < b
  less_is a b h = grind (arith, nat_tests, leb_tells (suc a) b, h)

  not_less : (a b : ℕ) → nat_lt a b ≡ false → b ≤ a
  not_less a b h = grind (arith, nat_tests, leb_tells (suc a) b, h)

  module _ (alive : l.ended ≡ false) (small : l.peer < 16777216) (there : link_in c ≡ Some l) where
    one : (Back : Type 0) (z : Sent) → IsAnswerTo l.peer Back z.bytes → All (λ (y : Sent). IsAnswerTo l.peer Back y.bytes) (z ∷ [])
    one Back z h = All-cons (λ (y : Sent). IsAnswerTo l.peer Back y.bytes) z [] h (All-nil _)

    nothing : (Back : Type 0) → All (λ (y : Sent). IsAnswerTo l.peer Back y.bytes) []
    nothing Back = All-nil _

    if_outcome : (b : Bool) (s t : EndStep) → Outcome s → Outcome t → Outcome (if b then s else t)
    if_outcome true s t h g = h
    if_outcome false s t h g = g

    test_outcome : (b : Bool) (s t : EndStep) → (b ≡ true → Outcome s) → (b ≡ false → Outcome t) → Outcome (if b then s else t)
    test_outcome true s t h g = h refl
    test_outcome false s t h g = g refl

    -- ---- ahead and before

    ahead_outcome : l.receiver.expected < n → Outcome (responder.ahead c e l)
    unfolding responder.ahead
    ahead_outcome h =
        test_outcome l.receiver.nak_sent _ _
        (λ t. inl (record { context = refl; answers = nothing ⊥; why = inr (inl (h, t)) }))
        (λ t. inr (inl (record { ahead = h; first = t; context = refl; answers = one (Unit {0}) _ (nak_written l small (Unit {0}) l.receiver.expected 0 tt (inl refl)) })))

    module _ (before : n < l.receiver.expected) where
      silent_repeat : Outcome (responder.no_repeat c)
      silent_repeat = inl (record { context = refl; answers = nothing ⊥; why = inl before })

      answered_read : (o : Option Region) (h : Reth) → Outcome (responder.answers_read c l o h n)
      answered_read None h = silent_repeat
      answered_read (Some r) h = inl (record { context = refl; answers = reads_written l small ⊥ r (h.address - r.base) h.length n (pieces h.length l.terms.mtu); why = inl before })

      reread : (o : Option Reth) → Outcome (responder.repeats_read c e l o n)
      reread None = silent_repeat
      reread (Some h) = if_outcome (nat_le (n + pieces h.length l.terms.mtu) l.receiver.expected) _ _ (answered_read _ h) silent_repeat

      old_again : (o : Option KeptReply) → Outcome (responder.answers_old c l n o)
      old_again None = silent_repeat
      old_again (Some k) = inl (record { context = refl; answers = one ⊥ _ (old_written l small ⊥ n k.old); why = inl before })

      repeated_outcome : Outcome (responder.repeated c e l d n)
      unfolding responder.repeated
      repeated_outcome =
          if_outcome (responder.is_read_request d.opcode) _ _ (reread d.reth)
          (if_outcome (is_some d.atomic) _ _ (old_again _)
          (inl (record { context = refl; answers = one ⊥ _ (ack_written l small ⊥ (l.receiver.expected - 1)); why = inl before })))

    -- ---- the expected request

    module _ (at : n ≡ l.receiver.expected) where
      -- the end is stored with another link
      looked : (c0 : Context) (e0 : End) (l' : Link) → e0.name ≡ e.name → link_in (linked c0 e0 l') ≡ Some l'
      unfolding with_end with_link
      looked c0 e0 l' name = ap (λ k. (named (λ y. y.name) no_end e.name (store_named (λ y. y.name) k (with_link e0 l') c0.ends)).link) name ∙ ap (λ z. z.link) (named-store_same (λ y. y.name) no_end e.name (with_link e0 l') c0.ends name)

      fails : (c0 : Context) (e0 : End) (l0 : Link) (w : RefusalReason) → e0.name ≡ e.name → (l0.peer ≡ l.peer) → (IsDryFor c e l d → ⊥) → AnswersOf (Unit {0}) (responder.refuses c0 e0 l0 n w) → Outcome (responder.refuses c0 e0 l0 n w)
      unfolding ended_with ended_link with_unused completing with_queue with_end with_link
      fails c0 e0 l0 w name peer not_dry answers = inr (inr (inl (record {
        at = at;
        not_dry = not_dry;
        link = ended_link l0;
        linked = looked c0 (with_unused e0 []) (ended_link l0) name;
        ended = refl;
        answers = answers;
      })))

      code_small : (w : RefusalReason) → (responder.nak_code w ≡ 0) ⊎ (responder.nak_code w ≡ 1) ⊎ (responder.nak_code w ≡ 2)
      code_small refused.Invalid = inr (inl refl)
      code_small refused.Access = inr (inr refl)
      code_small refused.Length = inr (inl refl)

      refused_outcome : (w : RefusalReason) → (IsDryFor c e l d → ⊥) → Outcome (responder.refuses c e l n w)
      refused_outcome w not_dry = fails c e l w refl refl not_dry (one (Unit {0}) _ (nak_written l small (Unit {0}) n (responder.nak_code w) tt (code_small w)))

      length_outcome : (IsDryFor c e l d → ⊥) → Outcome (responder.refuses_length c e l n)
      unfolding responder.refuses_length with_unused with_receiver
      length_outcome not_dry =
          fails _ _ (responder.idled l) refused.Length refl refl not_dry
          (one (Unit {0}) _ (nak_written (responder.idled l) small (Unit {0}) n 1 tt (inr (inl refl))))

      -- ---- it acts

      module _ (not_dry : IsDryFor c e l d → ⊥) where
        -- the responder went on
        record WentPast (l' : Link) : Type 0 where
          expected : l'.receiver.expected ≡ l.receiver.expected + responder.span_of_packet d l.terms.mtu d.reth
          progress : l'.receiver.nak_sent ≡ false
          sender : l'.sender ≡ l.sender

        goes_past : (l' l1 : Link) → l'.receiver.expected ≡ l1.receiver.expected → l'.receiver.nak_sent ≡ l1.receiver.nak_sent → l'.sender ≡ l1.sender → WentPast l1 → WentPast l'
        goes_past l' l1 a b c' h = record { expected = a ∙ h.expected; progress = b ∙ h.progress; sender = c' ∙ h.sender }

        acted : (s : EndStep) (l' : Link) → link_in s.context ≡ Some l' → WentPast l' → AnswersOf ⊥ s → Outcome s
        acted s l' linked' past answers = inr (inr (inr (record { at = at; not_dry = not_dry; link = l'; linked = linked'; expected = past.expected; progress = past.progress; sender = past.sender; answers = answers })))

        acts_outcome : (x : Context) (l1 l' : Link) → l1.peer ≡ l.peer → link_in x ≡ Some l' → WentPast l' → Outcome (responder.acts x l1 d n)
        acts_outcome x l1 l' peer linked' past =
            if_outcome (responder.finishes (responder.part_of d.opcode) || d.ack_request) _ _
            (acted _ l' linked' past (one ⊥ _ (subst (λ k. IsAnswerTo k ⊥ (responder.acknowledge l1 n Ack).bytes) peer (ack_written l1 (subst (λ k. k < 16777216) (sym peer) small) ⊥ n))))
            (acted _ l' linked' past (nothing ⊥))

        abbrev Found : Context → Type 0
        Found x = (l' : Link) × (link_in x ≡ Some l') × WentPast l'

        if_found : (b : Bool) (x y : Context) → Found x → Found y → Found (if b then x else y)
        if_found true x y h g = h
        if_found false x y h g = g

        acts_found : (x : Context) (l1 : Link) → l1.peer ≡ l.peer → Found x → Outcome (responder.acts x l1 d n)
        acts_found x l1 peer f = acts_outcome x l1 f.0 peer f.1 f.2

        module _ (l1 : Link) (peer : l1.peer ≡ l.peer) (mtu : l1.terms ≡ l.terms) (past : WentPast l1) where
          send_found : (c1 : Context) (r : Receive) (done : ℕ) → Found (responder.send_done c1 e l1 d r done)
          unfolding responder.send_done with_unused with_receiver completing with_queue
          send_found c1 r done =
              if_found (responder.finishes (responder.part_of d.opcode)) _ _
              (responder.in_progress l1 NoMessage, looked c1 (with_unused e (responder.unused_after e l1.receiver.progress)) (responder.in_progress l1 NoMessage) refl, goes_past (responder.in_progress l1 NoMessage) l1 refl refl refl past)
              (responder.in_progress l1 (InSend done r), looked c1 (with_unused e (responder.unused_after e l1.receiver.progress)) (responder.in_progress l1 (InSend done r)) refl, goes_past (responder.in_progress l1 (InSend done r)) l1 refl refl refl past)

          imm_found : (c1 : Context) (l2 : Link) (count : ℕ) (imm : Option ℕ) → WentPast l2 → Found (responder.with_immediate c1 e l2 count imm)
          unfolding with_unused completing with_queue
          imm_found c1 l2 count None h = (l2, looked c1 e l2 refl, h)
          imm_found c1 l2 count (Some k) h = (l2, looked c1 (with_unused e (drop 1 e.unused)) l2 refl, h)

          write_found : (c1 : Context) (p : responder.Place) (done : ℕ) → Found (responder.write_done c1 e l1 d p done)
          unfolding responder.write_done with_receiver
          write_found c1 p done =
              if_found (responder.finishes (responder.part_of d.opcode)) _ _
              (imm_found c1 (responder.in_progress l1 NoMessage) p.length d.imm (goes_past (responder.in_progress l1 NoMessage) l1 refl refl refl past))
              (responder.in_progress l1 (InWrite p.region p.off p.length done), looked c1 e (responder.in_progress l1 (InWrite p.region p.off p.length done)) refl, goes_past (responder.in_progress l1 (InWrite p.region p.off p.length done)) l1 refl refl refl past)

          small1 : l1.peer < 16777216
          small1 = subst (λ k. k < 16777216) (sym peer) small

          to_it : (bs : List ℕ) → IsAnswerTo l1.peer ⊥ bs → IsAnswerTo l.peer ⊥ bs
          to_it bs h = subst (λ k. IsAnswerTo k ⊥ bs) peer h

          read_acts : (r : Region) (o : Option Reth) → is_some o ≡ true → Outcome (responder.read_acts c e l1 r n o)
          read_acts r None h = absurd (cc)
          read_acts r (Some h) some =
              acted (responder.read_acts c e l1 r n (Some h)) l1 (looked c e l1 refl) past
              (subst (λ k. All (λ (y : Sent). IsAnswerTo k ⊥ y.bytes) (responder.read_answers l1 r h n)) peer (reads_written l1 small1 ⊥ r (h.address - r.base) h.length n (pieces h.length l1.terms.mtu)))

          atomic_acts : (r : Region) (o : Option AtomicEth) → is_some o ≡ true → Outcome (responder.atomic_acts c e l1 d r n o)
          unfolding responder.atomic_done with_receiver
          atomic_acts r None h = absurd (cc)
          atomic_acts r (Some h) some =
              let old : ℕ = word_at r (h.address - r.base) in
              let over : Context = written c r.keys.local (h.address - r.base) (word_bytes (responder.atomic_value d.opcode h old)) in
              acted (responder.atomic_acts c e l1 d r n (Some h)) (responder.keeps l1 n old) (looked over e (responder.keeps l1 n old) refl) (goes_past (responder.keeps l1 n old) l1 refl refl refl past)
              (one ⊥ _ (to_it _ (old_written l1 small1 ⊥ n old)))

          packet_outcome : HasParts d → (r : Region) → Outcome (responder.packet_acts c e l1 d r n)
          unfolding responder.packet_acts
          packet_outcome parts r =
              test_outcome (responder.is_send d.opcode) _ _ (λ t. acts_found _ l1 peer (send_found _ _ _))
              (λ a. test_outcome (responder.is_write d.opcode) _ _ (λ t. acts_found _ l1 peer (write_found _ _ _))
              (λ b. test_outcome (responder.is_read_request d.opcode) _ _ (λ t. read_acts r d.reth (parts.read t)) (λ t. atomic_acts r d.atomic (parts.atomic a b t))))

        acts_all : HasParts d → (r : Region) → Outcome (responder.packet_acts c e (responder.executed l d) d r n)
        unfolding responder.executed with_receiver
        acts_all parts r = packet_outcome (responder.executed l d) refl refl (record { expected = refl; progress = refl; sender = refl }) parts r

      -- ---- the checks

      granted_outcome : HasParts d → responder.is_invalid l d ≡ false → (o : Option Region) → responder.target c e d ≡ o → Outcome (responder.granted_packet c e l d n o)
      unfolding responder.not_ready
      granted_outcome parts valid None t = refused_outcome refused.Access (λ h. absurd (cc (h.granted, ap is_some t)))
      granted_outcome parts valid (Some r) t =
          test_outcome (responder.is_not_ready e d) _ _
          (λ a. inl (record { context = refl; answers = one ⊥ _ (rnr_written l small ⊥ n); why = inr (inr (at, record { valid = valid; granted = ap is_some t; dry = a })) }))
          (λ a. test_outcome (responder.is_too_long e l d) _ _ (λ b. length_outcome (λ h. absurd (cc (h.dry, a)))) (λ b. acts_all (λ h. absurd (cc (h.dry, a))) parts r))

      expected_outcome : HasParts d → nat_le number_limit (n + responder.span_of_packet d l.terms.mtu d.reth) ≡ false → Outcome (responder.expected_packet c e l d n)
      unfolding responder.expected_packet
      expected_outcome parts below =
          test_outcome (nat_le number_limit (n + responder.span_of_packet d l.terms.mtu d.reth)) (responder.no_repeat c) _ (λ t. absurd (cc (t, below)))
          (λ t. test_outcome (responder.is_invalid l d) _ _ (λ a. refused_outcome refused.Invalid (λ h. absurd (cc (h.valid, a)))) (λ a. granted_outcome parts a (responder.target c e d) refl))

    -- ---- every request

    order : (a b : ℕ) → nat_lt a b ≡ false → nat_lt b a ≡ false → b ≡ a
    order a b h g = omega (arith, not_less a b h, not_less b a g)

    pub request_outcome : HasParts d → nat_le number_limit (n + responder.span_of_packet d l.terms.mtu d.reth) ≡ false → Outcome (responder.request_at c e l d (Some n))
    request_outcome parts below =
        test_outcome (nat_lt l.receiver.expected n) _ _ (λ t. ahead_outcome (less_is l.receiver.expected n t))
        (λ t. test_outcome (nat_lt n l.receiver.expected) _ _ (λ a. repeated_outcome (less_is n l.receiver.expected a)) (λ a. expected_outcome (order l.receiver.expected n t a) parts below))

    pub taken_outcome : is_paused l.moving.phase ≡ false → control_of d ≡ None → is_request d.opcode ≡ true → unwrap_near l.terms.peer_start d.psn l.receiver.expected ≡ Some n → HasParts d → nat_le number_limit (n + responder.span_of_packet d l.terms.mtu d.reth) ≡ false → Outcome (takes c e l d)
    taken_outcome running none asks number parts below =
        subst Outcome (sym (takes_is c e l d n alive none asks number ∙ ap (λ b. if b then silent c why.Paused else responder.request_at c e l d (Some n)) running)) (request_outcome parts below)
