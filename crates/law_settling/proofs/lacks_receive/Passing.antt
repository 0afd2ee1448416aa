-- What draining leaves of all ends, where messages of moving and answers to one end z are on their way: the others are spared.
use Rattle.std.proofs.Common.{arith, ◌≡◌, ◌≢◌, ◌≤◌, ◌<◌, ◌-◌, ◌⊎◌, ℕ, zero, suc, List, [], ◌∷◌, length, true, false, Bool, refl, sym, ap, ◌∙◌, subst, inl, inr}
use Rattle.std.specs.Prelude.{Contains, Some, None, slice_get, ◌==◌, nat_le}
use Rattle.std.proofs.lemmas.Bool.Decides.{nat_tests, leb_tells}
use Rattle.std.proofs.lemmas.List.Elements.{All-contains}
use Rattle.rdma_types.specs.declared.names.ObjName.{ObjName}
use Rattle.rdma_types.specs.declared.answers.Sent.{Sent}
use Rattle.rdma_types.specs.Lists.{named, store_named}
use Rattle.protocol.specs.declared.events.WorldEvent.{WorldEvent}
use Rattle.protocol.specs.declared.events.WorldEvent.TheVariants as world_events
use Rattle.protocol.specs.Bytes.{byte_at}
use Rattle.protocol.specs.Fabric.{pending_numbers}
use Rattle.protocol.specs.State.{World, Context, End, Link, Flight, no_context, no_end}
use Rattle.protocol.specs.Wire.{Packet, is_request, packet_of}
use Rattle.protocol.specs.EndWords as words
use Rattle.protocol.specs.EndWords.{EndStep, linked, with_link}
use Rattle.protocol.specs.EndStep.{takes}
use Rattle.protocol.specs.Moves.{Control, control_of}
use Rattle.protocol.specs.WorldStep.{world_step}
use Rattle.protocol.specs.Settle.{Settling, delivering, drained, pass, settle_step, stepped_to}
use Rattle.packetless_machine.specs.Machine.{Machine}
use Rattle.packetless_machine.specs.Legal.{after}
use Rattle.law_simulation.specs.Law.{AlwaysFollows, Follows}
use Rattle.law_simulation.specs.Stands.{Stands}
use Rattle.law_simulation.specs.Views.{name_of}
use Rattle.law_simulation.proofs.relation.Grows.{object_or_not}
use Rattle.law_simulation.proofs.relation.Tables.{named-store_same}
use Rattle.law_simulation.proofs.delivery.Arriving.{stored_again}
use Rattle.law_settling.proofs.draining.Pending.{IsPending, contains_cases, contains_here, contains_later, numbers_pend}
use Rattle.law_devices.proofs.Silent.{reply_silent}
use Rattle.law_settling.proofs.draining.Arrivals.{IsDelivered, delivered, grows, bytes_kept, still_pending}
use Rattle.law_settling.specs.Weights.{TakingLightens}
use Rattle.law_settling.proofs.bound.Lives.{lives, at_end, context_in, name_is}
use Rattle.law_settling.proofs.sending_stops.Arrivals.{Lands, delivers_either}
use Rattle.law_settling.proofs.sending_stops.Places.{context_now, end_else, one_named}
use Rattle.law_settling.proofs.lacks_receive.Kept.{IsEndKept, IsEndSpared, IsLinkKept, IsLinkMoved, IsLinkOn, IsLinkSpared, end_kept_on, end_spared_on, kept_link_on, linked_both, linked_as, linked_of, moved_kept, moved_spared, some_link}
use Rattle.law_settling.proofs.lacks_receive.Moved.{IsMove, IsMoveTaken, control_taken, resume_moves, stop_moves}
use Rattle.law_settling.proofs.lacks_receive.Answered.{IsAnswerTaken}

get_within : {A : Type 0} (xs : List A) (j : ℕ) → j < length xs → (x : A) × (slice_get xs j ≡ Some x)
get_within [] j h = absurd (omega (arith, h))
get_within (x ∷ xs) zero h = (x, refl)
get_within (x ∷ xs) (suc j) h = get_within xs j (omega (arith, h))

the_same : (a b : Flight) → Some a ≡ Some b → a ≡ b
the_same a b h = cc

pub contains_one : {A : Type 0} (a b : A) → Contains (a ∷ []) b → b ≡ a
contains_one a b h = elim (contains_cases b a [] h) [ inl e ↦ sym e | inr n ↦ absurd (omega (arith, n.1)) ]

-- what is true of an answer to the end with that number
pub record IsFor (number : ℕ) (d : Packet) : Type 0 where
  pub dest : d.dest ≡ number
  pub none : control_of d ≡ None
  pub no_request : is_request d.opcode ≡ false
  pub no_resume : (d.opcode == 0x1E) ≡ false

-- what an end with that link in a context takes of an answer
abbrev pub Answers : Link → (Packet → Type 0) → (Link → Type 0) → Type 0
Answers l2 Answer Q =
    (c : Context) (e : End) (l : Link) (there : named (λ z. z.name) no_end e.name c.ends ≡ e) (here : e.link ≡ Some l) (d : Packet) → IsLinkOn l2 l → control_of d ≡ None → is_request d.opcode ≡ false → Answer d → Q l → IsAnswerTaken c e l there here Q (takes c e l d)

module _ (lightens : TakingLightens) (follows : (e : WorldEvent) → AlwaysFollows e) (z : ObjName) (w2 : World) (l2 : Link) (at2 : (at_end w2 z).link ≡ Some l2) (n1 : ℕ) (Q : Link → Type 0) (Answer : Packet → Type 0)
    (moves : (l l' : Link) → IsLinkMoved l l' → Q l → Q l') (answers : Answers l2 Answer Q) where
  abbrev pub No : ℕ
  No = (at_end w2 z).number

  -- a message of moving, or an answer to z
  abbrev pub IsSorted : List ℕ → Type 0
  IsSorted bs = IsMove bs ⊎ ((p : Packet) → packet_of bs ≡ Some p → IsFor No p × Answer p)

  pub record During (w : World) : Type 0 where
    pub machine : Machine
    pub stands : Stands w machine
    pub others : (k : ObjName) → k ≢ z → IsEndSpared (at_end w2 k) (at_end w k)
    pub own : IsEndKept (at_end w2 z) (at_end w z)
    pub link : Link
    pub linked : (at_end w z).link ≡ Some link
    pub holds : Q link
    pub most : n1 ≤ length w.sent
    pub sorted : (j : ℕ) (f : Flight) → n1 ≤ j → slice_get w.sent j ≡ Some f → IsSorted f.bytes
    pub later : (j : ℕ) (f : Flight) → IsPending w.sent j f → n1 < j

  module _ (w : World) (k : ℕ) (above : n1 < k) (d : During w) where
    abbrev w' : World
    w' = (world_step w (world_events.Deliver k)).world

    flown : IsDelivered w w' k
    flown = delivered w k

    f : Follows w d.machine (world_events.Deliver k)
    f = follows (world_events.Deliver k) w d.machine tt d.stands

    abbrev AreFresh : Type 0
    AreFresh = (j : ℕ) (g : Flight) → length w.sent ≤ j → slice_get w'.sent j ≡ Some g → IsSorted g.bytes

    sorted_all : AreFresh → (j : ℕ) (g : Flight) → n1 ≤ j → slice_get w'.sent j ≡ Some g → IsSorted g.bytes
    sorted_all fresh j g past there = by_order (nat_le (length w.sent) j) refl
      where
        by_order : (b : Bool) → nat_le (length w.sent) j ≡ b → IsSorted g.bytes
        by_order true t = fresh j g (grind (arith, nat_tests, leb_tells (length w.sent) j, t)) there
        by_order false t =
            let within : j < length w.sent = grind (arith, nat_tests, leb_tells (length w.sent) j, t) in
            let old = get_within w.sent j within in
            let kept = bytes_kept w w' k flown j old.0 old.1 in
            let same : kept.0 ≡ g = the_same kept.0 g (sym kept.1 ∙ there) in
            subst IsSorted (sym kept.2 ∙ ap (λ y. y.bytes) same) (d.sorted j old.0 past old.1)

    -- what does not depend on what the delivery does
    rest : AreFresh → ((n : ObjName) → n ≢ z → IsEndSpared (at_end w2 n) (at_end w' n)) → IsEndKept (at_end w2 z) (at_end w' z) → (link : Link) → (at_end w' z).link ≡ Some link → Q link → During w'
    unfolding f
    rest fresh others own link linked' holds = record {
      machine = after d.machine f.steps;
      stands = f.stands;
      others = others;
      own = own;
      link = link;
      linked = linked';
      holds = holds;
      most = omega (arith, d.most, grows w w' k flown);
      sorted = sorted_all fresh;
      later = λ j g q. elim (still_pending w w' k flown j g q) [
        | inl a ↦ d.later j g a.0
        | inr b ↦ omega (arith, d.most, b.0)
      ];
    }

    -- no end changes
    quiet_on : AreFresh → lives w' ≡ lives w → During w'
    quiet_on fresh same =
        let end : (n : ObjName) → at_end w' n ≡ at_end w n = λ n. ap (λ cs. named (λ e. e.name) no_end n.name (context_in cs n.context).ends) same in
        rest fresh (λ n ne. subst (IsEndSpared (at_end w2 n)) (sym (end n)) (d.others n ne)) (subst (IsEndKept (at_end w2 z)) (sym (end z)) d.own) d.link (ap (λ e. e.link) (end z) ∙ d.linked) d.holds

    module _ (y : Lands w d.machine k w') where
      abbrev q : ObjName
      q = name_of d.machine y.packet.dest

      s : EndStep
      s = takes y.context y.end y.link y.packet

      q_end : at_end w q ≡ y.end
      q_end = ap (λ c. named (λ e. e.name) no_end q.name c.ends) y.there.context ∙ y.there.end

      e_name : y.end.name ≡ q.name
      e_name = name_is w q y.context y.end y.link y.there

      found : named (λ e. e.name) no_end y.end.name y.context.ends ≡ y.end
      found = ap (λ n. named (λ e. e.name) no_end n y.context.ends) e_name ∙ y.there.end

      stored_ends : (takes y.context y.end y.link y.packet).context.ends ≡ store_named (λ e. e.name) q.name y.after_end y.context.ends
      stored_ends = y.ends ∙ ap (λ n. store_named (λ e. e.name) n y.after_end y.context.ends) e_name

      else_end : (n : ObjName) → n ≢ q → at_end w' n ≡ at_end w n
      else_end n ne = end_else w w' q y.context y.there.context (takes y.context y.end y.link y.packet).context y.lives y.called y.after_end stored_ends (y.after_name ∙ e_name) n ne

      now_end : at_end w' q ≡ named (λ e. e.name) no_end y.end.name (takes y.context y.end y.link y.packet).context.ends
      now_end =
          ap (λ c. named (λ e. e.name) no_end q.name c.ends) (context_now w w' q y.context y.there.context (takes y.context y.end y.link y.packet).context y.lives y.called)
          ∙ ap (λ n. named (λ e. e.name) no_end n (takes y.context y.end y.link y.packet).context.ends) (sym e_name)

      -- the end q has become e'
      became : AreFresh → (e' : End) → at_end w' q ≡ e' → (q ≢ z → IsEndSpared y.end e') → (q ≡ z → IsEndKept y.end e' × ((link : Link) × (e'.link ≡ Some link) × Q link)) → During w'
      became fresh e' is spared mine = elim (object_or_not z q) [
        | inr other ↦
            let z_same : at_end w' z ≡ at_end w z = else_end z other in
            rest fresh each (subst (IsEndKept (at_end w2 z)) (sym z_same) d.own) d.link (ap (λ e. e.link) z_same ∙ d.linked) d.holds
        | inl same ↦
            let m = mine (sym same) in
            let z_now : at_end w' z ≡ e' = ap (at_end w') same ∙ is in
            let z_old : at_end w z ≡ y.end = ap (at_end w) same ∙ q_end in
            rest fresh each (subst (IsEndKept (at_end w2 z)) (sym z_now) (end_kept_on (at_end w2 z) y.end e' (subst (IsEndKept (at_end w2 z)) z_old d.own) m.0)) m.1.0 (ap (λ e. e.link) z_now ∙ m.1.1) m.1.2
      ]
        where
          each : (n : ObjName) → n ≢ z → IsEndSpared (at_end w2 n) (at_end w' n)
          each n ne = elim (object_or_not n q) [
            | inr apart ↦ subst (IsEndSpared (at_end w2 n)) (sym (else_end n apart)) (d.others n ne)
            | inl same ↦
                let n_now : at_end w' n ≡ e' = ap (at_end w') same ∙ is in
                let n_old : at_end w n ≡ y.end = ap (at_end w) same ∙ q_end in
                subst (IsEndSpared (at_end w2 n)) (sym n_now) (end_spared_on (at_end w2 n) y.end e' (subst (IsEndSpared (at_end w2 n)) n_old (d.others n ne)) (spared (λ h. ne (same ∙ h))))
          ]

      q_link : q ≡ z → y.link ≡ d.link
      q_link h = some_link y.link d.link (sym y.there.linked ∙ (ap (λ e. e.link) (sym q_end) ∙ (ap (λ n. (at_end w n).link) h ∙ d.linked)))

      -- ---- a message of moving

      module _ (control : Control) (is : control_of y.packet ≡ Some control) where
        m : IsMoveTaken y.context y.end y.link (takes y.context y.end y.link y.packet)
        m = control_taken y.context y.end y.link y.packet control is

        move_fresh : AreFresh
        move_fresh j g past there =
            let u = y.fresh j g past there in
            inl (resume_moves g.bytes (inr (ap (byte_at 0) (sym u.2) ∙ All-contains (λ (v : Sent). byte_at 0 v.bytes ≡ 0x1F) (takes y.context y.end y.link y.packet).sent u.0 m.sent u.1)))

        move_same : (takes y.context y.end y.link y.packet).context ≡ y.context → During w'
        move_same same =
            quiet_on move_fresh (y.lives ∙ (ap (λ c. store_named (λ e. e.name) q.context c (lives w)) (same ∙ sym y.there.context) ∙ stored_again (λ e. e.name) no_context q.context (lives w) y.there.live))

        move_changes : (l' : Link) → (takes y.context y.end y.link y.packet).context ≡ linked y.context y.end l' → IsLinkMoved y.link l' → During w'
        unfolding words.with_end with_link
        move_changes l' changed moved =
            became move_fresh (with_link y.end l')
            (now_end ∙ (ap (λ c. named (λ e. e.name) no_end y.end.name c.ends) changed ∙ named-store_same (λ e. e.name) no_end y.end.name (with_link y.end l') y.context.ends refl))
            (λ ne. record { number = refl; unused = refl; links = linked_of IsLinkSpared y.end.link (Some l') y.link l' y.there.linked refl (moved_spared y.link l' moved) })
            (λ h. (record { number = refl; unused = λ t. t; links = linked_of IsLinkKept y.end.link (Some l') y.link l' y.there.linked refl (moved_kept y.link l' moved) }, (l', refl, moves y.link l' moved (subst Q (sym (q_link h)) d.holds))))

        move_on : During w'
        move_on = elim m.context [ inl same ↦ move_same same | inr c ↦ move_changes c.0 c.1 c.2 ]

      -- ---- an answer to z

      module _ (to_z : IsFor No y.packet) (answer : Answer y.packet) where
        is_z : q ≡ z
        is_z = ap (name_of d.machine) (to_z.dest ∙ sym d.own.number) ∙ one_named w d.machine z d.link d.stands d.linked

        silent : (takes y.context y.end y.link y.packet).sent ≡ []
        silent = (reply_silent y.context y.end y.link y.packet to_z.no_request to_z.no_resume).none

        answer_fresh : AreFresh
        answer_fresh j g past there = let u = y.fresh j g past there in absurd (omega (arith, (subst (λ zs. Contains zs u.0) silent u.1).1))

        z_end : at_end w z ≡ y.end
        z_end = ap (at_end w) (sym is_z) ∙ q_end

        on_now : IsLinkOn l2 y.link
        on_now = linked_both IsLinkOn (at_end w2 z).link (at_end w z).link l2 y.link (linked_as IsLinkKept IsLinkOn kept_link_on (at_end w2 z).link (at_end w z).link d.own.links) at2 (ap (λ e. e.link) z_end ∙ y.there.linked)

        taken : IsAnswerTaken y.context y.end y.link found y.there.linked Q (takes y.context y.end y.link y.packet)
        taken = answers y.context y.end y.link found y.there.linked y.packet on_now to_z.none to_z.no_request answer (subst Q (sym (q_link is_z)) d.holds)

        answer_on : During w'
        answer_on = became answer_fresh taken.end (now_end ∙ taken.found) (λ ne. absurd (ne is_z)) (λ h. (taken.kept, (taken.link, taken.linked, taken.holds)))

      -- ---- either

      lands_on : IsSorted y.flight.bytes → During w'
      lands_on (inl move) = let c = move y.packet y.read in move_on c.0 c.1
      lands_on (inr answer) = let a = answer y.packet y.read in answer_on a.0 a.1

      landed : During w'
      landed = lands_on (d.sorted (k - 1) y.flight (omega (arith, above)) y.at)

    deliver_during : During w'
    deliver_during = elim (delivers_either lightens w d.machine k d.stands) [
      | inl quiet ↦ quiet_on (λ j g past there. inl (stop_moves g.bytes (quiet.fresh j g past there))) quiet.lives
      | inr y ↦ landed y
    ]

  -- ---- passes

  delivering_during : (ks : List ℕ) (s : Settling) → ((k : ℕ) → Contains ks k → n1 < k) → During s.world → During (delivering s ks).world
  unfolding delivering settle_step stepped_to
  delivering_during [] s above d = d
  delivering_during (k ∷ ks) s above d = delivering_during ks (settle_step s (world_events.Deliver k)) (λ j c. above j (contains_later j k ks c)) (deliver_during s.world k (above k (contains_here k ks)) d)

  pub pass_during : (s : Settling) → During s.world → During (pass s).world
  pass_during s d = delivering_during (pending_numbers s.world.sent) s (λ k c. let p = numbers_pend s.world.sent k c in d.later k p.0 p.1) d

  pub drained_during : (s : Settling) → During s.world → During (drained s).world
  unfolding drained
  drained_during s d = pass_during (pass (pass s)) (pass_during (pass s) (pass_during s d))
