-- The answer to an atomic arrives at a live end in Rts: at the barrier its old value lands, and the atomic is told.
use Rattle.std.proofs.Common.{arith, ◌≡◌, ◌≤◌, ◌<◌, ◌+◌, ◌-◌, ◌*◌, ℕ, suc, List, [], ◌∷◌, ◌++◌, length, get_or, true, false, Bool, refl, sym, ap, ◌∙◌, subst, inl, inr}
use Rattle.std.specs.Prelude.{Option, Some, None, not, max, drop, nat_lt, slice_get, ◌⊎◌, ◌==◌, ◌&&◌, ◌||◌, if◌then◌else◌}
use Rattle.std.proofs.Math.Nat.{zero-mod, zero-div}
use Rattle.std.proofs.lemmas.Bool.Decides.{nat_tests, leb_tells, eqb_tells}
use Rattle.std.proofs.lemmas.List.{get_or-drop, length-drop}
use Rattle.rdma_types.specs.declared.names.ObjName.{ObjName}
use Rattle.rdma_types.specs.declared.answers.ArrivalEffect.{ArrivalEffect}
use Rattle.rdma_types.specs.declared.answers.ArrivalEffect.TheVariants as took
use Rattle.rdma_types.specs.Kinds.{is_atomic, is_read, kind_of, size_of}
use Rattle.rdma_types.specs.Memory.{is_granted, landing_right, local_key, word_bytes}
use Rattle.rdma_types.specs.Objects.{Posted, Region, no_posted}
use Rattle.rdma_types.specs.Spans.{Piece, end_number, first_number, piece_at, piece_length, request_of, span, span_of}
use Rattle.protocol.specs.declared.wire.Aeth.{Aeth}
use Rattle.protocol.specs.declared.wire.ResumeBody.{ResumeBody}
use Rattle.protocol.specs.declared.wire.Syndrome.{Syndrome}
use Rattle.protocol.specs.declared.wire.Syndrome.TheVariants.{Ack, Rnr, Nak}
use Rattle.protocol.specs.EndWords as words
use Rattle.protocol.specs.Memory.{landed}
use Rattle.protocol.specs.Moves.{control_of}
use Rattle.protocol.specs.Requester as requester
use Rattle.protocol.specs.Requester.{advanced, after_telling, is_this_piece, landing, old_bytes, takes_landing, takes_piece, telling, told_count, useless}
use Rattle.protocol.specs.State.{World, Link, Sender}
use Rattle.protocol.specs.Wire.{Packet, packet_of, is_read_response, is_request, has_resume, layout_of}
use Rattle.protocol.specs.DeviceStep.{took_answer}
use Rattle.protocol.proofs.PacketGrammar.{read_spelled}
use Rattle.packetless_machine.specs.declared.reply.Reply.TheVariants.{OldValue}
use Rattle.packetless_machine.specs.declared.steps.MachineStep.{MachineStep}
use Rattle.packetless_machine.specs.declared.steps.MachineStep.TheVariants as steps
use Rattle.packetless_machine.specs.Legal.{after}
use Rattle.packetless_machine.specs.Machine as machine
use Rattle.packetless_machine.specs.Machine.{Machine, End, posted_at, put_at, regions_of}
use Rattle.packetless_machine.specs.Numbers.{due, oldest}
use Rattle.packetless_machine.specs.Steps.{front, may_tell, success, tell, told_one, untold, with_known}
use Rattle.law_simulation.specs.Carries.{LandsOld}
use Rattle.law_simulation.specs.Facts.{ClassFact, IsOld, MoveFact, NumberedFact}
use Rattle.law_simulation.specs.Joined.{IsFencedIn, lands_untold_before}
use Rattle.law_simulation.specs.Named.{is_landed, learning, old_steps}
use Rattle.law_simulation.specs.Packets.{class_of, aeth_class, nak_class, resume_class, syndrome_class, IsRequest, IsReadResponse, IsAtomicResponse, IsSequenceNak, IsRefusal, IsStopped, IsNothing, IsResume, IsResumeAck}
use Rattle.law_simulation.specs.Stands.{Stands}
use Rattle.law_simulation.specs.Views.{requests_of, side_of}
use Rattle.law_simulation.proofs.relation.Live.{live_same}
use Rattle.law_simulation.specs.Delivered.{Arrives, Takes, AtomicResponsesAreTaken, context_there, end_there}
use Rattle.law_simulation.proofs.relation.Numbers.{span_positive}
use Rattle.law_simulation.proofs.sending.GoEnd.{Goes_on, gone_end, lands_later}
use Rattle.law_simulation.proofs.sending.GoLive.{LiveEnd, fenced_here, joined_here, mtu_is, name_here, ordered_here, sends_here, sound_here, untold_here}
use Rattle.law_simulation.proofs.sending.GoNumbers.{first_mono}
use Rattle.law_simulation.proofs.sending.GoPieces.{first-drop, piece_is}
use Rattle.law_simulation.proofs.sending.GoSound.{MayKnow}
use Rattle.law_simulation.proofs.responses.ResponseAdvance.{end_heard, end_then, heard, learn, oldest_then}
use Rattle.law_simulation.proofs.responses.ResponseArrives.{live_end}
use Rattle.law_simulation.proofs.responses.ResponseFound.{found_here, found_lands, landing_control, landing_is}
use Rattle.law_simulation.proofs.responses.ResponseGoals.{IsTaken, nothing_taken, taken_takes, una_barrier}
use Rattle.law_simulation.proofs.responses.ResponseLanding.{LearnedAt, entries_more, landing_stands}
use Rattle.law_simulation.proofs.delivery.Words.{word_length, word_said}
use Rattle.law_simulation.proofs.responses.ResponseLast.{after_then, front_of, front_there, inner_then, run_then, untold_then}
use Rattle.law_simulation.proofs.responses.ResponseLearns.{first_next}
use Rattle.law_simulation.proofs.responses.ResponseNumbers.{request_begins}
use Rattle.law_simulation.proofs.responses.ResponseOld.{lands_atomic, learned_at_then, learned_old, learned_regions, old_acted, old_regions}
use Rattle.law_simulation.proofs.responses.ResponseRegions.{landed_put}
use Rattle.law_simulation.proofs.delivery.Regions.{put_like, put_said, put_whole}
use Rattle.law_simulation.proofs.responses.ResponseTelling.{Advances, stays_here}
use Rattle.law_simulation.proofs.responses.ResponseTold.{Stays, entries_by, known_by, learned_stays, told_by}

eq_same : (a b : ℕ) → (a == b) ≡ true → a ≡ b
eq_same a b h = elim (eqb_tells a b) [ inl t ↦ t.1 | inr t ↦ absurd (cc (t.0, h)) ]

less_tells : (a b : ℕ) → a < b → nat_lt a b ≡ true
less_tells a b h = grind (arith, nat_tests, leb_tells (suc a) b)

atomic_span : (r : Posted) (mtu : ℕ) → is_atomic (kind_of r) ≡ true → span_of r mtu ≡ 1
unfolding span
atomic_span r mtu h = rw h refl

-- an answer to an atomic has its opcode
no_header : (a : Option Aeth) → aeth_class a ≡ IsAtomicResponse → ⊥
unfolding aeth_class syndrome_class nak_class
no_header None e = cc
no_header (Some h) e = by_syndrome h.syndrome e
  where
    by_code : (p q r t : Bool) → (if p then IsSequenceNak else if q then IsRefusal false else if r then IsRefusal true else if t then IsStopped h.msn else IsNothing) ≡ IsAtomicResponse → ⊥
    by_code true q r t e = cc
    by_code false true r t e = cc
    by_code false false true t e = cc
    by_code false false false true e = cc
    by_code false false false false e = cc

    by_syndrome : (y : Syndrome) → syndrome_class y h.msn ≡ IsAtomicResponse → ⊥
    by_syndrome Ack e = cc
    by_syndrome Rnr e = cc
    by_syndrome (Nak code) e = by_code (code == 0) (code == 1) (code == 2) (code == 5) e

no_body : (opcode : ℕ) (body : Option ResumeBody) → resume_class opcode body ≡ IsAtomicResponse → ⊥
unfolding resume_class
no_body opcode None e = cc
no_body opcode (Some body) e = by_test (opcode == 0x1E) e
  where
    by_test : (b : Bool) → (if b then IsResume body else IsResumeAck body) ≡ IsAtomicResponse → ⊥
    by_test true e = cc
    by_test false e = cc

opcode_is : (d : Packet) → class_of d ≡ IsAtomicResponse → d.opcode ≡ 0x12
unfolding class_of
opcode_is d e = by_tests (is_request d.opcode) (is_read_response d.opcode) (d.opcode == 0x12) (d.opcode == 0x11) refl e
  where
    by_tests : (p q r t : Bool) → (d.opcode == 0x12) ≡ r → (if p then IsRequest else if q then IsReadResponse else if r then IsAtomicResponse else if t then aeth_class d.aeth else resume_class d.opcode d.resume) ≡ IsAtomicResponse → d.opcode ≡ 0x12
    by_tests true q r t u e = absurd (cc)
    by_tests false true r t u e = absurd (cc)
    by_tests false false true t u e = eq_same d.opcode 0x12 u
    by_tests false false false true u e = absurd (no_header d.aeth e)
    by_tests false false false false u e = absurd (no_body d.opcode d.resume e)

known_success : (e : End) (last : Option ℕ) → success (known_by e last) (front (known_by e last)) ≡ success e (front e)
unfolding known_by success with_known
known_success e None = refl
known_success e (Some bytes) = refl

module _ (w : World) (m : Machine) (o : ObjName) (l : Link) (n : ℕ) (bytes : List ℕ) (d : Packet) (a : Arrives w m o l (Some n) bytes d) (r : IsOld (requests_of (machine.end_of m o)) n d.old) where
  abbrev h : LiveEnd w m o l
  h = live_end w m o l (Some n) bytes d a

  abbrev f : End
  f = machine.end_of m o

  abbrev Allowed : List MachineStep → Type 0
  Allowed ss = (ss ≡ []) ⊎ LandsOld m o n ss

  abbrev Named : ArrivalEffect → List MachineStep
  Named t = if is_landed t then old_steps o f n else []

  abbrev Reached : words.EndStep → Type 0
  Reached step = IsTaken w m o Allowed Named step

  nothing : Reached (useless (context_there w o))
  unfolding is_landed
  nothing = nothing_taken w m o l Allowed Named (Some n) bytes d a (inl refl) refl

  -- the atomic acted
  acted_there : request_of f.posted f.mtu n < f.acted
  acted_there = old_acted f.answers f.acted (request_of f.posted f.mtu n) r.value (sound_here w m o l a.stands h).sound.answered r.answer

  below : n < due f
  unfolding due
  below =
      let inside : request_of f.posted f.mtu n < length f.posted = omega (arith, acted_there, (sound_here w m o l a.stands h).sound.acted_posted) in
      omega (arith, r.first, first_mono f.posted f.mtu (suc (request_of f.posted f.mtu n)) f.acted acted_there, first_next f.posted f.mtu (request_of f.posted f.mtu n) inside, one_more (get_or f.posted (request_of f.posted f.mtu n) no_posted))
    where
      one_more : (p : Posted) → 1 ≤ span_of p f.mtu
      one_more p = span_positive p f.mtu

  acts : n ≤ due f
  acts = omega (arith, below)

  module _ (at : n ≡ requester.barrier l.terms l.sender) (top : n < l.sender.top) (x : Piece) (found : piece_at l.sender.untold l.terms.mtu (n - l.sender.first) ≡ Some x) (other : is_read (kind_of x.posted) ≡ false) where
    low : l.sender.una ≤ n
    low = omega (arith, una_barrier w m o l a.stands h a.alive, at)

    within : n ≤ requester.barrier l.terms l.sender
    within = omega (arith, at)

    inside : n < end_number f.posted f.mtu
    inside = omega (arith, top, (ordered_here w m o l a.stands h).top_end)

    abbrev count : ℕ
    count = (learn w m o l a.stands h a.alive n low within acts).count

    abbrev told : ℕ
    told = f.told + count

    abbrev r' : Posted
    r' = posted_at f.posted told

    is_front : request_of f.posted f.mtu n ≡ told
    is_front = front_of w m o l a.stands h a.alive n low within acts inside

    there : told < length f.posted
    there = front_there w m o l a.stands h a.alive n low within acts inside

    is_first : n ≡ first_number f.posted f.mtu told
    is_first = r.first ∙ ap (first_number f.posted f.mtu) is_front

    piece_here : x.posted ≡ r'
    piece_here =
        let p = piece_is f.posted f.mtu n x (found_here w m o l n (Some n) bytes d a at x found low) in
        sym p.1.posted_is ∙ ap (posted_at f.posted) (sym p.1.at ∙ is_front)

    atomic : is_atomic (kind_of r') ≡ true
    atomic = ap (λ z. is_atomic (kind_of z)) (sym piece_here) ∙ lands_atomic (kind_of x.posted) (found_lands w m o l n (Some n) bytes d a at x found) other

    no_read : is_read (kind_of r') ≡ false
    no_read = ap (λ z. is_read (kind_of z)) (sym piece_here) ∙ other

    acted : told < f.acted
    acted = omega (arith, acted_there, is_front)

    answer : slice_get f.answers told ≡ Some (OldValue r.value)
    answer = ap (slice_get f.answers) (sym is_front) ∙ r.answer

    -- ---- the machine

    abbrev ss : List MachineStep
    ss = (heard w m o l a.stands h a.alive n low within acts).steps

    abbrev m' : Machine
    m' = after m ss

    abbrev g : End
    g = end_then w m o l a.stands h a.alive n low within acts

    end_is : machine.end_of m' o ≡ g
    end_is = end_heard w m o l a.stands h a.alive n low within acts

    enabled : may_tell m' o ≡ true
    unfolding may_tell
    enabled =
        ap (λ b. b && (nat_lt (machine.end_of m' o).told (machine.end_of m' o).acted && (not (is_read (kind_of (front (machine.end_of m' o)))) || ((machine.end_of m' o).known == size_of (front (machine.end_of m' o)))))) (untold_then w m o l a.stands h a.alive n low within acts inside)
        ∙ (ap (λ z. nat_lt z.told z.acted && (not (is_read (kind_of (front z))) || (z.known == size_of (front z)))) end_is
        ∙ (ap (λ b. b && (not (is_read (kind_of r')) || (g.known == size_of r'))) (less_tells told f.acted acted)
        ∙ ap (λ b. not b || (g.known == size_of r')) no_read))

    abbrev rs : List Region
    rs = old_regions r' r.value (regions_of m o.context)

    abbrev last : End
    last = gone_end f (f.told + (count + 1)) 0 0 0 f.ended

    entries_are : entries_by f (count + 1) ≡ entries_by f count ++ success g (front g)
    entries_are =
        let k = learn w m o l a.stands h a.alive n low within acts in
        entries_more count f ∙ ap (λ xs. entries_by f count ++ xs) (sym (known_success (told_by f count) k.last) ∙ ap (λ z. success z (front z)) k.is)

    learned : LearnedAt m (tell m' o) o last (entries_by f (count + 1)) rs
    unfolding told_one
    learned =
        let x = heard w m o l a.stands h a.alive n low within acts in
        let stays : Stays m' o = learned_stays m m' o g _ x.learned (name_here w m o l a.stands h) refl (stays_here w m o l a.stands h) in
        let one : LearnedAt m' (tell m' o) o (told_one (machine.end_of m' o)) (success (machine.end_of m' o) (front (machine.end_of m' o))) (old_regions (front (machine.end_of m' o)) r.value (regions_of m' o.context)) =
        learned_old m' o r.value stays (ap (λ z. slice_get z.answers z.told) end_is ∙ answer) in
        let two : LearnedAt m' (tell m' o) o (told_one g) (success g (front g)) (old_regions r' r.value (regions_of m' o.context)) = subst (λ z. LearnedAt m' (tell m' o) o (told_one z) (success z (front z)) (old_regions (front z) r.value (regions_of m' o.context))) end_is one in
        let three : LearnedAt m' (tell m' o) o (told_one g) (success g (front g)) rs = subst (λ z. LearnedAt m' (tell m' o) o (told_one g) (success g (front g)) (old_regions r' r.value z)) (learned_regions m m' o g _ x.learned) two in
        let all : LearnedAt m (tell m' o) o (told_one g) (entries_by f count ++ success g (front g)) rs = learned_at_then m m' (tell m' o) o g (told_one g) _ _ rs (stays_here w m o l a.stands h) x.learned three (name_here w m o l a.stands h) refl in
        let next : suc told ≡ f.told + (count + 1) = omega arith in
        subst (λ k. LearnedAt m (tell m' o) o (gone_end f k 0 0 0 f.ended) (entries_by f (count + 1)) rs) next
        (subst (λ xs. LearnedAt m (tell m' o) o (told_one g) xs rs) (sym entries_are) all)

    allowed : LandsOld m o n (ss ++ steps.Tell o ∷ [])
    allowed = record {
      tells = ss;
      are = refl;
      told = record { only = (heard w m o l a.stands h a.alive n low within acts).only; limited = omega (arith, oldest_then w m o l a.stands h a.alive n low within acts) };
    }

    -- ---- the requester

    abbrev s2 : Sender
    s2 = record l.sender { una = n + 1; spent = 0; waits = 0; next = max l.sender.next (n + 1) }

    advanced_is : advanced l.sender (n + 1) ≡ s2
    unfolding advanced
    advanced_is = let more : l.sender.una < n + 1 = omega (arith, low) in ap (λ b. if b then s2 else l.sender) (less_tells l.sender.una (n + 1) more)

    abbrev us : List Posted
    us = drop f.told f.posted

    begins : first_number f.posted f.mtu (f.told + (count + 1)) ≡ n + 1
    begins =
        let next : f.told + (count + 1) ≡ suc told = omega arith in
        ap (first_number f.posted f.mtu) next ∙ omega (arith, first_next f.posted f.mtu told there, atomic_span r' f.mtu atomic, is_first)

    first_is : l.sender.first ≡ first_number f.posted f.mtu f.told
    first_is = (sends_here w m o l a.stands h a.alive).first

    in_us : n + 1 - l.sender.first ≡ first_number us f.mtu (count + 1)
    in_us =
        let back : (f.told + (count + 1)) - f.told ≡ count + 1 = omega arith in
        omega (arith, first-drop f.posted f.mtu f.told (f.told + (count + 1)) (omega arith), ap (first_number us f.mtu) back, begins, first_is)

    counts : told_count l.terms s2 ≡ count + 1
    counts =
        ap (λ zs. request_of zs l.terms.mtu (n + 1 - l.sender.first)) (untold_here w m o l a.stands h)
        ∙ (ap (λ j. request_of us j (n + 1 - l.sender.first)) (mtu_is w m o l a.stands h)
        ∙ (ap (request_of us f.mtu) in_us ∙ request_begins us f.mtu (count + 1) (omega (arith, there, length-drop f.told f.posted))))

    advances : Advances w m o l a.stands h s2 (count + 1)
    advances = record { untold = refl; top = refl; counts = counts }

    knows : MayKnow f (f.told + (count + 1)) 0
    knows = record {
      more = omega arith;
      acted = omega (arith, acted);
      there = λ k. omega arith;
      within = omega arith;
      unlanded = λ k j. refl;
      whole = λ k. refl;
    }

    first_then : (after_telling l.terms s2).first ≡ n + 1
    unfolding after_telling
    first_then =
        let back : (f.told + (count + 1)) - f.told ≡ count + 1 = omega arith in
        ap (λ j. l.sender.first + first_number l.sender.untold l.terms.mtu j) counts
        ∙ (ap (λ j. j + first_number l.sender.untold l.terms.mtu (count + 1)) first_is
        ∙ (ap (λ zs. first_number f.posted f.mtu f.told + first_number zs l.terms.mtu (count + 1)) (untold_here w m o l a.stands h)
        ∙ (ap (λ j. first_number f.posted f.mtu f.told + first_number us j (count + 1)) (mtu_is w m o l a.stands h)
        ∙ (ap (λ j. first_number f.posted f.mtu f.told + first_number us f.mtu j) (sym back)
        ∙ (first-drop f.posted f.mtu f.told (f.told + (count + 1)) (omega arith) ∙ begins)))))

    fence_then : IsFencedIn (after_telling l.terms s2) (requests_of last)
    unfolding after_telling
    fence_then i inside' fence lands' = by_test (lands_untold_before f i) refl
      where
        by_test : (b : Bool) → lands_untold_before f i ≡ b → l.sender.top ≤ first_number f.posted f.mtu i
        by_test true t = fenced_here w m o l a.stands h a.alive i inside' fence t
        by_test false t = absurd (cc (lands', lands_later f (f.told + (count + 1)) 0 0 0 f.ended i (omega arith) t))

    on : Goes_on (after_telling l.terms s2) (requests_of last)
    unfolding after_telling oldest due
    on =
        let u = ordered_here w m o l a.stands h in
        record {
          sends = record { first = first_then ∙ sym begins; una = omega (arith, begins, zero-div f.mtu); spent = refl; few = omega arith; waits = λ k. (refl, omega arith) };
          ordered = record {
            una_next = omega arith;
            next_top = omega (arith, u.next_top, top);
            top_end = u.top_end;
            due_top = u.due_top;
            reach = u.reach;
            limit = u.limit;
          };
          fenced = fence_then;
          telling = (zero-mod f.mtu, inl refl);
        }

    -- ---- the memory

    size_is : size_of r' ≡ 8
    size_is = ((joined_here w m o l a.stands h).in_pieces.sayable told no_posted there).word atomic

    granted_there : is_granted local_key (regions_of m o.context) f.domain r'.request.lkey r'.request.local (size_of r') (landing_right (kind_of r')) ≡ true
    unfolding untold
    granted_there =
        subst (λ z. is_granted local_key (regions_of m o.context) f.domain z.request.lkey z.request.local (size_of z) (landing_right (kind_of z)) ≡ true) (get_or-drop f.told f.posted count no_posted)
        ((sound_here w m o l a.stands h).requests count no_posted (omega (arith, there, length-drop f.told f.posted)))

    landing_put : landing (context_there w o) l d x ≡ record (context_there w o) { regions = rs }
    landing_put =
        let none : r'.request.local ≡ r'.request.local + 0 = omega arith in
        let fits : 0 + length (word_bytes r.value) ≤ size_of r' = omega (arith, word_length r.value, size_is) in
        ap (λ b. if b then landed (context_there w o) x.posted.request.lkey (x.posted.request.local + x.k * l.terms.mtu) d.payload else landed (context_there w o) x.posted.request.lkey x.posted.request.local (old_bytes d.old)) other
        ∙ (ap (λ z. landed (context_there w o) z.request.lkey z.request.local (old_bytes d.old)) piece_here
        ∙ (ap (λ z. landed (context_there w o) r'.request.lkey r'.request.local (old_bytes z)) r.says
        ∙ (ap (λ k. landed (context_there w o) r'.request.lkey k (word_bytes r.value)) none
        ∙ (landed_put (context_there w o) (regions_of m o.context) f.domain r'.request.lkey r'.request.local (size_of r') 0 (landing_right (kind_of r')) (word_bytes r.value) (live_same w m o.context a.stands h.live).regions (a.stands.sound o.context).keyed_once granted_there fits
        ∙ ap (λ k. record (context_there w o) { regions = put_at local_key r'.request.lkey k (word_bytes r.value) (regions_of m o.context) }) (sym none)))))

    landed_named : ss ≡ learning o f n → ss ++ steps.Tell o ∷ [] ≡ Named took.Landed
    unfolding is_landed old_steps
    landed_named are = ap (λ z. z ++ steps.Tell o ∷ []) are

    lands_it : Reached (words.stays (telling (landing (context_there w o) l d x) (end_there w o) l (advanced l.sender (n + 1))) took.Landed)
    lands_it =
        let k = heard w m o l a.stands h a.alive n low within acts in
        let sound = a.stands.sound o.context in
        subst (λ z. Reached (words.stays (telling z (end_there w o) l (advanced l.sender (n + 1))) took.Landed)) (sym landing_put)
        (subst (λ z. Reached (words.stays (telling (record (context_there w o) { regions = rs }) (end_there w o) l z) took.Landed)) (sym advanced_is) (record {
          steps = ss ++ steps.Tell o ∷ [];
          inner = inner_then ss (steps.Tell o ∷ []) k.inner tt;
          is_run = run_then ss (steps.Tell o ∷ []) m k.is_run (enabled, tt);
          allowed = inr allowed;
          named = landed_named k.are;
          stands = subst (Stands _) (sym (after_then ss (steps.Tell o ∷ []) m))
              (landing_stands w m o l a.stands h rs (put_like local_key r'.request.lkey r'.request.local (word_bytes r.value) (regions_of m o.context)) (put_whole local_key r'.request.lkey r'.request.local (word_bytes r.value) (regions_of m o.context) sound.whole) (put_said local_key r'.request.lkey r'.request.local (word_bytes r.value) (regions_of m o.context) (word_said r.value) sound.bytes)
              s2 (count + 1) 0 0 0 (tell m' o) a.alive advances knows learned on (took_answer took.Landed []));
        }))

  -- ---- the table

  by_kind : d.opcode ≡ 0x12 → n ≡ requester.barrier l.terms l.sender → n < l.sender.top → (x : Piece) → piece_at l.sender.untold l.terms.mtu (n - l.sender.first) ≡ Some x → (b : Bool) → is_read (kind_of x.posted) ≡ b →
      Reached (if is_this_piece l d x then words.stays (telling (landing (context_there w o) l d x) (end_there w o) l (advanced l.sender (n + 1))) took.Landed else useless (context_there w o))
  by_kind opcode at top x found true t =
      let other : is_this_piece l d x ≡ false = ap (λ z. if z then (is_read_response d.opcode && (length d.payload == piece_length x.posted.request.shape.length x.k l.terms.mtu)) else d.opcode == 0x12) t ∙ ap (λ k. is_read_response k && (length d.payload == piece_length x.posted.request.shape.length x.k l.terms.mtu)) opcode in
      subst (λ z. Reached (if z then words.stays (telling (landing (context_there w o) l d x) (end_there w o) l (advanced l.sender (n + 1))) took.Landed else useless (context_there w o))) (sym other) nothing
  by_kind opcode at top x found false t =
      let this : is_this_piece l d x ≡ true = ap (λ z. if z then (is_read_response d.opcode && (length d.payload == piece_length x.posted.request.shape.length x.k l.terms.mtu)) else d.opcode == 0x12) t ∙ ap (λ k. k == 0x12) opcode in
      subst (λ z. Reached (if z then words.stays (telling (landing (context_there w o) l d x) (end_there w o) l (advanced l.sender (n + 1))) took.Landed else useless (context_there w o))) (sym this) (lands_it at top x found t)

  by_found : d.opcode ≡ 0x12 → n ≡ requester.barrier l.terms l.sender → n < l.sender.top → (p : Option Piece) → piece_at l.sender.untold l.terms.mtu (n - l.sender.first) ≡ p → Reached (takes_piece (context_there w o) (end_there w o) l d n p)
  unfolding takes_piece
  by_found opcode at top None found = nothing
  by_found opcode at top (Some x) found = by_kind opcode at top x found (is_read (kind_of x.posted)) refl

  by_barrier : d.opcode ≡ 0x12 → (p q : Bool) → (n == requester.barrier l.terms l.sender) ≡ p → nat_lt n l.sender.top ≡ q → Reached (if p && q then takes_piece (context_there w o) (end_there w o) l d n (piece_at l.sender.untold l.terms.mtu (n - l.sender.first)) else useless (context_there w o))
  by_barrier opcode true true t u = by_found opcode (eq_same n _ t) (grind (arith, nat_tests, leb_tells (suc n) l.sender.top, u)) (piece_at l.sender.untold l.terms.mtu (n - l.sender.first)) refl
  by_barrier opcode true false t u = nothing
  by_barrier opcode false q t u = nothing

  reached : d.opcode ≡ 0x12 → Reached (takes_landing (context_there w o) (end_there w o) l d n)
  unfolding takes_landing
  reached opcode = by_barrier opcode (n == requester.barrier l.terms l.sender) (nat_lt n l.sender.top) refl refl

-- ---- any number

same_layout : {A : Type 0} (a b : A) → Some a ≡ Some b → a ≡ b
same_layout a b h = cc

atomic_control : (d : Packet) (bytes : List ℕ) → packet_of bytes ≡ Some d → d.opcode ≡ 0x12 → control_of d ≡ None
unfolding layout_of
atomic_control d bytes read opcode =
    let s = read_spelled d bytes read in
    landing_control d bytes s (ap (λ k. k == 0x11) opcode) (ap (λ x. has_resume x.headers) (same_layout s.layout _ (sym s.known ∙ ap layout_of opcode)))

no_request : (k : ℕ) → k ≡ 0x12 → is_request k ≡ false
unfolding is_request
no_request k h = ap is_request h

by_number : (w : World) (m : Machine) (o : ObjName) (l : Link) (number : Option ℕ) (bytes : List ℕ) (d : Packet) → Arrives w m o l number bytes d → class_of d ≡ IsAtomicResponse → d.opcode ≡ 0x12 →
    ClassFact (side_of w o) (side_of w (machine.end_of m o).peer) (requests_of (machine.end_of m o)) (requests_of (machine.end_of m (machine.end_of m o).peer)) number d → Takes w m o l number d
by_number w m o l None bytes d a is opcode fact = absurd (subst (MoveFact (side_of w (machine.end_of m o).peer)) is fact)
by_number w m o l (Some n) bytes d a is opcode fact =
    let says = subst (NumberedFact (side_of w o) (side_of w (machine.end_of m o).peer) (requests_of (machine.end_of m o)) (requests_of (machine.end_of m (machine.end_of m o).peer)) n d) is fact in
    taken_takes w m o l n d IsAtomicResponse _ is
    (landing_is w m o l n bytes d a says.0 (acts w m o l n bytes d a says.1) (no_request d.opcode opcode) (ap (λ k. is_read_response k || k == 0x12) opcode) (atomic_control d bytes a.read opcode))
    (reached w m o l n bytes d a says.1 opcode)

pub atomic_responses_taken : AtomicResponsesAreTaken
atomic_responses_taken w m o l number bytes d a is = by_number w m o l number bytes d a is (opcode_is d is) a.fact.fact
