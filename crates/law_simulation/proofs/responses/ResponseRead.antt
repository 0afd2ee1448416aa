-- A READ response arrives at a live end in Rts: at the barrier its bytes land, and after its last piece the Read is told.
use Rattle.std.proofs.Common.{arith, ◌≡◌, ◌≢◌, ◌≤◌, ◌<◌, ◌+◌, ◌-◌, ◌*◌, ◌/◌, ℕ, suc, List, [], ◌∷◌, ◌++◌, length, true, false, Bool, refl, sym, ap, ◌∙◌, subst, inl, inr}
use Rattle.std.specs.Prelude.{Option, Some, None, All, Contains, bytes_eq, min, not, max, drop, nat_lt, nat_le, slice_get, ◌⊎◌, ◌==◌, ◌&&◌, ◌||◌, if◌then◌else◌}
use Rattle.std.proofs.Math.Nat.{zero-mod, zero-div}
use Rattle.std.proofs.lemmas.Bool.Decides.{nat_tests, leb_tells, eqb_tells}
use Rattle.std.proofs.lemmas.List.Elements.{All-contains}
use Rattle.std.proofs.lemmas.List.{append-nil, get_or-drop, length-drop}
use Rattle.std.proofs.lemmas.Slice.Eq.{bytes_eq-Decides}
use Rattle.rdma_types.specs.declared.names.ObjName.{ObjName}
use Rattle.rdma_types.specs.declared.answers.ArrivalEffect.{ArrivalEffect}
use Rattle.rdma_types.specs.declared.answers.ArrivalEffect.TheVariants as took
use Rattle.rdma_types.specs.declared.requests.Kind.{Kind}
use Rattle.rdma_types.specs.declared.requests.Kind.TheVariants.{Write, Send, Read, CompareSwap, FetchAdd}
use Rattle.rdma_types.specs.Limits.{is_mtu}
use Rattle.rdma_types.specs.Kinds.{is_atomic, is_read, kind_of, lands, size_of}
use Rattle.rdma_types.specs.Memory.{is_granted, landing_right, local_key}
use Rattle.rdma_types.specs.Objects.{Posted, Region, no_posted}
use Rattle.rdma_types.specs.Spans.{Piece, end_number, first_number, piece_at, piece_length, piece_of, pieces, request_of, span, span_of}
use Rattle.protocol.specs.declared.wire.Aeth.{Aeth}
use Rattle.protocol.specs.declared.wire.ResumeBody.{ResumeBody}
use Rattle.protocol.specs.declared.wire.Syndrome.{Syndrome}
use Rattle.protocol.specs.declared.wire.Syndrome.TheVariants.{Ack, Rnr, Nak}
use Rattle.protocol.specs.EndWords as words
use Rattle.protocol.specs.Memory as memory
use Rattle.protocol.specs.Moves.{control_of}
use Rattle.protocol.specs.Requester as requester
use Rattle.protocol.specs.Requester.{advanced, after_telling, is_this_piece, landing, old_bytes, takes_landing, takes_piece, telling, told_count, useless}
use Rattle.protocol.specs.State.{World, Link, Sender}
use Rattle.protocol.specs.Wire.{Packet, packet_of, is_read_response, is_request, has_resume, layout_of}
use Rattle.protocol.specs.DeviceStep.{took_answer}
use Rattle.protocol.proofs.PacketGrammar.{read_spelled}
use Rattle.packetless_machine.specs.Sound.{IsReplyTo}
use Rattle.packetless_machine.specs.declared.reply.Reply.{Reply}
use Rattle.packetless_machine.specs.declared.reply.Reply.TheVariants.{Finished, OldValue, Denied}
use Rattle.packetless_machine.specs.declared.steps.MachineStep.{MachineStep}
use Rattle.packetless_machine.specs.declared.steps.MachineStep.TheVariants as steps
use Rattle.packetless_machine.specs.Legal.{IsRun, after}
use Rattle.packetless_machine.specs.Machine as machine
use Rattle.packetless_machine.specs.Machine.{Machine, End, Offered, posted_at, put_at, regions_of}
use Rattle.packetless_machine.specs.Tables.{place_where}
use Rattle.packetless_machine.specs.Numbers.{due, oldest}
use Rattle.packetless_machine.specs.Steps.{front, has_untold, landed, may_land, may_land_offer, may_tell, success, tell, told_one, untold, with_known}
use Rattle.law_simulation.specs.Carries.{Lands, land_steps, tell_steps}
use Rattle.law_simulation.specs.Facts.{ClassFact, IsOffered, MoveFact, NumberedFact}
use Rattle.law_simulation.specs.Joined.{AreWholePieces, IsFencedIn, lands_untold_before}
use Rattle.law_simulation.specs.Named.{is_landed, is_offer, learning, offer_place, read_steps}
use Rattle.law_simulation.specs.Packets.{class_of, aeth_class, nak_class, resume_class, syndrome_class, IsRequest, IsReadResponse, IsAtomicResponse, IsSequenceNak, IsRefusal, IsStopped, IsNothing, IsResume, IsResumeAck}
use Rattle.law_simulation.specs.Stands.{Stands}
use Rattle.law_simulation.specs.Views.{requests_of, side_of}
use Rattle.law_simulation.proofs.relation.Live.{live_same}
use Rattle.law_simulation.specs.Delivered.{AreInner, Arrives, Takes, ReadResponsesAreTaken, context_there, end_there}
use Rattle.law_simulation.proofs.sending.GoEnd.{Goes_on, gone_end, lands_later}
use Rattle.law_simulation.proofs.sending.GoLive.{LiveEnd, connected_here, ended_here, fenced_here, joined_here, name_here, ordered_here, sends_here, sound_here, untold_here}
use Rattle.law_simulation.proofs.sending.GoLive as live
use Rattle.law_simulation.proofs.sending.GoNumbers.{first_mono, mtu_is, mtu_positive}
use Rattle.law_simulation.proofs.sending.GoPieces.{first-drop, piece_is}
use Rattle.law_simulation.proofs.sending.GoSound.{MayKnow}
use Rattle.law_simulation.proofs.responses.ResponseAdvance.{end_heard, end_then, heard, learn, mtu_here, oldest_then}
use Rattle.law_simulation.proofs.responses.ResponseArrives.{live_end}
use Rattle.law_simulation.proofs.responses.ResponseFound.{found_here, landing_control, landing_is}
use Rattle.law_simulation.proofs.responses.ResponseGoals.{IsTaken, nothing_taken, taken_takes, una_barrier}
use Rattle.law_simulation.proofs.responses.ResponseLand.{at_end, at_stays, at_then, landed_regions, learned_landed, learned_same, piece_found, whole_is}
use Rattle.law_simulation.proofs.responses.ResponseLanding.{LearnedAt, entries_more, landing_stands}
use Rattle.law_simulation.proofs.responses.ResponseLast.{after_then, front_of, front_there, inner_then, run_then, untold_then}
use Rattle.law_simulation.proofs.responses.ResponseLearns.{first_next}
use Rattle.law_simulation.proofs.responses.ResponseNumbers.{bytes_inside, pieces_back, request_inside, request_begins, request_high, whole_bytes}
use Rattle.law_simulation.proofs.responses.ResponseOld.{learned_at_then, learned_regions}
use Rattle.law_simulation.proofs.responses.ResponseRegions.{landed_put}
use Rattle.law_simulation.proofs.relation.Grants.{contains_cases}
use Rattle.law_simulation.proofs.relation.Tables.{same_name}
use Rattle.law_simulation.proofs.delivery.Arriving.{and_parts}
use Rattle.law_simulation.proofs.delivery.Regions.{put_like, put_nothing, put_said, put_whole}
use Rattle.law_simulation.proofs.responses.ResponseTelling.{Advances, stays_here}
use Rattle.law_simulation.proofs.responses.ResponseTold.{Learned, Stays, entries_by, known_by, learned_none, learned_stays, learned_told, told_by, untold_there}

eq_same : (a b : ℕ) → (a == b) ≡ true → a ≡ b
eq_same a b h = elim (eqb_tells a b) [ inl t ↦ t.1 | inr t ↦ absurd (cc (t.0, h)) ]

same_eq : (a b : ℕ) → a ≡ b → (a == b) ≡ true
same_eq a b h = elim (eqb_tells a b) [ inl t ↦ t.0 | inr t ↦ absurd (t.1 h) ]

eq_other : (a b : ℕ) → (a == b) ≡ false → a ≢ b
eq_other a b h e = elim (eqb_tells a b) [ inl t ↦ cc (t.0, h) | inr t ↦ t.1 e ]

less_tells : (a b : ℕ) → a < b → nat_lt a b ≡ true
less_tells a b h = grind (arith, nat_tests, leb_tells (suc a) b)

most_tells : (a b : ℕ) → a ≤ b → nat_le a b ≡ true
most_tells a b h = grind (arith, nat_tests, leb_tells a b)

known_success : (e : End) (last : Option ℕ) → success (known_by e last) (front (known_by e last)) ≡ success e (front e)
unfolding known_by success with_known
known_success e None = refl
known_success e (Some bytes) = refl

read_atomic_no : (k : Kind) → is_read k ≡ true → is_atomic k ≡ false
read_atomic_no Write h = refl
read_atomic_no Send h = refl
read_atomic_no Read h = refl
read_atomic_no CompareSwap h = absurd (cc)
read_atomic_no FetchAdd h = absurd (cc)

read_lands : (k : Kind) → is_read k ≡ true → lands k ≡ true
read_lands Write h = absurd (cc)
read_lands Send h = absurd (cc)
read_lands Read h = refl
read_lands CompareSwap h = absurd (cc)
read_lands FetchAdd h = absurd (cc)

finished : (p : Posted) (b : Option Reply) → is_atomic (kind_of p) ≡ false → IsReplyTo p b → b ≡ Some Finished
finished p None h t = absurd t
finished p (Some Finished) h t = refl
finished p (Some (OldValue value)) h t = absurd (cc (h, t))
finished p (Some (Denied why)) h t = absurd t

same_words : (xs ys : List ℕ) → bytes_eq xs ys ≡ true → xs ≡ ys
same_words xs ys h = (bytes_eq-Decides xs ys).0 h

-- an offer, and the test for it
abbrev offer_of : ℕ → ℕ → List ℕ → Offered
offer_of request offset bytes = record { request = request; offset = offset; bytes = bytes }

fits_itself : (request offset : ℕ) (bytes : List ℕ) → is_offer request offset bytes (offer_of request offset bytes) ≡ true
fits_itself request offset bytes =
    ap (λ b. b && ((offset == offset) && bytes_eq bytes bytes)) (same_eq request request refl) ∙ (ap (λ b. b && bytes_eq bytes bytes) (same_eq offset offset refl) ∙ same_name bytes)

fits_it : (request offset : ℕ) (bytes : List ℕ) (x : Offered) → is_offer request offset bytes x ≡ true → x ≡ offer_of request offset bytes
fits_it request offset bytes x t =
    let one = and_parts (x.request == request) ((x.offset == offset) && bytes_eq x.bytes bytes) t in
    let two = and_parts (x.offset == offset) (bytes_eq x.bytes bytes) one.1 in
    λ i. record { request = eq_same x.request request one.0 i; offset = eq_same x.offset offset two.0 i; bytes = same_words x.bytes bytes two.1 i }

-- the first offer that fits is there, where one is
offer_found : (request offset : ℕ) (bytes : List ℕ) (xs : List Offered) → Contains xs (offer_of request offset bytes) → slice_get xs (place_where (is_offer request offset bytes) xs) ≡ Some (offer_of request offset bytes)
unfolding place_where
offer_found request offset bytes [] h = absurd (omega (arith, h.1))
offer_found request offset bytes (x ∷ xs) h = by_test (is_offer request offset bytes x) refl (λ later. offer_found request offset bytes xs later)
  where
    by_test : (b : Bool) → is_offer request offset bytes x ≡ b → (Contains xs (offer_of request offset bytes) → slice_get xs (place_where (is_offer request offset bytes) xs) ≡ Some (offer_of request offset bytes)) → slice_get (x ∷ xs) (if b then 0 else suc (place_where (is_offer request offset bytes) xs)) ≡ Some (offer_of request offset bytes)
    by_test true t rest = ap Some (fits_it request offset bytes x t)
    by_test false t rest = elim (contains_cases (offer_of request offset bytes) x xs h) [
      | inl e ↦ absurd (cc (t, ap (is_offer request offset bytes) e, fits_itself request offset bytes))
      | inr later ↦ rest later
    ]

-- the last piece ends where the request does, and any other is a whole one before that
last_piece : (size mtu k : ℕ) → is_mtu mtu ≡ true → suc k ≡ max 1 ((size + (mtu - 1)) / mtu) → k * mtu + min mtu (size - k * mtu) ≡ size
last_piece size mtu k h e = mtu_is (λ m. suc k ≡ max 1 ((size + (m - 1)) / m) → k * m + min m (size - k * m) ≡ size) (λ t. omega (arith, t)) (λ t. omega (arith, t)) (λ t. omega (arith, t)) (λ t. omega (arith, t)) (λ t. omega (arith, t)) mtu h e

inner_piece : (size mtu k : ℕ) → is_mtu mtu ≡ true → suc k < max 1 ((size + (mtu - 1)) / mtu) → (min mtu (size - k * mtu) ≡ mtu) × (k * mtu + mtu ≡ suc k * mtu)
inner_piece size mtu k h l = mtu_is (λ m. suc k < max 1 ((size + (m - 1)) / m) → (min m (size - k * m) ≡ m) × (k * m + m ≡ suc k * m)) (λ t. (omega (arith, t), omega arith)) (λ t. (omega (arith, t), omega arith)) (λ t. (omega (arith, t), omega arith)) (λ t. (omega (arith, t), omega arith)) (λ t. (omega (arith, t), omega arith)) mtu h l

read_span : (p : Posted) (mtu : ℕ) → is_read (kind_of p) ≡ true → span_of p mtu ≡ max 1 ((size_of p + (mtu - 1)) / mtu)
unfolding span pieces
read_span p mtu h = ap (λ b. if b then 1 else max 1 ((size_of p + (mtu - 1)) / mtu)) (read_atomic_no (kind_of p) h)

module _ (w : World) (m : Machine) (o : ObjName) (l : Link) (n : ℕ) (bytes : List ℕ) (d : Packet) (a : Arrives w m o l (Some n) bytes d) (r : IsOffered (requests_of (machine.end_of m o)) n d.payload) where
  abbrev h : LiveEnd w m o l
  h = live_end w m o l (Some n) bytes d a

  abbrev f : End
  f = machine.end_of m o

  abbrev Allowed : List MachineStep → Type 0
  Allowed ss = (ss ≡ []) ⊎ Lands m o n d.payload ss

  abbrev Named : ArrivalEffect → List MachineStep
  Named t = if is_landed t then read_steps o f n d.payload else []

  abbrev Reached : words.EndStep → Type 0
  Reached step = IsTaken w m o Allowed Named step

  nothing : Reached (useless (context_there w o))
  unfolding is_landed
  nothing = nothing_taken w m o l Allowed Named (Some n) bytes d a (inl refl) refl

  below : n < due f
  unfolding due
  below =
      let inside : request_of f.posted f.mtu n < length f.posted = omega (arith, r.acted, (sound_here w m o l a.stands h).sound.acted_posted) in
      omega (arith, request_high f.posted f.mtu n inside, first_mono f.posted f.mtu (suc (request_of f.posted f.mtu n)) f.acted r.acted)

  acts : n ≤ due f
  acts = omega (arith, below)

  module _ (at : n ≡ requester.barrier l.terms l.sender) (top : n < l.sender.top) (x : Piece) (found : piece_at l.sender.untold l.terms.mtu (n - l.sender.first) ≡ Some x) (mine : is_read (kind_of x.posted) ≡ true) (fits : (length d.payload == piece_length x.posted.request.shape.length x.k l.terms.mtu) ≡ true) where
    low : l.sender.una ≤ n
    low = omega (arith, una_barrier w m o l a.stands h a.alive, at)

    within : n ≤ requester.barrier l.terms l.sender
    within = omega (arith, at)

    inside : n < end_number f.posted f.mtu
    inside = omega (arith, top, (ordered_here w m o l a.stands h).top_end)

    mtu : is_mtu f.mtu ≡ true
    mtu = mtu_here w m o l a.stands h a.alive

    abbrev count : ℕ
    count = (learn w m o l a.stands h a.alive n low within acts).count

    abbrev told : ℕ
    told = f.told + count

    abbrev r' : Posted
    r' = posted_at f.posted told

    is_front : request_of f.posted f.mtu n ≡ told
    is_front = front_of w m o l a.stands h a.alive n low within acts inside

    there : told < length f.posted
    there = front_there w m o l a.stands h a.alive n low within acts inside

    found_all : piece_at f.posted f.mtu n ≡ Some x
    found_all = found_here w m o l n (Some n) bytes d a at x found low

    piece_here : x.posted ≡ r'
    piece_here =
        let p = piece_is f.posted f.mtu n x found_all in
        sym p.1.posted_is ∙ ap (posted_at f.posted) (sym p.1.at ∙ is_front)

    place_is : n ≡ first_number f.posted f.mtu told + x.k
    place_is = let p = piece_is f.posted f.mtu n x found_all in omega (arith, p.1.first, ap (first_number f.posted f.mtu) (sym p.1.at ∙ is_front))

    in_span : x.k < span_of r' f.mtu
    in_span = let p = piece_is f.posted f.mtu n x found_all in omega (arith, p.1.within, ap (λ z. span_of z f.mtu) piece_here)

    reads : is_read (kind_of r') ≡ true
    reads = ap (λ z. is_read (kind_of z)) (sym piece_here) ∙ mine

    acted : told < f.acted
    acted = omega (arith, r.acted, is_front)

    -- ---- the machine before the bytes land

    abbrev ss : List MachineStep
    ss = (heard w m o l a.stands h a.alive n low within acts).steps

    abbrev m' : Machine
    m' = after m ss

    abbrev g : End
    g = end_then w m o l a.stands h a.alive n low within acts

    end_is : machine.end_of m' o ≡ g
    end_is = end_heard w m o l a.stands h a.alive n low within acts

    stays : Stays m' o
    stays = learned_stays m m' o g _ (heard w m o l a.stands h a.alive n low within acts).learned (name_here w m o l a.stands h) refl (stays_here w m o l a.stands h)

    known_is : g.known ≡ x.k * f.mtu
    known_is =
        let k = learn w m o l a.stands h a.alive n low within acts in
        whole_is f.mtu k.known x.k mtu k.telling.0 (omega (arith, k.oldest_is, place_is))

    known_size : g.known ≤ size_of r'
    known_size = (learn w m o l a.stands h a.alive n low within acts).knows.within

    length_is : length d.payload ≡ min f.mtu (size_of r' - x.k * f.mtu)
    length_is =
        eq_same _ _ fits
        ∙ (ap (λ z. min l.terms.mtu (size_of z - x.k * l.terms.mtu)) piece_here ∙ ap (λ j. min j (size_of r' - x.k * j)) (live.mtu_is w m o l a.stands h))

    length_fits : g.known + length d.payload ≤ size_of r'
    length_fits = omega (arith, length_is, known_is, known_size)

    -- ---- the offer

    abbrev place : ℕ
    place = offer_place f n d.payload

    offer_at : slice_get f.offers place ≡ Some (record { request = request_of f.posted f.mtu n; offset = piece_of f.posted f.mtu n * f.mtu; bytes = d.payload })
    unfolding offer_place
    offer_at = offer_found _ _ d.payload f.offers r.offer

    piece_k : piece_of f.posted f.mtu n ≡ x.k
    piece_k = piece_found f.posted f.mtu n x found_all

    -- ---- the bytes land

    abbrev rs : List Region
    rs = landed_regions r' g.known d.payload (regions_of m o.context)

    -- the machine then
    record Landed (bs : List ℕ) : Type 0 where
      spent : ℕ
      waits : ℕ
      is_run : IsRun m' (land_steps o place bs)
      inner : AreInner (land_steps o place bs)
      learned : LearnedAt m' (after m' (land_steps o place bs)) o (gone_end f told (g.known + length bs) spent waits f.ended) [] (landed_regions r' g.known bs (regions_of m o.context))
      fresh : 1 ≤ length bs → (spent ≡ 0) × (waits ≡ 0)

    regions_before : regions_of m' o.context ≡ regions_of m o.context
    regions_before = learned_regions m m' o g _ (heard w m o l a.stands h a.alive n low within acts).learned

    by_bytes : (bs : List ℕ) → slice_get f.offers place ≡ Some (record { request = request_of f.posted f.mtu n; offset = piece_of f.posted f.mtu n * f.mtu; bytes = bs }) → Landed bs
    unfolding land_steps with_known may_land may_land_offer
    by_bytes [] is =
        let none : g.known ≡ g.known + 0 = omega arith in
        record {
          spent = g.spent;
          waits = g.waits;
          is_run = tt;
          inner = tt;
          learned =
              subst (λ k. LearnedAt m' m' o (gone_end f told k g.spent g.waits f.ended) [] (landed_regions r' g.known [] (regions_of m o.context))) none
              (subst (LearnedAt m' m' o g []) (regions_before ∙ sym (put_nothing local_key r'.request.lkey (r'.request.local + g.known) (regions_of m o.context)))
              (subst (λ z. LearnedAt m' m' o z [] (regions_of m' o.context)) end_is (learned_same m' m' o (machine.end_of m' o) [] (learned_none m' o stays))));
          fresh = λ k. absurd (omega (arith, k));
        }
    by_bytes (b ∷ bs) is =
        let z : Offered = record { request = request_of f.posted f.mtu n; offset = piece_of f.posted f.mtu n * f.mtu; bytes = b ∷ bs } in
        let offer : slice_get (machine.end_of m' o).offers place ≡ Some z = ap (λ u. slice_get u.offers place) end_is ∙ is in
        let untold' = untold_then w m o l a.stands h a.alive n low within acts inside in
        let request : (request_of f.posted f.mtu n == told) ≡ true = same_eq _ _ is_front in
        let offset : (piece_of f.posted f.mtu n * f.mtu == g.known) ≡ true = same_eq _ _ (ap (λ k. k * f.mtu) piece_k ∙ sym known_is) in
        let enabled : may_land m' o place ≡ true =
        ap (λ u. u && may_land_offer (machine.end_of m' o) (slice_get (machine.end_of m' o).offers place)) untold'
        ∙ (ap (may_land_offer (machine.end_of m' o)) offer
        ∙ (ap (λ u. nat_le 1 (length (b ∷ bs)) && ((request_of f.posted f.mtu n == u.told) && (piece_of f.posted f.mtu n * f.mtu == u.known))) end_is
        ∙ (ap (λ u. u && ((request_of f.posted f.mtu n == told) && (piece_of f.posted f.mtu n * f.mtu == g.known))) (most_tells 1 (length (b ∷ bs)) (omega arith))
        ∙ (ap (λ u. u && (piece_of f.posted f.mtu n * f.mtu == g.known)) request ∙ offset)))) in
        record {
          spent = 0;
          waits = 0;
          is_run = (enabled, tt);
          inner = tt;
          learned =
              subst (λ q. LearnedAt m' (landed m' o place) o (gone_end f told (g.known + length (b ∷ bs)) 0 0 f.ended) [] (landed_regions r' g.known (b ∷ bs) q)) regions_before
              (subst (λ u. LearnedAt m' (landed m' o place) o (with_known u (u.known + length (b ∷ bs))) [] (landed_regions (front u) u.known (b ∷ bs) (regions_of m' o.context))) end_is (learned_landed m' o place z stays offer));
          fresh = λ k. (refl, refl);
        }

    landed_there : Landed d.payload
    landed_there = by_bytes d.payload offer_at

    abbrev m2 : Machine
    m2 = after m' (land_steps o place d.payload)

    abbrev g1 : End
    g1 = gone_end f told (g.known + length d.payload) landed_there.spent landed_there.waits f.ended

    -- .. from the beginning
    so_far : LearnedAt m m2 o g1 (entries_by f count) rs
    so_far = subst (λ xs. LearnedAt m m2 o g1 xs rs) (append-nil _)
        (learned_at_then m m' m2 o g g1 (entries_by f count) [] rs (stays_here w m o l a.stands h) (heard w m o l a.stands h a.alive n low within acts).learned landed_there.learned (name_here w m o l a.stands h) refl)

    stays2 : Stays m2 o
    stays2 = at_stays m m2 o g1 _ rs so_far (name_here w m o l a.stands h) refl (stays_here w m o l a.stands h)

    end2 : machine.end_of m2 o ≡ g1
    end2 = at_end m m2 o g1 _ rs so_far (name_here w m o l a.stands h)

    -- ---- the requester

    abbrev s2 : Sender
    s2 = record l.sender { una = n + 1; spent = 0; waits = 0; next = max l.sender.next (n + 1) }

    advanced_is : advanced l.sender (n + 1) ≡ s2
    unfolding advanced
    advanced_is = let more : l.sender.una < n + 1 = omega (arith, low) in ap (λ b. if b then s2 else l.sender) (less_tells l.sender.una (n + 1) more)

    abbrev us : List Posted
    us = drop f.told f.posted

    first_is : l.sender.first ≡ first_number f.posted f.mtu f.told
    first_is = (sends_here w m o l a.stands h a.alive).first

    counted_by : (j : ℕ) → request_of us f.mtu (n + 1 - l.sender.first) ≡ j → told_count l.terms s2 ≡ j
    counted_by j is =
        ap (λ zs. request_of zs l.terms.mtu (n + 1 - l.sender.first)) (untold_here w m o l a.stands h)
        ∙ (ap (λ i. request_of us i (n + 1 - l.sender.first)) (live.mtu_is w m o l a.stands h) ∙ is)

    -- ---- the memory

    payload_said : All (λ b. b < 256) d.payload
    payload_said = All-contains (λ z. All (λ b. b < 256) z.bytes) f.offers _ (joined_here w m o l a.stands h).in_pieces.offers r.offer

    granted_there : is_granted local_key (regions_of m o.context) f.domain r'.request.lkey r'.request.local (size_of r') (landing_right (kind_of r')) ≡ true
    unfolding untold
    granted_there =
        subst (λ z. is_granted local_key (regions_of m o.context) f.domain z.request.lkey z.request.local (size_of z) (landing_right (kind_of z)) ≡ true) (get_or-drop f.told f.posted count no_posted)
        ((sound_here w m o l a.stands h).requests count no_posted (omega (arith, there, length-drop f.told f.posted)))

    landing_put : landing (context_there w o) l d x ≡ record (context_there w o) { regions = rs }
    landing_put =
        ap (λ b. if b then memory.landed (context_there w o) x.posted.request.lkey (x.posted.request.local + x.k * l.terms.mtu) d.payload else memory.landed (context_there w o) x.posted.request.lkey x.posted.request.local (old_bytes d.old)) mine
        ∙ (ap (λ z. memory.landed (context_there w o) z.request.lkey (z.request.local + x.k * l.terms.mtu) d.payload) piece_here
        ∙ (ap (λ j. memory.landed (context_there w o) r'.request.lkey (r'.request.local + x.k * j) d.payload) (live.mtu_is w m o l a.stands h)
        ∙ (ap (λ j. memory.landed (context_there w o) r'.request.lkey (r'.request.local + j) d.payload) (sym known_is)
        ∙ landed_put (context_there w o) (regions_of m o.context) f.domain r'.request.lkey r'.request.local (size_of r') g.known (landing_right (kind_of r')) d.payload (live_same w m o.context a.stands h.live).regions (a.stands.sound o.context).keyed_once granted_there length_fits)))

    -- ---- what is reached, by what is told after the bytes landed

    module _ (more : List MachineStep) (is : tell_steps o f n ≡ more) (inner : AreInner more) (run : IsRun m2 more) (count' known' : ℕ) (learned : LearnedAt m (after m2 more) o (gone_end f (f.told + count') known' 0 0 f.ended) (entries_by f count') rs)
        (counts : request_of us f.mtu (n + 1 - l.sender.first) ≡ count') (knows : MayKnow f (f.told + count') known') (oldest_is : first_number f.posted f.mtu (f.told + count') + known' / f.mtu ≡ n + 1) (telling' : AreWholePieces f.mtu (posted_at f.posted (f.told + count')) known') where
      abbrev last : End
      last = gone_end f (f.told + count') known' 0 0 f.ended

      counts' : told_count l.terms s2 ≡ count'
      counts' = counted_by count' counts

      advances : Advances w m o l a.stands h s2 count'
      advances = record { untold = refl; top = refl; counts = counts' }

      first_then : (after_telling l.terms s2).first ≡ first_number f.posted f.mtu (f.told + count')
      unfolding after_telling
      first_then =
          let back : (f.told + count') - f.told ≡ count' = omega arith in
          ap (λ j. l.sender.first + first_number l.sender.untold l.terms.mtu j) counts'
          ∙ (ap (λ j. j + first_number l.sender.untold l.terms.mtu count') first_is
          ∙ (ap (λ zs. first_number f.posted f.mtu f.told + first_number zs l.terms.mtu count') (untold_here w m o l a.stands h)
          ∙ (ap (λ j. first_number f.posted f.mtu f.told + first_number us j count') (live.mtu_is w m o l a.stands h)
          ∙ (ap (λ j. first_number f.posted f.mtu f.told + first_number us f.mtu j) (sym back)
          ∙ first-drop f.posted f.mtu f.told (f.told + count') (omega arith)))))

      fence_then : IsFencedIn (after_telling l.terms s2) (requests_of last)
      unfolding after_telling
      fence_then i inside' fence lands' = by_test (lands_untold_before f i) refl
        where
          by_test : (b : Bool) → lands_untold_before f i ≡ b → l.sender.top ≤ first_number f.posted f.mtu i
          by_test true t = fenced_here w m o l a.stands h a.alive i inside' fence t
          by_test false t = absurd (cc (lands', lands_later f (f.told + count') known' 0 0 f.ended i (omega arith) t))

      on : Goes_on (after_telling l.terms s2) (requests_of last)
      unfolding after_telling oldest due
      on =
          let u = ordered_here w m o l a.stands h in
          record {
            sends = record { first = first_then; una = sym oldest_is; spent = refl; few = omega arith; waits = λ k. (refl, omega arith) };
            ordered = record {
              una_next = omega arith;
              next_top = omega (arith, u.next_top, top);
              top_end = u.top_end;
              due_top = u.due_top;
              reach = u.reach;
              limit = u.limit;
            };
            fenced = fence_then;
            telling = telling';
          }

      abbrev all : List MachineStep
      all = ss ++ (land_steps o place d.payload ++ more)

      allowed : Lands m o n d.payload all
      allowed = record {
        tells = ss;
        offer = place;
        are = ap (λ zs. ss ++ (land_steps o place d.payload ++ zs)) (sym is);
        told = record { only = (heard w m o l a.stands h a.alive n low within acts).only; limited = omega (arith, oldest_then w m o l a.stands h a.alive n low within acts) };
        offered = λ k. offer_at;
      }

      after_is : after m all ≡ after m2 more
      after_is = after_then ss (land_steps o place d.payload ++ more) m ∙ after_then (land_steps o place d.payload) more m'

      landed_named : ss ≡ learning o f n → all ≡ Named took.Landed
      unfolding is_landed read_steps
      landed_named are = ap (λ z. z ++ (land_steps o place d.payload ++ more)) are ∙ ap (λ z. learning o f n ++ (land_steps o place d.payload ++ z)) (sym is)

      lands_so : Reached (words.stays (telling (landing (context_there w o) l d x) (end_there w o) l (advanced l.sender (n + 1))) took.Landed)
      lands_so =
          let k = heard w m o l a.stands h a.alive n low within acts in
          let sound = a.stands.sound o.context in
          subst (λ z. Reached (words.stays (telling z (end_there w o) l (advanced l.sender (n + 1))) took.Landed)) (sym landing_put)
          (subst (λ z. Reached (words.stays (telling (record (context_there w o) { regions = rs }) (end_there w o) l z) took.Landed)) (sym advanced_is) (record {
            steps = all;
            inner = inner_then ss (land_steps o place d.payload ++ more) k.inner (inner_then (land_steps o place d.payload) more landed_there.inner inner);
            is_run = run_then ss (land_steps o place d.payload ++ more) m k.is_run (run_then (land_steps o place d.payload) more m' landed_there.is_run run);
            allowed = inr allowed;
            named = landed_named k.are;
            stands = subst (Stands _) (sym after_is)
                (landing_stands w m o l a.stands h rs (put_like local_key r'.request.lkey (r'.request.local + g.known) d.payload (regions_of m o.context)) (put_whole local_key r'.request.lkey (r'.request.local + g.known) d.payload (regions_of m o.context) sound.whole) (put_said local_key r'.request.lkey (r'.request.local + g.known) d.payload (regions_of m o.context) payload_said sound.bytes)
                s2 count' known' 0 0 (after m2 more) a.alive advances knows learned on (took_answer took.Landed []));
          }))

    -- the test that decides it
    tells_is : tell_steps o f n ≡ (if suc x.k == span_of r' f.mtu then steps.Tell o ∷ [] else [])
    unfolding tell_steps
    tells_is =
        ap (λ k. if suc k == span_of (posted_at f.posted (request_of f.posted f.mtu n)) f.mtu then steps.Tell o ∷ [] else []) piece_k
        ∙ ap (λ i. if suc x.k == span_of (posted_at f.posted i) f.mtu then steps.Tell o ∷ [] else []) is_front

    -- the last piece
    whole_read : suc x.k ≡ span_of r' f.mtu → g1.known ≡ size_of r'
    whole_read e = omega (arith, known_is, length_is, last_piece (size_of r') f.mtu x.k mtu (e ∙ read_span r' f.mtu reads))

    begins : suc x.k ≡ span_of r' f.mtu → first_number f.posted f.mtu (f.told + (count + 1)) ≡ n + 1
    begins e =
        let next : f.told + (count + 1) ≡ suc told = omega arith in
        ap (first_number f.posted f.mtu) next ∙ omega (arith, first_next f.posted f.mtu told there, place_is, e)

    entries_are : entries_by f (count + 1) ≡ entries_by f count ++ success g1 (front g1)
    unfolding success
    entries_are =
        let k = learn w m o l a.stands h a.alive n low within acts in
        entries_more count f ∙ ap (λ xs. entries_by f count ++ xs) (sym (known_success (told_by f count) k.last) ∙ ap (λ z. success z (front z)) k.is)

    answer2 : slice_get (machine.end_of m2 o).answers (machine.end_of m2 o).told ≡ Some Finished
    answer2 = ap (λ z. slice_get z.answers z.told) end2 ∙ finished r' (slice_get f.answers told) (read_atomic_no (kind_of r') reads) ((sound_here w m o l a.stands h).sound.replies told acted)

    abbrev Done : Type 0
    Done = Reached (words.stays (telling (landing (context_there w o) l d x) (end_there w o) l (advanced l.sender (n + 1))) took.Landed)

    module _ (e : suc x.k ≡ span_of r' f.mtu) where
      tell_enabled : may_tell m2 o ≡ true
      unfolding may_tell
      tell_enabled =
          let untold' : has_untold m2 o ≡ true = untold_there m2 o (ap (λ z. z.connected) end2 ∙ connected_here w m o l a.stands h) (ap (λ z. z.ended) end2 ∙ (ended_here w m o l a.stands h ∙ a.alive)) (subst (λ z. z.told < length z.posted) (sym end2) there) in
          ap (λ b. b && (nat_lt (machine.end_of m2 o).told (machine.end_of m2 o).acted && (not (is_read (kind_of (front (machine.end_of m2 o)))) || ((machine.end_of m2 o).known == size_of (front (machine.end_of m2 o)))))) untold'
          ∙ (ap (λ z. nat_lt z.told z.acted && (not (is_read (kind_of (front z))) || (z.known == size_of (front z)))) end2
          ∙ (ap (λ b. b && (not (is_read (kind_of r')) || (g1.known == size_of r'))) (less_tells told f.acted acted)
          ∙ (ap (λ b. not b || (g1.known == size_of r')) reads
          ∙ same_eq g1.known (size_of r') (whole_read e))))

      learned_whole : LearnedAt m (tell m2 o) o (gone_end f (f.told + (count + 1)) 0 0 0 f.ended) (entries_by f (count + 1)) rs
      unfolding told_one
      learned_whole =
          let one : Learned m2 (tell m2 o) o (told_one g1) (success g1 (front g1)) = subst (λ z. Learned m2 (tell m2 o) o (told_one z) (success z (front z))) end2 (learned_told m2 o stays2 answer2) in
          let all : LearnedAt m (tell m2 o) o (told_one g1) (entries_by f count ++ success g1 (front g1)) rs = at_then m m2 (tell m2 o) o g1 (told_one g1) _ _ rs (stays_here w m o l a.stands h) so_far one (name_here w m o l a.stands h) refl in
          let next : suc told ≡ f.told + (count + 1) = omega arith in
          subst (λ k. LearnedAt m (tell m2 o) o (gone_end f k 0 0 0 f.ended) (entries_by f (count + 1)) rs) next
          (subst (λ xs. LearnedAt m (tell m2 o) o (told_one g1) xs rs) (sym entries_are) all)

      counts_whole : request_of us f.mtu (n + 1 - l.sender.first) ≡ count + 1
      counts_whole =
          let back : (f.told + (count + 1)) - f.told ≡ count + 1 = omega arith in
          let in_us : n + 1 - l.sender.first ≡ first_number us f.mtu (count + 1) = omega (arith, first-drop f.posted f.mtu f.told (f.told + (count + 1)) (omega arith), ap (first_number us f.mtu) back, begins e, first_is) in
          ap (request_of us f.mtu) in_us ∙ request_begins us f.mtu (count + 1) (omega (arith, there, length-drop f.told f.posted))

      reads_whole : Done
      reads_whole =
          lands_so (steps.Tell o ∷ []) (tells_is ∙ ap (λ b. if b then steps.Tell o ∷ [] else []) (same_eq _ _ e)) tt (tell_enabled, tt) (count + 1) 0 learned_whole counts_whole
          (record { more = omega arith; acted = omega (arith, acted); there = λ k. omega arith; within = omega arith; unlanded = λ k j. refl; whole = λ k. refl })
          (omega (arith, begins e, zero-div f.mtu)) (zero-mod f.mtu, inl refl)

    module _ (ne : (suc x.k == span_of r' f.mtu) ≡ false) where
      more_follow : suc x.k < span_of r' f.mtu
      more_follow = omega (arith, in_span, eq_other _ _ ne)

      inner_is : (min f.mtu (size_of r' - x.k * f.mtu) ≡ f.mtu) × (x.k * f.mtu + f.mtu ≡ suc x.k * f.mtu)
      inner_is = inner_piece (size_of r') f.mtu x.k mtu (omega (arith, more_follow, read_span r' f.mtu reads))

      known_then : g.known + length d.payload ≡ suc x.k * f.mtu
      known_then = omega (arith, known_is, length_is, inner_is.0, inner_is.1)

      none_left : (landed_there.spent ≡ 0) × (landed_there.waits ≡ 0)
      none_left = landed_there.fresh (omega (arith, length_is, inner_is.0, mtu_positive f.mtu mtu))

      learned_part : LearnedAt m m2 o (gone_end f told (suc x.k * f.mtu) 0 0 f.ended) (entries_by f count) rs
      learned_part =
          subst (λ k. LearnedAt m m2 o (gone_end f told k 0 0 f.ended) (entries_by f count) rs) known_then
          (subst (λ k. LearnedAt m m2 o (gone_end f told (g.known + length d.payload) 0 k f.ended) (entries_by f count) rs) none_left.1
          (subst (λ k. LearnedAt m m2 o (gone_end f told (g.known + length d.payload) k landed_there.waits f.ended) (entries_by f count) rs) none_left.0 so_far))

      in_size : suc x.k * f.mtu < size_of r'
      in_size = bytes_inside r' f.mtu (suc x.k) mtu (omega arith) more_follow

      counts_part : request_of us f.mtu (n + 1 - l.sender.first) ≡ count
      counts_part =
          let back : (f.told + count) - f.told ≡ count = omega arith in
          let in_us : n + 1 - l.sender.first ≡ first_number us f.mtu count + suc x.k = omega (arith, first-drop f.posted f.mtu f.told (f.told + count) (omega arith), ap (first_number us f.mtu) back, place_is, first_is) in
          ap (request_of us f.mtu) in_us ∙ request_inside us f.mtu count (suc x.k) (omega (arith, there, length-drop f.told f.posted)) (omega (arith, more_follow, ap (λ z. span_of z f.mtu) (get_or-drop f.told f.posted count no_posted)))

      reads_part : Done
      reads_part =
          lands_so [] (tells_is ∙ ap (λ b. if b then steps.Tell o ∷ [] else []) ne) tt tt count (suc x.k * f.mtu) learned_part counts_part
          (record {
            more = omega arith;
            acted = omega (arith, acted);
            there = λ k. absurd (cc (read_lands (kind_of r') reads, k));
            within = omega (arith, in_size);
            unlanded = λ k j. absurd (omega (arith, j, acted));
            whole = λ k. absurd (cc (read_atomic_no (kind_of r') reads, k));
          })
          (omega (arith, pieces_back f.mtu (suc x.k) mtu, place_is)) (whole_bytes f.mtu (suc x.k) mtu, inr in_size)

    lands_it : (b : Bool) → (suc x.k == span_of r' f.mtu) ≡ b → Done
    lands_it true t = reads_whole (eq_same _ _ t)
    lands_it false t = reads_part t

  -- ---- the table

  by_kind : is_read_response d.opcode ≡ true → (d.opcode == 0x12) ≡ false → n ≡ requester.barrier l.terms l.sender → n < l.sender.top → (x : Piece) → piece_at l.sender.untold l.terms.mtu (n - l.sender.first) ≡ Some x → (b c : Bool) → is_read (kind_of x.posted) ≡ b → (length d.payload == piece_length x.posted.request.shape.length x.k l.terms.mtu) ≡ c →
      Reached (if is_this_piece l d x then words.stays (telling (landing (context_there w o) l d x) (end_there w o) l (advanced l.sender (n + 1))) took.Landed else useless (context_there w o))
  by_kind opcode none at top x found b c t u = by_test b c t u
    where
      picks : (z : Bool) → is_this_piece l d x ≡ z → Reached (if z then words.stays (telling (landing (context_there w o) l d x) (end_there w o) l (advanced l.sender (n + 1))) took.Landed else useless (context_there w o)) →
          Reached (if is_this_piece l d x then words.stays (telling (landing (context_there w o) l d x) (end_there w o) l (advanced l.sender (n + 1))) took.Landed else useless (context_there w o))
      picks z e y = subst (λ q. Reached (if q then words.stays (telling (landing (context_there w o) l d x) (end_there w o) l (advanced l.sender (n + 1))) took.Landed else useless (context_there w o))) (sym e) y

      choose : is_read (kind_of x.posted) ≡ true → is_this_piece l d x ≡ (length d.payload == piece_length x.posted.request.shape.length x.k l.terms.mtu)
      choose e = ap (λ z. if z then (is_read_response d.opcode && (length d.payload == piece_length x.posted.request.shape.length x.k l.terms.mtu)) else d.opcode == 0x12) e ∙ ap (λ z. z && (length d.payload == piece_length x.posted.request.shape.length x.k l.terms.mtu)) opcode

      by_test : (b c : Bool) → is_read (kind_of x.posted) ≡ b → (length d.payload == piece_length x.posted.request.shape.length x.k l.terms.mtu) ≡ c →
          Reached (if is_this_piece l d x then words.stays (telling (landing (context_there w o) l d x) (end_there w o) l (advanced l.sender (n + 1))) took.Landed else useless (context_there w o))
      by_test true true t u = picks true (choose t ∙ u) (lands_it at top x found t u (suc x.k == _) refl)
      by_test true false t u = picks false (choose t ∙ u) nothing
      by_test false c t u = picks false (ap (λ z. if z then (is_read_response d.opcode && (length d.payload == piece_length x.posted.request.shape.length x.k l.terms.mtu)) else d.opcode == 0x12) t ∙ none) nothing

  by_found : is_read_response d.opcode ≡ true → (d.opcode == 0x12) ≡ false → n ≡ requester.barrier l.terms l.sender → n < l.sender.top → (p : Option Piece) → piece_at l.sender.untold l.terms.mtu (n - l.sender.first) ≡ p → Reached (takes_piece (context_there w o) (end_there w o) l d n p)
  unfolding takes_piece
  by_found opcode none at top None found = nothing
  by_found opcode none at top (Some x) found = by_kind opcode none at top x found (is_read (kind_of x.posted)) (length d.payload == piece_length x.posted.request.shape.length x.k l.terms.mtu) refl refl

  by_barrier : is_read_response d.opcode ≡ true → (d.opcode == 0x12) ≡ false → (p q : Bool) → (n == requester.barrier l.terms l.sender) ≡ p → nat_lt n l.sender.top ≡ q → Reached (if p && q then takes_piece (context_there w o) (end_there w o) l d n (piece_at l.sender.untold l.terms.mtu (n - l.sender.first)) else useless (context_there w o))
  by_barrier opcode none true true t u = by_found opcode none (eq_same n _ t) (grind (arith, nat_tests, leb_tells (suc n) l.sender.top, u)) (piece_at l.sender.untold l.terms.mtu (n - l.sender.first)) refl
  by_barrier opcode none true false t u = nothing
  by_barrier opcode none false q t u = nothing

  reached : is_read_response d.opcode ≡ true → (d.opcode == 0x12) ≡ false → Reached (takes_landing (context_there w o) (end_there w o) l d n)
  unfolding takes_landing
  reached opcode none = by_barrier opcode none (n == requester.barrier l.terms l.sender) (nat_lt n l.sender.top) refl refl

-- ---- any number

no_header : (b : Option Aeth) → aeth_class b ≡ IsReadResponse → ⊥
unfolding aeth_class syndrome_class nak_class
no_header None e = cc
no_header (Some h) e = by_syndrome h.syndrome e
  where
    by_code : (p q r t : Bool) → (if p then IsSequenceNak else if q then IsRefusal false else if r then IsRefusal true else if t then IsStopped h.msn else IsNothing) ≡ IsReadResponse → ⊥
    by_code true q r t e = cc
    by_code false true r t e = cc
    by_code false false true t e = cc
    by_code false false false true e = cc
    by_code false false false false e = cc

    by_syndrome : (y : Syndrome) → syndrome_class y h.msn ≡ IsReadResponse → ⊥
    by_syndrome Ack e = cc
    by_syndrome Rnr e = cc
    by_syndrome (Nak code) e = by_code (code == 0) (code == 1) (code == 2) (code == 5) e

no_body : (opcode : ℕ) (body : Option ResumeBody) → resume_class opcode body ≡ IsReadResponse → ⊥
unfolding resume_class
no_body opcode None e = cc
no_body opcode (Some body) e = by_test (opcode == 0x1E) e
  where
    by_test : (b : Bool) → (if b then IsResume body else IsResumeAck body) ≡ IsReadResponse → ⊥
    by_test true e = cc
    by_test false e = cc

opcode_is : (d : Packet) → class_of d ≡ IsReadResponse → (is_request d.opcode ≡ false) × (is_read_response d.opcode ≡ true)
unfolding class_of
opcode_is d e = by_tests (is_request d.opcode) (is_read_response d.opcode) (d.opcode == 0x12) (d.opcode == 0x11) refl refl e
  where
    by_tests : (p q r t : Bool) → is_request d.opcode ≡ p → is_read_response d.opcode ≡ q → (if p then IsRequest else if q then IsReadResponse else if r then IsAtomicResponse else if t then aeth_class d.aeth else resume_class d.opcode d.resume) ≡ IsReadResponse → (is_request d.opcode ≡ false) × (is_read_response d.opcode ≡ true)
    by_tests true q r t u v e = absurd (cc)
    by_tests false true r t u v e = (u, v)
    by_tests false false true t u v e = absurd (cc)
    by_tests false false false true u v e = absurd (no_header d.aeth e)
    by_tests false false false false u v e = absurd (no_body d.opcode d.resume e)

four_opcodes : (P : ℕ → Type 0) → P 13 → P 14 → P 15 → P 16 → (k : ℕ) → is_read_response k ≡ true → P k
four_opcodes P a b c e k h = elim (eqb_tells k 13) [
  | inl t ↦ subst P (sym t.1) a
  | inr t ↦ elim (eqb_tells k 14) [
    | inl u ↦ subst P (sym u.1) b
    | inr u ↦ elim (eqb_tells k 15) [
      | inl v ↦ subst P (sym v.1) c
      | inr v ↦ elim (eqb_tells k 16) [
        | inl x ↦ subst P (sym x.1) e
        | inr x ↦ absurd (grind (arith, nat_tests, leb_tells 13 k, leb_tells k 16, h, t.1, u.1, v.1, x.1))
      ]
    ]
  ]
]

same_layout : {A : Type 0} (a b : A) → Some a ≡ Some b → a ≡ b
same_layout a b h = cc

read_control : (d : Packet) (bytes : List ℕ) → packet_of bytes ≡ Some d → is_read_response d.opcode ≡ true → control_of d ≡ None
unfolding layout_of
read_control d bytes read opcode =
    let s = read_spelled d bytes read in
    four_opcodes (λ k. d.opcode ≡ k → control_of d ≡ None)
    (λ e. landing_control d bytes s (ap (λ k. k == 0x11) e) (ap (λ x. has_resume x.headers) (same_layout s.layout _ (sym s.known ∙ ap layout_of e))))
    (λ e. landing_control d bytes s (ap (λ k. k == 0x11) e) (ap (λ x. has_resume x.headers) (same_layout s.layout _ (sym s.known ∙ ap layout_of e))))
    (λ e. landing_control d bytes s (ap (λ k. k == 0x11) e) (ap (λ x. has_resume x.headers) (same_layout s.layout _ (sym s.known ∙ ap layout_of e))))
    (λ e. landing_control d bytes s (ap (λ k. k == 0x11) e) (ap (λ x. has_resume x.headers) (same_layout s.layout _ (sym s.known ∙ ap layout_of e))))
    d.opcode opcode refl

no_atomic : (k : ℕ) → is_read_response k ≡ true → (k == 0x12) ≡ false
no_atomic k h = four_opcodes (λ j. (j == 0x12) ≡ false) refl refl refl refl k h

by_number : (w : World) (m : Machine) (o : ObjName) (l : Link) (number : Option ℕ) (bytes : List ℕ) (d : Packet) → Arrives w m o l number bytes d → class_of d ≡ IsReadResponse → is_request d.opcode ≡ false → is_read_response d.opcode ≡ true →
    ClassFact (side_of w o) (side_of w (machine.end_of m o).peer) (requests_of (machine.end_of m o)) (requests_of (machine.end_of m (machine.end_of m o).peer)) number d → Takes w m o l number d
by_number w m o l None bytes d a is response opcode fact = absurd (subst (MoveFact (side_of w (machine.end_of m o).peer)) is fact)
by_number w m o l (Some n) bytes d a is response opcode fact =
    let says = subst (NumberedFact (side_of w o) (side_of w (machine.end_of m o).peer) (requests_of (machine.end_of m o)) (requests_of (machine.end_of m (machine.end_of m o).peer)) n d) is fact in
    taken_takes w m o l n d IsReadResponse _ is
    (landing_is w m o l n bytes d a says.0 (acts w m o l n bytes d a says.1) response (ap (λ b. b || d.opcode == 0x12) opcode) (read_control d bytes a.read opcode))
    (reached w m o l n bytes d a says.1 opcode (no_atomic d.opcode opcode))

pub read_responses_taken : ReadResponsesAreTaken
read_responses_taken w m o l number bytes d a is = let found = opcode_is d is in by_number w m o l number bytes d a is found.0 found.1 a.fact.fact
