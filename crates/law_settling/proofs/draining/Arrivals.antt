-- What is sent where a datagram is delivered.
use Rattle.std.proofs.Common.{arith, ◌≡◌, ◌≢◌, ◌≤◌, ◌<◌, ◌-◌, ◌⊎◌, ℕ, List, [], ◌∷◌, ◌++◌, length, map, true, false, Bool, refl, sym, ap, ◌∙◌, subst, inl, inr}
use Rattle.std.specs.Prelude.{All, Contains, Option, Some, None, is_some, option_map, if◌then◌else◌, ◌==◌, slice_get}
use Rattle.std.proofs.lemmas.List.{length-append, append-nil}
use Rattle.std.proofs.lemmas.Option.{slice_get_within}
use Rattle.std.proofs.lemmas.List.Elements.{All-nil, All-cons, All-map}
use Rattle.rdma_types.specs.declared.answers.Answer.TheVariants as answer
use Rattle.rdma_types.specs.declared.answers.Sent.{Sent}
use Rattle.rdma_types.specs.declared.answers.DropReason.TheVariants as why
use Rattle.rdma_types.specs.declared.answers.ArrivalEffect.TheVariants as took_word
use Rattle.rdma_types.specs.declared.requests.Address.{Address}
use Rattle.protocol.specs.declared.events.Event.TheVariants as events
use Rattle.protocol.specs.declared.events.WorldEvent.TheVariants as world_events
use Rattle.protocol.specs.declared.images.ContextImage.{ContextImage}
use Rattle.protocol.specs.declared.wire.Headers.TheVariants as headers
use Rattle.protocol.specs.declared.wire.Layout.{Layout}
use Rattle.protocol.specs.Bytes as bytes
use Rattle.protocol.specs.Bytes.{byte_at}
use Rattle.protocol.specs.Fabric.{Here, IsLost, IsAged, is_kept, is_late, kept_flight, look, look_at, flight_of, sending, took, changed_at, marked_taken}
use Rattle.protocol.specs.State.{World, Device, Flight, HuskEntry}
use Rattle.protocol.specs.Wire.{Packet, is_control, is_nak_stopped, is_request, fields_of, layout_of, offence_of, packet_of, read_by, unloaded, wire_of}
use Rattle.protocol.specs.EndStep.{takes}
use Rattle.protocol.specs.Moves.{nak_stopped}
use Rattle.protocol.specs.Refusals as refusing
use Rattle.rdma_types.specs.Causes.{first_cause}
use Rattle.protocol.specs.DeviceStep as device
use Rattle.protocol.specs.DeviceStep.{Found, found_in, husk_entries}
use Rattle.protocol.specs.WorldStep.{world_step, delivers, delivers_by, device_with, now_of, ran, reaches, with_device, with_image, with_taken}
use Rattle.law_settling.proofs.draining.Pending.{IsPending, number_or_not, get_append_left, get_append_cases, changed_length, changed_same, changed_other, kept_is, kept_when}
use Rattle.law_devices.proofs.Silent.{reply_silent}
use Rattle.law_settling.proofs.draining.Replies.{IsReply, IsStop, takes_replies}

-- ---- what is read

pub read_opcode : (bs : List ℕ) (p : Packet) → packet_of bs ≡ Some p → p.opcode ≡ byte_at 0 bs
unfolding packet_of fields_of
read_opcode bs p h = by_offence (is_some (offence_of bs)) (layout_of (byte_at 0 bs)) h
  where
    by_offence : (b : Bool) (l : Option Layout) → (if b then None else read_by l bs) ≡ Some p → p.opcode ≡ byte_at 0 bs
    by_offence true l e = absurd (cc)
    by_offence false None e = absurd (cc)
    by_offence false (Some l) e = let is : fields_of l.headers bs ≡ p = cc in ap (λ z. z.opcode) (sym is)

stop_layout : (n : ℕ) → n ≡ 0x11 → layout_of n ≡ Some (unloaded headers.Aeth)
unfolding layout_of
stop_layout n h = rw h refl

stop_fields : (bs : List ℕ) → byte_at 12 bs ≡ 0x65 → is_control (fields_of headers.Aeth bs) ≡ true
unfolding fields_of is_control is_nak_stopped
stop_fields bs h = rw h refl

read_stop : (bs : List ℕ) (p : Packet) → packet_of bs ≡ Some p → IsStop bs → is_control p ≡ true
unfolding packet_of
read_stop bs p h s = by_offence (is_some (offence_of bs)) (layout_of (byte_at 0 bs)) (stop_layout (byte_at 0 bs) s.opcode) h
  where
    by_offence : (b : Bool) (l : Option Layout) → l ≡ Some (unloaded headers.Aeth) → (if b then None else read_by l bs) ≡ Some p → is_control p ≡ true
    by_offence true l is e = absurd (cc)
    by_offence false None is e = absurd (cc)
    by_offence false (Some l) is e =
        let same : l.headers ≡ headers.Aeth = ap (λ z. z.headers) (the_same l (unloaded headers.Aeth) is) in
        let read : fields_of l.headers bs ≡ p = cc in
        ap is_control (sym read ∙ ap (λ z. fields_of z bs) same) ∙ stop_fields bs s.syndrome
      where
        the_same : (a b : Layout) → Some a ≡ Some b → a ≡ b
        the_same a b h = cc

-- ---- what is answered

-- what is sent for these bytes: answers; for an answer at most a NAK_STOPPED; and for that nothing
pub record Answered (bs : List ℕ) (sent : List Sent) : Type 0 where
  pub replies : All (λ z. IsReply z.bytes) sent
  pub stops : IsReply bs → All (λ z. IsStop z.bytes) sent
  pub none : IsStop bs → sent ≡ []

answered_nothing : (bs : List ℕ) → Answered bs []
answered_nothing bs = record { replies = All-nil _; stops = λ h. All-nil _; none = λ h. refl }

stop_replies : (bs : List ℕ) → IsStop bs → IsReply bs
unfolding is_request
stop_replies bs s = record { no_request = rw s.opcode refl; no_resume = rw s.opcode refl }

stop_written : (h : HuskEntry) (psn : ℕ) → IsStop (wire_of (nak_stopped h psn))
unfolding wire_of bytes.big_bytes
stop_written h psn = record { opcode = refl; syndrome = refl }

module _ (bs : List ℕ) (d : Device) (from : Address) (p : Packet) (read : packet_of bs ≡ Some p) where
  found_answered : (f : Found) → Answered bs (takes f.context f.end f.link p).sent
  found_answered f =
      let silent = λ (h : IsReply bs). (reply_silent f.context f.end f.link p (ap is_request (read_opcode bs p read) ∙ h.no_request) (ap (λ n. n == 0x1E) (read_opcode bs p read) ∙ h.no_resume)).none in
      record {
        replies = (takes_replies f.context f.end f.link p).each;
        stops = λ h. subst (All (λ z. IsStop z.bytes)) (sym (silent h)) (All-nil _);
        none = λ s. silent (stop_replies bs s);
      }

  husk_by : (h : HuskEntry) (b : Bool) → is_control p ≡ b →
      Answered bs (if b then device.answers d (device.took_answer (took_word.Silent why.Unknown) []) else device.gives d (answer.Took took_word.Stopped 0 1) (record { to = from; number = None; bytes = wire_of (nak_stopped h p.psn) } ∷ [])).outcome.sent
  husk_by h true t = answered_nothing bs
  husk_by h false t = record {
    replies = All-cons (λ z. IsReply z.bytes) _ [] (stop_replies _ (stop_written h p.psn)) (All-nil _);
    stops = λ r. All-cons (λ z. IsStop z.bytes) _ [] (stop_written h p.psn) (All-nil _);
    none = λ s. absurd (cc (t, read_stop bs p read s));
  }

  husk_answered : (hs : List HuskEntry) → Answered bs (device.at_husk d from p hs).outcome.sent
  husk_answered [] = answered_nothing bs
  husk_answered (h ∷ hs) = husk_by h (is_control p) refl

  there_answered : (fs : List Found) → Answered bs (device.at_found d from p fs).outcome.sent
  there_answered [] = husk_answered (husk_entries p.dest d.husks)
  there_answered (f ∷ fs) = found_answered f

packet_answered : (bs : List ℕ) (d : Device) (from : Address) (p : Option Packet) → packet_of bs ≡ p → Answered bs (device.arrives_packet d from p).outcome.sent
packet_answered bs d from None read = answered_nothing bs
packet_answered bs d from (Some p) read = there_answered bs d from p read (found_in p.dest d.contexts)

arrival_answered : (d : Device) (from : Address) (bs : List ℕ) → Answered bs (device.device_step d (events.Arrive from bs)).outcome.sent
unfolding device.device_step device.arrives refusing.refusal_of first_cause
arrival_answered d from bs = packet_answered bs d from (packet_of bs) refl

-- ---- in a world

-- what is sent for these bytes, once it is on its way
pub record Flown (bs : List ℕ) (more : List Flight) : Type 0 where
  pub replies : All (λ f. IsReply f.bytes) more
  pub stops : IsReply bs → All (λ f. IsStop f.bytes) more
  pub none : IsStop bs → more ≡ []

flown : (bs : List ℕ) (from : Address) (sent : List Sent) → Answered bs sent → Flown bs (map (flight_of from) sent)
flown bs from sent a = record {
  replies = All-map (λ (f : Flight). IsReply f.bytes) (flight_of from) sent a.replies;
  stops = λ h. All-map (λ (f : Flight). IsStop f.bytes) (flight_of from) sent (a.stops h);
  none = λ h. ap (map (flight_of from)) (a.none h);
}

-- datagram k was delivered: it is marked, or was not pending, and what is sent for it stands behind the others
pub record IsDelivered (w w' : World) (k : ℕ) : Type 0 where
  pub base : List Flight
  pub more : List Flight
  pub sent : w'.sent ≡ base ++ more
  pub marked : ((base ≡ w.sent) × ((f : Flight) → IsPending w.sent k f → ⊥)) ⊎ (base ≡ took w.sent k)
  pub replies : All (λ f. IsReply f.bytes) more
  pub flown : (f : Flight) → slice_get w.sent (k - 1) ≡ Some f → Flown f.bytes more

flown_nothing : (bs : List ℕ) → Flown bs []
flown_nothing bs = record { replies = All-nil _; stops = λ h. All-nil _; none = λ h. refl }

image_sent : (i : Option ContextImage) (w : World) → (with_image i w).sent ≡ w.sent
image_sent None w = refl
image_sent (Some i) w = refl

pub ran_sent : (w : World) (s : device.Step) → (ran w s).world.sent ≡ w.sent ++ map (flight_of s.device.address) s.outcome.sent
unfolding ran with_device sending
ran_sent w s = image_sent s.outcome.image _

reached : (w : World) (k : ℕ) (f : Flight) (d : Option Device) → slice_get w.sent (k - 1) ≡ Some f → IsDelivered w (reaches (with_taken w k) f d).world k
reached w k f None there = record {
  base = took w.sent k;
  more = [];
  sent = sym (append-nil (took w.sent k));
  marked = inr refl;
  replies = All-nil _;
  flown = λ g h. flown_nothing g.bytes;
}
reached w k f (Some d) there =
    let s : device.Step = device.device_step d (events.Arrive f.from f.bytes) in
    record {
      base = took w.sent k;
      more = map (flight_of s.device.address) s.outcome.sent;
      sent = ran_sent (with_taken w k) s;
      marked = inr refl;
      replies = (flown f.bytes s.device.address s.outcome.sent (arrival_answered d f.from f.bytes)).replies;
      flown = λ g h. let is : f ≡ g = cc in subst (λ z. Flown z.bytes (map (flight_of s.device.address) s.outcome.sent)) is (flown f.bytes s.device.address s.outcome.sent (arrival_answered d f.from f.bytes));
    }

pub kept_there : (sent : List Flight) (k : ℕ) (f : Flight) → kept_flight sent k ≡ Some f → (is_kept (length sent) k ≡ true) × (slice_get sent (k - 1) ≡ Some f)
unfolding kept_flight
kept_there sent k f h = by_test (is_kept (length sent) k) refl h
  where
    by_test : (b : Bool) → is_kept (length sent) k ≡ b → (if b then slice_get sent (k - 1) else None) ≡ Some f → (is_kept (length sent) k ≡ true) × (slice_get sent (k - 1) ≡ Some f)
    by_test true t g = (t, g)
    by_test false t g = absurd (cc)

kept_none : (sent : List Flight) (k : ℕ) (f : Flight) → kept_flight sent k ≡ None → IsPending sent k f → ⊥
unfolding kept_flight
kept_none sent k f h p = by_test (is_kept (length sent) k) p.kept h
  where
    by_test : (b : Bool) → b ≡ true → (if b then slice_get sent (k - 1) else None) ≡ None → ⊥
    by_test true t g = absurd (cc (g, p.there))
    by_test false t g = absurd (cc)

aside : (w : World) (k : ℕ) → ((f : Flight) → IsPending w.sent k f → ⊥) → IsDelivered w w k
aside w k none = record { base = w.sent; more = []; sent = sym (append-nil w.sent); marked = inl (refl, none); replies = All-nil _; flown = λ g h. flown_nothing g.bytes }

aged : (w : World) (k : ℕ) → IsDelivered w (with_taken w k) k
aged w k = record { base = took w.sent k; more = []; sent = sym (append-nil (took w.sent k)); marked = inr refl; replies = All-nil _; flown = λ g h. flown_nothing g.bytes }

by_kept : (w : World) (k : ℕ) (r : Option Flight) → kept_flight w.sent k ≡ r → IsDelivered w (delivers_by w k (look_at r (now_of w r))).world k
by_kept w k None h = aside w k (λ f. kept_none w.sent k f h)
by_kept w k (Some f) h = by_flags f.lost (is_late f.number (now_of w (Some f))) refl
  where
    by_flags : (b c : Bool) → f.lost ≡ b → IsDelivered w (delivers_by w k (if b then IsLost else if c then IsAged else Here f)).world k
    by_flags true c t = aside w k (λ g p. let is : f ≡ g = cc ((kept_there w.sent k f h).1, p.there) in absurd (cc (ap (λ z. z.lost) is, p.found, t)))
    by_flags false true t = aged w k
    by_flags false false t = reached w k f (device_with w f.to) (kept_there w.sent k f h).1

pub delivered : (w : World) (k : ℕ) → IsDelivered w (world_step w (world_events.Deliver k)).world k
unfolding world_step delivers look
delivered w k = by_kept w k (kept_flight w.sent k) refl

-- ---- what is pending after it

took_length : (sent : List Flight) (k : ℕ) → length (took sent k) ≡ length sent
unfolding took
took_length sent k = by_test (is_kept (length sent) k)
  where
    by_test : (b : Bool) → length (if b then changed_at marked_taken (k - 1) sent else sent) ≡ length sent
    by_test true = changed_length marked_taken (k - 1) sent
    by_test false = refl

-- what stands where datagram k is taken stood there before, unless it is k
took_back : (sent : List Flight) (k j : ℕ) (f : Flight) → slice_get (took sent k) j ≡ Some f → f.taken ≡ false → slice_get sent j ≡ Some f
unfolding took
took_back sent k j f there fresh = by_test (is_kept (length sent) k) there
  where
    marked : (o : Option Flight) → option_map marked_taken o ≡ Some f → ⊥
    marked None h = absurd (cc)
    marked (Some g) h = let is : marked_taken g ≡ f = cc in absurd (cc (ap (λ z. z.taken) is, fresh))

    by_test : (b : Bool) → slice_get (if b then changed_at marked_taken (k - 1) sent else sent) j ≡ Some f → slice_get sent j ≡ Some f
    by_test false h = h
    by_test true h = elim (number_or_not j (k - 1)) [
      | inl e ↦ absurd (marked (slice_get sent (k - 1)) (sym (changed_same marked_taken (k - 1) sent) ∙ subst (λ i. slice_get (changed_at marked_taken (k - 1) sent) i ≡ Some f) e h))
      | inr ne ↦ sym (changed_other marked_taken (k - 1) j sent ne) ∙ h
    ]

-- .. and has its bytes
pub took_bytes : (sent : List Flight) (k j : ℕ) (f : Flight) → slice_get sent j ≡ Some f → (g : Flight) × (slice_get (took sent k) j ≡ Some g) × (g.bytes ≡ f.bytes)
unfolding took
took_bytes sent k j f there = by_test (is_kept (length sent) k)
  where
    by_test : (b : Bool) → (g : Flight) × (slice_get (if b then changed_at marked_taken (k - 1) sent else sent) j ≡ Some g) × (g.bytes ≡ f.bytes)
    by_test false = (f, there, refl)
    by_test true = elim (number_or_not j (k - 1)) [
      | inl e ↦ (marked_taken f, subst (λ i. slice_get (changed_at marked_taken (k - 1) sent) i ≡ Some (marked_taken f)) (sym e) (changed_same marked_taken (k - 1) sent ∙ ap (option_map marked_taken) (subst (λ i. slice_get sent i ≡ Some f) e there)), refl)
      | inr ne ↦ (f, changed_other marked_taken (k - 1) j sent ne ∙ there, refl)
    ]

-- what stands where datagram k is taken has the bytes of what stood there before
took_bytes_back : (sent : List Flight) (k j : ℕ) (f : Flight) → slice_get (took sent k) j ≡ Some f → (g : Flight) × (slice_get sent j ≡ Some g) × (g.bytes ≡ f.bytes)
unfolding took
took_bytes_back sent k j f there = by_test (is_kept (length sent) k) there
  where
    marked : (o : Option Flight) → option_map marked_taken o ≡ Some f → (g : Flight) × (o ≡ Some g) × (g.bytes ≡ f.bytes)
    marked None h = absurd (cc)
    marked (Some g) h = let is : marked_taken g ≡ f = cc in (g, refl, ap (λ z. z.bytes) is)

    by_test : (b : Bool) → slice_get (if b then changed_at marked_taken (k - 1) sent else sent) j ≡ Some f → (g : Flight) × (slice_get sent j ≡ Some g) × (g.bytes ≡ f.bytes)
    by_test false h = (f, h, refl)
    by_test true h = elim (number_or_not j (k - 1)) [
      | inl e ↦ subst (λ i. (g : Flight) × (slice_get sent i ≡ Some g) × (g.bytes ≡ f.bytes)) (sym e) (marked (slice_get sent (k - 1)) (sym (changed_same marked_taken (k - 1) sent) ∙ subst (λ i. slice_get (changed_at marked_taken (k - 1) sent) i ≡ Some f) e h))
      | inr ne ↦ (f, sym (changed_other marked_taken (k - 1) j sent ne) ∙ h, refl)
    ]

-- datagram k is not pending once it is taken
took_marks : (sent : List Flight) (k : ℕ) (f : Flight) → is_kept (length sent) k ≡ true → slice_get (took sent k) (k - 1) ≡ Some f → f.taken ≡ false → ⊥
unfolding took
took_marks sent k f kept there fresh = by_test (is_kept (length sent) k) kept there
  where
    marked : (o : Option Flight) → option_map marked_taken o ≡ Some f → ⊥
    marked None h = absurd (cc)
    marked (Some g) h = let is : marked_taken g ≡ f = cc in absurd (cc (ap (λ z. z.taken) is, fresh))

    by_test : (b : Bool) → b ≡ true → slice_get (if b then changed_at marked_taken (k - 1) sent else sent) (k - 1) ≡ Some f → ⊥
    by_test false t h = absurd (cc)
    by_test true t h = marked (slice_get sent (k - 1)) (sym (changed_same marked_taken (k - 1) sent) ∙ h)

module _ (w w' : World) (k : ℕ) (h : IsDelivered w w' k) where
  base_length : length h.base ≡ length w.sent
  base_length = elim h.marked [ inl a ↦ ap length a.0 | inr b ↦ ap length b ∙ took_length w.sent k ]

  pub grows : length w.sent ≤ length w'.sent
  grows = omega (arith, base_length, ap length h.sent, length-append h.base h.more)

  base_back : (j : ℕ) (f : Flight) → slice_get h.base j ≡ Some f → f.taken ≡ false → slice_get w.sent j ≡ Some f
  base_back j f there fresh = elim h.marked [ inl a ↦ subst (λ fs. slice_get fs j ≡ Some f) a.0 there | inr b ↦ took_back w.sent k j f (subst (λ fs. slice_get fs j ≡ Some f) b there) fresh ]

  base_bytes : (j : ℕ) (f : Flight) → slice_get w.sent j ≡ Some f → (g : Flight) × (slice_get h.base j ≡ Some g) × (g.bytes ≡ f.bytes)
  base_bytes j f there = elim h.marked [
    | inl a ↦ (f, subst (λ fs. slice_get fs j ≡ Some f) (sym a.0) there, refl)
    | inr b ↦ subst (λ fs. (g : Flight) × (slice_get fs j ≡ Some g) × (g.bytes ≡ f.bytes)) (sym b) (took_bytes w.sent k j f there)
  ]

  pub bytes_kept : (j : ℕ) (f : Flight) → slice_get w.sent j ≡ Some f → (g : Flight) × (slice_get w'.sent j ≡ Some g) × (g.bytes ≡ f.bytes)
  bytes_kept j f there =
      let b = base_bytes j f there in
      (b.0, subst (λ fs. slice_get fs j ≡ Some b.0) (sym h.sent) (get_append_left h.base h.more j b.0 b.1), b.2)

  -- the datagram that stands at place j - 1 of the base and is pending now was so before, and is another than k
  was_pending : (j : ℕ) (f : Flight) → IsPending w'.sent j f → slice_get h.base (j - 1) ≡ Some f → IsPending w.sent j f × (j ≢ k)
  was_pending j f p there =
      let at : slice_get w.sent (j - 1) ≡ Some f = base_back (j - 1) f there p.fresh in
      let within : j - 1 < length w.sent = slice_get_within w.sent (j - 1) f at in
      let parts = kept_is (length w'.sent) j p.kept in
      let kept : is_kept (length w.sent) j ≡ true = kept_when (length w.sent) j parts.0 (omega (arith, within, parts.0)) (omega (arith, parts.2, grows)) in
      let before : IsPending w.sent j f = record { there = at; kept = kept; found = p.found; fresh = p.fresh } in (
        before,
        λ e. elim h.marked [
          | inl a ↦ a.1 f (subst (λ i. IsPending w.sent i f) e before)
          | inr b ↦ took_marks w.sent k f (subst (λ i. is_kept (length w.sent) i ≡ true) e kept) (subst (λ fs. slice_get fs (k - 1) ≡ Some f) b (subst (λ i. slice_get h.base (i - 1) ≡ Some f) e there)) p.fresh
        ],
      )

  pub still_pending : (j : ℕ) (f : Flight) → IsPending w'.sent j f → (IsPending w.sent j f × (j ≢ k)) ⊎ ((length w.sent < j) × Contains h.more f)
  still_pending j f p = elim (get_append_cases h.base h.more (j - 1) f (subst (λ fs. slice_get fs (j - 1) ≡ Some f) h.sent p.there)) [
    | inl a ↦ inl (was_pending j f p a)
    | inr b ↦ inr (omega (arith, b.0, base_length, (kept_is (length w'.sent) j p.kept).0), b.1)
  ]

  -- what stands now is new, or has the bytes of what stood there before
  pub bytes_back : (j : ℕ) (f : Flight) → slice_get w'.sent j ≡ Some f → ((g : Flight) × (slice_get w.sent j ≡ Some g) × (g.bytes ≡ f.bytes)) ⊎ Contains h.more f
  bytes_back j f there = elim (get_append_cases h.base h.more j f (subst (λ fs. slice_get fs j ≡ Some f) h.sent there)) [
    | inr b ↦ inr b.1
    | inl a ↦ inl (elim h.marked [
      | inl c ↦ (f, subst (λ fs. slice_get fs j ≡ Some f) c.0 a, refl)
      | inr c ↦ took_bytes_back w.sent k j f (subst (λ fs. slice_get fs j ≡ Some f) c a)
    ])
  ]
