-- Bytes that arrive change only what they may.
use Rattle.std.proofs.Common.{◌≡◌, ◌≢◌, ◌⊎◌, ℕ, List, [], ◌∷◌, true, false, Bool, refl, sym, ap, ◌∙◌, inl, inr, subst}
use Rattle.std.specs.Prelude.{All, Option, Some, None, bytes_eq, if◌then◌else◌, is_some, slice_get, ◌++◌, ◌==◌, ◌&&◌, ◌||◌}
use Rattle.std.proofs.lemmas.List.Elements.{All-append, All-cons, All-head, All-nil, All-tail}
use Rattle.rdma_types.specs.declared.answers.Answer.TheVariants as answer
use Rattle.rdma_types.specs.declared.answers.DropReason.TheVariants as why
use Rattle.rdma_types.specs.declared.answers.ArrivalEffect.TheVariants as took
use Rattle.rdma_types.specs.declared.names.Name.{Name}
use Rattle.rdma_types.specs.declared.requests.Address.{Address}
use Rattle.rdma_types.specs.declared.requests.Receive.{Receive}
use Rattle.rdma_types.specs.Lists.{has_name, named, some, store_named}
use Rattle.rdma_types.specs.Objects.{Region}
use Rattle.rdma_types.proofs.Tables.{named-store_other, named-store_same}
use Rattle.protocol.specs.declared.events.Event.TheVariants as event
use Rattle.protocol.specs.DeviceStep.{Found, Step, answers, arrives, arrives_packet, at_found, at_husk, device_step, ends_with, found_in, found_link, gives, husk_entries, took_answer, with_context}
use Rattle.protocol.specs.EndStep.{takes, takes_kind, takes_other}
use Rattle.protocol.specs.EndWords.{in_use_by, is_paused, silent}
use Rattle.protocol.specs.Memory.{region_of_key}
use Rattle.protocol.specs.Moves.{Control, control_of, nak_stopped}
use Rattle.protocol.specs.Refusals.{refusal_of}
use Rattle.protocol.specs.Requester.{takes_response}
use Rattle.protocol.specs.Responder.{is_read_request, is_send, is_write, takes_request}
use Rattle.protocol.specs.State.{Context, Device, End, HuskEntry, Link, Receiver, context_at, end_at, no_context, queue_at}
use Rattle.protocol.specs.Wire.{Packet, is_control, is_request, packet_of, wire_of}
use Rattle.rdma_types.specs.Causes.{first_cause}
use Rattle.protocol.specs.Changes.{is_atomic_byte, is_message_byte, is_receive_byte, is_reth_byte, may_change}
use Rattle.law_devices.specs.Sound.{IsSoundContext, IsSoundDevice}
use Rattle.law_devices.proofs.Founds.{IsFoundThere, all-at, founds-there, named-at}
use Rattle.law_devices.proofs.Opcodes.{HasNoWord, reads-no-word}
use Rattle.law_devices.proofs.Rooms.{IsHere}
use Rattle.law_devices.proofs.Tables.{map-store, name_tells}
use Rattle.law_arrivals.specs.Touched.{ChangesOnly, HasDistinctContexts, frame, is_landing_byte, is_touched, is_touched_at, is_touched_by, may_touch}
use Rattle.law_arrivals.specs.Reach.{OnlyNotes, Reaches, ReachesBy, ReachesEnd, ReachesFirst, ReachesIn, is_in_window, may_change_by, may_reach, may_serve, may_write}
use Rattle.law_arrivals.proofs.Changes.{Changes, changes-frame, changes-none, changes-weaker}
use Rattle.law_arrivals.proofs.Landing.{response_fine}
use Rattle.law_arrivals.proofs.Outside.{takes_notes}
use Rattle.law_arrivals.proofs.Serving.{request_fine}
use Rattle.law_arrivals.proofs.Steps as steps

-- ---- what may be reached may be touched

or-none : (a b : Bool) → (a || b) ≡ false → (a ≡ false) × (b ≡ false)
or-none true b h = absurd (cc)
or-none false b h = (refl, h)

pick-none : (sends writes reth reads first on receive atomic : Bool) → first ≡ false → on ≡ false → receive ≡ false → atomic ≡ false → (if sends then receive else if writes then (if reth then first else on) else if reads then false else atomic) ≡ false
pick-none true writes reth reads first on receive atomic f m v a = v
pick-none false true true reads first on receive atomic f m v a = f
pick-none false true false reads first on receive atomic f m v a = m
pick-none false false reth true first on receive atomic f m v a = refl
pick-none false false reth false first on receive atomic f m v a = a

write-less : (domain : Name) (receiver : Receiver) (unused : List Receive) (d : Packet) (r : Region) (k : ℕ) → may_change domain receiver unused d r k ≡ false → may_write domain receiver unused d r k ≡ false
write-less domain receiver unused d r k h =
    let one = or-none (is_reth_byte domain r k d.reth) _ h in
    let two = or-none (is_atomic_byte domain r k d.atomic) _ one.1 in
    let three = or-none (is_message_byte r k receiver.progress) (is_receive_byte r k (in_use_by receiver.progress ++ unused)) two.1 in
    pick-none (is_send d.opcode) (is_write d.opcode) (is_some d.reth) (is_read_request d.opcode) (is_reth_byte domain r k d.reth) (is_message_byte r k receiver.progress) (is_receive_byte r k (in_use_by receiver.progress ++ unused)) (is_atomic_byte domain r k d.atomic) one.0 three.0 three.1 two.0

serve-less : (e : End) (l : Link) (d : Packet) (r : Region) (k : ℕ) → may_touch e l d r k ≡ false → may_serve e l d r k ≡ false
serve-less e l d r k = by (is_request d.opcode)
  where
    by : (b : Bool) → (if b then may_change e.domain l.receiver e.unused d r k else some (is_landing_byte r k) l.sender.untold) ≡ false → (if b then may_write e.domain l.receiver e.unused d r k else some (is_landing_byte r k) l.sender.untold) ≡ false
    by true h = write-less e.domain l.receiver e.unused d r k h
    by false h = h

reach-less : (e : End) (l : Link) (d : Packet) (m : Option Control) (r : Region) (k : ℕ) → may_touch e l d r k ≡ false → may_change_by e l d m r k ≡ false
reach-less e l d None r k h = serve-less e l d r k h
reach-less e l d (Some m) r k h = refl

-- ---- an end

module _ (c : Context) (e : End) (l : Link) (s : IsSoundContext c) (here : IsHere c e) (there : e.link ≡ Some l) (d : Packet) (no_word : HasNoWord d) where
  other_fine : Changes (may_serve e l d) c e (takes_other c e l d).context
  other_fine = by_kind (is_request d.opcode)
    where
      by_kind : (b : Bool) → Changes (λ r k. if b then may_write e.domain l.receiver e.unused d r k else some (is_landing_byte r k) l.sender.untold) c e (if b then (if is_paused l.moving.phase then silent c why.Paused else takes_request c e l d) else takes_response c e l d).context
      by_kind true = steps.if_fine (may_write e.domain l.receiver e.unused d) c e l s here there (is_paused l.moving.phase) (silent c why.Paused) _ (changes-none (may_write e.domain l.receiver e.unused d) c e) (request_fine c e l s here there d no_word)
      by_kind false = response_fine c e l s here there d

  kind_fine : (m : Option Control) → Changes (may_change_by e l d m) c e (takes_kind c e l d m).context
  kind_fine (Some m) = steps.control_fine (may_change_by e l d (Some m)) c e l s here there m
  kind_fine None = other_fine

  pub takes_fine : Changes (may_reach e l d) c e (takes c e l d).context
  unfolding takes
  takes_fine = steps.if_fine (may_reach e l d) c e l s here there l.ended (silent c why.Ended) (takes_kind c e l d (control_of d)) (changes-none (may_reach e l d) c e) (kind_fine (control_of d))

  -- .. where more may change
  takes_touched : Changes (may_touch e l d) c e (takes c e l d).context
  takes_touched = changes-weaker (may_reach e l d) (may_touch e l d) c e (takes c e l d).context (λ r k. reach-less e l d (control_of d) r k) takes_fine

-- ---- a device

-- a context that is found under its name
pub record IsNamed (cs : List Context) (c : Context) : Type 0 where
  pub there : has_name (λ x. x.name) c.name cs ≡ true
  pub is : named (λ x. x.name) no_context c.name cs ≡ c

ends-named : (cs : List Context) (n : ℕ) (c : Context) (es : List End) → IsNamed cs c → All (λ f. IsNamed cs f.context) (ends_with n c es)
unfolding ends_with
ends-named cs n c [] h = All-nil (λ (f : Found). IsNamed cs f.context)
ends-named cs n c (e ∷ es) h = by_test (e.number == n) (ends-named cs n c es h)
  where
    by_link : (o : Option Link) → All (λ f. IsNamed cs f.context) (ends_with n c es) → All (λ f. IsNamed cs f.context) (found_link c e o (ends_with n c es))
    by_link None later = later
    by_link (Some l) later = All-cons (λ (f : Found). IsNamed cs f.context) (record { context = c; end = e; link = l }) (ends_with n c es) h later

    by_test : (b : Bool) → All (λ f. IsNamed cs f.context) (ends_with n c es) → All (λ f. IsNamed cs f.context) (if b then found_link c e e.link (ends_with n c es) else ends_with n c es)
    by_test true later = by_link e.link later
    by_test false later = later

founds-named : (cs : List Context) (n : ℕ) (xs : List Context) → All (IsNamed cs) xs → All (λ f. IsNamed cs f.context) (found_in n xs)
unfolding found_in
founds-named cs n [] all = All-nil (λ (f : Found). IsNamed cs f.context)
founds-named cs n (c ∷ xs) all = All-append (λ (f : Found). IsNamed cs f.context) (ends_with n c c.ends) (found_in n xs) (ends-named cs n c c.ends (All-head (IsNamed cs) c xs all)) (founds-named cs n xs (All-tail (IsNamed cs) c xs all))

all-named : (d : Device) → HasDistinctContexts d → All (IsNamed d.contexts) d.contexts
all-named d apart = all-at (IsNamed d.contexts) d.contexts (λ i c there. let both = named-at (λ (x : Context). x.name) no_context d.contexts i c apart there in record { there = both.0; is = both.1 })

pub changes-nothing : (touched : Name → ℕ → ℕ → Bool) (d : Device) → ChangesOnly touched d d
changes-nothing touched d = record { bytes = λ name lkey k out. refl; frames = refl; husks = refl; id = refl; address = refl; qp_count = refl; key_count = refl }

-- .. and more may be touched
pub changes-more : (touched touched' : Name → ℕ → ℕ → Bool) (d d' : Device) → ((name : Name) (lkey k : ℕ) → touched' name lkey k ≡ false → touched name lkey k ≡ false) → ChangesOnly touched d d' → ChangesOnly touched' d d'
changes-more touched touched' d d' less h = record { bytes = λ name lkey k out. h.bytes name lkey k (less name lkey k out); frames = h.frames; husks = h.husks; id = h.id; address = h.address; qp_count = h.qp_count; key_count = h.key_count }

-- the device with a context in which only bytes that may change have changed
pub changes-context : (d : Device) (c : Context) (e : End) (c' : Context) (may : Region → ℕ → Bool) → IsNamed d.contexts c → Changes may c e c' → ChangesOnly (λ name lkey k. bytes_eq c.name name && may (region_of_key c lkey) k) d (with_context d c')
unfolding with_context
changes-context d c e c' may h changes = record {
  bytes = λ name lkey k out. by_name name lkey k (name_tells c.name name) out;
  frames = map-store frame (λ x. x.name) no_context c'.name c' d.contexts (ap (λ n. has_name (λ (x : Context). x.name) n d.contexts) changes.name ∙ h.there)
      (changes-frame may c e c' changes ∙ sym (ap (λ n. frame (named (λ x. x.name) no_context n d.contexts)) changes.name ∙ ap frame h.is));
  husks = refl;
  id = refl;
  address = refl;
  qp_count = refl;
  key_count = refl;
}
  where
    by_name : (name : Name) (lkey k : ℕ) → ((bytes_eq c.name name ≡ true) × (c.name ≡ name)) ⊎ ((bytes_eq c.name name ≡ false) × (c.name ≢ name)) → (bytes_eq c.name name && may (region_of_key c lkey) k) ≡ false
        → slice_get (region_of_key (named (λ x. x.name) no_context name (store_named (λ x. x.name) c'.name c' d.contexts)) lkey).bytes k ≡ slice_get (region_of_key (named (λ x. x.name) no_context name d.contexts) lkey).bytes k
    by_name name lkey k (inl t) out =
        let no : may (region_of_key c lkey) k ≡ false = subst (λ b. (b && may (region_of_key c lkey) k) ≡ false) t.0 out in
        let after : named (λ x. x.name) no_context name (store_named (λ x. x.name) c'.name c' d.contexts) ≡ c' = ap (λ n. named (λ x. x.name) no_context n (store_named (λ x. x.name) c'.name c' d.contexts)) (sym (changes.name ∙ t.1)) ∙ named-store_same (λ x. x.name) no_context c'.name c' d.contexts refl in
        let before : named (λ x. x.name) no_context name d.contexts ≡ c = ap (λ n. named (λ x. x.name) no_context n d.contexts) (sym t.1) ∙ h.is in
        ap (λ x. slice_get (region_of_key x lkey).bytes k) after ∙ (changes.bytes lkey k no ∙ ap (λ x. slice_get (region_of_key x lkey).bytes k) (sym before))
    by_name name lkey k (inr t) out = ap (λ x. slice_get (region_of_key x lkey).bytes k) (named-store_other (λ x. x.name) no_context c'.name name c' d.contexts refl (ap (λ n. bytes_eq n name) changes.name ∙ t.0))

either : (touched : Name → ℕ → ℕ → Bool) (d : Device) (b : Bool) (x y : Step) → ChangesOnly touched d x.device → ChangesOnly touched d y.device → ChangesOnly touched d (if b then x else y).device
either touched d true x y h g = h
either touched d false x y h g = g

at-husk : (touched : Name → ℕ → ℕ → Bool) (d : Device) (from : Address) (p : Packet) (hs : List HuskEntry) → ChangesOnly touched d (at_husk d from p hs).device
at-husk touched d from p [] = changes-nothing touched d
at-husk touched d from p (h ∷ hs) = either touched d (is_control p) (answers d (took_answer (took.Silent why.Unknown) [])) (gives d (answer.Took took.Stopped 0 1) (record { to = from; number = None; bytes = wire_of (nak_stopped h p.psn) } ∷ [])) (changes-nothing touched d) (changes-nothing touched d)

pub arriving : (d : Device) (from : Address) (bytes : List ℕ) → IsSoundDevice d → HasDistinctContexts d → ChangesOnly (is_touched d bytes) d (arrives d from bytes).device
unfolding arrives is_touched
arriving d from bytes s apart = by_packet (packet_of bytes) refl
  where
    by_found : (p : Packet) → HasNoWord p → (fs : List Found) → All (IsFoundThere d) fs → All (λ f. IsNamed d.contexts f.context) fs → ChangesOnly (is_touched_at fs p) d (at_found d from p fs).device
    by_found p no_word [] all names = at-husk (is_touched_at [] p) d from p (husk_entries p.dest d.husks)
    by_found p no_word (f ∷ fs) all names =
        let h = All-head (IsFoundThere d) f fs all in
        changes-context d f.context f.end _ (may_touch f.end f.link p) (All-head (λ (x : Found). IsNamed d.contexts x.context) f fs names) (takes_touched f.context f.end f.link h.sound h.here h.linked p no_word)

    by_packet : (o : Option Packet) → packet_of bytes ≡ o → ChangesOnly (is_touched_by d o) d (arrives_packet d from o).device
    by_packet None t = changes-nothing (is_touched_by d None) d
    by_packet (Some p) t = by_found p (reads-no-word bytes p t) (found_in p.dest d.contexts) (founds-there d p.dest d.contexts s.contexts s.counted) (founds-named d.contexts p.dest d.contexts (all-named d apart))

pub arrivals-change : (d : Device) (from : Address) (bytes : List ℕ) → IsSoundDevice d → HasDistinctContexts d → ChangesOnly (is_touched d bytes) d (device_step d (event.Arrive from bytes)).device
unfolding device_step refusal_of first_cause
arrivals-change d from bytes s apart = arriving d from bytes s apart

-- ---- the end that is reached

-- the device with a context in which one end was reached
reaches-context : (d : Device) (f : Found) (p : Packet) (c' : Context) → IsNamed d.contexts f.context → Changes (may_reach f.end f.link p) f.context f.end c' → (control_of p ≡ None → is_in_window f.link p ≡ false → OnlyNotes f.end f.link f.context c') → ReachesEnd f p d (with_context d c')
unfolding with_context
reaches-context d f p c' h changes notes = record {
  there = h.is;
  context = record {
    bytes = λ lkey k out. ap (λ x. slice_get (region_of_key x lkey).bytes k) after ∙ changes.bytes lkey k out;
    other_ends = λ n far. ap (λ x. end_at x n) after ∙ changes.other_ends n far;
    other_queues = λ n far further. ap (λ x. queue_at x n) after ∙ changes.other_queues n far further;
    frames = ap frame after ∙ changes-frame (may_reach f.end f.link p) f.context f.end c' changes;
  };
  outside = λ none out. subst (OnlyNotes f.end f.link f.context) (sym after) (notes none out);
  other_contexts = λ n far. named-store_other (λ x. x.name) no_context c'.name n c' d.contexts refl (apart n far (name_tells c'.name n));
  husks = refl;
  id = refl;
  address = refl;
  qp_count = refl;
  key_count = refl;
}
  where
    after : named (λ x. x.name) no_context f.context.name (store_named (λ x. x.name) c'.name c' d.contexts) ≡ c'
    after = ap (λ n. named (λ x. x.name) no_context n (store_named (λ x. x.name) c'.name c' d.contexts)) (sym changes.name) ∙ named-store_same (λ x. x.name) no_context c'.name c' d.contexts refl

    apart : (n : Name) → n ≢ f.context.name → ((bytes_eq c'.name n ≡ true) × (c'.name ≡ n)) ⊎ ((bytes_eq c'.name n ≡ false) × (c'.name ≢ n)) → bytes_eq c'.name n ≡ false
    apart n far (inl t) = absurd (far (sym t.1 ∙ changes.name))
    apart n far (inr t) = t.0

-- a husk answers, or nobody
husk-same : (d : Device) (from : Address) (p : Packet) (hs : List HuskEntry) → (at_husk d from p hs).device ≡ d
husk-same d from p [] = refl
husk-same d from p (h ∷ hs) = by (is_control p)
  where
    by : (b : Bool) → (if b then answers d (took_answer (took.Silent why.Unknown) []) else gives d (answer.Took took.Stopped 0 1) (record { to = from; number = None; bytes = wire_of (nak_stopped h p.psn) } ∷ [])).device ≡ d
    by true = refl
    by false = refl

reaching : (d : Device) (from : Address) (bytes : List ℕ) → IsSoundDevice d → HasDistinctContexts d → Reaches bytes d (arrives d from bytes).device
unfolding arrives
reaching d from bytes s apart = by_packet (packet_of bytes) refl
  where
    by_found : (p : Packet) → HasNoWord p → (fs : List Found) → All (IsFoundThere d) fs → All (λ f. IsNamed d.contexts f.context) fs → ReachesFirst fs p d (at_found d from p fs).device
    by_found p no_word [] all names = husk-same d from p (husk_entries p.dest d.husks)
    by_found p no_word (f ∷ fs) all names =
        let h = All-head (IsFoundThere d) f fs all in
        reaches-context d f p _ (All-head (λ (x : Found). IsNamed d.contexts x.context) f fs names) (takes_fine f.context f.end f.link h.sound h.here h.linked p no_word) (takes_notes f.context f.end f.link p)

    by_packet : (o : Option Packet) → packet_of bytes ≡ o → ReachesBy o d (arrives_packet d from o).device
    by_packet None t = refl
    by_packet (Some p) t = by_found p (reads-no-word bytes p t) (found_in p.dest d.contexts) (founds-there d p.dest d.contexts s.contexts s.counted) (founds-named d.contexts p.dest d.contexts (all-named d apart))

pub arrivals-reach : (d : Device) (from : Address) (bytes : List ℕ) → IsSoundDevice d → HasDistinctContexts d → Reaches bytes d (device_step d (event.Arrive from bytes)).device
unfolding device_step refusal_of first_cause
arrivals-reach d from bytes s apart = reaching d from bytes s apart
