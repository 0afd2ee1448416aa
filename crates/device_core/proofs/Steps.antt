-- What a step keeps, whatever the event.
use Rattle.std.proofs.Common.{arith, ℕ, ◌≡◌, ◌≤◌, ◌^◌, ◌==◌, List, [], ◌∷◌, length, true, false, Bool, refl, sym, ap, ◌∙◌, subst}
use Rattle.std.specs.Prelude.{IfSome, IsOk, Option, Some, None, Result, Ok, Err, IfOk, OnErr, alloc_error, if◌then◌else◌}
use Rattle.std.specs.declared.alloc.AllocError.{AllocError}
use Rattle.rdma_types.specs.Causes.{first_cause}
use Rattle.rdma_types.specs.declared.answers.Answer.TheVariants as answer
use Rattle.rdma_types.specs.declared.answers.ExpiryIgnored.{ExpiryIgnored}
use Rattle.rdma_types.specs.declared.answers.Refusal.{Refusal}
use Rattle.rdma_types.specs.declared.requests.Address.{Address}
use Rattle.rdma_types.specs.declared.requests.Request.{Request}
use Rattle.protocol.specs.declared.events.Event.{Event}
use Rattle.protocol.specs.declared.events.Event.TheVariants as event
use Rattle.protocol.specs.declared.images.ContextImage.{ContextImage}
use Rattle.protocol.specs.declared.images.Outcome.{Outcome}
use Rattle.protocol.specs.DeviceStep.{Found, Step, answers, arrives, arrives_packet, at_found, at_husk, at_link, by_refusal, connects, counts, device_step, done_by, drops, expires, expires_by, found_in, husk_entries, loads, makes_context, makes_domain, makes_end, makes_queue, makes_region, polls, posts, posts_at, receives, releases, restores, rnr_over, sends_by, sends_piece, stops, stores, transmits, waits_out, with_context}
use Rattle.protocol.specs.Lawful.{IsLawful}
use Rattle.protocol.specs.Refusals.{causes_of, refusal_of}
use Rattle.protocol.specs.Requester.{Transmission, SendsResume, Waits, IsIdle, WindowIsFull, ReadsAreFull, IsFenced, Sends, not_counted, transmission}
use Rattle.protocol.specs.State.{Context, Device, End, HuskEntry, Link}
use Rattle.protocol.specs.Wire.{Packet, is_control, packet_of}
use Rattle.context_core.specs.declared.ContextFault.{ContextFault}
use Rattle.context_core.specs.declared.ContextFault.TheVariants.{Refused, OutOfMemory}
use Rattle.rdma_types.specs.declared.names.Name.{Name}
use Rattle.rdma_types.specs.declared.names.ObjName.{ObjName}
use Rattle.context_core.specs.declared.arriving.ArrivalOutcome.{ArrivalOutcome}
use Rattle.context_core.specs.declared.sending.Answered.{Answered}
use Rattle.device_core.specs.Acting.{context_named}
use Rattle.device_core.specs.Done.{AreFew, AreLawful, IsDone, IsNotOutOfMemory, sending, told_arrival, told_by, told_memory, told_sent, told_step, told_transmission}

-- an event that is no arrival
abbrev pub IsQuiet : Event → Type 0
IsQuiet (event.Arrive from bytes) = ⊥
IsQuiet e = Unit {0}

-- an event that is no stop
abbrev pub IsNoStop : Event → Type 0
IsNoStop (event.Stop name alone) = ⊥
IsNoStop e = Unit {0}

-- the device keeps its id and its address, sends at most one datagram and hands out no image
pub record Keeps (d : Device) (quiet stays : Type 0) (s : Step) : Type 0 where
  pub id : s.device.id ≡ d.id
  pub address : s.device.address ≡ d.address
  pub few : quiet → length s.outcome.sent ≤ 1
  pub image : stays → s.outcome.image ≡ None

-- ---- what each event does

posts-keeps : (q i : Type 0) (d : Device) (c : Context) (e : End) (l : Option Link) (r : Request) → Keeps d q i (posts_at d c e l r)
unfolding with_context
posts-keeps q i d c e None r = record { id = refl; address = refl; few = λ x. omega arith; image = λ x. refl }
posts-keeps q i d c e (Some l) r = record { id = refl; address = refl; few = λ x. omega arith; image = λ x. refl }

sends-keeps : (q i : Type 0) (d : Device) (c : Context) (e : End) (l : Link) (t : Transmission) → Keeps d q i (sends_by d c e l t)
unfolding with_context sends_piece
sends-keeps q i d c e l SendsResume = record { id = refl; address = refl; few = λ x. omega arith; image = λ x. refl }
sends-keeps q i d c e l Waits = record { id = refl; address = refl; few = λ x. omega arith; image = λ x. refl }
sends-keeps q i d c e l IsIdle = record { id = refl; address = refl; few = λ x. omega arith; image = λ x. refl }
sends-keeps q i d c e l WindowIsFull = record { id = refl; address = refl; few = λ x. omega arith; image = λ x. refl }
sends-keeps q i d c e l ReadsAreFull = record { id = refl; address = refl; few = λ x. omega arith; image = λ x. refl }
sends-keeps q i d c e l IsFenced = record { id = refl; address = refl; few = λ x. omega arith; image = λ x. refl }
sends-keeps q i d c e l (Sends x) = record { id = refl; address = refl; few = λ y. omega arith; image = λ y. refl }

if-keeps : (q i : Type 0) (d : Device) (b : Bool) (x y : Step) → Keeps d q i x → Keeps d q i y → Keeps d q i (if b then x else y)
if-keeps q i d true x y a b = a
if-keeps q i d false x y a b = b

expires-keeps : (q i : Type 0) (d : Device) (c : Context) (e : End) (l : Link) (w : Option ExpiryIgnored) → Keeps d q i (expires_by d c e l w)
unfolding counts with_context
expires-keeps q i d c e l (Some w) = record { id = refl; address = refl; few = λ x. omega arith; image = λ x. refl }
expires-keeps q i d c e l None = if-keeps q i d (l.sender.spent == l.terms.retry) _ _ (record { id = refl; address = refl; few = λ x. omega arith; image = λ x. refl }) (record { id = refl; address = refl; few = λ x. omega arith; image = λ x. refl })

waits-keeps : (q i : Type 0) (d : Device) (c : Context) (e : End) (l : Link) → Keeps d q i (waits_out d c e l)
unfolding with_context
waits-keeps q i d c e l = if-keeps q i d l.sender.rnr_wait _ _ (record { id = refl; address = refl; few = λ x. omega arith; image = λ x. refl }) (record { id = refl; address = refl; few = λ x. omega arith; image = λ x. refl })

link-keeps : (q i : Type 0) (d : Device) (o : Option Link) (step : Link → Step) → ((l : Link) → Keeps d q i (step l)) → Keeps d q i (at_link d o step)
link-keeps q i d None step h = record { id = refl; address = refl; few = λ x. omega arith; image = λ x. refl }
link-keeps q i d (Some l) step h = h l

husk-keeps : (i : Type 0) (d : Device) (from : Address) (p : Packet) (hs : List HuskEntry) → Keeps d ⊥ i (at_husk d from p hs)
husk-keeps i d from p [] = record { id = refl; address = refl; few = λ x. absurd x; image = λ x. refl }
husk-keeps i d from p (h ∷ hs) = if-keeps ⊥ i d (is_control p) _ _ (record { id = refl; address = refl; few = λ x. absurd x; image = λ x. refl }) (record { id = refl; address = refl; few = λ x. absurd x; image = λ x. refl })

found-keeps : (i : Type 0) (d : Device) (from : Address) (p : Packet) (fs : List Found) → Keeps d ⊥ i (at_found d from p fs)
unfolding with_context
found-keeps i d from p [] = husk-keeps i d from p (husk_entries p.dest d.husks)
found-keeps i d from p (f ∷ fs) = record { id = refl; address = refl; few = λ x. absurd x; image = λ x. refl }

arrives-keeps : (i : Type 0) (d : Device) (from : Address) (o : Option Packet) → Keeps d ⊥ i (arrives_packet d from o)
arrives-keeps i d from None = record { id = refl; address = refl; few = λ x. absurd x; image = λ x. refl }
arrives-keeps i d from (Some p) = found-keeps i d from p (found_in p.dest d.contexts)

done-keeps : (d : Device) (e : Event) → Keeps d (IsQuiet e) (IsNoStop e) (done_by d e)
unfolding arrives connects drops expires loads makes_context makes_domain makes_end makes_queue makes_region polls posts receives releases restores rnr_over stops stores transmits with_context
done-keeps d (event.PostSend o r) = posts-keeps _ _ d _ _ _ r
done-keeps d (event.Transmit o) = link-keeps _ _ d _ _ (λ l. sends-keeps _ _ d _ _ l (transmission l))
done-keeps d (event.Arrive from bytes) = arrives-keeps _ d from (packet_of bytes)
done-keeps d (event.Expire o) = link-keeps _ _ d _ _ (λ l. expires-keeps _ _ d _ _ l (not_counted l))
done-keeps d (event.RnrOver o) = link-keeps _ _ d _ _ (λ l. waits-keeps _ _ d _ _ l)
done-keeps d (event.Stop name alone) = record { id = refl; address = refl; few = λ x. omega arith; image = λ x. absurd x }
done-keeps d e = record { id = refl; address = refl; few = λ x. omega arith; image = λ x. refl }

pub step-keeps : (d : Device) (e : Event) → Keeps d (IsQuiet e) (IsNoStop e) (device_step d e)
unfolding device_step refusal_of
step-keeps d e = by_cause (first_cause (causes_of d e))
  where
    by_cause : (o : Option Refusal) → Keeps d (IsQuiet e) (IsNoStop e) (by_refusal d e o)
    by_cause None = done-keeps d e
    by_cause (Some r) = record { id = refl; address = refl; few = λ x. omega arith; image = λ x. refl }

-- ---- what is told

-- an event that is no arrival sends few
pub few-sent : (d new : Device) (e : Event) (r : Result Outcome ContextFault) → IsQuiet e → IsDone d e new r → AreFew r
few-sent d new e (Ok o) quiet done =
    let one : length o.sent ≤ 1 = subst (λ (s : Step). length s.outcome.sent ≤ 1) done ((step-keeps d e).few quiet) in
    omega (arith, one)
few-sent d new e (Err f) quiet done = tt

-- what a step tells
pub record Told (d new : Device) (e : Event) (told : Result Outcome AllocError) : Type 0 where
  pub ok : IfOk told (λ o. device_step d e ≡ record { device = new; outcome = o })
  pub few : IfOk told (λ o. length o.sent ≤ 2 ^ 32)
  pub id : new.id ≡ d.id
  pub address : new.address ≡ d.address
  pub err : OnErr told (new ≡ d)
  pub refused_first : OnErr told (refusal_of d e ≡ None)

pub told : (d new : Device) (e : Event) (r : Result Outcome ContextFault) (t : Result Outcome AllocError) → t ≡ told_step r → IsDone d e new r → AreFew r → Told d new e t
unfolding refusal_of
told d new e r t tells done few = subst (Told d new e) (sym tells) (by_result r done few)
  where
    by_result : (x : Result Outcome ContextFault) → IsDone d e new x → AreFew x → Told d new e (told_step x)
    by_result (Ok o) h f = record {
      ok = h;
      few = f;
      id = ap (λ (s : Step). s.device.id) (sym h) ∙ (step-keeps d e).id;
      address = ap (λ (s : Step). s.device.address) (sym h) ∙ (step-keeps d e).address;
      err = tt;
      refused_first = tt;
    }
    by_result (Err (Refused w)) h f = record {
      ok = h.0 ∙ ap (λ k. answers k (answer.Refused w)) (sym h.1);
      few = omega arith;
      id = ap (λ (k : Device). k.id) h.1;
      address = ap (λ (k : Device). k.address) h.1;
      err = tt;
      refused_first = tt;
    }
    by_result (Err OutOfMemory) h f = record {
      ok = tt;
      few = tt;
      id = ap (λ (k : Device). k.id) h.0;
      address = ap (λ (k : Device). k.address) h.0;
      err = h.0;
      refused_first = h.1;
    }

-- .. of a step that may only run out of memory
pub told-memory : (d new : Device) (e : Event) (t : Result Outcome AllocError) → IsDone d e new (told_memory t) → IfOk t (λ o. length o.sent ≤ 2 ^ 32) → Told d new e t
told-memory d new e (Ok o) done few = told d new e (Ok o) (Ok o) refl done few
told-memory d new e (Err x) done few = told d new e (Err OutOfMemory) (Err x) refl done tt

-- .. of a datagram that arrives
pub told-arrived : (d new : Device) (e : Event) (r : Result ArrivalOutcome AllocError) (t : Result Outcome AllocError) → t ≡ told_arrival r → IsDone d e new (told_memory (told_arrival r)) → IfOk r (λ a. length a.sent ≤ 2 ^ 32) → Told d new e t
told-arrived d new e r t tells done few = subst (Told d new e) (sym tells) (told-memory d new e (told_arrival r) done (few_of r few))
  where
    few_of : (x : Result ArrivalOutcome AllocError) → IfOk x (λ a. length a.sent ≤ 2 ^ 32) → IfOk (told_arrival x) (λ o. length o.sent ≤ 2 ^ 32)
    few_of (Ok a) h = h
    few_of (Err x) h = tt

pub arrived-is_ok : (r : Result ArrivalOutcome AllocError) (t : Result Answered AllocError) → told_sent t ≡ told_arrival r → IsOk r → IsOk t
arrived-is_ok (Ok x) (Ok a) tells sure = refl
arrived-is_ok (Ok x) (Err e) tells sure = absurd (cc tells)
arrived-is_ok (Err x) t tells sure = absurd (cc sure)

-- .. of a step that hands out no image
pub record ToldAnswered (d new : Device) (e : Event) (told : Result Answered AllocError) : Type 0 where
  pub ok : IfOk told (λ a. device_step d e ≡ record { device = new; outcome = sending a })
  pub few : IfOk told (λ a. length a.sent ≤ 2 ^ 32)
  pub id : new.id ≡ d.id
  pub address : new.address ≡ d.address
  pub err : OnErr told (new ≡ d)
  pub refused_first : OnErr told (refusal_of d e ≡ None)

pub told-answered : (d new : Device) (e : Event) (x : Result Answered AllocError) → Told d new e (told_sent x) → ToldAnswered d new e x
told-answered d new e (Ok a) h = record { ok = h.ok; few = h.few; id = h.id; address = h.address; err = h.err; refused_first = h.refused_first }
told-answered d new e (Err x) h = record { ok = tt; few = tt; id = h.id; address = h.address; err = h.err; refused_first = h.refused_first }

-- .. of a transmission
pub told-transmitted : (d new : Device) (o : ObjName) (r : Result Answered ContextFault) (t : Result Answered AllocError) → t ≡ told_transmission r → IsDone d (event.Transmit o) new (told_by sending r) → ToldAnswered d new (event.Transmit o) t
told-transmitted d new o r t tells done = subst (ToldAnswered d new (event.Transmit o)) (sym tells) (by_result r done)
  where
    by_result : (x : Result Answered ContextFault) → IsDone d (event.Transmit o) new (told_by sending x) → ToldAnswered d new (event.Transmit o) (told_transmission x)
    by_result (Ok a) h = told-answered d new (event.Transmit o) (Ok a) (told d new (event.Transmit o) (Ok (sending a)) _ refl h (few-sent d new (event.Transmit o) (Ok (sending a)) tt h))
    by_result (Err (Refused w)) h = told-answered d new (event.Transmit o) (Ok (record { answer = answer.Refused w; sent = [] })) (told d new (event.Transmit o) (Err (Refused w)) _ refl h tt)
    by_result (Err OutOfMemory) h = told-answered d new (event.Transmit o) (Err alloc_error) (told d new (event.Transmit o) (Err OutOfMemory) _ refl h tt)

-- what such a step tells of the event
pub done-memory : (d new : Device) (e : Event) (t : Result Outcome AllocError) (r : Result Outcome ContextFault) → r ≡ told_memory t → IfOk t (λ o. device_step d e ≡ record { device = new; outcome = o }) → OnErr t (refusal_of d e ≡ None) → OnErr t (new ≡ d) → IsDone d e new r
unfolding refusal_of
done-memory d new e t r tells ok refused err = subst (IsDone d e new) (sym tells) (by_result t ok refused err)
  where
    by_result : (x : Result Outcome AllocError) → IfOk x (λ o. device_step d e ≡ record { device = new; outcome = o }) → OnErr x (refusal_of d e ≡ None) → OnErr x (new ≡ d) → IsDone d e new (told_memory x)
    by_result (Ok o) ok refused err = ok
    by_result (Err x) ok refused err = (err, refused)

-- .. of a transmission
pub done-transmitted : (d new : Device) (o : ObjName) (t : Result Answered AllocError) (r : Result Outcome ContextFault) → r ≡ told_memory (told_sent t) → IfOk t (λ a. device_step d (event.Transmit o) ≡ record { device = new; outcome = sending a }) → OnErr t (refusal_of d (event.Transmit o) ≡ None) → OnErr t (new ≡ d) → IsDone d (event.Transmit o) new r
done-transmitted d new o t r tells ok refused err = done-memory d new (event.Transmit o) (told_sent t) r tells (sent_ok t ok) (sent_err _ t refused) (sent_err _ t err)
  where
    sent_ok : (x : Result Answered AllocError) → IfOk x (λ a. device_step d (event.Transmit o) ≡ record { device = new; outcome = sending a }) → IfOk (told_sent x) (λ y. device_step d (event.Transmit o) ≡ record { device = new; outcome = y })
    sent_ok (Ok a) h = h
    sent_ok (Err e) h = tt

    sent_err : (P : Type 0) (x : Result Answered AllocError) → OnErr x P → OnErr (told_sent x) P
    sent_err P (Ok a) h = tt
    sent_err P (Err e) h = h

-- .. of an arrival, which is never refused
pub done-arrived : (d new : Device) (from : Address) (bytes : List ℕ) (t : Result Outcome AllocError) (r : Result Outcome ContextFault) → r ≡ told_memory t → IfOk t (λ o. device_step d (event.Arrive from bytes) ≡ record { device = new; outcome = o }) → OnErr t (new ≡ d) → IsDone d (event.Arrive from bytes) new r
unfolding refusal_of first_cause
done-arrived d new from bytes t r tells ok err = done-memory d new (event.Arrive from bytes) t r tells ok (never t) err
  where
    never : (x : Result Outcome AllocError) → OnErr x (refusal_of d (event.Arrive from bytes) ≡ None)
    never (Ok o) = tt
    never (Err e) = refl

pub told-not_out_of_memory : (r : Result Outcome ContextFault) (t : Result Outcome AllocError) → t ≡ told_step r → IsNotOutOfMemory r → IsOk t
told-not_out_of_memory r t tells sure = subst IsOk (sym tells) (by_result r sure)
  where
    by_result : (x : Result Outcome ContextFault) → IsNotOutOfMemory x → IsOk (told_step x)
    by_result (Ok o) s = refl
    by_result (Err (Refused w)) s = refl
    by_result (Err OutOfMemory) s = absurd s

-- ---- images

none-lawful : (o : Option ContextImage) → o ≡ None → IfSome o (λ i. IsLawful i)
none-lawful None e = tt
none-lawful (Some i) e = absurd (cc)

-- an event that is no stop hands out none
pub no-image : (d new : Device) (e : Event) (r : Result Outcome ContextFault) → IsNoStop e → IsDone d e new r → AreLawful r
no-image d new e (Ok o) stays done = none-lawful o.image (ap (λ (s : Step). s.outcome.image) (sym done) ∙ (step-keeps d e).image stays)
no-image d new e (Err f) stays done = tt

pub told-image : (r : Result Outcome ContextFault) (t : Result Outcome AllocError) → t ≡ told_step r → AreLawful r → IfOk t (λ o. IfSome o.image (λ i. IsLawful i))
told-image r t tells lawful = subst (λ x. IfOk x (λ o. IfSome o.image (λ i. IsLawful i))) (sym tells) (by_result r lawful)
  where
    by_result : (x : Result Outcome ContextFault) → AreLawful x → IfOk (told_step x) (λ o. IfSome o.image (λ i. IsLawful i))
    by_result (Ok o) h = h
    by_result (Err (Refused w)) h = tt
    by_result (Err OutOfMemory) h = tt

-- an event of a context is neither
named_is_neither : (e : Event) → IfSome (context_named e) (λ n. IsQuiet e × IsNoStop e)
named_is_neither (event.MakeDomain o) = (tt, tt)
named_is_neither (event.MakeCq o capacity) = (tt, tt)
named_is_neither (event.Connect o peer partner terms) = (tt, tt)
named_is_neither (event.DropRegion o) = (tt, tt)
named_is_neither (event.Store o at bytes) = (tt, tt)
named_is_neither (event.Load o at count) = (tt, tt)
named_is_neither (event.PostSend o r) = (tt, tt)
named_is_neither (event.PostRecv o r) = (tt, tt)
named_is_neither (event.Poll o most) = (tt, tt)
named_is_neither (event.Expire o) = (tt, tt)
named_is_neither (event.RnrOver o) = (tt, tt)
named_is_neither e = tt

pub named-is-neither : (e : Event) (n : Name) → context_named e ≡ Some n → IsQuiet e × IsNoStop e
named-is-neither e n h = subst (λ o. IfSome o (λ m. IsQuiet e × IsNoStop e)) h (named_is_neither e)
