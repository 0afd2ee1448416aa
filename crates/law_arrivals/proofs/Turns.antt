-- Transmissions, expiries and ends of RNR timers change no memory, and a run of turns only what its arrivals may.
use Rattle.std.proofs.Common.{◌≡◌, ◌≢◌, ℕ, List, [], ◌∷◌, map, true, false, Bool, refl, sym, ap, ◌∙◌, subst}
use Rattle.std.specs.Prelude.{All, AllPairs, Option, Some, None, if◌then◌else◌, not, ◌==◌, ◌&&◌, ◌||◌}
use Rattle.std.proofs.lemmas.List.Elements.{All-head, All-tail}
use Rattle.rdma_types.specs.Causes.{Cause, cause, first_cause}
use Rattle.rdma_types.specs.declared.answers.Answer.TheVariants as answer
use Rattle.rdma_types.specs.declared.answers.ExpiryIgnored.{ExpiryIgnored}
use Rattle.rdma_types.specs.declared.answers.Refusal.{Refusal}
use Rattle.rdma_types.specs.declared.answers.Refusal.TheVariants.{NoSuch}
use Rattle.rdma_types.specs.declared.names.Name.{Name}
use Rattle.rdma_types.specs.declared.names.ObjName.{ObjName}
use Rattle.rdma_types.specs.declared.requests.WcStatus.TheVariants as status
use Rattle.rdma_types.specs.Lists.{has_name, named}
use Rattle.rdma_types.specs.Objects.{Region}
use Rattle.protocol.specs.declared.events.Event.{Event}
use Rattle.protocol.specs.declared.events.Event.TheVariants as event
use Rattle.protocol.specs.DeviceStep.{Step, answers, at_link, by_refusal, counts, device_step, done_by, expires, expires_by, rnr_over, sends_by, sends_piece, transmits, waits_out, with_context}
use Rattle.protocol.specs.EndWords.{with_sender, with_unused}
use Rattle.protocol.specs.Events.{IsLawfulEvent}
use Rattle.protocol.specs.Refusals.{causes_of, has_end, refusal_of}
use Rattle.protocol.specs.Replay.{replay}
use Rattle.protocol.specs.Requester.{IsFenced, IsIdle, ReadsAreFull, Sends, SendsResume, Transmission, Waits, WindowIsFull, counted, not_counted, transmission, transmitted, waited_out}
use Rattle.protocol.specs.State.{Context, Device, End, Link, context_at, end_at, no_context}
use Rattle.law_devices.specs.Sound.{GivesNames, IsSoundContext, IsSoundDevice}
use Rattle.law_devices.proofs.Founds.{Within, here-named, live, no-cause, not-false, within-context}
use Rattle.law_devices.proofs.Law.{stays-sound}
use Rattle.law_devices.proofs.Rooms.{IsHere}
use Rattle.law_devices.proofs.Tables.{name-named_there}
use Rattle.law_arrivals.specs.Touched.{ChangesOnly, HasDistinctContexts, frame}
use Rattle.law_arrivals.specs.Turns.{IsOfTurn, is_touched_by_event, is_touched_in}
use Rattle.law_arrivals.proofs.Arriving.{IsNamed, arriving, changes-context, changes-more, changes-nothing}
use Rattle.law_arrivals.proofs.Changes.{Changes}
use Rattle.law_arrivals.proofs.Steps as steps

-- ---- an end

abbrev untouched : Name → ℕ → ℕ → Bool
untouched name lkey k = false

abbrev none_may : Region → ℕ → Bool
none_may r k = false

module _ (d : Device) (c : Context) (e : End) (s : IsSoundContext c) (here : IsHere c e) (found : IsNamed d.contexts c) where
  abbrev Fine : Step → Type 0
  Fine x = ChangesOnly untouched d x.device

  still : ChangesOnly untouched d d
  still = changes-nothing untouched d

  goes : (c' : Context) → Changes none_may c e c' → ChangesOnly untouched d (with_context d c')
  goes c' h = changes-more _ untouched d (with_context d c') (λ name lkey k out. nowhere _) (changes-context d c e c' none_may found h)
    where
      nowhere : (b : Bool) → (b && false) ≡ false
      nowhere true = refl
      nowhere false = refl

  if_fine : (b : Bool) (x y : Step) → Fine x → Fine y → Fine (if b then x else y)
  if_fine true x y h g = h
  if_fine false x y h g = g

  module _ (l : Link) (there : e.link ≡ Some l) where
    none : Changes none_may c e c
    none = steps.none none_may c e l s here there

    sends_fine : (t : Transmission) → Fine (sends_by d c e l t)
    unfolding sends_piece transmitted with_sender
    sends_fine SendsResume = still
    sends_fine Waits = still
    sends_fine IsIdle = still
    sends_fine WindowIsFull = still
    sends_fine ReadsAreFull = still
    sends_fine IsFenced = still
    sends_fine (Sends x) = goes _ (steps.to_link none_may c e l s here there c (transmitted l x) none refl refl)

    counts_fine : Fine (counts d c e l)
    unfolding counts with_sender with_unused
    counts_fine =
        if_fine (l.sender.spent == l.terms.retry) _ _
        (goes _ (steps.to_ended none_may c e l s here there c e.unused l status.RetryExceeded none refl refl))
        (goes _ (steps.to_link none_may c e l s here there c (record l { sender = counted l.sender }) none refl refl))

    expires_fine : (o : Option ExpiryIgnored) → Fine (expires_by d c e l o)
    expires_fine None = counts_fine
    expires_fine (Some w) = still

    over_fine : Fine (waits_out d c e l)
    unfolding with_sender
    over_fine = if_fine l.sender.rnr_wait _ (answers d answer.NotWaiting) (goes _ (steps.to_link none_may c e l s here there c (record l { sender = waited_out l.sender }) none refl refl)) still

  at-link : (o : Option Link) → e.link ≡ o → (step : Link → Step) → ((l : Link) → e.link ≡ Some l → Fine (step l)) → Fine (at_link d o step)
  at-link None h step fine = still
  at-link (Some l) h step fine = fine l h

  pub transmit_fine : Fine (transmits d c e)
  unfolding transmits
  transmit_fine = at-link e.link refl (λ l. sends_by d c e l (transmission l)) (λ l there. sends_fine l there (transmission l))

  pub expire_fine : Fine (expires d c e)
  unfolding expires
  expire_fine = at-link e.link refl (λ l. expires_by d c e l (not_counted l)) (λ l there. expires_fine l there (not_counted l))

  pub rnr_fine : Fine (rnr_over d c e)
  unfolding rnr_over
  rnr_fine = at-link e.link refl (λ l. waits_out d c e l) (λ l there. over_fine l there)

-- ---- an event

-- the end that an event names is there
record IsThere (d : Device) (o : ObjName) : Type 0 where
  sound : IsSoundContext (context_at d o.context)
  here : IsHere (context_at d o.context) (end_at (context_at d o.context) o.name)
  found : IsNamed d.contexts (context_at d o.context)

end-there : (d : Device) (o : ObjName) (causes : List Cause) → IsSoundDevice d → Within d o.context (cause NoSuch (not (has_end (context_at d o.context) o.name)) ∷ causes) → IsThere d o
end-there d o causes s w =
    let a = no-cause _ causes w.none in
    let name : (context_at d o.context).name ≡ o.context = name-named_there (λ (x : Context). x.name) no_context o.context d.contexts w.there in
    record {
      sound = (live d o.context s w.there).sound;
      here = here-named (context_at d o.context) o.name (not-false (has_end (context_at d o.context) o.name) a.0);
      found = record { there = ap (λ n. has_name (λ (x : Context). x.name) n d.contexts) name ∙ w.there; is = ap (λ n. named (λ x. x.name) no_context n d.contexts) name };
    }

done-changes : (d : Device) (e : Event) → IsOfTurn e → IsSoundDevice d → HasDistinctContexts d → first_cause (causes_of d e) ≡ None → ChangesOnly (is_touched_by_event d e) d (done_by d e).device
done-changes d (event.Arrive from bytes) turn s apart h = arriving d from bytes s apart
done-changes d (event.Transmit o) turn s apart h = let x = end-there d o _ s (within-context d o.context _ _ _ refl h) in transmit_fine d (context_at d o.context) (end_at (context_at d o.context) o.name) x.sound x.here x.found
done-changes d (event.Expire o) turn s apart h = let x = end-there d o _ s (within-context d o.context _ _ _ refl h) in expire_fine d (context_at d o.context) (end_at (context_at d o.context) o.name) x.sound x.here x.found
done-changes d (event.RnrOver o) turn s apart h = let x = end-there d o _ s (within-context d o.context _ _ _ refl h) in rnr_fine d (context_at d o.context) (end_at (context_at d o.context) o.name) x.sound x.here x.found
done-changes d e turn s apart h = absurd turn

pub turn-changes : (d : Device) (e : Event) → IsOfTurn e → IsSoundDevice d → HasDistinctContexts d → ChangesOnly (is_touched_by_event d e) d (device_step d e).device
unfolding device_step refusal_of
turn-changes d e turn s apart = by_cause (first_cause (causes_of d e)) refl
  where
    by_cause : (o : Option Refusal) → first_cause (causes_of d e) ≡ o → ChangesOnly (is_touched_by_event d e) d (by_refusal d e o).device
    by_cause None h = done-changes d e turn s apart h
    by_cause (Some r) h = changes-nothing (is_touched_by_event d e) d

-- ---- a run

-- two changes, one after the other
changes-both : (touched touched' : Name → ℕ → ℕ → Bool) (d d1 d2 : Device) → ChangesOnly touched d d1 → ChangesOnly touched' d1 d2 → ChangesOnly (λ name lkey k. touched name lkey k || touched' name lkey k) d d2
changes-both touched touched' d d1 d2 h g = record {
  bytes = λ name lkey k out. let both = neither (touched name lkey k) (touched' name lkey k) out in g.bytes name lkey k both.1 ∙ h.bytes name lkey k both.0;
  frames = g.frames ∙ h.frames;
  husks = g.husks ∙ h.husks;
  id = g.id ∙ h.id;
  address = g.address ∙ h.address;
  qp_count = g.qp_count ∙ h.qp_count;
  key_count = g.key_count ∙ h.key_count;
}
  where
    neither : (a b : Bool) → (a || b) ≡ false → (a ≡ false) × (b ≡ false)
    neither true b t = absurd (cc)
    neither false b t = (refl, t)

names-frames : (cs : List Context) → map (λ c. c.name) (map frame cs) ≡ map (λ c. c.name) cs
unfolding frame
names-frames [] = refl
names-frames (c ∷ cs) = ap (λ ns. c.name ∷ ns) (names-frames cs)

-- contexts keep their names
still-distinct : (touched : Name → ℕ → ℕ → Bool) (d d' : Device) → ChangesOnly touched d d' → HasDistinctContexts d → HasDistinctContexts d'
still-distinct touched d d' h apart = subst (AllPairs (λ a b. a ≢ b)) (sym (names-frames d.contexts) ∙ (ap (map (λ (c : Context). c.name)) (sym h.frames) ∙ names-frames d'.contexts)) apart

lawful-turn : (e : Event) → IsOfTurn e → IsLawfulEvent e × GivesNames e
lawful-turn (event.Arrive from bytes) turn = (tt, tt)
lawful-turn (event.Transmit o) turn = (tt, tt)
lawful-turn (event.Expire o) turn = (tt, tt)
lawful-turn (event.RnrOver o) turn = (tt, tt)
lawful-turn e turn = absurd turn

pub run-changes : (d : Device) (es : List Event) → All IsOfTurn es → IsSoundDevice d → HasDistinctContexts d → ChangesOnly (is_touched_in d es) d (replay d es)
unfolding is_touched_in replay
run-changes d [] all s apart = changes-nothing (λ name lkey k. false) d
run-changes d (e ∷ es) all s apart =
    let turn = All-head IsOfTurn e es all in
    let law = lawful-turn e turn in
    let first = turn-changes d e turn s apart in
    changes-both (is_touched_by_event d e) (is_touched_in (device_step d e).device es) d (device_step d e).device (replay (device_step d e).device es) first
    (run-changes (device_step d e).device es (All-tail IsOfTurn e es all) (stays-sound d e s law.0 law.1) (still-distinct (is_touched_by_event d e) d (device_step d e).device first apart))
