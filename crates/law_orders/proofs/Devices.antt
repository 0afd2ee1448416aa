-- What stays of a device over a step, and what a step where the context is not there answers.
use Rattle.std.proofs.Common.{arith, ◌≡◌, ℕ, List, [], ◌∷◌, ◌++◌, Bool, true, false, Option, Some, None, refl, ap, ◌∙◌, if◌then◌else◌}
use Rattle.std.specs.Prelude.{not, ◌&&◌, ◌||◌, ◌==◌, bytes_eq}
use Rattle.rdma_types.specs.declared.answers.Answer.{Answer}
use Rattle.rdma_types.specs.declared.answers.Answer.TheVariants as answer
use Rattle.rdma_types.specs.declared.answers.ExpiryIgnored.{ExpiryIgnored}
use Rattle.rdma_types.specs.declared.answers.Refusal.{Refusal}
use Rattle.rdma_types.specs.declared.answers.Refusal.TheVariants as refusals
use Rattle.rdma_types.specs.declared.answers.Sent.{Sent}
use Rattle.rdma_types.specs.declared.names.Name.{Name}
use Rattle.rdma_types.specs.declared.requests.Address.{Address}
use Rattle.rdma_types.specs.declared.requests.Request.{Request}
use Rattle.rdma_types.specs.declared.verbs.Verb.{Verb}
use Rattle.rdma_types.specs.Causes.{Cause, cause, first_cause}
use Rattle.rdma_types.specs.Lists.{has_name, store_named}
use Rattle.protocol.specs.declared.events.Event.{Event}
use Rattle.protocol.specs.declared.events.Event.TheVariants as event
use Rattle.protocol.specs.DeviceStep as device
use Rattle.protocol.specs.DeviceStep.{Found, device_step, done_by}
use Rattle.protocol.specs.Refusals.{has_context, has_husk, refusal_of, causes_of}
use Rattle.protocol.specs.Requester.{Transmission, SendsResume, Waits, IsIdle, WindowIsFull, ReadsAreFull, IsFenced, Sends, transmission, not_counted}
use Rattle.protocol.specs.Replay.{replay}
use Rattle.protocol.specs.State.{Context, Device, End, HuskEntry, Link, context_at, end_at}
use Rattle.protocol.specs.Wire.{Packet, is_control, packet_of}
use Rattle.protocol.specs.WorldStep.{context_of_event, numbered}
use Rattle.law_simulation.specs.Kept.{verb_in, kept_verb, is_unmade, is_unmade_by}
use Rattle.law_simulation.proofs.relation.Tables.{has_name-push, name_tells}

-- ---- id, address and what is handed out

-- the step keeps the device's id and address, and hands no image out
pub record IsPlain (d : Device) (s : device.Step) : Type 0 where
  pub id : s.device.id ≡ d.id
  pub address : s.device.address ≡ d.address
  pub image : s.outcome.image ≡ None
  -- each context that is there stays there
  pub stays : (n : Name) → has_context d n ≡ true → has_context s.device n ≡ true

has_stored : (n : Name) (c : Context) (cs : List Context) → has_name (λ x. x.name) n cs ≡ true → has_name (λ x. x.name) n (store_named (λ x. x.name) c.name c cs) ≡ true
unfolding has_name store_named
has_stored n c [] there = absurd (cc)
has_stored n c (x ∷ cs) there = grind (arith, name_tells x.name c.name, name_tells x.name n, name_tells c.name n, has_stored n c cs)

has_pushed : (n : Name) (c : Context) (cs : List Context) → has_name (λ x. x.name) n cs ≡ true → has_name (λ x. x.name) n (cs ++ c ∷ []) ≡ true
has_pushed n c cs there = has_name-push (λ x. x.name) n cs c ∙ ap (λ b. b || bytes_eq c.name n) there

same : (d : Device) (a : Answer) (sent : List Sent) → IsPlain d (device.gives d a sent)
same d a sent = record { id = refl; address = refl; image = refl; stays = λ n there. there }

changed : (d : Device) (c : Context) (a : Answer) (sent : List Sent) → IsPlain d (device.gives (device.with_context d c) a sent)
unfolding device.with_context
changed d c a sent = record { id = refl; address = refl; image = refl; stays = λ n there. has_stored n c d.contexts there }

plain_if : (d : Device) (b : Bool) (s t : device.Step) → IsPlain d s → IsPlain d t → IsPlain d (if b then s else t)
plain_if d true s t h k = h
plain_if d false s t h k = k

at_link : (d : Device) (l : Option Link) (step : Link → device.Step) → ((k : Link) → IsPlain d (step k)) → IsPlain d (device.at_link d l step)
at_link d None step h = same d answer.Done []
at_link d (Some l) step h = h l

sends_by : (d : Device) (c : Context) (e : End) (l : Link) (t : Transmission) → IsPlain d (device.sends_by d c e l t)
unfolding device.sends_piece
sends_by d c e l SendsResume = same d _ _
sends_by d c e l Waits = same d _ _
sends_by d c e l IsIdle = same d _ _
sends_by d c e l WindowIsFull = same d _ _
sends_by d c e l ReadsAreFull = same d _ _
sends_by d c e l IsFenced = same d _ _
sends_by d c e l (Sends x) = changed d _ _ _

expires_by : (d : Device) (c : Context) (e : End) (l : Link) (o : Option ExpiryIgnored) → IsPlain d (device.expires_by d c e l o)
unfolding device.counts
expires_by d c e l (Some w) = same d _ _
expires_by d c e l None = plain_if d (l.sender.spent == l.terms.retry) _ _ (changed d _ _ _) (changed d _ _ _)

waits_out : (d : Device) (c : Context) (e : End) (l : Link) → IsPlain d (device.waits_out d c e l)
waits_out d c e l = plain_if d l.sender.rnr_wait _ _ (changed d _ _ _) (same d _ _)

posts_at : (d : Device) (c : Context) (e : End) (l : Option Link) (r : Request) → IsPlain d (device.posts_at d c e l r)
posts_at d c e None r = same d _ _
posts_at d c e (Some l) r = changed d _ _ _

at_husk : (d : Device) (from : Address) (p : Packet) (hs : List HuskEntry) → IsPlain d (device.at_husk d from p hs)
at_husk d from p [] = same d _ _
at_husk d from p (h ∷ hs) = plain_if d (is_control p) _ _ (same d _ _) (same d _ _)

at_found : (d : Device) (from : Address) (p : Packet) (fs : List Found) → IsPlain d (device.at_found d from p fs)
at_found d from p [] = at_husk d from p _
at_found d from p (f ∷ fs) = changed d _ _ _

arrives_packet : (d : Device) (from : Address) (o : Option Packet) → IsPlain d (device.arrives_packet d from o)
arrives_packet d from None = same d _ _
arrives_packet d from (Some p) = at_found d from p _

-- a stop alone hands an image out
abbrev pub IsNoStop : Event → Type 0
IsNoStop (event.Stop name alone) = ⊥
IsNoStop other = Unit {0}

done_plain : (d : Device) (e : Event) → IsNoStop e → IsPlain d (done_by d e)
unfolding device.makes_context device.makes_domain device.makes_region device.makes_queue device.makes_end device.connects device.drops device.stores device.loads device.posts device.receives device.polls device.transmits device.expires device.rnr_over device.arrives device.restores device.releases device.with_context
done_plain d (event.MakeContext name) plain = record { id = refl; address = refl; image = refl; stays = λ n there. has_pushed n _ d.contexts there }
done_plain d (event.MakeDomain o) plain = record { id = refl; address = refl; image = refl; stays = λ n there. has_stored n _ d.contexts there }
done_plain d (event.MakeRegion o domain base count rights) plain = record { id = refl; address = refl; image = refl; stays = λ n there. has_stored n _ d.contexts there }
done_plain d (event.MakeCq o capacity) plain = record { id = refl; address = refl; image = refl; stays = λ n there. has_stored n _ d.contexts there }
done_plain d (event.MakeQp o domain send_cq recv_cq send_depth recv_depth) plain = record { id = refl; address = refl; image = refl; stays = λ n there. has_stored n _ d.contexts there }
done_plain d (event.Connect o peer partner terms) plain = record { id = refl; address = refl; image = refl; stays = λ n there. has_stored n _ d.contexts there }
done_plain d (event.DropRegion o) plain = record { id = refl; address = refl; image = refl; stays = λ n there. has_stored n _ d.contexts there }
done_plain d (event.Store o at bytes) plain = record { id = refl; address = refl; image = refl; stays = λ n there. has_stored n _ d.contexts there }
done_plain d (event.Load o at count) plain = record { id = refl; address = refl; image = refl; stays = λ n there. there }
done_plain d (event.PostSend o r) plain = posts_at d _ _ _ r
done_plain d (event.PostRecv o r) plain = record { id = refl; address = refl; image = refl; stays = λ n there. has_stored n _ d.contexts there }
done_plain d (event.Poll o most) plain = record { id = refl; address = refl; image = refl; stays = λ n there. has_stored n _ d.contexts there }
done_plain d (event.Transmit o) plain = at_link d _ _ (λ l. sends_by d _ _ l (transmission l))
done_plain d (event.Arrive from bytes) plain = arrives_packet d from (packet_of bytes)
done_plain d (event.Expire o) plain = at_link d _ _ (λ l. expires_by d _ _ l (not_counted l))
done_plain d (event.RnrOver o) plain = at_link d _ _ (λ l. waits_out d _ _ l)
done_plain d (event.Stop name alone) plain = absurd plain
done_plain d (event.Restore image) plain = record { id = refl; address = refl; image = refl; stays = λ n there. has_pushed n _ d.contexts there }
done_plain d (event.Release name) plain = record { id = refl; address = refl; image = refl; stays = λ n there. there }

refused_plain : (d : Device) (e : Event) (r : Option Refusal) → IsNoStop e → IsPlain d (device.by_refusal d e r)
refused_plain d e (Some r) plain = same d _ _
refused_plain d e None plain = done_plain d e plain

pub step_plain : (d : Device) (e : Event) → IsNoStop e → IsPlain d (device_step d e)
unfolding device_step
step_plain d e plain = refused_plain d e _ plain

-- .. a stop as well keeps id and address
pub record IsItself (d : Device) (s : device.Step) : Type 0 where
  pub id : s.device.id ≡ d.id
  pub address : s.device.address ≡ d.address

stop_itself : (d : Device) (name : Name) (alone : Bool) (r : Option Refusal) → IsItself d (device.by_refusal d (event.Stop name alone) r)
unfolding device.stops
stop_itself d name alone (Some r) = record { id = refl; address = refl }
stop_itself d name alone None = record { id = refl; address = refl }

by_plain : (d : Device) (s : device.Step) → IsPlain d s → IsItself d s
by_plain d s p = record { id = p.id; address = p.address }

pub step_itself : (d : Device) (e : Event) → IsItself d (device_step d e)
unfolding device_step
step_itself d (event.Stop name alone) = stop_itself d name alone (refusal_of d (event.Stop name alone))
step_itself d other = by_plain d _ (step_plain d other tt)

pub replay_itself : (d : Device) (es : List Event) → ((replay d es).id ≡ d.id) × ((replay d es).address ≡ d.address)
unfolding replay
replay_itself d [] = (refl, refl)
replay_itself d (e ∷ es) =
    let later = replay_itself (device_step d e).device es in
    (later.0 ∙ (step_itself d e).id, later.1 ∙ (step_itself d e).address)

-- ---- what is heard

-- an answer without a number of datagrams
abbrev IsStill : Answer → Type 0
IsStill a = (n : ℕ) → numbered n a ≡ a

post_still : (d : Device) (c : Context) (e : End) (l : Option Link) (r : Request) → IsStill (device.posts_at d c e l r).outcome.answer
unfolding numbered
post_still d c e None r n = refl
post_still d c e (Some l) r n = refl

-- the datagrams' numbers are in no answer to a verb
heard_done : (d : Device) (e : Event) (n : ℕ) → kept_verb (verb_in e) (numbered n (done_by d e).outcome.answer) ≡ kept_verb (verb_in e) (done_by d e).outcome.answer
unfolding numbered verb_in kept_verb device.makes_domain device.makes_region device.makes_queue device.makes_end device.drops device.stores device.loads device.posts device.receives device.polls
heard_done d (event.MakeContext name) n = refl
heard_done d (event.MakeDomain o) n = refl
heard_done d (event.MakeRegion o domain base count rights) n = refl
heard_done d (event.MakeCq o capacity) n = refl
heard_done d (event.MakeQp o domain send_cq recv_cq send_depth recv_depth) n = refl
heard_done d (event.Connect o peer partner terms) n = refl
heard_done d (event.DropRegion o) n = refl
heard_done d (event.Store o at bytes) n = refl
heard_done d (event.Load o at count) n = refl
heard_done d (event.PostSend o r) n = ap (λ a. kept_verb (verb_in (event.PostSend o r)) a) (post_still d (context_at d o.context) (end_at (context_at d o.context) o.name) (end_at (context_at d o.context) o.name).link r n)
heard_done d (event.PostRecv o r) n = refl
heard_done d (event.Poll o most) n = refl
heard_done d (event.Transmit o) n = refl
heard_done d (event.Arrive from bytes) n = refl
heard_done d (event.Expire o) n = refl
heard_done d (event.RnrOver o) n = refl
heard_done d (event.Stop name alone) n = refl
heard_done d (event.Restore image) n = refl
heard_done d (event.Release name) n = refl

heard_by : (d : Device) (e : Event) (r : Option Refusal) (n : ℕ) → kept_verb (verb_in e) (numbered n (device.by_refusal d e r).outcome.answer) ≡ kept_verb (verb_in e) (device.by_refusal d e r).outcome.answer
unfolding numbered
heard_by d e (Some r) n = refl
heard_by d e None n = heard_done d e n

pub heard_still : (d : Device) (e : Event) (n : ℕ) → kept_verb (verb_in e) (numbered n (device_step d e).outcome.answer) ≡ kept_verb (verb_in e) (device_step d e).outcome.answer
unfolding device_step
heard_still d e n = heard_by d e _ n

-- ---- a device without the context

-- the refusal where the context is not there
abbrev pub away : Device → Name → Refusal
away d n = if has_husk d n then refusals.Stopped else refusals.NoSuch

-- the causes after the first two
abbrev pub after_two : List Cause → List Cause
after_two (a ∷ b ∷ xs) = xs
after_two other = []

-- the first two causes of the event are that its context is not there, and that it left a husk
abbrev pub IsWithin : Device → Event → Type 0
IsWithin d e =
    causes_of d e
    ≡ cause refusals.NoSuch (not (has_context d (context_of_event e)) && not (has_husk d (context_of_event e)))
    ∷ cause refusals.Stopped (not (has_context d (context_of_event e)))
    ∷ after_two (causes_of d e)

first_away : (b h : Bool) (xs : List Cause) → b ≡ false → first_cause (cause refusals.NoSuch (not b && not h) ∷ cause refusals.Stopped (not b) ∷ xs) ≡ Some (if h then refusals.Stopped else refusals.NoSuch)
unfolding first_cause
first_away true h xs none = absurd (cc)
first_away false true xs none = refl
first_away false false xs none = refl

-- a context's event, where the device has no such context
pub refused_away : (d : Device) (e : Event) → IsWithin d e → has_context d (context_of_event e) ≡ false → device_step d e ≡ device.answers d (answer.Refused (away d (context_of_event e)))
unfolding device_step refusal_of
refused_away d e within none =
    ap (λ cs. device.by_refusal d e (first_cause cs)) within
    ∙ ap (λ r. device.by_refusal d e r) (first_away (has_context d (context_of_event e)) (has_husk d (context_of_event e)) (after_two (causes_of d e)) none)

-- nothing is heard of a verb where the context left a husk
pub unheard_husk : (d : Device) (v : Verb) (n : Name) → has_context d n ≡ false → (has_context d n || has_husk d n) ≡ true → kept_verb (Some v) (answer.Refused (away d n)) ≡ []
unfolding kept_verb is_unmade is_unmade_by
unheard_husk d v n none home = by (has_context d n) (has_husk d n) none home
  where
    by : (b h : Bool) → b ≡ false → (b || h) ≡ true → kept_verb (Some v) (answer.Refused (if h then refusals.Stopped else refusals.NoSuch)) ≡ []
    by true h none home = absurd (cc)
    by false true none home = refl
    by false false none home = absurd (cc)
