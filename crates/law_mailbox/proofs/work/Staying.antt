-- Work moves no context, and posts no request of a sender.
use Rattle.std.proofs.Common.{◌≡◌, ℕ, zero, suc, List, [], ◌∷◌, length, true, false, Bool, refl, subst, ap, ◌∙◌, Some, None, Option}
use Rattle.std.specs.Prelude.{bytes_eq, if◌then◌else◌, is_some, nat_lt, position, slice_get}
use Rattle.std.proofs.lemmas.Option.{same_Some}
use Rattle.rdma_types.specs.Lists.{first_that}
use Rattle.rdma_types.specs.declared.requests.Completion.{Completion}
use Rattle.protocol.specs.declared.events.Event.{Event}
use Rattle.protocol.specs.declared.events.Event.TheVariants as events
use Rattle.protocol.specs.declared.events.WorldEvent.{WorldEvent}
use Rattle.protocol.specs.Fabric.{Here, IsAged, IsGone, IsLost, Look, kept_flight, look}
use Rattle.protocol.specs.Settle.{settled}
use Rattle.protocol.specs.declared.images.ContextImage.{ContextImage}
use Rattle.protocol.specs.State.{Device, Flight, World}
use Rattle.protocol.specs.declared.events.WorldEvent.TheVariants as world_events
use Rattle.protocol.specs.DeviceStep as device
use Rattle.protocol.specs.DeviceStep.{device_step}
use Rattle.protocol.specs.WorldStep as step
use Rattle.protocol.specs.WorldStep.{carried_image, context_of_event, device_with, home, now_of, ran, runs, with_taken, world_step}
use Rattle.rdma_types.specs.declared.answers.Refusal.{Refusal}
use Rattle.rdma_types.specs.Causes.{first_cause}
use Rattle.law_settling.specs.Settling.{IsSettling, IsTurn}
use Rattle.law_settling.proofs.steps.Bare.{IsBare, IsNoStop, bare}
use Rattle.law_settling.proofs.steps.Made.{settled_keeps}
use Rattle.mailbox_rules.specs.declared.due.Due.{Due}
use Rattle.mailbox_rules.specs.declared.due.Due.TheVariants as due
use Rattle.mailbox_rules.specs.declared.due.Side.{Side}
use Rattle.mailbox_rules.specs.declared.due.Side.TheVariants.{AtReceiver, AtSender}
use Rattle.mailbox_rules.specs.Opening.{receiver_receives, sender_receives}
use Rattle.mailbox_rules.specs.State.{Mail, channel, context_at, ending, has_ended, is_away, with_channel}
use Rattle.mailbox_rules.specs.Working.{Working, asking, begun, doing, doing_at, entries_in, free_event, heard_of, is_too_many, may_be_done, poll_event, polled, polling, posted, posting, read_event, stepping, work_step, worked}
use Rattle.law_mailbox.specs.Settled.{Does, Flags, Rests, SenderPosts, Turns, Worked, Works, WorksOn}
use Rattle.law_mailbox.specs.Works.{BodyCopies, Copies, Fetches, FetchesNot, FreePosts, FreePostsNot, Line, Reposts, RepostsNot, Sends, SendsEnded, SlotFrees, Stores, WorksTo}
use Rattle.law_mailbox.proofs.settling.Ahead.{not_sent}
use Rattle.law_mailbox.proofs.work.Noting.{noted_all}

-- ---- contexts stay where they are

-- the same images are carried
abbrev CarrySame : Mail → Mail → Type 0
CarrySame m m' = m'.world.carried ≡ m.world.carried

ran_carries : (w : World) (s : device.Step) → IsBare s → (ran w s).world.carried ≡ w.carried
unfolding ran step.with_device
ran_carries w s h = ap (λ i. (step.with_image i (step.with_device (step.with_sent w s.device.address s) s.device)).carried) h

asked_carries : (w : World) (e : Event) → IsNoStop e → (world_step w (world_events.At e)).world.carried ≡ w.carried
unfolding world_step step.steps_at
asked_carries w e u = by (first_cause (step.context_causes w (context_of_event e) []))
  where
    by : (r : Option Refusal) → (step.by_refusal w r (runs w (home w (context_of_event e)) e)).world.carried ≡ w.carried
    by (Some r) = refl
    by None = ran_carries w (device_step (home w (context_of_event e)) e) (bare (home w (context_of_event e)) e u)

reached_carries : (w : World) (f : Flight) (d : Option Device) → (step.reaches w f d).world.carried ≡ w.carried
reached_carries w f None = refl
reached_carries w f (Some d) = ran_carries w (device_step d (events.Arrive f.from f.bytes)) (bare d (events.Arrive f.from f.bytes) tt)

delivered_carries : (w : World) (k : ℕ) (x : Look) → (step.delivers_by w k x).world.carried ≡ w.carried
delivered_carries w k IsGone = refl
delivered_carries w k IsLost = refl
delivered_carries w k IsAged = refl
delivered_carries w k (Here f) = reached_carries (with_taken w k) f (device_with w f.to)

turn_carries : (w : World) (e : Event) → IsTurn e → (world_step w (world_events.At e)).world.carried ≡ w.carried
turn_carries w (events.Transmit o) is = asked_carries w (events.Transmit o) tt
turn_carries w (events.Expire o) is = asked_carries w (events.Expire o) tt
turn_carries w (events.RnrOver o) is = asked_carries w (events.RnrOver o) tt
turn_carries w other is = absurd is

event_carries : (w : World) (e : WorldEvent) → IsSettling e → (world_step w e).world.carried ≡ w.carried
unfolding world_step step.delivers
event_carries w (world_events.Deliver k) is = delivered_carries w k (look w.sent k (now_of w (kept_flight w.sent k)))
event_carries w (world_events.At e) is = turn_carries w e is
event_carries w other is = absurd is

-- a settling carries no image off, and puts none back
pub settling_moves_none : (w : World) (n : ℕ) → is_away (settled w).world n ≡ is_away w n
unfolding carried_image
settling_moves_none w n =
    ap (λ (xs : List ContextImage). is_some (first_that (λ c. bytes_eq c.name (context_at n)) xs)) (settled_keeps (λ v. v.carried ≡ w.carried) (λ v e is h. event_carries v e is ∙ h) w refl)

asking_stays : (m : Mail) (e : Event) → IsNoStop e → CarrySame m (asking m e).mail
unfolding asking
asking_stays m e u = asked_carries m.world e u

posting_stays : (m : Mail) (side : Side) (i : ℕ) (e : Event) → IsNoStop e → CarrySame m (posting m side i e)
unfolding posting
posting_stays m side i e u = by (has_ended side (channel m i))
  where
    after_asking : (b : Bool) → CarrySame m (if b then with_channel (asking m e).mail i (ending side) else (asking m e).mail)
    after_asking true = asking_stays m e u
    after_asking false = asking_stays m e u

    by : (b : Bool) → CarrySame m (if b then m else posted (asking m e) side i)
    by true = refl
    by false = after_asking (is_too_many (asking m e).answer)

doing_stays : (m : Mail) (k : ℕ) (d : Due) → CarrySame m (doing m k d)
unfolding doing
doing_stays m k (due.CopyMessage j place length) = asking_stays m _ tt
doing_stays m k (due.Repost j place fetch) = posting_stays m AtReceiver j (receiver_receives j place) tt
doing_stays m k (due.PostRead j f) = posting_stays m AtReceiver j (read_event j f) tt
doing_stays m k (due.CopyBody j length) = asking_stays m _ tt
doing_stays m k (due.PostFree j) = posting_stays m AtReceiver j (free_event j) tt
doing_stays m k (due.FreeSlot j place) = refl
doing_stays m k (due.RepostAtSender j place) = posting_stays m AtSender j (sender_receives j place) tt

heard_stays : (n : ℕ) (m : Mail) (xs : List Completion) → CarrySame m (heard_of n m xs).mail
heard_stays n m [] = refl
heard_stays n m (x ∷ xs) = ap (λ (w : World). w.carried) (noted_all n m (x ∷ xs)).world

polled_stays : (n : ℕ) (m : Mail) → CarrySame m (polled n (asking m (poll_event n))).mail
polled_stays n m = heard_stays n (asking m (poll_event n)).mail (entries_in (asking m (poll_event n)).answer) ∙ asking_stays m (poll_event n) tt

doing_at_stays : (w : Working) (k : ℕ) (o : Option Due) → CarrySame w.mail (doing_at w k o).mail
doing_at_stays w k None = refl
doing_at_stays w k (Some d) = doing_stays w.mail k d

polling_stays : (w v : Working) → polling w ≡ Some v → CarrySame w.mail v.mail
polling_stays w v e = by (nat_lt (length w.mail.channels) w.next) e
  where
    by : (b : Bool) → (if b then None else Some (polled w.next (asking w.mail (poll_event w.next)))) ≡ Some v → CarrySame w.mail v.mail
    by true f = cc
    by false f = subst (λ (x : Working). CarrySame w.mail x.mail) (same_Some (polled w.next (asking w.mail (poll_event w.next))) v f) (polled_stays w.next w.mail)

step_stays : (w v : Working) → work_step w ≡ Some v → CarrySame w.mail v.mail
unfolding work_step
step_stays w v e = by (position (may_be_done w.mail.world) w.mail.owed) e
  where
    by : (o : Option ℕ) → stepping w o ≡ Some v → CarrySame w.mail v.mail
    by None f = polling_stays w v f
    by (Some k) f = subst (λ (x : Working). CarrySame w.mail x.mail) (same_Some (doing_at w k (slice_get w.mail.owed k)) v f) (doing_at_stays w k (slice_get w.mail.owed k))

steps_stay : (n : ℕ) (w : Working) → CarrySame w.mail (worked n w).mail
unfolding worked
steps_stay zero w = refl
steps_stay (suc n) w = by (λ v. steps_stay n v) (work_step w) refl
  where
    by : ((v : Working) → CarrySame v.mail (worked n v).mail) → (o : Option Working) → work_step w ≡ o → (let x : Working = elim o [ None ↦ w | Some v ↦ worked n v ] in CarrySame w.mail x.mail)
    by rest None e = refl
    by rest (Some v) e = rest v ∙ step_stays w v e

pub work_moves_none : (n : ℕ) (m : Mail) (k : ℕ) → is_away (worked n (begun m)).mail.world k ≡ is_away m.world k
unfolding carried_image
work_moves_none n m k = ap (λ (xs : List ContextImage). is_some (first_that (λ c. bytes_eq c.name (context_at k)) xs)) (steps_stay n (begun m))

-- ---- requests of a sender

-- the same requests are posted, and as many are told
pub record IsSenderSame (x y : Line) : Type 0 where
  pub posted : y.sight.sender.posted ≡ x.sight.sender.posted
  pub told : y.sight.sender.told ≡ x.sight.sender.told

same_sender : (x : Line) → IsSenderSame x x
same_sender x = record { posted = refl; told = refl }

one_work : (i : ℕ) (x : Line) {y : Line} → WorksTo i x y → y.sent ≡ x.sent → IsSenderSame x y
one_work i x (Copies place size bytes ds is g) same = record { posted = refl; told = refl }
one_work i x (Reposts place ds g) same = record { posted = refl; told = refl }
one_work i x (RepostsNot place ds g) same = record { posted = refl; told = refl }
one_work i x (Fetches f ds g live) same = record { posted = refl; told = refl }
one_work i x (FetchesNot f ds g) same = record { posted = refl; told = refl }
one_work i x (BodyCopies size ds g) same = record { posted = refl; told = refl }
one_work i x (FreePosts ds g live) same = record { posted = refl; told = refl }
one_work i x (FreePostsNot ds g) same = record { posted = refl; told = refl }
one_work i x (SlotFrees ds g) same = record { posted = refl; told = refl }
one_work i x (Stores stored holds) same = record { posted = refl; told = refl }
one_work i x (Sends l is_letter live slot_free) same = absurd (not_sent x.sent l same)
one_work i x (SendsEnded l is_letter gone slot_free) same = absurd (not_sent x.sent l same)

one_step : (i : ℕ) (x : Line) {y : Line} → WorksOn i x y → IsSenderSame x y
one_step i x (Does w same posts) = one_work i x w same
one_step i x (Turns ds e) = record { posted = refl; told = refl }
one_step i x (Flags at_receiver at_sender was of_sender) = record { posted = refl; told = refl }
one_step i x (SenderPosts v) = record { posted = refl; told = refl }

pub works_post_none : (i : ℕ) (x : Line) {y : Line} → Works i x y → IsSenderSame x y
works_post_none i x Rests = same_sender x
works_post_none i x (Worked {x' = a} {x'' = b} before step) =
    let first : IsSenderSame x a = works_post_none i x before in
    let last : IsSenderSame a b = one_step i a step in
    record { posted = last.posted ∙ first.posted; told = last.told ∙ first.told }
