-- A step of a device hands out no image, unless it is a stop.
use Rattle.std.proofs.Common.{◌≡◌, List, [], ◌∷◌, true, false, Bool, refl}
use Rattle.std.specs.Prelude.{◌==◌, Option, Some, None, if◌then◌else◌}
use Rattle.rdma_types.specs.declared.answers.ExpiryIgnored.{ExpiryIgnored}
use Rattle.rdma_types.specs.declared.answers.Refusal.{Refusal}
use Rattle.rdma_types.specs.declared.requests.Address.{Address}
use Rattle.rdma_types.specs.declared.requests.Request.{Request}
use Rattle.protocol.specs.declared.events.Event.{Event}
use Rattle.protocol.specs.declared.events.Event.TheVariants as events
use Rattle.protocol.specs.DeviceStep as device
use Rattle.protocol.specs.DeviceStep.{device_step}
use Rattle.protocol.specs.Refusals.{refusal_of}
use Rattle.protocol.specs.Requester.{Transmission, SendsResume, Waits, IsIdle, WindowIsFull, ReadsAreFull, IsFenced, Sends, not_counted, transmission}
use Rattle.protocol.specs.State.{Context, Device, End, HuskEntry, Link}
use Rattle.protocol.specs.Wire.{Packet, is_control, packet_of}

abbrev pub IsBare : device.Step → Type 0
IsBare s = s.outcome.image ≡ None

if_bare : (b : Bool) (s t : device.Step) → IsBare s → IsBare t → IsBare (if b then s else t)
if_bare true s t h k = h
if_bare false s t h k = k

link_bare : (d : Device) (f : Link → device.Step) → ((l : Link) → IsBare (f l)) → (l : Option Link) → IsBare (device.at_link d l f)
link_bare d f h None = refl
link_bare d f h (Some l) = h l

row_bare : (d : Device) (c : Context) (e : End) (l : Link) (t : Transmission) → IsBare (device.sends_by d c e l t)
unfolding device.sends_piece
row_bare d c e l SendsResume = refl
row_bare d c e l Waits = refl
row_bare d c e l IsIdle = refl
row_bare d c e l WindowIsFull = refl
row_bare d c e l ReadsAreFull = refl
row_bare d c e l IsFenced = refl
row_bare d c e l (Sends x) = refl

expires_bare : (d : Device) (c : Context) (e : End) (l : Link) (o : Option ExpiryIgnored) → IsBare (device.expires_by d c e l o)
unfolding device.counts
expires_bare d c e l (Some o) = refl
expires_bare d c e l None = if_bare (l.sender.spent == l.terms.retry) _ _ refl refl

posts_bare : (d : Device) (c : Context) (e : End) (l : Option Link) (r : Request) → IsBare (device.posts_at d c e l r)
posts_bare d c e None r = refl
posts_bare d c e (Some l) r = refl

husk_bare : (d : Device) (from : Address) (p : Packet) (hs : List HuskEntry) → IsBare (device.at_husk d from p hs)
husk_bare d from p [] = refl
husk_bare d from p (h ∷ hs) = if_bare (is_control p) _ _ refl refl

found_bare : (d : Device) (from : Address) (p : Packet) (fs : List device.Found) → IsBare (device.at_found d from p fs)
found_bare d from p [] = husk_bare d from p (device.husk_entries p.dest d.husks)
found_bare d from p (f ∷ fs) = refl

packet_bare : (d : Device) (from : Address) (p : Option Packet) → IsBare (device.arrives_packet d from p)
packet_bare d from None = refl
packet_bare d from (Some p) = found_bare d from p (device.found_in p.dest d.contexts)

-- every event but a stop
abbrev pub IsNoStop : Event → Type 0
IsNoStop (events.Stop name alone) = ⊥
IsNoStop other = Unit {0}

done_bare : (d : Device) (e : Event) → IsNoStop e → IsBare (device.done_by d e)
unfolding device.makes_context device.makes_domain device.makes_region device.makes_queue device.makes_end device.connects device.drops device.stores device.loads device.posts device.receives device.polls device.transmits device.arrives device.expires device.rnr_over device.restores device.releases
done_bare d (events.Stop name alone) is = absurd is
done_bare d (events.PostSend o r) is = posts_bare d _ _ _ r
done_bare d (events.Transmit o) is = link_bare d _ (λ l. row_bare d _ _ l (transmission l)) _
done_bare d (events.Arrive from bytes) is = packet_bare d from (packet_of bytes)
done_bare d (events.Expire o) is = link_bare d _ (λ l. expires_bare d _ _ l (not_counted l)) _
done_bare d (events.RnrOver o) is = link_bare d _ (λ l. if_bare l.sender.rnr_wait _ _ refl refl) _
done_bare d other is = refl

refusal_bare : (d : Device) (e : Event) (r : Option Refusal) → IsBare (device.done_by d e) → IsBare (device.by_refusal d e r)
refusal_bare d e (Some r) h = refl
refusal_bare d e None h = h

pub bare : (d : Device) (e : Event) → IsNoStop e → IsBare (device_step d e)
unfolding device_step
bare d e is = refusal_bare d e (refusal_of d e) (done_bare d e is)
