-- The image of a sound context has its fields.
use Rattle.std.proofs.Common.{arith, ◌≡◌, ℕ, zero, suc, ◌==◌, List, [], ◌∷◌, map, true, false, Bool, refl, sym, ap, ◌∙◌, subst}
use Rattle.std.specs.Prelude.{All, ◌||◌, Option, Some, None, option_map, slice_get}
use Rattle.std.proofs.lemmas.Bool.Decides.{nat_tests, eqb_tells}
use Rattle.std.proofs.lemmas.List.Elements.{All-weaker}
use Rattle.rdma_types.specs.declared.names.Name.{Name}
use Rattle.rdma_types.specs.Lists.{has, has_word}
use Rattle.rdma_types.specs.Objects.{Region}
use Rattle.protocol.specs.declared.events.Event.TheVariants.{Stop}
use Rattle.protocol.specs.DeviceStep as device
use Rattle.protocol.specs.DeviceStep.{device_step}
use Rattle.protocol.specs.Images.{context_of, image_of}
use Rattle.protocol.specs.Refusals.{refusal_of}
use Rattle.protocol.specs.State.{Context, Device, End, InSend, InWrite, Link, NoMessage, Progress, context_at}
use Rattle.law_devices.specs.Sound.{IsSoundContext, IsSoundEnd, IsSoundProgress, IsSoundRegion, IsSoundState, names_of_queues, plans}
use Rattle.law_simulation.proofs.stop_restore.Image.{IsEndFound, IsFound, IsLinkFound, calm, calm_end, calm_link, image_back}
use Rattle.law_moves.specs.Held.{AreHeldEnds, AreHeldLinks, HasEveryField}

-- ---- what a sound context names is there

has_plan : (rs : List Region) (i : ℕ) (w : Region) → slice_get (plans rs) i ≡ Some w → has (λ r. r.keys.local) w.keys.local rs ≡ true
unfolding has
has_plan [] i w h = absurd (cc)
has_plan (r ∷ rs) zero w h = let same : r.keys.local ≡ w.keys.local = ap (λ (o : Option Region). key_of o) h in grind (arith, nat_tests, eqb_tells r.keys.local w.keys.local, same)
  where
    key_of : Option Region → ℕ
    key_of None = 0
    key_of (Some x) = x.keys.local
has_plan (r ∷ rs) (suc i) w h = by (r.keys.local == w.keys.local) (has_plan rs i w h)
  where
    by : (b : Bool) → has (λ x. x.keys.local) w.keys.local rs ≡ true → (b || has (λ x. x.keys.local) w.keys.local rs) ≡ true
    by true later = refl
    by false later = later

progress_found : (rs : List Region) (domain : Name) (mtu : ℕ) (p : Progress) → IsSoundProgress (plans rs) domain mtu p → IsFound rs p
progress_found rs domain mtu NoMessage h = tt
progress_found rs domain mtu (InSend done receive) h = tt
progress_found rs domain mtu (InWrite region off count done) h = subst (λ k. has (λ r. r.keys.local) k rs ≡ true) h.local (has_plan rs h.place h.written h.there)

link_found : (rs : List Region) (domain : Name) (depth : ℕ) (l : Option Link) → IsSoundState (plans rs) domain depth l → IsLinkFound rs l
link_found rs domain depth None h = tt
link_found rs domain depth (Some l) h = progress_found rs domain l.terms.mtu l.receiver.progress h.receiver.in_progress

found : (c : Context) (e : End) → IsSoundEnd c.domains (names_of_queues c.queues) (plans c.regions) e → IsEndFound c e
found c e h = record { domain = h.domain; send = h.send_cq; receive = h.recv_cq; link = link_found c.regions e.domain e.send_depth e.link h.state }

back : (c : Context) → IsSoundContext c → context_of (image_of c) ≡ calm c
back c s =
    image_back c
    (All-weaker (IsSoundRegion c.domains) (λ r. has_word r.domain c.domains ≡ true) (λ r h. h.domain) c.regions s.parts.regions)
    (All-weaker (IsSoundEnd c.domains (names_of_queues c.queues) (plans c.regions)) (IsEndFound c) (λ e h. found c e h) c.ends s.parts.ends)

-- ---- all fields

links_held : (l : Option Link) → AreHeldLinks l (option_map calm_link l)
links_held None = tt
links_held (Some l) = record {
  ended = refl;
  peer = refl;
  terms = refl;
  partner = refl;
  own = refl;
  recorded = refl;
  phase = refl;
  untold = refl;
  first = refl;
  una = refl;
  next = refl;
  top = refl;
  spent = refl;
  waits = refl;
  rnr_wait = refl;
  expected = refl;
  nak_sent = refl;
  msn = refl;
  in_progress = refl;
  kept = refl;
}

ends_held : (es : List End) → AreHeldEnds es (map calm_end es)
ends_held [] = tt
ends_held (e ∷ es) = (
  record {
    name = refl;
    number = refl;
    domain = refl;
    send_cq = refl;
    recv_cq = refl;
    send_depth = refl;
    recv_depth = refl;
    unused = refl;
    link = links_held e.link;
  },
  ends_held es,
)

pub every_field : (c : Context) → IsSoundContext c → HasEveryField c (image_of c)
unfolding image_of
every_field c s =
    let same : context_of (image_of c) ≡ calm c = back c s in
    record {
      name = refl;
      domains = refl;
      regions = ap (λ (x : Context). x.regions) same;
      queues = ap (λ (x : Context). x.queues) same;
      ends = subst (λ (x : Context). AreHeldEnds c.ends x.ends) (sym same) (ends_held c.ends);
    }

-- ---- a stop

pub stopped_image : (d : Device) (name : Name) (alone : Bool) → refusal_of d (Stop name alone) ≡ None → (device_step d (Stop name alone)).outcome.image ≡ Some (image_of (context_at d name))
unfolding device_step device.stops
stopped_image d name alone h = ap (λ r. (device.by_refusal d (Stop name alone) r).outcome.image) h
