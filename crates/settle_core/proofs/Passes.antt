-- A pass that runs out of memory delivered the first of the datagrams that were pending as it began.
use Rattle.std.proofs.Common.{arith, ◌≡◌, ◌+◌, ◌-◌, ℕ, List, [], ◌∷◌, ◌++◌, length, drop, map, Bool, true, false, refl, sym, ap, ◌∙◌, subst}
use Rattle.std.specs.Prelude.{Some, None, slice_get, if◌then◌else◌, ◌&&◌, not}
use Rattle.std.proofs.lemmas.List.{length-drop}
use Rattle.protocol.specs.declared.events.WorldEvent.{WorldEvent}
use Rattle.protocol.specs.declared.events.WorldEvent.TheVariants as world_event
use Rattle.protocol.specs.Fabric.{is_kept, kept_flight, pending, pending_from}
use Rattle.protocol.specs.State.{Flight, World}
use Rattle.protocol.specs.WorldStep.{world_after, world_step}
use Rattle.protocol.specs.Settle.{Settling, settle_step, stepped_to}
use Rattle.law_kept_datagrams.specs.Alike.{with_kept_datagrams}
use Rattle.law_settling.specs.Events.{pass_events}
use Rattle.law_settling.proofs.draining.Pending.{kept_is, kept_when}
use Rattle.world_core.specs.Lives.{is_open, is_pending}
use Rattle.world_core.specs.Settled.{IsCut}
use Rattle.settle_core.specs.Shown.{Cuts}
use Rattle.settle_core.specs.Steps.{deliver_events, delivered_at, sweep_events}
use Rattle.settle_core.specs.declared.notes.Notes.{Notes}
use Rattle.settle_core.proofs.Cuts.{cut_after, cut_as, cut_none, one_led}
use Rattle.settle_core.proofs.Sweeps.{Begins, Stand, begins, get_drop, gone_still, stand_rest, stand_step}
use Rattle.settle_core.proofs.Visits.{count_shown, least_shown}

-- deliveries of these numbers
abbrev deliveries : List ℕ → List WorldEvent
deliveries = map (λ k. world_event.Deliver k)

-- one delivery, and then some of those that follow
more_cut : (s : Settling) (new : World) (k : ℕ) (es fs : List WorldEvent) → (IsCut (settle_step s (world_event.Deliver k)).world es new → IsCut (settle_step s (world_event.Deliver k)).world fs new) → IsCut s.world (world_event.Deliver k ∷ es) new → IsCut s.world (world_event.Deliver k ∷ fs) new
unfolding world_after settle_step stepped_to
more_cut s new k es fs on c = by c.made c.rest c.are c.world
  where
    by : (made rest : List WorldEvent) → (world_event.Deliver k ∷ es) ≡ made ++ rest → new ≡ with_kept_datagrams (world_after s.world made) → IsCut s.world (world_event.Deliver k ∷ fs) new
    by [] rest are world = cut_none s.world new (world_event.Deliver k ∷ fs) world
    by (e ∷ made) rest are world =
        let same : e ≡ world_event.Deliver k = cc in
        let left : es ≡ made ++ rest = cc in
        cut_after s.world (settle_step s (world_event.Deliver k)).world new (world_event.Deliver k ∷ []) fs (one_led s (world_event.Deliver k))
        (on (record { made = made; rest = rest; are = left; world = world ∙ ap (λ (z : WorldEvent). with_kept_datagrams (world_after (world_step s.world z).world made)) same }))

swept_cut : (fs : List Flight) (s : Settling) (k count : ℕ) (new : World) → Stand s k count fs → IsCut s.world (sweep_events s k (length fs)) new → IsCut s.world (deliveries (pending_from count k fs)) new
unfolding sweep_events pending_from kept_flight deliver_events delivered_at
swept_cut [] s k count new h c = c
swept_cut (x ∷ xs) s k count new h c = by_kept (is_kept (length s.world.sent) k) (is_kept count k) refl refl (λ t g d. swept_cut xs t (k + 1) count new g d)
  where
    flight : slice_get s.world.sent (k - 1) ≡ Some x
    flight = let e : k - 1 + 0 ≡ k - 1 = omega arith in subst (λ i. slice_get s.world.sent i ≡ Some x) e (h.there 0 x refl)

    kept_is_there : is_kept (length s.world.sent) k ≡ true → kept_flight s.world.sent k ≡ Some x
    kept_is_there kept = ap (λ b. if b then slice_get s.world.sent (k - 1) else None) kept ∙ flight

    kept_is_not : is_kept (length s.world.sent) k ≡ false → kept_flight s.world.sent k ≡ None
    kept_is_not kept = ap (λ b. if b then slice_get s.world.sent (k - 1) else None) kept

    swept_as : (b : Bool) → is_pending s.world.sent k ≡ b → IsCut s.world ((if b then world_event.Deliver k ∷ [] else []) ++ sweep_events (if b then settle_step s (world_event.Deliver k) else s) (k + 1) (length xs)) new
    swept_as b e = subst (λ (z : Bool). IsCut s.world ((if z then world_event.Deliver k ∷ [] else []) ++ sweep_events (if z then settle_step s (world_event.Deliver k) else s) (k + 1) (length xs)) new) e c

    listed : (b : Bool) → ((t : Settling) → Stand t (k + 1) count xs → IsCut t.world (sweep_events t (k + 1) (length xs)) new → IsCut t.world (deliveries (pending_from count (k + 1) xs)) new) →
        IsCut s.world ((if b then world_event.Deliver k ∷ [] else []) ++ sweep_events (if b then settle_step s (world_event.Deliver k) else s) (k + 1) (length xs)) new →
        IsCut s.world (deliveries (if b then k ∷ pending_from count (k + 1) xs else pending_from count (k + 1) xs)) new
    listed true rest d =
        more_cut s new k (sweep_events (settle_step s (world_event.Deliver k)) (k + 1) (length xs)) (deliveries (pending_from count (k + 1) xs))
        (rest (settle_step s (world_event.Deliver k)) (stand_step s k count xs h.first (stand_rest s k count x xs h))) d
    listed false rest d = rest s (stand_rest s k count x xs h) d

    skipped : (b : Bool) → kept_flight s.world.sent k ≡ None → IsCut s.world (deliveries (pending_from count (k + 1) xs)) new → IsCut s.world (deliveries (if b then k ∷ pending_from count (k + 1) xs else pending_from count (k + 1) xs)) new
    skipped true gone d = cut_after s.world s.world new (world_event.Deliver k ∷ []) (deliveries (pending_from count (k + 1) xs)) (one_led s (world_event.Deliver k) ∙ ap (λ (z : Settling). z.world) (gone_still s k gone)) d
    skipped false gone d = d

    by_kept : (now before : Bool) → is_kept (length s.world.sent) k ≡ now → is_kept count k ≡ before → ((t : Settling) → Stand t (k + 1) count xs → IsCut t.world (sweep_events t (k + 1) (length xs)) new → IsCut t.world (deliveries (pending_from count (k + 1) xs)) new) →
        IsCut s.world (deliveries (if before && (not x.lost && not x.taken) then k ∷ pending_from count (k + 1) xs else pending_from count (k + 1) xs)) new
    by_kept true true now before rest = listed (not x.lost && not x.taken) rest (swept_as (not x.lost && not x.taken) (ap is_open (kept_is_there now)))
    by_kept true false now before rest =
        let kept = kept_is (length s.world.sent) k now in
        let was : is_kept count k ≡ true = kept_when count k h.first (omega (arith, h.all, h.first)) (omega (arith, kept.2, h.grown)) in
        absurd (cc (before, was))
    by_kept false b now before rest = skipped (b && (not x.lost && not x.taken)) (kept_is_not now) (listed false rest (swept_as false (ap is_open (kept_is_not now))))

pass_cut : (s : Settling) (first : ℕ) (new : World) → pending s.world.sent ≡ Some first → IsCut s.world (sweep_events s first (length s.world.sent + 1 - first)) new → IsCut s.world (pass_events s) new
unfolding pending
pass_cut s first new h c =
    let sent : List Flight = s.world.sent in
    let b : Begins (length sent) 1 sent first = begins sent (length sent) 1 first h in
    let rest : List Flight = drop (first - 1) sent in
    let counted : length rest ≡ length sent - (first - 1) = length-drop (first - 1) sent in
    let left : length sent + 1 - first ≡ length rest = omega (arith, counted, b.above, b.within) in
    let stand : Stand s first (length sent) rest = record {
      first = b.above;
      all = omega (arith, counted, b.above, b.within);
      grown = omega arith;
      there = λ j f g. get_drop sent (first - 1) j f g;
    } in
    cut_as s.world new (deliveries (pending_from (length sent) first rest)) (pass_events s) (ap deliveries (sym b.same))
    (swept_cut rest s first (length sent) new stand (subst (λ n. IsCut s.world (sweep_events s first n) new) left c))

pub pass_cuts : (w new : World) (n : Notes) (first end : ℕ) → pending w.sent ≡ Some first → end ≡ length w.sent + 1 → Cuts (λ s. sweep_events s first (end - first)) w n new → Cuts (λ s. pass_events s) w n new
pass_cuts w new n first end least next c s shows =
    let counted : end - first ≡ length s.world.sent + 1 - first = ap (λ i. i - first) (next ∙ ap (λ i. i + 1) (count_shown w n s shows)) in
    pass_cut s first new (sym (least_shown w n s shows) ∙ least) (subst (λ k. IsCut s.world (sweep_events s first k) new) counted (c s shows))
