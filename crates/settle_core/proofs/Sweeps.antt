-- A pass over what is pending, number by number.
use Rattle.std.proofs.Common.{arith, ◌≡◌, ◌≢◌, ◌≤◌, ◌<◌, ◌+◌, ◌-◌, ℕ, zero, suc, List, [], ◌∷◌, length, drop, Bool, true, false, refl, sym, ap, ◌∙◌, subst, inl, inr, eq-eqb}
use Rattle.std.specs.Prelude.{Option, Some, None, slice_get, if◌then◌else◌, ◌&&◌, ◌||◌, ◌==◌, not}
use Rattle.std.proofs.lemmas.List.{length-drop}
use Rattle.protocol.specs.declared.events.WorldEvent.TheVariants as world_event
use Rattle.protocol.specs.Fabric.{first_of, is_kept, kept_flight, look, look_at, pending, pending_from, pending_numbers, took, changed_at, marked_taken}
use Rattle.protocol.specs.State.{Flight, World}
use Rattle.protocol.specs.WorldStep.{delivers, delivers_by, now_of, world_step}
use Rattle.protocol.specs.Settle.{Mark, Settling, delivering, marks, pass, same_marks, settle_step, stepped_to}
use Rattle.law_settling.proofs.draining.Pending.{changed_other, get_append_left, kept_is, kept_when}
use Rattle.law_settling.proofs.draining.Arrivals.{IsDelivered, delivered, grows}
use Rattle.world_core.specs.Lives.{is_open, is_pending}
use Rattle.settle_core.specs.Steps.{delivered_at, sweeping}

-- ---- a step that changes nothing

eqb_same : (n : ℕ) → (n == n) ≡ true
eqb_same n = eq-eqb n n refl

pub same_marks_same : (ms : List Mark) → same_marks ms ms ≡ true
unfolding same_marks
same_marks_same [] = refl
same_marks_same (m ∷ ms) = rw (eqb_same m.una, eqb_same m.state) (same_marks_same ms)

or_false : (b : Bool) → (b || false) ≡ b
or_false true = refl
or_false false = refl

pub still_to : (s : Settling) (w : World) → w ≡ s.world → stepped_to s w ≡ s
unfolding stepped_to
still_to s w h =
    let same : (s.changed || not (same_marks (marks s.world) (marks w))) ≡ s.changed =
    ap (λ (x : World). s.changed || not (same_marks (marks s.world) (marks x))) h ∙ (ap (λ b. s.changed || not b) (same_marks_same (marks s.world)) ∙ or_false s.changed) in
    λ i. record { world = h i; changed = same i; stepped = s.stepped; waited = s.waited }

pub gone_still : (s : Settling) (k : ℕ) → kept_flight s.world.sent k ≡ None → settle_step s (world_event.Deliver k) ≡ s
unfolding settle_step world_step delivers look
gone_still s k h = still_to s (world_step s.world (world_event.Deliver k)).world (ap (λ (o : Option Flight). (delivers_by s.world k (look_at o (now_of s.world o))).world) h)

-- ---- the flights behind a delivered one stay

stays_behind : (w w' : World) (k : ℕ) → IsDelivered w w' k → (j : ℕ) (f : Flight) → j ≢ k - 1 → slice_get w.sent j ≡ Some f → slice_get w'.sent j ≡ Some f
unfolding took
stays_behind w w' k h j f ne there =
    subst (λ (fs : List Flight). slice_get fs j ≡ Some f) (sym h.sent) (get_append_left h.base h.more j f
    (elim h.marked [
      | inl a ↦ subst (λ (fs : List Flight). slice_get fs j ≡ Some f) (sym a.0) there
      | inr b ↦ subst (λ (fs : List Flight). slice_get fs j ≡ Some f) (sym b) (by (is_kept (length w.sent) k))
    ]))
  where
    by : (b : Bool) → slice_get (if b then changed_at marked_taken (k - 1) w.sent else w.sent) j ≡ Some f
    by true = changed_other marked_taken (k - 1) j w.sent ne ∙ there
    by false = there

-- the flights fs stand in the state's list from number k on, the last of `count` flights of before
pub record Stand (s : Settling) (k count : ℕ) (fs : List Flight) : Type 0 where
  pub first : 1 ≤ k
  pub all : k - 1 + length fs ≡ count
  pub grown : count ≤ length s.world.sent
  pub there : (j : ℕ) (f : Flight) → slice_get fs j ≡ Some f → slice_get s.world.sent (k - 1 + j) ≡ Some f

pub stand_rest : (s : Settling) (k count : ℕ) (x : Flight) (xs : List Flight) → Stand s k count (x ∷ xs) → Stand s (k + 1) count xs
stand_rest s k count x xs h = record {
  first = omega arith;
  all = omega (arith, h.all, h.first);
  grown = h.grown;
  there = λ j f g. let e : k - 1 + suc j ≡ k + 1 - 1 + j = omega (arith, h.first) in subst (λ i. slice_get s.world.sent i ≡ Some f) e (h.there (suc j) f g);
}

pub stand_step : (s : Settling) (k count : ℕ) (fs : List Flight) → 1 ≤ k → Stand s (k + 1) count fs → Stand (settle_step s (world_event.Deliver k)) (k + 1) count fs
unfolding settle_step stepped_to
stand_step s k count fs one h =
    let d : IsDelivered s.world (world_step s.world (world_event.Deliver k)).world k = delivered s.world k in
    record {
      first = h.first;
      all = h.all;
      grown = let more : length s.world.sent ≤ length (world_step s.world (world_event.Deliver k)).world.sent = grows s.world (world_step s.world (world_event.Deliver k)).world k d in omega (arith, h.grown, more);
      there = λ j f g. stays_behind s.world (world_step s.world (world_event.Deliver k)).world k d (k + 1 - 1 + j) f (λ e. omega (arith, e, one)) (h.there j f g);
    }

swept : (fs : List Flight) (s : Settling) (k count : ℕ) → Stand s k count fs → delivering s (pending_from count k fs) ≡ sweeping s k (length fs)
unfolding sweeping delivering pending_from kept_flight delivered_at
swept [] s k count h = refl
swept (x ∷ xs) s k count h = by_kept (is_kept (length s.world.sent) k) (is_kept count k) refl refl (λ t g. swept xs t (k + 1) count g)
  where
    step : Settling
    step = settle_step s (world_event.Deliver k)

    flight : slice_get s.world.sent (k - 1) ≡ Some x
    flight = let e : k - 1 + 0 ≡ k - 1 = omega arith in subst (λ i. slice_get s.world.sent i ≡ Some x) e (h.there 0 x refl)

    kept_is_there : is_kept (length s.world.sent) k ≡ true → kept_flight s.world.sent k ≡ Some x
    kept_is_there kept = ap (λ b. if b then slice_get s.world.sent (k - 1) else None) kept ∙ flight

    kept_is_not : is_kept (length s.world.sent) k ≡ false → kept_flight s.world.sent k ≡ None
    kept_is_not kept = ap (λ b. if b then slice_get s.world.sent (k - 1) else None) kept

    stepping : Bool → Settling
    stepping b = if b then step else s

    rest_on : (b : Bool) → ((t : Settling) → Stand t (k + 1) count xs → delivering t (pending_from count (k + 1) xs) ≡ sweeping t (k + 1) (length xs)) → delivering (stepping b) (pending_from count (k + 1) xs) ≡ sweeping (stepping b) (k + 1) (length xs)
    rest_on true rest = rest step (stand_step s k count xs h.first (stand_rest s k count x xs h))
    rest_on false rest = rest s (stand_rest s k count x xs h)

    listed : (b : Bool) → delivering s (if b then k ∷ pending_from count (k + 1) xs else pending_from count (k + 1) xs) ≡ delivering (stepping b) (pending_from count (k + 1) xs)
    listed true = refl
    listed false = refl

    swept_as : (b : Bool) → is_pending s.world.sent k ≡ b → sweeping (delivered_at s k) (k + 1) (length xs) ≡ sweeping (stepping b) (k + 1) (length xs)
    swept_as b e = ap (λ (c : Bool). sweeping (if c then settle_step s (world_event.Deliver k) else s) (k + 1) (length xs)) e

    by_kept : (now before : Bool) → is_kept (length s.world.sent) k ≡ now → is_kept count k ≡ before → ((t : Settling) → Stand t (k + 1) count xs → delivering t (pending_from count (k + 1) xs) ≡ sweeping t (k + 1) (length xs)) →
        delivering s (if before && (not x.lost && not x.taken) then k ∷ pending_from count (k + 1) xs else pending_from count (k + 1) xs) ≡ sweeping (delivered_at s k) (k + 1) (length xs)
    by_kept true true now before rest =
        listed (not x.lost && not x.taken) ∙ (rest_on (not x.lost && not x.taken) rest ∙ sym (swept_as (not x.lost && not x.taken) (ap is_open (kept_is_there now))))
    by_kept true false now before rest =
        let kept = kept_is (length s.world.sent) k now in
        let was : is_kept count k ≡ true = kept_when count k h.first (omega (arith, h.all, h.first)) (omega (arith, kept.2, h.grown)) in
        absurd (cc (before, was))
    by_kept false b now before rest =
        skipped (b && (not x.lost && not x.taken)) ∙ (rest_on false rest ∙ sym (swept_as false (ap is_open (kept_is_not now))))
      where
        skipped : (b : Bool) → delivering s (if b then k ∷ pending_from count (k + 1) xs else pending_from count (k + 1) xs) ≡ delivering (stepping false) (pending_from count (k + 1) xs)
        skipped true = ap (λ (t : Settling). delivering t (pending_from count (k + 1) xs)) (gone_still s k (kept_is_not now))
        skipped false = refl

-- ---- from the first pending one on

pub record Begins (count k : ℕ) (fs : List Flight) (first : ℕ) : Type 0 where
  pub above : k ≤ first
  pub within : first - k < length fs
  pub same : pending_from count k fs ≡ pending_from count first (drop (first - k) fs)

pub begins : (fs : List Flight) (count k first : ℕ) → first_of (pending_from count k fs) ≡ Some first → Begins count k fs first
unfolding pending_from
begins [] count k first h = absurd (cc)
begins (x ∷ xs) count k first h = by_test (is_kept count k && (not x.lost && not x.taken)) refl h (λ g. begins xs count (k + 1) first g)
  where
    here : k ≡ first → Begins count k (x ∷ xs) first
    here e = subst (λ j. Begins count k (x ∷ xs) j) e (record {
      above = omega arith;
      within = omega arith;
      same = let z : 0 ≡ k - k = omega arith in subst (λ i. pending_from count k (x ∷ xs) ≡ pending_from count k (drop i (x ∷ xs))) z refl;
    })

    by_test : (b : Bool) → (is_kept count k && (not x.lost && not x.taken)) ≡ b → first_of (if b then k ∷ pending_from count (k + 1) xs else pending_from count (k + 1) xs) ≡ Some first → (first_of (pending_from count (k + 1) xs) ≡ Some first → Begins count (k + 1) xs first) → Begins count k (x ∷ xs) first
    by_test true t g later = here (cc)
    by_test false t g later =
        let rest : Begins count (k + 1) xs first = later g in
        let place : suc (first - (k + 1)) ≡ first - k = omega (arith, rest.above) in
        record {
          above = omega (arith, rest.above);
          within = omega (arith, rest.within, rest.above);
          same =
              ap (λ (b : Bool). if b then k ∷ pending_from count (k + 1) xs else pending_from count (k + 1) xs) t
              ∙ (rest.same ∙ subst (λ i. pending_from count first (drop (first - (k + 1)) xs) ≡ pending_from count first (drop i (x ∷ xs))) place refl);
        }

pub get_drop : {A : Type 0} (xs : List A) (n j : ℕ) (x : A) → slice_get (drop n xs) j ≡ Some x → slice_get xs (n + j) ≡ Some x
get_drop xs zero j x h = let e : j ≡ 0 + j = omega arith in subst (λ i. slice_get xs i ≡ Some x) e h
get_drop [] (suc n) j x h = absurd (cc)
get_drop (y ∷ xs) (suc n) j x h = let e : suc (n + j) ≡ suc n + j = omega arith in subst (λ i. slice_get (y ∷ xs) i ≡ Some x) e (get_drop xs n j x h)

pub pass_sweeps : (s : Settling) (first : ℕ) → pending s.world.sent ≡ Some first → pass s ≡ sweeping s first (length s.world.sent + 1 - first)
unfolding pending
pass_sweeps s first h =
    let sent = s.world.sent in
    let b : Begins (length sent) 1 sent first = begins sent (length sent) 1 first h in
    let rest : List Flight = drop (first - 1) sent in
    let counted : length rest ≡ length sent - (first - 1) = length-drop (first - 1) sent in
    let left : length rest ≡ length sent + 1 - first = omega (arith, counted, b.above, b.within) in
    let stand : Stand s first (length sent) rest = record {
      first = b.above;
      all = omega (arith, counted, b.above, b.within);
      grown = omega arith;
      there = λ j f g. get_drop sent (first - 1) j f g;
    } in
    ap (delivering s) b.same ∙ (swept rest s first (length sent) stand ∙ ap (sweeping s first) left)

none_numbers : (ks : List ℕ) (s : Settling) → first_of ks ≡ None → delivering s ks ≡ s
unfolding delivering
none_numbers [] s h = refl
none_numbers (k ∷ ks) s h = absurd (cc)

pub pass_stays : (s : Settling) → pending s.world.sent ≡ None → pass s ≡ s
unfolding pending
pass_stays s h = none_numbers (pending_numbers s.world.sent) s h

-- ---- one number more

pub sweeping-more : (n : ℕ) (s : Settling) (k : ℕ) → sweeping s k (suc n) ≡ delivered_at (sweeping s k n) (k + n)
unfolding sweeping
sweeping-more zero s k = let e : k ≡ k + 0 = omega arith in ap (delivered_at s) e
sweeping-more (suc n) s k =
    sweeping-more n (delivered_at s k) (k + 1) ∙ (let e : k + 1 + n ≡ k + suc n = omega arith in ap (delivered_at (sweeping (delivered_at s k) (k + 1) n)) e)
