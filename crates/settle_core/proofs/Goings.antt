-- Rounds one after another, and a whole settling.
use Rattle.std.proofs.Common.{arith, ◌≡◌, ◌≤◌, ◌<◌, ◌+◌, ◌-◌, ◌*◌, ℕ, suc, List, [], ◌++◌, length, take, get_or, Bool, true, false, refl, sym, ap, ◌∙◌, subst, sum_by, map, Result, Ok, Err, ◌^◌}
use Rattle.std.specs.Prelude.{◌||◌, option_map, Option, None, Some, IfOk, IfSome, OnErr}
use Rattle.std.specs.Option.{SomeIff, ok_or}
use Rattle.std.specs.declared.alloc.AllocError.{AllocError}
use Rattle.std.proofs.lemmas.List.{append_assoc, take_all}
use Rattle.std.proofs.lemmas.List.Sums.{sum_by_more}
use Rattle.indexmap.specs.IndexMap.{get}
use Rattle.rdma_types.specs.Lists.{first_that, same_object}
use Rattle.rdma_types.specs.declared.names.ObjName.{ObjName}
use Rattle.protocol.specs.declared.events.WorldEvent.{WorldEvent}
use Rattle.protocol.specs.State.{World}
use Rattle.protocol.specs.WorldStep.{world_after}
use Rattle.protocol.specs.Settle.{Settled, Settling, begun, last_wait, live_ends, load_of, marks, round, rounds_of, settled, unfinished}
use Rattle.law_kept_datagrams.specs.Alike.{with_kept_datagrams}
use Rattle.law_settling.specs.Ends.{started}
use Rattle.law_settling.specs.Events.{round_events, rounds_events, settling_events}
use Rattle.law_settling.proofs.steps.Events.{round_lead, settled_lead}
use Rattle.world_core.specs.Lives.{live_list}
use Rattle.world_core.specs.Settled.{IsCut, IsLeft, IsSettled}
use Rattle.context_core.specs.declared.lives.LiveEnd.{LiveEnd}
use Rattle.world_core.specs.declared.settling.Quiet.{Quiet}
use Rattle.settle_core.specs.Loads.{view_load, view_numbers}
use Rattle.settle_core.specs.Marks.{view_mark}
use Rattle.settle_core.specs.Shown.{Cuts, Ends, Settles, Shows, wait_of}
use Rattle.settle_core.specs.declared.notes.Notes.{Notes}
use Rattle.settle_core.proofs.Cuts.{cut_after, cut_all, cut_as, cut_first, cut_none}
use Rattle.settle_core.proofs.Listed.{load_listed}
use Rattle.settle_core.proofs.Worlds.{after_append}

pub on_err : {T P : Type 0} (r : Result T AllocError) → P → OnErr r P
on_err (Ok x) h = tt
on_err (Err e) h = h

-- ---- the load

pub most_told : (most : Result ℕ AllocError) (product : Option ℕ) (e : AllocError) (load all : ℕ) → most ≡ ok_or product e → SomeIff product (load * 32 < 2 ^ 64) (load * 32) → load ≡ all → IfOk most (λ m. m ≡ 32 * all)
most_told most None e load all is product same = subst (λ (x : Result ℕ AllocError). IfOk x (λ m. m ≡ 32 * all)) (sym is) tt
most_told most (Some m) e load all is product same = subst (λ (x : Result ℕ AllocError). IfOk x (λ m. m ≡ 32 * all)) (sym is) (omega (arith, product, same))

-- .. of a world with these live ends
pub most_listed : (w : World) (es : List LiveEnd) (most : ℕ) → es ≡ live_list w → most ≡ 32 * view_load es → most ≡ 32 * load_of w
most_listed w es most lives h = h ∙ ap (λ n. 32 * n) (ap view_load lives ∙ load_listed w)

pub load_more : (xs : List LiveEnd) (i : ℕ) (x : LiveEnd) (load more new : ℕ) → i < length xs → x ≡ get_or xs i x → load ≡ sum_by view_numbers (take i xs) + i + 1 → more ≡ load + view_numbers x → new ≡ more + 1 →
    new ≡ sum_by view_numbers (take (i + 1) xs) + (i + 1) + 1
load_more xs i x load more new h is e m n =
    let sums = sum_by_more view_numbers xs i x h in
    let numbers : view_numbers (get_or xs i x) ≡ view_numbers x = ap view_numbers (sym is) in
    omega arith

pub load_all : (xs : List LiveEnd) (i load : ℕ) → length xs ≤ i → i ≤ length xs → load ≡ sum_by view_numbers (take i xs) + i + 1 → load ≡ sum_by view_numbers xs + length xs + 1
load_all xs i load h g e =
    let same : i ≡ length xs = omega arith in
    e ∙ (ap (λ ys. sum_by view_numbers ys + i + 1) (take_all i xs h) ∙ ap (λ k. sum_by view_numbers xs + k + 1) same)

-- ---- rounds

pick : (b : Bool) (x y : Settled) → b ≡ true → (elim b as (λ z. Settled) [ true ↦ x | false ↦ y ]) ≡ x
pick true x y h = refl
pick false x y h = absurd (cc)

pick_not : (b : Bool) (x y : Settled) → b ≡ false → (elim b as (λ z. Settled) [ true ↦ x | false ↦ y ]) ≡ y
pick_not true x y h = absurd (cc)
pick_not false x y h = refl

-- the world after this many rounds
abbrev ended : Settling → ℕ → Settled
ended s n = record { world = s.world; rounds = n }

rounds_more : (f n : ℕ) (t : Settling) → ((round t).changed || (round t).stepped) ≡ true → rounds_of (suc f) n t ≡ rounds_of f (n + 1) (begun (round t))
unfolding rounds_of
rounds_more f n t h = pick ((round t).changed || (round t).stepped) (rounds_of f (n + 1) (begun (round t))) (ended (round t) (n + 1)) h

rounds_last : (f n : ℕ) (t : Settling) → ((round t).changed || (round t).stepped) ≡ false → rounds_of (suc f) n t ≡ ended (round t) (n + 1)
unfolding rounds_of
rounds_last f n t h = pick_not ((round t).changed || (round t).stepped) (rounds_of f (n + 1) (begun (round t))) (ended (round t) (n + 1)) h

rounds_none : (n : ℕ) (t : Settling) → rounds_of 0 n t ≡ ended t n
unfolding rounds_of
rounds_none n t = refl

-- a state on the way of a settling's rounds, with so many rounds left and done
pub record Going (w : World) (n : Notes) (s : Settling) (most left done : ℕ) : Type 0 where
  pub at : Settling
  pub shows : Shows w n at
  pub way : rounds_of left done at ≡ rounds_of most 0 s
  -- the events by which it came there, before those that are left
  pub made : List WorldEvent
  pub led : world_after s.world made ≡ at.world
  pub events : made ++ rounds_events left at ≡ rounds_events most s

pub going_begins : (w : World) (n : Notes) (s : Settling) (most : ℕ) → Shows w n s → Going w n s most (most - 0) 0
unfolding world_after
going_begins w n s most shows =
    let e : most - 0 ≡ most = omega arith in
    record { at = s; shows = shows; way = ap (λ f. rounds_of f 0 s) e; made = []; led = refl; events = ap (λ f. rounds_events f s) e }

-- the events of one more round
events_more : (f : ℕ) (t : Settling) → ((round t).changed || (round t).stepped) ≡ true → rounds_events (suc f) t ≡ round_events t ++ rounds_events f (begun (round t))
unfolding rounds_events
events_more f t h = by ((round t).changed || (round t).stepped) h
  where
    by : (b : Bool) → b ≡ true → round_events t ++ (elim b as (λ z. List WorldEvent) [ true ↦ rounds_events f (begun (round t)) | false ↦ [] ]) ≡ round_events t ++ rounds_events f (begun (round t))
    by true e = refl
    by false e = absurd (cc)

told : (w : World) (n : Notes) (t : Settling) (b : Bool) → Shows w n t → (n.changed || n.stepped) ≡ b → (t.changed || t.stepped) ≡ b
told w n t b g h = ap (λ x. x || t.stepped) (sym g.changed) ∙ (ap (λ x. n.changed || x) (sym g.stepped) ∙ h)

pub going_goes : (w w1 : World) (n n1 n2 : Notes) (s : Settling) (most i : ℕ) → i < most → (h : Going w n s most (most - i) i) → Settles round w n w1 n1 → (n1.changed || n1.stepped) ≡ true →
    ((v : World) (t : Settling) → Shows v n1 t → Shows v n2 (begun t)) → Going w1 n2 s most (most - (i + 1)) (i + 1)
going_goes w w1 n n1 n2 s most i below h goes more begins =
    let g = goes h.at h.shows in
    let e : most - i ≡ suc (most - (i + 1)) = omega arith in
    record {
      at = begun (round h.at);
      shows = begins w1 (round h.at) g;
      way = sym (rounds_more (most - (i + 1)) i h.at (told w1 n1 (round h.at) true g more)) ∙ (ap (λ f. rounds_of f i h.at) (sym e) ∙ h.way);
      made = h.made ++ round_events h.at;
      led = after_append h.made (round_events h.at) s.world ∙ (ap (λ (x : World). world_after x (round_events h.at)) h.led ∙ (round_lead h.at).after);
      events =
          append_assoc h.made (round_events h.at) (rounds_events (most - (i + 1)) (begun (round h.at)))
          ∙ (ap (λ z. h.made ++ z) (sym (ap (λ f. rounds_events f h.at) e ∙ events_more (most - (i + 1)) h.at (told w1 n1 (round h.at) true g more))) ∙ h.events);
    }

ends_as : (w : World) (count : ℕ) (end end' : Settled) → end ≡ end' → Ends end w count → Ends end' w count
ends_as w count end end' e h = subst (λ (x : Settled). Ends x w count) e h

pub going_stops : (w w1 : World) (n n1 : Notes) (s : Settling) (most i : ℕ) → i < most → (h : Going w n s most (most - i) i) → Settles round w n w1 n1 → (n1.changed || n1.stepped) ≡ false → Ends (rounds_of most 0 s) w1 (i + 1)
going_stops w w1 n n1 s most i below h goes quiet =
    let g = goes h.at h.shows in
    let e : most - i ≡ suc (most - (i + 1)) = omega arith in
    ends_as w1 (i + 1) (ended (round h.at) (i + 1)) (rounds_of most 0 s)
    (sym (rounds_last (most - (i + 1)) i h.at (told w1 n1 (round h.at) false g quiet)) ∙ (ap (λ f. rounds_of f i h.at) (sym e) ∙ h.way)) (record { world = g.world; rounds = refl })

pub going_ends : (w : World) (n : Notes) (s : Settling) (most i : ℕ) → most ≡ i → (h : Going w n s most (most - i) i) → Ends (rounds_of most 0 s) w most
going_ends w n s most i all h =
    let none : most - i ≡ 0 = omega arith in
    ends_as w most (ended h.at i) (rounds_of most 0 s) (sym (rounds_none i h.at) ∙ (ap (λ f. rounds_of f i h.at) (sym none) ∙ h.way)) (record { world = h.shows.world; rounds = all })

-- a round that runs out of memory on the way
round_first : (f : ℕ) (t : Settling) (new : World) → IsCut t.world (round_events t) new → IsCut t.world (rounds_events (suc f) t) new
unfolding rounds_events
round_first f t new c = cut_first t.world new (round_events t) _ c

pub going_cut : (w new : World) (n : Notes) (s : Settling) (most i : ℕ) → i < most → (h : Going w n s most (most - i) i) → Cuts (λ t. round_events t) w n new → IsCut s.world (rounds_events most s) new
going_cut w new n s most i below h c =
    let e : suc (most - (i + 1)) ≡ most - i = omega arith in
    cut_as s.world new (h.made ++ rounds_events (most - i) h.at) (rounds_events most s) h.events
    (cut_after s.world h.at.world new h.made (rounds_events (most - i) h.at) h.led
    (subst (λ f. IsCut h.at.world (rounds_events f h.at) new) e (round_first (most - (i + 1)) h.at new (c h.at h.shows))))

-- ---- a whole settling

-- the state that a settling begins with
abbrev first : World → Settling
first w = record { world = w; changed = false; stepped = false; waited = [] }

none_waited : (w : World) (n : Notes) (o : ObjName) → n.waited.entries ≡ [] → get same_object n.waited o ≡ option_map wait_of (last_wait (first w) o)
unfolding last_wait first_that
none_waited w n o h = rw h refl

shown_first : (w : World) (n : Notes) → with_kept_datagrams w ≡ w → n.changed ≡ false → n.stepped ≡ false → n.waited.entries ≡ [] → n.seen ≡ None → Shows w n (first w)
shown_first w n kept changed stepped none unseen = record { world = sym kept; changed = changed; stepped = stepped; waited = λ o. none_waited w n o none; seen = λ still. subst (λ o. IfSome o (λ ends. map view_mark ends ≡ marks w)) (sym unseen) tt }

unfinished_shown : (w v : World) → w ≡ with_kept_datagrams v → unfinished w ≡ unfinished v
unfolding unfinished
unfinished_shown w v h = ap (λ (x : World). unfinished x) h

pub settles_as : (w w' : World) (n : Notes) (most : ℕ) (q : Quiet) → with_kept_datagrams w ≡ w → n.changed ≡ false → n.stepped ≡ false → n.waited.entries ≡ [] → n.seen ≡ None → most ≡ 32 * load_of w →
    ((s : Settling) → Shows w n s → Ends (rounds_of most 0 s) w' q.rounds) → q.unfinished ≡ unfinished w' → IsSettled w w' q
unfolding settled
settles_as w w' n most q kept changed stepped none unseen is goes left =
    let all : rounds_of most 0 (first w) ≡ settled w = ap (λ f. rounds_of f 0 (first w)) is in
    let end = ends_as w' q.rounds (rounds_of most 0 (first w)) (settled w) all (goes (first w) (shown_first w n kept changed stepped none unseen)) in
    record { world = end.world; rounds = end.rounds; unfinished = left ∙ unfinished_shown w' (settled w).world end.world }

-- ---- a settling that runs out of memory

-- a whole world with the same last datagrams is shown
shown_whole : (w v : World) (n : Notes) → with_kept_datagrams w ≡ w → with_kept_datagrams v ≡ with_kept_datagrams w → n.changed ≡ false → n.stepped ≡ false → n.waited.entries ≡ [] → n.seen ≡ None → Shows w n (started v)
shown_whole w v n kept same changed stepped none unseen = record {
  world = sym kept ∙ sym same;
  changed = changed;
  stepped = stepped;
  waited = λ o. none_waited v n o none;
  seen = λ still. subst (λ o. IfSome o (λ ends. map view_mark ends ≡ marks w)) (sym unseen) tt;
}

load_whole : (w v : World) → with_kept_datagrams w ≡ w → with_kept_datagrams v ≡ with_kept_datagrams w → load_of w ≡ load_of v
unfolding load_of live_ends
load_whole w v kept same = ap (λ (x : World). load_of x) (sym kept ∙ sym same)

-- before its first round
pub left_none : (w : World) → with_kept_datagrams w ≡ w → IsLeft w w
left_none w kept v same = cut_none v w (settling_events v) (sym kept ∙ sym same)

-- in its rounds
pub left_rounds : (w new : World) (n : Notes) (most : ℕ) → with_kept_datagrams w ≡ w → n.changed ≡ false → n.stepped ≡ false → n.waited.entries ≡ [] → n.seen ≡ None → most ≡ 32 * load_of w →
    Cuts (λ s. rounds_events most s) w n new → IsLeft w new
unfolding settling_events
left_rounds w new n most kept changed stepped none unseen is c v same =
    cut_as v new (rounds_events most (started v)) (rounds_events (32 * load_of v) (started v)) (ap (λ f. rounds_events f (started v)) (is ∙ ap (λ k. 32 * k) (load_whole w v kept same)))
    (c (started v) (shown_whole w v n kept same changed stepped none unseen))

-- after the last one
pub left_all : (w new : World) (n : Notes) (most count : ℕ) → with_kept_datagrams w ≡ w → n.changed ≡ false → n.stepped ≡ false → n.waited.entries ≡ [] → n.seen ≡ None → most ≡ 32 * load_of w →
    ((s : Settling) → Shows w n s → Ends (rounds_of most 0 s) new count) → IsLeft w new
unfolding settled
left_all w new n most count kept changed stepped none unseen is goes v same =
    let all : rounds_of most 0 (started v) ≡ settled v = ap (λ f. rounds_of f 0 (started v)) (is ∙ ap (λ k. 32 * k) (load_whole w v kept same)) in
    let end = ends_as new count (rounds_of most 0 (started v)) (settled v) all (goes (started v) (shown_whole w v n kept same changed stepped none unseen)) in
    cut_all v new (settling_events v) (end.world ∙ ap with_kept_datagrams (sym (settled_lead v).after))
