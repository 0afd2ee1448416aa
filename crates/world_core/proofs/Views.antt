-- What views of ends tell of them.
use Rattle.std.proofs.Common.{◌≡◌, ℕ, suc, ◌+◌, ◌||◌, Bool, true, false, Option, Some, None, refl, sym, ap, ◌∙◌, arith, slice_get, is_some, if◌then◌else◌}
use Rattle.std.specs.Prelude.{◌&&◌, not, drop, option_map}
use Rattle.rdma_types.specs.declared.answers.EndState.TheVariants as state
use Rattle.rdma_types.specs.declared.answers.EndView.{EndView}
use Rattle.rdma_types.specs.declared.names.ObjName.{ObjName}
use Rattle.rdma_types.specs.Lists.{some}
use Rattle.protocol.specs.Refusals.{has_context, has_end, is_init}
use Rattle.protocol.specs.EndWords.{phase_state}
use Rattle.protocol.specs.Readers.{view_by, view_of}
use Rattle.protocol.specs.State.{Context, Device, End, Link, Paused, Phase, Resuming, Running, World, context_at, end_at}
use Rattle.protocol.specs.WorldStep.{is_carried_end, is_resuming_end, partner_moves}
use Rattle.device_core.specs.Readings.{end_named}
use Rattle.world_core.specs.Sites.{is_init_state, is_rts, view_moves}
use Rattle.world_core.proofs.Places.{some-drop}
use Rattle.world_core.proofs.Causes.{or_left}

-- ---- an end that a word names

pub named_there : (d : Device) (o : ObjName) → has_context d o.context ≡ true → is_some (end_named d o) ≡ has_end (context_at d o.context) o.name
unfolding end_named
named_there d o here = by (has_context d o.context) (has_end (context_at d o.context) o.name) here
  where
    by : (a b : Bool) → a ≡ true → is_some (if a && b then Some (view_of (context_at d o.context) (end_at (context_at d o.context) o.name)) else None) ≡ b
    by true true h = refl
    by true false h = refl
    by false b h = absurd (cc)

pub named_view : (d : Device) (o : ObjName) (v : EndView) → Some v ≡ end_named d o → v ≡ view_of (context_at d o.context) (end_at (context_at d o.context) o.name)
unfolding end_named
named_view d o v h = by (has_context d o.context && has_end (context_at d o.context) o.name) h
  where
    by : (b : Bool) → Some v ≡ (if b then Some (view_of (context_at d o.context) (end_at (context_at d o.context) o.name)) else None) → v ≡ view_of (context_at d o.context) (end_at (context_at d o.context) o.name)
    by true i = cc
    by false i = absurd (cc)

pub view_number : (c : Context) (e : End) → (view_of c e).number ≡ e.number
unfolding view_of
view_number c e = by e.link
  where
    by : (o : Option Link) → (view_by (record { context = c.name; name = e.name }) e o).number ≡ e.number
    by None = refl
    by (Some l) = refl

pub view_init : (c : Context) (e : End) → is_init_state (view_of c e).state ≡ is_init e.link
unfolding view_of
view_init c e = by e.link
  where
    by_phase : (p : Phase) → is_init_state (phase_state p) ≡ false
    by_phase Running = refl
    by_phase Paused = refl
    by_phase Resuming = refl

    by_ended : (l : Link) (b : Bool) → is_init_state (if b then state.Error else phase_state l.moving.phase) ≡ false
    by_ended l true = refl
    by_ended l false = by_phase l.moving.phase

    by : (o : Option Link) → is_init_state (view_by (record { context = c.name; name = e.name }) e o).state ≡ is_init o
    by None = refl
    by (Some l) = by_ended l l.ended

-- ---- a view of an end

pub view_moves-is : (w : World) (c : Context) (e : End) → view_moves w (view_of c e) ≡ partner_moves w e.link
unfolding view_of
view_moves-is w c e = by e.link
  where
    by_phase : (l : Link) (p : Phase) → (is_rts (phase_state p) && (is_carried_end w l.peer || is_resuming_end w l.peer)) ≡ (is_carried_end w l.peer || is_resuming_end w l.peer)
    by_phase l Running = refl
    by_phase l Paused = refl
    by_phase l Resuming = refl

    by_ended : (l : Link) (b : Bool) → (is_rts (if b then state.Error else phase_state l.moving.phase) && (is_carried_end w l.peer || is_resuming_end w l.peer)) ≡ (not b && (is_carried_end w l.peer || is_resuming_end w l.peer))
    by_ended l true = refl
    by_ended l false = by_phase l l.moving.phase

    by : (o : Option Link) → view_moves w (view_by (record { context = c.name; name = e.name }) e o) ≡ partner_moves w o
    by None = refl
    by (Some l) = by_ended l l.ended

-- the view of an end at a place
pub record IsSeen (c : Context) (o : Option End) (v : EndView) : Type 0 where
  pub end : End
  pub there : o ≡ Some end
  pub view : v ≡ view_of c end

pub seen : (c : Context) (o : Option End) (v : EndView) → Some v ≡ option_map (view_of c) o → IsSeen c o v
seen c None v h = absurd (cc)
seen c (Some e) v h = record { end = e; there = refl; view = cc }

-- the partner of an end moves, or does not, as its view tells
pub seen_moves : (w : World) (c : Context) (i : ℕ) (v : EndView) → Some v ≡ option_map (view_of c) (slice_get c.ends i) → view_moves w v ≡ true → some (λ e. partner_moves w e.link) (drop i c.ends) ≡ true
seen_moves w c i v h moves =
    let s : IsSeen c (slice_get c.ends i) v = seen c (slice_get c.ends i) v h in
    let moved : partner_moves w s.end.link ≡ true = sym (view_moves-is w c s.end) ∙ (ap (λ x. view_moves w x) (sym s.view) ∙ moves) in
    some-drop (λ e. partner_moves w e.link) c.ends i s.end s.there ∙ or_left (partner_moves w s.end.link) (some (λ e. partner_moves w e.link) (drop (suc i) c.ends)) moved

pub seen_stays : (w : World) (c : Context) (i : ℕ) (v : EndView) → Some v ≡ option_map (view_of c) (slice_get c.ends i) → view_moves w v ≡ false →
    some (λ e. partner_moves w e.link) (drop i c.ends) ≡ some (λ e. partner_moves w e.link) (drop (i + 1) c.ends)
seen_stays w c i v h moves =
    let s : IsSeen c (slice_get c.ends i) v = seen c (slice_get c.ends i) v h in
    let stayed : partner_moves w s.end.link ≡ false = sym (view_moves-is w c s.end) ∙ (ap (λ x. view_moves w x) (sym s.view) ∙ moves) in
    let next : suc i ≡ i + 1 = omega arith in
    some-drop (λ e. partner_moves w e.link) c.ends i s.end s.there
    ∙ (ap (λ b. b || some (λ e. partner_moves w e.link) (drop (suc i) c.ends)) stayed
    ∙ ap (λ j. some (λ e. partner_moves w e.link) (drop j c.ends)) next)
