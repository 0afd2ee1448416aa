-- A world where one live context changed, and the live ends by their numbers.
use Rattle.std.proofs.Common.{◌≡◌, ◌≢◌, ◌⊎◌, ℕ, true, false, Bool, refl, sym, ap, ◌∙◌, subst, inl, inr}
use Rattle.std.specs.Prelude.{Option, Some, None, not, ◌==◌, ◌&&◌, if◌then◌else◌}
use Rattle.rdma_types.specs.declared.names.Name.{Name}
use Rattle.rdma_types.specs.declared.names.ObjName.{ObjName}
use Rattle.rdma_types.specs.Lists.{named, store_named}
use Rattle.rdma_types.specs.declared.answers.DropReason.TheVariants as why
use Rattle.protocol.specs.State.{World, Context, End, Link, Paused, no_context, no_end}
use Rattle.protocol.specs.Wire.{Packet}
use Rattle.protocol.specs.EndWords.{is_paused, linked, silent, with_moving}
use Rattle.protocol.specs.EndStep.{takes, takes_kind}
use Rattle.protocol.specs.Moves.{Stopped, GoesPaused, Stale, control_of, in_phase, move_row, moves_by, takes_control}
use Rattle.protocol.specs.WorldStep.{live_context}
use Rattle.packetless_machine.specs.Machine as machine
use Rattle.packetless_machine.specs.Machine.{Machine}
use Rattle.law_simulation.specs.Stands.{Stands}
use Rattle.law_simulation.specs.Views.{name_of, owned, owned_there}
use Rattle.law_simulation.proofs.relation.Tables.{name_or_not, named-store_same, named-store_other}
use Rattle.law_simulation.proofs.relation.Worlds.{shapes_of}
use Rattle.law_simulation.proofs.sending.GoLive.{both}
use Rattle.law_settling.proofs.bound.Lives.{lives, at_end, context_in, end_is, AllGoOn, LinkGoesOn}
use Rattle.law_settling.proofs.bound.Turns.{live_end}

-- ---- one live context became x

module _ (w w' : World) (q : ObjName) (c : Context) (there : context_in (lives w) q.context ≡ c) (x : Context) (stored : lives w' ≡ store_named (λ y. y.name) q.context x (lives w)) (called : x.name ≡ q.context) where
  pub context_now : context_in (lives w') q.context ≡ x
  context_now = ap (λ cs. context_in cs q.context) stored ∙ named-store_same (λ y. y.name) no_context q.context x (lives w) called

  pub context_else : (k : Name) → k ≢ q.context → context_in (lives w') k ≡ context_in (lives w) k
  context_else k ne = ap (λ cs. context_in cs k) stored ∙ named-store_other (λ y. y.name) no_context q.context k x (lives w) called ne

  module _ (e' : End) (ends : x.ends ≡ store_named (λ z. z.name) q.name e' c.ends) (name : e'.name ≡ q.name) where
    pub end_now : at_end w' q ≡ e'
    end_now = ap (λ z. named (λ y. y.name) no_end q.name z.ends) context_now ∙ (ap (named (λ y. y.name) no_end q.name) ends ∙ named-store_same (λ y. y.name) no_end q.name e' c.ends name)

    beside : (k : ObjName) → k.context ≡ q.context → k.name ≢ q.name → at_end w' k ≡ at_end w k
    beside k same ne =
        ap (λ z. named (λ y. y.name) no_end k.name z.ends) (ap (context_in (lives w')) same ∙ context_now)
        ∙ (ap (named (λ y. y.name) no_end k.name) ends
        ∙ (named-store_other (λ y. y.name) no_end q.name k.name e' c.ends name ne
        ∙ ap (λ z. named (λ y. y.name) no_end k.name z.ends) (sym (ap (context_in (lives w)) same ∙ there))))

    pub end_else : (k : ObjName) → k ≢ q → at_end w' k ≡ at_end w k
    end_else k ne = elim (name_or_not k.context q.context) [
      | inr other ↦ ap (λ z. named (λ y. y.name) no_end k.name z.ends) (context_else k.context other)
      | inl same ↦ elim (name_or_not k.name q.name) [
        | inr other ↦ beside k same other
        | inl named' ↦ absurd (ne (λ i. record { context = same i; name = named' i }))
      ]
    ]

-- ---- a NAK_STOPPED

-- what it leaves of an end: the same, or Paused
stop_by : (c : Context) (e : End) (l : Link) (count : ℕ) (b : Bool) → ((moves_by c e l (Stopped count) (if b then GoesPaused else Stale)).context ≡ c) ⊎ ((moves_by c e l (Stopped count) (if b then GoesPaused else Stale)).context ≡ linked c e (with_moving l (in_phase l.moving Paused)))
unfolding moves_by
stop_by c e l count true = inr refl
stop_by c e l count false = inl refl

stop_taken : (c : Context) (e : End) (l : Link) (p : Packet) (count : ℕ) (b : Bool) → ((if b then silent c why.Ended else takes_kind c e l p (Some (Stopped count))).context ≡ c) ⊎ ((if b then silent c why.Ended else takes_kind c e l p (Some (Stopped count))).context ≡ linked c e (with_moving l (in_phase l.moving Paused)))
unfolding takes_control move_row
stop_taken c e l p count true = inl refl
stop_taken c e l p count false = stop_by c e l count (count == l.moving.recorded && not (is_paused l.moving.phase))

pub stop_takes : (c : Context) (e : End) (l : Link) (p : Packet) (count : ℕ) → control_of p ≡ Some (Stopped count) → ((takes c e l p).context ≡ c) ⊎ ((takes c e l p).context ≡ linked c e (with_moving l (in_phase l.moving Paused)))
unfolding takes
stop_takes c e l p count h =
    subst (λ m. ((if l.ended then silent c why.Ended else takes_kind c e l p m).context ≡ c) ⊎ ((if l.ended then silent c why.Ended else takes_kind c e l p m).context ≡ linked c e (with_moving l (in_phase l.moving Paused)))) (sym h) (stop_taken c e l p count l.ended)

-- ---- a number names one live end

pub number_is : (w : World) (m : Machine) (a : ObjName) (l : Link) → Stands w m → (at_end w a).link ≡ Some l → (machine.end_of m a).number ≡ (at_end w a).number
unfolding owned owned_there live_context
number_is w m a l s linked' = ap (λ z. z.number) (sym (both w m a l s (live_end w m a l s linked'))) ∙ ap (λ z. z.number) (end_is w a)

pub one_named : (w : World) (m : Machine) (a : ObjName) (l : Link) → Stands w m → (at_end w a).link ≡ Some l → name_of m (at_end w a).number ≡ a
one_named w m a l s linked' = ap (name_of m) (sym (number_is w m a l s linked')) ∙ s.numbered.named a (live_end w m a l s linked').found

-- ---- worlds with the same live ends

-- .. with the same numbers, partners and terms, on devices of the same shapes
pub record IsAlike (w w' : World) : Type 0 where
  pub number : (q : ObjName) → (at_end w' q).number ≡ (at_end w q).number
  pub before : (q : ObjName) (l' : Link) → (at_end w' q).link ≡ Some l' → (l : Link) × ((at_end w q).link ≡ Some l) × (l'.peer ≡ l.peer) × (l'.terms ≡ l.terms)
  pub after : (q : ObjName) (l : Link) → (at_end w q).link ≡ Some l → (l' : Link) × ((at_end w' q).link ≡ Some l') × (l'.peer ≡ l.peer) × (l'.terms ≡ l.terms)
  pub shapes : shapes_of w' ≡ shapes_of w

pub alike_same : (w : World) → IsAlike w w
alike_same w = record { number = λ q. refl; before = λ q l h. (l, h, refl, refl); after = λ q l h. (l, h, refl, refl); shapes = refl }

link_before : (k : ℕ) (P : Type 0) (a b : Option Link) (l' : Link) → LinkGoesOn k P a b → b ≡ Some l' → (l : Link) × (a ≡ Some l) × (l'.peer ≡ l.peer) × (l'.terms ≡ l.terms)
link_before k P None None l' g h = absurd (cc)
link_before k P (Some l) (Some l1) l' g h = let e : l1 ≡ l' = cc in (l, refl, ap (λ z. z.peer) (sym e) ∙ g.peer, ap (λ z. z.terms) (sym e) ∙ g.terms)
link_before k P None (Some l) l' g h = absurd g
link_before k P (Some l) None l' g h = absurd g

link_after : (k : ℕ) (P : Type 0) (a b : Option Link) (l : Link) → LinkGoesOn k P a b → a ≡ Some l → (l' : Link) × (b ≡ Some l') × (l'.peer ≡ l.peer) × (l'.terms ≡ l.terms)
link_after k P None None l g h = absurd (cc)
link_after k P (Some l1) (Some l') l g h = let e : l1 ≡ l = cc in (l', refl, g.peer ∙ ap (λ z. z.peer) e, g.terms ∙ ap (λ z. z.terms) e)
link_after k P None (Some l') l g h = absurd g
link_after k P (Some l1) None l g h = absurd g

pub alike_on : (K : ℕ → ℕ) (P : Type 0) (w0 w w' : World) → IsAlike w0 w → AllGoOn K P w w' → shapes_of w' ≡ shapes_of w → IsAlike w0 w'
alike_on K P w0 w w' a g shapes = record {
  number = λ q. g.number q ∙ a.number q;
  before = λ q l' h.
      let t = link_before _ P _ _ l' (g.links q) h in
      let u = a.before q t.0 t.1 in
      (u.0, u.1, t.2 ∙ u.2, t.3 ∙ u.3);
  after = λ q l h.
      let u = a.after q l h in
      let t = link_after _ P _ _ u.0 (g.links q) u.1 in
      (t.0, t.1, t.2 ∙ u.2, t.3 ∙ u.3);
  shapes = shapes ∙ a.shapes;
}
