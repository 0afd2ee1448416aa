-- A live sender has no untold request, where all requests of its end of the machine are told.
use Rattle.std.proofs.Common.{arith, ◌≡◌, ℕ, List, [], ◌∷◌, length, map, true, false, Bool, refl, sym, subst, ap, ◌∙◌, Some, None, Option}
use Rattle.std.specs.Prelude.{All, option_map, slice_get}
use Rattle.std.proofs.lemmas.List.{drop_all}
use Rattle.std.proofs.lemmas.List.Elements.{All-head}
use Rattle.std.proofs.lemmas.Option.{same_Some}
use Rattle.rdma_types.specs.declared.names.Name.{Name}
use Rattle.rdma_types.specs.declared.names.ObjName.{ObjName}
use Rattle.rdma_types.specs.Lists.{named}
use Rattle.rdma_types.proofs.Tables.{same_name}
use Rattle.protocol.specs.Readers.{view_by, view_of}
use Rattle.protocol.specs.State as state
use Rattle.protocol.specs.State.{Link, World}
use Rattle.protocol.specs.WorldStep.{is_live, live_context}
use Rattle.packetless_machine.specs.Machine.{End, Machine, context_of, end_of, nobody}
use Rattle.packetless_machine.specs.Steps.{untold}
use Rattle.law_simulation.specs.Stands.{AreSame, IsEndSound, Stands}
use Rattle.law_simulation.specs.Views.{Owned, link_or_none, owned, owned_there}
use Rattle.law_simulation.proofs.relation.Live.{live_of, live_same}
use Rattle.mailbox_rules.specs.Calls.{untold_at, untold_in}
use Rattle.mailbox_rules.specs.Opening.{receiver, sender, sender_end}
use Rattle.law_mailbox.specs.Held.{AtReceiverOf, AtSenderOf, IsEndOf}

first_is : (m : Machine) (c : Name) (e : End) (es : List End) → (context_of m c).ends ≡ e ∷ es → end_of m (record { context = c; name = e.name }) ≡ e
unfolding end_of named
first_is m c e es are = ap (named (λ x. x.name) (nobody (record { context = c; name = e.name })) e.name) are ∙ rw (same_name e.name) refl

module _ (peers : ℕ) (w : World) (m : Machine) (stands : Stands w m) (joined : (o : ObjName) → (end_of m o).connected ≡ true → IsEndOf peers o) (i : ℕ) (told : (end_of m (sender_end i)).told ≡ length (end_of m (sender_end i)).posted) where
  sender_told : untold (end_of m (sender_end i)) ≡ []
  unfolding untold
  sender_told = drop_all (end_of m (sender_end i)).told (end_of m (sender_end i)).posted (omega (arith, told))

  module _ (e : End) (es : List End) (are : (context_of m (sender i)).ends ≡ e ∷ es) where
    abbrev o : ObjName
    o = record { context = sender i; name = e.name }

    is_sender_end : IsEndOf peers (record { context = sender i; name = e.name }) → untold e ≡ []
    is_sender_end (AtSenderOf q low high is) =
        let same : record { context = sender i; name = e.name } ≡ sender_end i = λ t. record { context = sender i; name = (ap (λ (x : ObjName). x.name) is) t } in
        subst (λ (x : End). untold x ≡ []) (sym (ap (end_of m) same) ∙ first_is m (sender i) e es are) sender_told
    is_sender_end (AtReceiverOf q low high is) = let contexts : sender i ≡ receiver = ap (λ (x : ObjName). x.context) is in cc

    first_told : (b : Bool) → e.connected ≡ b → untold e ≡ []
    unfolding untold
    first_told true connected = is_sender_end (joined o (ap (λ (x : End). x.connected) (first_is m (sender i) e es are) ∙ connected))
    first_told false connected =
        let sound = All-head (IsEndSound (context_of m (sender i)).regions (map (λ q. q.name) (context_of m (sender i)).queues)) e es (subst (All (IsEndSound (context_of m (sender i)).regions (map (λ q. q.name) (context_of m (sender i)).queues))) are (stands.sound (sender i)).ends) in
        let none : e.posted ≡ [] = ap (λ (x : End). x.posted) (sound.made connected) in
        let empty : length e.posted ≡ 0 = ap length none in
        drop_all e.told e.posted (omega (arith, empty))

  -- its first end
  view_untold : (c : state.Context) (x : state.End) (l : Option Link) → (link_or_none l).sender.untold ≡ [] → untold_in (Some (view_by (record { context = c.name; name = x.name }) x l)) ≡ 0
  unfolding link_or_none
  view_untold c x None e = refl
  view_untold c x (Some l) e = ap length e

  by_ends : (c : state.Context) (xs : List state.End) (ys : List End) → map owned_there xs ≡ map owned ys → ys ≡ (context_of m (sender i)).ends → untold_in (option_map (view_of c) (slice_get xs 0)) ≡ 0
  unfolding view_of owned_there owned
  by_ends c [] ys same are = refl
  by_ends c (x ∷ xs) [] same are = cc
  by_ends c (x ∷ xs) (e ∷ es) same are =
      let first : owned_there x ≡ owned e = same_Some (owned_there x) (owned e) (ap (λ (zs : List Owned). slice_get zs 0) same) in
      view_untold c x x.link (ap (λ (z : Owned). z.untold) first ∙ first_told e es (sym are) e.connected refl)

  pub nothing_untold_at : is_live w (sender i) ≡ true → untold_at w i ≡ 0
  unfolding live_context
  nothing_untold_at live =
      let same : AreSame (live_of w (sender i)) (context_of m (sender i)) = live_same w m (sender i) stands live in
      by_ends (live_of w (sender i)) (live_of w (sender i)).ends (context_of m (sender i)).ends same.ends refl
