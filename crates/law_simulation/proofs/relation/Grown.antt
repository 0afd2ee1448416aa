-- The relation is kept where contexts and ends are made, or ends are connected.
use Rattle.std.proofs.Common.{arith, ◌≡◌, ◌⊎◌, List, [], ◌∷◌, ◌++◌, map, true, false, Bool, refl, sym, ap, ◌∙◌, subst, inl, inr}
use Rattle.std.specs.Prelude.{Contains, All, flat_map, is_some, None}
use Rattle.std.proofs.lemmas.List.Elements.{All-cons, All-head, All-tail}
use Rattle.rdma_types.specs.declared.names.Name.{Name}
use Rattle.rdma_types.specs.declared.names.ObjName.{ObjName}
use Rattle.rdma_types.specs.Lists.{named, has_name}
use Rattle.rdma_types.specs.Objects.{Region}
use Rattle.protocol.specs.State as state
use Rattle.protocol.specs.State.{World, no_end}
use Rattle.packetless_machine.specs.Machine as machine
use Rattle.packetless_machine.specs.Machine.{Machine, has_end, regions_of}
use Rattle.law_simulation.specs.Views.{Net, net_of, numbered, numbered_ends, peer, context_of, end_of}
use Rattle.law_simulation.specs.Joined.{IsJoined, IsProgress}
use Rattle.law_simulation.specs.Stands.{Stands, IsPlaced, IsCounted, AreNumbered, AreSame, IsContextSound, AreLeft, AreSent, husks_of}
use Rattle.law_simulation.proofs.relation.Tables.{named-absent, All-named}
use Rattle.law_simulation.proofs.relation.Ends.{end_there}
use Rattle.law_simulation.proofs.relation.Grows.{IsConnected, AreMade, NetGrows, joined_kept, progressing_kept, left_kept, sent_kept}

-- ---- what a world that stands tells of its ends

connected_in : (n : Name) (es : List state.End) (none : state.End) → none.link ≡ None → is_some (named (λ e. e.name) none n es).link ≡ true → has_name (λ e. e.name) n es ≡ true
connected_in n es none lone h = by_test (has_name (λ e. e.name) n es) refl
  where
    by_test : (b : Bool) → has_name (λ e. e.name) n es ≡ b → has_name (λ e. e.name) n es ≡ true
    by_test true t = t
    by_test false t = absurd (cc (ap (λ e. is_some e.link) (named-absent (λ e. e.name) none n es t), ap is_some lone, h))

-- an end that is connected was made
pub are_made : (w : World) (m : Machine) → Stands w m → AreMade (net_of w m)
unfolding has_end end_of
are_made w m s o c = sym (end_there o.name (context_of w o.context).ends (machine.context_of m o.context).ends (s.same o.context).ends) ∙ connected_in o.name (context_of w o.context).ends (record no_end { name = o.name }) refl c

All-before : {A : Type 0} (P : A → Type 0) (xs ys : List A) → All P (xs ++ ys) → All P xs
All-before P [] ys all = λ k d h. absurd (omega (arith, h))
All-before P (x ∷ xs) ys all = All-cons P x xs (All-head P x (xs ++ ys) all) (All-before P xs ys (All-tail P x (xs ++ ys) all))

All-after : {A : Type 0} (P : A → Type 0) (xs ys : List A) → All P (xs ++ ys) → All P ys
All-after P [] ys all = all
All-after P (x ∷ xs) ys all = All-after P xs ys (All-tail P x (xs ++ ys) all)

All-part : {A B : Type 0} (P : B → Type 0) (f : A → List B) (name : A → Name) (none : A) (n : Name) (xs : List A) → has_name name n xs ≡ true → All P (flat_map f xs) → All P (f (named name none n xs))
All-part P f name none n xs there all = All-named (λ x. All P (f x)) name none n xs (each xs all) there
  where
    each : (ys : List _) → All P (flat_map f ys) → All (λ x. All P (f x)) ys
    each [] a = λ k d h. absurd (omega (arith, h))
    each (y ∷ ys) a = All-cons (λ x. All P (f x)) y ys (All-before P (f y) (flat_map f ys) a) (each ys (All-after P (f y) (flat_map f ys) a))

All-unmapped : {A B : Type 0} (P : B → Type 0) (f : A → B) (xs : List A) → All P (map f xs) → All (λ x. P (f x)) xs
All-unmapped P f [] all = λ k d h. absurd (omega (arith, h))
All-unmapped P f (x ∷ xs) all = All-cons (λ y. P (f y)) x xs (All-head P (f x) (map f xs) all) (All-unmapped P f xs (All-tail P (f x) (map f xs) all))

made_context : (m : Machine) (o : ObjName) → has_end m o ≡ true → has_name (λ x. x.name) o.context m.contexts ≡ true
unfolding has_end machine.context_of has_name
made_context m o h = by_test (has_name (λ x. x.name) o.context m.contexts) refl
  where
    by_test : (b : Bool) → has_name (λ x. x.name) o.context m.contexts ≡ b → has_name (λ x. x.name) o.context m.contexts ≡ true
    by_test true t = t
    by_test false t = absurd (cc (ap (λ x. has_name (λ e. e.name) o.name x.ends) (named-absent (λ x. x.name) (machine.no_context o.context) o.context m.contexts t), h))

-- the number of an end that was made was given
pub number_given : (w : World) (m : Machine) → Stands w m → (o : ObjName) → has_end m o ≡ true → Contains m.numbers (machine.end_of m o).number
unfolding has_end machine.end_of machine.context_of
number_given w m s o h =
    All-named (λ e. Contains m.numbers e.number) (λ e. e.name) (machine.nobody o) o.name (machine.context_of m o.context).ends
    (All-unmapped (λ x. Contains m.numbers x.0) (λ e. (e.number, record { context = (machine.context_of m o.context).name; name = e.name })) (machine.context_of m o.context).ends
    (All-part (λ x. Contains m.numbers x.0) numbered (λ x. x.name) (machine.no_context o.context) o.context m.contexts (made_context m o h) s.numbered.given))
    h

-- ---- the whole

-- the facts of an end that was not connected before
abbrev pub IsNew : Net → (Name → List Region) → ObjName → Type 0
IsNew n regions o =
    IsJoined o (n.side o) (n.side (peer n o)) (n.end o) (n.end (peer n o))
    × ((n.side (peer n o)).rts ≡ true → IsProgress (n.end o) (n.end (peer n o)).domain (regions (peer n o).context) (n.side (peer n o)).link.receiver.progress)

-- what is left to be shown
pub record IsGrown (w w' : World) (m m' : Machine) : Type 0 where
  pub placed : IsPlaced w' m'
  pub counted : IsCounted w' m'
  pub same : (c : Name) → AreSame (context_of w' c) (machine.context_of m' c)
  pub sound : (c : Name) → IsContextSound m'.keys (machine.context_of m' c)
  pub numbered : AreNumbered (net_of w' m') (numbered_ends m') m'.numbers
  pub grows : NetGrows (net_of w m) (net_of w' m') m.numbers
  pub regions : (o : ObjName) → IsConnected (net_of w m) o → regions_of m' o.context ≡ regions_of m o.context
  pub new : (o : ObjName) → IsConnected (net_of w' m') o → IsConnected (net_of w m) o ⊎ IsNew (net_of w' m') (regions_of m') o
  pub husks : husks_of w' ≡ husks_of w
  pub sent : w'.sent ≡ w.sent

pub grown_stands : (w w' : World) (m m' : Machine) → Stands w m → IsGrown w w' m m' → Stands w' m'
grown_stands w w' m m' s g =
    let n : Net = net_of w m in
    let n' : Net = net_of w' m' in
    let made : AreMade n = are_made w m s in
    let given : (o : ObjName) → n.there o ≡ true → Contains m.numbers (n.end o).number = number_given w m s in
    record {
      placed = g.placed;
      counted = g.counted;
      same = g.same;
      sound = g.sound;
      numbered = g.numbered;
      joined = λ o c. elim (g.new o c) [
        | inl old ↦ joined_kept n n' m.numbers s.joined made given g.grows o old
        | inr f ↦ f.0
      ];
      progress = λ o c rts. elim (g.new o c) [
        | inl old ↦ progressing_kept n n' m.numbers s.joined made given g.grows (regions_of m) (regions_of m') g.regions s.progress o old rts
        | inr f ↦ f.1 rts
      ];
      husks = left_kept n n' m.numbers s.joined made given g.grows (flat_map (λ h. h.entries) (husks_of w')) (subst (λ hs. AreLeft n (flat_map (λ h. h.entries) hs)) (sym g.husks) s.husks);
      sent = sent_kept n n' m.numbers s.joined made given g.grows w'.sent (subst (AreSent n) (sym g.sent) s.sent);
    }
