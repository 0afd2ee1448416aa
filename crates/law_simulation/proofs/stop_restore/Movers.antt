-- Which ends move: what a world's tests for a stop tell of the ends by their names.
use Rattle.std.proofs.Common.{arith, ◌≡◌, ℕ, List, [], map, true, false, Bool, refl, sym, ap, ◌∙◌, inl, inr}
use Rattle.std.specs.Prelude.{Option, Some, None, option_map, is_some, not, ◌&&◌, ◌||◌, ◌==◌, flat_map}
use Rattle.std.proofs.lemmas.Bool.Decides.{nat_tests, eqb_tells}
use Rattle.rdma_types.specs.declared.names.Name.{Name}
use Rattle.rdma_types.specs.declared.names.ObjName.{ObjName}
use Rattle.rdma_types.specs.Lists.{named, has_name, some}
use Rattle.protocol.specs.declared.images.ContextImage.{ContextImage}
use Rattle.protocol.specs.declared.images.EndImage.{EndImage}
use Rattle.protocol.specs.declared.images.LinkImage.{LinkImage}
use Rattle.protocol.specs.declared.images.PostedImage.{PostedImage}
use Rattle.protocol.specs.declared.images.RegionImage.{RegionImage}
use Rattle.protocol.specs.Images as images
use Rattle.protocol.specs.EndWords.{is_resuming_link, is_resuming}
use Rattle.protocol.specs.State as state
use Rattle.protocol.specs.State.{World, Context, End, Link, Phase, Running, Paused, Resuming, no_end}
use Rattle.protocol.specs.WorldStep.{is_live, is_carried, is_linked_image, is_carried_end, is_resuming_end}
use Rattle.packetless_machine.specs.Machine as machine
use Rattle.packetless_machine.specs.Machine.{Machine, nobody}
use Rattle.law_simulation.specs.Views.{contexts_of, context_of, end_of, link_or_none, side_of, owned, owned_there}
use Rattle.law_simulation.specs.Joined.{IsMoving}
use Rattle.law_simulation.specs.Stands.{Stands, IsPlaced}
use Rattle.law_simulation.proofs.relation.Tables.{named-absent, named-append_has, named-append_lacks, has_name-map}
use Rattle.law_simulation.proofs.relation.Worlds.{has_name-flat, has_context_is}
use Rattle.law_simulation.proofs.relation.Connecting.{live_not_carried}
use Rattle.law_simulation.proofs.relation.Ends.{end_there, end_owned}
use Rattle.law_simulation.proofs.relation.Nets.{link_in}
use Rattle.law_simulation.proofs.stop_restore.Lists.{some_named, some_parts, some_map}

-- ---- the tests over contexts

-- connected, and not in Error
abbrev pub is_rts_link : Option Link → Bool
is_rts_link None = false
is_rts_link (Some l) = not l.ended

-- an end in Rts, or one that is Resuming, with that number
abbrev pub is_rts_with : ℕ → End → Bool
is_rts_with k e = e.number == k && is_rts_link e.link

abbrev pub is_resuming_with : ℕ → End → Bool
is_resuming_with k e = e.number == k && is_resuming_link e.link

linked_back : (rs : List RegionImage) (ps : List PostedImage) (l : Option LinkImage) → is_rts_link (option_map (images.link_of_image rs ps) l) ≡ is_linked_image l
unfolding images.link_of_image
linked_back rs ps None = refl
linked_back rs ps (Some l) = refl

end_test : (k : ℕ) (i : ContextImage) (e : EndImage) → is_rts_with k (images.end_of_image i e) ≡ (e.number == k && is_linked_image e.linked)
unfolding images.end_of_image
end_test k i e = ap (λ b. e.number == k && b) (linked_back i.regions e.untold e.linked)

some_same : {A : Type 0} (f g : A → Bool) (xs : List A) → ((x : A) → f x ≡ g x) → some f xs ≡ some g xs
some_same f g xs h = λ i. some (λ x. h x i) xs

context_test : (k : ℕ) (i : ContextImage) → some (is_rts_with k) (images.context_of i).ends ≡ some (λ e. e.number == k && is_linked_image e.linked) i.ends
unfolding images.context_of
context_test k i = some_map (is_rts_with k) (images.end_of_image i) i.ends ∙ some_same (λ e. is_rts_with k (images.end_of_image i e)) (λ e. e.number == k && is_linked_image e.linked) i.ends (end_test k i)

-- a carried end in Rts
pub carried_is : (w : World) (k : ℕ) → is_carried_end w k ≡ some (λ x. some (is_rts_with k) x.ends) (map images.context_of w.carried)
carried_is w k =
    sym (some_map (λ x. some (is_rts_with k) x.ends) images.context_of w.carried
    ∙ some_same (λ i. some (is_rts_with k) (images.context_of i).ends) (λ i. some (λ e. e.number == k && is_linked_image e.linked) i.ends) w.carried (context_test k))

-- a live end that is Resuming
pub resuming_is : (w : World) (k : ℕ) → is_resuming_end w k ≡ some (λ x. some (is_resuming_with k) x.ends) (flat_map (λ d. d.contexts) w.devices)
resuming_is w k = sym (some_parts (λ x. some (is_resuming_with k) x.ends) (λ d. d.contexts) w.devices)

-- ---- an end by its name

pub image_name : (i : ContextImage) → (images.context_of i).name ≡ i.name
unfolding images.context_of
image_name i = refl

pub carried_not_live : (w : World) (m : Machine) (c : Name) → IsPlaced w m → is_carried w c ≡ true → is_live w c ≡ false
carried_not_live w m c placed carried = by_test (is_live w c) refl
  where
    by_test : (b : Bool) → is_live w c ≡ b → is_live w c ≡ false
    by_test false h = h
    by_test true h = absurd (cc (live_not_carried w m c placed h, carried))

-- the carried context of that name
pub carried_context : (w : World) (m : Machine) (c : Name) → IsPlaced w m → is_carried w c ≡ true → context_of w c ≡ named (λ x. x.name) (record state.no_context { name = c }) c (map images.context_of w.carried)
unfolding context_of contexts_of
carried_context w m c placed carried = named-append_lacks (λ x. x.name) (record state.no_context { name = c }) c (flat_map (λ d. d.contexts) w.devices) (map images.context_of w.carried) (has_name-flat c w.devices ∙ carried_not_live w m c placed carried)

pub carried_has : (w : World) (c : Name) → is_carried w c ≡ true → has_name (λ x. x.name) c (map images.context_of w.carried) ≡ true
carried_has w c carried = has_name-map images.context_of (λ x. x.name) (λ i. i.name) c w.carried image_name ∙ carried

live_found : (w : World) (c : Name) → is_live w c ≡ true → context_of w c ≡ named (λ x. x.name) (record state.no_context { name = c }) c (flat_map (λ d. d.contexts) w.devices)
unfolding context_of contexts_of
live_found w c live = named-append_has (λ x. x.name) (record state.no_context { name = c }) (record state.no_context { name = c }) c (flat_map (λ d. d.contexts) w.devices) (map images.context_of w.carried) (has_name-flat c w.devices ∙ live)

-- a connected end is there, in a context that is there
connected_in : (n : Name) (es : List End) → is_some (link_in es n).link ≡ true → has_name (λ e. e.name) n es ≡ true
connected_in n es h = by_test (has_name (λ e. e.name) n es) refl
  where
    by_test : (b : Bool) → has_name (λ e. e.name) n es ≡ b → has_name (λ e. e.name) n es ≡ true
    by_test true t = t
    by_test false t = absurd (cc (ap (λ e. is_some e.link) (named-absent (λ e. e.name) (record no_end { name = n }) n es t), h))

pub end_is_there : (w : World) (o : ObjName) → is_some (end_of w o).link ≡ true → has_name (λ e. e.name) o.name (context_of w o.context).ends ≡ true
unfolding end_of
end_is_there w o h = connected_in o.name (context_of w o.context).ends h

absent_empty : (w : World) (c : Name) → has_name (λ x. x.name) c (contexts_of w) ≡ false → context_of w c ≡ record state.no_context { name = c }
unfolding context_of
absent_empty w c h = named-absent (λ x. x.name) (record state.no_context { name = c }) c (contexts_of w) h

nobody_there : (n : Name) → has_name {A = End} (λ e. e.name) n [] ≡ true → ⊥
unfolding has_name
nobody_there n h = cc

pub context_is_there : (w : World) (o : ObjName) → is_some (end_of w o).link ≡ true → (is_live w o.context || is_carried w o.context) ≡ true
context_is_there w o h = sym (has_context_is w o.context) ∙ by_test (has_name (λ x. x.name) o.context (contexts_of w)) refl
  where
    by_test : (b : Bool) → has_name (λ x. x.name) o.context (contexts_of w) ≡ b → has_name (λ x. x.name) o.context (contexts_of w) ≡ true
    by_test true t = t
    by_test false t = absurd (nobody_there o.name (ap (λ x. has_name (λ e. e.name) o.name x.ends) (sym (absent_empty w o.context t)) ∙ end_is_there w o h))

-- .. and its number is the machine's
pub number_is : (w : World) (m : Machine) (o : ObjName) → Stands w m → is_some (end_of w o).link ≡ true → (end_of w o).number ≡ (machine.end_of m o).number
unfolding end_of machine.end_of owned_there owned
number_is w m o s h =
    ap (λ z. z.number) (end_owned o.name (record no_end { name = o.name }) (nobody o) (context_of w o.context).ends (machine.context_of m o.context).ends (s.same o.context).ends
    (sym (end_there o.name (context_of w o.context).ends (machine.context_of m o.context).ends (s.same o.context).ends) ∙ connected_in o.name (context_of w o.context).ends h))

-- ---- an end that moves is found by its number

module _ (w : World) (m : Machine) (s : Stands w m) (o : ObjName) (l : Link) (linked : (end_of w o).link ≡ Some l) (alive : l.ended ≡ false) where
  there : is_some (end_of w o).link ≡ true
  there = ap is_some linked

  same_number : ((end_of w o).number == (machine.end_of m o).number) ≡ true
  same_number = grind (arith, nat_tests, eqb_tells (end_of w o).number (machine.end_of m o).number, number_is w m o s there)

  rts_test : is_rts_with (machine.end_of m o).number (end_of w o) ≡ true
  rts_test = ap (λ b. b && is_rts_link (end_of w o).link) same_number ∙ (ap is_rts_link linked ∙ ap not alive)

  resuming_test : l.moving.phase ≡ Resuming → is_resuming_with (machine.end_of m o).number (end_of w o) ≡ true
  resuming_test resuming = ap (λ b. b && is_resuming_link (end_of w o).link) same_number ∙ (ap is_resuming_link linked ∙ (ap (λ b. not b && is_resuming l.moving.phase) alive ∙ ap is_resuming resuming))

  some_end : (test : End → Bool) → test (end_of w o) ≡ true → some test (context_of w o.context).ends ≡ true
  unfolding end_of
  some_end test h = some_named test (λ e. e.name) (record no_end { name = o.name }) o.name (context_of w o.context).ends (connected_in o.name (context_of w o.context).ends there) h

  pub carried_end : is_carried w o.context ≡ true → is_carried_end w (machine.end_of m o).number ≡ true
  carried_end carried =
      carried_is w (machine.end_of m o).number
      ∙ some_named (λ x. some (is_rts_with (machine.end_of m o).number) x.ends) (λ x. x.name) (record state.no_context { name = o.context }) o.context (map images.context_of w.carried) (carried_has w o.context carried)
      (ap (λ x. some (is_rts_with (machine.end_of m o).number) x.ends) (sym (carried_context w m o.context s.placed carried)) ∙ some_end (is_rts_with (machine.end_of m o).number) rts_test)

  pub resuming_end : is_live w o.context ≡ true → l.moving.phase ≡ Resuming → is_resuming_end w (machine.end_of m o).number ≡ true
  resuming_end live resuming =
      resuming_is w (machine.end_of m o).number
      ∙ some_named (λ x. some (is_resuming_with (machine.end_of m o).number) x.ends) (λ x. x.name) (record state.no_context { name = o.context }) o.context (flat_map (λ d. d.contexts) w.devices) (has_name-flat o.context w.devices ∙ live)
      (ap (λ x. some (is_resuming_with (machine.end_of m o).number) x.ends) (sym (live_found w o.context live)) ∙ some_end (is_resuming_with (machine.end_of m o).number) (resuming_test resuming))

  -- so where the tests find none of its number, it does not move
  pub is_still : (is_carried_end w (machine.end_of m o).number || is_resuming_end w (machine.end_of m o).number) ≡ false → IsMoving (side_of w o) → ⊥
  unfolding link_or_none
  is_still none (inl carried) = cc (none, carried_end carried)
  is_still none (inr resuming) =
      let phase : l.moving.phase ≡ Resuming = ap (λ z. (link_or_none z).moving.phase) (sym linked) ∙ resuming in
      by_place (is_live w o.context) (is_carried w o.context) refl refl (context_is_there w o there) phase
    where
      by_place : (a b : Bool) → is_live w o.context ≡ a → is_carried w o.context ≡ b → (is_live w o.context || is_carried w o.context) ≡ true → l.moving.phase ≡ Resuming → ⊥
      by_place true b live carried h phase = or_yes (is_carried_end w (machine.end_of m o).number) none (resuming_end live phase)
        where
          or_yes : (c : Bool) → (c || is_resuming_end w (machine.end_of m o).number) ≡ false → is_resuming_end w (machine.end_of m o).number ≡ true → ⊥
          or_yes true n r = cc
          or_yes false n r = cc
      by_place false true live carried h phase = cc (none, carried_end carried)
      by_place false false live carried h phase = cc
