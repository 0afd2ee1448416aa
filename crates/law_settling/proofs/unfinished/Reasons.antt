-- Why an end has untold requests after settling, live or carried.
use Rattle.std.proofs.Common.{arith, ◌≡◌, ◌≤◌, suc, List, [], ◌∷◌, ◌++◌, length, map, true, false, Bool, refl, sym, ap, ◌∙◌, subst}
use Rattle.std.specs.Prelude.{Contains, Option, Some, None, option_map, bytes_eq, flat_map, filter, nat_lt, ◌==◌, ◌&&◌, not, if◌then◌else◌}
use Rattle.std.specs.List.{count_by}
use Rattle.std.proofs.lemmas.Bool.Decides.{nat_tests, leb_tells}
use Rattle.std.proofs.lemmas.List.{length-drop}
use Rattle.std.proofs.lemmas.List.Elements.{All-contains_itself, All-weaker}
use Rattle.rdma_types.specs.declared.answers.UnfinishedReason.{UnfinishedReason}
use Rattle.rdma_types.specs.declared.answers.UnfinishedReason.TheVariants as left
use Rattle.rdma_types.specs.declared.names.Name.{Name}
use Rattle.rdma_types.specs.declared.names.ObjName.{ObjName}
use Rattle.rdma_types.specs.Lists.{named}
use Rattle.rdma_types.specs.Objects.{Posted}
use Rattle.protocol.specs.declared.images.ContextImage.{ContextImage}
use Rattle.protocol.specs.declared.images.EndImage.{EndImage}
use Rattle.protocol.specs.declared.images.LinkImage.{LinkImage}
use Rattle.protocol.specs.EndWords.{is_paused, is_resuming, is_running}
use Rattle.protocol.specs.Images as images
use Rattle.protocol.specs.Lawful.{IsLawful, IsLawfulEnd, IsLawfulState}
use Rattle.protocol.specs.State.{World, Context, End, Link, Phase, Paused, Resuming, Running, no_context, no_end}
use Rattle.protocol.specs.WorldStep.{is_live, live_context}
use Rattle.protocol.specs.Settle.{left_image, left_link, left_phase, link_at}
use Rattle.packetless_machine.specs.Machine as machine
use Rattle.packetless_machine.specs.Machine.{Machine}
use Rattle.law_simulation.specs.Quiet.{AreReasons, lacks_receive, left_in, reason_of}
use Rattle.law_simulation.specs.Stands.{Stands, AreSame}
use Rattle.law_simulation.specs.Views.{contexts_of, is_carried, link_of, link_or_none, owned, owned_there}
use Rattle.law_simulation.proofs.relation.Connecting.{live_not_carried}
use Rattle.law_simulation.proofs.relation.Ends.{names_there, names_here}
use Rattle.law_simulation.proofs.relation.Live.{live_same}
use Rattle.law_simulation.proofs.relation.Worlds.{has_name-flat}
use Rattle.law_simulation.proofs.delivery.First.{contains_named, count_both, count_map, named_once}
use Rattle.law_simulation.proofs.sending.GoLive as go_live
use Rattle.law_simulation.proofs.sending.GoLive.{LiveEnd, ended_here, sound_here, untold_here}
use Rattle.law_settling.proofs.bound.Lives.{lives, at_end, context_in, link_is, live_context_is}
use Rattle.law_settling.proofs.bound.Turns.{live_end}
use Rattle.law_settling.proofs.unfinished.Listed.{filtered, map_same, one, some_or_none}

abbrev name_in : Name → End → ObjName
name_in n e = record { context = n; name = e.name }

-- an end has untold requests
abbrev has_untold : End → Bool
has_untold e = nat_lt 0 (length (link_or_none e.link).sender.untold)

-- ---- the reason of a live end

reason_by : Bool → Phase → Bool → Option UnfinishedReason
reason_by carried p lacks = if carried then Some left.Carried else if is_paused p then Some left.Paused else if is_resuming p then Some left.Resuming else if lacks then Some left.NoReceive else None

by_phase : (carried : Bool) (p : Phase) (lacks : Bool) → carried ≡ false → (p ≡ Running → lacks ≡ true) → reason_by carried p lacks ≡ Some (left_phase p)
unfolding reason_by
by_phase true p lacks h k = absurd (cc)
by_phase false Paused lacks h k = refl
by_phase false Resuming lacks h k = refl
by_phase false Running lacks h k = ap (λ b. if b then Some left.NoReceive else None) (k refl)

no_length : (us : List Posted) → us ≡ [] → nat_lt 0 (length us) ≡ true → ⊥
no_length us h k = absurd (grind (arith, nat_tests, leb_tells 1 0, ap (λ z. nat_lt 0 (length z)) h, k))

module _ (w : World) (m : Machine) (s : Stands w m)
    (tells : (o : ObjName) (l : Link) → link_at w o ≡ Some l → is_running (Some l) ≡ true → l.sender.rnr_wait ≡ false → l.sender.untold ≡ [])
    (wants : (o : ObjName) (l : Link) → link_at w o ≡ Some l → is_running (Some l) ≡ true → l.sender.rnr_wait ≡ true → lacks_receive m o ≡ true) where
  module _ (o : ObjName) (l : Link) (at : (at_end w o).link ≡ Some l) (some : nat_lt 0 (length l.sender.untold) ≡ true) where
    h : LiveEnd w m o l
    h = live_end w m o l s at

    -- an end in Error has told all
    alive : l.ended ≡ false
    alive = by_test l.ended refl
      where
        by_test : (b : Bool) → l.ended ≡ b → l.ended ≡ false
        by_test false t = t
        by_test true t =
            let told = (sound_here w m o l s h).sound.over (ended_here w m o l s h ∙ t) in
            let none : length l.sender.untold ≡ 0 = omega (arith, ap length (untold_here w m o l s h), length-drop (machine.end_of m o).told (machine.end_of m o).posted, told) in
            absurd (grind (arith, nat_tests, leb_tells 1 (length l.sender.untold), none, some))

    runs : l.moving.phase ≡ Running → is_running (Some l) ≡ true
    runs r = (λ i. not (alive i) && (not (is_paused (r i)) && not (is_resuming (r i))))

    lacks : l.moving.phase ≡ Running → lacks_receive m o ≡ true
    lacks r = by_wait l.sender.rnr_wait refl
      where
        by_wait : (b : Bool) → l.sender.rnr_wait ≡ b → lacks_receive m o ≡ true
        by_wait true t = wants o l (link_is w o ∙ at) (runs r) t
        by_wait false t = absurd (no_length l.sender.untold (tells o l (link_is w o ∙ at) (runs r) t) some)

    live_reason : reason_of w m o ≡ Some (left_phase l.moving.phase)
    unfolding reason_of reason_by
    live_reason =
        ap (λ (z : Link). reason_by (is_carried w o.context) z.moving.phase (lacks_receive m o)) (go_live.link_is w m o l s h)
        ∙ by_phase (is_carried w o.context) l.moving.phase (lacks_receive m o) (live_not_carried w m o.context s.placed h.live) lacks

  -- ---- live contexts

  once_live : (k : Name) → count_by (λ c. bytes_eq c.name k) (lives w) ≤ 1
  unfolding contexts_of
  once_live k =
      omega (
        arith,
        s.placed.once k,
        count_map (λ c. c.name) (λ n. bytes_eq n k) (λ (c : Context). bytes_eq c.name k) (lives w ++ map images.context_of w.carried) (λ c. refl),
        count_both (λ c. bytes_eq c.name k) (lives w) (map images.context_of w.carried),
      )

  module _ (c : Context) (there : Contains (lives w) c) where
    context_is : context_in (lives w) c.name ≡ c
    context_is = named_once (λ z. z.name) no_context c (lives w) there (once_live c.name)

    same_context : AreSame c (machine.context_of m c.name)
    unfolding live_context
    same_context =
        let live : is_live w c.name ≡ true = sym (has_name-flat c.name w.devices) ∙ contains_named (λ z. z.name) c (lives w) there in
        subst (λ z. AreSame z (machine.context_of m c.name)) (live_context_is w c.name ∙ context_is) (live_same w m c.name s live)

    once_end : (n : Name) → count_by (λ e. bytes_eq e.name n) c.ends ≤ 1
    once_end n =
        omega (
          arith,
          (s.sound c.name).named_once n,
          count_map owned_there (λ z. bytes_eq z.name n) (λ e. bytes_eq e.name n) c.ends (λ e. ap (λ k. bytes_eq k n) (names_there e)),
          ap (count_by (λ z. bytes_eq z.name n)) same_context.ends,
          count_map owned (λ z. bytes_eq z.name n) (λ e. bytes_eq e.name n) (machine.context_of m c.name).ends (λ e. ap (λ k. bytes_eq k n) (names_here e)),
        )

    end_there : (e : End) → Contains c.ends e → at_end w (name_in c.name e) ≡ e
    end_there e in_c = ap (λ z. named (λ y. y.name) no_end e.name z.ends) context_is ∙ named_once (λ z. z.name) no_end e c.ends in_c (once_end e.name)

    abbrev IsNamed : End → Type 0
    IsNamed e = AreReasons w m (map (name_in c.name) (if has_untold e then e ∷ [] else [])) (left_link (name_in c.name e) e.link)

    end_named : (e : End) → Contains c.ends e → IsNamed e
    unfolding link_or_none
    end_named e in_c = by_link e.link refl
      where
        by_link : (l : Option Link) → e.link ≡ l → AreReasons w m (map (name_in c.name) (if nat_lt 0 (length (link_or_none l).sender.untold) then e ∷ [] else [])) (left_link (name_in c.name e) l)
        by_link None linked' = tt
        by_link (Some l) linked' =
            one w m (name_in c.name) e (left_phase l.moving.phase) (nat_lt 0 (length l.sender.untold)) (length l.sender.untold == 0) (some_or_none (length l.sender.untold))
            (live_reason (name_in c.name e) l (ap (λ z. z.link) (end_there e in_c) ∙ linked'))

    pub live_named : AreReasons w m (left_in c) (flat_map (λ e. left_link (name_in c.name e) e.link) c.ends)
    live_named =
        subst (λ es. AreReasons w m (map (name_in c.name) (filter has_untold es)) (flat_map (λ e. left_link (name_in c.name e) e.link) c.ends)) (map_same c.ends)
        (filtered w m (name_in c.name) has_untold (λ e. e) (λ e. left_link (name_in c.name e) e.link) c.ends
        (All-weaker (Contains c.ends) IsNamed (λ e in_c. end_named e in_c) c.ends (All-contains_itself c.ends)))

-- ---- carried contexts

module _ (w : World) (m : Machine) (i : ContextImage) (there : Contains w.carried i) (lawful : IsLawful i) where
  map_length : {A B : Type 0} (f : A → B) (xs : List A) → length (map f xs) ≡ length xs
  map_length f [] = refl
  map_length f (x ∷ xs) = ap suc (map_length f xs)

  -- an end has as many untold requests as its image
  same_count : (e : EndImage) → IsLawfulEnd i e → length (link_or_none (images.end_of_image i e).link).sender.untold ≡ length e.untold
  unfolding link_or_none images.link_of_image images.end_of_image
  same_count e l = by_link e.linked l.state
    where
      by_link : (k : Option LinkImage) → IsLawfulState i e k → length (link_or_none (option_map (images.link_of_image i.regions e.untold) k)).sender.untold ≡ length e.untold
      by_link None none = sym (ap length none)
      by_link (Some k) lawful = map_length images.posted_of_image e.untold

  carried_reason : (n : Name) → reason_of w m (record { context = i.name; name = n }) ≡ Some left.Carried
  unfolding reason_of reason_by
  carried_reason n = let o : ObjName = record { context = i.name; name = n } in ap (λ b. reason_by b (link_of w o).moving.phase (lacks_receive m o)) (contains_named (λ z. z.name) i w.carried there)

  abbrev IsNamedImage : EndImage → Type 0
  IsNamedImage e = AreReasons w m (map (name_in i.name) (if has_untold (images.end_of_image i e) then images.end_of_image i e ∷ [] else [])) (left_image i.name e)

  image_named : (e : EndImage) → IsLawfulEnd i e → IsNamedImage e
  unfolding images.end_of_image
  image_named e l =
      one w m (name_in i.name) (images.end_of_image i e) left.Carried (has_untold (images.end_of_image i e)) (length e.untold == 0) (ap (nat_lt 0) (same_count e l) ∙ some_or_none (length e.untold)) (λ t. carried_reason e.name)

  pub carried_named : AreReasons w m (left_in (images.context_of i)) (flat_map (left_image i.name) i.ends)
  unfolding images.context_of
  carried_named = filtered w m (name_in i.name) has_untold (images.end_of_image i) (left_image i.name) i.ends (All-weaker (IsLawfulEnd i) IsNamedImage image_named i.ends lawful.ends)
