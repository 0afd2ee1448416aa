-- What is needed where two ends are connected.
use Rattle.std.proofs.Common.{arith, ◌≡◌, ◌≢◌, ◌≤◌, ◌+◌, ◌⊎◌, List, [], ◌∷◌, ◌++◌, map, true, false, Bool, refl, sym, ap, ◌∙◌, inl, inr}
use Rattle.std.specs.Prelude.{Some, not, ◌&&◌, if◌then◌else◌, is_some, flat_map, bytes_eq}
use Rattle.std.specs.List.{count_by}
use Rattle.std.proofs.Math.Nat.{zero-div, zero-mod}
use Rattle.std.proofs.lemmas.List.Elements.{All-nil}
use Rattle.rdma_types.specs.declared.names.Name.{Name}
use Rattle.rdma_types.specs.declared.names.ObjName.{ObjName}
use Rattle.rdma_types.specs.declared.requests.Address.{Address}
use Rattle.rdma_types.specs.declared.requests.Terms.{Terms}
use Rattle.rdma_types.specs.Limits.{AreTerms}
use Rattle.rdma_types.specs.Lists.{named, has_name, store_named, first_that}
use Rattle.rdma_types.specs.Objects.{Region}
use Rattle.rdma_types.specs.Spans.{first_number, end_number}
use Rattle.protocol.specs.declared.images.ContextImage.{ContextImage}
use Rattle.protocol.specs.Images as images
use Rattle.protocol.specs.State as state
use Rattle.protocol.specs.State.{World, Device, Link, Phase, Running, Resuming, fresh_link, no_end}
use Rattle.protocol.specs.WorldStep.{is_live, is_carried, home, exchanged}
use Rattle.packetless_machine.specs.Machine.{Machine, End, new_end, untold_count}
use Rattle.packetless_machine.specs.Numbers.{due, oldest}
use Rattle.packetless_machine.specs.Steps.{in_place, untold}
use Rattle.packetless_machine.specs.Verbs as verbing
use Rattle.law_simulation.specs.Views.{Side, contexts_of, context_of, end_of, home_in, address_or_none, place_of, side_of, in_rts, link_or_none}
use Rattle.law_simulation.specs.Joined.{IsJoined, old_values, last_of}
use Rattle.law_simulation.specs.Stands.{IsEndSound, IsPlaced}
use Rattle.law_simulation.proofs.relation.SoundEnds.{sound_still}
use Rattle.law_simulation.proofs.relation.Tables.{name_or_not, count_by-cons, named-store_same, named-store_other}
use Rattle.law_simulation.proofs.relation.Worlds.{WorldChanged, context_here, context_other, home_found, has_name-flat, place_same}

-- ---- a live context

home_is : (c : Name) (ds : List Device) → home_in ds c ≡ first_that (λ d. has_name (λ x. x.name) c d.contexts) ds
unfolding home_in first_that
home_is c [] = refl
home_is c (d ∷ ds) = ap (λ r. if has_name (λ x. x.name) c d.contexts then Some d else r) (home_is c ds)

pub live_place : (w : World) (c : Name) → is_live w c ≡ true → place_of w c ≡ Some (home w c).address
unfolding place_of address_or_none
live_place w c live = ap address_or_none (home_is c w.devices ∙ home_found w c live)

count_append : {A : Type 0} (p : A → Bool) (xs ys : List A) → count_by p (xs ++ ys) ≡ count_by p xs + count_by p ys
count_append p [] ys = omega arith
count_append p (x ∷ xs) ys = grind (arith, count_by-cons p x xs, count_by-cons p x (xs ++ ys), count_append p xs ys)

count_named : {A : Type 0} (name : A → Name) (n : Name) (xs : List A) → has_name name n xs ≡ true → 1 ≤ count_by (λ k. bytes_eq k n) (map name xs)
unfolding has_name
count_named name n [] h = absurd (cc)
count_named name n (x ∷ xs) h = grind (arith, count_by-cons (λ k. bytes_eq k n) (name x) (map name xs), count_named name n xs)

map-both : {A B : Type 0} (f : A → B) (xs ys : List A) → map f (xs ++ ys) ≡ map f xs ++ map f ys
map-both f [] ys = refl
map-both f (x ∷ xs) ys = ap (λ zs. f x ∷ zs) (map-both f xs ys)

names_of_images : (n : Name) (is : List ContextImage) → count_by (λ k. bytes_eq k n) (map (λ x. x.name) (map images.context_of is)) ≡ count_by (λ k. bytes_eq k n) (map (λ i. i.name) is)
unfolding images.context_of
names_of_images n [] = refl
names_of_images n (i ∷ is) = grind (arith, count_by-cons (λ k. bytes_eq k n) i.name (map (λ x. x.name) (map images.context_of is)), count_by-cons (λ k. bytes_eq k n) i.name (map (λ j. j.name) is), names_of_images n is)

-- a context that lives is not carried
pub live_not_carried : (w : World) (m : Machine) (c : Name) → IsPlaced w m → is_live w c ≡ true → is_carried w c ≡ false
unfolding contexts_of
live_not_carried w m c placed live = by_test (is_carried w c) refl
  where
    by_test : (b : Bool) → is_carried w c ≡ b → is_carried w c ≡ false
    by_test false t = t
    by_test true t =
        absurd (omega (
          arith,
          placed.once c,
          ap (count_by (λ k. bytes_eq k c)) (map-both (λ x. x.name) (flat_map (λ d. d.contexts) w.devices) (map images.context_of w.carried)),
          count_append (λ k. bytes_eq k c) (map (λ x. x.name) (flat_map (λ d. d.contexts) w.devices)) (map (λ x. x.name) (map images.context_of w.carried)),
          names_of_images c w.carried,
          count_named (λ x. x.name) c (flat_map (λ d. d.contexts) w.devices) (has_name-flat c w.devices ∙ live),
          count_named (λ i. i.name) c w.carried t,
        ))

-- ---- one end of a context changes

pub end_stored_here : (w w' : World) (o : ObjName) (x : state.Context) (e : state.End) → WorldChanged w w' o.context x → x.ends ≡ store_named (λ z. z.name) o.name e (context_of w o.context).ends → e.name ≡ o.name → end_of w' o ≡ e
unfolding end_of
end_stored_here w w' o x e cw ends named' =
    ap (λ c. named (λ z. z.name) (record no_end { name = o.name }) o.name c.ends) (context_here w w' o.context x cw)
    ∙ (ap (named (λ z. z.name) (record no_end { name = o.name }) o.name) ends ∙ named-store_same (λ z. z.name) (record no_end { name = o.name }) o.name e (context_of w o.context).ends named')

pub end_stored_other : (w w' : World) (o k : ObjName) (x : state.Context) (e : state.End) → WorldChanged w w' o.context x → x.ends ≡ store_named (λ z. z.name) o.name e (context_of w o.context).ends → e.name ≡ o.name → (k ≢ o) → end_of w' k ≡ end_of w k
unfolding end_of
end_stored_other w w' o k x e cw ends named' ne = elim (name_or_not k.context o.context) [
  | inr other ↦ ap (λ c. named (λ z. z.name) (record no_end { name = k.name }) k.name c.ends) (context_other w w' o.context x cw k.context other)
  | inl a ↦
      ap (λ j. named (λ z. z.name) (record no_end { name = k.name }) k.name (context_of w' j).ends) a
      ∙ (ap (λ c. named (λ z. z.name) (record no_end { name = k.name }) k.name c.ends) (context_here w w' o.context x cw)
      ∙ (ap (named (λ z. z.name) (record no_end { name = k.name }) k.name) ends
      ∙ (named-store_other (λ z. z.name) (record no_end { name = k.name }) o.name k.name e (context_of w o.context).ends named' (λ h. ne (λ i. record { context = a i; name = h i }))
      ∙ ap (λ j. named (λ z. z.name) (record no_end { name = k.name }) k.name (context_of w j).ends) (sym a))))
]

-- the side of an end whose link stays
pub side_like : (w w' : World) (c : Name) (x : state.Context) (o : ObjName) → WorldChanged w w' c x → (end_of w' o).link ≡ (end_of w o).link → side_of w' o ≡ side_of w o
unfolding in_rts
side_like w w' c x o cw link =
    let placed : place_of w' o.context ≡ place_of w o.context = place_same w w' o.context cw.shapes in
    λ i. record {
      link = link_or_none (link i);
      connected = is_some (link i);
      rts = is_some (link i) && not (link_or_none (link i)).ended;
      carried = has_name (λ z. z.name) o.context (cw.carried i);
      place = placed i;
    }

-- the side of an end with that link, which lives at that address
abbrev pub side_with : Link → Address → Side
side_with l a = record { link = l; connected = true; rts = not l.ended; carried = false; place = Some a }

pub side_is : (w : World) (o : ObjName) (l : Link) (a : Address) → (end_of w o).link ≡ Some l → is_carried w o.context ≡ false → place_of w o.context ≡ Some a → side_of w o ≡ side_with l a
unfolding in_rts link_or_none
side_is w o l a link carried place = λ i. record {
  link = link_or_none (link i);
  connected = is_some (link i);
  rts = is_some (link i) && not (link_or_none (link i)).ended;
  carried = carried i;
  place = place i;
}

-- ---- the facts of a new connection

-- an end as it was made, connected with these terms
abbrev pub connected_end : End → ObjName → Terms → End
connected_end e p t = record (new_end e.peer e.number e.domain e.send_queue e.receive_queue e.send_depth e.receive_depth) { connected = true; peer = p; mtu = t.mtu; retry = t.retry; rnr = t.rnr }

still_moving : (a : Bool) (p : Phase) → a ≡ false → p ≡ Running → (a ≡ true) ⊎ (p ≡ Resuming) → ⊥
still_moving a p h k (inl t) = cc
still_moving a p h k (inr t) = cc

pub fresh_joined : (o p : ObjName) (e f : End) (t : Terms) (a b : Address) → AreTerms t → bytes_eq p.context o.context ≡ false → IsJoined o (side_with (fresh_link f.number b t) a) (side_with (fresh_link e.number a (exchanged t)) b) (connected_end e p t) (connected_end f o (exchanged t))
unfolding first_number end_number due oldest old_values last_of
fresh_joined o p e f t a b terms apart = record {
  connected = refl;
  back = refl;
  apart = apart;
  number = refl;
  mtu = refl;
  retry = refl;
  rnr = refl;
  terms = terms;
  exchanged = refl;
  in_pieces = record { acting = (zero-mod t.mtu, inl refl); telling = (zero-mod t.mtu, inl refl); sayable = All-nil _; offers = All-nil _; reads = λ i h. absurd (omega (arith, h)); old_words = All-nil _ };
  sends = λ h. record { first = refl; una = omega (arith, zero-div t.mtu); spent = refl; few = omega arith; waits = λ h. (refl, omega arith) };
  over = λ h. absurd (cc);
  ordered = record { una_next = omega arith; next_top = omega arith; top_end = omega arith; due_top = omega (arith, zero-div t.mtu); reach = omega arith; limit = omega arith };
  fenced = λ h i l. absurd (omega (arith, l));
  receives = λ h. record { expected = omega (arith, zero-div t.mtu); kept = refl; answered = refl };
  idle = λ h. refl;
  heard_of = record {
    known = omega arith;
    address = λ c r place h. cc;
    settled = λ r r' h. refl;
    paused = λ r h. absurd (cc);
    one = λ r r' h k. still_moving false Running refl refl h;
    limit = omega arith;
  };
}

-- ---- an end of the machine that is connected

pub joined_sound : (regions : List Region) (names : List Name) (e : End) (p : ObjName) (t : Terms) → IsEndSound regions names e → IsEndSound regions names (verbing.joined p t e)
unfolding verbing.joined in_place untold untold_count
joined_sound regions names e p t s = record {
  sound = sound_still e (verbing.joined p t e) s.sound.offers s.sound.receive_depth s.sound;
  made = λ h. absurd (cc);
  depth = s.depth;
  send_queue = s.send_queue;
  receive_queue = s.receive_queue;
  requests = s.requests;
  receives = s.receives;
}
