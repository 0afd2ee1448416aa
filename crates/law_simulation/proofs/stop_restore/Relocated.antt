-- A world in which one context goes to another place, and its ends move: the relation is kept.
use Rattle.std.proofs.Common.{arith, ◌≡◌, ◌≢◌, ◌≤◌, ℕ, List, map, true, false, Bool, refl, sym, ap, ◌∙◌, subst, inl, inr}
use Rattle.std.specs.Prelude.{◌⊎◌, Option, Some, None, option_map, is_some, not, ◌&&◌, ◌==◌, flat_map, bytes_eq, All}
use Rattle.std.specs.List.{count_by}
use Rattle.rdma_types.specs.declared.names.Name.{Name}
use Rattle.rdma_types.specs.declared.names.ObjName.{ObjName}
use Rattle.rdma_types.specs.declared.requests.Address.{Address}
use Rattle.rdma_types.specs.Lists.{has_name, has_word}
use Rattle.protocol.specs.State.{World, Context, Link, device_at}
use Rattle.protocol.specs.WorldStep.{is_carried}
use Rattle.packetless_machine.specs.Machine as machine
use Rattle.packetless_machine.specs.Machine.{Machine, regions_of}
use Rattle.law_simulation.specs.Views.{Net, Side, contexts_of, context_of, end_of, link_or_none, in_rts, place_of, side_of, net_of, peer, owned_there}
use Rattle.law_simulation.specs.Joined.{IsHeardOf}
use Rattle.law_simulation.specs.Stands.{Stands, IsPlaced, AreSame, AreLeft, AreSent, names_of, husks_of}
use Rattle.law_simulation.proofs.relation.Tables.{name_or_not, name_tells}
use Rattle.law_simulation.proofs.relation.Inserts.{Inserts, inserts_map, named_other, named_here, count_inserted, has_inserted}
use Rattle.law_simulation.proofs.relation.Nets.{link_in}
use Rattle.law_simulation.proofs.relation.Grows.{IsConnected}
use Rattle.law_simulation.proofs.relation.Kept.{counted_kept, placed_like}
use Rattle.law_simulation.proofs.stop_restore.Lists.{absent_by_count, count_map}
use Rattle.law_simulation.proofs.stop_restore.NetMoves.{SideMoves, stays_put, NetMoves, joined_all, left_all, sent_all, progressing_all}

-- the context x of the name c, which has become x', is in another place among the others
pub record Relocated (w w' : World) (c : Name) (x x' : Context) : Type 0 where
  pub named : x.name ≡ c
  pub named' : x'.name ≡ c
  pub rest : List Context
  pub was : Inserts Context x rest (contexts_of w)
  pub is : Inserts Context x' rest (contexts_of w')

module _ (w w' : World) (c : Name) (x x' : Context) (r : Relocated w w' c x x') (once : (k : Name) → count_by (λ n. bytes_eq n k) (names_of w) ≤ 1) where
  names_was : Inserts Name c (map (λ y. y.name) r.rest) (names_of w)
  names_was = subst (λ k. Inserts Name k (map (λ y. y.name) r.rest) (names_of w)) r.named (inserts_map (λ y. y.name) x r.rest (contexts_of w) r.was)

  names_is : Inserts Name c (map (λ y. y.name) r.rest) (names_of w')
  names_is = subst (λ k. Inserts Name k (map (λ y. y.name) r.rest) (names_of w')) r.named' (inserts_map (λ y. y.name) x' r.rest (contexts_of w') r.is)

  -- no other has the name
  pub alone : has_name (λ y. y.name) c r.rest ≡ false
  alone = absent_by_count (λ y. y.name) c r.rest (none (name_tells c c))
    where
      none : ((bytes_eq c c ≡ true) × (c ≡ c)) ⊎ ((bytes_eq c c ≡ false) × (c ≢ c)) → count_by (λ y. bytes_eq y.name c) r.rest ≡ 0
      none (inr h) = absurd (h.1 refl)
      none (inl h) = grind (arith, h.0, once c, count_inserted (λ n. bytes_eq n c) c (map (λ y. y.name) r.rest) (names_of w) names_was, count_map (λ n. bytes_eq n c) (λ y. y.name) r.rest)

  pub context_was : context_of w c ≡ x
  unfolding context_of
  context_was = named_here (λ y. y.name) _ x c r.rest (contexts_of w) r.was alone r.named

  pub context_here : context_of w' c ≡ x'
  unfolding context_of
  context_here = named_here (λ y. y.name) _ x' c r.rest (contexts_of w') r.is alone r.named'

  pub context_other : (k : Name) → (k ≢ c) → context_of w' k ≡ context_of w k
  unfolding context_of
  context_other k ne =
      named_other (λ y. y.name) _ x' k r.rest (contexts_of w') r.is (λ e. ne (sym (sym r.named' ∙ e)))
      ∙ sym (named_other (λ y. y.name) _ x k r.rest (contexts_of w) r.was (λ e. ne (sym (sym r.named ∙ e))))

  pub once_still : (k : Name) → count_by (λ n. bytes_eq n k) (names_of w') ≤ 1
  once_still k = omega (arith, once k, count_inserted (λ n. bytes_eq n k) c (map (λ y. y.name) r.rest) (names_of w) names_was, count_inserted (λ n. bytes_eq n k) c (map (λ y. y.name) r.rest) (names_of w') names_is)

  pub has_still : (k : Name) → has_word k (names_of w') ≡ has_word k (names_of w)
  has_still k = has_inserted (λ z. z) c k (map (λ y. y.name) r.rest) (names_of w') names_is ∙ sym (has_inserted (λ z. z) c k (map (λ y. y.name) r.rest) (names_of w) names_was)

-- ---- sides

-- the side of an end with that link
abbrev pub side_made : Option Link → Bool → Option Address → Side
side_made l carried place = record { link = link_or_none l; connected = is_some l; rts = is_some l && not (link_or_none l).ended; carried = carried; place = place }

pub side_parts : (w : World) (o : ObjName) (l : Option Link) (carried : Bool) (place : Option Address) → (end_of w o).link ≡ l → is_carried w o.context ≡ carried → place_of w o.context ≡ place → side_of w o ≡ side_made l carried place
unfolding in_rts
side_parts w o l carried place link e p = λ i. record {
  link = link_or_none (link i);
  connected = is_some (link i);
  rts = is_some (link i) && not (link_or_none (link i)).ended;
  carried = e i;
  place = p i;
}

-- ---- the whole

-- the context c moves: x becomes x', whose links are those of x changed by f
pub record Migrates (w w' : World) (m : Machine) (c : Name) (x x' : Context) (f : Link → Link) : Type 0 where
  pub relocated : Relocated w w' c x x'
  -- an owner has the same
  pub domains : x'.domains ≡ x.domains
  pub regions : x'.regions ≡ x.regions
  pub queues : x'.queues ≡ x.queues
  pub ends : map owned_there x'.ends ≡ map owned_there x.ends
  pub links : (n : Name) → (link_in x'.ends n).link ≡ option_map f (link_in x.ends n).link
  -- other contexts stay where they are
  pub places : (k : Name) → (k ≢ c) → place_of w' k ≡ place_of w k
  pub carried : (k : Name) → (k ≢ c) → is_carried w' k ≡ is_carried w k
  -- devices and datagrams stay
  pub ids : map (λ d. d.id) w'.devices ≡ map (λ d. d.id) w.devices
  pub addresses : map (λ d. d.address) w'.devices ≡ map (λ d. d.address) w.devices
  pub counts : (k : ℕ) → ((device_at w k).qp_count ≤ (device_at w' k).qp_count) × ((device_at w k).key_count ≤ (device_at w' k).key_count)
  pub sent : w'.sent ≡ w.sent
  -- ends of c move, and what their peers and they recorded of each other is right
  pub moves : (o : ObjName) → o.context ≡ c → IsConnected (net_of w m) o → SideMoves (side_of w o) (side_of w' o)
  pub heard : (o : ObjName) → o.context ≡ c → IsConnected (net_of w m) o → IsHeardOf (side_of w' o) (side_of w' (peer (net_of w m) o)) × IsHeardOf (side_of w' (peer (net_of w m) o)) (side_of w' o)

-- the ends of other contexts, and which ends are connected, where one context is relocated
module _ (w w' : World) (c : Name) (x x' : Context) (f : Link → Link) (once : (k : Name) → count_by (λ n. bytes_eq n k) (names_of w) ≤ 1) (r : Relocated w w' c x x') (links : (n : Name) → (link_in x'.ends n).link ≡ option_map f (link_in x.ends n).link) where
  pub link_here : (o : ObjName) → o.context ≡ c → (end_of w' o).link ≡ option_map f (end_of w o).link
  unfolding end_of
  link_here o a =
      ap (λ k. (link_in (context_of w' k).ends o.name).link) a
      ∙ (ap (λ y. (link_in y.ends o.name).link) (context_here w w' c x x' r once)
      ∙ (links o.name
      ∙ (ap (λ y. option_map f (link_in y.ends o.name).link) (sym (context_was w w' c x x' r once))
      ∙ ap (λ k. option_map f (link_in (context_of w k).ends o.name).link) (sym a))))

  pub end_other : (o : ObjName) → (o.context ≢ c) → end_of w' o ≡ end_of w o
  unfolding end_of
  end_other o ne = ap (λ y. link_in y.ends o.name) (context_other w w' c x x' r once o.context ne)

  some_mapped : (l : Option Link) → is_some (option_map f l) ≡ is_some l
  some_mapped None = refl
  some_mapped (Some l) = refl

  pub connected_still : (o : ObjName) → is_some (end_of w' o).link ≡ is_some (end_of w o).link
  connected_still o = elim (name_or_not o.context c) [
    | inl a ↦ ap is_some (link_here o a) ∙ some_mapped (end_of w o).link
    | inr ne ↦ ap (λ e. is_some e.link) (end_other o ne)
  ]

  pub side_other : (o : ObjName) → (o.context ≢ c) → place_of w' o.context ≡ place_of w o.context → is_carried w' o.context ≡ is_carried w o.context → side_of w' o ≡ side_of w o
  side_other o ne place carried =
      side_parts w' o (end_of w o).link (is_carried w o.context) (place_of w o.context) (ap (λ e. e.link) (end_other o ne)) carried place
      ∙ sym (side_parts w o (end_of w o).link (is_carried w o.context) (place_of w o.context) refl refl refl)

module _ (w w' : World) (m : Machine) (c : Name) (x x' : Context) (f : Link → Link) (s : Stands w m) (v : Migrates w w' m c x x' f) where
  abbrev once : (k : Name) → count_by (λ n. bytes_eq n k) (names_of w) ≤ 1
  once = s.placed.once

  side_elsewhere : (o : ObjName) → (o.context ≢ c) → side_of w' o ≡ side_of w o
  side_elsewhere o ne = side_other w w' c x x' f once v.relocated v.links o ne (v.places o.context ne) (v.carried o.context ne)

  abbrev n : Net
  n = net_of w m

  -- the peer of the peer is the end
  back_again : (o : ObjName) → IsConnected n o → peer n (peer n o) ≡ o
  back_again o connected = (s.joined o connected).back

  heard_all : (o : ObjName) → IsConnected n o → IsHeardOf (side_of w' o) (side_of w' (peer n o))
  heard_all o connected = elim (name_or_not o.context c) [
    | inl a ↦ (v.heard o a connected).0
    | inr ne ↦ elim (name_or_not (peer n o).context c) [
      | inl b ↦ subst (λ k. IsHeardOf (side_of w' k) (side_of w' (peer n o))) (back_again o connected) (v.heard (peer n o) b (s.joined o connected).connected).1
      | inr nf ↦ subst (λ z. IsHeardOf z (side_of w' (peer n o))) (sym (side_elsewhere o ne)) (subst (IsHeardOf (side_of w o)) (sym (side_elsewhere (peer n o) nf)) (s.joined o connected).heard_of)
    ]
  ]

  pub net_moves : NetMoves n (side_of w')
  net_moves = record {
    connected = λ o. connected_still w w' c x x' f once v.relocated v.links o;
    moves = λ o connected. elim (name_or_not o.context c) [
      | inl a ↦ v.moves o a connected
      | inr ne ↦ stays_put (side_of w o) (side_of w' o) (side_elsewhere o ne)
    ];
    heard = heard_all;
  }

  same_still : (k : Name) → AreSame (context_of w' k) (machine.context_of m k)
  same_still k = elim (name_or_not k c) [
    | inr ne ↦ subst (λ y. AreSame y (machine.context_of m k)) (sym (context_other w w' c x x' v.relocated once k ne)) (s.same k)
    | inl a ↦ subst (λ j. AreSame (context_of w' j) (machine.context_of m j)) (sym a)
        (subst (λ y. AreSame y (machine.context_of m c)) (sym (context_here w w' c x x' v.relocated once))
        (let before : AreSame x (machine.context_of m c) = subst (λ y. AreSame y (machine.context_of m c)) (context_was w w' c x x' v.relocated once) (s.same c) in
        record { domains = v.domains ∙ before.domains; regions = v.regions ∙ before.regions; queues = v.queues ∙ before.queues; ends = v.ends ∙ before.ends }))
  ]

  placed_still : All (λ h. has_word h (map (λ y. y.name) m.contexts) ≡ true) (map (λ h. h.name) (husks_of w')) → IsPlaced w' m
  placed_still husks_made = record {
    once = once_still w w' c x x' v.relocated once;
    same = λ k. has_still w w' c x x' v.relocated once k ∙ s.placed.same k;
    husks_made = husks_made;
    ids_once = λ k. subst (λ is. count_by (λ z. z == k) is ≤ 1) (sym v.ids) (s.placed.ids_once k);
    addresses_once = (placed_like refl refl v.ids v.addresses refl s.placed).addresses_once;
    ids_said = (placed_like refl refl v.ids v.addresses refl s.placed).ids_said;
    addresses_said = (placed_like refl refl v.ids v.addresses refl s.placed).addresses_said;
  }

  -- an entry of a husk stays right
  pub entries_kept : AreLeft (net_of w' m) (flat_map (λ h. h.entries) (husks_of w))
  entries_kept = left_all n (side_of w') net_moves s.joined (flat_map (λ h. h.entries) (husks_of w)) s.husks

  -- husks are of contexts that were made, and their entries are right
  pub migrated_stands : All (λ h. has_word h (map (λ y. y.name) m.contexts) ≡ true) (map (λ h. h.name) (husks_of w')) → AreLeft (net_of w' m) (flat_map (λ h. h.entries) (husks_of w')) → Stands w' m
  migrated_stands husks_made husks = record {
    placed = placed_still husks_made;
    counted = counted_kept w w' m v.counts s.counted;
    same = same_still;
    sound = s.sound;
    numbered = record { given = s.numbered.given; named = s.numbered.named };
    joined = joined_all n (side_of w') net_moves s.joined;
    progress = progressing_all n (side_of w') net_moves s.joined (regions_of m) s.progress;
    husks = husks;
    sent = subst (λ fs. AreSent (net_of w' m) fs) (sym v.sent) (sent_all n (side_of w') net_moves s.joined w.sent s.sent);
  }
