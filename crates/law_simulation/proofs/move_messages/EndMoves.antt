-- The relation is kept where one live end changes its moving parts, and its next number goes on or back to the oldest.
use Rattle.std.proofs.Common.{◌≡◌, ◌≢◌, ℕ, List, map, true, false, Bool, refl, sym, ap, ◌∙◌, subst, inl, inr}
use Rattle.std.specs.Prelude.{Some, is_some, flat_map}
use Rattle.rdma_types.specs.declared.names.Name.{Name}
use Rattle.rdma_types.specs.declared.names.ObjName.{ObjName}
use Rattle.rdma_types.specs.declared.answers.Answer.{Answer}
use Rattle.rdma_types.specs.declared.requests.Address.{Address}
use Rattle.rdma_types.specs.Lists.{named, has_name, store_named}
use Rattle.protocol.specs.EndWords as words
use Rattle.protocol.specs.State as state
use Rattle.protocol.specs.State.{World, Link, Moving, no_end}
use Rattle.protocol.specs.DeviceStep as device
use Rattle.protocol.specs.WorldStep.{is_live, is_carried, home, ran}
use Rattle.packetless_machine.specs.Machine as machine
use Rattle.packetless_machine.specs.Machine.{Machine, has_end, regions_of}
use Rattle.law_simulation.specs.Views.{Net, context_of, end_of, link_or_none, is_connected, net_of, owned_there, peer, place_of, side_of}
use Rattle.law_simulation.specs.Joined.{IsHeardOf}
use Rattle.law_simulation.specs.Stands.{Stands, AreSame, AreLeft, AreSent, husks_of}
use Rattle.law_simulation.proofs.relation.Tables.{name_or_not, map-store, name-named_there, named-there, same_name}
use Rattle.law_simulation.proofs.relation.Worlds as worlds
use Rattle.law_simulation.proofs.relation.Worlds.{WorldChanged, context_here, context_other, home_context, place_same, husks_same}
use Rattle.law_simulation.proofs.relation.Kept.{counted_kept, placed_like}
use Rattle.law_simulation.proofs.relation.Live.{live_of, live_name, home_changed, home_counts}
use Rattle.law_simulation.proofs.relation.Linked.{end_there_of, linked_of, linked_ends}
use Rattle.law_simulation.proofs.relation.Connecting.{live_place, live_not_carried, side_with, side_is, side_like, end_stored_here, end_stored_other}
use Rattle.law_simulation.proofs.relation.Ends.{end_there}
use Rattle.law_simulation.proofs.relation.Grows.{IsConnected, object_or_not}
use Rattle.law_simulation.proofs.stop_restore.NetMoves.{SideMoves, stays_put, NetMoves, joined_all, left_all, sent_all, progressing_all}

-- the link with other moving parts, and another next number
abbrev pub moved_parts : Link → Moving → ℕ → Bool → Link
moved_parts l moving next rnr_wait = record l { moving = moving; sender = record l.sender { next = next; rnr_wait = rnr_wait } }

-- what an owner has of an end is the same with other moving parts
owned_parts : (e : state.End) (l : Link) (moving : Moving) (next : ℕ) (rnr_wait : Bool) → e.link ≡ Some l → owned_there (record e { link = Some (moved_parts l moving next rnr_wait) }) ≡ owned_there e
unfolding owned_there link_or_none
owned_parts e l moving next rnr_wait linked = ap (λ z. owned_there (record e { link = z })) (sym linked)

module _ (w : World) (m : Machine) (o : ObjName) (l : Link) (moving : Moving) (next : ℕ) (rnr_wait : Bool) (a : Answer) (s : Stands w m) (live : is_live w o.context ≡ true) (there : has_end m o ≡ true) (linked : (end_there_of w o).link ≡ Some l) where
  abbrev l' : Link
  l' = moved_parts l moving next rnr_wait

  abbrev at : Address
  at = (home w o.context).address

  abbrev x' : state.Context
  x' = linked_of w o l'

  abbrev w' : World
  w' = (ran w (device.answers (device.with_context (home w o.context) x') a)).world

  abbrev n : Net
  n = net_of w m

  in_list : has_name (λ z. z.name) o.name (live_of w o.context).ends ≡ true
  unfolding has_end
  in_list = ap (λ c. has_name (λ z. z.name) o.name c.ends) (home_context w o.context live) ∙ (end_there o.name (context_of w o.context).ends (machine.context_of m o.context).ends (s.same o.context).ends ∙ there)

  name_there : (end_there_of w o).name ≡ o.name
  name_there = name-named_there (λ z. z.name) no_end o.name (live_of w o.context).ends in_list

  x_name : x'.name ≡ o.context
  unfolding words.with_end
  x_name = live_name w o.context live

  cw : WorldChanged w w' o.context x'
  cw = home_changed w m o.context x' (home w o.context) a s.placed live x_name refl refl

  ends_are : x'.ends ≡ store_named (λ z. z.name) o.name (record (end_there_of w o) { link = Some l' }) (context_of w o.context).ends
  ends_are = linked_ends w o l' live name_there

  -- the side before and after
  link_before : (end_of w o).link ≡ Some l
  unfolding end_of
  link_before =
      ap (λ c. (named (λ e. e.name) (record no_end { name = o.name }) o.name c.ends).link) (sym (home_context w o.context live))
      ∙ (ap (λ e. e.link) (other_default (live_of w o.context).ends in_list) ∙ linked)
    where
      other_default : (es : List state.End) → has_name (λ e. e.name) o.name es ≡ true → named (λ e. e.name) (record no_end { name = o.name }) o.name es ≡ named (λ e. e.name) no_end o.name es
      other_default es h = named-there (λ e. e.name) (record no_end { name = o.name }) no_end o.name es h

  link_after : (end_of w' o).link ≡ Some l'
  link_after = ap (λ e. e.link) (end_stored_here w w' o x' (record (end_there_of w o) { link = Some l' }) cw ends_are name_there)

  pub connected : is_connected w o ≡ true
  connected = ap is_some link_before

  uncarried : is_carried w o.context ≡ false
  uncarried = live_not_carried w m o.context s.placed live

  placed : place_of w o.context ≡ Some at
  placed = live_place w o.context live

  pub side_before : side_of w o ≡ side_with l at
  side_before = side_is w o l at link_before uncarried placed

  pub side_after : side_of w' o ≡ side_with l' at
  side_after = side_is w' o l' at link_after (ap (has_name (λ z. z.name) o.context) cw.carried ∙ uncarried) (place_same w w' o.context cw.shapes ∙ placed)

  pub side_other : (k : ObjName) → (k ≢ o) → side_of w' k ≡ side_of w k
  side_other k ne = side_like w w' o.context x' k cw (ap (λ e. e.link) (end_stored_other w w' o k x' (record (end_there_of w o) { link = Some l' }) cw ends_are name_there ne))

  pub peer_apart : (k : ObjName) → IsConnected n k → peer n k ≢ k
  peer_apart k c e = cc ((s.joined k c).apart, same_name k.context, e)

  -- ---- the relation

  same_here : AreSame x' (machine.context_of m o.context)
  unfolding words.with_end words.with_link
  same_here =
      let before : AreSame (live_of w o.context) (machine.context_of m o.context) = subst (λ z. AreSame z (machine.context_of m o.context)) (sym (home_context w o.context live)) (s.same o.context) in
      record {
        domains = before.domains;
        regions = before.regions;
        queues = before.queues;
        ends =
            ap (λ k. map owned_there (store_named (λ z. z.name) k (record (end_there_of w o) { link = Some l' }) (live_of w o.context).ends)) name_there
            ∙ (map-store owned_there (λ z. z.name) no_end o.name (record (end_there_of w o) { link = Some l' }) (live_of w o.context).ends in_list (owned_parts (end_there_of w o) l moving next rnr_wait linked) ∙ before.ends);
      }

  same_all : (k : Name) → AreSame (context_of w' k) (machine.context_of m k)
  same_all k = elim (name_or_not k o.context) [
    | inl e ↦ subst (λ j. AreSame (context_of w' j) (machine.context_of m j)) (sym e) (subst (λ z. AreSame z (machine.context_of m o.context)) (sym (context_here w w' o.context x' cw)) same_here)
    | inr ne ↦ subst (λ z. AreSame z (machine.context_of m k)) (sym (context_other w w' o.context x' cw k ne)) (s.same k)
  ]

  module _ (moves : SideMoves (side_with l at) (side_with l' at)) (heard : IsHeardOf (side_with l' at) (side_of w (peer n o))) (hears : IsHeardOf (side_of w (peer n o)) (side_with l' at)) where
    heard_all : (k : ObjName) → IsConnected n k → IsHeardOf (side_of w' k) (side_of w' (peer n k))
    heard_all k c = elim (object_or_not k o) [
      | inl e ↦ subst (λ j. IsHeardOf (side_of w' j) (side_of w' (peer n j))) (sym e)
          (subst (λ z. IsHeardOf z (side_of w' (peer n o))) (sym side_after) (subst (IsHeardOf (side_with l' at)) (sym (side_other (peer n o) (peer_apart o connected))) heard))
      | inr ne ↦ elim (object_or_not (peer n k) o) [
        | inl e ↦
            let k_is : k ≡ peer n o = sym (s.joined k c).back ∙ ap (peer n) e in
            subst (λ j. IsHeardOf (side_of w' k) (side_of w' j)) (sym e)
            (subst (λ z. IsHeardOf z (side_of w' o)) (sym (side_other k ne)) (subst (IsHeardOf (side_of w k)) (sym side_after) (subst (λ j. IsHeardOf (side_of w j) (side_with l' at)) (sym k_is) hears)))
        | inr nf ↦ subst (λ z. IsHeardOf z (side_of w' (peer n k))) (sym (side_other k ne)) (subst (IsHeardOf (side_of w k)) (sym (side_other (peer n k) nf)) (s.joined k c).heard_of)
      ]
    ]

    net_moves : NetMoves n (side_of w')
    net_moves = record {
      connected = λ k. elim (object_or_not k o) [
        | inl e ↦ ap (λ j. (side_of w' j).connected) e ∙ (ap (λ z. z.connected) side_after ∙ (ap (λ z. z.connected) (sym side_before) ∙ ap (λ j. (side_of w j).connected) (sym e)))
        | inr ne ↦ ap (λ z. z.connected) (side_other k ne)
      ];
      moves = λ k c. elim (object_or_not k o) [
        | inl e ↦ subst (λ j. SideMoves (side_of w j) (side_of w' j)) (sym e) (subst (λ z. SideMoves z (side_of w' o)) (sym side_before) (subst (SideMoves (side_with l at)) (sym side_after) moves))
        | inr ne ↦ stays_put (side_of w k) (side_of w' k) (side_other k ne)
      ];
      heard = heard_all;
    }

    pub end_moved : Stands w' m
    end_moved =
        let like = placed_like (worlds.names_same w w' o.context x' cw) refl (worlds.ids_same w w' cw.shapes) (worlds.addresses_same w w' cw.shapes) (ap (map (λ h. h.name)) (husks_same w w' cw.shapes)) s.placed in
        record {
          placed = like;
          counted = counted_kept w w' m (λ k. home_counts w m o.context x' a k s.placed live) s.counted;
          same = same_all;
          sound = s.sound;
          numbered = record { given = s.numbered.given; named = s.numbered.named };
          joined = joined_all n (side_of w') net_moves s.joined;
          progress = progressing_all n (side_of w') net_moves s.joined (regions_of m) s.progress;
          husks = subst (λ hs. AreLeft (net_of w' m) (flat_map (λ h. h.entries) hs)) (sym (husks_same w w' cw.shapes)) (left_all n (side_of w') net_moves s.joined (flat_map (λ h. h.entries) (husks_of w)) s.husks);
          sent = subst (AreSent (net_of w' m)) (sym cw.sent) (sent_all n (side_of w') net_moves s.joined w.sent s.sent);
        }
