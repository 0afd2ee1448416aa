-- One connected end steps, in the world and in the machine, with its context's queues and memory: the relation is kept.
use Rattle.std.proofs.Common.{◌≡◌, ◌≢◌, map, true, sym, ap, ◌∙◌, subst, inl, inr}
use Rattle.std.specs.Prelude.{Some, not, ◌&&◌, is_some, All, Contains, flat_map}
use Rattle.rdma_types.specs.declared.names.Name.{Name}
use Rattle.rdma_types.specs.declared.names.ObjName.{ObjName}
use Rattle.rdma_types.specs.Lists.{has_name, named, store_named}
use Rattle.protocol.specs.State as state
use Rattle.protocol.specs.State.{World, Link, Flight, Progress, no_end}
use Rattle.packetless_machine.specs.Machine as machine
use Rattle.packetless_machine.specs.Machine.{Machine, End, has_end, nobody, regions_of}
use Rattle.law_simulation.specs.Views.{Side, context_of, end_of, in_rts, link_or_none, net_of, numbered_ends, name_at, requests_of, side_of}
use Rattle.law_simulation.specs.Joined.{IsProgress}
use Rattle.law_simulation.specs.Stands.{Stands, IsCounted, AreNumbered, AreSame, AreLeft, AreSent, IsContextSound}
use Rattle.law_simulation.proofs.relation.Tables.{has_name-store, map-store, named-store_same, named-store_other, name-named_there}
use Rattle.law_simulation.proofs.relation.Worlds as worlds
use Rattle.law_simulation.proofs.relation.Worlds.{WorldChanged, husks_same}
use Rattle.law_simulation.proofs.relation.Machines as machines
use Rattle.law_simulation.proofs.relation.Machines.{MachineChanged, context_name}
use Rattle.law_simulation.proofs.relation.Kept.{placed_kept, same_kept, sound_kept, progress_changed}
use Rattle.law_simulation.proofs.relation.Grows.{IsConnected, object_or_not}
use Rattle.law_simulation.proofs.relation.Connecting.{end_stored_here, end_stored_other, side_like}
use Rattle.law_simulation.proofs.sending.GoNet.{Goes, NetGoes, joined_goes, progressing_goes, left_goes, sent_goes}

-- the side of an end with another link
abbrev pub with_link : Side → Link → Side
with_link x l = record x { link = l; connected = true; rts = not l.ended }

-- the context of the end o becomes x, where the end is e with the link l; the machine's becomes y, where it is g
pub record Steps (w w' : World) (m m' : Machine) (o : ObjName) (x : state.Context) (y : machine.Context) (e : state.End) (g : End) (l : Link) : Type 0 where
  pub changed_there : WorldChanged w w' o.context x
  pub changed_here : MachineChanged m m' o.context y
  pub there : has_end m o ≡ true
  pub connected : is_some (end_of w o).link ≡ true
  -- the ends
  pub ends : x.ends ≡ store_named (λ z. z.name) o.name e (context_of w o.context).ends
  pub named_there : e.name ≡ o.name
  pub link : e.link ≡ Some l
  pub ends_here : y.ends ≡ store_named (λ z. z.name) o.name g (machine.context_of m o.context).ends
  pub named_here : g.name ≡ o.name
  pub number : g.number ≡ (machine.end_of m o).number
  -- no number and no key is given
  pub numbers : m'.numbers ≡ m.numbers
  pub keys : m'.keys ≡ m.keys
  pub counted : IsCounted w' m
  -- the context
  pub same : AreSame x y
  pub sound : IsContextSound m.keys y
  pub regions : (q : End) (domain : Name) (p : Progress) → IsProgress q domain (regions_of m o.context) p → IsProgress q domain y.regions p

module _ (w w' : World) (m m' : Machine) (o : ObjName) (x : state.Context) (y : machine.Context) (e : state.End) (g : End) (l : Link) (t : Steps w w' m m' o x y e g l) where
  abbrev f : End
  f = machine.end_of m o

  pub link_after : (end_of w' o).link ≡ Some l
  link_after = ap (λ z. z.link) (end_stored_here w w' o x e t.changed_there t.ends t.named_there) ∙ t.link

  pub side_after : side_of w' o ≡ with_link (side_of w o) l
  unfolding in_rts link_or_none
  side_after =
      let place = worlds.place_same w w' o.context t.changed_there.shapes in
      λ i. record {
        link = ap link_or_none link_after i;
        connected = ap is_some link_after i;
        rts = ap (λ z. is_some z && not (link_or_none z).ended) link_after i;
        carried = has_name (λ z. z.name) o.context (t.changed_there.carried i);
        place = place i;
      }

  found : has_name (λ z. z.name) o.name (machine.context_of m o.context).ends ≡ true
  unfolding has_end
  found = t.there

  pub end_after : machine.end_of m' o ≡ g
  unfolding machine.end_of
  end_after =
      ap (λ z. named (λ u. u.name) (nobody o) o.name z.ends) (machines.context_here m m' o.context y t.changed_here)
      ∙ (ap (named (λ u. u.name) (nobody o) o.name) t.ends_here ∙ named-store_same (λ u. u.name) (nobody o) o.name g (machine.context_of m o.context).ends t.named_here)

  end_other : (k : ObjName) → (k ≢ o) → machine.end_of m' k ≡ machine.end_of m k
  end_other k ne =
      machines.end_part_same m m' o.context y t.changed_here (λ z. z) k
      (λ c. ap (named (λ u. u.name) (nobody k) k.name) t.ends_here
      ∙ named-store_other (λ z. z.name) (nobody k) o.name k.name g (machine.context_of m o.context).ends t.named_here (λ h. ne (λ i. record { context = c i; name = h i })))

  listed_same : numbered_ends m' ≡ numbered_ends m
  unfolding machine.end_of
  listed_same =
      machines.listed_same m m' o.context y t.changed_here
      (ap (λ c. map (λ z. (z.number, record { context = c; name = z.name })) y.ends) (t.changed_here.named ∙ sym (context_name m o.context))
      ∙ (ap (map (λ z. (z.number, record { context = (machine.context_of m o.context).name; name = z.name }))) t.ends_here
      ∙ map-store (λ z. (z.number, record { context = (machine.context_of m o.context).name; name = z.name })) (λ z. z.name) (nobody o) o.name g (machine.context_of m o.context).ends found
      (λ i. (t.number i, record { context = (machine.context_of m o.context).name; name = (t.named_here ∙ sym name_before) i }))))
    where
      name_before : (machine.end_of m o).name ≡ o.name
      name_before = name-named_there (λ z. z.name) (nobody o) o.name (machine.context_of m o.context).ends found

  there_same : (k : ObjName) → has_end m' k ≡ has_end m k
  there_same k = machines.there_same m m' o.context y t.changed_here k (λ n. ap (has_name (λ z. z.name) n) t.ends_here ∙ has_name-store (λ z. z.name) o.name n g (machine.context_of m o.context).ends found t.named_here)

  number_same : (k : ObjName) → (machine.end_of m' k).number ≡ (machine.end_of m k).number
  number_same k = elim (object_or_not k o) [
    | inl a ↦ ap (λ j. (machine.end_of m' j).number) a ∙ (ap (λ z. z.number) end_after ∙ (t.number ∙ ap (λ j. (machine.end_of m j).number) (sym a)))
    | inr ne ↦ ap (λ z. z.number) (end_other k ne)
  ]

  net_goes : Goes o (side_of w o) (with_link (side_of w o) l) (side_of w f.peer) (requests_of f) (requests_of g) (requests_of (machine.end_of m f.peer)) → NetGoes (net_of w m) (net_of w' m') o
  net_goes h = record {
    goes = subst (λ z. Goes o (side_of w o) z (side_of w f.peer) (requests_of f) (requests_of (machine.end_of m' o)) (requests_of (machine.end_of m f.peer))) (sym side_after)
        (subst (λ z. Goes o (side_of w o) (with_link (side_of w o) l) (side_of w f.peer) (requests_of f) (requests_of z) (requests_of (machine.end_of m f.peer))) (sym end_after) h);
    sides = λ k ne. side_like w w' o.context x k t.changed_there (ap (λ z. z.link) (end_stored_other w w' o k x e t.changed_there t.ends t.named_there ne));
    ends = λ k ne. ap requests_of (end_other k ne);
    names = λ k. ap (λ xs. name_at xs k) listed_same;
  }

  numbering : Stands w m → AreNumbered (net_of w' m') (numbered_ends m') m'.numbers
  numbering s = subst (AreNumbered (net_of w' m') (numbered_ends m')) (sym t.numbers) (record {
    given = subst (All (λ z. Contains m.numbers z.0)) (sym listed_same) s.numbered.given;
    named = λ k h. ap (λ xs. name_at xs (machine.end_of m' k).number) listed_same ∙ (ap (name_at (numbered_ends m)) (number_same k) ∙ s.numbered.named k (sym (there_same k) ∙ h));
  })

  counting : IsCounted w' m'
  counting = rw (t.numbers, t.keys) t.counted

  -- the relation is kept where what is to be shown of the end alone is
  pub steps_stand : Stands w m → Goes o (side_of w o) (with_link (side_of w o) l) (side_of w f.peer) (requests_of f) (requests_of g) (requests_of (machine.end_of m f.peer)) → Stands w' m'
  steps_stand s h =
      let ng : NetGoes (net_of w m) (net_of w' m') o = net_goes h in
      let c : IsConnected (net_of w m) o = t.connected in
      record {
        placed = placed_kept w w' m m' o.context x y t.changed_there t.changed_here s.placed;
        counted = counting;
        same = same_kept w w' m m' o.context x y t.changed_there t.changed_here t.same s.same;
        sound = sound_kept m m' o.context y t.changed_here (λ k h. subst (λ ks. Contains ks k) (sym t.keys) h) (subst (λ ks. IsContextSound ks y) (sym t.keys) t.sound) s.sound;
        numbered = numbering s;
        joined = joined_goes (net_of w m) (net_of w' m') o ng s.joined c;
        progress = progress_changed (net_of w' m') m m' o.context y t.changed_here t.regions (progressing_goes (net_of w m) (net_of w' m') o ng s.joined c (regions_of m) s.progress);
        husks = left_goes (net_of w m) (net_of w' m') o ng s.joined c _ (subst (λ hs. AreLeft (net_of w m) (flat_map (λ h. h.entries) hs)) (sym (husks_same w w' t.changed_there.shapes)) s.husks);
        sent = sent_goes (net_of w m) (net_of w' m') o ng s.joined c w'.sent (subst (AreSent (net_of w m)) (sym t.changed_there.sent) s.sent);
      }
