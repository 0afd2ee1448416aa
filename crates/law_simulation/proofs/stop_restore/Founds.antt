-- What the ends of a context name is there, where a world stands for a machine.
use Rattle.std.proofs.Common.{arith, ◌≡◌, ◌≢◌, ◌≤◌, ℕ, List, [], ◌∷◌, map, true, false, Bool, refl, sym, ap, ◌∙◌, subst, inl, inr}
use Rattle.std.specs.Prelude.{Option, Some, None, is_some, ◌||◌, bytes_eq, All, Contains}
use Rattle.std.specs.List.{count_by}
use Rattle.std.proofs.lemmas.Bool.Decides.{eqb_tells}
use Rattle.std.proofs.lemmas.List.Elements.{All-nil, All-cons, All-contains}
use Rattle.rdma_types.specs.declared.names.Name.{Name}
use Rattle.rdma_types.specs.declared.names.ObjName.{ObjName}
use Rattle.rdma_types.specs.Lists.{named, has, has_name, has_word}
use Rattle.rdma_types.specs.Objects.{Region}
use Rattle.protocol.specs.State.{World, Context, End, Link, Progress, NoMessage, InSend, InWrite, no_end}
use Rattle.packetless_machine.specs.Machine as machine
use Rattle.packetless_machine.specs.Machine.{Machine, nobody}
use Rattle.law_simulation.specs.Views.{Net, context_of, end_of, link_or_none, link_of, in_rts, net_of, peer, owned, owned_there}
use Rattle.law_simulation.specs.Joined.{IsProgress}
use Rattle.law_simulation.specs.Stands.{Stands, IsEndSound}
use Rattle.law_simulation.proofs.relation.Tables.{All-named}
use Rattle.law_simulation.proofs.relation.Ends.{end_there, end_owned}
use Rattle.law_simulation.proofs.relation.Nets.{link_in}
use Rattle.law_simulation.proofs.relation.Grows.{IsConnected}
use Rattle.law_simulation.proofs.stop_restore.Lists.{all_by_name, count_map}
use Rattle.law_simulation.proofs.stop_restore.Image.{IsFound, IsLinkFound, IsEndFound}

-- ---- names of ends stand once

count_there : (n : Name) (es : List End) → count_by (λ e. bytes_eq e.name n) es ≡ count_by (λ x. bytes_eq x.name n) (map owned_there es)
unfolding owned_there
count_there n es = sym (count_map (λ x. bytes_eq x.name n) owned_there es)

count_here : (n : Name) (es : List machine.End) → count_by (λ e. bytes_eq e.name n) es ≡ count_by (λ x. bytes_eq x.name n) (map owned es)
unfolding owned
count_here n es = sym (count_map (λ x. bytes_eq x.name n) owned es)

pub ends_once : (n : Name) (xs : List End) (ys : List machine.End) → map owned_there xs ≡ map owned ys → count_by (λ e. bytes_eq e.name n) ys ≤ 1 → count_by (λ e. bytes_eq e.name n) xs ≤ 1
ends_once n xs ys same once = omega (arith, once, count_there n xs, count_here n ys, ap (count_by (λ x. bytes_eq x.name n)) same)

-- ---- the region of a message in progress

absent_all : (k : ℕ) (rs : List Region) → has (λ r. r.keys.local) k rs ≡ false → All (λ r. r.keys.local ≢ k) rs
unfolding has
absent_all k [] h = All-nil _
absent_all k (r ∷ rs) h = elim (eqb_tells r.keys.local k) [
  | inl t ↦ absurd (cc (h, ap (λ b. b || has (λ z. z.keys.local) k rs) t.0))
  | inr t ↦ All-cons (λ z. z.keys.local ≢ k) r rs t.1 (absent_all k rs (ap (λ b. b || has (λ z. z.keys.local) k rs) (sym t.0) ∙ h))
]

contained_has : (k : ℕ) (r : Region) (rs : List Region) → Contains rs r → r.keys.local ≡ k → has (λ z. z.keys.local) k rs ≡ true
contained_has k r rs there e = by_test (has (λ z. z.keys.local) k rs) refl
  where
    by_test : (b : Bool) → has (λ z. z.keys.local) k rs ≡ b → has (λ z. z.keys.local) k rs ≡ true
    by_test true h = h
    by_test false h = absurd (All-contains (λ z. z.keys.local ≢ k) rs r (absent_all k rs h) there e)

found_progress : (q : machine.End) (domain : Name) (rs : List Region) (p : Progress) → IsProgress q domain rs p → IsFound rs p
found_progress q domain rs NoMessage h = tt
found_progress q domain rs (InSend bytes receive) h = tt
found_progress q domain rs (InWrite region off count bytes) h = contained_has region h.5.region rs h.5.there h.5.local

module _ (w : World) (m : Machine) (s : Stands w m) where
  abbrev n : Net
  n = net_of w m

  alive : (o : ObjName) → IsConnected n o → (link_of w o).ended ≡ false → in_rts w o ≡ true
  unfolding in_rts
  alive o c h = rw (c, h) refl

  progress_by : (o : ObjName) → IsConnected n o → (b : Bool) → (link_of w o).ended ≡ b → IsFound (machine.regions_of m o.context) (link_of w o).receiver.progress
  progress_by o c true h =
      let idle : (link_of w o).receiver.progress ≡ NoMessage = subst (λ k. (n.side k).link.ended ≡ true → (n.side k).link.receiver.progress ≡ NoMessage) (s.joined o c).back (s.joined (peer n o) (s.joined o c).connected).idle h in
      subst (IsFound (machine.regions_of m o.context)) (sym idle) tt
  progress_by o c false h =
      found_progress (n.end (peer n o)) (n.end o).domain (machine.regions_of m o.context) (link_of w o).receiver.progress
      (subst (λ k. (n.side k).rts ≡ true → IsProgress (n.end (peer n o)) (n.end k).domain (machine.regions_of m k.context) (n.side k).link.receiver.progress) (s.joined o c).back (s.progress (peer n o) (s.joined o c).connected) (alive o c h))

  pub progress_found : (o : ObjName) → IsConnected n o → IsFound (machine.regions_of m o.context) (link_of w o).receiver.progress
  progress_found o c = progress_by o c (link_of w o).ended refl

  module _ (c : Name) where
    abbrev x : Context
    x = context_of w c

    abbrev y : machine.Context
    y = machine.context_of m c

    object : Name → ObjName
    object k = record { context = c; name = k }

    end_is : (k : Name) → end_of w (object k) ≡ link_in x.ends k
    unfolding end_of object
    end_is k = refl

    there_here : (k : Name) → has_name (λ e. e.name) k x.ends ≡ true → has_name (λ e. e.name) k y.ends ≡ true
    there_here k h = sym (end_there k x.ends y.ends (s.same c).ends) ∙ h

    link_found : (k : Name) (l : Option Link) → (link_in x.ends k).link ≡ l → IsLinkFound x.regions l
    unfolding object link_or_none
    link_found k None h = tt
    link_found k (Some l) h =
        let linked : (end_of w (object k)).link ≡ Some l = ap (λ e. e.link) (end_is k) ∙ h in
        subst (λ rs. IsFound rs l.receiver.progress) (sym (s.same c).regions)
        (subst (λ z. IsFound (machine.regions_of m c) (link_or_none z).receiver.progress) linked (progress_found (object k) (ap is_some linked)))

    end_found : (k : Name) → has_name (λ e. e.name) k x.ends ≡ true → IsEndFound x (link_in x.ends k)
    unfolding owned_there owned
    end_found k h =
        let both = end_owned k (record no_end { name = k }) (nobody (record { context = c; name = k })) x.ends y.ends (s.same c).ends (there_here k h) in
        let f : machine.End = named (λ e. e.name) (nobody (record { context = c; name = k })) k y.ends in
        let sound : IsEndSound y.regions (map (λ q. q.name) y.queues) f = All-named (IsEndSound y.regions (map (λ q. q.name) y.queues)) (λ e. e.name) (nobody (record { context = c; name = k })) k y.ends (s.sound c).ends (there_here k h) in
        let domain : has_word f.domain y.domains ≡ true = All-named (λ e. has_word e.domain y.domains ≡ true) (λ e. e.name) (nobody (record { context = c; name = k })) k y.ends (s.sound c).ends_in (there_here k h) in
        record {
          domain = ap (λ d. has_word d x.domains) (ap (λ z. z.domain) both) ∙ (ap (has_word f.domain) (s.same c).domains ∙ domain);
          send = ap (λ d. has_word d (map (λ q. q.name) x.queues)) (ap (λ z. z.send_queue) both) ∙ (ap (λ qs. has_word f.send_queue (map (λ q. q.name) qs)) (s.same c).queues ∙ sound.send_queue);
          receive = ap (λ d. has_word d (map (λ q. q.name) x.queues)) (ap (λ z. z.receive_queue) both) ∙ (ap (λ qs. has_word f.receive_queue (map (λ q. q.name) qs)) (s.same c).queues ∙ sound.receive_queue);
          link = link_found k (link_in x.ends k).link refl;
        }

    pub once_named : (k : Name) → count_by (λ e. bytes_eq e.name k) x.ends ≤ 1
    once_named k = ends_once k x.ends y.ends (s.same c).ends ((s.sound c).named_once k)

    pub ends_found : All (IsEndFound x) x.ends
    ends_found = all_by_name (IsEndFound x) (λ e. e.name) (λ k. record no_end { name = k }) x.ends once_named end_found

    pub regions_found : All (λ r. has_word r.domain x.domains ≡ true) x.regions
    regions_found = subst (λ ds. All (λ r. has_word r.domain ds ≡ true) x.regions) (sym (s.same c).domains) (subst (All (λ r. has_word r.domain y.domains ≡ true)) (sym (s.same c).regions) (s.sound c).regions_in)
