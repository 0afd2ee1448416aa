-- The machine follows the dropping of a region.
use Rattle.std.proofs.Common.{arith, ◌≡◌, ◌<◌, ◌≤◌, ◌+◌, ◌^◌, ℕ, suc, List, [], ◌∷◌, map, true, false, Bool, refl, sym, ap, ◌∙◌, subst, inl, inr}
use Rattle.std.specs.Prelude.{Option, Some, None, not, ◌&&◌, ◌||◌, ◌==◌, ◌%◌, All, Contains, option_to_list}
use Rattle.std.specs.List.{list_any}
use Rattle.std.proofs.lemmas.Bool.Decides.{nat_tests, eqb_tells}
use Rattle.std.proofs.lemmas.List.Elements.{All-nil, All-cons, All-append, All-contains}
use Rattle.rdma_types.specs.declared.requests.Receive.{Receive}
use Rattle.rdma_types.specs.Kinds.{kind_of, size_of}
use Rattle.rdma_types.specs.Lists.{some, without}
use Rattle.rdma_types.specs.Memory.{LocalWrite, is_granted, landing_right, local_key, remote_key}
use Rattle.rdma_types.specs.Objects.{IsWhole}
use Rattle.protocol.specs.State.{Link, Progress, NoMessage, InSend, InWrite}
use Rattle.packetless_machine.specs.Machine.{End, regions_of, has_end}
use Rattle.packetless_machine.specs.Steps.{untold, receives_of}
use Rattle.law_simulation.specs.Views.{Net, net_of, peer, end_of, link_or_none}
use Rattle.law_simulation.specs.Joined.{IsProgress, is_granted_in}
use Rattle.law_simulation.specs.Stands.{IsContextSound, IsEndSound, AreProgressing}
use Rattle.law_simulation.proofs.relation.Tables.{All-named, All-without, name_or_not}
use Rattle.law_simulation.proofs.relation.Worlds.{home_context}
use Rattle.law_simulation.proofs.relation.Machines.{context_here, context_other, with_context_changed}
use Rattle.law_simulation.proofs.relation.Grants.{contains_without, granted_without, keyed_without}
use Rattle.law_simulation.proofs.relation.Grown.{are_made}
use Rattle.law_simulation.proofs.relation.InUse.{All-zip, in_use_same, names_same}
use Rattle.law_simulation.proofs.relation.Live.{changed_stands_by}
use Rattle.rdma_types.specs.declared.names.Name.{Name}
use Rattle.rdma_types.specs.declared.names.ObjName.{ObjName}
use Rattle.rdma_types.specs.declared.verbs.Verb.TheVariants as verbs
use Rattle.rdma_types.specs.declared.answers.Answer.TheVariants as answers
use Rattle.rdma_types.specs.declared.answers.Refusal.TheVariants as refusals
use Rattle.rdma_types.specs.Lists.{has_name, has_word, named}
use Rattle.rdma_types.specs.Objects.{Region, no_region}
use Rattle.protocol.specs.declared.events.Event.TheVariants as events
use Rattle.protocol.specs.declared.events.WorldEvent.TheVariants as world_events
use Rattle.protocol.specs.State as state
use Rattle.protocol.specs.State.{World}
use Rattle.protocol.specs.Refusals as refusing
use Rattle.protocol.specs.DeviceStep as device
use Rattle.protocol.specs.WorldStep as step
use Rattle.protocol.specs.WorldStep.{is_live, home, ran}
use Rattle.packetless_machine.specs.Machine as machine
use Rattle.packetless_machine.specs.Machine.{Machine, has_context}
use Rattle.packetless_machine.specs.Verbs as verbing
use Rattle.law_simulation.specs.Kept as kept
use Rattle.law_simulation.specs.Stands.{Stands}
use Rattle.law_simulation.specs.Law.{Follows}
use Rattle.law_simulation.proofs.relation.Machines.{context_name}
use Rattle.law_simulation.proofs.relation.Nets.{same_quiet}
use Rattle.law_simulation.proofs.relation.Refusing.{Matches, matches_cause, matches_none, first_yes, first_no, later_no, not_lacking}
use Rattle.law_simulation.proofs.relation.Live.{live_of, live_name, live_same, within_matches}
use Rattle.law_simulation.proofs.relation.Verbs.{IsDone, verb_follows}

abbrev region_in : List Region → Name → Region
region_in rs n = named (λ r. r.name) no_region n rs

abbrev IsKeyed : List ℕ → Region → Type 0
IsKeyed keys r = Contains keys r.keys.local × (r.keys.local % 2 ≡ 0) × (r.keys.remote ≡ suc r.keys.local)

-- ---- what an end's work names stays granted

or_first : (a b : Bool) → (a || b) ≡ false → a ≡ false
or_first true b h = absurd (cc)
or_first false b h = refl

or_second : (a b : Bool) → (a || b) ≡ false → b ≡ false
or_second true b h = absurd (cc)
or_second false b h = h

any_none : {A : Type 0} (p : A → Bool) (xs : List A) → list_any p xs ≡ false → All (λ x. p x ≡ false) xs
any_none p [] h = All-nil _
any_none p (x ∷ xs) h = All-cons (λ z. p z ≡ false) x xs (or_first (p x) _ h) (any_none p xs (or_second (p x) _ h))

other_key : (n : Bool) (a b : ℕ) → (not n && (a == b)) ≡ false → n ≡ false → (b == a) ≡ false
other_key n a b h k = grind (arith, nat_tests, h, k, eqb_tells a b, eqb_tells b a)

swapped_key : (a b : ℕ) → (a == b) ≡ false → (b == a) ≡ false
swapped_key a b h = grind (arith, nat_tests, h, eqb_tells a b, eqb_tells b a)

receive_other : (key : ℕ) (v : Option Receive) → verbing.in_use_names key v ≡ false → All (λ x. (x.length == 0) ≡ false → (key == x.lkey) ≡ false) (option_to_list v)
unfolding verbing.in_use_names
receive_other key None h = All-nil _
receive_other key (Some v) h = All-cons (λ x. (x.length == 0) ≡ false → (key == x.lkey) ≡ false) v [] (λ k. swapped_key v.lkey key h) (All-nil _)

end_dropped : (m : Machine) (n : Name) (regions : List Region) (names : List Name) (e : End) → verbing.is_used_by m (region_in regions n) e ≡ false → IsEndSound regions names e → IsEndSound (without (λ r. r.name) n regions) names e
unfolding verbing.is_used_by
end_dropped m n regions names e unused s =
    let key : ℕ = (region_in regions n).keys.local in
    let more = or_second _ _ unused in
    let requests : All (λ r. verbing.request_names key r ≡ false) (untold e) = any_none (verbing.request_names key) (untold e) (or_first _ _ unused) in
    let receives : All (λ v. verbing.receive_names key v ≡ false) e.unused = any_none (verbing.receive_names key) e.unused (or_first _ _ more) in
    let used : All (λ v. (v.length == 0) ≡ false → (key == v.lkey) ≡ false) (receives_of e) =
    All-append (λ v. (v.length == 0) ≡ false → (key == v.lkey) ≡ false) (option_to_list e.in_use) e.unused
    (receive_other key e.in_use (or_first _ _ (or_second _ _ more)))
    (All-zip (λ v. verbing.receive_names key v ≡ false) (λ v. verbing.receive_names key v ≡ false) (λ v. (v.length == 0) ≡ false → (key == v.lkey) ≡ false) (λ v h h' k. other_key (v.length == 0) v.lkey key h k) e.unused receives receives) in
    record {
      sound = s.sound;
      made = s.made;
      depth = s.depth;
      send_queue = s.send_queue;
      receive_queue = s.receive_queue;
      requests = All-zip
          (λ r. is_granted local_key regions e.domain r.request.lkey r.request.local (size_of r) (landing_right (kind_of r)) ≡ true)
          (λ r. verbing.request_names key r ≡ false)
          (λ r. is_granted local_key (without (λ x. x.name) n regions) e.domain r.request.lkey r.request.local (size_of r) (landing_right (kind_of r)) ≡ true)
          (λ r h k. granted_without local_key n regions e.domain r.request.lkey r.request.local (size_of r) (landing_right (kind_of r)) (λ t. other_key (size_of r == 0) r.request.lkey key k t) h)
          (untold e) s.requests requests;
      receives = All-zip
          (λ v. is_granted local_key regions e.domain v.lkey v.local v.length LocalWrite ≡ true)
          (λ v. (v.length == 0) ≡ false → (key == v.lkey) ≡ false)
          (λ v. is_granted local_key (without (λ x. x.name) n regions) e.domain v.lkey v.local v.length LocalWrite ≡ true)
          (λ v h k. granted_without local_key n regions e.domain v.lkey v.local v.length LocalWrite k h)
          (receives_of e) s.receives used;
    }

-- a context without a region that is not in use
drop_sound : (m : Machine) (keys : List ℕ) (y : machine.Context) (n : Name) → list_any (verbing.is_used_by m (region_in y.regions n)) y.ends ≡ false → IsContextSound keys y → IsContextSound keys (record y { regions = without (λ r. r.name) n y.regions })
drop_sound m keys y n unused s = record {
  whole = All-without IsWhole (λ r. r.name) n y.regions s.whole;
  bytes = All-without (λ r. All (λ b. b < 256) r.bytes) (λ r. r.name) n y.regions s.bytes;
  keyed = All-without (IsKeyed keys) (λ r. r.name) n y.regions s.keyed;
  keyed_once = λ k. omega (arith, keyed_without n y.regions k, s.keyed_once k);
  named_once = s.named_once;
  ends = All-zip (IsEndSound y.regions (map (λ q. q.name) y.queues)) (λ e. verbing.is_used_by m (region_in y.regions n) e ≡ false) (IsEndSound (without (λ r. r.name) n y.regions) (map (λ q. q.name) y.queues))
      (λ e h k. end_dropped m n y.regions (map (λ q. q.name) y.queues) e k h) y.ends s.ends (any_none (verbing.is_used_by m (region_in y.regions n)) y.ends unused);
  regions_in = All-without (λ r. has_word r.domain y.domains ≡ true) (λ r. r.name) n y.regions s.regions_in;
  ends_in = s.ends_in;
  regions_end = All-without (λ r. r.base + r.length ≤ 2 ^ 64) (λ r. r.name) n y.regions s.regions_end;
}

-- ---- what is in progress stays so

progress_dropped : (keys : List ℕ) (q : End) (domain n : Name) (regions : List Region) (p : Progress) → All (IsKeyed keys) regions → (region_in regions n).keys.remote ≡ suc (region_in regions n).keys.local → refusing.progress_names (region_in regions n).keys.local p ≡ false → IsProgress q domain regions p → IsProgress q domain (without (λ r. r.name) n regions) p
unfolding is_granted_in
progress_dropped keys q domain n regions NoMessage keyed paired other h = h
progress_dropped keys q domain n regions (InSend bytes receive) keyed paired other h = h
progress_dropped keys q domain n regions (InWrite region off count bytes) keyed paired other h =
    let own = All-contains (IsKeyed keys) regions h.5.region keyed h.5.there in (
      h.0,
      h.1,
      h.2,
      h.3,
      granted_without remote_key n regions domain _ _ _ _ (λ t. apart region (region_in regions n).keys.local _ (region_in regions n).keys.remote other paired (sym h.5.remote ∙ (own.2 ∙ ap suc h.5.local))) h.4,
      record {
        region = h.5.region;
        there = contains_without (λ r. r.name) n no_region h.5.region regions (λ e. unequal region (region_in regions n).keys.local other (sym h.5.local ∙ ap (λ z. z.keys.local) (sym e))) h.5.there;
        local = h.5.local;
        remote = h.5.remote;
        place = h.5.place;
      },
    )
  where
    apart : (a b c d : ℕ) → (a == b) ≡ false → d ≡ suc b → c ≡ suc a → (d == c) ≡ false
    apart a b c d h e f = grind (arith, nat_tests, eqb_tells a b, eqb_tells d c)

    unequal : (a b : ℕ) → (a == b) ≡ false → a ≡ b → ⊥
    unequal a b h e = grind (arith, nat_tests, eqb_tells a b)

in_link : (key : ℕ) (l : Option Link) → refusing.message_names key l ≡ false → refusing.progress_names key (link_or_none l).receiver.progress ≡ false
unfolding link_or_none
in_link key None h = refl
in_link key (Some l) h = h

-- work that names nothing has no message that does
message_only : (key : ℕ) (e : state.End) → refusing.names_key key e ≡ false → refusing.message_names key e.link ≡ false
unfolding refusing.names_key
message_only key e h = or_second _ _ (or_second _ _ h)

-- an end of the context does not use the region
unused_at : (m : Machine) (p : ObjName) (c : Name) (r : Region) → has_end m p ≡ true → p.context ≡ c → list_any (verbing.is_used_by m r) (machine.context_of m c).ends ≡ false → verbing.is_used_by m r (machine.end_of m p) ≡ false
unfolding machine.end_of has_end
unused_at m p c r there a unused =
    All-named (λ e. verbing.is_used_by m r e ≡ false) (λ e. e.name) (machine.nobody p) p.name (machine.context_of m p.context).ends
    (any_none (verbing.is_used_by m r) (machine.context_of m p.context).ends (ap (λ k. list_any (verbing.is_used_by m r) (machine.context_of m k).ends) a ∙ unused)) there

module _ (w : World) (m : Machine) (o : ObjName) (s : Stands w m) where
  abbrev y : machine.Context
  y = machine.context_of m o.context

  abbrev r : Region
  r = region_in y.regions o.name

  paired : has_name (λ z. z.name) o.name y.regions ≡ true → r.keys.remote ≡ suc r.keys.local
  paired found = (All-named (IsKeyed m.keys) (λ z. z.name) no_region o.name y.regions (s.sound o.context).keyed found).2

  matches : is_live w o.context ≡ true → has_context m o.context ≡ true → Matches (refusing.refusal_of (home w o.context) (events.DropRegion o)) (verbing.refusal_of m (verbs.DropRegion o))
  unfolding refusing.refusal_of verbing.region_of verbing.is_in_use
  matches live there =
      let regions : (live_of w o.context).regions ≡ y.regions = (live_same w m o.context s live).regions in
      within_matches w m o.context _ _ live there
      (matches_cause refusals.NoSuch _ _ _ _ (ap (λ rs. not (has_name (λ z. z.name) o.name rs)) regions)
      (λ lacks. matches_cause refusals.InUse _ _ _ _
      (ap (λ rs. some (refusing.names_key (region_in rs o.name).keys.local) (live_of w o.context).ends) regions
      ∙ (ap (λ c. some (refusing.names_key r.keys.local) c.ends) (home_context w o.context live)
      ∙ in_use_same w m o.context r s (paired (not_lacking _ lacks))))
      (λ h. matches_none)))

  abbrev y' : machine.Context
  y' = record y { regions = without (λ z. z.name) o.name y.regions }

  progress : has_context m o.context ≡ true → has_name (λ z. z.name) o.name y.regions ≡ true → list_any (verbing.is_used_by m r) y.ends ≡ false → AreProgressing (net_of w m) (regions_of (machine.with_context m o.context y'))
  progress there found unused k connected rts =
      let n : Net = net_of w m in
      let p : ObjName = peer n k in
      let cm = with_context_changed m o.context y' (context_name m o.context) there in
      let before = s.progress k connected rts in
      elim (name_or_not p.context o.context) [
        | inr ne ↦ subst (λ z. IsProgress (n.end k) (n.end p).domain z.regions (n.side p).link.receiver.progress) (sym (context_other m _ o.context y' cm p.context ne)) before
        | inl a ↦
            subst (λ c. IsProgress (n.end k) (n.end p).domain (regions_of (machine.with_context m o.context y') c) (n.side p).link.receiver.progress) (sym a)
            (subst (λ z. IsProgress (n.end k) (n.end p).domain z.regions (n.side p).link.receiver.progress) (sym (context_here m _ o.context y' cm))
            (progress_dropped m.keys (n.end k) (n.end p).domain o.name y.regions (n.side p).link.receiver.progress (s.sound o.context).keyed (paired found)
            (in_link r.keys.local (end_of w p).link (peer_names p (s.joined k connected).connected a found unused))
            (subst (λ c. IsProgress (n.end k) (n.end p).domain (regions_of m c) (n.side p).link.receiver.progress) a before)))
      ]
    where
      peer_names : (p : ObjName) → ((net_of w m).side p).connected ≡ true → p.context ≡ o.context → has_name (λ z. z.name) o.name y.regions ≡ true → list_any (verbing.is_used_by m r) y.ends ≡ false → refusing.message_names r.keys.local (end_of w p).link ≡ false
      peer_names p connected a found unused =
          let there : has_end m p ≡ true = are_made w m s p connected in
          message_only r.keys.local (end_of w p) (names_same w m s p r (paired found) there ∙ unused_at m p o.context r there a unused)

  does : is_live w o.context ≡ true → has_context m o.context ≡ true → has_name (λ z. z.name) o.name y.regions ≡ true → list_any (verbing.is_used_by m r) y.ends ≡ false → IsDone w m (events.DropRegion o) (verbs.DropRegion o)
  unfolding ran step.numbered device.drops kept.is_unmade machine.with_regions
  does live there found unused =
      let same = live_same w m o.context s live in
      record {
        given = 0;
        may = refl;
        answer = refl;
        made = refl;
        stands = changed_stands_by w m o.context (device.without_region (live_of w o.context) o.name) y' answers.Done s live there
            (live_name w o.context live) (context_name m o.context) (same_quiet _ _ _ _ refl refl)
            (record { domains = same.domains; regions = ap (without (λ z. z.name) o.name) same.regions; queues = same.queues; ends = same.ends })
            (drop_sound m m.keys y o.name unused (s.sound o.context))
            (progress there found unused);
      }

  pub drop_follows : Follows w m (world_events.At (events.DropRegion o))
  unfolding kept.verb_in verbing.region_of verbing.is_in_use
  drop_follows = verb_follows w m (events.DropRegion o) (verbs.DropRegion o) s (record {
    verb = refl;
    allows = λ a. refl;
    nowhere = λ h. first_yes refusals.NoSuch _ _ (rw h refl);
    matches = matches;
    does = λ live there h h'.
        let later = later_no refusals.NoSuch _ _ h' in
        does live there (not_lacking _ (first_no refusals.NoSuch _ _ later)) (first_no refusals.InUse _ [] (later_no refusals.NoSuch _ _ later));
  })
