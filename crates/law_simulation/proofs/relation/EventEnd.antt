-- The machine follows the making of a queue pair.
use Rattle.std.proofs.Common.{arith, ◌≡◌, ◌≢◌, ◌≤◌, ◌<◌, ◌+◌, ◌*◌, ℕ, List, [], ◌∷◌, ◌++◌, map, true, false, Bool, refl, sym, ap, ◌∙◌, subst, inl, inr}
use Rattle.std.specs.Prelude.{Option, Some, None, not, ◌||◌, ◌^◌, nat_le, nat_eq, All, Contains, ◌/◌, bytes_eq, flat_map}
use Rattle.std.specs.List.{count_by}
use Rattle.std.proofs.lemmas.Bool.Decides.{nat_tests, leb_tells, eqb_tells}
use Rattle.std.proofs.lemmas.List.{map-append}
use Rattle.std.proofs.lemmas.List.Elements.{All-push, All-weaker, All-contains, Contains-append_left}
use Rattle.std.proofs.lemmas.List.Folds.{list_any_none}
use Rattle.rdma_types.specs.Limits.{most_depth}
use Rattle.protocol.specs.State.{Device, device_at, no_end}
use Rattle.packetless_machine.specs.Machine.{new_end, nobody, has_end}
use Rattle.packetless_machine.specs.Steps.{untold}
use Rattle.law_simulation.specs.Views.{owned, owned_there, link_or_none, receive_in, numbered, numbered_ends, name_at, net_of, requests_of, side_of}
use Rattle.law_simulation.specs.Stands.{AreNumbered, AreSame, IsContextSound, IsCounted, IsEndSound, IsPlaced}
use Rattle.law_simulation.proofs.relation.Tables.{name_or_not, name_tells, named-store_same, named-store_other, replaced-stored, store_named-new, once_push, has_name-push, has_name-map}
use Rattle.law_simulation.proofs.relation.Worlds.{WorldChanged, home_context, home_device, home_id, ran_device, ran_counts, side_same, husks_same}
use Rattle.law_simulation.proofs.relation.Machines.{MachineChanged, context_here, context_other, end_part_same}
use Rattle.law_simulation.proofs.relation.Kept.{IsUsed, placed_kept, counted_kept, same_kept, sound_kept}
use Rattle.law_simulation.proofs.relation.Grows.{object_or_not, IsConnected, NetGrows}
use Rattle.law_simulation.proofs.relation.Grown.{are_made, number_given, grown_stands}
use Rattle.law_simulation.proofs.relation.Inserts.{Inserts, inserts_flat, inserts_all, name_here, name_other}
use Rattle.law_simulation.proofs.relation.Live.{home_changed}
use Rattle.law_simulation.proofs.relation.Grants.{contains_last}
use Rattle.law_simulation.proofs.relation.Sounds.{new_sound}
use Rattle.law_simulation.proofs.relation.Ends.{end_there}
use Rattle.rdma_types.specs.declared.names.Name.{Name}
use Rattle.rdma_types.specs.declared.names.ObjName.{ObjName}
use Rattle.rdma_types.specs.declared.verbs.Verb.TheVariants as verbs
use Rattle.rdma_types.specs.declared.answers.Answer.TheVariants as answers
use Rattle.rdma_types.specs.declared.answers.Refusal.TheVariants as refusals
use Rattle.rdma_types.specs.Causes.{first_cause}
use Rattle.rdma_types.specs.Lists.{has_word, has_name, named, store_named}
use Rattle.rdma_types.specs.Objects.{CompletionQueue}
use Rattle.protocol.specs.declared.events.Event.TheVariants as events
use Rattle.protocol.specs.declared.events.WorldEvent.TheVariants as world_events
use Rattle.protocol.specs.State as state
use Rattle.protocol.specs.State.{World}
use Rattle.protocol.specs.Refusals as refusing
use Rattle.protocol.specs.DeviceStep as device
use Rattle.protocol.specs.WorldStep as step
use Rattle.protocol.specs.WorldStep.{is_live, home, ran}
use Rattle.packetless_machine.specs.Machine as machine
use Rattle.packetless_machine.specs.Machine.{Machine, has_context}
use Rattle.packetless_machine.specs.Verbs as verbing
use Rattle.law_simulation.specs.Kept as kept
use Rattle.law_simulation.specs.Stands.{Stands}
use Rattle.law_simulation.specs.Law.{Follows}
use Rattle.law_simulation.proofs.relation.Machines.{context_name}
use Rattle.law_simulation.proofs.relation.Refusing.{Matches, matches_cause, matches_either, matches_unknown, matches_none, first_yes, first_no, later_no, not_lacking}
use Rattle.law_simulation.proofs.relation.Live.{live_of, live_name, live_same, within_matches}
use Rattle.law_simulation.proofs.relation.Verbs.{IsDone, verb_follows}

abbrev number_used : Device → ℕ
number_used d = d.id * 65536 + (d.qp_count + 1)

-- the word of a thing here
word_is : (n : Option Name) → device.word_of n ≡ verbing.word_or_none n
word_is None = refl
word_is (Some n) = refl

-- ---- the number is fresh

fresh_number : (w : World) (m : Machine) (c : Name) → IsPlaced w m → IsCounted w m → is_live w c ≡ true → (home w c).qp_count < 65535 → All (λ k. k ≢ number_used (home w c)) m.numbers
fresh_number w m c placed counted live few =
    let here = home_device w m c placed live in
    All-weaker (IsUsed (λ k. (device_at w k).qp_count)) (λ k. k ≢ number_used (home w c)) (λ k h e.
    let at_home : k / 65536 ≡ (home w c).id = omega (arith, e, few) in
    let count : (device_at w (k / 65536)).qp_count ≡ (home w c).qp_count = ap (λ i. (device_at w i).qp_count) at_home ∙ ap (λ d. d.qp_count) here in
    omega (arith, e, few, h, count)) m.numbers counted.numbers_used

differs : (k given : ℕ) → (k ≢ given) → nat_eq given k ≡ false
differs k given ne = grind (arith, nat_tests, eqb_tells given k)

may_be_given : (numbers : List ℕ) (given : ℕ) → All (λ k. k ≢ given) numbers → verbing.is_fresh numbers given ≡ true
unfolding verbing.is_fresh
may_be_given numbers given fresh = ap not (list_any_none (nat_eq given) numbers (All-weaker (λ k. k ≢ given) (λ k. nat_eq given k ≡ false) (λ k h. differs k given h) numbers fresh))

-- ---- the end at the end of a list

link_pushed : (es : List state.End) (e : state.End) (n : Name) → e.link ≡ None → (named (λ z. z.name) (record no_end { name = n }) n (es ++ e ∷ [])).link ≡ (named (λ z. z.name) (record no_end { name = n }) n es).link
unfolding named
link_pushed [] e n lone = grind (arith, lone)
link_pushed (x ∷ es) e n lone = grind (arith, link_pushed es e n lone)

words_there : (q : Name) (queues : List CompletionQueue) → has_word q (map (λ x. x.name) queues) ≡ has_name (λ x. x.name) q queues
words_there q queues = has_name-map (λ (x : CompletionQueue). x.name) (λ x. x) (λ x. x.name) q queues (λ x. refl)

-- a word that is not lacking names a thing that is there
queue_named : (m : Machine) (c : Name) (q : Option Name) → verbing.lacks_queue m c q ≡ false → has_name (λ x. x.name) (verbing.word_or_none q) (machine.context_of m c).queues ≡ true
unfolding verbing.lacks_queue
queue_named m c None h = absurd (cc)
queue_named m c (Some q) h = not_lacking _ h

-- a word that is not lacking names a domain that is there
domain_named : (m : Machine) (c : Name) (d : Option Name) → verbing.lacks_domain m c d ≡ false → has_word (verbing.word_or_none d) (machine.context_of m c).domains ≡ true
unfolding verbing.lacks_domain
domain_named m c None h = absurd (cc)
domain_named m c (Some d) h = not_lacking _ h

name_differs : (k o : ObjName) → k.context ≡ o.context → (k ≢ o) → k.name ≢ o.name
name_differs k o c ne h = ne (λ i. record { context = c i; name = h i })

module _ (w : World) (m : Machine) (o : ObjName) (domain send_cq recv_cq : Option Name) (send_depth recv_depth : ℕ) (few_requests : send_depth ≤ most_depth) (s : Stands w m) where
  domain_is : is_live w o.context ≡ true → (domain : Option Name) → refusing.lacks (λ x. has_word x (live_of w o.context).domains) domain ≡ verbing.lacks_domain m o.context domain
  unfolding verbing.lacks_domain
  domain_is live None = refl
  domain_is live (Some d) = ap (λ ds. not (has_word d ds)) (live_same w m o.context s live).domains

  queue_is : is_live w o.context ≡ true → (q : Option Name) → refusing.lacks (refusing.has_queue (live_of w o.context)) q ≡ verbing.lacks_queue m o.context q
  unfolding verbing.lacks_queue
  queue_is live None = refl
  queue_is live (Some q) = ap (λ qs. not (has_name (λ x. x.name) q qs)) (live_same w m o.context s live).queues

  matches : is_live w o.context ≡ true → has_context m o.context ≡ true → Matches (refusing.refusal_of (home w o.context) (events.MakeQp o domain send_cq recv_cq send_depth recv_depth)) (verbing.refusal_of m (verbs.MakeQp o domain send_cq recv_cq send_depth recv_depth))
  unfolding refusing.refusal_of kept.is_unmade_by has_end
  matches live there =
      within_matches w m o.context _ _ live there
      (matches_either refusals.NoSuch _ _ _ _ _ (domain_is live domain)
      (λ h. matches_either refusals.NoSuch _ _ _ _ _ (queue_is live send_cq)
      (λ h. matches_cause refusals.NoSuch _ _ _ _ (queue_is live recv_cq)
      (λ h. matches_cause refusals.NumberTaken _ _ _ _ (end_there o.name (live_of w o.context).ends (machine.context_of m o.context).ends (live_same w m o.context s live).ends)
      (λ h. matches_unknown refusals.TooMany _ [] (first_cause []) refl
      (λ h. matches_none))))))

  abbrev given : ℕ
  given = number_used (home w o.context)

  abbrev counting : Device
  counting = device.counting_qp (home w o.context)

  -- the end on both sides
  abbrev e : state.End
  e = record { name = o.name; number = given; domain = verbing.word_or_none domain; send_cq = verbing.word_or_none send_cq; recv_cq = verbing.word_or_none recv_cq; send_depth = send_depth; recv_depth = recv_depth; unused = []; link = None }

  abbrev f : machine.End
  f = new_end o given (verbing.word_or_none domain) (verbing.word_or_none send_cq) (verbing.word_or_none recv_cq) send_depth recv_depth

  abbrev x : state.Context
  x = device.with_new_end (live_of w o.context) e

  abbrev old : machine.Context
  old = machine.context_of m o.context

  abbrev y : machine.Context
  y = record old { ends = store_named (λ z. z.name) o.name f old.ends }

  abbrev w' : World
  w' = (ran w (device.answers (device.with_context counting x) (answers.Qp given))).world

  abbrev m' : Machine
  m' = machine.with_context (record m { numbers = m.numbers ++ given ∷ [] }) o.context y

  machine_changed : has_context m o.context ≡ true → MachineChanged m m' o.context y
  unfolding machine.with_context machine.context_of has_context
  machine_changed there = record { named = context_name m o.context; there = there; contexts = replaced-stored (λ z. z.name) o.context y m.contexts there }

  numbers_are : m'.numbers ≡ m.numbers ++ given ∷ []
  unfolding machine.with_context
  numbers_are = refl

  keys_are : m'.keys ≡ m.keys
  unfolding machine.with_context
  keys_are = refl

  counted : is_live w o.context ≡ true → (home w o.context).qp_count < 65535 → IsCounted w' m'
  unfolding device.with_context device.with_new_end machine.with_context
  counted live few =
      let old = counted_kept w w' m (λ k. ran_counts w m o.context (device.with_context counting x) (answers.Qp given) k s.placed live refl (omega arith) (omega arith)) s.counted in
      let here : (device_at w' (home w o.context).id).qp_count ≡ (home w o.context).qp_count + 1 = ap (λ d. d.qp_count) (ran_device w (device.with_context counting x) (answers.Qp given)) in
      let id : given / 65536 ≡ (home w o.context).id = omega (arith, few) in
      let there : (device_at w' (given / 65536)).qp_count ≡ (home w o.context).qp_count + 1 = ap (λ i. (device_at w' i).qp_count) id ∙ here in
      let said : (home w o.context).id < 256 = home_id (λ k. k < 256) w o.context live s.placed.ids_said in
      record {
        numbers_said = All-push (λ n. n < 2 ^ 24) m.numbers given old.numbers_said (omega (arith, few, said));
        numbers_used = All-push (IsUsed (λ k. (device_at w' k).qp_count)) m.numbers given old.numbers_used (omega (arith, few, there));
        keys_used = old.keys_used;
      }

  -- the end is not there before
  module _ (live : is_live w o.context ≡ true) (there : has_context m o.context ≡ true) (few : (home w o.context).qp_count < 65535) (new : has_name (λ z. z.name) o.name old.ends ≡ false) (sends : has_name (λ q. q.name) (verbing.word_or_none send_cq) old.queues ≡ true) (receives : has_name (λ q. q.name) (verbing.word_or_none recv_cq) old.queues ≡ true) (inside : has_word (verbing.word_or_none domain) old.domains ≡ true) where
    pushed : store_named (λ z. z.name) o.name f old.ends ≡ old.ends ++ f ∷ []
    pushed = store_named-new (λ z. z.name) o.name f old.ends new

    world_changed : WorldChanged w w' o.context x
    unfolding device.with_new_end
    world_changed = home_changed w m o.context x counting (answers.Qp given) s.placed live (live_name w o.context live) refl refl

    fresh : All (λ k. k ≢ given) m.numbers
    fresh = fresh_number w m o.context s.placed s.counted live few

    same : AreSame x y
    unfolding device.with_new_end owned_there owned untold link_or_none receive_in
    same =
        let before = live_same w m o.context s live in
        record {
          domains = before.domains;
          regions = before.regions;
          queues = before.queues;
          ends = map-append owned_there (live_of w o.context).ends (e ∷ []) ∙ (ap (λ es. es ++ owned f ∷ []) before.ends ∙ (sym (map-append owned old.ends (f ∷ [])) ∙ ap (map owned) (sym pushed)));
        }

    sound : IsContextSound m'.keys y
    sound =
        let before = s.sound o.context in
        let names : List Name = map (λ q. q.name) old.queues in
        subst (λ ks. IsContextSound ks y) (sym keys_are) (record {
          whole = before.whole;
          bytes = before.bytes;
          keyed = before.keyed;
          keyed_once = before.keyed_once;
          named_once = λ n. subst (λ es. count_by (λ z. bytes_eq z.name n) es ≤ 1) (sym pushed) (once_push (λ z. z.name) f old.ends n new (before.named_once n));
          ends = subst (All (IsEndSound old.regions names)) (sym pushed) (All-push (IsEndSound old.regions names) old.ends f before.ends
              (new_sound old.regions names o given _ _ _ send_depth recv_depth few_requests (words_there _ old.queues ∙ sends) (words_there _ old.queues ∙ receives)));
          regions_in = before.regions_in;
          ends_in = subst (All (λ z. has_word z.domain old.domains ≡ true)) (sym pushed) (All-push (λ z. has_word z.domain old.domains ≡ true) old.ends f before.ends_in inside);
          regions_end = before.regions_end;
        })

    -- its number is one more beside a name
    inserted : Inserts (ℕ × ObjName) (given, o) (numbered_ends m) (numbered_ends m')
    unfolding machine.context_of has_context
    inserted = subst (λ cs. Inserts (ℕ × ObjName) (given, o) (numbered_ends m) (flat_map numbered cs)) (sym (machine_changed there).contexts) (inserts_flat numbered (λ z. z.name) (machine.no_context o.context) o.context y (given, o) m.contexts there
        (ap (map (λ z. (z.number, record { context = old.name; name = z.name }))) pushed
        ∙ (map-append (λ z. (z.number, record { context = old.name; name = z.name })) old.ends (f ∷ [])
        ∙ ap (λ c. numbered old ++ (given, record { context = c; name = o.name }) ∷ []) (context_name m o.context))))

    cm : MachineChanged m m' o.context y
    cm = machine_changed there

    -- another end is as before
    other_end : (k : ObjName) → (k ≢ o) → machine.end_of m' k ≡ machine.end_of m k
    other_end k ne = end_part_same m m' o.context y cm (λ z. z) k (λ c. named-store_other (λ z. z.name) (nobody k) o.name k.name f old.ends refl (λ h. ne (λ i. record { context = c i; name = h i })))

    here_end : machine.end_of m' o ≡ f
    unfolding machine.end_of
    here_end = ap (λ z. named (λ u. u.name) (nobody o) o.name z.ends) (context_here m m' o.context y cm) ∙ named-store_same (λ u. u.name) (nobody o) o.name f old.ends refl

    there_before : (k : ObjName) → (k ≢ o) → has_end m' k ≡ true → has_end m k ≡ true
    unfolding has_end
    there_before k ne h = elim (name_or_not k.context o.context) [
      | inr other ↦ ap (λ z. has_name (λ u. u.name) k.name z.ends) (sym (context_other m m' o.context y cm k.context other)) ∙ h
      | inl c ↦
          let now : has_name (λ u. u.name) k.name y.ends ≡ true = ap (λ z. has_name (λ u. u.name) k.name z.ends) (sym (context_here m m' o.context y cm)) ∙ (ap (λ j. has_name (λ u. u.name) k.name (machine.context_of m' j).ends) (sym c) ∙ h) in
          let split : (has_name (λ u. u.name) k.name old.ends || bytes_eq o.name k.name) ≡ true = sym (ap (has_name (λ u. u.name) k.name) pushed ∙ has_name-push (λ u. u.name) k.name old.ends f) ∙ now in
          ap (λ j. has_name (λ u. u.name) k.name (machine.context_of m j).ends) c ∙ grind (arith, split, name_tells o.name k.name, name_differs k o c ne)
    ]

    absent : has_end m o ≡ false
    unfolding has_end
    absent = new

    number_before : (k : ObjName) → has_end m k ≡ true → (machine.end_of m k).number ≢ given
    number_before k h = All-contains (λ n. n ≢ given) m.numbers (machine.end_of m k).number fresh (number_given w m s k h)

    not_given : (n : ℕ) → Contains m.numbers n → n ≢ given
    not_given n h = All-contains (λ k. k ≢ given) m.numbers n fresh h

    old_name : (n : ℕ) → Contains m.numbers n → name_at (numbered_ends m') n ≡ name_at (numbered_ends m) n
    old_name n h = name_other (given, o) (numbered_ends m) (numbered_ends m') n inserted (λ e. not_given n h (sym e))

    numbering : AreNumbered (net_of w' m') (numbered_ends m') m'.numbers
    numbering = subst (AreNumbered (net_of w' m') (numbered_ends m')) (sym numbers_are) (record {
      given = inserts_all (λ z. Contains (m.numbers ++ given ∷ []) z.0) (given, o) (numbered_ends m) (numbered_ends m') inserted
          (All-weaker (λ z. Contains m.numbers z.0) (λ z. Contains (m.numbers ++ given ∷ []) z.0) (λ z h. Contains-append_left m.numbers (given ∷ []) z.0 h) (numbered_ends m) s.numbered.given)
          (contains_last given m.numbers);
      named = λ k h. elim (object_or_not k o) [
        | inl a ↦ ap (name_at (numbered_ends m')) (ap (λ j. (machine.end_of m' j).number) a ∙ ap (λ z. z.number) here_end) ∙ (name_here (given, o) (numbered_ends m) (numbered_ends m') inserted (All-weaker (λ z. Contains m.numbers z.0) (λ z. z.0 ≢ given) (λ z c. not_given z.0 c) (numbered_ends m) s.numbered.given) ∙ sym a)
        | inr ne ↦
            let before : has_end m k ≡ true = there_before k ne h in
            ap (name_at (numbered_ends m')) (ap (λ z. z.number) (other_end k ne)) ∙ (old_name (machine.end_of m k).number (number_given w m s k before) ∙ s.numbered.named k before)
      ];
    })

    side_is : (k : ObjName) → side_of w' k ≡ side_of w k
    unfolding device.with_new_end
    side_is k = side_same w w' o.context x world_changed k (λ n. link_pushed (live_of w o.context).ends e n refl ∙ ap (λ z. (named (λ u. u.name) (record no_end { name = n }) n z.ends).link) (home_context w o.context live))

    -- an end that is connected is another
    connected_other : (k : ObjName) → IsConnected (net_of w m) k → k ≢ o
    connected_other k c a = absurd (cc (are_made w m s k c, absent))

    grows : NetGrows (net_of w m) (net_of w' m') m.numbers
    grows = record {
      sides = λ k c. side_is k;
      ends = λ k c. ap requests_of (other_end k (connected_other k c));
      names = old_name;
    }

    region_same : (k : Name) → machine.regions_of m' k ≡ machine.regions_of m k
    region_same k = elim (name_or_not k o.context) [
      | inl a ↦ ap (λ j. (machine.context_of m' j).regions) a ∙ (ap (λ z. z.regions) (context_here m m' o.context y cm) ∙ ap (λ j. (machine.context_of m j).regions) (sym a))
      | inr ne ↦ ap (λ z. z.regions) (context_other m m' o.context y cm k ne)
    ]

    stands : Stands w' m'
    stands = grown_stands w w' m m' s (record {
      placed = placed_kept w w' m m' o.context x y world_changed cm s.placed;
      counted = counted live few;
      same = same_kept w w' m m' o.context x y world_changed cm same s.same;
      sound = sound_kept m m' o.context y cm (λ k h. subst (λ ks. Contains ks k) (sym keys_are) h) sound s.sound;
      numbered = numbering;
      grows = grows;
      regions = λ k c. region_same k.context;
      new = λ k c. inl (subst (λ z. z.connected ≡ true) (side_is k) c);
      husks = husks_same w w' world_changed.shapes;
      sent = world_changed.sent;
    })

    does : IsDone w m (events.MakeQp o domain send_cq recv_cq send_depth recv_depth) (verbs.MakeQp o domain send_cq recv_cq send_depth recv_depth)
    unfolding ran step.numbered device.makes_end kept.is_unmade verbing.made_end
    does = record {
      given = given;
      may = may_be_given m.numbers given fresh;
      answer = refl;
      made = refl;
      stands =
          subst (λ es. Stands (ran w (device.answers (device.with_context counting (device.with_new_end (live_of w o.context) (record e { domain = device.word_of domain; send_cq = device.word_of send_cq; recv_cq = device.word_of recv_cq }))) (answers.Qp given))).world (machine.with_context (record m { numbers = m.numbers ++ given ∷ [] }) o.context (record old { ends = es }))) pushed
          (subst (λ d. Stands (ran w (device.answers (device.with_context counting (device.with_new_end (live_of w o.context) (record e { domain = d; send_cq = device.word_of send_cq; recv_cq = device.word_of recv_cq }))) (answers.Qp given))).world m') (sym (word_is domain))
          (subst (λ q. Stands (ran w (device.answers (device.with_context counting (device.with_new_end (live_of w o.context) (record e { send_cq = q; recv_cq = device.word_of recv_cq }))) (answers.Qp given))).world m') (sym (word_is send_cq))
          (subst (λ q. Stands (ran w (device.answers (device.with_context counting (device.with_new_end (live_of w o.context) (record e { recv_cq = q }))) (answers.Qp given))).world m') (sym (word_is recv_cq)) stands)));
    }

  few_numbers : (a : Bool) (n : ℕ) → (a || nat_le 65535 n) ≡ false → n < 65535
  few_numbers true n h = absurd (cc)
  few_numbers false n h = grind (arith, nat_tests, leb_tells 65535 n)

  pub end_follows : Follows w m (world_events.At (events.MakeQp o domain send_cq recv_cq send_depth recv_depth))
  unfolding kept.verb_in refusing.refusal_of has_end
  end_follows = verb_follows w m (events.MakeQp o domain send_cq recv_cq send_depth recv_depth) (verbs.MakeQp o domain send_cq recv_cq send_depth recv_depth) s (record {
    verb = refl;
    allows = λ a. refl;
    nowhere = λ h. first_yes refusals.NoSuch _ _ (rw h refl);
    matches = matches;
    does = λ live there h h'.
        let queues = later_no refusals.NoSuch _ _ (later_no refusals.NoSuch _ _ h') in
        let received = later_no refusals.NoSuch _ _ queues in
        does live there
        (few_numbers _ _ (first_no refusals.TooMany _ [] (later_no refusals.NumberTaken _ _ (later_no refusals.NoSuch _ _ (later_no refusals.Stopped _ _ (later_no refusals.NoSuch _ _ h))))))
        (first_no refusals.NumberTaken _ [] (later_no refusals.NoSuch _ _ received))
        (queue_named m o.context send_cq (first_no refusals.NoSuch _ _ queues))
        (queue_named m o.context recv_cq (first_no refusals.NoSuch _ _ received))
        (domain_named m o.context domain (first_no refusals.NoSuch _ _ (later_no refusals.NoSuch _ _ h')));
  })
