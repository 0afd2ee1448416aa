-- The machine follows the making of a region.
use Rattle.std.proofs.Common.{arith, ◌≡◌, ◌≢◌, ◌<◌, ◌≤◌, ◌^◌, ◌+◌, ◌*◌, ℕ, List, [], ◌∷◌, ◌++◌, true, false, Bool, refl, sym, ap, ◌∙◌, subst}
use Rattle.std.specs.Prelude.{Option, Some, None, not, ◌&&◌, ◌||◌, ◌==◌, nat_le, nat_eq, replicate, All, Contains, ◌%◌, ◌/◌, suc}
use Rattle.std.proofs.lemmas.Bool.Decides.{nat_tests, leb_tells, eqb_tells}
use Rattle.std.proofs.lemmas.List.{length-replicate}
use Rattle.std.proofs.lemmas.List.Elements.{All-push, All-weaker, All-replicate, All-contains, Contains-append_left}
use Rattle.std.proofs.lemmas.List.Folds.{list_any_none}
use Rattle.rdma_types.specs.declared.rights.Rights.{Rights}
use Rattle.rdma_types.specs.Objects.{IsWhole}
use Rattle.protocol.specs.State.{Device, device_at}
use Rattle.law_simulation.specs.Stands.{IsContextSound, IsCounted, IsPlaced}
use Rattle.law_simulation.proofs.relation.Worlds.{home_device, home_context, ran_device, ran_counts}
use Rattle.law_simulation.proofs.relation.Machines.{MachineChanged}
use Rattle.law_simulation.proofs.relation.Tables.{replaced-stored}
use Rattle.law_simulation.specs.Views.{context_of, net_of}
use Rattle.law_simulation.proofs.relation.Nets.{AreQuiet, net_same, listed_quiet}
use Rattle.law_simulation.proofs.relation.Kept.{IsKeyUsed, counted_kept, progress_changed, quiet_kept}
use Rattle.law_simulation.proofs.relation.Live.{home_changed}
use Rattle.law_simulation.proofs.relation.Grants.{contains_last, granted_push, progress_push, keyed_push}
use Rattle.law_simulation.proofs.relation.Sounds.{ends_regions}
use Rattle.rdma_types.specs.declared.names.Name.{Name}
use Rattle.rdma_types.specs.declared.names.ObjName.{ObjName}
use Rattle.rdma_types.specs.declared.verbs.Verb.TheVariants as verbs
use Rattle.rdma_types.specs.declared.answers.Answer.TheVariants as answers
use Rattle.rdma_types.specs.declared.answers.Refusal.TheVariants as refusals
use Rattle.rdma_types.specs.Causes.{first_cause}
use Rattle.rdma_types.specs.Lists.{has_word, has_name}
use Rattle.rdma_types.specs.Objects.{Region}
use Rattle.protocol.specs.declared.events.Event.TheVariants as events
use Rattle.protocol.specs.declared.events.WorldEvent.TheVariants as world_events
use Rattle.protocol.specs.State as state
use Rattle.protocol.specs.State.{World}
use Rattle.protocol.specs.Refusals as refusing
use Rattle.protocol.specs.DeviceStep as device
use Rattle.protocol.specs.WorldStep as step
use Rattle.protocol.specs.WorldStep.{is_live, home, ran}
use Rattle.packetless_machine.specs.Machine as machine
use Rattle.packetless_machine.specs.Machine.{Machine, has_context}
use Rattle.packetless_machine.specs.Verbs as verbing
use Rattle.law_simulation.specs.Kept as kept
use Rattle.law_simulation.specs.Stands.{Stands}
use Rattle.law_simulation.specs.Law.{Follows}
use Rattle.law_simulation.proofs.relation.Machines.{context_name}
use Rattle.law_simulation.proofs.relation.Nets.{same_quiet}
use Rattle.law_simulation.proofs.relation.Refusing.{Matches, matches_cause, matches_unknown, matches_none, first_yes, first_no, later_no, not_lacking}
use Rattle.law_simulation.proofs.relation.Live.{live_of, live_name, live_same, within_matches}
use Rattle.law_simulation.proofs.relation.Verbs.{IsDone, verb_follows}

abbrev keys_used : Device → ℕ
keys_used d = d.id * 16777216 + 2 * (d.key_count + 1)

-- the word of a thing here
word_is : (n : Option Name) → device.word_of n ≡ verbing.word_or_none n
word_is None = refl
word_is (Some n) = refl

abbrev new_region : Name → Option Name → ℕ → ℕ → Rights → ℕ → Region
new_region n domain base count rights given = record { name = n; domain = verbing.word_or_none domain; base = base; length = count; rights = rights; keys = record { local = given; remote = given + 1 }; bytes = replicate count 0 }

-- ---- the keys are fresh

fresh_key : (w : World) (m : Machine) (c : Name) → IsPlaced w m → IsCounted w m → is_live w c ≡ true → (home w c).key_count < 8388607 → All (λ k. k ≢ keys_used (home w c)) m.keys
fresh_key w m c placed counted live few =
    let here = home_device w m c placed live in
    All-weaker (IsKeyUsed (λ k. (device_at w k).key_count)) (λ k. k ≢ keys_used (home w c)) (λ k h e.
    let at_home : k / 16777216 ≡ (home w c).id = omega (arith, e, few) in
    let count : (device_at w (k / 16777216)).key_count ≡ (home w c).key_count = ap (λ i. (device_at w i).key_count) at_home ∙ ap (λ d. d.key_count) here in
    omega (arith, e, few, h, count)) m.keys counted.keys_used

differs : (k given : ℕ) → (k ≢ given) → nat_eq given k ≡ false
differs k given ne = grind (arith, nat_tests, eqb_tells given k)

may_be_given : (keys : List ℕ) (given : ℕ) → given % 2 ≡ 0 → All (λ k. k ≢ given) keys → ((given % 2 == 0) && verbing.is_fresh keys given) ≡ true
unfolding verbing.is_fresh
may_be_given keys given even fresh = grind (arith, nat_tests, eqb_tells (given % 2) 0, even, list_any_none (nat_eq given) keys (All-weaker (λ k. k ≢ given) (λ k. nat_eq given k ≡ false) (λ k h. differs k given h) keys fresh))

abbrev IsKeyed : List ℕ → Region → Type 0
IsKeyed keys r = Contains keys r.keys.local × (r.keys.local % 2 ≡ 0) × (r.keys.remote ≡ suc r.keys.local)

-- a context with one more region, whose key is new
region_sound : (keys : List ℕ) (given : ℕ) (y : machine.Context) (r : Region) → r.keys.local ≡ given → given % 2 ≡ 0 → r.keys.remote ≡ suc given → All (λ k. k ≢ given) keys → IsWhole r → All (λ b. b < 256) r.bytes → has_word r.domain y.domains ≡ true → r.base + r.length ≤ 2 ^ 64 → IsContextSound keys y → IsContextSound (keys ++ given ∷ []) (record y { regions = y.regions ++ r ∷ [] })
region_sound keys given y r key even remote fresh whole bytes domain within s = record {
  whole = All-push IsWhole y.regions r s.whole whole;
  bytes = All-push (λ x. All (λ b. b < 256) x.bytes) y.regions r s.bytes bytes;
  keyed = All-push (IsKeyed (keys ++ given ∷ [])) y.regions r
      (All-weaker (IsKeyed keys) (IsKeyed (keys ++ given ∷ [])) (λ x h. (Contains-append_left keys (given ∷ []) x.keys.local h.0, h.1, h.2)) y.regions s.keyed)
      (subst (Contains (keys ++ given ∷ [])) (sym key) (contains_last given keys), omega (arith, key, even), omega (arith, key, remote));
  keyed_once = keyed_push r y.regions s.keyed_once (All-weaker (IsKeyed keys) (λ x. x.keys.local ≢ r.keys.local) (λ x h e. All-contains (λ k. k ≢ given) keys x.keys.local fresh h.0 (e ∙ key)) y.regions s.keyed);
  named_once = s.named_once;
  ends = ends_regions y.regions (y.regions ++ r ∷ []) _ y.ends (λ domain k place count right h. granted_push _ y.regions (r ∷ []) domain k place count right h) s.ends;
  regions_in = All-push (λ x. has_word x.domain y.domains ≡ true) y.regions r s.regions_in domain;
  ends_in = s.ends_in;
  regions_end = All-push (λ x. x.base + x.length ≤ 2 ^ 64) y.regions r s.regions_end within;
}

-- a word that is not lacking names a domain that is there
domain_named : (m : Machine) (c : Name) (d : Option Name) → verbing.lacks_domain m c d ≡ false → has_word (verbing.word_or_none d) (machine.context_of m c).domains ≡ true
unfolding verbing.lacks_domain
domain_named m c None h = absurd (cc)
domain_named m c (Some d) h = not_lacking _ h

module _ (w : World) (m : Machine) (o : ObjName) (domain : Option Name) (base count : ℕ) (rights : Rights) (within : base + count ≤ 2 ^ 64) (s : Stands w m) where
  lacks_is : is_live w o.context ≡ true → (domain : Option Name) → refusing.lacks (λ x. has_word x (live_of w o.context).domains) domain ≡ verbing.lacks_domain m o.context domain
  unfolding verbing.lacks_domain
  lacks_is live None = refl
  lacks_is live (Some d) = ap (λ ds. not (has_word d ds)) (live_same w m o.context s live).domains

  matches : is_live w o.context ≡ true → has_context m o.context ≡ true → Matches (refusing.refusal_of (home w o.context) (events.MakeRegion o domain base count rights)) (verbing.refusal_of m (verbs.MakeRegion o domain base count rights))
  unfolding refusing.refusal_of kept.is_unmade_by
  matches live there =
      within_matches w m o.context _ _ live there
      (matches_cause refusals.NoSuch _ _ _ _ (lacks_is live domain)
      (λ h. matches_cause refusals.NumberTaken _ _ _ _ (ap (λ rs. has_name (λ r. r.name) o.name rs) (live_same w m o.context s live).regions)
      (λ h. matches_unknown refusals.TooMany _ _ (first_cause []) refl
      (λ h. matches_unknown refusals.NoPage _ [] (first_cause []) refl
      (λ h. matches_none)))))

  -- the device with its next key used
  abbrev counting : Device
  counting = device.counting_key (home w o.context)

  abbrev given : ℕ
  given = keys_used (home w o.context)

  abbrev new : Region
  new = new_region o.name domain base count rights given

  abbrev x : state.Context
  x = device.with_new_region (live_of w o.context) new

  abbrev y : machine.Context
  y = record (machine.context_of m o.context) { regions = machine.regions_of m o.context ++ new ∷ [] }

  abbrev w' : World
  w' = (ran w (device.answers (device.with_context counting x) (answers.Region (record { local = given; remote = given + 1 })))).world

  abbrev m' : Machine
  m' = machine.with_regions (record m { keys = m.keys ++ given ∷ [] }) o.context (machine.regions_of m o.context ++ new ∷ [])

  machine_changed : has_context m o.context ≡ true → MachineChanged m m' o.context y
  unfolding machine.with_regions machine.with_context machine.context_of has_context
  machine_changed there = record { named = context_name m o.context; there = there; contexts = replaced-stored (λ z. z.name) o.context y m.contexts there }

  keys_are : m'.keys ≡ m.keys ++ given ∷ []
  unfolding machine.with_regions machine.with_context
  keys_are = refl

  numbers_are : m'.numbers ≡ m.numbers
  unfolding machine.with_regions machine.with_context
  numbers_are = refl

  counted : is_live w o.context ≡ true → (home w o.context).key_count < 8388607 → IsCounted w' m'
  unfolding device.with_context device.with_new_region machine.with_regions machine.with_context
  counted live few =
      let old = counted_kept w w' m (λ k. ran_counts w m o.context (device.with_context counting x) (answers.Region (record { local = given; remote = given + 1 })) k s.placed live refl (omega arith) (omega arith)) s.counted in
      let here : (device_at w' (home w o.context).id).key_count ≡ (home w o.context).key_count + 1 = ap (λ d. d.key_count) (ran_device w (device.with_context counting x) (answers.Region (record { local = given; remote = given + 1 }))) in
      let id : given / 16777216 ≡ (home w o.context).id = omega (arith, few) in
      let there : (device_at w' (given / 16777216)).key_count ≡ (home w o.context).key_count + 1 = ap (λ i. (device_at w' i).key_count) id ∙ here in
      record {
        numbers_said = old.numbers_said;
        numbers_used = old.numbers_used;
        keys_used = All-push (IsKeyUsed (λ k. (device_at w' k).key_count)) m.keys given old.keys_used (omega (arith, few, there));
      }

  stands : is_live w o.context ≡ true → has_context m o.context ≡ true → (home w o.context).key_count < 8388607 → has_word (verbing.word_or_none domain) (machine.context_of m o.context).domains ≡ true → Stands w' m'
  unfolding device.with_new_region
  stands live there few inside =
      let same = live_same w m o.context s live in
      let cw = home_changed w m o.context x counting (answers.Region (record { local = given; remote = given + 1 })) s.placed live (live_name w o.context live) refl refl in
      let cm = machine_changed there in
      let quiet : AreQuiet (context_of w o.context).ends x.ends (machine.context_of m o.context).ends y.ends = same_quiet _ _ _ _ (ap (λ z. z.ends) (home_context w o.context live)) refl in
      quiet_kept w w' m m' o.context x y s (record {
        world = cw;
        machine = cm;
        net = net_same w w' m m' o.context x y cw cm refl quiet;
        listed = listed_quiet m m' o.context y _ _ cm refl quiet;
        numbers = numbers_are;
        keys = λ k h. subst (λ ks. Contains ks k) (sym keys_are) (Contains-append_left m.keys (given ∷ []) k h);
        counted = counted live few;
        same = record { domains = same.domains; regions = ap (λ rs. rs ++ new ∷ []) same.regions; queues = same.queues; ends = same.ends };
        sound = subst (λ ks. IsContextSound ks y) (sym keys_are) (region_sound m.keys given (machine.context_of m o.context) new refl (omega arith) (omega arith) (fresh_key w m o.context s.placed s.counted live few) (length-replicate count 0) (All-replicate (λ b. b < 256) count 0 (omega arith)) inside within (s.sound o.context));
        progress = progress_changed (net_of w m) m m' o.context y cm (λ q d p h. progress_push q d (machine.regions_of m o.context) (new ∷ []) p h) s.progress;
      })

  does : is_live w o.context ≡ true → has_context m o.context ≡ true → (home w o.context).key_count < 8388607 → has_word (verbing.word_or_none domain) (machine.context_of m o.context).domains ≡ true → IsDone w m (events.MakeRegion o domain base count rights) (verbs.MakeRegion o domain base count rights)
  unfolding ran step.numbered device.makes_region kept.is_unmade verbing.made_region
  does live there few inside = record {
    given = given;
    may = may_be_given m.keys given (omega arith) (fresh_key w m o.context s.placed s.counted live few);
    answer = refl;
    made = refl;
    stands = subst (λ d. Stands (ran w (device.answers (device.with_context counting (device.with_new_region (live_of w o.context) (record new { domain = d }))) (answers.Region (record { local = given; remote = given + 1 })))).world m') (sym (word_is domain)) (stands live there few inside);
  }

  few_keys : (a : Bool) (n : ℕ) → (a || nat_le 8388607 n) ≡ false → n < 8388607
  few_keys true n h = absurd (cc)
  few_keys false n h = grind (arith, nat_tests, leb_tells 8388607 n)

  pub region_follows : Follows w m (world_events.At (events.MakeRegion o domain base count rights))
  unfolding kept.verb_in refusing.refusal_of
  region_follows = verb_follows w m (events.MakeRegion o domain base count rights) (verbs.MakeRegion o domain base count rights) s (record {
    verb = refl;
    allows = λ a. refl;
    nowhere = λ h. first_yes refusals.NoSuch _ _ (rw h refl);
    matches = matches;
    does = λ live there h h'.
        does live there
        (few_keys _ _ (first_no refusals.TooMany _ _ (later_no refusals.NumberTaken _ _ (later_no refusals.NoSuch _ _ (later_no refusals.Stopped _ _ (later_no refusals.NoSuch _ _ h))))))
        (domain_named m o.context domain (first_no refusals.NoSuch _ _ (later_no refusals.NoSuch _ _ h')));
  })
