-- The machine follows a store.
use Rattle.std.proofs.Common.{arith, ◌≡◌, ◌≤◌, ◌<◌, ◌^◌, ◌+◌, ◌-◌, ℕ, List, [], ◌++◌, length, true, refl, sym, ap, ◌∙◌, subst}
use Rattle.std.specs.Prelude.{not, take, drop, All, Contains, ◌%◌, suc}
use Rattle.std.proofs.lemmas.Bool.Decides.{nat_tests, leb_tells}
use Rattle.std.proofs.lemmas.List.{length-append, length-drop, length-take}
use Rattle.std.proofs.lemmas.List.Elements.{All-append, All-take, All-drop}
use Rattle.rdma_types.specs.Lists.{store}
use Rattle.rdma_types.specs.Memory.{put}
use Rattle.rdma_types.specs.Objects.{IsWhole}
use Rattle.protocol.specs.Memory.{stored, with_region}
use Rattle.law_simulation.specs.Stands.{IsContextSound}
use Rattle.law_simulation.proofs.relation.Tables.{All-store, All-named, replaced-stored}
use Rattle.law_simulation.proofs.relation.Grants.{SamePlace, local_granted_store, progress_store, keyed_store, store_by_key}
use Rattle.law_simulation.proofs.relation.Sounds.{ends_regions}
use Rattle.rdma_types.specs.declared.names.Name.{Name}
use Rattle.rdma_types.specs.declared.names.ObjName.{ObjName}
use Rattle.rdma_types.specs.declared.verbs.Verb.TheVariants as verbs
use Rattle.rdma_types.specs.declared.answers.Answer.TheVariants as answers
use Rattle.rdma_types.specs.declared.answers.Refusal.TheVariants as refusals
use Rattle.rdma_types.specs.Lists.{has_name, has_word, named, store_named}
use Rattle.rdma_types.specs.Memory.{holds}
use Rattle.rdma_types.specs.Objects.{Region, no_region}
use Rattle.protocol.specs.declared.events.Event.TheVariants as events
use Rattle.protocol.specs.declared.events.WorldEvent.TheVariants as world_events
use Rattle.protocol.specs.State as state
use Rattle.protocol.specs.State.{World}
use Rattle.protocol.specs.Refusals as refusing
use Rattle.protocol.specs.DeviceStep as device
use Rattle.protocol.specs.WorldStep as step
use Rattle.protocol.specs.WorldStep.{is_live, home, ran}
use Rattle.packetless_machine.specs.Machine as machine
use Rattle.packetless_machine.specs.Machine.{Machine, has_context}
use Rattle.packetless_machine.specs.Verbs as verbing
use Rattle.law_simulation.specs.Kept as kept
use Rattle.law_simulation.specs.Stands.{Stands}
use Rattle.law_simulation.specs.Law.{Follows}
use Rattle.law_simulation.proofs.relation.Machines.{context_name}
use Rattle.law_simulation.proofs.relation.Nets.{same_quiet}
use Rattle.law_simulation.proofs.relation.Refusing.{Matches, matches_cause, matches_none, first_yes, first_no, later_no, not_lacking}
use Rattle.law_simulation.proofs.relation.Live.{live_of, live_name, live_same, within_matches, changed_stands}
use Rattle.law_simulation.proofs.relation.Verbs.{IsDone, verb_follows}

-- ---- bytes put into a region

length_put : (bytes new : List ℕ) (place : ℕ) → place + length new ≤ length bytes → length (put bytes place new) ≡ length bytes
unfolding put
length_put bytes new place h = omega (arith, h, length-append (take place bytes) (new ++ drop (place + length new) bytes), length-append new (drop (place + length new) bytes), length-take place bytes, length-drop (place + length new) bytes)

all_put : (P : ℕ → Type 0) (bytes new : List ℕ) (place : ℕ) → All P bytes → All P new → All P (put bytes place new)
unfolding put
all_put P bytes new place h k = All-append P (take place bytes) (new ++ drop (place + length new) bytes) (All-take P place bytes h) (All-append P new (drop (place + length new) bytes) k (All-drop P (place + length new) bytes h))

-- the region with bytes at an address
abbrev stored_at : Region → ℕ → List ℕ → Region
stored_at r a bytes = record r { bytes = put r.bytes (a - r.base) bytes }

held_inside : (r : Region) (a : ℕ) (n : ℕ) → holds r a n ≡ true → (r.base ≤ a) × (a + n ≤ r.base + r.length)
unfolding holds
held_inside r a n h = grind (arith, nat_tests, leb_tells r.base a, leb_tells (a + n) (r.base + r.length), h)

whole_stored : (r : Region) (a : ℕ) (bytes : List ℕ) → IsWhole r → holds r a (length bytes) ≡ true → IsWhole (stored_at r a bytes)
whole_stored r a bytes whole held =
    let inside = held_inside r a (length bytes) held in
    length_put r.bytes bytes (a - r.base) (omega (arith, inside, whole)) ∙ whole

same_stored : (r : Region) (a : ℕ) (bytes : List ℕ) → SamePlace r (stored_at r a bytes)
same_stored r a bytes = record { name = refl; domain = refl; base = refl; length = refl; rights = refl; keys = refl }

abbrev IsKeyed : List ℕ → Region → Type 0
IsKeyed keys r = Contains keys r.keys.local × (r.keys.local % 2 ≡ 0) × (r.keys.remote ≡ suc r.keys.local)

-- a context with bytes stored in its region n
store_sound : (keys : List ℕ) (y : machine.Context) (n : Name) (a : ℕ) (bytes : List ℕ) → has_name (λ r. r.name) n y.regions ≡ true → holds (named (λ r. r.name) no_region n y.regions) a (length bytes) ≡ true → All (λ b. b < 256) bytes → IsContextSound keys y →
    IsContextSound keys (record y { regions = store_named (λ r. r.name) n (stored_at (named (λ r. r.name) no_region n y.regions) a bytes) y.regions })
store_sound keys y n a bytes there held said s =
    let r : Region = named (λ x. x.name) no_region n y.regions in
    record {
      whole = All-store IsWhole (λ x. x.name) n (stored_at r a bytes) y.regions s.whole (whole_stored r a bytes (All-named IsWhole (λ x. x.name) no_region n y.regions s.whole there) held);
      bytes = All-store (λ x. All (λ b. b < 256) x.bytes) (λ x. x.name) n (stored_at r a bytes) y.regions s.bytes (all_put (λ b. b < 256) r.bytes bytes (a - r.base) (All-named (λ x. All (λ b. b < 256) x.bytes) (λ x. x.name) no_region n y.regions s.bytes there) said);
      keyed = All-store (IsKeyed keys) (λ x. x.name) n (stored_at r a bytes) y.regions s.keyed (All-named (IsKeyed keys) (λ x. x.name) no_region n y.regions s.keyed there);
      keyed_once = λ k. omega (arith, keyed_store n (stored_at r a bytes) y.regions k there refl, s.keyed_once k);
      named_once = s.named_once;
      ends = ends_regions y.regions _ _ y.ends (λ domain key place count right h. local_granted_store n (stored_at r a bytes) y.regions domain key place count right there (same_stored r a bytes) h) s.ends;
      regions_in = All-store (λ x. has_word x.domain y.domains ≡ true) (λ x. x.name) n (stored_at r a bytes) y.regions s.regions_in (All-named (λ x. has_word x.domain y.domains ≡ true) (λ x. x.name) no_region n y.regions s.regions_in there);
      ends_in = s.ends_in;
      regions_end = All-store (λ x. x.base + x.length ≤ 2 ^ 64) (λ x. x.name) n (stored_at r a bytes) y.regions s.regions_end (All-named (λ x. x.base + x.length ≤ 2 ^ 64) (λ x. x.name) no_region n y.regions s.regions_end there);
    }

module _ (w : World) (m : Machine) (o : ObjName) (a : ℕ) (bytes : List ℕ) (said : All (λ b. b < 256) bytes) (s : Stands w m) where
  matches : is_live w o.context ≡ true → has_context m o.context ≡ true → Matches (refusing.refusal_of (home w o.context) (events.Store o a bytes)) (verbing.refusal_of m (verbs.Store o a bytes))
  unfolding refusing.refusal_of verbing.region_of
  matches live there =
      within_matches w m o.context _ _ live there
      (matches_cause refusals.NoSuch _ _ _ _ (ap (λ rs. not (has_name (λ r. r.name) o.name rs)) (live_same w m o.context s live).regions)
      (λ h. matches_cause refusals.BadKey _ _ _ _ (ap (λ rs. not (holds (named (λ r. r.name) no_region o.name rs) a (length bytes))) (live_same w m o.context s live).regions)
      (λ h. matches_none)))

  does : is_live w o.context ≡ true → has_context m o.context ≡ true → has_name (λ r. r.name) o.name (machine.context_of m o.context).regions ≡ true → holds (named (λ r. r.name) no_region o.name (machine.context_of m o.context).regions) a (length bytes) ≡ true → IsDone w m (events.Store o a bytes) (verbs.Store o a bytes)
  unfolding ran step.numbered device.stores stored with_region kept.is_unmade verbing.stored verbing.region_of verbing.overwritten machine.with_regions
  does live there found held =
      let same = live_same w m o.context s live in
      let y = machine.context_of m o.context in
      let r : Region = named (λ x. x.name) no_region o.name y.regions in
      record {
        given = 0;
        may = refl;
        answer = refl;
        made = refl;
        stands = subst (λ rs. Stands (ran w (device.answers (device.with_context (home w o.context) (with_region (live_of w o.context) (stored (state.region_at (live_of w o.context) o.name) (a - (state.region_at (live_of w o.context) o.name).base) bytes))) answers.Done)).world (machine.with_context m o.context (record y { regions = rs }))) (sym (replaced-stored (λ x. x.name) o.name (stored_at r a bytes) y.regions found))
            (changed_stands w m o.context
            (with_region (live_of w o.context) (stored (state.region_at (live_of w o.context) o.name) (a - (state.region_at (live_of w o.context) o.name).base) bytes))
            (record y { regions = store_named (λ x. x.name) o.name (stored_at r a bytes) y.regions })
            answers.Done s live there
            (live_name w o.context live) (context_name m o.context) (same_quiet _ _ _ _ refl refl)
            (record {
              domains = same.domains;
              regions = ap (λ rs. store (λ x. x.keys.local) (named (λ x. x.name) no_region o.name rs).keys.local (stored_at (named (λ x. x.name) no_region o.name rs) a bytes) rs) same.regions ∙ store_by_key o.name (stored_at r a bytes) y.regions (s.sound o.context).keyed_once found refl;
              queues = same.queues;
              ends = same.ends;
            })
            (store_sound m.keys y o.name a bytes found held said (s.sound o.context))
            (λ q domain p h. progress_store q domain o.name (stored_at r a bytes) y.regions p found (same_stored r a bytes) h));
      }

  pub store_follows : Follows w m (world_events.At (events.Store o a bytes))
  unfolding kept.verb_in verbing.region_of
  store_follows = verb_follows w m (events.Store o a bytes) (verbs.Store o a bytes) s (record {
    verb = refl;
    allows = λ x. refl;
    nowhere = λ h. first_yes refusals.NoSuch _ _ (rw h refl);
    matches = matches;
    does = λ live there h h'.
        let later = later_no refusals.NoSuch _ _ h' in
        does live there (not_lacking _ (first_no refusals.NoSuch _ _ later)) (not_lacking _ (first_no refusals.BadKey _ [] (later_no refusals.NoSuch _ _ later)));
  })
