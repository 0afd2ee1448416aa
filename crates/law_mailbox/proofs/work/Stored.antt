-- What is held stays held, where bytes are stored in a sender's region.
use Rattle.std.proofs.Common.{arith, ◌≡◌, ℕ, ◌+◌, ◌-◌, ◌<◌, ◌≤◌, List, [], ◌++◌, length, true, false, refl, sym, subst, ap, ◌∙◌, Some}
use Rattle.std.specs.Prelude.{All}
use Rattle.rdma_types.specs.declared.names.Name.{Name}
use Rattle.rdma_types.specs.declared.names.ObjName.{ObjName}
use Rattle.rdma_types.specs.declared.verbs.Verb.TheVariants as verbs
use Rattle.rdma_types.specs.Limits.{most_bytes}
use Rattle.rdma_types.specs.Memory.{cut, put}
use Rattle.rdma_types.specs.Objects.{CompletionQueue, Region}
use Rattle.protocol.specs.declared.events.Event.TheVariants as events
use Rattle.protocol.specs.WorldStep.{is_live}
use Rattle.packetless_machine.specs.Machine.{End, Machine, has_context}
use Rattle.packetless_machine.specs.Verbs.{region_of, stored}
use Rattle.law_simulation.specs.Kept.{verb_in}
use Rattle.law_simulation.specs.Named.{EventsFollowByName}
use Rattle.mailbox_rules.specs.declared.due.Due.{Due}
use Rattle.mailbox_rules.specs.Calls.{storing}
use Rattle.mailbox_rules.specs.Histories.{Turn, placed_letters, sent_letters}
use Rattle.mailbox_rules.specs.Opening.{place_bytes, queue_name, receiver, receiver_end, receiver_region, sender, sender_end, sender_key, sender_region, staging_address}
use Rattle.mailbox_rules.specs.State.{Mail, channel, is_away}
use Rattle.mailbox_rules.specs.Working.{asking}
use Rattle.law_mailbox.specs.Held.{AreOfSenders, IsHeld}
use Rattle.law_mailbox.specs.Kept.{IsKept, IsOpened, Sight, dues_of, sight_of, slot_offset}
use Rattle.law_mailbox.specs.Works.{Line, Stores}
use Rattle.law_mailbox.proofs.work.Asking.{asks, lives, stores_carry, stores_stand}
use Rattle.law_mailbox.proofs.work.Changing.{IsSeenAt, all_kept, owed_with, same_itself}
use Rattle.law_mailbox.proofs.settling.Opened.{were_sent}
use Rattle.law_mailbox.proofs.work.Polling.{sender_names_apart}
use Rattle.law_mailbox.proofs.connection.Regions.{region_holds, region_offset}
use Rattle.law_mailbox.proofs.connection.Sights.{context_there}
use Rattle.law_mailbox.proofs.connection.Storing.{IsLikeMachine, ends_stay, opened_stays, queues_stay, region_elsewhere, region_here, stored_like}
use Rattle.law_mailbox.proofs.work.Worked.{context_is}
use Rattle.law_mailbox.proofs.work.WorkSteps.{work_keeps}

pub store_verb : (o : ObjName) (address : ℕ) (bytes : List ℕ) → verb_in (events.Store o address bytes) ≡ Some (verbs.Store o address bytes)
unfolding verb_in
store_verb o address bytes = refl

-- what is seen then
store_seen : (peers : ℕ) → peers ≤ 8 → (m : Machine) (j : ℕ) → j ≤ peers → (opened : IsOpened m j) (address offset : ℕ) (bytes : List ℕ) → address ≡ staging_address + offset → offset + length bytes ≤ length (region_of m (sender_region j)).bytes →
    IsSeenAt peers m (stored m (sender_region j) address bytes) j (record (sight_of m [] j) { stored = put (region_of m (sender_region j)).bytes offset bytes })
store_seen peers small m j within opened address offset bytes e room =
    let at = region_offset (region_of m (sender_region j)) staging_address (place_bytes + most_bytes) 5 (sender_key j) opened.sender_region_is address offset e in
    let context = context_there m (sender_end j) opened.sender_there in
    let there = opened.sender_region_there in
    let fits : (address - (region_of m (sender_region j)).base) + length bytes ≤ length (region_of m (sender_region j)).bytes = omega (arith, at, room) in
    let here = ap (λ (r : Region). r.bytes) (region_here m (sender_region j) address bytes context there fits) ∙ ap (λ (n : ℕ). put (region_of m (sender_region j)).bytes n bytes) at in
    let others = ends_stay m (sender_region j) address bytes context there fits in
    let queues = queues_stay m (sender_region j) address bytes context there fits in
    let regions = region_elsewhere m (sender_region j) address bytes context there fits in
    record {
      here = λ k. record {
        sender = others (sender_end j) k;
        receiver = others (receiver_end j) k;
        stored = here k;
        landed = (regions (receiver_region j) (λ f. cc) k).bytes;
        dues = dues_of 0 (queues receiver queue_name k).entries ++ dues_of j (queues (sender j) queue_name k).entries;
      };
      others = λ i low high apart.
          let elsewhere = regions (sender_region i) (sender_names_apart i j (omega (arith, high, small)) (omega (arith, within, small)) apart) in
          λ k. record {
            sender = others (sender_end i) k;
            receiver = others (receiver_end i) k;
            stored = (elsewhere k).bytes;
            landed = (regions (receiver_region i) (λ f. cc) k).bytes;
            dues = dues_of 0 (queues receiver queue_name k).entries ++ dues_of i (queues (sender i) queue_name k).entries;
          };
      opened = opened_stays m (sender_region j) address bytes context there fits;
      connected = λ o. ap (λ (x : End). x.connected) (others o);
      standing_same = ap (λ (q : CompletionQueue). dues_of 0 q.entries) (queues receiver queue_name);
    }

-- bytes were stored in the region of sender j, which are these then, and else all is as before
pub record IsStoredAt (peers : ℕ) (ts : List Turn) (machine : Machine) (m m' : Mail) (j : ℕ) (new : List ℕ) : Type 0 where
  pub held : IsHeld peers ts m'
  pub like : IsLikeMachine machine held.machine
  pub bytes : (region_of held.machine (sender_region j)).bytes ≡ new
  pub channels : m'.channels ≡ m.channels
  pub carried : m'.world.carried ≡ m.world.carried

module _ (follow : EventsFollowByName) (peers : ℕ) (small : peers ≤ 8) (ts : List Turn) (m : Mail) (h : IsHeld peers ts m) (j : ℕ) (low : 1 ≤ j) (high : j ≤ peers) (home : is_away m.world j ≡ false) where
  pub store_held : (address offset : ℕ) (bytes : List ℕ) → address ≡ staging_address + offset → offset + length bytes ≤ place_bytes + most_bytes → All (λ b. b < 256) bytes →
      ((channel m j).slot_in_use ≡ true → (n : ℕ) → cut slot_offset n (put (region_of h.machine (sender_region j)).bytes offset bytes) ≡ cut slot_offset n (region_of h.machine (sender_region j)).bytes) →
      IsStoredAt peers ts h.machine m (storing m j address bytes) j (put (region_of h.machine (sender_region j)).bytes offset bytes)
  unfolding asking
  store_held address offset bytes e room said same =
      let machine : Machine = h.machine in
      let opened : IsOpened h.machine j = h.all.opened j low high in
      let is = opened.sender_region_is in
      let whole = is.whole in
      let fits : offset + length bytes ≤ length (region_of h.machine (sender_region j)).bytes = omega (arith, whole, room) in
      let at = region_offset (region_of h.machine (sender_region j)) staging_address (place_bytes + most_bytes) 5 (sender_key j) is address offset e in
      let context = context_there h.machine (sender_end j) opened.sender_there in
      let there = opened.sender_region_there in
      let live = subst (λ (c : Name). is_live m.world c ≡ true) (context_is j low) (lives m.world h.machine j h.stands (subst (λ (c : Name). has_context h.machine c ≡ true) (sym (context_is j low)) context) home) in
      let held' = region_holds (region_of h.machine (sender_region j)) staging_address (place_bytes + most_bytes) 5 (sender_key j) is address offset (length bytes) e fits in
      let stands = stores_stand m.world h.machine (sender_region j) address bytes h.stands live context there held'
      (asks follow m.world h.machine (events.Store (sender_region j) address bytes) (verbs.Store (sender_region j) address bytes) (store_verb (sender_region j) address bytes) (λ a. refl) said h.stands) in
      let seen = store_seen peers small h.machine j high opened address offset bytes e fits in
      let line : Line = record { sight = sight_of h.machine m.owed j; channel = channel m j; sent = sent_letters j ts; open' = placed_letters j ts } in
      let kept : IsKept j (owed_with m.owed (record (sight_of h.machine [] j) { stored = put (region_of h.machine (sender_region j)).bytes offset bytes })) (channel m j) (sent_letters j ts) (placed_letters j ts) =
      work_keeps j line _ (omega (arith, high, small)) (were_sent j ts) (Stores (put (region_of h.machine (sender_region j)).bytes offset bytes) same) (h.all.kept j low high) in
      record {
        held = record {
          machine = stored h.machine (sender_region j) address bytes;
          stands = stands;
          senders = h.senders;
          all = all_kept peers ts ts m (storing m j address bytes) h.machine (stored h.machine (sender_region j) address bytes) j _ h.all seen
              (λ i a b apart. same_itself (channel m i))
              (λ i a b apart. refl)
              (λ i a b apart. (refl, refl))
              kept
              (subst (λ (ds : List Due). AreOfSenders peers (m.owed ++ ds)) (sym seen.standing_same) h.all.dues);
        };
        like = stored_like h.machine (sender_region j) address bytes context there (omega (arith, at, fits));
        bytes = ap (λ (s : Sight). s.stored) seen.here;
        channels = refl;
        carried = stores_carry m.world h.machine (sender_region j) address bytes h.stands live context there held';
      }
