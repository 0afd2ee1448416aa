-- Bytes that land for another connection, and requests that are told there, as they are seen.
use Rattle.std.proofs.Common.{arith, ◌≡◌, ◌≢◌, ℕ, ◌+◌, ◌%◌, ◌<◌, ◌≤◌, List, [], ◌++◌, length, true, refl, sym, subst, ap, ◌∙◌, Option, ltb-true, ne_eqb, ◌⊎◌, inl, inr}
use Rattle.std.specs.Prelude.{nat_lt, not, ◌&&◌, ◌||◌, ◌==◌}
use Rattle.rdma_types.specs.declared.names.ObjName.{ObjName}
use Rattle.rdma_types.specs.declared.requests.Completion.{Completion}
use Rattle.rdma_types.specs.declared.requests.Keys.{Keys}
use Rattle.rdma_types.specs.Kinds.{is_read, kind_of, request_done, size_of}
use Rattle.rdma_types.specs.Limits.{most_bytes}
use Rattle.rdma_types.specs.Lists.{named}
use Rattle.rdma_types.specs.Memory.{local_key}
use Rattle.rdma_types.specs.Objects.{Posted, Region, no_region}
use Rattle.packetless_machine.specs.Machine.{End, Machine, Offered, end_of, put_at, queue_of, regions_of, with_end, with_regions}
use Rattle.packetless_machine.specs.Steps.{bytes_of, front, has_untold, land_at, landed, may_land, may_tell, success, tell, told_one, with_known}
use Rattle.packetless_machine.specs.Verbs.{region_of}
use Rattle.mailbox_rules.specs.declared.due.Due.{Due}
use Rattle.mailbox_rules.specs.declared.letters.Letter.{Letter}
use Rattle.mailbox_rules.specs.Histories.{Placed}
use Rattle.mailbox_rules.specs.Opening.{connection_of, landing_address, place_address, queue_name, receiver, receiver_end, receiver_key, receiver_region, sender, sender_end}
use Rattle.mailbox_rules.specs.State.{Channel}
use Rattle.law_mailbox.specs.Kept.{IsKept, IsOpened, IsRegion, Sight, bodies, copies, dues_of, fetches, frees, freed_as, landing_offset, read_as, reposts, sight_of, slots}
use Rattle.law_mailbox.specs.Moves.{Gains, OthersGain}
use Rattle.law_mailbox.specs.Seen.{IsSeen, Moved, Moves, Stays}
use Rattle.law_mailbox.proofs.work.Channels.{both}
use Rattle.law_mailbox.proofs.queue_room.Gaining.{gains_between}
use Rattle.law_mailbox.proofs.connection.Lands.{IsNext, landed_is, lands_within, next_lands, next_read, opened_landed, opened_regions, put_keyed, put_there, sees_regions}
use Rattle.law_mailbox.proofs.connection.Longer.{opened_longer, sees_longer, sees_more}
use Rattle.law_mailbox.proofs.connection.Offers.{IsReadOf, read_of}
use Rattle.law_mailbox.proofs.connection.Opens.{IsAlike}
use Rattle.law_mailbox.proofs.connection.Others.{elsewhere, one_other}
use Rattle.law_mailbox.proofs.connection.Puts.{names_put, others_put}
use Rattle.law_mailbox.proofs.connection.Quiet.{is_odd_freed, parity}
use Rattle.law_mailbox.proofs.connection.Seen.{seen_then}
use Rattle.law_mailbox.proofs.connection.Sights.{context_there}
use Rattle.law_mailbox.proofs.connection.Tells.{freed_there, queue_named, receiver_opened, receiver_told, sender_opened, sender_told, told_there}

-- ---- ends that know more, or have told a request

known_name : (e : End) (known : ℕ) → (with_known e known).name ≡ e.name
unfolding with_known
known_name e known = refl

known_alike : (e : End) (known : ℕ) → IsAlike (with_known e known) e
unfolding with_known
known_alike e known = record { connected = refl; peer = refl; domain = refl; send_queue = refl; receive_queue = refl; send_depth = refl; receive_depth = refl }

pub told_name : (e : End) → (told_one e).name ≡ e.name
unfolding told_one
told_name e = refl

told_alike : (e : End) → IsAlike (told_one e) e
unfolding told_one
told_alike e = record { connected = refl; peer = refl; domain = refl; send_queue = refl; receive_queue = refl; send_depth = refl; receive_depth = refl }

told_posted : (m : Machine) (q : ObjName) → may_tell m q ≡ true → (end_of m q).told < length (end_of m q).posted
unfolding may_tell has_untold
told_posted m q may =
    let e : End = end_of m q in
    let a = both (e.connected && (not e.ended && nat_lt e.told (length e.posted))) (nat_lt e.told e.acted && (not (is_read (kind_of (front e))) || (e.known == size_of (front e)))) may in
    let b = both e.connected (not e.ended && nat_lt e.told (length e.posted)) a.0 in
    let d = both (not e.ended) (nat_lt e.told (length e.posted)) b.1 in
    ltb-true e.told (length e.posted) d.1

-- ---- what is due elsewhere

-- none of it is due on connection i
pub record IsNoneDue (i : ℕ) (ds : List Due) : Type 0 where
  pub copied : copies i ds ≡ []
  pub bodied : bodies i ds ≡ []
  pub slotted : slots i ds ≡ []
  pub reposted : reposts i ds ≡ []
  pub fetched : fetches i ds ≡ []
  pub freed : frees i ds ≡ []

-- a Read that is told makes a body due where its end is
read_elsewhere : (i j : ℕ) (e : End) (l : Letter) → connection_of e.number ≢ i → IsNoneDue i (dues_of 0 (success e (read_as j l)))
unfolding success request_done
read_elsewhere i j e l other = record { copied = refl; bodied = rw (ne_eqb (connection_of e.number) i other) refl; slotted = refl; reposted = refl; fetched = refl; freed = refl }

freed_elsewhere : (i : ℕ) (e : End) → IsNoneDue i (dues_of 0 (success e freed_as))
unfolding success request_done
freed_elsewhere i e = record { copied = refl; bodied = refl; slotted = refl; reposted = refl; fetched = refl; freed = refl }

-- ---- bytes are put into the receiver's region of connection j

module _ (m : Machine) (owed : List Due) (i j : ℕ) (apart : sender i ≢ sender j) (other : i ≢ j) (x : IsOpened m i) (y : IsOpened m j) where
  -- the region of connection i has another key
  other_region : (address : ℕ) (new : List ℕ) → named (λ r. r.name) no_region (receiver_region i).name (put_at local_key (receiver_key j) address new (regions_of m receiver)) ≡ region_of m (receiver_region i)
  unfolding region_of
  other_region address new =
      others_put local_key (receiver_key j) address new (receiver_region i).name (regions_of m receiver)
      (λ e. let keys : receiver_key i ≡ receiver_key j = ap (λ (k : Keys). k.local) (sym x.receiver_region_is.keyed) ∙ e in other (omega (arith, keys)))

  other_put : (address : ℕ) (new : List ℕ) → IsSeen i owed m (with_regions m receiver (put_at local_key (receiver_key j) address new (regions_of m receiver)))
  other_put address new =
      let rs : List Region = put_at local_key (receiver_key j) address new (regions_of m receiver) in
      let context = context_there m (receiver_end i) x.receiver_there in
      let same : sight_of (with_regions m receiver rs) owed i ≡ sight_of m owed i =
      sees_regions m rs context owed i ∙ ap (λ (r : Region). record (sight_of m owed i) { landed = r.bytes }) (other_region address new) in
      record {
        moves = subst (λ (s : Sight). Moves i (sight_of m owed i) s) (sym same) Stays;
        opened = opened_regions m rs context i x (names_put local_key (receiver_key j) address new (receiver_region i).name (regions_of m receiver) ∙ x.receiver_region_there)
            (subst (λ (r : Region). IsRegion r (place_address i 0) (landing_offset + most_bytes) 1 (receiver_key i)) (sym (other_region address new)) x.receiver_region_is)
            (put_keyed (regions_of m receiver) (receiver_key i) (receiver_key j) address new x.receiver_keyed);
      }

  module _ (c : Channel) (sent : List Letter) (open' : List Placed) (h : IsKept j (sight_of m owed j) c sent open') where
    -- ---- bytes land there

    other_lands_as : (k : ℕ) (next : IsNext (end_of m (receiver_end j)) k) → IsReadOf j (end_of m (receiver_end j)).posted sent (end_of m (receiver_end j)).told → IsSeen i owed m (land_at m (receiver_end j) (end_of m (receiver_end j)) next.offer.bytes)
    other_lands_as k next read =
        let new : List ℕ = next.offer.bytes in
        let within = lands_within m owed j y c sent open' h k next read.letter read.at read.fits in
        let there : Machine = put_there m owed j y new within in
        let first = other_put (landing_address j + (end_of m (receiver_end j)).known) new in
        let still = opened_landed m j y (end_of m (receiver_end j)).known new within in
        let e : End = end_of there (receiver_end j) in
        let known : ℕ = (end_of m (receiver_end j)).known + length new in
        subst (λ (z : Machine). IsSeen i owed m z) (sym (landed_is m owed j y new within read.letter read.is))
        (seen_then i owed m there (with_end there (receiver_end j) (with_known e known)) first
        (one_other there owed i first.opened (receiver_end j) (elsewhere there i j apart still (receiver_end j) (inr refl)) (with_known e known) (known_name e known) (known_alike e known)))

    pub other_lands : (k : ℕ) → may_land m (receiver_end j) k ≡ true → IsSeen i owed m (landed m (receiver_end j) k)
    unfolding landed bytes_of
    other_lands k may =
        let next = next_lands m (receiver_end j) k may in
        subst (λ (o : Option Offered). IsSeen i owed m (land_at m (receiver_end j) (end_of m (receiver_end j)) (bytes_of o))) (sym next.at) (other_lands_as k next (next_read m owed j y c sent open' h k next))

    -- ---- a request is told there

    module _ (positive : 1 ≤ i) (positive' : 1 ≤ j) where
      abbrev sender_then : Machine
      sender_then = told_there m owed j positive' y c sent open' h

      sender_completes : IsSeen i owed m sender_then
      sender_completes =
          let more : List Completion = success (end_of m (sender_end j)) (front (end_of m (sender_end j))) in
          let context = context_there m (sender_end j) y.sender_there in
          let named = queue_named m (sender j) y.sender_queue in
          record {
            moves = subst (λ (s : Sight). Moves i (sight_of m owed i) s) (sym (sees_longer m owed i (sender j) more context y.sender_queue named (λ e. cc) (λ e. absurd (apart e)))) Stays;
            opened = opened_longer m (sender j) queue_name more context y.sender_queue named i x;
          }

      pub other_sender_tells : IsSeen i owed m (tell m (sender_end j))
      other_sender_tells =
          let first = sender_completes in
          let e : End = end_of sender_then (sender_end j) in
          subst (λ (z : Machine). IsSeen i owed m z) (sym (sender_told m owed j positive' y c sent open' h))
          (seen_then i owed m sender_then (with_end sender_then (sender_end j) (told_one e)) first
          (one_other sender_then owed i first.opened (sender_end j) (elsewhere sender_then i j apart (sender_opened m owed j positive' y c sent open' h) (sender_end j) (inl refl)) (told_one e) (told_name e) (told_alike e)))

      -- what its completion makes due is due on connection j
      none_due : ((end_of m (receiver_end j)).told % 2 ≡ 0) ⊎ ((end_of m (receiver_end j)).told % 2 ≡ 1) → (end_of m (receiver_end j)).told < length (end_of m (receiver_end j)).posted →
          IsNoneDue i (dues_of 0 (success (end_of m (receiver_end j)) (front (end_of m (receiver_end j)))))
      none_due (inl even) untold =
          let e : End = end_of m (receiver_end j) in
          let read = read_of j e.posted sent e.told h.letters h.queue untold even in
          subst (λ (p : Posted). IsNoneDue i (dues_of 0 (success e p))) (sym read.is) (read_elsewhere i j e read.letter (λ g. other (sym g ∙ h.number)))
      none_due (inr odd) untold =
          let e : End = end_of m (receiver_end j) in
          subst (λ (p : Posted). IsNoneDue i (dues_of 0 (success e p))) (sym (is_odd_freed j e.posted sent e.told h.queue untold odd)) (freed_elsewhere i e)

      abbrev receiver_then : Machine
      receiver_then = freed_there m owed j positive' y c sent open' h

      receiver_completes : (end_of m (receiver_end j)).told < length (end_of m (receiver_end j)).posted → IsSeen i owed m receiver_then
      receiver_completes untold =
          let e : End = end_of m (receiver_end j) in
          let context = context_there m (receiver_end j) y.receiver_there in
          let named = queue_named m receiver y.receiver_queue in
          let none = none_due (parity e.told) untold in
          let dues : List Due = owed ++ ((dues_of 0 (queue_of m receiver queue_name).entries ++ dues_of 0 (success e (front e))) ++ dues_of i (queue_of m (sender i) queue_name).entries) in
          let gains : Gains i (sight_of m owed i).dues dues [] [] [] =
          gains_between i owed (dues_of 0 (queue_of m receiver queue_name).entries) (queue_of m (sender i) queue_name).entries (dues_of 0 (success e (front e))) [] [] positive none.copied none.bodied none.slotted none.reposted none.fetched none.freed in
          record {
            moves = subst (λ (s : Sight). Moves i (sight_of m owed i) s) (sym (sees_more m owed i (success e (front e)) context y.receiver_queue named (λ g. cc))) (Moved Stays (OthersGain dues gains));
            opened = opened_longer m receiver queue_name (success e (front e)) context y.receiver_queue named i x;
          }

      pub other_receiver_tells : may_tell m (receiver_end j) ≡ true → IsSeen i owed m (tell m (receiver_end j))
      other_receiver_tells may =
          let first = receiver_completes (told_posted m (receiver_end j) may) in
          let e : End = end_of receiver_then (receiver_end j) in
          subst (λ (z : Machine). IsSeen i owed m z) (sym (receiver_told m owed j positive' y c sent open' h))
          (seen_then i owed m receiver_then (with_end receiver_then (receiver_end j) (told_one e)) first
          (one_other receiver_then owed i first.opened (receiver_end j) (elsewhere receiver_then i j apart (receiver_opened m owed j positive' y c sent open' h) (receiver_end j) (inr refl)) (told_one e) (told_name e) (told_alike e)))
