-- Bytes of a Read that land, as they are seen: they are put in the landing place.
use Rattle.std.proofs.Common.{arith, ◌≡◌, ℕ, ◌+◌, ◌-◌, ◌/◌, ◌%◌, ◌<◌, ◌≤◌, List, ◌++◌, length, drop, true, false, refl, sym, subst, ap, ◌∙◌, Some, None, Option, eqb-true, leb-true, ltb-true, length-take, length-drop}
use Rattle.std.specs.Prelude.{nat_le, nat_lt, not, slice_get, ◌&&◌, ◌==◌}
use Rattle.std.proofs.lemmas.Bool.{le-leb}
use Rattle.rdma_types.specs.declared.names.Name.{Name}
use Rattle.rdma_types.specs.declared.names.ObjName.{ObjName}
use Rattle.rdma_types.specs.declared.requests.Keys.{Keys}
use Rattle.rdma_types.specs.Limits.{most_bytes}
use Rattle.rdma_types.specs.Lists.{has_name, named}
use Rattle.rdma_types.specs.Memory.{cut, holds, local_key, put}
use Rattle.rdma_types.specs.Objects.{CompletionQueue, Posted, Region, no_queue, no_region}
use Rattle.rdma_types.proofs.Cuts.{length-put}
use Rattle.packetless_machine.specs.Machine.{Context, End, Machine, Offered, context_of, end_of, has_context, has_end, put_at, queue_of, regions_of, with_end, with_regions}
use Rattle.packetless_machine.specs.Steps.{bytes_of, front, has_untold, land_at, landed, may_land, may_land_offer, putting, with_known}
use Rattle.packetless_machine.specs.Verbs.{region_of}
use Rattle.packetless_machine.proofs.Views.{end_of-with_regions}
use Rattle.law_simulation.proofs.relation.Machines.{MachineChanged, context_here, context_name, context_other, part_same, there_same, with_context_changed}
use Rattle.mailbox_rules.specs.declared.due.Due.{Due}
use Rattle.mailbox_rules.specs.declared.letters.Letter.{Letter}
use Rattle.mailbox_rules.specs.Histories.{Placed}
use Rattle.mailbox_rules.specs.Opening.{landing_address, place_address, place_bytes, queue_name, receiver, receiver_end, receiver_key, receiver_region, sender, sender_end, sender_key, sender_region, staging_address}
use Rattle.mailbox_rules.specs.State.{Channel}
use Rattle.law_mailbox.specs.Kept.{IsJoined, IsKept, IsKeyedOnce, IsOpened, IsRegion, Sight, dues_of, landing_offset, long_letters, read_as, sight_of}
use Rattle.law_mailbox.specs.Moves.{ReadLands}
use Rattle.law_mailbox.specs.Seen.{IsSeen, Moved, Moves, Stays}
use Rattle.law_mailbox.proofs.work.Channels.{both}
use Rattle.law_mailbox.proofs.connection.Keyed.{put_by_key}
use Rattle.law_mailbox.proofs.connection.Offers.{IsReadOf, read_of}
use Rattle.law_mailbox.proofs.connection.Opens.{opened_as}
use Rattle.law_mailbox.proofs.connection.Places.{all_at}
use Rattle.law_mailbox.proofs.connection.Puts.{counted_put, names_put}
use Rattle.law_mailbox.proofs.connection.Quiet.{end_name}
use Rattle.law_mailbox.proofs.connection.Sights.{context_there, end_is_changed, region_same, sees_receiver}
use Rattle.law_mailbox.proofs.connection.Tells.{not_true}

-- ---- what lands

-- an offer is the one that comes next for the first untold request
pub record IsNext (e : End) (k : ℕ) : Type 0 where
  pub offer : Offered
  pub at : slice_get e.offers k ≡ Some offer
  pub some : 1 ≤ length offer.bytes
  pub request : offer.request ≡ e.told
  pub offset : offer.offset ≡ e.known
  pub live : e.ended ≡ false
  pub untold : e.told < length e.posted

pub next_lands : (m : Machine) (q : ObjName) (k : ℕ) → may_land m q k ≡ true → IsNext (end_of m q) k
unfolding may_land has_untold may_land_offer
next_lands m q k may =
    let e : End = end_of m q in
    let a = both (e.connected && (not e.ended && nat_lt e.told (length e.posted))) (may_land_offer e (slice_get e.offers k)) may in
    let b = both e.connected (not e.ended && nat_lt e.told (length e.posted)) a.0 in
    let d = both (not e.ended) (nat_lt e.told (length e.posted)) b.1 in
    by (slice_get e.offers k) refl a.1 (not_true e.ended d.0) (ltb-true e.told (length e.posted) d.1)
  where
    by : (o : Option Offered) → slice_get (end_of m q).offers k ≡ o → may_land_offer (end_of m q) o ≡ true → (end_of m q).ended ≡ false → (end_of m q).told < length (end_of m q).posted → IsNext (end_of m q) k
    by None at is live untold = cc
    by (Some o) at is live untold =
        let e : End = end_of m q in
        let a = both (nat_le 1 (length o.bytes)) ((o.request == e.told) && (o.offset == e.known)) is in
        let b = both (o.request == e.told) (o.offset == e.known) a.1 in
        record { offer = o; at = at; some = leb-true 1 (length o.bytes) a.0; request = eqb-true o.request e.told b.0; offset = eqb-true o.offset e.known b.1; live = live; untold = untold }

-- a piece that is not empty lies within
piece_within : (a : ℕ) (bytes xs : List ℕ) → bytes ≡ cut a (length bytes) xs → 1 ≤ length bytes → a + length bytes ≤ length xs
unfolding cut
piece_within a bytes xs is some = let long = ap length is in let n = length-take (length bytes) (drop a xs) in let k = length-drop a xs in omega (arith, long, n, k, some)

-- ---- other regions in the receiver's context

module _ (m : Machine) (rs : List Region) (context : has_context m receiver ≡ true) where
  changed : MachineChanged m (with_regions m receiver rs) receiver (record (context_of m receiver) { regions = rs })
  unfolding with_regions
  changed = with_context_changed m receiver (record (context_of m receiver) { regions = rs }) (context_name m receiver) context

  regions_here : regions_of (with_regions m receiver rs) receiver ≡ rs
  regions_here = ap (λ (x : Context). x.regions) (context_here m (with_regions m receiver rs) receiver (record (context_of m receiver) { regions = rs }) changed)

  regions_elsewhere : (i : ℕ) → regions_of (with_regions m receiver rs) (sender i) ≡ regions_of m (sender i)
  regions_elsewhere i = ap (λ (x : Context). x.regions) (context_other m (with_regions m receiver rs) receiver (record (context_of m receiver) { regions = rs }) changed (sender i) (λ e. cc))

  region_here : (i : ℕ) → region_of (with_regions m receiver rs) (receiver_region i) ≡ named (λ r. r.name) no_region (receiver_region i).name rs
  unfolding region_of
  region_here i = ap (λ (x : List Region). named (λ r. r.name) no_region (receiver_region i).name x) regions_here

  queues_stay : (c : Name) → (context_of (with_regions m receiver rs) c).queues ≡ (context_of m c).queues
  queues_stay c = part_same m (with_regions m receiver rs) receiver (record (context_of m receiver) { regions = rs }) changed (λ x. x.queues) c refl

  queue_stays : (c q : Name) → queue_of (with_regions m receiver rs) c q ≡ queue_of m c q
  unfolding queue_of
  queue_stays c q = ap (named (λ x. x.name) no_queue q) (queues_stay c)

  there_stays : (q : ObjName) → has_end (with_regions m receiver rs) q ≡ has_end m q
  there_stays q = there_same m (with_regions m receiver rs) receiver (record (context_of m receiver) { regions = rs }) changed q (λ n. refl)

  pub sees_regions : (owed : List Due) (i : ℕ) → sight_of (with_regions m receiver rs) owed i ≡ record (sight_of m owed i) { landed = (named (λ r. r.name) no_region (receiver_region i).name rs).bytes }
  sees_regions owed i = λ k. record {
    sender = end_of-with_regions m receiver rs (sender_end i) k;
    receiver = end_of-with_regions m receiver rs (receiver_end i) k;
    stored = (region_same m (with_regions m receiver rs) (sender_region i) (regions_elsewhere i) k).bytes;
    landed = (region_here i k).bytes;
    dues = owed ++ (dues_of 0 (queue_stays receiver queue_name k).entries ++ dues_of i (queue_stays (sender i) queue_name k).entries);
  }

  pub opened_regions : (i : ℕ) → IsOpened m i → has_name (λ r. r.name) (receiver_region i).name rs ≡ true → IsRegion (named (λ r. r.name) no_region (receiver_region i).name rs) (place_address i 0) (landing_offset + most_bytes) 1 (receiver_key i) →
      IsKeyedOnce rs (receiver_key i) → IsOpened (with_regions m receiver rs) i
  opened_regions i x there region keyed = record {
    sender_there = there_stays (sender_end i) ∙ x.sender_there;
    receiver_there = there_stays (receiver_end i) ∙ x.receiver_there;
    sender_joined = subst (λ (e : End). IsJoined e (receiver_end i)) (sym (end_of-with_regions m receiver rs (sender_end i))) x.sender_joined;
    receiver_joined = subst (λ (e : End). IsJoined e (sender_end i)) (sym (end_of-with_regions m receiver rs (receiver_end i))) x.receiver_joined;
    sender_queue = ap (λ (qs : List CompletionQueue). has_name (λ z. z.name) queue_name qs) (queues_stay (sender i)) ∙ x.sender_queue;
    receiver_queue = ap (λ (qs : List CompletionQueue). has_name (λ z. z.name) queue_name qs) (queues_stay receiver) ∙ x.receiver_queue;
    sender_region_there = ap (λ (zs : List Region). has_name (λ z. z.name) (sender_region i).name zs) (regions_elsewhere i) ∙ x.sender_region_there;
    receiver_region_there = ap (λ (zs : List Region). has_name (λ z. z.name) (receiver_region i).name zs) regions_here ∙ there;
    sender_region_is = subst (λ (r : Region). IsRegion r staging_address (place_bytes + most_bytes) 5 (sender_key i)) (sym (region_same m (with_regions m receiver rs) (sender_region i) (regions_elsewhere i))) x.sender_region_is;
    receiver_region_is = subst (λ (r : Region). IsRegion r (place_address i 0) (landing_offset + most_bytes) 1 (receiver_key i)) (sym (region_here i)) region;
    sender_keyed = subst (λ (zs : List Region). IsKeyedOnce zs (sender_key i)) (sym (regions_elsewhere i)) x.sender_keyed;
    receiver_keyed = subst (λ (zs : List Region). IsKeyedOnce zs (receiver_key i)) (sym regions_here) keyed;
  }

-- ---- bytes are put in the receiver's region

put_region : (r : Region) (base size rights key a : ℕ) (new : List ℕ) → IsRegion r base size rights key → a + length new ≤ size → IsRegion (record r { bytes = put r.bytes a new }) base size rights key
put_region r base size rights key a new is within =
    let whole = is.whole in
    record { domain = is.domain; begins = is.begins; long = is.long; whole = length-put r.bytes a new (omega (arith, within, whole)) ∙ is.whole; granted = is.granted; keyed = is.keyed }

pub put_keyed : (rs : List Region) (key other address : ℕ) (new : List ℕ) → IsKeyedOnce rs key → IsKeyedOnce (put_at local_key other address new rs) key
put_keyed rs key other address new is =
    let l = counted_put local_key other address new (λ r. r.keys.local == key) (λ r bytes. refl) rs in
    let g = counted_put local_key other address new (λ r. r.keys.remote == key + 1) (λ r bytes. refl) rs in
    let local = is.local_once in
    let remote = is.remote_once in
    record { local_once = omega (arith, l, local); remote_once = omega (arith, g, remote) }

module _ (m : Machine) (i : ℕ) (opened : IsOpened m i) (known : ℕ) (new : List ℕ) (within : known + length new ≤ most_bytes) where
  abbrev pub landed_regions : List Region
  landed_regions = put_at local_key (receiver_key i) (landing_address i + known) new (regions_of m receiver)

  landing_holds : holds (region_of m (receiver_region i)) (landing_address i + known) (length new) ≡ true
  unfolding holds
  landing_holds =
      let r : Region = region_of m (receiver_region i) in
      let begins = opened.receiver_region_is.begins in
      let long = opened.receiver_region_is.long in
      let low : nat_le r.base (landing_address i + known) ≡ true = le-leb r.base (landing_address i + known) (omega (arith, begins)) in
      let high : nat_le (landing_address i + known + length new) (r.base + r.length) ≡ true = le-leb (landing_address i + known + length new) (r.base + r.length) (omega (arith, begins, long, within)) in
      rw (low, high) refl

  pub region_landed : named (λ r. r.name) no_region (receiver_region i).name landed_regions ≡ record (region_of m (receiver_region i)) { bytes = put (region_of m (receiver_region i)).bytes (landing_offset + known) new }
  unfolding region_of
  region_landed =
      let r : Region = region_of m (receiver_region i) in
      let begins = opened.receiver_region_is.begins in
      let place : landing_address i + known - r.base ≡ landing_offset + known = omega (arith, begins) in
      put_by_key local_key (receiver_key i) (receiver_region i).name (landing_address i + known) new (regions_of m receiver) opened.receiver_region_there (ap (λ (k : Keys). k.local) opened.receiver_region_is.keyed) opened.receiver_keyed.local_once landing_holds
      ∙ ap (λ (a : ℕ). record r { bytes = put r.bytes a new }) place

  pub opened_landed : IsOpened (with_regions m receiver landed_regions) i
  opened_landed =
      opened_regions m landed_regions (context_there m (receiver_end i) opened.receiver_there) i opened
      (names_put local_key (receiver_key i) (landing_address i + known) new (receiver_region i).name (regions_of m receiver) ∙ opened.receiver_region_there)
      (subst (λ (r : Region). IsRegion r (place_address i 0) (landing_offset + most_bytes) 1 (receiver_key i)) (sym region_landed)
      (put_region (region_of m (receiver_region i)) (place_address i 0) (landing_offset + most_bytes) 1 (receiver_key i) (landing_offset + known) new opened.receiver_region_is (omega (arith, within))))
      (put_keyed (regions_of m receiver) (receiver_key i) (receiver_key i) (landing_address i + known) new opened.receiver_keyed)

-- ---- as it is seen

module _ (m : Machine) (owed : List Due) (i : ℕ) (opened : IsOpened m i) (new : List ℕ) (within : (end_of m (receiver_end i)).known + length new ≤ most_bytes) where
  abbrev pub put_there : Machine
  put_there = with_regions m receiver (landed_regions m i opened (end_of m (receiver_end i)).known new within)

  abbrev pub end_then : End
  end_then = with_known (end_of put_there (receiver_end i)) ((end_of m (receiver_end i)).known + length new)

  pub landed_is : (l : Letter) → front (end_of m (receiver_end i)) ≡ read_as i l → land_at m (receiver_end i) (end_of m (receiver_end i)) new ≡ with_end put_there (receiver_end i) end_then
  unfolding land_at
  landed_is l is =
      ap (λ (p : Posted). with_end (putting m receiver local_key p.request.lkey (p.request.local + (end_of m (receiver_end i)).known) new) (receiver_end i)
      (with_known (end_of (putting m receiver local_key p.request.lkey (p.request.local + (end_of m (receiver_end i)).known) new) (receiver_end i)) ((end_of m (receiver_end i)).known + length new))) is

  pub still_opened : IsOpened (with_end put_there (receiver_end i) end_then) i
  unfolding with_known
  still_opened =
      let still = opened_landed m i opened (end_of m (receiver_end i)).known new within in
      opened_as put_there (receiver_end i) end_then still.receiver_there (end_name put_there (receiver_end i)) refl (record { connected = refl; peer = refl; domain = refl; send_queue = refl; receive_queue = refl; send_depth = refl; receive_depth = refl }) i still

  pub landed_sight : sight_of (with_end put_there (receiver_end i) end_then) owed i ≡
      record (sight_of m owed i) {
        receiver = record (end_of m (receiver_end i)) { known = (end_of m (receiver_end i)).known + length new; spent = 0; waits = 0 };
        landed = put (region_of m (receiver_region i)).bytes (landing_offset + (end_of m (receiver_end i)).known) new;
      }
  unfolding with_known
  landed_sight =
      let still = opened_landed m i opened (end_of m (receiver_end i)).known new within in
      let first = sees_receiver put_there (with_end put_there (receiver_end i) end_then) owed i end_then (end_is_changed put_there (receiver_end i) end_then still.receiver_there (end_name put_there (receiver_end i)) refl) in
      let regions = sees_regions m (landed_regions m i opened (end_of m (receiver_end i)).known new within) (context_there m (receiver_end i) opened.receiver_there) owed i in
      let region = region_landed m i opened (end_of m (receiver_end i)).known new within in
      let same = end_of-with_regions m receiver (landed_regions m i opened (end_of m (receiver_end i)).known new within) (receiver_end i) in
      first
      ∙ (λ k. record (regions k) { receiver = record (same k) { known = (end_of m (receiver_end i)).known + length new; spent = 0; waits = 0 } })
      ∙ (λ k. record (sight_of m owed i) { receiver = record (end_of m (receiver_end i)) { known = (end_of m (receiver_end i)).known + length new; spent = 0; waits = 0 }; landed = (region k).bytes })

module _ (m : Machine) (owed : List Due) (i : ℕ) (opened : IsOpened m i) (c : Channel) (sent : List Letter) (open' : List Placed) (h : IsKept i (sight_of m owed i) c sent open') (k : ℕ) where
  -- what lands is a piece of the body
  pub lands_within : (next : IsNext (end_of m (receiver_end i)) k) (l : Letter) → slice_get (long_letters sent) ((end_of m (receiver_end i)).told / 2) ≡ Some l → length l.body ≤ most_bytes → (end_of m (receiver_end i)).known + length next.offer.bytes ≤ most_bytes
  lands_within next l at fits =
      let o : Offered = next.offer in
      let e : End = end_of m (receiver_end i) in
      let request = next.request in
      let offset = next.offset in
      let piece : o.bytes ≡ cut o.offset (length o.bytes) l.body =
      all_at (λ p. e.told ≤ p.request → (l : Letter) → slice_get (long_letters sent) (p.request / 2) ≡ Some l → p.bytes ≡ cut p.offset (length p.bytes) l.body) e.offers k o h.offers.offers_true next.at (omega (arith, request)) l
      (ap (λ (n : ℕ). slice_get (long_letters sent) (n / 2)) next.request ∙ at) in
      let inside = piece_within o.offset o.bytes l.body piece next.some in
      omega (arith, inside, fits, offset)

  lands_seen : (next : IsNext (end_of m (receiver_end i)) k) → IsReadOf i (end_of m (receiver_end i)).posted sent (end_of m (receiver_end i)).told → IsSeen i owed m (land_at m (receiver_end i) (end_of m (receiver_end i)) next.offer.bytes)
  lands_seen next read =
      let within = lands_within next read.letter read.at read.fits in
      let whole = opened.receiver_region_is.whole in
      subst (λ (x : Machine). IsSeen i owed m x) (sym (landed_is m owed i opened next.offer.bytes within read.letter read.is)) record {
        moves = subst (λ (s : Sight). Moves i (sight_of m owed i) s) (sym (landed_sight m owed i opened next.offer.bytes within)) (Moved Stays (ReadLands k next.offer next.live next.untold next.at next.request next.offset (omega (arith, whole, within))));
        opened = still_opened m owed i opened next.offer.bytes within;
      }

  -- it is the first untold request, which is a Read
  pub next_read : (next : IsNext (end_of m (receiver_end i)) k) → IsReadOf i (end_of m (receiver_end i)).posted sent (end_of m (receiver_end i)).told
  next_read next =
      let e : End = end_of m (receiver_end i) in
      let acted : (next.offer.request < e.acted) × (next.offer.request % 2 ≡ 0) = all_at (λ p. (p.request < e.acted) × (p.request % 2 ≡ 0)) e.offers k next.offer h.offers.offers_acted next.at in
      read_of i e.posted sent e.told h.letters h.queue next.untold (ap (λ (n : ℕ). n % 2) (sym next.request) ∙ acted.1)

  pub receiver_lands : may_land m (receiver_end i) k ≡ true → IsSeen i owed m (landed m (receiver_end i) k)
  unfolding landed bytes_of
  receiver_lands may =
      let next = next_lands m (receiver_end i) k may in
      subst (λ (o : Option Offered). IsSeen i owed m (land_at m (receiver_end i) (end_of m (receiver_end i)) (bytes_of o))) (sym next.at) (lands_seen next (next_read next))
