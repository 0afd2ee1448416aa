-- Bytes of a Read that are offered, as they are seen: they are those of the slot.
use Rattle.std.proofs.Common.{arith, ◌≡◌, ℕ, ◌+◌, ◌-◌, ◌/◌, ◌%◌, ◌<◌, ◌≤◌, List, [], ◌∷◌, ◌++◌, length, get_or, true, false, refl, sym, subst, ap, ◌∙◌, Some, leb-true, ltb-true, ◌⊎◌, inl, inr}
use Rattle.std.specs.Prelude.{All, count_by, nat_le, nat_lt, not, slice_get, ◌&&◌, ◌==◌}
use Rattle.std.proofs.lemmas.Bool.{le-leb}
use Rattle.std.proofs.lemmas.Option.{slice_get-get_or}
use Rattle.rdma_types.specs.declared.names.ObjName.{ObjName}
use Rattle.rdma_types.specs.declared.requests.Keys.{Keys}
use Rattle.rdma_types.specs.Kinds.{is_read, kind_of, size_of}
use Rattle.rdma_types.specs.Limits.{most_bytes}
use Rattle.rdma_types.specs.Memory.{RemoteRead, cut, holds, remote_key}
use Rattle.rdma_types.specs.Objects.{Posted, Region}
use Rattle.rdma_types.proofs.Cuts.{length-cut}
use Rattle.packetless_machine.specs.Machine.{End, Machine, bytes_at, end_of, posted_at, regions_of}
use Rattle.packetless_machine.specs.Steps.{bytes_there, has_peer, is_granted_there, is_read_part, may_offer, offered, with_offer}
use Rattle.packetless_machine.specs.Verbs.{region_of}
use Rattle.mailbox_rules.specs.declared.due.Due.{Due}
use Rattle.mailbox_rules.specs.declared.letters.Letter.{Letter}
use Rattle.mailbox_rules.specs.Histories.{Placed}
use Rattle.mailbox_rules.specs.Opening.{place_bytes, receiver_end, region_name, sender, sender_key, sender_region, sender_remote_key, slot_address, staging_address}
use Rattle.mailbox_rules.specs.State.{Channel}
use Rattle.law_mailbox.specs.Headers.{IsLetter}
use Rattle.law_mailbox.specs.Kept.{IsKept, IsOpened, IsQueueOfReceiver, IsRegion, freed_as, long_letters, read_as, sight_of, slot_offset}
use Rattle.law_mailbox.specs.Moves.{ReadOffers}
use Rattle.law_mailbox.specs.Seen.{IsSeen}
use Rattle.law_mailbox.proofs.work.Channels.{both}
use Rattle.law_mailbox.proofs.connection.Keyed.{bytes_by_key}
use Rattle.law_mailbox.proofs.connection.Places.{all_at}
use Rattle.law_mailbox.proofs.connection.Quiet.{is_odd_freed, parity, posted_few, receiver_seen}
use Rattle.law_mailbox.proofs.connection.Requests.{IsLong, long_from, read_at}

-- ---- a Read of the receiver's end

-- request k reads the body of this letter
pub record IsReadOf (i : ℕ) (posted : List Posted) (sent : List Letter) (k : ℕ) : Type 0 where
  pub letter : Letter
  pub at : slice_get (long_letters sent) (k / 2) ≡ Some letter
  pub is : posted_at posted k ≡ read_as i letter
  pub fits : length letter.body ≤ most_bytes

pub read_of : (i : ℕ) (posted : List Posted) (sent : List Letter) (k : ℕ) → All IsLetter sent → IsQueueOfReceiver i posted sent → k < length posted → k % 2 ≡ 0 → IsReadOf i posted sent k
read_of i posted sent k letters queue below even =
    let few = posted_few i posted sent queue in
    let at : slice_get (long_letters sent) (k / 2) ≡ Some (get_or (long_letters sent) (k / 2) (record { tag = 0; body = [] })) = slice_get-get_or (long_letters sent) (k / 2) (record { tag = 0; body = [] }) (omega (arith, few, below)) in
    let long : IsLong sent (k / 2) (get_or (long_letters sent) (k / 2) (record { tag = 0; body = [] })) = long_from sent (k / 2) (get_or (long_letters sent) (k / 2) (record { tag = 0; body = [] })) at in
    record {
      letter = get_or (long_letters sent) (k / 2) (record { tag = 0; body = [] });
      at = at;
      is = read_at i posted sent k (get_or (long_letters sent) (k / 2) (record { tag = 0; body = [] })) queue below even at;
      fits = (all_at IsLetter sent long.place (get_or (long_letters sent) (k / 2) (record { tag = 0; body = [] })) letters long.at).body_fits;
    }

-- a request that is a Read has an even number
pub even_request : (i : ℕ) (posted : List Posted) (sent : List Letter) (k : ℕ) → IsQueueOfReceiver i posted sent → k < length posted → is_read (kind_of (posted_at posted k)) ≡ true → (k % 2 ≡ 0) ⊎ (k % 2 ≡ 1) → k % 2 ≡ 0
even_request i posted sent k queue below reads (inl even) = even
even_request i posted sent k queue below reads (inr odd) =
    let freed : posted_at posted k ≡ freed_as = is_odd_freed i posted sent k queue below odd in
    let no_read : false ≡ true = ap (λ (p : Posted). is_read (kind_of p)) (sym freed) ∙ reads in
    cc

-- ---- what is offered

-- n bytes from `off` on of request k are a part of a Read that acted
pub record IsPart (e : End) (k off n : ℕ) : Type 0 where
  pub acted : k < e.acted
  pub posted : k < length e.posted
  pub reads : is_read (kind_of (posted_at e.posted k)) ≡ true
  pub within : off + n ≤ size_of (posted_at e.posted k)

pub part_offered : (m : Machine) (q : ObjName) (k off n : ℕ) → may_offer m q k off n ≡ true → IsPart (end_of m q) k off n
unfolding may_offer is_read_part
part_offered m q k off n may =
    let e : End = end_of m q in
    let a = both (has_peer m q)
    ((nat_lt k e.acted && (nat_lt k (length e.posted) && (is_read (kind_of (posted_at e.posted k)) && nat_le (off + n) (size_of (posted_at e.posted k)))))
    && (not (end_of m e.peer).ended && is_granted_there m q (posted_at e.posted k).request.shape.rkey ((posted_at e.posted k).request.shape.remote + off) n RemoteRead)) may in
    let b = both (nat_lt k e.acted && (nat_lt k (length e.posted) && (is_read (kind_of (posted_at e.posted k)) && nat_le (off + n) (size_of (posted_at e.posted k)))))
    (not (end_of m e.peer).ended && is_granted_there m q (posted_at e.posted k).request.shape.rkey ((posted_at e.posted k).request.shape.remote + off) n RemoteRead) a.1 in
    let d = both (nat_lt k e.acted) (nat_lt k (length e.posted) && (is_read (kind_of (posted_at e.posted k)) && nat_le (off + n) (size_of (posted_at e.posted k)))) b.0 in
    let f = both (nat_lt k (length e.posted)) (is_read (kind_of (posted_at e.posted k)) && nat_le (off + n) (size_of (posted_at e.posted k))) d.1 in
    let g = both (is_read (kind_of (posted_at e.posted k))) (nat_le (off + n) (size_of (posted_at e.posted k))) f.1 in
    record { acted = ltb-true k e.acted d.0; posted = ltb-true k (length e.posted) f.0; reads = g.0; within = leb-true (off + n) (size_of (posted_at e.posted k)) g.1 }

-- the slot holds any part of a body
slot_holds : (r : Region) (key off n : ℕ) → IsRegion r staging_address (place_bytes + most_bytes) 5 key → off + n ≤ most_bytes → holds r (slot_address + off) n ≡ true
unfolding holds
slot_holds r key off n is within =
    let begins = is.begins in
    let long = is.long in
    let low : nat_le r.base (slot_address + off) ≡ true = le-leb r.base (slot_address + off) (omega (arith, begins)) in
    let high : nat_le (slot_address + off + n) (r.base + r.length) ≡ true = le-leb (slot_address + off + n) (r.base + r.length) (omega (arith, begins, long, within)) in
    rw (low, high) refl

module _ (m : Machine) (owed : List Due) (i : ℕ) (opened : IsOpened m i) (c : Channel) (sent : List Letter) (open' : List Placed) (h : IsKept i (sight_of m owed i) c sent open') where
  -- a part of a body is read from the slot
  slot_part : (off n : ℕ) → off + n ≤ most_bytes → bytes_at remote_key (sender_remote_key i) (slot_address + off) n (regions_of m (sender i)) ≡ cut (slot_offset + off) n (region_of m (sender_region i)).bytes
  unfolding region_of
  slot_part off n within =
      let r : Region = region_of m (sender_region i) in
      let key : sender_key i + 1 ≡ sender_remote_key i = omega arith in
      let named : remote_key r ≡ sender_remote_key i = ap (λ (k : Keys). k.remote) opened.sender_region_is.keyed ∙ key in
      let once : count_by (λ z. remote_key z == sender_remote_key i) (regions_of m (sender i)) ≤ 1 = subst (λ (k : ℕ). count_by (λ (z : Region). remote_key z == k) (regions_of m (sender i)) ≤ 1) key opened.sender_keyed.remote_once in
      let begins = opened.sender_region_is.begins in
      let place : slot_address + off - r.base ≡ slot_offset + off = omega (arith, begins) in
      bytes_by_key remote_key (sender_remote_key i) region_name (slot_address + off) n (regions_of m (sender i)) opened.sender_region_there named once (slot_holds r (sender_key i) off n opened.sender_region_is within)
      ∙ ap (λ (a : ℕ). cut a n r.bytes) place

  pub receiver_offers : (k off n : ℕ) → may_offer m (receiver_end i) k off n ≡ true → IsSeen i owed m (offered m (receiver_end i) k off n)
  unfolding offered with_offer bytes_there
  receiver_offers k off n may =
      let e : End = end_of m (receiver_end i) in
      let part = part_offered m (receiver_end i) k off n may in
      let even = even_request i e.posted sent k h.queue part.posted part.reads (parity k) in
      let read = read_of i e.posted sent k h.letters h.queue part.posted even in
      let size : size_of (posted_at e.posted k) ≡ length read.letter.body = ap size_of read.is in
      let within = part.within in
      let fits = read.fits in
      let bytes : List ℕ = bytes_there (posted_at e.posted k) off n (regions_of m e.peer.context) in
      let is : bytes ≡ cut (slot_offset + off) n (sight_of m owed i).stored =
      ap (λ (o : ObjName). bytes_at remote_key (posted_at e.posted k).request.shape.rkey ((posted_at e.posted k).request.shape.remote + off) n (regions_of m o.context)) opened.receiver_joined.peer_is
      ∙ (ap (λ (p : Posted). bytes_at remote_key p.request.shape.rkey (p.request.shape.remote + off) n (regions_of m (sender i))) read.is
      ∙ slot_part off n (omega (arith, within, size, fits))) in
      let whole = opened.sender_region_is.whole in
      let long : length bytes ≡ n = ap length is ∙ length-cut (slot_offset + off) n (sight_of m owed i).stored (omega (arith, within, size, fits, whole)) in
      receiver_seen m owed i opened c sent open' h (record (end_of m (receiver_end i)) { offers = (end_of m (receiver_end i)).offers ++ record { request = k; offset = off; bytes = bytes_there (posted_at (end_of m (receiver_end i)).posted k) off n (regions_of m (end_of m (receiver_end i)).peer.context) } ∷ [] }) refl
      (record { connected = refl; peer = refl; domain = refl; send_queue = refl; receive_queue = refl; send_depth = refl; receive_depth = refl })
      (ReadOffers (record { request = k; offset = off; bytes = bytes }) part.acted even (omega (arith, long, within)) (is ∙ ap (λ (z : ℕ). cut (slot_offset + off) z (sight_of m owed i).stored) (sym long)))
