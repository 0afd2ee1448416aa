-- What is held before the first call.
use Rattle.std.proofs.Common.{arith, rules, ◌≡◌, ℕ, zero, suc, ◌+◌, ◌-◌, ◌≤◌, ◌<◌, List, [], ◌∷◌, ◌++◌, true, false, Bool, refl, sym, subst, ap, ◌∙◌, if◌then◌else◌, eqb-true}
use Rattle.std.specs.Prelude.{All, map, replicate, slice_get, ◌==◌}
use Rattle.std.proofs.lemmas.List.{length-replicate, map-append}
use Rattle.std.proofs.lemmas.List.Elements.{All-append, All-head, All-nil, All-push, All-tail}
use Rattle.std.proofs.lemmas.Option.{none-some}
use Rattle.rdma_types.specs.declared.names.ObjName.{ObjName}
use Rattle.rdma_types.specs.declared.requests.Completion.{Completion}
use Rattle.rdma_types.specs.declared.requests.Receive.{Receive}
use Rattle.rdma_types.specs.Limits.{most_bytes}
use Rattle.rdma_types.specs.Lists.{has_name}
use Rattle.rdma_types.specs.Objects.{IsWhole, Region, no_region}
use Rattle.protocol.specs.State.{empty_world}
use Rattle.packetless_machine.specs.Machine.{End, Machine, empty, end_of, has_end, nobody, context_of, regions_of, untold_count, used_count}
use Rattle.packetless_machine.specs.Verbs.{has_region, region_of}
use Rattle.law_simulation.specs.Named.{RunsFollowByName}
use Rattle.law_simulation.specs.Stands.{Stands}
use Rattle.law_simulation.specs.Views.{name_at, numbered_ends}
use Rattle.law_simulation.proofs.relation.Tables.{All-named}
use Rattle.mailbox_rules.specs.Opening.{connection_of, depth, opening_world, place_address, place_bytes, receiver, receiver_end, receiver_key, receiver_receive, receiver_region, sender_end, sender_key, sender_receive, sender_region, staging_address}
use Rattle.mailbox_rules.specs.State.{Channel, channel, fresh_channel, made, or_fresh}
use Rattle.law_mailbox.specs.AlwaysFew.{BeginningIsFew}
use Rattle.law_mailbox.specs.Beginning.{BeginningIsHeld}
use Rattle.law_mailbox.specs.Few.{AreFew, IsFewOn}
use Rattle.law_mailbox.specs.Headers.{IsLetter}
use Rattle.law_mailbox.specs.Held.{AreAllKept, AreOfSenders, AtReceiverOf, AtSenderOf, IsEndOf, connection_in}
use Rattle.law_mailbox.specs.Kept.{IsJoined, IsKept, IsKeptWith, IsOpened, IsPlain, IsRegion, Sight, dues_of, landing_offset, pending, sight_of, standing}
use Rattle.law_mailbox.proofs.queue_room.Counting.{often}
use Rattle.law_mailbox.proofs.queue_room.Counts.{count_both, count_cons, one_if}
use Rattle.law_mailbox.proofs.opening.Evaluated.{AllFound, Found, at_number, ends_to, evaluated, found, found_in, joined_end, made_for, made_for_all, made_region, no_name, opened, receives_to, stands}
use Rattle.law_mailbox.proofs.opening.InRange.{opening_in_range}
use Rattle.law_mailbox.proofs.connection.Sights.{nowhere}

-- ---- the places of the receives

-- those of the first n
abbrev ids : ℕ → ℕ → List ℕ
ids i n = map (λ v. v.id) (receives_to (receiver_receive i) n)

record AreIds (i n k : ℕ) : Type 0 where
  once : often k (ids i n) ≤ 1
  later : n ≤ k → often k (ids i n) ≡ 0

ids_more : (i n : ℕ) → ids i (suc n) ≡ ids i n ++ n ∷ []
ids_more i n = map-append (λ v. v.id) (receives_to (receiver_receive i) n) (receiver_receive i n ∷ [])

ids_next : (i n k : ℕ) → AreIds i n k → AreIds i (suc n) k
ids_next i n k before = by (n == k) refl
  where
    more : (b : Bool) → (n == k) ≡ b → often k (ids i (suc n)) ≡ often k (ids i n) + one_if b
    more b e =
        let two = count_both (λ x. x == k) (ids i n) (n ∷ []) in
        let last = count_cons (λ x. x == k) n [] in
        rw (ids_more i n, ← e) (omega (arith, two, last))

    by : (b : Bool) → (n == k) ≡ b → AreIds i (suc n) k
    by true e =
        let same : n ≡ k = eqb-true n k e in
        let none : often k (ids i n) ≡ 0 = before.later (omega (arith, same)) in
        record { once = omega (arith, none, more true e); later = λ h. absurd (omega (arith, same, h)) }
    by false e = record { once = omega (arith, before.once, more false e); later = λ h. let none : often k (ids i n) ≡ 0 = before.later (omega (arith, h)) in omega (arith, none, more false e) }

ids_once : (i n k : ℕ) → AreIds i n k
ids_once i zero k = record { once = omega arith; later = λ h. refl }
ids_once i (suc n) k = ids_next i n k (ids_once i n k)

ids_within : (i n : ℕ) → n ≤ depth → All (λ x. x < depth) (ids i n)
ids_within i zero h = All-nil (λ x. x < depth)
ids_within i (suc n) h = subst (λ (xs : List ℕ). All (λ x. x < depth) xs) (sym (ids_more i n)) (All-push (λ x. x < depth) (ids i n) n (ids_within i n (omega arith)) (omega arith))

receives_known : (i n : ℕ) → All (λ v. v ≡ receiver_receive i v.id) (receives_to (receiver_receive i) n)
receives_known i zero = All-nil (λ v. v ≡ receiver_receive i v.id)
receives_known i (suc n) = All-push (λ v. v ≡ receiver_receive i v.id) (receives_to (receiver_receive i) n) (receiver_receive i n) (receives_known i n) refl

-- ---- a connection that nothing was sent on

first_kept : (i : ℕ) → i ≤ 8 → (stored landed : List ℕ) → IsKeptWith i (made_for i).sender (made_for i).receiver stored landed (pending i []) fresh_channel [] []
first_kept i high stored landed = record {
  letters = All-nil IsLetter;
  number = omega arith;
  plain = (All-nil IsPlain, All-nil IsPlain);
  unoffered = refl;
  sends = record { queue_of_sender = refl; posted_within = omega arith; acted_within = omega arith; all_posted = λ h. refl };
  messages = record { receives_completed = refl; places_hold = tt; part_holds = λ h. refl; part_within = omega arith };
  places = record { places_once = λ h k. (ids_once i depth k).once; places_within = λ h. ids_within i depth (omega arith); receives_known = λ h. receives_known i depth };
  queue = refl;
  counts = record {
    acted_within = omega arith;
    told_within = omega arith;
    told_acted = λ h. omega arith;
    over = λ h. refl;
    reads_posted = omega arith;
    frees_posted = omega arith;
    bodies_posted = omega arith;
    bodies_told = λ h. refl;
    slot_freed = refl;
  };
  slot = record { fetches_true = λ l h. absurd (none-some l h); slot_holds = λ h. absurd (cc) };
  offers = record { offers_acted = search rules; offers_true = search rules };
  landing = record { nothing_known = λ h. refl; landing = λ a b l h. absurd (none-some l h); bodies_hold = λ l h. absurd (none-some l h) };
  arrived = refl;
  waits_open = λ k l h w. absurd (none-some l h);
}

-- 16 receives are not used, and nothing else
first_few : (i : ℕ) → IsFewOn i (made_for i).receiver [] [] fresh_channel []
unfolding untold_count used_count
first_few i = record { receives = omega arith; requests = omega arith }

-- every channel is fresh
pub first_channel : (n k : ℕ) → or_fresh (slice_get (replicate n fresh_channel) k) ≡ fresh_channel
first_channel zero k = refl
first_channel (suc n) zero = refl
first_channel (suc n) (suc k) = first_channel n k

-- ---- what was made for it

joined : (o : ObjName) (number : ℕ) (peer : ObjName) (receives : ℕ → Receive) → IsJoined (joined_end o number peer receives) peer
joined o number peer receives = record { connected = refl; peer_is = refl; domain = refl; send_queue = refl; receive_queue = refl; send_depth = refl; receive_depth = refl }

region_is : (r : Region) (o : ObjName) (base size rights key : ℕ) → record r { bytes = [] } ≡ made_region o base size rights key → IsWhole r → IsRegion r base size rights key
region_is r o base size rights key e whole = record {
  domain = ap (λ (x : Region). x.domain) e;
  begins = ap (λ (x : Region). x.base) e;
  long = ap (λ (x : Region). x.length) e;
  whole = whole ∙ ap (λ (x : Region). x.length) e;
  granted = ap (λ (x : Region). x.rights) e;
  keyed = ap (λ (x : Region). x.keys) e;
}

-- ---- an end by its number

end_listed : (P : ObjName → Type 0) (xs : List (ℕ × ObjName)) (k : ℕ) → All P (map (λ x. x.1) xs) → P no_name → P (name_at xs k)
unfolding name_at
end_listed P [] k all none = none
end_listed P (x ∷ xs) k all none = by (x.0 == k) (end_listed P xs k (All-tail P x.1 (map (λ x. x.1) xs) all) none)
  where
    by : (b : Bool) → P (name_at xs k) → P (if b then x.1 else name_at xs k)
    by true rest = All-head P x.1 (map (λ x. x.1) xs) all
    by false rest = rest

all_ends : (P : ObjName → Type 0) (f : ℕ → ObjName) (n : ℕ) → ((i : ℕ) → 1 ≤ i → i ≤ n → P (f i)) → All P (ends_to f n)
all_ends P f zero each = All-nil P
all_ends P f (suc n) each = All-push P (ends_to f n) (f (suc n)) (all_ends P f n (λ i low high. each i low (omega (arith, high)))) (each (suc n) (omega arith) (omega arith))

connected_there : (m : Machine) (o : ObjName) → (end_of m o).connected ≡ true → has_end m o ≡ true
unfolding end_of has_end
connected_there m o connected = by (has_name (λ e. e.name) o.name (context_of m o.context).ends) refl
  where
    by : (b : Bool) → has_name (λ e. e.name) o.name (context_of m o.context).ends ≡ b → has_name (λ e. e.name) o.name (context_of m o.context).ends ≡ true
    by true e = e
    by false e = let none : false ≡ true = ap (λ (x : End). x.connected) (sym (nowhere (λ e. e.name) (nobody o) o.name (context_of m o.context).ends e)) ∙ connected in cc

-- ---- all connections

module _ (peers : ℕ) (low : 1 ≤ peers) (high : peers ≤ 8) (w : Stands (opening_world most_bytes peers) (opened peers)) where
  abbrev m : Machine
  m = opened peers

  all : found_in peers m ≡ made_for_all peers
  all = at_number (λ n. found_in n (opened n)) made_for_all 8 peers evaluated low high

  one : (i : ℕ) → 1 ≤ i → i ≤ peers → found m i ≡ made_for i
  one i = at_number (found m) made_for peers i (ap (λ (a : AllFound). a.each) all)

  whole : (o : ObjName) → has_region m o ≡ true → IsWhole (region_of m o)
  unfolding region_of
  whole o there = All-named IsWhole (λ r. r.name) no_region o.name (regions_of m o.context) (w.sound o.context).whole there

  first_opened : (i : ℕ) → 1 ≤ i → i ≤ peers → IsOpened m i
  first_opened i first last =
      let e : found m i ≡ made_for i = one i first last in
      let sender_there : has_region m (sender_region i) ≡ true = ap (λ (f : Found). f.sender_region_there) e in
      let receiver_there : has_region m (receiver_region i) ≡ true = ap (λ (f : Found). f.receiver_region_there) e in
      record {
        sender_there = ap (λ (f : Found). f.sender_there) e;
        receiver_there = ap (λ (f : Found). f.receiver_there) e;
        sender_joined = subst (λ (x : End). IsJoined x (receiver_end i)) (sym (ap (λ (f : Found). f.sender) e)) (joined (sender_end i) (131072 + i) (receiver_end i) sender_receive);
        receiver_joined = subst (λ (x : End). IsJoined x (sender_end i)) (sym (ap (λ (f : Found). f.receiver) e)) (joined (receiver_end i) (65536 + i) (sender_end i) (receiver_receive i));
        sender_queue = ap (λ (f : Found). f.sender_queue) e;
        receiver_queue = ap (λ (f : Found). f.receiver_queue) e;
        sender_region_there = sender_there;
        receiver_region_there = receiver_there;
        sender_region_is = region_is (region_of m (sender_region i)) (sender_region i) staging_address (place_bytes + most_bytes) 5 (sender_key i) (ap (λ (f : Found). f.sender_region) e) (whole (sender_region i) sender_there);
        receiver_region_is = region_is (region_of m (receiver_region i)) (receiver_region i) (place_address i 0) (landing_offset + most_bytes) 1 (receiver_key i) (ap (λ (f : Found). f.receiver_region) e) (whole (receiver_region i) receiver_there);
        sender_keyed = record { local_once = omega (arith, ap (λ (f : Found). f.sender_local) e); remote_once = omega (arith, ap (λ (f : Found). f.sender_remote) e) };
        receiver_keyed = record { local_once = omega (arith, ap (λ (f : Found). f.receiver_local) e); remote_once = omega (arith, ap (λ (f : Found). f.receiver_remote) e) };
      }

  first_sight : (i : ℕ) → found m i ≡ made_for i → sight_of m [] i ≡ record { sender = (made_for i).sender; receiver = (made_for i).receiver; stored = (region_of m (sender_region i)).bytes; landed = (region_of m (receiver_region i)).bytes; dues = [] }
  first_sight i e = λ k. record {
    sender = (e k).sender;
    receiver = (e k).receiver;
    stored = (region_of m (sender_region i)).bytes;
    landed = (region_of m (receiver_region i)).bytes;
    dues = dues_of 0 (e k).receiver_standing ++ dues_of i (e k).sender_standing;
  }

  each_kept : (i : ℕ) → 1 ≤ i → i ≤ peers → IsKept i (sight_of m [] i) (channel (made peers) i) [] []
  each_kept i first last =
      subst (λ (c : Channel). IsKept i (sight_of m [] i) c [] []) (sym (first_channel peers (i - 1)))
      (subst (λ (s : Sight). IsKept i s fresh_channel [] []) (sym (first_sight i (one i first last)))
      (first_kept i (omega arith) (region_of m (sender_region i)).bytes (region_of m (receiver_region i)).bytes))

  abbrev OfSenders : ObjName → Type 0
  OfSenders o = (end_of m o).connected ≡ true → IsEndOf peers o

  ends_known : All OfSenders (map (λ x. x.1) (numbered_ends m))
  ends_known =
      subst (λ (xs : List ObjName). All OfSenders xs) (sym (ap (λ (a : AllFound). a.listed) all))
      (All-append OfSenders (ends_to receiver_end peers) (ends_to sender_end peers)
      (all_ends OfSenders receiver_end peers (λ i first last connected. AtReceiverOf i first last refl))
      (all_ends OfSenders sender_end peers (λ i first last connected. AtSenderOf i first last refl)))

  nameless : OfSenders no_name
  nameless connected = let none : false ≡ true = sym (ap (λ (a : AllFound). a.nameless) all) ∙ connected in absurd (cc)

  first_joined : (o : ObjName) → OfSenders o
  first_joined o connected =
      subst OfSenders (w.numbered.named o (connected_there m o connected))
      (end_listed OfSenders (numbered_ends m) (end_of m o).number ends_known nameless) connected

  -- nothing stands in the receiver's queue
  first_dues : AreOfSenders peers (dues_of 0 (standing m receiver))
  first_dues = subst (λ (xs : List Completion). AreOfSenders peers (dues_of 0 xs)) (sym (ap (λ (f : Found). f.receiver_standing) (one 1 (omega arith) low))) (All-nil (λ d. (1 ≤ connection_in d) × (connection_in d ≤ peers)))

  first_all_kept : AreAllKept peers [] (made peers) m
  first_all_kept = record { opened = first_opened; joined = first_joined; kept = each_kept; dues = first_dues }

  each_few : (i : ℕ) → 1 ≤ i → i ≤ peers → IsFewOn i (end_of m (receiver_end i)) (standing m receiver) [] (channel (made peers) i) []
  each_few i first last =
      subst (λ (c : Channel). IsFewOn i (end_of m (receiver_end i)) (standing m receiver) [] c []) (sym (first_channel peers (i - 1)))
      (subst (λ (f : Found). IsFewOn i f.receiver f.receiver_standing [] fresh_channel []) (sym (one i first last)) (first_few i))

  first_all_few : AreFew peers [] (made peers) m
  first_all_few = record {
    each = each_few;
    known = subst (λ (xs : List Completion). All (λ x. (1 ≤ connection_of x.qp) × (connection_of x.qp ≤ peers)) xs) (sym (ap (λ (f : Found). f.receiver_standing) (one 1 (omega arith) low))) (All-nil (λ x. (1 ≤ connection_of x.qp) × (connection_of x.qp ≤ peers)));
  }

pub begins : RunsFollowByName → Stands empty_world empty → BeginningIsHeld
begins follow start peers low high =
    let w : Stands (opening_world most_bytes peers) (opened peers) = stands follow start peers (opening_in_range peers high) in
    record { machine = opened peers; stands = w; senders = length-replicate peers fresh_channel; all = first_all_kept peers low high w }

pub begins_few : RunsFollowByName → Stands empty_world empty → BeginningIsFew
begins_few follow start peers low high =
    let w : Stands (opening_world most_bytes peers) (opened peers) = stands follow start peers (opening_in_range peers high) in
    record { machine = opened peers; stands = w; senders = length-replicate peers fresh_channel; all = first_all_kept peers low high w; few = first_all_few peers low high w }
