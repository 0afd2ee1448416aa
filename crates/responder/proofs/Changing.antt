-- Where a request changes bytes.
use Rattle.std.proofs.Common.{◌≡◌, ℕ, zero, suc, ◌+◌, ◌-◌, ◌<◌, ◌≤◌, Bool, true, false, List, [], ◌∷◌, ◌++◌, length, take, refl, ap, sym, ◌∙◌, arith, subst, ◌⊎◌, inl, inr}
use Rattle.std.specs.Prelude.{◌==◌, ◌&&◌, ◌||◌, All, Option, Some, None, IsSome, IsSomeAnd, nat_eq, nat_le, nat_lt, map, option_map, slice_get, get_or, if◌then◌else◌, bytes_eq}
use Rattle.std.specs.List.{IsDistinct, AllByRecursion}
use Rattle.std.proofs.lemmas.Bool.{OnFalse_from}
use Rattle.std.proofs.lemmas.Bool.Decides.{nat_tests}
use Rattle.std.proofs.lemmas.List.{places, length-take}
use Rattle.std.proofs.lemmas.List.Elements.{All-head, All-tail}
use Rattle.std.proofs.lemmas.Option.{slice_get-get_or, slice_get-map, slice_get_past}
use Rattle.rdma_types.specs.declared.names.Name.{Name}
use Rattle.rdma_types.specs.declared.requests.Receive.{Receive}
use Rattle.rdma_types.specs.Lists.{first_that}
use Rattle.rdma_types.specs.Memory.{LocalWrite, RemoteAtomic, RemoteWrite, Right, allows, granted, grants, holds, local_key, put, remote_key}
use Rattle.rdma_types.specs.Objects.{Region}
use Rattle.rdma_types.proofs.Cuts.{length-put}
use Rattle.page_pool.specs.Pool.{Pool, bytes_in}
use Rattle.memory_keys.specs.declared.RegisteredRegion.{RegisteredRegion}
use Rattle.memory_keys.specs.declared.RegionRange.{RegionRange}
use Rattle.memory_keys.specs.Regions.{AreHeld, AreKeyed, IsSpot, Lies, granted_spot, held_at, place_in, part_of, region_of, regions_of, stored_at}
use Rattle.memory_keys.proofs.Spots.{holds-pages, spot-inside}
use Rattle.memory_keys.proofs.Stores.{stored-nothing}
use Rattle.protocol.specs.declared.wire.AtomicEth.{AtomicEth}
use Rattle.protocol.specs.declared.wire.Reth.{Reth}
use Rattle.protocol.specs.EndWords.{in_use_by}
use Rattle.protocol.specs.Memory.{landed, stored, written}
use Rattle.protocol.specs.Responder as words
use Rattle.protocol.specs.State.{Progress, NoMessage, InSend, InWrite, Receiver}
use Rattle.protocol.specs.Wire.{Packet}
use Rattle.responder.specs.Taking.{context_of}
use Rattle.responder.proofs.Granted.{first-held, first-passes, granted-grants, granted-place, part-landed, part-written}
use Rattle.responder.proofs.Acts.{in-region}
use Rattle.memory_keys.proofs.Protocol.{place-some}
use Rattle.responder.specs.Sound.{IsPlace, IsUnderWay, IsWrite}
use Rattle.responder.specs.Taken.{no_spot}
use Rattle.protocol.specs.Changes.{KeepsRest, KeepsRestAt, is_among, is_atomic_byte, is_granted_byte, is_message_byte, is_receive_byte, is_reth_byte, may_change}

-- ---- bytes put elsewhere

put-elsewhere : (bytes : List ℕ) (off : ℕ) (new : List ℕ) (k : ℕ) → off + length new ≤ length bytes → (k < off) ⊎ (off + length new ≤ k) → slice_get (put bytes off new) k ≡ slice_get bytes k
unfolding put
put-elsewhere bytes off new k inside apart = by_test (nat_lt k (length bytes)) refl
  where
    same-length : length (put bytes off new) ≡ length bytes
    same-length = length-put bytes off new inside

    by_test : (b : Bool) → nat_lt k (length bytes) ≡ b → slice_get (put bytes off new) k ≡ slice_get bytes k
    by_test true t =
        let here : k < length bytes = grind (arith, nat_tests, t) in
        let here' : k < length (put bytes off new) = omega (arith, same-length, here) in
        let same : get_or (put bytes off new) k 0 ≡ get_or bytes k 0 = grind (arith, places) in
        slice_get-get_or (put bytes off new) k 0 here' ∙ (ap Some same ∙ sym (slice_get-get_or bytes k 0 here))
    by_test false t =
        let past : length bytes ≤ k = grind (arith, nat_tests, t) in
        let past' : length (put bytes off new) ≤ k = omega (arith, same-length, past) in
        slice_get_past (put bytes off new) k past' ∙ sym (slice_get_past bytes k past)

-- ---- regions at places

-- the region at a place is held under its key, and has as many bytes as its length says
record IsHeldAt (pool : Pool) (hs : List RegisteredRegion) (old : Region) : Type 0 where
  held : RegisteredRegion
  is : region_of pool held ≡ old
  there : held_at old.keys.local hs ≡ Some held
  size : length old.bytes ≡ held.head.length

take-all : (n : ℕ) (xs : List ℕ) → n ≤ length xs → length (take n xs) ≡ n
take-all n xs h = simp length-take (omega arith)

whole-of : (pool : Pool) (h : RegisteredRegion) → Lies pool h → length (region_of pool h).bytes ≡ h.head.length
whole-of pool h l = take-all h.head.length (bytes_in pool h.list) (omega (arith, l.size, holds-pages h.head.length))

self : (n : ℕ) → (n == n) ≡ true
self n = grind (arith, nat_tests)

other-key : (k : ℕ) (pool : Pool) (hs : List RegisteredRegion) (i : ℕ) (old : Region) → AllByRecursion (λ y. nat_eq k y ≡ false) (map (λ h. h.head.keys.local) hs) → slice_get (regions_of pool hs) i ≡ Some old → (k == old.keys.local) ≡ false
other-key k pool [] i old a e = absurd (cc)
other-key k pool (x ∷ xs) zero old a e = let same : region_of pool x ≡ old = cc in subst (λ r. (k == r.keys.local) ≡ false) same a.0
other-key k pool (x ∷ xs) (suc i) old a e = other-key k pool xs i old a.1 e

at-held : (pool : Pool) (hs : List RegisteredRegion) (i : ℕ) (old : Region) → All (Lies pool) hs → IsDistinct nat_eq (map (λ h. h.head.keys.local) hs) → slice_get (regions_of pool hs) i ≡ Some old → IsHeldAt pool hs old
unfolding first_that IsDistinct
at-held pool [] i old lie d e = absurd (cc)
at-held pool (x ∷ xs) zero old lie d e =
    let same : region_of pool x ≡ old = cc in
    let here : (x.head.keys.local == old.keys.local) ≡ true = subst (λ r. (x.head.keys.local == r.keys.local) ≡ true) same (self x.head.keys.local) in
    record { held = x; is = same; there = rw here refl; size = ap (λ r. length r.bytes) (sym same) ∙ whole-of pool x (All-head (Lies pool) x xs lie) }
at-held pool (x ∷ xs) (suc i) old lie d e =
    let later = at-held pool xs i old (All-tail (Lies pool) x xs lie) d.1 e in
    let other : (x.head.keys.local == old.keys.local) ≡ false = other-key x.head.keys.local pool xs i old d.0 e in
    record { held = later.held; is = later.is; there = rw other later.there; size = later.size }

-- ---- stores

unchanged : (domain : Name) (receiver : Receiver) (unused : List Receive) (d : Packet) (old : Region) → KeepsRest domain receiver unused d old old
unchanged domain receiver unused d old = record {
  same = record { name = refl; domain = refl; base = refl; length' = refl; rights = refl; keys = refl };
  rest = λ k. OnFalse_from (may_change domain receiver unused d old k) (slice_get old.bytes k ≡ slice_get old.bytes k) (λ e. refl);
}

pub kept : (domain : Name) (receiver : Receiver) (unused : List Receive) (d : Packet) (rs : List Region) (i : ℕ) (old : Region) → slice_get rs i ≡ Some old → KeepsRestAt domain receiver unused d rs rs i old
kept domain receiver unused d rs i old e = record { new = old; there = e; keeps = unchanged domain receiver unused d old }

apart-from : (off size k : ℕ) → (off ≤ k → k < off + size → ⊥) → (k < off) ⊎ (off + size ≤ k)
apart-from off size k out = by_test (nat_lt k off) refl (nat_lt k (off + size)) refl
  where
    by_test : (b : Bool) → nat_lt k off ≡ b → (b' : Bool) → nat_lt k (off + size) ≡ b' → (k < off) ⊎ (off + size ≤ k)
    by_test true t b' t' = inl (grind (arith, nat_tests, t))
    by_test false t false t' = inr (grind (arith, nat_tests, t'))
    by_test false t true t' = absurd (out (grind (arith, nat_tests, t)) (grind (arith, nat_tests, t')))

stored-rest : (domain : Name) (receiver : Receiver) (unused : List Receive) (d : Packet) (off : ℕ) (new : List ℕ) (old : Region) → off + length new ≤ length old.bytes → ((k : ℕ) → off ≤ k → k < off + length new → may_change domain receiver unused d old k ≡ true) → KeepsRest domain receiver unused d old (stored old off new)
unfolding stored
stored-rest domain receiver unused d off new old inside may = record {
  same = record { name = refl; domain = refl; base = refl; length' = refl; rights = refl; keys = refl };
  rest = λ k. OnFalse_from (may_change domain receiver unused d old k) (slice_get (put old.bytes off new) k ≡ slice_get old.bytes k) (λ e. put-elsewhere old.bytes off new k inside (apart-from off (length new) k (λ low high. let yes = may k low high in cc (yes, e))));
}

-- bytes stored in a part of a spot
pub part-keeps : (pool : Pool) (hs : List RegisteredRegion) (domain : Name) (receiver : Receiver) (unused : List Receive) (d : Packet) (spot : RegionRange) (from : ℕ) (new : List ℕ) (i : ℕ) (old : Region) → AreHeld pool hs → AreKeyed hs → IsSpot hs spot → from + length new ≤ spot.length → slice_get (regions_of pool hs) i ≡ Some old
    → ((h : RegisteredRegion) → held_at spot.region hs ≡ Some h → region_of pool h ≡ old → (k : ℕ) → spot.off + from ≤ k → k < spot.off + from + length new → may_change domain receiver unused d old k ≡ true)
    → KeepsRestAt domain receiver unused d (regions_of pool hs) (stored_at (part_of spot from (length new)) new (regions_of pool hs)) i old
part-keeps pool hs domain receiver unused d spot from [] i old are k is inside e may =
    subst (λ rs. KeepsRestAt domain receiver unused d (regions_of pool hs) rs i old) (sym (stored-nothing (part_of spot from 0) [] (regions_of pool hs) refl)) (kept domain receiver unused d (regions_of pool hs) i old e)
part-keeps pool hs domain receiver unused d spot from (b ∷ bs) i old are k is inside e may =
    let new = b ∷ bs in
    let at = at-held pool hs i old are.lie k.distinct e in
    let there = slice_get-map (λ r. if r.keys.local == spot.region then stored r (spot.off + from) new else r) (regions_of pool hs) i ∙ ap (option_map (λ r. if r.keys.local == spot.region then stored r (spot.off + from) new else r)) e in
    by_test (old.keys.local == spot.region) refl at there
  where
    by_test : (b' : Bool) → (old.keys.local == spot.region) ≡ b' → IsHeldAt pool hs old → slice_get (stored_at (part_of spot from (length (b ∷ bs))) (b ∷ bs) (regions_of pool hs)) i ≡ Some (if old.keys.local == spot.region then stored old (spot.off + from) (b ∷ bs) else old) → KeepsRestAt domain receiver unused d (regions_of pool hs) (stored_at (part_of spot from (length (b ∷ bs))) (b ∷ bs) (regions_of pool hs)) i old
    by_test true t at there =
        let same : old.keys.local ≡ spot.region = grind (arith, nat_tests, t) in
        let found : held_at spot.region hs ≡ Some at.held = ap (λ n. held_at n hs) (sym same) ∙ at.there in
        let within : spot.off + spot.length ≤ at.held.head.length = subst (λ o. IsSomeAnd o (λ h. spot.off + spot.length ≤ h.head.length)) found (is (omega arith)) in
        record {
          new = stored old (spot.off + from) (b ∷ bs);
          there = rw t at there;
          keeps = stored-rest domain receiver unused d (spot.off + from) (b ∷ bs) old (omega (arith, within, at.size)) (may at.held found at.is);
        }
    by_test false t at there = record { new = old; there = rw t at there; keeps = unchanged domain receiver unused d old }

-- ---- bytes that may change

-- a granted region, and a byte of the range
granted-byte : (domain : Name) (rkey from count : ℕ) (right : Right) (r : Region) (k : ℕ) → grants remote_key domain rkey from count right r ≡ true → is_among from count (r.base + k) ≡ true → is_granted_byte domain r rkey from count right k ≡ true
unfolding grants holds
granted-byte domain rkey from count right r k g among = all-but (bytes_eq r.domain domain) (r.keys.remote == rkey) (allows r.rights right) (nat_le r.base from) (nat_le (from + count) (r.base + r.length)) (is_among from count (r.base + k)) g among
  where
    all-but : (a b c x y z : Bool) → (a && (b && (c && (x && y)))) ≡ true → z ≡ true → (a && (b && (c && (x && (y && z))))) ≡ true
    all-but true true true true true z g h = h
    all-but true true true true false z g h = absurd (cc)
    all-but true true true false y z g h = absurd (cc)
    all-but true true false x y z g h = absurd (cc)
    all-but true false c x y z g h = absurd (cc)
    all-but false b c x y z g h = absurd (cc)

among : (from count k : ℕ) → from ≤ k → k < from + count → is_among from count k ≡ true
among from count k low high = grind (arith, nat_tests)

-- the held region that was granted is the one that is there
same-region : (pool : Pool) (hs : List RegisteredRegion) (test : Region → Bool) (r : Region) (h : RegisteredRegion) (old : Region) → AreKeyed hs → first_that test (regions_of pool hs) ≡ Some r → held_at r.keys.local hs ≡ Some h → region_of pool h ≡ old → old ≡ r
same-region pool hs test r h old k e there is =
    let f = first-held pool hs test r k.distinct e in
    let same : h ≡ f.0 = cc (there, f.1.1) in
    sym is ∙ (ap (region_of pool) same ∙ f.1.0)

or-left : (a b : Bool) → a ≡ true → (a || b) ≡ true
or-left true b e = refl
or-left false b e = absurd (cc)

or-right : (a b : Bool) → b ≡ true → (a || b) ≡ true
or-right true b e = refl
or-right false b e = e

reth-may : (domain : Name) (receiver : Receiver) (unused : List Receive) (d : Packet) (h : Reth) (r : Region) (k : ℕ) → d.reth ≡ Some h → is_granted_byte domain r h.rkey h.address h.length RemoteWrite k ≡ true → may_change domain receiver unused d r k ≡ true
reth-may domain receiver unused d h r k e g = or-left (is_reth_byte domain r k d.reth) _ (rw e g)

atomic-may : (domain : Name) (receiver : Receiver) (unused : List Receive) (d : Packet) (h : AtomicEth) (r : Region) (k : ℕ) → d.atomic ≡ Some h → is_granted_byte domain r h.rkey h.address 8 RemoteAtomic k ≡ true → may_change domain receiver unused d r k ≡ true
atomic-may domain receiver unused d h r k e g = or-right (is_reth_byte domain r k d.reth) _ (or-left (is_atomic_byte domain r k d.atomic) _ (rw e g))

message-may : (domain : Name) (receiver : Receiver) (unused : List Receive) (d : Packet) (r : Region) (k : ℕ) → is_message_byte r k receiver.progress ≡ true → may_change domain receiver unused d r k ≡ true
message-may domain receiver unused d r k g = or-right (is_reth_byte domain r k d.reth) _ (or-right (is_atomic_byte domain r k d.atomic) _ (or-left (is_message_byte r k receiver.progress) _ g))

receive-may : (domain : Name) (receiver : Receiver) (unused : List Receive) (d : Packet) (r : Region) (k : ℕ) → is_receive_byte r k (in_use_by receiver.progress ++ unused) ≡ true → may_change domain receiver unused d r k ≡ true
receive-may domain receiver unused d r k g = or-right (is_reth_byte domain r k d.reth) _ (or-right (is_atomic_byte domain r k d.atomic) _ (or-right (is_message_byte r k receiver.progress) _ g))

receive-byte : (r : Region) (k : ℕ) (xs : List Receive) → 0 < length xs → r.keys.local ≡ (words.front xs).lkey → is_among (words.front xs).local (words.front xs).length (r.base + k) ≡ true → is_receive_byte r k xs ≡ true
receive-byte r k [] some e g = absurd (omega arith)
receive-byte r k (x ∷ xs) some e g = let t : (r.keys.local == x.lkey) ≡ true = subst (λ n. (r.keys.local == n) ≡ true) e (self r.keys.local) in rw t g

-- ---- rows

-- an atomic
pub word-keeps : (pool : Pool) (hs : List RegisteredRegion) (domain : Name) (receiver : Receiver) (unused : List Receive) (d : Packet) (r : Region) (h : AtomicEth) (new : List ℕ) (i : ℕ) (old : Region) → AreHeld pool hs → AreKeyed hs → d.atomic ≡ Some h → length new ≡ 8 → granted remote_key (regions_of pool hs) domain h.rkey h.address 8 RemoteAtomic ≡ Some r → slice_get (regions_of pool hs) i ≡ Some old
    → KeepsRestAt domain receiver unused d (regions_of pool hs) (written (context_of (regions_of pool hs)) r.keys.local (h.address - r.base) new).regions i old
unfolding granted
word-keeps pool hs domain receiver unused d r h new i old are k e size g there =
    let spot : RegionRange = record { region = r.keys.local; off = h.address - r.base; length = 8 } in
    let f = first-held pool hs (grants remote_key domain h.rkey h.address 8 RemoteAtomic) r k.distinct g in
    let grant = granted-grants remote_key (regions_of pool hs) domain h.rkey h.address 8 RemoteAtomic r g in
    let base : f.0.head.base ≡ r.base = ap (λ x. x.base) f.1.0 in
    let size' : f.0.head.length ≡ r.length = ap (λ x. x.length) f.1.0 in
    let is : IsSpot hs spot = subst (λ b. IsSpot hs (record { region = r.keys.local; off = h.address - b; length = 8 })) base (spot-inside hs r.keys.local h.address 8 f.0 f.1.1 (omega (arith, base, grant.low)) (omega (arith, base, size', grant.high))) in
    let zero-from = plain-off spot.off in
    let keeps = part-keeps pool hs domain receiver unused d spot 0 new i old are k is (omega (arith, size)) there (λ x at is' j low high.
    let same = same-region pool hs (grants remote_key domain h.rkey h.address 8 RemoteAtomic) r x old k g at is' in
    let inside : is_among h.address 8 (r.base + j) ≡ true = among h.address 8 (r.base + j) (omega (arith, low, grant.low)) (omega (arith, high, size, grant.low)) in
    subst (λ y. may_change domain receiver unused d y j ≡ true) (sym same) (atomic-may domain receiver unused d h r j e (granted-byte domain h.rkey h.address 8 RemoteAtomic r j (first-passes (grants remote_key domain h.rkey h.address 8 RemoteAtomic) (regions_of pool hs) r g) inside))) in
    subst (λ rs. KeepsRestAt domain receiver unused d (regions_of pool hs) rs i old) (part-written pool hs spot 0 new k is (omega (arith, size)) ∙ ap (λ o. (written (context_of (regions_of pool hs)) r.keys.local o new).regions) zero-from) keeps
  where
    plain-off : (n : ℕ) → n + 0 ≡ n
    plain-off n = omega arith

-- a WRITE whose RETH is granted
reth-keeps : (pool : Pool) (hs : List RegisteredRegion) (domain : Name) (receiver : Receiver) (unused : List Receive) (d : Packet) (r : Region) (h : Reth) (new : List ℕ) (i : ℕ) (old : Region) → AreHeld pool hs → AreKeyed hs → d.reth ≡ Some h → length new ≤ h.length → granted remote_key (regions_of pool hs) domain h.rkey h.address h.length RemoteWrite ≡ Some r → slice_get (regions_of pool hs) i ≡ Some old
    → KeepsRestAt domain receiver unused d (regions_of pool hs) (written (context_of (regions_of pool hs)) r.keys.local (h.address - r.base + 0) new).regions i old
unfolding granted
reth-keeps pool hs domain receiver unused d r h new i old are k e size g there =
    let spot : RegionRange = record { region = r.keys.local; off = h.address - r.base; length = h.length } in
    let f = first-held pool hs (grants remote_key domain h.rkey h.address h.length RemoteWrite) r k.distinct g in
    let grant = granted-grants remote_key (regions_of pool hs) domain h.rkey h.address h.length RemoteWrite r g in
    let base : f.0.head.base ≡ r.base = ap (λ x. x.base) f.1.0 in
    let size' : f.0.head.length ≡ r.length = ap (λ x. x.length) f.1.0 in
    let is : IsSpot hs spot = subst (λ b. IsSpot hs (record { region = r.keys.local; off = h.address - b; length = h.length })) base (spot-inside hs r.keys.local h.address h.length f.0 f.1.1 (omega (arith, base, grant.low)) (omega (arith, base, size', grant.high))) in
    let keeps = part-keeps pool hs domain receiver unused d spot 0 new i old are k is (omega (arith, size)) there (λ x at is' j low high.
    let same = same-region pool hs (grants remote_key domain h.rkey h.address h.length RemoteWrite) r x old k g at is' in
    let inside : is_among h.address h.length (r.base + j) ≡ true = among h.address h.length (r.base + j) (omega (arith, low, grant.low)) (omega (arith, high, size, grant.low)) in
    subst (λ y. may_change domain receiver unused d y j ≡ true) (sym same) (reth-may domain receiver unused d h r j e (granted-byte domain h.rkey h.address h.length RemoteWrite r j (first-passes (grants remote_key domain h.rkey h.address h.length RemoteWrite) (regions_of pool hs) r g) inside))) in
    subst (λ rs. KeepsRestAt domain receiver unused d (regions_of pool hs) rs i old) (part-written pool hs spot 0 new k is (omega (arith, size))) keeps

-- a WRITE that goes on
way-keeps : (pool : Pool) (hs : List RegisteredRegion) (domain : Name) (receiver : Receiver) (unused : List Receive) (d : Packet) (mtu region off count done : ℕ) (new : List ℕ) (i : ℕ) (old : Region) → AreHeld pool hs → AreKeyed hs → receiver.progress ≡ InWrite region off count done → IsWrite hs domain mtu region off count done → done + length new ≤ count → slice_get (regions_of pool hs) i ≡ Some old
    → KeepsRestAt domain receiver unused d (regions_of pool hs) (written (context_of (regions_of pool hs)) region (off + done) new).regions i old
way-keeps pool hs domain receiver unused d mtu region off count done new i old are k p m size there =
    let spot : RegionRange = record { region = region; off = off; length = count } in
    let is : IsSpot hs spot = λ some. subst (λ o. IsSomeAnd o (λ h. off + count ≤ h.head.length)) (sym m.there) m.inside in
    let keeps = part-keeps pool hs domain receiver unused d spot done new i old are k is size there (λ x at is' j low high.
    let key : (old.keys.local == region) ≡ true = subst (λ y. (y.keys.local == region) ≡ true) is' (has-key region hs x at) in
    let inside : is_among off count j ≡ true = among off count j (omega (arith, low)) (omega (arith, high, size)) in
    let byte : is_message_byte old j (InWrite region off count done) ≡ true = rw key inside in
    message-may domain receiver unused d old j (rw p byte)) in
    subst (λ rs. KeepsRestAt domain receiver unused d (regions_of pool hs) rs i old) (part-written pool hs spot done new k is size) keeps
  where
    has-key : (key : ℕ) (hs : List RegisteredRegion) (x : RegisteredRegion) → held_at key hs ≡ Some x → (x.head.keys.local == key) ≡ true
    has-key key hs x e = first-passes (λ h. h.head.keys.local == key) hs x e

no-bytes : (bytes : List ℕ) → length bytes ≤ 0 → bytes ≡ []
no-bytes [] h = refl
no-bytes (b ∷ bs) h = absurd (omega arith)

nothing-written : (rs : List Region) (key off : ℕ) (new : List ℕ) → new ≡ [] → (written (context_of rs) key off new).regions ≡ rs
unfolding written
nothing-written rs key off new e = rw e refl

-- a WRITE
pub write-keeps : (pool : Pool) (hs : List RegisteredRegion) (domain : Name) (receiver : Receiver) (unused : List Receive) (d : Packet) (mtu : ℕ) (r : Region) (o : Option Reth) (p : Progress) (new : List ℕ) (i : ℕ) (old : Region) → AreHeld pool hs → AreKeyed hs → d.reth ≡ o → receiver.progress ≡ p → IsUnderWay hs domain mtu p
    → length new + words.bytes_before o p ≤ words.write_length o p
    → ((h : Reth) → o ≡ Some h → 0 < h.length → granted remote_key (regions_of pool hs) domain h.rkey h.address h.length RemoteWrite ≡ Some r)
    → slice_get (regions_of pool hs) i ≡ Some old
    → KeepsRestAt domain receiver unused d (regions_of pool hs) (written (context_of (regions_of pool hs)) (words.place_of r o p).region ((words.place_of r o p).off + (words.place_of r o p).done) new).regions i old
unfolding words.place_of
write-keeps pool hs domain receiver unused d mtu r (Some h) p new i old are k e q m size grant there = by_test (nat_lt 0 h.length) refl
  where
    by_test : (b : Bool) → nat_lt 0 h.length ≡ b → KeepsRestAt domain receiver unused d (regions_of pool hs) (written (context_of (regions_of pool hs)) r.keys.local (h.address - r.base + 0) new).regions i old
    by_test true t = reth-keeps pool hs domain receiver unused d r h new i old are k e (omega (arith, size)) (grant h refl (grind (arith, nat_tests, t))) there
    by_test false t =
        let zero_length : h.length ≤ 0 = grind (arith, nat_tests, t) in
        subst (λ rs. KeepsRestAt domain receiver unused d (regions_of pool hs) rs i old) (sym (nothing-written (regions_of pool hs) r.keys.local (h.address - r.base + 0) new (no-bytes new (omega (arith, size, zero_length))))) (kept domain receiver unused d (regions_of pool hs) i old there)
write-keeps pool hs domain receiver unused d mtu r None NoMessage new i old are k e q m size grant there = subst (λ rs. KeepsRestAt domain receiver unused d (regions_of pool hs) rs i old) (sym (nothing-written (regions_of pool hs) 0 0 new (no-bytes new (omega (arith, size))))) (kept domain receiver unused d (regions_of pool hs) i old there)
write-keeps pool hs domain receiver unused d mtu r None (InSend done receive) new i old are k e q m size grant there = subst (λ rs. KeepsRestAt domain receiver unused d (regions_of pool hs) rs i old) (sym (nothing-written (regions_of pool hs) 0 0 new (no-bytes new (omega (arith, size))))) (kept domain receiver unused d (regions_of pool hs) i old there)
write-keeps pool hs domain receiver unused d mtu r None (InWrite region off count done) new i old are k e q m size grant there = way-keeps pool hs domain receiver unused d mtu region off count done new i old are k q m (omega (arith, size)) there

-- a spot by its parts
abbrev part_at : ℕ → ℕ → ℕ → RegionRange
part_at region off count = record { region = region; off = off; length = count }

-- the region of a local place of some bytes
record IsLocal (pool : Pool) (hs : List RegisteredRegion) (key from : ℕ) (spot : RegionRange) : Type 0 where
  held : RegisteredRegion
  there : held_at spot.region hs ≡ Some held
  key' : held.head.keys.local ≡ key
  low : held.head.base ≤ from
  off : spot.off ≡ from - held.head.base

-- the spot of a region, and no other
spot-region : (pool : Pool) (hs : List RegisteredRegion) (domain : Name) (key from count : ℕ) (spot : RegionRange) → AreKeyed hs → 0 < count → granted_spot local_key (regions_of pool hs) domain key from count LocalWrite ≡ Some spot → IsLocal pool hs key from spot
unfolding granted
spot-region pool hs domain key from count spot k some g =
    let t = in-region (place_in from count) (granted local_key (regions_of pool hs) domain key from count LocalWrite) spot (sym g ∙ place-some local_key (regions_of pool hs) domain key from count LocalWrite some) in
    let f = first-held pool hs (grants local_key domain key from count LocalWrite) t.0 k.distinct t.1.0 in
    let grant = granted-grants local_key (regions_of pool hs) domain key from count LocalWrite t.0 t.1.0 in
    let base : f.0.head.base ≡ t.0.base = ap (λ x. x.base) f.1.0 in
    record {
      held = f.0;
      there = ap (λ n. held_at n hs) (ap (λ s. s.region) t.1.1) ∙ f.1.1;
      key' = ap (λ x. x.keys.local) f.1.0 ∙ grant.same_key;
      low = omega (arith, base, grant.low);
      off = ap (λ s. s.off) t.1.1 ∙ ap (λ n. from - n) (sym base);
    }

spot-size : (pool : Pool) (hs : List RegisteredRegion) (domain : Name) (key from count : ℕ) (spot : RegionRange) → granted_spot local_key (regions_of pool hs) domain key from count LocalWrite ≡ Some spot → spot.length ≡ count
spot-size pool hs domain key from count spot g = by_test (count == 0) refl
  where
    by_test : (b : Bool) → (count == 0) ≡ b → spot.length ≡ count
    by_test true t =
        let none : count ≡ 0 = grind (arith, nat_tests, t) in
        let is : Some no_spot ≡ Some spot = rw t at g in
        let is' : no_spot ≡ spot = cc in
        sym (ap (λ s. s.length) is') ∙ sym none
    by_test false t =
        let some : 0 < count = grind (arith, nat_tests, t) in
        let r = in-region (place_in from count) (granted local_key (regions_of pool hs) domain key from count LocalWrite) spot (sym g ∙ place-some local_key (regions_of pool hs) domain key from count LocalWrite some) in
        ap (λ s. s.length) r.1.1

spot-is-held : (pool : Pool) (hs : List RegisteredRegion) (domain : Name) (key from count : ℕ) (spot : RegionRange) → AreKeyed hs → granted_spot local_key (regions_of pool hs) domain key from count LocalWrite ≡ Some spot → IsSpot hs spot
unfolding granted
spot-is-held pool hs domain key from count spot k g some_bytes =
    let l = spot-size pool hs domain key from count spot g in
    let some : 0 < count = omega (arith, l, some_bytes) in
    let t = in-region (place_in from count) (granted local_key (regions_of pool hs) domain key from count LocalWrite) spot (sym g ∙ place-some local_key (regions_of pool hs) domain key from count LocalWrite some) in
    let f = first-held pool hs (grants local_key domain key from count LocalWrite) t.0 k.distinct t.1.0 in
    let grant = granted-grants local_key (regions_of pool hs) domain key from count LocalWrite t.0 t.1.0 in
    let base : f.0.head.base ≡ t.0.base = ap (λ x. x.base) f.1.0 in
    let size : f.0.head.length ≡ t.0.length = ap (λ x. x.length) f.1.0 in
    let is = spot-inside hs t.0.keys.local from count f.0 f.1.1 (omega (arith, base, grant.low)) (omega (arith, base, size, grant.high)) in
    let same : part_at t.0.keys.local (from - f.0.head.base) count ≡ spot = ap (λ n. part_at t.0.keys.local (from - n) count) base ∙ sym t.1.1 in
    subst (IsSpot hs) same is some_bytes

-- a SEND
pub send-keeps : (pool : Pool) (hs : List RegisteredRegion) (domain : Name) (receiver : Receiver) (unused : List Receive) (d : Packet) (x : Receive) (before : ℕ) (new : List ℕ) (i : ℕ) (old : Region) → AreHeld pool hs → AreKeyed hs → IsPlace hs domain x → x ≡ words.front (in_use_by receiver.progress ++ unused) → 0 < length (in_use_by receiver.progress ++ unused) → before + length new ≤ x.length → slice_get (regions_of pool hs) i ≡ Some old
    → KeepsRestAt domain receiver unused d (regions_of pool hs) (landed (context_of (regions_of pool hs)) x.lkey (x.local + before) new).regions i old
send-keeps pool hs domain receiver unused d x before new i old are k place is_front some size there = by_spot (granted_spot local_key (regions_of pool hs) domain x.lkey x.local x.length LocalWrite) refl (granted-place local_key (regions_of pool hs) domain x.lkey x.local x.length LocalWrite (place.granted pool))
  where
    by_spot : (o : Option RegionRange) → granted_spot local_key (regions_of pool hs) domain x.lkey x.local x.length LocalWrite ≡ o → IsSome o → KeepsRestAt domain receiver unused d (regions_of pool hs) (landed (context_of (regions_of pool hs)) x.lkey (x.local + before) new).regions i old
    by_spot None g s = absurd (cc)
    by_spot (Some spot) g s =
        let l : spot.length ≡ x.length = spot-size pool hs domain x.lkey x.local x.length spot g in
        let is : IsSpot hs spot = spot-is-held pool hs domain x.lkey x.local x.length spot k g in
        let keeps = part-keeps pool hs domain receiver unused d spot before new i old are k is (omega (arith, l, size)) there (λ h at is' j low high.
        let f = spot-region pool hs domain x.lkey x.local x.length spot k (omega (arith, low, high, size)) g in
        let same : h ≡ f.held = cc (at, f.there) in
        let base : old.base ≡ f.held.head.base = ap (λ y. y.base) (sym is') ∙ ap (λ y. y.head.base) same in
        let key : old.keys.local ≡ (words.front (in_use_by receiver.progress ++ unused)).lkey = ap (λ y. y.keys.local) (sym is') ∙ (ap (λ y. y.head.keys.local) same ∙ (f.key' ∙ ap (λ y. y.lkey) is_front)) in
        let inside : is_among x.local x.length (old.base + j) ≡ true = among x.local x.length (old.base + j) (omega (arith, low, base, f.off, f.low)) (omega (arith, high, base, f.off, f.low, size)) in
        receive-may domain receiver unused d old j (receive-byte old j (in_use_by receiver.progress ++ unused) some key (subst (λ y. is_among y.local y.length (old.base + j) ≡ true) is_front inside))) in
        subst (λ rs. KeepsRestAt domain receiver unused d (regions_of pool hs) rs i old) (part-landed pool hs domain x.lkey x.local x.length before spot new k is g l size) keeps
