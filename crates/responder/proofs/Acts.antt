-- The rows of a packet that is neither invalid nor without access.
use Rattle.std.proofs.Common.{◌≡◌, ℕ, ◌+◌, ◌-◌, ◌<◌, ◌≤◌, Bool, true, false, List, [], ◌∷◌, ◌++◌, length, refl, ap, sym, ◌∙◌, arith}
use Rattle.std.specs.Prelude.{◌==◌, ◌||◌, ◌&&◌, not, All, Option, Some, None, option_map}
use Rattle.std.proofs.lemmas.Bool.Decides.{nat_tests}
use Rattle.std.proofs.lemmas.List.Elements.{All-head}
use Rattle.rdma_types.specs.declared.requests.Receive.{Receive}
use Rattle.rdma_types.specs.Memory.{RemoteAtomic, cut, granted, remote_key, word_of}
use Rattle.rdma_types.specs.Objects.{Region}
use Rattle.rdma_types.specs.declared.names.Name.{Name}
use Rattle.page_pool.specs.Pool.{Pool}
use Rattle.memory_keys.specs.declared.RegisteredRegion.{RegisteredRegion}
use Rattle.memory_keys.specs.Regions.{AreKeyed, IsSpot, place_in, regions_of, spot_bytes}
use Rattle.memory_keys.proofs.Protocol.{place-region, place-some, spot-cut}
use Rattle.memory_keys.specs.declared.RegionRange.{RegionRange}
use Rattle.protocol.specs.declared.wire.AtomicEth.{AtomicEth}
use Rattle.protocol.specs.declared.wire.Reth.{Reth}
use Rattle.protocol.specs.EndWords.{in_use_by}
use Rattle.protocol.specs.Memory.{region_of_key, word_at, written}
use Rattle.protocol.specs.Responder as words
use Rattle.protocol.specs.Responder.{Part, First, Middle, Last, Only, NoPart, begins, bytes_before, finishes, front, is_bad_write, is_empty, is_mistotalled, is_not_ready, is_out_of_place, is_part, is_read_request, is_send, is_write, needs_receive, part_of, place_of, same_kind, write_length}
use Rattle.protocol.specs.State.{Progress, NoMessage, InSend, InWrite}
use Rattle.protocol.specs.Wire.{Packet}
use Rattle.responder.specs.Taking.{Around, acting, context_of, end_of, granted_taking, place_at, read_taking, sending, spot_of, atomic_taking, write_taking}
use Rattle.responder.specs.Taken.{place_next, spot_named, target_in}
use Rattle.protocol.proofs.WriteSizes.{or-false, write-part}
use Rattle.responder.proofs.Kindly.{write-not-send}

-- ---- receives

pub some-unused : (unused : List Receive) → is_empty unused ≡ false → 0 < length unused
some-unused [] e = absurd (cc)
some-unused (r ∷ rs) e = omega arith

some-more : (xs ys : List Receive) → 0 < length ys → 0 < length (xs ++ ys)
some-more [] ys h = h
some-more (x ∷ xs) ys h = omega arith

pub front-all : (P : Receive → Type 0) (xs : List Receive) → All P xs → 0 < length xs → P (front xs)
front-all P [] all h = absurd (omega arith)
front-all P (x ∷ xs) all h = All-head P x xs all

in-use : (n : ℕ) (p : Progress) → is_send n ≡ true → not (same_kind n p) ≡ false → (unused : List Receive) → 0 < length (in_use_by p ++ unused)
in-use n NoMessage s k unused = absurd (cc)
in-use n (InSend done r) s k unused = omega arith
in-use n (InWrite region off count done) s k unused = absurd (let w : is_write n ≡ true = not-false (is_write n) k in let no = write-not-send n w in cc (s, no))
  where
    not-false : (b : Bool) → not b ≡ false → b ≡ true
    not-false true e = refl
    not-false false e = absurd (cc)

-- a SEND finds a receive: the one in use, or an unused one
pub send-finds : (n : ℕ) (q : Part) (p : Progress) (w : Bool) (unused : List Receive) → is_send n ≡ true → is_part q ≡ true → is_out_of_place q n p ≡ false → (((is_send n && begins q) || w) && is_empty unused) ≡ false → 0 < length (in_use_by p ++ unused)
send-finds n First p w unused s part out ready = some-more (in_use_by p) unused (some-unused unused (rw s at ready))
send-finds n Only p w unused s part out ready = some-more (in_use_by p) unused (some-unused unused (rw s at ready))
send-finds n Middle p w unused s part out ready = in-use n p s out unused
send-finds n Last p w unused s part out ready = in-use n p s out unused
send-finds n NoPart p w unused s part out ready = absurd (cc)

-- ---- the row of a SEND

pub send-row : (a : Around) (d : Packet) (n : ℕ) (r : Region) → is_not_ready (end_of a) d ≡ false → is_send d.opcode ≡ true → granted_taking a d n (Some r) ≡ sending a d
unfolding acting
send-row a d n r ready s = rw ready (rw s refl)

-- ---- the row of a WRITE

pub write-row : (a : Around) (d : Packet) (n : ℕ) (r : Region) → is_not_ready (end_of a) d ≡ false → is_send d.opcode ≡ false → is_write d.opcode ≡ true → granted_taking a d n (Some r) ≡ write_taking a d (place_of r d.reth a.receiver.progress)
unfolding acting
write-row a d n r ready s w = rw ready (rw s (rw w refl))

-- a spot is as long as its RETH says
pub spot-length : (r : Region) (h : Reth) → (spot_of r h).length ≡ h.length
spot-length r h = by_test (h.length == 0) refl
  where
    by_test : (b : Bool) → (h.length == 0) ≡ b → (spot_of r h).length ≡ h.length
    by_test true t = rw t (sym (none h.length t))
      where
        none : (n : ℕ) → (n == 0) ≡ true → n ≡ 0
        none n t = grind (arith, nat_tests, t)
    by_test false t = rw t refl

pub next-fits : (spot : RegionRange) (r : Region) (reth : Option Reth) (p : Progress) (size : ℕ) → spot ≡ spot_named None reth r → size + bytes_before reth p ≤ write_length reth p → (place_next spot reth p).1 + size ≤ (place_next spot reth p).0.length
next-fits spot r (Some h) p size e fits = let l : spot.length ≡ h.length = ap (λ s. s.length) e ∙ spot-length r h in omega (arith, l, fits)
next-fits spot r None NoMessage size e fits = let l : spot.length ≡ 0 = ap (λ s. s.length) e in omega (arith, l, fits)
next-fits spot r None (InSend done receive) size e fits = let l : spot.length ≡ 0 = ap (λ s. s.length) e in omega (arith, l, fits)
next-fits spot r None (InWrite region off count done) size e fits = omega (arith, fits)

-- a WRITE of no bytes goes nowhere
write-nowhere : (a : Around) (d : Packet) (p q : words.Place) → d.payload ≡ [] → finishes (part_of d.opcode) ≡ true → p.length ≡ q.length → write_taking a d p ≡ write_taking a d q
unfolding write_taking written
write-nowhere a d p q e t l = rw e (rw t (rw l refl))

nothing-left : (q : Part) (size : ℕ) → is_part q ≡ true → is_mistotalled q size 0 ≡ false → (finishes q ≡ true) × (size ≡ 0)
nothing-left First size p e = absurd (grind (arith, nat_tests, e))
nothing-left Middle size p e = absurd (grind (arith, nat_tests, e))
nothing-left Last size p e = (refl, grind (arith, nat_tests, e))
nothing-left Only size p e = (refl, grind (arith, nat_tests, e))
nothing-left NoPart size p e = absurd (cc)

no-bytes : (bytes : List ℕ) → length bytes ≡ 0 → bytes ≡ []
no-bytes [] e = refl
no-bytes (b ∷ bs) e = absurd (omega arith)

next-by : (a : Around) (d : Packet) (r : Region) (spot : RegionRange) (reth : Option Reth) (p : Progress) → spot ≡ spot_named None reth r → is_write d.opcode ≡ true → is_mistotalled (part_of d.opcode) (length d.payload + bytes_before reth p) (write_length reth p) ≡ false → write_taking a d (place_of r reth p) ≡ write_taking a d (place_at (place_next spot reth p).0 (place_next spot reth p).1)
unfolding place_of
next-by a d r spot None NoMessage e w total = ap (λ s. write_taking a d (place_at s 0)) (sym e)
next-by a d r spot None (InSend done receive) e w total = ap (λ s. write_taking a d (place_at s 0)) (sym e)
next-by a d r spot None (InWrite region off count done) e w total = refl
next-by a d r spot (Some h) p e w total = by_test (h.length == 0) refl
  where
    there : words.Place
    there = record { region = r.keys.local; off = h.address - r.base; length = h.length; done = 0 }

    by_test : (b : Bool) → (h.length == 0) ≡ b → write_taking a d there ≡ write_taking a d (place_at spot 0)
    by_test true t =
        let zero_length : h.length ≡ 0 = grind (arith, nat_tests, t) in
        let left = nothing-left (part_of d.opcode) (length d.payload + 0) (write-part d.opcode w) (ap (is_mistotalled (part_of d.opcode) (length d.payload + 0)) (sym zero_length) ∙ total) in
        let l : h.length ≡ spot.length = sym (ap (λ s. s.length) e ∙ spot-length r h) in
        write-nowhere a d there (place_at spot 0) (no-bytes d.payload (omega (arith, left.1))) left.0 l
    by_test false t =
        let is : spot_of r h ≡ record { region = r.keys.local; off = h.address - r.base; length = h.length } = rw t refl in
        ap (λ s. write_taking a d (place_at s 0)) (sym (e ∙ is))

-- the row of a WRITE, at the place where it goes on
pub write-next : (a : Around) (d : Packet) (n : ℕ) (r : Region) (spot : RegionRange) → is_not_ready (end_of a) d ≡ false → is_send d.opcode ≡ false → is_write d.opcode ≡ true → is_bad_write d a.receiver.progress ≡ false → spot ≡ spot_named None d.reth r → granted_taking a d n (Some r) ≡ write_taking a d (place_at (place_next spot d.reth a.receiver.progress).0 (place_next spot d.reth a.receiver.progress).1)
write-next a d n r spot ready s w good e = write-row a d n r ready s w ∙ next-by a d r spot d.reth a.receiver.progress e w (or-false _ _ good).1

-- ---- the rows of READs and atomics

pub read-row : (a : Around) (d : Packet) (n : ℕ) (r : Region) (h : Reth) → is_not_ready (end_of a) d ≡ false → is_send d.opcode ≡ false → is_write d.opcode ≡ false → is_read_request d.opcode ≡ true → d.reth ≡ Some h → granted_taking a d n (Some r) ≡ read_taking a d r n (Some h)
unfolding acting
read-row a d n r h ready s w t e = rw ready (rw s (rw w (rw t (ap (read_taking a d r n) e))))

pub atomic-row : (a : Around) (d : Packet) (n : ℕ) (r : Region) (h : AtomicEth) → is_not_ready (end_of a) d ≡ false → is_send d.opcode ≡ false → is_write d.opcode ≡ false → is_read_request d.opcode ≡ false → d.atomic ≡ Some h → granted_taking a d n (Some r) ≡ atomic_taking a d r n (Some h)
unfolding acting
atomic-row a d n r h ready s w t e = rw ready (rw s (rw w (rw t (ap (atomic_taking a d r n) e))))

-- ---- the place of a packet

-- a place that is granted is in a region
pub in-region : (f : Region → RegionRange) (o : Option Region) (spot : RegionRange) → Some spot ≡ option_map f o → (r : Region) × ((o ≡ Some r) × (spot ≡ f r))
in-region f None spot e = absurd (cc)
in-region f (Some r) spot e = (r, (refl, cc))

pub named-by : (f : Region → RegionRange) (o : Option Region) (spot : RegionRange) (r : Region) → Some spot ≡ option_map f o → o ≡ Some r → spot ≡ f r
named-by f o spot r e t = let is : Some spot ≡ Some (f r) = e ∙ ap (option_map f) t in cc

-- the word of an atomic
pub word-is : (pool : Pool) (hs : List RegisteredRegion) (domain : Name) (key from : ℕ) (spot : RegionRange) (r : Region) → AreKeyed hs → IsSpot hs spot → granted remote_key (regions_of pool hs) domain key from 8 RemoteAtomic ≡ Some r → spot ≡ place_in from 8 r → word_of (spot_bytes pool hs spot) ≡ word_at r (from - r.base)
word-is pool hs domain key from spot r k is g e =
    let c = context_of (regions_of pool hs) in
    let l : spot.length ≡ 8 = ap (λ s. s.length) e in
    let granted' = place-some remote_key (regions_of pool hs) domain key from 8 RemoteAtomic (omega arith) ∙ (ap (option_map (place_in from 8)) g ∙ ap Some (sym e)) in
    let region = place-region c pool hs refl k remote_key domain key from 8 RemoteAtomic spot (omega arith) granted' in
    let same : region_of_key c spot.region ≡ r = cc (region, g) in
    ap word_of (spot-cut c pool hs refl spot is (omega (arith, l)) ∙ (ap (λ x. cut spot.off spot.length x.bytes) same ∙ ap (λ s. cut s.off s.length r.bytes) e))

pub atomic-target : (rs : List Region) (domain : Name) (d : Packet) (h : AtomicEth) (r : Region) → d.atomic ≡ Some h → target_in rs domain d ≡ Some r → granted remote_key rs domain h.rkey h.address 8 RemoteAtomic ≡ Some r
unfolding words.target
atomic-target rs domain d h r e t = rw e at t
