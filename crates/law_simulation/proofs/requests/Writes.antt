-- The expected piece of a Write that the machine may run: its bytes go to their place, and its last piece completes it.
use Rattle.std.proofs.Common.{arith, ◌≡◌, ◌<◌, ◌≤◌, ◌+◌, ◌-◌, ◌/◌, ◌%◌, ◌⊎◌, ℕ, List, length, true, false, Bool, refl, sym, ap, ◌∙◌, subst, inl, inr}
use Rattle.std.specs.Prelude.{Option, Some, None, if◌then◌else◌, ◌==◌, ◌&&◌}
use Rattle.std.proofs.lemmas.Bool.Decides.{nat_tests, eqb_tells}
use Rattle.rdma_types.specs.declared.names.Name.{Name}
use Rattle.rdma_types.specs.declared.names.ObjName.{ObjName}
use Rattle.rdma_types.specs.declared.requests.Kind.{Kind}
use Rattle.rdma_types.specs.declared.requests.Kind.TheVariants as kinds'
use Rattle.rdma_types.specs.Kinds as kinds
use Rattle.rdma_types.specs.Kinds.{kind_of, lands, size_of}
use Rattle.rdma_types.specs.Limits.{is_mtu}
use Rattle.rdma_types.specs.Memory.{RemoteRead, RemoteWrite, is_granted, remote_key, granted}
use Rattle.rdma_types.specs.Objects.{Posted, Region, no_region}
use Rattle.protocol.specs.declared.wire.Reth.{Reth}
use Rattle.protocol.specs.State as state
use Rattle.protocol.specs.State.{World, Link, Progress, NoMessage, InSend, InWrite}
use Rattle.protocol.specs.Segments.{is_first_piece, is_last_piece}
use Rattle.protocol.specs.Wire.{Packet, when}
use Rattle.protocol.specs.EndWords.{is_paused}
use Rattle.protocol.specs.Responder.{is_invalid, part_of, is_write, is_read_request, target, target_of, reth_target, read_grant, place_of}
use Rattle.packetless_machine.specs.Machine as machine
use Rattle.packetless_machine.specs.Machine.{Machine, End, regions_of}
use Rattle.packetless_machine.specs.Steps.{current, fills, right_for}
use Rattle.law_simulation.specs.Packets.{class_of, IsRequest}
use Rattle.law_simulation.specs.Joined.{IsProgress, is_granted_in}
use Rattle.law_simulation.specs.Delivered as delivered
use Rattle.law_simulation.specs.Delivered.{Arrives}
use Rattle.law_simulation.proofs.requests.Requests.{IsRequestAt, asker, asking, request_at_end}
use Rattle.law_simulation.proofs.requests.Opcodes.{IsMessage, part}
use Rattle.law_simulation.proofs.requests.Due.{piece_bytes, not_last, mtu_is}
use Rattle.law_simulation.proofs.requests.Expected.{at, mtu_now}
use Rattle.law_simulation.proofs.requests.Messages as messages
use Rattle.law_simulation.proofs.requests.Messages.{write_first_valid, write_later_valid}
use Rattle.law_simulation.proofs.requests.Counting.{progress_now, same_here}
use Rattle.law_simulation.proofs.requests.Written.{IsPlaceOf, IsGrantedBy, granted_region, held_low}

-- ---- a Write is no other request

pub write_kind : (k : Kind) → kinds.is_write k ≡ true → k ≡ kinds'.Write
write_kind kinds'.Write h = refl
write_kind kinds'.Send h = absurd (cc)
write_kind kinds'.Read h = absurd (cc)
write_kind kinds'.CompareSwap h = absurd (cc)
write_kind kinds'.FetchAdd h = absurd (cc)

pub write_not : (f : Kind → Bool) → f kinds'.Write ≡ false → (k : Kind) → kinds.is_write k ≡ true → f k ≡ false
write_not f is_not k h = ap f (write_kind k h) ∙ is_not

all_true : (p u v : Bool) → (p && (u && v)) ≡ true → v ≡ true
all_true true true v h = h
all_true true false v h = absurd (cc)
all_true false u v h = absurd (cc)

two_true : (p u : Bool) → (p && u) ≡ true → (p ≡ true) × (u ≡ true)
two_true true true h = (refl, refl)
two_true true false h = absurd (cc)
two_true false u h = absurd (cc)

is_zero : (a b : ℕ) → a ≡ b → (a == b) ≡ true
is_zero a b h = grind (arith, nat_tests, eqb_tells a b, h)

-- what the protocol finds where the expected piece of a Write arrives
pub record IsWriteAt (c : state.Context) (e : state.End) (l : Link) (d : Packet) (regions : List Region) (r : Posted) (into : ℕ) : Type 0 where
  pub valid : is_invalid l d ≡ false
  pub region : Region
  pub found : target c e d ≡ Some region
  pub place : 1 ≤ length d.payload → IsPlaceOf regions r into (place_of region d.reth l.receiver.progress)
  pub size : (place_of region d.reth l.receiver.progress).length ≡ size_of r
  pub done : (place_of region d.reth l.receiver.progress).done ≡ into

-- the region that a Write of no bytes, or of some, is granted
target_first : (c : state.Context) (e : state.End) (d : Packet) (h : Reth) (regions : List Region) (domain : Name) (r : Posted) → c.regions ≡ regions → e.domain ≡ domain → d.atomic ≡ None → d.reth ≡ Some h → is_read_request d.opcode ≡ false → h.address ≡ r.request.shape.remote → h.rkey ≡ r.request.shape.rkey → h.length ≡ size_of r → kinds.is_write (kind_of r) ≡ true → is_granted_in domain regions r ≡ true →
    (x : Region) × (target c e d ≡ Some x) × (1 ≤ size_of r → IsGrantedBy remote_key regions r.request.shape.rkey r.request.shape.remote (size_of r) RemoteWrite x)
unfolding target is_granted_in right_for
target_first c e d h regions domain r same dom atomic reth read address key size write granted' = by_size (size_of r == 0) refl
  where
    right : right_for (kind_of r) ≡ RemoteWrite
    right = ap right_for (write_kind (kind_of r) write)

    reads : target_of c e d d.atomic ≡ (if h.length == 0 then Some no_region else read_grant c e h RemoteWrite)
    reads =
        ap (target_of c e d) atomic
        ∙ (ap (reth_target c e d.opcode) reth
        ∙ ap (λ b. if h.length == 0 then Some no_region else read_grant c e h (if b then RemoteRead else RemoteWrite)) read)

    by_size : (b : Bool) → (size_of r == 0) ≡ b → (x : Region) × (target_of c e d d.atomic ≡ Some x) × (1 ≤ size_of r → IsGrantedBy remote_key regions r.request.shape.rkey r.request.shape.remote (size_of r) RemoteWrite x)
    by_size true t = (no_region, reads ∙ ap (λ k. if k then Some no_region else read_grant c e h RemoteWrite) (ap (λ k. k == 0) size ∙ t), λ some. absurd (omega (arith, some, eqb_zero (size_of r) t)))
      where
        eqb_zero : (n : ℕ) → (n == 0) ≡ true → n ≡ 0
        eqb_zero n z = grind (arith, nat_tests, eqb_tells n 0, z)
    by_size false t =
        let some : 1 ≤ size_of r = not_zero (size_of r) t in
        let g = granted_region remote_key regions domain r.request.shape.rkey r.request.shape.remote (size_of r) RemoteWrite some (subst (λ z. is_granted remote_key regions domain r.request.shape.rkey r.request.shape.remote (size_of r) z ≡ true) right granted') in (
          g.0,
          reads ∙ (ap (λ k. if k then Some no_region else read_grant c e h RemoteWrite) (ap (λ k. k == 0) size ∙ t) ∙ ((λ i. granted remote_key (same i) (dom i) (key i) (address i) (size i) RemoteWrite) ∙ g.1)),
          λ s. g.2,
        )
      where
        not_zero : (n : ℕ) → (n == 0) ≡ false → 1 ≤ n
        not_zero n z = grind (arith, nat_tests, eqb_tells n 0, z)

module _ (w : World) (m : Machine) (o : ObjName) (l : Link) (number : Option ℕ) (bytes : List ℕ) (d : Packet) (a : Arrives w m o l number bytes d) (is : class_of d ≡ IsRequest) (paused : is_paused l.moving.phase ≡ false) (now : (request_at_end w m o l number bytes d a is).0 ≡ l.receiver.expected)
    (write : kinds.is_write (kind_of (current (machine.end_of m (machine.end_of m o).peer))) ≡ true) where
  abbrev q : ObjName
  q = asker m o

  abbrev g : End
  g = machine.end_of m q

  abbrev r : Posted
  r = current g

  abbrev n : ℕ
  n = (request_at_end w m o l number bytes d a is).0

  abbrev c : state.Context
  c = delivered.context_there w o

  abbrev e : state.End
  e = delivered.end_there w o

  abbrev count : ℕ
  count = length d.payload

  pub not_read : kinds.is_read (kind_of r) ≡ false
  not_read = write_not kinds.is_read refl (kind_of r) write

  pub not_atomic : kinds.is_atomic (kind_of r) ≡ false
  not_atomic = write_not kinds.is_atomic refl (kind_of r) write

  pub not_send : kinds.is_send (kind_of r) ≡ false
  not_send = write_not kinds.is_send refl (kind_of r) write

  abbrev req : IsRequestAt w m o l n d
  req = at w m o l number bytes d a is paused now

  pub op : IsMessage (kind_of r) (is_first_piece (g.into / g.mtu)) (is_last_piece r.request.shape g.mtu (g.into / g.mtu)) d.opcode
  op = messages.opcode_now w m o l number bytes d a is paused now not_read not_atomic

  writes : is_write d.opcode ≡ true
  writes = op.write ∙ write

  pub mtu_same : l.terms.mtu ≡ g.mtu
  mtu_same = ap (λ (z : Link). z.terms.mtu) (sym req.link) ∙ (ap (λ t. t.mtu) req.back.exchanged ∙ req.back.mtu)

  pub progress_is : IsProgress (asking m o) (machine.end_of m o).domain (regions_of m o.context) l.receiver.progress
  progress_is = progress_now w m o l n d a.stands a.live a.linked req

  pub regions_is : c.regions ≡ regions_of m o.context
  regions_is = (same_here w m o l n d a.stands a.live a.linked req).regions

  last_fills : (b : Bool) → is_last_piece r.request.shape g.mtu (g.into / g.mtu) ≡ b → fills g count ≡ b
  last_fills b h = sym (messages.last_now w m o l number bytes d a is paused now not_read not_atomic) ∙ h

  bytes_are : count ≡ piece_bytes (size_of r) g.into g.mtu
  bytes_are = messages.bytes_now w m o l number bytes d a is paused now not_read not_atomic

  begun : (g.into ≡ 0) ⊎ (g.into < size_of r)
  begun = messages.begun_now w m o l number bytes d a is paused now not_read not_atomic

  filled_size : fills g count ≡ true → g.into + count ≡ size_of r
  filled_size h = eq (g.into + count) (size_of r) h
    where
      eq : (a b : ℕ) → (a == b) ≡ true → a ≡ b
      eq a b t = grind (arith, nat_tests, eqb_tells a b, t)

  pub more_size : fills g count ≡ false → (count ≡ g.mtu) × (g.into + count < size_of r)
  more_size h =
      let more = not_last (size_of r) g.into g.mtu begun (ap (λ k. g.into + k == size_of r) (sym bytes_are) ∙ h) in
      (bytes_are ∙ more.0, omega (arith, more, bytes_are))

  pub within_size : g.into + count ≤ size_of r
  within_size = elim begun [
    | inl z ↦ omega (arith, z, bytes_are)
    | inr s ↦ omega (arith, s, bytes_are)
  ]

  -- ---- what is found, by what is in progress

  module _ (granted' : is_granted_in (machine.end_of m o).domain (regions_of m o.context) r ≡ true) (domain : e.domain ≡ (machine.end_of m o).domain) where
    first_piece : g.into ≡ 0 → l.receiver.progress ≡ NoMessage → IsWriteAt c e l d (regions_of m o.context) r g.into
    unfolding place_of
    first_piece none idle =
        let zero_of : g.into / g.mtu ≡ 0 = ap (λ k. k / g.mtu) none ∙ mtu_is (λ k. 0 / k ≡ 0) (omega arith) (omega arith) (omega arith) (omega arith) (omega arith) g.mtu (mtu_now w m o l number bytes d a is paused now) in
        let first : is_first_piece (g.into / g.mtu) ≡ true = is_zero (g.into / g.mtu) 0 zero_of in
        let h : Reth = record { address = r.request.shape.remote; rkey = r.request.shape.rkey; length = r.request.shape.length } in
        let reth : d.reth ≡ Some h = messages.reth_now w m o l number bytes d a is paused now not_read not_atomic ∙ ((λ i. when (first i && write i) h)) in
        let atomic : d.atomic ≡ None = messages.atomic_none w m o l number bytes d a is paused now not_read not_atomic in
        let t = target_first c e d h (regions_of m o.context) (machine.end_of m o).domain r regions_is domain atomic reth op.read refl refl refl write granted' in
        let part : part_of d.opcode ≡ part true (is_last_piece r.request.shape g.mtu (g.into / g.mtu)) = op.part ∙ ap (λ b. part b (is_last_piece r.request.shape g.mtu (g.into / g.mtu))) first in
        let at_place : place_of t.0 d.reth l.receiver.progress ≡ record { region = t.0.keys.local; off = r.request.shape.remote - t.0.base; length = size_of r; done = 0 } = ap (λ z. place_of t.0 z l.receiver.progress) reth in
        record {
          valid = write_first_valid l d h (is_last_piece r.request.shape g.mtu (g.into / g.mtu)) idle part writes op.read reth atomic (messages.size_small w m o l number bytes d a is paused now not_read not_atomic)
              (λ b. (omega (arith, filled_size (last_fills true b), none), omega (arith, messages.fits_mtu w m o l number bytes d a is paused now not_read not_atomic, mtu_same)))
              (λ b. (omega (arith, (more_size (last_fills false b)).0, mtu_same), omega (arith, (more_size (last_fills false b)).1)));
          region = t.0;
          found = t.1;
          place = λ some.
              let by = t.2 (omega (arith, some, within_size)) in
              record {
                length = ap (λ z. z.length) at_place;
                done = ap (λ z. z.done) at_place ∙ sym none;
                writing = record {
                  region = t.0;
                  there = by.there;
                  local = sym (ap (λ z. z.region) at_place);
                  remote = by.named;
                  place = omega (arith, ap (λ z. z.off) at_place, held_low t.0 r.request.shape.remote (size_of r) by.held);
                };
              };
          size = ap (λ z. z.length) at_place;
          done = ap (λ z. z.done) at_place ∙ sym none;
        }

    later_piece : (region off count' done : ℕ) → l.receiver.progress ≡ InWrite region off count' done → IsProgress (asking m o) (machine.end_of m o).domain (regions_of m o.context) (InWrite region off count' done) → IsWriteAt c e l d (regions_of m o.context) r g.into
    unfolding place_of target
    later_piece region off count' done there h =
        let some : 1 ≤ g.into / g.mtu = some_pieces g.into g.mtu (mtu_now w m o l number bytes d a is paused now) (messages.whole_now w m o l number bytes d a is paused now not_read not_atomic) (omega (arith, h.0, h.1)) in
        let first : is_first_piece (g.into / g.mtu) ≡ false = not_zero (g.into / g.mtu) some in
        let reth : d.reth ≡ None = messages.reth_now w m o l number bytes d a is paused now not_read not_atomic ∙ ap (λ b. when (b && kinds.is_write (kind_of r)) (record { address = r.request.shape.remote; rkey = r.request.shape.rkey; length = r.request.shape.length })) first in
        let atomic : d.atomic ≡ None = messages.atomic_none w m o l number bytes d a is paused now not_read not_atomic in
        let part : part_of d.opcode ≡ part false (is_last_piece r.request.shape g.mtu (g.into / g.mtu)) = op.part ∙ ap (λ b. part b (is_last_piece r.request.shape g.mtu (g.into / g.mtu))) first in
        let at_place : place_of no_region d.reth l.receiver.progress ≡ record { region = region; off = off; length = count'; done = done } = λ i. place_of no_region (reth i) (there i) in
        record {
          valid = write_later_valid l d (is_last_piece r.request.shape g.mtu (g.into / g.mtu)) region off count' done there part writes op.read reth atomic (omega (arith, messages.size_small w m o l number bytes d a is paused now not_read not_atomic, h.3))
              (λ b. (omega (arith, filled_size (last_fills true b), h.1, h.3), some_left (last_fills true b) h, omega (arith, messages.fits_mtu w m o l number bytes d a is paused now not_read not_atomic, mtu_same)))
              (λ b. (omega (arith, (more_size (last_fills false b)).0, mtu_same), omega (arith, (more_size (last_fills false b)).1, h.1, h.3)));
          region = no_region;
          found = ap (target_of c e d) atomic ∙ ap (reth_target c e d.opcode) reth;
          place = λ n. record {
            length = ap (λ z. z.length) at_place ∙ h.3;
            done = ap (λ z. z.done) at_place ∙ h.1;
            writing = record { region = h.5.region; there = h.5.there; local = h.5.local ∙ sym (ap (λ z. z.region) at_place); remote = h.5.remote; place = ap (λ z. h.5.region.base + z.off) at_place ∙ h.5.place };
          };
          size = ap (λ z. z.length) at_place ∙ h.3;
          done = ap (λ z. z.done) at_place ∙ h.1;
        }
      where
        not_zero : (k : ℕ) → 1 ≤ k → (k == 0) ≡ false
        not_zero k s = grind (arith, nat_tests, eqb_tells k 0, s)

        some_pieces : (into mtu : ℕ) → is_mtu mtu ≡ true → into % mtu ≡ 0 → 0 < into → 1 ≤ into / mtu
        some_pieces into mtu is' = mtu_is (λ k. into % k ≡ 0 → 0 < into → 1 ≤ into / k) (λ x z. omega (arith, x, z)) (λ x z. omega (arith, x, z)) (λ x z. omega (arith, x, z)) (λ x z. omega (arith, x, z)) (λ x z. omega (arith, x, z)) mtu is'

        some_left : fills g count ≡ true → IsProgress (asking m o) (machine.end_of m o).domain (regions_of m o.context) (InWrite region off count' done) → 1 ≤ count
        some_left f h' = elim begun [ inl z ↦ absurd (omega (arith, z, h'.0, h'.1)) | inr s ↦ omega (arith, s, filled_size f) ]

    pub write_at : IsWriteAt c e l d (regions_of m o.context) r g.into
    write_at = by_progress l.receiver.progress refl progress_is
      where
        by_progress : (p : Progress) → l.receiver.progress ≡ p → IsProgress (asking m o) (machine.end_of m o).domain (regions_of m o.context) p → IsWriteAt c e l d (regions_of m o.context) r g.into
        by_progress NoMessage t h = first_piece h t
        by_progress (InSend done receive) t h = absurd (cc (h.2, not_send))
        by_progress (InWrite region off count' done) t h = later_piece region off count' done t h
