-- The expected piece of a Send: its receive, and where its bytes go.
use Rattle.std.proofs.Common.{arith, ◌≡◌, ◌≤◌, ◌+◌, ◌-◌, ℕ, List, [], ◌∷◌, ◌++◌, length, true, false, Bool, refl, sym, ap, ◌∙◌, subst}
use Rattle.std.specs.Prelude.{Option, Some, None, if◌then◌else◌, not, nat_lt, nat_le, ◌==◌, ◌&&◌, ◌||◌, option_to_list}
use Rattle.std.specs.List.{count_by}
use Rattle.std.proofs.lemmas.Bool.Decides.{nat_tests}
use Rattle.rdma_types.specs.declared.names.Name.{Name}
use Rattle.rdma_types.specs.declared.requests.Kind.{Kind}
use Rattle.rdma_types.specs.declared.requests.Kind.TheVariants as kinds'
use Rattle.rdma_types.specs.declared.requests.Receive.{Receive}
use Rattle.rdma_types.specs.Kinds as kinds
use Rattle.rdma_types.specs.Limits.{number_limit}
use Rattle.rdma_types.specs.Lists.{at, has, store}
use Rattle.rdma_types.specs.Memory.{LocalWrite, put, holds, is_granted, local_key}
use Rattle.rdma_types.specs.Objects.{Region, no_region}
use Rattle.rdma_types.specs.declared.answers.RefusalReason.TheVariants as whys
use Rattle.protocol.specs.State as state
use Rattle.protocol.specs.State.{Link, Progress, NoMessage, InSend, InWrite}
use Rattle.protocol.specs.Memory.{landed, written, with_region, stored, region_of_key}
use Rattle.protocol.specs.Wire.{Packet}
use Rattle.protocol.specs.EndWords as words
use Rattle.protocol.specs.EndWords.{in_use_by}
use Rattle.protocol.specs.Responder.{no_repeat, refuses, not_ready, is_too_long, refuses_length, receive_of, bytes_before, send_acts, write_acts, read_acts, atomic_acts, expected_packet, granted_packet, packet_acts, executed, is_invalid, target, target_of, reth_target, is_not_ready, is_send, is_write, is_read_request, part_of, front, place_of}
use Rattle.packetless_machine.specs.Machine.{put_at}
use Rattle.packetless_machine.specs.Steps.{first_receive}
use Rattle.law_simulation.proofs.requests.Opcodes.{part}
use Rattle.law_simulation.proofs.delivery.Regions.{over, put_nothing}
use Rattle.law_simulation.proofs.requests.Written.{granted_region, number_once, contains_has, held_part}
use Rattle.law_simulation.proofs.requests.Runs.{one_number}

pub send_kind : (k : Kind) → kinds.is_send k ≡ true → k ≡ kinds'.Send
send_kind kinds'.Send h = refl
send_kind kinds'.Write h = absurd (cc)
send_kind kinds'.Read h = absurd (cc)
send_kind kinds'.CompareSwap h = absurd (cc)
send_kind kinds'.FetchAdd h = absurd (cc)

pub send_not : (f : Kind → Bool) → f kinds'.Send ≡ false → (k : Kind) → kinds.is_send k ≡ true → f k ≡ false
send_not f is_not k h = ap f (send_kind k h) ∙ is_not

-- ---- valid pieces

pub send_first_valid : (l : Link) (d : Packet) (last : Bool) → l.receiver.progress ≡ NoMessage → part_of d.opcode ≡ part true last → is_write d.opcode ≡ false → is_read_request d.opcode ≡ false → d.atomic ≡ None → (last ≡ true → length d.payload ≤ l.terms.mtu) → (last ≡ false → length d.payload ≡ l.terms.mtu) → is_invalid l d ≡ false
unfolding is_invalid
send_first_valid l d true none place write read atomic whole more = rw (none, place, write, read, atomic) (by (whole refl))
  where
    by : length d.payload ≤ l.terms.mtu → (false || (nat_lt l.terms.mtu (length d.payload) || (false || (false || false)))) ≡ false
    by f = grind (arith, nat_tests, f)
send_first_valid l d false none place write read atomic whole more = rw (none, place, write, read, atomic) (by (more refl))
  where
    by : length d.payload ≡ l.terms.mtu → (false || (not (length d.payload == l.terms.mtu) || (false || (false || false)))) ≡ false
    by f = grind (arith, nat_tests, f)

pub send_later_valid : (l : Link) (d : Packet) (last : Bool) (done : ℕ) (v : Receive) → l.receiver.progress ≡ InSend done v → part_of d.opcode ≡ part false last → is_send d.opcode ≡ true → is_write d.opcode ≡ false → is_read_request d.opcode ≡ false → d.atomic ≡ None → (last ≡ true → (1 ≤ length d.payload) × (length d.payload ≤ l.terms.mtu)) → (last ≡ false → length d.payload ≡ l.terms.mtu) → is_invalid l d ≡ false
unfolding is_invalid
send_later_valid l d true done v there place send write read atomic whole more = rw (there, place, send, write, read, atomic) (by (whole refl).0 (whole refl).1)
  where
    by : 1 ≤ length d.payload → length d.payload ≤ l.terms.mtu → (false || ((length d.payload == 0 || nat_lt l.terms.mtu (length d.payload)) || (false || (false || false)))) ≡ false
    by e f = grind (arith, nat_tests, e, f)
send_later_valid l d false done v there place send write read atomic whole more = rw (there, place, send, write, read, atomic) (by (more refl))
  where
    by : length d.payload ≡ l.terms.mtu → (false || (not (length d.payload == l.terms.mtu) || (false || (false || false)))) ≡ false
    by f = grind (arith, nat_tests, f)

-- a Send names no region
pub target_none : (c : state.Context) (e : state.End) (d : Packet) → d.atomic ≡ None → d.reth ≡ None → target c e d ≡ Some no_region
unfolding target
target_none c e d atomic reth = ap (target_of c e d) atomic ∙ ap (reth_target c e d.opcode) reth

-- ---- the protocol's checks

pub expected_send : (c : state.Context) (e : state.End) (l : Link) (d : Packet) (n : ℕ) (region : Region) → nat_le number_limit (n + 1) ≡ false → is_read_request d.opcode ≡ false → is_invalid l d ≡ false → target c e d ≡ Some region → is_send d.opcode ≡ true → is_not_ready e d ≡ false → nat_lt (receive_of e l.receiver.progress).length (bytes_before None l.receiver.progress + length d.payload) ≡ false →
    expected_packet c e l d n ≡ send_acts c e (executed l d) d n (receive_of e l.receiver.progress) (bytes_before None l.receiver.progress)
unfolding expected_packet packet_acts executed words.with_receiver
expected_send c e l d n region limit read valid found send ready short =
    ap (λ k. if nat_le number_limit (n + k) then no_repeat c else if is_invalid l d then refuses c e l n whys.Invalid else granted_packet c e l d n (target c e d)) (one_number d l.terms.mtu read)
    ∙ (ap (λ b. if b then no_repeat c else if is_invalid l d then refuses c e l n whys.Invalid else granted_packet c e l d n (target c e d)) limit
    ∙ (ap (λ b. if b then refuses c e l n whys.Invalid else granted_packet c e l d n (target c e d)) valid
    ∙ (ap (granted_packet c e l d n) found
    ∙ (ap (λ b. if b then not_ready c l n else if is_too_long e l d then refuses_length c e l n else packet_acts c e (executed l d) d region n) ready
    ∙ ((λ i. if send i && short i then refuses_length c e l n else packet_acts c e (executed l d) d region n)
    ∙ ap (λ b. if b then send_acts c e (executed l d) d n (receive_of e (executed l d).receiver.progress) (bytes_before None (executed l d).receiver.progress) else if is_write d.opcode then write_acts c e (executed l d) d n (place_of region d.reth (executed l d).receiver.progress) else if is_read_request d.opcode then read_acts c e (executed l d) region n d.reth else atomic_acts c e (executed l d) d region n d.atomic) send)))))

-- ---- its bytes go into the receive

-- the region with the local key is the first with it
pub put_stored_local : (lkey a : ℕ) (new : List ℕ) (rs : List Region) → has local_key lkey rs ≡ true → holds (at local_key no_region lkey rs) a (length new) ≡ true → put_at local_key lkey a new rs ≡ store local_key lkey (over (at local_key no_region lkey rs) a new) rs
unfolding put_at at has store
put_stored_local lkey a new [] there held = absurd (cc)
put_stored_local lkey a new (r ∷ rs) there held = by_test (r.keys.local == lkey) there held (put_stored_local lkey a new rs)
  where
    by_test : (b : Bool) → (b || has local_key lkey rs) ≡ true → holds (if b then r else at local_key no_region lkey rs) a (length new) ≡ true →
        (has local_key lkey rs ≡ true → holds (at local_key no_region lkey rs) a (length new) ≡ true → put_at local_key lkey a new rs ≡ store local_key lkey (over (at local_key no_region lkey rs) a new) rs) →
        (if b && holds r a (length new) then over r a new ∷ rs else r ∷ put_at local_key lkey a new rs) ≡ (if b then over (if b then r else at local_key no_region lkey rs) a new ∷ rs else r ∷ store local_key lkey (over (if b then r else at local_key no_region lkey rs) a new) rs)
    by_test true there' held' later = ap (λ b. if b then over r a new ∷ rs else r ∷ put_at local_key lkey a new rs) held'
    by_test false there' held' later = ap (λ z. r ∷ z) (later there' held')

pub landed_put : (c : state.Context) (regions : List Region) (domain : Name) (v : Receive) (into : ℕ) (new : List ℕ) → c.regions ≡ regions → ((k : ℕ) → count_by (λ z. z.keys.local == k) regions ≤ 1) → is_granted local_key regions domain v.lkey v.local v.length LocalWrite ≡ true → into + length new ≤ v.length →
    landed c v.lkey (v.local + into) new ≡ record c { regions = put_at local_key v.lkey (v.local + into) new regions }
unfolding landed written with_region stored region_of_key
landed_put c regions domain v into [] same once granted' within = ap (λ rs. record c { regions = rs }) (same ∙ sym (put_nothing local_key v.lkey (v.local + into) regions))
landed_put c regions domain v into (b ∷ bs) same once granted' within =
    let g = granted_region local_key regions domain v.lkey v.local v.length LocalWrite (omega (arith, within)) granted' in
    let x : Region = g.0 in
    let found : at local_key no_region v.lkey regions ≡ x = ap (λ k. at local_key no_region k regions) (sym g.2.named) ∙ number_once local_key no_region x regions g.2.there (once x.keys.local) in
    let held : holds x (v.local + into) (length (b ∷ bs)) ≡ true = held_part x v.local v.length into (length (b ∷ bs)) g.2.held within in
    let there : has local_key v.lkey regions ≡ true = ap (λ k. has local_key k regions) (sym g.2.named) ∙ contains_has local_key x regions g.2.there in
    ap (λ rs. record c { regions = rs })
    (ap (λ rs. store local_key (at local_key no_region v.lkey rs).keys.local (record (at local_key no_region v.lkey rs) { bytes = put (at local_key no_region v.lkey rs).bytes ((v.local + into) - (at local_key no_region v.lkey rs).base) (b ∷ bs) }) rs) same
    ∙ (ap (λ u. store local_key u.keys.local (over u (v.local + into) (b ∷ bs)) regions) found
    ∙ (ap (λ k. store local_key k (over x (v.local + into) (b ∷ bs)) regions) g.2.named
    ∙ (ap (λ u. store local_key v.lkey (over u (v.local + into) (b ∷ bs)) regions) (sym found)
    ∙ sym (put_stored_local v.lkey (v.local + into) (b ∷ bs) regions there (subst (λ u. holds u (v.local + into) (length (b ∷ bs)) ≡ true) (sym found) held))))))

-- ---- the receive on both sides

pub first_is : (used : Option Receive) (unused : List Receive) (v : Receive) → first_receive used unused ≡ Some v → front (option_to_list used ++ unused) ≡ v
unfolding first_receive
first_is None [] v h = absurd (cc)
first_is None (u ∷ us) v h = cc
first_is (Some u) us v h = cc
