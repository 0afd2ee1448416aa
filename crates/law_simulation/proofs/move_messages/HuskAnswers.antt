-- What a husk answers keeps the relation: its NAK_STOPPED says what stays true of the end that it is of.
use Rattle.std.proofs.Common.{arith, ◌≡◌, ◌≤◌, ◌<◌, ◌^◌, ◌⊎◌, ℕ, List, [], ◌∷◌, ◌++◌, true, false, Bool, refl, sym, ap, ◌∙◌, subst, inl, inr}
use Rattle.std.specs.Prelude.{Option, Some, None, ◌==◌, if◌then◌else◌, flat_map, All}
use Rattle.std.proofs.lemmas.Grind.{flat_map-append}
use Rattle.std.proofs.lemmas.List.{append-nil, map-id}
use Rattle.std.proofs.lemmas.List.Elements.{All-nil, All-cons, All-head, All-contains, All-filter}
use Rattle.rdma_types.specs.declared.names.ObjName.{ObjName}
use Rattle.rdma_types.specs.declared.answers.Answer.{Answer}
use Rattle.rdma_types.specs.declared.answers.Answer.TheVariants as answers
use Rattle.rdma_types.specs.declared.answers.Sent.{Sent}
use Rattle.rdma_types.specs.declared.answers.ArrivalEffect.TheVariants as took
use Rattle.rdma_types.specs.Limits.{most_moves}
use Rattle.rdma_types.specs.Lists.{first_that, store}
use Rattle.protocol.specs.Fabric.{flight_of, sending}
use Rattle.protocol.specs.Moves.{nak_stopped}
use Rattle.protocol.specs.State.{World, Device, Flight, Husk, HuskEntry}
use Rattle.protocol.specs.DeviceStep as device
use Rattle.protocol.specs.DeviceStep.{gives, husk_entries, found_in}
use Rattle.protocol.specs.Wire.{Packet, packet_of, wire_of}
use Rattle.protocol.specs.WorldStep.{with_device, ran, device_with, same_address}
use Rattle.packetless_machine.specs.Machine as machine
use Rattle.packetless_machine.specs.Machine.{Machine}
use Rattle.law_simulation.specs.Views.{Net, Side, net_of, name_of, peer, side_of, requests_of}
use Rattle.law_simulation.specs.Facts.{Fact, HuskFact, BytesFact, MoveFact}
use Rattle.law_simulation.specs.Stands.{Stands, IsPlaced, husks_of}
use Rattle.law_simulation.proofs.relation.Tables.{map-store_found}
use Rattle.law_simulation.proofs.relation.Worlds.{ids_once}
use Rattle.law_simulation.proofs.relation.Grown.{are_made, number_given}
use Rattle.law_simulation.proofs.relation.EventNetwork.{sent_changed}
use Rattle.law_simulation.proofs.stop_restore.Lists.{all_before, all_after, all_of_contained}
use Rattle.law_simulation.proofs.delivery.Lifted.{IsAnswer, answer_fact, sent_world, both_sent, answers_sent}
use Rattle.law_simulation.proofs.move_messages.Wires.{reads_back, psn_small, stopped_fits, stopped_class}

-- a step that leaves a device as it was, and sends nothing, leaves the world as it was
pub ran_found : (w : World) (m : Machine) (test : Device → Bool) (d : Device) (a : Answer) → IsPlaced w m → first_that test w.devices ≡ Some d → (ran w (device.answers d a)).world ≡ w
unfolding ran with_device sending
ran_found w m test d a placed found =
    let devices : store (λ e. e.id) d.id d w.devices ≡ w.devices =
    sym (map-id (store (λ e. e.id) d.id d w.devices))
    ∙ (map-store_found (λ e. e) (λ e. e.id) test d d w.devices (ids_once w m placed) found refl ∙ map-id w.devices) in
    λ i. record { devices = devices i; sent = append-nil w.sent i; carried = w.carried; stopped = w.stopped }

-- ---- the entry

-- what holds of the parts of all holds of those of one that is found
of_found : {B : Type 0} (P : B → Type 0) (f : Husk → List B) (test : Device → Bool) (d : Device) (ds : List Device) → first_that test ds ≡ Some d → All P (flat_map f (flat_map (λ e. e.husks) ds)) → All P (flat_map f d.husks)
unfolding first_that
of_found P f test d [] h all = absurd (cc)
of_found {B} P f test d (x ∷ ds) h all =
    let split : All P (flat_map f x.husks ++ flat_map f (flat_map (λ e. e.husks) ds)) = subst (All P) (flat_map-append f x.husks (flat_map (λ e. e.husks) ds)) all in
    by_test (test x) h (all_before P (flat_map f x.husks) (flat_map f (flat_map (λ e. e.husks) ds)) split) (λ g. of_found P f test d ds g (all_after P (flat_map f x.husks) (flat_map f (flat_map (λ e. e.husks) ds)) split))
  where
    same : (a b : Device) → Some a ≡ Some b → a ≡ b
    same a b e = cc

    by_test : (b : Bool) → (if b then Some x else first_that test ds) ≡ Some d → All P (flat_map f x.husks) → (first_that test ds ≡ Some d → All P (flat_map f d.husks)) → All P (flat_map f d.husks)
    by_test true e here later = subst (λ z. All P (flat_map f z.husks)) (same x d e) here
    by_test false e here later = later e

entry_fact : (w : World) (m : Machine) (test : Device → Bool) (d : Device) (n : ℕ) (h : HuskEntry) (hs : List HuskEntry) → Stands w m → first_that test w.devices ≡ Some d → husk_entries n d.husks ≡ h ∷ hs → HuskFact (net_of w m) h
unfolding husk_entries
entry_fact w m test d n h hs s found entries =
    All-head (HuskFact (net_of w m)) h hs
    (subst (All (HuskFact (net_of w m))) entries
    (All-filter (λ x. x.number == n) (HuskFact (net_of w m)) (flat_map (λ x. x.entries) d.husks)
    (of_found (HuskFact (net_of w m)) (λ x. x.entries) test d w.devices found
    (all_of_contained (HuskFact (net_of w m)) (flat_map (λ x. x.entries) (husks_of w)) s.husks))))

few : (moves own : ℕ) (x : Side) → own ≡ x.link.moving.own → own ≤ most_moves → (moves < x.link.moving.own) ⊎ ((x.carried ≡ true) × (x.rts ≡ true) × (moves ≡ x.link.moving.own)) → moves < 2 ^ 24
few moves own x e limit (inl h) = omega (arith, e, limit, h)
few moves own x e limit (inr h) = omega (arith, e, limit, h.2)

-- ---- the answer

-- the number of an end that was made has 24 bits
pub number_bits : (w : World) (m : Machine) (o : ObjName) → Stands w m → machine.has_end m o ≡ true → (machine.end_of m o).number < 2 ^ 24
number_bits w m o s there = All-contains (λ n. n < 2 ^ 24) m.numbers (machine.end_of m o).number s.counted.numbers_said (number_given w m s o there)

module _ (w : World) (m : Machine) (f : Flight) (d : Device) (p : Packet) (h : HuskEntry) (hs : List HuskEntry) (s : Stands w m) (is : device_with w f.to ≡ Some d) (read : packet_of f.bytes ≡ Some p) (fact : Fact (net_of w m) f) (entries : husk_entries p.dest d.husks ≡ h ∷ hs) where
  abbrev n : Net
  n = net_of w m

  abbrev o : ObjName
  o = name_of m h.number

  abbrev answer : Sent
  answer = record { to = f.from; number = None; bytes = wire_of (nak_stopped h p.psn) }

  left : HuskFact n h
  left = entry_fact w m (λ e. same_address e.address f.to) d p.dest h hs s is entries

  spelled_by : (r : Option Packet) → packet_of f.bytes ≡ r → BytesFact n f.number f.bytes r → (q : Packet) → r ≡ Some q → f.bytes ≡ wire_of q
  spelled_by None e b q g = absurd b
  spelled_by (Some x) e b q g = let same : x ≡ q = cc in subst (λ z. f.bytes ≡ wire_of z) same b.spelled

  psn : p.psn < 2 ^ 24
  psn = psn_small p f.bytes (spelled_by (packet_of f.bytes) refl fact p read) read

  peer_number : h.peer < 2 ^ 24
  peer_number = omega (arith, left.peer, number_bits w m (peer n o) s (are_made w m s (peer n o) (s.joined o left.connected).connected))

  moves : h.moves < 2 ^ 24
  moves = few h.moves (n.side o).link.moving.own (n.side o) refl (s.joined o left.connected).heard_of.limit left.count

  is_answer : IsAnswer (side_of w (machine.end_of m o).peer) (side_of w o) (requests_of (machine.end_of m (machine.end_of m o).peer)) (requests_of (machine.end_of m o)) answer
  is_answer = record {
    packet = nak_stopped h p.psn;
    read = reads_back (nak_stopped h p.psn) (stopped_fits h p.psn peer_number psn moves);
    fact = record {
      spelled = refl;
      connected = (s.joined o left.connected).connected;
      dest = left.peer;
      fact = subst (MoveFact (n.side o)) (sym (stopped_class h p.psn)) left.count;
    };
  }

  pub answered_stands : Stands (ran w (gives d (answers.Took took.Stopped 0 1) (answer ∷ []))).world m
  unfolding sending
  answered_stands =
      subst (λ z. Stands z m) (sym (sent_world w d (answers.Took took.Stopped 0 1) (answer ∷ []) ∙ ap (λ (z : World). record z { sent = sending w.sent d.address (answer ∷ []) }) (ran_found w m (λ e. same_address e.address f.to) d (answers.Took took.Stopped 0 1) s.placed is)))
      (sent_changed w m (sending w.sent d.address (answer ∷ [])) s (both_sent n w.sent _ s.sent (answers_sent n d.address (answer ∷ [])
      (All-cons (λ z. Fact n (flight_of d.address z)) answer [] (answer_fact w m o d.address answer s left.connected is_answer) (All-nil _)))))
