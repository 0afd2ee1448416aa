-- What nodes do changes only what it may, whatever they take from their links.
use Rattle.std.proofs.Common.{arith, ◌≡◌, ◌≢◌, ◌⊎◌, ℕ, ◌==◌, ◌<◌, ◌≤◌, Bool, true, false, List, [], ◌∷◌, ◌++◌, All, Option, None, Some, refl, sym, subst, inl, if◌then◌else◌}
use Rattle.std.proofs.lemmas.Bool.Decides.{nat_tests, eqb_tells}
use Rattle.std.proofs.lemmas.List.Elements.{All-head, All-tail}
use Rattle.protocol.specs.declared.events.Event.{Event}
use Rattle.protocol.specs.declared.events.Event.TheVariants as event
use Rattle.protocol.specs.declared.images.ContextImage.{ContextImage}
use Rattle.protocol.specs.Events.{IsLawfulEvent}
use Rattle.protocol.specs.Lawful.{IsLawful}
use Rattle.protocol.specs.State.{Device}
use Rattle.rdma_types.specs.declared.requests.Address.{Address}
use Rattle.law_arrivals.specs.Touched.{HasDistinctContexts}
use Rattle.law_devices.specs.Sound.{GivesNames, IsSoundDevice}
use Rattle.law_devices.proofs.Law.{new-device, stays-sound}
use Rattle.law_dump_round_trip.proofs.Exact.{AreBytes}
use Rattle.law_dump_round_trip.proofs.Whole.{read_dumps}
use Rattle.law_nodes.specs.Acts.{Act, Along, Does, IsDump, IsOfEnd, MayDo, MayDoAll, Restores, Standing, Stops, Takes, Turns, after_act, beginning}
use Rattle.law_nodes.specs.Bounded.{AreBounded, AreBoundedDeeds, IsBounded, IsOfBytes, IsRunning, MayChangeBy}
use Rattle.law_nodes.specs.Changes.{IsSame}
use Rattle.law_nodes.specs.Composed.{Deed, NodeRun, event_of_deed, moved_on, standing_of, standings_of}
use Rattle.law_nodes.specs.Laws.{NodeIsBounded, NodesAreBounded}
use Rattle.law_nodes.proofs.Changing.{all-same, changes-only, stays-distinct}
use Rattle.law_nodes.proofs.Composing.{DeviceGoes, device_goes, may_run}
use Rattle.law_nodes.proofs.Doers.{GoesOn, along_after, goes_on, is_now, is_then}

-- ---- events

-- a device is sound, and its contexts have names of their own
pub record IsWell (d : Device) : Type 0 where
  pub sound : IsSoundDevice d
  pub apart : HasDistinctContexts d

-- an event keeps it so
record Keeps (e : Event) : Type 0 where
  lawful : IsLawfulEvent e
  names : GivesNames e

abbrev KeepsIf : Option Event → Type 0
KeepsIf None = Unit {0}
KeepsIf (Some e) = Keeps e

are_bytes : (bs : List ℕ) → All (λ b. b < 256) bs → AreBytes bs
are_bytes [] all = tt
are_bytes (b ∷ bs) all = (All-head (λ x. x < 256) b bs all, are_bytes bs (All-tail (λ x. x < 256) b bs all))

-- a dump is of a lawful image
lawful_image : (bytes : List ℕ) (image : ContextImage) → All (λ b. b < 256) bytes → IsDump bytes image → IsLawful image
lawful_image bytes image all dump = (read_dumps bytes (are_bytes bytes all) image dump.0 dump.1 dump.2).lawful

turn_keeps : (e : Event) → IsOfEnd e → Keeps e
turn_keeps (event.Transmit o) of = record { lawful = tt; names = tt }
turn_keeps (event.Expire o) of = record { lawful = tt; names = tt }
turn_keeps (event.RnrOver o) of = record { lawful = tt; names = tt }
turn_keeps other of = absurd of

act_keeps : (s : Standing) (a : Act) → MayDo s a → IsOfBytes a → KeepsIf (event_of_deed a)
act_keeps s (Takes datagram) may bytes = record { lawful = tt; names = tt }
act_keeps s (Turns e) may bytes = turn_keeps e may
act_keeps s (Does e) may bytes = record { lawful = may.lawful; names = may.names }
act_keeps s (Stops name file) may bytes = record { lawful = tt; names = tt }
act_keeps s (Restores file found image removed) may bytes = record { lawful = lawful_image found image bytes may.0; names = tt }
act_keeps s other may bytes = tt

-- ---- acts

well_by : (s : Standing) (a : Act) (o : Option Event) → DeviceGoes s a o → KeepsIf o → IsWell s.device → IsWell (after_act s a).device
well_by s a None goes keeps well = subst IsWell (sym goes) well
well_by s a (Some e) goes keeps well =
    subst IsWell (sym goes) (record { sound = stays-sound s.device e well.sound keeps.lawful keeps.names; apart = stays-distinct s.device e well.sound well.apart })

bounded_by : (s : Standing) (a : Act) → DeviceGoes s a (event_of_deed a) → IsWell s.device → IsBounded s a
bounded_by s a goes well t = by (event_of_deed a) goes
  where
    by : (o : Option Event) → DeviceGoes s a o → IsSame s.device (after_act s a).device t ⊎ MayChangeBy s o t
    by None goes = inl (all-same s.device (after_act s a).device goes t)
    by (Some e) goes = subst (λ d. IsSame s.device d t ⊎ MayChangeBy s (Some e) t) (sym goes) (changes-only s.device e well.sound well.apart t)

-- an act that may be done where all is well
record IsReady (s : Standing) (a : Act) : Type 0 where
  may : MayDo s a
  of_bytes : IsOfBytes a
  well : IsWell s.device

ready : (s : Standing) (acts : List Act) → MayDoAll s acts → All IsOfBytes acts → IsWell s.device → Along IsReady s acts
ready s [] may bytes well = tt
ready s (a ∷ more) may bytes well =
    let of = All-head IsOfBytes a more bytes in
    (record { may = may.0; of_bytes = of; well = well }, ready (after_act s a) more may.1 (All-tail IsOfBytes a more bytes) (well_by s a (event_of_deed a) (device_goes s a may.0) (act_keeps s a may.0 of) well))

bounded : (s : Standing) (a : Act) → IsReady s a → IsBounded s a
bounded s a r = bounded_by s a (device_goes s a r.may) r.well

all_bounded : (s : Standing) (acts : List Act) → Along IsReady s acts → AreBounded s acts
all_bounded s [] are = tt
all_bounded s (a ∷ more) are = (bounded s a are.0, all_bounded (after_act s a) more are.1)

-- ---- runs

begins_well : (id : ℕ) (own : Address) → 1 ≤ id → id ≤ 255 → IsWell (beginning id own).device
begins_well id own some few = record {
  sound = new-device (beginning id own).device some few (omega arith) (omega arith) refl;
  apart = λ i j d lt below. absurd (omega (arith, below));
}

run_is_ready : (n : NodeRun) → IsRunning n → Along IsReady (beginning n.id n.own) (n.prepared ++ n.served)
run_is_ready n r =
    ready (beginning n.id n.own) (n.prepared ++ n.served) (may_run n r.run) r.of_bytes (begins_well n.id n.own r.some_id r.few_ids)

pub node_is_bounded : NodeIsBounded
node_is_bounded n r = all_bounded (beginning n.id n.own) (n.prepared ++ n.served) (run_is_ready n r)

-- ---- orders

served_ready : (n : NodeRun) → IsRunning n → Along IsReady (standing_of n) n.served
served_ready n r = along_after IsReady (beginning n.id n.own) n.prepared n.served (run_is_ready n r)

others_stand : (at : ℕ → Standing) (x : Deed) (id : ℕ) → id ≢ x.node → moved_on at x id ≡ at id
others_stand at x id far = by (x.node == id) refl
  where
    by : (b : Bool) → (x.node == id) ≡ b → (if b then after_act (at id) x.act else at id) ≡ at id
    by true is = absurd (far (grind (arith, nat_tests, eqb_tells x.node id, is)))
    by false is = refl

deeds_bounded : (at : ℕ → Standing) (order : List Deed) → GoesOn IsReady at order → AreBoundedDeeds at order
deeds_bounded at [] on = tt
deeds_bounded at (x ∷ xs) on =
    (record { own = bounded (at x.node) x.act (is_now IsReady at x xs on); others = others_stand at x }, deeds_bounded (moved_on at x) xs (is_then IsReady at x xs on))

pub nodes_are_bounded : NodesAreBounded
nodes_are_bounded nodes order r = deeds_bounded (standings_of nodes) order (goes_on IsReady IsRunning served_ready order nodes r.runs r.of_nodes r.whole)
