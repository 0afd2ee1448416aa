-- A Run of an end of another connection, as it is seen: nothing changes, or a message is to be copied there.
use Rattle.std.proofs.Common.{arith, ◌≡◌, ◌≢◌, ℕ, ◌+◌, ◌≤◌, List, [], ◌∷◌, ◌++◌, true, false, Bool, refl, sym, subst, ap, ◌∙◌, Some, Option, inl, inr, ne_eqb}
use Rattle.rdma_types.specs.declared.names.Name.{Name}
use Rattle.rdma_types.specs.declared.names.ObjName.{ObjName}
use Rattle.rdma_types.specs.declared.requests.Completion.{Completion}
use Rattle.rdma_types.specs.declared.requests.Keys.{Keys}
use Rattle.rdma_types.specs.declared.requests.Receive.{Receive}
use Rattle.rdma_types.specs.declared.requests.WcKind.TheVariants as wc
use Rattle.rdma_types.specs.declared.requests.WcStatus.TheVariants as status
use Rattle.rdma_types.specs.Kinds.{is_send, kind_of, receive_done, size_of}
use Rattle.rdma_types.specs.Lists.{named}
use Rattle.rdma_types.specs.Memory.{local_key}
use Rattle.rdma_types.specs.Objects.{CompletionQueue, Region, no_region}
use Rattle.packetless_machine.specs.Machine.{End, Machine, end_of, queue_of, regions_of}
use Rattle.packetless_machine.specs.Steps.{advanced, arrivals, current, fills, may_run, next_bytes, receive_for, run}
use Rattle.packetless_machine.specs.Verbs.{region_of}
use Rattle.mailbox_rules.specs.declared.due.Due.{Due}
use Rattle.mailbox_rules.specs.declared.letters.Letter.{Letter}
use Rattle.mailbox_rules.specs.Histories.{Placed}
use Rattle.mailbox_rules.specs.Opening.{connection_of, queue_name, receiver, receiver_end, receiver_key, receiver_region, sender, sender_end, sender_key, sender_region}
use Rattle.mailbox_rules.specs.State.{Channel}
use Rattle.law_mailbox.specs.Kept.{IsKept, IsOpened, Sight, dues_of, sight_of}
use Rattle.law_mailbox.specs.Moves.{Gains, OthersGain}
use Rattle.law_mailbox.specs.Seen.{IsOf, IsSeen, Moved, Moves, Stays}
use Rattle.law_mailbox.proofs.connection.FreeRuns as free
use Rattle.law_mailbox.proofs.queue_room.Gaining.{gains_between}
use Rattle.law_mailbox.proofs.connection.Longer.{dues_both}
use Rattle.law_mailbox.proofs.connection.OtherBytes.{IsNoneDue}
use Rattle.law_mailbox.proofs.connection.Others.{IsElsewhere, elsewhere}
use Rattle.law_mailbox.proofs.connection.Puts.{others_put}
use Rattle.law_mailbox.proofs.opening.Remains.{IsRegionKept, kept_elsewhere, regions_kept, remains}
use Rattle.law_mailbox.proofs.connection.SenderRuns as sending
use Rattle.law_mailbox.proofs.connection.SenderRuns.{MayBeRun, may_be_run, nothing_arrives, one_arrives}
use Rattle.law_mailbox.proofs.connection.Sights.{region_same}
use Rattle.law_mailbox.proofs.connection.Towards.{RunsTowards, advanced_alike, met_alike, met_end, met_regions, queue_more, queue_others, queues_still, received_alike}

-- a message that is whole is due where its end is
received_elsewhere : (i : ℕ) (x : End) (v : Receive) (size : ℕ) (imm : Option ℕ) → connection_of x.number ≢ i → IsNoneDue i (dues_of 0 (receive_done x.number v wc.Recv status.Success size imm ∷ []))
unfolding receive_done
received_elsewhere i x v size imm other = record { copied = rw (ne_eqb (connection_of x.number) i other) refl; bodied = refl; slotted = refl; reposted = refl; fetched = refl; freed = refl }

nothing_due : (i : ℕ) → IsNoneDue i []
nothing_due i = record { copied = refl; bodied = refl; slotted = refl; reposted = refl; fetched = refl; freed = refl }

module _ (m : Machine) (owed : List Due) (i j : ℕ) (apart : sender i ≢ sender j) (other : i ≢ j) (positive : 1 ≤ i) (positive' : 1 ≤ j) (x : IsOpened m i) (y : IsOpened m j)
    (c : Channel) (sent : List Letter) (open' : List Placed) (h : IsKept j (sight_of m owed j) c sent open') (n : ℕ) where
  sender_place : IsElsewhere m i (sender_end j)
  sender_place = elsewhere m i j apart y (sender_end j) (inl refl)

  receiver_place : IsElsewhere m i (receiver_end j)
  receiver_place = elsewhere m i j apart y (receiver_end j) (inr refl)

  -- ---- a message runs there

  module _ (r : MayBeRun m (sender_end j) (receiver_end j) n) where
    abbrev v : Receive
    v = (sending.sender_fits m owed j positive' y c sent open' h n r).0

    received : receive_for (end_of m (receiver_end j)) ≡ Some v
    received = (sending.sender_fits m owed j positive' y c sent open' h n r).1

    met_sends : is_send (kind_of (current (end_of m (sender_end j)))) ≡ true
    met_sends = (sending.towards m owed j positive' y c sent open' h n r v received).sends

    met : RunsTowards m (sender_end j) (receiver_end j) v n
    met = sending.met m owed j positive' y c sent open' h n r v received

    -- the region of connection i has another key
    other_key : local_key (named (λ z. z.name) no_region (receiver_region i).name (regions_of m receiver)) ≢ v.lkey
    unfolding region_of
    other_key e =
        let known : v.lkey ≡ receiver_key j = ap (λ (w : Receive). w.lkey) (sending.receive_known m owed j positive' y c sent open' h n r v received) in
        let keys : receiver_key i ≡ receiver_key j = ap (λ (k : Keys). k.local) (sym x.receiver_region_is.keyed) ∙ (e ∙ known) in
        other (omega (arith, keys))

    region_stays : region_of (run m (sender_end j) n) (receiver_region i) ≡ region_of m (receiver_region i)
    unfolding region_of
    region_stays =
        ap (named (λ z. z.name) no_region (receiver_region i).name) met.regions_here
        ∙ others_put local_key v.lkey (v.local + (end_of m (sender_end j)).into) (next_bytes (end_of m (sender_end j)) n) (receiver_region i).name (regions_of m receiver) other_key

    none_due : IsNoneDue i (dues_of 0 (arrivals (end_of m (sender_end j)) n (end_of m (receiver_end j))))
    none_due = by (fills (end_of m (sender_end j)) n) refl
      where
        by : (b : Bool) → fills (end_of m (sender_end j)) n ≡ b → IsNoneDue i (dues_of 0 (arrivals (end_of m (sender_end j)) n (end_of m (receiver_end j))))
        by true filled =
            let e : End = end_of m (sender_end j) in
            let z : End = end_of m (receiver_end j) in
            subst (λ (more : List Completion). IsNoneDue i (dues_of 0 more)) (sym (one_arrives e n z v (current e) filled received refl met_sends)) (received_elsewhere i z v (size_of (current e)) (current e).request.shape.imm (λ g. other (sym g ∙ h.number)))
        by false unfilled = subst (λ (more : List Completion). IsNoneDue i (dues_of 0 more)) (sym (nothing_arrives (end_of m (sender_end j)) n (end_of m (receiver_end j)) unfilled)) (nothing_due i)

    abbrev dues_then : List Due
    dues_then = owed ++ ((dues_of 0 (queue_of m receiver queue_name).entries ++ dues_of 0 (arrivals (end_of m (sender_end j)) n (end_of m (receiver_end j)))) ++ dues_of i (queue_of m (sender i) queue_name).entries)

    run_sight : sight_of (run m (sender_end j) n) owed i ≡ record (sight_of m owed i) { dues = dues_then }
    run_sight =
        let e : End = end_of m (sender_end j) in
        let z : End = end_of m (receiver_end j) in
        let here : dues_of 0 (queue_of (run m (sender_end j) n) receiver queue_name).entries ≡ dues_of 0 (queue_of m receiver queue_name).entries ++ dues_of 0 (arrivals e n z) =
        ap (λ (u : CompletionQueue). dues_of 0 u.entries)
        (queue_more m (run m (sender_end j) n) (sender_end j) (receiver_end j) (advanced e n) (met_end m (sender_end j) (receiver_end j) n) (met_regions m (sender_end j) (receiver_end j) v n) (arrivals e n z) met y.receiver_joined.receive_queue y.receiver_queue)
        ∙ dues_both 0 (queue_of m receiver queue_name).entries (arrivals e n z) in
        let elsewhere' : dues_of i (queue_of (run m (sender_end j) n) (sender i) queue_name).entries ≡ dues_of i (queue_of m (sender i) queue_name).entries =
        ap (λ (u : CompletionQueue). dues_of i u.entries)
        (queue_others m (run m (sender_end j) n) (sender_end j) (receiver_end j) (advanced e n) (met_end m (sender_end j) (receiver_end j) n) (met_regions m (sender_end j) (receiver_end j) v n) (arrivals e n z) met y.receiver_joined.receive_queue y.receiver_queue (sender i) (λ g. cc)) in
        λ k. record {
          sender = met.others (sender_end i) sender_place.no_sender receiver_place.no_sender k;
          receiver = met.others (receiver_end i) sender_place.no_receiver receiver_place.no_receiver k;
          stored = (region_same m (run m (sender_end j) n) (sender_region i) (met.regions_elsewhere (sender i) (λ g. cc)) k).bytes;
          landed = (region_stays k).bytes;
          dues = owed ++ (here k ++ elsewhere' k);
        }

    still : IsOpened (run m (sender_end j) n) i
    still =
        let e : End = end_of m (sender_end j) in
        let z : End = end_of m (receiver_end j) in
        remains m (run m (sender_end j) n) i met.there
        (met_alike m (run m (sender_end j) n) (sender_end j) (receiver_end j) (advanced e n) (met_end m (sender_end j) (receiver_end j) n) (met_regions m (sender_end j) (receiver_end j) v n) (arrivals e n z) met (advanced_alike e n) (received_alike (current e).request.shape (fills e n) z))
        (queues_still m (run m (sender_end j) n) (sender_end j) (receiver_end j) (advanced e n) (met_end m (sender_end j) (receiver_end j) n) (met_regions m (sender_end j) (receiver_end j) v n) (arrivals e n z) met y.receiver_joined.receive_queue y.receiver_queue)
        (regions_kept (regions_of m (sender i)) (regions_of (run m (sender_end j) n) (sender i)) (sender_region i).name (sender_key i) (met.regions_elsewhere (sender i) (λ g. cc)))
        (subst (λ (rs : List Region). IsRegionKept (regions_of m receiver) rs (receiver_region i).name (receiver_key i)) (sym met.regions_here)
        (kept_elsewhere local_key v.lkey (v.local + e.into) (next_bytes e n) (receiver_region i).name (receiver_key i) (regions_of m receiver) other_key))
        x

    pub other_message_runs : IsSeen i owed m (run m (sender_end j) n)
    other_message_runs =
        let none = none_due in
        let gains : Gains i (sight_of m owed i).dues dues_then [] [] [] =
        gains_between i owed (dues_of 0 (queue_of m receiver queue_name).entries) (queue_of m (sender i) queue_name).entries (dues_of 0 (arrivals (end_of m (sender_end j)) n (end_of m (receiver_end j)))) [] [] positive
        none.copied none.bodied none.slotted none.reposted none.fetched none.freed in
        record { moves = subst (λ (s : Sight). Moves i (sight_of m owed i) s) (sym run_sight) (Moved Stays (OthersGain dues_then gains)); opened = still }

  -- ---- a Send of no bytes acts there

  module _ (r : MayBeRun m (receiver_end j) (sender_end j) n) where
    abbrev w : Receive
    w = (free.free_fits m owed j positive' y c sent open' h n r).0

    met_there : RunsTowards m (receiver_end j) (sender_end j) w n
    met_there = free.met m owed j positive' y c sent open' h n r w (free.free_fits m owed j positive' y c sent open' h n r).1

    free_sight : sight_of (run m (receiver_end j) n) owed i ≡ sight_of m owed i
    free_sight =
        let e : End = end_of m (receiver_end j) in
        let z : End = end_of m (sender_end j) in
        let queues : (d : Name) → d ≢ sender j → queue_of (run m (receiver_end j) n) d queue_name ≡ queue_of m d queue_name =
        queue_others m (run m (receiver_end j) n) (receiver_end j) (sender_end j) (advanced e n) (met_end m (receiver_end j) (sender_end j) n) (met_regions m (receiver_end j) (sender_end j) w n) (arrivals e n z) met_there y.sender_joined.receive_queue y.sender_queue in
        λ k. record {
          sender = met_there.others (sender_end i) receiver_place.no_sender sender_place.no_sender k;
          receiver = met_there.others (receiver_end i) receiver_place.no_receiver sender_place.no_receiver k;
          stored = (region_same m (run m (receiver_end j) n) (sender_region i) (met_there.regions_elsewhere (sender i) apart) k).bytes;
          landed = (region_same m (run m (receiver_end j) n) (receiver_region i) (met_there.regions_elsewhere receiver (λ g. cc)) k).bytes;
          dues = owed ++ (dues_of 0 (queues receiver (λ g. cc) k).entries ++ dues_of i (queues (sender i) apart k).entries);
        }

    pub other_free_runs : IsSeen i owed m (run m (receiver_end j) n)
    other_free_runs =
        let e : End = end_of m (receiver_end j) in
        let z : End = end_of m (sender_end j) in
        record {
          moves = subst (λ (s : Sight). Moves i (sight_of m owed i) s) (sym free_sight) Stays;
          opened =
              remains m (run m (receiver_end j) n) i met_there.there
              (met_alike m (run m (receiver_end j) n) (receiver_end j) (sender_end j) (advanced e n) (met_end m (receiver_end j) (sender_end j) n) (met_regions m (receiver_end j) (sender_end j) w n) (arrivals e n z) met_there (advanced_alike e n) (received_alike (current e).request.shape (fills e n) z))
              (queues_still m (run m (receiver_end j) n) (receiver_end j) (sender_end j) (advanced e n) (met_end m (receiver_end j) (sender_end j) n) (met_regions m (receiver_end j) (sender_end j) w n) (arrivals e n z) met_there y.sender_joined.receive_queue y.sender_queue)
              (regions_kept (regions_of m (sender i)) (regions_of (run m (receiver_end j) n) (sender i)) (sender_region i).name (sender_key i) (met_there.regions_elsewhere (sender i) apart))
              (regions_kept (regions_of m receiver) (regions_of (run m (receiver_end j) n) receiver) (receiver_region i).name (receiver_key i) (met_there.regions_elsewhere receiver (λ g. cc)))
              x;
        }

  -- .. where it may
  pub other_runs : (q : ObjName) → IsOf j q → may_run m q n ≡ true → IsSeen i owed m (run m q n)
  other_runs q (inl e) may =
      subst (λ (o : ObjName). IsSeen i owed m (run m o n)) (sym e)
      (other_message_runs (may_be_run m (sender_end j) (receiver_end j) n y.sender_joined.peer_is (subst (λ (o : ObjName). may_run m o n ≡ true) e may)))
  other_runs q (inr e) may =
      subst (λ (o : ObjName). IsSeen i owed m (run m o n)) (sym e)
      (other_free_runs (may_be_run m (receiver_end j) (sender_end j) n y.receiver_joined.peer_is (subst (λ (o : ObjName). may_run m o n ≡ true) e may)))
