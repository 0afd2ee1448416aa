-- A Run of a receiver's end, as it is seen: a Send of no bytes acts, and a slot is to be freed.
use Rattle.std.proofs.Common.{arith, ◌≡◌, ◌≢◌, ℕ, suc, ◌+◌, ◌%◌, ◌≤◌, List, [], ◌∷◌, ◌++◌, true, Bool, refl, sym, subst, ap, ◌∙◌, Some, None, ◌⊎◌, inl, inr, append_assoc, append-nil, eq-eqb, ne_eqb}
use Rattle.std.proofs.lemmas.List.Concat.{flat_map-append}
use Rattle.std.proofs.lemmas.List.Elements.{All-push}
use Rattle.rdma_types.specs.declared.names.ObjName.{ObjName}
use Rattle.rdma_types.specs.declared.requests.Kind.{Kind}
use Rattle.rdma_types.specs.declared.requests.Kind.TheVariants as kind
use Rattle.rdma_types.specs.declared.requests.Receive.{Receive}
use Rattle.rdma_types.specs.declared.requests.WcKind.TheVariants as wc
use Rattle.rdma_types.specs.declared.requests.WcStatus.TheVariants as status
use Rattle.rdma_types.specs.Kinds.{is_read, is_send, kind_of, receive_done, size_of}
use Rattle.rdma_types.specs.Memory.{cut, local_key}
use Rattle.rdma_types.specs.Objects.{CompletionQueue, Posted}
use Rattle.packetless_machine.specs.declared.reply.Reply.TheVariants.{Finished}
use Rattle.packetless_machine.specs.Machine.{Machine, End, end_of, put_at, queue_of, regions_of}
use Rattle.packetless_machine.specs.Steps.{advanced, arrivals, current, fills, fits, may_run_kind, next_bytes, peer_of, receive_for, receiving, run, unused_after}
use Rattle.law_simulation.proofs.delivery.Regions.{put_nothing}
use Rattle.law_simulation.proofs.requests.Running.{advanced_filled}
use Rattle.mailbox_rules.specs.declared.due.Due.{Due}
use Rattle.mailbox_rules.specs.declared.letters.Letter.{Letter}
use Rattle.mailbox_rules.specs.Histories.{Placed}
use Rattle.mailbox_rules.specs.Opening.{depth, queue_name, receiver, receiver_end, receiver_key, receiver_region, sender, sender_end, sender_key, sender_region}
use Rattle.mailbox_rules.specs.State.{Channel}
use Rattle.law_mailbox.specs.Kept.{IsKept, IsOpened, IsPlain, Sight, bodies, body_in, copies, copy_in, dues_of, fetch_in, fetches, free_in, freed_as, frees, repost_in, reposts, sight_of, slot_in, slots}
use Rattle.law_mailbox.specs.Moves.{FreeActs, Gains, SenderStays}
use Rattle.law_mailbox.specs.Seen.{IsSeen, Moved, Moves, Stays}
use Rattle.law_mailbox.proofs.connection.Longer.{dues_both}
use Rattle.law_mailbox.proofs.connection.Quiet.{is_even_read, is_odd_freed, parity}
use Rattle.law_mailbox.proofs.opening.Remains.{regions_kept, remains}
use Rattle.law_mailbox.proofs.connection.SenderRuns.{MayBeRun, all_received, fitting, one_arrives}
use Rattle.law_mailbox.proofs.connection.Sights.{region_same}
use Rattle.law_mailbox.proofs.connection.Towards.{IsTowards, RunsTowards, advanced_alike, met_alike, met_end, met_regions, queue_more, queue_others, queues_still, received_alike, runs_towards}

-- ---- a slot that is to be freed

-- a slot is gained, where a completion of the sender stands behind all
slot_gained : (i : ℕ) (ds more : List Due) (place : ℕ) → copies i more ≡ [] → bodies i more ≡ [] → slots i more ≡ place ∷ [] → reposts i more ≡ [] → fetches i more ≡ [] → frees i more ≡ [] → Gains i ds (ds ++ more) [] [] (place ∷ [])
slot_gained i ds more place a b d e f g = record {
  copied_more = flat_map-append (copy_in i) ds more ∙ ap (λ zs. copies i ds ++ zs) a;
  bodies_more = flat_map-append (body_in i) ds more ∙ ap (λ zs. bodies i ds ++ zs) b;
  slots_more = flat_map-append (slot_in i) ds more ∙ ap (λ zs. slots i ds ++ zs) d;
  reposts_same = flat_map-append (repost_in i) ds more ∙ (ap (λ zs. reposts i ds ++ zs) e ∙ append-nil (reposts i ds));
  fetches_same = flat_map-append (fetch_in i) ds more ∙ (ap (λ zs. fetches i ds ++ zs) f ∙ append-nil (fetches i ds));
  frees_same = flat_map-append (free_in i) ds more ∙ (ap (λ zs. frees i ds ++ zs) g ∙ append-nil (frees i ds));
}

slot_due : (i : ℕ) (x : End) (v : Receive) → 1 ≤ i → slots i (dues_of i (receive_done x.number v wc.Recv status.Success 0 None ∷ [])) ≡ v.id % depth ∷ []
unfolding receive_done
slot_due i x v positive = let no_zero : i ≢ 0 = λ e. omega (arith, e, positive) in rw (ne_eqb i 0 no_zero, eq-eqb i i refl) refl

nothing_else : (i : ℕ) (x : End) (v : Receive) → 1 ≤ i → (copies i (dues_of i (receive_done x.number v wc.Recv status.Success 0 None ∷ [])) ≡ []) × (bodies i (dues_of i (receive_done x.number v wc.Recv status.Success 0 None ∷ [])) ≡ [])
    × (reposts i (dues_of i (receive_done x.number v wc.Recv status.Success 0 None ∷ [])) ≡ []) × (fetches i (dues_of i (receive_done x.number v wc.Recv status.Success 0 None ∷ [])) ≡ []) × (frees i (dues_of i (receive_done x.number v wc.Recv status.Success 0 None ∷ [])) ≡ [])
unfolding receive_done
nothing_else i x v positive = let no_zero : i ≢ 0 = λ e. omega (arith, e, positive) in rw (ne_eqb i 0 no_zero) (refl, refl, refl, refl, refl)

not_run : (m : Machine) (q : ObjName) (n : ℕ) (k : Kind) → is_read k ≡ true → may_run_kind m q n k ≡ true → ⊥
unfolding may_run_kind
not_run m q n kind.Read reads may = cc
not_run m q n kind.Write reads may = cc
not_run m q n kind.Send reads may = cc
not_run m q n kind.CompareSwap reads may = cc
not_run m q n kind.FetchAdd reads may = cc

module _ (m : Machine) (owed : List Due) (i : ℕ) (positive : 1 ≤ i) (opened : IsOpened m i) (c : Channel) (sent : List Letter) (open' : List Placed) (h : IsKept i (sight_of m owed i) c sent open')
    (n : ℕ) (r : MayBeRun m (receiver_end i) (sender_end i) n) where
  abbrev e : End
  e = end_of m (receiver_end i)

  abbrev x : End
  x = end_of m (sender_end i)

  odd_acted : e.acted % 2 ≡ 1
  odd_acted = by (parity e.acted)
    where
      by : (e.acted % 2 ≡ 0) ⊎ (e.acted % 2 ≡ 1) → e.acted % 2 ≡ 1
      by (inl even) = absurd (not_run m (receiver_end i) n (kind_of (current e)) (is_even_read i e.posted sent e.acted h.queue r.turn even) r.by_kind)
      by (inr odd) = odd

  current_is : current (end_of m (receiver_end i)) ≡ freed_as
  current_is = is_odd_freed i e.posted sent e.acted h.queue r.turn odd_acted

  no_more : (e.into ≡ 0) × (n ≡ 0)
  no_more =
      let within = r.within in
      let none : size_of (current e) ≡ 0 = ap size_of current_is in
      (omega (arith, within, none), omega (arith, within, none))

  filled : fills (end_of m (receiver_end i)) n ≡ true
  filled =
      let none : size_of (current e) ≡ 0 = ap size_of current_is in
      let a = no_more.0 in
      let b = no_more.1 in
      eq-eqb (e.into + n) (size_of (current e)) (omega (arith, none, a, b))

  pub free_fits : (v : Receive) × (receive_for (end_of m (sender_end i)) ≡ Some v)
  unfolding may_run_kind
  free_fits =
      let at_peer : fits (receive_for (peer_of m (receiver_end i))) (e.into + n) ≡ true = subst (λ (p : Posted). may_run_kind m (receiver_end i) n (kind_of p) ≡ true) current_is r.by_kind in
      fitting (receive_for x) (e.into + n) (subst (λ (o : ObjName). fits (receive_for (end_of m o)) (e.into + n) ≡ true) opened.receiver_joined.peer_is at_peer)

  module _ (v : Receive) (received : receive_for (end_of m (sender_end i)) ≡ Some v) where
    towards : IsTowards m (receiver_end i) (sender_end i) v
    towards = record {
      peer = opened.receiver_joined.peer_is;
      apart = λ e. cc;
      q_there = opened.receiver_there;
      p_there = opened.sender_there;
      sends = ap (λ (p : Posted). is_send (kind_of p)) current_is;
      receive = received;
    }

    pub met : RunsTowards m (receiver_end i) (sender_end i) v n
    met = runs_towards m (receiver_end i) (sender_end i) v n opened.sender_joined.peer_is towards

    -- no bytes are put
    nothing_new : next_bytes (end_of m (receiver_end i)) n ≡ []
    unfolding cut
    nothing_new = let none = no_more.1 in rw none refl

    pub regions_stay : regions_of (run m (receiver_end i) n) (sender i) ≡ regions_of m (sender i)
    regions_stay =
        met.regions_here
        ∙ (ap (λ (new : List ℕ). put_at local_key v.lkey (v.local + e.into) new (regions_of m (sender i))) nothing_new
        ∙ put_nothing local_key v.lkey (v.local + e.into) (regions_of m (sender i)))

    pub still : IsOpened (run m (receiver_end i) n) i
    still =
        remains m (run m (receiver_end i) n) i met.there
        (met_alike m (run m (receiver_end i) n) (receiver_end i) (sender_end i) (advanced e n) (met_end m (receiver_end i) (sender_end i) n) (met_regions m (receiver_end i) (sender_end i) v n) (arrivals e n x) met
        (advanced_alike e n) (received_alike (current e).request.shape (fills e n) x))
        (queues_still m (run m (receiver_end i) n) (receiver_end i) (sender_end i) (advanced e n) (met_end m (receiver_end i) (sender_end i) n) (met_regions m (receiver_end i) (sender_end i) v n) (arrivals e n x) met
        opened.sender_joined.receive_queue opened.sender_queue)
        (regions_kept (regions_of m (sender i)) (regions_of (run m (receiver_end i) n) (sender i)) (sender_region i).name (sender_key i) regions_stay)
        (regions_kept (regions_of m receiver) (regions_of (run m (receiver_end i) n) receiver) (receiver_region i).name (receiver_key i) (met.regions_elsewhere receiver (λ e. cc)))
        opened

    -- ---- as it is seen

    abbrev more : List Due
    more = dues_of i (arrivals (end_of m (receiver_end i)) n (end_of m (sender_end i)))

    met_sight : sight_of (run m (receiver_end i) n) owed i ≡ record (sight_of m owed i) {
      sender = record x { in_use = None; unused = unused_after x };
      receiver = record e { acted = suc e.acted; into = 0; answers = e.answers ++ Finished ∷ [] };
      dues = (sight_of m owed i).dues ++ more;
    }
    met_sight =
        let here : dues_of i (queue_of (run m (receiver_end i) n) (sender i) queue_name).entries ≡ dues_of i (queue_of m (sender i) queue_name).entries ++ more =
        ap (λ (z : CompletionQueue). dues_of i z.entries)
        (queue_more m (run m (receiver_end i) n) (receiver_end i) (sender_end i) (advanced e n) (met_end m (receiver_end i) (sender_end i) n) (met_regions m (receiver_end i) (sender_end i) v n) (arrivals e n x) met
        opened.sender_joined.receive_queue opened.sender_queue)
        ∙ dues_both i (queue_of m (sender i) queue_name).entries (arrivals e n x) in
        let other : dues_of 0 (queue_of (run m (receiver_end i) n) receiver queue_name).entries ≡ dues_of 0 (queue_of m receiver queue_name).entries =
        ap (λ (z : CompletionQueue). dues_of 0 z.entries)
        (queue_others m (run m (receiver_end i) n) (receiver_end i) (sender_end i) (advanced e n) (met_end m (receiver_end i) (sender_end i) n) (met_regions m (receiver_end i) (sender_end i) v n) (arrivals e n x) met
        opened.sender_joined.receive_queue opened.sender_queue receiver (λ e. cc)) in
        let met_now : met_end m (receiver_end i) (sender_end i) n ≡ record x { in_use = None; unused = unused_after x } =
        ap (λ (whole : Bool). receiving (current e).request.shape whole x) filled ∙ all_received (current e).request.shape x (ap (λ (p : Posted). is_send (kind_of p)) current_is) in
        let behind : owed ++ (dues_of 0 (queue_of m receiver queue_name).entries ++ (dues_of i (queue_of m (sender i) queue_name).entries ++ more)) ≡ (sight_of m owed i).dues ++ more =
        ap (λ (ds : List Due). owed ++ ds) (sym (append_assoc (dues_of 0 (queue_of m receiver queue_name).entries) (dues_of i (queue_of m (sender i) queue_name).entries) more))
        ∙ sym (append_assoc owed (dues_of 0 (queue_of m receiver queue_name).entries ++ dues_of i (queue_of m (sender i) queue_name).entries) more) in
        let dues_are : (sight_of (run m (receiver_end i) n) owed i).dues ≡ (sight_of m owed i).dues ++ more = (λ k. owed ++ (other k ++ here k)) ∙ behind in
        let sender_is : end_of (run m (receiver_end i) n) (sender_end i) ≡ record x { in_use = None; unused = unused_after x } = met.met ∙ met_now in
        let receiver_is : end_of (run m (receiver_end i) n) (receiver_end i) ≡ record e { acted = suc e.acted; into = 0; answers = e.answers ++ Finished ∷ [] } = met.stepped ∙ advanced_filled e n filled in
        λ k. record {
          sender = sender_is k;
          receiver = receiver_is k;
          stored = (region_same m (run m (receiver_end i) n) (sender_region i) regions_stay k).bytes;
          landed = (region_same m (run m (receiver_end i) n) (receiver_region i) (met.regions_elsewhere receiver (λ e. cc)) k).bytes;
          dues = dues_are k;
        }

    gains : Gains i (sight_of m owed i).dues ((sight_of m owed i).dues ++ more) [] [] (v.id % depth ∷ [])
    gains =
        let none = nothing_else i x v positive in
        let as' : more ≡ dues_of i (receive_done x.number v wc.Recv status.Success 0 None ∷ []) = ap (dues_of i) (one_arrives e n x v freed_as filled received current_is refl) in
        slot_gained i (sight_of m owed i).dues more (v.id % depth)
        (ap (copies i) as' ∙ none.0) (ap (bodies i) as' ∙ none.1) (ap (slots i) as' ∙ slot_due i x v positive) (ap (reposts i) as' ∙ none.2) (ap (fetches i) as' ∙ none.3) (ap (frees i) as' ∙ none.4)

    pub run_seen : IsSeen i owed m (run m (receiver_end i) n)
    run_seen = record {
      moves = subst (λ (s : Sight). Moves i (sight_of m owed i) s) (sym met_sight)
          (Moved (Moved Stays (SenderStays x.told x.known x.spent x.waits x.answers x.dry (unused_after x) None x.ended h.plain.0 (λ live. live)))
          (FreeActs (e.answers ++ Finished ∷ []) (v.id % depth) ((sight_of m owed i).dues ++ more) (All-push IsPlain e.answers Finished h.plain.1 tt) r.turn odd_acted gains));
      opened = still;
    }

  pub free_runs : IsSeen i owed m (run m (receiver_end i) n)
  free_runs = run_seen free_fits.0 free_fits.1
