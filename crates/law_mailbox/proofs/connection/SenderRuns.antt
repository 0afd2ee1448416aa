-- A Run of a sender's end, as it is seen: bytes of a message are put into the receive of the receiver's end.
use Rattle.std.proofs.Common.{arith, ◌≡◌, ◌≢◌, ℕ, suc, ◌+◌, ◌-◌, ◌*◌, ◌%◌, ◌<◌, ◌≤◌, List, [], ◌∷◌, ◌++◌, length, map, get_or, true, false, Bool, refl, sym, subst, ap, ◌∙◌, Some, None, Option, ◌⊎◌, inl, inr, append-nil, length-take, length-drop, eq-eqb, eqb-true, leb-true, ltb-true}
use Rattle.std.specs.Prelude.{All, count_by, if◌then◌else◌, nat_le, nat_lt, not, option_to_list, ◌&&◌, ◌||◌, ◌==◌}
use Rattle.std.proofs.lemmas.Bool.{eqb-false, le-leb}
use Rattle.std.proofs.lemmas.List.{get_or-take}
use Rattle.std.proofs.lemmas.List.Elements.{All-head, All-push}
use Rattle.std.proofs.lemmas.Option.{slice_get-get_or}
use Rattle.rdma_types.specs.declared.names.ObjName.{ObjName}
use Rattle.rdma_types.specs.declared.requests.Completion.{Completion}
use Rattle.rdma_types.specs.declared.requests.Receive.{Receive}
use Rattle.rdma_types.specs.declared.requests.Shape.{Shape}
use Rattle.rdma_types.specs.declared.requests.WcKind.TheVariants as wc
use Rattle.rdma_types.specs.declared.requests.WcStatus.TheVariants as status
use Rattle.rdma_types.specs.Kinds.{is_send, kind_of, receive_done, size_of}
use Rattle.rdma_types.specs.Lists.{named}
use Rattle.rdma_types.specs.Memory.{cut, holds, local_key, put}
use Rattle.rdma_types.specs.Objects.{CompletionQueue, Posted, Region, no_posted, no_region}
use Rattle.packetless_machine.specs.declared.reply.Reply.TheVariants.{Finished}
use Rattle.packetless_machine.specs.Machine.{End, Machine, end_of, queue_of, regions_of}
use Rattle.packetless_machine.specs.Steps.{advanced, arrivals, current, fills, first_receive, fits, has_current, has_peer, has_turn, lands_before, may_add, may_run, may_run_kind, next_bytes, peer_of, receive_for, received_whole, receiving, run, unused_after, used_by}
use Rattle.packetless_machine.specs.Verbs.{region_of}
use Rattle.law_simulation.proofs.requests.Running.{advanced_filled, advanced_more}
use Rattle.mailbox_rules.specs.declared.due.Due.{Due}
use Rattle.mailbox_rules.specs.declared.letters.Letter.{Letter}
use Rattle.mailbox_rules.specs.Calls.{message_of}
use Rattle.mailbox_rules.specs.Histories.{Placed}
use Rattle.mailbox_rules.specs.Opening.{connection_of, depth, place_address, place_bytes, queue_name, receiver, receiver_end, receiver_key, receiver_receive, receiver_region, sender, sender_end, sender_key, sender_region}
use Rattle.mailbox_rules.specs.State.{Channel}
use Rattle.law_mailbox.specs.Kept.{IsKept, IsOpened, IsPlain, Sight, bodies, copies, dues_of, fetches, frees, reposts, sent_as, sight_of, slots}
use Rattle.law_mailbox.specs.Moves.{Gains, MayRun, MessageRuns, PartRuns, next_of}
use Rattle.law_mailbox.specs.Seen.{IsSeen, Moved, Moves, Stays}
use Rattle.law_mailbox.proofs.work.Channels.{both}
use Rattle.law_mailbox.proofs.queue_room.Counting.{all_four, receive_is}
use Rattle.law_mailbox.proofs.queue_room.Gaining.{gains_between}
use Rattle.law_mailbox.proofs.connection.Keyed.{put_by_key}
use Rattle.law_mailbox.proofs.connection.Longer.{dues_both}
use Rattle.law_mailbox.proofs.connection.Places.{message_fits}
use Rattle.law_mailbox.proofs.opening.Remains.{IsRegionKept, kept_there, regions_kept, remains}
use Rattle.law_mailbox.proofs.connection.Runs.{receive_of, sent_at}
use Rattle.law_mailbox.proofs.connection.Sights.{region_same}
use Rattle.law_mailbox.proofs.connection.Tells.{not_true}
use Rattle.law_mailbox.proofs.connection.Towards.{IsTowards, RunsTowards, advanced_alike, met_alike, met_end, met_regions, queue_more, queue_others, queues_still, received_alike, runs_towards}

-- ---- what may be run

-- n more bytes of a request of q, towards its peer p
pub record MayBeRun (m : Machine) (q p : ObjName) (n : ℕ) : Type 0 where
  pub lives : (end_of m p).ended ≡ false
  pub turn : (end_of m q).acted < length (end_of m q).posted
  pub within : (end_of m q).into + n ≤ size_of (current (end_of m q))
  pub by_kind : may_run_kind m q n (kind_of (current (end_of m q))) ≡ true

pub may_be_run : (m : Machine) (q p : ObjName) (n : ℕ) → (end_of m q).peer ≡ p → may_run m q n ≡ true → MayBeRun m q p n
unfolding may_run has_current has_turn may_add
may_be_run m q p n peer may =
    let e : End = end_of m q in
    let a = both (has_peer m q && (not (peer_of m q).ended && (nat_lt e.acted (length e.posted) && not ((current e).request.fence && lands_before e))))
    (((nat_le 1 n || ((size_of (current e) == 0) && (n == 0))) && nat_le (e.into + n) (size_of (current e))) && may_run_kind m q n (kind_of (current e))) may in
    let b = both (has_peer m q) (not (peer_of m q).ended && (nat_lt e.acted (length e.posted) && not ((current e).request.fence && lands_before e))) a.0 in
    let d = both (not (peer_of m q).ended) (nat_lt e.acted (length e.posted) && not ((current e).request.fence && lands_before e)) b.1 in
    let f = both (nat_lt e.acted (length e.posted)) (not ((current e).request.fence && lands_before e)) d.1 in
    let g = both ((nat_le 1 n || ((size_of (current e) == 0) && (n == 0))) && nat_le (e.into + n) (size_of (current e))) (may_run_kind m q n (kind_of (current e))) a.1 in
    let k = both (nat_le 1 n || ((size_of (current e) == 0) && (n == 0))) (nat_le (e.into + n) (size_of (current e))) g.0 in
    record {
      lives = subst (λ (o : ObjName). (end_of m o).ended ≡ false) peer (not_true (peer_of m q).ended d.0);
      turn = ltb-true e.acted (length e.posted) f.0;
      within = leb-true (e.into + n) (size_of (current e)) k.1;
      by_kind = g.1;
    }

-- a receive that bytes fit is there
pub fitting : (o : Option Receive) (count : ℕ) → fits o count ≡ true → (v : Receive) × (o ≡ Some v)
unfolding fits
fitting None count f = cc
fitting (Some v) count f = (v, refl)

-- bytes are inside a region
holds_there : (r : Region) (address count : ℕ) → r.base ≤ address → address + count ≤ r.base + r.length → holds r address count ≡ true
unfolding holds
holds_there r address count low high =
    let a : nat_le r.base address ≡ true = le-leb r.base address low in
    let b : nat_le (address + count) (r.base + r.length) ≡ true = le-leb (address + count) (r.base + r.length) high in
    rw (a, b) refl

-- ---- the receive and the end that it is used at

part_received : (shape : Shape) (x : End) (v : Receive) → is_send shape.kind ≡ true → receive_for x ≡ Some v → receiving shape false x ≡ record x { in_use = Some v; unused = unused_after x }
unfolding receiving
part_received shape x v sends received = rw (sends, received) refl

pub all_received : (shape : Shape) (x : End) → is_send shape.kind ≡ true → receiving shape true x ≡ record x { in_use = None; unused = unused_after x }
unfolding receiving
all_received shape x sends = rw sends refl

pub nothing_arrives : (e : End) (n : ℕ) (x : End) → fills e n ≡ false → arrivals e n x ≡ []
unfolding arrivals
nothing_arrives e n x short = ap (λ (b : Bool). if b then received_whole x.number (current e) (used_by (current e) x) else []) short

-- a whole Send completes its receive
pub one_arrives : (e : End) (n : ℕ) (x : End) (v : Receive) (p : Posted) → fills e n ≡ true → receive_for x ≡ Some v → current e ≡ p → is_send (kind_of p) ≡ true →
    arrivals e n x ≡ receive_done x.number v wc.Recv status.Success (size_of p) p.request.shape.imm ∷ []
unfolding arrivals received_whole used_by
one_arrives e n x v p whole received is sends =
    ap (λ (b : Bool). if b then received_whole x.number (current e) (used_by (current e) x) else []) whole
    ∙ (ap (λ (r : Posted). received_whole x.number r (used_by r x)) is
    ∙ rw (sends, received, sends) refl)

-- ---- a message that is to be copied

copy_due : (i : ℕ) (x : End) (v : Receive) (size : ℕ) → connection_of x.number ≡ i → v.id < depth → copies i (dues_of 0 (receive_done x.number v wc.Recv status.Success size None ∷ [])) ≡ (v.id, size) ∷ []
unfolding receive_done
copy_due i x v size number below = let place : v.id % 16 ≡ v.id = omega (arith, below) in rw (eq-eqb (connection_of x.number) i number) (ap (λ (k : ℕ). (k, size) ∷ []) place)

nothing_else : (i : ℕ) (x : End) (v : Receive) (size : ℕ) → (bodies i (dues_of 0 (receive_done x.number v wc.Recv status.Success size None ∷ [])) ≡ []) × (slots i (dues_of 0 (receive_done x.number v wc.Recv status.Success size None ∷ [])) ≡ [])
    × (reposts i (dues_of 0 (receive_done x.number v wc.Recv status.Success size None ∷ [])) ≡ []) × (fetches i (dues_of 0 (receive_done x.number v wc.Recv status.Success size None ∷ [])) ≡ []) × (frees i (dues_of 0 (receive_done x.number v wc.Recv status.Success size None ∷ [])) ≡ [])
unfolding receive_done
nothing_else i x v size = (refl, refl, refl, refl, refl)

module _ (m : Machine) (owed : List Due) (i : ℕ) (positive : 1 ≤ i) (opened : IsOpened m i) (c : Channel) (sent : List Letter) (open' : List Placed) (h : IsKept i (sight_of m owed i) c sent open')
    (n : ℕ) (r : MayBeRun m (sender_end i) (receiver_end i) n) where
  -- ---- the message

  abbrev e : End
  e = end_of m (sender_end i)

  abbrev x : End
  x = end_of m (receiver_end i)

  abbrev next : Letter
  next = get_or sent (end_of m (sender_end i)).acted (record { tag = 0; body = [] })

  next_is : current (end_of m (sender_end i)) ≡ sent_as i next
  next_is =
      let a = r.turn in
      let b = h.sends.posted_within in
      ap (λ (ps : List Posted). get_or ps e.acted no_posted) h.sends.queue_of_sender
      ∙ (get_or-take (length e.posted) (map (sent_as i) sent) e.acted no_posted r.turn
      ∙ sent_at i sent e.acted next (slice_get-get_or sent e.acted (record { tag = 0; body = [] }) (omega (arith, a, b))))

  size_is : length (next_of (sight_of m owed i) n) ≡ n
  unfolding cut
  size_is =
      let payload : length (current e).payload ≡ size_of (current e) = ap (λ (p : Posted). length p.payload) next_is ∙ sym (ap size_of next_is) in
      let within = r.within in
      simp (length-take, length-drop) (omega (arith, payload, within))

  pub sender_fits : (v : Receive) × (receive_for (end_of m (receiver_end i)) ≡ Some v)
  unfolding may_run_kind
  sender_fits =
      let at_peer : fits (receive_for (peer_of m (sender_end i))) (e.into + n) ≡ true = subst (λ (p : Posted). may_run_kind m (sender_end i) n (kind_of p) ≡ true) next_is r.by_kind in
      fitting (receive_for (end_of m (receiver_end i))) (e.into + n) (subst (λ (o : ObjName). fits (receive_for (end_of m o)) (e.into + n) ≡ true) opened.sender_joined.peer_is at_peer)

  module _ (v : Receive) (received : receive_for (end_of m (receiver_end i)) ≡ Some v) where
    first_is : first_receive (end_of m (receiver_end i)).in_use (end_of m (receiver_end i)).unused ≡ Some v
    unfolding receive_for
    first_is = received

    -- ---- where it goes

    place_below : v.id < depth
    place_below =
        let four = all_four (λ k. k < depth) x.unused x.in_use (copies i (sight_of m owed i).dues) (reposts i (sight_of m owed i).dues) (h.places.places_within r.lives) in
        by (receive_is x v first_is) four.0 four.1
      where
        by : ((x.in_use ≡ Some v) × (unused_after x ≡ x.unused)) ⊎ ((x.in_use ≡ None) × (x.unused ≡ v ∷ unused_after x)) → All (λ k. k < depth) (map (λ w. w.id) x.unused) → All (λ k. k < depth) (map (λ w. w.id) (option_to_list x.in_use)) → v.id < depth
        by (inl u) a b = All-head (λ k. k < depth) v.id [] (subst (λ (o : Option Receive). All (λ k. k < depth) (map (λ w. w.id) (option_to_list o))) u.0 b)
        by (inr u) a b = All-head (λ k. k < depth) v.id (map (λ w. w.id) (unused_after x)) (subst (λ (vs : List Receive). All (λ k. k < depth) (map (λ w. w.id) vs)) u.1 a)

    message_short : e.into + n ≤ place_bytes
    message_short =
        let within = r.within in
        let size : size_of (current e) ≡ length (message_of i next) = ap size_of next_is in
        let fits = message_fits i next in
        omega (arith, within, size, fits)

    may : MayRun (sight_of m owed i) v n
    may = record {
      lives = r.lives;
      receive = first_is;
      turn = r.turn;
      size = size_is;
      fits = message_short;
      inside = let whole = opened.receiver_region_is.whole in let below = place_below in let short = message_short in omega (arith, whole, below, short);
    }

    pub receive_known : v ≡ receiver_receive i v.id
    receive_known = receive_of i (sight_of m owed i) c sent open' h v n may

    -- ---- the Run

    pub towards : IsTowards m (sender_end i) (receiver_end i) v
    towards = record {
      peer = opened.sender_joined.peer_is;
      apart = λ e. cc;
      q_there = opened.sender_there;
      p_there = opened.receiver_there;
      sends = ap (λ (p : Posted). is_send (kind_of p)) next_is;
      receive = received;
    }

    pub met : RunsTowards m (sender_end i) (receiver_end i) v n
    met = runs_towards m (sender_end i) (receiver_end i) v n opened.receiver_joined.peer_is towards

    abbrev address : ℕ
    address = v.local + (end_of m (sender_end i)).into

    abbrev new : List ℕ
    new = next_bytes (end_of m (sender_end i)) n

    -- the region of the receiver has the key of the receive, and holds the place
    keyed : local_key (named (λ z. z.name) no_region (receiver_region i).name (regions_of m receiver)) ≡ v.lkey
    unfolding region_of
    keyed = ap (λ (k : _). k.local) opened.receiver_region_is.keyed ∙ sym (ap (λ (w : Receive). w.lkey) receive_known)

    once : count_by (λ z. local_key z == v.lkey) (regions_of m receiver) ≤ 1
    once = subst (λ (key : ℕ). count_by (λ z. local_key z == key) (regions_of m receiver) ≤ 1) (sym (ap (λ (w : Receive). w.lkey) receive_known)) opened.receiver_keyed.local_once

    held : holds (named (λ z. z.name) no_region (receiver_region i).name (regions_of m receiver)) address (length new) ≡ true
    unfolding region_of
    held =
        let begins = opened.receiver_region_is.begins in
        let long = opened.receiver_region_is.long in
        let at : v.local ≡ place_address i v.id = ap (λ (w : Receive). w.local) receive_known in
        let size : length new ≡ n = size_is in
        let below = place_below in
        let short = message_short in
        holds_there (region_of m (receiver_region i)) address (length new) (omega (arith, begins, at)) (omega (arith, begins, long, at, size, below, short))

    put_is : region_of (run m (sender_end i) n) (receiver_region i) ≡ record (region_of m (receiver_region i)) { bytes = put (region_of m (receiver_region i)).bytes (place_bytes * v.id + e.into) new }
    unfolding region_of
    put_is =
        let begins = opened.receiver_region_is.begins in
        let at : v.local ≡ place_address i v.id = ap (λ (w : Receive). w.local) receive_known in
        let offset : address - (region_of m (receiver_region i)).base ≡ place_bytes * v.id + e.into = omega (arith, begins, at) in
        ap (named (λ z. z.name) no_region (receiver_region i).name) met.regions_here
        ∙ (put_by_key local_key v.lkey (receiver_region i).name address new (regions_of m receiver) opened.receiver_region_there keyed once held
        ∙ ap (λ (k : ℕ). record (region_of m (receiver_region i)) { bytes = put (region_of m (receiver_region i)).bytes k new }) offset)

    pub still : IsOpened (run m (sender_end i) n) i
    unfolding region_of
    still =
        remains m (run m (sender_end i) n) i met.there
        (met_alike m (run m (sender_end i) n) (sender_end i) (receiver_end i) (advanced e n) (met_end m (sender_end i) (receiver_end i) n) (met_regions m (sender_end i) (receiver_end i) v n) (arrivals e n x) met
        (advanced_alike e n) (received_alike (current e).request.shape (fills e n) x))
        (queues_still m (run m (sender_end i) n) (sender_end i) (receiver_end i) (advanced e n) (met_end m (sender_end i) (receiver_end i) n) (met_regions m (sender_end i) (receiver_end i) v n) (arrivals e n x) met
        opened.receiver_joined.receive_queue opened.receiver_queue)
        (regions_kept (regions_of m (sender i)) (regions_of (run m (sender_end i) n) (sender i)) (sender_region i).name (sender_key i) (met.regions_elsewhere (sender i) (λ e. cc)))
        (subst (λ (rs : List Region). IsRegionKept (regions_of m receiver) rs (receiver_region i).name (receiver_key i)) (sym met.regions_here)
        (kept_there local_key v.lkey address new (receiver_region i).name (receiver_key i) (regions_of m receiver) opened.receiver_region_there keyed once held (opened.receiver_region_is.whole ∙ sym opened.receiver_region_is.long)))
        opened

    -- ---- as it is seen

    abbrev dues_then : List Due
    dues_then = owed ++ ((dues_of 0 (queue_of m receiver queue_name).entries ++ dues_of 0 (arrivals (end_of m (sender_end i)) n (end_of m (receiver_end i)))) ++ dues_of i (queue_of m (sender i) queue_name).entries)

    met_sight : sight_of (run m (sender_end i) n) owed i ≡ record (sight_of m owed i) {
      sender = advanced e n;
      receiver = met_end m (sender_end i) (receiver_end i) n;
      landed = put (sight_of m owed i).landed (place_bytes * v.id + e.into) new;
      dues = dues_then;
    }
    met_sight =
        let here : dues_of 0 (queue_of (run m (sender_end i) n) receiver queue_name).entries ≡ dues_of 0 (queue_of m receiver queue_name).entries ++ dues_of 0 (arrivals e n x) =
        ap (λ (z : CompletionQueue). dues_of 0 z.entries)
        (queue_more m (run m (sender_end i) n) (sender_end i) (receiver_end i) (advanced e n) (met_end m (sender_end i) (receiver_end i) n) (met_regions m (sender_end i) (receiver_end i) v n) (arrivals e n x) met
        opened.receiver_joined.receive_queue opened.receiver_queue)
        ∙ dues_both 0 (queue_of m receiver queue_name).entries (arrivals e n x) in
        let other : dues_of i (queue_of (run m (sender_end i) n) (sender i) queue_name).entries ≡ dues_of i (queue_of m (sender i) queue_name).entries =
        ap (λ (z : CompletionQueue). dues_of i z.entries)
        (queue_others m (run m (sender_end i) n) (sender_end i) (receiver_end i) (advanced e n) (met_end m (sender_end i) (receiver_end i) n) (met_regions m (sender_end i) (receiver_end i) v n) (arrivals e n x) met
        opened.receiver_joined.receive_queue opened.receiver_queue (sender i) (λ e. cc)) in
        λ k. record {
          sender = met.stepped k;
          receiver = met.met k;
          stored = (region_same m (run m (sender_end i) n) (sender_region i) (met.regions_elsewhere (sender i) (λ e. cc)) k).bytes;
          landed = (put_is k).bytes;
          dues = owed ++ (here k ++ other k);
        }

    -- a part of the message
    part_seen : fills e n ≡ false → IsSeen i owed m (run m (sender_end i) n)
    part_seen unfilled =
        let within = r.within in
        let apart : e.into + n ≢ size_of (current e) = eqb-false (e.into + n) (size_of (current e)) unfilled in
        let none : dues_of 0 (queue_of m receiver queue_name).entries ++ dues_of 0 (arrivals e n x) ≡ dues_of 0 (queue_of m receiver queue_name).entries =
        ap (λ (more : List Completion). dues_of 0 (queue_of m receiver queue_name).entries ++ dues_of 0 more) (nothing_arrives e n x unfilled) ∙ append-nil (dues_of 0 (queue_of m receiver queue_name).entries) in
        let met_now : met_end m (sender_end i) (receiver_end i) n ≡ record x { in_use = Some v; unused = unused_after x } =
        ap (λ (whole : Bool). receiving (current e).request.shape whole x) unfilled ∙ part_received (current e).request.shape x v (ap (λ (p : Posted). is_send (kind_of p)) next_is) received in
        let then_is : record (sight_of m owed i) { sender = advanced e n; receiver = met_end m (sender_end i) (receiver_end i) n; landed = put (sight_of m owed i).landed (place_bytes * v.id + e.into) new; dues = dues_then } ≡
        record (sight_of m owed i) { sender = record e { into = e.into + n }; receiver = record x { in_use = Some v; unused = unused_after x }; landed = put (sight_of m owed i).landed (place_bytes * v.id + e.into) new } =
        λ k. record (sight_of m owed i) {
          sender = advanced_more e n unfilled k;
          receiver = met_now k;
          landed = put (sight_of m owed i).landed (place_bytes * v.id + e.into) new;
          dues = owed ++ (none k ++ dues_of i (queue_of m (sender i) queue_name).entries);
        } in
        record {
          moves = subst (λ (s : Sight). Moves i (sight_of m owed i) s) (sym (met_sight ∙ then_is)) (Moved Stays (PartRuns v n may (omega (arith, within, apart))));
          opened = still;
        }

    -- .. or all of it
    gains : fills e n ≡ true → Gains i (sight_of m owed i).dues dues_then ((v.id, size_of (current e)) ∷ []) [] []
    gains filled =
        let none = nothing_else i x v (length (message_of i next)) in
        let as' : dues_of 0 (arrivals e n x) ≡ dues_of 0 (receive_done x.number v wc.Recv status.Success (length (message_of i next)) None ∷ []) = ap (dues_of 0) (one_arrives e n x v (sent_as i next) filled received next_is refl) in
        gains_between i owed (dues_of 0 (queue_of m receiver queue_name).entries) (queue_of m (sender i) queue_name).entries (dues_of 0 (arrivals e n x)) ((v.id, size_of (current e)) ∷ []) [] positive
        (ap (copies i) as' ∙ (copy_due i x v (length (message_of i next)) h.number place_below ∙ ap (λ (p : Posted). (v.id, size_of p) ∷ []) (sym next_is)))
        (ap (bodies i) as' ∙ none.0) (ap (slots i) as' ∙ none.1) (ap (reposts i) as' ∙ none.2) (ap (fetches i) as' ∙ none.3) (ap (frees i) as' ∙ none.4)

    all_seen : fills e n ≡ true → IsSeen i owed m (run m (sender_end i) n)
    all_seen filled =
        let met_now : met_end m (sender_end i) (receiver_end i) n ≡ record x { in_use = None; unused = unused_after x } =
        ap (λ (whole : Bool). receiving (current e).request.shape whole x) filled ∙ all_received (current e).request.shape x (ap (λ (p : Posted). is_send (kind_of p)) next_is) in
        let then_is : record (sight_of m owed i) { sender = advanced e n; receiver = met_end m (sender_end i) (receiver_end i) n; landed = put (sight_of m owed i).landed (place_bytes * v.id + e.into) new; dues = dues_then } ≡
        record (sight_of m owed i) { sender = record e { acted = suc e.acted; into = 0; answers = e.answers ++ Finished ∷ [] }; receiver = record x { in_use = None; unused = unused_after x }; landed = put (sight_of m owed i).landed (place_bytes * v.id + e.into) new; dues = dues_then } =
        λ k. record (sight_of m owed i) { sender = advanced_filled e n filled k; receiver = met_now k; landed = put (sight_of m owed i).landed (place_bytes * v.id + e.into) new; dues = dues_then } in
        record {
          moves = subst (λ (s : Sight). Moves i (sight_of m owed i) s) (sym (met_sight ∙ then_is))
              (Moved Stays (MessageRuns v n (e.answers ++ Finished ∷ []) dues_then (All-push IsPlain e.answers Finished h.plain.0 tt) may (eqb-true (e.into + n) (size_of (current e)) filled) (gains filled)));
          opened = still;
        }

    pub run_seen : IsSeen i owed m (run m (sender_end i) n)
    run_seen = by (fills e n) refl
      where
        by : (b : Bool) → fills e n ≡ b → IsSeen i owed m (run m (sender_end i) n)
        by true filled = all_seen filled
        by false unfilled = part_seen unfilled

  pub sender_runs : IsSeen i owed m (run m (sender_end i) n)
  sender_runs = run_seen sender_fits.0 sender_fits.1
