-- Each thing that is due, but for what is copied: places are posted again, Reads and Sends of no bytes are posted, slots are freed.
use Rattle.std.proofs.Common.{arith, ◌≡◌, ℕ, ◌-◌, ◌<◌, ◌≤◌, List, [], ◌∷◌, ◌++◌, get_or, length, true, false, Bool, refl, sym, subst, ap, Some, None, Option, length-append, le-leb}
use Rattle.std.specs.Prelude.{All, if◌then◌else◌, option_to_list, slice_get, ◌^◌}
use Rattle.std.proofs.lemmas.List.Elements.{All-cons, All-head, All-nil}
use Rattle.std.proofs.lemmas.Option.{slice_get-get_or}
use Rattle.rdma_types.specs.declared.names.ObjName.{ObjName}
use Rattle.rdma_types.specs.declared.requests.Kind.TheVariants as kind
use Rattle.rdma_types.specs.declared.requests.Receive.{Receive}
use Rattle.rdma_types.specs.declared.requests.Request.{Request}
use Rattle.rdma_types.specs.declared.verbs.Verb.TheVariants as verbs
use Rattle.rdma_types.specs.Memory.{cut, local_key}
use Rattle.rdma_types.specs.Objects.{Region}
use Rattle.protocol.specs.declared.events.Event.TheVariants as events
use Rattle.packetless_machine.specs.Machine.{End, Machine, bytes_at, end_of, is_at, regions_of}
use Rattle.packetless_machine.specs.Verbs.{taken}
use Rattle.law_simulation.specs.Kept.{verb_in}
use Rattle.law_simulation.specs.Law.{IsRequestInRange}
use Rattle.law_simulation.specs.Named.{EventsFollowByName}
use Rattle.mailbox_rules.specs.declared.due.Due.{Due}
use Rattle.mailbox_rules.specs.declared.due.Due.TheVariants as due
use Rattle.mailbox_rules.specs.declared.due.Fetch.{Fetch}
use Rattle.mailbox_rules.specs.declared.due.Side.TheVariants.{AtReceiver, AtSender}
use Rattle.mailbox_rules.specs.declared.letters.Letter.{Letter}
use Rattle.mailbox_rules.specs.Histories.{Turn, placed_letters, sent_letters}
use Rattle.mailbox_rules.specs.Opening.{landing_address, receiver_end, receiver_key, receiver_receive, receiver_receives, sender_end, sender_receive, sender_receives, sender_remote_key, slot_address}
use Rattle.mailbox_rules.specs.State.{Channel, Mail, channel, is_sender, with_channel}
use Rattle.mailbox_rules.specs.Working.{doing, due_next, free_event, freeing, posting, read_due, read_event, request}
use Rattle.law_mailbox.specs.Held.{connection_in, IsHeld}
use Rattle.law_mailbox.specs.Kept.{IsKept, IsKeptWith, Pending, body_in, copy_in, fetch_in, fetches, free_in, frees, freed_as, last_long, long_letters, pending, repost_in, sight_of, slot_in, slots}
use Rattle.law_mailbox.specs.Moves.{SenderStays}
use Rattle.law_mailbox.specs.Works.{Fetches, FetchesNot, FreePosts, FreePostsNot, IsFetched, IsFreePosted, IsKeptLine, IsReposted, IsSlotFreed, Line, Reposts, RepostsNot, SlotFrees, WorksTo, read_for}
use Rattle.law_mailbox.proofs.connection.Bytes.{cut_nothing}
use Rattle.law_mailbox.proofs.work.Changing.{IsSameFor, owed_with, same_itself, sees_itself}
use Rattle.law_mailbox.proofs.work.Channels.{changed_elsewhere, changed_long, changed_there}
use Rattle.law_mailbox.proofs.work.Doing.{goes_on, goes_on_posted, one_of_senders, posting_leaves}
use Rattle.law_mailbox.proofs.work.Dues.{AreElsewhere, inserted_long, nothing_elsewhere, one_of, part_goes, part_stays, pending_stays}
use Rattle.law_mailbox.proofs.settling.Opened.{were_sent}
use Rattle.law_mailbox.proofs.connection.Places.{all_back, copied_long}
use Rattle.law_mailbox.proofs.connection.Posting.{receive_at_receiver, receive_at_sender, request_at_receiver}
use Rattle.law_mailbox.proofs.connection.Steps.{moves_keep}
use Rattle.law_mailbox.proofs.work.WorkSteps.{work_keeps}

-- ---- what becomes due

module _ (j : ℕ) (owed rest : List Due) (k : ℕ) where
  pub is_reposted : (place : ℕ) (fetch : Option Fetch) → slice_get owed k ≡ Some (due.Repost j place fetch) → IsReposted j (owed ++ rest) (due_next owed k (read_due j fetch) ++ rest) place
  is_reposted place None at = record {
    repost = part_goes (repost_in j) owed rest k (due.Repost j place None) at None (place ∷ []) (one_of j place) refl;
    copies_same = part_stays (copy_in j) owed rest k (due.Repost j place None) at None refl;
    fetches_same = part_stays (fetch_in j) owed rest k (due.Repost j place None) at None refl;
    bodies_same = part_stays (body_in j) owed rest k (due.Repost j place None) at None refl;
    frees_same = part_stays (free_in j) owed rest k (due.Repost j place None) at None refl;
    slots_same = part_stays (slot_in j) owed rest k (due.Repost j place None) at None refl;
  }
  is_reposted place (Some f) at = record {
    repost = part_goes (repost_in j) owed rest k (due.Repost j place (Some f)) at (Some (due.PostRead j f)) (place ∷ []) (one_of j place) refl;
    copies_same = part_stays (copy_in j) owed rest k (due.Repost j place (Some f)) at (Some (due.PostRead j f)) refl;
    fetches_same = part_stays (fetch_in j) owed rest k (due.Repost j place (Some f)) at (Some (due.PostRead j f)) refl;
    bodies_same = part_stays (body_in j) owed rest k (due.Repost j place (Some f)) at (Some (due.PostRead j f)) refl;
    frees_same = part_stays (free_in j) owed rest k (due.Repost j place (Some f)) at (Some (due.PostRead j f)) refl;
    slots_same = part_stays (slot_in j) owed rest k (due.Repost j place (Some f)) at (Some (due.PostRead j f)) refl;
  }

  pub is_fetched : (f : Fetch) → slice_get owed k ≡ Some (due.PostRead j f) → IsFetched j (owed ++ rest) (due_next owed k None ++ rest) f
  is_fetched f at = record {
    fetch = part_goes (fetch_in j) owed rest k (due.PostRead j f) at None (f ∷ []) (one_of j f) refl;
    copies_same = part_stays (copy_in j) owed rest k (due.PostRead j f) at None refl;
    reposts_same = part_stays (repost_in j) owed rest k (due.PostRead j f) at None refl;
    bodies_same = part_stays (body_in j) owed rest k (due.PostRead j f) at None refl;
    frees_same = part_stays (free_in j) owed rest k (due.PostRead j f) at None refl;
    slots_same = part_stays (slot_in j) owed rest k (due.PostRead j f) at None refl;
  }

  pub is_free_posted : slice_get owed k ≡ Some (due.PostFree j) → IsFreePosted j (owed ++ rest) (due_next owed k None ++ rest)
  is_free_posted at = record {
    free = inserted_long j (frees j (due_next owed k None ++ rest)) (frees j (owed ++ rest)) (part_goes (free_in j) owed rest k (due.PostFree j) at None (j ∷ []) (one_of j j) refl);
    copies_same = part_stays (copy_in j) owed rest k (due.PostFree j) at None refl;
    reposts_same = part_stays (repost_in j) owed rest k (due.PostFree j) at None refl;
    fetches_same = part_stays (fetch_in j) owed rest k (due.PostFree j) at None refl;
    bodies_same = part_stays (body_in j) owed rest k (due.PostFree j) at None refl;
    slots_same = part_stays (slot_in j) owed rest k (due.PostFree j) at None refl;
  }

  pub is_slot_freed : (place : ℕ) → slice_get owed k ≡ Some (due.FreeSlot j place) → IsSlotFreed j (owed ++ rest) (due_next owed k (Some (due.RepostAtSender j place)) ++ rest)
  is_slot_freed place at = record {
    slot = inserted_long place (slots j (due_next owed k (Some (due.RepostAtSender j place)) ++ rest)) (slots j (owed ++ rest)) (part_goes (slot_in j) owed rest k (due.FreeSlot j place) at (Some (due.RepostAtSender j place)) (place ∷ []) (one_of j place) refl);
    copies_same = part_stays (copy_in j) owed rest k (due.FreeSlot j place) at (Some (due.RepostAtSender j place)) refl;
    reposts_same = part_stays (repost_in j) owed rest k (due.FreeSlot j place) at (Some (due.RepostAtSender j place)) refl;
    fetches_same = part_stays (fetch_in j) owed rest k (due.FreeSlot j place) at (Some (due.RepostAtSender j place)) refl;
    bodies_same = part_stays (body_in j) owed rest k (due.FreeSlot j place) at (Some (due.RepostAtSender j place)) refl;
    frees_same = part_stays (free_in j) owed rest k (due.FreeSlot j place) at (Some (due.RepostAtSender j place)) refl;
  }

-- ---- what is posted

pub read_taken : (m : Machine) (j : ℕ) (f : Fetch) → taken m (receiver_end j) (request kind.Read (receiver_key j) (landing_address j) f.length slot_address f.rkey) ≡ read_for j f
unfolding taken
read_taken m j f = refl

nothing_at : (rs : List Region) → bytes_at local_key 0 0 0 rs ≡ []
unfolding bytes_at
nothing_at [] = refl
nothing_at (r ∷ rs) = by (is_at local_key 0 0 0 r) (nothing_at rs)
  where
    by : (b : Bool) → bytes_at local_key 0 0 0 rs ≡ [] → (if b then cut (0 - r.base) 0 r.bytes else bytes_at local_key 0 0 0 rs) ≡ []
    by true rest = cut_nothing (0 - r.base) r.bytes
    by false rest = rest

pub free_taken : (m : Machine) (j : ℕ) → taken m (receiver_end j) (request kind.Send 0 0 0 0 0) ≡ freed_as
unfolding taken
free_taken m j = ap (λ (bs : List ℕ). record { request = request kind.Send 0 0 0 0 0; payload = bs }) (nothing_at (regions_of m (receiver_end j).context))

-- ---- each of them

pub receive_verb : (o : ObjName) (v : Receive) → verb_in (events.PostRecv o v) ≡ Some (verbs.PostRecv o v)
unfolding verb_in
receive_verb o v = refl

pub send_verb : (o : ObjName) (r : Request) → verb_in (events.PostSend o r) ≡ Some (verbs.PostSend o r)
unfolding verb_in
send_verb o r = refl

pub sender_there : (m : Mail) (peers j : ℕ) → length m.channels ≡ peers → 1 ≤ j → j ≤ peers → is_sender m j ≡ true
sender_there m peers j long low high = rw (le-leb 1 j low, le-leb j (length m.channels) (omega (arith, long, high))) refl

pub next_read_of : (j place : ℕ) (fetch : Option Fetch) → All (λ x. connection_in x ≡ j) (option_to_list (read_due j fetch))
next_read_of j place None = All-nil (λ x. connection_in x ≡ j)
next_read_of j place (Some f) = All-cons (λ x. connection_in x ≡ j) (due.PostRead j f) [] refl (All-nil (λ x. connection_in x ≡ j))

-- a body that is to be fetched stands at the sender's remote key
module _ (follow : EventsFollowByName) (peers : ℕ) (small : peers ≤ 8) (ts : List Turn) (m : Mail) (h : IsHeld peers ts m) (k : ℕ) (j : ℕ) where
  abbrev line : Line
  line = record { sight = sight_of h.machine m.owed j; channel = channel m j; sent = sent_letters j ts; open' = placed_letters j ts }

  abbrev rest : List Due
  rest = (sight_of h.machine [] j).dues

  works_to : (1 ≤ j) × (j ≤ peers) → (x' : Line) → WorksTo j line x' → IsKeptLine j x'
  works_to range x' works = let high = range.1 in work_keeps j line x' (omega (arith, high, small)) (were_sent j ts) works (h.all.kept j range.0 range.1)

  pub reposts_held : (place : ℕ) (fetch : Option Fetch) → slice_get m.owed k ≡ Some (due.Repost j place fetch) → IsHeld peers ts (doing m k (due.Repost j place fetch))
  unfolding doing
  reposts_held place fetch at =
      let range : (1 ≤ j) × (j ≤ peers) = one_of_senders peers ts m h k (due.Repost j place fetch) at (read_due j fetch) (next_read_of j place fetch) in
      let g = is_reposted j m.owed rest k place fetch at in
      let ds : List Due = due_next m.owed k (read_due j fetch) ++ rest in
      goes_on_posted peers ts m h k (due.Repost j place fetch) at (read_due j fetch) (next_read_of j place fetch) (posting m AtReceiver j (receiver_receives j place)) (end_of h.machine (receiver_end j)) _
      (posting_leaves follow peers m h.machine AtReceiver j (receiver_receives j place) (verbs.PostRecv (receiver_end j) (receiver_receive j place)) (end_of h.machine (receiver_end j)) _
      (receive_verb (receiver_end j) (receiver_receive j place)) (λ a. refl) tt h.stands (receive_at_receiver peers small h.machine j range.1 (h.all.opened j range.0 range.1) (receiver_receive j place)))
      (works_to range _ (RepostsNot place ds g))
      (λ live. works_to range _ (Reposts place ds g))

  -- the last long letter is there, where a body is to be fetched, and its body is what is to be fetched
  pub fetch_key : (f : Fetch) → slice_get m.owed k ≡ Some (due.PostRead j f) → (1 ≤ j) × (j ≤ peers) → f.rkey ≡ sender_remote_key j
  fetch_key f at range =
      let kept : IsKept j (sight_of h.machine m.owed j) (channel m j) (sent_letters j ts) (placed_letters j ts) = h.all.kept j range.0 range.1 in
      let g : IsFetched j (m.owed ++ rest) (due_next m.owed k None ++ rest) f = is_fetched j m.owed rest k f at in
      let long : length (fetches j (m.owed ++ rest)) ≡ length (g.fetch.front ++ (f ∷ g.fetch.behind)) = ap length g.fetch.with_them in
      let posted = kept.counts.reads_posted in
      let few = copied_long (channel m j).receives (sent_letters j ts) in
      let last : last_long (sent_letters j ts) ≡ Some (get_or (long_letters (sent_letters j ts)) (length (long_letters (sent_letters j ts)) - 1) (record { tag = 0; body = [] })) =
      slice_get-get_or (long_letters (sent_letters j ts)) (length (long_letters (sent_letters j ts)) - 1) (record { tag = 0; body = [] }) (omega (arith, long, posted, few, length-append g.fetch.front (f ∷ g.fetch.behind))) in
      let l : Letter = get_or (long_letters (sent_letters j ts)) (length (long_letters (sent_letters j ts)) - 1) (record { tag = 0; body = [] }) in
      let all : All (λ (x : Fetch). (x.length ≡ length l.body) × (x.rkey ≡ sender_remote_key j)) (g.fetch.front ++ (f ∷ g.fetch.behind)) =
      subst (All (λ (x : Fetch). (x.length ≡ length l.body) × (x.rkey ≡ sender_remote_key j))) g.fetch.with_them (kept.slot.fetches_true l last) in
      (All-head (λ (x : Fetch). (x.length ≡ length l.body) × (x.rkey ≡ sender_remote_key j)) f g.fetch.behind (all_back (λ (x : Fetch). (x.length ≡ length l.body) × (x.rkey ≡ sender_remote_key j)) g.fetch.front (f ∷ g.fetch.behind) all)).1

  pub read_in_range : (f : Fetch) → f.rkey < 2 ^ 32 → IsRequestInRange (request kind.Read (receiver_key j) (landing_address j) f.length slot_address f.rkey)
  read_in_range f key = record { remote = omega arith; rkey = key; swap_add = omega arith; compare = omega arith; no_compare = λ e. refl; imm = tt; word = λ e. cc }

  pub fetches_held : (f : Fetch) → slice_get m.owed k ≡ Some (due.PostRead j f) → IsHeld peers ts (doing m k (due.PostRead j f))
  unfolding doing
  fetches_held f at =
      let range : (1 ≤ j) × (j ≤ peers) = one_of_senders peers ts m h k (due.PostRead j f) at None (All-nil (λ x. connection_in x ≡ j)) in
      let g = is_fetched j m.owed rest k f at in
      let ds : List Due = due_next m.owed k None ++ rest in
      let high = range.1 in
      let key = fetch_key f at range in
      goes_on_posted peers ts m h k (due.PostRead j f) at None (All-nil (λ x. connection_in x ≡ j)) (posting m AtReceiver j (read_event j f)) (end_of h.machine (receiver_end j)) _
      (posting_leaves follow peers m h.machine AtReceiver j (read_event j f) (verbs.PostSend (receiver_end j) (request kind.Read (receiver_key j) (landing_address j) f.length slot_address f.rkey)) (end_of h.machine (receiver_end j)) _
      (send_verb (receiver_end j) (request kind.Read (receiver_key j) (landing_address j) f.length slot_address f.rkey)) (λ a. refl) (read_in_range f (omega (arith, key, high, small))) h.stands
      (λ given. request_at_receiver peers small h.machine j range.1 (h.all.opened j range.0 range.1) (request kind.Read (receiver_key j) (landing_address j) f.length slot_address f.rkey) (read_for j f) given (read_taken h.machine j f)))
      (works_to range _ (FetchesNot f ds g))
      (λ live. works_to range _ (Fetches f ds g live))

  pub free_in_range : IsRequestInRange (request kind.Send 0 0 0 0 0)
  free_in_range = record { remote = omega arith; rkey = omega arith; swap_add = omega arith; compare = omega arith; no_compare = λ e. refl; imm = tt; word = λ e. cc }

  pub frees_held : slice_get m.owed k ≡ Some (due.PostFree j) → IsHeld peers ts (doing m k (due.PostFree j))
  unfolding doing
  frees_held at =
      let range : (1 ≤ j) × (j ≤ peers) = one_of_senders peers ts m h k (due.PostFree j) at None (All-nil (λ x. connection_in x ≡ j)) in
      let g = is_free_posted j m.owed rest k at in
      let ds : List Due = due_next m.owed k None ++ rest in
      goes_on_posted peers ts m h k (due.PostFree j) at None (All-nil (λ x. connection_in x ≡ j)) (posting m AtReceiver j (free_event j)) (end_of h.machine (receiver_end j)) _
      (posting_leaves follow peers m h.machine AtReceiver j (free_event j) (verbs.PostSend (receiver_end j) (request kind.Send 0 0 0 0 0)) (end_of h.machine (receiver_end j)) _
      (send_verb (receiver_end j) (request kind.Send 0 0 0 0 0)) (λ a. refl) free_in_range h.stands
      (λ given. request_at_receiver peers small h.machine j range.1 (h.all.opened j range.0 range.1) (request kind.Send 0 0 0 0 0) freed_as given (free_taken h.machine j)))
      (works_to range _ (FreePostsNot ds g))
      (λ live. works_to range _ (FreePosts ds g live))

  -- a sender's place is posted again: its end has other receives alone
  sender_posts : (place : ℕ) → slice_get m.owed k ≡ Some (due.RepostAtSender j place) → pending j (due_next m.owed k None ++ rest) ≡ pending j (m.owed ++ rest)
  sender_posts place at =
      let nothing : AreElsewhere j (due.RepostAtSender j place ∷ []) = record { no_copies = refl; no_reposts = refl; no_fetches = refl; no_bodies = refl; no_frees = refl; no_slots = refl } in
      pending_stays j m.owed rest k (due.RepostAtSender j place) at None nothing (nothing_elsewhere j)

  pub sender_reposts_held : (place : ℕ) → slice_get m.owed k ≡ Some (due.RepostAtSender j place) → IsHeld peers ts (doing m k (due.RepostAtSender j place))
  unfolding doing
  sender_reposts_held place at =
      let range : (1 ≤ j) × (j ≤ peers) = one_of_senders peers ts m h k (due.RepostAtSender j place) at None (All-nil (λ x. connection_in x ≡ j)) in
      let e : End = end_of h.machine (sender_end j) in
      let kept : IsKept j (sight_of h.machine m.owed j) (channel m j) (sent_letters j ts) (placed_letters j ts) = h.all.kept j range.0 range.1 in
      let plain : IsKept j (owed_with (due_next m.owed k None) (sight_of h.machine [] j)) (channel m j) (sent_letters j ts) (placed_letters j ts) =
      subst (λ (p : Pending). IsKeptWith j (end_of h.machine (sender_end j)) (end_of h.machine (receiver_end j)) (sight_of h.machine [] j).stored (sight_of h.machine [] j).landed p (channel m j) (sent_letters j ts) (placed_letters j ts)) (sym (sender_posts place at)) kept in
      goes_on_posted peers ts m h k (due.RepostAtSender j place) at None (All-nil (λ x. connection_in x ≡ j)) (posting m AtSender j (sender_receives j place)) (end_of h.machine (sender_end j)) _
      (posting_leaves follow peers m h.machine AtSender j (sender_receives j place) (verbs.PostRecv (sender_end j) (sender_receive place)) (end_of h.machine (sender_end j)) _
      (receive_verb (sender_end j) (sender_receive place)) (λ a. refl) tt h.stands (receive_at_sender peers small h.machine j range.1 (h.all.opened j range.0 range.1) (sender_receive place)))
      plain
      (λ live. moves_keep j (owed_with (due_next m.owed k None) (sight_of h.machine [] j)) _ (channel m j) (sent_letters j ts) (placed_letters j ts) (SenderStays e.told e.known e.spent e.waits e.answers e.dry (e.unused ++ sender_receive place ∷ []) e.in_use e.ended kept.plain.0 (λ alive. alive)) plain)

  pub slots_held : (place : ℕ) → slice_get m.owed k ≡ Some (due.FreeSlot j place) → IsHeld peers ts (doing m k (due.FreeSlot j place))
  unfolding doing
  slots_held place at =
      let next : Option Due = Some (due.RepostAtSender j place) in
      let of_it : All (λ x. connection_in x ≡ j) (due.RepostAtSender j place ∷ []) = All-cons (λ x. connection_in x ≡ j) (due.RepostAtSender j place) [] refl (All-nil (λ x. connection_in x ≡ j)) in
      let range : (1 ≤ j) × (j ≤ peers) = one_of_senders peers ts m h k (due.FreeSlot j place) at (Some (due.RepostAtSender j place)) of_it in
      let there : is_sender m j ≡ true = sender_there m peers j h.senders range.0 range.1 in
      goes_on peers ts m h k (due.FreeSlot j place) at (Some (due.RepostAtSender j place)) of_it (with_channel m j freeing) h.machine (sight_of h.machine [] j) h.stands (sees_itself peers h.machine j) refl
      (λ q low apart. subst (λ (c : Channel). IsSameFor (channel m q) c) (sym (changed_elsewhere m j there freeing q low (λ e. apart (sym e)))) (same_itself (channel m q)))
      (changed_long m j there freeing)
      (subst (λ (c : Channel). IsKept j (owed_with (due_next m.owed k (Some (due.RepostAtSender j place))) (sight_of h.machine [] j)) c (sent_letters j ts) (placed_letters j ts)) (sym (changed_there m j there freeing))
      (works_to range _ (SlotFrees (due_next m.owed k (Some (due.RepostAtSender j place)) ++ rest) (is_slot_freed j m.owed rest k place at))))
