-- Each thing that is due, where it is done, is seen of each connection as steps of work.
use Rattle.std.proofs.Common.{arith, ◌≡◌, ◌≢◌, ℕ, ◌+◌, ◌*◌, ◌<◌, ◌≤◌, List, [], ◌∷◌, ◌++◌, drop, get_or, length, true, false, Bool, refl, sym, subst, ◌∙◌, Some, None, Option, ◌⊎◌, inl, inr}
use Rattle.std.specs.Prelude.{All, option_to_list, slice_get}
use Rattle.std.proofs.lemmas.List.Elements.{All-cons, All-nil}
use Rattle.rdma_types.specs.declared.requests.Kind.TheVariants as kind
use Rattle.rdma_types.specs.declared.requests.Receive.{Receive}
use Rattle.rdma_types.specs.declared.requests.Request.{Request}
use Rattle.rdma_types.specs.declared.verbs.Verb.TheVariants as verbs
use Rattle.rdma_types.specs.Memory.{cut}
use Rattle.rdma_types.specs.Objects.{Posted, Region}
use Rattle.protocol.specs.declared.events.Event.TheVariants as events
use Rattle.protocol.specs.declared.events.WorldEvent.TheVariants as world_events
use Rattle.protocol.specs.WorldStep.{world_step}
use Rattle.packetless_machine.specs.Machine.{Machine, end_of}
use Rattle.packetless_machine.specs.Verbs.{after_verb, is_full, posted, region_of, taken}
use Rattle.law_simulation.specs.Law.{IsRequestInRange}
use Rattle.law_simulation.specs.Named.{EventsFollowByName}
use Rattle.law_simulation.specs.Stands.{Stands}
use Rattle.mailbox_rules.specs.declared.due.Due.{Due}
use Rattle.mailbox_rules.specs.declared.due.Due.TheVariants as due
use Rattle.mailbox_rules.specs.declared.due.Fetch.{Fetch}
use Rattle.mailbox_rules.specs.declared.due.Side.TheVariants.{AtReceiver, AtSender}
use Rattle.mailbox_rules.specs.Histories.{Turn, placed_letters, sent_letters}
use Rattle.mailbox_rules.specs.Letters.{header_of}
use Rattle.mailbox_rules.specs.Opening.{landing_address, place_address, place_bytes, queue_name, receiver, receiver_end, receiver_key, receiver_receive, receiver_receives, receiver_region, sender_end, sender_receive, sender_receives, slot_address}
use Rattle.mailbox_rules.specs.State.{Channel, Mail, channel, has_ended, is_away, is_sender, with_channel}
use Rattle.mailbox_rules.specs.Working.{arriving, asking, bytes_in, doing, due_next, fetch_of, filling, free_event, freeing, is_too_many, loads, may_be_done, read_due, read_event, request}
use Rattle.law_mailbox.specs.Held.{connection_in}
use Rattle.law_mailbox.specs.Finished.{DuesAreSeen, IsHeldIn, IsWorkSeen, line_of}
use Rattle.law_mailbox.specs.Kept.{HoldMessages, IsKept, IsOpened, Sight, copies, copy_in, freed_as, landing_offset, pending, sight_of}
use Rattle.law_mailbox.specs.Postings.{IsMade, IsPosted, UsedUp}
use Rattle.law_mailbox.specs.Settled.{Does, Rests, SenderPosts, Turns, Worked, Works}
use Rattle.law_mailbox.specs.Works.{BodyCopies, Copies, Fetches, FetchesNot, FreePosts, FreePostsNot, IsCopied, Reposts, RepostsNot, SlotFrees, read_for}
use Rattle.law_mailbox.proofs.work.Asking.{Asks, Made, Unmade, asks}
use Rattle.law_mailbox.proofs.work.Chains.{PostingSees, SeesIt, SeesNothing, chain_goes, line_with, posting_goes, to_work}
use Rattle.law_mailbox.proofs.work.Changing.{IsSeenAt, sees_itself}
use Rattle.law_mailbox.proofs.work.Channels.{changed_elsewhere, changed_long, changed_there}
use Rattle.law_mailbox.proofs.work.Copying.{body_lies, copy_none, is_body_copied, is_copied, loaded_bytes, loaded_stands, place_lies}
use Rattle.law_mailbox.proofs.work.Doing.{one_of_senders}
use Rattle.law_mailbox.proofs.work.DueSteps.{free_taken, is_fetched, is_free_posted, is_reposted, is_slot_freed, read_taken, receive_verb, send_verb, sender_there}
use Rattle.law_mailbox.proofs.work.Dues.{AreElsewhere, none_in_front, nothing_elsewhere, pending_stays}
use Rattle.law_mailbox.proofs.connection.Posting.{posted_live, receive_at_receiver, receive_at_sender, receiver_at, request_at_receiver}
use Rattle.law_mailbox.proofs.work.Postings.{IsFetchable, fetchable, postings_made}
use Rattle.law_mailbox.proofs.connection.Tells.{not_true}

no_end : true ≡ false → ⊥
no_end e = cc

one_of_it : (j : ℕ) (x : Due) → connection_in x ≡ j → All (λ y. connection_in y ≡ j) (x ∷ [])
one_of_it j x is = All-cons (λ y. connection_in y ≡ j) x [] is (All-nil (λ y. connection_in y ≡ j))

none_of_it : (j : ℕ) → All (λ y. connection_in y ≡ j) []
none_of_it j = All-nil (λ y. connection_in y ≡ j)

read_of_it : (j : ℕ) (fetch : Option Fetch) → All (λ y. connection_in y ≡ j) (option_to_list (read_due j fetch))
read_of_it j None = none_of_it j
read_of_it j (Some f) = one_of_it j (due.PostRead j f) refl

module _ (follow : EventsFollowByName) (peers : ℕ) (small : peers ≤ 8) (ts : List Turn) (m : Mail) (machine : Machine) (h : IsHeldIn peers ts m machine) (k j : ℕ) where
  abbrev rest : List Due
  rest = (sight_of machine [] j).dues

  -- ---- what is seen of a posting

  module _ (low : 1 ≤ j) (high : j ≤ peers) where
    opened : IsOpened machine j
    opened = h.all.opened j low high

    abbrev with_unused : Receive → Sight
    with_unused v = record (sight_of machine [] j) { receiver = record (end_of machine (receiver_end j)) { unused = (end_of machine (receiver_end j)).unused ++ v ∷ [] } }

    receive_sees : (v : Receive) → PostingSees peers m machine j (events.PostRecv (receiver_end j) v) (with_unused v) (Unit {0}) (Unit {0})
    unfolding asking
    receive_sees v = by (asks follow m.world machine (events.PostRecv (receiver_end j) v) (verbs.PostRecv (receiver_end j) v) (receive_verb (receiver_end j) v) (λ a. refl) tt h.stands)
      where
        seen_by : (given : ℕ) → Stands (world_step m.world (world_events.At (events.PostRecv (receiver_end j) v))).world (after_verb machine (verbs.PostRecv (receiver_end j) v) given) →
            IsSeenAt peers machine (after_verb machine (verbs.PostRecv (receiver_end j) v) given) j (sight_of machine [] j) ⊎ (((end_of machine (receiver_end j)).ended ≡ false) × IsSeenAt peers machine (after_verb machine (verbs.PostRecv (receiver_end j) v) given) j (with_unused v)) →
            PostingSees peers m machine j (events.PostRecv (receiver_end j) v) (with_unused v) (Unit {0}) (Unit {0})
        seen_by given x (inl seen) = SeesNothing (after_verb machine (verbs.PostRecv (receiver_end j) v) given) x seen tt
        seen_by given x (inr seen) = SeesIt (after_verb machine (verbs.PostRecv (receiver_end j) v) given) x seen.1 tt

        by : Asks m.world machine (events.PostRecv (receiver_end j) v) (verbs.PostRecv (receiver_end j) v) → PostingSees peers m machine j (events.PostRecv (receiver_end j) v) (with_unused v) (Unit {0}) (Unit {0})
        by (Unmade u x) = SeesNothing machine x (sees_itself peers machine j) tt
        by (Made given a x) = seen_by given x (receive_at_receiver peers small machine j high opened v given)

    abbrev with_sender_unused : Receive → Sight
    with_sender_unused v = record (sight_of machine [] j) { sender = record (end_of machine (sender_end j)) { unused = (end_of machine (sender_end j)).unused ++ v ∷ [] } }

    sender_receive_sees : (v : Receive) → PostingSees peers m machine j (events.PostRecv (sender_end j) v) (with_sender_unused v) (Unit {0}) (Unit {0})
    unfolding asking
    sender_receive_sees v = by (asks follow m.world machine (events.PostRecv (sender_end j) v) (verbs.PostRecv (sender_end j) v) (receive_verb (sender_end j) v) (λ a. refl) tt h.stands)
      where
        seen_by : (given : ℕ) → Stands (world_step m.world (world_events.At (events.PostRecv (sender_end j) v))).world (after_verb machine (verbs.PostRecv (sender_end j) v) given) →
            IsSeenAt peers machine (after_verb machine (verbs.PostRecv (sender_end j) v) given) j (sight_of machine [] j) ⊎ (((end_of machine (sender_end j)).ended ≡ false) × IsSeenAt peers machine (after_verb machine (verbs.PostRecv (sender_end j) v) given) j (with_sender_unused v)) →
            PostingSees peers m machine j (events.PostRecv (sender_end j) v) (with_sender_unused v) (Unit {0}) (Unit {0})
        seen_by given x (inl seen) = SeesNothing (after_verb machine (verbs.PostRecv (sender_end j) v) given) x seen tt
        seen_by given x (inr seen) = SeesIt (after_verb machine (verbs.PostRecv (sender_end j) v) given) x seen.1 tt

        by : Asks m.world machine (events.PostRecv (sender_end j) v) (verbs.PostRecv (sender_end j) v) → PostingSees peers m machine j (events.PostRecv (sender_end j) v) (with_sender_unused v) (Unit {0}) (Unit {0})
        by (Unmade u x) = SeesNothing machine x (sees_itself peers machine j) tt
        by (Made given a x) = seen_by given x (receive_at_sender peers small machine j high opened v given)

    abbrev with_posted : Posted → Sight
    with_posted p = record (sight_of machine [] j) { receiver = record (end_of machine (receiver_end j)) { posted = (end_of machine (receiver_end j)).posted ++ p ∷ [] } }

    -- a request is not posted where the end has ended or the packet numbers are used up
    abbrev Skipped : Request → Type 0
    Skipped r = ((end_of machine (receiver_end j)).ended ≡ true) ⊎ (is_too_many (asking m (events.PostSend (receiver_end j) r)).answer ≡ true)

    request_sees : (r : Request) (p : Posted) → taken machine (receiver_end j) r ≡ p → IsRequestInRange r → ((end_of machine (receiver_end j)).ended ≡ false → IsMade m machine j r) →
        PostingSees peers m machine j (events.PostSend (receiver_end j) r) (with_posted p) (Skipped r) ((end_of machine (receiver_end j)).ended ≡ false)
    unfolding asking
    request_sees r p is range can = by (end_of machine (receiver_end j)).ended refl
      where
        gone : (end_of machine (receiver_end j)).ended ≡ true → Asks m.world machine (events.PostSend (receiver_end j) r) (verbs.PostSend (receiver_end j) r) →
            PostingSees peers m machine j (events.PostSend (receiver_end j) r) (with_posted p) (Skipped r) ((end_of machine (receiver_end j)).ended ≡ false)
        gone e (Unmade u x) = SeesNothing machine x (sees_itself peers machine j) (inl e)
        gone e (Made given a x) = nothing (request_at_receiver peers small machine j high opened r p given is)
          where
            nothing : IsSeenAt peers machine (after_verb machine (verbs.PostSend (receiver_end j) r) given) j (sight_of machine [] j) ⊎ (((end_of machine (receiver_end j)).ended ≡ false) × IsSeenAt peers machine (after_verb machine (verbs.PostSend (receiver_end j) r) given) j (with_posted p)) →
                PostingSees peers m machine j (events.PostSend (receiver_end j) r) (with_posted p) (Skipped r) ((end_of machine (receiver_end j)).ended ≡ false)
            nothing (inl seen) = SeesNothing (after_verb machine (verbs.PostSend (receiver_end j) r) given) x seen (inl e)
            nothing (inr seen) = absurd (no_end (sym e ∙ seen.0))

        live : (end_of machine (receiver_end j)).ended ≡ false → IsMade m machine j r → PostingSees peers m machine j (events.PostSend (receiver_end j) r) (with_posted p) (Skipped r) ((end_of machine (receiver_end j)).ended ≡ false)
        live e (UsedUp t x) = SeesNothing machine x (sees_itself peers machine j) (inr t)
        live e (IsPosted n x) =
            SeesIt (posted machine (receiver_end j) r) x
            (subst (λ (y : Machine). IsSeenAt peers machine y j (with_posted p)) (sym (posted_live machine (receiver_end j) r p is e))
            (receiver_at peers small machine j high opened (record (end_of machine (receiver_end j)) { posted = (end_of machine (receiver_end j)).posted ++ p ∷ [] }) refl (record { connected = refl; peer = refl; domain = refl; send_queue = refl; receive_queue = refl; send_depth = refl; receive_depth = refl })))
            e

        by : (b : Bool) → (end_of machine (receiver_end j)).ended ≡ b → PostingSees peers m machine j (events.PostSend (receiver_end j) r) (with_posted p) (Skipped r) ((end_of machine (receiver_end j)).ended ≡ false)
        by true e = gone e (asks follow m.world machine (events.PostSend (receiver_end j) r) (verbs.PostSend (receiver_end j) r) (send_verb (receiver_end j) r) (λ a. refl) range h.stands)
        by false e = live e (can e)

  -- ---- places, and slots

  pub reposts_seen : (place : ℕ) (fetch : Option Fetch) → slice_get m.owed k ≡ Some (due.Repost j place fetch) → IsWorkSeen peers ts m (doing m k (due.Repost j place fetch)) machine
  unfolding doing
  reposts_seen place fetch at =
      let next : Option Due = read_due j fetch in
      let of_it = read_of_it j fetch in
      let range : (1 ≤ j) × (j ≤ peers) = one_of_senders peers ts m (to_work peers ts m machine h) k (due.Repost j place fetch) at (read_due j fetch) of_it in
      let ds : List Due = due_next m.owed k next ++ rest in
      let g = is_reposted j m.owed rest k place fetch at in
      posting_goes peers ts m machine h k (due.Repost j place fetch) at (read_due j fetch) of_it AtReceiver (receiver_receives j place) (with_unused range.0 range.1 (receiver_receive j place)) (Unit {0}) (Unit {0})
      (sender_there m peers j h.senders range.0 range.1) (λ unflagged. receive_sees range.0 range.1 (receiver_receive j place))
      (λ c why. Worked Rests (Does (RepostsNot place ds g) refl tt)) (λ c why. Worked Rests (Does (Reposts place ds g) refl tt))

  pub sender_reposts_seen : (place : ℕ) → slice_get m.owed k ≡ Some (due.RepostAtSender j place) → IsWorkSeen peers ts m (doing m k (due.RepostAtSender j place)) machine
  unfolding doing
  sender_reposts_seen place at =
      let range : (1 ≤ j) × (j ≤ peers) = one_of_senders peers ts m (to_work peers ts m machine h) k (due.RepostAtSender j place) at None (none_of_it j) in
      let nothing : AreElsewhere j (due.RepostAtSender j place ∷ []) = record { no_copies = refl; no_reposts = refl; no_fetches = refl; no_bodies = refl; no_frees = refl; no_slots = refl } in
      let ds : List Due = due_next m.owed k None ++ rest in
      let same : pending j (due_next m.owed k None ++ (sight_of machine [] j).dues) ≡ pending j (m.owed ++ (sight_of machine [] j).dues) = pending_stays j m.owed rest k (due.RepostAtSender j place) at None nothing (nothing_elsewhere j) in
      posting_goes peers ts m machine h k (due.RepostAtSender j place) at None (none_of_it j) AtSender (sender_receives j place) (with_sender_unused range.0 range.1 (sender_receive place)) (Unit {0}) (Unit {0})
      (sender_there m peers j h.senders range.0 range.1) (λ unflagged. sender_receive_sees range.0 range.1 (sender_receive place))
      (λ c why. Worked Rests (Turns ds same)) (λ c why. Worked (Worked Rests (Turns ds same)) (SenderPosts (sender_receive place)))

  -- ---- requests

  module _ (room : is_full machine receiver queue_name ≡ false) (here : is_away m.world 0 ≡ false) where
    pub fetches_seen : (f : Fetch) → slice_get m.owed k ≡ Some (due.PostRead j f) → IsWorkSeen peers ts m (doing m k (due.PostRead j f)) machine
    unfolding doing
    fetches_seen f at =
        let range : (1 ≤ j) × (j ≤ peers) = one_of_senders peers ts m (to_work peers ts m machine h) k (due.PostRead j f) at None (none_of_it j) in
        let high = range.1 in
        let ds : List Due = due_next m.owed k None ++ rest in
        let g = is_fetched j m.owed rest k f at in
        let can : IsFetchable j f = fetchable j (sight_of machine m.owed j) (channel m j) (sent_letters j ts) (placed_letters j ts) f g.fetch.front g.fetch.behind g.fetch.with_them (h.all.kept j range.0 range.1) in
        let key = can.key in
        let r : Request = request kind.Read (receiver_key j) (landing_address j) f.length slot_address f.rkey in
        posting_goes peers ts m machine h k (due.PostRead j f) at None (none_of_it j) AtReceiver (read_event j f) (with_posted range.0 range.1 (read_for j f)) (Skipped range.0 range.1 (request kind.Read (receiver_key j) (landing_address j) f.length slot_address f.rkey)) ((end_of machine (receiver_end j)).ended ≡ false)
        (sender_there m peers j h.senders range.0 range.1)
        (λ unflagged. request_sees range.0 range.1 r (read_for j f) (read_taken machine j f) (record { remote = omega arith; rkey = omega (arith, key, high, small); swap_add = omega arith; compare = omega arith; no_compare = λ e. refl; imm = tt; word = λ e. cc })
        (λ lives. (postings_made follow peers small ts m machine j (record { stands = h.stands; all = h.all; from_one = range.0; within = range.1; here = here; lives = lives; room = room })).read k f at))
        (λ c why. skip c why)
        (λ c lives. Worked Rests (Does (Fetches f ds g lives) refl tt))
      where
        skip : (c : Channel) → (has_ended AtReceiver c ≡ true) ⊎ ((((end_of machine (receiver_end j)).ended ≡ true) ⊎ (is_too_many (asking m (read_event j f)).answer ≡ true)) × (is_too_many (asking m (read_event j f)).answer ≡ false)) →
            Works j (line_with ts j m.owed (sight_of machine [] j) c) (line_with ts j (due_next m.owed k None) (sight_of machine [] j) c)
        skip c (inl flagged) = Worked Rests (Does (FetchesNot f (due_next m.owed k None ++ rest) (is_fetched j m.owed rest k f at)) refl (inr flagged))
        skip c (inr why) = by why.0
          where
            by : ((end_of machine (receiver_end j)).ended ≡ true) ⊎ (is_too_many (asking m (read_event j f)).answer ≡ true) → Works j (line_with ts j m.owed (sight_of machine [] j) c) (line_with ts j (due_next m.owed k None) (sight_of machine [] j) c)
            by (inl gone) = Worked Rests (Does (FetchesNot f (due_next m.owed k None ++ rest) (is_fetched j m.owed rest k f at)) refl (inl gone))
            by (inr many) = absurd (no_end (sym many ∙ why.1))

    pub frees_seen : slice_get m.owed k ≡ Some (due.PostFree j) → IsWorkSeen peers ts m (doing m k (due.PostFree j)) machine
    unfolding doing
    frees_seen at =
        let range : (1 ≤ j) × (j ≤ peers) = one_of_senders peers ts m (to_work peers ts m machine h) k (due.PostFree j) at None (none_of_it j) in
        let ds : List Due = due_next m.owed k None ++ rest in
        let g = is_free_posted j m.owed rest k at in
        posting_goes peers ts m machine h k (due.PostFree j) at None (none_of_it j) AtReceiver (free_event j) (with_posted range.0 range.1 freed_as) (Skipped range.0 range.1 (request kind.Send 0 0 0 0 0)) ((end_of machine (receiver_end j)).ended ≡ false)
        (sender_there m peers j h.senders range.0 range.1)
        (λ unflagged. request_sees range.0 range.1 (request kind.Send 0 0 0 0 0) freed_as (free_taken machine j) (record { remote = omega arith; rkey = omega arith; swap_add = omega arith; compare = omega arith; no_compare = λ e. refl; imm = tt; word = λ e. cc })
        (λ lives. (postings_made follow peers small ts m machine j (record { stands = h.stands; all = h.all; from_one = range.0; within = range.1; here = here; lives = lives; room = room })).free k at))
        (λ c why. skip c why)
        (λ c lives. Worked Rests (Does (FreePosts ds g lives) refl tt))
      where
        skip : (c : Channel) → (has_ended AtReceiver c ≡ true) ⊎ ((((end_of machine (receiver_end j)).ended ≡ true) ⊎ (is_too_many (asking m (free_event j)).answer ≡ true)) × (is_too_many (asking m (free_event j)).answer ≡ false)) →
            Works j (line_with ts j m.owed (sight_of machine [] j) c) (line_with ts j (due_next m.owed k None) (sight_of machine [] j) c)
        skip c (inl flagged) = Worked Rests (Does (FreePostsNot (due_next m.owed k None ++ rest) (is_free_posted j m.owed rest k at)) refl (inr flagged))
        skip c (inr why) = by why.0
          where
            by : ((end_of machine (receiver_end j)).ended ≡ true) ⊎ (is_too_many (asking m (free_event j)).answer ≡ true) → Works j (line_with ts j m.owed (sight_of machine [] j) c) (line_with ts j (due_next m.owed k None) (sight_of machine [] j) c)
            by (inl gone) = Worked Rests (Does (FreePostsNot (due_next m.owed k None ++ rest) (is_free_posted j m.owed rest k at)) refl (inl gone))
            by (inr many) = absurd (no_end (sym many ∙ why.1))

  -- ---- messages, bodies and slots

  module _ (there : is_sender m j ≡ true) where
    -- a connection that is changed after a load, and the others
    load_elsewhere : (address n : ℕ) (change : Channel → Channel) (q : ℕ) → 1 ≤ q → q ≢ j → channel (with_channel (loads m j address n).mail j change) q ≡ channel m q
    unfolding asking
    load_elsewhere address n change q low apart = changed_elsewhere (loads m j address n).mail j there change q low (λ e. apart (sym e))

    load_here : (address n : ℕ) (change : Channel → Channel) → channel (with_channel (loads m j address n).mail j change) j ≡ change (channel m j)
    unfolding asking
    load_here address n change = changed_there (loads m j address n).mail j there change

    load_long : (address n : ℕ) (change : Channel → Channel) → length (with_channel (loads m j address n).mail j change).channels ≡ length m.channels
    unfolding asking
    load_long address n change = changed_long (loads m j address n).mail j there change

    load_owed : (address n : ℕ) (change : Channel → Channel) → (with_channel (loads m j address n).mail j change).owed ≡ m.owed
    unfolding asking
    load_owed address n change = refl

  module _ (here : is_away m.world 0 ≡ false) where
    pub copies_seen : (place size : ℕ) → slice_get m.owed k ≡ Some (due.CopyMessage j place size) → ((i : ℕ) → i < k → may_be_done m.world (get_or m.owed i (due.CopyMessage j place size)) ≡ false) →
        IsWorkSeen peers ts m (doing m k (due.CopyMessage j place size)) machine
    unfolding doing
    copies_seen place size at before =
        let d : Due = due.CopyMessage j place size in
        let bytes : List ℕ = bytes_in (loads m j (place_address j place) size).answer in
        let fetch : Option Fetch = fetch_of (header_of bytes) in
        let next : Option Due = Some (due.Repost j place fetch) in
        let range : (1 ≤ j) × (j ≤ peers) = one_of_senders peers ts m (to_work peers ts m machine h) k d at next (one_of_it j (due.Repost j place fetch) refl) in
        let kept : IsKept j (sight_of machine m.owed j) (channel m j) (sent_letters j ts) (placed_letters j ts) = h.all.kept j range.0 range.1 in
        let there : is_sender m j ≡ true = sender_there m peers j h.senders range.0 range.1 in
        let region : Region = region_of machine (receiver_region j) in
        let g : IsCopied j (m.owed ++ rest) (due_next m.owed k (Some (due.Repost j place (fetch_of (header_of (bytes_in (loads m j (place_address j place) size).answer))))) ++ rest) place size (option_to_list (fetch_of (header_of (bytes_in (loads m j (place_address j place) size).answer)))) =
        is_copied j m.owed rest k place size fetch at (none_in_front (may_be_done m.world) (copy_in j) (copy_none j m.world here) m.owed k d before) in
        let lies : place_bytes * place + size ≤ length (region_of machine (receiver_region j)).bytes =
        place_lies j region.bytes place size (copies j (due_next m.owed k next ++ rest)) (drop (channel m j).receives (sent_letters j ts))
        (subst (λ (xs : List (ℕ × ℕ)). HoldMessages j (region_of machine (receiver_region j)).bytes xs (drop (channel m j).receives (sent_letters j ts))) g.first kept.messages.places_hold) in
        let is : bytes_in (loads m j (place_address j place) size).answer ≡ cut (place_bytes * place) size (region_of machine (receiver_region j)).bytes =
        loaded_bytes follow peers small ts m (to_work peers ts m machine h) here k j (place_address j place) (place_bytes * place) size (h.all.opened j range.0 range.1) (omega arith) lies in
        chain_goes peers ts m machine h k d at next (one_of_it j (due.Repost j place fetch) refl) (with_channel (loads m j (place_address j place) size).mail j (arriving bytes)) machine (sight_of machine [] j)
        (loaded_stands follow peers small ts m (to_work peers ts m machine h) here k j (place_address j place) size) (sees_itself peers machine j) (load_owed there (place_address j place) size (arriving bytes))
        (load_elsewhere there (place_address j place) size (arriving bytes)) (load_long there (place_address j place) size (arriving bytes))
        (subst (λ (c : Channel). Works j (line_of machine m ts j) (line_with ts j (due_next m.owed k (Some (due.Repost j place (fetch_of (header_of (bytes_in (loads m j (place_address j place) size).answer)))))) (sight_of machine [] j) c)) (sym (load_here there (place_address j place) size (arriving bytes)))
        (Worked Rests (Does (Copies place size bytes (due_next m.owed k next ++ rest) is g) refl tt)))

    pub bodies_seen : (size : ℕ) → slice_get m.owed k ≡ Some (due.CopyBody j size) → IsWorkSeen peers ts m (doing m k (due.CopyBody j size)) machine
    unfolding doing
    bodies_seen size at =
        let d : Due = due.CopyBody j size in
        let bytes : List ℕ = bytes_in (loads m j (landing_address j) size).answer in
        let next : Option Due = Some (due.PostFree j) in
        let range : (1 ≤ j) × (j ≤ peers) = one_of_senders peers ts m (to_work peers ts m machine h) k d at next (one_of_it j (due.PostFree j) refl) in
        let there : is_sender m j ≡ true = sender_there m peers j h.senders range.0 range.1 in
        let is : bytes_in (loads m j (landing_address j) size).answer ≡ cut landing_offset size (region_of machine (receiver_region j)).bytes =
        loaded_bytes follow peers small ts m (to_work peers ts m machine h) here k j (landing_address j) landing_offset size (h.all.opened j range.0 range.1) (omega arith) (body_lies follow peers small ts m (to_work peers ts m machine h) here k j size at range) in
        chain_goes peers ts m machine h k d at next (one_of_it j (due.PostFree j) refl) (with_channel (loads m j (landing_address j) size).mail j (filling bytes)) machine (sight_of machine [] j)
        (loaded_stands follow peers small ts m (to_work peers ts m machine h) here k j (landing_address j) size) (sees_itself peers machine j) (load_owed there (landing_address j) size (filling bytes))
        (load_elsewhere there (landing_address j) size (filling bytes)) (load_long there (landing_address j) size (filling bytes))
        (subst (λ (c : Channel). Works j (line_of machine m ts j) (line_with ts j (due_next m.owed k (Some (due.PostFree j))) (sight_of machine [] j) c)) (sym (load_here there (landing_address j) size (filling bytes)))
        (subst (λ (bs : List ℕ). Works j (line_of machine m ts j) (line_with ts j (due_next m.owed k (Some (due.PostFree j))) (sight_of machine [] j) (filling bs (channel m j)))) (sym is)
        (Worked Rests (Does (BodyCopies size (due_next m.owed k next ++ rest) (is_body_copied j m.owed rest k size at)) refl tt))))

  pub slots_seen : (place : ℕ) → slice_get m.owed k ≡ Some (due.FreeSlot j place) → IsWorkSeen peers ts m (doing m k (due.FreeSlot j place)) machine
  unfolding doing
  slots_seen place at =
      let next : Option Due = Some (due.RepostAtSender j place) in
      let of_it : All (λ x. connection_in x ≡ j) (due.RepostAtSender j place ∷ []) = one_of_it j (due.RepostAtSender j place) refl in
      let range : (1 ≤ j) × (j ≤ peers) = one_of_senders peers ts m (to_work peers ts m machine h) k (due.FreeSlot j place) at (Some (due.RepostAtSender j place)) of_it in
      let there : is_sender m j ≡ true = sender_there m peers j h.senders range.0 range.1 in
      chain_goes peers ts m machine h k (due.FreeSlot j place) at (Some (due.RepostAtSender j place)) of_it (with_channel m j freeing) machine (sight_of machine [] j) h.stands (sees_itself peers machine j) refl
      (λ q low apart. changed_elsewhere m j there freeing q low (λ e. apart (sym e))) (changed_long m j there freeing)
      (subst (λ (c : Channel). Works j (line_of machine m ts j) (line_with ts j (due_next m.owed k (Some (due.RepostAtSender j place))) (sight_of machine [] j) c)) (sym (changed_there m j there freeing))
      (Worked Rests (Does (SlotFrees (due_next m.owed k (Some (due.RepostAtSender j place)) ++ rest) (is_slot_freed j m.owed rest k place at)) refl tt)))

-- ---- each of them

pub dues_seen : EventsFollowByName → DuesAreSeen
dues_seen follow peers small ts m machine k (due.CopyMessage j place size) h at may before room = copies_seen follow peers small ts m machine h k j (not_true _ may) place size at before
dues_seen follow peers small ts m machine k (due.Repost j place fetch) h at may before room = reposts_seen follow peers small ts m machine h k j place fetch at
dues_seen follow peers small ts m machine k (due.PostRead j f) h at may before room = fetches_seen follow peers small ts m machine h k j room (not_true _ may) f at
dues_seen follow peers small ts m machine k (due.CopyBody j size) h at may before room = bodies_seen follow peers small ts m machine h k j (not_true _ may) size at
dues_seen follow peers small ts m machine k (due.PostFree j) h at may before room = frees_seen follow peers small ts m machine h k j room (not_true _ may) at
dues_seen follow peers small ts m machine k (due.FreeSlot j place) h at may before room = slots_seen follow peers small ts m machine h k j place at
dues_seen follow peers small ts m machine k (due.RepostAtSender j place) h at may before room = sender_reposts_seen follow peers small ts m machine h k j place at
