-- What is copied out of the receiver's region: messages out of their places, and bodies out of the landing place.
use Rattle.std.proofs.Common.{arith, ◌≡◌, ◌≢◌, ℕ, ◌+◌, ◌*◌, ◌<◌, ◌≤◌, List, [], ◌∷◌, ◌++◌, drop, get_or, length, take, true, false, refl, sym, subst, ap, ◌∙◌, Some, None, Option, length-drop, length-take, ltb-true}
use Rattle.std.specs.Prelude.{All, not, option_to_list, slice_get}
use Rattle.std.proofs.lemmas.List.Elements.{All-cons, All-head, All-nil}
use Rattle.std.proofs.lemmas.Option.{slice_get-get_or}
use Rattle.rdma_types.specs.declared.answers.Refusal.{Refusal}
use Rattle.rdma_types.specs.declared.names.ObjName.{ObjName}
use Rattle.rdma_types.specs.declared.verbs.Verb.TheVariants as verbs
use Rattle.rdma_types.specs.Limits.{most_bytes}
use Rattle.rdma_types.specs.Memory.{cut}
use Rattle.rdma_types.specs.Objects.{Region}
use Rattle.protocol.specs.declared.events.Event.TheVariants as events
use Rattle.protocol.specs.declared.events.WorldEvent.TheVariants as world_events
use Rattle.protocol.specs.State.{World}
use Rattle.protocol.specs.WorldStep.{world_step}
use Rattle.packetless_machine.specs.Machine.{Machine, end_of}
use Rattle.packetless_machine.specs.Verbs.{after_answer, after_verb, refusal_of, region_of}
use Rattle.law_simulation.specs.Kept.{verb_in}
use Rattle.law_simulation.specs.Named.{EventsFollowByName}
use Rattle.law_simulation.specs.Stands.{Stands}
use Rattle.mailbox_rules.specs.declared.due.Due.{Due}
use Rattle.mailbox_rules.specs.declared.due.Due.TheVariants as due
use Rattle.mailbox_rules.specs.declared.due.Fetch.{Fetch}
use Rattle.mailbox_rules.specs.declared.letters.Letter.{Letter}
use Rattle.mailbox_rules.specs.Calls.{message_of}
use Rattle.mailbox_rules.specs.Histories.{Turn, placed_letters, sent_letters}
use Rattle.mailbox_rules.specs.Letters.{header_bytes, header_of}
use Rattle.mailbox_rules.specs.Opening.{landing_address, place_address, place_bytes, receiver_end, receiver_key, receiver_region}
use Rattle.mailbox_rules.specs.State.{Channel, Mail, channel, is_away, is_sender, with_channel}
use Rattle.mailbox_rules.specs.Working.{arriving, asking, bytes_in, doing, due_next, fetch_of, filling, loads, may_be_done}
use Rattle.law_mailbox.specs.Held.{connection_in, IsHeld}
use Rattle.law_mailbox.specs.Kept.{HoldMessages, IsKept, IsOpened, bodies, body_in, copies, copy_in, fetch_in, free_in, frees, landing_offset, long_letters, repost_in, sight_of, slot_in}
use Rattle.law_mailbox.specs.Works.{BodyCopies, Copies, IsBodyCopied, IsCopied, IsKeptLine, Line, WorksTo}
use Rattle.law_mailbox.proofs.work.Asking.{Asks, Made, Unmade, asks, lives, loads_bytes}
use Rattle.law_mailbox.proofs.work.Changing.{IsSameFor, owed_with, same_itself, sees_itself}
use Rattle.law_mailbox.proofs.work.Channels.{changed_elsewhere, changed_long, changed_there}
use Rattle.law_mailbox.proofs.work.Doing.{goes_on, one_of_senders}
use Rattle.law_mailbox.proofs.work.Dues.{inserted_long, none_in_front, one_of, part_comes, part_goes, part_is_first, part_stays}
use Rattle.law_mailbox.proofs.work.DueSteps.{sender_there}
use Rattle.law_mailbox.proofs.settling.Opened.{were_sent}
use Rattle.law_mailbox.proofs.connection.Places.{all_back}
use Rattle.law_mailbox.proofs.connection.Quiet.{posted_few}
use Rattle.law_mailbox.proofs.connection.Regions.{region_cut, region_holds}
use Rattle.law_mailbox.proofs.connection.Requests.{IsLong, long_from}
use Rattle.law_mailbox.proofs.connection.Sights.{context_there}
use Rattle.law_mailbox.proofs.work.WorkSteps.{work_keeps}

-- ---- what becomes due

module _ (j : ℕ) (owed rest : List Due) (k : ℕ) where
  fetch_comes : (place : ℕ) (fetch : Option Fetch) → ◌≡◌ {A = List Fetch} (fetch_in j (due.Repost j place fetch) ++ []) (option_to_list fetch)
  fetch_comes place None = refl
  fetch_comes place (Some f) = one_of j f

  pub is_copied : (place size : ℕ) (fetch : Option Fetch) → slice_get owed k ≡ Some (due.CopyMessage j place size) → copies j (take k owed) ≡ [] → IsCopied j (owed ++ rest) (due_next owed k (Some (due.Repost j place fetch)) ++ rest) place size (option_to_list fetch)
  is_copied place size fetch at front =
      let next : Option Due = Some (due.Repost j place fetch) in
      let d : Due = due.CopyMessage j place size in
      record {
        first = part_is_first (copy_in j) owed rest k d at next (place, size) front (one_of j (place, size)) refl;
        repost = part_comes (repost_in j) owed rest k d at next (place ∷ []) refl (one_of j place);
        fetch = part_comes (fetch_in j) owed rest k d at next (option_to_list fetch) refl (fetch_comes place fetch);
        bodies_same = part_stays (body_in j) owed rest k d at next refl;
        frees_same = part_stays (free_in j) owed rest k d at next refl;
        slots_same = part_stays (slot_in j) owed rest k d at next refl;
      }

  pub is_body_copied : (size : ℕ) → slice_get owed k ≡ Some (due.CopyBody j size) → IsBodyCopied j (owed ++ rest) (due_next owed k (Some (due.PostFree j)) ++ rest) size
  is_body_copied size at =
      let next : Option Due = Some (due.PostFree j) in
      let d : Due = due.CopyBody j size in
      record {
        body = part_goes (body_in j) owed rest k d at next (size ∷ []) (one_of j size) refl;
        free = inserted_long j (frees j (owed ++ rest)) (frees j (due_next owed k (Some (due.PostFree j)) ++ rest)) (part_comes (free_in j) owed rest k d at next (j ∷ []) refl (one_of j j));
        copies_same = part_stays (copy_in j) owed rest k d at next refl;
        reposts_same = part_stays (repost_in j) owed rest k d at next refl;
        fetches_same = part_stays (fetch_in j) owed rest k d at next refl;
        slots_same = part_stays (slot_in j) owed rest k d at next refl;
      }

-- no message to be copied stands in front of what is done first
pub copy_none : (j : ℕ) (w : World) → is_away w 0 ≡ false → (x : Due) → may_be_done w x ≡ false → copy_in j x ≡ []
copy_none j w home (due.CopyMessage i place size) f = let no : true ≡ false = sym (ap not home) ∙ f in cc
copy_none j w home x f = refl

-- ---- bytes that are whole lie in the region

cut_lies : (a n : ℕ) (xs : List ℕ) → length (cut a n xs) ≡ n → 1 ≤ n → a + n ≤ length xs
unfolding cut
cut_lies a n xs long positive = omega (arith, long, positive, length-take n (drop a xs), length-drop a xs)

message_long : (i : ℕ) (l : Letter) → 1 ≤ length (message_of i l)
unfolding header_bytes
message_long i l = omega arith

pub place_lies : (i : ℕ) (landed : List ℕ) (place size : ℕ) (xs : List (ℕ × ℕ)) (ls : List Letter) → HoldMessages i landed ((place, size) ∷ xs) ls → place_bytes * place + size ≤ length landed
place_lies i landed place size xs [] h = absurd h
place_lies i landed place size xs (l ∷ ls) h =
    cut_lies (place_bytes * place) size landed (ap length h.1 ∙ sym h.0) (subst (λ (n : ℕ). 1 ≤ n) (sym h.0) (message_long i l))

-- ---- a load

pub load_verb : (o : ObjName) (address n : ℕ) → verb_in (events.Load o address n) ≡ Some (verbs.Load o address n)
unfolding verb_in
load_verb o address n = refl

-- a load changes nothing of the machine
load_stays : (w : World) (m : Machine) (o : ObjName) (address n given : ℕ) → Stands w (after_verb m (verbs.Load o address n) given) → Stands w m
load_stays w m o address n given = by (refusal_of m (verbs.Load o address n))
  where
    by : (r : Option Refusal) → Stands w (after_answer r m (verbs.Load o address n) given) → Stands w m
    by None s = s
    by (Some r) s = s

load_stands : (w : World) (m : Machine) (o : ObjName) (address n : ℕ) → Asks w m (events.Load o address n) (verbs.Load o address n) → Stands (world_step w (world_events.At (events.Load o address n))).world m
load_stands w m o address n (Unmade u s) = s
load_stands w m o address n (Made given a s) = load_stays (world_step w (world_events.At (events.Load o address n))).world m o address n given s

module _ (follow : EventsFollowByName) (peers : ℕ) (small : peers ≤ 8) (ts : List Turn) (m : Mail) (h : IsHeld peers ts m) (home : is_away m.world 0 ≡ false) (k : ℕ) (j : ℕ) where
  abbrev line : Line
  line = record { sight = sight_of h.machine m.owed j; channel = channel m j; sent = sent_letters j ts; open' = placed_letters j ts }

  abbrev rest : List Due
  rest = (sight_of h.machine [] j).dues

  abbrev region : Region
  region = region_of h.machine (receiver_region j)

  works_to : (1 ≤ j) × (j ≤ peers) → (x' : Line) → WorksTo j line x' → IsKeptLine j x'
  works_to range x' works = let high = range.1 in work_keeps j line x' (omega (arith, high, small)) (were_sent j ts) works (h.all.kept j range.0 range.1)

  pub loaded_stands : (address n : ℕ) → Stands (loads m j address n).mail.world h.machine
  unfolding asking
  loaded_stands address n =
      load_stands m.world h.machine (receiver_region j) address n
      (asks follow m.world h.machine (events.Load (receiver_region j) address n) (verbs.Load (receiver_region j) address n) (load_verb (receiver_region j) address n) (λ a. refl) tt h.stands)

  pub loaded_bytes : (address offset n : ℕ) → IsOpened h.machine j → address ≡ place_address j 0 + offset → offset + n ≤ length region.bytes → bytes_in (loads m j address n).answer ≡ cut offset n region.bytes
  unfolding asking
  loaded_bytes address offset n opened e within =
      let r = opened.receiver_region_is in
      ap bytes_in (loads_bytes m.world h.machine (receiver_region j) address n h.stands
      (lives m.world h.machine 0 h.stands (context_there h.machine (receiver_end j) opened.receiver_there) home)
      opened.receiver_region_there (region_holds region (place_address j 0) (landing_offset + most_bytes) 1 (receiver_key j) r address offset n e within))
      ∙ region_cut region (place_address j 0) (landing_offset + most_bytes) 1 (receiver_key j) r address offset n e

  -- a connection that is changed after a load, and the others
  module _ (address n : ℕ) (there : is_sender m j ≡ true) (change : Channel → Channel) where
    pub changed_here : channel (with_channel (loads m j address n).mail j change) j ≡ change (channel m j)
    unfolding asking
    changed_here = changed_there (loads m j address n).mail j there change

    pub others_stay : (q : ℕ) → 1 ≤ q → q ≢ j → IsSameFor (channel m q) (channel (with_channel (loads m j address n).mail j change) q)
    unfolding asking
    others_stay q low apart = subst (λ (c : Channel). IsSameFor (channel m q) c) (sym (changed_elsewhere (loads m j address n).mail j there change q low (λ e. apart (sym e)))) (same_itself (channel m q))

    pub long_stays : length (with_channel (loads m j address n).mail j change).channels ≡ length m.channels
    unfolding asking
    long_stays = changed_long (loads m j address n).mail j there change

    pub owed_stays : (with_channel (loads m j address n).mail j change).owed ≡ m.owed
    unfolding asking
    owed_stays = refl

  pub of_one : (d : Due) → connection_in d ≡ j → All (λ x. connection_in x ≡ j) (d ∷ [])
  of_one d is = All-cons (λ x. connection_in x ≡ j) d [] is (All-nil (λ x. connection_in x ≡ j))

  pub copies_held : (place size : ℕ) → slice_get m.owed k ≡ Some (due.CopyMessage j place size) → ((i : ℕ) → i < k → may_be_done m.world (get_or m.owed i (due.CopyMessage j place size)) ≡ false) →
      IsHeld peers ts (doing m k (due.CopyMessage j place size))
  unfolding doing
  copies_held place size at before =
      let d : Due = due.CopyMessage j place size in
      let bytes : List ℕ = bytes_in (loads m j (place_address j place) size).answer in
      let fetch : Option Fetch = fetch_of (header_of bytes) in
      let next : Option Due = Some (due.Repost j place fetch) in
      let range : (1 ≤ j) × (j ≤ peers) = one_of_senders peers ts m h k d at next (of_one (due.Repost j place fetch) refl) in
      let kept : IsKept j (sight_of h.machine m.owed j) (channel m j) (sent_letters j ts) (placed_letters j ts) = h.all.kept j range.0 range.1 in
      let there : is_sender m j ≡ true = sender_there m peers j h.senders range.0 range.1 in
      let g : IsCopied j (m.owed ++ rest) (due_next m.owed k (Some (due.Repost j place (fetch_of (header_of (bytes_in (loads m j (place_address j place) size).answer))))) ++ rest) place size (option_to_list (fetch_of (header_of (bytes_in (loads m j (place_address j place) size).answer)))) =
      is_copied j m.owed rest k place size fetch at (none_in_front (may_be_done m.world) (copy_in j) (copy_none j m.world home) m.owed k d before) in
      let lies : place_bytes * place + size ≤ length region.bytes =
      place_lies j region.bytes place size (copies j (due_next m.owed k next ++ rest)) (drop (channel m j).receives (sent_letters j ts))
      (subst (λ (xs : List (ℕ × ℕ)). HoldMessages j (region_of h.machine (receiver_region j)).bytes xs (drop (channel m j).receives (sent_letters j ts))) g.first kept.messages.places_hold) in
      let is : bytes_in (loads m j (place_address j place) size).answer ≡ cut (place_bytes * place) size region.bytes =
      loaded_bytes (place_address j place) (place_bytes * place) size (h.all.opened j range.0 range.1) (omega arith) lies in
      goes_on peers ts m h k d at next (of_one (due.Repost j place fetch) refl) (with_channel (loads m j (place_address j place) size).mail j (arriving bytes)) h.machine (sight_of h.machine [] j)
      (loaded_stands (place_address j place) size) (sees_itself peers h.machine j) (owed_stays (place_address j place) size there (arriving bytes)) (others_stay (place_address j place) size there (arriving bytes)) (long_stays (place_address j place) size there (arriving bytes))
      (subst (λ (c : Channel). IsKept j (owed_with (due_next m.owed k (Some (due.Repost j place (fetch_of (header_of (bytes_in (loads m j (place_address j place) size).answer)))))) (sight_of h.machine [] j)) c (sent_letters j ts) (placed_letters j ts)) (sym (changed_here (place_address j place) size there (arriving bytes)))
      (works_to range _ (Copies place size bytes (due_next m.owed k next ++ rest) is g)))

  -- ---- a body

  -- the body that is to be copied next lies in the landing place
  pub body_lies : (size : ℕ) → slice_get m.owed k ≡ Some (due.CopyBody j size) → (1 ≤ j) × (j ≤ peers) → landing_offset + size ≤ length region.bytes
  body_lies size at range =
      let kept : IsKept j (sight_of h.machine m.owed j) (channel m j) (sent_letters j ts) (placed_letters j ts) = h.all.kept j range.0 range.1 in
      let g : IsBodyCopied j (m.owed ++ rest) (due_next m.owed k (Some (due.PostFree j)) ++ rest) size = is_body_copied j m.owed rest k size at in
      let counted : length (bodies j (m.owed ++ rest)) ≡ length (bodies j (due_next m.owed k (Some (due.PostFree j)) ++ rest)) + 1 = inserted_long size (bodies j (due_next m.owed k (Some (due.PostFree j)) ++ rest)) (bodies j (m.owed ++ rest)) g.body in
      let posted = kept.counts.bodies_posted in
      let few = posted_few j (end_of h.machine (receiver_end j)).posted (sent_letters j ts) kept.queue in
      let l : Letter = get_or (long_letters (sent_letters j ts)) (channel m j).reads (record { tag = 0; body = [] }) in
      let there : slice_get (long_letters (sent_letters j ts)) (channel m j).reads ≡ Some (get_or (long_letters (sent_letters j ts)) (channel m j).reads (record { tag = 0; body = [] })) =
      slice_get-get_or (long_letters (sent_letters j ts)) (channel m j).reads (record { tag = 0; body = [] }) (omega (arith, counted, posted, few)) in
      let long : IsLong (sent_letters j ts) (channel m j).reads (get_or (long_letters (sent_letters j ts)) (channel m j).reads (record { tag = 0; body = [] })) = long_from (sent_letters j ts) (channel m j).reads l there in
      let size_of_body : 4080 < length l.body = ltb-true 4080 (length l.body) long.long in
      let all : All (λ (n : ℕ). (n ≡ length l.body) × (cut landing_offset n region.bytes ≡ l.body)) (g.body.front ++ (size ∷ g.body.behind)) =
      subst (All (λ (n : ℕ). (n ≡ length l.body) × (cut landing_offset n region.bytes ≡ l.body))) g.body.with_them (kept.landing.bodies_hold l there) in
      let held : (size ≡ length l.body) × (cut landing_offset size region.bytes ≡ l.body) =
      All-head (λ (n : ℕ). (n ≡ length l.body) × (cut landing_offset n region.bytes ≡ l.body)) size g.body.behind (all_back (λ (n : ℕ). (n ≡ length l.body) × (cut landing_offset n region.bytes ≡ l.body)) g.body.front (size ∷ g.body.behind) all) in
      let same = held.0 in
      cut_lies landing_offset size region.bytes (ap length held.1 ∙ sym held.0) (omega (arith, size_of_body, same))

  pub bodies_held : (size : ℕ) → slice_get m.owed k ≡ Some (due.CopyBody j size) → IsHeld peers ts (doing m k (due.CopyBody j size))
  unfolding doing
  bodies_held size at =
      let d : Due = due.CopyBody j size in
      let bytes : List ℕ = bytes_in (loads m j (landing_address j) size).answer in
      let next : Option Due = Some (due.PostFree j) in
      let range : (1 ≤ j) × (j ≤ peers) = one_of_senders peers ts m h k d at next (of_one (due.PostFree j) refl) in
      let there : is_sender m j ≡ true = sender_there m peers j h.senders range.0 range.1 in
      let is : bytes_in (loads m j (landing_address j) size).answer ≡ cut landing_offset size region.bytes =
      loaded_bytes (landing_address j) landing_offset size (h.all.opened j range.0 range.1) (omega arith) (body_lies size at range) in
      goes_on peers ts m h k d at next (of_one (due.PostFree j) refl) (with_channel (loads m j (landing_address j) size).mail j (filling bytes)) h.machine (sight_of h.machine [] j)
      (loaded_stands (landing_address j) size) (sees_itself peers h.machine j) (owed_stays (landing_address j) size there (filling bytes)) (others_stay (landing_address j) size there (filling bytes)) (long_stays (landing_address j) size there (filling bytes))
      (subst (λ (c : Channel). IsKept j (owed_with (due_next m.owed k (Some (due.PostFree j))) (sight_of h.machine [] j)) c (sent_letters j ts) (placed_letters j ts)) (sym (changed_here (landing_address j) size there (filling bytes)))
      (subst (λ (bs : List ℕ). IsKept j (owed_with (due_next m.owed k (Some (due.PostFree j))) (sight_of h.machine [] j)) (filling bs (channel m j)) (sent_letters j ts) (placed_letters j ts)) (sym is)
      (works_to range _ (BodyCopies size (due_next m.owed k next ++ rest) (is_body_copied j m.owed rest k size at)))))
