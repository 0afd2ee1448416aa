-- Work keeps what is true of a connection: messages and bodies that are copied, and what is posted for them.
use Rattle.std.proofs.Common.{arith, ◌≡◌, ℕ, suc, ◌+◌, ◌-◌, ◌*◌, ◌<◌, ◌≤◌, List, [], ◌∷◌, ◌++◌, length, drop, map, get_or, true, false, Bool, refl, sym, subst, ap, ◌∙◌, Some, None, Option, ◌⊎◌, inl, inr, append-nil, length-append, le-ltb}
use Rattle.std.specs.Prelude.{All, if◌then◌else◌, nat_lt, not, option_to_list, slice_get, ◌||◌, ◌==◌}
use Rattle.std.proofs.lemmas.List.Elements.{All-append, All-cons, All-head, All-nil, All-push, All-same, All-tail}
use Rattle.std.proofs.lemmas.Option.{same_Some, slice_get-get_or}
use Rattle.rdma_types.specs.Memory.{cut}
use Rattle.packetless_machine.specs.Machine.{End}
use Rattle.mailbox_rules.specs.declared.due.Fetch.{Fetch}
use Rattle.mailbox_rules.specs.declared.letters.Arrival.{Arrival}
use Rattle.mailbox_rules.specs.declared.letters.Letter.{Letter}
use Rattle.mailbox_rules.specs.Calls.{message_of}
use Rattle.mailbox_rules.specs.Histories.{Placed, fetched_before}
use Rattle.mailbox_rules.specs.Letters.{header_of, is_rendezvous}
use Rattle.mailbox_rules.specs.Opening.{depth, place_bytes, receiver_receive, sender_remote_key}
use Rattle.mailbox_rules.specs.State.{Channel}
use Rattle.mailbox_rules.specs.Working.{arrival_of, arriving, fetch_of}
use Rattle.law_mailbox.specs.Arrived.{AreOpen, arrival_at, in_front}
use Rattle.law_mailbox.specs.Headers.{IsLetter, IsMessageRead, arrives_as}
use Rattle.law_mailbox.specs.Kept.{HoldMessages, IsKeptWith, last_long, long_letters, places}
use Rattle.law_mailbox.proofs.queue_room.Counting.{all_insert, all_inserted, all_four, all_whole, often, often_insert, often_places}
use Rattle.law_mailbox.proofs.queue_room.Counts.{count_cons, one_if}
use Rattle.law_mailbox.proofs.connection.Headers.{message_read}
use Rattle.law_mailbox.proofs.connection.Long.{drop_at, fetched_next, front_next, long_at}
use Rattle.law_mailbox.proofs.connection.Places.{all_at, all_back, all_front, copied_long}
use Rattle.law_mailbox.proofs.connection.Runs.{pushed}

-- ---- places are posted again

module _ (i : ℕ) (sender receiver : End) (stored landed : List ℕ) (c : Channel) (sent : List Letter) (open' : List Placed) (copied : List (ℕ × ℕ)) (front behind : List ℕ) (place : ℕ) (fetched : List Fetch) (bodies : List ℕ) (frees slots : ℕ)
    (h : IsKeptWith i sender receiver stored landed (record { copied = copied; reposted = front ++ (place ∷ behind); fetched = fetched; bodies = bodies; frees = frees; slots = slots }) c sent open') where
  pub reposts_not : IsKeptWith i sender receiver stored landed (record { copied = copied; reposted = front ++ behind; fetched = fetched; bodies = bodies; frees = frees; slots = slots }) c sent open'
  reposts_not = record {
    letters = h.letters;
    unoffered = h.unoffered;
    number = h.number;
    plain = h.plain;
    sends = h.sends;
    messages = h.messages;
    places = record {
      places_once = λ live k.
          let once : often k (places receiver.unused receiver.in_use copied (front ++ (place ∷ behind))) ≤ 1 = h.places.places_once live k in
          omega (arith, once, often_places k receiver.unused receiver.in_use copied (front ++ (place ∷ behind)), often_places k receiver.unused receiver.in_use copied (front ++ behind), often_insert k place front behind);
      places_within = λ live.
          let parts = all_four (λ k. k < depth) receiver.unused receiver.in_use copied (front ++ (place ∷ behind)) (h.places.places_within live) in
          all_whole (λ k. k < depth) receiver.unused receiver.in_use copied (front ++ behind) parts.0 parts.1 parts.2 (all_insert (λ k. k < depth) place front behind parts.3).1;
      receives_known = h.places.receives_known;
    };
    queue = h.queue;
    counts = h.counts;
    slot = h.slot;
    offers = h.offers;
    landing = h.landing;
    arrived = h.arrived;
    waits_open = h.waits_open;
  }

  pub reposts : IsKeptWith i sender (record receiver { unused = receiver.unused ++ receiver_receive i place ∷ [] }) stored landed (record { copied = copied; reposted = front ++ behind; fetched = fetched; bodies = bodies; frees = frees; slots = slots }) c sent open'
  reposts = record {
    letters = h.letters;
    unoffered = h.unoffered;
    number = h.number;
    plain = h.plain;
    sends = h.sends;
    messages = h.messages;
    places = record {
      places_once = λ live k.
          let once : often k (places receiver.unused receiver.in_use copied (front ++ (place ∷ behind))) ≤ 1 = h.places.places_once live k in
          let more : often k (map (λ v. v.id) (receiver.unused ++ receiver_receive i place ∷ [])) ≡ often k (map (λ v. v.id) receiver.unused) + one_if (place == k) =
          ap (often k) (pushed (λ v. v.id) receiver.unused (receiver_receive i place)) ∙ (often_insert k place (map (λ v. v.id) receiver.unused) [] ∙ ap (λ (xs : List ℕ). often k xs + one_if (place == k)) (append-nil (map (λ v. v.id) receiver.unused))) in
          omega (arith, once, often_places k receiver.unused receiver.in_use copied (front ++ (place ∷ behind)), often_places k (receiver.unused ++ receiver_receive i place ∷ []) receiver.in_use copied (front ++ behind), often_insert k place front behind, more);
      places_within = λ live.
          let parts = all_four (λ k. k < depth) receiver.unused receiver.in_use copied (front ++ (place ∷ behind)) (h.places.places_within live) in
          let both = all_insert (λ k. k < depth) place front behind parts.3 in
          let more : All (λ k. k < depth) (map (λ v. v.id) (receiver.unused ++ receiver_receive i place ∷ [])) =
          All-same (λ k. k < depth) (map (λ v. v.id) (receiver.unused ++ receiver_receive i place ∷ [])) (map (λ v. v.id) receiver.unused ++ place ∷ []) (pushed (λ v. v.id) receiver.unused (receiver_receive i place))
          (All-push (λ k. k < depth) (map (λ v. v.id) receiver.unused) place parts.0 both.0) in
          all_whole (λ k. k < depth) (receiver.unused ++ receiver_receive i place ∷ []) receiver.in_use copied (front ++ behind) more parts.1 parts.2 both.1;
      receives_known = λ live. All-push (λ v. v ≡ receiver_receive i v.id) receiver.unused (receiver_receive i place) (h.places.receives_known live) refl;
    };
    queue = h.queue;
    counts = h.counts;
    slot = h.slot;
    offers = h.offers;
    landing = h.landing;
    arrived = h.arrived;
    waits_open = h.waits_open;
  }

-- ---- a message is copied

two_ways : (b : Bool) (l : Letter) → ◌≡◌ {A = Arrival} (record { tag = l.tag; body = if not b || false then Some l.body else None }) (record { tag = l.tag; body = if b then None else Some l.body })
two_ways true l = refl
two_ways false l = refl

counted_fetch : (b : Bool) (f : Fetch) → length (option_to_list (if b then Some f else None)) ≡ one_if b
counted_fetch true f = refl
counted_fetch false f = refl

module _ (i : ℕ) (sender receiver : End) (stored landed : List ℕ) (c : Channel) (sent : List Letter) (open' : List Placed) (copied : List (ℕ × ℕ)) (front behind : List ℕ) (place size : ℕ) (ffront fbehind : List Fetch) (bodies : List ℕ) (frees slots : ℕ)
    (known : i ≤ 8) (opened : AreOpen sent open')
    (h : IsKeptWith i sender receiver stored landed (record { copied = (place, size) ∷ copied; reposted = front ++ behind; fetched = ffront ++ fbehind; bodies = bodies; frees = frees; slots = slots }) c sent open')
    (bytes : List ℕ) (is : bytes ≡ cut (place_bytes * place) size landed) where
  abbrev l : Letter
  l = get_or sent c.receives (record { tag = 0; body = [] })

  at : slice_get sent c.receives ≡ Some l
  at =
      let a = h.messages.receives_completed in
      let b = h.sends.acted_within in
      let d = h.sends.posted_within in
      slice_get-get_or sent c.receives (record { tag = 0; body = [] }) (omega (arith, a, b, d))

  held : HoldMessages i landed ((place, size) ∷ copied) (l ∷ drop (suc c.receives) sent)
  held = subst (λ (ls : List Letter). HoldMessages i landed ((place, size) ∷ copied) ls) (drop_at sent c.receives l at) h.messages.places_hold

  bytes_are : bytes ≡ message_of i l
  bytes_are = is ∙ held.1

  is_letter : IsLetter l
  is_letter = all_at IsLetter sent c.receives l h.letters at

  read : IsMessageRead i l
  read = message_read i l known is_letter

  arrival_is : arrival_of (header_of bytes) bytes ≡ arrives_as l
  arrival_is = ap (λ (b : List ℕ). arrival_of (header_of b) b) bytes_are ∙ read.arrival

  fetch_is : fetch_of (header_of bytes) ≡ (if is_rendezvous l.body then Some (record { length = length l.body; rkey = sender_remote_key i }) else None)
  fetch_is = ap (λ (b : List ℕ). fetch_of (header_of b)) bytes_are ∙ read.fetch

  fetch_counted : length (option_to_list (fetch_of (header_of bytes))) ≡ one_if (is_rendezvous l.body)
  fetch_counted = ap (λ (o : Option Fetch). length (option_to_list o)) fetch_is ∙ counted_fetch (is_rendezvous l.body) (record { length = length l.body; rkey = sender_remote_key i })

  next_counted : fetched_before (c.receives + 1) sent ≡ fetched_before c.receives sent + one_if (is_rendezvous l.body)
  next_counted = let e : c.receives + 1 ≡ suc c.receives = omega arith in ap (λ (n : ℕ). fetched_before n sent) e ∙ fetched_next sent c.receives l at

  few_reads : c.reads ≤ fetched_before c.receives sent
  few_reads = let a = h.counts.bodies_posted in let b = h.counts.reads_posted in omega (arith, a, b)

  -- a long letter that is copied is the last one
  last_is : is_rendezvous l.body ≡ true → last_long sent ≡ Some l
  last_is long =
      let a = h.counts.bodies_posted in
      let b = h.counts.reads_posted in
      let d = h.counts.frees_posted in
      let e = h.counts.slot_freed in
      let f = h.counts.acted_within in
      let one : one_if (is_rendezvous l.body) ≡ 1 = ap one_if long in
      let most : fetched_before (c.receives + 1) sent ≤ length (long_letters sent) = copied_long (c.receives + 1) sent in
      let u : (if c.slot_in_use then 1 else 0) ≤ 1 = at_most c.slot_in_use in
      let same : length (long_letters sent) - 1 ≡ fetched_before c.receives sent = omega (arith, a, b, d, e, f, one, most, next_counted, u) in
      ap (λ (k : ℕ). slice_get (long_letters sent) k) same ∙ long_at sent c.receives l at long
    where
      at_most : (t : Bool) → (if t then 1 else 0) ≤ 1
      at_most true = omega arith
      at_most false = omega arith

  fetched_true : (l' : Letter) → last_long sent ≡ Some l' → All (λ (f : Fetch). (f.length ≡ length l'.body) × (f.rkey ≡ sender_remote_key i)) (option_to_list (fetch_of (header_of bytes)))
  fetched_true l' last =
      All-same (λ (f : Fetch). (f.length ≡ length l'.body) × (f.rkey ≡ sender_remote_key i)) (option_to_list (fetch_of (header_of bytes))) (option_to_list (if is_rendezvous l.body then Some (record { length = length l.body; rkey = sender_remote_key i }) else None))
      (ap option_to_list fetch_is) (by (is_rendezvous l.body) refl)
    where
      by : (b : Bool) → is_rendezvous l.body ≡ b → All (λ (f : Fetch). (f.length ≡ length l'.body) × (f.rkey ≡ sender_remote_key i)) (option_to_list (if b then Some (record { length = length l.body; rkey = sender_remote_key i }) else None))
      by true long =
          let same : l ≡ l' = same_Some l l' (sym (last_is long) ∙ last) in
          All-cons (λ (f : Fetch). (f.length ≡ length l'.body) × (f.rkey ≡ sender_remote_key i)) (record { length = length l.body; rkey = sender_remote_key i }) [] (ap (λ (z : Letter). length z.body) same, refl) (All-nil (λ (f : Fetch). (f.length ≡ length l'.body) × (f.rkey ≡ sender_remote_key i)))
      by false short = All-nil (λ (f : Fetch). (f.length ≡ length l'.body) × (f.rkey ≡ sender_remote_key i))

  arrived_more : c.arrived ++ arrival_of (header_of bytes) bytes ∷ [] ≡ map (arrival_at c.reads sent) (in_front (c.receives + 1) open')
  arrived_more =
      let x : Placed = record { place = c.receives; letter = l } in
      let less : nat_lt (fetched_before c.receives sent) c.reads ≡ false = le-ltb (fetched_before c.receives sent) c.reads few_reads in
      let here : arrival_at c.reads sent (record { place = c.receives; letter = l }) ≡ arrives_as l = rw less (two_ways (is_rendezvous l.body) l) in
      ap (λ (xs : List Arrival). xs ++ arrival_of (header_of bytes) bytes ∷ []) h.arrived
      ∙ (ap (λ (a : Arrival). map (arrival_at c.reads sent) (in_front c.receives open') ++ a ∷ []) (arrival_is ∙ sym here)
      ∙ (sym (pushed (arrival_at c.reads sent) (in_front c.receives open') x)
      ∙ ap (map (arrival_at c.reads sent)) (sym (front_next open' c.receives (c.receives + 1) x refl refl opened.rising (h.waits_open c.receives l at (inl (omega arith)))))))

  pub copies : IsKeptWith i sender receiver stored landed (record { copied = copied; reposted = front ++ (place ∷ behind); fetched = ffront ++ (option_to_list (fetch_of (header_of bytes)) ++ fbehind); bodies = bodies; frees = frees; slots = slots })
      (arriving bytes c) sent open'
  copies = record {
    letters = h.letters;
    unoffered = h.unoffered;
    number = h.number;
    plain = h.plain;
    sends = h.sends;
    messages = record {
      receives_completed = let a = h.messages.receives_completed in omega (arith, a);
      places_hold = let e : suc c.receives ≡ c.receives + 1 = omega arith in subst (λ (n : ℕ). HoldMessages i landed copied (drop n sent)) e held.2;
      part_holds = h.messages.part_holds;
      part_within = h.messages.part_within;
    };
    places = record {
      places_once = λ live k.
          let once : often k (places receiver.unused receiver.in_use ((place, size) ∷ copied) (front ++ behind)) ≤ 1 = h.places.places_once live k in
          omega (arith, once, count_cons (λ (z : ℕ). z == k) place (map (λ (x : ℕ × ℕ). x.0) copied), often_places k receiver.unused receiver.in_use ((place, size) ∷ copied) (front ++ behind), often_places k receiver.unused receiver.in_use copied (front ++ (place ∷ behind)), often_insert k place front behind);
      places_within = λ live.
          let parts = all_four (λ k. k < depth) receiver.unused receiver.in_use ((place, size) ∷ copied) (front ++ behind) (h.places.places_within live) in
          all_whole (λ k. k < depth) receiver.unused receiver.in_use copied (front ++ (place ∷ behind)) parts.0 parts.1 (All-tail (λ k. k < depth) place (map (λ x. x.0) copied) parts.2)
          (all_inserted (λ k. k < depth) place front behind (All-head (λ k. k < depth) place (map (λ x. x.0) copied) parts.2) parts.3);
      receives_known = h.places.receives_known;
    };
    queue = h.queue;
    counts = record {
      acted_within = h.counts.acted_within;
      told_within = h.counts.told_within;
      told_acted = h.counts.told_acted;
      over = h.counts.over;
      reads_posted =
          let a = h.counts.reads_posted in
          omega (arith, a, next_counted, fetch_counted, length-append ffront fbehind, length-append ffront (option_to_list (fetch_of (header_of bytes)) ++ fbehind), length-append (option_to_list (fetch_of (header_of bytes))) fbehind);
      frees_posted = h.counts.frees_posted;
      bodies_posted = h.counts.bodies_posted;
      bodies_told = h.counts.bodies_told;
      slot_freed = h.counts.slot_freed;
    };
    slot = record {
      fetches_true = λ l' last.
          let old = h.slot.fetches_true l' last in
          All-append (λ (f : Fetch). (f.length ≡ length l'.body) × (f.rkey ≡ sender_remote_key i)) ffront (option_to_list (fetch_of (header_of bytes)) ++ fbehind)
          (all_front (λ (f : Fetch). (f.length ≡ length l'.body) × (f.rkey ≡ sender_remote_key i)) ffront fbehind old)
          (All-append (λ (f : Fetch). (f.length ≡ length l'.body) × (f.rkey ≡ sender_remote_key i)) (option_to_list (fetch_of (header_of bytes))) fbehind (fetched_true l' last)
          (all_back (λ (f : Fetch). (f.length ≡ length l'.body) × (f.rkey ≡ sender_remote_key i)) ffront fbehind old));
      slot_holds = h.slot.slot_holds;
    };
    offers = h.offers;
    landing = h.landing;
    arrived = arrived_more;
    waits_open = λ k l' there waiting. h.waits_open k l' there (earlier k waiting);
  }
    where
      earlier : (k : ℕ) {A : Type 0} → (c.receives + 1 ≤ k) ⊎ A → (c.receives ≤ k) ⊎ A
      earlier k (inl past) = inl (omega (arith, past))
      earlier k (inr waits) = inr waits

module _ (i : ℕ) (sender receiver : End) (stored landed : List ℕ) (c : Channel) (sent : List Letter) (open' : List Placed) (copied : List (ℕ × ℕ)) (front behind : List ℕ) (place size : ℕ) (ffront fbehind : List Fetch) (bodies : List ℕ) (frees slots : ℕ)
    (known : i ≤ 8) (opened : AreOpen sent open')
    (h : IsKeptWith i sender receiver stored landed (record { copied = (place, size) ∷ copied; reposted = front ++ behind; fetched = ffront ++ fbehind; bodies = bodies; frees = frees; slots = slots }) c sent open')
    (bytes : List ℕ) (is : bytes ≡ cut (place_bytes * place) size landed) where
  -- a message that is copied makes a fetch due where its letter is long
  pub copy_counted : fetched_before (c.receives + 1) sent ≡ fetched_before c.receives sent + length (option_to_list (fetch_of (header_of bytes)))
  copy_counted =
      let next = next_counted i sender receiver stored landed c sent open' copied front behind place size ffront fbehind bodies frees slots known opened h bytes is in
      let fetch = fetch_counted i sender receiver stored landed c sent open' copied front behind place size ffront fbehind bodies frees slots known opened h bytes is in
      omega (arith, next, fetch)
