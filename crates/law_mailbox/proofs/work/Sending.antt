-- A letter that is sent keeps what is true of a connection.
use Rattle.std.proofs.Common.{arith, ◌≡◌, ℕ, zero, suc, ◌+◌, ◌-◌, ◌*◌, ◌/◌, ◌%◌, ◌<◌, ◌≤◌, List, [], ◌∷◌, ◌++◌, length, take, drop, map, true, false, Bool, cond, refl, sym, subst, ap, ◌∙◌, Some, None, Option, ◌⊎◌, inl, inr, append-nil, length-append, ltb-false, ltb-true}
use Rattle.std.specs.Prelude.{All, if◌then◌else◌, nat_lt, not, slice_get, ◌||◌}
use Rattle.std.proofs.lemmas.List.{take-append-le}
use Rattle.std.proofs.lemmas.List.Elements.{All-head, All-nil, All-push, All-same, All-tail, All-weaker}
use Rattle.std.proofs.lemmas.Option.{none-some, same_Some, slice_get_past}
use Rattle.rdma_types.specs.declared.requests.Receive.{Receive}
use Rattle.rdma_types.specs.Memory.{cut}
use Rattle.rdma_types.specs.Objects.{Posted}
use Rattle.packetless_machine.specs.Machine.{End, Offered}
use Rattle.mailbox_rules.specs.declared.letters.Arrival.{Arrival}
use Rattle.mailbox_rules.specs.declared.letters.Letter.{Letter}
use Rattle.mailbox_rules.specs.Calls.{sending}
use Rattle.mailbox_rules.specs.Histories.{Placed, fetched_before}
use Rattle.mailbox_rules.specs.Letters.{is_rendezvous}
use Rattle.mailbox_rules.specs.Opening.{sender_remote_key}
use Rattle.mailbox_rules.specs.State.{Channel}
use Rattle.law_mailbox.specs.Arrived.{arrival_at, in_front}
use Rattle.law_mailbox.specs.Headers.{IsLetter}
use Rattle.law_mailbox.specs.Kept.{AreSendsKept, Has, HoldMessages, HoldsPart, IsKeptWith, IsQueueOfReceiver, IsSlotKept, Pending, landing_offset, last_long, long_letters, requests_for, sent_as, slot_offset}
use Rattle.law_mailbox.proofs.connection.Bytes.{cut_nothing}
use Rattle.law_mailbox.proofs.queue_room.Counting.{all_both}
use Rattle.law_mailbox.proofs.connection.Lists.{get_left, get_seam}
use Rattle.law_mailbox.proofs.connection.Long.{drop_longer, fetched_append, front_below, front_later, has_last, has_more, long_append}
use Rattle.law_mailbox.proofs.connection.Places.{copied_long, nil_of}
use Rattle.law_mailbox.proofs.connection.Requests.{requests_append, requests_long}
use Rattle.law_mailbox.proofs.connection.Runs.{pushed}

-- ---- lists with one more

-- it is one of before, or the last
pub get_one_of : {X : Type 0} (xs : List X) (y : X) (k : ℕ) (x : X) → slice_get (xs ++ y ∷ []) k ≡ Some x → ((k < length xs) × (slice_get xs k ≡ Some x)) ⊎ ((k ≡ length xs) × (y ≡ x))
get_one_of [] y zero x h = inr (refl, same_Some y x h)
get_one_of [] y (suc k) x h = absurd (none-some x h)
get_one_of (z ∷ xs) y zero x h = inl (omega arith, h)
get_one_of (z ∷ xs) y (suc k) x h = by (get_one_of xs y k x h)
  where
    by : ((k < length xs) × (slice_get xs k ≡ Some x)) ⊎ ((k ≡ length xs) × (y ≡ x)) → ((suc k < suc (length xs)) × (slice_get xs k ≡ Some x)) ⊎ ((suc k ≡ suc (length xs)) × (y ≡ x))
    by (inl a) = let b = a.0 in inl (omega (arith, b), a.1)
    by (inr a) = inr (ap suc a.0, a.1)

take_all_of : {X : Type 0} (n : ℕ) (xs : List X) → length xs ≤ n → take n xs ≡ xs
take_all_of zero [] h = refl
take_all_of (suc n) [] h = refl
take_all_of zero (x ∷ xs) h = absurd (omega arith)
take_all_of (suc n) (x ∷ xs) h = ap (λ l. x ∷ l) (take_all_of n xs (omega arith))

map_long : {X Y : Type 0} (f : X → Y) (xs : List X) → length (map f xs) ≡ length xs
map_long f [] = refl
map_long f (x ∷ xs) = ap suc (map_long f xs)

-- messages in their places are those of the same letters, with more behind
hold_longer : (i : ℕ) (bytes : List ℕ) (xs : List (ℕ × ℕ)) (ls more : List Letter) → HoldMessages i bytes xs ls → HoldMessages i bytes xs (ls ++ more)
hold_longer i bytes [] ls more h = tt
hold_longer i bytes (x ∷ xs) [] more h = absurd h
hold_longer i bytes (x ∷ xs) (l ∷ ls) more h = (h.0, h.1, hold_longer i bytes xs ls more h.2)

part_of_none : (i : ℕ) (bytes : List ℕ) (into : ℕ) (o : Option Receive) (l : Option Letter) → HoldsPart i bytes into o None → HoldsPart i bytes into o l
part_of_none i bytes into None l h = h
part_of_none i bytes into (Some v) l h = absurd h

-- arrivals are the same, where more is sent
same_arrivals : (reads : ℕ) (sent more : List Letter) (xs : List Placed) → All (λ x. x.place < length sent) xs → map (arrival_at reads (sent ++ more)) xs ≡ map (arrival_at reads sent) xs
same_arrivals reads sent more [] a = refl
same_arrivals reads sent more (x ∷ xs) a =
    let below : x.place < length sent = All-head (λ y. y.place < length sent) x xs a in
    let same : fetched_before x.place (sent ++ more) ≡ fetched_before x.place sent = fetched_append sent more x.place (omega arith) in
    ap (λ (n : ℕ). record { tag = x.letter.tag; body = if not (is_rendezvous x.letter.body) || nat_lt n reads then Some x.letter.body else None } ∷ map (arrival_at reads (sent ++ more)) xs) same
    ∙ ap (λ (as' : List Arrival). arrival_at reads sent x ∷ as') (same_arrivals reads sent more xs (All-tail (λ y. y.place < length sent) x xs a))

at_most : (t : Bool) → (if t then 1 else 0) ≤ 1
at_most true = omega arith
at_most false = omega arith

or_false : (t : Bool) → (t || false) ≡ t
or_false true = refl
or_false false = refl

or_true : (t : Bool) → (t || true) ≡ true
or_true true = refl
or_true false = refl

module _ (i : ℕ) (sender receiver : End) (stored landed : List ℕ) (c : Channel) (sent : List Letter) (open' : List Placed) (due : Pending) (l : Letter) (is_letter : IsLetter l)
    (h : IsKeptWith i sender receiver stored landed due c sent open')
    (slot_free : is_rendezvous l.body ≡ true → (c.slot_in_use ≡ false) × (cut slot_offset (length l.body) stored ≡ l.body)) where
  received_within : c.receives ≤ length sent
  received_within = let a = h.messages.receives_completed in let b = h.sends.acted_within in let d = h.sends.posted_within in omega (arith, a, b, d)

  -- ---- the long letters

  one_long : is_rendezvous l.body ≡ true → long_letters (sent ++ l ∷ []) ≡ long_letters sent ++ l ∷ []
  one_long long = long_append sent (l ∷ []) ∙ ap (λ (b : Bool). long_letters sent ++ cond b (l ∷ []) []) long

  no_long : is_rendezvous l.body ≡ false → long_letters (sent ++ l ∷ []) ≡ long_letters sent
  no_long short = long_append sent (l ∷ []) ∙ (ap (λ (b : Bool). long_letters sent ++ cond b (l ∷ []) []) short ∙ append-nil (long_letters sent))

  -- a long letter there is one of before, or this one
  long_one_of : (k : ℕ) (l' : Letter) → slice_get (long_letters (sent ++ l ∷ [])) k ≡ Some l' → (slice_get (long_letters sent) k ≡ Some l') ⊎ (k ≡ length (long_letters sent))
  long_one_of k l' at = by (is_rendezvous l.body) refl
    where
      old_or_last : ((k < length (long_letters sent)) × (slice_get (long_letters sent) k ≡ Some l')) ⊎ ((k ≡ length (long_letters sent)) × (l ≡ l')) → (slice_get (long_letters sent) k ≡ Some l') ⊎ (k ≡ length (long_letters sent))
      old_or_last (inl a) = inl a.1
      old_or_last (inr a) = inr a.0

      by : (b : Bool) → is_rendezvous l.body ≡ b → (slice_get (long_letters sent) k ≡ Some l') ⊎ (k ≡ length (long_letters sent))
      by true long = old_or_last (get_one_of (long_letters sent) l k l' (ap (λ (ls : List Letter). slice_get ls k) (sym (one_long long)) ∙ at))
      by false short = inl (ap (λ (ls : List Letter). slice_get ls k) (sym (no_long short)) ∙ at)

  -- no more requests are posted than for the long letters of before
  posted_few : length receiver.posted ≤ 2 * length (long_letters sent)
  posted_few = let a = h.counts.reads_posted in let most = copied_long c.receives sent in omega (arith, a, most)

  queue_longer : IsQueueOfReceiver i receiver.posted (sent ++ l ∷ [])
  queue_longer =
      h.queue
      ∙ (sym (take-append-le (length receiver.posted) (requests_for i (long_letters sent)) (requests_for i (long_letters (l ∷ []))) (omega (arith, posted_few, requests_long i (long_letters sent))))
      ∙ ap (take (length receiver.posted)) (sym (requests_append i (long_letters sent) (long_letters (l ∷ []))) ∙ ap (requests_for i) (sym (long_append sent (l ∷ [])))))

  -- ---- the slot

  no_fetches : is_rendezvous l.body ≡ true → due.fetched ≡ []
  no_fetches long =
      let a = h.counts.bodies_posted in
      let b = h.counts.reads_posted in
      let d = h.counts.frees_posted in
      let e = h.counts.slot_freed in
      let g = h.counts.acted_within in
      let most = copied_long c.receives sent in
      let none : ◌≡◌ {A = ℕ} (if c.slot_in_use then 1 else 0) 0 = ap (λ (t : Bool). if t then 1 else 0) (slot_free long).0 in
      nil_of due.fetched (omega (arith, a, b, d, e, g, most, none))

  slot_now : IsSlotKept i due.fetched (c.slot_in_use || is_rendezvous l.body) stored (sent ++ l ∷ [])
  slot_now = by (is_rendezvous l.body) refl
    where
      by : (b : Bool) → is_rendezvous l.body ≡ b → IsSlotKept i due.fetched (c.slot_in_use || b) stored (sent ++ l ∷ [])
      by true long = record {
        fetches_true = λ l' last. All-same (λ f. (f.length ≡ length l'.body) × (f.rkey ≡ sender_remote_key i)) due.fetched [] (no_fetches long) (All-nil (λ f. (f.length ≡ length l'.body) × (f.rkey ≡ sender_remote_key i)));
        slot_holds = λ used l' last.
            let last_is : last_long (sent ++ l ∷ []) ≡ Some l =
            ap (λ (ls : List Letter). slice_get ls (length ls - 1)) (one_long long)
            ∙ (ap (λ (k : ℕ). slice_get (long_letters sent ++ l ∷ []) k) (let n = length-append (long_letters sent) (l ∷ []) in let e : length (long_letters sent ++ l ∷ []) - 1 ≡ length (long_letters sent) = omega (arith, n) in e) ∙ get_seam (long_letters sent) l) in
            let same : l ≡ l' = same_Some l l' (sym last_is ∙ last) in
            subst (λ (z : Letter). cut slot_offset (length z.body) stored ≡ z.body) same (slot_free long).1;
      }
      by false short = record {
        fetches_true = λ l' last. h.slot.fetches_true l' (ap (λ (ls : List Letter). slice_get ls (length ls - 1)) (sym (no_long short)) ∙ last);
        slot_holds = λ used l' last. h.slot.slot_holds (sym (or_false c.slot_in_use) ∙ used) l' (ap (λ (ls : List Letter). slice_get ls (length ls - 1)) (sym (no_long short)) ∙ last);
      }

  slot_counted : length (long_letters (sent ++ l ∷ [])) + due.slots ≡ receiver.acted / 2 + (if c.slot_in_use || is_rendezvous l.body then 1 else 0)
  slot_counted = by (is_rendezvous l.body) refl
    where
      by : (b : Bool) → is_rendezvous l.body ≡ b → length (long_letters (sent ++ l ∷ [])) + due.slots ≡ receiver.acted / 2 + (if c.slot_in_use || b then 1 else 0)
      by true long =
          let e = h.counts.slot_freed in
          let none : ◌≡◌ {A = ℕ} (if c.slot_in_use then 1 else 0) 0 = ap (λ (t : Bool). if t then 1 else 0) (slot_free long).0 in
          let one : ◌≡◌ {A = ℕ} (if c.slot_in_use || true then 1 else 0) 1 = ap (λ (t : Bool). if t then 1 else 0) (or_true c.slot_in_use) in
          let more : length (long_letters (sent ++ l ∷ [])) ≡ length (long_letters sent ++ l ∷ []) = ap length (one_long long) in
          omega (arith, e, none, one, more, length-append (long_letters sent) (l ∷ []))
      by false short =
          let e = h.counts.slot_freed in
          let same : ◌≡◌ {A = ℕ} (if c.slot_in_use || false then 1 else 0) (if c.slot_in_use then 1 else 0) = ap (λ (t : Bool). if t then 1 else 0) (or_false c.slot_in_use) in
          let as_long : length (long_letters (sent ++ l ∷ [])) ≡ length (long_letters sent) = ap length (no_long short) in
          omega (arith, e, same, as_long)

  -- ---- what waits, and what has arrived

  offers_longer : All (λ o. receiver.told ≤ o.request → (l' : Letter) → slice_get (long_letters (sent ++ l ∷ [])) (o.request / 2) ≡ Some l' → o.bytes ≡ cut o.offset (length o.bytes) l'.body) receiver.offers
  offers_longer = both receiver.offers h.offers.offers_acted h.offers.offers_true
    where
      one : (o : Offered) → o.request < receiver.acted → (receiver.told ≤ o.request → (l' : Letter) → slice_get (long_letters sent) (o.request / 2) ≡ Some l' → o.bytes ≡ cut o.offset (length o.bytes) l'.body) →
          receiver.told ≤ o.request → (l' : Letter) → (slice_get (long_letters sent) (o.request / 2) ≡ Some l') ⊎ (o.request / 2 ≡ length (long_letters sent)) → o.bytes ≡ cut o.offset (length o.bytes) l'.body
      one o acted old past l' (inl at) = old past l' at
      one o acted old past l' (inr at) = let w = h.counts.acted_within in absurd (omega (arith, w, acted, at, posted_few))

      both : (os : List Offered) → All (λ o. (o.request < receiver.acted) × (o.request % 2 ≡ 0)) os →
          All (λ o. receiver.told ≤ o.request → (l' : Letter) → slice_get (long_letters sent) (o.request / 2) ≡ Some l' → o.bytes ≡ cut o.offset (length o.bytes) l'.body) os →
          All (λ o. receiver.told ≤ o.request → (l' : Letter) → slice_get (long_letters (sent ++ l ∷ [])) (o.request / 2) ≡ Some l' → o.bytes ≡ cut o.offset (length o.bytes) l'.body) os
      both os a b =
          All-weaker (λ o. ((o.request < receiver.acted) × (o.request % 2 ≡ 0)) × (receiver.told ≤ o.request → (l' : Letter) → slice_get (long_letters sent) (o.request / 2) ≡ Some l' → o.bytes ≡ cut o.offset (length o.bytes) l'.body))
          (λ o. receiver.told ≤ o.request → (l' : Letter) → slice_get (long_letters (sent ++ l ∷ [])) (o.request / 2) ≡ Some l' → o.bytes ≡ cut o.offset (length o.bytes) l'.body)
          (λ o is past l' at. one o is.0.0 is.1 past l' (long_one_of (o.request / 2) l' at)) os
          (all_both (λ o. (o.request < receiver.acted) × (o.request % 2 ≡ 0)) (λ o. receiver.told ≤ o.request → (l' : Letter) → slice_get (long_letters sent) (o.request / 2) ≡ Some l' → o.bytes ≡ cut o.offset (length o.bytes) l'.body) os a b)

  landing_longer : receiver.ended ≡ false → receiver.told % 2 ≡ 0 → (l' : Letter) → (slice_get (long_letters sent) (receiver.told / 2) ≡ Some l') ⊎ (receiver.told / 2 ≡ length (long_letters sent)) →
      cut landing_offset receiver.known landed ≡ take receiver.known l'.body
  landing_longer live even l' (inl at) = h.landing.landing live even l' at
  landing_longer live even l' (inr at) =
      let w = h.counts.told_within in
      let none : receiver.known ≡ 0 = h.landing.nothing_known (omega (arith, w, at, even, posted_few)) in
      subst (λ (n : ℕ). cut landing_offset n landed ≡ take n l'.body) (sym none) (cut_nothing landing_offset landed)

  bodies_longer : (l' : Letter) → (slice_get (long_letters sent) c.reads ≡ Some l') ⊎ (c.reads ≡ length (long_letters sent)) → All (λ n. (n ≡ length l'.body) × (cut landing_offset n landed ≡ l'.body)) due.bodies
  bodies_longer l' (inl at) = h.landing.bodies_hold l' at
  bodies_longer l' (inr at) =
      let a = h.counts.bodies_posted in
      All-same (λ n. (n ≡ length l'.body) × (cut landing_offset n landed ≡ l'.body)) due.bodies [] (nil_of due.bodies (omega (arith, a, at, posted_few))) (All-nil (λ n. (n ≡ length l'.body) × (cut landing_offset n landed ≡ l'.body)))

  arrived_longer : c.arrived ≡ map (arrival_at c.reads (sent ++ l ∷ [])) (in_front c.receives (open' ++ record { place = length sent; letter = l } ∷ []))
  arrived_longer =
      let below : All (λ x. x.place < length sent) (in_front c.receives open') = All-weaker (λ x. x.place < c.receives) (λ x. x.place < length sent) (λ x b. omega (arith, b, received_within)) (in_front c.receives open') (front_below c.receives open') in
      h.arrived
      ∙ (sym (same_arrivals c.reads sent (l ∷ []) (in_front c.receives open') below)
      ∙ ap (map (arrival_at c.reads (sent ++ l ∷ []))) (sym (front_later c.receives open' (record { place = length sent; letter = l }) received_within)))

  waits_longer : (k : ℕ) (l' : Letter) → slice_get (sent ++ l ∷ []) k ≡ Some l' → (c.receives ≤ k) ⊎ ((is_rendezvous l'.body ≡ true) × (c.reads ≤ fetched_before k (sent ++ l ∷ []))) →
      Has (open' ++ record { place = length sent; letter = l } ∷ []) (record { place = k; letter = l' })
  waits_longer k l' at waits = by (get_one_of sent l k l' at)
    where
      old : k < length sent → (c.receives ≤ k) ⊎ ((is_rendezvous l'.body ≡ true) × (c.reads ≤ fetched_before k (sent ++ l ∷ []))) → (c.receives ≤ k) ⊎ ((is_rendezvous l'.body ≡ true) × (c.reads ≤ fetched_before k sent))
      old below (inl past) = inl past
      old below (inr w) = inr (w.0, subst (λ (n : ℕ). c.reads ≤ n) (fetched_append sent (l ∷ []) k (omega (arith, below))) w.1)

      by : ((k < length sent) × (slice_get sent k ≡ Some l')) ⊎ ((k ≡ length sent) × (l ≡ l')) → Has (open' ++ record { place = length sent; letter = l } ∷ []) (record { place = k; letter = l' })
      by (inl a) = has_more open' (record { place = length sent; letter = l }) (record { place = k; letter = l' }) (h.waits_open k l' a.1 (old a.0 waits))
      by (inr a) =
          let same : record { place = length sent; letter = l } ≡ record { place = k; letter = l' } = λ j. record { place = sym a.0 j; letter = a.1 j } in
          subst (λ (x : Placed). Has (open' ++ record { place = length sent; letter = l } ∷ []) x) same (has_last open' (record { place = length sent; letter = l }))

  part_longer : receiver.ended ≡ false → HoldsPart i landed sender.into receiver.in_use (slice_get (sent ++ l ∷ []) sender.acted)
  part_longer live = by (nat_lt sender.acted (length sent)) refl
    where
      by : (b : Bool) → nat_lt sender.acted (length sent) ≡ b → HoldsPart i landed sender.into receiver.in_use (slice_get (sent ++ l ∷ []) sender.acted)
      by true e = subst (λ (o : Option Letter). HoldsPart i landed sender.into receiver.in_use o) (sym (get_left sent (l ∷ []) sender.acted (ltb-true sender.acted (length sent) e))) (h.messages.part_holds live)
      by false e =
          let none : slice_get sent sender.acted ≡ None = slice_get_past sent sender.acted (ltb-false sender.acted (length sent) e) in
          part_of_none i landed sender.into receiver.in_use (slice_get (sent ++ l ∷ []) sender.acted) (subst (λ (o : Option Letter). HoldsPart i landed sender.into receiver.in_use o) none (h.messages.part_holds live))

  -- ---- all of it, whatever the sender's end has posted

  pub sent_with : (posted : List Posted) → AreSendsKept i posted sender.acted sender.ended (sent ++ l ∷ []) →
      IsKeptWith i (record sender { posted = posted }) receiver stored landed due (sending l c) (sent ++ l ∷ []) (open' ++ record { place = length sent; letter = l } ∷ [])
  sent_with posted sends = record {
    letters = All-push IsLetter sent l h.letters is_letter;
    unoffered = h.unoffered;
    number = h.number;
    plain = h.plain;
    sends = sends;
    messages = record {
      receives_completed = h.messages.receives_completed;
      places_hold = subst (λ (ls : List Letter). HoldMessages i landed due.copied ls) (sym (drop_longer c.receives sent (l ∷ []) received_within)) (hold_longer i landed due.copied (drop c.receives sent) (l ∷ []) h.messages.places_hold);
      part_holds = part_longer;
      part_within = h.messages.part_within;
    };
    places = h.places;
    queue = queue_longer;
    counts = record {
      acted_within = h.counts.acted_within;
      told_within = h.counts.told_within;
      told_acted = h.counts.told_acted;
      over = h.counts.over;
      reads_posted = let a = h.counts.reads_posted in omega (arith, a, fetched_append sent (l ∷ []) c.receives received_within);
      frees_posted = h.counts.frees_posted;
      bodies_posted = h.counts.bodies_posted;
      bodies_told = h.counts.bodies_told;
      slot_freed = slot_counted;
    };
    slot = slot_now;
    offers = record { offers_acted = h.offers.offers_acted; offers_true = offers_longer };
    landing = record {
      nothing_known = h.landing.nothing_known;
      landing = λ live even l' at. landing_longer live even l' (long_one_of (receiver.told / 2) l' at);
      bodies_hold = λ l' at. bodies_longer l' (long_one_of c.reads l' at);
    };
    arrived = arrived_longer;
    waits_open = waits_longer;
  }

  pub sends_now : sender.ended ≡ false → AreSendsKept i (sender.posted ++ sent_as i l ∷ []) sender.acted sender.ended (sent ++ l ∷ [])
  sends_now live =
      let all : length sender.posted ≡ length sent = h.sends.all_posted live in
      let one : length (sender.posted ++ sent_as i l ∷ []) ≡ length sender.posted + 1 = length-append sender.posted (sent_as i l ∷ []) in
      let two : length (sent ++ l ∷ []) ≡ length sent + 1 = length-append sent (l ∷ []) in
      let posted_is : sender.posted ≡ map (sent_as i) sent = h.sends.queue_of_sender ∙ take_all_of (length sender.posted) (map (sent_as i) sent) (omega (arith, all, map_long (sent_as i) sent)) in
      record {
        queue_of_sender =
            ap (λ (ps : List Posted). ps ++ sent_as i l ∷ []) posted_is
            ∙ (sym (pushed (sent_as i) sent l)
            ∙ sym (take_all_of (length (sender.posted ++ sent_as i l ∷ [])) (map (sent_as i) (sent ++ l ∷ [])) (omega (arith, one, two, all, map_long (sent_as i) (sent ++ l ∷ [])))));
        posted_within = omega (arith, one, two, all);
        acted_within = let a = h.sends.acted_within in omega (arith, a, one);
        all_posted = λ live'. omega (arith, one, two, all);
      }

  pub sends_ended : sender.ended ≡ true → AreSendsKept i sender.posted sender.acted sender.ended (sent ++ l ∷ [])
  sends_ended gone =
      let w = h.sends.posted_within in
      let two : length (sent ++ l ∷ []) ≡ length sent + 1 = length-append sent (l ∷ []) in
      record {
        queue_of_sender =
            h.sends.queue_of_sender
            ∙ (sym (take-append-le (length sender.posted) (map (sent_as i) sent) (sent_as i l ∷ []) (omega (arith, w, map_long (sent_as i) sent)))
            ∙ ap (take (length sender.posted)) (sym (pushed (sent_as i) sent l)));
        posted_within = omega (arith, w, two);
        acted_within = h.sends.acted_within;
        all_posted = λ live. let no_end : true ≡ false = sym gone ∙ live in cc;
      }
