-- Work keeps what is true of a connection: bodies that are fetched and copied, slots, and letters that are sent.
use Rattle.std.proofs.Common.{arith, ◌≡◌, ℕ, ◌+◌, ◌-◌, ◌*◌, ◌/◌, ◌%◌, ◌<◌, ◌≤◌, List, [], ◌∷◌, ◌++◌, length, take, map, get_or, true, false, Bool, refl, sym, ap, ◌∙◌, subst, Some, ◌⊎◌, inl, inr, length-append, ltb-false, ltb-true}
use Rattle.std.specs.Prelude.{All, if◌then◌else◌, nat_lt, slice_get}
use Rattle.std.proofs.lemmas.List.{take_more}
use Rattle.std.proofs.lemmas.List.Elements.{All-append, All-head, All-nil, All-same, All-tail}
use Rattle.std.proofs.lemmas.Option.{slice_get-get_or}
use Rattle.rdma_types.specs.declared.requests.Kind.TheVariants as kind
use Rattle.rdma_types.specs.Memory.{cut}
use Rattle.rdma_types.specs.Objects.{Posted, no_posted}
use Rattle.packetless_machine.specs.Machine.{End}
use Rattle.mailbox_rules.specs.declared.due.Fetch.{Fetch}
use Rattle.mailbox_rules.specs.declared.letters.Letter.{Letter}
use Rattle.mailbox_rules.specs.Histories.{Placed, fetched_before}
use Rattle.mailbox_rules.specs.Opening.{landing_address, receiver_key, sender_remote_key, slot_address}
use Rattle.mailbox_rules.specs.State.{Channel}
use Rattle.mailbox_rules.specs.Working.{filled, filling, freeing, request}
use Rattle.law_mailbox.specs.Arrived.{AreOpen, HasArrived, arrival_at, in_front}
use Rattle.law_mailbox.specs.Kept.{AreCountsKept, AreMessagesKept, ArePlacesKept, IsKeptWith, IsLandingKept, IsQueueOfReceiver, IsSlotKept, Pending, WaitsOpen, freed_as, landing_offset, last_long, long_letters, read_as, requests_for, slot_offset}
use Rattle.law_mailbox.specs.Works.{read_for}
use Rattle.law_mailbox.proofs.connection.Long.{fetched_rises, filled_next, front_all, front_has, front_rising}
use Rattle.law_mailbox.proofs.connection.Places.{all_back, all_front, copied_long, nil_of}
use Rattle.law_mailbox.proofs.connection.Requests.{IsLong, even_is, long_from, odd_is, requests_long}

at_most : (t : Bool) → (if t then 1 else 0) ≤ 1
at_most true = omega arith
at_most false = omega arith

-- one more request is the next one
one_more : (i : ℕ) (posted : List Posted) (q : Posted) (sent : List Letter) → IsQueueOfReceiver i posted sent → length posted < length (requests_for i (long_letters sent)) →
    get_or (requests_for i (long_letters sent)) (length posted) no_posted ≡ q → IsQueueOfReceiver i (posted ++ q ∷ []) sent
one_more i posted q sent queue within is =
    ap (λ (ps : List Posted). ps ++ q ∷ []) queue
    ∙ (ap (λ (p : Posted). take (length posted) (requests_for i (long_letters sent)) ++ p ∷ []) (sym is)
    ∙ (sym (take_more (requests_for i (long_letters sent)) (length posted) no_posted within)
    ∙ ap (λ (n : ℕ). take n (requests_for i (long_letters sent))) (sym (length-append posted (q ∷ [])))))

read_is : (i : ℕ) (f : Fetch) (l : Letter) → f.length ≡ length l.body → f.rkey ≡ sender_remote_key i → read_for i f ≡ read_as i l
read_is i f l a b = λ k. record { request = request kind.Read (receiver_key i) (landing_address i) (a k) slot_address (b k); payload = [] }

-- what is due for bodies and slots changes, which letters are open, and what the channel has beside the messages that were copied
pub due_changes : {i : ℕ} {sender receiver : End} {stored landed : List ℕ} {due due' : Pending} {c c' : Channel} {sent : List Letter} {open' open'' : List Placed} →
    IsKeptWith i sender receiver stored landed due c sent open' → due'.copied ≡ due.copied → due'.reposted ≡ due.reposted → c'.receives ≡ c.receives →
    AreCountsKept (length receiver.posted) receiver.acted receiver.told receiver.ended (length due'.fetched) (length due'.bodies) due'.frees due'.slots c'.receives c'.reads c'.slot_in_use sent →
    IsSlotKept i due'.fetched c'.slot_in_use stored sent → IsLandingKept landed (length receiver.posted) receiver.told receiver.known receiver.ended due'.bodies c'.reads sent →
    HasArrived c' sent open'' → WaitsOpen c'.receives c'.reads sent open'' → IsKeptWith i sender receiver stored landed due' c' sent open''
due_changes {i} {sender} {receiver} {stored} {landed} {due} {due'} {c} {c'} {sent} {open'} {open''} h copied reposted receives counts slot landing arrived waits_open = record {
  letters = h.letters;
  unoffered = h.unoffered;
  number = h.number;
  plain = h.plain;
  sends = h.sends;
  messages = subst (λ n. AreMessagesKept i landed sender.acted sender.into receiver.ended receiver.in_use due'.copied n sent) (sym receives)
      (subst (λ (l : List (ℕ × ℕ)). AreMessagesKept i landed sender.acted sender.into receiver.ended receiver.in_use l c.receives sent) (sym copied) h.messages);
  places = subst (λ (l : List ℕ). ArePlacesKept i receiver.ended receiver.unused receiver.in_use due'.copied l) (sym reposted)
      (subst (λ (l : List (ℕ × ℕ)). ArePlacesKept i receiver.ended receiver.unused receiver.in_use l due.reposted) (sym copied) h.places);
  queue = h.queue;
  counts = counts;
  slot = slot;
  offers = h.offers;
  landing = landing;
  arrived = arrived;
  waits_open = waits_open;
}

-- ---- a Read is posted, or not

module _ (i : ℕ) (sender receiver : End) (stored landed : List ℕ) (c : Channel) (sent : List Letter) (open' : List Placed) (copied : List (ℕ × ℕ)) (reposted : List ℕ) (front behind : List Fetch) (f : Fetch) (bodies : List ℕ) (frees slots : ℕ)
    (h : IsKeptWith i sender receiver stored landed (record { copied = copied; reposted = reposted; fetched = front ++ (f ∷ behind); bodies = bodies; frees = frees; slots = slots }) c sent open') where
  fewer : length (front ++ (f ∷ behind)) ≡ length (front ++ behind) + 1
  fewer = omega (arith, length-append front (f ∷ behind), length-append front behind)

  -- the other fetches
  others : (P : Fetch → Type 0) → All P (front ++ (f ∷ behind)) → All P (front ++ behind)
  others P a = All-append P front behind (all_front P front (f ∷ behind) a) (All-tail P f behind (all_back P front (f ∷ behind) a))

  pub fetches_not : IsKeptWith i sender receiver stored landed (record { copied = copied; reposted = reposted; fetched = front ++ behind; bodies = bodies; frees = frees; slots = slots }) c sent open'
  fetches_not = due_changes h refl refl refl (record {
    acted_within = h.counts.acted_within;
    told_within = h.counts.told_within;
    told_acted = h.counts.told_acted;
    over = h.counts.over;
    reads_posted = let a = h.counts.reads_posted in omega (arith, a, fewer);
    frees_posted = h.counts.frees_posted;
    bodies_posted = h.counts.bodies_posted;
    bodies_told = h.counts.bodies_told;
    slot_freed = h.counts.slot_freed;
  })
      (record { fetches_true = λ l last. others (λ g. (g.length ≡ length l.body) × (g.rkey ≡ sender_remote_key i)) (h.slot.fetches_true l last); slot_holds = h.slot.slot_holds })
      h.landing
      h.arrived
      h.waits_open

  -- where a Read is due, all before it was posted, and it is the one of the last long letter
  record IsDue : Type 0 where
    some_long : 1 ≤ length (long_letters sent)
    posted_is : length receiver.posted ≡ 2 * (length (long_letters sent) - 1)

  is_due : IsDue
  is_due =
      let a = h.counts.bodies_posted in
      let b = h.counts.reads_posted in
      let d = h.counts.frees_posted in
      let e = h.counts.slot_freed in
      let g = h.counts.acted_within in
      let most = copied_long c.receives sent in
      let u : (if c.slot_in_use then 1 else 0) ≤ 1 = at_most c.slot_in_use in
      let one = fewer in
      record { some_long = omega (arith, b, most, one); posted_is = omega (arith, a, b, d, e, g, most, u, one) }

  abbrev last : Letter
  last = get_or (long_letters sent) (length (long_letters sent) - 1) (record { tag = 0; body = [] })

  last_there : last_long sent ≡ Some last
  last_there = let s = is_due.some_long in slice_get-get_or (long_letters sent) (length (long_letters sent) - 1) (record { tag = 0; body = [] }) (omega (arith, s))

  reads_last : read_for i f ≡ read_as i last
  reads_last =
      let true_of : All (λ g. (g.length ≡ length last.body) × (g.rkey ≡ sender_remote_key i)) (f ∷ behind) = all_back (λ g. (g.length ≡ length last.body) × (g.rkey ≡ sender_remote_key i)) front (f ∷ behind) (h.slot.fetches_true last last_there) in
      let is = All-head (λ g. (g.length ≡ length last.body) × (g.rkey ≡ sender_remote_key i)) f behind true_of in
      read_is i f last is.0 is.1

  posted_one : length (receiver.posted ++ read_for i f ∷ []) ≡ length receiver.posted + 1
  posted_one = length-append receiver.posted (read_for i f ∷ [])

  pub fetches : receiver.ended ≡ false → IsKeptWith i sender (record receiver { posted = receiver.posted ++ read_for i f ∷ [] }) stored landed (record { copied = copied; reposted = reposted; fetched = front ++ behind; bodies = bodies; frees = frees; slots = slots }) c sent open'
  fetches live =
      let some_long = is_due.some_long in
      let posted_is = is_due.posted_is in
      record {
        letters = h.letters;
        unoffered = h.unoffered;
        number = h.number;
        plain = h.plain;
        sends = h.sends;
        messages = h.messages;
        places = h.places;
        queue = one_more i receiver.posted (read_for i f) sent h.queue (omega (arith, some_long, posted_is, requests_long i (long_letters sent)))
            (even_is i (long_letters sent) (length (long_letters sent) - 1) (length receiver.posted) last posted_is last_there ∙ sym reads_last);
        counts = record {
          acted_within = let a = h.counts.acted_within in omega (arith, a, posted_one);
          told_within = let a = h.counts.told_within in omega (arith, a, posted_one);
          told_acted = h.counts.told_acted;
          over = λ gone. let no_end : true ≡ false = sym gone ∙ live in cc;
          reads_posted = let a = h.counts.reads_posted in omega (arith, a, fewer, posted_one, posted_is);
          frees_posted = let a = h.counts.frees_posted in omega (arith, a, posted_one, posted_is);
          bodies_posted = let a = h.counts.bodies_posted in omega (arith, a, posted_one);
          bodies_told = h.counts.bodies_told;
          slot_freed = h.counts.slot_freed;
        };
        slot = record { fetches_true = λ l last'. others (λ g. (g.length ≡ length l.body) × (g.rkey ≡ sender_remote_key i)) (h.slot.fetches_true l last'); slot_holds = h.slot.slot_holds };
        offers = h.offers;
        landing = record {
          nothing_known = λ all. let a = h.counts.told_within in absurd (omega (arith, a, all, posted_one));
          landing = h.landing.landing;
          bodies_hold = h.landing.bodies_hold;
        };
        arrived = h.arrived;
        waits_open = h.waits_open;
      }

-- ---- a body is copied

module _ (i : ℕ) (sender receiver : End) (stored landed : List ℕ) (c : Channel) (sent : List Letter) (open' : List Placed) (copied : List (ℕ × ℕ)) (reposted : List ℕ) (fetched : List Fetch) (front behind : List ℕ) (size frees slots : ℕ)
    (opened : AreOpen sent open')
    (h : IsKeptWith i sender receiver stored landed (record { copied = copied; reposted = reposted; fetched = fetched; bodies = front ++ (size ∷ behind); frees = frees; slots = slots }) c sent open') where
  one_body : length (front ++ (size ∷ behind)) ≡ length (front ++ behind) + 1
  one_body = omega (arith, length-append front (size ∷ behind), length-append front behind)

  no_other : front ++ behind ≡ []
  no_other = let a = h.counts.bodies_posted in let b = h.counts.frees_posted in nil_of (front ++ behind) (omega (arith, a, b, one_body))

  abbrev l : Letter
  l = get_or (long_letters sent) c.reads (record { tag = 0; body = [] })

  at : slice_get (long_letters sent) c.reads ≡ Some l
  at =
      let a = h.counts.bodies_posted in
      let b = h.counts.reads_posted in
      let most = copied_long c.receives sent in
      slice_get-get_or (long_letters sent) c.reads (record { tag = 0; body = [] }) (omega (arith, a, b, most, one_body))

  holds : (size ≡ length l.body) × (cut landing_offset size landed ≡ l.body)
  holds =
      All-head (λ n. (n ≡ length l.body) × (cut landing_offset n landed ≡ l.body)) size behind
      (all_back (λ n. (n ≡ length l.body) × (cut landing_offset n landed ≡ l.body)) front (size ∷ behind) (h.landing.bodies_hold l at))

  place : IsLong sent c.reads l
  place = long_from sent c.reads l at

  abbrev waiting : Placed
  waiting = record { place = place.place; letter = l }

  in_copied : place.place < c.receives
  in_copied = by (nat_lt place.place c.receives) refl
    where
      by : (b : Bool) → nat_lt place.place c.receives ≡ b → place.place < c.receives
      by true e = ltb-true place.place c.receives e
      by false e =
          let past : c.receives ≤ place.place = ltb-false place.place c.receives e in
          let more : fetched_before c.receives sent ≤ fetched_before place.place sent = fetched_rises sent c.receives place.place past in
          let a = h.counts.bodies_posted in
          let b = h.counts.reads_posted in
          let d = place.counted in
          absurd (omega (arith, more, a, b, d, one_body))

  arrived_now : filled (cut landing_offset size landed) c.arrived ≡ map (arrival_at (c.reads + 1) sent) (in_front c.receives open')
  arrived_now =
      ap (filled (cut landing_offset size landed)) h.arrived
      ∙ filled_next c.reads sent (cut landing_offset size landed) waiting place.long place.counted place.at holds.1 (in_front c.receives open')
      (front_all (λ y. slice_get sent y.place ≡ Some y.letter) c.receives open' opened.there) (front_rising c.receives open' opened.rising)
      (front_has c.receives open' waiting opened.rising (h.waits_open place.place l place.at (inr (place.long, let d = place.counted in omega (arith, d)))) in_copied)

  pub body_copies : IsKeptWith i sender receiver stored landed (record { copied = copied; reposted = reposted; fetched = fetched; bodies = front ++ behind; frees = frees + 1; slots = slots }) (filling (cut landing_offset size landed) c) sent open'
  body_copies = due_changes h refl refl refl (record {
    acted_within = h.counts.acted_within;
    told_within = h.counts.told_within;
    told_acted = h.counts.told_acted;
    over = h.counts.over;
    reads_posted = h.counts.reads_posted;
    frees_posted = let a = h.counts.frees_posted in omega (arith, a);
    bodies_posted = let a = h.counts.bodies_posted in omega (arith, a, one_body);
    bodies_told = λ live. let a = h.counts.bodies_told live in omega (arith, a, one_body);
    slot_freed = h.counts.slot_freed;
  })
      h.slot
      (record {
        nothing_known = h.landing.nothing_known;
        landing = h.landing.landing;
        bodies_hold = λ l' at'. All-same (λ n. (n ≡ length l'.body) × (cut landing_offset n landed ≡ l'.body)) (front ++ behind) [] no_other (All-nil (λ n. (n ≡ length l'.body) × (cut landing_offset n landed ≡ l'.body)));
      })
      arrived_now
      (λ k l' there waits. h.waits_open k l' there (earlier k waits))
    where
      earlier : (k : ℕ) {A B : Type 0} → A ⊎ (B × (c.reads + 1 ≤ fetched_before k sent)) → A ⊎ (B × (c.reads ≤ fetched_before k sent))
      earlier k (inl past) = inl past
      earlier k (inr waits) = inr (waits.0, let w = waits.1 in omega (arith, w))

-- ---- a Send of no bytes is posted, or not

module _ (i : ℕ) (sender receiver : End) (stored landed : List ℕ) (c : Channel) (sent : List Letter) (open' : List Placed) (copied : List (ℕ × ℕ)) (reposted : List ℕ) (fetched : List Fetch) (bodies : List ℕ) (frees slots : ℕ)
    (h : IsKeptWith i sender receiver stored landed (record { copied = copied; reposted = reposted; fetched = fetched; bodies = bodies; frees = frees + 1; slots = slots }) c sent open') where
  pub free_posts_not : IsKeptWith i sender receiver stored landed (record { copied = copied; reposted = reposted; fetched = fetched; bodies = bodies; frees = frees; slots = slots }) c sent open'
  free_posts_not = due_changes h refl refl refl (record {
    acted_within = h.counts.acted_within;
    told_within = h.counts.told_within;
    told_acted = h.counts.told_acted;
    over = h.counts.over;
    reads_posted = h.counts.reads_posted;
    frees_posted = let a = h.counts.frees_posted in omega (arith, a);
    bodies_posted = h.counts.bodies_posted;
    bodies_told = h.counts.bodies_told;
    slot_freed = h.counts.slot_freed;
  })
      h.slot
      h.landing
      h.arrived
      h.waits_open

  odd : length receiver.posted % 2 ≡ 1
  odd = let a = h.counts.frees_posted in let b = h.counts.bodies_posted in omega (arith, a, b)

  freed_one : length (receiver.posted ++ freed_as ∷ []) ≡ length receiver.posted + 1
  freed_one = length-append receiver.posted (freed_as ∷ [])

  within_long : length receiver.posted / 2 < length (long_letters sent)
  within_long = let a = h.counts.reads_posted in let most = copied_long c.receives sent in omega (arith, a, most, odd)

  pub free_posts : receiver.ended ≡ false → IsKeptWith i sender (record receiver { posted = receiver.posted ++ freed_as ∷ [] }) stored landed (record { copied = copied; reposted = reposted; fetched = fetched; bodies = bodies; frees = frees; slots = slots }) c sent open'
  free_posts live = record {
    letters = h.letters;
    unoffered = h.unoffered;
    number = h.number;
    plain = h.plain;
    sends = h.sends;
    messages = h.messages;
    places = h.places;
    queue = one_more i receiver.posted freed_as sent h.queue (omega (arith, within_long, odd, requests_long i (long_letters sent)))
        (odd_is i (long_letters sent) (length receiver.posted / 2) (length receiver.posted) (omega (arith, odd)) within_long);
    counts = record {
      acted_within = let a = h.counts.acted_within in omega (arith, a, freed_one);
      told_within = let a = h.counts.told_within in omega (arith, a, freed_one);
      told_acted = h.counts.told_acted;
      over = λ gone. let no_end : true ≡ false = sym gone ∙ live in cc;
      reads_posted = let a = h.counts.reads_posted in omega (arith, a, freed_one, odd);
      frees_posted = let a = h.counts.frees_posted in omega (arith, a, freed_one, odd);
      bodies_posted = let a = h.counts.bodies_posted in omega (arith, a, freed_one);
      bodies_told = h.counts.bodies_told;
      slot_freed = h.counts.slot_freed;
    };
    slot = h.slot;
    offers = h.offers;
    landing = record {
      nothing_known = λ all. let a = h.counts.told_within in absurd (omega (arith, a, all, freed_one));
      landing = h.landing.landing;
      bodies_hold = h.landing.bodies_hold;
    };
    arrived = h.arrived;
    waits_open = h.waits_open;
  }

-- ---- the slot

module _ (i : ℕ) (sender receiver : End) (stored landed : List ℕ) (c : Channel) (sent : List Letter) (open' : List Placed) (copied : List (ℕ × ℕ)) (reposted : List ℕ) (fetched : List Fetch) (bodies : List ℕ) (frees slots : ℕ) where
  pub slot_frees : IsKeptWith i sender receiver stored landed (record { copied = copied; reposted = reposted; fetched = fetched; bodies = bodies; frees = frees; slots = slots + 1 }) c sent open' →
      IsKeptWith i sender receiver stored landed (record { copied = copied; reposted = reposted; fetched = fetched; bodies = bodies; frees = frees; slots = slots }) (freeing c) sent open'
  slot_frees h = due_changes h refl refl refl (record {
    acted_within = h.counts.acted_within;
    told_within = h.counts.told_within;
    told_acted = h.counts.told_acted;
    over = h.counts.over;
    reads_posted = h.counts.reads_posted;
    frees_posted = h.counts.frees_posted;
    bodies_posted = h.counts.bodies_posted;
    bodies_told = h.counts.bodies_told;
    slot_freed =
        let a = h.counts.bodies_posted in
        let b = h.counts.reads_posted in
        let d = h.counts.frees_posted in
        let e = h.counts.slot_freed in
        let g = h.counts.acted_within in
        let most = copied_long c.receives sent in
        let u : (if c.slot_in_use then 1 else 0) ≤ 1 = at_most c.slot_in_use in
        omega (arith, a, b, d, e, g, most, u);
  })
      (record { fetches_true = h.slot.fetches_true; slot_holds = λ used. let no_end : false ≡ true = used in cc })
      h.landing
      h.arrived
      h.waits_open

  pub stores : (stored' : List ℕ) → (c.slot_in_use ≡ true → (n : ℕ) → cut slot_offset n stored' ≡ cut slot_offset n stored) →
      IsKeptWith i sender receiver stored landed (record { copied = copied; reposted = reposted; fetched = fetched; bodies = bodies; frees = frees; slots = slots }) c sent open' →
      IsKeptWith i sender receiver stored' landed (record { copied = copied; reposted = reposted; fetched = fetched; bodies = bodies; frees = frees; slots = slots }) c sent open'
  stores stored' same h = record {
    letters = h.letters;
    unoffered = h.unoffered;
    number = h.number;
    plain = h.plain;
    sends = h.sends;
    messages = h.messages;
    places = h.places;
    queue = h.queue;
    counts = h.counts;
    slot = record { fetches_true = h.slot.fetches_true; slot_holds = λ used l last. same used (length l.body) ∙ h.slot.slot_holds used l last };
    offers = h.offers;
    landing = h.landing;
    arrived = h.arrived;
    waits_open = h.waits_open;
  }
