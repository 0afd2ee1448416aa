-- A Run of the sender's end keeps what is true of a connection.
use Rattle.std.proofs.Common.{arith, ◌≡◌, ◌≢◌, ℕ, zero, suc, ◌+◌, ◌*◌, ◌<◌, ◌≤◌, List, [], ◌∷◌, ◌++◌, length, take, drop, map, get_or, true, false, Bool, refl, sym, subst, ap, ◌∙◌, Some, None, Option, ◌⊎◌, inl, inr, append-nil, length-append, eq-eqb, ltb-true, ltb-false}
use Rattle.std.specs.Prelude.{All, slice_get, nat_lt, ◌==◌}
use Rattle.std.proofs.lemmas.List.{get_or-take}
use Rattle.std.proofs.lemmas.List.Elements.{All-head, All-tail, All-weaker}
use Rattle.std.proofs.lemmas.Option.{none-some, same_Some, slice_get-get_or}
use Rattle.rdma_types.specs.declared.requests.Receive.{Receive}
use Rattle.rdma_types.specs.Kinds.{size_of}
use Rattle.rdma_types.specs.Memory.{cut, put}
use Rattle.rdma_types.specs.Objects.{Posted, no_posted}
use Rattle.packetless_machine.specs.declared.reply.Reply.{Reply}
use Rattle.packetless_machine.specs.Steps.{current, unused_after}
use Rattle.mailbox_rules.specs.declared.due.Due.{Due}
use Rattle.mailbox_rules.specs.declared.due.Fetch.{Fetch}
use Rattle.mailbox_rules.specs.declared.letters.Letter.{Letter}
use Rattle.mailbox_rules.specs.Calls.{message_of}
use Rattle.mailbox_rules.specs.Histories.{Placed}
use Rattle.mailbox_rules.specs.Opening.{depth, place_bytes, receiver_receive}
use Rattle.mailbox_rules.specs.State.{Channel}
use Rattle.law_mailbox.specs.Kept.{AreCountsKept, AreMessagesKept, ArePlacesKept, HoldMessages, HoldsPart, IsKept, IsLandingKept, IsPlain, Sight, bodies, copies, fetches, frees, landing_offset, places, reposts, sent_as, slots}
use Rattle.law_mailbox.specs.Moves.{Gains, MayRun, next_of}
use Rattle.law_mailbox.proofs.connection.Bytes.{cut_behind, cut_before, cut_joined, cut_nothing, take_more_of, take_whole}
use Rattle.law_mailbox.proofs.queue_room.Counting.{all_between, all_both, all_last, never, often, often_between, often_first, often_last, receive_is}
use Rattle.law_mailbox.proofs.queue_room.Counts.{one_if}
use Rattle.law_mailbox.proofs.connection.Moves.{slot_as}
use Rattle.law_mailbox.proofs.connection.Places.{all_back, all_front, all_of_map, holds_as}

-- ---- the message

pub sent_at : (i : ℕ) (ls : List Letter) (k : ℕ) (l : Letter) → slice_get ls k ≡ Some l → get_or (map (sent_as i) ls) k no_posted ≡ sent_as i l
sent_at i [] k l h = absurd (none-some l h)
sent_at i (x ∷ ls) zero l h = ap (sent_as i) (same_Some x l h)
sent_at i (x ∷ ls) (suc k) l h = sent_at i ls k l h

pub pushed : {X Y : Type 0} (f : X → Y) (xs : List X) (x : X) → map f (xs ++ x ∷ []) ≡ map f xs ++ f x ∷ []
pushed f [] x = refl
pushed f (y ∷ xs) x = ap (λ l. f y ∷ l) (pushed f xs x)

get_drop : {X : Type 0} (n k m : ℕ) (xs : List X) → m ≡ n + k → slice_get (drop n xs) k ≡ slice_get xs m
get_drop zero k m xs e = let same : k ≡ m = omega arith in ap (slice_get xs) same
get_drop (suc n) k zero xs e = absurd (omega arith)
get_drop (suc n) k (suc m) [] e = refl
get_drop (suc n) k (suc m) (x ∷ xs) e = get_drop n k m xs (omega arith)

-- one more message is whole in its place
hold_push : (i : ℕ) (bytes : List ℕ) (xs : List (ℕ × ℕ)) (ls : List Letter) (x : ℕ × ℕ) (l : Letter) → HoldMessages i bytes xs ls → slice_get ls (length xs) ≡ Some l → x.1 ≡ length (message_of i l) →
    cut (place_bytes * x.0) x.1 bytes ≡ message_of i l → HoldMessages i bytes (xs ++ x ∷ []) ls
hold_push i bytes [] [] x l h at size is = absurd (none-some l at)
hold_push i bytes [] (m ∷ ls) x l h at size is = let same : l ≡ m = sym (same_Some m l at) in (size ∙ ap (λ (z : Letter). length (message_of i z)) same, is ∙ ap (message_of i) same, tt)
hold_push i bytes (y ∷ xs) [] x l h at size is = h
hold_push i bytes (y ∷ xs) (m ∷ ls) x l h at size is = (h.0, h.1, hold_push i bytes xs ls x l h.2 at size is)

module _ (i : ℕ) (s : Sight) (c : Channel) (sent : List Letter) (open' : List Placed) (h : IsKept i s c sent open') (v : Receive) (n : ℕ) (r : MayRun s v n) where
  -- ---- which message, and where it goes

  -- the letter whose message is next
  record IsNext (l : Letter) : Type 0 where
    at : slice_get sent s.sender.acted ≡ Some l
    posted : current s.sender ≡ sent_as i l

  is_next : (l : Letter) → slice_get sent s.sender.acted ≡ Some l → IsNext l
  is_next l at = record {
    at = at;
    posted = ap (λ (ps : List Posted). get_or ps s.sender.acted no_posted) h.sends.queue_of_sender
        ∙ (get_or-take (length s.sender.posted) (map (sent_as i) sent) s.sender.acted no_posted r.turn ∙ sent_at i sent s.sender.acted l at);
  }

  -- the receive is that of its place
  receive_known : (l : Letter) → IsNext l → v ≡ receiver_receive i v.id
  receive_known l next = by (receive_is s.receiver v r.receive)
    where
      by : ((s.receiver.in_use ≡ Some v) × (unused_after s.receiver ≡ s.receiver.unused)) ⊎ ((s.receiver.in_use ≡ None) × (s.receiver.unused ≡ v ∷ unused_after s.receiver)) → v ≡ receiver_receive i v.id
      by (inl u) =
          let p : HoldsPart i s.landed s.sender.into (Some v) (Some l) =
          subst (λ (o : Option Receive). HoldsPart i s.landed s.sender.into o (Some l)) u.0 (subst (λ (o : Option Letter). HoldsPart i s.landed s.sender.into s.receiver.in_use o) next.at (h.messages.part_holds r.lives)) in
          p.0
      by (inr u) = All-head (λ w. w ≡ receiver_receive i w.id) v (unused_after s.receiver) (subst (λ (vs : List Receive). All (λ w. w ≡ receiver_receive i w.id) vs) u.1 (h.places.receives_known r.lives))

  -- the bytes that are in place
  in_place_now : (l : Letter) → IsNext l → cut (place_bytes * v.id) s.sender.into s.landed ≡ take s.sender.into (message_of i l)
  in_place_now l next = by (receive_is s.receiver v r.receive)
    where
      by : ((s.receiver.in_use ≡ Some v) × (unused_after s.receiver ≡ s.receiver.unused)) ⊎ ((s.receiver.in_use ≡ None) × (s.receiver.unused ≡ v ∷ unused_after s.receiver)) →
          cut (place_bytes * v.id) s.sender.into s.landed ≡ take s.sender.into (message_of i l)
      by (inl u) =
          let p : HoldsPart i s.landed s.sender.into (Some v) (Some l) =
          subst (λ (o : Option Receive). HoldsPart i s.landed s.sender.into o (Some l)) u.0 (subst (λ (o : Option Letter). HoldsPart i s.landed s.sender.into s.receiver.in_use o) next.at (h.messages.part_holds r.lives)) in
          p.1
      by (inr u) =
          let none : s.sender.into ≡ 0 = subst (λ (o : Option Receive). HoldsPart i s.landed s.sender.into o (slice_get sent s.sender.acted)) u.0 (h.messages.part_holds r.lives) in
          subst (λ (m : ℕ). cut (place_bytes * v.id) m s.landed ≡ take m (message_of i l)) (sym none) (cut_nothing (place_bytes * v.id) s.landed)

  -- ---- places

  -- before the Run, one place is that of the receive
  as_often : (k : ℕ) → often k (places s.receiver.unused s.receiver.in_use (copies i s.dues) (reposts i s.dues)) ≡
      often k (map (λ w. w.id) (unused_after s.receiver)) + (one_if (v.id == k) + (often k (map (λ x. x.0) (copies i s.dues)) + often k (reposts i s.dues)))
  as_often k = by (receive_is s.receiver v r.receive)
    where
      by : ((s.receiver.in_use ≡ Some v) × (unused_after s.receiver ≡ s.receiver.unused)) ⊎ ((s.receiver.in_use ≡ None) × (s.receiver.unused ≡ v ∷ unused_after s.receiver)) →
          often k (places s.receiver.unused s.receiver.in_use (copies i s.dues) (reposts i s.dues)) ≡
          often k (map (λ w. w.id) (unused_after s.receiver)) + (one_if (v.id == k) + (often k (map (λ x. x.0) (copies i s.dues)) + often k (reposts i s.dues)))
      by (inl u) =
          ap (λ (o : Option Receive). often k (places s.receiver.unused o (copies i s.dues) (reposts i s.dues))) u.0
          ∙ (ap (λ (vs : List Receive). often k (places vs (Some v) (copies i s.dues) (reposts i s.dues))) (sym u.1)
          ∙ often_between k v.id (map (λ w. w.id) (unused_after s.receiver)) (map (λ x. x.0) (copies i s.dues)) (reposts i s.dues))
      by (inr u) =
          ap (λ (o : Option Receive). often k (places s.receiver.unused o (copies i s.dues) (reposts i s.dues))) u.0
          ∙ (ap (λ (vs : List Receive). often k (places vs None (copies i s.dues) (reposts i s.dues))) u.1
          ∙ often_first k v.id (map (λ w. w.id) (unused_after s.receiver)) (map (λ x. x.0) (copies i s.dues)) (reposts i s.dues))

  all_places : All (λ k. k < depth) (map (λ w. w.id) (unused_after s.receiver) ++ (v.id ∷ (map (λ x. x.0) (copies i s.dues) ++ reposts i s.dues)))
  all_places = by (receive_is s.receiver v r.receive)
    where
      by : ((s.receiver.in_use ≡ Some v) × (unused_after s.receiver ≡ s.receiver.unused)) ⊎ ((s.receiver.in_use ≡ None) × (s.receiver.unused ≡ v ∷ unused_after s.receiver)) →
          All (λ k. k < depth) (map (λ w. w.id) (unused_after s.receiver) ++ (v.id ∷ (map (λ x. x.0) (copies i s.dues) ++ reposts i s.dues)))
      by (inl u) =
          subst (λ (vs : List Receive). All (λ k. k < depth) (places vs (Some v) (copies i s.dues) (reposts i s.dues))) (sym u.1)
          (subst (λ (o : Option Receive). All (λ k. k < depth) (places s.receiver.unused o (copies i s.dues) (reposts i s.dues))) u.0 (h.places.places_within r.lives))
      by (inr u) =
          all_between (λ k. k < depth) v.id (map (λ w. w.id) (unused_after s.receiver)) (map (λ x. x.0) (copies i s.dues)) (reposts i s.dues)
          (subst (λ (vs : List Receive). All (λ k. k < depth) (places vs None (copies i s.dues) (reposts i s.dues))) u.1
          (subst (λ (o : Option Receive). All (λ k. k < depth) (places s.receiver.unused o (copies i s.dues) (reposts i s.dues))) u.0 (h.places.places_within r.lives)))

  unused_known : All (λ w. w ≡ receiver_receive i w.id) (unused_after s.receiver)
  unused_known = by (receive_is s.receiver v r.receive)
    where
      by : ((s.receiver.in_use ≡ Some v) × (unused_after s.receiver ≡ s.receiver.unused)) ⊎ ((s.receiver.in_use ≡ None) × (s.receiver.unused ≡ v ∷ unused_after s.receiver)) → All (λ w. w ≡ receiver_receive i w.id) (unused_after s.receiver)
      by (inl u) = subst (λ (vs : List Receive). All (λ w. w ≡ receiver_receive i w.id) vs) (sym u.1) (h.places.receives_known r.lives)
      by (inr u) = All-tail (λ w. w ≡ receiver_receive i w.id) v (unused_after s.receiver) (subst (λ (vs : List Receive). All (λ w. w ≡ receiver_receive i w.id) vs) u.1 (h.places.receives_known r.lives))

  -- the place of the receive, and no message to be copied has it
  place_below : v.id < depth
  place_below = All-head (λ k. k < depth) v.id (map (λ x. x.0) (copies i s.dues) ++ reposts i s.dues) (all_back (λ k. k < depth) (map (λ w. w.id) (unused_after s.receiver)) (v.id ∷ (map (λ x. x.0) (copies i s.dues) ++ reposts i s.dues)) all_places)

  copied_below : All (λ k. k < depth) (map (λ x. x.0) (copies i s.dues))
  copied_below =
      all_front (λ k. k < depth) (map (λ x. x.0) (copies i s.dues)) (reposts i s.dues)
      (All-tail (λ k. k < depth) v.id (map (λ x. x.0) (copies i s.dues) ++ reposts i s.dues) (all_back (λ k. k < depth) (map (λ w. w.id) (unused_after s.receiver)) (v.id ∷ (map (λ x. x.0) (copies i s.dues) ++ reposts i s.dues)) all_places))

  copied_other : All (λ k. k ≢ v.id) (map (λ x. x.0) (copies i s.dues))
  copied_other =
      let once : often v.id (places s.receiver.unused s.receiver.in_use (copies i s.dues) (reposts i s.dues)) ≤ 1 = h.places.places_once r.lives v.id in
      let one : one_if (v.id == v.id) ≡ 1 = ap one_if (eq-eqb v.id v.id refl) in
      never v.id (map (λ x. x.0) (copies i s.dues)) (omega (arith, once, as_often v.id, one))

  -- ---- bytes

  -- other places stay
  elsewhere : (k m : ℕ) → (k < depth) × (k ≢ v.id) → m ≤ place_bytes → cut (place_bytes * k) m (put s.landed (place_bytes * v.id + s.sender.into) (next_of s n)) ≡ cut (place_bytes * k) m s.landed
  elsewhere k m is fits = by (nat_lt k v.id) refl
    where
      by : (b : Bool) → nat_lt k v.id ≡ b → cut (place_bytes * k) m (put s.landed (place_bytes * v.id + s.sender.into) (next_of s n)) ≡ cut (place_bytes * k) m s.landed
      by true e =
          let below : k < v.id = ltb-true k v.id e in
          cut_before s.landed (place_bytes * k) m (place_bytes * v.id + s.sender.into) (next_of s n) (omega (arith, below, fits)) r.inside
      by false e =
          let above : v.id ≤ k = ltb-false k v.id e in
          let size = r.size in
          let inside = r.fits in
          let other = is.1 in
          let past : v.id < k = omega (arith, above, other) in
          cut_behind s.landed (place_bytes * k) m (place_bytes * v.id + s.sender.into) (next_of s n) (omega (arith, past, size, inside)) r.inside

  -- .. and the landing place too
  landing_stays : (m : ℕ) → cut landing_offset m (put s.landed (place_bytes * v.id + s.sender.into) (next_of s n)) ≡ cut landing_offset m s.landed
  landing_stays m =
      let size = r.size in
      let inside = r.fits in
      let below = place_below in
      cut_behind s.landed landing_offset m (place_bytes * v.id + s.sender.into) (next_of s n) (omega (arith, below, size, inside)) r.inside

  messages_stay : HoldMessages i (put s.landed (place_bytes * v.id + s.sender.into) (next_of s n)) (copies i s.dues) (drop c.receives sent)
  messages_stay =
      holds_as i s.landed (put s.landed (place_bytes * v.id + s.sender.into) (next_of s n)) (λ k. (k < depth) × (k ≢ v.id)) elsewhere (copies i s.dues) (drop c.receives sent)
      (all_of_map (λ k. (k < depth) × (k ≢ v.id)) (λ (x : ℕ × ℕ). x.0) (copies i s.dues)
      (all_both (λ k. k < depth) (λ k. k ≢ v.id) (map (λ x. x.0) (copies i s.dues)) copied_below copied_other))
      h.messages.places_hold

  -- the next bytes stand behind those that are in place
  longer_now : (l : Letter) → IsNext l → cut (place_bytes * v.id) (s.sender.into + n) (put s.landed (place_bytes * v.id + s.sender.into) (next_of s n)) ≡ take (s.sender.into + n) (message_of i l)
  longer_now l next =
      ap (λ (m : ℕ). cut (place_bytes * v.id) (s.sender.into + m) (put s.landed (place_bytes * v.id + s.sender.into) (next_of s n))) (sym r.size)
      ∙ (cut_joined s.landed (place_bytes * v.id) s.sender.into (next_of s n) r.inside
      ∙ (ap (λ (xs : List ℕ). xs ++ next_of s n) (in_place_now l next)
      ∙ (ap (λ (p : Posted). take s.sender.into (message_of i l) ++ cut s.sender.into n p.payload) next.posted
      ∙ sym (take_more_of s.sender.into n (message_of i l)))))

  landing_as : IsLandingKept (put s.landed (place_bytes * v.id + s.sender.into) (next_of s n)) (length s.receiver.posted) s.receiver.told s.receiver.known s.receiver.ended (bodies i s.dues) c.reads sent
  landing_as = record {
    nothing_known = h.landing.nothing_known;
    landing = λ live even l at. landing_stays s.receiver.known ∙ h.landing.landing live even l at;
    bodies_hold = λ l at. All-weaker (λ m. (m ≡ length l.body) × (cut landing_offset m s.landed ≡ l.body))
        (λ m. (m ≡ length l.body) × (cut landing_offset m (put s.landed (place_bytes * v.id + s.sender.into) (next_of s n)) ≡ l.body))
        (λ m is. (is.0, landing_stays m ∙ is.1)) (bodies i s.dues) (h.landing.bodies_hold l at);
  }

  -- ---- a part of a message runs

  abbrev next_letter : Letter
  next_letter = get_or sent s.sender.acted (record { tag = 0; body = [] })

  the_next : IsNext next_letter
  the_next = is_next next_letter (slice_get-get_or sent s.sender.acted (record { tag = 0; body = [] }) (let a = r.turn in let b = h.sends.posted_within in omega (arith, a, b)))

  pub part_runs : s.sender.into + n < size_of (current s.sender) →
      IsKept i (record s {
        sender = record s.sender { into = s.sender.into + n };
        receiver = record s.receiver { in_use = Some v; unused = unused_after s.receiver };
        landed = put s.landed (place_bytes * v.id + s.sender.into) (next_of s n);
      }) c sent open'
  part_runs short = record {
    letters = h.letters;
    unoffered = h.unoffered;
    number = h.number;
    plain = h.plain;
    sends = h.sends;
    messages = record {
      receives_completed = h.messages.receives_completed;
      places_hold = messages_stay;
      part_holds = λ live. subst (λ (o : Option Letter). HoldsPart i (put s.landed (place_bytes * v.id + s.sender.into) (next_of s n)) (s.sender.into + n) (Some v) o) (sym the_next.at)
          (receive_known next_letter the_next, longer_now next_letter the_next);
      part_within = r.fits;
    };
    places = record {
      places_once = λ live k.
          let once : often k (places s.receiver.unused s.receiver.in_use (copies i s.dues) (reposts i s.dues)) ≤ 1 = h.places.places_once live k in
          omega (arith, once, as_often k, often_between k v.id (map (λ w. w.id) (unused_after s.receiver)) (map (λ x. x.0) (copies i s.dues)) (reposts i s.dues));
      places_within = λ live. all_places;
      receives_known = λ live. unused_known;
    };
    queue = h.queue;
    counts = h.counts;
    slot = h.slot;
    offers = h.offers;
    landing = landing_as;
    arrived = h.arrived;
    waits_open = h.waits_open;
  }

  -- ---- a message is whole

  -- all that is due but for it
  counts_as : (ds : List Due) → fetches i ds ≡ fetches i s.dues → bodies i ds ≡ bodies i s.dues → frees i ds ≡ frees i s.dues → slots i ds ≡ slots i s.dues →
      AreCountsKept (length s.receiver.posted) s.receiver.acted s.receiver.told s.receiver.ended (length (fetches i ds)) (length (bodies i ds)) (length (frees i ds)) (length (slots i ds)) c.receives c.reads c.slot_in_use sent
  counts_as ds a b d e =
      subst (λ (x : List Fetch). AreCountsKept (length s.receiver.posted) s.receiver.acted s.receiver.told s.receiver.ended (length x) (length (bodies i ds)) (length (frees i ds)) (length (slots i ds)) c.receives c.reads c.slot_in_use sent) (sym a)
      (subst (λ (x : List ℕ). AreCountsKept (length s.receiver.posted) s.receiver.acted s.receiver.told s.receiver.ended (length (fetches i s.dues)) (length x) (length (frees i ds)) (length (slots i ds)) c.receives c.reads c.slot_in_use sent) (sym b)
      (subst (λ (x : List ℕ). AreCountsKept (length s.receiver.posted) s.receiver.acted s.receiver.told s.receiver.ended (length (fetches i s.dues)) (length (bodies i s.dues)) (length x) (length (slots i ds)) c.receives c.reads c.slot_in_use sent) (sym d)
      (subst (λ (x : List ℕ). AreCountsKept (length s.receiver.posted) s.receiver.acted s.receiver.told s.receiver.ended (length (fetches i s.dues)) (length (bodies i s.dues)) (length (frees i s.dues)) (length x) c.receives c.reads c.slot_in_use sent) (sym e) h.counts)))

  ids_push : (xs : List (ℕ × ℕ)) (x : ℕ × ℕ) → map (λ (y : ℕ × ℕ). y.0) (xs ++ x ∷ []) ≡ map (λ (y : ℕ × ℕ). y.0) xs ++ x.0 ∷ []
  ids_push xs x = pushed (λ (y : ℕ × ℕ). y.0) xs x

  module _ (ds : List Due) (whole : s.sender.into + n ≡ size_of (current s.sender)) (g : Gains i s.dues ds ((v.id, size_of (current s.sender)) ∷ []) [] []) where
    size_is : size_of (current s.sender) ≡ length (message_of i next_letter)
    size_is = ap size_of the_next.posted

    message_there : cut (place_bytes * v.id) (size_of (current s.sender)) (put s.landed (place_bytes * v.id + s.sender.into) (next_of s n)) ≡ message_of i next_letter
    message_there =
        ap (λ (m : ℕ). cut (place_bytes * v.id) m (put s.landed (place_bytes * v.id + s.sender.into) (next_of s n))) (sym whole)
        ∙ (longer_now next_letter the_next ∙ take_whole (s.sender.into + n) (message_of i next_letter) (omega (arith, whole, size_is)))

    messages_more : AreMessagesKept i (put s.landed (place_bytes * v.id + s.sender.into) (next_of s n)) (suc s.sender.acted) 0 s.receiver.ended None (copies i s.dues ++ (v.id, size_of (current s.sender)) ∷ []) c.receives sent
    messages_more = record {
      receives_completed = let a = h.messages.receives_completed in let b = length-append (copies i s.dues) ((v.id, size_of (current s.sender)) ∷ []) in omega (arith, a, b);
      places_hold = hold_push i (put s.landed (place_bytes * v.id + s.sender.into) (next_of s n)) (copies i s.dues) (drop c.receives sent) (v.id, size_of (current s.sender)) next_letter messages_stay
          (get_drop c.receives (length (copies i s.dues)) s.sender.acted sent (sym h.messages.receives_completed) ∙ the_next.at) size_is message_there;
      part_holds = λ live. refl;
      part_within = omega arith;
    }

    places_more : ArePlacesKept i s.receiver.ended (unused_after s.receiver) None (copies i s.dues ++ (v.id, size_of (current s.sender)) ∷ []) (reposts i s.dues)
    places_more = record {
      places_once = λ live k.
          let once : often k (places s.receiver.unused s.receiver.in_use (copies i s.dues) (reposts i s.dues)) ≤ 1 = h.places.places_once live k in
          let ids = ap (λ (xs : List ℕ). often k (map (λ w. w.id) (unused_after s.receiver) ++ (xs ++ reposts i s.dues))) (ids_push (copies i s.dues) (v.id, size_of (current s.sender))) in
          omega (arith, once, as_often k, ids, often_last k v.id (map (λ w. w.id) (unused_after s.receiver)) (map (λ x. x.0) (copies i s.dues)) (reposts i s.dues));
      places_within = λ live.
          subst (λ (xs : List ℕ). All (λ k. k < depth) (map (λ w. w.id) (unused_after s.receiver) ++ (xs ++ reposts i s.dues))) (sym (ids_push (copies i s.dues) (v.id, size_of (current s.sender))))
          (all_last (λ k. k < depth) v.id (map (λ w. w.id) (unused_after s.receiver)) (map (λ x. x.0) (copies i s.dues)) (reposts i s.dues) all_places);
      receives_known = λ live. unused_known;
    }

    pub message_runs : (answers : List Reply) → All IsPlain answers → IsKept i (record s {
      sender = record s.sender { acted = suc s.sender.acted; into = 0; answers = answers };
      receiver = record s.receiver { in_use = None; unused = unused_after s.receiver };
      landed = put s.landed (place_bytes * v.id + s.sender.into) (next_of s n);
      dues = ds;
    }) c sent open'
    message_runs answers plain = record {
      letters = h.letters;
      unoffered = h.unoffered;
      number = h.number;
      plain = (plain, h.plain.1);
      sends = record {
        queue_of_sender = h.sends.queue_of_sender;
        posted_within = h.sends.posted_within;
        acted_within = let t = r.turn in omega (arith, t);
        all_posted = h.sends.all_posted;
      };
      messages = subst (λ (xs : List (ℕ × ℕ)). AreMessagesKept i (put s.landed (place_bytes * v.id + s.sender.into) (next_of s n)) (suc s.sender.acted) 0 s.receiver.ended None xs c.receives sent) (sym g.copied_more) messages_more;
      places = subst (λ (xs : List (ℕ × ℕ)). ArePlacesKept i s.receiver.ended (unused_after s.receiver) None xs (reposts i ds)) (sym g.copied_more)
          (subst (λ (ys : List ℕ). ArePlacesKept i s.receiver.ended (unused_after s.receiver) None (copies i s.dues ++ (v.id, size_of (current s.sender)) ∷ []) ys) (sym g.reposts_same) places_more);
      queue = h.queue;
      counts = counts_as ds g.fetches_same (g.bodies_more ∙ append-nil (bodies i s.dues)) g.frees_same (g.slots_more ∙ append-nil (slots i s.dues));
      slot = slot_as i s c sent open' h ds g.fetches_same;
      offers = h.offers;
      landing = subst (λ (bs : List ℕ). IsLandingKept (put s.landed (place_bytes * v.id + s.sender.into) (next_of s n)) (length s.receiver.posted) s.receiver.told s.receiver.known s.receiver.ended bs c.reads sent)
          (sym (g.bodies_more ∙ append-nil (bodies i s.dues))) landing_as;
      arrived = h.arrived;
      waits_open = h.waits_open;
    }

  -- the receive that the message runs into
  pub receive_of : v ≡ receiver_receive i v.id
  receive_of = receive_known next_letter the_next
