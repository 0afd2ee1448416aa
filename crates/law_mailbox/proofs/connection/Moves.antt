-- Inner steps keep what is true of a connection: those of bodies that are fetched, and those that change little.
use Rattle.std.proofs.Common.{arith, ◌≡◌, ℕ, suc, ◌+◌, ◌-◌, ◌*◌, ◌/◌, ◌%◌, ◌<◌, ◌≤◌, List, [], ◌∷◌, ◌++◌, length, take, drop, map, true, false, Bool, refl, sym, subst, ap, ◌∙◌, Some, None, Option, append-nil, length-append}
use Rattle.std.specs.Prelude.{All, slice_get, option_to_list, if◌then◌else◌}
use Rattle.std.proofs.lemmas.List.Elements.{All-head, All-nil, All-push, All-same, All-weaker}
use Rattle.rdma_types.specs.Kinds.{size_of}
use Rattle.rdma_types.specs.Memory.{cut, put}
use Rattle.rdma_types.specs.declared.requests.Receive.{Receive}
use Rattle.packetless_machine.specs.declared.reply.Reply.{Reply}
use Rattle.packetless_machine.specs.Machine.{Offered, posted_at}
use Rattle.mailbox_rules.specs.declared.due.Due.{Due}
use Rattle.mailbox_rules.specs.declared.due.Fetch.{Fetch}
use Rattle.mailbox_rules.specs.declared.letters.Letter.{Letter}
use Rattle.mailbox_rules.specs.Histories.{Placed, fetched_before}
use Rattle.mailbox_rules.specs.Opening.{depth, place_bytes}
use Rattle.mailbox_rules.specs.State.{Channel}
use Rattle.law_mailbox.specs.Kept.{AreMessagesKept, ArePlacesKept, IsKept, IsKeptWith, IsLandingKept, IsPlain, IsSlotKept, Pending, Sight, bodies, copies, fetches, frees, landing_offset, last_long, long_letters, pending, reposts, slot_offset, slots}
use Rattle.law_mailbox.specs.Moves.{Gains}
use Rattle.law_mailbox.proofs.connection.Bytes.{cut_before, cut_joined, cut_nothing, cut_within, take_more_of, take_whole}
use Rattle.law_mailbox.proofs.connection.Places.{all_at, all_back, all_front, all_of_map, copied_long, holds_as, nil_of, part_as}
use Rattle.law_mailbox.proofs.connection.Requests.{read_size}

-- what a longer list of dues leaves as it was
module _ (i : ℕ) (ds ds' : List Due) (copied : List (ℕ × ℕ)) (body slot : List ℕ) (g : Gains i ds ds' copied body slot) where
  pub fetches_as : length (fetches i ds') ≡ length (fetches i ds)
  fetches_as = ap length g.fetches_same

  pub frees_as : length (frees i ds') ≡ length (frees i ds)
  frees_as = ap length g.frees_same

  pub bodies_as : length (bodies i ds') ≡ length (bodies i ds) + length body
  bodies_as = ap length g.bodies_more ∙ length-append (bodies i ds) body

  pub slots_as : length (slots i ds') ≡ length (slots i ds) + length slot
  slots_as = ap length g.slots_more ∙ length-append (slots i ds) slot

module _ (i : ℕ) (s : Sight) (c : Channel) (sent : List Letter) (open' : List Placed) (h : IsKept i s c sent open') where
  -- ---- steps that change little

  pub sender_stays : (told known spent waits : ℕ) (answers : List Reply) (dry : List ℕ) (unused : List Receive) (in_use : Option Receive) (ended : Bool) →
      All IsPlain answers → (ended ≡ false → s.sender.ended ≡ false) →
      IsKept i (record s { sender = record s.sender { told = told; known = known; spent = spent; waits = waits; answers = answers; dry = dry; unused = unused; in_use = in_use; ended = ended } }) c sent open'
  sender_stays told known spent waits answers dry unused in_use ended plain lives = record {
    letters = h.letters;
    unoffered = h.unoffered;
    number = h.number;
    plain = (plain, h.plain.1);
    sends = record {
      queue_of_sender = h.sends.queue_of_sender;
      posted_within = h.sends.posted_within;
      acted_within = h.sends.acted_within;
      all_posted = λ live. h.sends.all_posted (lives live);
    };
    messages = h.messages;
    places = h.places;
    queue = h.queue;
    counts = h.counts;
    slot = h.slot;
    offers = h.offers;
    landing = h.landing;
    arrived = h.arrived;
    waits_open = h.waits_open;
  }

  pub receiver_stays : (spent waits : ℕ) (answers : List Reply) (dry : List ℕ) → All IsPlain answers → IsKept i (record s { receiver = record s.receiver { spent = spent; waits = waits; answers = answers; dry = dry } }) c sent open'
  receiver_stays spent waits answers dry plain = record {
    letters = h.letters;
    unoffered = h.unoffered;
    number = h.number;
    plain = (h.plain.0, plain);
    sends = h.sends;
    messages = h.messages;
    places = h.places;
    queue = h.queue;
    counts = h.counts;
    slot = h.slot;
    offers = h.offers;
    landing = h.landing;
    arrived = h.arrived;
    waits_open = h.waits_open;
  }

  -- ---- more is due elsewhere

  pub others_gain : (ds : List Due) → Gains i s.dues ds [] [] [] → IsKept i (record s { dues = ds }) c sent open'
  others_gain ds g = subst (λ (p : Pending). IsKeptWith i s.sender s.receiver s.stored s.landed p c sent open') (sym same) h
    where
      same : pending i ds ≡ pending i s.dues
      same = λ k. record {
        copied = (g.copied_more ∙ append-nil (copies i s.dues)) k;
        reposted = g.reposts_same k;
        fetched = g.fetches_same k;
        bodies = (g.bodies_more ∙ append-nil (bodies i s.dues)) k;
        frees = length (g.frees_same k);
        slots = length ((g.slots_more ∙ append-nil (slots i s.dues)) k);
      }

  -- ---- the receiver's end ends

  no_more : true ≡ false → ⊥
  no_more e = cc

  pub receiver_ends : IsKept i (record s { receiver = record s.receiver { ended = true; told = length s.receiver.posted; known = 0; spent = 0; waits = 0; unused = []; in_use = None } }) c sent open'
  receiver_ends = record {
    letters = h.letters;
    unoffered = h.unoffered;
    number = h.number;
    plain = h.plain;
    sends = h.sends;
    messages = record {
      receives_completed = h.messages.receives_completed;
      places_hold = h.messages.places_hold;
      part_holds = λ live. absurd (no_more live);
      part_within = h.messages.part_within;
    };
    places = record { places_once = λ live. absurd (no_more live); places_within = λ live. absurd (no_more live); receives_known = λ live. absurd (no_more live) };
    queue = h.queue;
    counts = record {
      acted_within = h.counts.acted_within;
      told_within = omega arith;
      told_acted = λ live. absurd (no_more live);
      over = λ gone. refl;
      reads_posted = h.counts.reads_posted;
      frees_posted = h.counts.frees_posted;
      bodies_posted = h.counts.bodies_posted;
      bodies_told = λ live. absurd (no_more live);
      slot_freed = h.counts.slot_freed;
    };
    slot = h.slot;
    offers = record {
      offers_acted = h.offers.offers_acted;
      offers_true = All-weaker (λ o. (o.request < s.receiver.acted) × (o.request % 2 ≡ 0))
          (λ o. length s.receiver.posted ≤ o.request → (l : Letter) → slice_get (long_letters sent) (o.request / 2) ≡ Some l → o.bytes ≡ cut o.offset (length o.bytes) l.body)
          (λ o is past. let within = h.counts.acted_within in absurd (omega (arith, is.0))) s.receiver.offers h.offers.offers_acted;
    };
    landing = record { nothing_known = λ all. refl; landing = λ live. absurd (no_more live); bodies_hold = h.landing.bodies_hold };
    arrived = h.arrived;
    waits_open = h.waits_open;
  }

  -- ---- the receiver's end knows more of a Send of no bytes

  pub receiver_knows : (known : ℕ) → s.receiver.told < length s.receiver.posted → s.receiver.told % 2 ≡ 1 → IsKept i (record s { receiver = record s.receiver { known = known; spent = 0; waits = 0 } }) c sent open'
  receiver_knows known untold odd = record {
    letters = h.letters;
    unoffered = h.unoffered;
    number = h.number;
    plain = h.plain;
    sends = h.sends;
    messages = h.messages;
    places = h.places;
    queue = h.queue;
    counts = h.counts;
    slot = h.slot;
    offers = h.offers;
    landing = record {
      nothing_known = λ all. absurd (omega arith);
      landing = λ live even. absurd (omega (arith, odd, even));
      bodies_hold = h.landing.bodies_hold;
    };
    arrived = h.arrived;
    waits_open = h.waits_open;
  }

  -- ---- a Read has its turn

  more_acted : All (λ o. (o.request < suc s.receiver.acted) × (o.request % 2 ≡ 0)) s.receiver.offers
  more_acted = All-weaker (λ o. (o.request < s.receiver.acted) × (o.request % 2 ≡ 0)) (λ o. (o.request < suc s.receiver.acted) × (o.request % 2 ≡ 0)) (λ o is. (omega (arith, is.0), is.1)) s.receiver.offers h.offers.offers_acted

  pub read_turns : (answers : List Reply) → All IsPlain answers → s.receiver.acted < length s.receiver.posted → s.receiver.acted % 2 ≡ 0 →
      IsKept i (record s { receiver = record s.receiver { acted = suc s.receiver.acted; into = 0; answers = answers } }) c sent open'
  read_turns answers plain posted even = record {
    letters = h.letters;
    unoffered = h.unoffered;
    number = h.number;
    plain = (h.plain.0, plain);
    sends = h.sends;
    messages = h.messages;
    places = h.places;
    queue = h.queue;
    counts = record {
      acted_within = omega arith;
      told_within = h.counts.told_within;
      told_acted = λ live. let before = h.counts.told_acted live in omega arith;
      over = h.counts.over;
      reads_posted = h.counts.reads_posted;
      frees_posted = h.counts.frees_posted;
      bodies_posted = h.counts.bodies_posted;
      bodies_told = h.counts.bodies_told;
      slot_freed = let same : suc s.receiver.acted / 2 ≡ s.receiver.acted / 2 = omega arith in h.counts.slot_freed ∙ ap (λ (n : ℕ). n + (if c.slot_in_use then 1 else 0)) (sym same);
    };
    slot = h.slot;
    offers = record { offers_acted = more_acted; offers_true = h.offers.offers_true };
    landing = h.landing;
    arrived = h.arrived;
    waits_open = h.waits_open;
  }

  -- ---- a Send of no bytes acts

  -- what is seen of messages and places, where no message is gained
  messages_as : (ds : List Due) (body slot : List ℕ) → Gains i s.dues ds [] body slot →
      AreMessagesKept i s.landed s.sender.acted s.sender.into s.receiver.ended s.receiver.in_use (copies i ds) c.receives sent
  messages_as ds body slot g = subst (λ (xs : List (ℕ × ℕ)). AreMessagesKept i s.landed s.sender.acted s.sender.into s.receiver.ended s.receiver.in_use xs c.receives sent) (sym (g.copied_more ∙ append-nil (copies i s.dues))) h.messages

  places_as : (ds : List Due) (body slot : List ℕ) → Gains i s.dues ds [] body slot → ArePlacesKept i s.receiver.ended s.receiver.unused s.receiver.in_use (copies i ds) (reposts i ds)
  places_as ds body slot g =
      subst (λ (xs : List (ℕ × ℕ)). ArePlacesKept i s.receiver.ended s.receiver.unused s.receiver.in_use xs (reposts i ds)) (sym (g.copied_more ∙ append-nil (copies i s.dues)))
      (subst (λ (xs : List ℕ). ArePlacesKept i s.receiver.ended s.receiver.unused s.receiver.in_use (copies i s.dues) xs) (sym g.reposts_same) h.places)

  pub slot_as : (ds : List Due) → fetches i ds ≡ fetches i s.dues → IsSlotKept i (fetches i ds) c.slot_in_use s.stored sent
  slot_as ds same = subst (λ (fs : List Fetch). IsSlotKept i fs c.slot_in_use s.stored sent) (sym same) h.slot

  pub free_acts : (answers : List Reply) (place : ℕ) (ds : List Due) → All IsPlain answers → s.receiver.acted < length s.receiver.posted → s.receiver.acted % 2 ≡ 1 → Gains i s.dues ds [] [] (place ∷ []) →
      IsKept i (record s { receiver = record s.receiver { acted = suc s.receiver.acted; into = 0; answers = answers }; dues = ds }) c sent open'
  free_acts answers place ds plain posted odd g =
      let fetched = fetches_as i s.dues ds [] [] (place ∷ []) g in
      let freed = frees_as i s.dues ds [] [] (place ∷ []) g in
      let bodied = bodies_as i s.dues ds [] [] (place ∷ []) g in
      let slotted = slots_as i s.dues ds [] [] (place ∷ []) g in
      let one : suc s.receiver.acted / 2 ≡ s.receiver.acted / 2 + 1 = omega arith in
      record {
        letters = h.letters;
        unoffered = h.unoffered;
        number = h.number;
        plain = (h.plain.0, plain);
        sends = h.sends;
        messages = messages_as ds [] (place ∷ []) g;
        places = places_as ds [] (place ∷ []) g;
        queue = h.queue;
        counts = record {
          acted_within = omega arith;
          told_within = h.counts.told_within;
          told_acted = λ live. let before = h.counts.told_acted live in omega arith;
          over = h.counts.over;
          reads_posted = rw fetched h.counts.reads_posted;
          frees_posted = rw freed h.counts.frees_posted;
          bodies_posted = let b = h.counts.bodies_posted in omega (arith, bodied, b);
          bodies_told = λ live. let b = h.counts.bodies_told live in omega (arith, bodied, b);
          slot_freed = let f = h.counts.slot_freed in omega (arith, slotted, f, one);
        };
        slot = slot_as ds g.fetches_same;
        offers = record { offers_acted = more_acted; offers_true = h.offers.offers_true };
        landing = subst (λ (bs : List ℕ). IsLandingKept s.landed (length s.receiver.posted) s.receiver.told s.receiver.known s.receiver.ended bs c.reads sent) (sym (g.bodies_more ∙ append-nil (bodies i s.dues))) h.landing;
        arrived = h.arrived;
        waits_open = h.waits_open;
      }

  -- ---- where a Read is untold

  -- what an untold Read says of the counts: it is the one of the last long letter, whose body is in the slot
  record IsLast (q : ℕ) : Type 0 where
    reads_are : c.reads ≡ q
    none_due : length (bodies i s.dues) ≡ 0
    is_last : length (long_letters sent) ≡ q + 1
    used : c.slot_in_use ≡ true

  untold_read : (k : ℕ) → s.receiver.ended ≡ false → s.receiver.told ≤ k → k < length s.receiver.posted → k % 2 ≡ 0 → fetched_before c.receives sent ≤ length (long_letters sent) → IsLast (k / 2)
  untold_read k live past posted even copied =
      let reads_posted = h.counts.reads_posted in
      let frees_posted = h.counts.frees_posted in
      let told = h.counts.bodies_told live in
      let freed = h.counts.slot_freed in
      let acted = h.counts.acted_within in
      record {
        reads_are = omega (arith, frees_posted, told);
        none_due = omega (arith, frees_posted, told);
        is_last = by c.slot_in_use freed;
        used = used_by c.slot_in_use freed;
      }
    where
      by : (u : Bool) → length (long_letters sent) + length (slots i s.dues) ≡ s.receiver.acted / 2 + (if u then 1 else 0) → length (long_letters sent) ≡ k / 2 + 1
      by true f = let a = h.counts.reads_posted in let b = h.counts.frees_posted in let t = h.counts.bodies_told live in let w = h.counts.acted_within in omega (arith, a, b, t, w, f)
      by false f = let a = h.counts.reads_posted in let b = h.counts.frees_posted in let t = h.counts.bodies_told live in let w = h.counts.acted_within in absurd (omega (arith, a, b, t, w, f))

      used_by : (u : Bool) → length (long_letters sent) + length (slots i s.dues) ≡ s.receiver.acted / 2 + (if u then 1 else 0) → u ≡ true
      used_by true f = refl
      used_by false f = let a = h.counts.reads_posted in let b = h.counts.frees_posted in let t = h.counts.bodies_told live in let w = h.counts.acted_within in absurd (omega (arith, a, b, t, w, f))

  copied_within : fetched_before c.receives sent ≤ length (long_letters sent)
  copied_within = copied_long c.receives sent

  -- the last long letter is the one of an untold Read
  is_the_last : (q : ℕ) (l : Letter) → length (long_letters sent) ≡ q + 1 → slice_get (long_letters sent) q ≡ Some l → last_long sent ≡ Some l
  is_the_last q l long at = let e : length (long_letters sent) - 1 ≡ q = omega (arith, long) in ap (λ (k : ℕ). slice_get (long_letters sent) k) e ∙ at

  -- ---- bytes of a Read are offered

  piece_is : (o : Offered) → o.request < s.receiver.acted → o.request % 2 ≡ 0 → o.offset + length o.bytes ≤ size_of (posted_at s.receiver.posted o.request) →
      o.bytes ≡ cut (slot_offset + o.offset) (length o.bytes) s.stored → s.receiver.told ≤ o.request → (l : Letter) → slice_get (long_letters sent) (o.request / 2) ≡ Some l →
      o.bytes ≡ cut o.offset (length o.bytes) l.body
  piece_is o acted even inside is past l at = by s.receiver.ended refl
    where
      by : (b : Bool) → s.receiver.ended ≡ b → o.bytes ≡ cut o.offset (length o.bytes) l.body
      by true e = let over : s.receiver.told ≡ length s.receiver.posted = h.counts.over e in let w = h.counts.acted_within in absurd (omega (arith, over, w, acted, past))
      by false e =
          let w = h.counts.acted_within in
          let posted : o.request < length s.receiver.posted = omega (arith, w, acted) in
          let last : IsLast (o.request / 2) = untold_read o.request e past posted even copied_within in
          let size : size_of (posted_at s.receiver.posted o.request) ≡ length l.body = read_size i s.receiver.posted sent o.request l h.queue posted even at in
          let fits : o.offset + length o.bytes ≤ length l.body = omega (arith, inside, size) in
          is ∙ cut_within slot_offset o.offset (length o.bytes) (length l.body) s.stored fits
          ∙ ap (cut o.offset (length o.bytes)) (h.slot.slot_holds last.used l (is_the_last (o.request / 2) l last.is_last at))

  pub read_offers : (o : Offered) → o.request < s.receiver.acted → o.request % 2 ≡ 0 → o.offset + length o.bytes ≤ size_of (posted_at s.receiver.posted o.request) →
      o.bytes ≡ cut (slot_offset + o.offset) (length o.bytes) s.stored →
      IsKept i (record s { receiver = record s.receiver { offers = s.receiver.offers ++ o ∷ [] } }) c sent open'
  read_offers o acted even inside is = record {
    letters = h.letters;
    unoffered = h.unoffered;
    number = h.number;
    plain = h.plain;
    sends = h.sends;
    messages = h.messages;
    places = h.places;
    queue = h.queue;
    counts = h.counts;
    slot = h.slot;
    offers = record {
      offers_acted = All-push (λ p. (p.request < s.receiver.acted) × (p.request % 2 ≡ 0)) s.receiver.offers o h.offers.offers_acted (acted, even);
      offers_true = All-push (λ p. s.receiver.told ≤ p.request → (l : Letter) → slice_get (long_letters sent) (p.request / 2) ≡ Some l → p.bytes ≡ cut p.offset (length p.bytes) l.body)
          s.receiver.offers o h.offers.offers_true (piece_is o acted even inside is);
    };
    landing = h.landing;
    arrived = h.arrived;
    waits_open = h.waits_open;
  }

  -- ---- an offer lands

  -- places of messages to be copied, and of the receive in use
  copied_places : s.receiver.ended ≡ false → All (λ x. x.0 < depth) (copies i s.dues)
  copied_places live =
      all_of_map (λ k. k < depth) (λ (x : ℕ × ℕ). x.0) (copies i s.dues)
      (all_front (λ k. k < depth) (map (λ x. x.0) (copies i s.dues)) (reposts i s.dues)
      (all_back (λ k. k < depth) (map (λ v. v.id) (option_to_list s.receiver.in_use)) (map (λ x. x.0) (copies i s.dues) ++ reposts i s.dues)
      (all_back (λ k. k < depth) (map (λ v. v.id) s.receiver.unused) (map (λ v. v.id) (option_to_list s.receiver.in_use) ++ (map (λ x. x.0) (copies i s.dues) ++ reposts i s.dues)) (h.places.places_within live))))

  used_place : s.receiver.ended ≡ false → (v : Receive) → s.receiver.in_use ≡ Some v → v.id < depth
  used_place live v e =
      All-head (λ k. k < depth) v.id []
      (subst (λ (o : Option Receive). All (λ k. k < depth) (map (λ v. v.id) (option_to_list o))) e
      (all_front (λ k. k < depth) (map (λ v. v.id) (option_to_list s.receiver.in_use)) (map (λ x. x.0) (copies i s.dues) ++ reposts i s.dues)
      (all_back (λ k. k < depth) (map (λ v. v.id) s.receiver.unused) (map (λ v. v.id) (option_to_list s.receiver.in_use) ++ (map (λ x. x.0) (copies i s.dues) ++ reposts i s.dues)) (h.places.places_within live))))

  -- bytes in the landing place leave the places as they are
  beside : (b : ℕ) (new : List ℕ) (k n : ℕ) → landing_offset ≤ b → b ≤ length s.landed → k < depth → n ≤ place_bytes → cut (place_bytes * k) n (put s.landed b new) ≡ cut (place_bytes * k) n s.landed
  beside b new k n past inside below fits = cut_before s.landed (place_bytes * k) n b new (omega arith) inside

  pub read_lands : (k : ℕ) (o : Offered) → s.receiver.ended ≡ false → s.receiver.told < length s.receiver.posted → slice_get s.receiver.offers k ≡ Some o → o.request ≡ s.receiver.told → o.offset ≡ s.receiver.known →
      landing_offset + s.receiver.known ≤ length s.landed →
      IsKept i (record s { receiver = record s.receiver { known = s.receiver.known + length o.bytes; spent = 0; waits = 0 }; landed = put s.landed (landing_offset + s.receiver.known) o.bytes }) c sent open'
  read_lands k o live untold at same offset inside =
      let acted : (o.request < s.receiver.acted) × (o.request % 2 ≡ 0) = all_at (λ p. (p.request < s.receiver.acted) × (p.request % 2 ≡ 0)) s.receiver.offers k o h.offers.offers_acted at in
      let even : s.receiver.told % 2 ≡ 0 = ap (λ (n : ℕ). n % 2) (sym same) ∙ acted.1 in
      let last : IsLast (s.receiver.told / 2) = untold_read s.receiver.told live (omega arith) untold even copied_within in
      let past : landing_offset ≤ landing_offset + s.receiver.known = omega arith in
      record {
        letters = h.letters;
        unoffered = h.unoffered;
        number = h.number;
        plain = h.plain;
        sends = h.sends;
        messages = record {
          receives_completed = h.messages.receives_completed;
          places_hold = holds_as i s.landed (put s.landed (landing_offset + s.receiver.known) o.bytes) (λ x. x < depth) (λ x n below fits. beside (landing_offset + s.receiver.known) o.bytes x n past inside below fits)
              (copies i s.dues) (drop c.receives sent) (copied_places live) h.messages.places_hold;
          part_holds = λ live'. part_as i s.landed (put s.landed (landing_offset + s.receiver.known) o.bytes) s.sender.into s.receiver.in_use (slice_get sent s.sender.acted)
              (λ v e. beside (landing_offset + s.receiver.known) o.bytes v.id s.sender.into past inside (used_place live v e) h.messages.part_within) (h.messages.part_holds live');
          part_within = h.messages.part_within;
        };
        places = h.places;
        queue = h.queue;
        counts = h.counts;
        slot = h.slot;
        offers = h.offers;
        landing = record {
          nothing_known = λ all. absurd (omega (arith, all, untold));
          landing = λ live' even' l there.
              let there' : slice_get (long_letters sent) (o.request / 2) ≡ Some l = ap (λ (n : ℕ). slice_get (long_letters sent) (n / 2)) same ∙ there in
              let piece : o.bytes ≡ cut o.offset (length o.bytes) l.body =
              all_at (λ p. s.receiver.told ≤ p.request → (l : Letter) → slice_get (long_letters sent) (p.request / 2) ≡ Some l → p.bytes ≡ cut p.offset (length p.bytes) l.body) s.receiver.offers k o h.offers.offers_true at (omega (arith, same)) l there' in
              cut_joined s.landed landing_offset s.receiver.known o.bytes inside
              ∙ ap (λ (xs : List ℕ). xs ++ o.bytes) (h.landing.landing live even l there)
              ∙ ap (λ (xs : List ℕ). take s.receiver.known l.body ++ xs) (piece ∙ ap (λ (a : ℕ). cut a (length o.bytes) l.body) offset)
              ∙ sym (take_more_of s.receiver.known (length o.bytes) l.body);
          bodies_hold = λ l there. All-same (λ n. (n ≡ length l.body) × (cut landing_offset n (put s.landed (landing_offset + s.receiver.known) o.bytes) ≡ l.body)) (bodies i s.dues) []
              (nil_of (bodies i s.dues) last.none_due) (All-nil (λ n. (n ≡ length l.body) × (cut landing_offset n (put s.landed (landing_offset + s.receiver.known) o.bytes) ≡ l.body)));
        };
        arrived = h.arrived;
        waits_open = h.waits_open;
      }

  -- ---- a Read is told

  not_yet_told : All (λ o. s.receiver.told ≤ o.request → (l : Letter) → slice_get (long_letters sent) (o.request / 2) ≡ Some l → o.bytes ≡ cut o.offset (length o.bytes) l.body) s.receiver.offers →
      All (λ o. suc s.receiver.told ≤ o.request → (l : Letter) → slice_get (long_letters sent) (o.request / 2) ≡ Some l → o.bytes ≡ cut o.offset (length o.bytes) l.body) s.receiver.offers
  not_yet_told = All-weaker (λ o. s.receiver.told ≤ o.request → (l : Letter) → slice_get (long_letters sent) (o.request / 2) ≡ Some l → o.bytes ≡ cut o.offset (length o.bytes) l.body)
      (λ o. suc s.receiver.told ≤ o.request → (l : Letter) → slice_get (long_letters sent) (o.request / 2) ≡ Some l → o.bytes ≡ cut o.offset (length o.bytes) l.body)
      (λ o is past. is (omega (arith, past))) s.receiver.offers

  pub read_tells : (ds : List Due) → s.receiver.ended ≡ false → s.receiver.told < s.receiver.acted → s.receiver.told % 2 ≡ 0 → s.receiver.known ≡ size_of (posted_at s.receiver.posted s.receiver.told) →
      Gains i s.dues ds [] (size_of (posted_at s.receiver.posted s.receiver.told) ∷ []) [] →
      IsKept i (record s { receiver = record s.receiver { told = suc s.receiver.told; known = 0; spent = 0; waits = 0 }; dues = ds }) c sent open'
  read_tells ds live acted even known g =
      let size : ℕ = size_of (posted_at s.receiver.posted s.receiver.told) in
      let w = h.counts.acted_within in
      let untold : s.receiver.told < length s.receiver.posted = omega (arith, w, acted) in
      let last : IsLast (s.receiver.told / 2) = untold_read s.receiver.told live (omega arith) untold even copied_within in
      let fetched = fetches_as i s.dues ds [] (size ∷ []) [] g in
      let freed = frees_as i s.dues ds [] (size ∷ []) [] g in
      let bodied = bodies_as i s.dues ds [] (size ∷ []) [] g in
      let slotted = slots_as i s.dues ds [] (size ∷ []) [] g in
      let told = h.counts.bodies_told live in
      record {
        letters = h.letters;
        unoffered = h.unoffered;
        number = h.number;
        plain = h.plain;
        sends = h.sends;
        messages = messages_as ds (size ∷ []) [] g;
        places = places_as ds (size ∷ []) [] g;
        queue = h.queue;
        counts = record {
          acted_within = h.counts.acted_within;
          told_within = omega (arith, untold);
          told_acted = λ live'. omega (arith, acted);
          over = λ gone. let no_end : true ≡ false = sym gone ∙ live in cc;
          reads_posted = rw fetched h.counts.reads_posted;
          frees_posted = rw freed h.counts.frees_posted;
          bodies_posted = omega (arith, bodied, told, untold, even);
          bodies_told = λ live'. omega (arith, bodied, told, even);
          slot_freed = let f = h.counts.slot_freed in omega (arith, slotted, f);
        };
        slot = slot_as ds g.fetches_same;
        offers = record { offers_acted = h.offers.offers_acted; offers_true = not_yet_told h.offers.offers_true };
        landing = record {
          nothing_known = λ all. refl;
          landing = λ live' even'. absurd (omega (arith, even, even'));
          bodies_hold = λ l there.
              let there' : slice_get (long_letters sent) (s.receiver.told / 2) ≡ Some l = ap (λ (q : ℕ). slice_get (long_letters sent) q) (sym last.reads_are) ∙ there in
              let long : size ≡ length l.body = read_size i s.receiver.posted sent s.receiver.told l h.queue untold even there' in
              let whole : cut landing_offset size s.landed ≡ l.body =
              ap (λ (n : ℕ). cut landing_offset n s.landed) (sym known) ∙ (h.landing.landing live even l there' ∙ take_whole s.receiver.known l.body (omega (arith, known, long))) in
              All-same (λ n. (n ≡ length l.body) × (cut landing_offset n s.landed ≡ l.body)) (bodies i ds) (bodies i s.dues ++ size ∷ []) g.bodies_more
              (All-push (λ n. (n ≡ length l.body) × (cut landing_offset n s.landed ≡ l.body)) (bodies i s.dues) size (h.landing.bodies_hold l there) (long, whole));
        };
        arrived = h.arrived;
        waits_open = h.waits_open;
      }

  -- ---- a Send of no bytes is told

  pub free_tells : s.receiver.ended ≡ false → s.receiver.told < s.receiver.acted → s.receiver.told % 2 ≡ 1 →
      IsKept i (record s { receiver = record s.receiver { told = suc s.receiver.told; known = 0; spent = 0; waits = 0 } }) c sent open'
  free_tells live acted odd =
      let w = h.counts.acted_within in
      let told = h.counts.bodies_told live in
      record {
        letters = h.letters;
        unoffered = h.unoffered;
        number = h.number;
        plain = h.plain;
        sends = h.sends;
        messages = h.messages;
        places = h.places;
        queue = h.queue;
        counts = record {
          acted_within = h.counts.acted_within;
          told_within = omega (arith, w, acted);
          told_acted = λ live'. omega (arith, acted);
          over = λ gone. let no_end : true ≡ false = sym gone ∙ live in cc;
          reads_posted = h.counts.reads_posted;
          frees_posted = h.counts.frees_posted;
          bodies_posted = h.counts.bodies_posted;
          bodies_told = λ live'. omega (arith, told, odd);
          slot_freed = h.counts.slot_freed;
        };
        slot = h.slot;
        offers = record { offers_acted = h.offers.offers_acted; offers_true = not_yet_told h.offers.offers_true };
        landing = record {
          nothing_known = λ all. refl;
          landing = λ live' even' l there. cut_nothing landing_offset s.landed;
          bodies_hold = h.landing.bodies_hold;
        };
        arrived = h.arrived;
        waits_open = h.waits_open;
      }
