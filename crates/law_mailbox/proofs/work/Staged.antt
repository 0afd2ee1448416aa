-- A letter that is stored: its body in the slot, where it is to be fetched, and its message in the staging bytes.
use Rattle.std.proofs.Common.{arith, ◌≡◌, ℕ, zero, suc, ◌+◌, ◌/◌, ◌%◌, ◌^◌, ◌<◌, ◌≤◌, List, [], ◌∷◌, ◌++◌, length, true, false, Bool, refl, sym, subst, ap, ◌∙◌, Some, None, Option, length-append, ltb-false, leb-false}
use Rattle.std.specs.Int.{byte_at, bytes_high_first}
use Rattle.std.specs.Prelude.{All, bytes_eq, if◌then◌else◌, is_some, slice_get, ◌-◌, not, nat_le, nat_lt, ◌&&◌, ◌||◌}
use Rattle.std.proofs.lemmas.List.Elements.{All-append, All-cons, All-nil}
use Rattle.rdma_types.specs.Limits.{most_bytes}
use Rattle.rdma_types.specs.Memory.{cut, put}
use Rattle.protocol.specs.Bytes.{big_bytes}
use Rattle.protocol.specs.WorldStep.{carried_image}
use Rattle.protocol.specs.declared.images.ContextImage.{ContextImage}
use Rattle.rdma_types.specs.Lists.{first_that}
use Rattle.packetless_machine.specs.Machine.{Machine}
use Rattle.packetless_machine.specs.Verbs.{region_of}
use Rattle.law_simulation.specs.Named.{EventsFollowByName}
use Rattle.mailbox_rules.specs.declared.faults.MailFault.{MailFault}
use Rattle.mailbox_rules.specs.declared.faults.MailFault.TheVariants as fault
use Rattle.mailbox_rules.specs.declared.letters.Header.{Header}
use Rattle.mailbox_rules.specs.declared.letters.Letter.{Letter}
use Rattle.mailbox_rules.specs.Calls.{header_for, is_full, message_of, send_fault, staged, storing, untold_at}
use Rattle.mailbox_rules.specs.Histories.{Turn}
use Rattle.mailbox_rules.specs.Letters.{header_bytes, is_rendezvous}
use Rattle.mailbox_rules.specs.Opening.{depth, place_bytes, receiver, sender_region, slot_address, staging_address}
use Rattle.mailbox_rules.specs.State.{Channel, Mail, channel, context_at, is_away, is_sender, or_fresh}
use Rattle.mailbox_rules.specs.Wanting.{AllStored, BodyStored, IsPartlyStored, NotStored}
use Rattle.mailbox_rules.specs.Working.{asking, begun, most_steps, worked, working}
use Rattle.law_mailbox.specs.Calls.{StoresAreKept}
use Rattle.law_mailbox.specs.Held.{IsHeld, MayBeSent}
use Rattle.law_mailbox.specs.Kept.{slot_offset}
use Rattle.law_mailbox.proofs.connection.Bytes.{cut_behind, cut_joined, cut_nothing}
use Rattle.law_mailbox.proofs.work.Channels.{IsSender, sender_is}
use Rattle.law_mailbox.proofs.work.PostedAs.{IsHeldAs, IsPostedAs, as_itself, like_as}
use Rattle.law_mailbox.proofs.work.Stored.{IsStoredAt, store_held}
use Rattle.law_mailbox.proofs.connection.Storing.{IsLikeMachine, like_both, like_machine_itself, standing_stays}
use Rattle.law_mailbox.proofs.work.Worked.{works_kept}

-- ---- why a letter may be sent

pub record MaySend (m : Mail) (i : ℕ) (body : List ℕ) : Type 0 where
  pub there : is_sender m i ≡ true
  pub short : length body ≤ most_bytes
  pub home : is_away m.world i ≡ false
  pub lives : (channel m i).sender_ended ≡ false
  pub few : untold_at m.world i < depth
  pub free : is_rendezvous body ≡ true → (channel m i).slot_in_use ≡ false

neither : (a b : Bool) → (a || b) ≡ false → (a ≡ false) × (b ≡ false)
neither true b h = cc
neither false b h = (refl, h)

not_both : (a b : Bool) → (a && b) ≡ false → a ≡ true → b ≡ false
not_both true b h e = h
not_both false b h e = cc

no_fault : (a b c d e : Bool) → ◌≡◌ {A = Option MailFault} (if not a then Some fault.NoSender else if b then Some fault.TooLong else if c then Some fault.Moving else if d then Some fault.Ended else if e then Some fault.Full else None) None →
    (a ≡ true) × (b ≡ false) × (c ≡ false) × (d ≡ false) × (e ≡ false)
no_fault false b c d e h = cc
no_fault true true c d e h = cc
no_fault true false true d e h = cc
no_fault true false false true e h = cc
no_fault true false false false true h = cc
no_fault true false false false false h = (refl, refl, refl, refl, refl)

pub may_send : (m : Mail) (i : ℕ) (body : List ℕ) → send_fault m i body ≡ None → MaySend m i body
may_send m i body h =
    let f = no_fault (is_sender m i) (nat_lt most_bytes (length body)) (is_away m.world i) (channel m i).sender_ended (is_full m i body) h in
    let full = neither (nat_le depth (untold_at m.world i)) (is_rendezvous body && (channel m i).slot_in_use) f.4 in
    record {
      there = f.0;
      short = ltb-false most_bytes (length body) f.1;
      home = f.2;
      lives = f.3;
      few = leb-false depth (untold_at m.world i) full.0;
      free = not_both (is_rendezvous body) (channel m i).slot_in_use full.1;
    }

-- ---- the bytes of a message

low_byte : (x : ℕ) → x % 256 < 256
low_byte x = omega arith

byte_said : (k n : ℕ) → byte_at k n < 256
byte_said zero n = low_byte n
byte_said (suc k) n = low_byte (n / 256 ^ suc k)

bytes_said : (k n : ℕ) → All (λ b. b < 256) (bytes_high_first k n)
bytes_said zero n = All-nil (λ b. b < 256)
bytes_said (suc k) n = All-cons (λ b. b < 256) (byte_at k n) (bytes_high_first k n) (byte_said k n) (bytes_said k n)

big_said : (n : ℕ) → All (λ b. b < 256) (big_bytes 4 n)
unfolding big_bytes
big_said n = bytes_said 4 n

kind_said : (b : Bool) → (if b then 2 else 1) < 256
kind_said true = omega arith
kind_said false = omega arith

header_said : (h : Header) → All (λ b. b < 256) (header_bytes h)
unfolding header_bytes
header_said h =
    let keyed : List ℕ = big_bytes 4 h.tag ++ (big_bytes 4 h.length ++ big_bytes 4 h.rkey) in
    All-cons (λ b. b < 256) (if h.fetched then 2 else 1) (0 ∷ 0 ∷ 0 ∷ keyed) (kind_said h.fetched)
    (All-cons (λ b. b < 256) 0 (0 ∷ 0 ∷ keyed) (omega arith) (All-cons (λ b. b < 256) 0 (0 ∷ keyed) (omega arith) (All-cons (λ b. b < 256) 0 keyed (omega arith)
    (All-append (λ b. b < 256) (big_bytes 4 h.tag) (big_bytes 4 h.length ++ big_bytes 4 h.rkey) (big_said h.tag) (All-append (λ b. b < 256) (big_bytes 4 h.length) (big_bytes 4 h.rkey) (big_said h.length) (big_said h.rkey))))))

pub message_said : (i : ℕ) (l : Letter) → MayBeSent l → All (λ b. b < 256) (message_of i l)
message_said i l may = All-append (λ b. b < 256) (header_bytes (header_for i l)) (if is_rendezvous l.body then [] else l.body) (header_said (header_for i l)) (by (is_rendezvous l.body))
  where
    by : (b : Bool) → All (λ b. b < 256) (if b then [] else l.body)
    by true = All-nil (λ b. b < 256)
    by false = may.bytes

header_long : (h : Header) → length (header_bytes h) ≡ 16
unfolding header_bytes big_bytes
header_long h = refl

pub message_fits : (i : ℕ) (l : Letter) → length (message_of i l) ≤ place_bytes
message_fits i l =
    let behind : length (if is_rendezvous l.body then [] else l.body) ≤ 4080 = by (is_rendezvous l.body) refl in
    omega (arith, behind, header_long (header_for i l), length-append (header_bytes (header_for i l)) (if is_rendezvous l.body then [] else l.body))
  where
    by : (b : Bool) → is_rendezvous l.body ≡ b → length (if b then [] else l.body) ≤ 4080
    by true e = omega arith
    by false e = ltb-false 4080 (length l.body) e

-- ---- bytes that were put

cut_put : (xs : List ℕ) (a n : ℕ) (new : List ℕ) → n ≡ length new → a ≤ length xs → cut a n (put xs a new) ≡ new
cut_put xs a n new e within =
    let at : a + 0 ≡ a = omega arith in
    let long : 0 + length new ≡ n = omega (arith, e) in
    ap (λ (k : ℕ). cut a k (put xs a new)) (sym long)
    ∙ (ap (λ (b : ℕ). cut a (0 + length new) (put xs b new)) (sym at)
    ∙ (cut_joined xs a 0 new (omega (arith, within)) ∙ ap (λ (bs : List ℕ). bs ++ new) (cut_nothing a xs)))

-- a context is carried where the same images are
pub away_same : (m m' : Mail) (n : ℕ) → m'.world.carried ≡ m.world.carried → is_away m'.world n ≡ is_away m.world n
unfolding carried_image
away_same m m' n same = ap (λ (cs : List ContextImage). is_some (first_that (λ c. bytes_eq c.name (context_at n)) cs)) same

pub channel_same : (m m' : Mail) (i : ℕ) → m'.channels ≡ m.channels → channel m' i ≡ channel m i
channel_same m m' i same = ap (λ (cs : List Channel). or_fresh (slice_get cs (i - 1))) same

-- ---- a letter that is stored

-- the letter is stored: its message in the staging bytes, and a body that is to be fetched in the slot
pub record IsStaged (peers : ℕ) (ts : List Turn) (machine : Machine) (m m' : Mail) (i : ℕ) (l : Letter) : Type 0 where
  pub held : IsHeld peers ts m'
  pub like : IsLikeMachine machine held.machine
  pub message : cut 0 (length (message_of i l)) (region_of held.machine (sender_region i)).bytes ≡ message_of i l
  pub body : is_rendezvous l.body ≡ true → cut slot_offset (length l.body) (region_of held.machine (sender_region i)).bytes ≡ l.body
  pub channels : m'.channels ≡ m.channels
  pub carried : m'.world.carried ≡ m.world.carried

module _ (follow : EventsFollowByName) (peers : ℕ) (small : peers ≤ 8) (ts : List Turn) (m : Mail) (h : IsHeld peers ts m) (i : ℕ) (low : 1 ≤ i) (high : i ≤ peers) (l : Letter) (may : MayBeSent l) (free : MaySend m i l.body) where
  -- its body alone
  pub body_stored : is_rendezvous l.body ≡ true → IsStoredAt peers ts h.machine m (storing m i slot_address l.body) i (put (region_of h.machine (sender_region i)).bytes slot_offset l.body)
  body_stored long =
      let short = free.short in
      store_held follow peers small ts m h i low high free.home slot_address slot_offset l.body refl (omega (arith, short)) may.bytes
      (λ used. let no : true ≡ false = sym used ∙ free.free long in cc)

  -- its message, behind the body
  message_stored : (m1 : Mail) (h1 : IsHeld peers ts m1) → m1.channels ≡ m.channels → m1.world.carried ≡ m.world.carried →
      IsStoredAt peers ts h1.machine m1 (storing m1 i staging_address (message_of i l)) i (put (region_of h1.machine (sender_region i)).bytes 0 (message_of i l))
  message_stored m1 h1 channels carried =
      let fits = message_fits i l in
      store_held follow peers small ts m1 h1 i low high (away_same m m1 i carried ∙ free.home) staging_address 0 (message_of i l) refl (omega (arith, fits)) (message_said i l may)
      (λ used n. cut_behind (region_of h1.machine (sender_region i)).bytes slot_offset n 0 (message_of i l) (omega (arith, fits)) (omega arith))

  -- .. where the body is in the slot
  both_stored : (m1 : Mail) (h1 : IsHeld peers ts m1) → IsLikeMachine h.machine h1.machine → m1.channels ≡ m.channels → m1.world.carried ≡ m.world.carried →
      (is_rendezvous l.body ≡ true → cut slot_offset (length l.body) (region_of h1.machine (sender_region i)).bytes ≡ l.body) → IsStaged peers ts h.machine m (storing m1 i staging_address (message_of i l)) i l
  both_stored m1 h1 like channels carried body =
      let s = message_stored m1 h1 channels carried in
      let fits = message_fits i l in
      record {
        held = s.held;
        like = like_both h.machine h1.machine s.held.machine like s.like;
        message = ap (λ (bs : List ℕ). cut 0 (length (message_of i l)) bs) s.bytes ∙ cut_put (region_of h1.machine (sender_region i)).bytes 0 (length (message_of i l)) (message_of i l) refl (omega arith);
        body = λ long. ap (λ (bs : List ℕ). cut slot_offset (length l.body) bs) s.bytes ∙ (cut_behind (region_of h1.machine (sender_region i)).bytes slot_offset (length l.body) 0 (message_of i l) (omega (arith, fits)) (omega arith) ∙ body long);
        channels = s.channels ∙ channels;
        carried = s.carried ∙ carried;
      }

  pub is_staged : IsStaged peers ts h.machine m (staged m i l) i l
  is_staged = by (is_rendezvous l.body) refl
    where
      by : (b : Bool) → is_rendezvous l.body ≡ b → IsStaged peers ts h.machine m (storing (if b then storing m i slot_address l.body else m) i staging_address (message_of i l)) i l
      by true long =
          let s = body_stored long in
          let is = (h.all.opened i low high).sender_region_is in
          let whole = is.whole in
          let short = free.short in
          both_stored (storing m i slot_address l.body) s.held s.like s.channels s.carried
          (λ e. ap (λ (bs : List ℕ). cut slot_offset (length l.body) bs) s.bytes ∙ cut_put (region_of h.machine (sender_region i)).bytes slot_offset (length l.body) l.body refl (omega (arith, whole)))
      by false short = both_stored m h (like_machine_itself h.machine) refl refl (λ e. let no : true ≡ false = sym e ∙ short in cc)

-- ---- the law

pub is_worked : (m : Mail) → working m ≡ (worked most_steps (begun m)).mail
unfolding working
is_worked m = refl

pub worked_before : EventsFollowByName → (peers : ℕ) → peers ≤ 8 → (ts : List Turn) (m : Mail) → IsHeld peers ts m → IsHeld peers ts (working m)
worked_before follow peers small ts m h = subst (λ (n : Mail). IsHeld peers ts n) (sym (is_worked m)) (works_kept follow peers small ts m most_steps h)

pub sender_among : (peers : ℕ) (ts : List Turn) (m : Mail) (i : ℕ) → IsHeld peers ts m → is_sender m i ≡ true → (1 ≤ i) × (i ≤ peers)
sender_among peers ts m i h there = let s : IsSender m i = sender_is m i there in (s.from_one, subst (λ (n : ℕ). i ≤ n) h.senders s.within)

staged_owed : (m : Mail) (i : ℕ) (l : Letter) → (staged m i l).owed ≡ m.owed
unfolding asking
staged_owed m i l = by (is_rendezvous l.body)
  where
    by : (b : Bool) → (if b then storing m i slot_address l.body else m).owed ≡ m.owed
    by true = refl
    by false = refl

storing_owed : (m : Mail) (i address : ℕ) (bytes : List ℕ) → (storing m i address bytes).owed ≡ m.owed
unfolding asking
storing_owed m i address bytes = refl

pub staged_as : (peers : ℕ) (ts : List Turn) (m : Mail) (machine : Machine) (i : ℕ) (l : Letter) (s : IsStaged peers ts machine m (staged m i l) i l) (q : ℕ) → IsPostedAs q m (staged m i l) machine s.held.machine
staged_as peers ts m machine i l s q = like_as m (staged m i l) machine s.held.machine s.like s.channels (staged_owed m i l) q

pub stored_as : EventsFollowByName → (peers : ℕ) → peers ≤ 8 → (ts : List Turn) (m : Mail) (i : ℕ) (l : Letter) {m' : Mail} → MayBeSent l → (h : IsHeld peers ts m) → MaySend m i l.body → IsPartlyStored m i l m' → IsHeldAs peers ts m m' h.machine
stored_as follow peers small ts m i l may h free NotStored = record { held = h; as_posted = λ q low high. as_itself q m h.machine; standing_same = refl }
stored_as follow peers small ts m i l may h free (BodyStored long) =
    let among = sender_among peers ts m i h free.there in
    let s = body_stored follow peers small ts m h i among.0 among.1 l may free long in
    record {
      held = s.held;
      as_posted = λ q low high. like_as m (storing m i slot_address l.body) h.machine s.held.machine s.like s.channels (storing_owed m i slot_address l.body) q;
      standing_same = standing_stays h.machine s.held.machine s.like receiver;
    }
stored_as follow peers small ts m i l may h free AllStored =
    let among = sender_among peers ts m i h free.there in
    let s = is_staged follow peers small ts m h i among.0 among.1 l may free in
    record { held = s.held; as_posted = λ q low high. staged_as peers ts m h.machine i l s q; standing_same = standing_stays h.machine s.held.machine s.like receiver }

pub stores_kept : EventsFollowByName → StoresAreKept
stores_kept follow peers small ts m i l m' may h fault stored = (stored_as follow peers small ts (working m) i l may (worked_before follow peers small ts m h) (may_send (working m) i l.body fault) stored).held
