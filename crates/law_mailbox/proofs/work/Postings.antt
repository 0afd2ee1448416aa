-- Reads and Sends of no bytes that are due are posted.
use Rattle.std.proofs.Common.{arith, ◌≡◌, ℕ, ◌+◌, ◌-◌, ◌%◌, ◌≤◌, List, [], ◌∷◌, ◌++◌, length, true, false, Bool, refl, sym, subst, ap, ◌∙◌, Some, None, Option, get_or, length-append, le-ltb, le-leb, eq-eqb}
use Rattle.std.specs.Prelude.{All, bytes_eq, is_some, nat_le, nat_lt, not, if◌then◌else◌, ◌&&◌, ◌||◌, ◌==◌}
use Rattle.std.proofs.lemmas.Bool.{lt-leb}
use Rattle.std.proofs.lemmas.List.Elements.{All-head}
use Rattle.std.proofs.lemmas.Option.{same_Some, slice_get-get_or}
use Rattle.rdma_types.specs.declared.answers.Answer.{Answer}
use Rattle.rdma_types.specs.declared.answers.Answer.TheVariants as answers
use Rattle.rdma_types.specs.declared.answers.Refusal.{Refusal}
use Rattle.rdma_types.specs.declared.answers.Refusal.TheVariants as refusals
use Rattle.rdma_types.specs.declared.names.Name.{Name}
use Rattle.rdma_types.specs.declared.names.ObjName.{ObjName}
use Rattle.rdma_types.specs.declared.requests.Keys.{Keys}
use Rattle.rdma_types.specs.declared.rights.Rights.{Rights}
use Rattle.rdma_types.specs.declared.requests.Kind.TheVariants as kind
use Rattle.rdma_types.specs.declared.requests.Request.{Request}
use Rattle.rdma_types.specs.declared.verbs.Verb.TheVariants as verbs
use Rattle.rdma_types.specs.Causes.{Cause, cause, first_cause}
use Rattle.rdma_types.specs.Limits.{most_bytes}
use Rattle.rdma_types.specs.Lists.{first_that, has_name, named}
use Rattle.rdma_types.specs.Memory.{LocalWrite, NoRight, Right, allows, granted, grants, holds, is_granted, landing_right, local_key}
use Rattle.rdma_types.specs.Objects.{Region, no_region}
use Rattle.rdma_types.proofs.Tables.{same_name}
use Rattle.packetless_machine.specs.Machine.{Machine, end_of, regions_of, untold_count}
use Rattle.packetless_machine.specs.Verbs.{after_answer, answered, is_full, is_local_granted, refusal_of, region_of, verb_answer}
use Rattle.protocol.specs.declared.events.Event.TheVariants as events
use Rattle.protocol.specs.declared.events.WorldEvent.TheVariants as world_events
use Rattle.protocol.specs.DeviceStep as device
use Rattle.protocol.specs.DeviceStep.{device_step}
use Rattle.protocol.specs.Memory.{free_pages, pages_of_request}
use Rattle.protocol.specs.Refusals as refusing
use Rattle.protocol.specs.State.{Context, Device, End, Link, World, context_at, end_at}
use Rattle.protocol.specs.WorldStep as step
use Rattle.protocol.specs.WorldStep.{home, is_live, ran, world_step}
use Rattle.law_simulation.specs.Kept.{is_unmade, is_unmade_by}
use Rattle.law_simulation.specs.Law.{IsRequestInRange}
use Rattle.law_simulation.specs.Named.{EventsFollowByName}
use Rattle.law_simulation.specs.Stands.{Stands}
use Rattle.law_simulation.proofs.relation.Verbs.{causes_are, stepped_at}
use Rattle.law_simulation.proofs.relation.Worlds.{home_holds}
use Rattle.mailbox_rules.specs.declared.due.Fetch.{Fetch}
use Rattle.mailbox_rules.specs.declared.letters.Letter.{Letter}
use Rattle.mailbox_rules.specs.Histories.{Placed, placed_letters, sent_letters}
use Rattle.mailbox_rules.specs.Opening.{domain_name, landing_address, queue_name, receiver, receiver_end, receiver_key, receiver_region, sender_remote_key, slot_address}
use Rattle.mailbox_rules.specs.State.{Channel, Mail, channel, is_away}
use Rattle.mailbox_rules.specs.Working.{asking, is_too_many, request}
use Rattle.law_mailbox.specs.Headers.{IsLetter}
use Rattle.law_mailbox.specs.Kept.{IsKept, IsOpened, Sight, fetches, last_long, long_letters, sight_of}
use Rattle.law_mailbox.proofs.work.Asking.{Asks, Made, Unmade, asks, lives}
use Rattle.law_mailbox.proofs.work.DueSteps.{is_fetched, send_verb}
use Rattle.law_mailbox.proofs.connection.Places.{all_at, all_back, copied_long}
use Rattle.law_mailbox.proofs.connection.Requests.{IsLong, long_from}
use Rattle.law_mailbox.proofs.connection.Sights.{context_there}
use Rattle.law_mailbox.specs.Postings.{IsMade, IsPosted, PostingsAreMade, UsedUp}

-- ---- a posting that takes no pages counts as not made only where the packet numbers are used up

-- where this cause holds, and counts as not made, the packet numbers are used up
record IsFine (c : Cause) : Type 0 where
  fine : c.holds ≡ true → is_unmade_by c.refusal ≡ true → is_too_many (answers.Refused c.refusal) ≡ true

abbrev AreFine : List Cause → Type 0
AreFine [] = Unit {0}
AreFine (c ∷ cs) = IsFine c × AreFine cs

first_fine : (cs : List Cause) → AreFine cs → (r : Refusal) → first_cause cs ≡ Some r → is_unmade_by r ≡ true → is_too_many (answers.Refused r) ≡ true
unfolding first_cause
first_fine [] all r e unmade = cc
first_fine (c ∷ cs) all r e unmade = by c.holds refl (first_fine cs all.1) e
  where
    by : (b : Bool) → c.holds ≡ b → ((x : Refusal) → first_cause cs ≡ Some x → is_unmade_by x ≡ true → is_too_many (answers.Refused x) ≡ true) → (if b then Some c.refusal else first_cause cs) ≡ Some r → is_too_many (answers.Refused r) ≡ true
    by true holds rest f =
        let same : c.refusal ≡ r = same_Some c.refusal r f in
        subst (λ (x : Refusal). is_too_many (answers.Refused x) ≡ true) same (all.0.fine holds (subst (λ (x : Refusal). is_unmade_by x ≡ true) (sym same) unmade))
    by false holds rest f = rest r f unmade

-- a cause that does not hold
never : (r : Refusal) (b : Bool) → b ≡ false → IsFine (cause r b)
never r b e = record { fine = λ holds unmade. let f : true ≡ false = sym holds ∙ e in cc }

-- a refusal that counts as made
made : (r : Refusal) (b : Bool) → is_unmade_by r ≡ false → IsFine (cause r b)
made r b e = record { fine = λ holds unmade. let f : true ≡ false = sym unmade ∙ e in cc }

used_up : (b : Bool) → IsFine (cause refusals.TooMany b)
used_up b = record { fine = λ holds unmade. refl }

no_pages : (d : Device) (c : Context) (e : End) (r : Request) → pages_of_request c r ≡ 0 → refusing.lacks_pages d c e r ≡ false
no_pages d c e r none = rw (none, le-ltb (free_pages d) 0 (omega arith)) (neither (not (Rattle.protocol.specs.EndWords.is_in_error e.link)))
  where
    neither : (b : Bool) → (b && false) ≡ false
    neither true = refl
    neither false = refl

no_pages_there : (w : World) (o : ObjName) (r : Request) → ((c : Context) → pages_of_request c r ≡ 0) → refusing.lacks_pages (home w o.context) (context_at (home w o.context) o.context) (end_at (context_at (home w o.context) o.context) o.name) r ≡ false
no_pages_there w o r none = let d : Device = home w o.context in let c : Context = context_at d o.context in no_pages d c (end_at c o.name) r (none c)

module _ (w : World) (o : ObjName) (r : Request) (live : is_live w o.context ≡ true) (paged : refusing.lacks_pages (home w o.context) (context_at (home w o.context) o.context) (end_at (context_at (home w o.context) o.context) o.name) r ≡ false) where
  causes_fine : AreFine (refusing.causes_of (home w o.context) (events.PostSend o r))
  unfolding is_unmade_by
  causes_fine =
      let here : not (refusing.has_context (home w o.context) o.context) ≡ false = ap not (home_holds w o.context live) in (
        made refusals.NoSuch _ refl,
        (
          never refusals.Stopped _ here,
          (
            made refusals.NoSuch _ refl,
            (
              used_up _,
              (
                made refusals.BadState _ refl,
                (made refusals.TooLong _ refl, (made refusals.BadKey _ refl, (made refusals.SqFull _ refl, (made refusals.CqFull _ refl, (never refusals.NoPage _ paged, tt))))),
              ),
            ),
          ),
        ),
      )

  is_stepped : world_step w (world_events.At (events.PostSend o r)) ≡ ran w (device_step (home w o.context) (events.PostSend o r))
  is_stepped = stepped_at w (events.PostSend o r) None (causes_are w o.context ∙ rw live refl)

  done_is : (d : Device) (c : Context) (e : End) (l : Option Link) → (ran w (device.posts_at d c e l r)).answer ≡ answers.Done
  unfolding ran step.numbered
  done_is d c e None = refl
  done_is d c e (Some l) = refl

  by_cause : (x : Option Refusal) → refusing.refusal_of (home w o.context) (events.PostSend o r) ≡ x → is_unmade (ran w (device.by_refusal (home w o.context) (events.PostSend o r) x)).answer ≡ true →
      is_too_many (ran w (device.by_refusal (home w o.context) (events.PostSend o r) x)).answer ≡ true
  unfolding refusing.refusal_of ran step.numbered is_unmade device.posts
  by_cause (Some q) e unmade = first_fine (refusing.causes_of (home w o.context) (events.PostSend o r)) causes_fine q e unmade
  by_cause None e unmade =
      let d : Device = home w o.context in
      let c : Context = context_at d o.context in
      let x : End = end_at c o.name in
      let no : is_unmade answers.Done ≡ true = subst (λ (a : Answer). is_unmade a ≡ true) (done_is d c x x.link) unmade in
      cc

  pub unmade_is_used_up : is_unmade (world_step w (world_events.At (events.PostSend o r))).answer ≡ true → is_too_many (world_step w (world_events.At (events.PostSend o r))).answer ≡ true
  unfolding device_step
  unmade_is_used_up unmade =
      subst (λ (s : step.Step). is_too_many s.answer ≡ true) (sym is_stepped)
      (by_cause (refusing.refusal_of (home w o.context) (events.PostSend o r)) refl (subst (λ (s : step.Step). is_unmade s.answer ≡ true) is_stepped unmade))

-- ---- the machine refuses neither

pub some_granted : (key_of : Region → ℕ) (domain : Name) (key at count : ℕ) (right : Right) (n : Name) (rs : List Region) → has_name (λ r. r.name) n rs ≡ true → grants key_of domain key at count right (named (λ r. r.name) no_region n rs) ≡ true →
    is_some (first_that (grants key_of domain key at count right) rs) ≡ true
unfolding has_name named first_that
some_granted key_of domain key at count right n [] there g = cc
some_granted key_of domain key at count right n (r ∷ rs) there g = by (grants key_of domain key at count right r) refl (bytes_eq r.name n) (some_granted key_of domain key at count right n rs) there g
  where
    by : (t : Bool) → grants key_of domain key at count right r ≡ t → (b : Bool) →
        (has_name (λ x. x.name) n rs ≡ true → grants key_of domain key at count right (named (λ x. x.name) no_region n rs) ≡ true → is_some (first_that (grants key_of domain key at count right) rs) ≡ true) →
        (b || has_name (λ x. x.name) n rs) ≡ true → grants key_of domain key at count right (if b then r else named (λ x. x.name) no_region n rs) ≡ true → is_some (if t then Some r else first_that (grants key_of domain key at count right) rs) ≡ true
    by true e b rest f k = refl
    by false e true rest f k = let no : true ≡ false = sym k ∙ e in cc
    by false e false rest f k = rest f k

-- no cause of refusing a request holds
pub none_holds : (a b c d e f g : Bool) → a ≡ false → b ≡ false → c ≡ false → d ≡ false → e ≡ false → f ≡ false → g ≡ false →
    first_cause (cause refusals.NoSuch a ∷ cause refusals.NoSuch b ∷ cause refusals.BadState c ∷ cause refusals.TooLong d ∷ cause refusals.BadKey e ∷ cause refusals.SqFull f ∷ cause refusals.CqFull g ∷ []) ≡ None
unfolding first_cause
none_holds a b c d e f g p q r s t u v = rw (p, q, r, s, t, u, v) refl

pub and_both : (a b : Bool) → a ≡ true → b ≡ true → (a && b) ≡ true
and_both true b e f = f
and_both false b e f = cc

module _ (machine : Machine) (j : ℕ) (opened : IsOpened machine j) where
  granted_there : (n : ℕ) → n ≤ most_bytes → is_local_granted machine (receiver_end j) (receiver_key j) (landing_address j) n LocalWrite ≡ true
  unfolding is_local_granted is_granted granted grants allows holds region_of
  granted_there n fits =
      let is = opened.receiver_region_is in
      let begins = is.begins in
      let long = is.long in
      let r : Region = region_of machine (receiver_region j) in
      let domain : bytes_eq r.domain domain_name ≡ true = ap (λ (d : Name). bytes_eq d domain_name) is.domain ∙ same_name domain_name in
      let key : (r.keys.local == receiver_key j) ≡ true = eq-eqb r.keys.local (receiver_key j) (ap (λ (k : Keys). k.local) is.keyed) in
      let right : (r.rights.0 % 2 == 1) ≡ true = ap (λ (x : Rights). x.0 % 2 == 1) is.granted in
      let low : nat_le r.base (landing_address j) ≡ true = le-leb r.base (landing_address j) (omega (arith, begins)) in
      let high : nat_le (landing_address j + n) (r.base + r.length) ≡ true = le-leb (landing_address j + n) (r.base + r.length) (omega (arith, begins, long, fits)) in
      let all : grants local_key domain_name (receiver_key j) (landing_address j) n LocalWrite (named (λ x. x.name) no_region (receiver_region j).name (regions_of machine receiver)) ≡ true = and_both _ _ domain (and_both _ _ key (and_both _ _ right (and_both _ _ low high))) in
      let some' = some_granted local_key domain_name (receiver_key j) (landing_address j) n LocalWrite (receiver_region j).name (regions_of machine receiver) opened.receiver_region_there all in
      subst (λ (d : Name). ((n == 0) || is_some (first_that (grants local_key d (receiver_key j) (landing_address j) n LocalWrite) (regions_of machine receiver))) ≡ true) (sym opened.receiver_joined.domain) (or_some (n == 0) _ some')
    where
      or_some : (a b : Bool) → b ≡ true → (a || b) ≡ true
      or_some true b e = refl
      or_some false b e = e

  module _ (room : is_full machine receiver queue_name ≡ false) (few : length (end_of machine (receiver_end j)).posted ≤ (end_of machine (receiver_end j)).told + 2) where
    few_untold : nat_le (end_of machine (receiver_end j)).send_depth (untold_count (end_of machine (receiver_end j))) ≡ false
    unfolding untold_count
    few_untold =
        let depth = opened.receiver_joined.send_depth in
        lt-leb (end_of machine (receiver_end j)).send_depth (length (end_of machine (receiver_end j)).posted - (end_of machine (receiver_end j)).told) (omega (arith, depth, few))

    has_room : is_full machine receiver (end_of machine (receiver_end j)).send_queue ≡ false
    has_room = ap (is_full machine receiver) opened.receiver_joined.send_queue ∙ room

    not_refused : (r : Request) → nat_lt most_bytes r.shape.length ≡ false → is_local_granted machine (receiver_end j) r.lkey r.local r.shape.length (landing_right r.shape.kind) ≡ true → refusal_of machine (verbs.PostSend (receiver_end j) r) ≡ None
    not_refused r short granted' =
        none_holds _ _ _ _ _ _ _ (ap not (context_there machine (receiver_end j) opened.receiver_there)) (ap not opened.receiver_there) (ap not opened.receiver_joined.connected) short (ap not granted') few_untold has_room

-- ---- the posting

module _ (follow : EventsFollowByName) (m : Mail) (machine : Machine) (j : ℕ) (opened : IsOpened machine j) (stands : Stands m.world machine) (here : is_away m.world 0 ≡ false) where
  live : is_live m.world receiver ≡ true
  live = lives m.world machine 0 stands (context_there machine (receiver_end j) opened.receiver_there) here

  is_made : (r : Request) → IsRequestInRange r → ((c : Context) → pages_of_request c r ≡ 0) → refusal_of machine (verbs.PostSend (receiver_end j) r) ≡ None → IsMade m machine j r
  unfolding asking
  is_made r range none granted' = by (asks follow m.world machine (events.PostSend (receiver_end j) r) (verbs.PostSend (receiver_end j) r) (send_verb (receiver_end j) r) (λ a. refl) range stands)
    where
      by : Asks m.world machine (events.PostSend (receiver_end j) r) (verbs.PostSend (receiver_end j) r) → IsMade m machine j r
      by (Unmade u x) = UsedUp (unmade_is_used_up m.world (receiver_end j) r live (no_pages_there m.world (receiver_end j) r none) u) x
      by (Made given a x) =
          let done : verb_answer machine (verbs.PostSend (receiver_end j) r) given ≡ answers.Done = ap (λ (o : Option Refusal). answered o machine (verbs.PostSend (receiver_end j) r) given) granted' in
          IsPosted (ap is_too_many (a ∙ done)) (subst (λ (o : Option Refusal). Stands (world_step m.world (world_events.At (events.PostSend (receiver_end j) r))).world (after_answer o machine (verbs.PostSend (receiver_end j) r) given)) granted' x)

no_read_pages : (c : Context) (lkey local length' remote rkey : ℕ) → pages_of_request c (request kind.Read lkey local length' remote rkey) ≡ 0
unfolding pages_of_request
no_read_pages c lkey local length' remote rkey = refl

no_free_pages : (c : Context) → pages_of_request c (request kind.Send 0 0 0 0 0) ≡ 0
unfolding pages_of_request
no_free_pages c = refl

free_granted : (machine : Machine) (o : ObjName) → is_local_granted machine o 0 0 0 NoRight ≡ true
unfolding is_local_granted is_granted
free_granted machine o = refl

-- a body that is due to be fetched is one of a letter
pub record IsFetchable (j : ℕ) (f : Fetch) : Type 0 where
  pub fits : f.length ≤ most_bytes
  pub key : f.rkey ≡ sender_remote_key j

pub fetchable : (j : ℕ) (s : Sight) (c : Channel) (sent : List Letter) (open' : List Placed) (f : Fetch) (front behind : List Fetch) → fetches j s.dues ≡ front ++ (f ∷ behind) → IsKept j s c sent open' → IsFetchable j f
fetchable j s c sent open' f front behind are h =
    let long : length (fetches j s.dues) ≡ length (front ++ (f ∷ behind)) = ap length are in
    let posted' = h.counts.reads_posted in
    let few = copied_long c.receives sent in
    let q : ℕ = length (long_letters sent) - 1 in
    let l : Letter = get_or (long_letters sent) (length (long_letters sent) - 1) (record { tag = 0; body = [] }) in
    let last : last_long sent ≡ Some (get_or (long_letters sent) (length (long_letters sent) - 1) (record { tag = 0; body = [] })) =
    slice_get-get_or (long_letters sent) (length (long_letters sent) - 1) (record { tag = 0; body = [] }) (omega (arith, long, posted', few, length-append front (f ∷ behind))) in
    let all : All (λ (x : Fetch). (x.length ≡ length l.body) × (x.rkey ≡ sender_remote_key j)) (front ++ (f ∷ behind)) =
    subst (All (λ (x : Fetch). (x.length ≡ length l.body) × (x.rkey ≡ sender_remote_key j))) are (h.slot.fetches_true l last) in
    let one = All-head (λ (x : Fetch). (x.length ≡ length l.body) × (x.rkey ≡ sender_remote_key j)) f behind (all_back (λ (x : Fetch). (x.length ≡ length l.body) × (x.rkey ≡ sender_remote_key j)) front (f ∷ behind) all) in
    let place : IsLong sent q l = long_from sent q l last in
    let size = one.0 in
    let body = (all_at IsLetter sent place.place l h.letters place.at).body_fits in
    record { fits = omega (arith, size, body); key = one.1 }

few_posted : (j : ℕ) (s : Sight) (c : Channel) (sent : List Letter) (open' : List Placed) → s.receiver.ended ≡ false → IsKept j s c sent open' → length s.receiver.posted ≤ s.receiver.told + 2
few_posted j s c sent open' live' h = let a = h.counts.frees_posted in let b = h.counts.bodies_told live' in omega (arith, a, b)

pub postings_made : EventsFollowByName → PostingsAreMade
postings_made follow peers small ts m machine j h =
    let opened = h.all.opened j h.from_one h.within in
    let kept : IsKept j (sight_of machine m.owed j) (channel m j) (sent_letters j ts) (placed_letters j ts) = h.all.kept j h.from_one h.within in
    let few = few_posted j (sight_of machine m.owed j) (channel m j) (sent_letters j ts) (placed_letters j ts) h.lives kept in
    let high = h.within in
    record {
      read = λ k f at.
          let g = is_fetched j m.owed (sight_of machine [] j).dues k f at in
          let can : IsFetchable j f = fetchable j (sight_of machine m.owed j) (channel m j) (sent_letters j ts) (placed_letters j ts) f g.fetch.front g.fetch.behind g.fetch.with_them kept in
          let key = can.key in
          let fits = can.fits in
          let r : Request = request kind.Read (receiver_key j) (landing_address j) f.length slot_address f.rkey in
          is_made follow m machine j opened h.stands h.here r (record { remote = omega arith; rkey = omega (arith, key, high, small); swap_add = omega arith; compare = omega arith; no_compare = λ e. refl; imm = tt; word = λ e. cc })
          (λ c. no_read_pages c (receiver_key j) (landing_address j) f.length slot_address f.rkey)
          (not_refused machine j opened h.room few r (le-ltb most_bytes f.length fits) (granted_there machine j opened f.length fits));
      free = λ k at.
          is_made follow m machine j opened h.stands h.here (request kind.Send 0 0 0 0 0) (record { remote = omega arith; rkey = omega arith; swap_add = omega arith; compare = omega arith; no_compare = λ e. refl; imm = tt; word = λ e. cc })
          no_free_pages (not_refused machine j opened h.room few (request kind.Send 0 0 0 0 0) refl (free_granted machine (receiver_end j)));
    }
