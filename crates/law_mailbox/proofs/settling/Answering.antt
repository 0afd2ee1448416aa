-- A letter's Send is answered Done, or refused since the packet numbers are used up.
use Rattle.std.proofs.Common.{arith, ◌≡◌, ℕ, ◌+◌, ◌<◌, ◌≤◌, List, [], ◌∷◌, length, map, true, false, Bool, refl, sym, subst, ap, ◌∙◌, Some, None, Option, ◌⊎◌, inl, inr, eq-eqb, le-leb, le-ltb, length-drop}
use Rattle.std.specs.Prelude.{bytes_eq, if◌then◌else◌, is_some, nat_le, not, option_map, slice_get, sum_by, ◌==◌, ◌||◌}
use Rattle.std.proofs.lemmas.Bool.{lt-leb}
use Rattle.std.proofs.lemmas.List.Sums.{sum_by-cons}
use Rattle.rdma_types.specs.declared.answers.Answer.TheVariants as answers
use Rattle.rdma_types.specs.declared.answers.Refusal.{Refusal}
use Rattle.rdma_types.specs.declared.names.Name.{Name}
use Rattle.rdma_types.specs.declared.names.ObjName.{ObjName}
use Rattle.rdma_types.specs.declared.requests.Keys.{Keys}
use Rattle.rdma_types.specs.declared.requests.Receive.{Receive}
use Rattle.rdma_types.specs.declared.verbs.Verb.TheVariants as verbs
use Rattle.rdma_types.specs.Limits.{most_bytes}
use Rattle.rdma_types.specs.Lists.{first_that, named}
use Rattle.rdma_types.specs.Memory.{NoRight, allows, granted, grants, holds, is_granted, local_key}
use Rattle.rdma_types.specs.Objects.{CompletionQueue, Region, no_queue, no_region}
use Rattle.rdma_types.proofs.Tables.{same_name}
use Rattle.protocol.specs.declared.events.WorldEvent.TheVariants as world_events
use Rattle.protocol.specs.Readers.{view_of}
use Rattle.protocol.specs.Refusals.{lacks_pages}
use Rattle.protocol.specs.State as state
use Rattle.protocol.specs.State.{Link, World, end_at}
use Rattle.protocol.specs.WorldStep.{home, is_live, live_context, world_step}
use Rattle.packetless_machine.specs.Machine.{End, Machine, context_of, end_of, has_context, nobody, queue_of, regions_of, reserved, reserved_by, untold_count, used_count}
use Rattle.packetless_machine.specs.Steps.{untold}
use Rattle.packetless_machine.specs.Verbs.{answered, is_full, is_local_granted, refusal_of, region_of}
use Rattle.law_simulation.specs.Named.{EventsFollowByName}
use Rattle.law_simulation.specs.Stands.{Stands}
use Rattle.law_simulation.specs.Views.{Owned, link_or_none, owned, owned_there}
use Rattle.law_simulation.proofs.relation.Live.{live_of, live_same}
use Rattle.mailbox_rules.specs.declared.letters.Letter.{Letter}
use Rattle.mailbox_rules.specs.Calls.{message_of, send_event, staged, untold_at, untold_in}
use Rattle.mailbox_rules.specs.Histories.{Turn}
use Rattle.mailbox_rules.specs.Opening.{depth, domain_name, end_name, place_bytes, queue_name, receiver, receiver_capacity, sender, sender_capacity, sender_end, sender_key, sender_region, staging_address}
use Rattle.mailbox_rules.specs.State.{Mail, is_away}
use Rattle.mailbox_rules.specs.Working.{asking, is_too_many}
use Rattle.law_mailbox.specs.Answered.{IsFurnished, Plan, SendsAreAnswered, plan_of}
use Rattle.law_mailbox.specs.Held.{IsHeld}
use Rattle.law_mailbox.specs.Kept.{IsOpened, standing}
use Rattle.law_mailbox.specs.Room.{load}
use Rattle.law_mailbox.proofs.work.Asking.{Asks, Made, Unmade, asks, lives}
use Rattle.law_mailbox.proofs.work.DueSteps.{send_verb}
use Rattle.law_mailbox.proofs.opening.Furnished.{has_pages}
use Rattle.law_mailbox.proofs.queue_room.Light.{unused_few}
use Rattle.law_mailbox.proofs.connection.Listed.{one_listed}
use Rattle.law_mailbox.proofs.opening.Furnishing.{furnished_machine}
use Rattle.law_mailbox.proofs.work.Postings.{and_both, none_holds, some_granted, unmade_is_used_up}
use Rattle.law_mailbox.proofs.work.Sent.{letter_request, send_in_range}
use Rattle.law_mailbox.proofs.connection.Sights.{context_there}
use Rattle.law_mailbox.proofs.work.Staged.{MaySend, away_same, is_staged, may_send, message_fits, sender_among}
use Rattle.law_mailbox.proofs.connection.Storing.{IsLikeMachine, standing_stays}
use Rattle.law_mailbox.proofs.work.Worked.{context_is}

-- ---- a sender's context

only_end : (m : Machine) (i : ℕ) → map (λ e. e.name) (context_of m (sender i)).ends ≡ end_name ∷ [] → (context_of m (sender i)).ends ≡ end_of m (sender_end i) ∷ []
unfolding end_of
only_end m i e = one_listed (λ x. x.name) (nobody (sender_end i)) end_name (context_of m (sender i)).ends e

only_queue : (m : Machine) (i : ℕ) → map (λ q. q.name) (context_of m (sender i)).queues ≡ queue_name ∷ [] → (context_of m (sender i)).queues ≡ queue_of m (sender i) queue_name ∷ []
unfolding queue_of
only_queue m i e = one_listed (λ x. x.name) no_queue queue_name (context_of m (sender i)).queues e

-- ---- the queue has room

module _ (m : Machine) (i : ℕ) (names : map (λ e. e.name) (context_of m (sender i)).ends ≡ end_name ∷ []) (queues : map (λ q. q.name) (context_of m (sender i)).queues ≡ queue_name ∷ []) (capacities : map (λ q. q.capacity) (context_of m (sender i)).queues ≡ sender_capacity ∷ []) where
  capacity_is : (queue_of m (sender i) queue_name).capacity ≡ sender_capacity
  capacity_is = let same : (queue_of m (sender i) queue_name).capacity ∷ [] ≡ sender_capacity ∷ [] = ap (λ (qs : List CompletionQueue). map (λ q. q.capacity) qs) (sym (only_queue m i queues)) ∙ capacities in cc

  few_reserved : reserved (context_of m (sender i)) queue_name ≤ untold_count (end_of m (sender_end i)) + (1 + length (end_of m (sender_end i)).unused)
  unfolding reserved reserved_by used_count
  few_reserved =
      let e : End = end_of m (sender_end i) in
      let cons = sum_by-cons (reserved_by queue_name) (end_of m (sender_end i)) [] in
      let one = most (bytes_eq e.send_queue queue_name) (bytes_eq e.receive_queue queue_name) (untold_count e) (used_count e.in_use) (length e.unused) (one_used e.in_use) in
      subst (λ (es : List End). sum_by (reserved_by queue_name) es ≤ untold_count (end_of m (sender_end i)) + (1 + length (end_of m (sender_end i)).unused)) (sym (only_end m i names)) (omega (arith, cons, one))
    where
      one_used : (v : Option Receive) → used_count v ≤ 1
      one_used None = omega arith
      one_used (Some v) = omega arith

      most : (a b : Bool) (n k u : ℕ) → k ≤ 1 → (if a then n else 0) + (if b then k + u else 0) ≤ n + (1 + u)
      most true true n k u h = omega (arith, h)
      most true false n k u h = omega arith
      most false true n k u h = omega (arith, h)
      most false false n k u h = omega arith

  has_room : standing m (sender i) ≡ [] → untold_count (end_of m (sender_end i)) < depth → length (end_of m (sender_end i)).unused ≤ depth → is_full m (sender i) queue_name ≡ false
  unfolding is_full
  has_room none few receives =
      let nothing = ap length none in
      let cap = capacity_is in
      let res = few_reserved in
      lt-leb (queue_of m (sender i) queue_name).capacity (length (queue_of m (sender i) queue_name).entries + reserved (context_of m (sender i)) queue_name) (omega (arith, nothing, cap, res, few, receives))

-- ---- fewer than 16 requests are untold

module _ (w : World) (m : Machine) (i : ℕ) (stands : Stands w m) (live : is_live w (sender i) ≡ true) (names : map (λ e. e.name) (context_of m (sender i)).ends ≡ end_name ∷ []) where
  ends_are : map owned_there (live_context w (sender i)).ends ≡ owned (end_of m (sender_end i)) ∷ []
  unfolding live_context
  ends_are = (live_same w m (sender i) stands live).ends ∙ ap (λ (es : List End). map owned es) (only_end m i names)

  viewed : (c : state.Context) (e : state.End) (l : Option Link) → e.link ≡ l → untold_in (Some (view_of c e)) ≡ length (owned_there e).untold
  unfolding view_of owned_there link_or_none
  viewed c e None is = rw is refl
  viewed c e (Some l) is = rw is refl

  first_viewed : (c : state.Context) (es : List state.End) (o : Owned) → map owned_there es ≡ o ∷ [] → untold_in (option_map (view_of c) (slice_get es 0)) ≡ length o.untold
  first_viewed c [] o e = cc
  first_viewed c (x ∷ xs) o e = let same : owned_there x ≡ o = cc in viewed c x x.link refl ∙ ap (λ (y : Owned). length y.untold) same

  pub untold_is : untold_at w i ≡ untold_count (end_of m (sender_end i))
  unfolding owned untold untold_count
  untold_is = first_viewed (live_context w (sender i)) (live_context w (sender i)).ends (owned (end_of m (sender_end i))) ends_are ∙ length-drop (end_of m (sender_end i)).told (end_of m (sender_end i)).posted

-- ---- the machine refuses none

module _ (m : Machine) (i : ℕ) (opened : IsOpened m i) where
  granted_there : (n : ℕ) → n ≤ place_bytes → is_local_granted m (sender_end i) (sender_key i) staging_address n NoRight ≡ true
  unfolding is_local_granted is_granted granted grants allows holds region_of
  granted_there n fits =
      let is = opened.sender_region_is in
      let begins = is.begins in
      let long = is.long in
      let r : Region = region_of m (sender_region i) in
      let domain : bytes_eq r.domain domain_name ≡ true = ap (λ (d : Name). bytes_eq d domain_name) is.domain ∙ same_name domain_name in
      let key : (r.keys.local == sender_key i) ≡ true = eq-eqb r.keys.local (sender_key i) (ap (λ (k : Keys). k.local) is.keyed) in
      let low : nat_le r.base staging_address ≡ true = le-leb r.base staging_address (omega (arith, begins)) in
      let high : nat_le (staging_address + n) (r.base + r.length) ≡ true = le-leb (staging_address + n) (r.base + r.length) (omega (arith, begins, long, fits)) in
      let all : grants local_key domain_name (sender_key i) staging_address n NoRight (named (λ x. x.name) no_region (sender_region i).name (regions_of m (sender i))) ≡ true = and_both _ _ domain (and_both _ _ key (and_both _ _ low high)) in
      let some' = some_granted local_key domain_name (sender_key i) staging_address n NoRight (sender_region i).name (regions_of m (sender i)) opened.sender_region_there all in
      subst (λ (d : Name). ((n == 0) || is_some (first_that (grants local_key d (sender_key i) staging_address n NoRight) (regions_of m (sender i)))) ≡ true) (sym opened.sender_joined.domain) (or_some (n == 0) _ some')
    where
      or_some : (a b : Bool) → b ≡ true → (a || b) ≡ true
      or_some true b e = refl
      or_some false b e = e

  not_refused : (l : Letter) → untold_count (end_of m (sender_end i)) < depth → is_full m (sender i) queue_name ≡ false → refusal_of m (verbs.PostSend (sender_end i) (letter_request i l)) ≡ None
  not_refused l few room =
      let fits = message_fits i l in
      let sixteen = opened.sender_joined.send_depth in
      none_holds _ _ _ _ _ _ _ (ap not (context_there m (sender_end i) opened.sender_there)) (ap not opened.sender_there) (ap not opened.sender_joined.connected) (le-ltb most_bytes (length (message_of i l)) (omega (arith, fits)))
      (ap not (granted_there (length (message_of i l)) fits)) (lt-leb (end_of m (sender_end i)).send_depth (untold_count (end_of m (sender_end i))) (omega (arith, sixteen, few)))
      (ap (is_full m (sender i)) opened.sender_joined.send_queue ∙ room)

-- ---- the posting

-- the parts of a sender's plan
module _ (peers : ℕ) (m : Machine) (f : IsFurnished peers m) (i : ℕ) (low : 1 ≤ i) (high : i ≤ peers) where
  names_are : map (λ e. e.name) (context_of m (sender i)).ends ≡ end_name ∷ []
  names_are = ap (λ (p : Plan). p.ends) (f.at_sender i low high)

  queues_are : map (λ q. q.name) (context_of m (sender i)).queues ≡ queue_name ∷ []
  queues_are = ap (λ (p : Plan). p.queues) (f.at_sender i low high)

  capacities_are : map (λ q. q.capacity) (context_of m (sender i)).queues ≡ sender_capacity ∷ []
  capacities_are = ap (λ (p : Plan). p.capacities) (f.at_sender i low high)

sender_lives : (w : World) (m : Machine) (i : ℕ) → 1 ≤ i → Stands w m → IsOpened m i → is_away w i ≡ false → is_live w (sender i) ≡ true
sender_lives w m i low stands opened home' =
    subst (λ (c : Name). is_live w c ≡ true) (context_is i low) (lives w m i stands (subst (λ (c : Name). has_context m c ≡ true) (sym (context_is i low)) (context_there m (sender_end i) opened.sender_there)) home')

module _ (follow : EventsFollowByName) (peers : ℕ) (small : peers ≤ 8) (ts : List Turn) (m : Mail) (h : IsHeld peers ts m) (f : IsFurnished peers h.machine) (i : ℕ) (low : 1 ≤ i) (high : i ≤ peers) (l : Letter)
    (home' : is_away m.world i ≡ false) (none : standing h.machine (sender i) ≡ []) (few : untold_count (end_of h.machine (sender_end i)) < depth) where
  opened : IsOpened h.machine i
  opened = h.all.opened i low high

  live : is_live m.world (sender i) ≡ true
  live = sender_lives m.world h.machine i low h.stands opened home'

  receives : length (end_of h.machine (sender_end i)).unused ≤ depth
  receives =
      let most = unused_few peers ts m h.machine h.all h.stands (sender_end i) opened.sender_there in
      let sixteen = opened.sender_joined.receive_depth in
      omega (arith, most, sixteen)

  granted' : refusal_of h.machine (verbs.PostSend (sender_end i) (letter_request i l)) ≡ None
  granted' =
      not_refused h.machine i opened l few
      (has_room h.machine i (names_are peers h.machine f i low high) (queues_are peers h.machine f i low high) (capacities_are peers h.machine f i low high) none few receives)

  paged : lacks_pages (home m.world (sender i)) (live_of m.world (sender i)) (end_at (live_of m.world (sender i)) end_name) (letter_request i l) ≡ false
  paged = has_pages peers small ts m h f (sender i) live (live_of m.world (sender i)) (end_at (live_of m.world (sender i)) end_name) (letter_request i l) (λ e. message_fits i l)

  pub posting_answered : ((asking m (send_event i (length (message_of i l)))).answer ≡ answers.Done) ⊎ (is_too_many (asking m (send_event i (length (message_of i l)))).answer ≡ true)
  unfolding asking
  posting_answered = by (asks follow m.world h.machine (send_event i (length (message_of i l))) (verbs.PostSend (sender_end i) (letter_request i l)) (send_verb (sender_end i) (letter_request i l)) (λ a. refl) (send_in_range i l) h.stands)
    where
      by : Asks m.world h.machine (send_event i (length (message_of i l))) (verbs.PostSend (sender_end i) (letter_request i l)) →
          ((world_step m.world (world_events.At (send_event i (length (message_of i l))))).answer ≡ answers.Done) ⊎ (is_too_many (world_step m.world (world_events.At (send_event i (length (message_of i l))))).answer ≡ true)
      by (Unmade u s) = inr (unmade_is_used_up m.world (sender_end i) (letter_request i l) live paged u)
      by (Made given a s) = inl (a ∙ ap (λ (r : Option Refusal). answered r h.machine (verbs.PostSend (sender_end i) (letter_request i l)) given) granted')

-- ---- the letter was stored before

module _ (m m' : Machine) (like : IsLikeMachine m m') where
  plan_stays : (c : Name) → plan_of (context_of m' c) ≡ plan_of (context_of m c)
  plan_stays c = λ k. record {
    regions = like.lengths c k;
    queues = map (λ q. q.name) (like.queues c k);
    capacities = map (λ q. q.capacity) (like.queues c k);
    ends = map (λ e. e.name) (like.ends c k);
  }

  load_stays : (c : Name) → load m' c queue_name ≡ load m c queue_name
  unfolding reserved
  load_stays c = λ k. length (named (λ x. x.name) no_queue queue_name (like.queues c k)).entries + sum_by (reserved_by queue_name) (like.ends c k)

  furnished_stays : (peers : ℕ) → IsFurnished peers m → IsFurnished peers m'
  furnished_stays peers f = record {
    contexts = λ c there. f.contexts c (sym (like.contexts c) ∙ there);
    at_receiver = plan_stays receiver ∙ f.at_receiver;
    at_sender = λ i low high. plan_stays (sender i) ∙ f.at_sender i low high;
    receiver_room = subst (λ (n : ℕ). n ≤ receiver_capacity) (sym (load_stays receiver)) f.receiver_room;
    sender_room = λ i low high. subst (λ (n : ℕ). n ≤ sender_capacity) (sym (load_stays (sender i))) (f.sender_room i low high);
  }

  untold_stays : (o : ObjName) → untold_count (end_of m' o) ≡ untold_count (end_of m o)
  unfolding end_of
  untold_stays o = ap (λ (es : List End). untold_count (named (λ x. x.name) (nobody o) o.name es)) (like.ends o.context)

pub sends_answered : EventsFollowByName → SendsAreAnswered
sends_answered follow peers small ts m i l may h world none fault =
    let free : MaySend m i l.body = may_send m i l.body fault in
    let among = sender_among peers ts m i h free.there in
    let f = furnished_machine peers m.world h.machine h.stands world in
    let g = is_staged follow peers small ts m h i among.0 among.1 l may free in
    let live = sender_lives m.world h.machine i among.0 h.stands (h.all.opened i among.0 among.1) free.home in
    let few = free.few in
    let untold' = untold_is m.world h.machine i h.stands live (names_are peers h.machine f i among.0 among.1) in
    let same = untold_stays h.machine g.held.machine g.like (sender_end i) in
    posting_answered follow peers small ts (staged m i l) g.held (furnished_stays h.machine g.held.machine g.like peers f) i among.0 among.1 l (away_same m (staged m i l) i g.carried ∙ free.home)
    (standing_stays h.machine g.held.machine g.like (sender i) ∙ none) (omega (arith, few, untold', same))
