-- Requests and receives that are posted.
use Rattle.std.proofs.Common.{◌≡◌, ◌≢◌, ℕ, suc, ◌+◌, ◌<◌, Bool, true, false, List, [], ◌∷◌, ◌++◌, drop, length, refl, ap, sym, ◌∙◌, arith, subst}
use Rattle.std.specs.Prelude.{◌==◌, ◌||◌, All, Option, Some, None, is_some, nat_eq, option_map, if◌then◌else◌}
use Rattle.std.specs.List.{IsDistinct, AllByRecursion}
use Rattle.std.proofs.lemmas.List.Elements.{All-head, All-tail, All-nil, All-cons, All-push}
use Rattle.std.proofs.lemmas.Bool.Decides.{nat_tests}
use Rattle.rdma_types.specs.declared.names.Name.{Name}
use Rattle.rdma_types.specs.declared.requests.Completion.{Completion}
use Rattle.rdma_types.specs.declared.requests.Receive.{Receive}
use Rattle.rdma_types.specs.declared.requests.WcStatus.TheVariants as status
use Rattle.rdma_types.specs.Kinds.{request_done}
use Rattle.rdma_types.specs.Lists.{first_that}
use Rattle.rdma_types.specs.Memory.{Right, granted, grants, holds, is_granted, local_key}
use Rattle.page_pool.specs.Pool.{Pool, bytes_of, free_pages}
use Rattle.end_queues.specs.Completions.{Queue}
use Rattle.memory_keys.specs.declared.RegisteredRegion.{RegisteredRegion}
use Rattle.memory_keys.specs.Regions.{region_of, regions_of}
use Rattle.end_queues.specs.Postings.{Queue as WorkQueue, posting as queueing}
use Rattle.end_queues.specs.declared.work_queues.posted.QueuedRequest.{QueuedRequest}
use Rattle.end_queues.specs.Untold.{posted_in, untold_in}
use Rattle.requester.specs.Sending.{bare, posting, sender_in}
use Rattle.responder.specs.Receiving.{Receiving}
use Rattle.responder.specs.Sound.{IsPlace, IsSound as IsServing}
use Rattle.protocol.specs.DeviceStep.{posted_at}
use Rattle.protocol.specs.EndWords.{completing, failed_receive, failed_request, in_use_by, is_in_error, with_end, with_link, with_sender, with_unused}
use Rattle.protocol.specs.State.{Context}
use Rattle.end_completions.specs.Payloads.{GivesBack, payload_lists, payload_pages}
use Rattle.end_completions.proofs.Given.{AreKept}
use Rattle.endpoint_core.specs.declared.end.EndLink.{EndLink}
use Rattle.endpoint_core.specs.Answers.{posted_by, received_at}
use Rattle.endpoint_core.specs.Ends.{Names, end_in, is_ended_link, link_in, untold_by, used_by}
use Rattle.endpoint_core.specs.Queues.{StandsAt, count_at, nothing, promised, queues_of, settle_at}
use Rattle.endpoint_core.specs.Sites.{IsHome, IsSound, Keeps, EndWithMemory, end_at, home}
use Rattle.endpoint_core.specs.Sound.{IsInState, IsLinked, IsNew, IsPosted}
use Rattle.endpoint_core.proofs.Ended.{count-here}
use Rattle.endpoint_core.proofs.Frames.{as-home, end-kept, home-linked, link-of, none-of, sound-kept}
use Rattle.endpoint_core.proofs.Given.{AreOutside, frame-free, append-none, frame-lists, given-held, given-regions}
use Rattle.endpoint_core.proofs.Settled.{Settles, completing-settles, keeps-settled, reserved-after, settles-at, settles-none}

-- ---- places

-- a place is granted whatever bytes lie there
granted-any : (a b : Pool) (held : List RegisteredRegion) (domain : Name) (key at count : ℕ) (right : Right)
    → is_granted local_key (regions_of a held) domain key at count right ≡ is_granted local_key (regions_of b held) domain key at count right
unfolding is_granted granted grants first_that holds
granted-any a b held domain key at count right = ap (λ v. (count == 0) || v) (found held)
  where
    found : (hs : List RegisteredRegion) → is_some (first_that (grants local_key domain key at count right) (regions_of a hs)) ≡ is_some (first_that (grants local_key domain key at count right) (regions_of b hs))
    found [] = refl
    found (h ∷ hs) = elim (grants local_key domain key at count right (region_of a h)) as
        (λ v. is_some (if v then Some (region_of a h) else first_that (grants local_key domain key at count right) (regions_of a hs)) ≡ is_some (if v then Some (region_of b h) else first_that (grants local_key domain key at count right) (regions_of b hs)))
        [ true ↦ refl | false ↦ found hs ]

pub placed-any : (pool : Pool) (held : List RegisteredRegion) (domain : Name) (key at count : ℕ) (right : Right) → is_granted local_key (regions_of pool held) domain key at count right ≡ true
    → (other : Pool) → is_granted local_key (regions_of other held) domain key at count right ≡ true
placed-any pool held domain key at count right given other = granted-any other pool held domain key at count right ∙ given

-- ---- lists

distinct-push : (ps : List QueuedRequest) (p : QueuedRequest) → IsDistinct nat_eq (payload_lists ps) → All (λ list. list ≢ p.payload.list) (payload_lists ps) → IsDistinct nat_eq (payload_lists (ps ++ p ∷ []))
unfolding IsDistinct
distinct-push [] p apart own = (tt, tt)
distinct-push (x ∷ xs) p apart own =
    (other-push x xs p apart.0 (All-head (λ list. list ≢ p.payload.list) x.payload.list (payload_lists xs) own), distinct-push xs p apart.1 (All-tail (λ list. list ≢ p.payload.list) x.payload.list (payload_lists xs) own))
  where
    other-push : (x : QueuedRequest) (ys : List QueuedRequest) (p : QueuedRequest) → AllByRecursion (λ y. nat_eq x.payload.list y ≡ false) (payload_lists ys) → x.payload.list ≢ p.payload.list → AllByRecursion (λ y. nat_eq x.payload.list y ≡ false) (payload_lists (ys ++ p ∷ []))
    other-push x [] p all differs = (by_test (nat_eq x.payload.list p.payload.list) refl, tt)
      where
        by_test : (b : Bool) → nat_eq x.payload.list p.payload.list ≡ b → nat_eq x.payload.list p.payload.list ≡ false
        by_test false e = e
        by_test true e = absurd (differs (grind (arith, nat_tests, e)))
    other-push x (y ∷ ys) p all differs = (all.0, other-push x ys p all.1 differs)

pub untold-push : (pool : Pool) (ps : List QueuedRequest) (p : QueuedRequest) → untold_in pool (ps ++ p ∷ []) ≡ untold_in pool ps ++ posted_in pool p ∷ []
untold-push pool [] p = refl
untold-push pool (x ∷ xs) p = ap (λ l. posted_in pool x ∷ l) (untold-push pool xs p)

length-push : {A : Type 0} (xs : List A) (x : A) → length (xs ++ x ∷ []) ≡ suc (length xs)
length-push [] x = refl
length-push (y ∷ ys) x = ap suc (length-push ys x)

pub count-more : (here n place : ℕ) → count_at here n place + count_at here 1 place ≡ count_at here (suc n) place
count-more here n place = let none : ℕ = 0 in elim (here == place) as (λ b. (if b then n else none) + (if b then 1 else 0) ≡ (if b then suc n else 0)) [ true ↦ omega arith | false ↦ omega arith ]

-- ---- a request, where the end is not in Error

module _ (s : EndWithMemory) (l : EndLink) (p : QueuedRequest) (sound : IsSound s (count_at s.send 1)) (new : IsNew s.pool s.held s.end p) (is : s.end.link ≡ Some l) (running : l.ended ≡ false) (room : length l.requester.items < s.end.send_depth) where
  -- the connection after it
  abbrev pub queued : EndLink
  queued = record l { requester = posting l.requester p }

  -- the site after it
  abbrev pub posted : EndWithMemory
  posted = record s { end = record s.end { link = Some queued } }

  linked-before : IsLinked s.pool s.held s.end l
  linked-before = link-of s.pool s.held s.end l sound.end is

  own-lists : All (λ list. list ≢ p.payload.list) (payload_lists l.requester.items)
  own-lists = subst (λ o. All (λ list. list ≢ p.payload.list) (payload_lists (untold_by o))) is new.own

  pub posted-step : (c : Context) (names : Names) → IsHome c names s → posted_by c (end_at names s) (option_map (link_in s.pool) s.end.link) (posted_in s.pool p) ≡ home c names posted
  unfolding posted_at with_sender
  posted-step c names at =
      let sender : with_sender (link_in s.pool l) (record (sender_in s.pool l.requester) { untold = untold_in s.pool l.requester.items ++ posted_in s.pool p ∷ [] }) ≡ link_in s.pool queued =
      ap (λ us. record (link_in s.pool l) { sender = record (sender_in s.pool l.requester) { untold = us } }) (sym (untold-push s.pool l.requester.items p)) in
      ap (λ o. posted_by c (end_at names s) (option_map (link_in s.pool) o) (posted_in s.pool p)) is
      ∙ (ap (λ b. if b then completing c names.send_cq (failed_request s.end.number status.Flush (posted_in s.pool p) ∷ []) else with_end c (with_link (end_at names s) (with_sender (link_in s.pool l) (record (sender_in s.pool l.requester) { untold = untold_in s.pool l.requester.items ++ posted_in s.pool p ∷ [] })))) running
      ∙ home-linked c names s queued _ at sender)

  pub posted-work : (place : ℕ) → promised s.send s.recv s.end place + count_at s.send 1 place ≡ promised s.send s.recv posted.end place + nothing place
  posted-work place =
      let before = ap (λ o. promised s.send s.recv (record s.end { link = o }) place) is in
      let after : promised s.send s.recv posted.end place ≡ count_at s.send (suc (length l.requester.items)) place + count_at s.recv (length s.end.recvs.items + length (in_use_by l.responder.receiver.progress)) place =
      ap (λ n. count_at s.send n place + count_at s.recv (length s.end.recvs.items + length (in_use_by l.responder.receiver.progress)) place) (length-push l.requester.items p) in
      let more = count-more s.send (length l.requester.items) place in
      omega (arith, before, after, more)

  pub posted-sound : IsSound posted nothing
  posted-sound = record {
    end = record {
      queue = none-of s.pool s.held s.end l sound.end is;
      depth = sound.end.depth;
      state = record {
        terms = linked-before.terms;
        sending_terms = linked-before.sending_terms;
        serving_terms = linked-before.serving_terms;
        depth = linked-before.depth;
        fit = let more = length-push l.requester.items p in omega (arith, more, room);
        posted = All-push (IsPosted s.pool s.held s.end.domain) l.requester.items p linked-before.posted
            (record { shape = new.shape; payload = record { holds = new.holds; whole = new.whole (ap is_ended_link is ∙ running); apart = new.apart }; placed = placed-any s.pool s.held s.end.domain _ _ _ _ new.placed });
        apart = distinct-push l.requester.items p linked-before.apart own-lists;
        serving = linked-before.serving;
        none_untold = λ e. absurd (cc);
        none_unused = linked-before.none_unused;
        no_message = linked-before.no_message;
        running = linked-before.running;
      };
    };
    regions = sound.regions;
    reserved = reserved-after s.queues s.queues s.send s.recv s.end posted.end (count_at s.send 1) nothing (settles-none s.queues) posted-work sound.reserved;
  }

  pub posted-keeps : Keeps s posted (p ∷ []) (count_at s.send 1)
  posted-keeps =
      let whole : untold_by s.end.link ++ p ∷ [] ≡ l.requester.items ++ p ∷ [] = ap (λ o. untold_by o ++ p ∷ []) is in
      record {
        end = record { number = refl; domain = refl; send_depth = refl; recv_depth = refl };
        untold = record { gone = 0; left = sym whole };
        regions = refl;
        lists = record { pages = refl; others = λ list lives regions own. refl };
        kept = λ i x within. refl;
        free = ap (λ ps. free_pages s.pool + payload_pages s.pool ps) (sym whole);
        queues = keeps-settled s.queues s.queues s.send s.recv s.end posted.end (count_at s.send 1) nothing (settles-none s.queues) posted-work;
      }

-- ---- work that completes at once, flushed

-- one completion into a queue, and nothing of the end changes
pub completes-once : (c : Context) (names : Names) (s : EndWithMemory) (name : Name) (place : ℕ) (w : Completion) (pool' : Pool) (qs' : List (Name × Queue)) → IsHome c names s
    → StandsAt s.queues name place → qs' ≡ settle_at s.queues place 1 (w ∷ []) → regions_of pool' s.held ≡ regions_of s.pool s.held
    → end_in pool' names s.end ≡ end_in s.pool names s.end → completing c name (w ∷ []) ≡ home c names (record s { pool = pool'; queues = qs' })
unfolding with_end
completes-once c names s name place w pool' qs' at stands queues regions same =
    completing-settles c s.queues name place 1 (w ∷ []) at.queues stands
    ∙ (ap (λ qs. record c { queues = queues_of qs }) (sym queues)
    ∙ (ap (λ (x : Context). record x { queues = queues_of qs' }) (sym at.there)
    ∙ (ap (λ rs. with_end (record c { regions = rs; queues = queues_of qs' }) (end_in s.pool names s.end)) (at.regions ∙ sym regions)
    ∙ ap (λ e. with_end (record c { regions = regions_of pool' s.held; queues = queues_of qs' }) e) (sym same))))

module _ (s : EndWithMemory) (p : QueuedRequest) (l : EndLink) (pool' : Pool) (qs' : List (Name × Queue))
    (sound : IsSound s (count_at s.send 1)) (new : IsNew s.pool s.held s.end p) (is : s.end.link ≡ Some l) (failed : l.ended ≡ true)
    (queues : qs' ≡ settle_at s.queues s.send 1 (failed_request s.end.number status.Flush (bare p) ∷ [])) (gives : GivesBack s.pool pool' (p ∷ [])) where
  -- the site after it
  abbrev pub refused : EndWithMemory
  refused = record s { pool = pool'; queues = qs' }

  none-left : untold_by s.end.link ≡ []
  none-left = ap untold_by is ∙ (link-of s.pool s.held s.end l sound.end is).none_untold failed

  all-kept : AreKept s.pool pool' (untold_by s.end.link)
  all-kept = subst (λ ps. AreKept s.pool pool' ps) (sym none-left) (All-nil (λ x. bytes_of pool' x.payload.list ≡ bytes_of s.pool x.payload.list))

  beside : AreOutside s.held (p ∷ [])
  beside = All-cons (λ x. All (λ h. h.list ≢ x.payload.list) s.held) p [] new.apart (All-nil (λ x. All (λ h. h.list ≢ x.payload.list) s.held))

  pub refused-step : (c : Context) (names : Names) → IsHome c names s → posted_by c (end_at names s) (option_map (link_in s.pool) s.end.link) (posted_in s.pool p) ≡ home c names refused
  unfolding posted_at request_done
  refused-step c names at =
      ap (λ o. posted_by c (end_at names s) (option_map (link_in s.pool) o) (posted_in s.pool p)) is
      ∙ (ap (λ b. if b then completing c names.send_cq (failed_request s.end.number status.Flush (posted_in s.pool p) ∷ []) else with_end c (with_link (end_at names s) (with_sender (link_in s.pool l) (record (sender_in s.pool l.requester) { untold = untold_in s.pool l.requester.items ++ posted_in s.pool p ∷ [] })))) failed
      ∙ completes-once c names s names.send_cq s.send (failed_request s.end.number status.Flush (bare p)) pool' qs' at at.send queues
      (given-regions s.pool pool' s.held (p ∷ []) gives beside) (end-kept s.pool pool' names s.end all-kept))

  refused-settles : Settles s.queues qs' (count_at s.send 1)
  refused-settles =
      let enough = sound.reserved.enough s.send in
      let one = count-here s.send 1 in
      subst (λ qs. Settles s.queues qs (count_at s.send 1)) (sym queues)
      (settles-at s.queues s.send 1 (failed_request s.end.number status.Flush (bare p) ∷ []) sound.reserved.send_there (omega (arith, enough, one)))

  refused-work : (place : ℕ) → promised s.send s.recv s.end place + count_at s.send 1 place ≡ promised s.send s.recv s.end place + count_at s.send 1 place
  refused-work place = refl

  pub refused-sound : IsSound refused nothing
  refused-sound = record {
    end = sound-kept s.pool pool' s.held s.end all-kept sound.end;
    regions = given-held s.pool pool' s.held (p ∷ []) gives beside sound.regions;
    reserved = reserved-after s.queues qs' s.send s.recv s.end s.end (count_at s.send 1) (count_at s.send 1) refused-settles refused-work sound.reserved;
  }

  pub refused-keeps : Keeps s refused (p ∷ []) (count_at s.send 1)
  refused-keeps =
      let whole : untold_by s.end.link ++ p ∷ [] ≡ (p ∷ []) ++ untold_by s.end.link =
      ap (λ ps. ps ++ p ∷ []) none-left ∙ ap (λ ps. (p ∷ []) ++ ps) (sym none-left) in
      record {
        end = record { number = refl; domain = refl; send_depth = refl; recv_depth = refl };
        untold = record { gone = 1; left = none-left ∙ sym (ap (λ ps. drop 1 (ps ++ p ∷ [])) none-left) };
        regions = refl;
        lists = frame-lists s.pool pool' s.held (untold_by s.end.link ++ p ∷ []) (p ∷ []) (untold_by s.end.link) whole gives;
        kept = all-kept;
        free = frame-free s.pool pool' (untold_by s.end.link ++ p ∷ []) (p ∷ []) (untold_by s.end.link) whole gives all-kept;
        queues = keeps-settled s.queues qs' s.send s.recv s.end s.end (count_at s.send 1) (count_at s.send 1) refused-settles refused-work;
      }

-- ---- a receive

module _ (s : EndWithMemory) (r : Receive) (qs' : List (Name × Queue)) (sound : IsSound s (count_at s.recv 1)) (failed : is_ended_link s.end.link ≡ true)
    (queues : qs' ≡ settle_at s.queues s.recv 1 (failed_receive s.end.number status.Flush r ∷ [])) where
  in-error : is_in_error (option_map (link_in s.pool) s.end.link) ≡ true
  in-error = by_link s.end.link failed
    where
      by_link : (o : Option EndLink) → is_ended_link o ≡ true → is_in_error (option_map (link_in s.pool) o) ≡ true
      by_link None h = h
      by_link (Some l) h = h

  pub flushed-step : (c : Context) (names : Names) → IsHome c names s → received_at c (end_at names s) r ≡ home c names (record s { queues = qs' })
  flushed-step c names at =
      ap (λ b. if b then completing c names.recv_cq (failed_receive s.end.number status.Flush r ∷ []) else with_end c (with_unused (end_at names s) (s.end.recvs.items ++ r ∷ []))) in-error
      ∙ completes-once c names s names.recv_cq s.recv (failed_receive s.end.number status.Flush r) s.pool qs' at at.recv queues refl refl

  flushed-settles : Settles s.queues qs' (count_at s.recv 1)
  flushed-settles =
      let enough = sound.reserved.enough s.recv in
      let one = count-here s.recv 1 in
      subst (λ qs. Settles s.queues qs (count_at s.recv 1)) (sym queues)
      (settles-at s.queues s.recv 1 (failed_receive s.end.number status.Flush r ∷ []) sound.reserved.recv_there (omega (arith, enough, one)))

  pub flushed-sound : IsSound (record s { queues = qs' }) nothing
  flushed-sound = record {
    end = sound.end;
    regions = sound.regions;
    reserved = reserved-after s.queues qs' s.send s.recv s.end s.end (count_at s.recv 1) (count_at s.recv 1) flushed-settles (λ place. refl) sound.reserved;
  }

  pub flushed-keeps : Keeps s (record s { queues = qs' }) [] (count_at s.recv 1)
  flushed-keeps = record {
    end = record { number = refl; domain = refl; send_depth = refl; recv_depth = refl };
    untold = record { gone = 0; left = sym (append-none (untold_by s.end.link)) };
    regions = refl;
    lists = record { pages = refl; others = λ list lives regions own. refl };
    kept = λ i x within. refl;
    free = ap (λ ps. free_pages s.pool + payload_pages s.pool ps) (sym (append-none (untold_by s.end.link)));
    queues = keeps-settled s.queues qs' s.send s.recv s.end s.end (count_at s.recv 1) (count_at s.recv 1) flushed-settles (λ place. refl);
  }

module _ (s : EndWithMemory) (r : Receive) (rs' : WorkQueue Receive) (sound : IsSound s (count_at s.recv 1)) (running : is_ended_link s.end.link ≡ false)
    (place : IsPlace s.held s.end.domain r) (queued : rs' ≡ queueing s.end.recvs r)
    (serves : (v : Receiving) → IsServing s.held s.end.domain v s.end.recvs.items → IsServing s.held s.end.domain v (s.end.recvs.items ++ r ∷ [])) where
  -- the site after it
  abbrev pub received : EndWithMemory
  received = record s { end = record s.end { recvs = rs' } }

  items : rs'.items ≡ s.end.recvs.items ++ r ∷ []
  items = ap (λ q. q.items) queued

  not-in-error : is_in_error (option_map (link_in s.pool) s.end.link) ≡ false
  not-in-error = by_link s.end.link running
    where
      by_link : (o : Option EndLink) → is_ended_link o ≡ false → is_in_error (option_map (link_in s.pool) o) ≡ false
      by_link None h = h
      by_link (Some l) h = h

  pub received-step : (c : Context) (names : Names) → IsHome c names s → received_at c (end_at names s) r ≡ home c names received
  unfolding with_unused
  received-step c names at =
      ap (λ b. if b then completing c names.recv_cq (failed_receive s.end.number status.Flush r ∷ []) else with_end c (with_unused (end_at names s) (s.end.recvs.items ++ r ∷ []))) not-in-error
      ∙ (ap (λ us. with_end c (record (end_at names s) { unused = us })) (sym items)
      ∙ ap (λ x. with_end x (end_at names received)) (sym (as-home c names s at)))

  received-work : (place : ℕ) → promised s.send s.recv s.end place + count_at s.recv 1 place ≡ promised s.send s.recv received.end place + nothing place
  received-work place =
      let n : ℕ = length s.end.recvs.items + length (used_by s.end.link) in
      let after : promised s.send s.recv received.end place ≡ count_at s.send (length (untold_by s.end.link)) place + count_at s.recv (suc n) place =
      ap (λ k. count_at s.send (length (untold_by s.end.link)) place + count_at s.recv (k + length (used_by s.end.link)) place) (ap length items ∙ length-push s.end.recvs.items r)
      ∙ ap (λ k. count_at s.send (length (untold_by s.end.link)) place + count_at s.recv k place) (suc-more (length s.end.recvs.items) (length (used_by s.end.link))) in
      let more = count-more s.recv n place in
      omega (arith, after, more)
    where
      suc-more : (a b : ℕ) → suc a + b ≡ suc (a + b)
      suc-more a b = omega arith

  pub received-sound : IsSound received nothing
  received-sound = record {
    end = record {
      queue = sound.end.queue;
      depth = ap (λ q. q.depth) queued ∙ sound.end.depth;
      state = by_link s.end.link running sound.end.state;
    };
    regions = sound.regions;
    reserved = reserved-after s.queues s.queues s.send s.recv s.end received.end (count_at s.recv 1) nothing (settles-none s.queues) received-work sound.reserved;
  }
    where
      by_link : (o : Option EndLink) → is_ended_link o ≡ false → IsInState s.pool s.held s.end o → IsInState s.pool s.held (record s.end { recvs = rs' }) o
      by_link None running' h = subst (λ us. All (IsPlace s.held s.end.domain) us) (sym items) (All-push (IsPlace s.held s.end.domain) s.end.recvs.items r h place)
      by_link (Some l) running' h = record {
        terms = h.terms;
        sending_terms = h.sending_terms;
        serving_terms = h.serving_terms;
        depth = h.depth;
        fit = h.fit;
        posted = h.posted;
        apart = h.apart;
        serving = subst (λ us. IsServing s.held s.end.domain l.responder us) (sym items) (serves l.responder h.serving);
        none_untold = h.none_untold;
        none_unused = λ e. absurd (let no' : l.ended ≡ false = running' in cc);
        no_message = h.no_message;
        running = h.running;
      }

  pub received-keeps : Keeps s received [] (count_at s.recv 1)
  received-keeps = record {
    end = record { number = refl; domain = refl; send_depth = refl; recv_depth = refl };
    untold = record { gone = 0; left = sym (append-none (untold_by s.end.link)) };
    regions = refl;
    lists = record { pages = refl; others = λ list lives regions own. refl };
    kept = λ i x within. refl;
    free = ap (λ ps. free_pages s.pool + payload_pages s.pool ps) (sym (append-none (untold_by s.end.link)));
    queues = keeps-settled s.queues s.queues s.send s.recv s.end received.end (count_at s.recv 1) nothing (settles-none s.queues) received-work;
  }
