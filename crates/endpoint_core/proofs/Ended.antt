-- An end that goes to Error.
use Rattle.std.proofs.Common.{◌≡◌, ℕ, ◌+◌, ◌≤◌, ◌<◌, true, false, List, [], ◌∷◌, ◌++◌, drop, length, refl, ap, sym, ◌∙◌, arith, subst}
use Rattle.std.specs.Prelude.{◌==◌, All, Option, Some, map, nat_eq, slice_get, if◌then◌else◌}
use Rattle.std.specs.List.{IsDistinct}
use Rattle.std.proofs.Math.Seq.{drop-append_seam}
use Rattle.std.proofs.lemmas.List.{drop_all}
use Rattle.std.proofs.lemmas.List.Elements.{All-nil}
use Rattle.rdma_types.specs.declared.names.Name.{Name}
use Rattle.rdma_types.specs.declared.requests.Completion.{Completion}
use Rattle.rdma_types.specs.declared.requests.Receive.{Receive}
use Rattle.rdma_types.specs.declared.requests.WcStatus.{WcStatus}
use Rattle.rdma_types.specs.declared.requests.WcStatus.TheVariants as status
use Rattle.rdma_types.specs.Kinds.{request_done}
use Rattle.rdma_types.specs.Limits.{AreTerms}
use Rattle.page_pool.specs.Pool.{Pool, bytes_of}
use Rattle.end_queues.specs.Completions.{Queue}
use Rattle.memory_keys.specs.Regions.{regions_of}
use Rattle.end_queues.specs.Postings.{Queue as WorkQueue}
use Rattle.end_queues.specs.declared.work_queues.posted.QueuedRequest.{QueuedRequest}
use Rattle.end_queues.specs.Untold.{untold_in}
use Rattle.transport.specs.declared.move_core.Phase.TheVariants as phase
use Rattle.requester.specs.Sending.{Sending, bare, bares, numbers_of, sender_in, sender_of, sender_with}
use Rattle.responder.specs.Receiving.{Receiving, idled}
use Rattle.responder.specs.Sound.{IsSound as IsServing}
use Rattle.protocol.specs.EndWords.{completing, failed_receive, failed_request, in_use_by, linked, with_end, with_link, with_unused}
use Rattle.protocol.specs.Requester.{emptied_at, end_of_queue, ended_link, ended_with, failing}
use Rattle.protocol.specs.State.{Context, End, NoMessage, InSend, InWrite, Progress}
use Rattle.end_completions.specs.Completing.{listed}
use Rattle.end_completions.specs.Payloads.{GivesBack, payload_lists}
use Rattle.endpoint_core.specs.declared.end.Endpoint.{Endpoint}
use Rattle.endpoint_core.specs.declared.end.EndLink.{EndLink}
use Rattle.endpoint_core.specs.Ends.{Names, link_in, untold_by}
use Rattle.endpoint_core.specs.Flushed.{IsFlushed, all_receives}
use Rattle.endpoint_core.specs.Queues.{count_at, nothing, promised, queues_of, reserved_in, settle_at}
use Rattle.endpoint_core.specs.Sites.{IsHome, IsSound, Keeps, EndWithMemory, end_at, home}
use Rattle.endpoint_core.specs.Sound.{IsLinked, IsPosted}
use Rattle.endpoint_core.proofs.Frames.{link-of, none-of}
use Rattle.endpoint_core.proofs.Given.{frame-free, frame-lists, given-held, given-regions, outside}
use Rattle.endpoint_core.proofs.Connected.{distinct-none}
use Rattle.endpoint_core.proofs.Rows.{end_of_same}
use Rattle.endpoint_core.proofs.Settled.{Settles, completing-settles, keeps-settled, reserved-after, same-number, settle-length, settle-reserved, settles-at, settles-both, stands-settled}

-- ---- what the flush needs

pub listed-used : (p : Progress) → listed (slice_get (in_use_by p) 0) ≡ in_use_by p
listed-used NoMessage = refl
listed-used (InSend done receive) = refl
listed-used (InWrite region off length' done) = refl

pub length-both : {A : Type 0} (xs ys : List A) → length (xs ++ ys) ≡ length ys + length xs
length-both [] ys = omega arith
length-both (x ∷ xs) ys = let rest = length-both xs ys in omega (arith, rest)

pub count-here : (here n : ℕ) → count_at here n here ≡ n
count-here here n = rw (same-number here) refl

pub count-none : (here place : ℕ) → count_at here 0 place ≡ 0
count-none here place = let none : ℕ = 0 in elim (here == place) as (λ b. (if b then none else none) ≡ none) [ true ↦ refl | false ↦ refl ]

-- what an end's work takes, told by its connection
pub promised-is : (e : Endpoint) (l : EndLink) (send recv place : ℕ) → e.link ≡ Some l
    → promised send recv e place ≡ count_at send (length l.requester.items) place + count_at recv (length (all_receives l e.recvs)) place
promised-is e l send recv place is =
    ap (λ o. promised send recv (record e { link = o }) place) is
    ∙ ap (λ n. count_at send (length l.requester.items) place + count_at recv n place) (sym (length-both (in_use_by l.responder.receiver.progress) e.recvs.items))

-- what is left reserved for the receives
pub receives-fit : (qs : List (Name × Queue)) (send recv n m : ℕ) (more : List Completion) → send < length qs
    → ((place : ℕ) → count_at send n place + count_at recv m place ≤ reserved_in qs place) → m ≤ reserved_in (settle_at qs send n more) recv
receives-fit qs send recv n m more within enough =
    let less = settle-reserved qs send n more recv within in
    let fits = enough recv in
    let all = count-here recv m in
    omega (arith, less, fits, all)

pub requests-fit : (qs : List (Name × Queue)) (send recv n m : ℕ) → ((place : ℕ) → count_at send n place + count_at recv m place ≤ reserved_in qs place) → n ≤ reserved_in qs send
requests-fit qs send recv n m enough = let fits = enough send in let all = count-here send n in omega (arith, fits, all)

-- ---- the step

failing-in : (number : ℕ) (s : WcStatus) (pool : Pool) (ps : List QueuedRequest) → failing number s (untold_in pool ps) ≡ failing number s (bares ps)
unfolding failing request_done
failing-in number s pool [] = refl
failing-in number s pool (p ∷ ps) = ap (λ l. failed_request number s (bare p) ∷ l) (rest ps)
  where
    rest : (qs : List QueuedRequest) → map (failed_request number status.Flush) (untold_in pool qs) ≡ map (failed_request number status.Flush) (bares qs)
    rest [] = refl
    rest (q ∷ qs) = ap (λ l. failed_request number status.Flush (bare q) ∷ l) (rest qs)

pub emptied-in : (pool : Pool) (r : Sending) (n : ℕ) → r.items ≡ [] → sender_of r ≡ emptied_at n → sender_in pool r ≡ emptied_at n
emptied-in pool r n items is = ap (λ ps. sender_with (untold_in pool ps) r.numbers) items ∙ ap (λ s. sender_with [] (numbers_of s)) is

module _ (s : EndWithMemory) (status' : WcStatus) (l l' : EndLink) (rs' : WorkQueue Receive) (pool' : Pool) (qs' : List (Name × Queue))
    (sound : IsSound s nothing) (is : s.end.link ≡ Some l)
    (flushed : IsFlushed s.end.number status' s.send s.recv l l' s.end.recvs rs' s.pool pool' s.queues qs') where
  -- the site after it
  abbrev pub ended : EndWithMemory
  ended = record s { pool = pool'; queues = qs'; end = record s.end { recvs = rs'; link = Some l' } }

  linked-before : IsLinked s.pool s.held s.end l
  linked-before = link-of s.pool s.held s.end l sound.end is

  regions-same : regions_of pool' s.held ≡ regions_of s.pool s.held
  regions-same = given-regions s.pool pool' s.held l.requester.items flushed.lists (outside s.pool s.held s.end.domain l.requester.items linked-before.posted)

  link-after : ended_link (link_in s.pool l) ≡ link_in pool' l'
  unfolding ended_link
  link-after =
      let sender : sender_in pool' l'.requester ≡ emptied_at (end_of_queue l.terms (sender_in s.pool l.requester)) =
      emptied-in pool' l'.requester _ flushed.items flushed.numbers
      ∙ (ap (λ t. emptied_at (end_of_queue t (sender_of l.requester))) linked-before.sending_terms
      ∙ ap emptied_at (sym (end_of_same l.terms s.pool l.requester))) in
      sym (ap (λ (x : EndLink). link_in pool' x) flushed.link
      ∙ ap (λ x. record (link_in pool' (record l { ended = true; requester = l'.requester; responder = record l.responder { receiver = idled l.responder.receiver }; moves = record l.moves { phase = phase.Running } })) { sender = x }) sender)

  end-after : (names : Names) → with_link (with_unused (end_at names s) []) (ended_link (link_in s.pool l)) ≡ end_at names ended
  unfolding with_link with_unused ended_link
  end-after names =
      ap (λ x. record (end_at names s) { unused = []; link = Some x }) link-after
      ∙ ap (λ rs. record (end_at names s) { unused = rs; link = Some (link_in pool' l') }) (sym (ap (λ r. r.items) flushed.receives))

  pub failed-step : (c : Context) (names : Names) → IsHome c names s → ended_with c (end_at names s) (link_in s.pool l) status' ≡ home c names ended
  unfolding ended_with with_end
  failed-step c names at =
      let e : End = end_at names s in
      let c1 : Context = linked c (with_unused e []) (ended_link (link_in s.pool l)) in
      let m1 : List Completion = failing s.end.number status' (untold_in s.pool l.requester.items) in
      let m2 : List Completion = map (failed_receive s.end.number status.Flush) (all_receives l s.end.recvs) in
      let n1 : ℕ = length l.requester.items in
      let n2 : ℕ = length (all_receives l s.end.recvs) in
      let q1 : List (Name × Queue) = settle_at s.queues s.send n1 m1 in
      let one : completing c1 e.send_cq m1 ≡ record c1 { queues = queues_of q1 } = completing-settles c1 s.queues names.send_cq s.send n1 m1 at.queues at.send in
      let two : completing (record c1 { queues = queues_of q1 }) e.recv_cq m2 ≡ record c1 { queues = queues_of (settle_at q1 s.recv n2 m2) } =
      completing-settles (record c1 { queues = queues_of q1 }) q1 names.recv_cq s.recv n2 m2 refl (stands-settled s.queues names.recv_cq s.recv s.send n1 m1 at.recv) in
      let queues : settle_at q1 s.recv n2 m2 ≡ qs' =
      ap (λ m. settle_at (settle_at s.queues s.send n1 m) s.recv n2 m2) (failing-in s.end.number status' s.pool l.requester.items) ∙ sym flushed.queues in
      ap (λ x. completing x e.recv_cq m2) one
      ∙ (two
      ∙ (ap (λ qs. with_end (record c { queues = queues_of qs }) (with_link (with_unused e []) (ended_link (link_in s.pool l)))) queues
      ∙ (ap (λ x. with_end (record c { queues = queues_of qs' }) x) (end-after names)
      ∙ ap (λ rs. with_end (record c { regions = rs; queues = queues_of qs' }) (end_at names ended)) (at.regions ∙ sym regions-same))))

  -- ---- what is kept

  work : (place : ℕ) → promised s.send s.recv s.end place + nothing place ≡ promised s.send s.recv ended.end place + (count_at s.send (length l.requester.items) place + count_at s.recv (length (all_receives l s.end.recvs)) place)
  work place =
      let before = promised-is s.end l s.send s.recv place is in
      let after : promised s.send s.recv ended.end place ≡ count_at s.send 0 place + count_at s.recv 0 place =
      ap (λ ps. count_at s.send (length ps) place + count_at s.recv (length rs'.items + length (in_use_by l'.responder.receiver.progress)) place) flushed.items
      ∙ (ap (λ (r : WorkQueue Receive). count_at s.send 0 place + count_at s.recv (length r.items + length (in_use_by l'.responder.receiver.progress)) place) flushed.receives
      ∙ ap (λ (x : EndLink). count_at s.send 0 place + count_at s.recv (0 + length (in_use_by x.responder.receiver.progress)) place) flushed.link) in
      let none1 = count-none s.send place in
      let none2 = count-none s.recv place in
      omega (arith, before, after, none1, none2)

  fits : (place : ℕ) → count_at s.send (length l.requester.items) place + count_at s.recv (length (all_receives l s.end.recvs)) place ≤ reserved_in s.queues place
  fits place = let before = promised-is s.end l s.send s.recv place is in let enough = sound.reserved.enough place in omega (arith, before, enough)

  settles : Settles s.queues qs' (λ place. count_at s.send (length l.requester.items) place + count_at s.recv (length (all_receives l s.end.recvs)) place)
  settles =
      let n1 : ℕ = length l.requester.items in
      let n2 : ℕ = length (all_receives l s.end.recvs) in
      let m1 : List Completion = failing s.end.number status' (bares l.requester.items) in
      let one = settles-at s.queues s.send n1 m1 sound.reserved.send_there (requests-fit s.queues s.send s.recv n1 n2 fits) in
      let within : s.recv < length (settle_at s.queues s.send n1 m1) = let same = settle-length s.queues s.send n1 m1 in let there = sound.reserved.recv_there in omega (arith, same, there) in
      let two = settles-at (settle_at s.queues s.send n1 m1) s.recv n2 (map (failed_receive s.end.number status.Flush) (all_receives l s.end.recvs)) within
      (receives-fit s.queues s.send s.recv n1 n2 m1 sound.reserved.send_there fits) in
      subst (λ qs. Settles s.queues qs (λ place. count_at s.send n1 place + count_at s.recv n2 place)) (sym flushed.queues) (settles-both s.queues _ _ (count_at s.send n1) (count_at s.recv n2) one two)

  pub failed-keeps : Keeps s ended [] nothing
  failed-keeps =
      let whole : untold_by s.end.link ++ [] ≡ l.requester.items ++ l'.requester.items =
      ap (λ o. untold_by o ++ []) is ∙ ap (λ ps. l.requester.items ++ ps) (sym flushed.items) in
      record {
        end = record { number = refl; domain = refl; send_depth = refl; recv_depth = refl };
        untold = record { gone = length (untold_by s.end.link); left = flushed.items ∙ sym (drop-append_seam (untold_by s.end.link) []) };
        regions = refl;
        lists = frame-lists s.pool pool' s.held (untold_by s.end.link ++ []) l.requester.items l'.requester.items whole flushed.lists;
        kept = none-kept l'.requester.items flushed.items;
        free = frame-free s.pool pool' (untold_by s.end.link ++ []) l.requester.items l'.requester.items whole flushed.lists (none-kept l'.requester.items flushed.items);
        queues = keeps-settled s.queues qs' s.send s.recv s.end ended.end nothing _ settles work;
      }
    where
      none-kept : (ps : List QueuedRequest) → ps ≡ [] → All (λ p. bytes_of pool' p.payload.list ≡ bytes_of s.pool p.payload.list) ps
      none-kept ps e = subst (λ xs. All (λ p. bytes_of pool' p.payload.list ≡ bytes_of s.pool p.payload.list) xs) (sym e) (All-nil (λ p. bytes_of pool' p.payload.list ≡ bytes_of s.pool p.payload.list))

  pub failed-sound : (IsServing s.held s.end.domain l.responder s.end.recvs.items → IsServing s.held s.end.domain (record l.responder { receiver = idled l.responder.receiver }) s.end.recvs.items)
      → ((v : Receiving) (n : ℕ) → IsServing s.held s.end.domain v s.end.recvs.items → IsServing s.held s.end.domain v (drop n s.end.recvs.items)) → IsSound ended nothing
  failed-sound cut flush =
      let responder : l'.responder ≡ record l.responder { receiver = idled l.responder.receiver } = ap (λ (x : EndLink). x.responder) flushed.link in
      let terms : l'.terms ≡ l.terms = ap (λ (x : EndLink). x.terms) flushed.link in
      let unused : rs'.items ≡ [] = ap (λ r. r.items) flushed.receives in
      let serves : IsServing s.held s.end.domain (record l.responder { receiver = idled l.responder.receiver }) [] =
      subst (λ us. IsServing s.held s.end.domain (record l.responder { receiver = idled l.responder.receiver }) us) (drop_all (length s.end.recvs.items) s.end.recvs.items (omega arith))
      (flush (record l.responder { receiver = idled l.responder.receiver }) (length s.end.recvs.items) (cut linked-before.serving)) in
      record {
        end = record {
          queue = none-of s.pool s.held s.end l sound.end is;
          depth = ap (λ r. r.depth) flushed.receives ∙ sound.end.depth;
          state = record {
            terms = subst AreTerms (sym terms) linked-before.terms;
            sending_terms = flushed.terms ∙ (linked-before.sending_terms ∙ sym terms);
            serving_terms = ap (λ r. r.terms) responder ∙ (linked-before.serving_terms ∙ sym terms);
            depth = flushed.depth ∙ linked-before.depth;
            fit = subst (λ ps. length ps ≤ s.end.send_depth) (sym flushed.items) (omega arith);
            posted = subst (λ ps. All (IsPosted pool' s.held s.end.domain) ps) (sym flushed.items) (All-nil (IsPosted pool' s.held s.end.domain));
            apart = subst (λ ps. IsDistinct nat_eq (payload_lists ps)) (sym flushed.items) distinct-none;
            serving = subst (λ r. IsServing s.held s.end.domain r rs'.items) (sym responder) (subst (λ us. IsServing s.held s.end.domain (record l.responder { receiver = idled l.responder.receiver }) us) (sym unused) serves);
            none_untold = λ e. flushed.items;
            none_unused = λ e. unused;
            no_message = λ e. ap (λ r. r.receiver.progress) responder;
            running = λ e. ap (λ (x : EndLink). x.moves.phase) flushed.link;
          };
        };
        regions = given-held s.pool pool' s.held l.requester.items flushed.lists (outside s.pool s.held s.end.domain l.requester.items linked-before.posted) sound.regions;
        reserved = reserved-after s.queues qs' s.send s.recv s.end ended.end nothing _ settles work sound.reserved;
      }

-- the requests and the message, and then the receives
pub flushed-both : (number : ℕ) (s : WcStatus) (send recv : ℕ) (l l' : EndLink) (rs rs' : WorkQueue Receive) (pool pool' : Pool) (qs mid qs' : List (Name × Queue)) (used : Option Receive)
    → listed used ≡ in_use_by l.responder.receiver.progress
    → l' ≡ record l { ended = true; requester = l'.requester; responder = record l.responder { receiver = idled l.responder.receiver }; moves = record l.moves { phase = phase.Running } }
    → l'.requester.terms ≡ l.requester.terms → l'.requester.depth ≡ l.requester.depth → l'.requester.items ≡ []
    → sender_of l'.requester ≡ emptied_at (end_of_queue l.requester.terms (sender_of l.requester))
    → mid ≡ settle_at qs send (length l.requester.items) (failing number s (bares l.requester.items)) → GivesBack pool pool' l.requester.items
    → rs' ≡ record rs { items = [] }
    → qs' ≡ settle_at mid recv (length (listed used ++ rs.items)) (map (failed_receive number status.Flush) (listed used ++ rs.items))
    → IsFlushed number s send recv l l' rs rs' pool pool' qs qs'
flushed-both number s send recv l l' rs rs' pool pool' qs mid qs' used is link terms depth items numbers requests lists receives queues = record {
  link = link;
  terms = terms;
  depth = depth;
  items = items;
  numbers = numbers;
  receives = receives;
  queues = queues
      ∙ (ap (λ us. settle_at mid recv (length (us ++ rs.items)) (map (failed_receive number status.Flush) (us ++ rs.items))) is
      ∙ ap (λ x. settle_at x recv (length (all_receives l rs)) (map (failed_receive number status.Flush) (all_receives l rs))) requests);
  lists = lists;
}
