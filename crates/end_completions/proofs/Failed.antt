-- Work that is flushed, one after another.
use Rattle.std.proofs.Common.{◌≡◌, ℕ, suc, ◌+◌, ◌-◌, ◌≤◌, false, List, [], ◌∷◌, length, drop, refl, ap, sym, ◌∙◌, arith, subst}
use Rattle.std.specs.Prelude.{Some, None, map, slice_get}
use Rattle.rdma_types.specs.declared.requests.Completion.{Completion}
use Rattle.rdma_types.specs.declared.requests.Receive.{Receive}
use Rattle.rdma_types.specs.declared.requests.Terms.{Terms}
use Rattle.rdma_types.specs.declared.requests.WcStatus.{WcStatus}
use Rattle.rdma_types.specs.declared.requests.WcStatus.TheVariants as status
use Rattle.rdma_types.specs.Objects as objects
use Rattle.rdma_types.specs.Spans.{end_number, first_number}
use Rattle.page_pool.specs.Pool.{Pool}
use Rattle.end_queues.specs.Completions.{Queue}
use Rattle.end_queues.specs.declared.work_queues.posted.QueuedRequest.{QueuedRequest}
use Rattle.protocol.specs.EndWords.{failed_receive, failed_request}
use Rattle.protocol.specs.Requester.{emptied_at, end_of_queue, failing}
use Rattle.protocol.specs.State.{Sender}
use Rattle.requester.specs.Sending.{Sending, bare, bares, sender_of}
use Rattle.requester.specs.Telling.{LosesOldest, failing_without_oldest}
use Rattle.requester.proofs.Bares.{bare_at}
use Rattle.rdma_types.proofs.Places.{first-one}
use Rattle.requester.proofs.Keeping.{end-drop, end-none, first-none}
use Rattle.end_completions.specs.Completing.{settled}
use Rattle.end_completions.specs.Payloads.{AreApart, GivesBack}
use Rattle.end_completions.proofs.Given.{apart-after, gives-more, gives-none, rest-kept}
use Rattle.end_completions.proofs.Told.{front-of, settled-more, settled-none}

-- the rest of the requests is flushed
failing-rest : (number : ℕ) (s : WcStatus) (b : objects.Posted) (bs : List objects.Posted) → failing number s (b ∷ bs) ≡ failed_request number s b ∷ failing number status.Flush bs
unfolding failing
failing-rest number s b [] = refl
failing-rest number s b (x ∷ xs) = refl

failing-none : (number : ℕ) (s : WcStatus) → failing number s [] ≡ []
unfolding failing
failing-none number s = refl

end-stays : (t : Terms) (s : Sender) (b : objects.Posted) → slice_get s.untold 0 ≡ Some b → end_of_queue t (failing_without_oldest t s) ≡ end_of_queue t s
unfolding end_of_queue failing_without_oldest
end-stays t s b is = omega (arith, end-drop s.untold t.mtu b is, first-one s.untold t.mtu b is)

-- what is flushed from here on is what was left to flush
pub record Failing (number : ℕ) (s s0 : WcStatus) (r r0 : Sending) (pool pool0 : Pool) (q q0 : Queue) : Type 0 where
  pub terms : r.terms ≡ r0.terms
  pub depth : r.depth ≡ r0.depth
  pub end : end_of_queue r.terms (sender_of r) ≡ end_of_queue r0.terms (sender_of r0)
  pub queue : settled (length r.items) (failing number s (bares r.items)) q ≡ settled (length r0.items) (failing number s0 (bares r0.items)) q0
  pub given : (new : Pool) → GivesBack pool new r.items → GivesBack pool0 new r0.items
  pub apart : AreApart pool r.items
  pub reserved : length r.items ≤ q.reserved

pub failing-begins : (number : ℕ) (s : WcStatus) (r : Sending) (pool : Pool) (q : Queue) → AreApart pool r.items → length r.items ≤ q.reserved → Failing number s s r r pool pool q q
failing-begins number s r pool q apart reserved = record { terms = refl; depth = refl; end = refl; queue = refl; given = λ new gives. gives; apart = apart; reserved = reserved }

pub failing-goes_on : (number : ℕ) (s s0 : WcStatus) (r r' r0 : Sending) (pool pool' pool0 : Pool) (q q' q0 : Queue) (p : QueuedRequest)
    → slice_get r.items 0 ≡ Some p → LosesOldest r r' → sender_of r' ≡ failing_without_oldest r.terms (sender_of r)
    → q' ≡ settled 1 (failed_request number s (bare p) ∷ []) q → GivesBack pool pool' (p ∷ [])
    → Failing number s s0 r r0 pool pool0 q q0 → Failing number status.Flush s0 r' r0 pool' pool0 q' q0
failing-goes_on number s s0 r r' r0 pool pool' pool0 q q' q0 p at loses numbers queue gives held =
    let items : r.items ≡ p ∷ r'.items = front-of r.items p at ∙ ap (λ xs. p ∷ xs) (sym loses.items) in
    let apart : AreApart pool (p ∷ r'.items) = subst (λ xs. AreApart pool xs) items held.apart in
    let one : List Completion = failed_request number s (bare p) ∷ [] in
    record {
      terms = loses.terms ∙ held.terms;
      depth = loses.depth ∙ held.depth;
      end = ap (λ t. end_of_queue t (sender_of r')) loses.terms ∙ (ap (λ x. end_of_queue r.terms x) numbers ∙ (end-stays r.terms (sender_of r) (bare p) (bare_at r.items 0 p at) ∙ held.end));
      queue = ap (λ x. settled (length r'.items) (failing number status.Flush (bares r'.items)) x) queue
          ∙ (settled-more (length r'.items) one (failing number status.Flush (bares r'.items)) q
          ∙ (ap (λ more. settled (suc (length r'.items)) more q) (sym (failing-rest number s (bare p) (bares r'.items)))
          ∙ (ap (λ xs. settled (length xs) (failing number s (bares xs)) q) (sym items) ∙ held.queue)));
      given = λ new more. held.given new (subst (λ xs. GivesBack pool new xs) (sym items) (gives-more pool pool' new p r'.items (rest-kept pool pool' p r'.items gives apart.apart) gives more));
      apart = apart-after pool pool' p r'.items gives apart;
      reserved = few (ap length items) (ap (λ x. x.reserved) queue) held.reserved;
    }
  where
    few : length r.items ≡ suc (length r'.items) → q'.reserved ≡ q.reserved - 1 → length r.items ≤ q.reserved → length r'.items ≤ q'.reserved
    few a b c = omega arith

-- what is left when all is flushed
pub record IsFlushed (number : ℕ) (s0 : WcStatus) (r r0 : Sending) (pool pool0 : Pool) (q q0 : Queue) : Type 0 where
  pub items : r.items ≡ []
  pub numbers : sender_of r ≡ emptied_at (end_of_queue r0.terms (sender_of r0))
  pub queue : q ≡ settled (length r0.items) (failing number s0 (bares r0.items)) q0
  pub given : GivesBack pool0 pool r0.items

pub failing-ends : (number : ℕ) (s s0 : WcStatus) (r r' r0 : Sending) (pool pool0 : Pool) (q q0 : Queue)
    → slice_get r.items 0 ≡ None → LosesOldest r r' → sender_of r' ≡ failing_without_oldest r.terms (sender_of r)
    → Failing number s s0 r r0 pool pool0 q q0 → IsFlushed number s0 r' r0 pool pool0 q q0
unfolding end_of_queue failing_without_oldest
failing-ends number s s0 r r' r0 pool pool0 q q0 at loses numbers held =
    let none : r.items ≡ [] = left at in
    let first : r.numbers.first + first_number [] r.terms.mtu 1 ≡ r.numbers.first + end_number [] r.terms.mtu = omega (arith, first-none r.terms.mtu 1, end-none r.terms.mtu) in
    record {
      items = loses.items ∙ ap (λ xs. drop 1 xs) none;
      numbers = numbers
          ∙ (ap (λ us. record { untold = drop 1 us; first = r.numbers.first + first_number us r.terms.mtu 1; una = r.numbers.first + end_number us r.terms.mtu; next = r.numbers.first + end_number us r.terms.mtu; top = r.numbers.first + end_number us r.terms.mtu; spent = 0; waits = 0; rnr_wait = false }) (ap bares none)
          ∙ (ap (λ n. record { untold = []; first = n; una = r.numbers.first + end_number [] r.terms.mtu; next = r.numbers.first + end_number [] r.terms.mtu; top = r.numbers.first + end_number [] r.terms.mtu; spent = 0; waits = 0; rnr_wait = false }) first
          ∙ ap emptied_at (sym (ap (λ us. r.numbers.first + end_number us r.terms.mtu) (ap bares none)) ∙ held.end)));
      queue = sym (ap (λ xs. settled (length xs) (failing number s (bares xs)) q) none ∙ (ap (λ more. settled 0 more q) (failing-none number s) ∙ settled-none q)) ∙ held.queue;
      given = held.given pool (subst (λ xs. GivesBack pool pool xs) (sym none) (gives-none pool));
    }
  where
    left : slice_get r.items 0 ≡ None → r.items ≡ []
    left e = empty r.items e
      where
        empty : (xs : List QueuedRequest) → slice_get xs 0 ≡ None → xs ≡ []
        empty [] h = refl
        empty (x ∷ xs) h = absurd (cc)

-- ---- receives

-- what is flushed from here on is what was left to flush
pub record Flushing (number : ℕ) (rs rs0 : List Receive) (q q0 : Queue) : Type 0 where
  pub queue : settled (length rs) (map (failed_receive number status.Flush) rs) q ≡ settled (length rs0) (map (failed_receive number status.Flush) rs0) q0
  pub reserved : length rs ≤ q.reserved

pub flushing-goes_on : (number : ℕ) (rs rs' rs0 : List Receive) (q q' q0 : Queue) (r : Receive)
    → rs ≡ r ∷ rs' → q' ≡ settled 1 (failed_receive number status.Flush r ∷ []) q
    → Flushing number rs rs0 q q0 → Flushing number rs' rs0 q' q0
flushing-goes_on number rs rs' rs0 q q' q0 r items queue held = record {
  queue = ap (λ x. settled (length rs') (map (failed_receive number status.Flush) rs') x) queue
      ∙ (settled-more (length rs') (failed_receive number status.Flush r ∷ []) (map (failed_receive number status.Flush) rs') q
      ∙ (ap (λ xs. settled (length xs) (map (failed_receive number status.Flush) xs) q) (sym items) ∙ held.queue));
  reserved = few (ap length items) (ap (λ x. x.reserved) queue) held.reserved;
}
  where
    few : length rs ≡ suc (length rs') → q'.reserved ≡ q.reserved - 1 → length rs ≤ q.reserved → length rs' ≤ q'.reserved
    few a b c = omega arith

pub flushing-ends : (number : ℕ) (rs rs0 : List Receive) (q q0 : Queue) → rs ≡ [] → Flushing number rs rs0 q q0 → q ≡ settled (length rs0) (map (failed_receive number status.Flush) rs0) q0
flushing-ends number rs rs0 q q0 none held = sym (ap (λ xs. settled (length xs) (map (failed_receive number status.Flush) xs) q) none ∙ settled-none q) ∙ held.queue

-- the one in use, then the unused ones
pub flush-both : (number : ℕ) (r : Receive) (rs : List Receive) (q q' q'' : Queue) → q' ≡ settled 1 (failed_receive number status.Flush r ∷ []) q
    → q'' ≡ settled (length rs) (map (failed_receive number status.Flush) rs) q' → q'' ≡ settled (suc (length rs)) (map (failed_receive number status.Flush) (r ∷ rs)) q
flush-both number r rs q q' q'' a b = b ∙ (ap (λ x. settled (length rs) (map (failed_receive number status.Flush) rs) x) a ∙ settled-more (length rs) (failed_receive number status.Flush r ∷ []) (map (failed_receive number status.Flush) rs) q)
