-- Requests that are told, one after another.
use Rattle.std.proofs.Common.{◌≡◌, ℕ, suc, ◌+◌, ◌-◌, ◌≤◌, Bool, true, false, List, [], ◌∷◌, ◌++◌, length, drop, take, refl, ap, sym, ◌∙◌, arith, subst, append_assoc}
use Rattle.std.specs.Prelude.{Some, None, nat_lt, map, filter, slice_get, if◌then◌else◌}
use Rattle.std.proofs.lemmas.Bool.Decides.{nat_tests}
use Rattle.std.proofs.lemmas.List.Elements.{All-take}
use Rattle.rdma_types.specs.declared.requests.Completion.{Completion}
use Rattle.rdma_types.specs.declared.requests.Terms.{Terms}
use Rattle.rdma_types.specs.Objects as objects
use Rattle.rdma_types.specs.Spans.{first_number, request_of, span_of}
use Rattle.page_pool.specs.Pool.{Pool, bytes_of}
use Rattle.end_queues.specs.Completions.{Queue}
use Rattle.end_queues.specs.declared.work_queues.posted.QueuedRequest.{QueuedRequest}
use Rattle.protocol.specs.EndWords.{done_request}
use Rattle.protocol.specs.Requester as rows
use Rattle.protocol.specs.Requester.{after_telling, cut_by, told_completions}
use Rattle.protocol.specs.State.{Sender}
use Rattle.requester.specs.Sending.{Sending, bare, bares, sender_of}
use Rattle.requester.specs.Telling.{LosesOldest, next_to_tell, without_oldest}
use Rattle.requester.proofs.Bares.{bare_none}
use Rattle.rdma_types.proofs.Places.{first-zero}
use Rattle.requester.proofs.Keeping.{nothing_told}
use Rattle.end_completions.specs.Completing.{settled, told_count, told_one}
use Rattle.end_completions.specs.Payloads.{AreApart, GivesBack}
use Rattle.end_completions.proofs.Given.{apart-after, gives-more, gives-none, rest-kept}

-- ---- queues

append-none : {A : Type 0} (xs : List A) → xs ++ [] ≡ xs
append-none [] = refl
append-none (x ∷ xs) = ap (λ l. x ∷ l) (append-none xs)

pub settled-none : (q : Queue) → settled 0 [] q ≡ q
settled-none q =
    let same : q.reserved - 0 ≡ q.reserved = omega arith in
    ap (λ n. record q { reserved = n; entries = q.entries ++ [] }) same ∙ ap (λ es. record q { entries = es }) (append-none q.entries)

pub settled-more : (k : ℕ) (a b : List Completion) (q : Queue) → settled k b (settled 1 a q) ≡ settled (suc k) (a ++ b) q
settled-more k a b q =
    let less : (q.reserved - 1) - k ≡ q.reserved - suc k = omega arith in
    ap (λ n. record q { reserved = n; entries = (q.entries ++ a) ++ b }) less ∙ ap (λ es. record q { reserved = q.reserved - suc k; entries = es }) (append_assoc q.entries a b)

-- ---- numbers

past-span : (una first span : ℕ) (none : ℕ) → none ≡ 0 → una - (first + (span + none)) ≡ (una - first) - span
past-span una first span none e = omega arith

told-behind : (t : Terms) (s : Sender) (b : objects.Posted) (bs : List objects.Posted) → s.untold ≡ b ∷ bs → nat_lt 0 (rows.told_count t s) ≡ true
    → rows.told_count t s ≡ suc (rows.told_count t (without_oldest t s))
unfolding request_of first_number
told-behind t s b bs is some =
    by_test (nat_lt (s.una - s.first) (span_of b t.mtu)) refl
  where
    same : rows.told_count t (without_oldest t s) ≡ request_of bs t.mtu ((s.una - s.first) - span_of b t.mtu)
    same =
        ap (λ us. request_of (drop 1 us) t.mtu (s.una - (s.first + first_number us t.mtu 1))) is
        ∙ ap (λ n. request_of bs t.mtu n) (past-span s.una s.first (span_of b t.mtu) (first_number bs t.mtu 0) (first-zero bs t.mtu))

    whole : rows.told_count t s ≡ request_of (b ∷ bs) t.mtu (s.una - s.first)
    whole = ap (λ us. request_of us t.mtu (s.una - s.first)) is

    by_test : (v : Bool) → nat_lt (s.una - s.first) (span_of b t.mtu) ≡ v → rows.told_count t s ≡ suc (rows.told_count t (without_oldest t s))
    by_test true e = absurd (let nil : rows.told_count t s ≡ 0 = whole ∙ (rw e refl) in let no : nat_lt 0 0 ≡ true = ap (λ n. nat_lt 0 n) (sym nil) ∙ some in cc)
    by_test false e = whole ∙ ((rw e refl) ∙ ap suc (sym same))

after-behind : (t : Terms) (s : Sender) (b : objects.Posted) (bs : List objects.Posted) → s.untold ≡ b ∷ bs → nat_lt 0 (rows.told_count t s) ≡ true
    → after_telling t (without_oldest t s) ≡ after_telling t s
unfolding after_telling first_number
after-behind t s b bs is some =
    let k = rows.told_count t (without_oldest t s) in
    let count = told-behind t s b bs is some in
    let first : (s.first + (span_of b t.mtu + first_number bs t.mtu 0)) + first_number bs t.mtu k ≡ s.first + (span_of b t.mtu + first_number bs t.mtu k) = omega (arith, first-zero bs t.mtu) in
    ap (λ us. record s { untold = drop k (drop 1 us); first = (s.first + first_number us t.mtu 1) + first_number (drop 1 us) t.mtu k }) is
    ∙ (ap (λ n. record s { untold = drop k bs; first = n }) first
    ∙ (sym (ap (λ us. record s { untold = drop (suc k) us; first = s.first + first_number us t.mtu (suc k) }) is)
    ∙ ap (λ n. cut_by t s n) (sym count)))

completions-behind : (number : ℕ) (t : Terms) (s : Sender) (p : QueuedRequest) (bs : List objects.Posted) → s.untold ≡ bare p ∷ bs → nat_lt 0 (rows.told_count t s) ≡ true
    → told_completions number t s ≡ told_one number p ++ told_completions number t (without_oldest t s)
unfolding told_completions
completions-behind number t s p bs is some =
    let k = rows.told_count t (without_oldest t s) in
    ap (λ n. map (done_request number) (filter (λ x. x.request.signaled) (take n s.untold))) (told-behind t s (bare p) bs is some)
    ∙ (ap (λ us. map (done_request number) (filter (λ x. x.request.signaled) (take (suc k) us))) is
    ∙ (by_signal k p.request.signaled refl
    ∙ sym (ap (λ us. told_one number p ++ map (done_request number) (filter (λ x. x.request.signaled) (take k (drop 1 us)))) is)))
  where
    by_signal : (k : ℕ) (v : Bool) → p.request.signaled ≡ v
        → map (done_request number) (filter (λ x. x.request.signaled) (bare p ∷ take k bs)) ≡ told_one number p ++ map (done_request number) (filter (λ x. x.request.signaled) (take k bs))
    by_signal k true e = rw e refl
    by_signal k false e = rw e refl

-- ---- the loop

-- what is told from here on is what was left to tell
pub record Telling (number : ℕ) (r r0 : Sending) (pool pool0 : Pool) (q q0 : Queue) : Type 0 where
  pub terms : r.terms ≡ r0.terms
  pub depth : r.depth ≡ r0.depth
  pub numbers : after_telling r.terms (sender_of r) ≡ after_telling r0.terms (sender_of r0)
  pub items : drop (told_count r) r.items ≡ drop (told_count r0) r0.items
  pub queue : settled (told_count r) (told_completions number r.terms (sender_of r)) q ≡ settled (told_count r0) (told_completions number r0.terms (sender_of r0)) q0
  pub given : (new : Pool) → GivesBack pool new (take (told_count r) r.items) → GivesBack pool0 new (take (told_count r0) r0.items)
  pub apart : AreApart pool r.items
  pub reserved : length r.items ≤ q.reserved

pub telling-begins : (number : ℕ) (r : Sending) (pool : Pool) (q : Queue) → AreApart pool r.items → length r.items ≤ q.reserved → Telling number r r pool pool q q
telling-begins number r pool q apart reserved = record {
  terms = refl;
  depth = refl;
  numbers = refl;
  items = refl;
  queue = refl;
  given = λ new gives. gives;
  apart = apart;
  reserved = reserved;
}

-- the oldest request is told
pub some-told : (v : Sending) (p : QueuedRequest) → next_to_tell v ≡ Some p → (nat_lt 0 (told_count v) ≡ true) × (slice_get v.items 0 ≡ Some p)
some-told v p is = by_test (nat_lt 0 (told_count v)) refl
  where
    by_test : (b : Bool) → nat_lt 0 (told_count v) ≡ b → (nat_lt 0 (told_count v) ≡ true) × (slice_get v.items 0 ≡ Some p)
    by_test true e = (e, sym (ap (λ b. if b then slice_get v.items 0 else None) e) ∙ is)
    by_test false e = absurd (let none : None ≡ Some p = sym (ap (λ b. if b then slice_get v.items 0 else None) e) ∙ is in cc)

pub front-of : {A : Type 0} (xs : List A) (x : A) → slice_get xs 0 ≡ Some x → xs ≡ x ∷ drop 1 xs
front-of [] x e = absurd (cc)
front-of (y ∷ ys) x e = let same : y ≡ x = cc in ap (λ z. z ∷ ys) same

pub telling-goes_on : (number : ℕ) (r r' r0 : Sending) (pool pool' pool0 : Pool) (q q' q0 : Queue) (p : QueuedRequest)
    → next_to_tell r ≡ Some p → LosesOldest r r' → sender_of r' ≡ without_oldest r.terms (sender_of r)
    → q' ≡ settled 1 (told_one number p) q → GivesBack pool pool' (p ∷ [])
    → Telling number r r0 pool pool0 q q0 → Telling number r' r0 pool' pool0 q' q0
telling-goes_on number r r' r0 pool pool' pool0 q q' q0 p next loses numbers queue gives held =
    let some = some-told r p next in
    let items : r.items ≡ p ∷ drop 1 r.items = front-of r.items p some.1 in
    let us : bares r.items ≡ bare p ∷ bares (drop 1 r.items) = ap bares items in
    let told : told_count r' ≡ rows.told_count r.terms (without_oldest r.terms (sender_of r)) = ap (λ t. rows.told_count t (sender_of r')) loses.terms ∙ ap (λ s. rows.told_count r.terms s) numbers in
    let count : told_count r ≡ suc (told_count r') = told-behind r.terms (sender_of r) (bare p) (bares (drop 1 r.items)) us some.0 ∙ ap suc (sym told) in
    let done : told_completions number r.terms (sender_of r) ≡ told_one number p ++ told_completions number r'.terms (sender_of r') =
    completions-behind number r.terms (sender_of r) p (bares (drop 1 r.items)) us some.0
    ∙ sym (ap (λ t. told_one number p ++ told_completions number t (sender_of r')) loses.terms ∙ ap (λ s. told_one number p ++ told_completions number r.terms s) numbers) in
    let taken : take (told_count r) r.items ≡ p ∷ take (told_count r') r'.items =
    ap (λ n. take n r.items) count ∙ (ap (λ xs. take (suc (told_count r')) xs) items ∙ ap (λ xs. p ∷ take (told_count r') xs) (sym loses.items)) in
    let apart : AreApart pool (p ∷ r'.items) = subst (λ xs. AreApart pool xs) (items ∙ ap (λ xs. p ∷ xs) (sym loses.items)) held.apart in
    record {
      terms = loses.terms ∙ held.terms;
      depth = loses.depth ∙ held.depth;
      numbers = ap (λ t. after_telling t (sender_of r')) loses.terms ∙ (ap (λ s. after_telling r.terms s) numbers ∙ (after-behind r.terms (sender_of r) (bare p) (bares (drop 1 r.items)) us some.0 ∙ held.numbers));
      items = ap (λ xs. drop (told_count r') xs) loses.items ∙ (sym (ap (λ xs. drop (suc (told_count r')) xs) items) ∙ (ap (λ n. drop n r.items) (sym count) ∙ held.items));
      queue = ap (λ x. settled (told_count r') (told_completions number r'.terms (sender_of r')) x) queue
          ∙ (settled-more (told_count r') (told_one number p) (told_completions number r'.terms (sender_of r')) q
          ∙ (ap (λ n. settled n (told_one number p ++ told_completions number r'.terms (sender_of r')) q) (sym count)
          ∙ (ap (λ more. settled (told_count r) more q) (sym done) ∙ held.queue)));
      given = λ new more. held.given new (subst (λ xs. GivesBack pool new xs) (sym taken) (gives-more pool pool' new p (take (told_count r') r'.items) (All-take (λ x. bytes_of pool' x.payload.list ≡ bytes_of pool x.payload.list) (told_count r') r'.items (rest-kept pool pool' p r'.items gives apart.apart)) gives more));
      apart = apart-after pool pool' p r'.items gives apart;
      reserved = few (ap length items) (ap length loses.items) (ap (λ x. x.reserved) queue) held.reserved;
    }
  where
    few : length r.items ≡ suc (length (drop 1 r.items)) → length r'.items ≡ length (drop 1 r.items) → q'.reserved ≡ q.reserved - 1 → length r.items ≤ q.reserved → length r'.items ≤ q'.reserved
    few a b c d = omega arith

none-told : (v : Sending) → next_to_tell v ≡ None → told_count v ≡ 0
none-told v is = by_test (nat_lt 0 (told_count v)) refl
  where
    by_items : slice_get v.items 0 ≡ None → nat_lt 0 (told_count v) ≡ false
    by_items e = nothing_told (bares v.items) v.terms.mtu (v.numbers.una - v.numbers.first) (bare_none v.items 0 e)

    by_test : (b : Bool) → nat_lt 0 (told_count v) ≡ b → told_count v ≡ 0
    by_test true e = absurd (let none = by_items (sym (ap (λ b. if b then slice_get v.items 0 else None) e) ∙ is) in cc)
    by_test false e = grind (arith, nat_tests, e)

-- what is left when nothing more is told
pub record Told (number : ℕ) (r r0 : Sending) (pool pool0 : Pool) (q q0 : Queue) : Type 0 where
  pub numbers : sender_of r ≡ after_telling r0.terms (sender_of r0)
  pub items : r.items ≡ drop (told_count r0) r0.items
  pub queue : q ≡ settled (told_count r0) (told_completions number r0.terms (sender_of r0)) q0
  pub given : GivesBack pool0 pool (take (told_count r0) r0.items)

pub telling-ends : (number : ℕ) (r r0 : Sending) (pool pool0 : Pool) (q q0 : Queue) → next_to_tell r ≡ None → Telling number r r0 pool pool0 q q0 → Told number r r0 pool pool0 q q0
unfolding after_telling told_completions
telling-ends number r r0 pool pool0 q q0 none held =
    let nil : told_count r ≡ 0 = none-told r none in
    let first : r.numbers.first + first_number (bares r.items) r.terms.mtu 0 ≡ r.numbers.first = omega (arith, first-zero (bares r.items) r.terms.mtu) in
    let same : after_telling r.terms (sender_of r) ≡ sender_of r =
    ap (λ n. cut_by r.terms (sender_of r) n) nil ∙ ap (λ n. record (sender_of r) { first = n }) first in
    record {
      numbers = sym same ∙ held.numbers;
      items = sym (ap (λ n. drop n r.items) nil) ∙ held.items;
      queue = sym (ap (λ n. settled n (map (done_request number) (filter (λ x. x.request.signaled) (take n (bares r.items)))) q) nil ∙ settled-none q) ∙ held.queue;
      given = held.given pool (subst (λ xs. GivesBack pool pool xs) (sym (ap (λ n. take n r.items) nil)) (gives-none pool));
    }
