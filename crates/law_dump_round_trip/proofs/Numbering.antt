-- Packet numbers of the untold requests of an image that was read.
use Rattle.std.proofs.Common.{◌≡◌, ℕ, zero, suc, ◌+◌, ◌-◌, ◌^◌, ◌<◌, ◌≤◌, not, ◌&&◌, Bool, true, false, nat_lt, nat_le, List, [], ◌∷◌, ◌++◌, length, map, take, get_or, refl, ap, sym, subst, ◌∙◌, arith, append_assoc, add-zero, add_assoc}
use Rattle.std.specs.Prelude.{◌||◌, ◌==◌, ◌⊎◌, Option, Some, None, slice_get, if◌then◌else◌}
use Rattle.std.proofs.Common.{inl, inr}
use Rattle.std.proofs.lemmas.Bool.Decides.{nat_tests}
use Rattle.std.proofs.lemmas.List.{length-map, length-take}
use Rattle.std.proofs.lemmas.Option.{get_or_from_slice_get}
use Rattle.rdma_types.specs.Kinds.{is_read, lands, takes_bytes}
use Rattle.rdma_types.specs.Limits.{number_limit}
use Rattle.rdma_types.specs.declared.names.Name.{Name}
use Rattle.rdma_types.specs.declared.requests.Kind.{Kind}
use Rattle.rdma_types.specs.Objects.{Region}
use Rattle.rdma_types.specs.Lists.{some}
use Rattle.rdma_types.specs.Spans.{end_number, first_number, span, span_of}
use Rattle.rdma_types.proofs.Numbers.{ends}
use Rattle.protocol.specs.declared.images.LinkImage.{LinkImage}
use Rattle.protocol.specs.declared.images.PostedImage.{PostedImage}
use Rattle.protocol.specs.Images.{posted_of_image}
use Rattle.protocol.specs.Lawful.{AreLawfulNumbers, HasLandingBefore, first_of, end_of}
use Rattle.protocol.specs.Dumps.{end_so_far, shape_of_length, keeps_numbers, kind_of, kind_number, has_flag, request_flags, is_untold_count, is_below_limit, follows}
use Rattle.law_dump_round_trip.proofs.Exact.{Rises}
use Rattle.law_dump_round_trip.proofs.Groups.{RequestRule, fence_flag}
use Rattle.law_dump_round_trip.proofs.Things.{kind_again, LinkRule}
use Rattle.law_dump_round_trip.proofs.Lists.{and_first, and_second, not_true, rises_at}
use Rattle.law_dump_round_trip.proofs.Keeps.{le_of, lt_of, eq_of}

-- the first number of request k is past those before it
first_take : (ps : List PostedImage) (mtu k : ℕ) → first_number (map posted_of_image ps) mtu k ≡ end_number (map posted_of_image (take k ps)) mtu
unfolding first_number end_number
first_take [] mtu zero = refl
first_take [] mtu (suc k) = refl
first_take (p ∷ ps) mtu zero = refl
first_take (p ∷ ps) mtu (suc k) = ap (λ (n : ℕ). span_of (posted_of_image p) mtu + n) (first_take ps mtu k)

-- the next one, past its span
first_next : (ps : List PostedImage) (mtu k : ℕ) (d : PostedImage) → k < length ps → first_number (map posted_of_image ps) mtu (suc k) ≡ first_number (map posted_of_image ps) mtu k + span_of (posted_of_image (get_or ps k d)) mtu
unfolding first_number
first_next [] mtu k d h = absurd (omega arith)
first_next (p ∷ []) mtu zero d h = omega arith
first_next (p ∷ (q ∷ ps)) mtu zero d h = omega arith
first_next (p ∷ ps) mtu (suc k) d h = ap (λ (n : ℕ). span_of (posted_of_image p) mtu + n) (first_next ps mtu k d (omega arith)) ∙ sym (add_assoc (span_of (posted_of_image p) mtu) _ _)

module _ (l : LinkImage) (ps : List PostedImage) where
  pub low_is : (k : ℕ) → first_of l ps k ≡ end_so_far l (take k ps)
  low_is k = ap (λ (n : ℕ). l.first + n) (first_take ps l.terms.mtu k)

  span_is : (p : PostedImage) → shape_of_length p.request.shape.kind p.request.shape.length l.terms.mtu ≡ span_of (posted_of_image p) l.terms.mtu
  unfolding span
  span_is p = refl

  pub high_is : (k : ℕ) (d : PostedImage) → k < length ps → first_of l ps (suc k) ≡ end_so_far l (take k ps) + shape_of_length (get_or ps k d).request.shape.kind (get_or ps k d).request.shape.length l.terms.mtu
  high_is k d h =
      ap (λ (n : ℕ). l.first + n) (first_next ps l.terms.mtu k d h)
      ∙ (sym (add_assoc l.first (first_number (map posted_of_image ps) l.terms.mtu k) (span_of (posted_of_image (get_or ps k d)) l.terms.mtu))
      ∙ (ap (λ (n : ℕ). n + span_of (posted_of_image (get_or ps k d)) l.terms.mtu) (low_is k)
      ∙ ap (λ (n : ℕ). end_so_far l (take k ps) + n) (sym (span_is (get_or ps k d)))))

  pub end_is : end_of l ps ≡ first_of l ps (length ps)
  end_is = ap (λ (n : ℕ). l.first + n) (sym (ends (map posted_of_image ps) l.terms.mtu) ∙ ap (λ (n : ℕ). first_number (map posted_of_image ps) l.terms.mtu n) (length-map ps posted_of_image))

-- ---- what is read of one request

-- how a request stands among the numbers
pub record Ordered (l : LinkImage) (n k low high : ℕ) (read : Bool) : Type 0 where
  pub limit : high < number_limit
  pub first : k ≡ 0 → l.una < high
  pub inside : read ≡ true → (l.next ≤ low) ⊎ ((high ≤ l.next) ⊎ (l.next ≡ l.una))
  pub last : k + 1 ≡ n → l.top ≤ high

pub or_second : (a b : Bool) → a ≡ false → (a || b) ≡ true → b ≡ true
or_second true b e h = cc
or_second false b e h = h

inside_by : (r a b e : Bool) → not (r && ((a && b) && not e)) ≡ true → r ≡ true → (a ≡ false) ⊎ ((b ≡ false) ⊎ (e ≡ true))
inside_by false a b e h t = cc
inside_by true false b e h t = inl refl
inside_by true true false e h t = inr (inl refl)
inside_by true true true true h t = inr (inr refl)
inside_by true true true false h t = cc

inside_is : (low high next una : ℕ) → (nat_lt low next ≡ false) ⊎ ((nat_lt next high ≡ false) ⊎ ((next == una) ≡ true)) → (next ≤ low) ⊎ ((high ≤ next) ⊎ (next ≡ una))
inside_is low high next una (inl h) = inl (grind (arith, nat_tests))
inside_is low high next una (inr (inl h)) = inr (inl (grind (arith, nat_tests)))
inside_is low high next una (inr (inr h)) = inr (inr (eq_of next una h))

zero_test : (k : ℕ) → k ≡ 0 → not (k == 0) ≡ false
zero_test k h = grind (arith, nat_tests)

last_test : (k n : ℕ) → k + 1 ≡ n → nat_lt (k + 1) n ≡ false
last_test k n h = grind (arith, nat_tests)

pub ordered : (l : LinkImage) (n k low high : ℕ) (kind : Kind) → keeps_numbers l n k kind low high ≡ true → Ordered l n k low high (is_read kind)
ordered l n k low high kind h =
    let a = and_second (nat_lt high number_limit) _ h in
    let b = and_second (not (k == 0) || nat_lt l.una high) _ a in
    record {
      limit = lt_of high number_limit (and_first _ _ h);
      first = λ z. lt_of l.una high (or_second (not (k == 0)) _ (zero_test k z) (and_first _ _ a));
      inside = λ t. inside_is low high l.next l.una (inside_by (is_read kind) (nat_lt low l.next) (nat_lt l.next high) (l.next == l.una) (and_first _ _ b) t);
      last = λ e. le_of l.top high (or_second (nat_lt (k + 1) n) _ (last_test k n e) (and_second _ _ b));
    }

module _ (v : ℕ) (rs : List Region) (domain : Name) (l : LinkImage) (n : ℕ) (ps : List PostedImage) (h : Rises PostedImage (RequestRule v rs domain l n) [] ps) where
  rule_at : (k : ℕ) (d : PostedImage) → k < length ps → RequestRule v rs domain l n (take k ps) (get_or ps k d)
  rule_at k d lt = rises_at PostedImage (RequestRule v rs domain l n) [] ps h k d lt

  place_is : (k : ℕ) → k < length ps → length (take k ps) ≡ k
  place_is k lt = length-take k ps ∙ omega arith

  pub order_at : (k : ℕ) (d : PostedImage) → k < length ps → Ordered l n k (first_of l ps k) (first_of l ps (suc k)) (is_read (get_or ps k d).request.shape.kind)
  order_at k d lt =
      let p : PostedImage = get_or ps k d in
      let r = rule_at k d lt in
      let kind : kind_of (kind_number p.request.shape.kind) ≡ p.request.shape.kind = kind_again p.request.shape.kind in
      let t = and_second _ _ r.length'.test in
      let t1 : keeps_numbers l n (length (take k ps)) p.request.shape.kind (end_so_far l (take k ps)) (end_so_far l (take k ps) + shape_of_length p.request.shape.kind p.request.shape.length l.terms.mtu) ≡ true = subst (λ (x : Kind). keeps_numbers l n (length (take k ps)) x (end_so_far l (take k ps)) (end_so_far l (take k ps) + shape_of_length x p.request.shape.length l.terms.mtu) ≡ true) kind t in
      let t2 : keeps_numbers l n k p.request.shape.kind (first_of l ps k) (end_so_far l (take k ps) + shape_of_length p.request.shape.kind p.request.shape.length l.terms.mtu) ≡ true = subst (λ (y : ℕ). keeps_numbers l n k p.request.shape.kind y (end_so_far l (take k ps) + shape_of_length p.request.shape.kind p.request.shape.length l.terms.mtu) ≡ true) (sym (low_is l ps k)) (subst (λ (x : ℕ). keeps_numbers l n x p.request.shape.kind (end_so_far l (take k ps)) (end_so_far l (take k ps) + shape_of_length p.request.shape.kind p.request.shape.length l.terms.mtu) ≡ true) (place_is k lt) t1) in
      ordered l n k (first_of l ps k) (first_of l ps (suc k)) p.request.shape.kind (subst (λ (x : ℕ). keeps_numbers l n k p.request.shape.kind (first_of l ps k) x ≡ true) (sym (high_is l ps k d lt)) t2)

-- ---- all requests

or_true : (a : Bool) {b : Bool} → b ≡ true → (a || b) ≡ true
or_true true h = refl
or_true false h = h

some_there : {A : Type 0} (t : A → Bool) (xs : List A) (i j : ℕ) (x : A) → j < i → slice_get xs j ≡ Some x → t x ≡ true → some t (take i xs) ≡ true
unfolding some
some_there t [] i j x l g h = cc
some_there t (y ∷ xs) zero j x l g h = absurd (omega arith)
some_there t (y ∷ xs) (suc i) zero x l g h = let same : y ≡ x = cc in rw (ap t same ∙ h) refl
some_there t (y ∷ xs) (suc i) (suc j) x l g h = or_true (t y) (some_there t xs i j x (omega arith) g h)

not_below : (a b : ℕ) → nat_lt a b ≡ false → b ≤ a
not_below a b h = grind (arith, nat_tests)

fence_by : (f s b : Bool) → not (f && (s && b)) ≡ true → f ≡ true → s ≡ true → b ≡ false
fence_by true true b h p q = not_true b h
fence_by true false b h p q = cc
fence_by false s b h p q = cc

follows_le : (ended : Bool) (low n : ℕ) → follows ended low n ≡ true → low ≤ n
follows_le true low n h = let e = eq_of n low (and_second (is_below_limit n) _ h) in omega arith
follows_le false low n h = le_of low n (and_second (is_below_limit n) _ h)

-- the end of the numbers
record Ends (l : LinkImage) (ps : List PostedImage) : Type 0 where
  all : l.top ≤ end_of l ps
  limit : end_of l ps < number_limit

ends_by : (v : ℕ) (rs : List Region) (domain : Name) (l : LinkImage) (ps : List PostedImage) → l.first < number_limit → is_untold_count (Some l) (length ps) ≡ true → Rises PostedImage (RequestRule v rs domain l (length ps)) [] ps → Ends l ps
unfolding end_number
ends_by v rs domain l [] first count h = let e : l.top ≡ l.first = eq_of l.top l.first count in record { all = omega arith; limit = omega arith }
ends_by v rs domain l (p ∷ ps) first count h =
    let o = order_at v rs domain l (length (p ∷ ps)) (p ∷ ps) h (length ps) p (omega arith) in
    let e = end_is l (p ∷ ps) in
    record { all = subst (λ (x : ℕ). l.top ≤ x) (sym e) (o.last (omega arith)); limit = subst (λ (x : ℕ). x < number_limit) (sym e) o.limit }

get_lt : {A : Type 0} (xs : List A) (i : ℕ) (x : A) → slice_get xs i ≡ Some x → i < length xs
get_lt [] i x h = cc
get_lt (y ∷ xs) zero x h = omega arith
get_lt (y ∷ xs) (suc i) x h = let m = get_lt xs i x h in omega arith

module _ (v : ℕ) (rs : List Region) (domain : Name) (ended : Bool) (l : LinkImage) (ps : List PostedImage) (link : LinkRule rs domain ended l) (count : is_untold_count (Some l) (length ps) ≡ true) (h : Rises PostedImage (RequestRule v rs domain l (length ps)) [] ps) where
  fence_keeps : (i : ℕ) (p : PostedImage) → slice_get ps i ≡ Some p → p.request.fence ≡ true → HasLandingBefore ps i → l.top ≤ first_of l ps i
  fence_keeps i p there fenced before =
      let lt : i < length ps = get_lt ps i p there in
      let same : get_or ps i p ≡ p = get_or_from_slice_get ps i p p there in
      let r : RequestRule v rs domain l (length ps) (take i ps) p = subst (λ (x : PostedImage). RequestRule v rs domain l (length ps) (take i ps) x) same (rule_at v rs domain l (length ps) ps h i p lt) in
      let a = and_second (nat_lt (request_flags p.request) 8) _ r.flags.test in
      let b = and_second (not (has_flag 2 (request_flags p.request)) || takes_bytes (kind_of (kind_number p.request.shape.kind))) _ a in
      let d = and_second (not (has_flag 4 (request_flags p.request)) || v == 2) _ b in
      let landing : some (λ (q : PostedImage). lands q.request.shape.kind) (take i ps) ≡ true = some_there (λ (q : PostedImage). lands q.request.shape.kind) ps i before.j before.posted before.before before.there before.landing in
      let f : has_flag 4 (request_flags p.request) ≡ true = fence_flag p.request ∙ fenced in
      let none : nat_lt (end_so_far l (take i ps)) l.top ≡ false = fence_by _ _ _ d f landing in
      subst (λ (x : ℕ). l.top ≤ x) (sym (low_is l ps i)) (not_below (end_so_far l (take i ps)) l.top none)

  -- the numbers of the requester
  pub numbers_keep : AreLawfulNumbers l ps
  numbers_keep =
      let first : l.first < number_limit = lt_of l.first number_limit link.first.test in
      let e = ends_by v rs domain l ps first count h in
      record {
        una = le_of l.first l.una (and_second (is_below_limit l.una) _ link.una.test);
        next = follows_le ended l.una l.next link.next.test;
        top = follows_le ended l.next l.top link.top.test;
        all = e.all;
        limit = e.limit;
        in_first = λ p there. (order_at v rs domain l (length ps) ps h 0 p (get_lt ps 0 p there)).first refl;
        no_read_inside = λ i p there read. (order_at v rs domain l (length ps) ps h i p (get_lt ps i p there)).inside (ap (λ (x : PostedImage). is_read x.request.shape.kind) (get_or_from_slice_get ps i p p there) ∙ read);
        fenced = fence_keeps;
      }
