-- Connected ends, queue pairs and contexts that keep the rules keep them field by field.
use Rattle.std.proofs.Common.{◌≡◌, ℕ, zero, suc, ◌+◌, ◌-◌, ◌^◌, ◌<◌, ◌≤◌, not, ◌&&◌, Bool, true, false, nat_lt, nat_le, List, [], ◌∷◌, ◌++◌, length, map, take, get_or, refl, ap, sym, subst, ◌∙◌, arith, inl, inr, add-one}
use Rattle.std.specs.Prelude.{◌||◌, ◌==◌, ◌≢◌, ◌⊎◌, All, AllPairs, Option, Some, None, is_some, slice_get, IfSome, if◌then◌else◌}
use Rattle.std.proofs.lemmas.Bool.Decides.{nat_tests}
use Rattle.std.proofs.lemmas.List.{get_or-take, get_or_default, length-map, length-take}
use Rattle.std.proofs.lemmas.Option.{slice_get-get_or, get_or_from_slice_get}
use Rattle.rdma_types.specs.declared.names.Name.{Name}
use Rattle.rdma_types.specs.declared.requests.Kind.{Kind}
use Rattle.rdma_types.specs.declared.requests.Kind.TheVariants as kind
use Rattle.rdma_types.specs.declared.requests.Receive.{Receive}
use Rattle.rdma_types.specs.declared.requests.Request.{Request}
use Rattle.rdma_types.specs.Kinds.{is_atomic, is_read, lands, takes_bytes}
use Rattle.rdma_types.specs.Limits.{most_bytes, most_domains, most_ends, most_queues, most_regions, number_limit}
use Rattle.rdma_types.specs.Lists.{has_name, some}
use Rattle.rdma_types.specs.Memory.{is_granted, landing_right, local_key}
use Rattle.rdma_types.specs.Objects.{Region}
use Rattle.rdma_types.specs.Shapes.{has_remote, is_swap}
use Rattle.rdma_types.specs.Spans.{end_number, first_number, span_of}
use Rattle.protocol.specs.declared.images.ContextImage.{ContextImage}
use Rattle.protocol.specs.declared.images.CqImage.{CqImage}
use Rattle.protocol.specs.declared.images.EndImage.{EndImage}
use Rattle.protocol.specs.declared.images.LinkImage.{LinkImage}
use Rattle.protocol.specs.declared.images.PostedImage.{PostedImage}
use Rattle.protocol.specs.declared.images.Progress.{Progress}
use Rattle.protocol.specs.declared.images.Progress.TheVariants as progress
use Rattle.protocol.specs.declared.images.RegionImage.{RegionImage}
use Rattle.protocol.specs.Images.{context_of, name_at, posted_of_image, region_of_image}
use Rattle.protocol.specs.Lawful.{AreLawfulNumbers, AreNames, HasLandingBefore, IsLawful, IsLawfulEnd, IsLawfulLink, IsLawfulReceive, IsLawfulRegion, IsLawfulRequest, IsLawfulState, is_number, first_of, end_of}
use Rattle.protocol.specs.Dumps.{Dumps, Good, dump_bytes, read_dump, kind_of, kind_number, imm_number, has_flag, request_flags, are_flags, is_request_length, keeps_numbers, end_so_far, shape_of_length, state_byte, is_untold_count, is_ended, is_unfenced, is_below_limit, follows}
use Rattle.law_dump_round_trip.specs.Fits.{FitsEnd, FitsFields, FitsLink, FitsReceive, FitsRequest}
use Rattle.law_dump_round_trip.proofs.Exact.{Passes, Rises}
use Rattle.law_dump_round_trip.proofs.Things.{IsNewName, RegionRule, ReceiveRule, LinkRule, bit_number, kind_again, progress_code}
use Rattle.law_dump_round_trip.proofs.Groups.{RequestRule, EndRule, QueueRule, UntoldRule, UnusedRule, LinkedRule, StateRule, imm_flag, fence_flag}
use Rattle.law_dump_round_trip.proofs.Context.{ContextRule, HaveRoom, ListRule, read_back}
use Rattle.law_dump_round_trip.proofs.Lists.{and_first, and_second, both_hold, map_same, not_false, not_true, or_none_first, or_none_second, rises_from}
use Rattle.law_dump_round_trip.proofs.Keeps.{le_of, lt_of, eq_of}
use Rattle.law_dump_round_trip.proofs.Numbering.{low_is, high_is, end_is, or_second}
use Rattle.law_dump_round_trip.proofs.Back.{yes_le, yes_lt, yes_eq, yes_within, or_left, or_right, new_name, new_number, list_back, region_back, queue_back, room_back, receive_back, message_back, terms_back, kept_back, imm_fits, number_small}

-- ---- numbers

no_shortage : (a b : ℕ) → b ≤ a → nat_lt a b ≡ false
no_shortage a b h = grind (arith, nat_tests)

and_false : (a b : Bool) → b ≡ false → (a && b) ≡ false
and_false true b h = h
and_false false b h = refl

-- no first number is past the end
first_in : (ps : List PostedImage) (mtu k : ℕ) → first_number (map posted_of_image ps) mtu k ≤ end_number (map posted_of_image ps) mtu
unfolding first_number end_number
first_in [] mtu k = omega arith
first_in (p ∷ ps) mtu zero = omega arith
first_in (p ∷ ps) mtu (suc k) = let h = first_in ps mtu k in omega arith

inside_from : (low high next una : ℕ) → (next ≤ low) ⊎ ((high ≤ next) ⊎ (next ≡ una)) → not ((nat_lt low next && nat_lt next high) && not (next == una)) ≡ true
inside_from low high next una (inl h) = rw (no_shortage low next h) refl
inside_from low high next una (inr (inl h)) = rw (no_shortage next high h, and_false (nat_lt low next) false refl) refl
inside_from low high next una (inr (inr h)) = rw (yes_eq next una h, and_false (nat_lt low next && nat_lt next high) false refl) refl

inside_back : (low high next una : ℕ) (r : Bool) → (r ≡ true → (next ≤ low) ⊎ ((high ≤ next) ⊎ (next ≡ una))) → not (r && ((nat_lt low next && nat_lt next high) && not (next == una))) ≡ true
inside_back low high next una false h = refl
inside_back low high next una true h = inside_from low high next una (h refl)

-- a thing that passes a test, among those before a place
record Passing (A : Type 0) (t : A → Bool) (xs : List A) (i : ℕ) : Type 0 where
  j : ℕ
  thing : A
  before : j < i
  there : slice_get xs j ≡ Some thing
  passes : t thing ≡ true

passing_by : {A : Type 0} (t : A → Bool) (x : A) (xs : List A) (i : ℕ) (b : Bool) → t x ≡ b → (b || some t (take i xs)) ≡ true → (some t (take i xs) ≡ true → Passing A t xs i) → Passing A t (x ∷ xs) (suc i)
passing_by t x xs i true e h f = record { j = 0; thing = x; before = omega arith; there = refl; passes = e }
passing_by t x xs i false e h f = let p = f h in record { j = suc p.j; thing = p.thing; before = omega (arith, p.before); there = p.there; passes = p.passes }

passing : {A : Type 0} (t : A → Bool) (xs : List A) (i : ℕ) → some t (take i xs) ≡ true → Passing A t xs i
unfolding some
passing t [] zero h = cc
passing t [] (suc i) h = cc
passing t (x ∷ xs) zero h = cc
passing t (x ∷ xs) (suc i) h = passing_by t x xs i (t x) refl h (λ g. passing t xs i g)

fence_back : (f s b : Bool) → (f ≡ true → s ≡ true → b ≡ false) → not (f && (s && b)) ≡ true
fence_back false s b h = refl
fence_back true false b h = refl
fence_back true true b h = rw (h refl refl) refl

-- ---- requests

kind_small : (k : Kind) → kind_number k ≤ 4
kind_small kind.Write = omega arith
kind_small kind.Send = omega arith
kind_small kind.Read = omega arith
kind_small kind.CompareSwap = omega arith
kind_small kind.FetchAdd = omega arith

flags_by : (s i f : Bool) → (if s then 1 else 0) + (if i then 2 else 0) + (if f then 4 else 0) < 8
flags_by true true true = omega arith
flags_by true true false = omega arith
flags_by true false true = omega arith
flags_by true false false = omega arith
flags_by false true true = omega arith
flags_by false true false = omega arith
flags_by false false true = omega arith
flags_by false false false = omega arith

imm_by : (o : Option ℕ) (t : Bool) → (t ≡ false → o ≡ None) → (not (is_some o) || t) ≡ true
imm_by None t h = refl
imm_by (Some n) true h = refl
imm_by (Some n) false h = let e = h refl in cc

imm_none : (o : Option ℕ) → (is_some o || imm_number o == 0) ≡ true
imm_none None = refl
imm_none (Some n) = refl

size_back : (t : Bool) (n : ℕ) → (t ≡ true → n ≡ 8) → n ≤ most_bytes → (if t then n == 8 else nat_le n most_bytes) ≡ true
size_back true n h l = yes_eq n 8 (h refl)
size_back false n h l = yes_le n most_bytes l

zero_by : (t : Bool) (n : ℕ) → (t ≡ false → n ≡ 0) → (t || n == 0) ≡ true
zero_by true n h = refl
zero_by false n h = yes_eq n 0 (h refl)

version_back : (f : Bool) (version : ℕ) → (f ≡ true → version ≡ 2) → (not f || version == 2) ≡ true
version_back false version h = refl
version_back true version h = yes_eq version 2 (h refl)

first_back : (k una high : ℕ) (t : Bool) → (k == 0) ≡ t → (k ≡ 0 → una < high) → (not t || nat_lt una high) ≡ true
first_back k una high true e h = yes_lt una high (h (eq_of k 0 e))
first_back k una high false e h = refl

last_is : (k n : ℕ) → nat_lt (k + 1) n ≡ false → k < n → k + 1 ≡ n
last_is k n e l = grind (arith, nat_tests)

last_back : (k n top high : ℕ) (t : Bool) → nat_lt (k + 1) n ≡ t → k < n → (k + 1 ≡ n → top ≤ high) → (t || nat_le top high) ≡ true
last_back k n top high true e l h = refl
last_back k n top high false e l h = yes_le top high (h (last_is k n e l))

module _ (c : ContextImage) (version domain : ℕ) (l : LinkImage) (ps : List PostedImage) (numbers : AreLawfulNumbers l ps) (k : ℕ) (p : PostedImage) (lt : k < length ps) (there : slice_get ps k ≡ Some p) where
  place_is : length (take k ps) ≡ k
  place_is = length-take k ps ∙ omega arith

  order_back : keeps_numbers l (length ps) (length (take k ps)) p.request.shape.kind (end_so_far l (take k ps)) (end_so_far l (take k ps) + shape_of_length p.request.shape.kind p.request.shape.length l.terms.mtu) ≡ true
  order_back =
      let found : get_or ps k p ≡ p = get_or_from_slice_get ps k p p there in
      let low : first_of l ps k ≡ end_so_far l (take k ps) = low_is l ps k in
      let high : first_of l ps (suc k) ≡ end_so_far l (take k ps) + shape_of_length p.request.shape.kind p.request.shape.length l.terms.mtu = high_is l ps k p lt ∙ ap (λ (x : PostedImage). end_so_far l (take k ps) + shape_of_length x.request.shape.kind x.request.shape.length l.terms.mtu) found in
      let inside = first_in ps l.terms.mtu (suc k) in
      let limit = numbers.limit in
      let top_in = numbers.all in
      let end : end_of l ps ≡ first_of l ps (length ps) = end_is l ps in
      let goal : keeps_numbers l (length ps) k p.request.shape.kind (first_of l ps k) (first_of l ps (suc k)) ≡ true =
      both_hold _ _ (yes_lt (first_of l ps (suc k)) number_limit (omega arith))
      (both_hold _ _ (first_back k l.una (first_of l ps (suc k)) (k == 0) refl (λ z. subst (λ (n : ℕ). l.una < first_of l ps (suc n)) (sym z) (numbers.in_first p (subst (λ (n : ℕ). slice_get ps n ≡ Some p) z there))))
      (both_hold _ _ (inside_back (first_of l ps k) (first_of l ps (suc k)) l.next l.una (is_read p.request.shape.kind) (λ t. numbers.no_read_inside k p there t))
      (last_back k (length ps) l.top (first_of l ps (suc k)) (nat_lt (k + 1) (length ps)) refl lt (λ e. subst (λ (n : ℕ). l.top ≤ first_of l ps n) (sym e ∙ add-one k) (subst (λ (n : ℕ). l.top ≤ n) end top_in))))) in
      subst (λ (n : ℕ). keeps_numbers l (length ps) n p.request.shape.kind (end_so_far l (take k ps)) (end_so_far l (take k ps) + shape_of_length p.request.shape.kind p.request.shape.length l.terms.mtu) ≡ true) (sym place_is)
      (subst (λ (n : ℕ). keeps_numbers l (length ps) k p.request.shape.kind n (end_so_far l (take k ps) + shape_of_length p.request.shape.kind p.request.shape.length l.terms.mtu) ≡ true) low
      (subst (λ (n : ℕ). keeps_numbers l (length ps) k p.request.shape.kind (first_of l ps k) n ≡ true) high goal))

  flags_back : (p.request.fence ≡ true → version ≡ 2) → IsLawfulRequest c domain p → are_flags version l (take k ps) p.request.shape.kind (request_flags p.request) ≡ true
  flags_back known h =
      let fence : has_flag 4 (request_flags p.request) ≡ p.request.fence = fence_flag p.request in
      let imm : has_flag 2 (request_flags p.request) ≡ is_some p.request.shape.imm = imm_flag p.request in
      both_hold _ _ (yes_lt (request_flags p.request) 8 (flags_by p.request.signaled (is_some p.request.shape.imm) p.request.fence))
      (both_hold _ _ (ap (λ (b : Bool). not b || takes_bytes p.request.shape.kind) imm ∙ imm_by p.request.shape.imm (takes_bytes p.request.shape.kind) h.shape.imm)
      (both_hold _ _ (ap (λ (b : Bool). not b || version == 2) fence ∙ version_back p.request.fence version known)
      (fence_back (has_flag 4 (request_flags p.request)) (some (λ q. lands q.request.shape.kind) (take k ps)) (nat_lt (end_so_far l (take k ps)) l.top) (λ f t.
      let w = passing (λ (q : PostedImage). lands q.request.shape.kind) ps k t in
      let before : HasLandingBefore ps k = record { j = w.j; posted = w.thing; before = w.before; there = w.there; landing = w.passes } in
      no_shortage (end_so_far l (take k ps)) l.top (subst (λ (n : ℕ). l.top ≤ n) (low_is l ps k) (numbers.fenced k p there (sym fence ∙ f) before))))))

  pub request_back : (p.request.fence ≡ true → version ≡ 2) → IsLawfulRequest c domain p → FitsRequest p → RequestRule version (map (region_of_image c.domains) c.regions) (name_at c.domains domain) l (length ps) (take k ps) p
  unfolding context_of
  request_back known h f =
      let kind_is : p.request.shape.kind ≡ kind_of (kind_number p.request.shape.kind) = sym (kind_again p.request.shape.kind) in
      let flags = flags_by p.request.signaled (is_some p.request.shape.imm) p.request.fence in
      record {
        id = record { test = refl; fits = let m = f.id in omega arith };
        kind' = record { test = yes_le (kind_number p.request.shape.kind) 4 (kind_small p.request.shape.kind); fits = let m = kind_small p.request.shape.kind in omega arith };
        flags = record { test = subst (λ (x : Kind). are_flags version l (take k ps) x (request_flags p.request) ≡ true) kind_is (flags_back known h); fits = omega arith };
        imm = record { test = ap (λ (b : Bool). b || imm_number p.request.shape.imm == 0) (imm_flag p.request) ∙ imm_none p.request.shape.imm; fits = imm_fits p.request.shape.imm f.imm };
        length' = record {
          test = subst (λ (x : Kind). is_request_length l (length ps) (take k ps) x p.request.shape.length ≡ true) kind_is (both_hold _ _ (size_back (is_atomic p.request.shape.kind) p.request.shape.length h.shape.word h.length') order_back);
          fits = let m = h.length' in omega arith;
        };
        lkey = record { test = refl; fits = let m = f.lkey in omega arith };
        local = record { test = subst (λ (x : Kind). is_granted local_key (map (region_of_image c.domains) c.regions) (name_at c.domains domain) p.request.lkey p.request.local p.request.shape.length (landing_right x) ≡ true) kind_is h.granted; fits = let m = f.local in omega arith };
        remote = record { test = subst (λ (x : Kind). (has_remote x || p.request.shape.remote == 0) ≡ true) kind_is (zero_by (has_remote p.request.shape.kind) p.request.shape.remote h.shape.remote); fits = let m = f.remote in omega arith };
        rkey = record { test = subst (λ (x : Kind). (has_remote x || p.request.shape.rkey == 0) ≡ true) kind_is (zero_by (has_remote p.request.shape.kind) p.request.shape.rkey h.shape.rkey); fits = let m = f.rkey in omega arith };
        swap_add = record { test = subst (λ (x : Kind). (is_atomic x || p.request.shape.swap_add == 0) ≡ true) kind_is (zero_by (is_atomic p.request.shape.kind) p.request.shape.swap_add h.shape.swap_add); fits = let m = f.swap_add in omega arith };
        compare = record { test = subst (λ (x : Kind). (is_swap x || p.request.shape.compare == 0) ≡ true) kind_is (zero_by (is_swap p.request.shape.kind) p.request.shape.compare h.shape.compare); fits = let m = f.compare in omega arith };
        payload = subst (λ (x : Kind). length p.payload ≡ (if takes_bytes x then p.request.shape.length else 0)) kind_is h.payload;
      }

-- ---- connected ends

resume_back : (b e : Bool) → (e ≡ true → b ≡ false) → nat_le (bit_number b) (if e then 0 else 1) ≡ true
resume_back false true h = refl
resume_back false false h = refl
resume_back true true h = let e = h refl in cc
resume_back true false h = refl

code_back : (p : Progress) (e : Bool) → (e ≡ true → p ≡ progress.Idle) → nat_le (progress_code p) (if e then 0 else 2) ≡ true
code_back progress.Idle true h = refl
code_back progress.Idle false h = refl
code_back (progress.Send done receive) true h = let e = h refl in cc
code_back (progress.Send done receive) false h = refl
code_back (progress.Write region off length' done) true h = let e = h refl in cc
code_back (progress.Write region off length' done) false h = refl

bit_small : (b : Bool) → (nat_le (bit_number b) 1 ≡ true) × (bit_number b < 256)
bit_small true = (refl, omega arith)
bit_small false = (refl, omega arith)

resume_small : (b : Bool) → bit_number b < 256
resume_small b = (bit_small b).1

code_small : (p : Progress) → progress_code p < 256
code_small progress.Idle = omega arith
code_small (progress.Send done receive) = omega arith
code_small (progress.Write region off length' done) = omega arith

follows_back : (ended : Bool) (low n : ℕ) → n < number_limit → low ≤ n → (ended ≡ true → n ≤ low) → follows ended low n ≡ true
follows_back true low n b l h = let e = h refl in both_hold _ _ (yes_lt n number_limit b) (yes_eq n low (omega arith))
follows_back false low n b l h = both_hold _ _ (yes_lt n number_limit b) (yes_le low n l)

waits_back : (rnr waits : ℕ) → (waits ≤ rnr) ⊎ (rnr ≡ 7) → (rnr == 7 || nat_le waits rnr) ≡ true
waits_back rnr waits (inl h) = or_right (rnr == 7) (nat_le waits rnr) (yes_le waits rnr h)
waits_back rnr waits (inr h) = or_left (rnr == 7) (nat_le waits rnr) (yes_eq rnr 7 h)

-- without requests the numbers end where they begin
flat : (l : LinkImage) (ps : List PostedImage) → ps ≡ [] → end_of l ps ≡ l.first + 0
unfolding end_number
flat l ps h = ap (λ (xs : List PostedImage). end_of l xs) h

no_items : {A : Type 0} (xs : List A) → length xs ≡ 0 → xs ≡ []
no_items [] h = refl
no_items (x ∷ xs) h = absurd (omega arith)

not_none : (n : ℕ) → (n == 0) ≡ false → n ≡ 0 → ⊥
not_none n h e = grind (arith, nat_tests)

ended_state : (b : Bool) → (if b then 2 else 1) ≤ 2
ended_state true = omega arith
ended_state false = omega arith

state_small : (o : Option LinkImage) → state_byte o ≤ 2
state_small None = omega arith
state_small (Some l) = ended_state l.ended

module _ (c : ContextImage) (lawful : IsLawful c) (e : EndImage) where
  link_back : (l : LinkImage) → IsLawfulLink c e l → FitsLink l → LinkRule (map (region_of_image c.domains) c.regions) (name_at c.domains e.domain) l.ended l
  link_back l h f =
      let n = h.numbers in
      let a = n.una in
      let b = n.next in
      let d = n.top in
      let g = n.all in
      let m = n.limit in
      let still : l.ended ≡ true → l.top ≤ l.first = λ t. let z = flat l e.untold (h.no_untold t) in omega arith in
      record {
        is_ended = refl;
        peer = record { test = yes_lt l.peer 16777216 h.peer; fits = let x = h.peer in omega arith };
        ip = record { test = refl; fits = let x = f.ip in omega arith };
        port = record { test = refl; fits = let x = f.port in omega arith };
        moves = record { test = refl; fits = let x = f.moves in omega arith };
        partner_moves = record { test = refl; fits = let x = f.partner_moves in omega arith };
        resuming = record { test = resume_back l.resuming l.ended h.not_resuming; fits = resume_small l.resuming };
        terms = terms_back l.terms h.terms;
        first = record { test = yes_lt l.first number_limit (omega arith); fits = omega arith };
        una = record { test = both_hold _ _ (yes_lt l.una number_limit (omega arith)) (yes_le l.first l.una a); fits = omega arith };
        next = record { test = follows_back l.ended l.una l.next (omega arith) b (λ t. let x = still t in omega arith); fits = omega arith };
        top = record { test = follows_back l.ended l.next l.top (omega arith) d (λ t. let x = still t in omega arith); fits = omega arith };
        spent = record { test = yes_le l.spent l.terms.retry h.spent; fits = let x = h.spent in let y = h.terms.retry in omega arith };
        waits = record { test = waits_back l.terms.rnr l.waits h.waits; fits = let x = f.waits in omega arith };
        rnr_wait = record { test = (bit_small l.rnr_wait).0; fits = (bit_small l.rnr_wait).1 };
        expected = record { test = yes_lt l.expected number_limit h.expected; fits = let x = h.expected in omega arith };
        nak_sent = record { test = (bit_small l.nak_sent).0; fits = (bit_small l.nak_sent).1 };
        msn = record { test = yes_lt l.msn 16777216 h.msn; fits = let x = h.msn in omega arith };
        code = record { test = code_back l.progress l.ended h.no_message; fits = code_small l.progress };
        progress' = record { same = refl; message = message_back c e.domain l.terms.mtu (let x = lawful.region_names.few in omega (arith, length-map c.regions (λ r. r.name))) lawful.regions l.progress h.in_progress f.progress };
        kept = kept_back l.expected l.kept (let x = h.expected in omega arith) h.few_kept h.kept_rise h.kept_before f.kept;
      }

  linked_back : (o : Option LinkImage) → IsLawfulState c e o → IfSome o FitsLink → LinkedRule (map (region_of_image c.domains) c.regions) (name_at c.domains e.domain) o
  linked_back None h f = tt
  linked_back (Some l) h f = link_back l h f

  count_by : (t : Bool) (l : LinkImage) (ps : List PostedImage) → (length ps == 0) ≡ t → l.first ≤ l.top → l.top ≤ end_of l ps → (l.ended ≡ true → ps ≡ []) → (b : Bool) → l.ended ≡ b → (if t then l.top == l.first else not l.ended) ≡ true
  count_by true l ps z low h g b q = let none = flat l ps (no_items ps (eq_of (length ps) 0 z)) in yes_eq l.top l.first (omega arith)
  count_by false l ps z low h g true q = let n = ap length (g q) in absurd (not_none (length ps) z n)
  count_by false l ps z low h g false q = rw q refl

  count_back : (o : Option LinkImage) → IsLawfulState c e o → is_untold_count o (length e.untold) ≡ true
  count_back None h = yes_eq (length e.untold) 0 (ap length h)
  count_back (Some l) h = let n = h.numbers in let a = n.una in let b = n.next in let d = n.top in count_by (length e.untold == 0) l e.untold refl (omega arith) n.all h.no_untold l.ended refl

  unused_by : (l : LinkImage) → (l.ended ≡ true → e.unused ≡ []) → (b : Bool) → l.ended ≡ b → (length e.unused == 0 || not l.ended) ≡ true
  unused_by l h true q = or_left (length e.unused == 0) _ (yes_eq (length e.unused) 0 (ap length (h q)))
  unused_by l h false q = or_right (length e.unused == 0) _ (not_false l.ended q)

  unused_back : (o : Option LinkImage) → IsLawfulState c e o → (length e.unused == 0 || not (is_ended o)) ≡ true
  unused_back None h = or_right (length e.unused == 0) _ refl
  unused_back (Some l) h = unused_by l h.no_unused l.ended refl

  untold_back : (version : ℕ) (o : Option LinkImage) → IsLawfulState c e o → All (IsLawfulRequest c e.domain) e.untold → All FitsRequest e.untold → ((k : ℕ) (d : PostedImage) → k < length e.untold → (get_or e.untold k d).request.fence ≡ true → version ≡ 2) → UntoldRule version (map (region_of_image c.domains) c.regions) (name_at c.domains e.domain) o (length e.untold) e.untold
  untold_back version None h r f known = h
  untold_back version (Some l) h r f known = (refl, rises_from PostedImage (RequestRule version (map (region_of_image c.domains) c.regions) (name_at c.domains e.domain) l (length e.untold)) [] e.untold (λ k d lt. request_back c version e.domain l e.untold h.numbers k (get_or e.untold k d) lt (slice_get-get_or e.untold k d lt) (known k d lt) (r k d lt) (f k d lt)))

  pub end_back : (version : ℕ) (seen : List EndImage) → IsLawfulEnd c e → FitsEnd e → IsNewName (map (λ x. x.name) seen) e.name → some (λ x. x.number == e.number) seen ≡ false → ((k : ℕ) (d : PostedImage) → k < length e.untold → (get_or e.untold k d).request.fence ≡ true → version ≡ 2) → EndRule version c.domains (map (region_of_image c.domains) c.regions) (length c.queues) seen e
  end_back version seen h f name number known =
      let domains = lawful.domains.few in
      let queues : length c.queues ≤ 64 = let x = lawful.queue_names.few in omega (arith, length-map c.queues (λ q. q.name)) in
      let small = number_small e.number h.number in
      let a = h.domain in
      let b = h.send_cq in
      let d = h.recv_cq in
      let s = h.few_sends in
      let r = h.few_receives in
      let u = h.untold_fit in
      let w = h.unused_fit in
      record {
        name = name;
        number = record { test = both_hold _ _ h.number (not_false _ number); fits = omega arith };
        domain = record { test = yes_lt e.domain (length c.domains) a; fits = omega arith };
        send_cq = record { test = yes_lt e.send_cq (length c.queues) b; fits = omega arith };
        recv_cq = record { test = yes_lt e.recv_cq (length c.queues) d; fits = omega arith };
        send_depth = record { test = yes_within 1 256 e.send_depth h.some_sends s; fits = omega arith };
        recv_depth = record { test = yes_within 1 256 e.recv_depth h.some_receives r; fits = omega arith };
        state = record { test = yes_le (state_byte e.linked) 2 (state_small e.linked); fits = let x = state_small e.linked in omega arith };
        linked = record { same = refl; linked = linked_back e.linked h.state f.linked };
        untold_count = record { count = record { test = yes_le (length e.untold) e.send_depth u; fits = omega arith }; rule = count_back e.linked h.state };
        untold = untold_back version e.linked h.state h.requests f.untold known;
        unused_count = record { count = record { test = yes_le (length e.unused) e.recv_depth w; fits = omega arith }; rule = unused_back e.linked h.state };
        unused = record { count = refl; rise = rises_from Receive (λ seen. ReceiveRule (map (region_of_image c.domains) c.regions) (name_at c.domains e.domain) 0) [] e.unused (λ k x l. receive_back c e.domain 0 (get_or e.unused k x) (omega arith) (h.receives k x l) (f.unused k x l)) };
      }

-- ---- the whole

some_false : {A : Type 0} (t : A → Bool) (xs : List A) → some t xs ≡ false → (k : ℕ) (d : A) → k < length xs → t (get_or xs k d) ≡ false
unfolding some
some_false t [] h k d l = absurd (omega arith)
some_false t (x ∷ xs) h zero d l = or_none_first (t x) _ h
some_false t (x ∷ xs) h (suc k) d l = some_false t xs (or_none_second (t x) _ h) k d (omega arith)

known_by : (c : ContextImage) (version : ℕ) (b : Bool) → (version == 2) ≡ b → (version == 2 || (version == 1 && is_unfenced c)) ≡ true → (i : ℕ) (e : EndImage) → i < length c.ends → (k : ℕ) (d : PostedImage) → k < length (get_or c.ends i e).untold → (get_or (get_or c.ends i e).untold k d).request.fence ≡ true → version ≡ 2
known_by c version true z h i e l k d m f = eq_of version 2 z
known_by c version false z h i e l k d m f =
    let one = or_second (version == 2) _ z h in
    let none = not_true _ (and_second (version == 1) _ one) in
    let here = some_false (λ (x : EndImage). some (λ p. p.request.fence) x.untold) c.ends none i e l in
    let there = some_false (λ (p : PostedImage). p.request.fence) (get_or c.ends i e).untold here k d m in
    cc

version_by : (c : ContextImage) (version : ℕ) (b : Bool) → (version == 2) ≡ b → (version == 2 || (version == 1 && is_unfenced c)) ≡ true → (version == 1 || version == 2) ≡ true
version_by c version true z h = or_right (version == 1) _ z
version_by c version false z h = or_left (version == 1) _ (and_first _ _ (or_second (version == 2) _ z h))

pub context_back : (c : ContextImage) (version : ℕ) → (version == 2 || (version == 1 && is_unfenced c)) ≡ true → IsLawful c → FitsFields c → ContextRule version c
unfolding has_name
context_back c version known h f =
    let domains = h.domains.few in
    let names : (k : ℕ) (d : Name) → k < length c.domains → IsNewName (take k c.domains) (get_or c.domains k d) = λ k d l. subst (λ (ns : List Name). IsNewName ns (get_or c.domains k d)) (map_same (take k c.domains)) (new_name Name (λ x. x) c.domains most_domains (subst (λ (ns : List Name). AreNames ns most_domains) (sym (map_same c.domains)) h.domains) k d l) in
    record {
      name = both_hold _ _ h.name refl;
      domains = list_back Name most_domains IsNewName c.domains (omega arith) h.domains.few names;
      regions = list_back RegionImage most_regions (RegionRule (length c.domains)) c.regions (omega arith) (let x = h.region_names.few in omega (arith, length-map c.regions (λ r. r.name))) (λ k d l. region_back (length c.domains) (take k c.regions) (get_or c.regions k d) domains (h.regions k d l) (let x = (h.regions k d l).remote in let y = f.keys k d l in omega arith) (new_name RegionImage (λ r. r.name) c.regions most_regions h.region_names k d l) (new_number RegionImage (λ r. r.keys.local) c.regions h.keys k d l));
      queues = list_back CqImage most_queues QueueRule c.queues (omega arith) (let x = h.queue_names.few in omega (arith, length-map c.queues (λ q. q.name))) (λ k d l. queue_back c (take k c.queues) (get_or c.queues k d) (h.queues k d l) (f.entries k d l) (new_name CqImage (λ q. q.name) c.queues most_queues h.queue_names k d l));
      ends = list_back EndImage most_ends (EndRule version c.domains (map (region_of_image c.domains) c.regions) (length c.queues)) c.ends (omega arith) (let x = h.end_names.few in omega (arith, length-map c.ends (λ e. e.name))) (λ k d l. end_back c h (get_or c.ends k d) version (take k c.ends) (h.ends k d l) (f.ends k d l) (new_name EndImage (λ e. e.name) c.ends most_ends h.end_names k d l) (new_number EndImage (λ e. e.number) c.ends h.numbers k d l) (known_by c version (version == 2) refl known k d l));
    }

-- what is written reads back
pub written_back : (c : ContextImage) (bs : List ℕ) → Dumps c bs → FitsFields c → (place : ℕ) × (read_dump bs ≡ Good c place [])
written_back c bs d f =
    let r = read_back d.version c (version_by c d.version (d.version == 2) refl d.known) (context_back c d.version d.known d.lawful f) (room_back c c.queues d.lawful.queues) in
    (r.0, ap read_dump d.bytes ∙ r.1)
