-- A context that was read keeps the rules.
use Rattle.std.proofs.Common.{◌≡◌, ℕ, zero, suc, ◌+◌, ◌^◌, ◌<◌, ◌≤◌, not, ◌&&◌, Bool, true, false, nat_lt, nat_le, List, [], ◌∷◌, ◌++◌, length, map, take, get_or, refl, ap, sym, subst, ◌∙◌, arith, inl, inr}
use Rattle.std.specs.Prelude.{◌||◌, ◌==◌, ◌≢◌, ◌⊎◌, All, AllPairs, Option, Some, None, is_some, if◌then◌else◌}
use Rattle.std.proofs.lemmas.Bool.Decides.{nat_tests}
use Rattle.rdma_types.specs.declared.names.Name.{Name}
use Rattle.rdma_types.specs.declared.requests.Kind.{Kind}
use Rattle.rdma_types.specs.declared.requests.Receive.{Receive}
use Rattle.rdma_types.specs.Kinds.{is_atomic, takes_bytes}
use Rattle.rdma_types.specs.Limits.{most_bytes, most_domains, most_ends, most_kept, most_queues, most_regions}
use Rattle.rdma_types.specs.Lists.{some}
use Rattle.rdma_types.specs.Memory.{is_granted, landing_right, local_key}
use Rattle.rdma_types.specs.Objects.{Region}
use Rattle.rdma_types.specs.Shapes.{IsLawfulShape, has_remote, is_swap}
use Rattle.protocol.specs.declared.images.ContextImage.{ContextImage}
use Rattle.protocol.specs.declared.images.CqImage.{CqImage}
use Rattle.protocol.specs.declared.images.EndImage.{EndImage}
use Rattle.protocol.specs.declared.images.LinkImage.{LinkImage}
use Rattle.protocol.specs.declared.images.PostedImage.{PostedImage}
use Rattle.protocol.specs.declared.images.Progress.{Progress}
use Rattle.protocol.specs.declared.images.Progress.TheVariants as progress
use Rattle.protocol.specs.declared.images.RegionImage.{RegionImage}
use Rattle.protocol.specs.Images.{context_of, name_at, region_of_image}
use Rattle.protocol.specs.Lawful.{AreNames, IsLawful, IsLawfulEnd, IsLawfulLink, IsLawfulReceive, IsLawfulRegion, IsLawfulRequest, IsLawfulState, is_number}
use Rattle.protocol.specs.Dumps.{Dumps, Reading, Good, dump_bytes, read_dump, kind_of, kind_number, has_flag, request_flags, imm_number, is_untold_count, is_ended, is_unfenced, is_below_limit, is_24}
use Rattle.law_dump_round_trip.proofs.Exact.{AreBytes, Rises, Passes}
use Rattle.law_dump_round_trip.proofs.Things.{IsNewName, RegionRule, ReceiveRule, LinkRule, bit_number, kind_again, progress_code}
use Rattle.law_dump_round_trip.proofs.Groups.{RequestRule, EndRule, QueueRule, UntoldRule, UnusedRule, LinkedRule, imm_flag, fence_flag}
use Rattle.law_dump_round_trip.proofs.Context.{ContextRule, HaveRoom, IsDump, read_only}
use Rattle.law_dump_round_trip.proofs.Lists.{and_first, and_second, not_true, all_rise, pairs_rise, names_rise, map_same, rises_at}
use Rattle.law_dump_round_trip.proofs.Keeps.{le_of, lt_of, eq_of, within_low, within_high, as_they_are, regions_keep, keys_keep, queues_keep, receive_keeps, message_keeps, terms_keep, kept_before, kept_rise, keys_differ}
use Rattle.law_dump_round_trip.proofs.Numbering.{numbers_keep, or_second}

-- ---- requests

or_first : (a b : Bool) → b ≡ false → (a || b) ≡ true → a ≡ true
or_first true b e h = refl
or_first false b e h = cc

none_of : {A : Type 0} (o : Option A) → is_some o ≡ false → o ≡ None
none_of None h = refl
none_of (Some x) h = cc

not_set : (a b : Bool) → (not a || b) ≡ true → b ≡ false → a ≡ false
not_set true true h e = cc
not_set true false h e = cc
not_set false b h e = refl

size_by : (t : Bool) (n : ℕ) → (if t then n == 8 else nat_le n most_bytes) ≡ true → n ≤ most_bytes
size_by true n h = let e = eq_of n 8 h in omega arith
size_by false n h = le_of n most_bytes h

word_by : (t : Bool) (n : ℕ) → (if t then n == 8 else nat_le n most_bytes) ≡ true → t ≡ true → n ≡ 8
word_by true n h e = eq_of n 8 h
word_by false n h e = cc

module _ (c : ContextImage) (version domain : ℕ) (l : LinkImage) (count : ℕ) (seen : List PostedImage) (p : PostedImage) (h : RequestRule version (map (region_of_image c.domains) c.regions) (name_at c.domains domain) l count seen p) where
  kind_is : kind_of (kind_number p.request.shape.kind) ≡ p.request.shape.kind
  kind_is = kind_again p.request.shape.kind

  size : (if is_atomic p.request.shape.kind then p.request.shape.length == 8 else nat_le p.request.shape.length most_bytes) ≡ true
  size = subst (λ (k : Kind). (if is_atomic k then p.request.shape.length == 8 else nat_le p.request.shape.length most_bytes) ≡ true) kind_is (and_first _ _ h.length'.test)

  flags : (not (has_flag 2 (request_flags p.request)) || takes_bytes p.request.shape.kind) ≡ true
  flags = subst (λ (k : Kind). (not (has_flag 2 (request_flags p.request)) || takes_bytes k) ≡ true) kind_is (and_first _ _ (and_second (nat_lt (request_flags p.request) 8) _ h.flags.test))

  remote_test : (t : ℕ → Bool) (n : ℕ) → (t n || n == 0) ≡ true → t n ≡ false → n ≡ 0
  remote_test t n a b = eq_of n 0 (or_second (t n) (n == 0) b a)

  pub request_keeps : IsLawfulRequest c domain p
  unfolding context_of
  request_keeps = record {
    length' = size_by (is_atomic p.request.shape.kind) p.request.shape.length size;
    shape = record {
      word = λ t. word_by (is_atomic p.request.shape.kind) p.request.shape.length size t;
      imm = λ t. none_of p.request.shape.imm (sym (imm_flag p.request) ∙ not_set _ _ flags t);
      remote = λ t. eq_of p.request.shape.remote 0 (or_second (has_remote p.request.shape.kind) _ t (subst (λ (k : Kind). (has_remote k || p.request.shape.remote == 0) ≡ true) kind_is h.remote.test));
      rkey = λ t. eq_of p.request.shape.rkey 0 (or_second (has_remote p.request.shape.kind) _ t (subst (λ (k : Kind). (has_remote k || p.request.shape.rkey == 0) ≡ true) kind_is h.rkey.test));
      swap_add = λ t. eq_of p.request.shape.swap_add 0 (or_second (is_atomic p.request.shape.kind) _ t (subst (λ (k : Kind). (is_atomic k || p.request.shape.swap_add == 0) ≡ true) kind_is h.swap_add.test));
      compare = λ t. eq_of p.request.shape.compare 0 (or_second (is_swap p.request.shape.kind) _ t (subst (λ (k : Kind). (is_swap k || p.request.shape.compare == 0) ≡ true) kind_is h.compare.test));
    };
    granted = subst (λ (k : Kind). is_granted local_key (map (region_of_image c.domains) c.regions) (name_at c.domains domain) p.request.lkey p.request.local p.request.shape.length (landing_right k) ≡ true) kind_is h.local.test;
    payload = subst (λ (k : Kind). length p.payload ≡ (if takes_bytes k then p.request.shape.length else 0)) kind_is h.payload;
  }

-- ---- connected ends

no_items : {A : Type 0} (xs : List A) → length xs ≡ 0 → xs ≡ []
no_items [] h = refl
no_items (x ∷ xs) h = absurd (omega arith)

count_ended : (t e : Bool) (b : Bool) → (if t then b else not e) ≡ true → e ≡ true → t ≡ true
count_ended true e b h p = refl
count_ended false true b h p = cc
count_ended false false b h p = cc

unused_ended : (t e : Bool) → (t || not e) ≡ true → e ≡ true → t ≡ true
unused_ended true e h p = refl
unused_ended false true h p = cc
unused_ended false false h p = cc

bit_none : (b e : Bool) → nat_le (bit_number b) (if e then 0 else 1) ≡ true → e ≡ true → b ≡ false
bit_none false e h p = refl
bit_none true true h p = cc
bit_none true false h p = cc

idle_none : (p : Progress) (e : Bool) → nat_le (progress_code p) (if e then 0 else 2) ≡ true → e ≡ true → p ≡ progress.Idle
idle_none progress.Idle e h p = refl
idle_none (progress.Send done receive) true h p = cc
idle_none (progress.Send done receive) false h p = cc
idle_none (progress.Write region off length' done) true h p = cc
idle_none (progress.Write region off length' done) false h p = cc

waits_by : (rnr waits : ℕ) → (rnr == 7 || nat_le waits rnr) ≡ true → (t : Bool) → (rnr == 7) ≡ t → (waits ≤ rnr) ⊎ (rnr ≡ 7)
waits_by rnr waits h true e = inr (eq_of rnr 7 e)
waits_by rnr waits h false e = inl (le_of waits rnr (or_second (rnr == 7) _ e h))

module _ (c : ContextImage) (version : ℕ) (names : AreNames c.domains most_domains) (regions : All (IsLawfulRegion (length c.domains)) c.regions) (e : EndImage) (domain : e.domain < length c.domains) where
  pub link_keeps : (l : LinkImage) → LinkRule (map (region_of_image c.domains) c.regions) (name_at c.domains e.domain) l.ended l → is_untold_count (Some l) (length e.untold) ≡ true → Rises PostedImage (RequestRule version (map (region_of_image c.domains) c.regions) (name_at c.domains e.domain) l (length e.untold)) [] e.untold → (length e.unused == 0 || not l.ended) ≡ true → IsLawfulLink c e l
  link_keeps l h count untold unused = record {
    peer = lt_of l.peer 16777216 h.peer.test;
    terms = terms_keep l.terms h.terms;
    numbers = numbers_keep version (map (region_of_image c.domains) c.regions) (name_at c.domains e.domain) l.ended l e.untold h count untold;
    spent = le_of l.spent l.terms.retry h.spent.test;
    waits = waits_by l.terms.rnr l.waits h.waits.test (l.terms.rnr == 7) refl;
    expected = lt_of l.expected _ h.expected.test;
    msn = lt_of l.msn 16777216 h.msn.test;
    in_progress = message_keeps c e.domain l.terms.mtu names regions domain l.progress h.progress'.message;
    few_kept = le_of (length l.kept) most_kept h.kept.first.test;
    kept_rise = kept_rise l.expected [] l.kept h.kept.others.1;
    kept_before = kept_before l.kept l.expected h.kept.others.1;
    no_untold = λ t. no_items e.untold (eq_of (length e.untold) 0 (count_ended (length e.untold == 0) l.ended (l.top == l.first) count t));
    no_unused = λ t. no_items e.unused (eq_of (length e.unused) 0 (unused_ended (length e.unused == 0) l.ended unused t));
    no_message = λ t. idle_none l.progress l.ended h.code.test t;
    not_resuming = λ t. bit_none l.resuming l.ended h.resuming.test t;
  }

  state_keeps : (o : Option LinkImage) → LinkedRule (map (region_of_image c.domains) c.regions) (name_at c.domains e.domain) o → is_untold_count o (length e.untold) ≡ true → UntoldRule version (map (region_of_image c.domains) c.regions) (name_at c.domains e.domain) o (length e.untold) e.untold → (length e.unused == 0 || not (is_ended o)) ≡ true → IsLawfulState c e o
  state_keeps None h count untold unused = untold
  state_keeps (Some l) h count untold unused = link_keeps l h count untold.1 unused

requests_by : (c : ContextImage) (version domain : ℕ) (o : Option LinkImage) (n : ℕ) (ps : List PostedImage) → UntoldRule version (map (region_of_image c.domains) c.regions) (name_at c.domains domain) o n ps → All (IsLawfulRequest c domain) ps
requests_by c version domain None n ps h = subst (λ (xs : List PostedImage). All (IsLawfulRequest c domain) xs) (sym h) (λ k d l. absurd (omega arith))
requests_by c version domain (Some l) n ps h = λ k d lt. request_keeps c version domain l n (take k ps) (get_or ps k d) (rises_at PostedImage (RequestRule version (map (region_of_image c.domains) c.regions) (name_at c.domains domain) l n) [] ps h.1 k d lt)

end_keeps : (c : ContextImage) (version : ℕ) (names : AreNames c.domains most_domains) (regions : All (IsLawfulRegion (length c.domains)) c.regions) (seen : List EndImage) (e : EndImage) → EndRule version c.domains (map (region_of_image c.domains) c.regions) (length c.queues) seen e → IsLawfulEnd c e
end_keeps c version names regions seen e h =
    let domain : e.domain < length c.domains = lt_of e.domain (length c.domains) h.domain.test in
    record {
      number = and_first _ _ h.number.test;
      domain = domain;
      send_cq = lt_of e.send_cq (length c.queues) h.send_cq.test;
      recv_cq = lt_of e.recv_cq (length c.queues) h.recv_cq.test;
      some_sends = within_low 1 256 e.send_depth h.send_depth.test;
      few_sends = within_high 1 256 e.send_depth h.send_depth.test;
      some_receives = within_low 1 256 e.recv_depth h.recv_depth.test;
      few_receives = within_high 1 256 e.recv_depth h.recv_depth.test;
      untold_fit = le_of (length e.untold) e.send_depth h.untold_count.count.test;
      unused_fit = le_of (length e.unused) e.recv_depth h.unused_count.count.test;
      requests = requests_by c version e.domain e.linked (length e.untold) e.untold h.untold;
      receives = λ k d l. receive_keeps c e.domain 0 (get_or e.unused k d) (rises_at Receive (λ seen. ReceiveRule (map (region_of_image c.domains) c.regions) (name_at c.domains e.domain) 0) [] e.unused h.unused.rise k d l);
      state = state_keeps c version names regions e domain e.linked h.linked.linked h.untold_count.rule h.untold h.unused_count.rule;
    }

-- ---- the whole

pub context_keeps : (c : ContextImage) (version : ℕ) → ContextRule version c → HaveRoom c c.queues → IsLawful c
context_keeps c version h room =
    let names : AreNames c.domains most_domains = subst (λ (ns : List Name). AreNames ns most_domains) (map_same c.domains) (names_rise Name (λ x. x) IsNewName c.domains most_domains (λ seen y p. subst (λ (ns : List Name). IsNewName ns y) (sym (map_same seen)) p) h.domains.others.1 (le_of (length c.domains) most_domains h.domains.first.test)) in
    let regions : All (IsLawfulRegion (length c.domains)) c.regions = regions_keep (length c.domains) c.regions h.regions.others.1 in
    let ends = h.ends.others.1 in
    record {
      name = and_first _ _ h.name;
      domains = names;
      region_names = names_rise RegionImage (λ r. r.name) (RegionRule (length c.domains)) c.regions most_regions (λ seen y p. p.name) h.regions.others.1 (le_of (length c.regions) most_regions h.regions.first.test);
      regions = regions;
      keys = keys_keep (length c.domains) c.regions h.regions.others.1;
      queue_names = names_rise CqImage (λ q. q.name) QueueRule c.queues most_queues (λ seen y p. p.name) h.queues.others.1 (le_of (length c.queues) most_queues h.queues.first.test);
      queues = queues_keep c c.queues h.queues.others.1 room;
      end_names = names_rise EndImage (λ e. e.name) (EndRule version c.domains (map (region_of_image c.domains) c.regions) (length c.queues)) c.ends most_ends (λ seen y p. p.name) ends (le_of (length c.ends) most_ends h.ends.first.test);
      numbers = subst (λ ys. AllPairs (λ a b. a.number ≢ b.number) ys) (map_same c.ends) (pairs_rise EndImage EndImage (λ x. x) (EndRule version c.domains (map (region_of_image c.domains) c.regions) (length c.queues)) (λ a b. a.number ≢ b.number) (λ x seen y i p. keys_differ x.number y.number (i (λ a. a.number == y.number) (not_true _ (and_second _ _ p.number.test)))) [] c.ends ends);
      ends = λ k d l. end_keeps c version names regions (take k c.ends) (get_or c.ends k d) (rises_at EndImage (EndRule version c.domains (map (region_of_image c.domains) c.regions) (length c.queues)) [] c.ends ends k d l);
    }

-- ---- versions

none_pass : (A : Type 0) (P : List A → A → Type 0) (t : A → Bool) → ((seen : List A) (y : A) → P seen y → t y ≡ false) → (seen xs : List A) → Rises A P seen xs → some t xs ≡ false
unfolding some
none_pass A P t g seen [] h = refl
none_pass A P t g seen (x ∷ xs) (here, more) = rw (g seen x here, none_pass A P t g (seen ++ x ∷ []) xs more) refl

not_fenced : (f : Bool) (version : ℕ) → (not f || version == 2) ≡ true → version ≡ 1 → f ≡ false
not_fenced true version h e = let t : (version == 2) ≡ true = h in let two = eq_of version 2 t in absurd (omega arith)
not_fenced false version h e = refl

module _ (version : ℕ) (rs : List Region) (domain : Name) (one : version ≡ 1) where
  request_unfenced : (l : LinkImage) (count : ℕ) (seen : List PostedImage) (p : PostedImage) → RequestRule version rs domain l count seen p → p.request.fence ≡ false
  request_unfenced l count seen p h =
      sym (fence_flag p.request)
      ∙ not_fenced (has_flag 4 (request_flags p.request)) version (and_first _ _ (and_second (not (has_flag 2 (request_flags p.request)) || takes_bytes (kind_of (kind_number p.request.shape.kind))) _ (and_second (nat_lt (request_flags p.request) 8) _ h.flags.test))) one

  untold_unfenced : (o : Option LinkImage) (n : ℕ) (ps : List PostedImage) → UntoldRule version rs domain o n ps → some (λ p. p.request.fence) ps ≡ false
  unfolding some
  untold_unfenced None n ps h = ap (λ (xs : List PostedImage). some (λ p. p.request.fence) xs) h
  untold_unfenced (Some l) n ps h = none_pass PostedImage (RequestRule version rs domain l n) (λ p. p.request.fence) (λ seen y r. request_unfenced l n seen y r) [] ps h.1

unfenced_keeps : (c : ContextImage) (version : ℕ) → version ≡ 1 → ContextRule version c → is_unfenced c ≡ true
unfenced_keeps c version one h =
    let none = none_pass EndImage (EndRule version c.domains (map (region_of_image c.domains) c.regions) (length c.queues)) (λ e. some (λ p. p.request.fence) e.untold) (λ seen e r. untold_unfenced version (map (region_of_image c.domains) c.regions) (name_at c.domains e.domain) one e.linked (length e.untold) e.untold r.untold) [] c.ends h.ends.others.1 in
    rw none refl

known_by : (c : ContextImage) (version : ℕ) → (version == 1 || version == 2) ≡ true → ContextRule version c → (t : Bool) → (version == 2) ≡ t → (version == 2 || (version == 1 && is_unfenced c)) ≡ true
known_by c version k h true e = rw e refl
known_by c version k h false e =
    let one : (version == 1) ≡ true = or_first (version == 1) (version == 2) e k in
    rw (e, one) (unfenced_keeps c version (eq_of version 1 one) h)

-- what is read is a dump of the image
pub read_dumps : (bs : List ℕ) → AreBytes bs → (c : ContextImage) (p : ℕ) (rest : List ℕ) → read_dump bs ≡ Good c p rest → Dumps c bs
read_dumps bs all c p rest h =
    let d = read_only bs all c p rest h in
    record {
      version = d.version;
      known = known_by c d.version d.known d.rule (d.version == 2) refl;
      lawful = context_keeps c d.version d.rule d.room;
      bytes = d.spelled;
    }
