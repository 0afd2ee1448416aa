-- Requests, queue pairs and completion queues are read exactly.
use Rattle.std.proofs.Common.{◌≡◌, ℕ, zero, suc, ◌+◌, ◌-◌, ◌*◌, ◌/◌, ◌%◌, ◌^◌, ◌<◌, ◌≤◌, not, ◌&&◌, Bool, true, false, nat_lt, nat_le, List, [], ◌∷◌, ◌++◌, length, map, refl, ap, sym, subst, ◌∙◌, arith, append_assoc, add-zero}
use Rattle.std.specs.Prelude.{◌||◌, ◌==◌, flat_map, Option, Some, None, is_some, if◌then◌else◌}
use Rattle.std.proofs.lemmas.Bool.Decides.{nat_tests}
use Rattle.std.proofs.lemmas.List.{append-nil}
use Rattle.rdma_types.specs.declared.names.Name.{Name}
use Rattle.rdma_types.specs.declared.requests.Completion.{Completion}
use Rattle.rdma_types.specs.declared.requests.Kind.{Kind}
use Rattle.rdma_types.specs.declared.requests.Receive.{Receive}
use Rattle.rdma_types.specs.declared.requests.Request.{Request}
use Rattle.rdma_types.specs.Kinds.{is_atomic, takes_bytes}
use Rattle.rdma_types.specs.Lists.{some}
use Rattle.rdma_types.specs.Memory.{is_granted, landing_right, local_key}
use Rattle.rdma_types.specs.Objects.{Region}
use Rattle.rdma_types.specs.Shapes.{has_remote, is_swap}
use Rattle.protocol.specs.declared.dumps.DumpWhy.{DumpWhy}
use Rattle.protocol.specs.declared.dumps.DumpWhy.TheVariants as dump_why
use Rattle.protocol.specs.declared.images.CqImage.{CqImage}
use Rattle.protocol.specs.declared.images.EndImage.{EndImage}
use Rattle.protocol.specs.declared.images.LinkImage.{LinkImage}
use Rattle.protocol.specs.declared.images.PostedImage.{PostedImage}
use Rattle.protocol.specs.Bytes.{big_bytes}
use Rattle.protocol.specs.Images.{name_at}
use Rattle.protocol.specs.Lawful.{is_number}
use Rattle.protocol.specs.Dumps.{Reading, Reader, Good, Bad, after, then_read, gives, raw, any, number, judged, name_field, text, within, items, list_field, count_field, count_by, counted, kind_of, kind_number, imm_number, has_flag, request_flags, are_flags, is_request_length, request_field, request_bytes, state_byte, linked_bytes, link_field, link_bytes, state_field, is_untold_count, untold_items, is_ended, receive_field, receive_bytes, end_field, end_bytes, entry_field, entry_bytes, queue_bytes}
use Rattle.law_dump_round_trip.proofs.Exact.{AreBytes, Exact, Found, Both, Passes, Rises, exact_as, number_exact, raw_exact, then_exact, then_exact_if, gives_exact, list_exact, items_exact, judged_only}
use Rattle.law_dump_round_trip.proofs.Things.{IsNewName, name_exact, ReceiveRule, receiveRule_exact, LinkRule, linkRule_exact, EntryRule, entryRule_exact, kind_again, kind_back, imm_by}

-- ---- untold requests

below_eight : (v : ℕ) → nat_lt (suc (suc (suc (suc (suc (suc (suc (suc v)))))))) 8 ≡ true → suc (suc (suc (suc (suc (suc (suc (suc v))))))) < 8
below_eight v h = grind (arith, nat_tests)

flags_back : (v n : ℕ) → nat_lt v 8 ≡ true → (if has_flag 1 v then 1 else 0) + (if is_some (if has_flag 2 v then Some n else None) then 2 else 0) + (if has_flag 4 v then 4 else 0) ≡ v
flags_back zero n h = refl
flags_back (suc zero) n h = refl
flags_back (suc (suc zero)) n h = refl
flags_back (suc (suc (suc zero))) n h = refl
flags_back (suc (suc (suc (suc zero)))) n h = refl
flags_back (suc (suc (suc (suc (suc zero))))) n h = refl
flags_back (suc (suc (suc (suc (suc (suc zero)))))) n h = refl
flags_back (suc (suc (suc (suc (suc (suc (suc zero))))))) n h = refl
flags_back (suc (suc (suc (suc (suc (suc (suc (suc v)))))))) n h = absurd (omega (arith, below_eight v h))

and_first : (a b : Bool) → (a && b) ≡ true → a ≡ true
and_first true b h = refl
and_first false b h = cc

imm_kept : (o : Option ℕ) → (if is_some o then Some (imm_number o) else None) ≡ o
imm_kept None = refl
imm_kept (Some n) = refl

signaled_again : (s i f : Bool) → has_flag 1 ((if s then 1 else 0) + (if i then 2 else 0) + (if f then 4 else 0)) ≡ s
signaled_again true true true = refl
signaled_again true true false = refl
signaled_again true false true = refl
signaled_again true false false = refl
signaled_again false true true = refl
signaled_again false true false = refl
signaled_again false false true = refl
signaled_again false false false = refl

imm_flag_again : (s i f : Bool) → has_flag 2 ((if s then 1 else 0) + (if i then 2 else 0) + (if f then 4 else 0)) ≡ i
imm_flag_again true true true = refl
imm_flag_again true true false = refl
imm_flag_again true false true = refl
imm_flag_again true false false = refl
imm_flag_again false true true = refl
imm_flag_again false true false = refl
imm_flag_again false false true = refl
imm_flag_again false false false = refl

fence_again : (s i f : Bool) → has_flag 4 ((if s then 1 else 0) + (if i then 2 else 0) + (if f then 4 else 0)) ≡ f
fence_again true true true = refl
fence_again true true false = refl
fence_again true false true = refl
fence_again true false false = refl
fence_again false true true = refl
fence_again false true false = refl
fence_again false false true = refl
fence_again false false false = refl

pub fence_flag : (r : Request) → has_flag 4 (request_flags r) ≡ r.fence
fence_flag r = fence_again r.signaled (is_some r.shape.imm) r.fence

pub imm_flag : (r : Request) → has_flag 2 (request_flags r) ≡ is_some r.shape.imm
imm_flag r = imm_flag_again r.signaled (is_some r.shape.imm) r.fence

imm_again : (r : Request) → (if has_flag 2 (request_flags r) then Some (imm_number r.shape.imm) else None) ≡ r.shape.imm
imm_again r = rw (imm_flag_again r.signaled (is_some r.shape.imm) r.fence) (imm_kept r.shape.imm)

-- the rules of an untold request, field by field
pub record RequestRule (version : ℕ) (regions : List Region) (domain : Name) (l : LinkImage) (count : ℕ) (seen : List PostedImage) (x : PostedImage) : Type 0 where
  pub id : Passes 8 (any) (x.request.id)
  pub kind' : Passes 1 (λ n. nat_le n 4) (kind_number x.request.shape.kind)
  pub flags : Passes 1 (are_flags version l seen (kind_of (kind_number x.request.shape.kind))) (request_flags x.request)
  pub imm : Passes 4 (λ n. has_flag 2 (request_flags x.request) || n == 0) (imm_number x.request.shape.imm)
  pub length' : Passes 4 (is_request_length l count seen (kind_of (kind_number x.request.shape.kind))) x.request.shape.length
  pub lkey : Passes 4 (any) (x.request.lkey)
  pub local : Passes 8 (λ n. is_granted local_key regions domain x.request.lkey n x.request.shape.length (landing_right (kind_of (kind_number x.request.shape.kind)))) x.request.local
  pub remote : Passes 8 (λ n. has_remote (kind_of (kind_number x.request.shape.kind)) || n == 0) x.request.shape.remote
  pub rkey : Passes 4 (λ n. has_remote (kind_of (kind_number x.request.shape.kind)) || n == 0) x.request.shape.rkey
  pub swap_add : Passes 8 (λ n. is_atomic (kind_of (kind_number x.request.shape.kind)) || n == 0) x.request.shape.swap_add
  pub compare : Passes 8 (λ n. is_swap (kind_of (kind_number x.request.shape.kind)) || n == 0) x.request.shape.compare
  pub payload : length x.payload ≡ (if takes_bytes (kind_of (kind_number x.request.shape.kind)) then x.request.shape.length else 0)

-- an untold request is read exactly
pub requestRule_exact : (version : ℕ) (regions : List Region) (domain : Name) (l : LinkImage) (count : ℕ) (seen : List PostedImage) → Exact PostedImage (request_field version regions domain l count seen) (RequestRule version regions domain l count seen) (request_bytes)
unfolding request_field
requestRule_exact version regions domain l count seen =
    exact_as PostedImage _ _ _ _ _ _ (λ place bs. refl) (λ x h. record { first = h.id; others = record { first = h.kind'; others = record { first = h.flags; others = record { first = h.imm; others = record { first = h.length'; others = record { first = h.lkey; others = record { first = h.local; others = record { first = h.remote; others = record { first = h.rkey; others = record { first = h.swap_add; others = record { first = h.compare; others = record { first = h.payload; others = λ i. record { request = record { id = x.request.id; shape = record { kind = sym (kind_again x.request.shape.kind) i; length = x.request.shape.length; remote = x.request.shape.remote; rkey = x.request.shape.rkey; imm = sym (imm_again x.request) i; swap_add = x.request.shape.swap_add; compare = x.request.shape.compare }; lkey = x.request.lkey; local = x.request.local; signaled = sym (signaled_again x.request.signaled (is_some x.request.shape.imm) x.request.fence) i; fence = sym (fence_again x.request.signaled (is_some x.request.shape.imm) x.request.fence) i }; payload = x.payload } } } } } } } } } } } } }) (λ x p. record { id = p.first; kind' = p.others.first; flags = p.others.others.first; imm = p.others.others.others.first; length' = p.others.others.others.others.first; lkey = p.others.others.others.others.others.first; local = p.others.others.others.others.others.others.first; remote = p.others.others.others.others.others.others.others.first; rkey = p.others.others.others.others.others.others.others.others.first; swap_add = p.others.others.others.others.others.others.others.others.others.first; compare = p.others.others.others.others.others.others.others.others.others.others.first; payload = p.others.others.others.others.others.others.others.others.others.others.others.first }) (λ x h. simp (append_assoc, append-nil))
    (then_exact _ _ _ _ _ _ (λ (z : PostedImage). z.request.id) _ _ (number_exact dump_why.Field 8 (any)) (λ id. then_exact _ _ _ _ _ _ (λ (z : PostedImage). kind_number z.request.shape.kind) _ _ (number_exact dump_why.Field 1 (λ n. nat_le n 4)) (λ k. then_exact _ _ _ _ _ _ (λ (z : PostedImage). request_flags z.request) _ _ (number_exact dump_why.Field 1 (are_flags version l seen (kind_of k))) (λ flags. then_exact _ _ _ _ _ _ (λ (z : PostedImage). imm_number z.request.shape.imm) _ _ (number_exact dump_why.Field 4 (λ n. has_flag 2 flags || n == 0)) (λ imm. then_exact _ _ _ _ _ _ (λ (z : PostedImage). z.request.shape.length) _ _ (number_exact dump_why.Field 4 (is_request_length l count seen (kind_of k))) (λ length'. then_exact _ _ _ _ _ _ (λ (z : PostedImage). z.request.lkey) _ _ (number_exact dump_why.Field 4 (any)) (λ lkey. then_exact _ _ _ _ _ _ (λ (z : PostedImage). z.request.local) _ _ (number_exact dump_why.Field 8 (λ n. is_granted local_key regions domain lkey n length' (landing_right (kind_of k)))) (λ local. then_exact _ _ _ _ _ _ (λ (z : PostedImage). z.request.shape.remote) _ _ (number_exact dump_why.Field 8 (λ n. has_remote (kind_of k) || n == 0)) (λ remote. then_exact _ _ _ _ _ _ (λ (z : PostedImage). z.request.shape.rkey) _ _ (number_exact dump_why.Field 4 (λ n. has_remote (kind_of k) || n == 0)) (λ rkey. then_exact _ _ _ _ _ _ (λ (z : PostedImage). z.request.shape.swap_add) _ _ (number_exact dump_why.Field 8 (λ n. is_atomic (kind_of k) || n == 0)) (λ swap_add. then_exact _ _ _ _ _ _ (λ (z : PostedImage). z.request.shape.compare) _ _ (number_exact dump_why.Field 8 (λ n. is_swap (kind_of k) || n == 0)) (λ compare. then_exact _ _ _ _ _ _ (λ (z : PostedImage). z.payload) _ _ (raw_exact (if takes_bytes (kind_of k) then length' else 0)) (λ payload. gives_exact PostedImage _) (λ v b f q. ap (λ (z : PostedImage). z.payload) q)) (λ v b f q. ap (λ (z : PostedImage). z.request.shape.compare) q.others)) (λ v b f q. ap (λ (z : PostedImage). z.request.shape.swap_add) q.others.others)) (λ v b f q. ap (λ (z : PostedImage). z.request.shape.rkey) q.others.others.others)) (λ v b f q. ap (λ (z : PostedImage). z.request.shape.remote) q.others.others.others.others)) (λ v b f q. ap (λ (z : PostedImage). z.request.local) q.others.others.others.others.others)) (λ v b f q. ap (λ (z : PostedImage). z.request.lkey) q.others.others.others.others.others.others)) (λ v b f q. ap (λ (z : PostedImage). z.request.shape.length) q.others.others.others.others.others.others.others)) (λ v b f q. ap (λ (z : PostedImage). imm_number z.request.shape.imm) q.others.others.others.others.others.others.others.others ∙ imm_by (has_flag 2 flags) v f.test)) (λ v b f q. ap (λ (z : PostedImage). request_flags z.request) q.others.others.others.others.others.others.others.others.others ∙ flags_back v _ (and_first _ _ f.test))) (λ v b f q. ap (λ (z : PostedImage). kind_number z.request.shape.kind) q.others.others.others.others.others.others.others.others.others.others ∙ kind_back v f.test)) (λ v b f q. ap (λ (z : PostedImage). z.request.id) q.others.others.others.others.others.others.others.others.others.others.others))

-- ---- counts that also keep a rule

judged_exact : (start : ℕ) (ok : ℕ → Bool) (n : ℕ) → Exact ℕ (judged start dump_why.Field ok n) (λ m. (ok m ≡ true) × (m ≡ n)) (λ m. [])
unfolding judged
judged_exact start ok n = record {
  back = λ m h place rest. let t : ok n ≡ true = ap ok (sym h.1) ∙ h.0 in rw t (ap (λ (k : ℕ). Good k place rest) (sym h.1) ∙ ap (λ (q : ℕ). Good m q rest) (sym (add-zero place)));
  only = λ place bs all m p rest h. let j = judged_only start dump_why.Field ok n place bs m p rest h in
      record { keeps = (ap ok j.1 ∙ j.0, j.1); spelled = sym j.2; bytes = subst (λ (y : List ℕ). AreBytes y) (sym j.2) all };
}

-- a count under its limit that keeps a rule
pub record CountRule (width limit : ℕ) (ok : ℕ → Bool) (n : ℕ) : Type 0 where
  pub count : Passes width (λ k. nat_le k limit) n
  pub rule : ok n ≡ true

count_from_exact : (width limit : ℕ) (ok : ℕ → Bool) (start : ℕ) → Exact ℕ (then_read (count_field width limit) λ n. judged start dump_why.Field ok n) (CountRule width limit ok) (big_bytes width)
count_from_exact width limit ok start =
    exact_as ℕ _ _ _ _ _ _ (λ place bs. refl) (λ x h. record { first = h.count; others = (h.rule, refl) }) (λ x p. record { count = p.first; rule = p.others.0 }) (λ x h. sym (append-nil (big_bytes width x)))
    (then_exact _ _ _ _ _ _ (λ (z : ℕ). z) _ _ (number_exact dump_why.Count width (λ k. nat_le k limit)) (λ n. judged_exact start ok n) (λ v b f q. q.1))

-- such a count is read exactly
pub count_exact : (width limit : ℕ) (ok : ℕ → Bool) → Exact ℕ (count_by width limit ok) (CountRule width limit ok) (big_bytes width)
count_exact width limit ok = record {
  back = λ x h place rest. (count_from_exact width limit ok place).back x h place rest;
  only = λ place bs all x p rest h. (count_from_exact width limit ok place).only place bs all x p rest h;
}

-- ---- states

-- the state of a link that is there
abbrev pub state_number : Bool → ℕ
state_number b = if b then 2 else 1

-- a link that is there
abbrev pub SomeRule : (LinkImage → Type 0) → Option LinkImage → Type 0
SomeRule P None = ⊥
SomeRule P (Some l) = P l

some_found : (P : LinkImage → Type 0) (s : LinkImage → List ℕ) (X : Reader LinkImage) → Exact LinkImage X P s → (place : ℕ) (bs : List ℕ) → AreBytes bs → (r : Reading LinkImage) → X place bs ≡ r → (o : Option LinkImage) (p : ℕ) (rest : List ℕ) → after r (λ l. gives (Some l)) ≡ Good o p rest → (l : LinkImage) × (o ≡ Some l) × Found LinkImage P s bs l rest
unfolding after
some_found P s X x place bs b (Bad q w) e o p rest h = cc
some_found P s X x place bs b (Good l q more) e o p rest h =
    let f = x.only place bs b l q more e in
    let same : o ≡ Some l = cc in
    let there : more ≡ rest = cc in
    (l, same, record { keeps = f.keeps; spelled = f.spelled ∙ ap (λ (y : List ℕ). s l ++ y) there; bytes = subst (λ (y : List ℕ). AreBytes y) there f.bytes })

some_back : (P : LinkImage → Type 0) (X : Reader LinkImage) → Exact LinkImage X P link_bytes → (o : Option LinkImage) → SomeRule P o → (place : ℕ) (rest : List ℕ) → then_read X (λ l. gives (Some l)) place (linked_bytes o ++ rest) ≡ Good o (place + length (linked_bytes o)) rest
unfolding after
some_back P X x None h place rest = absurd h
some_back P X x (Some l) h place rest = rw (x.back l h place rest) refl

some_only : (P : LinkImage → Type 0) (o : Option LinkImage) (bs rest : List ℕ) → (l : LinkImage) × (o ≡ Some l) × Found LinkImage P link_bytes bs l rest → Found (Option LinkImage) (SomeRule P) linked_bytes bs o rest
some_only P o bs rest (l, e, f) = record {
  keeps = subst (λ (y : Option LinkImage). SomeRule P y) (sym e) f.keeps;
  spelled = f.spelled ∙ ap (λ (y : Option LinkImage). linked_bytes y ++ rest) (sym e);
  bytes = f.bytes;
}

some_exact : (P : LinkImage → Type 0) (X : Reader LinkImage) → Exact LinkImage X P link_bytes → Exact (Option LinkImage) (then_read X (λ l. gives (Some l))) (SomeRule P) linked_bytes
some_exact P X x = record {
  back = some_back P X x;
  only = λ place bs b o p rest h. some_only P o bs rest (some_found P link_bytes X x place bs b (X place bs) refl o p rest h);
}

-- what a queue pair has of its link
abbrev pub LinkedRule : List Region → Name → Option LinkImage → Type 0
LinkedRule regions domain None = Unit {0}
LinkedRule regions domain (Some l) = LinkRule regions domain l.ended l

-- the same, and its state
pub record StateRule (regions : List Region) (domain : Name) (state : ℕ) (o : Option LinkImage) : Type 0 where
  pub same : state_byte o ≡ state
  pub linked : LinkedRule regions domain o

state_zero : (regions : List Region) (domain : Name) → Exact (Option LinkImage) (gives None) (StateRule regions domain 0) linked_bytes
state_zero regions domain = exact_as (Option LinkImage) _ _ _ _ _ _ (λ place bs. refl) (λ x h. to x h.same) (λ x p. from x p) (λ x h. spelled x h.same) (gives_exact (Option LinkImage) None)
  where
    ended_not : (b : Bool) → state_number b ≡ 0 → ⊥
    ended_not true h = cc
    ended_not false h = cc

    to : (x : Option LinkImage) → state_byte x ≡ 0 → x ≡ None
    to None h = refl
    to (Some l) h = absurd (ended_not l.ended h)

    from : (x : Option LinkImage) → x ≡ None → StateRule regions domain 0 x
    from None h = record { same = refl; linked = tt }
    from (Some l) h = cc

    spelled : (x : Option LinkImage) → state_byte x ≡ 0 → linked_bytes x ≡ []
    spelled None h = refl
    spelled (Some l) h = absurd (ended_not l.ended h)

state_some : (regions : List Region) (domain : Name) (ended : Bool) (n : ℕ) → n ≡ state_number ended → Exact (Option LinkImage) (then_read (link_field regions domain ended) λ l. gives (Some l)) (StateRule regions domain n) linked_bytes
state_some regions domain ended n e = exact_as (Option LinkImage) _ _ _ _ _ _ (λ place bs. refl) (λ x h. to x h.same h.linked) (λ x p. from x p) (λ x h. refl) (some_exact (LinkRule regions domain ended) (link_field regions domain ended) (linkRule_exact regions domain ended))
  where
    ended_is : (a b : Bool) → state_number a ≡ state_number b → a ≡ b
    ended_is true true h = refl
    ended_is true false h = cc
    ended_is false true h = cc
    ended_is false false h = refl

    not_init : (b : Bool) → 0 ≡ state_number b → ⊥
    not_init true h = cc
    not_init false h = cc

    to : (x : Option LinkImage) → state_byte x ≡ n → LinkedRule regions domain x → SomeRule (LinkRule regions domain ended) x
    to None h r = absurd (not_init ended (h ∙ e))
    to (Some l) h r = subst (λ (b : Bool). LinkRule regions domain b l) (ended_is l.ended ended (h ∙ e)) r

    from : (x : Option LinkImage) → SomeRule (LinkRule regions domain ended) x → StateRule regions domain n x
    from None p = absurd p
    from (Some l) p = record { same = ap state_number p.is_ended ∙ sym e; linked = subst (λ (b : Bool). LinkRule regions domain b l) (sym p.is_ended) p }

-- the state and the link are read exactly
pub state_exact : (regions : List Region) (domain : Name) (state : ℕ) → state ≤ 2 → Exact (Option LinkImage) (state_field regions domain state) (StateRule regions domain state) linked_bytes
state_exact regions domain zero h = state_zero regions domain
state_exact regions domain (suc zero) h = state_some regions domain false 1 refl
state_exact regions domain (suc (suc zero)) h = state_some regions domain true 2 refl
state_exact regions domain (suc (suc (suc n))) h = absurd (omega arith)

-- ---- lists of a queue pair

-- so many untold requests
abbrev pub UntoldRule : ℕ → List Region → Name → Option LinkImage → ℕ → List PostedImage → Type 0
UntoldRule version regions domain None n ps = ps ≡ []
UntoldRule version regions domain (Some l) n ps = (length ps ≡ n) × Rises PostedImage (RequestRule version regions domain l n) [] ps

none_spelled : (x : List PostedImage) → x ≡ [] → flat_map request_bytes x ≡ []
none_spelled [] h = refl
none_spelled (p ∷ ps) h = cc

-- they are read exactly
pub untold_exact : (version : ℕ) (regions : List Region) (domain : Name) (linked : Option LinkImage) (n : ℕ) → Exact (List PostedImage) (untold_items version regions domain linked n) (UntoldRule version regions domain linked n) (flat_map request_bytes)
untold_exact version regions domain None n = exact_as (List PostedImage) _ _ _ _ _ _ (λ place bs. refl) (λ x h. h) (λ x p. p) none_spelled (gives_exact (List PostedImage) [])
untold_exact version regions domain (Some l) n = items_exact PostedImage (request_field version regions domain l n) (RequestRule version regions domain l n) request_bytes (λ seen. requestRule_exact version regions domain l n seen) n

none_counted : (n : ℕ) → (n == 0) ≡ true → n ≡ 0
none_counted n h = grind (arith, nat_tests)

untold_counted : (version : ℕ) (regions : List Region) (domain : Name) (linked : Option LinkImage) (n : ℕ) (ps : List PostedImage) → is_untold_count linked n ≡ true → UntoldRule version regions domain linked n ps → length ps ≡ n
untold_counted version regions domain None n ps t r = let z : n ≡ 0 = none_counted n t in ap length r ∙ sym z
untold_counted version regions domain (Some l) n ps t r = r.0

-- so many unused receives
pub record UnusedRule (regions : List Region) (domain : Name) (n : ℕ) (xs : List Receive) : Type 0 where
  pub count : length xs ≡ n
  pub rise : Rises Receive (λ seen. ReceiveRule regions domain 0) [] xs

unused_exact : (regions : List Region) (domain : Name) (n : ℕ) → Exact (List Receive) (items n (λ xs. receive_field regions domain 0) []) (UnusedRule regions domain n) (flat_map receive_bytes)
unused_exact regions domain n = exact_as (List Receive) _ _ _ _ _ _ (λ place bs. refl) (λ x h. (h.count, h.rise)) (λ x p. record { count = p.0; rise = p.1 }) (λ x h. refl)
    (items_exact Receive (λ xs. receive_field regions domain 0) (λ seen. ReceiveRule regions domain 0) receive_bytes (λ seen. receiveRule_exact regions domain 0) n)

state_small : (n : ℕ) → nat_le n 2 ≡ true → n ≤ 2
state_small n h = grind (arith, nat_tests)

state_by : (ended : Bool) → big_bytes 1 (state_number ended) ≡ state_number ended ∷ []
unfolding big_bytes
state_by true = refl
state_by false = refl

state_one : (o : Option LinkImage) → big_bytes 1 (state_byte o) ≡ state_byte o ∷ []
unfolding big_bytes
state_one None = refl
state_one (Some l) = state_by l.ended

end_grouped : (a b c d e f g s l cu fu cr fr : List ℕ) → (((((((((a ++ b) ++ c) ++ d) ++ e) ++ f) ++ g) ++ (s ++ l)) ++ (cu ++ fu)) ++ (cr ++ fr)) ≡ a ++ (b ++ (c ++ (d ++ (e ++ (f ++ (g ++ (s ++ (l ++ (cu ++ (fu ++ (cr ++ (fr ++ []))))))))))))
end_grouped a b c d e f g s l cu fu cr fr = simp (append_assoc, append-nil)

end_spelled : (x : EndImage) → end_bytes x ≡ text x.name ++ (big_bytes 4 x.number ++ (big_bytes 2 x.domain ++ (big_bytes 2 x.send_cq ++ (big_bytes 2 x.recv_cq ++ (big_bytes 2 x.send_depth ++ (big_bytes 2 x.recv_depth ++ (big_bytes 1 (state_byte x.linked) ++ (linked_bytes x.linked ++ (big_bytes 2 (length x.untold) ++ (flat_map request_bytes x.untold ++ (big_bytes 2 (length x.unused) ++ (flat_map receive_bytes x.unused ++ []))))))))))))
end_spelled x =
    ap (λ (s : List ℕ). (((((((((text x.name ++ big_bytes 4 x.number) ++ big_bytes 2 x.domain) ++ big_bytes 2 x.send_cq) ++ big_bytes 2 x.recv_cq) ++ big_bytes 2 x.send_depth) ++ big_bytes 2 x.recv_depth) ++ (s ++ linked_bytes x.linked)) ++ (big_bytes 2 (length x.untold) ++ flat_map request_bytes x.untold)) ++ (big_bytes 2 (length x.unused) ++ flat_map receive_bytes x.unused))) (sym (state_one x.linked))
    ∙ end_grouped (text x.name) (big_bytes 4 x.number) (big_bytes 2 x.domain) (big_bytes 2 x.send_cq) (big_bytes 2 x.recv_cq) (big_bytes 2 x.send_depth) (big_bytes 2 x.recv_depth) (big_bytes 1 (state_byte x.linked)) (linked_bytes x.linked) (big_bytes 2 (length x.untold)) (flat_map request_bytes x.untold) (big_bytes 2 (length x.unused)) (flat_map receive_bytes x.unused)

-- the rules of a queue pair, field by field
pub record EndRule (version : ℕ) (domains : List Name) (regions : List Region) (queues : ℕ) (seen : List EndImage) (x : EndImage) : Type 0 where
  pub name : IsNewName (map (λ e. e.name) seen) x.name
  pub number : Passes 4 (λ n. is_number n && not (some (λ e. e.number == n) seen)) (x.number)
  pub domain : Passes 2 (λ i. nat_lt i (length domains)) (x.domain)
  pub send_cq : Passes 2 (λ i. nat_lt i queues) (x.send_cq)
  pub recv_cq : Passes 2 (λ i. nat_lt i queues) (x.recv_cq)
  pub send_depth : Passes 2 (within 1 256) (x.send_depth)
  pub recv_depth : Passes 2 (within 1 256) (x.recv_depth)
  pub state : Passes 1 (λ i. nat_le i 2) (state_byte x.linked)
  pub linked : StateRule regions (name_at domains x.domain) (state_byte x.linked) x.linked
  pub untold_count : CountRule 2 x.send_depth (is_untold_count x.linked) (length x.untold)
  pub untold : UntoldRule version regions (name_at domains x.domain) x.linked (length x.untold) x.untold
  pub unused_count : CountRule 2 x.recv_depth (λ i. i == 0 || not (is_ended x.linked)) (length x.unused)
  pub unused : UnusedRule regions (name_at domains x.domain) (length x.unused) x.unused

-- a queue pair is read exactly
pub endRule_exact : (version : ℕ) (domains : List Name) (regions : List Region) (queues : ℕ) (seen : List EndImage) → Exact EndImage (end_field version domains regions queues seen) (EndRule version domains regions queues seen) (end_bytes)
unfolding end_field
endRule_exact version domains regions queues seen =
    exact_as EndImage _ _ _ _ _ _ (λ place bs. refl) (λ x h. record { first = h.name; others = record { first = h.number; others = record { first = h.domain; others = record { first = h.send_cq; others = record { first = h.recv_cq; others = record { first = h.send_depth; others = record { first = h.recv_depth; others = record { first = h.state; others = record { first = h.linked; others = record { first = h.untold_count; others = record { first = h.untold; others = record { first = h.unused_count; others = record { first = h.unused; others = refl } } } } } } } } } } } } }) (λ x p. record { name = p.first; number = p.others.first; domain = p.others.others.first; send_cq = p.others.others.others.first; recv_cq = p.others.others.others.others.first; send_depth = p.others.others.others.others.others.first; recv_depth = p.others.others.others.others.others.others.first; state = p.others.others.others.others.others.others.others.first; linked = p.others.others.others.others.others.others.others.others.first; untold_count = p.others.others.others.others.others.others.others.others.others.first; untold = p.others.others.others.others.others.others.others.others.others.others.first; unused_count = p.others.others.others.others.others.others.others.others.others.others.others.first; unused = p.others.others.others.others.others.others.others.others.others.others.others.others.first }) (λ x h. end_spelled x)
    (then_exact _ _ _ _ _ _ (λ (z : EndImage). z.name) _ _ (name_exact (map (λ e. e.name) seen)) (λ name. then_exact _ _ _ _ _ _ (λ (z : EndImage). z.number) _ _ (number_exact dump_why.Field 4 (λ n. is_number n && not (some (λ e. e.number == n) seen))) (λ n. then_exact _ _ _ _ _ _ (λ (z : EndImage). z.domain) _ _ (number_exact dump_why.Field 2 (λ i. nat_lt i (length domains))) (λ domain. then_exact _ _ _ _ _ _ (λ (z : EndImage). z.send_cq) _ _ (number_exact dump_why.Field 2 (λ i. nat_lt i queues)) (λ send_cq. then_exact _ _ _ _ _ _ (λ (z : EndImage). z.recv_cq) _ _ (number_exact dump_why.Field 2 (λ i. nat_lt i queues)) (λ recv_cq. then_exact _ _ _ _ _ _ (λ (z : EndImage). z.send_depth) _ _ (number_exact dump_why.Field 2 (within 1 256)) (λ send_depth. then_exact _ _ _ _ _ _ (λ (z : EndImage). z.recv_depth) _ _ (number_exact dump_why.Field 2 (within 1 256)) (λ recv_depth. then_exact_if _ _ _ _ _ _ (λ (z : EndImage). state_byte z.linked) _ _ (number_exact dump_why.Field 1 (λ i. nat_le i 2)) (λ state pass. then_exact _ _ _ _ _ _ (λ (z : EndImage). z.linked) _ _ (state_exact regions (name_at domains domain) state (state_small state pass.test)) (λ linked. then_exact _ _ _ _ _ _ (λ (z : EndImage). length z.untold) _ _ (count_exact 2 send_depth (is_untold_count linked)) (λ untold_count. then_exact _ _ _ _ _ _ (λ (z : EndImage). z.untold) _ _ (untold_exact version regions (name_at domains domain) linked untold_count) (λ untold. then_exact _ _ _ _ _ _ (λ (z : EndImage). length z.unused) _ _ (count_exact 2 recv_depth (λ i. i == 0 || not (is_ended linked))) (λ unused_count. then_exact _ _ _ _ _ _ (λ (z : EndImage). z.unused) _ _ (unused_exact regions (name_at domains domain) unused_count) (λ unused. gives_exact EndImage _) (λ v b f q. ap (λ (z : EndImage). z.unused) q)) (λ v b f q. q.first.count)) (λ v b f q. ap (λ (z : EndImage). z.untold) q.others.others)) (λ v b f q. untold_counted version regions (name_at domains domain) linked v _ f.rule q.first)) (λ v b f q. ap (λ (z : EndImage). z.linked) q.others.others.others.others)) (λ v b f q. q.first.same)) (λ v b f q. ap (λ (z : EndImage). z.recv_depth) q.others.others.others.others.others.others)) (λ v b f q. ap (λ (z : EndImage). z.send_depth) q.others.others.others.others.others.others.others)) (λ v b f q. ap (λ (z : EndImage). z.recv_cq) q.others.others.others.others.others.others.others.others)) (λ v b f q. ap (λ (z : EndImage). z.send_cq) q.others.others.others.others.others.others.others.others.others)) (λ v b f q. ap (λ (z : EndImage). z.domain) q.others.others.others.others.others.others.others.others.others.others)) (λ v b f q. ap (λ (z : EndImage). z.number) q.others.others.others.others.others.others.others.others.others.others.others)) (λ v b f q. ap (λ (z : EndImage). z.name) q.others.others.others.others.others.others.others.others.others.others.others.others))

-- ---- completion queues

-- entries
abbrev pub EntriesRule : ℕ → List Completion → Type 0
EntriesRule capacity ws = Both ℕ (List Completion) (Passes 4 (λ n. nat_le n capacity)) length (λ n ys. (length ys ≡ n) × Rises Completion EntryRule [] ys) ws

-- a completion queue, without the place of its capacity
unfoldable pub bare_queue_field : List CqImage → Reader CqImage
bare_queue_field seen =
    then_read (name_field (map (λ q. q.name) seen)) λ name.
    then_read (number 4 (within 1 16384)) λ capacity.
    then_read (list_field 4 capacity entry_field) λ entries.
    gives (record { name = name; capacity = capacity; entries = entries })

-- the rules of a completion queue, field by field
pub record QueueRule (seen : List CqImage) (x : CqImage) : Type 0 where
  pub name : IsNewName (map (λ q. q.name) seen) x.name
  pub capacity : Passes 4 (within 1 16384) (x.capacity)
  pub entries : EntriesRule x.capacity x.entries

-- a completion queue is read exactly
pub queueRule_exact : (seen : List CqImage) → Exact CqImage (bare_queue_field seen) (QueueRule seen) (queue_bytes)
unfolding bare_queue_field
queueRule_exact seen =
    exact_as CqImage _ _ _ _ _ _ (λ place bs. refl) (λ x h. record { first = h.name; others = record { first = h.capacity; others = record { first = h.entries; others = refl } } }) (λ x p. record { name = p.first; capacity = p.others.first; entries = p.others.others.first }) (λ x h. simp (append_assoc, append-nil))
    (then_exact _ _ _ _ _ _ (λ (z : CqImage). z.name) _ _ (name_exact (map (λ q. q.name) seen)) (λ name. then_exact _ _ _ _ _ _ (λ (z : CqImage). z.capacity) _ _ (number_exact dump_why.Field 4 (within 1 16384)) (λ capacity. then_exact _ _ _ _ _ _ (λ (z : CqImage). z.entries) _ _ (list_exact Completion entry_field EntryRule entry_bytes (λ seen. entryRule_exact seen) 4 capacity) (λ entries. gives_exact CqImage _) (λ v b f q. ap (λ (z : CqImage). z.entries) q)) (λ v b f q. ap (λ (z : CqImage). z.capacity) q.others)) (λ v b f q. ap (λ (z : CqImage). z.name) q.others.others))
