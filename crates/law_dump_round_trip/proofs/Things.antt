-- Each thing of a dump is read exactly.
use Rattle.std.proofs.Common.{◌≡◌, ℕ, zero, suc, ◌+◌, ◌-◌, ◌*◌, ◌/◌, ◌%◌, ◌^◌, ◌<◌, ◌≤◌, not, ◌&&◌, Bool, true, false, nat_lt, nat_le, List, [], ◌∷◌, ◌++◌, length, map, refl, ap, sym, subst, ◌∙◌, arith, append_assoc, add-zero}
use Rattle.std.specs.Prelude.{◌||◌, ◌==◌, flat_map, Option, Some, None, is_some, if◌then◌else◌}
use Rattle.std.proofs.lemmas.Bool.Decides.{nat_tests}
use Rattle.std.proofs.lemmas.List.{append-nil}
use Rattle.rdma_types.specs.declared.names.Name.{Name}
use Rattle.rdma_types.specs.declared.requests.Completion.{Completion}
use Rattle.rdma_types.specs.declared.requests.Receive.{Receive}
use Rattle.rdma_types.specs.declared.requests.Terms.{Terms}
use Rattle.rdma_types.specs.declared.requests.Kind.{Kind}
use Rattle.rdma_types.specs.declared.requests.Kind.TheVariants as kind
use Rattle.rdma_types.specs.declared.requests.WcKind.{WcKind}
use Rattle.rdma_types.specs.declared.requests.WcKind.TheVariants as wc
use Rattle.rdma_types.specs.declared.requests.WcStatus.{WcStatus}
use Rattle.rdma_types.specs.declared.requests.WcStatus.TheVariants as status
use Rattle.rdma_types.specs.Limits.{is_mtu, most_bytes, most_kept}
use Rattle.rdma_types.specs.Lists.{has_word, some}
use Rattle.rdma_types.specs.Memory.{LocalWrite, is_granted, local_key}
use Rattle.rdma_types.specs.Objects.{Region, no_receive}
use Rattle.rdma_types.specs.Spelled.{is_name}
use Rattle.protocol.specs.declared.dumps.DumpWhy.TheVariants as dump_why
use Rattle.protocol.specs.declared.images.KeptReply.{KeptReply}
use Rattle.protocol.specs.declared.images.LinkImage.{LinkImage}
use Rattle.protocol.specs.declared.images.Progress.{Progress}
use Rattle.protocol.specs.declared.images.Progress.TheVariants as progress
use Rattle.protocol.specs.declared.images.RegionImage.{RegionImage}
use Rattle.protocol.specs.Bytes.{big_bytes, big_number}
use Rattle.protocol.specs.Lawful.{is_number, is_local_key, is_whole_pieces}
use Rattle.protocol.specs.Dumps.{Reading, Reader, Good, Bad, after, then_read, gives, raw, any, number, number_by, judged, judged_name, name_field, text, within, is_24, is_bit, is_below_limit, region_names, region_field, region_bytes, receive_field, receive_bytes, terms_field, kept_field, kept_bytes, rises, progress_by, progress_bytes, may_write_at, length_at, link_field, link_bytes, flag_byte, follows, list_field, counted, completed_of, completed_number, status_of, status_number, is_status, kind_of, kind_number, imm_number, entry_field, entry_bytes}
use Rattle.law_dump_round_trip.proofs.Exact.{AreBytes, Exact, Found, Both, Passes, Rises, exact_as, number_exact, raw_exact, then_exact, then_exact_if, gives_exact, list_exact, items_exact}

-- ---- names

name_short : (n : List ℕ) → is_name n ≡ true → length n < 256
name_short [] h = omega arith
name_short (b ∷ bs) h = grind (arith, nat_tests)

-- a name that is not among those seen
abbrev pub IsNewName : List Name → Name → Type 0
IsNewName seen n = (is_name n && not (has_word n seen)) ≡ true

judged_name_by : (t : Bool) (start : ℕ) (n : Name) (place : ℕ) (bs : List ℕ) (x : Name) (p : ℕ) (rest : List ℕ) → (if t then Good n place bs else Bad start dump_why.Name) ≡ Good x p rest → (t ≡ true) × (x ≡ n) × (bs ≡ rest)
judged_name_by true start n place bs x p rest h = (refl, (cc), (cc))
judged_name_by false start n place bs x p rest h = cc

judged_name_exact : (start : ℕ) (seen : List Name) (n : Name) → Exact Name (judged_name start seen n) (λ x. IsNewName seen x × (x ≡ n)) (λ x. [])
unfolding judged_name
judged_name_exact start seen n = record {
  back = λ x h place rest. let t : (is_name n && not (has_word n seen)) ≡ true = subst (λ (y : Name). IsNewName seen y) h.1 h.0 in
      rw t (ap (λ (y : Name). Good y place rest) (sym h.1) ∙ ap (λ (q : ℕ). Good x q rest) (sym (add-zero place)));
  only = λ place bs all x p rest h. let j = judged_name_by (is_name n && not (has_word n seen)) start n place bs x p rest h in
      record { keeps = (subst (λ (y : Name). IsNewName seen y) (sym j.1) j.0, j.1); spelled = j.2; bytes = subst (λ (y : List ℕ). AreBytes y) j.2 all };
}

-- a name at a start
abbrev named_from : ℕ → List Name → Reader Name
named_from start seen = then_read (number 1 any) λ n. then_read (raw n) (judged_name start seen)

both_true : (a b : Bool) → (a && b) ≡ true → a ≡ true
both_true true b h = refl
both_true false b h = cc

name_of : (seen : List Name) (n : Name) → IsNewName seen n → is_name n ≡ true
name_of seen n h = both_true (is_name n) (not (has_word n seen)) h

text_spelled : (n : Name) → length n < 256 → text n ≡ big_bytes 1 (length n) ++ (n ++ [])
unfolding big_bytes
text_spelled n h =
    let low : length n % 256 ≡ length n = omega arith in
    rw (append-nil, low) refl

named_by : (seen : List Name) (place : ℕ) (r : Reading (List ℕ)) → after r (λ field. λ place' rest. after (raw (big_number field) place' rest) (judged_name place seen)) ≡ after (after r (λ field. judged place dump_why.Field any (big_number field))) (λ n. then_read (raw n) (judged_name place seen))
unfolding after judged
named_by seen place (Bad q w) = refl
named_by seen place (Good x q bs) = refl

named_from_exact : (start : ℕ) (seen : List Name) → Exact Name (named_from start seen) (IsNewName seen) text
named_from_exact start seen =
    exact_as Name _ _ _ _ _ _ (λ place bs. refl)
    (λ x h. record { first = record { test = refl; fits = name_short x (name_of seen x h) }; others = record { first = refl; others = (h, refl) } })
    (λ x p. p.others.others.0)
    (λ x h. text_spelled x (name_short x (name_of seen x h)))
    (then_exact _ _ _ _ _ _ (λ (z : Name). length z) _ _ (number_exact dump_why.Field 1 any) (λ n. then_exact _ _ _ _ _ _ (λ (z : Name). z) _ _ (raw_exact n) (λ x. judged_name_exact start seen x) (λ v b f q. q.1)) (λ v b f q. q.first))

named_same : (seen : List Name) (place : ℕ) (bs : List ℕ) → name_field seen place bs ≡ named_from place seen place bs
unfolding after judged
named_same seen place bs = named_by seen place (raw 1 place bs)

-- a name is read exactly
pub name_exact : (seen : List Name) → Exact Name (name_field seen) (IsNewName seen) text
name_exact seen = record {
  back = λ x h place rest. named_same seen place (text x ++ rest) ∙ (named_from_exact place seen).back x h place rest;
  only = λ place bs all x p rest h. (named_from_exact place seen).only place bs all x p rest (sym (named_same seen place bs) ∙ h);
}

-- the rules of the terms of a connection, field by field
pub record TermsRule (x : Terms) : Type 0 where
  pub mtu : Passes 2 (is_mtu) (x.mtu)
  pub own : Passes 4 (is_24) (x.own_start)
  pub peer : Passes 4 (is_24) (x.peer_start)
  pub retry : Passes 1 (λ n. nat_le n 7) (x.retry)
  pub rnr : Passes 1 (λ n. nat_le n 7) (x.rnr)
  pub reads : Passes 1 (within 1 16) (x.reads)

-- the terms of a connection is read exactly
pub termsRule_exact : Exact Terms (terms_field) (TermsRule) (λ x. big_bytes 2 x.mtu ++ (big_bytes 4 x.own_start ++ (big_bytes 4 x.peer_start ++ (big_bytes 1 x.retry ++ (big_bytes 1 x.rnr ++ (big_bytes 1 x.reads ++ []))))))
unfolding terms_field
termsRule_exact =
    exact_as Terms _ _ _ _ _ _ (λ place bs. refl) (λ x h. record { first = h.mtu; others = record { first = h.own; others = record { first = h.peer; others = record { first = h.retry; others = record { first = h.rnr; others = record { first = h.reads; others = refl } } } } } }) (λ x p. record { mtu = p.first; own = p.others.first; peer = p.others.others.first; retry = p.others.others.others.first; rnr = p.others.others.others.others.first; reads = p.others.others.others.others.others.first }) (λ x h. refl)
    (then_exact _ _ _ _ _ _ (λ (z : Terms). z.mtu) _ _ (number_exact dump_why.Field 2 (is_mtu)) (λ mtu. then_exact _ _ _ _ _ _ (λ (z : Terms). z.own_start) _ _ (number_exact dump_why.Field 4 (is_24)) (λ own. then_exact _ _ _ _ _ _ (λ (z : Terms). z.peer_start) _ _ (number_exact dump_why.Field 4 (is_24)) (λ peer. then_exact _ _ _ _ _ _ (λ (z : Terms). z.retry) _ _ (number_exact dump_why.Field 1 (λ n. nat_le n 7)) (λ retry. then_exact _ _ _ _ _ _ (λ (z : Terms). z.rnr) _ _ (number_exact dump_why.Field 1 (λ n. nat_le n 7)) (λ rnr. then_exact _ _ _ _ _ _ (λ (z : Terms). z.reads) _ _ (number_exact dump_why.Field 1 (within 1 16)) (λ reads. gives_exact Terms _) (λ v b f q. ap (λ (z : Terms). z.reads) q)) (λ v b f q. ap (λ (z : Terms). z.rnr) q.others)) (λ v b f q. ap (λ (z : Terms). z.retry) q.others.others)) (λ v b f q. ap (λ (z : Terms). z.peer_start) q.others.others.others)) (λ v b f q. ap (λ (z : Terms). z.own_start) q.others.others.others.others)) (λ v b f q. ap (λ (z : Terms). z.mtu) q.others.others.others.others.others))

-- the rules of a kept reply, field by field
pub record KeptRule (expected : ℕ) (seen : List KeptReply) (x : KeptReply) : Type 0 where
  pub number : Passes 8 (λ n. rises seen n && nat_lt n expected) (x.number)
  pub old : Passes 8 (any) (x.old)

-- a kept reply is read exactly
pub keptRule_exact : (expected : ℕ) (seen : List KeptReply) → Exact KeptReply (kept_field expected seen) (KeptRule expected seen) (kept_bytes)
unfolding kept_field
keptRule_exact expected seen =
    exact_as KeptReply _ _ _ _ _ _ (λ place bs. refl) (λ x h. record { first = h.number; others = record { first = h.old; others = refl } }) (λ x p. record { number = p.first; old = p.others.first }) (λ x h. simp append-nil)
    (then_exact _ _ _ _ _ _ (λ (z : KeptReply). z.number) _ _ (number_exact dump_why.Field 8 (λ n. rises seen n && nat_lt n expected)) (λ n. then_exact _ _ _ _ _ _ (λ (z : KeptReply). z.old) _ _ (number_exact dump_why.Field 8 (any)) (λ old. gives_exact KeptReply _) (λ v b f q. ap (λ (z : KeptReply). z.old) q)) (λ v b f q. ap (λ (z : KeptReply). z.number) q.others))

-- the rules of a receive, field by field
pub record ReceiveRule (regions : List Region) (domain : Name) (done : ℕ) (x : Receive) : Type 0 where
  pub id : Passes 8 (any) (x.id)
  pub lkey : Passes 4 (any) (x.lkey)
  pub local : Passes 8 (any) (x.local)
  pub length' : Passes 4 (λ n. within done most_bytes n && is_granted local_key regions domain x.lkey x.local n LocalWrite) x.length

-- a receive is read exactly
pub receiveRule_exact : (regions : List Region) (domain : Name) (done : ℕ) → Exact Receive (receive_field regions domain done) (ReceiveRule regions domain done) (receive_bytes)
unfolding receive_field
receiveRule_exact regions domain done =
    exact_as Receive _ _ _ _ _ _ (λ place bs. refl) (λ x h. record { first = h.id; others = record { first = h.lkey; others = record { first = h.local; others = record { first = h.length'; others = refl } } } }) (λ x p. record { id = p.first; lkey = p.others.first; local = p.others.others.first; length' = p.others.others.others.first }) (λ x h. simp (append_assoc, append-nil))
    (then_exact _ _ _ _ _ _ (λ (z : Receive). z.id) _ _ (number_exact dump_why.Field 8 (any)) (λ id. then_exact _ _ _ _ _ _ (λ (z : Receive). z.lkey) _ _ (number_exact dump_why.Field 4 (any)) (λ lkey. then_exact _ _ _ _ _ _ (λ (z : Receive). z.local) _ _ (number_exact dump_why.Field 8 (any)) (λ local. then_exact _ _ _ _ _ _ (λ (z : Receive). z.length) _ _ (number_exact dump_why.Field 4 (λ n. within done most_bytes n && is_granted local_key regions domain lkey local n LocalWrite)) (λ length'. gives_exact Receive _) (λ v b f q. ap (λ (z : Receive). z.length) q)) (λ v b f q. ap (λ (z : Receive). z.local) q.others)) (λ v b f q. ap (λ (z : Receive). z.lkey) q.others.others)) (λ v b f q. ap (λ (z : Receive). z.id) q.others.others.others))

-- the rules of a region, field by field
pub record RegionRule (domains : ℕ) (seen : List RegionImage) (x : RegionImage) : Type 0 where
  pub name : IsNewName (region_names seen) x.name
  pub domain : Passes 2 (λ n. nat_lt n domains) (x.domain)
  pub base : Passes 8 (λ n. nat_le n (2 ^ 63)) (x.base)
  pub length' : Passes 4 (within 1 16777216) (x.length)
  pub rights : Passes 1 (λ n. nat_le n 15) (x.rights.0)
  pub local : Passes 4 (λ n. is_local_key n && not (some (λ r. r.keys.local == n) seen)) (x.keys.local)
  pub remote : Passes 4 (λ n. n == x.keys.local + 1) x.keys.remote
  pub whole : length x.bytes ≡ x.length

-- a region is read exactly
pub regionRule_exact : (domains : ℕ) (seen : List RegionImage) → Exact RegionImage (region_field domains seen) (RegionRule domains seen) (region_bytes)
unfolding region_field
regionRule_exact domains seen =
    exact_as RegionImage _ _ _ _ _ _ (λ place bs. refl) (λ x h. record { first = h.name; others = record { first = h.domain; others = record { first = h.base; others = record { first = h.length'; others = record { first = h.rights; others = record { first = h.local; others = record { first = h.remote; others = record { first = h.whole; others = refl } } } } } } } }) (λ x p. record { name = p.first; domain = p.others.first; base = p.others.others.first; length' = p.others.others.others.first; rights = p.others.others.others.others.first; local = p.others.others.others.others.others.first; remote = p.others.others.others.others.others.others.first; whole = p.others.others.others.others.others.others.others.first }) (λ x h. simp (append_assoc, append-nil))
    (then_exact _ _ _ _ _ _ (λ (z : RegionImage). z.name) _ _ (name_exact (region_names seen)) (λ name. then_exact _ _ _ _ _ _ (λ (z : RegionImage). z.domain) _ _ (number_exact dump_why.Field 2 (λ n. nat_lt n domains)) (λ domain. then_exact _ _ _ _ _ _ (λ (z : RegionImage). z.base) _ _ (number_exact dump_why.Field 8 (λ n. nat_le n (2 ^ 63))) (λ base. then_exact _ _ _ _ _ _ (λ (z : RegionImage). z.length) _ _ (number_exact dump_why.Field 4 (within 1 16777216)) (λ length'. then_exact _ _ _ _ _ _ (λ (z : RegionImage). z.rights.0) _ _ (number_exact dump_why.Field 1 (λ n. nat_le n 15)) (λ rights. then_exact _ _ _ _ _ _ (λ (z : RegionImage). z.keys.local) _ _ (number_exact dump_why.Field 4 (λ n. is_local_key n && not (some (λ r. r.keys.local == n) seen))) (λ local. then_exact _ _ _ _ _ _ (λ (z : RegionImage). z.keys.remote) _ _ (number_exact dump_why.Field 4 (λ n. n == local + 1)) (λ remote. then_exact _ _ _ _ _ _ (λ (z : RegionImage). z.bytes) _ _ (raw_exact length') (λ bytes. gives_exact RegionImage _) (λ v b f q. ap (λ (z : RegionImage). z.bytes) q)) (λ v b f q. ap (λ (z : RegionImage). z.keys.remote) q.others)) (λ v b f q. ap (λ (z : RegionImage). z.keys.local) q.others.others)) (λ v b f q. ap (λ (z : RegionImage). z.rights.0) q.others.others.others)) (λ v b f q. ap (λ (z : RegionImage). z.length) q.others.others.others.others)) (λ v b f q. ap (λ (z : RegionImage). z.base) q.others.others.others.others.others)) (λ v b f q. ap (λ (z : RegionImage). z.domain) q.others.others.others.others.others.others)) (λ v b f q. ap (λ (z : RegionImage). z.name) q.others.others.others.others.others.others.others))

completed_again : (k : WcKind) → completed_of (completed_number k) ≡ k
completed_again wc.Write = refl
completed_again wc.Send = refl
completed_again wc.Read = refl
completed_again wc.CompareSwap = refl
completed_again wc.FetchAdd = refl
completed_again wc.Recv = refl
completed_again wc.RecvImm = refl

status_again : (k : WcStatus) → status_of (status_number k) ≡ k
status_again status.Success = refl
status_again status.LocalLength = refl
status_again status.Flush = refl
status_again status.RemoteInvalid = refl
status_again status.RemoteAccess = refl
status_again status.RetryExceeded = refl
status_again status.RnrExceeded = refl

pub kind_again : (k : Kind) → kind_of (kind_number k) ≡ k
kind_again kind.Write = refl
kind_again kind.Send = refl
kind_again kind.Read = refl
kind_again kind.CompareSwap = refl
kind_again kind.FetchAdd = refl

-- 1 where there is something
abbrev pub some_number : Option ℕ → ℕ
some_number None = 0
some_number (Some n) = 1

imm_again : (o : Option ℕ) → (if some_number o == 1 then Some (imm_number o) else None) ≡ o
imm_again None = refl
imm_again (Some n) = refl

completed_back : (n : ℕ) → nat_le n 6 ≡ true → completed_number (completed_of n) ≡ n
completed_back n h = grind (arith, nat_tests)

status_back : (n : ℕ) → is_status n ≡ true → status_number (status_of n) ≡ n
status_back n h = grind (arith, nat_tests)

pub kind_back : (n : ℕ) → nat_le n 4 ≡ true → kind_number (kind_of n) ≡ n
kind_back n h = grind (arith, nat_tests)

above_one : (v : ℕ) → nat_le (suc (suc v)) 1 ≡ true → suc (suc v) ≤ 1
above_one v h = grind (arith, nat_tests)

flag_back : (v n : ℕ) → is_bit v ≡ true → some_number (if v == 1 then Some n else None) ≡ v
flag_back zero n h = refl
flag_back (suc zero) n h = refl
flag_back (suc (suc v)) n h = absurd (omega (arith, above_one v h))

pub imm_by : (t : Bool) (v : ℕ) → (t || v == 0) ≡ true → imm_number (if t then Some v else None) ≡ v
imm_by true v h = refl
imm_by false v h = grind (arith, nat_tests)

flag_spelled : (o : Option ℕ) → flag_byte (is_some o) ≡ big_bytes 1 (some_number o)
unfolding big_bytes
flag_spelled None = refl
flag_spelled (Some n) = refl

-- the rules of a completion, field by field
pub record EntryRule (seen : List Completion) (x : Completion) : Type 0 where
  pub qp : Passes 4 (is_number) (x.qp)
  pub id : Passes 8 (any) (x.id)
  pub kind' : Passes 1 (λ n. nat_le n 6) (completed_number x.kind)
  pub status' : Passes 1 (is_status) (status_number x.status)
  pub length' : Passes 4 (λ n. nat_le n most_bytes) (x.length)
  pub flag : Passes 1 (is_bit) (some_number x.imm)
  pub imm : Passes 4 (λ n. some_number x.imm == 1 || n == 0) (imm_number x.imm)

-- a completion is read exactly
pub entryRule_exact : (seen : List Completion) → Exact Completion (entry_field seen) (EntryRule seen) (entry_bytes)
unfolding entry_field
entryRule_exact seen =
    exact_as Completion _ _ _ _ _ _ (λ place bs. refl) (λ x h. record { first = h.qp; others = record { first = h.id; others = record { first = h.kind'; others = record { first = h.status'; others = record { first = h.length'; others = record { first = h.flag; others = record { first = h.imm; others = λ i. record { qp = x.qp; id = x.id; kind = sym (completed_again x.kind) i; status = sym (status_again x.status) i; length = x.length; imm = sym (imm_again x.imm) i } } } } } } } }) (λ x p. record { qp = p.first; id = p.others.first; kind' = p.others.others.first; status' = p.others.others.others.first; length' = p.others.others.others.others.first; flag = p.others.others.others.others.others.first; imm = p.others.others.others.others.others.others.first }) (λ x h. rw (flag_spelled x.imm) (simp (append_assoc, append-nil)))
    (then_exact _ _ _ _ _ _ (λ (z : Completion). z.qp) _ _ (number_exact dump_why.Field 4 (is_number)) (λ qp. then_exact _ _ _ _ _ _ (λ (z : Completion). z.id) _ _ (number_exact dump_why.Field 8 (any)) (λ id. then_exact _ _ _ _ _ _ (λ (z : Completion). completed_number z.kind) _ _ (number_exact dump_why.Field 1 (λ n. nat_le n 6)) (λ kind'. then_exact _ _ _ _ _ _ (λ (z : Completion). status_number z.status) _ _ (number_exact dump_why.Field 1 (is_status)) (λ status'. then_exact _ _ _ _ _ _ (λ (z : Completion). z.length) _ _ (number_exact dump_why.Field 4 (λ n. nat_le n most_bytes)) (λ length'. then_exact _ _ _ _ _ _ (λ (z : Completion). some_number z.imm) _ _ (number_exact dump_why.Field 1 (is_bit)) (λ flag. then_exact _ _ _ _ _ _ (λ (z : Completion). imm_number z.imm) _ _ (number_exact dump_why.Field 4 (λ n. flag == 1 || n == 0)) (λ imm. gives_exact Completion _) (λ v b f q. ap (λ (z : Completion). imm_number z.imm) q ∙ imm_by (flag == 1) v f.test)) (λ v b f q. ap (λ (z : Completion). some_number z.imm) q.others ∙ flag_back v _ f.test)) (λ v b f q. ap (λ (z : Completion). z.length) q.others.others)) (λ v b f q. ap (λ (z : Completion). status_number z.status) q.others.others.others ∙ status_back v f.test)) (λ v b f q. ap (λ (z : Completion). completed_number z.kind) q.others.others.others.others ∙ completed_back v f.test)) (λ v b f q. ap (λ (z : Completion). z.id) q.others.others.others.others.others)) (λ v b f q. ap (λ (z : Completion). z.qp) q.others.others.others.others.others.others))

-- ---- messages in progress

-- its code
abbrev pub progress_code : Progress → ℕ
progress_code progress.Idle = 0
progress_code (progress.Send done receive) = 1
progress_code (progress.Write region off length' done) = 2

-- its bytes behind the code
abbrev pub progress_tail : Progress → List ℕ
progress_tail progress.Idle = []
progress_tail (progress.Send done receive) = big_bytes 4 done ++ receive_bytes receive
progress_tail (progress.Write region off length' done) = big_bytes 2 region ++ big_bytes 4 off ++ big_bytes 4 length' ++ big_bytes 4 done

-- a SEND in progress
pub record SendRule (regions : List Region) (domain : Name) (mtu done : ℕ) (r : Receive) : Type 0 where
  pub done' : Passes 4 (is_whole_pieces mtu) done
  pub receive : ReceiveRule regions domain done r

-- a WRITE in progress
pub record WriteRule (regions : List Region) (domain : Name) (mtu region off length' done : ℕ) : Type 0 where
  pub region' : Passes 2 (may_write_at regions domain) region
  pub off' : Passes 4 any off
  pub length'' : Passes 4 (λ n. nat_le n most_bytes && (n == 0 || nat_le (off + n) (length_at regions region))) length'
  pub done' : Passes 4 (λ n. is_whole_pieces mtu n && nat_lt n length') done

-- the message in progress
abbrev pub MessageRule : List Region → Name → ℕ → Progress → Type 0
MessageRule regions domain mtu progress.Idle = Unit {0}
MessageRule regions domain mtu (progress.Send done receive) = SendRule regions domain mtu done receive
MessageRule regions domain mtu (progress.Write region off length' done) = WriteRule regions domain mtu region off length' done

-- the parts of each message, and nothing of others
abbrev sent_of : Progress → ℕ
sent_of progress.Idle = 0
sent_of (progress.Send done receive) = done
sent_of (progress.Write region off length' done) = done

abbrev receive_of : Progress → Receive
receive_of progress.Idle = no_receive
receive_of (progress.Send done receive) = receive
receive_of (progress.Write region off length' done) = no_receive

abbrev region_of : Progress → ℕ
region_of progress.Idle = 0
region_of (progress.Send done receive) = 0
region_of (progress.Write region off length' done) = region

abbrev off_of : Progress → ℕ
off_of progress.Idle = 0
off_of (progress.Send done receive) = 0
off_of (progress.Write region off length' done) = off

abbrev length_of : Progress → ℕ
length_of progress.Idle = 0
length_of (progress.Send done receive) = 0
length_of (progress.Write region off length' done) = length'

-- a SEND, whatever was read
record IsSend (regions : List Region) (domain : Name) (mtu : ℕ) (p : Progress) : Type 0 where
  done : Passes 4 (is_whole_pieces mtu) (sent_of p)
  receive : ReceiveRule regions domain (sent_of p) (receive_of p)
  whole : p ≡ progress.Send (sent_of p) (receive_of p)

send_exact : (regions : List Region) (domain : Name) (mtu : ℕ) → Exact Progress (then_read (number 4 (is_whole_pieces mtu)) λ done. then_read (receive_field regions domain done) λ receive. gives (progress.Send done receive)) (IsSend regions domain mtu) (λ p. big_bytes 4 (sent_of p) ++ (receive_bytes (receive_of p) ++ []))
send_exact regions domain mtu =
    exact_as Progress _ _ _ _ _ _ (λ place bs. refl) (λ x h. record { first = h.done; others = record { first = h.receive; others = h.whole } }) (λ x p. record { done = p.first; receive = p.others.first; whole = p.others.others }) (λ x h. refl)
    (then_exact _ _ _ _ _ _ sent_of _ _ (number_exact dump_why.Field 4 (is_whole_pieces mtu)) (λ done. then_exact _ _ _ _ _ _ receive_of _ _ (receiveRule_exact regions domain done) (λ receive. gives_exact Progress (progress.Send done receive)) (λ v b f q. ap receive_of q)) (λ v b f q. ap sent_of q.others))

-- a WRITE, whatever was read
record IsWrite (regions : List Region) (domain : Name) (mtu : ℕ) (p : Progress) : Type 0 where
  parts : WriteRule regions domain mtu (region_of p) (off_of p) (length_of p) (sent_of p)
  whole : p ≡ progress.Write (region_of p) (off_of p) (length_of p) (sent_of p)

write_exact : (regions : List Region) (domain : Name) (mtu : ℕ) → Exact Progress (then_read (number 2 (may_write_at regions domain)) λ region. then_read (number 4 any) λ off. then_read (number 4 λ n. nat_le n most_bytes && (n == 0 || nat_le (off + n) (length_at regions region))) λ length'. then_read (number 4 λ n. is_whole_pieces mtu n && nat_lt n length') λ done. gives (progress.Write region off length' done)) (IsWrite regions domain mtu) (λ p. big_bytes 2 (region_of p) ++ (big_bytes 4 (off_of p) ++ (big_bytes 4 (length_of p) ++ (big_bytes 4 (sent_of p) ++ []))))
write_exact regions domain mtu =
    exact_as Progress _ _ _ _ _ _ (λ place bs. refl)
    (λ x h. record { first = h.parts.region'; others = record { first = h.parts.off'; others = record { first = h.parts.length''; others = record { first = h.parts.done'; others = h.whole } } } })
    (λ x p. record { parts = record { region' = p.first; off' = p.others.first; length'' = p.others.others.first; done' = p.others.others.others.first }; whole = p.others.others.others.others })
    (λ x h. refl)
    (then_exact _ _ _ _ _ _ region_of _ _ (number_exact dump_why.Field 2 (may_write_at regions domain)) (λ region. then_exact _ _ _ _ _ _ off_of _ _ (number_exact dump_why.Field 4 any) (λ off. then_exact _ _ _ _ _ _ length_of _ _ (number_exact dump_why.Field 4 (λ n. nat_le n most_bytes && (n == 0 || nat_le (off + n) (length_at regions region)))) (λ length'. then_exact _ _ _ _ _ _ sent_of _ _ (number_exact dump_why.Field 4 (λ n. is_whole_pieces mtu n && nat_lt n length')) (λ done. gives_exact Progress (progress.Write region off length' done)) (λ v b f q. ap sent_of q)) (λ v b f q. ap length_of q.others)) (λ v b f q. ap off_of q.others.others)) (λ v b f q. ap region_of q.others.others.others))

-- a message whose code passed
pub record OfCode (regions : List Region) (domain : Name) (mtu code : ℕ) (p : Progress) : Type 0 where
  pub same : progress_code p ≡ code
  pub message : MessageRule regions domain mtu p

idle_exact : (regions : List Region) (domain : Name) (mtu code : ℕ) → code ≡ 0 → Exact Progress (gives progress.Idle) (OfCode regions domain mtu code) progress_tail
idle_exact regions domain mtu code e = exact_as Progress _ _ _ _ _ _ (λ place bs. refl) (λ x h. idle_to x h.same) (λ x p. idle_from x p) (λ x h. idle_tail x h.same) (gives_exact Progress progress.Idle)
  where
    idle_to : (x : Progress) → progress_code x ≡ code → x ≡ progress.Idle
    idle_to progress.Idle h = refl
    idle_to (progress.Send done receive) h = cc
    idle_to (progress.Write region off length' done) h = cc

    idle_from : (x : Progress) → x ≡ progress.Idle → OfCode regions domain mtu code x
    idle_from progress.Idle h = record { same = sym e; message = tt }
    idle_from (progress.Send done receive) h = cc
    idle_from (progress.Write region off length' done) h = cc

    idle_tail : (x : Progress) → progress_code x ≡ code → progress_tail x ≡ []
    idle_tail progress.Idle h = refl
    idle_tail (progress.Send done receive) h = cc
    idle_tail (progress.Write region off length' done) h = cc

send_of_code : (regions : List Region) (domain : Name) (mtu code : ℕ) → code ≡ 1 → Exact Progress (then_read (number 4 (is_whole_pieces mtu)) λ done. then_read (receive_field regions domain done) λ receive. gives (progress.Send done receive)) (OfCode regions domain mtu code) progress_tail
send_of_code regions domain mtu code e = exact_as Progress _ _ _ _ _ _ (λ place bs. refl) (λ x h. to x h.same h.message) (λ x p. from x p) (λ x h. tail x h.same) (send_exact regions domain mtu)
  where
    to : (x : Progress) → progress_code x ≡ code → MessageRule regions domain mtu x → IsSend regions domain mtu x
    to progress.Idle h m = cc
    to (progress.Send done receive) h m = record { done = m.done'; receive = m.receive; whole = refl }
    to (progress.Write region off length' done) h m = cc

    from : (x : Progress) → IsSend regions domain mtu x → OfCode regions domain mtu code x
    from progress.Idle p = let h = p.whole in cc
    from (progress.Send done receive) p = record { same = sym e; message = record { done' = p.done; receive = p.receive } }
    from (progress.Write region off length' done) p = let h = p.whole in cc

    tail : (x : Progress) → progress_code x ≡ code → progress_tail x ≡ big_bytes 4 (sent_of x) ++ (receive_bytes (receive_of x) ++ [])
    tail progress.Idle h = cc
    tail (progress.Send done receive) h = simp append-nil
    tail (progress.Write region off length' done) h = cc

write_of_code : (regions : List Region) (domain : Name) (mtu code : ℕ) → code ≡ 2 → Exact Progress (then_read (number 2 (may_write_at regions domain)) λ region. then_read (number 4 any) λ off. then_read (number 4 λ n. nat_le n most_bytes && (n == 0 || nat_le (off + n) (length_at regions region))) λ length'. then_read (number 4 λ n. is_whole_pieces mtu n && nat_lt n length') λ done. gives (progress.Write region off length' done)) (OfCode regions domain mtu code) progress_tail
write_of_code regions domain mtu code e = exact_as Progress _ _ _ _ _ _ (λ place bs. refl) (λ x h. to x h.same h.message) (λ x p. from x p) (λ x h. tail x h.same) (write_exact regions domain mtu)
  where
    to : (x : Progress) → progress_code x ≡ code → MessageRule regions domain mtu x → IsWrite regions domain mtu x
    to progress.Idle h m = cc
    to (progress.Send done receive) h m = cc
    to (progress.Write region off length' done) h m = record { parts = m; whole = refl }

    from : (x : Progress) → IsWrite regions domain mtu x → OfCode regions domain mtu code x
    from progress.Idle p = let h = p.whole in cc
    from (progress.Send done receive) p = let h = p.whole in cc
    from (progress.Write region off length' done) p = record { same = sym e; message = p.parts }

    tail : (x : Progress) → progress_code x ≡ code → progress_tail x ≡ big_bytes 2 (region_of x) ++ (big_bytes 4 (off_of x) ++ (big_bytes 4 (length_of x) ++ (big_bytes 4 (sent_of x) ++ [])))
    tail progress.Idle h = cc
    tail (progress.Send done receive) h = cc
    tail (progress.Write region off length' done) h = simp (append_assoc, append-nil)

-- the message in progress is read exactly
progressRule_exact : (regions : List Region) (domain : Name) (mtu code : ℕ) → code ≤ 2 → Exact Progress (progress_by regions domain mtu code) (OfCode regions domain mtu code) progress_tail
unfolding progress_by
progressRule_exact regions domain mtu zero h = idle_exact regions domain mtu 0 refl
progressRule_exact regions domain mtu (suc zero) h = send_of_code regions domain mtu 1 refl
progressRule_exact regions domain mtu (suc (suc zero)) h = write_of_code regions domain mtu 2 refl
progressRule_exact regions domain mtu (suc (suc (suc n))) h = absurd (omega arith)

-- ---- connected ends

-- 0 or 1
abbrev pub bit_number : Bool → ℕ
bit_number b = if b then 1 else 0

bit_again : (b : Bool) → (bit_number b == 1) ≡ b
bit_again true = refl
bit_again false = refl

bit_back : (n : ℕ) → n ≤ 1 → bit_number (n == 1) ≡ n
bit_back zero h = refl
bit_back (suc zero) h = refl
bit_back (suc (suc n)) h = absurd (omega arith)

bit_spelled : (b : Bool) → flag_byte b ≡ big_bytes 1 (bit_number b)
unfolding big_bytes
bit_spelled true = refl
bit_spelled false = refl

at_most_one : (n : ℕ) → nat_le n 1 ≡ true → n ≤ 1
at_most_one n h = grind (arith, nat_tests)

resuming_small : (ended : Bool) (n : ℕ) → nat_le n (if ended then 0 else 1) ≡ true → n ≤ 1
resuming_small true n h = grind (arith, nat_tests)
resuming_small false n h = grind (arith, nat_tests)

code_small : (ended : Bool) (n : ℕ) → nat_le n (if ended then 0 else 2) ≡ true → n ≤ 2
code_small true n h = grind (arith, nat_tests)
code_small false n h = grind (arith, nat_tests)

progress_spelled : (p : Progress) → progress_bytes p ≡ big_bytes 1 (progress_code p) ++ progress_tail p
unfolding big_bytes
progress_spelled progress.Idle = refl
progress_spelled (progress.Send done receive) = refl
progress_spelled (progress.Write region off length' done) = refl

-- a list of kept replies
abbrev pub KeptListRule : ℕ → List KeptReply → Type 0
KeptListRule expected xs = Both ℕ (List KeptReply) (Passes 1 (λ n. nat_le n most_kept)) length (λ n ys. (length ys ≡ n) × Rises KeptReply (KeptRule expected) [] ys) xs

-- the rules of a connected end, field by field
pub record LinkRule (regions : List Region) (domain : Name) (ended : Bool) (x : LinkImage) : Type 0 where
  pub is_ended : x.ended ≡ ended
  pub peer : Passes 4 (is_24) (x.peer)
  pub ip : Passes 4 (any) (x.partner.ip)
  pub port : Passes 2 (any) (x.partner.port)
  pub moves : Passes 2 (any) (x.moves)
  pub partner_moves : Passes 2 (any) (x.partner_moves)
  pub resuming : Passes 1 (λ n. nat_le n (if ended then 0 else 1)) (bit_number x.resuming)
  pub terms : TermsRule x.terms
  pub first : Passes 8 (is_below_limit) (x.first)
  pub una : Passes 8 (λ n. is_below_limit n && nat_le x.first n) x.una
  pub next : Passes 8 (follows ended x.una) x.next
  pub top : Passes 8 (follows ended x.next) x.top
  pub spent : Passes 1 (λ n. nat_le n x.terms.retry) x.spent
  pub waits : Passes 1 (λ n. x.terms.rnr == 7 || nat_le n x.terms.rnr) x.waits
  pub rnr_wait : Passes 1 (is_bit) (bit_number x.rnr_wait)
  pub expected : Passes 8 (is_below_limit) (x.expected)
  pub nak_sent : Passes 1 (is_bit) (bit_number x.nak_sent)
  pub msn : Passes 4 (is_24) (x.msn)
  pub code : Passes 1 (λ n. nat_le n (if ended then 0 else 2)) (progress_code x.progress)
  pub progress' : OfCode regions domain x.terms.mtu (progress_code x.progress) x.progress
  pub kept : KeptListRule x.expected x.kept

-- a connected end is read exactly
pub linkRule_exact : (regions : List Region) (domain : Name) (ended : Bool) → Exact LinkImage (link_field regions domain ended) (LinkRule regions domain ended) (link_bytes)
unfolding link_field
linkRule_exact regions domain ended =
    exact_as LinkImage _ _ _ _ _ _ (λ place bs. refl) (λ x h. record { first = h.peer; others = record { first = h.ip; others = record { first = h.port; others = record { first = h.moves; others = record { first = h.partner_moves; others = record { first = h.resuming; others = record { first = h.terms; others = record { first = h.first; others = record { first = h.una; others = record { first = h.next; others = record { first = h.top; others = record { first = h.spent; others = record { first = h.waits; others = record { first = h.rnr_wait; others = record { first = h.expected; others = record { first = h.nak_sent; others = record { first = h.msn; others = record { first = h.code; others = record { first = h.progress'; others = record { first = h.kept; others = λ i. record { ended = h.is_ended i; peer = x.peer; partner = x.partner; moves = x.moves; partner_moves = x.partner_moves; resuming = sym (bit_again x.resuming) i; terms = x.terms; first = x.first; una = x.una; next = x.next; top = x.top; spent = x.spent; waits = x.waits; rnr_wait = sym (bit_again x.rnr_wait) i; expected = x.expected; nak_sent = sym (bit_again x.nak_sent) i; msn = x.msn; progress = x.progress; kept = x.kept } } } } } } } } } } } } } } } } } } } } }) (λ x p. record { is_ended = ap (λ (z : LinkImage). z.ended) p.others.others.others.others.others.others.others.others.others.others.others.others.others.others.others.others.others.others.others.others; peer = p.first; ip = p.others.first; port = p.others.others.first; moves = p.others.others.others.first; partner_moves = p.others.others.others.others.first; resuming = p.others.others.others.others.others.first; terms = p.others.others.others.others.others.others.first; first = p.others.others.others.others.others.others.others.first; una = p.others.others.others.others.others.others.others.others.first; next = p.others.others.others.others.others.others.others.others.others.first; top = p.others.others.others.others.others.others.others.others.others.others.first; spent = p.others.others.others.others.others.others.others.others.others.others.others.first; waits = p.others.others.others.others.others.others.others.others.others.others.others.others.first; rnr_wait = p.others.others.others.others.others.others.others.others.others.others.others.others.others.first; expected = p.others.others.others.others.others.others.others.others.others.others.others.others.others.others.first; nak_sent = p.others.others.others.others.others.others.others.others.others.others.others.others.others.others.others.first; msn = p.others.others.others.others.others.others.others.others.others.others.others.others.others.others.others.others.first; code = p.others.others.others.others.others.others.others.others.others.others.others.others.others.others.others.others.others.first; progress' = p.others.others.others.others.others.others.others.others.others.others.others.others.others.others.others.others.others.others.first; kept = p.others.others.others.others.others.others.others.others.others.others.others.others.others.others.others.others.others.others.others.first }) (λ x h. rw (bit_spelled x.resuming, bit_spelled x.rnr_wait, bit_spelled x.nak_sent, progress_spelled x.progress) (simp (append_assoc, append-nil)))
    (then_exact _ _ _ _ _ _ (λ (z : LinkImage). z.peer) _ _ (number_exact dump_why.Field 4 (is_24)) (λ peer. then_exact _ _ _ _ _ _ (λ (z : LinkImage). z.partner.ip) _ _ (number_exact dump_why.Field 4 (any)) (λ ip. then_exact _ _ _ _ _ _ (λ (z : LinkImage). z.partner.port) _ _ (number_exact dump_why.Field 2 (any)) (λ port. then_exact _ _ _ _ _ _ (λ (z : LinkImage). z.moves) _ _ (number_exact dump_why.Field 2 (any)) (λ moves. then_exact _ _ _ _ _ _ (λ (z : LinkImage). z.partner_moves) _ _ (number_exact dump_why.Field 2 (any)) (λ partner_moves. then_exact _ _ _ _ _ _ (λ (z : LinkImage). bit_number z.resuming) _ _ (number_exact dump_why.Field 1 (λ n. nat_le n (if ended then 0 else 1))) (λ resuming. then_exact _ _ _ _ _ _ (λ (z : LinkImage). z.terms) _ _ (termsRule_exact) (λ terms. then_exact _ _ _ _ _ _ (λ (z : LinkImage). z.first) _ _ (number_exact dump_why.Field 8 (is_below_limit)) (λ first. then_exact _ _ _ _ _ _ (λ (z : LinkImage). z.una) _ _ (number_exact dump_why.Field 8 (λ n. is_below_limit n && nat_le first n)) (λ una. then_exact _ _ _ _ _ _ (λ (z : LinkImage). z.next) _ _ (number_exact dump_why.Field 8 (follows ended una)) (λ next. then_exact _ _ _ _ _ _ (λ (z : LinkImage). z.top) _ _ (number_exact dump_why.Field 8 (follows ended next)) (λ top. then_exact _ _ _ _ _ _ (λ (z : LinkImage). z.spent) _ _ (number_exact dump_why.Field 1 (λ n. nat_le n terms.retry)) (λ spent. then_exact _ _ _ _ _ _ (λ (z : LinkImage). z.waits) _ _ (number_exact dump_why.Field 1 (λ n. terms.rnr == 7 || nat_le n terms.rnr)) (λ waits. then_exact _ _ _ _ _ _ (λ (z : LinkImage). bit_number z.rnr_wait) _ _ (number_exact dump_why.Field 1 (is_bit)) (λ rnr_wait. then_exact _ _ _ _ _ _ (λ (z : LinkImage). z.expected) _ _ (number_exact dump_why.Field 8 (is_below_limit)) (λ expected. then_exact _ _ _ _ _ _ (λ (z : LinkImage). bit_number z.nak_sent) _ _ (number_exact dump_why.Field 1 (is_bit)) (λ nak_sent. then_exact _ _ _ _ _ _ (λ (z : LinkImage). z.msn) _ _ (number_exact dump_why.Field 4 (is_24)) (λ msn. then_exact_if _ _ _ _ _ _ (λ (z : LinkImage). progress_code z.progress) _ _ (number_exact dump_why.Field 1 (λ n. nat_le n (if ended then 0 else 2))) (λ code pass. then_exact _ _ _ _ _ _ (λ (z : LinkImage). z.progress) _ _ (progressRule_exact regions domain terms.mtu code (code_small ended code pass.test)) (λ progress'. then_exact _ _ _ _ _ _ (λ (z : LinkImage). z.kept) _ _ (list_exact KeptReply (kept_field expected) (KeptRule expected) kept_bytes (λ seen. keptRule_exact expected seen) 1 most_kept) (λ kept. gives_exact LinkImage _) (λ v b f q. ap (λ (z : LinkImage). z.kept) q)) (λ v b f q. ap (λ (z : LinkImage). z.progress) q.others)) (λ v b f q. q.first.same)) (λ v b f q. ap (λ (z : LinkImage). z.msn) q.others.others.others)) (λ v b f q. ap (λ (z : LinkImage). bit_number z.nak_sent) q.others.others.others.others ∙ bit_back v (at_most_one v f.test))) (λ v b f q. ap (λ (z : LinkImage). z.expected) q.others.others.others.others.others)) (λ v b f q. ap (λ (z : LinkImage). bit_number z.rnr_wait) q.others.others.others.others.others.others ∙ bit_back v (at_most_one v f.test))) (λ v b f q. ap (λ (z : LinkImage). z.waits) q.others.others.others.others.others.others.others)) (λ v b f q. ap (λ (z : LinkImage). z.spent) q.others.others.others.others.others.others.others.others)) (λ v b f q. ap (λ (z : LinkImage). z.top) q.others.others.others.others.others.others.others.others.others)) (λ v b f q. ap (λ (z : LinkImage). z.next) q.others.others.others.others.others.others.others.others.others.others)) (λ v b f q. ap (λ (z : LinkImage). z.una) q.others.others.others.others.others.others.others.others.others.others.others)) (λ v b f q. ap (λ (z : LinkImage). z.first) q.others.others.others.others.others.others.others.others.others.others.others.others)) (λ v b f q. ap (λ (z : LinkImage). z.terms) q.others.others.others.others.others.others.others.others.others.others.others.others.others)) (λ v b f q. ap (λ (z : LinkImage). bit_number z.resuming) q.others.others.others.others.others.others.others.others.others.others.others.others.others.others ∙ bit_back v (resuming_small ended v f.test))) (λ v b f q. ap (λ (z : LinkImage). z.partner_moves) q.others.others.others.others.others.others.others.others.others.others.others.others.others.others.others)) (λ v b f q. ap (λ (z : LinkImage). z.moves) q.others.others.others.others.others.others.others.others.others.others.others.others.others.others.others.others)) (λ v b f q. ap (λ (z : LinkImage). z.partner.port) q.others.others.others.others.others.others.others.others.others.others.others.others.others.others.others.others.others)) (λ v b f q. ap (λ (z : LinkImage). z.partner.ip) q.others.others.others.others.others.others.others.others.others.others.others.others.others.others.others.others.others.others)) (λ v b f q. ap (λ (z : LinkImage). z.peer) q.others.others.others.others.others.others.others.others.others.others.others.others.others.others.others.others.others.others.others))
