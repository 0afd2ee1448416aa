-- Bytes that come later change nothing of what was read.
use Rattle.std.proofs.Common.{◌≡◌, ℕ, zero, suc, ◌+◌, ◌-◌, ◌≤◌, ◌<◌, nat_lt, nat_le, Bool, true, false, not, List, [], ◌∷◌, ◌++◌, length, map, take, drop, refl, ap, sym, ◌∙◌, arith, length-append, length-drop, subst}
use Rattle.std.specs.Prelude.{◌&&◌, ◌||◌, ◌==◌, ◌^◌, Option, Some, None, ⊤, if◌then◌else◌, bytes_eq}
use Rattle.std.proofs.lemmas.Bool.Decides.{nat_tests}
use Rattle.std.proofs.lemmas.List.{take-append-le, drop-append-le, drop-drop}
use Rattle.rdma_types.specs.declared.names.Name.{Name}
use Rattle.rdma_types.specs.declared.requests.Completion.{Completion}
use Rattle.rdma_types.specs.declared.requests.Receive.{Receive}
use Rattle.rdma_types.specs.declared.requests.Terms.{Terms}
use Rattle.rdma_types.specs.Limits.{most_kept}
use Rattle.rdma_types.specs.Objects.{Region}
use Rattle.rdma_types.specs.Spelled.{is_name}
use Rattle.rdma_types.specs.Lists.{has_word}
use Rattle.protocol.specs.declared.dumps.DumpWhy.{DumpWhy}
use Rattle.protocol.specs.declared.dumps.DumpWhy.TheVariants as dump_why
use Rattle.protocol.specs.declared.images.ContextImage.{ContextImage}
use Rattle.protocol.specs.declared.images.EndImage.{EndImage}
use Rattle.protocol.specs.declared.images.KeptReply.{KeptReply}
use Rattle.protocol.specs.declared.images.LinkImage.{LinkImage}
use Rattle.protocol.specs.declared.images.PostedImage.{PostedImage}
use Rattle.protocol.specs.declared.images.Progress.{Progress}
use Rattle.protocol.specs.declared.images.RegionImage.{RegionImage}
use Rattle.protocol.specs.Bytes.{big_number}
use Rattle.protocol.specs.Dumps.{Reading, Reader, Good, Bad, ReadQueue, after, then_read, gives, raw, judged, judged_name, number, number_by, count_field, count_by, name_field, items, list_field, any, region_field, entry_field, queue_field, receive_field, progress_by, kept_field, terms_field, link_field, state_field, request_field, untold_items, end_field, no_overfull, at_end, is_magic, magic, context_field, dump_field, read_dump}
use Rattle.law_dump_round_trip.specs.Later.{is_short}

-- ---- what stays as it is

-- what was read is so where more bytes come, unless they were too few
abbrev pub Stays : {A : Type 0} → List ℕ → Reading A → Reading A → Type 0
Stays more (Good x p rest) r = r ≡ Good x p (rest ++ more)
Stays more (Bad at why) r = is_short why ≡ false → r ≡ Bad at why

-- so many bytes were read from the front
pub record GoesOn (p : ℕ) (bs : List ℕ) (p' : ℕ) (bs' : List ℕ) : Type 0 where
  pub count : ℕ
  pub within : count ≤ length bs
  pub place : p' ≡ p + count
  pub left : bs' ≡ drop count bs

-- what was read went on from a place
abbrev pub Goes : {A : Type 0} → ℕ → List ℕ → Reading A → Type 0
Goes p bs (Good x p' rest) = GoesOn p bs p' rest
Goes p bs (Bad at why) = ⊤

-- a reader reads bytes from the front, and looks at none behind them
pub record IsSteady {A : Type 0} (r : Reader A) : Type 0 where
  pub stays : (p : ℕ) (bs more : List ℕ) → Stays more (r p bs) (r p (bs ++ more))
  pub goes : (p : ℕ) (bs : List ℕ) → Goes p bs (r p bs)

-- one reading after another
stays_after : {A B : Type 0} (more : List ℕ) (a b : Reading A) (f : A → Reader B) → Stays more a b → ((x : A) → IsSteady (f x)) → Stays more (after a f) (after b f)
unfolding after
stays_after more (Good x p rest) b f h s = rw h ((s x).stays p rest more)
stays_after more (Bad at why) b f h s = λ e. rw (h e) refl

goes_past : {B : Type 0} {p : ℕ} {bs : List ℕ} {p' : ℕ} {bs' : List ℕ} → GoesOn p bs p' bs' → (r : Reading B) → Goes p' bs' r → Goes p bs r
goes_past {p = p} {bs = bs} {p' = p'} {bs' = bs'} h (Good y p'' rest) g =
    let long : length bs' ≡ length bs - h.count = ap length h.left ∙ length-drop h.count bs in
    record {
      count = h.count + g.count;
      within = let m = h.within in let n = g.within in omega arith;
      place = let m = h.place in let n = g.place in omega arith;
      left = g.left ∙ (ap (drop g.count) h.left ∙ drop-drop g.count h.count bs);
    }
goes_past h (Bad at why) g = tt

goes_after : {A B : Type 0} (p : ℕ) (bs : List ℕ) (a : Reading A) (f : A → Reader B) → Goes p bs a → ((x : A) → IsSteady (f x)) → Goes p bs (after a f)
unfolding after
goes_after p bs (Good x p' rest) f h s = goes_past h (f x p' rest) ((s x).goes p' rest)
goes_after p bs (Bad at why) f h s = tt

-- one reader after another, which may look at the place where the first began
pub begun_steady : {A B : Type 0} {r : Reader A} {f : ℕ → A → Reader B} → IsSteady r → ((start : ℕ) (x : A) → IsSteady (f start x)) → IsSteady (λ start bs. after (r start bs) (f start))
begun_steady {r = r} {f = f} h s = record {
  stays = λ p bs more. stays_after more (r p bs) (r p (bs ++ more)) (f p) (h.stays p bs more) (s p);
  goes = λ p bs. goes_after p bs (r p bs) (f p) (h.goes p bs) (s p);
}

-- one reader after another
pub then_steady : {A B : Type 0} {r : Reader A} {f : A → Reader B} → IsSteady r → ((x : A) → IsSteady (f x)) → IsSteady (then_read r f)
then_steady {r = r} {f = f} h s = record {
  stays = λ p bs more. stays_after more (r p bs) (r p (bs ++ more)) f (h.stays p bs more) s;
  goes = λ p bs. goes_after p bs (r p bs) f (h.goes p bs) s;
}

nothing_read : (p : ℕ) (bs : List ℕ) → GoesOn p bs p bs
nothing_read p bs = record { count = 0; within = omega arith; place = omega arith; left = refl }

-- nothing is read
pub gives_steady : {A : Type 0} (x : A) → IsSteady (gives x)
gives_steady x = record { stays = λ p bs more. refl; goes = λ p bs. nothing_read p bs }

-- ---- fields

enough_more : (bs more : List ℕ) (n : ℕ) → nat_lt (length bs) n ≡ false → nat_lt (length (bs ++ more)) n ≡ false
enough_more bs more n e = grind (arith, nat_tests, length-append {A = ℕ})

not_below : (m n : ℕ) → nat_lt m n ≡ false → n ≤ m
not_below m n e = grind (arith, nat_tests)

raw_by : (n p : ℕ) (bs more : List ℕ) (short : Bool) → nat_lt (length bs) n ≡ short → Stays more (raw n p bs) (raw n p (bs ++ more))
unfolding raw
raw_by n p bs more true e = rw e (λ s. absurd (cc))
raw_by n p bs more false e =
    let long : n ≤ length bs = not_below (length bs) n e in
    rw (e, enough_more bs more n e, take-append-le n bs more long, drop-append-le n bs more long) refl

raw_goes : (n p : ℕ) (bs : List ℕ) (short : Bool) → nat_lt (length bs) n ≡ short → Goes p bs (raw n p bs)
unfolding raw
raw_goes n p bs true e = rw e tt
raw_goes n p bs false e = rw e (record { count = n; within = not_below (length bs) n e; place = refl; left = refl })

-- so many bytes
pub raw_steady : (n : ℕ) → IsSteady (raw n)
raw_steady n = record {
  stays = λ p bs more. raw_by n p bs more (nat_lt (length bs) n) refl;
  goes = λ p bs. raw_goes n p bs (nat_lt (length bs) n) refl;
}

-- a value, or a fault
pub kept_or_bad : {A : Type 0} (at : ℕ) (why : DumpWhy) (x : A) (ok : Bool) → IsSteady (λ p bs. if ok then Good x p bs else Bad at why)
kept_or_bad at why x true = gives_steady x
kept_or_bad at why x false = record { stays = λ p bs more. λ e. refl; goes = λ p bs. tt }

-- a test of a number
pub judged_steady : (start : ℕ) (why : DumpWhy) (ok : ℕ → Bool) (n : ℕ) → IsSteady (judged start why ok n)
unfolding judged
judged_steady start why ok n = kept_or_bad start why n (ok n)

-- a number that passes a test
pub number_steady : (why : DumpWhy) (width : ℕ) (ok : ℕ → Bool) → IsSteady (number_by why width ok)
number_steady why width ok = begun_steady (raw_steady width) λ start field. judged_steady start why ok (big_number field)

-- a count that keeps a rule
pub count_steady : (width limit : ℕ) (ok : ℕ → Bool) → IsSteady (count_by width limit ok)
count_steady width limit ok = begun_steady (number_steady dump_why.Count width (λ n. nat_le n limit)) λ start n. judged_steady start dump_why.Field ok n

judged_name_steady : (start : ℕ) (seen : List Name) (n : Name) → IsSteady (judged_name start seen n)
unfolding judged_name
judged_name_steady start seen n = kept_or_bad start dump_why.Name n (is_name n && not (has_word n seen))

-- a name
pub name_steady : (seen : List Name) → IsSteady (name_field seen)
name_steady seen = begun_steady (raw_steady 1) λ start field. then_steady (raw_steady (big_number field)) λ text. judged_name_steady start seen text

-- items
pub items_steady : {A : Type 0} (n : ℕ) (item : List A → Reader A) (xs : List A) → ((seen : List A) → IsSteady (item seen)) → IsSteady (items n item xs)
unfolding items
items_steady zero item xs s = record { stays = λ p bs more. refl; goes = λ p bs. nothing_read p bs }
items_steady (suc n) item xs s = then_steady (s xs) λ x. items_steady n item (xs ++ x ∷ []) s

-- a list
pub list_steady : {A : Type 0} (width limit : ℕ) (item : List A → Reader A) → ((seen : List A) → IsSteady (item seen)) → IsSteady (list_field width limit item)
list_steady width limit item s = then_steady (number_steady _ _ _) λ n. items_steady n item [] s

-- ---- groups of fields

-- a region
pub region_steady : (domains : ℕ) (seen : List RegionImage) → IsSteady (region_field domains seen)
unfolding region_field
region_steady domains seen =
    then_steady (name_steady _) λ name. then_steady (number_steady _ _ _) λ domain. then_steady (number_steady _ _ _) λ base.
    then_steady (number_steady _ _ _) λ length'. then_steady (number_steady _ _ _) λ rights. then_steady (number_steady _ _ _) λ local.
    then_steady (number_steady _ _ _) λ remote. then_steady (raw_steady _) λ bytes. gives_steady _

-- a completion
pub entry_steady : (seen : List Completion) → IsSteady (entry_field seen)
unfolding entry_field
entry_steady seen =
    then_steady (number_steady _ _ _) λ qp. then_steady (number_steady _ _ _) λ id. then_steady (number_steady _ _ _) λ kind'.
    then_steady (number_steady _ _ _) λ status'. then_steady (number_steady _ _ _) λ length'. then_steady (number_steady _ _ _) λ flag.
    then_steady (number_steady _ _ _) λ imm. gives_steady _

-- a reader that also looks at its place
pub placed_steady : {A : Type 0} {f : ℕ → Reader A} → ((start : ℕ) → IsSteady (f start)) → IsSteady (λ start. f start start)
placed_steady s = record { stays = λ p bs more. (s p).stays p bs more; goes = λ p bs. (s p).goes p bs }

-- a completion queue
pub queue_steady : (seen : List ReadQueue) → IsSteady (queue_field seen)
unfolding queue_field
queue_steady seen =
    then_steady (name_steady _) λ name. placed_steady λ place. then_steady (number_steady _ _ _) λ capacity.
    then_steady (list_steady 4 capacity entry_field entry_steady) λ entries. gives_steady _

-- a receive
pub receive_steady : (regions : List Region) (domain : Name) (done : ℕ) → IsSteady (receive_field regions domain done)
unfolding receive_field
receive_steady regions domain done =
    then_steady (number_steady _ _ _) λ id. then_steady (number_steady _ _ _) λ lkey. then_steady (number_steady _ _ _) λ local.
    then_steady (number_steady _ _ _) λ length'. gives_steady _

-- one of two readers
pub either_steady : {A : Type 0} (b : Bool) {r s : Reader A} → IsSteady r → IsSteady s → IsSteady (if b then r else s)
either_steady true h k = h
either_steady false h k = k

-- the message in progress
pub progress_steady : (regions : List Region) (domain : Name) (mtu code : ℕ) → IsSteady (progress_by regions domain mtu code)
unfolding progress_by
progress_steady regions domain mtu code =
    either_steady (code == 1)
    (then_steady (number_steady _ _ _) λ done. then_steady (receive_steady _ _ _) λ receive. gives_steady _)
    (either_steady (code == 2)
    (then_steady (number_steady _ _ _) λ region. then_steady (number_steady _ _ _) λ off. then_steady (number_steady _ _ _) λ length'.
    then_steady (number_steady _ _ _) λ done. gives_steady _)
    (gives_steady _))

-- a kept reply
pub kept_steady : (expected : ℕ) (seen : List KeptReply) → IsSteady (kept_field expected seen)
unfolding kept_field
kept_steady expected seen = then_steady (number_steady _ _ _) λ n. then_steady (number_steady _ _ _) λ old. gives_steady _

-- the terms of a connection
pub terms_steady : IsSteady terms_field
unfolding terms_field
terms_steady =
    then_steady (number_steady _ _ _) λ mtu. then_steady (number_steady _ _ _) λ own. then_steady (number_steady _ _ _) λ peer.
    then_steady (number_steady _ _ _) λ retry. then_steady (number_steady _ _ _) λ rnr. then_steady (number_steady _ _ _) λ reads. gives_steady _

-- what a connected end has
pub link_steady : (regions : List Region) (domain : Name) (ended : Bool) → IsSteady (link_field regions domain ended)
unfolding link_field
link_steady regions domain ended =
    then_steady (number_steady _ _ _) λ peer. then_steady (number_steady _ _ _) λ ip. then_steady (number_steady _ _ _) λ port.
    then_steady (number_steady _ _ _) λ moves. then_steady (number_steady _ _ _) λ partner_moves. then_steady (number_steady _ _ _) λ resuming.
    then_steady terms_steady λ terms. then_steady (number_steady _ _ _) λ first. then_steady (number_steady _ _ _) λ una.
    then_steady (number_steady _ _ _) λ next. then_steady (number_steady _ _ _) λ top. then_steady (number_steady _ _ _) λ spent.
    then_steady (number_steady _ _ _) λ waits. then_steady (number_steady _ _ _) λ rnr_wait. then_steady (number_steady _ _ _) λ expected.
    then_steady (number_steady _ _ _) λ nak_sent. then_steady (number_steady _ _ _) λ msn. then_steady (number_steady _ _ _) λ code.
    then_steady (progress_steady _ _ _ _) λ progress'. then_steady (list_steady 1 most_kept (kept_field expected) (kept_steady expected)) λ kept. gives_steady _

state_steady : (regions : List Region) (domain : Name) (state : ℕ) → IsSteady (state_field regions domain state)
state_steady regions domain state = either_steady (state == 0) (gives_steady _) (then_steady (link_steady _ _ _) λ l. gives_steady _)

-- an untold request
pub request_steady : (version : ℕ) (regions : List Region) (domain : Name) (l : LinkImage) (count : ℕ) (seen : List PostedImage) → IsSteady (request_field version regions domain l count seen)
unfolding request_field
request_steady version regions domain l count seen =
    then_steady (number_steady _ _ _) λ id. then_steady (number_steady _ _ _) λ k. then_steady (number_steady _ _ _) λ flags.
    then_steady (number_steady _ _ _) λ imm. then_steady (number_steady _ _ _) λ length'. then_steady (number_steady _ _ _) λ lkey.
    then_steady (number_steady _ _ _) λ local. then_steady (number_steady _ _ _) λ remote. then_steady (number_steady _ _ _) λ rkey.
    then_steady (number_steady _ _ _) λ swap_add. then_steady (number_steady _ _ _) λ compare. then_steady (raw_steady _) λ payload. gives_steady _

untold_steady : (version : ℕ) (regions : List Region) (domain : Name) (linked : Option LinkImage) (n : ℕ) → IsSteady (untold_items version regions domain linked n)
untold_steady version regions domain None n = gives_steady []
untold_steady version regions domain (Some l) n = items_steady n (request_field version regions domain l n) [] (request_steady version regions domain l n)

-- a queue pair
pub end_steady : (version : ℕ) (domains : List Name) (regions : List Region) (queues : ℕ) (seen : List EndImage) → IsSteady (end_field version domains regions queues seen)
unfolding end_field
end_steady version domains regions queues seen =
    then_steady (name_steady _) λ name. then_steady (number_steady _ _ _) λ n. then_steady (number_steady _ _ _) λ domain.
    then_steady (number_steady _ _ _) λ send_cq. then_steady (number_steady _ _ _) λ recv_cq. then_steady (number_steady _ _ _) λ send_depth.
    then_steady (number_steady _ _ _) λ recv_depth. then_steady (number_steady _ _ _) λ state. then_steady (state_steady _ _ _) λ linked.
    then_steady (count_steady _ _ _) λ untold_count. then_steady (untold_steady _ _ _ _ _) λ untold. then_steady (count_steady _ _ _) λ unused_count.
    then_steady (items_steady _ _ _ λ xs. receive_steady _ _ _) λ unused. gives_steady _

-- ---- faults

-- a fault is the same where more bytes come, unless they were too few
abbrev pub StaysBad : {A : Type 0} → Reading A → Reading A → Type 0
StaysBad (Good x p rest) r = ⊤
StaysBad (Bad at why) r = is_short why ≡ false → r ≡ Bad at why

-- a fault of a reader is in the bytes that it reads
pub record IsSettled {A : Type 0} (r : Reader A) : Type 0 where
  pub stays : (p : ℕ) (bs more : List ℕ) → StaysBad (r p bs) (r p (bs ++ more))

bad_after : {A B : Type 0} (more : List ℕ) (a b : Reading A) (f : A → Reader B) → Stays more a b → ((x : A) → IsSettled (f x)) → StaysBad (after a f) (after b f)
unfolding after
bad_after more (Good x p rest) b f h s = rw h ((s x).stays p rest more)
bad_after more (Bad at why) b f h s = λ e. rw (h e) refl

-- one reader after another
pub then_settled : {A B : Type 0} {r : Reader A} {f : A → Reader B} → IsSteady r → ((x : A) → IsSettled (f x)) → IsSettled (then_read r f)
then_settled {r = r} {f = f} h s = record { stays = λ p bs more. bad_after more (r p bs) (r p (bs ++ more)) f (h.stays p bs more) s }

capacity_steady : (o : Option ℕ) (c : ContextImage) → IsSteady (no_overfull o c)
capacity_steady None c = gives_steady c
capacity_steady (Some at) c = record { stays = λ p bs more. λ e. refl; goes = λ p bs. tt }

at_end_by : (c : ContextImage) (p : ℕ) (bs more : List ℕ) → StaysBad (at_end c p bs) (at_end c p (bs ++ more))
at_end_by c p [] more = tt
at_end_by c p (b ∷ bs) more = λ e. refl

-- the end of the bytes
pub at_end_settled : (c : ContextImage) → IsSettled (at_end c)
at_end_settled c = record { stays = λ p bs more. at_end_by c p bs more }

-- the first eight bytes
pub magic_steady : (bytes : List ℕ) → IsSteady (is_magic bytes)
unfolding is_magic
magic_steady bytes = kept_or_bad 0 dump_why.Magic bytes (bytes_eq bytes magic)

context_settled : (version : ℕ) → IsSettled (context_field version)
unfolding context_field
context_settled version =
    then_settled (name_steady _) λ name. then_settled (list_steady _ _ _ name_steady) λ domains.
    then_settled (list_steady _ _ _ (region_steady _)) λ regions. then_settled (list_steady _ _ _ queue_steady) λ queues.
    then_settled (list_steady _ _ _ (end_steady _ _ _ _)) λ ends. then_settled (capacity_steady _ _) λ c. at_end_settled c

dump_settled : IsSettled dump_field
dump_settled =
    then_settled (raw_steady 8) λ bytes. then_settled (magic_steady bytes) λ same. then_settled (number_steady _ _ _) λ version. context_settled version

settled_by : {r s : Reading ContextImage} (at : ℕ) (why : DumpWhy) → StaysBad r s → r ≡ Bad at why → is_short why ≡ false → s ≡ Bad at why
settled_by {s = s} at why h e long = (subst (λ (x : Reading ContextImage). StaysBad x s) e h) long

-- a fault of a dump is the same whatever bytes follow, unless they were too few
pub faults_stay : (bs more : List ℕ) (at : ℕ) (why : DumpWhy) → read_dump bs ≡ Bad at why → is_short why ≡ false → read_dump (bs ++ more) ≡ Bad at why
unfolding read_dump
faults_stay bs more at why e long = settled_by at why (dump_settled.stays 0 bs more) e long
