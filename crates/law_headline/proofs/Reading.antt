-- What a line says is in its ranges, by what its fields are read as.
use Rattle.std.proofs.Common.{arith, ◌≡◌, ℕ, ◌+◌, ◌<◌, ◌^◌, ◌==◌, List, [], ◌∷◌, Bool, true, false, refl, subst, Result, Ok, Err, Option, Some, None, length}
use Rattle.std.proofs.lemmas.List.Elements.{All-cons, All-nil}
use Rattle.std.specs.Prelude.{All, IfSome, if◌then◌else◌, slice_index, codes, not}
use Rattle.rdma_types.specs.declared.names.ObjName.{ObjName}
use Rattle.rdma_types.specs.declared.requests.Shape.{Shape}
use Rattle.rdma_types.specs.declared.verbs.Verb.{Verb}
use Rattle.rdma_types.specs.declared.verbs.Verb.TheVariants as verb
use Rattle.rdma_types.specs.Kinds.{is_atomic}
use Rattle.rdma_types.specs.Limits.{most_capacity, most_depth, most_region_bytes}
use Rattle.rdma_types.specs.Shapes.{IsLawfulShape, is_swap}
use Rattle.script_lang.specs.declared.forms.Form.{Form}
use Rattle.script_lang.specs.declared.forms.Form.TheVariants as form
use Rattle.script_lang.specs.declared.forms.VerbForm.{VerbForm}
use Rattle.script_lang.specs.declared.forms.VerbForm.TheVariants as verb_form
use Rattle.script_lang.specs.declared.lines.Line.{Line}
use Rattle.script_lang.specs.declared.lines.Line.TheVariants as line
use Rattle.script_lang.specs.declared.lines.Offence.{Offence}
use Rattle.script_lang.specs.Fields.{a_key, a_long, a_name, a_short, an_object, an_own}
use Rattle.script_lang.specs.Lines.{bytes_offence, connect_line, device_line, form_of, line_of, named, reading_of, reading_of_words, said, unless, whole}
use Rattle.script_lang.specs.Ranges.{IsLawfulLine, IsLawfulVerb}
use Rattle.script_lang.specs.Verbs.{add_line, cas_line, cq_line, domain_line, drop_line, load_line, poll_line, posted, qp_line, read_line, recv_line, region_line, send_line, store_line, verb_line, write_line}
use Rattle.script_lang.specs.Words.{Input, Read, Word, an_option, the_end, words_from}
use Rattle.law_headline.specs.Does.{IsLineInRange, IsWithinOf, event_happens, event_of}
use Rattle.law_headline.specs.Script.{begins_with, script_from}
use Rattle.law_headline.proofs.Tells.{Tells, address, any, bind, bytes, gives, immediate, key, long, number, rights, terms}

-- ---- verbs

-- the event of a verb is in its ranges, and a line may say it
abbrev pub IsVerbIn : Verb → Type 0
IsVerbIn v = IsWithinOf (event_happens (event_of v)) × IsLawfulVerb v

domain_in : Tells IsVerbIn domain_line
unfolding domain_line
domain_in = bind (any an_object) (λ o _. gives (verb.MakeDomain o) (tt, tt))

region_in : Tells IsVerbIn region_line
unfolding region_line
region_in =
    bind (any an_object) (λ o _.
    bind (any (an_own o)) (λ domain _.
    bind (number 0 (2 ^ 63)) (λ base in_base.
    bind (number 1 most_region_bytes) (λ size in_size.
    bind rights (λ allowed in_rights.
    gives (verb.MakeRegion o domain base size allowed) ((in_size.0, in_size.1, in_base.1, in_rights), (in_base.1, in_size, omega arith)))))))

cq_in : Tells IsVerbIn cq_line
unfolding cq_line
cq_in = bind (any an_object) (λ o _. bind (number 1 most_capacity) (λ capacity is. gives (verb.MakeCq o capacity) (is, is)))

qp_in : Tells IsVerbIn qp_line
unfolding qp_line
qp_in =
    bind (any an_object) (λ o _.
    bind (any (an_own o)) (λ domain _.
    bind (any (an_own o)) (λ send_cq _.
    bind (any (an_own o)) (λ recv_cq _.
    bind (number 1 most_depth) (λ send in_send.
    bind (number 1 most_depth) (λ recv in_recv.
    gives (verb.MakeQp o domain send_cq recv_cq send recv) ((in_send.0, in_send.1, in_recv.0, in_recv.1), (in_send, in_recv))))))))

drop_in : Tells IsVerbIn drop_line
unfolding drop_line
drop_in = bind (any an_object) (λ o _. gives (verb.DropRegion o) (tt, tt))

load_in : Tells IsVerbIn load_line
unfolding load_line
load_in = bind (any an_object) (λ o _. bind (any a_long) (λ at _. bind (number 1 4096) (λ size is. gives (verb.Load o at size) (tt, is))))

store_in : Tells IsVerbIn store_line
unfolding store_line
store_in = bind (any an_object) (λ o _. bind (any a_long) (λ at _. bind bytes (λ bs is. gives (verb.Store o at bs) (is, tt))))

recv_in : Tells IsVerbIn recv_line
unfolding recv_line
recv_in =
    bind (any an_object) (λ o _. bind (any a_long) (λ id _. bind (any a_key) (λ lkey _. bind (any a_long) (λ local _. bind (any a_short) (λ size _.
    gives (verb.PostRecv o (record { id = id; lkey = lkey; local = local; length = size })) (tt, tt))))))

poll_in : Tells IsVerbIn poll_line
unfolding poll_line
poll_in = bind (any an_object) (λ o _. bind (number 1 256) (λ max is. gives (verb.Poll o max) (tt, is)))

-- ---- requests

-- the fields of a shape are in their ranges
record IsShapeIn (s : Shape) : Type 0 where
  remote : s.remote < 2 ^ 64
  rkey : s.rkey < 2 ^ 32
  swap_add : s.swap_add < 2 ^ 64
  compare : s.compare < 2 ^ 64
  no_compare : is_swap s.kind ≡ false → s.compare ≡ 0
  imm : IfSome s.imm (λ n. n < 2 ^ 32)
  word : is_atomic s.kind ≡ true → s.length ≡ 8
  lawful : IsLawfulShape s

posted_in : (o : ObjName) (id lkey local : ℕ) (s : Shape) → IsShapeIn s → Tells IsVerbIn (posted o id lkey local s)
unfolding posted
posted_in o id lkey local s is =
    bind (any (an_option (codes "fence"))) (λ fence _.
    bind (any (an_option (codes "quiet"))) (λ quiet _.
    gives (verb.PostSend o (record { id = id; shape = s; lkey = lkey; local = local; signaled = not quiet; fence = fence }))
    (record { remote = is.remote; rkey = is.rkey; swap_add = is.swap_add; compare = is.compare; no_compare = is.no_compare; imm = is.imm; word = is.word }, is.lawful)))

write_in : Tells IsVerbIn write_line
unfolding write_line
write_in =
    bind (any an_object) (λ o _. bind (any a_long) (λ id _. bind (any a_key) (λ lkey _. bind (any a_long) (λ local _. bind (any a_short) (λ size _.
    bind long (λ remote in_remote. bind key (λ rkey in_rkey. bind immediate (λ imm in_imm.
    posted_in o id lkey local _
    (record { remote = in_remote; rkey = in_rkey; swap_add = omega arith; compare = omega arith; no_compare = λ h. refl; imm = in_imm; word = λ h. cc h; lawful = record { word = λ h. cc h; imm = λ h. cc h; remote = λ h. cc h; rkey = λ h. cc h; swap_add = λ h. refl; compare = λ h. refl } })))))))))

send_in : Tells IsVerbIn send_line
unfolding send_line
send_in =
    bind (any an_object) (λ o _. bind (any a_long) (λ id _. bind (any a_key) (λ lkey _. bind (any a_long) (λ local _. bind (any a_short) (λ size _. bind immediate (λ imm in_imm.
    posted_in o id lkey local _
    (record { remote = omega arith; rkey = omega arith; swap_add = omega arith; compare = omega arith; no_compare = λ h. refl; imm = in_imm; word = λ h. cc h; lawful = record { word = λ h. cc h; imm = λ h. cc h; remote = λ h. refl; rkey = λ h. refl; swap_add = λ h. refl; compare = λ h. refl } })))))))

read_line_in : Tells IsVerbIn read_line
unfolding read_line
read_line_in =
    bind (any an_object) (λ o _. bind (any a_long) (λ id _. bind (any a_key) (λ lkey _. bind (any a_long) (λ local _. bind (any a_short) (λ size _.
    bind long (λ remote in_remote. bind key (λ rkey in_rkey.
    posted_in o id lkey local _
    (record { remote = in_remote; rkey = in_rkey; swap_add = omega arith; compare = omega arith; no_compare = λ h. refl; imm = tt; word = λ h. cc h; lawful = record { word = λ h. cc h; imm = λ h. refl; remote = λ h. cc h; rkey = λ h. cc h; swap_add = λ h. refl; compare = λ h. refl } }))))))))

cas_in : Tells IsVerbIn cas_line
unfolding cas_line
cas_in =
    bind (any an_object) (λ o _. bind (any a_long) (λ id _. bind (any a_key) (λ lkey _. bind (any a_long) (λ local _.
    bind long (λ remote in_remote. bind key (λ rkey in_rkey. bind long (λ compare in_compare. bind long (λ swap in_swap.
    posted_in o id lkey local _
    (record { remote = in_remote; rkey = in_rkey; swap_add = in_swap; compare = in_compare; no_compare = λ h. cc h; imm = tt; word = λ h. refl; lawful = record { word = λ h. refl; imm = λ h. refl; remote = λ h. cc h; rkey = λ h. cc h; swap_add = λ h. cc h; compare = λ h. cc h } })))))))))

add_in : Tells IsVerbIn add_line
unfolding add_line
add_in =
    bind (any an_object) (λ o _. bind (any a_long) (λ id _. bind (any a_key) (λ lkey _. bind (any a_long) (λ local _.
    bind long (λ remote in_remote. bind key (λ rkey in_rkey. bind long (λ value in_value.
    posted_in o id lkey local _
    (record { remote = in_remote; rkey = in_rkey; swap_add = in_value; compare = omega arith; no_compare = λ h. refl; imm = tt; word = λ h. refl; lawful = record { word = λ h. refl; imm = λ h. refl; remote = λ h. cc h; rkey = λ h. cc h; swap_add = λ h. cc h; compare = λ h. refl } }))))))))

-- what the words of a verb say is such a verb
pub verb_in : (v : VerbForm) → Tells IsVerbIn (verb_line v)
verb_in verb_form.Domain = domain_in
verb_in verb_form.Region = region_in
verb_in verb_form.Cq = cq_in
verb_in verb_form.Qp = qp_in
verb_in verb_form.Drop = drop_in
verb_in verb_form.Store = store_in
verb_in verb_form.Load = load_in
verb_in verb_form.Write = write_in
verb_in verb_form.Send = send_in
verb_in verb_form.Read = read_line_in
verb_in verb_form.CompareSwap = cas_in
verb_in verb_form.FetchAdd = add_in
verb_in verb_form.Recv = recv_in
verb_in verb_form.Poll = poll_in

-- ---- lines

-- what a line says is in its ranges
abbrev IsLineIn : Line → Type 0
IsLineIn l = IsLineInRange l × IsLawfulLine l

device_in : Tells IsLineIn device_line
unfolding device_line
device_in = bind (number 1 255) (λ id in_id. bind address (λ a in_a. gives (line.Device id a) ((in_id.0, in_id.1, in_a.0, in_a.1), in_id)))

connect_in : Tells IsLineIn connect_line
unfolding connect_line
connect_in = bind (any an_object) (λ one _. bind (any an_object) (λ two _. bind terms (λ t is. gives (line.Verb (verb.Connect one two t)) (is, is))))

form_in : (f : Form) → Tells IsLineIn (line_of f)
unfolding line_of
form_in (form.Verb v) = bind (verb_in v) (λ said' is. gives (line.Verb said') is)
form_in form.Device = device_in
form_in form.Context = bind (any a_name) (λ name _. bind (number 1 255) (λ device is. gives (line.Context name device) (tt, is)))
form_in form.Connect = connect_in
form_in form.Go = bind (any an_object) (λ o _. gives (line.Go o) (tt, tt))
form_in form.Deliver = bind (any a_long) (λ k _. gives (line.Deliver k) (tt, tt))
form_in form.Lose = bind (any a_long) (λ k _. gives (line.Lose k) (tt, tt))
form_in form.Wire = bind (any a_long) (λ k _. gives (line.Wire k) (tt, tt))
form_in form.Expire = bind (any an_object) (λ o _. gives (line.Expire o) (tt, tt))
form_in form.Rnr = bind (any an_object) (λ o _. gives (line.Rnr o) (tt, tt))
form_in form.Stop = bind (any a_name) (λ name _. gives (line.Stop name) (tt, tt))
form_in form.Restore = bind (any a_name) (λ name _. bind (number 1 255) (λ device is. gives (line.Restore name device) (tt, is)))
form_in form.Release = bind (any a_name) (λ name _. bind (number 1 255) (λ device is. gives (line.Release name device) (tt, is)))
form_in form.Dump = bind (any a_name) (λ name _. gives (line.Dump name) (tt, tt))
form_in form.Settle = gives line.Settle (tt, tt)

whole_in : (f : Form) → Tells IsLineIn (whole (line_of f))
whole_in f = bind (form_in f) (λ l is. bind (any the_end) (λ none _. gives l is))

-- ---- a whole line

blank_in : (r : Result Line Offence) (l : Line) → r ≡ Ok line.Blank → r ≡ Ok l → IsLineIn l
blank_in r l e h = let same : line.Blank ≡ l = cc (e, h) in subst IsLineIn same (tt, tt)

said_in : (r : Read Line) (l : Line) → ((p : Line × Input) → r ≡ Ok p → IsLineIn p.0) → said r ≡ Ok l → IsLineIn l
said_in (Ok p) l each h = let same : p.0 ≡ l = cc h in subst IsLineIn same (each p refl)
said_in (Err e) l each h = cc h

named_in : (o : Option Form) (w : Word) (i : Input) (l : Line) → named line_of o w i ≡ Ok l → IsLineIn l
named_in (Some f) w i l h = said_in (whole (line_of f) i) l ((whole_in f).each i) h
named_in None w i l h = cc h

begun_in : (b : Bool) (w : Word) (i : Input) (l : Line) → (if b then Ok line.Blank else named line_of (form_of w.text) w i) ≡ Ok l → IsLineIn l
begun_in true w i l h = blank_in _ l refl h
begun_in false w i l h = named_in (form_of w.text) w i l h

words_in : (ws : List Word) (past : ℕ) (l : Line) → reading_of_words line.Blank form_of line_of ws past ≡ Ok l → IsLineIn l
words_in [] past l h = blank_in _ l refl h
words_in (w ∷ ws) past l h = begun_in (slice_index w.text 0 == 35) w _ l h

unless_in : (o : Option Offence) (r : Result Line Offence) (l : Line) → unless o r ≡ Ok l → r ≡ Ok l
unless_in (Some e) r l h = cc h
unless_in None r l h = h

-- what is read as a line is in its ranges
read_in : (bs : List ℕ) (l : Line) → reading_of bs ≡ Ok l → IsLineIn l
unfolding reading_of
read_in bs l h = words_in (words_from 1 bs) (length bs + 1) l (unless_in (bytes_offence bs) _ l h)

pub read_in_range : (bs : List ℕ) (l : Line) → reading_of bs ≡ Ok l → IsLineInRange l
read_in_range bs l h = (read_in bs l h).0

pub read_lawful : (bs : List ℕ) (l : Line) → reading_of bs ≡ Ok l → IsLawfulLine l
read_lawful bs l h = (read_in bs l h).1

-- .. and so are the lines of a text before its first bad one
all_read : (P : Line → Type 0) → ((bs : List ℕ) (l : Line) → reading_of bs ≡ Ok l → P l) → (number : ℕ) (lines : List (List ℕ)) → All P (script_from number lines).lines
all_read P each number [] = All-nil P
all_read P each number (bs ∷ more) = by (reading_of bs) refl (all_read P each (number + 1) more)
  where
    by : (r : Result Line Offence) → reading_of bs ≡ r → All P (script_from (number + 1) more).lines → All P (begins_with r number (script_from (number + 1) more)).lines
    by (Ok l) e rest = All-cons P l (script_from (number + 1) more).lines (each bs l e) rest
    by (Err o) e rest = All-nil P

pub lines_in_range : (number : ℕ) (lines : List (List ℕ)) → All IsLineInRange (script_from number lines).lines
lines_in_range = all_read IsLineInRange read_in_range

pub lines_lawful : (number : ℕ) (lines : List (List ℕ)) → All IsLawfulLine (script_from number lines).lines
lines_lawful = all_read IsLawfulLine read_lawful
