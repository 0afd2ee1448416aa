-- What is read as a line gives names to things.
use Rattle.std.proofs.Common.{◌≡◌, ℕ, ◌+◌, ◌^◌, ◌==◌, List, [], ◌∷◌, Bool, true, false, refl, subst, Result, Ok, Err, Option, Some, None, length}
use Rattle.std.specs.Prelude.{if◌then◌else◌, option_and_then, slice_index, codes}
use Rattle.rdma_types.specs.declared.names.Name.{Name}
use Rattle.rdma_types.specs.declared.names.ObjName.{ObjName}
use Rattle.rdma_types.specs.declared.requests.Shape.{Shape}
use Rattle.rdma_types.specs.declared.verbs.Verb.{Verb}
use Rattle.rdma_types.specs.declared.verbs.Verb.TheVariants as verb
use Rattle.rdma_types.specs.Limits.{most_capacity, most_depth, most_region_bytes}
use Rattle.rdma_types.specs.Spelled.{is_name}
use Rattle.protocol.specs.Script.{Happening}
use Rattle.script_lang.specs.declared.forms.Form.{Form}
use Rattle.script_lang.specs.declared.forms.Form.TheVariants as form
use Rattle.script_lang.specs.declared.forms.VerbForm.{VerbForm}
use Rattle.script_lang.specs.declared.forms.VerbForm.TheVariants as verb_form
use Rattle.script_lang.specs.declared.lines.Line.{Line}
use Rattle.script_lang.specs.declared.lines.Line.TheVariants as line
use Rattle.script_lang.specs.declared.lines.Offence.{Offence}
use Rattle.script_lang.specs.Fields.{a_device, a_key, a_long, a_name, a_number, a_short, an_address, an_immediate, an_object, an_own, some_bytes, some_rights, some_terms}
use Rattle.script_lang.specs.Lines.{bytes_offence, connect_line, device_line, form_of, line_of, named, reading_of, reading_of_words, said, unless, whole}
use Rattle.script_lang.specs.Texts.{cut_at, name_of, object_of}
use Rattle.script_lang.specs.Verbs.{add_line, cas_line, cq_line, domain_line, drop_line, load_line, poll_line, posted, qp_line, read_line, recv_line, region_line, send_line, store_line, verb_line, write_line}
use Rattle.script_lang.specs.Words.{Input, Read, Word, an_option, the_end, words_from}
use Rattle.law_headline.specs.Does.{event_happens, event_of, happening_of}
use Rattle.law_headline.proofs.Tells.{Tells, any, bind, field, gives}
use Rattle.law_scripts.specs.Sound.{NamesThingsIn}

-- ---- words

name_spelled : (text : List ℕ) (x : Name) → name_of text ≡ Some x → is_name x ≡ true
unfolding name_of
name_spelled text x h = by (is_name text) refl h
  where
    by : (b : Bool) → is_name text ≡ b → (if b then Some text else None) ≡ Some x → is_name x ≡ true
    by true e g = let same : text ≡ x = cc g in subst (λ n. is_name n ≡ true) same e
    by false e g = cc g

-- a value, and what follows it
record IsThen {A B : Type 0} (o : Option A) (f : A → Option B) (y : B) : Type 0 where
  value : A
  is : o ≡ Some value
  follows : f value ≡ Some y

then_some : {A B : Type 0} (o : Option A) (f : A → Option B) (y : B) → option_and_then f o ≡ Some y → IsThen o f y
then_some None f y h = cc h
then_some (Some x) f y h = record { value = x; is = refl; follows = h }

object_spelled : (text : List ℕ) (o : ObjName) → object_of text ≡ Some o → is_name o.name ≡ true
unfolding object_of
object_spelled text o h =
    let one = then_some (name_of (cut_at 46 text).front) _ o h in
    let two = then_some (cut_at 46 text).behind _ o one.follows in
    let three = then_some (name_of two.value) _ o two.follows in
    let same : record { context = one.value; name = three.value } ≡ o = cc three.follows in
    subst (λ (x : ObjName). is_name x.name ≡ true) same (name_spelled two.value three.value three.is)

name : Tells (λ n. is_name n ≡ true) a_name
unfolding a_name
name = field name_of _ name_spelled

object : Tells (λ o. is_name o.name ≡ true) an_object
unfolding an_object
object = field object_of _ object_spelled

-- ---- verbs

-- the names that a line gives, where it does anything
abbrev NamesOf : Option Happening → Type 0
NamesOf None = Unit {0}
NamesOf (Some h) = NamesThingsIn h

abbrev IsVerbNamed : Verb → Type 0
IsVerbNamed v = NamesOf (event_happens (event_of v))

domain_named : Tells IsVerbNamed domain_line
unfolding domain_line
domain_named = bind object (λ o is. gives (verb.MakeDomain o) is)

region_named : Tells IsVerbNamed region_line
unfolding region_line
region_named =
    bind object (λ o is. bind (any (an_own o)) (λ domain _. bind (any (a_number 0 (2 ^ 63))) (λ base _. bind (any (a_number 1 most_region_bytes)) (λ size _. bind (any some_rights) (λ rights _.
    gives (verb.MakeRegion o domain base size rights) is)))))

cq_named : Tells IsVerbNamed cq_line
unfolding cq_line
cq_named = bind object (λ o is. bind (any (a_number 1 most_capacity)) (λ capacity _. gives (verb.MakeCq o capacity) is))

qp_named : Tells IsVerbNamed qp_line
unfolding qp_line
qp_named =
    bind object (λ o is. bind (any (an_own o)) (λ domain _. bind (any (an_own o)) (λ send_cq _. bind (any (an_own o)) (λ recv_cq _.
    bind (any (a_number 1 most_depth)) (λ send _. bind (any (a_number 1 most_depth)) (λ recv _.
    gives (verb.MakeQp o domain send_cq recv_cq send recv) is))))))

drop_named : Tells IsVerbNamed drop_line
unfolding drop_line
drop_named = bind (any an_object) (λ o _. gives (verb.DropRegion o) tt)

load_named : Tells IsVerbNamed load_line
unfolding load_line
load_named = bind (any an_object) (λ o _. bind (any a_long) (λ at _. bind (any (a_number 1 4096)) (λ size _. gives (verb.Load o at size) tt)))

store_named : Tells IsVerbNamed store_line
unfolding store_line
store_named = bind (any an_object) (λ o _. bind (any a_long) (λ at _. bind (any some_bytes) (λ bs _. gives (verb.Store o at bs) tt)))

recv_named : Tells IsVerbNamed recv_line
unfolding recv_line
recv_named =
    bind (any an_object) (λ o _. bind (any a_long) (λ id _. bind (any a_key) (λ lkey _. bind (any a_long) (λ local _. bind (any a_short) (λ size _.
    gives (verb.PostRecv o (record { id = id; lkey = lkey; local = local; length = size })) tt)))))

poll_named : Tells IsVerbNamed poll_line
unfolding poll_line
poll_named = bind (any an_object) (λ o _. bind (any (a_number 1 256)) (λ max _. gives (verb.Poll o max) tt))

posted_named : (o : ObjName) (id lkey local : ℕ) (s : Shape) → Tells IsVerbNamed (posted o id lkey local s)
unfolding posted
posted_named o id lkey local s = bind (any (an_option (codes "fence"))) (λ fence _. bind (any (an_option (codes "quiet"))) (λ quiet _. gives (verb.PostSend o _) tt))

write_named : Tells IsVerbNamed write_line
unfolding write_line
write_named =
    bind (any an_object) (λ o _. bind (any a_long) (λ id _. bind (any a_key) (λ lkey _. bind (any a_long) (λ local _. bind (any a_short) (λ size _.
    bind (any a_long) (λ remote _. bind (any a_key) (λ rkey _. bind (any an_immediate) (λ imm _. posted_named o id lkey local _))))))))

send_named : Tells IsVerbNamed send_line
unfolding send_line
send_named =
    bind (any an_object) (λ o _. bind (any a_long) (λ id _. bind (any a_key) (λ lkey _. bind (any a_long) (λ local _. bind (any a_short) (λ size _.
    bind (any an_immediate) (λ imm _. posted_named o id lkey local _))))))

read_line_named : Tells IsVerbNamed read_line
unfolding read_line
read_line_named =
    bind (any an_object) (λ o _. bind (any a_long) (λ id _. bind (any a_key) (λ lkey _. bind (any a_long) (λ local _. bind (any a_short) (λ size _.
    bind (any a_long) (λ remote _. bind (any a_key) (λ rkey _. posted_named o id lkey local _)))))))

cas_named : Tells IsVerbNamed cas_line
unfolding cas_line
cas_named =
    bind (any an_object) (λ o _. bind (any a_long) (λ id _. bind (any a_key) (λ lkey _. bind (any a_long) (λ local _.
    bind (any a_long) (λ remote _. bind (any a_key) (λ rkey _. bind (any a_long) (λ compare _. bind (any a_long) (λ swap _. posted_named o id lkey local _))))))))

add_named : Tells IsVerbNamed add_line
unfolding add_line
add_named =
    bind (any an_object) (λ o _. bind (any a_long) (λ id _. bind (any a_key) (λ lkey _. bind (any a_long) (λ local _.
    bind (any a_long) (λ remote _. bind (any a_key) (λ rkey _. bind (any a_long) (λ value _. posted_named o id lkey local _)))))))

verb_named : (v : VerbForm) → Tells IsVerbNamed (verb_line v)
verb_named verb_form.Domain = domain_named
verb_named verb_form.Region = region_named
verb_named verb_form.Cq = cq_named
verb_named verb_form.Qp = qp_named
verb_named verb_form.Drop = drop_named
verb_named verb_form.Store = store_named
verb_named verb_form.Load = load_named
verb_named verb_form.Write = write_named
verb_named verb_form.Send = send_named
verb_named verb_form.Read = read_line_named
verb_named verb_form.CompareSwap = cas_named
verb_named verb_form.FetchAdd = add_named
verb_named verb_form.Recv = recv_named
verb_named verb_form.Poll = poll_named

-- ---- lines

abbrev IsLineNamed : Line → Type 0
IsLineNamed l = NamesOf (happening_of l)

device_named : Tells IsLineNamed device_line
unfolding device_line
device_named = bind (any a_device) (λ id _. bind (any an_address) (λ a _. gives (line.Device id a) tt))

connect_named : Tells IsLineNamed connect_line
unfolding connect_line
connect_named = bind (any an_object) (λ one _. bind (any an_object) (λ two _. bind (any some_terms) (λ t _. gives (line.Verb (verb.Connect one two t)) tt)))

form_named : (f : Form) → Tells IsLineNamed (line_of f)
unfolding line_of
form_named (form.Verb v) = bind (verb_named v) (λ said' is. gives (line.Verb said') is)
form_named form.Device = device_named
form_named form.Context = bind name (λ n is. bind (any a_device) (λ device _. gives (line.Context n device) is))
form_named form.Connect = connect_named
form_named form.Go = bind (any an_object) (λ o _. gives (line.Go o) tt)
form_named form.Deliver = bind (any a_long) (λ k _. gives (line.Deliver k) tt)
form_named form.Lose = bind (any a_long) (λ k _. gives (line.Lose k) tt)
form_named form.Wire = bind (any a_long) (λ k _. gives (line.Wire k) tt)
form_named form.Expire = bind (any an_object) (λ o _. gives (line.Expire o) tt)
form_named form.Rnr = bind (any an_object) (λ o _. gives (line.Rnr o) tt)
form_named form.Stop = bind (any a_name) (λ n _. gives (line.Stop n) tt)
form_named form.Restore = bind (any a_name) (λ n _. bind (any a_device) (λ device _. gives (line.Restore n device) tt))
form_named form.Release = bind (any a_name) (λ n _. bind (any a_device) (λ device _. gives (line.Release n device) tt))
form_named form.Dump = bind (any a_name) (λ n _. gives (line.Dump n) tt)
form_named form.Settle = gives line.Settle tt

whole_named : (f : Form) → Tells IsLineNamed (whole (line_of f))
whole_named f = bind (form_named f) (λ l is. bind (any the_end) (λ none _. gives l is))

blank_named : (r : Result Line Offence) (l : Line) → r ≡ Ok line.Blank → r ≡ Ok l → IsLineNamed l
blank_named r l e h = let same : line.Blank ≡ l = cc (e, h) in subst IsLineNamed same tt

said_named : (r : Read Line) (l : Line) → ((p : Line × Input) → r ≡ Ok p → IsLineNamed p.0) → said r ≡ Ok l → IsLineNamed l
said_named (Ok p) l each h = let same : p.0 ≡ l = cc h in subst IsLineNamed same (each p refl)
said_named (Err e) l each h = cc h

named_named : (o : Option Form) (w : Word) (i : Input) (l : Line) → named line_of o w i ≡ Ok l → IsLineNamed l
named_named (Some f) w i l h = said_named (whole (line_of f) i) l ((whole_named f).each i) h
named_named None w i l h = cc h

begun_named : (b : Bool) (w : Word) (i : Input) (l : Line) → (if b then Ok line.Blank else named line_of (form_of w.text) w i) ≡ Ok l → IsLineNamed l
begun_named true w i l h = blank_named _ l refl h
begun_named false w i l h = named_named (form_of w.text) w i l h

words_named : (ws : List Word) (past : ℕ) (l : Line) → reading_of_words line.Blank form_of line_of ws past ≡ Ok l → IsLineNamed l
words_named [] past l h = blank_named _ l refl h
words_named (w ∷ ws) past l h = begun_named (slice_index w.text 0 == 35) w _ l h

unless_named : (o : Option Offence) (r : Result Line Offence) (l : Line) → unless o r ≡ Ok l → r ≡ Ok l
unless_named (Some e) r l h = cc h
unless_named None r l h = h

pub read_named : (bs : List ℕ) (l : Line) → reading_of bs ≡ Ok l → IsLineNamed l
unfolding reading_of
read_named bs l h = words_named (words_from 1 bs) (length bs + 1) l (unless_named (bytes_offence bs) _ l h)
