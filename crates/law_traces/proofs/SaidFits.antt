-- What a line says is within the machine's bits, and so is what the machine answers to it.
use Rattle.std.proofs.Common.{arith, ◌≡◌, ℕ, zero, suc, ◌+◌, ◌-◌, ◌≤◌, ◌<◌, ◌^◌, ◌==◌, ◌&&◌, not, Bool, true, false, List, [], ◌∷◌, length, take, drop, Option, Some, None, Result, Ok, Err, if◌then◌else◌, nat_le, refl, sym, ap, ◌∙◌, subst, codes, length-drop}
use Rattle.std.specs.Prelude.{All, slice_index}
use Rattle.std.proofs.lemmas.Bool.Decides.{nat_tests}
use Rattle.std.proofs.lemmas.List.{length-take-le}
use Rattle.std.proofs.lemmas.List.Elements.{All-drop, All-head, All-tail, All-take}
use Rattle.hex.specs.Hex.{IsBytes}
use Rattle.rdma_types.specs.declared.answers.Refusal.{Refusal}
use Rattle.rdma_types.specs.declared.names.ObjName.{ObjName}
use Rattle.rdma_types.specs.declared.requests.Shape.{Shape}
use Rattle.rdma_types.specs.declared.verbs.Verb.{Verb}
use Rattle.rdma_types.specs.declared.verbs.Verb.TheVariants as verb
use Rattle.rdma_types.specs.Causes.{Cause, first_cause}
use Rattle.rdma_types.specs.Limits.{most_capacity, most_depth, most_region_bytes}
use Rattle.rdma_types.specs.Memory.{cut, holds}
use Rattle.rdma_types.specs.Objects.{IsWhole, Region, no_region}
use Rattle.rdma_types.specs.Spelled.{is_name}
use Rattle.packetless_machine.specs.Machine.{Machine, queue_of, regions_of}
use Rattle.packetless_machine.specs.Verbs.{answered, granted_answer, has_region, refusal_of, region_of, verb_answer}
use Rattle.law_simulation.proofs.relation.Tables.{All-named}
use Rattle.script_lang.specs.declared.forms.Form.{Form}
use Rattle.script_lang.specs.declared.forms.Form.TheVariants as form
use Rattle.script_lang.specs.declared.forms.VerbForm.{VerbForm}
use Rattle.script_lang.specs.declared.forms.VerbForm.TheVariants as verb_forms
use Rattle.script_lang.specs.declared.lines.Line.{Line}
use Rattle.script_lang.specs.declared.lines.Line.TheVariants as line
use Rattle.script_lang.specs.declared.lines.Offence.{Offence}
use Rattle.script_lang.specs.Fields.{a_device, a_key, a_long, a_name, a_number, a_short, an_address, an_immediate, an_object, an_own, some_bytes, some_rights, some_terms}
use Rattle.script_lang.specs.Lines.{bytes_offence, connect_line, device_line, form_of, line_of, reading_of, reading_of_words, said, unless, whole}
use Rattle.script_lang.specs.Lines as lang_lines
use Rattle.script_lang.specs.Ranges.{IsIn, IsLawfulVerb}
use Rattle.script_lang.specs.Texts.{greatest_u32, name_of, object_of}
use Rattle.script_lang.specs.Verbs.{add_line, cas_line, cq_line, domain_line, drop_line, load_line, poll_line, posted, qp_line, read_line, recv_line, region_line, send_line, store_line, verb_line, write_line}
use Rattle.script_lang.specs.Words.{Input, Read, Word, an_option, the_end, words_from}
use Rattle.law_headline.proofs.Tells.{Tells, any, bind, field, gives, long, number}
use Rattle.trace_rules.specs.Recording.{recorded_form, recorded_reading, without_settle}
use Rattle.law_script_words.proofs.Spoken.{left, right}
use Rattle.law_traces.proofs.SaidAnswers.{IsFitAnswer, is_known}
use Rattle.law_traces.proofs.SaidMachine.{IsFit, IsFitEntry, IsFitVerb, queue_fits}
use Rattle.law_traces.proofs.SaidSteps.{IsSpelled}
use Rattle.law_traces.proofs.SaidVerbs.{form_kept}
use Rattle.law_traces.proofs.SaidWords.{name_spelled, object_is}

-- ---- what lines say

-- a line that is recorded: no settling, and what it says is within its bits
abbrev pub IsFitLine : Line → Type 0
IsFitLine (line.Verb v) = IsFitVerb v
IsFitLine (line.Context name device) = is_name name ≡ true
IsFitLine line.Settle = ⊥
IsFitLine other = Unit {0}

spelled_name : Tells (λ n. is_name n ≡ true) a_name
unfolding a_name
spelled_name = field name_of _ name_spelled

object : Tells IsSpelled an_object
unfolding an_object
object = field object_of _ (λ text o h. (object_is text o h).1)

short : Tells (λ n. n < 2 ^ 32) a_short
short = record { each = λ i p h. let s = (number 0 greatest_u32).each i p h in omega arith }

domain_fits : Tells IsFitVerb domain_line
unfolding domain_line
domain_fits = bind (any an_object) (λ o _. gives (verb.MakeDomain o) tt)

region_fits : Tells IsFitVerb region_line
unfolding region_line
region_fits =
    bind (any an_object) (λ o _. bind (any (an_own o)) (λ domain _. bind (any (a_number 0 (2 ^ 63))) (λ base _. bind (any (a_number 1 most_region_bytes)) (λ size _. bind (any some_rights) (λ rights _.
    gives (verb.MakeRegion o domain base size rights) tt)))))

cq_fits : Tells IsFitVerb cq_line
unfolding cq_line
cq_fits = bind (any an_object) (λ o _. bind (any (a_number 1 most_capacity)) (λ capacity _. gives (verb.MakeCq o capacity) tt))

qp_fits : Tells IsFitVerb qp_line
unfolding qp_line
qp_fits =
    bind object (λ o is. bind (any (an_own o)) (λ domain _. bind (any (an_own o)) (λ send_cq _. bind (any (an_own o)) (λ recv_cq _.
    bind (any (a_number 1 most_depth)) (λ send _. bind (any (a_number 1 most_depth)) (λ recv _.
    gives (verb.MakeQp o domain send_cq recv_cq send recv) is.name))))))

drop_fits : Tells IsFitVerb drop_line
unfolding drop_line
drop_fits = bind (any an_object) (λ o _. gives (verb.DropRegion o) tt)

load_fits : Tells IsFitVerb load_line
unfolding load_line
load_fits = bind (any an_object) (λ o _. bind (any a_long) (λ at _. bind (any (a_number 1 4096)) (λ size _. gives (verb.Load o at size) tt)))

store_fits : Tells IsFitVerb store_line
unfolding store_line
store_fits = bind (any an_object) (λ o _. bind (any a_long) (λ at _. bind (any some_bytes) (λ bs _. gives (verb.Store o at bs) tt)))

recv_fits : Tells IsFitVerb recv_line
unfolding recv_line
recv_fits =
    bind (any an_object) (λ o _. bind long (λ id is. bind (any a_key) (λ lkey _. bind (any a_long) (λ local _. bind (any a_short) (λ size _.
    gives (verb.PostRecv o (record { id = id; lkey = lkey; local = local; length = size })) is)))))

poll_fits : Tells IsFitVerb poll_line
unfolding poll_line
poll_fits = bind (any an_object) (λ o _. bind (any (a_number 1 256)) (λ max _. gives (verb.Poll o max) tt))

posted_fits : (o : ObjName) (id lkey local : ℕ) (s : Shape) → id < 2 ^ 64 → s.length < 2 ^ 32 → Tells IsFitVerb (posted o id lkey local s)
unfolding posted
posted_fits o id lkey local s few small =
    bind (any (an_option (codes "fence"))) (λ fence _. bind (any (an_option (codes "quiet"))) (λ quiet _.
    gives (verb.PostSend o (record { id = id; shape = s; lkey = lkey; local = local; signaled = not quiet; fence = fence })) (few, small)))

write_fits : Tells IsFitVerb write_line
unfolding write_line
write_fits =
    bind (any an_object) (λ o _. bind long (λ id few. bind (any a_key) (λ lkey _. bind (any a_long) (λ local _. bind short (λ size small.
    bind (any a_long) (λ remote _. bind (any a_key) (λ rkey _. bind (any an_immediate) (λ imm _. posted_fits o id lkey local _ few small))))))))

send_fits : Tells IsFitVerb send_line
unfolding send_line
send_fits =
    bind (any an_object) (λ o _. bind long (λ id few. bind (any a_key) (λ lkey _. bind (any a_long) (λ local _. bind short (λ size small.
    bind (any an_immediate) (λ imm _. posted_fits o id lkey local _ few small))))))

read_fits : Tells IsFitVerb read_line
unfolding read_line
read_fits =
    bind (any an_object) (λ o _. bind long (λ id few. bind (any a_key) (λ lkey _. bind (any a_long) (λ local _. bind short (λ size small.
    bind (any a_long) (λ remote _. bind (any a_key) (λ rkey _. posted_fits o id lkey local _ few small)))))))

cas_fits : Tells IsFitVerb cas_line
unfolding cas_line
cas_fits =
    bind (any an_object) (λ o _. bind long (λ id few. bind (any a_key) (λ lkey _. bind (any a_long) (λ local _.
    bind (any a_long) (λ remote _. bind (any a_key) (λ rkey _. bind (any a_long) (λ compare _. bind (any a_long) (λ swap _. posted_fits o id lkey local _ few (omega arith)))))))))

add_fits : Tells IsFitVerb add_line
unfolding add_line
add_fits =
    bind (any an_object) (λ o _. bind long (λ id few. bind (any a_key) (λ lkey _. bind (any a_long) (λ local _.
    bind (any a_long) (λ remote _. bind (any a_key) (λ rkey _. bind (any a_long) (λ value _. posted_fits o id lkey local _ few (omega arith))))))))

verb_fits : (v : VerbForm) → Tells IsFitVerb (verb_line v)
verb_fits verb_forms.Domain = domain_fits
verb_fits verb_forms.Region = region_fits
verb_fits verb_forms.Cq = cq_fits
verb_fits verb_forms.Qp = qp_fits
verb_fits verb_forms.Drop = drop_fits
verb_fits verb_forms.Store = store_fits
verb_fits verb_forms.Load = load_fits
verb_fits verb_forms.Write = write_fits
verb_fits verb_forms.Send = send_fits
verb_fits verb_forms.Read = read_fits
verb_fits verb_forms.CompareSwap = cas_fits
verb_fits verb_forms.FetchAdd = add_fits
verb_fits verb_forms.Recv = recv_fits
verb_fits verb_forms.Poll = poll_fits

-- no form of a line that settles
abbrev IsRecorded : Form → Type 0
IsRecorded form.Settle = ⊥
IsRecorded other = Unit {0}

form_fits : (f : Form) → IsRecorded f → Tells IsFitLine (line_of f)
unfolding line_of device_line connect_line
form_fits (form.Verb v) is = bind (verb_fits v) (λ v' fit. gives (line.Verb v') fit)
form_fits form.Device is = bind (any a_device) (λ id _. bind (any an_address) (λ a _. gives (line.Device id a) tt))
form_fits form.Context is = bind spelled_name (λ n fit. bind (any a_device) (λ device _. gives (line.Context n device) fit))
form_fits form.Connect is = bind (any an_object) (λ one _. bind (any an_object) (λ two _. bind (any some_terms) (λ t _. gives (line.Verb (verb.Connect one two t)) tt)))
form_fits form.Go is = bind (any an_object) (λ o _. gives (line.Go o) tt)
form_fits form.Deliver is = bind (any a_long) (λ k _. gives (line.Deliver k) tt)
form_fits form.Lose is = bind (any a_long) (λ k _. gives (line.Lose k) tt)
form_fits form.Wire is = bind (any a_long) (λ k _. gives (line.Wire k) tt)
form_fits form.Expire is = bind (any an_object) (λ o _. gives (line.Expire o) tt)
form_fits form.Rnr is = bind (any an_object) (λ o _. gives (line.Rnr o) tt)
form_fits form.Stop is = bind (any a_name) (λ n _. gives (line.Stop n) tt)
form_fits form.Restore is = bind (any a_name) (λ n _. bind (any a_device) (λ device _. gives (line.Restore n device) tt))
form_fits form.Release is = bind (any a_name) (λ n _. bind (any a_device) (λ device _. gives (line.Release n device) tt))
form_fits form.Dump is = bind (any a_name) (λ n _. gives (line.Dump n) tt)
form_fits form.Settle is = absurd is

whole_fits : (f : Form) → IsRecorded f → Tells IsFitLine (whole (line_of f))
whole_fits f is = bind (form_fits f is) (λ l fit. bind (any the_end) (λ none _. gives l fit))

no_settle : (o : Option Form) (f : Form) → without_settle o ≡ Some f → IsRecorded f
no_settle None f h = cc h
no_settle (Some form.Settle) f h = cc h
no_settle (Some other) f h = let same : other ≡ f = cc h in subst IsRecorded same tt

said_fits : (r : Read Line) (l : Line) → ((p : Line × Input) → r ≡ Ok p → IsFitLine p.0) → said r ≡ Ok l → IsFitLine l
said_fits (Ok p) l each h = let same : p.0 ≡ l = cc h in subst IsFitLine same (each p refl)
said_fits (Err e) l each h = cc h

-- what is read as a line that is recorded is read so by itself
record IsAlsoRead (words : List Word) (past : ℕ) (l : Line) : Type 0 where
  same : reading_of_words line.Blank form_of line_of words past ≡ Ok l
  fits : IsFitLine l

named_also : (w : Word) (i : Input) (l : Line) → lang_lines.named line_of (recorded_form w.text) w i ≡ Ok l → (lang_lines.named line_of (form_of w.text) w i ≡ Ok l) × IsFitLine l
unfolding recorded_form
named_also w i l h = by (without_settle (form_of w.text)) refl h
  where
    by : (o : Option Form) → without_settle (form_of w.text) ≡ o → lang_lines.named line_of o w i ≡ Ok l → (lang_lines.named line_of (form_of w.text) w i ≡ Ok l) × IsFitLine l
    by (Some f) e g = (ap (λ o. lang_lines.named line_of o w i) (form_kept w.text f e) ∙ g, said_fits (whole (line_of f) i) l ((whole_fits f (no_settle (form_of w.text) f e)).each i) g)
    by None e g = cc g

words_also : (words : List Word) (past : ℕ) (l : Line) → reading_of_words line.Blank recorded_form line_of words past ≡ Ok l → IsAlsoRead words past l
words_also [] past l h = record { same = h; fits = let same : line.Blank ≡ l = cc h in subst IsFitLine same tt }
words_also (w ∷ ws) past l h = by (slice_index w.text 0 == 35) refl h
  where
    by : (b : Bool) → (slice_index w.text 0 == 35) ≡ b → (if b then Ok line.Blank else lang_lines.named line_of (recorded_form w.text) w (record { words = ws; past = past })) ≡ Ok l → IsAlsoRead (w ∷ ws) past l
    by true e g = record { same = ap (λ b. if b then Ok line.Blank else lang_lines.named line_of (form_of w.text) w (record { words = ws; past = past })) e ∙ g; fits = let same : line.Blank ≡ l = cc g in subst IsFitLine same tt }
    by false e g =
        let n = named_also w (record { words = ws; past = past }) l g in
        record { same = ap (λ b. if b then Ok line.Blank else lang_lines.named line_of (form_of w.text) w (record { words = ws; past = past })) e ∙ n.0; fits = n.1 }

unless_also : (o : Option Offence) (r s : Result Line Offence) (l : Line) → (r ≡ Ok l → s ≡ Ok l) → unless o r ≡ Ok l → unless o s ≡ Ok l
unless_also (Some e) r s l also h = cc h
unless_also None r s l also h = also h

unless_good : (o : Option Offence) (r : Result Line Offence) (l : Line) → unless o r ≡ Ok l → r ≡ Ok l
unless_good (Some e) r l h = cc h
unless_good None r l h = h

-- a line that is recorded is read as it is played
pub also_read : (bs : List ℕ) (l : Line) → recorded_reading bs ≡ Ok l → reading_of bs ≡ Ok l
unfolding recorded_reading reading_of
also_read bs l h = unless_also (bytes_offence bs) _ _ l (λ g. (words_also (words_from 1 bs) (length bs + 1) l g).same) h

pub line_fits : (bs : List ℕ) (l : Line) → recorded_reading bs ≡ Ok l → IsFitLine l
unfolding recorded_reading
line_fits bs l h = (words_also (words_from 1 bs) (length bs + 1) l (unless_good (bytes_offence bs) _ l h)).fits

-- ---- what the machine answers

-- the memory of the machine is bytes
pub record IsMemory (m : Machine) : Type 0 where
  pub whole : (c : List ℕ) → All IsWhole (regions_of m c)
  pub bytes : (c : List ℕ) → All (λ r. All (λ b. b < 256) r.bytes) (regions_of m c)

-- each of these refusals is one of the machine
abbrev all_known : List Cause → Bool
all_known [] = true
all_known (x ∷ xs) = is_known x.refusal && all_known xs

first_known : (xs : List Cause) (r : Refusal) → first_cause xs ≡ Some r → all_known xs ≡ true → is_known r ≡ true
unfolding first_cause
first_known [] r h known = cc h
first_known (x ∷ xs) r h known = by x.holds h (λ g. first_known xs r g (right (is_known x.refusal) (all_known xs) known))
  where
    by : (b : Bool) → (if b then Some x.refusal else first_cause xs) ≡ Some r → (first_cause xs ≡ Some r → is_known r ≡ true) → is_known r ≡ true
    by true g later = let same : x.refusal ≡ r = cc g in ap is_known (sym same) ∙ left (is_known x.refusal) (all_known xs) known
    by false g later = later g

refusal_known : (m : Machine) (v : Verb) (r : Refusal) → refusal_of m v ≡ Some r → is_known r ≡ true
refusal_known m (verb.Context name made) r h = first_known _ r h refl
refusal_known m (verb.Connect one two terms) r h = first_known _ r h refl
refusal_known m (verb.MakeDomain o) r h = first_known _ r h refl
refusal_known m (verb.MakeRegion o domain base size rights) r h = first_known _ r h refl
refusal_known m (verb.MakeCq o capacity) r h = first_known _ r h refl
refusal_known m (verb.MakeQp o domain send_cq recv_cq send_depth recv_depth) r h = first_known _ r h refl
refusal_known m (verb.DropRegion o) r h = first_known _ r h refl
refusal_known m (verb.Store o at bytes) r h = first_known _ r h refl
refusal_known m (verb.Load o at size) r h = first_known _ r h refl
refusal_known m (verb.PostSend o request) r h = first_known _ r h refl
refusal_known m (verb.PostRecv o receive) r h = first_known _ r h refl
refusal_known m (verb.Poll o max) r h = first_known _ r h refl

-- no cause holds
none_first : (x : Cause) (xs : List Cause) → first_cause (x ∷ xs) ≡ None → (x.holds ≡ false) × (first_cause xs ≡ None)
unfolding first_cause
none_first x xs h = by x.holds h
  where
    by : (b : Bool) → (if b then Some x.refusal else first_cause xs) ≡ None → (b ≡ false) × (first_cause xs ≡ None)
    by true g = cc g
    by false g = (refl, g)

not_so : (b : Bool) → not b ≡ false → b ≡ true
not_so true h = refl
not_so false h = cc h

-- the bytes of a load are bytes
each_small : (bs : List ℕ) → All (λ b. b < 256) bs → IsBytes bs
each_small [] all i = omega arith
each_small (b ∷ bs) all zero = All-head (λ x. x < 256) b bs all
each_small (b ∷ bs) all (suc i) = each_small bs (All-tail (λ x. x < 256) b bs all) i

cut_small : (place count : ℕ) (bytes : List ℕ) → All (λ b. b < 256) bytes → IsBytes (cut place count bytes)
unfolding cut
cut_small place count bytes all = each_small (take count (drop place bytes)) (All-take (λ b. b < 256) count (drop place bytes) (All-drop (λ b. b < 256) place bytes all))

below : (a b : ℕ) → nat_le a b ≡ true → a ≤ b
below a b h = grind (arith, nat_tests)

length-cut : (r : Region) (at count : ℕ) → IsWhole r → holds r at count ≡ true → length (cut (at - r.base) count r.bytes) ≡ count
unfolding cut holds
length-cut r at count whole h =
    let low : r.base ≤ at = below r.base at (left (nat_le r.base at) (nat_le (at + count) (r.base + r.length)) h) in
    let high : at + count ≤ r.base + r.length = below (at + count) (r.base + r.length) (right (nat_le r.base at) (nat_le (at + count) (r.base + r.length)) h) in
    length-take-le count (drop (at - r.base) r.bytes) (omega (arith, length-drop (at - r.base) r.bytes))

module _ (m : Machine) (memory : IsMemory m) (o : ObjName) (there : has_region m o ≡ true) where
  region_whole : IsWhole (region_of m o)
  unfolding region_of
  region_whole = All-named IsWhole (λ r. r.name) no_region o.name (regions_of m o.context) (memory.whole o.context) there

  region_small : All (λ b. b < 256) (region_of m o).bytes
  unfolding region_of
  region_small = All-named (λ r. All (λ b. b < 256) r.bytes) (λ r. r.name) no_region o.name (regions_of m o.context) (memory.bytes o.context) there

loaded_fits : (m : Machine) → IsMemory m → (o : ObjName) (at size given : ℕ) → IsIn 1 4096 size → refusal_of m (verb.Load o at size) ≡ None → IsFitAnswer (granted_answer m (verb.Load o at size) given)
loaded_fits m memory o at size given is h =
    let one = none_first _ _ h in
    let two = none_first _ _ one.1 in
    let three = none_first _ _ two.1 in
    let there : has_region m o ≡ true = not_so (has_region m o) two.0 in
    let inside : holds (region_of m o) at size ≡ true = not_so (holds (region_of m o) at size) three.0 in
    let len = length-cut (region_of m o) at size (region_whole m memory o there) inside in
    (cut_small (at - (region_of m o).base) size (region_of m o).bytes (region_small m memory o there), omega (arith, len, is.0), omega (arith, len, is.1))

granted_fits : (m : Machine) → IsFit m → IsMemory m → (v : Verb) (given : ℕ) → IsLawfulVerb v → refusal_of m v ≡ None → IsFitAnswer (granted_answer m v given)
granted_fits m fit memory (verb.Context name made) given lawful h = tt
granted_fits m fit memory (verb.Connect one two terms) given lawful h = tt
granted_fits m fit memory (verb.MakeDomain o) given lawful h = tt
granted_fits m fit memory (verb.MakeRegion o domain base size rights) given lawful h = tt
granted_fits m fit memory (verb.MakeCq o capacity) given lawful h = tt
granted_fits m fit memory (verb.MakeQp o domain send_cq recv_cq send_depth recv_depth) given lawful h = tt
granted_fits m fit memory (verb.DropRegion o) given lawful h = tt
granted_fits m fit memory (verb.Store o at bytes) given lawful h = tt
granted_fits m fit memory (verb.Load o at size) given lawful h = loaded_fits m memory o at size given lawful h
granted_fits m fit memory (verb.PostSend o request) given lawful h = tt
granted_fits m fit memory (verb.PostRecv o receive) given lawful h = tt
granted_fits m fit memory (verb.Poll o max) given lawful h = All-take IsFitEntry max (queue_of m o.context o.name).entries (queue_fits m fit o.context o.name).entries

-- a verb that a line may say, or a context
abbrev pub IsCalled : Verb → Type 0
IsCalled (verb.Context name made) = Unit {0}
IsCalled v = IsLawfulVerb v

granted_called : (m : Machine) → IsFit m → IsMemory m → (v : Verb) (given : ℕ) → IsCalled v → refusal_of m v ≡ None → IsFitAnswer (granted_answer m v given)
granted_called m fit memory (verb.Context name made) given is h = tt
granted_called m fit memory v given is h = granted_fits m fit memory v given is h

-- the machine's answer is within its bits
pub answer_fits : (m : Machine) → IsFit m → IsMemory m → (v : Verb) (given : ℕ) → IsCalled v → IsFitAnswer (verb_answer m v given)
answer_fits m fit memory v given is = by (refusal_of m v) refl
  where
    by : (o : Option Refusal) → refusal_of m v ≡ o → IsFitAnswer (answered o m v given)
    by (Some r) e = refusal_known m v r e
    by None e = granted_called m fit memory v given is e
