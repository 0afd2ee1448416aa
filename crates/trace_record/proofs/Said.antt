-- What a line says that is recorded: what it says to be played, but that no line settles.
use Rattle.std.proofs.Common.{◌≡◌, ℕ, ◌+◌, ◌==◌, List, [], ◌∷◌, length, true, false, Bool, refl, sym, ap, ◌∙◌, subst}
use Rattle.std.specs.Prelude.{Option, Some, None, Result, Ok, Err, IfOk, IsErr, IsErrAnd, bytes_eq, codes, if◌then◌else◌, slice_index}
use Rattle.std.proofs.lemmas.Slice.Eq.{bytes_eq-Decides}
use Rattle.rdma_types.specs.declared.verbs.Verb.{Verb}
use Rattle.rdma_types.specs.declared.verbs.Verb.TheVariants as verb
use Rattle.protocol.specs.declared.events.WorldEvent.{WorldEvent}
use Rattle.script_lang.specs.declared.forms.Form.{Form}
use Rattle.script_lang.specs.declared.forms.Form.TheVariants as form
use Rattle.script_lang.specs.declared.forms.VerbForm.{VerbForm}
use Rattle.script_lang.specs.declared.lines.Line.{Line}
use Rattle.script_lang.specs.declared.lines.Line.TheVariants as line
use Rattle.script_lang.specs.declared.lines.LineFault.{LineFault}
use Rattle.script_lang.specs.declared.lines.LineFault.TheVariants as fault
use Rattle.script_lang.specs.declared.lines.LineWhy.TheVariants as why
use Rattle.script_lang.specs.declared.lines.Offence.{Offence}
use Rattle.script_lang.specs.Lines.{Says, begun, bytes_offence, connect_line, device_line, form_of, form_or, line_of, named, placed_line, reading_of, reading_of_words, said, unless, whole}
use Rattle.rdma_types.specs.declared.names.Name.{Name}
use Rattle.script_lang.specs.Fields.{a_device, a_name, an_address, an_object, some_terms}
use Rattle.script_lang.specs.Verbs.{verb_form}
use Rattle.script_lang.specs.Words.{◌>>=◌, Input, Read, Reads, Word, done, offence, then_read, the_end, words_from}
use Rattle.law_headline.specs.Does.{event_happens, event_of, happening_of}
use Rattle.trace_rules.specs.Recording.{recorded_form, recorded_reading, without_settle}
use Rattle.trace_record.specs.Lines.{IsNoSettling, settle_offence}

-- ---- the first word

-- the word `settle` names settling, and no other does
settle_is : form_of (codes "settle") ≡ Some form.Settle
unfolding form_of verb_form
settle_is = refl

is_settle : (w : List ℕ) → bytes_eq w (codes "settle") ≡ true → w ≡ codes "settle"
is_settle w h = (bytes_eq-Decides w (codes "settle")).0 h

settles : (w : List ℕ) → bytes_eq w (codes "settle") ≡ true → recorded_form w ≡ None
unfolding recorded_form
settles w h = ap (λ z. without_settle (form_of z)) (is_settle w h) ∙ ap without_settle settle_is

others : (a b c d e f g h i j k l n : Bool) (v : Option VerbForm) →
    without_settle (form_or v (if a then Some form.Device else if b then Some form.Context else if c then Some form.Connect else if d then Some form.Go else if e then Some form.Deliver else if f then Some form.Lose else if g then Some form.Wire else if h then Some form.Expire else if i then Some form.Rnr else if j then Some form.Stop else if k then Some form.Restore else if l then Some form.Release else if n then Some form.Dump else None))
    ≡ form_or v (if a then Some form.Device else if b then Some form.Context else if c then Some form.Connect else if d then Some form.Go else if e then Some form.Deliver else if f then Some form.Lose else if g then Some form.Wire else if h then Some form.Expire else if i then Some form.Rnr else if j then Some form.Stop else if k then Some form.Restore else if l then Some form.Release else if n then Some form.Dump else None)
others a b c d e f g h i j k l n (Some v) = refl
others true b c d e f g h i j k l n None = refl
others false true c d e f g h i j k l n None = refl
others false false true d e f g h i j k l n None = refl
others false false false true e f g h i j k l n None = refl
others false false false false true f g h i j k l n None = refl
others false false false false false true g h i j k l n None = refl
others false false false false false false true h i j k l n None = refl
others false false false false false false false true i j k l n None = refl
others false false false false false false false false true j k l n None = refl
others false false false false false false false false false true k l n None = refl
others false false false false false false false false false false true l n None = refl
others false false false false false false false false false false false true n None = refl
others false false false false false false false false false false false false true None = refl
others false false false false false false false false false false false false false None = refl

abbrev spells : List ℕ → List ℕ → Bool
spells w text = bytes_eq w text

form_chain : (w : List ℕ) (z : Bool) → bytes_eq w (codes "settle") ≡ z → form_of w ≡ form_or (verb_form w) (if spells w (codes "device") then Some form.Device else if spells w (codes "context") then Some form.Context else if spells w (codes "connect") then Some form.Connect else if spells w (codes "go") then Some form.Go else if spells w (codes "deliver") then Some form.Deliver else if spells w (codes "lose") then Some form.Lose else if spells w (codes "wire") then Some form.Wire else if spells w (codes "expire") then Some form.Expire else if spells w (codes "rnr") then Some form.Rnr else if spells w (codes "stop") then Some form.Stop else if spells w (codes "restore") then Some form.Restore else if spells w (codes "release") then Some form.Release else if spells w (codes "dump") then Some form.Dump else if z then Some form.Settle else None)
unfolding form_of
form_chain w z h = ap (λ b. form_or (verb_form w) (if spells w (codes "device") then Some form.Device else if spells w (codes "context") then Some form.Context else if spells w (codes "connect") then Some form.Connect else if spells w (codes "go") then Some form.Go else if spells w (codes "deliver") then Some form.Deliver else if spells w (codes "lose") then Some form.Lose else if spells w (codes "wire") then Some form.Wire else if spells w (codes "expire") then Some form.Expire else if spells w (codes "rnr") then Some form.Rnr else if spells w (codes "stop") then Some form.Stop else if spells w (codes "restore") then Some form.Restore else if spells w (codes "release") then Some form.Release else if spells w (codes "dump") then Some form.Dump else if b then Some form.Settle else None)) h

stays : (w : List ℕ) → bytes_eq w (codes "settle") ≡ false → recorded_form w ≡ form_of w
unfolding recorded_form
stays w h =
    let chain = form_chain w false h in
    ap without_settle chain
    ∙ (others (spells w (codes "device")) (spells w (codes "context")) (spells w (codes "connect")) (spells w (codes "go")) (spells w (codes "deliver")) (spells w (codes "lose")) (spells w (codes "wire")) (spells w (codes "expire")) (spells w (codes "rnr")) (spells w (codes "stop")) (spells w (codes "restore")) (spells w (codes "release")) (spells w (codes "dump")) (verb_form w)
    ∙ sym chain)

-- ---- the line

-- bytes that may not stand in a line
pub bad_bytes : (bs : List ℕ) (e : Offence) → bytes_offence bs ≡ Some e → recorded_reading bs ≡ Err e
unfolding recorded_reading
bad_bytes bs e h = ap (λ o. unless o (reading_of_words line.Blank recorded_form line_of (words_from 1 bs) (length bs + 1))) h

-- no comment begins with `settle`
no_comment : (w : List ℕ) → bytes_eq w (codes "settle") ≡ true → (slice_index w 0 == 35) ≡ false
no_comment w h = ap (λ z. slice_index z 0 == 35) (is_settle w h)

settled_words : (ws : List Word) (past : ℕ) (e : Offence) → settle_offence ws ≡ Some e → reading_of_words line.Blank recorded_form line_of ws past ≡ Err e
settled_words [] past e h = absurd (cc)
settled_words (w ∷ ws) past e h = by (bytes_eq w.text (codes "settle")) refl h
  where
    by : (b : Bool) → bytes_eq w.text (codes "settle") ≡ b → (if b then Some (offence w.column why.Word) else None) ≡ Some e → begun line.Blank recorded_form line_of w (record { words = ws; past = past }) ≡ Err e
    by true t g =
        ap (λ c. if c then Ok line.Blank else named line_of (recorded_form w.text) w (record { words = ws; past = past })) (no_comment w.text t)
        ∙ (ap (λ r. named line_of r w (record { words = ws; past = past })) (settles w.text t) ∙ cc)
    by false t g = absurd (cc)

pub settled_line : (bs : List ℕ) (e : Offence) → bytes_offence bs ≡ None → settle_offence (words_from 1 bs) ≡ Some e → recorded_reading bs ≡ Err e
unfolding recorded_reading
settled_line bs e good h = ap (λ o. unless o (reading_of_words line.Blank recorded_form line_of (words_from 1 bs) (length bs + 1))) good ∙ settled_words (words_from 1 bs) (length bs + 1) e h

other_words : (ws : List Word) (past : ℕ) → settle_offence ws ≡ None → reading_of_words line.Blank recorded_form line_of ws past ≡ reading_of_words line.Blank form_of line_of ws past
other_words [] past h = refl
other_words (w ∷ ws) past h = by (bytes_eq w.text (codes "settle")) refl h
  where
    by : (b : Bool) → bytes_eq w.text (codes "settle") ≡ b → (if b then Some (offence w.column why.Word) else None) ≡ None → begun line.Blank recorded_form line_of w (record { words = ws; past = past }) ≡ begun line.Blank form_of line_of w (record { words = ws; past = past })
    by true t g = absurd (cc)
    by false t g = ap (λ r. if slice_index w.text 0 == 35 then Ok line.Blank else named line_of r w (record { words = ws; past = past })) (stays w.text t)

pub other_line : (bs : List ℕ) → settle_offence (words_from 1 bs) ≡ None → recorded_reading bs ≡ reading_of bs
unfolding recorded_reading reading_of
other_line bs h = ap (unless (bytes_offence bs)) (other_words (words_from 1 bs) (length bs + 1) h)

-- ---- no line that is read settles

abbrev IsQuiet : Line → Type 0
IsQuiet l = IsNoSettling (happening_of l)

-- what a reader reads is no settling
abbrev ReadsQuiet : Reads Line → Type 0
ReadsQuiet r = (i j : Input) (l : Line) → r i ≡ Ok (l, j) → IsQuiet l

quiet_then : {A : Type 0} (r : Reads A) (f : A → Reads Line) → ((x : A) → ReadsQuiet (f x)) → ReadsQuiet (λ i. then_read (r i) f)
quiet_then {A} r f each = λ i j l h. by j l (r i) h
  where
    by : (j : Input) (l : Line) (x : Read A) → then_read x f ≡ Ok (l, j) → IsQuiet l
    by j l (Ok p) h = each p.0 p.1 j l h
    by j l (Err e) h = absurd (cc)

line_in : Read Line → Line
line_in (Ok p) = p.0
line_in (Err e) = line.Blank

quiet_done : (l : Line) → IsQuiet l → ReadsQuiet (λ i. Ok (l, i))
unfolding line_in
quiet_done l q = λ i j k h. subst IsQuiet (ap line_in h) q

verb_quiet : (v : Verb) → IsQuiet (line.Verb v)
verb_quiet v = by (event_of v)
  where
    by : (o : Option WorldEvent) → IsNoSettling (event_happens o)
    by None = tt
    by (Some e) = tt

placed_quiet : (says : Name → ℕ → Line) → ((name : Name) (device : ℕ) → IsQuiet (says name device)) → ReadsQuiet (placed_line says)
placed_quiet says each = quiet_then a_name (λ name. a_device >>= (λ device. done (says name device))) (λ name. quiet_then a_device (λ device. done (says name device)) (λ device. quiet_done (says name device) (each name device)))

form_quiet : (f : Form) → (f ≡ form.Settle → ⊥) → ReadsQuiet (line_of f)
unfolding line_of device_line connect_line
form_quiet (form.Verb v) h = quiet_then _ _ (λ x. quiet_done _ (verb_quiet x))
form_quiet form.Device h = quiet_then a_device (λ id. an_address >>= (λ address. done (line.Device id address))) (λ id. quiet_then an_address (λ address. done (line.Device id address)) (λ address. quiet_done (line.Device id address) tt))
form_quiet form.Context h = placed_quiet line.Context (λ name device. tt)
form_quiet form.Connect h = quiet_then an_object (λ one. an_object >>= (λ two. some_terms >>= (λ terms. done (line.Verb (verb.Connect one two terms))))) (λ one. quiet_then an_object (λ two. some_terms >>= (λ terms. done (line.Verb (verb.Connect one two terms)))) (λ two. quiet_then some_terms (λ terms. done (line.Verb (verb.Connect one two terms))) (λ terms. quiet_done (line.Verb (verb.Connect one two terms)) tt)))
form_quiet form.Go h = quiet_then _ _ (λ o. quiet_done _ tt)
form_quiet form.Deliver h = quiet_then _ _ (λ k. quiet_done _ tt)
form_quiet form.Lose h = quiet_then _ _ (λ k. quiet_done _ tt)
form_quiet form.Wire h = quiet_then _ _ (λ k. quiet_done _ tt)
form_quiet form.Expire h = quiet_then _ _ (λ o. quiet_done _ tt)
form_quiet form.Rnr h = quiet_then _ _ (λ o. quiet_done _ tt)
form_quiet form.Stop h = quiet_then _ _ (λ name. quiet_done _ tt)
form_quiet form.Restore h = placed_quiet line.Restore (λ name device. tt)
form_quiet form.Release h = placed_quiet line.Release (λ name device. tt)
form_quiet form.Dump h = quiet_then _ _ (λ name. quiet_done _ tt)
form_quiet form.Settle h = absurd (h refl)

never_settle : (o : Option Form) (f : Form) → without_settle o ≡ Some f → f ≡ form.Settle → ⊥
never_settle None f h e = absurd (cc)
never_settle (Some form.Settle) f h e = absurd (cc)
never_settle (Some other) f h e = absurd (cc)

quiet_end : (p : Line × Input) (l : Line) (x : Read (Unit {0})) → IsQuiet p.0 → said (then_read x (λ none i. Ok (p.0, i))) ≡ Ok l → IsQuiet l
quiet_end p l (Ok q) h e = subst IsQuiet (let same : p.0 ≡ l = cc in same) h
quiet_end p l (Err x) h e = absurd (cc)

quiet_whole : (r : Reads Line) (i : Input) (l : Line) → ReadsQuiet r → said (whole r i) ≡ Ok l → IsQuiet l
quiet_whole r i l quiet h = by (r i) refl h
  where
    by : (x : Read Line) → r i ≡ x → said (then_read x (λ p j. then_read (the_end j) (λ none k. Ok (p, k)))) ≡ Ok l → IsQuiet l
    by (Ok p) is g = quiet_end p l (the_end p.1) (quiet i p.1 p.0 is) g
    by (Err e) is g = absurd (cc)

quiet_named : (w : Word) (i : Input) (l : Line) (o : Option Form) → recorded_form w.text ≡ o → named line_of o w i ≡ Ok l → IsQuiet l
unfolding recorded_form
quiet_named w i l None is h = absurd (cc)
quiet_named w i l (Some f) is h = quiet_whole (line_of f) i l (form_quiet f (never_settle (form_of w.text) f is)) h

quiet_words : (ws : List Word) (past : ℕ) (l : Line) → reading_of_words line.Blank recorded_form line_of ws past ≡ Ok l → IsQuiet l
quiet_words [] past l h = subst IsQuiet (let e : line.Blank ≡ l = cc in e) tt
quiet_words (w ∷ ws) past l h = by (slice_index w.text 0 == 35) h
  where
    by : (b : Bool) → (if b then Ok line.Blank else named line_of (recorded_form w.text) w (record { words = ws; past = past })) ≡ Ok l → IsQuiet l
    by true g = subst IsQuiet (let e : line.Blank ≡ l = cc in e) tt
    by false g = quiet_named w (record { words = ws; past = past }) l (recorded_form w.text) refl g

pub quiet_line : (bs : List ℕ) (l : Line) → recorded_reading bs ≡ Ok l → IsQuiet l
unfolding recorded_reading
quiet_line bs l h = by (bytes_offence bs) h
  where
    by : (o : Option Offence) → unless o (reading_of_words line.Blank recorded_form line_of (words_from 1 bs) (length bs + 1)) ≡ Ok l → IsQuiet l
    by (Some e) g = absurd (cc)
    by None g = quiet_words (words_from 1 bs) (length bs + 1) l g

-- ---- what the code returned

-- the first offence is what a bad line says
pub says_bad : (r : Result Line LineFault) (e : Offence) (reading : Result Line Offence) → IsErr r × IsErrAnd r (λ f. f ≡ fault.Bad e.column e.why) → reading ≡ Err e → Says r reading
says_bad (Ok l) e reading h k = absurd (cc (h.0))
says_bad (Err f) e reading h k = subst (λ z. Says {L = Line} (Err z) reading) (sym h.1) k

-- a line that was read is no settling
pub says_quiet : (bs : List ℕ) (r : Result Line LineFault) → Says r (recorded_reading bs) → IfOk r IsQuiet
says_quiet bs (Ok l) h = quiet_line bs l h
says_quiet bs (Err f) h = tt
