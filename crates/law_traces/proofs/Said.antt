-- The text of what is recorded reads back as its steps.
use Rattle.std.proofs.Common.{◌≡◌, ℕ, ◌+◌, ◌≤◌, Bool, true, false, List, [], ◌∷◌, ◌++◌, length, map, Option, Some, None, Result, Ok, Err, if◌then◌else◌, refl, sym, ap, ◌∙◌, subst, codes, append_assoc, append-nil}
use Rattle.std.proofs.lemmas.List.Elements.{All-nil}
use Rattle.std.specs.List.{list_all, slice_split}
use Rattle.rdma_types.specs.declared.answers.Answer.{Answer}
use Rattle.rdma_types.specs.declared.verbs.Verb.{Verb}
use Rattle.rdma_types.specs.declared.verbs.Verb.TheVariants as verb
use Rattle.rdma_types.specs.Lists.{has}
use Rattle.protocol.specs.declared.events.WorldEvent.{WorldEvent}
use Rattle.protocol.specs.Script as script
use Rattle.protocol.specs.Script.{Happening, dumps, happens}
use Rattle.protocol.specs.State.{World, empty_world}
use Rattle.protocol.specs.WorldStep.{world_step}
use Rattle.packetless_machine.specs.declared.steps.MachineStep.{MachineStep}
use Rattle.packetless_machine.specs.declared.steps.MachineStep.TheVariants as steps
use Rattle.packetless_machine.specs.Legal.{IsRun, after, effect, seen}
use Rattle.packetless_machine.specs.Machine.{Machine, empty}
use Rattle.packetless_machine.specs.Verbs.{verb_answer}
use Rattle.law_simulation.specs.Kept.{is_unmade, kept_verb, verb_in, verb_of}
use Rattle.law_simulation.specs.Law.{inner_of}
use Rattle.law_simulation.specs.Named.{EventsFollowByName, FollowsByName, event_steps, given_in, inner_steps, spoken_steps}
use Rattle.law_simulation.specs.Stands.{Stands}
use Rattle.law_simulation.proofs.runs.Inner.{named_inner}
use Rattle.script_lang.specs.declared.lines.Line.{Line}
use Rattle.script_lang.specs.declared.lines.Line.TheVariants as line
use Rattle.script_lang.specs.declared.lines.Offence.{Offence}
use Rattle.script_lang.specs.Lines.{bytes_offence, is_printable, reading_of}
use Rattle.script_lang.specs.Printed as lang_printed
use Rattle.script_lang.specs.Ranges.{IsLawfulLine, IsLawfulVerb}
use Rattle.script_lang.specs.Scripts.{is_newline, lines_of}
use Rattle.script_lang.specs.Words.{a_word, the_end, words_from}
use Rattle.law_headline.specs.Does.{IsLineInRange, IsWithinOf, event_happens, event_of, happening_of}
use Rattle.law_headline.specs.Script.{BadLine}
use Rattle.run_traces.specs.declared.trace_audit.lines.TraceLine.TheVariants as trace_lines
use Rattle.run_traces.specs.Grammar.{AreAnswers, AreLinesOf, IsTrace, TracesAreRead, marked}
use Rattle.run_traces.specs.Lines.{leader_of, trace_line, traced_reading}
use Rattle.run_traces.specs.Traces.{Made, Spoken, Traced}
use Rattle.run_traces.specs.Written.{answer_lines, answer_text, lowered, made_text, step_text, step_words, steps_text, verb_text}
use Rattle.trace_rules.specs.Recording.{Written, begins_with, last_line, line_steps, machine_past, recorded_from, recorded_of, recorded_reading, recorded_text, spoken_of, spoken_text, text_from, trace_text, traced_from, traced_of, world_past}
use Rattle.law_script_words.specs.Spoken.{AreWords, spoken}
use Rattle.law_script_words.proofs.Spoken.{line_by, spoken_printable}
use Rattle.law_traces.specs.Said.{AreShort, IsShort, RecordsAreSaid}
use Rattle.law_traces.proofs.SaidAnswers.{AreAnswerLines, answer_said_in}
use Rattle.law_traces.proofs.SaidCalls.{IsTraced, context_traced, verb_traced}
use Rattle.law_traces.proofs.SaidFits.{IsCalled, IsFitLine, IsMemory, also_read, answer_fits, line_fits}
use Rattle.law_traces.proofs.SaidLines.{line_cut}
use Rattle.law_traces.proofs.SaidMachine.{AreFitSteps, IsFit, IsFitContext, IsFitVerb, IsInner, after_fits, effect_fits, enabled_named}
use Rattle.law_traces.proofs.SaidSteps.{AreReadBack, IsNamed, step_line_words, step_traced}

-- ---- texts of steps

-- newlines cut a text into lines that say these steps, whatever follows
record IsTextOf (ts : List Traced) (text : List ℕ) : Type 0 where
  lines : List (List ℕ)
  cut : (rest : List ℕ) → slice_split is_newline (text ++ rest) ≡ lines ++ slice_split is_newline rest
  say : (more : List Traced) (behind : List (List ℕ)) → AreLinesOf more behind → AreLinesOf (ts ++ more) (lines ++ behind)

no_steps : IsTextOf [] []
no_steps = record { lines = []; cut = λ rest. refl; say = λ more behind is. is }

both_texts : (ts us : List Traced) (one two : List ℕ) → IsTextOf ts one → IsTextOf us two → IsTextOf (ts ++ us) (one ++ two)
both_texts ts us one two a b = record {
  lines = a.lines ++ b.lines;
  cut = λ rest.
      ap (slice_split is_newline) (append_assoc one two rest)
      ∙ a.cut (two ++ rest)
      ∙ ap (λ z. a.lines ++ z) (b.cut rest)
      ∙ sym (append_assoc a.lines b.lines (slice_split is_newline rest));
  say = λ more behind is.
      subst (λ z. AreLinesOf z ((a.lines ++ b.lines) ++ behind)) (sym (append_assoc ts us more))
      (subst (λ z. AreLinesOf (ts ++ (us ++ more)) z) (sym (append_assoc a.lines b.lines behind)) (a.say (us ++ more) (b.lines ++ behind) (b.say more behind is)));
}

-- a written line, cut off
written_cut : (first : List ℕ) (ws : List (List ℕ)) (rest : List ℕ) → AreWords (first ∷ ws) → slice_split is_newline (lang_printed.line first ws ++ rest) ≡ spoken first ws ∷ slice_split is_newline rest
written_cut first ws rest are =
    ap (λ z. slice_split is_newline (z ++ rest)) (line_by first ws)
    ∙ ap (slice_split is_newline) (append_assoc (spoken first ws) (10 ∷ []) rest)
    ∙ line_cut (spoken first ws) rest (spoken_printable first ws are)

-- ---- inner steps

-- steps of ends whose names are spelled
abbrev AreNamed : List MachineStep → Type 0
AreNamed [] = Unit {0}
AreNamed (s ∷ ss) = IsNamed s × AreNamed ss

one_made : AreReadBack → (s : MachineStep) → IsNamed s → IsShort s → IsTextOf (Made s ∷ []) (step_text s)
one_made law s named short = record {
  lines = spoken (codes "i") (step_words s) ∷ [];
  cut = λ rest. written_cut (codes "i") (step_words s) rest (step_line_words s named short);
  say = λ more behind is. (spoken (codes "i") (step_words s), behind, refl, step_traced law s named short, is);
}

all_made : AreReadBack → (ss : List MachineStep) → AreNamed ss → AreShort (map Made ss) → IsTextOf (map Made ss) (steps_text ss)
unfolding steps_text
all_made law [] named short = no_steps
all_made law (s ∷ ss) named short = both_texts (Made s ∷ []) (map Made ss) (step_text s) (steps_text ss) (one_made law s named.0 short.0) (all_made law ss named.1 short.1)

-- ---- verbs

are_answers : (texts : List (List ℕ)) → AreAnswerLines texts → AreAnswers texts
are_answers [] are = tt
are_answers (t ∷ ts) are = (are.0.is, are_answers ts are.1)

mark_printable : (t : List ℕ) → list_all is_printable t ≡ true → list_all is_printable (marked t) ≡ true
mark_printable t h = h

answers_cut : (texts : List (List ℕ)) → AreAnswerLines texts → (rest : List ℕ) → slice_split is_newline (answer_text texts ++ rest) ≡ map marked texts ++ slice_split is_newline rest
unfolding answer_text
answers_cut [] are rest = refl
answers_cut (t ∷ ts) are rest =
    ap (λ z. slice_split is_newline (codes "= " ++ z)) (append_assoc t (10 ∷ answer_text ts) rest)
    ∙ line_cut (marked t) (answer_text ts ++ rest) (mark_printable t are.0.printable)
    ∙ ap (λ z. marked t ∷ z) (answers_cut ts are.1 rest)

one_spoken : (v : Verb) (ws : List (List ℕ)) (texts : List (List ℕ)) → IsTraced (codes "v") ws v → 1 ≤ length texts → AreAnswerLines texts → IsTextOf (Spoken v texts ∷ []) (lang_printed.line (codes "v") ws ++ answer_text texts)
one_spoken v ws texts traced some are = record {
  lines = spoken (codes "v") ws ∷ map marked texts;
  cut = λ rest.
      ap (slice_split is_newline) (append_assoc (lang_printed.line (codes "v") ws) (answer_text texts) rest)
      ∙ written_cut (codes "v") ws (answer_text texts ++ rest) traced.are
      ∙ ap (λ z. spoken (codes "v") ws ∷ z) (answers_cut texts are rest);
  say = λ more behind is. (spoken (codes "v") ws, behind, refl, traced.reads, some, are_answers texts are, is);
}

-- ---- the verb of a line

-- a verb as it is recorded of a line that is written so
record IsWritten (bs : List ℕ) (v : Verb) : Type 0 where
  words : List (List ℕ)
  text : verb_text bs v ≡ lang_printed.line (codes "v") words
  traced : IsTraced (codes "v") words v
  fits : IsFitVerb v
  called : IsCalled v

abbrev IsWrittenOf : List ℕ → Option Verb → Type 0
IsWrittenOf bs None = Unit {0}
IsWrittenOf bs (Some v) = IsWritten bs v

-- what happens at a line: its verb is written so, and nothing settles
abbrev IsRecordedAt : List ℕ → World → Option Happening → Type 0
IsRecordedAt bs w None = Unit {0}
IsRecordedAt bs w (Some (script.Event e)) = IsWrittenOf bs (verb_of w e)
IsRecordedAt bs w (Some (script.Dump name)) = Unit {0}
IsRecordedAt bs w (Some script.Settles) = ⊥

context_written : (bs name : List ℕ) (made : Bool) → IsFitLine (line.Context name 0) → IsWritten bs (verb.Context name made)
context_written bs name made fit = record { words = codes "context" ∷ name ∷ made_text made ∷ []; text = refl; traced = context_traced name made fit; fits = fit; called = tt }

module _ (law : AreReadBack) (bs : List ℕ) (w : World) where
  verb_written : (v : Verb) → verb_text bs v ≡ lang_printed.line (codes "v") (lowered (words_from 1 bs)) → IsCalled v → recorded_reading bs ≡ Ok (line.Verb v) → IsWritten bs v
  verb_written v text called h = record { words = lowered (words_from 1 bs); text = text; traced = verb_traced law bs v h; fits = line_fits bs (line.Verb v) h; called = called }

  verb_recorded : (v : Verb) → IsLawfulVerb v → recorded_reading bs ≡ Ok (line.Verb v) → IsRecordedAt bs w (event_happens (event_of v))
  unfolding verb_of verb_in
  verb_recorded (verb.Context name made) lawful h = tt
  verb_recorded (verb.Connect one two terms) lawful h = verb_written (verb.Connect one two terms) refl lawful h
  verb_recorded (verb.MakeDomain o) lawful h = verb_written (verb.MakeDomain o) refl lawful h
  verb_recorded (verb.MakeRegion o domain base size rights) lawful h = verb_written (verb.MakeRegion o domain base size rights) refl lawful h
  verb_recorded (verb.MakeCq o capacity) lawful h = verb_written (verb.MakeCq o capacity) refl lawful h
  verb_recorded (verb.MakeQp o domain send_cq recv_cq send_depth recv_depth) lawful h = verb_written (verb.MakeQp o domain send_cq recv_cq send_depth recv_depth) refl lawful h
  verb_recorded (verb.DropRegion o) lawful h = verb_written (verb.DropRegion o) refl lawful h
  verb_recorded (verb.Store o at bytes) lawful h = verb_written (verb.Store o at bytes) refl lawful h
  verb_recorded (verb.Load o at size) lawful h = verb_written (verb.Load o at size) refl lawful h
  verb_recorded (verb.PostSend o request) lawful h = verb_written (verb.PostSend o request) refl lawful h
  verb_recorded (verb.PostRecv o receive) lawful h = verb_written (verb.PostRecv o receive) refl lawful h
  verb_recorded (verb.Poll o max) lawful h = verb_written (verb.Poll o max) refl lawful h

  line_recorded : (l : Line) → IsLawfulLine l → recorded_reading bs ≡ Ok l → IsRecordedAt bs w (happening_of l)
  unfolding verb_of verb_in
  line_recorded line.Blank lawful h = tt
  line_recorded (line.Verb v) lawful h = verb_recorded v lawful h
  line_recorded (line.Device id address) lawful h = tt
  line_recorded (line.Context name device) lawful h = context_written bs name (has (λ d. d.id) device w.devices) (line_fits bs (line.Context name device) h)
  line_recorded (line.Go o) lawful h = tt
  line_recorded (line.Deliver k) lawful h = tt
  line_recorded (line.Lose k) lawful h = tt
  line_recorded (line.Wire k) lawful h = tt
  line_recorded (line.Expire o) lawful h = tt
  line_recorded (line.Rnr o) lawful h = tt
  line_recorded (line.Stop name) lawful h = tt
  line_recorded (line.Restore name device) lawful h = tt
  line_recorded (line.Release name device) lawful h = tt
  line_recorded (line.Dump name) lawful h = tt
  line_recorded line.Settle lawful h = line_fits bs line.Settle h

-- ---- steps of the machine

abbrev AllInner : List MachineStep → Type 0
AllInner [] = Unit {0}
AllInner (s ∷ ss) = IsInner s × AllInner ss

inner_all : (ss : List MachineStep) → AllInner (inner_of ss)
inner_all [] = tt
inner_all (steps.Verb v given ∷ ss) = inner_all ss
inner_all (other ∷ ss) = (tt, inner_all ss)

inner_fits : (ss : List MachineStep) → AllInner ss → AreFitSteps ss
inner_fits [] inner = tt
inner_fits (steps.Verb v given ∷ ss) inner = absurd inner.0
inner_fits (other ∷ ss) inner = (tt, inner_fits ss inner.1)

-- the ends of inner steps that may be made are spelled
inner_named : (m : Machine) → IsFit m → (ss : List MachineStep) → AllInner ss → IsRun m ss → AreNamed ss
inner_named m fit [] inner run = tt
inner_named m fit (s ∷ ss) inner run =
    (enabled_named m fit s inner.0 run.0, inner_named (effect m s) (effect_fits m fit s (inner_fits (s ∷ []) (inner.0, tt)).0) ss inner.1 run.1)

short_behind : (ts us : List Traced) → AreShort (ts ++ us) → AreShort us
short_behind [] us short = short
short_behind (Spoken v lines ∷ ts) us short = short_behind ts us short
short_behind (Made s ∷ ts) us short = short_behind ts us short.1

short_front : (ts us : List Traced) → AreShort (ts ++ us) → AreShort ts
short_front [] us short = tt
short_front (Spoken v lines ∷ ts) us short = short_front ts us short
short_front (Made s ∷ ts) us short = (short.0, short_front ts us short.1)

-- ---- an event

-- the text of what was heard, and of inner steps, is cut into lines that say it; and the machine stays fit
record IsHeardSaid (bs : List ℕ) (m : Machine) (inner : List MachineStep) (xs : List (Verb × Answer)) : Type 0 where
  text : IsTextOf (spoken_of xs ++ map Made inner) (spoken_text bs xs ++ steps_text inner)
  fits : IsFit (after m (spoken_steps xs ++ inner))

-- .. where the steps are a run by which that is heard
abbrev Says : List ℕ → Machine → List MachineStep → List (Verb × Answer) → Type 0
Says bs m inner xs = IsRun m (spoken_steps xs ++ inner) → seen m (spoken_steps xs ++ inner) ≡ xs → AreShort (spoken_of xs ++ map Made inner) → IsHeardSaid bs m inner xs

says_if : (bs : List ℕ) (m : Machine) (inner : List MachineStep) (b : Bool) (xs ys : List (Verb × Answer)) → Says bs m inner xs → Says bs m inner ys → Says bs m inner (if b then xs else ys)
says_if bs m inner true xs ys h k = h
says_if bs m inner false xs ys h k = k

-- the answer that was heard first
abbrev answer_first : Answer → List (Verb × Answer) → Answer
answer_first a [] = a
answer_first a (x ∷ xs) = x.1

module _ (law : AreReadBack) (bs : List ℕ) (m : Machine) (fit : IsFit m) (memory : IsMemory m) (inner : List MachineStep) (is : AllInner inner) where
  none_says : Says bs m inner []
  none_says run heard short = record { text = all_made law inner (inner_named m fit inner is run) short; fits = after_fits m fit inner (inner_fits inner is) }

  one_says : (v : Verb) (a : Answer) → IsWritten bs v → Says bs m inner ((v, a) ∷ [])
  one_says v a written run heard short =
      let next : Machine = effect m (steps.Verb v (given_in a)) in
      let next_fits : IsFit next = effect_fits m fit (steps.Verb v (given_in a)) written.fits in
      let same : verb_answer m v (given_in a) ≡ a = ap (answer_first a) heard in
      let answer = subst (λ x. 1 ≤ length (answer_lines x)) same (answer_said_in law (verb_answer m v (given_in a)) (answer_fits m fit memory v (given_in a) written.called)).some in
      let each = subst (λ x. AreAnswerLines (answer_lines x)) same (answer_said_in law (verb_answer m v (given_in a)) (answer_fits m fit memory v (given_in a) written.called)).each in
      let texts : List (List ℕ) = answer_lines a in
      let one : IsTextOf (Spoken v texts ∷ []) (lang_printed.line (codes "v") written.words ++ answer_text texts) = one_spoken v written.words texts written.traced answer each in
      let text : lang_printed.line (codes "v") written.words ++ answer_text texts ≡ verb_text bs v ++ (answer_text texts ++ []) = ap (λ z. z ++ answer_text texts) (sym written.text) ∙ ap (λ z. verb_text bs v ++ z) (sym (append-nil (answer_text texts))) in
      record {
        text =
            both_texts (Spoken v texts ∷ []) (map Made inner) (verb_text bs v ++ (answer_text texts ++ [])) (steps_text inner)
            (subst (λ z. IsTextOf (Spoken v texts ∷ []) z) text one)
            (all_made law inner (inner_named next next_fits inner is run.1) short);
        fits = after_fits next next_fits inner (inner_fits inner is);
      }

  kept_says : (o : Option Verb) (a : Answer) → IsWrittenOf bs o → Says bs m inner (kept_verb o a)
  unfolding kept_verb
  kept_says None a written = none_says
  kept_says (Some v) a written = says_if bs m inner (is_unmade a) [] ((v, a) ∷ []) none_says (one_says v a written)

-- ---- a line

-- what is recorded of a line is said; the next world stands for the next machine, which is fit
record IsLineSaid (w : World) (m : Machine) (bs : List ℕ) (o : Option Happening) : Type 0 where
  text : IsTextOf (line_steps w m o) (recorded_text w m bs o)
  stands : Stands (world_past w o) (machine_past w m o)
  fits : IsFit (machine_past w m o)

memory_of : (w : World) (m : Machine) → Stands w m → IsMemory m
memory_of w m s = record { whole = λ c. (s.sound c).whole; bytes = λ c. (s.sound c).bytes }

dump_kept : (w : World) (n : List ℕ) → (happens w (script.Dump n)).world ≡ w
unfolding happens dumps
dump_kept w n = refl

event_world : (w : World) (e : WorldEvent) → (happens w (script.Event e)).world ≡ (world_step w e).world
unfolding happens
event_world w e = refl

event_said : AreReadBack → (w : World) (m : Machine) (bs : List ℕ) (e : WorldEvent) → Stands w m → IsFit m → FollowsByName w m e → IsWrittenOf bs (verb_of w e) → AreShort (line_steps w m (Some (script.Event e))) → IsLineSaid w m bs (Some (script.Event e))
event_said law w m bs e s fit f written short =
    let inner : AllInner (inner_steps w m e) = subst AllInner (named_inner w m e) (inner_all (event_steps w m e)) in
    let said = kept_says law bs m fit (memory_of w m s) (inner_steps w m e) inner (verb_of w e) (world_step w e).answer written f.is_run f.heard short in
    record {
      text = said.text;
      stands = subst (λ x. Stands x (after m (event_steps w m e))) (sym (event_world w e)) f.stands;
      fits = said.fits;
    }

no_text : steps_text [] ≡ []
unfolding steps_text
no_text = refl

line_said : AreReadBack → EventsFollowByName → (w : World) (m : Machine) (bs : List ℕ) (o : Option Happening) → Stands w m → IsFit m → IsWithinOf o → IsRecordedAt bs w o → AreShort (line_steps w m o) → IsLineSaid w m bs o
line_said law follow w m bs None s fit within at short = record { text = no_steps; stands = s; fits = fit }
line_said law follow w m bs (Some (script.Event e)) s fit within at short = event_said law w m bs e s fit (follow e w m within s) at short
line_said law follow w m bs (Some (script.Dump n)) s fit within at short = record {
  text = subst (λ z. IsTextOf [] z) (sym no_text) no_steps;
  stands = subst (λ x. Stands x m) (sym (dump_kept w n)) s;
  fits = fit;
}
line_said law follow w m bs (Some script.Settles) s fit within at short = absurd at

-- ---- all lines

-- each line is read as it says
abbrev AreRead : List Written → Type 0
AreRead [] = Unit {0}
AreRead (l ∷ ls) = (recorded_reading l.0 ≡ Ok l.1) × AreRead ls

-- what is known of lines that are read
record AreLawful : Type 0 where
  range : (bs : List ℕ) (l : Line) → reading_of bs ≡ Ok l → IsLineInRange l
  lawful : (bs : List ℕ) (l : Line) → reading_of bs ≡ Ok l → IsLawfulLine l

lines_said : AreReadBack → EventsFollowByName → AreLawful → (w : World) (m : Machine) (ls : List Written) → Stands w m → IsFit m → AreRead ls → AreShort (traced_from w m ls) → IsTextOf (traced_from w m ls) (text_from w m ls)
unfolding traced_from text_from
lines_said law follow lawful w m [] s fit read short = no_steps
lines_said law follow lawful w m (l ∷ ls) s fit read short =
    let o : Option Happening = happening_of l.1 in
    let plain : reading_of l.0 ≡ Ok l.1 = also_read l.0 l.1 read.0 in
    let w' : World = world_past w o in
    let m' : Machine = machine_past w m o in
    let one = line_said law follow w m l.0 o s fit (lawful.range l.0 l.1 plain) (line_recorded law l.0 w l.1 (lawful.lawful l.0 l.1 plain) read.0) (short_front (line_steps w m o) (traced_from w' m' ls) short) in
    both_texts (line_steps w m o) (traced_from w' m' ls) (recorded_text w m l.0 o) (text_from w' m' ls) one.text
    (lines_said law follow lawful w' m' ls one.stands one.fits read.1 (short_behind (line_steps w m o) (traced_from w' m' ls) short))

-- the lines of a script are read so
begins_read : (bs : List ℕ) (k : ℕ) (r : Result Line Offence) (rest : Result (List Written) BadLine) (ls : List Written) → recorded_reading bs ≡ r → ((xs : List Written) → rest ≡ Ok xs → AreRead xs) → begins_with bs k r rest ≡ Ok ls → AreRead ls
begins_read bs k (Err e) rest ls is later h = cc h
begins_read bs k (Ok l) (Err e) ls is later h = cc h
begins_read bs k (Ok l) (Ok xs) ls is later h =
    let same : (bs, l) ∷ xs ≡ ls = cc h in
    subst AreRead same (is, later xs refl)

all_read : (lines : List (List ℕ)) (k : ℕ) (ls : List Written) → recorded_from lines k ≡ Ok ls → AreRead ls
all_read [] k ls h = let same : [] ≡ ls = cc h in subst AreRead same tt
all_read (bs ∷ more) k ls h = begins_read bs k (recorded_reading bs) (recorded_from more (k + 1)) ls refl (all_read more (k + 1)) h

script_read : (script : List ℕ) (ls : List Written) → recorded_of script ≡ Ok ls → AreRead ls
unfolding recorded_of
script_read script ls h = all_read (lines_of script) 1 ls h

-- ---- the whole

end_traced : traced_reading (codes "end") ≡ Ok trace_lines.End
unfolding traced_reading trace_line leader_of bytes_offence words_from a_word the_end
end_traced = refl

whole_trace : (ts : List Traced) (text : List ℕ) → IsTextOf ts text → IsTrace (text ++ last_line) ts
whole_trace ts text is = record {
  lines = is.lines ++ codes "end" ∷ [];
  cut = is.cut last_line ∙ sym (append_assoc is.lines (codes "end" ∷ []) ([] ∷ []));
  say = subst (λ z. AreLinesOf z (is.lines ++ codes "end" ∷ [])) (append-nil ts) (is.say [] (codes "end" ∷ []) (codes "end", refl, end_traced));
}

empty_fits : IsFit empty
empty_fits = record { contexts = All-nil IsFitContext }

-- what is known of printed words, of lines and of the machine
pub record AreLaws : Type 0 where
  pub words : AreReadBack
  pub range : (bs : List ℕ) (l : Line) → reading_of bs ≡ Ok l → IsLineInRange l
  pub lawful : (bs : List ℕ) (l : Line) → reading_of bs ≡ Ok l → IsLawfulLine l
  pub start : Stands empty_world empty
  pub follow : EventsFollowByName
  pub traces : TracesAreRead

pub records_are_said : AreLaws → RecordsAreSaid
records_are_said laws script ls read short =
    (laws.traces (trace_text ls) (traced_of ls)).1
    (whole_trace (traced_of ls) (text_from empty_world empty ls)
    (lines_said laws.words laws.follow (record { range = laws.range; lawful = laws.lawful }) empty_world empty ls laws.start empty_fits (script_read script ls read) short))
