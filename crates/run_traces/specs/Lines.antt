-- What a line of a trace says by itself: a verb, an inner step, or the end (this project's choice).
use Rattle.std.specs.Prelude.{ℕ, Bool, true, false, List, [], ◌∷◌, Option, Some, None, Result, if◌then◌else◌, bytes_eq, codes}
use Rattle.std.specs.Map.{lookup}
use Rattle.rdma_types.specs.declared.answers.RefusalReason.{RefusalReason}
use Rattle.rdma_types.specs.declared.answers.RefusalReason.TheVariants as whys
use Rattle.rdma_types.specs.declared.names.ObjName.{ObjName}
use Rattle.rdma_types.specs.declared.verbs.Verb.{Verb}
use Rattle.rdma_types.specs.declared.verbs.Verb.TheVariants as verb
use Rattle.packetless_machine.specs.declared.steps.MachineStep.{MachineStep}
use Rattle.packetless_machine.specs.declared.steps.MachineStep.TheVariants as steps
use Rattle.script_lang.specs.declared.forms.VerbForm.{VerbForm}
use Rattle.script_lang.specs.declared.lines.LineWhy.TheVariants as why
use Rattle.script_lang.specs.declared.lines.Offence.{Offence}
use Rattle.script_lang.specs.Fields.{a_name, an_object, a_short, some_terms}
use Rattle.script_lang.specs.Lines.{bytes_offence, said, unless, whole}
use Rattle.script_lang.specs.Verbs.{verb_form, verb_line}
use Rattle.script_lang.specs.Words.{Reads, ◌>>=◌, done, a_field, input_of}
use Rattle.run_traces.specs.declared.trace_audit.lines.LineStart.{LineStart}
use Rattle.run_traces.specs.declared.trace_audit.lines.LineStart.TheVariants as leads
use Rattle.run_traces.specs.declared.trace_audit.lines.VerbLineForm.{VerbLineForm}
use Rattle.run_traces.specs.declared.trace_audit.lines.VerbLineForm.TheVariants as spoken
use Rattle.run_traces.specs.declared.trace_audit.lines.StepForm.{StepForm}
use Rattle.run_traces.specs.declared.trace_audit.lines.StepForm.TheVariants as form
use Rattle.run_traces.specs.declared.trace_audit.lines.TraceLine.{TraceLine}
use Rattle.run_traces.specs.declared.trace_audit.lines.TraceLine.TheVariants as line

-- ---- verbs

-- the verb that scripts share, or else another one
abbrev pub spoken_or : Option VerbForm → Option VerbLineForm → Option VerbLineForm
spoken_or (Some v) other = Some (spoken.Shared v)
spoken_or None other = other

-- the verb that a word names
unfoldable pub spoken_form : List ℕ → Option VerbLineForm
spoken_form w = spoken_or (verb_form w) (lookup (λ text. bytes_eq w text) ((codes "context", spoken.Context) ∷ (codes "connect", spoken.Connect) ∷ []))

-- whether the device of a context is made: `made` or `none`
unfoldable pub made_of : List ℕ → Option Bool
made_of text = if bytes_eq text (codes "made") then Some true else if bytes_eq text (codes "none") then Some false else None

-- `context` N `made`, or `context` N `none`
unfoldable pub context_verb : Reads Verb
context_verb = do
  name ← a_name
  made ← a_field made_of why.BadOption
  done (verb.Context name made)

-- `connect` O O `mtu` m `psn` x y `retry` r `rnr` w `reads` n
unfoldable pub connect_verb : Reads Verb
connect_verb = do
  one ← an_object
  two ← an_object
  terms ← some_terms
  done (verb.Connect one two terms)

-- what the words behind the verb's say
abbrev pub spoken_verb : VerbLineForm → Reads Verb
spoken_verb (spoken.Shared form) = verb_line form
spoken_verb spoken.Context = context_verb
spoken_verb spoken.Connect = connect_verb

-- ---- inner steps

-- their words
abbrev pub step_words : List (List ℕ × StepForm)
step_words =
    (codes "run", form.Run)
    ∷ (codes "atom", form.Atom)
    ∷ (codes "turn", form.ReadTurn)
    ∷ (codes "refuse", form.Refuse)
    ∷ (codes "dry", form.Dry)
    ∷ (codes "offer", form.Offer)
    ∷ (codes "land", form.Land)
    ∷ (codes "known", form.Known)
    ∷ (codes "tell", form.Tell)
    ∷ (codes "expire", form.Expire)
    ∷ (codes "wait", form.Wait)
    ∷ (codes "bounce", form.Bounce)
    ∷ []

-- the inner step that a word names
unfoldable pub step_form : List ℕ → Option StepForm
step_form w = lookup (λ text. bytes_eq w text) step_words

-- why a request is refused
unfoldable pub why_of : List ℕ → Option RefusalReason
why_of w = lookup (λ text. bytes_eq w text) ((codes "invalid", whys.Invalid) ∷ (codes "access", whys.Access) ∷ (codes "length", whys.Length) ∷ [])

-- a step of an end alone
abbrev pub end_step : (ObjName → MachineStep) → Reads MachineStep
end_step says = do
  q ← an_object
  done (says q)

-- a step of an end with a number of 32 bits
abbrev pub number_step : (ObjName → ℕ → MachineStep) → Reads MachineStep
number_step says = do
  q ← an_object
  n ← a_short
  done (says q n)

-- `refuse` O why
unfoldable pub refuse_step : Reads MachineStep
refuse_step = do
  q ← an_object
  because ← a_field why_of why.BadOption
  done (steps.Refuse q because)

-- `offer` O request offset length
unfoldable pub offer_step : Reads MachineStep
offer_step = do
  q ← an_object
  i ← a_short
  off ← a_short
  n ← a_short
  done (steps.Offer q i off n)

-- what the words behind the step's say
unfoldable pub inner_step : StepForm → Reads MachineStep
inner_step form.Run = number_step steps.Run
inner_step form.Atom = end_step steps.Atom
inner_step form.ReadTurn = end_step steps.ReadTurn
inner_step form.Refuse = refuse_step
inner_step form.Dry = end_step steps.Dry
inner_step form.Offer = offer_step
inner_step form.Land = number_step steps.Land
inner_step form.Known = number_step steps.Known
inner_step form.Tell = end_step steps.Tell
inner_step form.Expire = end_step steps.Expire
inner_step form.Wait = end_step steps.Wait
inner_step form.Bounce = end_step steps.Bounce

-- ---- all lines but those of answers

-- `v`, `i` and `end`
unfoldable pub leader_of : List ℕ → Option LineStart
leader_of w = lookup (λ text. bytes_eq w text) ((codes "v", leads.Verb) ∷ (codes "i", leads.Step) ∷ (codes "end", leads.End) ∷ [])

-- `v` and a verb
unfoldable pub verb_words : Reads TraceLine
verb_words = do
  form ← a_field spoken_form why.Word
  said ← spoken_verb form
  done (line.Verb said)

-- `i` and an inner step
unfoldable pub step_line : Reads TraceLine
step_line = do
  form ← a_field step_form why.Word
  step ← inner_step form
  done (line.Step step)

-- what the words behind the first say
abbrev pub led : LineStart → Reads TraceLine
led leads.Verb = verb_words
led leads.Step = step_line
led leads.End = done line.End

-- what the words of a line say
unfoldable pub trace_line : Reads TraceLine
trace_line = do
  leader ← a_field leader_of why.Word
  led leader

-- what a line of a trace says, or its first offence
unfoldable pub traced_reading : List ℕ → Result TraceLine Offence
traced_reading bs = unless (bytes_offence bs) (said (whole trace_line (input_of bs)))
