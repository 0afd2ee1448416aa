-- The lines of a trace as they are written: a verb as its line in a script, the lines of its answer, and an inner step (this
-- project's choice).
use Rattle.std.specs.Prelude.{ℕ, ◌+◌, ◌&&◌, Bool, true, false, List, [], ◌∷◌, ◌++◌, map, nat_le, if◌then◌else◌, codes}
use Rattle.std.specs.Fmt.{decimal}
use Rattle.rdma_types.specs.declared.answers.Answer.{Answer}
use Rattle.rdma_types.specs.declared.verbs.Verb.{Verb}
use Rattle.rdma_types.specs.declared.verbs.Verb.TheVariants as verbs
use Rattle.packetless_machine.specs.declared.steps.MachineStep.{MachineStep}
use Rattle.packetless_machine.specs.declared.steps.MachineStep.TheVariants as steps
use Rattle.script_lang.specs.Printed.{ended, line, object_text, printed, why_text}
use Rattle.script_lang.specs.Scripts.{ended_lines}
use Rattle.script_lang.specs.Words.{Word, words_from}

-- ---- verbs

-- the digits A to F in lower case
abbrev pub lower : ℕ → ℕ
lower b = if nat_le 65 b && nat_le b 70 then b + 32 else b

-- words with these digits in lower case
abbrev pub lowered : List Word → List (List ℕ)
lowered [] = []
lowered (w ∷ ws) = map lower w.text ∷ lowered ws

-- whether its device is made
abbrev pub made_text : Bool → List ℕ
made_text true = codes "made"
made_text false = codes "none"

-- a verb as its line is written, with one space between two words; of a context its name and whether its device is made
abbrev pub verb_text : List ℕ → Verb → List ℕ
verb_text bs (verbs.Context name made) = line (codes "v") (codes "context" ∷ name ∷ made_text made ∷ [])
verb_text bs other = line (codes "v") (lowered (words_from 1 bs))

-- ---- answers

-- the lines that an answer is printed as, without their newlines
abbrev pub answer_lines : Answer → List (List ℕ)
answer_lines a = ended_lines (printed a)

-- each line behind `=` and a space
unfoldable pub answer_text : List (List ℕ) → List ℕ
answer_text [] = []
answer_text (l ∷ ls) = codes "= " ++ (l ++ (10 ∷ answer_text ls))

-- ---- inner steps

-- the words of an inner step
unfoldable pub step_words : MachineStep → List (List ℕ)
step_words (steps.Verb verb given) = []
step_words (steps.Run q n) = codes "run" ∷ object_text q ∷ decimal n ∷ []
step_words (steps.Atom q) = codes "atom" ∷ object_text q ∷ []
step_words (steps.ReadTurn q) = codes "turn" ∷ object_text q ∷ []
step_words (steps.Refuse q because) = codes "refuse" ∷ object_text q ∷ why_text because ∷ []
step_words (steps.Dry q) = codes "dry" ∷ object_text q ∷ []
step_words (steps.Offer q i off n) = codes "offer" ∷ object_text q ∷ decimal i ∷ decimal off ∷ decimal n ∷ []
step_words (steps.Land q o) = codes "land" ∷ object_text q ∷ decimal o ∷ []
step_words (steps.Known q bytes) = codes "known" ∷ object_text q ∷ decimal bytes ∷ []
step_words (steps.Tell q) = codes "tell" ∷ object_text q ∷ []
step_words (steps.Expire q) = codes "expire" ∷ object_text q ∷ []
step_words (steps.Wait q) = codes "wait" ∷ object_text q ∷ []
step_words (steps.Bounce q) = codes "bounce" ∷ object_text q ∷ []

-- the line of an inner step
abbrev pub step_text : MachineStep → List ℕ
step_text s = line (codes "i") (step_words s)

-- a line for each inner step
unfoldable pub steps_text : List MachineStep → List ℕ
steps_text [] = []
steps_text (s ∷ ss) = step_text s ++ steps_text ss
