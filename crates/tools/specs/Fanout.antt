-- The command `fanout`: its words, and the line that it writes (this project's choice).
use Rattle.std.specs.Prelude.{◌≡◌, ℕ, List, [], ◌∷◌, ◌++◌, Option, Some, None, bytes_eq, codes, if◌then◌else◌, length, flat_map}
use Rattle.std.specs.Fmt.{decimal}
use Rattle.script_lang.specs.Texts.{◌>>=◌, number_in}
use Rattle.completion_fanout.specs.declared.entry.FanEntry.{FanEntry}
use Rattle.completion_fanout.specs.declared.plan.FanPlan.{FanPlan}
use Rattle.completion_fanout.specs.declared.running.FannedRun.{FannedRun}
use Rattle.completion_fanout.specs.HandedOut.{IsFannedRun}
use Rattle.tools.specs.ThreadEndings.{EndsRun}
use Rattle.tools.specs.Threads.{threads_of, whose}

-- 1 to 4 consumers, 1 to 10,000 additions, and a queue of 1 to 1,024 places
abbrev pub fan_plan_of : List ℕ → List ℕ → List ℕ → Option FanPlan
fan_plan_of consumers adds capacity = do
  c ← number_in 1 4 consumers
  a ← number_in 1 10000 adds
  p ← number_in 1 1024 capacity
  Some (record { consumers = c; adds = a; capacity = p })

-- the plan of the words, if they are those of `fanout`
abbrev pub fanout_of : List (List ℕ) → Option FanPlan
fanout_of (word ∷ consumers ∷ adds ∷ capacity ∷ []) = if bytes_eq word (codes "fanout") then fan_plan_of consumers adds capacity else None
fanout_of other = None

-- how many entries stand in some lists
abbrev pub entries_in : List (List FanEntry) → ℕ
entries_in lists = length (flat_map (λ es. es) lists)

-- `fanout consumers C adds A drained D taken T left L by W`
abbrev pub fanout_line : FanPlan → FannedRun → List ℕ
fanout_line plan f =
    codes "fanout consumers " ++ decimal plan.consumers
    ++ codes " adds " ++ decimal plan.adds
    ++ codes " drained " ++ decimal (length f.drained)
    ++ codes " taken " ++ decimal (entries_in f.taken)
    ++ codes " left " ++ decimal (length f.left)
    ++ codes " by " ++ whose f.run.alone

-- the line of completions that were handed out, in a run that is as planned
pub record IsFanoutText (plan : FanPlan) (text : List ℕ) : Type 0 where
  pub fanned : FannedRun
  pub handed : IsFannedRun plan fanned
  pub says : text ≡ fanout_line plan fanned

-- how a run of the command ends
abbrev pub EndsFanout : FanPlan → Option (List ℕ) → Option (List ℕ) → ℕ → ℕ → ℕ → Type 0
EndsFanout plan = EndsRun (IsFanoutText plan)

-- ---- both commands

-- the words are of no command that runs threads
abbrev pub AreOthers : List (List ℕ) → Type 0
AreOthers words = (threads_of words ≡ None) × (fanout_of words ≡ None)
