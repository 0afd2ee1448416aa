-- The command `threads`: its words, and the line that it writes (this project's choice).
use Rattle.std.specs.Prelude.{◌≡◌, ℕ, Bool, List, [], ◌∷◌, ◌++◌, Option, Some, None, bytes_eq, codes, if◌then◌else◌}
use Rattle.std.specs.Fmt.{decimal}
use Rattle.script_lang.specs.Texts.{◌>>=◌, number_in}
use Rattle.run_check.specs.declared.run.Run.{Run}
use Rattle.thread_plan.specs.declared.plan.ThreadPlan.{ThreadPlan}
use Rattle.thread_plan.specs.Planned.{IsRunByThreads}
use Rattle.tools.specs.ThreadEndings.{EndsRun}

-- 1 to 8 workers, 1 to 2,000 additions of each, at most 8 moves
abbrev pub plan_of : List ℕ → List ℕ → List ℕ → Option ThreadPlan
plan_of workers adds moves = do
  w ← number_in 1 8 workers
  a ← number_in 1 2000 adds
  m ← number_in 0 8 moves
  Some (record { workers = w; adds = a; moves = m })

-- the plan of the words, if they are those of `threads`
abbrev pub threads_of : List (List ℕ) → Option ThreadPlan
threads_of (word ∷ workers ∷ adds ∷ moves ∷ []) = if bytes_eq word (codes "threads") then plan_of workers adds moves else None
threads_of other = None

-- whose run it is: the caller's own, or that of the threads
abbrev pub whose : Bool → List ℕ
whose alone = if alone then codes "caller\n" else codes "threads\n"

-- `threads workers W adds A moves M word X completions C by T`
abbrev pub threads_line : ThreadPlan → Run → List ℕ
threads_line plan run =
    codes "threads workers " ++ decimal plan.workers
    ++ codes " adds " ++ decimal plan.adds
    ++ codes " moves " ++ decimal plan.moves
    ++ codes " word " ++ decimal run.word
    ++ codes " completions " ++ decimal run.completions
    ++ codes " by " ++ whose run.alone

-- the line of a run that is as planned
pub record IsThreadsText (plan : ThreadPlan) (text : List ℕ) : Type 0 where
  pub run : Run
  pub planned : IsRunByThreads plan run
  pub says : text ≡ threads_line plan run

-- how a run of the command ends
abbrev pub EndsThreads : ThreadPlan → Option (List ℕ) → Option (List ℕ) → ℕ → ℕ → ℕ → Type 0
EndsThreads plan = EndsRun (IsThreadsText plan)
