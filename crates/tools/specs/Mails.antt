-- The command `mail`: its words, and how it ends (this project's choice).
use Rattle.std.specs.Prelude.{◌≡◌, ◌⊎◌, ◌≤◌, ℕ, List, [], ◌∷◌, Option, Some, None, bytes_eq, codes, if◌then◌else◌}
use Rattle.std.specs.Fmt.{decimal}
use Rattle.script_lang.specs.Texts.{◌>>=◌, number_in}
use Rattle.workload_gen.specs.Lines.{line}
use Rattle.tools.specs.Endings.{EndsBy, done, no_memory}
use Rattle.mailbox_rules.specs.declared.plans.MailPlan.{MailPlan}
use Rattle.mailbox_rules.specs.Command.{mail_line}

-- 1 to 8 senders, 1 to 500 letters, at most 16 moves
pub record IsPlan (plan : MailPlan) : Type 0 where
  pub peers : (1 ≤ plan.peers) × (plan.peers ≤ 8)
  pub letters : (1 ≤ plan.letters) × (plan.letters ≤ 500)
  pub moves : plan.moves ≤ 16

-- a seed of 64 bits, and these
abbrev pub plan_of : List ℕ → List ℕ → List ℕ → List ℕ → Option MailPlan
plan_of seed peers letters moves = do
  s ← number_in 0 18446744073709551615 seed
  p ← number_in 1 8 peers
  l ← number_in 1 500 letters
  m ← number_in 0 16 moves
  Some (record { seed = s; peers = p; letters = l; moves = m })

-- the plan of the words, if they are those of `mail`
abbrev pub mail_of : List (List ℕ) → Option MailPlan
mail_of (word ∷ seed ∷ peers ∷ letters ∷ moves ∷ []) = if bytes_eq word (codes "mail") then plan_of seed peers letters moves else None
mail_of other = None

-- `mail letters L moves M taken T`
abbrev pub line_with : MailPlan → ℕ → ℕ → List ℕ
line_with plan sent taken = line (codes "mail") (codes "letters" ∷ decimal sent ∷ codes "moves" ∷ decimal plan.moves ∷ codes "taken" ∷ decimal taken ∷ [])

-- ---- how the command ends

-- what is written under a status: the line of the plan, by the rules of letters
abbrev pub IsTextOf : MailPlan → ℕ → List ℕ → Type 0
IsTextOf plan status text =
    ((status ≡ done) × (text ≡ mail_line plan))
    ⊎ ((status ≡ no_memory) × (text ≡ codes "out of memory\n"))

-- how a run of the command ends
abbrev pub EndsMail : MailPlan → Option (List ℕ) → Option (List ℕ) → ℕ → ℕ → ℕ → Type 0
EndsMail plan = EndsBy (IsTextOf plan)
