-- The caller's own run of two workers that add once each, while b moves once.
use Rattle.std.specs.Prelude.{List, [], ◌∷◌, ◌++◌, map, true}
use Rattle.order_rules.specs.declared.Receipt.{Receipt}
use Rattle.order_rules.specs.Lines.{Line}
use Rattle.run_check.specs.declared.run.Run.{Run}
use Rattle.thread_plan.specs.declared.plan.ThreadPlan.{ThreadPlan}
use Rattle.example_rules.specs.Alone.{entries, first_poll, first_worker, move, second_poll, second_worker}

-- two workers add once each, and b moves once
abbrev pub plan : ThreadPlan
plan = record { workers = 2; adds = 1; moves = 1 }

-- the receipts of lines
abbrev pub receipts_of : List Line → List Receipt
receipts_of ls = map (λ l. l.receipt) ls

-- number 0 polls, and moves b
abbrev pub run : Run
run = record {
  order = entries;
  receipts = receipts_of (first_poll ++ second_poll ++ move) ∷ receipts_of first_worker ∷ receipts_of second_worker ∷ [];
  word = 2;
  completions = 2;
  alone = true;
}
