use Rattle.std.proofs.Common.{arith, ◌≡◌, ℕ, zero, suc, ◌<◌, List, [], ◌∷◌, refl, ap, subst, sym}
use Rattle.std.specs.Prelude.{slice_get, Some}
use Rattle.order_rules.specs.declared.Receipt.{Receipt}
use Rattle.order_rules.specs.Bridge.{IsWork}
use Rattle.order_rules.specs.Evaluate.{opened}
use Rattle.order_rules.specs.Lines.{Line, held_by}
use Rattle.run_check.specs.Gathered.{completions_in, drained_by, word_or}
use Rattle.thread_plan.specs.Planned.{AreCompleted, AreWorking, IsDone, IsWorking, accepted_in, additions, adds_of, completed, tally}
use Rattle.example_rules.specs.Alone.{lines}
use Rattle.example_threads.specs.Planned.{plan, run}
use Rattle.example_threads.proofs.Small.{some_is}
use Rattle.example_threads.proofs.alone_is_planned.Goals as goal

-- ---- receipts

each_list : (worker : ℕ) (held : List Receipt) → slice_get run.receipts worker ≡ Some held → held ≡ held_by worker lines
unfolding opened
each_list zero held h = cc
each_list (suc zero) held h = cc
each_list (suc (suc zero)) held h = cc
each_list (suc (suc (suc k))) held h = cc

in_lists : (k : ℕ) (l : Line) → slice_get lines k ≡ Some l → l.receipt.worker < 3
in_lists zero l h = let same : 1 ≡ l.receipt.worker = ap (λ x. x.receipt.worker) (some_is h) in omega (arith, same)
in_lists (suc zero) l h = let same : 1 ≡ l.receipt.worker = ap (λ x. x.receipt.worker) (some_is h) in omega (arith, same)
in_lists (suc (suc zero)) l h = let same : 1 ≡ l.receipt.worker = ap (λ x. x.receipt.worker) (some_is h) in omega (arith, same)
in_lists (suc (suc (suc zero))) l h = let same : 1 ≡ l.receipt.worker = ap (λ x. x.receipt.worker) (some_is h) in omega (arith, same)
in_lists (suc (suc (suc (suc zero)))) l h = let same : 0 ≡ l.receipt.worker = ap (λ x. x.receipt.worker) (some_is h) in omega (arith, same)
in_lists (suc (suc (suc (suc (suc zero))))) l h = let same : 2 ≡ l.receipt.worker = ap (λ x. x.receipt.worker) (some_is h) in omega (arith, same)
in_lists (suc (suc (suc (suc (suc (suc zero)))))) l h = let same : 2 ≡ l.receipt.worker = ap (λ x. x.receipt.worker) (some_is h) in omega (arith, same)
in_lists (suc (suc (suc (suc (suc (suc (suc zero))))))) l h = let same : 2 ≡ l.receipt.worker = ap (λ x. x.receipt.worker) (some_is h) in omega (arith, same)
in_lists (suc (suc (suc (suc (suc (suc (suc (suc zero)))))))) l h = let same : 2 ≡ l.receipt.worker = ap (λ x. x.receipt.worker) (some_is h) in omega (arith, same)
in_lists (suc (suc (suc (suc (suc (suc (suc (suc (suc zero))))))))) l h = let same : 0 ≡ l.receipt.worker = ap (λ x. x.receipt.worker) (some_is h) in omega (arith, same)
in_lists (suc (suc (suc (suc (suc (suc (suc (suc (suc (suc zero)))))))))) l h = let same : 0 ≡ l.receipt.worker = ap (λ x. x.receipt.worker) (some_is h) in omega (arith, same)
in_lists (suc (suc (suc (suc (suc (suc (suc (suc (suc (suc (suc zero))))))))))) l h = let same : 0 ≡ l.receipt.worker = ap (λ x. x.receipt.worker) (some_is h) in omega (arith, same)
in_lists (suc (suc (suc (suc (suc (suc (suc (suc (suc (suc (suc (suc k)))))))))))) l h = cc

-- ---- what was done

-- a fact of each receipt
abbrev Each : List Receipt → Type 0
Each [] = Unit {0}
Each (r ∷ rs) = IsWorking r × Each rs

each_at : (rs : List Receipt) → Each rs → (k : ℕ) (r : Receipt) → slice_get rs k ≡ Some r → IsWorking r
each_at [] e k r h = cc
each_at (x ∷ rs) e zero r h = let same : x ≡ r = cc in subst IsWorking same e.0
each_at (x ∷ rs) e (suc k) r h = each_at rs e.1 k r h

module _ (w : IsWork 2 lines) where
  of_line : (k : ℕ) (l : Line) → slice_get lines k ≡ Some l → IsWorking l.receipt
  of_line k l h = (w.work k l h, w.askable k l h)

  working_list : (worker : ℕ) (held : List Receipt) → slice_get run.receipts worker ≡ Some held → Each held
  working_list zero held h = subst Each (some_is h) (of_line 4 _ refl, (of_line 9 _ refl, (of_line 10 _ refl, (of_line 11 _ refl, tt))))
  working_list (suc zero) held h = subst Each (some_is h) (of_line 0 _ refl, (of_line 1 _ refl, (of_line 2 _ refl, (of_line 3 _ refl, tt))))
  working_list (suc (suc zero)) held h = subst Each (some_is h) (of_line 5 _ refl, (of_line 6 _ refl, (of_line 7 _ refl, (of_line 8 _ refl, tt))))
  working_list (suc (suc (suc k))) held h = cc

  working : AreWorking run.receipts
  working worker held k r h j = each_at held (working_list worker held h) k r j

added : (w : ℕ) (held : List Receipt) → slice_get run.receipts w ≡ Some held → accepted_in held ≡ additions w 1 (adds_of plan w)
unfolding additions
added zero held h = ap accepted_in (sym (some_is h))
added (suc zero) held h = ap accepted_in (sym (some_is h))
added (suc (suc zero)) held h = ap accepted_in (sym (some_is h))
added (suc (suc (suc k))) held h = cc

completed_once : AreCompleted plan run.receipts
unfolding completed drained_by opened
completed_once zero j a b c d = absurd (omega (arith, a))
completed_once (suc i) zero a b c d = absurd (omega (arith, c))
completed_once (suc i) (suc (suc j)) a b c d = absurd (omega (arith, d))
completed_once (suc zero) (suc zero) a b c d = refl
completed_once (suc (suc zero)) (suc zero) a b c d = refl
completed_once (suc (suc (suc i))) (suc zero) a b c d = absurd (omega (arith, b))

done : IsWork 2 lines → IsDone plan run.receipts
unfolding tally
done w = record { working = working w; many = record { accepted = refl; stops = refl; restores = refl }; added = added; completed_once = completed_once }

pub returns : goal.returns
unfolding opened word_or completions_in drained_by
returns c = record {
  lines = lines;
  work = c.alone_is_fair.ensures.work;
  one_sided = c.alone_is_fair.ensures.fair.one_sided;
  legal = c.fair_orders_are_legal.ensures 2 lines (omega arith) (omega arith) c.alone_is_fair.ensures.fair;
  accepted = refl;
  entries_are = refl;
  lists = refl;
  held = record { each_list = each_list; all = in_lists };
  done = done c.alone_is_fair.ensures.work;
  word_is = refl;
  completions_are = refl;
  word = refl;
  completions = refl;
  whose = refl;
}
