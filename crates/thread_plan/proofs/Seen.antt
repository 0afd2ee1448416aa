-- A pass over the receipts, one receipt or one list after the other.
use Rattle.std.proofs.Common.{arith, ◌≡◌, ℕ, ◌+◌, ◌-◌, ◌<◌, ◌≤◌, Bool, cond, List, [], ◌∷◌, ◌++◌, length, take, slice_get, get_or, Some, inl, inr, refl, ap, sym, subst, ◌∙◌, append_assoc}
use Rattle.std.specs.Prelude.{count_by}
use Rattle.std.proofs.lemmas.List.{append-nil, length-take-le, take_more}
use Rattle.std.proofs.lemmas.List.Sums.{sum_by-append}
use Rattle.std.proofs.Math.Seq.{take-length}
use Rattle.order_rules.specs.declared.Receipt.{Receipt}
use Rattle.order_rules.proofs.Lists.{get_push}
use Rattle.run_check.specs.Gathered.{drained_by, polled}
use Rattle.thread_plan.specs.declared.findings.Findings.{Findings}
use Rattle.thread_plan.specs.declared.plan.ThreadPlan.{ThreadPlan}
use Rattle.thread_plan.specs.declared.tallies.Tallies.{Tallies}
use Rattle.thread_plan.specs.Planned.{IsDone, IsWorking, accepted_in, additions, adds_of, completed, completes, is_accepted, restores_b, stops_b, tally}
use Rattle.thread_plan.specs.Tables.{AreOnes, number_at}
use Rattle.thread_plan.specs.Seen.{AreAllSeen, AreSeen, AreTallied, HasAll, IsNothing, IsSeen}
use Rattle.thread_plan.proofs.Counting.{accepted_none, accepted_push, tally_none, tally_push}
use Rattle.thread_plan.proofs.Tables.{raised_both, raised_none, table_at, zeros_at}

-- ---- tallies that rise

-- by nothing
tallied_none : (by : (Receipt → Bool) → ℕ) (t : Tallies) → ((test : Receipt → Bool) → by test ≡ 0) → AreTallied by t t
tallied_none by t none =
    let a = none is_accepted in
    let s = none stops_b in
    let r = none restores_b in
    record { accepted = omega (arith, a); stopped = omega (arith, s); restored = omega (arith, r) }

-- twice
tallied_both : (f g h : (Receipt → Bool) → ℕ) (a b c : Tallies) → AreTallied f a b → AreTallied g b c → ((test : Receipt → Bool) → h test ≡ f test + g test) → AreTallied h a c
tallied_both f g h a b c one two sums =
    let x = sums is_accepted in
    let y = sums stops_b in
    let z = sums restores_b in
    record {
      accepted = omega (arith, x, one.accepted, two.accepted);
      stopped = omega (arith, y, one.stopped, two.stopped);
      restored = omega (arith, z, one.restored, two.restored);
    }

-- ---- one receipt more

drained_push : (rs : List Receipt) (r : Receipt) → drained_by (rs ++ r ∷ []) ≡ drained_by rs ++ polled r.outcome.answer
unfolding drained_by
drained_push [] r = append-nil (polled r.outcome.answer)
drained_push (x ∷ rs) r = ap (λ y. polled x.outcome.answer ++ y) (drained_push rs r) ∙ sym (append_assoc (polled x.outcome.answer) (drained_by rs) (polled r.outcome.answer))

pub seen_none : (worker : ℕ) (f : Findings) → AreSeen worker 0 [] f f
unfolding drained_by
seen_none worker f = record {
  working = λ k r at. absurd cc;
  added = accepted_none worker;
  tallied = tallied_none (λ test. count_by test []) f.tallies (λ test. refl);
  noted = raised_none (λ i j. count_by (completes i j) []) f.tables.items (λ i j. refl);
}

seen_push : (worker made next : ℕ) (rs : List Receipt) (r : Receipt) (a b c : Findings) → AreSeen worker made rs a b → IsSeen worker made r next b c → AreSeen worker next (rs ++ r ∷ []) a c
seen_push worker made next rs r a b c so one = record {
  working = λ k x at. elim (get_push rs r k x at) [ inl before ↦ so.working k x before.1 | inr last ↦ subst IsWorking (sym last.1) one.working ];
  added = accepted_push worker made next rs r (is_accepted r) refl one.added so.added;
  tallied = tallied_both (λ test. count_by test rs) (λ test. count_by test (r ∷ [])) (λ test. count_by test (rs ++ r ∷ [])) a.tallies b.tallies c.tallies so.tallied one.tallied (λ test. sum_by-append (λ x. cond (test x) 1 0) rs (r ∷ []));
  noted = raised_both (λ i j. count_by (completes i j) (drained_by rs)) (λ i j. count_by (completes i j) (polled r.outcome.answer)) (λ i j. count_by (completes i j) (drained_by (rs ++ r ∷ []))) a.tables.items b.tables.items c.tables.items so.noted one.noted
      (λ i j. ap (count_by (completes i j)) (drained_push rs r) ∙ sum_by-append (λ x. cond (completes i j x) 1 0) (drained_by rs) (polled r.outcome.answer));
}

pub seen_more : (worker made next n : ℕ) (rs : List Receipt) (r : Receipt) (a b c : Findings) → n < length rs → r ≡ get_or rs n r → AreSeen worker made (take n rs) a b → IsSeen worker made r next b c → AreSeen worker next (take (n + 1) rs) a c
seen_more worker made next n rs r a b c h at so one =
    subst (λ xs. AreSeen worker next xs a c) (sym (take_more rs n r h ∙ ap (λ x. take n rs ++ x ∷ []) (sym at))) (seen_push worker made next (take n rs) r a b c so one)

pub seen_whole : (worker made n : ℕ) (rs : List Receipt) (a b : Findings) → n ≡ length rs → AreSeen worker made (take n rs) a b → AreSeen worker made rs a b
seen_whole worker made n rs a b is so = subst (λ xs. AreSeen worker made xs a b) (ap (λ m. take m rs) is ∙ take-length rs) so

-- ---- the receipts of one worker more

completed_push : (i j : ℕ) (lists : List (List Receipt)) (held : List Receipt) → completed i j (lists ++ held ∷ []) ≡ completed i j lists + count_by (completes i j) (drained_by held)
unfolding completed
completed_push i j [] held = omega arith
completed_push i j (x ∷ lists) held = let more = completed_push i j lists held in omega (arith, more)

pub all_seen_none : (plan : ThreadPlan) (f : Findings) → AreAllSeen plan [] f f
unfolding completed
all_seen_none plan f = record {
  working = λ w held k r at in_it. absurd cc;
  added = λ w held at. absurd cc;
  tallied = tallied_none (λ test. tally test []) f.tallies tally_none;
  noted = raised_none (λ i j. completed i j []) f.tables.items (λ i j. refl);
}

all_seen_push : (plan : ThreadPlan) (w : ℕ) (lists : List (List Receipt)) (held : List Receipt) (a b c : Findings) → w ≡ length lists → AreAllSeen plan lists a b → AreSeen w (adds_of plan w) held b c → AreAllSeen plan (lists ++ held ∷ []) a c
all_seen_push plan w lists held a b c is so one = record {
  working = λ v x k r at in_it. elim (get_push lists held v x at) [ inl before ↦ so.working v x k r before.1 in_it | inr last ↦ one.working k r (ap (λ l. slice_get l k) (sym last.1) ∙ in_it) ];
  added = λ v x at. elim (get_push lists held v x at) [
    | inl before ↦ so.added v x before.1
    | inr last ↦ ap accepted_in last.1 ∙ (one.added ∙ ap (λ u. additions u 1 (adds_of plan u)) (is ∙ sym last.0))
  ];
  tallied = tallied_both (λ test. tally test lists) (λ test. count_by test held) (λ test. tally test (lists ++ held ∷ [])) a.tallies b.tallies c.tallies so.tallied one.tallied (λ test. tally_push test lists held);
  noted = raised_both (λ i j. completed i j lists) (λ i j. count_by (completes i j) (drained_by held)) (λ i j. completed i j (lists ++ held ∷ [])) a.tables.items b.tables.items c.tables.items so.noted one.noted (λ i j. completed_push i j lists held);
}

pub all_seen_more : (plan : ThreadPlan) (n : ℕ) (lists : List (List Receipt)) (held : List Receipt) (a b c : Findings) → n < length lists → held ≡ get_or lists n held → AreAllSeen plan (take n lists) a b → AreSeen n (adds_of plan n) held b c → AreAllSeen plan (take (n + 1) lists) a c
all_seen_more plan n lists held a b c h at so one =
    let count : n ≡ length (take n lists) = sym (length-take-le n lists (omega (arith, h))) in
    subst (λ xs. AreAllSeen plan xs a c) (sym (take_more lists n held h ∙ ap (λ x. take n lists ++ x ∷ []) (sym at))) (all_seen_push plan n (take n lists) held a b c count so one)

pub all_seen_whole : (plan : ThreadPlan) (n : ℕ) (lists : List (List Receipt)) (a b : Findings) → n ≡ length lists → AreAllSeen plan (take n lists) a b → AreAllSeen plan lists a b
all_seen_whole plan n lists a b is so = subst (λ xs. AreAllSeen plan xs a b) (ap (λ m. take m lists) is ∙ take-length lists) so

-- ---- the whole

-- a number that rose from 0 to 1
risen_once : (tables : List (List ℕ)) (i j n : ℕ) → 1 ≤ i → 1 ≤ j → number_at tables (i - 1) (j - 1) ≡ Some (0 + n) → AreOnes tables → n ≡ 1
risen_once tables i j n some_i some_j at ones =
    let found = table_at tables (i - 1) (j - 1) (0 + n) at in
    let one : 0 + n ≡ 1 = ones (i - 1) found.0 (j - 1) (0 + n) found.1.0 found.1.1 in
    omega (arith, one)

pub all_done : (plan : ThreadPlan) (receipts : List (List Receipt)) (start end : Findings) → IsNothing plan start → AreAllSeen plan receipts start end → HasAll plan end → IsDone plan receipts
all_done plan receipts start end nothing seen has =
    let a : start.tallies.accepted ≡ 0 = ap (λ (t : Tallies). t.accepted) nothing.tallies in
    let s : start.tallies.stopped ≡ 0 = ap (λ (t : Tallies). t.stopped) nothing.tallies in
    let r : start.tallies.restored ≡ 0 = ap (λ (t : Tallies). t.restored) nothing.tallies in
    record {
      working = seen.working;
      many = record {
        accepted = omega (arith, a, seen.tallied.accepted, has.accepted);
        stops = omega (arith, s, seen.tallied.stopped, has.stopped);
        restores = omega (arith, r, seen.tallied.restored, has.restored);
      };
      added = seen.added;
      completed_once = λ i j some_i in_i some_j in_j. (
          let zero_at : number_at start.tables.items (i - 1) (j - 1) ≡ Some 0 = ap (λ ts. number_at ts (i - 1) (j - 1)) nothing.tables ∙ zeros_at plan.workers plan.adds (i - 1) (j - 1) (omega (arith, some_i, in_i)) (omega (arith, some_j, in_j)) in
          let i_is : (i - 1) + 1 ≡ i = omega (arith, some_i) in
          let j_is : (j - 1) + 1 ≡ j = omega (arith, some_j) in
          let same : completed ((i - 1) + 1) ((j - 1) + 1) receipts ≡ completed i j receipts = ap (λ x. completed x ((j - 1) + 1) receipts) i_is ∙ ap (λ x. completed i x receipts) j_is in
          risen_once end.tables.items i j (completed i j receipts) some_i some_j (seen.noted (i - 1) (j - 1) 0 zero_at ∙ ap (λ n. Some (0 + n)) same) has.once);
    }
