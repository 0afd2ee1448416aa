-- A gathered run of what was planned is a planned run.
use Rattle.std.proofs.Common.{arith, ◌≡◌, ◌≢◌, ℕ, zero, suc, ◌+◌, ◌*◌, ◌<◌, ◌≤◌, ◌==◌, Bool, true, false, if◌then◌else◌, cond, List, [], ◌∷◌, length, map, get_or, slice_get, Some, refl, ap, sym, subst, ◌∙◌, mul-le-mul}
use Rattle.std.specs.Prelude.{count_by, filter}
use Rattle.std.proofs.lemmas.Bool.Decides.{nat_tests, eqb_tells}
use Rattle.std.proofs.lemmas.Option.{slice_get-get_or}
use Rattle.protocol.specs.State.{Device}
use Rattle.protocol.specs.Replay.{replay}
use Rattle.order_rules.specs.declared.Receipt.{Receipt}
use Rattle.order_rules.specs.declared.OrderEntry.{OrderEntry}
use Rattle.order_rules.specs.Bridge.{FairOrdersAreLegal, IsFair, IsWork, WorkIsFair}
use Rattle.order_rules.specs.Lines.{Line, device_after, events_on, held_by}
use Rattle.order_rules.specs.Openings.{openings}
use Rattle.order_rules.specs.Order.{IsWorldOrder}
use Rattle.order_rules.specs.Work.{accepts, lines_with}
use Rattle.order_rules.proofs.Lists.{some_is}
use Rattle.shared_device.specs.Books.{AreApart, BookView, device_of, openings_of}
use Rattle.run_check.specs.declared.run.Run.{Run}
use Rattle.run_check.specs.Gathered.{AreHeld, IsGatheredRun, completions_in, word_in}
use Rattle.run_check.proofs.Books.{found_at}
use Rattle.thread_plan.specs.declared.plan.ThreadPlan.{ThreadPlan}
use Rattle.thread_plan.proofs.Tables.{count_cons}
use Rattle.thread_plan.specs.Planned.{AreWorking, IsDone, IsPlan, IsPlanned, IsWorking, all_adds, is_accepted, tally}

-- ---- a line's receipt among those of its worker

at_if : (b : Bool) (r : Receipt) (rs : List Receipt) (p : ℕ) (x : Receipt) → slice_get rs p ≡ Some x → (q : ℕ) × (slice_get (if b then r ∷ rs else rs) q ≡ Some x)
at_if true r rs p x h = (suc p, h)
at_if false r rs p x h = (p, h)

held_first : (b : Bool) (r : Receipt) (rs : List Receipt) → b ≡ true → slice_get (if b then r ∷ rs else rs) 0 ≡ Some r
held_first b r rs e = ap (λ u. slice_get (if u then r ∷ rs else rs) 0) e

held_at : (ls : List Line) (k : ℕ) (l : Line) → slice_get ls k ≡ Some l → (p : ℕ) × (slice_get (held_by l.receipt.worker ls) p ≡ Some l.receipt)
unfolding held_by
held_at [] k l h = absurd cc
held_at (x ∷ ls) zero l h =
    let same : x ≡ l = some_is h in
    let own : (l.receipt.worker == l.receipt.worker) ≡ true = grind (arith, nat_tests, eqb_tells l.receipt.worker l.receipt.worker) in
    (0, subst (λ (y : Line). slice_get (if y.receipt.worker == l.receipt.worker then y.receipt ∷ held_by l.receipt.worker ls else held_by l.receipt.worker ls) 0 ≡ Some l.receipt) (sym same) (held_first (l.receipt.worker == l.receipt.worker) l.receipt (held_by l.receipt.worker ls) own))
held_at (x ∷ ls) (suc k) l h =
    let rest = held_at ls k l h in
    at_if (x.receipt.worker == l.receipt.worker) x.receipt (held_by l.receipt.worker ls) rest.0 l.receipt rest.1

working_at : (receipts : List (List Receipt)) (ls : List Line) → AreHeld receipts ls → AreWorking receipts → (k : ℕ) (l : Line) → slice_get ls k ≡ Some l → IsWorking l.receipt
working_at receipts ls held working k l at =
    let w : ℕ = l.receipt.worker in
    let list : List Receipt = get_or receipts w [] in
    let list_at : slice_get receipts w ≡ Some list = slice_get-get_or receipts w [] (held.all k l at) in
    let here = held_at ls k l at in
    working w list here.0 l.receipt list_at (ap (λ x. slice_get x here.0) (held.each_list w list list_at) ∙ here.1)

-- ---- as many receipts as lines

module _ (test : Receipt → Bool) where
  abbrev shown : ℕ → ℕ → List Line → ℕ
  shown w zero ls = 0
  shown w (suc n) ls = count_by test (held_by w ls) + shown (w + 1) n ls

  abbrev hit : ℕ → ℕ → Line → ℕ
  hit w zero l = 0
  hit w (suc n) l = (if l.receipt.worker == w then cond (test l.receipt) 1 0 else 0) + hit (w + 1) n l

  tally_shown : (receipts : List (List Receipt)) (w : ℕ) (ls : List Line) → ((k : ℕ) (held : List Receipt) → slice_get receipts k ≡ Some held → held ≡ held_by (w + k) ls) → tally test receipts ≡ shown w (length receipts) ls
  unfolding tally
  tally_shown [] w ls each = refl
  tally_shown (x ∷ receipts) w ls each =
      let start : w + 0 ≡ w = omega arith in
      let first : count_by test x ≡ count_by test (held_by w ls) = ap (count_by test) (each 0 x refl ∙ ap (λ v. held_by v ls) start) in
      let rest : tally test receipts ≡ shown (w + 1) (length receipts) ls = tally_shown receipts (w + 1) ls (λ k held at. (let e : w + suc k ≡ (w + 1) + k = omega arith in each (suc k) held at ∙ ap (λ v. held_by v ls) e)) in
      omega (arith, first, rest)

  shown_none : (w n : ℕ) → shown w n [] ≡ 0
  unfolding held_by
  shown_none w zero = refl
  shown_none w (suc n) = let rest : shown (w + 1) n [] ≡ 0 = shown_none (w + 1) n in omega (arith, rest)

  count_if : (b : Bool) (r : Receipt) (rs : List Receipt) → count_by test (if b then r ∷ rs else rs) ≡ count_by test rs + (if b then cond (test r) 1 0 else 0)
  count_if true r rs = let e = count_cons test r rs in omega (arith, e)
  count_if false r rs = omega arith

  shown_more : (w n : ℕ) (l : Line) (ls : List Line) → shown w n (l ∷ ls) ≡ shown w n ls + hit w n l
  unfolding held_by
  shown_more w zero l ls = refl
  shown_more w (suc n) l ls =
      let one : count_by test (if l.receipt.worker == w then l.receipt ∷ held_by w ls else held_by w ls) ≡ count_by test (held_by w ls) + (if l.receipt.worker == w then cond (test l.receipt) 1 0 else 0) = count_if (l.receipt.worker == w) l.receipt (held_by w ls) in
      let rest = shown_more (w + 1) n l ls in
      omega (arith, one, rest)

  hit_past : (w n : ℕ) (l : Line) → l.receipt.worker < w → hit w n l ≡ 0
  hit_past w zero l h = refl
  hit_past w (suc n) l h =
      let other : (l.receipt.worker == w) ≡ false = grind (arith, nat_tests, eqb_tells l.receipt.worker w, h) in
      let one : ◌≡◌ {A = ℕ} (if l.receipt.worker == w then cond (test l.receipt) 1 0 else 0) 0 = ap (λ b. if b then cond (test l.receipt) 1 0 else 0) other in
      let rest = hit_past (w + 1) n l (omega (arith, h)) in
      omega (arith, one, rest)

  hit_by : (w n : ℕ) (l : Line) (b : Bool) → (l.receipt.worker == w) ≡ b → (b ≡ true → hit (w + 1) n l ≡ 0) → (b ≡ false → hit (w + 1) n l ≡ cond (test l.receipt) 1 0) → hit w (suc n) l ≡ cond (test l.receipt) 1 0
  hit_by w n l true e last more =
      let one : ◌≡◌ {A = ℕ} (if l.receipt.worker == w then cond (test l.receipt) 1 0 else 0) (cond (test l.receipt) 1 0) = ap (λ b. if b then cond (test l.receipt) 1 0 else 0) e in
      let none = last refl in
      omega (arith, one, none)
  hit_by w n l false e last more =
      let one : ◌≡◌ {A = ℕ} (if l.receipt.worker == w then cond (test l.receipt) 1 0 else 0) 0 = ap (λ b. if b then cond (test l.receipt) 1 0 else 0) e in
      let rest = more refl in
      omega (arith, one, rest)

  hit_all : (w n : ℕ) (l : Line) → w ≤ l.receipt.worker → l.receipt.worker < w + n → hit w n l ≡ cond (test l.receipt) 1 0
  hit_all w zero l low high = absurd (omega (arith, low, high))
  hit_all w (suc n) l low high = hit_by w n l (l.receipt.worker == w) refl
      (λ e. hit_past (w + 1) n l (let same : l.receipt.worker ≡ w = grind (arith, nat_tests, eqb_tells l.receipt.worker w, e) in omega (arith, same)))
      (λ e. (let ne : l.receipt.worker ≢ w = λ x. grind (arith, nat_tests, eqb_tells l.receipt.worker w, e, x) in hit_all (w + 1) n l (omega (arith, low, ne)) (omega (arith, high))))

  filter_more : (b : Bool) (l : Line) (ls : List Line) → length (if b then l ∷ ls else ls) ≡ length ls + cond b 1 0
  filter_more true l ls = omega arith
  filter_more false l ls = omega arith

  shown_all : (n : ℕ) (ls : List Line) → ((k : ℕ) (l : Line) → slice_get ls k ≡ Some l → l.receipt.worker < n) → shown 0 n ls ≡ lines_with (λ l. test l.receipt) ls
  shown_all n [] each = shown_none 0 n
  shown_all n (l ∷ ls) each =
      let more : shown 0 n (l ∷ ls) ≡ shown 0 n ls + hit 0 n l = shown_more 0 n l ls in
      let rest : shown 0 n ls ≡ lines_with (λ l. test l.receipt) ls = shown_all n ls (λ k x at. each (suc k) x at) in
      let one : hit 0 n l ≡ cond (test l.receipt) 1 0 = hit_all 0 n l (omega arith) (let e = each 0 l refl in omega (arith, e)) in
      let last : lines_with (λ l. test l.receipt) (l ∷ ls) ≡ lines_with (λ l. test l.receipt) ls + cond (test l.receipt) 1 0 = filter_more (test l.receipt) l (filter (λ (x : Line). test x.receipt) ls) in
      omega (arith, more, rest, one, last)

  tally_lines : (receipts : List (List Receipt)) (ls : List Line) → AreHeld receipts ls → tally test receipts ≡ lines_with (λ l. test l.receipt) ls
  tally_lines receipts ls held =
      tally_shown receipts 0 ls (λ k list at. (let e : k ≡ 0 + k = omega arith in held.each_list k list at ∙ ap (λ v. held_by v ls) e))
      ∙ shown_all (length receipts) ls held.all

-- ---- the devices after the lines

mapped : (os : List Device) (ls : List Line) (books : List BookView) → ((i : ℕ) (b : BookView) → slice_get books i ≡ Some b → device_of b ≡ device_after os ls b.opening.id) → map device_of books ≡ map (λ d. device_after os ls d.id) (openings_of books)
mapped os ls [] each = refl
mapped os ls (x ∷ books) each = (λ i. each 0 x refl i ∷ mapped os ls books (λ k b at. each (suc k) b at) i)

device_is : (books : List BookView) (ls : List Line) → AreApart books → ((i : ℕ) (b : BookView) → slice_get books i ≡ Some b → b.journal ≡ events_on b.opening.id ls) → (i : ℕ) (b : BookView) → slice_get books i ≡ Some b → device_of b ≡ device_after (openings_of books) ls b.opening.id
unfolding device_after
device_is books ls apart journals i b at = ap (replay b.opening) (journals i b at) ∙ ap (λ d. replay d (events_on b.opening.id ls)) (sym (found_at books i b apart at).0)

-- ---- the whole

few : (w a : ℕ) → w ≤ 8 → a ≤ 10000 → w * a ≤ 4194304
few w a h k = let most : w * a ≤ 8 * 10000 = mul-le-mul h k in omega (arith, most)

pub planned : (plan : ThreadPlan) (last : ℕ) (alone : Bool) (books : List BookView) (entries : List OrderEntry) (receipts : List (List Receipt)) (run : Run)
    → WorkIsFair → FairOrdersAreLegal → IsPlan plan → AreApart books → openings_of books ≡ openings plan.workers → length receipts ≡ last + 1 → IsDone plan receipts → IsGatheredRun books entries receipts run → run.word ≡ all_adds plan → run.completions ≡ all_adds plan
    → IsPlanned plan last alone (record run { alone = alone })
planned plan last alone books entries receipts run work_is_fair fair_is_legal is apart opened lists done g word completions =
    let ls : List Line = g.gathered.lines in
    let held : AreHeld receipts ls = g.gathered.held in
    let accepted : lines_with accepts ls ≡ all_adds plan = sym (tally_lines is_accepted receipts ls held) ∙ done.many.accepted in
    let work : IsWork plan.workers ls = record {
      order = subst (λ os. IsWorldOrder os ls) opened g.gathered.order;
      work = λ k l at. (working_at receipts ls held done.working k l at).0;
      askable = λ k l at. (working_at receipts ls held done.working k l at).1;
      few = subst (λ n. n ≤ 4194304) (sym accepted) (few plan.workers plan.adds is.workers is.adds);
    } in
    let fair : IsFair plan.workers ls = work_is_fair plan.workers ls is.some_workers is.workers work in
    record {
      lines = ls;
      work = work;
      one_sided = fair.one_sided;
      legal = fair_is_legal plan.workers ls is.some_workers is.workers fair;
      accepted = accepted;
      entries_are = g.order ∙ g.gathered.entries_are;
      lists = ap length g.receipts_are ∙ lists;
      held = subst (λ rs. AreHeld rs ls) (sym g.receipts_are) held;
      done = subst (λ rs. IsDone plan rs) (sym g.receipts_are) done;
      word_is = g.word ∙ (ap word_in (mapped (openings_of books) ls books (device_is books ls apart g.gathered.journals)) ∙ ap (λ os. word_in (map (λ d. device_after os ls d.id) os)) opened);
      completions_are = g.completions ∙ ap completions_in (sym g.receipts_are);
      word = word;
      completions = completions;
      whose = refl;
    }
