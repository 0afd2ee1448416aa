-- Completions that are dealt out in turn are handed out: each is taken once, under its place.
use Rattle.std.proofs.Common.{arith, ◌≡◌, ◌≢◌, ℕ, zero, suc, ◌+◌, ◌<◌, ◌≤◌, ◌==◌, ◌%◌, if◌then◌else◌, Bool, true, false, List, [], ◌∷◌, ◌++◌, length, slice_get, Some, refl, ap, sym, subst, ◌∙◌, append_assoc}
use Rattle.std.specs.Prelude.{flat_map}
use Rattle.std.proofs.lemmas.Bool.Decides.{nat_tests, eqb_tells}
use Rattle.std.proofs.Math.Nat.{mod-lt}
use Rattle.std.proofs.lemmas.List.{append-nil}
use Rattle.rdma_types.specs.declared.requests.Completion.{Completion}
use Rattle.completion_fanout.specs.declared.entry.FanEntry.{FanEntry}
use Rattle.completion_fanout.specs.Fanned.{AreOf, IsDealt, IsFanned, IsRising, all_entries, dealt_to, places, times}
use Rattle.completion_fanout.proofs.Lists.{of_both, of_none, times_places}

-- an entry that is put where it is due
abbrev put_if : Bool → FanEntry → List FanEntry → List FanEntry
put_if b e es = if b then e ∷ es else es

-- ---- completions

of_cons : (drained : List Completion) (e : FanEntry) (es : List FanEntry) → slice_get drained e.place ≡ Some e.completion → AreOf drained es → AreOf drained (e ∷ es)
of_cons drained e es this are zero x at = let same : e ≡ x = cc in subst (λ (y : FanEntry). slice_get drained y.place ≡ Some y.completion) same this
of_cons drained e es this are (suc i) x at = are i x at

of_if : (b : Bool) (drained : List Completion) (e : FanEntry) (es : List FanEntry) → slice_get drained e.place ≡ Some e.completion → AreOf drained es → AreOf drained (put_if b e es)
of_if true drained e es this are = of_cons drained e es this are
of_if false drained e es this are = are

get_mid : (before : List Completion) (c : Completion) (cs : List Completion) → slice_get (before ++ c ∷ cs) (length before) ≡ Some c
get_mid [] c cs = refl
get_mid (x ∷ before) c cs = get_mid before c cs

length_push : (before : List Completion) (c : Completion) → length (before ++ c ∷ []) ≡ length before + 1
length_push [] c = refl
length_push (x ∷ before) c = let ih = length_push before c in omega arith

dealt_of : (consumers i k : ℕ) (before cs : List Completion) → k ≡ length before → AreOf (before ++ cs) (dealt_to consumers i k cs)
unfolding dealt_to
dealt_of consumers i k before [] at = of_none (before ++ [])
dealt_of consumers i k before (c ∷ cs) at =
    let here : slice_get (before ++ c ∷ cs) k ≡ Some c = ap (slice_get (before ++ c ∷ cs)) at ∙ get_mid before c cs in
    let next : k + 1 ≡ length (before ++ c ∷ []) = omega (arith, at, length_push before c) in
    let rest : AreOf ((before ++ c ∷ []) ++ cs) (dealt_to consumers i (k + 1) cs) = dealt_of consumers i (k + 1) (before ++ c ∷ []) cs next in
    of_if (k % consumers == i) (before ++ c ∷ cs) (record { place = k; completion = c }) (dealt_to consumers i (k + 1) cs) here
    (subst (λ (l : List Completion). AreOf l (dealt_to consumers i (k + 1) cs)) (append_assoc before (c ∷ []) cs) rest)

flat_of : (drained : List Completion) (lists : List (List FanEntry)) → ((i : ℕ) (es : List FanEntry) → slice_get lists i ≡ Some es → AreOf drained es) → AreOf drained (flat_map (λ (es : List FanEntry). es) lists)
flat_of drained [] each = of_none drained
flat_of drained (es ∷ lists) each = of_both drained es (flat_map (λ (l : List FanEntry). l) lists) (each 0 es refl) (flat_of drained lists (λ i x at. each (suc i) x at))

-- ---- places

low_if : (b : Bool) (e : FanEntry) (es : List FanEntry) (k : ℕ) → e.place ≡ k → ((j p : ℕ) → slice_get (places es) j ≡ Some p → k + 1 ≤ p) → (j p : ℕ) → slice_get (places (put_if b e es)) j ≡ Some p → k ≤ p
low_if true e es k at low zero p here = let same : e.place ≡ p = cc in omega (arith, at, same)
low_if true e es k at low (suc j) p here = let l = low j p here in omega (arith, l)
low_if false e es k at low j p here = let l = low j p here in omega (arith, l)

dealt_low : (consumers i k : ℕ) (cs : List Completion) (j p : ℕ) → slice_get (places (dealt_to consumers i k cs)) j ≡ Some p → k ≤ p
unfolding dealt_to
dealt_low consumers i k [] j p at = cc
dealt_low consumers i k (c ∷ cs) j p at = low_if (k % consumers == i) (record { place = k; completion = c }) (dealt_to consumers i (k + 1) cs) k refl (λ j' p' at'. dealt_low consumers i (k + 1) cs j' p' at') j p at

rising_if : (b : Bool) (e : FanEntry) (es : List FanEntry) → ((j p : ℕ) → slice_get (places es) j ≡ Some p → e.place + 1 ≤ p) → IsRising (places es) → IsRising (places (put_if b e es))
rising_if true e es low rising zero zero x y at_i at_j h = absurd (omega (arith, h))
rising_if true e es low rising zero (suc j) x y at_i at_j h = let same : e.place ≡ x = cc in let l = low j y at_j in omega (arith, l, same)
rising_if true e es low rising (suc i) zero x y at_i at_j h = absurd (omega (arith, h))
rising_if true e es low rising (suc i) (suc j) x y at_i at_j h = rising i j x y at_i at_j (omega (arith, h))
rising_if false e es low rising i j x y at_i at_j h = rising i j x y at_i at_j h

dealt_rising : (consumers i k : ℕ) (cs : List Completion) → IsRising (places (dealt_to consumers i k cs))
unfolding dealt_to
dealt_rising consumers i k [] = λ j j' x y at at' h. cc
dealt_rising consumers i k (c ∷ cs) = rising_if (k % consumers == i) (record { place = k; completion = c }) (dealt_to consumers i (k + 1) cs) (dealt_low consumers i (k + 1) cs) (dealt_rising consumers i (k + 1) cs)

-- ---- how often a place stands in a list

abbrev one_if : Bool → ℕ
one_if b = if b then 1 else 0

times_if : (q : ℕ) (b : Bool) (e : FanEntry) (es : List FanEntry) → times q (places (put_if b e es)) ≡ (if b then one_if (e.place == q) else 0) + times q (places es)
times_if q true e es = refl
times_if q false e es = omega arith

dealt_late : (consumers i k q : ℕ) (cs : List Completion) → q < k → times q (places (dealt_to consumers i k cs)) ≡ 0
unfolding dealt_to
dealt_late consumers i k q [] h = refl
dealt_late consumers i k q (c ∷ cs) h =
    let rest : times q (places (dealt_to consumers i (k + 1) cs)) ≡ 0 = dealt_late consumers i (k + 1) q cs (omega (arith, h)) in
    let other : (k == q) ≡ false = grind (arith, nat_tests, eqb_tells k q, h) in
    let all = times_if q (k % consumers == i) (record { place = k; completion = c }) (dealt_to consumers i (k + 1) cs) in
    all ∙ passed (k % consumers == i) (k == q) (times q (places (dealt_to consumers i (k + 1) cs))) other rest
  where
    passed : (b t : Bool) (n : ℕ) → t ≡ false → n ≡ 0 → (if b then one_if t else 0) + n ≡ 0
    passed true true n h none = cc
    passed true false n h none = omega (arith, none)
    passed false t n h none = omega (arith, none)

hit : (b t : Bool) (n : ℕ) → t ≡ true → n ≡ 0 → (if b then one_if t else 0) + n ≡ one_if b
hit true true n h none = omega (arith, none)
hit true false n h none = cc
hit false t n h none = omega (arith, none)

missed : (b t : Bool) (n m : ℕ) → t ≡ false → n ≡ m → (if b then one_if t else 0) + n ≡ m
missed true true n m h same = cc
missed true false n m h same = omega (arith, same)
missed false t n m h same = omega (arith, same)

-- a place stands once in its own list, and in no other
dealt_times : (consumers i k d : ℕ) (cs : List Completion) → d < length cs → times (k + d) (places (dealt_to consumers i k cs)) ≡ one_if ((k + d) % consumers == i)
unfolding dealt_to
dealt_times consumers i k d [] h = absurd (omega (arith, h))
dealt_times consumers i k zero (c ∷ cs) h =
    let q : k + 0 ≡ k = omega arith in
    let own : (k == k) ≡ true = grind (arith, nat_tests, eqb_tells k k) in
    let here : times k (places (dealt_to consumers i k (c ∷ cs))) ≡ one_if (k % consumers == i) =
    times_if k (k % consumers == i) (record { place = k; completion = c }) (dealt_to consumers i (k + 1) cs)
    ∙ hit (k % consumers == i) (k == k) (times k (places (dealt_to consumers i (k + 1) cs))) own (dealt_late consumers i (k + 1) k cs (omega arith)) in
    rw q here
dealt_times consumers i k (suc d) (c ∷ cs) h =
    let q : k + suc d ≡ (k + 1) + d = omega arith in
    let other : (k == k + suc d) ≡ false = grind (arith, nat_tests, eqb_tells k (k + suc d)) in
    let rest : times (k + suc d) (places (dealt_to consumers i (k + 1) cs)) ≡ one_if ((k + suc d) % consumers == i) = rw q (dealt_times consumers i (k + 1) d cs (omega (arith, h))) in
    times_if (k + suc d) (k % consumers == i) (record { place = k; completion = c }) (dealt_to consumers i (k + 1) cs)
    ∙ missed (k % consumers == i) (k == k + suc d) (times (k + suc d) (places (dealt_to consumers i (k + 1) cs))) (one_if ((k + suc d) % consumers == i)) other rest

-- ---- all lists

-- lists s, s + 1 and so on
module _ (consumers : ℕ) (cs : List Completion) (q : ℕ) where
  abbrev AreFrom : ℕ → List (List FanEntry) → Type 0
  AreFrom s lists = (i : ℕ) (es : List FanEntry) → slice_get lists i ≡ Some es → es ≡ dealt_to consumers (s + i) 0 cs

  from_next : (s : ℕ) (es : List FanEntry) (lists : List (List FanEntry)) → AreFrom s (es ∷ lists) → AreFrom (s + 1) lists
  from_next s es lists are i x at = let e : s + suc i ≡ (s + 1) + i = omega arith in are (suc i) x at ∙ ap (λ n. dealt_to consumers n 0 cs) e

  first_times : (s : ℕ) (es : List FanEntry) (lists : List (List FanEntry)) → q < length cs → AreFrom s (es ∷ lists) → times q (places es) ≡ one_if (q % consumers == s)
  first_times s es lists h are =
      let e : s + 0 ≡ s = omega arith in
      let z : 0 + q ≡ q = omega arith in
      let is : es ≡ dealt_to consumers s 0 cs = are 0 es refl ∙ ap (λ n. dealt_to consumers n 0 cs) e in
      ap (λ (l : List FanEntry). times q (places l)) is ∙ subst (λ n. times n (places (dealt_to consumers s 0 cs)) ≡ one_if (n % consumers == s)) z (dealt_times consumers s 0 q cs h)

  flat_late : (s : ℕ) (lists : List (List FanEntry)) → q < length cs → q % consumers < s → AreFrom s lists → times q (places (flat_map (λ (l : List FanEntry). l) lists)) ≡ 0
  flat_late s [] h late are = refl
  flat_late s (es ∷ lists) h late are =
      let other : (q % consumers == s) ≡ false = grind (arith, nat_tests, eqb_tells (q % consumers) s, late) in
      let first : times q (places es) ≡ 0 = first_times s es lists h are ∙ ap one_if other in
      let rest : times q (places (flat_map (λ (l : List FanEntry). l) lists)) ≡ 0 = flat_late (s + 1) lists h (omega (arith, late)) (from_next s es lists are) in
      let both = times_places q es (flat_map (λ (l : List FanEntry). l) lists) in
      omega (arith, both, first, rest)

  once_if : (s : ℕ) (es : List FanEntry) (lists : List (List FanEntry)) (t : Bool) → q < length cs → s ≤ q % consumers → AreFrom s (es ∷ lists) → (q % consumers == s) ≡ t
      → (q % consumers ≢ s → times q (places (flat_map (λ (l : List FanEntry). l) lists)) ≡ 1) → times q (places (flat_map (λ (l : List FanEntry). l) (es ∷ lists))) ≡ 1
  once_if s es lists true h low are is later =
      let same : q % consumers ≡ s = grind (arith, nat_tests, eqb_tells (q % consumers) s, is) in
      let first : times q (places es) ≡ 1 = first_times s es lists h are ∙ ap one_if is in
      let rest : times q (places (flat_map (λ (l : List FanEntry). l) lists)) ≡ 0 = flat_late (s + 1) lists h (omega (arith, same)) (from_next s es lists are) in
      let both = times_places q es (flat_map (λ (l : List FanEntry). l) lists) in
      omega (arith, both, first, rest)
  once_if s es lists false h low are is later =
      let other : q % consumers ≢ s = λ e. grind (arith, nat_tests, eqb_tells (q % consumers) s, is, e) in
      let first : times q (places es) ≡ 0 = first_times s es lists h are ∙ ap one_if is in
      let rest : times q (places (flat_map (λ (l : List FanEntry). l) lists)) ≡ 1 = later other in
      let both = times_places q es (flat_map (λ (l : List FanEntry). l) lists) in
      omega (arith, both, first, rest)

  flat_once : (s : ℕ) (lists : List (List FanEntry)) → q < length cs → s ≤ q % consumers → q % consumers < s + length lists → AreFrom s lists → times q (places (flat_map (λ (l : List FanEntry). l) lists)) ≡ 1
  flat_once s [] h low high are = absurd (omega (arith, low, high))
  flat_once s (es ∷ lists) h low high are = once_if s es lists (q % consumers == s) h low are refl (λ other. flat_once (s + 1) lists h (omega (arith, low, other)) (omega (arith, high)) (from_next s es lists are))

pub dealt_is_fanned : (consumers : ℕ) (drained : List Completion) (taken : List (List FanEntry)) → 0 < consumers → IsDealt consumers drained taken → IsFanned drained taken []
dealt_is_fanned consumers drained taken some dealt =
    let flat : List FanEntry = flat_map (λ (l : List FanEntry). l) taken in
    let whole : all_entries taken [] ≡ flat = append-nil flat in
    record {
      same = subst (AreOf drained) (sym whole) (flat_of drained taken (λ i es at. subst (AreOf drained) (sym (dealt.each i es at)) (dealt_of consumers i 0 [] drained refl)));
      once = λ k h. ap (λ (l : List FanEntry). times k (places l)) whole
          ∙ flat_once consumers drained k 0 taken h (omega arith) (omega (arith, mod-lt k some, dealt.lists)) (λ i es at. (let e : 0 + i ≡ i = omega arith in dealt.each i es at ∙ ap (λ n. dealt_to consumers n 0 drained) (sym e)));
      rising = λ i es at. subst (λ (l : List FanEntry). IsRising (places l)) (sym (dealt.each i es at)) (dealt_rising consumers i 0 drained);
      left_rising = λ i j x y at at' h. cc;
    }
