-- Each kind of step keeps the rule.
use Rattle.std.proofs.Common.{arith, ◌≡◌, ◌≢◌, ℕ, zero, suc, ◌+◌, ◌<◌, Bool, true, false, true≢false, List, [], ◌∷◌, ◌++◌, length, set, refl, ap, sym, subst, ◌∙◌, ⊎_elim, append_assoc}
use Rattle.std.proofs.lemmas.Bool.Decides.{nat_tests}
use Rattle.std.proofs.Math.ListN.{length-append}
use mathlib.Core.Option.{some, some-ne-none}
use lib.ListN.{get_elem?}
use Rattle.crossbeam_queue.specs.Fifo.{Pushes, Pops, Forks, Merges, Learns, Held}
use Rattle.crossbeam_queue.proofs.Lists.{at_set, at_snoc}
use Rattle.rdma_types.specs.declared.requests.Completion.{Completion}
use Rattle.completion_fanout.specs.declared.entry.FanEntry.{FanEntry}
use Rattle.completion_fanout.specs.declared.entry.QueueItem.{QueueItem}
use Rattle.completion_fanout.specs.declared.entry.QueueItem.TheVariants.{Entry, End}
use Rattle.completion_fanout.specs.declared.rule.Share.{Share}
use Rattle.completion_fanout.specs.Fanned.{AreOf, IsRising, places, times}
use Rattle.completion_fanout.specs.Rule.{IsKept, IsFit, IsTake, IsWhole, IsBalanced, MayPut, after_cut, after_lend, after_put, after_take, below, end_marks, first_share, joined_with, lent_share, new_share, numbered, parcels, returned_with, share, spent_share, times_in, total}
use Rattle.completion_fanout.proofs.Lists.{below_more, fits_set, of_both, of_more, of_none, of_push, only, part_le, rising_push, times_places, total_set, total_snoc}

some_is : (a b : Share) → some a ≡ some b → a ≡ b
some_is a b h = cc

-- ---- lists of parcels

length_push : (xs : List Completion) (c : Completion) → length (xs ++ c ∷ []) ≡ length xs + 1
length_push [] c = refl
length_push (x ∷ xs) c = let ih = length_push xs c in omega arith

numbered_push : (k : ℕ) (cs : List Completion) (c : Completion) → numbered k (cs ++ c ∷ []) ≡ numbered k cs ++ record { place = k + length cs; completion = c } ∷ []
numbered_push k [] c = let e : k ≡ k + 0 = omega arith in ap (λ n. record { place = n; completion = c } ∷ []) e
numbered_push k (x ∷ xs) c = let e : (k + 1) + length xs ≡ k + suc (length xs) = omega arith in
    ap (λ l. record { place = k; completion = x } ∷ l) (numbered_push (k + 1) xs c ∙ ap (λ n. numbered (k + 1) xs ++ record { place = n; completion = c } ∷ []) e)

-- an entry joins at the back, where there is no mark
parcels_push : (es : List FanEntry) (e : FanEntry) → parcels es 0 ++ Entry e ∷ [] ≡ parcels (es ++ e ∷ []) 0
parcels_push [] e = refl
parcels_push (x ∷ xs) e = ap (λ l. Entry x ∷ l) (parcels_push xs e)

marks_end : (n : ℕ) → end_marks n ++ End ∷ [] ≡ end_marks (suc n)
marks_end zero = refl
marks_end (suc n) = ap (λ l. End ∷ l) (marks_end n)

-- a mark joins at the back
parcels_end : (es : List FanEntry) (n : ℕ) → parcels es n ++ End ∷ [] ≡ parcels es (suc n)
parcels_end [] n = marks_end n
parcels_end (x ∷ xs) n = ap (λ l. Entry x ∷ l) (parcels_end xs n)

-- ---- a push

pub puts : (n port : ℕ) (v : Share) (c : Completion) → 0 < v.parts → v.puts ≡ true → v.marks ≡ 0 → Pushes IsKept n port v (Entry (record { place = length v.put; completion = c })) (λ w. w ≡ after_put v (Entry (record { place = length v.put; completion = c })))
puts n port v c some_part may none items views room f at =
    let e : FanEntry = record { place = length v.put; completion = c } in
    let w = after_put v (Entry e) in
    let mine = f.fits port v at in
    let here = (mine.puts may).0 in
    let same : v.put ≡ f.put = (mine.puts may).1 in
    let unmarked : f.marks ≡ 0 = sym (mine.puts may).2 ∙ none in
    let endless : f.ends ≡ 0 = let t = f.ended in omega arith in
    let place : length v.put ≡ length f.got + length f.rest = ap length (same ∙ f.all) ∙ length-append f.got f.rest in (
      w,
      record {
        writer = f.writer;
        put = f.put ++ c ∷ [];
        got = f.got;
        rest = f.rest ++ c ∷ [];
        marks = f.marks;
        ends = f.ends;
        all = ap (λ l. l ++ c ∷ []) f.all ∙ append_assoc f.got f.rest (c ∷ []);
        held = ap (λ l. l ++ Entry e ∷ []) (f.held ∙ ap (parcels (numbered (length f.got) f.rest)) endless)
            ∙ parcels_push (numbered (length f.got) f.rest) e
            ∙ ap (λ k. parcels (numbered (length f.got) f.rest ++ record { place = k; completion = c } ∷ []) 0) place
            ∙ ap (λ l. parcels l 0) (sym (numbered_push (length f.got) f.rest c))
            ∙ ap (parcels (numbered (length f.got) (f.rest ++ c ∷ []))) (sym endless);
        parts = let s = total_set (λ u. u.parts) views port v w at in let p = f.parts in omega arith;
        once = λ k. let s = total_set (times_in k) views port v w at in let p = f.once k in omega arith;
        ended = let s = total_set (λ u. u.ended) views port v w at in let p = f.ended in omega arith;
        fits = fits_set (IsFit f.writer (f.put ++ c ∷ []) f.got (f.rest ++ c ∷ []) f.marks) views port w
            (record {
              puts = λ _. (here, ap (λ l. l ++ c ∷ []) same, (mine.puts may).2);
              rising = mine.rising;
              taken = mine.taken;
              joined = mine.joined;
              ended = λ h. absurd (let le = part_le (λ u. u.ended) views port v at in let t = f.ended in omega (arith, h));
              idle = mine.idle;
            })
            (λ j u other a. let old = f.fits j u a in record {
              puts = λ p. absurd (other ((old.puts p).0 ∙ sym here));
              rising = old.rising;
              taken = old.taken;
              joined = old.joined;
              ended = λ h. absurd (let le = part_le (λ z. z.ended) views j u a in let t = f.ended in omega (arith, h));
              idle = old.idle;
            });
      },
      refl,
    )

pub marks : (n port : ℕ) (v : Share) → v.puts ≡ true → Pushes IsKept n port v End (λ w. w ≡ after_put v End)
marks n port v may items views room f at =
    let w = after_put v End in
    let mine = f.fits port v at in
    let here = (mine.puts may).0 in (
      w,
      record {
        writer = f.writer;
        put = f.put;
        got = f.got;
        rest = f.rest;
        marks = f.marks + 1;
        ends = suc f.ends;
        all = f.all;
        held = ap (λ l. l ++ End ∷ []) f.held ∙ parcels_end (numbered (length f.got) f.rest) f.ends;
        parts = let s = total_set (λ u. u.parts) views port v w at in let p = f.parts in omega arith;
        once = λ k. let s = total_set (times_in k) views port v w at in let p = f.once k in omega arith;
        ended = let s = total_set (λ u. u.ended) views port v w at in let p = f.ended in omega arith;
        fits = fits_set (IsFit f.writer f.put f.got f.rest (f.marks + 1)) views port w
            (record {
              puts = λ _. (here, (mine.puts may).1, ap (λ k. k + 1) (mine.puts may).2);
              rising = mine.rising;
              taken = mine.taken;
              joined = mine.joined;
              ended = mine.ended;
              idle = mine.idle;
            })
            (λ j u other a. let old = f.fits j u a in record {
              puts = λ p. absurd (other ((old.puts p).0 ∙ sym here));
              rising = old.rising;
              taken = old.taken;
              joined = old.joined;
              ended = old.ended;
              idle = old.idle;
            });
      },
      refl,
    )

-- .. of either kind
pub may_put : (n port : ℕ) (v : Share) (x : QueueItem) → MayPut v x → Pushes IsKept n port v x (λ w. w ≡ after_put v x)
may_put n port v (Entry e) may =
    let same : record { place = length v.put; completion = e.completion } ≡ e = ap (λ k. record { place = k; completion = e.completion }) (sym may.3) in
    subst (λ y. Pushes IsKept n port v (Entry y) (λ w. w ≡ after_put v (Entry y))) same (puts n port v e.completion may.0 may.1 may.2)
may_put n port v End may = marks n port v may

-- ---- a pop

no_more : (x : QueueItem) (xs : List QueueItem) → x ∷ xs ≡ [] → ⊥
no_more x xs h = cc

-- what a pop of this parcel owes
abbrev Owes : ℕ → Share → List QueueItem → List Share → QueueItem → Type 0
Owes port v items views x = (w : Share) × IsKept items (set views port w) × IsTake v x w

takes_from : (port : ℕ) (v : Share) → 0 < v.parts → (x : QueueItem) (items : List QueueItem) (views : List Share) (f : IsKept (x ∷ items) views) → get_elem? views port ≡ some v → (rest : List Completion) → f.rest ≡ rest → (ends : ℕ) → f.ends ≡ ends → Owes port v items views x
takes_from port v some_part x items views f at [] none zero no_end =
    absurd (no_more x items (f.held ∙ ap (λ l. parcels (numbered (length f.got) l) f.ends) none ∙ ap end_marks no_end))
takes_from port v some_part x items views f at [] none (suc n) more =
    let held : x ∷ items ≡ End ∷ end_marks n = f.held ∙ ap (λ l. parcels (numbered (length f.got) l) f.ends) none ∙ ap end_marks more in
    let front : End ≡ x = cc in
    let back : items ≡ end_marks n = cc in
    let w = after_take v End in
    let mine = f.fits port v at in
    subst (Owes port v items views) front (
      w,
      record {
        writer = f.writer;
        put = f.put;
        got = f.got;
        rest = f.rest;
        marks = f.marks;
        ends = n;
        all = f.all;
        held = back ∙ ap (λ l. parcels (numbered (length f.got) l) n) (sym none);
        parts = let s = total_set (λ u. u.parts) views port v w at in let p = f.parts in omega arith;
        once = λ k. let s = total_set (times_in k) views port v w at in let p = f.once k in omega arith;
        ended = let s = total_set (λ u. u.ended) views port v w at in let p = f.ended in omega (arith, more);
        fits = fits_set (IsFit f.writer f.put f.got f.rest f.marks) views port w
            (record {
              puts = mine.puts;
              rising = mine.rising;
              taken = mine.taken;
              joined = mine.joined;
              ended = λ _. none;
              idle = λ h. absurd (omega (arith, h, some_part));
            })
            (λ j u other a. f.fits j u a);
      },
      record { after = refl; follows = tt },
    )
takes_from port v some_part x items views f at (c ∷ cs) more ends same_ends =
    let e : FanEntry = record { place = length f.got; completion = c } in
    let held : x ∷ items ≡ Entry e ∷ parcels (numbered (length f.got + 1) cs) f.ends = f.held ∙ ap (λ l. parcels (numbered (length f.got) l) f.ends) more in
    let front : Entry e ≡ x = cc in
    let back : items ≡ parcels (numbered (length f.got + 1) cs) f.ends = cc in
    let w = after_take v (Entry e) in
    let got = f.got ++ c ∷ [] in
    let longer : length got ≡ length f.got + 1 = length_push f.got c in
    let mine = f.fits port v at in
    let last : (u : Share) (j : ℕ) → get_elem? views j ≡ some u → 0 < u.ended → ⊥ = λ u j a h. (let none : c ∷ cs ≡ [] = sym more ∙ (f.fits j u a).ended h in cc) in
    subst (Owes port v items views) front (
      w,
      record {
        writer = f.writer;
        put = f.put;
        got = got;
        rest = cs;
        marks = f.marks;
        ends = f.ends;
        all = f.all ∙ ap (λ l. f.got ++ l) more ∙ sym (append_assoc f.got (c ∷ []) cs);
        held = back ∙ ap (λ k. parcels (numbered k cs) f.ends) (sym longer);
        parts = let s = total_set (λ u. u.parts) views port v w at in let p = f.parts in omega arith;
        once = λ k.
            let s = total_set (times_in k) views port v w at in
            let p = f.once k in
            let t = times_places k v.taken (e ∷ []) in
            let b = below_more k (length f.got) in
            let l : below k (length got) ≡ below k (length f.got + 1) = ap (below k) longer in
            omega arith;
        ended = let s = total_set (λ u. u.ended) views port v w at in let p = f.ended in omega arith;
        fits = fits_set (IsFit f.writer f.put got cs f.marks) views port w
            (record {
              puts = mine.puts;
              rising = rising_push f.got c v.taken mine.rising mine.taken;
              taken = of_push f.got c v.taken mine.taken;
              joined = of_more f.got c v.joined mine.joined;
              ended = λ h. absurd (last v port at h);
              idle = λ h. absurd (omega (arith, h, some_part));
            })
            (λ j u other a. let old = f.fits j u a in record {
              puts = old.puts;
              rising = old.rising;
              taken = of_more f.got c u.taken old.taken;
              joined = of_more f.got c u.joined old.joined;
              ended = λ h. absurd (last u j a h);
              idle = old.idle;
            });
      },
      record { after = refl; follows = grind (arith, last v port at) },
    )

pub takes : (port : ℕ) (v : Share) → 0 < v.parts → Pops IsKept port v (IsTake v)
takes port v some_part x items views f at = takes_from port v some_part x items views f at f.rest refl f.ends refl

-- ---- passes

both_ended : (rest : List Completion) (m n : ℕ) → (0 < m → rest ≡ []) → (0 < n → rest ≡ []) → 0 < m + n → rest ≡ []
both_ended rest zero zero a b h = absurd (omega (arith, h))
both_ended rest zero (suc n) a b h = b (omega arith)
both_ended rest (suc m) n a b h = a (omega arith)

fresh_fit : (writer : ℕ) (put got rest : List Completion) (marks port parts : ℕ) → IsFit writer put got rest marks port (share parts false [] 0 [] [] 0)
fresh_fit writer put got rest marks port parts = record {
  puts = λ p. absurd (true≢false (sym p));
  rising = λ i j x y a b h. cc;
  taken = of_none got;
  joined = of_none got;
  ended = λ h. absurd (omega (arith, h));
  idle = λ _. (refl, refl, refl);
}

begins_fit : (port : ℕ) (v : Share) → get_elem? (first_share ∷ []) port ≡ some v → IsFit 0 [] [] [] 0 port v
begins_fit zero v at = subst (IsFit 0 [] [] [] 0 0) (some_is first_share v at) (record {
  puts = λ _. (refl, refl, refl);
  rising = λ i j x y a b h. cc;
  taken = of_none [];
  joined = of_none [];
  ended = λ _. refl;
  idle = λ _. (refl, refl, refl);
})
begins_fit (suc port) v at = absurd (some-ne-none v (sym at))

pub begins : IsKept [] (first_share ∷ [])
begins = record {
  writer = 0;
  put = [];
  got = [];
  rest = [];
  marks = 0;
  ends = 0;
  all = refl;
  held = refl;
  parts = refl;
  once = λ k. grind (arith, nat_tests);
  ended = refl;
  fits = begins_fit;
}

pub forks : (port : ℕ) (v : Share) → 1 < v.parts → Forks IsKept port v (after_cut v) new_share
forks port v many items views f at =
    let l = after_cut v in
    let vs : List Share = set views port l in
    let mine = f.fits port v at in
    record {
      writer = f.writer;
      put = f.put;
      got = f.got;
      rest = f.rest;
      marks = f.marks;
      ends = f.ends;
      all = f.all;
      held = f.held;
      parts = let s = total_set (λ u. u.parts) views port v l at in let t = total_snoc (λ u. u.parts) vs new_share in let p = f.parts in omega arith;
      once = λ k. let s = total_set (times_in k) views port v l at in let t = total_snoc (times_in k) vs new_share in let p = f.once k in omega arith;
      ended = let s = total_set (λ u. u.ended) views port v l at in let t = total_snoc (λ u. u.ended) vs new_share in let p = f.ended in omega arith;
      fits = λ j u e. ⊎_elim
          (λ x. fits_set (IsFit f.writer f.put f.got f.rest f.marks) views port l
          (record { puts = mine.puts; rising = mine.rising; taken = mine.taken; joined = mine.joined; ended = mine.ended; idle = λ h. absurd (omega (arith, h, many)) })
          (λ i z _ a. f.fits i z a) j u x)
          (λ (is : new_share ≡ u). subst (IsFit f.writer f.put f.got f.rest f.marks j) is (fresh_fit f.writer f.put f.got f.rest f.marks j 1))
          (at_snoc vs new_share u j e);
    }

-- a pass takes in what another took, whatever it puts from then on: what is counted over all passes stays
module _ (views : List Share) (port other : ℕ) (v u : Share) (puts : Bool) (put : List Completion) (marks : ℕ) where
  abbrev both : Share
  both = share (v.parts + u.parts) puts put marks v.taken (v.joined ++ (u.taken ++ u.joined)) (v.ended + u.ended)

  module _ (at : get_elem? views port ≡ some v) (at_other : get_elem? (set views port both) other ≡ some u) where
    same_parts : total (λ z. z.parts) views ≡ 1024 → total (λ z. z.parts) (set (set views port both) other spent_share) ≡ 1024
    same_parts p = let s = total_set (λ z. z.parts) views port v both at in let t = total_set (λ z. z.parts) (set views port both) other u spent_share at_other in omega arith

    same_once : (k : ℕ) (got : List Completion) → total (times_in k) views ≡ below k (length got) → total (times_in k) (set (set views port both) other spent_share) ≡ below k (length got)
    same_once k got p =
        let s = total_set (times_in k) views port v both at in
        let t = total_set (times_in k) (set views port both) other u spent_share at_other in
        let a = times_places k v.joined (u.taken ++ u.joined) in
        let b = times_places k u.taken u.joined in
        omega arith

    same_ended : (ends all : ℕ) → total (λ z. z.ended) views + ends ≡ all → total (λ z. z.ended) (set (set views port both) other spent_share) + ends ≡ all
    same_ended ends all p = let s = total_set (λ z. z.ended) views port v both at in let t = total_set (λ z. z.ended) (set views port both) other u spent_share at_other in omega arith

pub merges : (port : ℕ) (v : Share) (other : ℕ) (u : Share) → 0 < v.parts → Merges IsKept port v other u (joined_with v u) spent_share
merges port v other u some_part items views f at two at_other =
    let both = joined_with v u in
    let vs : List Share = set views port both in
    let mine = f.fits port v at in
    let was : get_elem? views other ≡ some u = ⊎_elim (λ x. absurd (two x.0)) (λ x. x.1) (at_set views port other both u at_other) in
    let theirs = f.fits other u was in
    record {
      writer = f.writer;
      put = f.put;
      got = f.got;
      rest = f.rest;
      marks = f.marks;
      ends = f.ends;
      all = f.all;
      held = f.held;
      parts = same_parts views port other v u v.puts v.put v.marks at at_other f.parts;
      once = λ k. same_once views port other v u v.puts v.put v.marks at at_other k f.got (f.once k);
      ended = same_ended views port other v u v.puts v.put v.marks at at_other f.ends f.marks f.ended;
      fits = fits_set (IsFit f.writer f.put f.got f.rest f.marks) vs other spent_share (fresh_fit f.writer f.put f.got f.rest f.marks other 0)
          (λ j z _ e. fits_set (IsFit f.writer f.put f.got f.rest f.marks) views port both
          (record {
            puts = mine.puts;
            rising = mine.rising;
            taken = mine.taken;
            joined = of_both f.got v.joined (u.taken ++ u.joined) mine.joined (of_both f.got u.taken u.joined theirs.taken theirs.joined);
            ended = λ h. both_ended f.rest v.ended u.ended mine.ended theirs.ended h;
            idle = λ h. absurd (omega (arith, h, some_part));
          })
          (λ i y _ a. f.fits i y a) j z e);
    }

at_end : (l : List Share) (a b : Share) (j : ℕ) → (get_elem? l j ≡ some b → ⊥) → get_elem? (l ++ a ∷ []) j ≡ some b → j ≡ length l
at_end [] a b zero n e = refl
at_end [] a b (suc j) n e = absurd (some-ne-none b (sym e))
at_end (x ∷ xs) a b zero n e = absurd (n e)
at_end (x ∷ xs) a b (suc j) n e = ap suc (at_end xs a b j n e)

pub lends : (port : ℕ) (v : Share) → 1 < v.parts → v.puts ≡ true → Forks IsKept port v (after_lend v) (lent_share v)
lends port v many may items views f at =
    let l = after_lend v in
    let r = lent_share v in
    let vs : List Share = set views port l in
    let mine = f.fits port v at in
    let Now : ℕ → Share → Type 0 = λ j u. (u.puts ≡ true → ⊥) × IsFit (length vs) f.put f.got f.rest f.marks j u in
    let now : (j : ℕ) (u : Share) → get_elem? vs j ≡ some u → Now j u = fits_set Now views port l
    ((λ p. true≢false (sym p)), record { puts = λ p. absurd (true≢false (sym p)); rising = mine.rising; taken = mine.taken; joined = mine.joined; ended = mine.ended; idle = λ h. absurd (omega (arith, h, many)) })
    (λ j u other a. let old = f.fits j u a in let no : u.puts ≡ true → ⊥ = λ p. other ((old.puts p).0 ∙ sym (mine.puts may).0) in
    (no, record { puts = λ p. absurd (no p); rising = old.rising; taken = old.taken; joined = old.joined; ended = old.ended; idle = old.idle })) in
    record {
      writer = length vs;
      put = f.put;
      got = f.got;
      rest = f.rest;
      marks = f.marks;
      ends = f.ends;
      all = f.all;
      held = f.held;
      parts = let s = total_set (λ u. u.parts) views port v l at in let t = total_snoc (λ u. u.parts) vs r in let p = f.parts in omega arith;
      once = λ k. let s = total_set (times_in k) views port v l at in let t = total_snoc (times_in k) vs r in let p = f.once k in omega arith;
      ended = let s = total_set (λ u. u.ended) views port v l at in let t = total_snoc (λ u. u.ended) vs r in let p = f.ended in omega arith;
      fits = λ j u e. ⊎_elim
          (λ x. (now j u x).1)
          (λ (is : r ≡ u). record {
            puts = λ p. (at_end vs r u j (λ a. (now j u a).0 p) e, ap (λ (y : Share). y.put) (sym is) ∙ (mine.puts may).1, ap (λ (y : Share). y.marks) (sym is) ∙ (mine.puts may).2);
            rising = subst (λ (y : Share). IsRising (places y.taken)) is (λ i k x y a b h. cc);
            taken = subst (λ (y : Share). AreOf f.got y.taken) is (of_none f.got);
            joined = subst (λ (y : Share). AreOf f.got y.joined) is (of_none f.got);
            ended = subst (λ (y : Share). 0 < y.ended → f.rest ≡ []) is (λ h. absurd (omega (arith, h)));
            idle = subst (λ (y : Share). y.parts ≡ 0 → (y.taken ≡ []) × (y.joined ≡ []) × (y.ended ≡ 0)) is (λ _. (refl, refl, refl));
          })
          (at_snoc vs r u j e);
    }

pub gives_back : (port : ℕ) (v : Share) (other : ℕ) (u : Share) → 0 < v.parts → u.puts ≡ true → Merges IsKept port v other u (returned_with v u) spent_share
gives_back port v other u some_part may items views f at two at_other =
    let both = returned_with v u in
    let vs : List Share = set views port both in
    let mine = f.fits port v at in
    let was : get_elem? views other ≡ some u = ⊎_elim (λ x. absurd (two x.0)) (λ x. x.1) (at_set views port other both u at_other) in
    let theirs = f.fits other u was in
    let Now : ℕ → Share → Type 0 = λ j y. j ≢ other → IsFit port f.put f.got f.rest f.marks j y in
    let now : (j : ℕ) (y : Share) → get_elem? vs j ≡ some y → Now j y = fits_set Now views port both
    (λ _. record {
      puts = λ _. (refl, (theirs.puts may).1, (theirs.puts may).2);
      rising = mine.rising;
      taken = mine.taken;
      joined = of_both f.got v.joined (u.taken ++ u.joined) mine.joined (of_both f.got u.taken u.joined theirs.taken theirs.joined);
      ended = λ h. both_ended f.rest v.ended u.ended mine.ended theirs.ended h;
      idle = λ h. absurd (omega (arith, h, some_part));
    })
    (λ j y _ a apart. let old = f.fits j y a in record {
      puts = λ p. absurd (apart ((old.puts p).0 ∙ sym (theirs.puts may).0));
      rising = old.rising;
      taken = old.taken;
      joined = old.joined;
      ended = old.ended;
      idle = old.idle;
    }) in
    record {
      writer = port;
      put = f.put;
      got = f.got;
      rest = f.rest;
      marks = f.marks;
      ends = f.ends;
      all = f.all;
      held = f.held;
      parts = same_parts views port other v u u.puts u.put u.marks at at_other f.parts;
      once = λ k. same_once views port other v u u.puts u.put u.marks at at_other k f.got (f.once k);
      ended = same_ended views port other v u u.puts u.put u.marks at at_other f.ends f.marks f.ended;
      fits = fits_set (IsFit port f.put f.got f.rest f.marks) vs other spent_share (fresh_fit port f.put f.got f.rest f.marks other 0) (λ j y apart e. now j y e apart);
    }

-- ---- what a pass learns

pub rises : (port : ℕ) (v : Share) → Learns IsKept port v (λ items. IsRising (places v.taken))
rises port v items views f at = (f.fits port v at).rising

idle_none : (k : ℕ) (u : Share) → u.taken ≡ [] → u.joined ≡ [] → times_in k u ≡ 0
idle_none k u a b = let p : times k (places u.taken) ≡ 0 = ap (λ l. times k (places l)) a in let q : times k (places u.joined) ≡ 0 = ap (λ l. times k (places l)) b in omega arith

-- nothing is left to take
all_got : (xs ys : List Completion) → xs ≡ ys ++ [] → xs ≡ ys
all_got xs [] h = h
all_got xs (y ∷ ys) h = h ∙ ap (λ l. y ∷ l) (all_got (ys ++ []) ys refl)

empty_parcels : (k : ℕ) (cs : List Completion) (ends : ℕ) → [] ≡ parcels (numbered k cs) ends → (cs ≡ []) × (ends ≡ 0)
empty_parcels k [] zero h = (refl, refl)
empty_parcels k [] (suc n) h = cc
empty_parcels k (c ∷ cs) ends h = cc

pub balances : (port : ℕ) (v : Share) → Learns IsKept port v (IsBalanced v)
balances port v items views f at all may empty =
    let mine = f.fits port v at in
    let nothing = empty_parcels (length f.got) f.rest f.ends (sym empty ∙ f.held) in
    let same : v.put ≡ f.got = all_got v.put f.got ((mine.puts may).1 ∙ f.all ∙ ap (λ l. f.got ++ l) nothing.0) in
    let whole = f.parts ∙ sym all in
    record {
      once = λ k.
          let o = only (times_in k) views port v (λ j u a p. let i = (f.fits j u a).idle p in idle_none k u i.0 i.1) whole at in
          let p = f.once k in
          let b : below k (length v.put) ≡ below k (length f.got) = ap (λ l. below k (length l)) same in
          omega arith;
      taken = subst (λ l. AreOf l v.taken) (sym same) mine.taken;
      joined = subst (λ l. AreOf l v.joined) (sym same) mine.joined;
      rising = mine.rising;
      ended =
          let o = only (λ u. u.ended) views port v (λ j u a p. ((f.fits j u a).idle p).2) whole at in
          let p = f.ended in
          let m = (mine.puts may).2 in
          omega (arith, nothing.1);
    }

no_items : (items : List QueueItem) → length items ≡ 0 → items ≡ []
no_items [] none = refl
no_items (x ∷ xs) none = absurd (omega (arith, none))

-- what a pop that finds the queue empty tells
pub told : (v : Share) → Held 0 (IsBalanced v) → v.parts ≡ 1024 → v.puts ≡ true → IsWhole v
told v h all may = h.2 all may (no_items h.0 h.1)
