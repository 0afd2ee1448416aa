-- Completions that the caller deals out, one more, and lists, one more.
use Rattle.std.proofs.Common.{arith, ◌≡◌, ℕ, suc, ◌+◌, ◌<◌, ◌==◌, ◌%◌, if◌then◌else◌, Bool, true, false, List, [], ◌∷◌, ◌++◌, length, take, get_or, slice_get, Some, refl, ap, sym, subst, ◌∙◌, ◌⊎◌, inl, inr}
use Rattle.std.proofs.lemmas.List.{length-append, length-take, take_more}
use Rattle.rdma_types.specs.declared.requests.Completion.{Completion}
use Rattle.completion_fanout.specs.declared.entry.FanEntry.{FanEntry}
use Rattle.completion_fanout.specs.Fanned.{IsDealt, dealt_to}
use Rattle.completion_fanout.proofs.Lists.{get_push}

module _ (consumers i : ℕ) where
  joined : (b : Bool) (e : FanEntry) (xs ys : List FanEntry) → (if b then e ∷ (xs ++ ys) else xs ++ ys) ≡ (if b then e ∷ xs else xs) ++ ys
  joined true e xs ys = refl
  joined false e xs ys = refl

  dealt_push : (k : ℕ) (cs : List Completion) (c : Completion) → dealt_to consumers i k (cs ++ c ∷ []) ≡ dealt_to consumers i k cs ++ dealt_to consumers i (k + length cs) (c ∷ [])
  unfolding dealt_to
  dealt_push k [] c = ap (λ n. dealt_to consumers i n (c ∷ [])) (omega arith)
  dealt_push k (x ∷ cs) c =
      let more : dealt_to consumers i (k + 1) (cs ++ c ∷ []) ≡ dealt_to consumers i (k + 1) cs ++ dealt_to consumers i (k + length (x ∷ cs)) (c ∷ []) =
      dealt_push (k + 1) cs c ∙ ap (λ n. dealt_to consumers i (k + 1) cs ++ dealt_to consumers i n (c ∷ [])) (omega arith) in
      ap (λ (es : List FanEntry). if k % consumers == i then record { place = k; completion = x } ∷ es else es) more
      ∙ joined (k % consumers == i) (record { place = k; completion = x }) (dealt_to consumers i (k + 1) cs) (dealt_to consumers i (k + length (x ∷ cs)) (c ∷ []))

  pub dealt_none : [] ≡ dealt_to consumers i 0 []
  unfolding dealt_to
  dealt_none = refl

  pub dealt_more : (cs : List Completion) (k : ℕ) (c : Completion) (before all : List FanEntry) → k < length cs → before ≡ dealt_to consumers i 0 (take k cs) → all ≡ before ++ dealt_to consumers i k (get_or cs k c ∷ []) → all ≡ dealt_to consumers i 0 (take (k + 1) cs)
  dealt_more cs k c before all h so more =
      let n : k ≡ 0 + length (take k cs) = omega (arith, length-take k cs) in
      more
      ∙ (ap (λ (es : List FanEntry). es ++ dealt_to consumers i k (get_or cs k c ∷ [])) so
      ∙ (ap (λ m. dealt_to consumers i 0 (take k cs) ++ dealt_to consumers i m (get_or cs k c ∷ [])) n
      ∙ (sym (dealt_push 0 (take k cs) (get_or cs k c))
      ∙ ap (dealt_to consumers i 0) (sym (take_more cs k c h)))))

-- a list for each of the first consumers
pub record AreDealt (consumers n : ℕ) (cs : List Completion) (lists : List (List FanEntry)) : Type 0 where
  pub count : length lists ≡ n
  pub each : (i : ℕ) (es : List FanEntry) → slice_get lists i ≡ Some es → es ≡ dealt_to consumers i 0 cs

pub none_dealt : (consumers : ℕ) (cs : List Completion) → AreDealt consumers 0 cs []
none_dealt consumers cs = record { count = refl; each = λ i es at. cc }

pub all_dealt : (consumers : ℕ) (cs : List Completion) (lists : List (List FanEntry)) → AreDealt consumers consumers cs lists → IsDealt consumers cs lists
all_dealt consumers cs lists are = record { lists = are.count; each = are.each }

pub one_more_dealt : (consumers n : ℕ) (cs : List Completion) (lists all : List (List FanEntry)) (es : List FanEntry) → AreDealt consumers n cs lists → all ≡ lists ++ es ∷ [] → es ≡ dealt_to consumers n 0 cs → AreDealt consumers (n + 1) cs all
one_more_dealt consumers n cs lists all es before is this = record {
  count = ap length is ∙ omega (arith, length-append lists (es ∷ []), before.count);
  each = λ i x at. elim (get_push lists es i x (subst (λ (ls : List (List FanEntry)). slice_get ls i ≡ Some x) is at)) [ inl a ↦ before.each i x a.1 | inr b ↦ b.1 ∙ (this ∙ ap (λ m. dealt_to consumers m 0 cs) (omega (arith, before.count, b.0))) ];
}
