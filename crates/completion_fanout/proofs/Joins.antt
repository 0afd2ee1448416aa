-- Consumers that are joined, one after the other.
use Rattle.std.proofs.Common.{arith, ◌≡◌, ℕ, ◌+◌, Bool, false, List, [], ◌∷◌, ◌++◌, flat_map, slice_get, Some, refl, ap, sym, subst, ◌∙◌, append_assoc, inl, inr}
use Rattle.crossbeam_queue.specs.Passes.{view, IsPassOf, Pass}
use Rattle.completion_fanout.specs.declared.entry.FanEntry.{FanEntry}
use Rattle.completion_fanout.specs.declared.entry.QueueItem.{QueueItem}
use Rattle.completion_fanout.specs.declared.rule.Share.{Share}
use Rattle.completion_fanout.specs.declared.serving.Served.{Served}
use Rattle.completion_fanout.specs.Fanned.{IsRising, places}
use Rattle.completion_fanout.specs.Rule.{joined_with, root_share, taker_share}
use Rattle.completion_fanout.specs.Served.{AreServed, IsServed, Queue}
use Rattle.completion_fanout.proofs.Lists.{get_push}

flat_more : (lists : List (List FanEntry)) (es : List FanEntry) → flat_map (λ (l : List FanEntry). l) (lists ++ es ∷ []) ≡ flat_map (λ (l : List FanEntry). l) lists ++ (es ++ [])
flat_more [] es = refl
flat_more (x ∷ xs) es = ap (λ l. x ++ l) (flat_more xs es) ∙ sym (append_assoc x (flat_map (λ (l : List FanEntry). l) xs) (es ++ []))

joined_root : (v u : Share) (lists : List (List FanEntry)) (es : List FanEntry) → v ≡ root_share v.parts (flat_map (λ (l : List FanEntry). l) lists) v.ended → u ≡ taker_share es u.ended
    → joined_with v u ≡ root_share (v.parts + 1) (flat_map (λ (l : List FanEntry). l) (lists ++ es ∷ [])) (v.ended + u.ended)
joined_root v u lists es is_v is_u =
    ap (λ (z : Share). joined_with z u) is_v
    ∙ ap (joined_with (root_share v.parts (flat_map (λ (l : List FanEntry). l) lists) v.ended)) is_u
    ∙ ap (λ (l : List FanEntry). root_share (v.parts + 1) l (v.ended + u.ended)) (sym (flat_more lists es))

one_more : (P : List FanEntry → Type 0) (lists : List (List FanEntry)) (es : List FanEntry) → ((i : ℕ) (l : List FanEntry) → slice_get lists i ≡ Some l → P l) → P es → (i : ℕ) (l : List FanEntry) → slice_get (lists ++ es ∷ []) i ≡ Some l → P l
one_more P lists es all last i l at = elim (get_push lists es i l at) [ inl a ↦ all i l a.1 | inr b ↦ subst P (sym b.1) last ]

pub served_more : (queue : Queue) (root next : Pass QueueItem Share) (lists more : List (List FanEntry)) (s : Served) (a b : Bool)
    → AreServed queue (view root).parts root lists a → IsServed queue s → IsPassOf queue next → view next ≡ joined_with (view root) (view s.pass)
    → IsRising (places (view s.pass).taken) → more ≡ lists ++ s.taken ∷ [] → (b ≡ false → (a ≡ false) × (s.is_out_of_memory ≡ false))
    → AreServed queue ((view root).parts + 1) next more b
served_more queue root next lists more s a b all one pass joined rising is short =
    let ended : (view next).ended ≡ (view root).ended + (view s.pass).ended = ap (λ (z : Share). z.ended) joined in
    let parts : (view next).parts ≡ (view root).parts + (view s.pass).parts = ap (λ (z : Share). z.parts) joined in
    let one_part = one.parts in
    let mark = one.marked in
    let whole : b ≡ false → view next ≡ root_share ((view root).parts + 1) (flat_map (λ (l : List FanEntry). l) (lists ++ s.taken ∷ [])) ((view root).ended + (view s.pass).ended) =
    λ h. joined ∙ joined_root (view root) (view s.pass) lists s.taken (all.knows (short h).0) (one.knows (short h).1) in
    let mine : b ≡ false → IsRising (places s.taken) = λ h. subst (λ (l : List FanEntry). IsRising (places l)) (ap (λ (z : Share). z.taken) (one.knows (short h).1)) rising in
    record {
      pass = pass;
      parts_are = omega (arith, parts, one_part);
      marked = λ _. omega (arith, ended, mark);
      knows = λ h. whole h
          ∙ ap (λ l. root_share ((view root).parts + 1) (flat_map (λ (l : List FanEntry). l) l) ((view root).ended + (view s.pass).ended)) (sym is)
          ∙ ap (root_share ((view root).parts + 1) (flat_map (λ (l : List FanEntry). l) more)) (sym ended);
      rising = λ h. subst (λ ls. (i : ℕ) (es : List FanEntry) → slice_get ls i ≡ Some es → IsRising (places es)) (sym is) (one_more (λ l. IsRising (places l)) lists s.taken (all.rising (short h).0) (mine h));
    }
