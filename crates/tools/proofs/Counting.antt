-- The entries of lists, one list more.
use Rattle.std.proofs.Common.{arith, ◌≡◌, ℕ, ◌+◌, ◌<◌, List, [], ◌∷◌, ◌++◌, length, take, get_or, flat_map, ap, sym, ◌∙◌}
use Rattle.std.proofs.lemmas.List.{append-nil, length-append, take_more}
use Rattle.std.proofs.lemmas.List.Concat.{flat_map-append}
use Rattle.completion_fanout.specs.declared.entry.FanEntry.{FanEntry}
use Rattle.tools.specs.Fanout.{entries_in}

pub entries_more : (lists : List (List FanEntry)) (n : ℕ) (es : List FanEntry) (before all : ℕ) → n < length lists → es ≡ get_or lists n es → before ≡ entries_in (take n lists) → all ≡ before + length es → all ≡ entries_in (take (n + 1) lists)
entries_more lists n es before all h at so more =
    let one : take (n + 1) lists ≡ take n lists ++ es ∷ [] = take_more lists n es h ∙ ap (λ (x : List FanEntry). take n lists ++ x ∷ []) (sym at) in
    let joined : entries_in (take n lists ++ es ∷ []) ≡ entries_in (take n lists) + length (es ++ []) =
    ap length (flat_map-append (λ (l : List FanEntry). l) (take n lists) (es ∷ [])) ∙ length-append (flat_map (λ (l : List FanEntry). l) (take n lists)) (es ++ []) in
    let whole : entries_in (take (n + 1) lists) ≡ entries_in (take n lists ++ es ∷ []) = ap entries_in one in
    let same : length (es ++ []) ≡ length es = ap length (append-nil es) in
    omega (arith, so, more, joined, whole, same)
