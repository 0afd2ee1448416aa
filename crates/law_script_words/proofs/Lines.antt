-- The lines of a text, each of which is ended by a newline.
use Rattle.std.proofs.Common.{◌≡◌, ℕ, List, [], ◌∷◌, length, ap, sym, ◌∙◌, refl, arith}
use Rattle.std.specs.List.{slice_split}
use Rattle.std.proofs.lemmas.List.Splits.{length-slice_split}
use Rattle.script_lang.specs.Scripts.{but_last, ended_lines, is_newline}

-- the pieces behind the first line
pub lines_cut : (line : List ℕ) (pieces : List (List ℕ)) (b : List ℕ) (more : List (List ℕ)) → pieces ≡ b ∷ more → but_last (line ∷ pieces) ≡ line ∷ but_last pieces
unfolding but_last
lines_cut line pieces b more e = ap (λ z. but_last (line ∷ z)) e ∙ ap (λ z. line ∷ but_last z) (sym e)

-- there is always a piece
some_pieces : (bs : List ℕ) → (b : List ℕ) × (more : List (List ℕ)) × (slice_split is_newline bs ≡ b ∷ more)
some_pieces bs = by (slice_split is_newline bs) refl
  where
    by : (pieces : List (List ℕ)) → slice_split is_newline bs ≡ pieces → (b : List ℕ) × (more : List (List ℕ)) × (slice_split is_newline bs ≡ b ∷ more)
    by [] e = absurd (let count = length-slice_split is_newline bs in omega (arith, count, ap length e))
    by (b ∷ more) e = (b, more, e)

-- the lines of a text that is cut behind its first one
pub lines_of_cut : (text line behind : List ℕ) → slice_split is_newline text ≡ line ∷ slice_split is_newline behind → ended_lines text ≡ line ∷ ended_lines behind
lines_of_cut text line behind cut = let p = some_pieces behind in ap but_last cut ∙ lines_cut line (slice_split is_newline behind) p.0 p.1 p.2
