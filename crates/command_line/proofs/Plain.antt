-- Words that do not begin with a hyphen, and what `clap` makes of them at a place.
use Rattle.std.proofs.Common.{◌≡◌, ℕ, ◌==◌, ◌&&◌, true, false, List, [], ◌∷◌, None, refl, ap₂, bytes_eq}
use Rattle.clap.specs.Lexer.{strip_byte}
use Rattle.clap.specs.Walk.{Held, Rule, Text, Walk, arg_by_index, idle, to_positional, value, walked}
use Rattle.clap.specs.Words.{Shape}
use Rattle.clap.specs.Takes.{step_passes, turn_passes, walk_passes}

-- no option, and not `--` either
pub record IsPlain (word : Text) : Type 0 where
  pub bare : strip_byte 45 word ≡ None
  pub apart : bytes_eq word (45 ∷ 45 ∷ []) ≡ false

-- its first byte is no hyphen
pub plain : (b : ℕ) (bs : Text) → (b == 45) ≡ false → IsPlain (b ∷ bs)
plain b bs e = record { bare = rw e refl; apart = rw e refl }

-- between two words
abbrev pub between : Held → ℕ → Walk
between held position = record { held = held; waiting = idle; position = position; is_trailing = false; stopped = None }

-- such a word goes to the place that is next
pub goes_on : (c : List Rule) (held : Held) (position : ℕ) (word : Text) → IsPlain word → walked c [] (between held position) word ≡ to_positional c (arg_by_index c position) word (between held position) held
unfolding walked
goes_on c held position word p = rw (p.apart, p.bare, p.bare) refl

-- .. and passes where it may stand there
pub passes_here : (s : Shape) (held : Held) (position : ℕ) (word : Text) → IsPlain word → turn_passes s [] (between held position) word ≡ step_passes s position held value
passes_here s held position word p = rw (p.apart, p.bare, p.bare) refl

pub passes_on : (s : Shape) (held : Held) (position : ℕ) (word : Text) (rest : List Text) → IsPlain word
    → walk_passes s [] (between held position) (word ∷ rest) ≡ (step_passes s position held value && walk_passes s [] (to_positional s.rules (arg_by_index s.rules position) word (between held position) held) rest)
unfolding walk_passes
passes_on s held position word rest p = ap₂ (λ a w. a && walk_passes s [] w rest) (passes_here s held position word p) (goes_on s.rules held position word p)

pub passes_end : (s : Shape) (w : Walk) → walk_passes s [] w [] ≡ true
unfolding walk_passes
passes_end s w = refl
