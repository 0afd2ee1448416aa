-- The words of each command, as `clap` splits them.
use Rattle.std.proofs.Common.{◌≡◌, ◌∙◌, ℕ, List, [], ◌∷◌, Some, None, ap, codes}
use Rattle.clap.specs.Walk.{Held, Row, Rule, Text, nothing_held, walk, walked}
use Rattle.clap.specs.declared.builder.action.ArgAction.TheVariants.{Set}
use Rattle.clap.specs.declared.builder.value_parser.ValueParser.TheVariants as parser
use Rattle.clap.specs.declared.builder.value_parser.Reading.TheVariants.{AsWritten}
use Rattle.clap.specs.declared.parser.matches.ValueSource.TheVariants.{CommandLine}
use Rattle.command_line.specs.Splitting.{place_rule}
use Rattle.command_line.proofs.Plain.{IsPlain, between, goes_on}

-- ---- places

-- a place of one word, as it is built
abbrev pub numbered : ℕ → Text → Rule
numbered i id = record (place_rule id) {
  action = Some Set;
  range = Some (record { start_inclusive = 1; end_inclusive = 1 });
  parser = Some parser.String;
  index = Some i;
}

-- the word of a place
abbrev pub row : Text → Text → Row
row id word = record { id = id; values = word ∷ []; count = None; source = Some CommandLine; reading = AsWritten }

-- behind the word of a place
abbrev pub behind : List Row → Text → Text → Held
behind rows id word = record { rows = rows; pending = Some (id, word ∷ []); skip = 0 }

-- ---- `show-dump`

abbrev pub show_dump_rules : List Rule
show_dump_rules = numbered 1 (codes "name") ∷ []

pub show_dump_walk : (n : Text) → IsPlain n → walk show_dump_rules [] nothing_held (n ∷ []) ≡ between (behind [] (codes "name") n) 2
show_dump_walk n p = goes_on show_dump_rules nothing_held 1 n p

-- ---- `node`

abbrev pub node_rules : List Rule
node_rules = numbered 1 (codes "id") ∷ numbered 2 (codes "address") ∷ []

abbrev pub id_held : Text → Held
id_held i = behind [] (codes "id") i

abbrev pub address_held : Text → Text → Held
address_held i a = behind (row (codes "id") i ∷ []) (codes "address") a

pub node_walk : (i a : Text) → IsPlain i → IsPlain a → walk node_rules [] nothing_held (i ∷ a ∷ []) ≡ between (address_held i a) 3
node_walk i a pi pa = ap (λ w. walked node_rules [] w a) (goes_on node_rules nothing_held 1 i pi) ∙ goes_on node_rules (id_held i) 2 a pa

-- ---- `bulk`

abbrev pub bulk_rules : List Rule
bulk_rules = numbered 1 (codes "seed") ∷ numbered 2 (codes "connections") ∷ numbered 3 (codes "messages") ∷ numbered 4 (codes "moves") ∷ []

abbrev pub first_held : Text → Held
first_held s = behind [] (codes "seed") s

abbrev pub second_held : Text → Text → Held
second_held s c = behind (row (codes "seed") s ∷ []) (codes "connections") c

abbrev pub third_held : Text → Text → Text → Held
third_held s c m = behind (row (codes "seed") s ∷ row (codes "connections") c ∷ []) (codes "messages") m

abbrev pub fourth_held : Text → Text → Text → Text → Held
fourth_held s c m v = behind (row (codes "seed") s ∷ row (codes "connections") c ∷ row (codes "messages") m ∷ []) (codes "moves") v

first_step : (s : Text) → IsPlain s → walked bulk_rules [] (between nothing_held 1) s ≡ between (first_held s) 2
first_step s p = goes_on bulk_rules nothing_held 1 s p

second_step : (s c : Text) → IsPlain c → walked bulk_rules [] (between (first_held s) 2) c ≡ between (second_held s c) 3
second_step s c p = goes_on bulk_rules (first_held s) 2 c p

third_step : (s c m : Text) → IsPlain m → walked bulk_rules [] (between (second_held s c) 3) m ≡ between (third_held s c m) 4
third_step s c m p = goes_on bulk_rules (second_held s c) 3 m p

fourth_step : (s c m v : Text) → IsPlain v → walked bulk_rules [] (between (third_held s c m) 4) v ≡ between (fourth_held s c m v) 5
fourth_step s c m v p = goes_on bulk_rules (third_held s c m) 4 v p

pub bulk_walk : (s c m v : Text) → IsPlain s → IsPlain c → IsPlain m → IsPlain v → walk bulk_rules [] nothing_held (s ∷ c ∷ m ∷ v ∷ []) ≡ between (fourth_held s c m v) 5
bulk_walk s c m v ps pc pm pv =
    ap (λ w. walked bulk_rules [] (walked bulk_rules [] (walked bulk_rules [] w c) m) v) (first_step s ps)
    ∙ ap (λ w. walked bulk_rules [] (walked bulk_rules [] w m) v) (second_step s c pc)
    ∙ ap (λ w. walked bulk_rules [] w v) (third_step s c m pm)
    ∙ fourth_step s c m v pv
