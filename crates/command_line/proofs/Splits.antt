-- Words that are of a command are taken by `clap`, and say the same once they are split.
use Rattle.std.proofs.Common.{◌≡◌, ◌∙◌, true, List, [], ◌∷◌, Some, refl, ap, codes}
use Rattle.clap.specs.Walk.{Row, Text, Walk, rows_after, stop_after, walked, finished}
use Rattle.clap.specs.Words.{Shape, built, subcommand_of, takes}
use Rattle.clap.specs.Simple.{entered, names_of}
use Rattle.clap.proofs.OnLiterals.{clap_on_literals}
use Rattle.program_rules.specs.Commands as rules
use Rattle.program_rules.specs.Commands.{placed_of}
use Rattle.command_line.specs.Splitting.{spelled_in, splitter_app}
use Rattle.command_line.proofs.Plain.{IsPlain}
use Rattle.command_line.proofs.Leaves.{bulk_rules, bulk_walk, node_rules, node_walk, show_dump_rules, show_dump_walk, row}

-- ---- `play`

pub play_taken : takes splitter_app (codes "play" ∷ []) ≡ true
unfolding clap_on_literals
play_taken = refl

pub play_split : spelled_in (subcommand_of splitter_app (codes "play" ∷ [])) ≡ Some rules.Play
unfolding clap_on_literals
play_split = refl

-- ---- `audit`

pub audit_taken : takes splitter_app (codes "audit" ∷ []) ≡ true
unfolding clap_on_literals
audit_taken = refl

pub audit_split : spelled_in (subcommand_of splitter_app (codes "audit" ∷ [])) ≡ Some rules.Audit
unfolding clap_on_literals
audit_split = refl

-- ---- `record`

pub record_taken : takes splitter_app (codes "record" ∷ []) ≡ true
unfolding clap_on_literals
record_taken = refl

pub record_split : spelled_in (subcommand_of splitter_app (codes "record" ∷ [])) ≡ Some rules.Record
unfolding clap_on_literals
record_split = refl

-- ---- `show-dump`

abbrev pub top : Shape
top = (built splitter_app).top

abbrev pub names : List (Text × List Text)
names = names_of (built splitter_app)

pub show_dump_stop : (n : Text) → stop_after top.rules names (codes "show-dump" ∷ n ∷ []) ≡ Some (codes "show-dump", n ∷ [])
unfolding walked
show_dump_stop n = refl

show_dump_rows : (n : Text) → IsPlain n → rows_after show_dump_rules [] (n ∷ []) ≡ row (codes "name") n ∷ []
show_dump_rows n p = ap (λ (w : Walk). finished show_dump_rules w.held) (show_dump_walk n p)

pub show_dump_subcommand : (n : Text) → IsPlain n → subcommand_of splitter_app (codes "show-dump" ∷ n ∷ []) ≡ Some (codes "show-dump", row (codes "name") n ∷ [])
show_dump_subcommand n p = ap (entered (built splitter_app)) (show_dump_stop n) ∙ ap (λ rows. Some (codes "show-dump", rows)) (show_dump_rows n p)

pub show_dump_split : (n : Text) → IsPlain n → spelled_in (subcommand_of splitter_app (codes "show-dump" ∷ n ∷ [])) ≡ rules.show_dump_of (n ∷ [])
show_dump_split n p = ap spelled_in (show_dump_subcommand n p)

-- ---- `node`

pub node_stop : (i a : Text) → stop_after top.rules names (codes "node" ∷ i ∷ a ∷ []) ≡ Some (codes "node", i ∷ a ∷ [])
unfolding walked
node_stop i a = refl

abbrev pub node_rows : Text → Text → List Row
node_rows i a = row (codes "id") i ∷ row (codes "address") a ∷ []

node_rows_after : (i a : Text) → IsPlain i → IsPlain a → rows_after node_rules [] (i ∷ a ∷ []) ≡ node_rows i a
node_rows_after i a pi pa = ap (λ (w : Walk). finished node_rules w.held) (node_walk i a pi pa)

pub node_subcommand : (i a : Text) → IsPlain i → IsPlain a → subcommand_of splitter_app (codes "node" ∷ i ∷ a ∷ []) ≡ Some (codes "node", node_rows i a)
node_subcommand i a pi pa = ap (entered (built splitter_app)) (node_stop i a) ∙ ap (λ rows. Some (codes "node", rows)) (node_rows_after i a pi pa)

pub node_split : (i a : Text) → IsPlain i → IsPlain a → spelled_in (subcommand_of splitter_app (codes "node" ∷ i ∷ a ∷ [])) ≡ rules.node_of (i ∷ a ∷ [])
node_split i a pi pa = ap spelled_in (node_subcommand i a pi pa)

-- ---- `bulk`

pub bulk_stop : (s c m v : Text) → stop_after top.rules names (codes "bulk" ∷ s ∷ c ∷ m ∷ v ∷ []) ≡ Some (codes "bulk", s ∷ c ∷ m ∷ v ∷ [])
unfolding walked
bulk_stop s c m v = refl

abbrev pub bulk_rows : Text → Text → Text → Text → List Row
bulk_rows s c m v = row (codes "seed") s ∷ row (codes "connections") c ∷ row (codes "messages") m ∷ row (codes "moves") v ∷ []

bulk_rows_after : (s c m v : Text) → IsPlain s → IsPlain c → IsPlain m → IsPlain v → rows_after bulk_rules [] (s ∷ c ∷ m ∷ v ∷ []) ≡ bulk_rows s c m v
bulk_rows_after s c m v ps pc pm pv = ap (λ (w : Walk). finished bulk_rules w.held) (bulk_walk s c m v ps pc pm pv)

pub bulk_subcommand : (s c m v : Text) → IsPlain s → IsPlain c → IsPlain m → IsPlain v → subcommand_of splitter_app (codes "bulk" ∷ s ∷ c ∷ m ∷ v ∷ []) ≡ Some (codes "bulk", bulk_rows s c m v)
bulk_subcommand s c m v ps pc pm pv = ap (entered (built splitter_app)) (bulk_stop s c m v) ∙ ap (λ rows. Some (codes "bulk", rows)) (bulk_rows_after s c m v ps pc pm pv)

pub bulk_split : (s c m v : Text) → IsPlain s → IsPlain c → IsPlain m → IsPlain v → spelled_in (subcommand_of splitter_app (codes "bulk" ∷ s ∷ c ∷ m ∷ v ∷ [])) ≡ rules.bulk_of (s ∷ c ∷ m ∷ v ∷ [])
bulk_split s c m v ps pc pm pv = ap spelled_in (bulk_subcommand s c m v ps pc pm pv)
