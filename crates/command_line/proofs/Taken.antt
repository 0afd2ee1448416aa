-- The words of each command are taken by `clap`.
use Rattle.std.proofs.Common.{◌≡◌, ◌∙◌, Bool, true, false, ◌&&◌, List, [], ◌∷◌, Option, is_some, refl, ap, ap₂, codes}
use Rattle.std.specs.List.{list_all}
use Rattle.clap.specs.Walk.{Text, Walk, finished, nothing_held, walk_from, walked}
use Rattle.clap.specs.Words.{Shape, built, takes}
use Rattle.clap.specs.Simple.{built_leaf, entered, inherited}
use Rattle.clap.specs.Takes.{default_passes, entered_passes, is_valid, level_passes, settle_passes, walk_passes}
use Rattle.command_line.specs.Splitting.{bulk_shape, node_shape, show_dump_shape, splitter_app}
use Rattle.command_line.proofs.Plain.{IsPlain, passes_end, passes_on}
use Rattle.command_line.proofs.Leaves.{bulk_walk, first_held, id_held, node_walk, second_held, show_dump_walk, third_held}
use Rattle.command_line.proofs.Splits.{bulk_stop, names, node_stop, show_dump_stop, top}

-- ---- at the top

top_takes_show_dump : (n : Text) → level_passes top names nothing_held (codes "show-dump" ∷ n ∷ []) true ≡ true
unfolding walked walk_passes
top_takes_show_dump n = refl

top_takes_bulk : (s c m v : Text) → level_passes top names nothing_held (codes "bulk" ∷ s ∷ c ∷ m ∷ v ∷ []) true ≡ true
unfolding walked walk_passes
top_takes_bulk s c m v = refl

top_takes_node : (i a : Text) → level_passes top names nothing_held (codes "node" ∷ i ∷ a ∷ []) true ≡ true
unfolding walked walk_passes
top_takes_node i a = refl

-- ---- `show-dump`

abbrev show_dump_built : Shape
show_dump_built = built_leaf (inherited top show_dump_shape)

show_dump_passes : (n : Text) → IsPlain n → walk_passes show_dump_built [] (walk_from nothing_held) (n ∷ []) ≡ true
show_dump_passes n p = passes_on show_dump_built nothing_held 1 n [] p ∙ passes_end show_dump_built _

-- what follows a walk
abbrev rest_passes : Shape → Walk → Bool
rest_passes s w = settle_passes s.rules s.args_override_self w.held && (list_all default_passes s.rules && is_valid s (finished s.rules w.held) false)

show_dump_takes : (n : Text) → IsPlain n → level_passes show_dump_built [] nothing_held (n ∷ []) false ≡ true
show_dump_takes n p = ap₂ (λ (a : Bool) (w : Walk). a && rest_passes show_dump_built w) (show_dump_passes n p) (show_dump_walk n p)

pub show_dump_taken : (n : Text) → IsPlain n → takes splitter_app (codes "show-dump" ∷ n ∷ []) ≡ true
show_dump_taken n p =
    ap (λ (stop : Option (Text × List Text)). entered_passes (built splitter_app) stop && level_passes top names nothing_held (codes "show-dump" ∷ n ∷ []) (is_some (entered (built splitter_app) stop))) (show_dump_stop n)
    ∙ ap₂ (λ (a b : Bool). a && b) (show_dump_takes n p) (top_takes_show_dump n)

-- ---- `node`

abbrev node_built : Shape
node_built = built_leaf (inherited top node_shape)

node_passes : (i a : Text) → IsPlain i → IsPlain a → walk_passes node_built [] (walk_from nothing_held) (i ∷ a ∷ []) ≡ true
node_passes i a pi pa = passes_on node_built nothing_held 1 i (a ∷ []) pi ∙ passes_on node_built (id_held i) 2 a [] pa ∙ passes_end node_built _

node_takes : (i a : Text) → IsPlain i → IsPlain a → level_passes node_built [] nothing_held (i ∷ a ∷ []) false ≡ true
node_takes i a pi pa = ap₂ (λ (b : Bool) (w : Walk). b && rest_passes node_built w) (node_passes i a pi pa) (node_walk i a pi pa)

pub node_taken : (i a : Text) → IsPlain i → IsPlain a → takes splitter_app (codes "node" ∷ i ∷ a ∷ []) ≡ true
node_taken i a pi pa =
    ap (λ (stop : Option (Text × List Text)). entered_passes (built splitter_app) stop && level_passes top names nothing_held (codes "node" ∷ i ∷ a ∷ []) (is_some (entered (built splitter_app) stop))) (node_stop i a)
    ∙ ap₂ (λ (b c : Bool). b && c) (node_takes i a pi pa) (top_takes_node i a)

-- ---- `bulk`

abbrev bulk_built : Shape
bulk_built = built_leaf (inherited top bulk_shape)

bulk_passes : (s c m v : Text) → IsPlain s → IsPlain c → IsPlain m → IsPlain v → walk_passes bulk_built [] (walk_from nothing_held) (s ∷ c ∷ m ∷ v ∷ []) ≡ true
bulk_passes s c m v ps pc pm pv =
    passes_on bulk_built nothing_held 1 s (c ∷ m ∷ v ∷ []) ps
    ∙ passes_on bulk_built (first_held s) 2 c (m ∷ v ∷ []) pc
    ∙ passes_on bulk_built (second_held s c) 3 m (v ∷ []) pm
    ∙ passes_on bulk_built (third_held s c m) 4 v [] pv
    ∙ passes_end bulk_built _

bulk_takes : (s c m v : Text) → IsPlain s → IsPlain c → IsPlain m → IsPlain v → level_passes bulk_built [] nothing_held (s ∷ c ∷ m ∷ v ∷ []) false ≡ true
bulk_takes s c m v ps pc pm pv = ap₂ (λ (a : Bool) (w : Walk). a && rest_passes bulk_built w) (bulk_passes s c m v ps pc pm pv) (bulk_walk s c m v ps pc pm pv)

pub bulk_taken : (s c m v : Text) → IsPlain s → IsPlain c → IsPlain m → IsPlain v → takes splitter_app (codes "bulk" ∷ s ∷ c ∷ m ∷ v ∷ []) ≡ true
bulk_taken s c m v ps pc pm pv =
    ap (λ (stop : Option (Text × List Text)). entered_passes (built splitter_app) stop && level_passes top names nothing_held (codes "bulk" ∷ s ∷ c ∷ m ∷ v ∷ []) (is_some (entered (built splitter_app) stop))) (bulk_stop s c m v)
    ∙ ap₂ (λ (a b : Bool). a && b) (bulk_takes s c m v ps pc pm pv) (top_takes_bulk s c m v)
