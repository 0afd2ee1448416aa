-- A command that asks for a generated script names a mix in its ranges.
use Rattle.std.proofs.Common.{◌≡◌, ℕ, ◌≤◌, ◌&&◌, Bool, true, false, not, length, nat_le, if◌then◌else◌, List, [], ◌∷◌, Option, Some, None, refl, subst, arith, codes}
use Rattle.std.specs.Prelude.{bytes_eq, option_and_then}
use Rattle.std.proofs.lemmas.Bool.Decides.{nat_tests}
use Rattle.rdma_types.specs.declared.names.Name.{Name}
use Rattle.rdma_types.specs.declared.requests.Address.{Address}
use Rattle.script_lang.specs.Texts.{digits_after, greatest_u64, is_decimal, name_of, number_in}
use Rattle.workload_gen.specs.declared.plan.Mix.{Mix}
use Rattle.program_rules.specs.Commands.{Audit, Bulk, Evacuate, Node, Play, Record, ShowDump, alone, bulk_of, command_of, evacuate_by, evacuate_of, ids_of, mix_of, node_of, own_of, placed_of, repeats, show_dump_of}
use Rattle.program_rules.specs.Mixes.{IsMix}

in_range : (low high n m : ℕ) → (if nat_le low n && nat_le n high then Some n else None) ≡ Some m → (low ≤ m) × (m ≤ high)
in_range low high n m h = grind (arith, nat_tests)

guarded : (decimal : Bool) (low high n m : ℕ) → (if decimal && (nat_le low n && nat_le n high) then Some n else None) ≡ Some m → (low ≤ m) × (m ≤ high)
guarded true low high n m h = in_range low high n m h
guarded false low high n m h = cc h

range_of : (low high n : ℕ) (text : List ℕ) → number_in low high text ≡ Some n → (low ≤ n) × (n ≤ high)
unfolding number_in
range_of low high n text h = guarded (is_decimal text) low high (digits_after 0 text) n h

mix_known : (c m v : Option ℕ) (mix : Mix)
    → ((n : ℕ) → c ≡ Some n → (1 ≤ n) × (n ≤ 8))
    → ((n : ℕ) → m ≡ Some n → (1 ≤ n) × (n ≤ 2000))
    → ((n : ℕ) → v ≡ Some n → (0 ≤ n) × (n ≤ 16))
    → option_and_then (λ a. option_and_then (λ b. option_and_then (λ d. Some (record { connections = a; messages = b; moves = d })) v) m) c ≡ Some mix
    → IsMix mix
mix_known None m v mix in_c in_m in_v h = cc h
mix_known (Some c) None v mix in_c in_m in_v h = cc h
mix_known (Some c) (Some m) None mix in_c in_m in_v h = cc h
mix_known (Some c) (Some m) (Some v) mix in_c in_m in_v h =
    let made : Mix = record { connections = c; messages = m; moves = v } in
    let same : made ≡ mix = cc h in
    let few : (1 ≤ c) × (c ≤ 8) = in_c c refl in
    let early : (1 ≤ m) × (m ≤ 2000) = in_m m refl in
    let is : IsMix made = record { connections = (omega (arith, few.0), few.1); messages = (omega (arith, early.0), early.1); moves = (in_v v refl).1 } in
    subst IsMix same is

mix_in_range : (connections messages moves : List ℕ) (mix : Mix) → mix_of connections messages moves ≡ Some mix → IsMix mix
mix_in_range connections messages moves mix h =
    mix_known (number_in 1 8 connections) (number_in 1 2000 messages) (number_in 0 16 moves) mix
    (λ n e. range_of 1 8 n connections e) (λ n e. range_of 1 2000 n messages e) (λ n e. range_of 0 16 n moves e) h

bulk_known : (s : Option ℕ) (m : Option Mix) (seed : ℕ) (mix : Mix) → ((x : Mix) → m ≡ Some x → IsMix x)
    → option_and_then (λ a. option_and_then (λ x. Some (Bulk a x)) m) s ≡ Some (Bulk seed mix) → IsMix mix
bulk_known None m seed mix in_m h = cc h
bulk_known (Some s) None seed mix in_m h = cc h
bulk_known (Some s) (Some x) seed mix in_m h = let same : x ≡ mix = cc h in subst IsMix same (in_m x refl)

bulk_in_range : (words : List (List ℕ)) (seed : ℕ) (mix : Mix) → bulk_of words ≡ Some (Bulk seed mix) → IsMix mix
bulk_in_range [] seed mix h = cc h
bulk_in_range (s ∷ []) seed mix h = cc h
bulk_in_range (s ∷ c ∷ []) seed mix h = cc h
bulk_in_range (s ∷ c ∷ m ∷ []) seed mix h = cc h
bulk_in_range (s ∷ c ∷ m ∷ v ∷ []) seed mix h = bulk_known (number_in 0 greatest_u64 s) (mix_of c m v) seed mix (mix_in_range c m v) h
bulk_in_range (s ∷ c ∷ m ∷ v ∷ w ∷ ws) seed mix h = cc h

play_is_not : (words : List (List ℕ)) (seed : ℕ) (mix : Mix) → alone Play words ≡ Some (Bulk seed mix) → IsMix mix
play_is_not [] seed mix h = cc h
play_is_not (w ∷ ws) seed mix h = cc h

audit_is_not : (words : List (List ℕ)) (seed : ℕ) (mix : Mix) → alone Audit words ≡ Some (Bulk seed mix) → IsMix mix
audit_is_not [] seed mix h = cc h
audit_is_not (w ∷ ws) seed mix h = cc h

record_is_not : (words : List (List ℕ)) (seed : ℕ) (mix : Mix) → alone Record words ≡ Some (Bulk seed mix) → IsMix mix
record_is_not [] seed mix h = cc h
record_is_not (w ∷ ws) seed mix h = cc h

named_is_not : (id : Option ℕ) (own : Option Address) (seed : ℕ) (mix : Mix) → option_and_then (λ i. option_and_then (λ a. Some (Node i a)) own) id ≡ Some (Bulk seed mix) → IsMix mix
named_is_not None own seed mix h = cc h
named_is_not (Some i) None seed mix h = cc h
named_is_not (Some i) (Some a) seed mix h = cc h

node_is_not : (words : List (List ℕ)) (seed : ℕ) (mix : Mix) → node_of words ≡ Some (Bulk seed mix) → IsMix mix
node_is_not [] seed mix h = cc h
node_is_not (i ∷ []) seed mix h = cc h
node_is_not (i ∷ a ∷ []) seed mix h = named_is_not (number_in 1 255 i) (own_of a) seed mix h
node_is_not (i ∷ a ∷ w ∷ ws) seed mix h = cc h

shown_is_not : (name : Option Name) (seed : ℕ) (mix : Mix) → option_and_then (λ n. Some (ShowDump n)) name ≡ Some (Bulk seed mix) → IsMix mix
shown_is_not None seed mix h = cc h
shown_is_not (Some n) seed mix h = cc h

show_is_not : (words : List (List ℕ)) (seed : ℕ) (mix : Mix) → show_dump_of words ≡ Some (Bulk seed mix) → IsMix mix
show_is_not [] seed mix h = cc h
show_is_not (w ∷ []) seed mix h = shown_is_not (name_of w) seed mix h
show_is_not (w ∷ v ∷ ws) seed mix h = cc h

chosen : (plays bulks shows audits records serves : Bool) (words : List (List ℕ)) (seed : ℕ) (mix : Mix)
    → (if plays then alone Play words else if bulks then bulk_of words else if shows then show_dump_of words else if audits then alone Audit words else if records then alone Record words else if serves then node_of words else None) ≡ Some (Bulk seed mix)
    → IsMix mix
chosen true bulks shows audits records serves words seed mix h = play_is_not words seed mix h
chosen false true shows audits records serves words seed mix h = bulk_in_range words seed mix h
chosen false false true audits records serves words seed mix h = show_is_not words seed mix h
chosen false false false true records serves words seed mix h = audit_is_not words seed mix h
chosen false false false false true serves words seed mix h = record_is_not words seed mix h
chosen false false false false false true words seed mix h = node_is_not words seed mix h
chosen false false false false false false words seed mix h = cc h

placed_in_range : (word : List ℕ) (words : List (List ℕ)) (seed : ℕ) (mix : Mix) → placed_of (word ∷ words) ≡ Some (Bulk seed mix) → IsMix mix
unfolding placed_of
placed_in_range word words seed mix h =
    chosen (bytes_eq word (codes "play")) (bytes_eq word (codes "bulk")) (bytes_eq word (codes "show-dump")) (bytes_eq word (codes "audit")) (bytes_eq word (codes "record")) (bytes_eq word (codes "node")) words seed mix h

tested_is_not : (b : Bool) (from : ℕ) (targets : List ℕ) (seed : ℕ) (mix : Mix) → (if b then Some (Evacuate from targets) else None) ≡ Some (Bulk seed mix) → IsMix mix
tested_is_not true from targets seed mix h = cc h
tested_is_not false from targets seed mix h = cc h

ids_are_not : (ids : Option (List ℕ)) (seed : ℕ) (mix : Mix) → option_and_then evacuate_by ids ≡ Some (Bulk seed mix) → IsMix mix
ids_are_not None seed mix h = cc h
ids_are_not (Some []) seed mix h = cc h
ids_are_not (Some (from ∷ targets)) seed mix h = tested_is_not (not (repeats (from ∷ targets)) && (nat_le 1 (length targets) && nat_le (length targets) 15)) from targets seed mix h

evacuates_or_not : (evacuates : Bool) (word : List ℕ) (words : List (List ℕ)) (seed : ℕ) (mix : Mix) → (if evacuates then evacuate_of words else placed_of (word ∷ words)) ≡ Some (Bulk seed mix) → IsMix mix
evacuates_or_not true word words seed mix h = ids_are_not (ids_of words) seed mix h
evacuates_or_not false word words seed mix h = placed_in_range word words seed mix h

-- the mix of a command
pub command_in_range : (words : List (List ℕ)) (seed : ℕ) (mix : Mix) → command_of words ≡ Some (Bulk seed mix) → IsMix mix
unfolding command_of
command_in_range [] seed mix h = cc h
command_in_range (word ∷ words) seed mix h = evacuates_or_not (bytes_eq word (codes "evacuate")) word words seed mix h
