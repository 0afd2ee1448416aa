-- Words that are of a command are taken by `clap`, and are of the same command once they are split.
use Rattle.std.proofs.Common.{arith, ◌≡◌, ◌∙◌, ℕ, ◌==◌, ◌&&◌, ◌||◌, not, Bool, true, false, one-add, List, [], ◌∷◌, length, take, drop, ◌+◌, Option, Some, None, is_some, refl, sym, subst, bytes_eq, codes}
use Rattle.std.specs.Prelude.{nat_le, nat_lt, option_and_then, if◌then◌else◌}
use Rattle.std.specs.List.{list_all, list_any, position_or_len}
use Rattle.std.proofs.lemmas.Bool.{and_parts}
use Rattle.std.proofs.lemmas.Bool.Decides.{nat_tests}
use Rattle.std.proofs.lemmas.Slice.Eq.{bytes_eq-Decides}
use Rattle.rdma_types.specs.Spelled.{is_letter, is_name, is_name_byte}
use Rattle.script_lang.specs.Texts.{Cut, address_of, cut_at, digits_after, greatest_u64, host_of, is_decimal, is_digit, name_of, number_in, part_of}
use Rattle.script_lang.specs.Words.{is_space}
use Rattle.program_rules.specs.Commands as rules
use Rattle.program_rules.specs.Commands.{placed_of}
use Rattle.clap.specs.Words.{Text, subcommand_of, takes}
use Rattle.command_line.specs.Splitting.{spelled_in, splitter_app}
use Rattle.command_line.proofs.Plain.{IsPlain, plain}
use Rattle.command_line.proofs.Splits.{audit_split, audit_taken, bulk_split, node_split, play_split, play_taken, record_split, record_taken, show_dump_split}
use Rattle.command_line.proofs.Taken.{bulk_taken, node_taken, show_dump_taken}

-- ---- steps that may fail

-- where a chain ends in something, its first step does
first_step : {A B : Type 0} (o : Option A) (f : A → Option B) → is_some (option_and_then f o) ≡ true → is_some o ≡ true
first_step None f e = e
first_step (Some a) f e = refl

-- .. and the rest of the chain
rest_step : {A B : Type 0} (o : Option A) (f : A → Option B) → is_some (option_and_then f o) ≡ true → (a : A) × (is_some (f a) ≡ true)
rest_step None f e = absurd (cc e)
rest_step (Some a) f e = (a, e)

-- what is chosen by a test is something only where the test holds
by_test : {A : Type 0} (b : Bool) (x : A) → is_some (if b then Some x else None) ≡ true → b ≡ true
by_test true x e = refl
by_test false x e = absurd (cc e)

-- ---- the words

digit_is_no_hyphen : (b : ℕ) → is_digit b ≡ true → (b == 45) ≡ false
digit_is_no_hyphen b e = grind (arith, nat_tests)

letter_is_no_hyphen : (b : ℕ) → is_letter b ≡ true → (b == 45) ≡ false
letter_is_no_hyphen b e = grind (arith, nat_tests)

decimal_is_plain : (word : Text) → is_decimal word ≡ true → IsPlain word
decimal_is_plain [] e = absurd (cc e)
decimal_is_plain (b ∷ bs) e =
    let digits = (and_parts (list_all is_digit (b ∷ bs)) (not (b == 48) || length bs == 0) e).0 in
    plain b bs (digit_is_no_hyphen b (and_parts (is_digit b) (list_all is_digit bs) digits).0)

-- a number
number_is_plain : (low high : ℕ) (word : Text) → is_some (number_in low high word) ≡ true → IsPlain word
unfolding number_in
number_is_plain low high word e =
    let test = by_test (is_decimal word && (nat_le low (digits_after 0 word) && nat_le (digits_after 0 word) high)) (digits_after 0 word) e in
    decimal_is_plain word (and_parts (is_decimal word) (nat_le low (digits_after 0 word) && nat_le (digits_after 0 word) high) test).0

name_text_is_plain : (word : Text) → is_name word ≡ true → IsPlain word
name_text_is_plain [] e = absurd (cc e)
name_text_is_plain (b ∷ bs) e =
    let front = (and_parts (is_letter b && list_all is_name_byte bs) (nat_le (length bs) 15) e).0 in
    plain b bs (letter_is_no_hyphen b (and_parts (is_letter b) (list_all is_name_byte bs) front).0)

-- a name
name_is_plain : (word : Text) → is_some (name_of word) ≡ true → IsPlain word
unfolding name_of
name_is_plain word e = name_text_is_plain word (by_test (is_name word) word e)

-- ---- addresses

-- a text cut at a place, where there is one
cut_by : Bool → ℕ → Text → Cut
cut_by t p bs = if t then record { front = take p bs; behind = Some (drop (p + 1) bs) } else record { front = bs; behind = None }

-- its front begins with its first byte, where it is not cut there
front_begins : (t : Bool) (p b : ℕ) (bs : Text) → (ds : Text) × ((cut_by t (1 + p) (b ∷ bs)).front ≡ b ∷ ds)
unfolding cut_by
front_begins true p b bs = (take p bs, rw one-add refl)
front_begins false p b bs = (bs, refl)

cut_begins : (end b : ℕ) (bs : Text) → (b == end) ≡ false → (ds : Text) × ((cut_at end (b ∷ bs)).front ≡ b ∷ ds)
unfolding cut_at cut_by
cut_begins end b bs e = rw e (front_begins (nat_lt (1 + position_or_len (λ x. x == end) bs) (length (b ∷ bs))) (position_or_len (λ x. x == end) bs) b bs)

hyphen_is_no_part : (bs : Text) → part_of (45 ∷ bs) ≡ None
unfolding part_of number_in
hyphen_is_no_part bs = rw (cut_begins 46 45 bs refl).1 refl

hyphen_is_no_host : (bs : Text) → host_of (45 ∷ bs) ≡ None
unfolding host_of
hyphen_is_no_host bs = rw (hyphen_is_no_part bs) refl

hyphen_is_no_address : (bs : Text) → address_of (45 ∷ bs) ≡ None
unfolding address_of
hyphen_is_no_address bs = let cut = cut_begins 58 45 bs refl in rw (cut.1, hyphen_is_no_host cut.0) refl

begins_without_hyphen : (t : Bool) (b : ℕ) (bs : Text) → (b == 45) ≡ t → is_some (address_of (b ∷ bs)) ≡ true → (b == 45) ≡ false
begins_without_hyphen true b bs same e =
    let hyphen : b ≡ 45 = grind (arith, nat_tests) in
    absurd (cc (subst (λ k. is_some (address_of (k ∷ bs)) ≡ true) hyphen e, hyphen_is_no_address bs))
begins_without_hyphen false b bs other e = other

-- an address
address_is_plain : (word : Text) → is_some (address_of word) ≡ true → IsPlain word
unfolding address_of host_of part_of cut_at number_in
address_is_plain [] e = absurd (cc e)
address_is_plain (b ∷ bs) e = plain b bs (begins_without_hyphen (b == 45) b bs refl e)

own_by_test : (b : Bool) (word : Text) → is_some (if b then None else address_of word) ≡ true → IsPlain word
own_by_test true word e = absurd (cc e)
own_by_test false word e = address_is_plain word e

own_is_plain : (word : Text) → is_some (rules.own_of word) ≡ true → IsPlain word
own_is_plain word e = own_by_test (list_any is_space word) word e

-- ---- what is shown of words that are of a command

pub record Splits (words : List Text) : Type 0 where
  pub taken : takes splitter_app words ≡ true
  pub says : spelled_in (subcommand_of splitter_app words) ≡ placed_of words

-- ---- which command

same_bytes : (a b : Text) → bytes_eq a b ≡ true → a ≡ b
same_bytes a b e = (bytes_eq-Decides a b).0 e

command_is_play : (words : List Text) → placed_of (codes "play" ∷ words) ≡ rules.alone rules.Play words
unfolding placed_of
command_is_play words = refl

command_is_bulk : (words : List Text) → placed_of (codes "bulk" ∷ words) ≡ rules.bulk_of words
unfolding placed_of
command_is_bulk words = refl

command_is_show_dump : (words : List Text) → placed_of (codes "show-dump" ∷ words) ≡ rules.show_dump_of words
unfolding placed_of
command_is_show_dump words = refl

command_is_audit : (words : List Text) → placed_of (codes "audit" ∷ words) ≡ rules.alone rules.Audit words
unfolding placed_of
command_is_audit words = refl

command_is_record : (words : List Text) → placed_of (codes "record" ∷ words) ≡ rules.alone rules.Record words
unfolding placed_of
command_is_record words = refl

command_is_node : (words : List Text) → placed_of (codes "node" ∷ words) ≡ rules.node_of words
unfolding placed_of
command_is_node words = refl

-- ---- each

play_splits : (words : List Text) → is_some (rules.alone rules.Play words) ≡ true → Splits (codes "play" ∷ words)
play_splits [] e = record { taken = play_taken; says = play_split ∙ sym (command_is_play []) }
play_splits (word ∷ words) e = absurd (cc e)

show_dump_splits : (words : List Text) → is_some (rules.show_dump_of words) ≡ true → Splits (codes "show-dump" ∷ words)
show_dump_splits [] e = absurd (cc e)
show_dump_splits (n ∷ []) e =
    let p = name_is_plain n (first_step (name_of n) _ e) in
    record { taken = show_dump_taken n p; says = show_dump_split n p ∙ sym (command_is_show_dump (n ∷ [])) }
show_dump_splits (n ∷ word ∷ words) e = absurd (cc e)

audit_splits : (words : List Text) → is_some (rules.alone rules.Audit words) ≡ true → Splits (codes "audit" ∷ words)
audit_splits [] e = record { taken = audit_taken; says = audit_split ∙ sym (command_is_audit []) }
audit_splits (word ∷ words) e = absurd (cc e)

record_splits : (words : List Text) → is_some (rules.alone rules.Record words) ≡ true → Splits (codes "record" ∷ words)
record_splits [] e = record { taken = record_taken; says = record_split ∙ sym (command_is_record []) }
record_splits (word ∷ words) e = absurd (cc e)

-- the two words of `node`
two_split : (i a : Text) → is_some (rules.node_of (i ∷ a ∷ [])) ≡ true → Splits (codes "node" ∷ i ∷ a ∷ [])
two_split i a e =
    let pi = number_is_plain 1 255 i (first_step (number_in 1 255 i) _ e) in
    let after_i = rest_step (number_in 1 255 i) _ e in
    let pa = own_is_plain a (first_step (rules.own_of a) _ after_i.1) in
    record { taken = node_taken i a pi pa; says = node_split i a pi pa ∙ sym (command_is_node (i ∷ a ∷ [])) }

node_splits : (words : List Text) → is_some (rules.node_of words) ≡ true → Splits (codes "node" ∷ words)
node_splits [] e = absurd (cc e)
node_splits (i ∷ []) e = absurd (cc e)
node_splits (i ∷ a ∷ []) e = two_split i a e
node_splits (i ∷ a ∷ word ∷ words) e = absurd (cc e)

-- the four words of `bulk`
four_split : (s c m v : Text) → is_some (rules.bulk_of (s ∷ c ∷ m ∷ v ∷ [])) ≡ true → Splits (codes "bulk" ∷ s ∷ c ∷ m ∷ v ∷ [])
four_split s c m v e =
    let ps = number_is_plain 0 greatest_u64 s (first_step (number_in 0 greatest_u64 s) _ e) in
    let after_s = rest_step (number_in 0 greatest_u64 s) _ e in
    let mix = first_step (rules.mix_of c m v) _ after_s.1 in
    let pc = number_is_plain 1 8 c (first_step (number_in 1 8 c) _ mix) in
    let after_c = rest_step (number_in 1 8 c) _ mix in
    let pm = number_is_plain 1 2000 m (first_step (number_in 1 2000 m) _ after_c.1) in
    let after_m = rest_step (number_in 1 2000 m) _ after_c.1 in
    let pv = number_is_plain 0 16 v (first_step (number_in 0 16 v) _ after_m.1) in
    record { taken = bulk_taken s c m v ps pc pm pv; says = bulk_split s c m v ps pc pm pv ∙ sym (command_is_bulk (s ∷ c ∷ m ∷ v ∷ [])) }

bulk_splits : (words : List Text) → is_some (rules.bulk_of words) ≡ true → Splits (codes "bulk" ∷ words)
bulk_splits [] e = absurd (cc e)
bulk_splits (s ∷ []) e = absurd (cc e)
bulk_splits (s ∷ c ∷ []) e = absurd (cc e)
bulk_splits (s ∷ c ∷ m ∷ []) e = absurd (cc e)
bulk_splits (s ∷ c ∷ m ∷ v ∷ []) e = four_split s c m v e
bulk_splits (s ∷ c ∷ m ∷ v ∷ word ∷ words) e = absurd (cc e)

-- ---- all

-- what the table of commands says, by its tests
table : Bool → Bool → Bool → Bool → Bool → Bool → List Text → Option rules.Command
table is_play is_bulk is_show_dump is_audit is_record is_node words =
    if is_play then rules.alone rules.Play words
    else if is_bulk then rules.bulk_of words
    else if is_show_dump then rules.show_dump_of words
    else if is_audit then rules.alone rules.Audit words
    else if is_record then rules.alone rules.Record words
    else if is_node then rules.node_of words
    else None

by_table : (word : Text) (words : List Text) (p b s a r n : Bool) → bytes_eq word (codes "play") ≡ p → bytes_eq word (codes "bulk") ≡ b → bytes_eq word (codes "show-dump") ≡ s → bytes_eq word (codes "audit") ≡ a → bytes_eq word (codes "record") ≡ r → bytes_eq word (codes "node") ≡ n
    → is_some (table p b s a r n words) ≡ true → Splits (word ∷ words)
unfolding table
by_table word words true b s a r n ep eb es ea er en e = subst (λ w. Splits (w ∷ words)) (sym (same_bytes word (codes "play") ep)) (play_splits words e)
by_table word words false true s a r n ep eb es ea er en e = subst (λ w. Splits (w ∷ words)) (sym (same_bytes word (codes "bulk") eb)) (bulk_splits words e)
by_table word words false false true a r n ep eb es ea er en e = subst (λ w. Splits (w ∷ words)) (sym (same_bytes word (codes "show-dump") es)) (show_dump_splits words e)
by_table word words false false false true r n ep eb es ea er en e = subst (λ w. Splits (w ∷ words)) (sym (same_bytes word (codes "audit") ea)) (audit_splits words e)
by_table word words false false false false true n ep eb es ea er en e = subst (λ w. Splits (w ∷ words)) (sym (same_bytes word (codes "record") er)) (record_splits words e)
by_table word words false false false false false true ep eb es ea er en e = subst (λ w. Splits (w ∷ words)) (sym (same_bytes word (codes "node") en)) (node_splits words e)
by_table word words false false false false false false ep eb es ea er en e = absurd (cc e)

pub splits : (words : List Text) → is_some (placed_of words) ≡ true → Splits words
unfolding placed_of table
splits [] e = absurd (cc e)
splits (word ∷ words) e = by_table word words (bytes_eq word (codes "play")) (bytes_eq word (codes "bulk")) (bytes_eq word (codes "show-dump")) (bytes_eq word (codes "audit")) (bytes_eq word (codes "record")) (bytes_eq word (codes "node")) refl refl refl refl refl refl e
