-- The commands of the program, as its words say (this project's choice).
use Rattle.std.specs.Prelude.{ℕ, ◌==◌, ◌&&◌, ◌||◌, not, Bool, false, List, [], ◌∷◌, length, nat_le, Option, Some, None, bytes_eq, codes, if◌then◌else◌}
use Rattle.std.specs.List.{list_any}
use Rattle.rdma_types.specs.declared.names.Name.{Name}
use Rattle.rdma_types.specs.declared.requests.Address.{Address}
use Rattle.script_lang.specs.Words.{is_space}
use Rattle.script_lang.specs.Texts.{◌>>=◌, address_of, greatest_u64, name_of, number_in}
use Rattle.workload_gen.specs.declared.plan.Mix.{Mix}

-- what the program is asked to do
pub data Command : Type 0 where
  Play : Command  -- the lines of the whole input are answered
  Bulk : (seed : ℕ) → (mix : Mix) → Command  -- a generated script is played, and summed up
  ShowDump : (name : Name) → Command  -- what a dump in the depot says is written
  Evacuate : (from : ℕ) → (targets : List ℕ) → Command  -- the lines of the whole input are answered, and then a device is emptied
  Audit : Command  -- the whole input is a trace, which is audited
  Record : Command  -- the whole input is a script, whose trace is written
  Node : (id : ℕ) → (own : Address) → Command  -- one device over the link does the lines of the whole input

-- no more words behind
abbrev pub alone : Command → List (List ℕ) → Option Command
alone c [] = Some c
alone c (word ∷ words) = None

-- how many connections, messages and moves
abbrev pub mix_of : List ℕ → List ℕ → List ℕ → Option Mix
mix_of connections messages moves = do
  c ← number_in 1 8 connections
  m ← number_in 1 2000 messages
  v ← number_in 0 16 moves
  Some (record { connections = c; messages = m; moves = v })

-- seed, connections, messages, moves
abbrev pub bulk_of : List (List ℕ) → Option Command
bulk_of (seed ∷ connections ∷ messages ∷ moves ∷ []) = do
  s ← number_in 0 greatest_u64 seed
  mix ← mix_of connections messages moves
  Some (Bulk s mix)
bulk_of other = None

-- name
abbrev pub show_dump_of : List (List ℕ) → Option Command
show_dump_of (word ∷ []) = do
  name ← name_of word
  Some (ShowDump name)
show_dump_of other = None

-- the address that a word spells; it has no space
abbrev pub own_of : List ℕ → Option Address
own_of word = if list_any is_space word then None else address_of word

-- id and address
abbrev pub node_of : List (List ℕ) → Option Command
node_of (id ∷ address ∷ []) = do
  i ← number_in 1 255 id
  own ← own_of address
  Some (Node i own)
node_of other = None

-- ids of devices, from 1 to 255
abbrev pub ids_of : List (List ℕ) → Option (List ℕ)
ids_of [] = Some []
ids_of (word ∷ words) = do
  k ← number_in 1 255 word
  ks ← ids_of words
  Some (k ∷ ks)

-- one of them stands twice
abbrev pub repeats : List ℕ → Bool
repeats [] = false
repeats (k ∷ ks) = list_any (λ j. j == k) ks || repeats ks

-- from and 1 to 15 targets, all different
abbrev pub evacuate_by : List ℕ → Option Command
evacuate_by [] = None
evacuate_by (from ∷ targets) = if not (repeats (from ∷ targets)) && (nat_le 1 (length targets) && nat_le (length targets) 15) then Some (Evacuate from targets) else None

-- from target..
abbrev pub evacuate_of : List (List ℕ) → Option Command
evacuate_of words = do
  ks ← ids_of words
  evacuate_by ks

-- the command of other words, which have their places one by one
unfoldable pub placed_of : List (List ℕ) → Option Command
placed_of [] = None
placed_of (word ∷ words) =
    if bytes_eq word (codes "play") then alone Play words
    else if bytes_eq word (codes "bulk") then bulk_of words
    else if bytes_eq word (codes "show-dump") then show_dump_of words
    else if bytes_eq word (codes "audit") then alone Audit words
    else if bytes_eq word (codes "record") then alone Record words
    else if bytes_eq word (codes "node") then node_of words
    else None

-- the command of these words, if they are of one
unfoldable pub command_of : List (List ℕ) → Option Command
command_of [] = None
command_of (word ∷ words) = if bytes_eq word (codes "evacuate") then evacuate_of words else placed_of (word ∷ words)
