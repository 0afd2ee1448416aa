-- What the words of `serve` ask for (this project's choice).
use Rattle.std.specs.Prelude.{ℕ, Bool, true, false, List, [], ◌∷◌, Option, Some, None, bytes_eq, codes, if◌then◌else◌}
use Rattle.rdma_types.specs.declared.requests.Address.{Address}
use Rattle.std.specs.List.{list_any}
use Rattle.script_lang.specs.Texts.{◌>>=◌, address_of, number_in}
use Rattle.script_lang.specs.Words.{is_space}
use Rattle.command_line.specs.declared.serve_words.Awaited.{Awaited}
use Rattle.command_line.specs.declared.serve_words.Awaited.TheVariants as awaited

-- what stands behind the address: the folder of the depot, where it is named, the base of the timers in milliseconds, and whether
-- contexts are kept at the end
pub record Options : Type 0 where
  pub depot : Option (List ℕ)
  pub timeout : ℕ
  pub keep : Bool

-- what is asked for
pub record Asked : Type 0 where
  pub id : ℕ
  pub own : Address
  pub options : Options

-- what a word without spaces spells
abbrev pub plainly : {A : Type 0} → (List ℕ → Option A) → List ℕ → Option A
plainly spelled word = if list_any is_space word then None else spelled word

-- nothing is named
abbrev pub no_options : Options
no_options = record { depot = None; timeout = 100; keep = false }

-- the path of a folder has a byte at least
abbrev pub folder_of : List ℕ → Option (List ℕ)
folder_of [] = None
folder_of (b ∷ bs) = Some (b ∷ bs)

-- what was read, and what the next word is
pub record Reading : Type 0 where
  pub options : Options
  pub awaited : Awaited

-- a word that names an option
unfoldable pub named : Options → List ℕ → Option Reading
named o word =
    if bytes_eq word (codes "--keep") then Some (record { options = record o { keep = true }; awaited = awaited.Name })
    else if bytes_eq word (codes "--depot") then Some (record { options = o; awaited = awaited.Folder })
    else if bytes_eq word (codes "--timeout") then Some (record { options = o; awaited = awaited.Time })
    else None

-- the folder of the depot
abbrev pub with_folder : Options → List ℕ → Option Reading
with_folder o word = do
  folder ← folder_of word
  Some (record { options = record o { depot = Some folder }; awaited = awaited.Name })

-- the base of the timers
abbrev pub with_time : Options → List ℕ → Option Reading
with_time o word = do
  n ← plainly (number_in 1 60000) word
  Some (record { options = record o { timeout = n }; awaited = awaited.Name })

-- one more word
abbrev pub step_by : Awaited → Options → List ℕ → Option Reading
step_by awaited.Name o word = named o word
step_by awaited.Folder o word = with_folder o word
step_by awaited.Time o word = with_time o word

-- the words one after the other; of two options that are the same the later one counts
abbrev pub read_from : Reading → List (List ℕ) → Option Reading
read_from r [] = Some r
read_from r (word ∷ words) = do
  next ← step_by r.awaited r.options word
  read_from next words

-- no value is missing
abbrev pub finished_by : Awaited → Options → Option Options
finished_by awaited.Name o = Some o
finished_by awaited.Folder o = None
finished_by awaited.Time o = None

-- id, address and options
unfoldable pub asked_of : List (List ℕ) → Option Asked
asked_of [] = None
asked_of (id ∷ []) = None
asked_of (id ∷ address ∷ words) = do
  i ← plainly (number_in 1 255) id
  own ← plainly address_of address
  reading ← read_from (record { options = no_options; awaited = awaited.Name }) words
  options ← finished_by reading.awaited reading.options
  Some (record { id = i; own = own; options = options })
