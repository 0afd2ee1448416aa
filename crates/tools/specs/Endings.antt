-- How a command that writes one line ends: what is written under each status (this project's choice).
use Rattle.std.specs.Prelude.{◌≡◌, ◌≢◌, ◌⊎◌, ◌<◌, ℕ, List, length, take, Option}
use Rattle.host_ports.specs.Streams.{FaultsCounted, Puts}

-- the statuses: all is done, a write failed, and memory ran out
abbrev pub done : ℕ
done = 0

abbrev pub unwritten : ℕ
unwritten = 5

abbrev pub no_memory : ℕ
no_memory = 8

-- a text was written whole, and no fault was counted
abbrev pub WritesAll : Option (List ℕ) → Option (List ℕ) → ℕ → ℕ → List ℕ → Type 0
WritesAll held held_after faults faults_after text = Puts held held_after text × (faults_after ≡ faults)

-- a part of it was written, and a fault was counted
abbrev pub WritesPart : Option (List ℕ) → Option (List ℕ) → ℕ → ℕ → List ℕ → Type 0
WritesPart held held_after faults faults_after text = (n : ℕ) × (n < length text) × Puts held held_after (take n text) × FaultsCounted faults faults_after

-- what became of a text that was to be written under a status
abbrev pub IsWritten : Option (List ℕ) → Option (List ℕ) → ℕ → ℕ → List ℕ → ℕ → ℕ → Type 0
IsWritten held held_after faults faults_after text meant status =
    ((status ≡ meant) × WritesAll held held_after faults faults_after text)
    ⊎ ((status ≡ unwritten) × WritesPart held held_after faults faults_after text)

-- the text of the status was written
pub record IsTold (IsTextOf : ℕ → List ℕ → Type 0) (held held_after : Option (List ℕ)) (faults faults_after status : ℕ) : Type 0 where
  pub text : List ℕ
  pub says : IsTextOf status text
  pub writes : WritesAll held held_after faults faults_after text

-- the text of a status was cut short
pub record IsCutShort (IsTextOf : ℕ → List ℕ → Type 0) (held held_after : Option (List ℕ)) (faults faults_after : ℕ) : Type 0 where
  pub meant : ℕ
  pub text : List ℕ
  pub says : IsTextOf meant text
  pub writes : WritesPart held held_after faults faults_after text

-- how a run of the command ends, where these are the texts of its statuses
abbrev pub EndsBy : (ℕ → List ℕ → Type 0) → Option (List ℕ) → Option (List ℕ) → ℕ → ℕ → ℕ → Type 0
EndsBy IsTextOf held held_after faults faults_after status =
    ((status ≢ unwritten) × IsTold IsTextOf held held_after faults faults_after status)
    ⊎ ((status ≡ unwritten) × IsCutShort IsTextOf held held_after faults faults_after)
