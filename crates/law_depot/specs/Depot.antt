-- Processes that share a folder of dumps, each of which may die at any time: where each context is (this project's choice).
--
-- Contexts, names and processes are numbers here. A move is one call of the file system, or one step of a device in memory. A
-- process may die between any two moves, and so inside each call of a depot. Files that are only parts of a call, as one that is
-- written and has no name yet, hold no context: nobody ever reads them.
use Rattle.std.specs.Prelude.{ℕ, ◌+◌, ◌≡◌, ◌==◌, not, Bool, true, false, List, [], ◌∷◌, ◌++◌, count_by, filter}

-- a context at a process: on its device, or stopped and still in its hands
pub record Home : Type 0 where
  pub process : ℕ
  pub context : ℕ
  pub in_hands : Bool

-- a dump: the file of a context under a name
pub record Dump : Type 0 where
  pub name : ℕ
  pub context : ℕ

-- a dump that was renamed, for one process alone
pub record Claim : Type 0 where
  pub process : ℕ
  pub name : ℕ
  pub context : ℕ

-- all the places of contexts
pub record Depot : Type 0 where
  pub homes : List Home
  pub dumps : List Dump
  pub claims : List Claim
  pub lost : List Home  -- what died with its process

-- before the first context is made
abbrev pub no_depot : Depot
no_depot = record { homes = []; dumps = []; claims = []; lost = [] }

-- what happens
pub data Move : Type 0 where
  Makes : (process context : ℕ) → Move  -- a new context
  Stops : (process context : ℕ) → Move  -- the device gives it up, and its image is in the hands of the process
  PutsBack : (process context : ℕ) → Move  -- .. it lives on there, since the dump was refused
  Publishes : (process name context : ℕ) → Move  -- the file with its image, whole and on disk, is linked to a free name
  Withdraws : (process name context : ℕ) → Move  -- .. and loses the name again, since the folder could not be synced
  Claims : (process name context : ℕ) → Move  -- the file of a name is renamed, for this process alone
  GivesBack : (process name context : ℕ) → Move  -- .. it is linked to its name again, where that is free: also by hand, after the process died
  Restores : (process name context : ℕ) → Move  -- .. or removed, and the context lives on the device
  Dies : (process : ℕ) → Move  -- all that a process has in memory is gone

-- ---- what a move leaves

-- a context on a device, and in the hands of a process
abbrev pub living : ℕ → ℕ → Home
living p c = record { process = p; context = c; in_hands = false }

abbrev pub held : ℕ → ℕ → Home
held p c = record { process = p; context = c; in_hands = true }

-- a dump, and a claim
abbrev pub dump : ℕ → ℕ → Dump
dump f c = record { name = f; context = c }

abbrev pub claim : ℕ → ℕ → ℕ → Claim
claim p f c = record { process = p; name = f; context = c }

-- no dump has the name
abbrev pub IsFree : ℕ → List Dump → Type 0
IsFree f dumps = count_by (λ d. d.name == f) dumps ≡ 0

-- one element of a list is taken out, which leaves the others
pub record TakesOut {A : Type 0} (xs : List A) (x : A) (others : List A) : Type 0 where
  pub front : List A
  pub back : List A
  pub was : xs ≡ front ++ x ∷ back
  pub left : others ≡ front ++ back

-- what is of a process
abbrev pub is_of : ℕ → Home → Bool
is_of p h = h.process == p

-- the move leads from one state to another
abbrev pub Does : Move → Depot → Depot → Type 0
Does (Makes p c) s s' = s' ≡ record s { homes = s.homes ++ living p c ∷ [] }
Does (Stops p c) s s' = (others : List Home) × TakesOut s.homes (living p c) others × (s' ≡ record s { homes = others ++ held p c ∷ [] })
Does (PutsBack p c) s s' = (others : List Home) × TakesOut s.homes (held p c) others × (s' ≡ record s { homes = others ++ living p c ∷ [] })
Does (Publishes p f c) s s' =
    (others : List Home) × IsFree f s.dumps × TakesOut s.homes (held p c) others × (s' ≡ record s { homes = others; dumps = s.dumps ++ dump f c ∷ [] })
Does (Withdraws p f c) s s' =
    (others : List Dump) × TakesOut s.dumps (dump f c) others × (s' ≡ record s { dumps = others; homes = s.homes ++ held p c ∷ [] })
Does (Claims p f c) s s' =
    (others : List Dump) × TakesOut s.dumps (dump f c) others × (s' ≡ record s { dumps = others; claims = s.claims ++ claim p f c ∷ [] })
Does (GivesBack p f c) s s' =
    (others : List Claim) × IsFree f s.dumps × TakesOut s.claims (claim p f c) others × (s' ≡ record s { claims = others; dumps = s.dumps ++ dump f c ∷ [] })
Does (Restores p f c) s s' =
    (others : List Claim) × TakesOut s.claims (claim p f c) others × (s' ≡ record s { claims = others; homes = s.homes ++ living p c ∷ [] })
Does (Dies p) s s' = s' ≡ record s { homes = filter (λ h. not (is_of p h)) s.homes; lost = s.lost ++ filter (is_of p) s.homes }

-- moves, one after the other
abbrev pub Leads : Depot → List Move → Depot → Type 0
Leads s [] s' = s' ≡ s
Leads s (m ∷ ms) s' = (between : Depot) × Does m s between × Leads between ms s'

-- ---- what is counted

-- the places in which a context is
abbrev pub places : ℕ → Depot → ℕ
places c s =
    count_by (λ h. h.context == c) s.homes
    + count_by (λ d. d.context == c) s.dumps
    + count_by (λ k. k.context == c) s.claims
    + count_by (λ h. h.context == c) s.lost

-- the move makes the context
abbrev pub makes : ℕ → Move → Bool
makes c (Makes p x) = x == c
makes c m = false

-- a process dies
abbrev pub is_death : Move → Bool
is_death (Dies p) = true
is_death m = false
