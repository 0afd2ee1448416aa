-- What holds of processes that share a depot, wherever they die (this project's choice).
use Rattle.std.specs.Prelude.{ℕ, ◌≡◌, ◌==◌, ◌≤◌, List, [], count_by}
use Rattle.law_depot.specs.Depot.{Depot, Leads, Move, is_death, makes, no_depot, places}

-- a context is in as many places as times it was made. So one that was made once lives at one process, or is in one dump, or in
-- one claimed dump, or died with its process; and it never has two lives
abbrev pub EachIsInOnePlace : Type 0
EachIsInOnePlace = (ms : List Move) (s : Depot) → Leads no_depot ms s → (c : ℕ) → places c s ≡ count_by (makes c) ms

-- no two dumps have one name, so nothing replaces a dump
abbrev pub NamesAreApart : Type 0
NamesAreApart = (ms : List Move) (s : Depot) → Leads no_depot ms s → (f : ℕ) → count_by (λ d. d.name == f) s.dumps ≤ 1

-- where no process dies nothing is lost, whatever calls fail
abbrev pub OnlyDeathLoses : Type 0
OnlyDeathLoses = (ms : List Move) (s : Depot) → Leads no_depot ms s → count_by is_death ms ≡ 0 → s.lost ≡ []
