-- Datagrams that are taken from a link and that leave over it (this project's choice).
use Rattle.std.specs.Prelude.{ℕ, ◌≡◌, ◌≤◌, List, ◌++◌, length, Option, Some, None}
use Rattle.host_ports.specs.Links.{Addressed}
use Rattle.rdma_types.specs.declared.answers.Sent.{Sent}
use Rattle.serve_rules.specs.Server.{Server}

-- these were taken from the front of what waits, where that is told
abbrev pub TakesThese : Option (List Addressed) → List Addressed → Option (List Addressed) → Type 0
TakesThese None ds new = new ≡ None
TakesThese (Some waiting) ds new = (rest : List Addressed) × (waiting ≡ ds ++ rest) × (new ≡ Some rest)

-- exactly the datagrams that the link gave stand behind those that were taken before; else all is as before
pub record HasTaken (s : Server) (waiting : Option (List Addressed)) (s' : Server) (waiting' : Option (List Addressed)) : Type 0 where
  pub taken : List Addressed
  pub gives : TakesThese waiting taken waiting'
  pub server : s' ≡ record s { inbox = s.inbox ++ taken }

-- at most so many of the datagrams that waited left, the oldest first; else all but what is counted is as before
pub record LeavesAtMost (most : ℕ) (s s' : Server) : Type 0 where
  pub gone : List Sent
  pub few : length gone ≤ most
  pub outgoing : s.outgoing ≡ gone ++ s'.outgoing
  pub server : s' ≡ record s { outgoing = s'.outgoing; tallies = s'.tallies }
