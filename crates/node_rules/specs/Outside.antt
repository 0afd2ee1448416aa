-- What a run leaves where link, depot, clock and sink tell what they hold and no call fails: a function of what they hold
-- before it (this project's choice).
use Rattle.std.specs.Prelude.{ℕ, List, [], ◌∷◌, ◌++◌, drop, Option, Some, None, bytes_eq, if◌then◌else◌}
use Rattle.host_ports.specs.Depots.{Holding}
use Rattle.rdma_types.specs.declared.names.Name.{Name}
use Rattle.rdma_types.specs.declared.requests.Address.{Address}
use Rattle.host_ports.specs.Links.{Addressed, first_tick, first_waiting}
use Rattle.node_rules.specs.Plan.{Asks, Ending, Ends, Looks, Plan, Puts, Removes, Sends, Starts, Takes, Writes}
use Rattle.node_rules.specs.Script.{node_plan}

-- what the objects of the outside hold
pub record Outside : Type 0 where
  pub waiting : List Addressed  -- what the link has yet to give
  pub sent : List Addressed  -- what was sent over it
  pub to_come : List ℕ  -- what the clock has yet to answer
  pub held : Holding  -- what the depot holds
  pub text : List ℕ  -- what was written

-- how a run ends, and what it leaves
pub record Ran : Type 0 where
  pub ending : Ending
  pub outside : Outside

-- the depot with that alone under the name
abbrev pub set : Holding → Name → Option (List ℕ) → Holding
set held name found = λ n. if bytes_eq name n then found else held n

-- what was found under the name is taken out, where something was
abbrev pub clearing : Outside → Name → Option (List ℕ) → Outside
clearing o name None = o
clearing o name (Some bytes) = record o { held = set o.held name None }

-- the calls of a plan, one after the other
unfoldable pub ran : Plan → Outside → Ran
ran (Ends ending) o = record { ending = ending; outside = o }
ran (Starts own more) o = ran more o
ran (Takes more) o = ran (more (first_waiting o.waiting)) (record o { waiting = drop 1 o.waiting })
ran (Sends datagram more) o = ran more (record o { sent = o.sent ++ datagram ∷ [] })
ran (Asks more) o = ran (more (first_tick o.to_come)) (record o { to_come = drop 1 o.to_come })
ran (Puts name bytes more) o = ran more (record o { held = set o.held name (Some bytes) })
ran (Looks name more) o = ran (more (o.held name)) o
ran (Removes name more) o = ran (more (o.held name)) (clearing o name (o.held name))
ran (Writes text more) o = ran more (record o { text = o.text ++ text })

-- a script of a node, run whole
unfoldable pub node_run : ℕ → Address → List ℕ → Outside → Ran
node_run id own text o = ran (node_plan id own text) o
