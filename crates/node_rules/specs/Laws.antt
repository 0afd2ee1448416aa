-- Laws of the scripts of a node (this project's choice).
use Rattle.std.specs.Prelude.{ℕ, ◌≡◌, List, ◌++◌}
use Rattle.std.specs.List.{All}
use Rattle.protocol.specs.declared.events.Event.{Event}
use Rattle.protocol.specs.declared.events.Event.TheVariants as event
use Rattle.protocol.specs.Replay.{replay}
use Rattle.node_rules.specs.Node.{Node}
use Rattle.node_rules.specs.Outside.{Outside, ran}
use Rattle.node_rules.specs.Plan.{Call, Ending, Ends, Leads, Plan}
use Rattle.node_rules.specs.Serve.{turns}
use Rattle.node_rules.specs.Stops.{HasEnded, StopsAt}
use Rattle.node_rules.specs.Told.{AreMade, Contents, Counts, told}

-- ---- where all is told

-- the calls of a plan leave what is left of it where it was going: it ends as before, and leaves the same
abbrev pub CallsGoOn : Type 0
CallsGoOn =
    (plan left : Plan) (calls : List Call) (o : Outside) (faults : Counts) (after : Contents) →
    AreMade plan (told o faults) calls left after →
    (p : Outside) × (after ≡ told p faults) × (ran left p ≡ ran plan o)

-- so a plan whose calls were all made ends and leaves what the function says
abbrev pub WholeRunsAreTheFunction : Type 0
WholeRunsAreTheFunction =
    (plan : Plan) (o : Outside) (faults : Counts) (ending : Ending) (after : Contents) →
    StopsAt (HasEnded ending) plan (told o faults) after →
    (p : Outside) × (after ≡ told p faults) × (ran plan o ≡ record { ending = ending; outside = p })

-- ---- serving

-- an event of a turn: an arrival, a transmission, an expiry, or the end of an RNR timer
abbrev pub IsOfTurn : Event → Type 0
IsOfTurn (event.Arrive from bytes) = Unit {0}
IsOfTurn (event.Transmit o) = Unit {0}
IsOfTurn (event.Expire o) = Unit {0}
IsOfTurn (event.RnrOver o) = Unit {0}
IsOfTurn other = ⊥

-- what turns do to the device is a list of such events: where a plan that begins with these turns is made to its end, it goes
-- on from a node whose device they lead to
abbrev pub TurnsAreEvents : Type 0
TurnsAreEvents =
    (count : ℕ) (v : Node) (more : Node → Plan) (calls : List Call) (ending : Ending) →
    Leads (turns count v more) calls (Ends ending) →
    (es : List Event) × (w : Node) × (prefix : List Call) × (back : List Call) ×
    (calls ≡ prefix ++ back) × Leads (more w) back (Ends ending) ×
    All IsOfTurn es × (w.device ≡ replay v.device es)
