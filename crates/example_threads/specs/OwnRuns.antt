-- Orders of two applications and a mover over devices of their own that are not fair. In one `mail` is stopped while its partner
-- `desk` is Resuming, since no end of `mail` has heard of the move; in the other device 8 makes a second context `mail`.
use Rattle.std.specs.Prelude.{List, [], ◌∷◌, ◌++◌, codes, false}
use Rattle.rdma_types.specs.declared.answers.Answer.TheVariants as answer
use Rattle.protocol.specs.declared.events.Event.TheVariants as event
use Rattle.order_rules.specs.Lines.{Line}
use Rattle.example_rules.specs.Alone.{gives, line}
use Rattle.example_rules.specs.OwnDevices as own

-- the order of both applications and the mover, and then the stop
abbrev pub stopped_beside : List Line
stopped_beside = own.lines ++ line 0 7 4 (event.Stop (codes "mail") false) (gives answer.Stopped []) 3 0 ∷ []

-- a context of a new name is made, and then one whose name lives on device 7
abbrev pub named_twice : List Line
named_twice =
    line 0 8 0 (event.MakeContext (codes "log")) (gives answer.Done []) 1 0
    ∷ line 0 8 1 (event.MakeContext (codes "mail")) (gives answer.Done []) 1 0
    ∷ []
