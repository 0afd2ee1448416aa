-- A run of a world and the run of the machine that follows it, in parts.
use Rattle.std.specs.Prelude.{List, [], ◌∷◌, ◌++◌, true, false, Some, None}
use Rattle.rdma_types.specs.declared.requests.Kind.TheVariants as kinds
use Rattle.rdma_types.specs.declared.verbs.Verb.TheVariants.{Store, PostSend, PostRecv}
use Rattle.protocol.specs.declared.events.Event.TheVariants as events
use Rattle.protocol.specs.declared.events.WorldEvent.{WorldEvent}
use Rattle.protocol.specs.declared.events.WorldEvent.TheVariants as world_events
use Rattle.protocol.specs.State.{World, empty_world}
use Rattle.protocol.specs.Evaluate.{reached}
use Rattle.packetless_machine.specs.Machine.{Machine, empty}
use Rattle.packetless_machine.specs.Evaluate.{ran_to}
use Rattle.packetless_machine.specs.declared.steps.MachineStep.{MachineStep}
use Rattle.packetless_machine.specs.declared.steps.MachineStep.TheVariants as steps
use Rattle.example_rules.specs.MachineOpening.{made, object, word_a, word_b, word_m, word_q}
use Rattle.example_rules.specs.RelationOpening.{opening, terms}

-- part 1 of the run of the world
abbrev pub events_1 : List WorldEvent
events_1 =
    world_events.AddDevice 1 (record { ip = 167772161; port = 4791 })
    ∷ world_events.AddDevice 2 (record { ip = 167772162; port = 4791 })
    ∷ world_events.AddDevice 3 (record { ip = 167772163; port = 4791 })
    ∷ opening 320 (terms 7)
    ++ world_events.At (events.Store (object word_a word_m) 4096 (222 ∷ 173 ∷ 190 ∷ 239 ∷ []))
    ∷ world_events.At (events.PostSend (object word_a word_q) (record { id = 1; shape = record { kind = kinds.Write; length = 300; remote = 8192; rkey = 33554435; imm = None; swap_add = 0; compare = 0 }; lkey = 16777218; local = 4096; signaled = true; fence = false }))
    ∷ world_events.At (events.PostSend (object word_a word_q) (record { id = 2; shape = record { kind = kinds.FetchAdd; length = 8; remote = 8192; rkey = 33554435; imm = None; swap_add = 5; compare = 0 }; lkey = 16777218; local = 4096; signaled = true; fence = false }))
    ∷ world_events.At (events.PostRecv (object word_b word_q) (record { id = 9; lkey = 33554434; local = 8192; length = 16 }))
    ∷ world_events.At (events.Transmit (object word_a word_q))
    ∷ world_events.At (events.Transmit (object word_a word_q))
    ∷ world_events.Deliver 1
    ∷ []

-- the steps of the machine in it
abbrev pub steps_1 : List MachineStep
steps_1 =
    made 320 (terms 7)
    ++ steps.Verb (Store (object word_a word_m) 4096 (222 ∷ 173 ∷ 190 ∷ 239 ∷ [])) 0
    ∷ steps.Verb (PostSend (object word_a word_q) (record { id = 1; shape = record { kind = kinds.Write; length = 300; remote = 8192; rkey = 33554435; imm = None; swap_add = 0; compare = 0 }; lkey = 16777218; local = 4096; signaled = true; fence = false })) 0
    ∷ steps.Verb (PostSend (object word_a word_q) (record { id = 2; shape = record { kind = kinds.FetchAdd; length = 8; remote = 8192; rkey = 33554435; imm = None; swap_add = 5; compare = 0 }; lkey = 16777218; local = 4096; signaled = true; fence = false })) 0
    ∷ steps.Verb (PostRecv (object word_b word_q) (record { id = 9; lkey = 33554434; local = 8192; length = 16 })) 0
    ∷ steps.Run (object word_a word_q) 256
    ∷ []

-- the world after it
unfoldable pub world_1 : World
world_1 = reached empty_world events_1

-- the machine after it
unfoldable pub machine_1 : Machine
machine_1 = ran_to empty steps_1

-- part 2 of the run of the world
abbrev pub events_2 : List WorldEvent
events_2 =
    world_events.Stop word_b
    ∷ world_events.Deliver 2
    ∷ world_events.Deliver 3
    ∷ []

-- the steps of the machine in it
abbrev pub steps_2 : List MachineStep
steps_2 =
    []

-- the world after it
unfoldable pub world_2 : World
world_2 = reached world_1 events_2

-- the machine after it
unfoldable pub machine_2 : Machine
machine_2 = ran_to machine_1 steps_2

-- part 3 of the run of the world
abbrev pub events_3 : List WorldEvent
events_3 =
    world_events.Restore word_b 3
    ∷ world_events.At (events.Transmit (object word_b word_q))
    ∷ world_events.Deliver 4
    ∷ world_events.Deliver 5
    ∷ []

-- the steps of the machine in it
abbrev pub steps_3 : List MachineStep
steps_3 =
    []

-- the world after it
unfoldable pub world_3 : World
world_3 = reached world_2 events_3

-- the machine after it
unfoldable pub machine_3 : Machine
machine_3 = ran_to machine_2 steps_3

-- part 4 of the run of the world
abbrev pub events_4 : List WorldEvent
events_4 =
    world_events.At (events.Transmit (object word_a word_q))
    ∷ world_events.Deliver 6
    ∷ world_events.Deliver 7
    ∷ world_events.At (events.Transmit (object word_a word_q))
    ∷ world_events.At (events.Transmit (object word_a word_q))
    ∷ world_events.Deliver 8
    ∷ world_events.Deliver 9
    ∷ []

-- the steps of the machine in it
abbrev pub steps_4 : List MachineStep
steps_4 =
    steps.Known (object word_a word_q) 256
    ∷ steps.Run (object word_a word_q) 44
    ∷ steps.Atom (object word_a word_q)
    ∷ []

-- the world after it
unfoldable pub world_4 : World
world_4 = reached world_3 events_4

-- the machine after it
unfoldable pub machine_4 : Machine
machine_4 = ran_to machine_3 steps_4

-- part 5 of the run of the world
abbrev pub events_5 : List WorldEvent
events_5 =
    world_events.At (events.PostSend (object word_a word_q) (record { id = 3; shape = record { kind = kinds.Read; length = 300; remote = 8192; rkey = 33554435; imm = None; swap_add = 0; compare = 0 }; lkey = 16777218; local = 4096; signaled = true; fence = false }))
    ∷ world_events.At (events.PostSend (object word_a word_q) (record { id = 4; shape = record { kind = kinds.Send; length = 8; remote = 0; rkey = 0; imm = (Some 42); swap_add = 0; compare = 0 }; lkey = 16777218; local = 4096; signaled = true; fence = false }))
    ∷ world_events.At (events.PostSend (object word_a word_q) (record { id = 5; shape = record { kind = kinds.Write; length = 8; remote = 9000; rkey = 33554435; imm = None; swap_add = 0; compare = 0 }; lkey = 16777218; local = 4096; signaled = true; fence = true }))
    ∷ world_events.At (events.Transmit (object word_a word_q))
    ∷ world_events.Deliver 12
    ∷ world_events.Deliver 13
    ∷ world_events.At (events.Transmit (object word_a word_q))
    ∷ world_events.Deliver 15
    ∷ []

-- the steps of the machine in it
abbrev pub steps_5 : List MachineStep
steps_5 =
    steps.Verb (PostSend (object word_a word_q) (record { id = 3; shape = record { kind = kinds.Read; length = 300; remote = 8192; rkey = 33554435; imm = None; swap_add = 0; compare = 0 }; lkey = 16777218; local = 4096; signaled = true; fence = false })) 0
    ∷ steps.Verb (PostSend (object word_a word_q) (record { id = 4; shape = record { kind = kinds.Send; length = 8; remote = 0; rkey = 0; imm = (Some 42); swap_add = 0; compare = 0 }; lkey = 16777218; local = 4096; signaled = true; fence = false })) 0
    ∷ steps.Verb (PostSend (object word_a word_q) (record { id = 5; shape = record { kind = kinds.Write; length = 8; remote = 9000; rkey = 33554435; imm = None; swap_add = 0; compare = 0 }; lkey = 16777218; local = 4096; signaled = true; fence = true })) 0
    ∷ steps.ReadTurn (object word_a word_q)
    ∷ steps.Offer (object word_a word_q) 2 0 256
    ∷ steps.Offer (object word_a word_q) 2 256 44
    ∷ steps.Run (object word_a word_q) 8
    ∷ []

-- the world after it
unfoldable pub world_5 : World
world_5 = reached world_4 events_5

-- the machine after it
unfoldable pub machine_5 : Machine
machine_5 = ran_to machine_4 steps_5
