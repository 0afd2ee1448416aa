-- Small cases: an invented outcome, events at the wrong device, and moves.
use Rattle.std.specs.Prelude.{ℕ, ◌==◌, List, [], ◌∷◌, ◌++◌, length, codes, false, true, if◌then◌else◌, Some}
use Rattle.rdma_types.specs.declared.answers.Answer.{Answer}
use Rattle.rdma_types.specs.declared.answers.Answer.TheVariants as answer
use Rattle.rdma_types.specs.declared.verbs.Verb.{Verb}
use Rattle.rdma_types.specs.declared.verbs.Verb.TheVariants as verbs
use Rattle.rdma_types.specs.declared.answers.Refusal.TheVariants as refusal
use Rattle.protocol.specs.declared.images.ContextImage.{ContextImage}
use Rattle.protocol.specs.State.{context_at}
use Rattle.protocol.specs.Images.{image_of}
use Rattle.protocol.specs.DeviceStep.{device_step}
use Rattle.protocol.specs.declared.events.Event.{Event}
use Rattle.protocol.specs.declared.events.Event.TheVariants as event
use Rattle.order_rules.specs.Lines.{Line, device_after, events_on}
use Rattle.order_rules.specs.Openings.{openings}
use Rattle.example_rules.specs.Alone.{completion, gives, image, line, obj}

-- a poll of a's queue
abbrev pub polls_a : Event
polls_a = event.Poll (obj (codes "a") (codes "c")) 256

-- worker 0 polls an empty queue, and is told of a completion that was never there
abbrev pub invented : List Line
invented = line 0 1 0 polls_a (gives (answer.Polled (completion 65537 ∷ [])) []) 1 0 ∷ []

-- two polls of an empty queue
abbrev pub two_polls : List Line
two_polls =
    line 0 1 0 polls_a (gives (answer.Polled []) []) 1 0
    ∷ line 0 1 1 polls_a (gives (answer.Polled []) []) 1 0
    ∷ []

-- b's queue is polled on a device where b never was
abbrev pub polls_elsewhere : Event
polls_elsewhere = event.Poll (obj (codes "b") (codes "c")) 256

-- a context with a name that lives on another device
abbrev pub makes_a : Event
makes_a = event.MakeContext (codes "a")

-- it is made on device 3, which knows of no other
abbrev pub second_a : List Line
second_a = line 0 3 0 makes_a (gives answer.Done []) 1 0 ∷ []

-- a context of another name is made on device 3, and a domain in it
abbrev pub late_context : List Line
late_context =
    line 0 3 0 (event.MakeContext (codes "e")) (gives answer.Done []) 1 0
    ∷ line 0 3 1 (event.MakeDomain (obj (codes "e") (codes "p"))) (gives answer.Done []) 1 0
    ∷ []

-- what is heard of it
abbrev pub late_heard : List (Verb × Answer)
late_heard = (verbs.Context (codes "e") true, answer.Done) ∷ (verbs.MakeDomain (obj (codes "e") (codes "p")), answer.Done) ∷ []

-- in the caller's own run, the datagram that arrives at the line with that place
abbrev pub arrival : ℕ → ℕ
arrival k = if k == 2 then 1 else if k == 3 then 2 else if k == 7 then 3 else if k == 8 then 4 else 0

-- b stops and is carried, and then a stops
abbrev pub both_stop : List Line
both_stop =
    line 0 2 0 (event.Stop (codes "b") false) (device_step (device_after (openings 1) [] 2) (event.Stop (codes "b") false)).outcome 1 0
    ∷ line 0 1 0 (event.Stop (codes "a") false) (gives answer.Stopped []) 1 0
    ∷ []

-- b's image is put on device 3, and once more there, which is refused
abbrev pub restored_twice : List Line
restored_twice =
    line 0 2 0 (event.Stop (codes "b") false) (record { answer = answer.Stopped; sent = []; image = Some image }) 1 0
    ∷ line 0 3 0 (event.Restore image) (gives answer.Done []) 1 0
    ∷ line 0 3 1 (event.Restore image) (gives (answer.Refused refusal.NumberTaken) []) 1 0
    ∷ []

-- the lines and one more, which the rules answer
abbrev pub and_then : List Line → ℕ → Event → List Line
and_then ls id e = ls ++ line 0 id (length (events_on id ls)) e (device_step (device_after (openings 1) ls id) e).outcome 1 0 ∷ []

-- b's image on a device after some lines
abbrev pub image_there : List Line → ℕ → ContextImage
image_there ls id = image_of (context_at (device_after (openings 1) ls id) (codes "b"))

-- b moves from device 2 to 3
abbrev pub one_move : List Line
one_move = and_then (and_then [] 2 (event.Stop (codes "b") false)) 3 (event.Restore (image_there [] 2))

-- .. and is stopped there
abbrev pub stopped_again : List Line
stopped_again = and_then one_move 3 (event.Stop (codes "b") false)

-- .. and goes back, where its husk is released first
abbrev pub two_moves : List Line
two_moves = and_then (and_then stopped_again 2 (event.Release (codes "b"))) 2 (event.Restore (image_there one_move 3))

-- .. and where it is not
abbrev pub husk_in_the_way : List Line
husk_in_the_way = and_then stopped_again 2 (event.Restore (image_there one_move 3))
