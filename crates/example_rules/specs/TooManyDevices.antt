-- A world has at most sixteen devices.
use Rattle.std.specs.Prelude.{List, [], ◌∷◌}
use Rattle.rdma_types.specs.declared.answers.Answer.{Answer}
use Rattle.rdma_types.specs.declared.answers.Answer.TheVariants.{Done, Refused}
use Rattle.rdma_types.specs.declared.answers.Refusal.TheVariants as refusal
use Rattle.protocol.specs.declared.events.WorldEvent.{WorldEvent}
use Rattle.example_rules.specs.Words.{device}

-- the script
abbrev pub script : List WorldEvent
script =
    device 1 167772161
    ∷ device 2 167772162
    ∷ device 3 167772163
    ∷ device 4 167772164
    ∷ device 5 167772165
    ∷ device 6 167772166
    ∷ device 7 167772167
    ∷ device 8 167772168
    ∷ device 9 167772169
    ∷ device 10 167772170
    ∷ device 11 167772171
    ∷ device 12 167772172
    ∷ device 13 167772173
    ∷ device 14 167772174
    ∷ device 15 167772175
    ∷ device 16 167772176
    ∷ device 17 167772177
    ∷ []

-- what it is answered, in order
abbrev pub answers : List Answer
answers =
    Done
    ∷ Done
    ∷ Done
    ∷ Done
    ∷ Done
    ∷ Done
    ∷ Done
    ∷ Done
    ∷ Done
    ∷ Done
    ∷ Done
    ∷ Done
    ∷ Done
    ∷ Done
    ∷ Done
    ∷ Done
    ∷ Refused refusal.TooMany
    ∷ []
