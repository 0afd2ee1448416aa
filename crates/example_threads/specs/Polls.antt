-- Two polls of an empty queue, as the book of the device, the order and the receipts have them.
use Rattle.std.specs.Prelude.{ℕ, List, [], ◌∷◌}
use Rattle.rdma_types.specs.declared.answers.Answer.TheVariants as answer
use Rattle.order_rules.specs.declared.OrderEntry.{OrderEntry}
use Rattle.order_rules.specs.declared.Receipt.{Receipt}
use Rattle.order_rules.specs.Lines.{opening_of}
use Rattle.order_rules.specs.Openings.{openings}
use Rattle.shared_device.specs.Books.{BookView}
use Rattle.example_rules.specs.Alone.{gives}
use Rattle.example_rules.specs.OrdersCases.{polls_a}

-- the book of device 1
abbrev pub books : List BookView
books = record { opening = opening_of (openings 1) 1; journal = polls_a ∷ polls_a ∷ [] } ∷ []

-- the entries of both polls
abbrev pub entries : List OrderEntry
entries = record { device = 1; place = 0; first = 1; count = 0 } ∷ record { device = 1; place = 1; first = 1; count = 0 } ∷ []

-- the receipts of worker 0, where the first has this place
abbrev pub receipts : ℕ → List (List Receipt)
receipts place =
    (record { worker = 0; device = 1; place = place; event = polls_a; outcome = gives (answer.Polled []) [] }
    ∷ record { worker = 0; device = 1; place = 1; event = polls_a; outcome = gives (answer.Polled []) [] }
    ∷ []) ∷ []
