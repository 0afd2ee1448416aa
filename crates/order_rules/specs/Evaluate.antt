-- All that orders of steps compute with, opened at once for worked examples.
use Rattle.std.specs.Prelude.{ℕ, List, [], ◌∷◌, ◌++◌, map}
use Rattle.std.specs.Fmt.{digits}
use Rattle.rdma_types.specs.declared.answers.Answer.{Answer}
use Rattle.rdma_types.specs.declared.verbs.Verb.{Verb}
use Rattle.protocol.specs.declared.images.Outcome.{Outcome}
use Rattle.protocol.specs.declared.events.Event.{Event}
use Rattle.protocol.specs.declared.events.WorldEvent.{WorldEvent}
use Rattle.protocol.specs.State.{Device}
use Rattle.protocol.specs.DeviceStep.{device_step}
use Rattle.protocol.specs.Evaluate.{computed, reached}
use Rattle.law_simulation.specs.Kept as in_kept
use Rattle.law_simulation.specs.Law.{kept}
use Rattle.order_rules.specs.Lines as in_lines
use Rattle.order_rules.specs.Lines.{Line}
use Rattle.order_rules.specs.Sides as in_sides
use Rattle.order_rules.specs.Openings as in_openings
use Rattle.order_rules.specs.Opened as in_opened
use Rattle.order_rules.specs.Hears as in_hears
use Rattle.order_rules.specs.Bridge as in_bridge

-- the opening devices of that many workers
unfoldable pub opened : ℕ → List Device
unfolding computed reached in_kept.verb_in in_kept.verb_of in_kept.is_unmade_by in_kept.is_unmade in_kept.kept_verb
    in_openings.pairs in_openings.opening_world in_openings.opening_verbs in_openings.ends_of in_openings.device_apart in_opened.ends_from
    in_lines.events_on in_lines.held_by in_lines.device_after in_lines.flown_after
    in_sides.carried_after in_sides.world_of in_sides.stops_beside_a_mover in_sides.makes_a_second
    in_hears.verb_heard in_hears.heard in_bridge.events_of
    digits
opened workers = in_openings.openings workers

-- what the rules answer to an event of a device after some lines
unfoldable pub outcome_after : ℕ → List Line → ℕ → Event → Outcome
unfolding opened
outcome_after workers earlier id e = (device_step (in_lines.device_after (in_openings.openings workers) earlier id) e).outcome

-- what applications hear of the opening and of the lines
unfoldable pub heard_with : ℕ → List Line → List (Verb × Answer)
unfolding opened
heard_with workers ls = in_openings.opening_verbs workers ++ in_hears.heard ls

-- what the rules answer to the events of some lines, one after the other
unfoldable pub recomputed : ℕ → List Line → List Line → List Outcome
unfolding opened outcome_after
recomputed workers earlier [] = []
recomputed workers earlier (l ∷ ls) = outcome_after workers earlier l.receipt.device l.receipt.event ∷ recomputed workers (earlier ++ l ∷ []) ls

-- the devices after some lines
unfoldable pub devices_after : ℕ → List Line → List Device
unfolding opened
devices_after workers ls = (in_sides.world_of (in_openings.openings workers) ls).devices

-- the world events of some lines, where `number` gives the datagram that arrives
unfoldable pub played_as : ℕ → (ℕ → ℕ) → List Line → List WorldEvent
unfolding opened
played_as workers number ls = in_bridge.events_of (in_openings.openings workers) number [] ls

-- the devices of the world that these lead to
unfoldable pub devices_played : ℕ → (ℕ → ℕ) → List Line → List Device
unfolding opened played_as
devices_played workers number ls = (reached (in_openings.opening_world workers) (played_as workers number ls)).devices

-- what applications hear in it
unfoldable pub heard_playing : ℕ → (ℕ → ℕ) → List Line → List (Verb × Answer)
unfolding opened played_as
heard_playing workers number ls = kept (in_openings.opening_world workers) (played_as workers number ls)

-- what applications hear of the lines
unfoldable pub heard_of : List Line → List (Verb × Answer)
unfolding opened
heard_of ls = in_hears.heard ls

-- what a world answers to some events after the opening
unfoldable pub answers_after : ℕ → List WorldEvent → List Answer
unfolding opened
answers_after workers es = computed (in_openings.opening_world workers) es

-- what the rules answer to the events of some lines
unfoldable pub answered : ℕ → List Line → List Answer
unfolding recomputed
answered workers ls = map (λ o. o.answer) (recomputed workers [] ls)

-- the devices of the opening, each by events of its own
unfoldable pub opened_apart : ℕ → List Device
unfolding opened
opened_apart workers = in_openings.openings_apart workers
