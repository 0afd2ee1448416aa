-- The events of the opening are in their ranges.
use Rattle.std.proofs.Common.{arith, rules, ℕ, zero, suc, ◌≤◌, ◌++◌}
use Rattle.std.specs.Prelude.{All}
use Rattle.std.proofs.lemmas.List.Elements.{All-append, All-nil}
use Rattle.rdma_types.specs.Limits.{most_bytes}
use Rattle.law_simulation.specs.Law.{IsInRange}
use Rattle.mailbox_rules.specs.Opening.{context_events, depth, first_events, joining_events, opening_events, receives_events, sender, sender_capacity, sender_events, senders_events}

receives_in_range : (i n : ℕ) → All IsInRange (receives_events i n)
unfolding receives_events
receives_in_range i zero = All-nil IsInRange
receives_in_range i (suc n) = All-append IsInRange (receives_events i n) _ (receives_in_range i n) (search rules)

joining_in_range : (i : ℕ) → i ≤ 8 → All IsInRange (joining_events most_bytes i)
joining_in_range i high = search rules

sender_in_range : (i : ℕ) → i ≤ 8 → All IsInRange (sender_events most_bytes i)
unfolding sender_events
sender_in_range i high =
    All-append IsInRange (context_events (sender i) 2 sender_capacity) (joining_events most_bytes i ++ receives_events i depth) (search rules)
    (All-append IsInRange (joining_events most_bytes i) (receives_events i depth) (joining_in_range i high) (receives_in_range i depth))

senders_in_range : (n : ℕ) → n ≤ 8 → All IsInRange (senders_events most_bytes n)
unfolding senders_events
senders_in_range zero high = All-nil IsInRange
senders_in_range (suc n) high = All-append IsInRange (senders_events most_bytes n) (sender_events most_bytes (suc n)) (senders_in_range n (omega arith)) (sender_in_range (suc n) high)

pub opening_in_range : (n : ℕ) → n ≤ 8 → All IsInRange (opening_events most_bytes n)
unfolding opening_events
opening_in_range n high = All-append IsInRange first_events (senders_events most_bytes n) (search rules) (senders_in_range n high)
