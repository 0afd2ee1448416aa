-- The causes of refusals that speak of a context, as the protocol lists them behind those of the context itself.
use Rattle.std.specs.Prelude.{ℕ, List, [], ◌∷◌, length, nat_le, not}
use Rattle.rdma_types.specs.declared.answers.Refusal.TheVariants.{NoSuch, NumberTaken, TooMany, BadKey, BadState, InUse}
use Rattle.rdma_types.specs.declared.names.Name.{Name}
use Rattle.rdma_types.specs.Causes.{Cause, cause}
use Rattle.rdma_types.specs.Limits.{most_domains, most_queues}
use Rattle.rdma_types.specs.Lists.{has_word, some}
use Rattle.rdma_types.specs.Memory.{holds}
use Rattle.protocol.specs.State.{Context, region_at, end_at}
use Rattle.protocol.specs.Refusals.{has_region, has_queue, is_init, end_causes, names_key}

-- causes of making a domain
abbrev pub domain_causes : Context → Name → List Cause
domain_causes c n = cause NumberTaken (has_word n c.domains) ∷ cause TooMany (nat_le most_domains (length c.domains)) ∷ []

-- causes of making a completion queue
abbrev pub queue_causes : Context → Name → List Cause
queue_causes c n = cause NumberTaken (has_queue c n) ∷ cause TooMany (nat_le most_queues (length c.queues)) ∷ []

-- causes of connecting a queue pair
abbrev pub connect_causes : Context → Name → List Cause
connect_causes c n = end_causes c n (cause BadState (not (is_init (end_at c n).link)) ∷ [])

-- causes of dropping a region
abbrev pub drop_causes : Context → Name → List Cause
drop_causes c n = cause NoSuch (not (has_region c n)) ∷ cause InUse (some (names_key (region_at c n).keys.local) c.ends) ∷ []

-- causes of storing to a region or loading from it
abbrev pub range_causes : Context → Name → ℕ → ℕ → List Cause
range_causes c n at count = cause NoSuch (not (has_region c n)) ∷ cause BadKey (not (holds (region_at c n) at count)) ∷ []

-- causes of polling
abbrev pub poll_causes : Context → Name → List Cause
poll_causes c n = cause NoSuch (not (has_queue c n)) ∷ []
