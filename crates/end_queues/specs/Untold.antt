-- What a send queue says: its requests with the bytes that they took when they were posted.
use Rattle.std.specs.Prelude.{List, map}
use Rattle.rdma_types.specs.Objects as objects
use Rattle.page_pool.specs.Pool.{Pool}
use Rattle.page_pool.specs.Held.{payload_bytes}
use Rattle.end_queues.specs.declared.work_queues.posted.QueuedRequest.{QueuedRequest}

-- a posted request, whose payload lies in a pool
abbrev pub posted_in : Pool → QueuedRequest → objects.Posted
posted_in pool p = record { request = p.request; payload = payload_bytes pool p.payload }

-- the posted requests, the oldest first
abbrev pub untold_in : Pool → List QueuedRequest → List objects.Posted
untold_in pool ps = map (posted_in pool) ps
