-- The payloads of posted requests in a pool of pages.
use Rattle.std.specs.Prelude.{ℕ, ◌≡◌, ◌≢◌, ◌+◌, List, map, sum_by, All, nat_eq}
use Rattle.std.specs.List.{IsDistinct}
use Rattle.page_pool.specs.Pool.{Pool, IsIn, bytes_of, free_pages, pages_of}
use Rattle.end_queues.specs.declared.work_queues.posted.QueuedRequest.{QueuedRequest}

-- the lists of the payloads of some requests
abbrev pub payload_lists : List QueuedRequest → List ℕ
payload_lists ps = map (λ p. p.payload.list) ps

-- their pages
unfoldable pub payload_pages : Pool → List QueuedRequest → ℕ
payload_pages pool ps = sum_by (λ p. pages_of (bytes_of pool p.payload.list)) ps

-- the payloads live in the pool, each in a list of its own
pub record AreApart (pool : Pool) (ps : List QueuedRequest) : Type 0 where
  pub live : All (λ p. IsIn pool p.payload.list) ps
  pub apart : IsDistinct nat_eq (payload_lists ps)

-- the pages of these requests' payloads are free, and all other lists are as they were
pub record GivesBack (old new : Pool) (ps : List QueuedRequest) : Type 0 where
  pub pages : new.pages ≡ old.pages
  pub others : (list : ℕ) → All (λ x. x ≢ list) (payload_lists ps) → bytes_of new list ≡ bytes_of old list
  pub free : free_pages new ≡ free_pages old + payload_pages old ps
