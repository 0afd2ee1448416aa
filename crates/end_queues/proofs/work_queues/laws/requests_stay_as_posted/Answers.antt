use Rattle.std.proofs.Common.{◌≡◌, ◌≢◌, ℕ, List, Option, refl, sym}
use Rattle.std.proofs.lemmas.List.{map_push, drop-map}
use Rattle.std.proofs.lemmas.Option.{slice_get-map}
use Rattle.page_pool.specs.Pool.{Pool, Puts}
use Rattle.page_pool.specs.Held.{payload_bytes}
use Rattle.end_queues.specs.declared.work_queues.posted.QueuedRequest.{QueuedRequest}
use Rattle.end_queues.specs.Untold.{posted_in}
use Rattle.end_queues.proofs.work_queues.laws.requests_stay_as_posted.Goals as goal

-- a change to another list leaves the bytes
stays : (old new : Pool) (list : ℕ) (bytes : Option (List ℕ)) (p : QueuedRequest) → Puts old new list bytes → p.payload.list ≢ list → posted_in new p ≡ posted_in old p
unfolding payload_bytes
stays old new list bytes p puts other = rw (puts.others p.payload.list other) refl

pub returns : goal.returns
returns c = record {
  posting = λ pool q p. map_push (posted_in pool) q.items p;
  telling = λ pool q. sym (drop-map (posted_in pool) 1 q.items);
  at = λ pool ps i. slice_get-map (posted_in pool) ps i;
  stays = stays;
}
