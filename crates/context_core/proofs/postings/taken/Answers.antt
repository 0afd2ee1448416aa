use Rattle.std.proofs.Common.{◌≢◌, subst}
use Rattle.std.specs.Prelude.{All}
use Rattle.context_core.proofs.postings.taken.Goals as goal

pub returns-in-Ok-clause-taken : goal.returns-in-Ok-clause-taken
returns-in-Ok-clause-taken c = record {
  new = c.in-Ok.ensures.new;
  same_pages = c.in-Ok.ensures.puts.pages;
  others = c.in-Ok.ensures.puts.others;
  apart = subst (λ hs. All (λ h. h.list ≢ c.in-Ok.payload.list) hs) c.snapshot.ensures.same c.in-Ok.ensures.apart;
  holds = c.in-Ok.ensures.holds;
  size = c.in-Ok.ensures.length;
  bytes = c.in-Ok.ensures.bytes;
  pages = c.in-Ok.ensures.pages;
  free = c.in-Ok.ensures.free;
}
