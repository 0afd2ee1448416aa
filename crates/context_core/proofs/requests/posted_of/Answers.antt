use Rattle.std.proofs.Common.{◌∙◌, ap}
use Rattle.std.specs.Prelude.{◌+◌}
use Rattle.page_pool.specs.Pool.{free_pages}
use Rattle.context_core.proofs.RequestsFromImage.{come-one}
use Rattle.context_core.proofs.requests.posted_of.Goals as goal

pub returns-clause-come : goal.returns-clause-come
returns-clause-come c =
    come-one c.args.pool.now c.payload_of.new.pool c.args.regions.now c.args.domain c.args.image.now c.in_ok-payload.payload c.requires.held c.requires.may
    c.in_ok-payload.ensures.new c.in_ok-payload.ensures.puts c.in_ok-payload.ensures.holds (c.in_ok-payload.ensures.length ∙ c.source_of-spot.ensures.length) c.in_ok-payload.ensures.bytes
    (c.in_ok-payload.ensures.pages ∙ c.source_of-spot.ensures.pages c.payload_of.new.pool) (ap (λ n. free_pages c.payload_of.new.pool + n) c.in_ok-payload.ensures.pages ∙ c.in_ok-payload.ensures.free)
