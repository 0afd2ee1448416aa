use Rattle.std.proofs.Common.{◌∙◌, sym}
use Rattle.context_core.proofs.RequestSources.{source-pages, source-there}
use Rattle.context_core.proofs.requests.source_of.Goals as goal

pub unwrap-requires : goal.unwrap-requires
unwrap-requires c = source-there c.args.regions.now c.args.domain c.args.image.now c.len-count.result c.check_local.result c.requires c.len-count.ensures c.check_local.ensures.granted

pub returns-clause-pages : goal.returns-clause-pages
returns-clause-pages c = λ pool. source-pages pool c.args.regions.now c.args.domain c.args.image.now c.len-count.result c.unwrap.result c.requires c.len-count.ensures c.check_local.ensures.keyed (sym (c.check_local.ensures.granted pool) ∙ c.unwrap.ensures)
