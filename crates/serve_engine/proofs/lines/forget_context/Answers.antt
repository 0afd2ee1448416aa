use Rattle.std.proofs.Common.{rules}
use Rattle.std.specs.Prelude.{bytes_eq, not}
use Rattle.std.proofs.lemmas.Fn.{filter_same}
use Rattle.serve_engine.proofs.lines.forget_context.Goals as goal

pub returns : goal.returns
returns c = filter_same _ (λ g. not (bytes_eq g.0 c.args.name)) _ (λ x b f' h. (search rules, search rules)) _ _ c.retain.ensures.filtered
