use Rattle.std.proofs.Common.{rules, ◌≡◌, true, ap, ◌∙◌}
use Rattle.order_rules.specs.Openings.{openings}
use Rattle.shared_device.specs.Books.{openings_of}
use Rattle.thread_plan.proofs.SameBooks.{opened_so}
use Rattle.thread_plan.proofs.opening.open_so.Goals as goal

pub returns : goal.returns
returns c =
    let rising : c.are_rising.result ≡ true = search rules in
    λ told. (c.same_openings.ensures told ∙ (ap openings_of (c.as_slice.ensures.value ∙ c.in_ok-opened.ensures) ∙ opened_so (openings c.args.workers)), c.are_rising.ensures rising)
