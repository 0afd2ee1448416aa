-- A restore is refused by its first cause.
use Rattle.std.proofs.Common.{◌∙◌, ap, sym}
use Rattle.std.specs.Prelude.{nat_lt}
use Rattle.protocol.specs.Images.{context_of}
use Rattle.protocol.specs.Memory.{free_pages, pages_of_context}
use Rattle.device_core.proofs.Helds.{free-is}
use Rattle.device_core.proofs.Restores.{restore-cause}
use Rattle.device_core.proofs.device.Device.restore_refusal.Goals as goal

pub returns : goal.returns
returns c =
    let x = c.self.inside in
    c.restore_cause.ensures
    ∙ restore-cause c.args.self.now c.args.image.now c.meets_own.result c.takes_none.result c.lacks_pages.result c.meets_own.ensures c.takes_none.ensures
    (c.lacks_pages.ensures ∙ (ap (λ n. nat_lt n (pages_of_context (context_of c.args.image.now))) (sym (free-is x.id x.address x.qp_count x.key_count x.pool x.contexts.entries x.husks.entries _ c.self.invariant)) ∙ ap (λ d. nat_lt (free_pages d) (pages_of_context (context_of c.args.image.now))) c.self.view_is))
