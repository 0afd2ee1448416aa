use Rattle.std.proofs.Common.{ap, ◌∙◌}
use Rattle.std.specs.Prelude.{◌==◌, ◌||◌, ◌&&◌, not}
use Rattle.rdma_types.specs.Lists.{some}
use Rattle.context_core.proofs.KeysInUse.{names-linked, names-unlinked}
use Rattle.context_core.proofs.naming.is_named_by.Goals as goal

pub returns-in_default : goal.returns-in_default
returns-in_default c = λ pool names. c.is_awaited-awaited.ensures ∙ names-unlinked pool names c.args.key c.args.end.now c.in_default.is

pub returns : goal.returns
returns c = λ pool names.
    c.is_one.ensures
    ∙ (ap (λ b. b || (c.is_awaited-awaited.result || c.is_written.result)) c.is_requested-requested.ensures
    ∙ (ap (λ b. some (λ p. p.request.lkey == c.args.key && not (p.request.shape.length == 0)) c.in-Some.link.requester.items || (b || c.is_written.result)) c.is_awaited-awaited.ensures
    ∙ (ap (λ b. some (λ p. p.request.lkey == c.args.key && not (p.request.shape.length == 0)) c.in-Some.link.requester.items || (some (λ r. r.lkey == c.args.key && not (r.length == 0)) c.args.end.now.recvs.items || b)) c.is_written.ensures
    ∙ names-linked pool names c.args.key c.args.end.now c.in-Some.link c.in-Some.is)))
