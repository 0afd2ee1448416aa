use Rattle.std.proofs.Common.{ap, ◌∙◌}
use Rattle.protocol.specs.EndWords.{with_receiver}
use Rattle.protocol.specs.Responder.{executed}
use Rattle.roce_headers.specs.Packets.{packet}
use Rattle.responder.specs.Receiving.{progress_of}
use Rattle.responder.specs.Taking.{link_with}
use Rattle.responder.proofs.Views.{seen}
use Rattle.responder.proofs.Responder.execute.Goals as goal

pub returns : goal.returns
unfolding executed with_receiver
returns c =
    let now = c.args.self.now in
    let r = record (executed (link_with now) (packet c.args.d.now)).receiver { progress = progress_of c.args.flow } in
    let kept = ap (λ v. v.receiver.kept) c.self.view_is in
    seen c.self.inside.terms c.executed-self-inside.result c.self.inside.kept r now (ap (λ v. v.terms) c.self.view_is)
    (c.executed-self-inside.ensures.parts c.self.inside.kept ∙ ap (λ k. record r { kept = k }) kept)
