-- An event of a line.
use Rattle.std.proofs.Common.{◌≡◌, ◌∙◌, Option, ap}
use Rattle.node_rules.specs.Lines.{counting}
use Rattle.protocol.specs.declared.events.Event.{Event}
use Rattle.protocol.specs.declared.images.Outcome.{Outcome}
use Rattle.rdma_types.specs.declared.answers.Answer.{Answer}
use Rattle.rdma_types.specs.declared.names.ObjName.{ObjName}
use Rattle.serve_rules.specs.declared.replies.Reply.TheVariants as reply
use Rattle.serve_rules.specs.Lines.{IsLineOf, end_of, line_stepped, line_reply, woken_end}
use Rattle.serve_rules.specs.Server.{Server, after, outcome_of, queued, stepped}

-- the event was stepped, its datagrams wait, its queue pair was woken, and the datagrams so far were counted
pub line_done : (e : Event) (o : Option ObjName) (s s1 s2 s3 : Server) (out : Outcome) (a : Answer) → s1 ≡ after s e → out ≡ outcome_of s e → s2 ≡ queued s1 out.sent → o ≡ end_of e → s3 ≡ woken_end s2 o → a ≡ counting s3.tallies.made out.answer → IsLineOf e s (reply.Device a) s3
unfolding line_stepped line_reply
line_done e o s s1 s2 s3 out a server outcome queue named woken counted =
    let waits : s2 ≡ stepped s e = queue ∙ ap (λ (x : Server). queued x out.sent) server ∙ ap (λ (x : Outcome). queued (after s e) x.sent) outcome in
    let done : s3 ≡ woken_end (stepped s e) (end_of e) = woken ∙ ap (λ (x : Server). woken_end x o) waits ∙ ap (λ (x : Option ObjName). woken_end (stepped s e) x) named in
    (done, ap reply.Device (counted ∙ ap (λ (x : Server). counting x.tallies.made out.answer) done ∙ ap (λ (x : Outcome). counting (woken_end (stepped s e) (end_of e)).tallies.made x.answer) outcome))
