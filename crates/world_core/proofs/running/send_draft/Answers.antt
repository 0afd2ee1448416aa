-- One more is sent, and at the end none is left.
use Rattle.std.proofs.Common.{◌≡◌, ◌∷◌, ◌∙◌, [], ap, arith, length, sym}
use Rattle.std.proofs.lemmas.Grind.{common_steps}
use Rattle.protocol.specs.Fabric.{forgetting, sending}
use Rattle.protocol.proofs.Histories.{forgetting-forgetting}
use Rattle.world_core.proofs.Drafts.{none_left, sent_all, sent_first}
use Rattle.world_core.proofs.running.send_draft.Goals as goal

pub loop-datagram-preserved : goal.loop-datagram-preserved
loop-datagram-preserved c =
    let first : c.in-Some.datagram ∷ c.pop.new.self ≡ c.loop-datagram.draft = c.in-Some.ensures.taken in
    let one = c.send_one.ensures.sent in (
      ap (λ xs. forgetting (sending c.send_one.new.fabric c.args.from xs)) c.send_one.ensures.draft
          ∙ (sent_first c.loop-datagram.fabric c.send_one.new.fabric c.args.from c.loop-datagram.draft c.pop.new.self c.in-Some.datagram first one ∙ c.loop-datagram.invariant.0),
      ap forgetting one ∙ (forgetting-forgetting (sending c.loop-datagram.fabric c.args.from (c.in-Some.datagram ∷ [])) ∙ sym one),
      grind (arith, common_steps, c.send_one.ensures.count, ap length first, ap length c.send_one.ensures.draft, c.loop-datagram.invariant.2),
    )

pub loop-datagram-smaller : goal.loop-datagram-smaller
loop-datagram-smaller c =
    let first : c.in-Some.datagram ∷ c.pop.new.self ≡ c.loop-datagram.draft = c.in-Some.ensures.taken in
    omega (arith, ap length first, ap length c.send_one.ensures.draft)

pub returns-clause-sent : goal.returns-clause-sent
returns-clause-sent c =
    let none = none_left c.pop.result c.pop.new.self c.loop-datagram.draft c.pop.ensures.taken c.pop.ensures.none c.in_default.not-Some in
    sent_all c.loop-datagram.fabric c.args.from c.loop-datagram.draft c.loop-datagram.invariant.1 none.0 ∙ c.loop-datagram.invariant.0

pub returns-clause-empty : goal.returns-clause-empty
returns-clause-empty c = (none_left c.pop.result c.pop.new.self c.loop-datagram.draft c.pop.ensures.taken c.pop.ensures.none c.in_default.not-Some).1
