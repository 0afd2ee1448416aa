use Rattle.std.proofs.Common.{◌≡◌, ◌<◌, ap, sym, ◌∙◌, subst, arith}
use Rattle.std.specs.Prelude.{All}
use Rattle.rdma_types.specs.Memory.{word_of}
use Rattle.memory_keys.specs.Regions.{spot_bytes}
use Rattle.protocol.specs.EndWords.{with_receiver}
use Rattle.protocol.specs.declared.images.KeptReply.{KeptReply}
use Rattle.protocol.specs.Responder.{executed, keeping}
use Rattle.protocol.specs.State.{Receiver}
use Rattle.roce_headers.specs.Packets.{packet}
use Rattle.responder.specs.Taking.{link_with}
use Rattle.responder.proofs.Views.{kept-more, seen}
use Rattle.responder.proofs.Responder.take_atomic.Goals as goal

pub invariant_of-self : goal.invariant_of-self
invariant_of-self c =
    let held = c.executed-parts.ensures.held in
    let bound = c.executed-parts.result.expected in
    let reply : KeptReply = record { number = c.self.inside.parts.expected; old = c.exchange-old.result } in
    let kept = ap (λ v. v.receiver.kept) c.self.view_is in
    let number = ap (λ v. v.receiver.expected) c.self.view_is in
    let later : reply.number < bound = omega (arith, number, c.executed-parts.ensures.expected_grows) in
    let old : All (λ k. k.number < bound) c.self.inside.kept = subst (λ ks. All (λ k. k.number < bound) ks) (sym kept) held.kept in
    record {
      mtu = c.self.invariant.mtu;
      expected = held.expected;
      msn = held.msn;
      kept = subst (λ ks. All (λ k. k.number < bound) ks) (sym c.put.ensures) (kept-more bound c.self.inside.kept reply old later);
    }

pub returns-clause-receiver : goal.returns-clause-receiver
unfolding executed with_receiver
returns-clause-receiver c =
    let now = c.args.self.now in
    let old = word_of (spot_bytes c.args.pool.now c.args.regions.now c.args.spot) in
    let more : KeptReply = record { number = c.self.inside.parts.expected; old = c.exchange-old.result } in
    let reply : KeptReply = record { number = now.receiver.expected; old = old } in
    let r : Receiver = record (executed (link_with now) (packet c.args.d.now)).receiver { kept = keeping now.receiver.kept reply } in
    let kept = ap (λ v. v.receiver.kept) c.self.view_is in
    let number = ap (λ v. v.receiver.expected) c.self.view_is in
    let flow = ap (λ v. v.receiver.progress) c.self.view_is in
    let same : more ≡ reply = cc (number, c.exchange-old.ensures.old) in
    let kept' : c.put.new.self ≡ keeping now.receiver.kept reply = c.put.ensures ∙ (ap (λ ks. keeping ks more) kept ∙ ap (keeping now.receiver.kept) same) in
    seen c.self.inside.terms c.executed-parts.result c.put.new.self r now (ap (λ v. v.terms) c.self.view_is)
    (c.executed-parts.ensures.parts c.put.new.self ∙ (ap (λ p. record r { progress = p; kept = c.put.new.self }) flow ∙ ap (λ ks. record r { kept = ks }) kept'))
