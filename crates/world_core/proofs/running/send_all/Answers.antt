-- One more is sent, and at the end none is left.
use Rattle.std.proofs.Common.{◌≡◌, ◌<◌, ◌++◌, ◌∷◌, [], List, ap, arith, length, refl, reverse, sym, ◌∙◌}
use Rattle.std.specs.Prelude.{Option, Some}
use Rattle.std.proofs.lemmas.Grind.{common_steps}
use Rattle.std.proofs.lemmas.List.{reverse-append, reverse-reverse}
use Rattle.protocol.specs.Fabric.{forgetting, sending}
use Rattle.protocol.specs.State.{Flight}
use Rattle.protocol.proofs.Histories.{forgetting-forgetting, sending-one_by_one}
use Rattle.rdma_types.specs.declared.answers.Sent.{Sent}
use Rattle.rdma_types.specs.declared.requests.Address.{Address}
use Rattle.world_core.proofs.Drafts.{none_sent}
use Rattle.world_core.proofs.running.send_all.Goals as goal

-- the last of a list is sent, and the rest is still to be sent
sent_last : (s s' : List Flight) (from : Address) (list rest : List Sent) (d : Sent) → list ≡ rest ++ d ∷ [] → s' ≡ forgetting (sending s from (d ∷ [])) → forgetting (sending s' from (reverse rest)) ≡ forgetting (sending s from (reverse list))
sent_last s s' from list rest d last one =
    ap (λ x. forgetting (sending x from (reverse rest))) one ∙ (sending-one_by_one s from (d ∷ []) (reverse rest) ∙ ap (λ x. forgetting (sending s from x)) (sym (ap reverse last ∙ reverse-append rest (d ∷ []))))

-- where none is left, all are sent
sent_all : (s : List Flight) (from : Address) (list : List Sent) → forgetting s ≡ s → list ≡ [] → s ≡ forgetting (sending s from (reverse list))
sent_all s from list kept none = sym (ap (λ x. forgetting (sending s from (reverse x))) none ∙ (ap forgetting (none_sent s from) ∙ kept))

-- a list whose last item is not there is empty
empty_where : (items : List Sent) (o : Option Sent) → ((d : Sent) → 0 < length items → (x : Sent) × (o ≡ Some x)) → ((x : Sent) → o ≡ Some x → ⊥) → items ≡ []
empty_where [] o there none = refl
empty_where (x ∷ items) o there none = let last = there x (omega arith) in absurd (none last.0 last.1)

pub loop-datagram-preserved : goal.loop-datagram-preserved
loop-datagram-preserved c =
    let items : c.loop-datagram.list.items ≡ c.pop.new.self.items ++ c.in-Some.datagram ∷ [] = c.in-Some.ensures.items in
    let one = c.send_one.ensures.sent in (
      sent_last c.loop-datagram.fabric c.send_one.new.fabric c.args.from c.loop-datagram.list.items c.pop.new.self.items c.in-Some.datagram items one ∙ c.loop-datagram.invariant.0,
      ap forgetting one ∙ (forgetting-forgetting (sending c.loop-datagram.fabric c.args.from (c.in-Some.datagram ∷ [])) ∙ sym one),
      grind (arith, common_steps, c.send_one.ensures.count, ap length items, c.loop-datagram.invariant.2),
      c.send_one.ensures.draft ∙ c.loop-datagram.invariant.3,
    )

pub returns-clause-sent : goal.returns-clause-sent
returns-clause-sent c =
    let none : c.loop-datagram.list.items ≡ [] = empty_where c.loop-datagram.list.items c.pop.result (λ d less. (_, c.pop.ensures.value d (omega (arith, less, c.loop-datagram.list.ok.0)))) c.in_default.not-Some in
    let turned : reverse c.reverse.new.self.items ≡ c.args.sent = ap reverse (c.reverse.ensures.items ∙ ap reverse c.into_vec-list.ensures) ∙ reverse-reverse c.args.sent in
    sent_all c.loop-datagram.fabric c.args.from c.loop-datagram.list.items c.loop-datagram.invariant.1 none
    ∙ (c.loop-datagram.invariant.0 ∙ ap (λ x. forgetting (sending c.args.fabric.now c.args.from x)) turned)
