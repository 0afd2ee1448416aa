use Rattle.std.proofs.Common.{◌≡◌, ◌∙◌, sym, ap, true, false}
use Rattle.std.specs.Prelude.{◌||◌, not}
use Rattle.rdma_types.specs.Lists.{has_name, has_word}
use Rattle.endpoint_core.specs.Queues.{queues_of}
use Rattle.protocol.specs.Refusals.{lacks}
use Rattle.context_core.proofs.NamedLookups.{word-any}
use Rattle.context_core.proofs.CreatedEnds.{none-of-three}
use Rattle.context_core.proofs.new_ends.parts_of.Goals as goal

pub returns-then-not-contains-clause-found : goal.returns-then-not-contains-clause-found
returns-then-not-contains-clause-found c = λ few.
    let absent : has_word c.in_ok-domain.domain c.args.domains.now.keys ≡ false = sym (word-any c.in_ok-domain.domain c.args.domains.now.keys) ∙ (sym c.contains.ensures ∙ c.if-not-contains.true) in
    let lacking : lacks (λ n. has_word n c.args.domains.now.keys) c.args.new.now.domain ≡ true = ap (lacks (λ n. has_word n c.args.domains.now.keys)) c.in_ok-domain.was ∙ ap not absent in
    sym (ap (λ b. b || (lacks (λ n. has_name (λ q. q.name) n (queues_of c.args.queues.now.entries)) c.args.new.now.send_cq || lacks (λ n. has_name (λ q. q.name) n (queues_of c.args.queues.now.entries)) c.args.new.now.recv_cq)) lacking)

pub returns-clause-found : goal.returns-clause-found
returns-clause-found c = λ few.
    let there : has_word c.in_ok-domain.domain c.args.domains.now.keys ≡ true = sym (word-any c.in_ok-domain.domain c.args.domains.now.keys) ∙ (sym c.contains.ensures ∙ c.if-not-contains.false) in
    let has : lacks (λ n. has_word n c.args.domains.now.keys) c.args.new.now.domain ≡ false = ap (lacks (λ n. has_word n c.args.domains.now.keys)) c.in_ok-domain.was ∙ ap not there in
    none-of-three _ _ _ (sym has) (c.in_ok-send.ensures.found few) (c.in_ok-recv.ensures.found few)
