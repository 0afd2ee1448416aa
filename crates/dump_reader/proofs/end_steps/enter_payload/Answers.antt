use Rattle.std.proofs.Common.{arith, ◌≡◌, ◌∷◌, ◌++◌, [], List, ℕ}
use Rattle.dump_reader.specs.Groups.{link_of_head, payload_length}
use Rattle.dump_reader.specs.Ahead.{more_untold, queues_of}
use Rattle.dump_reader.proofs.Split.{skip}
use Rattle.dump_reader.proofs.Onward.{enters_from}
use Rattle.dump_reader.proofs.end_steps.enter_payload.Goals as goal

pub returns : goal.returns
returns c =
    let none : payload_length c.args.request ≡ 0 = omega (arith, c.payload_len-missing.ensures) in
    enters_from _ _ _ c.take_request.result (λ p b. skip (payload_length c.args.request) p b (λ (payload : List ℕ). more_untold c.args.opened.now c.args.lists.now.domains.items c.args.lists.now.regions.items (queues_of c.args.lists.now) c.args.lists.now.ends.items c.args.after c.args.head.now (link_of_head c.args.link.now c.args.lists.now.kept.items) c.args.before.now c.args.count (c.args.lists.now.untold.items ++ record { request = c.args.request; payload = payload } ∷ [])) c.make.result none c.make.ensures) c.take_request.ensures.enters
