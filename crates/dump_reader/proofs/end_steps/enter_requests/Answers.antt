use Rattle.std.proofs.Common.{◌≡◌, ℕ, suc, ◌-◌, ap, arith}
use Rattle.dump_reader.specs.Groups.{link_of_head}
use Rattle.dump_reader.specs.Ahead.{ahead, more_untold, queues_of}
use Rattle.dump_reader.proofs.end_steps.enter_requests.Goals as goal

pub returns-in_default-clause-ahead : goal.returns-in_default-clause-ahead
unfolding ahead
returns-in_default-clause-ahead c =
    let s = c.args.lists.now in
    let e : suc (c.args.count - 1) ≡ c.args.count = omega arith in
    ap (λ (n : ℕ). more_untold c.args.opened.now s.domains.items s.regions.items (queues_of s) s.ends.items c.args.after c.args.head.now (link_of_head c.args.link.now s.kept.items) c.args.before.now n s.untold.items) e
