use Rattle.std.proofs.Common.{◌≡◌, ◌+◌, ◌<◌, ◌∙◌, ap, sym, subst, length}
use Rattle.context_core.specs.Coming.{used_of_image}
use Rattle.context_core.proofs.PlacesFromImage.{Reserves, count-kept, reserves, reserves-end, room-part}
use Rattle.context_core.proofs.coming.reserve_end.Goals as goal

-- the places of the requests
first : (c : goal.After-reserve_at-arg-2-1) → Reserves c.args.queues.now.entries c.reserve_at.new.queues.entries c.args.end.now.send_cq c.len.result
first c = reserves c.args.queues.now.entries c.reserve_at.new.queues.entries c.args.end.now.send_cq c.len.result c.requires.send c.reserve_at.ensures

there : (c : goal.After-reserve_at-arg-2-1) → c.args.end.now.recv_cq < length c.reserve_at.new.queues.entries
there c = subst (λ n. c.args.end.now.recv_cq < n) (sym (count-kept c.args.queues.now.entries c.reserve_at.new.queues.entries c.args.end.now.send_cq c.len.result (first c))) c.requires.recv

-- how many receives wait
receives : (c : goal.After-reserve_at-arg-2-1) → c.len-2.result + c.used.result ≡ length c.args.end.now.unused + used_of_image c.args.end.now.linked
receives c = ap (λ n. n + c.used.result) c.len-2.ensures ∙ ap (λ n. length c.args.end.now.unused + n) c.used.ensures.value

pub reserve_at-requires-2-clause-there : goal.reserve_at-requires-2-clause-there
reserve_at-requires-2-clause-there c = there c

pub reserve_at-requires-2-clause-room : goal.reserve_at-requires-2-clause-room
reserve_at-requires-2-clause-room c = (first c).room c.args.end.now.recv_cq (c.len-2.result + c.used.result) (room-part c.args.queues.now.entries c.args.end.now c.len.result (c.len-2.result + c.used.result) c.requires.room c.len.ensures (receives c))

pub returns : goal.returns
returns c = reserves-end c.args.queues.now.entries c.reserve_at.new.queues.entries c.reserve_at-2.new.queues.entries c.args.end.now c.len.result (c.len-2.result + c.used.result) (first c.before) (reserves c.reserve_at.new.queues.entries c.reserve_at-2.new.queues.entries c.args.end.now.recv_cq (c.len-2.result + c.used.result) (there c.before) c.reserve_at-2.ensures) c.len.ensures (receives c.before)
