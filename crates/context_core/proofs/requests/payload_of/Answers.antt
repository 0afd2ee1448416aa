use Rattle.std.proofs.Common.{◌≡◌, ◌∙◌, sym, subst}
use Rattle.page_pool.specs.Held.{payload_bytes}
use Rattle.context_core.proofs.RequestSources.{IsStored, first_in, room-for, stored-in}
use Rattle.context_core.proofs.requests.payload_of.Goals as goal

first-is : (c : goal.After-from) → c.from.result ≡ first_in c.args.spot
first-is c = c.from.ensures ∙ c.first_of-first.ensures

pub write_run-requires-clause-inside : goal.write_run-requires-clause-inside
write_run-requires-clause-inside c = room-for c.args.pool.now c.take.new.self c.in-Ok.list c.touched.result c.from.result _ c.args.spot c.in-Ok.ensures.puts c.touched.ensures (first-is c) c.requires.whole

-- the bytes as they lie in the new list
stored : (c : goal.After-write_run) → IsStored c.write_run.new.self c.write_run.new.list c.first_of-first.result c.args.spot c.args.bytes.now
stored c =
    let is = stored-in c.args.pool.now c.take.new.self c.write_run.new.self c.in-Ok.list c.touched.result c.from.result c.args.spot c.args.bytes.now c.in-Ok.ensures.puts c.touched.ensures (c.from.ensures ∙ c.first_of-first.ensures) c.requires.whole c.write_run.ensures.puts in
    subst (λ n. IsStored c.write_run.new.self n c.first_of-first.result c.args.spot c.args.bytes.now) (sym c.write_run.ensures.list) (subst (λ n. IsStored c.write_run.new.self c.in-Ok.list n c.args.spot c.args.bytes.now) c.from.ensures is)

pub returns-clause-holds : goal.returns-clause-holds
returns-clause-holds c = record { lives = (stored c).lives; inside = (stored c).inside }

pub returns-clause-bytes : goal.returns-clause-bytes
unfolding payload_bytes
returns-clause-bytes c = (stored c).bytes'

pub returns-clause-pages : goal.returns-clause-pages
returns-clause-pages c = (stored c).pages
