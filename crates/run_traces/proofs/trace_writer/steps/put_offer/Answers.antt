use Rattle.std.proofs.Common.{◌++◌, ◌∷◌, []}
use Rattle.std.specs.Fmt.{decimal}
use Rattle.std.specs.Prelude.{codes}
use Rattle.script_lang.specs.Printed.{object_text}
use Rattle.run_traces.specs.Written.{step_words}
use Rattle.run_traces.proofs.Writing.{put_five}
use Rattle.run_traces.proofs.trace_writer.steps.put_offer.Goals as goal

pub returns : goal.returns
unfolding step_words
returns c =
    put_five c.put.result c.args.out.now.items (codes "i offer " ++ object_text c.args.q.now) (32 ∷ decimal c.args.i) (32 ∷ decimal c.args.off) (32 ∷ decimal c.args.n) (10 ∷ []) c.put_object.new.out.items c.put_number.new.out.items c.put_number-2.new.out.items c.put_number-3.new.out.items c.put.new.out.items
    c.in_ok-put_object.ensures c.in_ok-put_number.ensures c.in_ok-put_number-2.ensures c.in_ok-put_number-3.ensures c.put.ensures
