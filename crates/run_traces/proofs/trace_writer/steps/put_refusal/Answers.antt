use Rattle.std.proofs.Common.{◌≡◌, ◌++◌, ◌∷◌, [], ◌∙◌, ap}
use Rattle.std.specs.Prelude.{codes}
use Rattle.script_lang.specs.Printed.{object_text, why_text}
use Rattle.run_traces.specs.Written.{step_words}
use Rattle.run_traces.proofs.Writing.{put_four}
use Rattle.run_traces.proofs.trace_writer.steps.put_refusal.Goals as goal

pub returns : goal.returns
unfolding step_words
returns c =
    put_four c.put-3.result c.args.out.now.items (codes "i refuse " ++ object_text c.args.q.now) (32 ∷ []) (why_text c.args.why) (10 ∷ []) c.put_object.new.out.items c.put.new.out.items c.put-2.new.out.items c.put-3.new.out.items
    c.in_ok-put_object.ensures c.in_ok-put.ensures (c.in_ok-put-2.ensures ∙ ap (λ z. c.put.new.out.items ++ z) c.why_text.ensures) c.put-3.ensures
