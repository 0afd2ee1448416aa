use Rattle.std.proofs.Common.{arith, ◌≤◌, ◌++◌, ◌∙◌, ap, length, refl, subst}
use Rattle.std.proofs.lemmas.List.{take_all}
use Rattle.std.proofs.lemmas.List.Elements.{All-more, All-nil}
use Rattle.std.specs.List.{All}
use Rattle.packetless_machine.specs.Legal.{after}
use Rattle.law_traces.specs.Said.{IsShort}
use Rattle.run_traces.specs.Written.{steps_text}
use Rattle.trace_record.proofs.Happened.{made_more, text_more, text_none}
use Rattle.trace_record.proofs.recorder.events.make_all.Goals as goal

pub loop-step-init : goal.loop-step-init
loop-step-init c = record { made = refl; text = text_none c.args.out.now.items c.args.steps.now; short = All-nil IsShort }

pub loop-step-preserved : goal.loop-step-preserved
loop-step-preserved c = record {
  made = made_more c.args.machine.now c.loop-step.machine c.make.new.machine c.args.steps.now c.loop-step.step-index c.step-item.result c.loop-step-test.true c.step-item.is c.loop-step.invariant.made c.in_ok-make.ensures;
  text = text_more c.args.out.now.items c.loop-step.out.items c.put_step.new.out.items c.args.steps.now c.loop-step.step-index c.step-item.result c.loop-step-test.true c.step-item.is c.loop-step.invariant.text c.in_ok-put_step.ensures;
  short = All-more IsShort c.args.steps.now c.loop-step.step-index c.step-item.result c.loop-step-test.true c.loop-step.invariant.short (subst IsShort c.step-item.is c.numbers_are_short.ensures);
}

pub returns-clause-made : goal.returns-clause-made
returns-clause-made c =
    let all : length c.args.steps.now ≤ c.loop-step.step-index = omega (arith, c.loop-step-test.false) in
    c.loop-step.invariant.made ∙ ap (after c.args.machine.now) (take_all c.loop-step.step-index c.args.steps.now all)

pub returns-clause-text : goal.returns-clause-text
returns-clause-text c =
    let all : length c.args.steps.now ≤ c.loop-step.step-index = omega (arith, c.loop-step-test.false) in
    c.loop-step.invariant.text ∙ ap (λ ss. c.args.out.now.items ++ steps_text ss) (take_all c.loop-step.step-index c.args.steps.now all)

pub returns-clause-short : goal.returns-clause-short
returns-clause-short c =
    let all : length c.args.steps.now ≤ c.loop-step.step-index = omega (arith, c.loop-step-test.false) in
    subst (All IsShort) (take_all c.loop-step.step-index c.args.steps.now all) c.loop-step.invariant.short
