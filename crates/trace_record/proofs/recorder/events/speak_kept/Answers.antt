use Rattle.std.proofs.Common.{◌≡◌, ◌++◌, ◌∙◌, OnOk, subst, sym}
use Rattle.std.proofs.lemmas.Result.{on_ok_weaker}
use Rattle.packetless_machine.specs.Legal.{after}
use Rattle.law_simulation.specs.Kept.{kept_verb}
use Rattle.law_simulation.specs.Named.{spoken_steps}
use Rattle.trace_rules.specs.Recording.{spoken_text}
use Rattle.trace_record.proofs.Happened.{made_kept, none_kept, said_kept, unmade_kept}
use Rattle.trace_record.proofs.recorder.events.speak_kept.Goals as goal

pub returns-in_default-clause-made : goal.returns-in_default-clause-made
returns-in_default-clause-made c =
    subst (λ v. c.args.machine.now ≡ after c.args.machine.now (spoken_steps (kept_verb v c.args.answer.now))) (sym c.in_default.is)
    (none_kept c.args.machine.now c.args.line.now c.args.out.now.items c.args.answer.now).0

pub returns-in_default-clause-text : goal.returns-in_default-clause-text
returns-in_default-clause-text c =
    subst (λ v. c.args.out.now.items ≡ c.args.out.now.items ++ spoken_text c.args.line.now (kept_verb v c.args.answer.now)) (sym c.in_default.is)
    (none_kept c.args.machine.now c.args.line.now c.args.out.now.items c.args.answer.now).1

pub returns-then-unmade-clause-made : goal.returns-then-unmade-clause-made
returns-then-unmade-clause-made c =
    subst (λ v. c.args.machine.now ≡ after c.args.machine.now (spoken_steps (kept_verb v c.args.answer.now))) (sym c.in-Some.is)
    (unmade_kept c.args.machine.now c.args.line.now c.args.out.now.items c.in-Some.verb c.args.answer.now (sym c.is_unmade-unmade.ensures ∙ c.if-unmade.true)).0

pub returns-then-unmade-clause-text : goal.returns-then-unmade-clause-text
returns-then-unmade-clause-text c =
    subst (λ v. c.args.out.now.items ≡ c.args.out.now.items ++ spoken_text c.args.line.now (kept_verb v c.args.answer.now)) (sym c.in-Some.is)
    (unmade_kept c.args.machine.now c.args.line.now c.args.out.now.items c.in-Some.verb c.args.answer.now (sym c.is_unmade-unmade.ensures ∙ c.if-unmade.true)).1

pub returns-clause-made : goal.returns-clause-made
returns-clause-made c =
    subst (λ v. OnOk c.speak.result (c.speak.new.machine ≡ after c.args.machine.now (spoken_steps (kept_verb v c.args.answer.now)))) (sym c.in-Some.is)
    (on_ok_weaker c.speak.result (made_kept c.args.machine.now c.speak.new.machine c.in-Some.verb c.args.answer.now (sym c.is_unmade-unmade.ensures ∙ c.if-unmade.false)) c.speak.ensures.made)

pub returns-clause-text : goal.returns-clause-text
returns-clause-text c =
    subst (λ v. OnOk c.speak.result (c.speak.new.out.items ≡ c.args.out.now.items ++ spoken_text c.args.line.now (kept_verb v c.args.answer.now))) (sym c.in-Some.is)
    (on_ok_weaker c.speak.result (said_kept c.args.line.now c.args.out.now.items c.speak.new.out.items c.in-Some.verb c.args.answer.now (sym c.is_unmade-unmade.ensures ∙ c.if-unmade.false)) c.speak.ensures.text)
