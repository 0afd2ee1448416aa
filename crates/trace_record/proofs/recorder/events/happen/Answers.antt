use Rattle.std.proofs.Common.{◌≡◌, ◌++◌, ◌∙◌, sym, ap, subst}
use Rattle.packetless_machine.specs.Legal.{IsRun, after}
use Rattle.law_simulation.specs.Kept.{kept_verb, verb_of}
use Rattle.law_simulation.specs.Named.{inner_by, spoken_steps}
use Rattle.trace_rules.specs.Recording.{spoken_text}
use Rattle.script_runner.proofs.Prefixes.{on_ok_with}
use Rattle.trace_record.specs.Events.{foreseen_steps, made_by}
use Rattle.trace_record.proofs.Happened.{answered_whole, foreseen_named, inner_run, recorded}
use Rattle.trace_record.proofs.recorder.events.happen.Goals as goal

pub returns : goal.returns
returns c w left stands range =
    let kept = c.args.world.now in
    let m = c.args.machine.now in
    let e = c.args.event in
    let a = c.in_ok-arrival.arrival in
    let x = c.in_ok-answer.answer in
    let follows = c.in_ok-answer.ensures.followed w m (sym left) stands range in
    let is = answered_whole kept w e x c.alike_worlds_are_answered_alike.ensures.kept_datagrams c.alike_worlds_are_answered_alike.ensures.event left c.in_ok-answer.ensures.ok.answered in
    let named = foreseen_named kept w m e a left stands c.in_ok-arrival.ensures.named in
    let run : IsRun m (foreseen_steps m e a x) = subst (IsRun m) (ap (inner_by w m e) is ∙ (named ∙ ap (foreseen_steps m e a) (sym is))) (inner_run w m e x follows.reached.is_run) in
    let added : c.as_slice.result.now ≡ foreseen_steps m e a x = c.as_slice.ensures.value ∙ (c.in_ok-add_inner.ensures run ∙ ap (λ z. z ++ foreseen_steps m e a x) c.new-steps.ensures.items) in
    let verb : c.verb_of-verb.result ≡ verb_of w e = c.verb_of-verb.ensures w (c.is_made-made.ensures ∙ ap (λ v. made_by v e) left) in
    let spoken : c.speak_kept.new.machine ≡ after m (spoken_steps (kept_verb (verb_of w e) x)) = c.in_ok-speak_kept.ensures.made ∙ ap (λ v. after m (spoken_steps (kept_verb v x))) verb in
    let said : c.speak_kept.new.out.items ≡ c.args.out.now.items ++ spoken_text c.args.line.now (kept_verb (verb_of w e) x) = c.in_ok-speak_kept.ensures.text ∙ ap (λ v. c.args.out.now.items ++ spoken_text c.args.line.now (kept_verb v x)) verb in
    on_ok_with c.make_all.result (λ short_then short. short_then short)
    (on_ok_with c.make_all.result
    (recorded w m c.speak_kept.new.machine c.make_all.new.machine c.args.line.now e a x c.step.new.self c.as_slice.result.now c.args.out.now.items c.speak_kept.new.out.items c.make_all.new.out.items is follows named added spoken said)
    c.make_all.ensures.made c.make_all.ensures.text)
    c.make_all.ensures.short
