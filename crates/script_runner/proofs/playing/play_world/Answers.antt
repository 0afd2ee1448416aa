use Rattle.std.proofs.Common.{ℕ, ap, arith, Err, inl, inr, subst, sym, refl, ◌∙◌}
use Rattle.host_ports.specs.Streams.{FaultsCounted}
use Rattle.protocol.specs.State.{World, empty_world}
use Rattle.script_runner.specs.Playing.{IfBadLine, IsPlayedTo, IsStoppedAt}
use Rattle.script_runner.specs.declared.fault.PlayFault.TheVariants.{WriteFault}
use Rattle.script_runner.proofs.Faults.{still_err, was_err}
use Rattle.script_runner.proofs.Prefixes.{if_err_is, on_err}
use Rattle.script_runner.proofs.Played.{next_number, start, whole, world_after}
use Rattle.script_runner.proofs.playing.play_world.Goals as goal

pub overflow_add-number : goal.overflow_add-number
overflow_add-number g c = omega (arith, next_number (g.K.Sink.held c.args.output.now) (g.K.Sink.held c.loop-line.output) c.args.input.now c.loop-line.world c.loop-line.number c.loop-line.lines c.next_line.new.self c.in-Some.line.now c.in-Some.ensures.line c.loop-line.invariant.played)

pub returns-in_err-play_line-clause-bad : goal.returns-in_err-play_line-clause-bad
returns-in_err-play_line-clause-bad g c =
    let here = subst (IsPlayedTo (g.K.Sink.held c.args.output.now) (g.K.Sink.held c.loop-line.output) c.args.input.now c.loop-line.world c.loop-line.number) c.in-Some.ensures.line c.loop-line.invariant.played in
    if_err_is c.from_residual-in_err-play_line.result (IfBadLine (IsStoppedAt (g.K.Sink.held c.args.output.now) (g.K.Sink.held c.play_line.new.output) c.args.input.now)) c.in_err-play_line.field-0.0 c.from_residual-in_err-play_line.ensures.1 (c.in_err-play_line.ensures.bad (g.K.Sink.held c.args.output.now) c.args.input.now c.loop-line.number c.next_line.new.self refl here)

pub returns-in_err-play_line-clause-part : goal.returns-in_err-play_line-clause-part
returns-in_err-play_line-clause-part g c =
    let here = subst (IsPlayedTo (g.K.Sink.held c.args.output.now) (g.K.Sink.held c.loop-line.output) c.args.input.now c.loop-line.world c.loop-line.number) c.in-Some.ensures.line c.loop-line.invariant.played in
    on_err c.from_residual-in_err-play_line.result (c.in_err-play_line.ensures.part (g.K.Sink.held c.args.output.now) c.args.input.now c.loop-line.number c.next_line.new.self refl here)

pub returns-in_err-play_line-clause-faults_unchanged : goal.returns-in_err-play_line-clause-faults_unchanged
returns-in_err-play_line-clause-faults_unchanged g c = elim c.in_err-play_line.ensures.faults_unchanged [
  | inl e ↦ inl (still_err c.from_residual-in_err-play_line.result (Err c.in_err-play_line.field-0.0) c.in_err-play_line.field-0.0 WriteFault c.from_residual-in_err-play_line.ensures.1 refl e)
  | inr h ↦ inr (h ∙ c.loop-line.invariant.faults_unchanged)
]

pub returns-in_err-play_line-clause-faults_counted : goal.returns-in_err-play_line-clause-faults_counted
returns-in_err-play_line-clause-faults_counted g c = λ h.
    subst (λ (n : ℕ). FaultsCounted n (g.K.Sink.faults c.play_line.new.output)) c.loop-line.invariant.faults_unchanged
    (c.in_err-play_line.ensures.faults_counted (ap (λ f. Err f) (was_err c.from_residual-in_err-play_line.result c.in_err-play_line.field-0.0 WriteFault c.from_residual-in_err-play_line.ensures.1 h)))

pub returns-in_err-play_line-clause-followed : goal.returns-in_err-play_line-clause-followed
returns-in_err-play_line-clause-followed g c = c.scripts_are_followed.ensures.whole c.args.input.now

pub returns-clause-whole : goal.returns-clause-whole
returns-clause-whole g c = (whole c.scripts_are_played_line_by_line.ensures.ends (g.K.Sink.held c.args.output.now) (g.K.Sink.held c.loop-line.output) c.args.input.now c.loop-line.world c.loop-line.number c.loop-line.lines c.in_default.ensures.end c.loop-line.invariant.played).1

pub returns-clause-left : goal.returns-clause-left
returns-clause-left g c = world_after (g.K.Sink.held c.args.output.now) (g.K.Sink.held c.loop-line.output) c.args.input.now c.loop-line.world c.loop-line.number c.loop-line.lines c.in_default.ensures.end c.loop-line.invariant.played (c.scripts_are_followed.ensures.reached c.args.input.now)

pub loop-line-init : goal.loop-line-init
loop-line-init g c =
    let held = g.K.Sink.held c.args.output.now in
    let here : IsPlayedTo held held c.args.input.now empty_world 0 c.new-lines.result = subst (IsPlayedTo held held c.args.input.now empty_world 0) (sym c.new-lines.ensures) (start c.scripts_are_played_line_by_line.ensures.begins held c.args.input.now) in
    record {
      played = subst (λ (w : World). IsPlayedTo held held c.args.input.now w 0 c.new-lines.result) (sym c.in_ok-world.ensures) here;
      faults_unchanged = refl;
    }
