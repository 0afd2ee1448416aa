use Rattle.std.proofs.Common.{◌≡◌, ◌∙◌, refl, sym, subst, rules}
use Rattle.std.specs.Prelude.{None}
use Rattle.protocol.specs.Fabric.{pending}
use Rattle.protocol.specs.Settle.{drained, live_names, timers}
use Rattle.law_settling.specs.Events.{timer_events}
use Rattle.world_core.specs.Lives.{live_list}
use Rattle.settle_core.specs.Shown.{Cuts, Settles}
use Rattle.settle_core.proofs.Ends.{names_are, round_changed, round_still}
use Rattle.settle_core.proofs.Noted.{shown_seen, taken_lists}
use Rattle.settle_core.proofs.Resting.{rests}
use Rattle.settle_core.proofs.Visits.{on_ok}
use Rattle.settle_core.proofs.Cuts.{none_cuts, on_err_map}
use Rattle.settle_core.proofs.Parts.{round_drains, round_sends, round_times}
use Rattle.settle_core.proofs.Goings.{on_err}
use Rattle.settle_core.proofs.notes.Notes.round.Goals as goal

pub returns-then-are_idle-clause-ok : goal.returns-then-are_idle-clause-ok
returns-then-are_idle-clause-ok c =
    let lives : c.in_ok-live.live ≡ live_list c.args.world.now = c.in_ok-live.ensures.live (taken_lists c.args.world.now c.take.result c.args.listed.now c.take.ensures.value c.requires) in
    let none : pending c.args.world.now.sent ≡ None = search (rules, c.pending.ensures, c.is_none.ensures, c.if-is_none.true) in
    rests c.args.world.now c.args.self.now c.as_slice.result.now (c.as_slice.ensures ∙ lives) none (sym c.are_idle.ensures ∙ c.if-are_idle.true)

pub returns-then-self-clause-ok : goal.returns-then-self-clause-ok
returns-then-self-clause-ok c =
    let lives : c.in_ok-live.live ≡ live_list c.args.world.now = c.in_ok-live.ensures.live (taken_lists c.args.world.now c.take.result c.args.listed.now c.take.ensures.value c.requires) in
    let names : c.as_slice-3.result.now ≡ live_names c.args.world.now = names_are c.args.world.now c.as_slice-2.result.now c.as_slice-3.result.now (c.as_slice-3.ensures.value ∙ c.in_ok-ends.ensures) (c.as_slice-2.ensures ∙ lives) in
    round_changed c.args.world.now c.send_each.new.world c.args.self.now c.send_each.new.self c.as_slice-3.result.now names
    (λ s h. c.in_ok-send_each.ensures.ok (drained s) (c.in_ok-drain.ensures.ok s (shown_seen c.args.world.now c.args.self.now s c.in_ok-live.live lives h))) c.if-self.true

pub returns-clause-ok : goal.returns-clause-ok
returns-clause-ok c =
    let lives : c.in_ok-live.live ≡ live_list c.args.world.now = c.in_ok-live.ensures.live (taken_lists c.args.world.now c.take.result c.args.listed.now c.take.ensures.value c.requires) in
    let names : c.as_slice-3.result.now ≡ live_names c.args.world.now = names_are c.args.world.now c.as_slice-2.result.now c.as_slice-3.result.now (c.as_slice-3.ensures.value ∙ c.in_ok-ends.ensures) (c.as_slice-2.ensures ∙ lives) in
    let same : c.as_slice-4.result.now ≡ c.as_slice-3.result.now = c.as_slice-4.ensures.value ∙ sym c.as_slice-3.ensures.value in
    on_ok c.step_or_expire.result
    (λ goes.
    round_still c.args.world.now c.send_each.new.world c.step_or_expire.new.world c.args.self.now c.send_each.new.self c.step_or_expire.new.self c.as_slice-3.result.now names
    (λ s h. c.in_ok-send_each.ensures.ok (drained s) (c.in_ok-drain.ensures.ok s (shown_seen c.args.world.now c.args.self.now s c.in_ok-live.live lives h))) c.if-self.false
    (subst (λ os. Settles (λ s. timers s os) c.send_each.new.world c.send_each.new.self c.step_or_expire.new.world c.step_or_expire.new.self) same goes)) c.step_or_expire.ensures.ok

pub returns-in_err-live-clause-cut : goal.returns-in_err-live-clause-cut
returns-in_err-live-clause-cut c =
    on_err c.from_residual.result
    (none_cuts c.args.world.now c.args.world.now c.args.self.now _ refl)

pub returns-in_err-ends-clause-cut : goal.returns-in_err-ends-clause-cut
returns-in_err-ends-clause-cut c =
    on_err c.from_residual-in_err-ends.result
    (none_cuts c.args.world.now c.args.world.now c.args.self.now _ refl)

pub returns-in_err-drain-clause-cut : goal.returns-in_err-drain-clause-cut
returns-in_err-drain-clause-cut c =
    let lives : c.in_ok-live.live ≡ live_list c.args.world.now = c.in_ok-live.ensures.live (taken_lists c.args.world.now c.take.result c.args.listed.now c.take.ensures.value c.requires) in
    on_err c.from_residual-in_err-drain.result
    (round_drains c.args.world.now c.drain.new.world c.args.self.now (λ s h. c.in_err-drain.ensures.cut s (shown_seen c.args.world.now c.args.self.now s c.in_ok-live.live lives h)))

pub returns-in_err-send_each-clause-cut : goal.returns-in_err-send_each-clause-cut
returns-in_err-send_each-clause-cut c =
    let lives : c.in_ok-live.live ≡ live_list c.args.world.now = c.in_ok-live.ensures.live (taken_lists c.args.world.now c.take.result c.args.listed.now c.take.ensures.value c.requires) in
    let names : c.as_slice-3.result.now ≡ live_names c.args.world.now = names_are c.args.world.now c.as_slice-2.result.now c.as_slice-3.result.now (c.as_slice-3.ensures.value ∙ c.in_ok-ends.ensures) (c.as_slice-2.ensures ∙ lives) in
    on_err c.from_residual-in_err-send_each.result
    (round_sends c.args.world.now c.drain.new.world c.send_each.new.world c.args.self.now c.drain.new.self c.as_slice-3.result.now names
    (λ s h. c.in_ok-drain.ensures.ok s (shown_seen c.args.world.now c.args.self.now s c.in_ok-live.live lives h)) c.in_err-send_each.ensures.cut)

pub returns-clause-cut : goal.returns-clause-cut
returns-clause-cut c =
    let lives : c.in_ok-live.live ≡ live_list c.args.world.now = c.in_ok-live.ensures.live (taken_lists c.args.world.now c.take.result c.args.listed.now c.take.ensures.value c.requires) in
    let names : c.as_slice-3.result.now ≡ live_names c.args.world.now = names_are c.args.world.now c.as_slice-2.result.now c.as_slice-3.result.now (c.as_slice-3.ensures.value ∙ c.in_ok-ends.ensures) (c.as_slice-2.ensures ∙ lives) in
    let same : c.as_slice-4.result.now ≡ c.as_slice-3.result.now = c.as_slice-4.ensures.value ∙ sym c.as_slice-3.ensures.value in
    on_err_map c.step_or_expire.result
    (λ cuts.
    round_times c.args.world.now c.send_each.new.world c.step_or_expire.new.world c.args.self.now c.send_each.new.self c.as_slice-3.result.now names
    (λ s h. c.in_ok-send_each.ensures.ok (drained s) (c.in_ok-drain.ensures.ok s (shown_seen c.args.world.now c.args.self.now s c.in_ok-live.live lives h))) c.if-self.false
    (subst (λ os. Cuts (λ s. timer_events s os) c.send_each.new.world c.send_each.new.self c.step_or_expire.new.world) same cuts)) c.step_or_expire.ensures.cut
