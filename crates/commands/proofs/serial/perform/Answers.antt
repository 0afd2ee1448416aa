use Rattle.std.proofs.Common.{refl, subst, sym}
use Rattle.dump_writer.specs.Text.{text_of}
use Rattle.program_rules.specs.Runs.{ReadsInput, UsesDepot, UsesLink}
use Rattle.std.proofs.Common.{map}
use Rattle.std.specs.String.{string_bytes}
use Rattle.program_rules.specs.Commands.{command_of}
use Rattle.commands.specs.declared.stop.Stop.TheVariants as stop
use Rattle.commands.specs.Stopping.{IsNotAsked, run_of}
use Rattle.commands.proofs.Stops.{err_holds, unasked}
use Rattle.std.proofs.Common.{Err}
use Rattle.commands.proofs.serial.perform.Goals as goal

pub returns-in-Ok-clause-performs : goal.returns-in-Ok-clause-performs
returns-in-Ok-clause-performs g c =
    c.carry_out.ensures.performs c.args.words.now (sym c.in-Ok.ensures.spelled)

pub returns-in-Ok-clause-never_fails : goal.returns-in-Ok-clause-never_fails
returns-in-Ok-clause-never_fails g c =
    c.carry_out.ensures.never_fails

pub returns-in-Ok-clause-depot_never_fails : goal.returns-in-Ok-clause-depot_never_fails
returns-in-Ok-clause-depot_never_fails g c unless =
    c.carry_out.ensures.depot_never_fails (λ u. unless (subst UsesLink c.in-Ok.ensures.spelled u))

pub returns-in-Ok-clause-kept_input : goal.returns-in-Ok-clause-kept_input
returns-in-Ok-clause-kept_input g c unless =
    c.carry_out.ensures.kept_input (λ u. unless (subst ReadsInput c.in-Ok.ensures.spelled u))

pub returns-in-Ok-clause-kept_link : goal.returns-in-Ok-clause-kept_link
returns-in-Ok-clause-kept_link g c unless =
    c.carry_out.ensures.kept_link (λ u. unless (subst UsesLink c.in-Ok.ensures.spelled u))

pub returns-in-Ok-clause-kept_depot : goal.returns-in-Ok-clause-kept_depot
returns-in-Ok-clause-kept_depot g c unless =
    c.carry_out.ensures.kept_depot (λ u. unless (subst UsesDepot c.in-Ok.ensures.spelled u))

pub returns-in-Err-clause-performs : goal.returns-in-Err-clause-performs
returns-in-Err-clause-performs g c =
    let r = run_of c.args.words.now (g.S.Source.left c.args.input.now) (g.S.Source.left c.args.input.now) (g.S.Source.faults c.args.input.now) (g.S.Source.faults c.args.input.now) (record { waiting = g.L.Link.waiting c.args.ports.now.link; sent = g.L.Link.sent c.args.ports.now.link; to_come = g.C.Ticks.to_come c.args.ports.now.ticks; held = g.D.Depot.held c.args.ports.now.depot; written = g.K.Sink.held c.args.ports.now.output; faults = record { link = g.L.Link.faults c.args.ports.now.link; depot = g.D.Depot.faults c.args.ports.now.depot; output = g.K.Sink.faults c.args.ports.now.output } }) (record { waiting = g.L.Link.waiting c.args.ports.now.link; sent = g.L.Link.sent c.args.ports.now.link; to_come = g.C.Ticks.to_come c.args.ports.now.ticks; held = g.D.Depot.held c.args.ports.now.depot; written = g.K.Sink.held c.args.ports.now.output; faults = record { link = g.L.Link.faults c.args.ports.now.link; depot = g.D.Depot.faults c.args.ports.now.depot; output = g.K.Sink.faults c.args.ports.now.output } }) in
    unasked r (record { left = refl; counts = refl; outside = refl }) text_of c.in-Err.stop c.in-Err.ensures.stops

pub returns-in-Err-clause-never_fails : goal.returns-in-Err-clause-never_fails
returns-in-Err-clause-never_fails g c s e =
    err_holds (Err c.in-Err.stop) (IsNotAsked (command_of (map string_bytes c.args.words.now))) stop.ReadFault c.in-Err.ensures.stops e

pub returns-in-Err-clause-depot_never_fails : goal.returns-in-Err-clause-depot_never_fails
returns-in-Err-clause-depot_never_fails g c unless s e =
    err_holds (Err c.in-Err.stop) (IsNotAsked (command_of (map string_bytes c.args.words.now))) stop.DepotFault c.in-Err.ensures.stops e
