use Rattle.std.proofs.Common.{◌≡◌, ◌∙◌, sym, arith}
use Rattle.std.specs.Option.{option_copied}
use Rattle.std.specs.List.{slice_get}
use Rattle.std.proofs.lemmas.Grind.{common_steps}
use Rattle.std.proofs.lemmas.Option.{gets}
use Rattle.fabric.proofs.Stores.{kept_flight-here, kept_flight-gone}
use Rattle.fabric.proofs.Fabric.kept.Goals as goal

pub returns-in_err-place : goal.returns-in_err-place
returns-in_err-place c =
    let f = c.self.inside in
    let gone = kept_flight-gone f.gone c.len.result f.ring.items c.args.k c.self.invariant.0.full (omega arith) c.in_err-place.ensures in
    rw (c.from_residual.ensures, ← c.self.view_is) (sym gone)

pub returns : goal.returns
returns c =
    let f = c.self.inside in
    let here = kept_flight-here f.gone f.ring.items c.args.k c.in_ok-place.place c.self.invariant.0.room c.self.invariant.0.full (omega (arith, c.in_ok-place.ensures)) (omega (arith, c.in_ok-place.ensures)) in
    let read : option_copied c.get.result ≡ slice_get f.ring.items c.in_ok-place.place = grind (arith, common_steps, gets, c.get.ensures.item) in
    rw (← c.self.view_is) (read ∙ sym here)
