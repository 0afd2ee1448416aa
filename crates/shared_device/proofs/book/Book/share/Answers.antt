-- The step at a place is shared.
use Rattle.std.proofs.Common.{◌≡◌, ◌<◌, Some, length, slice_get, ap, arith, refl}
use Rattle.std.specs.Arc.{arc_value}
use Rattle.std.proofs.lemmas.List.{length-map}
use Rattle.std.proofs.lemmas.Option.{slice_get_read}
use Rattle.shared_device.specs.Books.{BookView, steps_in}
use Rattle.shared_device.proofs.Held.{step_there}
use Rattle.shared_device.proofs.book.Book.share.Goals as goal

pub returns : goal.returns
returns c =
    let items = c.self.inside.journal.items in
    let count = ap (λ (v : BookView). length v.journal) c.self.view_is in
    let within : c.args.place < length items = omega (arith, c.requires, count, length-map (steps_in items) (λ s. s.event), length-map items arc_value) in
    let there : slice_get items c.args.place ≡ Some c.index.result.now = slice_get_read items (length items) c.args.place c.index.result.now refl within c.index.ensures in
    step_there c.args.self.now c.self.inside.opening items c.self.inside.device c.args.place c.index.result.now (arc_value c.in_ok-try_clone.field-0) c.self.view_is c.self.invariant there c.in_ok-try_clone.ensures
