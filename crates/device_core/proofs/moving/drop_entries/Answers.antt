-- The loop forgets one entry's number after another.
use Rattle.std.proofs.Common.{◌∙◌, sym, ap}
use Rattle.std.specs.Prelude.{nat_eq}
use Rattle.std.proofs.lemmas.List.{take_all}
use Rattle.indexmap.specs.IndexMap.{get}
use Rattle.device_core.specs.Index.{numbers_in, without_numbers}
use Rattle.device_core.proofs.Releases.{forgets, forgets-none}
use Rattle.device_core.proofs.moving.drop_entries.Goals as goal

pub loop-entry-init : goal.loop-entry-init
loop-entry-init c k = sym (forgets-none k (get nat_eq c.args.index.now k))

pub loop-entry-preserved : goal.loop-entry-preserved
loop-entry-preserved c k =
    c.drop_location.ensures k
    ∙ forgets c.args.entries.now c.loop-entry.entry-index c.loop-entry-test.true k (get nat_eq c.args.index.now k) (get nat_eq c.loop-entry.index k) (c.loop-entry.invariant k) _

pub returns : goal.returns
returns c k = c.loop-entry.invariant k ∙ ap (λ es. without_numbers (numbers_in es) k (get nat_eq c.args.index.now k)) (take_all c.loop-entry.entry-index c.args.entries.now c.loop-entry-test.false)
