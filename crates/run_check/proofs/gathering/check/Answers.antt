use Rattle.std.proofs.Common.{rules, arith, ◌≡◌, ◌∙◌, take, subst}
use Rattle.std.proofs.lemmas.List.{take_all}
use Rattle.run_check.specs.Checks.{AreMet, AreTold}
use Rattle.run_check.specs.Gathered.{IsGathered, Tells}
use Rattle.run_check.proofs.Due.{not_due, not_met, not_told}
use Rattle.run_check.proofs.Faults.{told_on}
use Rattle.run_check.proofs.Upto.{gathered_from}
use Rattle.run_check.proofs.Loops.{IsChecked, check_first, check_more}
use Rattle.run_check.proofs.gathering.check.Goals as goal

pub loop-k-init : goal.loop-k-init
loop-k-init c = check_first _ _ _ _ _ _ c.in_ok-places.ensures.0 c.in_ok-places.ensures.1 c.in_ok-heads.ensures.0 c.in_ok-heads.ensures.1 c.none-flights.ensures c.new-stops.ensures.items

pub loop-k-preserved : goal.loop-k-preserved
loop-k-preserved c = check_more c.args.books.now c.args.receipts.now c.args.entries.now c.loop-k.k c.entry_at-entry.result _ _ _ _ _ _ _ _ c.requires (omega arith) c.entry_at-entry.ensures c.loop-k.invariant c.in_ok-advance.ensures.ok

pub returns-clause-ok : goal.returns-clause-ok
returns-clause-ok c =
    let v = c.loop-k.invariant in
    gathered_from _ _ _ v.lines _ _ _ _ v.upto v.places v.heads (search rules) (search rules) (v.entries_are ∙ take_all _ _ (omega arith))

pub returns-in_err-advance-clause-err : goal.returns-in_err-advance-clause-err
returns-in_err-advance-clause-err c =
    told_on (IsGathered c.args.books.now c.args.entries.now c.args.receipts.now → ⊥) c.from_residual-in_err-advance.result c.in_err-advance.field-0.0 c.from_residual-in_err-advance.ensures.1
    (not_due c.args.books.now c.args.receipts.now c.args.entries.now c.loop-k.k c.entry_at-entry.result c.loop-k.places.items c.loop-k.heads.items c.loop-k.flights c.loop-k.stops.items c.in_err-advance.field-0.0 c.requires c.loop-k-test.true c.entry_at-entry.ensures c.loop-k.invariant c.in_err-advance.ensures.err)

pub returns-in_err-all_met-clause-err : goal.returns-in_err-all_met-clause-err
returns-in_err-all_met-clause-err c =
    let whole : take c.loop-k.k c.args.entries.now ≡ c.args.entries.now = take_all c.loop-k.k c.args.entries.now (omega arith) in
    let checked = subst (λ es. IsChecked c.args.books.now c.args.receipts.now es c.loop-k.places.items c.loop-k.heads.items c.loop-k.flights c.loop-k.stops.items) whole c.loop-k.invariant in
    told_on (IsGathered c.args.books.now c.args.entries.now c.args.receipts.now → ⊥) c.from_residual-in_err-all_met.result c.in_err-all_met.field-0.0 c.from_residual-in_err-all_met.ensures.1
    (not_met c.args.books.now c.args.receipts.now c.args.entries.now c.loop-k.places.items c.loop-k.heads.items c.loop-k.flights c.loop-k.stops.items c.in_err-all_met.field-0.0 checked
    (subst (λ ps. Tells (AreMet c.args.books.now ps → ⊥) c.in_err-all_met.field-0.0) c.as_slice.ensures.value c.in_err-all_met.ensures.err))

pub returns-in_err-all_told-clause-err : goal.returns-in_err-all_told-clause-err
returns-in_err-all_told-clause-err c =
    let whole : take c.loop-k.k c.args.entries.now ≡ c.args.entries.now = take_all c.loop-k.k c.args.entries.now (omega arith) in
    let checked = subst (λ es. IsChecked c.args.books.now c.args.receipts.now es c.loop-k.places.items c.loop-k.heads.items c.loop-k.flights c.loop-k.stops.items) whole c.loop-k.invariant in
    told_on (IsGathered c.args.books.now c.args.entries.now c.args.receipts.now → ⊥) c.from_residual-in_err-all_told.result c.in_err-all_told.field-0.0 c.from_residual-in_err-all_told.ensures.1
    (not_told c.args.books.now c.args.receipts.now c.args.entries.now c.loop-k.places.items c.loop-k.heads.items c.loop-k.flights c.loop-k.stops.items c.in_err-all_told.field-0.0 checked
    (subst (λ hs. Tells (AreTold c.args.receipts.now hs → ⊥) c.in_err-all_told.field-0.0) c.as_slice-2.ensures.value c.in_err-all_told.ensures.err))
