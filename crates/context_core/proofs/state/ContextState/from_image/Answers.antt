use Rattle.std.proofs.Common.{◌≡◌, Bool, ◌∙◌, ap, sym}
use Rattle.std.specs.Prelude.{if◌then◌else◌, Option, Some, None}
use Rattle.std.proofs.lemmas.Result.{err_from_is_err_and}
use Rattle.rdma_types.specs.declared.answers.Refusal.{Refusal}
use Rattle.rdma_types.specs.declared.answers.Refusal.TheVariants as refusal
use Rattle.context_core.specs.Context.{no_holding}
use Rattle.context_core.specs.Faults.{told_as}
use Rattle.context_core.proofs.ContextFromImage.{image-may, moves-both, moves-none, whole-part}
use Rattle.context_core.proofs.state.ContextState.from_image.Goals as goal

abbrev page-cause : Bool → Option Refusal
page-cause b = if b then Some refusal.NoPage else None

page-cause-is : {b few test : Bool} → b ≡ few → b ≡ test → page-cause test ≡ page-cause few
page-cause-is same is = ap page-cause (sym is ∙ same)

pub returns-then-lacks_pages-clause-refused : goal.returns-then-lacks_pages-clause-refused
returns-then-lacks_pages-clause-refused c = ap told_as c.into.ensures ∙ page-cause-is c.lacks_pages.ensures c.if-lacks_pages.true

pub returns-then-lacks_pages-clause-err : goal.returns-then-lacks_pages-clause-err
returns-then-lacks_pages-clause-err c = moves-none c.args.pool.now no_holding

pub returns-in_err-state-clause-err : goal.returns-in_err-state-clause-err
returns-in_err-state-clause-err c = let p = err_from_is_err_and c.from_residual.result c.from_residual.ensures.1 in rw p.1 (moves-none c.args.pool.now no_holding)

pub put_rest-requires-clause-bare : goal.put_rest-requires-clause-bare
put_rest-requires-clause-bare c = c.in_ok-state.ensures

pub release-requires : goal.release-requires
release-requires c = c.put_rest.ensures.is

pub returns-in-Err-clause-err : goal.returns-in-Err-clause-err
returns-in-Err-clause-err c = moves-both c.args.pool.now c.put_rest.new.pool c.release.new.pool no_holding c.put_rest.new.self no_holding c.put_rest.ensures.moves c.release.ensures

pub returns-in_err-state-clause-refused : goal.returns-in_err-state-clause-refused
returns-in_err-state-clause-refused c =
    let p = err_from_is_err_and c.from_residual.result c.from_residual.ensures.1 in
    rw (p.1, p.2) (page-cause-is c.lacks_pages.ensures c.if-lacks_pages.false)

pub put_rest-requires-clause-moves : goal.put_rest-requires-clause-moves
put_rest-requires-clause-moves c = image-may c.args.image.now c.requires.moves

pub returns-in-Ok-clause-refused : goal.returns-in-Ok-clause-refused
returns-in-Ok-clause-refused c = page-cause-is c.lacks_pages.ensures c.if-lacks_pages.false

pub returns-in-Ok-clause-moved : goal.returns-in-Ok-clause-moved
returns-in-Ok-clause-moved c = whole-part c.put_rest.new.pool c.args.image.now c.put_rest.new.self c.in-Ok.ensures.part

pub returns-in-Err-clause-refused : goal.returns-in-Err-clause-refused
returns-in-Err-clause-refused c = ap told_as c.into-in-Err.ensures ∙ page-cause-is c.lacks_pages.ensures c.if-lacks_pages.false
