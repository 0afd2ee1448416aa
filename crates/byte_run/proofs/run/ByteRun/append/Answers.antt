use Rattle.std.proofs.Common.{◌≡◌, ◌+◌, ◌++◌, ◌∙◌, ap, length, take, rules, arith}
use Rattle.byte_run.specs.Pages.{joined, pages_in}
use Rattle.byte_run.proofs.Runs.{same_list, run_same, at_error, at_ok, on_err}
use Rattle.byte_run.proofs.run.ByteRun.append.Goals as goal

pub invariant_of-self-in_err-pages : goal.invariant_of-self-in_err-pages
invariant_of-self-in_err-pages c =
    let same = same_list c.self.inside.pages c.in_ok-shared.shared.now _ _ c.in_ok-shared.ensures.cases (λ made. search rules) (at_error _ _ c.in_err-pages.was c.make_mut.follows.holds-at-none) in
    run_same (pages_in c.self.inside.pages) _ c.self.inside.len same c.self.invariant

pub returns-in_err-pages-clause-err : goal.returns-in_err-pages-clause-err
returns-in_err-pages-clause-err c =
    let same = same_list c.self.inside.pages c.in_ok-shared.shared.now _ _ c.in_ok-shared.ensures.cases (λ made. search rules) (at_error _ _ c.in_err-pages.was c.make_mut.follows.holds-at-none) in
    on_err _ (ap (take c.self.inside.len) same.bytes ∙ c.self.view_is)

pub add_bytes-requires-clause-run : goal.add_bytes-requires-clause-run
add_bytes-requires-clause-run c =
    let same = same_list c.self.inside.pages c.in_ok-shared.shared.now c.in_ok-pages.pages.now _ c.in_ok-shared.ensures.cases (λ made. search rules) c.in_ok-pages.ensures.value in
    run_same (pages_in c.self.inside.pages) _ c.self.inside.len same c.self.invariant

pub returns-in_err-add_bytes-clause-err : goal.returns-in_err-add_bytes-clause-err
returns-in_err-add_bytes-clause-err c =
    let same = same_list c.self.inside.pages c.in_ok-shared.shared.now c.in_ok-pages.pages.now _ c.in_ok-shared.ensures.cases (λ made. search rules) c.in_ok-pages.ensures.value in
    let left = c.make_mut.follows.holds c.add_bytes.new.pages (at_ok _ _ c.in_ok-pages.was) in
    on_err _ (ap (λ list. take c.self.inside.len (joined list.items)) left ∙ (c.in_err-add_bytes.ensures.kept ∙ (ap (take c.self.inside.len) same.bytes ∙ c.self.view_is)))

pub returns-clause-ok : goal.returns-clause-ok
returns-clause-ok c =
    let same = same_list c.self.inside.pages c.in_ok-shared.shared.now c.in_ok-pages.pages.now _ c.in_ok-shared.ensures.cases (λ made. search rules) c.in_ok-pages.ensures.value in
    let left = c.make_mut.follows.holds c.add_bytes.new.pages (at_ok _ _ c.in_ok-pages.was) in
    let end : c.in_ok-end.end ≡ c.self.inside.len + length c.args.bytes.now = grind arith in
    ap (λ list. take c.in_ok-end.end (joined list.items)) left
    ∙ (ap (λ n. take n (joined c.add_bytes.new.pages.items)) end
    ∙ (c.in_ok-add_bytes.ensures.bytes
    ∙ ap (λ bytes. bytes ++ c.args.bytes.now) (ap (take c.self.inside.len) same.bytes ∙ c.self.view_is)))
