use Rattle.std.proofs.Common.{◌≡◌, ◌+◌, ◌-◌, ◌*◌, ◌/◌, ◌∙◌, ap, sym, length, arith}
use Rattle.std.specs.Arc.{arc_value}
use Rattle.rdma_types.proofs.Cuts.{cut-put_above}
use Rattle.page_pool.specs.Store.{blank}
use Rattle.page_pool.proofs.Places.{length-blank}
use Rattle.page_pool.proofs.Pages.{cut-blank, whole-laid}
use Rattle.page_pool.proofs.Owned.{some_of}
use Rattle.page_pool.proofs.claims.whole_page.Goals as goal

pub returns-then-from-len-clause-whole : goal.returns-then-from-len-clause-whole
returns-then-from-len-clause-whole c = some_of c.try_clone.result c.ok.result (λ page. arc_value page ≡ arc_value c.args.zeros.now) (λ page. length (arc_value page) ≡ 4096) c.ok.ensures.value c.try_clone.ensures (λ x e. ap length (e ∙ c.requires.zeros) ∙ length-blank 4096)

pub returns-then-from-len-clause-bytes : goal.returns-then-from-len-clause-bytes
returns-then-from-len-clause-bytes c =
    some_of c.try_clone.result c.ok.result (λ page. arc_value page ≡ arc_value c.args.zeros.now) _ c.ok.ensures.value c.try_clone.ensures
    (λ x e n a b. e ∙ (c.requires.zeros ∙ sym (cut-put_above (blank n) c.args.first c.args.bytes.now c.args.at 4096 (omega (arith, length-blank n)) (omega (arith, c.len.ensures)) ∙ cut-blank n c.args.at 4096 a)))

pub returns-in-Some-clause-bytes : goal.returns-in-Some-clause-bytes
returns-in-Some-clause-bytes c =
    let found = c.in-Some.ensures.lookup in
    let place : c.args.at ≡ c.args.first + 4096 * ((c.args.at - c.args.first) / 4096) = omega arith in
    some_of c.try_clone-in-Some.result c.ok-in-Some.result (λ page. arc_value page ≡ arc_value c.in-Some.page.now) _ c.ok-in-Some.ensures.value c.try_clone-in-Some.ensures
    (λ x e n a b. e ∙ (ap arc_value found.1 ∙ whole-laid c.whole_pages.result.now c.args.bytes.now c.args.first c.args.at n ((c.args.at - c.args.first) / 4096) c.in-Some.page.now c.whole_pages.ensures.even c.whole_pages.ensures.bytes found.3.0 place b))
