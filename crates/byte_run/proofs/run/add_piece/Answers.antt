use Rattle.std.proofs.Common.{◌≡◌, ◌+◌, ◌*◌, ◌/◌, ◌%◌, ◌∙◌, ap, length, take, arith}
use Rattle.byte_run.specs.Pages.{joined}
use Rattle.std.proofs.lemmas.List.{length-set}
use Rattle.byte_run.proofs.Runs.{length-pages, take-put, page_added, page_even, page_written, even_written, page_left, on_err}
use Rattle.byte_run.proofs.run.add_piece.Goals as goal

pub put_page-requires-clause-even : goal.put_page-requires-clause-even
put_page-requires-clause-even c = page_even c.args.pages.now.items _ c.index_mut.result.now c.requires.run.even (omega arith) c.index_mut.ensures.value

pub returns-in_ok-put_page-clause-run : goal.returns-in_ok-put_page-clause-run
returns-in_ok-put_page-clause-run c =
    let size = page_even c.args.pages.now.items (c.args.at / 4096) c.index_mut.result.now c.requires.run.even (omega arith) c.index_mut.ensures.value in
    record {
      even = even_written c.args.pages.now.items (c.args.at / 4096) (c.args.at % 4096) c.args.bytes.now c.index_mut.result.now _ c.requires.run.even size c.requires.page c.in_ok-put_page.ensures.ok;
      room = omega (arith, length-set c.args.pages.now.items (c.args.at / 4096) c.put_page.new.page);
    }

pub returns-in_ok-put_page-clause-bytes : goal.returns-in_ok-put_page-clause-bytes
returns-in_ok-put_page-clause-bytes c =
    let whole : length (joined c.args.pages.now.items) ≡ 4096 * length c.args.pages.now.items = length-pages c.args.pages.now.items c.requires.run.even in
    ap (take (c.args.at + length c.args.bytes.now)) (page_written c.args.pages.now.items c.args.at c.args.bytes.now c.index_mut.result.now _ c.requires.run.even (omega arith) c.requires.page c.index_mut.ensures.value c.in_ok-put_page.ensures.ok)
    ∙ take-put c.args.at c.args.bytes.now (joined c.args.pages.now.items) (omega arith)

pub returns-in_err-put_page-clause-err : goal.returns-in_err-put_page-clause-err
returns-in_err-put_page-clause-err c = on_err _ (page_left c.args.pages.now.items _ c.index_mut.result.now _ c.index_mut.ensures.value c.in_err-put_page.ensures.err)

pub returns-in_ok-push-clause-bytes : goal.returns-in_ok-push-clause-bytes
returns-in_ok-push-clause-bytes c =
    page_added c.args.pages.now.items c.push.new.self.items c.in_ok-page_of.field-0 c.args.at c.args.bytes.now c.requires.run (omega arith) c.in_ok-push.ensures.items c.in_ok-page_of.ensures.bytes
