use Rattle.std.proofs.Common.{◌+◌, ap, length, get_or, arith}
use Rattle.page_pool.proofs.Counts.{times-none}
use Rattle.page_pool.proofs.Pages.{length-laid}
use Rattle.page_pool.proofs.Steps.{one_more-at}
use Rattle.page_pool.proofs.Owned.{times-one, written-kept, written-here}
use Rattle.page_pool.proofs.claims.take_page.Goals as goal

pub returns-in-Some-clause-counted : goal.returns-in-Some-clause-counted
returns-in-Some-clause-counted c = λ p. omega (arith, times-none p)

pub returns-in-None-clause-counted : goal.returns-in-None-clause-counted
returns-in-None-clause-counted c = λ p. omega (arith, times-one p c.take_copy.result, ap (λ xs. get_or xs p 0) c.take_copy.ensures.holders, one_more-at c.args.frames.now.holders c.take_copy.result 1 p c.take_copy.ensures.page (omega (arith, c.take_copy.ensures.idle)))

pub returns-in-None-clause-kept : goal.returns-in-None-clause-kept
returns-in-None-clause-kept c =
    let n = c.args.at + 4096 + (c.args.first + length c.args.bytes.now) in
    λ p h. written-kept c.args.frames.now.holders c.args.frames.now.bytes c.take_copy.new.frames.bytes _ c.take_copy.result p c.requires.sound.whole c.take_copy.ensures.page c.take_copy.ensures.idle (length-laid c.args.bytes.now c.args.first c.args.at n (omega arith) (omega arith)) (c.take_copy.ensures.bytes n (omega arith) (omega arith)) h

pub returns-in-None-clause-bytes : goal.returns-in-None-clause-bytes
returns-in-None-clause-bytes c = λ n a b. written-here c.args.frames.now.holders c.args.frames.now.bytes c.take_copy.new.frames.bytes _ c.take_copy.result c.requires.sound.whole c.take_copy.ensures.page (length-laid c.args.bytes.now c.args.first c.args.at n a b) (c.take_copy.ensures.bytes n a b)
