use Rattle.std.proofs.Common.{◌≡◌, ℕ, ◌*◌, ◌<◌, ◌^◌, ◌∙◌, ap, sym, refl, arith, List, [], length, get_or, sum, zero, suc}
use Rattle.std.specs.Prelude.{replicate}
use Rattle.std.proofs.lemmas.List.{length-replicate}
use Rattle.std.proofs.lemmas.List.Elements.{All-nil}
use Rattle.page_pool.specs.Store.{Store, blank}
use Rattle.page_pool.specs.Ledger.{IsPool, IsWholePage, held_by, in_all, own_in_all}
use Rattle.page_pool.proofs.Counts.{sum-none}
use Rattle.page_pool.proofs.Ledgers.{Slots}
use Rattle.page_pool.proofs.pool.PagePool.make.Goals as goal

abbrev zeros : ℕ → List ℕ
zeros n = replicate n 0

none_at : (n p : ℕ) → get_or (zeros n) p 0 ≡ 0
none_at zero p = refl
none_at (suc n) zero = refl
none_at (suc n) (suc p) = none_at n p

made : (frames : Store) (lists : Slots) (n : ℕ) → frames ≡ record { bytes = replicate (4096 * n) 0; holders = replicate n 0 } → lists ≡ [] → n < 2 ^ 32 → IsPool frames lists 0
unfolding held_by in_all own_in_all
made frames lists n e f small =
    let holders : frames.holders ≡ replicate n 0 = ap (λ (s : Store). s.holders) e in
    let size : length frames.holders ≡ n = ap length holders ∙ length-replicate n 0 in
    let bytes : length frames.bytes ≡ 4096 * n = ap (λ (s : Store). length s.bytes) e ∙ length-replicate (4096 * n) 0 in
    let none : sum frames.holders ≡ 0 = ap sum holders ∙ sum-none n in
    rw f (record {
      ledger = record {
        sound = record { whole = omega arith; few = omega arith; within = omega arith };
        counted = λ p. sym (ap (λ hs. get_or hs p 0) holders ∙ none_at n p);
        total = none;
        whole = λ k. All-nil IsWholePage;
      };
      counted = refl;
      room = omega arith;
    })

pub invariant_of-result : goal.invariant_of-result
unfolding blank
invariant_of-result c = (made c.in_ok-make.field-0 c.new-2.result.slots c.args.pages c.in_ok-make.ensures c.new-2.ensures.empty c.ranges.pages.fits, c.in_ok-new.ensures.ok)
