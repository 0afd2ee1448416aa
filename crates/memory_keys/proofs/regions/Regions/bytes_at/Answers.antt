use Rattle.std.proofs.Common.{◌≡◌, ℕ, ap, sym, ◌∙◌, arith, subst, take}
use Rattle.std.specs.Prelude.{IfOk, IfSome, Some, option_map, slice_get}
use Rattle.std.specs.Map.Iter.{deref_pair}
use Rattle.rdma_types.specs.Memory.{cut}
use Rattle.page_pool.specs.Pool.{bytes_in}
use Rattle.memory_keys.specs.declared.RegisteredRegion.{RegisteredRegion}
use Rattle.memory_keys.specs.Regions.{Lies}
use Rattle.memory_keys.proofs.Dropped.{all-at, seen-at}
use Rattle.memory_keys.proofs.Spots.{holds-pages}
use Rattle.memory_keys.proofs.regions.Regions.bytes_at.Goals as goal

pub copy_out-requires-clause-held : goal.copy_out-requires-clause-held
copy_out-requires-clause-held c =
    let e : ℕ × RegisteredRegion = (c.unwrap.result.0.now, c.unwrap.result.1.now) in
    let at : slice_get c.self.inside.held.entries c.args.i ≡ Some e = sym c.get_index.ensures.entry ∙ ap (option_map deref_pair) c.unwrap.ensures in
    let seen = ap (λ hs. slice_get hs c.args.i) (sym c.self.view_is) ∙ seen-at c.self.inside.held.entries c.args.i e at in
    (all-at (Lies c.args.pool.now) c.args.self.now c.args.i c.unwrap.result.1.now c.requires.held.lie seen).lives

pub copy_out-requires-clause-inside : goal.copy_out-requires-clause-inside
copy_out-requires-clause-inside c =
    let e : ℕ × RegisteredRegion = (c.unwrap.result.0.now, c.unwrap.result.1.now) in
    let at : slice_get c.self.inside.held.entries c.args.i ≡ Some e = sym c.get_index.ensures.entry ∙ ap (option_map deref_pair) c.unwrap.ensures in
    let seen = ap (λ hs. slice_get hs c.args.i) (sym c.self.view_is) ∙ seen-at c.self.inside.held.entries c.args.i e at in
    omega (arith, (all-at (Lies c.args.pool.now) c.args.self.now c.args.i c.unwrap.result.1.now c.requires.held.lie seen).size, holds-pages c.unwrap.result.1.now.head.length)

pub returns : goal.returns
unfolding cut
returns c =
    let e : ℕ × RegisteredRegion = (c.unwrap.result.0.now, c.unwrap.result.1.now) in
    let at : slice_get c.self.inside.held.entries c.args.i ≡ Some e = sym c.get_index.ensures.entry ∙ ap (option_map deref_pair) c.unwrap.ensures in
    let seen = ap (λ hs. slice_get hs c.args.i) (sym c.self.view_is) ∙ seen-at c.self.inside.held.entries c.args.i e at in
    subst (λ o. IfOk c.copy_out.result (λ run. IfSome o (λ h. run ≡ take h.head.length (bytes_in c.args.pool.now h.list)))) (sym seen) c.copy_out.ensures
