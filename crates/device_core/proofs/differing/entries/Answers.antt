use Rattle.std.proofs.Common.{◌≡◌, ℕ, ◌<◌, List, length, get_or, refl, subst, rules, arith}
use Rattle.std.specs.Prelude.{Option, Some, IfSome, slice_get}
use Rattle.std.specs.Borrow.{Bor}
use Rattle.std.proofs.lemmas.Option.{slice_get_read}
use Rattle.std.proofs.lemmas.Grind.{common_steps}
use Rattle.device_differences.specs.Differences.{entry_difference}
use Rattle.device_core.specs.declared.husks.HuskEntry.{HuskEntry}
use Rattle.device_core.specs.Parts.{entry_of}
use Rattle.device_differences.proofs.Found.{found-mapped, passed-mapped, end-mapped}
use Rattle.device_core.proofs.differing.entries.Goals as goal

item-there : (hs : List HuskEntry) (i : ℕ) (o : Option (Bor HuskEntry)) (h : Bor HuskEntry) → o ≡ Some h → IfSome o (λ z. z.now ≡ get_or hs i z.now) → i < length hs → slice_get hs i ≡ Some h.now
item-there hs i o h e is l = slice_get_read hs (length hs) i h.now refl l (subst (λ z. IfSome z (λ y. y.now ≡ get_or hs i y.now)) e is)

pub returns-then-is_some : goal.returns-then-is_some
returns-then-is_some c =
    let x : slice_get c.args.a.now c.loop-i.i ≡ Some c.unwrap-x.result.now = item-there c.args.a.now c.loop-i.i c.get.result c.unwrap-x.result c.unwrap-x.ensures (c.get.ensures.lookup).1 (omega arith) in
    let y : slice_get c.args.b.now c.loop-i.i ≡ Some c.unwrap-y.result.now = item-there c.args.b.now c.loop-i.i c.get-in-loop-i.result c.unwrap-y.result c.unwrap-y.ensures (c.get-in-loop-i.ensures.lookup).1 (omega arith) in
    found-mapped entry_difference entry_of entry_of c.args.a.now c.args.b.now c.loop-i.i c.unwrap-x.result.now c.unwrap-y.result.now c.entry-found.result x y c.entry-found.ensures (search rules) c.loop-i.invariant

pub loop-i-preserved : goal.loop-i-preserved
loop-i-preserved c =
    let x : slice_get c.args.a.now c.loop-i.i ≡ Some c.unwrap-x.result.now = item-there c.args.a.now c.loop-i.i c.get.result c.unwrap-x.result c.unwrap-x.ensures (c.get.ensures.lookup).1 (omega arith) in
    let y : slice_get c.args.b.now c.loop-i.i ≡ Some c.unwrap-y.result.now = item-there c.args.b.now c.loop-i.i c.get-in-loop-i.result c.unwrap-y.result c.unwrap-y.ensures (c.get-in-loop-i.ensures.lookup).1 (omega arith) in
    passed-mapped entry_difference entry_of entry_of c.args.a.now c.args.b.now c.loop-i.i c.unwrap-x.result.now c.unwrap-y.result.now c.entry-found.result x y c.entry-found.ensures (search rules) c.loop-i.invariant

pub returns : goal.returns
returns c = end-mapped entry_difference entry_of entry_of c.args.a.now c.args.b.now c.loop-i.i c.apart.result (omega arith) (grind (arith, common_steps)) c.loop-i.invariant
