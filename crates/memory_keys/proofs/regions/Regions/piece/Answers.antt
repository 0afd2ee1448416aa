use Rattle.std.proofs.Common.{◌≡◌, ℕ, ◌+◌, ◌-◌, ◌%◌, ◌<◌, ◌≤◌, List, length, take, arith, refl, ap, sym, ◌∙◌, false, true}
use Rattle.std.specs.Prelude.{◌==◌, Option, Some, None, IfSome, is_some}
use Rattle.std.specs.Borrow.{Bor}
use Rattle.std.specs.Int.{div_ceil}
use Rattle.std.specs.List.{PartBy}
use Rattle.std.specs.Option.{option_copied}
use Rattle.std.proofs.lemmas.Bool.Decides.{nat_tests}
use Rattle.byte_run.proofs.Runs.{take-cut}
use Rattle.page_pool.specs.Pool.{bytes_in}
use Rattle.rdma_types.specs.Memory.{cut}
use Rattle.memory_keys.specs.declared.RegionRange.{RegionRange}
use Rattle.memory_keys.specs.Regions.{part_of, pages_touched}
use Rattle.memory_keys.proofs.Spots.{part-is, spot-in, spot-there, spot-is, touched-is, holds-pages}
use Rattle.memory_keys.proofs.regions.Regions.piece.Goals as goal

-- the first bytes of what is left of a page
first-bytes : (o : Option (Bor (List ℕ))) (page bytes : List ℕ) (n : ℕ) → PartBy (λ x. x.now) page 0 n o → (n ≤ length page → take n page ≡ bytes) → IfSome o (λ x. x.now ≡ bytes)
first-bytes None page bytes n p whole = tt
first-bytes (Some x) page bytes n p whole =
    let all : n - 0 ≡ n = omega arith in
    p.0.2 ∙ (ap (λ k. take k page) all ∙ whole p.0.1)

-- they are there where a spot touches one page
one-page : (o : Option (Bor (List ℕ))) (page : List ℕ) (spot : RegionRange) → 0 < spot.length → length page ≡ 4096 - spot.off % 4096 → PartBy (λ x. x.now) page 0 spot.length o → is_some o ≡ (pages_touched spot == 1)
one-page o page spot some size p = by_case o p
  where
    touched : pages_touched spot ≡ div_ceil (spot.off % 4096 + spot.length) 4096
    touched = touched-is spot (div_ceil (spot.off % 4096 + spot.length) 4096) (spot.off % 4096) spot.length (λ e. absurd (omega arith)) refl refl refl

    few : spot.length ≤ length page → (pages_touched spot == 1) ≡ true
    few h = let one : pages_touched spot ≡ 1 = omega (arith, touched, size) in grind (arith, nat_tests, one)

    many : length page < spot.length → (pages_touched spot == 1) ≡ false
    many h = let more : 1 < pages_touched spot = omega (arith, touched, size) in grind (arith, nat_tests, more)

    by_case : (o : Option (Bor (List ℕ))) → PartBy (λ x. x.now) page 0 spot.length o → is_some o ≡ (pages_touched spot == 1)
    by_case None (p, q) = sym (many (grind (arith, p)))
    by_case (Some x) (p, q) = sym (few p.1)

pub unwrap-held-requires : goal.unwrap-held-requires
unwrap-held-requires c = spot-there c.find.result _ _ c.find.ensures.found (c.requires.spot (omega (arith, c.requires.inside)))

pub piece-requires-clause-held : goal.piece-requires-clause-held
piece-requires-clause-held c =
    let e = sym c.find.ensures.found ∙ ap option_copied c.unwrap-held.ensures in
    let part = part-is c.args.self.now c.args.spot c.args.from c.args.count c.requires.spot c.requires.inside in
    (spot-in c.args.pool.now c.args.self.now (part_of c.args.spot c.args.from c.args.count) c.unwrap-held.result.now c.requires.held part (omega arith) e).0.lives

pub piece-requires-clause-inside : goal.piece-requires-clause-inside
piece-requires-clause-inside c =
    let e = sym c.find.ensures.found ∙ ap option_copied c.unwrap-held.ensures in
    let part = part-is c.args.self.now c.args.spot c.args.from c.args.count c.requires.spot c.requires.inside in
    let s = spot-in c.args.pool.now c.args.self.now (part_of c.args.spot c.args.from c.args.count) c.unwrap-held.result.now c.requires.held part (omega arith) e in
    omega (arith, s.0.size, s.1, c.from.ensures, c.from-2.ensures, holds-pages c.unwrap-held.result.now.head.length)

pub returns-clause-bytes : goal.returns-clause-bytes
returns-clause-bytes c =
    let h = c.unwrap-held.result.now in
    let n = c.args.count in
    let e = sym c.find.ensures.found ∙ ap option_copied c.unwrap-held.ensures in
    let at : c.from.result + c.from-2.result ≡ c.args.spot.off + c.args.from = omega (arith, c.from.ensures, c.from-2.ensures) in
    first-bytes c.get.result c.piece.result.now _ n c.get.ensures.lookup (λ few.
    ap (take n) c.piece.ensures.bytes
    ∙ (take-cut (c.from.result + c.from-2.result) n (4096 - (c.from.result + c.from-2.result) % 4096) (bytes_in c.args.pool.now h.list) (omega (arith, few, c.piece.ensures.length))
    ∙ (ap (λ k. cut k n (bytes_in c.args.pool.now h.list)) at ∙ sym (spot-is c.args.pool.now c.args.self.now (part_of c.args.spot c.args.from n) h e))))

pub returns-clause-one_page : goal.returns-clause-one_page
returns-clause-one_page c =
    let at : c.from.result + c.from-2.result ≡ c.args.spot.off + c.args.from = omega (arith, c.from.ensures, c.from-2.ensures) in
    one-page c.get.result c.piece.result.now (part_of c.args.spot c.args.from c.args.count) (omega arith) (omega (arith, c.piece.ensures.length)) c.get.ensures.lookup
