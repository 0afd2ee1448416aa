use Rattle.std.proofs.Common.{◌≡◌, length, arith, ap, sym, ◌∙◌}
use Rattle.std.specs.Option.{option_copied}
use Rattle.std.proofs.lemmas.Bool.Decides.{nat_tests}
use Rattle.std.proofs.lemmas.List.{nil_from_length}
use Rattle.memory_keys.specs.Regions.{part_of}
use Rattle.memory_keys.proofs.Spots.{part-is, some-bytes, spot-in, spot-there, spot-empty, holds-pages}
use Rattle.memory_keys.proofs.regions.Regions.load_part.Goals as goal

pub returns-then-is_empty : goal.returns-then-is_empty
returns-then-is_empty c =
    let none : length c.args.out.now ≡ 0 = grind (arith, nat_tests, c.is_empty.ensures, c.if-is_empty.true) in
    nil_from_length c.args.out.now none ∙ sym (spot-empty c.args.pool.now c.args.self.now (part_of c.args.spot c.args.from (length c.args.out.now)) none)

pub unwrap-held-requires : goal.unwrap-held-requires
unwrap-held-requires c =
    let some = some-bytes (length c.args.out.now) (sym c.is_empty.ensures ∙ c.if-is_empty.false) in
    spot-there c.find.result _ _ c.find.ensures.found (c.requires.spot (omega (arith, some, c.requires.inside)))

pub read-requires-clause-held : goal.read-requires-clause-held
read-requires-clause-held c =
    let some = some-bytes (length c.args.out.now) (sym c.is_empty.ensures ∙ c.if-is_empty.false) in
    let e = sym c.find.ensures.found ∙ ap option_copied c.unwrap-held.ensures in
    let part = part-is c.args.self.now c.args.spot c.args.from (length c.args.out.now) c.requires.spot c.requires.inside in
    (spot-in c.args.pool.now c.args.self.now (part_of c.args.spot c.args.from (length c.args.out.now)) c.unwrap-held.result.now c.requires.held part some e).0.lives

pub read-requires-clause-inside : goal.read-requires-clause-inside
read-requires-clause-inside c =
    let some = some-bytes (length c.args.out.now) (sym c.is_empty.ensures ∙ c.if-is_empty.false) in
    let e = sym c.find.ensures.found ∙ ap option_copied c.unwrap-held.ensures in
    let part = part-is c.args.self.now c.args.spot c.args.from (length c.args.out.now) c.requires.spot c.requires.inside in
    let s = spot-in c.args.pool.now c.args.self.now (part_of c.args.spot c.args.from (length c.args.out.now)) c.unwrap-held.result.now c.requires.held part some e in
    omega (arith, s.0.size, s.1, c.from.ensures, c.from-2.ensures, holds-pages c.unwrap-held.result.now.head.length)
