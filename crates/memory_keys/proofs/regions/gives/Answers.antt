use Rattle.std.proofs.Common.{arith, ◌≡◌, bit_and, true, false}
use Rattle.std.specs.Prelude.{◌==◌, bytes_eq}
use Rattle.std.proofs.lemmas.Bool.Decides.{nat_tests}
use Rattle.rdma_types.specs.Memory.{allows, set_of}
use Rattle.rdma_types.proofs.Bits.{holds_bits}
use Rattle.memory_keys.proofs.regions.gives.Goals as goal
use Rattle.memory_keys.proofs.regions.gives.Goals.{then-ne-via-then-ne, then-ne-via-else-ne+then-head-right}

pub returns-then-ne-clause-value : goal.returns-then-ne-clause-value
returns-then-ne-clause-value c = λ needed e. elim c.then-ne.branch [
  | then-ne-via-then-ne w ↦ let no : bytes_eq c.args.head.now.domain c.args.domain ≡ false = grind (arith, w.if-ne.true, c.ne.ensures) in grind (arith, no)
  | then-ne-via-else-ne+then-head-right w ↦
      let bits : allows c.args.head.now.rights needed ≡ (bit_and c.args.head.now.rights.0 (set_of needed) == set_of needed) = holds_bits c.args.head.now.rights needed in
      let no : allows c.args.head.now.rights needed ≡ false = grind (arith, nat_tests, bits, e, w.if-head-right.true) in
      grind (arith, no)
]

pub returns-clause-value : goal.returns-clause-value
returns-clause-value c = λ needed e.
    let bits : allows c.args.head.now.rights needed ≡ (bit_and c.args.head.now.rights.0 (set_of needed) == set_of needed) = holds_bits c.args.head.now.rights needed in
    let yes : allows c.args.head.now.rights needed ≡ true = grind (arith, nat_tests, bits, e, c.if-head-right.false) in
    let domain : bytes_eq c.args.head.now.domain c.args.domain ≡ true = grind (arith, c.if-ne.false, c.ne.ensures) in
    grind (arith, yes, domain, c.within.ensures)
