-- The bytes of the name stand in front, and zeros behind them.
use Rattle.std.proofs.Common.{ℕ, List, ap}
use Rattle.c_layout.specs.declared.layout.CName.{CName}
use Rattle.c_layout.proofs.Names.{name_in_front}
use Rattle.c_layout.proofs.told.name_told.Goals as goal

pub returns : goal.returns
returns c =
    let name_of : List ℕ → CName = λ b. record { bytes = b } in
    ap name_of (rw (c.copy_from_slice.ensures.after, c.as_bytes-text.ensures.bytes) (name_in_front c.args.name.now c.as_bytes-text.ensures.spelled))
