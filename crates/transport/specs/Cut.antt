-- A message cut at the MTU.
use Rattle.std.specs.Prelude.{ℕ, zero, suc, ◌*◌, List, [], ◌++◌}
use Rattle.protocol.specs.Bytes.{bytes_at}

-- the first n pieces of a message, one after another
abbrev pub front : List ℕ → ℕ → ℕ → List ℕ
front message mtu zero = []
front message mtu (suc n) = front message mtu n ++ bytes_at (n * mtu) mtu message
