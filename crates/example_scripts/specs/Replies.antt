-- Replies to atomics that are kept one after another.
use Rattle.std.specs.Prelude.{ℕ, zero, suc, ◌+◌, ◌==◌, List, [], Option}
use Rattle.std.specs.Option.{option_map}
use Rattle.rdma_types.specs.Lists.{first_that}
use Rattle.protocol.specs.declared.images.KeptReply.{KeptReply}
use Rattle.protocol.specs.Responder.{keeping}

-- the reply of a number, of an old value a hundred greater
abbrev pub reply : ℕ → KeptReply
reply number = record { number = number; old = number + 100 }

-- what is kept after replies 0 to count - 1
abbrev pub after : ℕ → List KeptReply
after zero = []
after (suc count) = keeping (after count) (reply count)

-- the old value that is kept under a number
abbrev pub found : List KeptReply → ℕ → Option ℕ
found kept number = option_map (λ k. k.old) (first_that (λ k. k.number == number) kept)
