-- The words of atomics are of eight bytes.
use Rattle.std.proofs.Common.{arith, ◌≡◌, ◌<◌, ℕ, zero, suc, length, refl}
use Rattle.std.specs.Prelude.{All}
use Rattle.std.specs.Int.{byte_at, bytes_high_first}
use Rattle.std.proofs.lemmas.List.Elements.{All-nil, All-cons}
use Rattle.rdma_types.specs.Memory.{word_bytes}

pub word_length : (n : ℕ) → length (word_bytes n) ≡ 8
unfolding word_bytes
word_length n = refl

byte_said : (i n : ℕ) → byte_at i n < 256
byte_said zero n = omega arith
byte_said (suc i) n = omega arith

bytes_said : (k n : ℕ) → All (λ b. b < 256) (bytes_high_first k n)
bytes_said zero n = All-nil _
bytes_said (suc k) n = All-cons (λ b. b < 256) (byte_at k n) (bytes_high_first k n) (byte_said k n) (bytes_said k n)

pub word_said : (n : ℕ) → All (λ b. b < 256) (word_bytes n)
unfolding word_bytes
word_said n = bytes_said 8 n
