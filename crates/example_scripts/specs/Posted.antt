-- Requests that are cut into packets.
use Rattle.std.specs.Prelude.{ℕ, List, [], ◌∷◌, Option, Bool, true, false, replicate}
use Rattle.rdma_types.specs.declared.requests.Kind.{Kind}
use Rattle.rdma_types.specs.Objects as objects

-- a posted request for address 65536, whose bytes are zeros
abbrev pub posted : Kind → ℕ → Option ℕ → objects.Posted
posted kind count imm = record {
  request = record { id = 1; shape = record { kind = kind; length = count; remote = 65536; rkey = 7; imm = imm; swap_add = 0; compare = 0 }; lkey = 0; local = 0; signaled = true; fence = false };
  payload = replicate count 0;
}

-- opcodes with wire numbers, and whether their packets ask for an acknowledgement
abbrev pub asking : List (ℕ × ℕ)
asking = (0x07, 6) ∷ (0x07, 7) ∷ (0x06, 8) ∷ (0x00, 15) ∷ (0x01, 0xFFFFFF) ∷ (0x08, 0) ∷ (0x0C, 1) ∷ []

abbrev pub asks : List Bool
asks = false ∷ true ∷ false ∷ true ∷ true ∷ true ∷ true ∷ []
