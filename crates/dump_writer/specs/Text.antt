-- The lines that tell what an image holds: one for the context, and one for each thing in the order of the dump (this
-- project's choice).
use Rattle.std.specs.Prelude.{ℕ, List, [], ◌∷◌, ◌++◌, length, drop, flat_map, codes, Option, Some, None, if◌then◌else◌}
use Rattle.std.specs.Fmt.{decimal}
use Rattle.std.specs.Int.{w32, to_be_bytes}
use Rattle.hex.specs.Hex.{encode_lower}
use Rattle.rdma_types.specs.declared.names.Name.{Name}
use Rattle.protocol.specs.declared.images.ContextImage.{ContextImage}
use Rattle.protocol.specs.declared.images.CqImage.{CqImage}
use Rattle.protocol.specs.declared.images.EndImage.{EndImage}
use Rattle.protocol.specs.declared.images.LinkImage.{LinkImage}
use Rattle.protocol.specs.declared.images.RegionImage.{RegionImage}

-- a key: eight digits
abbrev pub key_text : ℕ → List ℕ
key_text n = encode_lower (to_be_bytes w32 n)

-- a queue pair number: six digits
abbrev pub number_text : ℕ → List ℕ
number_text n = encode_lower (drop 1 (to_be_bytes w32 n))

-- a domain
abbrev pub domain_line : Name → List ℕ
domain_line n = codes "domain " ++ n ++ 10 ∷ []

-- a region: its keys, its base and its length
abbrev pub region_line : RegionImage → List ℕ
region_line r =
    codes "region " ++ r.name ++ 32 ∷ [] ++ key_text r.keys.local ++ 32 ∷ [] ++ key_text r.keys.remote
    ++ 32 ∷ [] ++ decimal r.base ++ 32 ∷ [] ++ decimal r.length ++ 10 ∷ []

-- a completion queue: its capacity, and how many entries it holds
abbrev pub queue_line : CqImage → List ℕ
queue_line q = codes "cq " ++ q.name ++ 32 ∷ [] ++ decimal q.capacity ++ 32 ∷ [] ++ decimal (length q.entries) ++ 10 ∷ []

-- the state of a queue pair
abbrev pub state_word : Option LinkImage → List ℕ
state_word None = codes "init"
state_word (Some l) = if l.ended then codes "error" else codes "rts"

-- how often it moved
abbrev pub moves_of : Option LinkImage → ℕ
moves_of None = 0
moves_of (Some l) = l.moves

-- a queue pair: its number, its state, its untold requests, its unused receives and its moves
abbrev pub end_line : EndImage → List ℕ
end_line e =
    codes "qp " ++ e.name ++ 32 ∷ [] ++ number_text e.number ++ 32 ∷ [] ++ state_word e.linked
    ++ 32 ∷ [] ++ decimal (length e.untold) ++ 32 ∷ [] ++ decimal (length e.unused) ++ 32 ∷ [] ++ decimal (moves_of e.linked) ++ 10 ∷ []

-- every line
unfoldable pub text_of : ContextImage → List ℕ
text_of c =
    codes "context " ++ c.name ++ 10 ∷ []
    ++ flat_map domain_line c.domains ++ flat_map region_line c.regions ++ flat_map queue_line c.queues ++ flat_map end_line c.ends
