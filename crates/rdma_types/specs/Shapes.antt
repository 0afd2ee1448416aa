-- Which fields of a request its kind uses; the others are 0 or None (this project's choice).
use Rattle.std.specs.Prelude.{◌≡◌, Bool, true, false, None}
use Rattle.rdma_types.specs.declared.requests.Kind.{Kind}
use Rattle.rdma_types.specs.declared.requests.Kind.TheVariants.{Write, Send, Read, CompareSwap, FetchAdd}
use Rattle.rdma_types.specs.declared.requests.Shape.{Shape}
use Rattle.rdma_types.specs.Kinds.{takes_bytes, is_atomic}

-- a Send has no remote place
abbrev pub has_remote : Kind → Bool
has_remote Write = true
has_remote Send = false
has_remote Read = true
has_remote CompareSwap = true
has_remote FetchAdd = true

-- only a compare and swap has a compare value
abbrev pub is_swap : Kind → Bool
is_swap CompareSwap = true
is_swap Write = false
is_swap Send = false
is_swap Read = false
is_swap FetchAdd = false

-- what its kind does not use is 0 or None, and an atomic has length 8
pub record IsLawfulShape (s : Shape) : Type 0 where
  pub word : is_atomic s.kind ≡ true → s.length ≡ 8
  pub imm : takes_bytes s.kind ≡ false → s.imm ≡ None
  pub remote : has_remote s.kind ≡ false → s.remote ≡ 0
  pub rkey : has_remote s.kind ≡ false → s.rkey ≡ 0
  pub swap_add : is_atomic s.kind ≡ false → s.swap_add ≡ 0
  pub compare : is_swap s.kind ≡ false → s.compare ≡ 0
