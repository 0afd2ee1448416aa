-- Numbers of an image that no rule bounds are in the ranges of their fields.
use Rattle.std.specs.Prelude.{ℕ, ◌<◌, ◌^◌, List, Option, All, IfSome, ⊤, Some, None}
use Rattle.rdma_types.specs.declared.requests.Completion.{Completion}
use Rattle.rdma_types.specs.declared.requests.Receive.{Receive}
use Rattle.protocol.specs.declared.images.ContextImage.{ContextImage}
use Rattle.protocol.specs.declared.images.CqImage.{CqImage}
use Rattle.protocol.specs.declared.images.EndImage.{EndImage}
use Rattle.protocol.specs.declared.images.KeptReply.{KeptReply}
use Rattle.protocol.specs.declared.images.LinkImage.{LinkImage}
use Rattle.protocol.specs.declared.images.PostedImage.{PostedImage}
use Rattle.protocol.specs.declared.images.Progress.{Progress}
use Rattle.protocol.specs.declared.images.Progress.TheVariants as progress

-- a completion
pub record FitsEntry (w : Completion) : Type 0 where
  pub id : w.id < 2 ^ 64
  pub imm : IfSome w.imm (λ n. n < 2 ^ 32)

-- a receive
pub record FitsReceive (r : Receive) : Type 0 where
  pub id : r.id < 2 ^ 64
  pub lkey : r.lkey < 2 ^ 32
  pub local : r.local < 2 ^ 64

-- a request
pub record FitsRequest (p : PostedImage) : Type 0 where
  pub id : p.request.id < 2 ^ 64
  pub imm : IfSome p.request.shape.imm (λ n. n < 2 ^ 32)
  pub lkey : p.request.lkey < 2 ^ 32
  pub local : p.request.local < 2 ^ 64
  pub remote : p.request.shape.remote < 2 ^ 64
  pub rkey : p.request.shape.rkey < 2 ^ 32
  pub swap_add : p.request.shape.swap_add < 2 ^ 64
  pub compare : p.request.shape.compare < 2 ^ 64

-- the message in progress
abbrev pub FitsProgress : Progress → Type 0
FitsProgress progress.Idle = ⊤
FitsProgress (progress.Send done receive) = FitsReceive receive
FitsProgress (progress.Write region off length' done) = ⊤

-- a connected end
pub record FitsLink (l : LinkImage) : Type 0 where
  pub ip : l.partner.ip < 2 ^ 32
  pub port : l.partner.port < 2 ^ 16
  pub moves : l.moves < 2 ^ 16
  pub partner_moves : l.partner_moves < 2 ^ 16
  pub waits : l.waits < 2 ^ 8
  pub progress : FitsProgress l.progress
  pub kept : All (λ k. k.old < 2 ^ 64) l.kept

-- a queue pair
pub record FitsEnd (e : EndImage) : Type 0 where
  pub linked : IfSome e.linked FitsLink
  pub untold : All FitsRequest e.untold
  pub unused : All FitsReceive e.unused

-- an image
pub record FitsFields (c : ContextImage) : Type 0 where
  pub keys : All (λ r. r.keys.remote < 2 ^ 32) c.regions
  pub entries : All (λ q. All FitsEntry q.entries) c.queues
  pub ends : All FitsEnd c.ends
