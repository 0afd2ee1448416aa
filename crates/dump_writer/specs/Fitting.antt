-- What is left to write of an image has numbers in the ranges of their fields.
use Rattle.std.specs.Prelude.{◌<◌, ◌^◌, List, Option, All, IfSome}
use Rattle.rdma_types.specs.declared.requests.Completion.{Completion}
use Rattle.rdma_types.specs.declared.requests.Receive.{Receive}
use Rattle.protocol.specs.declared.images.ContextImage.{ContextImage}
use Rattle.protocol.specs.declared.images.CqImage.{CqImage}
use Rattle.protocol.specs.declared.images.EndImage.{EndImage}
use Rattle.protocol.specs.declared.images.KeptReply.{KeptReply}
use Rattle.protocol.specs.declared.images.LinkImage.{LinkImage}
use Rattle.protocol.specs.declared.images.PostedImage.{PostedImage}
use Rattle.protocol.specs.declared.images.RegionImage.{RegionImage}
use Rattle.law_dump_round_trip.specs.Fits.{FitsEnd, FitsEntry, FitsFields, FitsLink, FitsProgress, FitsReceive, FitsRequest}
use Rattle.dump_writer.specs.declared.stages.Stage.{Stage}
use Rattle.dump_writer.specs.declared.stages.Stage.TheVariants as stage

-- a region's remote key, a kept reply, and the entries of a completion queue
abbrev pub FitsRegion : RegionImage → Type 0
FitsRegion r = r.keys.remote < 2 ^ 32

abbrev pub FitsKept : KeptReply → Type 0
FitsKept k = k.old < 2 ^ 64

abbrev pub FitsQueue : CqImage → Type 0
FitsQueue q = All FitsEntry q.entries

-- the address and the counts of moves of a connected end
pub record FitsHead (l : LinkImage) : Type 0 where
  pub ip : l.partner.ip < 2 ^ 32
  pub port : l.partner.port < 2 ^ 16
  pub moves : l.moves < 2 ^ 16
  pub partner_moves : l.partner_moves < 2 ^ 16

-- completion queues, and the queue pairs
pub record QueuesFit (c : ContextImage) (qs : List CqImage) : Type 0 where
  pub queues : All FitsQueue qs
  pub ends : All FitsEnd c.ends

-- entries of a queue, and the other queues
pub record EntriesFit (c : ContextImage) (ws : List Completion) (qs : List CqImage) : Type 0 where
  pub entries : All FitsEntry ws
  pub queues : QueuesFit c qs

-- regions, and what follows them
pub record RegionsFit (c : ContextImage) (rs : List RegionImage) : Type 0 where
  pub regions : All FitsRegion rs
  pub queues : QueuesFit c c.queues

-- unused receives, and the other queue pairs
pub record ReceivesFit (rs : List Receive) (es : List EndImage) : Type 0 where
  pub receives : All FitsReceive rs
  pub ends : All FitsEnd es

-- untold requests, and what follows them
pub record RequestsFit (e : EndImage) (ps : List PostedImage) (es : List EndImage) : Type 0 where
  pub requests : All FitsRequest ps
  pub receives : ReceivesFit e.unused es

-- kept replies, and what follows them
pub record KeptFit (e : EndImage) (ks : List KeptReply) (es : List EndImage) : Type 0 where
  pub kept : All FitsKept ks
  pub requests : RequestsFit e e.untold es

-- the message in progress, and what follows it
pub record ProgressFits (l : LinkImage) (e : EndImage) (es : List EndImage) : Type 0 where
  pub progress : FitsProgress l.progress
  pub kept : KeptFit e l.kept es

-- the numbers of both directions, and what follows them
pub record NumbersFit (l : LinkImage) (e : EndImage) (es : List EndImage) : Type 0 where
  pub waits : l.waits < 2 ^ 8
  pub progress : ProgressFits l e es

-- a queue pair, and the others
pub record LinkFits (o : Option LinkImage) (e : EndImage) (es : List EndImage) : Type 0 where
  pub linked : IfSome o FitsLink
  pub kept : RequestsFit e e.untold es

-- the numbers of what is left at a stage fit
unfoldable pub fits_left : ContextImage → Stage → Type 0
fits_left c stage.Opening = FitsFields c
fits_left c (stage.Domains ns) = RegionsFit c c.regions
fits_left c (stage.Regions rs) = RegionsFit c rs.now
fits_left c (stage.Bytes at run rs) = RegionsFit c rs.now
fits_left c (stage.Queues qs) = QueuesFit c qs.now
fits_left c (stage.Entries ws qs) = EntriesFit c ws.now qs.now
fits_left c (stage.Ends es) = All FitsEnd es.now
fits_left c (stage.Link e es) = LinkFits e.now.linked e.now es.now
fits_left c (stage.Terms l e es) = NumbersFit l.now e.now es.now
fits_left c (stage.Numbers l e es) = NumbersFit l.now e.now es.now
fits_left c (stage.Progress l e es) = ProgressFits l.now e.now es.now
fits_left c (stage.KeptList l e es) = KeptFit e.now l.now.kept es.now
fits_left c (stage.Kept ks e es) = KeptFit e.now ks.now es.now
fits_left c (stage.Requests ps e es) = RequestsFit e.now ps.now es.now
fits_left c (stage.Payload at run ps e es) = RequestsFit e.now ps.now es.now
fits_left c (stage.Receives rs es) = ReceivesFit rs.now es.now
