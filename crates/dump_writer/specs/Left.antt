-- What is left to write of an image at each place between two groups of fields.
use Rattle.std.specs.Prelude.{ℕ, List, [], ◌++◌, length, flat_map, drop, Option, Some, None, ◌≤◌, ⊤}
use Rattle.rdma_types.specs.declared.names.Name.{Name}
use Rattle.rdma_types.specs.declared.requests.Completion.{Completion}
use Rattle.rdma_types.specs.declared.requests.Receive.{Receive}
use Rattle.protocol.specs.declared.images.ContextImage.{ContextImage}
use Rattle.protocol.specs.declared.images.CqImage.{CqImage}
use Rattle.protocol.specs.declared.images.EndImage.{EndImage}
use Rattle.protocol.specs.declared.images.KeptReply.{KeptReply}
use Rattle.protocol.specs.declared.images.LinkImage.{LinkImage}
use Rattle.protocol.specs.declared.images.PostedImage.{PostedImage}
use Rattle.protocol.specs.declared.images.RegionImage.{RegionImage}
use Rattle.protocol.specs.Bytes.{big_bytes}
use Rattle.protocol.specs.Dumps.{text, region_bytes, queue_bytes, entry_bytes, end_bytes, kept_bytes, request_bytes, receive_bytes, progress_bytes}
use Rattle.dump_writer.specs.declared.stages.Stage.{Stage}
use Rattle.dump_writer.specs.declared.stages.Stage.TheVariants as stage
use Rattle.dump_writer.specs.Groups.{opening, terms_bytes, link_head, link_numbers}

-- queue pairs
abbrev pub ends_left : List EndImage → List ℕ
ends_left es = flat_map end_bytes es

-- completion queues, and the queue pairs
abbrev pub queues_left : ContextImage → List CqImage → List ℕ
queues_left c qs = flat_map queue_bytes qs ++ (big_bytes 2 (length c.ends) ++ ends_left c.ends)

-- entries of a queue, and the other queues
abbrev pub entries_left : ContextImage → List Completion → List CqImage → List ℕ
entries_left c ws qs = flat_map entry_bytes ws ++ queues_left c qs

-- regions, and what follows them
abbrev pub regions_left : ContextImage → List RegionImage → List ℕ
regions_left c rs = flat_map region_bytes rs ++ (big_bytes 2 (length c.queues) ++ queues_left c c.queues)

-- domains, and what follows them
abbrev pub domains_left : ContextImage → List Name → List ℕ
domains_left c ns = flat_map text ns ++ (big_bytes 2 (length c.regions) ++ regions_left c c.regions)

-- unused receives, and the other queue pairs
abbrev pub receives_left : List Receive → List EndImage → List ℕ
receives_left rs es = flat_map receive_bytes rs ++ ends_left es

-- untold requests, and what follows them
abbrev pub requests_left : EndImage → List PostedImage → List EndImage → List ℕ
requests_left e ps es = flat_map request_bytes ps ++ (big_bytes 2 (length e.unused) ++ receives_left e.unused es)

-- kept replies, and what follows them
abbrev pub kept_left : EndImage → List KeptReply → List EndImage → List ℕ
kept_left e ks es = flat_map kept_bytes ks ++ (big_bytes 2 (length e.untold) ++ requests_left e e.untold es)

-- the count of kept replies, and what follows it
abbrev pub kept_list_left : LinkImage → EndImage → List EndImage → List ℕ
kept_list_left l e es = big_bytes 1 (length l.kept) ++ kept_left e l.kept es

-- the message in progress, and what follows it
abbrev pub progress_left : LinkImage → EndImage → List EndImage → List ℕ
progress_left l e es = progress_bytes l.progress ++ kept_list_left l e es

-- the numbers of both directions, and what follows them
abbrev pub numbers_left : LinkImage → EndImage → List EndImage → List ℕ
numbers_left l e es = link_numbers l ++ progress_left l e es

-- the terms, and what follows them
abbrev pub terms_left : LinkImage → EndImage → List EndImage → List ℕ
terms_left l e es = terms_bytes l.terms ++ numbers_left l e es

-- what a queue pair has behind its state, and what follows it
abbrev pub link_left : Option LinkImage → EndImage → List EndImage → List ℕ
link_left None e es = kept_left e [] es
link_left (Some l) e es = link_head l ++ terms_left l e es

-- what is left at a stage
unfoldable pub left : ContextImage → Stage → List ℕ
left c stage.Opening = opening c ++ domains_left c c.domains
left c (stage.Domains ns) = domains_left c ns.now
left c (stage.Regions rs) = regions_left c rs.now
left c (stage.Bytes at run rs) = drop at run.now ++ regions_left c rs.now
left c (stage.Queues qs) = queues_left c qs.now
left c (stage.Entries ws qs) = entries_left c ws.now qs.now
left c (stage.Ends es) = ends_left es.now
left c (stage.Link e es) = link_left e.now.linked e.now es.now
left c (stage.Terms l e es) = terms_left l.now e.now es.now
left c (stage.Numbers l e es) = numbers_left l.now e.now es.now
left c (stage.Progress l e es) = progress_left l.now e.now es.now
left c (stage.KeptList l e es) = kept_list_left l.now e.now es.now
left c (stage.Kept ks e es) = kept_left e.now ks.now es.now
left c (stage.Requests ps e es) = requests_left e.now ps.now es.now
left c (stage.Payload at run ps e es) = drop at run.now ++ requests_left e.now ps.now es.now
left c (stage.Receives rs es) = receives_left rs.now es.now

-- no bytes of a run are left at a stage
abbrev pub IsPast : Stage → Type 0
IsPast (stage.Bytes at run rs) = length run.now ≤ at
IsPast (stage.Payload at run ps e es) = length run.now ≤ at
IsPast _ = ⊤
