-- The bytes of an image in groups of fields, in the order in which they are written (this project's choice).
use Rattle.std.specs.Prelude.{ℕ, List, ◌++◌, length}
use Rattle.rdma_types.specs.declared.requests.Terms.{Terms}
use Rattle.protocol.specs.declared.images.ContextImage.{ContextImage}
use Rattle.protocol.specs.declared.images.CqImage.{CqImage}
use Rattle.protocol.specs.declared.images.EndImage.{EndImage}
use Rattle.protocol.specs.declared.images.LinkImage.{LinkImage}
use Rattle.protocol.specs.declared.images.PostedImage.{PostedImage}
use Rattle.protocol.specs.declared.images.RegionImage.{RegionImage}
use Rattle.protocol.specs.Bytes.{big_bytes}
use Rattle.protocol.specs.Dumps.{magic, text, flag_byte, kind_number, request_flags, imm_number, state_byte}

-- the fields before the first domain
abbrev pub opening : ContextImage → List ℕ
opening c = magic ++ big_bytes 2 2 ++ text c.name ++ big_bytes 2 (length c.domains)

-- a region without its bytes
abbrev pub region_head : RegionImage → List ℕ
region_head r =
    text r.name ++ big_bytes 2 r.domain ++ big_bytes 8 r.base ++ big_bytes 4 r.length ++ big_bytes 1 r.rights.0
    ++ big_bytes 4 r.keys.local ++ big_bytes 4 r.keys.remote

-- a completion queue without its entries
abbrev pub queue_head : CqImage → List ℕ
queue_head q = text q.name ++ big_bytes 4 q.capacity ++ big_bytes 4 (length q.entries)

-- the terms of a connection
abbrev pub terms_bytes : Terms → List ℕ
terms_bytes t =
    big_bytes 2 t.mtu ++ big_bytes 4 t.own_start ++ big_bytes 4 t.peer_start ++ big_bytes 1 t.retry ++ big_bytes 1 t.rnr ++ big_bytes 1 t.reads

-- what a connected end has, up to its terms
abbrev pub link_head : LinkImage → List ℕ
link_head l =
    big_bytes 4 l.peer ++ big_bytes 4 l.partner.ip ++ big_bytes 2 l.partner.port ++ big_bytes 2 l.moves ++ big_bytes 2 l.partner_moves
    ++ flag_byte l.resuming

-- the numbers of both directions
abbrev pub link_numbers : LinkImage → List ℕ
link_numbers l =
    big_bytes 8 l.first ++ big_bytes 8 l.una ++ big_bytes 8 l.next ++ big_bytes 8 l.top
    ++ big_bytes 1 l.spent ++ big_bytes 1 l.waits ++ flag_byte l.rnr_wait
    ++ big_bytes 8 l.expected ++ flag_byte l.nak_sent ++ big_bytes 4 l.msn

-- an untold request without its payload
abbrev pub request_head : PostedImage → List ℕ
request_head p =
    big_bytes 8 p.request.id ++ big_bytes 1 (kind_number p.request.shape.kind) ++ big_bytes 1 (request_flags p.request)
    ++ big_bytes 4 (imm_number p.request.shape.imm) ++ big_bytes 4 p.request.shape.length
    ++ big_bytes 4 p.request.lkey ++ big_bytes 8 p.request.local ++ big_bytes 8 p.request.shape.remote ++ big_bytes 4 p.request.shape.rkey
    ++ big_bytes 8 p.request.shape.swap_add ++ big_bytes 8 p.request.shape.compare

-- a queue pair up to its state
abbrev pub end_head : EndImage → List ℕ
end_head e =
    text e.name ++ big_bytes 4 e.number ++ big_bytes 2 e.domain ++ big_bytes 2 e.send_cq ++ big_bytes 2 e.recv_cq
    ++ big_bytes 2 e.send_depth ++ big_bytes 2 e.recv_depth ++ big_bytes 1 (state_byte e.linked)
