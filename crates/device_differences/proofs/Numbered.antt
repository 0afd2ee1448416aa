-- Plain values are equal where their numbers are.
use Rattle.std.proofs.Common.{◌≡◌, ℕ, Bool, true, false, List, [], ◌∷◌, refl, ap, sym, ◌∙◌, arith}
use Rattle.std.specs.Prelude.{◌==◌, Option, Some, None, if◌then◌else◌}
use Rattle.rdma_types.specs.declared.requests.Address.{Address}
use Rattle.rdma_types.specs.declared.requests.Completion.{Completion}
use Rattle.rdma_types.specs.declared.requests.Kind.{Kind}
use Rattle.rdma_types.specs.declared.requests.Kind.TheVariants as kind
use Rattle.rdma_types.specs.declared.requests.Receive.{Receive}
use Rattle.rdma_types.specs.declared.requests.Request.{Request}
use Rattle.rdma_types.specs.declared.requests.Shape.{Shape}
use Rattle.rdma_types.specs.declared.requests.Terms.{Terms}
use Rattle.rdma_types.specs.declared.requests.WcKind.{WcKind}
use Rattle.rdma_types.specs.declared.requests.WcKind.TheVariants as wc
use Rattle.rdma_types.specs.declared.requests.WcStatus.{WcStatus}
use Rattle.rdma_types.specs.declared.requests.WcStatus.TheVariants as status
use Rattle.protocol.specs.declared.images.KeptReply.{KeptReply}
use Rattle.protocol.specs.State.{HuskEntry, Moving, Phase, Running, Paused, Resuming, Progress, NoMessage, InSend, InWrite}
use Rattle.device_differences.specs.Numbers.{flag, has_number, number_in, kind_code, wc_kind_code, status_code, phase_code, numbers_of_receive, numbers_of_request, numbers_of_completion, numbers_of_terms, numbers_of_moving, numbers_of_progress, numbers_of_reply, numbers_of_entry}

-- ---- codes

pub same-flag : (a b : Bool) → flag a ≡ flag b → a ≡ b
same-flag true true e = refl
same-flag false false e = refl
same-flag true false e = absurd (omega (arith, e))
same-flag false true e = absurd (omega (arith, e))

pub same-number : (a b : Option ℕ) → has_number a ≡ has_number b → number_in a ≡ number_in b → a ≡ b
same-number None None e f = refl
same-number None (Some n) e f = absurd (omega (arith, e))
same-number (Some m) None e f = absurd (omega (arith, e))
same-number (Some m) (Some n) e f = ap Some f

pub same-phase : (a b : Phase) → phase_code a ≡ phase_code b → a ≡ b
same-phase Running Running e = refl
same-phase Running Paused e = absurd (omega (arith, e))
same-phase Running Resuming e = absurd (omega (arith, e))
same-phase Paused Running e = absurd (omega (arith, e))
same-phase Paused Paused e = refl
same-phase Paused Resuming e = absurd (omega (arith, e))
same-phase Resuming Running e = absurd (omega (arith, e))
same-phase Resuming Paused e = absurd (omega (arith, e))
same-phase Resuming Resuming e = refl

-- the kind of a request with a code
abbrev kind_with : ℕ → Kind
kind_with n = if n == 0 then kind.Write else if n == 1 then kind.Send else if n == 2 then kind.Read else if n == 3 then kind.CompareSwap else kind.FetchAdd

kind-read : (x : Kind) → kind_with (kind_code x) ≡ x
kind-read kind.Write = refl
kind-read kind.Send = refl
kind-read kind.Read = refl
kind-read kind.CompareSwap = refl
kind-read kind.FetchAdd = refl

pub same-kind : (a b : Kind) → kind_code a ≡ kind_code b → a ≡ b
same-kind a b e = sym (kind-read a) ∙ (ap kind_with e ∙ kind-read b)

-- the kind of a completion with a code
abbrev wc_with : ℕ → WcKind
wc_with n = if n == 0 then wc.Write else if n == 1 then wc.Send else if n == 2 then wc.Read else if n == 3 then wc.CompareSwap else if n == 4 then wc.FetchAdd else if n == 5 then wc.Recv else wc.RecvImm

wc-read : (x : WcKind) → wc_with (wc_kind_code x) ≡ x
wc-read wc.Write = refl
wc-read wc.Send = refl
wc-read wc.Read = refl
wc-read wc.CompareSwap = refl
wc-read wc.FetchAdd = refl
wc-read wc.Recv = refl
wc-read wc.RecvImm = refl

pub same-wc : (a b : WcKind) → wc_kind_code a ≡ wc_kind_code b → a ≡ b
same-wc a b e = sym (wc-read a) ∙ (ap wc_with e ∙ wc-read b)

-- the status with a code
abbrev status_with : ℕ → WcStatus
status_with n = if n == 0 then status.Success else if n == 1 then status.LocalLength else if n == 5 then status.Flush else if n == 9 then status.RemoteInvalid else if n == 10 then status.RemoteAccess else if n == 12 then status.RetryExceeded else status.RnrExceeded

status-read : (x : WcStatus) → status_with (status_code x) ≡ x
status-read status.Success = refl
status-read status.LocalLength = refl
status-read status.Flush = refl
status-read status.RemoteInvalid = refl
status-read status.RemoteAccess = refl
status-read status.RetryExceeded = refl
status-read status.RnrExceeded = refl

pub same-status : (a b : WcStatus) → status_code a ≡ status_code b → a ≡ b
same-status a b e = sym (status-read a) ∙ (ap status_with e ∙ status-read b)

-- ---- values

pub same-receive : (x y : Receive) → numbers_of_receive x ≡ numbers_of_receive y → x ≡ y
same-receive x y e =
    let id : x.id ≡ y.id = cc in
    let lkey : x.lkey ≡ y.lkey = cc in
    let local : x.local ≡ y.local = cc in
    let length : x.length ≡ y.length = cc in
    λ i. record { id = id i; lkey = lkey i; local = local i; length = length i }

pub same-terms : (x y : Terms) → numbers_of_terms x ≡ numbers_of_terms y → x ≡ y
same-terms x y e =
    let mtu : x.mtu ≡ y.mtu = cc in
    let own_start : x.own_start ≡ y.own_start = cc in
    let peer_start : x.peer_start ≡ y.peer_start = cc in
    let retry : x.retry ≡ y.retry = cc in
    let rnr : x.rnr ≡ y.rnr = cc in
    let reads : x.reads ≡ y.reads = cc in
    λ i. record { mtu = mtu i; own_start = own_start i; peer_start = peer_start i; retry = retry i; rnr = rnr i; reads = reads i }

pub same-reply : (x y : KeptReply) → numbers_of_reply x ≡ numbers_of_reply y → x ≡ y
same-reply x y e =
    let number : x.number ≡ y.number = cc in
    let old : x.old ≡ y.old = cc in
    λ i. record { number = number i; old = old i }

pub same-entry : (x y : HuskEntry) → numbers_of_entry x ≡ numbers_of_entry y → x ≡ y
same-entry x y e =
    let number : x.number ≡ y.number = cc in
    let peer : x.peer ≡ y.peer = cc in
    let moves : x.moves ≡ y.moves = cc in
    λ i. record { number = number i; peer = peer i; moves = moves i }

pub same-address : (x y : Address) → x.ip ≡ y.ip → x.port ≡ y.port → x ≡ y
same-address x y ip port = λ i. record { ip = ip i; port = port i }

pub same-moving : (x y : Moving) → numbers_of_moving x ≡ numbers_of_moving y → x ≡ y
same-moving x y e =
    let phase : x.phase ≡ y.phase = same-phase x.phase y.phase (cc) in
    let own : x.own ≡ y.own = cc in
    let recorded : x.recorded ≡ y.recorded = cc in
    let partner : x.partner ≡ y.partner = same-address x.partner y.partner (cc) (cc) in
    λ i. record { phase = phase i; own = own i; recorded = recorded i; partner = partner i }

pub same-completion : (x y : Completion) → numbers_of_completion x ≡ numbers_of_completion y → x ≡ y
same-completion x y e =
    let qp : x.qp ≡ y.qp = cc in
    let id : x.id ≡ y.id = cc in
    let kind : x.kind ≡ y.kind = same-wc x.kind y.kind (cc) in
    let status : x.status ≡ y.status = same-status x.status y.status (cc) in
    let length : x.length ≡ y.length = cc in
    let imm : x.imm ≡ y.imm = same-number x.imm y.imm (cc) (cc) in
    λ i. record { qp = qp i; id = id i; kind = kind i; status = status i; length = length i; imm = imm i }

same-shape : (x y : Shape) → x.kind ≡ y.kind → x.length ≡ y.length → x.remote ≡ y.remote → x.rkey ≡ y.rkey → x.imm ≡ y.imm → x.swap_add ≡ y.swap_add → x.compare ≡ y.compare → x ≡ y
same-shape x y kind length remote rkey imm swap_add compare = λ i. record { kind = kind i; length = length i; remote = remote i; rkey = rkey i; imm = imm i; swap_add = swap_add i; compare = compare i }

pub same-request : (x y : Request) → numbers_of_request x ≡ numbers_of_request y → x ≡ y
same-request x y e =
    let id : x.id ≡ y.id = cc in
    let shape : x.shape ≡ y.shape = same-shape x.shape y.shape (same-kind x.shape.kind y.shape.kind (cc)) (cc) (cc) (cc) (same-number x.shape.imm y.shape.imm (cc) (cc)) (cc) (cc) in
    let lkey : x.lkey ≡ y.lkey = cc in
    let local : x.local ≡ y.local = cc in
    let signaled : x.signaled ≡ y.signaled = same-flag x.signaled y.signaled (cc) in
    let fence : x.fence ≡ y.fence = same-flag x.fence y.fence (cc) in
    λ i. record { id = id i; shape = shape i; lkey = lkey i; local = local i; signaled = signaled i; fence = fence i }

pub same-progress : (x y : Progress) → numbers_of_progress x ≡ numbers_of_progress y → x ≡ y
same-progress NoMessage NoMessage e = refl
same-progress NoMessage (InSend done receive) e = absurd (cc)
same-progress NoMessage (InWrite region off length done) e = absurd (cc)
same-progress (InSend done receive) NoMessage e = absurd (cc)
same-progress (InSend done receive) (InSend done' receive') e = let same : receive ≡ receive' = same-receive receive receive' (cc) in cc
same-progress (InSend done receive) (InWrite region off length done') e = absurd (cc)
same-progress (InWrite region off length done) NoMessage e = absurd (cc)
same-progress (InWrite region off length done) (InSend done' receive) e = absurd (cc)
same-progress (InWrite region off length done) (InWrite region' off' length' done') e = cc
