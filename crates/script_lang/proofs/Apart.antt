-- Each reason, refusal, kind and status has a word of its own: what reads a word back.
use Rattle.std.proofs.Common.{◌≡◌, ℕ, ◌==◌, List, refl, sym, ap, ◌∙◌, codes, if◌then◌else◌}
use Rattle.std.specs.Str.{bytes_eq}
use Rattle.std.specs.Fmt.{digits}
use Rattle.rdma_types.specs.declared.answers.UnfinishedReason.{UnfinishedReason}
use Rattle.rdma_types.specs.declared.answers.UnfinishedReason.TheVariants as left
use Rattle.rdma_types.specs.declared.answers.ExpiryIgnored.{ExpiryIgnored}
use Rattle.rdma_types.specs.declared.answers.ExpiryIgnored.TheVariants as not_why
use Rattle.rdma_types.specs.declared.answers.Refusal.{Refusal}
use Rattle.rdma_types.specs.declared.answers.Refusal.TheVariants as refusal
use Rattle.rdma_types.specs.declared.answers.DropReason.{DropReason}
use Rattle.rdma_types.specs.declared.answers.DropReason.TheVariants as silent
use Rattle.rdma_types.specs.declared.answers.ArrivalEffect.{ArrivalEffect}
use Rattle.rdma_types.specs.declared.answers.ArrivalEffect.TheVariants as took
use Rattle.rdma_types.specs.declared.answers.RefusalReason.{RefusalReason}
use Rattle.rdma_types.specs.declared.answers.RefusalReason.TheVariants as why
use Rattle.rdma_types.specs.declared.requests.WcKind.{WcKind}
use Rattle.rdma_types.specs.declared.requests.WcKind.TheVariants as wc
use Rattle.rdma_types.specs.declared.requests.WcStatus.{WcStatus}
use Rattle.rdma_types.specs.declared.requests.WcStatus.TheVariants as status
use Rattle.script_lang.specs.Printed.{refusal_text, not_why_text, left_text, why_text, silent_text, kind_text, status_number, took_text}

-- what can be read back is told apart
apart : {A B : Type 0} (said : A → B) (read : B → A) → ((x : A) → read (said x) ≡ x) → (x y : A) → said x ≡ said y → x ≡ y
apart said read back x y e = sym (back x) ∙ ap read e ∙ back y

abbrev refusal_read : List ℕ → Refusal
refusal_read t =
    if bytes_eq t (codes "NoSuch") then refusal.NoSuch
    else if bytes_eq t (codes "NumberTaken") then refusal.NumberTaken
    else if bytes_eq t (codes "TooMany") then refusal.TooMany
    else if bytes_eq t (codes "BadState") then refusal.BadState
    else if bytes_eq t (codes "SqFull") then refusal.SqFull
    else if bytes_eq t (codes "RqFull") then refusal.RqFull
    else if bytes_eq t (codes "CqFull") then refusal.CqFull
    else if bytes_eq t (codes "BadKey") then refusal.BadKey
    else if bytes_eq t (codes "TooLong") then refusal.TooLong
    else if bytes_eq t (codes "InUse") then refusal.InUse
    else if bytes_eq t (codes "Stopped") then refusal.Stopped
    else if bytes_eq t (codes "PeerMoving") then refusal.PeerMoving
    else if bytes_eq t (codes "Spent") then refusal.Spent
    else refusal.NoPage

refusal_back : (x : Refusal) → refusal_read (refusal_text x) ≡ x
refusal_back refusal.NoSuch = refl
refusal_back refusal.NumberTaken = refl
refusal_back refusal.TooMany = refl
refusal_back refusal.BadState = refl
refusal_back refusal.SqFull = refl
refusal_back refusal.RqFull = refl
refusal_back refusal.CqFull = refl
refusal_back refusal.BadKey = refl
refusal_back refusal.TooLong = refl
refusal_back refusal.InUse = refl
refusal_back refusal.Stopped = refl
refusal_back refusal.PeerMoving = refl
refusal_back refusal.Spent = refl
refusal_back refusal.NoPage = refl

-- each refusal has a name of its own
pub refusal_apart : (x y : Refusal) → refusal_text x ≡ refusal_text y → x ≡ y
refusal_apart x y e = apart refusal_text refusal_read refusal_back x y e

abbrev not_why_read : List ℕ → ExpiryIgnored
not_why_read t =
    if bytes_eq t (codes "ended") then not_why.Ended
    else if bytes_eq t (codes "paused") then not_why.Paused
    else if bytes_eq t (codes "resuming") then not_why.Resuming
    else if bytes_eq t (codes "rnr") then not_why.Rnr
    else not_why.Nothing

not_why_back : (x : ExpiryIgnored) → not_why_read (not_why_text x) ≡ x
not_why_back not_why.Ended = refl
not_why_back not_why.Paused = refl
not_why_back not_why.Resuming = refl
not_why_back not_why.Rnr = refl
not_why_back not_why.Nothing = refl

-- each reason not to count has a word of its own
pub not_why_apart : (x y : ExpiryIgnored) → not_why_text x ≡ not_why_text y → x ≡ y
not_why_apart x y e = apart not_why_text not_why_read not_why_back x y e

abbrev left_read : List ℕ → UnfinishedReason
left_read t =
    if bytes_eq t (codes "paused") then left.Paused
    else if bytes_eq t (codes "resuming") then left.Resuming
    else if bytes_eq t (codes "noreceive") then left.NoReceive
    else left.Carried

left_back : (x : UnfinishedReason) → left_read (left_text x) ≡ x
left_back left.Paused = refl
left_back left.Resuming = refl
left_back left.NoReceive = refl
left_back left.Carried = refl

-- each reason to leave requests has a word of its own
pub left_apart : (x y : UnfinishedReason) → left_text x ≡ left_text y → x ≡ y
left_apart x y e = apart left_text left_read left_back x y e

abbrev why_read : List ℕ → RefusalReason
why_read t =
    if bytes_eq t (codes "invalid") then why.Invalid
    else if bytes_eq t (codes "access") then why.Access
    else why.Length

why_back : (x : RefusalReason) → why_read (why_text x) ≡ x
why_back why.Invalid = refl
why_back why.Access = refl
why_back why.Length = refl

-- each reason of a responder has a word of its own
pub why_apart : (x y : RefusalReason) → why_text x ≡ why_text y → x ≡ y
why_apart x y e = apart why_text why_read why_back x y e

abbrev silent_read : List ℕ → DropReason
silent_read t =
    if bytes_eq t (codes "malformed") then silent.Malformed
    else if bytes_eq t (codes "unknown") then silent.Unknown
    else if bytes_eq t (codes "ended") then silent.Ended
    else if bytes_eq t (codes "paused") then silent.Paused
    else if bytes_eq t (codes "naksent") then silent.NakSent
    else if bytes_eq t (codes "norepeat") then silent.NoRepeat
    else if bytes_eq t (codes "useless") then silent.Useless
    else silent.Stale

silent_back : (x : DropReason) → silent_read (silent_text x) ≡ x
silent_back silent.Malformed = refl
silent_back silent.Unknown = refl
silent_back silent.Ended = refl
silent_back silent.Paused = refl
silent_back silent.NakSent = refl
silent_back silent.NoRepeat = refl
silent_back silent.Useless = refl
silent_back silent.Stale = refl

-- each reason of silence has a word of its own
pub silent_apart : (x y : DropReason) → silent_text x ≡ silent_text y → x ≡ y
silent_apart x y e = apart silent_text silent_read silent_back x y e

abbrev wc_read : List ℕ → WcKind
wc_read t =
    if bytes_eq t (codes "write") then wc.Write
    else if bytes_eq t (codes "send") then wc.Send
    else if bytes_eq t (codes "read") then wc.Read
    else if bytes_eq t (codes "cas") then wc.CompareSwap
    else if bytes_eq t (codes "add") then wc.FetchAdd
    else if bytes_eq t (codes "recv") then wc.Recv
    else wc.RecvImm

wc_back : (x : WcKind) → wc_read (kind_text x) ≡ x
wc_back wc.Write = refl
wc_back wc.Send = refl
wc_back wc.Read = refl
wc_back wc.CompareSwap = refl
wc_back wc.FetchAdd = refl
wc_back wc.Recv = refl
wc_back wc.RecvImm = refl

-- each kind has a word of its own
pub wc_apart : (x y : WcKind) → kind_text x ≡ kind_text y → x ≡ y
wc_apart x y e = apart kind_text wc_read wc_back x y e

abbrev status_read : ℕ → WcStatus
status_read t =
    if t == 0 then status.Success
    else if t == 1 then status.LocalLength
    else if t == 5 then status.Flush
    else if t == 9 then status.RemoteInvalid
    else if t == 10 then status.RemoteAccess
    else if t == 12 then status.RetryExceeded
    else status.RnrExceeded

status_back : (x : WcStatus) → status_read (status_number x) ≡ x
status_back status.Success = refl
status_back status.LocalLength = refl
status_back status.Flush = refl
status_back status.RemoteInvalid = refl
status_back status.RemoteAccess = refl
status_back status.RetryExceeded = refl
status_back status.RnrExceeded = refl

-- each status has a number of its own
pub status_apart : (x y : WcStatus) → status_number x ≡ status_number y → x ≡ y
status_apart x y e = apart status_number status_read status_back x y e

abbrev took_read : List ℕ → ArrivalEffect
took_read t =
    if bytes_eq t (codes "acted") then took.Acted
    else if bytes_eq t (codes "ack") then took.Ack
    else if bytes_eq t (codes "bytes") then took.Bytes
    else if bytes_eq t (codes "old") then took.Old
    else if bytes_eq t (codes "seqnak") then took.SeqNak
    else if bytes_eq t (codes "notready") then took.NotReady
    else if bytes_eq t (codes "dupack") then took.DupAck
    else if bytes_eq t (codes "refused invalid") then (took.Refused why.Invalid)
    else if bytes_eq t (codes "refused access") then (took.Refused why.Access)
    else if bytes_eq t (codes "refused length") then (took.Refused why.Length)
    else if bytes_eq t (codes "acked") then took.Acked
    else if bytes_eq t (codes "landed") then took.Landed
    else if bytes_eq t (codes "rewound") then took.Rewound
    else if bytes_eq t (codes "waits") then took.Waits
    else if bytes_eq t (codes "ended 0") then (took.Ended status.Success)
    else if bytes_eq t (codes "ended 1") then (took.Ended status.LocalLength)
    else if bytes_eq t (codes "ended 5") then (took.Ended status.Flush)
    else if bytes_eq t (codes "ended 9") then (took.Ended status.RemoteInvalid)
    else if bytes_eq t (codes "ended 10") then (took.Ended status.RemoteAccess)
    else if bytes_eq t (codes "ended 12") then (took.Ended status.RetryExceeded)
    else if bytes_eq t (codes "ended 13") then (took.Ended status.RnrExceeded)
    else if bytes_eq t (codes "stopped") then took.Stopped
    else if bytes_eq t (codes "paused") then took.Paused
    else if bytes_eq t (codes "resumed") then took.Resumed
    else if bytes_eq t (codes "resumeack") then took.ResumeAck
    else if bytes_eq t (codes "running") then took.Running
    else if bytes_eq t (codes "silent malformed") then (took.Silent silent.Malformed)
    else if bytes_eq t (codes "silent unknown") then (took.Silent silent.Unknown)
    else if bytes_eq t (codes "silent ended") then (took.Silent silent.Ended)
    else if bytes_eq t (codes "silent paused") then (took.Silent silent.Paused)
    else if bytes_eq t (codes "silent naksent") then (took.Silent silent.NakSent)
    else if bytes_eq t (codes "silent norepeat") then (took.Silent silent.NoRepeat)
    else if bytes_eq t (codes "silent useless") then (took.Silent silent.Useless)
    else (took.Silent silent.Stale)

took_back : (x : ArrivalEffect) → took_read (took_text x) ≡ x
unfolding took_text digits
took_back took.Acted = refl
took_back took.Ack = refl
took_back took.Bytes = refl
took_back took.Old = refl
took_back took.SeqNak = refl
took_back took.NotReady = refl
took_back took.DupAck = refl
took_back (took.Refused why.Invalid) = refl
took_back (took.Refused why.Access) = refl
took_back (took.Refused why.Length) = refl
took_back took.Acked = refl
took_back took.Landed = refl
took_back took.Rewound = refl
took_back took.Waits = refl
took_back (took.Ended status.Success) = refl
took_back (took.Ended status.LocalLength) = refl
took_back (took.Ended status.Flush) = refl
took_back (took.Ended status.RemoteInvalid) = refl
took_back (took.Ended status.RemoteAccess) = refl
took_back (took.Ended status.RetryExceeded) = refl
took_back (took.Ended status.RnrExceeded) = refl
took_back took.Stopped = refl
took_back took.Paused = refl
took_back took.Resumed = refl
took_back took.ResumeAck = refl
took_back took.Running = refl
took_back (took.Silent silent.Malformed) = refl
took_back (took.Silent silent.Unknown) = refl
took_back (took.Silent silent.Ended) = refl
took_back (took.Silent silent.Paused) = refl
took_back (took.Silent silent.NakSent) = refl
took_back (took.Silent silent.NoRepeat) = refl
took_back (took.Silent silent.Useless) = refl
took_back (took.Silent silent.Stale) = refl

-- each thing that a datagram did has words of its own
pub took_apart : (x y : ArrivalEffect) → took_text x ≡ took_text y → x ≡ y
took_apart x y e = apart took_text took_read took_back x y e
