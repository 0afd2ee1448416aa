-- The text of the answers: a line each, but for a poll and for settling, which tell each thing on a line of its own (this
-- project's choice).
use Rattle.std.specs.Prelude.{◌≡◌, ℕ, ◌+◌, ◌-◌, ◌==◌, List, [], ◌∷◌, ◌++◌, length, take, drop, Option, Some, None, if◌then◌else◌, codes}
use Rattle.std.specs.Fmt.{decimal}
use Rattle.std.specs.Int.{w32, to_be_bytes}
use Rattle.hex.specs.Hex.{encode_lower}
use Rattle.rdma_types.specs.declared.answers.Answer.{Answer}
use Rattle.rdma_types.specs.declared.answers.Answer.TheVariants as answer
use Rattle.rdma_types.specs.declared.answers.UnfinishedReason.{UnfinishedReason}
use Rattle.rdma_types.specs.declared.answers.UnfinishedReason.TheVariants as left
use Rattle.rdma_types.specs.declared.answers.ExpiryIgnored.{ExpiryIgnored}
use Rattle.rdma_types.specs.declared.answers.ExpiryIgnored.TheVariants as not_why
use Rattle.rdma_types.specs.declared.answers.Refusal.{Refusal}
use Rattle.rdma_types.specs.declared.answers.Refusal.TheVariants as refusal
use Rattle.rdma_types.specs.declared.answers.DropReason.{DropReason}
use Rattle.rdma_types.specs.declared.answers.DropReason.TheVariants as silent
use Rattle.rdma_types.specs.declared.answers.ArrivalEffect.{ArrivalEffect}
use Rattle.rdma_types.specs.declared.answers.ArrivalEffect.TheVariants as took
use Rattle.rdma_types.specs.declared.answers.RefusalReason.{RefusalReason}
use Rattle.rdma_types.specs.declared.answers.RefusalReason.TheVariants as why
use Rattle.rdma_types.specs.declared.names.ObjName.{ObjName}
use Rattle.rdma_types.specs.declared.requests.Completion.{Completion}
use Rattle.rdma_types.specs.declared.requests.WcKind.{WcKind}
use Rattle.rdma_types.specs.declared.requests.WcKind.TheVariants as wc
use Rattle.rdma_types.specs.declared.requests.WcStatus.{WcStatus}
use Rattle.rdma_types.specs.declared.requests.WcStatus.TheVariants as status

-- ---- writing

-- the new bytes begin with the old ones
abbrev pub Keeps : List ℕ → List ℕ → Type 0
Keeps old new = take (length old) new ≡ old

-- each word after a space, and a newline
abbrev pub ended : List (List ℕ) → List ℕ
ended [] = 10 ∷ []
ended (word ∷ words) = 32 ∷ (word ++ ended words)

-- a line: its words with a space between, and a newline
abbrev pub line : List ℕ → List (List ℕ) → List ℕ
line first words = first ++ ended words

-- ---- words

-- a key or an immediate: eight digits
abbrev pub key_text : ℕ → List ℕ
key_text n = encode_lower (to_be_bytes w32 n)

-- a queue pair number: six digits, those of its 24 bits
abbrev pub qp_text : ℕ → List ℕ
qp_text n = encode_lower (drop 1 (to_be_bytes w32 n))

-- the name of a thing, behind that of its context
abbrev pub object_text : ObjName → List ℕ
object_text o = o.context ++ (46 ∷ o.name)

-- the kind of a completion
abbrev pub kind_text : WcKind → List ℕ
kind_text wc.Write = codes "write"
kind_text wc.Send = codes "send"
kind_text wc.Read = codes "read"
kind_text wc.CompareSwap = codes "cas"
kind_text wc.FetchAdd = codes "add"
kind_text wc.Recv = codes "recv"
kind_text wc.RecvImm = codes "recvimm"

-- the number of a status
abbrev pub status_number : WcStatus → ℕ
status_number status.Success = 0
status_number status.LocalLength = 1
status_number status.Flush = 5
status_number status.RemoteInvalid = 9
status_number status.RemoteAccess = 10
status_number status.RetryExceeded = 12
status_number status.RnrExceeded = 13

-- the name of a refusal
abbrev pub refusal_text : Refusal → List ℕ
refusal_text refusal.NoSuch = codes "NoSuch"
refusal_text refusal.NumberTaken = codes "NumberTaken"
refusal_text refusal.TooMany = codes "TooMany"
refusal_text refusal.BadState = codes "BadState"
refusal_text refusal.SqFull = codes "SqFull"
refusal_text refusal.RqFull = codes "RqFull"
refusal_text refusal.CqFull = codes "CqFull"
refusal_text refusal.BadKey = codes "BadKey"
refusal_text refusal.TooLong = codes "TooLong"
refusal_text refusal.InUse = codes "InUse"
refusal_text refusal.Stopped = codes "Stopped"
refusal_text refusal.PeerMoving = codes "PeerMoving"
refusal_text refusal.Spent = codes "Spent"
refusal_text refusal.NoPage = codes "NoPage"

-- why an expiry is not counted
abbrev pub not_why_text : ExpiryIgnored → List ℕ
not_why_text not_why.Ended = codes "ended"
not_why_text not_why.Paused = codes "paused"
not_why_text not_why.Resuming = codes "resuming"
not_why_text not_why.Rnr = codes "rnr"
not_why_text not_why.Nothing = codes "nothing"

-- why a request is refused
abbrev pub why_text : RefusalReason → List ℕ
why_text why.Invalid = codes "invalid"
why_text why.Access = codes "access"
why_text why.Length = codes "length"

-- why a datagram has no effect
abbrev pub silent_text : DropReason → List ℕ
silent_text silent.Malformed = codes "malformed"
silent_text silent.Unknown = codes "unknown"
silent_text silent.Ended = codes "ended"
silent_text silent.Paused = codes "paused"
silent_text silent.NakSent = codes "naksent"
silent_text silent.NoRepeat = codes "norepeat"
silent_text silent.Useless = codes "useless"
silent_text silent.Stale = codes "stale"

-- why requests are left
abbrev pub left_text : UnfinishedReason → List ℕ
left_text left.Paused = codes "paused"
left_text left.Resuming = codes "resuming"
left_text left.NoReceive = codes "noreceive"
left_text left.Carried = codes "carried"

-- what a datagram did
unfoldable pub took_text : ArrivalEffect → List ℕ
took_text took.Acted = codes "acted"
took_text took.Ack = codes "ack"
took_text took.Bytes = codes "bytes"
took_text took.Old = codes "old"
took_text took.SeqNak = codes "seqnak"
took_text took.NotReady = codes "notready"
took_text took.DupAck = codes "dupack"
took_text (took.Refused w) = codes "refused " ++ why_text w
took_text took.Acked = codes "acked"
took_text took.Landed = codes "landed"
took_text took.Rewound = codes "rewound"
took_text took.Waits = codes "waits"
took_text (took.Ended s) = codes "ended " ++ decimal (status_number s)
took_text took.Stopped = codes "stopped"
took_text took.Paused = codes "paused"
took_text took.Resumed = codes "resumed"
took_text took.ResumeAck = codes "resumeack"
took_text took.Running = codes "running"
took_text (took.Silent w) = codes "silent " ++ silent_text w

-- the numbers of the datagrams that were sent: none, the one, or the first and the last
unfoldable pub sent_words : ℕ → ℕ → List (List ℕ)
sent_words first count =
    if count == 0 then []
    else if count == 1 then codes "sent" ∷ decimal first ∷ []
    else codes "sent" ∷ decimal first ∷ codes "to" ∷ decimal (first + count - 1) ∷ []

-- ---- lines

-- the immediate of a completion, where there is one
unfoldable pub imm_words : Option ℕ → List (List ℕ)
imm_words None = []
imm_words (Some imm) = codes "imm" ∷ key_text imm ∷ []

-- the kind, the status and the length of a completion, each after a space
abbrev pub outcome : Completion → List ℕ
outcome c = 32 ∷ (kind_text c.kind ++ (32 ∷ (decimal (status_number c.status) ++ (32 ∷ decimal c.length))))

-- a completion: queue pair, id, kind, status, length, and the immediate where there is one
unfoldable pub completion_line : Completion → List ℕ
completion_line c =
    line (codes "wc") (qp_text c.qp ∷ decimal c.id ∷ kind_text c.kind ∷ decimal (status_number c.status) ∷ decimal c.length
    ∷ imm_words c.imm)

-- a line for each completion
unfoldable pub completion_lines : List Completion → List ℕ
completion_lines [] = []
completion_lines (c ∷ cs) = completion_line c ++ completion_lines cs

-- the same, or `none`
unfoldable pub polled_lines : List Completion → List ℕ
polled_lines [] = line (codes "none") []
polled_lines (c ∷ cs) = completion_lines (c ∷ cs)

-- an end that settling left, and why
abbrev pub left_line : (ObjName × UnfinishedReason) → List ℕ
left_line x = line (codes "left") (object_text x.0 ∷ left_text x.1 ∷ [])

-- a line for each end that settling left
unfoldable pub left_lines : List (ObjName × UnfinishedReason) → List ℕ
left_lines [] = []
left_lines (x ∷ xs) = left_line x ++ left_lines xs

-- the bytes of a dump, where they are shown
unfoldable pub shown_words : List ℕ → List (List ℕ)
shown_words [] = []
shown_words (b ∷ bs) = encode_lower (b ∷ bs) ∷ []

-- ---- answers

-- the whole text of an answer
unfoldable pub printed : Answer → List ℕ
printed answer.Done = line (codes "ok") []
printed answer.Stopped = line (codes "stopped") []
printed (answer.Region keys) = line (codes "region") (key_text keys.local ∷ key_text keys.remote ∷ [])
printed (answer.Qp number) = line (codes "qp") (qp_text number ∷ [])
printed (answer.Bytes bytes) = line (codes "bytes") (encode_lower bytes ∷ [])
printed (answer.Polled completions) = polled_lines completions
printed (answer.Sent first) = line (codes "sent") (decimal first ∷ [])
printed answer.Idle = line (codes "idle") []
printed answer.WindowFull = line (codes "window") []
printed answer.ReadsFull = line (codes "reads") []
printed answer.Fenced = line (codes "fenced") []
printed answer.Waiting = line (codes "waiting") []
printed (answer.Took t first count) = line (codes "took") (took_text t ∷ sent_words first count)
printed (answer.Expired spent) = line (codes "expired") (decimal spent ∷ [])
printed answer.Spent = line (codes "spent") []
printed (answer.NotCounted w) = line (codes "notcounted") (not_why_text w ∷ [])
printed answer.Over = line (codes "over") []
printed answer.NotWaiting = line (codes "notwaiting") []
printed (answer.Wire bytes) = line (codes "wire") (encode_lower bytes ∷ [])
printed answer.Gone = line (codes "gone") []
printed answer.Lost = line (codes "lost") []
printed answer.Aged = line (codes "aged") []
printed (answer.Dump count bytes) = line (codes "dump") (decimal count ∷ shown_words bytes)
printed (answer.Quiet ends) = line (codes "quiet") (decimal (length ends) ∷ []) ++ left_lines ends
printed (answer.Refused r) = line (codes "refused") (refusal_text r ∷ [])

-- whole lines: the last byte is a newline
abbrev pub IsWhole : List ℕ → Type 0
IsWhole text = (front : List ℕ) × (text ≡ front ++ 10 ∷ [])
