-- The numbers by which C knows the variants (this project's choice). Those of statuses are InfiniBand's.
use Rattle.std.specs.Prelude.{ℕ}
use Rattle.rdma_types.specs.declared.answers.Refusal.{Refusal}
use Rattle.rdma_types.specs.declared.answers.Refusal.TheVariants as refusal
use Rattle.rdma_types.specs.declared.answers.RefusalReason.{RefusalReason}
use Rattle.rdma_types.specs.declared.answers.RefusalReason.TheVariants as reason
use Rattle.rdma_types.specs.declared.answers.ExpiryIgnored.{ExpiryIgnored}
use Rattle.rdma_types.specs.declared.answers.ExpiryIgnored.TheVariants as ignored
use Rattle.rdma_types.specs.declared.answers.DropReason.{DropReason}
use Rattle.rdma_types.specs.declared.answers.DropReason.TheVariants as drop
use Rattle.rdma_types.specs.declared.answers.ArrivalEffect.{ArrivalEffect}
use Rattle.rdma_types.specs.declared.answers.ArrivalEffect.TheVariants as effect
use Rattle.rdma_types.specs.declared.answers.EndState.{EndState}
use Rattle.rdma_types.specs.declared.answers.EndState.TheVariants as state
use Rattle.rdma_types.specs.declared.requests.WcKind.{WcKind}
use Rattle.rdma_types.specs.declared.requests.WcKind.TheVariants as wc
use Rattle.rdma_types.specs.declared.requests.WcStatus.{WcStatus}
use Rattle.rdma_types.specs.declared.requests.WcStatus.TheVariants as status
use Rattle.protocol.specs.declared.dumps.DumpWhy.{DumpWhy}
use Rattle.protocol.specs.declared.dumps.DumpWhy.TheVariants as why

abbrev pub refusal_code : Refusal → ℕ
refusal_code refusal.NoSuch = 1
refusal_code refusal.NumberTaken = 2
refusal_code refusal.TooMany = 3
refusal_code refusal.BadState = 4
refusal_code refusal.SqFull = 5
refusal_code refusal.RqFull = 6
refusal_code refusal.CqFull = 7
refusal_code refusal.BadKey = 8
refusal_code refusal.TooLong = 9
refusal_code refusal.InUse = 10
refusal_code refusal.Stopped = 11
refusal_code refusal.PeerMoving = 12
refusal_code refusal.Spent = 13
refusal_code refusal.NoPage = 14

abbrev pub reason_code : RefusalReason → ℕ
reason_code reason.Invalid = 1
reason_code reason.Access = 2
reason_code reason.Length = 3

abbrev pub ignored_code : ExpiryIgnored → ℕ
ignored_code ignored.Ended = 1
ignored_code ignored.Paused = 2
ignored_code ignored.Resuming = 3
ignored_code ignored.Rnr = 4
ignored_code ignored.Nothing = 5

abbrev pub drop_code : DropReason → ℕ
drop_code drop.Malformed = 1
drop_code drop.Unknown = 2
drop_code drop.Ended = 3
drop_code drop.Paused = 4
drop_code drop.NakSent = 5
drop_code drop.NoRepeat = 6
drop_code drop.Useless = 7
drop_code drop.Stale = 8

abbrev pub status_code : WcStatus → ℕ
status_code status.Success = 0
status_code status.LocalLength = 1
status_code status.Flush = 5
status_code status.RemoteInvalid = 9
status_code status.RemoteAccess = 10
status_code status.RetryExceeded = 12
status_code status.RnrExceeded = 13

abbrev pub wc_code : WcKind → ℕ
wc_code wc.Write = 1
wc_code wc.Send = 2
wc_code wc.Read = 3
wc_code wc.CompareSwap = 4
wc_code wc.FetchAdd = 5
wc_code wc.Recv = 6
wc_code wc.RecvImm = 7

abbrev pub state_code : EndState → ℕ
state_code state.Init = 1
state_code state.Running = 2
state_code state.Paused = 3
state_code state.Resuming = 4
state_code state.Error = 5

abbrev pub dump_code : DumpWhy → ℕ
dump_code why.Short = 1
dump_code why.Magic = 2
dump_code why.Version = 3
dump_code why.Name = 4
dump_code why.Count = 5
dump_code why.Field = 6
dump_code why.Trailing = 7

-- what an arrival did
abbrev pub effect_code : ArrivalEffect → ℕ
effect_code effect.Acted = 1
effect_code effect.Ack = 2
effect_code effect.Bytes = 3
effect_code effect.Old = 4
effect_code effect.SeqNak = 5
effect_code effect.NotReady = 6
effect_code effect.DupAck = 7
effect_code (effect.Refused why) = 8
effect_code effect.Acked = 9
effect_code effect.Landed = 10
effect_code effect.Rewound = 11
effect_code effect.Waits = 12
effect_code (effect.Ended status) = 13
effect_code effect.Stopped = 14
effect_code effect.Paused = 15
effect_code effect.Resumed = 16
effect_code effect.ResumeAck = 17
effect_code effect.Running = 18
effect_code (effect.Silent why) = 19

-- why it did that, where it has a reason
abbrev pub effect_detail : ArrivalEffect → ℕ
effect_detail effect.Acted = 0
effect_detail effect.Ack = 0
effect_detail effect.Bytes = 0
effect_detail effect.Old = 0
effect_detail effect.SeqNak = 0
effect_detail effect.NotReady = 0
effect_detail effect.DupAck = 0
effect_detail (effect.Refused why) = reason_code why
effect_detail effect.Acked = 0
effect_detail effect.Landed = 0
effect_detail effect.Rewound = 0
effect_detail effect.Waits = 0
effect_detail (effect.Ended status) = status_code status
effect_detail effect.Stopped = 0
effect_detail effect.Paused = 0
effect_detail effect.Resumed = 0
effect_detail effect.ResumeAck = 0
effect_detail effect.Running = 0
effect_detail (effect.Silent why) = drop_code why
