-- Answers, and the texts that worked scripts show for them.
use Rattle.std.specs.Prelude.{ℕ, ◌++◌, List, [], ◌∷◌, Some, None, codes}
use Rattle.rdma_types.specs.declared.answers.Answer.{Answer}
use Rattle.rdma_types.specs.declared.answers.Answer.TheVariants as answer
use Rattle.rdma_types.specs.declared.answers.UnfinishedReason.TheVariants as left
use Rattle.rdma_types.specs.declared.answers.ExpiryIgnored.TheVariants as not_why
use Rattle.rdma_types.specs.declared.answers.Refusal.TheVariants as refusal
use Rattle.rdma_types.specs.declared.answers.DropReason.TheVariants as silent
use Rattle.rdma_types.specs.declared.answers.ArrivalEffect.TheVariants as took
use Rattle.rdma_types.specs.declared.answers.RefusalReason.TheVariants as why
use Rattle.rdma_types.specs.declared.requests.WcKind.TheVariants as wc
use Rattle.rdma_types.specs.declared.requests.WcStatus.TheVariants as status
use Rattle.example_scripts.specs.Things.{object}

abbrev pub words : List (Answer × List ℕ)
words =
    (answer.Done, codes "ok\n")
    ∷ (answer.Stopped, codes "stopped\n")
    ∷ (answer.Idle, codes "idle\n")
    ∷ (answer.WindowFull, codes "window\n")
    ∷ (answer.ReadsFull, codes "reads\n")
    ∷ (answer.Fenced, codes "fenced\n")
    ∷ (answer.Waiting, codes "waiting\n")
    ∷ (answer.Spent, codes "spent\n")
    ∷ (answer.Over, codes "over\n")
    ∷ (answer.NotWaiting, codes "notwaiting\n")
    ∷ (answer.Gone, codes "gone\n")
    ∷ (answer.Lost, codes "lost\n")
    ∷ (answer.Aged, codes "aged\n")
    ∷ []

abbrev pub numbers : List (Answer × List ℕ)
numbers =
    (answer.Region (record { local = 16777218; remote = 16777219 }), codes "region 01000002 01000003\n")
    ∷ (answer.Qp 65537, codes "qp 010001\n")
    ∷ (answer.Sent 11, codes "sent 11\n")
    ∷ (answer.Expired 7, codes "expired 7\n")
    ∷ (answer.Bytes (222 ∷ 173 ∷ 190 ∷ 239 ∷ []), codes "bytes deadbeef\n")
    ∷ (answer.Wire (17 ∷ 0 ∷ 255 ∷ 255 ∷ 0 ∷ 1 ∷ 0 ∷ 1 ∷ 0 ∷ 0 ∷ 0 ∷ 100 ∷ 101 ∷ 0 ∷ 0 ∷ 0 ∷ 0 ∷ 0 ∷ 0 ∷ 0 ∷ []), codes "wire 1100ffff00010001000000646500000000000000\n")
    ∷ []

abbrev pub dumps : List (Answer × List ℕ)
dumps =
    (answer.Dump 20 (77 ∷ 73 ∷ 71 ∷ 68 ∷ 85 ∷ 77 ∷ 80 ∷ 0 ∷ 0 ∷ 2 ∷ 1 ∷ 101 ∷ 0 ∷ 0 ∷ 0 ∷ 0 ∷ 0 ∷ 0 ∷ 0 ∷ 0 ∷ []), codes "dump 20 4d494744554d5000000201650000000000000000\n")
    ∷ (answer.Dump 4097 [], codes "dump 4097\n")
    ∷ []

abbrev pub done : List (Answer × List ℕ)
done =
    (answer.Took took.Acted 0 0, codes "took acted\n")
    ∷ (answer.Took took.Ack 11 1, codes "took ack sent 11\n")
    ∷ (answer.Took took.Bytes 4 64, codes "took bytes sent 4 to 67\n")
    ∷ (answer.Took took.Old 8 1, codes "took old sent 8\n")
    ∷ (answer.Took took.SeqNak 3 1, codes "took seqnak sent 3\n")
    ∷ (answer.Took took.NotReady 2 1, codes "took notready sent 2\n")
    ∷ (answer.Took took.DupAck 8 1, codes "took dupack sent 8\n")
    ∷ (answer.Took took.Acked 0 0, codes "took acked\n")
    ∷ (answer.Took took.Landed 0 0, codes "took landed\n")
    ∷ (answer.Took took.Rewound 0 0, codes "took rewound\n")
    ∷ (answer.Took took.Waits 0 0, codes "took waits\n")
    ∷ (answer.Took took.Stopped 4 1, codes "took stopped sent 4\n")
    ∷ (answer.Took took.Paused 0 0, codes "took paused\n")
    ∷ (answer.Took took.Resumed 6 1, codes "took resumed sent 6\n")
    ∷ (answer.Took took.ResumeAck 7 1, codes "took resumeack sent 7\n")
    ∷ (answer.Took took.Running 0 0, codes "took running\n")
    ∷ []

abbrev pub not_done : List (Answer × List ℕ)
not_done =
    (answer.Took (took.Refused why.Access) 2 1, codes "took refused access sent 2\n")
    ∷ (answer.Took (took.Refused why.Invalid) 2 1, codes "took refused invalid sent 2\n")
    ∷ (answer.Took (took.Refused why.Length) 2 1, codes "took refused length sent 2\n")
    ∷ (answer.Took (took.Ended status.RemoteInvalid) 2 0, codes "took ended 9\n")
    ∷ (answer.Took (took.Ended status.RnrExceeded) 2 0, codes "took ended 13\n")
    ∷ (answer.Took (took.Silent silent.Malformed) 2 0, codes "took silent malformed\n")
    ∷ (answer.Took (took.Silent silent.Unknown) 2 0, codes "took silent unknown\n")
    ∷ (answer.Took (took.Silent silent.Ended) 2 0, codes "took silent ended\n")
    ∷ (answer.Took (took.Silent silent.Paused) 2 0, codes "took silent paused\n")
    ∷ (answer.Took (took.Silent silent.NakSent) 2 0, codes "took silent naksent\n")
    ∷ (answer.Took (took.Silent silent.NoRepeat) 2 0, codes "took silent norepeat\n")
    ∷ (answer.Took (took.Silent silent.Useless) 2 0, codes "took silent useless\n")
    ∷ (answer.Took (took.Silent silent.Stale) 2 0, codes "took silent stale\n")
    ∷ []

abbrev pub completions : List (Answer × List ℕ)
completions =
    (answer.Polled [], codes "none\n")
    ∷ (
      answer.Polled (
          record { qp = 65537; id = 1; kind = wc.Write; status = status.Success; length = 1048576; imm = None }
          ∷ record { qp = 65539; id = 33; kind = wc.Send; status = status.Success; length = 4096; imm = None }
          ∷ record { qp = 65538; id = 21; kind = wc.Read; status = status.RemoteAccess; length = 0; imm = None }
          ∷ record { qp = 65540; id = 44; kind = wc.FetchAdd; status = status.RetryExceeded; length = 0; imm = None }
          ∷ record { qp = 65540; id = 45; kind = wc.CompareSwap; status = status.Flush; length = 0; imm = None }
          ∷ record { qp = 131073; id = 9; kind = wc.Recv; status = status.LocalLength; length = 0; imm = None }
          ∷ record { qp = 131073; id = 9; kind = wc.RecvImm; status = status.Success; length = 4; imm = Some 42 }
          ∷ []),
      codes "wc 010001 1 write 0 1048576\n"
          ++ codes "wc 010003 33 send 0 4096\n"
          ++ codes "wc 010002 21 read 10 0\n"
          ++ codes "wc 010004 44 add 12 0\n"
          ++ codes "wc 010004 45 cas 5 0\n"
          ++ codes "wc 020001 9 recv 1 0\n"
          ++ codes "wc 020001 9 recvimm 0 4 imm 0000002a\n",
    )
    ∷ []

abbrev pub quiets : List (Answer × List ℕ)
quiets =
    (answer.Quiet [], codes "quiet 0\n")
    ∷ (
      answer.Quiet (
          (object (codes "a") (codes "q"), left.NoReceive)
          ∷ (object (codes "a") (codes "r"), left.Paused)
          ∷ (object (codes "a") (codes "s_1"), left.Resuming)
          ∷ (object (codes "a") (codes "t"), left.Carried)
          ∷ []),
      codes "quiet 4\n"
          ++ codes "left a.q noreceive\n"
          ++ codes "left a.r paused\n"
          ++ codes "left a.s_1 resuming\n"
          ++ codes "left a.t carried\n",
    )
    ∷ []

abbrev pub refusals : List (Answer × List ℕ)
refusals =
    (answer.Refused refusal.NoSuch, codes "refused NoSuch\n")
    ∷ (answer.Refused refusal.NumberTaken, codes "refused NumberTaken\n")
    ∷ (answer.Refused refusal.TooMany, codes "refused TooMany\n")
    ∷ (answer.Refused refusal.BadState, codes "refused BadState\n")
    ∷ (answer.Refused refusal.SqFull, codes "refused SqFull\n")
    ∷ (answer.Refused refusal.RqFull, codes "refused RqFull\n")
    ∷ (answer.Refused refusal.CqFull, codes "refused CqFull\n")
    ∷ (answer.Refused refusal.BadKey, codes "refused BadKey\n")
    ∷ (answer.Refused refusal.TooLong, codes "refused TooLong\n")
    ∷ (answer.Refused refusal.InUse, codes "refused InUse\n")
    ∷ (answer.Refused refusal.Stopped, codes "refused Stopped\n")
    ∷ (answer.Refused refusal.PeerMoving, codes "refused PeerMoving\n")
    ∷ (answer.Refused refusal.Spent, codes "refused Spent\n")
    ∷ (answer.Refused refusal.NoPage, codes "refused NoPage\n")
    ∷ []

abbrev pub not_counted : List (Answer × List ℕ)
not_counted =
    (answer.NotCounted not_why.Ended, codes "notcounted ended\n")
    ∷ (answer.NotCounted not_why.Paused, codes "notcounted paused\n")
    ∷ (answer.NotCounted not_why.Resuming, codes "notcounted resuming\n")
    ∷ (answer.NotCounted not_why.Rnr, codes "notcounted rnr\n")
    ∷ (answer.NotCounted not_why.Nothing, codes "notcounted nothing\n")
    ∷ []
