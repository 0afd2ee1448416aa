-- Runs of the packetless machine, and what an application hears of them.
use Rattle.std.specs.Prelude.{List, [], ◌∷◌, true, false, Some, None}
use Rattle.rdma_types.specs.declared.requests.Kind.TheVariants as kinds
use Rattle.rdma_types.specs.declared.requests.WcKind.TheVariants as wc_kinds
use Rattle.rdma_types.specs.declared.requests.WcStatus.TheVariants as statuses
use Rattle.rdma_types.specs.declared.answers.RefusalReason.TheVariants as whys
use Rattle.rdma_types.specs.declared.answers.Refusal.TheVariants as refusals
use Rattle.rdma_types.specs.declared.verbs.Verb.{Verb}
use Rattle.rdma_types.specs.declared.verbs.Verb.TheVariants.{Context, Connect, MakeDomain, MakeRegion, MakeCq, MakeQp, DropRegion, Store, Load, PostSend, PostRecv, Poll}
use Rattle.rdma_types.specs.declared.answers.Answer.{Answer}
use Rattle.rdma_types.specs.declared.answers.Answer.TheVariants as answers
use Rattle.packetless_machine.specs.declared.steps.MachineStep.{MachineStep}
use Rattle.packetless_machine.specs.declared.steps.MachineStep.TheVariants as steps
use Rattle.example_rules.specs.MachineOpening.{made, object, word_a, word_b, word_c, word_m, word_n, word_p, word_q, word_r}

-- the usual opening
abbrev pub opening : List MachineStep
opening = made 64 (record { mtu = 256; own_start = 100; peer_start = 200; retry = 7; rnr = 7; reads = 4 })

abbrev pub opening_heard : List (Verb × Answer)
opening_heard =
    (Context word_a true, answers.Done)
    ∷ (Context word_b true, answers.Done)
    ∷ (MakeDomain (object word_a word_p), answers.Done)
    ∷ (MakeDomain (object word_b word_p), answers.Done)
    ∷ (MakeRegion (object word_a word_m) (Some word_p) 4096 64 (record { 0 = 15 }), answers.Region (record { local = 16777218; remote = 16777219 }))
    ∷ (MakeRegion (object word_b word_n) (Some word_p) 8192 64 (record { 0 = 15 }), answers.Region (record { local = 33554434; remote = 33554435 }))
    ∷ (MakeCq (object word_a word_c) 16, answers.Done)
    ∷ (MakeCq (object word_b word_c) 16, answers.Done)
    ∷ (MakeQp (object word_a word_q) (Some word_p) (Some word_c) (Some word_c) 8 8, answers.Qp 65537)
    ∷ (MakeQp (object word_b word_q) (Some word_p) (Some word_c) (Some word_c) 8 8, answers.Qp 131073)
    ∷ (Connect (object word_a word_q) (object word_b word_q) (record { mtu = 256; own_start = 100; peer_start = 200; retry = 7; rnr = 7; reads = 4 }), answers.Done)
    ∷ []

abbrev pub one_write : List MachineStep
one_write =
    steps.Verb (Store (object word_a word_m) 4096 (222 ∷ 173 ∷ 190 ∷ 239 ∷ [])) 0
    ∷ steps.Verb (PostSend (object word_a word_q) (record { id = 1; shape = record { kind = kinds.Write; length = 4; remote = 8192; rkey = 33554435; imm = None; swap_add = 0; compare = 0 }; lkey = 16777218; local = 4096; signaled = true; fence = false })) 0
    ∷ steps.Run (object word_a word_q) 4
    ∷ steps.Tell (object word_a word_q)
    ∷ steps.Verb (Poll (object word_a word_c) 4) 0
    ∷ steps.Verb (Poll (object word_a word_c) 4) 0
    ∷ steps.Verb (Load (object word_b word_n) 8192 4) 0
    ∷ []

abbrev pub one_write_heard : List (Verb × Answer)
one_write_heard =
    (Store (object word_a word_m) 4096 (222 ∷ 173 ∷ 190 ∷ 239 ∷ []), answers.Done)
    ∷ (PostSend (object word_a word_q) (record { id = 1; shape = record { kind = kinds.Write; length = 4; remote = 8192; rkey = 33554435; imm = None; swap_add = 0; compare = 0 }; lkey = 16777218; local = 4096; signaled = true; fence = false }), answers.Done)
    ∷ (Poll (object word_a word_c) 4, answers.Polled (record { qp = 65537; id = 1; kind = wc_kinds.Write; status = statuses.Success; length = 4; imm = None } ∷ []))
    ∷ (Poll (object word_a word_c) 4, answers.Polled [])
    ∷ (Load (object word_b word_n) 8192 4, answers.Bytes (222 ∷ 173 ∷ 190 ∷ 239 ∷ []))
    ∷ []

abbrev pub one_atomic : List MachineStep
one_atomic =
    steps.Verb (PostSend (object word_a word_q) (record { id = 1; shape = record { kind = kinds.FetchAdd; length = 8; remote = 8192; rkey = 33554435; imm = None; swap_add = 5; compare = 0 }; lkey = 16777218; local = 4096; signaled = true; fence = false })) 0
    ∷ steps.Atom (object word_a word_q)
    ∷ steps.Expire (object word_a word_q)
    ∷ steps.Tell (object word_a word_q)
    ∷ steps.Verb (Poll (object word_a word_c) 4) 0
    ∷ steps.Verb (Load (object word_a word_m) 4096 8) 0
    ∷ steps.Verb (Load (object word_b word_n) 8192 8) 0
    ∷ []

abbrev pub one_atomic_heard : List (Verb × Answer)
one_atomic_heard =
    (PostSend (object word_a word_q) (record { id = 1; shape = record { kind = kinds.FetchAdd; length = 8; remote = 8192; rkey = 33554435; imm = None; swap_add = 5; compare = 0 }; lkey = 16777218; local = 4096; signaled = true; fence = false }), answers.Done)
    ∷ (Poll (object word_a word_c) 4, answers.Polled (record { qp = 65537; id = 1; kind = wc_kinds.FetchAdd; status = statuses.Success; length = 8; imm = None } ∷ []))
    ∷ (Load (object word_a word_m) 4096 8, answers.Bytes (0 ∷ 0 ∷ 0 ∷ 0 ∷ 0 ∷ 0 ∷ 0 ∷ 0 ∷ []))
    ∷ (Load (object word_b word_n) 8192 8, answers.Bytes (0 ∷ 0 ∷ 0 ∷ 0 ∷ 0 ∷ 0 ∷ 0 ∷ 5 ∷ []))
    ∷ []

abbrev pub fenced_after_a_read : List MachineStep
fenced_after_a_read =
    steps.Verb (PostSend (object word_a word_q) (record { id = 1; shape = record { kind = kinds.Read; length = 4; remote = 8192; rkey = 33554435; imm = None; swap_add = 0; compare = 0 }; lkey = 16777218; local = 4096; signaled = true; fence = false })) 0
    ∷ steps.Verb (PostSend (object word_a word_q) (record { id = 2; shape = record { kind = kinds.Write; length = 4; remote = 8196; rkey = 33554435; imm = None; swap_add = 0; compare = 0 }; lkey = 16777218; local = 4100; signaled = true; fence = true })) 0
    ∷ steps.ReadTurn (object word_a word_q)
    ∷ steps.Offer (object word_a word_q) 0 0 4
    ∷ steps.Land (object word_a word_q) 0
    ∷ steps.Tell (object word_a word_q)
    ∷ steps.Run (object word_a word_q) 4
    ∷ steps.Tell (object word_a word_q)
    ∷ steps.Verb (Poll (object word_a word_c) 4) 0
    ∷ []

abbrev pub fenced_after_a_read_heard : List (Verb × Answer)
fenced_after_a_read_heard =
    (PostSend (object word_a word_q) (record { id = 1; shape = record { kind = kinds.Read; length = 4; remote = 8192; rkey = 33554435; imm = None; swap_add = 0; compare = 0 }; lkey = 16777218; local = 4096; signaled = true; fence = false }), answers.Done)
    ∷ (PostSend (object word_a word_q) (record { id = 2; shape = record { kind = kinds.Write; length = 4; remote = 8196; rkey = 33554435; imm = None; swap_add = 0; compare = 0 }; lkey = 16777218; local = 4100; signaled = true; fence = true }), answers.Done)
    ∷ (Poll (object word_a word_c) 4, answers.Polled (record { qp = 65537; id = 1; kind = wc_kinds.Read; status = statuses.Success; length = 4; imm = None } ∷ record { qp = 65537; id = 2; kind = wc_kinds.Write; status = statuses.Success; length = 4; imm = None } ∷ []))
    ∷ []

abbrev pub refused_access : List MachineStep
refused_access =
    steps.Verb (PostSend (object word_a word_q) (record { id = 1; shape = record { kind = kinds.Write; length = 2; remote = 8255; rkey = 33554435; imm = None; swap_add = 0; compare = 0 }; lkey = 16777218; local = 4096; signaled = true; fence = false })) 0
    ∷ steps.Refuse (object word_a word_q) whys.Access
    ∷ steps.Bounce (object word_a word_q)
    ∷ steps.Verb (Poll (object word_a word_c) 4) 0
    ∷ steps.Verb (Load (object word_b word_n) 8255 1) 0
    ∷ []

abbrev pub refused_access_heard : List (Verb × Answer)
refused_access_heard =
    (PostSend (object word_a word_q) (record { id = 1; shape = record { kind = kinds.Write; length = 2; remote = 8255; rkey = 33554435; imm = None; swap_add = 0; compare = 0 }; lkey = 16777218; local = 4096; signaled = true; fence = false }), answers.Done)
    ∷ (Poll (object word_a word_c) 4, answers.Polled (record { qp = 65537; id = 1; kind = wc_kinds.Write; status = statuses.RemoteAccess; length = 0; imm = None } ∷ []))
    ∷ (Load (object word_b word_n) 8255 1, answers.Bytes (0 ∷ []))
    ∷ []

abbrev pub too_long_send : List MachineStep
too_long_send =
    steps.Verb (PostRecv (object word_b word_q) (record { id = 9; lkey = 33554434; local = 8192; length = 2 })) 0
    ∷ steps.Verb (PostSend (object word_a word_q) (record { id = 1; shape = record { kind = kinds.Send; length = 4; remote = 0; rkey = 0; imm = None; swap_add = 0; compare = 0 }; lkey = 16777218; local = 4096; signaled = true; fence = false })) 0
    ∷ steps.Refuse (object word_a word_q) whys.Length
    ∷ steps.Bounce (object word_a word_q)
    ∷ steps.Verb (Poll (object word_b word_c) 4) 0
    ∷ []

abbrev pub too_long_send_heard : List (Verb × Answer)
too_long_send_heard =
    (PostRecv (object word_b word_q) (record { id = 9; lkey = 33554434; local = 8192; length = 2 }), answers.Done)
    ∷ (PostSend (object word_a word_q) (record { id = 1; shape = record { kind = kinds.Send; length = 4; remote = 0; rkey = 0; imm = None; swap_add = 0; compare = 0 }; lkey = 16777218; local = 4096; signaled = true; fence = false }), answers.Done)
    ∷ (Poll (object word_b word_c) 4, answers.Polled (record { qp = 131073; id = 9; kind = wc_kinds.Recv; status = statuses.LocalLength; length = 0; imm = None } ∷ []))
    ∷ []

abbrev pub send_with_immediate : List MachineStep
send_with_immediate =
    steps.Verb (PostRecv (object word_b word_q) (record { id = 9; lkey = 33554434; local = 8192; length = 8 })) 0
    ∷ steps.Verb (PostSend (object word_a word_q) (record { id = 1; shape = record { kind = kinds.Send; length = 4; remote = 0; rkey = 0; imm = (Some 42); swap_add = 0; compare = 0 }; lkey = 16777218; local = 4096; signaled = true; fence = false })) 0
    ∷ steps.Run (object word_a word_q) 4
    ∷ steps.Tell (object word_a word_q)
    ∷ steps.Verb (Poll (object word_b word_c) 4) 0
    ∷ steps.Verb (PostSend (object word_a word_q) (record { id = 2; shape = record { kind = kinds.Read; length = 4; remote = 8192; rkey = 33554435; imm = None; swap_add = 0; compare = 0 }; lkey = 16777218; local = 4096; signaled = true; fence = false })) 0
    ∷ steps.ReadTurn (object word_a word_q)
    ∷ steps.Offer (object word_a word_q) 1 0 4
    ∷ steps.Land (object word_a word_q) 0
    ∷ steps.Tell (object word_a word_q)
    ∷ []

abbrev pub send_with_immediate_heard : List (Verb × Answer)
send_with_immediate_heard =
    (PostRecv (object word_b word_q) (record { id = 9; lkey = 33554434; local = 8192; length = 8 }), answers.Done)
    ∷ (PostSend (object word_a word_q) (record { id = 1; shape = record { kind = kinds.Send; length = 4; remote = 0; rkey = 0; imm = (Some 42); swap_add = 0; compare = 0 }; lkey = 16777218; local = 4096; signaled = true; fence = false }), answers.Done)
    ∷ (Poll (object word_b word_c) 4, answers.Polled (record { qp = 131073; id = 9; kind = wc_kinds.Recv; status = statuses.Success; length = 4; imm = Some 42 } ∷ []))
    ∷ (PostSend (object word_a word_q) (record { id = 2; shape = record { kind = kinds.Read; length = 4; remote = 8192; rkey = 33554435; imm = None; swap_add = 0; compare = 0 }; lkey = 16777218; local = 4096; signaled = true; fence = false }), answers.Done)
    ∷ []

abbrev pub shared_queue : List MachineStep
shared_queue =
    steps.Verb (Context word_a true) 0
    ∷ steps.Verb (Context word_b true) 0
    ∷ steps.Verb (MakeDomain (object word_a word_p)) 0
    ∷ steps.Verb (MakeDomain (object word_b word_p)) 0
    ∷ steps.Verb (MakeRegion (object word_a word_m) (Some word_p) 4096 64 (record { 0 = 15 })) 16777218
    ∷ steps.Verb (MakeRegion (object word_b word_n) (Some word_p) 8192 64 (record { 0 = 15 })) 33554434
    ∷ steps.Verb (MakeCq (object word_a word_c) 1) 0
    ∷ steps.Verb (MakeCq (object word_b word_c) 16) 0
    ∷ steps.Verb (MakeQp (object word_a word_q) (Some word_p) (Some word_c) (Some word_c) 8 8) 65537
    ∷ steps.Verb (MakeQp (object word_b word_q) (Some word_p) (Some word_c) (Some word_c) 8 8) 131073
    ∷ steps.Verb (Connect (object word_a word_q) (object word_b word_q) (record { mtu = 256; own_start = 100; peer_start = 200; retry = 7; rnr = 7; reads = 4 })) 0
    ∷ steps.Verb (MakeQp (object word_a word_r) (Some word_p) (Some word_c) (Some word_c) 8 8) 65538
    ∷ steps.Verb (MakeQp (object word_b word_r) (Some word_p) (Some word_c) (Some word_c) 8 8) 131074
    ∷ steps.Verb (Connect (object word_a word_r) (object word_b word_r) (record { mtu = 256; own_start = 100; peer_start = 200; retry = 7; rnr = 7; reads = 4 })) 0
    ∷ steps.Verb (PostSend (object word_a word_q) (record { id = 1; shape = record { kind = kinds.Write; length = 4; remote = 8192; rkey = 33554435; imm = None; swap_add = 0; compare = 0 }; lkey = 16777218; local = 4096; signaled = true; fence = false })) 0
    ∷ steps.Verb (PostSend (object word_a word_r) (record { id = 1; shape = record { kind = kinds.Write; length = 4; remote = 8192; rkey = 33554435; imm = None; swap_add = 0; compare = 0 }; lkey = 16777218; local = 4096; signaled = true; fence = false })) 0
    ∷ steps.Run (object word_a word_q) 4
    ∷ steps.Tell (object word_a word_q)
    ∷ steps.Verb (PostSend (object word_a word_r) (record { id = 1; shape = record { kind = kinds.Write; length = 4; remote = 8192; rkey = 33554435; imm = None; swap_add = 0; compare = 0 }; lkey = 16777218; local = 4096; signaled = true; fence = false })) 0
    ∷ steps.Verb (Poll (object word_a word_c) 4) 0
    ∷ steps.Verb (PostSend (object word_a word_r) (record { id = 1; shape = record { kind = kinds.Write; length = 4; remote = 8192; rkey = 33554435; imm = None; swap_add = 0; compare = 0 }; lkey = 16777218; local = 4096; signaled = true; fence = false })) 0
    ∷ []

abbrev pub shared_queue_heard : List (Verb × Answer)
shared_queue_heard =
    (Context word_a true, answers.Done)
    ∷ (Context word_b true, answers.Done)
    ∷ (MakeDomain (object word_a word_p), answers.Done)
    ∷ (MakeDomain (object word_b word_p), answers.Done)
    ∷ (MakeRegion (object word_a word_m) (Some word_p) 4096 64 (record { 0 = 15 }), answers.Region (record { local = 16777218; remote = 16777219 }))
    ∷ (MakeRegion (object word_b word_n) (Some word_p) 8192 64 (record { 0 = 15 }), answers.Region (record { local = 33554434; remote = 33554435 }))
    ∷ (MakeCq (object word_a word_c) 1, answers.Done)
    ∷ (MakeCq (object word_b word_c) 16, answers.Done)
    ∷ (MakeQp (object word_a word_q) (Some word_p) (Some word_c) (Some word_c) 8 8, answers.Qp 65537)
    ∷ (MakeQp (object word_b word_q) (Some word_p) (Some word_c) (Some word_c) 8 8, answers.Qp 131073)
    ∷ (Connect (object word_a word_q) (object word_b word_q) (record { mtu = 256; own_start = 100; peer_start = 200; retry = 7; rnr = 7; reads = 4 }), answers.Done)
    ∷ (MakeQp (object word_a word_r) (Some word_p) (Some word_c) (Some word_c) 8 8, answers.Qp 65538)
    ∷ (MakeQp (object word_b word_r) (Some word_p) (Some word_c) (Some word_c) 8 8, answers.Qp 131074)
    ∷ (Connect (object word_a word_r) (object word_b word_r) (record { mtu = 256; own_start = 100; peer_start = 200; retry = 7; rnr = 7; reads = 4 }), answers.Done)
    ∷ (PostSend (object word_a word_q) (record { id = 1; shape = record { kind = kinds.Write; length = 4; remote = 8192; rkey = 33554435; imm = None; swap_add = 0; compare = 0 }; lkey = 16777218; local = 4096; signaled = true; fence = false }), answers.Done)
    ∷ (PostSend (object word_a word_r) (record { id = 1; shape = record { kind = kinds.Write; length = 4; remote = 8192; rkey = 33554435; imm = None; swap_add = 0; compare = 0 }; lkey = 16777218; local = 4096; signaled = true; fence = false }), answers.Refused refusals.CqFull)
    ∷ (PostSend (object word_a word_r) (record { id = 1; shape = record { kind = kinds.Write; length = 4; remote = 8192; rkey = 33554435; imm = None; swap_add = 0; compare = 0 }; lkey = 16777218; local = 4096; signaled = true; fence = false }), answers.Refused refusals.CqFull)
    ∷ (Poll (object word_a word_c) 4, answers.Polled (record { qp = 65537; id = 1; kind = wc_kinds.Write; status = statuses.Success; length = 4; imm = None } ∷ []))
    ∷ (PostSend (object word_a word_r) (record { id = 1; shape = record { kind = kinds.Write; length = 4; remote = 8192; rkey = 33554435; imm = None; swap_add = 0; compare = 0 }; lkey = 16777218; local = 4096; signaled = true; fence = false }), answers.Done)
    ∷ []

abbrev pub in_use : List MachineStep
in_use =
    steps.Verb (PostSend (object word_a word_q) (record { id = 1; shape = record { kind = kinds.Write; length = 0; remote = 0; rkey = 57005; imm = None; swap_add = 0; compare = 0 }; lkey = 0; local = 0; signaled = true; fence = false })) 0
    ∷ steps.Run (object word_a word_q) 0
    ∷ steps.Tell (object word_a word_q)
    ∷ steps.Verb (Poll (object word_a word_c) 4) 0
    ∷ steps.Verb (PostSend (object word_a word_q) (record { id = 1; shape = record { kind = kinds.Write; length = 4; remote = 8192; rkey = 33554435; imm = None; swap_add = 0; compare = 0 }; lkey = 16777218; local = 4096; signaled = true; fence = false })) 0
    ∷ steps.Verb (DropRegion (object word_a word_m)) 0
    ∷ []

abbrev pub in_use_heard : List (Verb × Answer)
in_use_heard =
    (PostSend (object word_a word_q) (record { id = 1; shape = record { kind = kinds.Write; length = 0; remote = 0; rkey = 57005; imm = None; swap_add = 0; compare = 0 }; lkey = 0; local = 0; signaled = true; fence = false }), answers.Done)
    ∷ (Poll (object word_a word_c) 4, answers.Polled (record { qp = 65537; id = 1; kind = wc_kinds.Write; status = statuses.Success; length = 0; imm = None } ∷ []))
    ∷ (PostSend (object word_a word_q) (record { id = 1; shape = record { kind = kinds.Write; length = 4; remote = 8192; rkey = 33554435; imm = None; swap_add = 0; compare = 0 }; lkey = 16777218; local = 4096; signaled = true; fence = false }), answers.Done)
    ∷ (DropRegion (object word_a word_m), answers.Refused refusals.InUse)
    ∷ []
