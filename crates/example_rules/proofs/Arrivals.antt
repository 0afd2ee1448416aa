-- The steps that arriving requests carry, as the machine is when they arrive.
use Rattle.std.specs.Prelude.{◌≡◌, refl, [], ◌∷◌, true, false, Some, None}
use Rattle.rdma_types.specs.declared.requests.Kind.TheVariants as kinds
use Rattle.rdma_types.specs.declared.answers.RefusalReason.TheVariants as whys
use Rattle.rdma_types.specs.declared.verbs.Verb.TheVariants.{Context, Connect, MakeDomain, MakeRegion, MakeCq, MakeQp, Store, PostSend, PostRecv}
use Rattle.packetless_machine.specs.Machine.{empty}
use Rattle.packetless_machine.specs.Evaluate.{ran_to}
use Rattle.law_simulation.specs.Carries as carries
use Rattle.example_rules.specs.MachineOpening.{object, word_a, word_b, word_c, word_m, word_n, word_p, word_q}
use Rattle.example_rules.specs.RelationOpening.{a_q, b_q}
use Rattle.packetless_machine.specs.declared.steps.MachineStep.TheVariants as steps

pub arrival_1 : carries.request_steps (ran_to empty (steps.Verb (Context word_a true) 0 ∷ steps.Verb (Context word_b true) 0 ∷ steps.Verb (MakeDomain (object word_a word_p)) 0 ∷ steps.Verb (MakeDomain (object word_b word_p)) 0 ∷ steps.Verb (MakeRegion (object word_a word_m) (Some word_p) 4096 320 (record { 0 = 15 })) 16777218 ∷ steps.Verb (MakeRegion (object word_b word_n) (Some word_p) 8192 320 (record { 0 = 15 })) 33554434 ∷ steps.Verb (MakeCq (object word_a word_c) 16) 0 ∷ steps.Verb (MakeCq (object word_b word_c) 16) 0 ∷ steps.Verb (MakeQp (object word_a word_q) (Some word_p) (Some word_c) (Some word_c) 8 8) 65537 ∷ steps.Verb (MakeQp (object word_b word_q) (Some word_p) (Some word_c) (Some word_c) 8 8) 131073 ∷ steps.Verb (Connect (object word_a word_q) (object word_b word_q) (record { mtu = 256; own_start = 100; peer_start = 16777215; retry = 7; rnr = 7; reads = 4 })) 0 ∷ steps.Verb (Store (object word_a word_m) 4096 (222 ∷ 173 ∷ 190 ∷ 239 ∷ [])) 0 ∷ steps.Verb (PostSend (object word_a word_q) (record { id = 1; shape = record { kind = kinds.Write; length = 300; remote = 8192; rkey = 33554435; imm = None; swap_add = 0; compare = 0 }; lkey = 16777218; local = 4096; signaled = true; fence = false })) 0 ∷ steps.Verb (PostSend (object word_a word_q) (record { id = 2; shape = record { kind = kinds.FetchAdd; length = 8; remote = 8192; rkey = 33554435; imm = None; swap_add = 5; compare = 0 }; lkey = 16777218; local = 4096; signaled = true; fence = false })) 0 ∷ steps.Verb (PostRecv (object word_b word_q) (record { id = 9; lkey = 33554434; local = 8192; length = 16 })) 0 ∷ [])) a_q 0 256 ≡ (steps.Run (object word_a word_q) 256 ∷ [])
unfolding ran_to carries.offers_from carries.offers_of carries.due_steps carries.is_rest_granted carries.repeat_steps carries.request_steps carries.land_steps carries.tell_steps carries.is_at carries.is_taken carries.is_counted carries.expire_steps
arrival_1 = refl

pub arrival_2 : carries.request_steps (ran_to empty (steps.Verb (Context word_a true) 0 ∷ steps.Verb (Context word_b true) 0 ∷ steps.Verb (MakeDomain (object word_a word_p)) 0 ∷ steps.Verb (MakeDomain (object word_b word_p)) 0 ∷ steps.Verb (MakeRegion (object word_a word_m) (Some word_p) 4096 320 (record { 0 = 15 })) 16777218 ∷ steps.Verb (MakeRegion (object word_b word_n) (Some word_p) 8192 320 (record { 0 = 15 })) 33554434 ∷ steps.Verb (MakeCq (object word_a word_c) 16) 0 ∷ steps.Verb (MakeCq (object word_b word_c) 16) 0 ∷ steps.Verb (MakeQp (object word_a word_q) (Some word_p) (Some word_c) (Some word_c) 8 8) 65537 ∷ steps.Verb (MakeQp (object word_b word_q) (Some word_p) (Some word_c) (Some word_c) 8 8) 131073 ∷ steps.Verb (Connect (object word_a word_q) (object word_b word_q) (record { mtu = 256; own_start = 100; peer_start = 16777215; retry = 7; rnr = 7; reads = 4 })) 0 ∷ steps.Verb (Store (object word_a word_m) 4096 (222 ∷ 173 ∷ 190 ∷ 239 ∷ [])) 0 ∷ steps.Verb (PostSend (object word_a word_q) (record { id = 1; shape = record { kind = kinds.Write; length = 300; remote = 8192; rkey = 33554435; imm = None; swap_add = 0; compare = 0 }; lkey = 16777218; local = 4096; signaled = true; fence = false })) 0 ∷ steps.Verb (PostSend (object word_a word_q) (record { id = 2; shape = record { kind = kinds.FetchAdd; length = 8; remote = 8192; rkey = 33554435; imm = None; swap_add = 5; compare = 0 }; lkey = 16777218; local = 4096; signaled = true; fence = false })) 0 ∷ steps.Verb (PostRecv (object word_b word_q) (record { id = 9; lkey = 33554434; local = 8192; length = 16 })) 0 ∷ steps.Run (object word_a word_q) 256 ∷ [])) a_q 0 256 ≡ []
unfolding ran_to carries.offers_from carries.offers_of carries.due_steps carries.is_rest_granted carries.repeat_steps carries.request_steps carries.land_steps carries.tell_steps carries.is_at carries.is_taken carries.is_counted carries.expire_steps
arrival_2 = refl

pub arrival_3 : carries.request_steps (ran_to empty (steps.Verb (Context word_a true) 0 ∷ steps.Verb (Context word_b true) 0 ∷ steps.Verb (MakeDomain (object word_a word_p)) 0 ∷ steps.Verb (MakeDomain (object word_b word_p)) 0 ∷ steps.Verb (MakeRegion (object word_a word_m) (Some word_p) 4096 320 (record { 0 = 15 })) 16777218 ∷ steps.Verb (MakeRegion (object word_b word_n) (Some word_p) 8192 320 (record { 0 = 15 })) 33554434 ∷ steps.Verb (MakeCq (object word_a word_c) 16) 0 ∷ steps.Verb (MakeCq (object word_b word_c) 16) 0 ∷ steps.Verb (MakeQp (object word_a word_q) (Some word_p) (Some word_c) (Some word_c) 8 8) 65537 ∷ steps.Verb (MakeQp (object word_b word_q) (Some word_p) (Some word_c) (Some word_c) 8 8) 131073 ∷ steps.Verb (Connect (object word_a word_q) (object word_b word_q) (record { mtu = 256; own_start = 100; peer_start = 16777215; retry = 7; rnr = 7; reads = 4 })) 0 ∷ steps.Verb (Store (object word_a word_m) 4096 (222 ∷ 173 ∷ 190 ∷ 239 ∷ [])) 0 ∷ steps.Verb (PostSend (object word_a word_q) (record { id = 1; shape = record { kind = kinds.Write; length = 300; remote = 8192; rkey = 33554435; imm = None; swap_add = 0; compare = 0 }; lkey = 16777218; local = 4096; signaled = true; fence = false })) 0 ∷ steps.Verb (PostSend (object word_a word_q) (record { id = 2; shape = record { kind = kinds.FetchAdd; length = 8; remote = 8192; rkey = 33554435; imm = None; swap_add = 5; compare = 0 }; lkey = 16777218; local = 4096; signaled = true; fence = false })) 0 ∷ steps.Verb (PostRecv (object word_b word_q) (record { id = 9; lkey = 33554434; local = 8192; length = 16 })) 0 ∷ steps.Run (object word_a word_q) 256 ∷ steps.Known (object word_a word_q) 256 ∷ [])) a_q 1 44 ≡ (steps.Run (object word_a word_q) 44 ∷ [])
unfolding ran_to carries.offers_from carries.offers_of carries.due_steps carries.is_rest_granted carries.repeat_steps carries.request_steps carries.land_steps carries.tell_steps carries.is_at carries.is_taken carries.is_counted carries.expire_steps
arrival_3 = refl

pub arrival_4 : carries.request_steps (ran_to empty (steps.Verb (Context word_a true) 0 ∷ steps.Verb (Context word_b true) 0 ∷ steps.Verb (MakeDomain (object word_a word_p)) 0 ∷ steps.Verb (MakeDomain (object word_b word_p)) 0 ∷ steps.Verb (MakeRegion (object word_a word_m) (Some word_p) 4096 320 (record { 0 = 15 })) 16777218 ∷ steps.Verb (MakeRegion (object word_b word_n) (Some word_p) 8192 320 (record { 0 = 15 })) 33554434 ∷ steps.Verb (MakeCq (object word_a word_c) 16) 0 ∷ steps.Verb (MakeCq (object word_b word_c) 16) 0 ∷ steps.Verb (MakeQp (object word_a word_q) (Some word_p) (Some word_c) (Some word_c) 8 8) 65537 ∷ steps.Verb (MakeQp (object word_b word_q) (Some word_p) (Some word_c) (Some word_c) 8 8) 131073 ∷ steps.Verb (Connect (object word_a word_q) (object word_b word_q) (record { mtu = 256; own_start = 100; peer_start = 16777215; retry = 7; rnr = 7; reads = 4 })) 0 ∷ steps.Verb (Store (object word_a word_m) 4096 (222 ∷ 173 ∷ 190 ∷ 239 ∷ [])) 0 ∷ steps.Verb (PostSend (object word_a word_q) (record { id = 1; shape = record { kind = kinds.Write; length = 300; remote = 8192; rkey = 33554435; imm = None; swap_add = 0; compare = 0 }; lkey = 16777218; local = 4096; signaled = true; fence = false })) 0 ∷ steps.Verb (PostSend (object word_a word_q) (record { id = 2; shape = record { kind = kinds.FetchAdd; length = 8; remote = 8192; rkey = 33554435; imm = None; swap_add = 5; compare = 0 }; lkey = 16777218; local = 4096; signaled = true; fence = false })) 0 ∷ steps.Verb (PostRecv (object word_b word_q) (record { id = 9; lkey = 33554434; local = 8192; length = 16 })) 0 ∷ steps.Run (object word_a word_q) 256 ∷ steps.Known (object word_a word_q) 256 ∷ steps.Run (object word_a word_q) 44 ∷ [])) a_q 2 0 ≡ (steps.Atom (object word_a word_q) ∷ [])
unfolding ran_to carries.offers_from carries.offers_of carries.due_steps carries.is_rest_granted carries.repeat_steps carries.request_steps carries.land_steps carries.tell_steps carries.is_at carries.is_taken carries.is_counted carries.expire_steps
arrival_4 = refl

pub arrival_5 : carries.request_steps (ran_to empty (steps.Verb (Context word_a true) 0 ∷ steps.Verb (Context word_b true) 0 ∷ steps.Verb (MakeDomain (object word_a word_p)) 0 ∷ steps.Verb (MakeDomain (object word_b word_p)) 0 ∷ steps.Verb (MakeRegion (object word_a word_m) (Some word_p) 4096 320 (record { 0 = 15 })) 16777218 ∷ steps.Verb (MakeRegion (object word_b word_n) (Some word_p) 8192 320 (record { 0 = 15 })) 33554434 ∷ steps.Verb (MakeCq (object word_a word_c) 16) 0 ∷ steps.Verb (MakeCq (object word_b word_c) 16) 0 ∷ steps.Verb (MakeQp (object word_a word_q) (Some word_p) (Some word_c) (Some word_c) 8 8) 65537 ∷ steps.Verb (MakeQp (object word_b word_q) (Some word_p) (Some word_c) (Some word_c) 8 8) 131073 ∷ steps.Verb (Connect (object word_a word_q) (object word_b word_q) (record { mtu = 256; own_start = 100; peer_start = 16777215; retry = 7; rnr = 7; reads = 4 })) 0 ∷ steps.Verb (Store (object word_a word_m) 4096 (222 ∷ 173 ∷ 190 ∷ 239 ∷ [])) 0 ∷ steps.Verb (PostSend (object word_a word_q) (record { id = 1; shape = record { kind = kinds.Write; length = 300; remote = 8192; rkey = 33554435; imm = None; swap_add = 0; compare = 0 }; lkey = 16777218; local = 4096; signaled = true; fence = false })) 0 ∷ steps.Verb (PostSend (object word_a word_q) (record { id = 2; shape = record { kind = kinds.FetchAdd; length = 8; remote = 8192; rkey = 33554435; imm = None; swap_add = 5; compare = 0 }; lkey = 16777218; local = 4096; signaled = true; fence = false })) 0 ∷ steps.Verb (PostRecv (object word_b word_q) (record { id = 9; lkey = 33554434; local = 8192; length = 16 })) 0 ∷ steps.Run (object word_a word_q) 256 ∷ steps.Known (object word_a word_q) 256 ∷ steps.Run (object word_a word_q) 44 ∷ steps.Atom (object word_a word_q) ∷ steps.Verb (PostSend (object word_a word_q) (record { id = 3; shape = record { kind = kinds.Read; length = 300; remote = 8192; rkey = 33554435; imm = None; swap_add = 0; compare = 0 }; lkey = 16777218; local = 4096; signaled = true; fence = false })) 0 ∷ steps.Verb (PostSend (object word_a word_q) (record { id = 4; shape = record { kind = kinds.Send; length = 8; remote = 0; rkey = 0; imm = (Some 42); swap_add = 0; compare = 0 }; lkey = 16777218; local = 4096; signaled = true; fence = false })) 0 ∷ steps.Verb (PostSend (object word_a word_q) (record { id = 5; shape = record { kind = kinds.Write; length = 8; remote = 9000; rkey = 33554435; imm = None; swap_add = 0; compare = 0 }; lkey = 16777218; local = 4096; signaled = true; fence = true })) 0 ∷ [])) a_q 3 0 ≡ (steps.ReadTurn (object word_a word_q) ∷ steps.Offer (object word_a word_q) 2 0 256 ∷ steps.Offer (object word_a word_q) 2 256 44 ∷ [])
unfolding ran_to carries.offers_from carries.offers_of carries.due_steps carries.is_rest_granted carries.repeat_steps carries.request_steps carries.land_steps carries.tell_steps carries.is_at carries.is_taken carries.is_counted carries.expire_steps
arrival_5 = refl

pub arrival_6 : carries.request_steps (ran_to empty (steps.Verb (Context word_a true) 0 ∷ steps.Verb (Context word_b true) 0 ∷ steps.Verb (MakeDomain (object word_a word_p)) 0 ∷ steps.Verb (MakeDomain (object word_b word_p)) 0 ∷ steps.Verb (MakeRegion (object word_a word_m) (Some word_p) 4096 320 (record { 0 = 15 })) 16777218 ∷ steps.Verb (MakeRegion (object word_b word_n) (Some word_p) 8192 320 (record { 0 = 15 })) 33554434 ∷ steps.Verb (MakeCq (object word_a word_c) 16) 0 ∷ steps.Verb (MakeCq (object word_b word_c) 16) 0 ∷ steps.Verb (MakeQp (object word_a word_q) (Some word_p) (Some word_c) (Some word_c) 8 8) 65537 ∷ steps.Verb (MakeQp (object word_b word_q) (Some word_p) (Some word_c) (Some word_c) 8 8) 131073 ∷ steps.Verb (Connect (object word_a word_q) (object word_b word_q) (record { mtu = 256; own_start = 100; peer_start = 16777215; retry = 7; rnr = 7; reads = 4 })) 0 ∷ steps.Verb (Store (object word_a word_m) 4096 (222 ∷ 173 ∷ 190 ∷ 239 ∷ [])) 0 ∷ steps.Verb (PostSend (object word_a word_q) (record { id = 1; shape = record { kind = kinds.Write; length = 300; remote = 8192; rkey = 33554435; imm = None; swap_add = 0; compare = 0 }; lkey = 16777218; local = 4096; signaled = true; fence = false })) 0 ∷ steps.Verb (PostSend (object word_a word_q) (record { id = 2; shape = record { kind = kinds.FetchAdd; length = 8; remote = 8192; rkey = 33554435; imm = None; swap_add = 5; compare = 0 }; lkey = 16777218; local = 4096; signaled = true; fence = false })) 0 ∷ steps.Verb (PostRecv (object word_b word_q) (record { id = 9; lkey = 33554434; local = 8192; length = 16 })) 0 ∷ steps.Run (object word_a word_q) 256 ∷ steps.Known (object word_a word_q) 256 ∷ steps.Run (object word_a word_q) 44 ∷ steps.Atom (object word_a word_q) ∷ steps.Verb (PostSend (object word_a word_q) (record { id = 3; shape = record { kind = kinds.Read; length = 300; remote = 8192; rkey = 33554435; imm = None; swap_add = 0; compare = 0 }; lkey = 16777218; local = 4096; signaled = true; fence = false })) 0 ∷ steps.Verb (PostSend (object word_a word_q) (record { id = 4; shape = record { kind = kinds.Send; length = 8; remote = 0; rkey = 0; imm = (Some 42); swap_add = 0; compare = 0 }; lkey = 16777218; local = 4096; signaled = true; fence = false })) 0 ∷ steps.Verb (PostSend (object word_a word_q) (record { id = 5; shape = record { kind = kinds.Write; length = 8; remote = 9000; rkey = 33554435; imm = None; swap_add = 0; compare = 0 }; lkey = 16777218; local = 4096; signaled = true; fence = true })) 0 ∷ steps.ReadTurn (object word_a word_q) ∷ steps.Offer (object word_a word_q) 2 0 256 ∷ steps.Offer (object word_a word_q) 2 256 44 ∷ [])) a_q 5 8 ≡ (steps.Run (object word_a word_q) 8 ∷ [])
unfolding ran_to carries.offers_from carries.offers_of carries.due_steps carries.is_rest_granted carries.repeat_steps carries.request_steps carries.land_steps carries.tell_steps carries.is_at carries.is_taken carries.is_counted carries.expire_steps
arrival_6 = refl

pub arrival_7 : carries.request_steps (ran_to empty (steps.Verb (Context word_a true) 0 ∷ steps.Verb (Context word_b true) 0 ∷ steps.Verb (MakeDomain (object word_a word_p)) 0 ∷ steps.Verb (MakeDomain (object word_b word_p)) 0 ∷ steps.Verb (MakeRegion (object word_a word_m) (Some word_p) 4096 64 (record { 0 = 15 })) 16777218 ∷ steps.Verb (MakeRegion (object word_b word_n) (Some word_p) 8192 64 (record { 0 = 15 })) 33554434 ∷ steps.Verb (MakeCq (object word_a word_c) 16) 0 ∷ steps.Verb (MakeCq (object word_b word_c) 16) 0 ∷ steps.Verb (MakeQp (object word_a word_q) (Some word_p) (Some word_c) (Some word_c) 8 8) 65537 ∷ steps.Verb (MakeQp (object word_b word_q) (Some word_p) (Some word_c) (Some word_c) 8 8) 131073 ∷ steps.Verb (Connect (object word_a word_q) (object word_b word_q) (record { mtu = 256; own_start = 100; peer_start = 16777215; retry = 1; rnr = 1; reads = 4 })) 0 ∷ steps.Verb (PostSend (object word_a word_q) (record { id = 1; shape = record { kind = kinds.Send; length = 4; remote = 0; rkey = 0; imm = None; swap_add = 0; compare = 0 }; lkey = 16777218; local = 4096; signaled = true; fence = false })) 0 ∷ [])) a_q 0 4 ≡ (steps.Dry (object word_a word_q) ∷ [])
unfolding ran_to carries.offers_from carries.offers_of carries.due_steps carries.is_rest_granted carries.repeat_steps carries.request_steps carries.land_steps carries.tell_steps carries.is_at carries.is_taken carries.is_counted carries.expire_steps
arrival_7 = refl

pub arrival_8 : carries.request_steps (ran_to empty (steps.Verb (Context word_a true) 0 ∷ steps.Verb (Context word_b true) 0 ∷ steps.Verb (MakeDomain (object word_a word_p)) 0 ∷ steps.Verb (MakeDomain (object word_b word_p)) 0 ∷ steps.Verb (MakeRegion (object word_a word_m) (Some word_p) 4096 64 (record { 0 = 15 })) 16777218 ∷ steps.Verb (MakeRegion (object word_b word_n) (Some word_p) 8192 64 (record { 0 = 15 })) 33554434 ∷ steps.Verb (MakeCq (object word_a word_c) 16) 0 ∷ steps.Verb (MakeCq (object word_b word_c) 16) 0 ∷ steps.Verb (MakeQp (object word_a word_q) (Some word_p) (Some word_c) (Some word_c) 8 8) 65537 ∷ steps.Verb (MakeQp (object word_b word_q) (Some word_p) (Some word_c) (Some word_c) 8 8) 131073 ∷ steps.Verb (Connect (object word_a word_q) (object word_b word_q) (record { mtu = 256; own_start = 100; peer_start = 16777215; retry = 1; rnr = 1; reads = 4 })) 0 ∷ steps.Verb (PostSend (object word_a word_q) (record { id = 1; shape = record { kind = kinds.Send; length = 4; remote = 0; rkey = 0; imm = None; swap_add = 0; compare = 0 }; lkey = 16777218; local = 4096; signaled = true; fence = false })) 0 ∷ steps.Dry (object word_a word_q) ∷ steps.Wait (object word_a word_q) ∷ steps.Verb (PostRecv (object word_b word_q) (record { id = 9; lkey = 33554434; local = 8192; length = 2 })) 0 ∷ steps.Verb (PostRecv (object word_b word_q) (record { id = 10; lkey = 33554434; local = 8192; length = 2 })) 0 ∷ steps.Verb (PostSend (object word_b word_q) (record { id = 5; shape = record { kind = kinds.Send; length = 4; remote = 0; rkey = 0; imm = None; swap_add = 0; compare = 0 }; lkey = 33554434; local = 8192; signaled = true; fence = false })) 0 ∷ steps.Verb (PostSend (object word_a word_q) (record { id = 2; shape = record { kind = kinds.Write; length = 2; remote = 8255; rkey = 33554435; imm = None; swap_add = 0; compare = 0 }; lkey = 16777218; local = 4096; signaled = true; fence = false })) 0 ∷ [])) a_q 0 4 ≡ (steps.Refuse (object word_a word_q) whys.Length ∷ [])
unfolding ran_to carries.offers_from carries.offers_of carries.due_steps carries.is_rest_granted carries.repeat_steps carries.request_steps carries.land_steps carries.tell_steps carries.is_at carries.is_taken carries.is_counted carries.expire_steps
arrival_8 = refl

pub arrival_9 : carries.request_steps (ran_to empty (steps.Verb (Context word_a true) 0 ∷ steps.Verb (Context word_b true) 0 ∷ steps.Verb (MakeDomain (object word_a word_p)) 0 ∷ steps.Verb (MakeDomain (object word_b word_p)) 0 ∷ steps.Verb (MakeRegion (object word_a word_m) (Some word_p) 4096 64 (record { 0 = 15 })) 16777218 ∷ steps.Verb (MakeRegion (object word_b word_n) (Some word_p) 8192 64 (record { 0 = 15 })) 33554434 ∷ steps.Verb (MakeCq (object word_a word_c) 16) 0 ∷ steps.Verb (MakeCq (object word_b word_c) 16) 0 ∷ steps.Verb (MakeQp (object word_a word_q) (Some word_p) (Some word_c) (Some word_c) 8 8) 65537 ∷ steps.Verb (MakeQp (object word_b word_q) (Some word_p) (Some word_c) (Some word_c) 8 8) 131073 ∷ steps.Verb (Connect (object word_a word_q) (object word_b word_q) (record { mtu = 256; own_start = 100; peer_start = 16777215; retry = 1; rnr = 1; reads = 4 })) 0 ∷ steps.Verb (PostSend (object word_a word_q) (record { id = 1; shape = record { kind = kinds.Write; length = 4; remote = 8192; rkey = 33554435; imm = None; swap_add = 0; compare = 0 }; lkey = 16777218; local = 4096; signaled = true; fence = false })) 0 ∷ steps.Verb (PostSend (object word_a word_q) (record { id = 2; shape = record { kind = kinds.Write; length = 4; remote = 8200; rkey = 33554435; imm = (Some 1); swap_add = 0; compare = 0 }; lkey = 16777218; local = 4096; signaled = true; fence = false })) 0 ∷ steps.Verb (PostSend (object word_b word_q) (record { id = 3; shape = record { kind = kinds.Write; length = 2; remote = 4200; rkey = 16777219; imm = None; swap_add = 0; compare = 0 }; lkey = 33554434; local = 8192; signaled = true; fence = false })) 0 ∷ [])) a_q 1 4 ≡ []
unfolding ran_to carries.offers_from carries.offers_of carries.due_steps carries.is_rest_granted carries.repeat_steps carries.request_steps carries.land_steps carries.tell_steps carries.is_at carries.is_taken carries.is_counted carries.expire_steps
arrival_9 = refl

pub arrival_10 : carries.request_steps (ran_to empty (steps.Verb (Context word_a true) 0 ∷ steps.Verb (Context word_b true) 0 ∷ steps.Verb (MakeDomain (object word_a word_p)) 0 ∷ steps.Verb (MakeDomain (object word_b word_p)) 0 ∷ steps.Verb (MakeRegion (object word_a word_m) (Some word_p) 4096 64 (record { 0 = 15 })) 16777218 ∷ steps.Verb (MakeRegion (object word_b word_n) (Some word_p) 8192 64 (record { 0 = 15 })) 33554434 ∷ steps.Verb (MakeCq (object word_a word_c) 16) 0 ∷ steps.Verb (MakeCq (object word_b word_c) 16) 0 ∷ steps.Verb (MakeQp (object word_a word_q) (Some word_p) (Some word_c) (Some word_c) 8 8) 65537 ∷ steps.Verb (MakeQp (object word_b word_q) (Some word_p) (Some word_c) (Some word_c) 8 8) 131073 ∷ steps.Verb (Connect (object word_a word_q) (object word_b word_q) (record { mtu = 256; own_start = 100; peer_start = 16777215; retry = 1; rnr = 1; reads = 4 })) 0 ∷ steps.Verb (PostSend (object word_a word_q) (record { id = 1; shape = record { kind = kinds.Write; length = 4; remote = 8192; rkey = 33554435; imm = None; swap_add = 0; compare = 0 }; lkey = 16777218; local = 4096; signaled = true; fence = false })) 0 ∷ steps.Verb (PostSend (object word_a word_q) (record { id = 2; shape = record { kind = kinds.Write; length = 4; remote = 8200; rkey = 33554435; imm = (Some 1); swap_add = 0; compare = 0 }; lkey = 16777218; local = 4096; signaled = true; fence = false })) 0 ∷ steps.Verb (PostSend (object word_b word_q) (record { id = 3; shape = record { kind = kinds.Write; length = 2; remote = 4200; rkey = 16777219; imm = None; swap_add = 0; compare = 0 }; lkey = 33554434; local = 8192; signaled = true; fence = false })) 0 ∷ [])) a_q 0 4 ≡ (steps.Run (object word_a word_q) 4 ∷ [])
unfolding ran_to carries.offers_from carries.offers_of carries.due_steps carries.is_rest_granted carries.repeat_steps carries.request_steps carries.land_steps carries.tell_steps carries.is_at carries.is_taken carries.is_counted carries.expire_steps
arrival_10 = refl

pub arrival_11 : carries.request_steps (ran_to empty (steps.Verb (Context word_a true) 0 ∷ steps.Verb (Context word_b true) 0 ∷ steps.Verb (MakeDomain (object word_a word_p)) 0 ∷ steps.Verb (MakeDomain (object word_b word_p)) 0 ∷ steps.Verb (MakeRegion (object word_a word_m) (Some word_p) 4096 64 (record { 0 = 15 })) 16777218 ∷ steps.Verb (MakeRegion (object word_b word_n) (Some word_p) 8192 64 (record { 0 = 15 })) 33554434 ∷ steps.Verb (MakeCq (object word_a word_c) 16) 0 ∷ steps.Verb (MakeCq (object word_b word_c) 16) 0 ∷ steps.Verb (MakeQp (object word_a word_q) (Some word_p) (Some word_c) (Some word_c) 8 8) 65537 ∷ steps.Verb (MakeQp (object word_b word_q) (Some word_p) (Some word_c) (Some word_c) 8 8) 131073 ∷ steps.Verb (Connect (object word_a word_q) (object word_b word_q) (record { mtu = 256; own_start = 100; peer_start = 16777215; retry = 1; rnr = 1; reads = 4 })) 0 ∷ steps.Verb (PostSend (object word_a word_q) (record { id = 1; shape = record { kind = kinds.Write; length = 4; remote = 8192; rkey = 33554435; imm = None; swap_add = 0; compare = 0 }; lkey = 16777218; local = 4096; signaled = true; fence = false })) 0 ∷ steps.Verb (PostSend (object word_a word_q) (record { id = 2; shape = record { kind = kinds.Write; length = 4; remote = 8200; rkey = 33554435; imm = (Some 1); swap_add = 0; compare = 0 }; lkey = 16777218; local = 4096; signaled = true; fence = false })) 0 ∷ steps.Verb (PostSend (object word_b word_q) (record { id = 3; shape = record { kind = kinds.Write; length = 2; remote = 4200; rkey = 16777219; imm = None; swap_add = 0; compare = 0 }; lkey = 33554434; local = 8192; signaled = true; fence = false })) 0 ∷ steps.Run (object word_a word_q) 4 ∷ [])) a_q 0 4 ≡ []
unfolding ran_to carries.offers_from carries.offers_of carries.due_steps carries.is_rest_granted carries.repeat_steps carries.request_steps carries.land_steps carries.tell_steps carries.is_at carries.is_taken carries.is_counted carries.expire_steps
arrival_11 = refl

pub arrival_12 : carries.request_steps (ran_to empty (steps.Verb (Context word_a true) 0 ∷ steps.Verb (Context word_b true) 0 ∷ steps.Verb (MakeDomain (object word_a word_p)) 0 ∷ steps.Verb (MakeDomain (object word_b word_p)) 0 ∷ steps.Verb (MakeRegion (object word_a word_m) (Some word_p) 4096 64 (record { 0 = 15 })) 16777218 ∷ steps.Verb (MakeRegion (object word_b word_n) (Some word_p) 8192 64 (record { 0 = 15 })) 33554434 ∷ steps.Verb (MakeCq (object word_a word_c) 16) 0 ∷ steps.Verb (MakeCq (object word_b word_c) 16) 0 ∷ steps.Verb (MakeQp (object word_a word_q) (Some word_p) (Some word_c) (Some word_c) 8 8) 65537 ∷ steps.Verb (MakeQp (object word_b word_q) (Some word_p) (Some word_c) (Some word_c) 8 8) 131073 ∷ steps.Verb (Connect (object word_a word_q) (object word_b word_q) (record { mtu = 256; own_start = 100; peer_start = 16777215; retry = 1; rnr = 1; reads = 4 })) 0 ∷ steps.Verb (PostSend (object word_a word_q) (record { id = 1; shape = record { kind = kinds.Write; length = 4; remote = 8192; rkey = 33554435; imm = None; swap_add = 0; compare = 0 }; lkey = 16777218; local = 4096; signaled = true; fence = false })) 0 ∷ steps.Verb (PostSend (object word_a word_q) (record { id = 2; shape = record { kind = kinds.Write; length = 4; remote = 8200; rkey = 33554435; imm = (Some 1); swap_add = 0; compare = 0 }; lkey = 16777218; local = 4096; signaled = true; fence = false })) 0 ∷ steps.Verb (PostSend (object word_b word_q) (record { id = 3; shape = record { kind = kinds.Write; length = 2; remote = 4200; rkey = 16777219; imm = None; swap_add = 0; compare = 0 }; lkey = 33554434; local = 8192; signaled = true; fence = false })) 0 ∷ steps.Run (object word_a word_q) 4 ∷ steps.Expire (object word_a word_q) ∷ [])) b_q 0 2 ≡ (steps.Refuse (object word_b word_q) whys.Access ∷ [])
unfolding ran_to carries.offers_from carries.offers_of carries.due_steps carries.is_rest_granted carries.repeat_steps carries.request_steps carries.land_steps carries.tell_steps carries.is_at carries.is_taken carries.is_counted carries.expire_steps
arrival_12 = refl

pub arrival_13 : carries.request_steps (ran_to empty (steps.Verb (Context word_a true) 0 ∷ steps.Verb (Context word_b true) 0 ∷ steps.Verb (MakeDomain (object word_a word_p)) 0 ∷ steps.Verb (MakeDomain (object word_b word_p)) 0 ∷ steps.Verb (MakeRegion (object word_a word_m) (Some word_p) 4096 64 (record { 0 = 15 })) 16777218 ∷ steps.Verb (MakeRegion (object word_b word_n) (Some word_p) 8192 64 (record { 0 = 15 })) 33554434 ∷ steps.Verb (MakeCq (object word_a word_c) 16) 0 ∷ steps.Verb (MakeCq (object word_b word_c) 16) 0 ∷ steps.Verb (MakeQp (object word_a word_q) (Some word_p) (Some word_c) (Some word_c) 8 8) 65537 ∷ steps.Verb (MakeQp (object word_b word_q) (Some word_p) (Some word_c) (Some word_c) 8 8) 131073 ∷ steps.Verb (Connect (object word_a word_q) (object word_b word_q) (record { mtu = 256; own_start = 100; peer_start = 16777215; retry = 1; rnr = 1; reads = 4 })) 0 ∷ steps.Verb (PostSend (object word_a word_q) (record { id = 1; shape = record { kind = kinds.Write; length = 4; remote = 8192; rkey = 33554435; imm = None; swap_add = 0; compare = 0 }; lkey = 16777218; local = 4096; signaled = true; fence = false })) 0 ∷ steps.Verb (PostSend (object word_a word_q) (record { id = 2; shape = record { kind = kinds.Write; length = 4; remote = 8200; rkey = 33554435; imm = (Some 1); swap_add = 0; compare = 0 }; lkey = 16777218; local = 4096; signaled = true; fence = false })) 0 ∷ steps.Verb (PostSend (object word_b word_q) (record { id = 3; shape = record { kind = kinds.Write; length = 2; remote = 4200; rkey = 16777219; imm = None; swap_add = 0; compare = 0 }; lkey = 33554434; local = 8192; signaled = true; fence = false })) 0 ∷ steps.Run (object word_a word_q) 4 ∷ steps.Expire (object word_a word_q) ∷ steps.Refuse (object word_b word_q) whys.Access ∷ steps.Verb (PostRecv (object word_b word_q) (record { id = 4; lkey = 33554434; local = 8192; length = 8 })) 0 ∷ [])) a_q 1 4 ≡ (steps.Run (object word_a word_q) 4 ∷ [])
unfolding ran_to carries.offers_from carries.offers_of carries.due_steps carries.is_rest_granted carries.repeat_steps carries.request_steps carries.land_steps carries.tell_steps carries.is_at carries.is_taken carries.is_counted carries.expire_steps
arrival_13 = refl
