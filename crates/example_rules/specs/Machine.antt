-- The packetless machine's run for the caller's own run: the verbs of the opening, and each worker's addition, which acts, is
-- told and is polled.
use Rattle.std.specs.Prelude.{ℕ, List, [], ◌∷◌, ◌++◌, Some, codes, true}
use Rattle.rdma_types.specs.declared.answers.Answer.{Answer}
use Rattle.rdma_types.specs.declared.answers.Answer.TheVariants as answer
use Rattle.rdma_types.specs.declared.names.Name.{Name}
use Rattle.rdma_types.specs.declared.requests.Terms.{Terms}
use Rattle.rdma_types.specs.declared.verbs.Verb.{Verb}
use Rattle.rdma_types.specs.declared.verbs.Verb.TheVariants as verbs
use Rattle.packetless_machine.specs.declared.steps.MachineStep.{MachineStep}
use Rattle.packetless_machine.specs.declared.steps.MachineStep.TheVariants as steps
use Rattle.example_rules.specs.Alone.{completion, obj, request}

-- a verb that gives no key and no number
abbrev pub plain : Verb → MachineStep
plain v = steps.Verb v 0

-- a queue pair is made
abbrev pub makes_qp : Name → Name → Verb
makes_qp c q = verbs.MakeQp (obj c q) (Some (codes "p")) (Some (codes "c")) (Some (codes "c")) 8 1

-- .. with its number
abbrev pub qp : Name → Name → ℕ → MachineStep
qp c q number = steps.Verb (makes_qp c q) number

-- the terms of the connections
abbrev pub terms : Terms
terms = record { mtu = 256; own_start = 100; peer_start = 200; retry = 7; rnr = 7; reads = 4 }

-- the opening of two workers
abbrev pub opening_steps : List MachineStep
opening_steps =
    plain (verbs.Context (codes "a") true)
    ∷ plain (verbs.Context (codes "b") true)
    ∷ plain (verbs.MakeDomain (obj (codes "a") (codes "p")))
    ∷ plain (verbs.MakeDomain (obj (codes "b") (codes "p")))
    ∷ steps.Verb (verbs.MakeRegion (obj (codes "a") (codes "m")) (Some (codes "p")) 4096 64 (record { 0 = 15 })) 16777218
    ∷ steps.Verb (verbs.MakeRegion (obj (codes "b") (codes "n")) (Some (codes "p")) 8192 64 (record { 0 = 15 })) 33554434
    ∷ plain (verbs.MakeCq (obj (codes "a") (codes "c")) 256)
    ∷ plain (verbs.MakeCq (obj (codes "b") (codes "c")) 256)
    ∷ qp (codes "a") (codes "q1") 65537
    ∷ qp (codes "b") (codes "q1") 131073
    ∷ plain (verbs.Connect (obj (codes "a") (codes "q1")) (obj (codes "b") (codes "q1")) terms)
    ∷ qp (codes "a") (codes "q2") 65538
    ∷ qp (codes "b") (codes "q2") 131074
    ∷ plain (verbs.Connect (obj (codes "a") (codes "q2")) (obj (codes "b") (codes "q2")) terms)
    ∷ []

-- a worker's addition
abbrev pub adds_once : Name → ℕ → List MachineStep
adds_once q place =
    plain (verbs.PostSend (obj (codes "a") q) (request place))
    ∷ steps.Atom (obj (codes "a") q)
    ∷ steps.Tell (obj (codes "a") q)
    ∷ plain (verbs.Poll (obj (codes "a") (codes "c")) 256)
    ∷ []

-- the whole run
abbrev pub run : List MachineStep
run = opening_steps ++ adds_once (codes "q1") 4096 ++ adds_once (codes "q2") 4104

-- what applications hear of the opening
abbrev pub heard_of_opening : List (Verb × Answer)
heard_of_opening =
    (verbs.Context (codes "a") true, answer.Done)
    ∷ (verbs.Context (codes "b") true, answer.Done)
    ∷ (verbs.MakeDomain (obj (codes "a") (codes "p")), answer.Done)
    ∷ (verbs.MakeDomain (obj (codes "b") (codes "p")), answer.Done)
    ∷ (verbs.MakeRegion (obj (codes "a") (codes "m")) (Some (codes "p")) 4096 64 (record { 0 = 15 }), answer.Region (record { local = 16777218; remote = 16777219 }))
    ∷ (verbs.MakeRegion (obj (codes "b") (codes "n")) (Some (codes "p")) 8192 64 (record { 0 = 15 }), answer.Region (record { local = 33554434; remote = 33554435 }))
    ∷ (verbs.MakeCq (obj (codes "a") (codes "c")) 256, answer.Done)
    ∷ (verbs.MakeCq (obj (codes "b") (codes "c")) 256, answer.Done)
    ∷ (makes_qp (codes "a") (codes "q1"), answer.Qp 65537)
    ∷ (makes_qp (codes "b") (codes "q1"), answer.Qp 131073)
    ∷ (verbs.Connect (obj (codes "a") (codes "q1")) (obj (codes "b") (codes "q1")) terms, answer.Done)
    ∷ (makes_qp (codes "a") (codes "q2"), answer.Qp 65538)
    ∷ (makes_qp (codes "b") (codes "q2"), answer.Qp 131074)
    ∷ (verbs.Connect (obj (codes "a") (codes "q2")) (obj (codes "b") (codes "q2")) terms, answer.Done)
    ∷ []

-- .. and of the lines
abbrev pub heard_of_lines : List (Verb × Answer)
heard_of_lines =
    (verbs.PostSend (obj (codes "a") (codes "q1")) (request 4096), answer.Done)
    ∷ (verbs.Poll (obj (codes "a") (codes "c")) 256, answer.Polled (completion 65537 ∷ []))
    ∷ (verbs.PostSend (obj (codes "a") (codes "q2")) (request 4104), answer.Done)
    ∷ (verbs.Poll (obj (codes "a") (codes "c")) 256, answer.Polled (completion 65538 ∷ []))
    ∷ []
