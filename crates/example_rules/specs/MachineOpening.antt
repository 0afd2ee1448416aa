-- The usual opening of a run, and the names in it.
use Rattle.std.specs.Prelude.{ℕ, List, [], ◌∷◌, true, Some}
use Rattle.rdma_types.specs.declared.names.Name.{Name}
use Rattle.rdma_types.specs.declared.names.ObjName.{ObjName}
use Rattle.rdma_types.specs.declared.requests.Terms.{Terms}
use Rattle.rdma_types.specs.declared.verbs.Verb.TheVariants.{Context, Connect, MakeDomain, MakeRegion, MakeCq, MakeQp}
use Rattle.packetless_machine.specs.declared.steps.MachineStep.{MachineStep}
use Rattle.packetless_machine.specs.declared.steps.MachineStep.TheVariants as steps

-- the object of a context with that name
abbrev pub object : Name → Name → ObjName
object c n = record { context = c; name = n }

-- the name a
abbrev pub word_a : Name
word_a = 97 ∷ []

-- the name b
abbrev pub word_b : Name
word_b = 98 ∷ []

-- the name c
abbrev pub word_c : Name
word_c = 99 ∷ []

-- the name m
abbrev pub word_m : Name
word_m = 109 ∷ []

-- the name n
abbrev pub word_n : Name
word_n = 110 ∷ []

-- the name p
abbrev pub word_p : Name
word_p = 112 ∷ []

-- the name q
abbrev pub word_q : Name
word_q = 113 ∷ []

-- the name r
abbrev pub word_r : Name
word_r = 114 ∷ []

-- two contexts, each with a domain, a region of so many bytes, a completion queue and a queue pair; the queue pairs are
-- connected on these terms
abbrev pub made : ℕ → Terms → List MachineStep
made bytes terms =
    steps.Verb (Context word_a true) 0
    ∷ steps.Verb (Context word_b true) 0
    ∷ steps.Verb (MakeDomain (object word_a word_p)) 0
    ∷ steps.Verb (MakeDomain (object word_b word_p)) 0
    ∷ steps.Verb (MakeRegion (object word_a word_m) (Some word_p) 4096 bytes (record { 0 = 15 })) 16777218
    ∷ steps.Verb (MakeRegion (object word_b word_n) (Some word_p) 8192 bytes (record { 0 = 15 })) 33554434
    ∷ steps.Verb (MakeCq (object word_a word_c) 16) 0
    ∷ steps.Verb (MakeCq (object word_b word_c) 16) 0
    ∷ steps.Verb (MakeQp (object word_a word_q) (Some word_p) (Some word_c) (Some word_c) 8 8) 65537
    ∷ steps.Verb (MakeQp (object word_b word_q) (Some word_p) (Some word_c) (Some word_c) 8 8) 131073
    ∷ steps.Verb (Connect (object word_a word_q) (object word_b word_q) terms) 0
    ∷ []
