-- Lines that post requests and receives.
use Rattle.std.specs.Prelude.{ℕ, ◌^◌, ◌-◌, List, [], ◌∷◌, Some, None, Bool, true, false, Result, Ok, codes}
use Rattle.rdma_types.specs.declared.requests.Kind.TheVariants as kind
use Rattle.rdma_types.specs.declared.requests.Shape.{Shape}
use Rattle.rdma_types.specs.declared.verbs.Verb.TheVariants as verb
use Rattle.script_lang.specs.declared.lines.Line.{Line}
use Rattle.script_lang.specs.declared.lines.Line.TheVariants as line
use Rattle.script_lang.specs.declared.lines.Offence.{Offence}
use Rattle.example_scripts.specs.Things.{object}

-- the line that posts request 1 of a shape at a.q, from the first bytes of a region
abbrev pub posts : Shape → Bool → Bool → Result Line Offence
posts shape signaled fence = Ok (line.Verb (verb.PostSend (object (codes "a") (codes "q")) (record { id = 1; shape = shape; lkey = 16777218; local = 4096; signaled = signaled; fence = fence })))

abbrev pub requests : List (List ℕ × Result Line Offence)
requests =
    (codes "write a.q 1 01000002 4096 4 8192 02000003 imm 0000002A fence quiet", posts (record { kind = kind.Write; length = 4; remote = 8192; rkey = 33554435; imm = Some 42; swap_add = 0; compare = 0 }) false true)
    ∷ (codes "send a.q 1 01000002 4096 4 imm 0000002a fence", posts (record { kind = kind.Send; length = 4; remote = 0; rkey = 0; imm = Some 42; swap_add = 0; compare = 0 }) true true)
    ∷ (codes "read a.q 1 01000002 4096 4 8192 02000003 quiet", posts (record { kind = kind.Read; length = 4; remote = 8192; rkey = 33554435; imm = None; swap_add = 0; compare = 0 }) false false)
    ∷ (codes "cas a.q 1 01000002 4096 8192 02000003 5 6 fence quiet", posts (record { kind = kind.CompareSwap; length = 8; remote = 8192; rkey = 33554435; imm = None; swap_add = 6; compare = 5 }) false true)
    ∷ (codes "add a.q 1 01000002 4096 8192 02000003 6 fence quiet", posts (record { kind = kind.FetchAdd; length = 8; remote = 8192; rkey = 33554435; imm = None; swap_add = 6; compare = 0 }) false true)
    ∷ (codes "recv b.q 18446744073709551615 02000002 8192 4294967295", Ok (line.Verb (verb.PostRecv (object (codes "b") (codes "q")) (record { id = 2 ^ 64 - 1; lkey = 33554434; local = 8192; length = 2 ^ 32 - 1 }))))
    ∷ []
