-- Lines that make things, and lines that look at them.
use Rattle.std.specs.Prelude.{ℕ, ◌^◌, List, [], ◌∷◌, Some, None, Result, Ok, codes}
use Rattle.rdma_types.specs.declared.names.ObjName.{ObjName}
use Rattle.rdma_types.specs.declared.requests.Terms.{Terms}
use Rattle.rdma_types.specs.declared.verbs.Verb.TheVariants as verb
use Rattle.script_lang.specs.declared.lines.Line.{Line}
use Rattle.script_lang.specs.declared.lines.Line.TheVariants as line
use Rattle.script_lang.specs.declared.lines.Offence.{Offence}

-- the object of a context
abbrev pub object : List ℕ → List ℕ → ObjName
object context name = record { context = context; name = name }

-- what two ends agree on
abbrev pub terms : Terms
terms = record { mtu = 256; own_start = 100; peer_start = 16777215; retry = 7; rnr = 0; reads = 16 }

abbrev pub made : List (List ℕ × Result Line Offence)
made =
    (codes "device 255 10.0.0.1", Ok (line.Device 255 (record { ip = 167772161; port = 4791 })))
    ∷ (codes "context a 1", Ok (line.Context (codes "a") 1))
    ∷ (codes "domain a.p", Ok (line.Verb (verb.MakeDomain (object (codes "a") (codes "p")))))
    ∷ (codes "cq a.c 16384", Ok (line.Verb (verb.MakeCq (object (codes "a") (codes "c")) 16384)))
    ∷ (codes "region a.m a.p 9223372036854775808 16777216 lr", Ok (line.Verb (verb.MakeRegion (object (codes "a") (codes "m")) (Some (codes "p")) (2 ^ 63) 16777216 (record { 0 = 5 }))))
    ∷ (codes "qp a.q a.p b.c a.c 256 1", Ok (line.Verb (verb.MakeQp (object (codes "a") (codes "q")) (Some (codes "p")) None (Some (codes "c")) 256 1)))
    ∷ (codes "connect a.q b.q mtu 256 psn 100 16777215 retry 7 rnr 0 reads 16", Ok (line.Verb (verb.Connect (object (codes "a") (codes "q")) (object (codes "b") (codes "q")) terms)))
    ∷ []

abbrev pub looked_at : List (List ℕ × Result Line Offence)
looked_at =
    (codes "store a.m 4096 deadBEEF", Ok (line.Verb (verb.Store (object (codes "a") (codes "m")) 4096 (222 ∷ 173 ∷ 190 ∷ 239 ∷ []))))
    ∷ (codes "load a.m 4096 8", Ok (line.Verb (verb.Load (object (codes "a") (codes "m")) 4096 8)))
    ∷ (codes "drop a.m", Ok (line.Verb (verb.DropRegion (object (codes "a") (codes "m")))))
    ∷ (codes "poll a.c 256", Ok (line.Verb (verb.Poll (object (codes "a") (codes "c")) 256)))
    ∷ []
