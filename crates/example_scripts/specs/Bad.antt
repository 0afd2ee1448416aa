-- Lines in no form, each with its first offence.
use Rattle.std.specs.Prelude.{ℕ, ◌++◌, List, [], ◌∷◌, replicate, Result, Ok, Err, codes}
use Rattle.script_lang.specs.declared.lines.Line.{Line}
use Rattle.script_lang.specs.declared.lines.Line.TheVariants as line
use Rattle.script_lang.specs.declared.lines.LineWhy.TheVariants as why
use Rattle.script_lang.specs.declared.lines.Offence.{Offence}
use Rattle.script_lang.specs.Words.{offence}

-- one for each reason
abbrev pub reasons : List (List ℕ × Result Line Offence)
reasons =
    (codes "go" ++ 9 ∷ codes "a.q", Err (offence 3 why.Ascii))
    ∷ (codes "settle" ++ 13 ∷ [], Err (offence 7 why.Ascii))
    ∷ (codes "  fly a.q", Err (offence 3 why.Word))
    ∷ (codes "GO a.q", Err (offence 1 why.Word))
    ∷ (codes "link a.q", Err (offence 1 why.Word))
    ∷ (codes "go  ", Err (offence 5 why.Missing))
    ∷ (codes "stop a.q", Err (offence 6 why.Name))
    ∷ (codes "go  a", Err (offence 5 why.Name))
    ∷ (codes "go a.b.c", Err (offence 4 why.Name))
    ∷ (codes "deliver 01", Err (offence 9 why.Number))
    ∷ (codes "deliver +1", Err (offence 9 why.Number))
    ∷ (codes "recv a.q 1 0100000 4096 4", Err (offence 12 why.Hex))
    ∷ (codes "store a.m 4096 dea", Err (offence 16 why.Hex))
    ∷ (codes "region a.m a.p 0 1 wl", Err (offence 20 why.Rights))
    ∷ (codes "region a.m a.p 0 1 l-", Err (offence 20 why.Rights))
    ∷ (codes "device 1 10.0.0.1:0", Err (offence 10 why.Address))
    ∷ (codes "device 1 10.0.0.1.1", Err (offence 10 why.Address))
    ∷ (codes "connect a.q b.q psn 1 2", Err (offence 17 why.BadOption))
    ∷ (codes "settle now", Err (offence 8 why.Extra))
    ∷ (codes "send a.q 1 01000002 4096 4 quiet fence", Err (offence 34 why.Extra))
    ∷ (codes "send a.q 1 01000002 4096 4 imm", Err (offence 31 why.Missing))
    ∷ (codes "read a.q 1 01000002 4096 4 8192 02000003 imm 00000001", Err (offence 42 why.Extra))
    ∷ []

-- numbers one past their limits
abbrev pub limits : List (List ℕ × Result Line Offence)
limits =
    (codes "device 0 1.2.3.4", Err (offence 8 why.Number))
    ∷ (codes "device 256 1.2.3.4", Err (offence 8 why.Number))
    ∷ (codes "region a.m a.p 9223372036854775809 1 -", Err (offence 16 why.Number))
    ∷ (codes "region a.m a.p 0 0 -", Err (offence 18 why.Number))
    ∷ (codes "region a.m a.p 0 16777217 -", Err (offence 18 why.Number))
    ∷ (codes "cq a.c 16385", Err (offence 8 why.Number))
    ∷ (codes "qp a.q a.p a.c a.c 257 1", Err (offence 20 why.Number))
    ∷ (codes "qp a.q a.p a.c a.c 1 0", Err (offence 22 why.Number))
    ∷ (codes "connect a.q b.q mtu 257 psn 1 2", Err (offence 21 why.Number))
    ∷ (codes "connect a.q b.q mtu 256 psn 16777216 2", Err (offence 29 why.Number))
    ∷ (codes "load a.m 0 4097", Err (offence 12 why.Number))
    ∷ (codes "poll a.c 257", Err (offence 10 why.Number))
    ∷ (codes "recv a.q 1 01000002 0 4294967296", Err (offence 23 why.Number))
    ∷ (codes "deliver 18446744073709551616", Err (offence 9 why.Number))
    ∷ []

-- the longest line, and one of a byte more
abbrev pub long : List (List ℕ × Result Line Offence)
long =
    (replicate 8400 32, Ok line.Blank)
    ∷ (replicate 8401 0, Err (offence 8401 why.Long))
    ∷ []
