-- Lines that step ends, name datagrams and move contexts, and a script in lines.
use Rattle.std.specs.Prelude.{ℕ, ◌^◌, ◌-◌, ◌++◌, List, [], ◌∷◌, Result, Ok, codes}
use Rattle.script_lang.specs.declared.lines.Line.{Line}
use Rattle.script_lang.specs.declared.lines.Line.TheVariants as line
use Rattle.script_lang.specs.declared.lines.Offence.{Offence}
use Rattle.example_scripts.specs.Things.{object}

abbrev pub steps : List (List ℕ × Result Line Offence)
steps =
    (codes "go a.q", Ok (line.Go (object (codes "a") (codes "q"))))
    ∷ (codes "expire a.q", Ok (line.Expire (object (codes "a") (codes "q"))))
    ∷ (codes "rnr a.q", Ok (line.Rnr (object (codes "a") (codes "q"))))
    ∷ (codes "deliver 0", Ok (line.Deliver 0))
    ∷ (codes "lose 3", Ok (line.Lose 3))
    ∷ (codes "wire 18446744073709551615", Ok (line.Wire (2 ^ 64 - 1)))
    ∷ []

abbrev pub moves : List (List ℕ × Result Line Offence)
moves =
    (codes "stop a", Ok (line.Stop (codes "a")))
    ∷ (codes "dump a", Ok (line.Dump (codes "a")))
    ∷ (codes "settle", Ok line.Settle)
    ∷ (codes "restore a 3", Ok (line.Restore (codes "a") 3))
    ∷ (codes "release a 2", Ok (line.Release (codes "a") 2))
    ∷ []

abbrev pub blanks : List (List ℕ × Result Line Offence)
blanks =
    ([], Ok line.Blank)
    ∷ (codes "   ", Ok line.Blank)
    ∷ (codes "  #go", Ok line.Blank)
    ∷ (codes "  settle  ", Ok line.Settle)
    ∷ []

-- a script, with two ends of lines, a comment, and a carriage return that ends no line
abbrev pub script : List ℕ
script = codes "settle" ++ 13 ∷ 10 ∷ 10 ∷ codes "# end" ++ 10 ∷ codes "settle" ++ 13 ∷ []

abbrev pub its_lines : List (List ℕ)
its_lines = codes "settle" ∷ [] ∷ codes "# end" ∷ (codes "settle" ++ 13 ∷ []) ∷ []
