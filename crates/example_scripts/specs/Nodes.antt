-- Lines of a script of a node.
use Rattle.std.specs.Prelude.{ℕ, List, [], ◌∷◌, Result, Ok, Err, codes}
use Rattle.rdma_types.specs.declared.verbs.Verb.TheVariants as verb
use Rattle.script_lang.specs.declared.lines.LineWhy.TheVariants as why
use Rattle.script_lang.specs.declared.lines.NodeLine.{NodeLine}
use Rattle.script_lang.specs.declared.lines.NodeLine.TheVariants as node_line
use Rattle.script_lang.specs.declared.lines.Offence.{Offence}
use Rattle.script_lang.specs.Words.{offence}
use Rattle.example_scripts.specs.Things.{object, terms}

abbrev pub steps : List (List ℕ × Result NodeLine Offence)
steps =
    (codes "# context", Ok node_line.Blank)
    ∷ (codes "link b.q 010001 10.0.0.1:65535 mtu 256 psn 100 16777215 retry 7 rnr 0 reads 16", Ok (node_line.Link (object (codes "b") (codes "q")) 65537 (record { ip = 167772161; port = 65535 }) terms))
    ∷ (codes "poll b.c 1", Ok (node_line.Verb (verb.Poll (object (codes "b") (codes "c")) 1)))
    ∷ (codes "go b.q", Ok (node_line.Go (object (codes "b") (codes "q"))))
    ∷ (codes "expire b.q", Ok (node_line.Expire (object (codes "b") (codes "q"))))
    ∷ (codes "rnr b.q", Ok (node_line.Rnr (object (codes "b") (codes "q"))))
    ∷ []

abbrev pub moves : List (List ℕ × Result NodeLine Offence)
moves =
    (codes "context b", Ok (node_line.Context (codes "b")))
    ∷ (codes "stop b q", Ok (node_line.Stop (codes "b") (codes "q")))
    ∷ (codes "restore q", Ok (node_line.Restore (codes "q")))
    ∷ (codes "release b", Ok (node_line.Release (codes "b")))
    ∷ (codes "serve 100000", Ok (node_line.Serve 100000))
    ∷ []

abbrev pub bad : List (List ℕ × Result NodeLine Offence)
bad =
    (codes "serve 0", Err (offence 7 why.Number))
    ∷ (codes "connect", Err (offence 1 why.Word))
    ∷ []
