-- Lines of the script.
use Rattle.std.specs.Prelude.{ℕ, List, [], ◌∷◌, ◌++◌, codes}
use Rattle.std.specs.Fmt.{decimal}
use Rattle.workload_gen.specs.declared.message.Message.{Message}

-- each word after a space, and a newline
abbrev pub ended : List (List ℕ) → List ℕ
ended [] = 10 ∷ []
ended (word ∷ words) = 32 ∷ (word ++ ended words)

-- a line: its words with a space between, and a newline
abbrev pub line : List ℕ → List (List ℕ) → List ℕ
line first words = first ++ ended words

-- the end of connection i in the first context, and in the second
abbrev pub end_a : ℕ → List ℕ
end_a i = codes "a.q" ++ decimal i

abbrev pub end_b : ℕ → List ℕ
end_b i = codes "b.q" ++ decimal i

-- a verb and an end, the message's number, a local key, and its address
abbrev pub head : List ℕ → List ℕ → Message → List ℕ
head verb key m = verb ++ (decimal m.connection ++ (32 ∷ (decimal m.number ++ (key ++ decimal m.address))))

-- what follows the address of a Write or a Read
abbrev pub remote : Message → List ℕ
remote m = 32 ∷ (decimal m.length ++ (32 ∷ (decimal m.address ++ codes " 02000003\n")))
