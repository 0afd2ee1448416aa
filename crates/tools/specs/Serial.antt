-- Which words are those of `run_serial`.
use Rattle.std.specs.Prelude.{◌≡◌, ℕ, List, None}
use Rattle.tools.specs.Mails.{mail_of}
use Rattle.tools.specs.Fanout.{AreOthers}

-- the words are of no command that runs threads, and not those of `mail`
abbrev pub AreSerial : List (List ℕ) → Type 0
AreSerial words = AreOthers words × (mail_of words ≡ None)
