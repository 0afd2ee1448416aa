-- The sentence that tells how a run ended (this project's choice).
use Rattle.std.specs.Prelude.{ℕ, ◌-◌, ◌+◌, ◌==◌, ◌++◌, ◌&&◌, Bool, List, [], ◌∷◌, length, nat_le, nat_lt, map, take, flat_map, Option, Some, None, codes, if◌then◌else◌}
use Rattle.std.specs.Fmt.{decimal}
use Rattle.command_line.specs.declared.error_sentences.forms.Form.{Form}
use Rattle.command_line.specs.declared.error_sentences.forms.Kind.{Kind}
use Rattle.command_line.specs.declared.error_sentences.forms.Kind.TheVariants.{Address, Flag, Folder, Name, Number}
use Rattle.command_line.specs.declared.error_sentences.forms.Place.{Place}
use Rattle.command_line.specs.declared.error_sentences.wrong.Wrong.{Wrong}
use Rattle.command_line.specs.declared.error_sentences.wrong.Wrong.TheVariants.{Alone, Extra, Missing, NoCommand, Repeated, Unfit, Unknown}
use Rattle.command_line.specs.Forms.{form_of, kind_of, title}
use Rattle.command_line.specs.Meanings.{meaning}
use Rattle.command_line.specs.Wrong.{wrong_of}

-- pieces, one behind the other
abbrev pub joined : List (List ℕ) → List ℕ
joined pieces = flat_map (λ piece. piece) pieces

-- ---- words

-- a byte of a word as it is shown: another one than a printable one as `?`
abbrev pub seen : ℕ → ℕ
seen b = if nat_le 33 b && nat_le b 126 then b else 63

-- behind what is shown of a word: `..` where it has more
abbrev pub closing : List ℕ → List ℕ
closing word = if nat_lt 40 (length word) then codes "..\"" else codes "\""

-- a word as it is shown: 40 bytes at most, in quotes
unfoldable pub shown : List ℕ → List ℕ
shown word = joined (codes "\"" ∷ map seen (take 40 word) ∷ closing word ∷ [])

-- the word of a number, counted from 1; no bytes where there is none
abbrev pub word_at : ℕ → List (List ℕ) → List ℕ
word_at number [] = []
word_at number (word ∷ words) = if nat_le number 1 then word else word_at (number - 1) words

-- what a place takes
unfoldable pub wanted : Kind → List ℕ
wanted (Number low high) = joined (codes "a number from " ∷ decimal low ∷ codes " to " ∷ decimal high ∷ codes ", in decimal digits without a sign or a leading zero" ∷ [])
wanted Name = codes "a name: a letter a to z, then up to 15 of a to z, 0 to 9 and _"
wanted Address = codes "an IPv4 address, with or without a colon and a port from 1 to 65535"
wanted Flag = codes "--depot, --timeout or --keep"
wanted Folder = codes "the path of a folder"

-- a first word that cannot stand there, for a reason
abbrev pub on_the_first : List ℕ → List (List ℕ) → List ℕ
on_the_first why words = joined (codes "word 1 is " ∷ shown (word_at 1 words) ∷ why ∷ [])

-- a word that cannot stand where it stands, for a reason
abbrev pub on_a_word : ℕ → List ℕ → List (List ℕ) → List ℕ
on_a_word number why words = joined (codes "word " ∷ decimal number ∷ codes " is " ∷ shown (word_at number words) ∷ why ∷ [])

-- a word that is missing
abbrev pub on_a_gap : ℕ → Place → List ℕ
on_a_gap number place = joined (codes "word " ∷ decimal number ∷ codes ", " ∷ title place ∷ codes ", is missing; it must be " ∷ wanted (kind_of place) ∷ [])

-- a word that does not suit its place
abbrev pub on_a_place : ℕ → Place → List (List ℕ) → List ℕ
on_a_place number place words = joined (codes "word " ∷ decimal number ∷ codes ", " ∷ title place ∷ codes ", is " ∷ shown (word_at number words) ∷ codes "; it must be " ∷ wanted (kind_of place) ∷ [])

-- what is wrong with a command line
unfoldable pub complaint : Wrong → List (List ℕ) → List ℕ
complaint NoCommand words = codes "word 1, the command, is missing"
complaint Unknown words = on_the_first (codes ", which is no command") words
complaint Alone words = on_the_first (codes ", which takes no word behind it") words
complaint (Missing number place) words = on_a_gap number place
complaint (Unfit number place) words = on_a_place number place words
complaint (Extra number) words = on_a_word number (codes ", one word too many") words
complaint (Repeated number) words = on_a_word number (codes ", and so is a later word; the ids must differ") words

-- a space and the command; nothing where the words name none
abbrev pub named_by : Option Form → List ℕ → List ℕ
named_by None word = []
named_by (Some form) word = joined (codes " " ∷ word ∷ [])

unfoldable pub named : List (List ℕ) → List ℕ
named words = named_by (form_of (word_at 1 words)) (word_at 1 words)

-- the sentence on what is wrong
abbrev pub wrong_sentence : Option Wrong → List (List ℕ) → List ℕ
wrong_sentence (Some wrong) words = joined (codes "jichurpa" ∷ named words ∷ codes ": " ∷ complaint wrong words ∷ codes "; see jichurpa" ∷ named words ∷ codes " --help\n" ∷ [])
wrong_sentence None words = codes "jichurpa: the words are of no command; see jichurpa --help\n"

-- the sentence on words that are of no command
unfoldable pub usage_sentence : List (List ℕ) → List ℕ
usage_sentence words = wrong_sentence (wrong_of words) words

-- ---- runs

-- how a run ended
pub record Ended : Type 0 where
  pub status : ℕ
  pub last : List ℕ  -- the last line of its output, without its end
  pub reason : List ℕ  -- what the system said of the call that failed, if it said anything

abbrev pub ended_as : ℕ → List ℕ → List ℕ → Ended
ended_as status last reason = record { status = status; last = last; reason = reason }

-- two texts with a colon between
abbrev pub with_colon : List ℕ → List ℕ → List ℕ
with_colon front behind = joined (front ∷ codes ": " ∷ behind ∷ [])

-- what failed, and why
abbrev pub failed : List ℕ → List ℕ → List ℕ
failed what reason = if length reason == 0 then what else with_colon what reason

-- why the run ended
unfoldable pub cause : Ended → List ℕ
cause e =
    if e.status == 4 then failed (codes "standard input could not be read") e.reason
    else if e.status == 5 then failed (codes "standard output could not be written") e.reason
    else if e.status == 6 then failed (codes "the link failed") e.reason
    else if e.status == 7 then failed (codes "the depot failed") e.reason
    else if e.status == 8 then codes "memory ran out"
    else if e.status == 9 then codes "standard input has over 1048576 bytes"
    else if e.status == 10 then codes "neither the run of the threads nor that of the caller is as planned"
    else with_colon e.last (meaning e.last)

-- the sentence on a run that was not done
unfoldable pub sentence : List (List ℕ) → Ended → List ℕ
sentence words e = if e.status == 2 then usage_sentence words else joined (codes "jichurpa" ∷ named words ∷ codes ": " ∷ cause e ∷ codes "\n" ∷ [])
