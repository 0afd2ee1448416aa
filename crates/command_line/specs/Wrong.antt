-- Which word of a command line is wrong. Words are counted from 1, which is the command.
use Rattle.std.specs.Prelude.{ℕ, ◌+◌, ◌==◌, ◌&&◌, length, not, Bool, List, [], ◌∷◌, Option, Some, None, is_some, bytes_eq, codes, ◌||◌, if◌then◌else◌}
use Rattle.std.specs.List.{list_any}
use Rattle.script_lang.specs.Texts.{address_of, name_of, number_in}
use Rattle.script_lang.specs.Words.{is_space}
use Rattle.command_line.specs.declared.error_sentences.forms.Form.{Form}
use Rattle.command_line.specs.declared.error_sentences.forms.Kind.{Kind}
use Rattle.command_line.specs.declared.error_sentences.forms.Kind.TheVariants.{Address, Flag, Folder, Name, Number}
use Rattle.command_line.specs.declared.error_sentences.forms.Place.{Place}
use Rattle.command_line.specs.declared.error_sentences.wrong.Wrong.{Wrong}
use Rattle.command_line.specs.declared.error_sentences.wrong.Wrong.TheVariants.{Alone, Extra, Missing, NoCommand, Repeated, Unfit, Unknown}
use Rattle.command_line.specs.Forms.{behind, differs, form_of, is_needed, kind_of, places}

-- a text without a space spells what a place takes
abbrev pub spells : Kind → List ℕ → Bool
spells (Number low high) text = is_some (number_in low high text)
spells Name text = is_some (name_of text)
spells Address text = is_some (address_of text)
spells Flag text = bytes_eq text (codes "--depot") || (bytes_eq text (codes "--timeout") || bytes_eq text (codes "--keep"))
spells Folder text = not (length text == 0)

-- a word may stand there
abbrev pub suits : Kind → List ℕ → Bool
suits Folder word = spells Folder word
suits k word = not (list_any is_space word) && spells k word

-- the first word that may not stand where it stands: the next word has this number
abbrev pub wrong_from : List Place → List (List ℕ) → ℕ → Option Wrong
wrong_from [] [] number = None
wrong_from [] (word ∷ words) number = Some (Extra number)
wrong_from (place ∷ more) [] number = if is_needed place then Some (Missing number place) else None
wrong_from (place ∷ more) (word ∷ words) number = if suits (kind_of place) word then wrong_from (behind place more word) words (number + 1) else Some (Unfit number place)

-- the first word that stands once more behind
abbrev pub repeated_from : List (List ℕ) → ℕ → Option Wrong
repeated_from [] number = None
repeated_from (word ∷ words) number = if list_any (bytes_eq word) words then Some (Repeated number) else repeated_from words (number + 1)

-- one or else the other
abbrev pub or_else : Option Wrong → Option Wrong → Option Wrong
or_else (Some w) other = Some w
or_else None other = other

-- behind a command
abbrev pub wrong_behind : Form → List (List ℕ) → Option Wrong
wrong_behind form words = or_else (wrong_from (places form) words 2) (if differs form then repeated_from words 2 else None)

-- the word asks something of the program, and takes no word behind it
unfoldable pub is_alone : List ℕ → Bool
is_alone word = bytes_eq word (codes "--help") || (bytes_eq word (codes "-h") || bytes_eq word (codes "--version"))

-- behind a word that may be a command
abbrev pub wrong_by : Option Form → List ℕ → List (List ℕ) → Option Wrong
wrong_by (Some form) word words = wrong_behind form words
wrong_by None word words = if is_alone word then Some Alone else Some Unknown

-- what is wrong with the words of a command line, without the program's name
abbrev pub wrong_of : List (List ℕ) → Option Wrong
wrong_of [] = Some NoCommand
wrong_of (word ∷ words) = wrong_by (form_of word) word words
