-- What words ask of the program itself or of a command, and the text that answers them.
use Rattle.std.specs.Prelude.{ℕ, Bool, ◌||◌, List, [], ◌∷◌, Option, Some, None, bytes_eq, codes, if◌then◌else◌}
use Rattle.rdma_cli.specs.declared.help.TheConstants.{AUDIT, BULK, EVACUATE, FANOUT, HELP, MAIL, NODE, PLAY, RECORD, SERVE, SHOW_DUMP, THREADS, VERSION}

-- `--help` or `-h`
abbrev pub asks_for_help : List ℕ → Bool
asks_for_help word = bytes_eq word (codes "--help") || bytes_eq word (codes "-h")

-- the text on a command
unfoldable pub help_of : List ℕ → Option (List ℕ)
help_of command =
    if bytes_eq command (codes "play") then Some PLAY.now
    else if bytes_eq command (codes "bulk") then Some BULK.now
    else if bytes_eq command (codes "show-dump") then Some SHOW_DUMP.now
    else if bytes_eq command (codes "evacuate") then Some EVACUATE.now
    else if bytes_eq command (codes "audit") then Some AUDIT.now
    else if bytes_eq command (codes "record") then Some RECORD.now
    else if bytes_eq command (codes "node") then Some NODE.now
    else if bytes_eq command (codes "serve") then Some SERVE.now
    else if bytes_eq command (codes "threads") then Some THREADS.now
    else if bytes_eq command (codes "fanout") then Some FANOUT.now
    else if bytes_eq command (codes "mail") then Some MAIL.now
    else None

-- the text for a word that asks something of the program
abbrev pub program_text : List ℕ → Option (List ℕ)
program_text word =
    if asks_for_help word then Some HELP.now
    else if bytes_eq word (codes "--version") then Some VERSION.now
    else None

-- the text that answers words, if they ask for one
unfoldable pub text_about : List (List ℕ) → Option (List ℕ)
text_about (word ∷ []) = program_text word
text_about (command ∷ word ∷ []) = if asks_for_help word then help_of command else None
text_about other = None
