-- The commands, and what each of their words has to be (this project's choice).
use Rattle.std.specs.Prelude.{ℕ, Bool, true, false, List, [], ◌∷◌, Option, Some, None, bytes_eq, codes, if◌then◌else◌}
use Rattle.script_lang.specs.Texts.{greatest_u64}
use Rattle.command_line.specs.declared.error_sentences.forms.Form.{Form}
use Rattle.command_line.specs.declared.error_sentences.forms.Form.TheVariants as form
use Rattle.command_line.specs.declared.error_sentences.forms.Kind.{Kind}
use Rattle.command_line.specs.declared.error_sentences.forms.Kind.TheVariants as kind
use Rattle.command_line.specs.declared.error_sentences.forms.Place.{Place}
use Rattle.command_line.specs.declared.error_sentences.forms.Place.TheVariants as place

-- the command that a word names
unfoldable pub form_of : List ℕ → Option Form
form_of word =
    if bytes_eq word (codes "play") then Some form.Play
    else if bytes_eq word (codes "bulk") then Some form.Bulk
    else if bytes_eq word (codes "show-dump") then Some form.ShowDump
    else if bytes_eq word (codes "evacuate") then Some form.Evacuate
    else if bytes_eq word (codes "audit") then Some form.Audit
    else if bytes_eq word (codes "record") then Some form.Record
    else if bytes_eq word (codes "node") then Some form.Node
    else if bytes_eq word (codes "serve") then Some form.Serve
    else if bytes_eq word (codes "threads") then Some form.Threads
    else if bytes_eq word (codes "fanout") then Some form.Fanout
    else if bytes_eq word (codes "mail") then Some form.Mail
    else None

-- 14 more targets
abbrev pub more_targets : List Place
more_targets =
    place.More ∷ place.More ∷ place.More ∷ place.More ∷ place.More ∷ place.More ∷ place.More
    ∷ place.More ∷ place.More ∷ place.More ∷ place.More ∷ place.More ∷ place.More ∷ place.More ∷ []

-- the places of the words behind it, in their order
abbrev pub places : Form → List Place
places form.Play = []
places form.Bulk = place.Seed ∷ place.Connections ∷ place.Messages ∷ place.Moves ∷ []
places form.ShowDump = place.Dump ∷ []
places form.Evacuate = place.From ∷ place.Target ∷ more_targets
places form.Audit = []
places form.Record = []
places form.Node = place.Id ∷ place.Address ∷ []
places form.Serve = place.Id ∷ place.Address ∷ place.Flag ∷ []
places form.Threads = place.Workers ∷ place.Adds ∷ place.FewMoves ∷ []
places form.Fanout = place.Consumers ∷ place.ManyAdds ∷ place.Capacity ∷ []
places form.Mail = place.Seed ∷ place.Peers ∷ place.Letters ∷ place.Moves ∷ []

-- what a place is called
abbrev pub title : Place → List ℕ
title place.Seed = codes "SEED"
title place.Connections = codes "CONNECTIONS"
title place.Messages = codes "MESSAGES"
title place.Moves = codes "MOVES"
title place.Dump = codes "NAME"
title place.From = codes "FROM"
title place.Target = codes "TARGET"
title place.More = codes "TARGET"
title place.Id = codes "ID"
title place.Address = codes "ADDRESS"
title place.Flag = codes "OPTION"
title place.Folder = codes "FOLDER"
title place.Time = codes "MS"
title place.Workers = codes "WORKERS"
title place.Adds = codes "ADDS"
title place.FewMoves = codes "MOVES"
title place.Consumers = codes "CONSUMERS"
title place.ManyAdds = codes "ADDS"
title place.Capacity = codes "CAPACITY"
title place.Peers = codes "PEERS"
title place.Letters = codes "LETTERS"

-- what may stand there
abbrev pub kind_of : Place → Kind
kind_of place.Seed = kind.Number 0 greatest_u64
kind_of place.Connections = kind.Number 1 8
kind_of place.Messages = kind.Number 1 2000
kind_of place.Moves = kind.Number 0 16
kind_of place.Dump = kind.Name
kind_of place.From = kind.Number 1 255
kind_of place.Target = kind.Number 1 255
kind_of place.More = kind.Number 1 255
kind_of place.Id = kind.Number 1 255
kind_of place.Address = kind.Address
kind_of place.Flag = kind.Flag
kind_of place.Folder = kind.Folder
kind_of place.Time = kind.Number 1 60000
kind_of place.Workers = kind.Number 1 8
kind_of place.Adds = kind.Number 1 2000
kind_of place.FewMoves = kind.Number 0 8
kind_of place.Consumers = kind.Number 1 4
kind_of place.ManyAdds = kind.Number 1 10000
kind_of place.Capacity = kind.Number 1 1024
kind_of place.Peers = kind.Number 1 8
kind_of place.Letters = kind.Number 1 500

-- a word has to stand there
abbrev pub is_needed : Place → Bool
is_needed place.More = false
is_needed place.Flag = false
is_needed other = true

-- the places behind one that a word took: an option is followed by its value, and then by further options
abbrev pub behind : Place → List Place → List ℕ → List Place
behind place.Flag more word =
    if bytes_eq word (codes "--depot") then place.Folder ∷ place.Flag ∷ []
    else if bytes_eq word (codes "--timeout") then place.Time ∷ place.Flag ∷ []
    else place.Flag ∷ []
behind other more word = more

-- the ids behind it have to differ
abbrev pub differs : Form → Bool
differs form.Evacuate = true
differs other = false
