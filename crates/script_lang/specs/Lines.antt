-- What a line says: of a script of a world, and of a script of a node (this project's choice).
use Rattle.std.specs.Prelude.{ℕ, ◌+◌, ◌≡◌, ◌==◌, ◌&&◌, not, Bool, List, [], ◌∷◌, length, slice_index, Option, Some, None, Result, Ok, Err, nat_le, nat_lt, if◌then◌else◌, bytes_eq, codes}
use Rattle.std.specs.List.{position_or_len}
use Rattle.std.specs.Map.{lookup}
use Rattle.rdma_types.specs.declared.names.Name.{Name}
use Rattle.rdma_types.specs.declared.names.ObjName.{ObjName}
use Rattle.rdma_types.specs.declared.verbs.Verb.TheVariants as verb
use Rattle.script_lang.specs.declared.forms.Form.{Form}
use Rattle.script_lang.specs.declared.forms.Form.TheVariants as form
use Rattle.script_lang.specs.declared.forms.NodeForm.{NodeForm}
use Rattle.script_lang.specs.declared.forms.NodeForm.TheVariants as node_form
use Rattle.script_lang.specs.declared.forms.VerbForm.{VerbForm}
use Rattle.script_lang.specs.declared.lines.Line.{Line}
use Rattle.script_lang.specs.declared.lines.Line.TheVariants as line
use Rattle.script_lang.specs.declared.lines.LineFault.{LineFault}
use Rattle.script_lang.specs.declared.lines.LineFault.TheVariants as fault
use Rattle.script_lang.specs.declared.lines.LineWhy.TheVariants as why
use Rattle.script_lang.specs.declared.lines.NodeLine.{NodeLine}
use Rattle.script_lang.specs.declared.lines.NodeLine.TheVariants as node_line
use Rattle.script_lang.specs.declared.lines.Offence.{Offence}
use Rattle.script_lang.specs.Fields.{a_name, an_object, a_number, a_long, a_device, a_queue_pair, an_address, some_terms}
use Rattle.script_lang.specs.Verbs.{verb_form, verb_line}
use Rattle.script_lang.specs.Words.{Word, Input, Read, Reads, ◌>>=◌, done, offence, words_from, the_end}

-- ---- lines of a world

-- the first words of lines that are no verbs, and of `connect`
abbrev pub words_of_forms : List (List ℕ × Form)
words_of_forms =
    (codes "device", form.Device)
    ∷ (codes "context", form.Context)
    ∷ (codes "connect", form.Connect)
    ∷ (codes "go", form.Go)
    ∷ (codes "deliver", form.Deliver)
    ∷ (codes "lose", form.Lose)
    ∷ (codes "wire", form.Wire)
    ∷ (codes "expire", form.Expire)
    ∷ (codes "rnr", form.Rnr)
    ∷ (codes "stop", form.Stop)
    ∷ (codes "restore", form.Restore)
    ∷ (codes "release", form.Release)
    ∷ (codes "dump", form.Dump)
    ∷ (codes "settle", form.Settle)
    ∷ []

-- the verb, or else another line
abbrev pub form_or : Option VerbForm → Option Form → Option Form
form_or (Some v) other = Some (form.Verb v)
form_or None other = other

-- the line that a first word names
unfoldable pub form_of : List ℕ → Option Form
form_of w = form_or (verb_form w) (lookup (λ text. bytes_eq w text) words_of_forms)

-- a line of an object, of a datagram's number, of a name, and of a name and a device
abbrev pub object_line : {L : Type 0} → (ObjName → L) → Reads L
object_line says = do
  o ← an_object
  done (says o)

abbrev pub number_line : {L : Type 0} → (ℕ → L) → Reads L
number_line says = do
  k ← a_long
  done (says k)

abbrev pub name_line : {L : Type 0} → (Name → L) → Reads L
name_line says = do
  name ← a_name
  done (says name)

abbrev pub placed_line : {L : Type 0} → (Name → ℕ → L) → Reads L
placed_line says = do
  name ← a_name
  device ← a_device
  done (says name device)

-- `device` id address
unfoldable pub device_line : Reads Line
device_line = do
  id ← a_device
  address ← an_address
  done (line.Device id address)

-- `connect` O O `mtu` m `psn` x y `retry` r `rnr` w `reads` n
unfoldable pub connect_line : Reads Line
connect_line = do
  one ← an_object
  two ← an_object
  terms ← some_terms
  done (line.Verb (verb.Connect one two terms))

-- a verb that scripts of a world and of a node share
abbrev pub shared_line : VerbForm → Reads Line
shared_line v = do
  said ← verb_line v
  done (line.Verb said)

-- what the words behind the first say
unfoldable pub line_of : Form → Reads Line
line_of (form.Verb v) = shared_line v
line_of form.Device = device_line
line_of form.Context = placed_line line.Context
line_of form.Connect = connect_line
line_of form.Go = object_line line.Go
line_of form.Deliver = number_line line.Deliver
line_of form.Lose = number_line line.Lose
line_of form.Wire = number_line line.Wire
line_of form.Expire = object_line line.Expire
line_of form.Rnr = object_line line.Rnr
line_of form.Stop = name_line line.Stop
line_of form.Restore = placed_line line.Restore
line_of form.Release = placed_line line.Release
line_of form.Dump = name_line line.Dump
line_of form.Settle = done line.Settle

-- ---- lines of a node

-- the first words of lines that are no verbs
abbrev pub words_of_node : List (List ℕ × NodeForm)
words_of_node =
    (codes "context", node_form.Context)
    ∷ (codes "link", node_form.Link)
    ∷ (codes "go", node_form.Go)
    ∷ (codes "expire", node_form.Expire)
    ∷ (codes "rnr", node_form.Rnr)
    ∷ (codes "stop", node_form.Stop)
    ∷ (codes "restore", node_form.Restore)
    ∷ (codes "release", node_form.Release)
    ∷ (codes "serve", node_form.Serve)
    ∷ []

-- the verb, or else another line
abbrev pub node_form_or : Option VerbForm → Option NodeForm → Option NodeForm
node_form_or (Some v) other = Some (node_form.Verb v)
node_form_or None other = other

-- the line that a first word names
unfoldable pub node_form_of : List ℕ → Option NodeForm
node_form_of w = node_form_or (verb_form w) (lookup (λ text. bytes_eq w text) words_of_node)

-- `link` O number address `mtu` m `psn` own peer `retry` r `rnr` w `reads` n
unfoldable pub link_line : Reads NodeLine
link_line = do
  end ← an_object
  peer ← a_queue_pair
  partner ← an_address
  terms ← some_terms
  done (node_line.Link end peer partner terms)

-- `stop` N file
unfoldable pub stop_line : Reads NodeLine
stop_line = do
  name ← a_name
  file ← a_name
  done (node_line.Stop name file)

-- `serve` turns
unfoldable pub serve_line : Reads NodeLine
serve_line = do
  turns ← a_number 1 100000
  done (node_line.Serve turns)

-- a verb that scripts of a world and of a node share
abbrev pub shared_node_line : VerbForm → Reads NodeLine
shared_node_line v = do
  said ← verb_line v
  done (node_line.Verb said)

-- what the words behind the first say
unfoldable pub node_line_of : NodeForm → Reads NodeLine
node_line_of (node_form.Verb v) = shared_node_line v
node_line_of node_form.Context = name_line node_line.Context
node_line_of node_form.Link = link_line
node_line_of node_form.Go = object_line node_line.Go
node_line_of node_form.Expire = object_line node_line.Expire
node_line_of node_form.Rnr = object_line node_line.Rnr
node_line_of node_form.Stop = stop_line
node_line_of node_form.Restore = name_line node_line.Restore
node_line_of node_form.Release = name_line node_line.Release
node_line_of node_form.Serve = serve_line

-- ---- a whole line

-- bytes of a line at most
abbrev pub longest_line : ℕ
longest_line = 8400

-- a byte that may stand in a line
abbrev pub is_printable : ℕ → Bool
is_printable b = nat_le 32 b && nat_le b 126

-- how many bytes stand before the first that may not
abbrev pub printable_before : List ℕ → ℕ
printable_before bs = position_or_len (λ b. not (is_printable b)) bs

-- what is wrong with the bytes, before any word is looked at
unfoldable pub bytes_offence : List ℕ → Option Offence
bytes_offence bs =
    if nat_lt longest_line (length bs) then Some (offence (longest_line + 1) why.Long)
    else if nat_lt (printable_before bs) (length bs) then Some (offence (printable_before bs + 1) why.Ascii)
    else None

-- the value, where no words are left behind it
abbrev pub said : {L : Type 0} → Read L → Result L Offence
said (Ok p) = Ok p.0
said (Err e) = Err e

abbrev pub whole : {L : Type 0} → Reads L → Reads L
whole r = do
  l ← r
  none ← the_end
  done l

-- what a line of a form says, or its first word names none
abbrev pub named : {F L : Type 0} → (F → Reads L) → Option F → Word → Input → Result L Offence
named reads (Some f) w i = said (whole (reads f) i)
named reads None w i = Err (offence w.column why.Word)

-- a line by its first word and those behind it: a comment where the first begins with `#`
abbrev pub begun : {F L : Type 0} → L → (List ℕ → Option F) → (F → Reads L) → Word → Input → Result L Offence
begun blank form reads w i = if slice_index w.text 0 == 35 then Ok blank else named reads (form w.text) w i

-- a line by its words: blank without any
abbrev pub reading_of_words : {F L : Type 0} → L → (List ℕ → Option F) → (F → Reads L) → List Word → ℕ → Result L Offence
reading_of_words blank form reads [] past = Ok blank
reading_of_words blank form reads (w ∷ ws) past = begun blank form reads w (record { words = ws; past = past })

-- the first of two checks
abbrev pub unless : {L : Type 0} → Option Offence → Result L Offence → Result L Offence
unless (Some e) r = Err e
unless None r = r

-- what a line of a script of a world says, or its first offence
unfoldable pub reading_of : List ℕ → Result Line Offence
reading_of bs = unless (bytes_offence bs) (reading_of_words line.Blank form_of line_of (words_from 1 bs) (length bs + 1))

-- what a line of a script of a node says, or its first offence
unfoldable pub node_reading_of : List ℕ → Result NodeLine Offence
node_reading_of bs = unless (bytes_offence bs) (reading_of_words node_line.Blank node_form_of node_line_of (words_from 1 bs) (length bs + 1))

-- the first word names this line
abbrev pub Begins : {F : Type 0} → (List ℕ → Option F) → F → List Word → Type 0
Begins form f [] = ⊥
Begins form f (w ∷ ws) = form w.text ≡ Some f

-- what the code returned is what a line says, or its first offence, unless it was out of memory
abbrev pub Says : {L : Type 0} → Result L LineFault → Result L Offence → Type 0
Says (Ok l) reading = reading ≡ Ok l
Says (Err (fault.Bad column why)) reading = reading ≡ Err (offence column why)
Says (Err fault.OutOfMemory) reading = Unit {0}
