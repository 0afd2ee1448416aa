-- What the last line of a run means (this project's choice).
use Rattle.std.specs.Prelude.{ℕ, Bool, List, nat_eq, codes, if◌then◌else◌}
use Rattle.std.specs.List.{starts_with, ends_with}

-- a line begins with a text
unfoldable pub begins : List ℕ → List ℕ → Bool
begins line text = starts_with nat_eq line text

-- a line ends with a text
unfoldable pub ends : List ℕ → List ℕ → Bool
ends line text = ends_with nat_eq line text

-- `bad line N column C why`
unfoldable pub line_meaning : List ℕ → List ℕ
line_meaning line =
    if ends line (codes " long") then codes "the line has over 8400 bytes"
    else if ends line (codes " ascii") then codes "this byte is none that a line may have; those are 32 to 126"
    else if ends line (codes " word") then codes "this word is none that may stand here"
    else if ends line (codes " missing") then codes "a word is missing here"
    else if ends line (codes " name") then codes "here must stand a name (a letter a to z, then up to 15 of a to z, 0 to 9 and _), or two of them with a dot between"
    else if ends line (codes " number") then codes "here must stand a number in its range, in decimal digits without a sign or a leading zero"
    else if ends line (codes " hex") then codes "here must stand hexadecimal digits, as many as this place takes"
    else if ends line (codes " rights") then codes "here must stand -, or some of the letters l, w, r and a in this order"
    else if ends line (codes " address") then codes "here must stand an IPv4 address, with or without a colon and a port from 1 to 65535"
    else if ends line (codes " option") then codes "here must stand another word, as the form of the line has it"
    else codes "here is more than the form takes"

-- `bad dump P why`
unfoldable pub dump_meaning : List ℕ → List ℕ
dump_meaning line =
    if ends line (codes " short") then codes "the dump ends here, inside or before a field"
    else if ends line (codes " magic") then codes "the first eight bytes are not those of a dump"
    else if ends line (codes " version") then codes "the version is not 1 or 2"
    else if ends line (codes " name") then codes "the text at this byte, counted from 0, is no name, or is twice in its list"
    else if ends line (codes " count") then codes "the count at this byte, counted from 0, is over its limit"
    else if ends line (codes " field") then codes "the value at this byte, counted from 0, is out of its range, or breaks a rule of dumps"
    else codes "the dump ended before this byte, counted from 0"

-- `illegal N why`
unfoldable pub trace_meaning : List ℕ → List ℕ
trace_meaning line =
    if ends line (codes " step") then codes "the packetless machine cannot take the step of this line here"
    else codes "the packetless machine answers otherwise"

-- `stays NAME why`
unfoldable pub stay_meaning : List ℕ → List ℕ
stay_meaning line =
    if ends line (codes " peermoving") then codes "a partner of this context is carried, or its RESUME is not acknowledged yet"
    else if ends line (codes " toomany") then codes "a queue pair of this context moved 65535 times, or the device has 256 husks"
    else codes "every target refused this context"

-- the last line
unfoldable pub meaning : List ℕ → List ℕ
meaning line =
    if begins line (codes "bad line ") then line_meaning line
    else if begins line (codes "bad dump ") then dump_meaning line
    else if begins line (codes "missing ") then codes "the folder depot has no file of this name"
    else if begins line (codes "illegal ") then trace_meaning line
    else if begins line (codes "stays ") then stay_meaning line
    else codes "the script made no such device, or not this target"
