-- What readers tell C of what a handle holds. A result is 0 where something is told, 2 where an argument is outside of what is
-- allowed, 4 where nothing is there, and 5 where a buffer has too little room.
use Rattle.std.specs.Prelude.{ℕ, ◌+◌, List, [], length, slice_get, min, nat_lt, ◌==◌, Option, Some, None, option_map, if◌then◌else◌}
use Rattle.rdma_types.specs.declared.answers.Sent.{Sent}
use Rattle.rdma_types.specs.declared.names.Name.{Name}
use Rattle.protocol.specs.declared.images.ContextImage.{ContextImage}
use Rattle.protocol.specs.State.{Device}
use Rattle.c_layout.specs.declared.layout.CDatagram.{CDatagram}
use Rattle.c_layout.specs.Told.{datagram_told}
use Rattle.device_c.specs.declared.content.Content.{Content}
use Rattle.device_c.specs.declared.content.Content.TheVariants as content
use Rattle.device_c.specs.declared.content.HeldDevice.{HeldDevice}
use Rattle.c_layout.specs.Given as given
use Rattle.c_layout.specs.Given.{overlaid}

-- ---- what is looked at

-- what a reader of a device finds in what a handle can hold
abbrev pub in_device : {X : Type 0} → (Device → X) → Content → Option X
in_device f (content.Device d) = Some (f d.device)
in_device f (content.Image i) = None
in_device f (content.Reader r) = None

-- .. a reader of an image
abbrev pub in_image : {X : Type 0} → (ContextImage → X) → Content → Option X
in_image f (content.Device d) = None
in_image f (content.Image i) = Some (f i)
in_image f (content.Reader r) = None

-- .. in what a handle holds
abbrev pub in_held : {X : Type 0} → (Content → Option X) → Option Content → Option X
in_held f None = None
in_held f (Some c) = f c

-- .. for a name, where the argument spells one
abbrev pub for_name : {A X : Type 0} → (A → Option X) → Option A → Option X
for_name f None = None
for_name f (Some a) = f a

-- ---- what is told

-- of something that a device always has
abbrev pub known_result : {X : Type 0} → Option X → ℕ
known_result None = 2
known_result (Some x) = 0

abbrev pub known : {X : Type 0} → Option X → X → X
known None old = old
known (Some x) old = x

-- of something that may be there
abbrev pub found_result : {X : Type 0} → Option (Option X) → ℕ
found_result None = 2
found_result (Some x) = given.found_result x

abbrev pub found : {X : Type 0} → Option (Option X) → X → X
found None old = old
found (Some x) old = given.found x old

-- ---- datagrams to be sent

-- the oldest datagram that was not read
abbrev pub unread : HeldDevice → Option Sent
unread d = slice_get d.sent d.read

-- .. of what a handle can hold; None where that is no device
abbrev pub unread_of : Content → Option (Option Sent)
unread_of (content.Device d) = Some (unread d)
unread_of (content.Image i) = None
unread_of (content.Reader r) = None

-- whether there is room for it
abbrev pub next_result : Option (Option Sent) → ℕ → ℕ
next_result None room = 2
next_result (Some None) room = 4
next_result (Some (Some s)) room = if nat_lt room (length s.bytes) then 5 else 0

abbrev pub next_told : Option (Option Sent) → CDatagram → CDatagram
next_told None old = old
next_told (Some None) old = old
next_told (Some (Some s)) old = datagram_told s

abbrev pub next_bytes : Option (Option Sent) → List ℕ → List ℕ
next_bytes None old = old
next_bytes (Some None) old = old
next_bytes (Some (Some s)) old = if nat_lt (length old) (length s.bytes) then old else overlaid s.bytes old

-- one more was read, where it was handed out
abbrev pub device_after : ℕ → HeldDevice → HeldDevice
device_after result d = if result == 0 then record { device = d.device; sent = d.sent; read = d.read + 1 } else d

abbrev pub read_after : ℕ → Content → Content
read_after result (content.Device d) = content.Device (device_after result d)
read_after result (content.Image i) = content.Image i
read_after result (content.Reader r) = content.Reader r

-- ---- bytes

-- what a buffer has after bytes were handed out
abbrev pub handed : Option (List ℕ) → List ℕ → List ℕ
handed None old = old
handed (Some bytes) old = overlaid bytes old

-- how many were
abbrev pub handed_count : Option (List ℕ) → ℕ → ℕ → ℕ
handed_count None room old = old
handed_count (Some bytes) room old = min room (length bytes)
