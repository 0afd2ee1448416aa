-- What is read of a message: its header, and the letter that it carries.
use Rattle.std.specs.Prelude.{ℕ, ◌≡◌, ◌≤◌, ◌<◌, ◌^◌, List, ◌++◌, drop, length, Some, None, if◌then◌else◌}
use Rattle.rdma_types.specs.Limits.{most_bytes}
use Rattle.mailbox_rules.specs.declared.letters.Arrival.{Arrival}
use Rattle.mailbox_rules.specs.declared.letters.Header.{Header}
use Rattle.mailbox_rules.specs.declared.letters.Letter.{Letter}
use Rattle.mailbox_rules.specs.Calls.{message_of}
use Rattle.mailbox_rules.specs.Letters.{header_bytes, header_length, header_of, is_rendezvous}
use Rattle.mailbox_rules.specs.Opening.{sender_remote_key}
use Rattle.mailbox_rules.specs.Working.{arrival_of, fetch_of}

-- each number of a header fits its four bytes
pub record IsHeader (h : Header) : Type 0 where
  pub tag_fits : h.tag < 2 ^ 32
  pub length_fits : h.length < 2 ^ 32
  pub rkey_fits : h.rkey < 2 ^ 32

-- what is read of a header's bytes with others behind them
pub record IsReadBack (h : Header) (others : List ℕ) : Type 0 where
  pub header : header_of (header_bytes h ++ others) ≡ h
  pub behind : drop header_length (header_bytes h ++ others) ≡ others
  pub size : length (header_bytes h) ≡ header_length

-- a header reads back, whatever follows it
abbrev pub HeadersAreRead : Type 0
HeadersAreRead = (h : Header) (others : List ℕ) → IsHeader h → IsReadBack h others

-- a letter as it arrives: without its body where that is to be fetched
abbrev pub arrives_as : Letter → Arrival
arrives_as l = record { tag = l.tag; body = if is_rendezvous l.body then None else Some l.body }

-- what is read of the message of a letter of sender i
pub record IsMessageRead (i : ℕ) (l : Letter) : Type 0 where
  pub arrival : arrival_of (header_of (message_of i l)) (message_of i l) ≡ arrives_as l
  pub fetch : fetch_of (header_of (message_of i l)) ≡ (if is_rendezvous l.body then Some (record { length = length l.body; rkey = sender_remote_key i }) else None)

-- the tag and the body of a letter are in their ranges
pub record IsLetter (l : Letter) : Type 0 where
  pub tag_fits : l.tag < 2 ^ 32
  pub body_fits : length l.body ≤ most_bytes

-- a message reads as the letter that it carries
abbrev pub MessagesAreRead : Type 0
MessagesAreRead = (i : ℕ) (l : Letter) → i ≤ 8 → IsLetter l → IsMessageRead i l
