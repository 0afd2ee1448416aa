-- What becomes of the two ends of a connection where one sends a request and takes its answers.
use Rattle.std.specs.Prelude.{◌≡◌, ℕ, ◌-◌, ◌≤◌, ◌⊎◌, true, false, List, Option, is_some}
use Rattle.rdma_types.specs.Spans.{Piece, piece_at}
use Rattle.protocol.specs.Bytes.{byte_at, number_at}
use Rattle.protocol.specs.State.{Sender, Link, End, Context}
use Rattle.protocol.specs.Wire.{Packet}
use Rattle.protocol.specs.EndWords.{is_paused}
use Rattle.protocol.specs.Requester.{end_of_queue}
use Rattle.protocol.specs.Responder.{is_invalid, is_not_ready, target}

-- ---- the end that sends

-- it sends nothing: it is in Error, waits for its RNR timer, or is Paused
abbrev pub IsHeld : Link → Type 0
IsHeld l = (l.ended ≡ true) ⊎ (l.sender.rnr_wait ≡ true) ⊎ (is_paused l.moving.phase ≡ true)

-- the piece of a number
abbrev pub piece_with : Link → ℕ → Option Piece
piece_with l n = piece_at l.sender.untold l.terms.mtu (n - l.sender.first)

-- `next` stayed, or rose no further than `una`
abbrev pub WentOn : Sender → Sender → Type 0
WentOn s s' = (s.next ≤ s'.next) × ((s'.next ≤ s.next) ⊎ (s'.next ≤ s'.una))

-- what an answer leaves of an end that sends: `una` did not fall, its queue is the same from there on, and `next` went on; or, only
-- where Back holds, `next` went back to `una`
pub record IsFurther (Back : Type 0) (l l' : Link) : Type 0 where
  pub ended : l'.ended ≡ l.ended
  pub wait : l'.sender.rnr_wait ≡ l.sender.rnr_wait
  pub peer : l'.peer ≡ l.peer
  pub terms : l'.terms ≡ l.terms
  pub moving : l'.moving ≡ l.moving
  pub end : end_of_queue l'.terms l'.sender ≡ end_of_queue l.terms l.sender
  pub una : l.sender.una ≤ l'.sender.una
  pub pieces : (n : ℕ) → l'.sender.una ≤ n → piece_with l' n ≡ piece_with l n
  pub next : WentOn l.sender l'.sender ⊎ (Back × (l'.sender.next ≤ l'.sender.una))

-- .. or it is held
abbrev pub IsTurned : Type 0 → Link → Link → Type 0
IsTurned Back l l' = IsHeld l' ⊎ IsFurther Back l l'

-- ---- answers by their bytes

-- a READ response, an old value, an ACK, or an RNR NAK
abbrev pub IsCalm : List ℕ → Type 0
IsCalm bs =
    (byte_at 0 bs ≡ 0x0E)
    ⊎ ((byte_at 12 bs ≡ 0x1F) × ((byte_at 0 bs ≡ 0x0D) ⊎ (byte_at 0 bs ≡ 0x0F) ⊎ (byte_at 0 bs ≡ 0x10) ⊎ (byte_at 0 bs ≡ 0x11) ⊎ (byte_at 0 bs ≡ 0x12)))
    ⊎ ((byte_at 12 bs ≡ 0x20) × (byte_at 0 bs ≡ 0x11))

-- NAK 0, 1 or 2
abbrev pub IsNak : List ℕ → Type 0
IsNak bs = (byte_at 0 bs ≡ 0x11) × ((byte_at 12 bs ≡ 0x60) ⊎ (byte_at 12 bs ≡ 0x61) ⊎ (byte_at 12 bs ≡ 0x62))

-- an answer to the end with that number; a NAK only where Back holds
pub record IsAnswerTo (number : ℕ) (Back : Type 0) (bs : List ℕ) : Type 0 where
  pub dest : number_at 5 3 bs ≡ number
  pub kind : IsCalm bs ⊎ (Back × IsNak bs)

-- ---- the end that takes the request

-- the request d is the expected one, and all that it lacks is a receive
pub record IsDryFor (c : Context) (e : End) (l : Link) (d : Packet) : Type 0 where
  pub valid : is_invalid l d ≡ false
  pub granted : is_some (target c e d) ≡ true
  pub dry : is_not_ready e d ≡ true
