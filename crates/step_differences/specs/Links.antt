-- Two links with equal numbers of their requesters and responders.
use Rattle.std.specs.Prelude.{◌≡◌}
use Rattle.protocol.specs.declared.images.LinkImage.{LinkImage}

-- requesters and responders are equal, as far as they are numbers and flags
pub record AreSameNumbers (a b : LinkImage) : Type 0 where
  pub first : a.first ≡ b.first
  pub una : a.una ≡ b.una
  pub next : a.next ≡ b.next
  pub top : a.top ≡ b.top
  pub spent : a.spent ≡ b.spent
  pub waits : a.waits ≡ b.waits
  pub rnr_wait : a.rnr_wait ≡ b.rnr_wait
  pub expected : a.expected ≡ b.expected
  pub nak_sent : a.nak_sent ≡ b.nak_sent
  pub msn : a.msn ≡ b.msn

-- states, partners, moves and terms are equal
pub record AreSameSides (a b : LinkImage) : Type 0 where
  pub ended : a.ended ≡ b.ended
  pub peer : a.peer ≡ b.peer
  pub partner : a.partner ≡ b.partner
  pub moves : a.moves ≡ b.moves
  pub partner_moves : a.partner_moves ≡ b.partner_moves
  pub resuming : a.resuming ≡ b.resuming
  pub terms : a.terms ≡ b.terms
