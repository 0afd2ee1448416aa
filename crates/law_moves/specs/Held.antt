-- An image has every field of the context that was stopped.
use Rattle.std.specs.Prelude.{◌≡◌, List, [], ◌∷◌, Option, Some, None}
use Rattle.protocol.specs.declared.images.ContextImage.{ContextImage}
use Rattle.protocol.specs.Images.{context_of}
use Rattle.protocol.specs.Moves.{unpaused}
use Rattle.protocol.specs.State.{Context, End, Link}

-- a link, and as an image has it: Paused is no field of an image, and such a link is Running in it
pub record IsHeldLink (old new : Link) : Type 0 where
  pub ended : new.ended ≡ old.ended
  pub peer : new.peer ≡ old.peer
  pub terms : new.terms ≡ old.terms
  pub partner : new.moving.partner ≡ old.moving.partner
  pub own : new.moving.own ≡ old.moving.own
  pub recorded : new.moving.recorded ≡ old.moving.recorded
  pub phase : new.moving.phase ≡ unpaused old.moving.phase
  pub untold : new.sender.untold ≡ old.sender.untold
  pub first : new.sender.first ≡ old.sender.first
  pub una : new.sender.una ≡ old.sender.una
  pub next : new.sender.next ≡ old.sender.next
  pub top : new.sender.top ≡ old.sender.top
  pub spent : new.sender.spent ≡ old.sender.spent
  pub waits : new.sender.waits ≡ old.sender.waits
  pub rnr_wait : new.sender.rnr_wait ≡ old.sender.rnr_wait
  pub expected : new.receiver.expected ≡ old.receiver.expected
  pub nak_sent : new.receiver.nak_sent ≡ old.receiver.nak_sent
  pub msn : new.receiver.msn ≡ old.receiver.msn
  pub in_progress : new.receiver.progress ≡ old.receiver.progress
  pub kept : new.receiver.kept ≡ old.receiver.kept

-- both in Init, or a link and as an image has it
abbrev pub AreHeldLinks : Option Link → Option Link → Type 0
AreHeldLinks None None = Unit {0}
AreHeldLinks None (Some new) = ⊥
AreHeldLinks (Some old) None = ⊥
AreHeldLinks (Some old) (Some new) = IsHeldLink old new

-- an end, and as an image has it
pub record IsHeldEnd (old new : End) : Type 0 where
  pub name : new.name ≡ old.name
  pub number : new.number ≡ old.number
  pub domain : new.domain ≡ old.domain
  pub send_cq : new.send_cq ≡ old.send_cq
  pub recv_cq : new.recv_cq ≡ old.recv_cq
  pub send_depth : new.send_depth ≡ old.send_depth
  pub recv_depth : new.recv_depth ≡ old.recv_depth
  pub unused : new.unused ≡ old.unused
  pub link : AreHeldLinks old.link new.link

-- ends, and as an image has them, in order
abbrev pub AreHeldEnds : List End → List End → Type 0
AreHeldEnds [] [] = Unit {0}
AreHeldEnds [] (new ∷ news) = ⊥
AreHeldEnds (old ∷ olds) [] = ⊥
AreHeldEnds (old ∷ olds) (new ∷ news) = IsHeldEnd old new × AreHeldEnds olds news

-- the context that an image says is the other one, field by field
pub record HasEveryField (c : Context) (image : ContextImage) : Type 0 where
  pub name : image.name ≡ c.name
  pub domains : image.domains ≡ c.domains
  pub regions : (context_of image).regions ≡ c.regions
  pub queues : (context_of image).queues ≡ c.queues
  pub ends : AreHeldEnds c.ends (context_of image).ends
