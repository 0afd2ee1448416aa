-- What an end sends for a reply.
use Rattle.std.specs.Prelude.{◌≡◌, ◌==◌, [], false}
use Rattle.protocol.specs.EndStep.{takes}
use Rattle.protocol.specs.EndWords.{EndStep}
use Rattle.protocol.specs.State.{Context, End, Link}
use Rattle.protocol.specs.Wire.{Packet, is_request}

-- it sends nothing
pub record IsSilent (s : EndStep) : Type 0 where
  pub none : s.sent ≡ []

-- a packet that is neither a request nor a RESUME is not answered
abbrev pub RepliesAreSilent : Type 0
RepliesAreSilent = (c : Context) (e : End) (l : Link) (d : Packet) → is_request d.opcode ≡ false → (d.opcode == 0x1E) ≡ false → IsSilent (takes c e l d)
