-- Parts of messages as the code names them.
use Rattle.protocol.specs.Responder as words
use Rattle.responder.specs.declared.kinds.Part.{Part}
use Rattle.responder.specs.declared.kinds.Part.TheVariants.{First, Middle, Last, Only, NoPart}

-- the same part in the protocol's words
abbrev pub part_in : Part → words.Part
part_in First = words.First
part_in Middle = words.Middle
part_in Last = words.Last
part_in Only = words.Only
part_in NoPart = words.NoPart
