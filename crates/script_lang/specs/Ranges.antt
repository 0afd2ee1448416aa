-- What lines say is in its ranges: numbers in their limits, terms and shapes as they may be (this project's choice).
use Rattle.std.specs.Prelude.{ℕ, ◌<◌, ◌≤◌, ◌^◌}
use Rattle.rdma_types.specs.declared.verbs.Verb.{Verb}
use Rattle.rdma_types.specs.declared.verbs.Verb.TheVariants as verb
use Rattle.rdma_types.specs.Limits.{AreTerms, most_capacity, most_depth, most_region_bytes}
use Rattle.rdma_types.specs.Shapes.{IsLawfulShape}
use Rattle.script_lang.specs.declared.lines.Line.{Line}
use Rattle.script_lang.specs.declared.lines.Line.TheVariants as line
use Rattle.script_lang.specs.declared.lines.NodeLine.{NodeLine}
use Rattle.script_lang.specs.declared.lines.NodeLine.TheVariants as node_line

-- a number is in a range
abbrev pub IsIn : ℕ → ℕ → ℕ → Type 0
IsIn low high n = (low ≤ n) × (n ≤ high)

-- a verb that a line says: no context, its numbers in their ranges, and a lawful shape
abbrev pub IsLawfulVerb : Verb → Type 0
IsLawfulVerb (verb.Context name made) = ⊥
IsLawfulVerb (verb.Connect one two terms) = AreTerms terms
IsLawfulVerb (verb.MakeRegion o domain base size rights) = (base ≤ 2 ^ 63) × IsIn 1 most_region_bytes size × (rights.0 ≤ 15)
IsLawfulVerb (verb.MakeCq o capacity) = IsIn 1 most_capacity capacity
IsLawfulVerb (verb.MakeQp o domain send_cq recv_cq send_depth recv_depth) = IsIn 1 most_depth send_depth × IsIn 1 most_depth recv_depth
IsLawfulVerb (verb.Load o at size) = IsIn 1 4096 size
IsLawfulVerb (verb.PostSend o r) = IsLawfulShape r.shape
IsLawfulVerb (verb.Poll o max) = IsIn 1 256 max
IsLawfulVerb v = Unit {0}

-- no `connect`, which a node has not
abbrev pub IsOfNode : Verb → Type 0
IsOfNode (verb.Connect one two terms) = ⊥
IsOfNode v = Unit {0}

-- what a line of a script of a world says is in its ranges
abbrev pub IsLawfulLine : Line → Type 0
IsLawfulLine (line.Verb v) = IsLawfulVerb v
IsLawfulLine (line.Device id address) = IsIn 1 255 id
IsLawfulLine (line.Context name device) = IsIn 1 255 device
IsLawfulLine (line.Restore name device) = IsIn 1 255 device
IsLawfulLine (line.Release name device) = IsIn 1 255 device
IsLawfulLine l = Unit {0}

-- what a line of a script of a node says is in its ranges
abbrev pub IsLawfulNodeLine : NodeLine → Type 0
IsLawfulNodeLine (node_line.Verb v) = IsLawfulVerb v × IsOfNode v
IsLawfulNodeLine (node_line.Link end peer partner terms) = (peer < 2 ^ 24) × AreTerms terms
IsLawfulNodeLine (node_line.Serve turns) = IsIn 1 100000 turns
IsLawfulNodeLine l = Unit {0}
