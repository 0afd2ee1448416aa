-- Parts of a plan that were made, whatever follows them (this project's choice).
use Rattle.std.specs.Prelude.{List}
use Rattle.node_rules.specs.Plan.{Call, Leads, Plan}
use Rattle.node_rules.specs.Told.{Contents, TellsAll}

-- calls of the part were made, the objects told what they told, and of the part that is left
pub record Comes {A : Type 0} (part left : (A → Plan) → Plan) (before after : Contents) : Type 0 where
  pub calls : List Call
  pub leads : (more : A → Plan) → Leads (part more) calls (left more)
  pub tells : TellsAll before calls after

-- the part was made whole, and gave that value to what follows it
abbrev pub IsMadeWhole : {A : Type 0} → ((A → Plan) → Plan) → A → Contents → Contents → Type 0
IsMadeWhole part x before after = Comes part (λ more. more x) before after

-- one part, and then another of its value
abbrev pub joined : {A B : Type 0} → ((A → Plan) → Plan) → (A → (B → Plan) → Plan) → (B → Plan) → Plan
joined part next more = part λ x. next x more
