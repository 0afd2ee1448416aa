-- Calls that follow one another, and parts of a plan that do.
use Rattle.std.proofs.Common.{List, [], ◌∷◌, ◌++◌, refl, sym, subst}
use Rattle.node_rules.specs.Parts.{Comes, IsMadeWhole, joined}
use Rattle.node_rules.specs.Plan.{Call, Leads, Plan}
use Rattle.node_rules.specs.Stops.{StopsAt}
use Rattle.node_rules.specs.Told.{Contents, TellsAll}

-- calls after calls
pub leads_on : (prefix back : List Call) (plan between left : Plan) → Leads plan prefix between → Leads between back left → Leads plan (prefix ++ back) left
leads_on [] back plan between left a b = subst (λ p. Leads p back left) (sym a) b
leads_on (call ∷ prefix) back plan between left a b = (a.0, a.1, leads_on prefix back a.0 between left a.2 b)

-- what they told
pub tells_on : (prefix back : List Call) (before between after : Contents) → TellsAll before prefix between → TellsAll between back after → TellsAll before (prefix ++ back) after
tells_on [] back before between after a b = subst (λ t. TellsAll t back after) a b
tells_on (call ∷ prefix) back before between after a b = (a.0, a.1, tells_on prefix back a.0 between after a.2 b)

-- nothing was called yet
pub comes_nowhere : {A : Type 0} (part : (A → Plan) → Plan) (t : Contents) → Comes part part t t
comes_nowhere part t = record { calls = []; leads = λ more. refl; tells = refl }

-- one call
pub comes_by : {A : Type 0} (part left : (A → Plan) → Plan) (call : Call) (before after : Contents) → ((more : A → Plan) → Leads (part more) (call ∷ []) (left more)) → TellsAll before (call ∷ []) after → Comes part left before after
comes_by part left call before after leads tells = record { calls = call ∷ []; leads = leads; tells = tells }

-- one piece of a part after another
pub comes_on : {A : Type 0} (part between left : (A → Plan) → Plan) (before reached after : Contents) → Comes part between before reached → Comes between left reached after → Comes part left before after
comes_on part between left before reached after a b = record {
  calls = a.calls ++ b.calls;
  leads = λ more. leads_on a.calls b.calls (part more) (between more) (left more) (a.leads more) (b.leads more);
  tells = tells_on a.calls b.calls before reached after a.tells b.tells;
}

-- a piece of the first of two parts
pub comes_inside : {A B : Type 0} (part left : (A → Plan) → Plan) (next : A → (B → Plan) → Plan) (before after : Contents) → Comes part left before after → Comes (joined part next) (joined left next) before after
comes_inside part left next before after a = record { calls = a.calls; leads = λ more. a.leads (λ x. next x more); tells = a.tells }

-- parts that were made whole, one after the other
pub parts_join : {A B : Type 0} (part : (A → Plan) → Plan) (next : A → (B → Plan) → Plan) (x : A) (y : B) (before between after : Contents) → IsMadeWhole part x before between → IsMadeWhole (next x) y between after → IsMadeWhole (joined part next) y before after
parts_join part next x y before between after a b =
    comes_on (joined part next) (next x) (λ more. more y) before between after (comes_inside part (λ more. more x) next before between a) b

-- what stops a plan that was reached stops the whole
pub stops_on : (Stop : Plan → Contents → Contents → Type 0) {A : Type 0} (part left : (A → Plan) → Plan) (more : A → Plan) (before between after : Contents) → Comes part left before between → StopsAt Stop (left more) between after → StopsAt Stop (part more) before after
stops_on Stop part left more before between after a b = record {
  calls = a.calls ++ b.calls;
  left = b.left;
  reached = b.reached;
  made = record {
    leads = leads_on a.calls b.calls (part more) (left more) b.left (a.leads more) b.made.leads;
    tells = tells_on a.calls b.calls before between b.reached a.tells b.made.tells;
  };
  stop = b.stop;
}

-- what stops a plan at once
pub stops_here : (Stop : Plan → Contents → Contents → Type 0) (plan : Plan) (before after : Contents) → Stop plan before after → StopsAt Stop plan before after
stops_here Stop plan before after stop = record { calls = []; left = plan; reached = before; made = record { leads = refl; tells = refl }; stop = stop }
