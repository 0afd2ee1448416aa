-- What a run leaves of the counts of faults.
use Rattle.std.proofs.Common.{◌≡◌, ◌∙◌, List, [], ◌∷◌, None, Some, Result, Ok, Err, ap, subst}
use Rattle.node_rules.specs.Plan as plan
use Rattle.node_rules.specs.Plan.{Call, Plan}
use Rattle.node_rules.specs.Stops.{HasEnded, Rises, StopsAt}
use Rattle.node_rules.specs.Told.{Contents, Counts, Tells, TellsAll}
use Rattle.node_engine.specs.Answered.{Answers}
use Rattle.node_engine.specs.Counting.{Counted}
use Rattle.node_engine.specs.declared.faults.NodeFault.{NodeFault}
use Rattle.node_engine.specs.declared.faults.NodeFault.TheVariants as fault

-- the counts of what the objects tell
abbrev pub counts : Contents → Counts
counts t = t.faults

-- a call that was answered counts no fault
one_keeps : (call : Call) (t t' : Contents) → Tells t call t' → t'.faults ≡ t.faults
one_keeps (plan.Started own) t t' h = ap counts h
one_keeps (plan.Took got) t t' h = ap counts h.1
one_keeps (plan.Sent datagram) t t' h = ap counts h.1
one_keeps (plan.Asked moment) t t' h = ap counts h.1
one_keeps (plan.Put name bytes) t t' h = ap counts h.1
one_keeps (plan.Looked name found) t t' h = ap counts h.1
one_keeps (plan.Removed name None) t t' h = ap counts h.1
one_keeps (plan.Removed name (Some bytes)) t t' h = ap counts h.1.1
one_keeps (plan.Wrote text) t t' h = ap counts h.1

-- .. nor do several
all_keep : (calls : List Call) (t t' : Contents) → TellsAll t calls t' → t'.faults ≡ t.faults
all_keep [] t t' h = ap counts h
all_keep (call ∷ calls) t t' h = all_keep calls h.0 t' h.2 ∙ one_keeps call t h.0 h.1

-- where the plan ended
ended_counts : (ending : plan.Ending) (p : Plan) (t t' : Contents) → StopsAt (HasEnded ending) p t t' → t'.faults ≡ t.faults
ended_counts ending p t t' a = ap counts a.stop.1 ∙ all_keep a.calls t a.reached a.made.tells

-- the counts of a run, by its answer
pub counts_of : {U : Type 0} (p : Plan) (t t' : Contents) (r : Result U NodeFault) → Answers p t r t' → Counted t.faults r t'.faults
counts_of p t t' (Ok u) a = ended_counts plan.AllAnswered p t t' a
counts_of p t t' (Err (fault.BadLine line column why)) a = ended_counts (plan.BadLine line (record { column = column; why = why })) p t t' a
counts_of p t t' (Err (fault.BadDump place why)) a = ended_counts (plan.BadDump place why) p t t' a
counts_of p t t' (Err fault.WriteFault) a =
    let k : a.reached.faults ≡ t.faults = all_keep a.calls t a.reached a.made.tells in
    let e : t'.faults ≡ record t.faults { output = t'.faults.output } = ap counts a.stop.2 ∙ ap (λ (c : Counts). record c { output = t'.faults.output }) k in
    (subst (λ (c : Counts). Rises c.output t'.faults.output) k a.stop.1, e)
counts_of p t t' (Err fault.LinkFault) a =
    let k : a.reached.faults ≡ t.faults = all_keep a.calls t a.reached a.made.tells in
    let e : t'.faults ≡ record t.faults { link = t'.faults.link } = ap counts a.stop.2 ∙ ap (λ (c : Counts). record c { link = t'.faults.link }) k in
    (subst (λ (c : Counts). Rises c.link t'.faults.link) k a.stop.1, e)
counts_of p t t' (Err fault.DepotFault) a =
    let k : a.reached.faults ≡ t.faults = all_keep a.calls t a.reached a.made.tells in
    let e : t'.faults ≡ record t.faults { depot = t'.faults.depot } = ap counts a.stop.3 ∙ ap (λ (c : Counts). record c { depot = t'.faults.depot }) k in
    (subst (λ (c : Counts). Rises c.depot t'.faults.depot) k a.stop.2, e)
counts_of p t t' (Err (fault.Missing name)) a = ended_counts (plan.Missing name) p t t' a
counts_of p t t' (Err fault.OutOfMemory) a = ap counts a.stop.1 ∙ all_keep a.calls t a.reached a.made.tells
