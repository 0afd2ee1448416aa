-- A whole script: its lines one after another.
use Rattle.std.proofs.Common.{◌≡◌, ◌+◌, ◌==◌, ◌≤◌, ℕ, List, [], ◌∷◌, Bool, true, false, Result, Ok, Err, length, refl, sym, subst, arith, if◌then◌else◌}
use Rattle.std.proofs.lemmas.List.Splits.{length-slice_split}
use Rattle.std.proofs.lemmas.List.Sums.{count_by-le-length}
use Rattle.std.specs.List.{slice_split}
use Rattle.std.specs.Result.{IsErrAnd}
use Rattle.node_rules.specs.Node.{Node, new_node}
use Rattle.node_rules.specs.Parts.{Comes, IsMadeWhole}
use Rattle.node_rules.specs.Plan as plan
use Rattle.node_rules.specs.Plan.{Plan}
use Rattle.node_rules.specs.Script.{lines_do, node_plan, reading_does}
use Rattle.node_rules.specs.Stops.{HasEnded, StopsAt}
use Rattle.node_rules.specs.Told.{Contents}
use Rattle.node_rules.proofs.Joining.{stops_here, stops_on}
use Rattle.rdma_types.specs.declared.requests.Address.{Address}
use Rattle.node_engine.specs.declared.faults.NodeFault.TheVariants as fault
use Rattle.node_engine.specs.LineFaults.{fault_at_line}
use Rattle.script_lang.specs.declared.lines.LineFault.{LineFault}
use Rattle.script_lang.specs.declared.lines.LineFault.TheVariants as line_fault
use Rattle.script_lang.specs.declared.lines.NodeLine.{NodeLine}
use Rattle.script_lang.specs.declared.lines.Offence.{Offence}
use Rattle.script_lang.specs.Lines.{Says, node_reading_of}
use Rattle.script_lang.specs.Scripts.{is_newline, lines_in, lines_of}
use Rattle.node_engine.specs.Answered.{Answers, stop_of}
use Rattle.node_engine.specs.declared.faults.NodeFault.{NodeFault}
use Rattle.node_engine.proofs.Parts.{Fails, fails_on, ran_out_at_once}
use Rattle.node_engine.proofs.Steps.{lines_fails, lines_next}

-- an error that is that fault
pub answers_as : {U : Type 0} (p : Plan) (e : NodeFault) (t t' : Contents) (r : Result U NodeFault) → IsErrAnd r (λ x. x ≡ e) → StopsAt (stop_of e) p t t' → Answers p t r t'
answers_as p e t t' (Ok u) h a = absurd h
answers_as p e t t' (Err y) h a = subst (λ z. StopsAt (stop_of z) p t t') (sym h) a

-- ---- the start

module _ (id : ℕ) (own : Address) (text : List ℕ) (t t' : Contents) where
  -- the link was started
  pub started : IsMadeWhole {A = Unit {0}} (λ more. plan.Starts own (more tt)) tt t t' → Comes {A = Unit {0}} (λ more. node_plan id own text) (λ more. lines_do 1 (lines_of text) (new_node id own)) t t'
  unfolding node_plan
  started a = record { calls = a.calls; leads = λ more. a.leads (λ u. lines_do 1 (lines_of text) (new_node id own)); tells = a.tells }

  -- it was not started
  pub not_started : (f : NodeFault) → Fails {A = Unit {0}} (λ more. plan.Starts own (more tt)) f t t' → StopsAt (stop_of f) (node_plan id own text) t t'
  unfolding node_plan
  not_started f h = h (λ u. lines_do 1 (lines_of text) (new_node id own))

-- ---- the lines

-- a plan that came so far fails as what is left fails
pub stops_so_far : (p : Plan) (left : (Unit {0} → Plan) → Plan) (f : NodeFault) (t t' t'' : Contents) → Comes {A = Unit {0}} (λ more. p) left t t' → Fails left f t' t'' → StopsAt (stop_of f) p t t''
stops_so_far p left f t t' t'' a b = fails_on {A = Unit {0}} (λ more. p) left f t t' t'' a b (λ u. plan.Ends plan.AllAnswered)

-- one line more
pub line_done : (number : ℕ) (lines rest : List (List ℕ)) (bs : List ℕ) (v w : Node) (t t' : Contents) → lines ≡ bs ∷ rest → IsMadeWhole (reading_does number v (node_reading_of bs)) w t t' → Comes {A = Unit {0}} (λ more. lines_do number lines v) (λ more. lines_do (number + 1) rest w) t t'
line_done number lines rest bs v w t t' e a =
    subst (λ ls. Comes {A = Unit {0}} (λ more. lines_do number ls v) (λ more. lines_do (number + 1) rest w) t t') (sym e) (lines_next number bs rest v w t t' a)

pub line_not_done : (number : ℕ) (lines rest : List (List ℕ)) (bs : List ℕ) (v : Node) (f : NodeFault) (t t' : Contents) → lines ≡ bs ∷ rest → Fails (reading_does number v (node_reading_of bs)) f t t' → Fails {A = Unit {0}} (λ more. lines_do number lines v) f t t'
line_not_done number lines rest bs v f t t' e a =
    subst (λ ls. Fails {A = Unit {0}} (λ more. lines_do number ls v) f t t') (sym e) (lines_fails number bs rest v f t t' a)

-- no line is left
pub all_answered : (p : Plan) (number : ℕ) (lines : List (List ℕ)) (v : Node) (t t' : Contents) → lines ≡ [] → Comes {A = Unit {0}} (λ more. p) (λ more. lines_do number lines v) t t' → StopsAt (HasEnded plan.AllAnswered) p t t'
unfolding lines_do
all_answered p number lines v t t' e a =
    let here : Comes {A = Unit {0}} (λ more. p) (λ more. plan.Ends plan.AllAnswered) t t' = subst (λ ls. Comes {A = Unit {0}} (λ more. p) (λ more. lines_do number ls v) t t') e a in
    stops_on (HasEnded plan.AllAnswered) {A = Unit {0}} (λ more. p) (λ more. plan.Ends plan.AllAnswered) (λ u. plan.Ends plan.AllAnswered) t t' t' here
    (stops_here (HasEnded plan.AllAnswered) (plan.Ends plan.AllAnswered) t' t' (refl, refl))

-- a line that is not read ends the run
pub line_unread : (number : ℕ) (v : Node) (reading : Result NodeLine Offence) (f : LineFault) (e : NodeFault) (t : Contents) → e ≡ fault_at_line number f → Says {L = NodeLine} (Err f) reading → Fails (reading_does number v reading) e t t
line_unread number v reading (line_fault.Bad column why) e t same h =
    let stopped : Fails (reading_does number v reading) (fault.BadLine number column why) t t =
    λ more. subst (λ r. StopsAt (HasEnded (plan.BadLine number (record { column = column; why = why }))) (reading_does number v r more) t t) (sym h)
    (stops_here (HasEnded (plan.BadLine number (record { column = column; why = why }))) (plan.Ends (plan.BadLine number (record { column = column; why = why }))) t t (refl, refl)) in
    subst (λ x. Fails (reading_does number v reading) x t t) (sym same) stopped
line_unread number v reading line_fault.OutOfMemory e t same h =
    subst (λ x. Fails (reading_does number v reading) x t t) (sym same) (ran_out_at_once (reading_does number v reading) t)

-- ---- how many lines there are

length-lines_in : (pieces : List (List ℕ)) → length (lines_in pieces) ≤ length pieces
unfolding lines_in
length-lines_in [] = omega arith
length-lines_in (last ∷ []) = last_by (length last == 0)
  where
    last_by : (b : Bool) → length (if b then [] else last ∷ []) ≤ 1
    last_by true = omega arith
    last_by false = omega arith
length-lines_in (piece ∷ next ∷ more) = omega (arith, length-lines_in (next ∷ more))

-- a text has no more lines than bytes, and one
pub length-lines_of : (text : List ℕ) → length (lines_of text) ≤ length text + 1
unfolding lines_of
length-lines_of text = omega (arith, length-lines_in (slice_split is_newline text), length-slice_split is_newline text, count_by-le-length is_newline text)
