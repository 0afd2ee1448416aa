use Rattle.std.proofs.Common.{◌≡◌, ◌+◌, ℕ, List, length, sym, ap, subst, arith}
use Rattle.node_rules.specs.Node.{Node, new_node}
use Rattle.node_rules.specs.Parts.{Comes}
use Rattle.node_rules.specs.Script.{lines_do, node_plan}
use Rattle.node_rules.specs.Told.{Contents}
use Rattle.node_rules.proofs.Joining.{comes_nowhere, comes_on}
use Rattle.rdma_types.specs.declared.requests.Address.{Address}
use Rattle.script_lang.specs.Scripts.{lines_of}
use Rattle.node_engine.specs.declared.faults.NodeFault.TheVariants as fault
use Rattle.node_engine.proofs.Parts.{ran_out_at_once}
use Rattle.node_engine.proofs.WholeScript.{all_answered, answers_as, length-lines_of, line_done, line_not_done, not_started, started, stops_so_far}
use Rattle.node_engine.proofs.running.run.Goals as goal

-- from the start on to the loop's lines
begun : (id : ℕ) (own : Address) (text : List ℕ) (lines : List (List ℕ)) (v : Node) (t t' : Contents) → lines ≡ lines_of text → v ≡ new_node id own → Comes {A = Unit {0}} (λ more. node_plan id own text) (λ more. lines_do 1 (lines_of text) (new_node id own)) t t' → Comes {A = Unit {0}} (λ more. node_plan id own text) (λ more. lines_do 1 lines v) t t'
begun id own text lines v t t' el ev a =
    subst (λ ls. Comes {A = Unit {0}} (λ more. node_plan id own text) (λ more. lines_do 1 ls v) t t') (sym el)
    (subst (λ (n : Node). Comes {A = Unit {0}} (λ more. node_plan id own text) (λ more. lines_do 1 (lines_of text) n) t t') (sym ev) a)

pub returns-in_err-start : goal.returns-in_err-start
returns-in_err-start g c = answers_as (node_plan c.args.id c.args.own c.args.input.now) c.in_err-start.field-0.0 _ _ c.from_residual.result c.from_residual.ensures.1 (not_started c.args.id c.args.own c.args.input.now _ _ c.in_err-start.field-0.0 c.in_err-start.ensures)

pub returns-in_err-node : goal.returns-in_err-node
returns-in_err-node g c = answers_as (node_plan c.args.id c.args.own c.args.input.now) fault.OutOfMemory _ _ c.from_residual-in_err-node.result c.from_residual-in_err-node.ensures.1 (stops_so_far (node_plan c.args.id c.args.own c.args.input.now) (λ more. lines_do 1 (lines_of c.args.input.now) (new_node c.args.id c.args.own)) fault.OutOfMemory _ _ _ (started c.args.id c.args.own c.args.input.now _ _ c.in_ok-start.ensures) (ran_out_at_once (λ more. lines_do 1 (lines_of c.args.input.now) (new_node c.args.id c.args.own)) _))

pub overflow_add-number : goal.overflow_add-number
overflow_add-number g c = omega (arith, ap length c.in-Some.ensures.line, ap length c.new-lines.ensures, c.loop-line.invariant.count, length-lines_of c.args.input.now)

pub loop-line-init : goal.loop-line-init
loop-line-init g c = record { come = comes_nowhere {A = Unit {0}} (λ more. lines_do 1 c.new-lines.result c.in_ok-node.node) _; count = omega arith }

pub loop-line-preserved : goal.loop-line-preserved
loop-line-preserved g c =
    record {
      come = comes_on {A = Unit {0}} (λ more. lines_do 1 c.new-lines.result c.in_ok-node.node) (λ more. lines_do (c.loop-line.number + 1) c.loop-line.lines c.loop-line.node) (λ more. lines_do (c.loop-line.number + 1 + 1) c.next_line.new.self c.read_line.new.self) _ _ _
          c.loop-line.invariant.come
          (line_done (c.loop-line.number + 1) c.loop-line.lines c.next_line.new.self c.in-Some.line.now c.loop-line.node c.read_line.new.self _ _ c.in-Some.ensures.line c.in_ok-read_line.ensures);
      count = omega (arith, c.loop-line.invariant.count, ap length c.in-Some.ensures.line);
    }

pub returns-in_err-read_line : goal.returns-in_err-read_line
returns-in_err-read_line g c =
    answers_as (node_plan c.args.id c.args.own c.args.input.now) c.in_err-read_line.field-0.0 _ _ c.from_residual-in_err-read_line.result c.from_residual-in_err-read_line.ensures.1
    (stops_so_far (node_plan c.args.id c.args.own c.args.input.now) (λ more. lines_do (c.loop-line.number + 1) c.loop-line.lines c.loop-line.node) c.in_err-read_line.field-0.0 _ _ _
    (comes_on {A = Unit {0}} (λ more. node_plan c.args.id c.args.own c.args.input.now) (λ more. lines_do 1 c.new-lines.result c.in_ok-node.node) (λ more. lines_do (c.loop-line.number + 1) c.loop-line.lines c.loop-line.node) _ _ _ (begun c.args.id c.args.own c.args.input.now c.new-lines.result c.in_ok-node.node _ _ c.new-lines.ensures c.in_ok-node.ensures (started c.args.id c.args.own c.args.input.now _ _ c.in_ok-start.ensures)) c.loop-line.invariant.come)
    (line_not_done (c.loop-line.number + 1) c.loop-line.lines c.next_line.new.self c.in-Some.line.now c.loop-line.node c.in_err-read_line.field-0.0 _ _ c.in-Some.ensures.line c.in_err-read_line.ensures))

pub returns : goal.returns
returns g c =
    all_answered (node_plan c.args.id c.args.own c.args.input.now) (c.loop-line.number + 1) c.loop-line.lines c.loop-line.node _ _ c.in_default.ensures.end
    (comes_on {A = Unit {0}} (λ more. node_plan c.args.id c.args.own c.args.input.now) (λ more. lines_do 1 c.new-lines.result c.in_ok-node.node) (λ more. lines_do (c.loop-line.number + 1) c.loop-line.lines c.loop-line.node) _ _ _ (begun c.args.id c.args.own c.args.input.now c.new-lines.result c.in_ok-node.node _ _ c.new-lines.ensures c.in_ok-node.ensures (started c.args.id c.args.own c.args.input.now _ _ c.in_ok-start.ensures)) c.loop-line.invariant.come)
