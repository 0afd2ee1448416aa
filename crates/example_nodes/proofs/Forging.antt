-- A node takes datagrams that no node sent.
use Rattle.std.proofs.Common.{arith, ◌≡◌, ℕ, zero, suc, List, [], ◌∷◌, ◌++◌, Some, inl, refl}
use Rattle.std.specs.Prelude.{All, slice_get}
use Rattle.std.proofs.lemmas.List.Elements.{All-cons, All-nil}
use Rattle.protocol.specs.State.{Flight}
use Rattle.node_rules.specs.Script.{node_plan}
use Rattle.order_rules.specs.Evaluate.{opened}
use Rattle.order_rules.specs.Sides.{IsNeverAged}
use Rattle.law_nodes.specs.Acts.{MayDoAll, beginning}
use Rattle.law_nodes.specs.Bounded.{AreRunning, IsRunning}
use Rattle.law_nodes.specs.Composed.{Deed, IsNodeRun, IsOfNode, IsWholeIn, acts_on, lines_from, lines_of_deeds, node_at, openings_of}
use Rattle.example_nodes.specs.Composition.{calls_with, left_with}
use Rattle.example_nodes.specs.Evaluate.{run_of, spelled}
use Rattle.example_nodes.specs.Forged.{hears, nodes, order, prepares, serves, watched}
use Rattle.example_nodes.specs.Things.{serving_script, two}
use Rattle.example_nodes.proofs.Compositions.{all_of_bytes, leads_with, of_line, terms_in_range}

may : MayDoAll (beginning 2 two) (prepares ++ serves)
may = (
  tt,
  (
    of_line tt tt refl,
    (
      of_line tt tt refl,
      (
        of_line (omega arith, omega arith, omega arith, omega arith) (omega arith, omega arith, omega arith, omega arith) refl,
        (
          of_line (omega arith, omega arith) (omega arith, omega arith) refl,
          (
            of_line (omega arith, omega arith, omega arith, omega arith) ((omega arith, omega arith), (omega arith, omega arith)) refl,
            (
              of_line tt (omega arith, terms_in_range 200 100 (omega arith) (omega arith)) tt,
              (tt, (tt, (tt, (tt, (tt, (tt, (tt, (tt, (tt, (tt, (of_line tt tt tt, tt))))))))))),
            ),
          ),
        ),
      ),
    ),
  ),
)

runs : IsNodeRun watched
unfolding run_of spelled calls_with
runs = record {
  left = left_with (node_plan 2 two serving_script) hears;
  leads = leads_with (node_plan 2 two serving_script) hears;
  done = record { acts = prepares ++ serves; may = may; unmade = []; made = refl; cut = inl refl };
  same = refl;
}

is_running : IsRunning watched
is_running = record {
  run = runs;
  some_id = omega arith;
  few_ids = omega arith;
  of_bytes = all_of_bytes (prepares ++ serves) (tt, (tt, (tt, (tt, (tt, (tt, (tt, (tt, (tt, (tt, (tt, (tt, (tt, (tt, (tt, (tt, (tt, (tt, tt))))))))))))))))));
}

abbrev AreOfNodes : List Deed → Type 0
AreOfNodes [] = Unit {0}
AreOfNodes (x ∷ xs) = IsOfNode nodes x × AreOfNodes xs

all_of_nodes : (xs : List Deed) → AreOfNodes xs → All (IsOfNode nodes) xs
all_of_nodes [] each = All-nil (IsOfNode nodes)
all_of_nodes (x ∷ xs) each = All-cons (IsOfNode nodes) x xs each.0 (all_of_nodes xs each.1)

of_nodes : AreOfNodes order
unfolding opened run_of spelled
of_nodes = (refl, (refl, (refl, (refl, (refl, (refl, (refl, (refl, (refl, (refl, (refl, tt)))))))))))

whole : All (IsWholeIn order) nodes
unfolding acts_on
whole = All-cons (IsWholeIn order) watched [] refl (All-nil (IsWholeIn order))

pub running : AreRunning nodes order
running = record { runs = All-cons IsRunning watched [] is_running (All-nil IsRunning); of_nodes = all_of_nodes order of_nodes; whole = whole }

none_there : (k : ℕ) (f : Flight) → slice_get [] k ≡ Some f → ⊥
none_there zero f h = cc
none_there (suc k) f h = cc

-- the first datagram was not sent by anybody
pub unsent : IsNeverAged (openings_of nodes) (lines_of_deeds nodes order) → ⊥
unfolding opened run_of spelled node_at lines_from
unsent in_time = let first = in_time 0 _ refl in none_there first.0 first.1 first.2.there
