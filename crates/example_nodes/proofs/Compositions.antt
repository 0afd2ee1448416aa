-- The calls of a plan where the outside answers so, and what the three nodes do.
use Rattle.std.proofs.Common.{arith, ◌≡◌, ℕ, ◌<◌, ◌^◌, true, List, [], ◌∷◌, ◌++◌, length, Some, ap, inl, refl, subst, sym, ◌∙◌}
use Rattle.std.specs.Prelude.{All, codes, Bool, None, bytes_eq, if◌then◌else◌, false, nat_lt, ◌&&◌}
use Rattle.std.specs.List.{list_all}
use Rattle.std.proofs.lemmas.Bool.Decides.{nat_tests}
use Rattle.std.proofs.lemmas.List.Elements.{All-cons, All-nil}
use Rattle.protocol.specs.declared.events.WorldEvent.{WorldEvent}
use Rattle.protocol.specs.State.{empty_world}
use Rattle.protocol.specs.WorldStep.{world_after}
use Rattle.law_simulation.specs.Law.{IsInRange, IsRequestInRange}
use Rattle.node_rules.specs.Plan.{Asks, Leads, Looks, Plan, Puts, Removes, Sends, Starts, Takes, Writes}
use Rattle.node_rules.specs.Script.{node_plan}
use Rattle.order_rules.specs.AnyOpening.{ArePreparing}
use Rattle.order_rules.specs.Evaluate.{opened}
use Rattle.order_rules.specs.Sides.{IsFreshLine, IsInTimeLine, IsOneSidedLine}
use Rattle.law_nodes.specs.Acts as act
use Rattle.law_nodes.specs.Bounded.{AreRunning, IsOfBytes, IsRunning}
use Rattle.host_ports.specs.Depots.{Holding, nothing}
use Rattle.node_rules.specs.Outside.{set}
use Rattle.protocol.specs.DeviceStep.{device_step}
use Rattle.rdma_types.specs.declared.verbs.Verb.TheVariants as verbs
use Rattle.script_lang.specs.declared.lines.NodeLine.TheVariants as line_is
use Rattle.serve_rules.specs.Lines.{line_reply}
use Rattle.serve_rules.specs.Moving.{IsDumpOf, IsRestored, with_context}
use Rattle.serve_rules.specs.Server.{after, outcome_of as outcome_there}
use Rattle.law_nodes.specs.Served.{AreActsOfAll, AreDone, Says, restores, sent_by}
use Rattle.law_nodes.proofs.Serving.{line_device, line_waits}
use Rattle.law_nodes.specs.Acts.{Act, after_act, after_acts, IsAsked, IsDump, IsOfLine, MayDoAll, Standing, beginning, outcome_of}
use Rattle.law_devices.specs.Sound.{GivesNames}
use Rattle.protocol.specs.declared.events.Event.{Event}
use Rattle.protocol.specs.declared.events.Event.TheVariants as event
use Rattle.protocol.specs.Events.{IsLawfulEvent}
use Rattle.rdma_types.specs.Limits.{AreTerms}
use Rattle.rdma_types.specs.Shapes.{IsLawfulShape}
use Rattle.protocol.specs.declared.images.Outcome.{Outcome}
use Rattle.law_nodes.specs.Composed.{AreComposed, AreDumpsTaken, Deed, IsAtHome, IsNodeRun, IsOfNode, IsPreparedBy, IsWholeIn, LinksNone, ReadsBack, dump_if, moved_on, acts_on, lines_from, lines_of_deeds, node_at, openings_of, standings_of}
use Rattle.example_rules.proofs.WorldOrders.{EachAfter, each_of}
use Rattle.example_nodes.specs.Composition.{Gives, Heard, Holds, Ticks, before_the_stop, calls_with, dump, events, left_with, moving, nodes, order, partner, partner_ends, partner_hears, partner_posts, partner_prepares, partner_script, partner_serves, request, source, source_hears, source_prepares, source_script, source_serves, stops_b, target, target_does, target_loads, target_restores, before_it, of_b, read, restored, three, went}
use Rattle.example_nodes.specs.Things.{one, two}
use Rattle.example_nodes.specs.Evaluate.{line_read, run_of, spelled}

-- the plan leads through them
pub leads_with : (p : Plan) (rs : List Heard) → Leads p (calls_with p rs) (left_with p rs)
unfolding calls_with left_with
leads_with (Starts own more) rs = (more, (refl, refl), leads_with more rs)
leads_with (Sends datagram more) rs = (more, (refl, refl), leads_with more rs)
leads_with (Puts name bytes more) rs = (more, (refl, refl, refl), leads_with more rs)
leads_with (Writes text more) rs = (more, (refl, refl), leads_with more rs)
leads_with (Takes more) (Gives got ∷ rs) = (more got, refl, leads_with (more got) rs)
leads_with (Asks more) (Ticks moment ∷ rs) = (more moment, refl, leads_with (more moment) rs)
leads_with (Looks name more) (Holds found ∷ rs) = (more found, (refl, refl), leads_with (more found) rs)
leads_with (Removes name more) (Holds found ∷ rs) = (more found, (refl, refl), leads_with (more found) rs)
leads_with plan rs = refl

-- ---- the dump

reads : IsDump dump moving
unfolding opened run_of spelled
reads = (length dump, [], refl)

-- where the nodes stand after some deeds
abbrev moved : (ℕ → Standing) → List Deed → ℕ → Standing
moved at [] = at
moved at (x ∷ xs) = moved (moved_on at x) xs

abbrev stopped : Outcome
stopped = outcome_of (moved (standings_of nodes) before_the_stop 2) (event.Stop (codes "b") true)

image_is : stopped.image ≡ Some moving
unfolding opened run_of spelled node_at
image_is = refl

-- ---- the runs

request_in_range : IsRequestInRange request
request_in_range = record { remote = omega arith; rkey = omega arith; swap_add = omega arith; compare = omega arith; no_compare = λ h. refl; imm = tt; word = λ h. absurd (cc) }

bytes_in_range : All (λ b. b < 256) (222 ∷ 173 ∷ 190 ∷ 239 ∷ [])
bytes_in_range = All-cons (λ b. b < 256) 222 (173 ∷ 190 ∷ 239 ∷ []) (omega arith) (All-cons (λ b. b < 256) 173 (190 ∷ 239 ∷ []) (omega arith) (All-cons (λ b. b < 256) 190 (239 ∷ []) (omega arith) (All-cons (λ b. b < 256) 239 [] (omega arith) (All-nil (λ b. b < 256)))))

-- a line that makes a thing, and one that does not
pub of_line : {e : Event} → IsAsked e → IsLawfulEvent e → GivesNames e → IsOfLine e
of_line asked lawful names = record { asked = asked; lawful = lawful; names = names }

pub terms_in_range : (own peer : ℕ) → own < 2 ^ 24 → peer < 2 ^ 24 → AreTerms (record { mtu = 256; own_start = own; peer_start = peer; retry = 7; rnr = 7; reads = 4 })
terms_in_range own peer few less = record { mtu = refl; own_start = few; peer_start = less; retry = omega arith; rnr = omega arith; some_reads = omega arith; few_reads = omega arith }

lawful_shape : IsLawfulShape request.shape
lawful_shape = record { word = λ h. absurd (cc h); imm = λ h. absurd (cc h); remote = λ h. absurd (cc h); rkey = λ h. absurd (cc h); swap_add = λ h. refl; compare = λ h. refl }

may_partner : MayDoAll (beginning 1 one) (partner_prepares ++ (partner_posts ++ (partner_serves ++ partner_ends)))
may_partner =
    (tt, (of_line tt tt refl, (of_line tt tt refl, (of_line (omega arith, omega arith, omega arith, omega arith) (omega arith, omega arith, omega arith, omega arith) refl, (of_line (omega arith, omega arith) (omega arith, omega arith) refl, (of_line (omega arith, omega arith, omega arith, omega arith) ((omega arith, omega arith), (omega arith, omega arith)) refl, (of_line tt (omega arith, terms_in_range 100 200 (omega arith) (omega arith)) tt, (of_line bytes_in_range tt tt, (of_line request_in_range lawful_shape tt, (of_line tt tt tt, (tt, (tt, (tt, (tt, (tt, (tt, (tt, (of_line tt tt tt, (of_line tt tt refl, tt)))))))))))))))))))

may_source : MayDoAll (beginning 2 two) (source_prepares ++ (source_serves ++ stops_b ∷ []))
may_source =
    (tt, (of_line tt tt refl, (of_line tt tt refl, (of_line (omega arith, omega arith, omega arith, omega arith) (omega arith, omega arith, omega arith, omega arith) refl, (of_line (omega arith, omega arith) (omega arith, omega arith) refl, (of_line (omega arith, omega arith, omega arith, omega arith) ((omega arith, omega arith), (omega arith, omega arith)) refl, (of_line tt (omega arith, terms_in_range 200 100 (omega arith) (omega arith)) tt, (tt, (tt, (tt, (tt, (tt, tt))))))))))))

pub partner_runs : IsNodeRun partner
unfolding run_of spelled calls_with
partner_runs = record {
  left = left_with (node_plan 1 one partner_script) partner_hears;
  leads = leads_with (node_plan 1 one partner_script) partner_hears;
  done = record { acts = partner_prepares ++ (partner_posts ++ (partner_serves ++ partner_ends)); may = may_partner; unmade = []; made = refl; cut = inl refl };
  same = refl;
}

pub source_runs : IsNodeRun source
unfolding run_of spelled calls_with
source_runs = record {
  left = left_with (node_plan 2 two source_script) source_hears;
  leads = leads_with (node_plan 2 two source_script) source_hears;
  done = record { acts = source_prepares ++ (source_serves ++ stops_b ∷ []); may = may_source; unmade = []; made = refl; cut = inl refl };
  same = refl;
}

-- the store of the target holds the dump, and then nothing
abbrev holds : Holding
holds = set nothing (codes "f") (Some dump)

abbrev emptied : Holding
emptied = λ n. if bytes_eq (codes "f") n then None else holds n

is_restored : IsRestored before_it (codes "f") restored (record { dumps = Some holds; claims = Some [] }) (record { dumps = Some emptied; claims = Some [] })
unfolding opened run_of spelled after outcome_there
is_restored = record {
  bytes = dump;
  image = moving;
  found = refl;
  read = subst (IsDumpOf moving) (sym reads.2) refl;
  accepted = refl;
  server = refl;
  dumps = (emptied, refl, λ n. refl);
  claims = refl;
}

goes : Says (codes "go b.q") (event.Transmit (of_b (codes "q")))
unfolding line_read
goes = record { line = line_is.Go (of_b (codes "q")); reads = refl; event = refl }

loads : Says (codes "load b.n 8192 4") (event.Load (of_b (codes "n")) 8192 4)
unfolding line_read
loads = record { line = line_is.Verb (verbs.Load (of_b (codes "n")) 8192 4); reads = refl; event = refl }

by_rules : AreDone before_it target_does
unfolding line_reply
by_rules = ((record { dumps = Some holds; claims = Some [] }, record { dumps = Some emptied; claims = Some [] }, is_restored), ((goes, (refl, refl)), ((loads, (refl, refl)), tt)))

may_target : MayDoAll (beginning 3 three) (target_restores ++ target_loads ∷ [])
unfolding opened run_of spelled
may_target = (tt, ((reads, refl), (of_line tt tt tt, (of_line tt tt tt, tt))))

-- where the target stands after each of them
abbrev at_restored : Standing
at_restored = after_acts (beginning 3 three) (restores (codes "f") dump moving)

abbrev at_went : Standing
at_went = after_act at_restored (act.Does (event.Transmit (of_b (codes "q"))))

restored_there : at_restored.device ≡ restored.device
unfolding with_context after
restored_there = refl

went_there : at_went.device ≡ went.device
went_there = ap (λ d. (device_step d (event.Transmit (of_b (codes "q")))).device) restored_there ∙ sym (line_device restored (event.Transmit (of_b (codes "q"))))

restored_waits : restored.outgoing ≡ before_it.outgoing ++ sent_by (beginning 3 three) (restores (codes "f") dump moving)
unfolding opened run_of spelled with_context after
restored_waits = refl

are_acts : AreActsOfAll (beginning 3 three) before_it target_does (target_restores ++ target_loads ∷ [])
are_acts = (
  act.Does (event.Transmit (of_b (codes "q"))) ∷ target_loads ∷ [],
  record { own = restores (codes "f") dump moving; of = (dump, moving, refl); leads = restored_there; sends = restored_waits; both = refl },
  (
    target_loads ∷ [],
    record {
      own = act.Does (event.Transmit (of_b (codes "q"))) ∷ [];
      of = refl;
      leads = went_there;
      sends = line_waits at_restored restored (event.Transmit (of_b (codes "q"))) restored_there;
      both = refl;
    },
    (
      [],
      record {
        own = target_loads ∷ [];
        of = refl;
        leads = ap (λ d. (device_step d (event.Load (of_b (codes "n")) 8192 4)).device) went_there ∙ sym (line_device went (event.Load (of_b (codes "n")) 8192 4));
        sends = line_waits at_went went (event.Load (of_b (codes "n")) 8192 4) went_there;
        both = refl;
      },
      refl,
    ),
  ),
)

pub target_runs : IsNodeRun target
target_runs = record { by_rules = by_rules; done = record { acts = target_restores ++ target_loads ∷ []; may = may_target; are = are_acts }; same = refl }

runs : All IsNodeRun nodes
runs =
    All-cons IsNodeRun partner (source ∷ target ∷ []) partner_runs
    (All-cons IsNodeRun source (target ∷ []) source_runs (All-cons IsNodeRun target [] target_runs (All-nil IsNodeRun)))

-- ---- the opening

abbrev AreInRange : List WorldEvent → Type 0
AreInRange [] = Unit {0}
AreInRange (e ∷ es) = IsInRange e × AreInRange es

all_in_range : (es : List WorldEvent) → AreInRange es → All IsInRange es
all_in_range [] each = All-nil IsInRange
all_in_range (e ∷ es) each = All-cons IsInRange e es each.0 (all_in_range es each.1)

in_range : AreInRange events
in_range = ((omega arith, omega arith, omega arith, omega arith), ((omega arith, omega arith, omega arith, omega arith), ((omega arith, omega arith, omega arith, omega arith), (tt, (tt, (tt, (tt, ((omega arith, omega arith, omega arith, omega arith), ((omega arith, omega arith, omega arith, omega arith), ((omega arith, omega arith), ((omega arith, omega arith), ((omega arith, omega arith, omega arith, omega arith), ((omega arith, omega arith, omega arith, omega arith), (record { mtu = refl; own_start = omega arith; peer_start = omega arith; retry = omega arith; rnr = omega arith; some_reads = omega arith; few_reads = omega arith }, tt))))))))))))))

preparing : ArePreparing events
preparing = record { in_range = all_in_range events in_range; prepare = refl }

prepared : (world_after empty_world events).devices ≡ openings_of nodes
unfolding opened run_of spelled
prepared = refl

-- ---- the order

abbrev AreOfNodes : List Deed → Type 0
AreOfNodes [] = Unit {0}
AreOfNodes (x ∷ xs) = IsOfNode nodes x × AreOfNodes xs

all_of_nodes : (xs : List Deed) → AreOfNodes xs → All (IsOfNode nodes) xs
all_of_nodes [] each = All-nil (IsOfNode nodes)
all_of_nodes (x ∷ xs) each = All-cons (IsOfNode nodes) x xs each.0 (all_of_nodes xs each.1)

of_nodes : AreOfNodes order
unfolding opened run_of spelled
of_nodes = (refl, (refl, (refl, (refl, (refl, (refl, (refl, (refl, (refl, (refl, (refl, (refl, (refl, (refl, (refl, (refl, (refl, (refl, (refl, (refl, (refl, tt)))))))))))))))))))))

whole : All (IsWholeIn order) nodes
unfolding acts_on
whole = All-cons (IsWholeIn order) partner (source ∷ target ∷ []) refl (All-cons (IsWholeIn order) source (target ∷ []) refl (All-cons (IsWholeIn order) target [] refl (All-nil (IsWholeIn order))))

dumps : AreDumpsTaken (standings_of nodes) [] order
dumps = (
  [],
  refl,
  tt,
  (
    [],
    refl,
    tt,
    (
      [],
      refl,
      tt,
      (
        [],
        refl,
        tt,
        (
          [],
          refl,
          tt,
          (
            [],
            refl,
            tt,
            (
              [],
              refl,
              tt,
              (
                [],
                refl,
                subst ReadsBack (sym image_is) reads,
                (
                  (codes "f", dump) ∷ [],
                  ap (dump_if (codes "f")) (sym image_is),
                  tt,
                  (
                    [],
                    (refl, record { front = []; back = []; there = refl; left = refl }),
                    tt,
                    ([], refl, tt, ([], refl, tt, ([], refl, tt, ([], refl, tt, ([], refl, tt, ([], refl, tt, ([], refl, tt, ([], refl, tt, ([], refl, tt, ([], refl, tt, ([], refl, tt, tt))))))))))),
                  ),
                ),
              ),
            ),
          ),
        ),
      ),
    ),
  ),
)

in_time : EachAfter (IsInTimeLine (openings_of nodes)) [] (lines_of_deeds nodes order)
unfolding opened run_of spelled node_at lines_from
in_time =
    (tt, (tt, (tt, ((0, _, record { there = refl; sender = refl; receiver = refl; says = refl }, refl), (tt, (tt, (tt, (tt, ((1, _, record { there = refl; sender = refl; receiver = refl; says = refl }, refl), (tt, ((2, _, record { there = refl; sender = refl; receiver = refl; says = refl }, refl), (tt, (tt, (tt, (tt, tt)))))))))))))))

one_sided : EachAfter (IsOneSidedLine (openings_of nodes)) [] (lines_of_deeds nodes order)
unfolding opened run_of spelled node_at lines_from
one_sided = (refl, (refl, (refl, (refl, (refl, (refl, (refl, (refl, (refl, (refl, (refl, (refl, (refl, (refl, (refl, tt)))))))))))))))

at_home : EachAfter (IsAtHome (openings_of nodes)) [] (lines_of_deeds nodes order)
unfolding opened run_of spelled node_at lines_from
at_home = (refl, (refl, (refl, (refl, (refl, (refl, (refl, (refl, (refl, (refl, (refl, (refl, (refl, (refl, (refl, tt)))))))))))))))

fresh : EachAfter (IsFreshLine (openings_of nodes)) [] (lines_of_deeds nodes order)
unfolding opened run_of spelled node_at lines_from
fresh = (refl, (refl, (refl, (refl, (refl, (refl, (refl, (refl, (refl, (refl, (refl, (refl, (refl, (refl, (refl, tt)))))))))))))))

abbrev AreUnlinked : List Deed → Type 0
AreUnlinked [] = Unit {0}
AreUnlinked (x ∷ xs) = LinksNone x.act × AreUnlinked xs

all_unlinked : (xs : List Deed) → AreUnlinked xs → All (λ x. LinksNone x.act) xs
all_unlinked [] each = All-nil (λ (x : Deed). LinksNone x.act)
all_unlinked (x ∷ xs) each = All-cons (λ (y : Deed). LinksNone y.act) x xs each.0 (all_unlinked xs each.1)

linked : AreUnlinked order
linked = (tt, (tt, (tt, (tt, (tt, (tt, (tt, (tt, (tt, (tt, (tt, (tt, (tt, (tt, (tt, (tt, (tt, (tt, (tt, (tt, (tt, tt)))))))))))))))))))))

answered : All (IsPreparedBy events) nodes
unfolding opened run_of spelled
answered = All-cons (IsPreparedBy events) partner (source ∷ target ∷ []) refl (All-cons (IsPreparedBy events) source (target ∷ []) refl (All-cons (IsPreparedBy events) target [] refl (All-nil (IsPreparedBy events))))

pub composed : AreComposed nodes events order
composed = record {
  runs = runs;
  preparing = preparing;
  prepared = prepared;
  answered = answered;
  of_nodes = all_of_nodes order of_nodes;
  whole = whole;
  dumps = dumps;
  in_time = each_of (IsInTimeLine (openings_of nodes)) (lines_of_deeds nodes order) in_time;
  one_sided = each_of (IsOneSidedLine (openings_of nodes)) (lines_of_deeds nodes order) one_sided;
  at_home = each_of (IsAtHome (openings_of nodes)) (lines_of_deeds nodes order) at_home;
  fresh = each_of (IsFreshLine (openings_of nodes)) (lines_of_deeds nodes order) fresh;
  linked = all_unlinked order linked;
}

-- ---- what is asked of nodes, whatever they take

abbrev AreOfBytes : List Act → Type 0
AreOfBytes [] = Unit {0}
AreOfBytes (a ∷ more) = IsOfBytes a × AreOfBytes more

pub all_of_bytes : (acts : List Act) → AreOfBytes acts → All IsOfBytes acts
all_of_bytes [] each = All-nil IsOfBytes
all_of_bytes (a ∷ more) each = All-cons IsOfBytes a more each.0 (all_of_bytes more each.1)

bytes_pass : (bs : List ℕ) → list_all (λ b. nat_lt b 256) bs ≡ true → All (λ b. b < 256) bs
bytes_pass [] h = All-nil (λ (b : ℕ). b < 256)
bytes_pass (b ∷ bs) h = by (nat_lt b 256) refl h (λ g. bytes_pass bs g)
  where
    by : (x : Bool) → nat_lt b 256 ≡ x → (x && list_all (λ y. nat_lt y 256) bs) ≡ true → (list_all (λ y. nat_lt y 256) bs ≡ true → All (λ y. y < 256) bs) → All (λ y. y < 256) (b ∷ bs)
    by true t g later = All-cons (λ (y : ℕ). y < 256) b bs (grind (arith, nat_tests, t)) (later g)
    by false t g later = absurd (cc)

dump_of_bytes : list_all (λ b. nat_lt b 256) dump ≡ true
unfolding opened run_of spelled
dump_of_bytes = refl

partner_is_running : IsRunning partner
partner_is_running = record {
  run = partner_runs;
  some_id = omega arith;
  few_ids = omega arith;
  of_bytes = all_of_bytes (partner_prepares ++ (partner_posts ++ (partner_serves ++ partner_ends))) (tt, (tt, (tt, (tt, (tt, (tt, (tt, (tt, (tt, (tt, (tt, (tt, (tt, (tt, (tt, (tt, (tt, (tt, (tt, tt)))))))))))))))))));
}

source_is_running : IsRunning source
source_is_running = record {
  run = source_runs;
  some_id = omega arith;
  few_ids = omega arith;
  of_bytes = all_of_bytes (source_prepares ++ (source_serves ++ stops_b ∷ [])) (tt, (tt, (tt, (tt, (tt, (tt, (tt, (tt, (tt, (tt, (tt, (tt, tt))))))))))));
}

target_is_running : IsRunning target
target_is_running = record {
  run = target_runs;
  some_id = omega arith;
  few_ids = omega arith;
  of_bytes = all_of_bytes (target_restores ++ target_loads ∷ []) (tt, (bytes_pass dump dump_of_bytes, (tt, (tt, tt))));
}

pub running : AreRunning nodes order
running = record {
  runs = All-cons IsRunning partner (source ∷ target ∷ []) partner_is_running (All-cons IsRunning source (target ∷ []) source_is_running (All-cons IsRunning target [] target_is_running (All-nil IsRunning)));
  of_nodes = all_of_nodes order of_nodes;
  whole = whole;
}
