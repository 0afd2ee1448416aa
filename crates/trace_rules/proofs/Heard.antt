-- The verbs of what is recorded of lines are those that count as made.
use Rattle.std.proofs.Common.{◌≡◌, List, [], ◌∷◌, ◌++◌, refl, sym, ap, ◌∙◌, map}
use Rattle.std.specs.Prelude.{Option, Some, None}
use Rattle.rdma_types.specs.declared.answers.Answer.{Answer}
use Rattle.rdma_types.specs.declared.verbs.Verb.{Verb}
use Rattle.protocol.specs.Script.{Happening}
use Rattle.protocol.specs.State.{World, empty_world}
use Rattle.packetless_machine.specs.declared.steps.MachineStep.{MachineStep}
use Rattle.packetless_machine.specs.Machine.{Machine, empty}
use Rattle.law_headline.specs.Does.{happening_of}
use Rattle.run_traces.specs.Traces.{Traced, Spoken, Made}
use Rattle.trace_rules.specs.Heard.{AllIsHeard}
use Rattle.trace_rules.specs.Recording.{Written, heard_at, heard_by, heard_from, inner_at, line_steps, machine_past, spoken_in, spoken_of, traced_from, with_lines, world_past}

-- inner steps are no verbs
made_none : (ss : List MachineStep) (ts : List Traced) → spoken_in (map Made ss ++ ts) ≡ spoken_in ts
made_none [] ts = refl
made_none (s ∷ ss) ts = made_none ss ts

-- verbs that were answered, before others
spoken_first : (xs : List (Verb × Answer)) (ss : List MachineStep) (ts : List Traced) → spoken_in ((spoken_of xs ++ map Made ss) ++ ts) ≡ map with_lines xs ++ spoken_in ts
spoken_first [] ss ts = made_none ss ts
spoken_first (x ∷ xs) ss ts = ap (λ z. with_lines x ∷ z) (spoken_first xs ss ts)

map_both : (xs ys : List (Verb × Answer)) → map with_lines (xs ++ ys) ≡ map with_lines xs ++ map with_lines ys
map_both [] ys = refl
map_both (x ∷ xs) ys = ap (λ z. with_lines x ∷ z) (map_both xs ys)

-- a line before others
line_first : (w : World) (m : Machine) (o : Option Happening) (ts : List Traced) → spoken_in (line_steps w m o ++ ts) ≡ map with_lines (heard_by w o) ++ spoken_in ts
line_first w m None ts = refl
line_first w m (Some h) ts = spoken_first (heard_at w h) (inner_at w m h) ts

heard_in : (w : World) (m : Machine) (ls : List Written) → spoken_in (traced_from w m ls) ≡ map with_lines (heard_from w ls)
unfolding traced_from heard_from
heard_in w m [] = refl
heard_in w m (l ∷ ls) =
    line_first w m (happening_of l.1) (traced_from (world_past w (happening_of l.1)) (machine_past w m (happening_of l.1)) ls)
    ∙ (ap (λ z. map with_lines (heard_by w (happening_of l.1)) ++ z) (heard_in (world_past w (happening_of l.1)) (machine_past w m (happening_of l.1)) ls)
    ∙ sym (map_both (heard_by w (happening_of l.1)) (heard_from (world_past w (happening_of l.1)) ls)))

pub all_is_heard : AllIsHeard
all_is_heard ls = heard_in empty_world empty ls
