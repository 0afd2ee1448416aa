-- The numbers of the recorded inner steps have 32 bits.
use Rattle.std.proofs.Common.{◌≡◌, ◌+◌, ◌++◌, ℕ, List, [], ◌∷◌, refl, ap, ◌∙◌, subst}
use Rattle.std.proofs.lemmas.List.Elements.{All-head, All-tail}
use Rattle.std.specs.List.{All}
use Rattle.std.specs.Prelude.{Ok, map}
use Rattle.rdma_types.specs.declared.answers.Answer.{Answer}
use Rattle.rdma_types.specs.declared.verbs.Verb.{Verb}
use Rattle.protocol.specs.State.{World, empty_world}
use Rattle.packetless_machine.specs.declared.steps.MachineStep.{MachineStep}
use Rattle.packetless_machine.specs.Machine.{Machine, empty}
use Rattle.law_headline.specs.Does.{happening_of}
use Rattle.law_traces.specs.Said.{AreShort, IsShort}
use Rattle.trace_rules.specs.Recording.{Written, begins_with, line_steps, machine_past, recorded_from, recorded_of, recorded_reading, spoken_of, traced_from, traced_of, world_past}
use Rattle.script_lang.specs.declared.lines.Line.{Line}
use Rattle.script_lang.specs.Scripts.{lines_of}
use Rattle.run_traces.specs.Traces.{Traced, Spoken, Made}
use Rattle.trace_record.specs.Recorded.{AreShortBefore}

-- ---- steps

-- the inner steps of an event
pub inner_short : (xs : List (Verb × Answer)) (ss : List MachineStep) → All IsShort ss → AreShort (spoken_of xs ++ map Made ss)
inner_short (x ∷ xs) ss short = inner_short xs ss short
inner_short [] [] short = tt
inner_short [] (s ∷ ss) short = (All-head IsShort s ss short, inner_short [] ss (All-tail IsShort s ss short))

-- steps behind others
both_short : (ts us : List Traced) → AreShort ts → AreShort us → AreShort (ts ++ us)
both_short [] us short behind = behind
both_short (Spoken v lines ∷ ts) us short behind = both_short ts us short behind
both_short (Made s ∷ ts) us short behind = (short.0, both_short ts us short.1 behind)

-- ---- the lines of a script

-- none was read
pub none_before : (script : List ℕ) → AreShortBefore script empty_world empty 0 (lines_of script)
unfolding recorded_of
none_before script all ls whole rest short =
    let same : ls ≡ all = cc in
    subst (λ z. AreShort (traced_of z)) same short

-- one more was
pub one_before : (script : List ℕ) (w : World) (m : Machine) (number : ℕ) (bs : List ℕ) (rest : List (List ℕ)) (l : Line) → AreShortBefore script w m number (bs ∷ rest) → recorded_reading bs ≡ Ok l → AreShort (line_steps w m (happening_of l)) → AreShortBefore script (world_past w (happening_of l)) (machine_past w m (happening_of l)) (number + 1) rest
unfolding traced_from
one_before script w m number bs rest l before read line all ls whole later short =
    before all ((bs, l) ∷ ls) whole
    (ap (λ z. begins_with bs (number + 1) z (recorded_from rest (number + 1 + 1))) read ∙ ap (begins_with bs (number + 1) (Ok l)) later)
    (both_short (line_steps w m (happening_of l)) (traced_from (world_past w (happening_of l)) (machine_past w m (happening_of l)) ls) line short)

-- all were
pub all_before : (script : List ℕ) (w : World) (m : Machine) (number : ℕ) (all : List Written) → AreShortBefore script w m number [] → recorded_of script ≡ Ok all → AreShort (traced_of all)
unfolding traced_from
all_before script w m number all before whole = before all [] whole refl tt
