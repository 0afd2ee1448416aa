-- A script is recorded line by line.
use Rattle.std.proofs.Common.{arith, ◌≡◌, ◌+◌, ℕ, List, [], ◌∷◌, ◌++◌, length, refl, sym, ap, ◌∙◌, subst, append_assoc, append-nil}
use Rattle.std.specs.Prelude.{Option, Some, None, Result, Ok, Err}
use Rattle.protocol.specs.State.{World, empty_world}
use Rattle.packetless_machine.specs.Machine.{Machine, empty}
use Rattle.script_lang.specs.declared.lines.Line.{Line}
use Rattle.script_lang.specs.declared.lines.Offence.{Offence}
use Rattle.script_lang.specs.Scripts.{lines_of}
use Rattle.law_headline.specs.Does.{happening_of}
use Rattle.law_headline.specs.Script.{BadLine}
use Rattle.trace_rules.specs.Playing.{IsRecorded, RecordingBegins, RecordingEnds, RecordingGoesOn, RecordingStops, text_behind}
use Rattle.trace_rules.specs.Recording.{IsTraceOf, Written, begins_with, last_line, machine_past, recorded_from, recorded_of, recorded_reading, recorded_text, text_from, world_past}

pub begins : RecordingBegins
unfolding recorded_of
begins script = record { whole = refl; count = omega arith }

-- one more line before those that are to come
more : (done : List ℕ) (w : World) (m : Machine) (k : ℕ) (bs : List ℕ) (l : Line) (r : Result (List Written) BadLine) →
    text_behind done w m (begins_with bs k (Ok l) r) ≡ text_behind (done ++ recorded_text w m bs (happening_of l)) (world_past w (happening_of l)) (machine_past w m (happening_of l)) r
unfolding text_from
more done w m k bs l (Ok ls) = ap Ok (sym (append_assoc done (recorded_text w m bs (happening_of l)) (text_from (world_past w (happening_of l)) (machine_past w m (happening_of l)) ls)))
more done w m k bs l (Err e) = refl

pub goes_on : RecordingGoesOn
goes_on script done w m number bs rest l p r = record {
  whole = p.whole ∙ (ap (λ z. text_behind done w m (begins_with bs (number + 1) z (recorded_from rest (number + 1 + 1)))) r ∙ more done w m (number + 1) bs l (recorded_from rest (number + 1 + 1)));
  count = omega (arith, p.count);
}

-- what is behind a bad line does not matter
is_bad : (w : World) (m : Machine) (r : Result (List Written) BadLine) (b : BadLine) → text_behind [] w m r ≡ Err b → r ≡ Err b
is_bad w m (Ok ls) b h = cc
is_bad w m (Err e) b h = cc

pub stops : RecordingStops
stops script done w m number bs rest e p r =
    is_bad empty_world empty (recorded_of script) (record { number = number + 1; offence = e })
    (p.whole ∙ ap (λ z. text_behind done w m (begins_with bs (number + 1) z (recorded_from rest (number + 1 + 1)))) r)

-- lines that are good
is_good : (r : Result (List Written) BadLine) (done text : List ℕ) → text_behind [] empty_world empty r ≡ Ok done → (ls : List Written) × (r ≡ Ok ls) × (done ≡ text_from empty_world empty ls)
is_good (Ok ls) done text h = (ls, refl, cc)
is_good (Err e) done text h = cc

pub ends : RecordingEnds
unfolding text_from
ends script done w m number p =
    let good = is_good (recorded_of script) done done (p.whole ∙ ap Ok (append-nil done)) in
    record { lines = good.0; read = good.1; is = ap (λ z. z ++ last_line) good.2 }
