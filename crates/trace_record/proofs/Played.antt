-- A script is recorded line by line, beside a world that keeps the last datagrams.
use Rattle.std.proofs.Common.{arith, ◌≡◌, ◌≤◌, ◌+◌, ◌++◌, ℕ, List, [], ◌∷◌, length, refl, sym, ap, ◌∙◌, subst, append-nil}
use Rattle.std.specs.Prelude.{Option, Some, None, OnOk, Result, Ok, Err}
use Rattle.protocol.proofs.Histories.{forgetting-nil}
use Rattle.protocol.specs.Script.{Dump, Event, Happening, dumps, happens}
use Rattle.protocol.specs.declared.events.WorldEvent.{WorldEvent}
use Rattle.protocol.specs.State.{World, empty_world}
use Rattle.protocol.specs.WorldStep.{world_step}
use Rattle.packetless_machine.specs.Machine.{Machine, empty}
use Rattle.law_kept_datagrams.specs.Alike.{with_kept_datagrams}
use Rattle.law_traces.specs.Said.{RecordsAreSaid}
use Rattle.law_traces.specs.Records.{RecordsAreLegal}
use Rattle.law_simulation.specs.Kept.{kept_of}
use Rattle.law_simulation.specs.Named.{inner_steps}
use Rattle.law_simulation.specs.Stands.{Stands}
use Rattle.law_headline.specs.Does.{happening_of}
use Rattle.trace_rules.specs.Playing.{IsRecorded, RecordingBegins, RecordingEnds, RecordingGoesOn, RecordingStops}
use Rattle.trace_rules.specs.Recording.{IsTraceOf, last_line, machine_past, recorded_of, recorded_reading, traced_of, world_past}
use Rattle.script_lang.specs.declared.lines.Line.{Line}
use Rattle.script_lang.specs.declared.lines.Offence.{Offence}
use Rattle.script_lang.specs.Scripts.{lines_of}
use Rattle.script_runner.proofs.Played.{length-lines_of}
use Rattle.run_traces.specs.Traces.{trace_of}
use Rattle.run_traces.specs.Verdicts.{inner_in, verbs_in}
use Rattle.run_traces.specs.Written.{steps_text}
use Rattle.trace_record.specs.Arrivals.{IsBeside}
use Rattle.trace_record.specs.Events.{IsEventRecorded}
use Rattle.trace_record.specs.Recorded.{AreShortBefore, IsLegalText, IsLineRecorded, IsRecordedTo}
use Rattle.trace_record.proofs.Short.{all_before, inner_short, none_before, one_before}

-- ---- one line

-- a line that does nothing
pub blank_recorded : (w left : World) (m : Machine) (bs old : List ℕ) → left ≡ with_kept_datagrams w → Stands w m → IsLineRecorded w m bs None left m old old
blank_recorded w left m bs old e s = record { left = e; machine = refl; stands = s; text = sym (append-nil old); short = tt }

pub dump_recorded : (w left : World) (m : Machine) (bs old : List ℕ) (name : _) → left ≡ with_kept_datagrams w → Stands w m → IsLineRecorded w m bs (Some (Dump name)) left m old old
unfolding happens dumps steps_text
dump_recorded w left m bs old name e s = record { left = e; machine = refl; stands = s; text = sym (append-nil old); short = tt }

pub event_recorded : (w left : World) (m m' : Machine) (bs old new : List ℕ) (e : WorldEvent) → IsEventRecorded w m bs e left m' old new → IsLineRecorded w m bs (Some (Event e)) left m' old new
unfolding happens
event_recorded w left m m' bs old new e r = record {
  left = r.left;
  machine = r.machine;
  stands = r.stands;
  text = r.text;
  short = inner_short (kept_of w e (world_step w e).answer) (inner_steps w m e) r.short;
}

pub as_line : {T E : Type 0} (r : Result T E) (w left : World) (m m' : Machine) (bs old new : List ℕ) (o : Option Happening) (p : Option Happening) → p ≡ o → OnOk r (IsLineRecorded w m bs p left m' old new) → OnOk r (IsLineRecorded w m bs o left m' old new)
as_line r w left m m' bs old new o p same h = subst (λ z. OnOk r (IsLineRecorded w m bs z left m' old new)) same h

-- ---- a script

module _ (script done new : List ℕ) (w w' : World) (m m' : Machine) (n number : ℕ) (bs : List ℕ) (rest : List (List ℕ)) (e : n + 1 ≡ number) (p : IsRecordedTo script done w m n (bs ∷ rest)) where
  -- a line that was read is recorded
  pub line_on : RecordingGoesOn → (l : Line) → recorded_reading bs ≡ Ok l → IsLineRecorded p.whole m bs (happening_of l) w' m' done new → IsRecordedTo script new w' m' number rest
  line_on goes_on l read r = record {
    whole = world_past p.whole (happening_of l);
    left = r.left;
    stands = subst (λ x. Stands (world_past p.whole (happening_of l)) x) (sym r.machine) r.stands;
    recorded =
        subst (λ k. IsRecorded script new (world_past p.whole (happening_of l)) m' k rest) e
        (subst (λ x. IsRecorded script new (world_past p.whole (happening_of l)) x (n + 1) rest) (sym r.machine)
        (subst (λ t. IsRecorded script t (world_past p.whole (happening_of l)) (machine_past p.whole m (happening_of l)) (n + 1) rest) (sym r.text)
        (goes_on script done p.whole m n bs rest l p.recorded read)));
    short =
        subst (λ k. AreShortBefore script (world_past p.whole (happening_of l)) m' k rest) e
        (subst (λ x. AreShortBefore script (world_past p.whole (happening_of l)) x (n + 1) rest) (sym r.machine)
        (one_before script p.whole m n bs rest l p.short read r.short));
  }

  -- a bad line is the first one
  pub bad_on : RecordingStops → (x : Offence) → recorded_reading bs ≡ Err x → recorded_of script ≡ Err (record { number = number; offence = x })
  bad_on stops x bad = stops script done p.whole m n bs rest x p.recorded bad ∙ ap (λ k. Err (record { number = k; offence = x })) e

pub beside : (script done : List ℕ) (w : World) (m : Machine) (n : ℕ) (rest : List (List ℕ)) → IsRecordedTo script done w m n rest → IsBeside w m
beside script done w m n rest p = record { whole = p.whole; left = p.left; stands = p.stands }

-- nothing is recorded yet
pub start : RecordingBegins → Stands empty_world empty → (script : List ℕ) → IsRecordedTo script [] empty_world empty 0 (lines_of script)
start begins s script = record {
  whole = empty_world;
  left = ap (λ fs. record empty_world { sent = fs }) (sym forgetting-nil);
  stands = s;
  recorded = begins script;
  short = none_before script;
}

-- no line is to come
pub whole : RecordingEnds → (script done : List ℕ) (w : World) (m : Machine) (n : ℕ) (rest : List (List ℕ)) → rest ≡ [] → IsRecordedTo script done w m n rest → IsTraceOf script (done ++ last_line)
whole ends script done w m n rest none p = ends script done p.whole m n (subst (λ ls. IsRecorded script done p.whole m n ls) none p.recorded)

-- .. and what was written is legal
pub legal : RecordingEnds → RecordsAreSaid → RecordsAreLegal → (script done : List ℕ) (w : World) (m : Machine) (n : ℕ) (rest : List (List ℕ)) → rest ≡ [] → IsRecordedTo script done w m n rest → IsLegalText (done ++ last_line)
legal ends said found script done w m n rest none p =
    let trace : IsTraceOf script (done ++ last_line) = whole ends script done w m n rest none p in
    let short = all_before script p.whole m n trace.lines (subst (λ ls. AreShortBefore script p.whole m n ls) none p.short) trace.read in
    record {
      steps = traced_of trace.lines;
      says = ap trace_of trace.is ∙ said script trace.lines trace.read short;
      verbs = verbs_in (traced_of trace.lines);
      inner = inner_in (traced_of trace.lines);
      finds = found script trace.lines trace.read;
    }

-- the number of the next line is small
pub next_number : (script done : List ℕ) (w : World) (m : Machine) (n : ℕ) (rest more : List (List ℕ)) (bs : List ℕ) → rest ≡ bs ∷ more → IsRecordedTo script done w m n rest → n + 1 ≤ length script + 1
next_number script done w m n rest more bs e p = omega (arith, ap length e, p.recorded.count, length-lines_of script)
