-- What is recorded of a script, with all that it computes with opened at once, for worked examples.
use Rattle.std.specs.Prelude.{ℕ, List, Result, Ok, Err}
use Rattle.protocol.specs.Evaluate.{computed}
use Rattle.packetless_machine.specs.Evaluate.{ran_to}
use Rattle.script_lang.specs.Fields as lang_fields
use Rattle.script_lang.specs.Lines as lang_lines
use Rattle.script_lang.specs.Printed as lang_printed
use Rattle.script_lang.specs.Scripts as lang_scripts
use Rattle.script_lang.specs.Texts as lang_texts
use Rattle.law_simulation.specs.Carries as in_carries
use Rattle.law_simulation.specs.Kept as in_kept
use Rattle.law_simulation.specs.Named as in_named
use Rattle.law_simulation.specs.Packets as in_packets
use Rattle.law_simulation.specs.Views as in_views
use Rattle.law_headline.specs.Script.{BadLine}
use Rattle.run_traces.specs.Evaluate.{audited}
use Rattle.run_traces.specs.Written as in_written
use Rattle.trace_rules.specs.Recording as in_recording
use Rattle.trace_rules.specs.Recording.{Written, recorded_of, trace_text}

-- the trace of the lines of a script, or its first bad line
abbrev pub text_or : Result (List Written) BadLine → Result (List ℕ) BadLine
text_or (Ok ls) = Ok (trace_text ls)
text_or (Err e) = Err e

-- what is recorded of a script
unfoldable pub recorded : List ℕ → Result (List ℕ) BadLine
unfolding audited computed ran_to
    in_recording.recorded_form in_recording.recorded_reading in_recording.recorded_of in_recording.text_from
    in_written.answer_text in_written.step_words in_written.steps_text
    in_named.tells in_named.known_bytes in_named.learning in_named.is_learned in_named.ending in_named.last_step in_named.acknowledged_steps in_named.offer_place in_named.is_landed in_named.read_steps in_named.old_steps in_named.steps_of_each
    in_views.contexts_of in_views.context_of in_views.end_of in_views.link_or_none in_views.in_rts in_views.home_in in_views.address_or_none in_views.place_of in_views.name_at
    in_packets.nak_class in_packets.syndrome_class in_packets.aeth_class in_packets.resume_class in_packets.class_of
    in_carries.offers_from in_carries.offers_of in_carries.due_steps in_carries.is_rest_granted in_carries.repeat_steps in_carries.request_steps in_carries.land_steps in_carries.tell_steps in_carries.is_at in_carries.is_counted in_carries.expire_steps
    in_kept.verb_in in_kept.verb_of in_kept.is_unmade_by in_kept.is_unmade in_kept.kept_verb
    lang_scripts.lines_in lang_scripts.lines_of lang_scripts.but_last
    lang_texts.part_of lang_texts.host_of lang_texts.address_of
    lang_fields.an_address
    lang_lines.form_of lang_lines.device_line lang_lines.connect_line lang_lines.line_of
recorded script = text_or (recorded_of script)
