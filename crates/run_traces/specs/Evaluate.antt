-- What an audit finds of a trace, with all that it computes with opened at once, for worked examples.
use Rattle.std.specs.Prelude.{ℕ, List, Result, Ok, Err}
use Rattle.std.specs.Fmt.{digits}
use Rattle.hex.specs.Hex.{decode_pairs, encode_with}
use Rattle.packetless_machine.specs.Evaluate.{ran_to}
use Rattle.script_lang.specs.declared.lines.Offence.{Offence}
use Rattle.script_lang.specs.Fields as lang_fields
use Rattle.script_lang.specs.Lines as lang_lines
use Rattle.script_lang.specs.Printed as lang_printed
use Rattle.script_lang.specs.Texts as lang_texts
use Rattle.script_lang.specs.Verbs as lang_verbs
use Rattle.script_lang.specs.Words as lang_words
use Rattle.run_traces.specs.declared.trace_audit.verdicts.Verdict.{Verdict}
use Rattle.run_traces.specs.Answers as in_answers
use Rattle.run_traces.specs.Lines as in_lines
use Rattle.run_traces.specs.Traces as in_traces
use Rattle.run_traces.specs.Verdicts as in_verdicts
use Rattle.run_traces.specs.Traces.{Reading, trace_of}
use Rattle.run_traces.specs.Verdicts.{verdict_of}

-- the verdict on what a trace says
abbrev pub verdict_on : Reading → Result Verdict (ℕ × Offence)
verdict_on (Ok ts) = Ok (verdict_of ts)
verdict_on (Err e) = Err e

-- what an audit finds of a trace
unfoldable pub audited : List ℕ → Result Verdict (ℕ × Offence)
unfolding ran_to digits encode_with decode_pairs
    in_lines.spoken_form in_lines.made_of in_lines.context_verb in_lines.connect_verb in_lines.step_form in_lines.why_of in_lines.refuse_step in_lines.offer_step in_lines.inner_step in_lines.leader_of in_lines.verb_words in_lines.step_line in_lines.trace_line in_lines.traced_reading
    in_answers.refusal_of_word in_answers.kind_of_word in_answers.status_of_word in_answers.answer_form in_answers.keys_said in_answers.number_said in_answers.bytes_said in_answers.entry_said in_answers.refusal_said in_answers.answer_said in_answers.words_said in_answers.answer_of_line
    in_traces.answer_text in_traces.trace_from in_traces.trace_of
    in_verdicts.behind in_verdicts.first_wrong in_verdicts.wrong_given in_verdicts.verdict_from in_verdicts.verdict_of
    lang_words.words_from lang_words.a_word lang_words.an_option lang_words.the_end
    lang_texts.number_in lang_texts.mtu_of lang_texts.hex_number lang_texts.bytes_of lang_texts.cut_at lang_texts.name_of lang_texts.object_of lang_texts.with_letter lang_texts.letters_of lang_texts.rights_of
    lang_fields.a_name lang_fields.an_object lang_fields.an_own lang_fields.a_number lang_fields.an_mtu lang_fields.a_key lang_fields.a_queue_pair lang_fields.some_bytes lang_fields.some_rights lang_fields.the_word lang_fields.an_immediate lang_fields.some_terms
    lang_verbs.verb_form lang_verbs.domain_line lang_verbs.region_line lang_verbs.cq_line lang_verbs.qp_line lang_verbs.drop_line lang_verbs.load_line lang_verbs.store_line lang_verbs.posted lang_verbs.write_line lang_verbs.send_line lang_verbs.read_line lang_verbs.cas_line lang_verbs.add_line lang_verbs.recv_line lang_verbs.poll_line
    lang_lines.bytes_offence
    lang_printed.imm_words lang_printed.completion_line lang_printed.completion_lines lang_printed.polled_lines lang_printed.printed
audited trace = verdict_on (trace_of trace)
