-- What a script says and what is written for it, with all that they compute with opened, for worked examples.
use Rattle.std.specs.Prelude.{ℕ, List}
use Rattle.std.specs.Fmt.{digits}
use Rattle.hex.specs.Hex.{decode_pairs, encode_with}
use Rattle.rdma_types.specs.declared.answers.Answer.{Answer}
use Rattle.rdma_types.specs.declared.verbs.Verb.{Verb}
use Rattle.protocol.specs.Evaluate.{computed}
use Rattle.script_lang.specs.Fields as in_fields
use Rattle.script_lang.specs.Lines as in_lines
use Rattle.script_lang.specs.Printed as in_printed
use Rattle.script_lang.specs.Scripts as in_scripts
use Rattle.script_lang.specs.Texts as in_texts
use Rattle.script_lang.specs.Verbs as in_verbs
use Rattle.script_lang.specs.Words as in_words
use Rattle.law_simulation.specs.Kept as in_kept
use Rattle.law_headline.specs.Script.{Script, answers_text, heard, script_of}

-- what a text says
unfoldable pub said_in : List ℕ → Script
unfolding in_scripts.lines_in in_scripts.lines_of
    in_words.words_from in_words.a_word in_words.an_option in_words.the_end
    in_texts.number_in in_texts.mtu_of in_texts.hex_number in_texts.bytes_of in_texts.cut_at in_texts.name_of in_texts.object_of in_texts.with_letter in_texts.letters_of in_texts.rights_of in_texts.part_of in_texts.host_of in_texts.address_of
    in_fields.a_name in_fields.an_object in_fields.an_own in_fields.a_number in_fields.an_mtu in_fields.a_key in_fields.a_queue_pair in_fields.some_bytes in_fields.some_rights in_fields.an_address in_fields.the_word in_fields.an_immediate in_fields.some_terms
    in_verbs.verb_form in_verbs.domain_line in_verbs.region_line in_verbs.cq_line in_verbs.qp_line in_verbs.drop_line in_verbs.load_line in_verbs.store_line in_verbs.posted in_verbs.write_line in_verbs.send_line in_verbs.read_line in_verbs.cas_line in_verbs.add_line in_verbs.recv_line in_verbs.poll_line
    in_lines.form_of in_lines.device_line in_lines.connect_line in_lines.line_of in_lines.bytes_offence in_lines.reading_of
    decode_pairs
said_in text = script_of text

-- the answers to its lines, as they are written
unfoldable pub written_for : List ℕ → List ℕ
unfolding said_in computed in_printed.took_text in_printed.sent_words in_printed.imm_words in_printed.completion_line in_printed.completion_lines in_printed.polled_lines in_printed.left_lines in_printed.shown_words in_printed.printed
    digits encode_with
written_for text = answers_text text

-- what applications hear of it
unfoldable pub heard_in : List ℕ → List (Verb × Answer)
unfolding said_in computed in_kept.verb_in in_kept.verb_of in_kept.is_unmade_by in_kept.is_unmade in_kept.kept_verb
heard_in text = heard text
