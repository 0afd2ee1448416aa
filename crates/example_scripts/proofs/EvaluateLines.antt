-- Reading and printing, with all that they compute with opened.
use Rattle.std.specs.Prelude.{ℕ, List, Result}
use Rattle.std.specs.Fmt.{digits}
use Rattle.hex.specs.Hex.{decode_pairs, encode_with}
use Rattle.rdma_types.specs.declared.answers.Answer.{Answer}
use Rattle.script_lang.specs.declared.lines.Line.{Line}
use Rattle.script_lang.specs.declared.lines.NodeLine.{NodeLine}
use Rattle.script_lang.specs.declared.lines.Offence.{Offence}
use Rattle.script_lang.specs.Fields as in_fields
use Rattle.script_lang.specs.Lines as in_lines
use Rattle.script_lang.specs.Printed as in_printed
use Rattle.script_lang.specs.Texts as in_texts
use Rattle.script_lang.specs.Verbs as in_verbs
use Rattle.script_lang.specs.Words as in_words

unfoldable pub all_read : List ℕ → Result Line Offence
unfolding in_words.words_from in_words.a_word in_words.an_option in_words.the_end
    in_texts.number_in in_texts.mtu_of in_texts.hex_number in_texts.bytes_of in_texts.cut_at in_texts.name_of in_texts.object_of in_texts.with_letter in_texts.letters_of in_texts.rights_of in_texts.part_of in_texts.host_of in_texts.address_of
    in_fields.a_name in_fields.an_object in_fields.an_own in_fields.a_number in_fields.an_mtu in_fields.a_key in_fields.a_queue_pair in_fields.some_bytes in_fields.some_rights in_fields.an_address in_fields.the_word in_fields.an_immediate in_fields.some_terms
    in_verbs.verb_form in_verbs.domain_line in_verbs.region_line in_verbs.cq_line in_verbs.qp_line in_verbs.drop_line in_verbs.load_line in_verbs.store_line in_verbs.posted in_verbs.write_line in_verbs.send_line in_verbs.read_line in_verbs.cas_line in_verbs.add_line in_verbs.recv_line in_verbs.poll_line
    in_lines.form_of in_lines.device_line in_lines.connect_line in_lines.line_of in_lines.bytes_offence in_lines.reading_of
    decode_pairs
all_read text = in_lines.reading_of text

unfoldable pub all_read_by_nodes : List ℕ → Result NodeLine Offence
unfolding all_read in_lines.node_form_of in_lines.link_line in_lines.stop_line in_lines.serve_line in_lines.node_line_of in_lines.node_reading_of
all_read_by_nodes text = in_lines.node_reading_of text

unfoldable pub all_printed : Answer → List ℕ
unfolding in_printed.took_text in_printed.sent_words in_printed.imm_words in_printed.completion_line in_printed.completion_lines in_printed.polled_lines in_printed.left_lines in_printed.shown_words in_printed.printed
    digits encode_with
all_printed answer = in_printed.printed answer
