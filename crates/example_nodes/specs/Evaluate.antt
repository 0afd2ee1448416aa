-- What a script of a node does, with all that it computes with opened.
use Rattle.std.specs.Prelude.{ℕ, List, [], Option, Some, None, Result}
use Rattle.std.specs.Fmt.{digits}
use Rattle.hex.specs.Hex.{decode_pairs, encode_with}
use Rattle.rdma_types.specs.declared.requests.Address.{Address}
use Rattle.protocol.specs.Evaluate.{computed}
use Rattle.script_lang.specs.declared.lines.Offence.{Offence}
use Rattle.script_lang.specs.Fields as in_fields
use Rattle.script_lang.specs.Lines as in_lines
use Rattle.script_lang.specs.Printed as in_printed
use Rattle.script_lang.specs.Scripts as in_scripts
use Rattle.script_lang.specs.Texts as in_texts
use Rattle.script_lang.specs.Verbs as in_verbs
use Rattle.script_lang.specs.Words as in_words
use Rattle.serve_rules.specs.declared.lines.ServeLine.{ServeLine}
use Rattle.serve_rules.specs.Reading as in_reading
use Rattle.node_rules.specs.Node as in_node
use Rattle.node_rules.specs.Outside as in_outside
use Rattle.node_rules.specs.Outside.{Outside, Ran}
use Rattle.node_rules.specs.Script as in_script
use Rattle.node_rules.specs.Serve as in_serve

-- a script run whole
unfoldable pub run_of : ℕ → Address → List ℕ → Outside → Ran
unfolding computed
    in_scripts.lines_in in_scripts.lines_of
    in_words.words_from in_words.a_word in_words.an_option in_words.the_end
    in_texts.number_in in_texts.mtu_of in_texts.hex_number in_texts.bytes_of in_texts.cut_at in_texts.name_of in_texts.object_of in_texts.with_letter in_texts.letters_of in_texts.rights_of in_texts.part_of in_texts.host_of in_texts.address_of
    in_fields.a_name in_fields.an_object in_fields.an_own in_fields.a_number in_fields.an_mtu in_fields.a_key in_fields.a_queue_pair in_fields.some_bytes in_fields.some_rights in_fields.an_address in_fields.the_word in_fields.an_immediate in_fields.some_terms
    in_verbs.verb_form in_verbs.domain_line in_verbs.region_line in_verbs.cq_line in_verbs.qp_line in_verbs.drop_line in_verbs.load_line in_verbs.store_line in_verbs.posted in_verbs.write_line in_verbs.send_line in_verbs.read_line in_verbs.cas_line in_verbs.add_line in_verbs.recv_line in_verbs.poll_line
    in_lines.node_form_of in_lines.link_line in_lines.stop_line in_lines.serve_line in_lines.node_line_of in_lines.bytes_offence in_lines.node_reading_of
    in_printed.took_text in_printed.sent_words in_printed.imm_words in_printed.completion_line in_printed.completion_lines in_printed.polled_lines in_printed.left_lines in_printed.shown_words in_printed.printed
    decode_pairs digits encode_with
    in_node.node_after in_node.node_outcome in_node.connected_of in_node.connected_in
    in_serve.turns
    in_script.lines_do in_script.node_plan
    in_outside.ran in_outside.node_run
run_of id own text o = in_outside.node_run id own text o

-- what a line of a served device says
unfoldable pub line_read : List ℕ → Result ServeLine Offence
unfolding run_of in_reading.serve_reading_of
line_read text = in_reading.serve_reading_of text

-- the bytes of hexadecimal digits, or none
abbrev pub or_none : Option (List ℕ) → List ℕ
or_none None = []
or_none (Some bytes) = bytes

-- the bytes that hexadecimal digits spell
unfoldable pub spelled : List ℕ → List ℕ
unfolding decode_pairs
spelled text = or_none (in_texts.hex_of text)
