use Rattle.std.specs.Prelude.{refl}
use Rattle.std.specs.Fmt.{digits}
use Rattle.script_lang.specs.Texts.{address_of, cut_at, host_of, name_of, number_in, part_of}
use Rattle.command_line.specs.Forms.{form_of}
use Rattle.command_line.specs.Meanings.{begins, dump_meaning, ends, line_meaning, meaning, stay_meaning, trace_meaning}
use Rattle.command_line.specs.Sentences.{cause, complaint, named, sentence, shown, usage_sentence, wanted}
use Rattle.command_line.specs.Wrong.{is_alone}
use Rattle.command_line.proofs.error_sentences.examples.lines_are_explained.Goals as goal

pub returns-clause-words : goal.returns-clause-words
unfolding usage_sentence sentence named complaint shown wanted cause meaning line_meaning dump_meaning trace_meaning stay_meaning begins ends form_of is_alone number_in name_of address_of host_of part_of cut_at digits
returns-clause-words c = refl

pub returns-clause-line : goal.returns-clause-line
unfolding usage_sentence sentence named complaint shown wanted cause meaning line_meaning dump_meaning trace_meaning stay_meaning begins ends form_of is_alone number_in name_of address_of host_of part_of cut_at digits
returns-clause-line c = refl

pub returns-clause-dump : goal.returns-clause-dump
unfolding usage_sentence sentence named complaint shown wanted cause meaning line_meaning dump_meaning trace_meaning stay_meaning begins ends form_of is_alone number_in name_of address_of host_of part_of cut_at digits
returns-clause-dump c = refl

pub returns-clause-input : goal.returns-clause-input
unfolding usage_sentence sentence named complaint shown wanted cause meaning line_meaning dump_meaning trace_meaning stay_meaning begins ends form_of is_alone number_in name_of address_of host_of part_of cut_at digits
returns-clause-input c = refl

pub returns-clause-port : goal.returns-clause-port
unfolding usage_sentence sentence named complaint shown wanted cause meaning line_meaning dump_meaning trace_meaning stay_meaning begins ends form_of is_alone number_in name_of address_of host_of part_of cut_at digits
returns-clause-port c = refl

pub returns-clause-file : goal.returns-clause-file
unfolding usage_sentence sentence named complaint shown wanted cause meaning line_meaning dump_meaning trace_meaning stay_meaning begins ends form_of is_alone number_in name_of address_of host_of part_of cut_at digits
returns-clause-file c = refl

pub returns-clause-memory : goal.returns-clause-memory
unfolding usage_sentence sentence named complaint shown wanted cause meaning line_meaning dump_meaning trace_meaning stay_meaning begins ends form_of is_alone number_in name_of address_of host_of part_of cut_at digits
returns-clause-memory c = refl

pub returns-clause-missing : goal.returns-clause-missing
unfolding usage_sentence sentence named complaint shown wanted cause meaning line_meaning dump_meaning trace_meaning stay_meaning begins ends form_of is_alone number_in name_of address_of host_of part_of cut_at digits
returns-clause-missing c = refl

pub returns-clause-illegal : goal.returns-clause-illegal
unfolding usage_sentence sentence named complaint shown wanted cause meaning line_meaning dump_meaning trace_meaning stay_meaning begins ends form_of is_alone number_in name_of address_of host_of part_of cut_at digits
returns-clause-illegal c = refl

pub returns-clause-stays : goal.returns-clause-stays
unfolding usage_sentence sentence named complaint shown wanted cause meaning line_meaning dump_meaning trace_meaning stay_meaning begins ends form_of is_alone number_in name_of address_of host_of part_of cut_at digits
returns-clause-stays c = refl
