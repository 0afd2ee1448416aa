use Rattle.std.specs.Prelude.{refl}
use Rattle.std.specs.Fmt.{digits}
use Rattle.script_lang.specs.Texts.{address_of, cut_at, host_of, name_of, number_in, part_of}
use Rattle.command_line.specs.Forms.{form_of}
use Rattle.command_line.specs.Meanings.{begins, dump_meaning, ends, line_meaning, meaning, stay_meaning, trace_meaning}
use Rattle.command_line.specs.Sentences.{cause, complaint, named, sentence, shown, usage_sentence, wanted}
use Rattle.command_line.specs.Wrong.{is_alone}
use Rattle.command_line.proofs.error_sentences.examples.wrong_words_are_named.Goals as goal

pub returns-clause-none : goal.returns-clause-none
unfolding usage_sentence sentence named complaint shown wanted cause meaning line_meaning dump_meaning trace_meaning stay_meaning begins ends form_of is_alone number_in name_of address_of host_of part_of cut_at digits
returns-clause-none c = refl

pub returns-clause-unknown : goal.returns-clause-unknown
unfolding usage_sentence sentence named complaint shown wanted cause meaning line_meaning dump_meaning trace_meaning stay_meaning begins ends form_of is_alone number_in name_of address_of host_of part_of cut_at digits
returns-clause-unknown c = refl

pub returns-clause-alone : goal.returns-clause-alone
unfolding usage_sentence sentence named complaint shown wanted cause meaning line_meaning dump_meaning trace_meaning stay_meaning begins ends form_of is_alone number_in name_of address_of host_of part_of cut_at digits
returns-clause-alone c = refl

pub returns-clause-extra : goal.returns-clause-extra
unfolding usage_sentence sentence named complaint shown wanted cause meaning line_meaning dump_meaning trace_meaning stay_meaning begins ends form_of is_alone number_in name_of address_of host_of part_of cut_at digits
returns-clause-extra c = refl

pub returns-clause-range : goal.returns-clause-range
unfolding usage_sentence sentence named complaint shown wanted cause meaning line_meaning dump_meaning trace_meaning stay_meaning begins ends form_of is_alone number_in name_of address_of host_of part_of cut_at digits
returns-clause-range c = refl

pub returns-clause-short : goal.returns-clause-short
unfolding usage_sentence sentence named complaint shown wanted cause meaning line_meaning dump_meaning trace_meaning stay_meaning begins ends form_of is_alone number_in name_of address_of host_of part_of cut_at digits
returns-clause-short c = refl

pub returns-clause-zero : goal.returns-clause-zero
unfolding usage_sentence sentence named complaint shown wanted cause meaning line_meaning dump_meaning trace_meaning stay_meaning begins ends form_of is_alone number_in name_of address_of host_of part_of cut_at digits
returns-clause-zero c = refl

pub returns-clause-seed : goal.returns-clause-seed
unfolding usage_sentence sentence named complaint shown wanted cause meaning line_meaning dump_meaning trace_meaning stay_meaning begins ends form_of is_alone number_in name_of address_of host_of part_of cut_at digits
returns-clause-seed c = refl

pub returns-clause-name : goal.returns-clause-name
unfolding usage_sentence sentence named complaint shown wanted cause meaning line_meaning dump_meaning trace_meaning stay_meaning begins ends form_of is_alone number_in name_of address_of host_of part_of cut_at digits
returns-clause-name c = refl

pub returns-clause-address : goal.returns-clause-address
unfolding usage_sentence sentence named complaint shown wanted cause meaning line_meaning dump_meaning trace_meaning stay_meaning begins ends form_of is_alone number_in name_of address_of host_of part_of cut_at digits
returns-clause-address c = refl

pub returns-clause-option : goal.returns-clause-option
unfolding usage_sentence sentence named complaint shown wanted cause meaning line_meaning dump_meaning trace_meaning stay_meaning begins ends form_of is_alone number_in name_of address_of host_of part_of cut_at digits
returns-clause-option c = refl

pub returns-clause-behind : goal.returns-clause-behind
unfolding usage_sentence sentence named complaint shown wanted cause meaning line_meaning dump_meaning trace_meaning stay_meaning begins ends form_of is_alone number_in name_of address_of host_of part_of cut_at digits
returns-clause-behind c = refl

pub returns-clause-twice : goal.returns-clause-twice
unfolding usage_sentence sentence named complaint shown wanted cause meaning line_meaning dump_meaning trace_meaning stay_meaning begins ends form_of is_alone number_in name_of address_of host_of part_of cut_at digits
returns-clause-twice c = refl
