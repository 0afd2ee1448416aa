-- Lines and texts of a generated script that are always the same.
use Rattle.std.proofs.Common.{refl, codes}
use Rattle.script_lang.specs.Fields.{a_name, a_number, an_address, an_object, an_own, some_rights}
use Rattle.script_lang.specs.Lines.{bytes_offence, device_line, form_of, line_of, reading_of}
use Rattle.script_lang.specs.Texts.{address_of, cut_at, host_of, letters_of, name_of, number_in, object_of, part_of, rights_of, with_letter}
use Rattle.script_lang.specs.Verbs.{cq_line, domain_line, poll_line, region_line, verb_form}
use Rattle.script_lang.specs.Words.{a_word, the_end, words_from}
use Rattle.workload_gen.specs.Plan.{closing_lines, contexts_text, devices_text, settle_line, things_text}
use Rattle.law_scripts.proofs.Cutting.{IsGood, AreGoodLines, both_good, line_good}

-- ---- lines

device_read : (IsGood (reading_of (codes "device 1 10.0.0.1"))) × (IsGood (reading_of (codes "device 2 10.0.0.2"))) × (IsGood (reading_of (codes "device 3 10.0.0.3")))
unfolding reading_of bytes_offence words_from form_of verb_form line_of device_line a_number number_in an_address address_of host_of part_of cut_at a_word the_end
device_read = (tt, tt, tt)

context_read : (IsGood (reading_of (codes "context a 1"))) × (IsGood (reading_of (codes "context b 2")))
unfolding reading_of bytes_offence words_from form_of verb_form line_of a_name name_of a_number number_in a_word the_end
context_read = (tt, tt)

domain_read : (IsGood (reading_of (codes "domain a.p"))) × (IsGood (reading_of (codes "domain b.p")))
unfolding reading_of bytes_offence words_from form_of verb_form line_of domain_line an_object object_of name_of cut_at a_word the_end
domain_read = (tt, tt)

region_read : (IsGood (reading_of (codes "region a.m a.p 65536 65536 lwra"))) × (IsGood (reading_of (codes "region b.n b.p 65536 65536 lwra")))
unfolding reading_of bytes_offence words_from form_of verb_form line_of region_line an_object an_own object_of name_of cut_at a_number number_in some_rights rights_of letters_of with_letter a_word the_end
region_read = (tt, tt)

queue_read : (IsGood (reading_of (codes "cq a.c 4096"))) × (IsGood (reading_of (codes "cq b.c 4096")))
unfolding reading_of bytes_offence words_from form_of verb_form line_of cq_line an_object object_of name_of cut_at a_number number_in a_word the_end
queue_read = (tt, tt)

settle_read : IsGood (reading_of (codes "settle"))
unfolding reading_of bytes_offence words_from form_of verb_form line_of a_word the_end
settle_read = tt

poll_read : (IsGood (reading_of (codes "poll a.c 256"))) × (IsGood (reading_of (codes "poll b.c 256")))
unfolding reading_of bytes_offence words_from form_of verb_form line_of poll_line an_object object_of name_of cut_at a_number number_in a_word the_end
poll_read = (tt, tt)

stop_read : IsGood (reading_of (codes "stop b"))
unfolding reading_of bytes_offence words_from form_of verb_form line_of a_name name_of a_word the_end
stop_read = tt

-- ---- texts

pub settle_good : AreGoodLines settle_line
settle_good = line_good (codes "settle") refl settle_read

pub stop_good : AreGoodLines (codes "stop b\n")
stop_good = line_good (codes "stop b") refl stop_read

pub closing_good : AreGoodLines closing_lines
closing_good =
    both_good settle_line (codes "poll a.c 256\npoll b.c 256\n") settle_good
    (both_good (codes "poll a.c 256\n") (codes "poll b.c 256\n") (line_good (codes "poll a.c 256") refl poll_read.0) (line_good (codes "poll b.c 256") refl poll_read.1))

pub devices_good : AreGoodLines devices_text
unfolding devices_text
devices_good =
    both_good (codes "device 1 10.0.0.1\n") (codes "device 2 10.0.0.2\ndevice 3 10.0.0.3\n") (line_good (codes "device 1 10.0.0.1") refl device_read.0)
    (both_good (codes "device 2 10.0.0.2\n") (codes "device 3 10.0.0.3\n") (line_good (codes "device 2 10.0.0.2") refl device_read.1) (line_good (codes "device 3 10.0.0.3") refl device_read.2))

pub contexts_good : AreGoodLines contexts_text
unfolding contexts_text
contexts_good =
    both_good (codes "context a 1\n") (codes "context b 2\ndomain a.p\ndomain b.p\n") (line_good (codes "context a 1") refl context_read.0)
    (both_good (codes "context b 2\n") (codes "domain a.p\ndomain b.p\n") (line_good (codes "context b 2") refl context_read.1)
    (both_good (codes "domain a.p\n") (codes "domain b.p\n") (line_good (codes "domain a.p") refl domain_read.0) (line_good (codes "domain b.p") refl domain_read.1)))

pub things_good : AreGoodLines things_text
unfolding things_text
things_good =
    both_good (codes "region a.m a.p 65536 65536 lwra\n") (codes "region b.n b.p 65536 65536 lwra\ncq a.c 4096\ncq b.c 4096\n") (line_good (codes "region a.m a.p 65536 65536 lwra") refl region_read.0)
    (both_good (codes "region b.n b.p 65536 65536 lwra\n") (codes "cq a.c 4096\ncq b.c 4096\n") (line_good (codes "region b.n b.p 65536 65536 lwra") refl region_read.1)
    (both_good (codes "cq a.c 4096\n") (codes "cq b.c 4096\n") (line_good (codes "cq a.c 4096") refl queue_read.0) (line_good (codes "cq b.c 4096") refl queue_read.1)))
