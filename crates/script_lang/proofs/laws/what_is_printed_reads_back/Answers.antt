use Rattle.script_lang.proofs.ReadBack.{key_again, queue_pair_again, bytes_again}
use Rattle.script_lang.proofs.Decimals.{number_again}
use Rattle.script_lang.proofs.Objects.{object_again}
use Rattle.script_lang.proofs.laws.what_is_printed_reads_back.Goals as goal

pub returns-clause-key : goal.returns-clause-key
returns-clause-key c = key_again

pub returns-clause-queue_pair : goal.returns-clause-queue_pair
returns-clause-queue_pair c = queue_pair_again

pub returns-clause-bytes : goal.returns-clause-bytes
returns-clause-bytes c = bytes_again

pub returns-clause-object : goal.returns-clause-object
returns-clause-object c = object_again

pub returns-clause-number : goal.returns-clause-number
returns-clause-number c = number_again
