use Rattle.std.specs.Prelude.{refl}
use Rattle.rdma_types.specs.Memory.{word_bytes, word_of}
use Rattle.test_devices.proofs.memory.examples.a_word_is_big_endian.Goals as goal

pub returns-clause-bytes : goal.returns-clause-bytes
unfolding word_bytes word_of
returns-clause-bytes c = refl

pub returns-clause-word : goal.returns-clause-word
unfolding word_bytes word_of
returns-clause-word c = refl
