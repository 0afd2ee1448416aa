use Rattle.std.proofs.Common.{refl, nat_le}
use Rattle.std.specs.Prelude.{◌==◌, ◌||◌}
use Rattle.dump_reader.specs.Groups.{waiting_field}
use Rattle.dump_reader.proofs.Latched.{first, next, given, kept}
use Rattle.dump_reader.proofs.groups.read_waiting.Goals as goal

pub returns : goal.returns
unfolding waiting_field
returns c =
    first _ c.u8_up_to-spent.ensures
    (next _ (kept (λ n. c.args.terms.now.rnr == 7 || nat_le n c.args.terms.now.rnr) c.u8-waits.ensures c.keep.ensures c.may_wait.ensures)
    (next _ c.u8_up_to-rnr_wait.ensures
    (next _ c.u64_below-expected.ensures
    (next _ c.u8_up_to-nak_sent.ensures
    (next _ c.u32_below-msn.ensures
    (given refl))))))
