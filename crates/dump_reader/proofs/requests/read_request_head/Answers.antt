use Rattle.std.proofs.Common.{rules, []}
use Rattle.dump_reader.specs.Groups.{link_of_head, may_be_flags, may_be_length, request_head_field}
use Rattle.protocol.specs.Dumps.{kind_of}
use Rattle.dump_reader.proofs.Latched.{first, next, given, kept, plain, kept_so}
use Rattle.dump_reader.proofs.requests.read_request_head.Goals as goal

pub returns-clause-head : goal.returns-clause-head
unfolding request_head_field
returns-clause-head c =
    first _ (plain c.u64-id.ensures)
    (next _ c.u8_up_to-code.ensures
    (next _ (kept (may_be_flags c.args.standing.now.version c.args.link.now.numbers.top c.args.standing.now.low c.args.standing.now.landing (kind_of c.u8_up_to-code.result)) c.u8-flags.ensures c.keep.ensures (rw (← c.kind_of_byte-kind.ensures) c.flags_fit.ensures))
    (next _ c.u32_if-imm.ensures
    (next _ (kept (may_be_length (link_of_head c.args.link.now []) c.args.standing.now.count c.args.standing.now.index c.args.standing.now.low (kind_of c.u8_up_to-code.result)) c.u32-length.ensures c.keep-2.ensures (rw (← c.kind_of_byte-kind.ensures) c.length_fits.ensures.test))
    (given (search rules))))))

pub returns-clause-limit : goal.returns-clause-limit
returns-clause-limit c = kept_so _ c.keep-2.ensures c.length_fits.ensures.limit
