use Rattle.std.proofs.Common.{◌≡◌, Some, rules}
use Rattle.script_lang.specs.Texts.{hex_number}
use Rattle.script_lang.proofs.Ranges.{three_bytes}
use Rattle.script_lang.proofs.texts.queue_pair.Goals as goal

pub returns-clause-small : goal.returns-clause-small
unfolding hex_number
returns-clause-small c =
    let value : hex_number 3 c.args.text.now ≡ Some c.read_u24.result = search rules in
    three_bytes c.args.text.now c.read_u24.result value
