use Rattle.script_lang.proofs.Decimals.{only_decimal}
use Rattle.script_lang.proofs.laws.a_number_is_spelled_in_one_way.Goals as goal

pub returns : goal.returns
returns c = only_decimal
