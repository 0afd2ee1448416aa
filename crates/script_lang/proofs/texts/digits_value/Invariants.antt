use Rattle.std.proofs.Common.{◌≡◌, ◌<◌, ◌^◌, drop}
use Rattle.script_lang.specs.Texts.{digits_after}
use Rattle.script_lang.proofs.texts.digits_value.Given as goal

abbrev pub invariant-loop-b : goal.invariant-loop-b
invariant-loop-b l = record { fits : l.n < 2 ^ 64; value : digits_after l.n (drop l.b-index l.text) ≡ digits_after 0 l.text }
