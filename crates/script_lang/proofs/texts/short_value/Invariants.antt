use Rattle.std.proofs.Common.{◌≡◌, ◌<◌, ◌^◌, take, drop, true}
use Rattle.std.specs.List.{list_all}
use Rattle.script_lang.specs.Texts.{is_digit, digits_after}
use Rattle.script_lang.proofs.texts.short_value.Given as goal

abbrev pub invariant-loop-b : goal.invariant-loop-b
invariant-loop-b l = record { small : l.n < 10 ^ l.b-index; digits : list_all is_digit (take l.b-index l.text) ≡ true; value : digits_after l.n (drop l.b-index l.text) ≡ digits_after 0 l.text }
