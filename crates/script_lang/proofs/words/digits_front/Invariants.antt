-- The number is that of the digits read so far.
use Rattle.std.proofs.Common.{length, ◌-◌, ◌≡◌, ◌<◌, ◌≤◌, ◌^◌, take, true}
use Rattle.std.specs.List.{list_all}
use Rattle.script_lang.specs.Texts.{is_digit, digits_after}
use Rattle.script_lang.proofs.words.digits_front.Given as goal

abbrev pub invariant-loop-count : goal.invariant-loop-count
invariant-loop-count l = record { small : l.n < 10 ^ l.count; digits : list_all is_digit (take l.count l.text) ≡ true; value : l.n ≡ digits_after 0 (take l.count l.text); within : l.count ≤ length l.text }

abbrev pub decreases-loop-count : goal.decreases-loop-count
decreases-loop-count l = length l.text - l.count
