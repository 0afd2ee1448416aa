-- The opening devices are those that are written out, both ways.
use Rattle.std.proofs.Common.{arith, ◌≡◌, zero, suc, refl, sym, ◌∙◌}
use Rattle.order_rules.specs.Evaluate.{opened, opened_apart}
use Rattle.order_rules.specs.Opened.{written_openings}
use Rattle.order_rules.specs.Openings.{openings, openings_apart}
use Rattle.order_rules.proofs.devices_open_apart.Goals as goal

one : openings_apart 1 ≡ written_openings 1
unfolding opened_apart
one = refl

one_together : openings 1 ≡ written_openings 1
unfolding opened
one_together = refl

two : openings_apart 2 ≡ written_openings 2
unfolding opened_apart
two = refl

two_together : openings 2 ≡ written_openings 2
unfolding opened
two_together = refl

three : openings_apart 3 ≡ written_openings 3
unfolding opened_apart
three = refl

three_together : openings 3 ≡ written_openings 3
unfolding opened
three_together = refl

four : openings_apart 4 ≡ written_openings 4
unfolding opened_apart
four = refl

four_together : openings 4 ≡ written_openings 4
unfolding opened
four_together = refl

five : openings_apart 5 ≡ written_openings 5
unfolding opened_apart
five = refl

five_together : openings 5 ≡ written_openings 5
unfolding opened
five_together = refl

six : openings_apart 6 ≡ written_openings 6
unfolding opened_apart
six = refl

six_together : openings 6 ≡ written_openings 6
unfolding opened
six_together = refl

seven : openings_apart 7 ≡ written_openings 7
unfolding opened_apart
seven = refl

seven_together : openings 7 ≡ written_openings 7
unfolding opened
seven_together = refl

eight : openings_apart 8 ≡ written_openings 8
unfolding opened_apart
eight = refl

eight_together : openings 8 ≡ written_openings 8
unfolding opened
eight_together = refl

pub returns : goal.returns
returns c zero low high = absurd (omega arith)
returns c (suc zero) low high = one ∙ sym one_together
returns c (suc (suc zero)) low high = two ∙ sym two_together
returns c (suc (suc (suc zero))) low high = three ∙ sym three_together
returns c (suc (suc (suc (suc zero)))) low high = four ∙ sym four_together
returns c (suc (suc (suc (suc (suc zero))))) low high = five ∙ sym five_together
returns c (suc (suc (suc (suc (suc (suc zero)))))) low high = six ∙ sym six_together
returns c (suc (suc (suc (suc (suc (suc (suc zero))))))) low high = seven ∙ sym seven_together
returns c (suc (suc (suc (suc (suc (suc (suc (suc zero)))))))) low high = eight ∙ sym eight_together
returns c (suc (suc (suc (suc (suc (suc (suc (suc (suc k))))))))) low high = absurd (omega (arith, high))
