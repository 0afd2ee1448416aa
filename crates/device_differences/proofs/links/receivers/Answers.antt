use Rattle.std.proofs.Common.{◌≡◌, List, [], ◌∷◌, rules, sym, ◌∙◌}
use Rattle.device_differences.specs.Differing.{across, between}
use Rattle.device_differences.specs.Differences.{receiver_difference, reply_difference}
use Rattle.device_differences.specs.Numbers.{numbers_of_progress, numbers_of_receiver}
use Rattle.device_differences.proofs.Found.{part-found, part-passed}
use Rattle.device_differences.proofs.Parts.{progress-told}
use Rattle.device_differences.proofs.links.receivers.Goals as goal

pub returns-then-is_some-2 : goal.returns-then-is_some-2
unfolding receiver_difference
returns-then-is_some-2 c =
    let x = c.args.a.now.receiver in
    let y = c.args.b.now.receiver in
    let replies = across reply_difference x.kept y.kept ∷ [] in
    let e : c.numbers-found.result ≡ between (numbers_of_receiver x) (numbers_of_receiver y) = search rules in
    let f : c.numbers-found-2.result ≡ between (numbers_of_progress x.progress) (numbers_of_progress y.progress) =
    c.numbers-found-2.ensures ∙ (λ i. between ((c.progress_numbers.ensures ∙ progress-told x c.parts-x.result c.parts-x.ensures.parts) i) ((c.progress_numbers-2.ensures ∙ progress-told y c.parts-y.result c.parts-y.ensures.parts) i)) in
    part-found c.numbers-found-2.result (between (numbers_of_progress x.progress) (numbers_of_progress y.progress)) replies f (search rules)
    ∙ sym (part-passed c.numbers-found.result (between (numbers_of_receiver x) (numbers_of_receiver y)) (between (numbers_of_progress x.progress) (numbers_of_progress y.progress) ∷ replies) e (search rules))
