use Rattle.std.proofs.Common.{arith, ◌≡◌, [], length, refl, ap, ◌∙◌}
use Rattle.rdma_types.specs.declared.answers.Answer.TheVariants as answer
use Rattle.order_rules.specs.Evaluate.{opened}
use Rattle.rdma_types.specs.declared.answers.Answer.{Answer}
use Rattle.rdma_types.specs.declared.requests.Completion.{Completion}
use Rattle.std.specs.Prelude.{List}
use Rattle.order_rules.specs.Lines.{device_after}
use Rattle.order_rules.specs.Openings.{openings}
use Rattle.protocol.specs.DeviceStep.{device_step}
use Rattle.example_rules.specs.Alone.{gives}
use Rattle.example_rules.specs.OrdersCases.{polls_a}
use Rattle.example_rules.proofs.orders.an_invented_outcome_is_in_no_order.Goals as goal

-- the completions that a poll answers
abbrev polled : Answer → List Completion
polled (answer.Polled cs) = cs
polled other = []

told : (device_step (device_after (openings 1) [] 1) polls_a).outcome ≡ gives (answer.Polled []) []
unfolding opened
told = refl

pub returns : goal.returns
returns c o = let counts : 1 ≡ 0 = ap (λ x. length (polled x.answer)) ((o.each 0 _ refl).outcome ∙ told) in absurd (omega (arith, counts))
