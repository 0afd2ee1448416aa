-- The answer with its number.
use Rattle.std.proofs.Common.{◌≡◌, ◌∙◌, ℕ, ap, sym, refl, arith}
use Rattle.std.proofs.lemmas.Grind.{common_steps}
use Rattle.protocol.specs.WorldStep.{numbered}
use Rattle.rdma_types.specs.declared.answers.Answer.{Answer}
use Rattle.rdma_types.specs.declared.answers.Answer.TheVariants as answer
use Rattle.rdma_types.specs.declared.answers.ArrivalEffect.{ArrivalEffect}
use Rattle.world_core.proofs.running.number.Goals as goal

pub returns-in-Took : goal.returns-in-Took
unfolding numbered
returns-in-Took c = ap (λ n. answer.Took c.in-Took.took n c.in-Took.count) c.first_number.ensures ∙ sym (ap (numbered c.args.next) c.in-Took.is)

pub returns-in-Sent : goal.returns-in-Sent
unfolding numbered
returns-in-Sent c = grind (arith, common_steps)

-- an answer that is none of the two stays
other_stays : (next : ℕ) (a : Answer) → ((t : ArrivalEffect) (n m : ℕ) → a ≡ answer.Took t n m → ⊥) → ((n : ℕ) → a ≡ answer.Sent n → ⊥) → a ≡ numbered next a
unfolding numbered
other_stays next (answer.Took t n m) took sent = absurd (took t n m refl)
other_stays next (answer.Sent n) took sent = absurd (sent n refl)
other_stays next a took sent = refl

pub returns-in_default : goal.returns-in_default
returns-in_default c = other_stays c.args.next c.args.answer c.in_default.not-Took c.in_default.not-Sent
