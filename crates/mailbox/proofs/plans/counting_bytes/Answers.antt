use Rattle.std.proofs.Common.{◌≡◌, ◌∷◌, [], ◌++◌, ◌+◌, ◌%◌, ◌∙◌, ap, sym, refl, arith, add-one}
use Rattle.mailbox_rules.specs.Command.{counting_bytes}
use Rattle.mailbox.proofs.Running.{counts_more}
use Rattle.mailbox.proofs.plans.counting_bytes.Goals as goal

pub loop-made-init : goal.loop-made-init
unfolding counting_bytes
loop-made-init c = record { bytes = c.in_ok-bytes.ensures.items; next = omega arith }

pub loop-made-preserved : goal.loop-made-preserved
loop-made-preserved c =
    let n = c.loop-made._made in
    record {
      bytes = c.in_ok-push.ensures.items
          ∙ (ap (λ b. c.loop-made.bytes.items ++ b ∷ []) c.loop-made.invariant.next
          ∙ (ap (λ bs. bs ++ (c.args.from + n) % 256 ∷ []) c.loop-made.invariant.bytes
          ∙ (counts_more c.args.from n ∙ ap (λ k. counting_bytes c.args.from k) (sym (add-one n)))));
      next = omega (arith, c.loop-made.invariant.next);
    }
