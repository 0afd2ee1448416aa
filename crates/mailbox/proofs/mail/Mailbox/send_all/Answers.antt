use Rattle.std.proofs.Common.{◌≡◌, ◌+◌, ℕ, ap, ◌∙◌, refl, arith}
use Rattle.rand_core.specs.Steps.{stream_of, steps_u32}
use Rattle.rand_core.specs.Stream.{Stream, next_u32}
use Rattle.rand_pcg.specs.Pcg.{pcg32}
use Rattle.workload_gen.specs.Plan.{word_at, words_of}
use Rattle.workload_gen.proofs.Growth.{words_more, words_start}
use Rattle.mailbox_rules.specs.Command.{letters_calls}
use Rattle.mailbox.proofs.Running.{no_letters, run_letters_more, run_none}
use Rattle.mailbox.proofs.mail.Mailbox.send_all.Goals as goal

pub loop-i-init : goal.loop-i-init
loop-i-init g c = record {
  run = run_none c.args.self.now (letters_calls c.args.plan.now 1 0) (λ m. no_letters c.args.plan.now 1 m);
  words = ap (λ s. stream_of (steps_u32 pcg32) s) c.new-words.ensures ∙ words_start (words_of c.args.plan.now.seed);
  few = omega arith;
}

pub loop-i-preserved : goal.loop-i-preserved
loop-i-preserved g c =
    let taken = c.next_u32-word.ensures in
    let word : c.next_u32-word.result ≡ word_at c.args.plan.now.seed c.loop-i.i =
    ap (λ (z : ℕ × Stream). z.0) taken ∙ ap (λ (z : Stream). (next_u32 z).0) c.loop-i.invariant.words in
    record {
      run = run_letters_more c.args.self.now c.loop-i.self c.turn.new.self c.args.plan.now c.loop-i.sent c.in_ok-more.more c.next_u32-word.result c.loop-i.i (c.loop-i.i + 1) refl word c.loop-i.invariant.run c.in_ok-more.ensures.run;
      words = ap (λ (z : ℕ × Stream). z.1) taken ∙ words_more (words_of c.args.plan.now.seed) (stream_of (steps_u32 pcg32) c.loop-i.words) c.loop-i.i c.loop-i.invariant.words;
      few = omega (arith, c.in_ok-more.ensures.within, c.loop-i.invariant.few);
    }
