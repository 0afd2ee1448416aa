use Rattle.std.proofs.Common.{◌≡◌, ℕ, ap, ◌∙◌}
use Rattle.rand_core.specs.Steps.{stream_of, steps_u32}
use Rattle.rand_core.specs.Stream.{Stream, next_u32}
use Rattle.rand_pcg.specs.Pcg.{pcg32}
use Rattle.workload_gen.specs.Plan.{word_at, words_of}
use Rattle.workload_gen.proofs.Growth.{messages_start, messages_more, words_start, words_more}
use Rattle.workload_gen.proofs.plan.put_messages.Goals as goal

pub loop-i-init : goal.loop-i-init
loop-i-init c = record {
  text = messages_start c.args.seed c.args.mix.now c.args.out.now.items;
  words = ap (stream_of (steps_u32 pcg32)) c.new-words.ensures ∙ words_start (words_of c.args.seed);
}

pub loop-i-preserved : goal.loop-i-preserved
loop-i-preserved c =
    let taken = c.next_u32-word.ensures in
    let word : c.next_u32-word.result ≡ word_at c.args.seed c.loop-i.i =
    ap (λ (z : ℕ × Stream). z.0) taken ∙ ap (λ (z : Stream). (next_u32 z).0) c.loop-i.invariant.words in
    record {
      text = messages_more c.args.seed c.args.mix.now c.loop-i.i c.next_u32-word.result c.args.out.now.items c.loop-i.out.items c.put_turn.new.out.items c.loop-i.invariant.text word c.in_ok-put_turn.ensures;
      words = ap (λ (z : ℕ × Stream). z.1) taken ∙ words_more (words_of c.args.seed) (stream_of (steps_u32 pcg32) c.loop-i.words) c.loop-i.i c.loop-i.invariant.words;
    }
