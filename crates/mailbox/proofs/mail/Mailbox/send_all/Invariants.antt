use Rattle.std.proofs.Common.{◌≡◌, ◌≤◌}
use Rattle.rand_core.specs.Steps.{stream_of, steps_u32}
use Rattle.rand_pcg.specs.Pcg.{pcg32}
use Rattle.workload_gen.specs.Plan.{after_words, words_of}
use Rattle.mailbox_rules.specs.Command.{letters_calls}
use Rattle.mailbox.specs.Runs.{IsRun}
use Rattle.mailbox.proofs.mail.Mailbox.send_all.Given as goal

abbrev pub invariant-loop-i : goal.invariant-loop-i
invariant-loop-i g l = record {
  run : IsRun l.fn.self l.self l.sent 0 (letters_calls l.plan 1 l.i);
  words : stream_of (steps_u32 pcg32) l.words ≡ after_words l.i (words_of l.plan.seed);
  few : l.sent ≤ l.i;
}
