-- All that calls on letters compute with, opened for worked examples.
use Rattle.std.specs.Prelude.{ℕ, List}
use Rattle.std.specs.Fmt.{digits}
use Rattle.protocol.specs.Evaluate.{computed}
use Rattle.mailbox_rules.specs.Letters as in_letters
use Rattle.mailbox_rules.specs.Opening as in_opening
use Rattle.mailbox_rules.specs.State.{made_with}
use Rattle.mailbox_rules.specs.Working as in_working
use Rattle.mailbox_rules.specs.Calls as in_calls
use Rattle.mailbox_rules.specs.Histories as in_histories
use Rattle.mailbox_rules.specs.Histories.{open_letters, turns_of}
use Rattle.mailbox_rules.specs.declared.letters.Letter.{Letter}
use Rattle.mailbox_rules.specs.declared.plans.MailPlan.{MailPlan}
use Rattle.mailbox_rules.specs.Command as in_command
use Rattle.mailbox_rules.specs.Command.{mail_calls, mail_line}
use Rattle.rand_core.specs.Steps as in_steps
use Rattle.rand_core.specs.Stream as in_stream
use Rattle.workload_gen.specs.Plan as in_plan
use Rattle.mailbox_rules.specs.Calls.{Call, Reply, replies_of}

-- what calls answer after a beginning with so many senders, whose slots have so many bytes
unfoldable pub answered : ℕ → ℕ → List Call → List Reply
unfolding computed digits
    in_letters.header_bytes in_letters.header_of
    in_opening.receives_events in_opening.sender_events in_opening.senders_events in_opening.opening_events
    in_working.asking in_working.posting in_working.filled in_working.doing in_working.noting_all in_working.work_step in_working.worked in_working.working
    in_calls.posts_letter in_calls.sends in_calls.takes in_calls.networks in_calls.settles in_calls.calls in_calls.after in_calls.replies_of
answered slot peers cs = replies_of (made_with slot peers) cs

-- the letters of sender i that are open after calls
unfoldable pub open_after : ℕ → ℕ → ℕ → List Call → List Letter
unfolding answered in_histories.turns_of in_histories.without_first
open_after slot peers i cs = open_letters i (turns_of (made_with slot peers) cs)

-- the line of a plan
unfoldable pub line_written : MailPlan → List ℕ
unfolding answered in_command.counting_bytes in_command.sending_calls in_command.moves_after in_command.letters_calls in_command.taking_calls in_command.all_taking_calls
    in_plan.after_words in_steps.stream_of in_stream.next_u32
line_written plan = mail_line plan

-- the calls of a plan
unfoldable pub calls_made : MailPlan → List Call
unfolding line_written
calls_made plan = mail_calls plan

-- what calls answer after others and a call to work that ran out of memory after so many steps
unfoldable pub answered_after_cut : ℕ → ℕ → List Call → ℕ → List Call → List Reply
unfolding answered
answered_after_cut slot peers before steps cs = replies_of (in_working.worked steps (in_working.begun (in_calls.after (made_with slot peers) before))).mail cs
