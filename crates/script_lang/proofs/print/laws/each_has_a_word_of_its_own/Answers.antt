use Rattle.script_lang.proofs.Apart.{refusal_apart, not_why_apart, left_apart, why_apart, silent_apart, wc_apart, status_apart, took_apart}
use Rattle.script_lang.proofs.print.laws.each_has_a_word_of_its_own.Goals as goal

pub returns-clause-refusals : goal.returns-clause-refusals
returns-clause-refusals c = λ x y e. refusal_apart x y e

pub returns-clause-not_counted : goal.returns-clause-not_counted
returns-clause-not_counted c = λ x y e. not_why_apart x y e

pub returns-clause-left : goal.returns-clause-left
returns-clause-left c = λ x y e. left_apart x y e

pub returns-clause-refused : goal.returns-clause-refused
returns-clause-refused c = λ x y e. why_apart x y e

pub returns-clause-silent : goal.returns-clause-silent
returns-clause-silent c = λ x y e. silent_apart x y e

pub returns-clause-kinds : goal.returns-clause-kinds
returns-clause-kinds c = λ x y e. wc_apart x y e

pub returns-clause-statuses : goal.returns-clause-statuses
returns-clause-statuses c = λ x y e. status_apart x y e

pub returns-clause-took : goal.returns-clause-took
returns-clause-took c = λ x y e. took_apart x y e
