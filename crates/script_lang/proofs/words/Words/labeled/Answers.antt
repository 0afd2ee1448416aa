use Rattle.script_lang.proofs.Exits.{gives_front}
use Rattle.script_lang.proofs.words.Words.labeled.Goals as goal

pub returns-clause-value : goal.returns-clause-value
returns-clause-value c = λ more. rw c.in_ok-fixed.ensures (gives_front c.number.result _ _ more c.number.ensures.value)
