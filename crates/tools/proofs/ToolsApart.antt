-- No words are those of two commands: `mail` has one word more than `threads` and `fanout`.
use Rattle.std.proofs.Common.{◌≡◌, ℕ, List, [], ◌∷◌, Some, None, refl}
use Rattle.mailbox_rules.specs.declared.plans.MailPlan.{MailPlan}
use Rattle.tools.specs.Mails.{mail_of}
use Rattle.tools.specs.Fanout.{fanout_of}
use Rattle.tools.specs.Threads.{threads_of}

pub no_threads : (words : List (List ℕ)) (plan : MailPlan) → mail_of words ≡ Some plan → threads_of words ≡ None
no_threads [] plan is = refl
no_threads (a ∷ []) plan is = refl
no_threads (a ∷ b ∷ []) plan is = refl
no_threads (a ∷ b ∷ c ∷ []) plan is = refl
no_threads (a ∷ b ∷ c ∷ d ∷ []) plan is = absurd cc
no_threads (a ∷ b ∷ c ∷ d ∷ e ∷ rest) plan is = refl

pub no_fanout_of_mail : (words : List (List ℕ)) (plan : MailPlan) → mail_of words ≡ Some plan → fanout_of words ≡ None
no_fanout_of_mail [] plan is = refl
no_fanout_of_mail (a ∷ []) plan is = refl
no_fanout_of_mail (a ∷ b ∷ []) plan is = refl
no_fanout_of_mail (a ∷ b ∷ c ∷ []) plan is = refl
no_fanout_of_mail (a ∷ b ∷ c ∷ d ∷ []) plan is = absurd cc
no_fanout_of_mail (a ∷ b ∷ c ∷ d ∷ e ∷ rest) plan is = refl
