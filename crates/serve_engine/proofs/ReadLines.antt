-- Lines that were read and done.
use Rattle.std.proofs.Common.{◌≡◌, Result, Ok, Err, inl, inr, refl}
use Rattle.std.specs.Prelude.{IfOk}
use Rattle.std.proofs.lemmas.Result.{IfOk-weaker}
use Rattle.std.specs.declared.alloc.AllocError.{AllocError}
use Rattle.script_lang.specs.declared.lines.Offence.{Offence}
use Rattle.serve_rules.specs.declared.lines.ServeLine.{ServeLine}
use Rattle.serve_rules.specs.declared.replies.Reply.{Reply}
use Rattle.serve_rules.specs.declared.replies.Reply.TheVariants as reply
use Rattle.serve_rules.specs.Moving.{Kept}
use Rattle.serve_rules.specs.Server.{Server}
use Rattle.serve_engine.specs.Doing.{LineLeaves, ReadingLeaves}

-- the line that was read was done
pub line_done : (reading : Result ServeLine Offence) (l : ServeLine) (s s' : Server) (r : Result Reply AllocError) (k k' : Kept) → reading ≡ Ok l → IfOk r (λ a. LineLeaves l s a s' k k') → IfOk r (λ a. ReadingLeaves reading s a s' k k')
line_done reading l s s' r k k' e h = IfOk-weaker r (λ a. LineLeaves l s a s' k k') (λ a. ReadingLeaves reading s a s' k k') (λ a d. rw e (inl d)) h

-- there was no memory to read it
pub no_memory : (reading : Result ServeLine Offence) (s : Server) (k : Kept) → ReadingLeaves reading s reply.Memory s k k
no_memory (Ok l) s k = inr (refl, refl, refl)
no_memory (Err o) s k = (inr refl, refl, refl)
