use Rattle.std.proofs.Common.{ℕ, arith, length-append}
use Rattle.roce_headers.proofs.writing.write_headers.Goals as goal

pub write_resume-requires : goal.write_resume-requires
write_resume-requires c = omega (arith, length-append {A = ℕ}, simp length-append at c.requires.room)
