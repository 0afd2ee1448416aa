use Rattle.std.proofs.Common.{refl}
use Rattle.rdma_types.specs.declared.verbs.Verb.{Verb}
use Rattle.script_lang.specs.declared.verbs.PostHead.{PostHead}
use Rattle.script_lang.specs.Fields.{a_key, a_long, a_short, an_immediate}
use Rattle.script_lang.specs.Verbs.{write_line, posted, write_shape}
use Rattle.script_lang.specs.Words.{Reads, ◌>>=◌}
use Rattle.script_lang.proofs.Exits.{gives_err}
use Rattle.script_lang.proofs.verbs.write.Goals as goal

-- what follows these
abbrev rest : PostHead → Reads Verb
rest p = do
  size ← a_short
  remote ← a_long
  rkey ← a_key
  imm ← an_immediate
  posted p.end p.id p.lkey p.local (write_shape size remote rkey imm)

pub returns-in_err-at-clause-value : goal.returns-in_err-at-clause-value
unfolding write_line
returns-in_err-at-clause-value c = gives_err _ _ _ _ c.from_residual.ensures (c.in_err-at.ensures rest)

pub returns-in_err-length-clause-value : goal.returns-in_err-length-clause-value
unfolding write_line
returns-in_err-length-clause-value c = gives_err _ _ _ _ c.from_residual-in_err-length.ensures (rw (c.in_ok-at.ensures rest, c.in_err-length.ensures) refl)

pub returns-in_err-remote-clause-value : goal.returns-in_err-remote-clause-value
unfolding write_line
returns-in_err-remote-clause-value c = gives_err _ _ _ _ c.from_residual-in_err-remote.ensures (rw (c.in_ok-at.ensures rest, c.in_ok-length.ensures, c.in_err-remote.ensures) refl)

pub returns-in_err-rkey-clause-value : goal.returns-in_err-rkey-clause-value
unfolding write_line
returns-in_err-rkey-clause-value c = gives_err _ _ _ _ c.from_residual-in_err-rkey.ensures (rw (c.in_ok-at.ensures rest, c.in_ok-length.ensures, c.in_ok-remote.ensures, c.in_err-rkey.ensures) refl)

pub returns-in_err-imm-clause-value : goal.returns-in_err-imm-clause-value
unfolding write_line
returns-in_err-imm-clause-value c = gives_err _ _ _ _ c.from_residual-in_err-imm.ensures (rw (c.in_ok-at.ensures rest, c.in_ok-length.ensures, c.in_ok-remote.ensures, c.in_ok-rkey.ensures, c.in_err-imm.ensures) refl)

pub returns-clause-value : goal.returns-clause-value
unfolding write_line
returns-clause-value c = rw (c.in_ok-at.ensures rest, c.in_ok-length.ensures, c.in_ok-remote.ensures, c.in_ok-rkey.ensures, c.in_ok-imm.ensures) c.posted.ensures.value
