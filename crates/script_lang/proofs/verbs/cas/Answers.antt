use Rattle.std.proofs.Common.{refl}
use Rattle.rdma_types.specs.declared.verbs.Verb.{Verb}
use Rattle.script_lang.specs.declared.verbs.PostHead.{PostHead}
use Rattle.script_lang.specs.Fields.{a_key, a_long}
use Rattle.script_lang.specs.Verbs.{cas_line, posted, swap_shape}
use Rattle.script_lang.specs.Words.{Reads, ◌>>=◌}
use Rattle.script_lang.proofs.Exits.{gives_err}
use Rattle.script_lang.proofs.verbs.cas.Goals as goal

-- what follows these
abbrev rest : PostHead → Reads Verb
rest p = do
  remote ← a_long
  rkey ← a_key
  compare ← a_long
  swap ← a_long
  posted p.end p.id p.lkey p.local (swap_shape remote rkey compare swap)

pub returns-in_err-at-clause-value : goal.returns-in_err-at-clause-value
unfolding cas_line
returns-in_err-at-clause-value c = gives_err _ _ _ _ c.from_residual.ensures (c.in_err-at.ensures rest)

pub returns-in_err-remote-clause-value : goal.returns-in_err-remote-clause-value
unfolding cas_line
returns-in_err-remote-clause-value c = gives_err _ _ _ _ c.from_residual-in_err-remote.ensures (rw (c.in_ok-at.ensures rest, c.in_err-remote.ensures) refl)

pub returns-in_err-rkey-clause-value : goal.returns-in_err-rkey-clause-value
unfolding cas_line
returns-in_err-rkey-clause-value c = gives_err _ _ _ _ c.from_residual-in_err-rkey.ensures (rw (c.in_ok-at.ensures rest, c.in_ok-remote.ensures, c.in_err-rkey.ensures) refl)

pub returns-in_err-compare-clause-value : goal.returns-in_err-compare-clause-value
unfolding cas_line
returns-in_err-compare-clause-value c = gives_err _ _ _ _ c.from_residual-in_err-compare.ensures (rw (c.in_ok-at.ensures rest, c.in_ok-remote.ensures, c.in_ok-rkey.ensures, c.in_err-compare.ensures) refl)

pub returns-in_err-swap_add-clause-value : goal.returns-in_err-swap_add-clause-value
unfolding cas_line
returns-in_err-swap_add-clause-value c = gives_err _ _ _ _ c.from_residual-in_err-swap_add.ensures (rw (c.in_ok-at.ensures rest, c.in_ok-remote.ensures, c.in_ok-rkey.ensures, c.in_ok-compare.ensures, c.in_err-swap_add.ensures) refl)

pub returns-clause-value : goal.returns-clause-value
unfolding cas_line
returns-clause-value c = rw (c.in_ok-at.ensures rest, c.in_ok-remote.ensures, c.in_ok-rkey.ensures, c.in_ok-compare.ensures, c.in_ok-swap_add.ensures) c.posted.ensures.value
