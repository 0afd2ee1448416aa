use Rattle.std.proofs.Common.{refl}
use Rattle.rdma_types.specs.declared.verbs.Verb.{Verb}
use Rattle.rdma_types.specs.declared.verbs.Verb.TheVariants as verb
use Rattle.script_lang.specs.declared.verbs.PostHead.{PostHead}
use Rattle.script_lang.specs.Fields.{a_short}
use Rattle.script_lang.specs.Verbs.{recv_line}
use Rattle.script_lang.specs.Words.{Reads, ◌>>=◌, done}
use Rattle.script_lang.proofs.Exits.{gives_err}
use Rattle.script_lang.proofs.verbs.recv.Goals as goal

-- what follows these
abbrev rest : PostHead → Reads Verb
rest p = do
  size ← a_short
  done (verb.PostRecv p.end (record { id = p.id; lkey = p.lkey; local = p.local; length = size }))

pub returns-in_err-at-clause-value : goal.returns-in_err-at-clause-value
unfolding recv_line
returns-in_err-at-clause-value c = gives_err _ _ _ _ c.from_residual.ensures (c.in_err-at.ensures rest)

pub returns-in_err-length-clause-value : goal.returns-in_err-length-clause-value
unfolding recv_line
returns-in_err-length-clause-value c = gives_err _ _ _ _ c.from_residual-in_err-length.ensures (rw (c.in_ok-at.ensures rest, c.in_err-length.ensures) refl)

pub returns-clause-value : goal.returns-clause-value
unfolding recv_line
returns-clause-value c = rw (c.in_ok-at.ensures rest, c.in_ok-length.ensures) refl
