use Rattle.std.proofs.Common.{ℕ, refl, codes}
use Rattle.rdma_types.specs.declared.requests.Terms.{Terms}
use Rattle.script_lang.specs.Fields.{a_number, labeled_then, some_terms}
use Rattle.script_lang.specs.Words.{Reads, ◌>>=◌, done}
use Rattle.script_lang.proofs.Exits.{gives_err}
use Rattle.script_lang.proofs.words.Words.terms.Goals as goal

-- what follows the numbers that stand behind words
abbrev rest_reads : ℕ → ℕ → ℕ → ℕ → ℕ → ℕ → Reads Terms
rest_reads mtu own peer retry rnr reads = done (record { mtu = mtu; own_start = own; peer_start = peer; retry = retry; rnr = rnr; reads = reads })

abbrev rest_rnr : ℕ → ℕ → ℕ → ℕ → ℕ → Reads Terms
rest_rnr mtu own peer retry rnr = labeled_then (codes "reads") 1 16 (rest_reads mtu own peer retry rnr)

abbrev rest_retry : ℕ → ℕ → ℕ → ℕ → Reads Terms
rest_retry mtu own peer retry = labeled_then (codes "rnr") 0 7 (rest_rnr mtu own peer retry)

abbrev rest_own : ℕ → ℕ → Reads Terms
rest_own mtu own = do
  peer ← a_number 0 16777215
  labeled_then (codes "retry") 0 7 (rest_retry mtu own peer)

pub returns-in_err-fixed-clause-value : goal.returns-in_err-fixed-clause-value
unfolding some_terms
returns-in_err-fixed-clause-value c = gives_err _ _ _ _ c.from_residual.ensures (rw (c.in_err-fixed.ensures) refl)

pub returns-in_err-mtu-clause-value : goal.returns-in_err-mtu-clause-value
unfolding some_terms
returns-in_err-mtu-clause-value c = gives_err _ _ _ _ c.from_residual-in_err-mtu.ensures (rw (c.in_ok-fixed.ensures, c.in_err-mtu.ensures.value) refl)

pub returns-in_err-own_start-clause-value : goal.returns-in_err-own_start-clause-value
unfolding some_terms
returns-in_err-own_start-clause-value c = gives_err _ _ _ _ c.from_residual-in_err-own_start.ensures (rw (c.in_ok-fixed.ensures, c.in_ok-mtu.ensures.value, c.in_err-own_start.ensures.value (rest_own c.in_ok-mtu.mtu)) refl)

pub returns-in_err-peer_start-clause-value : goal.returns-in_err-peer_start-clause-value
unfolding some_terms
returns-in_err-peer_start-clause-value c = gives_err _ _ _ _ c.from_residual-in_err-peer_start.ensures (rw (c.in_ok-fixed.ensures, c.in_ok-mtu.ensures.value, c.in_ok-own_start.ensures.value (rest_own c.in_ok-mtu.mtu), c.in_err-peer_start.ensures.value) refl)

pub returns-in_err-retry-clause-value : goal.returns-in_err-retry-clause-value
unfolding some_terms
returns-in_err-retry-clause-value c = gives_err _ _ _ _ c.from_residual-in_err-retry.ensures (rw (c.in_ok-fixed.ensures, c.in_ok-mtu.ensures.value, c.in_ok-own_start.ensures.value (rest_own c.in_ok-mtu.mtu), c.in_ok-peer_start.ensures.value, c.in_err-retry.ensures.value (rest_retry c.in_ok-mtu.mtu c.in_ok-own_start.field-0 c.in_ok-peer_start.field-0)) refl)

pub returns-in_err-rnr-clause-value : goal.returns-in_err-rnr-clause-value
unfolding some_terms
returns-in_err-rnr-clause-value c = gives_err _ _ _ _ c.from_residual-in_err-rnr.ensures (rw (c.in_ok-fixed.ensures, c.in_ok-mtu.ensures.value, c.in_ok-own_start.ensures.value (rest_own c.in_ok-mtu.mtu), c.in_ok-peer_start.ensures.value, c.in_ok-retry.ensures.value (rest_retry c.in_ok-mtu.mtu c.in_ok-own_start.field-0 c.in_ok-peer_start.field-0), c.in_err-rnr.ensures.value (rest_rnr c.in_ok-mtu.mtu c.in_ok-own_start.field-0 c.in_ok-peer_start.field-0 c.in_ok-retry.field-0)) refl)

pub returns-in_err-reads-clause-value : goal.returns-in_err-reads-clause-value
unfolding some_terms
returns-in_err-reads-clause-value c = gives_err _ _ _ _ c.from_residual-in_err-reads.ensures (rw (c.in_ok-fixed.ensures, c.in_ok-mtu.ensures.value, c.in_ok-own_start.ensures.value (rest_own c.in_ok-mtu.mtu), c.in_ok-peer_start.ensures.value, c.in_ok-retry.ensures.value (rest_retry c.in_ok-mtu.mtu c.in_ok-own_start.field-0 c.in_ok-peer_start.field-0), c.in_ok-rnr.ensures.value (rest_rnr c.in_ok-mtu.mtu c.in_ok-own_start.field-0 c.in_ok-peer_start.field-0 c.in_ok-retry.field-0), c.in_err-reads.ensures.value (rest_reads c.in_ok-mtu.mtu c.in_ok-own_start.field-0 c.in_ok-peer_start.field-0 c.in_ok-retry.field-0 c.in_ok-rnr.field-0)) refl)

pub returns-clause-value : goal.returns-clause-value
unfolding some_terms
returns-clause-value c =
    rw (c.in_ok-fixed.ensures, c.in_ok-mtu.ensures.value, c.in_ok-own_start.ensures.value (rest_own c.in_ok-mtu.mtu), c.in_ok-peer_start.ensures.value, c.in_ok-retry.ensures.value (rest_retry c.in_ok-mtu.mtu c.in_ok-own_start.field-0 c.in_ok-peer_start.field-0), c.in_ok-rnr.ensures.value (rest_rnr c.in_ok-mtu.mtu c.in_ok-own_start.field-0 c.in_ok-peer_start.field-0 c.in_ok-retry.field-0), c.in_ok-reads.ensures.value (rest_reads c.in_ok-mtu.mtu c.in_ok-own_start.field-0 c.in_ok-peer_start.field-0 c.in_ok-retry.field-0 c.in_ok-rnr.field-0))
    refl
