use Rattle.std.proofs.Common.{refl, sym, subst, [], ◌∷◌}
use Rattle.std.specs.Prelude.{OnOk}
use Rattle.std.proofs.lemmas.Result.{on_ok_weaker}
use Rattle.mailbox_rules.specs.Calls.{Network, Refused}
use Rattle.mailbox.specs.Runs.{IsRun}
use Rattle.mailbox.proofs.Refusals.{always, refusal_of}
use Rattle.mailbox.proofs.Running.{run_replied}
use Rattle.mailbox.proofs.mail.Mailbox.have.Goals as goal
use Rattle.mailbox.proofs.mail.Mailbox.have.Goals.{in-Ok, in-Err}

pub returns : goal.returns
returns c = elim c.match-network.branch [
  | in-Ok w ↦ always c.match-network.result (λ m shows. run_replied c.network.new.self 0 0 m (Network c.args.event.now) _ (w.in-Ok.ensures.ok m shows) refl refl)
  | in-Err w ↦ subst (λ r. OnOk r (IsRun c.args.self.now c.network.new.self 0 0 (λ m. Network c.args.event.now ∷ []))) (sym w.result-is)
      (on_ok_weaker w.refused.result (λ is m shows.
      run_replied c.network.new.self 0 0 m (Network c.args.event.now) (Refused w.in-Err.fault) (refusal_of w.in-Err.fault _ _ is w.in-Err.ensures.err m shows) refl refl) w.refused.ensures)
]
