use Rattle.std.proofs.Common.{refl}
use Rattle.protocol.specs.State.{World}
use Rattle.protocol.proofs.Histories.{forgetting-forgetting}
use Rattle.law_kept_datagrams.specs.Alike.{AreAlike, with_kept_datagrams}
use Rattle.law_kept_datagrams.proofs.Rounds.{answers_alike, line_alike}
use Rattle.law_kept_datagrams.proofs.Steps.{step_alike}
use Rattle.law_kept_datagrams.proofs.alike_worlds_are_answered_alike.Goals as goal

kept_datagrams_alike : (w : World) → AreAlike (with_kept_datagrams w) w
kept_datagrams_alike w = record { devices = refl; sent = forgetting-forgetting w.sent; carried = refl; stopped = refl }

pub returns-clause-kept_datagrams : goal.returns-clause-kept_datagrams
returns-clause-kept_datagrams c = kept_datagrams_alike

pub returns-clause-event : goal.returns-clause-event
returns-clause-event c = step_alike

pub returns-clause-line : goal.returns-clause-line
returns-clause-line c = line_alike

pub returns-clause-script : goal.returns-clause-script
returns-clause-script c w hs = answers_alike (with_kept_datagrams w) w hs (kept_datagrams_alike w)
