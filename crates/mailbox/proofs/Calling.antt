-- What calls leave and answer, of each state that is shown.
use Rattle.std.proofs.Common.{◌≡◌, ℕ, true, false, List, [], refl, sym, ap, ◌∙◌}
use Rattle.rdma_types.specs.declared.answers.Answer.{Answer}
use Rattle.rdma_types.specs.declared.answers.Answer.TheVariants as answer
use Rattle.rdma_types.specs.declared.answers.UnfinishedReason.{UnfinishedReason}
use Rattle.rdma_types.specs.declared.names.ObjName.{ObjName}
use Rattle.protocol.specs.declared.events.WorldEvent.{WorldEvent}
use Rattle.protocol.specs.Script.{Settles, happens, settles}
use Rattle.protocol.specs.Settle.{settled}
use Rattle.protocol.specs.State.{World}
use Rattle.protocol.specs.WorldStep.{world_after, world_step}
use Rattle.law_kept_datagrams.specs.Alike.{AreAlike, StepAlike}
use Rattle.law_kept_datagrams.proofs.Rounds.{line_alike}
use Rattle.law_kept_datagrams.proofs.Steps.{step_alike}
use Rattle.law_settling.specs.Events.{settling_events}
use Rattle.world_core.specs.Kept.{Makes}
use Rattle.world_core.specs.Settled as settling
use Rattle.world_core.specs.Settled.{IsLeft, IsSettled}
use Rattle.world_core.specs.declared.settling.Quiet.{Quiet}
use Rattle.mailbox_rules.specs.declared.faults.MailFault.TheVariants as fault
use Rattle.mailbox_rules.specs.State.{Mail, with_world}
use Rattle.mailbox_rules.specs.Calls as rules
use Rattle.mailbox_rules.specs.Calls.{calls, networks, is_of_network}
use Rattle.mailbox_rules.specs.Wanting as wanting
use Rattle.mailbox.specs.Steps.{IsPartOfSettling, Replies, SettlesTo, Shows}
use Rattle.mailbox.proofs.Shown.{alike_kept, kept_alike}

module _ (v m : Mail) (new : World) (shows : Shows v m) where
  abbrev at_new : Mail
  at_new = record { world = new; channels = v.channels; owed = v.owed }

  alike : AreAlike v.world m.world
  alike = kept_alike v.world m.world shows.world

  -- ---- the network

  pub answered : (e : WorldEvent) (a : Answer) → is_of_network e ≡ true → Makes (world_step v.world e) a new → Replies at_new (rules.Answers a) (calls m (rules.Network e))
  unfolding calls networks
  answered e a of made =
      let k : StepAlike (world_step v.world e) (world_step m.world e) = step_alike v.world m.world e alike in
      rw of (record {
        reply_is = ap (λ x. rules.Answers x) (sym (made.answered ∙ k.answer));
        shown = record { world = made.left ∙ alike_kept (world_step v.world e).world (world_step m.world e).world k.world; channels = shows.channels; owed = shows.owed };
      })

  -- ---- settling

  pub settles_to : (q : Quiet) → IsSettled v.world new q → SettlesTo at_new q.unfinished m
  unfolding calls rules.settles happens settles
  settles_to q is =
      let k : StepAlike (happens v.world Settles) (happens m.world Settles) = line_alike v.world m.world Settles alike in
      record {
        left_is = is.unfinished ∙ ap (λ x. left_in x) k.answer;
        shown = record { world = is.world ∙ alike_kept (settled v.world).world (settled m.world).world k.world; channels = shows.channels; owed = shows.owed };
      }
    where
      left_in : Answer → List (ObjName × UnfinishedReason)
      left_in (answer.Quiet left) = left
      left_in a = []

  pub settling_cut : IsLeft v.world new → IsPartOfSettling at_new m
  settling_cut l =
      let c : settling.IsCut m.world (settling_events m.world) new = l m.world (sym (alike_kept v.world m.world alike)) in
      record {
        mail = with_world m (world_after m.world c.made);
        cut = wanting.SettleCut (record { made = c.made; rest = c.rest; are = c.are; after = refl });
        shown = record { world = c.world; channels = shows.channels; owed = shows.owed };
      }

-- an event that is not of the network
pub not_network : (v m : Mail) (e : WorldEvent) → Shows v m → is_of_network e ≡ false → Replies v (rules.Refused fault.NotNetwork) (calls m (rules.Network e))
unfolding calls networks
not_network v m e shows of = rw of (record { reply_is = refl; shown = shows })
