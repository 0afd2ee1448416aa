-- A settled world is quiet, also where its old datagrams are blank.
use Rattle.std.proofs.Common.{◌≡◌, List, [], ◌∷◌, refl, sym, ap, ◌∙◌, subst}
use Rattle.std.specs.Prelude.{All}
use Rattle.rdma_types.specs.declared.answers.UnfinishedReason.{UnfinishedReason}
use Rattle.rdma_types.specs.declared.names.ObjName.{ObjName}
use Rattle.protocol.specs.Lawful.{IsLawful}
use Rattle.protocol.specs.Script as script
use Rattle.protocol.specs.Script.{happens, settles}
use Rattle.protocol.specs.State.{World}
use Rattle.protocol.specs.Settle as settle
use Rattle.protocol.specs.Settle.{settled}
use Rattle.packetless_machine.specs.Machine.{Machine}
use Rattle.law_simulation.specs.Quiet.{AreReasons, IsQuiet, reason_of, unfinished}
use Rattle.law_simulation.specs.Views.{context_of, contexts_of, end_of}
use Rattle.protocol.proofs.Histories.{pending-forgetting}
use Rattle.law_kept_datagrams.specs.Alike.{AreAlike, with_kept_datagrams}
use Rattle.law_kept_datagrams.proofs.Rounds.{line_alike}
use Rattle.law_settling.specs.Settling.{SettlingFollowsByName, SettlingHasEvents}
use Rattle.law_settling.specs.Leaves.{SettlingLeaves}
use Rattle.world_core.specs.Settled.{IsSettled}
use Rattle.world_core.specs.declared.settling.Quiet.{Quiet}
use Rattle.settle_core.specs.Quieted.{IsQuieted}
use Rattle.settle_core.proofs.Worlds.{alike_kept_datagrams, kept_datagrams_alike}

-- ---- reasons do not look at datagrams

same_reason : (w : World) (m : Machine) (o : ObjName) → reason_of w m o ≡ reason_of (with_kept_datagrams w) m o
unfolding reason_of end_of context_of contexts_of
same_reason w m o = refl

same_reasons : (w : World) (m : Machine) (os : List ObjName) (xs : List (ObjName × UnfinishedReason)) → AreReasons w m os xs → AreReasons (with_kept_datagrams w) m os xs
same_reasons w m [] [] h = tt
same_reasons w m [] (x ∷ xs) h = absurd h
same_reasons w m (o ∷ os) [] h = absurd h
same_reasons w m (o ∷ os) (x ∷ xs) h = (h.0, sym (same_reason w m o) ∙ h.1, same_reasons w m os xs h.2)

still_quiet : (w : World) (m : Machine) (xs : List (ObjName × UnfinishedReason)) → IsQuiet w m xs → IsQuiet (with_kept_datagrams w) m xs
unfolding unfinished
still_quiet w m xs h = record { nothing_pending = pending-forgetting w.sent ∙ h.nothing_pending; reasons = same_reasons w m (unfinished w) xs h.reasons }

-- ---- a settling

list_alike : (a b : World) → with_kept_datagrams a ≡ with_kept_datagrams b → settle.unfinished a ≡ settle.unfinished b
unfolding settle.unfinished
list_alike a b h = ap (λ (x : World). settle.unfinished x) h

settled_alike : (w : World) → AreAlike (settled (with_kept_datagrams w)).world (settled w).world
unfolding happens settles
settled_alike w = (line_alike (with_kept_datagrams w) w script.Settles (kept_datagrams_alike w)).world

pub quieted : SettlingLeaves → SettlingHasEvents → SettlingFollowsByName → (old new : World) (q : Quiet) → All IsLawful old.carried → IsSettled old new q → IsQuieted old new q.unfinished
quieted leaves made follows old new q lawful is w m kept stands =
    let alike : AreAlike (settled old).world (settled w).world = subst (λ z. AreAlike (settled z).world (settled w).world) kept (settled_alike w) in
    let same : with_kept_datagrams (settled old).world ≡ with_kept_datagrams (settled w).world = alike_kept_datagrams (settled old).world (settled w).world alike in
    let left : new ≡ with_kept_datagrams (settled w).world = is.world ∙ same in
    let listed : settle.unfinished (settled w).world ≡ q.unfinished = sym (is.unfinished ∙ list_alike (settled old).world (settled w).world same) in
    record {
      made = made w;
      followed = follows w m stands;
      left = left;
      quiet = λ m' stands'.
          subst (λ z. IsQuiet z m' q.unfinished) (sym left)
          (subst (IsQuiet (with_kept_datagrams (settled w).world) m') listed
          (still_quiet (settled w).world m' (settle.unfinished (settled w).world) (leaves w m m' (subst (λ z. All IsLawful z.carried) (sym kept) lawful) stands stands')));
    }
