-- Contexts that come, and their dumps.
use Rattle.std.proofs.Common.{◌≡◌, ◌∙◌, ◌++◌, ℕ, Bool, true, false, Option, Some, None, List, [], ◌∷◌, inl, inr, refl, sym, subst, ap, if◌then◌else◌}
use Rattle.std.specs.Prelude.{bytes_eq}
use Rattle.protocol.specs.declared.events.Event.TheVariants as event
use Rattle.protocol.specs.declared.images.ContextImage.{ContextImage}
use Rattle.protocol.specs.State.{Device}
use Rattle.host_ports.specs.Depots.{Has, Holding, Sets}
use Rattle.rdma_types.specs.declared.names.Name.{Name}
use Rattle.serve_rules.specs.declared.replies.Reply.{Reply}
use Rattle.serve_rules.specs.declared.replies.Reply.TheVariants as reply
use Rattle.host_ports.specs.Stores.{AddsClaim, Claim, GivesLastBack}
use Rattle.serve_rules.specs.Moving.{HasNameOrClaim, Kept, RestoreLeaves, with_context}
use Rattle.serve_rules.specs.Server.{Server, after}
use Rattle.serve_engine.proofs.Moves.{dropped_again, snoc_front, snoc_last}
use Rattle.host_ports.specs.declared.store.StoreFault.{StoreFault}
use Rattle.host_ports.specs.declared.store.StoreFault.TheVariants as store_fault
use Rattle.serve_engine.specs.Preparing.{ClaimLeaves, FinishLeaves, GaveBack, HasComing, IsRestoreOf, reply_to}
use Rattle.serve_engine.specs.declared.restoring.Coming.{Coming}
use Rattle.serve_engine.specs.declared.restoring.Restore.TheVariants as restore

-- a name that was taken away and set again
sets_again : (d d1 d2 : Option Holding) (file : Name) (found : Option (List ℕ)) → Sets d d1 file None → Sets d1 d2 file found → Sets d d2 file found
sets_again None d1 d2 file found a b = subst (λ x. Sets x d2 file found) a b
sets_again (Some holds) d1 d2 file found a b =
    let k : Sets (Some a.0) d2 file found = subst (λ x. Sets x d2 file found) a.1 b in
    (k.0, k.1, λ n. k.2 n ∙ by_test n (bytes_eq file n) (a.2 n))
  where
    by_test : (n : Name) (t : Bool) {x : Option (List ℕ)} → x ≡ (if t then None else holds n) → (if t then found else x) ≡ (if t then found else holds n)
    by_test n true h = refl
    by_test n false h = h

-- a claim that has its name again or is still there
there_again : (c c1 c2 : Option (List Claim)) (d d1 d2 : Option Holding) (file : Name) (bytes : List ℕ) → AddsClaim c c1 (file, bytes) → Sets d d1 file None → GivesLastBack c1 c2 d1 d2 → HasNameOrClaim c c2 d d2 file bytes
there_again None c1 c2 d d1 d2 file bytes adds sets gives = subst (λ x. GivesLastBack x c2 d1 d2) adds gives
there_again (Some claims) c1 c2 d d1 d2 file bytes adds sets gives =
    let g : GivesLastBack (Some (claims ++ (file, bytes) ∷ [])) c2 d1 d2 = subst (λ x. GivesLastBack x c2 d1 d2) adds gives in
    let fronts : claims ≡ g.0 = snoc_front claims g.0 (file, bytes) g.1 g.2 in
    let lasts : (file, bytes) ≡ g.1 = snoc_last claims g.0 (file, bytes) g.1 g.2 in
    let again : Sets d1 d2 file (Some bytes) = subst (λ (x : Claim). Sets d1 d2 x.0 (Some x.1)) (sym lasts) g.5 in
    inl (sets_again d d1 d2 file (Some bytes) sets again, g.3 ∙ ap Some (sym fronts))

still_claimed : (c c1 : Option (List Claim)) (d d1 : Option Holding) (file : Name) (bytes : List ℕ) → AddsClaim c c1 (file, bytes) → Sets d d1 file None → HasNameOrClaim c c1 d d1 file bytes
still_claimed None c1 d d1 file bytes adds sets = adds
still_claimed (Some claims) c1 d d1 file bytes adds sets = inr (sets, adds)

there : (k k1 k2 : Kept) (file : Name) (bytes : List ℕ) → AddsClaim k.claims k1.claims (file, bytes) → Sets k.dumps k1.dumps file None → GaveBack k1 k2 → HasNameOrClaim k.claims k2.claims k.dumps k2.dumps file bytes
there k k1 k2 file bytes adds sets (inl same) = subst (λ (x : Kept). HasNameOrClaim k.claims x.claims k.dumps x.dumps file bytes) (sym same) (still_claimed k.claims k1.claims k.dumps k1.dumps file bytes adds sets)
there k k1 k2 file bytes adds sets (inr gives) = there_again k.claims k1.claims k2.claims k.dumps k1.dumps k2.dumps file bytes adds sets gives

-- the state after a context came
came_server : (s s' : Server) (image : ContextImage) (c : Coming) → HasComing s image c → s' ≡ record s { device = c.device; ready = c.ready.items } → s' ≡ with_context s image
unfolding with_context after
came_server s s' image c h e =
    e ∙ ap (λ (d : Device). record s { device = d; ready = c.ready.items }) h.device ∙ ap (λ (r : List ℕ). record s { device = (after s (event.Restore image)).device; ready = r }) h.ready

-- what a restore leaves whose dump was claimed
pub restore_made : (s s' : Server) (file : Name) (bytes : List ℕ) (r : Reply) (k k1 k2 : Kept) → Has k.dumps file (Some bytes) → Sets k.dumps k1.dumps file None → AddsClaim k.claims k1.claims (file, bytes) → ClaimLeaves s bytes r s' k1 k2 → RestoreLeaves s file r s' k k2
restore_made s s' file bytes reply.Restored k k1 k2 found out adds h = record {
  bytes = bytes;
  image = h.1.0;
  found = found;
  read = h.1.1;
  accepted = h.1.2;
  server = came_server s s' h.1.0 h.0 h.1.3 h.2;
  dumps = subst (λ x. Sets k.dumps x file None) (sym h.3) out;
  claims = dropped_again k.claims k1.claims k2.claims (file, bytes) adds h.4;
}
restore_made s s' file bytes reply.Missing k k1 k2 found out adds h = absurd h
restore_made s s' file bytes r k k1 k2 found out adds h = (h.0, inr (bytes, found, there k k1 k2 file bytes adds out h.1))

-- .. whose dump was claimed, and that was prepared
pub claim_finished : (s s' : Server) (bytes : List ℕ) (c : Coming) (r : Reply) (k k' : Kept) → IsRestoreOf s bytes (restore.Made c) → FinishLeaves s c r s' k k' → ClaimLeaves s bytes r s' k k'
claim_finished s s' bytes c reply.Restored k k' made h = (c, made, h.0, h.1, h.2)
claim_finished s s' bytes c reply.Missing k k' made h = h
claim_finished s s' bytes c r k k' made h = h

-- a dump that was not claimed
pub not_claimed : (s : Server) (file : Name) (f : StoreFault) (k k' : Kept) → k' ≡ k → (f ≡ store_fault.Missing → Has k.dumps file None) → RestoreLeaves s file (reply_to f) s k k'
not_claimed s file store_fault.Missing k k' e h = (refl, e, h refl)
not_claimed s file store_fault.Taken k k' e h = (refl, inl e)
not_claimed s file store_fault.Failed k k' e h = (refl, inl e)
not_claimed s file store_fault.OutOfMemory k k' e h = (refl, inl e)

-- a claim that was not forgotten was to have its name again
pub gave_back_on : (k k1 k2 : Kept) → k1 ≡ k → GaveBack k1 k2 → GaveBack k k2
gave_back_on k k1 k2 e h = subst (λ (x : Kept). GaveBack x k2) e h
