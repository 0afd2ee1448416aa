-- Contexts that leave and come.
use Rattle.std.proofs.Common.{◌≡◌, ◌∙◌, ◌++◌, Option, None, Some, List, [], ◌∷◌, refl, sym, subst, ap}
use Rattle.protocol.specs.declared.images.ContextImage.{ContextImage}
use Rattle.protocol.specs.State.{Device}
use Rattle.rdma_types.specs.declared.names.Name.{Name}
use Rattle.serve_rules.specs.declared.replies.Reply.{Reply}
use Rattle.serve_rules.specs.declared.replies.Reply.TheVariants as reply
use Rattle.serve_rules.specs.Moving.{Kept, StopLeaves, stop_of, without}
use Rattle.serve_rules.specs.Server.{Server, after, outcome_of}
use Rattle.host_ports.specs.Stores.{AddsClaim, Claim, DropsClaim}
use Rattle.serve_engine.specs.Preparing.{HasLeaving, PublishLeaves, reply_to}
use Rattle.serve_engine.specs.declared.stopping.Leaving.{Leaving}
use Rattle.host_ports.specs.Depots.{IsThere, Sets}
use Rattle.host_ports.specs.declared.store.StoreFault.{StoreFault}
use Rattle.host_ports.specs.declared.store.StoreFault.TheVariants as store_fault
use Rattle.std.specs.Prelude.{ℕ}

-- the state after a context left
left_server : (s s' : Server) (name : Name) (image : ContextImage) (l : Leaving) → HasLeaving s name image l → s' ≡ record s { device = l.device; gone = l.gone.items } → s' ≡ without s name image
unfolding without after
left_server s s' name image l h e =
    e ∙ ap (λ (d : Device). record s { device = d; gone = l.gone.items }) h.device ∙ ap (λ (g : List (Name × ℕ)). record s { device = (after s (stop_of name)).device; gone = g }) h.gone

-- what a stop leaves whose dump was to be published
pub stop_made : (s s' : Server) (name file : Name) (image : ContextImage) (l : Leaving) (r : Reply) (k k' : Kept) → (outcome_of s (stop_of name)).image ≡ Some image → HasLeaving s name image l → PublishLeaves s l file r s' k k' → StopLeaves s name file r s' k k'
stop_made s s' name file image l reply.Stopped k k' made has h = record {
  image = image;
  made = made;
  server = left_server s s' name image l has h.0;
  free = h.1;
  dumps = subst (λ bs. Sets k.dumps k'.dumps file (Some bs)) has.dump h.2;
  claims = h.3;
}
stop_made s s' name file image l (reply.Device a) k k' made has h = absurd h
stop_made s s' name file image l reply.Taken k k' made has h = h
stop_made s s' name file image l r k k' made has h = h

-- a dump that was not published
pub not_published : (s : Server) (l : Leaving) (file : Name) (f : StoreFault) (k k' : Kept) → k' ≡ k → (f ≡ store_fault.Taken → IsThere k.dumps file) → PublishLeaves s l file (reply_to f) s k k'
not_published s l file store_fault.Missing k k' e h = (refl, e)
not_published s l file store_fault.Taken k k' e h = (refl, e, h refl)
not_published s l file store_fault.Failed k k' e h = (refl, e)
not_published s l file store_fault.OutOfMemory k k' e h = (refl, e)

-- ---- claims

-- one behind others, in one way
pub snoc_front : {A : Type 0} (xs ys : List A) (x y : A) → xs ++ x ∷ [] ≡ ys ++ y ∷ [] → xs ≡ ys
snoc_front [] [] x y h = refl
snoc_front [] (b ∷ []) x y h = cc h
snoc_front [] (b ∷ c ∷ ys) x y h = cc h
snoc_front (a ∷ []) [] x y h = cc h
snoc_front (a ∷ c ∷ xs) [] x y h = cc h
snoc_front (a ∷ xs) (b ∷ ys) x y h =
    let tails : xs ++ x ∷ [] ≡ ys ++ y ∷ [] = cc h in
    let heads : a ≡ b = cc h in
    let fronts = snoc_front xs ys x y tails in
    cc (fronts, heads)

pub snoc_last : {A : Type 0} (xs ys : List A) (x y : A) → xs ++ x ∷ [] ≡ ys ++ y ∷ [] → x ≡ y
snoc_last [] [] x y h = cc h
snoc_last [] (b ∷ []) x y h = cc h
snoc_last [] (b ∷ c ∷ ys) x y h = cc h
snoc_last (a ∷ []) [] x y h = cc h
snoc_last (a ∷ c ∷ xs) [] x y h = cc h
snoc_last (a ∷ xs) (b ∷ ys) x y h =
    let tails : xs ++ x ∷ [] ≡ ys ++ y ∷ [] = cc h in
    snoc_last xs ys x y tails

-- a claim that was added and dropped
pub dropped_again : (k k' k'' : Option (List Claim)) (c : Claim) → AddsClaim k k' c → DropsClaim k' k'' → k'' ≡ k
dropped_again None k' k'' c a d = elim_none k' k'' a d
  where
    elim_none : (k' k'' : Option (List Claim)) → k' ≡ None → DropsClaim k' k'' → k'' ≡ None
    elim_none None k'' a d = d
    elim_none (Some x) k'' a d = cc a
dropped_again (Some claims) k' k'' c a d = elim_some k' k'' a d
  where
    elim_some : (k' k'' : Option (List Claim)) → k' ≡ Some (claims ++ c ∷ []) → DropsClaim k' k'' → k'' ≡ Some claims
    elim_some None k'' a d = cc a
    elim_some (Some x) k'' a d =
        let same : x ≡ claims ++ c ∷ [] = cc a in
        d.3 ∙ ap Some (snoc_front d.0 claims d.1 c (sym d.2 ∙ same))
