-- What is left of some ends, and then of one more.
use Rattle.std.proofs.Common.{◌≡◌, ◌≤◌, ◌<◌, ◌+◌, ℕ, List, [], ◌∷◌, ◌++◌, length, take, get_or, sym, ap, ◌∙◌, append_assoc}
use Rattle.std.specs.Prelude.{flat_map}
use Rattle.std.proofs.lemmas.Grind.{flat_map-append}
use Rattle.std.proofs.lemmas.List.{append-nil, take_all, take_more}
use Rattle.rdma_types.specs.declared.answers.UnfinishedReason.{UnfinishedReason}
use Rattle.rdma_types.specs.declared.names.ObjName.{ObjName}
use Rattle.protocol.specs.declared.images.ContextImage.{ContextImage}
use Rattle.protocol.specs.State.{World}
use Rattle.protocol.specs.Settle.{unfinished}
use Rattle.world_core.specs.Lives.{live_list}
use Rattle.context_core.specs.declared.lives.LiveEnd.{LiveEnd}
use Rattle.settle_core.specs.Left.{left_image_of, left_view}
use Rattle.settle_core.proofs.Listed.{left_listed}

pub left-none : {A B : Type 0} (f : A → List B) (start : List B) (xs : List A) → start ≡ start ++ flat_map f (take 0 xs)
left-none f start xs = sym (append-nil start)

pub left-more : {A B : Type 0} (f : A → List B) (xs : List A) (i : ℕ) (x : A) (start mid new : List B) → i < length xs → x ≡ get_or xs i x → mid ≡ start ++ flat_map f (take i xs) → new ≡ mid ++ f x → new ≡ start ++ flat_map f (take (i + 1) xs)
left-more f xs i x start mid new h is e n =
    n ∙ (ap (λ z. z ++ f x) e
    ∙ (append_assoc start (flat_map f (take i xs)) (f x)
    ∙ ap (λ z. start ++ z)
    (ap (λ z. flat_map f (take i xs) ++ z) (sym (append-nil (f x)))
    ∙ (sym (flat_map-append f (take i xs) (x ∷ []))
    ∙ ap (flat_map f) (ap (λ y. take i xs ++ y ∷ []) is ∙ sym (take_more xs i x h))))))

pub left-all : {A B : Type 0} (f : A → List B) (xs : List A) (i : ℕ) (start mid : List B) → length xs ≤ i → mid ≡ start ++ flat_map f (take i xs) → mid ≡ start ++ flat_map f xs
left-all f xs i start mid h e = e ∙ ap (λ z. start ++ flat_map f z) (take_all i xs h)

pub unfinished_is : (w : World) (ends : List LiveEnd) (images : List ContextImage) (none live all : List (ObjName × UnfinishedReason)) → none ≡ [] → ends ≡ live_list w → images ≡ w.carried →
    live ≡ none ++ flat_map left_view ends → all ≡ live ++ flat_map left_image_of images → all ≡ unfinished w
unfinished_is w ends images none live all begun lives carried first second =
    second
    ∙ (ap (λ xs. xs ++ flat_map left_image_of images) (first ∙ ap (λ xs. xs ++ flat_map left_view ends) begun)
    ∙ (ap (λ xs. flat_map left_view xs ++ flat_map left_image_of images) lives
    ∙ (ap (λ xs. flat_map left_view (live_list w) ++ flat_map left_image_of xs) carried ∙ left_listed w)))
