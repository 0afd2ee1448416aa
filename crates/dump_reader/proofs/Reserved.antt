-- The reservations of an image are those of its context.
use Rattle.std.proofs.Math.Seq.{take-length}
use Rattle.protocol.specs.Dumps.{overfull}
use Rattle.std.proofs.Common.{◌≡◌, ℕ, suc, Bool, false, nat_lt, arith, get_or, take, drop, ◌-◌, ◌≤◌, ◌+◌, List, [], ◌∷◌, length, map, refl, ap, sym, ◌∙◌}
use Rattle.std.specs.Prelude.{sum_by, Option, Some, None, option_map}
use Rattle.std.proofs.lemmas.List.Sums.{sum_by-cons}
use Rattle.rdma_types.specs.declared.names.Name.{Name}
use Rattle.protocol.specs.declared.images.EndImage.{EndImage}
use Rattle.protocol.specs.declared.images.LinkImage.{LinkImage}
use Rattle.protocol.specs.declared.images.PostedImage.{PostedImage}
use Rattle.protocol.specs.declared.images.RegionImage.{RegionImage}
use Rattle.protocol.specs.declared.images.Progress.{Progress}
use Rattle.protocol.specs.declared.images.Progress.TheVariants as progress
use Rattle.protocol.specs.EndWords.{in_use, in_use_by}
use Rattle.protocol.specs.Images.{context_of, end_of_image, link_of_image, progress_of_image, posted_of_image}
use Rattle.protocol.specs.Memory.{untold_of}
use Rattle.protocol.specs.Refusals.{reserved, reserved_by}
use Rattle.dump_reader.specs.declared.heads.DumpHead.{DumpHead}
use Rattle.dump_reader.specs.declared.heads.PlacedQueue.{PlacedQueue}
use Rattle.dump_reader.specs.Ahead.{image_of}
use Rattle.dump_reader.specs.Groups.{placed}
use Rattle.dump_reader.specs.Overfull.{uses_sends, uses_receives, in_message, reserved_at}

names_placed : (qs : List PlacedQueue) → map (λ q. q.name) (map (λ q. q.queue) (map placed qs)) ≡ map (λ q. q.queue.name) qs
names_placed [] = refl
names_placed (q ∷ qs) = ap (λ (ns : List Name). q.queue.name ∷ ns) (names_placed qs)

posted_len : (ps : List PostedImage) → length ps ≡ length (map posted_of_image ps)
posted_len [] = refl
posted_len (p ∷ ps) = ap (λ (n : ℕ). suc n) (posted_len ps)

sends_are : (rs : List RegionImage) (ps : List PostedImage) (o : Option LinkImage) → uses_sends o ps ≡ length (untold_of (option_map (link_of_image rs ps) o))
unfolding link_of_image
sends_are rs ps None = refl
sends_are rs ps (Some l) = posted_len ps

message_is : (rs : List RegionImage) (p : Progress) → in_message p ≡ length (in_use_by (progress_of_image rs p))
message_is rs progress.Idle = refl
message_is rs (progress.Send done receive) = refl
message_is rs (progress.Write region off length' done) = refl

receives_are : (rs : List RegionImage) (ps : List PostedImage) (o : Option LinkImage) → uses_receives o ≡ length (in_use (option_map (link_of_image rs ps) o))
unfolding link_of_image
receives_are rs ps None = refl
receives_are rs ps (Some l) = message_is rs l.progress

module _ (o : DumpHead) (ds : List Name) (rs : List RegionImage) (qs : List PlacedQueue) (all : List EndImage) (name : Name) where
  end_is : (e : EndImage) → reserved_at qs name e ≡ reserved_by name (end_of_image (image_of o ds rs (map placed qs) all) e)
  unfolding reserved_by end_of_image
  end_is e = rw (names_placed qs, sends_are rs e.untold e.linked, receives_are rs e.untold e.linked) refl

  sums_are : (es : List EndImage) → sum_by (reserved_at qs name) es ≡ sum_by (reserved_by name) (map (end_of_image (image_of o ds rs (map placed qs) all)) es)
  sums_are [] = refl
  sums_are (e ∷ es) = sum_by-cons (reserved_at qs name) e es ∙ (rw (end_is e, sums_are es) refl ∙ sym (sum_by-cons (reserved_by name) (end_of_image (image_of o ds rs (map placed qs) all) e) (map (end_of_image (image_of o ds rs (map placed qs) all)) es)))

  -- the reservations of the context of an image
  pub reserved_is : sum_by (reserved_at qs name) all ≡ reserved (context_of (image_of o ds rs (map placed qs) all)) name
  unfolding reserved context_of
  reserved_is = sums_are all

-- a list that is not empty: its first item, and what follows
pub first_then : {A : Type 0} (xs : List A) (x : A) → 1 ≤ length xs → x ≡ get_or xs 0 x → x ∷ take (length xs - 1) (drop 1 xs) ≡ xs
first_then [] x h e = absurd (omega arith)
first_then (y ∷ ys) x h e =
    let all : suc (length ys) - 1 ≡ length ys = omega arith in
    rw (e, all, take-length ys) refl

module _ (o : DumpHead) (ds : List Name) (rs : List RegionImage) (all : List PlacedQueue) (es : List EndImage) where
  fits : (q : PlacedQueue) (more : List PlacedQueue) → nat_lt q.queue.capacity (length q.queue.entries + sum_by (reserved_at all q.queue.name) es) ≡ false → overfull (image_of o ds rs (map placed all) es) (map placed more) ≡ overfull (image_of o ds rs (map placed all) es) (map placed (q ∷ more))
  unfolding overfull
  fits q more h =
      let test : nat_lt q.queue.capacity (length q.queue.entries + reserved (context_of (image_of o ds rs (map placed all) es)) q.queue.name) ≡ false = ap (λ (n : ℕ). nat_lt q.queue.capacity (length q.queue.entries + n)) (sym (reserved_is o ds rs all es q.queue.name)) ∙ h in
      rw test refl

  -- the first queue has room
  pub overfull_past : (qs : List PlacedQueue) (q : PlacedQueue) (t : Bool) → 1 ≤ length qs → q ≡ get_or qs 0 q → t ≡ nat_lt q.queue.capacity (length q.queue.entries + sum_by (reserved_at all q.queue.name) es) → t ≡ false → overfull (image_of o ds rs (map placed all) es) (map placed (take (length qs - 1) (drop 1 qs))) ≡ overfull (image_of o ds rs (map placed all) es) (map placed qs)
  overfull_past qs q t h i t_is f = fits q (take (length qs - 1) (drop 1 qs)) (sym t_is ∙ f) ∙ ap (λ (xs : List PlacedQueue). overfull (image_of o ds rs (map placed all) es) (map placed xs)) (first_then qs q h i)
