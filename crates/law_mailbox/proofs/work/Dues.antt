-- The list of what is due, where one of its things is done and another, or none, is due in its place.
use Rattle.std.proofs.Common.{◌≡◌, ◌≢◌, ℕ, zero, suc, ◌+◌, ◌<◌, List, [], ◌∷◌, ◌++◌, take, drop, length, get_or, false, Bool, refl, sym, ap, ◌∙◌, Some, None, Option, append_assoc, eq-eqb, ne_eqb, arith, length-append}
use Rattle.std.specs.Prelude.{flat_map, option_to_list, slice_get, slice_set}
use Rattle.std.proofs.lemmas.List.Concat.{flat_map-append}
use Rattle.std.proofs.lemmas.Option.{none-some, same_Some}
use Rattle.mailbox_rules.specs.declared.due.Due.{Due}
use Rattle.mailbox_rules.specs.declared.due.Due.TheVariants as due
use Rattle.mailbox_rules.specs.Working.{due_next}
use Rattle.law_mailbox.specs.Held.{connection_in}
use Rattle.law_mailbox.specs.Kept.{bodies, copies, fetches, frees, if_of, pending, reposts, slots}
use Rattle.law_mailbox.specs.Works.{Inserts}

-- ---- the thing at a place

pub split_at : (owed : List Due) (k : ℕ) (d : Due) → slice_get owed k ≡ Some d → owed ≡ take k owed ++ (d ∷ drop (suc k) owed)
split_at [] k d h = absurd (none-some d h)
split_at (x ∷ xs) zero d h = ap (λ (y : Due). y ∷ xs) (same_Some x d h)
split_at (x ∷ xs) (suc k) d h = ap (λ (ys : List Due). x ∷ ys) (split_at xs k d h)

set_is : (owed : List Due) (k : ℕ) (d e : Due) → slice_get owed k ≡ Some d → slice_set owed k e ≡ take k owed ++ (e ∷ drop (suc k) owed)
set_is [] k d e h = absurd (none-some d h)
set_is (x ∷ xs) zero d e h = refl
set_is (x ∷ xs) (suc k) d e h = ap (λ (ys : List Due). x ∷ ys) (set_is xs k d e h)

pub next_is : (owed : List Due) (k : ℕ) (d : Due) → slice_get owed k ≡ Some d → (next : Option Due) → due_next owed k next ≡ take k owed ++ (option_to_list next ++ drop (suc k) owed)
next_is owed k d h None = refl
next_is owed k d h (Some e) = set_is owed k d e h

-- nothing of a kind stands in front of the first thing that passes a test, where each of that kind passes
pub none_in_front : {Y : Type 0} (test : Due → Bool) (f : Due → List Y) → ((x : Due) → test x ≡ false → f x ≡ []) → (owed : List Due) (k : ℕ) (d : Due) → ((j : ℕ) → j < k → test (get_or owed j d) ≡ false) → flat_map f (take k owed) ≡ []
none_in_front test f none [] zero d before = refl
none_in_front test f none [] (suc k) d before = refl
none_in_front test f none (x ∷ xs) zero d before = refl
none_in_front test f none (x ∷ xs) (suc k) d before =
    ap (λ zs. zs ++ flat_map f (take k xs)) (none x (before 0 (omega arith)))
    ∙ none_in_front test f none xs k d (λ j below. before (suc j) (omega (arith, below)))

-- ---- a part of what is due

module _ {Y : Type 0} (f : Due → List Y) (owed rest : List Due) (k : ℕ) (d : Due) (at : slice_get owed k ≡ Some d) (next : Option Due) where
  part_is : (front xs behind : List Due) → flat_map f ((front ++ (xs ++ behind)) ++ rest) ≡ flat_map f front ++ (flat_map f xs ++ flat_map f (behind ++ rest))
  part_is front xs behind =
      ap (flat_map f) (append_assoc front (xs ++ behind) rest ∙ ap (λ (zs : List Due). front ++ zs) (append_assoc xs behind rest))
      ∙ (flat_map-append f front (xs ++ (behind ++ rest)) ∙ ap (λ zs. flat_map f front ++ zs) (flat_map-append f xs (behind ++ rest)))

  part_before : flat_map f (owed ++ rest) ≡ flat_map f (take k owed) ++ (flat_map f (d ∷ []) ++ flat_map f (drop (suc k) owed ++ rest))
  part_before = ap (λ (zs : List Due). flat_map f (zs ++ rest)) (split_at owed k d at) ∙ part_is (take k owed) (d ∷ []) (drop (suc k) owed)

  part_after : flat_map f (due_next owed k next ++ rest) ≡ flat_map f (take k owed) ++ (flat_map f (option_to_list next) ++ flat_map f (drop (suc k) owed ++ rest))
  part_after = ap (λ (zs : List Due). flat_map f (zs ++ rest)) (next_is owed k d at next) ∙ part_is (take k owed) (option_to_list next) (drop (suc k) owed)

  pub part_stays : flat_map f (option_to_list next) ≡ flat_map f (d ∷ []) → flat_map f (due_next owed k next ++ rest) ≡ flat_map f (owed ++ rest)
  part_stays same = part_after ∙ (ap (λ zs. flat_map f (take k owed) ++ (zs ++ flat_map f (drop (suc k) owed ++ rest))) same ∙ sym part_before)

  pub part_goes : (more : List Y) → flat_map f (d ∷ []) ≡ more → flat_map f (option_to_list next) ≡ [] → Inserts more (flat_map f (due_next owed k next ++ rest)) (flat_map f (owed ++ rest))
  part_goes more is none = record {
    front = flat_map f (take k owed);
    behind = flat_map f (drop (suc k) owed ++ rest);
    without = part_after ∙ ap (λ zs. flat_map f (take k owed) ++ (zs ++ flat_map f (drop (suc k) owed ++ rest))) none;
    with_them = part_before ∙ ap (λ zs. flat_map f (take k owed) ++ (zs ++ flat_map f (drop (suc k) owed ++ rest))) is;
  }

  pub part_comes : (more : List Y) → flat_map f (d ∷ []) ≡ [] → flat_map f (option_to_list next) ≡ more → Inserts more (flat_map f (owed ++ rest)) (flat_map f (due_next owed k next ++ rest))
  part_comes more none is = record {
    front = flat_map f (take k owed);
    behind = flat_map f (drop (suc k) owed ++ rest);
    without = part_before ∙ ap (λ zs. flat_map f (take k owed) ++ (zs ++ flat_map f (drop (suc k) owed ++ rest))) none;
    with_them = part_after ∙ ap (λ zs. flat_map f (take k owed) ++ (zs ++ flat_map f (drop (suc k) owed ++ rest))) is;
  }

  pub part_is_first : (y : Y) → flat_map f (take k owed) ≡ [] → flat_map f (d ∷ []) ≡ y ∷ [] → flat_map f (option_to_list next) ≡ [] → flat_map f (owed ++ rest) ≡ y ∷ flat_map f (due_next owed k next ++ rest)
  part_is_first y front is none =
      part_before
      ∙ (ap (λ zs. zs ++ (flat_map f (d ∷ []) ++ flat_map f (drop (suc k) owed ++ rest))) front
      ∙ (ap (λ zs. zs ++ flat_map f (drop (suc k) owed ++ rest)) is
      ∙ ap (λ zs. y ∷ zs) (sym (part_after ∙ (ap (λ zs. zs ++ (flat_map f (option_to_list next) ++ flat_map f (drop (suc k) owed ++ rest))) front
      ∙ ap (λ zs. zs ++ flat_map f (drop (suc k) owed ++ rest)) none)))))

pub inserted_long : {Y : Type 0} (y : Y) (xs ys : List Y) → Inserts (y ∷ []) xs ys → length ys ≡ length xs + 1
inserted_long y xs ys i =
    let a : length xs ≡ length (i.front ++ i.behind) = ap length i.without in
    let b : length ys ≡ length (i.front ++ (y ∷ i.behind)) = ap length i.with_them in
    omega (arith, a, b, length-append i.front i.behind, length-append i.front (y ∷ i.behind))

-- ---- things of one connection, and of others

pub one_of : {X : Type 0} (i : ℕ) (x : X) → if_of i i x ++ [] ≡ x ∷ []
one_of i x = rw (eq-eqb i i refl) refl

pub none_of : {X : Type 0} (i j : ℕ) (x : X) → j ≢ i → if_of i j x ++ [] ≡ []
none_of i j x apart = rw (ne_eqb j i apart) refl

-- nothing of these is due on connection i
pub record AreElsewhere (i : ℕ) (ds : List Due) : Type 0 where
  pub no_copies : copies i ds ≡ []
  pub no_reposts : reposts i ds ≡ []
  pub no_fetches : fetches i ds ≡ []
  pub no_bodies : bodies i ds ≡ []
  pub no_frees : frees i ds ≡ []
  pub no_slots : slots i ds ≡ []

pub nothing_elsewhere : (i : ℕ) → AreElsewhere i []
nothing_elsewhere i = record { no_copies = refl; no_reposts = refl; no_fetches = refl; no_bodies = refl; no_frees = refl; no_slots = refl }

pub one_elsewhere : (i : ℕ) (d : Due) → connection_in d ≢ i → AreElsewhere i (d ∷ [])
one_elsewhere i (due.CopyMessage j place length') apart = record { no_copies = none_of i j (place, length') apart; no_reposts = refl; no_fetches = refl; no_bodies = refl; no_frees = refl; no_slots = refl }
one_elsewhere i (due.Repost j place None) apart = record { no_copies = refl; no_reposts = none_of i j place apart; no_fetches = refl; no_bodies = refl; no_frees = refl; no_slots = refl }
one_elsewhere i (due.Repost j place (Some f)) apart = record { no_copies = refl; no_reposts = none_of i j place apart; no_fetches = none_of i j f apart; no_bodies = refl; no_frees = refl; no_slots = refl }
one_elsewhere i (due.PostRead j f) apart = record { no_copies = refl; no_reposts = refl; no_fetches = none_of i j f apart; no_bodies = refl; no_frees = refl; no_slots = refl }
one_elsewhere i (due.CopyBody j length') apart = record { no_copies = refl; no_reposts = refl; no_fetches = refl; no_bodies = none_of i j length' apart; no_frees = refl; no_slots = refl }
one_elsewhere i (due.PostFree j) apart = record { no_copies = refl; no_reposts = refl; no_fetches = refl; no_bodies = refl; no_frees = none_of i j j apart; no_slots = refl }
one_elsewhere i (due.FreeSlot j place) apart = record { no_copies = refl; no_reposts = refl; no_fetches = refl; no_bodies = refl; no_frees = refl; no_slots = none_of i j place apart }
one_elsewhere i (due.RepostAtSender j place) apart = record { no_copies = refl; no_reposts = refl; no_fetches = refl; no_bodies = refl; no_frees = refl; no_slots = refl }

-- where a thing of another connection is done, the same is due on this one
pub pending_stays : (i : ℕ) (owed rest : List Due) (k : ℕ) (d : Due) → slice_get owed k ≡ Some d → (next : Option Due) → AreElsewhere i (d ∷ []) → AreElsewhere i (option_to_list next) →
    pending i (due_next owed k next ++ rest) ≡ pending i (owed ++ rest)
pending_stays i owed rest k d at next a b =
    let copied = part_stays _ owed rest k d at next (b.no_copies ∙ sym a.no_copies) in
    let reposted = part_stays _ owed rest k d at next (b.no_reposts ∙ sym a.no_reposts) in
    let fetched = part_stays _ owed rest k d at next (b.no_fetches ∙ sym a.no_fetches) in
    let bodied = part_stays _ owed rest k d at next (b.no_bodies ∙ sym a.no_bodies) in
    let freed = part_stays _ owed rest k d at next (b.no_frees ∙ sym a.no_frees) in
    let slotted = part_stays _ owed rest k d at next (b.no_slots ∙ sym a.no_slots) in
    λ x. record { copied = copied x; reposted = reposted x; fetched = fetched x; bodies = bodied x; frees = length (freed x); slots = length (slotted x) }
