-- More is due where more completions stand in a queue.
use Rattle.std.proofs.Common.{arith, ◌≡◌, ◌≢◌, ℕ, ◌≤◌, List, [], ◌∷◌, ◌++◌, true, false, Bool, refl, sym, ap, ◌∙◌, append_assoc, append-nil, ne_eqb}
use Rattle.std.specs.Prelude.{flat_map, if◌then◌else◌, option_to_list}
use Rattle.std.proofs.lemmas.List.Concat.{flat_map-append}
use Rattle.rdma_types.specs.declared.requests.Completion.{Completion}
use Rattle.rdma_types.specs.declared.requests.WcKind.{WcKind}
use Rattle.rdma_types.specs.declared.requests.WcKind.TheVariants as wc
use Rattle.mailbox_rules.specs.declared.due.Due.{Due}
use Rattle.mailbox_rules.specs.Working.{due_of, heard, is_success, place_in}
use Rattle.mailbox_rules.specs.declared.due.Due.TheVariants as due
use Rattle.law_mailbox.specs.Kept.{bodies, body_in, copies, copy_in, dues_by, dues_of, fetch_in, fetches, free_in, frees, repost_in, reposts, slot_in, slots}
use Rattle.law_mailbox.specs.Moves.{Gains}

-- a part of what is due, where more stands in the middle
module _ {Y : Type 0} (f : Due → List Y) (owed first second more : List Due) where
  all_parts : flat_map f (owed ++ ((first ++ more) ++ second)) ≡ flat_map f owed ++ ((flat_map f first ++ flat_map f more) ++ flat_map f second)
  all_parts =
      flat_map-append f owed ((first ++ more) ++ second)
      ∙ ap (λ zs. flat_map f owed ++ zs) (flat_map-append f (first ++ more) second ∙ ap (λ zs. zs ++ flat_map f second) (flat_map-append f first more))

  before_parts : flat_map f (owed ++ (first ++ second)) ≡ flat_map f owed ++ (flat_map f first ++ flat_map f second)
  before_parts = flat_map-append f owed (first ++ second) ∙ ap (λ zs. flat_map f owed ++ zs) (flat_map-append f first second)

  -- the same, where there is none of it in between
  same_between : flat_map f more ≡ [] → flat_map f (owed ++ ((first ++ more) ++ second)) ≡ flat_map f (owed ++ (first ++ second))
  same_between none =
      all_parts
      ∙ (ap (λ zs. flat_map f owed ++ ((flat_map f first ++ zs) ++ flat_map f second)) none
      ∙ (ap (λ zs. flat_map f owed ++ (zs ++ flat_map f second)) (append-nil (flat_map f first)) ∙ sym before_parts))

  -- behind all, where there is none of it behind
  more_between : flat_map f second ≡ [] → flat_map f (owed ++ ((first ++ more) ++ second)) ≡ flat_map f (owed ++ (first ++ second)) ++ flat_map f more
  more_between none =
      all_parts
      ∙ (ap (λ zs. flat_map f owed ++ ((flat_map f first ++ flat_map f more) ++ zs)) none
      ∙ (ap (λ zs. flat_map f owed ++ zs) (append-nil (flat_map f first ++ flat_map f more))
      ∙ (sym (append_assoc (flat_map f owed) (flat_map f first) (flat_map f more))
      ∙ ap (λ zs. (flat_map f owed ++ zs) ++ flat_map f more) (sym (append-nil (flat_map f first)))
      ∙ ap (λ zs. (flat_map f owed ++ (flat_map f first ++ zs)) ++ flat_map f more) (sym none)
      ∙ ap (λ zs. zs ++ flat_map f more) (sym before_parts))))

-- what one completion of a sender makes due is no message and no body
module _ {Y : Type 0} (f : Due → List Y) (free_none : (n place : ℕ) → f (due.FreeSlot n place) ≡ []) where
  heard_none : (n : ℕ) (x : Completion) (k : WcKind) → flat_map f (option_to_list (heard n x k)) ≡ []
  heard_none n x wc.Recv = append-nil (f (due.FreeSlot n (place_in x))) ∙ free_none n (place_in x)
  heard_none n x wc.Send = refl
  heard_none n x wc.Write = refl
  heard_none n x wc.Read = refl
  heard_none n x wc.CompareSwap = refl
  heard_none n x wc.FetchAdd = refl
  heard_none n x wc.RecvImm = refl

  one_none : (n : ℕ) (x : Completion) → 1 ≤ n → flat_map f (dues_by n x) ≡ []
  one_none n x positive = by (is_success x.status)
    where
      by : (b : Bool) → flat_map f (if b then option_to_list (due_of n x) else []) ≡ []
      by true = let no_zero : n ≢ 0 = λ e. omega (arith, e, positive) in rw (ne_eqb n 0 no_zero) (heard_none n x x.kind)
      by false = refl

  sender_none : (n : ℕ) (xs : List Completion) → 1 ≤ n → flat_map f (dues_of n xs) ≡ []
  sender_none n [] positive = refl
  sender_none n (x ∷ xs) positive = flat_map-append f (dues_by n x) (dues_of n xs) ∙ (ap (λ zs. zs ++ flat_map f (dues_of n xs)) (one_none n x positive) ∙ sender_none n xs positive)

-- a message or a body is gained, where a completion of the receiver stands
pub gains_between : (i : ℕ) (owed first : List Due) (xs : List Completion) (more : List Due) (copied : List (ℕ × ℕ)) (body : List ℕ) → 1 ≤ i →
    copies i more ≡ copied → bodies i more ≡ body → slots i more ≡ [] → reposts i more ≡ [] → fetches i more ≡ [] → frees i more ≡ [] →
    Gains i (owed ++ (first ++ dues_of i xs)) (owed ++ ((first ++ more) ++ dues_of i xs)) copied body []
gains_between i owed first xs more copied body positive a b d e f g = record {
  copied_more = more_between (copy_in i) owed first (dues_of i xs) more (sender_none (copy_in i) (λ n place. refl) i xs positive) ∙ ap (λ zs. copies i (owed ++ (first ++ dues_of i xs)) ++ zs) a;
  bodies_more = more_between (body_in i) owed first (dues_of i xs) more (sender_none (body_in i) (λ n place. refl) i xs positive) ∙ ap (λ zs. bodies i (owed ++ (first ++ dues_of i xs)) ++ zs) b;
  slots_more = same_between (slot_in i) owed first (dues_of i xs) more d ∙ sym (append-nil (slots i (owed ++ (first ++ dues_of i xs))));
  reposts_same = same_between (repost_in i) owed first (dues_of i xs) more e;
  fetches_same = same_between (fetch_in i) owed first (dues_of i xs) more f;
  frees_same = same_between (free_in i) owed first (dues_of i xs) more g;
}

-- what completions of a sender make due is of slots alone
pub nothing_of_sender : {Y : Type 0} (f : Due → List Y) → ((n place : ℕ) → f (due.FreeSlot n place) ≡ []) → (n : ℕ) (xs : List Completion) → 1 ≤ n → flat_map f (dues_of n xs) ≡ []
nothing_of_sender f free_none n xs positive = sender_none f free_none n xs positive
