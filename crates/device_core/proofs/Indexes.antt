-- The index, where contexts change and their ends' numbers stay.
use Rattle.std.proofs.Common.{◌≡◌, ◌≢◌, ℕ, zero, suc, List, [], ◌∷◌, map, true, false, refl, sym, ap, ◌∙◌, inl, inr}
use Rattle.std.specs.Prelude.{bytes_eq, ◌⊎◌, ◌||◌, Option, Some, slice_get}
use Rattle.rdma_types.specs.declared.names.Name.{Name}
use Rattle.rdma_types.specs.Lists.{has_name, named, store_named}
use Rattle.rdma_types.proofs.Tables.{has_name-store, named-store_other, named-store_same}
use Rattle.protocol.specs.Refusals.{has_context}
use Rattle.protocol.specs.State.{Context, Device, End, Husk, context_at, no_context, no_husk}
use Rattle.context_core.specs.Context.{}
use Rattle.law_devices.proofs.Tables.{name_tells}
use Rattle.device_core.specs.declared.index.EndLocation.{EndLocation}
use Rattle.device_core.specs.Index.{IsEndAt, IsEntryAt, IsIndex, numbers_of}

-- ---- ends with the same numbers

-- where numbers are the same, an end with the same number stands at each place
pub same_numbers : (xs ys : List End) (i : ℕ) (e : End) → map (λ x. x.number) xs ≡ map (λ x. x.number) ys → slice_get xs i ≡ Some e → (f : End) × (slice_get ys i ≡ Some f) × (f.number ≡ e.number)
same_numbers [] ys i e same h = absurd (cc)
same_numbers (a ∷ xs) [] i e same h = absurd (cc)
same_numbers (a ∷ xs) (b ∷ ys) zero e same h = let is : a ≡ e = cc in (b, refl, sym (head _ _ _ _ same) ∙ ap (λ (x : End). x.number) is)
  where
    head : (m n : ℕ) (ms ns : List ℕ) → m ∷ ms ≡ n ∷ ns → m ≡ n
    head m n ms ns g = cc
same_numbers (a ∷ xs) (b ∷ ys) (suc i) e same h = same_numbers xs ys i e (tail _ _ _ _ same) h
  where
    tail : (m n : ℕ) (ms ns : List ℕ) → m ∷ ms ≡ n ∷ ns → ms ≡ ns
    tail m n ms ns g = cc

-- the ends of a name have the same numbers in both devices, and the names are the same
pub record SameEnds (old new : Device) : Type 0 where
  pub husks : new.husks ≡ old.husks
  pub live : (n : Name) → has_context new n ≡ has_context old n
  pub numbers : (n : Name) → has_context old n ≡ true → numbers_of (context_at new n) ≡ numbers_of (context_at old n)

moved_end : (old new : Device) (n : Name) (place number : ℕ) → has_context old n ≡ true → has_context new n ≡ true → numbers_of (context_at new n) ≡ numbers_of (context_at old n) → IsEndAt new n place number → IsEndAt old n place number
moved_end old new n place number was is same e =
    let f = same_numbers (context_at new n).ends (context_at old n).ends place e.end same e.there in
    record { lives = was; end = f.0; there = f.1; same = f.2 ∙ e.same }

pub same_entry : (old new : Device) (n : Name) (place number : ℕ) → new.husks ≡ old.husks → IsEntryAt new n place number → IsEntryAt old n place number
same_entry old new n place number same e = record {
  stays = ap (has_name (λ h. h.name) n) (sym same) ∙ e.stays;
  entry = e.entry;
  there = ap (λ (hs : List Husk). slice_get (named {A = Husk} (λ h. h.name) no_husk n hs).entries place) (sym same) ∙ e.there;
  same = e.same;
}

pub index-same : (index : ℕ → Option EndLocation) (old new : Device) → SameEnds old new → IsIndex index old → IsIndex index new
index-same index old new s i = record {
  ends = λ n place number e. i.ends n place number (moved_end old new n place number (sym (s.live n) ∙ e.lives) e.lives (s.numbers n (sym (s.live n) ∙ e.lives)) e);
  entries = λ n place number e. i.entries n place number (same_entry old new n place number s.husks e);
  exact = λ n place number h. elim (i.exact n place number h) [
    | inl e ↦ inl (moved_end new old n place number (s.live n ∙ e.lives) e.lives (sym (s.numbers n e.lives)) e)
    | inr e ↦ inr (same_entry new old n place number (sym s.husks) e)
  ];
}

-- another context in the place of one with the same numbers
pub same-stored : (old new : Device) (n : Name) (c : Context) → new.husks ≡ old.husks → new.contexts ≡ store_named (λ x. x.name) n c old.contexts → c.name ≡ n → has_context old n ≡ true → numbers_of c ≡ numbers_of (context_at old n) → SameEnds old new
same-stored old new n c husks contexts name there numbers = record {
  husks = husks;
  live = λ m. ap (has_name (λ x. x.name) m) contexts ∙ (has_name-store (λ x. x.name) n m c old.contexts name ∙ known m (name_tells n m));
  numbers = λ m is. by_name m (name_tells n m);
}
  where
    known : (m : Name) → ((bytes_eq n m ≡ true) × (n ≡ m)) ⊎ ((bytes_eq n m ≡ false) × (n ≢ m)) → (bytes_eq n m || has_context old m) ≡ has_context old m
    known m (inl t) = ap (λ b. b || has_context old m) t.0 ∙ sym (ap (has_context old) (sym t.1) ∙ there)
    known m (inr t) = ap (λ b. b || has_context old m) t.0

    by_name : (m : Name) → ((bytes_eq n m ≡ true) × (n ≡ m)) ⊎ ((bytes_eq n m ≡ false) × (n ≢ m)) → numbers_of (context_at new m) ≡ numbers_of (context_at old m)
    by_name m (inl t) =
        ap (λ k. numbers_of (context_at new k)) (sym t.1)
        ∙ (ap (λ cs. numbers_of (named (λ x. x.name) no_context n cs)) contexts
        ∙ (ap numbers_of (named-store_same (λ x. x.name) no_context n c old.contexts name)
        ∙ (numbers ∙ ap (λ k. numbers_of (context_at old k)) t.1)))
    by_name m (inr t) =
        ap (λ cs. numbers_of (named (λ x. x.name) no_context m cs)) contexts
        ∙ ap numbers_of (named-store_other (λ x. x.name) no_context n m c old.contexts name t.0)
