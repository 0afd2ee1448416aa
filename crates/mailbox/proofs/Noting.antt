-- Completions are noted one after the other.
use Rattle.std.proofs.Common.{◌≡◌, ◌+◌, ◌<◌, ◌≤◌, ℕ, suc, List, length, drop, drop-cons, get_or, refl, sym, ap, ◌∙◌, subst}
use Rattle.std.proofs.lemmas.List.{drop_all}
use Rattle.rdma_types.specs.declared.requests.Completion.{Completion}
use Rattle.protocol.specs.State.{World}
use Rattle.mailbox_rules.specs.declared.due.Due.{Due}
use Rattle.mailbox_rules.specs.State.{Channel, Mail}
use Rattle.mailbox_rules.specs.Working.{noting, noting_all}

abbrev pub mail_of : World → List Channel → List Due → Mail
mail_of w cs ds = record { world = w; channels = cs; owed = ds }

-- the first k are noted
pub record IsNoting (n : ℕ) (xs : List Completion) (k : ℕ) (cs0 : List Channel) (ds0 : List Due) (cs : List Channel) (ds : List Due) : Type 0 where
  pub rest : (w : World) → noting_all n (mail_of w cs ds) (drop k xs) ≡ noting_all n (mail_of w cs0 ds0) xs
  pub count : length cs ≡ length cs0

-- one more is noted
pub notes_next : (n : ℕ) (xs : List Completion) (k j : ℕ) (d : Completion) (cs0 : List Channel) (ds0 : List Due) (cs cs' : List Channel) (ds ds' : List Due) → j ≡ suc k → k < length xs →
    IsNoting n xs k cs0 ds0 cs ds → ((w : World) → mail_of w cs' ds' ≡ noting n (mail_of w cs ds) (get_or xs k d)) → length cs' ≡ length cs → IsNoting n xs j cs0 ds0 cs' ds'
unfolding noting_all
notes_next n xs k j d cs0 ds0 cs cs' ds ds' is less noted next same = record {
  rest = λ w.
      subst (λ (i : ℕ). noting_all n (mail_of w cs' ds') (drop i xs) ≡ noting_all n (mail_of w cs0 ds0) xs) (sym is)
      (ap (λ m. noting_all n m (drop (suc k) xs)) (next w) ∙ (sym (ap (λ ys. noting_all n (mail_of w cs ds) ys) (drop-cons xs k d less)) ∙ noted.rest w));
  count = same ∙ noted.count;
}

pub notes_first : (n : ℕ) (xs : List Completion) (cs : List Channel) (ds : List Due) → IsNoting n xs 0 cs ds cs ds
notes_first n xs cs ds = record { rest = λ w. refl; count = refl }

pub all_noted : (n : ℕ) (xs : List Completion) (k : ℕ) (cs0 : List Channel) (ds0 : List Due) (cs : List Channel) (ds : List Due) → length xs ≤ k → IsNoting n xs k cs0 ds0 cs ds →
    (w : World) → mail_of w cs ds ≡ noting_all n (mail_of w cs0 ds0) xs
unfolding noting_all
all_noted n xs k cs0 ds0 cs ds past noted w = sym (ap (λ ys. noting_all n (mail_of w cs ds) ys) (drop_all k xs past)) ∙ noted.rest w
