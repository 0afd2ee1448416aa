-- Steps of the loops of the check.
use Rattle.std.proofs.Common.{◌≡◌, ℕ, zero, suc, ◌+◌, ◌<◌, List, [], ◌∷◌, ◌++◌, length, take, map, replicate, slice_get, get_or, Some, refl, ap, sym, subst, ◌∙◌}
use Rattle.std.proofs.lemmas.List.{take_more}
use Rattle.protocol.specs.State.{Flight}
use Rattle.order_rules.specs.declared.OrderEntry.{OrderEntry}
use Rattle.order_rules.specs.declared.Receipt.{Receipt}
use Rattle.order_rules.specs.Lines.{Line, entry_of}
use Rattle.order_rules.proofs.Lists.{map_push, set_length, some_is}
use Rattle.shared_device.specs.Books.{AreApart, BookView}
use Rattle.run_check.specs.declared.stops.StopAt.{StopAt}
use Rattle.run_check.specs.Checks.{IsAdvanced}
use Rattle.run_check.proofs.Upto.{IsUpto, advanced, line_of, upto_none}

-- the check so far, with what is known of the lists' lengths
pub record IsChecked (books : List BookView) (receipts : List (List Receipt)) (entries : List OrderEntry) (ps hs : List ℕ) (fs : List Flight) (ss : List StopAt) : Type 0 where
  pub places : length ps ≡ length books
  pub heads : length hs ≡ length receipts
  pub lines : List Line
  pub entries_are : map entry_of lines ≡ entries
  pub upto : IsUpto books receipts lines ps hs fs ss

pub check_more : (books : List BookView) (receipts : List (List Receipt)) (entries : List OrderEntry) (n : ℕ) (e : OrderEntry) (ps hs : List ℕ) (fs : List Flight) (ss : List StopAt) (ps' hs' : List ℕ) (fs' : List Flight) (ss' : List StopAt)
    → AreApart books → n < length entries → e ≡ get_or entries n e → IsChecked books receipts (take n entries) ps hs fs ss → IsAdvanced books receipts e ps hs fs ss ps' hs' fs' ss'
    → IsChecked books receipts (take (n + 1) entries) ps' hs' fs' ss'
check_more books receipts entries n e ps hs fs ss ps' hs' fs' ss' apart h at before a =
    let l : Line = line_of e a.receipt in
    let e_is : entry_of l ≡ e = ap (λ (p : ℕ × ℕ). record { device = p.0; place = p.1; first = e.first; count = e.count }) (λ i. (a.head.2 i, a.head.3 i)) in
    record {
      places = ap length a.met.6 ∙ (set_length ps a.at a.met.2 ∙ before.places);
      heads = ap length a.heads ∙ (set_length hs a.worker (a.place + 1) ∙ before.heads);
      lines = before.lines ++ l ∷ [];
      entries_are = map_push entry_of before.lines l ∙ (ap (λ x. x ++ entry_of l ∷ []) before.entries_are ∙ (ap (λ x. take n entries ++ x ∷ []) (e_is ∙ at) ∙ sym (take_more entries n e h)));
      upto = advanced books receipts before.lines e ps hs fs ss ps' hs' fs' ss' apart before.upto a;
    }

all_zero : (n w k : ℕ) → slice_get (replicate n 0) w ≡ Some k → k ≡ 0
all_zero zero w k at = cc
all_zero (suc n) zero k at = sym (some_is at)
all_zero (suc n) (suc w) k at = all_zero n w k at

all_zeros : (xs : List ℕ) (n : ℕ) → xs ≡ replicate n 0 → (i k : ℕ) → slice_get xs i ≡ Some k → k ≡ 0
all_zeros xs n zeros i k at = all_zero n i k (subst (λ q. slice_get q i ≡ Some k) zeros at)

pub check_first : (books : List BookView) (receipts : List (List Receipt)) (ps hs : List ℕ) (fs : List Flight) (ss : List StopAt) → ps ≡ replicate (length books) 0 → length ps ≡ length books → hs ≡ replicate (length receipts) 0 → length hs ≡ length receipts → fs ≡ [] → ss ≡ []
    → IsChecked books receipts [] ps hs fs ss
check_first books receipts ps hs fs ss unmet met_len untold told_len none no_stop = record {
  places = met_len;
  heads = told_len;
  lines = [];
  entries_are = refl;
  upto = subst (λ (p : List Flight × List StopAt). IsUpto books receipts [] ps hs p.0 p.1) (λ i. (sym none i, sym no_stop i)) (upto_none books receipts ps hs (all_zeros ps (length books) unmet) (all_zeros hs (length receipts) untold));
}
