-- Loops of a turn.
use Rattle.std.proofs.Common.{◌≡◌, ◌∙◌, ℕ, suc, ◌+◌, ◌<◌, ◌≤◌, List, [], ◌∷◌, ◌++◌, length, map, drop, get_or, refl, sym, ap, subst, add-one, drop-cons, drop_of_length-le, append-nil, append_assoc}
use Rattle.device_core.specs.Numbered.{numbered_view}
use Rattle.serve_rules.specs.Server.{Server}
use Rattle.serve_rules.specs.Turns.{all_expired, arrived_many, arrived_next, due_before, due_in, expired_from, sent_many, sent_next}
use Rattle.serve_rules.specs.declared.timers.Due.{Due}
use Rattle.serve_rules.specs.declared.timers.Due.TheVariants as due_is
use Rattle.serve_rules.specs.declared.timers.Timer.{Timer}
use Rattle.serve_rules.specs.Timers as timers

-- ---- so many times

pub arrivals_begin : (s : Server) → s ≡ arrived_many 0 s
unfolding arrived_many
arrivals_begin s = refl

pub arrivals_next : (k : ℕ) (s v w : Server) → w ≡ arrived_next v → v ≡ arrived_many k s → w ≡ arrived_many (k + 1) s
unfolding arrived_many
arrivals_next k s v w h e = rw add-one (h ∙ ap arrived_next e)

pub arrivals_end : (k n : ℕ) (s v : Server) → v ≡ arrived_many k s → k ≡ n → v ≡ arrived_many n s
arrivals_end k n s v h e = h ∙ ap (λ m. arrived_many m s) e

pub sends_begin : (s : Server) → s ≡ sent_many 0 s
unfolding sent_many
sends_begin s = refl

pub sends_next : (k : ℕ) (s v w : Server) → w ≡ sent_next v → v ≡ sent_many k s → w ≡ sent_many (k + 1) s
unfolding sent_many
sends_next k s v w h e = rw add-one (h ∙ ap sent_next e)

pub sends_end : (k n : ℕ) (s v : Server) → v ≡ sent_many k s → k ≡ n → v ≡ sent_many n s
sends_end k n s v h e = h ∙ ap (λ m. sent_many m s) e

-- ---- for each of a list

pub expired_on : (due : List ℕ) (i x : ℕ) (v w : Server) → i < length due → x ≡ get_or due i 0 → w ≡ expired_from v x (numbered_view v.device x) → all_expired w (drop (i + 1) due) ≡ all_expired v (drop i due)
unfolding all_expired
expired_on due i x v w h e f =
    rw (add-one, drop-cons due i 0) (ap (λ (s : Server). all_expired s (drop (suc i) due)) (f ∙ ap (λ y. expired_from v y (numbered_view v.device y)) e))

pub expired_end : (due : List ℕ) (i : ℕ) (s v : Server) → length due ≤ i → all_expired v (drop i due) ≡ all_expired s due → v ≡ all_expired s due
unfolding all_expired
expired_end due i s v h e = subst (λ ys. all_expired v ys ≡ all_expired s due) (drop_of_length-le due h) e

due_more : (n : ℕ) (d : Due) (more : List ℕ) → due_before n d [] ++ more ≡ due_before n d more
due_more n due_is.Neither more = refl
due_more n due_is.Rnr more = refl
due_more n due_is.Expiry more = refl
due_more n due_is.Resume more = refl

pub due_on : (now : ℕ) (ts : List (ℕ × Timer)) (i : ℕ) (t : ℕ × Timer) (acc acc' : List ℕ) → i < length ts → t ≡ get_or ts i t → acc' ≡ acc ++ due_before t.0 (timers.due_of t.1 now) [] → acc' ++ due_in now (drop (i + 1) ts) ≡ acc ++ due_in now (drop i ts)
unfolding due_in
due_on now ts i t acc acc' h e f =
    let rest = due_in now (drop (suc i) ts) in
    let here : due_in now (drop i ts) ≡ due_before t.0 (timers.due_of t.1 now) rest =
    rw (drop-cons ts i t) (ap (λ (x : ℕ × Timer). due_before x.0 (timers.due_of x.1 now) rest) (sym e)) in
    rw add-one (ap (λ ns. ns ++ rest) f ∙ append_assoc acc (due_before t.0 (timers.due_of t.1 now) []) rest ∙ ap (λ ns. acc ++ ns) (due_more t.0 (timers.due_of t.1 now) rest ∙ sym here))

pub due_end : (now : ℕ) (ts : List (ℕ × Timer)) (i : ℕ) (acc : List ℕ) → length ts ≤ i → acc ++ due_in now (drop i ts) ≡ due_in now ts → acc ≡ due_in now ts
unfolding due_in
due_end now ts i acc h e = sym (append-nil acc) ∙ subst (λ ys. acc ++ due_in now ys ≡ due_in now ts) (drop_of_length-le ts h) e

-- what was mapped so far, and what is left
pub mapped_on : {A B : Type 0} (f : A → B) (xs : List A) (i : ℕ) (x : A) (acc acc' : List B) → i < length xs → x ≡ get_or xs i x → acc' ≡ acc ++ f x ∷ [] → acc' ++ map f (drop (i + 1) xs) ≡ acc ++ map f (drop i xs)
mapped_on f xs i x acc acc' h e g =
    let rest = map f (drop (suc i) xs) in
    rw (add-one, drop-cons xs i x) (ap (λ ys. ys ++ rest) g ∙ append_assoc acc (f x ∷ []) rest ∙ ap (λ y. acc ++ (y ∷ rest)) (ap f e))

pub mapped_end : {A B : Type 0} (f : A → B) (xs : List A) (i : ℕ) (acc all : List B) → length xs ≤ i → acc ++ map f (drop i xs) ≡ all → acc ≡ all
mapped_end f xs i acc all h e = sym (append-nil acc) ∙ subst (λ ys. acc ++ map f ys ≡ all) (drop_of_length-le xs h) e
