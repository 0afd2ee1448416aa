-- Open letters after any turns: each was sent, and their places rise.
use Rattle.std.proofs.Common.{arith, ◌≡◌, ℕ, ◌+◌, ◌<◌, List, [], ◌∷◌, ◌++◌, length, true, false, Bool, refl, sym, subst, ap, ◌∙◌, Some, Option, append_assoc, append-nil, length-append}
use Rattle.std.specs.Prelude.{if◌then◌else◌, ◌==◌, slice_get, All}
use Rattle.std.proofs.lemmas.List.Elements.{All-cons, All-head, All-nil, All-push, All-tail, All-weaker}
use Rattle.std.proofs.lemmas.Option.{slice_get_within}
use Rattle.mailbox_rules.specs.declared.letters.Letter.{Letter}
use Rattle.mailbox_rules.specs.Calls.{Call, Send, Take, Reply, IsSent, Gives}
use Rattle.mailbox_rules.specs.Histories.{Placed, Turn, is_wanted, opened_by, opened_from, placed_letters, sent_by, sent_letters, without_first}
use Rattle.law_mailbox.specs.Arrived.{AreOpen, AreRising}
use Rattle.law_mailbox.proofs.connection.Lists.{get_left, get_seam}

-- ---- places

-- the letter of its place
abbrev pub IsThere : List Letter → Placed → Type 0
IsThere sent x = slice_get sent x.place ≡ Some x.letter

still_there : (sent more : List Letter) (x : Placed) → IsThere sent x → IsThere (sent ++ more) x
still_there sent more x h = get_left sent more x.place (slice_get_within sent x.place x.letter h) ∙ h

-- one more at the end, above all
pub rising_push : (xs : List Placed) (y : Placed) → AreRising xs → All (λ x. x.place < y.place) xs → AreRising (xs ++ y ∷ [])
rising_push [] y r a = (All-nil (λ z. y.place < z.place), tt)
rising_push (x ∷ xs) y r a =
    (All-push (λ z. x.place < z.place) xs y r.0 (All-head (λ z. z.place < y.place) x xs a), rising_push xs y r.1 (All-tail (λ z. z.place < y.place) x xs a))

-- ---- without one of them

pub without_all : (P : Placed → Type 0) (tag : Option ℕ) (xs : List Placed) → All P xs → All P (without_first tag xs)
unfolding without_first
without_all P tag [] a = a
without_all P tag (x ∷ xs) a = by (without_all P tag xs (All-tail P x xs a)) (is_wanted tag x)
  where
    by : All P (without_first tag xs) → (b : Bool) → All P (if b then xs else x ∷ without_first tag xs)
    by rest true = All-tail P x xs a
    by rest false = All-cons P x (without_first tag xs) (All-head P x xs a) rest

pub without_rising : (tag : Option ℕ) (xs : List Placed) → AreRising xs → AreRising (without_first tag xs)
unfolding without_first
without_rising tag [] r = r
without_rising tag (x ∷ xs) r = by (without_rising tag xs r.1) (is_wanted tag x)
  where
    by : AreRising (without_first tag xs) → (b : Bool) → AreRising (if b then xs else x ∷ without_first tag xs)
    by rest true = r.1
    by rest false = (without_all (λ y. x.place < y.place) tag xs r.0, rest)

pub without_open : (sent : List Letter) (tag : Option ℕ) (xs : List Placed) → AreOpen sent xs → AreOpen sent (without_first tag xs)
without_open sent tag xs h = record { there = without_all (IsThere sent) tag xs h.there; rising = without_rising tag xs h.rising }

-- ---- a turn

none_sent : (sent : List Letter) (xs : List Placed) → AreOpen sent xs → AreOpen (sent ++ []) xs
none_sent sent xs h = subst (λ (s : List Letter). AreOpen s xs) (sym (append-nil sent)) h

one_sent : (sent : List Letter) (xs : List Placed) (l : Letter) → AreOpen sent xs → AreOpen (sent ++ l ∷ []) (xs ++ record { place = length sent; letter = l } ∷ [])
one_sent sent xs l h =
    let x : Placed = record { place = length sent; letter = l } in
    record {
      there = All-push (IsThere (sent ++ l ∷ [])) xs x (All-weaker (IsThere sent) (IsThere (sent ++ l ∷ [])) (still_there sent (l ∷ [])) xs h.there) (get_seam sent l);
      rising = rising_push xs x h.rising (All-weaker (IsThere sent) (λ y. y.place < x.place) (λ y t. slice_get_within sent y.place y.letter t) xs h.there);
    }

by_send : (b : Bool) (sent : List Letter) (xs : List Placed) (l : Letter) → AreOpen sent xs →
    AreOpen (sent ++ (if b then l ∷ [] else [])) (if b then xs ++ record { place = length sent; letter = l } ∷ [] else xs)
by_send true sent xs l h = one_sent sent xs l h
by_send false sent xs l h = none_sent sent xs h

by_take : (b : Bool) (sent : List Letter) (xs : List Placed) (tag : Option ℕ) → AreOpen sent xs → AreOpen (sent ++ []) (if b then without_first tag xs else xs)
by_take true sent xs tag h = none_sent sent (without_first tag xs) (without_open sent tag xs h)
by_take false sent xs tag h = none_sent sent xs h

pub turn_opens : (i : ℕ) (c : Call) (r : Reply) (sent : List Letter) (xs : List Placed) → AreOpen sent xs → AreOpen (sent ++ sent_by i c r) (opened_by i c r (length sent) xs)
turn_opens i (Send from tag body) IsSent sent xs h = by_send (from == i) sent xs (record { tag = tag; body = body }) h
turn_opens i (Take from tag) (Gives (Some l)) sent xs h = by_take (from == i) sent xs tag h
turn_opens i c r sent xs h = none_sent sent xs h

turns_open : (i : ℕ) (ts : List Turn) (sent : List Letter) (count : ℕ) (xs : List Placed) → count ≡ length sent → AreOpen sent xs → AreOpen (sent ++ sent_letters i ts) (opened_from i count xs ts)
turns_open i [] sent count xs e h = none_sent sent xs h
turns_open i (t ∷ ts) sent count xs e h =
    let more : List Letter = sent_by i t.call t.reply in
    let next : AreOpen (sent ++ more) (opened_by i t.call t.reply count xs) =
    subst (λ (n : ℕ). AreOpen (sent ++ more) (opened_by i t.call t.reply n xs)) (sym e) (turn_opens i t.call t.reply sent xs h) in
    let counted : count + length more ≡ length (sent ++ more) = ap (λ (n : ℕ). n + length more) e ∙ sym (length-append sent more) in
    subst (λ (s : List Letter). AreOpen s (opened_from i (count + length more) (opened_by i t.call t.reply count xs) ts)) (append_assoc sent more (sent_letters i ts))
    (turns_open i ts (sent ++ more) (count + length more) (opened_by i t.call t.reply count xs) counted next)

pub were_sent : (i : ℕ) (ts : List Turn) → AreOpen (sent_letters i ts) (placed_letters i ts)
were_sent i ts = turns_open i ts [] 0 [] refl (record { there = All-nil (IsThere []); rising = tt })

-- ---- one more turn at the end

pub sent_more : (i : ℕ) (ts : List Turn) (t : Turn) → sent_letters i (ts ++ t ∷ []) ≡ sent_letters i ts ++ sent_by i t.call t.reply
sent_more i [] t = append-nil (sent_by i t.call t.reply)
sent_more i (u ∷ us) t = ap (λ (s : List Letter). sent_by i u.call u.reply ++ s) (sent_more i us t) ∙ sym (append_assoc (sent_by i u.call u.reply) (sent_letters i us) (sent_by i t.call t.reply))

opened_more : (i : ℕ) (ts : List Turn) (t : Turn) (count : ℕ) (xs : List Placed) → opened_from i count xs (ts ++ t ∷ []) ≡ opened_by i t.call t.reply (count + length (sent_letters i ts)) (opened_from i count xs ts)
opened_more i [] t count xs = let e : count ≡ count + 0 = omega arith in ap (λ (n : ℕ). opened_by i t.call t.reply n xs) e
opened_more i (u ∷ us) t count xs =
    let more : List Letter = sent_by i u.call u.reply in
    let counted : count + length more + length (sent_letters i us) ≡ count + length (more ++ sent_letters i us) = omega (arith, length-append more (sent_letters i us)) in
    opened_more i us t (count + length more) (opened_by i u.call u.reply count xs)
    ∙ ap (λ (n : ℕ). opened_by i t.call t.reply n (opened_from i (count + length more) (opened_by i u.call u.reply count xs) us)) counted

pub placed_more : (i : ℕ) (ts : List Turn) (t : Turn) → placed_letters i (ts ++ t ∷ []) ≡ opened_by i t.call t.reply (length (sent_letters i ts)) (placed_letters i ts)
placed_more i ts t =
    let e : 0 + length (sent_letters i ts) ≡ length (sent_letters i ts) = omega arith in
    opened_more i ts t 0 [] ∙ ap (λ (n : ℕ). opened_by i t.call t.reply n (placed_letters i ts)) e
