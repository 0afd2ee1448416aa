-- Completions and words, one after the other.
use Rattle.std.proofs.Common.{arith, ◌≡◌, ℕ, ◌+◌, ◌<◌, List, [], ◌∷◌, ◌++◌, length, take, map, get_or, refl, ap, sym, ◌∙◌, append_assoc}
use Rattle.std.proofs.lemmas.List.{append-nil, length-append, take_more}
use Rattle.protocol.specs.DeviceStep.{device_step}
use Rattle.protocol.specs.State.{Device}
use Rattle.order_rules.specs.declared.Receipt.{Receipt}
use Rattle.order_rules.proofs.Lists.{map_push}
use Rattle.shared_device.specs.Books.{BookView, device_of}
use Rattle.run_check.specs.Gathered.{completions_in, drained_by, loads_word, polled, word_by, word_or}

drained-push : (rs : List Receipt) (r : Receipt) → drained_by (rs ++ r ∷ []) ≡ drained_by rs ++ polled r.outcome.answer
unfolding drained_by
drained-push [] r = append-nil (polled r.outcome.answer)
drained-push (x ∷ rs) r = ap (λ y. polled x.outcome.answer ++ y) (drained-push rs r) ∙ sym (append_assoc (polled x.outcome.answer) (drained_by rs) (polled r.outcome.answer))

-- one receipt more
pub drained_more : (n : ℕ) (rs : List Receipt) (r : Receipt) → n < length rs → r ≡ get_or rs n r → length (drained_by (take (n + 1) rs)) ≡ length (drained_by (take n rs)) + length (polled r.outcome.answer)
drained_more n rs r h at =
    ap (λ x. length (drained_by x)) (take_more rs n r h ∙ ap (λ x. take n rs ++ x ∷ []) (sym at))
    ∙ (ap length (drained-push (take n rs) r) ∙ length-append (drained_by (take n rs)) (polled r.outcome.answer))

completions-push : (lists : List (List Receipt)) (held : List Receipt) → completions_in (lists ++ held ∷ []) ≡ completions_in lists + length (drained_by held)
unfolding completions_in
completions-push [] held = omega arith
completions-push (x ∷ lists) held = let more = completions-push lists held in omega (arith, more)

-- one list more
pub completions_more : (n : ℕ) (lists : List (List Receipt)) (held : List Receipt) → n < length lists → held ≡ get_or lists n held → completions_in (take (n + 1) lists) ≡ completions_in (take n lists) + length (drained_by held)
completions_more n lists held h at =
    ap completions_in (take_more lists n held h ∙ ap (λ x. take n lists ++ x ∷ []) (sym at)) ∙ completions-push (take n lists) held

-- nothing in no receipts
pub drained_none : length (drained_by []) ≡ 0
unfolding drained_by
drained_none = refl

pub completions_none : completions_in [] ≡ 0
unfolding completions_in
completions_none = refl

-- the last device is asked first
pub word-push : (ds : List Device) (d : Device) (other : ℕ) → word_or (ds ++ d ∷ []) other ≡ word_or ds (word_by (device_step d loads_word).outcome.answer other)
unfolding word_or
word-push [] d other = refl
word-push (x ∷ ds) d other = ap (word_by (device_step x loads_word).outcome.answer) (word-push ds d other)

pub word_none : (other : ℕ) → word_or [] other ≡ other
unfolding word_or
word_none other = refl

-- the device of the last book was asked
pub word_last : (all books : List BookView) (b : BookView) (other n total : ℕ) → all ≡ books ++ b ∷ [] → n ≡ word_by (device_step (device_of b) loads_word).outcome.answer other → word_or (map device_of all) other ≡ total → word_or (map device_of books) n ≡ total
word_last all books b other n total is told before =
    ap (word_or (map device_of books)) told
    ∙ (sym (word-push (map device_of books) (device_of b) other)
    ∙ (ap (λ ds. word_or ds other) (sym (map_push device_of books b))
    ∙ (ap (λ bs. word_or (map device_of bs) other) (sym is) ∙ before)))

-- no device is left
pub word_end : (books : List BookView) (n total : ℕ) → books ≡ [] → word_or (map device_of books) n ≡ total → n ≡ total
word_end books n total none before = sym (word_none n) ∙ (ap (λ bs. word_or (map device_of bs) n) (sym none) ∙ before)
