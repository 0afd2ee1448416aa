-- Texts that grow by one connection, one move or one message.
use Rattle.std.proofs.Common.{◌≡◌, ℕ, ◌+◌, List, [], ◌++◌, refl, sym, ap, ◌∙◌, append_assoc, add-one, Result}
use Rattle.std.specs.Prelude.{OnOk}
use Rattle.std.proofs.lemmas.Result.{on_ok_weaker}
use Rattle.std.proofs.lemmas.List.{append-nil}
use Rattle.rand_core.specs.Stream.{Stream, next_u32}
use Rattle.workload_gen.specs.declared.plan.Mix.{Mix}
use Rattle.workload_gen.specs.Plan.{connection_lines, connections_lines, move_at, moves_at, message_lines, messages_lines, after_words, word_at}

-- what is grown by a piece, behind what was there
grown : (start mid new front piece whole : List ℕ) → mid ≡ start ++ front → new ≡ mid ++ piece → whole ≡ front ++ piece → new ≡ start ++ whole
grown start mid new front piece whole m n w =
    n ∙ ap (λ (z : List ℕ). z ++ piece) m ∙ append_assoc start front piece ∙ ap (λ (z : List ℕ). start ++ z) (sym w)

-- before the first connection
pub connections_start : (start : List ℕ) → start ≡ start ++ connections_lines 0
unfolding connections_lines
connections_start start = sym (append-nil start)

connections_step : (n : ℕ) → connections_lines (n + 1) ≡ connections_lines n ++ connection_lines (n + 1)
unfolding connections_lines
connections_step n = rw add-one refl

-- one more connection
pub connections_more : (n : ℕ) (start mid new : List ℕ) → mid ≡ start ++ connections_lines n → new ≡ mid ++ connection_lines (n + 1) → new ≡ start ++ connections_lines (n + 1)
connections_more n start mid new m e =
    grown start mid new (connections_lines n) (connection_lines (n + 1)) (connections_lines (n + 1)) m e (connections_step n)

-- before the first move
pub moves_start : (mix : Mix) (j : ℕ) (start : List ℕ) → start ≡ start ++ moves_at mix j 0
unfolding moves_at
moves_start mix j start = sym (append-nil start)

moves_step : (mix : Mix) (j n : ℕ) → moves_at mix j (n + 1) ≡ moves_at mix j n ++ move_at mix j (n + 1)
unfolding moves_at
moves_step mix j n = rw add-one refl

-- one more move
pub moves_more : (mix : Mix) (j n : ℕ) (start mid new : List ℕ) → mid ≡ start ++ moves_at mix j n → new ≡ mid ++ move_at mix j (n + 1) → new ≡ start ++ moves_at mix j (n + 1)
moves_more mix j n start mid new m e =
    grown start mid new (moves_at mix j n) (move_at mix j (n + 1)) (moves_at mix j (n + 1)) m e (moves_step mix j n)

-- before the first message
pub messages_start : (seed : ℕ) (mix : Mix) (start : List ℕ) → start ≡ start ++ messages_lines seed mix 0
unfolding messages_lines
messages_start seed mix start = sym (append-nil start)

messages_step : (seed : ℕ) (mix : Mix) (n : ℕ) → messages_lines seed mix (n + 1) ≡ messages_lines seed mix n ++ (message_lines mix.connections (n + 1) (word_at seed n) ++ moves_at mix (n + 1) mix.moves)
unfolding messages_lines
messages_step seed mix n = rw add-one refl

-- one more message, by the next word
pub messages_more : (seed : ℕ) (mix : Mix) (n w : ℕ) (start mid new : List ℕ) → mid ≡ start ++ messages_lines seed mix n → w ≡ word_at seed n → new ≡ mid ++ (message_lines mix.connections (n + 1) w ++ moves_at mix (n + 1) mix.moves) → new ≡ start ++ messages_lines seed mix (n + 1)
messages_more seed mix n w start mid new m is e =
    grown start mid new (messages_lines seed mix n) (message_lines mix.connections (n + 1) (word_at seed n) ++ moves_at mix (n + 1) mix.moves) (messages_lines seed mix (n + 1)) m
    (e ∙ ap (λ (z : ℕ). mid ++ (message_lines mix.connections (n + 1) z ++ moves_at mix (n + 1) mix.moves)) is) (messages_step seed mix n)

-- before the first word
pub words_start : (words : Stream) → words ≡ after_words 0 words
unfolding after_words
words_start words = refl

-- one more word
pub words_more : (words left : Stream) (n : ℕ) → left ≡ after_words n words → (next_u32 left).1 ≡ after_words (n + 1) words
unfolding after_words
words_more words left n e = rw add-one (ap (λ (z : Stream). (next_u32 z).1) e)

-- nothing is written
pub nothing_more : (start : List ℕ) → start ≡ start ++ []
nothing_more start = sym (append-nil start)

-- three texts, put one after another
pub three_put : {T E : Type 0} (r : Result T E) (a b c d x y z : List ℕ) → b ≡ a ++ x → c ≡ b ++ y → OnOk r (d ≡ c ++ z) → OnOk r (d ≡ a ++ (x ++ (y ++ z)))
three_put r a b c d x y z bx cy h =
    on_ok_weaker r (λ (e : d ≡ c ++ z). e ∙ ap (λ (w : List ℕ). w ++ z) (cy ∙ ap (λ (w : List ℕ). w ++ y) bx) ∙ append_assoc (a ++ x) y z ∙ append_assoc a x (y ++ z)) h
