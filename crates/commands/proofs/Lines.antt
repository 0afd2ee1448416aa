-- A line is written word by word.
use Rattle.std.proofs.Common.{◌≡◌, ◌<◌, ◌≤◌, ◌+◌, ℕ, Bor, List, [], ◌∷◌, ◌++◌, length, drop, get_or, map, Option, ap, subst, sym, ◌∙◌, append_assoc, add-one, drop-cons}
use Rattle.std.proofs.lemmas.List.{drop_all}
use Rattle.host_ports.specs.Streams.{Puts}
use Rattle.host_ports.proofs.Chains.{Puts-then}
use Rattle.script_lang.specs.Printed.{ended}
use Rattle.script_runner.specs.Playing.{PutsPrefix}
use Rattle.script_runner.proofs.Prefixes.{prefix_behind, prefix_longer}

-- a prefix of a text is written, and that is to come
pub record IsWritten (held h : Option (List ℕ)) (whole rest : List ℕ) : Type 0 where
  pub done : List ℕ
  pub written : Puts held h done
  pub splits : whole ≡ done ++ rest

-- the next piece is written
more_written : (held h h' : Option (List ℕ)) (whole xs rest : List ℕ) → IsWritten held h whole (xs ++ rest) → Puts h h' xs → IsWritten held h' whole rest
more_written held h h' whole xs rest w p = record {
  done = w.done ++ xs;
  written = Puts-then held h h' w.done xs w.written p;
  splits = w.splits ∙ sym (append_assoc w.done xs rest);
}

-- a prefix of it
cut_off : (held h h' : Option (List ℕ)) (whole xs rest : List ℕ) → IsWritten held h whole (xs ++ rest) → PutsPrefix h h' xs → PutsPrefix held h' whole
cut_off held h h' whole xs rest w p =
    subst (PutsPrefix held h') (sym w.splits) (prefix_behind held h h' w.done (xs ++ rest) w.written (prefix_longer h h' xs rest p))

-- a prefix of the last piece
last_cut_off : (held h h' : Option (List ℕ)) (whole xs : List ℕ) → IsWritten held h whole xs → PutsPrefix h h' xs → PutsPrefix held h' whole
last_cut_off held h h' whole xs w p = subst (PutsPrefix held h') (sym w.splits) (prefix_behind held h h' w.done xs w.written p)

-- ---- the words of a line

-- the bytes of words
abbrev pub texts : List (Bor (List ℕ)) → List (List ℕ)
texts ws = map (λ w. w.now) ws

-- a space, the next word and what follows it
ended_at : (ws : List (Bor (List ℕ))) (i : ℕ) (d : Bor (List ℕ)) → i < length ws → ended (texts (drop i ws)) ≡ (32 ∷ []) ++ ((get_or ws i d).now ++ ended (texts (drop (i + 1) ws)))
ended_at ws i d l = rw add-one (ap (λ (k : List (Bor (List ℕ))). ended (texts k)) (drop-cons ws i d l))

-- nothing but the newline
end_left : (ws : List (Bor (List ℕ))) (i : ℕ) → length ws ≤ i → ended (texts (drop i ws)) ≡ 10 ∷ []
end_left ws i l = ap (λ (k : List (Bor (List ℕ))). ended (texts k)) (drop_all i ws l)

module _ (held h h1 : Option (List ℕ)) (whole : List ℕ) (ws : List (Bor (List ℕ))) (i : ℕ) (w : IsWritten held h whole (ended (texts (drop i ws)))) where
  -- the newline is cut off
  pub end_cut_off : length ws ≤ i → PutsPrefix h h1 (10 ∷ []) → PutsPrefix held h1 whole
  end_cut_off l p = last_cut_off held h h1 whole (10 ∷ []) (subst (IsWritten held h whole) (end_left ws i l) w) p

  module _ (d : Bor (List ℕ)) (l : i < length ws) where
    next : IsWritten held h whole ((32 ∷ []) ++ ((get_or ws i d).now ++ ended (texts (drop (i + 1) ws))))
    next = subst (IsWritten held h whole) (ended_at ws i d l) w

    -- the space is cut off
    pub space_cut_off : PutsPrefix h h1 (32 ∷ []) → PutsPrefix held h1 whole
    space_cut_off p = cut_off held h h1 whole (32 ∷ []) ((get_or ws i d).now ++ ended (texts (drop (i + 1) ws))) next p

    module _ (h2 : Option (List ℕ)) (p : Puts h h1 (32 ∷ [])) where
      spaced : IsWritten held h1 whole ((get_or ws i d).now ++ ended (texts (drop (i + 1) ws)))
      spaced = more_written held h h1 whole (32 ∷ []) ((get_or ws i d).now ++ ended (texts (drop (i + 1) ws))) next p

      -- the word is cut off
      pub word_cut_off : PutsPrefix h1 h2 (get_or ws i d).now → PutsPrefix held h2 whole
      word_cut_off q = cut_off held h1 h2 whole (get_or ws i d).now (ended (texts (drop (i + 1) ws))) spaced q

      -- it is written
      pub word_written : Puts h1 h2 (get_or ws i d).now → IsWritten held h2 whole (ended (texts (drop (i + 1) ws)))
      word_written q = more_written held h1 h2 whole (get_or ws i d).now (ended (texts (drop (i + 1) ws))) spaced q
