-- A script is played line by line.
use Rattle.std.proofs.Common.{arith, ◌≡◌, ◌≤◌, ℕ, ◌+◌, ◌==◌, Bool, true, false, List, [], ◌∷◌, ◌++◌, length, Option, Some, None, Ok, Err, refl, ap, sym, ◌∙◌, subst, append-nil, if◌then◌else◌}
use Rattle.std.proofs.lemmas.List.Splits.{length-slice_split}
use Rattle.std.proofs.lemmas.List.Sums.{count_by-le-length}
use Rattle.std.specs.List.{slice_split}
use Rattle.protocol.specs.Fabric.{forgetting}
use Rattle.law_kept_datagrams.specs.Alike.{AreAlike, StepAlike, with_kept_datagrams}
use Rattle.protocol.specs.Script.{Happening, Event, Dump, Settles, dumps, happens}
use Rattle.protocol.specs.State.{World, empty_world}
use Rattle.packetless_machine.specs.Machine.{empty}
use Rattle.host_ports.specs.Streams.{Puts}
use Rattle.host_ports.proofs.Chains.{Puts-none, Puts-then}
use Rattle.script_lang.specs.declared.lines.Line.{Line}
use Rattle.script_lang.specs.Lines.{reading_of}
use Rattle.script_lang.specs.Scripts.{is_newline, lines_in, lines_of}
use Rattle.law_headline.specs.Does.{before, happening_of, happenings_of}
use Rattle.law_headline.specs.Left.{IsWorldAfter, ReachesAll, world_of}
use Rattle.law_headline.specs.Playing.{IsPlayed, PlayingBegins, PlayingEnds, PlayingForgets, PlayingGoesOn, line_text, world_past}
use Rattle.law_headline.specs.Script.{answers_text, bad_line, happenings, script_from, text_from, world_left}
use Rattle.script_runner.specs.Playing.{IsOnTheWay, IsPlayedTo, Leaves, PutsPrefix}
use Rattle.script_runner.proofs.Prefixes.{prefix_behind, prefix_longer}

-- ---- worlds that are alike

-- they differ in no datagram that is kept
forget_alike : (a b : World) → AreAlike a b → with_kept_datagrams a ≡ with_kept_datagrams b
forget_alike a b h =
    ap (λ x. record { devices = x; sent = forgetting a.sent; carried = a.carried; stopped = a.stopped }) h.devices
    ∙ (ap (λ x. record { devices = b.devices; sent = x; carried = a.carried; stopped = a.stopped }) h.sent
    ∙ (ap (λ x. record { devices = b.devices; sent = forgetting b.sent; carried = x; stopped = a.stopped }) h.carried
    ∙ ap (λ x. record { devices = b.devices; sent = forgetting b.sent; carried = b.carried; stopped = x }) h.stopped))

-- what the laws say of them
pub record AreAlikeLaws : Type 0 where
  pub forgets : (w : World) → AreAlike (with_kept_datagrams w) w
  pub line : (a b : World) (h : Happening) → AreAlike a b → StepAlike (happens a h) (happens b h)

-- what happens in what is left of a world leaves what is left of the next one
left_past : AreAlikeLaws → (w whole w' : World) (h : Happening) → w ≡ with_kept_datagrams whole → w' ≡ with_kept_datagrams (happens w h).world → w' ≡ with_kept_datagrams (happens whole h).world
left_past laws w whole w' h e l =
    let alike : AreAlike w whole = subst (λ (x : World). AreAlike x whole) (sym e) (laws.forgets whole) in
    l ∙ forget_alike (happens w h).world (happens whole h).world (laws.line w whole h alike).world

-- .. so for what a line does
left_on : AreAlikeLaws → (w whole w' : World) (o : Option Happening) → w ≡ with_kept_datagrams whole → Leaves w o w' → w' ≡ with_kept_datagrams (world_past whole o)
unfolding happens dumps
left_on laws w whole w' None e l = l ∙ e
left_on laws w whole w' (Some (Event event)) e l = left_past laws w whole w' (Event event) e l
left_on laws w whole w' (Some (Dump name)) e l = l ∙ e
left_on laws w whole w' (Some Settles) e l = left_past laws w whole w' Settles e l

-- where a line leads, before the others
left_first : (w : World) (o : Option Happening) (hs : List Happening) → world_left w (before o hs) ≡ world_left (world_past w o) hs
left_first w None hs = refl
left_first w (Some h) hs = refl

-- ---- one line

-- the way goes on
way_on : AreAlikeLaws → (script : List ℕ) (w w' : World) (n number : ℕ) (bs : List ℕ) (rest : List (List ℕ)) (l : Line) → n + 1 ≡ number → reading_of bs ≡ Ok l → Leaves w (happening_of l) w' → IsOnTheWay script w n (bs ∷ rest) → IsOnTheWay script w' number rest
way_on laws script w w' n number bs rest l e r left y =
    let hs : List Happening = happenings_of (script_from (n + 1 + 1) rest).lines in
    let leads : world_of script ≡ world_left (world_past y.whole (happening_of l)) hs = (rw r at y.leads) ∙ left_first y.whole (happening_of l) hs in
    record {
      whole = world_past y.whole (happening_of l);
      left = left_on laws w y.whole w' (happening_of l) y.left left;
      leads = subst (λ k. world_of script ≡ world_left (world_past y.whole (happening_of l)) (happenings_of (script_from (k + 1) rest).lines)) e leads;
    }

-- what a line leaves plays on as the rules' world
left_played : PlayingForgets → (script done : List ℕ) (w w' : World) (number : ℕ) (rest : List (List ℕ)) (o : Option Happening) → Leaves w o w' → IsPlayed script done (world_past w o) number rest → IsPlayed script done w' number rest
unfolding happens dumps
left_played forgets script done w w' number rest None left p = subst (λ v. IsPlayed script done v number rest) (sym left) p
left_played forgets script done w w' number rest (Some (Event event)) left p = subst (λ v. IsPlayed script done v number rest) (sym left) (forgets script done (happens w (Event event)).world number rest p)
left_played forgets script done w w' number rest (Some (Dump name)) left p = subst (λ v. IsPlayed script done v number rest) (sym left) p
left_played forgets script done w w' number rest (Some Settles) left p = subst (λ v. IsPlayed script done v number rest) (sym left) (forgets script done (happens w Settles).world number rest p)

module _ (on : PlayingGoesOn) (held h h' : Option (List ℕ)) (script : List ℕ) (w : World) (n number : ℕ) (bs : List ℕ) (rest : List (List ℕ)) (l : Line) (e : n + 1 ≡ number) (r : reading_of bs ≡ Ok l) (p : IsPlayedTo held h script w n (bs ∷ rest)) where
  next : IsPlayed script (p.done ++ line_text w (happening_of l)) (world_past w (happening_of l)) number rest
  next = subst (λ k. IsPlayed script (p.done ++ line_text w (happening_of l)) (world_past w (happening_of l)) k rest) e (on script p.done w n bs rest l p.played r)

  -- it is answered
  pub line_played : AreAlikeLaws → PlayingForgets → (w' : World) → Leaves w (happening_of l) w' → Puts h h' (line_text w (happening_of l)) → IsPlayedTo held h' script w' number rest
  line_played laws forgets w' left put = record {
    done = p.done ++ line_text w (happening_of l);
    written = Puts-then held h h' p.done (line_text w (happening_of l)) p.written put;
    played = left_played forgets script (p.done ++ line_text w (happening_of l)) w w' number rest (happening_of l) left next;
    way = way_on laws script w w' n number bs rest l e r left p.way;
  }

  -- it is answered in part
  pub line_cut_off : PutsPrefix h h' (line_text w (happening_of l)) → PutsPrefix held h' (answers_text script)
  line_cut_off f =
      let behind : PutsPrefix held h' (p.done ++ line_text w (happening_of l)) = prefix_behind held h h' p.done (line_text w (happening_of l)) p.written f in
      subst (PutsPrefix held h') (sym next.whole) (prefix_longer held h' (p.done ++ line_text w (happening_of l)) (text_from (world_past w (happening_of l)) (happenings_of (script_from (number + 1) rest).lines)) behind)

-- ---- all lines

-- nothing is played yet
pub start : PlayingBegins → (held : Option (List ℕ)) (script : List ℕ) → IsPlayedTo held held script empty_world 0 (lines_of script)
unfolding forgetting
start begins held script = record {
  done = [];
  written = Puts-none held;
  played = begins script;
  way = record { whole = empty_world; left = refl; leads = refl };
}

-- no line is to come
pub whole : PlayingEnds → (held h : Option (List ℕ)) (script : List ℕ) (w : World) (number : ℕ) (rest : List (List ℕ)) → rest ≡ [] → IsPlayedTo held h script w number rest → (bad_line script ≡ None) × Puts held h (answers_text script)
whole ends held h script w number rest e p =
    let end : (bad_line script ≡ None) × (answers_text script ≡ p.done) = ends script p.done w number (subst (λ ls. IsPlayed script p.done w number ls) e p.played) in
    (end.0, subst (Puts held h) (sym end.1) p.written)

-- .. so the world is the one that the text leaves
pub world_after : (held h : Option (List ℕ)) (script : List ℕ) (w : World) (number : ℕ) (rest : List (List ℕ)) → rest ≡ [] → IsPlayedTo held h script w number rest → ReachesAll empty_world empty (happenings script) → IsWorldAfter script w
world_after held h script w number rest e p reached =
    let y : IsOnTheWay script w number [] = subst (IsOnTheWay script w number) e p.way in
    let same : y.whole ≡ world_of script = sym y.leads in
    record { left = y.left ∙ ap with_kept_datagrams same; reached = reached }

-- ---- how many lines there are

length-lines_in : (pieces : List (List ℕ)) → length (lines_in pieces) ≤ length pieces
unfolding lines_in
length-lines_in [] = omega arith
length-lines_in (last ∷ []) = last_by (length last == 0)
  where
    last_by : (b : Bool) → length (if b then [] else last ∷ []) ≤ 1
    last_by true = omega arith
    last_by false = omega arith
length-lines_in (piece ∷ next ∷ more) = omega (arith, length-lines_in (next ∷ more))

-- a text has no more lines than bytes, and one
pub length-lines_of : (text : List ℕ) → length (lines_of text) ≤ length text + 1
unfolding lines_of
length-lines_of text = omega (arith, length-lines_in (slice_split is_newline text), length-slice_split is_newline text, count_by-le-length is_newline text)

-- the number of the next line is small
pub next_number : (held h : Option (List ℕ)) (script : List ℕ) (w : World) (number : ℕ) (rest more : List (List ℕ)) (bs : List ℕ) → rest ≡ bs ∷ more → IsPlayedTo held h script w number rest → number + 1 ≤ length script + 1
next_number held h script w number rest more bs e p = omega (arith, ap length e, p.played.count, length-lines_of script)
