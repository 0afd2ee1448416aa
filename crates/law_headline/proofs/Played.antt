-- Scripts line by line.
use Rattle.std.proofs.Common.{arith, ◌≡◌, ℕ, ◌+◌, suc, List, [], ◌∷◌, ◌++◌, length, refl, sym, ap, ◌∙◌, Result, Ok, Err, Option, Some, None, MatchOption}
use Rattle.std.proofs.lemmas.List.{append_assoc, append-nil}
use Rattle.protocol.specs.Script.{Happening, happens, answers_in}
use Rattle.protocol.specs.State.{World}
use Rattle.script_lang.specs.declared.lines.Line.{Line}
use Rattle.script_lang.specs.declared.lines.Offence.{Offence}
use Rattle.script_lang.specs.Lines.{reading_of}
use Rattle.script_lang.specs.Printed.{printed}
use Rattle.script_lang.specs.Scripts.{lines_of}
use Rattle.law_kept_datagrams.specs.Alike.{with_kept_datagrams}
use Rattle.std.proofs.lemmas.List.Elements.{All-head, All-tail}
use Rattle.std.proofs.lemmas.List.Sums.{length-filter}
use Rattle.std.specs.List.{filter}
use Rattle.std.specs.Prelude.{All, count_by}
use Rattle.rdma_types.specs.declared.verbs.Verb.{Verb}
use Rattle.rdma_types.specs.declared.verbs.Verb.TheVariants as verb
use Rattle.script_lang.specs.declared.lines.Line.TheVariants as line
use Rattle.script_lang.specs.Ranges.{IsLawfulLine, IsLawfulVerb}
use Rattle.law_headline.specs.Does.{is_answered, event_happens, event_of, before, happening_of, happenings_of}
use Rattle.law_headline.specs.Playing.{PlayingBegins, PlayingEnds, PlayingForgets, PlayingGoesOn, PlayingStops, line_text, world_past}
use Rattle.law_headline.specs.Script.{AreRead, BadLine, IsFirstBad, SaysLines, Script, begins_with, script_from, text_from, text_of, world_left}

-- ---- what a text says

pub says_lines : (first : ℕ) (lines : List (List ℕ)) → SaysLines first lines (script_from first lines)
says_lines first [] = tt
says_lines first (bs ∷ more) = by (reading_of bs) refl (script_from (first + 1) more) (says_lines (first + 1) more)
  where
    on : (l : Line) (ls : List Line) → reading_of bs ≡ Ok l → (o : Option BadLine) → MatchOption o (AreRead more ls) (λ bad. IsFirstBad (first + 1) more ls bad) → MatchOption o (AreRead (bs ∷ more) (l ∷ ls)) (λ bad. IsFirstBad first (bs ∷ more) (l ∷ ls) bad)
    on l ls e None h = (e, h)
    on l ls e (Some bad) h = record {
      prefix = bs ∷ h.prefix;
      line = h.line;
      rest = h.rest;
      splits = ap (λ x. bs ∷ x) h.splits;
      are_read = (e, h.are_read);
      number = let n : bad.number ≡ (first + 1) + length h.prefix = h.number in omega arith;
      offends = h.offends;
    }

    by : (r : Result Line Offence) → reading_of bs ≡ r → (s : Script) → SaysLines (first + 1) more s → SaysLines first (bs ∷ more) (begins_with r first s)
    by (Ok l) e s h = on l s.lines e s.bad h
    by (Err o) e s h = record { prefix = []; line = bs; rest = more; splits = refl; are_read = tt; number = omega arith; offends = e }

-- ---- answers and their text

pub one_each : (w : World) (hs : List Happening) → length (answers_in w hs) ≡ length hs
unfolding answers_in
one_each w [] = refl
one_each w (h ∷ hs) = ap suc (one_each (happens w h).world hs)

pub text_on : (w : World) (prefix rest : List Happening) → text_from w (prefix ++ rest) ≡ text_from w prefix ++ text_from (world_left w prefix) rest
unfolding answers_in
text_on w [] rest = refl
text_on w (h ∷ hs) rest =
    ap (λ x. printed (happens w h).answer ++ x) (text_on (happens w h).world hs rest)
    ∙ sym (append_assoc (printed (happens w h).answer) (text_from (happens w h).world hs) (text_from (world_left (happens w h).world hs) rest))

-- ---- a loop over the lines

pub playing_begins : PlayingBegins
playing_begins text = record { whole = refl; bad = refl; count = omega arith }

-- what a line is answered, before the others
line_first : (w : World) (o : Option Happening) (hs : List Happening) → text_from w (before o hs) ≡ line_text w o ++ text_from (world_past w o) hs
unfolding answers_in
line_first w None hs = refl
line_first w (Some h) hs = refl

pub playing_goes_on : PlayingGoesOn
playing_goes_on text done w number bs rest l p e =
    let o : Option Happening = happening_of l in
    let hs : List Happening = happenings_of (script_from (number + 1 + 1) rest).lines in
    record {
      whole = (rw e at p.whole) ∙ (ap (λ x. done ++ x) (line_first w o hs) ∙ sym (append_assoc done (line_text w o) (text_from (world_past w o) hs)));
      bad = rw e at p.bad;
      count = let c : number + suc (length rest) ≡ length (lines_of text) = p.count in omega arith;
    }

pub playing_stops : PlayingStops
unfolding answers_in
playing_stops text done w number bs rest o p e = (rw e at p.bad, (rw e at p.whole) ∙ append-nil done)

pub playing_ends : PlayingEnds
unfolding answers_in
playing_ends text done w number p = (p.bad, p.whole ∙ append-nil done)

pub playing_forgets : ((w : World) (hs : List Happening) → answers_in (with_kept_datagrams w) hs ≡ answers_in w hs) → PlayingForgets
playing_forgets alike text done w number rest p = record {
  whole = p.whole ∙ ap (λ x. done ++ text_of x) (sym (alike w (happenings_of (script_from (number + 1) rest).lines)));
  bad = p.bad;
  count = p.count;
}

-- ---- a line that is not blank has one answer

verb_counted : (v : Verb) → IsLawfulVerb v → (hs : List Happening) → length (before (event_happens (event_of v)) hs) ≡ suc (length hs)
verb_counted (verb.Context name made) is hs = absurd is
verb_counted other is hs = refl

counted : (l : Line) (ls : List Line) → IsLawfulLine l → (hs : List Happening) → length hs ≡ length (filter is_answered ls) → length (before (happening_of l) hs) ≡ length (filter is_answered (l ∷ ls))
counted line.Blank ls is hs h = h
counted (line.Verb v) ls is hs h = verb_counted v is hs ∙ ap suc h
counted other ls is hs h = ap suc h

filtered : (ls : List Line) → All IsLawfulLine ls → length (happenings_of ls) ≡ length (filter is_answered ls)
filtered [] all = refl
filtered (l ∷ ls) all = counted l ls (All-head IsLawfulLine l ls all) (happenings_of ls) (filtered ls (All-tail IsLawfulLine l ls all))

pub all_counted : (ls : List Line) → All IsLawfulLine ls → length (happenings_of ls) ≡ count_by is_answered ls
all_counted ls all = filtered ls all ∙ length-filter is_answered ls
