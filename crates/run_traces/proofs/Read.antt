-- What is read of a text is a trace, and each trace is read so.
use Rattle.std.proofs.Common.{◌≡◌, ℕ, zero, suc, ◌+◌, ◌-◌, ◌<◌, ◌≤◌, ◌==◌, Bool, true, false, is_some, List, [], ◌∷◌, ◌++◌, length, map, take, drop, Option, Some, None, Result, Ok, Err, if◌then◌else◌, append-nil, refl, sym, ap, ◌∙◌, subst, append_assoc, arith, length-append, take-append-drop}
use Rattle.std.specs.Prelude.{◌↔◌, codes}
use Rattle.std.specs.List.{slice_split}
use Rattle.std.specs.Str.{bytes_eq}
use Rattle.std.proofs.lemmas.Slice.Eq.{bytes_eq-Decides}
use Rattle.std.proofs.lemmas.Bool.Decides.{nat_tests}
use Rattle.rdma_types.specs.declared.verbs.Verb.{Verb}
use Rattle.packetless_machine.specs.declared.steps.MachineStep.{MachineStep}
use Rattle.script_lang.specs.declared.lines.LineWhy.TheVariants as line_why
use Rattle.script_lang.specs.declared.lines.Offence.{Offence}
use Rattle.script_lang.specs.Lines.{bytes_offence, said, unless, whole}
use Rattle.script_lang.specs.Scripts.{is_newline}
use Rattle.script_lang.specs.Words.{a_word, input_of, offence, words_from}
use Rattle.run_traces.specs.declared.trace_audit.lines.TraceLine.{TraceLine}
use Rattle.run_traces.specs.declared.trace_audit.lines.TraceLine.TheVariants as line
use Rattle.run_traces.specs.Answers.{answer_of_line}
use Rattle.run_traces.specs.Grammar.{AreAnswers, AreLinesOf, IsTrace, TracesAreRead, marked}
use Rattle.run_traces.specs.Lines.{leader_of, trace_line, traced_reading}
use Rattle.run_traces.specs.Traces.{Answered, Free, Made, Owed, Place, Reading, Spoken, Traced, answer_text, bad, before, by_answer, by_line, by_mark, by_other, by_place, closed, ended, is_owed, may_answer, trace_from, trace_of, unfinished, with_line}

-- ---- marks

-- the text behind a mark
pub marked-text : (t : List ℕ) → answer_text (marked t) ≡ Some t
unfolding answer_text
marked-text t = refl

pub text-marked : (l t : List ℕ) → answer_text l ≡ Some t → l ≡ marked t
unfolding answer_text
text-marked l t h = by (bytes_eq (take 2 l) (codes "= ")) refl
  where
    by : (b : Bool) → bytes_eq (take 2 l) (codes "= ") ≡ b → l ≡ marked t
    by true e =
        let prefix : take 2 l ≡ codes "= " = (bytes_eq-Decides (take 2 l) (codes "= ")).0 e in
        let q : Some (drop 2 l) ≡ Some t = rw e at h in
        let back : drop 2 l ≡ t = cc in
        sym (take-append-drop 2 l) ∙ ap (λ (xs : List ℕ). xs ++ drop 2 l) prefix ∙ ap (λ (xs : List ℕ). codes "= " ++ xs) back
    by false e = let q : None ≡ Some t = rw e at h in cc

-- no line is both marked and another
marked-words : (t : List ℕ) → said (whole trace_line (input_of (marked t))) ≡ Err (offence 1 line_why.Word)
unfolding words_from a_word trace_line leader_of
marked-words t = refl

unread : (t : List ℕ) (x : TraceLine) → traced_reading (marked t) ≡ Ok x → ⊥
unfolding traced_reading
unread t x h = by (bytes_offence (marked t)) h
  where
    by : (o : Option Offence) → unless o (said (whole trace_line (input_of (marked t)))) ≡ Ok x → ⊥
    by (Some e) q = cc
    by None q = let w = marked-words t in cc

pub not-marked : (l : List ℕ) (x : TraceLine) → traced_reading l ≡ Ok x → answer_text l ≡ None
not-marked l x h = by (answer_text l) refl
  where
    by : (o : Option (List ℕ)) → answer_text l ≡ o → answer_text l ≡ None
    by None e = e
    by (Some t) e = absurd (unread t x (ap traced_reading (sym (text-marked l t e)) ∙ h))

-- ---- each trace is read

trace-next : (l : List ℕ) (ps : List (List ℕ)) (p : Place) (k : ℕ) → 1 ≤ length ps → trace_from (l ∷ ps) p k ≡ by_place p k l ps (λ p'. trace_from ps p' (k + 1))
unfolding trace_from
trace-next l [] p k h = absurd (omega arith)
trace-next l (q ∷ ps) p k h = refl

some-behind : (ls : List (List ℕ)) → 1 ≤ length (ls ++ [] ∷ [])
some-behind ls = omega (arith, length-append ls ([] ∷ []))

-- a line that is no line of an answer
other-line : (p : Place) (k : ℕ) (l : List ℕ) (ps : List (List ℕ)) (rest : Place → Reading) (x : TraceLine) → is_owed p ≡ false → traced_reading l ≡ Ok x → by_place p k l ps rest ≡ closed p (by_line k ps rest (Ok x))
other-line Free k l ps rest x n h = ap (by_line k ps rest) h
other-line (Owed v) k l ps rest x n h = cc
other-line (Answered v done) k l ps rest x n h =
    ap (by_mark (Answered v done) k l ps rest) (not-marked l x h) ∙ ap (λ r. before (Spoken v done) (by_line k ps rest r)) h

-- a line of an answer
answer-line : (p : Place) (k : ℕ) (t : List ℕ) (ps : List (List ℕ)) (rest : Place → Reading) → may_answer p ≡ true → is_some (answer_of_line t) ≡ true → by_place p k (marked t) ps rest ≡ rest (with_line p t)
answer-line p k t ps rest m h =
    ap (λ (b : Bool). if b then by_mark p k (marked t) ps rest (answer_text (marked t)) else by_other p k (marked t) ps rest) m
    ∙ ap (by_mark p k (marked t) ps rest) (marked-text t)
    ∙ ap (λ (b : Bool). if b then rest (with_line p t) else bad k 1 line_why.Word) h

answers-from : (v : Verb) (texts done : List (List ℕ)) (rest : List (List ℕ)) (ts : List Traced) (k : ℕ) → AreAnswers texts → ((p : Place) → is_owed p ≡ false → (n : ℕ) → trace_from (rest ++ [] ∷ []) p n ≡ closed p (Ok ts)) → trace_from ((map marked texts ++ rest) ++ [] ∷ []) (Answered v done) k ≡ Ok (Spoken v (done ++ texts) ∷ ts)
answers-from v [] done rest ts k a ih = ih (Answered v done) refl k ∙ ap (λ xs. Ok (Spoken v xs ∷ ts)) (sym (append-nil done))
answers-from v (t ∷ texts) done rest ts k a ih =
    trace-next (marked t) ((map marked texts ++ rest) ++ [] ∷ []) (Answered v done) k (some-behind (map marked texts ++ rest))
    ∙ answer-line (Answered v done) k t ((map marked texts ++ rest) ++ [] ∷ []) (λ p. trace_from ((map marked texts ++ rest) ++ [] ∷ []) p (k + 1)) refl a.0
    ∙ answers-from v texts (done ++ t ∷ []) rest ts (k + 1) a.1 ih
    ∙ ap (λ xs. Ok (Spoken v xs ∷ ts)) (append_assoc done (t ∷ []) texts)

owed-from : (v : Verb) (texts rest : List (List ℕ)) (ts : List Traced) (k : ℕ) → 1 ≤ length texts → AreAnswers texts → ((p : Place) → is_owed p ≡ false → (n : ℕ) → trace_from (rest ++ [] ∷ []) p n ≡ closed p (Ok ts)) → trace_from ((map marked texts ++ rest) ++ [] ∷ []) (Owed v) k ≡ Ok (Spoken v texts ∷ ts)
owed-from v [] rest ts k h a ih = absurd (omega arith)
owed-from v (t ∷ texts) rest ts k h a ih =
    trace-next (marked t) ((map marked texts ++ rest) ++ [] ∷ []) (Owed v) k (some-behind (map marked texts ++ rest))
    ∙ answer-line (Owed v) k t ((map marked texts ++ rest) ++ [] ∷ []) (λ p. trace_from ((map marked texts ++ rest) ++ [] ∷ []) p (k + 1)) refl a.0
    ∙ answers-from v texts (t ∷ []) rest ts (k + 1) a.1 ih

lines-from : (ts : List Traced) (ls : List (List ℕ)) → AreLinesOf ts ls → (p : Place) → is_owed p ≡ false → (k : ℕ) → trace_from (ls ++ [] ∷ []) p k ≡ closed p (Ok ts)
lines-from [] ls (l, are, end) p n k =
    ap (λ (xs : List (List ℕ)). trace_from (xs ++ [] ∷ []) p k) are
    ∙ trace-next l ([] ∷ []) p k (omega arith)
    ∙ other-line p k l ([] ∷ []) (λ p'. trace_from ([] ∷ []) p' (k + 1)) line.End n end
lines-from (Made s ∷ ts) ls (l, rest, are, says, more) p n k =
    ap (λ (xs : List (List ℕ)). trace_from (xs ++ [] ∷ []) p k) are
    ∙ trace-next l (rest ++ [] ∷ []) p k (some-behind rest)
    ∙ other-line p k l (rest ++ [] ∷ []) (λ p'. trace_from (rest ++ [] ∷ []) p' (k + 1)) (line.Step s) n says
    ∙ ap (λ r. closed p (before (Made s) r)) (lines-from ts rest more Free refl (k + 1))
lines-from (Spoken v texts ∷ ts) ls (l, rest, are, says, some, answers, more) p n k =
    ap (λ (xs : List (List ℕ)). trace_from (xs ++ [] ∷ []) p k) are
    ∙ trace-next l ((map marked texts ++ rest) ++ [] ∷ []) p k (some-behind (map marked texts ++ rest))
    ∙ other-line p k l ((map marked texts ++ rest) ++ [] ∷ []) (λ p'. trace_from ((map marked texts ++ rest) ++ [] ∷ []) p' (k + 1)) (line.Verb v) n says
    ∙ ap (closed p) (owed-from v texts rest ts (k + 1) some answers (λ p' n' k'. lines-from ts rest more p' n' k'))

-- ---- what is read is a trace

-- behind these texts the lines go on with the rest of an answer, and then with other steps
pub record IsSpoken (v : Verb) (done : List (List ℕ)) (ts : List Traced) (ls : List (List ℕ)) : Type 0 where
  pub texts : List (List ℕ)
  pub after : List Traced
  pub rest : List (List ℕ)
  pub are : ts ≡ Spoken v (done ++ texts) ∷ after
  pub cut : ls ≡ map marked texts ++ rest
  pub answers : AreAnswers texts
  pub says : AreLinesOf after rest

-- what lines say from a place on
abbrev pub Says : Place → List Traced → List (List ℕ) → Type 0
Says Free ts ls = AreLinesOf ts ls
Says (Owed v) ts ls = (s : IsSpoken v [] ts ls) × (1 ≤ length s.texts)
Says (Answered v done) ts ls = IsSpoken v done ts ls

record SaidBy (p : Place) (ts : List Traced) (ps : List (List ℕ)) : Type 0 where
  lines : List (List ℕ)
  cut : ps ≡ lines ++ [] ∷ []
  says : Says p ts lines

empty_piece : (piece : List ℕ) → (length piece == 0) ≡ true → piece ≡ []
empty_piece [] h = refl
empty_piece (b ∷ bs) h = let n : (length (b ∷ bs) == 0) ≡ false = grind (arith, nat_tests) in cc

line-says : (k : ℕ) (l : List ℕ) (behind : List (List ℕ)) (ts : List Traced) → ((p : Place) (us : List Traced) → trace_from behind p (k + 1) ≡ Ok us → SaidBy p us behind) → (r : Result TraceLine Offence) → traced_reading l ≡ r → 1 ≤ length behind → by_line k behind (λ p. trace_from behind p (k + 1)) r ≡ Ok ts → SaidBy Free ts (l ∷ behind)
line-says k l behind ts ih (Ok (line.Verb v)) e some h =
    let s = ih (Owed v) ts h in
    let q = s.says.0 in
    record {
      lines = l ∷ s.lines;
      cut = ap (λ (xs : List (List ℕ)). l ∷ xs) s.cut;
      says = subst (λ (xs : List Traced). AreLinesOf xs (l ∷ s.lines)) (sym q.are) (l, q.rest, ap (λ (xs : List (List ℕ)). l ∷ xs) q.cut, e, s.says.1, q.answers, q.says);
    }
line-says k l behind ts ih (Ok (line.Step s)) e some h = by (trace_from behind Free (k + 1)) refl h
  where
    by : (r : Reading) → trace_from behind Free (k + 1) ≡ r → before (Made s) r ≡ Ok ts → SaidBy Free ts (l ∷ behind)
    by (Err o) q g = cc
    by (Ok us) q g =
        let is : Made s ∷ us ≡ ts = cc in
        let said_us = ih Free us q in
        record {
          lines = l ∷ said_us.lines;
          cut = ap (λ (xs : List (List ℕ)). l ∷ xs) said_us.cut;
          says = subst (λ (xs : List Traced). AreLinesOf xs (l ∷ said_us.lines)) is (l, said_us.lines, refl, e, said_us.says);
        }
line-says k l [] ts ih (Ok line.End) e some h = absurd (omega arith)
line-says k l (piece ∷ []) ts ih (Ok line.End) e some h = by (length piece == 0) refl h
  where
    by : (b : Bool) → (length piece == 0) ≡ b → (if b then Ok [] else bad (k + 1) 1 line_why.Extra) ≡ Ok ts → SaidBy Free ts (l ∷ piece ∷ [])
    by true q g =
        let is : [] ≡ ts = cc in
        record {
          lines = l ∷ [];
          cut = ap (λ (x : List ℕ). l ∷ x ∷ []) (empty_piece piece q);
          says = subst (λ (xs : List Traced). AreLinesOf xs (l ∷ [])) is (l, refl, e);
        }
    by false q g = cc
line-says k l (piece ∷ next ∷ more) ts ih (Ok line.End) e some h = cc
line-says k l behind ts ih (Err o) e some h = cc

-- a line of an answer
answer-says : (v : Verb) (done : List (List ℕ)) (l t : List ℕ) (behind : List (List ℕ)) (ts : List Traced) → l ≡ marked t → is_some (answer_of_line t) ≡ true → SaidBy (Answered v (done ++ t ∷ [])) ts behind → SaidBy (Answered v done) ts (l ∷ behind)
answer-says v done l t behind ts m a s =
    let q = s.says in
    record {
      lines = l ∷ s.lines;
      cut = ap (λ (xs : List (List ℕ)). l ∷ xs) s.cut;
      says = record {
        texts = t ∷ q.texts;
        after = q.after;
        rest = q.rest;
        are = q.are ∙ ap (λ xs. Spoken v xs ∷ q.after) (append_assoc done (t ∷ []) q.texts);
        cut = ap (λ (x : List ℕ). x ∷ s.lines) m ∙ ap (λ (xs : List (List ℕ)). marked t ∷ xs) q.cut;
        answers = (a, q.answers);
        says = q.says;
      };
    }

-- an answer is over
over-says : (v : Verb) (done : List (List ℕ)) (ts : List Traced) (ps : List (List ℕ)) (r : Reading) → before (Spoken v done) r ≡ Ok ts → ((us : List Traced) → r ≡ Ok us → SaidBy Free us ps) → SaidBy (Answered v done) ts ps
over-says v done ts ps (Err o) h f = cc
over-says v done ts ps (Ok us) h f =
    let s = f us refl in
    let is : Spoken v done ∷ us ≡ ts = cc in
    record {
      lines = s.lines;
      cut = s.cut;
      says = record {
        texts = [];
        after = us;
        rest = s.lines;
        are = sym is ∙ ap (λ xs. Spoken v xs ∷ us) (sym (append-nil done));
        cut = refl;
        answers = tt;
        says = s.says;
      };
    }

said-next : (p : Place) (k : ℕ) (l : List ℕ) (behind : List (List ℕ)) (ts : List Traced) → ((q : Place) (us : List Traced) → trace_from behind q (k + 1) ≡ Ok us → SaidBy q us behind) → 1 ≤ length behind → by_place p k l behind (λ q. trace_from behind q (k + 1)) ≡ Ok ts → SaidBy p ts (l ∷ behind)
unfolding answer-says
said-next Free k l behind ts ih some h = line-says k l behind ts ih (traced_reading l) refl some h
said-next (Owed v) k l behind ts ih some h = by (answer_text l) refl h
  where
    by-answer : (t : List ℕ) → answer_text l ≡ Some t → (b : Bool) → is_some (answer_of_line t) ≡ b → (if b then trace_from behind (Answered v (t ∷ [])) (k + 1) else bad k 1 line_why.Word) ≡ Ok ts → SaidBy (Owed v) ts (l ∷ behind)
    by-answer t e true a g =
        let s = answer-says v [] l t behind ts (text-marked l t e) a (ih (Answered v (t ∷ [])) ts g) in
        record { lines = s.lines; cut = s.cut; says = (s.says, omega arith) }
    by-answer t e false a g = cc

    by : (o : Option (List ℕ)) → answer_text l ≡ o → by_mark (Owed v) k l behind (λ q. trace_from behind q (k + 1)) o ≡ Ok ts → SaidBy (Owed v) ts (l ∷ behind)
    by None e g = cc
    by (Some t) e g = by-answer t e (is_some (answer_of_line t)) refl g
said-next (Answered v done) k l behind ts ih some h = by (answer_text l) refl h
  where
    by-answer : (t : List ℕ) → answer_text l ≡ Some t → (b : Bool) → is_some (answer_of_line t) ≡ b → (if b then trace_from behind (Answered v (done ++ t ∷ [])) (k + 1) else bad k 1 line_why.Word) ≡ Ok ts → SaidBy (Answered v done) ts (l ∷ behind)
    by-answer t e true a g = answer-says v done l t behind ts (text-marked l t e) a (ih (Answered v (done ++ t ∷ [])) ts g)
    by-answer t e false a g = cc

    by : (o : Option (List ℕ)) → answer_text l ≡ o → by_mark (Answered v done) k l behind (λ q. trace_from behind q (k + 1)) o ≡ Ok ts → SaidBy (Answered v done) ts (l ∷ behind)
    by None e g = over-says v done ts (l ∷ behind) (by_line k behind (λ q. trace_from behind q (k + 1)) (traced_reading l)) g (λ us q. line-says k l behind us ih (traced_reading l) refl some q)
    by (Some t) e g = by-answer t e (is_some (answer_of_line t)) refl g

said-from : (ps : List (List ℕ)) (p : Place) (k : ℕ) (ts : List Traced) → trace_from ps p k ≡ Ok ts → SaidBy p ts ps
unfolding trace_from
said-from [] p k ts h = cc
said-from (last ∷ []) p k ts h = cc
said-from (l ∷ next ∷ more) p k ts h = said-next p k l (next ∷ more) ts (λ q us g. said-from (next ∷ more) q (k + 1) us g) (omega arith) h

-- ---- the law

pub traces-are-read : (bs : List ℕ) (ts : List Traced) → (trace_of bs ≡ Ok ts) ↔ IsTrace bs ts
unfolding trace_of
traces-are-read bs ts = (
  (λ h. let s = said-from (slice_split is_newline bs) Free 1 ts h in record { lines = s.lines; cut = s.cut; say = s.says }),
  (λ t. ap (λ (ps : List (List ℕ)). trace_from ps Free 1) t.cut ∙ lines-from ts t.lines t.say Free refl 1),
)
