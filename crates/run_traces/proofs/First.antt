-- The bad line that is named is the first with which a text can not go on to a trace.
use Rattle.std.proofs.Common.{◌≡◌, ℕ, zero, suc, ◌+◌, ◌-◌, ◌<◌, ◌≤◌, ◌==◌, Bool, true, false, is_some, List, [], ◌∷◌, ◌++◌, length, map, Option, Some, None, Result, Ok, Err, if◌then◌else◌, append-nil, ◌⊎◌, inl, inr, refl, sym, ap, ◌∙◌, subst, append_assoc, arith, length-append}
use Rattle.std.specs.Prelude.{codes}
use Rattle.std.specs.List.{slice_split}
use Rattle.std.proofs.lemmas.Bool.Decides.{nat_tests}
use Rattle.std.proofs.lemmas.List.Splits.{length-slice_split}
use Rattle.rdma_types.specs.declared.answers.Answer.TheVariants as answers
use Rattle.rdma_types.specs.declared.verbs.Verb.{Verb}
use Rattle.packetless_machine.specs.declared.steps.MachineStep.{MachineStep}
use Rattle.script_lang.specs.declared.lines.LineWhy.TheVariants as line_why
use Rattle.script_lang.specs.declared.lines.Offence.{Offence}
use Rattle.script_lang.specs.Scripts.{is_newline}
use Rattle.script_lang.specs.Words.{offence}
use Rattle.run_traces.specs.declared.trace_audit.lines.TraceLine.{TraceLine}
use Rattle.run_traces.specs.declared.trace_audit.lines.TraceLine.TheVariants as line
use Rattle.run_traces.specs.Answers.{answer_of_line}
use Rattle.run_traces.specs.Evaluate.{audited}
use Rattle.run_traces.specs.Grammar.{AreAnswers, AreLinesOf, IsFirstBad, marked}
use Rattle.run_traces.specs.Lines.{traced_reading}
use Rattle.run_traces.specs.Traces.{Answered, Free, Made, Owed, Place, Reading, Spoken, Traced, answer_text, bad, before, by_line, by_mark, by_place, closed, ended, is_owed, trace_from, trace_of, unfinished, unfinished_line}
use Rattle.run_traces.proofs.Read.{IsSpoken, Says, marked-text, not-marked, text-marked}

-- the lines from a place on can go on
record GoesOn (p : Place) (ls : List (List ℕ)) : Type 0 where
  more : List (List ℕ)
  steps : List Traced
  says : Says p steps (ls ++ more)

-- ---- from each place something can follow

end-read : traced_reading (codes "end") ≡ Ok line.End
unfolding audited
end-read = refl

ok-read : answer_of_line (codes "ok") ≡ Some answers.Done
unfolding audited
ok-read = refl

end-lines : AreLinesOf [] (codes "end" ∷ [])
end-lines = (codes "end", refl, end-read)

can-end : (p : Place) → GoesOn p []
can-end Free = record { more = codes "end" ∷ []; steps = []; says = end-lines }
can-end (Owed v) = record {
  more = marked (codes "ok") ∷ codes "end" ∷ [];
  steps = Spoken v (codes "ok" ∷ []) ∷ [];
  says = (record { texts = codes "ok" ∷ []; after = []; rest = codes "end" ∷ []; are = refl; cut = refl; answers = (rw ok-read refl, tt); says = end-lines }, omega arith);
}
can-end (Answered v done) = record {
  more = codes "end" ∷ [];
  steps = Spoken v done ∷ [];
  says = record { texts = []; after = []; rest = codes "end" ∷ []; are = ap (λ xs. Spoken v xs ∷ []) (sym (append-nil done)); cut = refl; answers = tt; says = end-lines };
}

-- ---- the first line, seen from the steps

-- a line that says something by itself, and what follows it
abbrev Follows : List ℕ → List (List ℕ) → TraceLine → Type 0
Follows l rest (line.Verb v) = (ts : List Traced) × Says (Owed v) ts rest
Follows l rest (line.Step s) = (ts : List Traced) × AreLinesOf ts rest
Follows l rest line.End = rest ≡ []

record IsOther (l : List ℕ) (rest : List (List ℕ)) : Type 0 where
  said : TraceLine
  reads : traced_reading l ≡ Ok said
  follows : Follows l rest said

heads : (l l' : List ℕ) (rest rest' : List (List ℕ)) → l ∷ rest ≡ l' ∷ rest' → (l ≡ l') × (rest ≡ rest')
heads l l' rest rest' e =
    let a : l ≡ l' = cc in
    let b : rest ≡ rest' = cc in
    (a, b)

first-other : (ts : List Traced) (l : List ℕ) (rest : List (List ℕ)) → AreLinesOf ts (l ∷ rest) → IsOther l rest
first-other [] l rest (l', are, end) =
    let h = heads l l' rest [] are in
    record { said = line.End; reads = ap traced_reading h.0 ∙ end; follows = h.1 }
first-other (Made s ∷ ts) l rest (l', rest', are, says, more) =
    let h = heads l l' rest rest' are in
    record { said = line.Step s; reads = ap traced_reading h.0 ∙ says; follows = (ts, subst (AreLinesOf ts) (sym h.1) more) }
first-other (Spoken v texts ∷ ts) l rest (l', rest', are, says, some, answers, more) =
    let h = heads l l' rest (map marked texts ++ rest') are in
    record {
      said = line.Verb v;
      reads = ap traced_reading h.0 ∙ says;
      follows = (Spoken v texts ∷ ts, (record { texts = texts; after = ts; rest = rest'; are = refl; cut = h.1; answers = answers; says = more }, some));
    }

-- .. or a line of an answer
record IsAnswerLine (v : Verb) (done : List (List ℕ)) (l : List ℕ) (rest : List (List ℕ)) : Type 0 where
  text : List ℕ
  is : l ≡ marked text
  answers : is_some (answer_of_line text) ≡ true
  steps : List Traced
  says : IsSpoken v (done ++ text ∷ []) steps rest

first-spoken : (v : Verb) (done : List (List ℕ)) (ts : List Traced) (l : List ℕ) (rest : List (List ℕ)) (s : IsSpoken v done ts (l ∷ rest)) (texts : List (List ℕ)) → s.texts ≡ texts → IsAnswerLine v done l rest ⊎ ((texts ≡ []) × AreLinesOf s.after (l ∷ rest))
first-spoken v done ts l rest s [] e =
    let lines : l ∷ rest ≡ s.rest = s.cut ∙ ap (λ (xs : List (List ℕ)). map marked xs ++ s.rest) e in
    inr (refl, subst (AreLinesOf s.after) (sym lines) s.says)
first-spoken v done ts l rest s (t ∷ texts) e =
    let lines : l ∷ rest ≡ marked t ∷ (map marked texts ++ s.rest) = s.cut ∙ ap (λ (xs : List (List ℕ)). map marked xs ++ s.rest) e in
    let h = heads l (marked t) rest (map marked texts ++ s.rest) lines in
    let a : AreAnswers (t ∷ texts) = subst AreAnswers e s.answers in
    inl (record {
      text = t;
      is = h.0;
      answers = a.0;
      steps = ts;
      says = record { texts = texts; after = s.after; rest = s.rest; are = s.are ∙ ap (λ xs. Spoken v (done ++ xs) ∷ s.after) e ∙ ap (λ xs. Spoken v xs ∷ s.after) (sym (append_assoc done (t ∷ []) texts)); cut = h.1; answers = a.1; says = s.says };
    })

-- ---- from one line to the next

same-text : (t t' : List ℕ) → marked t ≡ marked t' → t ≡ t'
same-text t t' e =
    let q : Some t ≡ Some t' = sym (marked-text t) ∙ ap answer_text e ∙ marked-text t' in
    cc

verb-goes : (v : Verb) (l : List ℕ) (xs : List (List ℕ)) → traced_reading l ≡ Ok (line.Verb v) → GoesOn (Owed v) xs → GoesOn Free (l ∷ xs)
verb-goes v l xs r g =
    let q = g.says.0 in
    record {
      more = g.more;
      steps = g.steps;
      says = subst (λ (ts : List Traced). AreLinesOf ts (l ∷ (xs ++ g.more))) (sym q.are) (l, q.rest, ap (λ (ys : List (List ℕ)). l ∷ ys) q.cut, r, g.says.1, q.answers, q.says);
    }

step-goes : (s : MachineStep) (l : List ℕ) (xs : List (List ℕ)) → traced_reading l ≡ Ok (line.Step s) → GoesOn Free xs → GoesOn Free (l ∷ xs)
step-goes s l xs r g = record { more = g.more; steps = Made s ∷ g.steps; says = (l, xs ++ g.more, refl, r, g.says) }

free-back : (l : List ℕ) (xs : List (List ℕ)) (x : TraceLine) → traced_reading l ≡ Ok x → (g : GoesOn Free (l ∷ xs)) → Follows l (xs ++ g.more) x
free-back l xs x r g =
    let o = first-other g.steps l (xs ++ g.more) g.says in
    let q : Ok o.said ≡ Ok x = sym o.reads ∙ r in
    let is : o.said ≡ x = cc in
    subst (Follows l (xs ++ g.more)) is o.follows

verb-back : (v : Verb) (l : List ℕ) (xs : List (List ℕ)) → traced_reading l ≡ Ok (line.Verb v) → GoesOn Free (l ∷ xs) → GoesOn (Owed v) xs
verb-back v l xs r g = let f = free-back l xs (line.Verb v) r g in record { more = g.more; steps = f.0; says = f.1 }

step-back : (s : MachineStep) (l : List ℕ) (xs : List (List ℕ)) → traced_reading l ≡ Ok (line.Step s) → GoesOn Free (l ∷ xs) → GoesOn Free xs
step-back s l xs r g = let f = free-back l xs (line.Step s) r g in record { more = g.more; steps = f.0; says = f.1 }

answered-goes : (v : Verb) (done : List (List ℕ)) (l t : List ℕ) (xs : List (List ℕ)) → l ≡ marked t → is_some (answer_of_line t) ≡ true → GoesOn (Answered v (done ++ t ∷ [])) xs → GoesOn (Answered v done) (l ∷ xs)
answered-goes v done l t xs m a g =
    let q = g.says in
    record {
      more = g.more;
      steps = g.steps;
      says = record {
        texts = t ∷ q.texts;
        after = q.after;
        rest = q.rest;
        are = q.are ∙ ap (λ ys. Spoken v ys ∷ q.after) (append_assoc done (t ∷ []) q.texts);
        cut = ap (λ (x : List ℕ). x ∷ (xs ++ g.more)) m ∙ ap (λ (ys : List (List ℕ)). marked t ∷ ys) q.cut;
        answers = (a, q.answers);
        says = q.says;
      };
    }

owed-goes : (v : Verb) (l t : List ℕ) (xs : List (List ℕ)) → l ≡ marked t → is_some (answer_of_line t) ≡ true → GoesOn (Answered v (t ∷ [])) xs → GoesOn (Owed v) (l ∷ xs)
unfolding answered-goes
owed-goes v l t xs m a g = let h = answered-goes v [] l t xs m a g in record { more = h.more; steps = h.steps; says = (h.says, omega arith) }

-- the line of an answer that goes on is this one
line-back : (v : Verb) (done : List (List ℕ)) (l t : List ℕ) (rest : List (List ℕ)) → l ≡ marked t → IsAnswerLine v done l rest → (is_some (answer_of_line t) ≡ true) × (ts : List Traced) × IsSpoken v (done ++ t ∷ []) ts rest
line-back v done l t rest m a =
    let is : a.text ≡ t = same-text a.text t (sym a.is ∙ m) in
    (ap (λ x. is_some (answer_of_line x)) (sym is) ∙ a.answers, a.steps, subst (λ (x : List ℕ). IsSpoken v (done ++ x ∷ []) a.steps rest) is a.says)

no-other : (l t : List ℕ) (ts : List Traced) (rest : List (List ℕ)) → l ≡ marked t → AreLinesOf ts (l ∷ rest) → ⊥
no-other l t ts rest m a =
    let o = first-other ts l rest a in
    let none : answer_text l ≡ None = not-marked l o.said o.reads in
    let some : answer_text l ≡ Some t = ap answer_text m ∙ marked-text t in
    cc

answered-back : (v : Verb) (done : List (List ℕ)) (l t : List ℕ) (xs : List (List ℕ)) → l ≡ marked t → GoesOn (Answered v done) (l ∷ xs) → (is_some (answer_of_line t) ≡ true) × GoesOn (Answered v (done ++ t ∷ [])) xs
answered-back v done l t xs m g = elim (first-spoken v done g.steps l (xs ++ g.more) g.says g.says.texts refl) [
  | inl a ↦ let b = line-back v done l t (xs ++ g.more) m a in (b.0, record { more = g.more; steps = b.1; says = b.2 })
  | inr o ↦ absurd (no-other l t g.says.after (xs ++ g.more) m o.1)
]

owed-back : (v : Verb) (l : List ℕ) (xs : List (List ℕ)) → GoesOn (Owed v) (l ∷ xs) → (t : List ℕ) × (l ≡ marked t) × (is_some (answer_of_line t) ≡ true) × GoesOn (Answered v (t ∷ [])) xs
owed-back v l xs g = elim (first-spoken v [] g.steps l (xs ++ g.more) g.says.0 g.says.0.texts refl) [
  | inl a ↦ (a.text, a.is, a.answers, record { more = g.more; steps = a.steps; says = a.says })
  | inr o ↦ let n = ap length o.0 in absurd (omega (arith, n, g.says.1))
]

free-goes : (v : Verb) (done ls : List (List ℕ)) → GoesOn Free ls → GoesOn (Answered v done) ls
free-goes v done ls g = record {
  more = g.more;
  steps = Spoken v done ∷ g.steps;
  says = record { texts = []; after = g.steps; rest = ls ++ g.more; are = ap (λ xs. Spoken v xs ∷ g.steps) (sym (append-nil done)); cut = refl; answers = tt; says = g.says };
}

unmarked-back : (v : Verb) (done : List (List ℕ)) (l : List ℕ) (xs : List (List ℕ)) → answer_text l ≡ None → GoesOn (Answered v done) (l ∷ xs) → GoesOn Free (l ∷ xs)
unmarked-back v done l xs n g = elim (first-spoken v done g.steps l (xs ++ g.more) g.says g.says.texts refl) [
  | inl a ↦
      let some : answer_text l ≡ Some a.text = ap answer_text a.is ∙ marked-text a.text in
      let no_text : None ≡ Some a.text = sym n ∙ some in
      absurd (cc)
  | inr o ↦ record { more = g.more; steps = g.says.after; says = o.1 }
]

-- ---- the first bad line

record IsBad (p : Place) (ps : List (List ℕ)) (k n : ℕ) : Type 0 where
  prefix : List (List ℕ)
  here : List ℕ
  rest : List (List ℕ)
  are : ps ≡ prefix ++ here ∷ rest
  number : n ≡ k + length prefix
  goes : GoesOn p prefix
  stops : 1 ≤ length rest → GoesOn p (prefix ++ here ∷ []) → ⊥

bad-here : (p : Place) (l : List ℕ) (behind : List (List ℕ)) (k n : ℕ) → k ≡ n → (GoesOn p (l ∷ []) → ⊥) → IsBad p (l ∷ behind) k n
bad-here p l behind k n e h = record { prefix = []; here = l; rest = behind; are = refl; number = omega arith; goes = can-end p; stops = λ s g. h g }

bad-later : (p q : Place) (l : List ℕ) (behind : List (List ℕ)) (k n : ℕ) → ((xs : List (List ℕ)) → GoesOn q xs → GoesOn p (l ∷ xs)) → ((xs : List (List ℕ)) → GoesOn p (l ∷ xs) → GoesOn q xs) → IsBad q behind (k + 1) n → IsBad p (l ∷ behind) k n
bad-later p q l behind k n on back b = record {
  prefix = l ∷ b.prefix;
  here = b.here;
  rest = b.rest;
  are = ap (λ (xs : List (List ℕ)). l ∷ xs) b.are;
  number = omega (arith, b.number);
  goes = on b.prefix b.goes;
  stops = λ s g. b.stops s (back (b.prefix ++ b.here ∷ []) g);
}

abbrev err-at : ℕ → Offence → Reading
err-at k o = Err (k, o)

err-number : (k n : ℕ) (o e : Offence) → err-at k o ≡ err-at n e → k ≡ n
err-number k n o e h = let q : (k, o) ≡ (n, e) = cc in ap (λ (x : ℕ × Offence). x.0) q

bad-line : (k : ℕ) (l : List ℕ) (behind : List (List ℕ)) (n : ℕ) (e : Offence) → ((q : Place) (m : ℕ) (o : Offence) → trace_from behind q (k + 1) ≡ Err (m, o) → IsBad q behind (k + 1) m) → (r : Result TraceLine Offence) → traced_reading l ≡ r → 1 ≤ length behind → by_line k behind (λ q. trace_from behind q (k + 1)) r ≡ Err (n, e) → IsBad Free (l ∷ behind) k n
bad-line k l behind n e ih (Ok (line.Verb v)) r some h = bad-later Free (Owed v) l behind k n (λ xs. verb-goes v l xs r) (λ xs. verb-back v l xs r) (ih (Owed v) n e h)
bad-line k l behind n e ih (Ok (line.Step s)) r some h = by (trace_from behind Free (k + 1)) refl h
  where
    by : (x : Reading) → trace_from behind Free (k + 1) ≡ x → before (Made s) x ≡ Err (n, e) → IsBad Free (l ∷ behind) k n
    by (Ok ts) q g = cc
    by (Err o) q g = let is : o ≡ (n, e) = cc in bad-later Free Free l behind k n (λ xs. step-goes s l xs r) (λ xs. step-back s l xs r) (ih Free n e (q ∙ ap Err is))
bad-line k l [] n e ih (Ok line.End) r some h = absurd (omega arith)
bad-line k l (next ∷ more) n e ih (Ok line.End) r some h = record {
  prefix = l ∷ [];
  here = next;
  rest = more;
  are = refl;
  number = number more h;
  goes = record { more = []; steps = []; says = (l, refl, r) };
  stops = λ s g. let f = free-back l (next ∷ []) line.End r g in let z = ap length f in absurd (omega (arith, z));
}
  where
    number : (more : List (List ℕ)) → ended k (next ∷ more) ≡ Err (n, e) → n ≡ k + length (l ∷ [])
    number (x ∷ xs) g = let q = err-number (k + 1) n (offence 1 line_why.Extra) e g in omega arith
    number [] g = by (length next == 0) g
      where
        by : (b : Bool) → (if b then Ok [] else bad (k + 1) 1 line_why.Extra) ≡ Err (n, e) → n ≡ k + length (l ∷ [])
        by true q = cc
        by false q = let m = err-number (k + 1) n (offence 1 line_why.Extra) e q in omega arith
bad-line k l behind n e ih (Err o) r some h = bad-here Free l behind k n (err-number k n o e h) (λ g. let x = first-other g.steps l ([] ++ g.more) g.says in unsaid x.said (sym r ∙ x.reads))
  where
    unsaid : (x : TraceLine) → Err o ≡ Ok x → ⊥
    unsaid x q = cc

bad-next : (p : Place) (k : ℕ) (l : List ℕ) (behind : List (List ℕ)) (n : ℕ) (e : Offence) → ((q : Place) (m : ℕ) (o : Offence) → trace_from behind q (k + 1) ≡ Err (m, o) → IsBad q behind (k + 1) m) → 1 ≤ length behind → by_place p k l behind (λ q. trace_from behind q (k + 1)) ≡ Err (n, e) → IsBad p (l ∷ behind) k n
bad-next Free k l behind n e ih some h = bad-line k l behind n e ih (traced_reading l) refl some h
bad-next (Owed v) k l behind n e ih some h = by (answer_text l) refl h
  where
    by-answer : (t : List ℕ) → answer_text l ≡ Some t → (b : Bool) → is_some (answer_of_line t) ≡ b → (if b then trace_from behind (Answered v (t ∷ [])) (k + 1) else bad k 1 line_why.Word) ≡ Err (n, e) → IsBad (Owed v) (l ∷ behind) k n
    by-answer t m true a g = bad-later (Owed v) (Answered v (t ∷ [])) l behind k n (λ xs. owed-goes v l t xs (text-marked l t m) a) (λ xs x. let b = owed-back v l xs x in subst (λ (y : List ℕ). GoesOn (Answered v (y ∷ [])) xs) (same-text b.0 t (sym b.1 ∙ text-marked l t m)) b.3) (ih (Answered v (t ∷ [])) n e g)
    by-answer t m false a g = bad-here (Owed v) l behind k n (err-number k n (offence 1 line_why.Word) e g) (λ x. let b = owed-back v l [] x in let q = ap (λ y. is_some (answer_of_line y)) (same-text b.0 t (sym b.1 ∙ text-marked l t m)) in let z : false ≡ true = sym a ∙ sym q ∙ b.2 in absurd (cc))

    by : (o : Option (List ℕ)) → answer_text l ≡ o → by_mark (Owed v) k l behind (λ q. trace_from behind q (k + 1)) o ≡ Err (n, e) → IsBad (Owed v) (l ∷ behind) k n
    by None m g = bad-here (Owed v) l behind k n (err-number k n (offence 1 line_why.Word) e g) (λ x. let b = owed-back v l [] x in let z : None ≡ Some b.0 = sym m ∙ ap answer_text b.1 ∙ marked-text b.0 in absurd (cc))
    by (Some t) m g = by-answer t m (is_some (answer_of_line t)) refl g
bad-next (Answered v done) k l behind n e ih some h = by (answer_text l) refl h
  where
    over : answer_text l ≡ None → IsBad Free (l ∷ behind) k n → IsBad (Answered v done) (l ∷ behind) k n
    over m b = record { prefix = b.prefix; here = b.here; rest = b.rest; are = b.are; number = b.number; goes = free-goes v done b.prefix b.goes; stops = λ s g. b.stops s (back b.prefix b.are g) }
      where
        back : (prefix : List (List ℕ)) → l ∷ behind ≡ prefix ++ b.here ∷ b.rest → GoesOn (Answered v done) (prefix ++ b.here ∷ []) → GoesOn Free (prefix ++ b.here ∷ [])
        back [] q g = let i : l ≡ b.here = cc in unmarked-back v done b.here [] (ap answer_text (sym i) ∙ m) g
        back (x ∷ xs) q g = let i : l ≡ x = cc in unmarked-back v done x (xs ++ b.here ∷ []) (ap answer_text (sym i) ∙ m) g

    by-answer : (t : List ℕ) → answer_text l ≡ Some t → (b : Bool) → is_some (answer_of_line t) ≡ b → (if b then trace_from behind (Answered v (done ++ t ∷ [])) (k + 1) else bad k 1 line_why.Word) ≡ Err (n, e) → IsBad (Answered v done) (l ∷ behind) k n
    by-answer t m true a g = bad-later (Answered v done) (Answered v (done ++ t ∷ [])) l behind k n (λ xs. answered-goes v done l t xs (text-marked l t m) a) (λ xs x. (answered-back v done l t xs (text-marked l t m) x).1) (ih (Answered v (done ++ t ∷ [])) n e g)
    by-answer t m false a g = bad-here (Answered v done) l behind k n (err-number k n (offence 1 line_why.Word) e g) (λ x. let q = (answered-back v done l t [] (text-marked l t m) x).0 in let z : false ≡ true = sym a ∙ q in absurd (cc))

    by-line : (r : Reading) → by_line k behind (λ q. trace_from behind q (k + 1)) (traced_reading l) ≡ r → before (Spoken v done) r ≡ Err (n, e) → IsBad Free (l ∷ behind) k n
    by-line (Ok ts) q g = cc
    by-line (Err o) q g = let is : o ≡ (n, e) = cc in bad-line k l behind n e ih (traced_reading l) refl some (q ∙ ap Err is)

    by : (o : Option (List ℕ)) → answer_text l ≡ o → by_mark (Answered v done) k l behind (λ q. trace_from behind q (k + 1)) o ≡ Err (n, e) → IsBad (Answered v done) (l ∷ behind) k n
    by None m g = over m (by-line (by_line k behind (λ q. trace_from behind q (k + 1)) (traced_reading l)) refl g)
    by (Some t) m g = by-answer t m (is_some (answer_of_line t)) refl g

-- the last piece
last-number : (owed : Bool) (k : ℕ) (l : List ℕ) → (unfinished owed k l).0 ≡ k
last-number true k l = refl
last-number false k l = by (length l == 0) (traced_reading l)
  where
    by : (b : Bool) (r : Result TraceLine Offence) → (if b then (k, offence 1 line_why.Missing) else unfinished_line k l r).0 ≡ k
    by true r = refl
    by false (Ok x) = refl
    by false (Err o) = refl

bad-from : (ps : List (List ℕ)) (p : Place) (k n : ℕ) (e : Offence) → 1 ≤ length ps → trace_from ps p k ≡ Err (n, e) → IsBad p ps k n
unfolding trace_from
bad-from [] p k n e some h = absurd (omega arith)
bad-from (last ∷ []) p k n e some h =
    let q : unfinished (is_owed p) k last ≡ (n, e) = cc in
    let m : k ≡ n = sym (last-number (is_owed p) k last) ∙ ap (λ (x : ℕ × Offence). x.0) q in
    record { prefix = []; here = last; rest = []; are = refl; number = omega arith; goes = can-end p; stops = λ s g. absurd (omega arith) }
bad-from (l ∷ next ∷ more) p k n e some h = bad-next p k l (next ∷ more) n e (λ q m o g. bad-from (next ∷ more) q (k + 1) m o (omega arith) g) (omega arith) h

pub first-is-named : (bs : List ℕ) (k : ℕ) (e : Offence) → trace_of bs ≡ Err (k, e) → IsFirstBad bs k
unfolding trace_of
first-is-named bs k e h =
    let b = bad-from (slice_split is_newline bs) Free 1 k e (omega (arith, length-slice_split is_newline bs)) h in
    record {
      prefix = b.prefix;
      here = b.here;
      rest = b.rest;
      cut = b.are;
      number = omega (arith, b.number);
      goes_on = (b.goes.more, b.goes.steps, b.goes.says);
      stops = λ s g. b.stops s (record { more = g.0; steps = g.1; says = g.2 });
    }
