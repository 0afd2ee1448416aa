-- Steps of a node and their datagrams, turns, and lines, as parts of a plan.
use Rattle.std.proofs.Common.{◌≡◌, ◌∙◌, ◌+◌, ◌-◌, ◌<◌, ◌≤◌, ℕ, suc, List, [], ◌∷◌, Option, None, Some, Result, Ok, Err, length, drop, get_or, sym, ap, subst, add-one, drop-cons, drop_of_length-le, arith}
use Rattle.node_rules.specs.Node.{Node, node_after, node_outcome, sending, stepping}
use Rattle.node_rules.specs.Parts.{Comes, IsMadeWhole}
use Rattle.node_rules.specs.Plan as plan
use Rattle.node_rules.specs.Plan.{Plan}
use Rattle.node_rules.specs.Script.{lines_do, reading_does}
use Rattle.node_rules.specs.Serve.{expiring, transmitting, turn, turns}
use Rattle.node_rules.specs.Stops.{StopsAt}
use Rattle.node_rules.specs.Told.{Contents}
use Rattle.node_rules.proofs.Joining.{comes_nowhere, comes_on}
use Rattle.context_core.specs.declared.lives.LinkView.{LinkView}
use Rattle.context_core.specs.declared.lives.LiveEnd.{LiveEnd}
use Rattle.protocol.specs.declared.events.Event.{Event}
use Rattle.protocol.specs.declared.images.Outcome.{Outcome}
use Rattle.rdma_types.specs.declared.answers.Sent.{Sent}
use Rattle.rdma_types.specs.declared.names.ObjName.{ObjName}
use Rattle.script_lang.specs.Lines.{node_reading_of}
use Rattle.node_engine.specs.Answered.{Does, stop_of}
use Rattle.node_engine.specs.Names.{name_if, names_of, stepping_pair}
use Rattle.node_engine.specs.declared.faults.NodeFault.{NodeFault}
use Rattle.node_engine.proofs.Parts.{Fails, fails_first, fails_on, second}

-- ---- lists

-- the next element of a list
pub next_of : {A : Type 0} (xs : List A) (i : ℕ) (x : A) → i < length xs → x ≡ get_or xs i x → drop i xs ≡ x ∷ drop (i + 1) xs
next_of xs i x h e = rw (add-one, drop-cons xs i x) (ap (λ y. y ∷ drop (suc i) xs) (sym e))

-- .. none is left
pub none_left : {A : Type 0} (xs : List A) (i : ℕ) → length xs ≤ i → drop i xs ≡ []
none_left xs i h = drop_of_length-le xs h

-- the value is that one
pub gives : {A : Type 0} (x y : A) (t : Contents) → y ≡ x → IsMadeWhole (λ more. more x) y t t
gives x y t e = subst (λ z. Comes (λ more. more x) (λ more. more z) t t) (sym e) (comes_nowhere (λ more. more x) t)

-- ---- datagrams

-- one more is sent
pub sending_next : (xs : List Sent) (i : ℕ) (x : Sent) (bytes : List ℕ) (t t' : Contents) → i < length xs → x ≡ get_or xs i x → bytes ≡ x.bytes → IsMadeWhole {A = Unit {0}} (λ more. plan.Sends (x.to, bytes) (more tt)) tt t t' → Comes {A = Unit {0}} (λ more. sending (drop i xs) (more tt)) (λ more. sending (drop (i + 1) xs) (more tt)) t t'
sending_next xs i x bytes t t' h e eb a =
    let rest = drop (i + 1) xs in
    let one : Comes {A = Unit {0}} (λ more. plan.Sends (x.to, x.bytes) (sending rest (more tt))) (λ more. sending rest (more tt)) t t' =
    subst (λ bs. Comes {A = Unit {0}} (λ more. plan.Sends (x.to, bs) (sending rest (more tt))) (λ more. sending rest (more tt)) t t') eb
    (record { calls = a.calls; leads = λ more. a.leads (λ u. sending rest (more tt)); tells = a.tells }) in
    subst (λ ys. Comes {A = Unit {0}} (λ more. sending ys (more tt)) (λ more. sending rest (more tt)) t t') (sym (next_of xs i x h e)) one

-- one more is not sent
pub sending_fails : (xs : List Sent) (i : ℕ) (x : Sent) (bytes : List ℕ) (f : NodeFault) (t t' : Contents) → i < length xs → x ≡ get_or xs i x → bytes ≡ x.bytes → Fails {A = Unit {0}} (λ more. plan.Sends (x.to, bytes) (more tt)) f t t' → Fails {A = Unit {0}} (λ more. sending (drop i xs) (more tt)) f t t'
sending_fails xs i x bytes f t t' h e eb a =
    let rest = drop (i + 1) xs in
    let one : Fails {A = Unit {0}} (λ more. plan.Sends (x.to, x.bytes) (sending rest (more tt))) f t t' =
    subst (λ bs. Fails {A = Unit {0}} (λ more. plan.Sends (x.to, bs) (sending rest (more tt))) f t t') eb (λ more. a (λ u. sending rest (more tt))) in
    subst (λ ys. Fails {A = Unit {0}} (λ more. sending ys (more tt)) f t t') (sym (next_of xs i x h e)) one

-- all are sent
pub all_sent : (xs : List Sent) (i : ℕ) (t t' : Contents) → length xs ≤ i → Comes {A = Unit {0}} (λ more. sending xs (more tt)) (λ more. sending (drop i xs) (more tt)) t t' → IsMadeWhole {A = Unit {0}} (λ more. sending xs (more tt)) tt t t'
all_sent xs i t t' h a = subst (λ ys. Comes {A = Unit {0}} (λ more. sending xs (more tt)) (λ more. sending ys (more tt)) t t') (none_left xs i h) a

-- ---- steps

-- an event is stepped
pub step_made : (v : Node) (ev : Event) (m : Node) (o : Outcome) (sent : List Sent) (t t' : Contents) → m ≡ node_after v ev → o ≡ node_outcome v ev → sent ≡ o.sent → IsMadeWhole {A = Unit {0}} (λ more. sending sent (more tt)) tt t t' → IsMadeWhole (stepping_pair v ev) (m, o) t t'
step_made v ev m o sent t t' em eo es a =
    let whole : IsMadeWhole (stepping_pair v ev) (node_after v ev, node_outcome v ev) t t' = record {
      calls = a.calls;
      leads = λ (more : (Node × Outcome) → Plan). subst (λ (ss : List Sent). plan.Leads (sending ss (more (node_after v ev, node_outcome v ev))) a.calls (more (node_after v ev, node_outcome v ev))) (es ∙ ap (λ (x : Outcome). x.sent) eo) (a.leads (λ u. more (node_after v ev, node_outcome v ev)));
      tells = a.tells;
    } in
    let same : (node_after v ev, node_outcome v ev) ≡ (m, o) = ap (λ (n : Node). let p : Node × Outcome = (n, node_outcome v ev) in p) (sym em) ∙ ap (λ (x : Outcome). let p : Node × Outcome = (m, x) in p) (sym eo) in
    subst (λ (p : Node × Outcome). IsMadeWhole (stepping_pair v ev) p t t') same whole

-- its datagrams are not sent
pub step_stops : (v : Node) (ev : Event) (o : Outcome) (sent : List Sent) (f : NodeFault) (t t' : Contents) → o ≡ node_outcome v ev → sent ≡ o.sent → Fails {A = Unit {0}} (λ more. sending sent (more tt)) f t t' → Fails (stepping_pair v ev) f t t'
step_stops v ev o sent f t t' eo es h =
    λ (more : (Node × Outcome) → Plan). subst (λ (ss : List Sent). StopsAt (stop_of f) (sending ss (more (node_after v ev, node_outcome v ev))) t t') (es ∙ ap (λ (x : Outcome). x.sent) eo) (h (λ u. more (node_after v ev, node_outcome v ev)))

module _ (v : Node) (ev : Event) (next : Node → Outcome → (Node → Plan) → Plan) where
  -- an event is stepped, and then what follows it
  pub step_comes : (m : Node) (o : Outcome) (t t' : Contents) → IsMadeWhole (stepping_pair v ev) (m, o) t t' → Comes (λ more. stepping v ev (λ n x. next n x more)) (next m o) t t'
  step_comes m o t t' a = record { calls = a.calls; leads = λ more. a.leads (λ p. next p.0 p.1 more); tells = a.tells }

  pub step_then : {U : Type 0} (m : Node) (o : Outcome) (value : U → Node) (t t' t'' : Contents) (r : Result U NodeFault) → IsMadeWhole (stepping_pair v ev) (m, o) t t' → Does (next m o) value t' r t'' → Does (λ more. stepping v ev (λ n x. next n x more)) value t r t''
  step_then m o value t t' t'' (Ok u) a b = comes_on (λ more. stepping v ev (λ n x. next n x more)) (next m o) (λ more. more (value u)) t t' t'' (step_comes m o t t' a) b
  step_then m o value t t' t'' (Err e) a b = fails_on (λ more. stepping v ev (λ n x. next n x more)) (next m o) e t t' t'' (step_comes m o t t' a) b

  -- it fails
  pub step_fails : (f : NodeFault) (t t' : Contents) → Fails (stepping_pair v ev) f t t' → Fails (λ more. stepping v ev (λ n x. next n x more)) f t t'
  step_fails f t t' h = λ more. h (λ p. next p.0 p.1 more)

-- ---- connected ends

transmitting_past : (o : ObjName) (l : Option LinkView) (rest : List ObjName) (v w : Node) (t t' : Contents) → IsMadeWhole (transmitting (name_if o l []) v) w t t' → Comes (transmitting (name_if o l rest) v) (transmitting rest w) t t'
transmitting_past o None rest v w t t' a = second (transmitting [] v) (λ x. transmitting rest x) w t t' a
transmitting_past o (Some l) rest v w t t' a = second (transmitting (o ∷ []) v) (λ x. transmitting rest x) w t t' a

transmitting_stops : (o : ObjName) (l : Option LinkView) (rest : List ObjName) (v : Node) (f : NodeFault) (t t' : Contents) → Fails (transmitting (name_if o l []) v) f t t' → Fails (transmitting (name_if o l rest) v) f t t'
transmitting_stops o None rest v f t t' a = fails_first (transmitting [] v) (λ x. transmitting rest x) f t t' a
transmitting_stops o (Some l) rest v f t t' a = fails_first (transmitting (o ∷ []) v) (λ x. transmitting rest x) f t t' a

-- the next end may send
pub transmitting_next : (live : List LiveEnd) (i : ℕ) (e : LiveEnd) (v w : Node) (t t' : Contents) → i < length live → e ≡ get_or live i e → IsMadeWhole (transmitting (name_if e.name e.link []) v) w t t' → Comes (transmitting (names_of (drop i live)) v) (transmitting (names_of (drop (i + 1) live)) w) t t'
transmitting_next live i e v w t t' h same a =
    subst (λ (es : List LiveEnd). Comes (transmitting (names_of es) v) (transmitting (names_of (drop (i + 1) live)) w) t t') (sym (next_of live i e h same))
    (transmitting_past e.name e.link (names_of (drop (i + 1) live)) v w t t' a)

pub transmitting_fails : (live : List LiveEnd) (i : ℕ) (e : LiveEnd) (v : Node) (f : NodeFault) (t t' : Contents) → i < length live → e ≡ get_or live i e → Fails (transmitting (name_if e.name e.link []) v) f t t' → Fails (transmitting (names_of (drop i live)) v) f t t'
transmitting_fails live i e v f t t' h same a =
    subst (λ (es : List LiveEnd). Fails (transmitting (names_of es) v) f t t') (sym (next_of live i e h same))
    (transmitting_stops e.name e.link (names_of (drop (i + 1) live)) v f t t' a)

-- all ends had their turn
pub all_transmitted : (live : List LiveEnd) (i : ℕ) (v w : Node) (t t' : Contents) → length live ≤ i → Comes (transmitting (names_of live) v) (transmitting (names_of (drop i live)) w) t t' → IsMadeWhole (transmitting (names_of live) v) w t t'
all_transmitted live i v w t t' h a = subst (λ (es : List LiveEnd). Comes (transmitting (names_of live) v) (transmitting (names_of es) w) t t') (none_left live i h) a

expiring_past : (now : ℕ) (o : ObjName) (l : Option LinkView) (rest : List ObjName) (v w : Node) (t t' : Contents) → IsMadeWhole (expiring now (name_if o l []) v) w t t' → Comes (expiring now (name_if o l rest) v) (expiring now rest w) t t'
expiring_past now o None rest v w t t' a = second (expiring now [] v) (λ x. expiring now rest x) w t t' a
expiring_past now o (Some l) rest v w t t' a = second (expiring now (o ∷ []) v) (λ x. expiring now rest x) w t t' a

expiring_stops : (now : ℕ) (o : ObjName) (l : Option LinkView) (rest : List ObjName) (v : Node) (f : NodeFault) (t t' : Contents) → Fails (expiring now (name_if o l []) v) f t t' → Fails (expiring now (name_if o l rest) v) f t t'
expiring_stops now o None rest v f t t' a = fails_first (expiring now [] v) (λ x. expiring now rest x) f t t' a
expiring_stops now o (Some l) rest v f t t' a = fails_first (expiring now (o ∷ []) v) (λ x. expiring now rest x) f t t' a

-- the next end expires, where it is due
pub expiring_next : (now : ℕ) (live : List LiveEnd) (i : ℕ) (e : LiveEnd) (v w : Node) (t t' : Contents) → i < length live → e ≡ get_or live i e → IsMadeWhole (expiring now (name_if e.name e.link []) v) w t t' → Comes (expiring now (names_of (drop i live)) v) (expiring now (names_of (drop (i + 1) live)) w) t t'
expiring_next now live i e v w t t' h same a =
    subst (λ (es : List LiveEnd). Comes (expiring now (names_of es) v) (expiring now (names_of (drop (i + 1) live)) w) t t') (sym (next_of live i e h same))
    (expiring_past now e.name e.link (names_of (drop (i + 1) live)) v w t t' a)

pub expiring_fails : (now : ℕ) (live : List LiveEnd) (i : ℕ) (e : LiveEnd) (v : Node) (f : NodeFault) (t t' : Contents) → i < length live → e ≡ get_or live i e → Fails (expiring now (name_if e.name e.link []) v) f t t' → Fails (expiring now (names_of (drop i live)) v) f t t'
expiring_fails now live i e v f t t' h same a =
    subst (λ (es : List LiveEnd). Fails (expiring now (names_of es) v) f t t') (sym (next_of live i e h same))
    (expiring_stops now e.name e.link (names_of (drop (i + 1) live)) v f t t' a)

pub all_expired : (now : ℕ) (live : List LiveEnd) (i : ℕ) (v w : Node) (t t' : Contents) → length live ≤ i → Comes (expiring now (names_of live) v) (expiring now (names_of (drop i live)) w) t t' → IsMadeWhole (expiring now (names_of live) v) w t t'
all_expired now live i v w t t' h a = subst (λ (es : List LiveEnd). Comes (expiring now (names_of live) v) (expiring now (names_of es) w) t t') (none_left live i h) a

-- ---- turns

-- no turn was made yet
pub turns_begin : (n : ℕ) (v : Node) (t : Contents) → Comes (turns n v) (turns (n - 0) v) t t
turns_begin n v t = let e : n ≡ n - 0 = omega arith in subst (λ m. Comes (turns n v) (turns m v) t t) e (comes_nowhere (turns n v) t)

-- one turn more
pub turns_next : (n i : ℕ) (v w : Node) (t t' : Contents) → i < n → IsMadeWhole (turn v) w t t' → Comes (turns (n - i) v) (turns (n - (i + 1)) w) t t'
unfolding turns
turns_next n i v w t t' h a =
    let e : n - i ≡ suc (n - (i + 1)) = omega arith in
    subst (λ m. Comes (turns m v) (turns (n - (i + 1)) w) t t') (sym e) (second (turn v) (λ x. turns (n - (i + 1)) x) w t t' a)

pub turns_fails : (n i : ℕ) (v : Node) (f : NodeFault) (t t' : Contents) → i < n → Fails (turn v) f t t' → Fails (turns (n - i) v) f t t'
unfolding turns
turns_fails n i v f t t' h a =
    let e : n - i ≡ suc (n - (i + 1)) = omega arith in
    subst (λ m. Fails (turns m v) f t t') (sym e) (fails_first (turn v) (λ x. turns (n - (i + 1)) x) f t t' a)

-- all turns were made
pub all_turned : (n i : ℕ) (part : (Node → Plan) → Plan) (w : Node) (t t' : Contents) → n ≤ i → Comes part (turns (n - i) w) t t' → IsMadeWhole part w t t'
unfolding turns
all_turned n i part w t t' h a =
    let e : n - i ≡ 0 = omega arith in
    subst (λ m. Comes part (turns m w) t t') e a

-- ---- lines

-- one line more
pub lines_next : (number : ℕ) (bs : List ℕ) (rest : List (List ℕ)) (v w : Node) (t t' : Contents) → IsMadeWhole (reading_does number v (node_reading_of bs)) w t t' → Comes {A = Unit {0}} (λ more. lines_do number (bs ∷ rest) v) (λ more. lines_do (number + 1) rest w) t t'
unfolding lines_do
lines_next number bs rest v w t t' a = record { calls = a.calls; leads = λ more. a.leads (λ m. lines_do (number + 1) rest m); tells = a.tells }

pub lines_fails : (number : ℕ) (bs : List ℕ) (rest : List (List ℕ)) (v : Node) (f : NodeFault) (t t' : Contents) → Fails (reading_does number v (node_reading_of bs)) f t t' → Fails {A = Unit {0}} (λ more. lines_do number (bs ∷ rest) v) f t t'
unfolding lines_do
lines_fails number bs rest v f t t' a = λ more. a (λ m. lines_do (number + 1) rest m)
