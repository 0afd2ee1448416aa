-- Numbers and lists of ends.
use Rattle.std.proofs.Common.{◌≡◌, ◌∙◌, ◌<◌, ◌+◌, ℕ, suc, List, [], ◌∷◌, ◌++◌, ◌⊎◌, inl, inr, Bool, true, false, ◌&&◌, ◌||◌, Option, None, Some, Result, Ok, Err, option_map, drop, drop_of_length-le, subst, ◌≤◌, get_or, length, map, flat_map, nat_eq, refl, sym, ap, add-one, drop-cons, if◌then◌else◌}
use Rattle.context_core.specs.declared.lives.LinkView.{LinkView}
use Rattle.context_core.specs.declared.lives.LiveEnd.{LiveEnd}
use Rattle.context_core.specs.Links.{link_view, live_end}
use Rattle.device_core.specs.Readings.{end_named, live_ends, mark_pair, marks_at}
use Rattle.indexmap.specs.IndexMap.{insert_entry}
use Rattle.node_rules.specs.Node.{connected, connected_in, connected_of, if_connected, number_at}
use Rattle.node_rules.specs.Serve.{dated, number_if}
use Rattle.protocol.specs.DeviceStep.{Found, found_in}
use Rattle.protocol.specs.Readers.{marks_by, marks_of, view_by, view_of}
use Rattle.protocol.specs.Refusals.{has_context, has_end}
use Rattle.protocol.specs.State.{Context, Device, End, Link, context_at, end_at, no_context, no_end}
use Rattle.rdma_types.specs.declared.answers.EndView.{EndView}
use Rattle.rdma_types.specs.declared.names.Name.{Name}
use Rattle.rdma_types.specs.declared.names.ObjName.{ObjName}
use Rattle.rdma_types.specs.Lists.{has_name, named}
use Rattle.std.specs.Prelude.{bytes_eq}
use Rattle.std.specs.Result.{IfOk, OnOk}
use Rattle.node_engine.specs.Names.{name_if, names_of}

-- ---- the number of an end

-- the number of a view is that of its end
view_by_number : (o : ObjName) (e : End) (l : Option Link) → (view_by o e l).number ≡ e.number
view_by_number o e None = refl
view_by_number o e (Some l) = refl

view_number : (c : Context) (e : End) → (view_of c e).number ≡ e.number
unfolding view_of
view_number c e = view_by_number (record { context = c.name; name = e.name }) e e.link

chosen : (b : Bool) (x v : EndView) → Some v ≡ (if b then Some x else None) → v ≡ x
chosen true x v h = cc h
chosen false x v h = cc h

not_chosen : (b : Bool) (x : EndView) → None ≡ (if b then Some x else None) → b ≡ false
not_chosen true x h = cc h
not_chosen false x h = refl

-- a view that is told of an end has its number
pub named_number : (d : Device) (o : ObjName) (v : EndView) → Some v ≡ end_named d o → v.number ≡ number_at d o
unfolding end_named
named_number d o v h =
    let view : EndView = view_of (context_at d o.context) (end_at (context_at d o.context) o.name) in
    ap (λ (x : EndView). x.number) (chosen (has_context d o.context && has_end (context_at d o.context) o.name) view v h) ∙ view_number (context_at d o.context) (end_at (context_at d o.context) o.name)

absent_if : {A : Type 0} (b : Bool) (x rest none : A) (h : Bool) → (b || h) ≡ false → (h ≡ false → rest ≡ none) → (if b then x else rest) ≡ none
absent_if true x rest none h e f = cc e
absent_if false x rest none h e f = f e

-- what is not there is not found
absent : {A : Type 0} (name : A → Name) (none : A) (n : Name) (xs : List A) → has_name name n xs ≡ false → named name none n xs ≡ none
unfolding has_name named
absent name none n [] e = refl
absent name none n (x ∷ xs) e = absent_if (bytes_eq (name x) n) x (named name none n xs) none (has_name name n xs) e (absent name none n xs)

one_false : (a b : Bool) → (a && b) ≡ false → (a ≡ false) ⊎ (b ≡ false)
one_false true b e = inr e
one_false false b e = inl refl

no_end_in : (o : ObjName) → (end_at no_context o.name).number ≡ 0
unfolding named
no_end_in o = refl

-- an end that is not there has the number 0
pub no_number : (d : Device) (o : ObjName) → None ≡ end_named d o → 0 ≡ number_at d o
unfolding end_named
no_number d o h =
    let view : EndView = view_of (context_at d o.context) (end_at (context_at d o.context) o.name) in
    let none : (has_context d o.context && has_end (context_at d o.context) o.name) ≡ false = not_chosen (has_context d o.context && has_end (context_at d o.context) o.name) view h in
    elim (one_false (has_context d o.context) (has_end (context_at d o.context) o.name) none) [
      | inl e ↦ sym (ap (λ (c : Context). (end_at c o.name).number) (absent (λ (c : Context). c.name) no_context o.context d.contexts e) ∙ no_end_in o)
      | inr e ↦ sym (ap (λ (x : End). x.number) (absent (λ (x : End). x.name) no_end o.name (context_at d o.context).ends e))
    ]

-- ---- the end to which a packet goes

some_marks : (fs : List Found) (n : ℕ) (m : ℕ × ℕ) → Some m ≡ option_map mark_pair (marks_by fs) → n ∷ [] ≡ number_if fs n
some_marks [] n m h = cc h
some_marks (f ∷ fs) n m h = refl

no_marks : (fs : List Found) (n : ℕ) → None ≡ option_map mark_pair (marks_by fs) → [] ≡ number_if fs n
no_marks [] n h = refl
no_marks (f ∷ fs) n h = cc h

-- it is there where it has marks
pub marked : (d : Device) (n : ℕ) (m : ℕ × ℕ) → Some m ≡ marks_at d n → n ∷ [] ≡ number_if (found_in n d.contexts) n
unfolding marks_of
marked d n m h = some_marks (found_in n d.contexts) n m h

pub unmarked : (d : Device) (n : ℕ) → None ≡ marks_at d n → [] ≡ number_if (found_in n d.contexts) n
unfolding marks_of
unmarked d n h = no_marks (found_in n d.contexts) n h

-- ---- connected ends

name_if_append : (o : ObjName) (l : Option LinkView) (a b : List ObjName) → name_if o l (a ++ b) ≡ name_if o l a ++ b
name_if_append o None a b = refl
name_if_append o (Some l) a b = refl

names_append : (xs ys : List LiveEnd) → names_of (xs ++ ys) ≡ names_of xs ++ names_of ys
names_append [] ys = refl
names_append (x ∷ xs) ys = ap (λ ns. name_if x.name x.link ns) (names_append xs ys) ∙ name_if_append x.name x.link (names_of xs) (names_of ys)

same_if : (o : ObjName) (l : Option Link) (a b : List ObjName) → a ≡ b → name_if o (option_map link_view l) a ≡ if_connected o l b
same_if o None a b e = e
same_if o (Some l) a b e = ap (λ ns. o ∷ ns) e

of_context : (c : Context) (es : List End) → names_of (map (live_end c) es) ≡ connected_of c es
unfolding connected_of
of_context c [] = refl
of_context c (e ∷ es) = same_if (record { context = c.name; name = e.name }) e.link (names_of (map (live_end c) es)) (connected_of c es) (of_context c es)

of_contexts : (cs : List Context) → names_of (flat_map (λ c. map (live_end c) c.ends) cs) ≡ connected_in cs
unfolding connected_in
of_contexts [] = refl
of_contexts (c ∷ cs) =
    names_append (map (live_end c) c.ends) (flat_map (λ (x : Context). map (live_end x) x.ends) cs)
    ∙ ap (λ ns. ns ++ names_of (flat_map (λ (x : Context). map (live_end x) x.ends) cs)) (of_context c c.ends)
    ∙ ap (λ ns. connected_of c c.ends ++ ns) (of_contexts cs)

-- the names of the connected ends among all live ones
pub names_of_live : (d : Device) (live : List LiveEnd) → live ≡ [] ++ live_ends d → names_of live ≡ connected d
names_of_live d live h = ap names_of h ∙ of_contexts d.contexts

-- ---- dates

-- one more is dated
pub dated_on : (now : ℕ) (xs : List ℕ) (i x : ℕ) (ms ms' : List (ℕ × ℕ)) → i < length xs → x ≡ get_or xs i 0 → ms' ≡ insert_entry nat_eq ms x now → dated now (drop (i + 1) xs) ms' ≡ dated now (drop i xs) ms
dated_on now xs i x ms ms' h e f =
    rw (add-one, drop-cons xs i 0) (ap (λ m. dated now (drop (suc i) xs) m) (f ∙ ap (λ y. insert_entry nat_eq ms y now) e))

-- all are dated
pub all_dated : (now : ℕ) (xs : List ℕ) (i : ℕ) (before ms : List (ℕ × ℕ)) → length xs ≤ i → dated now (drop i xs) ms ≡ dated now xs before → ms ≡ dated now xs before
all_dated now xs i before ms h e = subst (λ ys. dated now ys ms ≡ dated now xs before) (drop_of_length-le xs h) e

-- where all ends were pushed, their names are listed
pub names_on_ok : {E : Type 0} {U : Type 0} (d : Device) (old live : List LiveEnd) (r : Result U E) → old ≡ [] → IfOk r (λ x. live ≡ old ++ live_ends d) → OnOk r (names_of live ≡ connected d)
names_on_ok d old live (Ok x) e h = names_of_live d live (h ∙ ap (λ es. es ++ live_ends d) e)
names_on_ok d old live (Err e') e h = tt
