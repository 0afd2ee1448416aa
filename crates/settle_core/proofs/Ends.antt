-- Each end in order, and the parts of a round after another.
use Rattle.std.proofs.Common.{◌≡◌, ◌≤◌, ◌<◌, ◌+◌, ℕ, List, length, map, take, get_or, Bool, true, false, refl, sym, ap, ◌∙◌, Result, Ok, Err}
use Rattle.std.specs.Prelude.{OnOk, if◌then◌else◌}
use Rattle.std.specs.declared.alloc.AllocError.{AllocError}
use Rattle.std.proofs.lemmas.List.{take_all}
use Rattle.rdma_types.specs.declared.names.ObjName.{ObjName}
use Rattle.protocol.specs.State.{World}
use Rattle.protocol.specs.Settle.{Settling, drained, expire_visit, live_names, rnr_visit, round, timers, visited, visiting}
use Rattle.world_core.specs.Lives.{live_list}
use Rattle.context_core.specs.declared.lives.LiveEnd.{LiveEnd}
use Rattle.settle_core.specs.Shown.{Settles, Shows}
use Rattle.settle_core.specs.declared.notes.Notes.{Notes}
use Rattle.settle_core.proofs.Listed.{names_listed}
use Rattle.settle_core.proofs.Visits.{shows_as, visiting-more}

pub both_ok : {T P Q R : Type 0} (r : Result T AllocError) → (P → Q → R) → OnOk r P → OnOk r Q → OnOk r R
both_ok (Ok x) f p q = f p q
both_ok (Err e) f p q = tt

when : {A : Type 0} (b : Bool) (x y : A) → b ≡ true → (if b then x else y) ≡ x
when true x y h = refl
when false x y h = absurd (cc)

unless : {A : Type 0} (b : Bool) (x y : A) → b ≡ false → (if b then x else y) ≡ y
unless true x y h = absurd (cc)
unless false x y h = refl

-- ---- each end in order

pub visits_begin : (visit : Settling → ObjName → Settling) (w : World) (n : Notes) (os : List ObjName) → Settles (λ s. visiting visit s (take 0 os)) w n w n
unfolding visiting
visits_begin visit w n os s h = h

pub visits_more : (visit : Settling → ObjName → Settling) (w w1 w2 : World) (n n1 n2 : Notes) (os : List ObjName) (i : ℕ) (o : ObjName) → i < length os → o ≡ get_or os i o →
    Settles (λ s. visiting visit s (take i os)) w n w1 n1 → Settles (λ s. visit s o) w1 n1 w2 n2 → Settles (λ s. visiting visit s (take (i + 1) os)) w n w2 n2
visits_more visit w w1 w2 n n1 n2 os i o below is before goes s h =
    shows_as w2 n2 (visit (visiting visit s (take i os)) o) (visiting visit s (take (i + 1) os)) (visiting-more visit s os i o below is)
    (goes (visiting visit s (take i os)) (before s h))

pub visits_all : (visit : Settling → ObjName → Settling) (w w1 : World) (n n1 : Notes) (os : List ObjName) (i : ℕ) → length os ≤ i →
    Settles (λ s. visiting visit s (take i os)) w n w1 n1 → Settles (λ s. visiting visit s os) w n w1 n1
visits_all visit w w1 n n1 os i h goes s shows =
    shows_as w1 n1 (visiting visit s (take i os)) (visiting visit s os) (ap (visiting visit s) (take_all i os h)) (goes s shows)

-- ---- timers

pub timers_stepped : (w w1 : World) (n n1 : Notes) (os : List ObjName) → Settles (λ s. visiting rnr_visit s os) w n w1 n1 → n1.stepped ≡ true → Settles (λ s. timers s os) w n w1 n1
unfolding timers
timers_stepped w w1 n n1 os goes h s shows =
    let g = goes s shows in
    shows_as w1 n1 (visiting rnr_visit s os) (timers s os) (sym (when (visiting rnr_visit s os).stepped _ _ (sym g.stepped ∙ h))) g

pub timers_expired : (w w1 w2 : World) (n n1 n2 : Notes) (os : List ObjName) → Settles (λ s. visiting rnr_visit s os) w n w1 n1 → n1.stepped ≡ false →
    Settles (λ s. visiting expire_visit s os) w1 n1 w2 n2 → Settles (λ s. timers s os) w n w2 n2
unfolding timers
timers_expired w w1 w2 n n1 n2 os before h goes s shows =
    let g = before s shows in
    shows_as w2 n2 (visiting expire_visit (visiting rnr_visit s os) os) (timers s os) (sym (unless (visiting rnr_visit s os).stepped _ _ (sym g.stepped ∙ h))) (goes (visiting rnr_visit s os) g)

-- ---- a round

-- the names of the listed ends
pub names_are : (w : World) (es : List LiveEnd) (os : List ObjName) → os ≡ map (λ (e : LiveEnd). e.name) es → es ≡ live_list w → os ≡ live_names w
names_are w es os names lives = names ∙ (ap (map (λ (e : LiveEnd). e.name)) lives ∙ names_listed w)

pub names_shown : (w : World) (n : Notes) (s : Settling) (os : List ObjName) → Shows w n s → os ≡ live_names w → os ≡ live_names s.world
unfolding live_names
names_shown w n s os shows names = names ∙ ap (λ (x : World). live_names x) shows.world

pub round_changed : (w w1 : World) (n n1 : Notes) (os : List ObjName) → os ≡ live_names w → Settles (λ s. visiting visited (drained s) os) w n w1 n1 → n1.changed ≡ true → Settles round w n w1 n1
unfolding round
round_changed w w1 n n1 os lives goes h s shows =
    let names = names_shown w n s os shows lives in
    let g = goes s shows in
    let t = visiting visited (drained s) (live_names s.world) in
    let same : visiting visited (drained s) os ≡ t = ap (visiting visited (drained s)) names in
    let changed : t.changed ≡ true = sym (ap (λ (x : Settling). x.changed) same) ∙ (sym g.changed ∙ h) in
    shows_as w1 n1 (visiting visited (drained s) os) (round s) (same ∙ sym (when t.changed _ _ changed)) g

pub round_still : (w w1 w2 : World) (n n1 n2 : Notes) (os : List ObjName) → os ≡ live_names w → Settles (λ s. visiting visited (drained s) os) w n w1 n1 → n1.changed ≡ false →
    Settles (λ s. timers s os) w1 n1 w2 n2 → Settles round w n w2 n2
unfolding round
round_still w w1 w2 n n1 n2 os lives before h goes s shows =
    let names = names_shown w n s os shows lives in
    let g = before s shows in
    let t = visiting visited (drained s) (live_names s.world) in
    let same : visiting visited (drained s) os ≡ t = ap (visiting visited (drained s)) names in
    let still : t.changed ≡ false = sym (ap (λ (x : Settling). x.changed) same) ∙ (sym g.changed ∙ h) in
    shows_as w2 n2 (timers (visiting visited (drained s) os) os) (round s)
    (ap (λ x. timers x os) same ∙ (ap (timers t) names ∙ sym (unless t.changed _ _ still))) (goes (visiting visited (drained s) os) g)
