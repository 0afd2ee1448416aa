-- What readers tell.
use Rattle.std.proofs.Common.{arith, ◌≡◌, ◌≢◌, ◌<◌, ◌^◌, ◌==◌, ℕ, zero, suc, List, [], ◌∷◌, map, length, get_or, true, false, Bool, refl, sym, ap, ◌∙◌, subst}
use Rattle.std.specs.Prelude.{AllPairs, bytes_eq, ◌&&◌, ◌||◌, if◌then◌else◌, nat_lt, Option, Some, None, option_map, position, slice_get}
use Rattle.std.specs.List.{position_or_len}
use Rattle.std.proofs.lemmas.Bool.{ltb-false, ltb-true, true≢false}
use Rattle.std.proofs.lemmas.List.Quantifiers.{position-Some}
use Rattle.std.proofs.lemmas.List.Sums.{fails_before_first}
use Rattle.rdma_types.specs.declared.answers.EndState.{EndState}
use Rattle.rdma_types.specs.declared.answers.EndState.TheVariants as state
use Rattle.rdma_types.specs.declared.answers.EndView.{EndView}
use Rattle.rdma_types.specs.declared.names.Name.{Name}
use Rattle.rdma_types.specs.declared.names.ObjName.{ObjName}
use Rattle.rdma_types.specs.Lists.{has_name, named, some}
use Rattle.protocol.specs.DeviceStep.{found_in, found_link}
use Rattle.protocol.specs.EndWords.{is_in_error, is_paused, is_resuming, is_resuming_link, phase_state}
use Rattle.protocol.specs.Readers.{end_view, marks_by, marks_of, view_of}
use Rattle.protocol.specs.Refusals.{has_context, has_end}
use Rattle.protocol.specs.State.{Context, Device, End, Link, Paused, Phase, Resuming, Running, context_at, end_at, no_context, no_end}
use Rattle.context_core.specs.Links.{link_marks, link_view, live_end, live_end_at}
use Rattle.context_core.specs.declared.lives.LiveEnd.{LiveEnd}
use Rattle.law_devices.specs.Sound.{IsSoundContext, IsSoundDevice, IsSoundEnd}
use Rattle.law_devices.proofs.Regions.{All-at}
use Rattle.law_devices.proofs.Tables.{All-named}
use Rattle.device_core.specs.declared.index.EndLocation.{EndLocation}
use Rattle.device_core.specs.Index.{IsEndAt, IsEntryAt, IsIndex}
use Rattle.device_core.specs.Readings.{end_named, has_ended_end, has_resuming_end, link_ended, link_resumes, live_ended, live_resumes, live_view, mark_pair, marks_at, view_by}
use Rattle.device_core.proofs.Brought.{number_same, same_number, some-at, some-place}
use Rattle.device_core.proofs.FoundEnds.{end-of, named_here, place_of_name}
use Rattle.device_core.proofs.HuskNames.{bytes_eq_sym}
use Rattle.device_core.proofs.IndexAdds.{same_spot}
use Rattle.device_core.proofs.Withouts.{named-absent}

-- ---- views

pub live-view : (c : Context) (e : End) → live_view (live_end c e) ≡ view_of c e
unfolding view_of
live-view c e = by_link e.link
  where
    by_state : (l : Link) (b : Bool) (p : Phase) → (if b then state.Error else if is_paused p then state.Paused else if is_resuming p then state.Resuming else state.Running) ≡ (if b then state.Error else phase_state p)
    by_state l true p = refl
    by_state l false Running = refl
    by_state l false Paused = refl
    by_state l false Resuming = refl

    by_link : (o : Option Link) → view_by (live_end c e) (option_map link_view o) ≡ view_of c (record e { link = o })
    by_link None = refl
    by_link (Some l) = ap (λ (s : EndState). record { name = record { context = c.name; name = e.name }; number = e.number; peer = l.peer; state = s; una = l.sender.una; next = l.sender.next; untold = length l.sender.untold; rnr = l.terms.rnr; rnr_wait = l.sender.rnr_wait }) (by_state l l.ended l.moving.phase)

-- the view of an end, from what its context tells
pub seen : (d : Device) (n : Name) (i : ℕ) (c : Context) (r : Option LiveEnd) (l : LiveEnd) (v : EndView) → context_at d n ≡ c → r ≡ live_end_at c i → r ≡ Some l → v ≡ live_view l → Some v ≡ end_view d n i
seen d n i c r l v at is some told = by_there (slice_get c.ends i) (sym some ∙ is) ∙ ap (λ (k : Context). option_map (view_of k) (slice_get k.ends i)) (sym at)
  where
    by_there : (o : Option End) → Some l ≡ option_map (live_end c) o → Some v ≡ option_map (view_of c) o
    by_there None e = absurd (cc)
    by_there (Some x) e = let same : l ≡ live_end c x = cc in ap Some (told ∙ (ap live_view same ∙ live-view c x))

pub unseen : (d : Device) (n : Name) (i : ℕ) (c : Context) (r : Option LiveEnd) → context_at d n ≡ c → r ≡ live_end_at c i → r ≡ None → None ≡ end_view d n i
unseen d n i c r at is none = by_there (slice_get c.ends i) (sym none ∙ is) ∙ ap (λ (k : Context). option_map (view_of k) (slice_get k.ends i)) (sym at)
  where
    by_there : (o : Option End) → None ≡ option_map (live_end c) o → None ≡ option_map (view_of c) o
    by_there None e = refl
    by_there (Some x) e = absurd (cc)

-- a name that no context has
pub unseen-nowhere : (d : Device) (n : Name) (i : ℕ) → has_context d n ≡ false → None ≡ end_view d n i
unseen-nowhere d n i gone = ap (λ (k : Context). option_map (view_of k) (slice_get k.ends i)) (sym (named-absent (λ c. c.name) no_context n d.contexts gone))

-- numbers are in range
pub small-number : (d : Device) (n : Name) (i : ℕ) (e : End) → IsSoundDevice d → has_context d n ≡ true → slice_get (context_at d n).ends i ≡ Some e → e.number < 2 ^ 24
small-number d n i e sound lives at =
    let s = All-named IsSoundContext (λ c. c.name) no_context n d.contexts sound.contexts lives in
    let end = All-at (IsSoundEnd (context_at d n).domains _ _) (context_at d n).ends i e s.parts.ends at in
    below (nat_lt e.number 16777216) _ refl end.number
  where
    below : (b t : Bool) → nat_lt e.number 16777216 ≡ b → (b && t) ≡ true → e.number < 2 ^ 24
    below true t is h = ltb-true e.number 16777216 is
    below false t is h = absurd (true≢false (sym h))

pub small-view : (d : Device) (n : Name) (i : ℕ) (v : EndView) → IsSoundDevice d → has_context d n ≡ true → Some v ≡ end_view d n i → v.number < 2 ^ 24
unfolding view_of
small-view d n i v sound lives is = by_there (slice_get (context_at d n).ends i) refl is
  where
    number_of : (o : Option EndView) → ℕ
    number_of None = 0
    number_of (Some x) = x.number

    by_link : (e : End) (o : Option Link) → number_of (Some (view_of (context_at d n) (record e { link = o }))) ≡ e.number
    by_link e None = refl
    by_link e (Some l) = refl

    by_there : (o : Option End) → slice_get (context_at d n).ends i ≡ o → Some v ≡ option_map (view_of (context_at d n)) o → v.number < 2 ^ 24
    by_there None at e = absurd (cc)
    by_there (Some x) at e = subst (λ k. k < 2 ^ 24) (sym (ap number_of e ∙ by_link x x.link)) (small-number d n i x sound lives at)

-- ---- an end by its name

-- the first with a name is the one that has it
first-at : (n : Name) (es : List End) (i : ℕ) → i < length es → bytes_eq n (get_or es i no_end).name ≡ true → ((k : ℕ) → k < i → bytes_eq n (get_or es k no_end).name ≡ false) → (has_name (λ e. e.name) n es ≡ true) × (slice_get es i ≡ Some (named (λ e. e.name) no_end n es))
unfolding has_name named
first-at n [] i l at before = absurd (omega (arith, l))
first-at n (e ∷ es) zero l at before =
    let here : bytes_eq e.name n ≡ true = bytes_eq_sym e.name n ∙ at in
    (ap (λ b. b || has_name (λ x. x.name) n es) here, ap (λ b. Some (if b then e else named (λ x. x.name) no_end n es)) (sym here))
first-at n (e ∷ es) (suc i) l at before =
    let here : bytes_eq e.name n ≡ false = bytes_eq_sym e.name n ∙ before 0 (omega arith) in
    let later = first-at n es i (omega (arith, l)) at (λ k h. before (suc k) (omega (arith, h))) in
    (ap (λ b. b || has_name (λ x. x.name) n es) here ∙ later.0, later.1 ∙ ap (λ b. Some (if b then e else named (λ x. x.name) no_end n es)) (sym here))

none-at : (n : Name) (es : List End) → ((k : ℕ) → k < length es → bytes_eq n (get_or es k no_end).name ≡ false) → has_name (λ e. e.name) n es ≡ false
unfolding has_name
none-at n [] lacks = refl
none-at n (e ∷ es) lacks = ap (λ b. b || has_name (λ x. x.name) n es) (bytes_eq_sym e.name n ∙ lacks 0 (omega arith)) ∙ none-at n es (λ k h. lacks (suc k) (omega (arith, h)))

-- the place of a name
pub position-there : (n : Name) (es : List End) (i : ℕ) → position (λ e. bytes_eq n e.name) es ≡ Some i → (has_name (λ e. e.name) n es ≡ true) × (slice_get es i ≡ Some (named (λ e. e.name) no_end n es))
position-there n es i h = let at = position-Some (λ (e : End). bytes_eq n e.name) es i no_end h in first-at n es i at.0 at.1 at.2

pub position-none : (n : Name) (es : List End) → position (λ e. bytes_eq n e.name) es ≡ None → has_name (λ e. e.name) n es ≡ false
position-none n es h = none-at n es (λ k l. fails_before_first (λ (e : End). bytes_eq n e.name) es k no_end (below k l))
  where
    below : (k : ℕ) → k < length es → k < position_or_len (λ (e : End). bytes_eq n e.name) es
    below k l = by_test (nat_lt (position_or_len (λ (e : End). bytes_eq n e.name) es) (length es)) refl h
      where
        by_test : (b : Bool) → nat_lt (position_or_len (λ (e : End). bytes_eq n e.name) es) (length es) ≡ b → (if b then Some (position_or_len (λ (e : End). bytes_eq n e.name) es) else None) ≡ None → k < position_or_len (λ (e : End). bytes_eq n e.name) es
        by_test true t g = absurd (cc)
        by_test false t g = let past = ltb-false (position_or_len (λ (e : End). bytes_eq n e.name) es) (length es) t in omega (arith, past, l)

-- the end that a word names
pub named-gone : (d : Device) (o : ObjName) → has_context d o.context ≡ false → None ≡ end_named d o
unfolding end_named
named-gone d o gone = ap (λ b. if b && has_end (context_at d o.context) o.name then Some (view_of (context_at d o.context) (end_at (context_at d o.context) o.name)) else None) (sym gone)

pub named-none : (d : Device) (o : ObjName) (c : Context) → has_context d o.context ≡ true → context_at d o.context ≡ c → position (λ e. bytes_eq o.name e.name) c.ends ≡ None → None ≡ end_named d o
unfolding end_named
named-none d o c lives at none =
    let gone : has_end (context_at d o.context) o.name ≡ false = ap (λ (k : Context). has_end k o.name) at ∙ position-none o.name c.ends none in
    (λ i. if sym lives i && sym gone i then Some (view_of (context_at d o.context) (end_at (context_at d o.context) o.name)) else None)

pub named-some : (d : Device) (o : ObjName) (c : Context) (i : ℕ) → has_context d o.context ≡ true → context_at d o.context ≡ c → position (λ e. bytes_eq o.name e.name) c.ends ≡ Some i → end_view d o.context i ≡ end_named d o
unfolding end_named
named-some d o c i lives at some =
    let found = position-there o.name (context_at d o.context).ends i (ap (λ (k : Context). position (λ e. bytes_eq o.name e.name) k.ends) at ∙ some) in
    ap (option_map (view_of (context_at d o.context))) found.1
    ∙ (λ j. if sym lives j && sym found.0 j then Some (view_of (context_at d o.context) (end_at (context_at d o.context) o.name)) else None)

-- ---- an end by its number

pub marks-nowhere : (d : Device) (k : ℕ) → found_in k d.contexts ≡ [] → marks_at d k ≡ None
unfolding marks_of
marks-nowhere d k none = ap (λ fs. option_map mark_pair (marks_by fs)) none

pub marks-found : (d : Device) (k : ℕ) (c : Context) (e : End) → found_in k d.contexts ≡ found_link c e e.link [] → marks_at d k ≡ option_map link_marks e.link
unfolding marks_of
marks-found d k c e found = ap (λ fs. option_map mark_pair (marks_by fs)) found ∙ by_link e.link
  where
    by_link : (o : Option Link) → option_map mark_pair (marks_by (found_link c e o [])) ≡ option_map link_marks o
    by_link None = refl
    by_link (Some l) = refl

same_resumes : (o : Option Link) → link_resumes (option_map link_view o) ≡ is_resuming_link o
same_resumes None = refl
same_resumes (Some l) = refl

same_ended : (o : Option Link) → link_ended (option_map link_view o) ≡ is_in_error o
same_ended None = refl
same_ended (Some l) = refl

both : (b c : Bool) → (b && c) ≡ true → (b ≡ true) × (c ≡ true)
both true c h = (refl, h)
both false c h = absurd (true≢false (sym h))

-- a number that is not noted is of no end
pub not-noted : (index : ℕ → Option EndLocation) (d : Device) → IsIndex index d → (k : ℕ) → index k ≡ None → (n : Name) (place : ℕ) → IsEndAt d n place k → ⊥
not-noted index d i k none n place e = absurd (cc (i.ends n place k e, none))

-- nor is one that a husk has
pub not-live : (index : ℕ → Option EndLocation) (d : Device) → IsIndex index d → (k : ℕ) (m : Name) (p : ℕ) → IsEntryAt d m p k → has_context d m ≡ false → (n : Name) (place : ℕ) → IsEndAt d n place k → ⊥
not-live index d i k m p entry gone n place e =
    let is = same_spot n m place p (sym (i.ends n place k e) ∙ i.entries m p k entry) in
    true≢false (sym e.lives ∙ (ap (has_context d) is.0 ∙ gone))

-- a live end with the number passes a test
abbrev has_end_that : (Option Link → Bool) → Device → ℕ → Bool
has_end_that test d k = some (λ c. some (λ e. e.number == k && test e.link) c.ends) d.contexts

-- no live end has the number
that-nowhere : (test : Option Link → Bool) (d : Device) (k : ℕ) → AllPairs (λ a b. a ≢ b) (map (λ c. c.name) d.contexts) → ((n : Name) (place : ℕ) → IsEndAt d n place k → ⊥) → has_end_that test d k ≡ false
that-nowhere test d k names lacks = by_some (has_end_that test d k) refl
  where
    by_some : (b : Bool) → has_end_that test d k ≡ b → b ≡ false
    by_some false h = refl
    by_some true h =
        let p = some-place (λ (c : Context). some (λ e. e.number == k && test e.link) c.ends) d.contexts h in
        let q = some-place (λ (e : End). e.number == k && test e.link) p.thing.ends p.passes in
        absurd (lacks p.thing.name q.place (end-of d k p.place q.place p.thing q.thing names p.there q.there (number_same q.thing.number k (both _ _ q.passes).0)))

pub resumes-nowhere : (d : Device) (k : ℕ) → AllPairs (λ a b. a ≢ b) (map (λ c. c.name) d.contexts) → ((n : Name) (place : ℕ) → IsEndAt d n place k → ⊥) → has_resuming_end d k ≡ false
resumes-nowhere d k names lacks = that-nowhere is_resuming_link d k names lacks

pub ended-nowhere : (d : Device) (k : ℕ) → AllPairs (λ a b. a ≢ b) (map (λ c. c.name) d.contexts) → ((n : Name) (place : ℕ) → IsEndAt d n place k → ⊥) → has_ended_end d k ≡ false
ended-nowhere d k names lacks = that-nowhere is_in_error d k names lacks

-- one live end has it
that-one : (test : Option Link → Bool) (index : ℕ → Option EndLocation) (d : Device) → IsIndex index d → AllPairs (λ a b. a ≢ b) (map (λ c. c.name) d.contexts) → (k : ℕ) (n : Name) (place : ℕ) (e : IsEndAt d n place k) → has_end_that test d k ≡ test e.end.link
that-one test index d i names k n place e = by_link (test e.end.link) refl
  where
    found : test e.end.link ≡ true → has_end_that test d k ≡ true
    found h =
        let p = place_of_name (λ c. c.name) no_context n d.contexts e.lives in
        some-at (λ (c : Context). some (λ x. x.number == k && test x.link) c.ends) d.contexts p.0 (context_at d n) p.1
        (some-at (λ (x : End). x.number == k && test x.link) (context_at d n).ends place e.end e.there (ap (λ b. b && test e.end.link) (same_number e.end.number k e.same) ∙ h))

    only : (c : Context) (x : End) (j p : ℕ) → slice_get d.contexts j ≡ Some c → slice_get c.ends p ≡ Some x → x.number ≡ k → x ≡ e.end
    only c x j p here there number =
        let other = end-of d k j p c x names here there number in
        let is = same_spot c.name n p place (sym (i.ends c.name p k other) ∙ i.ends n place k e) in
        some_same x e.end (sym (ap (λ (z : Context). slice_get z.ends p) (named_here (λ (z : Context). z.name) no_context d.contexts j c names here).1 ∙ there) ∙ ((λ t. slice_get (context_at d (is.0 t)).ends (is.1 t)) ∙ e.there))
      where
        some_same : (a b : End) → Some a ≡ Some b → a ≡ b
        some_same a b h = cc

    lost : test e.end.link ≡ false → (b : Bool) → has_end_that test d k ≡ b → b ≡ false
    lost h false g = refl
    lost h true g =
        let p = some-place (λ (c : Context). some (λ x. x.number == k && test x.link) c.ends) d.contexts g in
        let q = some-place (λ (x : End). x.number == k && test x.link) p.thing.ends p.passes in
        let two = both (q.thing.number == k) (test q.thing.link) q.passes in
        let same = only p.thing q.thing p.place q.place p.there q.there (number_same q.thing.number k two.0) in
        absurd (true≢false (sym two.1 ∙ (ap (λ (x : End). test x.link) same ∙ h)))

    by_link : (b : Bool) → test e.end.link ≡ b → has_end_that test d k ≡ test e.end.link
    by_link true h = found h ∙ sym h
    by_link false h = lost h (has_end_that test d k) refl ∙ sym h

pub resumes-one : (index : ℕ → Option EndLocation) (d : Device) → IsIndex index d → AllPairs (λ a b. a ≢ b) (map (λ c. c.name) d.contexts) → (k : ℕ) (n : Name) (place : ℕ) (e : IsEndAt d n place k) → has_resuming_end d k ≡ live_resumes (Some (live_end (context_at d n) e.end))
resumes-one index d i names k n place e = that-one is_resuming_link index d i names k n place e ∙ sym (same_resumes e.end.link)

pub ended-one : (index : ℕ → Option EndLocation) (d : Device) → IsIndex index d → AllPairs (λ a b. a ≢ b) (map (λ c. c.name) d.contexts) → (k : ℕ) (n : Name) (place : ℕ) (e : IsEndAt d n place k) → has_ended_end d k ≡ live_ended (Some (live_end (context_at d n) e.end))
ended-one index d i names k n place e = that-one is_in_error index d i names k n place e ∙ sym (same_ended e.end.link)
