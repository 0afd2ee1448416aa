-- The timers of one end.
use Rattle.std.proofs.Common.{arith, ◌≡◌, ℕ, List, ◌∷◌, map, Bool, true, false, refl, sym, ap, ◌∙◌, subst, bytes_eq}
use Rattle.std.specs.Prelude.{Option, Some, None, option_map, if◌then◌else◌, ◌&&◌, not, nat_lt, IfSome}
use Rattle.std.proofs.lemmas.Slice.Eq.{bytes_eq-Decides}
use Rattle.indexmap.specs.IndexMap.{get}
use Rattle.rdma_types.specs.Lists.{first_that, same_object}
use Rattle.rdma_types.specs.declared.names.ObjName.{ObjName}
use Rattle.protocol.specs.declared.events.Event.TheVariants as event
use Rattle.protocol.specs.declared.events.WorldEvent.{WorldEvent}
use Rattle.protocol.specs.declared.events.WorldEvent.TheVariants as world_event
use Rattle.protocol.specs.EndWords.{is_running}
use Rattle.protocol.specs.State.{Link, World}
use Rattle.protocol.specs.Settle.{Settling, Waited, expire_by, expire_visit, has_stepped, last_wait, link_at, live_ends, marks, may_step, partner_ended, rnr_by, rnr_visit, settle_step, stepped_to}
use Rattle.world_core.specs.Lives.{has_ended, link_view}
use Rattle.context_core.specs.declared.lives.LinkView.{LinkView}
use Rattle.settle_core.specs.Marks.{view_mark}
use Rattle.settle_core.specs.Shown.{HasSeen, Settles, Shows, wait_of}
use Rattle.settle_core.specs.Waits.{may_wait, view_expires}
use Rattle.settle_core.specs.declared.notes.Notes.{Notes}
use Rattle.settle_core.specs.declared.notes.Wait.{Wait}
use Rattle.settle_core.proofs.Visits.{link_shown, shows_as}

pub when : {A : Type 0} (b : Bool) (x y : A) → b ≡ true → (if b then x else y) ≡ x
when true x y h = refl
when false x y h = absurd (cc)

unless : {A : Type 0} (b : Bool) (x y : A) → b ≡ false → (if b then x else y) ≡ y
unless true x y h = absurd (cc)
unless false x y h = refl

and_false : (b : Bool) → (b && false) ≡ false
and_false true = refl
and_false false = refl

-- ---- expiries

abbrev pub expiry : ObjName → WorldEvent
expiry o = world_event.At (event.Expire o)

expire_true : (s : Settling) (o : ObjName) (l : Option Link) (v : LinkView) → Some v ≡ option_map link_view l → view_expires v ≡ true → expire_by s o l ≡ has_stepped (settle_step s (expiry o))
expire_true s o None v h e = absurd (cc)
expire_true s o (Some l) v h e =
    let same : v ≡ link_view l = cc in
    when (is_running (Some l) && (not l.sender.rnr_wait && nat_lt l.sender.una l.sender.next)) _ _ (ap view_expires (sym same) ∙ e)

pub expire_false : (s : Settling) (o : ObjName) (l : Option Link) (v : LinkView) → Some v ≡ option_map link_view l → view_expires v ≡ false → expire_by s o l ≡ s
expire_false s o None v h e = absurd (cc)
expire_false s o (Some l) v h e =
    let same : v ≡ link_view l = cc in
    unless (is_running (Some l) && (not l.sender.rnr_wait && nat_lt l.sender.una l.sender.next)) _ s (ap view_expires (sym same) ∙ e)

expire_nothing : (s : Settling) (o : ObjName) (l : Option Link) → None ≡ option_map link_view l → expire_by s o l ≡ s
expire_nothing s o None h = refl
expire_nothing s o (Some l) h = absurd (cc)

seen_same : (w : World) (n n' : Notes) → n'.changed ≡ n.changed → n'.seen ≡ n.seen → HasSeen w n → HasSeen w n'
seen_same w n n' changed seen h still = subst (λ o. IfSome o (λ ends. map view_mark ends ≡ marks w)) (sym seen) (h (sym changed ∙ still))

shown_stepped : (w : World) (n n' : Notes) (s : Settling) → Shows w n s → n'.changed ≡ n.changed → n'.stepped ≡ true → n'.waited ≡ n.waited → n'.seen ≡ n.seen → Shows w n' (has_stepped s)
unfolding last_wait
shown_stepped w n n' s h changed stepped waited seen = record {
  world = h.world;
  changed = changed ∙ h.changed;
  stepped = stepped;
  waited = λ o. subst (λ m. get same_object m o ≡ option_map wait_of (last_wait s o)) (sym waited) (h.waited o);
  seen = seen_same w n n' changed seen h.seen;
}

pub expire_none : (w : World) (n : Notes) (o : ObjName) → None ≡ option_map link_view (link_at w o) → Settles (λ s. expire_visit s o) w n w n
unfolding expire_visit
expire_none w n o h s shows = shows_as w n s (expire_visit s o) (sym (ap (expire_by s o) (sym (link_shown w n s o shows)) ∙ expire_nothing s o (link_at w o) h)) shows

pub expire_off : (w : World) (n : Notes) (o : ObjName) (v : LinkView) → Some v ≡ option_map link_view (link_at w o) → view_expires v ≡ false → Settles (λ s. expire_visit s o) w n w n
unfolding expire_visit
expire_off w n o v h e s shows = shows_as w n s (expire_visit s o) (sym (ap (expire_by s o) (sym (link_shown w n s o shows)) ∙ expire_false s o (link_at w o) v h e)) shows

pub expire_on : (w w' : World) (n n1 n2 : Notes) (o : ObjName) (v : LinkView) → Some v ≡ option_map link_view (link_at w o) → view_expires v ≡ true → Settles (λ s. settle_step s (expiry o)) w n w' n1 →
    n2.changed ≡ n1.changed → n2.stepped ≡ true → n2.waited ≡ n1.waited → n2.seen ≡ n1.seen → Settles (λ s. expire_visit s o) w n w' n2
unfolding expire_visit
expire_on w w' n n1 n2 o v h e goes changed stepped waited seen s shows =
    shows_as w' n2 (has_stepped (settle_step s (expiry o))) (expire_visit s o) (sym (ap (expire_by s o) (sym (link_shown w n s o shows)) ∙ expire_true s o (link_at w o) v h e))
    (shown_stepped w' n1 n2 (settle_step s (expiry o)) (goes s shows) changed stepped waited seen)

-- ---- RNR timers

abbrev pub rnr_over : ObjName → WorldEvent
rnr_over o = world_event.At (event.RnrOver o)

-- the note of a timer's step
abbrev noted : Settling → ObjName → ℕ → Bool → Settling → Settling
noted s o una ended t = record t { stepped = true; waited = record { end = o; una = una; partner_ended = ended } ∷ s.waited }

ended_shown : (w : World) (n : Notes) (s : Settling) (k : ℕ) → Shows w n s → has_ended w k ≡ has_ended s.world k
unfolding live_ends
ended_shown w n s k h = ap (λ (x : World). has_ended x k) h.world

may_is : (w : World) (l : Link) (x : Option Waited) → may_wait (link_view l) (has_ended w l.peer) (option_map wait_of x) ≡ may_step w l x
may_is w l None = refl
may_is w l (Some x) = refl

ended_is : (w : World) (n : Notes) (s : Settling) (l : Link) (v : LinkView) (ended : Bool) → Shows w n s → v ≡ link_view l → ended ≡ has_ended w v.peer → ended ≡ partner_ended s.world l
ended_is w n s l v ended shows same is = is ∙ (ap (λ (x : LinkView). has_ended w x.peer) same ∙ ended_shown w n s l.peer shows)

pub may_shown : (w : World) (n : Notes) (s : Settling) (o : ObjName) (l : Link) (v : LinkView) (ended : Bool) → Shows w n s → v ≡ link_view l → ended ≡ has_ended w v.peer →
    may_wait v ended (get same_object n.waited o) ≡ may_step s.world l (last_wait s o)
may_shown w n s o l v ended shows same is =
    ap (λ x. may_wait x ended (get same_object n.waited o)) same
    ∙ (ap (λ b. may_wait (link_view l) b (get same_object n.waited o)) (ended_is w n s l v ended shows same is)
    ∙ (ap (may_wait (link_view l) (has_ended s.world l.peer)) (shows.waited o) ∙ may_is s.world l (last_wait s o)))

pub waits_is : (l : Link) (v : LinkView) (b : Bool) → v ≡ link_view l → v.rnr_wait ≡ b → l.sender.rnr_wait ≡ b
waits_is l v b same h = sym (ap (λ (x : LinkView). x.rnr_wait) same) ∙ h

rnr_nothing : (s : Settling) (o : ObjName) (l : Option Link) → None ≡ option_map link_view l → rnr_by s o l ≡ s
rnr_nothing s o None h = refl
rnr_nothing s o (Some l) h = absurd (cc)

pub rnr_still : (s : Settling) (o : ObjName) (l : Option Link) (v : LinkView) → Some v ≡ option_map link_view l → v.rnr_wait ≡ false → rnr_by s o l ≡ s
rnr_still s o None v h waits = refl
rnr_still s o (Some l) v h waits =
    let same : v ≡ link_view l = cc in
    unless (l.sender.rnr_wait && may_step s.world l (last_wait s o)) _ s (ap (λ b. b && may_step s.world l (last_wait s o)) (waits_is l v false same waits))

rnr_kept : (w : World) (n : Notes) (s : Settling) (o : ObjName) (l : Option Link) (v : LinkView) (ended : Bool) → Shows w n s → Some v ≡ option_map link_view l → ended ≡ has_ended w v.peer →
    may_wait v ended (get same_object n.waited o) ≡ false → rnr_by s o l ≡ s
rnr_kept w n s o None v ended shows h is may = refl
rnr_kept w n s o (Some l) v ended shows h is may =
    let same : v ≡ link_view l = cc in
    unless (l.sender.rnr_wait && may_step s.world l (last_wait s o)) _ s
    (ap (λ b. l.sender.rnr_wait && b) (sym (may_shown w n s o l v ended shows same is) ∙ may) ∙ and_false l.sender.rnr_wait)

rnr_true : (w : World) (n : Notes) (s : Settling) (o : ObjName) (l : Option Link) (v : LinkView) (una : ℕ) (ended : Bool) → Shows w n s → Some v ≡ option_map link_view l → una ≡ v.una → ended ≡ has_ended w v.peer →
    v.rnr_wait ≡ true → may_wait v ended (get same_object n.waited o) ≡ true → rnr_by s o l ≡ noted s o una ended (settle_step s (rnr_over o))
rnr_true w n s o None v una ended shows h place is waits may = absurd (cc)
rnr_true w n s o (Some l) v una ended shows h place is waits may =
    let same : v ≡ link_view l = cc in
    let yes : (l.sender.rnr_wait && may_step s.world l (last_wait s o)) ≡ true =
    ap (λ b. b && may_step s.world l (last_wait s o)) (waits_is l v true same waits) ∙ (sym (may_shown w n s o l v ended shows same is) ∙ may) in
    let at : l.sender.una ≡ una = sym (place ∙ ap (λ (x : LinkView). x.una) same) in
    when (l.sender.rnr_wait && may_step s.world l (last_wait s o)) (noted s o l.sender.una (partner_ended s.world l) (settle_step s (rnr_over o))) s yes
    ∙ (ap (λ u. noted s o u (partner_ended s.world l) (settle_step s (rnr_over o))) at
    ∙ ap (λ b. noted s o una b (settle_step s (rnr_over o))) (sym (ended_is w n s l v ended shows same is)))

pub rnr_none : (w : World) (n : Notes) (o : ObjName) → None ≡ option_map link_view (link_at w o) → Settles (λ s. rnr_visit s o) w n w n
unfolding rnr_visit
rnr_none w n o h s shows = shows_as w n s (rnr_visit s o) (sym (ap (rnr_by s o) (sym (link_shown w n s o shows)) ∙ rnr_nothing s o (link_at w o) h)) shows

pub rnr_off : (w : World) (n : Notes) (o : ObjName) (v : LinkView) → Some v ≡ option_map link_view (link_at w o) → v.rnr_wait ≡ false → Settles (λ s. rnr_visit s o) w n w n
unfolding rnr_visit
rnr_off w n o v h waits s shows = shows_as w n s (rnr_visit s o) (sym (ap (rnr_by s o) (sym (link_shown w n s o shows)) ∙ rnr_still s o (link_at w o) v h waits)) shows

pub rnr_not : (w : World) (n : Notes) (o : ObjName) (v : LinkView) (ended : Bool) → Some v ≡ option_map link_view (link_at w o) → ended ≡ has_ended w v.peer → may_wait v ended (get same_object n.waited o) ≡ false → Settles (λ s. rnr_visit s o) w n w n
unfolding rnr_visit
rnr_not w n o v ended h is may s shows = shows_as w n s (rnr_visit s o) (sym (ap (rnr_by s o) (sym (link_shown w n s o shows)) ∙ rnr_kept w n s o (link_at w o) v ended shows h is may)) shows

bytes_turned : (m n : List ℕ) → bytes_eq m n ≡ bytes_eq n m
bytes_turned m n = grind (arith, bytes_eq-Decides m n, bytes_eq-Decides n m)

object_turned : (o q : ObjName) → same_object o q ≡ same_object q o
object_turned o q = ap (λ b. b && bytes_eq o.name q.name) (bytes_turned o.context q.context) ∙ ap (λ b. bytes_eq q.context o.context && b) (bytes_turned o.name q.name)

step_waited : (s : Settling) (e : WorldEvent) (o : ObjName) → last_wait (settle_step s e) o ≡ last_wait s o
unfolding settle_step stepped_to last_wait
step_waited s e o = refl

shown_noted : (w : World) (n1 n2 : Notes) (s : Settling) (e : WorldEvent) (o : ObjName) (x : Wait) → Shows w n1 (settle_step s e) → n2.changed ≡ n1.changed → n2.stepped ≡ true → n2.seen ≡ n1.seen →
    ((q : ObjName) → get same_object n2.waited q ≡ (if same_object o q then Some x else get same_object n1.waited q)) → Shows w n2 (noted s o x.una x.partner_ended (settle_step s e))
unfolding last_wait first_that
shown_noted w n1 n2 s e o x h changed stepped seen updates = record {
  world = h.world;
  changed = changed ∙ h.changed;
  stepped = stepped;
  waited = λ q. updates q ∙ (by q (same_object o q) ∙ ap (λ b. option_map wait_of (if b then Some note else last_wait s q)) (object_turned o q));
  seen = seen_same w n1 n2 changed seen h.seen;
}
  where
    note : Waited
    note = record { end = o; una = x.una; partner_ended = x.partner_ended }

    by : (q : ObjName) (b : Bool) → (if b then Some x else get same_object n1.waited q) ≡ option_map wait_of (if b then Some note else last_wait s q)
    by q true = refl
    by q false = h.waited q ∙ ap (option_map wait_of) (step_waited s e q)

pub rnr_on : (w w' : World) (n n1 n2 : Notes) (o : ObjName) (v : LinkView) (x : Wait) → Some v ≡ option_map link_view (link_at w o) → x.una ≡ v.una → x.partner_ended ≡ has_ended w v.peer →
    v.rnr_wait ≡ true → may_wait v x.partner_ended (get same_object n.waited o) ≡ true → Settles (λ s. settle_step s (rnr_over o)) w n w' n1 →
    n2.changed ≡ n1.changed → n2.seen ≡ n1.seen → ((q : ObjName) → get same_object n2.waited q ≡ (if same_object o q then Some x else get same_object n1.waited q)) → n2.stepped ≡ true → Settles (λ s. rnr_visit s o) w n w' n2
unfolding rnr_visit
rnr_on w w' n n1 n2 o v x h place is waits may goes changed seen updates stepped s shows =
    shows_as w' n2 (noted s o x.una x.partner_ended (settle_step s (rnr_over o))) (rnr_visit s o)
    (sym (ap (rnr_by s o) (sym (link_shown w n s o shows)) ∙ rnr_true w n s o (link_at w o) v x.una x.partner_ended shows h place is waits may))
    (shown_noted w' n1 n2 s (rnr_over o) o x (goes s shows) changed stepped seen updates)
