-- Datagrams that are delivered, lost and shown.
use Rattle.std.proofs.Common.{◌≡◌, ℕ, ◌+◌, ◌<◌, ◌≤◌, List, length, Bool, true, false, Option, Some, None, refl, sym, ap, ◌∙◌, subst, arith, slice_get, is_some, if◌then◌else◌, ◌⊎◌, inl, inr}
use Rattle.std.specs.Prelude.{◌-◌, ◌==◌}
use Rattle.std.specs.List.{position}
use Rattle.std.proofs.lemmas.Option.{slice_get-get_or}
use Rattle.rdma_types.specs.declared.answers.Answer.{Answer}
use Rattle.rdma_types.specs.declared.answers.Answer.TheVariants as answer
use Rattle.rdma_types.specs.declared.answers.DropReason.TheVariants as why
use Rattle.rdma_types.specs.declared.answers.ArrivalEffect.{ArrivalEffect}
use Rattle.rdma_types.specs.declared.answers.ArrivalEffect.TheVariants as took
use Rattle.rdma_types.specs.Lists.{at}
use Rattle.protocol.specs.Bytes.{number_at}
use Rattle.protocol.specs.Fabric.{Here, IsAged, IsGone, IsLost, Look, blank, changed_at, forgetting, is_kept, is_late, kept_flight, look, look_at, losing, marked_lost, sending}
use Rattle.protocol.specs.Fabric as fabric
use Rattle.protocol.specs.State.{Device, Flight, World}
use Rattle.protocol.specs.WorldStep.{answers, delivers, delivers_by, device_with, loses, now_at, now_of, numbered, reaches, same_address, wires, wires_by, with_taken}
use Rattle.protocol.proofs.Histories.{kept_means, losing-forgetting, took-forgetting}
use Rattle.world_core.specs.Kept.{Makes}
use Rattle.device_core.specs.declared.finding.FoundEnd.{FoundEnd}
use Rattle.device_core.specs.Finding.{IsFound}
use Rattle.world_core.specs.Sites.{ComesNowhere, ComesTo, IsFoundOn}
use Rattle.world_core.proofs.Places.{IsFirstPlace, none_passes, same_thing, spot, is_some-position}
use Rattle.world_core.proofs.Worlds.{kept_is, stays}

-- ---- lists of datagrams that are kept

pub took_kept : (s : List Flight) (k : ℕ) → forgetting s ≡ s → fabric.took s k ≡ forgetting (fabric.took s k)
took_kept s k h = ap (λ x. fabric.took x k) (sym h) ∙ took-forgetting s k

-- ---- a datagram comes

no_device_with : (w : World) (f : Flight) → position (λ x. same_address x.address f.to) w.devices ≡ None → device_with w f.to ≡ None
no_device_with w f none = none_passes (λ (x : Device). same_address x.address f.to) w.devices (sym (is_some-position (λ (x : Device). same_address x.address f.to) w.devices) ∙ ap (λ o. is_some o) none)

-- what was found of the end that a datagram is for, on the device at the place of its address
pub found_there : (w : World) (f : Flight) (place : ℕ) (x : Device) (n : ℕ) (found : Option FoundEnd) → position (λ y. same_address y.address f.to) w.devices ≡ Some place → slice_get w.devices place ≡ Some x → n ≡ number_at 5 3 f.bytes → IsFound x n found
    → IsFoundOn (device_with w f.to) f.bytes found
found_there w f place x n found at here number is =
    let s : IsFirstPlace (λ (y : Device). same_address y.address f.to) w.devices place = spot (λ y. same_address y.address f.to) w.devices place at in
    let with : device_with w f.to ≡ Some x = s.first ∙ (sym s.here ∙ here) in
    subst (λ o. IsFoundOn o f.bytes found) (sym with) (subst (λ m. IsFound x m found) number is)

pub found_nowhere : (w : World) (f : Flight) (found : Option FoundEnd) → position (λ x. same_address x.address f.to) w.devices ≡ None → found ≡ None → IsFoundOn (device_with w f.to) f.bytes found
found_nowhere w f found none is = subst (λ o. IsFoundOn o f.bytes found) (sym (no_device_with w f none)) is

-- what that end keeps
pub marked : (w : World) (f : Flight) (bytes : List ℕ) (found : Option FoundEnd) (m : ℕ) → bytes ≡ f.bytes → IsFoundOn (device_with w f.to) f.bytes found → ((o : Option Device) → IsFoundOn o bytes found → m ≡ now_at o bytes) → m ≡ now_of w (Some f)
marked w f bytes found m same is tells = subst (λ bs. IsFoundOn (device_with w f.to) bs found → m ≡ now_at (device_with w f.to) bs) same (tells (device_with w f.to)) is

-- what is here is kept
look_keeps : (s : List Flight) (k now : ℕ) (f : Flight) → look s k now ≡ Here f → kept_flight s k ≡ Some f
unfolding look
look_keeps s k now f h = by (kept_flight s k) h
  where
    by_tests : (f' : Flight) (lost late : Bool) → (if lost then IsLost else if late then IsAged else Here f') ≡ Here f → Some f' ≡ Some f
    by_tests f' true late i = absurd (cc)
    by_tests f' false true i = absurd (cc)
    by_tests f' false false i = cc

    by : (o : Option Flight) → look_at o now ≡ Here f → o ≡ Some f
    by None i = absurd (cc)
    by (Some f') i = by_tests f' f'.lost (is_late f'.number now) i

-- what a kept datagram is for the end that it is for
pub looked_kept : (w : World) (k now : ℕ) (f : Flight) (l : Look) → kept_flight w.sent k ≡ Some f → now ≡ now_of w (Some f) → l ≡ look_at (Some f) now → look w.sent k (now_of w (kept_flight w.sent k)) ≡ l
unfolding look
looked_kept w k now f l is same h = ap (λ o. look_at o (now_of w o)) is ∙ (ap (λ n. look_at (Some f) n) (sym same) ∙ sym h)

-- .. which is here
pub looked_here : (w : World) (k now : ℕ) (f x : Flight) → kept_flight w.sent k ≡ Some f → now ≡ now_of w (Some f) → Here x ≡ look_at (Some f) now → look w.sent k (now_of w (kept_flight w.sent k)) ≡ Here f
looked_here w k now f x is same h =
    let here : look w.sent k (now_of w (kept_flight w.sent k)) ≡ Here x = looked_kept w k now f (Here x) is same h in
    here ∙ ap (λ y. Here y) (same_thing x f (sym (look_keeps w.sent k _ x here) ∙ is))

-- .. and one that is not kept
pub looked_none : (w : World) (k : ℕ) → kept_flight w.sent k ≡ None → look w.sent k (now_of w (kept_flight w.sent k)) ≡ IsGone
unfolding look
looked_none w k none = ap (λ o. look_at o (now_of w o)) none

pub comes_to : (w : World) (k place : ℕ) (f : Flight) (end : Option FoundEnd) → look w.sent k (now_of w (kept_flight w.sent k)) ≡ Here f → position (λ x. same_address x.address f.to) w.devices ≡ Some place → IsFoundOn (device_with w f.to) f.bytes end → ComesTo w k place end
comes_to w k place f end here at is =
    let s : IsFirstPlace (λ (x : Device). same_address x.address f.to) w.devices place = spot (λ x. same_address x.address f.to) w.devices place at in
    record { flight = f; device = s.thing; here = here; kept = look_keeps w.sent k _ f here; at = s.here; found = s.first; is = subst (λ o. IsFoundOn o f.bytes end) s.first is }

-- .. whatever names the datagram and the device have
pub comes_found : {w : World} {k place : ℕ} {end : Option FoundEnd} → ComesTo w k place end → (f : Flight) → (d : Device) → kept_flight w.sent k ≡ Some f → slice_get w.devices place ≡ Some d → IsFound d (number_at 5 3 f.bytes) end
comes_found {end = end} c f d kept at =
    subst (λ (x : Device). IsFound x (number_at 5 3 f.bytes) end) (same_thing c.device d (sym c.at ∙ at))
    (subst (λ (x : Flight). IsFound c.device (number_at 5 3 x.bytes) end) (same_thing c.flight f (sym c.kept ∙ kept)) c.is)

pub comes_nowhere : (w : World) (k : ℕ) (f : Flight) → look w.sent k (now_of w (kept_flight w.sent k)) ≡ Here f → position (λ x. same_address x.address f.to) w.devices ≡ None → ComesNowhere w k
comes_nowhere w k f here none = record { flight = f; here = here; none = no_device_with w f none }

-- what becomes of a datagram, where it is taken or not
pub untaken : (w : World) (k : ℕ) (l : Look) (a : Answer) → forgetting w.sent ≡ w.sent → look w.sent k (now_of w (kept_flight w.sent k)) ≡ l → ((l ≡ IsGone) × (a ≡ answer.Gone)) ⊎ ((l ≡ IsLost) × (a ≡ answer.Lost)) → Makes (delivers w k) a w
unfolding delivers
untaken w k l a kept h (inl gone) = subst (λ x. Makes (delivers_by w k x) a w) (sym (h ∙ gone.0)) (record { answered = gone.1; left = kept_is w kept })
untaken w k l a kept h (inr lost) = subst (λ x. Makes (delivers_by w k x) a w) (sym (h ∙ lost.0)) (record { answered = lost.1; left = kept_is w kept })

pub taken_aged : (w new : World) (k : ℕ) (s : List Flight) → forgetting w.sent ≡ w.sent → look w.sent k (now_of w (kept_flight w.sent k)) ≡ IsAged → new ≡ record w { sent = s } → s ≡ fabric.took w.sent k → Makes (delivers w k) answer.Aged new
unfolding delivers
taken_aged w new k s kept h left same =
    subst (λ x. Makes (delivers_by w k x) answer.Aged new) (sym h)
    (record { answered = refl; left = left ∙ ap (λ x. record w { sent = x }) (same ∙ took_kept w.sent k kept) })

pub taken_nowhere : (w new : World) (k : ℕ) (s : List Flight) → forgetting w.sent ≡ w.sent → ComesNowhere w k → new ≡ record w { sent = s } → s ≡ fabric.took w.sent k → Makes (delivers w k) (answer.Took (took.Silent why.Unknown) 0 0) new
unfolding delivers
taken_nowhere w new k s kept c left same =
    subst (λ x. Makes (delivers_by w k x) (answer.Took (took.Silent why.Unknown) 0 0) new) (sym c.here)
    (subst (λ o. Makes (reaches (with_taken w k) c.flight o) (answer.Took (took.Silent why.Unknown) 0 0) new) (sym c.none)
    (record { answered = refl; left = left ∙ ap (λ x. record w { sent = x }) (same ∙ took_kept w.sent k kept) }))

pub taken_there : (w new : World) (k place : ℕ) (end : Option FoundEnd) (a : Answer) → (c : ComesTo w k place end) → Makes (reaches (with_taken w k) c.flight (Some c.device)) a new → Makes (delivers w k) a new
unfolding delivers
taken_there w new k place end a c made =
    subst (λ x. Makes (delivers_by w k x) a new) (sym c.here)
    (subst (λ o. Makes (reaches (with_taken w k) c.flight o) a new) (sym c.found) made)

-- the answer to it has the number of the first datagram that answers it
pub numbered_arrival : (t : ArrivalEffect) (next many first count : ℕ) → count ≡ many → first ≡ (if count == 0 then 0 else next) → answer.Took t first count ≡ numbered next (answer.Took t 0 many)
unfolding numbered
numbered_arrival t next many first count same is =
    ap (λ n. answer.Took t n count) is ∙ ap (λ m. answer.Took t (if m == 0 then 0 else next) m) same

-- ---- a datagram is lost

not_kept : (s : List Flight) (k : ℕ) → is_some (kept_flight s k) ≡ false → losing s k ≡ s
unfolding kept_flight losing
not_kept s k h = by (is_kept (length s) k) refl h
  where
    by : (b : Bool) → is_kept (length s) k ≡ b → is_some (if b then slice_get s (k - 1) else None) ≡ false → (if b then changed_at marked_lost (k - 1) s else s) ≡ s
    by true kept none = absurd (cc (ap (λ o. is_some o) (slice_get-get_or s (k - 1) blank (let m : (1 ≤ k) × (k ≤ length s) × (length s < k + 16384) = kept_means (length s) k kept in omega (arith, m.0, m.1))), none))
    by false kept none = refl

pub losing_kept : (s : List Flight) (k : ℕ) → forgetting s ≡ s → losing s k ≡ forgetting (losing s k)
losing_kept s k h = ap (λ x. losing x k) (sym h) ∙ losing-forgetting s k

pub loses_makes : (w new : World) (k : ℕ) (s : List Flight) (a : Answer) → forgetting w.sent ≡ w.sent → new ≡ record w { sent = s } → s ≡ losing w.sent k →
    ((is_some (kept_flight w.sent k) ≡ true) × (a ≡ answer.Done)) ⊎ ((is_some (kept_flight w.sent k) ≡ false) × (a ≡ answer.Gone)) → Makes (loses w k) a new
unfolding loses
loses_makes w new k s a kept left h (inl there) =
    subst (λ b. Makes (if b then answers (record w { sent = losing w.sent k }) answer.Done else answers w answer.Gone) a new) (sym there.0)
    (record { answered = there.1; left = left ∙ ap (λ x. record w { sent = x }) (h ∙ losing_kept w.sent k kept) })
loses_makes w new k s a kept left h (inr none) =
    subst (λ b. Makes (if b then answers (record w { sent = losing w.sent k }) answer.Done else answers w answer.Gone) a new) (sym none.0)
    (record { answered = none.1; left = left ∙ ap (λ x. record w { sent = x }) (h ∙ (not_kept w.sent k none.0 ∙ sym kept)) })

pub wires_kept : (w : World) (k : ℕ) (f : Flight) (bytes : List ℕ) → forgetting w.sent ≡ w.sent → kept_flight w.sent k ≡ Some f → bytes ≡ f.bytes → Makes (wires w k) (answer.Wire bytes) w
unfolding wires
wires_kept w k f bytes kept there same = subst (λ o. Makes (wires_by w o) (answer.Wire bytes) w) (sym there) (record { answered = ap (λ b. answer.Wire b) same; left = kept_is w kept })

pub wires_none : (w : World) (k : ℕ) → forgetting w.sent ≡ w.sent → kept_flight w.sent k ≡ None → Makes (wires w k) answer.Gone w
unfolding wires
wires_none w k kept none = subst (λ o. Makes (wires_by w o) answer.Gone w) (sym none) (stays w answer.Gone kept)
