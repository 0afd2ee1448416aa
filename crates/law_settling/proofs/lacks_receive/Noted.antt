-- What is known of an end since its RNR timer was stepped in this settling, and that steps keep it.
use Rattle.std.proofs.Common.{◌≡◌, ◌≢◌, ◌⊎◌, ◌-◌, true, false, Bool, refl, sym, ap, ◌∙◌, subst, inl, inr}
use Rattle.std.specs.Prelude.{Some}
use Rattle.rdma_types.specs.declared.names.ObjName.{ObjName}
use Rattle.rdma_types.specs.Spans.{piece_at}
use Rattle.protocol.specs.State.{World, End, Link}
use Rattle.protocol.specs.Settle.{Waited}
use Rattle.packetless_machine.specs.Machine as machine
use Rattle.packetless_machine.specs.Machine.{Machine}
use Rattle.law_simulation.specs.Stands.{Stands}
use Rattle.law_simulation.specs.Views.{name_of}
use Rattle.law_simulation.proofs.relation.Grows.{object_or_not}
use Rattle.law_simulation.proofs.sending.GoLive.{joined_here}
use Rattle.law_settling.proofs.bound.Lives.{at_end}
use Rattle.law_settling.proofs.bound.Turns.{live_end}
use Rattle.law_settling.proofs.sending_stops.Pairs.{is_peer}
use Rattle.law_settling.proofs.sending_stops.Places.{one_named}
use Rattle.law_settling.proofs.lacks_receive.Kept.{IsEndKept, IsEndOn, IsLinkKept, IsLinkOn, IsSenderKept, Linked, end_kept_is_on, linked_after, linked_before, linked_both, some_link, senders_same}
use Rattle.law_settling.proofs.lacks_receive.Answered.{IsFree}
use Rattle.law_settling.proofs.lacks_receive.Stepping.{IsTimed}
use Rattle.law_settling.proofs.lacks_receive.Wanted.{IsWanted}

-- ---- what a step, or a send and all that comes of it, leaves

-- z, which has the link l, went on from w to w': all ends but its partner are kept as responders, and all but z as requesters; z
-- does not wait, or its partner lacks a receive, or z is the same, and so is its partner as a responder
pub record HasGone (w w' : World) (z : ObjName) (l : Link) : Type 0 where
  pub on : (k : ObjName) → IsEndOn (at_end w k) (at_end w' k)
  pub kept : (k : ObjName) → ((at_end w k).number ≡ l.peer → ⊥) → IsEndKept (at_end w k) (at_end w' k)
  pub requesters : (k : ObjName) → k ≢ z → Linked IsSenderKept (at_end w k).link (at_end w' k).link
  pub own : (l' : Link) → (at_end w' z).link ≡ Some l' → IsFree l' ⊎ IsWanted w' l' ⊎ ((l'.sender ≡ l.sender) × ((k : ObjName) → IsEndKept (at_end w k) (at_end w' k)))

-- an expiry, or the end of a timer
pub timed_gone : (w w' : World) (o : ObjName) (l : Link) → IsTimed w w' o → HasGone w w' o l
timed_gone w w' o l t = record {
  on = λ k. end_kept_is_on (at_end w k) (at_end w' k) (t.kept k);
  kept = λ k ne. t.kept k;
  requesters = λ k ne. subst (λ (e : End). Linked IsSenderKept (at_end w k).link e.link) (sym (t.others k ne)) (senders_same (at_end w k).link);
  own = λ l' h. inl (t.free l' h);
}

-- ---- notes

-- the partner of the end with the link l lives in Error
pub record IsLost (w : World) (l : Link) : Type 0 where
  pub partner : ObjName
  pub link : Link
  pub linked : (at_end w partner).link ≡ Some link
  pub number : (at_end w partner).number ≡ l.peer
  pub ended : link.ended ≡ true

-- what is true of the end with the link l whose timer was last stepped as x says
pub record IsNoted (w : World) (l : Link) (x : Waited) : Type 0 where
  -- where it waits, its partner lacks a receive, or went to Error since
  pub told : l.ended ≡ false → l.sender.rnr_wait ≡ true → IsWanted w l ⊎ (IsLost w l × (x.partner_ended ≡ false))
  -- where its partner was in Error then, it is now
  pub over : x.partner_ended ≡ true → (p : ObjName) (lp : Link) → (at_end w p).link ≡ Some lp → (at_end w p).number ≡ l.peer → lp.ended ≡ true

-- an end is the partner of one end
pub one_partner : (w : World) (m : Machine) → Stands w m → (a b p : ObjName) (la lb lp : Link) → (at_end w a).link ≡ Some la → (at_end w b).link ≡ Some lb → (at_end w p).link ≡ Some lp → (at_end w p).number ≡ la.peer → (at_end w p).number ≡ lb.peer → a ≡ b
one_partner w m s a b p la lb lp ata atb atp na nb =
    let here : name_of m (at_end w p).number ≡ p = one_named w m p lp s atp in
    let pa : (machine.end_of m a).peer ≡ p = is_peer w m a p la lp s (live_end w m a la s ata) (live_end w m p lp s atp) (ap (name_of m) (sym na) ∙ here) in
    let pb : (machine.end_of m b).peer ≡ p = is_peer w m b p lb lp s (live_end w m b lb s atb) (live_end w m p lp s atp) (ap (name_of m) (sym nb) ∙ here) in
    sym (joined_here w m a la s (live_end w m a la s ata)).back
    ∙ (ap (λ n. (machine.end_of m n).peer) (pa ∙ sym pb) ∙ (joined_here w m b lb s (live_end w m b lb s atb)).back)

module _ (w w' : World) (m : Machine) (s : Stands w m) (z : ObjName) (lz : Link) (atz : (at_end w z).link ≡ Some lz) (g : HasGone w w' z lz) (o : ObjName) (l l' : Link) (at : (at_end w o).link ≡ Some l) (at' : (at_end w' o).link ≡ Some l') (x : Waited) (noted : IsNoted w l x) where
  on : IsLinkOn l l'
  on = linked_both IsLinkOn (at_end w o).link (at_end w' o).link l l' (g.on o).links at at'

  over_now : x.partner_ended ≡ true → (p : ObjName) (lp : Link) → (at_end w' p).link ≡ Some lp → (at_end w' p).number ≡ l'.peer → lp.ended ≡ true
  over_now t p lp there number =
      let b = linked_before IsLinkOn (at_end w p).link (at_end w' p).link lp (g.on p).links there in
      b.2.ended (noted.over t p b.0 b.1 (sym (g.on p).number ∙ (number ∙ on.peer)))

  -- where the requester is the same, and the partner is kept
  module _ (same : l'.sender ≡ l.sender) (kept : (p : ObjName) (lp : Link) → (at_end w p).link ≡ Some lp → (at_end w p).number ≡ l.peer → IsEndKept (at_end w p) (at_end w' p)) where
    still_lost : IsLost w l → IsLost w' l'
    still_lost t =
        let a = linked_after IsLinkOn (at_end w t.partner).link (at_end w' t.partner).link t.link (g.on t.partner).links t.linked in
        record { partner = t.partner; link = a.0; linked = a.1; number = (g.on t.partner).number ∙ (t.number ∙ sym on.peer); ended = a.2.ended t.ended }

    not_then : (t : IsWanted w l) → x.partner_ended ≡ false
    not_then t = by_test x.partner_ended refl
      where
        by_test : (b : Bool) → x.partner_ended ≡ b → x.partner_ended ≡ false
        by_test false h = h
        by_test true h = absurd (cc (noted.over h t.partner t.link t.linked t.number, t.alive))

    still_wanted : IsWanted w l → IsWanted w' l' ⊎ (IsLost w' l' × (x.partner_ended ≡ false))
    still_wanted t =
        let k : IsEndKept (at_end w t.partner) (at_end w' t.partner) = kept t.partner t.link t.linked t.number in
        let a = linked_after IsLinkKept (at_end w t.partner).link (at_end w' t.partner).link t.link k.links t.linked in
        by_ended k a.0 a.1 a.2 a.0.ended refl
      where
        by_ended : IsEndKept (at_end w t.partner) (at_end w' t.partner) → (lp : Link) → (at_end w' t.partner).link ≡ Some lp → IsLinkKept t.link lp → (b : Bool) → lp.ended ≡ b → IsWanted w' l' ⊎ (IsLost w' l' × (x.partner_ended ≡ false))
        by_ended k lp there ka true h = inr (record { partner = t.partner; link = lp; linked = there; number = k.number ∙ (t.number ∙ sym on.peer); ended = h }, not_then t)
        by_ended k lp there ka false h = inl (record {
          partner = t.partner;
          link = lp;
          linked = there;
          number = k.number ∙ (t.number ∙ sym on.peer);
          alive = h;
          expects = ka.expected ∙ (t.expects ∙ ap (λ z. z.una) (sym same));
          dry = k.unused t.dry;
          piece = t.piece;
          is = (λ i. piece_at (same i).untold (on.terms i).mtu ((same i).una - (same i).first)) ∙ t.is;
          needs = t.needs;
        })

    still_told : IsWanted w l ⊎ (IsLost w l × (x.partner_ended ≡ false)) → IsWanted w' l' ⊎ (IsLost w' l' × (x.partner_ended ≡ false))
    still_told (inl t) = still_wanted t
    still_told (inr t) = inr (still_lost t.0, t.1)

  alive_before : l'.ended ≡ false → l.ended ≡ false
  alive_before h = by_test l.ended refl
    where
      by_test : (b : Bool) → l.ended ≡ b → l.ended ≡ false
      by_test false t = t
      by_test true t = absurd (cc (on.ended t, h))

  not_free : IsFree l' → l'.ended ≡ false → l'.sender.rnr_wait ≡ true → ⊥
  not_free (inl a) h k = cc (a, h)
  not_free (inr b) h k = cc (b, k)

  abbrev Told : Type 0
  Told = IsWanted w' l' ⊎ (IsLost w' l' × (x.partner_ended ≡ false))

  -- another end
  told_other : o ≢ z → l'.ended ≡ false → l'.sender.rnr_wait ≡ true → IsSenderKept l l' → Told
  told_other ne h k (inl a) = absurd (cc (a, h))
  told_other ne h k (inr (inl a)) = absurd (cc (a, k))
  told_other ne h k (inr (inr same)) =
      still_told same (λ p lp there number. g.kept p (λ t. ne (one_partner w m s o z p l lz lp at atz there number t)))
      (noted.told (alive_before h) (ap (λ y. y.rnr_wait) (sym same) ∙ k))

  same_link : o ≡ z → l ≡ lz
  same_link h = some_link l lz (sym at ∙ (ap (λ n. (at_end w n).link) h ∙ atz))

  -- z itself
  told_own : o ≡ z → l'.ended ≡ false → l'.sender.rnr_wait ≡ true → IsFree l' ⊎ IsWanted w' l' ⊎ ((l'.sender ≡ lz.sender) × ((k : ObjName) → IsEndKept (at_end w k) (at_end w' k))) → Told
  told_own e h k (inl a) = absurd (not_free a h k)
  told_own e h k (inr (inl a)) = inl a
  told_own e h k (inr (inr a)) =
      let same : l'.sender ≡ l.sender = a.0 ∙ ap (λ y. y.sender) (sym (same_link e)) in
      still_told same (λ p lp there number. a.1 p) (noted.told (alive_before h) (ap (λ y. y.rnr_wait) (sym same) ∙ k))

  told_now : l'.ended ≡ false → l'.sender.rnr_wait ≡ true → Told
  told_now h k = elim (object_or_not o z) [
    | inl e ↦ told_own e h k (g.own l' (ap (λ n. (at_end w' n).link) (sym e) ∙ at'))
    | inr ne ↦ told_other ne h k (linked_both IsSenderKept (at_end w o).link (at_end w' o).link l l' (g.requesters o ne) at at')
  ]

  -- what is noted stays true
  pub noted_on : IsNoted w' l' x
  noted_on = record { told = told_now; over = over_now }
