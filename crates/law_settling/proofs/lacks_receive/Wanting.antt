-- An end that is left waiting by a settling lacks a receive.
use Rattle.std.proofs.Common.{◌≡◌, true, false, Bool, refl, sym, ap, ◌∙◌, subst, inl, inr}
use Rattle.std.specs.Prelude.{Contains, Option, Some, None, ◌==◌, ◌&&◌, ◌||◌, not}
use Rattle.std.proofs.lemmas.List.Elements.{All-contains}
use Rattle.rdma_types.specs.declared.names.ObjName.{ObjName}
use Rattle.protocol.specs.declared.events.WorldEvent.{WorldEvent}
use Rattle.protocol.specs.EndWords.{is_paused, is_resuming, is_running}
use Rattle.protocol.specs.State.{World, Link}
use Rattle.protocol.specs.Settle.{Settling, Waited, last_wait, link_at, live_names, may_step, partner_ended, settled}
use Rattle.packetless_machine.specs.Machine.{Machine}
use Rattle.law_simulation.specs.Law.{AlwaysFollows}
use Rattle.law_simulation.specs.Quiet.{lacks_receive}
use Rattle.law_simulation.specs.Stands.{Stands}
use Rattle.law_settling.specs.Drained.{DrainingDrains}
use Rattle.law_settling.specs.Weights.{TakingLightens}
use Rattle.law_settling.specs.Ends.{Ends, SettlingEnds, after_rounds, started}
use Rattle.law_settling.proofs.bound.Lives.{at_end, link_is}
use Rattle.law_settling.proofs.bound.Rounds.{names_stay}
use Rattle.law_settling.specs.Rests.{SettlingRests}
use Rattle.law_settling.proofs.at_rest.Resting.{IsLast, last_round, live_named, rnr_test, rnr_test_by, visits}
use Rattle.law_settling.specs.Wants.{SettlingWants}
use Rattle.law_settling.proofs.lacks_receive.Partners.{lost_ended}
use Rattle.law_settling.proofs.lacks_receive.Walking.{AreNoted, visits_noted}
use Rattle.law_settling.proofs.lacks_receive.Wanted.{lacks}

alive_is : (l : Link) → is_running (Some l) ≡ true → l.ended ≡ false
alive_is l h = by_test l.ended (not (is_paused l.moving.phase) && not (is_resuming l.moving.phase)) h
  where
    by_test : (a b : Bool) → (not a && b) ≡ true → a ≡ false
    by_test true b t = absurd (cc)
    by_test false b t = refl

right_false : (a b : Bool) → a ≡ true → (a && b) ≡ false → b ≡ false
right_false true b h t = t
right_false false b h t = absurd (cc)

-- what its test says: there was a step since which its partner did not go to Error
may_not : (w : World) (l : Link) (x : Waited) → may_step w l (Some x) ≡ false → partner_ended w l ≡ true → x.partner_ended ≡ false → ⊥
may_not w l x h ended before = by_tests (not (l.terms.rnr == 7)) (not (x.una == l.sender.una)) (partner_ended w l) x.partner_ended h ended before
  where
    by_tests : (a b c d : Bool) → (a || (b || (c && not d))) ≡ false → c ≡ true → d ≡ false → ⊥
    by_tests true b c d t u v = cc
    by_tests false true c d t u v = cc
    by_tests false false true false t u v = cc
    by_tests false false true true t u v = cc
    by_tests false false false d t u v = cc

module _ (t : Settling) (noted : AreNoted t) (m' : Machine) (stands : Stands t.world m') (o : ObjName) (l : Link) (at : (at_end t.world o).link ≡ Some l) (alive : l.ended ≡ false) (wait : l.sender.rnr_wait ≡ true) (rnr : l.terms.rnr ≡ 7) where
  by_note : (r : Option Waited) → last_wait t o ≡ r → may_step t.world l r ≡ false → lacks_receive m' o ≡ true
  by_note None h test = absurd (cc)
  by_note (Some x) h test = elim ((noted.notes o l x at h).told alive wait) [
    | inl want ↦ lacks t.world m' o l stands at alive rnr want
    | inr lost ↦ absurd (may_not t.world l x test (lost_ended t.world l lost.0) lost.1)
  ]

pub wants : TakingLightens → ((e : WorldEvent) → AlwaysFollows e) → SettlingEnds → DrainingDrains → SettlingRests → SettlingWants
wants lightens follows ends drains rests w m m' s s' o l there running wait =
    let e : Ends w = ends w m s in
    let t : Settling = after_rounds e.n (started w) in
    let k : IsLast t = last_round t e.still in
    let v : World = (visits t).world in
    let is : (settled w).world ≡ v = ap (λ z. z.world) e.settled ∙ k.same in
    let stands : Stands v m' = subst (λ z. Stands z m') is s' in
    let linked : link_at v o ≡ Some l = subst (λ z. link_at z o ≡ Some l) is there in
    let at : (at_end v o).link ≡ Some l = sym (link_is v o) ∙ linked in
    let names : live_names v ≡ live_names t.world = names_stay drains lightens follows w m s e.n in
    let test : rnr_test (visits t) o ≡ false = All-contains (λ n. rnr_test (visits t) n ≡ false) (live_names t.world) o k.no_wait (subst (λ ns. Contains ns o) names (live_named v o l at)) in
    let test_l : (l.sender.rnr_wait && may_step v l (last_wait (visits t) o)) ≡ false = sym (ap (rnr_test_by (visits t) o) linked) ∙ test in
    by_note (visits t) (visits_noted drains lightens follows w m s e.n) m' stands o l at (alive_is l running) wait ((rests w m s).endless o l there running wait) (last_wait (visits t) o) refl (right_false l.sender.rnr_wait _ wait test_l)
