-- Events that prepare devices send nothing and carry nothing, so that the world that they lead to is an opening.
use Rattle.std.proofs.Common.{arith, ◌≡◌, ◌≤◌, ℕ, List, [], ◌∷◌, ◌++◌, Bool, true, false, Option, Some, None, refl, sym, ap, ◌∙◌, if◌then◌else◌}
use Rattle.std.specs.Prelude.{◌==◌, ◌&&◌, ◌||◌, length, map, nat_le}
use Rattle.std.specs.List.{count_by, list_all}
use Rattle.std.proofs.lemmas.Bool.Decides.{nat_tests, eqb_tells}
use Rattle.std.proofs.lemmas.List.{append-nil}
use Rattle.rdma_types.specs.declared.answers.Answer.TheVariants as answer
use Rattle.rdma_types.specs.declared.answers.Refusal.{Refusal}
use Rattle.rdma_types.specs.declared.names.ObjName.{ObjName}
use Rattle.rdma_types.specs.declared.requests.Request.{Request}
use Rattle.rdma_types.specs.declared.requests.Terms.{Terms}
use Rattle.rdma_types.specs.declared.answers.Refusal.TheVariants as refusal
use Rattle.rdma_types.specs.Causes.{cause, first_cause}
use Rattle.rdma_types.specs.Limits.{most_devices}
use Rattle.rdma_types.specs.Lists.{at, has, has_name, some}
use Rattle.protocol.specs.declared.events.Event.{Event}
use Rattle.protocol.specs.declared.events.Event.TheVariants as event
use Rattle.protocol.specs.declared.events.WorldEvent.{WorldEvent}
use Rattle.protocol.specs.declared.events.WorldEvent.TheVariants as world_event
use Rattle.protocol.specs.declared.images.ContextImage.{ContextImage}
use Rattle.protocol.specs.DeviceStep as device
use Rattle.protocol.specs.DeviceStep.{device_step, done_by}
use Rattle.protocol.specs.Fabric.{sending}
use Rattle.protocol.specs.State.{Context, Device, End, Link, World, device_at, empty_world}
use Rattle.protocol.specs.WorldStep as step
use Rattle.protocol.specs.WorldStep.{exchanged, home, runs, world_after, world_step}
use Rattle.packetless_machine.specs.Machine.{Machine, empty}
use Rattle.law_simulation.specs.Law.{FollowsRun, Law, joined_steps}
use Rattle.order_rules.specs.AnyOpening.{ArePreparing, IsOpened, IsOpening, is_preparing, prepares}
use Rattle.order_rules.specs.Hears.{heard}
use Rattle.order_rules.specs.Lines.{flown_after, opening_of}
use Rattle.order_rules.specs.Order.{with_stopped}
use Rattle.order_rules.specs.Sides.{carried_after}
use Rattle.law_simulation.proofs.relation.Tables.{count_by-cons}
use Rattle.law_orders.proofs.Devices.{IsNoStop, step_plain}
use Rattle.law_orders.proofs.Orders.{AreApart, AreBegun, AreOwn, after_none}
use Rattle.law_orders.proofs.Playing.{ran_carried, ran_sent}
use Rattle.law_orders.proofs.Walk.{Reached}

-- ---- a step of a device

no_stop : (e : Event) → is_preparing e ≡ true → IsNoStop e
no_stop (event.Stop name alone) h = absurd (cc)
no_stop other h = tt

posts_silent : (d : Device) (c : Context) (e : End) (l : Option Link) (r : Request) → (device.posts_at d c e l r).outcome.sent ≡ []
posts_silent d c e None r = refl
posts_silent d c e (Some l) r = refl

done_silent : (d : Device) (e : Event) → is_preparing e ≡ true → (done_by d e).outcome.sent ≡ []
unfolding device.makes_context device.makes_domain device.makes_region device.makes_queue device.makes_end device.connects device.drops device.stores device.loads device.posts device.receives device.polls
done_silent d (event.MakeContext name) h = refl
done_silent d (event.MakeDomain o) h = refl
done_silent d (event.MakeRegion o domain base count rights) h = refl
done_silent d (event.MakeCq o capacity) h = refl
done_silent d (event.MakeQp o domain send_cq recv_cq send_depth recv_depth) h = refl
done_silent d (event.Connect o peer partner terms) h = refl
done_silent d (event.DropRegion o) h = refl
done_silent d (event.Store o at bytes) h = refl
done_silent d (event.Load o at count) h = refl
done_silent d (event.PostSend o r) h = posts_silent d _ _ _ r
done_silent d (event.PostRecv o r) h = refl
done_silent d (event.Poll o most) h = refl
done_silent d (event.Transmit o) h = absurd (cc)
done_silent d (event.Arrive from bytes) h = absurd (cc)
done_silent d (event.Expire o) h = absurd (cc)
done_silent d (event.RnrOver o) h = absurd (cc)
done_silent d (event.Stop name alone) h = absurd (cc)
done_silent d (event.Restore image) h = absurd (cc)
done_silent d (event.Release name) h = absurd (cc)

silent_by : (d : Device) (e : Event) (r : Option Refusal) → is_preparing e ≡ true → (device.by_refusal d e r).outcome.sent ≡ []
silent_by d e (Some r) h = refl
silent_by d e None h = done_silent d e h

step_silent : (d : Device) (e : Event) → is_preparing e ≡ true → (device_step d e).outcome.sent ≡ []
unfolding device_step
step_silent d e h = silent_by d e _ h

-- ---- a step of a world

-- the world v carries what w carries, and has sent what w has
record IsLike (w v : World) : Type 0 where
  carried : v.carried ≡ w.carried
  sent : v.sent ≡ w.sent

like_then : (u v w : World) → IsLike v w → IsLike u v → IsLike u w
like_then u v w b a = record { carried = b.carried ∙ a.carried; sent = b.sent ∙ a.sent }

runs_like : (w : World) (d : Device) (e : Event) → is_preparing e ≡ true → IsLike w (runs w d e).world
unfolding sending
runs_like w d e h = record {
  carried = ran_carried w (device_step d e) ∙ ap (λ o. with_stopped o w.carried) (step_plain d e (no_stop e h)).image;
  sent = ran_sent w (device_step d e) ∙ (ap (λ xs. sending w.sent (device_step d e).device.address xs) (step_silent d e h) ∙ append-nil w.sent);
}

refused_like : (w : World) (r : Option Refusal) (s : step.Step) → IsLike w s.world → IsLike w (step.by_refusal w r s).world
refused_like w (Some r) s h = record { carried = refl; sent = refl }
refused_like w None s h = h

added_like : (w : World) (r : Option Refusal) (ds : List Device) → IsLike w (step.by_refusal w r (step.answers (record w { devices = ds }) answer.Done)).world
added_like w (Some r) ds = record { carried = refl; sent = refl }
added_like w None ds = record { carried = refl; sent = refl }

connected_like : (w : World) (one two : ObjName) (terms : Terms) → IsLike w (step.connects_one w one two terms)
unfolding step.connects_one
connected_like w one two terms = runs_like w (home w one.context) (event.Connect one (step.end_of w two).number (home w two.context).address terms) refl

step_like : (w : World) (x : WorldEvent) → prepares x ≡ true → IsLike w (world_step w x).world
unfolding world_step step.adds_device step.makes_context step.steps_at step.connects
step_like w (world_event.AddDevice id address) h =
    added_like w (first_cause (cause refusal.NumberTaken (step.has_device w id || some (λ d. step.same_address d.address address) w.devices) ∷ cause refusal.TooMany (nat_le most_devices (length w.devices)) ∷ []))
    (w.devices ++ record { id = id; address = address; qp_count = 0; key_count = 0; contexts = []; husks = [] } ∷ [])
step_like w (world_event.MakeContext n k) h = refused_like w _ _ (runs_like w (device_at w k) (event.MakeContext n) refl)
step_like w (world_event.At e) h = refused_like w _ _ (runs_like w (home w (step.context_of_event e)) e h)
step_like w (world_event.Connect one two terms) h =
    refused_like w _ _ (like_then w (step.connects_one w one two terms) _ (connected_like (step.connects_one w one two terms) two one (exchanged terms)) (connected_like w one two terms))
step_like w other h = absurd (cc)

and_both : (a b : Bool) → (a && b) ≡ true → (a ≡ true) × (b ≡ true)
and_both true b h = (refl, h)
and_both false b h = absurd (cc)

all_like : (w : World) (xs : List WorldEvent) → list_all prepares xs ≡ true → IsLike w (world_after w xs)
unfolding world_after
all_like w [] h = record { carried = refl; sent = refl }
all_like w (x ∷ xs) h =
    let both = and_both (prepares x) (list_all prepares xs) h in
    like_then w (world_step w x).world (world_after (world_step w x).world xs) (all_like (world_step w x).world xs both.1) (step_like w x both.0)

-- ---- the world after them

module _ (law : Law) (es : List WorldEvent) (prepared : ArePreparing es) where
  followed : FollowsRun empty_world empty es
  followed = law.run es prepared.in_range

  pub opened : IsOpened es
  opened =
      let like = all_like empty_world es prepared.prepare in
      record {
        run = joined_steps followed.steps;
        is_run = followed.is_run;
        heard_all = followed.heard;
        opening = record { stands = followed.stands; uncarried = like.carried };
        unsent = like.sent;
      }

-- ---- the devices of an opening differ in their ids

none_counted : (k : ℕ) (ds : List Device) → count_by (λ x. x == k) (map (λ d. d.id) ds) ≤ 0 → has (λ d. d.id) k ds ≡ false
unfolding has
none_counted k [] none = refl
none_counted k (d ∷ ds) none = grind (arith, none, count_by-cons (λ x. x == k) d.id (map (λ y. y.id) ds), none_counted k ds)

apart : (ds : List Device) → ((k : ℕ) → count_by (λ x. x == k) (map (λ d. d.id) ds) ≤ 1) → AreApart ds
apart [] once = tt
apart (d ∷ ds) once = (
  none_counted d.id ds (grind (arith, once d.id, count_by-cons (λ x. x == d.id) d.id (map (λ y. y.id) ds), nat_tests, eqb_tells d.id d.id)),
  apart ds (λ k. grind (arith, once k, count_by-cons (λ x. x == k) d.id (map (λ y. y.id) ds))),
)

or_both : (a b : Bool) → (a || b) ≡ false → (a ≡ false) × (b ≡ false)
or_both true b h = absurd (cc)
or_both false b h = (refl, h)

own_later : (d : Device) (os ds : List Device) → has (λ x. x.id) d.id ds ≡ false → AreOwn os ds → AreOwn (d ∷ os) ds
unfolding has at
own_later d os [] none own = tt
own_later d os (x ∷ ds) none own =
    let both = or_both (x.id == d.id) (has (λ y. y.id) d.id ds) none in
    let other : (d.id == x.id) ≡ false = grind (arith, nat_tests, eqb_tells x.id d.id, eqb_tells d.id x.id, both.0) in
    (ap (λ b. if b then d else opening_of os x.id) other ∙ own.0, own_later d os ds both.1 own.1)

owns : (ds : List Device) → AreApart ds → AreOwn ds ds
unfolding at
owns [] each = tt
owns (d ∷ ds) each =
    let own : (d.id == d.id) ≡ true = grind (arith, nat_tests, eqb_tells d.id d.id) in
    (ap (λ b. if b then d else opening_of ds d.id) own, own_later d ds ds each.0 (owns ds each.1))

module _ (w : World) (m : Machine) (opening : IsOpening w m) where
  pub begun : AreBegun w.devices
  begun = let each = apart w.devices opening.stands.placed.ids_once in record { apart = each; own = owns w.devices each }

  nothing_carried : (n : List ℕ) → has_name (λ (c : ContextImage). c.name) n [] ≡ true → ⊥
  unfolding has_name
  nothing_carried n h = cc

  pub starts : Reached w.devices m [] []
  unfolding heard flown_after carried_after
  starts = record {
    world = w;
    steps = [];
    is_run = tt;
    heard_all = refl;
    stands = opening.stands;
    devices = sym (after_none w.devices begun);
    carried = opening.uncarried;
    sent = λ k f h. absurd (cc);
    stopped = λ n there. absurd (nothing_carried n (sym (ap (has_name (λ c. c.name) n) opening.uncarried) ∙ there));
    untaken = tt;
  }

  -- they start in this world
  pub starts_world : starts.world ≡ w
  unfolding starts
  starts_world = refl
