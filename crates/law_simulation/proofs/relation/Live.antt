-- An event at a live context: both sides have the same there, refuse the same, and change one context.
use Rattle.std.proofs.Common.{◌≡◌, ◌≤◌, arith, ℕ, List, ◌∷◌, map, true, refl, sym, ap, ◌∙◌, subst}
use Rattle.std.specs.Prelude.{not, ◌&&◌}
use Rattle.rdma_types.specs.declared.names.Name.{Name}
use Rattle.rdma_types.specs.declared.answers.Answer.{Answer}
use Rattle.rdma_types.specs.declared.answers.Refusal.TheVariants as refusals
use Rattle.rdma_types.specs.Causes.{Cause, cause, first_cause}
use Rattle.rdma_types.specs.Lists.{store_named, has_name}
use Rattle.protocol.specs.State as state
use Rattle.protocol.specs.State.{World, Device, Progress, context_at, no_context}
use Rattle.protocol.specs.Refusals as refusing
use Rattle.protocol.specs.Refusals.{has_husk}
use Rattle.protocol.specs.DeviceStep as device
use Rattle.protocol.specs.WorldStep.{is_live, home, ran}
use Rattle.packetless_machine.specs.Machine as machine
use Rattle.packetless_machine.specs.Machine.{Machine, End, has_context, regions_of}
use Rattle.packetless_machine.specs.Verbs.{lacks_context}
use Rattle.law_simulation.specs.Views.{context_of, net_of}
use Rattle.law_simulation.specs.Joined.{IsProgress}
use Rattle.law_simulation.specs.Stands.{Stands, AreSame, IsContextSound, IsPlaced, AreProgressing}
use Rattle.law_simulation.proofs.relation.Tables.{map-store, name-named_there}
use Rattle.law_simulation.proofs.relation.Worlds.{WorldChanged, shape_of, home_holds, home_context, ran_changed, ran_counts}
use Rattle.law_simulation.proofs.relation.Machines.{MachineChanged, context_name, with_context_changed}
use Rattle.law_simulation.proofs.relation.Nets.{AreQuiet, net_same, listed_quiet}
use Rattle.law_simulation.proofs.relation.Kept.{quiet_kept, counted_kept, progress_changed}
use Rattle.law_simulation.proofs.relation.Refusing.{Matches, matches_not, matches_not_there}

-- the live context of that name
abbrev pub live_of : World → Name → state.Context
live_of w c = context_at (home w c) c

pub live_name : (w : World) (c : Name) → is_live w c ≡ true → (live_of w c).name ≡ c
live_name w c live = name-named_there (λ x. x.name) no_context c (home w c).contexts (home_holds w c live)

pub live_same : (w : World) (m : Machine) (c : Name) → Stands w m → is_live w c ≡ true → AreSame (live_of w c) (machine.context_of m c)
live_same w m c s live = subst (λ x. AreSame x (machine.context_of m c)) (sym (home_context w c live)) (s.same c)

-- ---- refusals

-- `rest` are the causes that speak of the live context
pub within_matches : (w : World) (m : Machine) (c : Name) (rest ys : List Cause) → is_live w c ≡ true → has_context m c ≡ true → Matches (first_cause rest) (first_cause ys) →
    Matches (first_cause (cause refusals.NoSuch (not (refusing.has_context (home w c) c) && not (has_husk (home w c) c)) ∷ cause refusals.Stopped (not (refusing.has_context (home w c) c)) ∷ rest)) (first_cause (cause refusals.NoSuch (lacks_context m c) ∷ ys))
within_matches w m c rest ys live there matches =
    matches_not_there _ refusals.NoSuch (lacks_context m c) ys (ap not there)
    (matches_not refusals.NoSuch _ _ _ (ap (λ b. not b && not (has_husk (home w c) c)) (home_holds w c live))
    (matches_not refusals.Stopped _ _ _ (ap not (home_holds w c live)) matches))

-- ---- one context changes

-- the device is the home of the context, but for its counts and this context
shape_kept : (d d0 : Device) (c : Name) (x : state.Context) → x.name ≡ c → has_name (λ y. y.name) c d.contexts ≡ true → shape_of d0 ≡ shape_of d → d0.contexts ≡ d.contexts → shape_of (device.with_context d0 x) ≡ shape_of d
unfolding device.with_context
shape_kept d d0 c x named there shape same =
    let names : map (λ y. y.name) (store_named (λ y. y.name) x.name x d0.contexts) ≡ map (λ y. y.name) d.contexts =
    ap (λ k. map (λ y. y.name) (store_named (λ y. y.name) k x d0.contexts)) named
    ∙ (ap (λ cs. map (λ y. y.name) (store_named (λ y. y.name) c x cs)) same
    ∙ map-store (λ y. y.name) (λ y. y.name) no_context c x d.contexts there (named ∙ sym (name-named_there (λ y. y.name) no_context c d.contexts there))) in
    λ i. record { id = (shape i).id; address = (shape i).address; names = names i; husks = (shape i).husks }

contexts_kept : (d d0 : Device) (c : Name) (x : state.Context) → x.name ≡ c → d0.contexts ≡ d.contexts → (device.with_context d0 x).contexts ≡ store_named (λ y. y.name) c x d.contexts
unfolding device.with_context
contexts_kept d d0 c x named same = ap (λ k. store_named (λ y. y.name) k x d0.contexts) named ∙ ap (store_named (λ y. y.name) c x) same

pub home_changed : (w : World) (m : Machine) (c : Name) (x : state.Context) (d0 : Device) (a : Answer) → IsPlaced w m → is_live w c ≡ true → x.name ≡ c → shape_of d0 ≡ shape_of (home w c) → d0.contexts ≡ (home w c).contexts → WorldChanged w (ran w (device.answers (device.with_context d0 x) a)).world c x
home_changed w m c x d0 a placed live named shape same =
    ran_changed w m c x (device.with_context d0 x) a placed live named
    (shape_kept (home w c) d0 c x named (home_holds w c live) shape same)
    (contexts_kept (home w c) d0 c x named same)

pub home_counts : (w : World) (m : Machine) (c : Name) (x : state.Context) (a : Answer) (k : ℕ) → IsPlaced w m → is_live w c ≡ true →
    ((state.device_at w k).qp_count ≤ (state.device_at (ran w (device.answers (device.with_context (home w c) x) a)).world k).qp_count)
    × ((state.device_at w k).key_count ≤ (state.device_at (ran w (device.answers (device.with_context (home w c) x) a)).world k).key_count)
unfolding device.with_context
home_counts w m c x a k placed live = ran_counts w m c (device.with_context (home w c) x) a k placed live refl (omega arith) (omega arith)

-- a verb that changes one context on both sides, and no link, no queue of requests, no number and no key
pub changed_stands_by : (w : World) (m : Machine) (c : Name) (x : state.Context) (y : machine.Context) (a : Answer) → Stands w m → is_live w c ≡ true → has_context m c ≡ true → x.name ≡ c → y.name ≡ c →
    AreQuiet (live_of w c).ends x.ends (machine.context_of m c).ends y.ends → AreSame x y → IsContextSound m.keys y →
    AreProgressing (net_of w m) (regions_of (machine.with_context m c y)) →
    Stands (ran w (device.answers (device.with_context (home w c) x) a)).world (machine.with_context m c y)
unfolding machine.with_context
changed_stands_by w m c x y a s live there named named' quiet same sound progress =
    let cw : WorldChanged w (ran w (device.answers (device.with_context (home w c) x) a)).world c x = home_changed w m c x (home w c) a s.placed live named refl refl in
    let cm : MachineChanged m (machine.with_context m c y) c y = with_context_changed m c y named' there in
    let quiet' : AreQuiet (context_of w c).ends x.ends (machine.context_of m c).ends y.ends = subst (λ z. AreQuiet z.ends x.ends (machine.context_of m c).ends y.ends) (home_context w c live) quiet in
    quiet_kept w (ran w (device.answers (device.with_context (home w c) x) a)).world m (machine.with_context m c y) c x y s (record {
      world = cw;
      machine = cm;
      net = net_same w _ m _ c x y cw cm (named' ∙ sym (context_name m c)) quiet';
      listed = listed_quiet m _ c y _ _ cm (named' ∙ sym (context_name m c)) quiet';
      numbers = refl;
      keys = λ k h. h;
      counted = counted_kept w (ran w (device.answers (device.with_context (home w c) x) a)).world m (λ k. home_counts w m c x a k s.placed live) s.counted;
      same = same;
      sound = sound;
      progress = progress;
    })

-- .. where all that is in progress stays so in the new regions
pub changed_stands : (w : World) (m : Machine) (c : Name) (x : state.Context) (y : machine.Context) (a : Answer) → Stands w m → is_live w c ≡ true → has_context m c ≡ true → x.name ≡ c → y.name ≡ c →
    AreQuiet (live_of w c).ends x.ends (machine.context_of m c).ends y.ends → AreSame x y → IsContextSound m.keys y →
    ((q : End) (domain : Name) (p : Progress) → IsProgress q domain (regions_of m c) p → IsProgress q domain y.regions p) →
    Stands (ran w (device.answers (device.with_context (home w c) x) a)).world (machine.with_context m c y)
changed_stands w m c x y a s live there named named' quiet same sound progress =
    changed_stands_by w m c x y a s live there named named' quiet same sound
    (progress_changed (net_of w m) m (machine.with_context m c y) c y (with_context_changed m c y named' there) progress s.progress)
