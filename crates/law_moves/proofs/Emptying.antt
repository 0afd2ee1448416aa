-- The contexts of a device leave one by one, and each lives where the list says.
use Rattle.std.proofs.Common.{arith, ◌≡◌, ◌≢◌, ℕ, suc, List, [], ◌∷◌, ◌++◌, map, true, false, Bool, refl, sym, ap, ◌∙◌, subst, ◌⊎◌, inl, inr, Option, Some, None}
use Rattle.std.specs.Prelude.{bytes_eq, ◌||◌, ◌==◌, if◌then◌else◌, All, Contains}
use Rattle.std.proofs.lemmas.Bool.Decides.{nat_tests, eqb_tells}
use Rattle.std.proofs.lemmas.List.{append_assoc, append-nil, map-append}
use Rattle.std.proofs.lemmas.List.Elements.{All-append, All-cons, All-nil, All-tail, All-weaker}
use Rattle.rdma_types.specs.declared.names.Name.{Name}
use Rattle.rdma_types.specs.Lists.{at, first_that, has_name, has_word, without}
use Rattle.protocol.specs.declared.events.WorldEvent.TheVariants as world_event
use Rattle.protocol.specs.declared.images.ContextImage.{ContextImage}
use Rattle.protocol.specs.Images.{IsMoved, context_of, image_of, moved}
use Rattle.protocol.specs.Refusals.{has_context}
use Rattle.protocol.specs.Script.{Happening, Settles, happens}
use Rattle.protocol.specs.State.{Context, Device, World, device_at, no_device}
use Rattle.protocol.specs.WorldStep.{carried_image, is_carried, live_context, world_step}
use Rattle.packetless_machine.specs.Machine.{Machine}
use Rattle.law_simulation.specs.Stands.{Stands}
use Rattle.law_simulation.proofs.relation.Tables.{has_name-push, same_name}
use Rattle.law_simulation.proofs.relation.Worlds.{Shape, shape_of}
use Rattle.law_headline.specs.Does.{IsWithin}
use Rattle.law_headline.specs.Follows.{FollowsAll}
use Rattle.law_headline.specs.Script.{world_left}
use Rattle.evac_rules.specs.declared.moves.Shifted.{Shifted}
use Rattle.evac_rules.specs.declared.moves.StayReason.{StayReason}
use Rattle.evac_rules.specs.declared.moves.StayReason.TheVariants as why
use Rattle.evac_rules.specs.Evacuation.{AreTargets, Evacuation, Fault, NoSuch, Stays, Tried, are_devices, begun, doing, emptying, evacuation, failed, moves, moving, names_on, placed, placed_by, release, restore, returned, stay_of, stop, stopped_by, takes, tries, with_moved}
use Rattle.law_moves.specs.Evacuated.{DevicesAreEmptied, DevicesKeepTheRest, IsEvacuated, IsLeftWith, IsShifted, IsThere, LivesOn, StaysBy, shift}
use Rattle.law_moves.proofs.Leading.{Leads, left_on, leads_on, step_leads, tries_lead}
use Rattle.law_moves.proofs.Lists.{has_word-names}
use Rattle.law_moves.proofs.Restores.{IsCarried, IsHere, IsReleased, IsTaken, IsTried, release_ends, restore_ends, taken_here}
use Rattle.law_moves.proofs.Settles.{IsKept, SettlingLaws, settling_is_kept}
use Rattle.law_moves.proofs.Stops.{IsGone, IsStopped, stop_ends}
use Rattle.law_moves.proofs.Trying.{EndsTries, IsPlaced, IsUntaken, tries_end}

-- what the laws of lines, of settling and of images say
pub record AreLaws : Type 0 where
  pub follow : (w : World) (m : Machine) (hs : List Happening) → All IsWithin hs → Stands w m → FollowsAll w m hs
  pub settling : SettlingLaws
  pub moved : (i : ContextImage) → IsMoved i (moved (context_of i))

-- a world stands for a state of the machine
abbrev pub IsStanding : World → Type 0
IsStanding w = (m : Machine) × Stands w m

pub stands_on : AreLaws → (w : World) (h : Happening) → IsWithin h → IsStanding w → IsStanding (happens w h).world
stands_on laws w h within s =
    let f = laws.follow w s.0 (h ∷ []) (All-cons IsWithin h [] within (All-nil IsWithin)) s.1 in
    (_, f.1)

-- ---- names on devices

lives_by : (w : World) (k : ℕ) (n : Name) → has_context (device_at w k) n ≡ has_word n (names_on w k)
lives_by w k n = sym (has_word-names (λ c. c.name) n (device_at w k).contexts)

at-shapes : (k : ℕ) (ds : List Device) → at (λ (s : Shape). s.id) (shape_of no_device) k (map shape_of ds) ≡ shape_of (at (λ d. d.id) no_device k ds)
unfolding at
at-shapes k [] = refl
at-shapes k (d ∷ ds) = grind (arith, nat_tests, at-shapes k ds)

kept_names : (w w' : World) (k : ℕ) → IsKept w w' → names_on w' k ≡ names_on w k
kept_names w w' k kept = ap (λ s. s.names) (sym (at-shapes k w'.devices) ∙ (ap (at (λ (s : Shape). s.id) (shape_of no_device) k) kept.shapes ∙ at-shapes k w.devices))

pub kept_lives : (w w' : World) (k : ℕ) (n : Name) → IsKept w w' → LivesOn w k n → LivesOn w' k n
kept_lives w w' k n kept lives = lives_by w' k n ∙ (ap (has_word n) (kept_names w w' k kept) ∙ (sym (lives_by w k n) ∙ lives))

names_without : (n : Name) (ns : List Name) (cs : List Context) → map (λ c. c.name) cs ≡ n ∷ ns → map (λ c. c.name) (without (λ c. c.name) n cs) ≡ ns
unfolding without
names_without n ns [] h = absurd (cc)
names_without n ns (c ∷ cs) h =
    let first : c.name ≡ n = cc in
    let rest : map (λ z. z.name) cs ≡ ns = cc in
    ap (λ b. map (λ z. z.name) (if b then cs else c ∷ without (λ z. z.name) n cs)) (ap (λ j. bytes_eq j n) first ∙ same_name n) ∙ rest

all_named : (ns : List Name) → All (λ n. has_word n ns ≡ true) ns
unfolding has_name
all_named [] = All-nil _
all_named (n ∷ ns) =
    All-cons (λ k. has_word k (n ∷ ns) ≡ true) n ns (ap (λ b. b || has_word n ns) (same_name n))
    (All-weaker (λ k. has_word k ns ≡ true) (λ k. has_word k (n ∷ ns) ≡ true) (λ k h. or_second (bytes_eq n k) (has_word k ns) h) ns (all_named ns))
  where
    or_second : (a b : Bool) → b ≡ true → (a || b) ≡ true
    or_second true b h = refl
    or_second false b h = h

-- those that are named live there
all_live : (w : World) (k : ℕ) (ns : List Name) → names_on w k ≡ ns → All (LivesOn w k) ns
all_live w k ns is = All-weaker (λ n. has_word n ns ≡ true) (LivesOn w k) (λ n h. lives_by w k n ∙ (ap (has_word n) is ∙ h)) ns (all_named ns)

in_front : (n : Name) (xs ys : List Name) → has_word n xs ≡ true → has_word n (xs ++ ys) ≡ true
unfolding has_name
in_front n [] ys h = absurd (cc)
in_front n (x ∷ xs) ys h = grind (arith, in_front n xs ys)

-- .. also where one more lives there
all_live_too : (w : World) (k : ℕ) (ns more : List Name) → names_on w k ≡ ns ++ more → All (LivesOn w k) ns
all_live_too w k ns more is =
    All-weaker (λ n. has_word n ns ≡ true) (LivesOn w k) (λ n h. lives_by w k n ∙ (ap (has_word n) is ∙ in_front n ns more h)) ns (all_named ns)

-- ---- which contexts stay where they live, but on the device that is emptied

abbrev pub Grows : ℕ → World → World → Type 0
Grows from w w' = (k : ℕ) → k ≢ from → (n : Name) → LivesOn w k n → LivesOn w' k n

grows_then : (from : ℕ) (a b c : World) → Grows from a b → Grows from b c → Grows from a c
grows_then from a b c h k j ne n l = k j ne n (h j ne n l)

gone_grows : (from : ℕ) (w w' : World) (n : Name) → IsGone w w' from n → Grows from w w'
gone_grows from w w' n g k ne c l = ap (λ (d : Device). has_context d c) (g.others k ne) ∙ l

kept_grows : (from : ℕ) (w w' : World) → IsKept w w' → Grows from w w'
kept_grows from w w' kept k ne n l = kept_lives w w' k n kept l

pub taken_grows : (from t : ℕ) (w w' : World) (n : Name) (i : ContextImage) → IsTaken w w' t n i → Grows from w w'
taken_grows from t w w' n i taken k ne c l = elim (number_or_not k t) [
  | inl is ↦
      ap (λ j. has_context (device_at w' j) c) is
      ∙ (ap (λ (d : Device). has_context d c) taken.device
      ∙ (has_name-push (λ z. z.name) c (device_at w t).contexts (moved (context_of i))
      ∙ ap (λ b. b || bytes_eq (moved (context_of i)).name c) (ap (λ j. has_context (device_at w j) c) (sym is) ∙ l)))
  | inr not ↦ ap (λ (d : Device). has_context d c) (taken.others k not) ∙ l
]
  where
    number_or_not : (a b : ℕ) → (a ≡ b) ⊎ (a ≢ b)
    number_or_not a b = by_test (a == b) refl
      where
        by_test : (r : Bool) → (a == b) ≡ r → (a ≡ b) ⊎ (a ≢ b)
        by_test true h = inl (grind (arith, nat_tests, eqb_tells a b, h))
        by_test false h = inr (λ e. grind (arith, nat_tests, eqb_tells a b, h, e))

released_grows : (from : ℕ) (w w' : World) → IsReleased w w' → Grows from w w'
released_grows from w w' r k ne n l = ap (has_name (λ c. c.name) n) (r.contexts k) ∙ l

-- ---- names of images

context_name : (i : ContextImage) → (context_of i).name ≡ i.name
unfolding context_of
context_name i = refl

either : (a b : Bool) → b ≡ true → (a || b) ≡ true
either true b h = refl
either false b h = h

pub image_carried : (n : Name) (i : ContextImage) (xs : List ContextImage) → first_that (λ z. bytes_eq z.name n) xs ≡ Some i → has_name (λ z. z.name) n xs ≡ true
unfolding first_that has_name
image_carried n i [] h = absurd (cc)
image_carried n i (x ∷ xs) h = grind (arith, image_carried n i xs)

-- ---- one context after the other

-- a target is not the device that is emptied
other_target : (from : ℕ) (targets : List ℕ) (t : ℕ) → AreTargets from targets → Contains targets t → t ≢ from
other_target from targets t are c e =
    are.differ 0 (suc c.0) t (omega arith) (omega (arith, c.1)) (sym e ∙ sym c.2)

-- contexts that moved live on targets
abbrev AreOn : List ℕ → World → Shifted → Type 0
AreOn targets w x = Contains targets x.target × IsThere w x

still_on : (from : ℕ) (targets : List ℕ) → AreTargets from targets → (w w' : World) → Grows from w w' → (xs : List Shifted) → All (AreOn targets w) xs → All (AreOn targets w') xs
still_on from targets are w w' grows xs all =
    All-weaker (AreOn targets w) (AreOn targets w') (λ x h. (h.0, grows x.target (other_target from targets x.target are h.0) x.context h.1)) xs all

shifted_on : (w : World) (steps more steps' : List Happening) → steps' ≡ steps ++ more → (xs : List Shifted) → All (IsShifted w steps) xs → All (IsShifted w steps') xs
shifted_on w steps more steps' is xs all =
    All-weaker (IsShifted w steps) (IsShifted w steps') (λ x h. record {
      prefix = h.prefix;
      refused = h.refused;
      back = h.back ++ more;
      splits = is ∙ (ap (λ hs. hs ++ more) h.splits ∙ append_assoc (h.prefix ++ shift x.context h.refused x.target) h.back more);
      moved = h.moved;
    }) xs all

-- some contexts moved, and those that are left live on the device
pub record IsMoving (w : World) (from : ℕ) (targets : List ℕ) (s : Evacuation) (left : List Name) : Type 0 where
  pub reached : s.world ≡ world_left w s.steps
  pub stands : IsStanding s.world
  pub fault : s.fault ≡ None
  pub remain : names_on s.world from ≡ left
  pub named : map (λ x. x.context) s.moved ++ left ≡ names_on w from
  pub placed : All (AreOn targets s.world) s.moved
  pub shifted : All (IsShifted w s.steps) s.moved

-- one of them stays
pub record IsStuck (w : World) (from : ℕ) (targets : List ℕ) (s : Evacuation) : Type 0 where
  pub context : Name
  pub why : StayReason
  pub fault : s.fault ≡ Some (Stays context why)
  pub stands : IsStanding s.world
  pub left : IsLeftWith w from targets context why s.steps s.world s.moved

reached_on : (w : World) (s s' : Evacuation) → s.world ≡ world_left w s.steps → Leads s s' → s'.world ≡ world_left w s'.steps
reached_on w s s' reached l = l.world ∙ (ap (λ v. world_left v l.done) reached ∙ (sym (left_on w s.steps l.done) ∙ ap (world_left w) (sym l.steps)))

module _ (laws : AreLaws) (w0 : World) (from : ℕ) (targets : List ℕ) (are : AreTargets from targets) (s : Evacuation) (n : Name) (ns : List Name) (v : IsMoving w0 from targets s (n ∷ ns)) where
  abbrev w : World
  w = s.world

  abbrev s1 : Evacuation
  s1 = doing s (stop n)

  lives_there : LivesOn w from n
  unfolding has_name
  lives_there = lives_by w from n ∙ (ap (has_word n) v.remain ∙ ap (λ b. b || has_word n ns) (same_name n))

  all_left : All (LivesOn w from) (n ∷ ns)
  all_left = all_live w from (n ∷ ns) v.remain

  -- its stop was refused
  held : (y : StayReason) → StaysBy y w from n → s1.world ≡ w → IsStuck w0 from targets (failed s1 (Stays n y))
  held y stays same = record {
    context = n;
    why = y;
    fault = refl;
    stands = subst IsStanding (sym same) v.stands;
    left = record {
      later = ns;
      named = v.named;
      stays = subst (λ z. StaysBy y z from n) (sym same) stays;
      remain = subst (λ z. All (LivesOn z from) ns) (sym same) (All-tail (LivesOn w from) n ns all_left);
      targeted = All-weaker (AreOn targets w) (λ x. Contains targets x.target) (λ x h. h.0) s.moved v.placed;
      lives = subst (λ z. All (IsThere z) s.moved) (sym same) (All-weaker (AreOn targets w) (IsThere w) (λ x h. h.1) s.moved v.placed);
      shifted = shifted_on w0 s.steps (stop n ∷ []) s1.steps refl s.moved v.shifted;
    };
  }

  -- it left
  module _ (g : IsGone w s1.world from n) where
    abbrev i : ContextImage
    i = image_of (live_context w n)

    image_name : i.name ≡ n
    unfolding image_of
    image_name = g.name

    carried : IsCarried s1.world n i
    carried = record { image = g.image; name = image_name; stopped = g.stopped }

    stands1 : IsStanding s1.world
    stands1 = stands_on laws w (stop n) tt v.stands

    remain1 : names_on s1.world from ≡ ns
    remain1 =
        ap (λ (d : Device). map (λ c. c.name) d.contexts) g.device
        ∙ (ap (λ j. map (λ c. c.name) (without (λ c. c.name) j (device_at w from).contexts)) g.name
        ∙ names_without n ns (device_at w from).contexts v.remain)

    grows1 : Grows from w s1.world
    grows1 = gone_grows from w s1.world n g

    abbrev x : Tried
    x = tries s1 n targets

    abbrev w2 : World
    w2 = x.state.world

    leads2 : Leads s x.state
    leads2 = leads_on s s1 x.state (step_leads s (stop n) tt) (tries_lead s1 n targets)

    reached2 : w2 ≡ world_left w0 x.state.steps
    reached2 = reached_on w0 s x.state v.reached leads2

    -- a target took it
    module _ (p : IsPlaced s1 n targets i x) where
      abbrev s3 : Evacuation
      s3 = with_moved (doing x.state Settles) n p.target

      abbrev w3 : World
      w3 = s3.world

      abbrev y : Shifted
      y = record { context = n; target = p.target }

      stands2 : IsStanding w2
      stands2 = subst IsStanding (sym p.world) (stands_on laws s1.world (restore n p.target) tt stands1)

      is_here : IsHere w2 p.target n i
      is_here = taken_here s1.world w2 stands2.0 p.target n i image_name stands2.1 p.taken

      kept : IsKept w2 w3
      kept = settling_is_kept laws.settling w2 stands2.0 stands2.1

      grows3 : Grows from w w3
      grows3 = grows_then from w s1.world w3 grows1 (grows_then from s1.world w2 w3 (taken_grows from p.target s1.world w2 n i p.taken) (kept_grows from w2 w3 kept))

      remain3 : names_on w3 from ≡ ns
      remain3 =
          kept_names w2 w3 from kept
          ∙ (ap (λ (d : Device). map (λ c. c.name) d.contexts) (p.taken.others from (λ e. other_target from targets p.target are p.among (sym e)))
          ∙ remain1)

      steps_are : x.state.steps ≡ s.steps ++ shift n p.refused p.target
      steps_are =
          p.steps
          ∙ (ap (λ hs. hs ++ restore n p.target ∷ []) (append_assoc s.steps (stop n ∷ []) (map (restore n) p.refused))
          ∙ append_assoc s.steps (stop n ∷ map (restore n) p.refused) (restore n p.target ∷ []))

      is_moved : IsMoved (image_of (live_context (world_left w0 s.steps) n)) (live_context (world_left w0 (s.steps ++ shift n p.refused p.target)) n)
      is_moved =
          subst (λ z. IsMoved (image_of (live_context z n)) (live_context (world_left w0 (s.steps ++ shift n p.refused p.target)) n)) v.reached
          (subst (λ z. IsMoved i (live_context z n)) (reached2 ∙ ap (world_left w0) steps_are)
          (subst (IsMoved i) (sym is_here.context) (laws.moved i)))

      is_shifted : IsShifted w0 s3.steps y
      is_shifted = record { prefix = s.steps; refused = p.refused; back = Settles ∷ []; splits = ap (λ hs. hs ++ Settles ∷ []) steps_are; moved = is_moved }

      moved_are : s3.moved ≡ s.moved ++ y ∷ []
      moved_are = ap (λ xs. xs ++ y ∷ []) p.tale.moved

      named3 : map (λ z. z.context) s3.moved ++ ns ≡ names_on w0 from
      named3 =
          ap (λ xs. map (λ (z : Shifted). z.context) xs ++ ns) moved_are
          ∙ (ap (λ xs. xs ++ ns) (map-append (λ (z : Shifted). z.context) s.moved (y ∷ []))
          ∙ (append_assoc (map (λ (z : Shifted). z.context) s.moved) (n ∷ []) ns ∙ v.named))

      goes : IsMoving w0 from targets s3 ns
      goes = record {
        reached = reached_on w0 x.state (doing x.state Settles) reached2 (step_leads x.state Settles tt);
        stands = stands_on laws w2 Settles tt stands2;
        fault = p.tale.fault ∙ v.fault;
        remain = remain3;
        named = named3;
        placed = subst (All (AreOn targets w3)) (sym moved_are)
            (All-append (AreOn targets w3) s.moved (y ∷ []) (still_on from targets are w w3 grows3 s.moved v.placed)
            (All-cons (AreOn targets w3) y [] (p.among, kept_lives w2 w3 p.target n kept is_here.there) (All-nil (AreOn targets w3))));
        shifted = subst (All (IsShifted w0 s3.steps)) (sym moved_are)
            (All-append (IsShifted w0 s3.steps) s.moved (y ∷ []) (shifted_on w0 s.steps (leads2.done ++ Settles ∷ []) s3.steps (ap (λ hs. hs ++ Settles ∷ []) leads2.steps ∙ append_assoc s.steps leads2.done (Settles ∷ [])) s.moved v.shifted)
            (All-cons (IsShifted w0 s3.steps) y [] is_shifted (All-nil (IsShifted w0 s3.steps))));
      }

    -- no target took it
    module _ (u : IsUntaken s1 n targets x) where
      abbrev a : Evacuation
      a = doing x.state (release n from)

      abbrev b : Evacuation
      b = doing a (restore n from)

      abbrev c : Evacuation
      c = doing b Settles

      releases : IsReleased w2 a.world
      unfolding happens
      releases = release_ends w2 from n

      stands_a : IsStanding a.world
      stands_a = stands_on laws w2 (release n from) tt (subst IsStanding (sym u.world) stands1)

      stands_b : IsStanding b.world
      stands_b = stands_on laws a.world (restore n from) tt stands_a

      kept_c : IsKept b.world c.world
      kept_c = settling_is_kept laws.settling b.world stands_b.0 stands_b.1

      carried_a : IsCarried a.world n i
      unfolding carried_image
      carried_a = record {
        image = ap (first_that (λ z. bytes_eq z.name n)) (releases.carried ∙ ap (λ (z : World). z.carried) u.world) ∙ carried.image;
        name = image_name;
        stopped = ap (has_word n) (releases.stopped ∙ ap (λ (z : World). z.stopped) u.world) ∙ carried.stopped;
      }

      tried : IsTried a.world b.world from n i (takes a.world n from)
      unfolding happens
      tried = restore_ends a.world from n i carried_a

      names_a : names_on a.world from ≡ ns
      names_a = ap (map (λ z. z.name)) (releases.contexts from) ∙ (ap (λ (z : World). names_on z from) u.world ∙ remain1)

      grows_a : Grows from w a.world
      grows_a = grows_then from w s1.world a.world grows1 (subst (λ z. Grows from z a.world) u.world (released_grows from w2 a.world releases))

      -- .. and it is at home, or carried
      names_home : IsTaken a.world b.world from n i → names_on b.world from ≡ ns ++ n ∷ []
      unfolding moved
      names_home t =
          ap (λ (d : Device). map (λ z. z.name) d.contexts) t.device
          ∙ (map-append (λ (z : Context). z.name) (device_at a.world from).contexts (moved (context_of i) ∷ [])
          ∙ (ap (λ xs. xs ++ (context_of i).name ∷ []) names_a ∙ ap (λ j. ns ++ j ∷ []) (context_name i ∙ image_name)))

      last_named : (xs : List Name) → has_word n (xs ++ n ∷ []) ≡ true
      unfolding has_name
      last_named [] = ap (λ z. z || false) (same_name n)
      last_named (k ∷ xs) = either (bytes_eq k n) (has_word n (xs ++ n ∷ [])) (last_named xs)

      ends_b : IsTried a.world b.world from n i (takes a.world n from) → StaysBy why.NoTarget b.world from n × All (LivesOn b.world from) ns × Grows from a.world b.world
      unfolding carried_image
      ends_b (inl same) = (inr (ap (λ (z : World). is_carried z n) same.1 ∙ image_carried n i a.world.carried carried_a.image), all_live b.world from ns (ap (λ (z : World). names_on z from) same.1 ∙ names_a), subst (Grows from a.world) (sym same.1) (λ k ne j l. l))
      ends_b (inr t) =
          (inl (lives_by b.world from n ∙ (ap (has_word n) (names_home t.1) ∙ last_named ns)), all_live_too b.world from ns (n ∷ []) (names_home t.1), taken_grows from from a.world b.world n i t.1)

      stays_c : StaysBy why.NoTarget b.world from n → StaysBy why.NoTarget c.world from n
      stays_c (inl l) = inl (kept_lives b.world c.world from n kept_c l)
      stays_c (inr k) = inr (ap (has_name (λ z. z.name) n) kept_c.carried ∙ k)

      stuck : IsStuck w0 from targets (returned x.state from n)
      stuck =
          let e = ends_b tried in
          let grows_c : Grows from w c.world = grows_then from w a.world c.world grows_a (grows_then from a.world b.world c.world e.2 (kept_grows from b.world c.world kept_c)) in
          let on : All (AreOn targets c.world) x.state.moved = subst (All (AreOn targets c.world)) (sym u.tale.moved) (still_on from targets are w c.world grows_c s.moved v.placed) in
          record {
            context = n;
            why = why.NoTarget;
            fault = refl;
            stands = stands_on laws b.world Settles tt stands_b;
            left = record {
              later = ns;
              named = ap (λ xs. map (λ (z : Shifted). z.context) xs ++ n ∷ ns) u.tale.moved ∙ v.named;
              stays = stays_c e.0;
              remain = All-weaker (LivesOn b.world from) (LivesOn c.world from) (λ k l. kept_lives b.world c.world from k kept_c l) ns e.1;
              targeted = All-weaker (AreOn targets c.world) (λ z. Contains targets z.target) (λ z h. h.0) x.state.moved on;
              lives = All-weaker (AreOn targets c.world) (IsThere c.world) (λ z h. h.1) x.state.moved on;
              shifted = subst (All (IsShifted w0 c.steps)) (sym u.tale.moved) (shifted_on w0 s.steps _ c.steps leads_c.steps s.moved v.shifted);
            };
          }
        where
          leads_c : Leads s c
          leads_c = leads_on s x.state c leads2 (leads_on x.state b c (leads_on x.state a b (step_leads x.state (release n from) tt) (step_leads a (restore n from) tt)) (step_leads b Settles tt))

    -- .. either way
    by_tries : EndsTries s1 n targets i x → IsMoving w0 from targets (placed s1 from targets n) ns ⊎ IsStuck w0 from targets (placed s1 from targets n)
    by_tries (inl u) = inr (subst (λ o. IsStuck w0 from targets (placed_by x.state from n o)) (sym u.none) (stuck u))
    by_tries (inr p) = inl (subst (λ o. IsMoving w0 from targets (placed_by x.state from n o) ns) (sym p.is) (goes p))

    placed_ends : IsMoving w0 from targets (placed s1 from targets n) ns ⊎ IsStuck w0 from targets (placed s1 from targets n)
    placed_ends = by_tries (tries_end s1 n targets i carried)

  stays_by : (y : StayReason) → StaysBy y w from n
  stays_by why.PeerMoving = lives_there
  stays_by why.TooMany = lives_there
  stays_by why.NoTarget = inl lives_there

  abbrev told : Option StayReason
  told = stay_of (world_step w (world_event.Stop n)).answer

  by_stop : IsStopped w s1.world from n (world_step w (world_event.Stop n)).answer → IsMoving w0 from targets (stopped_by s1 from targets n told) ns ⊎ IsStuck w0 from targets (stopped_by s1 from targets n told)
  by_stop (inl h) = inr (subst (λ o. IsStuck w0 from targets (stopped_by s1 from targets n o)) (sym h.is) (held h.why (stays_by h.why) h.same))
  by_stop (inr g) = subst (λ o. IsMoving w0 from targets (stopped_by s1 from targets n o) ns ⊎ IsStuck w0 from targets (stopped_by s1 from targets n o)) (sym g.0) (placed_ends g.1)

  -- one context moves, or stays
  pub move_ends : IsMoving w0 from targets (moves s from targets n) ns ⊎ IsStuck w0 from targets (moves s from targets n)
  unfolding moves happens
  move_ends = by_stop (stop_ends w v.stands.0 v.stands.1 from n lives_there)

-- ---- all of them

-- all moved, or one stays
abbrev pub Ends : World → ℕ → List ℕ → Evacuation → Type 0
Ends w from targets s = IsMoving w from targets s [] ⊎ IsStuck w from targets s

module _ (laws : AreLaws) (w0 : World) (from : ℕ) (targets : List ℕ) (are : AreTargets from targets) where
  moving_ends : (s : Evacuation) (ns : List Name) → IsMoving w0 from targets s ns → Ends w0 from targets (moving s from targets ns)
  unfolding moving
  moving_ends s [] v = inl v
  moving_ends s (n ∷ ns) v = by_move (move_ends laws w0 from targets are s n ns v) (moving_ends (moves s from targets n) ns)
    where
      by_fault : (o : Option Fault) → o ≡ None → Ends w0 from targets (moving (moves s from targets n) from targets ns) →
          Ends w0 from targets (elim o as (λ z. Evacuation) [ None ↦ moving (moves s from targets n) from targets ns | Some f ↦ moves s from targets n ])
      by_fault None is later = later
      by_fault (Some f) is later = absurd (cc)

      by_stay : (o : Option Fault) (f : Fault) → o ≡ Some f → IsStuck w0 from targets (moves s from targets n) →
          Ends w0 from targets (elim o as (λ z. Evacuation) [ None ↦ moving (moves s from targets n) from targets ns | Some f ↦ moves s from targets n ])
      by_stay None f is stuck = absurd (cc)
      by_stay (Some g) f is stuck = inr stuck

      by_move : IsMoving w0 from targets (moves s from targets n) ns ⊎ IsStuck w0 from targets (moves s from targets n) → (IsMoving w0 from targets (moves s from targets n) ns → Ends w0 from targets (moving (moves s from targets n) from targets ns)) →
          Ends w0 from targets (elim (moves s from targets n).fault as (λ z. Evacuation) [ None ↦ moving (moves s from targets n) from targets ns | Some f ↦ moves s from targets n ])
      by_move (inl on) later = by_fault (moves s from targets n).fault on.fault (later on)
      by_move (inr stuck) later = by_stay (moves s from targets n).fault (Stays stuck.context stuck.why) stuck.fault stuck

  module _ (m : Machine) (stands : Stands w0 m) where
    abbrev s0 : Evacuation
    s0 = doing (begun w0) Settles

    begins : IsMoving w0 from targets s0 (names_on w0 from)
    begins = record {
      reached = refl;
      stands = stands_on laws w0 Settles tt (m, stands);
      fault = refl;
      remain = kept_names w0 s0.world from (settling_is_kept laws.settling w0 m stands);
      named = refl;
      placed = All-nil _;
      shifted = All-nil _;
    }

    pub emptying_ends : Ends w0 from targets (emptying w0 from targets)
    emptying_ends = moving_ends s0 (names_on w0 from) begins

    -- the device and the targets are devices, or nothing is done
    pub evacuation_ends : (evacuation w0 from targets ≡ failed (begun w0) NoSuch) ⊎ Ends w0 from targets (evacuation w0 from targets)
    unfolding evacuation
    evacuation_ends = by_devices (are_devices w0 (from ∷ targets))
      where
        by_devices : (b : Bool) → ((elim b as (λ z. Evacuation) [ true ↦ emptying w0 from targets | false ↦ failed (begun w0) NoSuch ]) ≡ failed (begun w0) NoSuch) ⊎ Ends w0 from targets (elim b as (λ z. Evacuation) [ true ↦ emptying w0 from targets | false ↦ failed (begun w0) NoSuch ])
        by_devices true = inr emptying_ends
        by_devices false = inl refl

-- ---- what is claimed

no_contexts : (cs : List Context) → map (λ c. c.name) cs ≡ [] → cs ≡ []
no_contexts [] h = refl
no_contexts (c ∷ cs) h = absurd (cc)

emptied : (w : World) (from : ℕ) (targets : List ℕ) (s : Evacuation) → IsMoving w from targets s [] → IsEvacuated w from targets s.steps s.world s.moved
emptied w from targets s v = record {
  emptied = no_contexts (device_at s.world from).contexts v.remain;
  named = sym (append-nil (map (λ (x : Shifted). x.context) s.moved)) ∙ v.named;
  targeted = All-weaker (AreOn targets s.world) (λ x. Contains targets x.target) (λ x h. h.0) s.moved v.placed;
  lives = All-weaker (AreOn targets s.world) (IsThere s.world) (λ x h. h.1) s.moved v.placed;
  shifted = v.shifted;
}

pub devices_emptied : AreLaws → DevicesAreEmptied
devices_emptied laws w m from targets stands are none = by (evacuation_ends laws w from targets are m stands)
  where
    by : (evacuation w from targets ≡ failed (begun w) NoSuch) ⊎ Ends w from targets (evacuation w from targets) → IsEvacuated w from targets (evacuation w from targets).steps (evacuation w from targets).world (evacuation w from targets).moved
    by (inl nothing) = absurd (cc (ap (λ (s : Evacuation). s.fault) nothing, none))
    by (inr (inl v)) = emptied w from targets (evacuation w from targets) v
    by (inr (inr stuck)) = absurd (cc (stuck.fault, none))

pub devices_keep : AreLaws → DevicesKeepTheRest
devices_keep laws w m from targets n y stands are stays = by (evacuation_ends laws w from targets are m stands)
  where
    same_stay : (k n : Name) (x y : StayReason) → Some (Stays k x) ≡ Some (Stays n y) → (k ≡ n) × (x ≡ y)
    same_stay k n x y h = (cc, cc)

    by : (evacuation w from targets ≡ failed (begun w) NoSuch) ⊎ Ends w from targets (evacuation w from targets) → IsLeftWith w from targets n y (evacuation w from targets).steps (evacuation w from targets).world (evacuation w from targets).moved
    by (inl nothing) = absurd (cc (ap (λ (s : Evacuation). s.fault) nothing, stays))
    by (inr (inl v)) = absurd (cc (v.fault, stays))
    by (inr (inr stuck)) =
        let e = same_stay stuck.context n stuck.why y (sym stuck.fault ∙ stays) in
        let s : Evacuation = evacuation w from targets in
        subst (λ k. IsLeftWith w from targets k y s.steps s.world s.moved) e.0 (subst (λ z. IsLeftWith w from targets stuck.context z s.steps s.world s.moved) e.1 stuck.left)
