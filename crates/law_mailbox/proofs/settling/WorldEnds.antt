-- What is true of all ends of a world, live and carried, is true of each end of the machine that it stands for.
use Rattle.std.proofs.Common.{◌≡◌, List, [], ◌∷◌, length, map, true, false, Bool, refl, sym, subst, eqb-true}
use Rattle.std.specs.Prelude.{All, flat_map, Option, Some, None, ◌==◌, ◌||◌, if◌then◌else◌, bytes_eq, option_map}
use Rattle.std.proofs.lemmas.List.Elements.{All-append, All-cons, All-head, All-map, All-nil, All-tail, All-weaker}
use Rattle.rdma_types.specs.declared.names.Name.{Name}
use Rattle.rdma_types.specs.declared.names.ObjName.{ObjName}
use Rattle.rdma_types.specs.Lists.{named, some}
use Rattle.protocol.specs.declared.images.ContextImage.{ContextImage}
use Rattle.protocol.specs.declared.images.EndImage.{EndImage}
use Rattle.protocol.specs.declared.images.LinkImage.{LinkImage}
use Rattle.protocol.specs.EndWords.{is_in_error}
use Rattle.protocol.specs.Images as images
use Rattle.protocol.specs.Images.{end_of_image, link_of_image}
use Rattle.protocol.specs.Settle.{is_ended_image, left_image, left_link, live_ends, unfinished}
use Rattle.protocol.specs.State as state
use Rattle.protocol.specs.State.{Device, Link, World}
use Rattle.packetless_machine.specs.Machine as machine
use Rattle.packetless_machine.specs.Machine.{End, Machine, has_end}
use Rattle.law_simulation.specs.Stands.{Stands}
use Rattle.law_simulation.specs.Views.{Owned, context_of, contexts_of, link_or_none, owned, owned_there}
use Rattle.law_simulation.proofs.relation.Tables.{All-named}
use Rattle.law_mailbox.proofs.work.Held.{no_parts}
use Rattle.law_mailbox.proofs.connection.Places.{all_back, all_front, all_of_map, nil_of}

-- ---- lists of lists

pub each_nil : {X Y : Type 0} (f : X → List Y) (xs : List X) → flat_map f xs ≡ [] → All (λ x. f x ≡ []) xs
each_nil f [] e = All-nil (λ x. f x ≡ [])
each_nil f (x ∷ xs) e = let p = no_parts (f x) (flat_map f xs) e in All-cons (λ y. f y ≡ []) x xs p.0 (each_nil f xs p.1)

all_joined : {X Y : Type 0} (P : Y → Type 0) (f : X → List Y) (xs : List X) → All (λ x. All P (f x)) xs → All P (flat_map f xs)
all_joined P f [] a = All-nil P
all_joined P f (x ∷ xs) a = All-append P (f x) (flat_map f xs) (All-head (λ y. All P (f y)) x xs a) (all_joined P f xs (All-tail (λ y. All P (f y)) x xs a))

all_parts : {X Y : Type 0} (P : Y → Type 0) (f : X → List Y) (xs : List X) → All P (flat_map f xs) → All (λ x. All P (f x)) xs
all_parts P f [] a = All-nil (λ x. All P (f x))
all_parts P f (x ∷ xs) a = All-cons (λ y. All P (f y)) x xs (all_front P (f x) (flat_map f xs) a) (all_parts P f xs (all_back P (f x) (flat_map f xs) a))

or_not : (a b : Bool) → (a || b) ≡ false → (a ≡ false) × (b ≡ false)
or_not true b e = cc
or_not false b e = (refl, e)

none_passes : {X : Type 0} (test : X → Bool) (xs : List X) → some test xs ≡ false → All (λ x. test x ≡ false) xs
unfolding some
none_passes test [] e = All-nil (λ x. test x ≡ false)
none_passes test (x ∷ xs) e = let p = or_not (test x) (some test xs) e in All-cons (λ y. test y ≡ false) x xs p.0 (none_passes test xs p.1)

pub named_or : {A : Type 0} (P : A → Type 0) (name : A → Name) (none : A) (n : Name) (xs : List A) → P none → All P xs → P (named name none n xs)
unfolding named
named_or P name none n [] p all = p
named_or P name none n (x ∷ xs) p all = by (bytes_eq (name x) n) (named_or P name none n xs p (All-tail P x xs all))
  where
    by : (b : Bool) → P (named name none n xs) → P (if b then x else named name none n xs)
    by true rest = All-head P x xs all
    by false rest = rest

-- ---- each end

module _ (P : Owned → Type 0) where
  -- all ends of a context
  abbrev pub AreEndsOf : state.Context → Type 0
  AreEndsOf c = All (λ e. P (owned_there e)) c.ends

  pub all_ends : (w : World) → All (λ (d : Device). All AreEndsOf d.contexts) w.devices → All (λ (c : ContextImage). AreEndsOf (images.context_of c)) w.carried → All AreEndsOf (contexts_of w)
  unfolding contexts_of
  all_ends w live carried = All-append AreEndsOf (flat_map (λ d. d.contexts) w.devices) (map images.context_of w.carried) (all_joined AreEndsOf (λ d. d.contexts) w.devices live) (All-map AreEndsOf images.context_of w.carried carried)

  -- .. so each end of the machine
  pub each_end : (w : World) (m : Machine) → Stands w m → All AreEndsOf (contexts_of w) → (o : ObjName) → has_end m o ≡ true → P (owned (machine.end_of m o))
  unfolding has_end machine.end_of context_of
  each_end w m s all o there =
      let here : AreEndsOf (context_of w o.context) = named_or AreEndsOf (λ x. x.name) (record state.no_context { name = o.context }) o.context (contexts_of w) (All-nil (λ e. P (owned_there e))) all in
      let same : All P (map owned (machine.context_of m o.context).ends) = subst (All P) (s.same o.context).ends (All-map P owned_there (context_of w o.context).ends here) in
      All-named (λ e. P (owned e)) (λ e. e.name) (machine.nobody o) o.name (machine.context_of m o.context).ends (all_of_map P owned (machine.context_of m o.context).ends same) there

-- ---- nothing is untold

abbrev pub IsTold : Owned → Type 0
IsTold e = e.untold ≡ []

empty_of : {X : Type 0} {Y : Type 0} (xs : List X) (y : Y) → (if length xs == 0 then [] else y ∷ []) ≡ [] → xs ≡ []
empty_of xs y e = by (length xs == 0) refl e
  where
    by : (b : Bool) → (length xs == 0) ≡ b → (if b then [] else y ∷ []) ≡ [] → xs ≡ []
    by true none f = nil_of xs (eqb-true (length xs) 0 none)
    by false some' f = cc

link_told : (o : ObjName) (l : Option Link) → left_link o l ≡ [] → (link_or_none l).sender.untold ≡ []
unfolding link_or_none
link_told o None e = refl
link_told o (Some l) e = empty_of l.sender.untold _ e

pub live_told : (w : World) → unfinished w ≡ [] → All (λ (d : Device). All (AreEndsOf IsTold) d.contexts) w.devices
unfolding unfinished owned_there
live_told w none =
    let parts = no_parts (flat_map (λ d. flat_map (λ c. flat_map (λ e. left_link (record { context = c.name; name = e.name }) e.link) c.ends) d.contexts) w.devices) (flat_map (λ c. flat_map (left_image c.name) c.ends) w.carried) none in
    All-weaker (λ (d : Device). flat_map (λ c. flat_map (λ e. left_link (record { context = c.name; name = e.name }) e.link) c.ends) d.contexts ≡ []) (λ d. All (AreEndsOf IsTold) d.contexts)
    (λ d nothing. All-weaker (λ (c : state.Context). flat_map (λ e. left_link (record { context = c.name; name = e.name }) e.link) c.ends ≡ []) (AreEndsOf IsTold)
    (λ c left. All-weaker (λ (e : state.End). left_link (record { context = c.name; name = e.name }) e.link ≡ []) (λ e. IsTold (owned_there e)) (λ e is. link_told (record { context = c.name; name = e.name }) e.link is) c.ends
    (each_nil (λ e. left_link (record { context = c.name; name = e.name }) e.link) c.ends left))
    d.contexts (each_nil (λ c. flat_map (λ e. left_link (record { context = c.name; name = e.name }) e.link) c.ends) d.contexts nothing))
    w.devices (each_nil (λ d. flat_map (λ c. flat_map (λ e. left_link (record { context = c.name; name = e.name }) e.link) c.ends) d.contexts) w.devices parts.0)

image_told : (c : ContextImage) (e : EndImage) → left_image c.name e ≡ [] → IsTold (owned_there (end_of_image c e))
unfolding end_of_image link_of_image owned_there link_or_none
image_told c e left = by e.linked (empty_of e.untold _ left)
  where
    by : (l : Option LinkImage) → e.untold ≡ [] → (link_or_none (option_map (link_of_image c.regions e.untold) l)).sender.untold ≡ []
    by None none = refl
    by (Some l) none = subst (λ us. map images.posted_of_image us ≡ []) (sym none) refl

carried_told : (w : World) → unfinished w ≡ [] → All (λ (c : ContextImage). AreEndsOf IsTold (images.context_of c)) w.carried
unfolding unfinished images.context_of
carried_told w none =
    let parts = no_parts (flat_map (λ d. flat_map (λ c. flat_map (λ e. left_link (record { context = c.name; name = e.name }) e.link) c.ends) d.contexts) w.devices) (flat_map (λ c. flat_map (left_image c.name) c.ends) w.carried) none in
    All-weaker (λ (c : ContextImage). flat_map (left_image c.name) c.ends ≡ []) (λ c. AreEndsOf IsTold (images.context_of c))
    (λ c left. All-map (λ e. IsTold (owned_there e)) (end_of_image c) c.ends
    (All-weaker (λ (e : EndImage). left_image c.name e ≡ []) (λ e. IsTold (owned_there (end_of_image c e))) (λ e is. image_told c e is) c.ends (each_nil (left_image c.name) c.ends left)))
    w.carried (each_nil (λ c. flat_map (left_image c.name) c.ends) w.carried parts.1)

-- where nothing is left, nothing is untold at any end
pub nothing_untold : (w : World) (m : Machine) → Stands w m → unfinished w ≡ [] → (o : ObjName) → has_end m o ≡ true → (owned (machine.end_of m o)).untold ≡ []
nothing_untold w m s none o there = each_end IsTold w m s (all_ends IsTold w (live_told w none) (carried_told w none)) o there

-- ---- none is in Error

abbrev pub IsAlive : Owned → Type 0
IsAlive e = e.ended ≡ false

link_alive : (l : Option Link) → is_in_error l ≡ false → (link_or_none l).ended ≡ false
unfolding link_or_none
link_alive None e = refl
link_alive (Some l) e = e

live_alive : (w : World) → some (λ e. is_in_error e.link) (live_ends w) ≡ false → All (λ (d : Device). All (AreEndsOf IsAlive) d.contexts) w.devices
unfolding live_ends owned_there
live_alive w none =
    let ends = none_passes (λ e. is_in_error e.link) (flat_map (λ d. flat_map (λ c. c.ends) d.contexts) w.devices) none in
    let alive : All (λ (e : state.End). IsAlive (owned_there e)) (flat_map (λ d. flat_map (λ c. c.ends) d.contexts) w.devices) =
    All-weaker (λ (e : state.End). is_in_error e.link ≡ false) (λ e. IsAlive (owned_there e)) (λ e is. link_alive e.link is) (flat_map (λ d. flat_map (λ c. c.ends) d.contexts) w.devices) ends in
    All-weaker (λ (d : Device). All (λ (e : state.End). IsAlive (owned_there e)) (flat_map (λ c. c.ends) d.contexts)) (λ d. All (AreEndsOf IsAlive) d.contexts)
    (λ d all. all_parts (λ e. IsAlive (owned_there e)) (λ c. c.ends) d.contexts all) w.devices (all_parts (λ e. IsAlive (owned_there e)) (λ d. flat_map (λ c. c.ends) d.contexts) w.devices alive)

image_alive : (c : ContextImage) (e : EndImage) → is_ended_image e ≡ false → IsAlive (owned_there (end_of_image c e))
unfolding end_of_image link_of_image owned_there link_or_none
image_alive c e alive = by e.linked alive
  where
    by : (l : Option LinkImage) → (elim l [ None ↦ false | Some x ↦ x.ended ]) ≡ false → (link_or_none (option_map (link_of_image c.regions e.untold) l)).ended ≡ false
    by None f = refl
    by (Some l) f = f

carried_alive : (w : World) → some (λ (c : ContextImage). some is_ended_image c.ends) w.carried ≡ false → All (λ (c : ContextImage). AreEndsOf IsAlive (images.context_of c)) w.carried
unfolding images.context_of
carried_alive w none =
    All-weaker (λ (c : ContextImage). some is_ended_image c.ends ≡ false) (λ c. AreEndsOf IsAlive (images.context_of c))
    (λ c all. All-map (λ e. IsAlive (owned_there e)) (end_of_image c) c.ends
    (All-weaker (λ (e : EndImage). is_ended_image e ≡ false) (λ e. IsAlive (owned_there (end_of_image c e))) (λ e is. image_alive c e is) c.ends (none_passes is_ended_image c.ends all)))
    w.carried (none_passes (λ c. some is_ended_image c.ends) w.carried none)

-- where no end of the world is in Error, no end of the machine has ended
pub none_ended : (w : World) (m : Machine) → Stands w m → (some (λ e. is_in_error e.link) (live_ends w) || some (λ c. some is_ended_image c.ends) w.carried) ≡ false → (o : ObjName) → has_end m o ≡ true → (machine.end_of m o).ended ≡ false
unfolding owned
none_ended w m s none o there =
    let parts = or_not (some (λ e. is_in_error e.link) (live_ends w)) (some (λ c. some is_ended_image c.ends) w.carried) none in
    each_end IsAlive w m s (all_ends IsAlive w (live_alive w parts.0) (carried_alive w parts.1)) o there
