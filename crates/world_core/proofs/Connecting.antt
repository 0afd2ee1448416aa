-- Both ends of a connection, one after the other.
use Rattle.std.proofs.Common.{◌≡◌, ℕ, ◌<◌, List, [], ◌∷◌, ◌++◌, length, map, Bool, true, false, Option, Some, None, refl, sym, ap, ◌∙◌, subst, bytes_eq, nat_eq, slice_get, if◌then◌else◌}
use Rattle.std.specs.List.{IsDistinct, position}
use Rattle.std.proofs.Math.ListN.{set}
use Rattle.std.proofs.lemmas.List.{append-nil, length-set}
use Rattle.rdma_types.specs.declared.answers.Answer.TheVariants as answer
use Rattle.rdma_types.specs.declared.answers.Refusal.{Refusal}
use Rattle.rdma_types.specs.declared.names.Name.{Name}
use Rattle.rdma_types.specs.declared.names.ObjName.{ObjName}
use Rattle.rdma_types.specs.declared.requests.Address.{Address}
use Rattle.rdma_types.specs.declared.requests.Terms.{Terms}
use Rattle.rdma_types.specs.Causes.{first_cause}
use Rattle.rdma_types.specs.Lists.{has_name, named, store, store_named}
use Rattle.protocol.specs.declared.events.Event.{Event}
use Rattle.protocol.specs.declared.events.Event.TheVariants as event
use Rattle.protocol.specs.DeviceStep as device
use Rattle.protocol.specs.DeviceStep.{connects, device_step, with_context}
use Rattle.protocol.specs.EndWords.{linked, with_end, with_link}
use Rattle.protocol.specs.Fabric.{flight_of, forgetting, sending}
use Rattle.protocol.specs.Refusals.{has_context, has_end, refusal_of}
use Rattle.protocol.specs.State.{Context, Device, End, Link, World, context_at, end_at, fresh_link, no_context, no_end}
use Rattle.protocol.specs.WorldStep as rules
use Rattle.protocol.specs.WorldStep.{Step, answers, connect_causes, connects_one, end_of, exchanged, has_live_end, home, live_context, ran, runs, with_device, with_image, with_sent}
use Rattle.law_simulation.proofs.relation.Tables.{has_name-map, map-store, name-named_there}
use Rattle.law_kept_datagrams.specs.Alike.{with_kept_datagrams}
use Rattle.world_core.specs.declared.making.EndAddress.{EndAddress}
use Rattle.world_core.specs.Kept.{Makes}
use Rattle.world_core.specs.Places.{HaveOwnIds}
use Rattle.world_core.specs.Sites.{IsEndAddress, joined_at}
use Rattle.world_core.proofs.Places.{map-place, position-set, set_relates, store-place}
use Rattle.world_core.proofs.Worlds.{kept_is, lives, passes}

-- ---- what a connection leaves: the names and the numbers

abbrev pub end_sketch : End → Name × ℕ
end_sketch e = (e.name, e.number)

abbrev pub context_sketch : Context → Name × List (Name × ℕ)
context_sketch c = (c.name, map end_sketch c.ends)

pub record AreLike (d d' : Device) : Type 0 where
  pub id : d'.id ≡ d.id
  pub address : d'.address ≡ d.address
  pub contexts : map context_sketch d'.contexts ≡ map context_sketch d.contexts

like_itself : (d : Device) → AreLike d d
like_itself d = record { id = refl; address = refl; contexts = refl }

-- a part of the thing with a name, from the parts of all
named-map : {A B : Type 0} (f : A → B) (name : A → Name) (name' : B → Name) (none : A) (n : Name) (xs : List A) → ((x : A) → name' (f x) ≡ name x) → f (named name none n xs) ≡ named name' (f none) n (map f xs)
unfolding named
named-map f name name' none n [] same = refl
named-map f name name' none n (x ∷ xs) same = by_test (bytes_eq (name x) n) (ap (λ m. bytes_eq m n) (same x)) (named-map f name name' none n xs same)
  where
    by_test : (b : Bool) → bytes_eq (name' (f x)) n ≡ b → f (named name none n xs) ≡ named name' (f none) n (map f xs) → f (if b then x else named name none n xs) ≡ (if bytes_eq (name' (f x)) n then f x else named name' (f none) n (map f xs))
    by_test true t later = rw t refl
    by_test false t later = rw t later

abbrev first_of_two : {B : Type 0} → Name × B → Name
first_of_two p = p.0

like_has : (d d' : Device) (n : Name) → AreLike d d' → has_context d' n ≡ has_context d n
like_has d d' n like =
    sym (has_name-map context_sketch first_of_two (λ c. c.name) n d'.contexts (λ c. refl))
    ∙ (ap (λ ps. has_name first_of_two n ps) like.contexts ∙ has_name-map context_sketch first_of_two (λ c. c.name) n d.contexts (λ c. refl))

like_context : (d d' : Device) (n : Name) → AreLike d d' → context_sketch (context_at d' n) ≡ context_sketch (context_at d n)
like_context d d' n like =
    named-map context_sketch (λ c. c.name) first_of_two no_context n d'.contexts (λ c. refl)
    ∙ (ap (λ ps. named first_of_two (context_sketch no_context) n ps) like.contexts ∙ sym (named-map context_sketch (λ c. c.name) first_of_two no_context n d.contexts (λ c. refl)))

like_ends : (d d' : Device) (n : Name) → AreLike d d' → map end_sketch (context_at d' n).ends ≡ map end_sketch (context_at d n).ends
like_ends d d' n like = ap (λ (p : Name × List (Name × ℕ)). p.1) (like_context d d' n like)

like_has_end : (d d' : Device) (n m : Name) → AreLike d d' → has_end (context_at d' n) m ≡ has_end (context_at d n) m
like_has_end d d' n m like =
    sym (has_name-map end_sketch first_of_two (λ e. e.name) m (context_at d' n).ends (λ e. refl))
    ∙ (ap (λ ps. has_name first_of_two m ps) (like_ends d d' n like) ∙ has_name-map end_sketch first_of_two (λ e. e.name) m (context_at d n).ends (λ e. refl))

like_number : (d d' : Device) (n m : Name) → AreLike d d' → (end_at (context_at d' n) m).number ≡ (end_at (context_at d n) m).number
like_number d d' n m like = ap (λ (p : Name × ℕ). p.1)
    (named-map end_sketch (λ e. e.name) first_of_two no_end m (context_at d' n).ends (λ e. refl)
    ∙ (ap (λ ps. named first_of_two (end_sketch no_end) m ps) (like_ends d d' n like) ∙ sym (named-map end_sketch (λ e. e.name) first_of_two no_end m (context_at d n).ends (λ e. refl))))

-- ---- one end is connected

-- it sends nothing, carries nothing off, and leaves the names and the numbers
record IsQuiet (d : Device) (s : device.Step) : Type 0 where
  like : AreLike d s.device
  sent : s.outcome.sent ≡ []
  image : s.outcome.image ≡ None

linked_like : (c : Context) (m : Name) (l : Link) → has_end c m ≡ true → context_sketch (linked c (end_at c m) l) ≡ context_sketch c
unfolding with_end with_link
linked_like c m l there =
    let name : (end_at c m).name ≡ m = name-named_there (λ e. e.name) no_end m c.ends there in
    ap (λ es. (c.name, es)) (ap (λ k. map end_sketch (store_named (λ e. e.name) k (record (end_at c m) { link = Some l }) c.ends)) name
    ∙ map-store end_sketch (λ e. e.name) no_end m (record (end_at c m) { link = Some l }) c.ends there refl)

connected_quiet : (d : Device) (o : ObjName) (peer : ℕ) (partner : Address) (terms : Terms) → has_context d o.context ≡ true → has_end (context_at d o.context) o.name ≡ true → IsQuiet d (device_step d (event.Connect o peer partner terms))
unfolding device_step connects with_context with_end with_link
connected_quiet d o peer partner terms here there = by_refusal (refusal_of d (event.Connect o peer partner terms))
  where
    by_refusal : (r : Option Refusal) → IsQuiet d (device.by_refusal d (event.Connect o peer partner terms) r)
    by_refusal (Some r) = record { like = like_itself d; sent = refl; image = refl }
    by_refusal None = record {
      like = record {
        id = refl;
        address = refl;
        contexts =
            ap (λ k. map context_sketch (store_named (λ x. x.name) k (linked (context_at d o.context) (end_at (context_at d o.context) o.name) (fresh_link peer partner terms)) d.contexts)) (name-named_there (λ x. x.name) no_context o.context d.contexts here)
            ∙ map-store context_sketch (λ x. x.name) no_context o.context (linked (context_at d o.context) (end_at (context_at d o.context) o.name) (fresh_link peer partner terms)) d.contexts here (linked_like (context_at d o.context) o.name (fresh_link peer partner terms) there);
      };
      sent = refl;
      image = refl;
    }

-- ---- in a world

module _ (w : World) (p : ℕ) (d d' : Device) (here : slice_get w.devices p ≡ Some d) (like : AreLike d d') where
  abbrev w' : World
  w' = record w { devices = set w.devices p d' }

  homes_like : (n : Name) (place : ℕ) → position (λ x. has_context x n) w.devices ≡ Some place → (position (λ x. has_context x n) w'.devices ≡ Some place) × AreLike (home w n) (home w' n)
  homes_like n place h =
      let h' : position (λ x. has_context x n) w'.devices ≡ Some place = position-set (λ x. has_context x n) p w.devices d d' here (like_has d d' n like) ∙ h in
      (h', set_relates AreLike like_itself w.devices p place d d' (home w n) (home w' n) here like (lives w n place h).here (lives w' n place h').here)

  pub site_stays : (o : ObjName) (s : EndAddress) → IsEndAddress w o s → IsEndAddress w' o s
  unfolding live_context
  site_stays o s site =
      let h : (position (λ x. has_context x o.context) w'.devices ≡ Some s.place) × AreLike (home w o.context) (home w' o.context) = homes_like o.context s.place site.place in
      record {
        place = h.0;
        there = like_has_end (home w o.context) (home w' o.context) o.context o.name h.1 ∙ site.there;
        address = site.address ∙ sym h.1.address;
        number = site.number ∙ sym (like_number (home w o.context) (home w' o.context) o.context o.name h.1);
        small = site.small;
      }

  pub ids_stay : HaveOwnIds w.devices → HaveOwnIds w'.devices
  ids_stay ids = subst (λ ks. IsDistinct nat_eq ks) (sym (map-place (λ x. x.id) p w.devices d d' here like.id)) ids

quiet_ran : (w : World) (place : ℕ) (d : Device) (s : device.Step) → HaveOwnIds w.devices → slice_get w.devices place ≡ Some d → IsQuiet d s → (ran w s).world ≡ record w { devices = set w.devices place s.device }
unfolding ran with_device sending
quiet_ran w place d s ids here quiet =
    ap (λ o. with_image o (record w { devices = store (λ x. x.id) s.device.id s.device w.devices; sent = w.sent ++ map (flight_of s.device.address) s.outcome.sent })) quiet.image
    ∙ (ap (λ xs. record w { devices = store (λ x. x.id) s.device.id s.device w.devices; sent = w.sent ++ map (flight_of s.device.address) xs }) quiet.sent
    ∙ (ap (λ fs. record w { devices = store (λ x. x.id) s.device.id s.device w.devices; sent = fs }) (append-nil w.sent)
    ∙ (ap (λ k. record w { devices = store (λ x. x.id) k s.device w.devices }) quiet.like.id
    ∙ ap (λ ds. record w { devices = ds }) (store-place (λ x. x.id) place w.devices d s.device ids here))))

quiet_here : (w : World) (one : ObjName) (s : EndAddress) (peer : ℕ) (partner : Address) (terms : Terms) → IsEndAddress w one s → IsQuiet (home w one.context) (device_step (home w one.context) (event.Connect one peer partner terms))
unfolding live_context
quiet_here w one s peer partner terms site = connected_quiet (home w one.context) one peer partner terms (lives w one.context s.place site.place).has site.there

-- the rule of one end, at its place
connected_one : (w : World) (one two : ObjName) (s t : EndAddress) (terms : Terms) → HaveOwnIds w.devices → IsEndAddress w one s → IsEndAddress w two t →
    connects_one w one two terms ≡ joined_at w s.place (home w one.context) (event.Connect one t.number t.address terms)
unfolding connects_one
connected_one w one two s t terms ids site1 site2 =
    ap (λ k. (runs w (home w one.context) (event.Connect one k (home w two.context).address terms)).world) (sym site2.number)
    ∙ (ap (λ a. (runs w (home w one.context) (event.Connect one t.number a terms)).world) (sym site2.address)
    ∙ quiet_ran w s.place (home w one.context) (device_step (home w one.context) (event.Connect one t.number t.address terms)) ids (lives w one.context s.place site1.place).here
    (quiet_here w one s t.number t.address terms site1))

pub joined_within : (w w1 : World) (one two : ObjName) (s t : EndAddress) (e : Event) → IsEndAddress w one s → IsEndAddress w two t → ((d : Device) → slice_get w.devices s.place ≡ Some d → w1 ≡ joined_at w s.place d e) → t.place < length w1.devices
joined_within w w1 one two s t e site1 site2 first =
    let same : length w1.devices ≡ length w.devices =
    ap (λ (x : World). length x.devices) (first (home w one.context) (lives w one.context s.place site1.place).here) ∙ length-set w.devices s.place (device_step (home w one.context) e).device in
    subst (λ n. t.place < n) (sym same) (lives w two.context t.place site2.place).within

pub connected_both : (w w1 w2 : World) (one two : ObjName) (s t : EndAddress) (terms : Terms) → HaveOwnIds w.devices → forgetting w.sent ≡ w.sent →
    first_cause (connect_causes w one two) ≡ None → IsEndAddress w one s → IsEndAddress w two t →
    ((d : Device) → slice_get w.devices s.place ≡ Some d → w1 ≡ joined_at w s.place d (event.Connect one t.number t.address terms)) →
    ((d : Device) → slice_get w1.devices t.place ≡ Some d → w2 ≡ joined_at w1 t.place d (event.Connect two s.number s.address (exchanged terms))) →
    Makes (rules.connects w one two terms) answer.Done w2
unfolding rules.connects
connected_both w w1 w2 one two s t terms ids kept free site1 site2 first second =
    let h1 : Device = home w one.context in
    let e1 : Event = event.Connect one t.number t.address terms in
    let e2 : Event = event.Connect two s.number s.address (exchanged terms) in
    let w' : World = joined_at w s.place h1 e1 in
    let w'' : World = joined_at w' t.place (home w' two.context) e2 in
    let there : slice_get w.devices s.place ≡ Some h1 = (lives w one.context s.place site1.place).here in
    let like : AreLike h1 (device_step h1 e1).device = (quiet_here w one s t.number t.address terms site1).like in
    let site1' : IsEndAddress w' one s = site_stays w s.place h1 (device_step h1 e1).device there like one s site1 in
    let site2' : IsEndAddress w' two t = site_stays w s.place h1 (device_step h1 e1).device there like two t site2 in
    let ids' : HaveOwnIds w'.devices = ids_stay w s.place h1 (device_step h1 e1).device there like ids in
    let second' : (d : Device) → slice_get w'.devices t.place ≡ Some d → w2 ≡ joined_at w' t.place d e2 =
    subst (λ (x : World). (d : Device) → slice_get x.devices t.place ≡ Some d → w2 ≡ joined_at x t.place d e2) (first h1 there) second in
    let left : w2 ≡ w'' = second' (home w' two.context) (lives w' two.context t.place site2'.place).here in
    let rule : connects_one (connects_one w one two terms) two one (exchanged terms) ≡ w'' =
    ap (λ x. connects_one x two one (exchanged terms)) (connected_one w one two s t terms ids site1 site2) ∙ connected_one w' two one t s (exchanged terms) ids' site2' site1' in
    passes w (first_cause (connect_causes w one two)) (answers (connects_one (connects_one w one two terms) two one (exchanged terms)) answer.Done) answer.Done w2 free
    (record { answered = refl; left = left ∙ (kept_is w'' kept ∙ ap with_kept_datagrams (sym rule)) })
