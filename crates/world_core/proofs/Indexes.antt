-- The places of devices, by key.
use Rattle.std.proofs.Common.{◌≡◌, ℕ, ◌==◌, ◌&&◌, List, [], ◌∷◌, ◌++◌, length, Bool, true, false, Option, Some, None, refl, sym, ap, ◌∙◌, arith, bytes_eq, nat_eq, slice_get, if◌then◌else◌}
use Rattle.std.specs.List.{position}
use Rattle.std.proofs.Math.ListN.{set}
use Rattle.std.proofs.lemmas.Bool.Decides.{nat_tests}
use Rattle.rdma_types.specs.declared.names.Name.{Name}
use Rattle.rdma_types.specs.declared.requests.Address.{Address}
use Rattle.rdma_types.specs.Lists.{has, has_name, some}
use Rattle.rdma_types.proofs.Tables.{name_is}
use Rattle.protocol.specs.declared.events.Event.{Event}
use Rattle.protocol.specs.declared.images.Outcome.{Outcome}
use Rattle.protocol.specs.DeviceStep as device
use Rattle.protocol.specs.DeviceStep.{device_step}
use Rattle.protocol.specs.Refusals.{has_context}
use Rattle.protocol.specs.State.{Context, Device}
use Rattle.protocol.specs.WorldStep.{same_address}
use Rattle.world_core.specs.Homes.{looked_up, mover}
use Rattle.world_core.specs.Places.{AreIndexed, port_eq}
use Rattle.world_core.proofs.Living.{IsOther, lives-on}
use Rattle.world_core.proofs.Places.{has-some, position-none, position-push-new, position-push-old, position-set}

-- ---- tests of keys

eq_is : (a b : ℕ) → nat_eq a b ≡ true → a ≡ b
eq_is a b h = grind (arith, nat_tests)

and_left : (a b : Bool) → (a && b) ≡ true → a ≡ true
and_left true b h = refl
and_left false b h = absurd (cc)

and_right : (a b : Bool) → (a && b) ≡ true → b ≡ true
and_right true b h = h
and_right false b h = absurd (cc)

-- ---- a device more

told-more : {K : Type 0} (eq : K → K → Bool) (test : K → Device → Bool) (told told' : K → Option ℕ) (ds : List Device) (d : Device) (key : K) →
    ((k : K) → told k ≡ position (test k) ds) → ((k : K) → told' k ≡ (if eq key k then Some (length ds) else told k)) →
    ((k : K) → test k d ≡ eq key k) → ((k : K) → eq key k ≡ true → some (test k) ds ≡ false) → (k : K) → told' k ≡ position (test k) (ds ++ d ∷ [])
told-more {K} eq test told told' ds d key was put tests free k = by_eq (eq key k) refl
  where
    by_eq : (b : Bool) → eq key k ≡ b → told' k ≡ position (test k) (ds ++ d ∷ [])
    by_eq true e = put k ∙ (ap (λ b. if b then Some (length ds) else told k) e ∙ sym (position-push-new (test k) ds d (free k e) (tests k ∙ e)))
    by_eq false e = put k ∙ (ap (λ b. if b then Some (length ds) else told k) e ∙ (was k ∙ sym (position-push-old (test k) ds d (tests k ∙ e))))

none_named : (n : Name) (cs : List Context) → cs ≡ [] → has_name (λ c. c.name) n cs ≡ false
unfolding has_name
none_named n [] h = refl
none_named n (c ∷ cs) h = absurd (cc)

pub indexed-more : (ds : List Device) (by_id by_id' : ℕ → Option ℕ) (by_port by_port' : ℕ × ℕ → Option ℕ) (by_name : Name → Option ℕ) (d : Device) (id : ℕ) (address : Address) → AreIndexed ds by_id by_port by_name →
    ((k : ℕ) → by_id' k ≡ (if nat_eq id k then Some (length ds) else by_id k)) → ((a : ℕ × ℕ) → by_port' a ≡ (if port_eq (address.ip, address.port) a then Some (length ds) else by_port a)) →
    has (λ x. x.id) id ds ≡ false → some (λ x. same_address x.address address) ds ≡ false → d.id ≡ id → d.address ≡ address → d.contexts ≡ [] → AreIndexed (ds ++ d ∷ []) by_id' by_port' by_name
indexed-more ds by_id by_id' by_port by_port' by_name d id address was ids ports new_id new_address same there empty = record {
  ids = told-more nat_eq (λ k x. x.id == k) by_id by_id' ds d id was.ids ids (λ k. ap (λ i. nat_eq i k) same) (λ k e. ap (λ i. some (λ x. x.id == i) ds) (sym (eq_is id k e)) ∙ (sym (has-some (λ x. x.id) id ds) ∙ new_id));
  ports = told-more port_eq (λ a x. x.address.ip == a.0 && x.address.port == a.1) by_port by_port' ds d (address.ip, address.port) was.ports ports
      (λ a. ap (λ (y : Address). y.ip == a.0 && y.port == a.1) there)
      (λ a e. ap (λ i. some (λ x. x.address.ip == i && x.address.port == a.1) ds) (sym (eq_is address.ip a.0 (and_left (nat_eq address.ip a.0) (nat_eq address.port a.1) e)))
      ∙ (ap (λ p. some (λ x. x.address.ip == address.ip && x.address.port == p) ds) (sym (eq_is address.port a.1 (and_right (nat_eq address.ip a.0) (nat_eq address.port a.1) e))) ∙ new_address));
  homes = λ n. was.homes n ∙ sym (position-push-old (λ x. has_context x n) ds d (none_named n d.contexts empty));
}

-- ---- another device at a place

-- where one context was looked up anew, and all others live where they did
homes-after : (ds : List Device) (told told' : Name → Option ℕ) (p : ℕ) (x x' : Device) (o : Option Name) → ((m : Name) → told m ≡ position (λ d. has_context d m) ds) → slice_get ds p ≡ Some x →
    ((m : Name) → IsOther o m → has_context x' m ≡ has_context x m) → ((m : Name) → told' m ≡ looked_up o (set ds p x') told m) → (m : Name) → told' m ≡ position (λ d. has_context d m) (set ds p x')
homes-after ds told told' p x x' None was here stay put m = put m ∙ (was m ∙ sym (position-set (λ d. has_context d m) p ds x x' here (stay m tt)))
homes-after ds told told' p x x' (Some n) was here stay put m = put m ∙ by (bytes_eq n m) refl
  where
    by : (b : Bool) → bytes_eq n m ≡ b → (if b then position (λ d. has_context d n) (set ds p x') else told m) ≡ position (λ d. has_context d m) (set ds p x')
    by true e = ap (λ k. position (λ d. has_context d k) (set ds p x')) (name_is n m e)
    by false e = was m ∙ sym (position-set (λ d. has_context d m) p ds x x' here (stay m e))

pub indexed-after : (ds : List Device) (by_id : ℕ → Option ℕ) (by_port : ℕ × ℕ → Option ℕ) (by_name by_name' : Name → Option ℕ) (p : ℕ) (x x' : Device) (e : Event) (o : Outcome) → AreIndexed ds by_id by_port by_name → slice_get ds p ≡ Some x →
    x'.id ≡ x.id → x'.address ≡ x.address → device_step x e ≡ record { device = x'; outcome = o } → ((m : Name) → by_name' m ≡ looked_up (mover e) (set ds p x') by_name m) → AreIndexed (set ds p x') by_id by_port by_name'
indexed-after ds by_id by_port by_name by_name' p x x' e o was here same there step homes = record {
  ids = λ k. was.ids k ∙ sym (position-set (λ d. d.id == k) p ds x x' here (ap (λ i. nat_eq i k) same));
  ports = λ a. was.ports a ∙ sym (position-set (λ d. d.address.ip == a.0 && d.address.port == a.1) p ds x x' here (ap (λ (y : Address). y.ip == a.0 && y.port == a.1) there));
  homes = homes-after ds by_name by_name' p x x' (mover e) was.homes here (λ m other. ap (λ (s : device.Step). has_context s.device m) (sym step) ∙ lives-on x m e other) homes;
}

-- ---- none

pub indexed-none : (ds : List Device) (by_id : ℕ → Option ℕ) (by_port : ℕ × ℕ → Option ℕ) (by_name : Name → Option ℕ) → ds ≡ [] → ((k : ℕ) → by_id k ≡ None) → ((a : ℕ × ℕ) → by_port a ≡ None) → ((n : Name) → by_name n ≡ None) → AreIndexed ds by_id by_port by_name
indexed-none ds by_id by_port by_name none ids ports homes = record {
  ids = λ k. ids k ∙ (sym (position-none (λ (d : Device). d.id == k)) ∙ ap (λ xs. position (λ d. d.id == k) xs) (sym none));
  ports = λ a. ports a ∙ (sym (position-none (λ (d : Device). d.address.ip == a.0 && d.address.port == a.1)) ∙ ap (λ xs. position (λ d. d.address.ip == a.0 && d.address.port == a.1) xs) (sym none));
  homes = λ n. homes n ∙ (sym (position-none (λ (d : Device). has_context d n)) ∙ ap (λ xs. position (λ d. has_context d n) xs) (sym none));
}
