-- A queue pair is made.
use Rattle.std.proofs.Common.{arith, ◌≡◌, ◌≢◌, ◌∙◌, ◌≤◌, ◌+◌, ◌*◌, ◌/◌, ◌%◌, ℕ, zero, suc, List, [], ◌∷◌, ◌++◌, length, true, false, Bool, refl, sym, ap, subst, inl, inr}
use Rattle.std.specs.Prelude.{All, bytes_eq, ◌⊎◌, ◌||◌, ◌==◌, if◌then◌else◌, nat_le, Option, Some, None, is_none, slice_get, Result, Ok, Err, OnOk, OnErr, IfOk, IfSome, is_ok}
use Rattle.std.specs.Map.{lookup, set_value}
use Rattle.std.proofs.lemmas.Bool.{or_right, true≢false}
use Rattle.std.proofs.lemmas.Bool.Decides.{eqb_tells, nat_tests}
use Rattle.std.proofs.lemmas.List.{length-map, map-append}
use Rattle.std.proofs.lemmas.Map.Steps.{set_value_same}
use Rattle.rdma_types.specs.Causes.{first_cause}
use Rattle.rdma_types.specs.declared.answers.Answer.TheVariants as answer
use Rattle.rdma_types.specs.declared.answers.Refusal.{Refusal}
use Rattle.rdma_types.specs.declared.answers.Refusal.TheVariants.{NoSuch, NumberTaken, TooMany}
use Rattle.rdma_types.specs.declared.names.Name.{Name}
use Rattle.rdma_types.specs.declared.requests.Address.{Address}
use Rattle.rdma_types.specs.Limits.{most_ends, most_numbers}
use Rattle.rdma_types.specs.Lists.{has, has_name, has_word, named, store_named}
use Rattle.rdma_types.proofs.Tables.{has_name-store, named-store_other, named-store_same}
use Rattle.page_pool.specs.Pool.{Pool}
use Rattle.protocol.specs.declared.images.Outcome.{Outcome}
use Rattle.protocol.specs.DeviceStep.{Step, answers, counting_qp, makes_end, number_of, with_context, with_new_end, word_of}
use Rattle.protocol.specs.Events.{IsLawfulEvent}
use Rattle.protocol.specs.Refusals.{has_context, has_end, has_queue, lacks, qp_causes}
use Rattle.protocol.specs.State.{Context, Device, End, context_at, no_context, no_husk}
use Rattle.context_core.specs.Context.{Holding, IsContext, Moves, context_in}
use Rattle.context_core.specs.Faults.{refusal_of}
use Rattle.context_core.specs.declared.ContextFault.{ContextFault}
use Rattle.context_core.specs.declared.making.NewEnd.{NewEnd}
use Rattle.law_devices.specs.Sound.{AreCounted, GivesNames, IsSoundDevice}
use Rattle.law_devices.proofs.Regions.{All-at}
use Rattle.law_devices.proofs.Tables.{All-named, name_tells}
use Rattle.device_core.specs.declared.husks.HuskEntry.{HuskEntry}
use Rattle.device_core.specs.declared.index.EndLocation.{EndLocation}
use Rattle.device_core.specs.Done.{IsDone, number_answer, plain, qp_event, told_by}
use Rattle.device_core.specs.Held.{IsHeld, IsLeft}
use Rattle.device_core.specs.Index.{IsEndAt, IsEntryAt, IsIndex, husk_at, noted, numbers_of, spot}
use Rattle.device_core.specs.Parts.{contexts_in, device_of}
use Rattle.device_core.proofs.Contexts.{others-keep, stored-view}
use Rattle.device_core.proofs.Dones.{done-by, sound-done}
use Rattle.device_core.proofs.Helds.{context-is, held-stored, there-is, view-is}
use Rattle.device_core.proofs.IndexAdds.{Adds, Notes, index-adds}
use Rattle.device_core.proofs.Laws as laws
use Rattle.device_core.proofs.Stepping.{Stepped}

-- with no numbers left a cause holds
no-numbers : (d : Device) (c : Context) (n : Name) (domain send recv : Option Name) → nat_le most_numbers d.qp_count ≡ true → (w : Refusal) × (first_cause (qp_causes d c n domain send recv) ≡ Some w)
unfolding first_cause
no-numbers d c n domain send recv all = by_cause (lacks (λ x. has_word x c.domains) domain || (lacks (has_queue c) send || lacks (has_queue c) recv)) (has_end c n) (nat_le most_ends _ || nat_le most_numbers d.qp_count) (or_right _ _ all)
  where
    by_cause : (a b t : Bool) → t ≡ true → (w : Refusal) × ((if a then Some NoSuch else if b then Some NumberTaken else if t then Some TooMany else None) ≡ Some w)
    by_cause true b t e = (NoSuch, refl)
    by_cause false true t e = (NumberTaken, refl)
    by_cause false false true e = (TooMany, refl)
    by_cause false false false e = absurd (cc)

-- a rule at every device says what context is made
only-context : (c new : Context) (n : Name) (domain send recv : Option Name) (send_depth recv_depth : ℕ) (d : Device) (e : End) → makes_end (record d { contexts = [] }) c n domain send recv send_depth recv_depth ≡ answers (with_context (counting_qp (record d { contexts = [] })) (with_new_end c e)) (answer.Qp (number_of d))
    → makes_end (record d { contexts = [] }) c n domain send recv send_depth recv_depth ≡ answers (with_context (counting_qp (record d { contexts = [] })) new) (answer.Qp (number_of d)) → new ≡ with_new_end c e
unfolding with_context store_named
only-context c new n domain send recv send_depth recv_depth d e rule made = first _ _ (ap (λ (s : Step). s.device.contexts) (sym made ∙ rule))
  where
    first : (a b : Context) → a ∷ [] ≡ b ∷ [] → a ≡ b
    first a b h = cc

-- a number past the count is nowhere
fresh-number : (index : ℕ → Option EndLocation) (d : Device) → IsIndex index d → All (AreCounted d) d.contexts → All (λ h. All (IsLeft d.id d.qp_count) h.entries) d.husks → d.qp_count + 1 ≤ 65535 → index (number_of d) ≡ None
fresh-number index d i counted left few = by_found (index (number_of d)) refl
  where
    past : (k : ℕ) → k ≡ d.id * 65536 + (d.qp_count + 1) → (k / 65536 ≡ d.id → k % 65536 ≤ d.qp_count) → ⊥
    past k e h =
        let quotient : k / 65536 ≡ d.id = omega (arith, e, few) in
        omega (arith, e, few, h quotient, quotient)

    by_spot : (s : EndLocation) → index (number_of d) ≡ Some s → IsEndAt d s.context s.place (number_of d) ⊎ IsEntryAt d s.context s.place (number_of d) → ⊥
    by_spot s h (inl e) =
        let here = All-named (AreCounted d) (λ c. c.name) no_context s.context d.contexts counted e.lives in
        let mine = All-at (λ x. x.number / 65536 ≡ d.id → x.number % 65536 ≤ d.qp_count) (context_at d s.context).ends s.place e.end here.ends e.there in
        past e.end.number e.same mine
    by_spot s h (inr e) =
        let here = All-named (λ h. All (IsLeft d.id d.qp_count) h.entries) (λ h. h.name) no_husk s.context d.husks left e.stays in
        let mine = All-at (IsLeft d.id d.qp_count) (husk_at d s.context).entries s.place e.entry here e.there in
        past e.entry.number e.same mine.counted

    by_found : (o : Option EndLocation) → index (number_of d) ≡ o → index (number_of d) ≡ None
    by_found None h = h
    by_found (Some s) h = absurd (by_spot s h (i.exact s.context s.place (number_of d) h))

-- what the index says after the making
pub record Noted (index index' : ℕ → Option EndLocation) (made : Bool) (number : Option ℕ) (n : Name) (place : ℕ) : Type 0 where
  pub said : (k : ℕ) → index' k ≡ noted made number (spot n place) k (index k)

noted-not : (index index' : ℕ → Option EndLocation) (number : Option ℕ) (n : Name) (place : ℕ) → Noted index index' false number n place → index' ≡ index
noted-not index index' None n place h = λ i k. h.said k i
noted-not index index' (Some m) n place h = λ i k. h.said k i

noted-one : (index index' : ℕ → Option EndLocation) (m : ℕ) (n : Name) (place : ℕ) → Noted index index' true (Some m) n place → index m ≡ None → Notes index index' n place (m ∷ [])
unfolding has
noted-one index index' m n place h free = record {
  here = λ i k at. first i k at;
  others = λ k other. elim (eqb_tells m k) [
    | inl t ↦ absurd (true≢false (sym (ap (λ b. b || false) t.0) ∙ other))
    | inr t ↦ h.said k ∙ ap (λ b. if b then Some (spot n place) else index k) t.0
  ];
  fresh = λ k one. elim (eqb_tells m k) [
    | inl t ↦ ap index (sym t.1) ∙ free
    | inr t ↦ absurd (true≢false (sym one ∙ ap (λ b. b || false) t.0))
  ];
}
  where
    first : (i k : ℕ) → slice_get (m ∷ []) i ≡ Some k → index' k ≡ Some (spot n (place + i))
    first zero k at =
        let same : m ≡ k = cc in
        let here : (m == k) ≡ true = grind (arith, nat_tests, same) in
        let start : place ≡ place + 0 = omega arith in
        h.said k ∙ (ap (λ b. if b then Some (spot n place) else index k) here ∙ ap (λ p. Some (spot n p)) start)
    first (suc i) k at = absurd (cc)

-- ends with one more number
pub one-more : (old new : Device) (n : Name) (c : Context) (numbers : List ℕ) → new.husks ≡ old.husks → new.contexts ≡ store_named (λ x. x.name) n c old.contexts → c.name ≡ n → has_context old n ≡ true → numbers_of c ≡ numbers_of (context_at old n) ++ numbers → Adds old new n numbers
one-more old new n c numbers husks contexts name there more = record {
  husks = husks;
  live = λ m other. ap (has_name (λ x. x.name) m) contexts ∙ (has_name-store (λ x. x.name) n m c old.contexts name ∙ not_this m other (name_tells n m));
  same = λ m other. ap numbers_of (ap (named (λ x. x.name) no_context m) contexts ∙ other_name m other (name_tells n m));
  there = ap (has_name (λ x. x.name) n) contexts ∙ (has_name-store (λ x. x.name) n n c old.contexts name ∙ ap (λ b. bytes_eq n n || b) there ∙ or_true (bytes_eq n n));
  more = ap numbers_of (ap (named (λ x. x.name) no_context n) contexts ∙ named-store_same (λ x. x.name) no_context n c old.contexts name) ∙ more;
  none = λ gone. absurd (true≢false (sym there ∙ gone));
}
  where
    or_true : (b : Bool) → (b || true) ≡ true
    or_true true = refl
    or_true false = refl

    not_this : (m : Name) → m ≢ n → ((bytes_eq n m ≡ true) × (n ≡ m)) ⊎ ((bytes_eq n m ≡ false) × (n ≢ m)) → (bytes_eq n m || has_context old m) ≡ has_context old m
    not_this m other (inl t) = absurd (other (sym t.1))
    not_this m other (inr t) = ap (λ b. b || has_context old m) t.0

    other_name : (m : Name) → m ≢ n → ((bytes_eq n m ≡ true) × (n ≡ m)) ⊎ ((bytes_eq n m ≡ false) × (n ≢ m)) → named (λ x. x.name) no_context m (store_named (λ x. x.name) n c old.contexts) ≡ named (λ x. x.name) no_context m old.contexts
    other_name m other (inl t) = absurd (other (sym t.1))
    other_name m other (inr t) = named-store_other (λ x. x.name) no_context n m c old.contexts name t.0

-- the counts fit
below-most : (qp : ℕ) → false ≡ nat_le most_numbers qp → qp + 1 ≤ 65535
below-most qp h = grind (arith, nat_tests, h)

module _ (id : ℕ) (address : Address) (qp key : ℕ) (pool : Pool) (es : List (Name × Holding)) (husks : List (Name × List HuskEntry)) (index : ℕ → Option EndLocation) (held : IsHeld pool es index (device_of id address qp key pool es husks))
    (n : Name) (s : Holding) (found : lookup (bytes_eq n) es ≡ Some s) (s' : Holding) (moves : Moves pool pool s s') (is : IsContext pool s') (es' : List (Name × Holding)) (set : es' ≡ set_value (bytes_eq n) es s') (index' : ℕ → Option EndLocation) (qp' : ℕ) (asked : NewEnd) where
  abbrev before_making : Device
  before_making = device_of id address qp key pool es husks

  module _ (r : Result (Unit {0}) ContextFault) (number : Option ℕ) (told : Result Outcome ContextFault)
      (tells : told ≡ told_by (λ x. plain (number_answer number)) r)
      (refused : refusal_of r ≡ first_cause (qp_causes before_making (context_in pool n s) asked.name asked.domain asked.send_cq asked.recv_cq))
      (all : is_none number ≡ nat_le most_numbers qp) (next : IfSome number (λ m. m ≡ number_of before_making)) (counts : qp' ≡ (if is_ok r then qp + 1 else qp))
      (notes : Noted index index' (is_ok r) number n (length (context_in pool n s).ends))
      (made : (d : Device) → number ≡ Some (number_of d) → OnOk r (makes_end d (context_in pool n s) asked.name asked.domain asked.send_cq asked.recv_cq asked.send_depth asked.recv_depth ≡ answers (with_context (counting_qp d) (context_in pool n s')) (answer.Qp (number_of d))))
      (err : OnErr r (s' ≡ s)) (lawful : IsLawfulEvent (qp_event n asked)) (spelled : GivesNames (qp_event n asked)) where
    new-view : device_of id address qp' key pool es' husks ≡ with_context (record before_making { qp_count = qp' }) (context_in pool n s')
    new-view = ap (λ xs. device_of id address qp' key pool xs husks) set ∙ view-is id address qp key pool es husks index held n s found pool s' moves qp' key

    qp-done : IsDone before_making (qp_event n asked) (device_of id address qp' key pool es' husks) told
    qp-done = done-by before_making (device_of id address qp' key pool es' husks) (qp_event n asked) n (λ c. qp_causes before_making c asked.name asked.domain asked.send_cq asked.recv_cq) (λ x. plain (number_answer number)) r told tells refl
        (there-is id address qp key pool es husks index held n s found)
        (refused ∙ ap (λ c. first_cause (qp_causes before_making c asked.name asked.domain asked.send_cq asked.recv_cq)) (sym (context-is id address qp key pool es husks index held n s found)))
        (ok number r refl all next counts made) (back r counts err)
      where
        back : (x : Result (Unit {0}) ContextFault) → qp' ≡ (if is_ok x then qp + 1 else qp) → OnErr x (s' ≡ s) → OnErr x (device_of id address qp' key pool es' husks ≡ before_making)
        back (Ok y) c e = tt
        back (Err f) c e = λ i. device_of id address (c i) key pool ((set ∙ (ap (set_value (bytes_eq n) es) e ∙ set_value_same (bytes_eq n) es s found)) i) husks

        ok : (m : Option ℕ) (x : Result (Unit {0}) ContextFault) → r ≡ x → is_none m ≡ nat_le most_numbers qp → IfSome m (λ k. k ≡ number_of before_making) → qp' ≡ (if is_ok x then qp + 1 else qp)
            → ((d : Device) → m ≡ Some (number_of d) → OnOk x (makes_end d (context_in pool n s) asked.name asked.domain asked.send_cq asked.recv_cq asked.send_depth asked.recv_depth ≡ answers (with_context (counting_qp d) (context_in pool n s')) (answer.Qp (number_of d))))
            → IfOk x (λ y. makes_end before_making (context_at before_making n) asked.name asked.domain asked.send_cq asked.recv_cq asked.send_depth asked.recv_depth ≡ record { device = device_of id address qp' key pool es' husks; outcome = plain (number_answer m) })
        ok m (Err f) is' a b c h = tt
        ok None (Ok y) is' a b c h = let cause = no-numbers before_making (context_in pool n s) asked.name asked.domain asked.send_cq asked.recv_cq (sym a) in absurd (cc (ap refusal_of is', refused, cause.1))
        ok (Some k) (Ok y) is' a b c h =
            ap (λ z. makes_end before_making z asked.name asked.domain asked.send_cq asked.recv_cq asked.send_depth asked.recv_depth) (context-is id address qp key pool es husks index held n s found)
            ∙ (h before_making (ap Some b)
            ∙ (λ i. record { device = (ap (λ q. with_context (record before_making { qp_count = q }) (context_in pool n s')) (sym c) ∙ sym new-view) i; outcome = plain (answer.Qp (sym b i)) }))

    new_sound : IsSoundDevice (device_of id address qp' key pool (set_value (bytes_eq n) es s') husks)
    new_sound = subst (λ xs. IsSoundDevice (device_of id address qp' key pool xs husks)) set (sound-done before_making (device_of id address qp' key pool es' husks) (qp_event n asked) told held.sound lawful spelled qp-done)

    stored : contexts_in pool (set_value (bytes_eq n) es s') ≡ store_named (λ c. c.name) n (context_in pool n s') (contexts_in pool es)
    stored = stored-view pool pool n s s' es found (others-keep pool pool n s s' es moves held.each held.apart found)

    -- the context has one end more
    more_numbers : (k : ℕ) → number ≡ Some k → k ≡ number_of before_making → is_ok r ≡ true → numbers_of (context_in pool n s') ≡ numbers_of (context_at before_making n) ++ k ∷ []
    unfolding makes_end with_new_end
    more_numbers k some b good =
        let e = new_end in
        let is_new = only-context (context_in pool n s) (context_in pool n s') asked.name asked.domain asked.send_cq asked.recv_cq asked.send_depth asked.recv_depth before_making e refl (on_ok r good (made (record before_making { contexts = [] }) (some ∙ ap Some b))) in
        ap numbers_of is_new
        ∙ (map-append (λ x. x.number) (context_in pool n s).ends (e ∷ [])
        ∙ (λ i. numbers_of (sym (context-is id address qp key pool es husks index held n s found) i) ++ sym b i ∷ []))
      where
        new_end : End
        new_end = record { name = asked.name; number = number_of before_making; domain = word_of asked.domain; send_cq = word_of asked.send_cq; recv_cq = word_of asked.recv_cq; send_depth = asked.send_depth; recv_depth = asked.recv_depth; unused = []; link = None }

        on_ok : {P : Type 0} (x : Result (Unit {0}) ContextFault) → is_ok x ≡ true → OnOk x P → P
        on_ok (Ok y) g h = h
        on_ok (Err f) g h = absurd (cc)

    held_ok : (k : ℕ) → number ≡ Some k → k ≡ number_of before_making → is_ok r ≡ true → qp' ≡ qp + 1 → false ≡ nat_le most_numbers qp → IsHeld pool (set_value (bytes_eq n) es s') index' (device_of id address qp' key pool (set_value (bytes_eq n) es s') husks)
    held_ok k some b good one few =
        let adds = one-more before_making (device_of id address qp' key pool (set_value (bytes_eq n) es s') husks) n (context_in pool n s') (k ∷ []) refl stored (laws.name pool s' n) (there-is id address qp key pool es husks index held n s found) (more_numbers k some b good) in
        let free : index k ≡ None = ap index b ∙ fresh-number index before_making held.indexed held.sound.counted held.left (below-most qp few) in
        let place : length (context_in pool n s).ends ≡ length (numbers_of (context_at before_making n)) = ap (λ (c : Context). length c.ends) (sym (context-is id address qp key pool es husks index held n s found)) ∙ sym (length-map (context_at before_making n).ends (λ x. x.number)) in
        let noted' : Noted index index' true (Some k) n (length (context_in pool n s).ends) = subst (λ m. Noted index index' true m n (length (context_in pool n s).ends)) some (subst (λ g. Noted index index' g number n (length (context_in pool n s).ends)) good notes) in
        let notes' = subst (λ p. Notes index index' n p (k ∷ [])) place (noted-one index index' k n (length (context_in pool n s).ends) noted' free) in
        held-stored id address qp key pool es husks index held n s found pool s' moves qp' key index' (omega (arith, one)) is
        (index-adds index index' before_making (device_of id address qp' key pool (set_value (bytes_eq n) es s') husks) n (k ∷ []) adds notes' held.indexed) new_sound

    held_err : is_ok r ≡ false → s' ≡ s → qp' ≡ qp → IsHeld pool (set_value (bytes_eq n) es s') index' (device_of id address qp' key pool (set_value (bytes_eq n) es s') husks)
    held_err bad same count =
        let back : index ≡ index' = sym (noted-not index index' number n (length (context_in pool n s).ends) (subst (λ g. Noted index index' g number n (length (context_in pool n s).ends)) bad notes)) in
        let entries : es ≡ set_value (bytes_eq n) es s' = sym (ap (set_value (bytes_eq n) es) same ∙ set_value_same (bytes_eq n) es s found) in
        subst (λ xs. IsHeld pool xs index' (device_of id address qp' key pool xs husks)) entries
        (subst (λ q. IsHeld pool es index' (device_of id address q key pool es husks)) (sym count)
        (subst (λ i. IsHeld pool es i (device_of id address qp key pool es husks)) back held))

    the_held : (m : Option ℕ) (x : Result (Unit {0}) ContextFault) → number ≡ m → r ≡ x → is_none m ≡ nat_le most_numbers qp → IfSome m (λ k. k ≡ number_of before_making) → qp' ≡ (if is_ok x then qp + 1 else qp) → OnErr x (s' ≡ s) → IsHeld pool (set_value (bytes_eq n) es s') index' (device_of id address qp' key pool (set_value (bytes_eq n) es s') husks)
    the_held m (Err f) at is' a b c e = held_err (ap is_ok is') e c
    the_held None (Ok y) at is' a b c e = let cause = no-numbers before_making (context_in pool n s) asked.name asked.domain asked.send_cq asked.recv_cq (sym a) in absurd (cc (ap refusal_of is', refused, cause.1))
    the_held (Some k) (Ok y) at is' a b c e = held_ok k at b (ap is_ok is') c a

    pub qp-made : Stepped before_making (qp_event n asked) pool es' index' (device_of id address qp' key pool es' husks) told
    qp-made = record {
      done = qp-done;
      held = λ l named. subst (λ xs. IsHeld pool xs index' (device_of id address qp' key pool xs husks)) (sym set) (the_held number r refl refl all next counts err);
    }
