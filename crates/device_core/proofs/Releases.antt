-- A husk is forgotten.
use Rattle.std.proofs.Common.{arith, ◌≡◌, ◌≢◌, ◌<◌, ◌+◌, ℕ, zero, suc, List, [], ◌∷◌, ◌++◌, map, length, take, get_or, true, false, Bool, refl, sym, ap, ◌∙◌, inl, inr, subst}
use Rattle.std.specs.Prelude.{All, AllPairs, bytes_eq, ◌⊎◌, ◌||◌, ◌==◌, if◌then◌else◌, not, Option, Some, None, is_some, slice_get, Result, Ok, Err}
use Rattle.std.specs.Map.{lookup, remove_entry}
use Rattle.std.proofs.lemmas.Bool.{cases_Bool, true≢false}
use Rattle.std.proofs.lemmas.List.{take_more, map-append}
use Rattle.rdma_types.specs.declared.names.Name.{Name}
use Rattle.rdma_types.specs.declared.requests.Address.{Address}
use Rattle.rdma_types.specs.declared.answers.Answer.TheVariants as answer
use Rattle.rdma_types.specs.declared.answers.Refusal.TheVariants.{NoSuch}
use Rattle.rdma_types.specs.Causes.{first_cause}
use Rattle.rdma_types.specs.Lists.{has, has_name, named, without}
use Rattle.page_pool.specs.Pool.{Pool}
use Rattle.protocol.specs.declared.events.Event.TheVariants as event
use Rattle.protocol.specs.declared.images.Outcome.{Outcome}
use Rattle.protocol.specs.DeviceStep.{releases}
use Rattle.protocol.specs.Events.{IsLawfulEvent}
use Rattle.protocol.specs.Refusals.{has_context, has_husk}
use Rattle.protocol.specs.State as state
use Rattle.protocol.specs.State.{Device, Husk, context_at, no_context, no_husk}
use Rattle.context_core.specs.Context.{Holding}
use Rattle.context_core.specs.declared.ContextFault.{ContextFault}
use Rattle.context_core.specs.declared.ContextFault.TheVariants.{Refused}
use Rattle.law_devices.proofs.Tables.{All-without, name_tells}
use Rattle.device_core.specs.declared.husks.HuskEntry.{HuskEntry}
use Rattle.device_core.specs.declared.index.EndLocation.{EndLocation}
use Rattle.device_core.specs.Done.{IsDone, plain}
use Rattle.device_core.specs.Held.{IsHeld, IsLeft}
use Rattle.device_core.specs.Index.{IsEndAt, IsEntryAt, IsIndex, husk_at, numbers_in, spot, without_numbers}
use Rattle.device_core.specs.Parts.{device_of, entry_of, husk_in}
use Rattle.device_core.proofs.Dones.{sound-done, step-done, step-refused}
use Rattle.device_core.proofs.HuskNames.{bytes_eq_sym, entry_there, husk-found, husk-there}
use Rattle.device_core.proofs.IndexAdds.{has_at, place_in, same_spot}
use Rattle.device_core.proofs.Stepping.{Stepped}
use Rattle.device_core.proofs.Withouts.{has-without_other, named-without_other, pairs-without, without-lacks}

-- ---- numbers that are forgotten

has-push : (k x : ℕ) (xs : List ℕ) → has (λ z. z) k (xs ++ x ∷ []) ≡ (x == k || has (λ z. z) k xs)
unfolding has
has-push k x [] = refl
has-push k x (y ∷ xs) = ap (λ b. y == k || b) (has-push k x xs) ∙ swap (y == k) (x == k) (has (λ z. z) k xs)
  where
    swap : (a b c : Bool) → (a || (b || c)) ≡ (b || (a || c))
    swap true true c = refl
    swap true false c = refl
    swap false b c = refl

pub forgets-none : (k : ℕ) (o : Option EndLocation) → without_numbers [] k o ≡ o
unfolding has
forgets-none k o = refl

pub forgets : (es : List HuskEntry) (i : ℕ) → i < length es → (k : ℕ) (o now : Option EndLocation) → now ≡ without_numbers (numbers_in (take i es)) k o → (d : HuskEntry) → (if (get_or es i d).number == k then None else now) ≡ without_numbers (numbers_in (take (i + 1) es)) k o
forgets es i l k o now was d =
    let more : numbers_in (take (i + 1) es) ≡ numbers_in (take i es) ++ (get_or es i d).number ∷ [] = ap (λ j. numbers_in (take j es)) (omega arith) ∙ (ap numbers_in (take_more es i d l) ∙ map-append (λ (e : HuskEntry). e.number) (take i es) (get_or es i d ∷ [])) in
    ap (λ x. if (get_or es i d).number == k then None else x) was
    ∙ (both ((get_or es i d).number == k) (has (λ z. z) k (numbers_in (take i es))) o
    ∙ ap (λ b. if b then None else o) (sym (ap (has (λ z. z) k) more ∙ has-push k (get_or es i d).number (numbers_in (take i es)))))
  where
    both : (a b : Bool) (o : Option EndLocation) → (if a then None else if b then None else o) ≡ (if a || b then None else o)
    both true b o = refl
    both false b o = refl

-- ---- husks without one

pub without-view : (n : Name) (hs : List (Name × List HuskEntry)) → map husk_in (remove_entry (bytes_eq n) hs) ≡ without (λ h. h.name) n (map husk_in hs)
unfolding without
without-view n [] = refl
without-view n (h ∷ hs) = by_test (bytes_eq n h.0) (bytes_eq_sym h.0 n) (without-view n hs)
  where
    by_test : (b : Bool) → bytes_eq h.0 n ≡ b → map husk_in (remove_entry (bytes_eq n) hs) ≡ without (λ x. x.name) n (map husk_in hs) → map husk_in (if b then hs else h ∷ remove_entry (bytes_eq n) hs) ≡ (if bytes_eq h.0 n then map husk_in hs else husk_in h ∷ without (λ x. x.name) n (map husk_in hs))
    by_test true e later = ap (λ b. if b then map husk_in hs else husk_in h ∷ without (λ x. x.name) n (map husk_in hs)) (sym e)
    by_test false e later = ap (λ xs. husk_in h ∷ xs) later ∙ ap (λ b. if b then map husk_in hs else husk_in h ∷ without (λ x. x.name) n (map husk_in hs)) (sym e)

-- ---- the index

pub number_of_entry : (es : List HuskEntry) (i : ℕ) (h : HuskEntry) → slice_get es i ≡ Some h → slice_get (numbers_in es) i ≡ Some h.number
number_of_entry [] i h e = absurd (cc)
number_of_entry (x ∷ es) zero h e = let same : x ≡ h = cc in ap (λ (z : HuskEntry). Some z.number) same
number_of_entry (x ∷ es) (suc i) h e = number_of_entry es i h e

pub entry_of_number : (es : List HuskEntry) (i k : ℕ) → slice_get (numbers_in es) i ≡ Some k → (e : state.HuskEntry) × (slice_get (map entry_of es) i ≡ Some e) × (e.number ≡ k)
entry_of_number [] i k h = absurd (cc)
entry_of_number (x ∷ es) zero k h = (entry_of x, refl, cc)
entry_of_number (x ∷ es) (suc i) k h = entry_of_number es i k h

-- the index without the numbers of a husk is that of the device without the husk
pub index-released : (index index' : ℕ → Option EndLocation) (old new : Device) (n : Name) (es : List HuskEntry) → new.contexts ≡ old.contexts → new.husks ≡ without (λ h. h.name) n old.husks
    → AllPairs (λ a b. a ≢ b) (map (λ h. h.name) old.husks) → ((m : Name) → has_context old m ≡ true → has_husk old m ≡ false)
    → has_husk old n ≡ true → (husk_at old n).entries ≡ map entry_of es → ((k : ℕ) → index' k ≡ without_numbers (numbers_in es) k (index k)) → IsIndex index old → IsIndex index' new
index-released index index' old new n es contexts husks names either there entries forgot i = record {
  ends = λ m place k e. forgot k ∙ (left k (spot m place) (end_old m place k e) (end_stays m place k e));
  entries = λ m place k e. forgot k ∙ (left k (spot m place) (entry_old m place k e) (entry_stays m place k e));
  exact = λ m place k h. elim (cases_Bool (has (λ x. x) k (numbers_in es))) [
    | inl t ↦ absurd (none_some (spot m place) (sym (forgot k ∙ ap (λ b. if b then None else index k) t) ∙ h))
    | inr t ↦ elim (i.exact m place k (sym (forgot k ∙ ap (λ b. if b then None else index k) t) ∙ h)) [
      | inl e ↦ inl (end_new m place k e)
      | inr e ↦ inr (entry_new m place k t e)
    ]
  ];
}
  where
    none_some : (s : EndLocation) → None ≡ Some s → ⊥
    none_some s h = absurd (cc)

    live : (m : Name) → has_context new m ≡ has_context old m
    live m = ap (has_name (λ c. c.name) m) contexts

    same_context : (m : Name) → context_at new m ≡ context_at old m
    same_context m = ap (named (λ c. c.name) no_context m) contexts

    end_is : (m : Name) (place k : ℕ) → IsEndAt new m place k → IsEndAt old m place k
    end_is m place k e = record { lives = sym (live m) ∙ e.lives; end = e.end; there = ap (λ (c : state.Context). slice_get c.ends place) (sym (same_context m)) ∙ e.there; same = e.same }

    end_new : (m : Name) (place k : ℕ) → IsEndAt old m place k → IsEndAt new m place k
    end_new m place k e = record { lives = live m ∙ e.lives; end = e.end; there = ap (λ (c : state.Context). slice_get c.ends place) (same_context m) ∙ e.there; same = e.same }

    other : (m : Name) → has_husk new m ≡ true → n ≢ m
    other m h is = true≢false (sym h ∙ (ap (has_name (λ x. x.name) m) husks ∙ (ap (λ z. has_name (λ x. x.name) z (without (λ x. x.name) n old.husks)) (sym is) ∙ without-lacks (λ h. h.name) n old.husks names)))

    entry_is : (m : Name) (place k : ℕ) → IsEntryAt new m place k → IsEntryAt old m place k
    entry_is m place k e = record {
      stays = sym (ap (has_name (λ x. x.name) m) husks ∙ has-without_other (λ h. h.name) n m old.husks (other m e.stays)) ∙ e.stays;
      entry = e.entry;
      there = ap (λ (h : Husk). slice_get h.entries place) (sym (ap (named (λ x. x.name) no_husk m) husks ∙ named-without_other (λ h. h.name) no_husk n m old.husks (other m e.stays))) ∙ e.there;
      same = e.same;
    }

    end_old : (m : Name) (place k : ℕ) → IsEndAt new m place k → index k ≡ Some (spot m place)
    end_old m place k e = i.ends m place k (end_is m place k e)

    entry_old : (m : Name) (place k : ℕ) → IsEntryAt new m place k → index k ≡ Some (spot m place)
    entry_old m place k e = i.entries m place k (entry_is m place k e)

    -- a number of the husk is noted there
    noted_there : (k : ℕ) → has (λ x. x) k (numbers_in es) ≡ true → (p : ℕ) × (index k ≡ Some (spot n p))
    noted_there k h =
        let p = place_in (numbers_in es) k h in
        let e = entry_of_number es p.0 k p.1 in
        (p.0, i.entries n p.0 k (record { stays = there; entry = e.0; there = ap (λ xs. slice_get xs p.0) entries ∙ e.1; same = e.2 }))

    not_in : (m : Name) (place k : ℕ) → n ≢ m → index k ≡ Some (spot m place) → (b : Bool) → has (λ x. x) k (numbers_in es) ≡ b → has (λ x. x) k (numbers_in es) ≡ false
    not_in m place k apart at true h = let t = noted_there k h in absurd (apart (sym (same_spot m n place t.0 (sym at ∙ t.1)).0))
    not_in m place k apart at false h = h

    end_stays : (m : Name) (place k : ℕ) → IsEndAt new m place k → has (λ x. x) k (numbers_in es) ≡ false
    end_stays m place k e = not_in m place k (λ is. true≢false (sym there ∙ (ap (has_husk old) is ∙ either m (sym (live m) ∙ e.lives)))) (end_old m place k e) (has (λ x. x) k (numbers_in es)) refl

    entry_stays : (m : Name) (place k : ℕ) → IsEntryAt new m place k → has (λ x. x) k (numbers_in es) ≡ false
    entry_stays m place k e = not_in m place k (other m e.stays) (entry_old m place k e) (has (λ x. x) k (numbers_in es)) refl

    left : (k : ℕ) (s : EndLocation) → index k ≡ Some s → has (λ x. x) k (numbers_in es) ≡ false → without_numbers (numbers_in es) k (index k) ≡ Some s
    left k s at gone = ap (λ b. if b then None else index k) gone ∙ at

    entry_new : (m : Name) (place k : ℕ) → has (λ x. x) k (numbers_in es) ≡ false → IsEntryAt old m place k → IsEntryAt new m place k
    entry_new m place k gone e = by_name (name_tells n m)
      where
        its : n ≡ m → has (λ x. x) k (numbers_in es) ≡ true
        its is =
            let at : slice_get (map entry_of es) place ≡ Some e.entry = ap (λ xs. slice_get xs place) (sym entries) ∙ (ap (λ z. slice_get (husk_at old z).entries place) is ∙ e.there) in
            let f = entry_there es place e.entry at in
            has_at (numbers_in es) place k (number_of_entry es place f.0 f.1 ∙ ap Some (ap (λ (z : state.HuskEntry). z.number) f.2 ∙ e.same))

        by_name : ((bytes_eq n m ≡ true) × (n ≡ m)) ⊎ ((bytes_eq n m ≡ false) × (n ≢ m)) → IsEntryAt new m place k
        by_name (inl t) = absurd (true≢false (sym (its t.1) ∙ gone))
        by_name (inr t) = record {
          stays = ap (has_name (λ x. x.name) m) husks ∙ (has-without_other (λ h. h.name) n m old.husks t.1 ∙ e.stays);
          entry = e.entry;
          there = ap (λ (h : Husk). slice_get h.entries place) (ap (named (λ x. x.name) no_husk m) husks ∙ named-without_other (λ h. h.name) no_husk n m old.husks t.1) ∙ e.there;
          same = e.same;
        }

-- ---- the event

module _ (id : ℕ) (address : Address) (qp key : ℕ) (pool : Pool) (es : List (Name × Holding)) (husks : List (Name × List HuskEntry)) (index : ℕ → Option EndLocation) (held : IsHeld pool es index (device_of id address qp key pool es husks)) (n : Name) where
  -- no husk has the name
  pub release-nothing : (husks' : List (Name × List HuskEntry)) → lookup (bytes_eq n) husks ≡ None → husks' ≡ husks → (told : Result Outcome ContextFault) → told ≡ Err (Refused NoSuch) → Stepped (device_of id address qp key pool es husks) (event.Release n) pool es index (device_of id address qp key pool es husks') told
  unfolding first_cause
  release-nothing husks' none same told tells =
      let gone : has_husk (device_of id address qp key pool es husks) n ≡ false = sym (husk-there n husks) ∙ ap is_some none in
      subst (λ hs. Stepped (device_of id address qp key pool es husks) (event.Release n) pool es index (device_of id address qp key pool es hs) told) (sym same)
      (record {
        done = subst (λ t. IsDone (device_of id address qp key pool es husks) (event.Release n) (device_of id address qp key pool es husks) t) (sym tells) (step-refused (device_of id address qp key pool es husks) (event.Release n) NoSuch (ap (λ b. if not b then Some NoSuch else None) gone), refl);
        held = λ lawful spelled. held;
      })

  pub released : (index' : ℕ → Option EndLocation) (husks' : List (Name × List HuskEntry)) (entries : List HuskEntry) → lookup (bytes_eq n) husks ≡ Some entries → husks' ≡ remove_entry (bytes_eq n) husks → ((k : ℕ) → index' k ≡ without_numbers (numbers_in entries) k (index k)) → (told : Result Outcome ContextFault) → told ≡ Ok (plain answer.Done) → Stepped (device_of id address qp key pool es husks) (event.Release n) pool es index' (device_of id address qp key pool es husks') told
  unfolding first_cause releases
  released index' husks' entries found removed forgot told tells = record {
    done = the_done;
    held = λ lawful spelled. the_held lawful;
  }
    where
      there : has_husk (device_of id address qp key pool es husks) n ≡ true
      there = sym (husk-there n husks) ∙ ap is_some found

      view : map husk_in husks' ≡ without (λ h. h.name) n (map husk_in husks)
      view = ap (map husk_in) removed ∙ without-view n husks

      the_done : IsDone (device_of id address qp key pool es husks) (event.Release n) (device_of id address qp key pool es husks') told
      the_done = subst (λ t. IsDone (device_of id address qp key pool es husks) (event.Release n) (device_of id address qp key pool es husks') t) (sym tells)
          (step-done (device_of id address qp key pool es husks) (event.Release n) (ap (λ b. if not b then Some NoSuch else None) there)
          ∙ ap (λ hs. record { device = record (device_of id address qp key pool es husks) { husks = hs }; outcome = plain answer.Done }) (sym view))

      the_held : IsLawfulEvent (event.Release n) → IsHeld pool es index' (device_of id address qp key pool es husks')
      the_held lawful = record {
        each = held.each;
        apart = held.apart;
        counted = held.counted;
        names = held.names;
        husk_names = subst (λ hs. AllPairs (λ a b. a ≢ b) (map (λ h. h.name) hs)) (sym view) (pairs-without (λ h. h.name) n (map husk_in husks) held.husk_names);
        either = λ m lives. by_name m (name_tells n m) (held.either m lives);
        left = subst (λ hs. All (λ h. All (IsLeft id qp) h.entries) hs) (sym view) (All-without (λ h. All (IsLeft id qp) h.entries) (λ h. h.name) n (map husk_in husks) held.left);
        indexed = index-released index index' (device_of id address qp key pool es husks) (device_of id address qp key pool es husks') n entries refl view held.husk_names held.either there (husk-found n husks entries found) forgot held.indexed;
        sound = sound-done (device_of id address qp key pool es husks) (device_of id address qp key pool es husks') (event.Release n) told held.sound lawful tt the_done;
      }
        where
          by_name : (m : Name) → ((bytes_eq n m ≡ true) × (n ≡ m)) ⊎ ((bytes_eq n m ≡ false) × (n ≢ m)) → has_husk (device_of id address qp key pool es husks) m ≡ false → has_husk (device_of id address qp key pool es husks') m ≡ false
          by_name m (inl t) h = ap (has_name (λ x. x.name) m) view ∙ (ap (λ z. has_name (λ x. x.name) z (without (λ x. x.name) n (map husk_in husks))) (sym t.1) ∙ without-lacks (λ h. h.name) n (map husk_in husks) held.husk_names)
          by_name m (inr t) h = ap (has_name (λ x. x.name) m) view ∙ (has-without_other (λ h. h.name) n m (map husk_in husks) t.1 ∙ h)
