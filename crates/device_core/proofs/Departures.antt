-- A context leaves the device, and its husk stays.
use Rattle.std.proofs.Common.{arith, ◌≡◌, ◌≢◌, ◌<◌, ◌+◌, ◌^◌, ℕ, List, [], ◌∷◌, ◌++◌, map, length, sum, true, false, Bool, refl, sym, ap, ◌∙◌, inl, inr, subst}
use Rattle.std.specs.Prelude.{All, AllPairs, MatchBool, bytes_eq, ◌⊎◌, ◌||◌, ◌&&◌, not, if◌then◌else◌, nat_le, ◌==◌, Option, Some, None, is_some, option_copied, Result, Ok}
use Rattle.std.specs.Borrow.{Bor}
use Rattle.std.specs.List.{flat_map}
use Rattle.std.specs.Map.{lookup, remove_entry}
use Rattle.std.proofs.lemmas.Bool.{leb-false, true≢false}
use Rattle.std.proofs.lemmas.Bool.Decides.{eqb_tells}
use Rattle.std.proofs.lemmas.List.{length-map, map-append}
use Rattle.std.proofs.lemmas.List.Elements.{All-append, All-cons, All-head, All-nil, All-push, All-tail}
use Rattle.std.proofs.lemmas.List.Sums.{sum-map}
use Rattle.rdma_types.specs.declared.names.Name.{Name}
use Rattle.rdma_types.specs.declared.requests.Address.{Address}
use Rattle.rdma_types.specs.declared.answers.Answer.TheVariants as answer
use Rattle.rdma_types.specs.declared.answers.Refusal.TheVariants.{NoSuch, PeerMoving, Stopped, TooMany}
use Rattle.rdma_types.specs.Causes.{cause, first_cause}
use Rattle.rdma_types.specs.Lists.{has, has_name, named, some, without}
use Rattle.rdma_types.proofs.Tables.{same_name}
use Rattle.rdma_types.specs.Objects.{Region}
use Rattle.rdma_types.specs.Limits.{most_husks, most_moves, pages}
use Rattle.page_pool.specs.Pool.{Pool, free_pages}
use Rattle.protocol.specs.declared.events.Event.TheVariants as event
use Rattle.protocol.specs.declared.images.Outcome.{Outcome}
use Rattle.protocol.specs.declared.images.ContextImage.{ContextImage}
use Rattle.protocol.specs.DeviceStep.{husk_entry, husk_of, stops}
use Rattle.protocol.specs.EndWords.{is_paused_link}
use Rattle.protocol.specs.Images.{image_of}
use Rattle.protocol.specs.Lawful.{IsLawful}
use Rattle.protocol.specs.Memory.{pages_of_context}
use Rattle.protocol.specs.Refusals.{causes_of, has_context, has_husk, has_moved_out, links_of, stop_causes}
use Rattle.protocol.specs.State as state
use Rattle.protocol.specs.State.{Context, Device, End, Husk, Link, context_at, no_context, no_husk}
use Rattle.context_core.specs.Context.{Holding, IsContext, Moves, context_in, no_holding}
use Rattle.context_core.specs.Fits.{FitsImage, HasNarrowDepths}
use Rattle.context_core.specs.declared.ContextFault.{ContextFault}
use Rattle.law_devices.specs.Sound.{AreCounted, IsCounted, IsSoundContext, IsSoundDevice, IsSoundEnd, IsSoundState, names_of_queues, plans}
use Rattle.law_devices.proofs.Stopping.{image-lawful}
use Rattle.law_devices.proofs.Tables.{All-named, has_name-push, name_tells}
use Rattle.device_core.specs.declared.husks.HuskEntry.{HuskEntry}
use Rattle.device_core.specs.declared.index.EndLocation.{EndLocation}
use Rattle.device_core.specs.Done.{IsDone}
use Rattle.device_core.specs.Held.{AreApart, IsHeld, IsLeft}
use Rattle.device_core.specs.Index.{IsIndex, numbers_in, numbers_of, without_numbers}
use Rattle.device_core.specs.Leaving.{gone_in, left_by, placed}
use Rattle.device_core.specs.Parts.{contexts_in, device_of, entry_of, held_in, husk_in}
use Rattle.device_core.proofs.Adding.{names_apart}
use Rattle.device_core.proofs.Contexts.{KeepsLists, OthersKeep, kept-all, lookup-found, lookup-there, others-keep}
use Rattle.device_core.proofs.Dones.{sound-done, step-done, within-there}
use Rattle.device_core.proofs.IndexAdds.{end-there, place_in}
use Rattle.device_core.proofs.Laws as laws
use Rattle.device_core.proofs.Leavings.{husk-entries}
use Rattle.device_core.proofs.Pairs.{pairs-push, pairs-remove}
use Rattle.device_core.proofs.Stepping.{Stepped}
use Rattle.device_core.proofs.Stops.{both-lack, has-cons, index-stopped, left_numbers, same-numbers}
use Rattle.device_core.proofs.Withouts.{has-without_other, pairs-without, sum-without, without-lacks}

-- ---- the other contexts

pub removed-view : (old new : Pool) (n : Name) (es : List (Name × Holding)) → OthersKeep old new n es → contexts_in new (remove_entry (bytes_eq n) es) ≡ without (λ c. c.name) n (contexts_in old es)
unfolding without
removed-view old new n [] keep = refl
removed-view old new n (e ∷ es) keep = elim (name_tells n e.0) [
  | inl t ↦
      let keep' : All (λ x. KeepsLists old new x.1) es = subst (λ b. MatchBool b (All (λ x. KeepsLists old new x.1) es) (KeepsLists old new e.1 × OthersKeep old new n es)) t.0 keep in
      let named' : bytes_eq (held_in old e).name n ≡ true = ap (λ m. bytes_eq m n) (laws.name old e.1 e.0 ∙ sym t.1) ∙ same_name n in
      ap (λ b. contexts_in new (if b then es else e ∷ remove_entry (bytes_eq n) es)) t.0
      ∙ (kept-all old new es keep'
      ∙ sym (ap (λ b. if b then contexts_in old es else held_in old e ∷ without (λ c. c.name) n (contexts_in old es)) named'))
  | inr t ↦ elim (name_tells (held_in old e).name n) [
    | inl u ↦ absurd (t.1 (sym u.1 ∙ laws.name old e.1 e.0))
    | inr u ↦
        let keep' : KeepsLists old new e.1 × OthersKeep old new n es = subst (λ b. MatchBool b (All (λ x. KeepsLists old new x.1) es) (KeepsLists old new e.1 × OthersKeep old new n es)) t.0 keep in
        ap (λ b. contexts_in new (if b then es else e ∷ remove_entry (bytes_eq n) es)) t.0
        ∙ (ap (λ c. c ∷ contexts_in new (remove_entry (bytes_eq n) es)) (laws.same old new e.1 e.0 keep'.0)
        ∙ (ap (λ cs. held_in old e ∷ cs) (removed-view old new n es keep'.1)
        ∙ sym (ap (λ b. if b then contexts_in old es else held_in old e ∷ without (λ c. c.name) n (contexts_in old es)) u.0)))
  ]
]

pub removed-each : (old new : Pool) (n : Name) (es : List (Name × Holding)) → All (λ e. IsContext old e.1) es → OthersKeep old new n es → All (λ e. IsContext new e.1) (remove_entry (bytes_eq n) es)
removed-each old new n [] each keep = All-nil (λ e. IsContext new e.1)
removed-each old new n (e ∷ es) each keep = by_test (bytes_eq n e.0) keep (λ k. removed-each old new n es (All-tail (λ x. IsContext old x.1) e es each) k)
  where
    stay : (xs : List (Name × Holding)) → All (λ x. IsContext old x.1) xs → All (λ x. KeepsLists old new x.1) xs → All (λ x. IsContext new x.1) xs
    stay xs is' keep' k d l = laws.stays old new _ (keep' k d l) (is' k d l)

    by_test : (b : Bool) → MatchBool b (All (λ x. KeepsLists old new x.1) es) (KeepsLists old new e.1 × OthersKeep old new n es) → (OthersKeep old new n es → All (λ x. IsContext new x.1) (remove_entry (bytes_eq n) es)) → All (λ x. IsContext new x.1) (if b then es else e ∷ remove_entry (bytes_eq n) es)
    by_test true k later = stay es (All-tail (λ x. IsContext old x.1) e es each) k
    by_test false k later = All-cons (λ x. IsContext new x.1) e (remove_entry (bytes_eq n) es) (laws.stays old new e.1 k.0 (All-head (λ x. IsContext old x.1) e es each)) (later k.1)

-- ---- what is left

-- where no end has moved out, each entry is in range
entry-left : (domains queues : List Name) (regions : List Region) (id qp : ℕ) (e : End) → IsSoundEnd domains queues regions e → IsCounted id 65536 qp e.number → has_moved_out e.link ≡ false → All (IsLeft id qp) (left_by e)
entry-left domains queues regions id qp e sound counted out = by_link e.link sound.state out
  where
    few : (b : Bool) (m : ℕ) → b ≡ false → (not b && nat_le most_moves m) ≡ false → m < 2 ^ 16
    few b m is h = omega (arith, leb-false 65535 m (sym (ap (λ c. not c && nat_le most_moves m) is) ∙ h))

    by_ended : (l : Link) (b : Bool) → l.ended ≡ b → l.peer < 2 ^ 24 → (not l.ended && nat_le most_moves l.moving.own) ≡ false → All (IsLeft id qp) (if b then [] else record { number = e.number; peer = l.peer; moves = l.moving.own } ∷ [])
    by_ended l true is peer h = All-nil (IsLeft id qp)
    by_ended l false is peer h = All-cons (IsLeft id qp) (record { number = e.number; peer = l.peer; moves = l.moving.own }) [] (record { counted = counted; peer = peer; moves = few l.ended l.moving.own is h }) (All-nil (IsLeft id qp))

    by_link : (o : Option Link) → IsSoundState regions e.domain e.send_depth o → has_moved_out o ≡ false → All (IsLeft id qp) (husk_entry e o)
    by_link None s h = All-nil (IsLeft id qp)
    by_link (Some l) s h = by_ended l l.ended refl s.peer h

some-cons : {A : Type 0} (test : A → Bool) (x : A) (xs : List A) → some test (x ∷ xs) ≡ (test x || some test xs)
unfolding some
some-cons test x xs = refl

pub entries-left : (domains queues : List Name) (regions : List Region) (id qp : ℕ) (es : List End) → All (IsSoundEnd domains queues regions) es → All (λ e. IsCounted id 65536 qp e.number) es → some has_moved_out (map (λ e. e.link) es) ≡ false → All (IsLeft id qp) (flat_map left_by es)
entries-left domains queues regions id qp [] sound counted out = All-nil (IsLeft id qp)
entries-left domains queues regions id qp (e ∷ es) sound counted out =
    let outs = both (has_moved_out e.link) (some has_moved_out (map (λ x. x.link) es)) (sym (some-cons has_moved_out e.link (map (λ x. x.link) es)) ∙ out) in
    All-append (IsLeft id qp) (left_by e) (flat_map left_by es)
    (entry-left domains queues regions id qp e (All-head (IsSoundEnd domains queues regions) e es sound) (All-head (λ x. IsCounted id 65536 qp x.number) e es counted) outs.0)
    (entries-left domains queues regions id qp es (All-tail (IsSoundEnd domains queues regions) e es sound) (All-tail (λ x. IsCounted id 65536 qp x.number) e es counted) outs.1)
  where
    both : (b c : Bool) → (b || c) ≡ false → (b ≡ false) × (c ≡ false)
    both true c h = absurd (true≢false h)
    both false c h = (refl, h)

-- ---- the event

-- where a stop is not refused, the context lives and none of its ends has moved out
pub may-stop : (d : Device) (n : Name) (alone : Bool) → first_cause (causes_of d (event.Stop n alone)) ≡ None → (has_context d n ≡ true) × (some has_moved_out (links_of (context_at d n)) ≡ false)
unfolding first_cause
may-stop d n alone none = by_test (has_context d n) (has_husk d n) (alone && some is_paused_link (links_of (context_at d n))) (nat_le most_husks (length d.husks)) (some has_moved_out (links_of (context_at d n))) none
  where
    by_test : (a b p f o : Bool) → (if (not a && not b) then Some NoSuch else if not a then Some Stopped else if p then Some PeerMoving else if (f || o) then Some TooMany else None) ≡ None → (a ≡ true) × (o ≡ false)
    by_test false false p f o h = absurd (cc)
    by_test false true p f o h = absurd (cc)
    by_test true b true f o h = absurd (cc)
    by_test true b false true o h = absurd (cc)
    by_test true b false false true h = absurd (cc)
    by_test true b false false false h = (refl, refl)

-- the positions and depths of a context fit its image
pub fits-image : (d : Device) (n : Name) → IsSoundDevice d → has_context d n ≡ true → FitsImage (context_at d n)
fits-image d n sound lives =
    let s = All-named IsSoundContext (λ c. c.name) no_context n d.contexts sound.contexts lives in
    record {
      domains = omega (arith, s.parts.domains.few);
      regions = omega (arith, s.parts.region_names.few, length-map (context_at d n).regions (λ r. r.name));
      ends = narrow (context_at d n).ends s.parts.ends;
    }
  where
    narrow : (es : List End) → All (IsSoundEnd (context_at d n).domains (names_of_queues (context_at d n).queues) (plans (context_at d n).regions)) es → All HasNarrowDepths es
    narrow es all k e l = let x = all k e l in record { send = omega (arith, x.few_sends); recv = omega (arith, x.few_receives) }

-- the image that a stop hands out keeps the rules
pub stop-lawful : (d : Device) (n : Name) (alone : Bool) → IsSoundDevice d → first_cause (causes_of d (event.Stop n alone)) ≡ None → IsLawful (image_of (context_at d n))
stop-lawful d n alone sound none = image-lawful (context_at d n) (All-named IsSoundContext (λ c. c.name) no_context n d.contexts sound.contexts (may-stop d n alone none).0)

module _ (id : ℕ) (address : Address) (qp key : ℕ) (pool : Pool) (es : List (Name × Holding)) (husks : List (Name × List HuskEntry)) (index : ℕ → Option EndLocation) (held : IsHeld pool es index (device_of id address qp key pool es husks))
    (n : Name) (alone : Bool) (s : Holding) (found : lookup (bytes_eq n) es ≡ Some s) (none : first_cause (causes_of (device_of id address qp key pool es husks) (event.Stop n alone)) ≡ None)
    (pool' : Pool) (moves : Moves pool pool' s no_holding) (es' : List (Name × Holding)) (removed : es' ≡ remove_entry (bytes_eq n) es)
    (entries : List HuskEntry) (left : map entry_of entries ≡ (husk_of (context_in pool n s)).entries) (husks' : List (Name × List HuskEntry)) (more : husks' ≡ husks ++ (n, entries) ∷ [])
    (index' : ℕ → Option EndLocation) (said : (k : ℕ) → index' k ≡ without_numbers (gone_in (context_in pool n s).ends) k (placed n 0 (numbers_in entries) k (index k)))
    (image : ContextImage) (is_image : image ≡ image_of (context_in pool n s)) (told : Result Outcome ContextFault) (tells : told ≡ Ok (record { answer = answer.Stopped; sent = []; image = Some image })) where
  keep : OthersKeep pool pool' n es
  keep = others-keep pool pool' n s no_holding es moves held.each held.apart found

  context-is : context_at (device_of id address qp key pool es husks) n ≡ context_in pool n s
  context-is = lookup-found pool n es s found

  contexts : contexts_in pool' es' ≡ without (λ c. c.name) n (contexts_in pool es)
  contexts = ap (contexts_in pool') removed ∙ removed-view pool pool' n es keep

  husk-name : (husk_of (context_in pool n s)).name ≡ n
  unfolding husk_of
  husk-name = laws.name pool s n

  pushed-husks : map husk_in husks' ≡ map husk_in husks ++ husk_of (context_in pool n s) ∷ []
  pushed-husks = ap (map husk_in) more ∙ (map-append husk_in husks ((n, entries) ∷ []) ∙ ap (λ h. map husk_in husks ++ h ∷ []) (λ i. record { name = sym husk-name i; entries = left i }))

  the-done : IsDone (device_of id address qp key pool es husks) (event.Stop n alone) (device_of id address qp key pool' es' husks') told
  unfolding stops
  the-done = subst (λ t. IsDone (device_of id address qp key pool es husks) (event.Stop n alone) (device_of id address qp key pool' es' husks') t) (sym tells)
      (step-done (device_of id address qp key pool es husks) (event.Stop n alone) none
      ∙ (ap (stops (device_of id address qp key pool es husks)) context-is
      ∙ (λ i. record {
        device = record {
          id = id;
          address = address;
          qp_count = qp;
          key_count = key;
          contexts = (ap (λ m. without (λ c. c.name) m (contexts_in pool es)) (laws.name pool s n) ∙ sym contexts) i;
          husks = sym pushed-husks i;
        };
        outcome = record { answer = answer.Stopped; sent = []; image = Some (sym is_image i) };
      })))

  lives : has_context (device_of id address qp key pool es husks) n ≡ true
  lives = lookup-there pool n es s found

  sound-context : IsSoundContext (context_in pool n s)
  sound-context = subst IsSoundContext context-is (All-named IsSoundContext (λ c. c.name) no_context n (contexts_in pool es) held.sound.contexts lives)

  counted-context : AreCounted (device_of id address qp key pool es husks) (context_in pool n s)
  counted-context = subst (AreCounted (device_of id address qp key pool es husks)) context-is (All-named (AreCounted (device_of id address qp key pool es husks)) (λ c. c.name) no_context n (contexts_in pool es) held.sound.counted lives)

  lacks : (m : Name) → has_name (λ c. c.name) m (contexts_in pool' es') ≡ true → n ≢ m
  lacks m there is = true≢false (sym there ∙ (ap (has_name (λ c. c.name) m) contexts ∙ (ap (λ z. has_name (λ c. c.name) z (without (λ c. c.name) n (contexts_in pool es))) (sym is) ∙ without-lacks (λ c. c.name) n (contexts_in pool es) held.names)))

  the-either : (m : Name) → has_name (λ c. c.name) m (contexts_in pool' es') ≡ true → has_name (λ h. h.name) m (map husk_in husks') ≡ false
  the-either m there =
      let other = lacks m there in
      let was = held.either m (sym (ap (has_name (λ c. c.name) m) contexts ∙ has-without_other (λ c. c.name) n m (contexts_in pool es) other) ∙ there) in
      ap (has_name (λ h. h.name) m) pushed-husks
      ∙ (has_name-push (λ h. h.name) m (map husk_in husks) (husk_of (context_in pool n s))
      ∙ (ap (λ b. b || bytes_eq (husk_of (context_in pool n s)).name m) was ∙ apart-names m other (name_tells (husk_of (context_in pool n s)).name m)))
    where
      apart-names : (m : Name) → n ≢ m → ((bytes_eq (husk_of (context_in pool n s)).name m ≡ true) × ((husk_of (context_in pool n s)).name ≡ m)) ⊎ ((bytes_eq (husk_of (context_in pool n s)).name m ≡ false) × ((husk_of (context_in pool n s)).name ≢ m)) → bytes_eq (husk_of (context_in pool n s)).name m ≡ false
      apart-names m other (inl t) = absurd (other (sym husk-name ∙ t.1))
      apart-names m other (inr t) = t.0

  the-husk-names : AllPairs (λ a b. a ≢ b) (map (λ h. h.name) (map husk_in husks'))
  the-husk-names =
      let all : map (λ h. h.name) (map husk_in husks') ≡ map (λ h. h.name) (map husk_in husks) ++ n ∷ [] = ap (map (λ h. h.name)) pushed-husks ∙ (map-append (λ h. h.name) (map husk_in husks) (husk_of (context_in pool n s) ∷ []) ∙ ap (λ m. map (λ h. h.name) (map husk_in husks) ++ m ∷ []) husk-name) in
      subst (AllPairs (λ a b. a ≢ b)) (sym all) (pairs-push (λ a b. a ≢ b) (map (λ h. h.name) (map husk_in husks)) n held.husk_names (names_apart (λ h. h.name) n (map husk_in husks) (held.either n lives)))

  the-left : All (λ h. All (IsLeft id qp) h.entries) (map husk_in husks')
  the-left =
      let out = subst (λ c. some has_moved_out (links_of c) ≡ false) context-is (may-stop (device_of id address qp key pool es husks) n alone none).1 in
      subst (λ hs. All (λ h. All (IsLeft id qp) h.entries) hs) (sym pushed-husks) (All-push (λ h. All (IsLeft id qp) h.entries) (map husk_in husks) (husk_of (context_in pool n s)) held.left
      (subst (All (IsLeft id qp)) (sym (husk-entries (context_in pool n s))) (entries-left _ _ _ id qp (context_in pool n s).ends sound-context.parts.ends counted-context.ends out)))

  the-counted : free_pages pool' + sum (map pages_of_context (contexts_in pool' es')) ≡ pages
  the-counted =
      let sums : sum (map pages_of_context (contexts_in pool' es')) ≡ sum (map pages_of_context (without (λ c. c.name) n (contexts_in pool es))) = ap (λ cs. sum (map pages_of_context cs)) contexts in
      let its : pages_of_context (named (λ c. c.name) no_context n (contexts_in pool es)) ≡ pages_of_context (context_in pool n s) = ap pages_of_context (lookup-found pool n es s found) in
      omega (arith, held.counted, sums, its, sum-map pages_of_context (without (λ c. c.name) n (contexts_in pool es)), sum-map pages_of_context (contexts_in pool es), sum-without (λ (c : Context). c.name) pages_of_context no_context n (contexts_in pool es) lives, moves.free n, laws.no-pages pool' n)

  pub stopped : Stepped (device_of id address qp key pool es husks) (event.Stop n alone) pool' es' index' (device_of id address qp key pool' es' husks') told
  stopped = record {
    done = the-done;
    held = λ lawful spelled. record {
      each = subst (All (λ e. IsContext pool' e.1)) (sym removed) (removed-each pool pool' n es held.each keep);
      apart = subst (AllPairs (λ a b. AreApart a.1 b.1)) (sym removed) (pairs-remove (bytes_eq n) (λ a b. AreApart a.1 b.1) es held.apart);
      counted = the-counted;
      names = subst (λ cs. AllPairs (λ a b. a ≢ b) (map (λ c. c.name) cs)) (sym contexts) (pairs-without (λ c. c.name) n (contexts_in pool es) held.names);
      husk_names = the-husk-names;
      either = the-either;
      left = the-left;
      indexed = index-stopped index index' (device_of id address qp key pool es husks) (device_of id address qp key pool' es' husks') n (husk_of (context_in pool n s)) entries contexts pushed-husks husk-name (sym left)
          (left ∙ (husk-entries (context_in pool n s) ∙ ap (λ (c : Context). flat_map left_by c.ends) (sym context-is)))
          held.names lives (held.either n lives) (subst (λ c. AllPairs (λ a b. a ≢ b) (numbers_of c)) (sym context-is) sound-context.parts.numbers)
          (λ k. said k ∙ ap (λ (c : Context). without_numbers (gone_in c.ends) k (placed n 0 (numbers_in entries) k (index k))) (sym context-is)) held.indexed;
      sound = sound-done (device_of id address qp key pool es husks) (device_of id address qp key pool' es' husks') (event.Stop n alone) told held.sound lawful spelled the-done;
    };
  }

-- which cause counts where the context lives
pub stop-cause : (d : Device) (n : Name) (alone : Bool) (c : Context) → has_context d n ≡ true → context_at d n ≡ c → (p f : Bool) → p ≡ (alone && some is_paused_link (links_of c)) → f ≡ (nat_le most_husks (length d.husks) || some has_moved_out (links_of c)) → first_cause (cause PeerMoving p ∷ cause TooMany f ∷ []) ≡ first_cause (causes_of d (event.Stop n alone))
stop-cause d n alone c lives at p f ps fs = (λ i. first_cause (cause PeerMoving (ps i) ∷ cause TooMany (fs i) ∷ [])) ∙ sym (within-there d n (λ k. stop_causes d k alone) lives ∙ ap (λ k. first_cause (stop_causes d k alone)) at)

pub some-ref : {A : Type 0} (r : Option (Bor A)) → is_some (option_copied r) ≡ true → is_some r ≡ true
some-ref None h = h
some-ref (Some b) h = refl

pub some-is : {A : Type 0} (o : Option A) → is_some o ≡ false → o ≡ None
some-is None h = refl
some-is (Some x) h = absurd (true≢false h)

-- what holds of each number holds of each entry
each-number : (P : ℕ → Type 0) (es : List HuskEntry) → ((k : ℕ) → has (λ x. x) k (numbers_in es) ≡ true → P k) → All (λ e. P e.number) es
each-number P [] all = All-nil (λ e. P e.number)
each-number P (e ∷ es) all =
    All-cons (λ x. P x.number) e es
    (all e.number (has-cons e.number e.number (numbers_in es) ∙ ap (λ b. b || has (λ x. x) e.number (numbers_in es)) (same_one e.number)))
    (each-number P es (λ k h. all k (has-cons k e.number (numbers_in es) ∙ (ap (λ b. e.number == k || b) h ∙ or_true (e.number == k)))))
  where
    same_one : (k : ℕ) → (k == k) ≡ true
    same_one k = elim (eqb_tells k k) [ inl t ↦ t.0 | inr t ↦ absurd (t.1 refl) ]

    or_true : (b : Bool) → (b || true) ≡ true
    or_true true = refl
    or_true false = refl

-- each entry that is left was noted as an end's number
pub left-noted : (index : ℕ → Option EndLocation) (d : Device) (n : Name) (es : List HuskEntry) → IsIndex index d → has_context d n ≡ true → map entry_of es ≡ flat_map left_by (context_at d n).ends → All (λ e. is_some (index e.number) ≡ true) es
left-noted index d n es i lives left = each-number (λ k. is_some (index k) ≡ true) es (λ k h. noted_one k h (has (λ x. x) k (numbers_of (context_at d n))) refl)
  where
    same_left : left_numbers (context_at d n).ends ≡ numbers_in es
    same_left = ap (map (λ (e : state.HuskEntry). e.number)) (sym left) ∙ same-numbers es

    noted_one : (k : ℕ) → has (λ x. x) k (numbers_in es) ≡ true → (b : Bool) → has (λ x. x) k (numbers_of (context_at d n)) ≡ b → is_some (index k) ≡ true
    noted_one k h true t = let p = place_in (numbers_of (context_at d n)) k t in ap is_some (i.ends n p.0 k (end-there d n p.0 k lives p.1))
    noted_one k h false t = absurd (true≢false (sym h ∙ (ap (has (λ x. x) k) (sym same_left) ∙ (both-lack (context_at d n).ends k t).1)))
