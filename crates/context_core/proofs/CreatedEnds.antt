-- A queue pair more.
use Rattle.std.proofs.Common.{◌≡◌, ℕ, suc, ◌+◌, Bool, true, false, List, [], ◌∷◌, ◌++◌, length, refl, ap, sym, ◌∙◌, subst, arith, get_or}
use Rattle.std.specs.Prelude.{◌==◌, ◌||◌, Result, Ok, Err, OnOk, OnErr, Option, Some, None, is_none, is_some, map, All, nat_eq, nat_le, bytes_eq, position, sum_by, if◌then◌else◌}
use Rattle.std.specs.List.{AllByRecursion, IsDistinct}
use Rattle.std.specs.Map.{keys_of, lookup}
use Rattle.std.proofs.lemmas.List.{append-nil}
use Rattle.std.proofs.lemmas.List.Elements.{All-from_recursion, All-nil, recursion_from_All}
use Rattle.std.proofs.lemmas.List.Quantifiers.{position-Some}
use Rattle.std.proofs.lemmas.List.Sums.{sum_by-append, sum_by-cons}
use Rattle.std.proofs.lemmas.Grind.{flat_map-append}
use Rattle.rdma_types.specs.Causes.{cause, first_cause}
use Rattle.rdma_types.specs.declared.answers.Answer.TheVariants as answer
use Rattle.rdma_types.specs.declared.answers.Refusal.TheVariants.{NoSuch, NumberTaken, TooMany}
use Rattle.rdma_types.specs.declared.names.Name.{Name}
use Rattle.rdma_types.specs.Limits.{most_ends, most_numbers}
use Rattle.rdma_types.specs.Lists.{has_name, has_word}
use Rattle.rdma_types.proofs.Tables.{name_is}
use Rattle.page_pool.specs.Pool.{Pool}
use Rattle.end_queues.specs.Completions.{Queue}
use Rattle.responder.specs.Sound.{IsPlace}
use Rattle.protocol.specs.DeviceStep.{answers, counting_qp, makes_end, number_of, with_context, with_new_end, word_of}
use Rattle.protocol.specs.Memory.{pages_of_context}
use Rattle.protocol.specs.Refusals.{qp_causes}
use Rattle.protocol.specs.State.{Device, End}
use Rattle.endpoint_core.specs.Queues.{count_at, nothing, promised}
use Rattle.end_completions.specs.Payloads.{payload_pages}
use Rattle.endpoint_core.specs.Sound.{IsEnd, payload_lists}
use Rattle.context_core.specs.declared.making.NewEnd.{NewEnd}
use Rattle.context_core.specs.declared.new_ends.Parts.{Parts}
use Rattle.context_core.specs.declared.state.EndSlot.{EndSlot}
use Rattle.context_core.specs.Context.{HasQueues, Holding, IsContext, IsPaged, context_in, end_of, lists_of, payloads_of, untold_at}
use Rattle.context_core.specs.NewEnds.{IsMade, lacks_parts, make_causes, new_endpoint, new_slot}
use Rattle.context_core.proofs.AddedObjects.{distinct-more}
use Rattle.context_core.proofs.DisjointLists.{each-append}
use Rattle.context_core.proofs.NamedLookups.{has-lookup}
use Rattle.context_core.proofs.ContextPages.{end_pages, pages-are, region_pages}
use Rattle.context_core.proofs.SplitEntries.{map-append}

-- ---- names

-- a name among those of a map
pub word-lookup : {V : Type 0} (n : Name) (es : List (Name × V)) → is_some (lookup (bytes_eq n) es) ≡ has_word n (keys_of es)
word-lookup n es = has-lookup (λ k. k) (λ e. e.0) (λ e. refl) n es

pub not-there : {V : Type 0} (n : Name) (es : List (Name × V)) → has_word n (keys_of es) ≡ false → lookup (bytes_eq n) es ≡ None
not-there n es h = by (lookup (bytes_eq n) es) refl
  where
    by : (o : Option _) → lookup (bytes_eq n) es ≡ o → lookup (bytes_eq n) es ≡ None
    by None e = e
    by (Some v) e =
        let t : is_some (lookup (bytes_eq n) es) ≡ true = ap is_some e in
        let f : is_some (lookup (bytes_eq n) es) ≡ has_word n (keys_of es) = word-lookup n es in
        absurd (cc)

-- the name at the place of a name
pub name-at : {V : Type 0} (n : Name) (es : List (Name × V)) (i : ℕ) → position (bytes_eq n) (keys_of es) ≡ Some i → get_or (keys_of es) i [] ≡ n
name-at n es i p = sym (name_is n (get_or (keys_of es) i []) (position-Some (bytes_eq n) (keys_of es) i [] p).1)

all-differ : (n : Name) (ks : List Name) → has_word n ks ≡ false → AllByRecursion (λ y. bytes_eq y n ≡ false) ks
unfolding has_name
all-differ n [] h = tt
all-differ n (k ∷ ks) h = by (bytes_eq k n) refl (all-differ n ks)
  where
    by : (b : Bool) → bytes_eq k n ≡ b → (has_word n ks ≡ false → AllByRecursion (λ y. bytes_eq y n ≡ false) ks) → AllByRecursion (λ y. bytes_eq y n ≡ false) (k ∷ ks)
    by true t later = absurd (grind (arith, t, h))
    by false t later = (t, later (grind (arith, t, h)))

-- ---- causes

pub none-of-three : (a b c : Bool) → false ≡ a → false ≡ b → false ≡ c → false ≡ (a || (b || c))
none-of-three a b c p q r = rw (sym p) (rw (sym q) r)

pub or-true : (b : Bool) → (b || true) ≡ true
or-true true = refl
or-true false = refl

length-shown : (pool : Pool) (qs : List (Name × Queue)) (es : List (Name × EndSlot)) → length (map (end_of pool qs) es) ≡ length es
length-shown pool qs [] = refl
length-shown pool qs (e ∷ es) = ap suc (length-shown pool qs es)

pub causes-are : (pool : Pool) (n : Name) (d : Device) (h : Holding) (new : NewEnd) (offered : Option ℕ) → nat_le most_numbers d.qp_count ≡ is_none offered
    → first_cause (make_causes h.domains h.queues h.ends new offered) ≡ first_cause (qp_causes d (context_in pool n h) new.name new.domain new.send_cq new.recv_cq)
unfolding context_in
causes-are pool n d h new offered e =
    let names : has_word new.name (keys_of h.ends) ≡ has_name (λ x. x.name) new.name (map (end_of pool h.queues) h.ends) = sym (word-lookup new.name h.ends) ∙ has-lookup (λ x. x.name) (end_of pool h.queues) (λ x. refl) new.name h.ends in
    ap (λ b. first_cause (cause NoSuch (lacks_parts h.domains h.queues new) ∷ cause NumberTaken b ∷ cause TooMany (nat_le most_ends (length h.ends) || is_none offered) ∷ [])) names
    ∙ (ap (λ k. first_cause (cause NoSuch (lacks_parts h.domains h.queues new) ∷ cause NumberTaken (has_name (λ x. x.name) new.name (map (end_of pool h.queues) h.ends)) ∷ cause TooMany (nat_le most_ends k || is_none offered) ∷ [])) (sym (length-shown pool h.queues h.ends))
    ∙ ap (λ b. first_cause (cause NoSuch (lacks_parts h.domains h.queues new) ∷ cause NumberTaken (has_name (λ x. x.name) new.name (map (end_of pool h.queues) h.ends)) ∷ cause TooMany (nat_le most_ends (length (map (end_of pool h.queues) h.ends)) || b) ∷ [])) (sym e))

-- ---- what is made

pub end-made : (pool : Pool) (n : Name) (d : Device) (h : Holding) (es : List (Name × EndSlot)) (new : NewEnd) (offered : Option ℕ) → offered ≡ Some (number_of d) → IsMade h.queues h.ends es new offered
    → makes_end d (context_in pool n h) new.name new.domain new.send_cq new.recv_cq new.send_depth new.recv_depth ≡ answers (with_context (counting_qp d) (context_in pool n (record h { ends = es }))) (answer.Qp (number_of d))
unfolding makes_end with_new_end context_in
end-made pool n d h es new offered e m =
    let number : number_of d ≡ m.number = let both : Some (number_of d) ≡ Some m.number = sym e ∙ m.given in cc in
    let made : shown (number_of d) (word_of new.domain) (word_of new.send_cq) (word_of new.recv_cq) ≡ end_of pool h.queues (new.name, new_slot new m.parts m.number) =
    ap (λ k. shown k (word_of new.domain) (word_of new.send_cq) (word_of new.recv_cq)) number
    ∙ (ap (λ x. shown m.number x (word_of new.send_cq) (word_of new.recv_cq)) (sym m.found.domain)
    ∙ (ap (λ x. shown m.number m.parts.domain x (word_of new.recv_cq)) (sym m.found.send.named)
    ∙ ap (λ x. shown m.number m.parts.domain (get_or (keys_of h.queues) m.parts.send []) x) (sym m.found.recv.named))) in
    let ends : map (end_of pool h.queues) es ≡ map (end_of pool h.queues) h.ends ++ end_of pool h.queues (new.name, new_slot new m.parts m.number) ∷ [] = ap (map (end_of pool h.queues)) m.entries ∙ map-append (end_of pool h.queues) h.ends ((new.name, new_slot new m.parts m.number) ∷ []) in
    ap {A = End} (λ x. answers (with_context (counting_qp d) (record (context_in pool n h) { ends = map (end_of pool h.queues) h.ends ++ x ∷ [] })) (answer.Qp (number_of d))) made
    ∙ ap {A = List End} (λ xs. answers (with_context (counting_qp d) (record (context_in pool n h) { ends = xs })) (answer.Qp (number_of d))) (sym ends)
  where
    shown : ℕ → Name → Name → Name → End
    shown number domain send recv = record { name = new.name; number = number; domain = domain; send_cq = send; recv_cq = recv; send_depth = new.send_depth; recv_depth = new.recv_depth; unused = []; link = None }

payloads-more : (es : List (Name × EndSlot)) (new : NewEnd) (p : Parts) (number : ℕ) → payloads_of (es ++ (new.name, new_slot new p number) ∷ []) ≡ payloads_of es
payloads-more es new p number = flat_map-append (λ y. payload_lists (untold_at y)) es ((new.name, new_slot new p number) ∷ []) ∙ append-nil (payloads_of es)

none-at : (here place : ℕ) → count_at here 0 place ≡ 0
none-at here place = by (here == place)
  where
    by : (b : Bool) → ◌≡◌ {A = ℕ} (if b then 0 else 0) 0
    by true = refl
    by false = refl

none-promised : (new : NewEnd) (p : Parts) (number place : ℕ) → promised p.send p.recv (new_endpoint new number p.domain) place ≡ 0
none-promised new p number place = ap (λ k. k + count_at p.recv 0 place) (none-at p.send place) ∙ ap (λ k. 0 + k) (none-at p.recv place)

more-zero : (f : Name × EndSlot → ℕ) (es : List (Name × EndSlot)) (x : Name × EndSlot) → f x ≡ 0 → sum_by f (es ++ x ∷ []) ≡ sum_by f es
more-zero f es x z = sum_by-append f es (x ∷ []) ∙ (ap (λ k. sum_by f es + k) (sum_by-cons f x [] ∙ ap (λ k. k + sum_by f []) z) ∙ plain (sum_by f es))
  where
    plain : (k : ℕ) → k + (0 + 0) ≡ k
    plain k = omega arith

pub end-is-made : (pool : Pool) (h : Holding) (es : List (Name × EndSlot)) (new : NewEnd) (offered : Option ℕ) → IsMade h.queues h.ends es new offered → IsContext pool h → IsContext pool (record h { ends = es })
end-is-made pool h es new offered m is =
    let x : Name × EndSlot = (new.name, new_slot new m.parts m.number) in
    let sound : IsEnd pool h.regions x.1.endpoint = record { queue = refl; depth = refl; state = All-nil (IsPlace h.regions m.parts.domain) } in
    subst (λ ys. IsContext pool (record h { ends = ys })) (sym m.entries) (record {
      is = record {
        held = is.is.held;
        keyed = is.is.keyed;
        ends = All-from_recursion (λ e. IsEnd pool h.regions e.1.endpoint) (h.ends ++ x ∷ []) (each-append (λ e. IsEnd pool h.regions e.1.endpoint) h.ends (x ∷ []) (recursion_from_All (λ e. IsEnd pool h.regions e.1.endpoint) h.ends is.is.ends) (sound, tt));
        placed = All-from_recursion (HasQueues h.queues) (h.ends ++ x ∷ []) (each-append (HasQueues h.queues) h.ends (x ∷ []) (recursion_from_All (HasQueues h.queues) h.ends is.is.placed) ((m.found.send.there, m.found.recv.there), tt));
        apart = subst (IsDistinct nat_eq) (sym (payloads-more h.ends new m.parts m.number)) is.is.apart;
        paged = All-from_recursion (λ e. All (IsPaged pool h.regions) (untold_at e)) (h.ends ++ x ∷ []) (each-append (λ e. All (IsPaged pool h.regions) (untold_at e)) h.ends (x ∷ []) (recursion_from_All (λ e. All (IsPaged pool h.regions) (untold_at e)) h.ends is.is.paged) (All-nil (IsPaged pool h.regions), tt));
        reserved = λ place. is.is.reserved place ∙ ap (λ k. k + 0) (sym (more-zero (λ e. promised e.1.send e.1.recv e.1.endpoint place) h.ends x (none-promised new m.parts m.number place)));
        queue_names = is.is.queue_names;
        end_names = subst (IsDistinct bytes_eq) (sym (map-append (λ y. y.0) h.ends (x ∷ []))) (distinct-more (keys_of h.ends) new.name is.is.end_names (all-differ new.name (keys_of h.ends) m.absent));
        few_queues = is.is.few_queues;
      };
    })

-- ends that have one more, or are as they were
pub end-is : (pool : Pool) (h : Holding) (es : List (Name × EndSlot)) (new : NewEnd) (offered : Option ℕ) {T E : Type 0} (r : Result T E) → OnOk r (IsMade h.queues h.ends es new offered) → OnErr r (es ≡ h.ends) → IsContext pool h → IsContext pool (record h { ends = es })
end-is pool h es new offered (Ok x) made same is = end-is-made pool h es new offered made is
end-is pool h es new offered (Err e) made same is = subst (λ ys. IsContext pool (record h { ends = ys })) (sym same) is

pub end-lists : (h : Holding) (es : List (Name × EndSlot)) (new : NewEnd) (offered : Option ℕ) {T E : Type 0} (r : Result T E) → OnOk r (IsMade h.queues h.ends es new offered) → OnErr r (es ≡ h.ends) → lists_of (record h { ends = es }) ≡ lists_of h
unfolding lists_of
end-lists h es new offered (Ok x) made same = ap (λ ls. map (λ r. r.list) h.regions ++ ls) (ap payloads_of made.entries ∙ payloads-more h.ends new made.parts made.number)
end-lists h es new offered (Err e) made same = ap (λ ys. map (λ r. r.list) h.regions ++ payloads_of ys) same

end-pages-more : (pool : Pool) (h : Holding) (es : List (Name × EndSlot)) (new : NewEnd) (offered : Option ℕ) {T E : Type 0} (r : Result T E) → OnOk r (IsMade h.queues h.ends es new offered) → OnErr r (es ≡ h.ends) → end_pages pool es ≡ end_pages pool h.ends
unfolding payload_pages
end-pages-more pool h es new offered (Ok x) made same = ap (end_pages pool) made.entries ∙ more-zero (λ e. payload_pages pool (untold_at e)) h.ends (new.name, new_slot new made.parts made.number) refl
end-pages-more pool h es new offered (Err e) made same = ap (end_pages pool) same

pub end-made-pages : (pool : Pool) (n : Name) (h : Holding) (es : List (Name × EndSlot)) (new : NewEnd) (offered : Option ℕ) {T E : Type 0} (r : Result T E) → OnOk r (IsMade h.queues h.ends es new offered) → OnErr r (es ≡ h.ends) → IsContext pool h → pages_of_context (context_in pool n (record h { ends = es })) ≡ pages_of_context (context_in pool n h)
end-made-pages pool n h es new offered r made same is =
    pages-are pool (record h { ends = es }) nothing n (end-is pool h es new offered r made same is).is
    ∙ (ap (λ k. region_pages h.regions + k) (end-pages-more pool h es new offered r made same) ∙ sym (pages-are pool h nothing n is.is))
