-- A context comes with an image.
use Rattle.std.proofs.Common.{arith, ◌≡◌, ◌≢◌, ◌≤◌, ◌+◌, ℕ, List, [], ◌∷◌, ◌++◌, length, true, false, Bool, refl, sym, ap, ◌∙◌, inl, inr, subst}
use Rattle.std.specs.Prelude.{◌⊎◌, ◌||◌, ◌==◌, if◌then◌else◌, nat_le, nat_lt, Option, Some, None, Result, Ok, Err}
use Rattle.std.specs.List.{list_any}
use Rattle.std.proofs.lemmas.Bool.{true≢false}
use Rattle.std.proofs.lemmas.Bool.Decides.{eqb_tells}
use Rattle.rdma_types.specs.declared.names.Name.{Name}
use Rattle.rdma_types.specs.declared.requests.Address.{Address}
use Rattle.rdma_types.specs.declared.answers.Answer.TheVariants as answer
use Rattle.rdma_types.specs.declared.answers.Refusal.{Refusal}
use Rattle.rdma_types.specs.declared.answers.Refusal.TheVariants.{NumberTaken, TooMany, NoPage}
use Rattle.rdma_types.specs.Causes.{cause, first_cause}
use Rattle.rdma_types.specs.Limits.{most_contexts}
use Rattle.rdma_types.specs.Lists.{has, some}
use Rattle.page_pool.specs.Pool.{Pool, free_pages}
use Rattle.protocol.specs.declared.events.Event.TheVariants as event
use Rattle.protocol.specs.declared.images.ContextImage.{ContextImage}
use Rattle.protocol.specs.declared.images.EndImage.{EndImage}
use Rattle.protocol.specs.declared.images.Outcome.{Outcome}
use Rattle.protocol.specs.DeviceStep.{highest, restores}
use Rattle.protocol.specs.Images.{context_of, moved}
use Rattle.protocol.specs.Lawful.{IsLawful}
use Rattle.protocol.specs.Memory as rule
use Rattle.protocol.specs.Memory.{pages_of_context}
use Rattle.protocol.specs.Refusals.{causes_of, has_context, has_husk, has_moved_out, links_of, number_is_taken}
use Rattle.protocol.specs.State.{Device, context_at}
use Rattle.context_core.specs.Context.{Holding, IsContext, Moves, context_in, no_holding}
use Rattle.context_core.specs.Faults.{told_as}
use Rattle.context_core.specs.declared.ContextFault.{ContextFault}
use Rattle.context_core.specs.declared.ContextFault.TheVariants.{Refused, OutOfMemory}
use Rattle.law_devices.proofs.Restoring.{moved-end-numbers, pairs-mapped}
use Rattle.device_core.specs.declared.husks.HuskEntry.{HuskEntry}
use Rattle.device_core.specs.declared.index.EndLocation.{EndLocation}
use Rattle.device_core.specs.Coming.{brings_taken, has_moved_image, numbers_of_ends, pairs_of}
use Rattle.device_core.specs.Done.{IsDone, plain}
use Rattle.device_core.specs.Held.{IsHeld}
use Rattle.device_core.specs.Index.{numbers_of}
use Rattle.device_core.specs.Leaving.{placed}
use Rattle.device_core.specs.Parts.{contexts_in, device_of}
use Rattle.device_core.proofs.Adding.{all-keep, held-pushed, keeps-others, pushed-view, view-pushed}
use Rattle.device_core.proofs.Brought.{highest-above, moved-brought, noted-taken, numbers-brought, pairs-brought, taken-brought}
use Rattle.device_core.proofs.Contexts.{kept-all}
use Rattle.device_core.proofs.Departures.{some-is}
use Rattle.device_core.proofs.Dones.{sound-done, step-done, step-refused}
use Rattle.device_core.proofs.Helds.{free-is}
use Rattle.device_core.proofs.IndexAdds.{Notes, index-adds}
use Rattle.device_core.proofs.Laws as laws
use Rattle.device_core.proofs.NewDevices.{pushed-adds}
use Rattle.device_core.proofs.Stepping.{Stepped}
use Rattle.device_core.proofs.Stops.{placed-absent, placed-at}

-- ---- the causes

-- the cause that counts
pub restore-cause : (d : Device) (i : ContextImage) (taken full few : Bool) → taken ≡ brings_taken d i → full ≡ (nat_le most_contexts (length d.contexts) || list_any (λ e. has_moved_image e.linked) i.ends) → few ≡ nat_lt (rule.free_pages d) (pages_of_context (context_of i))
    → first_cause (cause NumberTaken taken ∷ cause TooMany full ∷ cause NoPage few ∷ []) ≡ first_cause (causes_of d (event.Restore i))
unfolding first_cause
restore-cause d i taken full few takes fills lacks = λ k.
    if (takes ∙ taken-brought d i) k then Some NumberTaken else if (fills ∙ ap (λ b. nat_le most_contexts (length d.contexts) || b) (moved-brought i)) k then Some TooMany else if lacks k then Some NoPage else None

or_false : (a b : Bool) → (a || b) ≡ false → (a ≡ false) × (b ≡ false)
or_false true b h = absurd (true≢false h)
or_false false b h = (refl, h)

-- where none counts, nothing is taken, too few pages alone would count, and no end has moved out
pub record MayRestore (d : Device) (i : ContextImage) : Type 0 where
  pub nothing : brings_taken d i ≡ false
  pub pages : first_cause (causes_of d (event.Restore i)) ≡ (if nat_lt (rule.free_pages d) (pages_of_context (context_of i)) then Some NoPage else None)
  pub stays : some has_moved_out (links_of (context_of i)) ≡ false

pub may-restore : (d : Device) (i : ContextImage) → first_cause (causes_of d (event.Restore i)) ≡ None → MayRestore d i
unfolding first_cause
may-restore d i none = by_test _ _ _ (taken-brought d i) refl refl none
  where
    by_test : (a b c : Bool) → brings_taken d i ≡ a → (nat_le most_contexts (length d.contexts) || some has_moved_out (links_of (context_of i))) ≡ b → nat_lt (rule.free_pages d) (pages_of_context (context_of i)) ≡ c
        → (if a then Some NumberTaken else if b then Some TooMany else if c then Some NoPage else None) ≡ None → MayRestore d i
    by_test true b c ta fb lc h = absurd (cc)
    by_test false true c ta fb lc h = absurd (cc)
    by_test false false true ta fb lc h = absurd (cc)
    by_test false false false ta fb lc h = record {
      nothing = ta;
      pages = none ∙ ap (λ x. if x then Some NoPage else None) (sym lc);
      stays = (or_false _ _ fb).1;
    }

-- no context has its name
pub absent-name : (d : Device) (i : ContextImage) → brings_taken d i ≡ false → has_context d i.name ≡ false
absent-name d i nothing = (or_false _ _ (or_false _ _ nothing).0).0

-- none of these numbers is taken
none-taken : (d : Device) (es : List EndImage) → list_any (λ e. number_is_taken d e.number) es ≡ false → (k : ℕ) → has (λ x. x) k (numbers_of_ends es) ≡ true → number_is_taken d k ≡ false
unfolding has
none-taken d [] none k h = absurd (true≢false (sym h))
none-taken d (e ∷ es) none k h = by_test (eqb_tells e.number k) (or_false (number_is_taken d e.number) _ none) (none-taken d es)
  where
    by_test : (((e.number == k) ≡ true) × (e.number ≡ k)) ⊎ (((e.number == k) ≡ false) × (e.number ≢ k)) → (number_is_taken d e.number ≡ false) × (list_any (λ x. number_is_taken d x.number) es ≡ false)
        → (list_any (λ x. number_is_taken d x.number) es ≡ false → (j : ℕ) → has (λ x. x) j (numbers_of_ends es) ≡ true → number_is_taken d j ≡ false) → number_is_taken d k ≡ false
    by_test (inl t) n later = ap (number_is_taken d) (sym t.1) ∙ n.0
    by_test (inr t) n later = later n.1 k (sym (ap (λ b. b || has (λ x. x) k (numbers_of_ends es)) t.0) ∙ h)

zero-plus : (p : ℕ) → 0 + p ≡ p
zero-plus p = omega arith

-- ---- the event

module _ (id : ℕ) (address : Address) (qp key : ℕ) (pool : Pool) (es : List (Name × Holding)) (husks : List (Name × List HuskEntry)) (index : ℕ → Option EndLocation) (held : IsHeld pool es index (device_of id address qp key pool es husks)) (image : ContextImage) where
  abbrev before_restore : Device
  before_restore = device_of id address qp key pool es husks

  -- room for more changes nothing
  pub held-reserved : (es' : List (Name × Holding)) (index' : ℕ → Option EndLocation) → es' ≡ es → index' ≡ index → IsHeld pool es' index' (device_of id address qp key pool es' husks)
  held-reserved es' index' same noted =
      subst (λ xs. IsHeld pool xs index' (device_of id address qp key pool xs husks)) (sym same) (subst (λ ix. IsHeld pool es ix (device_of id address qp key pool es husks)) (sym noted) held)

  module _ (causes : first_cause (causes_of (device_of id address qp key pool es husks) (event.Restore image)) ≡ (if nat_lt (rule.free_pages (device_of id address qp key pool es husks)) (pages_of_context (context_of image)) then Some NoPage else None)) (pool' : Pool) where
    -- the context was not made
    pub not-restored : (fault : ContextFault) → told_as fault ≡ (if nat_lt (free_pages pool) (pages_of_context (context_of image)) then Some NoPage else None) → Moves pool pool' no_holding no_holding
        → (es' : List (Name × Holding)) (index' : ℕ → Option EndLocation) → es' ≡ es → index' ≡ index → Stepped (device_of id address qp key pool es husks) (event.Restore image) pool' es' index' (device_of id address qp key pool' es' husks) (Err fault)
    not-restored fault told moves es' index' same noted = record {
      done = the_done fault told;
      held = λ lawful spelled. subst (λ xs. IsHeld pool' xs index' (device_of id address qp key pool' xs husks)) (sym same) (subst (λ ix. IsHeld pool' es ix (device_of id address qp key pool' es husks)) (sym noted) the_held);
    }
      where
        contexts : contexts_in pool' es ≡ contexts_in pool es
        contexts = kept-all pool pool' es (all-keep pool pool' no_holding es moves held.each)

        view : device_of id address qp key pool' es husks ≡ device_of id address qp key pool es husks
        view = λ i. record (device_of id address qp key pool es husks) { contexts = contexts i }

        back : device_of id address qp key pool' es' husks ≡ device_of id address qp key pool es husks
        back = ap (λ xs. device_of id address qp key pool' xs husks) same ∙ view

        cause_is : {o : Option Refusal} → o ≡ (if nat_lt (free_pages pool) (pages_of_context (context_of image)) then Some NoPage else None) → first_cause (causes_of (device_of id address qp key pool es husks) (event.Restore image)) ≡ o
        cause_is e = causes ∙ (ap (λ n. if nat_lt n (pages_of_context (context_of image)) then Some NoPage else None) (free-is id address qp key pool es husks index held) ∙ sym e)

        the_done : (f : ContextFault) → told_as f ≡ (if nat_lt (free_pages pool) (pages_of_context (context_of image)) then Some NoPage else None) → IsDone (device_of id address qp key pool es husks) (event.Restore image) (device_of id address qp key pool' es' husks) (Err f)
        the_done (Refused r) e = (step-refused (device_of id address qp key pool es husks) (event.Restore image) r (cause_is e), back)
        the_done OutOfMemory e = (back, cause_is e)

        the_held : IsHeld pool' es index (device_of id address qp key pool' es husks)
        the_held = subst (IsHeld pool' es index) (sym view) (record {
          each = λ k d l. laws.stays pool pool' _ (keeps-others pool pool' no_holding _ moves (held.each k d l)) (held.each k d l);
          apart = held.apart;
          counted = omega (arith, held.counted, moves.free [], laws.no-pages pool [], laws.no-pages pool' []);
          names = held.names;
          husk_names = held.husk_names;
          either = held.either;
          left = held.left;
          indexed = held.indexed;
          sound = held.sound;
        })

    module _ (lawful : IsLawful image) (nothing : brings_taken (device_of id address qp key pool es husks) image ≡ false) (s : Holding) (enough : None ≡ (if nat_lt (free_pages pool) (pages_of_context (context_of image)) then Some NoPage else None))
        (made : context_in pool' image.name s ≡ moved (context_of image)) (is : IsContext pool' s) (moves : Moves pool pool' no_holding s)
        (es' : List (Name × Holding)) (pushed : es' ≡ es ++ (image.name, s) ∷ []) (index' : ℕ → Option EndLocation) (said : (k : ℕ) → index' k ≡ placed image.name 0 (numbers_of_ends image.ends) k (index k))
        (qp' key' : ℕ) (qp_is : qp' ≡ highest id 65536 (numbers_of_ends image.ends) qp) (key_is : key' ≡ highest id 8388608 (pairs_of image.regions) key) (told : Result Outcome ContextFault) (tells : told ≡ Ok (plain answer.Done)) where
      names : (has_context before_restore image.name ≡ false) × (has_husk before_restore image.name ≡ false)
      names = or_false _ _ (or_false _ _ nothing).0

      none : first_cause (causes_of before_restore (event.Restore image)) ≡ None
      none = causes ∙ (ap (λ n. if nat_lt n (pages_of_context (context_of image)) then Some NoPage else None) (free-is id address qp key pool es husks index held) ∙ sym enough)

      the-view : device_of id address qp' key' pool' es' husks ≡ record before_restore { qp_count = qp'; key_count = key'; contexts = contexts_in pool es ++ context_in pool' image.name s ∷ [] }
      the-view = ap (λ xs. device_of id address qp' key' pool' xs husks) pushed ∙ view-pushed id address qp key pool es husks index held image.name names.0 names.1 pool' s moves is qp' key'

      the-done : IsDone before_restore (event.Restore image) (device_of id address qp' key' pool' es' husks) told
      unfolding restores
      the-done = subst (λ t. IsDone before_restore (event.Restore image) (device_of id address qp' key' pool' es' husks) t) (sym tells)
          (step-done before_restore (event.Restore image) none
          ∙ ((λ i. record {
            device = record before_restore {
              qp_count = (ap (λ xs. highest id 65536 xs qp) (numbers-brought image) ∙ sym qp_is) i;
              key_count = (ap (λ xs. highest id 8388608 xs key) (pairs-brought image) ∙ sym key_is) i;
              contexts = contexts_in pool es ++ sym made i ∷ [];
            };
            outcome = plain answer.Done;
          })
          ∙ ap (λ d. record { device = d; outcome = plain answer.Done }) (sym the-view)))

      numbers : numbers_of (context_in pool' image.name s) ≡ numbers_of_ends image.ends
      unfolding moved
      numbers = ap numbers_of made ∙ (moved-end-numbers (context_of image).ends ∙ numbers-brought image)

      more : qp ≤ qp'
      more = subst (λ n. qp ≤ n) (sym qp_is) (highest-above id 65536 (numbers_of_ends image.ends) qp)

      no_ends : numbers_of (context_at before_restore image.name) ≡ []
      no_ends = (pushed-adds before_restore (record before_restore { contexts = contexts_in pool es ++ context_in pool' image.name s ∷ [] }) image.name (context_in pool' image.name s) refl refl (laws.name pool' s image.name) names.0).none names.0

      notes : Notes index index' image.name (length (numbers_of (context_at before_restore image.name))) (numbers_of (context_in pool' image.name s))
      notes = subst (λ ns. Notes index index' image.name (length ns) (numbers_of (context_in pool' image.name s))) (sym no_ends) (subst (Notes index index' image.name 0) (sym numbers) (record {
        here = λ i k at. said k ∙ placed-at image.name 0 (numbers_of_ends image.ends) i k (index k) (pairs-mapped (λ a b. a ≢ b) (λ (e : EndImage). e.number) image.ends lawful.numbers) at;
        others = λ k gone. said k ∙ placed-absent image.name 0 (numbers_of_ends image.ends) k (index k) gone;
        fresh = λ k there. some-is (index k) (noted-taken index before_restore held.indexed held.names held.husk_names k ∙ none-taken before_restore image.ends (or_false _ _ (or_false _ _ nothing).1).0 k there);
      }))

      the-held : IsHeld pool' (es ++ (image.name, s) ∷ []) index' (device_of id address qp' key' pool' (es ++ (image.name, s) ∷ []) husks)
      the-held =
          let adds = pushed-adds before_restore (device_of id address qp' key' pool' (es ++ (image.name, s) ∷ []) husks) image.name (context_in pool' image.name s) refl (pushed-view pool pool' image.name s es moves held.each) (laws.name pool' s image.name) names.0 in
          held-pushed id address qp key pool es husks index held image.name names.0 names.1 pool' s moves is qp' key' index' more
          (index-adds index index' before_restore (device_of id address qp' key' pool' (es ++ (image.name, s) ∷ []) husks) image.name (numbers_of (context_in pool' image.name s)) adds notes held.indexed)
          (sound-done before_restore (device_of id address qp' key' pool' (es ++ (image.name, s) ∷ []) husks) (event.Restore image) told held.sound lawful tt
          (subst (λ xs. IsDone before_restore (event.Restore image) (device_of id address qp' key' pool' xs husks) told) pushed the-done))

      pub restored : Stepped (device_of id address qp key pool es husks) (event.Restore image) pool' es' index' (device_of id address qp' key' pool' es' husks) told
      restored = record {
        done = the-done;
        held = λ l spelled. subst (λ xs. IsHeld pool' xs index' (device_of id address qp' key' pool' xs husks)) (sym pushed) the-held;
      }
