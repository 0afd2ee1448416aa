-- What is where the index says that a number is: a live end, of which is told, or nothing that lives.
use Rattle.std.proofs.Common.{◌≡◌, ◌∙◌, ℕ, List, [], sym, ap, false}
use Rattle.std.specs.Prelude.{Option, Some, None, bytes_eq, is_some, option_map}
use Rattle.std.specs.Borrow.{Bor}
use Rattle.std.specs.Map.{lookup}
use Rattle.std.specs.Option.{option_copied}
use Rattle.rdma_types.specs.declared.names.Name.{Name}
use Rattle.rdma_types.specs.Lists.{has_name, named}
use Rattle.page_pool.specs.Pool.{Pool}
use Rattle.protocol.specs.DeviceStep.{found_in, found_link}
use Rattle.protocol.specs.Refusals.{has_context}
use Rattle.protocol.specs.State.{Context, Device, context_at, no_context}
use Rattle.context_core.specs.declared.lives.LiveEnd.{LiveEnd}
use Rattle.context_core.specs.Context.{Holding, context_in}
use Rattle.context_core.specs.Links.{live_end, live_end_at}
use Rattle.device_core.specs.declared.index.EndLocation.{EndLocation}
use Rattle.device_core.specs.Held.{IsHeld}
use Rattle.device_core.specs.Index.{IsEndAt, IsEntryAt}
use Rattle.device_core.specs.Parts.{contexts_in}
use Rattle.device_core.proofs.Arrivals.{lives-there, stays-there}
use Rattle.device_core.proofs.Contexts.{found-there, lookup-found, lookup-there}
use Rattle.device_core.proofs.FoundEnds.{found-live, found-none, nowhere}
use Rattle.device_core.proofs.Seen.{not-live, not-noted}
use Rattle.device_core.proofs.Stepping.{found-ref}

-- no live end has the number
pub record IsNowhere (d : Device) (k : ℕ) : Type 0 where
  pub none : found_in k d.contexts ≡ []
  pub lacks : (n : Name) (place : ℕ) → IsEndAt d n place k → ⊥

-- the end at a place of a context has the number
pub record HasEnd (d : Device) (k : ℕ) (n : Name) (place : ℕ) (x : Context) : Type 0 where
  pub context : context_at d n ≡ x
  pub end : IsEndAt d n place k
  pub found : found_in k d.contexts ≡ found_link (context_at d n) end.end end.end.link []

module _ {pool : Pool} {es : List (Name × Holding)} {index : ℕ → Option EndLocation} {d : Device} (held : IsHeld pool es index d) (here : d.contexts ≡ contexts_in pool es) (k : ℕ) where
  pub unnoted : index k ≡ None → IsNowhere d k
  unnoted none = record { none = (nowhere index d held.indexed held.names held.husk_names k none).0; lacks = not-noted index d held.indexed k none }

  module _ {spot : Option (Bor EndLocation)} {b : Bor EndLocation} (is : spot ≡ Some b) (noted : option_copied spot ≡ index k) {state : Option (Bor Holding)} (found : option_copied state ≡ lookup (bytes_eq b.now.context) es) where
    -- .. where the context is not held: its husk has the number
    pub left : state ≡ None → IsNowhere d k
    left absent = record {
      none = found-none index d held.indexed held.names held.husk_names k b.now.context b.now.place entry gone;
      lacks = not-live index d held.indexed k b.now.context b.now.place entry gone;
    }
      where
        gone : has_context d b.now.context ≡ false
        gone = ap (has_name (λ c. c.name) b.now.context) here ∙ (sym (found-there pool b.now.context es) ∙ ap is_some (sym found ∙ ap option_copied absent))

        entry : IsEntryAt d b.now.context b.now.place k
        entry = stays-there d b.now.context b.now.place k gone (held.indexed.exact b.now.context b.now.place k (found-ref spot b (index k) is noted))

    -- .. where it is held
    pub stands : {s : Bor Holding} → state ≡ Some s → HasEnd d k b.now.context b.now.place (context_in pool b.now.context s.now)
    stands {s = s} some = record {
      context = at;
      end = end;
      found = found-live index d held.indexed held.names held.husk_names k b.now.context b.now.place end;
    }
      where
        stored : lookup (bytes_eq b.now.context) es ≡ Some s.now
        stored = found-ref state s (lookup (bytes_eq b.now.context) es) some found

        at : context_at d b.now.context ≡ context_in pool b.now.context s.now
        at = ap (named (λ c. c.name) no_context b.now.context) here ∙ lookup-found pool b.now.context es s.now stored

        end : IsEndAt d b.now.context b.now.place k
        end = lives-there d b.now.context b.now.place k (ap (has_name (λ c. c.name) b.now.context) here ∙ lookup-there pool b.now.context es s.now stored) (held.either b.now.context) (held.indexed.exact b.now.context b.now.place k (found-ref spot b (index k) is noted))

    -- .. and what is told of it
    pub told : {s : Bor Holding} (some : state ≡ Some s) {read : Option LiveEnd} → ((q : Pool) → read ≡ live_end_at (context_in q b.now.context s.now) b.now.place) → read ≡ Some (live_end (context_at d b.now.context) (stands some).end.end)
    told some reads = reads pool ∙ (ap (λ (c : Context). live_end_at c b.now.place) (sym (stands some).context) ∙ ap (option_map (live_end (context_at d b.now.context))) (stands some).end.there)
