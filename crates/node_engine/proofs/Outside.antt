-- Calls of the outside, and what its objects tell of them.
use Rattle.std.proofs.Common.{◌≡◌, ◌∙◌, ◌≤◌, ◌<◌, ℕ, List, Option, None, Some, length, take, drop, length-drop, refl, sym, ap, arith}
use Rattle.std.proofs.lemmas.List.{take-append-drop}
use Rattle.node_rules.specs.Parts.{IsMadeWhole}
use Rattle.node_rules.specs.Plan as plan
use Rattle.node_rules.specs.Plan.{Plan}
use Rattle.node_rules.specs.Stops.{DepotFailed, IsOfDepot, IsOfLink, KeepsHeld, LinkFailed, MemoryRanOut, OutputFailed, StopsAt}
use Rattle.node_rules.specs.Told.{Contents}
use Rattle.node_rules.proofs.Joining.{comes_by, stops_here}
use Rattle.host_ports.specs.Depots.{Has, Holding, Sets}
use Rattle.host_ports.specs.Links.{Addressed, SendsOne, TakesFirst, TellsMoment}
use Rattle.host_ports.specs.Streams.{FaultsCounted, Puts as PutsText}
use Rattle.rdma_types.specs.declared.names.Name.{Name}
use Rattle.rdma_types.specs.declared.requests.Address.{Address}

-- what the objects tell
abbrev pub telling : Option (List Addressed) → Option (List Addressed) → Option (List ℕ) → Option Holding → Option (List ℕ) → ℕ → ℕ → ℕ → Contents
telling w s c h k f d o = record { waiting = w; sent = s; to_come = c; held = h; written = k; faults = record { link = f; depot = d; output = o } }

-- ---- the link

module _ (w w' s s' : Option (List Addressed)) (c : Option (List ℕ)) (h : Option Holding) (k : Option (List ℕ)) (f f' d o : ℕ) where
  -- nothing changed but what waits
  only_waiting : s' ≡ s → f' ≡ f → telling w' s' c h k f' d o ≡ telling w' s c h k f d o
  only_waiting es ef = ap (λ x. telling w' x c h k f' d o) es ∙ ap (λ x. telling w' s c h k x d o) ef

  -- .. but what was sent
  only_sent : w' ≡ w → f' ≡ f → telling w' s' c h k f' d o ≡ telling w s' c h k f d o
  only_sent ew ef = ap (λ x. telling x s' c h k f' d o) ew ∙ ap (λ x. telling w s' c h k x d o) ef

  -- .. at all
  none_changed : w' ≡ w → s' ≡ s → f' ≡ f → telling w' s' c h k f' d o ≡ telling w s c h k f d o
  none_changed ew es ef = ap (λ x. telling x s' c h k f' d o) ew ∙ ap (λ x. telling w x c h k f' d o) es ∙ ap (λ x. telling w s c h k x d o) ef

  pub link_started : (own : Address) → w' ≡ w → s' ≡ s → f' ≡ f → IsMadeWhole {A = Unit {0}} (λ more. plan.Starts own (more tt)) tt (telling w s c h k f d o) (telling w' s' c h k f' d o)
  link_started own ew es ef =
      comes_by {A = Unit {0}} (λ more. plan.Starts own (more tt)) (λ more. more tt) (plan.Started own) (telling w s c h k f d o) (telling w' s' c h k f' d o)
      (λ more. (more tt, (refl, refl), refl))
      (telling w' s' c h k f' d o, none_changed ew es ef, refl)

  pub link_took : (got : Option Addressed) → TakesFirst w w' got → s' ≡ s → f' ≡ f → IsMadeWhole plan.Takes got (telling w s c h k f d o) (telling w' s' c h k f' d o)
  link_took got taken es ef =
      comes_by plan.Takes (λ more. more got) (plan.Took got) (telling w s c h k f d o) (telling w' s' c h k f' d o)
      (λ more. (more got, refl, refl))
      (telling w' s' c h k f' d o, (taken, only_waiting es ef), refl)

  pub link_sent : (datagram : Addressed) → SendsOne s s' datagram → w' ≡ w → f' ≡ f → IsMadeWhole {A = Unit {0}} (λ more. plan.Sends datagram (more tt)) tt (telling w s c h k f d o) (telling w' s' c h k f' d o)
  link_sent datagram sends ew ef =
      comes_by {A = Unit {0}} (λ more. plan.Sends datagram (more tt)) (λ more. more tt) (plan.Sent datagram) (telling w s c h k f d o) (telling w' s' c h k f' d o)
      (λ more. (more tt, (refl, refl), refl))
      (telling w' s' c h k f' d o, (sends, only_sent ew ef), refl)

  pub link_refused : {A : Type 0} (part : (A → Plan) → Plan) → ((more : A → Plan) → IsOfLink (part more)) → w' ≡ w → s' ≡ s → f ≤ f' → FaultsCounted f f' → (more : A → Plan) → StopsAt LinkFailed (part more) (telling w s c h k f d o) (telling w' s' c h k f' d o)
  link_refused part of_link ew es le counted = λ more.
      stops_here LinkFailed (part more) (telling w s c h k f d o) (telling w' s' c h k f' d o)
      (of_link more, (le, counted), ap (λ x. telling x s' c h k f' d o) ew ∙ ap (λ x. telling w x c h k f' d o) es)

-- ---- the depot

module _ (w s : Option (List Addressed)) (c : Option (List ℕ)) (h h' : Option Holding) (k : Option (List ℕ)) (f d d' o : ℕ) where
  only_held : d' ≡ d → telling w s c h' k f d' o ≡ telling w s c h' k f d o
  only_held e = ap (λ x. telling w s c h' k f x o) e

  none_held : h' ≡ h → d' ≡ d → telling w s c h' k f d' o ≡ telling w s c h k f d o
  none_held eh ed = ap (λ x. telling w s c x k f d' o) eh ∙ ap (λ x. telling w s c h k f x o) ed

  pub depot_put : (name : Name) (bytes : List ℕ) → Sets h h' name (Some bytes) → d' ≡ d → IsMadeWhole {A = Unit {0}} (λ more. plan.Puts name bytes (more tt)) tt (telling w s c h k f d o) (telling w s c h' k f d' o)
  depot_put name bytes sets ed =
      comes_by {A = Unit {0}} (λ more. plan.Puts name bytes (more tt)) (λ more. more tt) (plan.Put name bytes) (telling w s c h k f d o) (telling w s c h' k f d' o)
      (λ more. (more tt, (refl, refl, refl), refl))
      (telling w s c h' k f d' o, (sets, only_held ed), refl)

  pub depot_looked : (name : Name) (found : Option (List ℕ)) → Has h name found → h' ≡ h → d' ≡ d → IsMadeWhole (plan.Looks name) found (telling w s c h k f d o) (telling w s c h' k f d' o)
  depot_looked name found has eh ed =
      comes_by (plan.Looks name) (λ more. more found) (plan.Looked name found) (telling w s c h k f d o) (telling w s c h' k f d' o)
      (λ more. (more found, (refl, refl), refl))
      (telling w s c h' k f d' o, (has, none_held eh ed), refl)

  pub depot_removed : (name : Name) (bytes : List ℕ) → Has h name (Some bytes) → Sets h h' name None → d' ≡ d → IsMadeWhole (plan.Removes name) (Some bytes) (telling w s c h k f d o) (telling w s c h' k f d' o)
  depot_removed name bytes has sets ed =
      comes_by (plan.Removes name) (λ more. more (Some bytes)) (plan.Removed name (Some bytes)) (telling w s c h k f d o) (telling w s c h' k f d' o)
      (λ more. (more (Some bytes), (refl, refl), refl))
      (telling w s c h' k f d' o, (has, (sets, only_held ed)), refl)

  pub depot_lacked : (name : Name) → Has h name None → h' ≡ h → d' ≡ d → IsMadeWhole (plan.Removes name) None (telling w s c h k f d o) (telling w s c h' k f d' o)
  depot_lacked name has eh ed =
      comes_by (plan.Removes name) (λ more. more None) (plan.Removed name None) (telling w s c h k f d o) (telling w s c h' k f d' o)
      (λ more. (more None, (refl, refl), refl))
      (telling w s c h' k f d' o, (has, none_held eh ed), refl)

  pub depot_refused : {A : Type 0} (part : (A → Plan) → Plan) → ((more : A → Plan) → IsOfDepot (part more)) → ((more : A → Plan) → KeepsHeld (part more) (telling w s c h k f d o) (telling w s c h' k f d' o)) → d ≤ d' → FaultsCounted d d' → (more : A → Plan) → StopsAt DepotFailed (part more) (telling w s c h k f d o) (telling w s c h' k f d' o)
  depot_refused part of_depot keeps le counted = λ more.
      stops_here DepotFailed (part more) (telling w s c h k f d o) (telling w s c h' k f d' o)
      (of_depot more, keeps more, (le, counted), refl)

  pub depot_ran_out : {A : Type 0} (part : (A → Plan) → Plan) → ((more : A → Plan) → KeepsHeld (part more) (telling w s c h k f d o) (telling w s c h' k f d' o)) → d' ≡ d → (more : A → Plan) → StopsAt MemoryRanOut (part more) (telling w s c h k f d o) (telling w s c h' k f d' o)
  depot_ran_out part keeps ed = λ more.
      stops_here MemoryRanOut (part more) (telling w s c h k f d o) (telling w s c h' k f d' o)
      (keeps more, only_held ed)

-- ---- the output

module _ (w s : Option (List Addressed)) (c : Option (List ℕ)) (h : Option Holding) (k k' : Option (List ℕ)) (f d o o' : ℕ) where
  pub output_wrote : (text : List ℕ) → PutsText k k' text → o' ≡ o → IsMadeWhole {A = Unit {0}} (λ more. plan.Writes text (more tt)) tt (telling w s c h k f d o) (telling w s c h k' f d o')
  output_wrote text puts eo =
      comes_by {A = Unit {0}} (λ more. plan.Writes text (more tt)) (λ more. more tt) (plan.Wrote text) (telling w s c h k f d o) (telling w s c h k' f d o')
      (λ more. (more tt, (refl, refl), refl))
      (telling w s c h k' f d o', (puts, ap (λ x. telling w s c h k' f d x) eo), refl)

  pub output_cut : (text : List ℕ) (n : ℕ) → n < length text → PutsText k k' (take n text) → o ≤ o' → FaultsCounted o o' → (more : Unit {0} → Plan) → StopsAt OutputFailed (plan.Writes text (more tt)) (telling w s c h k f d o) (telling w s c h k' f d o')
  output_cut text n less puts le counted = λ more.
      stops_here OutputFailed (plan.Writes text (more tt)) (telling w s c h k f d o) (telling w s c h k' f d o') (
        record {
          prefix = take n text;
          rest = drop n text;
          splits = sym (take-append-drop n text);
          lacks = λ none. absurd (omega (arith, ap length none, length-drop n text));
          written = puts;
        },
        (le, counted),
        refl,
      )

-- the clock was asked
pub clock_told : (w s : Option (List Addressed)) (c c' : Option (List ℕ)) (h : Option Holding) (k : Option (List ℕ)) (f d o moment : ℕ) → TellsMoment c c' moment → IsMadeWhole plan.Asks moment (telling w s c h k f d o) (telling w s c' h k f d o)
clock_told w s c c' h k f d o moment tells =
    comes_by plan.Asks (λ more. more moment) (plan.Asked moment) (telling w s c h k f d o) (telling w s c' h k f d o)
    (λ more. (more moment, refl, refl))
    (telling w s c' h k f d o, (tells, refl), refl)
