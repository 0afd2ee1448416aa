-- The calls of a plan against the function of what is told.
use Rattle.std.proofs.Common.{◌≡◌, ◌∙◌, ℕ, List, [], ◌∷◌, ◌++◌, drop, Option, Some, None, refl, sym, ap, subst}
use Rattle.std.proofs.Math.Path.{fun_ext}
use Rattle.host_ports.specs.Depots.{Holding, Sets}
use Rattle.rdma_types.specs.declared.names.Name.{Name}
use Rattle.node_rules.specs.Outside.{Outside, clearing, ran, set}
use Rattle.node_rules.specs.Plan.{Asked, Asks, Call, IsNext, Leads, Looked, Looks, Plan, Put, Puts, Removed, Removes, Sends, Sent, Started, Starts, Takes, Took, Writes, Wrote}
use Rattle.node_rules.specs.Laws.{CallsGoOn, WholeRunsAreTheFunction}
use Rattle.node_rules.specs.Told.{Contents, Counts, Tells, TellsAll, told}

-- the outside after some calls, which go on as the whole would
abbrev pub GoesOn : Counts → Plan → Plan → Outside → Contents → Type 0
GoesOn k whole left o after = (p : Outside) × (after ≡ told p k) × (ran left p ≡ ran whole o)

-- a depot told by what is under each name is the one with that name set
pub is_set : (h : Holding) (new : Option Holding) (n name : Name) (found other : Option (List ℕ)) → Sets (Some h) new n found → n ≡ name → found ≡ other → new ≡ Some (set h name other)
is_set h new n name found other s e f =
    s.1 ∙ ap Some (fun_ext s.2) ∙ ap (λ x. Some (set h x found)) e ∙ ap (λ x. Some (set h name x)) f

-- what was under the name is taken out, or nothing was there
pub taken_out : (k : Counts) (name n : Name) (found : Option (List ℕ)) (more : Option (List ℕ) → Plan) (next : Plan) (o : Outside) (mid : Contents) → n ≡ name → next ≡ more found → Tells (told o k) (Removed n found) mid → GoesOn k (Removes name more) next o mid
unfolding ran
taken_out k name n None more next o mid e h t =
    (o, t.1, ap (λ q. ran q o) h ∙ ap (λ f. ran (more f) (clearing o name f)) (sym t.0 ∙ ap o.held e))
taken_out k name n (Some bytes) more next o mid e h t =
    let p : Outside = record o { held = set o.held name None } in (
      p,
      t.1.1 ∙ ap (λ w. record (told o k) { held = w }) (is_set o.held mid.held n name None None t.1.0 e refl),
      ap (λ q. ran q p) h ∙ ap (λ f. ran (more f) (clearing o name f)) (sym t.0 ∙ ap o.held e),
    )

-- one call
pub one : (k : Counts) (plan : Plan) (call : Call) (next : Plan) (o : Outside) (mid : Contents) → IsNext plan call next → Tells (told o k) call mid → GoesOn k plan next o mid
unfolding ran
one k (Starts own more) (Started at) next o mid h t = (o, t, ap (λ q. ran q o) h.1)
one k (Takes more) (Took got) next o mid h t =
    let p : Outside = record o { waiting = drop 1 o.waiting } in
    (p, t.1 ∙ ap (λ w. record (told o k) { waiting = w }) t.0.1, ap (λ q. ran q p) (h ∙ ap more t.0.0))
one k (Sends datagram more) (Sent d) next o mid h t =
    let p : Outside = record o { sent = o.sent ++ datagram ∷ [] } in
    (p, t.1 ∙ ap (λ w. record (told o k) { sent = w }) (t.0 ∙ ap (λ x. Some (o.sent ++ x ∷ [])) h.0), ap (λ q. ran q p) h.1)
one k (Asks more) (Asked moment) next o mid h t =
    let p : Outside = record o { to_come = drop 1 o.to_come } in
    (p, t.1 ∙ ap (λ w. record (told o k) { to_come = w }) t.0.1, ap (λ q. ran q p) (h ∙ ap more t.0.0))
one k (Puts name bytes more) (Put n bs) next o mid h t =
    let p : Outside = record o { held = set o.held name (Some bytes) } in
    (p, t.1 ∙ ap (λ w. record (told o k) { held = w }) (is_set o.held mid.held n name (Some bs) (Some bytes) t.0 h.0 (ap Some h.1)), ap (λ q. ran q p) h.2)
one k (Looks name more) (Looked n found) next o mid h t =
    (o, t.1, ap (λ q. ran q o) (h.1 ∙ ap more (sym t.0 ∙ ap o.held h.0)))
one k (Removes name more) (Removed n found) next o mid h t = taken_out k name n found more next o mid h.0 h.1 t
one k (Writes text more) (Wrote wrote) next o mid h t =
    let p : Outside = record o { text = o.text ++ text } in
    (p, t.1 ∙ ap (λ w. record (told o k) { written = w }) (t.0 ∙ ap (λ x. Some (o.text ++ x)) h.0), ap (λ q. ran q p) h.1)
one k plan call next o mid h t = absurd h

-- calls, one after the other
pub follows : (k : Counts) (calls : List Call) (plan left : Plan) (o : Outside) (after : Contents) → Leads plan calls left → TellsAll (told o k) calls after → GoesOn k plan left o after
follows k [] plan left o after leads tells = (o, tells, ap (λ q. ran q o) (sym leads))
follows k (call ∷ calls) plan left o after leads tells =
    let h : GoesOn k plan leads.0 o tells.0 = one k plan call leads.0 o tells.0 leads.1 tells.1 in
    let g : GoesOn k leads.0 left h.0 after = follows k calls leads.0 left h.0 after leads.2 (subst (λ m. TellsAll m calls after) h.1 tells.2) in
    (g.0, g.1, g.2 ∙ h.2)

-- the calls of a plan leave what is left of it where it was going
pub calls_go_on : CallsGoOn
calls_go_on plan left calls o k after made = follows k calls plan left o after made.leads made.tells

-- a plan whose calls were all made ends and leaves what the function says
pub whole_runs_are_the_function : WholeRunsAreTheFunction
unfolding ran
whole_runs_are_the_function plan o k ending after r =
    let h : GoesOn k plan r.left o r.reached = follows k r.calls plan r.left o r.reached r.made.leads r.made.tells in
    (h.0, r.stop.1 ∙ h.1, sym h.2 ∙ ap (λ q. ran q h.0) r.stop.0)
