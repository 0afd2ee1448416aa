-- Calls of a plan that are those of one act.
use Rattle.std.proofs.Common.{arith, ◌≡◌, ◌∙◌, ◌≤◌, ◌<◌, inl, inr, ℕ, List, [], ◌∷◌, ◌++◌, length, refl, sym, ap, subst, append_assoc}
use Rattle.std.proofs.lemmas.List.{append-nil, length-append}
use Rattle.rdma_types.specs.declared.answers.Sent.{Sent}
use Rattle.rdma_types.specs.declared.names.Name.{Name}
use Rattle.node_rules.specs.Node.{sending}
use Rattle.node_rules.specs.Plan as plan
use Rattle.node_rules.specs.Plan.{Call, Ending, Ends, IsNext, Leads, Plan}
use Rattle.law_nodes.specs.Acts.{Act, HasDone, IsCutAt, MayDo, Standing, after_act, calls_of, sends}

-- the calls that were made are the first of these, or all of these and then those of the plan that follows
pub data Goes (cs : List Call) (next : Plan) (calls : List Call) (left : Plan) : Type 0 where
  Halts : (rest : List Call) → (1 ≤ length rest) → (calls ++ rest ≡ cs) → Goes cs next calls left
  Passes : (back : List Call) → (calls ≡ cs ++ back) → Leads next back left → Goes cs next calls left

-- the plan makes these calls, and then the next plan follows
abbrev pub Makes : Plan → List Call → Plan → Type 0
Makes p cs next = (calls : List Call) (left : Plan) → Leads p calls left → Goes cs next calls left

-- what a node does by such a plan is done
abbrev pub IsGood : Standing → Plan → Type 0
IsGood s p = (calls : List Call) (left : Plan) → Leads p calls left → HasDone s calls

-- ---- calls

-- one more call before others
pub goes_on : (c : Call) (cs : List Call) (next : Plan) (calls : List Call) (left : Plan) → Goes cs next calls left → Goes (c ∷ cs) next (c ∷ calls) left
goes_on c cs next calls left (Halts rest some same) = Halts rest some (ap (λ x. c ∷ x) same)
goes_on c cs next calls left (Passes back same leads) = Passes back (ap (λ x. c ∷ x) same) leads

-- no call was made yet
pub goes_nowhere : (c : Call) (cs : List Call) (next left : Plan) → Goes (c ∷ cs) next [] left
goes_nowhere c cs next left = Halts (c ∷ cs) (omega arith) refl

-- no calls
pub makes_none : (next : Plan) → Makes next [] next
makes_none next calls left leads = Passes calls refl leads

-- datagrams
pub makes_sends : (ss : List Sent) (next : Plan) → Makes (sending ss next) (sends ss) next
makes_sends [] next calls left leads = makes_none next calls left leads
makes_sends (x ∷ xs) next [] left leads = goes_nowhere (plan.Sent (x.to, x.bytes)) (sends xs) next left
makes_sends (x ∷ xs) next (plan.Sent d ∷ calls) left leads =
    subst (λ y. Goes (sends (x ∷ xs)) next (plan.Sent y ∷ calls) left) (sym leads.1.0)
    (goes_on (plan.Sent (x.to, x.bytes)) (sends xs) next calls left (makes_sends xs next calls left (subst (λ p. Leads p calls left) leads.1.1 leads.2)))
makes_sends (x ∷ xs) next (c ∷ calls) left leads = absurd leads.1

-- a text
pub makes_text : (text : List ℕ) (next : Plan) → Makes (plan.Writes text next) (plan.Wrote text ∷ []) next
makes_text text next [] left leads = goes_nowhere (plan.Wrote text) [] next left
makes_text text next (plan.Wrote t ∷ calls) left leads =
    subst (λ y. Goes (plan.Wrote text ∷ []) next (plan.Wrote y ∷ calls) left) (sym leads.1.0)
    (goes_on (plan.Wrote text) [] next calls left (makes_none next calls left (subst (λ p. Leads p calls left) leads.1.1 leads.2)))
makes_text text next (c ∷ calls) left leads = absurd leads.1

-- a dump
pub makes_put : (name : Name) (bytes : List ℕ) (next : Plan) → Makes (plan.Puts name bytes next) (plan.Put name bytes ∷ []) next
makes_put name bytes next [] left leads = goes_nowhere (plan.Put name bytes) [] next left
makes_put name bytes next (plan.Put n bs ∷ calls) left leads =
    subst (λ y. Goes (plan.Put name bytes ∷ []) next (y ∷ calls) left) (sym (ap (λ x. plan.Put x bs) leads.1.0 ∙ ap (λ x. plan.Put name x) leads.1.1))
    (goes_on (plan.Put name bytes) [] next calls left (makes_none next calls left (subst (λ p. Leads p calls left) leads.1.2 leads.2)))
makes_put name bytes next (c ∷ calls) left leads = absurd leads.1

-- calls and then calls
longer : (xs ys : List Call) → 1 ≤ length xs → 1 ≤ length (xs ++ ys)
longer [] ys h = absurd (omega arith)
longer (x ∷ xs) ys h = omega arith

beyond : (cs cs' : List Call) (next : Plan) (calls : List Call) (left : Plan) (back : List Call) → calls ≡ cs ++ back → Goes cs' next back left → Goes (cs ++ cs') next calls left
beyond cs cs' next calls left back same (Halts rest some other) =
    Halts rest some (ap (λ x. x ++ rest) same ∙ append_assoc cs back rest ∙ ap (λ x. cs ++ x) other)
beyond cs cs' next calls left back same (Passes back' other leads) =
    Passes back' (same ∙ ap (λ x. cs ++ x) other ∙ sym (append_assoc cs cs' back')) leads

goes_through : (cs cs' : List Call) (between next : Plan) → Makes between cs' next → (calls : List Call) (left : Plan) → Goes cs between calls left → Goes (cs ++ cs') next calls left
goes_through cs cs' between next more calls left (Halts rest some same) =
    Halts (rest ++ cs') (longer rest cs' some) (sym (append_assoc calls rest cs') ∙ ap (λ x. x ++ cs') same)
goes_through cs cs' between next more calls left (Passes back same leads) = beyond cs cs' next calls left back same (more back left leads)

pub makes_both : (p : Plan) (cs cs' : List Call) (between next : Plan) → Makes p cs between → Makes between cs' next → Makes p (cs ++ cs') next
makes_both p cs cs' between next a b calls left leads = goes_through cs cs' between next b calls left (a calls left leads)

-- ---- acts

-- nothing was done
pub nothing_done : (s : Standing) → HasDone s []
nothing_done s = record { acts = []; may = tt; unmade = []; made = refl; cut = refl }

-- an act before others
cut_later : (s : Standing) (a : Act) (more : List Act) (unmade : List Call) → IsCutAt (after_act s a) more unmade → IsCutAt s (a ∷ more) unmade
cut_later s a [] unmade h = inl h
cut_later s a (b ∷ more) unmade h = h

pub done_before : (s : Standing) (a : Act) (back : List Call) → MayDo s a → HasDone (after_act s a) back → HasDone s (calls_of s a ++ back)
done_before s a back may h = record {
  acts = a ∷ h.acts;
  may = (may, h.may);
  unmade = h.unmade;
  made = append_assoc (calls_of s a) back h.unmade ∙ ap (λ x. calls_of s a ++ x) h.made;
  cut = cut_later s a h.acts h.unmade h.cut;
}

-- the last act has begun
fewer : (c : Call) (calls rest cs : List Call) → (c ∷ calls) ++ rest ≡ cs → length rest < length cs
fewer c calls rest cs h = subst (λ x. length rest < length x) h (omega (arith, length-append calls rest))

pub begun : (s : Standing) (a : Act) (c : Call) (calls rest : List Call) → MayDo s a → (c ∷ calls) ++ rest ≡ calls_of s a → HasDone s (c ∷ calls)
begun s a c calls rest may same = record {
  acts = a ∷ [];
  may = (may, tt);
  unmade = rest;
  made = same ∙ sym (append-nil (calls_of s a));
  cut = inr (fewer c calls rest (calls_of s a) same);
}

-- an act, and then what follows
pub act_done : (s : Standing) (a : Act) (next : Plan) (calls : List Call) (left : Plan) → MayDo s a → IsGood (after_act s a) next → Goes (calls_of s a) next calls left → HasDone s calls
act_done s a next calls left may good (Passes back same leads) = subst (λ x. HasDone s x) (sym same) (done_before s a back may (good back left leads))
act_done s a next [] left may good (Halts rest some same) = nothing_done s
act_done s a next (c ∷ calls) left may good (Halts rest some same) = begun s a c calls rest may same

pub act_good : (s : Standing) (a : Act) (p next : Plan) → MayDo s a → Makes p (calls_of s a) next → IsGood (after_act s a) next → IsGood s p
act_good s a p next may makes good calls left leads = act_done s a next calls left may good (makes calls left leads)

-- an end
pub end_good : (s : Standing) (e : Ending) → IsGood s (Ends e)
end_good s e [] left leads = nothing_done s
end_good s e (c ∷ calls) left leads = absurd leads.1
