-- Datagrams that are taken from a link and that leave over it.
use Rattle.std.proofs.Common.{◌≡◌, ◌∙◌, ℕ, ◌+◌, ◌≤◌, List, [], ◌∷◌, ◌++◌, Option, Some, None, length-append, append-nil, refl, sym, ap, subst, append_assoc, arith}
use Rattle.host_ports.specs.Links.{Addressed, TakesFirst}
use Rattle.rdma_types.specs.declared.answers.Sent.{Sent}
use Rattle.serve_rules.specs.Links.{HasTaken, LeavesAtMost, TakesThese}
use Rattle.serve_rules.specs.Server.{Server}

-- ---- taking

-- a datagram was given
pub gave_one : (w w' : Option (List Addressed)) (d : Addressed) → TakesFirst w w' (Some d) → TakesThese w (d ∷ []) w'
gave_one None w' d h = h
gave_one (Some []) w' d h = cc (h.0)
gave_one (Some (x ∷ xs)) w' d h = (xs, cc (h.0), h.1)

-- none was given
pub gave_none : (w w' : Option (List Addressed)) → TakesFirst w w' None → TakesThese w [] w'
gave_none None w' h = h
gave_none (Some []) w' h = ([], refl, h.1)
gave_none (Some (x ∷ xs)) w' h = cc (h.0)

pub gave_nothing : (w w' : Option (List Addressed)) → w' ≡ w → TakesThese w [] w'
gave_nothing None w' e = e
gave_nothing (Some ds) w' e = (ds, refl, e)

-- .. and then others
these_on : (w w' w'' : Option (List Addressed)) (ds es : List Addressed) → TakesThese w ds w' → TakesThese w' es w'' → TakesThese w (ds ++ es) w''
these_on None w' w'' ds es a b = subst (λ x. TakesThese x es w'') a b
these_on (Some waiting) w' w'' ds es a b =
    let k : TakesThese (Some a.0) es w'' = subst (λ x. TakesThese x es w'') a.2 b in
    (k.0, a.1 ∙ ap (λ r. ds ++ r) k.1 ∙ sym (append_assoc ds es k.0), k.2)

-- nothing was taken
pub taken_none : (s : Server) (w w' : Option (List Addressed)) → TakesThese w [] w' → (s' : Server) → s' ≡ s → HasTaken s w s' w'
taken_none s w w' h s' e = record { taken = []; gives = h; server = e ∙ ap (λ ds. record s { inbox = ds }) (sym (append-nil s.inbox)) }

-- .. before any call
pub taken_nothing : (s : Server) (w : Option (List Addressed)) → HasTaken s w s w
taken_nothing s w = taken_none s w w (gave_nothing w w refl) s refl

-- one was
pub taken_one : (s s' : Server) (w w' : Option (List Addressed)) (d : Addressed) → TakesFirst w w' (Some d) → s' ≡ record s { inbox = s.inbox ++ d ∷ [] } → HasTaken s w s' w'
taken_one s s' w w' d h e = record { taken = d ∷ []; gives = gave_one w w' d h; server = e }

pub taken_on : (s t u : Server) (w w' w'' : Option (List Addressed)) → HasTaken s w t w' → HasTaken t w' u w'' → HasTaken s w u w''
taken_on s t u w w' w'' a b = record {
  taken = a.taken ++ b.taken;
  gives = these_on w w' w'' a.taken b.taken a.gives b.gives;
  server =
      b.server ∙ ap (λ (x : Server). record x { inbox = x.inbox ++ b.taken }) a.server
      ∙ ap (λ ds. record s { inbox = ds }) (append_assoc s.inbox a.taken b.taken);
}

-- ---- leaving

pub left_none : (s s' : Server) (n : ℕ) → s' ≡ s → LeavesAtMost n s s'
left_none s s' n e = record { gone = []; few = omega arith; outgoing = sym (ap (λ (x : Server). x.outgoing) e); server = e ∙ ap (λ (x : Server). record s { outgoing = x.outgoing; tallies = x.tallies }) (sym e) }

pub left_on : (s t u : Server) (m n : ℕ) → LeavesAtMost m s t → LeavesAtMost n t u → LeavesAtMost (m + n) s u
left_on s t u m n a b = record {
  gone = a.gone ++ b.gone;
  few = simp length-append (omega (arith, a.few, b.few));
  outgoing = a.outgoing ∙ ap (λ ds. a.gone ++ ds) b.outgoing ∙ sym (append_assoc a.gone b.gone u.outgoing);
  server = b.server ∙ ap (λ (x : Server). record x { outgoing = u.outgoing; tallies = u.tallies }) a.server;
}

-- one left
pub left_one : (s s' : Server) (x : Sent) → s.outgoing ≡ x ∷ s'.outgoing → s' ≡ record s { outgoing = s'.outgoing; tallies = s'.tallies } → LeavesAtMost 1 s s'
left_one s s' x o e = record { gone = x ∷ []; few = omega arith; outgoing = o; server = e }

-- there were no more calls than that
pub left_most : (s s' : Server) (k n : ℕ) → LeavesAtMost k s s' → k ≤ n → LeavesAtMost n s s'
left_most s s' k n a h = record { gone = a.gone; few = omega (arith, a.few); outgoing = a.outgoing; server = a.server }
