-- What the steps of a settling keep of an end, as a responder and as a requester.
use Rattle.std.proofs.Common.{◌≡◌, ◌⊎◌, [], true, false, refl, sym, ap, ◌∙◌, subst, inl, inr}
use Rattle.std.specs.Prelude.{Option, Some, None}
use Rattle.protocol.specs.Moves.{fresh_start}
use Rattle.protocol.specs.State.{End, Link}

-- ---- links that are there, or not

-- both links are there and related, or none is
abbrev pub Linked : (Link → Link → Type 0) → Option Link → Option Link → Type 0
Linked R None None = Unit {0}
Linked R (Some l) (Some l') = R l l'
Linked R None (Some l) = ⊥
Linked R (Some l) None = ⊥

pub some_link : (a b : Link) → Some a ≡ Some b → a ≡ b
some_link a b h = cc

pub linked_after : (R : Link → Link → Type 0) (a b : Option Link) (l : Link) → Linked R a b → a ≡ Some l → (l' : Link) × (b ≡ Some l') × R l l'
linked_after R None None l g h = absurd (cc)
linked_after R (Some k) (Some k') l g h = (k', refl, subst (λ z. R z k') (some_link k l h) g)
linked_after R None (Some k) l g h = absurd g
linked_after R (Some k) None l g h = absurd g

pub linked_before : (R : Link → Link → Type 0) (a b : Option Link) (l' : Link) → Linked R a b → b ≡ Some l' → (l : Link) × (a ≡ Some l) × R l l'
linked_before R None None l' g h = absurd (cc)
linked_before R (Some k) (Some k') l' g h = (k, refl, subst (R k) (some_link k' l' h) g)
linked_before R None (Some k) l' g h = absurd g
linked_before R (Some k) None l' g h = absurd g

pub linked_both : (R : Link → Link → Type 0) (a b : Option Link) (l l' : Link) → Linked R a b → a ≡ Some l → b ≡ Some l' → R l l'
linked_both R a b l l' g h k = let t = linked_after R a b l g h in subst (R l) (some_link t.0 l' (sym t.1 ∙ k)) t.2

pub linked_of : (R : Link → Link → Type 0) (a b : Option Link) (l l' : Link) → a ≡ Some l → b ≡ Some l' → R l l' → Linked R a b
linked_of R a b l l' h k g = subst (λ z. Linked R z b) (sym h) (subst (λ z. Linked R (Some l) z) (sym k) g)

pub linked_same : (R : Link → Link → Type 0) → ((l : Link) → R l l) → (a : Option Link) → Linked R a a
linked_same R same None = tt
linked_same R same (Some l) = same l

pub linked_on : (R S T : Link → Link → Type 0) → ((k l m : Link) → R k l → S l m → T k m) → (a b c : Option Link) → Linked R a b → Linked S b c → Linked T a c
linked_on R S T on None None None g h = tt
linked_on R S T on (Some k) (Some l) (Some m) g h = on k l m g h
linked_on R S T on None None (Some m) g h = absurd h
linked_on R S T on (Some k) (Some l) None g h = absurd h
linked_on R S T on None (Some l) c g h = absurd g
linked_on R S T on (Some k) None c g h = absurd g

pub linked_as : (R S : Link → Link → Type 0) → ((k l : Link) → R k l → S k l) → (a b : Option Link) → Linked R a b → Linked S a b
linked_as R S as' None None g = tt
linked_as R S as' (Some k) (Some l) g = as' k l g
linked_as R S as' None (Some l) g = absurd g
linked_as R S as' (Some k) None g = absurd g

-- ---- what is kept

-- the same partner and terms, and in Error for good
pub record IsLinkOn (l l' : Link) : Type 0 where
  pub peer : l'.peer ≡ l.peer
  pub terms : l'.terms ≡ l.terms
  pub ended : l.ended ≡ true → l'.ended ≡ true

-- .. and the same number is expected
pub record IsLinkKept (l l' : Link) : Type 0 where
  pub on : IsLinkOn l l'
  pub expected : l'.receiver.expected ≡ l.receiver.expected

-- the requester is in Error, does not wait, or is the same
abbrev pub IsSenderKept : Link → Link → Type 0
IsSenderKept l l' = (l'.ended ≡ true) ⊎ (l'.sender.rnr_wait ≡ false) ⊎ (l'.sender ≡ l.sender)

-- what a message of moving leaves
pub record IsLinkMoved (l l' : Link) : Type 0 where
  pub peer : l'.peer ≡ l.peer
  pub terms : l'.terms ≡ l.terms
  pub ended : l'.ended ≡ l.ended
  pub receiver : l'.receiver ≡ l.receiver
  pub sender : (l'.sender ≡ l.sender) ⊎ (l'.sender ≡ fresh_start l.sender)

-- .. and several of them
pub record IsLinkSpared (l l' : Link) : Type 0 where
  pub peer : l'.peer ≡ l.peer
  pub terms : l'.terms ≡ l.terms
  pub ended : l'.ended ≡ l.ended
  pub receiver : l'.receiver ≡ l.receiver
  pub sender : IsSenderKept l l'

-- an end with the same number, and the links so related
pub record IsEndOn (e e' : End) : Type 0 where
  pub number : e'.number ≡ e.number
  pub links : Linked IsLinkOn e.link e'.link

-- .. that has no unused receives where it had none
pub record IsEndKept (e e' : End) : Type 0 where
  pub number : e'.number ≡ e.number
  pub unused : e.unused ≡ [] → e'.unused ≡ []
  pub links : Linked IsLinkKept e.link e'.link

-- .. that has the same unused receives
pub record IsEndSpared (e e' : End) : Type 0 where
  pub number : e'.number ≡ e.number
  pub unused : e'.unused ≡ e.unused
  pub links : Linked IsLinkSpared e.link e'.link

-- ---- one after the other

pub sender_same : (l : Link) → IsSenderKept l l
sender_same l = inr (inr refl)

pub senders_same : (a : Option Link) → Linked IsSenderKept a a
senders_same a = linked_same IsSenderKept sender_same a

pub link_on_same : (l : Link) → IsLinkOn l l
link_on_same l = record { peer = refl; terms = refl; ended = λ h. h }

pub link_kept_same : (l : Link) → IsLinkKept l l
link_kept_same l = record { on = link_on_same l; expected = refl }

pub link_spared_same : (l : Link) → IsLinkSpared l l
link_spared_same l = record { peer = refl; terms = refl; ended = refl; receiver = refl; sender = inr (inr refl) }

pub link_on_on : (k l m : Link) → IsLinkOn k l → IsLinkOn l m → IsLinkOn k m
link_on_on k l m g h = record { peer = h.peer ∙ g.peer; terms = h.terms ∙ g.terms; ended = λ t. h.ended (g.ended t) }

pub link_kept_on : (k l m : Link) → IsLinkKept k l → IsLinkKept l m → IsLinkKept k m
link_kept_on k l m g h = record { on = link_on_on k l m g.on h.on; expected = h.expected ∙ g.expected }

pub sender_on : (k l m : Link) → IsSenderKept k l → IsSenderKept l m → (l.ended ≡ true → m.ended ≡ true) → IsSenderKept k m
sender_on k l m g (inl h) ends = inl h
sender_on k l m g (inr (inl h)) ends = inr (inl h)
sender_on k l m (inl g) (inr (inr h)) ends = inl (ends g)
sender_on k l m (inr (inl g)) (inr (inr h)) ends = inr (inl (ap (λ z. z.rnr_wait) h ∙ g))
sender_on k l m (inr (inr g)) (inr (inr h)) ends = inr (inr (h ∙ g))

pub moved_sender : (l l' : Link) → IsLinkMoved l l' → IsSenderKept l l'
moved_sender l l' h = elim h.sender [ inl same ↦ inr (inr same) | inr fresh ↦ inr (inl (ap (λ z. z.rnr_wait) fresh)) ]

pub moved_on : (l l' : Link) → IsLinkMoved l l' → IsLinkOn l l'
moved_on l l' h = record { peer = h.peer; terms = h.terms; ended = λ t. h.ended ∙ t }

pub moved_kept : (l l' : Link) → IsLinkMoved l l' → IsLinkKept l l'
moved_kept l l' h = record { on = moved_on l l' h; expected = ap (λ z. z.expected) h.receiver }

pub moved_spared : (l l' : Link) → IsLinkMoved l l' → IsLinkSpared l l'
moved_spared l l' h = record { peer = h.peer; terms = h.terms; ended = h.ended; receiver = h.receiver; sender = moved_sender l l' h }

pub spared_on : (k l m : Link) → IsLinkSpared k l → IsLinkSpared l m → IsLinkSpared k m
spared_on k l m g h = record { peer = h.peer ∙ g.peer; terms = h.terms ∙ g.terms; ended = h.ended ∙ g.ended; receiver = h.receiver ∙ g.receiver; sender = sender_on k l m g.sender h.sender (λ t. h.ended ∙ t) }

pub spared_kept : (k l : Link) → IsLinkSpared k l → IsLinkKept k l
spared_kept k l h = record { on = record { peer = h.peer; terms = h.terms; ended = λ t. h.ended ∙ t }; expected = ap (λ z. z.expected) h.receiver }

pub kept_link_on : (k l : Link) → IsLinkKept k l → IsLinkOn k l
kept_link_on k l h = h.on

pub end_on_same : (e : End) → IsEndOn e e
end_on_same e = record { number = refl; links = linked_same IsLinkOn link_on_same e.link }

pub end_kept_same : (e : End) → IsEndKept e e
end_kept_same e = record { number = refl; unused = λ h. h; links = linked_same IsLinkKept link_kept_same e.link }

pub end_spared_same : (e : End) → IsEndSpared e e
end_spared_same e = record { number = refl; unused = refl; links = linked_same IsLinkSpared link_spared_same e.link }

pub end_on_on : (a b c : End) → IsEndOn a b → IsEndOn b c → IsEndOn a c
end_on_on a b c g h = record { number = h.number ∙ g.number; links = linked_on IsLinkOn IsLinkOn IsLinkOn link_on_on a.link b.link c.link g.links h.links }

pub end_kept_on : (a b c : End) → IsEndKept a b → IsEndKept b c → IsEndKept a c
end_kept_on a b c g h = record { number = h.number ∙ g.number; unused = λ t. h.unused (g.unused t); links = linked_on IsLinkKept IsLinkKept IsLinkKept link_kept_on a.link b.link c.link g.links h.links }

pub end_spared_on : (a b c : End) → IsEndSpared a b → IsEndSpared b c → IsEndSpared a c
end_spared_on a b c g h = record { number = h.number ∙ g.number; unused = h.unused ∙ g.unused; links = linked_on IsLinkSpared IsLinkSpared IsLinkSpared spared_on a.link b.link c.link g.links h.links }

pub end_kept_is_on : (a b : End) → IsEndKept a b → IsEndOn a b
end_kept_is_on a b h = record { number = h.number; links = linked_as IsLinkKept IsLinkOn kept_link_on a.link b.link h.links }

pub end_spared_kept : (a b : End) → IsEndSpared a b → IsEndKept a b
end_spared_kept a b h = record { number = h.number; unused = λ t. h.unused ∙ t; links = linked_as IsLinkSpared IsLinkKept spared_kept a.link b.link h.links }

sender_of_spared : (k l : Link) → IsLinkSpared k l → IsSenderKept k l
sender_of_spared k l h = h.sender

pub end_spared_sender : (a b : End) → IsEndSpared a b → Linked IsSenderKept a.link b.link
end_spared_sender a b h = linked_as IsLinkSpared IsSenderKept sender_of_spared a.link b.link h.links
