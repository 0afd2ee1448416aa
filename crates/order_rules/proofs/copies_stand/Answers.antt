use Rattle.std.proofs.Common.{◌≡◌, zero, suc, List, [], ◌∷◌, ◌++◌, subst}
use Rattle.protocol.specs.State.{Flight, World}
use Rattle.packetless_machine.specs.Machine.{Machine}
use Rattle.law_simulation.specs.Facts.{Fact}
use Rattle.law_simulation.specs.Views as views
use Rattle.law_simulation.specs.Views.{Net, net_of}
use Rattle.law_simulation.specs.Stands.{AreSent, Stands}
use Rattle.order_rules.proofs.copies_stand.Goals as goal

-- the store of a world changes, and each of its datagrams has its fact
sent_changed : (w : World) (m : Machine) (flights : List Flight) → Stands w m → AreSent (net_of w m) flights → Stands (record w { sent = flights }) m
unfolding views.contexts_of views.context_of views.end_of views.in_rts views.place_of
sent_changed w m flights s facts = record {
  placed = s.placed;
  counted = s.counted;
  same = s.same;
  sound = s.sound;
  numbered = s.numbered;
  joined = s.joined;
  progress = s.progress;
  husks = s.husks;
  sent = facts;
}

one_more : (n : Net) (fs : List Flight) (f : Flight) → AreSent n fs → Fact n f → AreSent n (fs ++ f ∷ [])
one_more n [] f facts fact zero g h = let same : f ≡ g = cc in subst (Fact n) same fact
one_more n [] f facts fact (suc k) g h = cc
one_more n (x ∷ fs) f facts fact zero g h = facts zero g h
one_more n (x ∷ fs) f facts fact (suc k) g h = one_more n fs f (λ j y. facts (suc j) y) fact k g h

pub returns : goal.returns
returns c w m k f s there = sent_changed w m _ s (one_more (net_of w m) w.sent f s.sent (s.sent k f there))
