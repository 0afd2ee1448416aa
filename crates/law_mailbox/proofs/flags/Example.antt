-- What a caller sees after one letter, as the rules compute it.
use Rattle.std.proofs.Common.{arith, ◌<◌, [], ◌∷◌, refl}
use Rattle.std.proofs.lemmas.List.Elements.{All-cons, All-nil}
use Rattle.law_simulation.specs.Views as views
use Rattle.mailbox_rules.specs.Evaluate.{answered}
use Rattle.mailbox_rules.specs.State.{made}
use Rattle.mailbox_rules.specs.Theorem.{Begins, IsReached, MayBeCalled, Replied}
use Rattle.protocol.specs.Images as images
use Rattle.law_mailbox.specs.Delivered.{AllIsDelivered}
use Rattle.law_mailbox.specs.Example.{OneLetterIsDelivered, OneLetterIsSeenCalm, one_call, one_sent, one_turn}

pub one_is_seen_calm : OneLetterIsSeenCalm
unfolding answered views.end_of views.context_of views.contexts_of views.link_or_none images.context_of
one_is_seen_calm = record {
  first = record { rounds = 2; answer = refl };
  second = record { rounds = 1; answer = refl };
  third = record { rounds = 1; answer = refl };
  receiver_lives = refl;
  sender_fine = refl;
  receiver_fine = refl;
  few = omega arith;
}

may_call : MayBeCalled one_call
may_call = (omega arith, All-cons (λ b. b < 256) 104 (105 ∷ []) (omega arith) (All-cons (λ b. b < 256) 105 [] (omega arith) (All-nil (λ b. b < 256))))

one_is_reached : IsReached (made 1) one_turn one_sent
unfolding answered
one_is_reached = Replied one_call may_call Begins

pub one_is_delivered : AllIsDelivered → OneLetterIsDelivered
one_is_delivered delivered = delivered 1 (omega arith) (omega arith) one_turn one_sent one_is_reached 1 (omega arith) (omega arith) one_is_seen_calm
