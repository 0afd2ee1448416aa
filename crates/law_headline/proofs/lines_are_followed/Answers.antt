use Rattle.packetless_machine.specs.Machine.{empty}
use Rattle.protocol.specs.State.{empty_world}
use Rattle.law_headline.specs.Does.{happenings_of}
use Rattle.law_headline.proofs.Following.{all_followed, all_legal, all_within, laws_of}
use Rattle.law_headline.proofs.lines_are_followed.Goals as goal

pub returns-clause-from_any : goal.returns-clause-from_any
returns-clause-from_any c = all_followed (laws_of c.steps_are_named.ensures.events c.settling_is_named.ensures.events c.settling_is_named.ensures.follows)

pub returns-clause-follows : goal.returns-clause-follows
returns-clause-follows c ls within =
    all_followed (laws_of c.steps_are_named.ensures.events c.settling_is_named.ensures.events c.settling_is_named.ensures.follows)
    empty_world empty (happenings_of ls) (all_within ls within) c.law_holds.ensures.start

pub returns-clause-legal : goal.returns-clause-legal
returns-clause-legal c ls within =
    all_legal empty_world empty (happenings_of ls)
    (all_followed (laws_of c.steps_are_named.ensures.events c.settling_is_named.ensures.events c.settling_is_named.ensures.follows)
    empty_world empty (happenings_of ls) (all_within ls within) c.law_holds.ensures.start)
