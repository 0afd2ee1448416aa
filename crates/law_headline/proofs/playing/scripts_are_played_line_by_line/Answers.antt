use Rattle.law_headline.proofs.Played.{playing_begins, playing_ends, playing_forgets, playing_goes_on, playing_stops}
use Rattle.law_headline.proofs.playing.scripts_are_played_line_by_line.Goals as goal

pub returns-clause-begins : goal.returns-clause-begins
returns-clause-begins c = playing_begins

pub returns-clause-goes_on : goal.returns-clause-goes_on
returns-clause-goes_on c = playing_goes_on

pub returns-clause-stops : goal.returns-clause-stops
returns-clause-stops c = playing_stops

pub returns-clause-ends : goal.returns-clause-ends
returns-clause-ends c = playing_ends

pub returns-clause-forgets : goal.returns-clause-forgets
returns-clause-forgets c = playing_forgets c.alike_worlds_are_answered_alike.ensures.script
