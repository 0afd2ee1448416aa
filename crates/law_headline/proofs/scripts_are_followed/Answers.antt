use Rattle.std.proofs.Common.{[], subst, List}
use Rattle.std.proofs.lemmas.List.Elements.{All-nil}
use Rattle.law_headline.specs.Does.{IsLineInRange}
use Rattle.protocol.specs.State.{empty_world}
use Rattle.protocol.specs.Script.{Happening}
use Rattle.packetless_machine.specs.Machine.{empty}
use Rattle.script_lang.specs.Scripts.{lines_of}
use Rattle.law_headline.specs.Follows.{FollowsAll}
use Rattle.law_headline.specs.Script.{happenings, script_of}
use Rattle.law_headline.proofs.Following.{all_legal, all_reached, prefix_followed}
use Rattle.law_headline.proofs.Reading.{lines_in_range}
use Rattle.law_headline.proofs.scripts_are_followed.Goals as goal

pub returns-clause-whole : goal.returns-clause-whole
returns-clause-whole c text = record {
  follows = c.lines_are_followed.ensures.follows (script_of text).lines (lines_in_range 1 (lines_of text));
  legal = c.lines_are_followed.ensures.legal (script_of text).lines (lines_in_range 1 (lines_of text));
}

pub returns-clause-follows_prefix : goal.returns-clause-follows_prefix
returns-clause-follows_prefix c text prefix rest e =
    prefix_followed empty_world empty prefix rest (c.lines_are_followed.ensures.follows [] (All-nil IsLineInRange))
    (subst (λ (hs : List Happening). FollowsAll empty_world empty hs) e (c.lines_are_followed.ensures.follows (script_of text).lines (lines_in_range 1 (lines_of text))))

pub returns-clause-legal_prefix : goal.returns-clause-legal_prefix
returns-clause-legal_prefix c text prefix rest e =
    all_legal empty_world empty prefix (prefix_followed empty_world empty prefix rest (c.lines_are_followed.ensures.follows [] (All-nil IsLineInRange))
    (subst (λ (hs : List Happening). FollowsAll empty_world empty hs) e (c.lines_are_followed.ensures.follows (script_of text).lines (lines_in_range 1 (lines_of text)))))

pub returns-clause-reached : goal.returns-clause-reached
returns-clause-reached c text =
    all_reached empty_world empty (happenings text) (c.lines_are_followed.ensures.follows (script_of text).lines (lines_in_range 1 (lines_of text)))
