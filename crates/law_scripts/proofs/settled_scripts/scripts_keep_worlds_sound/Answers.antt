use Rattle.law_headline.specs.Does.{happening_of}
use Rattle.law_scripts.proofs.Names.{read_named}
use Rattle.law_scripts.proofs.Scripts.{may_be_said, text_sound}
use Rattle.law_scripts.proofs.settled_scripts.scripts_keep_worlds_sound.Goals as goal

pub returns-clause-read : goal.returns-clause-read
returns-clause-read c line says h =
    may_be_said (happening_of says) (c.lines_are_in_range.ensures.read line says h)
    (c.lines_are_in_range.ensures.asked says (c.lines_are_in_range.ensures.lawful line says h))
    (read_named line says h)

pub returns-clause-sound : goal.returns-clause-sound
returns-clause-sound c text prefix rest splits =
    text_sound c.worlds_stay_sound.ensures.step c.worlds_stay_sound.ensures.settling (returns-clause-read c) c.worlds_stay_sound.ensures.empty
    c.law_holds.ensures.start text (c.scripts_are_followed.ensures.whole text).follows prefix rest splits
