use Rattle.law_headline.proofs.Following.{settling_in_range}
use Rattle.law_headline.proofs.Lawful.{line_asked}
use Rattle.law_headline.proofs.Reading.{read_in_range, read_lawful}
use Rattle.law_headline.proofs.lines_are_in_range.Goals as goal

pub returns-clause-read : goal.returns-clause-read
returns-clause-read c = read_in_range

pub returns-clause-asked : goal.returns-clause-asked
returns-clause-asked c = line_asked

pub returns-clause-settling : goal.returns-clause-settling
returns-clause-settling c = settling_in_range

pub returns-clause-lawful : goal.returns-clause-lawful
returns-clause-lawful c = read_lawful
