use Rattle.context_dump.proofs.Pieces.{kept_stands, whole_ok}
use Rattle.context_dump.proofs.reader.read_on.Goals as goal

pub returns-clause-way : goal.returns-clause-way
returns-clause-way c = kept_stands c.if_it_may_go_on.result c.go_on-read.new.self c.args.bytes.now c.go_on-read.result c.if_it_may_go_on.ensures c.go_on-read.ensures.whole c.go_on-read.ensures.stands

pub returns-clause-whole : goal.returns-clause-whole
returns-clause-whole c = whole_ok c.go_on-read.new.self c.args.bytes.now c.go_on-read.result c.go_on-read.ensures.whole
