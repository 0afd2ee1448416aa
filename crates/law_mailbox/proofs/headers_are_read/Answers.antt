use Rattle.law_mailbox.proofs.connection.Headers.{header_read, message_read}
use Rattle.law_mailbox.proofs.headers_are_read.Goals as goal

pub returns-clause-header : goal.returns-clause-header
returns-clause-header c = header_read

pub returns-clause-message : goal.returns-clause-message
returns-clause-message c = message_read
