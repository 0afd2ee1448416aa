use Rattle.std.proofs.Common.{refl}
use Rattle.std.specs.Fmt.{digits}
use Rattle.script_lang.proofs.print.status_text.Goals as goal

pub returns-in-Success : goal.returns-in-Success
unfolding digits
returns-in-Success c = rw c.in-Success.is refl

pub returns-in-LocalLength : goal.returns-in-LocalLength
unfolding digits
returns-in-LocalLength c = rw c.in-LocalLength.is refl

pub returns-in-Flush : goal.returns-in-Flush
unfolding digits
returns-in-Flush c = rw c.in-Flush.is refl

pub returns-in-RemoteInvalid : goal.returns-in-RemoteInvalid
unfolding digits
returns-in-RemoteInvalid c = rw c.in-RemoteInvalid.is refl

pub returns-in-RemoteAccess : goal.returns-in-RemoteAccess
unfolding digits
returns-in-RemoteAccess c = rw c.in-RemoteAccess.is refl

pub returns-in-RetryExceeded : goal.returns-in-RetryExceeded
unfolding digits
returns-in-RetryExceeded c = rw c.in-RetryExceeded.is refl

pub returns-in-RnrExceeded : goal.returns-in-RnrExceeded
unfolding digits
returns-in-RnrExceeded c = rw c.in-RnrExceeded.is refl
