-- What owns nothing may go to any thread.
use denote.Param.Send.{IsSend, owning_send, sendable}
use Rattle.profile_registry.specs.contracts.refusals.Refusals.{the_row, the_type}

pub send : IsSend the_row
send = owning_send the_type (search sendable, tt) (λ d. tt) (λ k x w. tt)
