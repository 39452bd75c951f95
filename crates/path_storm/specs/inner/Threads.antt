-- What the threads of a storm did: these sessions, and as many changes of either kind.
use Rattle.std.specs.Prelude.{◌≡◌, ℕ}
use Rattle.path_storm.specs.Logs.{AreOpened, IsTreeLog, IsPolicyLog}
use Rattle.path_storm.specs.declared.log.StormLog.{StormLog}
use Rattle.path_storm.specs.declared.worker.Opens.{Opens}

pub record IsOfThreads (sessions : ℕ) (opens : Opens) (changes : ℕ) (log : StormLog) : Type 0 where
  pub ask : log.ask ≡ opens.ask
  pub opened : AreOpened opens.ask sessions opens.times log.sessions
  pub tree : IsTreeLog changes log.tree
  pub policy : IsPolicyLog changes log.policy
