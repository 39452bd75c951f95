-- What an account reports of a span (our choice).
use Rattle.std.specs.Prelude.{List}
use Rattle.apparmor_rules.specs.declared.what.What.{What}
use Rattle.apparmor_rules.specs.declared.effect.Effect.{Effect}

-- the constructs in it, and the effect of not keeping them as they were
pub record ToldValue : Type 0 where
  pub whats : List What
  pub effect : Effect
