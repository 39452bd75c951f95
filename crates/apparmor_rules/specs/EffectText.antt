-- An effect as it is printed: what changes for the chosen subject, or else for the other one.
use Rattle.std.specs.Prelude.{ℕ, List, codes}
use Rattle.apparmor_rules.specs.declared.effect.Extent.{Extent}
use Rattle.apparmor_rules.specs.declared.effect.Extent.TheVariants.{Exact, Wider, Narrower}
use Rattle.apparmor_rules.specs.declared.subject.Subject.{Subject}
use Rattle.apparmor_rules.specs.declared.subject.Subject.TheVariants.{Owner, Other}

-- by the chosen subject, what changes for it, and what changes for the other one
abbrev pub effect_text : Subject → Extent → Extent → List ℕ
effect_text chosen Wider on_other = codes "wider"
effect_text chosen Narrower on_other = codes "narrower"
effect_text chosen Exact Exact = codes "exact"
effect_text Owner Exact Wider = codes "wider for others"
effect_text Owner Exact Narrower = codes "narrower for others"
effect_text Other Exact Wider = codes "wider for owners"
effect_text Other Exact Narrower = codes "narrower for owners"
