use Rattle.std.proofs.Common.{◌≤◌, ℕ, arith, codes, refl, subst}
use Rattle.clap.specs.Words.{found_of}
use Rattle.trace_arguments.specs.CommandLine.{compile_command, depth}
use Rattle.trace_arguments.proofs.Asked.{flag_asked, flag_said, number_asked, number_is, number_said}
use Rattle.trace_arguments.proofs.lines.compile_in.Goals as goal

pub number_in-requires : goal.number_in-requires
number_in-requires c = number_asked compile_command (found_of c.args.found.now) c.requires depth refl

pub flag_in-requires : goal.flag_in-requires
flag_in-requires c = flag_asked compile_command (found_of c.args.found.now) c.requires (codes "verbose") refl

pub overflow_cast-result : goal.overflow_cast-result
overflow_cast-result c =
    let found = found_of c.args.found.now in
    let given = c.requires.0 in
    let is = c.requires.1 in
    let low : c.number_in.result ≤ 64 = subst (λ (n : ℕ). n ≤ 64)
    (number_said compile_command found given is depth c.number_in.result refl c.number_in.ensures)
    (number_is compile_command found given is depth refl).1 in
    omega (arith, low)

pub returns : goal.returns
returns c = λ given is.
    let found = found_of c.args.found.now in
    rw (
      number_said compile_command found given is depth c.number_in.result refl c.number_in.ensures,
      flag_said compile_command found given is (codes "verbose") c.flag_in.result refl c.flag_in.ensures,
    ) refl
