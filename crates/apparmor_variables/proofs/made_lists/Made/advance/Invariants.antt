use Rattle.apparmor_variables.proofs.made_lists.Made.advance.Given as goal

abbrev pub ghost-enter : goal.ghost-enter
ghost-enter g a = g.first
