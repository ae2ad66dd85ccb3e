use Rattle.tera_scalars.proofs.operation.+power.Given as goal

abbrev pub decreases-power : goal.decreases-power
decreases-power l = l.count
