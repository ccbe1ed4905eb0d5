use Rattle.nw_ed25519.proofs.Combs.{power_fits, power_small}
use Rattle.nw_ed25519.proofs.comb.power_of_two.Goals as goal

pub returns-clause-value : goal.returns-clause-value
returns-clause-value c = power_fits c.args.exponent c.requires

pub returns-clause-small : goal.returns-clause-small
returns-clause-small c = power_small c.args.exponent _ c.requires (power_fits c.args.exponent c.requires)
