use Rattle.nw_ed25519.proofs.comb.+push_down.Given as goal

abbrev pub decreases-push_down : goal.decreases-push_down
decreases-push_down l = l.count
