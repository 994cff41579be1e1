-- Opens the definitions of this crate, for theorems that hold by computing: `unfolding computing`.
use Rattle.ip_groups.specs.Groups.{groups_of, zeros_first, longest_run, run_at}

unfoldable pub computing : Unit {0}
unfolding groups_of zeros_first longest_run run_at
computing = tt
