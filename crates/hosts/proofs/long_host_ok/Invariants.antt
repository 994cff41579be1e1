-- `long_host_ok`: the labels from the present byte on, after the label so far, are those of the whole text.
use mathlib.Core.Path.{◌≡◌}
use mathlib.Core.Bool.{false}
use Prim.Native.Nat.{◌≤◌}
use lib.ListN.{drop}
use Rattle.hosts.specs.HostScan.{labels_from}
use Rattle.hosts.proofs.long_host_ok.Given as goal

abbrev pub invariant-loop-b : goal.invariant-loop-b
invariant-loop-b l = (l.label ≤ l.b-index) × (labels_from l.label l.hyphen (drop l.b-index l.s) ≡ labels_from 0 false l.s)
