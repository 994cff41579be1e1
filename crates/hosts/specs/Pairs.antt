-- Serves contracts and proofs. Which byte may follow which in a host name.
use Rattle.std.specs.Prelude.{Bool, ◌&&◌, ◌||◌, not, List, ℕ, suc, eqb, get_or}
use Prim.Native.Char.{code}
use Rattle.hosts.specs.HostScan.{letter_or_digit}

-- y may follow x in a host name: no hyphen at a label's ends, no empty label
unfoldable pub may_follow : ℕ → ℕ → Bool
may_follow x y =
    letter_or_digit y
    || (eqb y (code "-") && not (eqb x (code ".")))
    || (eqb y (code ".") && not (eqb x (code ".")) && not (eqb x (code "-")))

unfoldable pub follow_at : List ℕ → ℕ → Bool
follow_at s i = may_follow (get_or s i 0) (get_or s (suc i) 0)
