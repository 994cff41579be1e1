-- An IPv6 address has sixteen bytes.
use Rattle.std.specs.Prelude.{Option, Some}
use Prim.Native.Nat.{ℕ, ◌+◌}
use Prim.Native.Char.{code}
use mathlib.Core.Path.{◌≡◌}
use mathlib.Core.List.{List}
use mathlib.Core.Bool.{Bool, true, false, cond}
use lib.Dec.{ltb}
use lib.ListN.{length, take, drop}
use Rattle.octets.specs.Split.{split}
use Rattle.ipv4.specs.Ipv4.{exactly}
use Rattle.ipv4.proofs.Wide.{exactly-wide}
use Rattle.elision.specs.Elision.{elided, elision}
use Rattle.elision.proofs.Sides.{elided-wide}
use Rattle.ipv6.specs.Ipv6.{groups, side, ipv6}

cond-wide : (b : Bool) (o p : Option (List ℕ)) (a : List ℕ) (n : ℕ) → (o ≡ Some a → length a ≡ n) → (p ≡ Some a → length a ≡ n)
    → cond b o p ≡ Some a → length a ≡ n
cond-wide true o p a n f g e = f e
cond-wide false o p a n f g e = g e

pub ipv6-wide : (s a : List ℕ) → ipv6 s ≡ Some a → length a ≡ 16
unfolding ipv6
ipv6-wide s a e =
    cond-wide (ltb (elision s) (length s)) (elided (side false (take (elision s) s)) (side true (drop (elision s + 2) s)))
    (exactly 16 (groups true (split (code ":") s))) a 16 (elided-wide _ _ a) (exactly-wide 16 _ a) e
