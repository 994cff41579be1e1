-- One step of the reading of a host name byte by byte.
use mathlib.Core.Path.{◌≡◌}
use mathlib.Core.Bool.{Bool, true, false, not, ◌&&◌}
use mathlib.Core.List.{List}
use Prim.Native.Nat.{ℕ, suc, ◌+◌, ◌≤◌, ◌<◌}
use Prim.Native.Char.{code}
use borrow.Author.Tests.{eq-eqb, ne_eqb, le-leb, lt-leb}
use lib.ListN.{length, get_or, drop, drop_of_length-le}
use lib.Seq.{drop-cons}
use Rattle.octets.specs.Lists.{within}
use Rattle.texts.specs.Texts.{good_host}
use Rattle.hosts.specs.HostScan.{letter_or_digit, labels_from}
use Rattle.hosts.proofs.HostScan.{host-scan}

-- what the byte at i makes of a label of k bytes, the last one a hyphen or not
module _ (k : ℕ) (hyphen : Bool) (s : List ℕ) (i : ℕ) where
  pub labels-end : length s ≤ i → labels_from k hyphen (drop i s) ≡ (within 1 63 k && not hyphen)
  unfolding labels_from
  labels-end h = rw (drop_of_length-le s h)

  module _ (l : i < length s) where
    module _ (e : get_or s i 0 ≡ code ".") where
      pub dot-bad : (within 1 63 k && not hyphen) ≡ false → labels_from k hyphen (drop i s) ≡ false
      unfolding labels_from
      dot-bad p = rw (drop-cons s i 0, eq-eqb _ _ e, p)

      pub dot-go : (within 1 63 k && not hyphen) ≡ true → labels_from k hyphen (drop i s) ≡ labels_from 0 false (drop (suc i) s)
      unfolding labels_from
      dot-go p = rw (drop-cons s i 0, eq-eqb _ _ e, p)

    module _ (n : get_or s i 0 ≡ code "." → ⊥) where
      module _ (e : get_or s i 0 ≡ code "-") where
        pub hyphen-first : k < 1 → labels_from k hyphen (drop i s) ≡ false
        unfolding labels_from
        hyphen-first p = rw (drop-cons s i 0, ne_eqb _ _ n, eq-eqb _ _ e, lt-leb 1 k p)

        pub hyphen-go : 1 ≤ k → labels_from k hyphen (drop i s) ≡ labels_from (k + 1) true (drop (suc i) s)
        unfolding labels_from
        hyphen-go p = rw (drop-cons s i 0, ne_eqb _ _ n, eq-eqb _ _ e, le-leb 1 k p)

      module _ (m : get_or s i 0 ≡ code "-" → ⊥) where
        pub other-bad : letter_or_digit (get_or s i 0) ≡ false → labels_from k hyphen (drop i s) ≡ false
        unfolding labels_from
        other-bad p = rw (drop-cons s i 0, ne_eqb _ _ n, ne_eqb _ _ m, p)

        pub other-go : letter_or_digit (get_or s i 0) ≡ true → labels_from k hyphen (drop i s) ≡ labels_from (k + 1) false (drop (suc i) s)
        unfolding labels_from
        other-go p = rw (drop-cons s i 0, ne_eqb _ _ n, ne_eqb _ _ m, p)

module _ (s : List ℕ) where
  pub host-long : 253 < length s → false ≡ good_host s
  host-long h = rw (host-scan s, lt-leb (length s) 253 h)

  pub host-labels : length s ≤ 253 → labels_from 0 false s ≡ good_host s
  host-labels h = rw (host-scan s, le-leb (length s) 253 h)
