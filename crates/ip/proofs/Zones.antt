-- Laws of the zone identifier, by what stands after the first percent sign, and the theorem `zones`.
use Rattle.std.specs.Prelude.{None}
use Prim.Native.Nat.{ℕ, ◌≤◌, ◌<◌}
use Prim.Native.Char.{code}
use mathlib.Core.Path.{◌≡◌, sym, ap, ◌∙◌}
use mathlib.Core.List.{List, [], ◌∷◌, ◌++◌}
use mathlib.Core.Bool.{true}
use native.Mathlib.Omega.{arith}
use lib.ListN.{length}
use borrow.Author.Tests.{le-leb, lt-leb}
use Rattle.octets.specs.Lists.{contains}
use Rattle.numeral.specs.Numeral.{digit_value}
use Rattle.octets.specs.Split.{before, after}
use Rattle.octets.proofs.Cuts.{cut-known, after_nowhere, contains-known}
use Rattle.ipv4.specs.Ipv4.{ipv4}
use Rattle.ipv6.specs.Ipv6.{ipv6}
use Rattle.ip.specs.Ip.{without_zone, address_of}
use Rattle.ip.specs.Zones.{Zones}
use Rattle.ip.proofs.Answers.{address-six}
use Rattle.ipv4.proofs.Foreign.{ipv4-not}
use Rattle.ipv6.proofs.Foreign.{ipv6-not}

module _ (s zone : List ℕ) (is : zone ≡ after (code "%") s) where
  pub zone_dropped : 1 ≤ length zone → before (code "%") s ≡ without_zone s
  unfolding without_zone
  zone_dropped h = rw (← is, le-leb 1 (length zone) h)

  pub zone_missing : length zone < 1 → s ≡ without_zone s
  unfolding without_zone
  zone_missing h = rw (← is, lt-leb 1 (length zone) h)

-- no address has a percent sign

no-ipv4 : (s : List ℕ) → contains (code "%") s ≡ true → ipv4 s ≡ None
unfolding digit_value
no-ipv4 = ipv4-not (code "%") (omega arith) (λ e. omega arith)

no-ipv6 : (s : List ℕ) → contains (code "%") s ≡ true → ipv6 s ≡ None
unfolding digit_value
no-ipv6 = ipv6-not (code "%") (omega arith) (λ e. omega arith) (omega arith) (λ e. omega arith)

pub zones : Zones
unfolding address_of
zones =
    record {
      ignored = λ a zone h k.
          let s : List ℕ = a ++ (code "%" ∷ zone) in
          let (front, rest) = cut-known (code "%") a zone h in
          address-six s (no-ipv4 s (contains-known (code "%") a zone)) ∙ ap ipv6 (sym (zone_dropped s zone (sym rest) k) ∙ front);
      unfollowed = λ a h.
          let s : List ℕ = a ++ (code "%" ∷ []) in
          let has = contains-known (code "%") a [] in
          let stays = zone_missing s [] (sym (cut-known (code "%") a [] h).1) (omega arith) in
          address-six s (no-ipv4 s has) ∙ ap ipv6 (sym stays) ∙ no-ipv6 s has;
      unzoned = λ a h. rw (sym (zone_missing a [] (sym (after_nowhere (code "%") a h)) (omega arith)));
    }
