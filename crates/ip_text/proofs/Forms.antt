-- Which text an address has, by what its groups show.
use Prim.Native.Nat.{ℕ, ◌+◌, ◌-◌, ◌≤◌, ◌<◌}
use mathlib.Core.Path.{◌≡◌, sym, ap, ◌∙◌}
use mathlib.Core.List.{List, ◌++◌}
use native.Mathlib.Omega.{arith}
use lib.Dec.{eqb}
use lib.ListN.{length, get_or, take, drop, length-take, length-drop}
use borrow.Author.Tests.{le-leb, lt-leb, eq-eqb, ne_eqb}
use Rattle.octets.specs.Ascii.{ascii}
use Rattle.octets.proofs.Pieces.{rest-is}
use Rattle.octets.proofs.Connectives.{and-false}
use Rattle.ip_groups.specs.Groups.{groups_of, zeros_first, longest_run}
use Rattle.ip_text.specs.Text.{dotted, colons, shortened, is_mapped, ipv6_text}
use Rattle.ip_groups.specs.Runs.{LongestRun, RunsOf}
use Rattle.ip_groups.proofs.Runs.{beside-run}

-- groups with their longest run, and its place
module _ {gs : List ℕ} {longest at : ℕ} (run : LongestRun gs longest at) where
  sides : length (take at gs) + (longest + length (drop (at + longest) gs)) ≡ length gs
  sides = rw (run.found_at, run.most) (beside-run gs)

  pub run_inside : 2 ≤ longest → at + longest ≤ length gs
  run_inside h = omega (arith, sides, length-take at gs, length-drop (at + longest) gs)

  pub plain_form : longest < 2 → colons gs ≡ shortened gs
  unfolding shortened
  plain_form h = let l : longest_run gs < 2 = omega (arith, run.most) in rw (lt-leb 2 (longest_run gs) l)

  pub short_form : 2 ≤ longest
      → colons (take at gs) ++ (ascii "::" ++ colons (take (length gs - (at + longest)) (drop (at + longest) gs))) ≡ shortened gs
  unfolding shortened
  short_form h =
      let l : 2 ≤ longest_run gs = omega (arith, run.most) in
      rw (rest-is gs (at + longest), run.found_at, run.most, le-leb 2 (longest_run gs) l)

-- an address of sixteen bytes, by its groups
module _ (a : List ℕ) {groups : List ℕ} {first longest at : ℕ} (is : groups ≡ groups_of a) (runs : RunsOf groups first longest at) where
  zeros-is : zeros_first (groups_of a) ≡ first
  zeros-is = sym (runs.front ∙ ap zeros_first is)

  sixth_is : get_or (groups_of a) 5 0 ≡ get_or groups 5 0
  sixth_is = ap (λ (l : List ℕ). get_or l 5 0) (sym is)

  pub mapped_form : {octets : List ℕ} → first ≡ 5 → get_or groups 5 0 ≡ 65535 → octets ≡ take (length a - 12) (drop 12 a) → ascii "::ffff:" ++ dotted octets ≡ ipv6_text a
  unfolding ipv6_text is_mapped
  mapped_form p q e =
      ap (λ (o : List ℕ). ascii "::ffff:" ++ dotted o) (e ∙ rest-is a 12)
      ∙ rw (eq-eqb (zeros_first (groups_of a)) 5 (zeros-is ∙ p), eq-eqb (get_or (groups_of a) 5 0) 65535 (sixth_is ∙ q))

  pub other-zeros : (first ≡ 5 → ⊥) → shortened groups ≡ ipv6_text a
  unfolding ipv6_text is_mapped
  other-zeros f = ap shortened is ∙ rw (ne_eqb (zeros_first (groups_of a)) 5 (λ q. f (sym zeros-is ∙ q)))

  pub other-group : (get_or groups 5 0 ≡ 65535 → ⊥) → shortened groups ≡ ipv6_text a
  unfolding ipv6_text is_mapped
  other-group f =
      ap shortened is ∙ rw (ne_eqb (get_or (groups_of a) 5 0) 65535 (λ q. f (sym sixth_is ∙ q)), and-false (eqb (zeros_first (groups_of a)) 5))
