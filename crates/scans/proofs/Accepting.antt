-- What a verdict of soundness tells of the blocks of a family: they are accepted.
use Prim.Native.Nat.{ℕ}
use mathlib.Core.Bool.{true}
use mathlib.Core.Path.{◌≡◌}
use mathlib.Core.List.{List}
use lib.Dec.{T}
use Rattle.registry.specs.Tags.{is_block}
use Rattle.image.specs.Image.{image_of}
use Rattle.image.specs.Part.{records_of}
use Rattle.image.specs.Checking.{verdict_of}
use Rattle.std.specs.Prelude.{Ok}
use Rattle.image.proofs.Soundness.{is-sound}
use Rattle.forest.specs.Defects.{accepted}
use Rattle.forest.proofs.Families.{family-accepted}
use Rattle.scans.specs.Standing.{blocks_in}

pub blocks-accepted :
    (s : List ℕ) (count : ℕ) → verdict_of (image_of s) ≡ Ok count → (family : ℕ) → is_block family ≡ true → T (accepted (blocks_in s family))
unfolding blocks_in
blocks-accepted s count e family b = family-accepted family (rw b tt) s (records_of (image_of s)) (is-sound (image_of s) count e)
