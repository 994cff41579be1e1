-- Reason 8 exactly: the replies tell the answers (Forest.antt), and these are empty exactly if no block covers (Found.antt of the crate forest).
use Prim.Native.Nat.{ℕ}
use mathlib.Core.List.{List}
use mathlib.Core.Logic.Iff
use mathlib.Core.Logic.{◌↔◌}
use mathlib.Core.Path.{◌≡◌}
use lib.Dec.{T}
use Rattle.registry.specs.Tags.{is_block}
use Rattle.octets.specs.Lists.{◌∈◌}
use Rattle.address.specs.Ranges.{strictly_covers}
use Rattle.records.specs.Record.{Record}
use Rattle.image.specs.Image.{sound, image_of}
use Rattle.forest.specs.Blocks.{Block, blocks_of}
use Rattle.forest.specs.Found.{NoBlock, Found}
use Rattle.forest.proofs.Families.{family-accepted}
use Rattle.forest.proofs.Found as Blocks
use Rattle.relations.specs.Finding.{found_in}
use Rattle.registry.specs.declared.Relation.TheVariants.{Up, Top}
use Rattle.calls.specs.Calls.{relation_of}
use Rattle.image_theorems.specs.Found.{ImageFound}
use Rattle.image_theorems.proofs.Forest.{forest}

module _ (image : List ℕ) (records : List Record) (e : image_of image ≡ sound records) where
  families : (family : ℕ) → T (is_block family) → Found (blocks_of family records)
  families family known = Blocks.found (blocks_of family records) (family-accepted family known image records e)

  module _ (family : ℕ) (b : Block) (room : ℕ) (known : T (is_block family)) (m : b ∈ blocks_of family records) where
    third-up-missing : ((relation_of image b.number Up room).reason ≡ 8) ↔ NoBlock (λ r. strictly_covers r b.range) (blocks_of family records)
    third-up-missing =
        Iff.trans ((forest image records e).next-answer Up b.number room).ends
        (rw (((forest image records e).families family known).by_number b m).0 ((families family known).up_none b.range))

    third-top-missing : ((relation_of image b.number Top room).reason ≡ 8) ↔ NoBlock (λ r. strictly_covers r b.range) (blocks_of family records)
    third-top-missing =
        Iff.trans ((forest image records e).next-answer Top b.number room).ends
        (rw (((forest image records e).families family known).by_number b m).2 ((families family known).top-none b.range))

-- What is found, and 404 exactly, for every accepted image.
pub found : (image : List ℕ) (records : List Record) → image_of image ≡ sound records → ImageFound image records
unfolding found_in
found image records e =
    record {
      families = families image records e;
      lookup-missing = λ path kind target room p.
          let a = (forest image records e).lookup-answer path kind target room p in
          Iff.trans a.tells.ends ((families image records e target.family a.family).lookup-none target.range);
      up-missing = λ path target room p.
          let a = (forest image records e).first-answer path Up target room p in
          Iff.trans a.tells.ends ((families image records e target.family a.family).up_none target.range);
      top-missing = λ path target room p.
          let a = (forest image records e).first-answer path Top target room p in
          Iff.trans a.tells.ends ((families image records e target.family a.family).top-none target.range);
      third-up-missing = third-up-missing image records e;
      third-top-missing = third-top-missing image records e;
    }
