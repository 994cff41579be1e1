-- The answers for blocks in the words of S10.3, and reason 8 (404) exactly (S10.4), for every accepted image. Proved in proofs/Found.antt.
use Rattle.std.specs.Prelude.{ℕ, List, ◌↔◌, ◌≡◌, T}
use Rattle.registry.specs.Tags.{is_block}
use Rattle.octets.specs.Lists.{◌∈◌}
use Rattle.address.specs.Ranges.{covers, strictly_covers}
use Rattle.records.specs.Record.{Record}
use Rattle.forest.specs.Blocks.{Block, blocks_of}
use Rattle.forest.specs.Found.{NoBlock, Found}
use Rattle.registry.specs.declared.Relation.TheVariants.{Up, Top}
use Rattle.kinds.specs.declared.Kind.{Kind}
use Rattle.segment.specs.Target.{Target}
use Rattle.query.specs.Query.{block_lookup, block_relation}
use Rattle.calls.specs.Calls.{answer_of, relation_of}
use Rattle.image_theorems.specs.Forest.{PathAsks}

pub record ImageFound (image : List ℕ) (records : List Record) : Type 0 where
  -- Lookup, up, top, down and bottom of every family and every range.
  pub families : (family : ℕ) → T (is_block family) → Found (blocks_of family records)
  -- A path that asks a lookup is answered by reason 8 exactly if no block of the family covers the range.
  pub lookup-missing :
      (path : List ℕ) (kind : Kind) (target : Target) (room : ℕ) → PathAsks path (block_lookup kind target)
      → ((answer_of path image room).reason ≡ 8) ↔ NoBlock (λ r. covers r target.range) (blocks_of target.family records)
  -- A path that asks up or top, exactly if no block of the family strictly covers the range.
  pub up-missing :
      (path : List ℕ) (target : Target) (room : ℕ) → PathAsks path (block_relation Up target)
      → ((answer_of path image room).reason ≡ 8) ↔ NoBlock (λ r. strictly_covers r target.range) (blocks_of target.family records)
  pub top-missing :
      (path : List ℕ) (target : Target) (room : ℕ) → PathAsks path (block_relation Top target)
      → ((answer_of path image room).reason ≡ 8) ↔ NoBlock (λ r. strictly_covers r target.range) (blocks_of target.family records)
  -- The third call, for the record number of a block: exactly if no block strictly covers that block's range.
  pub third-up-missing :
      (family : ℕ) (b : Block) (room : ℕ) → T (is_block family) → b ∈ blocks_of family records
      → ((relation_of image b.number Up room).reason ≡ 8) ↔ NoBlock (λ r. strictly_covers r b.range) (blocks_of family records)
  pub third-top-missing :
      (family : ℕ) (b : Block) (room : ℕ) → T (is_block family) → b ∈ blocks_of family records
      → ((relation_of image b.number Top room).reason ≡ 8) ↔ NoBlock (λ r. strictly_covers r b.range) (blocks_of family records)
