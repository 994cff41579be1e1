-- What stands at the rank (Ranks.antt).
use mathlib.Core.Path.{◌∙◌, ap}
use mathlib.Core.List.{List}
use Prim.Native.Nat.{ℕ}
use Rattle.records.specs.Record.{follows}
use Rattle.changes.specs.Change.{keyed}
use Rattle.merged.specs.Held.{parsed_from}
use Rattle.by_key.proofs.Ranks.{there-none, there-here}
use Rattle.by_key.proofs.is_there.Goals as goal

pub returns-then-records-at : goal.returns-then-records-at
returns-then-records-at c =
    there-none c.requires.0 _ _ c.requires.2 c.if-records-at.true

pub returns : goal.returns
returns c =
    there-here c.requires.0 _ _ c.requires.2 c.if-records-at.false _
    (c.comes_after.ensures ∙ ap (λ (x : List ℕ). follows (keyed c.args.tag c.args.key.now) (parsed_from x)) c.record.ensures.is)
