-- The record by its tag and key (Keys.antt).
use mathlib.Core.Path.{refl, ◌∙◌, ap}
use native.Mathlib.Omega.{arith}
use Rattle.merged.specs.Held.{parsed_from}
use Rattle.merged.proofs.Known.{known}
use Rattle.by_key.proofs.Keyed.{key-read}
use Rattle.changes.specs.Change.{keyed}
use Rattle.records.specs.Record.{Record, follows}
use Rattle.by_key.proofs.Keys.{keyed-is, follows-left}
use Rattle.by_key.proofs.comes_before.Goals as goal

pub bounds-r-0 : goal.bounds-r-0
bounds-r-0 c = omega (arith, (known _ c.requires.0).long)

pub key_after-requires : goal.key_after-requires
key_after-requires c =
    let k = key-read _ c.requires.0 _ _ refl c.key_of.ensures in
    (k, c.requires.1)

pub returns : goal.returns
returns c =
    let x = known _ c.requires.0 in
    c.key_after.ensures ∙ ap (λ (q : Record). follows q (keyed c.args.tag c.args.key.now)) (keyed-is _ _ _ _ x.tag_is c.key_of.ensures) ∙ follows-left (parsed_from c.args.r.now) (keyed c.args.tag c.args.key.now)
