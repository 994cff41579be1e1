-- The record by its start in the change file, put where its rank is (Applying.antt).
use mathlib.Core.Path.{◌≡◌, refl, sym, ◌∙◌, ap, subst}
use mathlib.Core.Bool.{false≢true}
use mathlib.Core.List.{List}
use Prim.Native.Nat.{ℕ, ◌+◌, ◌-◌}
use native.Mathlib.Omega.{arith}
use lib.ListN.{take, drop}
use lib.Seq.{slice}
use Rattle.std.specs.Prelude.{Option}
use Rattle.registry.specs.Limits.{most_image}
use Rattle.fields.specs.Slices.{part_slice}
use Rattle.rows.specs.Entry.{Entry}
use Rattle.changes.specs.Change as Changes
use Rattle.changes.specs.Change.{applied}
use Rattle.merged.specs.Held.{bytes_at, entry_of, Recorded}
use Rattle.merged.proofs.Known.{known}
use Rattle.by_key.proofs.Keyed.{key-read}
use Rattle.applying.proofs.Applying.{record_start, add-there, add-here, add_held, add_start, relisted, remerged}
use Rattle.applying.proofs.add.Goals as goal
use Rattle.applying.proofs.add.Goals.{Start}

-- the part that is read is the record
read : (a : Start) → take (a.args.end - a.args.start) (drop a.args.start a.args.records.now.changes.now) ≡ slice a.args.start a.args.end a.args.records.now.changes.now
read a = part_slice a.args.start a.args.end a.args.records.now.changes.now a.requires.2

whole : (a : Start) → Recorded (take (a.args.end - a.args.start) (drop a.args.start a.args.records.now.changes.now))
whole a = subst Recorded (sym (read a)) a.requires.5

same : (a : Start) (rows : List Entry) (x : Option (List Entry)) →
    applied (Changes.add (entry_of (take (a.args.end - a.args.start) (drop a.args.start a.args.records.now.changes.now)))) rows ≡ x →
    applied (Changes.add (entry_of (slice a.args.start a.args.end a.args.records.now.changes.now))) rows ≡ x
same a rows x e = ap (λ (s : List ℕ). applied (Changes.add (entry_of s)) rows) (sym (read a)) ∙ e

-- it stands at its start
stands : (a : Start) → let m = a.args.records.now in
    bytes_at m.image.now m.changes.now (most_image + a.args.start) ≡ take (a.args.end - a.args.start) (drop a.args.start m.changes.now)
stands a =
    record_start a.args.records.now.image.now a.args.records.now.changes.now a.args.start a.args.end a.requires.2 a.requires.3 a.requires.5 ∙ sym (read a)

pub bounds-r-0 : goal.bounds-r-0
bounds-r-0 c = omega (arith, (known _ (whole (goal.at.bounds-r-0 c).Start)).long)

pub key_of-key-requires : goal.key_of-key-requires
key_of-key-requires c = whole (goal.at.key_of-key-requires c).Start

pub rank-at-requires : goal.rank-at-requires
rank-at-requires c = (c.requires.0, key-read _ (whole (goal.at.rank-at-requires c).Start) _ _ refl c.key_of-key.ensures)

pub is_there-requires : goal.is_there-requires
is_there-requires c = (c.requires.0, key-read _ (whole (goal.at.is_there-requires c).Start) _ _ refl c.key_of-key.ensures, c.rank-at.ensures)

pub returns-then-is_there : goal.returns-then-is_there
returns-then-is_there c =
    let a = (goal.at.returns-then-is_there c).Start in
    record {
      is = same a _ _ (add-there c.requires.0 _ (whole a) _ _ refl c.key_of-key.ensures _ c.is_there.ensures c.if-is_there.true);
      count = λ z. absurd (false≢true z);
      merged = c.requires.0;
      files = record { image = refl; changes = refl };
    }

pub insert-requires : goal.insert-requires
insert-requires c =
    let a = (goal.at.insert-requires c).Start in
    let m = c.requires.0 in (
      c.requires.1,
      add_start m _ (whole a) _ _ refl c.key_of-key.ensures _ c.rank-at.ensures,
    )

pub returns : goal.returns
returns c =
    let a = (goal.at.returns c).Start in
    let m = c.requires.0 in
    let w = c.insert.ensures in
    record {
      is = same a _ _ (add-here m _ (whole a) _ _ refl c.key_of-key.ensures _ c.is_there.ensures c.if-is_there.false _ c.rank-at.ensures _ (stands a)) ∙ relisted _ _ w.same _ w.starts;
      count = λ _. w.count;
      merged = remerged _ _ w.same w.full _ w.starts (add_held m _ (whole a) _ _ refl c.key_of-key.ensures _ c.is_there.ensures c.if-is_there.false _ c.rank-at.ensures _ (stands a));
      files = w.same;
    }
