-- The record at the rank of the key taken out (Applying.antt).
use mathlib.Core.Path.{◌≡◌, refl, sym, ◌∙◌, ap, subst}
use mathlib.Core.Bool.{false≢true, not}
use mathlib.Core.List.{List}
use Prim.Native.Nat.{ℕ, ◌+◌, ◌-◌}
use native.Mathlib.Omega.{arith}
use lib.ListN.{get_or, take, drop}
use lib.Seq.{slice}
use Rattle.std.specs.Prelude.{Option}
use Rattle.fields.specs.Slices.{part_slice}
use Rattle.rows.specs.Entry.{Entry}
use Rattle.changes.specs.Change as Changes
use Rattle.changes.specs.Change.{keyed, applied}
use Rattle.by_key.specs.Key.{Key}
use Rattle.applying.proofs.Applying.{remove_absent, remove-start, remove-here, remove_held, relisted, remerged}
use Rattle.applying.proofs.remove.Goals as goal
use Rattle.applying.proofs.remove.Goals.{Start}

-- the part that is read is the key
read : (a : Start) → take (a.args.end - (a.args.start + 1)) (drop (a.args.start + 1) a.args.records.now.changes.now) ≡ slice (a.args.start + 1) a.args.end a.args.records.now.changes.now
read a = part_slice (a.args.start + 1) a.args.end a.args.records.now.changes.now (omega (arith, a.requires.1))

key : (a : Start) → Key (get_or a.args.records.now.changes.now a.args.start 0) (take (a.args.end - (a.args.start + 1)) (drop (a.args.start + 1) a.args.records.now.changes.now))
key a = subst (Key (get_or a.args.records.now.changes.now a.args.start 0)) (sym (read a)) a.requires.3

same : (a : Start) (rows : List Entry) (x : Option (List Entry)) → let s = a.args.records.now.changes.now in
    applied (Changes.remove (keyed (get_or s a.args.start 0) (take (a.args.end - (a.args.start + 1)) (drop (a.args.start + 1) s)))) rows ≡ x →
    applied (Changes.remove (keyed (get_or s a.args.start 0) (slice (a.args.start + 1) a.args.end s))) rows ≡ x
same a rows x e = ap (λ (s : List ℕ). applied (Changes.remove (keyed (get_or a.args.records.now.changes.now a.args.start 0) s)) rows) (sym (read a)) ∙ e

pub rank-at-requires : goal.rank-at-requires
rank-at-requires c = (c.requires.0, key (goal.at.rank-at-requires c).Start)

pub is_there-requires : goal.is_there-requires
is_there-requires c = (c.requires.0, key (goal.at.is_there-requires c).Start, c.rank-at.ensures)

pub returns-then-not-is_there : goal.returns-then-not-is_there
returns-then-not-is_there c =
    record {
      is = same (goal.at.returns-then-not-is_there c).Start _ _ (remove_absent c.requires.0 _ _ c.is_there.ensures (ap not c.if-not-is_there.true));
      count = λ z. absurd (false≢true z);
      merged = c.requires.0;
      files = record { image = refl; changes = refl };
    }

pub remove-requires : goal.remove-requires
remove-requires c =
    remove-start c.requires.0 _ _ c.is_there.ensures (ap not c.if-not-is_there.false) _ c.rank-at.ensures

pub returns : goal.returns
returns c =
    let w = c.remove.ensures in
    record {
      is = same (goal.at.returns c).Start _ _ (remove-here c.requires.0 _ _ c.is_there.ensures (ap not c.if-not-is_there.false) _ c.rank-at.ensures) ∙ relisted _ _ w.same _ w.starts;
      count = λ _. w.count;
      merged = remerged _ _ w.same w.full _ w.starts (remove_held c.requires.0 _ _ c.is_there.ensures (ap not c.if-not-is_there.false) _ c.rank-at.ensures);
      files = w.same;
    }
