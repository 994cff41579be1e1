-- The changes applied to a sound image, by the index of its records.
use mathlib.Core.Path.{◌≡◌, sym, ◌∙◌, ap}
use mathlib.Core.List.{List}
use Prim.Native.Nat.{ℕ, ◌≤◌, ◌<◌}
use native.Mathlib.Omega.{arith}
use borrow.Author.Tests.{le-leb, lt-leb}
use lib.ListN.{length, take}
use Rattle.std.specs.Prelude.{Result, Ok, Err}
use Rattle.image.specs.Image.{image_of}
use Rattle.image.specs.Part.{records_of}
use Rattle.image.specs.Index.{Indexed}
use Rattle.rows.specs.Entry.{Entry}
use Rattle.merged.specs.declared.Records.{Records}
use Rattle.merged.specs.Listed.{starts_in, listed, MergedIn, SameFiles}
use Rattle.merged.proofs.Started.{before-changes}
use Rattle.changes.specs.Limits.{most_changes}
use Rattle.changes.specs.Change.{refused_at, changes_of}
use Rattle.applying.specs.Steps.{AppliedTo}
use Rattle.final_list.specs.Final.{changed_in, ChangedTo}

-- the records that the image's index holds, changed
module _ {starts : List ℕ} (before after : Records) (x : Indexed before.image.now before.count starts) (e : starts_in before ≡ take before.count starts) (h : length before.changes.now ≤ most_changes) where
  changed-is : changed_in before.image.now before.changes.now (records_of (image_of before.image.now)) ≡ changes_of (listed before) before.changes.now
  changed-is =
      rw (le-leb (length before.changes.now) most_changes h)
      (ap (λ (es : List Entry). changes_of es before.changes.now) (sym (before-changes before.changes.now before.starts x e)))

  pub changed-to : (r : Result Unit ℕ) → AppliedTo before after r → MergedIn after → ChangedTo before.image.now before.changes.now after r
  changed-to (Ok _) a m = (changed-is ∙ a.0, m, h)
  changed-to (Err offset) a m = (changed-is ∙ a.0, omega (arith, a.1, h))

pub same-files : (before after : Records) (r : Result Unit ℕ) → AppliedTo before after r → SameFiles before after
same-files before after (Ok _) a = a.1
same-files before after (Err offset) a = a.2

pub changed-long : (image changes : List ℕ) → most_changes < length changes → changed_in image changes (records_of (image_of image)) ≡ refused_at 0
changed-long image changes h = rw (lt-leb (length changes) most_changes h)
