-- Serves contracts and proofs. What the functions that apply changes answer.
use Rattle.std.specs.Prelude.{◌≡◌, Bool, true, cond, ℕ, ◌+◌, ◌-◌, ◌*◌, ◌≤◌, ◌<◌, length, drop, Option, Some, None, Result, Ok, Err}
use Rattle.changes.specs.Change.{Change, Changed, applied, done, refused_at, later, changes_from, changes_of}
use Rattle.merged.specs.declared.Records.{Records}
use Rattle.merged.specs.Listed.{listed, MergedIn, SameFiles}

-- one change applied to the records, which are n afterwards; or it cannot be applied
pub record Step (change : Change) (before after : Records) (n : ℕ) (ok : Bool) : Type 0 where
  pub is : applied change (listed before) ≡ cond ok (Some (listed after)) None
  pub count : ok ≡ true → after.count ≡ n
  pub merged : MergedIn after
  pub files : SameFiles before after

-- the changes from a position of the file on
abbrev pub changed_from : Records → ℕ → Changed
changed_from m at = changes_from (length m.changes.now) (listed m) (drop at m.changes.now)

-- the change at a position, applied, ends at another: an addition takes at least 12 bytes
pub record Passed (at end : ℕ) (before after : Records) : Type 0 where
  pub forward : at < end
  pub within : end ≤ length before.changes.now
  pub rest : changed_from before at ≡ later (end - at) (changed_from after end)
  pub few : 12 * after.count + at ≤ 12 * before.count + end
  pub files : SameFiles before after

abbrev pub AppliedAt : ℕ → Records → Records → Option ℕ → Type 0
AppliedAt at before after (Some end) = Passed at end before after
AppliedAt at before after None = (changed_from before at ≡ refused_at 0) × SameFiles before after

-- all changes of the file
abbrev pub AppliedTo : Records → Records → Result Unit ℕ → Type 0
AppliedTo before after (Ok _) = (changes_of (listed before) before.changes.now ≡ done (listed after)) × SameFiles before after
AppliedTo before after (Err offset) = (changes_of (listed before) before.changes.now ≡ refused_at offset) × (offset ≤ length before.changes.now) × SameFiles before after
