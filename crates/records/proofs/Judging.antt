-- A record judged after some records and after others: it is read as the same record, and what is good after others is good alone.
use mathlib.Core.Path.{◌≡◌, refl}
use mathlib.Core.Bool.{Bool, true, false, cond}
use mathlib.Core.List.{List, []}
use Prim.Native.Nat.{ℕ}
use borrow.Author.Tests.{le-leb}
use Rattle.registry.specs.Tags.{is_known}
use Rattle.records.specs.Record.{Record, whole, record_of, good_contents}
use Rattle.records.specs.Judge.{bad, good, judge, judge_alone, in_order, crosses_any}
use Rattle.records.proofs.Accepted.{Accepted, alone-good, overlap_good}

accepted : (earlier : List Record) (tag : ℕ) (contents : List ℕ) (r : Record) → judge earlier tag contents ≡ good r → Accepted earlier tag contents r
accepted earlier tag contents r e = alone-good earlier tag contents r (overlap_good earlier (judge_alone earlier tag contents) r e).0

-- a record without defects 3 to 5: only its order and its overlap are left to judge
pub judged-read : (tag : ℕ) (contents : List ℕ) (q : Record) → is_known tag ≡ true → record_of tag contents ≡ whole q → good_contents q ≡ true
    → (earlier : List Record) → judge earlier tag contents ≡ cond (in_order earlier q) (cond (crosses_any earlier q) (bad 7) (good q)) (bad 6)
unfolding judge_alone
judged-read tag contents q k p g earlier = by_order (in_order earlier q) refl
  where
    by_order : (t : Bool) → in_order earlier q ≡ t → judge earlier tag contents ≡ cond t (cond (crosses_any earlier q) (bad 7) (good q)) (bad 6)
    by_order true x = rw (k, p, g, x)
    by_order false x = rw (k, p, g, x)

module _ (before : List Record) (tag : ℕ) (contents : List ℕ) (q : Record) (g : judge before tag contents ≡ good q) where
  -- after any other records
  pub judged-after : (earlier : List Record) → judge earlier tag contents ≡ cond (in_order earlier q) (cond (crosses_any earlier q) (bad 7) (good q)) (bad 6)
  judged-after =
      let a = accepted before tag contents q g in
      judged-read tag contents q (rw (le-leb 0x10 tag a.low, le-leb tag 0x15 a.high)) a.parsed a.good-contents

  pub judged-alone : judge [] tag contents ≡ good q
  unfolding in_order crosses_any
  judged-alone = judged-after []

  pub judged-same : (earlier : List Record) (r : Record) → judge earlier tag contents ≡ good r → q ≡ r
  judged-same earlier r e =
      let x : record_of tag contents ≡ whole q = (accepted before tag contents q g).parsed in
      let y : record_of tag contents ≡ whole r = (accepted earlier tag contents r e).parsed in
      cc
