-- Serves contracts and proofs. What is known of every entry, of the image and of a change file: its bytes are one whole field, and it has no defect 3, 4 or 5.
use Rattle.std.specs.Prelude.{◌≡◌, List, [], ◌∷◌, ℕ}
use Rattle.fields.specs.Field.{field, head_of}
use Rattle.records.specs.Judge.{good, judge}
use Rattle.rows.specs.Entry.{Entry}

-- Defects from 6 on need an earlier record.
pub record GoodEntry (e : Entry) : Type 0 where
  pub tag : ℕ
  pub contents : List ℕ
  pub head : head_of e.bytes ≡ field tag contents []
  pub alone : judge [] tag contents ≡ good e.parsed

pub data AllGood : List Entry → Type 0 where
  good_nil : AllGood []
  good-cons : {e : Entry} {es : List Entry} → GoodEntry e → AllGood es → AllGood (e ∷ es)
