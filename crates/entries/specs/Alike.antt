-- Serves the type `SoundImage`. A fact that each value of a type keeps has one proof at most: this one has.
use Rattle.std.specs.Prelude.{List, ℕ, length, get_or, Ok}
use Rattle.std.specs.Coded.{Coded-set, coded_result, coded×, coded_ℕ}
use Rattle.registry.specs.Limits.{most_records}
use Rattle.image.specs.Image.{image_of}
use Rattle.image.specs.Entries.{start_of}
use Rattle.image.specs.Checking.{verdict_of}
use Rattle.image.specs.Index.{Indexed}

pub Indexed-prop : (s : List ℕ) (count : ℕ) (starts : List ℕ) → IsProp (Indexed s count starts)
Indexed-prop s count starts x y =
    λ i. record {
      sound = Coded-set (coded_result coded_ℕ (coded× coded_ℕ coded_ℕ)) (verdict_of (image_of s)) (Ok count) x.sound y.sound i;
      full = Coded-set coded_ℕ (length starts) most_records x.full y.full i;
      start = λ n h. Coded-set coded_ℕ (get_or starts n 0) (start_of s n) (x.start n h) (y.start n h) i;
    }
