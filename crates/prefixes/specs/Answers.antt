-- What is shown of the answers (S14.7).
use Rattle.std.specs.Prelude.{ℕ, ◌*◌, ◌≡◌, List, Some}
use Rattle.octets.specs.Number.{Bytes}
use Rattle.cidr.specs.Shortest.{Shortest}
use Rattle.prefixes.specs.Call.{IpRange, ip_range_of, prefixes_in}

-- Of every range that is no reason 6, the prefixes are the shortest list that holds it. Proved in proofs/Answers.antt.
abbrev pub AnswersShortest : Type 0
AnswersShortest = (range : List ℕ) (a : IpRange) → Bytes range → ip_range_of range ≡ Some a → Shortest (8 * a.width) a.range (prefixes_in a)
