-- What the functions for C write: the numbers of a reply (S3.1), of a part of the image, of the prefixes of a range, of a fold, and of the text of an address.
use Rattle.std.specs.Prelude.{ℕ, ◌-◌, List, [], ◌∷◌, Result, Ok, Err}
use Rattle.output.specs.declared.WriteError.{WriteError}
use Rattle.output.specs.declared.WriteError.TheVariants.{Malformed, NoRoom}
use Rattle.records.specs.declared.Span.{Span}
use Rattle.answers.specs.Reply.{Reply}
use Rattle.changes.specs.Fold.{Folding}

-- status, reason, kind, relation, count, defect, place
unfoldable pub numbers_of : Reply → List ℕ
numbers_of reply = reply.status ∷ reply.reason ∷ reply.kind ∷ reply.relation ∷ reply.count ∷ reply.defect ∷ reply.place ∷ []

-- offset, length
unfoldable pub part_numbers : Span → List ℕ
part_numbers span = span.start ∷ (span.end - span.start) ∷ []

-- reason, count
abbrev pub counted_numbers : Result ℕ WriteError → List ℕ
counted_numbers (Ok count) = 0 ∷ count ∷ []
counted_numbers (Err Malformed) = 6 ∷ 0 ∷ []
counted_numbers (Err (NoRoom needed)) = 9 ∷ needed ∷ []

-- reason, count, defect, place, offset
abbrev pub folding_numbers : Folding → List ℕ
folding_numbers f = f.reason ∷ f.count ∷ f.defect ∷ f.place ∷ f.offset ∷ []
