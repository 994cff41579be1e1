-- What the call answers, and the whole buffer afterwards (S2.8).
use Rattle.std.specs.Prelude.{◌≡◌, List, [], ◌∷◌, ℕ, length, Result, Ok, Err}
use Rattle.registry.specs.Defects.{defect_number}
use Rattle.output.specs.Writing.{over}
use Rattle.changes.specs.Fold.{Folding, finished}
use Rattle.image.specs.Image.{image_of}
use Rattle.final_image.specs.declared.FoldError.{FoldError}
use Rattle.final_image.specs.declared.FoldError.TheVariants.{Image, NoRoom, Change, Final}

-- the numbers of an answer: reason, count, defect, place, offset
abbrev pub folded_of : Folding → List ℕ
folded_of f = f.reason ∷ f.count ∷ f.defect ∷ f.place ∷ f.offset ∷ []

-- the code's answer in these numbers
abbrev pub folded_in : Result ℕ FoldError → List ℕ
folded_in (Ok count) = 0 ∷ count ∷ 0 ∷ 0 ∷ 0 ∷ []
folded_in (Err (Image flaw)) = 2 ∷ 0 ∷ defect_number flaw.defect ∷ flaw.place ∷ 0 ∷ []
folded_in (Err (NoRoom needed)) = 9 ∷ needed ∷ 0 ∷ 0 ∷ 0 ∷ []
folded_in (Err (Change offset)) = 11 ∷ 0 ∷ 0 ∷ 0 ∷ offset ∷ []
folded_in (Err (Final flaw)) = 12 ∷ 0 ∷ defect_number flaw.defect ∷ flaw.place ∷ 0 ∷ []

-- the buffer: what was written, then what it held before
abbrev pub out_after : Folding → List ℕ → List ℕ
out_after f out = over f.written out

pub record Gives (f : Folding) (before after : List ℕ) (r : Result ℕ FoldError) : Type 0 where
  pub numbers : folded_in r ≡ folded_of f
  pub out : after ≡ out_after f before

-- the final image judged as a whole
abbrev pub Finished : List ℕ → List ℕ → List ℕ → Result ℕ FoldError → Type 0
Finished out before after r = Gives (finished out (length before) (image_of out)) before after r
