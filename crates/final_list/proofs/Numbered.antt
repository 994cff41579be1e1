-- A record of the final list by its number.
use mathlib.Core.Path.{◌≡◌, sym, ◌∙◌, ap}
use mathlib.Core.List.{List, []}
use Prim.Native.Nat.{ℕ, ◌≤◌, ◌<◌}
use native.Mathlib.Omega.{arith}
use lib.ListN.{drop_of_length-le}
use Rattle.image.specs.Image.{sound, image_of}
use Rattle.image.specs.Part.{records_of}
use Rattle.image.specs.Checking.{verdict_of, numbers_in}
use Rattle.registry.specs.declared.Flaw.{Flaw}
use Rattle.std.specs.Prelude.{Result, Err}
use Rattle.image.proofs.Soundness.{is-defective, verdict_defective}
use Rattle.changes.specs.Change.{Changed, done, refused_at}
use Rattle.merged.specs.declared.Records.{Records}
use Rattle.merged.specs.Listed.{bytes_of_number, listed, MergedIn}
use Rattle.merged.proofs.Numbered.{count-is, entry_at}
use Rattle.final_list.specs.Final.{changed_in, bytes_of_first, record_after, record_in, final_record}

module _ (image changes : List ℕ) (n : ℕ) where
  pub record_defective : (v : Result ℕ Flaw) → numbers_in v ≡ verdict_of (image_of image) → (flaw : Flaw) → v ≡ Err flaw → [] ≡ final_record image changes n
  unfolding final_record
  record_defective v e flaw f = ap (record_in image changes n) (sym (is-defective (image_of image) _ _ (verdict_defective e f)))

  module _ (s : image_of image ≡ sound (records_of (image_of image))) where
    found : (c : Changed) → changed_in image changes (records_of (image_of image)) ≡ c → record_after c n ≡ final_record image changes n
    unfolding final_record
    found c e = sym (ap (record_in image changes n) s ∙ ap (λ (d : Changed). record_after d n) e)

    pub record_refused : (offset : ℕ) → changed_in image changes (records_of (image_of image)) ≡ refused_at offset → [] ≡ final_record image changes n
    record_refused offset e = found (refused_at offset) e

    module _ (m : Records) (o : MergedIn m) (e : changed_in image changes (records_of (image_of image)) ≡ done (listed m)) where
      pub record_none : m.count ≤ n → [] ≡ final_record image changes n
      record_none l =
          let z = drop_of_length-le (listed m) {i = n} (omega (arith, count-is o)) in
          sym (ap bytes_of_first z) ∙ found _ e

      pub record_found : n < m.count → bytes_of_number m n ≡ final_record image changes n
      record_found l = sym (ap bytes_of_first (entry_at o n l)) ∙ found _ e
