-- The form of a pattern s, whose first piece is j bytes long, from the first piece of the rest q that follows the asterisk there.
use mathlib.Core.Path.{◌≡◌}
use mathlib.Core.Bool.{Bool, true, false}
use mathlib.Core.List.{List}
use Prim.Native.Nat.{ℕ, ◌+◌, ◌≤◌, ◌<◌}
use Prim.Native.Char.{code}
use lib.ListN.{length, drop}
use lib.Seq.{length-take-le}
use Rattle.octets.specs.Split.{split, FirstPiece}
use Rattle.octets.proofs.Pieces.{split-cons}
use Rattle.pattern.specs.Pattern.{is_suffix, form_of}
use Rattle.std.specs.Prelude.{Ok, Err}
use Rattle.pattern.specs.declared.Form.TheVariants.{Exact, Asterisk}
use Rattle.pattern.specs.declared.PatternError.TheVariants.{Unsupported}

module _ (host : Bool) (s : List ℕ) (j : ℕ) (first : FirstPiece (code "*") s j) where
  pub form_exact : length s ≤ j → Ok Exact ≡ form_of host (split (code "*") s)
  unfolding form_of
  form_exact h = rw (first.last h)

  module _ (more : j < length s) (q : List ℕ) (e : q ≡ drop (j + 1) s) (k : ℕ) (second : FirstPiece (code "*") q k) where
    pub form_many : k < length q → Err Unsupported ≡ form_of host (split (code "*") s)
    unfolding form_of
    form_many h =
        let (p, ps, d) = split-cons (code "*") (drop (k + 1) q) in
        rw (first.more more, ← e, second.more h, d)

    module _ (h : length q ≤ k) where
      pub form_one : is_suffix host q ≡ true → Ok (Asterisk j) ≡ form_of host (split (code "*") s)
      unfolding form_of
      form_one d = rw (first.more more, ← e, second.last h, d, length-take-le j s first.fits)

      pub form_other : is_suffix host q ≡ false → Err Unsupported ≡ form_of host (split (code "*") s)
      unfolding form_of
      form_other d = rw (first.more more, ← e, second.last h, d)
