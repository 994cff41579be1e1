-- What is written to the list of a batch, one answer after another into the rest of it.
use Prim.Native.Nat.{ℕ, ◌+◌, ◌-◌, ◌≤◌, ◌<◌}
use mathlib.Core.Path.{◌≡◌, ap, subst}
use mathlib.Core.List.{List, [], ◌∷◌}
use native.Mathlib.Omega.{arith}
use borrow.Rule.Slice.PartMut.{put_mid}
use lib.ListN.{length, take, drop}
use Rattle.image.specs.Image.{Image}
use Rattle.output.specs.Writing.{Written, Reached}
use Rattle.output.proofs.Writing.{written_over, written-length, rest-length, at-start, next-part, at-end}
use Rattle.answers.specs.Reply.{Reply, line}
use Rattle.calls.specs.Calls.{answer_in}
use Rattle.batches.specs.Batch.{lines, answers_in}
use Rattle.batches.proofs.Theorem.{stop, no-paths, onward, line-fits, few-answers}
use Rattle.batch_line.specs.Line.{LineWritten}
use Rattle.batch_paths.specs.Answering.{Answering}

-- One answer, with the places counted in the whole list
pub line_in_rest :
    (path : List ℕ) (image : Image) (list ys : List ℕ) (at n : ℕ)
    → LineWritten path image (take (length list - at) (drop at list)) ys n
    → Written (line (answer_in path image (length list - at - 4))) (take (length list - at) (drop at list)) ys n
line_in_rest path image list ys at n l =
    subst (λ (m : ℕ). Written (line (answer_in path image (m - 4))) (take (length list - at) (drop at list)) ys n) (rest-length list at) l

-- All answers: what is written, and what follows for the paths that are left, are the whole

pub record SoFar (image : Image) (paths left : List (List ℕ)) (before list : List ℕ) (answered at : ℕ) : Type 0 where
  pub reached : Reached (lines (answers_in image paths (length before))) (lines (answers_in image left (length before - at))) before list at
  pub room : at ≤ length before
  pub counted : answered + length (answers_in image left (length before - at)) ≡ length (answers_in image paths (length before))

pub nothing_yet : (image : Image) (paths : List (List ℕ)) (list : List ℕ) → SoFar image paths paths list list 0 0
nothing_yet image paths list =
    let z : length list - 0 ≡ length list = omega arith in
    record { reached = rw z (at-start _ list); room = omega arith; counted = rw z (omega arith) }

module _ {image : Image} {paths left : List (List ℕ)} {before list : List ℕ} {answered at : ℕ} (s : SoFar image paths left before list answered at) where
  pub kept-length : length list ≡ length before
  kept-length = written-length s.reached.written s.room

  -- no more answers
  ended : answers_in image left (length before - at) ≡ [] → Answering paths image before list answered
  unfolding lines
  ended e =
      let n = rw e at s.counted in
      record { count = omega arith; list = written_over (at-end (rw e at s.reached)) }

  pub all-answered : left ≡ [] → Answering paths image before list answered
  all-answered h = ended (rw h (no-paths image (length before - at)))

  pub none-fits : length list - at < 4 → Answering paths image before list answered
  none-fits h = ended (stop image left (length before - at) (omega (arith, kept-length)))

  module _ {path : List ℕ} {later : List (List ℕ)} (e : left ≡ path ∷ later) (h : 4 ≤ length list - at) where
    abbrev next : Reply
    next = answer_in path image (length list - at - 4)

    still : answers_in image left (length before - at) ≡ next ∷ answers_in image later (length before - at - length (line next))
    still = rw (e, kept-length) (onward image path later (length before - at) (omega (arith, kept-length)))

    pub path-left : answered < length paths
    path-left = omega (arith, ap length still, s.counted, few-answers image paths (length before))

    pub next_fits : length (line next) ≤ length list - at
    next_fits = line-fits image path (length list - at) h

    pub one_more :
        {ys : List ℕ} {n : ℕ} → Written (line next) (take (length list - at) (drop at list)) ys n
        → SoFar image paths later before (put_mid at (length list - at) list ys) (answered + 1) (at + n)
    unfolding lines
    one_more {ys} {n} l =
        let e : length before - (at + n) ≡ length before - at - length (line next) = omega (arith, l.size) in
        let k = s.room in
        let f = next_fits in
        let q = s.counted in
        let p = ap length still in
        record { reached = rw e (next-part s.reached (record { is = rw still }) l); room = omega (arith, l.size, kept-length); counted = rw e (omega arith) }
