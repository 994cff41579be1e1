-- The answers of a batch: each is that of a single call, they fit, and they stop only where fewer than four places are left.
use Prim.Native.Nat.{ℕ, zero, suc, ◌+◌, ◌-◌, ◌*◌, ◌≤◌, ◌<◌}
use mathlib.Core.Bool.{Bool, true, false, cond}
use mathlib.Core.Path.{◌≡◌, refl, sym, ap, ◌∙◌}
use mathlib.Core.List.{List, [], ◌∷◌, ◌++◌, append_assoc}
use native.Mathlib.Omega.{arith}
use native.Mathlib.Decide.{dec_le}
use borrow.Author.Tests.{ltb-true, ltb-false, lt-ltb, le-ltb}
use lib.Dec.{ltb}
use lib.ListN.{length, get_or, take, drop, length-append, length-drop}
use lib.Seq.{take-length}
use Rattle.registry.specs.Limits.{most_paths}
use Rattle.image.specs.Image.{Image, sound, defective, image_of}
use Rattle.answers.specs.Reply.{Reply, of_reason, refusal, of_defect, line, list_after}
use Rattle.calls.specs.Calls.{answer_in, answer_of}
use Rattle.calls.proofs.Replies.{first-consistent, first-few, fits, counts_them, replies}
use Rattle.batches.specs.Batch.{paths_of, lines, answers_in, of_answers, batch_in, batch_of}
use Rattle.batches.specs.Batches.{Batches}

pub length-line : (r : Reply) → length (line r) ≡ 4 + length r.records
unfolding line
length-line r = omega arith

module _ (image : Image) where
  -- the answer of the first path, and the places that it leaves
  abbrev first : List ℕ → ℕ → Reply
  first path room = answer_in path image (room - 4)

  abbrev left : List ℕ → ℕ → ℕ
  left path room = room - length (line (first path room))

  pub no-paths : (room : ℕ) → answers_in image [] room ≡ []
  unfolding answers_in
  no-paths room = refl

  pub stop : (paths : List (List ℕ)) (room : ℕ) → room < 4 → answers_in image paths room ≡ []
  unfolding answers_in
  stop [] room h = refl
  stop (path ∷ paths) room h = rw (lt-ltb room 4 h)

  pub onward :
      (path : List ℕ) (paths : List (List ℕ)) (room : ℕ) → 4 ≤ room
      → answers_in image (path ∷ paths) room ≡ first path room ∷ answers_in image paths (left path room)
  unfolding answers_in
  onward path paths room h = ap (λ (t : Bool). cond t [] (first path room ∷ answers_in image paths (left path room))) (le-ltb room 4 h)

  -- What holds of no answers, where there are no paths or fewer than four places, and goes on from answers to one more before them, holds of all.
  module _
      (P : List (List ℕ) → ℕ → List Reply → Type 0)
      (none : (room : ℕ) → P [] room [])
      (full : (paths : List (List ℕ)) (room : ℕ) → room < 4 → P paths room [])
      (more : (path : List ℕ) (paths : List (List ℕ)) (room : ℕ) (replies : List Reply) → 4 ≤ room → P paths (left path room) replies → P (path ∷ paths) room (first path room ∷ replies))
    where
      by-answers : (paths : List (List ℕ)) (room : ℕ) → P paths room (answers_in image paths room)
      by-answers [] room = rw (no-paths room) (none room)
      by-answers (path ∷ paths) room = go (ltb room 4) refl (by-answers paths (left path room))
        where
          go : (t : Bool) → ltb room 4 ≡ t → P paths (left path room) (answers_in image paths (left path room)) → P (path ∷ paths) room (answers_in image (path ∷ paths) room)
          go true e p = rw (stop (path ∷ paths) room (ltb-true room 4 e)) (full (path ∷ paths) room (ltb-true room 4 e))
          go false e p = rw (onward path paths room (ltb-false room 4 e)) (more path paths room _ (ltb-false room 4 e) p)

  -- an answer fits into the places that are left
  pub line-fits : (path : List ℕ) (room : ℕ) → 4 ≤ room → length (line (first path room)) ≤ room
  line-fits path room h = omega (arith, length-line (first path room), fits (first-consistent path image (room - 4)))

  pub few-answers : (paths : List (List ℕ)) (room : ℕ) → length (answers_in image paths room) ≤ length paths
  few-answers =
      by-answers (λ paths room replies. length replies ≤ length paths) (λ room. omega arith) (λ paths room h. omega arith)
      (λ path paths room replies h p. omega arith)

  -- together they fit
  lines_fit : (paths : List (List ℕ)) (room : ℕ) → length (lines (answers_in image paths room)) ≤ room
  unfolding lines
  lines_fit =
      by-answers (λ paths room replies. length (lines replies) ≤ room) (λ room. omega arith) (λ paths room h. omega arith)
      (λ path paths room replies h p. rw (length-append (line (first path room)) (lines replies)) (omega (arith, line-fits path room h)))

  -- paths are left only where fewer than four places are
  stopped : (paths : List (List ℕ)) (room : ℕ) → length (answers_in image paths room) < length paths → room < length (lines (answers_in image paths room)) + 4
  unfolding lines
  stopped =
      by-answers (λ paths room replies. length replies < length paths → room < length (lines replies) + 4) (λ room k. absurd (omega arith)) (λ paths room h k. omega arith)
      (λ path paths room replies h p k.
      let n = p (omega arith) in
      rw (length-append (line (first path room)) (lines replies)) (omega (arith, line-fits path room h)))

  -- the i-th answer stands after the earlier ones
  record At (paths : List (List ℕ)) (room : ℕ) (replies : List Reply) (i : ℕ) : Type 0 where
    fits : length (lines (take i replies)) + 4 ≤ room
    stands :
        lines replies
        ≡ lines (take i replies) ++ (line (answer_in (get_or paths i []) image (room - length (lines (take i replies)) - 4)) ++ lines (drop (suc i) replies))

  here : (path : List ℕ) (paths : List (List ℕ)) (room : ℕ) (replies : List Reply) → 4 ≤ room → At (path ∷ paths) room (first path room ∷ replies) zero
  unfolding lines
  here path paths room replies h = let z : room - 0 ≡ room = omega arith in record { fits = omega arith; stands = rw z }

  further :
      (path : List ℕ) (paths : List (List ℕ)) (room : ℕ) (replies : List Reply) (i : ℕ) → 4 ≤ room → At paths (left path room) replies i
      → At (path ∷ paths) room (first path room ∷ replies) (suc i)
  unfolding lines
  further path paths room replies i h a =
      let own : List ℕ = line (first path room) in
      let before : List ℕ = lines (take i replies) in
      let n = length-append own before in
      let r = a.fits in
      let z : room - length (own ++ before) - 4 ≡ left path room - length before - 4 = omega arith in
      record {
        fits = omega arith;
        stands =
            rw z
            (ap (λ (rest : List ℕ). own ++ rest) a.stands
            ∙ sym (append_assoc own before (line (answer_in (get_or paths i []) image (left path room - length before - 4)) ++ lines (drop (suc i) replies))));
      }

  answer_at : (paths : List (List ℕ)) (room i : ℕ) → i < length (answers_in image paths room) → At paths room (answers_in image paths room) i
  answer_at =
      by-answers (λ paths room replies. (i : ℕ) → i < length replies → At paths room replies i) (λ room i k. absurd (omega arith)) (λ paths room h i k. absurd (omega arith)) one_more
    where
      one_more :
          (path : List ℕ) (paths : List (List ℕ)) (room : ℕ) (replies : List Reply) → 4 ≤ room → ((i : ℕ) → i < length replies → At paths (left path room) replies i)
          → (i : ℕ) → i < suc (length replies) → At (path ∷ paths) room (first path room ∷ replies) i
      one_more path paths room replies h p zero k = here path paths room replies h
      one_more path paths room replies h p (suc i) k = further path paths room replies i h (p i (omega arith))

-- Of an image's answers none is longer than 4,100 places
lines-few : (image : List ℕ) (paths : List (List ℕ)) (room i : ℕ) → length (lines (take i (answers_in (image_of image) paths room))) ≤ 4100 * i
unfolding lines
lines-few image =
    by-answers (image_of image) (λ paths room replies. (i : ℕ) → length (lines (take i replies)) ≤ 4100 * i) (λ room. nothing) (λ paths room h. nothing) one_more
  where
    nothing : (i : ℕ) → length (lines (take i [])) ≤ 4100 * i
    nothing zero = omega arith
    nothing (suc i) = omega arith

    one_more :
        (path : List ℕ) (paths : List (List ℕ)) (room : ℕ) (replies : List Reply) → 4 ≤ room → ((i : ℕ) → length (lines (take i replies)) ≤ 4100 * i)
        → (i : ℕ) → length (lines (take i (first (image_of image) path room ∷ replies))) ≤ 4100 * i
    one_more path paths room replies h p zero = omega arith
    one_more path paths room replies h p (suc i) =
        let r : Reply = first (image_of image) path room in
        rw (length-append (line r) (lines (take i replies)))
        (omega (arith, p i, length-line r, counts_them (first-consistent path (image_of image) (room - 4)), first-few path image (room - 4)))

-- The call, by the verdict on the image and the number of paths: a refusal, or the answers of a sound image

data Outcome (image : Image) (paths : List (List ℕ)) (room : ℕ) : Reply → Type 0 where
  refuses : {reply : Reply} → 1 ≤ reply.reason → reply.count ≡ 0 → reply.records ≡ [] → Outcome image paths room reply
  answers : length paths ≤ most_paths → Outcome image paths room (of_answers (answers_in image paths room))

outcome : (image : Image) (paths : List (List ℕ)) (room : ℕ) → Outcome image paths room (batch_in paths image room)
unfolding batch_in of_defect refusal of_reason
outcome (defective defect place) paths room = refuses {reply = of_defect defect place} (omega arith) refl refl
outcome (sound records) paths room = go (ltb most_paths (length paths)) refl
  where
    go : (t : Bool) → ltb most_paths (length paths) ≡ t → Outcome (sound records) paths room (cond t (refusal 10) (of_answers (answers_in (sound records) paths room)))
    go true e = refuses {reply = refusal 10} (omega arith) refl refl
    go false e = answers (ltb-false most_paths (length paths) e)

module _ {image : Image} {paths : List (List ℕ)} {room : ℕ} where
  each_in :
      {reply : Reply} → Outcome image paths room reply → (i : ℕ) → i < reply.count
      → At image paths room (answers_in image paths room) i × (reply.records ≡ lines (answers_in image paths room))
  unfolding of_answers of_reason
  each_in (refuses r c e) i h = absurd (omega arith)
  each_in (answers few) i h = (answer_at image paths room i h, refl)

  stopped_in : {reply : Reply} → Outcome image paths room reply → reply.reason ≡ 0 → reply.count < length paths → room < length reply.records + 4
  unfolding of_answers of_reason
  stopped_in (refuses r c e) z h = absurd (omega arith)
  stopped_in (answers few) z h = stopped image paths room h

  few_in : {reply : Reply} → Outcome image paths room reply → reply.count ≤ most_paths
  unfolding of_answers of_reason
  few_in (refuses r c e) = omega arith
  few_in (answers few) = omega (arith, few-answers image paths room)

  -- no more answers than paths
  count-few : {reply : Reply} → Outcome image paths room reply → reply.count ≤ length paths
  unfolding of_answers of_reason
  count-few (refuses r c e) = omega arith
  count-few (answers few) = few-answers image paths room

  written_in : {reply : Reply} → Outcome image paths room reply → length reply.records ≤ room
  unfolding of_answers of_reason
  written_in (refuses r c e) = rw e (omega arith)
  written_in (answers few) = lines_fit image paths room

  all_in :
      {reply : Reply} → Outcome image paths room reply → length (lines (take (length (answers_in image paths room)) (answers_in image paths room))) ≤ 4100 * length (answers_in image paths room)
      → 4100 * length paths ≤ room → reply.reason ≡ 0 → reply.count ≡ length paths
  unfolding of_answers of_reason
  all_in (refuses r c e) l h z = absurd (omega arith)
  all_in (answers few) l h z = go (dec_le (length paths) (length (answers_in image paths room)))
    where
      go : Dec (length paths ≤ length (answers_in image paths room)) → length (answers_in image paths room) ≡ length paths
      go (yes k) = omega (arith, few-answers image paths room)
      go (no k) = let t = rw (take-length (answers_in image paths room)) at l in absurd (omega (arith, stopped image paths room (omega arith)))

pub batches : Batches
unfolding batch_of answer_of list_after
batches =
    record {
      each = λ text image room i h.
          let e = each_in (outcome (image_of image) (paths_of text) room) i h in
          record { fits = e.0.fits; stands = e.1 ∙ e.0.stands };
      stopped = λ text image room z h. stopped_in (outcome (image_of image) (paths_of text) room) z h;
      enough = λ text image room h z.
          all_in (outcome (image_of image) (paths_of text) room) (lines-few image (paths_of text) room (length (answers_in (image_of image) (paths_of text) room))) h z;
      enough-each = λ text image room i h k.
          let all = count-few (outcome (image_of image) (paths_of text) room) in
          replies.roomy (get_or (paths_of text) i []) image _ (omega (arith, lines-few image (paths_of text) room i));
      few = λ text image room. few_in (outcome (image_of image) (paths_of text) room);
      list_length = λ text image list.
          let h = written_in (outcome (image_of image) (paths_of text) (length list)) in
          simp (length-append, length-drop) (omega arith);
    }
