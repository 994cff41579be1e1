-- The call on a sound image, by the number of paths.
use Rattle.std.specs.Prelude.{None}
use Prim.Native.Nat.{ℕ, ◌≤◌, ◌<◌}
use mathlib.Core.Path.{◌≡◌, refl, subst, ◌∙◌}
use mathlib.Core.List.{List, []}
use borrow.Author.Tests.{lt-ltb, le-ltb}
use lib.ListN.{length}
use Rattle.registry.specs.Limits.{most_paths}
use Rattle.image.specs.Image.{Image, image_of}
use Rattle.image.specs.Checking.{verdict_of}
use Rattle.std.specs.Prelude.{Ok}
use Rattle.image.proofs.Soundness.{is-sound}
use Rattle.kinds.specs.declared.Kind.TheVariants as Kind
use Rattle.answers.specs.declared.Answer.{Answer}
use Rattle.answers.specs.Reply.{of_reason, refusal, list_after}
use Rattle.answers.specs.Answered.{reply_of, Answered}
use Rattle.answers.proofs.Replying.{refused-is}
use Rattle.calls.proofs.Asking.{on_sound}
use Rattle.batches.specs.Batch.{of_answers, batch_in}
use Rattle.batch_paths.specs.Answering.{Answering}

pub many_paths :
    (paths : List (List ℕ)) (image list : List ℕ) (count : ℕ) {r : Answer} → most_paths < length paths → verdict_of (image_of image) ≡ Ok count
    → reply_of r [] ≡ of_reason 10 None 0 [] → Answered (batch_in paths (image_of image) (length list)) r list list
unfolding batch_in refusal of_reason
many_paths paths image list count h v e =
    on_sound (λ (i : Image). batch_in paths i (length list)) (image_of image) v (rw (lt-ltb most_paths (length paths) h) (refused-is refl e))

pub paths-answered :
    (paths : List (List ℕ)) (image list : List ℕ) (count : ℕ) {r : Answer} {after : List ℕ} {n : ℕ} → length paths ≤ most_paths → verdict_of (image_of image) ≡ Ok count
    → Answering paths (image_of image) list after n → ((records : List ℕ) → reply_of r records ≡ of_reason 0 None n records)
    → Answered (batch_in paths (image_of image) (length list)) r list after
unfolding batch_in of_answers of_reason list_after
paths-answered paths image list count {after = after} {n} h v w k =
    let s = subst (λ (i : Image). Answering paths i list after n) (is-sound (image_of image) count v) w in
    on_sound (λ (i : Image). batch_in paths i (length list)) (image_of image) v
    (rw (le-ltb most_paths (length paths) h) (record { numbers = k _ ∙ rw s.count; list = s.list }))
