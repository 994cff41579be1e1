-- Many paths in one call (S2.5): paths separated by a line feed, each answered as the first call answers it.
use Rattle.std.specs.Prelude.{ℕ, ◌-◌, None, List, [], ◌∷◌, ◌++◌, cond, ltb, length}
use Prim.Native.Char.{code}
use Rattle.octets.specs.Split.{split}
use Rattle.registry.specs.Limits.{most_paths}
use Rattle.image.specs.Image.{Image, sound, defective, image_of}
use Rattle.kinds.specs.declared.Kind.TheVariants as Kind
use Rattle.answers.specs.Reply.{Reply, of_reason, refusal, of_defect, line}
use Rattle.calls.specs.Calls.{answer_in}

-- No feed after the last; an empty text is one empty path.
unfoldable pub paths_of : List ℕ → List (List ℕ)
paths_of text = split (code "\n") text

-- The list gets, for each path, status, reason, kind and count, then its record numbers; a refused path adds none.
unfoldable pub lines : List Reply → List ℕ
lines [] = []
lines (reply ∷ replies) = line reply ++ lines replies

-- Each answer equals that of a single call whose list is the places left after its four numbers. If fewer than four places are left, it stops.
unfoldable pub answers_in : Image → List (List ℕ) → ℕ → List Reply
answers_in image [] room = []
answers_in image (path ∷ paths) room =
    let reply : Reply = answer_in path image (room - 4) in
    let rest : List Reply = answers_in image paths (room - length (line reply)) in
    cond (ltb room 4) [] (reply ∷ rest)

-- The call's own reason is 0, with the number of paths answered as count; its own kind is always 0.
unfoldable pub of_answers : List Reply → Reply
of_answers replies = of_reason 0 None (length replies) (lines replies)

-- A bad image gives the call reason 2, more than 64 paths reason 10, checked after it; both write nothing.
unfoldable pub batch_in : List (List ℕ) → Image → ℕ → Reply
batch_in paths (defective defect place) room = of_defect defect place
batch_in paths (sound records) room = cond (ltb most_paths (length paths)) (refusal 10) (of_answers (answers_in (sound records) paths room))

-- `records` of the reply are all the numbers that are written; places after the last answer are unchanged, as `list_after` says of every call.
unfoldable pub batch_of : List ℕ → List ℕ → ℕ → Reply
batch_of text image room = batch_in (paths_of text) (image_of image) room
