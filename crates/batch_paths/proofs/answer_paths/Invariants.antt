-- What was written, and what follows for the paths that are left, are the whole (SoFar in Answering.antt).
use lib.ListN.{length, drop}
use Rattle.image.specs.Image.{image_of}
use Rattle.batches.specs.Batch.{paths_of}
use Rattle.batch_paths.proofs.Answering.{SoFar}
use Rattle.batch_paths.proofs.answer_paths.Given as goal

abbrev pub invariant-loop-path : goal.invariant-loop-path
invariant-loop-path l = SoFar (image_of l.image.bytes.now) (paths_of l.text) (drop (length l.yielded) (paths_of l.text)) l.initial.list l.list l.answered l.at
