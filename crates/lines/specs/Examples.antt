-- Lines, run on the definition: on the image of S13.3 and on registry S.
use Rattle.std.specs.Prelude.{ℕ, ◌≡◌, refl, List, [], ◌∷◌, map}
use Prim.Native.String.{String}
use Rattle.octets.specs.Ascii.{ascii}
use Rattle.image.specs.Example.{example}
use Rattle.calls.specs.Calls.{answer_of}
use Rattle.calls.specs.Cases.{registry_s}
use Rattle.line_text.specs.Line.{line_text}
use Rattle.lines.specs.Computing.{computing}

record Case : Type 0 where
  image : List ℕ
  path : String
  -- places of the list
  room : ℕ
  text : String

unfoldable cases : List Case
cases =
    record { image = example; path = "/autnum/12"; room = 4096; text = "200 0 2 1 0\n" }
    ∷ record { image = example; path = "/autnum/11"; room = 4096; text = "404 8 2 0\n" }
    ∷ record { image = example; path = "/help"; room = 4096; text = "200 0 6 0\n" }
    ∷ record { image = example; path = ""; room = 4096; text = "400 3 0 0\n" }
    ∷ record { image = []; path = "/help"; room = 4096; text = "500 2 0 0\n" }
    ∷ record { image = registry_s; path = "/ips/rirSearch1/bottom/192.0.2.0/24"; room = 4096; text = "200 0 8 5 1 2 3 5 6\n" }
    ∷ record { image = registry_s; path = "/ips/rirSearch1/bottom/192.0.2.0/24"; room = 3; text = "507 9 8 5\n" }
    ∷ []

lines_hold : map (λ (c : Case). line_text (answer_of (ascii c.path) c.image c.room)) cases ≡ map (λ (c : Case). ascii c.text) cases
unfolding cases registry_s computing
lines_hold = refl
