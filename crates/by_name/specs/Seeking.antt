-- Serves contracts and proofs. The search by halves for a text: where it may be used, and what it promises.
use Rattle.std.specs.Prelude.{ℕ, ◌≤◌, ◌≡◌, List}
use Rattle.std.specs.Option.{option_to_list}
use Rattle.registry.specs.Tags.{domain, entity, nameserver}
use Rattle.registry.specs.declared.Text.{Text}
use Rattle.registry.specs.declared.Text.TheVariants.{Handle, Host}
use Rattle.image.specs.declared.Run.{Run}
use Rattle.search.specs.Picks.{called_in}
use Rattle.by_name.specs.declared.Sought.{Sought}

-- S4.6: the records with the tags from low to high are sorted by this text.
pub data SortedBy : (low high : ℕ) → Text → Type 0 where
  domains : SortedBy domain domain Host
  nameservers : SortedBy nameserver nameserver Host
  entities : SortedBy entity entity Handle

-- 13 comparisons always end the search, with the answer of a full reading.
pub record SoughtIn (image : List ℕ) (run : Run) (text : Text) (wanted : List ℕ) (r : Sought) : Type 0 where
  pub bounded : r.steps ≤ 13
  pub answer : option_to_list r.found ≡ called_in image run text wanted
